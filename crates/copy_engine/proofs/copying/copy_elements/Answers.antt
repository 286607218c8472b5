-- What is lifted is lowered, or lifting stops.
use Rattle.value_lift.specs.Over.{load_list_by}
use Rattle.value_lift.specs.Tables.{by_table, at_first}
use Rattle.value_lower.specs.Tables.{IsEntry}
use Rattle.copy_engine.specs.Nested.{bytes_in}
use Rattle.copy_engine.specs.Answering.{setting_of}
use Rattle.copy_engine.proofs.Transfers.{fault_given, lifted_copies, stopped_copies}
use Rattle.copy_engine.proofs.copying.copy_elements.Goals as goal

pub returns-in-Ok : goal.returns-in-Ok
returns-in-Ok g c =
    lifted_copies g.E.Entry.view (IsEntry g.E.Entry.made g.E.Entry.made_end c.args.to.now.home.task c.args.element.now.types) (setting_of c.args.to.now) c.args.to.now.home.resources.now c.args.element.now.val_type
    c.args.place
    (load_list_by (by_table g.E.Entry.view g.E.Entry.made g.E.Entry.end_type c.args.element.now.types) c.args.element.now.val_type (bytes_in c.args.from.memory c.args.store.now) c.args.from.place c.args.count
    (at_first 134217728 c.args.out.now.slots c.args.moved.now)) c.in-Ok.values c.lift_elements.new.out.slots c.lift_elements.new.moved _ _ c.lower_elements.result c.in-Ok.ensures c.lower_elements.ensures

pub returns-in-Err-Fault : goal.returns-in-Err-Fault
returns-in-Err-Fault g c =
    rw c.in-Err-Fault.trap-is
    (stopped_copies g.E.Entry.view (IsEntry g.E.Entry.made g.E.Entry.made_end c.args.to.now.home.task c.args.element.now.types) (setting_of c.args.to.now) c.args.to.now.home.resources.now c.args.element.now.val_type
    c.args.place
    (load_list_by (by_table g.E.Entry.view g.E.Entry.made g.E.Entry.end_type c.args.element.now.types) c.args.element.now.val_type (bytes_in c.args.from.memory c.args.store.now) c.args.from.place c.args.count
    (at_first 134217728 c.args.out.now.slots c.args.moved.now)) c.in-Err-Fault.trap c.lift_elements.new.out.slots c.lift_elements.new.moved _
    (fault_given _ c.lift_elements.new.out.slots c.lift_elements.new.moved c.in-Err-Fault.field-0 c.in-Err-Fault.trap c.in-Err-Fault.field-0-is c.in-Err-Fault.ensures))
