-- Each kind is lowered by its call.
use Rattle.std.proofs.Common.{ap}
use Rattle.value_lower.specs.declared.new_entry.NewEntry.{NewEntry}
use Rattle.value_lower.specs.Entries.{new_of}
use Rattle.value_lower.proofs.Lowered.{own_is, borrow_is, end_is}
use Rattle.value_lower.proofs.by_table.lower_entry.Goals as goal

pub returns-in-Own : goal.returns-in-Own
returns-in-Own g c =
    let type = c.args.t.now.val_type in
    own_is g.E.Entry.made g.E.Entry.made_end c.args.home.now.task c.args.t.now.types c.args.home.now.resources.now (new_of c.args.entry type) c.in-Own.handle.resource c.in-Own.handle.rep
    c.args.handles.now c.lower_own.new.table c.lower_own.result (ap (λ (e : NewEntry). new_of e type) c.in-Own.is) c.lower_own.ensures.exact

pub returns-in-Borrow : goal.returns-in-Borrow
returns-in-Borrow g c =
    let type = c.args.t.now.val_type in
    borrow_is g.E.Entry.made g.E.Entry.made_end c.args.home.now.task c.args.t.now.types c.args.home.now.resources.now (new_of c.args.entry type) c.in-Borrow.handle.resource c.in-Borrow.handle.rep
    c.args.handles.now c.lower_borrow.new.table c.lower_borrow.result (ap (λ (e : NewEntry). new_of e type) c.in-Borrow.is) c.lower_borrow.ensures.at_home c.lower_borrow.ensures.exact

pub returns-in-End : goal.returns-in-End
returns-in-End g c =
    let type = c.args.t.now.val_type in
    end_is g.E.Entry.made g.E.Entry.made_end c.args.home.now.task c.args.t.now.types c.args.home.now.resources.now (new_of c.args.entry type) type c.in-End.number c.number-end_type.result
    c.args.handles.now c.lower_end.new.table c.lower_end.result (ap (λ (e : NewEntry). new_of e type) c.in-End.is) c.number-end_type.ensures.there c.lower_end.ensures.exact
