-- An index with which plans go on, or the table is full.
use Rattle.value_lower.specs.Entries.{new_of}
use Rattle.value_lower.specs.Tables.{IsEntry}
use Rattle.copy_engine.specs.Answering.{setting_of}
use Rattle.copy_engine.proofs.Placing.{entry_goes, entry_fails}
use Rattle.copy_engine.proofs.seen_table.SeenTableBesideHostedRoom.enter.Goals as goal

pub returns-in-Ok-clause-follows : goal.returns-in-Ok-clause-follows
returns-in-Ok-clause-follows g c = λ k.
    entry_goes g.E.Entry.view (IsEntry g.E.Entry.made g.E.Entry.made_end c.args.home.now.task c.args.t.now.types) c.args.home.now.resources.now
    (new_of c.args.entry c.args.t.now.val_type) k (setting_of c.args.self.now.to) c.args._room.now c.args.self.now.handles.slots c.lower_entry.new.handles.slots c.in-Ok.index c.in-Ok.ensures

pub returns-in-Err-TableFull-clause-follows : goal.returns-in-Err-TableFull-clause-follows
returns-in-Err-TableFull-clause-follows g c = λ k.
    entry_fails g.E.Entry.view (IsEntry g.E.Entry.made g.E.Entry.made_end c.args.home.now.task c.args.t.now.types) c.args.home.now.resources.now
    (new_of c.args.entry c.args.t.now.val_type) k (setting_of c.args.self.now.to) c.args._room.now c.args.self.now.handles.slots c.lower_entry.new.handles.slots c.in-Err-TableFull.field-0 c.in-Err-TableFull.field-0-is
    c.in-Err-TableFull.ensures
