-- What is followed over what is taken out is followed over what it is taken of.
use Rattle.value_lower.specs.Tables.{IsEntry}
use Rattle.copy_engine.specs.Answering.{setting_of}
use Rattle.copy_engine.specs.Hosted.{plan_all}
use Rattle.copy_engine.proofs.Placing.{lowers_to}
use Rattle.copy_engine.proofs.lower_values.lower_list.Goals as goal

pub returns : goal.returns
returns g c =
    lowers_to g.E.Entry.view (IsEntry g.E.Entry.made g.E.Entry.made_end c.args.to.now.home.task c.args.t.now.types) (plan_all c.args.t.now.val_type c.args.values.now c.args.place c.args.to.now.home.resources.now)
    (setting_of c.args.to.now) _ c.taken_out-room.result c.no_words_in-words.new.room _ _ c.taken_table-table.result.slots c.args.handles.now.slots c.no_words_in-words.new.beside.handles.slots c.no_words_in-words.result c.lowered_of.result
    c.taken_out-room.ensures c.put_back.ensures c.taken_table-table.ensures c.no_words_in-words.ensures c.lowered_of.ensures
