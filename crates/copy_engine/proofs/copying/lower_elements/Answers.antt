-- The elements are of their type, or not.
use Rattle.value_lower.specs.Tables.{IsEntry}
use Rattle.copy_engine.specs.Answering.{setting_of}
use Rattle.copy_engine.proofs.Transfers.{all_lower, none_lower}
use Rattle.copy_engine.proofs.copying.lower_elements.Goals as goal

pub returns-then-all_fit : goal.returns-then-all_fit
returns-then-all_fit g c =
    all_lower g.E.Entry.view (IsEntry g.E.Entry.made g.E.Entry.made_end c.args.to.now.home.task c.args.element.now.types) (setting_of c.args.to.now) c.args.to.now.home.resources.now c.args.element.now.val_type c.args.place
    c.args.values c.all_fit.result _ _ c.lower_all.result c.all_fit.ensures.value c.if-all_fit.true c.lower_all.ensures

pub returns-else-all_fit : goal.returns-else-all_fit
returns-else-all_fit g c =
    none_lower g.E.Entry.view (IsEntry g.E.Entry.made g.E.Entry.made_end c.args.to.now.home.task c.args.element.now.types) (setting_of c.args.to.now) c.args.to.now.home.resources.now c.args.element.now.val_type c.args.place
    c.args.values c.all_fit.result _ c.all_fit.ensures.value c.if-all_fit.false
