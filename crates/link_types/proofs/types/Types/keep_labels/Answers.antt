use Rattle.std.proofs.Common.{◌∙◌}
use Rattle.link_types.proofs.TypesGrow.{grows_trans}
use Rattle.link_types.proofs.types.Types.keep_labels.Goals as goal

pub loop-label-preserved : goal.loop-label-preserved
loop-label-preserved c =
    (c.keep_label.ensures.values ∙ c.loop-label.invariant.0, grows_trans c.args.self.now c.loop-label.self c.keep_label.new.self c.loop-label.invariant.1 c.keep_label.ensures.grows)
