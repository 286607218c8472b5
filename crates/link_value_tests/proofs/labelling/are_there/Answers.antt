use Rattle.std.proofs.Common.{◌∙◌, ℕ, ap, sym}
use Rattle.std.specs.Prelude.{nat_lt}
use Rattle.std.specs.List.{list_all}
use Rattle.link_types.specs.declared.labels.LabelledType.{LabelledType}
use Rattle.link_value_tests.proofs.There.{types_there}
use Rattle.link_value_tests.proofs.labelling.are_there.Goals as goal

pub returns : goal.returns
returns c h =
    types_there c.args.types.now.values c.args.params.now
    (ap (λ (n : ℕ). list_all (λ (p : LabelledType). nat_lt p.val_type n) c.args.params.now) (sym c.value_count.ensures) ∙ sym c.all_below.ensures ∙ h)
