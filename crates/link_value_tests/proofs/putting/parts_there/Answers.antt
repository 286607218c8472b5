use Rattle.std.proofs.Common.{◌∙◌, ℕ, ap, sym}
use Rattle.std.specs.List.{list_all}
use Rattle.link_value_tests.specs.There.{is_there}
use Rattle.link_value_tests.proofs.There.{each_there}
use Rattle.link_value_tests.proofs.putting.parts_there.Goals as goal

pub returns : goal.returns
returns c h =
    each_there c.args.types.now c.args.parts.now
    (ap (λ (n : ℕ). list_all (λ x. is_there n x) c.args.parts.now) (sym c.len.ensures) ∙ sym c.all_there.ensures ∙ h)
