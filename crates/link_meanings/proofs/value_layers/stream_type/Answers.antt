use Rattle.syntax_trees.specs.declared.types.ValType.TheViews as val_type
use Rattle.link_spec.specs.ValueTypes.{close_passed}
use Rattle.link_meanings.proofs.Made.{made_of_held}
use Rattle.link_meanings.proofs.value_layers.stream_type.Goals as goal

pub returns-clause-ok : goal.returns-clause-ok
returns-clause-ok c = λ closed h.
    made_of_held c.passed_of.new.types c.value_type.new.self val_type.Stream c.in_ok-number.number c.in-Some.element (close_passed closed c.args.element)
    (rw c.in-Some.is at (c.in_ok-element.ensures.ok closed h)) c.in_ok-number.ensures.ok
