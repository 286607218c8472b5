use Rattle.syntax_trees.specs.declared.types.ValType.TheViews as val_type
use Rattle.link_spec.specs.ValueTypes.{close_all, close_case}
use Rattle.laid_types.specs.Layers.{case_of}
use Rattle.link_meanings.specs.Numbered.{IsCase}
use Rattle.link_meanings.proofs.Made.{case_is, made_of_all}
use Rattle.link_meanings.proofs.value_layers.variant_type.Goals as goal

pub returns-clause-ok : goal.returns-clause-ok
returns-clause-ok c = λ closed h.
    let values = c.numbered_cases.new.types.values in
    made_of_all c.value_type.new.self (IsCase values) (case_of values) (case_is values) val_type.Variant c.in_ok-number.number c.in-Some.cases.items (close_all (close_case closed) c.args.cases.now)
    (rw c.in-Some.is at (c.in_ok-cases.ensures.ok closed h)) (rw c.deref.ensures.value at c.in_ok-number.ensures.ok)
