use Rattle.syntax_trees.specs.declared.types.ValType.TheViews as val_type
use Rattle.link_spec.specs.ValueTypes.{close_all, close_field}
use Rattle.laid_types.specs.Layers.{field_of}
use Rattle.link_meanings.specs.Numbered.{IsField}
use Rattle.link_meanings.proofs.Made.{field_is, made_of_all}
use Rattle.link_meanings.proofs.value_layers.record_type.Goals as goal

pub returns-clause-ok : goal.returns-clause-ok
returns-clause-ok c = λ closed h.
    let values = c.numbered_fields.new.types.values in
    made_of_all c.value_type.new.self (IsField values) (field_of values) (field_is values) val_type.Record c.in_ok-number.number c.in-Some.fields.items (close_all (close_field closed) c.args.fields.now)
    (rw c.in-Some.is at (c.in_ok-fields.ensures.ok closed h)) (rw c.deref.ensures.value at c.in_ok-number.ensures.ok)
