use Rattle.std.proofs.Common.{refl}
use Rattle.syntax_trees.specs.declared.types.ValType.TheViews as val_type
use Rattle.link_spec.specs.ValueTypes.{close_all, close_val}
use Rattle.laid_types.specs.Layers.{tree_at}
use Rattle.link_meanings.specs.Numbered.{IsPlace}
use Rattle.link_meanings.proofs.Made.{tree_is, made_of_all}
use Rattle.link_meanings.proofs.value_layers.tuple_type.Goals as goal

pub returns-in_default-clause-ok : goal.returns-in_default-clause-ok
returns-in_default-clause-ok c = λ closed h. let none = rw c.in_default.is at (c.in_ok-places.ensures.ok closed h) in rw none refl

pub returns-clause-ok : goal.returns-clause-ok
returns-clause-ok c = λ closed h.
    let values = c.numbered_places.new.types.values in
    made_of_all c.value_type.new.self (IsPlace values) (tree_at values) (tree_is values) val_type.Tuple c.in_ok-number.number c.in-Some.places.items (close_all (close_val closed) c.args.places.now)
    (rw c.in-Some.is at (c.in_ok-places.ensures.ok closed h)) (rw c.deref.ensures.value at c.in_ok-number.ensures.ok)
