use Rattle.syntax_trees.specs.declared.types.ValType.TheViews as val_type
use Rattle.link_spec.specs.ValueTypes.{close_held}
use Rattle.link_types.proofs.ValuesStay.{is_there_stays}
use Rattle.link_meanings.specs.Levels.{enclosed_types}
use Rattle.link_meanings.proofs.Growing.{types_stay}
use Rattle.link_meanings.proofs.Made.{made_of_two, second_open}
use Rattle.link_meanings.proofs.value_layers.result_type.Goals as goal

pub returns-in_default-2-clause-ok : goal.returns-in_default-2-clause-ok
returns-in_default-2-clause-ok c = λ closed h.
    let stays = types_stay c.args.types.now c.held_of.new.types c.held_of.ensures.grows (enclosed_types c.args.scope.now) closed h in
    second_open val_type.Result (close_held closed c.args.ok) (close_held closed c.args.err) (rw c.in_default-2.is at (c.in_ok-err.ensures.ok closed stays))

pub value_type-requires : goal.value_type-requires
value_type-requires c = (
  is_there_stays c.held_of.new.types c.held_of-2.new.types c.held_of-2.ensures.grows c.in-Some.ok (rw c.in-Some.is at c.in_ok-ok.ensures.there),
  (rw c.in-Some-2.is at c.in_ok-err.ensures.there, tt),
)

pub returns-clause-ok : goal.returns-clause-ok
returns-clause-ok c = λ closed h.
    let first = c.held_of.new.types in
    let second = c.held_of-2.new.types in
    let stays = types_stay c.args.types.now first c.held_of.ensures.grows (enclosed_types c.args.scope.now) closed h in
    made_of_two first second c.value_type.new.self c.held_of-2.ensures.grows val_type.Result c.in_ok-number.number c.in-Some.ok c.in-Some-2.err (close_held closed c.args.ok) (close_held closed c.args.err)
    (rw c.in-Some.is at (c.in_ok-ok.ensures.ok closed h)) (rw c.in-Some-2.is at (c.in_ok-err.ensures.ok closed stays)) c.in_ok-number.ensures.ok
