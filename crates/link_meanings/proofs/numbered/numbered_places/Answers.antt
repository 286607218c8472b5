use Rattle.std.proofs.Common.{Some, get_or, refl}
use Rattle.comp_tree.specs.declared.types.ValTypeRef.{ValTypeRef}
use Rattle.comp_tree.specs.declared.types.ValTypeRef.TheVariants as type_ref
use Rattle.comp_tree.specs.declared.types.PrimValType.TheVariants as prim
use Rattle.link_spec.specs.ValueTypes.{close_val}
use Rattle.link_types.proofs.TypesGrow.{grows_trans}
use Rattle.link_meanings.specs.Levels.{enclosed_types}
use Rattle.link_meanings.specs.Numbered.{IsPlace}
use Rattle.link_meanings.proofs.Closing.{found_more, found_ends, found_open, there_more}
use Rattle.link_meanings.proofs.Growing.{types_stay}
use Rattle.link_meanings.proofs.Made.{place_stays}
use Rattle.link_meanings.proofs.numbered.numbered_places.Goals as goal

-- what stands in the place of one that is not there
abbrev first_place : ValTypeRef
first_place = type_ref.Primitive prim.Bool

pub returns-in-None-clause-ok : goal.returns-in-None-clause-ok
returns-in-None-clause-ok c = λ closed h.
    let kept = c.loop-place.invariant in
    let stays = types_stay c.args.types.now c.loop-place.types kept.0 (enclosed_types c.args.scope.now) closed h in
    let place = get_or c.args.places.now c.loop-place.place-index first_place in
    found_open (IsPlace c.loop-place.types.values) (close_val closed) c.args.places.now c.loop-place.all.items place first_place c.loop-place.place-index c.loop-place-test.true refl
    (rw c.in-None.is at (c.in_ok-number.ensures.ok closed stays)) (kept.2 closed h)

pub loop-place-preserved : goal.loop-place-preserved
loop-place-preserved c =
    let first = c.args.types.now in
    let old = c.loop-place.types in
    let new = c.value_of.new.types in
    let kept = c.loop-place.invariant in
    let place = get_or c.args.places.now c.loop-place.place-index first_place in
    let grows = c.value_of.ensures.grows in (
      grows_trans first old new kept.0 grows,
      rw c.in_ok-push-in-Some.ensures.items (there_more old new grows Some c.loop-place.all.items c.in-Some.number kept.1 (rw c.in-Some.is at c.in_ok-number.ensures.there)),
      λ closed h. (let stays = types_stay first old kept.0 (enclosed_types c.args.scope.now) closed h in
          rw c.in_ok-push-in-Some.ensures.items
          (found_more (IsPlace old.values) (IsPlace new.values) (place_stays old new grows) (close_val closed) c.args.places.now c.loop-place.all.items place first_place c.loop-place.place-index c.in-Some.number c.loop-place-test.true refl
          (rw c.in-Some.is at (c.in_ok-number.ensures.ok closed stays)) (kept.2 closed h))),
    )

pub returns-clause-ok : goal.returns-clause-ok
returns-clause-ok c = λ closed h.
    found_ends (IsPlace c.loop-place.types.values) (close_val closed) c.args.places.now c.loop-place.all.items c.loop-place.place-index c.loop-place-test.false (c.loop-place.invariant.2 closed h)
