use Rattle.std.proofs.Common.{Some}
use Rattle.link_spec.specs.ValueTypes.{close_field}
use Rattle.laid_types.specs.declared.layer.LabelledPart.{LabelledPart}
use Rattle.link_types.proofs.TypesGrow.{grows_trans}
use Rattle.link_meanings.specs.Levels.{enclosed_types}
use Rattle.link_meanings.specs.Numbered.{IsField}
use Rattle.link_meanings.proofs.Closing.{found_more, found_ends, found_open, there_more}
use Rattle.link_meanings.proofs.Growing.{types_stay}
use Rattle.link_meanings.proofs.Made.{field_stays}
use Rattle.link_meanings.proofs.numbered.numbered_fields.Goals as goal

pub returns-in-None-clause-ok : goal.returns-in-None-clause-ok
returns-in-None-clause-ok c = λ closed h.
    let kept = c.loop-field.invariant in
    let stays = types_stay c.args.types.now c.loop-field.types kept.0 (enclosed_types c.args.scope.now) closed h in
    found_open (IsField c.loop-field.types.values) (close_field closed) c.args.fields.now c.loop-field.all.items c.field-item.result c.field-item.result c.loop-field.field-index c.loop-field-test.true c.field-item.is
    (rw c.in-None.is at (c.in_ok-field.ensures.ok closed stays)) (kept.2 closed h)

pub loop-field-preserved : goal.loop-field-preserved
loop-field-preserved c =
    let first = c.args.types.now in
    let old = c.loop-field.types in
    let new = c.numbered_field.new.types in
    let kept = c.loop-field.invariant in
    let grows = c.numbered_field.ensures.grows in (
      grows_trans first old new kept.0 grows,
      rw c.in_ok-push-in-Some.ensures.items (there_more old new grows (λ (f : LabelledPart). Some f.number) c.loop-field.all.items c.in-Some.field kept.1 (rw c.in-Some.is at c.in_ok-field.ensures.there)),
      λ closed h. (let stays = types_stay first old kept.0 (enclosed_types c.args.scope.now) closed h in
          rw c.in_ok-push-in-Some.ensures.items
          (found_more (IsField old.values) (IsField new.values) (field_stays old new grows) (close_field closed) c.args.fields.now c.loop-field.all.items c.field-item.result c.field-item.result c.loop-field.field-index c.in-Some.field c.loop-field-test.true c.field-item.is
          (rw c.in-Some.is at (c.in_ok-field.ensures.ok closed stays)) (kept.2 closed h))),
    )

pub returns-clause-ok : goal.returns-clause-ok
returns-clause-ok c = λ closed h.
    found_ends (IsField c.loop-field.types.values) (close_field closed) c.args.fields.now c.loop-field.all.items c.loop-field.field-index c.loop-field-test.false (c.loop-field.invariant.2 closed h)
