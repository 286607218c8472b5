use Rattle.std.proofs.Common.{rules, arith, ◌∙◌, ℕ, map, Some, ap}
use Rattle.std.specs.Option.{option_map}
use Rattle.syntax_trees.specs.declared.types.ValType.{ValType}
use Rattle.link_values.specs.Resources.{renumbered}
use Rattle.link_types.specs.Changes.{change_of}
use Rattle.link_types.proofs.Renumbered.{IsNewField, IsNewCase, IsNewPlace, field_stays, case_stays, place_stays, fields_there, cases_there, places_there}
use Rattle.link_types.proofs.RenumberedMade.{made_more, made_all, record_made, variant_made, tuple_made, plain_made, result_made}
use Rattle.link_types.proofs.TypesGrow.{grows_trans, may_be_stays}
use Rattle.link_types.proofs.renumbering.+renumbering.Goals as goal

pub changed_record-loop-field-preserved : goal.changed_record-loop-field-preserved
changed_record-loop-field-preserved t c =
    let f : ℕ → ℕ = change_of c.args.how.change c.args.how.depth in
    let l = c.loop-field in
    let new = c.changed_type.new.types in
    let grows = c.changed_type.ensures.grows in
    rw c.label.ensures.same (
      grows_trans c.args.types.now l.types new l.invariant.0 grows,
      made_more (IsNewField f l.types.values) (IsNewField f new.values) (field_stays f l.types new grows) c.args.fields.now l.parts.items c.push.new.self.items l.field-index _ c.field-item.result c.field-item.result c.in_ok-push.ensures.items l.invariant.1
          c.loop-field-test.true c.field-item.is (c.in_ok-label.ensures.ok ∙ c.as_str.ensures, c.in_ok-number.ensures.ok ∙ ap (λ (t : ValType). Some (renumbered f t)) c.get.ensures),
    )

pub changed_record-value_type-requires : goal.changed_record-value_type-requires
changed_record-value_type-requires t c =
    let f : ℕ → ℕ = change_of c.args.how.change c.args.how.depth in
    let l = c.loop-field in
    rw c.deref.ensures.value (fields_there f l.types.values l.parts.items c.args.fields.now (made_all (IsNewField f l.types.values) c.args.fields.now l.parts.items l.field-index l.invariant.1 c.loop-field-test.false))

pub changed_record-returns-clause-ok : goal.changed_record-returns-clause-ok
changed_record-returns-clause-ok t c =
    let f : ℕ → ℕ = change_of c.args.how.change c.args.how.depth in
    let l = c.loop-field in
    record_made f l.types.values c.value_type.new.self.values c.in_ok-value_type.field-0 l.parts.items c.args.fields.now
    (made_all (IsNewField f l.types.values) c.args.fields.now l.parts.items l.field-index l.invariant.1 c.loop-field-test.false) (rw c.deref.ensures.value at c.in_ok-value_type.ensures.ok)

pub changed_variant-loop-case-preserved : goal.changed_variant-loop-case-preserved
changed_variant-loop-case-preserved t c =
    let f : ℕ → ℕ = change_of c.args.how.change c.args.how.depth in
    let l = c.loop-case in
    let new = c.changed_part.new.types in
    let grows = c.changed_part.ensures.grows in
    rw c.label.ensures.same (
      grows_trans c.args.types.now l.types new l.invariant.0 grows,
      made_more (IsNewCase f l.types.values) (IsNewCase f new.values) (case_stays f l.types new grows) c.args.cases.now l.parts.items c.push.new.self.items l.case-index _ c.case-item.result c.case-item.result c.in_ok-push.ensures.items l.invariant.1
          c.loop-case-test.true c.case-item.is (c.in_ok-label.ensures.ok ∙ c.as_str.ensures, c.in_ok-payload.ensures.ok),
    )

pub changed_variant-value_type-requires : goal.changed_variant-value_type-requires
changed_variant-value_type-requires t c =
    let f : ℕ → ℕ = change_of c.args.how.change c.args.how.depth in
    let l = c.loop-case in
    rw c.deref.ensures.value (cases_there f l.types.values l.parts.items c.args.cases.now (made_all (IsNewCase f l.types.values) c.args.cases.now l.parts.items l.case-index l.invariant.1 c.loop-case-test.false))

pub changed_variant-returns-clause-ok : goal.changed_variant-returns-clause-ok
changed_variant-returns-clause-ok t c =
    let f : ℕ → ℕ = change_of c.args.how.change c.args.how.depth in
    let l = c.loop-case in
    variant_made f l.types.values c.value_type.new.self.values c.in_ok-value_type.field-0 l.parts.items c.args.cases.now
    (made_all (IsNewCase f l.types.values) c.args.cases.now l.parts.items l.case-index l.invariant.1 c.loop-case-test.false) (rw c.deref.ensures.value at c.in_ok-value_type.ensures.ok)

pub changed_tuple-loop-place-preserved : goal.changed_tuple-loop-place-preserved
changed_tuple-loop-place-preserved t c =
    let f : ℕ → ℕ = change_of c.args.how.change c.args.how.depth in
    let l = c.loop-place in
    let new = c.changed_type.new.types in
    let grows = c.changed_type.ensures.grows in (
      grows_trans c.args.types.now l.types new l.invariant.0 grows,
      made_more (IsNewPlace f l.types.values) (IsNewPlace f new.values) (place_stays f l.types new grows) c.args.places.now l.parts.items c.push.new.self.items l.place-index _ c.place-item.result c.place-item.result c.in_ok-push.ensures.items l.invariant.1
          c.loop-place-test.true c.place-item.is (c.in_ok-changed_type.ensures.ok ∙ ap (λ (t : ValType). Some (renumbered f t)) c.get.ensures),
    )

pub changed_tuple-value_type-requires : goal.changed_tuple-value_type-requires
changed_tuple-value_type-requires t c =
    let f : ℕ → ℕ = change_of c.args.how.change c.args.how.depth in
    let l = c.loop-place in
    rw c.deref.ensures.value (places_there f l.types.values l.parts.items c.args.places.now (made_all (IsNewPlace f l.types.values) c.args.places.now l.parts.items l.place-index l.invariant.1 c.loop-place-test.false))

pub changed_tuple-returns-clause-ok : goal.changed_tuple-returns-clause-ok
changed_tuple-returns-clause-ok t c =
    let f : ℕ → ℕ = change_of c.args.how.change c.args.how.depth in
    let l = c.loop-place in
    tuple_made f l.types.values c.value_type.new.self.values c.in_ok-value_type.field-0 l.parts.items c.args.places.now
    (made_all (IsNewPlace f l.types.values) c.args.places.now l.parts.items l.place-index l.invariant.1 c.loop-place-test.false) (rw c.deref.ensures.value at c.in_ok-value_type.ensures.ok)

pub changed_type-returns-in-Some-clause-ok : goal.changed_type-returns-in-Some-clause-ok
changed_type-returns-in-Some-clause-ok t c =
    let f : ℕ → ℕ = change_of c.args.how.change c.args.how.depth in
    let same = rw c.in-Some.is at c.plain_layer.ensures.same in
    plain_made f c.value_type.new.self.values c.in_ok-value_type.field-0 _ c.args.val_type.now (same f _) c.in_ok-value_type.ensures.ok

pub changed_type-returns-in_ok-value_type-in-Result-clause-ok : goal.changed_type-returns-in_ok-value_type-in-Result-clause-ok
changed_type-returns-in_ok-value_type-in-Result-clause-ok t c =
    let f : ℕ → ℕ = change_of c.args.how.change c.args.how.depth in
    let old = c.changed_part.new.types in
    let new = c.changed_part-in-Result.new.types in
    let ok = c.in_ok-ok-in-Result.ok in
    let ok_stays = may_be_stays old new c.changed_part-in-Result.ensures.grows ok (option_map (renumbered f) c.in-Result.ok) c.in_ok-ok-in-Result.ensures.ok in
    rw c.in-Result.is
    (result_made f new.values c.value_type-in-Result.new.self.values c.in_ok-value_type-in-Result.field-0 ok c.in_ok-err-in-Result.err c.in-Result.ok c.in-Result.err ok_stays c.in_ok-err-in-Result.ensures.ok c.in_ok-value_type-in-Result.ensures.ok)
