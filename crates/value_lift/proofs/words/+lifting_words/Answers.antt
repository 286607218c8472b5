-- A place where no part stands, and values by the forms of their types.
use Rattle.std.proofs.Common.{◌≡◌, rules, ◌∙◌, [], length, take, ℕ, ◌<◌, List, Some, ap, sym, subst, arith, Ok, Err, ◌+◌}
use Rattle.std.proofs.lemmas.Result.{err_from_is_err_and}
use Rattle.syntax_trees.specs.declared.core_type.CoreType.{CoreType}
use Rattle.syntax_trees.specs.declared.types.ValType.{ValType, out-ValType}
use Rattle.syntax_trees.specs.declared.types.ValType.TheOpen as F
use Rattle.syntax_trees.specs.declared.value.Value.{Value}
use Rattle.syntax_trees.specs.declared.value.Value.TheViews as values
use Rattle.syntax_trees.specs.Flat.{flat}
use Rattle.laid_types.specs.Parts.{parts_of, part_at, case_count}
use Rattle.value_lift.specs.Ledger.{Came, MayTake, made, reached}
use Rattle.value_lift.specs.Named.{named_in, what_named, value_named}
use Rattle.value_lift.specs.Over.{parts, layer_of, string_of, lift_words, lift_word_case, word_fields_from, word_case_of}
use Rattle.value_lift.proofs.Depth.{deeper}
use Rattle.value_lift.proofs.Inside.{part_type, no_part_type, part_among, word_case_some, word_count, word_inside, word_next, word_stops}
use Rattle.value_lift.proofs.OverForms.{IsRow, HasCases, is_row, has_cases, row_words_over, cases_words_over, string_words_over, index_words}
use Rattle.value_lift.proofs.Views.{out_string}
use Rattle.value_lift.proofs.WordRooms.{row_words_room, case_words_room}
use Rattle.value_lift.proofs.Steps.{same_taken, words_go, made_stops, word_case_none, word_fields_skip, word_skip_room}
use Rattle.value_lift.proofs.words.+lifting_words.Goals as goal

pub counted_word_at-word_case_at-requires : goal.counted_word_at-word_case_at-requires
counted_word_at-word_case_at-requires g t c κs within = (
  search rules,
  (search rules, (c.requires.known, (c.requires.few, case_words_room c.args.t.now.val_type c.args.at c.args.words.now (has_cases c.val_type.result.now c.args.t.now.val_type c.in-Variant.is (c.val_type.ensures ∙ c.laid-laid.ensures)) c.requires.room))),
)

pub counted_word_at-word_fields_at-requires : goal.counted_word_at-word_fields_at-requires
counted_word_at-word_fields_at-requires g t c κs within = (
  search rules,
  (search rules, (c.requires.known, (c.requires.few, omega (arith, c.requires.room, row_words_room c.args.t.now.val_type c.args.at (is_row c.val_type.result.now c.args.t.now.val_type c.in-Record.is (c.val_type.ensures ∙ c.laid-laid.ensures)))))),
)

pub counted_word_at-returns-in-Variant : goal.counted_word_at-returns-in-Variant
counted_word_at-returns-in-Variant g t c =
    let led = g.L.Ledger.ledger c.args.t.now.types in
    let before = g.L.Ledger.kept c.args.ledger.now in
    let type = c.args.t.now.val_type in
    let kind : HasCases (out-ValType type) = has_cases c.val_type.result.now type c.in-Variant.is (c.val_type.ensures ∙ c.laid-laid.ensures) in
    same_taken led (word_case_of led (case_count type) (parts led (parts_of type)) c.args.memory.now c.args.words.now c.args.at before)
    (lift_word_case led (layer_of led type) c.args.memory.now c.args.words.now c.args.at before) (g.L.Ledger.kept c.word_case_at.new.ledger) c.word_case_at.result
    (cases_words_over led c.args.memory.now c.args.words.now c.args.at before type kind) c.word_case_at.ensures

pub counted_word_at-returns-in_ok-word_fields_at-in-Record : goal.counted_word_at-returns-in_ok-word_fields_at-in-Record
counted_word_at-returns-in_ok-word_fields_at-in-Record g t c =
    let type = c.args.t.now.val_type in
    let kind : IsRow (out-ValType type) = is_row c.val_type.result.now type c.in-Record.is (c.val_type.ensures ∙ c.laid-laid.ensures) in
    row_words_over (g.L.Ledger.ledger c.args.t.now.types) c.args.memory.now c.args.words.now c.args.at (g.L.Ledger.kept c.args.ledger.now) type kind
    ∙ ap (λ (l : Came g.L.Ledger.Kept g.L.Ledger.Stop (List Value)). made values.Record l) c.in_ok-word_fields_at-in-Record.ensures

pub counted_word_at-returns-in_err-word_fields_at-in-Record : goal.counted_word_at-returns-in_err-word_fields_at-in-Record
counted_word_at-returns-in_err-word_fields_at-in-Record g t c =
    let led = g.L.Ledger.ledger c.args.t.now.types in
    let before = g.L.Ledger.kept c.args.ledger.now in
    let after = g.L.Ledger.kept c.word_fields_at.new.ledger in
    let type = c.args.t.now.val_type in
    let fault = c.in_err-word_fields_at-in-Record.field-0.0 in
    let kind : IsRow (out-ValType type) = is_row c.val_type.result.now type c.in-Record.is (c.val_type.ensures ∙ c.laid-laid.ensures) in
    let row = word_fields_from led c.args.memory.now c.args.words.now [] c.args.at (parts led (parts_of type)) before in
    let stops = made_stops led values.Record row after fault c.in_err-word_fields_at-in-Record.ensures in
    let p = err_from_is_err_and c.from_residual-in_err-word_fields_at-in-Record.result c.from_residual-in_err-word_fields_at-in-Record.ensures.1 in
    rw (p.1, p.2)
    (same_taken led (made values.Record row) (lift_word_case led (layer_of led type) c.args.memory.now c.args.words.now c.args.at before) after (Err fault)
    (row_words_over led c.args.memory.now c.args.words.now c.args.at before type kind) stops)

-- Cases.
pub word_case_at-returns-in_default : goal.word_case_at-returns-in_default
word_case_at-returns-in_default g t c =
    let type = c.args.t.now.val_type in
    let n = c.low32-case.result in
    word_case_none (g.L.Ledger.ledger c.args.t.now.types) (case_count type) n (parts_of type) c.args.memory.now c.args.words.now c.args.at (g.L.Ledger.kept c.args.ledger.now) (sym c.low32-case.ensures)
    (omega (arith, ap case_count c.laid.ensures)) (no_part_type c.part.result (part_at type n) c.part.ensures.value c.in_default.is)

pub word_case_at-word_value_at-requires : goal.word_case_at-word_value_at-requires
word_case_at-word_value_at-requires g t c κs within =
    let type = c.args.t.now.val_type in
    let part = c.in-Some.part in
    let there = part_type c.part.result (part_at type c.low32-case.result) part c.part.ensures.value c.in-Some.is in
    let known : g.L.Ledger.knows part.types = subst g.L.Ledger.knows (sym (part_among c.part.result c.args.t.now.types part c.part.ensures.types c.in-Some.is)) c.requires.known in
    (search (rules, arith, c.decreases, deeper type part.val_type c.low32-case.result there), (search rules, (known, (c.requires.few, c.requires.room.payload c.low32-case.result part.val_type there))))

pub word_case_at-returns : goal.word_case_at-returns
word_case_at-returns g t c =
    let type = c.args.t.now.val_type in
    let part = c.in-Some.part in
    let n = c.low32-case.result in
    let led = g.L.Ledger.ledger c.args.t.now.types in
    let before = g.L.Ledger.kept c.args.ledger.now in
    let there = part_type c.part.result (part_at type n) part c.part.ensures.value c.in-Some.is in
    let lifted : lift_words led part.val_type c.args.memory.now c.args.words.now (c.args.at + 1) before ≡ Ok (c.in_ok-new.field-0, g.L.Ledger.kept c.word_value_at.new.ledger) =
    ap (λ (types : List ValType). lift_words (g.L.Ledger.ledger types) part.val_type c.args.memory.now c.args.words.now (c.args.at + 1) before)
    (sym (part_among c.part.result c.args.t.now.types part c.part.ensures.types c.in-Some.is))
    ∙ c.in_ok-payload.ensures
    ∙ ap (λ (v : Value). Ok (v, g.L.Ledger.kept c.word_value_at.new.ledger)) (sym c.in_ok-new.ensures) in
    word_case_some led type part.val_type n c.args.memory.now c.args.words.now c.args.at before (sym c.low32-case.ensures) (omega (arith, ap case_count c.laid.ensures)) there
    ∙ ap (λ (l : Came g.L.Ledger.Kept g.L.Ledger.Stop Value). made (values.Variant n) (made (λ v. Some v) l)) lifted

pub word_case_at-returns-in_err-payload : goal.word_case_at-returns-in_err-payload
word_case_at-returns-in_err-payload g t c =
    let type = c.args.t.now.val_type in
    let part = c.in-Some.part in
    let n = c.low32-case.result in
    let led = g.L.Ledger.ledger c.args.t.now.types in
    let before = g.L.Ledger.kept c.args.ledger.now in
    let after = g.L.Ledger.kept c.word_value_at.new.ledger in
    let fault = c.in_err-payload.field-0.0 in
    let there = part_type c.part.result (part_at type n) part c.part.ensures.value c.in-Some.is in
    let part_lifted = lift_words led part.val_type c.args.memory.now c.args.words.now (c.args.at + 1) before in
    let stops : MayTake led part_lifted after (Err fault) =
    subst (λ (types : List ValType). MayTake (g.L.Ledger.ledger types) (lift_words (g.L.Ledger.ledger types) part.val_type c.args.memory.now c.args.words.now (c.args.at + 1) before) after (Err fault))
    (part_among c.part.result c.args.t.now.types part c.part.ensures.types c.in-Some.is) c.in_err-payload.ensures in
    let whole = word_case_some led type part.val_type n c.args.memory.now c.args.words.now c.args.at before (sym c.low32-case.ensures) (omega (arith, ap case_count c.laid.ensures)) there in
    let p = err_from_is_err_and c.from_residual.result c.from_residual.ensures.1 in
    rw (p.1, p.2)
    (subst (λ (l : Came g.L.Ledger.Kept g.L.Ledger.Stop Value). MayTake led l after (Err fault)) (sym whole)
    (made_stops led (values.Variant n) (made (λ v. Some v) part_lifted) after fault (made_stops led (λ v. Some v) part_lifted after fault stops)))

-- Fields.
pub word_fields_at-loop-index-preserved-in_default : goal.word_fields_at-loop-index-preserved-in_default
word_fields_at-loop-index-preserved-in_default g t c =
    let types = parts_of c.args.t.now.val_type in
    let l = c.loop-index in
    let none = no_part_type c.part.result (part_at c.args.t.now.val_type l.index) c.part.ensures.value c.in_default.is in
    let low : l.index < length types = omega (arith, c.part_count-count.ensures, ap (λ (u : ValType). length (parts_of u)) c.laid.ensures) in
    record {
      same = l.invariant.same ∙ word_fields_skip (g.L.Ledger.ledger c.args.t.now.types) c.args.memory.now c.args.words.now l.next (g.L.Ledger.kept l.ledger) l.values types l.index low none;
      room = omega (arith, l.invariant.room, word_skip_room l.next types l.index low none);
    }

pub word_fields_at-word_value_at-requires : goal.word_fields_at-word_value_at-requires
word_fields_at-word_value_at-requires g t c κs within =
    let l = c.loop-index in
    let type = c.args.t.now.val_type in
    let part = c.in-Some.part in
    let there = part_type c.part.result (part_at type l.index) part c.part.ensures.value c.in-Some.is in
    let known : g.L.Ledger.knows part.types = subst g.L.Ledger.knows (sym (part_among c.part.result c.args.t.now.types part c.part.ensures.types c.in-Some.is)) c.requires.known in (
      search (rules, arith, c.decreases, deeper type part.val_type l.index there),
      (search rules, (known, (c.requires.few, word_inside part.val_type c.args.words.now l.next l.index (parts_of type) there l.invariant.room))),
    )

pub word_fields_at-overflow_add-next : goal.word_fields_at-overflow_add-next
word_fields_at-overflow_add-next g t c =
    let l = c.loop-index in
    let type = c.args.t.now.val_type in
    let types = parts_of type in
    let part = c.in-Some.part in
    let there = part_type c.part.result (part_at type l.index) part c.part.ensures.value c.in-Some.is in
    let told : length c.flat.result.now ≡ length (take 17 (flat part.val_type)) = ap (λ (ts : List CoreType). length ts) c.flat.ensures ∙ ap (λ (u : ValType). length (take 17 (flat u))) c.laid-in-loop-index.ensures in
    let count : length c.flat.result.now ≡ length (flat part.val_type) = word_count part.val_type c.args.words.now l.next l.index types (length c.flat.result.now) c.requires.few there l.invariant.room told in
    omega (arith, count, word_inside part.val_type c.args.words.now l.next l.index types there l.invariant.room, c.requires.few)

pub word_fields_at-loop-index-preserved : goal.word_fields_at-loop-index-preserved
word_fields_at-loop-index-preserved g t c =
    let l = c.loop-index in
    let type = c.args.t.now.val_type in
    let types = parts_of type in
    let part = c.in-Some.part in
    let led = g.L.Ledger.ledger c.args.t.now.types in
    let now = g.L.Ledger.kept l.ledger in
    let there = part_type c.part.result (part_at type l.index) part c.part.ensures.value c.in-Some.is in
    let told : length c.flat.result.now ≡ length (take 17 (flat part.val_type)) = ap (λ (ts : List CoreType). length ts) c.flat.ensures ∙ ap (λ (u : ValType). length (take 17 (flat u))) c.laid-in-loop-index.ensures in
    let count : length c.flat.result.now ≡ length (flat part.val_type) = word_count part.val_type c.args.words.now l.next l.index types (length c.flat.result.now) c.requires.few there l.invariant.room told in
    let lifted : lift_words led part.val_type c.args.memory.now c.args.words.now l.next now ≡ Ok (c.in_ok-value.value, g.L.Ledger.kept c.word_value_at.new.ledger) =
    ap (λ (types : List ValType). lift_words (g.L.Ledger.ledger types) part.val_type c.args.memory.now c.args.words.now l.next now)
    (sym (part_among c.part.result c.args.t.now.types part c.part.ensures.types c.in-Some.is))
    ∙ c.in_ok-value.ensures in
    let next =
    word_next led c.args.memory.now c.args.words.now l.next now (g.L.Ledger.kept c.word_value_at.new.ledger) l.index types part.val_type (length c.flat.result.now) l.values c.push.new.self c.in_ok-value.value
    there l.invariant.room count lifted c.in_ok-push.ensures.ok in
    record { same = l.invariant.same ∙ next.0; room = next.1 }

pub word_fields_at-returns-in_err-value : goal.word_fields_at-returns-in_err-value
word_fields_at-returns-in_err-value g t c =
    let l = c.loop-index in
    let type = c.args.t.now.val_type in
    let types = parts_of type in
    let part = c.in-Some.part in
    let led = g.L.Ledger.ledger c.args.t.now.types in
    let now = g.L.Ledger.kept l.ledger in
    let after = g.L.Ledger.kept c.word_value_at.new.ledger in
    let fault = c.in_err-value.field-0.0 in
    let there = part_type c.part.result (part_at type l.index) part c.part.ensures.value c.in-Some.is in
    let stops : MayTake led (lift_words led part.val_type c.args.memory.now c.args.words.now l.next now) after (Err fault) =
    subst (λ (types : List ValType). MayTake (g.L.Ledger.ledger types) (lift_words (g.L.Ledger.ledger types) part.val_type c.args.memory.now c.args.words.now l.next now) after (Err fault))
    (part_among c.part.result c.args.t.now.types part c.part.ensures.types c.in-Some.is) c.in_err-value.ensures in
    let p = err_from_is_err_and c.from_residual.result c.from_residual.ensures.1 in
    rw (p.1, p.2)
    (word_stops led (word_fields_from led c.args.memory.now c.args.words.now [] c.args.at (parts led types) (g.L.Ledger.kept c.args.ledger.now)) c.args.memory.now c.args.words.now l.next now after l.index types
    part.val_type l.values fault l.invariant.same there stops)

-- Texts.
pub counted_word_at-returns-in-String : goal.counted_word_at-returns-in-String
counted_word_at-returns-in-String g t c =
    let type = c.args.t.now.val_type in
    let led = g.L.Ledger.ledger c.args.t.now.types in
    let before = g.L.Ledger.kept c.args.ledger.now in
    let is : out-ValType type ≡ F.String = ap out-ValType (sym (c.val_type.ensures ∙ c.laid-laid.ensures) ∙ c.in-String.is) ∙ out_string in
    same_taken led (string_of led c.low32-place.result c.low32-length.result c.args.memory.now c.args.at before) (lift_word_case led (layer_of led type) c.args.memory.now c.args.words.now c.args.at before)
    (g.L.Ledger.kept c.string_of.new.ledger) c.string_of.result
    (string_words_over led c.args.memory.now c.args.words.now c.args.at before type c.low32-place.result c.low32-length.result is c.low32-place.ensures c.low32-length.ensures) (c.string_of.ensures c.args.t.now.types)

-- Values that are reached.
pub word_value_at-returns-in_default : goal.word_value_at-returns-in_default
word_value_at-returns-in_default g t c =
    words_go (g.L.Ledger.ledger c.args.t.now.types) c.args.t.now.val_type c.args.memory.now c.args.words.now c.args.at (g.L.Ledger.kept c.args.ledger.now) (g.L.Ledger.kept c.count.new.self)
    (g.L.Ledger.kept c.counted_word_at.new.ledger) c.counted_word_at.result (c.in_ok-count.ensures c.args.t.now.types) c.counted_word_at.ensures

pub word_value_at-returns : goal.word_value_at-returns
word_value_at-returns g t c =
    let type = c.args.t.now.val_type in
    let n = c.in-Some.named in
    let led = g.L.Ledger.ledger c.args.t.now.types in
    let before = g.L.Ledger.kept c.args.ledger.now in
    let told : named_in (out-ValType type) ≡ Some n = ap (λ (u : ValType). named_in (out-ValType u)) (sym (c.val_type.ensures ∙ c.laid-laid.ensures)) ∙ sym c.of.ensures ∙ c.in-Some.is in
    same_taken led (made (value_named n) (reached led (what_named n type) c.low32.result c.args.at before)) (lift_words led type c.args.memory.now c.args.words.now c.args.at before) (g.L.Ledger.kept c.value_by.new.ledger)
    c.value_by.result
    (index_words led type n c.args.memory.now c.args.words.now c.args.at before told ∙ ap (λ (i : ℕ). made (value_named n) (reached led (what_named n type) i c.args.at before)) (sym c.low32.ensures)) c.value_by.ensures
