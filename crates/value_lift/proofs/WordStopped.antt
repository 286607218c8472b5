-- Where lifting from core values stops, what they stand for fails, for the same reason at the same spot.
use Rattle.std.proofs.Common.{◌≡◌, ◌∙◌, ◌≤◌, ◌<◌, ◌+◌, ◌-◌, ℕ, zero, suc, List, [], ◌∷◌, ◌++◌, map, length, drop, Option, Some, None, Ok, Err, refl, ap, sym, subst, arith, inl, inr, length-append, length-drop}
use Rattle.std.specs.List.{AllByRecursion}
use Rattle.std.specs.Option.{option_map}
use Rattle.std.specs.Int.{w32}
use Rattle.std.specs.Prelude.{nat_lt, if◌then◌else◌}
use Rattle.std.proofs.lemmas.Bool.{ltb-true, ltb-false}
use Rattle.syntax_trees.specs.declared.core_type.CoreType.{CoreType}
use Rattle.syntax_trees.specs.declared.core_type.CoreType.TheVariants.{I32}
use Rattle.syntax_trees.specs.declared.types.ValType.{ValType, out-ValType}
use Rattle.syntax_trees.specs.declared.types.Case.{Case}
use Rattle.syntax_trees.specs.declared.types.Field.{Field}
use Rattle.syntax_trees.specs.declared.types.ValType.TheOpen as F
use Rattle.syntax_trees.specs.declared.types.ValType.TheViews as types
use Rattle.syntax_trees.specs.declared.types.ValType.TheVariants as leaves
use Rattle.syntax_trees.specs.declared.value.Value.{Value}
use Rattle.syntax_trees.specs.declared.value.Value.TheViews as values
use Rattle.syntax_trees.specs.declared.value.Value.TheVariants as plain
use Rattle.syntax_trees.specs.Flat.{flat, all_of}
use Rattle.laid_types.specs.Parts.{parts_of, parts_case, count_case}
use Rattle.value_lift.specs.declared.trap.LiftTrap.{LiftTrap}
use Rattle.value_lift.specs.declared.trap.LiftWhy.{LiftWhy}
use Rattle.value_lift.specs.declared.trap.LiftWhy.TheVariants.{BadChar, BadCase, TooLarge}
use Rattle.value_lift.specs.Bytes.{is_scalar}
use Rattle.value_lift.specs.Answers.{trap, Lifted, made, uncounted}
use Rattle.value_lift.specs.Pieces.{Part, part_in, elements_of}
use Rattle.value_lift.specs.Lifting.{lift_words, lift_word_case, layer_of, part, parts, low, word_fields_from, word_payload_of}
use Rattle.value_lift.specs.Standing.{counts}
use Rattle.value_lift.specs.WordStanding.{wrapped}
use Rattle.value_lift.specs.WordFailing.{FlatFails, CountedFlatFails, FlatFieldFails, flat_too_large, flat_counted_fails, flat_bad_char, flat_string_outside, flat_string_too_large, flat_string_not_utf8, flat_list_misaligned, flat_list_outside, flat_list_fails, this_flat_field, later_flat_field}
use Rattle.value_lift.proofs.Equations.{lift_words_is, parts_in}
use Rattle.value_lift.proofs.Forms.{IsRow, HasCases, row_words}
use Rattle.value_lift.proofs.Lists.{part_image}
use Rattle.value_lift.proofs.Stopped.{Stops, text_stops, list_told}
use Rattle.value_lift.proofs.Stopping.{err_same, no_stop, if_err, after_err, made_err, uncounted_err}
use Rattle.value_lift.proofs.Views.{out_char, out_string, out_list}
use Rattle.value_lift.proofs.WordFailed.{reached, cases_are}
use Rattle.value_lift.proofs.WordFound.{first_32, two_32}
use Rattle.value_lift.proofs.WordStood.{flat_at}
use Rattle.value_lift.proofs.WordTypes.{word_told_type}
use Rattle.value_lift.proofs.Wrapped.{wrapped_parts, wrapped_many, wrapped_below, below_length, shares}

abbrev pub WordStops : ValType → Type 0
WordStops t =
    (memory words : List ℕ) (at left : ℕ) (e : LiftTrap) → at + length (flat t) ≤ length words → lift_words t memory words at left ≡ Err e
    → FlatFails memory t (wrapped (flat t) (drop at words)) at left e.why e.place

abbrev pub CountedWordStops : ValType → Type 0
CountedWordStops t =
    (memory words : List ℕ) (at left : ℕ) (e : LiftTrap) → at + length (flat t) ≤ length words → lift_word_case (layer_of t) memory words at left ≡ Err e
    → CountedFlatFails memory t (wrapped (flat t) (drop at words)) at left e.why e.place

-- a value that is counted, or too much
pub counted_word_stops : (t : ValType) → CountedWordStops t → WordStops t
counted_word_stops t told memory words at zero e room h =
    let same : trap TooLarge at ≡ e = err_same {X = Value × ℕ} (trap TooLarge at) e (sym (lift_words_is t memory words at 0) ∙ h) in
    subst (λ (e : LiftTrap). FlatFails memory t (wrapped (flat t) (drop at words)) at 0 e.why e.place) same (flat_too_large t (wrapped (flat t) (drop at words)) at)
counted_word_stops t told memory words at (suc left) e room h =
    flat_counted_fails t (wrapped (flat t) (drop at words)) at left e.why e.place (told memory words at left e room (sym (reached t memory words at left) ∙ h))

pub word_char_stops : WordStops leaves.Char
word_char_stops = counted_word_stops leaves.Char counted
  where
    counted : CountedWordStops leaves.Char
    counted memory words at left e room h =
        let n : ℕ = low w32 at words in
        let told : uncounted left (if is_scalar n then Ok (plain.Char n) else Err (trap BadChar at)) ≡ Err e =
        sym (ap (λ (y : F.ValType-F ValType Case Field). lift_word_case (parts_in y) memory words at left) out_char) ∙ h in
        subst (λ (ws : List ℕ). CountedFlatFails memory leaves.Char ws at left e.why e.place) (sym (first_32 leaves.Char words at [] (flat_at leaves.Char F.Char out_char) room))
        (elim (if_err (is_scalar n) (Ok (plain.Char n)) (trap BadChar at) e (uncounted_err left (if is_scalar n then Ok (plain.Char n) else Err (trap BadChar at)) e told)) [
          | inl p ↦ absurd (no_stop (plain.Char n) e p.1)
          | inr p ↦ subst (λ (e : LiftTrap). CountedFlatFails memory leaves.Char (n ∷ []) at left e.why e.place) p.1 (flat_bad_char n at left p.0)
        ])

pub word_string_stops : WordStops leaves.String
word_string_stops = counted_word_stops leaves.String counted
  where
    counted : CountedWordStops leaves.String
    counted memory words at left e room h =
        let from : ℕ = low w32 at words in
        let count : ℕ = low w32 (at + 1) words in
        subst (λ (ws : List ℕ). CountedFlatFails memory leaves.String ws at left e.why e.place) (sym (two_32 leaves.String words at (flat_at leaves.String F.String out_string) room))
        (text_stops (λ why spot. CountedFlatFails memory leaves.String (from ∷ count ∷ []) at left why spot) from count memory at left e
        (record {
          past = flat_string_outside from count at left;
          over = flat_string_too_large from count at left;
          wrong = flat_string_not_utf8 from count at left;
        })
        (sym (ap (λ (y : F.ValType-F ValType Case Field). lift_word_case (parts_in y) memory words at left) out_string) ∙ h))

pub word_list_stops : (t : ValType) → Stops t → WordStops (types.List t)
word_list_stops t stops = counted_word_stops (types.List t) counted
  where
    counted : CountedWordStops (types.List t)
    counted memory words at left e room h =
        let from : ℕ = low w32 at words in
        let count : ℕ = low w32 (at + 1) words in
        subst (λ (ws : List ℕ). CountedFlatFails memory (types.List t) ws at left e.why e.place) (sym (two_32 (types.List t) words at (flat_at (types.List t) (F.List t) (out_list t)) room))
        (list_told (λ why spot. CountedFlatFails memory (types.List t) (from ∷ count ∷ []) at left why spot) t stops from count memory at left e
        (record {
          astray = flat_list_misaligned from count at left t;
          past = flat_list_outside from count at left t;
          fail = flat_list_fails from count at left t;
        })
        (made_err values.List (elements_of (part t) from count memory at left) e
        (sym (ap (λ (y : F.ValType-F ValType Case Field). lift_word_case (parts_in y) memory words at left) (out_list t)) ∙ h)))

-- Records.
fields_stop : (types : List ValType) → AllByRecursion WordStops types → (memory words : List ℕ) (at left : ℕ) (before : List Value) (e : LiftTrap)
    → at + length (all_of (map flat types)) ≤ length words → word_fields_from memory words before at (parts (map (λ (t : ValType). Some t) types)) left ≡ Err e
    → FlatFieldFails memory types (wrapped (all_of (map flat types)) (drop at words)) at left e.why e.place
fields_stop [] stops memory words at left before e room h = absurd (no_stop (before, left) e h)
fields_stop (t ∷ types) stops memory words at left before e room h =
    let next : ℕ = at + length (flat t) in
    let rest : List CoreType = all_of (map flat types) in
    let size : length (flat t ++ rest) ≡ length (flat t) + length rest = length-append (flat t) rest in
    let here : at + length (flat t) ≤ length words = omega (arith, room, size) in
    let over : length (drop at words) ≡ length words - at = length-drop at words in
    let many : length (wrapped (flat t) (drop at words)) ≡ length (flat t) = wrapped_many (flat t) (drop at words) (omega (arith, here, over)) in
    let first : List ℕ = wrapped (flat t) (drop at words) in
    let others : List ℕ = wrapped rest (drop next words) in
    subst (λ (ws : List ℕ). FlatFieldFails memory (t ∷ types) ws at left e.why e.place) (sym (wrapped_parts (flat t) rest words at here))
    (elim (after_err (lift_words t memory words at left) (λ v left. word_fields_from memory words (before ++ v ∷ []) next (parts (map (λ (t : ValType). Some t) types)) left) e h) [
      | inl p ↦ this_flat_field t types first others at left e.why e.place many (stops.0 memory words at left e here p)
      | inr r ↦
          let f = word_told_type t memory words at left r.left r.first here r.was in
          let n : counts r.first + r.left ≡ left = omega (arith, f.count) in
          subst (λ (k : ℕ). FlatFieldFails memory (t ∷ types) (first ++ others) at k e.why e.place) n
          (later_flat_field t types first others at r.left r.first e.why e.place many f.stands
          (fields_stop types stops.1 memory words next r.left (before ++ r.first ∷ []) e (omega (arith, room, size)) r.then_is))
    ])

pub word_row_stops : (t : ValType) (types : List ValType) → AllByRecursion WordStops types → IsRow (out-ValType t) → parts_of t ≡ map (λ (t : ValType). Some t) types
    → flat t ≡ all_of (map flat types)
    → ((memory ws : List ℕ) (at left : ℕ) (why : LiftWhy) (spot : ℕ) → FlatFieldFails memory types ws at left why spot → CountedFlatFails memory t ws at left why spot) → WordStops t
word_row_stops t types stops row parts_are flats fails =
    counted_word_stops t
    (λ memory words at left e room h.
    let all : Lifted (List Value) = word_fields_from memory words [] at (parts (map (λ (t : ValType). Some t) types)) left in
    let told : made values.Record all ≡ Err e =
    sym (row_words memory words at left t row ∙ ap (λ (ts : List (Option ValType)). made values.Record (word_fields_from memory words [] at (parts ts) left)) parts_are) ∙ h in
    subst (λ (l : List CoreType). CountedFlatFails memory t (wrapped l (drop at words)) at left e.why e.place) (sym flats)
    (fails memory (wrapped (all_of (map flat types)) (drop at words)) at left e.why e.place
    (fields_stop types stops memory words at left [] e (subst (λ (l : List CoreType). at + length l ≤ length words) flats room) (made_err values.Record all e told))))

-- Cases.
record StoppedPayload (memory words : List ℕ) (at left : ℕ) (p : Option ValType) (e : LiftTrap) : Type 0 where
  pub type : ValType
  pub is : p ≡ Some type
  pub fails : FlatFails memory type (wrapped (flat type) (drop at words)) at left e.why e.place

payload_stops : (p : Option ValType) → ((u : ValType) → p ≡ Some u → WordStops u) → (memory words : List ℕ) (at left : ℕ) (e : LiftTrap)
    → ((u : ValType) → p ≡ Some u → at + length (flat u) ≤ length words)
    → word_payload_of (option_map part p) memory words at left ≡ Err e → StoppedPayload memory words at left p e
payload_stops None stops memory words at left e room h = absurd (no_stop (None, left) e h)
payload_stops (Some u) stops memory words at left e room h = record {
  type = u;
  is = refl;
  fails = stops u refl memory words at left e (room u refl) (made_err (λ v. Some v) (lift_words u memory words at left) e h);
}

pub word_case_stops : (t : ValType) (y : F.ValType-F ValType Case Field) → out-ValType t ≡ y → (kind : HasCases y)
    → ((n : ℕ) (u : ValType) → part_in (parts_case y) n ≡ Some u → WordStops u)
    → ((memory : List ℕ) (n at left : ℕ) (others : List ℕ) → count_case y ≤ n → CountedFlatFails memory t (n ∷ wrapped (shares y kind).types others) at left BadCase at)
    → ((memory : List ℕ) (n at left : ℕ) (others : List ℕ) (u : ValType) (why : LiftWhy) (spot : ℕ) → n < count_case y → part_in (parts_case y) n ≡ Some u
    → FlatFails memory u (wrapped (flat u) (wrapped (shares y kind).types others)) (at + 1) left why spot
    → CountedFlatFails memory t (n ∷ wrapped (shares y kind).types others) at left why spot)
    → WordStops t
word_case_stops t y o kind stops bad fails =
    counted_word_stops t
    (λ memory words at left e room h.
    let s = shares y kind in
    let n : ℕ = low w32 at words in
    let others : List ℕ = drop (at + 1) words in
    let ws : List ℕ = wrapped s.types others in
    let f : flat t ≡ I32 ∷ s.types = flat_at t y o ∙ s.is in
    let many : length (flat t) ≡ suc (length s.types) = ap (λ (l : List CoreType). length l) f in
    let found : Lifted (Option Value) = word_payload_of (part_in (parts (parts_case y)) n) memory words (at + 1) left in
    subst (λ (l : List ℕ). CountedFlatFails memory t l at left e.why e.place) (sym (first_32 t words at s.types f room))
    (elim (if_err (nat_lt n (count_case y)) (made (values.Variant n) found) (trap BadCase at) e (sym (cases_are memory words at left t y o kind) ∙ h)) [
      | inr p ↦ subst (λ (e : LiftTrap). CountedFlatFails memory t (n ∷ ws) at left e.why e.place) p.1 (bad memory n at left others (ltb-false n (count_case y) p.0))
      | inl p ↦
          let rooms : (u : ValType) → part_in (parts_case y) n ≡ Some u → at + 1 + length (flat u) ≤ length words =
          λ u i. omega (arith, room, many, below_length (flat u) s.types (s.below n u i)) in
          let q = payload_stops (part_in (parts_case y) n) (stops n) memory words (at + 1) left e rooms
          (sym (ap (λ (q : Option Part). word_payload_of q memory words (at + 1) left) (part_image (parts_case y) n)) ∙ made_err (values.Variant n) found e p.1) in
          fails memory n at left others q.type e.why e.place (ltb-true n (count_case y) p.0) q.is
          (subst (λ (l : List ℕ). FlatFails memory q.type l (at + 1) left e.why e.place) (sym (wrapped_below (flat q.type) s.types others (s.below n q.type q.is))) q.fails)
    ]))
