-- Where lifting from a memory stops, the value fails, for the same reason at the same spot.
use Rattle.std.proofs.Common.{◌≡◌, ◌∙◌, ◌≤◌, ◌<◌, ◌+◌, ◌-◌, ◌*◌, ◌%◌, ℕ, zero, suc, List, [], ◌∷◌, ◌++◌, map, length, Option, Some, None, Ok, Err, refl, ap, sym, subst, arith, inl, inr}
use Rattle.std.specs.List.{AllByRecursion}
use Rattle.std.specs.Option.{option_map}
use Rattle.std.specs.Int.{w32}
use Rattle.std.specs.Prelude.{nat_lt, if◌then◌else◌}
use Rattle.std.specs.Str.{IsUtf8, is_utf8}
use Rattle.std.proofs.lemmas.Bool.{leb-true, leb-false, ltb-true, ltb-false, eqb-true, eqb-false, both_ways}
use Rattle.std.proofs.lemmas.Str.{is_utf8-from_IsUtf8}
use Rattle.syntax_trees.specs.declared.types.ValType.{ValType, out-ValType}
use Rattle.syntax_trees.specs.declared.types.Case.{Case}
use Rattle.syntax_trees.specs.declared.types.Field.{Field}
use Rattle.syntax_trees.specs.declared.types.ValType.TheOpen as F
use Rattle.syntax_trees.specs.declared.types.ValType.TheViews as types
use Rattle.syntax_trees.specs.declared.types.ValType.TheVariants as leaves
use Rattle.syntax_trees.specs.declared.value.Value.{Value}
use Rattle.syntax_trees.specs.declared.value.Value.TheViews as values
use Rattle.syntax_trees.specs.declared.value.Value.TheVariants as plain
use Rattle.laid_types.specs.Layout.{laid, aligned}
use Rattle.laid_types.specs.Parts.{parts_of, parts_case, count_case, payload_place}
use Rattle.value_lift.specs.declared.trap.LiftTrap.{LiftTrap}
use Rattle.value_lift.specs.declared.trap.LiftWhy.{LiftWhy}
use Rattle.value_lift.specs.declared.trap.LiftWhy.TheVariants.{Misaligned, Bounds, BadChar, BadUtf8, BadCase, TooLarge}
use Rattle.value_lift.specs.Bytes.{number, bytes_at, is_scalar, is_aligned, is_inside}
use Rattle.value_lift.specs.Answers.{trap, Lifted, made, uncounted, counted, counting}
use Rattle.value_lift.specs.Pieces.{Part, part_in, string_of, elements_from, elements_of, text_of}
use Rattle.value_lift.specs.Lifting.{lift, lift_case, layer_of, part, parts, fields_from, payload_of, behind_tag}
use Rattle.value_lift.specs.Standing.{tag, counts}
use Rattle.value_lift.specs.Failing.{Fails, CountedFails, ElementFails, FieldFails, too_large, counted_fails, bad_char, string_outside, string_too_large, string_not_utf8, list_misaligned, list_outside, list_fails, this_element, later_element, this_field, later_field}
use Rattle.value_lift.proofs.Equations.{lift_is, parts_in}
use Rattle.value_lift.proofs.Failed.{reached, cases_are, payload_is}
use Rattle.value_lift.proofs.Forms.{IsRow, HasCases, row_lift}
use Rattle.value_lift.proofs.Stopping.{err_same, no_stop, if_err, counting_err, after_err, made_err, uncounted_err}
use Rattle.value_lift.proofs.TypesFound.{told_type}
use Rattle.value_lift.proofs.Views.{out_char, out_string, out_list}

abbrev pub Stops : ValType → Type 0
Stops t = (memory : List ℕ) (place left : ℕ) (e : LiftTrap) → lift t memory place left ≡ Err e → Fails memory place t left e.why e.place

abbrev pub CountedStops : ValType → Type 0
CountedStops t = (memory : List ℕ) (place left : ℕ) (e : LiftTrap) → lift_case (layer_of t) memory place left ≡ Err e → CountedFails memory place t left e.why e.place

-- a value that is counted, or too much
pub counted_stops : (t : ValType) → CountedStops t → Stops t
counted_stops t told memory place zero e h =
    let same : trap TooLarge place ≡ e = err_same {X = Value × ℕ} (trap TooLarge place) e (sym (lift_is t memory place 0) ∙ h) in
    subst (λ (e : LiftTrap). Fails memory place t 0 e.why e.place) same (too_large place t)
counted_stops t told memory place (suc left) e h = counted_fails place t left e.why e.place (told memory place left e (sym (reached t memory place left) ∙ h))

pub char_stops : Stops leaves.Char
char_stops = counted_stops leaves.Char counted
  where
    counted : CountedStops leaves.Char
    counted memory place left e h =
        let n : ℕ = number w32 place memory in
        let told : uncounted left (if is_scalar n then Ok (plain.Char n) else Err (trap BadChar place)) ≡ Err e =
        sym (ap (λ (y : F.ValType-F ValType Case Field). lift_case (parts_in y) memory place left) out_char) ∙ h in
        elim (if_err (is_scalar n) (Ok (plain.Char n)) (trap BadChar place) e (uncounted_err left (if is_scalar n then Ok (plain.Char n) else Err (trap BadChar place)) e told)) [
          | inl p ↦ absurd (no_stop (plain.Char n) e p.1)
          | inr p ↦ subst (λ (e : LiftTrap). CountedFails memory place leaves.Char left e.why e.place) p.1 (bad_char place left p.0)
        ]

-- What is wrong with a text, by the place and number of its bytes.
pub record TextFails (P : LiftWhy → Type 0) (at count : ℕ) (memory : List ℕ) (left : ℕ) : Type 0 where
  pub past : length memory < at + count → P Bounds
  pub over : at + count ≤ length memory → left < count → P TooLarge
  pub wrong : at + count ≤ length memory → count ≤ left → (IsUtf8 (bytes_at at count memory) → ⊥) → P BadUtf8

pub text_stops : (P : LiftWhy → ℕ → Type 0) (at count : ℕ) (memory : List ℕ) (place left : ℕ) (e : LiftTrap) → TextFails (λ why. P why place) at count memory left
    → string_of at count memory place left ≡ Err e → P e.why e.place
text_stops P at count memory place left e fails h =
    let bytes : List ℕ = bytes_at at count memory in
    let text : ℕ → Lifted Value = λ left. uncounted left (text_of bytes place) in
    let done : (f : LiftTrap) → f ≡ e → P f.why f.place → P e.why e.place = λ f same p. subst (λ (e : LiftTrap). P e.why e.place) same p in
    elim (if_err (is_inside at count memory) (counting (counted count place left) text) (trap Bounds place) e h) [
      | inr p ↦ done (trap Bounds place) p.1 (fails.past (leb-false (at + count) (length memory) p.0))
      | inl p ↦
          let inside : at + count ≤ length memory = leb-true (at + count) (length memory) p.0 in
          elim (counting_err count place left text e p.1) [
            | inr q ↦ done (trap TooLarge place) q.1 (fails.over inside q.0)
            | inl q ↦
                elim (if_err (is_utf8 bytes) (Ok (plain.String bytes)) (trap BadUtf8 place) e (uncounted_err (left - count) (text_of bytes place) e q.1)) [
                  | inl r ↦ absurd (no_stop (plain.String bytes) e r.1)
                  | inr r ↦ done (trap BadUtf8 place) r.1 (fails.wrong inside q.0 (λ u. both_ways (is_utf8 bytes) r.0 (is_utf8-from_IsUtf8 bytes u)))
                ]
          ]
    ]

pub string_stops : Stops leaves.String
string_stops = counted_stops leaves.String counted
  where
    counted : CountedStops leaves.String
    counted memory place left e h =
        let at : ℕ = number w32 place memory in
        let count : ℕ = number w32 (place + 4) memory in
        text_stops (λ why spot. CountedFails memory place leaves.String left why spot) at count memory place left e
        (record {
          past = string_outside place left at count refl refl;
          over = string_too_large place left at count refl refl;
          wrong = string_not_utf8 place left at count refl refl;
        })
        (sym (ap (λ (y : F.ValType-F ValType Case Field). lift_case (parts_in y) memory place left) out_string) ∙ h)

-- Lists.
pub elements_stop : (t : ValType) → Stops t → (memory : List ℕ) (before : List Value) (count at left : ℕ) (e : LiftTrap)
    → elements_from (part t) memory before count at left ≡ Err e → ElementFails memory at t count left e.why e.place
elements_stop t stops memory before zero at left e h = absurd (no_stop (before, left) e h)
elements_stop t stops memory before (suc count) at left e h =
    elim (after_err (lift t memory at left) (λ v left. elements_from (part t) memory (before ++ v ∷ []) count (at + (laid t).size) left) e h) [
      | inl p ↦ this_element at t count left e.why e.place (stops memory at left e p)
      | inr r ↦
          let f = told_type t memory at left r.left r.first r.was in
          let n : counts r.first + r.left ≡ left = omega (arith, f.count) in
          subst (λ (k : ℕ). ElementFails memory at t (suc count) k e.why e.place) n
          (later_element at t count r.left r.first e.why e.place f.stands (elements_stop t stops memory (before ++ r.first ∷ []) count (at + (laid t).size) r.left e r.then_is))
    ]

-- What is wrong with elements, by their place and number.
pub record ElementsAreWrong (P : LiftWhy → ℕ → Type 0) (t : ValType) (at count : ℕ) (memory : List ℕ) (place left : ℕ) : Type 0 where
  pub astray : (at % (laid t).align ≡ 0 → ⊥) → P Misaligned place
  pub past : at % (laid t).align ≡ 0 → length memory < at + count * (laid t).size → P Bounds place
  pub fail : (why : LiftWhy) (spot : ℕ) → at % (laid t).align ≡ 0 → at + count * (laid t).size ≤ length memory → ElementFails memory at t count left why spot → P why spot

pub list_told : (P : LiftWhy → ℕ → Type 0) (t : ValType) → Stops t → (at count : ℕ) (memory : List ℕ) (place left : ℕ) (e : LiftTrap) → ElementsAreWrong P t at count memory place left
    → elements_of (part t) at count memory place left ≡ Err e → P e.why e.place
list_told P t stops at count memory place left e wrong h =
    let all : Lifted (List Value) = elements_from (part t) memory [] count at left in
    let within : Lifted (List Value) = if is_inside at (count * (laid t).size) memory then all else Err (trap Bounds place) in
    let done : (f : LiftTrap) → f ≡ e → P f.why f.place → P e.why e.place = λ f same p. subst (λ (e : LiftTrap). P e.why e.place) same p in
    elim (if_err (is_aligned at (laid t).align) within (trap Misaligned place) e h) [
      | inr p ↦ done (trap Misaligned place) p.1 (wrong.astray (eqb-false (at % (laid t).align) 0 p.0))
      | inl p ↦
          let even : at % (laid t).align ≡ 0 = eqb-true (at % (laid t).align) 0 p.0 in
          elim (if_err (is_inside at (count * (laid t).size) memory) all (trap Bounds place) e p.1) [
            | inr q ↦ done (trap Bounds place) q.1 (wrong.past even (leb-false (at + count * (laid t).size) (length memory) q.0))
            | inl q ↦ wrong.fail e.why e.place even (leb-true (at + count * (laid t).size) (length memory) q.0) (elements_stop t stops memory [] count at left e q.1)
          ]
    ]

pub list_stops : (t : ValType) → Stops t → Stops (types.List t)
list_stops t stops = counted_stops (types.List t) counted
  where
    counted : CountedStops (types.List t)
    counted memory place left e h =
        let at : ℕ = number w32 place memory in
        let count : ℕ = number w32 (place + 4) memory in
        list_told (λ why spot. CountedFails memory place (types.List t) left why spot) t stops at count memory place left e
        (record {
          astray = list_misaligned place left at t refl;
          past = list_outside place left at count t refl refl;
          fail = λ why spot even inside f. list_fails place left at count t why spot refl refl even inside f;
        })
        (made_err values.List (elements_of (part t) at count memory place left) e
        (sym (ap (λ (y : F.ValType-F ValType Case Field). lift_case (parts_in y) memory place left) (out_list t)) ∙ h))

-- Records.
fields_stop : (types : List ValType) → AllByRecursion Stops types → (memory : List ℕ) (place end left : ℕ) (before : List Value) (e : LiftTrap)
    → fields_from memory place before end (parts (map (λ (t : ValType). Some t) types)) left ≡ Err e → FieldFails memory place end types left e.why e.place
fields_stop [] stops memory place end left before e h = absurd (no_stop (before, left) e h)
fields_stop (t ∷ types) stops memory place end left before e h =
    let start : ℕ = aligned end (laid t).align in
    let others : List (Option Part) = parts (map (λ (t : ValType). Some t) types) in
    elim (after_err (lift t memory (place + start) left) (λ v left. fields_from memory place (before ++ v ∷ []) (start + (laid t).size) others left) e h) [
      | inl p ↦ this_field place end t types left e.why e.place (stops.0 memory (place + start) left e p)
      | inr r ↦
          let f = told_type t memory (place + start) left r.left r.first r.was in
          let n : counts r.first + r.left ≡ left = omega (arith, f.count) in
          subst (λ (k : ℕ). FieldFails memory place end (t ∷ types) k e.why e.place) n
          (later_field place end t types r.left r.first e.why e.place f.stands
          (fields_stop types stops.1 memory place (start + (laid t).size) r.left (before ++ r.first ∷ []) e r.then_is))
    ]

pub row_stops : (t : ValType) (types : List ValType) → AllByRecursion Stops types → IsRow (out-ValType t) → parts_of t ≡ map (λ (t : ValType). Some t) types
    → ((memory : List ℕ) (place left : ℕ) (why : LiftWhy) (spot : ℕ) → FieldFails memory place 0 types left why spot → CountedFails memory place t left why spot) → Stops t
row_stops t types stops row parts_are fails =
    counted_stops t
    (λ memory place left e h.
    let all : Lifted (List Value) = fields_from memory place [] 0 (parts (map (λ (t : ValType). Some t) types)) left in
    let told : made values.Record all ≡ Err e =
    sym (row_lift memory place left t row ∙ ap (λ (ts : List (Option ValType)). made values.Record (fields_from memory place [] 0 (parts ts) left)) parts_are) ∙ h in
    fails memory place left e.why e.place (fields_stop types stops memory place 0 left [] e (made_err values.Record all e told)))

-- Cases.
record StoppedPayload (memory : List ℕ) (place left : ℕ) (p : Option ValType) (e : LiftTrap) : Type 0 where
  pub type : ValType
  pub is : p ≡ Some type
  pub fails : Fails memory place type left e.why e.place

payload_stops : (p : Option ValType) → ((u : ValType) → p ≡ Some u → Stops u) → (memory : List ℕ) (place left : ℕ) (e : LiftTrap)
    → payload_of (option_map part p) memory place left ≡ Err e → StoppedPayload memory place left p e
payload_stops None stops memory place left e h = absurd (no_stop (None, left) e h)
payload_stops (Some u) stops memory place left e h = record {
  type = u;
  is = refl;
  fails = stops u refl memory place left e (made_err (λ v. Some v) (lift u memory place left) e h);
}

pub case_stops : (t : ValType) (y : F.ValType-F ValType Case Field) → out-ValType t ≡ y → HasCases y → ((n : ℕ) (u : ValType) → part_in (parts_case y) n ≡ Some u → Stops u)
    → ((memory : List ℕ) (place left : ℕ) → count_case y ≤ tag (count_case y) place memory → CountedFails memory place t left BadCase place)
    → ((memory : List ℕ) (place left n : ℕ) (u : ValType) (why : LiftWhy) (spot : ℕ) → tag (count_case y) place memory ≡ n → n < count_case y → part_in (parts_case y) n ≡ Some u
    → Fails memory (place + payload_place t) u left why spot → CountedFails memory place t left why spot)
    → Stops t
case_stops t y o kind stops bad fails =
    counted_stops t
    (λ memory place left e h.
    let n : ℕ = tag (count_case y) place memory in
    let found : Lifted (Option Value) = payload_of (part_in (parts (parts_case y)) n) memory (place + behind_tag (count_case y) (parts (parts_case y))) left in
    elim (if_err (nat_lt n (count_case y)) (made (values.Variant n) found) (trap BadCase place) e (sym (cases_are memory place left t y o kind) ∙ h)) [
      | inr p ↦ subst (λ (e : LiftTrap). CountedFails memory place t left e.why e.place) p.1 (bad memory place left (ltb-false n (count_case y) p.0))
      | inl p ↦
          let q = payload_stops (part_in (parts_case y) n) (stops n) memory (place + payload_place t) left e
          (sym (payload_is memory place left t y o kind n) ∙ made_err (values.Variant n) found e p.1) in
          fails memory place left n q.type e.why e.place refl (ltb-true n (count_case y) p.0) q.is q.fails
    ])
