-- What is written for types whose labels are counted is in its ranges: numbers, characters and texts, the flags, and the numbers of cases. So is what a
-- script passes that is read for exports of such types.
use Rattle.std.proofs.Common.{◌≡◌, ◌∙◌, ◌<◌, ◌≤◌, ◌^◌, ◌+◌, inl, inr, ℕ, zero, suc, Bool, true, false, cond, List, [], ◌∷◌, map, length, Option, Some, None, refl, ap, sym, subst, arith}
use Rattle.std.specs.Prelude.{ℤ, pos, negsuc, FitsSigned, nat_lt, IfSome}
use Rattle.std.specs.Int.{Width, w8, w16, w32, w64}
use Rattle.std.specs.List.{slice_get, find, AllByRecursion}
use Rattle.std.specs.Str.{bytes_eq}
use Rattle.std.proofs.lemmas.Bool.{and_parts, and_from, leb-true, ltb-true}
use Rattle.std.proofs.lemmas.List.Quantifiers.{position-Some}
use Rattle.syntax_trees.specs.declared.types.ValType.{ValType, out-ValType}
use Rattle.syntax_trees.specs.declared.types.Case.{Case}
use Rattle.syntax_trees.specs.declared.types.Field.{Field}
use Rattle.syntax_trees.specs.declared.types.Param.{Param}
use Rattle.syntax_trees.specs.declared.types.ValType.TheOpen as F
use Rattle.syntax_trees.specs.declared.types.ValType.TheViews as types
use Rattle.syntax_trees.specs.declared.types.ValType.TheVariants as leaves
use Rattle.syntax_trees.specs.declared.types.ValType.TheFolds.{map-ValType}
use Rattle.syntax_trees.specs.declared.value.Value.{Value}
use Rattle.syntax_trees.specs.declared.value.Value.TheViews as values
use Rattle.syntax_trees.specs.declared.exports.Export.{Export}
use Rattle.syntax_trees.proofs.Folds.{held, fold_case, fold_field}
use Rattle.value_lift.proofs.Layers.{by_layer}
use Rattle.value_lift.proofs.Views as seen
use Rattle.value_lower.specs.Lowering.{bits_of}
use Rattle.value_reader.specs.Syntax.{IsInRange}
use Rattle.value_reader.specs.Values.{place_of}
use Rattle.value_reader.specs.Writable.{all_true, true_if_some}
use Rattle.value_reader.specs.Written.{Place, bare, named, place_of_field, AreFlags, IsText, IsPayload, IsPlacedText, IsSpacedText, AreTexts, true_text, false_text, s8_text, u8_text, s16_text, u16_text, s32_text, u32_text, s64_text, u64_text, char_text, string_text, record_text, tuple_text, list_text, flags_text, enum_text, case_text, none_text, some_text, ok_text, err_text, no_payload, payload_text, bare_text, labelled_text, spaced_text, no_texts, one_text, more_texts}
use Rattle.script_reader.specs.declared.script.Call.{Call}
use Rattle.script_reader.specs.declared.script.Item.{Item}
use Rattle.script_reader.specs.declared.script.Item.TheVariants as item
use Rattle.script_reader.specs.Laws.{ScriptsAreTexts}
use Rattle.script_reader.specs.Script.{Script, export_named}
use Rattle.script_reader.specs.Syntax.{IsCallOf, SayItems, SayScript, IsScriptText}
use Rattle.link_spec.proofs.Holding.{all_at, holds_at}
use Rattle.lowering_laws.specs.Values.{InRange, AllInRange, bool_in, s8_in, u8_in, s16_in, u16_in, s32_in, u32_in, s64_in, u64_in, char_in, string_in, list_in, record_in, flags_in, case_in, payload_in, none_in, more_in}
use Rattle.graph_laws.specs.Counted.{counted_case, counted_field, labelled_step, is_labelled, HasLabelledTypes}
use Rattle.graph_laws.specs.Laws.{ReadScriptsPassInRange}
use Rattle.graph_laws.proofs.Counting.{scalar, bits_small, length_mapped}
use Rattle.graph_laws.proofs.Marked.{Layer}

-- The test of a type by its outer layer, and of a part that may be absent.
abbrev labelled_in : Layer → Bool
labelled_in y = labelled_step (map-ValType ValType Case Field Bool Bool Bool is_labelled (λ (c : Case). true_if_some (held is_labelled c.payload)) (λ (f : Field). is_labelled f.val_type) y)

labelled_is : (t : ValType) → is_labelled t ≡ labelled_in (out-ValType t)
labelled_is t =
    by_layer Bool Bool Bool labelled_step counted_case counted_field (λ (c : Case). true_if_some (held is_labelled c.payload)) (λ (f : Field). is_labelled f.val_type)
    (fold_case Bool Bool Bool labelled_step counted_case counted_field) (fold_field Bool Bool Bool labelled_step counted_case counted_field) t

abbrev IsLabelled : ValType → Type 0
IsLabelled t = is_labelled t ≡ true

abbrev IsHeldLabelled : Option ValType → Type 0
IsHeldLabelled o = true_if_some (held is_labelled o) ≡ true

by_out : (t : ValType) (y : Layer) → out-ValType t ≡ y → IsLabelled t → labelled_in y ≡ true
by_out t y e h = sym (ap (λ (z : Layer). labelled_in z) e) ∙ sym (labelled_is t) ∙ h

-- Places of values.
abbrev type_of : Place → ValType
type_of (bare t) = t
type_of (named label t) = t

abbrev AreLabelled : List Place → Type 0
AreLabelled places = AllByRecursion (λ (p : Place). IsLabelled (type_of p)) places

fields_labelled : (fields : List Field) → all_true (map (λ (f : Field). is_labelled f.val_type) fields) ≡ true → AreLabelled (map place_of_field fields)
fields_labelled [] h = tt
fields_labelled (f ∷ fields) h =
    let p = and_parts (is_labelled f.val_type) (all_true (map (λ (f : Field). is_labelled f.val_type) fields)) h in (p.0, fields_labelled fields p.1)

parts_labelled : (parts : List ValType) → all_true (map is_labelled parts) ≡ true → AreLabelled (map bare parts)
parts_labelled [] h = tt
parts_labelled (t ∷ parts) h = let p = and_parts (is_labelled t) (all_true (map is_labelled parts)) h in (p.0, parts_labelled parts p.1)

elements_labelled : (element : ValType) (all : List Value) → IsLabelled element → AreLabelled (map (λ (v : Value). bare element) all)
elements_labelled element [] h = tt
elements_labelled element (v ∷ all) h = (h, elements_labelled element all h)

-- Numbers and flags.
signed : (w : Width) (most : ℕ) (n : ℤ) → ((m : ℕ) → m ≤ most → FitsSigned w (pos m)) → ((m : ℕ) → m ≤ most → FitsSigned w (negsuc m)) → IsInRange most n → FitsSigned w n
signed w most (pos n) f g h = f n h
signed w most (negsuc n) f g h = g n h

as_many_flags : (labels : List (List ℕ)) (flags : List Bool) → AreFlags labels flags → length flags ≡ length labels
as_many_flags [] [] a = refl
as_many_flags [] (f ∷ flags) a = absurd a
as_many_flags (l ∷ labels) [] a = absurd a
as_many_flags (l ∷ labels) (true ∷ flags) a = ap (λ (n : ℕ). suc n) (as_many_flags labels flags a)
as_many_flags (l ∷ labels) (false ∷ flags) a = ap (λ (n : ℕ). suc n) (as_many_flags labels flags a.1)

flags_low : (labels : List (List ℕ)) (flags : List Bool) → labelled_in (F.Flags labels) ≡ true → AreFlags labels flags → bits_of flags < 2 ^ 32
flags_low labels flags few a =
    let many = as_many_flags labels flags a in
    let low = leb-true (length labels) 32 few in
    bits_small 32 flags (omega (arith, many, low))

-- Cases.
enum_low : (labels : List (List ℕ)) (n : ℕ) (label : List ℕ) → labelled_in (F.Enum labels) ≡ true → place_of label labels ≡ Some n → n < 2 ^ 32
enum_low labels n label few place =
    let low = ltb-true (length labels) (2 ^ 32) few in
    let there : n < length labels = (position-Some (λ (l : List ℕ). bytes_eq l label) labels n [] place).0 in
    omega (arith, low, there)

few_cases : (cases : List Case) → labelled_in (F.Variant cases) ≡ true → (length cases < 2 ^ 32) × (all_true (map (λ (c : Case). true_if_some (held is_labelled c.payload)) cases) ≡ true)
few_cases cases h =
    let p = and_parts (nat_lt (length (map (λ (c : Case). true_if_some (held is_labelled c.payload)) cases)) (2 ^ 32)) (all_true (map (λ (c : Case). true_if_some (held is_labelled c.payload)) cases)) h in
    let low = ltb-true (length (map (λ (c : Case). true_if_some (held is_labelled c.payload)) cases)) (2 ^ 32) p.0 in
    let same = length_mapped (λ (c : Case). true_if_some (held is_labelled c.payload)) cases in
    (omega (arith, low, same), p.1)

case_held : (cases : List Case) (n : ℕ) (c : Case) → all_true (map (λ (c : Case). true_if_some (held is_labelled c.payload)) cases) ≡ true → slice_get cases n ≡ Some c → (n < length cases) × IsHeldLabelled c.payload
case_held [] n c all h = cc
case_held (first ∷ cases) zero c all h =
    let p = and_parts (true_if_some (held is_labelled first.payload)) (all_true (map (λ (c : Case). true_if_some (held is_labelled c.payload)) cases)) all in
    let same : first ≡ c = cc in
    (omega arith, subst (λ (x : Case). IsHeldLabelled x.payload) same p.0)
case_held (first ∷ cases) (suc n) c all h =
    let p = and_parts (true_if_some (held is_labelled first.payload)) (all_true (map (λ (c : Case). true_if_some (held is_labelled c.payload)) cases)) all in
    let more = case_held cases n c p.1 h in
    let low : n < length cases = more.0 in
    (omega (arith, low), more.1)

halves : (ok err : Option ValType) → labelled_in (F.Result ok err) ≡ true → IsHeldLabelled ok × IsHeldLabelled err
halves None None h = (refl, refl)
halves None (Some e) h = (refl, h)
halves (Some o) None h = ((and_parts (is_labelled o) true h).0, refl)
halves (Some o) (Some e) h = and_parts (is_labelled o) (is_labelled e) h

abbrev IsAnyInRange : Option Value → Type 0
IsAnyInRange None = Unit {0}
IsAnyInRange (Some v) = InRange v

variant_ranged : (n : ℕ) (payload : Option Value) → n < 2 ^ 32 → IsAnyInRange payload → InRange (values.Variant n payload)
variant_ranged n None low h = case_in n low
variant_ranged n (Some v) low h = payload_in n v low h

-- A case of a variant that is labelled, with its payload.
case_ranged : (cases : List Case) (n : ℕ) (c : Case) (payload : Option Value) → IsLabelled (types.Variant cases) → slice_get cases n ≡ Some c → (IsHeldLabelled c.payload → IsAnyInRange payload) → InRange (values.Variant n payload)
case_ranged cases n c payload h there rest =
    let few = few_cases cases (by_out (types.Variant cases) (F.Variant cases) (seen.out_variant cases) h) in
    let found = case_held cases n c few.1 there in
    let count : length cases < 2 ^ 32 = few.0 in
    let low : n < length cases = found.0 in
    variant_ranged n payload (omega (arith, count, low)) (rest found.1)

mutual
  text_ranged : {t : ValType} {v : Value} {text : List ℕ} → IsText t v text → IsLabelled t → InRange v
  text_ranged true_text h = bool_in true
  text_ranged false_text h = bool_in false
  text_ranged (s8_text n text i r) h = s8_in n (signed w8 0x7F n (λ m low. record { sfits = omega (arith, low) }) (λ m low. record { sfits = omega (arith, low) }) r)
  text_ranged (u8_text n text i r) h = u8_in n (omega (arith, r))
  text_ranged (s16_text n text i r) h = s16_in n (signed w16 0x7FFF n (λ m low. record { sfits = omega (arith, low) }) (λ m low. record { sfits = omega (arith, low) }) r)
  text_ranged (u16_text n text i r) h = u16_in n (omega (arith, r))
  text_ranged (s32_text n text i r) h = s32_in n (signed w32 0x7FFFFFFF n (λ m low. record { sfits = omega (arith, low) }) (λ m low. record { sfits = omega (arith, low) }) r)
  text_ranged (u32_text n text i r) h = u32_in n (omega (arith, r))
  text_ranged (s64_text n text i r) h = s64_in n (signed w64 0x7FFFFFFFFFFFFFFF n (λ m low. record { sfits = omega (arith, low) }) (λ m low. record { sfits = omega (arith, low) }) r)
  text_ranged (u64_text n text i r) h = u64_in n (omega (arith, r))
  text_ranged (char_text c text i s) h = char_in c (scalar c (and_from _ true s refl))
  text_ranged (string_text s text i u) h = string_in s u
  text_ranged (record_text fields all text i) h =
      record_in all (texts_ranged i (fields_labelled fields (by_out (types.Record fields) (F.Record fields) (seen.out_record fields) h)))
  text_ranged (tuple_text parts all text i) h = record_in all (texts_ranged i (parts_labelled parts (by_out (types.Tuple parts) (F.Tuple parts) (seen.out_tuple parts) h)))
  text_ranged (list_text element all text i none) h =
      list_in all (texts_ranged i (elements_labelled element all (by_out (types.List element) (F.List element) (seen.out_list element) h)))
  text_ranged (flags_text labels flags text f l none) h =
      flags_in flags (flags_low labels flags (by_out (leaves.Flags labels) (F.Flags labels) (seen.out_flags labels) h) f)
  text_ranged (enum_text labels n label l place) h =
      case_in n (enum_low labels n label (by_out (leaves.Enum labels) (F.Enum labels) (seen.out_enum labels) h) place)
  text_ranged (case_text cases n c payload text l place there i) h = case_ranged cases n c payload h there (λ held_labelled. payload_ranged i held_labelled)
  text_ranged (none_text part) h = case_in 0 (omega arith)
  text_ranged (some_text part payload text i) h =
      variant_ranged 1 payload (omega arith) (payload_ranged i (by_out (types.Option part) (F.Option part) (seen.out_option part) h))
  text_ranged (ok_text ok err payload text i) h =
      variant_ranged 0 payload (omega arith) (payload_ranged i (halves ok err (by_out (types.Result ok err) (F.Result ok err) (seen.out_result ok err) h)).0)
  text_ranged (err_text ok err payload text i) h =
      variant_ranged 1 payload (omega arith) (payload_ranged i (halves ok err (by_out (types.Result ok err) (F.Result ok err) (seen.out_result ok err) h)).1)

  payload_ranged : {type : Option ValType} {payload : Option Value} {text : List ℕ} → IsPayload type payload text → IsHeldLabelled type → IsAnyInRange payload
  payload_ranged no_payload h = tt
  payload_ranged (payload_text t v blanks text b i) h = spaced_ranged i h

  placed_ranged : {p : Place} {v : Value} {text : List ℕ} → IsPlacedText p v text → IsLabelled (type_of p) → InRange v
  placed_ranged (bare_text t v text i) h = text_ranged i h
  placed_ranged (labelled_text label t v before between text l a b i) h = text_ranged i h

  spaced_ranged : {p : Place} {v : Value} {text : List ℕ} → IsSpacedText p v text → IsLabelled (type_of p) → InRange v
  spaced_ranged (spaced_text p v before text behind a i b) h = placed_ranged i h

  texts_ranged : {places : List Place} {all : List Value} {text : List ℕ} → AreTexts places all text → AreLabelled places → AllInRange all
  texts_ranged (no_texts blanks b) h = none_in
  texts_ranged (one_text p v text i) h = more_in v [] (spaced_ranged i h.0) none_in
  texts_ranged (more_texts p q places v w all first others i j) h = more_in v (w ∷ all) (spaced_ranged i h.0) (texts_ranged j h.1)

-- The arguments of calls.
found_here : {A : Type 0} (P : A → Type 0) (b : Bool) (x : A) (o : Option A) → P x → IfSome o P → IfSome (cond b (Some x) o) P
found_here P true x o h k = h
found_here P false x o h k = k

found_has : {A : Type 0} (P : A → Type 0) (test : A → Bool) (xs : List A) → AllByRecursion P xs → IfSome (find test xs) P
found_has P test [] h = tt
found_has P test (x ∷ xs) h = found_here P (test x) x (find test xs) h.0 (found_has P test xs h.1)

params_labelled : (params : List Param) → AllByRecursion (λ (p : Param). IsLabelled p.val_type) params → AreLabelled (map bare (map (λ (p : Param). p.val_type) params))
params_labelled [] h = tt
params_labelled (p ∷ params) h = (h.0, params_labelled params h.1)

abbrev HasLabels : Export → Type 0
HasLabels e = HasLabelledTypes e.func_type

call_ranged : (exports : List Export) (written : List ℕ) (call : Call) → AllByRecursion HasLabels exports → IsCallOf exports written call → AllInRange call.values
call_ranged exports written call labelled h =
    let labels : HasLabels h.1 = holds_at HasLabels (export_named exports call.name) h.1 (found_has HasLabels (λ (e : Export). bytes_eq e.name call.name) exports labelled) h.3 in
    texts_ranged h.5.4 (params_labelled h.1.func_type.params labels.params)

-- The items of a script.
abbrev PassesInRange : Item → Type 0
PassesInRange (item.Call call) = AllInRange call.values
PassesInRange (item.Cancel number) = Unit {0}

abbrev PassInRange : List Item → Type 0
PassInRange items = AllByRecursion PassesInRange items

items_ranged : (exports : List Export) (calls : ℕ) (texts : List (List ℕ)) (picks : List ℕ) (items : List Item) → AllByRecursion HasLabels exports → SayItems exports calls texts picks items → PassInRange items
items_ranged exports calls [] picks items labelled h = subst PassInRange (sym h.1) tt
items_ranged exports calls (text ∷ texts) picks items labelled (inl h) = items_ranged exports calls texts picks items labelled h.1
items_ranged exports calls (text ∷ texts) picks items labelled (inr (inl h)) =
    subst PassInRange (sym h.5) (call_ranged exports h.0 h.1 labelled h.4, items_ranged exports (calls + 1) texts picks h.2 labelled h.6)
items_ranged exports calls (text ∷ texts) picks items labelled (inr (inr (inl h))) =
    subst PassInRange (sym h.5) (tt, items_ranged exports calls texts picks h.2 labelled h.6)
items_ranged exports calls (text ∷ texts) picks items labelled (inr (inr (inr h))) = items_ranged exports calls texts h.2 items labelled h.6

script_ranged : (exports : List Export) (texts : List (List ℕ)) (s : Script) → AllByRecursion HasLabels exports → SayScript exports texts s → PassInRange s.items
script_ranged exports texts s labelled (inl h) = items_ranged exports 0 texts s.picks s.items labelled h.1
script_ranged exports texts s labelled (inr h) = items_ranged exports 0 h.2 s.picks s.items labelled h.6

written_ranged : (exports : List Export) (bytes : List ℕ) (s : Script) → AllByRecursion HasLabels exports → IsScriptText exports bytes s → PassInRange s.items
written_ranged exports bytes s labelled h = script_ranged exports h.2.1 s labelled h.2.4

pub read_scripts_pass_in_range : ScriptsAreTexts → ReadScriptsPassInRange
read_scripts_pass_in_range texts exports bytes s n call labelled read there =
    holds_at PassesInRange (slice_get s.items n) (item.Call call)
    (all_at PassesInRange s.items n (written_ranged exports bytes s labelled ((texts exports bytes s).0 read))) there
