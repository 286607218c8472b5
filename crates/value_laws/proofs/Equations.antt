-- How a value is lowered, by its kind, whatever enters handles.
use Rattle.std.proofs.Common.{◌≡◌, ◌∙◌, ◌+◌, ◌*◌, ℕ, List, [], ◌∷◌, ◌++◌, map, length, Option, Some, None, refl, ap, sym}
use Rattle.std.proofs.lemmas.List.{length-map}
use Rattle.syntax_trees.specs.declared.types.ValType.{ValType, out-ValType}
use Rattle.syntax_trees.specs.declared.types.Case.{Case}
use Rattle.syntax_trees.specs.declared.types.Field.{Field}
use Rattle.syntax_trees.specs.declared.types.ValType.TheOpen as F
use Rattle.syntax_trees.specs.declared.types.ValType.TheViews as types
use Rattle.syntax_trees.specs.declared.value.Value.{Value, roll-Value}
use Rattle.syntax_trees.specs.declared.value.Value.TheOpen as V
use Rattle.syntax_trees.specs.declared.value.Value.TheViews as values
use Rattle.syntax_trees.specs.declared.value.Value.TheVariants as plain
use Rattle.syntax_trees.specs.declared.value.Value.TheFolds.{map-Value, fold-roll-Value}
use Rattle.laid_types.specs.Layout.{laid, tag_size}
use Rattle.syntax_trees.specs.Flat.{flat}
use Rattle.laid_types.specs.Parts.{parts_of, parts_case, part_at, case_count, payload_place}
use Rattle.value_lower.specs.Plan.{New, Plan, Put}
use Rattle.value_lower.specs.Storing.{Lowered, plain_bytes, plain_word, number_bytes, asked, list_in, pointed, elements_from, fields_from, payload_at, case_from, field_words, payload_words, filled, case_words}
use Rattle.value_lower.specs.Entering.{store_case, words_case, lower_step, lowered, store, flat_words}
use Rattle.value_lift.proofs.Views.{out_list}
use Rattle.value_lift.specs.Leaves.{part_in}

-- numbers, which have neither parts nor an index
abbrev pub IsNumber : V.Value-F Value → Type 0
IsNumber (V.Bool b) = Unit {0}
IsNumber (V.S8 n) = Unit {0}
IsNumber (V.U8 n) = Unit {0}
IsNumber (V.S16 n) = Unit {0}
IsNumber (V.U16 n) = Unit {0}
IsNumber (V.S32 n) = Unit {0}
IsNumber (V.U32 n) = Unit {0}
IsNumber (V.S64 n) = Unit {0}
IsNumber (V.U64 n) = Unit {0}
IsNumber (V.Char c) = Unit {0}
IsNumber other = ⊥

-- the types of fields and places, as parts
abbrev pub somes : List ValType → List (Option ValType)
somes types = map (λ (t : ValType). Some t) types

module _ (enter : New → (ℕ → Plan) → Plan) where
  abbrev in_layer : V.Value-F Value → V.Value-F Lowered
  in_layer y = map-Value Value Lowered (lowered enter) y

  pub store_by : (v : Value) (y : V.Value-F Value) (t : ValType) (place : ℕ) (k : Plan) → roll-Value y ≡ v → store enter t v place k ≡ store_case enter (in_layer y) t place k
  store_by v y t place k e = ap (λ (l : Lowered). l.store t place k) (ap (lowered enter) (sym e) ∙ fold-roll-Value Lowered (lower_step enter) y)

  pub words_by : (v : Value) (y : V.Value-F Value) (t : ValType) (before : List ℕ) (K : List ℕ → Plan) → roll-Value y ≡ v → flat_words enter t v before K ≡ words_case enter (in_layer y) t before K
  words_by v y t before K e = ap (λ (l : Lowered). l.words t before K) (ap (lowered enter) (sym e) ∙ fold-roll-Value Lowered (lower_step enter) y)

  -- Numbers.
  case_number : (y : V.Value-F Value) (t : ValType) (place : ℕ) (k : Plan) → IsNumber y → store_case enter (in_layer y) t place k ≡ Put place (plain_bytes y) k
  case_number (V.Bool b) t place k h = refl
  case_number (V.S8 n) t place k h = refl
  case_number (V.U8 n) t place k h = refl
  case_number (V.S16 n) t place k h = refl
  case_number (V.U16 n) t place k h = refl
  case_number (V.S32 n) t place k h = refl
  case_number (V.U32 n) t place k h = refl
  case_number (V.S64 n) t place k h = refl
  case_number (V.U64 n) t place k h = refl
  case_number (V.Char c) t place k h = refl
  case_number other t place k h = absurd h

  word_number : (y : V.Value-F Value) (t : ValType) (before : List ℕ) (K : List ℕ → Plan) → IsNumber y → words_case enter (in_layer y) t before K ≡ K (before ++ plain_word y ∷ [])
  word_number (V.Bool b) t before K h = refl
  word_number (V.S8 n) t before K h = refl
  word_number (V.U8 n) t before K h = refl
  word_number (V.S16 n) t before K h = refl
  word_number (V.U16 n) t before K h = refl
  word_number (V.S32 n) t before K h = refl
  word_number (V.U32 n) t before K h = refl
  word_number (V.S64 n) t before K h = refl
  word_number (V.U64 n) t before K h = refl
  word_number (V.Char c) t before K h = refl
  word_number other t before K h = absurd h

  pub number_store : (v : Value) (y : V.Value-F Value) (t : ValType) (place : ℕ) (k : Plan) → roll-Value y ≡ v → IsNumber y → store enter t v place k ≡ Put place (plain_bytes y) k
  number_store v y t place k e h = store_by v y t place k e ∙ case_number y t place k h

  pub number_words : (v : Value) (y : V.Value-F Value) (t : ValType) (before : List ℕ) (K : List ℕ → Plan) → roll-Value y ≡ v → IsNumber y
      → flat_words enter t v before K ≡ K (before ++ plain_word y ∷ [])
  number_words v y t before K e h = words_by v y t before K e ∙ word_number y t before K h

  -- Lists, whose elements are so many.
  part_of_list : (element : ValType) → part_at (types.List element) 0 ≡ Some element
  part_of_list element = ap (λ (y : F.ValType-F ValType Case Field). part_in (parts_case y) 0) (out_list element)

  pub list_store : (element : ValType) (all : List Value) (count place : ℕ) (k : Plan) → length all ≡ count → store enter (types.List element) (values.List all) place k
      ≡ asked count (laid element).align (count * (laid element).size) (λ at. elements_from element at (map (lowered enter) all) (pointed place at count k))
  list_store element all count place k many =
      store_by (values.List all) (V.List all) (types.List element) place k (plain.rolls-List all)
      ∙ ap (λ (p : Option ValType). list_in p (map (lowered enter) all) (λ to. pointed place to (length (map (lowered enter) all)) k)) (part_of_list element)
      ∙ ap (λ (n : ℕ). asked n (laid element).align (n * (laid element).size) (λ at. elements_from element at (map (lowered enter) all) (pointed place at n k))) (length-map all (lowered enter) ∙ many)

  pub list_words : (element : ValType) (all : List Value) (count : ℕ) (before : List ℕ) (K : List ℕ → Plan) → length all ≡ count → flat_words enter (types.List element) (values.List all) before K
      ≡ asked count (laid element).align (count * (laid element).size) (λ at. elements_from element at (map (lowered enter) all) (K (before ++ at ∷ count ∷ [])))
  list_words element all count before K many =
      words_by (values.List all) (V.List all) (types.List element) before K (plain.rolls-List all)
      ∙ ap (λ (p : Option ValType). list_in p (map (lowered enter) all) (λ to. K (before ++ to ∷ length (map (lowered enter) all) ∷ []))) (part_of_list element)
      ∙ ap (λ (n : ℕ). asked n (laid element).align (n * (laid element).size) (λ at. elements_from element at (map (lowered enter) all) (K (before ++ at ∷ n ∷ [])))) (length-map all (lowered enter) ∙ many)

  -- Records and tuples, by the types of their parts.
  pub row_store : (t : ValType) (types : List ValType) (all : List Value) (place : ℕ) (k : Plan) → parts_of t ≡ somes types
      → store enter t (values.Record all) place k ≡ fields_from place 0 (somes types) (map (lowered enter) all) k
  row_store t types all place k e =
      store_by (values.Record all) (V.Record all) t place k (plain.rolls-Record all) ∙ ap (λ (ts : List (Option ValType)). fields_from place 0 ts (map (lowered enter) all) k) e

  pub row_words : (t : ValType) (types : List ValType) (all : List Value) (before : List ℕ) (K : List ℕ → Plan) → parts_of t ≡ somes types
      → flat_words enter t (values.Record all) before K ≡ field_words (somes types) (map (lowered enter) all) before K
  row_words t types all before K e =
      words_by (values.Record all) (V.Record all) t before K (plain.rolls-Record all) ∙ ap (λ (ts : List (Option ValType)). field_words ts (map (lowered enter) all) before K) e

  -- Cases, by the type of the payload.
  abbrev pub lowered_payload : Option Value → Option Lowered
  lowered_payload (Some v) = Some (lowered enter v)
  lowered_payload None = None

  variant_store : (t : ValType) (n : ℕ) (payload : Option Value) (place : ℕ) (k : Plan) → store enter t (values.Variant n payload) place k ≡ case_from t n (lowered_payload payload) place k
  variant_store t n (Some v) place k = store_by (values.Variant n (Some v)) (V.Variant n (Some v)) t place k (plain.rolls-Variant n (Some v))
  variant_store t n None place k = store_by (values.Variant n None) (V.Variant n None) t place k (plain.rolls-Variant n None)

  variant_words : (t : ValType) (n : ℕ) (payload : Option Value) (before : List ℕ) (K : List ℕ → Plan)
      → flat_words enter t (values.Variant n payload) before K ≡ case_words t n (lowered_payload payload) before K
  variant_words t n (Some v) before K = words_by (values.Variant n (Some v)) (V.Variant n (Some v)) t before K (plain.rolls-Variant n (Some v))
  variant_words t n None before K = words_by (values.Variant n None) (V.Variant n None) t before K (plain.rolls-Variant n None)

  pub case_store : (t : ValType) (n : ℕ) (p : Option ValType) (payload : Option Value) (place : ℕ) (k : Plan) → part_at t n ≡ p → store enter t (values.Variant n payload) place k
      ≡ Put place (number_bytes (tag_size (case_count t)) n) (payload_at p (lowered_payload payload) (place + payload_place t) k)
  case_store t n p payload place k e =
      variant_store t n payload place k
      ∙ ap (λ (o : Option ValType). Put place (number_bytes (tag_size (case_count t)) n) (payload_at o (lowered_payload payload) (place + payload_place t) k)) e

  pub case_flat : (t : ValType) (n : ℕ) (p : Option ValType) (payload : Option Value) (before : List ℕ) (K : List ℕ → Plan) → part_at t n ≡ p → flat_words enter t (values.Variant n payload) before K
      ≡ payload_words p (lowered_payload payload) (before ++ n ∷ []) (λ words. K (filled (length (flat t)) (length before) words))
  case_flat t n p payload before K e =
      variant_words t n payload before K
      ∙ ap (λ (o : Option ValType). payload_words o (lowered_payload payload) (before ++ n ∷ []) (λ words. K (filled (length (flat t)) (length before) words))) e

-- The part of a case, by the outer layer of the type.
pub case_at : (t : ValType) (y : F.ValType-F ValType Case Field) (n : ℕ) (p : Option ValType) → out-ValType t ≡ y → part_in (parts_case y) n ≡ p → part_at t n ≡ p
case_at t y n p e at = ap (λ (y : F.ValType-F ValType Case Field). part_in (parts_case y) n) e ∙ at
