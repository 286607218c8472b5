-- What lifts a value that is counted already, by the kind of its type, over the parts of the type and over any ledger.
use Rattle.std.proofs.Common.{◌≡◌, ◌∙◌, ◌+◌, ℕ, List, [], ◌∷◌, length, map, Option, Some, None, Ok, Err, Result, refl, ap, sym, subst, ◌⊎◌, inl, inr}
use Rattle.std.specs.Int.{w8, w32}
use Rattle.std.proofs.lemmas.List.{length-map}
use Rattle.syntax_trees.specs.declared.core_type.CoreType.{CoreType}
use Rattle.syntax_trees.specs.declared.core_type.CoreType.TheVariants.{I32}
use Rattle.syntax_trees.specs.declared.types.ValType.{ValType, out-ValType, roll-ValType}
use Rattle.syntax_trees.specs.declared.types.Case.{Case}
use Rattle.syntax_trees.specs.declared.types.Field.{Field}
use Rattle.syntax_trees.specs.declared.types.ValType.TheOpen as F
use Rattle.syntax_trees.specs.declared.types.ValType.TheViews as types
use Rattle.syntax_trees.specs.declared.types.ValType.TheViews.{roll-out-ValType}
use Rattle.syntax_trees.specs.declared.types.ValType.TheVariants as leaves
use Rattle.syntax_trees.specs.declared.value.Value.{Value}
use Rattle.syntax_trees.specs.declared.value.Value.TheViews as values
use Rattle.laid_types.specs.Layout.{Laid, laid, laid_step}
use Rattle.syntax_trees.specs.Flat.{flat, flat_step}
use Rattle.laid_types.specs.Parts.{parts_of, parts_case, case_count, count_case}
use Rattle.value_lift.specs.declared.named.Named.{Named}
use Rattle.value_lift.specs.declared.named.Named.TheVariants as named
use Rattle.value_lift.specs.Bytes.{number}
use Rattle.value_lift.specs.Leaves.{plain_of}
use Rattle.value_lift.specs.Named.{named_in, what_named, value_named}
use Rattle.value_lift.specs.Ledger.{Ledger, Came, made, counting, uncounted, reached}
use Rattle.value_lift.specs.Over.{Part, part, parts, payload_part, field_part, layer_of, lift, lift_words, lift_case, lift_word_case, string_of, fields_from, case_of, low, word_fields_from, word_case_of}
use Rattle.value_lift.proofs.OverTypes.{parts_over, lift_is_over, lift_words_is_over, layouts_in, laid_is, flats_in, flat_is}
use Rattle.value_lift.proofs.Views.{out_record, out_tuple, out_variant, out_enum, out_option, out_result}

-- A record or a tuple.
abbrev pub IsRow : F.ValType-F ValType Case Field → Type 0
IsRow (F.Record fields) = Unit {0}
IsRow (F.Tuple parts) = Unit {0}
IsRow other = ⊥

-- A variant, an enum, an option or a result.
abbrev pub HasCases : F.ValType-F ValType Case Field → Type 0
HasCases (F.Variant cases) = Unit {0}
HasCases (F.Enum labels) = Unit {0}
HasCases (F.Option part) = Unit {0}
HasCases (F.Result ok err) = Unit {0}
HasCases other = ⊥

-- A type without parts.
abbrev pub IsPlain : F.ValType-F ValType Case Field → Type 0
IsPlain F.String = ⊥
IsPlain (F.List element) = ⊥
IsPlain (F.Record fields) = ⊥
IsPlain (F.Tuple parts) = ⊥
IsPlain (F.Variant cases) = ⊥
IsPlain (F.Enum labels) = ⊥
IsPlain (F.Option part) = ⊥
IsPlain (F.Result ok err) = ⊥
IsPlain (F.Flags labels) = ⊥
IsPlain other = Unit {0}

-- These are the forms of types that are seen in the code.
pub is_row : (v t : ValType) → ((fields : List Field) × v ≡ types.Record fields) ⊎ ((parts : List ValType) × v ≡ types.Tuple parts) → v ≡ t → IsRow (out-ValType t)
is_row v t (inl r) e = subst (λ (u : ValType). IsRow (out-ValType u)) (sym r.1 ∙ e) (subst IsRow (sym (out_record r.0)) tt)
is_row v t (inr r) e = subst (λ (u : ValType). IsRow (out-ValType u)) (sym r.1 ∙ e) (subst IsRow (sym (out_tuple r.0)) tt)

pub has_cases : (v t : ValType)
    → ((cases : List Case) × v ≡ types.Variant cases) ⊎ (((labels : List (List ℕ)) × v ≡ leaves.Enum labels) ⊎ (((part : ValType) × v ≡ types.Option part) ⊎ ((ok : Option ValType) × (err : Option ValType) × v ≡ types.Result ok err)))
    → v ≡ t → HasCases (out-ValType t)
has_cases v t (inl r) e = subst (λ (u : ValType). HasCases (out-ValType u)) (sym r.1 ∙ e) (subst HasCases (sym (out_variant r.0)) tt)
has_cases v t (inr (inl r)) e = subst (λ (u : ValType). HasCases (out-ValType u)) (sym r.1 ∙ e) (subst HasCases (sym (out_enum r.0)) tt)
has_cases v t (inr (inr (inl r))) e = subst (λ (u : ValType). HasCases (out-ValType u)) (sym r.1 ∙ e) (subst HasCases (sym (out_option r.0)) tt)
has_cases v t (inr (inr (inr r))) e = subst (λ (u : ValType). HasCases (out-ValType u)) (sym r.2 ∙ e) (subst HasCases (sym (out_result r.0 r.1)) tt)

-- what is lifted once something is counted, and made into something
counting_made : {S G A B : Type 0} (r : Result S G) (f : A → B) (g : S → Came S G A) (h : S → Came S G B) → ((kept : S) → h kept ≡ made f (g kept)) → counting r h ≡ made f (counting r g)
counting_made (Ok kept) f g h e = e kept
counting_made (Err fault) f g h e = refl

-- a value that is told by an index takes four bytes, and one core value
named_size : (y : F.ValType-F ValType Case Field) (n : Named) → named_in y ≡ Some n → (laid_step (layouts_in y)).size ≡ 4
named_size (F.Own r) n h = refl
named_size (F.Borrow r) n h = refl
named_size (F.Stream e) n h = refl
named_size (F.Future e) n h = refl
named_size other n h = cc

pub named_room : (t : ValType) (n : Named) → named_in (out-ValType t) ≡ Some n → (laid t).size ≡ 4
named_room t n h = ap (λ (l : Laid). l.size) (laid_is t) ∙ named_size (out-ValType t) n h

named_flat : (y : F.ValType-F ValType Case Field) (n : Named) → named_in y ≡ Some n → flat_step (flats_in y) ≡ I32 ∷ []
named_flat (F.Own r) n h = refl
named_flat (F.Borrow r) n h = refl
named_flat (F.Stream e) n h = refl
named_flat (F.Future e) n h = refl
named_flat other n h = cc

pub named_words : (t : ValType) (n : Named) → named_in (out-ValType t) ≡ Some n → length (flat t) ≡ 1
named_words t n h = ap (λ (l : List CoreType). length l) (flat_is t ∙ named_flat (out-ValType t) n h)

module _ {S G : Type 0} (led : Ledger S G) where
  fields_parts : (fields : List Field) → map (λ (p : Part S G). Some p) (map (field_part led) fields) ≡ parts led (map (λ (f : Field). Some f.val_type) fields)
  fields_parts [] = refl
  fields_parts (f ∷ fields) = ap (λ (ps : List (Option (Part S G))). Some (part led f.val_type) ∷ ps) (fields_parts fields)

  places_parts : (types : List ValType) → map (λ (p : Part S G). Some p) (map (part led) types) ≡ parts led (map Some types)
  places_parts [] = refl
  places_parts (t ∷ types) = ap (λ (ps : List (Option (Part S G))). Some (part led t) ∷ ps) (places_parts types)

  cases_parts : (cases : List Case) → map (payload_part led) cases ≡ parts led (map (λ (c : Case). c.payload) cases)
  cases_parts [] = refl
  cases_parts (c ∷ cases) = ap (λ (ps : List (Option (Part S G))). payload_part led c ∷ ps) (cases_parts cases)

module _ {S G : Type 0} (led : Ledger S G) (memory : List ℕ) (place : ℕ) (kept : S) where
  row_layer : (y : F.ValType-F ValType Case Field) → IsRow y
      → lift_case led (parts_over led y) memory place kept ≡ made values.Record (fields_from led memory place [] 0 (parts led (parts_case y)) kept)
  row_layer (F.Record fields) h = ap (λ (ps : List (Option (Part S G))). made values.Record (fields_from led memory place [] 0 ps kept)) (fields_parts led fields)
  row_layer (F.Tuple types) h = ap (λ (ps : List (Option (Part S G))). made values.Record (fields_from led memory place [] 0 ps kept)) (places_parts led types)
  row_layer other h = absurd h

  cases_layer : (y : F.ValType-F ValType Case Field) → HasCases y
      → lift_case led (parts_over led y) memory place kept ≡ case_of led (count_case y) (parts led (parts_case y)) memory place kept
  cases_layer (F.Variant cases) h =
      ap (λ (n : ℕ). case_of led n (map (payload_part led) cases) memory place kept) (length-map cases (payload_part led))
      ∙ ap (λ (ps : List (Option (Part S G))). case_of led (length cases) ps memory place kept) (cases_parts led cases)
  cases_layer (F.Enum labels) h = refl
  cases_layer (F.Option part) h = refl
  cases_layer (F.Result None None) h = refl
  cases_layer (F.Result None (Some e)) h = refl
  cases_layer (F.Result (Some o) None) h = refl
  cases_layer (F.Result (Some o) (Some e)) h = refl
  cases_layer other h = absurd h

  plain_layer : (y : F.ValType-F ValType Case Field) → IsPlain y → named_in y ≡ None
      → lift_case led (parts_over led y) memory place kept ≡ uncounted led kept (plain_of y w8 (λ w. number w place memory) place)
  plain_layer F.Bool h e = refl
  plain_layer F.S8 h e = refl
  plain_layer F.U8 h e = refl
  plain_layer F.S16 h e = refl
  plain_layer F.U16 h e = refl
  plain_layer F.S32 h e = refl
  plain_layer F.U32 h e = refl
  plain_layer F.S64 h e = refl
  plain_layer F.U64 h e = refl
  plain_layer F.Char h e = refl
  plain_layer (F.Own n) h e = cc
  plain_layer (F.Borrow n) h e = cc
  plain_layer (F.Stream n) h e = cc
  plain_layer (F.Future n) h e = cc
  plain_layer other h e = absurd h

  pub row_lift_over : (t : ValType) → IsRow (out-ValType t)
      → lift_case led (layer_of led t) memory place kept ≡ made values.Record (fields_from led memory place [] 0 (parts led (parts_of t)) kept)
  row_lift_over t h = row_layer (out-ValType t) h

  pub cases_lift_over : (t : ValType) → HasCases (out-ValType t)
      → lift_case led (layer_of led t) memory place kept ≡ case_of led (case_count t) (parts led (parts_of t)) memory place kept
  cases_lift_over t h = cases_layer (out-ValType t) h

  pub plain_lift_over : (t : ValType) → IsPlain (out-ValType t) → named_in (out-ValType t) ≡ None
      → lift_case led (layer_of led t) memory place kept ≡ uncounted led kept (plain_of (out-ValType t) w8 (λ w. number w place memory) place)
  plain_lift_over t h e = plain_layer (out-ValType t) h e

  pub string_lift_over : (t : ValType) (at count : ℕ) → out-ValType t ≡ F.String → at ≡ number w32 place memory → count ≡ number w32 (place + 4) memory
      → lift_case led (layer_of led t) memory place kept ≡ string_of led at count memory place kept
  string_lift_over t at count h e f =
      ap (λ (y : F.ValType-F ValType Case Field). lift_case led (parts_over led y) memory place kept) h
      ∙ ap (λ (n : ℕ). string_of led n (number w32 (place + 4) memory) memory place kept) (sym e)
      ∙ ap (λ (n : ℕ). string_of led at n memory place kept) (sym f)

  -- what is taken for an index, of a type
  abbrev taken_for : ValType → Named → Came S G Value
  taken_for t n = made (value_named n) (led.take (record { what = what_named n t; index = number w32 place memory; place = place }) kept)

  -- a handle and an end
  index_layer : (y : F.ValType-F ValType Case Field) (n : Named) → named_in y ≡ Some n → lift_case led (parts_over led y) memory place kept ≡ taken_for (roll-ValType y) n
  index_layer (F.Own r) n h =
      let e : named.Own r ≡ n = cc in
      subst (λ (k : Named). lift_case led (parts_over led (F.Own r)) memory place kept ≡ taken_for (roll-ValType (F.Own r)) k) e refl
  index_layer (F.Borrow r) n h =
      let e : named.Borrow r ≡ n = cc in
      subst (λ (k : Named). lift_case led (parts_over led (F.Borrow r)) memory place kept ≡ taken_for (roll-ValType (F.Borrow r)) k) e refl
  index_layer (F.Stream None) n h =
      let e : named.Stream ≡ n = cc in
      subst (λ (k : Named). lift_case led (parts_over led (F.Stream None)) memory place kept ≡ taken_for (roll-ValType (F.Stream None)) k) e
      (ap (λ (t : ValType). taken_for t named.Stream) (sym (leaves.rolls-Stream None)))
  index_layer (F.Stream (Some p)) n h =
      let e : named.Stream ≡ n = cc in
      subst (λ (k : Named). lift_case led (parts_over led (F.Stream (Some p))) memory place kept ≡ taken_for (roll-ValType (F.Stream (Some p))) k) e
      (ap (λ (t : ValType). taken_for t named.Stream) (sym (leaves.rolls-Stream (Some p))))
  index_layer (F.Future None) n h =
      let e : named.Future ≡ n = cc in
      subst (λ (k : Named). lift_case led (parts_over led (F.Future None)) memory place kept ≡ taken_for (roll-ValType (F.Future None)) k) e
      (ap (λ (t : ValType). taken_for t named.Future) (sym (leaves.rolls-Future None)))
  index_layer (F.Future (Some p)) n h =
      let e : named.Future ≡ n = cc in
      subst (λ (k : Named). lift_case led (parts_over led (F.Future (Some p))) memory place kept ≡ taken_for (roll-ValType (F.Future (Some p))) k) e
      (ap (λ (t : ValType). taken_for t named.Future) (sym (leaves.rolls-Future (Some p))))
  index_layer other n h = cc

  index_case : (t : ValType) (n : Named) → named_in (out-ValType t) ≡ Some n → lift_case led (layer_of led t) memory place kept ≡ taken_for t n
  index_case t n h = index_layer (out-ValType t) n h ∙ ap (λ (u : ValType). taken_for u n) (roll-out-ValType t)

pub index_lift : {S G : Type 0} (led : Ledger S G) (t : ValType) (n : Named) (memory : List ℕ) (place : ℕ) (kept : S) → named_in (out-ValType t) ≡ Some n
    → lift led t memory place kept ≡ made (value_named n) (reached led (what_named n t) (number w32 place memory) place kept)
index_lift {S} {G} led t n memory place kept h =
    lift_is_over led t memory place kept
    ∙ counting_made (led.spend 1 place kept) (value_named n) (λ (k : S). led.take (record { what = what_named n t; index = number w32 place memory; place = place }) k)
    (λ (k : S). lift_case led (layer_of led t) memory place k) (λ (k : S). index_case led memory place k t n h)

module _ {S G : Type 0} (led : Ledger S G) (memory words : List ℕ) (at : ℕ) (kept : S) where
  row_words_layer : (y : F.ValType-F ValType Case Field) → IsRow y
      → lift_word_case led (parts_over led y) memory words at kept ≡ made values.Record (word_fields_from led memory words [] at (parts led (parts_case y)) kept)
  row_words_layer (F.Record fields) h = ap (λ (ps : List (Option (Part S G))). made values.Record (word_fields_from led memory words [] at ps kept)) (fields_parts led fields)
  row_words_layer (F.Tuple types) h = ap (λ (ps : List (Option (Part S G))). made values.Record (word_fields_from led memory words [] at ps kept)) (places_parts led types)
  row_words_layer other h = absurd h

  cases_words_layer : (y : F.ValType-F ValType Case Field) → HasCases y
      → lift_word_case led (parts_over led y) memory words at kept ≡ word_case_of led (count_case y) (parts led (parts_case y)) memory words at kept
  cases_words_layer (F.Variant cases) h =
      ap (λ (n : ℕ). word_case_of led n (map (payload_part led) cases) memory words at kept) (length-map cases (payload_part led))
      ∙ ap (λ (ps : List (Option (Part S G))). word_case_of led (length cases) ps memory words at kept) (cases_parts led cases)
  cases_words_layer (F.Enum labels) h = refl
  cases_words_layer (F.Option part) h = refl
  cases_words_layer (F.Result None None) h = refl
  cases_words_layer (F.Result None (Some e)) h = refl
  cases_words_layer (F.Result (Some o) None) h = refl
  cases_words_layer (F.Result (Some o) (Some e)) h = refl
  cases_words_layer other h = absurd h

  plain_words_layer : (y : F.ValType-F ValType Case Field) → IsPlain y → named_in y ≡ None
      → lift_word_case led (parts_over led y) memory words at kept ≡ uncounted led kept (plain_of y w32 (λ w. low w at words) at)
  plain_words_layer F.Bool h e = refl
  plain_words_layer F.S8 h e = refl
  plain_words_layer F.U8 h e = refl
  plain_words_layer F.S16 h e = refl
  plain_words_layer F.U16 h e = refl
  plain_words_layer F.S32 h e = refl
  plain_words_layer F.U32 h e = refl
  plain_words_layer F.S64 h e = refl
  plain_words_layer F.U64 h e = refl
  plain_words_layer F.Char h e = refl
  plain_words_layer (F.Own n) h e = cc
  plain_words_layer (F.Borrow n) h e = cc
  plain_words_layer (F.Stream n) h e = cc
  plain_words_layer (F.Future n) h e = cc
  plain_words_layer other h e = absurd h

  pub row_words_over : (t : ValType) → IsRow (out-ValType t)
      → lift_word_case led (layer_of led t) memory words at kept ≡ made values.Record (word_fields_from led memory words [] at (parts led (parts_of t)) kept)
  row_words_over t h = row_words_layer (out-ValType t) h

  pub cases_words_over : (t : ValType) → HasCases (out-ValType t)
      → lift_word_case led (layer_of led t) memory words at kept ≡ word_case_of led (case_count t) (parts led (parts_of t)) memory words at kept
  cases_words_over t h = cases_words_layer (out-ValType t) h

  pub plain_words_over : (t : ValType) → IsPlain (out-ValType t) → named_in (out-ValType t) ≡ None
      → lift_word_case led (layer_of led t) memory words at kept ≡ uncounted led kept (plain_of (out-ValType t) w32 (λ w. low w at words) at)
  plain_words_over t h e = plain_words_layer (out-ValType t) h e

  pub string_words_over : (t : ValType) (from count : ℕ) → out-ValType t ≡ F.String → from ≡ low w32 at words → count ≡ low w32 (at + 1) words
      → lift_word_case led (layer_of led t) memory words at kept ≡ string_of led from count memory at kept
  string_words_over t from count h e f =
      ap (λ (y : F.ValType-F ValType Case Field). lift_word_case led (parts_over led y) memory words at kept) h
      ∙ ap (λ (n : ℕ). string_of led n (low w32 (at + 1) words) memory at kept) (sym e)
      ∙ ap (λ (n : ℕ). string_of led from n memory at kept) (sym f)

  -- what is taken for an index, of a type
  abbrev word_taken_for : ValType → Named → Came S G Value
  word_taken_for t n = made (value_named n) (led.take (record { what = what_named n t; index = low w32 at words; place = at }) kept)

  -- a handle and an end
  index_word_layer : (y : F.ValType-F ValType Case Field) (n : Named) → named_in y ≡ Some n → lift_word_case led (parts_over led y) memory words at kept ≡ word_taken_for (roll-ValType y) n
  index_word_layer (F.Own r) n h =
      let e : named.Own r ≡ n = cc in
      subst (λ (k : Named). lift_word_case led (parts_over led (F.Own r)) memory words at kept ≡ word_taken_for (roll-ValType (F.Own r)) k) e refl
  index_word_layer (F.Borrow r) n h =
      let e : named.Borrow r ≡ n = cc in
      subst (λ (k : Named). lift_word_case led (parts_over led (F.Borrow r)) memory words at kept ≡ word_taken_for (roll-ValType (F.Borrow r)) k) e refl
  index_word_layer (F.Stream None) n h =
      let e : named.Stream ≡ n = cc in
      subst (λ (k : Named). lift_word_case led (parts_over led (F.Stream None)) memory words at kept ≡ word_taken_for (roll-ValType (F.Stream None)) k) e
      (ap (λ (t : ValType). word_taken_for t named.Stream) (sym (leaves.rolls-Stream None)))
  index_word_layer (F.Stream (Some p)) n h =
      let e : named.Stream ≡ n = cc in
      subst (λ (k : Named). lift_word_case led (parts_over led (F.Stream (Some p))) memory words at kept ≡ word_taken_for (roll-ValType (F.Stream (Some p))) k) e
      (ap (λ (t : ValType). word_taken_for t named.Stream) (sym (leaves.rolls-Stream (Some p))))
  index_word_layer (F.Future None) n h =
      let e : named.Future ≡ n = cc in
      subst (λ (k : Named). lift_word_case led (parts_over led (F.Future None)) memory words at kept ≡ word_taken_for (roll-ValType (F.Future None)) k) e
      (ap (λ (t : ValType). word_taken_for t named.Future) (sym (leaves.rolls-Future None)))
  index_word_layer (F.Future (Some p)) n h =
      let e : named.Future ≡ n = cc in
      subst (λ (k : Named). lift_word_case led (parts_over led (F.Future (Some p))) memory words at kept ≡ word_taken_for (roll-ValType (F.Future (Some p))) k) e
      (ap (λ (t : ValType). word_taken_for t named.Future) (sym (leaves.rolls-Future (Some p))))
  index_word_layer other n h = cc

  index_word_case : (t : ValType) (n : Named) → named_in (out-ValType t) ≡ Some n → lift_word_case led (layer_of led t) memory words at kept ≡ word_taken_for t n
  index_word_case t n h = index_word_layer (out-ValType t) n h ∙ ap (λ (u : ValType). word_taken_for u n) (roll-out-ValType t)

pub index_words : {S G : Type 0} (led : Ledger S G) (t : ValType) (n : Named) (memory words : List ℕ) (at : ℕ) (kept : S) → named_in (out-ValType t) ≡ Some n
    → lift_words led t memory words at kept ≡ made (value_named n) (reached led (what_named n t) (low w32 at words) at kept)
index_words {S} {G} led t n memory words at kept h =
    lift_words_is_over led t memory words at kept
    ∙ counting_made (led.spend 1 at kept) (value_named n) (λ (k : S). led.take (record { what = what_named n t; index = low w32 at words; place = at }) k)
    (λ (k : S). lift_word_case led (layer_of led t) memory words at k) (λ (k : S). index_word_case led memory words at k t n h)
