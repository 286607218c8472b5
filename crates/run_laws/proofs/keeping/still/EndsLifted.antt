-- What is so of each end that a lifting takes is so of the ends in the value that is lifted.
use Rattle.std.proofs.Common.{◌≡◌, ◌<◌, ◌+◌, ◌*◌, ℕ, zero, suc, Bool, true, false, if◌then◌else◌, List, [], ◌∷◌, ◌++◌, map, length, refl, sym, ap, subst, arith, append-nil, append_assoc, Option, Some, None, Result, Ok, Err, ◌∙◌, ℤ}
use Rattle.std.specs.Prelude.{◌==◌, nat_lt}
use Rattle.std.specs.List.{slice_get}
use Rattle.std.specs.Int.{w32}
use Rattle.std.specs.Str.{is_utf8}
use Rattle.std.proofs.lemmas.Bool.{ltb-true}
use Rattle.builtin_kinds.specs.declared.EndKind.TheVariants as end_kind
use Rattle.syntax_trees.specs.declared.types.ValType.{ValType, roll-ValType}
use Rattle.syntax_trees.specs.declared.types.Case.{Case}
use Rattle.syntax_trees.specs.declared.types.Field.{Field}
use Rattle.syntax_trees.specs.declared.types.ValType.TheOpen as F
use Rattle.syntax_trees.specs.declared.types.ValType.TheViews as types
use Rattle.syntax_trees.specs.declared.types.ValType.TheViews.{roll-Case, roll-Field, out-roll-ValType}
use Rattle.syntax_trees.specs.declared.types.ValType.TheVariants as leaves
use Rattle.syntax_trees.specs.declared.types.ValType.TheFolds.{ind-ValType, map-ValType, map-Case, map-Field, fold-Case, fold-Field, fold-roll-ValType}
use Rattle.syntax_trees.proofs.Folds.{held, fold_case, fold_field}
use Rattle.laid_types.specs.Layout.{tag_size, bits_size, aligned}
use Rattle.syntax_trees.specs.declared.value.Value.{Value, roll-Value}
use Rattle.syntax_trees.specs.declared.value.Value.TheViews as values
use Rattle.syntax_trees.specs.declared.value.Value.TheVariants as plain
use Rattle.value_lift.specs.declared.trap.LiftWhy.TheVariants.{Bounds, BadChar, BadUtf8}
use Rattle.value_lift.specs.Answers.{trap}
use Rattle.value_lift.specs.Bytes.{number, bytes_at, is_inside, is_aligned, width_of, is_scalar, flags_from}
use Rattle.value_lift.specs.Pieces.{part_in, char_of, text_of, flags_of}
use Rattle.value_lift.specs.Lifting.{low}
use Rattle.abi_machine.specs.LiftingOver.{Use, Ledger, Came, Part, CasePart, FieldPart, What, AnOwn, ABorrow, AnEnd, in_fields, in_cases, behind_tag, case_by, field_by}
use Rattle.abi_machine.specs.LiftingOver as over
use Rattle.std.specs.Option.{option_and_then}
use Rattle.syntax_trees.specs.declared.value.Handle.{Handle}
use Rattle.syntax_trees.specs.declared.value.Value.TheOpen as V
use Rattle.syntax_trees.specs.declared.value.Value.TheFolds.{map-Value, fold-roll-Value}
use Rattle.comp_graph.specs.Graph.{ends_type}
use Rattle.laid_types.specs.Parts.{parts_of, parts_case, part_at}
use Rattle.abi_machine.proofs.sound.Found.{some_same}
use Rattle.run_laws.proofs.keeping.Planned.{Ends, AreAll, ends_typed, end_steps, in_elements, in_list, in_payload}
use Rattle.run_laws.proofs.keeping.Planned as ends

-- The parts of types.
abbrev some_type : ValType → Option ValType
some_type t = Some t

pub parts_rolled : (x : F.ValType-F ValType Case Field) (t : ValType) → roll-ValType x ≡ t → parts_of t ≡ parts_case x
parts_rolled x t rolls = ap parts_of (sym rolls) ∙ ap parts_case (out-roll-ValType x)

abbrev part_in_all : List (Option ValType) → ℕ → Option ValType
part_in_all all n = option_and_then (λ part. part) (slice_get all n)

list_part : (e : ValType) → part_at (types.List e) 0 ≡ Some e
list_part e = ap (λ (all : List (Option ValType)). part_in_all all 0) (parts_rolled (F.List e) (types.List e) (leaves.rolls-List e))

two_maps : (fields : List Field) → map (λ (f : Field). some_type f.val_type) fields ≡ map some_type (map (λ (f : Field). f.val_type) fields)
two_maps [] = refl
two_maps (f ∷ fields) = ap (λ (more : List (Option ValType)). some_type f.val_type ∷ more) (two_maps fields)

record_parts : (fields : List Field) → parts_of (types.Record fields) ≡ map some_type (map (λ (f : Field). f.val_type) fields)
record_parts fields = parts_rolled (F.Record fields) (types.Record fields) (leaves.rolls-Record fields) ∙ two_maps fields

tuple_parts : (ts : List ValType) → parts_of (types.Tuple ts) ≡ map some_type ts
tuple_parts ts = parts_rolled (F.Tuple ts) (types.Tuple ts) (leaves.rolls-Tuple ts)

case_part_at : (cases : List Case) (n : ℕ) (c : Case) → slice_get cases n ≡ Some c → part_in_all (map (λ (x : Case). x.payload) cases) n ≡ c.payload
case_part_at [] n c e = absurd (cc)
case_part_at (x ∷ cases) zero c e = ap (λ (y : Case). y.payload) (some_same e)
case_part_at (x ∷ cases) (suc n) c e = case_part_at cases n c e

variant_part : (cases : List Case) (n : ℕ) (c : Case) → slice_get cases n ≡ Some c → part_at (types.Variant cases) n ≡ c.payload
variant_part cases n c e =
    ap (λ (all : List (Option ValType)). part_in_all all n) (parts_rolled (F.Variant cases) (types.Variant cases) (leaves.rolls-Variant cases)) ∙ case_part_at cases n c e

none_in : (n : ℕ) → part_in_all [] n ≡ None
none_in zero = refl
none_in (suc n) = refl

enum_part : (labels : List (List ℕ)) (n : ℕ) → part_at (leaves.Enum labels) n ≡ None
enum_part labels n = ap (λ (all : List (Option ValType)). part_in_all all n) (parts_rolled (F.Enum labels) (leaves.Enum labels) (leaves.rolls-Enum labels)) ∙ none_in n

option_none : (t : ValType) → part_at (types.Option t) 0 ≡ None
option_none t = ap (λ (all : List (Option ValType)). part_in_all all 0) (parts_rolled (F.Option t) (types.Option t) (leaves.rolls-Option t))

option_some : (t : ValType) → part_at (types.Option t) 1 ≡ Some t
option_some t = ap (λ (all : List (Option ValType)). part_in_all all 1) (parts_rolled (F.Option t) (types.Option t) (leaves.rolls-Option t))

result_ok : (ok err : Option ValType) → part_at (types.Result ok err) 0 ≡ ok
result_ok ok err = ap (λ (all : List (Option ValType)). part_in_all all 0) (parts_rolled (F.Result ok err) (types.Result ok err) (leaves.rolls-Result ok err))

result_err : (ok err : Option ValType) → part_at (types.Result ok err) 1 ≡ err
result_err ok err = ap (λ (all : List (Option ValType)). part_in_all all 1) (parts_rolled (F.Result ok err) (types.Result ok err) (leaves.rolls-Result ok err))

-- What is so of the ends in a value of a type, with the types of their streams and futures, by what the value is.
module _ (P : ValType → ℕ → Type 0) where
  abbrev pub IsOf : ValType → Value → Type 0
  IsOf t v = AreAll P (ends_typed v t)

  abbrev pub AllAre : ValType → List Value → Type 0
  AllAre t [] = Unit {0}
  AllAre t (v ∷ all) = IsOf t v × AllAre t all

  abbrev pub EachIs : List ValType → List Value → Type 0
  EachIs [] [] = Unit {0}
  EachIs [] (v ∷ all) = ⊥
  EachIs (t ∷ ts) [] = ⊥
  EachIs (t ∷ ts) (v ∷ all) = IsOf t v × EachIs ts all

  abbrev pub PayloadIs : Option ValType → Option Value → Type 0
  PayloadIs None None = Unit {0}
  PayloadIs None (Some v) = ⊥
  PayloadIs (Some t) None = ⊥
  PayloadIs (Some t) (Some v) = IsOf t v

  by_layer : (w : V.Value-F Value) (v : Value) (t : ValType) → roll-Value w ≡ v → AreAll P (end_steps (map-Value Value (ValType → Ends) ends_typed w) t) → IsOf t v
  by_layer w v t rolls h =
      subst (λ (x : Value). AreAll P (ends_typed x t)) rolls
      (subst (λ (f : ValType → Ends). AreAll P (f t)) (sym (fold-roll-Value (ValType → Ends) end_steps w)) h)

  both_all : (xs ys : Ends) → AreAll P xs → AreAll P ys → AreAll P (xs ++ ys)
  both_all [] ys p q = q
  both_all (x ∷ xs) ys p q = (p.0, both_all xs ys p.1 q)

  pub elements_so : (t : ValType) (all : List Value) → AllAre t all → AreAll P (in_elements t (map ends_typed all))
  elements_so t [] h = tt
  elements_so t (v ∷ all) h = both_all (ends_typed v t) (in_elements t (map ends_typed all)) h.0 (elements_so t all h.1)

  fields_so : (ts : List ValType) (all : List Value) → EachIs ts all → AreAll P (ends.in_fields (map (λ (t : ValType). Some t) ts) (map ends_typed all))
  fields_so [] [] h = tt
  fields_so [] (v ∷ all) h = absurd h
  fields_so (t ∷ ts) [] h = absurd h
  fields_so (t ∷ ts) (v ∷ all) h = both_all (ends_typed v t) (ends.in_fields (map (λ (u : ValType). Some u) ts) (map ends_typed all)) h.0 (fields_so ts all h.1)

  -- by what each is
  bool_is : (t : ValType) (b : Bool) → IsOf t (plain.Bool b)
  bool_is t b = by_layer (V.Bool b) (plain.Bool b) t (plain.rolls-Bool b) tt

  s8_is : (t : ValType) (n : ℤ) → IsOf t (plain.S8 n)
  s8_is t n = by_layer (V.S8 n) (plain.S8 n) t (plain.rolls-S8 n) tt

  u8_is : (t : ValType) (n : ℕ) → IsOf t (plain.U8 n)
  u8_is t n = by_layer (V.U8 n) (plain.U8 n) t (plain.rolls-U8 n) tt

  s16_is : (t : ValType) (n : ℤ) → IsOf t (plain.S16 n)
  s16_is t n = by_layer (V.S16 n) (plain.S16 n) t (plain.rolls-S16 n) tt

  u16_is : (t : ValType) (n : ℕ) → IsOf t (plain.U16 n)
  u16_is t n = by_layer (V.U16 n) (plain.U16 n) t (plain.rolls-U16 n) tt

  s32_is : (t : ValType) (n : ℤ) → IsOf t (plain.S32 n)
  s32_is t n = by_layer (V.S32 n) (plain.S32 n) t (plain.rolls-S32 n) tt

  u32_is : (t : ValType) (n : ℕ) → IsOf t (plain.U32 n)
  u32_is t n = by_layer (V.U32 n) (plain.U32 n) t (plain.rolls-U32 n) tt

  s64_is : (t : ValType) (n : ℤ) → IsOf t (plain.S64 n)
  s64_is t n = by_layer (V.S64 n) (plain.S64 n) t (plain.rolls-S64 n) tt

  u64_is : (t : ValType) (n : ℕ) → IsOf t (plain.U64 n)
  u64_is t n = by_layer (V.U64 n) (plain.U64 n) t (plain.rolls-U64 n) tt

  char_is : (t : ValType) (n : ℕ) → IsOf t (plain.Char n)
  char_is t n = by_layer (V.Char n) (plain.Char n) t (plain.rolls-Char n) tt

  string_is : (t : ValType) (text : List ℕ) → IsOf t (plain.String text)
  string_is t text = by_layer (V.String text) (plain.String text) t (plain.rolls-String text) tt

  flags_are : (t : ValType) (labels : List (List ℕ)) (bits : ℕ) → IsOf t (flags_of labels bits)
  flags_are t labels bits = by_layer (V.Flags (flags_from [] labels bits)) (plain.Flags (flags_from [] labels bits)) t (plain.rolls-Flags (flags_from [] labels bits)) tt

  own_is : (t : ValType) (h : Handle) → IsOf t (plain.Own h)
  own_is t h = by_layer (V.Own h) (plain.Own h) t (plain.rolls-Own h) tt

  borrow_is : (t : ValType) (h : Handle) → IsOf t (plain.Borrow h)
  borrow_is t h = by_layer (V.Borrow h) (plain.Borrow h) t (plain.rolls-Borrow h) tt

  stream_is : (t : ValType) (n : ℕ) → P t n → IsOf t (plain.Stream n)
  stream_is t n p = by_layer (V.Stream n) (plain.Stream n) t (plain.rolls-Stream n) (p, tt)

  future_is : (t : ValType) (n : ℕ) → P t n → IsOf t (plain.Future n)
  future_is t n p = by_layer (V.Future n) (plain.Future n) t (plain.rolls-Future n) (p, tt)

  list_is : (t u : ValType) (all : List Value) → part_at t 0 ≡ Some u → AllAre u all → IsOf t (values.List all)
  list_is t u all is h =
      by_layer (V.List all) (values.List all) t (plain.rolls-List all)
      (subst (λ (o : Option ValType). AreAll P (in_list o (map ends_typed all))) (sym is) (elements_so u all h))

  row_is : (t : ValType) (ts : List ValType) (all : List Value) → parts_of t ≡ map (λ (u : ValType). Some u) ts → EachIs ts all → IsOf t (values.Record all)
  row_is t ts all is h =
      by_layer (V.Record all) (values.Record all) t (plain.rolls-Record all)
      (subst (λ (os : List (Option ValType)). AreAll P (ends.in_fields os (map ends_typed all))) (sym is) (fields_so ts all h))

  case_is : (t : ValType) (n : ℕ) (p : Option ValType) (o : Option Value) → part_at t n ≡ p → PayloadIs p o → IsOf t (values.Variant n o)
  case_is t n None None is h = by_layer (V.Variant n None) (values.Variant n None) t (plain.rolls-Variant n None) tt
  case_is t n None (Some v) is h = absurd h
  case_is t n (Some u) None is h = absurd h
  case_is t n (Some u) (Some v) is h =
      by_layer (V.Variant n (Some v)) (values.Variant n (Some v)) t (plain.rolls-Variant n (Some v))
      (subst (λ (q : Option ValType). AreAll P (in_payload q (ends_typed v))) (sym is) h)

  -- Values behind others.
  one_more : (t : ValType) (all : List Value) (v : Value) → AllAre t all → IsOf t v → AllAre t (all ++ v ∷ [])
  one_more t [] v h is = (is, tt)
  one_more t (u ∷ all) v h is = (h.0, one_more t all v h.1 is)

  next_field : (ts : List ValType) (all : List Value) → EachIs ts all → (t : ValType) (v : Value) → IsOf t v → EachIs (ts ++ t ∷ []) (all ++ v ∷ [])
  next_field [] [] h t v is = (is, tt)
  next_field [] (u ∷ all) h t v is = absurd h
  next_field (x ∷ ts) [] h t v is = absurd h
  next_field (x ∷ ts) (u ∷ all) h t v is = (h.0, next_field ts all h.1 t v is)

  -- what a handle names
  abbrev pub IsLowFor : What → ℕ → Type 0
  IsLowFor (AnOwn resource) n = Unit {0}
  IsLowFor (ABorrow resource) n = Unit {0}
  IsLowFor (AnEnd kind element) n = P (ends_type kind element) n

  module _ {S T : Type 0} (l : Ledger S T) (K : S → Type 0) where
    abbrev pub SpentSo : Result S T → Type 0
    SpentSo (Ok s) = K s
    SpentSo (Err fault) = Unit {0}

    -- What is lifted is so, and so is what is kept behind it.
    abbrev pub Comes : {A : Type 0} → (A → Type 0) → Came S T A → Type 0
    Comes P (Ok x) = P x.0 × K x.1
    Comes P (Err fault) = Unit {0}

  module _ {S T : Type 0} (l : Ledger S T) (K : S → Type 0) (spends : (many place : ℕ) (s : S) → K s → SpentSo l K (l.spend many place s))
      (takes : (u : Use) (s : S) → K s → Comes l K (IsLowFor u.what) (l.take u s)) (typed : (t : ValType) → (over.part l t).type ≡ t) where
    abbrev Gives : {A : Type 0} → (A → Type 0) → Came S T A → Type 0
    Gives P c = Comes l K P c

    after_gives : {A C : Type 0} (P : A → Type 0) (R : C → Type 0) (c : Came S T A) (f : A → S → Came S T C) → Gives P c → ((x : A) (s : S) → P x → K s → Gives R (f x s)) → Gives R (over.after c f)
    after_gives P R (Ok x) f h more = more x.0 x.1 h.0 h.1
    after_gives P R (Err fault) f h more = tt

    made_gives : {A C : Type 0} (P : A → Type 0) (R : C → Type 0) (f : A → C) (c : Came S T A) → ((x : A) → P x → R (f x)) → Gives P c → Gives R (over.made f c)
    made_gives P R f (Ok x) keeps h = (keeps x.0 h.0, h.1)
    made_gives P R f (Err fault) keeps h = tt

    counting_gives : {A : Type 0} (P : A → Type 0) (r : Result S T) (f : S → Came S T A) → SpentSo l K r → ((s : S) → K s → Gives P (f s)) → Gives P (over.counting r f)
    counting_gives P (Ok s) f k h = h s k
    counting_gives P (Err fault) f k h = tt

    either_gives : {A : Type 0} (P : A → Type 0) (b : Bool) (c d : Came S T A) → (b ≡ true → Gives P c) → Gives P d → Gives P (if b then c else d)
    either_gives P true c d h i = h refl
    either_gives P false c d h i = i

    -- what a part lifts, of a type
    abbrev Lifts : ValType → Part S T → Type 0
    Lifts t p =
        ((memory : List ℕ) (place : ℕ) (s : S) → Unit {0} → K s → Gives (IsOf t) (p.lift memory place s))
        × ((memory words : List ℕ) (at : ℕ) (s : S) → Unit {0} → K s → Gives (IsOf t) (p.lift_words memory words at s))

    abbrev LiftsAny : Option ValType → Option (Part S T) → Type 0
    LiftsAny None None = Unit {0}
    LiftsAny (Some t) (Some p) = Lifts t p
    LiftsAny None (Some p) = ⊥
    LiftsAny (Some t) None = ⊥

    abbrev LiftAll : List ValType → List (Part S T) → Type 0
    LiftAll [] [] = Unit {0}
    LiftAll [] (p ∷ ps) = ⊥
    LiftAll (t ∷ ts) [] = ⊥
    LiftAll (t ∷ ts) (p ∷ ps) = Lifts t p × LiftAll ts ps

    abbrev LiftCases : List Case → List (Option (Part S T)) → Type 0
    LiftCases [] [] = Unit {0}
    LiftCases [] (o ∷ os) = ⊥
    LiftCases (c ∷ cs) [] = ⊥
    LiftCases (c ∷ cs) (o ∷ os) = LiftsAny c.payload o × LiftCases cs os

    -- Elements.
    elements_give : (t : ValType) (e : Part S T) (memory : List ℕ) (before : List Value) (count at : ℕ) (s : S) → Lifts t e → Unit {0} → AllAre t before → K s → Gives (AllAre t) (over.elements_from l e memory before count at s)
    elements_give t e memory before zero at s h bytes all k = (all, k)
    elements_give t e memory before (suc count) at s h bytes all k =
        after_gives (IsOf t) (AllAre t) (e.lift memory at s) _ (h.0 memory at s bytes k) (λ v u is kept. elements_give t e memory (before ++ v ∷ []) count (at + e.laid.size) u h bytes (one_more t before v all is) kept)

    list_gives : (t : ValType) (e : Part S T) (at count : ℕ) (memory : List ℕ) (place : ℕ) (s : S) → Lifts t e → Unit {0} → K s → Gives (AllAre t) (over.elements_of l e at count memory place s)
    list_gives t e at count memory place s h bytes k =
        either_gives (AllAre t) (is_aligned at e.laid.align) _ _
        (λ a. either_gives (AllAre t) (is_inside at (count * e.laid.size) memory) (over.elements_from l e memory [] count at s) (over.fails l (trap Bounds place) s)
        (λ i. elements_give t e memory [] count at s h bytes tt k) tt) tt

    -- Fields, behind others.
    row_over : (ts us : List ValType) (t : ValType) (all : List Value) → EachIs ((ts ++ t ∷ []) ++ us) all → EachIs (ts ++ t ∷ us) all
    row_over ts us t all h = subst (λ (xs : List ValType). EachIs xs all) (append_assoc ts (t ∷ []) us) h

    abbrev IsRowOver : List ValType → List ValType → List Value → Type 0
    IsRowOver ts us all = EachIs (ts ++ us) all

    rows_over : (ts us : List ValType) (t : ValType) (c : Came S T (List Value)) → Gives (IsRowOver (ts ++ t ∷ []) us) c → Gives (IsRowOver ts (t ∷ us)) c
    rows_over ts us t (Ok x) h = (row_over ts us t x.0 h.0, h.1)
    rows_over ts us t (Err fault) h = tt

    fields_give : (memory : List ℕ) (place : ℕ) (ts us : List ValType) (before : List Value) (end : ℕ) (parts : List (Part S T)) (s : S) → Unit {0} → LiftAll us parts → EachIs ts before → K s
        → Gives (IsRowOver ts us) (over.fields_from l memory place before end parts s)
    fields_give memory place ts [] before end [] s bytes h all k = (subst (λ (xs : List ValType). EachIs xs before) (sym (append-nil ts)) all, k)
    fields_give memory place ts [] before end (p ∷ parts) s bytes h all k = absurd h
    fields_give memory place ts (t ∷ us) before end [] s bytes h all k = absurd h
    fields_give memory place ts (t ∷ us) before end (p ∷ parts) s bytes h all k =
        after_gives (IsOf t) (IsRowOver ts (t ∷ us)) (p.lift memory (place + aligned end p.laid.align) s) _ (h.0.0 memory (place + aligned end p.laid.align) s bytes k)
        (λ v u is kept.
        rows_over ts us t (over.fields_from l memory place (before ++ v ∷ []) (aligned end p.laid.align + p.laid.size) parts u)
        (fields_give memory place (ts ++ t ∷ []) us (before ++ v ∷ []) (aligned end p.laid.align + p.laid.size) parts u bytes h.1 (next_field ts before all t v is) kept))

    word_fields_give : (memory words : List ℕ) (ts us : List ValType) (before : List Value) (at : ℕ) (parts : List (Part S T)) (s : S) → Unit {0} → LiftAll us parts → EachIs ts before → K s
        → Gives (IsRowOver ts us) (over.word_fields_from l memory words before at parts s)
    word_fields_give memory words ts [] before at [] s bytes h all k = (subst (λ (xs : List ValType). EachIs xs before) (sym (append-nil ts)) all, k)
    word_fields_give memory words ts [] before at (p ∷ parts) s bytes h all k = absurd h
    word_fields_give memory words ts (t ∷ us) before at [] s bytes h all k = absurd h
    word_fields_give memory words ts (t ∷ us) before at (p ∷ parts) s bytes h all k =
        after_gives (IsOf t) (IsRowOver ts (t ∷ us)) (p.lift_words memory words at s) _ (h.0.1 memory words at s bytes k)
        (λ v u is kept.
        rows_over ts us t (over.word_fields_from l memory words (before ++ v ∷ []) (at + length p.flat) parts u)
        (word_fields_give memory words (ts ++ t ∷ []) us (before ++ v ∷ []) (at + length p.flat) parts u bytes h.1 (next_field ts before all t v is) kept))

    -- Cases: of each number of one what is its payload.
    abbrev Cases : ValType → ℕ → List (Option (Part S T)) → Type 0
    Cases t count os = (n : ℕ) → n < count → Unit {0} → (p : Option ValType) × LiftsAny p (part_in os n) × ((o : Option Value) → PayloadIs p o → IsOf t (values.Variant n o))

    payload_gives : (p : Option ValType) (o : Option (Part S T)) (memory : List ℕ) (place : ℕ) (s : S) → LiftsAny p o → Unit {0} → K s → Gives (PayloadIs p) (over.payload_of l o memory place s)
    payload_gives None None memory place s h bytes k = (tt, k)
    payload_gives None (Some e) memory place s h bytes k = absurd h
    payload_gives (Some t) None memory place s h bytes k = absurd h
    payload_gives (Some t) (Some e) memory place s h bytes k = made_gives (IsOf t) (PayloadIs (Some t)) _ (e.lift memory place s) (λ v is. is) (h.0 memory place s bytes k)

    word_payload_gives : (p : Option ValType) (o : Option (Part S T)) (memory words : List ℕ) (at : ℕ) (s : S) → LiftsAny p o → Unit {0} → K s → Gives (PayloadIs p) (over.word_payload_of l o memory words at s)
    word_payload_gives None None memory words at s h bytes k = (tt, k)
    word_payload_gives None (Some e) memory words at s h bytes k = absurd h
    word_payload_gives (Some t) None memory words at s h bytes k = absurd h
    word_payload_gives (Some t) (Some e) memory words at s h bytes k = made_gives (IsOf t) (PayloadIs (Some t)) _ (e.lift_words memory words at s) (λ v is. is) (h.1 memory words at s bytes k)

    case_gives : (t : ValType) (count : ℕ) (os : List (Option (Part S T))) (memory : List ℕ) (place : ℕ) (s : S) → Cases t count os → Unit {0} → K s → Gives (IsOf t) (over.case_of l count os memory place s)
    case_gives t count os memory place s h bytes k =
        let n : ℕ = number (width_of (tag_size count)) place memory in
        either_gives (IsOf t) (nat_lt n count) _ _
        (λ e. (let c = h n (ltb-true n count e) tt in
        made_gives (PayloadIs c.0) (IsOf t) (values.Variant n) _ c.2 (payload_gives c.0 (part_in os n) memory (place + behind_tag count os) s c.1 bytes k))) tt

    word_case_gives : (t : ValType) (count : ℕ) (os : List (Option (Part S T))) (memory words : List ℕ) (at : ℕ) (s : S) → Cases t count os → Unit {0} → K s → Gives (IsOf t) (over.word_case_of l count os memory words at s)
    word_case_gives t count os memory words at s h bytes k =
        let n : ℕ = low w32 at words in
        either_gives (IsOf t) (nat_lt n count) _ _
        (λ e. (let c = h n (ltb-true n count e) tt in
        made_gives (PayloadIs c.0) (IsOf t) (values.Variant n) _ c.2 (word_payload_gives c.0 (part_in os n) memory words (at + 1) s c.1 bytes k))) tt

    case_there : (cases : List Case) (os : List (Option (Part S T))) (n : ℕ) → LiftCases cases os → n < length cases → (c : Case) × (slice_get cases n ≡ Some c) × LiftsAny c.payload (part_in os n)
    case_there [] os n h few = absurd (omega (arith, few))
    case_there (c ∷ cases) [] n h few = absurd h
    case_there (c ∷ cases) (o ∷ os) zero h few = (c, refl, h.0)
    case_there (c ∷ cases) (o ∷ os) (suc n) h few = case_there cases os n h.1 (omega (arith, few))

    variant_cases : (cases : List Case) (os : List (Option (Part S T))) → LiftCases cases os → Cases (types.Variant cases) (length cases) os
    variant_cases cases os h n few low = (let c = case_there cases os n h few in (c.0.payload, c.2, λ o is. case_is (types.Variant cases) n c.0.payload o (variant_part cases n c.0 c.1) is))

    enum_cases : (labels : List (List ℕ)) → Cases (leaves.Enum labels) (length labels) []
    enum_cases labels n few low = (None, tt, λ o is. case_is (leaves.Enum labels) n None o (enum_part labels n) is)

    option_cases : (t : ValType) (e : Part S T) → Lifts t e → Cases (types.Option t) 2 (None ∷ Some e ∷ [])
    option_cases t e h zero few low = (None, tt, λ o is. case_is (types.Option t) 0 None o (option_none t) is)
    option_cases t e h (suc zero) few low = (Some t, h, λ o is. case_is (types.Option t) 1 (Some t) o (option_some t) is)
    option_cases t e h (suc (suc n)) few low = absurd (omega (arith, few))

    result_cases : (ok err : Option ValType) (a b : Option (Part S T)) → LiftsAny ok a → LiftsAny err b → Cases (types.Result ok err) 2 (a ∷ b ∷ [])
    result_cases ok err (Some p) b h i zero few low = (ok, h, λ o is. case_is (types.Result ok err) 0 ok o (result_ok ok err) is)
    result_cases ok err None b h i zero few low = (ok, h, λ o is. case_is (types.Result ok err) 0 ok o (result_ok ok err) is)
    result_cases ok err a (Some p) h i (suc zero) few low = (err, i, λ o is. case_is (types.Result ok err) 1 err o (result_err ok err) is)
    result_cases ok err a None h i (suc zero) few low = (err, i, λ o is. case_is (types.Result ok err) 1 err o (result_err ok err) is)
    result_cases ok err a b h i (suc (suc n)) few low = absurd (omega (arith, few))

    -- Values without parts.
    leaf : (z : F.ValType-F ValType Case Field) (t : ValType) (v : Value) (s : S) → roll-ValType z ≡ t → IsOf t v → K s → Gives (IsOf (roll-ValType z)) (over.uncounted l s (Ok v))
    leaf z t v s e is k = (subst (λ (x : ValType). IsOf x v) (sym e) is, k)

    char_gives : (n place : ℕ) (s : S) → K s → Gives (IsOf (roll-ValType F.Char)) (over.uncounted l s (char_of n place))
    char_gives n place s k = by (is_scalar n) refl
      where
        by : (b : Bool) → is_scalar n ≡ b → Gives (IsOf (roll-ValType F.Char)) (over.uncounted l s (if b then Ok (plain.Char n) else Err (trap BadChar place)))
        by true e = (subst (λ (x : ValType). IsOf x (plain.Char n)) (sym leaves.rolls-Char) (char_is leaves.Char n), k)
        by false e = tt

    text_gives : (bytes : List ℕ) (place : ℕ) (s : S) → K s → Gives (IsOf leaves.String) (over.uncounted l s (text_of bytes place))
    text_gives bytes place s k = by (is_utf8 bytes) refl
      where
        by : (b : Bool) → is_utf8 bytes ≡ b → Gives (IsOf leaves.String) (over.uncounted l s (if b then Ok (plain.String bytes) else Err (trap BadUtf8 place)))
        by true e = (string_is leaves.String bytes, k)
        by false e = tt

    string_gives : (at count : ℕ) (memory : List ℕ) (place : ℕ) (s : S) → K s → Gives (IsOf leaves.String) (over.string_of l at count memory place s)
    string_gives at count memory place s k =
        either_gives (IsOf leaves.String) (is_inside at count memory) _ _
        (λ i. counting_gives (IsOf leaves.String) (l.spend count place s) _ (spends count place s k) (λ u kept. text_gives (bytes_at at count memory) place u kept)) tt

    taken_gives : (t : ValType) (what : What) (make : ℕ → Value) (index place : ℕ) (s : S) → ((n : ℕ) → IsLowFor what n → IsOf t (make n)) → K s → Gives (IsOf t) (over.taken l what make index place s)
    taken_gives t what make index place s is k = made_gives (IsLowFor what) (IsOf t) make _ (λ n small. is n small) (takes (record { what = what; index = index; place = place }) s k)

    -- as a type that is rolled
    as_rolled : (z : F.ValType-F ValType Case Field) (t : ValType) (c : Came S T Value) → roll-ValType z ≡ t → Gives (IsOf t) c → Gives (IsOf (roll-ValType z)) c
    as_rolled z t c e h = subst (λ (x : ValType). Gives (IsOf x) c) (sym e) h

    -- Types by their outer layer.

    abbrev case_part : Case → CasePart S T
    case_part c = fold-Case (Part S T) (CasePart S T) (FieldPart S T) (over.part_step l) case_by field_by c

    abbrev field_part : Field → FieldPart S T
    field_part f = fold-Field (Part S T) (CasePart S T) (FieldPart S T) (over.part_step l) case_by field_by f

    abbrev IsLifted : ValType → Type 0
    IsLifted t = Lifts t (over.part l t)

    abbrev IsLiftedCase : Case → Type 0
    IsLiftedCase c = LiftsAny c.payload (case_part c).payload

    abbrev IsLiftedField : Field → Type 0
    IsLiftedField f = Lifts f.val_type (field_part f).part

    abbrev OfType : Type 0
    OfType = (t : ValType) × IsLifted t

    abbrev OfCase : Type 0
    OfCase = (c : Case) × IsLiftedCase c

    abbrev OfField : Type 0
    OfField = (f : Field) × IsLiftedField f

    abbrev layer : F.ValType-F OfType OfCase OfField → F.ValType-F ValType Case Field
    layer y = map-ValType OfType OfCase OfField ValType Case Field (λ e. e.0) (λ e. e.0) (λ e. e.0) y

    abbrev parts : F.ValType-F ValType Case Field → F.ValType-F (Part S T) (CasePart S T) (FieldPart S T)
    parts y = map-ValType ValType Case Field (Part S T) (CasePart S T) (FieldPart S T) (over.part l) case_part field_part y

    fields_hold : (fields : List OfField) → LiftAll (map (λ (f : Field). f.val_type) (map (λ (e : OfField). e.0) fields)) (in_fields (map field_part (map (λ (e : OfField). e.0) fields)))
    fields_hold [] = tt
    fields_hold (e ∷ fields) = (e.1, fields_hold fields)

    places_hold : (all : List OfType) → LiftAll (map (λ (e : OfType). e.0) all) (map (over.part l) (map (λ (e : OfType). e.0) all))
    places_hold [] = tt
    places_hold (e ∷ all) = (e.1, places_hold all)

    cases_hold : (cases : List OfCase) → LiftCases (map (λ (e : OfCase). e.0) cases) (in_cases (map case_part (map (λ (e : OfCase). e.0) cases)))
    cases_hold [] = tt
    cases_hold (e ∷ cases) = (e.1, cases_hold cases)

    abbrev cases_of : List OfCase → List Case
    cases_of cases = map (λ (e : OfCase). e.0) cases

    abbrev fields_of : List OfField → List Field
    fields_of fields = map (λ (e : OfField). e.0) fields

    abbrev types_of : List OfType → List ValType
    types_of all = map (λ (e : OfType). e.0) all

    -- how many cases there are, of the types and of the parts
    same_many : (cases : List OfCase) → length (map case_part (cases_of cases)) ≡ length (cases_of cases)
    same_many [] = refl
    same_many (e ∷ cases) = ap suc (same_many cases)

    variant_holds : (cases : List OfCase) → Cases (types.Variant (cases_of cases)) (length (map case_part (cases_of cases))) (in_cases (map case_part (cases_of cases)))
    variant_holds cases =
        subst (λ (count : ℕ). Cases (types.Variant (cases_of cases)) count (in_cases (map case_part (cases_of cases)))) (sym (same_many cases)) (variant_cases (cases_of cases) (in_cases (map case_part (cases_of cases))) (cases_hold cases))

    abbrev types_held : Option OfType → Option ValType
    types_held None = None
    types_held (Some e) = Some e.0

    abbrev parts_held : Option OfType → Option (Part S T)
    parts_held None = None
    parts_held (Some e) = Some (over.part l e.0)

    held_lifts : (o : Option OfType) → LiftsAny (types_held o) (parts_held o)
    held_lifts None = tt
    held_lifts (Some e) = e.1

    layer_lifts : (y : F.ValType-F OfType OfCase OfField) (memory : List ℕ) (place : ℕ) (s : S) → Unit {0} → K s → Gives (IsOf (roll-ValType (layer y))) (over.lift_case l (parts (layer y)) memory place s)
    layer_lifts F.Bool memory place s bytes k = leaf F.Bool leaves.Bool _ s leaves.rolls-Bool (bool_is leaves.Bool _) k
    layer_lifts F.S8 memory place s bytes k = leaf F.S8 leaves.S8 _ s leaves.rolls-S8 (s8_is leaves.S8 _) k
    layer_lifts F.U8 memory place s bytes k = leaf F.U8 leaves.U8 _ s leaves.rolls-U8 (u8_is leaves.U8 _) k
    layer_lifts F.S16 memory place s bytes k = leaf F.S16 leaves.S16 _ s leaves.rolls-S16 (s16_is leaves.S16 _) k
    layer_lifts F.U16 memory place s bytes k = leaf F.U16 leaves.U16 _ s leaves.rolls-U16 (u16_is leaves.U16 _) k
    layer_lifts F.S32 memory place s bytes k = leaf F.S32 leaves.S32 _ s leaves.rolls-S32 (s32_is leaves.S32 _) k
    layer_lifts F.U32 memory place s bytes k = leaf F.U32 leaves.U32 _ s leaves.rolls-U32 (u32_is leaves.U32 _) k
    layer_lifts F.S64 memory place s bytes k = leaf F.S64 leaves.S64 _ s leaves.rolls-S64 (s64_is leaves.S64 _) k
    layer_lifts F.U64 memory place s bytes k = leaf F.U64 leaves.U64 _ s leaves.rolls-U64 (u64_is leaves.U64 _) k
    layer_lifts F.Char memory place s bytes k = char_gives (number w32 place memory) place s k
    layer_lifts F.String memory place s bytes k = as_rolled F.String leaves.String _ leaves.rolls-String (string_gives (number w32 place memory) (number w32 (place + 4) memory) memory place s k)
    layer_lifts (F.List e) memory place s bytes k =
        as_rolled (F.List e.0) (types.List e.0) _ (leaves.rolls-List e.0)
        (made_gives (AllAre e.0) (IsOf (types.List e.0)) values.List _ (λ all are. list_is (types.List e.0) e.0 all (list_part e.0) are) (list_gives e.0 (over.part l e.0) (number w32 place memory) (number w32 (place + 4) memory) memory place s e.1 bytes k))
    layer_lifts (F.Record fields) memory place s bytes k =
        as_rolled (F.Record (fields_of fields)) (types.Record (fields_of fields)) _ (leaves.rolls-Record (fields_of fields))
        (made_gives (EachIs (map (λ (f : Field). f.val_type) (fields_of fields))) (IsOf (types.Record (fields_of fields))) values.Record _ (λ all are. row_is (types.Record (fields_of fields)) (map (λ (f : Field). f.val_type) (fields_of fields)) all (record_parts (fields_of fields)) are)
        (fields_give memory place [] (map (λ (f : Field). f.val_type) (fields_of fields)) [] 0 (in_fields (map field_part (fields_of fields))) s bytes (fields_hold fields) tt k))
    layer_lifts (F.Tuple all) memory place s bytes k =
        as_rolled (F.Tuple (types_of all)) (types.Tuple (types_of all)) _ (leaves.rolls-Tuple (types_of all))
        (made_gives (EachIs (types_of all)) (IsOf (types.Tuple (types_of all))) values.Record _ (λ vs are. row_is (types.Tuple (types_of all)) (types_of all) vs (tuple_parts (types_of all)) are)
        (fields_give memory place [] (types_of all) [] 0 (map (over.part l) (types_of all)) s bytes (places_hold all) tt k))
    layer_lifts (F.Variant cases) memory place s bytes k =
        as_rolled (F.Variant (cases_of cases)) (types.Variant (cases_of cases)) _ (leaves.rolls-Variant (cases_of cases))
        (case_gives (types.Variant (cases_of cases)) (length (map case_part (cases_of cases))) (in_cases (map case_part (cases_of cases))) memory place s (variant_holds cases) bytes k)
    layer_lifts (F.Enum labels) memory place s bytes k =
        as_rolled (F.Enum labels) (leaves.Enum labels) _ (leaves.rolls-Enum labels) (case_gives (leaves.Enum labels) (length labels) [] memory place s (enum_cases labels) bytes k)
    layer_lifts (F.Option e) memory place s bytes k =
        as_rolled (F.Option e.0) (types.Option e.0) _ (leaves.rolls-Option e.0) (case_gives (types.Option e.0) 2 (None ∷ Some (over.part l e.0) ∷ []) memory place s (option_cases e.0 (over.part l e.0) e.1) bytes k)
    layer_lifts (F.Result None None) memory place s bytes k =
        as_rolled (F.Result None None) (types.Result None None) _ (leaves.rolls-Result None None) (case_gives (types.Result None None) 2 (None ∷ None ∷ []) memory place s (result_cases None None None None tt tt) bytes k)
    layer_lifts (F.Result None (Some e)) memory place s bytes k =
        as_rolled (F.Result None (Some e.0)) (types.Result None (Some e.0)) _ (leaves.rolls-Result None (Some e.0))
        (case_gives (types.Result None (Some e.0)) 2 (None ∷ Some (over.part l e.0) ∷ []) memory place s (result_cases None (Some e.0) None (Some (over.part l e.0)) tt e.1) bytes k)
    layer_lifts (F.Result (Some o) None) memory place s bytes k =
        as_rolled (F.Result (Some o.0) None) (types.Result (Some o.0) None) _ (leaves.rolls-Result (Some o.0) None)
        (case_gives (types.Result (Some o.0) None) 2 (Some (over.part l o.0) ∷ None ∷ []) memory place s (result_cases (Some o.0) None (Some (over.part l o.0)) None o.1 tt) bytes k)
    layer_lifts (F.Result (Some o) (Some e)) memory place s bytes k =
        as_rolled (F.Result (Some o.0) (Some e.0)) (types.Result (Some o.0) (Some e.0)) _ (leaves.rolls-Result (Some o.0) (Some e.0))
        (case_gives (types.Result (Some o.0) (Some e.0)) 2 (Some (over.part l o.0) ∷ Some (over.part l e.0) ∷ []) memory place s (result_cases (Some o.0) (Some e.0) (Some (over.part l o.0)) (Some (over.part l e.0)) o.1 e.1) bytes k)
    layer_lifts (F.Flags labels) memory place s bytes k =
        as_rolled (F.Flags labels) (leaves.Flags labels) (Ok (flags_of labels (number (width_of (bits_size (length labels))) place memory), s)) (leaves.rolls-Flags labels) (flags_are (leaves.Flags labels) labels _, k)
    layer_lifts (F.Own resource) memory place s bytes k = as_rolled (F.Own resource) (leaves.Own resource) _ (leaves.rolls-Own resource) (taken_gives (leaves.Own resource) (AnOwn resource) (λ rep. plain.Own (record { resource = resource; rep = rep })) (number w32 place memory) place s (λ n small. own_is (leaves.Own resource) (record { resource = resource; rep = n })) k)
    layer_lifts (F.Borrow resource) memory place s bytes k = as_rolled (F.Borrow resource) (leaves.Borrow resource) _ (leaves.rolls-Borrow resource) (taken_gives (leaves.Borrow resource) (ABorrow resource) (λ rep. plain.Borrow (record { resource = resource; rep = rep })) (number w32 place memory) place s (λ n small. borrow_is (leaves.Borrow resource) (record { resource = resource; rep = n })) k)
    layer_lifts (F.Stream None) memory place s bytes k = as_rolled (F.Stream None) (types.Stream None) _ (leaves.rolls-Stream None) (taken_gives (types.Stream None) (AnEnd end_kind.Stream None) plain.Stream (number w32 place memory) place s (λ n small. stream_is (types.Stream None) n small) k)
    layer_lifts (F.Stream (Some e)) memory place s bytes k = as_rolled (F.Stream (Some e.0)) (types.Stream (Some e.0)) _ (leaves.rolls-Stream (Some e.0)) (taken_gives (types.Stream (Some e.0)) (AnEnd end_kind.Stream (Some (over.part l e.0).type)) plain.Stream (number w32 place memory) place s (λ n small. stream_is (types.Stream (Some e.0)) n (subst (λ (u : ValType). P (ends_type end_kind.Stream (Some u)) n) (typed e.0) small)) k)
    layer_lifts (F.Future None) memory place s bytes k = as_rolled (F.Future None) (types.Future None) _ (leaves.rolls-Future None) (taken_gives (types.Future None) (AnEnd end_kind.Future None) plain.Future (number w32 place memory) place s (λ n small. future_is (types.Future None) n small) k)
    layer_lifts (F.Future (Some e)) memory place s bytes k = as_rolled (F.Future (Some e.0)) (types.Future (Some e.0)) _ (leaves.rolls-Future (Some e.0)) (taken_gives (types.Future (Some e.0)) (AnEnd end_kind.Future (Some (over.part l e.0).type)) plain.Future (number w32 place memory) place s (λ n small. future_is (types.Future (Some e.0)) n (subst (λ (u : ValType). P (ends_type end_kind.Future (Some u)) n) (typed e.0) small)) k)

    word_layer_lifts : (y : F.ValType-F OfType OfCase OfField) (memory words : List ℕ) (at : ℕ) (s : S) → Unit {0} → K s → Gives (IsOf (roll-ValType (layer y))) (over.lift_word_case l (parts (layer y)) memory words at s)
    word_layer_lifts F.Bool memory words at s bytes k = leaf F.Bool leaves.Bool _ s leaves.rolls-Bool (bool_is leaves.Bool _) k
    word_layer_lifts F.S8 memory words at s bytes k = leaf F.S8 leaves.S8 _ s leaves.rolls-S8 (s8_is leaves.S8 _) k
    word_layer_lifts F.U8 memory words at s bytes k = leaf F.U8 leaves.U8 _ s leaves.rolls-U8 (u8_is leaves.U8 _) k
    word_layer_lifts F.S16 memory words at s bytes k = leaf F.S16 leaves.S16 _ s leaves.rolls-S16 (s16_is leaves.S16 _) k
    word_layer_lifts F.U16 memory words at s bytes k = leaf F.U16 leaves.U16 _ s leaves.rolls-U16 (u16_is leaves.U16 _) k
    word_layer_lifts F.S32 memory words at s bytes k = leaf F.S32 leaves.S32 _ s leaves.rolls-S32 (s32_is leaves.S32 _) k
    word_layer_lifts F.U32 memory words at s bytes k = leaf F.U32 leaves.U32 _ s leaves.rolls-U32 (u32_is leaves.U32 _) k
    word_layer_lifts F.S64 memory words at s bytes k = leaf F.S64 leaves.S64 _ s leaves.rolls-S64 (s64_is leaves.S64 _) k
    word_layer_lifts F.U64 memory words at s bytes k = leaf F.U64 leaves.U64 _ s leaves.rolls-U64 (u64_is leaves.U64 _) k
    word_layer_lifts F.Char memory words at s bytes k = char_gives (low w32 at words) at s k
    word_layer_lifts F.String memory words at s bytes k = as_rolled F.String leaves.String _ leaves.rolls-String (string_gives (low w32 at words) (low w32 (at + 1) words) memory at s k)
    word_layer_lifts (F.List e) memory words at s bytes k =
        as_rolled (F.List e.0) (types.List e.0) _ (leaves.rolls-List e.0)
        (made_gives (AllAre e.0) (IsOf (types.List e.0)) values.List _ (λ all are. list_is (types.List e.0) e.0 all (list_part e.0) are) (list_gives e.0 (over.part l e.0) (low w32 at words) (low w32 (at + 1) words) memory at s e.1 bytes k))
    word_layer_lifts (F.Record fields) memory words at s bytes k =
        as_rolled (F.Record (fields_of fields)) (types.Record (fields_of fields)) _ (leaves.rolls-Record (fields_of fields))
        (made_gives (EachIs (map (λ (f : Field). f.val_type) (fields_of fields))) (IsOf (types.Record (fields_of fields))) values.Record _ (λ all are. row_is (types.Record (fields_of fields)) (map (λ (f : Field). f.val_type) (fields_of fields)) all (record_parts (fields_of fields)) are)
        (word_fields_give memory words [] (map (λ (f : Field). f.val_type) (fields_of fields)) [] at (in_fields (map field_part (fields_of fields))) s bytes (fields_hold fields) tt k))
    word_layer_lifts (F.Tuple all) memory words at s bytes k =
        as_rolled (F.Tuple (types_of all)) (types.Tuple (types_of all)) _ (leaves.rolls-Tuple (types_of all))
        (made_gives (EachIs (types_of all)) (IsOf (types.Tuple (types_of all))) values.Record _ (λ vs are. row_is (types.Tuple (types_of all)) (types_of all) vs (tuple_parts (types_of all)) are)
        (word_fields_give memory words [] (types_of all) [] at (map (over.part l) (types_of all)) s bytes (places_hold all) tt k))
    word_layer_lifts (F.Variant cases) memory words at s bytes k =
        as_rolled (F.Variant (cases_of cases)) (types.Variant (cases_of cases)) _ (leaves.rolls-Variant (cases_of cases))
        (word_case_gives (types.Variant (cases_of cases)) (length (map case_part (cases_of cases))) (in_cases (map case_part (cases_of cases))) memory words at s (variant_holds cases) bytes k)
    word_layer_lifts (F.Enum labels) memory words at s bytes k =
        as_rolled (F.Enum labels) (leaves.Enum labels) _ (leaves.rolls-Enum labels) (word_case_gives (leaves.Enum labels) (length labels) [] memory words at s (enum_cases labels) bytes k)
    word_layer_lifts (F.Option e) memory words at s bytes k =
        as_rolled (F.Option e.0) (types.Option e.0) _ (leaves.rolls-Option e.0) (word_case_gives (types.Option e.0) 2 (None ∷ Some (over.part l e.0) ∷ []) memory words at s (option_cases e.0 (over.part l e.0) e.1) bytes k)
    word_layer_lifts (F.Result None None) memory words at s bytes k =
        as_rolled (F.Result None None) (types.Result None None) _ (leaves.rolls-Result None None) (word_case_gives (types.Result None None) 2 (None ∷ None ∷ []) memory words at s (result_cases None None None None tt tt) bytes k)
    word_layer_lifts (F.Result None (Some e)) memory words at s bytes k =
        as_rolled (F.Result None (Some e.0)) (types.Result None (Some e.0)) _ (leaves.rolls-Result None (Some e.0))
        (word_case_gives (types.Result None (Some e.0)) 2 (None ∷ Some (over.part l e.0) ∷ []) memory words at s (result_cases None (Some e.0) None (Some (over.part l e.0)) tt e.1) bytes k)
    word_layer_lifts (F.Result (Some o) None) memory words at s bytes k =
        as_rolled (F.Result (Some o.0) None) (types.Result (Some o.0) None) _ (leaves.rolls-Result (Some o.0) None)
        (word_case_gives (types.Result (Some o.0) None) 2 (Some (over.part l o.0) ∷ None ∷ []) memory words at s (result_cases (Some o.0) None (Some (over.part l o.0)) None o.1 tt) bytes k)
    word_layer_lifts (F.Result (Some o) (Some e)) memory words at s bytes k =
        as_rolled (F.Result (Some o.0) (Some e.0)) (types.Result (Some o.0) (Some e.0)) _ (leaves.rolls-Result (Some o.0) (Some e.0))
        (word_case_gives (types.Result (Some o.0) (Some e.0)) 2 (Some (over.part l o.0) ∷ Some (over.part l e.0) ∷ []) memory words at s (result_cases (Some o.0) (Some e.0) (Some (over.part l o.0)) (Some (over.part l e.0)) o.1 e.1) bytes k)
    word_layer_lifts (F.Flags labels) memory words at s bytes k =
        as_rolled (F.Flags labels) (leaves.Flags labels) (Ok (flags_of labels (low w32 at words), s)) (leaves.rolls-Flags labels) (flags_are (leaves.Flags labels) labels _, k)
    word_layer_lifts (F.Own resource) memory words at s bytes k = as_rolled (F.Own resource) (leaves.Own resource) _ (leaves.rolls-Own resource) (taken_gives (leaves.Own resource) (AnOwn resource) (λ rep. plain.Own (record { resource = resource; rep = rep })) (low w32 at words) at s (λ n small. own_is (leaves.Own resource) (record { resource = resource; rep = n })) k)
    word_layer_lifts (F.Borrow resource) memory words at s bytes k = as_rolled (F.Borrow resource) (leaves.Borrow resource) _ (leaves.rolls-Borrow resource) (taken_gives (leaves.Borrow resource) (ABorrow resource) (λ rep. plain.Borrow (record { resource = resource; rep = rep })) (low w32 at words) at s (λ n small. borrow_is (leaves.Borrow resource) (record { resource = resource; rep = n })) k)
    word_layer_lifts (F.Stream None) memory words at s bytes k = as_rolled (F.Stream None) (types.Stream None) _ (leaves.rolls-Stream None) (taken_gives (types.Stream None) (AnEnd end_kind.Stream None) plain.Stream (low w32 at words) at s (λ n small. stream_is (types.Stream None) n small) k)
    word_layer_lifts (F.Stream (Some e)) memory words at s bytes k = as_rolled (F.Stream (Some e.0)) (types.Stream (Some e.0)) _ (leaves.rolls-Stream (Some e.0)) (taken_gives (types.Stream (Some e.0)) (AnEnd end_kind.Stream (Some (over.part l e.0).type)) plain.Stream (low w32 at words) at s (λ n small. stream_is (types.Stream (Some e.0)) n (subst (λ (u : ValType). P (ends_type end_kind.Stream (Some u)) n) (typed e.0) small)) k)
    word_layer_lifts (F.Future None) memory words at s bytes k = as_rolled (F.Future None) (types.Future None) _ (leaves.rolls-Future None) (taken_gives (types.Future None) (AnEnd end_kind.Future None) plain.Future (low w32 at words) at s (λ n small. future_is (types.Future None) n small) k)
    word_layer_lifts (F.Future (Some e)) memory words at s bytes k = as_rolled (F.Future (Some e.0)) (types.Future (Some e.0)) _ (leaves.rolls-Future (Some e.0)) (taken_gives (types.Future (Some e.0)) (AnEnd end_kind.Future (Some (over.part l e.0).type)) plain.Future (low w32 at words) at s (λ n small. future_is (types.Future (Some e.0)) n (subst (λ (u : ValType). P (ends_type end_kind.Future (Some u)) n) (typed e.0) small)) k)

    step_lifts : (y : F.ValType-F OfType OfCase OfField) → Lifts (roll-ValType (layer y)) (over.part_step l (parts (layer y)))
    step_lifts y = (
      λ memory place s bytes k. counting_gives (IsOf (roll-ValType (layer y))) (l.spend 1 place s) _ (spends 1 place s k) (λ u kept. layer_lifts y memory place u bytes kept),
      λ memory words at s bytes k. counting_gives (IsOf (roll-ValType (layer y))) (l.spend 1 at s) _ (spends 1 at s k) (λ u kept. word_layer_lifts y memory words at u bytes kept),
    )

    -- Every type.

    type_lifts : (y : F.ValType-F OfType OfCase OfField) → IsLifted (roll-ValType (layer y))
    type_lifts y = subst (Lifts (roll-ValType (layer y))) (sym (fold-roll-ValType (Part S T) (CasePart S T) (FieldPart S T) (over.part_step l) case_by field_by (layer y))) (step_lifts y)

    abbrev case_of_layer : F.Case-F OfType OfCase OfField → Case
    case_of_layer y = roll-Case (map-Case OfType OfCase OfField ValType Case Field (λ e. e.0) (λ e. e.0) (λ e. e.0) y)

    payload_lifts : (y : F.Case-F OfType OfCase OfField) → LiftsAny (case_of_layer y).payload (held (over.part l) (case_of_layer y).payload)
    payload_lifts y =
        elim y.payload as (λ p. LiftsAny (case_of_layer (record { label = y.label; payload = p })).payload (held (over.part l) (case_of_layer (record { label = y.label; payload = p })).payload)) [
          | Some e ↦ e.1
          | None ↦ tt
        ]

    case_lifts : (y : F.Case-F OfType OfCase OfField) → IsLiftedCase (case_of_layer y)
    case_lifts y =
        subst (λ (p : CasePart S T). LiftsAny (case_of_layer y).payload p.payload) (sym (fold_case (Part S T) (CasePart S T) (FieldPart S T) (over.part_step l) case_by field_by (case_of_layer y))) (payload_lifts y)

    abbrev field_of_layer : F.Field-F OfType OfCase OfField → Field
    field_of_layer y = roll-Field (map-Field OfType OfCase OfField ValType Case Field (λ e. e.0) (λ e. e.0) (λ e. e.0) y)

    field_lifts : (y : F.Field-F OfType OfCase OfField) → IsLiftedField (field_of_layer y)
    field_lifts y =
        subst (λ (p : FieldPart S T). Lifts (field_of_layer y).val_type p.part) (sym (fold_field (Part S T) (CasePart S T) (FieldPart S T) (over.part_step l) case_by field_by (field_of_layer y))) y.val_type.1

    all_lift : (t : ValType) → IsLifted t
    all_lift =
        ind-ValType IsLifted IsLiftedCase IsLiftedField
        (λ x y e. subst (λ (z : F.ValType-F ValType Case Field). IsLifted (roll-ValType z)) e (type_lifts y))
        (λ x y e. subst (λ (z : F.Case-F ValType Case Field). IsLiftedCase (roll-Case z)) e (case_lifts y))
        (λ x y e. subst (λ (z : F.Field-F ValType Case Field). IsLiftedField (roll-Field z)) e (field_lifts y))

    -- A value at a place, values one after the other, and a value in core values.

    pub load_gives : (t : ValType) (memory : List ℕ) (place : ℕ) (s : S) → Unit {0} → K s → Gives (IsOf t) (over.load_by l t memory place s)
    load_gives t memory place s bytes k =
        either_gives (IsOf t) (is_aligned place (over.part l t).laid.align) _ _
        (λ a. either_gives (IsOf t) (is_inside place (over.part l t).laid.size memory) _ _ (λ i. (all_lift t).0 memory place s bytes k) tt) tt

    pub load_list_gives : (t : ValType) (memory : List ℕ) (place count : ℕ) (s : S) → Unit {0} → K s → Gives (AllAre t) (over.load_list_by l t memory place count s)
    load_list_gives t memory place count s bytes k = either_gives (AllAre t) (count == 0) _ _ (λ e. (tt, k)) (list_gives t (over.part l t) place count memory place s (all_lift t) bytes k)

    pub lift_flat_gives : (t : ValType) (memory words : List ℕ) (s : S) → Unit {0} → K s → Gives (IsOf t) (over.lift_flat_by l t memory words s)
    lift_flat_gives t memory words s bytes k = (all_lift t).1 memory words 0 s bytes k
