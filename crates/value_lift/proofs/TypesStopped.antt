-- Where lifting stops, the value fails, for every type.
use Rattle.std.proofs.Common.{◌≡◌, ◌∙◌, ◌≤◌, ◌<◌, ◌+◌, ℕ, zero, suc, List, [], ◌∷◌, map, Option, Some, None, Err, ap, sym, subst}
use Rattle.std.specs.List.{AllByRecursion}
use Rattle.syntax_trees.specs.declared.types.ValType.{ValType, out-ValType, roll-ValType}
use Rattle.syntax_trees.specs.declared.types.Case.{Case}
use Rattle.syntax_trees.specs.declared.types.Field.{Field}
use Rattle.syntax_trees.specs.declared.types.ValType.TheViews as types
use Rattle.syntax_trees.specs.declared.types.ValType.TheViews.{roll-Case, roll-Field}
use Rattle.syntax_trees.specs.declared.types.ValType.TheVariants as leaves
use Rattle.syntax_trees.specs.declared.types.ValType.TheVariants.{rolls-Char, rolls-String, rolls-Record, rolls-Variant, rolls-List, rolls-Tuple, rolls-Enum, rolls-Option, rolls-Result}
use Rattle.syntax_trees.specs.declared.types.ValType.TheOpen as F
use Rattle.syntax_trees.specs.declared.types.ValType.TheFolds.{ind-ValType, map-ValType, map-Case, map-Field}
use Rattle.syntax_trees.specs.Flat.{flat}
use Rattle.laid_types.specs.Parts.{parts_case, count_case, payload_place}
use Rattle.value_lift.specs.declared.trap.LiftTrap.{LiftTrap}
use Rattle.value_lift.specs.declared.trap.LiftWhy.{LiftWhy}
use Rattle.value_lift.specs.declared.trap.LiftWhy.TheVariants.{BadCase}
use Rattle.value_lift.specs.Pieces.{part_in}
use Rattle.value_lift.specs.Lifting.{lift_case, lift_word_case}
use Rattle.value_lift.specs.Standing.{tag}
use Rattle.value_lift.specs.WordStanding.{wrapped}
use Rattle.value_lift.specs.Failing.{Fails, CountedFails, record_fails, tuple_fails, bad_case, bad_enum, bad_option, bad_result, case_fails, some_fails, ok_fails, err_fails}
use Rattle.value_lift.specs.WordFailing.{FlatFails, CountedFlatFails, flat_record_fails, flat_tuple_fails, flat_bad_case, flat_bad_enum, flat_bad_option, flat_bad_result, flat_case_fails, flat_some_fails, flat_ok_fails, flat_err_fails}
use Rattle.value_lift.proofs.Equations.{parts_in}
use Rattle.value_lift.proofs.Forms.{IsRow, HasCases}
use Rattle.value_lift.proofs.Stood.{parts_of_record, parts_of_tuple, case_part}
use Rattle.value_lift.proofs.Stopped.{Stops, counted_stops, char_stops, string_stops, list_stops, row_stops, case_stops}
use Rattle.value_lift.proofs.TypesFound.{all_of_entries, out_of_roll, case_there}
use Rattle.value_lift.proofs.Views.{out_record, out_tuple, out_variant, out_enum, out_option, out_result}
use Rattle.value_lift.proofs.WordStood.{flat_of_record, flat_of_tuple}
use Rattle.value_lift.proofs.WordStopped.{WordStops, counted_word_stops, word_char_stops, word_string_stops, word_list_stops, word_row_stops, word_case_stops}
use Rattle.value_lift.proofs.Wrapped.{shares, enum_shares}

-- lifting from a memory, and from core values
pub record BothStop (t : ValType) : Type 0 where
  pub stops : Stops t
  pub words : WordStops t

abbrev Told : ValType → Type 0
Told t = BothStop t

abbrev ToldRest : Option ValType → Type 0
ToldRest p = (t : ValType) → p ≡ Some t → Told t

abbrev ToldCase : Case → Type 0
ToldCase c = ToldRest c.payload

abbrev ToldField : Field → Type 0
ToldField f = Told f.val_type

abbrev OfType : Type 0
OfType = (t : ValType) × Told t

abbrev OfCase : Type 0
OfCase = (c : Case) × ToldCase c

abbrev OfField : Type 0
OfField = (f : Field) × ToldField f

told_nothing : ToldRest None
told_nothing t h = cc

told_payload : (t : ValType) → Told t → ToldRest (Some t)
told_payload t told u h =
    let e : t ≡ u = cc in
    subst Told e told

-- Values that never fail once they are counted.
abbrev NeverFails : F.ValType-F ValType Case Field → Type 0
NeverFails F.Bool = Unit {0}
NeverFails F.S8 = Unit {0}
NeverFails F.U8 = Unit {0}
NeverFails F.S16 = Unit {0}
NeverFails F.U16 = Unit {0}
NeverFails F.S32 = Unit {0}
NeverFails F.U32 = Unit {0}
NeverFails F.S64 = Unit {0}
NeverFails F.U64 = Unit {0}
NeverFails (F.Flags labels) = Unit {0}
NeverFails (F.Own resource) = Unit {0}
NeverFails (F.Borrow resource) = Unit {0}
NeverFails (F.Stream element) = Unit {0}
NeverFails (F.Future element) = Unit {0}
NeverFails other = ⊥

module _ (memory : List ℕ) (place left : ℕ) (e : LiftTrap) where
  never_layer : (y : F.ValType-F ValType Case Field) → NeverFails y → lift_case (parts_in y) memory place left ≡ Err e → ⊥
  never_layer F.Bool k h = cc
  never_layer F.S8 k h = cc
  never_layer F.U8 k h = cc
  never_layer F.S16 k h = cc
  never_layer F.U16 k h = cc
  never_layer F.S32 k h = cc
  never_layer F.U32 k h = cc
  never_layer F.S64 k h = cc
  never_layer F.U64 k h = cc
  never_layer (F.Flags labels) k h = cc
  never_layer (F.Own resource) k h = cc
  never_layer (F.Borrow resource) k h = cc
  never_layer (F.Stream None) k h = cc
  never_layer (F.Stream (Some e)) k h = cc
  never_layer (F.Future None) k h = cc
  never_layer (F.Future (Some e)) k h = cc
  never_layer other k h = absurd k

module _ (memory words : List ℕ) (at left : ℕ) (e : LiftTrap) where
  never_words : (y : F.ValType-F ValType Case Field) → NeverFails y → lift_word_case (parts_in y) memory words at left ≡ Err e → ⊥
  never_words F.Bool k h = cc
  never_words F.S8 k h = cc
  never_words F.U8 k h = cc
  never_words F.S16 k h = cc
  never_words F.U16 k h = cc
  never_words F.S32 k h = cc
  never_words F.U32 k h = cc
  never_words F.S64 k h = cc
  never_words F.U64 k h = cc
  never_words (F.Flags labels) k h = cc
  never_words (F.Own resource) k h = cc
  never_words (F.Borrow resource) k h = cc
  never_words (F.Stream None) k h = cc
  never_words (F.Stream (Some e)) k h = cc
  never_words (F.Future None) k h = cc
  never_words (F.Future (Some e)) k h = cc
  never_words other k h = absurd k

never : (t : ValType) (y : F.ValType-F ValType Case Field) → out-ValType t ≡ y → NeverFails y → Told t
never t y o k = record {
  stops = counted_stops t
      (λ memory place left e h.
      absurd (never_layer memory place left e y k (sym (ap (λ (y : F.ValType-F ValType Case Field). lift_case (parts_in y) memory place left) o) ∙ h)));
  words = counted_word_stops t
      (λ memory words at left e room h.
      absurd (never_words memory words at left e y k (sym (ap (λ (y : F.ValType-F ValType Case Field). lift_word_case (parts_in y) memory words at left) o) ∙ h)));
}

told_char : Told leaves.Char
told_char = record { stops = char_stops; words = word_char_stops }

told_string : Told leaves.String
told_string = record { stops = string_stops; words = word_string_stops }

told_list : (t : ValType) → Told t → Told (types.List t)
told_list t told = record { stops = list_stops t told.stops; words = word_list_stops t told.stops }

-- Records and tuples.
all_stop : (types : List ValType) → AllByRecursion Told types → AllByRecursion Stops types
all_stop [] told = tt
all_stop (t ∷ types) told = (told.0.stops, all_stop types told.1)

all_words_stop : (types : List ValType) → AllByRecursion Told types → AllByRecursion WordStops types
all_words_stop [] told = tt
all_words_stop (t ∷ types) told = (told.0.words, all_words_stop types told.1)

types_told : (fields : List Field) → AllByRecursion ToldField fields → AllByRecursion Told (map (λ (f : Field). f.val_type) fields)
types_told [] a = tt
types_told (f ∷ fields) a = (a.0, types_told fields a.1)

told_record : (fields : List Field) → AllByRecursion ToldField fields → Told (types.Record fields)
told_record fields a =
    let row : IsRow (out-ValType (types.Record fields)) = subst IsRow (sym (out_record fields)) tt in
    let all : List ValType = map (λ (f : Field). f.val_type) fields in
    let told = types_told fields a in
    record {
      stops = row_stops (types.Record fields) all (all_stop all told) row (parts_of_record fields) (λ memory place left why spot f. record_fails place left fields why spot f);
      words = word_row_stops (types.Record fields) all (all_words_stop all told) row (parts_of_record fields) (flat_of_record fields)
          (λ memory ws at left why spot f. flat_record_fails fields ws at left why spot f);
    }

told_tuple : (parts : List ValType) → AllByRecursion Told parts → Told (types.Tuple parts)
told_tuple parts a =
    let row : IsRow (out-ValType (types.Tuple parts)) = subst IsRow (sym (out_tuple parts)) tt in
    record {
      stops = row_stops (types.Tuple parts) parts (all_stop parts a) row (parts_of_tuple parts) (λ memory place left why spot f. tuple_fails place left parts why spot f);
      words = word_row_stops (types.Tuple parts) parts (all_words_stop parts a) row (parts_of_tuple parts) (flat_of_tuple parts)
          (λ memory ws at left why spot f. flat_tuple_fails parts ws at left why spot f);
    }

-- Types with cases.
record CasesFail (t : ValType) (y : F.ValType-F ValType Case Field) (kind : HasCases y) : Type 0 where
  pub bad : (memory : List ℕ) (place left : ℕ) → count_case y ≤ tag (count_case y) place memory → CountedFails memory place t left BadCase place
  pub payload : (memory : List ℕ) (place left n : ℕ) (u : ValType) (why : LiftWhy) (spot : ℕ) → tag (count_case y) place memory ≡ n → n < count_case y
      → part_in (parts_case y) n ≡ Some u → Fails memory (place + payload_place t) u left why spot → CountedFails memory place t left why spot
  pub word_bad : (memory : List ℕ) (n at left : ℕ) (others : List ℕ) → count_case y ≤ n → CountedFlatFails memory t (n ∷ wrapped (shares y kind).types others) at left BadCase at
  pub word_payload : (memory : List ℕ) (n at left : ℕ) (others : List ℕ) (u : ValType) (why : LiftWhy) (spot : ℕ) → n < count_case y → part_in (parts_case y) n ≡ Some u
      → FlatFails memory u (wrapped (flat u) (wrapped (shares y kind).types others)) (at + 1) left why spot
      → CountedFlatFails memory t (n ∷ wrapped (shares y kind).types others) at left why spot

told_cases : (t : ValType) (y : F.ValType-F ValType Case Field) → out-ValType t ≡ y → (kind : HasCases y) → ((n : ℕ) → ToldRest (part_in (parts_case y) n))
    → CasesFail t y kind → Told t
told_cases t y o kind told fail = record {
  stops = case_stops t y o kind (λ n u e. (told n u e).stops) fail.bad fail.payload;
  words = word_case_stops t y o kind (λ n u e. (told n u e).words) fail.word_bad fail.word_payload;
}

payloads_told : (cases : List Case) → AllByRecursion ToldCase cases → (n : ℕ) → ToldRest (part_in (map (λ (c : Case). c.payload) cases) n)
payloads_told [] a n = told_nothing
payloads_told (c ∷ cases) a zero = a.0
payloads_told (c ∷ cases) a (suc n) = payloads_told cases a.1 n

told_variant : (cases : List Case) → AllByRecursion ToldCase cases → Told (types.Variant cases)
told_variant cases a =
    told_cases (types.Variant cases) (F.Variant cases) (out_variant cases) tt (payloads_told cases a) (record {
      bad = λ memory place left h. bad_case place left cases h;
      payload = λ memory place left n u why spot told low is f.
          let c = case_there cases n low in
          case_fails place left n cases c.0 u why spot told c.1 (sym (case_part cases n c.0 c.1) ∙ is) f;
      word_bad = λ memory n at left others h. flat_bad_case cases n (wrapped (shares (F.Variant cases) tt).types others) at left h;
      word_payload = λ memory n at left others u why spot low is f.
          let c = case_there cases n low in
          flat_case_fails n cases c.0 u (wrapped (shares (F.Variant cases) tt).types others) at left why spot c.1 (sym (case_part cases n c.0 c.1) ∙ is) f;
    })

no_part : (n : ℕ) (u : ValType) → part_in [] n ≡ Some u → ⊥
no_part n u h = cc

told_enum : (labels : List (List ℕ)) → Told (leaves.Enum labels)
told_enum labels =
    told_cases (leaves.Enum labels) (F.Enum labels) (out_enum labels) tt (λ n u h. absurd (no_part n u h)) (record {
      bad = λ memory place left h. bad_enum place left labels h;
      payload = λ memory place left n u why spot told low is f. absurd (no_part n u is);
      word_bad = λ memory n at left others h.
          subst (λ (ws : List ℕ). CountedFlatFails memory (leaves.Enum labels) (n ∷ ws) at left BadCase at) (sym (enum_shares labels others)) (flat_bad_enum labels n at left h);
      word_payload = λ memory n at left others u why spot low is f. absurd (no_part n u is);
    })

option_payloads : (t : ValType) → Told t → (n : ℕ) → ToldRest (part_in (None ∷ Some t ∷ []) n)
option_payloads t told zero = told_nothing
option_payloads t told (suc zero) = told_payload t told
option_payloads t told (suc (suc n)) = told_nothing

option_fails : (t : ValType) (memory : List ℕ) (place left n : ℕ) (u : ValType) (why : LiftWhy) (spot : ℕ) → tag 2 place memory ≡ n
    → part_in (None ∷ Some t ∷ []) n ≡ Some u → Fails memory (place + payload_place (types.Option t)) u left why spot → CountedFails memory place (types.Option t) left why spot
option_fails t memory place left zero u why spot told is f = cc
option_fails t memory place left (suc zero) u why spot told is f =
    let e : u ≡ t = cc in
    some_fails place left t why spot told (subst (λ (u : ValType). Fails memory (place + payload_place (types.Option t)) u left why spot) e f)
option_fails t memory place left (suc (suc n)) u why spot told is f = cc

option_words : (t : ValType) (memory : List ℕ) (n at left : ℕ) (ws : List ℕ) (u : ValType) (why : LiftWhy) (spot : ℕ) → part_in (None ∷ Some t ∷ []) n ≡ Some u
    → FlatFails memory u (wrapped (flat u) ws) (at + 1) left why spot → CountedFlatFails memory (types.Option t) (n ∷ ws) at left why spot
option_words t memory zero at left ws u why spot is f = cc
option_words t memory (suc zero) at left ws u why spot is f =
    let e : u ≡ t = cc in
    flat_some_fails t ws at left why spot (subst (λ (u : ValType). FlatFails memory u (wrapped (flat u) ws) (at + 1) left why spot) e f)
option_words t memory (suc (suc n)) at left ws u why spot is f = cc

told_option : (t : ValType) → Told t → Told (types.Option t)
told_option t told =
    told_cases (types.Option t) (F.Option t) (out_option t) tt (option_payloads t told) (record {
      bad = λ memory place left h. bad_option place left t h;
      payload = λ memory place left n u why spot told low is f. option_fails t memory place left n u why spot told is f;
      word_bad = λ memory n at left others h. flat_bad_option t n (wrapped (shares (F.Option t) tt).types others) at left h;
      word_payload = λ memory n at left others u why spot low is f. option_words t memory n at left (wrapped (shares (F.Option t) tt).types others) u why spot is f;
    })

result_payloads : (ok err : Option ValType) → ToldRest ok → ToldRest err → (n : ℕ) → ToldRest (part_in (ok ∷ err ∷ []) n)
result_payloads ok err a b zero = a
result_payloads ok err a b (suc zero) = b
result_payloads ok err a b (suc (suc n)) = told_nothing

result_fails : (ok err : Option ValType) (memory : List ℕ) (place left n : ℕ) (u : ValType) (why : LiftWhy) (spot : ℕ) → tag 2 place memory ≡ n
    → part_in (ok ∷ err ∷ []) n ≡ Some u → Fails memory (place + payload_place (types.Result ok err)) u left why spot → CountedFails memory place (types.Result ok err) left why spot
result_fails ok err memory place left zero u why spot told is f =
    subst (λ (p : Option ValType). Fails memory (place + payload_place (types.Result p err)) u left why spot → CountedFails memory place (types.Result p err) left why spot) (sym is)
    (λ f. ok_fails place left u err why spot told f) f
result_fails ok err memory place left (suc zero) u why spot told is f =
    subst (λ (p : Option ValType). Fails memory (place + payload_place (types.Result ok p)) u left why spot → CountedFails memory place (types.Result ok p) left why spot) (sym is)
    (λ f. err_fails place left ok u why spot told f) f
result_fails ok err memory place left (suc (suc n)) u why spot told is f = cc

result_words : (ok err : Option ValType) (memory : List ℕ) (n at left : ℕ) (ws : List ℕ) (u : ValType) (why : LiftWhy) (spot : ℕ) → part_in (ok ∷ err ∷ []) n ≡ Some u
    → FlatFails memory u (wrapped (flat u) ws) (at + 1) left why spot → CountedFlatFails memory (types.Result ok err) (n ∷ ws) at left why spot
result_words ok err memory zero at left ws u why spot is f =
    subst (λ (p : Option ValType). CountedFlatFails memory (types.Result p err) (0 ∷ ws) at left why spot) (sym is) (flat_ok_fails u err ws at left why spot f)
result_words ok err memory (suc zero) at left ws u why spot is f =
    subst (λ (p : Option ValType). CountedFlatFails memory (types.Result ok p) (1 ∷ ws) at left why spot) (sym is) (flat_err_fails ok u ws at left why spot f)
result_words ok err memory (suc (suc n)) at left ws u why spot is f = cc

told_result : (ok err : Option ValType) → ToldRest ok → ToldRest err → Told (types.Result ok err)
told_result ok err a b =
    told_cases (types.Result ok err) (F.Result ok err) (out_result ok err) tt (result_payloads ok err a b) (record {
      bad = λ memory place left h. bad_result place left ok err h;
      payload = λ memory place left n u why spot told low is f. result_fails ok err memory place left n u why spot told is f;
      word_bad = λ memory n at left others h. flat_bad_result ok err n (wrapped (shares (F.Result ok err) tt).types others) at left h;
      word_payload = λ memory n at left others u why spot low is f. result_words ok err memory n at left (wrapped (shares (F.Result ok err) tt).types others) u why spot is f;
    })

-- every type
told_at : (s t : ValType) → s ≡ t → Told t → Told s
told_at s t e told = subst Told (sym e) told

abbrev layer : F.ValType-F OfType OfCase OfField → F.ValType-F ValType Case Field
layer y = map-ValType OfType OfCase OfField ValType Case Field (λ e. e.0) (λ e. e.0) (λ e. e.0) y

rolled : (y : F.ValType-F ValType Case Field) → NeverFails y → Told (roll-ValType y)
rolled y k = never (roll-ValType y) y (out_of_roll y) k

told_step : (y : F.ValType-F OfType OfCase OfField) → Told (roll-ValType (layer y))
told_step F.Bool = rolled F.Bool tt
told_step F.S8 = rolled F.S8 tt
told_step F.U8 = rolled F.U8 tt
told_step F.S16 = rolled F.S16 tt
told_step F.U16 = rolled F.U16 tt
told_step F.S32 = rolled F.S32 tt
told_step F.U32 = rolled F.U32 tt
told_step F.S64 = rolled F.S64 tt
told_step F.U64 = rolled F.U64 tt
told_step F.Char = told_at _ leaves.Char rolls-Char told_char
told_step F.String = told_at _ leaves.String rolls-String told_string
told_step (F.Record fields) =
    let all = map (λ (e : OfField). e.0) fields in
    told_at (roll-ValType (F.Record all)) (types.Record all) (rolls-Record all) (told_record all (all_of_entries ToldField fields))
told_step (F.Variant cases) =
    let all = map (λ (e : OfCase). e.0) cases in
    told_at (roll-ValType (F.Variant all)) (types.Variant all) (rolls-Variant all) (told_variant all (all_of_entries ToldCase cases))
told_step (F.List e) = told_at (roll-ValType (F.List e.0)) (types.List e.0) (rolls-List e.0) (told_list e.0 e.1)
told_step (F.Tuple parts) =
    let all = map (λ (e : OfType). e.0) parts in
    told_at (roll-ValType (F.Tuple all)) (types.Tuple all) (rolls-Tuple all) (told_tuple all (all_of_entries Told parts))
told_step (F.Flags labels) = rolled (F.Flags labels) tt
told_step (F.Enum labels) = told_at (roll-ValType (F.Enum labels)) (leaves.Enum labels) (rolls-Enum labels) (told_enum labels)
told_step (F.Option e) = told_at (roll-ValType (F.Option e.0)) (types.Option e.0) (rolls-Option e.0) (told_option e.0 e.1)
told_step (F.Result None None) = told_at (roll-ValType (F.Result None None)) (types.Result None None) (rolls-Result None None) (told_result None None told_nothing told_nothing)
told_step (F.Result None (Some e)) =
    told_at (roll-ValType (F.Result None (Some e.0))) (types.Result None (Some e.0)) (rolls-Result None (Some e.0)) (told_result None (Some e.0) told_nothing (told_payload e.0 e.1))
told_step (F.Result (Some o) None) =
    told_at (roll-ValType (F.Result (Some o.0) None)) (types.Result (Some o.0) None) (rolls-Result (Some o.0) None) (told_result (Some o.0) None (told_payload o.0 o.1) told_nothing)
told_step (F.Result (Some o) (Some e)) =
    told_at (roll-ValType (F.Result (Some o.0) (Some e.0))) (types.Result (Some o.0) (Some e.0)) (rolls-Result (Some o.0) (Some e.0))
    (told_result (Some o.0) (Some e.0) (told_payload o.0 o.1) (told_payload e.0 e.1))
told_step (F.Own n) = rolled (F.Own n) tt
told_step (F.Borrow n) = rolled (F.Borrow n) tt
told_step (F.Stream None) = rolled (F.Stream None) tt
told_step (F.Stream (Some e)) = rolled (F.Stream (Some e.0)) tt
told_step (F.Future None) = rolled (F.Future None) tt
told_step (F.Future (Some e)) = rolled (F.Future (Some e.0)) tt

told_case_step : (y : F.Case-F OfType OfCase OfField) → ToldCase (roll-Case (map-Case OfType OfCase OfField ValType Case Field (λ e. e.0) (λ e. e.0) (λ e. e.0) y))
told_case_step y =
    elim y.payload as (λ p. ToldCase (roll-Case (map-Case OfType OfCase OfField ValType Case Field (λ e. e.0) (λ e. e.0) (λ e. e.0) (record { label = y.label; payload = p })))) [
      | Some e ↦ told_payload e.0 e.1
      | None ↦ told_nothing
    ]

told_field_step : (y : F.Field-F OfType OfCase OfField) → ToldField (roll-Field (map-Field OfType OfCase OfField ValType Case Field (λ e. e.0) (λ e. e.0) (λ e. e.0) y))
told_field_step y = y.val_type.1

pub type_stops : (t : ValType) → BothStop t
type_stops =
    ind-ValType Told ToldCase ToldField
    (λ x y e. subst (λ (z : F.ValType-F ValType Case Field). Told (roll-ValType z)) e (told_step y))
    (λ x y e. subst (λ (z : F.Case-F ValType Case Field). ToldCase (roll-Case z)) e (told_case_step y))
    (λ x y e. subst (λ (z : F.Field-F ValType Case Field). ToldField (roll-Field z)) e (told_field_step y))
