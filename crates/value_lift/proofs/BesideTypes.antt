-- Over two ledgers that go beside each other the values of every type are lifted alike.
use Rattle.std.proofs.Common.{◌≡◌, ◌∙◌, ℕ, zero, suc, List, [], ◌∷◌, map, Option, Some, None, Result, Ok, refl, ap, sym, subst}
use Rattle.std.specs.List.{AllByRecursion}
use Rattle.syntax_trees.specs.declared.types.ValType.{ValType, out-ValType, roll-ValType}
use Rattle.syntax_trees.specs.declared.types.Case.{Case}
use Rattle.syntax_trees.specs.declared.types.Field.{Field}
use Rattle.syntax_trees.specs.declared.types.ValType.TheViews as types
use Rattle.syntax_trees.specs.declared.types.ValType.TheViews.{roll-Case, roll-Field}
use Rattle.syntax_trees.specs.declared.types.ValType.TheVariants.{rolls-Record, rolls-Variant, rolls-Tuple, rolls-Option, rolls-Result}
use Rattle.syntax_trees.specs.declared.types.ValType.TheOpen as F
use Rattle.syntax_trees.specs.declared.types.ValType.TheFolds.{ind-ValType, map-ValType, map-Case, map-Field}
use Rattle.laid_types.specs.Parts.{parts_case}
use Rattle.value_lift.specs.declared.named.Named.{Named}
use Rattle.value_lift.specs.declared.named.Named.TheVariants as named
use Rattle.value_lift.specs.Leaves.{part_in}
use Rattle.value_lift.specs.Named.{named_in}
use Rattle.value_lift.specs.Ledger.{Ledger}
use Rattle.value_lift.specs.Over.{load_by, load_list_by, lift_flat_by}
use Rattle.value_lift.proofs.Both.{Both}
use Rattle.value_lift.proofs.Beside.{AreBeside, Alike, AlikeRest, Carries, AllCarry, alike_named, alike_plain, alike_string, alike_flags, alike_list, alike_row, alike_cases, load_on, load_list_on}
use Rattle.value_lift.proofs.OverForms.{IsRow, HasCases, IsPlain}
use Rattle.value_lift.proofs.Stood.{parts_of_record, parts_of_tuple}
use Rattle.value_lift.proofs.TypesFound.{all_of_entries, out_of_roll}
use Rattle.value_lift.proofs.Views.{out_record, out_tuple, out_variant, out_option, out_result}

module _ {S J T G : Type 0} (l : Ledger S J) (m : Ledger T G) (names : ℕ → ℕ) (Beside : S → Result T G → Type 0) (Ended : J → G → Type 0)
    (beside : AreBeside l m names Beside Ended) where
  abbrev Told : ValType → Type 0
  Told t = Alike l m names Beside Ended t

  abbrev ToldRest : Option ValType → Type 0
  ToldRest p = AlikeRest l m names Beside Ended p

  abbrev ToldCase : Case → Type 0
  ToldCase c = ToldRest c.payload

  abbrev ToldField : Field → Type 0
  ToldField f = Told f.val_type

  abbrev OfType : Type 0
  OfType = (t : ValType) × Told t

  abbrev OfCase : Type 0
  OfCase = (c : Case) × ToldCase c

  abbrev OfField : Type 0
  OfField = (f : Field) × ToldField f

  told_nothing : ToldRest None
  told_nothing t h = cc

  told_payload : (t : ValType) → Told t → ToldRest (Some t)
  told_payload t told u h =
      let e : t ≡ u = cc in
      subst Told e told

  told_at : (s t : ValType) → s ≡ t → Told t → Told s
  told_at s t e told = subst Told (sym e) told

  -- types without parts
  rolled_plain : (y : F.ValType-F ValType Case Field) → IsPlain y → named_in y ≡ None → Told (roll-ValType y)
  rolled_plain y h e =
      alike_plain l m names Beside Ended beside (roll-ValType y) (subst IsPlain (sym (out_of_roll y)) h)
      (ap (λ (y : F.ValType-F ValType Case Field). named_in y) (out_of_roll y) ∙ e)

  rolled_named : (y : F.ValType-F ValType Case Field) (n : Named) → named_in y ≡ Some n → Told (roll-ValType y)
  rolled_named y n e =
      alike_named l m names Beside Ended beside (roll-ValType y) n (ap (λ (y : F.ValType-F ValType Case Field). named_in y) (out_of_roll y) ∙ e)

  -- records and tuples
  types_told : (fields : List Field) → AllByRecursion ToldField fields → AllByRecursion Told (map (λ (f : Field). f.val_type) fields)
  types_told [] a = tt
  types_told (f ∷ fields) a = (a.0, types_told fields a.1)

  told_record : (fields : List Field) → AllByRecursion ToldField fields → Told (types.Record fields)
  told_record fields a =
      alike_row l m names Beside Ended beside (types.Record fields) (map (λ (f : Field). f.val_type) fields) (subst IsRow (sym (out_record fields)) tt)
      (parts_of_record fields) (types_told fields a)

  told_tuple : (parts : List ValType) → AllByRecursion Told parts → Told (types.Tuple parts)
  told_tuple parts a =
      alike_row l m names Beside Ended beside (types.Tuple parts) parts (subst IsRow (sym (out_tuple parts)) tt) (parts_of_tuple parts) a

  -- types with cases
  told_cases : (t : ValType) (y : F.ValType-F ValType Case Field) → out-ValType t ≡ y → HasCases y → ((n : ℕ) → ToldRest (part_in (parts_case y) n)) → Told t
  told_cases t y o kind told =
      alike_cases l m names Beside Ended beside t (subst HasCases (sym o) kind)
      (λ n u e. told n u (sym (ap (λ (y : F.ValType-F ValType Case Field). part_in (parts_case y) n) o) ∙ e))

  payloads_told : (cases : List Case) → AllByRecursion ToldCase cases → (n : ℕ) → ToldRest (part_in (map (λ (c : Case). c.payload) cases) n)
  payloads_told [] a n = told_nothing
  payloads_told (c ∷ cases) a zero = a.0
  payloads_told (c ∷ cases) a (suc n) = payloads_told cases a.1 n

  option_payloads : (t : ValType) → Told t → (n : ℕ) → ToldRest (part_in (None ∷ Some t ∷ []) n)
  option_payloads t told zero = told_nothing
  option_payloads t told (suc zero) = told_payload t told
  option_payloads t told (suc (suc n)) = told_nothing

  result_payloads : (ok err : Option ValType) → ToldRest ok → ToldRest err → (n : ℕ) → ToldRest (part_in (ok ∷ err ∷ []) n)
  result_payloads ok err a b zero = a
  result_payloads ok err a b (suc zero) = b
  result_payloads ok err a b (suc (suc n)) = told_nothing

  told_result : (ok err : Option ValType) → ToldRest ok → ToldRest err → Told (types.Result ok err)
  told_result ok err a b = told_cases (types.Result ok err) (F.Result ok err) (out_result ok err) tt (result_payloads ok err a b)

  -- every type
  abbrev layer : F.ValType-F OfType OfCase OfField → F.ValType-F ValType Case Field
  layer y = map-ValType OfType OfCase OfField ValType Case Field (λ e. e.0) (λ e. e.0) (λ e. e.0) y

  told_step : (y : F.ValType-F OfType OfCase OfField) → Told (roll-ValType (layer y))
  told_step F.Bool = rolled_plain F.Bool tt refl
  told_step F.S8 = rolled_plain F.S8 tt refl
  told_step F.U8 = rolled_plain F.U8 tt refl
  told_step F.S16 = rolled_plain F.S16 tt refl
  told_step F.U16 = rolled_plain F.U16 tt refl
  told_step F.S32 = rolled_plain F.S32 tt refl
  told_step F.U32 = rolled_plain F.U32 tt refl
  told_step F.S64 = rolled_plain F.S64 tt refl
  told_step F.U64 = rolled_plain F.U64 tt refl
  told_step F.Char = rolled_plain F.Char tt refl
  told_step F.String = alike_string l m names Beside Ended beside (roll-ValType F.String) (out_of_roll F.String)
  told_step (F.Record fields) =
      let all = map (λ (e : OfField). e.0) fields in
      told_at (roll-ValType (F.Record all)) (types.Record all) (rolls-Record all) (told_record all (all_of_entries ToldField fields))
  told_step (F.Variant cases) =
      let all = map (λ (e : OfCase). e.0) cases in
      told_at (roll-ValType (F.Variant all)) (types.Variant all) (rolls-Variant all)
      (told_cases (types.Variant all) (F.Variant all) (out_variant all) tt (payloads_told all (all_of_entries ToldCase cases)))
  told_step (F.List e) = alike_list l m names Beside Ended beside (roll-ValType (F.List e.0)) e.0 (out_of_roll (F.List e.0)) e.1
  told_step (F.Tuple parts) =
      let all = map (λ (e : OfType). e.0) parts in
      told_at (roll-ValType (F.Tuple all)) (types.Tuple all) (rolls-Tuple all) (told_tuple all (all_of_entries Told parts))
  told_step (F.Flags labels) = alike_flags l m names Beside Ended beside (roll-ValType (F.Flags labels)) labels (out_of_roll (F.Flags labels))
  told_step (F.Enum labels) = told_cases (roll-ValType (F.Enum labels)) (F.Enum labels) (out_of_roll (F.Enum labels)) tt (λ n. told_nothing)
  told_step (F.Option e) =
      told_at (roll-ValType (F.Option e.0)) (types.Option e.0) (rolls-Option e.0) (told_cases (types.Option e.0) (F.Option e.0) (out_option e.0) tt (option_payloads e.0 e.1))
  told_step (F.Result None None) =
      told_at (roll-ValType (F.Result None None)) (types.Result None None) (rolls-Result None None) (told_result None None told_nothing told_nothing)
  told_step (F.Result None (Some e)) =
      told_at (roll-ValType (F.Result None (Some e.0))) (types.Result None (Some e.0)) (rolls-Result None (Some e.0)) (told_result None (Some e.0) told_nothing (told_payload e.0 e.1))
  told_step (F.Result (Some o) None) =
      told_at (roll-ValType (F.Result (Some o.0) None)) (types.Result (Some o.0) None) (rolls-Result (Some o.0) None) (told_result (Some o.0) None (told_payload o.0 o.1) told_nothing)
  told_step (F.Result (Some o) (Some e)) =
      told_at (roll-ValType (F.Result (Some o.0) (Some e.0))) (types.Result (Some o.0) (Some e.0)) (rolls-Result (Some o.0) (Some e.0))
      (told_result (Some o.0) (Some e.0) (told_payload o.0 o.1) (told_payload e.0 e.1))
  told_step (F.Own n) = rolled_named (F.Own n) (named.Own n) refl
  told_step (F.Borrow n) = rolled_named (F.Borrow n) (named.Borrow n) refl
  told_step (F.Stream None) = rolled_named (F.Stream None) named.Stream refl
  told_step (F.Stream (Some e)) = rolled_named (F.Stream (Some e.0)) named.Stream refl
  told_step (F.Future None) = rolled_named (F.Future None) named.Future refl
  told_step (F.Future (Some e)) = rolled_named (F.Future (Some e.0)) named.Future refl

  told_case_step : (y : F.Case-F OfType OfCase OfField) → ToldCase (roll-Case (map-Case OfType OfCase OfField ValType Case Field (λ e. e.0) (λ e. e.0) (λ e. e.0) y))
  told_case_step y =
      elim y.payload as (λ p. ToldCase (roll-Case (map-Case OfType OfCase OfField ValType Case Field (λ e. e.0) (λ e. e.0) (λ e. e.0) (record { label = y.label; payload = p })))) [
        | Some e ↦ told_payload e.0 e.1
        | None ↦ told_nothing
      ]

  told_field_step : (y : F.Field-F OfType OfCase OfField) → ToldField (roll-Field (map-Field OfType OfCase OfField ValType Case Field (λ e. e.0) (λ e. e.0) (λ e. e.0) y))
  told_field_step y = y.val_type.1

  pub alike : (t : ValType) → Alike l m names Beside Ended t
  alike =
      ind-ValType Told ToldCase ToldField
      (λ x y e. subst (λ (z : F.ValType-F ValType Case Field). Told (roll-ValType z)) e (told_step y))
      (λ x y e. subst (λ (z : F.Case-F ValType Case Field). ToldCase (roll-Case z)) e (told_case_step y))
      (λ x y e. subst (λ (z : F.Field-F ValType Case Field). ToldField (roll-Field z)) e (told_field_step y))

  -- A whole lifting.
  pub loads_alike : (t : ValType) (memory : List ℕ) (place : ℕ) (s : S) (k : T) → Beside s (Ok k)
      → Both Beside Ended (Carries l m names Beside Ended) (load_by l t memory place s) (load_by m t memory place k)
  loads_alike t memory place s k b = load_on l m names Beside Ended beside t (alike t) memory place s (Ok k) b

  pub lists_alike : (t : ValType) (memory : List ℕ) (place count : ℕ) (s : S) (k : T) → Beside s (Ok k)
      → Both Beside Ended (AllCarry l m names Beside Ended) (load_list_by l t memory place count s) (load_list_by m t memory place count k)
  lists_alike t memory place count s k b = load_list_on l m names Beside Ended beside t (alike t) memory place count s (Ok k) b

  pub words_alike : (t : ValType) (memory words : List ℕ) (s : S) (k : T) → Beside s (Ok k)
      → Both Beside Ended (Carries l m names Beside Ended) (lift_flat_by l t memory words s) (lift_flat_by m t memory words k)
  words_alike t memory words s k b = (alike t).words memory words 0 s (Ok k) b
