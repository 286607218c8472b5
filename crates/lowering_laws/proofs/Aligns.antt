-- Alignments are at most 8.
use Rattle.std.proofs.Common.{◌≡◌, ◌∙◌, ◌≤◌, ℕ, nat_le, if◌then◌else◌, List, [], ◌∷◌, map, length, Option, Some, None, ap, sym, subst, arith}
use Rattle.syntax_trees.specs.declared.types.ValType.{ValType, roll-ValType}
use Rattle.syntax_trees.specs.declared.types.Case.{Case}
use Rattle.syntax_trees.specs.declared.types.Field.{Field}
use Rattle.syntax_trees.specs.declared.types.ValType.TheOpen as F
use Rattle.syntax_trees.specs.declared.types.ValType.TheViews.{roll-Case, roll-Field}
use Rattle.syntax_trees.specs.declared.types.ValType.TheFolds.{ind-ValType, map-ValType, map-Case}
use Rattle.laid_types.specs.Layout.{Laid, laid, laid_step, top_align, there, tag_size, bits_size}
use Rattle.syntax_trees.proofs.Folds.{held}
use Rattle.wasm_store.proofs.Lists.{if_both}
use Rattle.value_lift.proofs.Equations.{layouts_in, laid_is}
use Rattle.value_lift.proofs.TypesFound.{out_of_roll}

abbrev IsLow : ValType → Type 0
IsLow t = (laid t).align ≤ 8

abbrev HeldLow : Option ValType → Type 0
HeldLow None = Unit {0}
HeldLow (Some t) = IsLow t

abbrev CaseLow : Case → Type 0
CaseLow c = HeldLow c.payload

abbrev FieldLow : Field → Type 0
FieldLow f = IsLow f.val_type

abbrev OfType : Type 0
OfType = (t : ValType) × IsLow t

abbrev OfCase : Type 0
OfCase = (c : Case) × CaseLow c

abbrev OfField : Type 0
OfField = (f : Field) × FieldLow f

abbrev layer : F.ValType-F OfType OfCase OfField → F.ValType-F ValType Case Field
layer y = map-ValType OfType OfCase OfField ValType Case Field (λ e. e.0) (λ e. e.0) (λ e. e.0) y

tag_low : (count : ℕ) → tag_size count ≤ 8
tag_low count =
    if_both (λ (n : ℕ). n ≤ 8) (nat_le count 256) 1 (if nat_le count 65536 then 2 else 4) (λ e. omega arith)
    (λ e. if_both (λ (n : ℕ). n ≤ 8) (nat_le count 65536) 2 4 (λ f. omega arith) (λ f. omega arith))

bits_low : (count : ℕ) → bits_size count ≤ 8
bits_low count =
    if_both (λ (n : ℕ). n ≤ 8) (nat_le count 8) 1 (if nat_le count 16 then 2 else 4) (λ e. omega arith)
    (λ e. if_both (λ (n : ℕ). n ≤ 8) (nat_le count 16) 2 4 (λ f. omega arith) (λ f. omega arith))

fields_low : (fields : List OfField) → top_align (map (λ (f : Field). laid f.val_type) (map (λ (e : OfField). e.0) fields)) ≤ 8
fields_low [] = omega arith
fields_low (e ∷ fields) = omega (arith, e.1, fields_low fields)

places_low : (types : List OfType) → top_align (map laid (map (λ (e : OfType). e.0) types)) ≤ 8
places_low [] = omega arith
places_low (e ∷ types) = omega (arith, e.1, places_low types)

held_low : (p : Option ValType) (parts : List (Option Laid)) → HeldLow p → top_align (there parts) ≤ 8 → top_align (there (held laid p ∷ parts)) ≤ 8
held_low None parts h i = i
held_low (Some t) parts h i = let low : (laid t).align ≤ 8 = h in omega (arith, low, i)

cases_low : (cases : List OfCase) → top_align (there (map (λ (c : Case). held laid c.payload) (map (λ (e : OfCase). e.0) cases))) ≤ 8
cases_low [] = omega arith
cases_low (e ∷ cases) = held_low e.0.payload (map (λ (c : Case). held laid c.payload) (map (λ (e : OfCase). e.0) cases)) e.1 (cases_low cases)

step_low : (y : F.ValType-F OfType OfCase OfField) → (laid_step (layouts_in (layer y))).align ≤ 8
step_low F.Bool = omega arith
step_low F.S8 = omega arith
step_low F.U8 = omega arith
step_low F.S16 = omega arith
step_low F.U16 = omega arith
step_low F.S32 = omega arith
step_low F.U32 = omega arith
step_low F.S64 = omega arith
step_low F.U64 = omega arith
step_low F.Char = omega arith
step_low F.String = omega arith
step_low (F.List e) = omega arith
step_low (F.Record fields) = fields_low fields
step_low (F.Tuple types) = places_low types
step_low (F.Variant cases) =
    omega (arith, tag_low (length (map (λ (c : Case). held laid c.payload) (map (λ (e : OfCase). e.0) cases))), cases_low cases)
step_low (F.Flags labels) = bits_low (length labels)
step_low (F.Enum labels) = omega (arith, tag_low (length labels))
step_low (F.Option e) = omega (arith, e.1)
step_low (F.Result None None) = omega arith
step_low (F.Result None (Some e)) = omega (arith, e.1)
step_low (F.Result (Some o) None) = omega (arith, o.1)
step_low (F.Result (Some o) (Some e)) = omega (arith, o.1, e.1)
step_low (F.Own n) = omega arith
step_low (F.Borrow n) = omega arith
step_low (F.Stream e) = omega arith
step_low (F.Future e) = omega arith

type_low : (y : F.ValType-F OfType OfCase OfField) → IsLow (roll-ValType (layer y))
type_low y =
    let e : laid (roll-ValType (layer y)) ≡ laid_step (layouts_in (layer y)) =
    laid_is (roll-ValType (layer y)) ∙ ap (λ (z : F.ValType-F ValType Case Field). laid_step (layouts_in z)) (out_of_roll (layer y)) in
    subst (λ (l : Laid). l.align ≤ 8) (sym e) (step_low y)

case_low : (y : F.Case-F OfType OfCase OfField) → CaseLow (roll-Case (map-Case OfType OfCase OfField ValType Case Field (λ e. e.0) (λ e. e.0) (λ e. e.0) y))
case_low y =
    elim y.payload as (λ p. CaseLow (roll-Case (map-Case OfType OfCase OfField ValType Case Field (λ e. e.0) (λ e. e.0) (λ e. e.0) (record { label = y.label; payload = p })))) [
      | Some e ↦ e.1
      | None ↦ tt
    ]

pub align_low : (t : ValType) → (laid t).align ≤ 8
align_low =
    ind-ValType IsLow CaseLow FieldLow
    (λ x y e. subst (λ (z : F.ValType-F ValType Case Field). IsLow (roll-ValType z)) e (type_low y))
    (λ x y e. subst (λ (z : F.Case-F ValType Case Field). CaseLow (roll-Case z)) e (case_low y))
    (λ x y e. subst (λ (z : F.Field-F ValType Case Field). FieldLow (roll-Field z)) e (y.val_type.1))
