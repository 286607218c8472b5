-- Types of the same form, with the same resource, the same labels and the same parts, are the same: a type is made again of these.
use Rattle.std.proofs.Common.{◌≡◌, ◌∙◌, ℕ, List, [], ◌∷◌, map, refl, ap, sym, Some, None, Option}
use Rattle.std.specs.Prelude.{unwrap_or}
use Rattle.syntax_trees.specs.declared.types.ValType.{ValType, out-ValType, roll-ValType}
use Rattle.syntax_trees.specs.declared.types.ValType.TheOpen as F
use Rattle.syntax_trees.specs.declared.types.ValType.TheVariants as leaves
use Rattle.syntax_trees.specs.declared.types.ValType.TheViews.{roll-out-ValType}
use Rattle.syntax_trees.specs.declared.types.Field.{Field}
use Rattle.syntax_trees.specs.declared.types.Case.{Case}
use Rattle.laid_types.specs.Parts.{parts_case, parts_of, labels_case, labels_of}
use Rattle.laid_types.proofs.ByParts.{Layer}
use Rattle.link_values.specs.declared.keys.Form.{Form}
use Rattle.link_values.specs.declared.keys.Form.TheVariants as form
use Rattle.link_values.specs.Keys.{form_case, form_of, resource_case, resource_of}

abbrev Parts : Type 0
Parts = List (Option ValType)

abbrev places_at : Parts → List ValType
places_at [] = []
places_at (part ∷ parts) = unwrap_or part leaves.Bool ∷ places_at parts

abbrev fields_at : List (List ℕ) → Parts → List Field
fields_at [] parts = []
fields_at (label ∷ labels) [] = []
fields_at (label ∷ labels) (part ∷ parts) = record { label = label; val_type = unwrap_or part leaves.Bool } ∷ fields_at labels parts

abbrev cases_at : List (List ℕ) → Parts → List Case
cases_at [] parts = []
cases_at (label ∷ labels) [] = []
cases_at (label ∷ labels) (part ∷ parts) = record { label = label; payload = part } ∷ cases_at labels parts

abbrev first : Parts → Option ValType
first [] = None
first (part ∷ parts) = part

abbrev second : Parts → Option ValType
second [] = None
second (part ∷ parts) = first parts

abbrev layer_at : Form → ℕ → List (List ℕ) → Parts → Layer
layer_at form.Bool resource labels parts = F.Bool
layer_at form.S8 resource labels parts = F.S8
layer_at form.U8 resource labels parts = F.U8
layer_at form.S16 resource labels parts = F.S16
layer_at form.U16 resource labels parts = F.U16
layer_at form.S32 resource labels parts = F.S32
layer_at form.U32 resource labels parts = F.U32
layer_at form.S64 resource labels parts = F.S64
layer_at form.U64 resource labels parts = F.U64
layer_at form.Char resource labels parts = F.Char
layer_at form.String resource labels parts = F.String
layer_at form.Record resource labels parts = F.Record (fields_at labels parts)
layer_at form.Variant resource labels parts = F.Variant (cases_at labels parts)
layer_at form.List resource labels parts = F.List (unwrap_or (first parts) leaves.Bool)
layer_at form.Tuple resource labels parts = F.Tuple (places_at parts)
layer_at form.Flags resource labels parts = F.Flags labels
layer_at form.Enum resource labels parts = F.Enum labels
layer_at form.Option resource labels parts = F.Option (unwrap_or (second parts) leaves.Bool)
layer_at form.Result resource labels parts = F.Result (first parts) (second parts)
layer_at form.Own resource labels parts = F.Own resource
layer_at form.Borrow resource labels parts = F.Borrow resource
layer_at form.Stream resource labels parts = F.Stream (first parts)
layer_at form.Future resource labels parts = F.Future (first parts)

places_again : (places : List ValType) → places_at (map Some places) ≡ places
places_again [] = refl
places_again (p ∷ places) = ap (λ (ps : List ValType). p ∷ ps) (places_again places)

fields_again : (fields : List Field) → fields_at (map (λ (f : Field). f.label) fields) (map (λ (f : Field). Some f.val_type) fields) ≡ fields
fields_again [] = refl
fields_again (f ∷ fields) = ap (λ (fs : List Field). f ∷ fs) (fields_again fields)

cases_again : (cases : List Case) → cases_at (map (λ (c : Case). c.label) cases) (map (λ (c : Case). c.payload) cases) ≡ cases
cases_again [] = refl
cases_again (c ∷ cases) = ap (λ (cs : List Case). c ∷ cs) (cases_again cases)

layer_again : (x : Layer) → layer_at (form_case x) (resource_case x) (labels_case x) (parts_case x) ≡ x
layer_again F.Bool = refl
layer_again F.S8 = refl
layer_again F.U8 = refl
layer_again F.S16 = refl
layer_again F.U16 = refl
layer_again F.S32 = refl
layer_again F.U32 = refl
layer_again F.S64 = refl
layer_again F.U64 = refl
layer_again F.Char = refl
layer_again F.String = refl
layer_again (F.Record fields) = ap (λ (fs : List Field). F.Record fs) (fields_again fields)
layer_again (F.Variant cases) = ap (λ (cs : List Case). F.Variant cs) (cases_again cases)
layer_again (F.List element) = refl
layer_again (F.Tuple parts) = ap (λ (ps : List ValType). F.Tuple ps) (places_again parts)
layer_again (F.Flags labels) = refl
layer_again (F.Enum labels) = refl
layer_again (F.Option payload) = refl
layer_again (F.Result ok err) = refl
layer_again (F.Own resource) = refl
layer_again (F.Borrow resource) = refl
layer_again (F.Stream element) = refl
layer_again (F.Future element) = refl

layer_same : (x y : Layer) → form_case x ≡ form_case y → resource_case x ≡ resource_case y → labels_case x ≡ labels_case y → parts_case x ≡ parts_case y → x ≡ y
layer_same x y e r l p =
    sym (layer_again x)
    ∙ ap (λ (f : Form). layer_at f (resource_case x) (labels_case x) (parts_case x)) e
    ∙ ap (λ (n : ℕ). layer_at (form_case y) n (labels_case x) (parts_case x)) r
    ∙ ap (λ (ls : List (List ℕ)). layer_at (form_case y) (resource_case y) ls (parts_case x)) l
    ∙ ap (λ (ps : Parts). layer_at (form_case y) (resource_case y) (labels_case y) ps) p
    ∙ layer_again y

pub types_same : (t u : ValType) → form_of t ≡ form_of u → resource_of t ≡ resource_of u → labels_of t ≡ labels_of u → parts_of t ≡ parts_of u → t ≡ u
types_same t u e r l p =
    sym (roll-out-ValType t) ∙ ap roll-ValType (layer_same (out-ValType t) (out-ValType u) e r l p) ∙ roll-out-ValType u
