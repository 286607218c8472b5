-- Types as they are written in a component, at any depth, and that none of them is of streams, futures, handles or resources, or has 2^32
-- labels or more, where it is told apart whether either may be.
use Rattle.std.proofs.Common.{◌≡◌, ◌⊎◌, ◌^◌, inl, inr, Bool, true, List, [], ◌∷◌, length, subst}
use Rattle.std.specs.Prelude.{◌||◌, nat_lt}
use Rattle.ca_base.specs.declared.placed.Placed.{Placed}
use Rattle.comp_tree.specs.declared.externs.ExternDesc.{ExternDesc}
use Rattle.comp_tree.specs.declared.externs.ExternDesc.TheVariants as desc
use Rattle.comp_tree.specs.declared.types.DefValType.{DefValType}
use Rattle.comp_tree.specs.declared.types.DefValType.TheVariants as written
use Rattle.comp_tree.specs.declared.types.DefType.{DefType, fold-DefType}
use Rattle.comp_tree.specs.declared.types.DefType.TheOpen.{DefType-F, InstanceDecl-F}
use Rattle.comp_tree.specs.declared.items.Item.{Item, out-Item}
use Rattle.comp_tree.specs.declared.items.Item.TheOpen.{Item-F}
use Rattle.comp_tree.specs.declared.items.Component.{Component}
use Rattle.value_reader.specs.Writable.{all_true}

-- What an export is asked to be, a value type, and a type in which it may stand.
abbrev pub is_few_desc : Bool → ExternDesc → Bool
is_few_desc ends desc.Resource = ends
is_few_desc ends asked = true

abbrev pub is_few : Bool → Bool → DefValType → Bool
is_few ends many (written.Variant cases) = many || nat_lt (length cases) (2 ^ 32)
is_few ends many (written.Enum labels) = many || nat_lt (length labels) (2 ^ 32)
is_few ends many (written.Stream element) = ends
is_few ends many (written.Future element) = ends
is_few ends many (written.Own resource) = ends
is_few ends many (written.Borrow resource) = ends
is_few ends many type = true

abbrev pub few_step : Bool → Bool → DefType-F Bool Bool → Bool
few_step ends many (DefType-F.Value type) = is_few ends many type
few_step ends many (DefType-F.Func type) = true
few_step ends many (DefType-F.Instance decls) = all_true decls
few_step ends many (DefType-F.Resource destructor) = ends

abbrev pub few_decl_step : Bool → InstanceDecl-F Bool Bool → Bool
few_decl_step ends (InstanceDecl-F.Type type) = type
few_decl_step ends (InstanceDecl-F.Alias alias) = true
few_decl_step ends (InstanceDecl-F.Export name asked) = is_few_desc ends asked

abbrev pub has_few : Bool → Bool → DefType → Bool
has_few ends many = fold-DefType Bool Bool (few_step ends many) (few_decl_step ends)

-- The type is one of these items, or stands in a component that is one of them.
pub data TypeStands (t : DefType) : List (Placed Item) → Type 0 where
  type_first : (placed : Placed Item) (items : List (Placed Item)) → out-Item placed.item ≡ Item-F.Type t → TypeStands t (placed ∷ items)
  type_inside : (placed : Placed Item) (items : List (Placed Item)) (c : Component)
      → out-Item placed.item ≡ Item-F.Component c → TypeStands t c.items → TypeStands t (placed ∷ items)
  type_behind : (placed : Placed Item) (items : List (Placed Item)) → TypeStands t items → TypeStands t (placed ∷ items)

-- every type that stands among these items is so
abbrev pub TypesHave : Bool → Bool → List (Placed Item) → Type 0
TypesHave ends many items = (t : DefType) → TypeStands t items → has_few ends many t ≡ true

-- what an item is to have where it is a type or a component
abbrev pub ShapeHas : Bool → Bool → Item-F Item Component → Type 0
ShapeHas ends many (Item-F.Type t) = has_few ends many t ≡ true
ShapeHas ends many (Item-F.Component c) = TypesHave ends many c.items
ShapeHas ends many other = Unit {0}

-- Where a type stands: it is the first item, or stands in it, or behind it.
abbrev Standings : DefType → List (Placed Item) → Type 0
Standings t [] = ⊥
Standings t (placed ∷ items) =
    (out-Item placed.item ≡ Item-F.Type t) ⊎ ((c : Component) × (out-Item placed.item ≡ Item-F.Component c) × TypeStands t c.items) ⊎ TypeStands t items

standings : (t : DefType) (items : List (Placed Item)) → TypeStands t items → Standings t items
standings t items (type_first placed others is) = inl is
standings t items (type_inside placed others c is inside) = inr (inl (c, is, inside))
standings t items (type_behind placed others behind) = inr (inr behind)

pub none_have : (ends many : Bool) → TypesHave ends many []
none_have ends many t h = absurd (standings t [] h)

pub more_have : (ends many : Bool) (placed : Placed Item) (items : List (Placed Item)) → ShapeHas ends many (out-Item placed.item) → TypesHave ends many items → TypesHave ends many (placed ∷ items)
more_have ends many placed items first others t h =
    elim (standings t (placed ∷ items) h) [
      | inl is ↦ (let has : ShapeHas ends many (Item-F.Type t) = subst (ShapeHas ends many) is first in has)
      | inr k ↦
          elim k [
            | inl inside ↦ (let has : ShapeHas ends many (Item-F.Component inside.0) = subst (ShapeHas ends many) inside.1 first in has t inside.2)
            | inr behind ↦ others t behind
          ]
    ]

-- what the first of some items is to have
pub shape_has : (ends many : Bool) (placed : Placed Item) (items : List (Placed Item)) → TypesHave ends many (placed ∷ items) → (shape : Item-F Item Component) → out-Item placed.item ≡ shape → ShapeHas ends many shape
shape_has ends many placed items h (Item-F.Type t) e = h t (type_first placed items e)
shape_has ends many placed items h (Item-F.Component c) e = λ t k. h t (type_inside placed items c e k)
shape_has ends many placed items h shape e = tt

pub behind_have : (ends many : Bool) (placed : Placed Item) (items : List (Placed Item)) → TypesHave ends many (placed ∷ items) → TypesHave ends many items
behind_have ends many placed items h t k = h t (type_behind placed items k)
