-- What all modules have that stand among items: by the items, one by one.
use Rattle.std.proofs.Common.{◌≡◌, ◌⊎◌, inl, inr, List, [], ◌∷◌, subst}
use Rattle.ca_base.specs.declared.placed.Placed.{Placed}
use Rattle.syntax_trees.specs.declared.module.ModuleTree.{ModuleTree}
use Rattle.comp_tree.specs.declared.items.Item.{Item, out-Item}
use Rattle.comp_tree.specs.declared.items.Item.TheOpen.{Item-F}
use Rattle.comp_tree.specs.declared.items.Component.{Component}
use Rattle.link_spec.specs.Standing.{StandsIn, stands_first, stands_inside, stands_behind}

-- every module that stands among these items has this
abbrev pub ModulesHave : (ModuleTree → Type 0) → List (Placed Item) → Type 0
ModulesHave R items = (m : ModuleTree) → StandsIn m items → R m

-- what an item is to have where it is a core module or a component
abbrev pub ShapeHas : (ModuleTree → Type 0) → Item-F Item Component → Type 0
ShapeHas R (Item-F.CoreModule m) = R m
ShapeHas R (Item-F.Component c) = ModulesHave R c.items
ShapeHas R other = Unit {0}

-- Where a module stands: it is the first item, or stands in it, or behind it.
abbrev Standings : ModuleTree → List (Placed Item) → Type 0
Standings m [] = ⊥
Standings m (placed ∷ items) =
    (out-Item placed.item ≡ Item-F.CoreModule m) ⊎ ((c : Component) × (out-Item placed.item ≡ Item-F.Component c) × StandsIn m c.items) ⊎ StandsIn m items

standings : (m : ModuleTree) (items : List (Placed Item)) → StandsIn m items → Standings m items
standings m items (stands_first placed others is) = inl is
standings m items (stands_inside placed others c is inside) = inr (inl (c, is, inside))
standings m items (stands_behind placed others behind) = inr (inr behind)

module _ (R : ModuleTree → Type 0) where
  pub none_have : ModulesHave R []
  none_have m h = absurd (standings m [] h)

  pub more_have : (placed : Placed Item) (items : List (Placed Item)) → ShapeHas R (out-Item placed.item) → ModulesHave R items → ModulesHave R (placed ∷ items)
  more_have placed items first others m h =
      elim (standings m (placed ∷ items) h) [
        | inl is ↦ (let has : ShapeHas R (Item-F.CoreModule m) = subst (ShapeHas R) is first in has)
        | inr k ↦
            elim k [
              | inl inside ↦ (let has : ShapeHas R (Item-F.Component inside.0) = subst (ShapeHas R) inside.1 first in has m inside.2)
              | inr behind ↦ others m behind
            ]
      ]

  -- what the first of some items is to have
  pub shape_has : (placed : Placed Item) (items : List (Placed Item)) → ModulesHave R (placed ∷ items) → (shape : Item-F Item Component) → out-Item placed.item ≡ shape → ShapeHas R shape
  shape_has placed items h (Item-F.CoreModule m) e = h m (stands_first placed items e)
  shape_has placed items h (Item-F.Component c) e = λ m k. h m (stands_inside placed items c e k)
  shape_has placed items h shape e = tt
