-- Where core modules stand in components (Component Model, Explainer.md, "Component Definitions"): among the items of a
-- component, or of a component among them, at any depth.
use Rattle.std.specs.Prelude.{◌≡◌, List, ◌∷◌}
use Rattle.ca_base.specs.declared.placed.Placed.{Placed}
use Rattle.syntax_trees.specs.declared.module.ModuleTree.{ModuleTree}
use Rattle.comp_tree.specs.declared.items.Item.{Item, out-Item}
use Rattle.comp_tree.specs.declared.items.Item.TheOpen.{Item-F}
use Rattle.comp_tree.specs.declared.items.Component.{Component}

-- The module is one of these items, or stands in a component that is one of them.
pub data StandsIn (m : ModuleTree) : List (Placed Item) → Type 0 where
  stands_first : (placed : Placed Item) (items : List (Placed Item)) → out-Item placed.item ≡ Item-F.CoreModule m → StandsIn m (placed ∷ items)
  stands_inside : (placed : Placed Item) (items : List (Placed Item)) (c : Component)
      → out-Item placed.item ≡ Item-F.Component c → StandsIn m c.items → StandsIn m (placed ∷ items)
  stands_behind : (placed : Placed Item) (items : List (Placed Item)) → StandsIn m items → StandsIn m (placed ∷ items)
