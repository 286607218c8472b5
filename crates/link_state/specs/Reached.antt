-- The linkings that linking comes to (Component Model, Explainer.md, "Instance Definitions"): the root begins; an item of a component
-- instance makes what it makes, or begins an instance of a component; and a component instance ends, with which the one that made it
-- has one instance more. Which items come, in which component instance, and when an instance ends, is left open: each linking that
-- linking comes to is one of these, and others are too.
use Rattle.std.specs.Prelude.{◌≡◌, ℕ, Some, Ok}
use Rattle.std.specs.List.{slice_get}
use Rattle.comp_tree.specs.declared.items.Item.{Item}
use Rattle.link_spec.specs.Definitions.{Closure, Exports}
use Rattle.link_spec.specs.Spaces.{Spaces, Linking}
use Rattle.link_spec.specs.Linked.{root_begun, begun, with_instance}
use Rattle.link_spec.specs.Computed.{Makes, Starts, item_outcome}

pub data IsReached : Linking → Type 0 where
  root_begins : IsReached root_begun
  item_makes : (l new : Linking) (n : ℕ) (s : Spaces) (item : Item)
      → IsReached l → slice_get l.scopes n ≡ Some s → item_outcome l n s item ≡ Ok (Makes new) → IsReached new
  component_begins : (l : Linking) (n : ℕ) (s : Spaces) (item : Item) (c : Closure) (given : Exports)
      → IsReached l → slice_get l.scopes n ≡ Some s → item_outcome l n s item ≡ Ok (Starts c given) → IsReached (begun l c given)
  instance_ends : (l : Linking) (n : ℕ) (s : Spaces) (instance : ℕ)
      → IsReached l → slice_get l.scopes n ≡ Some s → IsReached (with_instance l n s instance)
