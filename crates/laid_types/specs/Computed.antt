-- What is kept of a type (Component Model, CanonicalABI.md, "Alignment", "Element Size" and "Flattening"): how its values lie in
-- memory, the first of their core types, what they hold, its depth as far as 33, the greatest number of a resource that it names, and
-- where its labels stand.
use Rattle.std.specs.Prelude.{◌≡◌, ℕ, Bool, List, take, min, Option}
use Rattle.syntax_trees.specs.Names.{first_named}
use Rattle.syntax_trees.specs.declared.types.ValType.{ValType}
use Rattle.syntax_trees.specs.declared.core_type.CoreType.{CoreType}
use Rattle.laid_types.specs.Layout.{Laid, laid}
use Rattle.layouts.specs.Limited.{InReach, limited}
use Rattle.syntax_trees.specs.Flat.{flat}
use Rattle.syntax_trees.specs.Ends.{has_end}
use Rattle.laid_types.specs.Parts.{labels_of, payload_place}
use Rattle.laid_types.specs.Handles.{has_handle, has_borrow, top_resource}
use Rattle.laid_types.specs.Lists.{has_list}
use Rattle.laid_types.specs.Depth.{depth}

-- What is computed of a type is this.
pub record IsComputed (type : ValType) (laying : Laid) (place : ℕ) (types : List CoreType) (end handle borrow list : Bool) (levels top : ℕ) (at : List ℕ → Option ℕ) : Type 0 where
  pub laid_is : laying ≡ limited (laid type)
  pub reach : InReach laying
  pub place_is : place ≡ payload_place type
  pub flat_is : types ≡ take 17 (flat type)
  pub end_is : end ≡ has_end type
  pub handle_is : handle ≡ has_handle type
  pub borrow_is : borrow ≡ has_borrow type
  pub list_is : list ≡ has_list type
  pub depth_is : levels ≡ min (depth type) 33
  pub top_is : top ≡ top_resource type
  pub labels_are : (q : List ℕ) → at q ≡ first_named q (labels_of type)
