-- Tables of types (Component Model, Explainer.md, "Type Definitions") in which a function type is found by its layer, and the types of
-- what it passes by their numbers.
use Rattle.std.specs.Prelude.{◌≡◌, ℕ, List, map, Some}
use Rattle.std.specs.Ordering.{nat_cmp}
use Rattle.std.specs.BTreeMap.{BTreeMap, get}
use Rattle.syntax_trees.specs.declared.types.FuncType.{FuncType}
use Rattle.comp_graph.specs.declared.func_types.NumberedFunc.{NumberedFunc}
use Rattle.comp_graph.specs.Passed.{AreNumbered}
use Rattle.link_types.specs.Table.{Table, AreDistinct, IsFunc}

-- Nothing stands twice, what is found by a layer is the number of the function type that the layer stands for, and each function type
-- has its numbers.
pub record IsKept (numbers : BTreeMap ℕ ℕ) (numbered : List NumberedFunc) (t : Table) : Type 0 where
  pub distinct : AreDistinct t.texts t.values t.layers
  pub funcs : (layer number : ℕ) → get nat_cmp numbers layer ≡ Some number → (type : FuncType) × IsFunc t (record { layer = layer; number = number }) type
  pub types : map (λ (f : NumberedFunc). f.func_type) numbered ≡ t.funcs
  pub passed : AreNumbered t.values numbered
