-- Functions that can be called, each with the number of its type (Component Model, Explainer.md, "Instance Definitions").
use Rattle.std.specs.Prelude.{◌≡◌, ℕ, List, Some}
use Rattle.std.specs.List.{slice_get, AllZip}
use Rattle.syntax_trees.specs.declared.types.FuncType.{FuncType}
use Rattle.link_spec.specs.Linked.{Callable}
use Rattle.link_instances.specs.declared.called.TypedCallables.{TypedCallables}

-- The numbers are, among these function types, those of the functions' types.
abbrev pub AreTyped : List FuncType → TypedCallables → Type 0
AreTyped types listed = AllZip (λ (n : ℕ) (c : Callable). slice_get types n ≡ Some c.func.func_type) listed.types.items listed.funcs.items
