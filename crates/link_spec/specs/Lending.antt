-- Where no borrowed handle stands (Component Model, Explainer.md, "Type Definitions": `borrow`; CanonicalABI.md, `lift_borrow`): it is
-- lent for a call, so that what a function gives holds none, and what passes in a stream or a future holds none.
use Rattle.std.specs.Prelude.{◌≡◌, Bool, false}
use Rattle.syntax_trees.specs.declared.types.ValType.{ValType, out-ValType}
use Rattle.syntax_trees.specs.declared.types.ValType.TheOpen.{ValType-F}
use Rattle.syntax_trees.specs.declared.types.Case.{Case}
use Rattle.syntax_trees.specs.declared.types.Field.{Field}
use Rattle.syntax_trees.specs.declared.types.FuncType.{FuncType}
use Rattle.laid_types.specs.Handles.{held_borrow}
use Rattle.comp_graph.specs.declared.graph.CanonFunc.{CanonFunc}
use Rattle.comp_graph.specs.declared.graph.CanonFunc.TheVariants as canon_func
use Rattle.comp_graph.specs.Graph.{passed_value}

-- whether a type is one of streams or futures in which borrowed handles pass
abbrev pub lends_case : ValType-F ValType Case Field → Bool
lends_case (ValType-F.Stream element) = held_borrow element
lends_case (ValType-F.Future element) = held_borrow element
lends_case other = false

abbrev pub lends : ValType → Bool
lends type = lends_case (out-ValType type)

-- A function gives none.
abbrev pub GivesNoBorrow : FuncType → Type 0
GivesNoBorrow type = held_borrow type.result ≡ false

-- Neither does one that is lowered, and none is returned by `task.return` or passes in the streams and the futures of built-ins.
abbrev pub PassesNoBorrow : CanonFunc → Type 0
PassesNoBorrow (canon_func.Lower l) = GivesNoBorrow l.func_type
PassesNoBorrow (canon_func.Builtin b) = held_borrow (passed_value b.kind) ≡ false
