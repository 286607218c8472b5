-- Types of streams and futures as linking comes to them (Component Model, Explainer.md, "Type Definitions" and "Canonical Built-ins"):
-- those that components define, and those that built-ins name, in the order of linking, and of equal ones the first.
use Rattle.std.specs.Prelude.{Bool, true, false, not, ◌&&◌, ◌||◌, cond, List, [], ◌∷◌, ◌++◌}
use Rattle.syntax_trees.specs.declared.types.ValType.{ValType, out-ValType}
use Rattle.syntax_trees.specs.declared.types.ValType.TheOpen.{ValType-F}
use Rattle.comp_graph.specs.declared.graph.BuiltinKind.{BuiltinKind}
use Rattle.comp_graph.specs.declared.graph.BuiltinKind.TheVariants as builtin
use Rattle.comp_graph.specs.declared.graph.CanonFunc.{CanonFunc}
use Rattle.comp_graph.specs.declared.graph.CanonFunc.TheVariants as canon_func
use Rattle.comp_graph.specs.Closed.{Closed, Value}
use Rattle.comp_graph.specs.Graph.{ends_type}
use Rattle.link_spec.specs.Same.{same_val}

-- a type of streams or of futures
abbrev pub ends_case : {A B C : Type 0} → ValType-F A B C → Bool
ends_case (ValType-F.Stream element) = true
ends_case (ValType-F.Future element) = true
ends_case other = false

abbrev pub is_of_ends : ValType → Bool
is_of_ends type = ends_case (out-ValType type)

abbrev pub is_type_among : List ValType → ValType → Bool
is_type_among [] type = false
is_type_among (other ∷ types) type = same_val other type || is_type_among types type

-- a type behind others, where it is one of streams or futures and not among them
abbrev pub noted : List ValType → ValType → List ValType
noted types type = cond (is_of_ends type && not (is_type_among types type)) (types ++ type ∷ []) types

-- the same of a type that a component defines
abbrev pub noted_type : List ValType → Closed → List ValType
noted_type types (Value type) = noted types type
noted_type types closed = types

-- and of the type that a core function of the Canonical ABI names, where it is a built-in of ends
abbrev pub noted_kind : List ValType → BuiltinKind → List ValType
noted_kind types (builtin.End kind element op) = noted types (ends_type kind element)
noted_kind types kind = types

abbrev pub noted_canon : List ValType → CanonFunc → List ValType
noted_canon types (canon_func.Lower l) = types
noted_canon types (canon_func.Builtin b) = noted_kind types b.kind
