-- The types of streams and futures that a graph tells (Component Model, Explainer.md, "Canonical Built-ins"): each is one of these, none stands
-- twice, and the type of each built-in of ends is among them, so that it has a number there.
use Rattle.std.specs.Prelude.{◌≡◌, ℕ, true, List, Some}
use Rattle.std.specs.List.{slice_get, AllByRecursion}
use Rattle.syntax_trees.specs.declared.types.ValType.{ValType}
use Rattle.comp_graph.specs.declared.graph.BuiltinKind.{BuiltinKind}
use Rattle.comp_graph.specs.declared.graph.BuiltinKind.TheVariants as builtin
use Rattle.comp_graph.specs.declared.graph.CanonFunc.{CanonFunc}
use Rattle.comp_graph.specs.declared.graph.CanonFunc.TheVariants as canon_func
use Rattle.comp_graph.specs.Graph.{Graph, ends_type}
use Rattle.link_spec.specs.Ends.{is_of_ends}

-- The type that a core function of the Canonical ABI names is among these, where it is a built-in of ends.
abbrev pub IsKindTold : List ValType → BuiltinKind → Type 0
IsKindTold types (builtin.End kind element op) = (n : ℕ) × (slice_get types n ≡ Some (ends_type kind element))
IsKindTold types kind = Unit {0}

abbrev pub IsEndTold : List ValType → CanonFunc → Type 0
IsEndTold types (canon_func.Lower l) = Unit {0}
IsEndTold types (canon_func.Builtin b) = IsKindTold types b.kind

pub record TellsEnds (g : Graph) : Type 0 where
  pub of_ends : AllByRecursion (λ (t : ValType). is_of_ends t ≡ true) g.end_types
  pub once : (m n : ℕ) (t : ValType) → slice_get g.end_types m ≡ Some t → slice_get g.end_types n ≡ Some t → m ≡ n
  pub named : AllByRecursion (IsEndTold g.end_types) g.canons
