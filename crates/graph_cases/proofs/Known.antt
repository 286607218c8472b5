-- A built-in stands beside the number of the type by which it is known what it passes, where it passes one.
use Rattle.std.proofs.Common.{◌≡◌, ℕ, sym, subst, Option, Some, None}
use Rattle.std.specs.List.{slice_get}
use Rattle.syntax_trees.specs.declared.types.ValType.{ValType}
use Rattle.comp_graph.specs.declared.graph.BuiltinKind.{BuiltinKind}
use Rattle.comp_graph.specs.Graph.{numbered_value}
use Rattle.comp_graph.specs.Passed.{TypeTable, MayBeAt}

pub unnumbered : (types : TypeTable) (kind : BuiltinKind) → numbered_value kind ≡ None → MayBeAt types.values None (numbered_value kind)
unnumbered types kind is = subst (λ (o : Option ValType). MayBeAt types.values None o) (sym is) tt

pub numbered : (types : TypeTable) (n : ℕ) (kind : BuiltinKind) (t : ValType) → numbered_value kind ≡ Some t → slice_get types.values n ≡ Some t → MayBeAt types.values (Some n) (numbered_value kind)
numbered types n kind t is there = subst (λ (o : Option ValType). MayBeAt types.values (Some n) o) (sym is) there
