-- What built-ins pass, by the numbers of types.
use Rattle.std.proofs.Common.{◌≡◌, ℕ, List, [], ◌∷◌, sym, subst, Option, Some}
use Rattle.std.specs.List.{AllZip}
use Rattle.syntax_trees.specs.declared.types.ValType.{ValType}
use Rattle.laid_types.specs.Parts.{part_at}
use Rattle.builtin_kinds.specs.declared.EndKind.{EndKind}
use Rattle.comp_graph.specs.declared.graph.BuiltinKind.{BuiltinKind}
use Rattle.comp_graph.specs.declared.graph.BuiltinKind.TheVariants as builtin
use Rattle.comp_graph.specs.declared.graph.CanonFunc.{CanonFunc}
use Rattle.comp_graph.specs.declared.graph.CanonFunc.TheVariants as canon_func
use Rattle.comp_graph.specs.declared.graph.EndOp.{EndOp}
use Rattle.comp_graph.specs.Graph.{ends_type, numbered_value, passed_value}
use Rattle.comp_graph.specs.Passed.{TypeTable, MayBeAt, HasCanonType}
use Rattle.comp_graph.proofs.FuncsPassed.{element_read}

-- The elements of ends are the one part of their type.
pub ends_pass : (values : List ValType) (number found : Option ℕ) (kind : BuiltinKind) (of : EndKind) (element : Option ValType) (op : EndOp) → MayBeAt values number (numbered_value kind) → kind ≡ builtin.End of element op
    → ((t : ValType) → MayBeAt values number (Some t) → MayBeAt values found (part_at t 0)) → MayBeAt values found (passed_value kind)
ends_pass values number found kind of element op h is told =
    subst (λ (k : BuiltinKind). MayBeAt values found (passed_value k)) (sym is)
    (subst (MayBeAt values found) (element_read of element op) (told (ends_type of element) (subst (λ (k : BuiltinKind). MayBeAt values number (numbered_value k)) is h)))
