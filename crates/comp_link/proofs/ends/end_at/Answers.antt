use Rattle.std.proofs.Common.{Bool, List, subst, Option}
use Rattle.std.specs.List.{slice_get}
use Rattle.std.specs.Option.{option_and_then}
use Rattle.std.proofs.lemmas.Result.{IfOk-weaker}
use Rattle.syntax_trees.specs.declared.types.ValType.{ValType}
use Rattle.comp_tree.specs.declared.builtins.CanonBuiltin.TheVariants as read_builtin
use Rattle.comp_graph.specs.Closed.{value_of}
use Rattle.link_spec.specs.Canons.{given_by}
use Rattle.link_spec.specs.Definitions.{Exports}
use Rattle.link_spec.specs.Spaces.{Spaces, Linking}
use Rattle.link_spec.specs.Builtins.{elements_of, end_meaning, builtin_meaning}
use Rattle.link_types.specs.Table.{IsValue}
use Rattle.link_instances.specs.References.{World}
use Rattle.link_meanings.specs.Meant.{IsFoundAs}
use Rattle.canon_types.specs.declared.builtins.BuiltinMeant.{BuiltinMeant}
use Rattle.canon_types.specs.Built.{IsBuiltinMeaning}
use Rattle.link_state.specs.State.{world_of, IsScope, IsAt}
use Rattle.link_state.proofs.Growth.{kept_whole}
use Rattle.comp_link.proofs.EndsFound.{number_told}
use Rattle.comp_link.proofs.ends.end_at.Goals as goal

pub returns : goal.returns
returns c =
    let k = c.args.linker.now in
    let kind = c.args.kind in
    let op = c.args.op.now in
    IfOk-weaker c.end_meant.result
    (λ (b : BuiltinMeant). (w : World) (s : Spaces) (type : Option ValType) → IsScope k.types w c.scope-scope.result.now s → IsFoundAs (IsValue k.types) c.ends_number-number.result type
    → IsBuiltinMeaning k.types.values b (end_meaning c.end_is_there-is_there.result kind (option_and_then (elements_of kind) type) (given_by s) op))
    (λ (b : BuiltinMeant). (bases : List Exports) (l : Linking) (s : Spaces) → IsAt bases k c.args.n l s → IsBuiltinMeaning k.types.values b (builtin_meaning l c.args.n s (read_builtin.End kind c.args.end_type op)))
    (λ b h bases l s at.
    let w = world_of bases k in
    let scope = c.scope-scope.ensures bases l s at in
    let elements = option_and_then (elements_of kind) (option_and_then value_of (slice_get s.types c.args.end_type)) in
    subst (λ (x : Bool). IsBuiltinMeaning k.types.values b (end_meaning x kind elements (given_by s) op)) (c.end_is_there-is_there.ensures k.types w s scope)
    (h w s (option_and_then value_of (slice_get s.types c.args.end_type)) scope
    (number_told k.types c.type_at.result c.ends_number-number.result (slice_get s.types c.args.end_type) c.ends_number-number.ensures (c.type_at.ensures k.types w s (kept_whole k.types w c.scope-scope.result.now s scope)))))
    c.end_meant.ensures
