use Rattle.std.proofs.Common.{Bool, ℕ, List, length, nat_lt, sym, subst, Option}
use Rattle.std.specs.List.{slice_get}
use Rattle.std.specs.Option.{option_and_then}
use Rattle.std.proofs.lemmas.Result.{IfOk-weaker}
use Rattle.syntax_trees.specs.declared.types.ValType.{ValType}
use Rattle.comp_tree.specs.declared.builtins.CanonBuiltin.TheVariants as read_builtin
use Rattle.comp_graph.specs.Closed.{resource_of}
use Rattle.comp_graph.specs.declared.graph.Resource.{Resource}
use Rattle.link_spec.specs.Definitions.{Exports}
use Rattle.link_spec.specs.Spaces.{Spaces, Linking}
use Rattle.link_spec.specs.Builtins.{resource_meaning, builtin_meaning}
use Rattle.canon_types.specs.declared.builtins.BuiltinMeant.{BuiltinMeant}
use Rattle.canon_types.specs.Built.{IsBuiltinMeaning}
use Rattle.link_items.proofs.ResourceParts.{number_told}
use Rattle.link_state.specs.State.{world_of, IsAt}
use Rattle.link_state.proofs.Growth.{kept_whole}
use Rattle.comp_link.proofs.resources.resource_at.Goals as goal

pub returns : goal.returns
returns c =
    let k = c.args.linker.now in
    let n = c.args.n in
    let op = c.args.op in
    let values = k.types.values in
    IfOk-weaker c.resource_builtin.result
    (λ (b : BuiltinMeant). (values : List ValType) → IsBuiltinMeaning values b (resource_meaning c.as_slice.result.now n c.type_is_there-is_there.result op c.resource_number-number.result))
    (λ (b : BuiltinMeant). (bases : List Exports) (l : Linking) (s : Spaces) → IsAt bases k n l s → IsBuiltinMeaning values b (builtin_meaning l n s (read_builtin.Resource op c.args.resource)))
    (λ b h bases l s at.
    let w = world_of bases k in
    let scope = c.scope-scope.ensures bases l s at in
    let there = nat_lt c.args.resource (length s.types) in
    let found = option_and_then resource_of (slice_get s.types c.args.resource) in
    let number = number_told k.types c.type_at.result c.resource_number-number.result (slice_get s.types c.args.resource) c.resource_number-number.ensures (c.type_at.ensures k.types w s (kept_whole k.types w c.scope-scope.result.now s scope)) in
    subst (λ (rs : List Resource). IsBuiltinMeaning values b (resource_meaning rs n there op found)) (sym at.state.resources)
    (subst (λ (rs : List Resource). IsBuiltinMeaning values b (resource_meaning rs n there op found)) c.as_slice.ensures.value
    (subst (λ (x : Bool). IsBuiltinMeaning values b (resource_meaning c.as_slice.result.now n x op found)) (c.type_is_there-is_there.ensures k.types w s scope)
    (subst (λ (o : Option ℕ). IsBuiltinMeaning values b (resource_meaning c.as_slice.result.now n c.type_is_there-is_there.result op o)) number (h values)))))
    c.resource_builtin.ensures
