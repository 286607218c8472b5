use Rattle.std.proofs.Common.{Bool, List, map, subst, Option, Some}
use Rattle.std.proofs.lemmas.Result.{IfOk-weaker}
use Rattle.syntax_trees.specs.declared.types.ValType.{ValType}
use Rattle.comp_tree.specs.declared.builtins.CanonBuiltin.TheVariants as read_builtin
use Rattle.comp_graph.specs.Passed.{MayBeAt}
use Rattle.link_spec.specs.Canons.{Given, given_by}
use Rattle.link_spec.specs.Definitions.{Exports}
use Rattle.link_spec.specs.Spaces.{Spaces, Linking}
use Rattle.link_spec.specs.ValueTypes.{close_passed}
use Rattle.link_spec.specs.Builtins.{return_meaning, builtin_meaning}
use Rattle.link_meanings.specs.Meant.{IsFoundAs}
use Rattle.canon_types.specs.declared.builtins.BuiltinMeant.{BuiltinMeant}
use Rattle.canon_types.specs.Built.{IsBuiltinMeaning}
use Rattle.link_state.specs.State.{world_of, IsAt}
use Rattle.comp_link.proofs.builtins.return_at.Goals as goal

pub returns-clause-means : goal.returns-clause-means
returns-clause-means c =
    let k = c.args.linker.now in
    let m = c.passed_at.new.linker in
    let options = c.args.options.now in
    let given = c.given-given.result in
    IfOk-weaker c.returning.result
    (λ (b : BuiltinMeant). (found : Option (Option ValType)) → IsFoundAs (MayBeAt m.types.values) c.in_ok-passed.passed found → IsBuiltinMeaning m.types.values b (return_meaning c.return_is_there-is_there.result found options given))
    (λ (b : BuiltinMeant). (bases : List Exports) (l : Linking) (s : Spaces) → IsAt bases k c.args.n l s → IsBuiltinMeaning m.types.values b (builtin_meaning l c.args.n s (read_builtin.TaskReturn c.args.returned options)))
    (λ b h bases l s at.
    let scope = c.scope-scope.ensures bases l s (c.in_ok-passed.ensures.at bases l s at) in
    let result = close_passed (map Some s.types) c.args.returned in
    subst (λ (x : Bool). IsBuiltinMeaning m.types.values b (return_meaning x result options (given_by s options))) (c.return_is_there-is_there.ensures m.types (world_of bases m) s scope)
    (subst (λ (g : Given). IsBuiltinMeaning m.types.values b (return_meaning c.return_is_there-is_there.result result options g)) (c.given-given.ensures m.types (world_of bases m) s scope)
    (h result (c.in_ok-passed.ensures.found bases l s at))))
    c.returning.ensures
