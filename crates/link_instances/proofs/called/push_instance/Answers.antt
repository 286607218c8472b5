use Rattle.std.proofs.Common.{◌≡◌, ◌++◌, ℕ, List, subst, sym, rules, Some}
use Rattle.std.specs.Prelude.{codes}
use Rattle.link_spec.specs.Linked.{funcs_behind}
use Rattle.link_instances.specs.declared.references.LiftedRef.{LiftedRef}
use Rattle.link_instances.specs.Called.{listed_at, AreFuncs}
use Rattle.link_instances.proofs.called.push_instance.Goals as goal

pub returns-clause-funcs : goal.returns-clause-funcs
returns-clause-funcs c = λ w given are is.
    let found : listed_at c.list.new.self c.args.instance ≡ Some c.in-Some.listed.now = search (rules, c.get.ensures, c.in-Some.is) in
    let listed = subst (λ (es : List (ℕ × LiftedRef)). AreFuncs c.args.types.now es given) (sym c.as_slice.ensures) (c.in_ok-list.ensures.lists c.args.instance c.in-Some.listed.now found w given are is) in
    let front : c.as_str.result.now ≡ c.args.name.now ++ codes "#" = search (rules, c.as_str.ensures, c.in_ok-front.ensures, c.front.view_is) in
    subst (λ (front : List ℕ). c.push_funcs.new.funcs.funcs.items ≡ c.args.funcs.now.funcs.items ++ funcs_behind front given) front (c.in_ok-push_funcs.ensures.funcs given listed)
