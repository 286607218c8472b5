use Rattle.std.proofs.Common.{◌≡◌, ◌∙◌, true, false, List, length, map, sym, subst}
use Rattle.std.specs.Prelude.{Ok, Err, nat_lt}
use Rattle.std.specs.List.{list_all, AllByRecursion}
use Rattle.syntax_trees.specs.declared.module.ModuleTree.{ModuleTree}
use Rattle.comp_tree.specs.declared.core_instances.CoreArgument.{CoreArgument}
use Rattle.comp_graph.specs.Graph.{IsItem}
use Rattle.link_spec.specs.declared.fault.LinkWhy.TheVariants.{Typing}
use Rattle.link_spec.specs.Definitions.{CoreItem}
use Rattle.link_spec.specs.Tests.{are_distinct, all_fit}
use Rattle.link_spec.specs.Computed.{all_found, imports_outcome}
use Rattle.link_core_exports.proofs.There.{some_inj, found_there, passed, not_passed}
use Rattle.link_core_exports.proofs.imports.imports_passed.Goals as goal

pub returns-then-not-branch-2-clause-passed : goal.returns-then-not-branch-2-clause-passed
returns-then-not-branch-2-clause-passed c = λ cores canons m of there here.
    let instances = c.args.instances.now in
    let arguments : List CoreArgument = c.args.arguments.now in
    let tree : ModuleTree = c.in-Some.tree.now in
    let items : List CoreItem = c.in_ok-items.items.items in
    let same : tree ≡ m = some_inj (sym c.in-Some.ensures ∙ here) in
    let indices : list_all (λ (a : CoreArgument). nat_lt a.instance (length instances)) arguments ≡ true = sym c.are_there.ensures ∙ c.if-not-are_there.false in
    let found : all_found instances arguments tree.imports ≡ Ok items = rw (← c.as_slice.ensures, ← c.in_ok-named.ensures) c.in_ok-items.ensures in
    let distinct : are_distinct (map (λ (a : CoreArgument). a.name) arguments) ≡ true = sym c.in_ok-are_distinct.ensures ∙ c.if-not-branch.false in
    let all : AllByRecursion (IsItem cores canons) c.deref.result.now = rw c.deref.ensures.value (found_there cores canons instances there arguments tree.imports items found) in
    let fit : all_fit tree tree.imports c.deref.result.now ≡ false = sym (c.in_ok-all_fit.ensures.fit cores canons of c.in-Some.ensures all) ∙ c.if-not-branch-2.true in
    let P : ModuleTree → Type 0 = λ m. imports_outcome instances m arguments ≡ Err Typing in
    subst P same (not_passed instances tree arguments items indices found distinct (rw (← c.deref.ensures.value) fit))

pub returns-clause-passed : goal.returns-clause-passed
returns-clause-passed c = λ cores canons m of there here.
    let instances = c.args.instances.now in
    let arguments : List CoreArgument = c.args.arguments.now in
    let tree : ModuleTree = c.in-Some.tree.now in
    let items : List CoreItem = c.in_ok-items.items.items in
    let same : tree ≡ m = some_inj (sym c.in-Some.ensures ∙ here) in
    let indices : list_all (λ (a : CoreArgument). nat_lt a.instance (length instances)) arguments ≡ true = sym c.are_there.ensures ∙ c.if-not-are_there.false in
    let found : all_found instances arguments tree.imports ≡ Ok items = rw (← c.as_slice.ensures, ← c.in_ok-named.ensures) c.in_ok-items.ensures in
    let distinct : are_distinct (map (λ (a : CoreArgument). a.name) arguments) ≡ true = sym c.in_ok-are_distinct.ensures ∙ c.if-not-branch.false in
    let all : AllByRecursion (IsItem cores canons) c.deref.result.now = rw c.deref.ensures.value (found_there cores canons instances there arguments tree.imports items found) in
    let fit : all_fit tree tree.imports c.deref.result.now ≡ true = sym (c.in_ok-all_fit.ensures.fit cores canons of c.in-Some.ensures all) ∙ c.if-not-branch-2.false in
    let P : ModuleTree → Type 0 = λ m. imports_outcome instances m arguments ≡ Ok items in
    subst P same (passed instances tree arguments items indices found distinct (rw (← c.deref.ensures.value) fit))
