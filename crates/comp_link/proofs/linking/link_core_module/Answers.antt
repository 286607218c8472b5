use Rattle.std.proofs.Common.{◌≡◌, subst, rules}
use Rattle.syntax_trees.specs.declared.module.ModuleTree.{ModuleTree}
use Rattle.link_spec.specs.Definitions.{AModule}
use Rattle.link_spec.specs.Spaces.{with_definition, with_spaces}
use Rattle.link_state.specs.State.{IsState}
use Rattle.comp_link.proofs.linking.link_core_module.Goals as goal

pub returns-clause-made : goal.returns-clause-made
returns-clause-made c = λ bases l s at.
    let same : c.in_ok-made.made ≡ c.args.valid.now = search (rules, c.in_ok-made.ensures, c.in_ok-new.ensures) in
    (bases, subst (λ (m : ModuleTree). IsState bases c.add_module.new.self (with_spaces l c.args.n (with_definition s (AModule m)))) same (c.in_ok-add_module.ensures.ok bases l s at))
