use Rattle.std.proofs.Common.{refl, subst}
use Rattle.link_instances.specs.declared.references.DefinitionRef.{DefinitionRef}
use Rattle.link_instances.specs.References.{Stands}
use Rattle.link_state.proofs.Scopes.{func_more, type_more, component_more, instance_more, module_more}
use Rattle.link_state.proofs.scope.Scope.add.Goals as goal

pub returns-in_ok-push-in-Func-clause-adds : goal.returns-in_ok-push-in-Func-clause-adds
returns-in_ok-push-in-Func-clause-adds c t w s d h stands =
    func_more t w c.args.self.now (record c.args.self.now { funcs = c.push.new.self }) s h c.in-Func.func d (subst (λ (ref : DefinitionRef). Stands t w ref d) c.in-Func.is stands) refl c.in_ok-push-in-Func.ensures.items

pub returns-in_ok-push-in-Type-clause-adds : goal.returns-in_ok-push-in-Type-clause-adds
returns-in_ok-push-in-Type-clause-adds c t w s d h stands =
    type_more t w c.args.self.now (record c.args.self.now { types = c.push-in-Type.new.self }) s h c.in-Type.closed d (subst (λ (ref : DefinitionRef). Stands t w ref d) c.in-Type.is stands) refl c.in_ok-push-in-Type.ensures.items

pub returns-in_ok-push-in-Component-clause-adds : goal.returns-in_ok-push-in-Component-clause-adds
returns-in_ok-push-in-Component-clause-adds c t w s d h stands =
    component_more t w c.args.self.now (record c.args.self.now { components = c.push-in-Component.new.self }) s h c.in-Component.number d (subst (λ (ref : DefinitionRef). Stands t w ref d) c.in-Component.is stands) refl c.in_ok-push-in-Component.ensures.items

pub returns-in_ok-push-in-Instance-clause-adds : goal.returns-in_ok-push-in-Instance-clause-adds
returns-in_ok-push-in-Instance-clause-adds c t w s d h stands =
    instance_more t w c.args.self.now (record c.args.self.now { instances = c.push-in-Instance.new.self }) s h c.in-Instance.instance d (subst (λ (ref : DefinitionRef). Stands t w ref d) c.in-Instance.is stands) refl c.in_ok-push-in-Instance.ensures.items

pub returns-in_ok-push-in-Module-clause-adds : goal.returns-in_ok-push-in-Module-clause-adds
returns-in_ok-push-in-Module-clause-adds c t w s d h stands =
    module_more t w c.args.self.now (record c.args.self.now { core_modules = c.push-in-Module.new.self }) s h c.in-Module.number d (subst (λ (ref : DefinitionRef). Stands t w ref d) c.in-Module.is stands) refl c.in_ok-push-in-Module.ensures.items
