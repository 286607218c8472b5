use Rattle.std.proofs.Common.{◌≡◌, ◌++◌, ◌∷◌, [], List, ◌∙◌, refl, ap}
use Rattle.syntax_trees.specs.declared.module_types.FuncType.{FuncType}
use Rattle.syntax_trees.specs.declared.module.ModuleTree.{ModuleTree}
use Rattle.link_core_exports.specs.declared.modules.CoreModules.{CoreModules}
use Rattle.link_core_exports.proofs.CoresKept.{modules_same, modules_added}
use Rattle.link_core_exports.proofs.cores.Cores.add_module.Goals as goal

pub invariant_of-self : goal.invariant_of-self
invariant_of-self c =
    let made = c.self.inside.made in
    let new : CoreModules = record { modules = c.reserve.new.self; made_of = made.made_of; types = made.types } in
    modules_same made new c.self.inside.makes.items c.self.invariant refl c.reserve.ensures.items refl

pub invariant_of-self-in_err-add : goal.invariant_of-self-in_err-add
invariant_of-self-in_err-add c =
    let made = c.self.inside.made in
    let new : CoreModules = record { modules = c.reserve.new.self; made_of = made.made_of; types = c.add.new.self } in
    modules_same made new c.self.inside.makes.items c.self.invariant c.in_err-add.ensures.err c.reserve.ensures.items refl

pub invariant_of-self-2 : goal.invariant_of-self-2
invariant_of-self-2 c =
    let made = c.self.inside.made in
    let new : CoreModules = record { modules = c.push_reserved.new.self; made_of = made.made_of; types = c.add.new.self } in
    let tree : c.tree-tree.result.now ≡ c.args.made = c.tree-tree.ensures.value ∙ c.valid.ensures ∙ c.get.ensures in
    modules_added made new c.self.inside.makes.items c.self.invariant c.args.made
    (c.in_ok-add.ensures.ok ∙ ap (λ (types : List FuncType). made.types ++ types ∷ []) (c.as_slice.ensures ∙ ap (λ (m : ModuleTree). m.types) tree))
    (c.push_reserved.ensures.items ∙ ap (λ (modules : List ModuleTree). modules ++ c.args.made ∷ []) c.reserve.ensures.items) refl
