use Rattle.std.proofs.Common.{◌≡◌, ℕ, ◌++◌, ◌∷◌, [], List, Some, ◌∙◌, refl, sym, ap}
use Rattle.std.specs.List.{slice_get}
use Rattle.syntax_trees.specs.declared.module.ModuleTree.{ModuleTree}
use Rattle.comp_graph.specs.Graph.{CoreMake}
use Rattle.link_core_exports.specs.declared.modules.CoreModules.{CoreModules}
use Rattle.link_core_exports.specs.Cores.{CoreLists}
use Rattle.link_core_exports.proofs.CoresKept.{modules_same, instance_added}
use Rattle.link_core_exports.proofs.cores.Cores.add_instance.Goals as goal

pub invariant_of-self-in_err-push : goal.invariant_of-self-in_err-push
invariant_of-self-in_err-push c =
    let made = c.self.inside.made in
    let new : CoreModules = record { modules = made.modules; made_of = c.reserve.new.self; types = made.types } in
    rw c.in_err-push.ensures.items (modules_same made new c.self.inside.makes.items c.self.invariant refl refl c.reserve.ensures.items)

pub invariant_of-self-2 : goal.invariant_of-self-2
invariant_of-self-2 c =
    let made = c.self.inside.made in
    let new : CoreModules = record { modules = made.modules; made_of = c.push_reserved.new.self; types = made.types } in
    let of_module : c.new.result.of_module ≡ c.module.result.now = ap (λ (core : CoreMake). core.of_module) c.new.ensures ∙ c.valid-valid.ensures ∙ c.get.ensures ∙ c.in_ok-made.ensures in
    let there : slice_get made.modules.items c.args.number ≡ Some c.new.result.of_module =
    ap (λ (v : CoreLists). slice_get v.modules c.args.number) c.self.view_is ∙ c.module.ensures ∙ ap (λ (m : ModuleTree). Some m) (sym of_module) in
    rw c.in_ok-push.ensures.items
    (instance_added made new c.self.inside.makes.items c.self.invariant c.args.number c.new.result there refl refl (c.push_reserved.ensures.items ∙ ap (λ (numbers : List ℕ). numbers ++ c.args.number ∷ []) c.reserve.ensures.items))
