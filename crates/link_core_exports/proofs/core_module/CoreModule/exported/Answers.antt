use Rattle.std.proofs.Common.{◌≡◌, ◌∙◌, ap, subst, map}
use Rattle.syntax_trees.specs.Names.{AreDistinct, first_named}
use Rattle.syntax_trees.specs.declared.module.Export.{Export}
use Rattle.syntax_trees.specs.declared.module.ModuleTree.{ModuleTree}
use Rattle.link_core_exports.proofs.Named.{module_named}
use Rattle.link_core_exports.proofs.core_module.CoreModule.exported.Goals as goal

pub returns : goal.returns
returns c =
    let m : ModuleTree = c.args.self.now in
    let q = c.args.name.now in
    let same : c.self.inside.valid.now ≡ m = c.self.view_is in
    let named : c.find-at.result ≡ first_named q (map (λ (e : Export). e.name) m.exports) =
    c.find-at.ensures ∙ c.self.invariant.named q ∙ ap (λ (t : ModuleTree). first_named q (map (λ (e : Export). e.name) t.exports)) same in
    c.offered_at.ensures ∙ module_named m c.args.number q c.find-at.result (subst (λ (t : ModuleTree). AreDistinct (map (λ (e : Export). e.name) t.exports)) same c.tree-tree.ensures.typed.names) named
