use Rattle.std.proofs.Common.{◌∙◌, sym, ap, subst}
use Rattle.std.specs.List.{slice_get}
use Rattle.link_core_exports.specs.Modules.{AreAllThere}
use Rattle.link_core_exports.specs.Cores.{CoreLists}
use Rattle.link_core_exports.proofs.cores.Cores.passed.Goals as goal

pub returns-clause-passed : goal.returns-clause-passed
returns-clause-passed c canons m there is =
    c.imports_passed.ensures.passed c.self.inside.makes.items canons m c.self.invariant (subst (λ (v : CoreLists). AreAllThere v.makes canons c.args.instances.now) (sym c.self.view_is) there)
    (ap (λ (v : CoreLists). slice_get v.modules c.args.number) c.self.view_is ∙ is)
