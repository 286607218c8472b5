use Rattle.std.proofs.Common.{◌∙◌, map, sym}
use Rattle.link_core_types.proofs.Keeping.{found}
use Rattle.link_core_types.proofs.module_types.ModuleTypes.first_of.Goals as goal

pub returns-in-Some-clause-first : goal.returns-in-Some-clause-first
returns-in-Some-clause-first c =
    found c.self.inside.firsts (map (λ m. m.now) c.self.inside.modules.items) c.args.self.now c.args.at c.in-Some.first c.args.func_type.now c.self.invariant c.self.view_is
    (sym c.get.ensures.value ∙ sym c.copied.ensures ∙ c.in-Some.is) c.requires
