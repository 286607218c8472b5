use Rattle.std.proofs.Common.{◌∙◌, sym, subst, Option}
use Rattle.link_meanings.specs.declared.levels.Enclosing.{Enclosing}
use Rattle.link_meanings.specs.Meant.{IsFoundAs}
use Rattle.link_meanings.specs.Levels.{IsEnclosing}
use Rattle.link_instance_types.proofs.Enclosed.{component_absent, component_named}
use Rattle.link_instance_types.proofs.outer.outer_component.Goals as goal

pub returns-in-Some-component_at : goal.returns-in-Some-component_at
returns-in-Some-component_at c = λ t closures l h.
    rw c.there.ensures
    (component_named t closures c.args.index c.in-Some.level l c.in-Some-component_at.means (subst (λ (o : Option Enclosing). IsFoundAs (IsEnclosing t closures) o l) c.in-Some.is h)
    (sym c.component_at.ensures ∙ c.in-Some-component_at.is))

pub returns-in-None : goal.returns-in-None
returns-in-None c = λ t closures l h.
    rw c.absent-in-None.ensures
    (component_absent t closures c.args.index c.in-Some.level l (subst (λ (o : Option Enclosing). IsFoundAs (IsEnclosing t closures) o l) c.in-Some.is h) (sym c.component_at.ensures ∙ c.in-None.is))
