use Rattle.std.proofs.Common.{◌∙◌, ap, sym, subst, Option, Some}
use Rattle.link_values.specs.declared.refs.TypeRef.{TypeRef}
use Rattle.link_meanings.specs.declared.levels.Enclosing.{Enclosing}
use Rattle.link_meanings.specs.Meant.{IsFoundAs}
use Rattle.link_meanings.specs.Levels.{IsEnclosing}
use Rattle.link_instance_types.proofs.Enclosed.{type_absent, type_unknown, type_moved}
use Rattle.link_instance_types.proofs.outer.outer_type.Goals as goal

pub returns-in-None-clause-ok : goal.returns-in-None-clause-ok
returns-in-None-clause-ok c = λ closures l h.
    rw c.absent-in-None.ensures
    (type_absent c.args.types.now closures c.args.up c.args.index c.in-Some.level l (subst (λ (o : Option Enclosing). IsFoundAs (IsEnclosing c.args.types.now closures) o l) c.in-Some.is h) (sym c.type_at.ensures ∙ c.in-None.is))

pub returns-in-Some-None-clause-ok : goal.returns-in-Some-None-clause-ok
returns-in-Some-None-clause-ok c = λ closures l h.
    rw c.there.ensures
    (type_unknown c.args.types.now closures c.args.up c.args.index c.in-Some.level l (subst (λ (o : Option Enclosing). IsFoundAs (IsEnclosing c.args.types.now closures) o l) c.in-Some.is h) (sym c.type_at.ensures ∙ c.in-Some-None.is ∙ ap (λ (o : Option TypeRef). Some o) c.in-Some-None.field-0-is))

pub returns-in_ok-moved-in-Some-Some-clause-ok : goal.returns-in_ok-moved-in-Some-Some-clause-ok
returns-in_ok-moved-in-Some-Some-clause-ok c = λ closures l h.
    rw c.there-in-Some-Some.ensures
    (type_moved c.args.types.now closures c.moved_type.new.types c.args.up c.args.index c.in-Some.level l c.in-Some-Some.closed c.in_ok-moved-in-Some-Some.moved
    (subst (λ (o : Option Enclosing). IsFoundAs (IsEnclosing c.args.types.now closures) o l) c.in-Some.is h) (sym c.type_at.ensures ∙ c.in-Some-Some.is ∙ ap (λ (o : Option TypeRef). Some o) c.in-Some-Some.field-0-is) c.in_ok-moved-in-Some-Some.ensures.ok)
