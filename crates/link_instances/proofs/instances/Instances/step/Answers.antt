use Rattle.std.proofs.Common.{subst, Option}
use Rattle.link_spec.specs.Definitions.{export_named}
use Rattle.link_instances.specs.declared.references.DefinitionRef.{DefinitionRef}
use Rattle.link_instances.specs.References.{IsFound}
use Rattle.link_instances.proofs.Turns.{comes_none, comes_missing, comes_compared}
use Rattle.link_instances.proofs.instances.Instances.step.Goals as goal

pub returns-in_default-clause-is : goal.returns-in_default-clause-is
returns-in_default-clause-is c = λ w f h is.
    comes_none c.args.types.now w c.args.frame f is c.asked_at.result c.asked_at.ensures.is c.in_default.is

pub returns-in_default-export_named-clause-is : goal.returns-in_default-export_named-clause-is
returns-in_default-export_named-clause-is c = λ w f h is.
    comes_missing c.args.types.now w c.args.frame f is c.asked_at.result c.asked_at.ensures.is c.in-Some.name c.in-Some.asked c.in-Some.is
    (λ q text. subst (λ (o : Option DefinitionRef). IsFound c.args.types.now w o (export_named q f.given)) c.in_default-export_named.is (c.export_named.ensures w f.given q h is.given text))

pub returns-clause-is : goal.returns-clause-is
returns-clause-is c = λ w f h is.
    comes_compared c.args.types.now w c.args.frame f is c.asked_at.result c.asked_at.ensures.is c.in-Some.name c.in-Some.asked c.in-Some-export_named.given c.compare.result c.in-Some.is
    (λ q text. subst (λ (o : Option DefinitionRef). IsFound c.args.types.now w o (export_named q f.given)) c.in-Some-export_named.is (c.export_named.ensures w f.given q h is.given text))
    (λ d x m n. c.compare.ensures.compared w d x m n)
