use Rattle.std.proofs.Common.{None}
use Rattle.link_spec.specs.Definitions.{AnInstance, types_of}
use Rattle.link_spec.specs.Items.{meant_of}
use Rattle.link_spec.specs.Computed.{import_outcome}
use Rattle.link_instances.specs.declared.references.DefinitionRef.TheVariants as ref
use Rattle.link_state.proofs.Steps.{told_ok}
use Rattle.comp_link.specs.Ready.{IsGiven, imported}
use Rattle.comp_link.proofs.Readying.{outcome_ready}
use Rattle.comp_link.proofs.imports.root_import.Goals as goal

pub returns-clause-made : goal.returns-clause-made
returns-clause-made c = λ bases l s at.
    let k = c.args.linker.now in
    let i = c.args.import.now in
    let make = imported l c.args.n s i.name in
    let x = import_outcome l c.args.n s i.name (meant_of s None i.desc) i.desc None in
    let ok = told_ok (IsGiven k.types make) c.root_type.result c.in_ok-instance_type.instance_type x c.in_ok-instance_type.was (c.root_type.ensures bases l s at) in
    let there = c.in_ok-instance.ensures.made bases l ok.2.0 at.state ok.2.1 ok.2.2 in
    outcome_ready c.instance_of_types.new.self l make (ref.Instance c.in_ok-instance.instance) x ok.0 ok.1
    (record { bases = there.bases; state = there.state; definition = AnInstance (types_of ok.2.0); stands = there.instance; makes = ok.2.3 })
