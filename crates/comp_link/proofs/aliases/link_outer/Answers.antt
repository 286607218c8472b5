use Rattle.std.proofs.Common.{◌∷◌}
use Rattle.link_spec.specs.Spaces.{outer_at}
use Rattle.link_instances.specs.References.{Stands}
use Rattle.link_state.specs.State.{world_of}
use Rattle.link_state.proofs.Steps.{some_found}
use Rattle.comp_link.proofs.aliases.link_outer.Goals as goal

pub returns-clause-made : goal.returns-clause-made
returns-clause-made c = λ bases l s at.
    let k = c.args.linker.now in
    let one = some_found (Stands k.types (world_of bases k)) c.outer.result c.in-Some.definition (outer_at l (c.args.n ∷ s.around) c.args.sort c.args.up c.args.index) c.in-Some.is (c.outer.ensures bases l s at) in
    rw one.1 (bases, c.in_ok-add.ensures.ok bases l s one.0 at one.2)
