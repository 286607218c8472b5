use Rattle.std.proofs.Common.{◌≡◌, ◌+◌, take, length, get_or, refl, None, arith, length-take-le}
use Rattle.comp_graph.specs.declared.graph.Resource.{Resource}
use Rattle.program_maker.proofs.ResourcesDefined.{defined_step}
use Rattle.program_maker.proofs.resources.resources_of.Goals as goal

pub loop-at-preserved : goal.loop-at-preserved
loop-at-preserved c =
    let test = c.loop-at-test.true in
    let resources = c.args.resources.now in
    let none : Resource = record { instance = 0; destructor = None } in
    let long : length (take c.loop-at.at resources) ≡ c.loop-at.at = length-take-le c.loop-at.at resources (omega (arith, test)) in
    let number : c.in_ok-number.number ≡ length (take c.loop-at.at resources) + 1 = omega (arith, long, c.in_ok-number.ensures) in
    defined_step c.args.instances resources c.loop-at.at (get_or resources c.loop-at.at none) none c.define.new.all.items test refl
    (c.in_ok-define.ensures c.args.instances (take c.loop-at.at resources) number c.loop-at.invariant)
