use Rattle.std.proofs.Common.{◌≡◌}
use Rattle.comp_graph.specs.Closed.{Externs}
use Rattle.link_spec.specs.Definitions.{Exports}
use Rattle.link_types.specs.Table.{IsInstanceType}
use Rattle.link_instances.specs.References.{World, IsInstance}
use Rattle.link_instances.specs.Instances.{AreInstances}
use Rattle.link_instances.specs.Walks.{IsOn}
use Rattle.link_instances.proofs.instances.Instances.walk.Given as goal

abbrev pub invariant-loop-turn : goal.invariant-loop-turn
invariant-loop-turn l =
    ((w : World) (exports : Exports) (externs : Externs)
    → AreInstances l.types w l.fn.self → IsInstance l.types w l.fn.given exports → IsInstanceType l.types l.fn.asked externs
    → AreInstances l.types w l.self × IsOn l.types w exports externs l.walk)
    × (l.self.of_types ≡ l.fn.self.of_types)
