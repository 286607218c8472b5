-- The entries so far stand for the exports so far.
use Rattle.std.proofs.Common.{take}
use Rattle.std.specs.List.{AllZip}
use Rattle.link_spec.specs.Definitions.{Exports}
use Rattle.link_instances.specs.References.{World, IsInstance, IsEntry, listed}
use Rattle.link_instances.specs.Instances.{AreInstances}
use Rattle.link_instances.proofs.instances.Instances.exports.Given as goal

abbrev pub invariant-loop-at : goal.invariant-loop-at
invariant-loop-at l = (w : World) (exports : Exports) → AreInstances l.types w l.self → IsInstance l.types w l.instance exports
    → AllZip (IsEntry l.types w) l.listed.items (take l.at (listed exports))
