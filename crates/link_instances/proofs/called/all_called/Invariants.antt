-- The functions of the exports so far, and what is listed of those of instances.
use Rattle.std.proofs.Common.{◌≡◌, take}
use Rattle.std.specs.List.{flat_map}
use Rattle.link_spec.specs.Definitions.{Exports}
use Rattle.link_spec.specs.Linked.{called}
use Rattle.link_instances.specs.References.{World, IsListing, listed}
use Rattle.link_instances.specs.Instances.{AreInstances}
use Rattle.link_instances.specs.Called.{AreLists}
use Rattle.link_instances.specs.Typed.{AreTyped}
use Rattle.link_instances.proofs.called.all_called.Given as goal

abbrev pub invariant-loop-entry : goal.invariant-loop-entry
invariant-loop-entry l = record {
  lists : AreLists l.types l.instances l.lists;
  funcs : (w : World) (given : Exports) → AreInstances l.types w l.instances → IsListing l.types w l.entries given → l.funcs.funcs.items ≡ flat_map called (take l.entry-index (listed given));
  typed : AreTyped l.types.funcs l.funcs;
}
