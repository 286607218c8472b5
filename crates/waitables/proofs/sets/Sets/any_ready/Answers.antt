use Rattle.std.proofs.Common.{◌∙◌}
use Rattle.std.specs.BTreeMap.{get}
use Rattle.std.specs.Ordering.{nat_cmp}
use Rattle.waitables.proofs.Waiting.{any_are}
use Rattle.waitables.proofs.sets.Sets.any_ready.Goals as goal

pub returns : goal.returns
returns c = record { exact = rw c.as_slice.ensures at c.any_in.ensures ∙ any_are c.self.inside.sets.items c.args.self.now (get nat_cmp c.self.inside.places) c.self.inside.clock c.args.set c.args.told.now c.self.view_is c.requires c.self.invariant }
