use Rattle.std.proofs.Common.{◌∙◌}
use Rattle.std.specs.BTreeMap.{get}
use Rattle.std.specs.Ordering.{nat_cmp}
use Rattle.waitables.specs.Placing.{AreTold}
use Rattle.waitables.specs.Sets.{ready_of, set_at}
use Rattle.waitables.proofs.Waiting.{ready_are, if_ok_is}
use Rattle.waitables.proofs.sets.Sets.ready.Goals as goal

pub returns : goal.returns
returns c =
    let told : AreTold (get nat_cmp c.self.inside.places) c.args.set c.args.told.now c.in_ok-by_time.by_time.entries = rw c.as_slice.ensures at c.in_ok-by_time.ensures in
    record {
      exact = if_ok_is c.list.result c.new.result (ready_of c.args.told.now (set_at c.args.self.now c.args.set))
          (c.new.ensures ∙ ready_are c.self.inside.sets.items c.args.self.now (get nat_cmp c.self.inside.places) c.self.inside.clock c.args.set c.args.told.now c.in_ok-by_time.by_time.entries c.self.view_is c.requires c.self.invariant told)
          c.list.ensures;
    }
