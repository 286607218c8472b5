-- What is lifted is settled in the instance as the call left it.
use Rattle.std.proofs.Common.{◌<◌, length, rules}
use Rattle.value_lift.specs.Lifting.{most}
use Rattle.value_lift.specs.Over.{load_by}
use Rattle.value_lift.specs.Tables.{at_first}
use Rattle.world_parts.specs.Places.{bytes_at}
use Rattle.value_parts.specs.Lifting.{over_table}
use Rattle.value_parts.proofs.Settling.{read_at, lifted_so}
use Rattle.value_parts.proofs.lifting.load_value.Goals as goal

pub returns : goal.returns
returns c =
    let within : c.args.from.at < length c.args.parts.now.instances.items = search rules in
    lifted_so c.args.from (λ m h i. load_by (over_table c.args.t.now.types) c.args.t.now.val_type (bytes_at c.args.from.memory h.store) c.args.place (at_first (most c.args.what) i.slots m))
    c.args.parts.now c.settle.new.parts c.index_mut.result.now c.load_over-came.new.instance c.new-moved.result c.load_over-came.new.moved c.as_slice.result.now c.load_over-came.result c.settle.result
    (read_at c.args.parts.now.instances.items c.args.from.at c.index_mut.result.now within c.index_mut.ensures.value) c.new-moved.ensures c.as_slice.ensures c.load_over-came.ensures.exact c.load_over-came.ensures.rest c.settle.ensures
