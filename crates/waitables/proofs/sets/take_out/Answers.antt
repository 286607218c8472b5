use Rattle.std.proofs.Common.{refl, ◌<◌, length}
use Rattle.waitables.proofs.Placements.{taken_out, waits_same}
use Rattle.waitables.proofs.sets.take_out.Goals as goal

pub returns-in-Some-clause-times : goal.returns-in-Some-clause-times
returns-in-Some-clause-times c =
    let there : c.in-Some.place.set < length c.args.sets.now.items = rw c.in-Some.is at c.requires in
    rw c.in-Some.is (taken_out c.args.sets.now.items c.in-Some.place c.index_mut-set.result.now (record { by_time = c.remove.new.self; waiters = c.index_mut-set.result.now.waiters }) there c.index_mut-set.ensures.value c.remove.ensures.entries)

pub returns-in-Some-clause-waiters : goal.returns-in-Some-clause-waiters
returns-in-Some-clause-waiters c = waits_same c.args.sets.now.items c.in-Some.place.set c.index_mut-set.result.now (record { by_time = c.remove.new.self; waiters = c.index_mut-set.result.now.waiters }) c.index_mut-set.ensures.value refl
