use Rattle.std.proofs.Common.{refl}
use Rattle.waitables.proofs.Placements.{waits_same}
use Rattle.waitables.proofs.Joining.{put_into, kept_in, on_err}
use Rattle.waitables.proofs.sets.put_in.Goals as goal

pub returns-in_err-put-clause-kept : goal.returns-in_err-put-clause-kept
returns-in_err-put-clause-kept c = on_err c.from_residual.result _ (kept_in c.args.sets.now.items c.args.place.set c.index_mut-set.result.now (record { by_time = c.put.new.by_time; waiters = c.index_mut-set.result.now.waiters }) c.index_mut-set.ensures.value c.in_err-put.ensures.memory)

pub returns-in_err-put-clause-waiters : goal.returns-in_err-put-clause-waiters
returns-in_err-put-clause-waiters c = waits_same c.args.sets.now.items c.args.place.set c.index_mut-set.result.now (record { by_time = c.put.new.by_time; waiters = c.index_mut-set.result.now.waiters }) c.index_mut-set.ensures.value refl

pub returns-clause-times : goal.returns-clause-times
returns-clause-times c = put_into c.args.sets.now.items c.args.place c.args.waitable c.index_mut-set.result.now (record { by_time = c.put.new.by_time; waiters = c.index_mut-set.result.now.waiters }) c.requires c.index_mut-set.ensures.value c.in_ok-put.ensures.ok

pub returns-clause-waiters : goal.returns-clause-waiters
returns-clause-waiters c = waits_same c.args.sets.now.items c.args.place.set c.index_mut-set.result.now (record { by_time = c.put.new.by_time; waiters = c.index_mut-set.result.now.waiters }) c.index_mut-set.ensures.value refl
