use Rattle.std.proofs.Common.{◌+◌, ◌-◌}
use Rattle.trace_show.proofs.Puts.{room_front, on_err}
use Rattle.trace_show.proofs.trace.write_rooms.Goals as goal

pub returns-in_err-write_all-clause-failed : goal.returns-in_err-write_all-clause-failed
returns-in_err-write_all-clause-failed g c =
    on_err c.from_residual.result
    (room_front (g.K.Sink.taken c.args.sink.now) (g.K.Sink.taken c.loop-done.sink) (g.K.Sink.taken c.write_all.new.sink) c.args.bytes.now c.loop-done.done (c.loop-done.done + 4096 - c.loop-done.done)
    c.loop-done.invariant.taken c.in_err-write_all.ensures.failed)
