use Rattle.std.proofs.Common.{◌≡◌, ℕ, ◌*◌, ◌-◌, ◌≤◌, length, take}
use Rattle.ca_io.specs.Bytes.{grown}
use Rattle.trace_show.proofs.trace.write_rooms.Given as goal

abbrev pub invariant-loop-done : goal.invariant-loop-done
invariant-loop-done g l = record {
  rooms : (rooms : ℕ) × (l.done ≡ rooms * 4096);
  within : l.done ≤ length l.bytes;
  taken : g.K.Sink.taken l.sink ≡ grown (g.K.Sink.taken l.initial.sink) (take l.done l.bytes);
  faults : g.K.Sink.faults l.sink ≡ g.K.Sink.faults l.initial.sink;
}

abbrev pub decreases-loop-done : goal.decreases-loop-done
decreases-loop-done g l = length l.bytes - l.done
