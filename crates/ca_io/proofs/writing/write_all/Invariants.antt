use Rattle.std.proofs.Common.{◌≡◌, ◌-◌, ◌≤◌, length, take}
use Rattle.ca_io.specs.Bytes.{grown}
use Rattle.ca_io.proofs.writing.write_all.Given as goal

abbrev pub invariant-loop-done : goal.invariant-loop-done
invariant-loop-done g l = record {
  within : l.done ≤ length l.part;
  taken : g.K.Sink.taken l.sink ≡ grown (g.K.Sink.taken l.initial.sink) (take l.done l.part);
  faults : g.K.Sink.faults l.sink ≡ g.K.Sink.faults l.initial.sink;
  untouched : l.done ≡ 0 → l.sink ≡ l.initial.sink;
}

abbrev pub decreases-loop-done : goal.decreases-loop-done
decreases-loop-done g l = length l.part - l.done
