-- The run that is looked for doesn't stand before the lower bound, and each at the upper bound ends behind the index.
use Rattle.std.proofs.Common.{◌-◌, ◌≤◌, ◌<◌, length, get_or}
use Rattle.wasm_typing.specs.declared.local_runs.Run.{Run}
use Rattle.wasm_typing.proofs.Running.{start_of}
use Rattle.wasm_typing.proofs.local_runs.run_at.Given as goal

abbrev pub invariant-loop-low : goal.invariant-loop-low
invariant-loop-low l = record {
  ordered : l.low ≤ l.high;
  within : l.high ≤ length l.runs;
  low : start_of 0 l.low l.runs ≤ l.index;
  high : (d : Run) → l.high < length l.runs → l.index < (get_or l.runs l.high d).end;
}

abbrev pub decreases-loop-low : goal.decreases-loop-low
decreases-loop-low l = l.high - l.low
