-- The flags so far, and those that are read behind them.
use Rattle.std.proofs.Common.{◌≡◌, drop}
use Rattle.value_reader.specs.Values.{flags_in, flags_from}
use Rattle.value_reader.proofs.labels.flags_at.Given as goal

abbrev pub invariant-loop-label : goal.invariant-loop-label
invariant-loop-label l = flags_in l.labels l.fn.text ≡ flags_from l.is_open l.flags (drop l.label-index l.labels) l.text
