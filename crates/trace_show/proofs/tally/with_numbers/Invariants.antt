-- The numbers so far are summed.
use Rattle.std.proofs.Common.{◌≡◌, ◌+◌, ◌%◌, ◌^◌, take}
use Rattle.std.specs.List.{sum_by}
use Rattle.trace_show.specs.Tally.{number_in}
use Rattle.trace_show.proofs.tally.with_numbers.Given as goal

abbrev pub invariant-loop-value : goal.invariant-loop-value
invariant-loop-value l = l.sum ≡ (l.start + sum_by number_in (take l.value-index l.values)) % 2 ^ 64
