-- The rows so far are written.
use Rattle.std.proofs.Common.{◌≡◌, ◌++◌, flat_map}
use Rattle.std.specs.List.{range_with_len}
use Rattle.trace_show.specs.DumpText.{row_of}
use Rattle.trace_show.proofs.dump_lines.push_rows.Given as goal

abbrev pub invariant-loop-row : goal.invariant-loop-row
invariant-loop-row l = l.to.items ≡ l.initial.to.items ++ flat_map (row_of l.memory) (range_with_len 0 l.row)
