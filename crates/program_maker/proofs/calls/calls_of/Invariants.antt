-- The calls of all items are those so far and those of the items that are left.
use Rattle.std.proofs.Common.{◌≡◌, ◌++◌, drop}
use Rattle.program_maker.specs.Programs.{call_numbers}
use Rattle.program_maker.proofs.calls.calls_of.Given as goal

abbrev pub invariant-loop-item : goal.invariant-loop-item
invariant-loop-item l = call_numbers l.exports 0 l.items ≡ l.calls.items ++ call_numbers l.exports l.item (drop l.item l.items)
