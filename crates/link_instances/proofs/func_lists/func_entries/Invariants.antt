-- The functions of the exports so far.
use Rattle.std.proofs.Common.{◌≡◌, take}
use Rattle.link_instances.specs.Called.{func_entries}
use Rattle.link_instances.proofs.func_lists.func_entries.Given as goal

abbrev pub invariant-loop-entry : goal.invariant-loop-entry
invariant-loop-entry l = l.funcs ≡ func_entries (take l.entry-index l.entries)
