-- The runs so far and those of the groups that are left are those of all, and so are their numbers.
use Rattle.std.proofs.Common.{◌≡◌, ◌++◌, ◌+◌, drop}
use Rattle.syntax_trees.specs.Locals.{local_count}
use Rattle.wasm_typing.proofs.Running.{runs_of}
use Rattle.wasm_typing.proofs.local_runs.LocalTypes.of.Given as goal

abbrev pub invariant-loop-group : goal.invariant-loop-group
invariant-loop-group l = record {
  whole : l.runs.items ++ runs_of l.end (drop l.group-index l.groups) ≡ runs_of 0 l.groups;
  count : l.end + local_count (drop l.group-index l.groups) ≡ local_count l.groups;
}
