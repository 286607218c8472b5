-- What is written, with the memories that are left behind it, is the whole.
use Rattle.std.proofs.Common.{◌≡◌, ◌+◌, ◌++◌, drop, map}
use Rattle.trace_show.specs.DumpText.{numbered, memory_lines}
use Rattle.trace_show.proofs.dump_lines.push_memories.Given as goal

abbrev pub invariant-loop-before : goal.invariant-loop-before
invariant-loop-before l =
    l.to.items ++ numbered memory_lines (l.before + 1) (map (λ m. m.now) (drop l.before l.memories))
    ≡ l.initial.to.items ++ numbered memory_lines 1 (map (λ m. m.now) l.memories)
