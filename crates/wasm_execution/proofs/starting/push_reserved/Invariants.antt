-- The words so far stand behind the others, and there is room for the rest.
use Rattle.std.proofs.Common.{◌≡◌, ◌++◌, take, vec_capacity}
use Rattle.wasm_execution.proofs.starting.push_reserved.Given as goal

abbrev pub invariant-loop-word : goal.invariant-loop-word
invariant-loop-word l = record { items : l.list.items ≡ l.initial.list.items ++ take l.word-index l.words; capacity : vec_capacity l.list ≡ vec_capacity l.initial.list }
