-- Functions that are lifted with `async`, and that end (Component Model, CanonicalABI.md, `canon lift`, `unpack_callback_result`; Concurrency.md, "Summary"):
-- with a callback the word tells whether the task exits, lets others run, waits on a set or polls one; without one it exits. What is kept does what the
-- machine does: the task exits, where it has resolved, or blocks in its loop, or there is the same trap, for a word that is none, an index at which no set
-- stands, or a task that has not resolved.
use Rattle.std.specs.Prelude.{◌≡◌, ℕ, List, Some}
use Rattle.std.specs.List.{slice_get}
use Rattle.wasm_store.specs.Stack.{Stack}
use Rattle.syntax_trees.specs.declared.types.ValType.{ValType}
use Rattle.entry_gate.specs.declared.kind.Kind.{Kind}
use Rattle.entry_gate.specs.declared.kind.Kind.TheVariants.{Sync, Callback, Stackful}
use Rattle.comp_graph.specs.Graph.{Graph, Lifted}
use Rattle.script_reader.specs.Script.{Script}
use Rattle.world_parts.specs.Held.{Held}
use Rattle.world_parts.specs.Slots.{word_in}
use Rattle.value_moves.specs.Passing.{async_ended}
use Rattle.abi_machine.specs.CoreSteps.{func_ended}
use Rattle.abi_machine.specs.World.{Acting, Inst, Task, World}
use Rattle.standing.specs.Stands.{Stands}
use Rattle.standing.specs.Agreeing.{Agrees}
use Rattle.standing.specs.Moves.{Acts}
use Rattle.standing.specs.Replies.{HasItsSets}

-- a function that is lifted with `async`
abbrev pub IsAsync : Kind → Type 0
IsAsync Sync = ⊥
IsAsync Callback = Unit {0}
IsAsync Stackful = Unit {0}

-- The word that a core function or a callback gives is a 32-bit one, where it gives one.
abbrev pub GivesWord : List ℕ → Type 0
GivesWord words = (word : ℕ) → slice_get words 0 ≡ Some word → word_in words 0 ≡ Some word

-- The acting task, in whose instance each set that stands in the table was made, has come to the end of its core function or its callback, with words.
pub record EndsAsync (w : World) (t : ℕ) (task : Task) (f : Lifted) (words : List ℕ) : Type 0 where
  pub acts : Acts w t task f
  pub state : task.state ≡ Acting
  pub gives : GivesWord words
  pub sets : (inst : Inst) → slice_get w.insts f.instance ≡ Some inst → HasItsSets inst

abbrev pub AsyncFunctionEnds : Type 0
AsyncFunctionEnds =
    (g : Graph) (values : List ValType) (s : Script) (h : Held) (stacks : List (List Stack)) (w : World) (t : ℕ) (task : Task) (f : Lifted) (kind : Kind) (words : List ℕ)
    → IsAsync kind → EndsAsync w t task f words → Stands g values s h stacks w
    → Agrees g values s t h.labels stacks (async_ended t kind words h) (func_ended g t task f kind words w)
