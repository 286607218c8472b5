-- Copies that are completed (Component Model, CanonicalABI.md, "Stream State" and "Future State"): once the elements stand at the reader, the copy has
-- its line, the offer that was met has an event, and the acting task has its answer, on both sides. It asks that a task is there that acts, and that
-- a stream or a future is there.
use Rattle.std.specs.Prelude.{◌≡◌, ℕ, List, length, Option, Some}
use Rattle.std.specs.List.{slice_get}
use Rattle.wasm_store.specs.Stack.{Stack}
use Rattle.syntax_trees.specs.declared.types.ValType.{ValType}
use Rattle.syntax_trees.specs.declared.value.Value.{Value}
use Rattle.comp_graph.specs.Graph.{Graph}
use Rattle.script_reader.specs.Script.{Script}
use Rattle.copy_replies.specs.declared.moving.Moving.{Moving}
use Rattle.copy_replies.specs.Moves.{completed}
use Rattle.world_parts.specs.Held as kept
use Rattle.world_parts.specs.Held.{Held, Done, Gives, Traps, Spent}
use Rattle.abi_machine.specs.Control.{EndRef}
use Rattle.abi_machine.specs.World.{Task, Channel, World}
use Rattle.abi_machine.specs.Reading.{channel_at}
use Rattle.abi_machine.specs.Copying.{copying_of, copied_of, transferring_turn}
use Rattle.standing.specs.Stands.{Stands}
use Rattle.standing.specs.Agreeing.{Agrees}

-- A rule applies.
abbrev pub IsRuled : {A : Type 0} → Done A → Type 0
IsRuled (Gives x k) = Unit {0}
IsRuled (Traps why k) = Unit {0}
IsRuled (Spent k) = Unit {0}
IsRuled kept.Stuck = ⊥

-- the end of the call that a copy completes
abbrev pub end_of : Moving → EndRef
end_of m = record { kind = m.kind; number = m.number; side = m.side }

abbrev pub CopyIsCompleted : Type 0
CopyIsCompleted =
    (g : Graph) (values : List ValType) (s : Script) (h : Held) (stacks : List (List Stack)) (w : World) (m : Moving) (size : ℕ) (copied : List (Option Value)) (a : Channel) (task : Task)
    → length copied ≡ m.count → channel_at w m.kind m.number ≡ Some a → slice_get w.chain 0 ≡ Some m.task → slice_get w.tasks m.task ≡ Some task
    → Stands g values s h stacks w → IsRuled (completed m (copied_of a.element copied) h)
    → Agrees g values s m.task h.labels stacks (completed m (copied_of a.element copied) h) (transferring_turn (copying_of (end_of m) size copied) w)
