-- What is asked where values are lowered, for marks to stay (Component Model, CanonicalABI.md, "Storing", "Flat Lowering", `lower_own`, `lower_borrow`, `lower_stream`, `lower_future`): entries
-- come to a table. A borrow handle counts for its task once all are entered. An end that comes is readable, and idle.
use Rattle.std.specs.Prelude.{◌≡◌, ℕ, true, false, List, Option, Some}
use Rattle.std.specs.List.{slice_get}
use Rattle.syntax_trees.specs.declared.types.ValType.{ValType}
use Rattle.laid_types.specs.Handles.{has_borrow}
use Rattle.laid_types.specs.Known.{Numbered, numbered_at}
use Rattle.stream_ends.specs.declared.side.Side.TheVariants.{Reader}
use Rattle.comp_graph.specs.declared.graph.Lift.{Lift}
use Rattle.graph_views.specs.Callees.{lift_of}
use Rattle.programs.specs.declared.program.Program.{Program}
use Rattle.task_table.specs.declared.slot.TaskSlot.{TaskSlot}
use Rattle.world_parts.specs.Held.{Held}
use Rattle.standing.specs.Channels.{EndMarked}

-- The readable end of the stream or the future of a type and a number is idle, by what is kept of it; types are told by their numbers among these.
abbrev pub EndComes : Held → List ValType → ValType → ℕ → Type 0
EndComes h types type number =
    (place : ℕ) → slice_get types place ≡ Some type → EndMarked h.streams h.futures (record { side = Reader; end_type = place; number = number; is_idle = true })

-- A task runs in the instance of its function.
abbrev pub RunsInOwn : Program → ℕ → Held → Type 0
RunsInOwn p t h = (slot : TaskSlot) (f : Lift) → slice_get h.tasks t ≡ Some slot → lift_of p.graph.now slot.callee ≡ Some f → slot.instance ≡ f.instance

-- The type of a number, where there is one, holds no borrow.
abbrev pub HoldsNoBorrow : Program → Option ℕ → Type 0
HoldsNoBorrow p o = (number : ℕ) (type : Numbered) → o ≡ Some number → numbered_at p.types.now number ≡ Some type → has_borrow type.val_type ≡ false
