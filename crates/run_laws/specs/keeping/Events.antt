-- Calls that come back, and events, keep all marks (Component Model, CanonicalABI.md, `canon lower`, "Subtask State", "Waitable Set State"; Concurrency.md,
-- "Waitables and Waitable Sets"): what was lent for a call is given back once its caller is told that it has resolved.
use Rattle.std.specs.Prelude.{ℕ}
use Rattle.world_parts.specs.Views.{Views}
use Rattle.world_parts.specs.declared.parts.Receiver.{Receiver}
use Rattle.world_parts.specs.Held.{Held}
use Rattle.world_parts.specs.Calls.{back_from_call}
use Rattle.world_parts.specs.Events.{received_none, received_cancel, delivers, polls}
use Rattle.run_laws.specs.keeping.Kept.{KeepsMarks, TableIsSound, NoneWaitsNext, IsNotAwaited, CalledFrom, SubtasksAreOwn, ToldGaveBack, AskedAreOpen}

-- Control is back at a task that called another one: that one has resolved, or comes to stand in the table, or the task blocks. The caller runs in this
-- instance, in whose sound table no task waits at the next index, and no task waits for the call yet.
abbrev pub BackKeepsMarks : Type 0
BackKeepsMarks =
    (g : Views) (t at callee canon : ℕ) (h : Held) → CalledFrom h at callee → ToldGaveBack h → TableIsSound h at → NoneWaitsNext h at → IsNotAwaited h callee
    → KeepsMarks h (back_from_call g t at callee canon h)

-- An event of a member of a set comes, or a poll is answered; no event comes, or that of a cancellation.
abbrev pub EventsKeepMarks : Type 0
EventsKeepMarks =
    (g : Views) (t at : ℕ) (r : Receiver) (set : ℕ) (h : Held) → SubtasksAreOwn h at → ToldGaveBack h → AskedAreOpen h
    → KeepsMarks h (delivers g t at r set h) × KeepsMarks h (polls g t at r set h) × KeepsMarks h (received_none g t r h) × KeepsMarks h (received_cancel g t r h)
