-- What holds at every gate.
use Rattle.std.specs.Prelude.{◌≡◌, ℕ, ◌≤◌, ◌<◌, Bool, true, List, count_by, Option, ◌+◌, ◌*◌}
use Rattle.entry_gate.specs.declared.kind.Kind.{Kind}
use Rattle.entry_gate.specs.declared.kind.Kind.TheVariants.{Stackful}
use Rattle.entry_gate.specs.Kinds.{needs_entry}
use Rattle.entry_gate.specs.Gates.{GateView, may_enter}
use Rattle.entry_gate.specs.Stays.{Instance, is_inside, holds, waits, StandsFor}
use Rattle.entry_gate.specs.Runs.{Act, Comes, to_of, gate_of, Happens, Event, Run}
use Rattle.entry_gate.specs.Callbacks.{said, callback_of}

-- Each run has its gate: in it every task stays once, and
abbrev pub EachRunHasItsGate : Type 0
EachRunHasItsGate = (events : List Event) (i : Instance) → Run events i → StandsFor i (gate_of i)

-- at most one task holds exclusive entry.
abbrev pub AtMostOneHolds : Type 0
AtMostOneHolds = (events : List Event) (i : Instance) → Run events i → count_by holds i.stays ≤ 1

-- A task that needs exclusive entry enters, or goes on in its loop, only where none holds it.
abbrev pub EntryIsExclusive : Type 0
EntryIsExclusive =
    (act : Act) (old new : Instance) → is_inside (to_of act) ≡ true → (h : Happens act old new) → needs_entry h.kind ≡ true → count_by holds old.stays ≡ 0

-- A newcomer enters only where no task waits to enter.
abbrev pub NobodyIsPassed : Type 0
NobodyIsPassed = (old new : Instance) → Happens Comes old new → count_by waits old.stays ≡ 0

-- No task enters under backpressure.
abbrev pub BackpressureHolds : Type 0
BackpressureHolds = (kind : Kind) (newcomer : Bool) (gate : GateView) → may_enter kind newcomer gate ≡ true → gate.pressure ≡ 0

-- Whether a stackful task may enter does not depend on the holder.
abbrev pub StackfulNeedsNone : Type 0
StackfulNeedsNone =
    (newcomer : Bool) (gate : GateView) (holder : Option ℕ)
    → may_enter Stackful newcomer (record gate { holder = holder }) ≡ may_enter Stackful newcomer gate

-- A code below 16 and a set, packed into a word, are read back.
abbrev pub WordsAreReadBack : Type 0
WordsAreReadBack = (code set : ℕ) → code < 16 → callback_of (code + 16 * set) ≡ said code set
