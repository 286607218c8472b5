-- Entry (Component Model, CanonicalABI.md, "Task State": `Task.enter`; Concurrency.md, "Backpressure"): who holds exclusive entry to an
-- instance, who waits to enter, and who may enter, of the list of tasks.
use Rattle.std.specs.Prelude.{ℕ, Bool, true, false, List, map, filter}
use Rattle.std.specs.List.{count_by}
use Rattle.entry_gate.specs.Gates.{GateView, is_free, may_enter}
use Rattle.entry_gate.specs.Stays.{Place, Outside, Waiting, Inside, Stay, waits, holder_of}
use Rattle.entry_gate.specs.Stays as stays
use Rattle.abi_machine.specs.World.{TaskState, New, WaitsToEnter, InLoop, Exited, Task, World}
use Rattle.abi_machine.specs.Reading.{backpressure_of, kind_of, runs_in, with_numbers}

abbrev pub place_of : TaskState → Place
place_of New = Outside
place_of WaitsToEnter = Waiting
place_of (InLoop word) = stays.InLoop
place_of Exited = Outside
place_of _ = Inside

-- the stays at an instance, of these tasks
abbrev pub stay_of : ℕ × Task → Stay
stay_of x = record { task = x.0; kind = kind_of x.1; place = place_of x.1.state }

abbrev pub stays_in : ℕ → List Task → List Stay
stays_in i tasks = map stay_of (filter (λ x. runs_in i x.1) (with_numbers 0 tasks))

abbrev pub stays_of : World → ℕ → List Stay
stays_of w i = stays_in i w.tasks

abbrev pub gate_of : World → ℕ → GateView
gate_of w i = record { pressure = backpressure_of w i; holder = holder_of (stays_of w i); waiting = count_by waits (stays_of w i) }

-- no task holds exclusive entry to an instance
abbrev pub is_entry_free : World → ℕ → Bool
is_entry_free w i = is_free (gate_of w i)

-- A task may enter an instance: one that is new, and one that waits to.
abbrev pub may_arrive : World → ℕ → Task → Bool
may_arrive w i task = may_enter (kind_of task) true (gate_of w i)

abbrev pub may_go_in : World → ℕ → Task → Bool
may_go_in w i task = may_enter (kind_of task) false (gate_of w i)
