-- Who may enter an instance (Component Model, CanonicalABI.md, "Task State": `Task.enter`): its backpressure, the task that
-- has its exclusive entry, and the tasks that wait to enter.
use Rattle.std.specs.Prelude.{ℕ, ◌+◌, ◌-◌, Bool, false, not, ◌&&◌, ◌||◌, nat_eq, if◌then◌else◌, is_none, Option, Some, None}
use Rattle.entry_gate.specs.declared.kind.Kind.{Kind}
use Rattle.entry_gate.specs.Kinds.{needs_entry}

-- a gate as contracts see it: the backpressure, the task that holds exclusive entry, and how many tasks wait to enter
pub record GateView : Type 0 where
  pub pressure : ℕ
  pub holder : Option ℕ
  pub waiting : ℕ

abbrev pub new_gate : GateView
new_gate = record { pressure = 0; holder = None; waiting = 0 }

-- no task has exclusive entry
abbrev pub is_free : GateView → Bool
is_free gate = is_none gate.holder

-- no holder bars a task of this kind
abbrev pub is_open : Kind → GateView → Bool
is_open kind gate = not (needs_entry kind) || is_free gate

-- A task may enter when there is no backpressure and no holder bars it, a newcomer only when no task waits to enter.
abbrev pub may_enter : Kind → Bool → GateView → Bool
may_enter kind newcomer gate = nat_eq gate.pressure 0 && is_open kind gate && (not newcomer || nat_eq gate.waiting 0)

-- the gate with one more task that waits, and with one less
abbrev pub with_wait : GateView → GateView
with_wait gate = record gate { waiting = gate.waiting + 1 }

abbrev pub without_wait : GateView → GateView
without_wait gate = record gate { waiting = gate.waiting - 1 }

-- the gate once this task holds exclusive entry
abbrev pub held_by : ℕ → GateView → GateView
held_by task gate = record gate { holder = Some task }

-- the gate once a task of this kind is in
abbrev pub entered : ℕ → Kind → GateView → GateView
entered task kind gate = if needs_entry kind then held_by task gate else gate

abbrev pub is_holder : ℕ → Option ℕ → Bool
is_holder task None = false
is_holder task (Some holder) = nat_eq task holder

-- the gate once this task does not hold exclusive entry
abbrev pub given_up : ℕ → GateView → GateView
given_up task gate = if is_holder task gate.holder then record gate { holder = None } else gate

abbrev pub with_pressure : ℕ → GateView → GateView
with_pressure pressure gate = record gate { pressure = pressure }

-- the backpressure that `backpressure.set` makes
abbrev pub set_pressure : ℕ → ℕ
set_pressure enabled = if nat_eq enabled 0 then 0 else 1
