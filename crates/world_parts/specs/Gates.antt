-- Who enters a component instance, and its backpressure (Component Model, CanonicalABI.md, "Task State", `canon backpressure.set` and `canon
-- backpressure.{inc,dec}`).
use Rattle.std.specs.Prelude.{ℕ, ◌+◌, ◌-◌, nat_lt, Bool, if◌then◌else◌}
use Rattle.std.specs.List.{slice_get}
use Rattle.entry_gate.specs.declared.kind.Kind.{Kind}
use Rattle.entry_gate.specs.Gates as gate
use Rattle.entry_gate.specs.Gates.{is_free, with_wait, without_wait, given_up, held_by, with_pressure}
use Rattle.instances.specs.Instances.{with_gate}
use Rattle.trace_labels.specs.declared.trap.TrapName.TheVariants as trap
use Rattle.world_parts.specs.Held.{Held, Done, Gives, Traps, Stuck, given}
use Rattle.world_parts.specs.Entries.{with_instance}

-- whether a task of this kind may enter, and whether no task holds exclusive entry
abbrev pub may_enter : ℕ → Kind → Bool → Held → Done Bool
may_enter at kind newcomer h = given (slice_get h.instances at) (λ i. Gives (gate.may_enter kind newcomer i.gate) h)

abbrev pub entry_is_free : ℕ → Held → Done Bool
entry_is_free at h = given (slice_get h.instances at) (λ i. Gives (is_free i.gate) h)

-- A task begins to wait to enter, and ceases to; it enters, leaves, gives up entry in its loop, and takes it again.
abbrev pub gate_waited : ℕ → Held → Done (Unit {0})
gate_waited at h = given (slice_get h.instances at) (λ i. Gives tt (with_instance at (with_gate (with_wait i.gate) i) h))

abbrev pub gate_unwaited : ℕ → Held → Done (Unit {0})
gate_unwaited at h =
    given (slice_get h.instances at) (λ i.
    if nat_lt 0 i.gate.waiting then Gives tt (with_instance at (with_gate (without_wait i.gate) i) h) else Stuck)

abbrev pub gate_entered : ℕ → ℕ → Kind → Held → Done (Unit {0})
gate_entered at t kind h = given (slice_get h.instances at) (λ i. Gives tt (with_instance at (with_gate (gate.entered t kind i.gate) i) h))

abbrev pub gate_given_up : ℕ → ℕ → Held → Done (Unit {0})
gate_given_up at t h = given (slice_get h.instances at) (λ i. Gives tt (with_instance at (with_gate (given_up t i.gate) i) h))

abbrev pub gate_taken_back : ℕ → ℕ → Held → Done (Unit {0})
gate_taken_back at t h = given (slice_get h.instances at) (λ i. Gives tt (with_instance at (with_gate (held_by t i.gate) i) h))

-- The backpressure rises, falls, and is set.
abbrev pub pressure_raised : ℕ → Held → Done (Unit {0})
pressure_raised at h =
    given (slice_get h.instances at) (λ i.
    if nat_lt i.gate.pressure 65535 then Gives tt (with_instance at (with_gate (with_pressure (i.gate.pressure + 1) i.gate) i) h)
    else Traps trap.PressureLimit (with_instance at i h))

abbrev pub pressure_lowered : ℕ → Held → Done (Unit {0})
pressure_lowered at h =
    given (slice_get h.instances at) (λ i.
    if nat_lt 0 i.gate.pressure then Gives tt (with_instance at (with_gate (with_pressure (i.gate.pressure - 1) i.gate) i) h)
    else Traps trap.PressureZero (with_instance at i h))

abbrev pub pressure_set : ℕ → ℕ → Held → Done (Unit {0})
pressure_set at enabled h =
    given (slice_get h.instances at) (λ i. Gives tt (with_instance at (with_gate (with_pressure (gate.set_pressure enabled) i.gate) i) h))
