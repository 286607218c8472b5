-- Who enters an instance, and its backpressure, changes neither memories nor core instances, nor ends.
use Rattle.std.proofs.Common.{◌≡◌, refl, Some}
use Rattle.std.specs.Prelude.{ℕ, ◌+◌, ◌-◌, nat_lt, Bool, if◌then◌else◌}
use Rattle.std.specs.List.{slice_get}
use Rattle.entry_gate.specs.declared.kind.Kind.{Kind}
use Rattle.entry_gate.specs.Gates as gate
use Rattle.entry_gate.specs.Gates.{is_free, with_wait, without_wait, given_up, held_by, with_pressure}
use Rattle.instances.specs.Instances.{with_gate}
use Rattle.trace_labels.specs.declared.trap.TrapName.TheVariants as trap
use Rattle.world_parts.specs.Held.{Held, Gives, Traps, Stuck}
use Rattle.world_parts.specs.Entries.{with_instance}
use Rattle.instances.specs.Instances.{InstanceView}
use Rattle.entry_gate.specs.Gates.{GateView}
use Rattle.world_parts.specs.Gates.{entry_is_free, gate_entered, gate_given_up, gate_taken_back, gate_unwaited, gate_waited, may_enter, pressure_lowered, pressure_raised, pressure_set}
use Rattle.run_laws.proofs.keeping.still.Still.{Kinds, Still, StillBy, still_given, still_if, still_same, still_instance}

-- The gate of an instance is another one.
gate_still : (W : Kinds) → (h : Held) (at : ℕ) (i : InstanceView) (g : GateView) → slice_get h.instances at ≡ Some i → Still W h (with_instance at (with_gate g i) h)
gate_still W h at i g is = still_instance W h at i (with_gate g i) is refl

pub gate_waited_still : (W : Kinds) → (at : ℕ) (h : Held) → StillBy W h (gate_waited at h)
gate_waited_still W at h =
    still_given W h (slice_get h.instances at) (λ i. Gives (tt {0}) (with_instance at (with_gate (with_wait i.gate) i) h)) (λ i is. gate_still W h at i (with_wait i.gate) is)

pub gate_unwaited_still : (W : Kinds) → (at : ℕ) (h : Held) → StillBy W h (gate_unwaited at h)
gate_unwaited_still W at h =
    still_given W h (slice_get h.instances at) (λ i. if nat_lt 0 i.gate.waiting then Gives (tt {0}) (with_instance at (with_gate (without_wait i.gate) i) h) else Stuck)
    (λ i is.
    still_if W h (nat_lt 0 i.gate.waiting) (Gives (tt {0}) (with_instance at (with_gate (without_wait i.gate) i) h)) Stuck (gate_still W h at i (without_wait i.gate) is) tt)

pub gate_entered_still : (W : Kinds) → (at t : ℕ) (kind : Kind) (h : Held) → StillBy W h (gate_entered at t kind h)
gate_entered_still W at t kind h =
    still_given W h (slice_get h.instances at) (λ i. Gives (tt {0}) (with_instance at (with_gate (gate.entered t kind i.gate) i) h))
    (λ i is. gate_still W h at i (gate.entered t kind i.gate) is)

pub gate_given_up_still : (W : Kinds) → (at t : ℕ) (h : Held) → StillBy W h (gate_given_up at t h)
gate_given_up_still W at t h =
    still_given W h (slice_get h.instances at) (λ i. Gives (tt {0}) (with_instance at (with_gate (given_up t i.gate) i) h)) (λ i is. gate_still W h at i (given_up t i.gate) is)

pub gate_taken_back_still : (W : Kinds) → (at t : ℕ) (h : Held) → StillBy W h (gate_taken_back at t h)
gate_taken_back_still W at t h =
    still_given W h (slice_get h.instances at) (λ i. Gives (tt {0}) (with_instance at (with_gate (held_by t i.gate) i) h)) (λ i is. gate_still W h at i (held_by t i.gate) is)

pub pressure_raised_still : (W : Kinds) → (at : ℕ) (h : Held) → StillBy W h (pressure_raised at h)
pressure_raised_still W at h =
    still_given W h (slice_get h.instances at)
    (λ i. if nat_lt i.gate.pressure 65535 then Gives (tt {0}) (with_instance at (with_gate (with_pressure (i.gate.pressure + 1) i.gate) i) h) else Traps trap.PressureLimit (with_instance at i h))
    (λ i is.
    still_if W h (nat_lt i.gate.pressure 65535) (Gives (tt {0}) (with_instance at (with_gate (with_pressure (i.gate.pressure + 1) i.gate) i) h)) (Traps trap.PressureLimit (with_instance at i h))
    (gate_still W h at i (with_pressure (i.gate.pressure + 1) i.gate) is) (still_instance W h at i i is refl).ends)

pub pressure_lowered_still : (W : Kinds) → (at : ℕ) (h : Held) → StillBy W h (pressure_lowered at h)
pressure_lowered_still W at h =
    still_given W h (slice_get h.instances at)
    (λ i. if nat_lt 0 i.gate.pressure then Gives (tt {0}) (with_instance at (with_gate (with_pressure (i.gate.pressure - 1) i.gate) i) h) else Traps trap.PressureZero (with_instance at i h))
    (λ i is.
    still_if W h (nat_lt 0 i.gate.pressure) (Gives (tt {0}) (with_instance at (with_gate (with_pressure (i.gate.pressure - 1) i.gate) i) h)) (Traps trap.PressureZero (with_instance at i h))
    (gate_still W h at i (with_pressure (i.gate.pressure - 1) i.gate) is) (still_instance W h at i i is refl).ends)

pub pressure_set_still : (W : Kinds) → (at enabled : ℕ) (h : Held) → StillBy W h (pressure_set at enabled h)
pressure_set_still W at enabled h =
    still_given W h (slice_get h.instances at) (λ i. Gives (tt {0}) (with_instance at (with_gate (with_pressure (gate.set_pressure enabled) i.gate) i) h))
    (λ i is. gate_still W h at i (with_pressure (gate.set_pressure enabled) i.gate) is)

pub may_enter_still : (W : Kinds) → (at : ℕ) (kind : Kind) (newcomer : Bool) (h : Held) → StillBy W h (may_enter at kind newcomer h)
may_enter_still W at kind newcomer h =
    still_given W h (slice_get h.instances at) (λ i. Gives (gate.may_enter kind newcomer i.gate) h) (λ i is. still_same W h)

pub entry_is_free_still : (W : Kinds) → (at : ℕ) (h : Held) → StillBy W h (entry_is_free at h)
entry_is_free_still W at h =
    still_given W h (slice_get h.instances at) (λ i. Gives (is_free i.gate) h) (λ i is. still_same W h)
