-- Backpressure leaves marks of handles and subtasks as they are.
use Rattle.std.proofs.Common.{◌≡◌, refl, Some}
use Rattle.std.specs.Prelude.{ℕ, ◌+◌, ◌-◌, nat_lt, if◌then◌else◌}
use Rattle.std.specs.List.{slice_get}
use Rattle.entry_gate.specs.Gates as gate
use Rattle.entry_gate.specs.Gates.{is_free, with_pressure}
use Rattle.instances.specs.Instances.{InstanceView, with_gate}
use Rattle.trace_labels.specs.declared.trap.TrapName.TheVariants as trap
use Rattle.world_parts.specs.Held.{Held, Gives, Traps}
use Rattle.world_parts.specs.Entries.{with_instance}
use Rattle.world_parts.specs.Gates.{entry_is_free, pressure_lowered, pressure_raised, pressure_set}
use Rattle.run_laws.proofs.keeping.Others.{Keeps, KeptBy, traps_put}
use Rattle.run_laws.proofs.keeping.Others.{keeps_given, keeps_if, keeps_same}
use Rattle.run_laws.proofs.keeping.Changes.{same_keeps}

pressed : (h : Held) (at pressure : ℕ) (i : InstanceView) → slice_get h.instances at ≡ Some i → Keeps h (with_instance at (with_gate (with_pressure pressure i.gate) i) h)
pressed h at pressure i is = same_keeps h at i (with_gate (with_pressure pressure i.gate) i) is refl

pub pressure_raised_keeps : (at : ℕ) (h : Held) → KeptBy h (pressure_raised at h)
pressure_raised_keeps at h =
    keeps_given h (slice_get h.instances at)
    (λ i. if nat_lt i.gate.pressure 65535 then Gives (tt {0}) (with_instance at (with_gate (with_pressure (i.gate.pressure + 1) i.gate) i) h) else Traps trap.PressureLimit (with_instance at i h))
    (λ i is.
    keeps_if h (nat_lt i.gate.pressure 65535) (Gives (tt {0}) (with_instance at (with_gate (with_pressure (i.gate.pressure + 1) i.gate) i) h)) (Traps trap.PressureLimit (with_instance at i h))
    (pressed h at (i.gate.pressure + 1) i is) (traps_put h at i is))

pub pressure_lowered_keeps : (at : ℕ) (h : Held) → KeptBy h (pressure_lowered at h)
pressure_lowered_keeps at h =
    keeps_given h (slice_get h.instances at)
    (λ i. if nat_lt 0 i.gate.pressure then Gives (tt {0}) (with_instance at (with_gate (with_pressure (i.gate.pressure - 1) i.gate) i) h) else Traps trap.PressureZero (with_instance at i h))
    (λ i is.
    keeps_if h (nat_lt 0 i.gate.pressure) (Gives (tt {0}) (with_instance at (with_gate (with_pressure (i.gate.pressure - 1) i.gate) i) h)) (Traps trap.PressureZero (with_instance at i h))
    (pressed h at (i.gate.pressure - 1) i is) (traps_put h at i is))

pub pressure_set_keeps : (at enabled : ℕ) (h : Held) → KeptBy h (pressure_set at enabled h)
pressure_set_keeps at enabled h =
    keeps_given h (slice_get h.instances at) (λ i. Gives (tt {0}) (with_instance at (with_gate (with_pressure (gate.set_pressure enabled) i.gate) i) h))
    (λ i is. pressed h at (gate.set_pressure enabled) i is)

pub entry_is_free_keeps : (at : ℕ) (h : Held) → KeptBy h (entry_is_free at h)
entry_is_free_keeps at h =
    keeps_given h (slice_get h.instances at) (λ i. Gives (is_free i.gate) h) (λ i is. keeps_same h)
