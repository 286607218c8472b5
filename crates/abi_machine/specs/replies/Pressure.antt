-- Backpressure (Component Model, CanonicalABI.md, `canon backpressure.set`, `canon backpressure.{inc,dec}`): above 0 no task enters the instance.
use Rattle.std.specs.Prelude.{ℕ, ◌+◌, ◌-◌, nat_eq, nat_le, []}
use Rattle.entry_gate.specs.Gates.{set_pressure}
use Rattle.trace_labels.specs.declared.trap.TrapName.TheVariants as trap
use Rattle.abi_machine.specs.World.{World}
use Rattle.abi_machine.specs.Edits.{with_backpressure}
use Rattle.abi_machine.specs.Reading.{backpressure_of}
use Rattle.abi_machine.specs.Turn.{Turn, unless, replied}

-- how far it rises
abbrev pub most_backpressure : ℕ
most_backpressure = 65535

unfoldable pub pressure_inc_turn : ℕ → ℕ → World → Turn
pressure_inc_turn t i w =
    unless t (nat_le most_backpressure (backpressure_of w i)) trap.PressureLimit w (replied t [] (with_backpressure i (backpressure_of w i + 1) w))

unfoldable pub pressure_dec_turn : ℕ → ℕ → World → Turn
pressure_dec_turn t i w =
    unless t (nat_eq (backpressure_of w i) 0) trap.PressureZero w (replied t [] (with_backpressure i (backpressure_of w i - 1) w))

unfoldable pub pressure_set_turn : ℕ → ℕ → ℕ → World → Turn
pressure_set_turn t i enabled w = replied t [] (with_backpressure i (set_pressure enabled) w)
