-- What lifting answers over the plain ledger, which counts and takes an index for itself: something, and how much may be counted still;
-- or the first fault.
use Rattle.std.specs.Prelude.{ℕ, ◌-◌, nat_le, if◌then◌else◌, Result, Ok, Err}
use Rattle.value_lift.specs.declared.trap.LiftWhy.TheVariants.{TooLarge}
use Rattle.value_lift.specs.declared.trap.LiftTrap.{LiftTrap}
use Rattle.value_lift.specs.Ledger.{Ledger, Came}
use Rattle.value_lift.specs.Ledger as kept
pub use Rattle.value_lift.specs.Leaves.{trap}
pub use Rattle.value_lift.specs.Ledger.{after, made, value_of, counting}

abbrev pub Lifted : Type 0 → Type 0
Lifted A = Came ℕ LiftTrap A

-- how much may be counted still, once so much is counted for what stands at a place
abbrev pub counted : ℕ → ℕ → ℕ → Result ℕ LiftTrap
counted many place left = if nat_le many left then Ok (left - many) else Err (trap TooLarge place)

-- how much may be counted still is all that is kept; an index names itself
abbrev pub plainly : Ledger ℕ LiftTrap
plainly = record { spend = counted; stop = λ fault left. fault; take = λ u left. Ok (u.index, left) }

-- something for which nothing is counted
abbrev pub uncounted : {A : Type 0} → ℕ → Result A LiftTrap → Lifted A
uncounted left r = kept.uncounted plainly left r
