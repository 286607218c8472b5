-- A small format, on which the loops over items are tested.
use Rattle.std.specs.Prelude.{ℕ, ℤ}
use Rattle.ca_base.specs.Grammar.{Grammar, Give, ◌>>=◌}
use Rattle.ca_base.specs.Items.{NumberReasons, Reasons, u32, s32, marker}

-- two numbers
unfoldable pub pair : {W : Type 0} → NumberReasons W → Grammar W (ℕ × ℤ)
pair numbers = do
  first ← u32 numbers
  second ← s32 numbers
  Give (first, second)

-- a byte, and a number
unfoldable pub marked : {W : Type 0} → NumberReasons W → Reasons W → ℕ → Grammar W (ℕ × ℕ)
marked numbers reasons byte = do
  first ← marker reasons byte
  number ← u32 numbers
  Give (first, number)
