-- How far numbers reach (Core 2.0, section 5.2.2).
use Rattle.std.specs.Prelude.{ℕ, zero, suc, ◌*◌}

-- seven bits more for each of so many bytes
abbrev pub reach : ℕ → ℕ → ℕ
reach zero top = top
reach (suc more) top = 128 * reach more top
