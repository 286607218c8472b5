-- A span: what is left of a window of a file.
use Rattle.std.specs.Prelude.{ℕ, ◌+◌, List, take, drop}

-- The bytes up to the window's end, the place in the file of the first of them, and why an item that passes the end
-- is refused. W is the type of the reasons.
pub record Span (W : Type 0) : Type 0 where
  pub bytes : List ℕ
  pub at : ℕ
  pub past : W

-- what is left behind the next bytes
abbrev pub behind : {W : Type 0} → ℕ → Span W → Span W
behind count s = record { bytes = drop count s.bytes; at = s.at + count; past = s.past }

-- the next bytes as a window of their own
abbrev pub window : {V W : Type 0} → ℕ → V → Span W → Span V
window count past s = record { bytes = take count s.bytes; at = s.at; past = past }
