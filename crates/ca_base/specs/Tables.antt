-- Grammars as tables: rows of a byte, or another number, and what stands for it. A number that no row has goes on to another
-- grammar, or is refused.
use Rattle.std.specs.Prelude.{ℕ, ◌==◌, List, [], ◌∷◌}
use Rattle.ca_base.specs.Grammar.{Grammar, Give, Refuse, Here, Byte, Choose, ◌>>=◌}

-- the grammar of the row of a number, or another one where no row has it
abbrev pub in_rows : {W A : Type 0} → List (ℕ × Grammar W A) → ℕ → Grammar W A → Grammar W A
in_rows [] n other = other
in_rows (row ∷ rows) n other = Choose (n == row.0) row.1 (in_rows rows n other)

-- one byte, and the grammar of its row; a byte that no row has is refused at its place, for this reason
abbrev pub by_byte : {W A : Type 0} → (ℕ → W) → List (ℕ × Grammar W A) → Grammar W A
by_byte why rows = do
  place ← Here
  b ← Byte
  in_rows rows b (Refuse place (why b))

-- an item, and what is made of it
abbrev pub giving : {W A B : Type 0} → (A → B) → Grammar W A → Grammar W B
giving f g = do
  x ← g
  Give (f x)
