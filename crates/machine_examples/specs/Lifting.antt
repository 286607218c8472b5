-- What liftings leave (Component Model, CanonicalABI.md, `lift_own`, `lift_borrow`; "Subtask State"), where the second of two arguments is
-- refused: task 1 has one handle and passes it twice.
use Rattle.std.specs.Prelude.{ℕ, List, [], ◌∷◌}
use Rattle.trace_labels.specs.declared.dump.Entry.TheVariants as entry
use Rattle.trace_labels.specs.declared.dump.LiveEntry.{LiveEntry}

-- It was lent first, and stays lent;
abbrev pub still_lent : List (List LiveEntry)
still_lent = (record { index = 1; entry = entry.Own 1 7 1 } ∷ []) ∷ [] ∷ []

-- or it was taken first, and is gone.
abbrev pub given_away : List (List LiveEntry)
given_away = [] ∷ [] ∷ []

abbrev pub no_bytes : List (List ℕ)
no_bytes = [] ∷ [] ∷ []
