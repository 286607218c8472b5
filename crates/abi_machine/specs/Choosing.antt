-- Choices (Component Model, Concurrency.md, leaves them free): the picks of the script make them. A choice is a step of its own, which
-- costs nothing.
use Rattle.std.specs.Prelude.{ℕ, [], ◌∷◌}
use Rattle.choices.specs.Drawing.{Drawn, drawn, drawn_answer}
use Rattle.trace_labels.specs.declared.label.Label.TheVariants as line
use Rattle.script_reader.specs.Script.{Script}
use Rattle.abi_machine.specs.Control.{Control}
use Rattle.abi_machine.specs.World.{World}
use Rattle.abi_machine.specs.Edits.{with_control, picked}
use Rattle.abi_machine.specs.Turn.{Turn, Steps}

-- the picks of a script, and how many are used
abbrev pub picks_of : Script → World → Drawn
picks_of s w = record { given = s.picks; used = w.picks }

-- One of so many alternatives, at least two.
unfoldable pub chosen : Script → ℕ → (ℕ → Control) → World → Turn
chosen s count control w =
    Steps (line.Choose count (drawn_answer count (picks_of s w)) ∷ [])
    (with_control (control (drawn_answer count (picks_of s w))) (picked (drawn count (picks_of s w)).used w))
