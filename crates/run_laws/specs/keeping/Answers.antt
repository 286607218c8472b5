-- Answers of canonical functions keep all marks (Component Model, CanonicalABI.md, "Canonical Definitions", "Component Instance State", "Task State", "Subtask
-- State", "Resource State", "Waitable Set State"): where all of them are as they follow from tasks and tables, they are so behind what is answered.
use Rattle.std.specs.Prelude.{◌≡◌, ℕ, List, Option, Some}
use Rattle.comp_graph.specs.declared.graph.CanonFunc.{CanonFunc}
use Rattle.comp_graph.specs.declared.graph.CanonFunc.TheVariants as canon
use Rattle.comp_graph.specs.Graph.{Graph}
use Rattle.graph_views.specs.Canons.{canon_at}
use Rattle.world_parts.specs.Held.{Held}
use Rattle.machine_runs.specs.Calling.{canon_answered}
use Rattle.standing.specs.MarksKept.{CallsIn}
use Rattle.run_laws.specs.keeping.Kept.{KeepsMarks, NumbersThere, TableIsSound, NextIsUnlent, SubtasksAreOwn, ToldGaveBack, AskedAreOpen}

-- What is asked where a task calls a built-in of an instance, beside what `CallsIn` says: numbers name tasks that are there; the instance's table is sound, and
-- nothing is lent at its next index; its subtasks were called by its own tasks; what was told of calls that have resolved gave back what was lent for
-- them; and whose cancellation is asked was not cancelled.
pub record CallsWell (h : Held) (t at : ℕ) : Type 0 where
  pub calls : CallsIn h t at
  pub numbers : NumbersThere h
  pub sound : TableIsSound h at
  pub unlent : NextIsUnlent h at
  pub own : SubtasksAreOwn h at
  pub gave : ToldGaveBack h
  pub asked : AskedAreOpen h

-- Of a function that is lowered, numbers alone are asked.
abbrev pub MayAnswer : Held → ℕ → CanonFunc → Type 0
MayAnswer h t (canon.Lower l) = NumbersThere h
MayAnswer h t (canon.Builtin b) = CallsWell h t b.instance

abbrev pub AnswersKeepAll : Type 0
AnswersKeepAll =
    (g : Graph) (types : List (Option ℕ)) (t number : ℕ) (c : CanonFunc) (words : List ℕ) (h : Held) → canon_at g number ≡ Some c → MayAnswer h t c
    → KeepsMarks h (canon_answered g types t number c words h)
