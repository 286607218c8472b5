-- What holds of every run of a task and of a subtask.
use Rattle.std.specs.Prelude.{◌≡◌, ℕ, ◌<◌, ◌≤◌, true, nat_le, is_some, if◌then◌else◌, List, [], ◌∷◌}
use Rattle.std.specs.List.{count_by}
use Rattle.std.specs.Option.{option_to_list}
use Rattle.entry_gate.specs.declared.kind.Kind.{Kind}
use Rattle.tasks.specs.declared.phase.Caller.{Caller}
use Rattle.tasks.specs.Tasks.{new_task}
use Rattle.tasks.specs.Subtasks.{is_over, new_subtask}
use Rattle.tasks.specs.SubtaskHistory.{Step}
use Rattle.tasks.specs.Runs.{Act, run, resolved_in, subtask_run, payloads, all_lent}

-- All resolutions of a run are the one that the task has at its end, if it has one.
abbrev pub ResolvesAtMostOnce : Type 0
ResolvesAtMostOnce = (kind : Kind) (caller : Caller) (acts : List Act) → resolved_in acts (new_task kind caller) ≡ option_to_list (run acts (new_task kind caller)).resolution

-- A task that is resolved has no live borrow handle.
abbrev pub NoBorrowOnceResolved : Type 0
NoBorrowOnceResolved = (kind : Kind) (caller : Caller) (acts : List Act) → is_some (run acts (new_task kind caller)).resolution ≡ true → (run acts (new_task kind caller)).borrows ≡ 0

-- each number is above the one before, and the first above this one
abbrev pub RisesFrom : ℕ → List ℕ → Type 0
RisesFrom low [] = Unit {0}
RisesFrom low (x ∷ xs) = (low < x) × RisesFrom x xs

-- What is told of a subtask rises, and of 2, 3 and 4 at most one is told.
pub record ToldRisesTo (told : List ℕ) : Type 0 where
  pub rises : RisesFrom 0 told
  pub last : count_by (nat_le 2) told ≤ 1

abbrev pub WhatIsToldRises : Type 0
WhatIsToldRises = (callee : ℕ) (steps : List Step) → ToldRisesTo (payloads steps (new_subtask callee))

-- All handles that were lent are lent until 2, 3 or 4 is told, and none from then on.
abbrev pub LendsEndWithTheLastState : Type 0
LendsEndWithTheLastState =
    (callee : ℕ) (steps : List Step) →
    (subtask_run steps (new_subtask callee)).lends ≡ (if is_over (subtask_run steps (new_subtask callee)).told then [] else all_lent steps (new_subtask callee))
