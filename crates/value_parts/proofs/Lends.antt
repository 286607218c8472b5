-- Handles that are lent for a call, by who called.
use Rattle.std.proofs.Common.{◌≡◌, ℕ, Bool, true, false, refl, ap, ◌∙◌, Result, Ok, Err}
use Rattle.std.specs.Prelude.{not}
use Rattle.tasks.specs.Subtasks.{is_over}
use Rattle.task_table.specs.declared.caller.Caller.{Caller}
use Rattle.task_table.specs.declared.caller.Caller.TheVariants.{Nobody, Host, Guest}
use Rattle.task_table.specs.declared.refusal.LendError.{LendError}
use Rattle.task_table.specs.declared.refusal.LendError.TheVariants.{NoCall, Memory}
use Rattle.task_table.specs.declared.slot.TaskSlot.{TaskSlot}
use Rattle.task_table.specs.Callers.{CallerLends, changed, with_lend}
use Rattle.task_table.specs.Slots.{LendGives, with_caller}
use Rattle.value_parts.specs.Loans.{may_lend, LentGives}

lends_kept : (handle : ℕ) (c d : Caller) (done : Unit {0}) → CallerLends handle c (Ok done) d → (may_lend c ≡ true) × (d ≡ changed (with_lend handle) c)
lends_kept handle Nobody d done h = absurd h
lends_kept handle (Host call) d done h = absurd h
lends_kept handle (Guest called) d done h = (h.0, h.1)

no_lends : (b : Bool) → b ≡ true → not b ≡ false
no_lends true h = refl
no_lends false h = absurd (let w : ⊥ = cc in w)

lends_refused : (handle : ℕ) (c d : Caller) → CallerLends handle c (Err NoCall) d → may_lend c ≡ false
lends_refused handle Nobody d h = refl
lends_refused handle (Host call) d h = refl
lends_refused handle (Guest called) d h = no_lends (is_over called.subtask.state) h.0

pub lent_gives : (handle : ℕ) (old new : TaskSlot) (result : Result (Unit {0}) LendError) → LendGives handle old result new → LentGives handle old result new
lent_gives handle old new (Ok done) h =
    let kept = lends_kept handle old.caller new.caller done h.0 in
    (kept.0, h.1 ∙ ap (λ (c : Caller). with_caller c old) kept.1)
lent_gives handle old new (Err NoCall) h = lends_refused handle old.caller new.caller h.0
lent_gives handle old new (Err Memory) h = tt
