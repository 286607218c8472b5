-- One caller further.
use Rattle.std.proofs.Common.{◌≡◌, ◌<◌, ◌+◌, ◌-◌, ℕ, suc, nat_eq, false, true, Bool, ◌||◌, ap, arith, ◌∙◌, List, Option, Some}
use Rattle.std.proofs.lemmas.Bool.Decides.{nat_tests}
use Rattle.std.specs.List.{slice_get}
use Rattle.task_table.specs.declared.slot.TaskSlot.{TaskSlot}
use Rattle.task_table.specs.Tasks.{by_of, is_of_slot, is_among_callers}

not_eq : (a b : ℕ) → (a ≡ b → ⊥) → nat_eq a b ≡ false
not_eq a b h = grind (arith, nat_tests)

pub further : (n i inst t : ℕ) (slots : List TaskSlot) (slot : TaskSlot) → i < n → slice_get slots t ≡ Some slot → (slot.instance ≡ inst → ⊥)
    → is_among_callers (n - i) inst (Some t) slots ≡ is_among_callers (n - (i + 1)) inst (by_of slot.caller) slots
further n i inst t slots slot h there other =
    let no : nat_eq slot.instance inst ≡ false = not_eq slot.instance inst other in
    let more : n - i ≡ suc (n - (i + 1)) = omega (arith, h) in
    ap (λ m. is_among_callers m inst (Some t) slots) more
    ∙ ap (λ (o : Option TaskSlot). is_of_slot (λ o. is_among_callers (n - (i + 1)) inst o slots) inst o) there
    ∙ ap (λ (b : Bool). b || is_among_callers (n - (i + 1)) inst (by_of slot.caller) slots) no
