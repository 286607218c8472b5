-- A task that is made is open, and watched, and awake.
use Rattle.std.proofs.Common.{◌≡◌, ℕ, zero, suc, ◌+◌, true, List, [], ◌∷◌, ◌++◌, length, refl, sym, ap, ◌∙◌, arith, None}
use Rattle.task_table.specs.declared.slot.TaskSlot.{TaskSlot}
use Rattle.task_table.specs.Tasks.{with_number, Watched, watching}
use Rattle.world_parts.specs.Held.{Held}
use Rattle.world_parts.specs.Slots.{task_made}
use Rattle.run_laws.specs.TaskLists.{numbers_in, is_open, is_watched, is_awake, OpensMarked, call_of, called_at}
use Rattle.run_laws.proofs.lists.Numbers.{numbers_more}
use Rattle.run_laws.proofs.lists.Same.{ListsBy}

pub opens_more : (live : List ℕ) (watched : Watched) (tasks : List TaskSlot) (slot : TaskSlot) → is_open slot ≡ true → is_watched slot ≡ true → is_awake slot ≡ true
    → OpensMarked live watched tasks → OpensMarked (with_number (length tasks) live) (watching (length tasks) watched) (tasks ++ slot ∷ [])
opens_more live watched tasks slot opens watches wakes marked =
    let same : 0 + length tasks ≡ length tasks = omega arith in
    record {
      open_ones = ap (λ (xs : List ℕ). with_number (length tasks) xs) marked.open_ones ∙ ap (λ (n : ℕ). with_number n (numbers_in is_open tasks)) (sym same)
          ∙ sym (numbers_more is_open 0 tasks slot opens);
      watched_ones = ap (λ (xs : List ℕ). with_number (length tasks) xs) marked.watched_ones ∙ ap (λ (n : ℕ). with_number n (numbers_in is_watched tasks)) (sym same)
          ∙ sym (numbers_more is_watched 0 tasks slot watches);
      awake_ones = ap (λ (xs : List ℕ). with_number (length tasks) xs) marked.awake_ones ∙ ap (λ (n : ℕ). with_number n (numbers_in is_awake tasks)) (sym same)
          ∙ sym (numbers_more is_awake 0 tasks slot wakes);
    }

-- A task that is none of the script's calls.
calls_more : (tasks : List TaskSlot) (slot : TaskSlot) (n : ℕ) → call_of slot.caller ≡ None → called_at (tasks ++ slot ∷ []) n ≡ called_at tasks n
calls_more [] slot zero none = none
calls_more [] slot (suc n) none = refl
calls_more (x ∷ tasks) slot zero none = refl
calls_more (x ∷ tasks) slot (suc n) none = calls_more tasks slot n none

pub made_lists : (slot : TaskSlot) (h : Held) → is_open slot ≡ true → is_watched slot ≡ true → is_awake slot ≡ true → call_of slot.caller ≡ None
    → ListsBy h (task_made slot h)
made_lists slot h opens watches wakes call s l = record {
  opens = opens_more h.live h.watched h.tasks slot opens watches wakes l.opens;
  calls = record {
    made = λ number n at. calls_more h.tasks slot n call ∙ l.calls.made number n at;
    kept = λ number n at. l.calls.kept number n (sym (calls_more h.tasks slot n call) ∙ at);
  };
  taken = l.taken;
}
