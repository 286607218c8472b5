-- Parts of a step keep the lists of tasks.
use Rattle.std.proofs.Common.{◌≡◌, ℕ, zero, suc, [], ◌∷◌, refl, sym, ◌∙◌, Some, None}
use Rattle.replies.specs.Seen.{seen}
use Rattle.world_parts.specs.declared.parts.Flow.TheVariants as flow
use Rattle.world_parts.specs.declared.parts.Rest.TheVariants as rest
use Rattle.world_parts.specs.Held.{Gives, after}
use Rattle.world_parts.specs.Events.{delivers, polls, received_none, received_cancel}
use Rattle.world_parts.specs.Calls.{back}
use Rattle.world_parts.specs.Going.{arrives, enters, ending, leaves, loops, resumes}
use Rattle.world_parts.specs.Plain.{returned}
use Rattle.world_parts.specs.Turning.{gone, goes}
use Rattle.world_parts.specs.Channels.{numbered}
use Rattle.machine_runs.specs.Beginning.{first_slot}
use Rattle.machine_runs.specs.Calling.{calls, canon_answered}
use Rattle.run_laws.specs.TaskLists.{called_at}
use Rattle.run_laws.specs.keeping.Lists.{AnswersKeepLists, MovesKeepLists, EnteringKeepsLists, EndingKeepsLists, EventsKeepLists, TurnsKeepLists, FirstHasLists}
use Rattle.run_laws.proofs.lists.Calling.{calls_lists, canon_answered_lists}
use Rattle.run_laws.proofs.lists.Calls.{back_lists}
use Rattle.run_laws.proofs.lists.Entering.{arrives_lists, enters_lists, leaves_lists}
use Rattle.run_laws.proofs.lists.Events.{delivers_lists, polls_lists, received_cancel_lists, received_none_lists}
use Rattle.run_laws.proofs.lists.Going.{ending_lists, loops_lists, resumes_lists}
use Rattle.run_laws.proofs.lists.Plain.{returned_lists}
use Rattle.run_laws.proofs.lists.Same.{lists_after, lists_same}
use Rattle.run_laws.proofs.lists.Script.{numbered_suc, of_script, gone_lists, goes_lists}

pub answers_keep_lists : AnswersKeepLists
answers_keep_lists s g types t number c words h = of_script s h (canon_answered g types t number c words h) (canon_answered_lists g types t number c words h)

pub moves_keep_lists : MovesKeepLists
moves_keep_lists s g types (rest.Instantiates number) h = tt
moves_keep_lists s g types rest.Free h = tt
moves_keep_lists s g types rest.Arrives h = of_script s h (arrives h) (arrives_lists h)
moves_keep_lists s g types rest.Goes h =
    of_script s h (after (goes h) (λ done k. Gives flow.Rests k)) (lists_after h (goes h) (λ done k. Gives flow.Rests k) (goes_lists h) (λ done k. lists_same k))
moves_keep_lists s g types rest.Resumes h = of_script s h (resumes h) (resumes_lists h)
moves_keep_lists s g types rest.Back h = of_script s h (back (seen g) h) (back_lists (seen g) h)
moves_keep_lists s g types rest.Runs h = tt
moves_keep_lists s g types (rest.Calls number) h = of_script s h (calls g types number h) (calls_lists g types number h)
moves_keep_lists s g types rest.Leaves h = of_script s h (leaves h) (leaves_lists h)

pub entering_keeps_lists : EnteringKeepsLists
entering_keeps_lists s t h = of_script s h (enters t h) (enters_lists t h)

pub ending_keeps_lists : EndingKeepsLists
ending_keeps_lists s t word value h = (
  of_script s h (ending t h) (ending_lists t h),
  of_script s h (loops t word h) (loops_lists t word h),
  of_script s h (returned t value h) (returned_lists t value h),
)

pub events_keep_lists : EventsKeepLists
events_keep_lists s g t at r set h = (
  of_script s h (delivers g t at r set h) (delivers_lists g t at r set h),
  of_script s h (polls g t at r set h) (polls_lists g t at r set h),
  of_script s h (received_none g t r h) (received_none_lists g t r h),
  of_script s h (received_cancel g t r h) (received_cancel_lists g t r h),
)

pub turns_keep_lists : TurnsKeepLists
turns_keep_lists s t h = of_script s h (gone t h) (gone_lists t h)

-- Before a graph is instantiated task 0 alone is there.
first_made : (call t : ℕ) → numbered {A = ℕ} [] call ≡ Some t → called_at (first_slot ∷ []) t ≡ Some call
first_made zero t e = absurd (cc)
first_made (suc place) t e = absurd (let none : numbered {A = ℕ} [] (suc place) ≡ None = numbered_suc [] place in let both : None ≡ Some t = sym none ∙ e in let no : ⊥ = cc in no)

first_kept : (call t : ℕ) → called_at (first_slot ∷ []) t ≡ Some call → numbered {A = ℕ} [] call ≡ Some t
first_kept call zero e = absurd (cc)
first_kept call (suc t) e = absurd (cc)

pub first_has_lists : FirstHasLists
first_has_lists g s = record {
  opens = record { open_ones = refl; watched_ones = refl; awake_ones = refl };
  calls = record { made = first_made; kept = first_kept };
  taken = refl;
}
