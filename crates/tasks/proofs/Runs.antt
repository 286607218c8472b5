-- Whole runs of a task: how often it is resolved, and its borrow handles.
use Rattle.std.proofs.Common.{◌≡◌, ℕ, ◌-◌, ◌^◌, ◌≤◌, sym, ap, refl, ◌∙◌, arith, Bool, true, false, ◌&&◌, ◌||◌, nat_lt, if◌then◌else◌, is_some, is_none, List, [], ◌∷◌, ◌++◌, Option, Some, None}
use Rattle.std.proofs.lemmas.List.{append-nil, append_assoc}
use Rattle.std.proofs.lemmas.Bool.{and_parts, both_ways, ltb-false}
use Rattle.std.specs.Option.{option_to_list}
use Rattle.entry_gate.specs.declared.kind.Kind.{Kind}
use Rattle.tasks.specs.declared.event.TaskEvent.{TaskEvent}
use Rattle.tasks.specs.declared.event.TaskEvent.TheVariants.{Enter, Block, Go, AskReturn, Return, Cancel, Borrow, Unborrow, ToldCancel, Exit}
use Rattle.tasks.specs.declared.event.TaskTrap.{TaskTrap}
use Rattle.tasks.specs.declared.event.Asked.{Asked}
use Rattle.tasks.specs.declared.event.Asked.TheVariants.{Removed, ResumeNow, Pending}
use Rattle.tasks.specs.declared.phase.Caller.{Caller}
use Rattle.tasks.specs.declared.phase.Phase.{Phase}
use Rattle.tasks.specs.declared.phase.Phase.TheVariants.{New, Acting, Blocked, Exited}
use Rattle.tasks.specs.declared.phase.Resolution.{Resolution}
use Rattle.tasks.specs.declared.phase.Resolution.TheVariants.{Cancelled}
use Rattle.tasks.specs.Views.{TaskView}
use Rattle.tasks.specs.Tasks.{is_new, is_acting, is_entry, waits_to_enter, is_unasked, new_task, may_happen, may_cancel, fault, after, unless, advanced, is_cancellable, phase_case, cancel_case, cancelled, resolving_fault}
use Rattle.tasks.specs.History.{resolves}
use Rattle.tasks.specs.Runs.{Act, Event, AskToCancel, happens, run, unless_refused, removal, resolved_by, resolved_in}
use Rattle.tasks.proofs.Standing.{once_resolved, no_borrow, cancel_resolving}

-- ---- resolutions
abbrev Grows : TaskView → Option Resolution → TaskView → Type 0
Grows t r later = option_to_list t.resolution ++ option_to_list r ≡ option_to_list later.resolution

grows_if : (b : Bool) (t later : TaskView) (r : Option Resolution) → (b ≡ true → Grows t r later) → Grows t (if b then r else None) (if b then later else t)
grows_if true t later r f = f refl
grows_if false t later r f = append-nil (option_to_list t.resolution)

grows_unless : (o : Option TaskTrap) (e : TaskEvent) (t : TaskView) → fault e t ≡ o → Grows t (unless_refused o (resolves e)) (unless o (after e t) t)
grows_unless None e t h = once_resolved e t h
grows_unless (Some trap) e t h = append-nil (option_to_list t.resolution)

none_is : (r : Option Resolution) → is_none r ≡ true → r ≡ None
none_is None h = refl
none_is (Some r) h = cc

grows_asked : (case : Asked) (t : TaskView) → may_cancel t ≡ true → Grows t (removal case) (cancelled case t)
grows_asked Removed t may = ap (λ (r : Option Resolution). option_to_list r ++ Cancelled ∷ []) (none_is t.resolution (and_parts (is_none t.resolution) (is_unasked t.cancellation) may).0)
grows_asked ResumeNow t may = append-nil (option_to_list t.resolution)
grows_asked Pending t may = append-nil (option_to_list t.resolution)

grows : (t : TaskView) (act : Act) → Grows t (resolved_by t act) (happens t act)
grows t (Event e) = grows_if (may_happen e t) t (advanced e t) (unless_refused (fault e t) (resolves e)) (λ _. grows_unless (fault e t) e t refl)
grows t (AskToCancel free) = grows_if (may_cancel t) t (cancelled (cancel_case free t) t) (removal (cancel_case free t)) (grows_asked (cancel_case free t) t)

resolved_run : (acts : List Act) (t : TaskView) → option_to_list t.resolution ++ resolved_in acts t ≡ option_to_list (run acts t).resolution
resolved_run [] t = append-nil (option_to_list t.resolution)
resolved_run (act ∷ acts) t =
    sym (append_assoc (option_to_list t.resolution) (option_to_list (resolved_by t act)) (resolved_in acts (happens t act)))
    ∙ ap (λ (rs : List Resolution). rs ++ resolved_in acts (happens t act)) (grows t act)
    ∙ resolved_run acts (happens t act)

pub at_most_once : (kind : Kind) (caller : Caller) (acts : List Act) → resolved_in acts (new_task kind caller) ≡ option_to_list (run acts (new_task kind caller)).resolution
at_most_once kind caller acts = resolved_run acts (new_task kind caller)

-- ---- borrow handles
abbrev is_early : Phase → Bool
is_early phase = is_new phase || waits_to_enter phase

-- A task that hasn't entered has no borrow handle, and neither has one that is resolved.
record Sound (t : TaskView) : Type 0 where
  early : is_early t.phase ≡ true → t.borrows ≡ 0
  over : is_some t.resolution ≡ true → t.borrows ≡ 0

new_sound : (kind : Kind) (caller : Caller) → Sound (new_task kind caller)
new_sound kind caller = record { early = λ _. refl; over = λ _. refl }

acting_late : (phase : Phase) → is_acting phase ≡ true → is_early phase ≡ false
acting_late New h = cc
acting_late Acting h = refl
acting_late (Blocked why flag) h = cc
acting_late Exited h = cc

new_early : (phase : Phase) → is_new phase ≡ true → is_early phase ≡ true
new_early New h = refl
new_early Acting h = cc
new_early (Blocked why flag) h = cc
new_early Exited h = cc

no_borrows : (t : TaskView) → resolving_fault t ≡ None → t.borrows ≡ 0
no_borrows t h = let none : t.borrows ≤ 0 = ltb-false 0 t.borrows (no_borrow t h) in omega arith

-- at its entry only a new task blocks
block_early : (b : Bool) (t : TaskView) → (if b then is_new t.phase else is_acting t.phase) ≡ true → Sound t → b ≡ true → t.borrows ≡ 0
block_early true t may s e = s.early (new_early t.phase may)
block_early false t may s e = cc

acts_now : (t : TaskView) (b : Bool) → (is_acting t.phase && b) ≡ true → is_early t.phase ≡ true → ⊥
acts_now t b may early = both_ways (is_early t.phase) (acting_late t.phase (and_parts (is_acting t.phase) b may).0) early

none_some : (r : Option Resolution) → is_none r ≡ true → is_some r ≡ true → ⊥
none_some None h k = both_ways false refl k
none_some (Some r) h k = both_ways false refl h

falls : (n : ℕ) → n ≡ 0 → n - 1 ≡ 0
falls n h = omega arith

after_sound : (e : TaskEvent) (t : TaskView) → may_happen e t ≡ true → fault e t ≡ None → Sound t → Sound (after e t)
after_sound Enter t may ok s = record { early = λ h. absurd (both_ways false refl h); over = s.over }
after_sound (Block why flag) t may ok s = record { early = block_early (is_entry why) t may s; over = s.over }
after_sound Go t may ok s = record { early = λ h. absurd (both_ways false refl h); over = s.over }
after_sound AskReturn t may ok s = s
after_sound Return t may ok s = record { early = s.early; over = λ _. no_borrows t ok }
after_sound Cancel t may ok s = record { early = s.early; over = λ _. no_borrows t (cancel_resolving t ok) }
after_sound Borrow t may ok s = record {
  early = λ h. absurd (acts_now t (is_none t.resolution && nat_lt t.borrows (2 ^ 64 - 1)) may h);
  over = λ h. absurd (none_some t.resolution (and_parts (is_none t.resolution) (nat_lt t.borrows (2 ^ 64 - 1)) (and_parts (is_acting t.phase) (is_none t.resolution && nat_lt t.borrows (2 ^ 64 - 1)) may).1).0 h);
}
after_sound Unborrow t may ok s = record { early = λ h. falls t.borrows (s.early h); over = λ h. falls t.borrows (s.over h) }
after_sound ToldCancel t may ok s = record { early = s.early; over = s.over }
after_sound Exit t may ok s = record { early = λ h. absurd (both_ways false refl h); over = s.over }

sound_if : (b : Bool) (t later : TaskView) → (b ≡ true → Sound later) → Sound t → Sound (if b then later else t)
sound_if true t later f s = f refl
sound_if false t later f s = s

sound_unless : (o : Option TaskTrap) (e : TaskEvent) (t : TaskView) → fault e t ≡ o → may_happen e t ≡ true → Sound t → Sound (unless o (after e t) t)
sound_unless None e t h may s = after_sound e t may h s
sound_unless (Some trap) e t h may s = s

-- Only a task that waits to enter is removed.
removed_if : (entry ends : Bool) → (if entry then Removed else (if ends then ResumeNow else Pending)) ≡ Removed → entry ≡ true
removed_if true ends h = refl
removed_if false true h = cc
removed_if false false h = cc

removed_early : (free : Bool) (kind : Kind) (phase : Phase) → phase_case free kind phase ≡ Removed → is_early phase ≡ true
removed_early free kind New h = cc
removed_early free kind Acting h = cc
removed_early free kind (Blocked why flag) h = removed_if (is_entry why) (is_cancellable free kind why flag) h
removed_early free kind Exited h = cc

asked_sound : (case : Asked) (t : TaskView) → (case ≡ Removed → is_early t.phase ≡ true) → Sound t → Sound (cancelled case t)
asked_sound Removed t f s = record { early = λ h. absurd (both_ways false refl h); over = λ _. s.early (f refl) }
asked_sound ResumeNow t f s = record { early = s.early; over = s.over }
asked_sound Pending t f s = record { early = s.early; over = s.over }

happens_sound : (t : TaskView) (act : Act) → Sound t → Sound (happens t act)
happens_sound t (Event e) s = sound_if (may_happen e t) t (advanced e t) (λ may. sound_unless (fault e t) e t refl may s) s
happens_sound t (AskToCancel free) s = sound_if (may_cancel t) t (cancelled (cancel_case free t) t) (λ _. asked_sound (cancel_case free t) t (removed_early free t.kind t.phase) s) s

run_sound : (acts : List Act) (t : TaskView) → Sound t → Sound (run acts t)
run_sound [] t s = s
run_sound (act ∷ acts) t s = run_sound acts (happens t act) (happens_sound t act s)

pub no_borrow_once_resolved : (kind : Kind) (caller : Caller) (acts : List Act) → is_some (run acts (new_task kind caller)).resolution ≡ true → (run acts (new_task kind caller)).borrows ≡ 0
no_borrow_once_resolved kind caller acts h = (run_sound acts (new_task kind caller) (new_sound kind caller)).over h
