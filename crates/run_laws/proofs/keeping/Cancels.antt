-- Control that is back at a task that cancelled a subtask keeps all marks.
use Rattle.std.proofs.Common.{◌≡◌, inl, inr, ℕ, Bool, true, false, if◌then◌else◌, List, [], ◌∷◌, slice_set, refl, sym, ap, ◌∙◌, subst, Some}
use Rattle.std.specs.Prelude.{◌-◌, length}
use Rattle.std.specs.List.{slice_get}
use Rattle.std.proofs.lemmas.Bool.{cases_eq, ne_eqb}
use Rattle.std.proofs.lemmas.Bool.Decides.{Decides-eqb}
use Rattle.tasks.specs.declared.event.BlockedAt.TheVariants as blocked_at
use Rattle.tasks.specs.declared.event.TaskEvent.TheVariants as event
use Rattle.tasks.specs.Tasks as tasks
use Rattle.tasks.specs.Tasks.{is_acting, state_of}
use Rattle.tasks.specs.Subtasks.{is_over}
use Rattle.instances.specs.declared.entry.WorldEntry.TheVariants as entry
use Rattle.instances.specs.Instances.{InstanceView, entry_of}
use Rattle.task_table.specs.declared.errand.Errand.{Errand}
use Rattle.task_table.specs.declared.errand.Errand.TheVariants as errand
use Rattle.task_table.specs.declared.slot.TaskSlot.{TaskSlot}
use Rattle.task_table.specs.Callers.{may_keep}
use Rattle.task_table.specs.Slots as slots
use Rattle.task_table.specs.Slots.{event_answer, advanced_slot, at_errand, awaited_slot}
use Rattle.trace_labels.specs.declared.label.BlockReason.TheVariants as reason
use Rattle.trace_labels.specs.declared.label.Label.TheVariants as line
use Rattle.world_parts.specs.Views.{Views}
use Rattle.world_parts.specs.Held.{Held, Gives, Stuck, after}
use Rattle.world_parts.specs.Feed.{told, left_chain, got}
use Rattle.world_parts.specs.Slots.{with_task, instance_of, errand_of, happened, resolved, awaited}
use Rattle.world_parts.specs.Calls.{blocked_word, blocked, blocked_in, subtask_told, cancel_resolved, cancel_open, back_from_cancel, back_by, back}
use Rattle.abi_machine.proofs.sound.Found.{some_same}
use Rattle.standing.specs.KeptMarks.{runs_at, awaited_at}
use Rattle.standing.proofs.Agreeing.{get_set}
use Rattle.standing.proofs.States.{states_stay, blocked_stays}
use Rattle.standing.proofs.marks.Calls.{back_from_cancel_stays}
use Rattle.run_laws.specs.keeping.Kept.{KeepsMarks, CalledFrom, ToldGaveBack}
use Rattle.run_laws.specs.keeping.Cancels.{StandsOnce, CancelsThere, CancelBackKeepsMarks, BackWell, ControlBackKeepsMarks}
use Rattle.run_laws.proofs.keeping.Others.{Keeps, KeptBy, keeps_after, keeps_if, keeps_through, look_keeps, tested_keeps, never_traps}
use Rattle.run_laws.proofs.keeping.Every.{all_by, look_every, at_every}
use Rattle.run_laws.proofs.keeping.Sums.{set_either, any_there}
use Rattle.run_laws.proofs.keeping.Changes.{task_keeps, waits_there, waits_not, waits_now, waits_elsewhere, waits_same, awaited_as}
use Rattle.run_laws.proofs.keeping.Alike.{same_task, acting_waits_not, acted_keeps}
use Rattle.run_laws.proofs.keeping.Told.{runs_not, subtask_told_keeps}
use Rattle.run_laws.proofs.keeping.Carried.{from_task, gave_task}
use Rattle.run_laws.proofs.keeping.Back.{back_from_call_marks}
use Rattle.run_laws.proofs.keeping.Awaiting.{MarkedBut, marked_but, but_task, but_itself, IsSaid, said_now, said_still, but_none}
use Rattle.run_laws.proofs.keeping.parts.Feed.{got_keeps, left_chain_keeps, told_keeps}

-- A task that acts blocks until the cancelled subtask at an index has resolved.
at_cancel : ℕ → Bool → TaskSlot → TaskSlot
at_cancel index flag x = slots.with_task (tasks.after (event.Block (blocked_at.Cancel index) flag) x.task) x

-- It waits for no other subtask.
waits_for_one : (h : Held) (at index callee : ℕ) (flag : Bool) (z : TaskSlot) → StandsOnce h at index callee → runs_at at z ≡ true → is_acting z.task.phase ≡ true
    → (n m other : ℕ) (i : InstanceView) → (other ≡ callee → ⊥) → slice_get h.instances n ≡ Some i → entry_of i m ≡ Some (entry.Subtask other)
    → waits_there n m (at_cancel index flag z) ≡ waits_there n m z
unfolding at_cancel
waits_for_one h at index callee flag z stands runs acts n m other i apart here stood =
    let w : TaskSlot = slots.with_task (tasks.after (event.Block (blocked_at.Cancel index) flag) z.task) z in
    elim (cases_eq n at) [
      | inl e ↦ elim (cases_eq m index) [
        | inl f ↦
            let now : entry_of i index ≡ Some (entry.Subtask callee) = stands.there i (ap (λ (k : ℕ). slice_get h.instances k) (sym e) ∙ here) in
            let both : entry.Subtask other ≡ entry.Subtask callee = some_same (sym stood ∙ ap (λ (k : ℕ). entry_of i k) f ∙ now) in
            absurd (apart (subtask_same both))
        | inr f ↦ waits_not n m w (ne_eqb index m (λ g. f (sym g))) ∙ sym (waits_not n m z (acting_waits_not m z.task.phase acts))
      ]
      | inr other ↦ waits_elsewhere n m w (runs_not at n z runs other) ∙ sym (waits_elsewhere n m z (runs_not at n z runs other))
    ]
  where
    subtask_same : {a b : ℕ} → entry.Subtask a ≡ entry.Subtask b → a ≡ b
    subtask_same e = cc

-- The subtask is waited for, and the task blocks.
comes_to_wait : (h : Held) (t at callee canon index : ℕ) (flag : Bool) (x y : TaskSlot) → slice_get h.tasks callee ≡ Some x → StandsOnce h at index callee
    → slice_get (slice_set h.tasks callee (awaited_slot true x)) t ≡ Some y → runs_at at y ≡ true → is_acting y.task.phase ≡ true
    → Keeps h (with_task t (at_cancel index flag (at_errand (errand.InBuiltin canon) y)) (with_task t (at_errand (errand.InBuiltin canon) y) (with_task callee (awaited_slot true x) h)))
unfolding at_cancel
comes_to_wait h t at callee canon index flag x y is stands found runs acts marks =
    let a : List TaskSlot = slice_set h.tasks callee (awaited_slot true x) in
    let z : TaskSlot = at_errand (errand.InBuiltin canon) y in
    let b : List TaskSlot = slice_set a t z in
    let w : TaskSlot = slots.with_task (tasks.after (event.Block (blocked_at.Cancel index) flag) z.task) z in
    let there : slice_get b t ≡ Some z = get_set a t y z found in
    let first : MarkedBut callee h.instances a = but_itself callee h.instances h.tasks true x is (marked_but callee h.instances h.tasks marks) in
    let second : MarkedBut callee h.instances b
    = but_task callee h.instances a t y z found (λ n. refl) refl refl (λ m. m) (λ n m other i apart here stood. waits_same n m y z refl refl) first in
    let third : MarkedBut callee h.instances (slice_set b t w)
    = but_task callee h.instances b t z w there (λ n. refl) refl refl (states_stay t z (tasks.after (event.Block (blocked_at.Cancel index) flag) z.task) (blocked_stays z.task (blocked_at.Cancel index) flag acts refl))
    (waits_for_one h at index callee flag z stands runs acts) second in
    let said : IsSaid true (slice_set b t w) callee
    = said_still true b callee t z w there refl (said_still true a callee t y z found refl (said_now true h.tasks callee x is)) in
    let waits : awaited_at (slice_set b t w) at index ≡ true
    = awaited_as (slice_set b t w) at index
    ∙ any_there (waits_there at index) (slice_set b t w) t w (get_set b t z w there) (waits_now at index w runs ((Decides-eqb index index).1 refl)) in
    but_none true callee at index h.instances (slice_set b t w) stands.only said waits third

-- The task runs where it ran.
runs_still : (h : Held) (t at callee : ℕ) (b : Bool) (x y : TaskSlot) → slice_get h.tasks callee ≡ Some x → ((slot : TaskSlot) → slice_get h.tasks t ≡ Some slot → runs_at at slot ≡ true)
    → slice_get (slice_set h.tasks callee (awaited_slot b x)) t ≡ Some y → runs_at at y ≡ true
runs_still h t at callee b x y is runs found =
    elim (set_either h.tasks callee (awaited_slot b x) t y found) [
      | inl new ↦ ap (runs_at at) new.1 ∙ runs x (ap (λ (k : ℕ). slice_get h.tasks k) new.0 ∙ is)
      | inr old ↦ runs y old
    ]

waits_keeps : (t at callee canon index : ℕ) (flag : Bool) (h : Held) → ((slot : TaskSlot) → slice_get h.tasks t ≡ Some slot → runs_at at slot ≡ true) → StandsOnce h at index callee
    → KeptBy h (after (awaited callee true h) (λ done k. blocked_in t canon flag (blocked_at.Cancel index) (reason.Cancel index) k))
unfolding blocked_in blocked at_cancel
waits_keeps t at callee canon index flag h runs stands =
    look_keeps h (slice_get h.tasks callee) (λ x. if may_keep x.caller then Gives (tt {0}) (with_task callee (awaited_slot true x) h) else Stuck)
    (λ done k. blocked_in t canon flag (blocked_at.Cancel index) (reason.Cancel index) k)
    (λ x is.
    let k : Held = with_task callee (awaited_slot true x) h in
    tested_keeps h (may_keep x.caller) (Gives (tt {0}) k) (λ done k. blocked_in t canon flag (blocked_at.Cancel index) (reason.Cancel index) k)
    (λ may.
    look_keeps h (slice_get k.tasks t) (λ y. Gives (tt {0}) (with_task t (at_errand (errand.InBuiltin canon) y) k)) (λ done l. blocked t (blocked_at.Cancel index) flag (reason.Cancel index) l)
    (λ y found.
    let z : TaskSlot = at_errand (errand.InBuiltin canon) y in
    let l : Held = with_task t z k in
    look_keeps h (slice_get l.tasks t)
    (λ v. happened (event_answer (event.Block (blocked_at.Cancel index) flag) v.task) t (advanced_slot (event.Block (blocked_at.Cancel index) flag) v) l)
    (λ done m. after (told (line.Block t (reason.Cancel index)) m) (λ done n. left_chain n))
    (λ v there.
    let same : v ≡ z = some_same (sym there ∙ get_set k.tasks t y z found) in
    acted_keeps h l t (event.Block (blocked_at.Cancel index) flag) v (λ done m. after (told (line.Block t (reason.Cancel index)) m) (λ done n. left_chain n)) (never_traps h l t v)
    (λ acts none.
    let m : Held = with_task t (at_cancel index flag v) l in
    keeps_through h m (after (told (line.Block t (reason.Cancel index)) m) (λ done n. left_chain n))
    (subst (λ (u : TaskSlot). Keeps h (with_task t (at_cancel index flag u) l)) (sym same)
    (comes_to_wait h t at callee canon index flag x y is stands found (runs_still h t at callee true x y is runs found) (ap (λ (u : TaskSlot). is_acting u.task.phase) (sym same) ∙ acts)))
    (keeps_after m (told (line.Block t (reason.Cancel index)) m) (λ done n. left_chain n) (told_keeps (line.Block t (reason.Cancel index)) m) (λ done n. left_chain_keeps n)))))))

resolved_or_not : (g : Views) (t at callee canon index : ℕ) (x : TaskSlot) (h : Held) (b : Bool) → slice_get h.tasks callee ≡ Some x → is_over (state_of x.task) ≡ b → CalledFrom h at callee
    → ToldGaveBack h → CancelsThere h t at callee index → KeptBy h (if b then cancel_resolved t at callee h else cancel_open g t callee canon index h)
unfolding cancel_resolved cancel_open
resolved_or_not g t at callee canon index x h true is e from gave cancels =
    keeps_after h (subtask_told at callee h) (λ payload k. got t (payload ∷ []) k) (subtask_told_keeps at callee h from gave) (λ payload k. got_keeps t (payload ∷ []) k)
resolved_or_not g t at callee canon index x h false is e from gave cancels =
    keeps_if h (g.flag canon) (got t (blocked_word ∷ []) h)
    (after (awaited callee true h) (λ done k. blocked_in t canon (g.flag canon) (blocked_at.Cancel index) (reason.Cancel index) k)) (got_keeps t (blocked_word ∷ []) h)
    (waits_keeps t at callee canon index (g.flag canon) h cancels.runs (cancels.stands x is e))

-- What is asked of the task that cancels stays where it is at another errand.
cancels_still : (h : Held) (t at callee index : ℕ) (x : TaskSlot) → slice_get h.tasks t ≡ Some x → CancelsThere h t at callee index
    → CancelsThere (with_task t (at_errand errand.None x) h) t at callee index
cancels_still h t at callee index x is cancels =
    let y : TaskSlot = at_errand errand.None x in
    record {
      runs = λ slot found.
          elim (set_either h.tasks t y t slot found) [
            | inl new ↦ ap (runs_at at) new.1 ∙ cancels.runs x is
            | inr old ↦ cancels.runs slot old
          ];
      stands = λ slot found still.
          let once : StandsOnce h at index callee
          = elim (set_either h.tasks t y callee slot found) [
            | inl new ↦ cancels.stands x (ap (λ (k : ℕ). slice_get h.tasks k) new.0 ∙ is) (ap (λ (s : TaskSlot). is_over (state_of s.task)) (sym new.1) ∙ still)
            | inr old ↦ cancels.stands slot old still
          ] in
          record { there = once.there; only = once.only };
    }

back_from_cancel_keeps : (g : Views) (t at callee canon index : ℕ) (h : Held) → CalledFrom h at callee → ToldGaveBack h → CancelsThere h t at callee index
    → KeptBy h (back_from_cancel g t at callee canon index h)
unfolding back_from_cancel
back_from_cancel_keeps g t at callee canon index h from gave cancels =
    look_keeps h (slice_get h.tasks t) (λ x. Gives (tt {0}) (with_task t (at_errand errand.None x) h))
    (λ done k. after (resolved callee k) (λ is_over l. if is_over then cancel_resolved t at callee l else cancel_open g t callee canon index l))
    (λ x is.
    let y : TaskSlot = at_errand errand.None x in
    let k : Held = with_task t y h in
    keeps_through h k (after (resolved callee k) (λ is_over l. if is_over then cancel_resolved t at callee l else cancel_open g t callee canon index l))
    (task_keeps h t x y is (same_task x y refl refl refl refl refl) (λ m. m))
    (look_keeps k (slice_get k.tasks callee) (λ z. Gives (is_over (state_of z.task)) k)
    (λ is_over l. if is_over then cancel_resolved t at callee l else cancel_open g t callee canon index l)
    (λ z there.
    resolved_or_not g t at callee canon index z k (is_over (state_of z.task)) there refl (from_task h t at callee x y is refl refl from) (gave_task h t x y is refl gave)
    (cancels_still h t at callee index x is cancels))))

pub cancel_back_marks : CancelBackKeepsMarks
cancel_back_marks g t at callee canon index h from gave cancels =
    all_by h (back_from_cancel g t at callee canon index h) (back_from_cancel_stays g t at callee canon index h) (back_from_cancel_keeps g t at callee canon index h from gave cancels)

-- Control is back, whatever the acting task is at.
by_errand : (g : Views) (t : ℕ) (x : TaskSlot) (e : Errand) (h : Held) → BackWell h t x e → KeepsMarks h (back_by g t x.instance e h)
by_errand g t x errand.None h well = tt
by_errand g t x (errand.AfterCall callee canon) h well = back_from_call_marks g t x.instance callee canon h well.0 well.1 well.2 well.3 well.4
by_errand g t x (errand.AfterCancel callee canon index) h well = cancel_back_marks g t x.instance callee canon index h well.0 well.1 well.2
by_errand g t x (errand.Begins n) h well = tt
by_errand g t x (errand.InBuiltin canon) h well = tt

pub control_back_marks : ControlBackKeepsMarks
unfolding back
control_back_marks g h well =
    look_every h (slice_get h.chain (length h.chain - 1)) (λ t. Gives t h) (λ t k. after (instance_of t k) (λ at l. after (errand_of t l) (λ e m. back_by g t at e m)))
    (λ t acts.
    look_every h (slice_get h.tasks t) (λ x. Gives x.instance h) (λ at l. after (errand_of t l) (λ e m. back_by g t at e m))
    (λ x is.
    at_every h (slice_get h.tasks t) x (λ y. Gives y.errand h) (λ e m. back_by g t x.instance e m) is (by_errand g t x x.errand h (well t x acts is))))
