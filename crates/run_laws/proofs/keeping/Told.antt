-- The caller of a task is told the task's state: once it has resolved, what was lent for the call is given back. It keeps these marks.
use Rattle.std.proofs.Common.{◌≡◌, inl, inr, ℕ, ◌+◌, nat_eq, nat_lt, Bool, true, false, ◌&&◌, not, if◌then◌else◌, List, [], slice_set, refl, sym, ap, ◌∙◌, subst, arith, Option, Some, None}
use Rattle.std.specs.List.{slice_get, count_by}
use Rattle.std.proofs.lemmas.Bool.{cases_eq, ne_eqb}
use Rattle.std.proofs.lemmas.Bool.Decides.{Decides-eqb}
use Rattle.tasks.specs.declared.subtask_state.SubtaskState.{SubtaskState}
use Rattle.tasks.specs.declared.subtask_state.SubtaskState.TheVariants as state
use Rattle.tasks.specs.Tasks.{state_of}
use Rattle.tasks.specs.Subtasks.{code_of, is_over, has_event, delivered}
use Rattle.task_table.specs.declared.caller.Called.{Called}
use Rattle.task_table.specs.declared.caller.Caller.{Caller}
use Rattle.task_table.specs.declared.caller.Caller.TheVariants.{Nobody, Host, Guest}
use Rattle.task_table.specs.declared.slot.TaskSlot.{TaskSlot}
use Rattle.task_table.specs.Callers as callers
use Rattle.task_table.specs.Callers.{called_of, changed, with_subtask, payload_of}
use Rattle.task_table.specs.Slots.{told_slot}
use Rattle.world_parts.specs.Held.{Held, Done, Gives, Traps, Spent, Stuck, after, given}
use Rattle.world_parts.specs.Slots.{with_task, told_by, state_told}
use Rattle.world_parts.specs.Calls.{all_unlent, given_back, given_back_if, subtask_told}
use Rattle.abi_machine.specs.Counting.{passes}
use Rattle.abi_machine.proofs.sound.Found.{some_same}
use Rattle.standing.specs.KeptMarks.{runs_func, runs_at, lends_by, is_task_at, lends_at}
use Rattle.standing.specs.Marks.{CallerMarked}
use Rattle.standing.proofs.States.{telling_stays}
use Rattle.run_laws.specs.keeping.Kept.{CalledFrom, ToldGaveBack}
use Rattle.run_laws.proofs.keeping.Others.{OthersMarked, Keeps, KeptBy, keeps_given, look_keeps, look_further}
use Rattle.run_laws.proofs.keeping.Sums.{count_none}
use Rattle.run_laws.proofs.keeping.Changes.{lends_change, borrows_alike, awaited_alike, states_alike, waits_same, task_keeps}
use Rattle.run_laws.proofs.keeping.Alike.{changed_awaited, if_field}
use Rattle.run_laws.proofs.keeping.Loans.{among, among_as, PriorHandle, PriorSubtask, GaveBack, BackBy, all_given_back}

-- A task runs at one instance.
second : (b c : Bool) → (b && c) ≡ true → c ≡ true
second true c e = e
second false c e = absurd (cc)

no_second : (b c : Bool) → c ≡ false → (b && c) ≡ false
no_second true c e = e
no_second false c e = refl

pub runs_not : (at n : ℕ) (x : TaskSlot) → runs_at at x ≡ true → (n ≡ at → ⊥) → runs_at n x ≡ false
runs_not at n x there other =
    let is : x.instance ≡ at = (Decides-eqb x.instance at).0 (second (runs_func x.callee) (nat_eq x.instance at) there) in
    no_second (runs_func x.callee) (nat_eq x.instance n) (ne_eqb x.instance n (λ e. other (sym e ∙ is)))

not_passed : (at n : ℕ) (o : Option TaskSlot) → passes (runs_at at) o ≡ true → (n ≡ at → ⊥) → passes (runs_at n) o ≡ false
not_passed at n None there other = refl
not_passed at n (Some x) there other = runs_not at n x there other

pub elsewhere : (tasks : List TaskSlot) (at n t : ℕ) → is_task_at tasks at t ≡ true → (n ≡ at → ⊥) → is_task_at tasks n t ≡ false
elsewhere tasks at n t there other = not_passed at n (slice_get tasks t) there other

-- What the caller sees is the state of the task.
pub seen_state : (t : ℕ) (state : SubtaskState) (c : Caller) (called : Called) → called_of c ≡ Some called → CallerMarked t state c → called.subtask.state ≡ state
seen_state t state Nobody called e m = absurd (cc)
seen_state t state (Host call) called e m = absurd (cc)
seen_state t state (Guest x) called e m = ap (λ (y : Called). y.subtask.state) (sym (some_same e)) ∙ m.seen

over_code : (s : SubtaskState) → is_over s ≡ nat_lt 1 (code_of s)
over_code state.Starting = refl
over_code state.Started = refl
over_code state.Returned = refl
over_code state.CancelledBeforeStarted = refl
over_code state.CancelledBeforeReturned = refl

no_event : (b : Bool) → not b ≡ false → b ≡ true
no_event true e = refl
no_event false e = absurd (cc)

told_over : (called : Called) → has_event called.subtask ≡ false → is_over called.subtask.state ≡ true → is_over called.subtask.told ≡ true
told_over called none over =
    let same : code_of called.subtask.state ≡ code_of called.subtask.told
    = (Decides-eqb (code_of called.subtask.state) (code_of called.subtask.told)).0 (no_event (nat_eq (code_of called.subtask.state) (code_of called.subtask.told)) none) in
    over_code called.subtask.told ∙ ap (nat_lt 1) (sym same) ∙ sym (over_code called.subtask.state) ∙ over

-- What is lent for a call once its state is told: nothing where it has resolved, and what was lent where it has not.
none_lent : (p : ℕ → Bool) (index : ℕ) (called : Called) → called.subtask.lends ≡ [] → lends_by p index (Some called) ≡ 0
none_lent p index called none = ap (λ (lends : List ℕ). count_by (λ handle. p called.by && nat_eq handle index) lends) none

told_lends : (p : ℕ → Bool) (index : ℕ) (called : Called) (b : Bool) → has_event called.subtask ≡ b → is_over called.subtask.state ≡ true
    → (is_over called.subtask.told ≡ true → called.subtask.lends ≡ []) → lends_by p index (Some (if b then with_subtask (delivered called.subtask) called else called)) ≡ 0
told_lends p index called true e over gave = ap (λ (c : Bool). count_by (λ handle. p called.by && nat_eq handle index) (if c then [] else called.subtask.lends)) over
told_lends p index called false e over gave = none_lent p index called (gave (told_over called e over))

over_lends : (p : ℕ → Bool) (index : ℕ) (c : Caller) (called : Called) → called_of c ≡ Some called → is_over called.subtask.state ≡ true
    → (is_over called.subtask.told ≡ true → called.subtask.lends ≡ []) → lends_by p index (called_of (changed callers.told c)) ≡ 0
over_lends p index Nobody called e over gave = refl
over_lends p index (Host call) called e over gave = refl
over_lends p index (Guest x) called e over gave =
    let same : x ≡ called = some_same e in
    told_lends p index x (has_event x.subtask) refl (ap (λ (y : Called). is_over y.subtask.state) same ∙ over)
    (λ told. ap (λ (y : Called). y.subtask.lends) same ∙ gave (ap (λ (y : Called). is_over y.subtask.told) (sym same) ∙ told))

open_called : (p : ℕ → Bool) (index : ℕ) (called : Called) (b : Bool) → is_over called.subtask.state ≡ false
    → lends_by p index (Some (if b then with_subtask (delivered called.subtask) called else called)) ≡ lends_by p index (Some called)
open_called p index called true still = ap (λ (c : Bool). count_by (λ handle. p called.by && nat_eq handle index) (if c then [] else called.subtask.lends)) still
open_called p index called false still = refl

open_lends : (t : ℕ) (state : SubtaskState) (c : Caller) (p : ℕ → Bool) (index : ℕ) → CallerMarked t state c → is_over state ≡ false
    → lends_by p index (called_of (changed callers.told c)) ≡ lends_by p index (called_of c)
open_lends t state Nobody p index m still = refl
open_lends t state (Host call) p index m still = refl
open_lends t state (Guest called) p index m still = open_called p index called (has_event called.subtask) (ap is_over m.seen ∙ still)

told_awaited : (called : Called) → (callers.told called).is_awaited ≡ called.is_awaited
told_awaited called = if_field (λ (c : Called). c.is_awaited) (has_event called.subtask) (with_subtask (delivered called.subtask) called) called refl

-- It has not resolved.
open_told : (h : Held) (t : ℕ) (x : TaskSlot) → slice_get h.tasks t ≡ Some x → is_over (state_of x.task) ≡ false → Keeps h (with_task t (told_slot x) h)
open_told h t x is still marks =
    task_keeps h t x (told_slot x) is
    (record {
      at = λ n. refl;
      lends = λ p index. open_lends t (state_of x.task) x.caller p index (marks.states t x is) still;
      awaited = λ called e. changed_awaited callers.told told_awaited x.caller called e;
      borrows = refl;
      waits = λ index. refl;
    })
    (telling_stays t x) marks

-- It has, and what was lent is given back.
lent_here : (p : ℕ → Bool) (index : ℕ) (o : Option Called) (called : Called) → o ≡ Some called → p called.by ≡ true → lends_by p index o ≡ among index called.subtask.lends
lent_here p index o called is here =
    ap (lends_by p index) is ∙ ap (λ (b : Bool). count_by (λ handle. b && nat_eq handle index) called.subtask.lends) here ∙ sym (among_as index called.subtask.lends)

lent_elsewhere : (p : ℕ → Bool) (index : ℕ) (o : Option Called) (called : Called) → o ≡ Some called → p called.by ≡ false → lends_by p index o ≡ 0
lent_elsewhere p index o called is there =
    ap (lends_by p index) is ∙ ap (λ (b : Bool). count_by (λ handle. b && nat_eq handle index) called.subtask.lends) there
    ∙ count_none (λ (handle : ℕ). false && nat_eq handle index) called.subtask.lends (λ n handle e. refl)

over_told : (h k : Held) (at t : ℕ) (x : TaskSlot) (called : Called) → slice_get h.tasks t ≡ Some x → called_of x.caller ≡ Some called → is_over (state_of x.task) ≡ true
    → GaveBack h k at called.subtask.lends → is_task_at h.tasks at called.by ≡ true → (is_over called.subtask.told ≡ true → called.subtask.lends ≡ [])
    → Keeps h (with_task t (told_slot x) k)
over_told h k at t x called is by over g from gave marks =
    let seen : is_over called.subtask.state ≡ true = ap is_over (seen_state t (state_of x.task) x.caller called by (marks.states t x is)) ∙ over in
    subst (λ (tasks : List TaskSlot). OthersMarked k.instances (slice_set tasks t (told_slot x))) (sym g.tasks)
    (record {
      lends = λ n index i z here stood. elim (cases_eq n at) [
        | inl e ↦
            let p : PriorHandle h at index (among index called.subtask.lends) z = g.lent index i z (ap (λ (m : ℕ). slice_get k.instances m) (sym e) ∙ here) stood in
            let a : lends_at (slice_set h.tasks t (told_slot x)) at index + lends_by (is_task_at h.tasks at) index (called_of x.caller)
            ≡ lends_at h.tasks at index + lends_by (is_task_at h.tasks at) index (called_of (changed callers.told x.caller)) = lends_change h.tasks t x (told_slot x) at index is refl in
            let b : lends_by (is_task_at h.tasks at) index (called_of x.caller) ≡ among index called.subtask.lends
            = lent_here (is_task_at h.tasks at) index (called_of x.caller) called by from in
            let c : lends_by (is_task_at h.tasks at) index (called_of (changed callers.told x.caller)) ≡ 0 = over_lends (is_task_at h.tasks at) index x.caller called by seen gave in
            given_less p.lent (marks.lends at index p.inst p.prior p.here p.stood) a b c ∙ ap (λ (m : ℕ). lends_at (slice_set h.tasks t (told_slot x)) m index) (sym e)
        | inr other ↦
            let a : lends_at (slice_set h.tasks t (told_slot x)) n index + lends_by (is_task_at h.tasks n) index (called_of x.caller)
            ≡ lends_at h.tasks n index + lends_by (is_task_at h.tasks n) index (called_of (changed callers.told x.caller)) = lends_change h.tasks t x (told_slot x) n index is refl in
            let b : lends_by (is_task_at h.tasks n) index (called_of x.caller) ≡ 0
            = lent_elsewhere (is_task_at h.tasks n) index (called_of x.caller) called by (elsewhere h.tasks at n called.by from other) in
            let c : lends_by (is_task_at h.tasks n) index (called_of (changed callers.told x.caller)) ≡ 0 = over_lends (is_task_at h.tasks n) index x.caller called by seen gave in
            as_before (marks.lends n index i z (g.others n i other here) stood) a b c
      ];
      borrows = borrows_alike k.instances h.tasks t x (told_slot x) is refl (λ n slot e. marks.borrows n slot e ∙ sym (g.borrows n));
      awaited = awaited_alike k.instances h.tasks t x (told_slot x) is (λ c e. changed_awaited callers.told told_awaited x.caller c e)
          (λ n index. waits_same n index x (told_slot x) refl refl)
          (λ n index callee i slot c here stood found guest.
          let p : PriorSubtask h n index callee = g.subtasks n index callee i here stood in
          marks.awaited n index callee p.inst slot c p.here p.stood found guest);
      states = states_alike h.tasks t x (told_slot x) is (telling_stays t x) marks.states;
    })
  where
    given_less : {z more prior before now by later : ℕ} → z + more ≡ prior → prior ≡ before → now + by ≡ before + later → by ≡ more → later ≡ 0 → z ≡ now
    given_less a b c d e = omega (arith, a, b, c, d, e)

    as_before : {z before now by later : ℕ} → z ≡ before → now + by ≡ before + later → by ≡ 0 → later ≡ 0 → z ≡ now
    as_before a b c d = omega (arith, a, b, c, d)

told_of : (h k : Held) (t : ℕ) (o : Option ℕ) (y : TaskSlot) → Keeps h (with_task t y k) → KeptBy h (told_by o t y k)
told_of h k t None y p = tt
told_of h k t (Some payload) y p = p

behind_back : (h : Held) (at t : ℕ) (x : TaskSlot) (called : Called) (d : Done (Unit {0})) → slice_get h.tasks t ≡ Some x → called_of x.caller ≡ Some called
    → is_over (state_of x.task) ≡ true → BackBy h at called.subtask.lends d → is_task_at h.tasks at called.by ≡ true → (is_over called.subtask.told ≡ true → called.subtask.lends ≡ [])
    → KeptBy h (after d (λ done l. state_told t l))
behind_back h at t x called (Gives done k) is by over g from gave =
    keeps_given h (slice_get k.tasks t) (λ slot. told_by (payload_of slot.caller) t (told_slot slot) k)
    (λ z there.
    let same : x ≡ z = some_same (sym is ∙ ap (λ (tasks : List TaskSlot). slice_get tasks t) (sym g.tasks) ∙ there) in
    told_of h k t (payload_of z.caller) (told_slot z) (subst (λ (y : TaskSlot). Keeps h (with_task t (told_slot y) k)) same (over_told h k at t x called is by over g from gave)))
behind_back h at t x called (Traps why k) is by over g from gave = absurd g
behind_back h at t x called (Spent k) is by over g from gave = tt
behind_back h at t x called Stuck is by over g from gave = tt

told_so : (h : Held) (at t : ℕ) (x : TaskSlot) (over : Bool) → slice_get h.tasks t ≡ Some x → is_over (state_of x.task) ≡ over → CalledFrom h at t → ToldGaveBack h
    → KeptBy h (after (given_back_if over at t h) (λ done l. state_told t l))
unfolding given_back
told_so h at t x false is e from gave =
    keeps_given h (slice_get h.tasks t) (λ slot. told_by (payload_of slot.caller) t (told_slot slot) h)
    (λ z there.
    let same : x ≡ z = some_same (sym is ∙ there) in
    told_of h h t (payload_of z.caller) (told_slot z) (subst (λ (y : TaskSlot). Keeps h (with_task t (told_slot y) h)) same (open_told h t x is e)))
told_so h at t x true is e from gave =
    look_further h (slice_get h.tasks t) (λ slot. given (called_of slot.caller) (λ called. Gives called.subtask.lends h)) (λ handles k. all_unlent at t handles k) (λ done l. state_told t l)
    (λ z there.
    look_further h (called_of z.caller) (λ called. Gives called.subtask.lends h) (λ handles k. all_unlent at t handles k) (λ done l. state_told t l)
    (λ called by.
    let same : x ≡ z = some_same (sym is ∙ there) in
    behind_back h at t z called (all_unlent at t called.subtask.lends h) there by (ap (λ (y : TaskSlot). is_over (state_of y.task)) (sym same) ∙ e)
    (all_given_back at t called.subtask.lends h) (from z called there by) (gave t z called there by)))

pub subtask_told_keeps : (at callee : ℕ) (h : Held) → CalledFrom h at callee → ToldGaveBack h → KeptBy h (subtask_told at callee h)
unfolding subtask_told
subtask_told_keeps at callee h from gave =
    look_keeps h (slice_get h.tasks callee) (λ slot. Gives (is_over (state_of slot.task)) h) (λ over k. after (given_back_if over at callee k) (λ done l. state_told callee l))
    (λ x is. told_so h at callee x (is_over (state_of x.task)) is refl from gave)

-- The state of one that has not resolved is told alone.
pub state_told_keeps : (t : ℕ) (h : Held) (x : TaskSlot) → slice_get h.tasks t ≡ Some x → is_over (state_of x.task) ≡ false → KeptBy h (state_told t h)
state_told_keeps t h x is e =
    keeps_given h (slice_get h.tasks t) (λ slot. told_by (payload_of slot.caller) t (told_slot slot) h)
    (λ z there.
    let same : x ≡ z = some_same (sym is ∙ there) in
    told_of h h t (payload_of z.caller) (told_slot z) (subst (λ (y : TaskSlot). Keeps h (with_task t (told_slot y) h)) same (open_told h t x is e)))
