-- A blocked task that goes on keeps all marks.
use Rattle.std.proofs.Common.{◌≡◌, ℕ, ◌-◌, Bool, true, length, refl, sym, ◌∙◌, subst, Option, Some, None}
use Rattle.std.specs.List.{slice_get}
use Rattle.entry_gate.specs.Gates.{is_free}
use Rattle.tasks.specs.declared.event.BlockedAt.{BlockedAt}
use Rattle.tasks.specs.declared.event.BlockedAt.TheVariants as blocked_at
use Rattle.tasks.specs.declared.event.TaskEvent.TheVariants as event
use Rattle.tasks.specs.declared.phase.Phase.{Phase}
use Rattle.tasks.specs.declared.phase.Phase.TheVariants as phase
use Rattle.tasks.specs.Tasks as tasks
use Rattle.instances.specs.Instances.{InstanceView}
use Rattle.task_table.specs.declared.errand.Errand.{Errand}
use Rattle.task_table.specs.declared.errand.Errand.TheVariants as errand
use Rattle.task_table.specs.declared.slot.TaskSlot.{TaskSlot}
use Rattle.task_table.specs.Slots as slots
use Rattle.task_table.specs.Slots.{event_answer, advanced_slot, at_errand, is_to_be_told}
use Rattle.world_parts.specs.Held.{Held, Done, Gives, after, given}
use Rattle.world_parts.specs.Gates.{entry_is_free}
use Rattle.world_parts.specs.Slots.{with_task, instance_of, phase_of, word_in, happened, happens, errand_set}
use Rattle.world_parts.specs.Going.{place_of, wait_resumed, builtin_resumed, resumed_in, resumed_from, resumed_by, resumes}
use Rattle.abi_machine.proofs.sound.Found.{some_same}
use Rattle.standing.specs.KeptMarks.{runs_func}
use Rattle.standing.specs.MarksKept.{StandOnce}
use Rattle.standing.proofs.Agreeing.{get_set}
use Rattle.run_laws.specs.keeping.Kept.{KeepsMarks}
use Rattle.run_laws.specs.keeping.Moves.{GoesOnWell, ResumingKeepsMarks}
use Rattle.run_laws.proofs.keeping.Every.{every_same, look_every, further_every, at_every}
use Rattle.run_laws.proofs.keeping.Moves.{acted_every}
use Rattle.run_laws.proofs.keeping.Resumed.{InItsLoop, loop_resumed_marks}
use Rattle.run_laws.proofs.keeping.Unawaited.{cancel_on_marks}
use Rattle.run_laws.proofs.keeping.Woken.{woken, woken_held, yields_on_marks, set_on_marks, call_on_marks, copy_on_marks}

-- A place is found, and changes nothing.
place_every : {A : Type 0} (h : Held) (t : ℕ) (why : BlockedAt) (c : ℕ → Held → Done A) → ((place : ℕ) → KeepsMarks h (c place h)) → KeepsMarks h (after (place_of t why h) c)
place_every h t blocked_at.Entry c p = p 0
place_every h t (blocked_at.Loop word) c p = p 0
place_every h t blocked_at.Yield c p = p 0
place_every h t (blocked_at.Set index) c p =
    look_every h (slice_get h.tasks t) (λ x. given (word_in x.at_words 1) (λ word. Gives word h)) c
    (λ x is. look_every h (word_in x.at_words 1) (λ word. Gives word h) c (λ word found. p word))
place_every h t (blocked_at.Call callee) c p = p 0
place_every h t (blocked_at.Copy index) c p = p 0
place_every h t (blocked_at.Cancel index) c p = p 0

further_at : {A B C D : Type 0} (h : Held) (o : Option A) (x : A) (f : A → Done B) (c : B → Held → Done C) (d : C → Held → Done D) → o ≡ Some x → KeepsMarks h (after (after (f x) c) d)
    → KeepsMarks h (after (after (given o f) c) d)
further_at h None x f c d e p = absurd (cc)
further_at {A} h (Some y) x f c d e p = subst (λ (z : A). KeepsMarks h (after (after (f z) c) d)) (sym (some_same e)) p

-- What goes on in a built-in is what follows there.
builtin_marks : (h : Held) (t canon : ℕ) (why : BlockedAt) (x : TaskSlot) → slice_get h.tasks t ≡ Some x
    → ((told_so : Bool) (place : ℕ) → KeepsMarks h (wait_resumed t x.instance canon told_so place why (woken_held h t x))) → KeepsMarks h (builtin_resumed t x.instance canon why h)
unfolding builtin_resumed woken_held woken
builtin_marks h t canon why x is p =
    further_at h (slice_get h.tasks t) x (λ y. Gives y.instance h) (λ at k. after (entry_is_free at k) (λ free l. given (slice_get l.tasks t) (λ y. Gives (is_to_be_told free y.task) l)))
    (λ told_so k. after (place_of t why k) (λ place l. after (happens t event.Go l) (λ done m. after (errand_set t errand.None m) (λ done n. wait_resumed t x.instance canon told_so place why n)))) is
    (further_every h (slice_get h.instances x.instance) (λ i. Gives (is_free i.gate) h) (λ free l. given (slice_get l.tasks t) (λ y. Gives (is_to_be_told free y.task) l))
    (λ told_so k. after (place_of t why k) (λ place l. after (happens t event.Go l) (λ done m. after (errand_set t errand.None m) (λ done n. wait_resumed t x.instance canon told_so place why n))))
    (λ i here.
    at_every h (slice_get h.tasks t) x (λ y. Gives (is_to_be_told (is_free i.gate) y.task) h)
    (λ told_so k. after (place_of t why k) (λ place l. after (happens t event.Go l) (λ done m. after (errand_set t errand.None m) (λ done n. wait_resumed t x.instance canon told_so place why n)))) is
    (let told_so : Bool = is_to_be_told (is_free i.gate) x.task in
    place_every h t why (λ place l. after (happens t event.Go l) (λ done m. after (errand_set t errand.None m) (λ done n. wait_resumed t x.instance canon told_so place why n)))
    (λ place.
    at_every h (slice_get h.tasks t) x (λ z. happened (event_answer event.Go z.task) t (advanced_slot event.Go z) h)
    (λ done m. after (errand_set t errand.None m) (λ done n. wait_resumed t x.instance canon told_so place why n)) is
    (acted_every h h t event.Go x (λ done m. after (errand_set t errand.None m) (λ done n. wait_resumed t x.instance canon told_so place why n)) refl
    (λ may none.
    let y : TaskSlot = slots.with_task (tasks.after event.Go x.task) x in
    let m : Held = with_task t y h in
    at_every h (slice_get m.tasks t) y (λ z. Gives tt (with_task t (at_errand errand.None z) m)) (λ done n. wait_resumed t x.instance canon told_so place why n) (get_set h.tasks t x y is)
    (p told_so place)))))))

errand_marks : (h : Held) (t : ℕ) (why : BlockedAt) (x : TaskSlot) (e : Errand) → ((canon : ℕ) → KeepsMarks h (builtin_resumed t x.instance canon why h))
    → KeepsMarks h (resumed_in t x.instance why e h)
errand_marks h t why x errand.None p = tt
errand_marks h t why x (errand.AfterCall callee canon) p = tt
errand_marks h t why x (errand.AfterCancel callee canon index) p = tt
errand_marks h t why x (errand.Begins n) p = tt
errand_marks h t why x (errand.InBuiltin canon) p = p canon

from_marks : (h : Held) (t : ℕ) (why : BlockedAt) (x : TaskSlot) → slice_get h.tasks t ≡ Some x → ((canon : ℕ) → KeepsMarks h (builtin_resumed t x.instance canon why h))
    → KeepsMarks h (resumed_from t x.instance why h)
unfolding resumed_from
from_marks h t why x is p =
    at_every h (slice_get h.tasks t) x (λ y. Gives y.errand h) (λ e k. resumed_in t x.instance why e k) is (errand_marks h t why x x.errand p)

-- By what it was blocked at.
Goes : Held → TaskSlot → BlockedAt → Type 0
Goes h x why = (i : InstanceView) × (slice_get h.instances x.instance ≡ Some i) × GoesOnWell h x i why

phase_marks : (h : Held) (t : ℕ) (x : TaskSlot) (p : Phase) → slice_get h.tasks t ≡ Some x → runs_func x.callee ≡ true → x.task.phase ≡ p
    → ((why : BlockedAt) (flag : Bool) → p ≡ phase.Blocked why flag → Goes h x why) → KeepsMarks h (resumed_by t x.instance p h)
unfolding Goes
phase_marks h t x phase.New is runs far well = tt
phase_marks h t x phase.Acting is runs far well = tt
phase_marks h t x (phase.Blocked blocked_at.Entry flag) is runs far well = every_same h
phase_marks h t x (phase.Blocked (blocked_at.Loop word) flag) is runs far well =
    let w : (i : InstanceView) × (slice_get h.instances x.instance ≡ Some i) × GoesOnWell h x i (blocked_at.Loop word) = well (blocked_at.Loop word) flag refl in
    loop_resumed_marks t word h x is
    (λ i here.
    let same : w.0 ≡ i = some_same (sym w.1 ∙ here) in
    subst (λ (j : InstanceView). InItsLoop h t word x j × StandOnce j) same
    (record { flag = flag; is = is; here = w.1; runs = runs; far = far; needs = w.2.0; free = w.2.1 }, w.2.2))
phase_marks h t x (phase.Blocked blocked_at.Yield flag) is runs far well =
    let w : (i : InstanceView) × (slice_get h.instances x.instance ≡ Some i) × GoesOnWell h x i blocked_at.Yield = well blocked_at.Yield flag refl in
    from_marks h t blocked_at.Yield x is
    (λ canon.
    builtin_marks h t canon blocked_at.Yield x is
    (λ told_so place. yields_on_marks h t told_so x w.0 (record { flag = flag; is = is; here = w.1; runs = runs; far = far; inside = refl; entered = refl }) w.2))
phase_marks h t x (phase.Blocked (blocked_at.Set index) flag) is runs far well =
    let w : (i : InstanceView) × (slice_get h.instances x.instance ≡ Some i) × GoesOnWell h x i (blocked_at.Set index) = well (blocked_at.Set index) flag refl in
    from_marks h t (blocked_at.Set index) x is
    (λ canon.
    builtin_marks h t canon (blocked_at.Set index) x is
    (λ told_so place. set_on_marks h t canon told_so index place x w.0 (record { flag = flag; is = is; here = w.1; runs = runs; far = far; inside = refl; entered = refl }) w.2))
phase_marks h t x (phase.Blocked (blocked_at.Call callee) flag) is runs far well =
    let w : (i : InstanceView) × (slice_get h.instances x.instance ≡ Some i) × GoesOnWell h x i (blocked_at.Call callee) = well (blocked_at.Call callee) flag refl in
    from_marks h t (blocked_at.Call callee) x is
    (λ canon.
    builtin_marks h t canon (blocked_at.Call callee) x is
    (λ told_so place. call_on_marks h t x.instance callee x w.0 (record { flag = flag; is = is; here = w.1; runs = runs; far = far; inside = refl; entered = refl }) w.2.0 w.2.1))
phase_marks h t x (phase.Blocked (blocked_at.Copy index) flag) is runs far well =
    let w : (i : InstanceView) × (slice_get h.instances x.instance ≡ Some i) × GoesOnWell h x i (blocked_at.Copy index) = well (blocked_at.Copy index) flag refl in
    from_marks h t (blocked_at.Copy index) x is
    (λ canon.
    builtin_marks h t canon (blocked_at.Copy index) x is
    (λ told_so place. copy_on_marks h t index x w.0 (record { flag = flag; is = is; here = w.1; runs = runs; far = far; inside = refl; entered = refl })))
phase_marks h t x (phase.Blocked (blocked_at.Cancel index) flag) is runs far well =
    let w : (i : InstanceView) × (slice_get h.instances x.instance ≡ Some i) × GoesOnWell h x i (blocked_at.Cancel index) = well (blocked_at.Cancel index) flag refl in
    from_marks h t (blocked_at.Cancel index) x is
    (λ canon.
    builtin_marks h t canon (blocked_at.Cancel index) x is
    (λ told_so place.
    cancel_on_marks h t index x w.0 (record { flag = flag; is = is; here = w.1; runs = runs; far = far; inside = refl; entered = refl }) w.2.0 w.2.1 w.2.2))
phase_marks h t x phase.Exited is runs far well = tt

pub resuming_marks : ResumingKeepsMarks
unfolding resumes Goes
resuming_marks h runs well =
    look_every h (slice_get h.chain (length h.chain - 1)) (λ t. Gives t h) (λ t k. after (instance_of t k) (λ at l. after (phase_of t l) (λ far m. resumed_by t at far m)))
    (λ t acts.
    look_every h (slice_get h.tasks t) (λ x. Gives x.instance h) (λ at l. after (phase_of t l) (λ far m. resumed_by t at far m))
    (λ x is.
    at_every h (slice_get h.tasks t) x (λ y. Gives y.task.phase h) (λ far m. resumed_by t x.instance far m) is
    (phase_marks h t x x.task.phase is (runs t acts x is) refl (λ why flag far. well t x why flag acts is far))))
