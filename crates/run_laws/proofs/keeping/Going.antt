-- Tasks that arrive, enter and leave keep all marks.
use Rattle.std.proofs.Common.{◌≡◌, ℕ, ◌+◌, ◌-◌, nat_eq, nat_lt, Bool, true, false, ◌||◌, ◌&&◌, if◌then◌else◌, List, [], ◌∷◌, ◌++◌, length, slice_set, refl, sym, ap, ◌∙◌, subst, arith, Option, Some, None, is_some}
use Rattle.std.specs.List.{slice_get}
use Rattle.std.proofs.lemmas.Bool.Decides.{Decides-eqb}
use Rattle.entry_gate.specs.declared.kind.Kind.{Kind}
use Rattle.entry_gate.specs.Gates as gates
use Rattle.entry_gate.specs.Gates.{GateView, with_wait, without_wait, entered, given_up}
use Rattle.entry_gate.specs.Kinds.{needs_entry}
use Rattle.entry_gate.specs.Stays.{Outside, Waiting, Inside}
use Rattle.tasks.specs.declared.event.BlockedAt.TheVariants as blocked_at
use Rattle.tasks.specs.declared.event.TaskEvent.TheVariants as event
use Rattle.tasks.specs.declared.phase.Cancellation.{Cancellation}
use Rattle.tasks.specs.declared.phase.Phase.{Phase}
use Rattle.tasks.specs.declared.phase.Phase.TheVariants as phase
use Rattle.tasks.specs.declared.phase.Resolution.{Resolution}
use Rattle.tasks.specs.declared.phase.Resolution.TheVariants as resolution
use Rattle.tasks.specs.declared.subtask_state.SubtaskState.{SubtaskState}
use Rattle.tasks.specs.declared.subtask_state.SubtaskState.TheVariants as state
use Rattle.tasks.specs.Tasks as tasks
use Rattle.tasks.specs.Subtasks.{follows}
use Rattle.tasks.specs.Tasks.{is_new, is_acting, is_told, is_nobody, state_of, resolved_state, waits_to_enter as waits_at_entry}
use Rattle.tasks.specs.Views.{TaskView}
use Rattle.instances.specs.Instances.{InstanceView, with_gate}
use Rattle.task_table.specs.declared.caller.Caller.{Caller}
use Rattle.task_table.specs.declared.caller.Caller.TheVariants.{Nobody, Host, Guest}
use Rattle.task_table.specs.declared.slot.TaskSlot.{TaskSlot}
use Rattle.task_table.specs.Callers as callers
use Rattle.task_table.specs.Callers.{changed, may_raise}
use Rattle.task_table.specs.Slots as slots
use Rattle.task_table.specs.Slots.{event_answer, advanced_slot, waits_on, waits_directly_at, raised_slot}
use Rattle.task_table.specs.Tasks.{without, Watched, watching, unwatched, parked_by}
use Rattle.trace_labels.specs.declared.label.BlockReason.TheVariants as reason
use Rattle.trace_labels.specs.declared.label.Label.TheVariants as line
use Rattle.world_parts.specs.declared.parts.Flow.TheVariants as flow
use Rattle.world_parts.specs.Held.{Held, Done, Gives, Stuck, after, given}
use Rattle.world_parts.specs.Entries.{with_instance}
use Rattle.world_parts.specs.Feed.{told, left_chain}
use Rattle.world_parts.specs.Gates.{may_enter, gate_waited, gate_entered, gate_given_up}
use Rattle.world_parts.specs.Slots.{with_task, instance_of, kind_of, phase_of, happened, happens, raised, parked, unparked, closed}
use Rattle.world_parts.specs.Calls.{blocked}
use Rattle.world_parts.specs.Going.{arrives, waits_to_enter, unwaited_if, enters, leaves}
use Rattle.abi_machine.proofs.sound.Found.{some_same}
use Rattle.standing.specs.KeptMarks.{runs_func, runs_at, place_in}
use Rattle.standing.specs.Marks.{CallerMarked, StateMarked}
use Rattle.standing.proofs.Agreeing.{get_set}
use Rattle.standing.proofs.States.{states_rise, states_stay, entered_is_started}
use Rattle.run_laws.specs.keeping.Kept.{MarksStay, KeepsMarks, RunsFunction, EntersFree, OneHolds}
use Rattle.run_laws.proofs.keeping.Every.{every_same, every_if, every_through, look_every, tested_every, at_every}
use Rattle.run_laws.proofs.keeping.Alike.{waits_alike, alike_further, raised_alike, set_twice}
use Rattle.run_laws.proofs.keeping.Entry.{GateSeen, holds_alone}
use Rattle.run_laws.proofs.keeping.GateSteps.{comes_to_wait, comes_in, comes_in_late, goes_out}
use Rattle.run_laws.proofs.keeping.OnSets.{counts_not}
use Rattle.run_laws.proofs.keeping.Moves.{alike_marks, acted_every, told_and_left}

-- A task runs at its own instance.
pub runs_own : (x : TaskSlot) → runs_func x.callee ≡ true → runs_at x.instance x ≡ true
runs_own x runs = both (runs_func x.callee) (nat_eq x.instance x.instance) runs ((Decides-eqb x.instance x.instance).1 refl)
  where
    both : (b c : Bool) → b ≡ true → c ≡ true → (b && c) ≡ true
    both true c e f = f
    both false c e f = absurd (cc)

-- Of a new task, and one that waits to enter.
new_place : (p : Phase) → is_new p ≡ true → p ≡ phase.New
new_place phase.New e = refl
new_place phase.Acting e = absurd (cc)
new_place (phase.Blocked why flag) e = absurd (cc)
new_place phase.Exited e = absurd (cc)

unentered : (c : Cancellation) (r : Option Resolution) → resolved_state c r (phase.Blocked blocked_at.Entry false) ≡ resolved_state c r phase.New
unentered c None = refl
unentered c (Some resolution.Returned) = refl
unentered c (Some resolution.Cancelled) = refl

arriving_state : (c : Cancellation) (r : Option Resolution) (p : Phase) → p ≡ phase.New → resolved_state c r (phase.Blocked blocked_at.Entry false) ≡ resolved_state c r p
arriving_state c r p e = unentered c r ∙ ap (λ (q : Phase). resolved_state c r q) (sym e)

pub none_counted : {a b : ℕ} → (n : ℕ) → a ≡ 0 → b ≡ 0 → n + a ≡ n + b
none_counted n e f = omega (arith, e, f)

-- It arrives, and waits to enter.
waits_outside : (h k : Held) (t : ℕ) (x : TaskSlot) (i : InstanceView) → slice_get h.tasks t ≡ Some x → slice_get h.instances x.instance ≡ Some i → runs_func x.callee ≡ true
    → is_new x.task.phase ≡ true → k.tasks ≡ slice_set h.tasks t (slots.with_task (tasks.after (event.Block blocked_at.Entry false) x.task) x)
    → k.instances ≡ slice_set h.instances x.instance (with_gate (with_wait i.gate) i) → MarksStay h k
waits_outside h k t x i is here runs new tasks_are insts_are =
    let later : TaskView = tasks.after (event.Block blocked_at.Entry false) x.task in
    let y : TaskSlot = slots.with_task later x in
    let p : x.task.phase ≡ phase.New = new_place x.task.phase new in
    alike_marks h k t x.instance x y i (with_gate (with_wait i.gate) i)
    (record {
      is = is;
      here = here;
      runs = runs_own x runs;
      same = λ n. refl;
      gate = comes_to_wait h.tasks t x.instance x y i.gate (record { is = is; runs = runs_own x runs; still = runs_own x runs; kind = refl; was = ap place_in p; place = refl });
      slots = refl;
      sets = λ index set stood marked. none_counted _ (counts_not x.instance index x (ap (waits_on index) p)) (counts_not x.instance index y refl);
    })
    tasks_are insts_are (waits_alike x y refl refl refl refl (λ index. sym (ap (waits_directly_at index) p)))
    (states_stay t x later (arriving_state x.task.cancellation x.task.resolution x.task.phase p))

parked_every : {A : Type 0} (h k : Held) (t : ℕ) (kind : Kind) (c : Unit {0} → Held → Done A) → ((watched : Watched) → KeepsMarks h (c tt (record k { watched = watched })))
    → KeepsMarks h (after (parked t kind k) c)
parked_every h k t kind c p = p (parked_by (needs_entry kind) t k.watched)

arrived_late : (h : Held) (t : ℕ) (x : TaskSlot) (i : InstanceView) → slice_get h.tasks t ≡ Some x → slice_get h.instances x.instance ≡ Some i → runs_func x.callee ≡ true
    → KeepsMarks h (after (gate_waited x.instance h) (λ done o. after (parked t x.task.kind o) (λ done p. blocked t blocked_at.Entry false reason.Entry p)))
unfolding blocked
arrived_late h t x i is here runs =
    at_every h (slice_get h.instances x.instance) i (λ j. Gives tt (with_instance x.instance (with_gate (with_wait j.gate) j) h))
    (λ done o. after (parked t x.task.kind o) (λ done p. blocked t blocked_at.Entry false reason.Entry p)) here
    (let k : Held = with_instance x.instance (with_gate (with_wait i.gate) i) h in
    parked_every h k t x.task.kind (λ done p. blocked t blocked_at.Entry false reason.Entry p)
    (λ watched.
    let l : Held = record k { watched = watched } in
    at_every h (slice_get h.tasks t) x
    (λ z. happened (event_answer (event.Block blocked_at.Entry false) z.task) t (advanced_slot (event.Block blocked_at.Entry false) z) l)
    (λ done m. after (told (line.Block t reason.Entry) m) (λ done n. left_chain n)) is
    (acted_every h l t (event.Block blocked_at.Entry false) x (λ done m. after (told (line.Block t reason.Entry) m) (λ done n. left_chain n)) refl
    (λ new none.
    let m : Held = with_task t (slots.with_task (tasks.after (event.Block blocked_at.Entry false) x.task) x) l in
    every_through h m (after (told (line.Block t reason.Entry) m) (λ done n. left_chain n)) (waits_outside h m t x i is here runs new refl refl) (told_and_left (line.Block t reason.Entry) m)))))

pub arrives_marks : (h : Held) → ((t : ℕ) → slice_get h.chain (length h.chain - 1) ≡ Some t → RunsFunction h t) → KeepsMarks h (arrives h)
unfolding arrives
arrives_marks h runs =
    look_every h (slice_get h.chain (length h.chain - 1)) (λ t. Gives t h)
    (λ t k. after (instance_of t k) (λ at l. after (kind_of t l) (λ kind m. after (may_enter at kind true m) (λ may n.
    if may then Gives flow.Enters n else
    after (gate_waited at n) (λ done o. after (parked t kind o) (λ done p. blocked t blocked_at.Entry false reason.Entry p))))))
    (λ t acts.
    look_every h (slice_get h.tasks t) (λ x. Gives x.instance h)
    (λ at l. after (kind_of t l) (λ kind m. after (may_enter at kind true m) (λ may n.
    if may then Gives flow.Enters n else
    after (gate_waited at n) (λ done o. after (parked t kind o) (λ done p. blocked t blocked_at.Entry false reason.Entry p)))))
    (λ x is.
    at_every h (slice_get h.tasks t) x (λ y. Gives y.task.kind h)
    (λ kind m. after (may_enter x.instance kind true m) (λ may n.
    if may then Gives flow.Enters n else
    after (gate_waited x.instance n) (λ done o. after (parked t kind o) (λ done p. blocked t blocked_at.Entry false reason.Entry p)))) is
    (look_every h (slice_get h.instances x.instance) (λ i. Gives (gates.may_enter x.task.kind true i.gate) h)
    (λ may n.
    if may then Gives flow.Enters n else
    after (gate_waited x.instance n) (λ done o. after (parked t x.task.kind o) (λ done p. blocked t blocked_at.Entry false reason.Entry p)))
    (λ i here.
    every_if h (gates.may_enter x.task.kind true i.gate) (Gives flow.Enters h)
    (after (gate_waited x.instance h) (λ done o. after (parked t x.task.kind o) (λ done p. blocked t blocked_at.Entry false reason.Entry p))) (every_same h)
    (arrived_late h t x i is here (runs t acts x is))))))

-- It enters: one that waited to waits no longer.
may_be : (p : Phase) → (is_new p || waits_at_entry p) ≡ true → (waits_to_enter p ≡ false → p ≡ phase.New) × (waits_to_enter p ≡ true → place_in p ≡ Waiting)
may_be phase.New e = (λ f. refl, λ f. absurd (cc))
may_be phase.Acting e = absurd (cc)
may_be (phase.Blocked blocked_at.Entry flag) e = (λ f. absurd (cc), λ f. refl)
may_be (phase.Blocked (blocked_at.Loop word) flag) e = absurd (cc)
may_be (phase.Blocked blocked_at.Yield flag) e = absurd (cc)
may_be (phase.Blocked (blocked_at.Set index) flag) e = absurd (cc)
may_be (phase.Blocked (blocked_at.Call task) flag) e = absurd (cc)
may_be (phase.Blocked (blocked_at.Copy index) flag) e = absurd (cc)
may_be (phase.Blocked (blocked_at.Cancel index) flag) e = absurd (cc)
may_be phase.Exited e = absurd (cc)

waits_nowhere : (p : Phase) → (is_new p || waits_at_entry p) ≡ true → (index : ℕ) → (waits_on index p ≡ false) × (waits_directly_at index p ≡ false)
waits_nowhere phase.New e index = (refl, refl)
waits_nowhere phase.Acting e index = absurd (cc)
waits_nowhere (phase.Blocked blocked_at.Entry flag) e index = (refl, refl)
waits_nowhere (phase.Blocked (blocked_at.Loop word) flag) e index = absurd (cc)
waits_nowhere (phase.Blocked blocked_at.Yield flag) e index = absurd (cc)
waits_nowhere (phase.Blocked (blocked_at.Set set) flag) e index = absurd (cc)
waits_nowhere (phase.Blocked (blocked_at.Call task) flag) e index = absurd (cc)
waits_nowhere (phase.Blocked (blocked_at.Copy end) flag) e index = absurd (cc)
waits_nowhere (phase.Blocked (blocked_at.Cancel subtask) flag) e index = absurd (cc)
waits_nowhere phase.Exited e index = absurd (cc)

-- The gate behind the entry.
gate_in : ℕ → Kind → Bool → GateView → GateView
gate_in t kind waited gate = entered t kind (if waited then without_wait gate else gate)

seen_in : (h : Held) (t : ℕ) (x y : TaskSlot) (i : InstanceView) (waited : Bool) → waits_to_enter x.task.phase ≡ waited → slice_get h.tasks t ≡ Some x → runs_func x.callee ≡ true
    → (is_new x.task.phase || waits_at_entry x.task.phase) ≡ true → runs_at x.instance y ≡ true → y.task.kind ≡ x.task.kind → place_in y.task.phase ≡ Inside
    → (needs_entry x.task.kind ≡ true → i.gate.holder ≡ None) → GateSeen h.tasks x.instance i.gate → GateSeen (slice_set h.tasks t y) x.instance (gate_in t x.task.kind waited i.gate)
unfolding gate_in
seen_in h t x y i false e is runs may still kind inside free seen =
    comes_in h.tasks t x.instance x y i.gate (record { is = is; runs = runs_own x runs; still = still; kind = kind; was = ap place_in ((may_be x.task.phase may).0 e); place = inside }) free seen
seen_in h t x y i true e is runs may still kind inside free seen =
    comes_in_late h.tasks t x.instance x y i.gate (record { is = is; runs = runs_own x runs; still = still; kind = kind; was = (may_be x.task.phase may).1 e; place = inside }) free seen

-- What its caller sees rises with it; who waited to enter has not resolved.
not_over : (b : Bool) → follows (if b then state.CancelledBeforeReturned else state.CancelledBeforeStarted) state.Started ≡ true → ⊥
not_over true e = cc
not_over false e = cc

unresolved : (c : Cancellation) (r : Option Resolution) (p : Phase) → follows (resolved_state c r p) state.Started ≡ true → r ≡ None
unresolved c None p e = refl
unresolved c (Some resolution.Returned) p e = absurd (cc)
unresolved c (Some resolution.Cancelled) p e = absurd (not_over (is_told c) e)

entered_slot : TaskSlot → TaskSlot
entered_slot x = raised_slot state.Started (slots.with_task (tasks.after event.Enter x.task) x)

entered_state : (t : ℕ) (x : TaskSlot) (c : Caller) → x.caller ≡ c → may_raise state.Started x.caller ≡ true → StateMarked t x → StateMarked t (entered_slot x)
unfolding entered_slot
entered_state t x Nobody e may m = subst (λ (c : Caller). CallerMarked t (state_of (tasks.after event.Enter x.task)) (changed (callers.raised state.Started) c)) (sym e) tt
entered_state t x (Host call) e may m = subst (λ (c : Caller). CallerMarked t (state_of (tasks.after event.Enter x.task)) (changed (callers.raised state.Started) c)) (sym e) tt
entered_state t x (Guest called) e may m =
    let call : CallerMarked t (state_of x.task) (Guest called) = subst (λ (c : Caller). CallerMarked t (state_of x.task) c) e m in
    let next : follows (state_of x.task) state.Started ≡ true = ap (λ (s : SubtaskState). follows s state.Started) (sym call.seen) ∙ ap (may_raise state.Started) (sym e) ∙ may in
    states_rise t x (tasks.after event.Enter x.task) state.Started may (entered_is_started x.task (unresolved x.task.cancellation x.task.resolution x.task.phase next)) m

entered_marks : (h k : Held) (t : ℕ) (x : TaskSlot) (i : InstanceView) (waited : Bool) → slice_get h.tasks t ≡ Some x → slice_get h.instances x.instance ≡ Some i → runs_func x.callee ≡ true
    → waits_to_enter x.task.phase ≡ waited → (is_new x.task.phase || waits_at_entry x.task.phase) ≡ true → may_raise state.Started x.caller ≡ true
    → (needs_entry x.task.kind ≡ true → i.gate.holder ≡ None) → k.tasks ≡ slice_set h.tasks t (entered_slot x)
    → k.instances ≡ slice_set h.instances x.instance (with_gate (gate_in t x.task.kind waited i.gate) i) → MarksStay h k
unfolding entered_slot
entered_marks h k t x i waited is here runs e may rises free tasks_are insts_are =
    let y : TaskSlot = slots.with_task (tasks.after event.Enter x.task) x in
    let z : TaskSlot = raised_slot state.Started y in
    alike_marks h k t x.instance x z i (with_gate (gate_in t x.task.kind waited i.gate) i)
    (record {
      is = is;
      here = here;
      runs = runs_own x runs;
      same = λ n. refl;
      gate = seen_in h t x z i waited e is runs may (runs_own x runs) refl refl free;
      slots = refl;
      sets = λ index set stood marked. none_counted _ (counts_not x.instance index x (waits_nowhere x.task.phase may index).0) (counts_not x.instance index z refl);
    })
    tasks_are insts_are
    (alike_further x y z (waits_alike x y refl refl refl refl (λ index. sym (waits_nowhere x.task.phase may index).1)) (raised_alike state.Started y))
    (entered_state t x x.caller refl rises)

-- What is done behind the wait.
behind_wait : (h n : Held) (t : ℕ) (x : TaskSlot) (i i1 : InstanceView) (waited : Bool) → slice_get h.tasks t ≡ Some x → slice_get h.instances x.instance ≡ Some i → runs_func x.callee ≡ true
    → waits_to_enter x.task.phase ≡ waited → (needs_entry x.task.kind ≡ true → i.gate.holder ≡ None) → n.tasks ≡ h.tasks → slice_get n.instances x.instance ≡ Some i1
    → ((j : InstanceView) → slice_set n.instances x.instance j ≡ slice_set h.instances x.instance j)
    → with_gate (entered t x.task.kind i1.gate) i1 ≡ with_gate (gate_in t x.task.kind waited i.gate) i
    → KeepsMarks h (after (gate_entered x.instance t x.task.kind n) (λ done o. after (happens t event.Enter o) (λ done p. after (raised t state.Started p) (λ done q. told (line.Enter t) q))))
unfolding entered_slot
behind_wait h n t x i i1 waited is here runs e free same_tasks there put gate_is =
    at_every h (slice_get n.instances x.instance) i1 (λ j. Gives tt (with_instance x.instance (with_gate (entered t x.task.kind j.gate) j) n))
    (λ done o. after (happens t event.Enter o) (λ done p. after (raised t state.Started p) (λ done q. told (line.Enter t) q))) there
    (let o : Held = with_instance x.instance (with_gate (entered t x.task.kind i1.gate) i1) n in
    at_every h (slice_get n.tasks t) x (λ z. happened (event_answer event.Enter z.task) t (advanced_slot event.Enter z) o)
    (λ done p. after (raised t state.Started p) (λ done q. told (line.Enter t) q)) (ap (λ (ts : List TaskSlot). slice_get ts t) same_tasks ∙ is)
    (acted_every h o t event.Enter x (λ done p. after (raised t state.Started p) (λ done q. told (line.Enter t) q)) refl
    (λ may none.
    let y : TaskSlot = slots.with_task (tasks.after event.Enter x.task) x in
    let p : Held = with_task t y o in
    at_every h (slice_get p.tasks t) y (λ z. if may_raise state.Started z.caller then Gives tt (with_task t (raised_slot state.Started z) p) else Stuck) (λ done q. told (line.Enter t) q)
    (get_set n.tasks t x y (ap (λ (ts : List TaskSlot). slice_get ts t) same_tasks ∙ is))
    (tested_every h (may_raise state.Started x.caller) (Gives tt (with_task t (raised_slot state.Started y) p)) (λ done q. told (line.Enter t) q)
    (λ rises.
    let q : Held = with_task t (raised_slot state.Started y) p in
    let r : Held = record q { labels = q.labels ++ line.Enter t ∷ [] } in
    entered_marks h r t x i waited is here runs e may rises free
    (set_twice n.tasks t y (raised_slot state.Started y) ∙ ap (λ (ts : List TaskSlot). slice_set ts t (raised_slot state.Started y)) same_tasks)
    (put (with_gate (entered t x.task.kind i1.gate) i1) ∙ ap (λ (j : InstanceView). slice_set h.instances x.instance j) gate_is))))))

by_wait : (h : Held) (t : ℕ) (x : TaskSlot) (i : InstanceView) (waited : Bool) → slice_get h.tasks t ≡ Some x → slice_get h.instances x.instance ≡ Some i → runs_func x.callee ≡ true
    → waits_to_enter x.task.phase ≡ waited → (needs_entry x.task.kind ≡ true → i.gate.holder ≡ None)
    → KeepsMarks h
    (after (unwaited_if waited t x.instance h)
    (λ done n. after (gate_entered x.instance t x.task.kind n) (λ done o. after (happens t event.Enter o) (λ done p. after (raised t state.Started p) (λ done q. told (line.Enter t) q)))))
unfolding gate_in
by_wait h t x i false is here runs e free = behind_wait h h t x i i false is here runs e free refl here (λ j. refl) refl
by_wait h t x i true is here runs e free =
    further_at h (slice_get h.instances x.instance) i (λ j. if nat_lt 0 j.gate.waiting then Gives tt (with_instance x.instance (with_gate (without_wait j.gate) j) h) else Stuck)
    (λ done k. unparked t k)
    (λ done n. after (gate_entered x.instance t x.task.kind n) (λ done o. after (happens t event.Enter o) (λ done p. after (raised t state.Started p) (λ done q. told (line.Enter t) q)))) here
    (further_tested h (nat_lt 0 i.gate.waiting) (Gives tt (with_instance x.instance (with_gate (without_wait i.gate) i) h)) (λ done k. unparked t k)
    (λ done n. after (gate_entered x.instance t x.task.kind n) (λ done o. after (happens t event.Enter o) (λ done p. after (raised t state.Started p) (λ done q. told (line.Enter t) q))))
    (let i1 : InstanceView = with_gate (without_wait i.gate) i in
    let k : Held = with_instance x.instance i1 h in
    let n : Held = record k { watched = watching t k.watched } in
    behind_wait h n t x i i1 true is here runs e free refl (get_set h.instances x.instance i i1 here) (λ j. set_twice h.instances x.instance i1 j) refl))
  where
    further_at : {A B C D : Type 0} (h : Held) (o : Option A) (x : A) (f : A → Done B) (c : B → Held → Done C) (d : C → Held → Done D) → o ≡ Some x → KeepsMarks h (after (after (f x) c) d)
        → KeepsMarks h (after (after (given o f) c) d)
    further_at h None x f c d e p = absurd (cc)
    further_at {A} h (Some y) x f c d e p = subst (λ (z : A). KeepsMarks h (after (after (f z) c) d)) (sym (some_same e)) p

    further_tested : {A B C : Type 0} (h : Held) (b : Bool) (e : Done A) (c : A → Held → Done B) (d : B → Held → Done C) → KeepsMarks h (after (after e c) d)
        → KeepsMarks h (after (after (if b then e else Stuck) c) d)
    further_tested h true e c d p = p
    further_tested h false e c d p = tt

pub enters_marks : (t : ℕ) (h : Held) → RunsFunction h t → EntersFree h t → KeepsMarks h (enters t h)
unfolding enters
enters_marks t h runs free =
    look_every h (slice_get h.tasks t) (λ x. Gives x.instance h)
    (λ at k. after (kind_of t k) (λ kind l. after (phase_of t l) (λ far m. after (unwaited_if (waits_to_enter far) t at m) (λ done n.
    after (gate_entered at t kind n) (λ done o. after (happens t event.Enter o) (λ done p. after (raised t state.Started p) (λ done q. told (line.Enter t) q)))))))
    (λ x is.
    at_every h (slice_get h.tasks t) x (λ y. Gives y.task.kind h)
    (λ kind l. after (phase_of t l) (λ far m. after (unwaited_if (waits_to_enter far) t x.instance m) (λ done n.
    after (gate_entered x.instance t kind n) (λ done o. after (happens t event.Enter o) (λ done p. after (raised t state.Started p) (λ done q. told (line.Enter t) q)))))) is
    (at_every h (slice_get h.tasks t) x (λ y. Gives y.task.phase h)
    (λ far m. after (unwaited_if (waits_to_enter far) t x.instance m) (λ done n.
    after (gate_entered x.instance t x.task.kind n) (λ done o. after (happens t event.Enter o) (λ done p. after (raised t state.Started p) (λ done q. told (line.Enter t) q))))) is
    (with_instance_there h t x (waits_to_enter x.task.phase) (slice_get h.instances x.instance) refl is (runs x is) refl (λ i here. free x i is here))))
  where
    none_every : {A B C : Type 0} (h : Held) (o : Option A) (f : A → Done B) (c : B → Held → Done C) → o ≡ None → KeepsMarks h (after (given o f) c)
    none_every h None f c e = tt
    none_every h (Some x) f c e = absurd (cc)

    none_further : {A B C D : Type 0} (h : Held) (o : Option A) (f : A → Done B) (c : B → Held → Done C) (d : C → Held → Done D) → o ≡ None → KeepsMarks h (after (after (given o f) c) d)
    none_further h None f c d e = tt
    none_further h (Some x) f c d e = absurd (cc)

    with_instance_there : (h : Held) (t : ℕ) (x : TaskSlot) (waited : Bool) (o : Option InstanceView) → slice_get h.instances x.instance ≡ o → slice_get h.tasks t ≡ Some x
        → runs_func x.callee ≡ true → waits_to_enter x.task.phase ≡ waited
        → ((i : InstanceView) → slice_get h.instances x.instance ≡ Some i → needs_entry x.task.kind ≡ true → i.gate.holder ≡ None)
        → KeepsMarks h
        (after (unwaited_if waited t x.instance h)
        (λ done n. after (gate_entered x.instance t x.task.kind n) (λ done o. after (happens t event.Enter o) (λ done p. after (raised t state.Started p) (λ done q. told (line.Enter t) q)))))
    with_instance_there h t x waited (Some i) here is runs e free = by_wait h t x i waited is here runs e (free i here)
    with_instance_there h t x true None none is runs e free =
        none_further h (slice_get h.instances x.instance) (λ j. if nat_lt 0 j.gate.waiting then Gives tt (with_instance x.instance (with_gate (without_wait j.gate) j) h) else Stuck)
        (λ done k. unparked t k)
        (λ done n. after (gate_entered x.instance t x.task.kind n) (λ done o. after (happens t event.Enter o) (λ done p. after (raised t state.Started p) (λ done q. told (line.Enter t) q)))) none
    with_instance_there h t x false None none is runs e free =
        none_every h (slice_get h.instances x.instance) (λ j. Gives tt (with_instance x.instance (with_gate (entered t x.task.kind j.gate) j) h))
        (λ done o. after (happens t event.Enter o) (λ done p. after (raised t state.Started p) (λ done q. told (line.Enter t) q))) none

-- It leaves.
pub acting_is : (p : Phase) → is_acting p ≡ true → p ≡ phase.Acting
acting_is phase.New e = absurd (cc)
acting_is phase.Acting e = refl
acting_is (phase.Blocked why flag) e = absurd (cc)
acting_is phase.Exited e = absurd (cc)

pub gone_state : (c : Cancellation) (r : Option Resolution) → resolved_state c r phase.Exited ≡ resolved_state c r phase.Acting
gone_state c None = refl
gone_state c (Some resolution.Returned) = refl
gone_state c (Some resolution.Cancelled) = refl

first_so : (b c : Bool) → (b && c) ≡ true → b ≡ true
first_so true c e = refl
first_so false c e = absurd (cc)

gone_marks : (h k : Held) (t : ℕ) (x : TaskSlot) (i : InstanceView) → slice_get h.tasks t ≡ Some x → slice_get h.instances x.instance ≡ Some i → runs_func x.callee ≡ true
    → is_acting x.task.phase ≡ true → OneHolds h → k.tasks ≡ slice_set h.tasks t (slots.with_task (tasks.after event.Exit x.task) x)
    → k.instances ≡ slice_set h.instances x.instance (with_gate (given_up t i.gate) i) → MarksStay h k
gone_marks h k t x i is here runs acts one tasks_are insts_are =
    let later : TaskView = tasks.after event.Exit x.task in
    let y : TaskSlot = slots.with_task later x in
    let p : x.task.phase ≡ phase.Acting = acting_is x.task.phase acts in
    alike_marks h k t x.instance x y i (with_gate (given_up t i.gate) i)
    (record {
      is = is;
      here = here;
      runs = runs_own x runs;
      same = λ n. refl;
      gate = goes_out h.tasks t x.instance x y Outside i.gate (record { is = is; runs = runs_own x runs; still = runs_own x runs; kind = refl; was = ap place_in p; place = refl }) refl refl
          (λ holding. holds_alone h x.instance t x is one holding);
      slots = refl;
      sets = λ index set stood marked. none_counted _ (counts_not x.instance index x (ap (waits_on index) p)) (counts_not x.instance index y refl);
    })
    tasks_are insts_are (waits_alike x y refl refl refl refl (λ index. sym (ap (waits_directly_at index) p)))
    (states_stay t x later (gone_state x.task.cancellation x.task.resolution ∙ ap (λ (q : Phase). resolved_state x.task.cancellation x.task.resolution q) (sym p)))

pub leaves_marks : (h : Held) → ((t : ℕ) → slice_get h.chain (length h.chain - 1) ≡ Some t → RunsFunction h t) → OneHolds h → KeepsMarks h (leaves h)
unfolding leaves
leaves_marks h runs one =
    look_every h (slice_get h.chain (length h.chain - 1)) (λ t. Gives t h)
    (λ t k. after (instance_of t k) (λ at l. after (happens t event.Exit l) (λ done m. after (gate_given_up at t m) (λ done n.
    after (closed t n) (λ done o. after (told (line.Exit t) o) (λ done p. left_chain p))))))
    (λ t acting.
    look_every h (slice_get h.tasks t) (λ x. Gives x.instance h)
    (λ at l. after (happens t event.Exit l) (λ done m. after (gate_given_up at t m) (λ done n. after (closed t n) (λ done o. after (told (line.Exit t) o) (λ done p. left_chain p)))))
    (λ x is.
    at_every h (slice_get h.tasks t) x (λ z. happened (event_answer event.Exit z.task) t (advanced_slot event.Exit z) h)
    (λ done m. after (gate_given_up x.instance t m) (λ done n. after (closed t n) (λ done o. after (told (line.Exit t) o) (λ done p. left_chain p)))) is
    (acted_every h h t event.Exit x (λ done m. after (gate_given_up x.instance t m) (λ done n. after (closed t n) (λ done o. after (told (line.Exit t) o) (λ done p. left_chain p)))) refl
    (λ may none.
    let m : Held = with_task t (slots.with_task (tasks.after event.Exit x.task) x) h in
    look_every h (slice_get h.instances x.instance) (λ i. Gives tt (with_instance x.instance (with_gate (given_up t i.gate) i) m))
    (λ done n. after (closed t n) (λ done o. after (told (line.Exit t) o) (λ done p. left_chain p)))
    (λ i here.
    let n : Held = with_instance x.instance (with_gate (given_up t i.gate) i) m in
    let o : Held = record n { live = without t n.live; watched = unwatched t n.watched } in
    every_through h o (after (told (line.Exit t) o) (λ done p. left_chain p))
    (gone_marks h o t x i is here (runs t acting x is) (first_so (is_acting x.task.phase) (is_some x.task.resolution || is_nobody x.task.caller) may) one refl refl) (told_and_left (line.Exit t) o))))))
