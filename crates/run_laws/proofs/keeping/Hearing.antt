-- Where an event of a set is to come next, subtasks were called from the instances in whose tables they stand, where they were before.
use Rattle.std.proofs.Common.{◌≡◌, inl, inr, ℕ, Bool, true, false, ◌&&◌, if◌then◌else◌, length, refl, sym, ap, ◌∙◌, Option, Some, None}
use Rattle.std.specs.Prelude.{◌-◌, List, [], ◌∷◌, Result, Ok, Err}
use Rattle.std.specs.List.{slice_get}
use Rattle.std.proofs.lemmas.Bool.{cases_eq}
use Rattle.handle_table.specs.Slots.{Slots, entry_at}
use Rattle.entry_gate.specs.Callbacks.{callback_of}
use Rattle.entry_gate.specs.declared.callback.BadCode.{BadCode}
use Rattle.entry_gate.specs.declared.callback.Next.{Next}
use Rattle.entry_gate.specs.declared.callback.Next.TheVariants as next
use Rattle.entry_gate.specs.Gates.{is_free, held_by}
use Rattle.tasks.specs.declared.event.BlockedAt.{BlockedAt}
use Rattle.tasks.specs.declared.event.BlockedAt.TheVariants as blocked_at
use Rattle.tasks.specs.declared.event.TaskEvent.TheVariants as event
use Rattle.tasks.specs.declared.phase.Phase.{Phase}
use Rattle.tasks.specs.declared.phase.Phase.TheVariants as phase
use Rattle.tasks.specs.Tasks.{may_happen, advanced, is_asked}
use Rattle.waitables.specs.Sets.{waited_off}
use Rattle.instances.specs.declared.entry.WorldEntry.{WorldEntry}
use Rattle.instances.specs.Calls.{is_there, has_waiter}
use Rattle.instances.specs.Instances.{InstanceView, entry_of, with_gate, with_sets}
use Rattle.task_table.specs.declared.errand.Errand.{Errand}
use Rattle.task_table.specs.declared.errand.Errand.TheVariants as errand
use Rattle.task_table.specs.declared.refusal.EventError.{EventError}
use Rattle.task_table.specs.declared.refusal.EventError.TheVariants as event_error
use Rattle.task_table.specs.declared.slot.TaskSlot.{TaskSlot}
use Rattle.task_table.specs.Slots as slots
use Rattle.task_table.specs.Slots.{event_answer, advanced_slot, at_errand, is_to_be_told}
use Rattle.world_parts.specs.declared.parts.Flow.{Flow}
use Rattle.world_parts.specs.declared.parts.Flow.TheVariants as flow
use Rattle.world_parts.specs.declared.parts.Rest.TheVariants as rest
use Rattle.world_parts.specs.Held.{Held, Done, Gives, Traps, Spent, Stuck, after, given}
use Rattle.world_parts.specs.Entries.{with_instance, set_number, set_known, set_waited_off}
use Rattle.world_parts.specs.Feed.{got}
use Rattle.world_parts.specs.Gates.{entry_is_free, gate_taken_back}
use Rattle.world_parts.specs.Slots.{with_task, instance_of, phase_of, to_be_told, word_in, happened, happens, errand_set}
use Rattle.world_parts.specs.Calls.{back}
use Rattle.world_parts.specs.Plain.{yield_cancelled}
use Rattle.world_parts.specs.Turning.{goes}
use Rattle.world_parts.specs.Going.{arrives, leaves, loop_flow, yield_flow, set_flow, loop_resumed_at, loop_resumed_by, loop_resumed, yield_resumed, set_resumed, call_resumed, copy_resumed, cancel_resumed, place_of, wait_resumed, builtin_resumed, resumed_in, resumed_from, resumed_by, resumes}
use Rattle.machine_runs.specs.Calling.{calls}
use Rattle.replies.specs.Seen.{seen}
use Rattle.standing.specs.KeptMarks.{runs_at}
use Rattle.standing.proofs.marks.Tables.{put_same, put_other}
use Rattle.run_laws.specs.keeping.Hearing.{OwnStay, OwnIfHears, OwnBehind, HearsOwn}
use Rattle.run_laws.proofs.keeping.Carried.{from_task}
use Rattle.run_laws.proofs.silent.Silent.{SilentBy}
use Rattle.run_laws.proofs.silent.Feed.{got_silent}
use Rattle.run_laws.proofs.silent.Plain.{yield_cancelled_silent}
use Rattle.run_laws.proofs.silent.Calls.{back_silent}
use Rattle.run_laws.proofs.silent.Going.{arrives_silent, leaves_silent, call_resumed_silent, copy_resumed_silent, cancel_resumed_silent}
use Rattle.run_laws.proofs.silent.Calling.{calls_silent}

-- Where no event is to come nothing is asked.
silent_own : (h : Held) (d : Done Flow) → SilentBy d → OwnBehind h d
silent_own h (Gives (flow.Now words) k) p = tt
silent_own h (Gives flow.Rests k) p = tt
silent_own h (Gives (flow.Starts ref words) k) p = tt
silent_own h (Gives flow.Enters k) p = tt
silent_own h (Gives flow.Returns k) p = tt
silent_own h (Gives (flow.Copies copying) k) p = tt
silent_own h (Gives (flow.Delivers r set) k) p = absurd p
silent_own h (Gives (flow.Polls r set) k) p = absurd p
silent_own h (Gives (flow.HearsNone r) k) p = tt
silent_own h (Gives (flow.HearsCancel r) k) p = tt
silent_own h (Traps why k) p = tt
silent_own h (Spent k) p = tt
silent_own h Stuck p = tt

own_same : (h : Held) → OwnStay h h
own_same h at own = own

own_if_hears : (h k : Held) (x : Flow) → OwnStay h k → OwnIfHears h x k
own_if_hears h k (flow.Now words) p = tt
own_if_hears h k flow.Rests p = tt
own_if_hears h k (flow.Starts ref words) p = tt
own_if_hears h k flow.Enters p = tt
own_if_hears h k flow.Returns p = tt
own_if_hears h k (flow.Copies copying) p = tt
own_if_hears h k (flow.Delivers r set) p = p
own_if_hears h k (flow.Polls r set) p = p
own_if_hears h k (flow.HearsNone r) p = tt
own_if_hears h k (flow.HearsCancel r) p = tt

own_further : (h k l : Held) (x : Flow) → OwnStay h k → OwnIfHears k x l → OwnIfHears h x l
own_further h k l (flow.Now words) p q = tt
own_further h k l flow.Rests p q = tt
own_further h k l (flow.Starts ref words) p q = tt
own_further h k l flow.Enters p q = tt
own_further h k l flow.Returns p q = tt
own_further h k l (flow.Copies copying) p q = tt
own_further h k l (flow.Delivers r set) p q = λ at own. q at (p at own)
own_further h k l (flow.Polls r set) p q = λ at own. q at (p at own)
own_further h k l (flow.HearsNone r) p q = tt
own_further h k l (flow.HearsCancel r) p q = tt

own_through : (h k : Held) (d : Done Flow) → OwnStay h k → OwnBehind k d → OwnBehind h d
own_through h k (Gives x l) p q = own_further h k l x p q
own_through h k (Traps why l) p q = tt
own_through h k (Spent l) p q = tt
own_through h k Stuck p q = tt

-- What follows a look changes nothing of what it looks at.
own_look : {A B : Type 0} (h : Held) (o : Option A) (f : A → Done B) (c : B → Held → Done Flow) → ((x : A) → o ≡ Some x → OwnBehind h (after (f x) c)) → OwnBehind h (after (given o f) c)
own_look h None f c p = tt
own_look h (Some x) f c p = p x refl

own_tested : {A : Type 0} (h : Held) (b : Bool) (d : Done A) (c : A → Held → Done Flow) → OwnBehind h (after d c) → OwnBehind h (after (if b then d else Stuck) c)
own_tested h true d c p = p
own_tested h false d c p = tt

own_if : (h : Held) (b : Bool) (d e : Done Flow) → OwnBehind h d → OwnBehind h e → OwnBehind h (if b then d else e)
own_if h true d e p q = p
own_if h false d e p q = q

-- A task is another one, for the same caller, which runs where it ran; and an instance has the same table.
task_own : (h : Held) (t : ℕ) (x y : TaskSlot) → slice_get h.tasks t ≡ Some x → y.caller ≡ x.caller → ((n : ℕ) → runs_at n y ≡ runs_at n x) → OwnStay h (with_task t y h)
task_own h t x y is caller runs at own index callee i here stood = from_task h t at callee x y is caller (runs at) (own index callee i here stood)

slots_own : (h : Held) (n : ℕ) (i j : InstanceView) → slice_get h.instances n ≡ Some i → j.slots ≡ i.slots → OwnStay h (with_instance n j h)
slots_own h n i j is same at own index callee z here stood =
    elim (cases_eq at n) [
      | inl e ↦
          let now : z ≡ j = put_same h.instances n at i j z is here e in
          own index callee i (ap (λ (k : ℕ). slice_get h.instances k) e ∙ is)
          (ap (λ (s : Slots WorldEntry). entry_at s index) (sym same) ∙ ap (λ (y : InstanceView). entry_of y index) (sym now) ∙ stood)
      | inr other ↦ own index callee z (put_other h.instances n at j z here other) stood
    ]

happened_own : (h : Held) (r : Result (Unit {0}) EventError) (t : ℕ) (y : TaskSlot) (c : Unit {0} → Held → Done Flow) → OwnStay h (with_task t y h) → OwnBehind (with_task t y h) (c tt (with_task t y h))
    → OwnBehind h (after (happened r t y h) c)
happened_own h (Ok done) t y c p q = own_through h (with_task t y h) (c tt (with_task t y h)) p q
happened_own h (Err event_error.NotNow) t y c p q = tt
happened_own h (Err (event_error.Trap why)) t y c p q = tt

same_if : {A : Type 0} (f : TaskSlot → A) (b : Bool) (x y : TaskSlot) → f y ≡ f x → f (if b then y else x) ≡ f x
same_if f true x y e = e
same_if f false x y e = refl

goes_own : (h : Held) (t : ℕ) (c : Unit {0} → Held → Done Flow) → ((k : Held) → OwnBehind k (c tt k)) → OwnBehind h (after (happens t event.Go h) c)
goes_own h t c p =
    own_look h (slice_get h.tasks t) (λ x. happened (event_answer event.Go x.task) t (advanced_slot event.Go x) h) c
    (λ x is.
    happened_own h (event_answer event.Go x.task) t (advanced_slot event.Go x) c
    (task_own h t x (advanced_slot event.Go x) is (same_if (λ (s : TaskSlot). s.caller) (may_happen event.Go x.task) x (slots.with_task (advanced event.Go x.task) x) refl)
    (λ n. same_if (runs_at n) (may_happen event.Go x.task) x (slots.with_task (advanced event.Go x.task) x) refl))
    (p (with_task t (advanced_slot event.Go x) h)))

errand_own : (h : Held) (t : ℕ) (e : Errand) (c : Unit {0} → Held → Done Flow) → ((k : Held) → OwnBehind k (c tt k)) → OwnBehind h (after (errand_set t e h) c)
errand_own h t e c p =
    own_look h (slice_get h.tasks t) (λ x. Gives (tt {0}) (with_task t (at_errand e x) h)) c
    (λ x is. own_through h (with_task t (at_errand e x) h) (c tt (with_task t (at_errand e x) h)) (task_own h t x (at_errand e x) is refl (λ n. refl)) (p (with_task t (at_errand e x) h)))

-- A task ceases to wait on a set.
off_own : (h : Held) (at index : ℕ) (f : ℕ → Flow) → OwnBehind h (after (set_known at index h) (λ set k. after (set_waited_off at set k) (λ done l. Gives (f set) l)))
off_own h at index f =
    own_look h (slice_get h.instances at) (λ i. given (set_number (entry_of i index)) (λ set. Gives set h)) (λ set k. after (set_waited_off at set k) (λ done l. Gives (f set) l))
    (λ i is.
    own_look h (set_number (entry_of i index)) (λ set. Gives set h) (λ set k. after (set_waited_off at set k) (λ done l. Gives (f set) l))
    (λ set found.
    own_look h (slice_get h.instances at)
    (λ j. if is_there set j.sets && has_waiter set j.sets then Gives (tt {0}) (with_instance at (with_sets (waited_off set j.sets) j) h) else Stuck) (λ done l. Gives (f set) l)
    (λ j there.
    own_tested h (is_there set j.sets && has_waiter set j.sets) (Gives (tt {0}) (with_instance at (with_sets (waited_off set j.sets) j) h)) (λ done l. Gives (f set) l)
    (own_if_hears h (with_instance at (with_sets (waited_off set j.sets) j) h) (f set) (slots_own h at j (with_sets (waited_off set j.sets) j) there refl)))))

-- In its loop.
loop_by_own : (h : Held) (at : ℕ) (is_asked : Bool) (r : Result Next BadCode) → OwnBehind h (loop_resumed_by at is_asked r h)
unfolding loop_resumed_at
loop_by_own h at is_asked (Err why) = tt
loop_by_own h at is_asked (Ok next.Exit) = tt
loop_by_own h at is_asked (Ok next.Yield) = own_if_hears h h (yield_flow is_asked) (own_same h)
loop_by_own h at is_asked (Ok (next.Wait index)) = off_own h at index (loop_flow is_asked false)
loop_by_own h at is_asked (Ok (next.Poll index)) = off_own h at index (loop_flow is_asked true)

loop_own : (h : Held) (t at word : ℕ) → OwnBehind h (loop_resumed t at word h)
unfolding loop_resumed
loop_own h t at word =
    own_look h (slice_get h.tasks t) (λ x. Gives (is_asked x.task.cancellation) h)
    (λ is_asked k. after (happens t event.Go k) (λ done l. after (gate_taken_back at t l) (λ done m. loop_resumed_by at is_asked (callback_of word) m)))
    (λ x is.
    goes_own h t (λ done l. after (gate_taken_back at t l) (λ done m. loop_resumed_by at (is_asked x.task.cancellation) (callback_of word) m))
    (λ l.
    own_look l (slice_get l.instances at) (λ i. Gives (tt {0}) (with_instance at (with_gate (held_by t i.gate) i) l))
    (λ done m. loop_resumed_by at (is_asked x.task.cancellation) (callback_of word) m)
    (λ i here.
    own_through l (with_instance at (with_gate (held_by t i.gate) i) l) (loop_resumed_by at (is_asked x.task.cancellation) (callback_of word) (with_instance at (with_gate (held_by t i.gate) i) l))
    (slots_own l at i (with_gate (held_by t i.gate) i) here refl)
    (loop_by_own (with_instance at (with_gate (held_by t i.gate) i) l) at (is_asked x.task.cancellation) (callback_of word)))))

-- In a built-in.
wait_yields : (h : Held) (t : ℕ) (told_so : Bool) → OwnBehind h (yield_resumed t told_so h)
unfolding yield_resumed
wait_yields h t told_so =
    own_if h told_so (yield_cancelled t h) (got t (0 ∷ []) h) (silent_own h (yield_cancelled t h) (yield_cancelled_silent t h)) (silent_own h (got t (0 ∷ []) h) (got_silent t (0 ∷ []) h))

wait_own : (h : Held) (t at canon : ℕ) (told_so : Bool) (place : ℕ) (why : BlockedAt) → OwnBehind h (wait_resumed t at canon told_so place why h)
unfolding set_resumed
wait_own h t at canon told_so place blocked_at.Entry = tt
wait_own h t at canon told_so place (blocked_at.Loop word) = tt
wait_own h t at canon told_so place blocked_at.Yield = wait_yields h t told_so
wait_own h t at canon told_so place (blocked_at.Set index) = off_own h at index (set_flow told_so canon place)
wait_own h t at canon told_so place (blocked_at.Call callee) = silent_own h (call_resumed t at callee h) (call_resumed_silent t at callee h)
wait_own h t at canon told_so place (blocked_at.Copy index) = silent_own h (copy_resumed t at index h) (copy_resumed_silent t at index h)
wait_own h t at canon told_so place (blocked_at.Cancel index) = silent_own h (cancel_resumed t at index h) (cancel_resumed_silent t at index h)

place_own : (h : Held) (t : ℕ) (why : BlockedAt) (c : ℕ → Held → Done Flow) → ((place : ℕ) → OwnBehind h (c place h)) → OwnBehind h (after (place_of t why h) c)
place_own h t blocked_at.Entry c p = p 0
place_own h t (blocked_at.Loop word) c p = p 0
place_own h t blocked_at.Yield c p = p 0
place_own h t (blocked_at.Set index) c p =
    own_look h (slice_get h.tasks t) (λ x. given (word_in x.at_words 1) (λ word. Gives word h)) c
    (λ x is. own_look h (word_in x.at_words 1) (λ word. Gives word h) c (λ word found. p word))
place_own h t (blocked_at.Call callee) c p = p 0
place_own h t (blocked_at.Copy index) c p = p 0
place_own h t (blocked_at.Cancel index) c p = p 0

-- What comes behind two looks.
own_deep : {A B C : Type 0} (h : Held) (o : Option A) (f : A → Done B) (c : B → Held → Done C) (d : C → Held → Done Flow) → ((x : A) → o ≡ Some x → OwnBehind h (after (after (f x) c) d))
    → OwnBehind h (after (after (given o f) c) d)
own_deep h None f c d p = tt
own_deep h (Some x) f c d p = p x refl

told_own : (h : Held) (t : ℕ) (c : Bool → Held → Done Flow) → ((told_so : Bool) → OwnBehind h (c told_so h)) → OwnBehind h (after (to_be_told t h) c)
told_own h t c p =
    own_deep h (slice_get h.tasks t) (λ x. Gives x.instance h) (λ at k. after (entry_is_free at k) (λ free l. given (slice_get l.tasks t) (λ slot. Gives (is_to_be_told free slot.task) l))) c
    (λ x is.
    own_deep h (slice_get h.instances x.instance) (λ i. Gives (is_free i.gate) h) (λ free l. given (slice_get l.tasks t) (λ slot. Gives (is_to_be_told free slot.task) l)) c
    (λ i here. own_look h (slice_get h.tasks t) (λ slot. Gives (is_to_be_told (is_free i.gate) slot.task) h) c (λ y found. p (is_to_be_told (is_free i.gate) y.task))))

builtin_own : (h : Held) (t at canon : ℕ) (why : BlockedAt) → OwnBehind h (builtin_resumed t at canon why h)
unfolding builtin_resumed
builtin_own h t at canon why =
    told_own h t (λ told_so k. after (place_of t why k) (λ place l. after (happens t event.Go l) (λ done m. after (errand_set t errand.None m) (λ done n. wait_resumed t at canon told_so place why n))))
    (λ told_so.
    place_own h t why (λ place l. after (happens t event.Go l) (λ done m. after (errand_set t errand.None m) (λ done n. wait_resumed t at canon told_so place why n)))
    (λ place.
    goes_own h t (λ done m. after (errand_set t errand.None m) (λ done n. wait_resumed t at canon told_so place why n))
    (λ m. errand_own m t errand.None (λ done n. wait_resumed t at canon told_so place why n) (λ n. wait_own n t at canon told_so place why))))

in_own : (h : Held) (t at : ℕ) (why : BlockedAt) (e : Errand) → OwnBehind h (resumed_in t at why e h)
in_own h t at why errand.None = tt
in_own h t at why (errand.AfterCall callee canon) = tt
in_own h t at why (errand.AfterCancel callee canon index) = tt
in_own h t at why (errand.Begins n) = tt
in_own h t at why (errand.InBuiltin canon) = builtin_own h t at canon why

from_own : (h : Held) (t at : ℕ) (why : BlockedAt) → OwnBehind h (resumed_from t at why h)
unfolding resumed_from
from_own h t at why = own_look h (slice_get h.tasks t) (λ x. Gives x.errand h) (λ e k. resumed_in t at why e k) (λ x is. in_own h t at why x.errand)

by_own : (h : Held) (t at : ℕ) (p : Phase) → OwnBehind h (resumed_by t at p h)
by_own h t at phase.New = tt
by_own h t at phase.Acting = tt
by_own h t at (phase.Blocked blocked_at.Entry flag) = tt
by_own h t at (phase.Blocked (blocked_at.Loop word) flag) = loop_own h t at word
by_own h t at (phase.Blocked blocked_at.Yield flag) = from_own h t at blocked_at.Yield
by_own h t at (phase.Blocked (blocked_at.Set index) flag) = from_own h t at (blocked_at.Set index)
by_own h t at (phase.Blocked (blocked_at.Call callee) flag) = from_own h t at (blocked_at.Call callee)
by_own h t at (phase.Blocked (blocked_at.Copy index) flag) = from_own h t at (blocked_at.Copy index)
by_own h t at (phase.Blocked (blocked_at.Cancel index) flag) = from_own h t at (blocked_at.Cancel index)
by_own h t at phase.Exited = tt

resumes_own : (h : Held) → OwnBehind h (resumes h)
unfolding resumes
resumes_own h =
    own_look h (slice_get h.chain (length h.chain - 1)) (λ t. Gives t h) (λ t k. after (instance_of t k) (λ at l. after (phase_of t l) (λ far m. resumed_by t at far m)))
    (λ t acts.
    own_look h (slice_get h.tasks t) (λ x. Gives x.instance h) (λ at l. after (phase_of t l) (λ far m. resumed_by t at far m))
    (λ x is. own_look h (slice_get h.tasks t) (λ y. Gives y.task.phase h) (λ far m. resumed_by t x.instance far m) (λ y found. by_own h t x.instance y.task.phase)))

rests_own : {A : Type 0} (h : Held) (d : Done A) → OwnBehind h (after d (λ done k. Gives flow.Rests k))
rests_own h (Gives x k) = tt
rests_own h (Traps why k) = tt
rests_own h (Spent k) = tt
rests_own h Stuck = tt

pub hears_own : HearsOwn
hears_own g types (rest.Instantiates number) h = tt
hears_own g types rest.Free h = tt
hears_own g types rest.Arrives h = silent_own h (arrives h) (arrives_silent h)
hears_own g types rest.Goes h = rests_own h (goes h)
hears_own g types rest.Resumes h = resumes_own h
hears_own g types rest.Back h = silent_own h (back (seen g) h) (back_silent (seen g) h)
hears_own g types rest.Runs h = tt
hears_own g types (rest.Calls number) h = silent_own h (calls g types number h) (calls_silent g types number h)
hears_own g types rest.Leaves h = silent_own h (leaves h) (leaves_silent h)
