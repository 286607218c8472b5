-- What a blocked task that goes on leaves of what is kept, where an event is to come to it: it acts, and of one instance the gate and who waits on sets have changed;
-- where its cancellation comes this is asked; and where the event comes at its wait it has kept the place.
use Rattle.std.proofs.Common.{◌≡◌, inl, inr, ◌-◌, ℕ, Bool, true, false, ◌&&◌, if◌then◌else◌, [], ◌∷◌, length, refl, sym, ap, ◌∙◌, subst, Option, Some, None, Result, Ok, Err}
use Rattle.std.specs.Prelude.{IsSome}
use Rattle.std.specs.List.{slice_get}
use Rattle.entry_gate.specs.Callbacks.{callback_of}
use Rattle.entry_gate.specs.declared.kind.Kind.{Kind}
use Rattle.entry_gate.specs.declared.callback.BadCode.{BadCode}
use Rattle.entry_gate.specs.declared.callback.Next.{Next}
use Rattle.entry_gate.specs.declared.callback.Next.TheVariants as next
use Rattle.entry_gate.specs.Gates as gate
use Rattle.entry_gate.specs.Gates.{is_free, held_by}
use Rattle.tasks.specs.Tasks.{is_asked, may_happen}
use Rattle.tasks.specs.declared.event.BlockedAt.{BlockedAt}
use Rattle.tasks.specs.declared.event.BlockedAt.TheVariants as blocked_at
use Rattle.tasks.specs.declared.event.TaskEvent.TheVariants as event
use Rattle.tasks.specs.declared.phase.Phase.{Phase}
use Rattle.tasks.specs.declared.phase.Phase.TheVariants as phase
use Rattle.waitables.specs.Sets.{waited_off}
use Rattle.instances.specs.Instances.{InstanceView, entry_of, with_sets, with_gate}
use Rattle.instances.specs.Calls.{is_there, has_waiter}
use Rattle.instances.specs.declared.entry.WorldEntry.{WorldEntry}
use Rattle.instances.specs.declared.entry.WorldEntry.TheVariants as entry
use Rattle.trace_labels.specs.declared.label.BlockReason.TheVariants as reason
use Rattle.task_table.specs.declared.refusal.EventError.{EventError}
use Rattle.task_table.specs.declared.refusal.EventError.TheVariants as event_error
use Rattle.task_table.specs.declared.errand.Errand.{Errand}
use Rattle.task_table.specs.declared.errand.Errand.TheVariants as errand
use Rattle.task_table.specs.declared.slot.TaskSlot.{TaskSlot}
use Rattle.task_table.specs.Slots.{event_answer, advanced_slot, is_to_be_told, at_errand, waits_directly_at, ends_wait}
use Rattle.world_parts.specs.declared.parts.Flow.{Flow}
use Rattle.world_parts.specs.declared.parts.Flow.TheVariants as flow
use Rattle.world_parts.specs.declared.parts.Receiver.{Receiver}
use Rattle.world_parts.specs.declared.parts.Receiver.TheVariants as receiver
use Rattle.world_parts.specs.Held.{Held, Done, Gives, Traps, Spent, Stuck, after, given}
use Rattle.world_parts.specs.Entries.{with_instance, entry_found, subtask_known, set_number, set_waited_off}
use Rattle.world_parts.specs.Events.{end_told}
use Rattle.world_parts.specs.Calls.{blocked, subtask_told}
use Rattle.world_parts.specs.Gates.{may_enter, entry_is_free, gate_waited, gate_taken_back}
use Rattle.world_parts.specs.Going.{loop_flow, yield_flow, loop_resumed_at, loop_resumed_by, loop_resumed, yield_resumed, set_flow, set_resumed, call_resumed, cancel_resumed, copy_resumed_of, copy_resumed, wait_resumed, place_of, builtin_resumed, resumed_in, resumed_from, resumed_by, resumes, arrives}
use Rattle.world_parts.specs.Plain.{yield_cancelled}
use Rattle.world_parts.specs.Slots.{with_task, instance_of, kind_of, phase_of, errand_of, happens, happened, errand_set, to_be_told, word_in, result_found, awaited, parked}
use Rattle.world_parts.specs.Feed.{got}
use Rattle.abi_machine.proofs.sound.Found.{some_same}
use Rattle.run_laws.proofs.keeping.Sums.{set_cases, still_there}
use Rattle.run_laws.proofs.plain.Feed.{got_plain}
use Rattle.run_laws.proofs.plain.Only.{IsPlain, PlainBy, plain_after, plain_if}
use Rattle.run_laws.proofs.plain.Plain.{yield_cancelled_plain}
use Rattle.run_laws.proofs.plain.Calls.{blocked_plain}

-- A slot of the number of a task, as it was and as it is once that task goes on.
pub record SlotWoke (t n : ℕ) (x y : TaskSlot) : Type 0 where
  pub callee : y.callee ≡ x.callee
  pub instance : y.instance ≡ x.instance
  pub caller : y.caller ≡ x.caller
  pub cancellation : y.task.cancellation ≡ x.task.cancellation
  pub waits : (index : ℕ) → waits_directly_at index y.task.phase ≡ waits_directly_at index x.task.phase
  pub others : (n ≡ t → ⊥) → y ≡ x

pub record Woke (t : ℕ) (h k : Held) : Type 0 where
  pub chain : k.chain ≡ h.chain
  pub store : k.store ≡ h.store
  pub memories : k.memories ≡ h.memories
  pub streams : k.streams ≡ h.streams
  pub futures : k.futures ≡ h.futures
  pub slots : (n : ℕ) → IsSome (slice_get h.tasks n) → IsSome (slice_get k.tasks n)
  pub insts : (n : ℕ) → IsSome (slice_get h.instances n) → IsSome (slice_get k.instances n)
  pub tasks : (n : ℕ) (y : TaskSlot) → slice_get k.tasks n ≡ Some y → (x : TaskSlot) × (slice_get h.tasks n ≡ Some x) × SlotWoke t n x y
  pub instances : (n : ℕ) (j : InstanceView) → slice_get k.instances n ≡ Some j → (i : InstanceView) × (slice_get h.instances n ≡ Some i) × (j.slots ≡ i.slots)

slot_same : (t n : ℕ) (x : TaskSlot) → SlotWoke t n x x
slot_same t n x = record { callee = refl; instance = refl; caller = refl; cancellation = refl; waits = λ index. refl; others = λ other. refl }

slot_then : (t n : ℕ) (x y z : TaskSlot) → SlotWoke t n x y → SlotWoke t n y z → SlotWoke t n x z
slot_then t n x y z p q = record {
  callee = q.callee ∙ p.callee;
  instance = q.instance ∙ p.instance;
  caller = q.caller ∙ p.caller;
  cancellation = q.cancellation ∙ p.cancellation;
  waits = λ index. q.waits index ∙ p.waits index;
  others = λ other. q.others other ∙ p.others other;
}

pub woke_same : (t : ℕ) (h : Held) → Woke t h h
woke_same t h = record {
  chain = refl;
  store = refl;
  memories = refl;
  streams = refl;
  futures = refl;
  slots = λ n there. there;
  insts = λ n there. there;
  tasks = λ n y there. (y, there, slot_same t n y);
  instances = λ n j here. (j, here, refl);
}

pub woke_then : (t : ℕ) (h k l : Held) → Woke t h k → Woke t k l → Woke t h l
woke_then t h k l p q = record {
  chain = q.chain ∙ p.chain;
  store = q.store ∙ p.store;
  memories = q.memories ∙ p.memories;
  streams = q.streams ∙ p.streams;
  futures = q.futures ∙ p.futures;
  slots = λ n there. q.slots n (p.slots n there);
  insts = λ n there. q.insts n (p.insts n there);
  tasks = λ n z there. (
      let y = q.tasks n z there in
      let x = p.tasks n y.0 y.1 in
      (x.0, x.1, slot_then t n x.0 y.0 z x.2 y.2)
      );
  instances = λ n z here. (
      let y = q.instances n z here in
      let x = p.instances n y.0 y.1 in
      (x.0, x.1, y.2 ∙ x.2)
      );
}

pub woke_task : (t : ℕ) (h : Held) (x y : TaskSlot) → slice_get h.tasks t ≡ Some x → SlotWoke t t x y → Woke t h (with_task t y h)
woke_task t h x y is woke = record {
  chain = refl;
  store = refl;
  memories = refl;
  streams = refl;
  futures = refl;
  slots = λ n there. still_there h.tasks t n y there;
  insts = λ n there. there;
  tasks = λ n z there. elim (set_cases h.tasks t y n z there) [
    | inl e ↦ (x, ap (λ (m : ℕ). slice_get h.tasks m) e.0 ∙ is, subst (λ (u : TaskSlot). SlotWoke t n x u) (sym e.1) (subst (λ (m : ℕ). SlotWoke t m x y) (sym e.0) woke))
    | inr other ↦ (z, other.1, slot_same t n z)
  ];
  instances = λ n j here. (j, here, refl);
}

pub woke_inst : (t : ℕ) (h : Held) (at : ℕ) (i j : InstanceView) → slice_get h.instances at ≡ Some i → j.slots ≡ i.slots → Woke t h (with_instance at j h)
woke_inst t h at i j is same = record {
  chain = refl;
  store = refl;
  memories = refl;
  streams = refl;
  futures = refl;
  slots = λ n there. there;
  insts = λ n there. still_there h.instances at n j there;
  tasks = λ n y there. (y, there, slot_same t n y);
  instances = λ n z here. elim (set_cases h.instances at j n z here) [
    | inl e ↦ (i, ap (λ (m : ℕ). slice_get h.instances m) e.0 ∙ is, ap (λ (u : InstanceView). u.slots) e.1 ∙ same)
    | inr other ↦ (z, other.1, refl)
  ];
}

-- What is so of the acting task, of what gets the event.
abbrev PlaceIn : TaskSlot → Receiver → Type 0
PlaceIn x (receiver.InWait canon place) = (x.errand ≡ errand.InBuiltin canon) × (word_in x.at_words 1 ≡ Some place) × ((index : ℕ) × (flag : Bool) × (x.task.phase ≡ phase.Blocked (blocked_at.Set index) flag))
PlaceIn x receiver.InCallback = Unit {0}

pub record Wakes (h k : Held) (r : Receiver) : Type 0 where
  pub number : ℕ
  pub slot : TaskSlot
  pub last : slice_get h.chain (length h.chain - 1) ≡ Some number
  pub there : slice_get h.tasks number ≡ Some slot
  pub woke : Woke number h k
  pub place : PlaceIn slot r

abbrev pub HearsFrom : Held → Flow → Held → Type 0
HearsFrom h (flow.Now words) k = Unit {0}
HearsFrom h flow.Rests k = Unit {0}
HearsFrom h (flow.Starts ref words) k = Unit {0}
HearsFrom h flow.Enters k = k ≡ h
HearsFrom h flow.Returns k = Unit {0}
HearsFrom h (flow.Copies copying) k = Unit {0}
HearsFrom h (flow.Delivers r set) k = Wakes h k r
HearsFrom h (flow.Polls r set) k = Wakes h k r
HearsFrom h (flow.HearsNone r) k = Wakes h k r
HearsFrom h (flow.HearsCancel r) k = (x : Wakes h k r) × (is_asked x.slot.task.cancellation ≡ true)

abbrev pub HeardBy : Held → Done Flow → Type 0
HeardBy h (Gives what k) = HearsFrom h what k
HeardBy h (Traps why k) = Unit {0}
HeardBy h (Spent k) = Unit {0}
HeardBy h Stuck = Unit {0}

plain_flow : (h k : Held) (x : Flow) → IsPlain x → HearsFrom h x k
plain_flow h k (flow.Now words) p = tt
plain_flow h k flow.Rests p = tt
plain_flow h k (flow.Starts ref words) p = tt
plain_flow h k flow.Enters p = absurd p
plain_flow h k flow.Returns p = absurd p
plain_flow h k (flow.Copies copying) p = absurd p
plain_flow h k (flow.Delivers r set) p = absurd p
plain_flow h k (flow.Polls r set) p = absurd p
plain_flow h k (flow.HearsNone r) p = absurd p
plain_flow h k (flow.HearsCancel r) p = absurd p

by_plain : (h : Held) (d : Done Flow) → PlainBy d → HeardBy h d
by_plain h (Gives x k) p = plain_flow h k x p
by_plain h (Traps why k) p = tt
by_plain h (Spent k) p = tt
by_plain h Stuck p = tt

-- What is looked up, and what follows two parts of which the first looks.
look : {A B : Type 0} (h : Held) (o : Option A) (f : A → Done B) (c : B → Held → Done Flow) → ((x : A) → o ≡ Some x → HeardBy h (after (f x) c)) → HeardBy h (after (given o f) c)
look h None f c p = tt
look h (Some x) f c p = p x refl

further : {A B C : Type 0} (h : Held) (o : Option A) (f : A → Done B) (c : B → Held → Done C) (d : C → Held → Done Flow) → ((x : A) → o ≡ Some x → HeardBy h (after (after (f x) c) d))
    → HeardBy h (after (after (given o f) c) d)
further h None f c d p = tt
further h (Some x) f c d p = p x refl

tested : {A : Type 0} (h : Held) (b : Bool) (d : Done A) (c : A → Held → Done Flow) → HeardBy h (after d c) → HeardBy h (after (if b then d else Stuck) c)
tested h true d c p = p
tested h false d c p = tt

-- It goes on.
on_going : (h k : Held) (t : ℕ) (c : Unit {0} → Held → Done Flow) → ((x : TaskSlot) → slice_get k.tasks t ≡ Some x → may_happen event.Go x.task ≡ true → HeardBy h (c tt (with_task t (advanced_slot event.Go x) k)))
    → HeardBy h (after (happens t event.Go k) c)
on_going h k t c p = look h (slice_get k.tasks t) (λ slot. happened (event_answer event.Go slot.task) t (advanced_slot event.Go slot) k) c (λ x is. by x is (may_happen event.Go x.task) refl)
  where
    by : (x : TaskSlot) → slice_get k.tasks t ≡ Some x → (b : Bool) → may_happen event.Go x.task ≡ b → HeardBy h (after (happened (event_answer event.Go x.task) t (advanced_slot event.Go x) k) c)
    by x is true may =
        subst (λ (r : Result (Unit {0}) EventError). HeardBy h (after (happened r t (advanced_slot event.Go x) k) c)) (sym (ap (λ (b : Bool). (let r : Result (Unit {0}) EventError = if b then Ok tt else Err event_error.NotNow in r)) may)) (p x is may)
    by x is false may =
        subst (λ (r : Result (Unit {0}) EventError). HeardBy h (after (happened r t (advanced_slot event.Go x) k) c)) (sym (ap (λ (b : Bool). (let r : Result (Unit {0}) EventError = if b then Ok tt else Err event_error.NotNow in r)) may)) tt

-- It did not wait directly for what stands at an index.
went_on : (t : ℕ) (x : TaskSlot) (why : BlockedAt) (flag : Bool) → x.task.phase ≡ phase.Blocked why flag → ((index : ℕ) → waits_directly_at index (phase.Blocked why flag) ≡ false) → may_happen event.Go x.task ≡ true
    → SlotWoke t t x (advanced_slot event.Go x)
went_on t x why flag far none may =
    let later : TaskSlot = record x { task = record x.task { phase = phase.Acting } } in
    subst (λ (b : Bool). SlotWoke t t x (if b then later else x)) (sym may)
    (record {
      callee = refl;
      instance = refl;
      caller = refl;
      cancellation = refl;
      waits = λ index. sym (ap (waits_directly_at index) far ∙ none index);
      others = λ other. absurd (other refl);
    })

-- In its loop.
module _ (h : Held) (t at : ℕ) (x : TaskSlot) (word : ℕ) (flag : Bool) (last : slice_get h.chain (length h.chain - 1) ≡ Some t) (there : slice_get h.tasks t ≡ Some x)
    (far : x.task.phase ≡ phase.Blocked (blocked_at.Loop word) flag) where
  loop_wakes : (k : Held) → Woke t h k → Wakes h k receiver.InCallback
  loop_wakes k woke = record { number = t; slot = x; last = last; there = there; woke = woke; place = tt }

  yields : (k : Held) (b : Bool) → is_asked x.task.cancellation ≡ b → Woke t h k → HearsFrom h (yield_flow b) k
  unfolding loop_wakes
  yields k true is woke = (loop_wakes k woke, is)
  yields k false is woke = loop_wakes k woke

  loop_hears : (k : Held) (b polls : Bool) (set : ℕ) → is_asked x.task.cancellation ≡ b → Woke t h k → HearsFrom h (loop_flow b polls set) k
  unfolding loop_wakes
  loop_hears k true polls set is woke = (loop_wakes k woke, is)
  loop_hears k false true set is woke = loop_wakes k woke
  loop_hears k false false set is woke = loop_wakes k woke

  at_set : (k : Held) (polls : Bool) (index : ℕ) → Woke t h k → HeardBy h (loop_resumed_at at (is_asked x.task.cancellation) polls index k)
  unfolding loop_resumed_at
  at_set k polls index woke =
      let c : ℕ → Held → Done Flow = λ set l. after (set_waited_off at set l) (λ done m. Gives (loop_flow (is_asked x.task.cancellation) polls set) m) in
      look h (slice_get k.instances at) (λ i. given (set_number (entry_of i index)) (λ set. Gives set k)) c
      (λ i here. look h (set_number (entry_of i index)) (λ set. Gives set k) c
      (λ set is. look h (slice_get k.instances at) (λ j. if is_there set j.sets && has_waiter set j.sets then Gives (tt {0}) (with_instance at (with_sets (waited_off set j.sets) j) k) else Stuck)
      (λ done m. Gives (loop_flow (is_asked x.task.cancellation) polls set) m)
      (λ j now. tested h (is_there set j.sets && has_waiter set j.sets) (Gives (tt {0}) (with_instance at (with_sets (waited_off set j.sets) j) k)) (λ done m. Gives (loop_flow (is_asked x.task.cancellation) polls set) m)
      (loop_hears (with_instance at (with_sets (waited_off set j.sets) j) k) (is_asked x.task.cancellation) polls set refl
      (woke_then t h k (with_instance at (with_sets (waited_off set j.sets) j) k) woke (woke_inst t k at j (with_sets (waited_off set j.sets) j) now refl))))))

  by_said : (k : Held) (said : Result Next BadCode) → Woke t h k → HeardBy h (loop_resumed_by at (is_asked x.task.cancellation) said k)
  by_said k (Err why) woke = tt
  by_said k (Ok next.Exit) woke = tt
  by_said k (Ok next.Yield) woke = yields k (is_asked x.task.cancellation) refl woke
  by_said k (Ok (next.Wait index)) woke = at_set k false index woke
  by_said k (Ok (next.Poll index)) woke = at_set k true index woke

  in_loop : HeardBy h (loop_resumed t at word h)
  unfolding loop_resumed
  in_loop =
      let c : Bool → Held → Done Flow = λ is_asked k. after (happens t event.Go k) (λ done l. after (gate_taken_back at t l) (λ done m. loop_resumed_by at is_asked (callback_of word) m)) in
      look h (slice_get h.tasks t) (λ slot. Gives (is_asked slot.task.cancellation) h) c
      (λ y is.
      let same : y ≡ x = some_same (sym is ∙ there) in
      subst (λ (z : TaskSlot). HeardBy h (c (is_asked z.task.cancellation) h)) (sym same)
      (on_going h h t (λ done l. after (gate_taken_back at t l) (λ done m. loop_resumed_by at (is_asked x.task.cancellation) (callback_of word) m))
      (λ z now may.
      let one : x ≡ z = some_same (sym there ∙ now) in
      let k : Held = with_task t (advanced_slot event.Go z) h in
      let woke : Woke t h k = woke_task t h z (advanced_slot event.Go z) now (went_on t z (blocked_at.Loop word) flag (subst (λ (u : TaskSlot). u.task.phase ≡ phase.Blocked (blocked_at.Loop word) flag) one far) (λ index. refl) may) in
      look h (slice_get k.instances at) (λ i. Gives tt (with_instance at (with_gate (held_by t i.gate) i) k)) (λ done m. loop_resumed_by at (is_asked x.task.cancellation) (callback_of word) m)
      (λ i here.
      let l : Held = with_instance at (with_gate (held_by t i.gate) i) k in
      by_said l (callback_of word) (woke_then t h k l woke (woke_inst t k at i (with_gate (held_by t i.gate) i) here refl))))))

-- At a wait on a set.
asked_so : (a b : Bool) → (a && b) ≡ true → a ≡ true
asked_so true b e = refl
asked_so false b e = absurd (cc)

module _ (h : Held) (t at canon index : ℕ) (x : TaskSlot) (flag : Bool) (last : slice_get h.chain (length h.chain - 1) ≡ Some t) (there : slice_get h.tasks t ≡ Some x)
    (far : x.task.phase ≡ phase.Blocked (blocked_at.Set index) flag) (errand_is : x.errand ≡ errand.InBuiltin canon) where
  set_hears : (k : Held) (place set : ℕ) (free b : Bool) → word_in x.at_words 1 ≡ Some place → is_to_be_told free x.task ≡ b → Woke t h k → HearsFrom h (set_flow b canon place set) k
  set_hears k place set free true word is woke = (
    record { number = t; slot = x; last = last; there = there; woke = woke; place = (errand_is, word, (index, flag, far)) },
    asked_so (is_asked x.task.cancellation) (ends_wait free x.task.kind x.task.phase) is,
  )
  set_hears k place set free false word is woke = record { number = t; slot = x; last = last; there = there; woke = woke; place = (errand_is, word, (index, flag, far)) }

  set_off : (k : Held) (place : ℕ) (free : Bool) → word_in x.at_words 1 ≡ Some place → Woke t h k → HeardBy h (set_resumed at canon (is_to_be_told free x.task) index place k)
  unfolding set_resumed
  set_off k place free word woke =
      let told_so : Bool = is_to_be_told free x.task in
      let c : ℕ → Held → Done Flow = λ set l. after (set_waited_off at set l) (λ done m. Gives (set_flow told_so canon place set) m) in
      look h (slice_get k.instances at) (λ i. given (set_number (entry_of i index)) (λ set. Gives set k)) c
      (λ i here. look h (set_number (entry_of i index)) (λ set. Gives set k) c
      (λ set is. look h (slice_get k.instances at) (λ j. if is_there set j.sets && has_waiter set j.sets then Gives (tt {0}) (with_instance at (with_sets (waited_off set j.sets) j) k) else Stuck)
      (λ done m. Gives (set_flow told_so canon place set) m)
      (λ j now. tested h (is_there set j.sets && has_waiter set j.sets) (Gives (tt {0}) (with_instance at (with_sets (waited_off set j.sets) j) k)) (λ done m. Gives (set_flow told_so canon place set) m)
      (set_hears (with_instance at (with_sets (waited_off set j.sets) j) k) place set free told_so word refl
      (woke_then t h k (with_instance at (with_sets (waited_off set j.sets) j) k) woke (woke_inst t k at j (with_sets (waited_off set j.sets) j) now refl))))))

  at_wait : HeardBy h (builtin_resumed t at canon (blocked_at.Set index) h)
  unfolding builtin_resumed
  at_wait =
      let c : Bool → Held → Done Flow = λ told_so k. after (place_of t (blocked_at.Set index) k) (λ place l. after (happens t event.Go l) (λ done m.
      after (errand_set t errand.None m) (λ done n. wait_resumed t at canon told_so place (blocked_at.Set index) n))) in
      further h (slice_get h.tasks t) (λ slot. Gives slot.instance h) (λ home k. after (entry_is_free home k) (λ free l. given (slice_get l.tasks t) (λ slot. Gives (is_to_be_told free slot.task) l))) c
      (λ y is.
      further h (slice_get h.instances y.instance) (λ i. Gives (is_free i.gate) h) (λ free l. given (slice_get l.tasks t) (λ slot. Gives (is_to_be_told free slot.task) l)) c
      (λ i here.
      look h (slice_get h.tasks t) (λ slot. Gives (is_to_be_told (is_free i.gate) slot.task) h) c
      (λ z now.
      let same : x ≡ z = some_same (sym there ∙ now) in
      subst (λ (u : TaskSlot). HeardBy h (c (is_to_be_told (is_free i.gate) u.task) h)) same
      (placed (is_free i.gate)))))
    where
      gone : (place : ℕ) (free : Bool) → word_in x.at_words 1 ≡ Some place
          → HeardBy h (after (happens t event.Go h) (λ done m. after (errand_set t errand.None m) (λ done n. wait_resumed t at canon (is_to_be_told free x.task) place (blocked_at.Set index) n)))
      gone place free word =
          on_going h h t (λ done m. after (errand_set t errand.None m) (λ done n. wait_resumed t at canon (is_to_be_told free x.task) place (blocked_at.Set index) n))
          (λ z now may.
          let one : x ≡ z = some_same (sym there ∙ now) in
          let k : Held = with_task t (advanced_slot event.Go z) h in
          let woke : Woke t h k = woke_task t h z (advanced_slot event.Go z) now (went_on t z (blocked_at.Set index) flag (subst (λ (u : TaskSlot). u.task.phase ≡ phase.Blocked (blocked_at.Set index) flag) one far) (λ n. refl) may) in
          look h (slice_get k.tasks t) (λ slot. Gives tt (with_task t (at_errand errand.None slot) k)) (λ done n. wait_resumed t at canon (is_to_be_told free x.task) place (blocked_at.Set index) n)
          (λ u is.
          let l : Held = with_task t (at_errand errand.None u) k in
          set_off l place free word (woke_then t h k l woke (woke_task t k u (at_errand errand.None u) is
          (record { callee = refl; instance = refl; caller = refl; cancellation = refl; waits = λ n. refl; others = λ other. absurd (other refl) })))))

      placed : (free : Bool) → HeardBy h (after (place_of t (blocked_at.Set index) h) (λ place l. after (happens t event.Go l) (λ done m.
          after (errand_set t errand.None m) (λ done n. wait_resumed t at canon (is_to_be_told free x.task) place (blocked_at.Set index) n))))
      placed free =
          let c : ℕ → Held → Done Flow = λ place l. after (happens t event.Go l) (λ done m.
          after (errand_set t errand.None m) (λ done n. wait_resumed t at canon (is_to_be_told free x.task) place (blocked_at.Set index) n)) in
          look h (slice_get h.tasks t) (λ slot. given (word_in slot.at_words 1) (λ word. Gives word h)) c
          (λ y is.
          look h (word_in y.at_words 1) (λ word. Gives word h) c
          (λ place word. gone place free (ap (λ (u : TaskSlot). word_in u.at_words 1) (some_same (sym there ∙ is)) ∙ word)))

-- At any other wait nothing is to come.
yield_so : (t : ℕ) (b : Bool) (k : Held) → PlainBy (yield_resumed t b k)
unfolding yield_resumed
yield_so t b k = plain_if b (yield_cancelled t k) (got t (0 ∷ []) k) (yield_cancelled_plain t k) (got_plain t (0 ∷ []) k)

call_so : (t at callee : ℕ) (k : Held) → PlainBy (call_resumed t at callee k)
unfolding call_resumed
call_so t at callee k =
    plain_after (result_found callee k) (λ words l. after (subtask_told at callee l) (λ payload m. got t words m))
    (λ words l. plain_after (subtask_told at callee l) (λ payload m. got t words m) (λ payload m. got_plain t words m))

cancel_so : (t at index : ℕ) (k : Held) → PlainBy (cancel_resumed t at index k)
unfolding cancel_resumed
cancel_so t at index k =
    plain_after (subtask_known at index k) (λ callee l. after (awaited callee false l) (λ done m. after (subtask_told at callee m) (λ payload n. got t (payload ∷ []) n)))
    (λ callee l.
    plain_after (awaited callee false l) (λ done m. after (subtask_told at callee m) (λ payload n. got t (payload ∷ []) n))
    (λ done m. plain_after (subtask_told at callee m) (λ payload n. got t (payload ∷ []) n) (λ payload n. got_plain t (payload ∷ []) n)))

copy_of : (t at index : ℕ) (o : Option WorldEntry) (k : Held) → PlainBy (copy_resumed_of t at index o k)
copy_of t at index None k = tt
copy_of t at index (Some (entry.Handle x)) k = tt
copy_of t at index (Some (entry.Subtask callee)) k = tt
copy_of t at index (Some (entry.Set set)) k = tt
copy_of t at index (Some (entry.End e)) k = plain_after (end_told at index e k) (λ payload l. got t (payload ∷ []) l) (λ payload l. got_plain t (payload ∷ []) l)

copy_so : (t at index : ℕ) (k : Held) → PlainBy (copy_resumed t at index k)
unfolding copy_resumed
copy_so t at index k = plain_after (entry_found at index k) (λ found l. copy_resumed_of t at index found l) (λ found l. copy_of t at index found l)

abbrev IsNoSet : BlockedAt → Type 0
IsNoSet (blocked_at.Set index) = ⊥
IsNoSet why = Unit {0}

wait_so : (t at canon : ℕ) (b : Bool) (place : ℕ) (why : BlockedAt) (k : Held) → IsNoSet why → PlainBy (wait_resumed t at canon b place why k)
wait_so t at canon b place blocked_at.Entry k none = tt
wait_so t at canon b place (blocked_at.Loop word) k none = tt
wait_so t at canon b place blocked_at.Yield k none = yield_so t b k
wait_so t at canon b place (blocked_at.Set index) k none = absurd none
wait_so t at canon b place (blocked_at.Call callee) k none = call_so t at callee k
wait_so t at canon b place (blocked_at.Copy index) k none = copy_so t at index k
wait_so t at canon b place (blocked_at.Cancel index) k none = cancel_so t at index k

other_so : (t at canon : ℕ) (why : BlockedAt) (k : Held) → IsNoSet why → PlainBy (builtin_resumed t at canon why k)
unfolding builtin_resumed
other_so t at canon why k none =
    plain_after (to_be_told t k) (λ told_so l. after (place_of t why l) (λ place m. after (happens t event.Go m) (λ done n. after (errand_set t errand.None n) (λ done o. wait_resumed t at canon told_so place why o))))
    (λ told_so l.
    plain_after (place_of t why l) (λ place m. after (happens t event.Go m) (λ done n. after (errand_set t errand.None n) (λ done o. wait_resumed t at canon told_so place why o)))
    (λ place m.
    plain_after (happens t event.Go m) (λ done n. after (errand_set t errand.None n) (λ done o. wait_resumed t at canon told_so place why o))
    (λ done n. plain_after (errand_set t errand.None n) (λ done o. wait_resumed t at canon told_so place why o) (λ done o. wait_so t at canon told_so place why o none))))

errand_so : (t at : ℕ) (why : BlockedAt) (e : Errand) (k : Held) → IsNoSet why → PlainBy (resumed_in t at why e k)
errand_so t at why errand.None k none = tt
errand_so t at why (errand.AfterCall callee canon) k none = tt
errand_so t at why (errand.AfterCancel callee canon index) k none = tt
errand_so t at why (errand.Begins n) k none = tt
errand_so t at why (errand.InBuiltin canon) k none = other_so t at canon why k none

from_so : (t at : ℕ) (why : BlockedAt) (k : Held) → IsNoSet why → PlainBy (resumed_from t at why k)
unfolding resumed_from
from_so t at why k none = plain_after (errand_of t k) (λ e l. resumed_in t at why e l) (λ e l. errand_so t at why e l none)

-- All of them.
module _ (h : Held) (t : ℕ) (x : TaskSlot) (last : slice_get h.chain (length h.chain - 1) ≡ Some t) (there : slice_get h.tasks t ≡ Some x) where
  in_errand : (at index : ℕ) (flag : Bool) (e : Errand) → x.task.phase ≡ phase.Blocked (blocked_at.Set index) flag → x.errand ≡ e → HeardBy h (resumed_in t at (blocked_at.Set index) e h)
  in_errand at index flag errand.None far is = tt
  in_errand at index flag (errand.AfterCall callee canon) far is = tt
  in_errand at index flag (errand.AfterCancel callee canon place) far is = tt
  in_errand at index flag (errand.Begins n) far is = tt
  in_errand at index flag (errand.InBuiltin canon) far is = at_wait h t at canon index x flag last there far is

  set_from : (at index : ℕ) (flag : Bool) → x.task.phase ≡ phase.Blocked (blocked_at.Set index) flag → HeardBy h (resumed_from t at (blocked_at.Set index) h)
  unfolding resumed_from
  set_from at index flag far =
      look h (slice_get h.tasks t) (λ slot. Gives slot.errand h) (λ e k. resumed_in t at (blocked_at.Set index) e k)
      (λ y is. in_errand at index flag y.errand far (ap (λ (u : TaskSlot). u.errand) (some_same (sym there ∙ is))))

  by_phase : (at : ℕ) (p : Phase) → x.task.phase ≡ p → HeardBy h (resumed_by t at p h)
  by_phase at phase.New far = tt
  by_phase at phase.Acting far = tt
  by_phase at (phase.Blocked blocked_at.Entry flag) far = refl
  by_phase at (phase.Blocked (blocked_at.Loop word) flag) far = in_loop h t at x word flag last there far
  by_phase at (phase.Blocked blocked_at.Yield flag) far = by_plain h (resumed_from t at blocked_at.Yield h) (from_so t at blocked_at.Yield h tt)
  by_phase at (phase.Blocked (blocked_at.Set index) flag) far = set_from at index flag far
  by_phase at (phase.Blocked (blocked_at.Call callee) flag) far = by_plain h (resumed_from t at (blocked_at.Call callee) h) (from_so t at (blocked_at.Call callee) h tt)
  by_phase at (phase.Blocked (blocked_at.Copy index) flag) far = by_plain h (resumed_from t at (blocked_at.Copy index) h) (from_so t at (blocked_at.Copy index) h tt)
  by_phase at (phase.Blocked (blocked_at.Cancel index) flag) far = by_plain h (resumed_from t at (blocked_at.Cancel index) h) (from_so t at (blocked_at.Cancel index) h tt)
  by_phase at phase.Exited far = tt

pub resumes_hears : (h : Held) → HeardBy h (resumes h)
unfolding resumes
resumes_hears h =
    look h (slice_get h.chain (length h.chain - 1)) (λ t. Gives t h) (λ t k. after (instance_of t k) (λ at l. after (phase_of t l) (λ far m. resumed_by t at far m)))
    (λ t last.
    look h (slice_get h.tasks t) (λ slot. Gives slot.instance h) (λ at l. after (phase_of t l) (λ far m. resumed_by t at far m))
    (λ x there.
    look h (slice_get h.tasks t) (λ slot. Gives slot.task.phase h) (λ far m. resumed_by t x.instance far m)
    (λ y is. by_phase h t x last there x.instance y.task.phase (ap (λ (u : TaskSlot). u.task.phase) (some_same (sym there ∙ is))))))

-- Nor does a task that is new leave anything changed where it enters.
arriving : (h : Held) (b : Bool) (d : Done Flow) → PlainBy d → HeardBy h (if b then Gives flow.Enters h else d)
arriving h true d p = refl
arriving h false d p = by_plain h d p

pub arrives_hears : (h : Held) → HeardBy h (arrives h)
unfolding arrives
arrives_hears h =
    let waits : ℕ → ℕ → Kind → Held → Done Flow = λ t at kind n. after (gate_waited at n) (λ done o. after (parked t kind o) (λ done p. blocked t blocked_at.Entry false reason.Entry p)) in
    look h (slice_get h.chain (length h.chain - 1)) (λ t. Gives t h)
    (λ t k. after (instance_of t k) (λ at l. after (kind_of t l) (λ kind m. after (may_enter at kind true m) (λ may n. if may then Gives flow.Enters n else waits t at kind n))))
    (λ t last.
    look h (slice_get h.tasks t) (λ slot. Gives slot.instance h)
    (λ at l. after (kind_of t l) (λ kind m. after (may_enter at kind true m) (λ may n. if may then Gives flow.Enters n else waits t at kind n)))
    (λ x there.
    look h (slice_get h.tasks t) (λ slot. Gives slot.task.kind h) (λ kind m. after (may_enter x.instance kind true m) (λ may n. if may then Gives flow.Enters n else waits t x.instance kind n))
    (λ y is.
    look h (slice_get h.instances x.instance) (λ i. Gives (gate.may_enter y.task.kind true i.gate) h) (λ may n. if may then Gives flow.Enters n else waits t x.instance y.task.kind n)
    (λ i here.
    arriving h (gate.may_enter y.task.kind true i.gate) (waits t x.instance y.task.kind h)
    (plain_after (gate_waited x.instance h) (λ done o. after (parked t y.task.kind o) (λ done p. blocked t blocked_at.Entry false reason.Entry p))
    (λ done o. plain_after (parked t y.task.kind o) (λ done p. blocked t blocked_at.Entry false reason.Entry p) (λ done p. blocked_plain t blocked_at.Entry false reason.Entry p)))))))
