-- Where a task enters as it arrives the gate lets it in; and as it goes on it waited to enter.
use Rattle.std.proofs.Common.{◌≡◌, ◌-◌, ℕ, Bool, true, false, if◌then◌else◌, List, [], ◌∷◌, length, refl, sym, ap, ◌∙◌, Option, Some, None, Result, Ok, Err}
use Rattle.std.specs.List.{slice_get}
use Rattle.entry_gate.specs.Callbacks.{callback_of}
use Rattle.entry_gate.specs.Gates as gate
use Rattle.entry_gate.specs.declared.callback.BadCode.{BadCode}
use Rattle.entry_gate.specs.declared.callback.Next.{Next}
use Rattle.entry_gate.specs.declared.callback.Next.TheVariants as next
use Rattle.entry_gate.specs.declared.kind.Kind.{Kind}
use Rattle.tasks.specs.declared.event.BlockedAt.{BlockedAt}
use Rattle.tasks.specs.declared.event.BlockedAt.TheVariants as blocked_at
use Rattle.tasks.specs.declared.event.TaskEvent.TheVariants as event
use Rattle.tasks.specs.declared.phase.Phase.{Phase}
use Rattle.tasks.specs.declared.phase.Phase.TheVariants as phase
use Rattle.instances.specs.declared.entry.WorldEntry.{WorldEntry}
use Rattle.instances.specs.declared.entry.WorldEntry.TheVariants as entry
use Rattle.instances.specs.Instances.{InstanceView}
use Rattle.task_table.specs.declared.errand.Errand.{Errand}
use Rattle.task_table.specs.declared.errand.Errand.TheVariants as errand
use Rattle.task_table.specs.declared.slot.TaskSlot.{TaskSlot}
use Rattle.trace_labels.specs.declared.label.BlockReason.TheVariants as reason
use Rattle.world_parts.specs.declared.parts.Flow.{Flow}
use Rattle.world_parts.specs.declared.parts.Flow.TheVariants as flow
use Rattle.world_parts.specs.Calls.{blocked, subtask_told}
use Rattle.world_parts.specs.Entries.{entry_found, set_known, set_waited_off, subtask_known}
use Rattle.world_parts.specs.Events.{end_told}
use Rattle.world_parts.specs.Feed.{got}
use Rattle.world_parts.specs.Gates.{may_enter, gate_taken_back, gate_waited}
use Rattle.world_parts.specs.Going as going
use Rattle.world_parts.specs.Going.{arrives, builtin_resumed, call_resumed, cancel_resumed, copy_resumed, copy_resumed_of, loop_flow, loop_resumed, loop_resumed_at, loop_resumed_by, resumed_by, resumed_from, resumed_in, resumes, set_flow, set_resumed, wait_resumed, yield_flow, yield_resumed}
use Rattle.world_parts.specs.Held.{Held, Done, Gives, Traps, Spent, Stuck, after, given}
use Rattle.world_parts.specs.Plain.{yield_cancelled}
use Rattle.world_parts.specs.Slots.{asked, awaited, errand_of, errand_set, happens, instance_of, kind_of, parked, phase_of, result_found, to_be_told}
use Rattle.abi_machine.proofs.sound.Found.{some_same}
use Rattle.run_laws.proofs.onward.Led.{By, by_after}
use Rattle.run_laws.proofs.plain.Calls.{blocked_plain}
use Rattle.run_laws.proofs.plain.Feed.{got_plain}
use Rattle.run_laws.proofs.plain.Only.{IsPlain, PlainBy, plain_after, plain_if}
use Rattle.run_laws.proofs.plain.Plain.{yield_cancelled_plain}

-- What is so where a task enters. It doesn't return, and no elements go over.
abbrev pub OnEntry : Type 0 → Flow → Held → Type 0
OnEntry P (flow.Now words) k = Unit {0}
OnEntry P flow.Rests k = Unit {0}
OnEntry P (flow.Starts ref words) k = Unit {0}
OnEntry P flow.Enters k = P
OnEntry P flow.Returns k = ⊥
OnEntry P (flow.Copies copying) k = ⊥
OnEntry P (flow.Delivers r set) k = Unit {0}
OnEntry P (flow.Polls r set) k = Unit {0}
OnEntry P (flow.HearsNone r) k = Unit {0}
OnEntry P (flow.HearsCancel r) k = Unit {0}

plain_on : (P : Type 0) (x : Flow) (k : Held) → IsPlain x → OnEntry P x k
plain_on P (flow.Now words) k plain = tt
plain_on P flow.Rests k plain = tt
plain_on P (flow.Starts ref words) k plain = tt
plain_on P flow.Enters k plain = absurd plain
plain_on P flow.Returns k plain = absurd plain
plain_on P (flow.Copies copying) k plain = absurd plain
plain_on P (flow.Delivers r set) k plain = tt
plain_on P (flow.Polls r set) k plain = tt
plain_on P (flow.HearsNone r) k plain = tt
plain_on P (flow.HearsCancel r) k plain = tt

pub by_plain : (P : Type 0) (d : Done Flow) → PlainBy d → By (OnEntry P) d
by_plain P (Gives x k) p = plain_on P x k p
by_plain P (Traps why k) p = tt
by_plain P (Spent k) p = tt
by_plain P Stuck p = tt

-- What is looked up, and what follows.
look : {A B : Type 0} (P : Type 0) (o : Option A) (f : A → Done B) (c : B → Held → Done Flow) → ((x : A) → o ≡ Some x → By (OnEntry P) (after (f x) c)) → By (OnEntry P) (after (given o f) c)
look P None f c more = tt
look P (Some x) f c more = more x refl

-- A task that is new.
abbrev pub LetsIn : Held → Type 0
LetsIn h =
    (t : ℕ) (x : TaskSlot) (i : InstanceView) → slice_get h.chain (length h.chain - 1) ≡ Some t → slice_get h.tasks t ≡ Some x → slice_get h.instances x.instance ≡ Some i
    → gate.may_enter x.task.kind true i.gate ≡ true

lets_by : (P : Type 0) (h : Held) (b : Bool) (d : Done Flow) → (b ≡ true → P) → PlainBy d → By (OnEntry P) (if b then Gives flow.Enters h else d)
lets_by P h true d may p = may refl
lets_by P h false d may p = by_plain P d p

pub arrives_let_in : (h : Held) → By (OnEntry (LetsIn h)) (arrives h)
unfolding arrives
arrives_let_in h =
    let waits : ℕ → ℕ → Kind → Held → Done Flow = λ t at kind n. after (gate_waited at n) (λ done o. after (parked t kind o) (λ done p. blocked t blocked_at.Entry false reason.Entry p)) in
    look (LetsIn h) (slice_get h.chain (length h.chain - 1)) (λ t. Gives t h)
    (λ t k. after (instance_of t k) (λ at l. after (kind_of t l) (λ kind m. after (may_enter at kind true m) (λ may n. if may then Gives flow.Enters n else waits t at kind n))))
    (λ t last.
    look (LetsIn h) (slice_get h.tasks t) (λ slot. Gives slot.instance h)
    (λ at l. after (kind_of t l) (λ kind m. after (may_enter at kind true m) (λ may n. if may then Gives flow.Enters n else waits t at kind n)))
    (λ x there.
    look (LetsIn h) (slice_get h.tasks t) (λ slot. Gives slot.task.kind h) (λ kind m. after (may_enter x.instance kind true m) (λ may n. if may then Gives flow.Enters n else waits t x.instance kind n))
    (λ y is.
    look (LetsIn h) (slice_get h.instances x.instance) (λ i. Gives (gate.may_enter y.task.kind true i.gate) h) (λ may n. if may then Gives flow.Enters n else waits t x.instance y.task.kind n)
    (λ i here.
    lets_by (LetsIn h) h (gate.may_enter y.task.kind true i.gate) (waits t x.instance y.task.kind h) (lets h t x y i last there is here)
    (plain_after (gate_waited x.instance h) (λ done o. after (parked t y.task.kind o) (λ done p. blocked t blocked_at.Entry false reason.Entry p))
    (λ done o. plain_after (parked t y.task.kind o) (λ done p. blocked t blocked_at.Entry false reason.Entry p) (λ done p. blocked_plain t blocked_at.Entry false reason.Entry p)))))))
  where
    lets : (h : Held) (t : ℕ) (x y : TaskSlot) (i : InstanceView) → slice_get h.chain (length h.chain - 1) ≡ Some t → slice_get h.tasks t ≡ Some x → slice_get h.tasks t ≡ Some y
        → slice_get h.instances x.instance ≡ Some i → gate.may_enter y.task.kind true i.gate ≡ true → LetsIn h
    lets h t x y i last there is here may u z j last_u there_z here_j =
        let same : t ≡ u = some_same (sym last ∙ last_u) in
        let one : x ≡ z = some_same (sym there ∙ ap (λ (n : ℕ). slice_get h.tasks n) same ∙ there_z) in
        let two : y ≡ z = some_same (sym is ∙ ap (λ (n : ℕ). slice_get h.tasks n) same ∙ there_z) in
        let three : i ≡ j = some_same (sym here ∙ ap (λ (v : TaskSlot). slice_get h.instances v.instance) one ∙ here_j) in
        ap (λ (v : TaskSlot). gate.may_enter v.task.kind true j.gate) (sym two) ∙ ap (λ (v : InstanceView). gate.may_enter y.task.kind true v.gate) (sym three) ∙ may

-- A blocked one.
module _ (P : Type 0) where
  abbrev Q : Done Flow → Type 0
  Q d = By (OnEntry P) d

  yield_on : (b : Bool) (h : Held) → Q (Gives (yield_flow b) h)
  yield_on true h = tt
  yield_on false h = tt

  loop_on : (b c : Bool) (set : ℕ) (h : Held) → Q (Gives (loop_flow b c set) h)
  loop_on true c set h = tt
  loop_on false true set h = tt
  loop_on false false set h = tt

  set_on : (b : Bool) (canon place set : ℕ) (h : Held) → Q (Gives (set_flow b canon place set) h)
  set_on true canon place set h = tt
  set_on false canon place set h = tt

  loop_at : (at : ℕ) (is_asked polls : Bool) (index : ℕ) (h : Held) → Q (loop_resumed_at at is_asked polls index h)
  unfolding loop_resumed_at
  loop_at at is_asked polls index h =
      by_after (OnEntry P) (set_known at index h) (λ set k. after (set_waited_off at set k) (λ done l. Gives (loop_flow is_asked polls set) l))
      (λ set k e. by_after (OnEntry P) (set_waited_off at set k) (λ done l. Gives (loop_flow is_asked polls set) l) (λ done l f. loop_on is_asked polls set l))

  loop_by : (at : ℕ) (is_asked : Bool) (r : Result Next BadCode) (h : Held) → Q (loop_resumed_by at is_asked r h)
  loop_by at is_asked (Err why) h = tt
  loop_by at is_asked (Ok next.Exit) h = tt
  loop_by at is_asked (Ok next.Yield) h = yield_on is_asked h
  loop_by at is_asked (Ok (next.Wait index)) h = loop_at at is_asked false index h
  loop_by at is_asked (Ok (next.Poll index)) h = loop_at at is_asked true index h

  in_loop : (t at word : ℕ) (h : Held) → Q (loop_resumed t at word h)
  unfolding loop_resumed
  in_loop t at word h =
      by_after (OnEntry P) (asked t h) (λ is_asked k. after (happens t event.Go k) (λ done l. after (gate_taken_back at t l) (λ done m. loop_resumed_by at is_asked (callback_of word) m)))
      (λ is_asked k e.
      by_after (OnEntry P) (happens t event.Go k) (λ done l. after (gate_taken_back at t l) (λ done m. loop_resumed_by at is_asked (callback_of word) m))
      (λ done l f.
      by_after (OnEntry P) (gate_taken_back at t l) (λ done m. loop_resumed_by at is_asked (callback_of word) m) (λ done m i. loop_by at is_asked (callback_of word) m)))

  got_on : (t : ℕ) (words : List ℕ) (h : Held) → Q (got t words h)
  got_on t words h = by_plain P (got t words h) (got_plain t words h)

  yields : (t : ℕ) (told_so : Bool) (h : Held) → Q (yield_resumed t told_so h)
  unfolding yield_resumed
  yields t told_so h =
      by_plain P (if told_so then yield_cancelled t h else got t (0 ∷ []) h) (plain_if told_so (yield_cancelled t h) (got t (0 ∷ []) h) (yield_cancelled_plain t h) (got_plain t (0 ∷ []) h))

  sets : (at canon : ℕ) (told_so : Bool) (index place : ℕ) (h : Held) → Q (set_resumed at canon told_so index place h)
  unfolding set_resumed
  sets at canon told_so index place h =
      by_after (OnEntry P) (set_known at index h) (λ set k. after (set_waited_off at set k) (λ done l. Gives (set_flow told_so canon place set) l))
      (λ set k e. by_after (OnEntry P) (set_waited_off at set k) (λ done l. Gives (set_flow told_so canon place set) l) (λ done l f. set_on told_so canon place set l))

  calls_on : (t at callee : ℕ) (h : Held) → Q (call_resumed t at callee h)
  unfolding call_resumed
  calls_on t at callee h =
      by_after (OnEntry P) (result_found callee h) (λ words k. after (subtask_told at callee k) (λ payload l. got t words l))
      (λ words k e. by_after (OnEntry P) (subtask_told at callee k) (λ payload l. got t words l) (λ payload l f. got_on t words l))

  cancels_on : (t at index : ℕ) (h : Held) → Q (cancel_resumed t at index h)
  unfolding cancel_resumed
  cancels_on t at index h =
      by_after (OnEntry P) (subtask_known at index h) (λ callee k. after (awaited callee false k) (λ done l. after (subtask_told at callee l) (λ payload m. got t (payload ∷ []) m)))
      (λ callee k e.
      by_after (OnEntry P) (awaited callee false k) (λ done l. after (subtask_told at callee l) (λ payload m. got t (payload ∷ []) m))
      (λ done l f. by_after (OnEntry P) (subtask_told at callee l) (λ payload m. got t (payload ∷ []) m) (λ payload m i. got_on t (payload ∷ []) m)))

  copy_of : (t at index : ℕ) (o : Option WorldEntry) (h : Held) → Q (copy_resumed_of t at index o h)
  copy_of t at index None h = tt
  copy_of t at index (Some (entry.Handle x)) h = tt
  copy_of t at index (Some (entry.Subtask callee)) h = tt
  copy_of t at index (Some (entry.Set set)) h = tt
  copy_of t at index (Some (entry.End e)) h = by_after (OnEntry P) (end_told at index e h) (λ payload k. got t (payload ∷ []) k) (λ payload k f. got_on t (payload ∷ []) k)

  copies : (t at index : ℕ) (h : Held) → Q (copy_resumed t at index h)
  unfolding copy_resumed
  copies t at index h = by_after (OnEntry P) (entry_found at index h) (λ found k. copy_resumed_of t at index found k) (λ found k e. copy_of t at index found k)

  waits_on : (t at canon : ℕ) (told_so : Bool) (place : ℕ) (why : BlockedAt) (h : Held) → Q (wait_resumed t at canon told_so place why h)
  waits_on t at canon told_so place blocked_at.Entry h = tt
  waits_on t at canon told_so place (blocked_at.Loop word) h = tt
  waits_on t at canon told_so place blocked_at.Yield h = yields t told_so h
  waits_on t at canon told_so place (blocked_at.Set index) h = sets at canon told_so index place h
  waits_on t at canon told_so place (blocked_at.Call callee) h = calls_on t at callee h
  waits_on t at canon told_so place (blocked_at.Copy index) h = copies t at index h
  waits_on t at canon told_so place (blocked_at.Cancel index) h = cancels_on t at index h

  builtin_on : (t at canon : ℕ) (why : BlockedAt) (h : Held) → Q (builtin_resumed t at canon why h)
  unfolding builtin_resumed
  builtin_on t at canon why h =
      by_after (OnEntry P) (to_be_told t h)
      (λ told_so k. after (going.place_of t why k) (λ place l. after (happens t event.Go l) (λ done m. after (errand_set t errand.None m) (λ done n. wait_resumed t at canon told_so place why n))))
      (λ told_so k e.
      by_after (OnEntry P) (going.place_of t why k) (λ place l. after (happens t event.Go l) (λ done m. after (errand_set t errand.None m) (λ done n. wait_resumed t at canon told_so place why n)))
      (λ place l f.
      by_after (OnEntry P) (happens t event.Go l) (λ done m. after (errand_set t errand.None m) (λ done n. wait_resumed t at canon told_so place why n))
      (λ done m i. by_after (OnEntry P) (errand_set t errand.None m) (λ done n. wait_resumed t at canon told_so place why n) (λ done n j. waits_on t at canon told_so place why n))))

  in_errand : (t at : ℕ) (why : BlockedAt) (e : Errand) (h : Held) → Q (resumed_in t at why e h)
  in_errand t at why errand.None h = tt
  in_errand t at why (errand.AfterCall callee canon) h = tt
  in_errand t at why (errand.AfterCancel callee canon index) h = tt
  in_errand t at why (errand.Begins n) h = tt
  in_errand t at why (errand.InBuiltin canon) h = builtin_on t at canon why h

  from_errand : (t at : ℕ) (why : BlockedAt) (h : Held) → Q (resumed_from t at why h)
  unfolding resumed_from
  from_errand t at why h = by_after (OnEntry P) (errand_of t h) (λ e k. resumed_in t at why e k) (λ e k f. in_errand t at why e k)

  by_phase : (t at : ℕ) (far : Phase) (h : Held) → ((flag : Bool) → far ≡ phase.Blocked blocked_at.Entry flag → P) → Q (resumed_by t at far h)
  by_phase t at phase.New h enters = tt
  by_phase t at phase.Acting h enters = tt
  by_phase t at (phase.Blocked blocked_at.Entry flag) h enters = enters flag refl
  by_phase t at (phase.Blocked (blocked_at.Loop word) flag) h enters = in_loop t at word h
  by_phase t at (phase.Blocked blocked_at.Yield flag) h enters = from_errand t at blocked_at.Yield h
  by_phase t at (phase.Blocked (blocked_at.Set index) flag) h enters = from_errand t at (blocked_at.Set index) h
  by_phase t at (phase.Blocked (blocked_at.Call callee) flag) h enters = from_errand t at (blocked_at.Call callee) h
  by_phase t at (phase.Blocked (blocked_at.Copy index) flag) h enters = from_errand t at (blocked_at.Copy index) h
  by_phase t at (phase.Blocked (blocked_at.Cancel index) flag) h enters = from_errand t at (blocked_at.Cancel index) h
  by_phase t at phase.Exited h enters = tt

abbrev pub WaitedToEnter : Held → Type 0
WaitedToEnter h =
    (t : ℕ) (x : TaskSlot) → slice_get h.chain (length h.chain - 1) ≡ Some t → slice_get h.tasks t ≡ Some x → (flag : Bool) × (x.task.phase ≡ phase.Blocked blocked_at.Entry flag)

pub resumes_waited : (h : Held) → By (OnEntry (WaitedToEnter h)) (resumes h)
unfolding resumes
resumes_waited h =
    look (WaitedToEnter h) (slice_get h.chain (length h.chain - 1)) (λ t. Gives t h) (λ t k. after (instance_of t k) (λ at l. after (phase_of t l) (λ far m. resumed_by t at far m)))
    (λ t last.
    look (WaitedToEnter h) (slice_get h.tasks t) (λ slot. Gives slot.instance h) (λ at l. after (phase_of t l) (λ far m. resumed_by t at far m))
    (λ x there.
    look (WaitedToEnter h) (slice_get h.tasks t) (λ slot. Gives slot.task.phase h) (λ far m. resumed_by t x.instance far m)
    (λ y is. by_phase (WaitedToEnter h) t x.instance y.task.phase h (λ flag waits. waited h t y last is flag waits))))
  where
    waited : (h : Held) (t : ℕ) (y : TaskSlot) → slice_get h.chain (length h.chain - 1) ≡ Some t → slice_get h.tasks t ≡ Some y → (flag : Bool) → y.task.phase ≡ phase.Blocked blocked_at.Entry flag → WaitedToEnter h
    waited h t y last is flag waits u z last_u there_z =
        let same : t ≡ u = some_same (sym last ∙ last_u) in
        let one : z ≡ y = some_same (sym there_z ∙ ap (λ (n : ℕ). slice_get h.tasks n) (sym same) ∙ is) in (flag, ap (λ (v : TaskSlot). v.task.phase) one ∙ waits)
