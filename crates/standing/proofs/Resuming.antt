-- The acting task, which was blocked, goes on: where it waited to enter, in its loop, in `yield` and at a set.
use Rattle.std.proofs.Common.{◌≡◌, ℕ, ◌-◌, Bool, true, false, ◌&&◌, if◌then◌else◌, List, [], ◌∷◌, slice_set, refl, sym, ap, ◌∙◌, subst, append-nil, Option, Some, None, Result, Ok}
use Rattle.std.specs.List.{slice_get}
use Rattle.std.proofs.lemmas.Bool.{and_parts}
use Rattle.std.proofs.lemmas.List.{set-set}
use Rattle.syntax_trees.specs.declared.types.ValType.{ValType}
use Rattle.wasm_store.specs.Stack.{Stack}
use Rattle.handle_table.specs.History.{live}
use Rattle.handle_table.specs.Slots.{Slots, entry_at}
use Rattle.entry_gate.specs.Gates.{GateView, is_free, held_by}
use Rattle.entry_gate.specs.declared.callback.BadCode.{BadCode}
use Rattle.entry_gate.specs.declared.callback.Next.{Next}
use Rattle.entry_gate.specs.declared.callback.Next.TheVariants as next
use Rattle.entry_gate.specs.declared.kind.Kind.{Kind}
use Rattle.waitables.specs.Sets.{SetView, set_at, waited_off}
use Rattle.tasks.specs.declared.event.BlockedAt.TheVariants as blocked_at
use Rattle.tasks.specs.declared.event.TaskEvent.TheVariants as event
use Rattle.tasks.specs.declared.phase.Cancellation.{Cancellation}
use Rattle.tasks.specs.declared.phase.Phase.{Phase}
use Rattle.tasks.specs.declared.phase.Phase.TheVariants as phase
use Rattle.tasks.specs.Tasks.{waits_inside, is_asked, is_cancellable}
use Rattle.comp_graph.specs.Graph.{Graph, Lifted}
use Rattle.script_reader.specs.Script.{Script}
use Rattle.trace_labels.specs.declared.label.Label.{Label}
use Rattle.instances.specs.declared.entry.WorldEntry.{WorldEntry}
use Rattle.instances.specs.declared.entry.WorldEntry.TheVariants as entry
use Rattle.instances.specs.Entries as entries
use Rattle.instances.specs.Instances.{InstanceView, entry_of, with_sets, with_gate}
use Rattle.instances.specs.Calls.{is_there, has_waiter}
use Rattle.task_table.specs.declared.errand.Errand.TheVariants as errand
use Rattle.task_table.specs.declared.slot.TaskSlot.{TaskSlot}
use Rattle.task_table.specs.Slots as slots
use Rattle.task_table.specs.Slots.{ends_wait, at_errand}
use Rattle.world_parts.specs.declared.parts.Receiver as kept_receiver
use Rattle.world_parts.specs.declared.parts.Receiver.TheVariants as receiver
use Rattle.world_parts.specs.declared.parts.Flow.TheVariants as flow
use Rattle.world_parts.specs.Held as kept
use Rattle.world_parts.specs.Held.{Held, Done, Gives, after, given}
use Rattle.world_parts.specs.Entries as kept_entries
use Rattle.world_parts.specs.Entries.{with_instance, set_known, set_waited_off}
use Rattle.world_parts.specs.Slots.{with_task, to_be_told, word_in, word_of}
use Rattle.world_parts.specs.Going.{loop_flow, loop_resumed, loop_resumed_at, loop_resumed_by, yield_resumed, set_flow, set_resumed, wait_resumed, place_of, builtin_resumed, resumed_from, resumed_by, resumes}
use Rattle.abi_machine.specs.Control as control
use Rattle.abi_machine.specs.World.{Wait, ForYield, ForSet, TaskState, Acting, WaitsToEnter, InLoop, InBuiltin, Inst, Task, World}
use Rattle.abi_machine.specs.Edits.{in_state}
use Rattle.abi_machine.specs.Canons.{flag_at}
use Rattle.abi_machine.specs.Counting.{blocked_at_of, phase_of, ready}
use Rattle.abi_machine.specs.Finding as finding
use Rattle.abi_machine.specs.Finding.{accepted}
use Rattle.abi_machine.specs.Reading.{table_in, task_at, func_of, kind_of}
use Rattle.abi_machine.specs.Traps.{renamed, refusal_name}
use Rattle.abi_machine.specs.Turn as turns
use Rattle.abi_machine.specs.Turn.{Turn, silent, behind, replied}
use Rattle.abi_machine.specs.Delivering as machine
use Rattle.abi_machine.specs.Delivering.{received_none, received_cancel, set_polled, next_resumed, resumed, resuming_turn}
use Rattle.abi_machine.proofs.sound.Found.{some_same}
use Rattle.standing.specs.Instances.{InstStands}
use Rattle.standing.specs.Tasks.{errand_of, TaskStands}
use Rattle.standing.specs.Stands.{Stands}
use Rattle.standing.specs.Agreeing.{Receives, hears, Agrees}
use Rattle.standing.specs.Moves.{Acts, KeepsGate, EntryResumes, IsWaitedOn, LoopsAt, LoopResumes, YieldResumes, SetResumes}
use Rattle.standing.proofs.Tables.{entries_are_alike, waiters_are_not_said, entry_is_not_said}
use Rattle.standing.proofs.Changes.{instances_stay, tasks_change}
use Rattle.standing.proofs.Found.{set_alike}
use Rattle.standing.proofs.Agreeing.{on_got, get_set}
use Rattle.standing.proofs.Blocking.{happens_when, on_test, yield_told}
use Rattle.standing.proofs.Steps.{via, found, turn_found, if_true, both_as, behind_none, func_acts, IsKept, is_kept, instance_is, phase_is, errand_is, asked_is, errand_put, free_is, taken_back_is, changed_there}
use Rattle.standing.proofs.Arriving.{on_enters}

-- By how far the task is, on both sides.
pub resumes_is : (g : Graph) (values : List ValType) (s : Script) (h : Held) (w : World) (t : ℕ) (task : Task) (f : Lifted) (k : IsKept g values s h w t task f) (far : Phase)
    → k.slot.task.phase ≡ far → resumes h ≡ resumed_by t f.instance far h
unfolding resumes
resumes_is g values s h w t task f k far is =
    via _ _ _ _ k.acts ∙ via _ _ _ _ (instance_is t f.instance h k.slot k.is k.at) ∙ via _ _ _ _ (phase_is t h k.slot far k.is is)

pub resuming_is : (g : Graph) (w : World) (t : ℕ) (task : Task) (f : Lifted) (state : TaskState) → Acts w t task f → task.state ≡ state
    → resuming_turn g w ≡ resumed g t task f state w
unfolding resuming_turn
resuming_is g w t task f state acts is =
    func_acts w t task f (λ t task f. resumed g t task f task.state w) acts ∙ ap (λ (state : TaskState). resumed g t task f state w) is

pub far_is : (g : Graph) (values : List ValType) (s : Script) (h : Held) (w : World) (t : ℕ) (task : Task) (f : Lifted) (k : IsKept g values s h w t task f) (state : TaskState)
    → task.state ≡ state → k.slot.task.phase ≡ phase_of (flag_at g) state
far_is g values s h w t task f k state is = k.alike.far ∙ ap (phase_of (flag_at g)) is

pub entry_resumes : EntryResumes
unfolding resumed
entry_resumes g values s h stacks w t task f acts is st =
    let k : IsKept g values s h w t task f = is_kept g values s h stacks w t task f acts st in
    both_as g values s t h.labels stacks _ _ _ _
    (resumes_is g values s h w t task f k (phase.Blocked blocked_at.Entry false) (far_is g values s h w t task f k WaitsToEnter is))
    (resuming_is g w t task f WaitsToEnter acts is)
    (on_enters g values s h stacks w t task f acts st)

-- It acts again, and is at nothing.
abbrev pub acting_slot : TaskSlot → TaskSlot
acting_slot x = at_errand errand.None (slots.with_task (record x.task { phase = phase.Acting }) x)

acts_again : (g : Graph) (s : Script) (x : TaskSlot) (a : Task) → TaskStands g s x a → TaskStands g s (acting_slot x) (record a { state = Acting })
acts_again g s x a st = record {
  does = st.does;
  place = st.place;
  lifted = st.lifted;
  called = st.called;
  seen = st.seen;
  far = refl;
  at = refl;
  resolved = st.resolved;
  cancelled = st.cancelled;
  words = st.words;
  placed = tt;
}

abbrev pub gone_on : ℕ → TaskSlot → Held → Held
gone_on t x h = with_task t (acting_slot x) (with_task t (slots.with_task (record x.task { phase = phase.Acting }) x) h)

pub gone_stands : (g : Graph) (values : List ValType) (s : Script) (h : Held) (stacks : List (List Stack)) (w : World) (t : ℕ) (x : TaskSlot) → slice_get h.tasks t ≡ Some x
    → Stands g values s h stacks w → Stands g values s (gone_on t x h) stacks (in_state t Acting w)
gone_stands g values s h stacks w t x is st =
    subst (λ (ts : List TaskSlot). Stands g values s (record h { tasks = ts }) stacks (in_state t Acting w))
    (sym (set-set h.tasks t (slots.with_task (record x.task { phase = phase.Acting }) x) (acting_slot x)))
    (tasks_change g values s h stacks w t x (acting_slot x) (λ task. record task { state = Acting }) is (λ a there now. acts_again g s x a now) (λ a. refl) st)

pub gone_there : (h : Held) (t : ℕ) (x : TaskSlot) → slice_get h.tasks t ≡ Some x → slice_get (gone_on t x h).tasks t ≡ Some (acting_slot x)
gone_there h t x is =
    get_set (slice_set h.tasks t (slots.with_task (record x.task { phase = phase.Acting }) x)) t (slots.with_task (record x.task { phase = phase.Acting }) x) (acting_slot x)
    (get_set h.tasks t x (slots.with_task (record x.task { phase = phase.Acting }) x) is)

-- Whether its cancellation ends the wait.
to_be_told_is : (t at : ℕ) (h : Held) (x : TaskSlot) (i : InstanceView) → slice_get h.tasks t ≡ Some x → x.instance ≡ at → slice_get h.instances at ≡ Some i
    → to_be_told t h ≡ Gives (slots.is_to_be_told (is_free i.gate) x.task) h
to_be_told_is t at h x i is same here =
    via _ _ _ _ (instance_is t at h x is same) ∙ via _ _ _ _ (free_is at h i here)
    ∙ found (slice_get h.tasks t) x (λ slot. Gives (slots.is_to_be_told (is_free i.gate) slot.task) h) is

told_alike : (g : Graph) (values : List ValType) (s : Script) (h : Held) (w : World) (t : ℕ) (task : Task) (f : Lifted) (k : IsKept g values s h w t task f) (number : ℕ) (words : List ℕ) (wait : Wait)
    → task.state ≡ InBuiltin number words wait → KeepsGate h w f.instance
    → slots.is_to_be_told (is_free k.inst.gate) k.slot.task ≡ machine.is_to_be_told g number wait task w f.instance
told_alike g values s h w t task f k number words wait is gates =
    ap (λ (p : Phase). is_asked k.slot.task.cancellation && ends_wait (is_free k.inst.gate) k.slot.task.kind p) (far_is g values s h w t task f k (InBuiltin number words wait) is)
    ∙ ap (λ (c : Cancellation). is_asked c && is_cancellable (is_free k.inst.gate) k.slot.task.kind (blocked_at_of wait) (flag_at g number)) k.alike.cancelled
    ∙ ap (λ (kind : Kind). is_asked task.cancellation && is_cancellable (is_free k.inst.gate) kind (blocked_at_of wait) (flag_at g number)) k.alike.lifted
    ∙ ap (λ (i : GateView). is_asked task.cancellation && is_cancellable (is_free i) (kind_of task) (blocked_at_of wait) (flag_at g number)) (gates k.inst k.here)

-- In a built-in.
pub builtin_is : (g : Graph) (values : List ValType) (s : Script) (h : Held) (w : World) (t : ℕ) (task : Task) (f : Lifted) (k : IsKept g values s h w t task f) (number place : ℕ) (words : List ℕ)
    (wait : Wait)
    → task.state ≡ InBuiltin number words wait → waits_inside (phase.Blocked (blocked_at_of wait) (flag_at g number)) ≡ true → place_of t (blocked_at_of wait) h ≡ Gives place h
    → builtin_resumed t f.instance number (blocked_at_of wait) h
    ≡ wait_resumed t f.instance number (slots.is_to_be_told (is_free k.inst.gate) k.slot.task) place (blocked_at_of wait) (gone_on t k.slot h)
unfolding builtin_resumed
builtin_is g values s h w t task f k number place words wait is inside placed =
    via _ _ _ _ (to_be_told_is t f.instance h k.slot k.inst k.is k.at k.here) ∙ via _ _ _ _ placed
    ∙ via _ _ _ _ (happens_when event.Go k.slot t h k.is (ap waits_inside (far_is g values s h w t task f k (InBuiltin number words wait) is) ∙ inside) refl)
    ∙ via _ _ _ _ (errand_put t errand.None (with_task t (slots.with_task (record k.slot.task { phase = phase.Acting }) k.slot) h)
    (slots.with_task (record k.slot.task { phase = phase.Acting }) k.slot) (get_set h.tasks t k.slot _ k.is))

pub from_is : (g : Graph) (values : List ValType) (s : Script) (h : Held) (w : World) (t : ℕ) (task : Task) (f : Lifted) (k : IsKept g values s h w t task f) (number : ℕ) (words : List ℕ) (wait : Wait)
    → task.state ≡ InBuiltin number words wait → resumed_from t f.instance (blocked_at_of wait) h ≡ builtin_resumed t f.instance number (blocked_at_of wait) h
unfolding resumed_from
from_is g values s h w t task f k number words wait is =
    via _ _ _ _ (errand_is t h k.slot (errand.InBuiltin number) k.is (k.alike.at ∙ ap errand_of is))

pub yield_resumes : YieldResumes
unfolding resumed machine.wait_resumed yield_resumed
yield_resumes g values s h stacks w t task f number words acts is gates st =
    let k : IsKept g values s h w t task f = is_kept g values s h stacks w t task f acts st in
    let gone : Held = gone_on t k.slot h in
    both_as g values s t h.labels stacks _ _ _ _
    (resumes_is g values s h w t task f k (phase.Blocked blocked_at.Yield (flag_at g number)) (far_is g values s h w t task f k (InBuiltin number words ForYield) is)
    ∙ from_is g values s h w t task f k number words ForYield is ∙ builtin_is g values s h w t task f k number 0 words ForYield is refl refl)
    (resuming_is g w t task f (InBuiltin number words ForYield) acts is)
    (on_test g values s t h.labels stacks (slots.is_to_be_told (is_free k.inst.gate) k.slot.task) (machine.is_to_be_told g number ForYield task w f.instance) _ _ _ _
    (told_alike g values s h w t task f k number words ForYield is gates)
    (λ told. yield_told g values s gone stacks (in_state t Acting w) t (acting_slot k.slot) (gone_there h t k.slot k.is)
    (and_parts (is_asked k.slot.task.cancellation) (ends_wait (is_free k.inst.gate) k.slot.task.kind k.slot.task.phase) told).0 (gone_stands g values s h stacks w t k.slot k.is st))
    (λ no. on_got g values s t h.labels stacks gone (in_state t Acting w) (0 ∷ []) refl (gone_stands g values s h stacks w t k.slot k.is st)))

-- What stands at an index of the instance of the task, as a set that is waited on, and what is found there.
set_known_is : (at index set : ℕ) (h : Held) (i : InstanceView) → slice_get h.instances at ≡ Some i → entry_of i index ≡ Some (entry.Set set) → set_known at index h ≡ Gives set h
set_known_is at index set h i here is =
    found (slice_get h.instances at) i (λ i. given (kept_entries.set_number (entry_of i index)) (λ set. Gives set h)) here
    ∙ found (kept_entries.set_number (entry_of i index)) set (λ set. Gives set h) (ap kept_entries.set_number is)

waited_off_is : (at set : ℕ) (h : Held) (i : InstanceView) → slice_get h.instances at ≡ Some i → (is_there set i.sets && has_waiter set i.sets) ≡ true
    → set_waited_off at set h ≡ Gives tt (with_instance at (with_sets (waited_off set i.sets) i) h)
waited_off_is at set h i here both =
    found (slice_get h.instances at) i (λ i. if is_there set i.sets && has_waiter set i.sets then Gives tt (with_instance at (with_sets (waited_off set i.sets) i) h) else kept.Stuck) here
    ∙ if_true _ _ _ both

waited_off_stands : (g : Graph) (values : List ValType) (s : Script) (h : Held) (stacks : List (List Stack)) (w : World) (at set : ℕ) (i : InstanceView) → slice_get h.instances at ≡ Some i
    → Stands g values s h stacks w → Stands g values s (with_instance at (with_sets (waited_off set i.sets) i) h) stacks w
waited_off_stands g values s h stacks w at set i here st =
    instances_stay g values s h stacks w at i (with_sets (waited_off set i.sets) i) here
    (λ a now. waiters_are_not_said values i a set ((set_at i.sets set).waiters - 1) now) st

set_number_is : (values : List ValType) (w : World) (at index set : ℕ) (x : InstanceView) (y : Inst) → slice_get w.insts at ≡ Some y → InstStands values x y
    → entry_of x index ≡ Some (entry.Set set) → finding.set_number w at index ≡ Some set
set_number_is values w at index set x y is alike there =
    ap (λ (o : Option Inst). accepted (finding.set_in (live (table_in o) index))) is
    ∙ ap accepted (set_alike values (entry_of x index) (live y.table index) (entries_are_alike values x y index alike))
    ∙ ap (λ (o : Option WorldEntry). accepted (renamed refusal_name (entries.set_in o))) there

-- An event comes to the task that acts again.
hears_is : (w : World) (t : ℕ) (task : Task) (f : Lifted) (more : Lifted → Turn) → Acts w t task f → hears t (in_state t Acting w) more ≡ more f
hears_is w t task f more acts =
    turn_found (task_at (in_state t Acting w) t) (record task { state = Acting }) (λ task. turns.given (func_of task.callee) more)
    (changed_there t (λ (task : Task). record task { state = Acting }) w.tasks task acts.there)
    ∙ turn_found (func_of task.callee) f more acts.runs

heard_as : (w : World) (t : ℕ) (task : Task) (f : Lifted) (more : Lifted → Turn) → Acts w t task f → more f ≡ behind [] (hears t (in_state t Acting w) more)
heard_as w t task f more acts = sym (behind_none (hears t (in_state t Acting w) more) ∙ hears_is w t task f more acts)

on_cancel : (g : Graph) (values : List ValType) (s : Script) (h : Held) (stacks : List (List Stack)) (w : World) (t : ℕ) (task : Task) (f : Lifted) (r : kept_receiver.Receiver) (to : control.Receiver)
    → Acts w t task f → Receives r to → Stands g values s h stacks (in_state t Acting w)
    → Agrees g values s t h.labels stacks (Gives (flow.HearsCancel r) h) (received_cancel g t f to (in_state t Acting w))
on_cancel g values s h stacks w t task f r to acts receives st = record {
  lines = [];
  world = in_state t Acting w;
  stands = st;
  told = sym (append-nil h.labels);
  ends = (to, receives, heard_as w t task f (λ f. received_cancel g t f to (in_state t Acting w)) acts);
}

on_none : (g : Graph) (values : List ValType) (s : Script) (h : Held) (stacks : List (List Stack)) (w : World) (t : ℕ) (task : Task) (f : Lifted) (r : kept_receiver.Receiver) (to : control.Receiver)
    → Acts w t task f → Receives r to → Stands g values s h stacks (in_state t Acting w)
    → Agrees g values s t h.labels stacks (Gives (flow.HearsNone r) h) (received_none g t f to (in_state t Acting w))
on_none g values s h stacks w t task f r to acts receives st = record {
  lines = [];
  world = in_state t Acting w;
  stands = st;
  told = sym (append-nil h.labels);
  ends = (to, receives, heard_as w t task f (λ f. received_none g t f to (in_state t Acting w)) acts);
}

on_delivers : (g : Graph) (values : List ValType) (s : Script) (before : List Label) (h : Held) (stacks : List (List Stack)) (w : World) (t set : ℕ) (r : kept_receiver.Receiver) (to : control.Receiver)
    → Receives r to → h.labels ≡ before → Stands g values s h stacks w
    → Agrees g values s t before stacks (Gives (flow.Delivers r set) h) (silent (control.Delivers set to None) w)
on_delivers g values s before h stacks w t set r to receives same st =
    record { lines = []; world = w; stands = st; told = same ∙ sym (append-nil before); ends = (to, receives, refl) }

-- At a set.
word_is : (t place : ℕ) (h : Held) (x : TaskSlot) → slice_get h.tasks t ≡ Some x → word_in x.at_words 1 ≡ Some place → word_of t 1 h ≡ Gives place h
word_is t place h x is small =
    found (slice_get h.tasks t) x (λ slot. given (word_in slot.at_words 1) (λ word. Gives word h)) is ∙ found (word_in x.at_words 1) place (λ word. Gives word h) small

set_flows : (g : Graph) (values : List ValType) (s : Script) (h : Held) (stacks : List (List Stack)) (w : World) (t : ℕ) (task : Task) (f : Lifted) (number place set : ℕ) (words : List ℕ) (b : Bool)
    → Acts w t task f → word_in words 1 ≡ Some place → Stands g values s h stacks (in_state t Acting w)
    → Agrees g values s t h.labels stacks (Gives (set_flow b number place set) h)
    (if b then received_cancel g t f (control.InWait number words) (in_state t Acting w) else silent (control.Delivers set (control.InWait number words) None) (in_state t Acting w))
set_flows g values s h stacks w t task f number place set words true acts small st =
    on_cancel g values s h stacks w t task f (receiver.InWait number place) (control.InWait number words) acts (refl, small) st
set_flows g values s h stacks w t task f number place set words false acts small st =
    on_delivers g values s h.labels h stacks (in_state t Acting w) t set (receiver.InWait number place) (control.InWait number words) (refl, small) refl st

pub set_resumes : SetResumes
unfolding resumed machine.wait_resumed set_resumed
set_resumes g values s h stacks w t task f number index words acts is gates places waits st =
    let k : IsKept g values s h w t task f = is_kept g values s h stacks w t task f acts st in
    let gone : Held = gone_on t k.slot h in
    let place : ℕ = (places k.slot k.is).0 in
    let set : ℕ = (waits k.inst k.here).0 in
    let there : entry_of k.inst index ≡ Some (entry.Set set) = (waits k.inst k.here).1 in
    let later : Held = with_instance f.instance (with_sets (waited_off set k.inst.sets) k.inst) gone in
    let stands : Stands g values s later stacks (in_state t Acting w) =
    waited_off_stands g values s gone stacks (in_state t Acting w) f.instance set k.inst k.here (gone_stands g values s h stacks w t k.slot k.is st) in
    both_as g values s t h.labels stacks _ _ _ _
    (resumes_is g values s h w t task f k (phase.Blocked (blocked_at.Set index) (flag_at g number)) (far_is g values s h w t task f k (InBuiltin number words (ForSet index)) is)
    ∙ from_is g values s h w t task f k number words (ForSet index) is
    ∙ builtin_is g values s h w t task f k number place words (ForSet index) is refl (word_is t place h k.slot k.is (places k.slot k.is).1)
    ∙ via _ _ _ _ (set_known_is f.instance index set gone k.inst k.here there)
    ∙ via _ _ _ _ (waited_off_is f.instance set gone k.inst k.here (waits k.inst k.here).2)
    ∙ ap (λ (b : Bool). Gives (set_flow b number place set) later) (told_alike g values s h w t task f k number words (ForSet index) is gates))
    (resuming_is g w t task f (InBuiltin number words (ForSet index)) acts is
    ∙ ap (λ (o : Option ℕ). if machine.is_to_be_told g number (ForSet index) task w f.instance then received_cancel g t f (control.InWait number words) (in_state t Acting w)
    else turns.given o (λ set. silent (control.Delivers set (control.InWait number words) None) (in_state t Acting w)))
    (set_number_is values w f.instance index set k.inst k.machine_inst k.machine_here k.insts there))
    (set_flows g values s later stacks w t task f number place set words (machine.is_to_be_told g number (ForSet index) task w f.instance) acts (places k.slot k.is).2 stands)

-- In its loop, where it has exclusive entry again.
acts_in_loop : (g : Graph) (s : Script) (x : TaskSlot) (a : Task) → x.errand ≡ errand.None → TaskStands g s x a
    → TaskStands g s (slots.with_task (record x.task { phase = phase.Acting }) x) (record a { state = Acting })
acts_in_loop g s x a none st = record {
  does = st.does;
  place = st.place;
  lifted = st.lifted;
  called = st.called;
  seen = st.seen;
  far = refl;
  at = none;
  resolved = st.resolved;
  cancelled = st.cancelled;
  words = st.words;
  placed = tt;
}

wait_flows : (g : Graph) (values : List ValType) (s : Script) (h : Held) (stacks : List (List Stack)) (w : World) (t : ℕ) (task : Task) (f : Lifted) (set : ℕ) (b : Bool)
    → Acts w t task f → Stands g values s h stacks (in_state t Acting w)
    → Agrees g values s t h.labels stacks (Gives (loop_flow b false set) h)
    (if b then received_cancel g t f control.InCallback (in_state t Acting w) else silent (control.Delivers set control.InCallback None) (in_state t Acting w))
wait_flows g values s h stacks w t task f set true acts st = on_cancel g values s h stacks w t task f receiver.InCallback control.InCallback acts tt st
wait_flows g values s h stacks w t task f set false acts st = on_delivers g values s h.labels h stacks (in_state t Acting w) t set receiver.InCallback control.InCallback tt refl st

poll_flows : (g : Graph) (values : List ValType) (s : Script) (h : Held) (stacks : List (List Stack)) (w : World) (t : ℕ) (task : Task) (f : Lifted) (set : ℕ) (b : Bool)
    → Acts w t task f → Stands g values s h stacks (in_state t Acting w)
    → Agrees g values s t h.labels stacks (Gives (loop_flow b true set) h)
    (if b then received_cancel g t f control.InCallback (in_state t Acting w)
    else set_polled g t f set (ready (in_state t Acting w) f.instance set) (in_state t Acting w))
poll_flows g values s h stacks w t task f set true acts st = on_cancel g values s h stacks w t task f receiver.InCallback control.InCallback acts tt st
poll_flows g values s h stacks w t task f set false acts st = record {
  lines = [];
  world = in_state t Acting w;
  stands = st;
  told = sym (append-nil h.labels);
  ends = (refl, heard_as w t task f (λ f. set_polled g t f set (ready (in_state t Acting w) f.instance set) (in_state t Acting w)) acts);
}

-- What the task waits for in its loop, over an instance with these sets.
set_left_off : (g : Graph) (values : List ValType) (s : Script) (h : Held) (stacks : List (List Stack)) (w : World) (t : ℕ) (task : Task) (f : Lifted) (index set : ℕ) (i : InstanceView) (b polls : Bool)
    → slice_get h.instances f.instance ≡ Some i → entry_of i index ≡ Some (entry.Set set) → (is_there set i.sets && has_waiter set i.sets) ≡ true
    → loop_resumed_at f.instance b polls index h ≡ Gives (loop_flow b polls set) (with_instance f.instance (with_sets (waited_off set i.sets) i) h)
unfolding loop_resumed_at
set_left_off g values s h stacks w t task f index set i b polls here there both =
    via _ _ _ _ (set_known_is f.instance index set h i here there) ∙ via _ _ _ _ (waited_off_is f.instance set h i here both)

next_flows : (g : Graph) (values : List ValType) (s : Script) (h : Held) (stacks : List (List Stack)) (w : World) (t : ℕ) (task : Task) (f : Lifted) (i : InstanceView) (a : Inst) (b : Bool) (next : Next)
    → Acts w t task f → slice_get h.instances f.instance ≡ Some i → slice_get w.insts f.instance ≡ Some a → InstStands values i a → LoopsAt h f.instance next
    → Stands g values s h stacks (in_state t Acting w)
    → Agrees g values s t h.labels stacks (loop_resumed_by f.instance b (Ok next) h)
    (if b then received_cancel g t f control.InCallback (in_state t Acting w) else next_resumed g t f (Ok next) (in_state t Acting w))
unfolding next_resumed
next_flows g values s h stacks w t task f i a b next.Exit acts here there alike waits st = absurd waits
next_flows g values s h stacks w t task f i a true next.Yield acts here there alike waits st =
    on_cancel g values s h stacks w t task f receiver.InCallback control.InCallback acts tt st
next_flows g values s h stacks w t task f i a false next.Yield acts here there alike waits st =
    on_none g values s h stacks w t task f receiver.InCallback control.InCallback acts tt st
next_flows g values s h stacks w t task f i a b (next.Wait index) acts here there alike waits st =
    let set : ℕ = (waits i here).0 in
    both_as g values s t h.labels stacks _ _ _ _
    (set_left_off g values s h stacks w t task f index set i b false here (waits i here).1 (waits i here).2)
    (ap (λ (o : Option ℕ). if b then received_cancel g t f control.InCallback (in_state t Acting w)
    else turns.given o (λ set. silent (control.Delivers set control.InCallback None) (in_state t Acting w)))
    (set_number_is values w f.instance index set i a there alike (waits i here).1))
    (wait_flows g values s (with_instance f.instance (with_sets (waited_off set i.sets) i) h) stacks w t task f set b acts
    (waited_off_stands g values s h stacks (in_state t Acting w) f.instance set i here st))
next_flows g values s h stacks w t task f i a b (next.Poll index) acts here there alike waits st =
    let set : ℕ = (waits i here).0 in
    both_as g values s t h.labels stacks _ _ _ _
    (set_left_off g values s h stacks w t task f index set i b true here (waits i here).1 (waits i here).2)
    (ap (λ (o : Option ℕ). if b then received_cancel g t f control.InCallback (in_state t Acting w)
    else turns.given o (λ set. set_polled g t f set (ready (in_state t Acting w) f.instance set) (in_state t Acting w)))
    (set_number_is values w f.instance index set i a there alike (waits i here).1))
    (poll_flows g values s (with_instance f.instance (with_sets (waited_off set i.sets) i) h) stacks w t task f set b acts
    (waited_off_stands g values s h stacks (in_state t Acting w) f.instance set i here st))

set_still : (h k : Held) (at : ℕ) (i j : InstanceView) (index : ℕ) → slice_get h.instances at ≡ Some i → slice_get k.instances at ≡ Some j → j.slots ≡ i.slots → j.sets ≡ i.sets
    → IsWaitedOn h at index → IsWaitedOn k at index
set_still h k at i j index is later slots sets waits other there =
    let same : other ≡ j = some_same (sym there ∙ later) in (
      (waits i is).0,
      ap (λ (x : InstanceView). entry_of x index) same ∙ ap (λ (x : Slots WorldEntry). entry_at x index) slots ∙ (waits i is).1,
      ap (λ (x : InstanceView). is_there (waits i is).0 x.sets && has_waiter (waits i is).0 x.sets) same
          ∙ ap (λ (x : List SetView). is_there (waits i is).0 x && has_waiter (waits i is).0 x) sets ∙ (waits i is).2,
    )

-- The set on which it waits is not touched where it has exclusive entry again.
waits_still : (h k : Held) (at : ℕ) (i j : InstanceView) (next : Next) → slice_get h.instances at ≡ Some i → slice_get k.instances at ≡ Some j → j.slots ≡ i.slots → j.sets ≡ i.sets
    → LoopsAt h at next → LoopsAt k at next
waits_still h k at i j next.Exit is later slots sets waits = waits
waits_still h k at i j next.Yield is later slots sets waits = tt
waits_still h k at i j (next.Wait index) is later slots sets waits = set_still h k at i j index is later slots sets waits
waits_still h k at i j (next.Poll index) is later slots sets waits = set_still h k at i j index is later slots sets waits

pub loop_resumes : LoopResumes
unfolding resumed loop_resumed machine.loop_resumed
loop_resumes g values s h stacks w t task f word next acts is reads waits st =
    let k : IsKept g values s h w t task f = is_kept g values s h stacks w t task f acts st in
    let slot : TaskSlot = slots.with_task (record k.slot.task { phase = phase.Acting }) k.slot in
    let gone : Held = with_task t slot h in
    let inst : InstanceView = with_gate (held_by t k.inst.gate) k.inst in
    let later : Held = with_instance f.instance inst gone in
    let gone_st : Stands g values s gone stacks (in_state t Acting w) =
    tasks_change g values s h stacks w t k.slot slot (λ task. record task { state = Acting }) k.is
    (λ a there now. acts_in_loop g s k.slot a (k.alike.at ∙ ap errand_of is) now) (λ a. refl) st in
    let later_st : Stands g values s later stacks (in_state t Acting w) =
    instances_stay g values s gone stacks (in_state t Acting w) f.instance k.inst inst k.here
    (λ a now. entry_is_not_said values k.inst a (held_by t k.inst.gate) refl now) gone_st in
    both_as g values s t h.labels stacks _ _ _ _
    (resumes_is g values s h w t task f k (phase.Blocked (blocked_at.Loop word) false) (far_is g values s h w t task f k (InLoop word) is)
    ∙ via _ _ _ _ (asked_is t h k.slot k.is)
    ∙ via _ _ _ _ (happens_when event.Go k.slot t h k.is (ap waits_inside (far_is g values s h w t task f k (InLoop word) is)) refl)
    ∙ via _ _ _ _ (taken_back_is f.instance t gone k.inst k.here)
    ∙ ap (λ (r : Result Next BadCode). loop_resumed_by f.instance (is_asked k.slot.task.cancellation) r later) reads
    ∙ ap (λ (c : Cancellation). loop_resumed_by f.instance (is_asked c) (Ok next) later) k.alike.cancelled)
    (resuming_is g w t task f (InLoop word) acts is
    ∙ ap (λ (r : Result Next BadCode). if is_asked task.cancellation then received_cancel g t f control.InCallback (in_state t Acting w)
    else next_resumed g t f r (in_state t Acting w)) reads)
    (next_flows g values s later stacks w t task f inst k.machine_inst (is_asked task.cancellation) next acts (get_set h.instances f.instance k.inst inst k.here) k.machine_here
    (entry_is_not_said values k.inst k.machine_inst (held_by t k.inst.gate) refl k.insts)
    (waits_still h later f.instance k.inst inst next k.here (get_set h.instances f.instance k.inst inst k.here) refl refl waits) later_st)
