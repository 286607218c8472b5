-- A subtask is cancelled.
use Rattle.std.proofs.Common.{◌≡◌, ℕ, Bool, true, false, not, ◌&&◌, is_none, is_some, if◌then◌else◌, List, [], ◌∷◌, slice_index, slice_set, refl, sym, ap, ◌∙◌, subst, append-nil, Option, Some, None}
use Rattle.std.specs.Prelude.{IsSome}
use Rattle.std.specs.List.{slice_get}
use Rattle.std.proofs.lemmas.Bool.{and_from}
use Rattle.syntax_trees.specs.declared.types.ValType.{ValType}
use Rattle.wasm_store.specs.Stack.{Stack}
use Rattle.tasks.specs.declared.phase.Cancellation.{Cancellation}
use Rattle.tasks.specs.declared.phase.Phase.{Phase}
use Rattle.tasks.specs.declared.phase.Phase.TheVariants as phase
use Rattle.tasks.specs.declared.phase.Resolution.{Resolution}
use Rattle.tasks.specs.declared.phase.Resolution.TheVariants as resolution
use Rattle.tasks.specs.declared.subtask_state.SubtaskState.{SubtaskState}
use Rattle.tasks.specs.declared.subtask_state.SubtaskState.TheVariants as state
use Rattle.tasks.specs.Tasks.{is_unasked, is_told, resolved_state, state_of}
use Rattle.tasks.specs.Subtasks.{is_over}
use Rattle.comp_graph.specs.Graph.{Graph, Lifted}
use Rattle.script_reader.specs.Script.{Script}
use Rattle.trace_labels.specs.declared.label.Label.{Label}
use Rattle.trace_labels.specs.declared.trap.TrapName.TheVariants as trap
use Rattle.instances.specs.declared.entry.WorldEntry.TheVariants as entry
use Rattle.instances.specs.Entries as entries
use Rattle.instances.specs.Instances.{InstanceView, entry_of}
use Rattle.task_table.specs.declared.errand.Errand.TheVariants as errand
use Rattle.task_table.specs.declared.slot.TaskSlot.{TaskSlot}
use Rattle.task_table.specs.Slots.{at_errand}
use Rattle.world_parts.specs.declared.parts.Flow.{Flow}
use Rattle.world_parts.specs.declared.parts.Flow.TheVariants as flow
use Rattle.world_parts.specs.declared.parts.Rest.TheVariants as rest
use Rattle.world_parts.specs.Held.{Held, Done, Gives, Traps, after, given}
use Rattle.world_parts.specs.Entries.{named}
use Rattle.world_parts.specs.Feed.{at_rest}
use Rattle.world_parts.specs.Slots.{with_task, word_in, delivered, unasked}
use Rattle.world_parts.specs.Subtasks.{cancelled, subtask_asked, subtask_cancel}
use Rattle.abi_machine.specs.Control.{Back}
use Rattle.abi_machine.specs.World.{Subtask, Acting, AfterCancel, Task, World}
use Rattle.abi_machine.specs.Edits.{in_state}
use Rattle.abi_machine.specs.Canons.{flag_at}
use Rattle.abi_machine.specs.Counting.{phase_of, subtask_state, has_resolved, task_view}
use Rattle.abi_machine.specs.Cancelling.{first_of, cancelled_turn}
use Rattle.abi_machine.specs.Finding as finding
use Rattle.abi_machine.specs.Traps.{renamed, refusal_name}
use Rattle.abi_machine.specs.Turn.{Turn, silent, unless, unless_refused}
use Rattle.abi_machine.specs.Calling.{with_subtask_of}
use Rattle.abi_machine.specs.replies.Subtasks.{cancel_asked, subtask_cancel_turn}
use Rattle.abi_machine.proofs.sound.Found.{some_same}
use Rattle.standing.specs.Instances.{InstStands}
use Rattle.standing.specs.Tasks.{TaskStands}
use Rattle.standing.specs.Stands.{Stands}
use Rattle.standing.specs.Agreeing.{Agrees}
use Rattle.standing.specs.Resolutions.{MayBeAsked, SubtaskIsAsked}
use Rattle.standing.proofs.Lists.{IsFound, found_both}
use Rattle.standing.proofs.Changes.{tasks_change}
use Rattle.standing.proofs.Found.{word_is}
use Rattle.standing.proofs.Agreeing.{turn_as, on_word, on_instance, on_named, on_subtask, on_trap, on_if}
use Rattle.standing.proofs.Answering.{subtask_is, subtask_there}
use Rattle.standing.proofs.Blocking.{on_test}
use Rattle.standing.proofs.Steps.{via, found, both_as, resolved_is, errand_put, other_get, other_changed}
use Rattle.standing.proofs.Telling.{state_alike}
use Rattle.standing.proofs.Asked.{end_is_asked}

-- The first word of a call.
first_is : (words : List ℕ) → first_of words ≡ slice_index words 0
first_is [] = refl
first_is (word ∷ words) = refl

-- A task that has not resolved has no resolution.
over_by : (b : Bool) → is_over (if b then state.CancelledBeforeReturned else state.CancelledBeforeStarted) ≡ false → ⊥
over_by true e = absurd (cc)
over_by false e = absurd (cc)

unresolved : (c : Cancellation) (r : Option Resolution) (p : Phase) → is_over (resolved_state c r p) ≡ false → is_none r ≡ true
unresolved c None p e = refl
unresolved c (Some resolution.Returned) p e = absurd (cc)
unresolved c (Some resolution.Cancelled) p e = absurd (over_by (is_told c) e)

-- The task that asks waits for control.
asks_stand : (g : Graph) (s : Script) (x : TaskSlot) (a : Task) (callee number index : ℕ) (words : List ℕ) → x.task.phase ≡ phase.Acting → index ≡ first_of words → TaskStands g s x a
    → TaskStands g s (at_errand (errand.AfterCancel callee number index) x) (record a { state = AfterCancel callee number words })
asks_stand g s x a callee number index words acts same st = record {
  does = st.does;
  place = st.place;
  lifted = st.lifted;
  called = st.called;
  seen = st.seen;
  far = acts;
  at = ap (errand.AfterCancel callee number) same;
  resolved = st.resolved;
  cancelled = st.cancelled;
  words = st.words;
  placed = tt;
}

asks : (g : Graph) (values : List ValType) (s : Script) (h : Held) (stacks : List (List Stack)) (w : World) (t number word callee : ℕ) (words : List ℕ) (x slot : TaskSlot) (task : Task)
    → slice_get h.tasks t ≡ Some x → x.task.phase ≡ phase.Acting → word ≡ first_of words → slice_get h.tasks callee ≡ Some slot → slice_get w.tasks callee ≡ Some task
    → TaskStands g s slot task → is_unasked task.cancellation ≡ true → MayBeAsked h (in_state t (AfterCancel callee number words) w) t callee → Stands g values s h stacks w
    → Agrees g values s t h.labels stacks (subtask_asked t callee number word h) (cancel_asked g callee task (in_state t (AfterCancel callee number words) w))
unfolding subtask_asked cancel_asked
asks g values s h stacks w t number word callee words x slot task is acts same slot_is task_is alike unasked_so may st =
    let y : TaskSlot = at_errand (errand.AfterCancel callee number word) x in
    let k : Held = with_task t y h in
    let later : World = in_state t (AfterCancel callee number words) w in
    let k_st : Stands g values s k stacks later =
    tasks_change g values s h stacks w t x y (λ a. record a { state = AfterCancel callee number words }) is (λ a there now. asks_stand g s x a callee number word words acts same now) (λ a. refl) st in
    let there : slice_get k.tasks callee ≡ Some slot = other_get h.tasks t callee y may.apart ∙ slot_is in
    let task_there : slice_get later.tasks callee ≡ Some task =
    other_changed w.tasks t callee (λ (a : Task). record a { state = AfterCancel callee number words }) may.apart ∙ task_is in
    let f : _ = may.func task task_there in
    both_as g values s t h.labels stacks _ _ _ _
    (via _ _ _ _ (errand_put t (errand.AfterCancel callee number word) h x is) ∙ via _ _ _ _ (resolved_is callee k slot there)) refl
    (on_test g values s t h.labels stacks (is_over (state_of slot.task)) (has_resolved task) _ _ _ _ (ap is_over (state_alike g s slot task alike))
    (λ over. record { lines = []; world = later; stands = k_st; told = sym (append-nil h.labels); ends = refl })
    (λ open_still. end_is_asked g values s k stacks later t callee task f.0 rest.Back Back task_there f.1 f.2
    (and_from (is_none task.resolution) (is_unasked task.cancellation)
    (subst (λ (r : Option Resolution). is_none r ≡ true) alike.resolved (unresolved slot.task.cancellation slot.task.resolution slot.task.phase open_still)) unasked_so)
    f.3 (λ z z_is. may.state z (sym (other_get h.tasks t callee y may.apart) ∙ z_is)) f.4 (λ words. refl) k_st))

-- A subtask that was told to be over, or of which it was asked before, is refused.
asked_by_state : (g : Graph) (values : List ValType) (s : Script) (h : Held) (stacks : List (List Stack)) (w : World) (t number word callee : ℕ) (words : List ℕ) (x slot : TaskSlot) (task : Task) (b : Bool)
    → slice_get h.tasks t ≡ Some x → x.task.phase ≡ phase.Acting → word ≡ first_of words → slice_get h.tasks callee ≡ Some slot → slice_get w.tasks callee ≡ Some task
    → TaskStands g s slot task → is_unasked task.cancellation ≡ b → MayBeAsked h (in_state t (AfterCancel callee number words) w) t callee → Stands g values s h stacks w
    → Agrees g values s t h.labels stacks (if not b then Traps trap.Asked h else subtask_asked t callee number word h)
    (unless t (not b) trap.Asked w (cancel_asked g callee task (in_state t (AfterCancel callee number words) w)))
asked_by_state g values s h stacks w t number word callee words x slot task true is acts same slot_is task_is alike unasked_so may st =
    asks g values s h stacks w t number word callee words x slot task is acts same slot_is task_is alike unasked_so may st
asked_by_state g values s h stacks w t number word callee words x slot task false is acts same slot_is task_is alike unasked_so may st =
    on_trap g values s t h.labels stacks h w trap.Asked refl st

unasked_is : (t : ℕ) (h : Held) (x : TaskSlot) → slice_get h.tasks t ≡ Some x → unasked t h ≡ Gives (is_unasked x.task.cancellation) h
unasked_is t h x is = found (slice_get h.tasks t) x (λ slot. Gives (is_unasked slot.task.cancellation) h) is

abbrev asked_kept : ℕ → ℕ → ℕ → ℕ → Bool → Held → Done Flow
asked_kept t number word callee is_delivered l =
    if is_delivered then Traps trap.Delivered l else after (unasked callee l) (λ is_unasked m. if not is_unasked then Traps trap.Asked m else subtask_asked t callee number word m)

abbrev asked_told : Graph → ℕ → ℕ → List ℕ → World → ℕ → Task → Subtask → Turn
asked_told g t number words w callee task subtask =
    unless t (is_over subtask.told) trap.Delivered w
    (unless t (not (is_unasked task.cancellation)) trap.Asked w (cancel_asked g callee task (in_state t (AfterCancel callee number words) w)))

pub subtask_is_asked : SubtaskIsAsked
unfolding subtask_cancel subtask_cancel_turn
subtask_is_asked g values s h stacks w t at number word words acting word_there there acts inst may st =
    let one : IsFound (TaskStands g s) (slice_get h.tasks t) (slice_get w.tasks t) = found_both (TaskStands g s) h.tasks w.tasks t st.are_tasks (ap is_some there) in
    let far : one.left.task.phase ≡ phase.Acting =
    one.alike.far ∙ ap (λ (a : Task). phase_of (flag_at g) a.state) (some_same (sym one.is_right ∙ there)) ∙ ap (phase_of (flag_at g)) acts in
    let word_same : word ≡ first_of words = sym (first_is words ∙ word_is words 0 word word_there) in
    on_word g values s t h.labels stacks (word_in words 0) word
    (λ index. after (given (slice_get h.instances at) (λ i. named (entries.subtask_in (entry_of i index)) h)) (λ callee k. after (delivered callee k) (λ is_delivered l. asked_kept t number index callee is_delivered l)))
    (subtask_cancel_turn g t at number words w) word_there
    (on_instance g values s t h.labels stacks h w at (λ i. named (entries.subtask_in (entry_of i word)) h)
    (λ callee k. after (delivered callee k) (λ is_delivered l. asked_kept t number word callee is_delivered l))
    (subtask_cancel_turn g t at number words w) inst st
    (λ i y is_left is_right alike.
    turn_as g values s t h.labels stacks _ (subtask_cancel_turn g t at number words w)
    (unless_refused t (renamed refusal_name (entries.subtask_in (entry_of i word))) w (λ callee. with_subtask_of w callee (λ task subtask. asked_told g t number words w callee task subtask)))
    (ap (λ r. unless_refused t r w (λ callee. with_subtask_of w callee (λ task subtask. asked_told g t number words w callee task subtask)))
    (ap (λ (n : ℕ). finding.subtask_at w at n) (word_is words 0 word word_there) ∙ subtask_is values w at word i y is_right alike))
    (on_named g values s t h.labels stacks h w (entries.subtask_in (entry_of i word))
    (λ callee k. after (delivered callee k) (λ is_delivered l. asked_kept t number word callee is_delivered l))
    (λ callee. with_subtask_of w callee (λ task subtask. asked_told g t number words w callee task subtask)) refl st
    (λ callee found_it.
    on_subtask g values s t h.labels stacks h w callee (λ called. Gives (is_over called.subtask.told) h) (λ is_delivered l. asked_kept t number word callee is_delivered l)
    (λ task subtask. asked_told g t number words w callee task subtask) st
    (λ slot task called subtask slot_is task_is by_is caller_is stands sub.
    on_if g values s t h.labels stacks (is_over called.subtask.told) (is_over subtask.told) _ _ _ _ (ap is_over sub.was_told) (on_trap g values s t h.labels stacks h w trap.Delivered refl st)
    (both_as g values s t h.labels stacks _ _ _ _
    (via _ _ _ (λ is_unasked m. if not is_unasked then Traps trap.Asked m else subtask_asked t callee number word m)
    (unasked_is callee h slot slot_is ∙ ap (λ (c : Cancellation). Gives (is_unasked c) h) stands.cancelled)) refl
    (asked_by_state g values s h stacks w t number word callee words one.left slot task (is_unasked task.cancellation) one.is_left far word_same slot_is task_is stands refl
    (may callee (λ j there_is. ap (λ (v : InstanceView). entry_of v word) (some_same (sym there_is ∙ is_left)) ∙ subtask_there (entry_of i word) callee found_it)) st)))))))
