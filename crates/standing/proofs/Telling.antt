-- The caller of a task is told its state: what was lent for the call is given back once it has resolved.
use Rattle.std.proofs.Common.{◌≡◌, ℕ, ◌+◌, ◌-◌, Bool, true, false, not, nat_eq, nat_lt, if◌then◌else◌, List, [], ◌∷◌, ◌++◌, refl, sym, ap, ◌∙◌, subst, append-nil, append_assoc, Option, Some, None}
use Rattle.std.specs.Option.{option_map}
use Rattle.std.specs.List.{slice_get}
use Rattle.std.proofs.lemmas.Bool.{eqb-true}
use Rattle.syntax_trees.specs.declared.types.ValType.{ValType}
use Rattle.wasm_store.specs.Stack.{Stack}
use Rattle.stream_ends.specs.declared.side.Side.{Side}
use Rattle.stream_ends.specs.declared.side.Side.TheVariants.{Reader, Writer}
use Rattle.res_handles.specs.Calls as handles
use Rattle.tasks.specs.declared.phase.Caller.TheVariants as view
use Rattle.tasks.specs.declared.phase.Cancellation.{Cancellation}
use Rattle.tasks.specs.declared.phase.Phase.{Phase}
use Rattle.tasks.specs.declared.phase.Resolution.{Resolution}
use Rattle.tasks.specs.declared.phase.Resolution.TheVariants as resolution
use Rattle.tasks.specs.declared.subtask_state.SubtaskState.{SubtaskState}
use Rattle.tasks.specs.declared.subtask_state.SubtaskState.TheVariants as state
use Rattle.tasks.specs.Tasks.{resolved_state, state_of}
use Rattle.tasks.specs.Subtasks.{code_of, is_over, has_event, delivered}
use Rattle.comp_graph.specs.Graph.{Graph}
use Rattle.script_reader.specs.Script.{Script}
use Rattle.trace_labels.specs.declared.label.Label.TheVariants as line
use Rattle.instances.specs.declared.entry.EndEntry.{EndEntry}
use Rattle.instances.specs.declared.entry.WorldEntry.{WorldEntry}
use Rattle.instances.specs.declared.entry.WorldEntry.TheVariants as entry
use Rattle.instances.specs.Entries.{seen_as, seen_by, of_handle}
use Rattle.instances.specs.Instances as instance
use Rattle.instances.specs.Instances.{InstanceView, entry_of, with_slots, lends_of}
use Rattle.task_table.specs.declared.caller.Called.{Called}
use Rattle.task_table.specs.declared.caller.Caller as kept_caller
use Rattle.task_table.specs.declared.caller.Caller.TheVariants as by
use Rattle.task_table.specs.declared.slot.TaskSlot.{TaskSlot}
use Rattle.task_table.specs.Callers as callers
use Rattle.task_table.specs.Callers.{called_of, payload_of, changed}
use Rattle.task_table.specs.Slots.{told_slot}
use Rattle.world_parts.specs.Held as kept
use Rattle.world_parts.specs.Held.{Held, Done, Gives, after, given}
use Rattle.world_parts.specs.Entries.{with_instance}
use Rattle.world_parts.specs.Feed.{told}
use Rattle.world_parts.specs.Slots.{with_task, lends_found, told_by, state_told}
use Rattle.world_parts.specs.Calls.{unlent, all_unlent, given_back, given_back_if, subtask_told}
use Rattle.abi_machine.specs.World.{Inst, Subtask, Caller, Nobody, Host, Guest, TaskState, New, Acting, AfterCall, AfterCancel, Begins, WaitsToEnter, InLoop, InBuiltin, Exited, ForYield, ForSet, ForCall, ForCopy, ForCancel, Task, World}
use Rattle.abi_machine.specs.Edits as world
use Rattle.abi_machine.specs.Edits.{caller_changed, by_view}
use Rattle.abi_machine.specs.Canons.{flag_at}
use Rattle.abi_machine.specs.Counting as counting
use Rattle.abi_machine.specs.Counting.{phase_of, caller_view, subtask_state, has_resolved}
use Rattle.abi_machine.specs.Calling as machine
use Rattle.abi_machine.specs.Calling.{Told, unlend_lines, lines_told}
use Rattle.abi_machine.proofs.sound.Found.{some_same}
use Rattle.standing.specs.Instances.{InstStands}
use Rattle.standing.specs.Tasks.{SubtaskStands, CallerStands, TaskStands}
use Rattle.standing.specs.Stands.{Stands}
use Rattle.standing.specs.Moves.{GivesBack, CallKept}
use Rattle.standing.proofs.Tables.{entries_stay_alike}
use Rattle.standing.proofs.Changes.{instances_stay, tasks_change}
use Rattle.standing.proofs.Agreeing.{get_set}
use Rattle.standing.proofs.Steps.{via, found, if_true, resolved_is}

-- The state of the subtask that a task is.
open_alike : (c : Cancellation) (flag : ℕ → Bool) (state : TaskState) → resolved_state c None (phase_of flag state) ≡ resolved_state c None (phase_of (λ number. false) state)
open_alike c flag New = refl
open_alike c flag Acting = refl
open_alike c flag (AfterCall callee number words) = refl
open_alike c flag (AfterCancel callee number words) = refl
open_alike c flag (Begins n) = refl
open_alike c flag WaitsToEnter = refl
open_alike c flag (InLoop word) = refl
open_alike c flag (InBuiltin number words ForYield) = refl
open_alike c flag (InBuiltin number words (ForSet index)) = refl
open_alike c flag (InBuiltin number words (ForCall callee)) = refl
open_alike c flag (InBuiltin number words (ForCopy index)) = refl
open_alike c flag (InBuiltin number words (ForCancel index)) = refl
open_alike c flag Exited = refl

flag_is_not_read : (c : Cancellation) (r : Option Resolution) (flag : ℕ → Bool) (state : TaskState)
    → resolved_state c r (phase_of flag state) ≡ resolved_state c r (phase_of (λ number. false) state)
flag_is_not_read c None flag state = open_alike c flag state
flag_is_not_read c (Some resolution.Returned) flag state = refl
flag_is_not_read c (Some resolution.Cancelled) flag state = refl

pub state_alike : (g : Graph) (s : Script) (slot : TaskSlot) (task : Task) → TaskStands g s slot task → state_of slot.task ≡ subtask_state task
state_alike g s slot task st =
    ap (λ (c : Cancellation). resolved_state c slot.task.resolution slot.task.phase) st.cancelled
    ∙ ap (λ (r : Option Resolution). resolved_state task.cancellation r slot.task.phase) st.resolved
    ∙ ap (λ (p : Phase). resolved_state task.cancellation task.resolution p) st.far
    ∙ flag_is_not_read task.cancellation task.resolution (flag_at g) task.state

-- A handle that is lent once less stands for the same.
end_lent_less : (values : List ValType) (i : InstanceView) (a : Inst) (index : ℕ) (f : ℕ → ℕ) (side : Side) (e : EndEntry) → InstStands values i a
    → InstStands values (with_slots (handles.relent_by (Some (seen_by side e)) of_handle f index i.slots) i) a
end_lent_less values i a index f Reader e st = st
end_lent_less values i a index f Writer e st = st

relent_stands : (values : List ValType) (i : InstanceView) (a : Inst) (index : ℕ) (f : ℕ → ℕ) (o : Option WorldEntry) → entry_of i index ≡ o → InstStands values i a
    → InstStands values (with_slots (handles.relent_by (option_map seen_as o) of_handle f index i.slots) i) a
relent_stands values i a index f None is st = st
relent_stands values i a index f (Some (entry.Handle x)) is st =
    entries_stay_alike values i a index (entry.Handle x) (of_handle (handles.with_lends (f x.lends) x)) is (λ e alike. alike) st
relent_stands values i a index f (Some (entry.Subtask callee)) is st = st
relent_stands values i a index f (Some (entry.Set set)) is st = st
relent_stands values i a index f (Some (entry.End e)) is st = end_lent_less values i a index f e.side e st

pub lent_less_stands : (values : List ValType) (i : InstanceView) (a : Inst) (index : ℕ) → InstStands values i a → InstStands values (instance.given_back index i) a
lent_less_stands values i a index st = relent_stands values i a index (λ n. n - 1) (entry_of i index) refl st

-- All that is lent for the call of a task is given back.
record AllBack (g : Graph) (values : List ValType) (s : Script) (stacks : List (List Stack)) (w : World) (h : Held) (at callee : ℕ) (lent : List ℕ) : Type 0 where
  held : Held
  is : all_unlent at callee lent h ≡ Gives tt held
  labels : held.labels ≡ h.labels ++ unlend_lines at callee lent
  tasks : held.tasks ≡ h.tasks
  memories : held.memories ≡ h.memories
  stands : Stands g values s held stacks w

one_back : ℕ → ℕ → ℕ → InstanceView → Held → Held
one_back at callee handle i h =
    record (with_instance at (instance.given_back handle i) h) { labels = h.labels ++ line.Unlend (at + 1) handle callee ∷ [] }

one_back_is : (at callee handle : ℕ) (i : InstanceView) (h : Held) → slice_get h.instances at ≡ Some i → nat_lt 0 (lends_of i handle) ≡ true
    → unlent at callee handle h ≡ Gives tt (one_back at callee handle i h)
unfolding one_back
one_back_is at callee handle i h here some =
    via _ _ _ (λ done k. told (line.Unlend (at + 1) handle callee) k)
    (found (slice_get h.instances at) i (λ i. if nat_lt 0 (lends_of i handle) then Gives tt (with_instance at (instance.given_back handle i) h) else kept.Stuck) here
    ∙ if_true _ _ _ some)

all_back : (g : Graph) (values : List ValType) (s : Script) (stacks : List (List Stack)) (w : World) (h : Held) (at callee : ℕ) (i : InstanceView) (lent : List ℕ)
    → slice_get h.instances at ≡ Some i → GivesBack lent i → Stands g values s h stacks w → AllBack g values s stacks w h at callee lent
unfolding one_back
all_back g values s stacks w h at callee i [] here back st = record { held = h; is = refl; labels = sym (append-nil h.labels); tasks = refl; memories = refl; stands = st }
all_back g values s stacks w h at callee i (handle ∷ lent) here back st =
    let less : InstanceView = instance.given_back handle i in
    let once : Stands g values s (with_instance at less h) stacks w =
    instances_stay g values s h stacks w at i less here (λ a now. lent_less_stands values i a handle now) st in
    let rest : AllBack g values s stacks w (one_back at callee handle i h) at callee lent =
    all_back g values s stacks w (one_back at callee handle i h) at callee less lent (get_set h.instances at i less here) back.1 once in
    record {
      held = rest.held;
      is = via _ _ _ (λ done k. all_unlent at callee lent k) (one_back_is at callee handle i h here back.0) ∙ rest.is;
      labels = rest.labels ∙ append_assoc h.labels (line.Unlend (at + 1) handle callee ∷ []) (unlend_lines at callee lent);
      tasks = rest.tasks;
      memories = rest.memories;
      stands = rest.stands;
    }

-- What the caller's side of the call is when it is told.
decoded : ℕ → SubtaskState
decoded n =
    if nat_eq n 0 then state.Starting else if nat_eq n 1 then state.Started else if nat_eq n 2 then state.Returned else
    if nat_eq n 3 then state.CancelledBeforeStarted else state.CancelledBeforeReturned

decoded_back : (x : SubtaskState) → decoded (code_of x) ≡ x
unfolding decoded
decoded_back state.Starting = refl
decoded_back state.Started = refl
decoded_back state.Returned = refl
decoded_back state.CancelledBeforeStarted = refl
decoded_back state.CancelledBeforeReturned = refl

same_state : (x y : SubtaskState) → nat_eq (code_of x) (code_of y) ≡ true → x ≡ y
same_state x y e = sym (decoded_back x) ∙ ap decoded (eqb-true (code_of x) (code_of y) e) ∙ decoded_back y

not_none : (b : Bool) → not b ≡ false → b ≡ true
not_none true e = refl
not_none false e = absurd (cc)

freed : (b : Bool) (kept given_up : List ℕ) → (b ≡ true → kept ≡ []) → kept ≡ given_up → kept ≡ (if b then [] else given_up)
freed true kept given_up over same = over refl
freed false kept given_up over same = same

side_told : (called : Called) (subtask : Subtask) (callee : ℕ) (now : SubtaskState) (b : Bool) → has_event called.subtask ≡ b → SubtaskStands called subtask
    → called.subtask.state ≡ now → (is_over called.subtask.told ≡ true → called.subtask.lends ≡ [])
    → SubtaskStands (if b then callers.with_subtask (delivered called.subtask) called else called) (by_view delivered callee now subtask)
side_told called subtask callee now true news st same over = record {
  caller = st.caller;
  by_canon = st.by_canon;
  passed = st.passed;
  was_told = same;
  lent = ap (λ (x : SubtaskState). if is_over x then [] else called.subtask.lends) same ∙ ap (λ (xs : List ℕ). if is_over now then [] else xs) st.lent;
  kept = st.kept;
}
side_told called subtask callee now false news st same over =
    let last : called.subtask.told ≡ now =
    sym (same_state called.subtask.state called.subtask.told (not_none (nat_eq (code_of called.subtask.state) (code_of called.subtask.told)) news)) ∙ same in
    record {
      caller = st.caller;
      by_canon = st.by_canon;
      passed = st.passed;
      was_told = last;
      lent = freed (is_over now) called.subtask.lends subtask.lends (λ e. over (ap is_over last ∙ e)) st.lent;
      kept = st.kept;
    }

caller_told : (s : Script) (c : kept_caller.Caller) (d : Caller) (called : Called) (subtask : Subtask) (f : Called → Called) (k : Subtask → Subtask) → c ≡ by.Guest called → d ≡ Guest subtask
    → CallerStands s c d → (SubtaskStands called subtask → SubtaskStands (f called) (k subtask)) → CallerStands s (changed f c) (caller_changed k d)
caller_told s c d called subtask f k is there st keeps =
    subst (λ (x : kept_caller.Caller). CallerStands s (changed f x) (caller_changed k d)) (sym is)
    (subst (λ (y : Caller). CallerStands s (changed f (by.Guest called)) (caller_changed k y)) (sym there)
    (keeps (subst (λ (y : Caller). CallerStands s (by.Guest called) y) there (subst (λ (x : kept_caller.Caller). CallerStands s x d) is st))))

same_view : (k : Subtask → Subtask) (c : Caller) → ((x : Subtask) → (k x).by ≡ x.by) → caller_view (caller_changed k c) ≡ caller_view c
same_view k Nobody same = refl
same_view k (Host call values) same = refl
same_view k (Guest subtask) same = ap (λ (n : ℕ). view.Guest n) (same subtask)

-- The caller's side of the call of a task is changed, on both sides.
pub side_changed : (g : Graph) (s : Script) (x : TaskSlot) (a : Task) (called : Called) (subtask : Subtask) (f : Called → Called) (k : Subtask → Subtask) → x.caller ≡ by.Guest called
    → a.caller ≡ Guest subtask → ((y : Subtask) → (k y).by ≡ y.by) → (SubtaskStands called subtask → SubtaskStands (f called) (k subtask)) → TaskStands g s x a
    → TaskStands g s (record x { caller = changed f x.caller }) (record a { caller = caller_changed k a.caller })
side_changed g s x a called subtask f k is there same keeps st = record {
  does = st.does;
  place = st.place;
  lifted = st.lifted;
  called = caller_told s x.caller a.caller called subtask f k is there st.called keeps;
  seen = st.seen ∙ sym (same_view k a.caller same);
  far = st.far;
  at = st.at;
  resolved = st.resolved;
  cancelled = st.cancelled;
  words = st.words;
  placed = st.placed;
}

-- So the caller is told.
pub record ToldSo (g : Graph) (values : List ValType) (s : Script) (stacks : List (List Stack)) (h : Held) (d : Done ℕ) (so : Told) : Type 0 where
  pub held : Held
  pub is : d ≡ Gives so.payload held
  pub labels : held.labels ≡ h.labels ++ so.lines
  pub memories : held.memories ≡ h.memories
  pub stands : Stands g values s held stacks so.world

-- the same behind what was given back
pub state_told_so : (g : Graph) (values : List ValType) (s : Script) (stacks : List (List Stack)) (h k : Held) (w : World) (at callee : ℕ) (slot : TaskSlot) (called : Called) (task : Task) (subtask : Subtask)
    → CallKept h at callee slot called → slice_get w.tasks callee ≡ Some task → task.caller ≡ Guest subtask → TaskStands g s slot task → k.tasks ≡ h.tasks
    → Stands g values s k stacks w
    → (state_told callee k ≡ Gives (counting.state_of task) (with_task callee (told_slot slot) k))
    × Stands g values s (with_task callee (told_slot slot) k) stacks (world.told callee (subtask_state task) w)
state_told_so g values s stacks h k w at callee slot called task subtask call there guest alike same st =
    let is : slice_get k.tasks callee ≡ Some slot = ap (λ (ts : List TaskSlot). slice_get ts callee) same ∙ call.there in
    let now : called.subtask.state ≡ subtask_state task = call.marked ∙ state_alike g s slot task alike in (
      found (slice_get k.tasks callee) slot (λ slot. told_by (payload_of slot.caller) callee (told_slot slot) k) is
          ∙ ap (λ (c : kept_caller.Caller). told_by (payload_of c) callee (told_slot slot) k) call.guest
          ∙ ap (λ (x : SubtaskState). Gives (code_of x) (with_task callee (told_slot slot) k)) now,
      tasks_change g values s k stacks w callee slot (told_slot slot) (λ task0. record task0 { caller = caller_changed (by_view delivered callee (subtask_state task)) task0.caller }) is
          (λ a a_is a_st. side_changed g s slot a called subtask callers.told (by_view delivered callee (subtask_state task)) call.guest
          (ap (λ (x : Task). x.caller) (some_same (sym a_is ∙ there)) ∙ guest) (λ y. refl)
          (λ sub. side_told called subtask callee (subtask_state task) (has_event called.subtask) refl sub now call.over) a_st) (λ a. refl) st,
    )

told_by_over : (g : Graph) (values : List ValType) (s : Script) (stacks : List (List Stack)) (h : Held) (w : World) (at callee : ℕ) (slot : TaskSlot) (called : Called) (task : Task) (subtask : Subtask)
    (i : InstanceView) (b : Bool)
    → CallKept h at callee slot called → slice_get w.tasks callee ≡ Some task → task.caller ≡ Guest subtask → TaskStands g s slot task → SubtaskStands called subtask
    → slice_get h.instances at ≡ Some i → Stands g values s h stacks w
    → ToldSo g values s stacks h (after (given_back_if b at callee h) (λ (done : Unit {0}) l. state_told callee l))
    (record { lines = lines_told at callee b subtask.lends; payload = counting.state_of task; world = world.told callee (subtask_state task) w })
unfolding given_back
told_by_over g values s stacks h w at callee slot called task subtask i false call there guest alike sub here st =
    let so : _ = state_told_so g values s stacks h h w at callee slot called task subtask call there guest alike refl st in
    record { held = with_task callee (told_slot slot) h; is = so.0; labels = sym (append-nil h.labels); memories = refl; stands = so.1 }
told_by_over g values s stacks h w at callee slot called task subtask i true call there guest alike sub here st =
    let back : AllBack g values s stacks w h at callee called.subtask.lends = all_back g values s stacks w h at callee i called.subtask.lends here (call.lent i here) st in
    let so : _ = state_told_so g values s stacks h back.held w at callee slot called task subtask call there guest alike back.tasks back.stands in
    let lends : lends_found callee h ≡ Gives called.subtask.lends h =
    found (slice_get h.tasks callee) slot (λ slot. given (called_of slot.caller) (λ called. Gives called.subtask.lends h)) call.there
    ∙ ap (λ (c : kept_caller.Caller). given (called_of c) (λ called. Gives called.subtask.lends h)) call.guest in
    record {
      held = with_task callee (told_slot slot) back.held;
      is = via _ _ _ (λ done l. state_told callee l) (via _ _ _ (λ handles k. all_unlent at callee handles k) lends ∙ back.is) ∙ so.0;
      labels = back.labels ∙ ap (λ (xs : List ℕ). h.labels ++ unlend_lines at callee xs) sub.lent;
      memories = back.memories;
      stands = so.1;
    }

pub told_so : (g : Graph) (values : List ValType) (s : Script) (stacks : List (List Stack)) (h : Held) (w : World) (at callee : ℕ) (slot : TaskSlot) (called : Called) (task : Task) (subtask : Subtask)
    (i : InstanceView)
    → CallKept h at callee slot called → slice_get w.tasks callee ≡ Some task → task.caller ≡ Guest subtask → TaskStands g s slot task → SubtaskStands called subtask
    → slice_get h.instances at ≡ Some i → Stands g values s h stacks w
    → ToldSo g values s stacks h (subtask_told at callee h) (machine.subtask_told at callee task subtask w)
unfolding subtask_told
told_so g values s stacks h w at callee slot called task subtask i call there guest alike sub here st =
    let so : _ = told_by_over g values s stacks h w at callee slot called task subtask i (has_resolved task) call there guest alike sub here st in
    record {
      held = so.held;
      is = via _ _ _ _ (resolved_is callee h slot call.there)
          ∙ ap (λ (x : SubtaskState). after (given_back_if (is_over x) at callee h) (λ (done : Unit {0}) l. state_told callee l)) (state_alike g s slot task alike) ∙ so.is;
      labels = so.labels;
      memories = so.memories;
      stands = so.stands;
    }
