-- A task can go on, as it is kept, where the machine's can.
use Rattle.std.proofs.Common.{◌≡◌, ℕ, zero, suc, Bool, true, false, cond, not, ◌&&◌, ◌||◌, nat_eq, nat_lt, is_some, List, [], ◌∷◌, filter, refl, sym, ap, ◌∙◌, subst, Option, Some, None, Result, Ok, Err}
use Rattle.std.specs.Prelude.{IsSome}
use Rattle.std.specs.List.{slice_get, list_any}
use Rattle.std.proofs.lemmas.Bool.{and_parts, or_parts}
use Rattle.syntax_trees.specs.declared.types.ValType.{ValType}
use Rattle.wasm_store.specs.Stack.{Stack}
use Rattle.handle_table.specs.History.{live}
use Rattle.handle_table.specs.Alike.{SlotAlike}
use Rattle.waitables.specs.Sets.{is_none}
use Rattle.entry_gate.specs.Gates as gate
use Rattle.entry_gate.specs.Gates.{GateView, is_free}
use Rattle.entry_gate.specs.Kinds.{needs_entry}
use Rattle.entry_gate.specs.declared.kind.Kind.{Kind}
use Rattle.entry_gate.specs.declared.kind.Kind.TheVariants.{Sync, Stackful}
use Rattle.entry_gate.specs.Callbacks.{callback_of}
use Rattle.entry_gate.specs.declared.callback.BadCode.{BadCode}
use Rattle.entry_gate.specs.declared.callback.Next.{Next}
use Rattle.entry_gate.specs.declared.callback.Next.TheVariants as next
use Rattle.stream_ends.specs.Ends.{is_pending}
use Rattle.tasks.specs.declared.event.BlockedAt.TheVariants as blocked_at
use Rattle.tasks.specs.declared.phase.Phase.{Phase}
use Rattle.tasks.specs.declared.phase.Phase.TheVariants as phase
use Rattle.tasks.specs.Tasks.{is_asked, is_cancellable, waits_to_enter}
use Rattle.tasks.specs.Subtasks.{is_over}
use Rattle.res_handles.specs.declared.handle.Ownership.{Ownership}
use Rattle.res_handles.specs.declared.handle.Ownership.TheVariants.{Own, Borrow}
use Rattle.comp_graph.specs.Graph.{Graph, Lifted}
use Rattle.script_reader.specs.Script.{Script}
use Rattle.channels.specs.declared.channel.Channel as kept_channel
use Rattle.instances.specs.declared.entry.WorldEntry.{WorldEntry}
use Rattle.instances.specs.declared.entry.WorldEntry.TheVariants as entry
use Rattle.instances.specs.Instances.{InstanceView, entry_of}
use Rattle.task_table.specs.declared.slot.TaskSlot.{TaskSlot}
use Rattle.task_table.specs.Slots as slots
use Rattle.task_table.specs.Slots.{ends_wait, is_to_be_told}
use Rattle.replies.specs.Seen.{seen}
use Rattle.world_parts.specs.Held.{Held}
use Rattle.world_parts.specs.Channels.{channel_at}
use Rattle.world_parts.specs.Entries as kept_entries
use Rattle.world_parts.specs.News as news
use Rattle.world_parts.specs.News.{entry_in, news_at, set_is_ready, index_is_ready, slot_is_resolved, task_is_resolved, channel_is_pending, entry_is_pending, entry_is_resolved}
use Rattle.world_parts.specs.Turning as kept
use Rattle.world_parts.specs.Turning.{gate_lets, gate_is_free, phase_is_able, slot_is_able, lets_in, lets_others_in}
use Rattle.abi_machine.specs.World.{Entry, Inst, Wait, ForYield, ForSet, ForCall, ForCopy, ForCancel, TaskState, New, Acting, AfterCall, AfterCancel, Begins, WaitsToEnter, InLoop, InBuiltin, Exited, Task, World}
use Rattle.abi_machine.specs.Canons.{flag_at}
use Rattle.abi_machine.specs.Counting.{passes, phase_of, blocked_at_of, has_resolved, end_of, ready}
use Rattle.abi_machine.specs.Finding.{subtask_in, set_in, accepted, any_end_in}
use Rattle.abi_machine.specs.Gate.{gate_of, is_entry_free, may_go_in}
use Rattle.abi_machine.specs.Reading.{table_in, entry_at, func_of, kind_of}
use Rattle.abi_machine.specs.Scheduling as machine
use Rattle.abi_machine.specs.Scheduling.{is_some_ready, is_task_resolved, is_able_in}
use Rattle.abi_machine.proofs.sound.Found.{some_same}
use Rattle.standing.specs.Instances.{owned_as, EntryStands, InstStands}
use Rattle.standing.specs.Tasks.{RunsIn, TaskStands}
use Rattle.standing.specs.Stands.{Stands}
use Rattle.standing.specs.KeptMarks.{HasMarks}
use Rattle.standing.proofs.Delivering.{kind_is}
use Rattle.standing.proofs.EndsDropped.{end_same}
use Rattle.standing.proofs.EndsFound.{EndFound, end_is_found}
use Rattle.standing.proofs.KeptMarks.{gates_are_kept, who_waits_is_kept}
use Rattle.standing.proofs.Lists.{BothAt, at_both, IsFound, found_both}
use Rattle.standing.proofs.News.{ready_is_alike}
use Rattle.standing.proofs.Seen.{graph_is_seen}
use Rattle.standing.proofs.Tables.{entries_are_alike}
use Rattle.standing.proofs.Telling.{state_alike}
use Rattle.run_laws.specs.TaskLists.{is_open, waits_apart, is_watched, is_awake, StillAskedOfTurns}
use Rattle.run_laws.proofs.AskedTasks.{wait_is_counted}

both_same : (a b c d : Bool) → a ≡ b → c ≡ d → (a && c) ≡ (b && d)
both_same a b c d e f = ap (λ (x : Bool). x && c) e ∙ ap (λ (x : Bool). b && x) f

one_same : (a b c d : Bool) → a ≡ b → c ≡ d → (a || c) ≡ (b || d)
one_same a b c d e f = ap (λ (x : Bool). x || c) e ∙ ap (λ (x : Bool). b || x) f

-- What is known of both sides.
pub record AreBeside (g : Graph) (values : List ValType) (s : Script) (h : Held) (stacks : List (List Stack)) (w : World) : Type 0 where
  pub stands : Stands g values s h stacks w
  pub marks : HasMarks h
  pub asked : StillAskedOfTurns g h w
  pub init : (n : ℕ) (task : Task) → slice_get w.tasks n ≡ Some task → func_of task.callee ≡ None → task.state ≡ Exited

-- The ready members of the set at an index.
any_front : (b c : Bool) (x : ℕ) (ys : List ℕ) → c ≡ not (is_none ys) → (b || c) ≡ not (is_none (cond b (x ∷ ys) ys))
any_front true c x ys h = refl
any_front false c x ys h = h

some_is : (p : ℕ → Bool) (xs : List ℕ) → list_any p xs ≡ not (is_none (filter p xs))
some_is p [] = refl
some_is p (x ∷ xs) = any_front (p x) (list_any p xs) x (filter p xs) (some_is p xs)

no_set : (resource rep : ℕ) (o : Ownership) → accepted (set_in (Some (owned_as resource rep o))) ≡ None
no_set resource rep Own = refl
no_set resource rep (Borrow task) = refl

set_alike : (values : List ValType) (o : Option WorldEntry) (p : Option Entry) → SlotAlike (EntryStands values) o p → kept_entries.set_number o ≡ accepted (set_in p)
set_alike values None None a = refl
set_alike values None (Some p) a = absurd a
set_alike values (Some o) None a = absurd a
set_alike values (Some (entry.Handle x)) (Some p) a = sym (ap (λ (b : Entry). accepted (set_in (Some b))) a ∙ no_set x.resource x.rep x.ownership)
set_alike values (Some (entry.Subtask callee)) (Some p) a = sym (ap (λ (b : Entry). accepted (set_in (Some b))) a)
set_alike values (Some (entry.Set set)) (Some p) a = sym (ap (λ (b : Entry). accepted (set_in (Some b))) a)
set_alike values (Some (entry.End e)) (Some p) (k, of, a) = sym (ap (λ (b : Entry). accepted (set_in (Some b))) a)

set_ready : (g : Graph) (h : Held) (w : World) (at : ℕ) (o : Option ℕ) → ((set : ℕ) → news.ready (seen g) at set h ≡ ready w at set)
    → set_is_ready (seen g) at o h ≡ passes (λ set. not (is_none (ready w at set))) o
set_ready g h w at None same = refl
set_ready g h w at (Some set) same = some_is (news_at (seen g) h at) (news.members_in (slice_get h.instances at) set) ∙ ap (λ (xs : List ℕ). not (is_none xs)) (same set)

-- An instance that is there, on both sides.
record IsHere (values : List ValType) (h : Held) (w : World) (at : ℕ) : Type 0 where
  left : InstanceView
  right : Inst
  is_left : slice_get h.instances at ≡ Some left
  is_right : slice_get w.insts at ≡ Some right
  alike : (index : ℕ) → SlotAlike (EntryStands values) (entry_of left index) (live right.table index)
  keeps : left.gate ≡ gate_of w at

here_of : (g : Graph) (values : List ValType) (s : Script) (h : Held) (stacks : List (List Stack)) (w : World) (at : ℕ) → AreBeside g values s h stacks w → IsSome (slice_get w.insts at)
    → IsHere values h w at
here_of g values s h stacks w at b inside =
    let one : IsFound (InstStands values) (slice_get h.instances at) (slice_get w.insts at) = found_both (InstStands values) h.instances w.insts at b.stands.are_instances inside in
    record {
      left = one.left;
      right = one.right;
      is_left = one.is_left;
      is_right = one.is_right;
      alike = λ index. entries_are_alike values one.left one.right index one.alike;
      keeps = gates_are_kept g values s h stacks w at b.stands b.marks one.left one.is_left;
    }

index_alike : (g : Graph) (values : List ValType) (s : Script) (h : Held) (stacks : List (List Stack)) (w : World) (at index : ℕ) → AreBeside g values s h stacks w → IsSome (slice_get w.insts at)
    → index_is_ready (seen g) at index h ≡ is_some_ready w at index
index_alike g values s h stacks w at index b inside =
    let here : IsHere values h w at = here_of g values s h stacks w at b inside in
    let same : (set : ℕ) → news.ready (seen g) at set h ≡ ready w at set =
    λ set. ready_is_alike g values s (seen g) h stacks w at set (graph_is_seen g).0 inside b.asked.ends (who_waits_is_kept g values s h stacks w at b.stands b.marks) (b.asked.copies at) b.stands in
    ap (λ (o : Option ℕ). set_is_ready (seen g) at o h)
    (ap (λ (o : Option InstanceView). kept_entries.set_number (entry_in o index)) here.is_left ∙ set_alike values (entry_of here.left index) (live here.right.table index) (here.alike index)
    ∙ sym (ap (λ (o : Option Inst). accepted (set_in (live (table_in o) index))) here.is_right))
    ∙ set_ready g h w at (accepted (set_in (entry_at w at index))) same

-- A call that has resolved.
slot_resolved : (g : Graph) (s : Script) (o : Option TaskSlot) (p : Option Task) → BothAt (TaskStands g s) o p → slot_is_resolved o ≡ passes has_resolved p
slot_resolved g s None None b = refl
slot_resolved g s None (Some a) b = absurd b
slot_resolved g s (Some x) None b = absurd b
slot_resolved g s (Some x) (Some a) b = ap is_over (state_alike g s x a b)

resolved_alike : (g : Graph) (values : List ValType) (s : Script) (h : Held) (stacks : List (List Stack)) (w : World) (callee : ℕ) → Stands g values s h stacks w
    → task_is_resolved callee h ≡ is_task_resolved w callee
resolved_alike g values s h stacks w callee st =
    slot_resolved g s (slice_get h.tasks callee) (slice_get w.tasks callee) (at_both (TaskStands g s) h.tasks w.tasks callee st.are_tasks)

-- A copy that has come to its end, and a subtask that has resolved.
no_end : (w : World) (resource rep : ℕ) (o : Ownership) → passes (λ e. is_pending (end_of w e)) (any_end_in (Some (owned_as resource rep o))) ≡ false
no_end w resource rep Own = refl
no_end w resource rep (Borrow task) = refl

pending_alike : (g : Graph) (values : List ValType) (s : Script) (h : Held) (stacks : List (List Stack)) (w : World) (at index : ℕ) (x : InstanceView) (o : Option WorldEntry) (p : Option Entry)
    → AreBeside g values s h stacks w → slice_get h.instances at ≡ Some x → entry_of x index ≡ o → SlotAlike (EntryStands values) o p
    → entry_is_pending o h ≡ passes (λ e. is_pending (end_of w e)) (any_end_in p)
pending_alike g values s h stacks w at index x None None b is there a = refl
pending_alike g values s h stacks w at index x None (Some p) b is there a = absurd a
pending_alike g values s h stacks w at index x (Some o) None b is there a = absurd a
pending_alike g values s h stacks w at index x (Some (entry.Handle y)) (Some p) b is there a =
    sym (ap (λ (e : Entry). passes (λ r. is_pending (end_of w r)) (any_end_in (Some e))) a ∙ no_end w y.resource y.rep y.ownership)
pending_alike g values s h stacks w at index x (Some (entry.Subtask callee)) (Some p) b is there a = sym (ap (λ (e : Entry). passes (λ r. is_pending (end_of w r)) (any_end_in (Some e))) a)
pending_alike g values s h stacks w at index x (Some (entry.Set set)) (Some p) b is there a = sym (ap (λ (e : Entry). passes (λ r. is_pending (end_of w r)) (any_end_in (Some e))) a)
pending_alike g values s h stacks w at index x (Some (entry.End e)) (Some p) b is there (k, of, a) =
    let f : EndFound values h w k e = end_is_found g values s h stacks w k of.0 e (b.asked.ends at index x e is there) of.1 b.stands in
    ap (λ (j : _). channel_is_pending e.side (channel_at j e.number h)) (kind_is g values s h stacks w k e f b.stands)
    ∙ ap (λ (c : Option kept_channel.Channel). channel_is_pending e.side c) f.here
    ∙ ap is_pending (sym (end_same values h w k e f))
    ∙ sym (ap (λ (y : Entry). passes (λ r. is_pending (end_of w r)) (any_end_in (Some y))) a)

no_subtask : (w : World) (resource rep : ℕ) (o : Ownership) → passes (is_task_resolved w) (accepted (subtask_in (Some (owned_as resource rep o)))) ≡ false
no_subtask w resource rep Own = refl
no_subtask w resource rep (Borrow task) = refl

over_alike : (g : Graph) (values : List ValType) (s : Script) (h : Held) (stacks : List (List Stack)) (w : World) (o : Option WorldEntry) (p : Option Entry) → Stands g values s h stacks w
    → SlotAlike (EntryStands values) o p → entry_is_resolved o h ≡ passes (is_task_resolved w) (accepted (subtask_in p))
over_alike g values s h stacks w None None st a = refl
over_alike g values s h stacks w None (Some p) st a = absurd a
over_alike g values s h stacks w (Some o) None st a = absurd a
over_alike g values s h stacks w (Some (entry.Handle y)) (Some p) st a =
    sym (ap (λ (e : Entry). passes (is_task_resolved w) (accepted (subtask_in (Some e)))) a ∙ no_subtask w y.resource y.rep y.ownership)
over_alike g values s h stacks w (Some (entry.Subtask callee)) (Some p) st a =
    resolved_alike g values s h stacks w callee st ∙ sym (ap (λ (e : Entry). passes (is_task_resolved w) (accepted (subtask_in (Some e)))) a)
over_alike g values s h stacks w (Some (entry.Set set)) (Some p) st a = sym (ap (λ (e : Entry). passes (is_task_resolved w) (accepted (subtask_in (Some e)))) a)
over_alike g values s h stacks w (Some (entry.End e)) (Some p) st (k, of, a) = sym (ap (λ (y : Entry). passes (is_task_resolved w) (accepted (subtask_in (Some y)))) a)

-- A task that runs a function of an instance that is there.
record RunsHere (g : Graph) (values : List ValType) (s : Script) (h : Held) (w : World) (slot : TaskSlot) (task : Task) (f : Lifted) : Type 0 where
  alike : TaskStands g s slot task
  at : slot.instance ≡ f.instance
  here : IsHere values h w f.instance

lets_alike : (g : Graph) (values : List ValType) (s : Script) (h : Held) (w : World) (slot : TaskSlot) (task : Task) (f : Lifted) → RunsHere g values s h w slot task f
    → gate_lets (slice_get h.instances slot.instance) slot.task.kind ≡ may_go_in w f.instance task
lets_alike g values s h w slot task f r =
    ap (λ (n : ℕ). gate_lets (slice_get h.instances n) slot.task.kind) r.at
    ∙ ap (λ (k : Kind). gate_lets (slice_get h.instances f.instance) k) r.alike.lifted
    ∙ ap (λ (o : Option InstanceView). gate_lets o (kind_of task)) r.here.is_left
    ∙ ap (λ (v : GateView). gate.may_enter (kind_of task) false v) r.here.keeps

free_alike : (g : Graph) (values : List ValType) (s : Script) (h : Held) (w : World) (slot : TaskSlot) (task : Task) (f : Lifted) → RunsHere g values s h w slot task f
    → gate_is_free (slice_get h.instances slot.instance) ≡ is_entry_free w f.instance
free_alike g values s h w slot task f r =
    ap (λ (n : ℕ). gate_is_free (slice_get h.instances n)) r.at ∙ ap gate_is_free r.here.is_left ∙ ap is_free r.here.keeps

asked_alike : (g : Graph) (s : Script) (slot : TaskSlot) (task : Task) → TaskStands g s slot task → is_asked slot.task.cancellation ≡ is_asked task.cancellation
asked_alike g s slot task st = ap is_asked st.cancelled

loop_alike : (g : Graph) (values : List ValType) (s : Script) (h : Held) (stacks : List (List Stack)) (w : World) (slot : TaskSlot) (task : Task) (f : Lifted) (r : Result Next BadCode)
    → AreBeside g values s h stacks w → RunsHere g values s h w slot task f → kept.loop_is_over (seen g) slot r h ≡ machine.loop_is_over w f.instance task r
loop_alike g values s h stacks w slot task f (Err why) b r = refl
loop_alike g values s h stacks w slot task f (Ok next.Exit) b r = refl
loop_alike g values s h stacks w slot task f (Ok next.Yield) b r = refl
loop_alike g values s h stacks w slot task f (Ok (next.Wait index)) b r =
    one_same (index_is_ready (seen g) slot.instance index h) (is_some_ready w f.instance index) (is_asked slot.task.cancellation) (is_asked task.cancellation)
    (ap (λ (n : ℕ). index_is_ready (seen g) n index h) r.at ∙ index_alike g values s h stacks w f.instance index b (ap is_some r.here.is_right)) (asked_alike g s slot task r.alike)
loop_alike g values s h stacks w slot task f (Ok (next.Poll index)) b r = refl

told_alike : (g : Graph) (values : List ValType) (s : Script) (h : Held) (w : World) (slot : TaskSlot) (task : Task) (f : Lifted) (number index : ℕ)
    → RunsHere g values s h w slot task f → slot.task.phase ≡ phase.Blocked (blocked_at.Set index) (flag_at g number)
    → is_to_be_told (gate_is_free (slice_get h.instances slot.instance)) slot.task
    ≡ (is_asked task.cancellation && is_cancellable (is_entry_free w f.instance) (kind_of task) (blocked_at.Set index) (flag_at g number))
told_alike g values s h w slot task f number index r far =
    let free : Bool = gate_is_free (slice_get h.instances slot.instance) in
    both_same (is_asked slot.task.cancellation) (is_asked task.cancellation) (ends_wait free slot.task.kind slot.task.phase)
    (is_cancellable (is_entry_free w f.instance) (kind_of task) (blocked_at.Set index) (flag_at g number)) (asked_alike g s slot task r.alike)
    (ap (λ (p : Phase). ends_wait free slot.task.kind p) far
    ∙ ap (λ (k : Kind). is_cancellable free k (blocked_at.Set index) (flag_at g number)) r.alike.lifted
    ∙ ap (λ (b : Bool). is_cancellable b (kind_of task) (blocked_at.Set index) (flag_at g number)) (free_alike g values s h w slot task f r))

-- By what it is blocked at.
wait_alike : (g : Graph) (values : List ValType) (s : Script) (h : Held) (stacks : List (List Stack)) (w : World) (slot : TaskSlot) (task : Task) (f : Lifted) (number : ℕ) (wait : Wait)
    → AreBeside g values s h stacks w → RunsHere g values s h w slot task f → slot.task.phase ≡ phase.Blocked (blocked_at_of wait) (flag_at g number)
    → kept.wait_is_over (seen g) slot (blocked_at_of wait) h ≡ machine.wait_is_over g w f.instance task number wait
wait_alike g values s h stacks w slot task f number ForYield b r far = refl
wait_alike g values s h stacks w slot task f number (ForSet index) b r far =
    one_same (index_is_ready (seen g) slot.instance index h) (is_some_ready w f.instance index) (is_to_be_told (gate_is_free (slice_get h.instances slot.instance)) slot.task)
    (is_asked task.cancellation && is_cancellable (is_entry_free w f.instance) (kind_of task) (blocked_at.Set index) (flag_at g number))
    (ap (λ (n : ℕ). index_is_ready (seen g) n index h) r.at ∙ index_alike g values s h stacks w f.instance index b (ap is_some r.here.is_right))
    (told_alike g values s h w slot task f number index r far)
wait_alike g values s h stacks w slot task f number (ForCall callee) b r far = resolved_alike g values s h stacks w callee b.stands
wait_alike g values s h stacks w slot task f number (ForCopy index) b r far =
    ap (λ (n : ℕ). entry_is_pending (entry_in (slice_get h.instances n) index) h) r.at
    ∙ ap (λ (o : Option InstanceView). entry_is_pending (entry_in o index) h) r.here.is_left
    ∙ pending_alike g values s h stacks w f.instance index r.here.left (entry_of r.here.left index) (live r.here.right.table index) b r.here.is_left refl (r.here.alike index)
    ∙ sym (ap (λ (o : Option Inst). passes (λ e. is_pending (end_of w e)) (any_end_in (live (table_in o) index))) r.here.is_right)
wait_alike g values s h stacks w slot task f number (ForCancel index) b r far =
    ap (λ (n : ℕ). entry_is_resolved (entry_in (slice_get h.instances n) index) h) r.at
    ∙ ap (λ (o : Option InstanceView). entry_is_resolved (entry_in o index) h) r.here.is_left
    ∙ over_alike g values s h stacks w (entry_of r.here.left index) (live r.here.right.table index) b.stands (r.here.alike index)
    ∙ sym (ap (λ (o : Option Inst). passes (is_task_resolved w) (accepted (subtask_in (live (table_in o) index)))) r.here.is_right)

phase_alike : (g : Graph) (values : List ValType) (s : Script) (h : Held) (stacks : List (List Stack)) (w : World) (slot : TaskSlot) (task : Task) (f : Lifted) (state : TaskState)
    → AreBeside g values s h stacks w → RunsHere g values s h w slot task f → slot.task.phase ≡ phase_of (flag_at g) state
    → phase_is_able (seen g) slot (phase_of (flag_at g) state) h ≡ is_able_in g w f.instance task state
phase_alike g values s h stacks w slot task f New b r far = refl
phase_alike g values s h stacks w slot task f Acting b r far = refl
phase_alike g values s h stacks w slot task f (AfterCall callee number words) b r far = refl
phase_alike g values s h stacks w slot task f (AfterCancel callee number words) b r far = refl
phase_alike g values s h stacks w slot task f (Begins n) b r far = refl
phase_alike g values s h stacks w slot task f WaitsToEnter b r far = lets_alike g values s h w slot task f r
phase_alike g values s h stacks w slot task f (InLoop word) b r far =
    both_same (gate_is_free (slice_get h.instances slot.instance)) (is_entry_free w f.instance) (kept.loop_is_over (seen g) slot (callback_of word) h)
    (machine.loop_is_over w f.instance task (callback_of word)) (free_alike g values s h w slot task f r) (loop_alike g values s h stacks w slot task f (callback_of word) b r)
phase_alike g values s h stacks w slot task f (InBuiltin number words wait) b r far = wait_alike g values s h stacks w slot task f number wait b r far
phase_alike g values s h stacks w slot task f Exited b r far = refl

-- One that has exited can't go on.
exited_not : (g : Graph) (slot : TaskSlot) (far : Phase) (h : Held) → slots.has_exited far ≡ true → phase_is_able (seen g) slot far h ≡ false
exited_not g slot phase.New h e = absurd (cc)
exited_not g slot phase.Acting h e = absurd (cc)
exited_not g slot (phase.Blocked why flag) h e = absurd (cc)
exited_not g slot phase.Exited h e = refl

drop_front : (b p : Bool) → (b ≡ true → p ≡ false) → (not b && p) ≡ p
drop_front true p h = sym (h refl)
drop_front false p h = refl

able_by : (g : Graph) (values : List ValType) (s : Script) (h : Held) (stacks : List (List Stack)) (w : World) (n : ℕ) (slot : TaskSlot) (task : Task) (o : Option Lifted)
    → AreBeside g values s h stacks w → slice_get w.tasks n ≡ Some task → TaskStands g s slot task → func_of task.callee ≡ o
    → phase_is_able (seen g) slot slot.task.phase h ≡ passes (λ (f : Lifted). is_able_in g w f.instance task task.state) o
able_by g values s h stacks w n slot task None b there st e =
    ap (λ (p : Phase). phase_is_able (seen g) slot p h) (st.far ∙ ap (phase_of (flag_at g)) (b.init n task there e))
able_by g values s h stacks w n slot task (Some f) b there st e =
    let runs : RunsHere g values s h w slot task f = record {
      alike = st;
      at = subst (λ (o : Option Lifted). RunsIn slot.instance o) e st.place;
      here = here_of g values s h stacks w f.instance b (b.asked.instances n task f there e);
    } in
    ap (λ (p : Phase). phase_is_able (seen g) slot p h) st.far ∙ phase_alike g values s h stacks w slot task f task.state b runs st.far

-- A task that is open can go on where the machine's can.
pub open_alike : (g : Graph) (values : List ValType) (s : Script) (h : Held) (stacks : List (List Stack)) (w : World) (n : ℕ) (slot : TaskSlot) (task : Task)
    → AreBeside g values s h stacks w → slice_get h.tasks n ≡ Some slot → slice_get w.tasks n ≡ Some task → TaskStands g s slot task
    → (is_open slot && kept.is_able (seen g) h n) ≡ machine.is_able g w task
open_alike g values s h stacks w n slot task b is there st =
    ap (λ (o : Option TaskSlot). is_open slot && slot_is_able (seen g) o h) is
    ∙ drop_front (slots.has_exited slot.task.phase) (phase_is_able (seen g) slot slot.task.phase h) (λ gone. exited_not g slot slot.task.phase h gone)
    ∙ able_by g values s h stacks w n slot task (func_of task.callee) b there st refl

-- One that waits for exclusive entry can't go on where no gate lets one in.
not_entry : (wait : Wait) → waits_to_enter (phase.Blocked (blocked_at_of wait) false) ≡ false
not_entry ForYield = refl
not_entry (ForSet index) = refl
not_entry (ForCall callee) = refl
not_entry (ForCopy index) = refl
not_entry (ForCancel index) = refl

waits_state : (flag : ℕ → Bool) (state : TaskState) → waits_to_enter (phase_of flag state) ≡ true → state ≡ WaitsToEnter
waits_state flag New e = absurd (cc)
waits_state flag Acting e = absurd (cc)
waits_state flag (AfterCall callee number words) e = absurd (cc)
waits_state flag (AfterCancel callee number words) e = absurd (cc)
waits_state flag (Begins n) e = absurd (cc)
waits_state flag WaitsToEnter e = refl
waits_state flag (InLoop word) e = absurd (cc)
waits_state flag (InBuiltin number words wait) e = absurd (let both : true ≡ false = sym e ∙ not_entry wait in let no : ⊥ = cc in no)
waits_state flag Exited e = absurd (cc)

any_not : {A : Type 0} (p : A → Bool) (xs : List A) (n : ℕ) (x : A) → list_any p xs ≡ false → slice_get xs n ≡ Some x → p x ≡ false
any_not p [] n x none e = absurd (cc)
any_not p (y ∷ xs) zero x none e = ap p (sym (some_same e)) ∙ (or_parts (p y) (list_any p xs) none).0
any_not p (y ∷ xs) (suc n) x none e = any_not p xs n x (or_parts (p y) (list_any p xs) none).1 e

second_false : (a b : Bool) → a ≡ true → (a && b) ≡ false → b ≡ false
second_false true b e h = h
second_false false b e h = absurd (cc)

-- A gate that lets no task in that needs exclusive entry.
shut : (i : InstanceView) (kind : Kind) → needs_entry kind ≡ true → nat_lt 0 i.gate.waiting ≡ true → lets_in i ≡ false → gate.may_enter kind false i.gate ≡ false
shut i kind needs waits none =
    ap (λ (b : Bool). nat_eq i.gate.pressure 0 && (not b || is_free i.gate) && (not false || nat_eq i.gate.waiting 0)) needs
    ∙ second_false (nat_lt 0 i.gate.waiting) (gate.may_enter Sync false i.gate) waits none

entry_shut : (h : Held) (slot : TaskSlot) (at : ℕ) (o : Option InstanceView) → slice_get h.instances at ≡ o → needs_entry slot.task.kind ≡ true → list_any lets_in h.instances ≡ false
    → ((i : InstanceView) → slice_get h.instances at ≡ Some i → nat_lt 0 i.gate.waiting ≡ true) → gate_lets o slot.task.kind ≡ false
entry_shut h slot at None e needs none waits = refl
entry_shut h slot at (Some i) e needs none waits = shut i slot.task.kind needs (waits i e) (any_not lets_in h.instances at i none e)

apart_by : (g : Graph) (values : List ValType) (s : Script) (h : Held) (stacks : List (List Stack)) (w : World) (n : ℕ) (slot : TaskSlot) (task : Task) (o : Option Lifted)
    → AreBeside g values s h stacks w → list_any lets_in h.instances ≡ false → slice_get w.tasks n ≡ Some task → TaskStands g s slot task → func_of task.callee ≡ o
    → waits_apart slot ≡ true → phase_is_able (seen g) slot slot.task.phase h ≡ false
apart_by g values s h stacks w n slot task None b none there st e apart =
    ap (λ (p : Phase). phase_is_able (seen g) slot p h) (st.far ∙ ap (phase_of (flag_at g)) (b.init n task there e))
apart_by g values s h stacks w n slot task (Some f) b none there st e apart =
    let parts : (waits_to_enter slot.task.phase ≡ true) × (needs_entry slot.task.kind ≡ true) = and_parts (waits_to_enter slot.task.phase) (needs_entry slot.task.kind) apart in
    let state_is : task.state ≡ WaitsToEnter = waits_state (flag_at g) task.state (ap waits_to_enter (sym st.far) ∙ parts.0) in
    let at : slot.instance ≡ f.instance = subst (λ (o : Option Lifted). RunsIn slot.instance o) e st.place in
    let waits : (i : InstanceView) → slice_get h.instances f.instance ≡ Some i → nat_lt 0 i.gate.waiting ≡ true =
    wait_is_counted h w n task f there e (gates_are_kept g values s h stacks w f.instance b.stands b.marks) state_is in
    ap (λ (p : Phase). phase_is_able (seen g) slot p h) (st.far ∙ ap (phase_of (flag_at g)) state_is)
    ∙ ap (λ (m : ℕ). gate_lets (slice_get h.instances m) slot.task.kind) at
    ∙ entry_shut h slot f.instance (slice_get h.instances f.instance) refl parts.1 none waits

-- A gate that lets none in that does not need exclusive entry has backpressure, and lets none in.
pressed : (b c d : Bool) → (b && true && true) ≡ false → (b && c && d) ≡ false
pressed true c d e = absurd (cc)
pressed false c d e = refl

shut_for_all : (i : InstanceView) (kind : Kind) → nat_lt 0 i.gate.waiting ≡ true → lets_others_in i ≡ false → gate.may_enter kind false i.gate ≡ false
shut_for_all i kind waits none =
    pressed (nat_eq i.gate.pressure 0) (gate.is_open kind i.gate) true (second_false (nat_lt 0 i.gate.waiting) (gate.may_enter Stackful false i.gate) waits none)

all_shut : (h : Held) (kind : Kind) (at : ℕ) (o : Option InstanceView) → slice_get h.instances at ≡ o → list_any lets_others_in h.instances ≡ false
    → ((i : InstanceView) → slice_get h.instances at ≡ Some i → nat_lt 0 i.gate.waiting ≡ true) → gate_lets o kind ≡ false
all_shut h kind at None e none waits = refl
all_shut h kind at (Some i) e none waits = shut_for_all i kind (waits i e) (any_not lets_others_in h.instances at i none e)

asleep_by : (g : Graph) (values : List ValType) (s : Script) (h : Held) (stacks : List (List Stack)) (w : World) (n : ℕ) (slot : TaskSlot) (task : Task) (o : Option Lifted)
    → AreBeside g values s h stacks w → list_any lets_others_in h.instances ≡ false → slice_get w.tasks n ≡ Some task → TaskStands g s slot task → func_of task.callee ≡ o
    → waits_to_enter slot.task.phase ≡ true → phase_is_able (seen g) slot slot.task.phase h ≡ false
asleep_by g values s h stacks w n slot task None b none there st e sleeps =
    ap (λ (p : Phase). phase_is_able (seen g) slot p h) (st.far ∙ ap (phase_of (flag_at g)) (b.init n task there e))
asleep_by g values s h stacks w n slot task (Some f) b none there st e sleeps =
    let state_is : task.state ≡ WaitsToEnter = waits_state (flag_at g) task.state (ap waits_to_enter (sym st.far) ∙ sleeps) in
    let at : slot.instance ≡ f.instance = subst (λ (o : Option Lifted). RunsIn slot.instance o) e st.place in
    let waits : (i : InstanceView) → slice_get h.instances f.instance ≡ Some i → nat_lt 0 i.gate.waiting ≡ true =
    wait_is_counted h w n task f there e (gates_are_kept g values s h stacks w f.instance b.stands b.marks) state_is in
    ap (λ (p : Phase). phase_is_able (seen g) slot p h) (st.far ∙ ap (phase_of (flag_at g)) state_is)
    ∙ ap (λ (m : ℕ). gate_lets (slice_get h.instances m) slot.task.kind) at
    ∙ all_shut h slot.task.kind f.instance (slice_get h.instances f.instance) refl none waits

kept_front : (a b p : Bool) → (b ≡ true → p ≡ false) → ((a && not b) && p) ≡ (a && p)
kept_front true true p h = sym (h refl)
kept_front true false p h = refl
kept_front false b p h = refl

pub watched_alike : (g : Graph) (values : List ValType) (s : Script) (h : Held) (stacks : List (List Stack)) (w : World) (n : ℕ) (slot : TaskSlot) (task : Task)
    → AreBeside g values s h stacks w → list_any lets_in h.instances ≡ false → slice_get h.tasks n ≡ Some slot → slice_get w.tasks n ≡ Some task → TaskStands g s slot task
    → (is_watched slot && kept.is_able (seen g) h n) ≡ machine.is_able g w task
watched_alike g values s h stacks w n slot task b none is there st =
    kept_front (is_open slot) (waits_apart slot) (kept.is_able (seen g) h n)
    (λ apart. ap (λ (o : Option TaskSlot). slot_is_able (seen g) o h) is ∙ apart_by g values s h stacks w n slot task (func_of task.callee) b none there st refl apart)
    ∙ open_alike g values s h stacks w n slot task b is there st

pub awake_alike : (g : Graph) (values : List ValType) (s : Script) (h : Held) (stacks : List (List Stack)) (w : World) (n : ℕ) (slot : TaskSlot) (task : Task)
    → AreBeside g values s h stacks w → list_any lets_others_in h.instances ≡ false → slice_get h.tasks n ≡ Some slot → slice_get w.tasks n ≡ Some task → TaskStands g s slot task
    → (is_awake slot && kept.is_able (seen g) h n) ≡ machine.is_able g w task
awake_alike g values s h stacks w n slot task b none is there st =
    kept_front (is_open slot) (waits_to_enter slot.task.phase) (kept.is_able (seen g) h n)
    (λ sleeps. ap (λ (o : Option TaskSlot). slot_is_able (seen g) o h) is ∙ asleep_by g values s h stacks w n slot task (func_of task.callee) b none there st refl sleeps)
    ∙ open_alike g values s h stacks w n slot task b is there st
