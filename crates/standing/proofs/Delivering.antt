-- The event of a member of a set comes to a task: of an end, or of a subtask.
use Rattle.std.proofs.Common.{◌≡◌, ◌⊎◌, inl, inr, ℕ, Bool, true, false, nat_eq, is_some, if◌then◌else◌, List, [], ◌∷◌, ◌++◌, refl, sym, ap, ◌∙◌, subst, append_assoc, Option, Some, None}
use Rattle.std.specs.List.{slice_get}
use Rattle.std.proofs.lemmas.Bool.{and_parts, eq-eqb, eqb-true}
use Rattle.syntax_trees.specs.declared.types.ValType.{ValType}
use Rattle.wasm_store.specs.Stack.{Stack}
use Rattle.handle_table.specs.History.{live}
use Rattle.handle_table.specs.Alike.{SlotAlike}
use Rattle.builtin_kinds.specs.declared.EndKind.{EndKind}
use Rattle.builtin_kinds.specs.declared.EndKind.TheVariants as kind
use Rattle.stream_ends.specs.declared.side.Side.{Side}
use Rattle.stream_ends.specs.declared.side.Side.TheVariants.{Reader, Writer}
use Rattle.stream_ends.specs.declared.open_copy.OpenCopy.{OpenCopy}
use Rattle.stream_ends.specs.Ends.{has_event, is_pending, is_copying}
use Rattle.tasks.specs.declared.subtask_state.SubtaskState.{SubtaskState}
use Rattle.tasks.specs.Subtasks.{code_of, delivered}
use Rattle.res_handles.specs.declared.handle.Ownership.{Ownership}
use Rattle.res_handles.specs.declared.handle.Ownership.TheVariants.{Own, Borrow}
use Rattle.comp_graph.specs.Graph.{Graph, Lifted}
use Rattle.script_reader.specs.Script.{Script}
use Rattle.trace_labels.specs.declared.label.Label.{Label}
use Rattle.trace_labels.specs.declared.label.Label.TheVariants as line
use Rattle.channels.specs.declared.channel.Channel as kept_channel
use Rattle.channels.specs.Channels.{end_in}
use Rattle.instances.specs.declared.entry.EndEntry.{EndEntry}
use Rattle.instances.specs.declared.entry.WorldEntry.{WorldEntry}
use Rattle.instances.specs.declared.entry.WorldEntry.TheVariants as entry
use Rattle.instances.specs.Instances.{InstanceView, entry_of}
use Rattle.task_table.specs.declared.caller.Called.{Called}
use Rattle.task_table.specs.declared.caller.Caller as kept_caller
use Rattle.task_table.specs.declared.caller.Caller.TheVariants as by
use Rattle.task_table.specs.declared.slot.TaskSlot.{TaskSlot}
use Rattle.task_table.specs.Callers.{called_of}
use Rattle.world_parts.specs.declared.parts.Receiver as kept
use Rattle.world_parts.specs.Views.{Views}
use Rattle.world_parts.specs.Held.{Held, Gives, after, given}
use Rattle.world_parts.specs.Entries.{entry_found, end_idled}
use Rattle.world_parts.specs.Channels.{is_of_type, channel_at, kind_of_end, channel_of, concluded, idle_seen}
use Rattle.world_parts.specs.News.{copy_is_async, channel_news, entry_news}
use Rattle.world_parts.specs.Calls as calls_of
use Rattle.world_parts.specs.Events.{event_code, end_told, received, subtask_delivered, end_delivered, member_delivered}
use Rattle.abi_machine.specs.Control.{EventCode, SubtaskEvent, Receiver}
use Rattle.abi_machine.specs.World.{Entry, Inst, Subtask, Caller, Nobody, Host, Guest, Task, Channel, World}
use Rattle.abi_machine.specs.Edits as world
use Rattle.abi_machine.specs.Edits.{changed_at, by_view, caller_changed}
use Rattle.abi_machine.specs.Reading as machine
use Rattle.abi_machine.specs.Reading.{task_at, func_of, subtask_of, table_in, entry_at}
use Rattle.abi_machine.specs.Counting as counting
use Rattle.abi_machine.specs.Counting.{payload_of, subtask_state}
use Rattle.abi_machine.specs.Calling.{Told, subtask_told}
use Rattle.abi_machine.specs.Turn as turns
use Rattle.abi_machine.specs.Turn.{Turn}
use Rattle.abi_machine.specs.Delivering as delivering
use Rattle.abi_machine.specs.Delivering.{number_of, event_by, event_of_end, event_line, entry_delivered}
use Rattle.abi_machine.proofs.sound.Found.{some_same, changed_kept}
use Rattle.standing.specs.Instances.{owned_as, EntryStands, InstStands}
use Rattle.standing.specs.Tasks.{SubtaskStands, CallerStands, TaskStands}
use Rattle.standing.specs.Stands.{ChannelStands, Stands}
use Rattle.standing.specs.Agreeing.{Agrees}
use Rattle.standing.specs.Channels.{IsEndsType, HasMarkedEnds}
use Rattle.standing.specs.Moves.{CallKept}
use Rattle.standing.specs.Events.{Hears}
use Rattle.standing.specs.Waits.{KeepsCalls}
use Rattle.standing.proofs.Lists.{IsFound, found_left}
use Rattle.standing.proofs.Tables.{entries_are_alike}
use Rattle.standing.proofs.Agreeing.{turn_as}
use Rattle.standing.proofs.Steps.{via}
use Rattle.standing.proofs.Going.{done_as}
use Rattle.standing.proofs.Telling.{ToldSo, told_so, state_alike}
use Rattle.standing.proofs.EndTypes.{one_kind}
use Rattle.standing.proofs.Channels.{channels_are_alike}
use Rattle.standing.proofs.EndsFound.{EndFound, end_is_found, ref_of}
use Rattle.standing.proofs.EndEdits.{store_kept, tasks_kept}
use Rattle.standing.proofs.EndsTold.{told_is, once_told, once_told_stands, payload_is}
use Rattle.standing.proofs.Heard.{on_received, hears_then}

-- Whose end it is: the type of an end tells.
not_of_type : (values : List ValType) (e : EndEntry) (element : Option ValType) (o : Option kept_channel.Channel) (p : Option Channel) → IsEndsType values kind.Future element e.end_type
    → SlotAlike (ChannelStands values kind.Stream) o p → is_of_type e.end_type o ≡ false
not_of_type values e element None p is alike = refl
not_of_type values e element (Some c) None is alike = absurd alike
not_of_type values e element (Some c) (Some a) is alike = by (nat_eq c.end_type e.end_type) refl
  where
    apart : kind.Stream ≡ kind.Future → nat_eq c.end_type e.end_type ≡ false
    apart same = absurd (let w : ⊥ = cc in w)

    by : (b : Bool) → nat_eq c.end_type e.end_type ≡ b → nat_eq c.end_type e.end_type ≡ false
    by false h = h
    by true h =
        apart (one_kind values e.end_type kind.Stream kind.Future a.element element
        (subst (λ (n : ℕ). IsEndsType values kind.Stream a.element n) (eqb-true c.end_type e.end_type h) alike.typed) is)

pub kind_is : (g : Graph) (values : List ValType) (s : Script) (h : Held) (stacks : List (List Stack)) (w : World) (k : EndKind) (e : EndEntry) (f : EndFound values h w k e)
    → Stands g values s h stacks w → kind_of_end e h ≡ k
kind_is g values s h stacks w kind.Stream e f st =
    ap (λ (o : Option kept_channel.Channel). if is_of_type e.end_type o then kind.Stream else kind.Future) f.here
    ∙ ap (λ (b : Bool). if b then kind.Stream else kind.Future) (eq-eqb f.channel.end_type e.end_type (sym f.number))
kind_is g values s h stacks w kind.Future e f st =
    ap (λ (b : Bool). if b then kind.Stream else kind.Future) (not_of_type values e f.other.element (channel_at kind.Stream e.number h) (machine.channel_at w kind.Stream e.number) f.typed
    (channels_are_alike g values s h stacks w kind.Stream e.number st))

-- What an end is told.
pub end_told_is : (g : Graph) (values : List ValType) (s : Script) (h : Held) (stacks : List (List Stack)) (w : World) (at index : ℕ) (x : InstanceView) (k : EndKind) (e : EndEntry)
    (f : EndFound values h w k e)
    → slice_get h.instances at ≡ Some x → entry_of x index ≡ Some (entry.End e) → is_copying (end_in e.side f.channel.ends) ≡ true → Stands g values s h stacks w
    → end_told at index e h ≡ Gives (payload_of w (ref_of k e)) (once_told at index x k e f.channel h)
unfolding end_told
end_told_is g values s h stacks w at index x k e f is there busy st =
    ap (λ (j : EndKind). after (concluded j e.side e.number h) (λ payload m.
    after (idle_seen j e.side e.number m) (λ is_idle n. after (end_idled at index is_idle n) (λ (done : Unit {0}) o. Gives payload o)))) (kind_is g values s h stacks w k e f st)
    ∙ told_is h at index x k e f.channel (λ payload m. Gives payload m) is there f.here busy
    ∙ ap (λ (n : ℕ). Gives n (once_told at index x k e f.channel h)) (payload_is values h w k e f)

-- What is pending is a copy.
pending_copies : (o : Option OpenCopy) → has_event o ≡ true → is_some o ≡ true
pending_copies None h = absurd (cc)
pending_copies (Some copy) h = refl

code_same : (k : EndKind) (side : Side) → event_code k side ≡ number_of (event_by k side)
code_same kind.Stream Reader = refl
code_same kind.Stream Writer = refl
code_same kind.Future Reader = refl
code_same kind.Future Writer = refl

-- The event of an end.
on_end_event : (g : Graph) (values : List ValType) (s : Script) (v : Views) (h : Held) (stacks : List (List Stack)) (w : World) (t at index : ℕ) (x : InstanceView) (k : EndKind) (e : EndEntry)
    (ef : EndFound values h w k e) (f : Lifted) (r : kept.Receiver) (to : Receiver)
    → Hears g v h w t f r to → slice_get h.instances at ≡ Some x → entry_of x index ≡ Some (entry.End e) → is_pending (end_in e.side ef.channel.ends) ≡ true → Stands g values s h stacks w
    → Agrees g values s t h.labels stacks (end_delivered v t at r index e h)
    (delivering.received g t f to (event_of_end (ref_of k e)) index (delivering.end_told (ref_of k e) w))
unfolding end_delivered
on_end_event g values s v h stacks w t at index x k e ef f r to a is there pending st =
    let payload : ℕ = payload_of w (ref_of k e) in
    let code : EventCode = event_by k e.side in
    let told_one : Held = once_told at index x k e ef.channel h in
    let last : Held = record told_one { labels = h.labels ++ event_line t code index payload ∷ [] } in
    let told_side : Channel → Channel = λ c. record c { ends = world.concluded_by k e.side c.ends } in
    let u : World = world.concluded (ref_of k e) w in
    let same : event_code (kind_of_end e h) e.side ≡ number_of code = ap (λ (j : EndKind). event_code j e.side) (kind_is g values s h stacks w k e ef st) ∙ code_same k e.side in
    done_as g values s t h.labels stacks _ (received v t r (number_of code) index payload last) _
    (via _ _ _ _ (end_told_is g values s h stacks w at index x k e ef is there (pending_copies (end_in e.side ef.channel.ends).copy pending) st)
    ∙ ap (λ (n : ℕ). received v t r n index payload (record told_one { labels = h.labels ++ line.Event t n index payload ∷ [] })) same)
    (on_received g values s v last stacks u t f r to code index payload h.labels []
    (hears_then g v h last w u t f r to a.task a refl (store_kept k e.number told_side w) (ap (λ (ts : List Task). slice_get ts t) (tasks_kept k e.number told_side w) ∙ a.there) a.runs) refl
    (once_told_stands g values s h stacks w at index x k e ef is there st))

-- The event of a subtask.
told_task : (callee t : ℕ) (change : Task → Task) (tasks : List Task) (task : Task) (f : Lifted) → ((y : Task) → (change y).callee ≡ y.callee) → slice_get tasks t ≡ Some task
    → func_of task.callee ≡ Some f → (y : Task) × (slice_get (changed_at callee change tasks) t ≡ Some y) × (func_of y.callee ≡ Some f)
told_task callee t change tasks task f same there runs = by (changed_kept callee change tasks t task there)
  where
    by : (slice_get (changed_at callee change tasks) t ≡ Some task) ⊎ (slice_get (changed_at callee change tasks) t ≡ Some (change task))
        → (y : Task) × (slice_get (changed_at callee change tasks) t ≡ Some y) × (func_of y.callee ≡ Some f)
    by (inl e) = (task, e, runs)
    by (inr e) = (change task, e, ap func_of (same task) ∙ runs)

guest_of : (s : Script) (c : kept_caller.Caller) (d : Caller) (called : Called) → c ≡ by.Guest called → CallerStands s c d → (subtask : Subtask) × (d ≡ Guest subtask) × SubtaskStands called subtask
guest_of s c Nobody called is st = absurd (let w : ⊥ = subst (λ (x : kept_caller.Caller). CallerStands s x Nobody) is st in w)
guest_of s c (Host call values) called is st = absurd (let w : ⊥ = subst (λ (x : kept_caller.Caller). CallerStands s x (Host call values)) is st in w)
guest_of s c (Guest subtask) called is st = (subtask, refl, subst (λ (x : kept_caller.Caller). CallerStands s x (Guest subtask)) is st)

pub call_kept : (h k : Held) (at callee : ℕ) (slot : TaskSlot) (called : Called) → k.tasks ≡ h.tasks → k.instances ≡ h.instances → CallKept h at callee slot called → CallKept k at callee slot called
call_kept h k at callee slot called tasks instances call = record {
  there = ap (λ (ts : List TaskSlot). slice_get ts callee) tasks ∙ call.there;
  guest = call.guest;
  marked = call.marked;
  lent = λ i is. call.lent i (ap (λ (xs : List InstanceView). slice_get xs at) (sym instances) ∙ is);
  over = call.over;
}

on_subtask_event : (g : Graph) (values : List ValType) (s : Script) (v : Views) (h : Held) (stacks : List (List Stack)) (w : World) (t at index callee : ℕ) (x : InstanceView) (slot : TaskSlot)
    (called : Called) (task : Task) (subtask : Subtask) (f : Lifted) (r : kept.Receiver) (to : Receiver)
    → Hears g v h w t f r to → slice_get h.instances at ≡ Some x → CallKept h at callee slot called → slice_get w.tasks callee ≡ Some task → task.caller ≡ Guest subtask
    → TaskStands g s slot task → SubtaskStands called subtask → Stands g values s h stacks w
    → Agrees g values s t h.labels stacks (subtask_delivered v t at r index callee h)
    (delivering.received g t f to SubtaskEvent index (subtask_told at callee task subtask w))
unfolding subtask_delivered
on_subtask_event g values s v h stacks w t at index callee x slot called task subtask f r to a is call there guest alike sub st =
    let payload : ℕ = counting.state_of task in
    let event : Label = event_line t SubtaskEvent index payload in
    let k : Held = record h { labels = h.labels ++ event ∷ [] } in
    let told_one : Told = subtask_told at callee task subtask w in
    let so : ToldSo g values s stacks k (calls_of.subtask_told at callee k) told_one =
    told_so g values s stacks k w at callee slot called task subtask x (call_kept h k at callee slot called refl refl call) there guest alike sub is st in
    let who : (y : Task) × (slice_get told_one.world.tasks t ≡ Some y) × (func_of y.callee ≡ Some f) =
    told_task callee t (λ y. record y { caller = caller_changed (by_view delivered callee (subtask_state task)) y.caller }) w.tasks a.task f (λ y. refl) a.there a.runs in
    done_as g values s t h.labels stacks _ (received v t r 1 index payload so.held) _
    (via _ _ _ _
    (ap (λ (o : Option TaskSlot). given o (λ one. given (called_of one.caller) (λ c. Gives (code_of c.subtask.state) h))) call.there
    ∙ ap (λ (c : kept_caller.Caller). given (called_of c) (λ c. Gives (code_of c.subtask.state) h)) call.guest
    ∙ ap (λ (n : SubtaskState). Gives (code_of n) h) (call.marked ∙ state_alike g s slot task alike))
    ∙ via _ _ _ (λ (state : ℕ) m. received v t r 1 index payload m) so.is)
    (on_received g values s v so.held stacks told_one.world t f r to SubtaskEvent index payload h.labels told_one.lines
    (hears_then g v h so.held w told_one.world t f r to who.0 a so.memories refl who.1 who.2)
    (so.labels ∙ append_assoc h.labels (event ∷ []) told_one.lines) so.stands)

-- The event of what stands at an index.
no_event : (g : Graph) (t : ℕ) (f : Lifted) (to : Receiver) (index : ℕ) (w : World) (resource rep : ℕ) (o : Ownership)
    → entry_delivered g t f to index (Some (owned_as resource rep o)) w ≡ turns.Stuck
unfolding entry_delivered
no_event g t f to index w resource rep Own = refl
no_event g t f to index w resource rep (Borrow task) = refl

end_pending : (v : Views) (side : Side) (k : EndKind) (e : EndEntry) (h : Held) (c : kept_channel.Channel) → kind_of_end e h ≡ k → channel_at k e.number h ≡ Some c
    → channel_news v side (channel_of e h) ≡ true → is_pending (end_in side c.ends) ≡ true
end_pending v side k e h c same here news =
    (and_parts (is_pending (end_in side c.ends)) (copy_is_async v (end_in side c.ends).copy)
    (ap (λ (o : Option kept_channel.Channel). channel_news v side o) (sym (ap (λ (j : EndKind). channel_at j e.number h) same ∙ here)) ∙ news)).0

on_entry : (g : Graph) (values : List ValType) (s : Script) (v : Views) (h : Held) (stacks : List (List Stack)) (w : World) (t index : ℕ) (x : InstanceView) (f : Lifted) (r : kept.Receiver)
    (to : Receiver) (o : Option WorldEntry) (p : Option Entry)
    → Hears g v h w t f r to → slice_get h.instances f.instance ≡ Some x → entry_of x index ≡ o → HasMarkedEnds h → KeepsCalls h f.instance → entry_news v o h ≡ true
    → SlotAlike (EntryStands values) o p → Stands g values s h stacks w
    → Agrees g values s t h.labels stacks (member_delivered v t f.instance r index o h) (entry_delivered g t f to index p w)
unfolding entry_delivered
on_entry g values s v h stacks w t index x f r to None None a is there marks calls news alike st = refl
on_entry g values s v h stacks w t index x f r to None (Some p) a is there marks calls news alike st = absurd alike
on_entry g values s v h stacks w t index x f r to (Some o) None a is there marks calls news alike st = absurd alike
on_entry g values s v h stacks w t index x f r to (Some (entry.Handle y)) (Some p) a is there marks calls news alike st =
    ap (λ (b : Entry). entry_delivered g t f to index (Some b) w) alike ∙ no_event g t f to index w y.resource y.rep y.ownership
on_entry g values s v h stacks w t index x f r to (Some (entry.Set set)) (Some p) a is there marks calls news alike st =
    ap (λ (b : Entry). entry_delivered g t f to index (Some b) w) alike
on_entry g values s v h stacks w t index x f r to (Some (entry.Subtask callee)) (Some p) a is there marks calls news alike st =
    let kept_call = calls index callee x is there in
    let slot : TaskSlot = kept_call.0 in
    let called : Called = kept_call.1 in
    let call : CallKept h f.instance callee slot called = kept_call.2 in
    let one : IsFound (TaskStands g s) (slice_get h.tasks callee) (slice_get w.tasks callee) = found_left (TaskStands g s) h.tasks w.tasks callee slot st.are_tasks call.there in
    let same : one.left ≡ slot = some_same (sym one.is_left ∙ call.there) in
    let task : Task = one.right in
    let stands : TaskStands g s slot task = subst (λ (y : TaskSlot). TaskStands g s y task) same one.alike in
    let sub = guest_of s slot.caller task.caller called call.guest stands.called in
    turn_as g values s t h.labels stacks _ (entry_delivered g t f to index (Some p) w) (delivering.received g t f to SubtaskEvent index (subtask_told f.instance callee task sub.0 w))
    (ap (λ (b : Entry). entry_delivered g t f to index (Some b) w) alike
    ∙ ap (λ (q : Option Task). turns.given q (λ y. turns.given (subtask_of y.caller) (λ z. delivering.received g t f to SubtaskEvent index (subtask_told f.instance callee y z w)))) one.is_right
    ∙ ap (λ (c : Caller). turns.given (subtask_of c) (λ z. delivering.received g t f to SubtaskEvent index (subtask_told f.instance callee task z w))) sub.1)
    (on_subtask_event g values s v h stacks w t f.instance index callee x slot called task sub.0 f r to a is call one.is_right sub.1 stands sub.2 st)
on_entry g values s v h stacks w t index x f r to (Some (entry.End e)) (Some p) a is there marks calls news (k, of, alike) st =
    let ef : EndFound values h w k e = end_is_found g values s h stacks w k of.0 e (marks f.instance index x e is there) of.1 st in
    let pending : is_pending (end_in e.side ef.channel.ends) ≡ true = end_pending v e.side k e h ef.channel (kind_is g values s h stacks w k e ef st) ef.here news in
    turn_as g values s t h.labels stacks _ (entry_delivered g t f to index (Some p) w)
    (delivering.received g t f to (event_of_end (ref_of k e)) index (delivering.end_told (ref_of k e) w))
    (ap (λ (b : Entry). entry_delivered g t f to index (Some b) w) alike)
    (on_end_event g values s v h stacks w t f.instance index x k e ef f r to a is there pending st)

pub on_member : (g : Graph) (values : List ValType) (s : Script) (v : Views) (h : Held) (stacks : List (List Stack)) (w : World) (t index : ℕ) (x : InstanceView) (y : Inst) (f : Lifted)
    (r : kept.Receiver) (to : Receiver)
    → Hears g v h w t f r to → slice_get h.instances f.instance ≡ Some x → slice_get w.insts f.instance ≡ Some y → InstStands values x y → HasMarkedEnds h → KeepsCalls h f.instance
    → entry_news v (entry_of x index) h ≡ true → Stands g values s h stacks w
    → Agrees g values s t h.labels stacks (after (entry_found f.instance index h) (λ found k. member_delivered v t f.instance r index found k))
    (entry_delivered g t f to index (entry_at w f.instance index) w)
on_member g values s v h stacks w t index x y f r to a is_left is_right alike marks calls news st =
    done_as g values s t h.labels stacks _ (member_delivered v t f.instance r index (entry_of x index) h) _
    (ap (λ (o : Option InstanceView). after (given o (λ i. Gives (entry_of i index) h)) (λ found k. member_delivered v t f.instance r index found k)) is_left)
    (turn_as g values s t h.labels stacks _ (entry_delivered g t f to index (entry_at w f.instance index) w) (entry_delivered g t f to index (live y.table index) w)
    (ap (λ (o : Option Inst). entry_delivered g t f to index (live (table_in o) index) w) is_right)
    (on_entry g values s v h stacks w t index x f r to (entry_of x index) (live y.table index) a is_left refl marks calls news (entries_are_alike values x y index alike) st))
