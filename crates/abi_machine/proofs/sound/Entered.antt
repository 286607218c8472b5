-- Tasks that live borrow handles name, that called others, or that read or write have entered; and so it stays.
use Rattle.std.proofs.Common.{◌≡◌, ◌⊎◌, inl, inr, ℕ, zero, suc, ◌+◌, Bool, true, false, nat_eq, List, [], ◌∷◌, ◌++◌, length, refl, sym, ap, ◌∙◌, subst, arith, Option, Some, None, if◌then◌else◌}
use Rattle.std.specs.List.{slice_get, AllByRecursion, count_by, sum_by}
use Rattle.std.proofs.lemmas.Bool.Decides.{nat_tests}
use Rattle.std.proofs.lemmas.List.Sums.{sum_by-cons}
use Rattle.wasm_store.proofs.Lists.{all_at}
use Rattle.syntax_trees.specs.declared.types.ValType.{ValType}
use Rattle.syntax_trees.specs.declared.value.Value.{Value}
use Rattle.handle_table.specs.History.{Event, live, next_index, slots_up_to, slots_of, greatest}
use Rattle.builtin_kinds.specs.declared.EndKind.{EndKind}
use Rattle.builtin_kinds.specs.declared.EndKind.TheVariants.{Stream, Future}
use Rattle.stream_ends.specs.declared.open_copy.By.{By}
use Rattle.stream_ends.specs.declared.open_copy.OpenCopy.{OpenCopy}
use Rattle.stream_ends.specs.Ends.{end_at}
use Rattle.tasks.specs.declared.phase.Resolution.TheVariants.{Cancelled}
use Rattle.tasks.specs.Subtasks.{delivered, with_lend}
use Rattle.comp_graph.specs.Graph.{Graph}
use Rattle.script_reader.specs.Script.{Script}
use Rattle.abi_machine.specs.LoweringOver.{NewOwn, NewBorrow, NewEnd}
use Rattle.abi_machine.specs.LoweringOver as lowering
use Rattle.abi_machine.specs.Control.{EndRef, Behind, InLowering, BeforeLeaving}
use Rattle.abi_machine.specs.World.{Entry, OwnHandle, BorrowHandle, OfSubtask, OfSet, OfEnd, Inst, Init, Subtask, Caller, Nobody, Host, Guest, TaskState, New, Acting, AfterCall, AfterCancel, WaitsToEnter, InLoop, InBuiltin, Exited, Task, Channel, World, first_world, new_inst, new_task}
use Rattle.abi_machine.specs.World as world
use Rattle.abi_machine.specs.Edits.{changed_at, added, with_channel, channel_made, carried, offered_by, caller_changed, by_view}
use Rattle.abi_machine.specs.Reading.{table_in}
use Rattle.abi_machine.specs.Counting.{borrows_for, borrows_of}
use Rattle.abi_machine.specs.Pausing.{entry_of}
use Rattle.abi_machine.specs.Copying.{task_by}
use Rattle.abi_machine.specs.sound.Changes.{Change, GoesTo, HasStore, SpendsUnit, UsesPicks, TakesItem, BeginsInstance, AddsEntry, MakesSet, RemovesEntry, RemovesWaitable, LeavesSet, JoinsSet, HasBackpressure, IsCalled, Calls, ComesBack, Acts, Begins, Cancels, Blocks, Exits, IsRemoved, Resolves, IsCancelled, HasWord, HasNewStack, HasStack, LosesStack, IsAnswered, IsTold, IsLent, HasResult, MakesChannel, Offers, Transfers, Concludes, DropsEnd, after, IsBlocked}
use Rattle.abi_machine.specs.sound.Firsts.{TaskIs, IsActing}
use Rattle.abi_machine.specs.sound.Premises.{BlocksFrom, IsCall, Comes}
use Rattle.abi_machine.specs.sound.Agreeing.{channel_in, LowersForEntered}
use Rattle.abi_machine.specs.sound.Entering.{HasNotEntered, IsBehindEntry, HasEntered}
use Rattle.abi_machine.specs.sound.Entered.{NamesEntered, IsByEntered, AreEntered, HaveEntered}
use Rattle.abi_machine.proofs.sound.Lists.{all_changed, all_more, all_as, more_either, get_front}
use Rattle.abi_machine.proofs.sound.Acted.{still_is, is_as, one_task, changed_where}
use Rattle.abi_machine.proofs.sound.Unresolved.{acting_entered}
use Rattle.abi_machine.proofs.sound.OnePlace.{table_back, AddsNone, remove_none, none_same, added_so}
use Rattle.abi_machine.proofs.sound.CopyEdits.{Before, same_comes, AllCome, conclude_come, drop_come, transfer_come, OfCall, offered_copies, channel_either, made_copies}

-- What is known of tasks.

pub acts_entered : (tasks : List Task) (t : ℕ) → TaskIs tasks t IsActing → HasEntered tasks t
acts_entered tasks t h = is_as tasks t IsActing IsBehindEntry (λ x k. acting_entered x.state k) h

pub caller_entered : (w : World) (t : ℕ) (task : Task) → HaveEntered w → slice_get w.tasks t ≡ Some task → IsByEntered w.tasks task.caller
caller_entered w t task h there = all_at (λ (x : Task). IsByEntered w.tasks x.caller) w.tasks t task h.callers there

pub entry_names : (tasks : List Task) (t : ℕ) (entry : lowering.New) → HasEntered tasks t → NamesEntered tasks (entry_of t entry)
entry_names tasks t (NewOwn resource rep) h = tt
entry_names tasks t (NewBorrow resource rep) h = h
entry_names tasks t (NewEnd kind number) h = tt

-- Those that have entered in the one list have in the other.
abbrev KeepEntered : List Task → List Task → Type 0
KeepEntered tasks others = (n : ℕ) → HasEntered tasks n → HasEntered others n

by_as : (tasks others : List Task) → KeepEntered tasks others → (c : Caller) → IsByEntered tasks c → IsByEntered others c
by_as tasks others keeps Nobody h = tt
by_as tasks others keeps (Host call values) h = tt
by_as tasks others keeps (Guest subtask) h = keeps subtask.by h

names_as : (tasks others : List Task) → KeepEntered tasks others → (x : Entry) → NamesEntered tasks x → NamesEntered others x
names_as tasks others keeps (OwnHandle resource rep) h = tt
names_as tasks others keeps (BorrowHandle resource rep task) h = keeps task h
names_as tasks others keeps (OfSubtask callee) h = tt
names_as tasks others keeps (OfSet set) h = tt
names_as tasks others keeps (OfEnd e) h = tt

-- A task is changed but for its state.
abbrev SameState : (Task → Task) → Type 0
SameState f = (x : Task) → (f x).state ≡ x.state

still_behind : (f : Task → Task) → SameState f → (x : Task) → IsBehindEntry x → IsBehindEntry (f x)
still_behind f same x h = subst (λ (s : TaskState). HasNotEntered s → ⊥) (sym (same x)) h

pub entered_still : (tasks : List Task) (t n : ℕ) (f : Task → Task) → SameState f → HasEntered tasks n → HasEntered (changed_at t f tasks) n
entered_still tasks t n f same h = still_is tasks t n f IsBehindEntry (still_behind f same) h

pub by_still : (tasks : List Task) (t : ℕ) (f : Task → Task) → SameState f → (c : Caller) → IsByEntered tasks c → IsByEntered (changed_at t f tasks) c
by_still tasks t f same c h = by_as tasks (changed_at t f tasks) (λ n k. entered_still tasks t n f same k) c h

pub lowers_still : (b : Behind) (tasks : List Task) (t : ℕ) (f : Task → Task) → SameState f → LowersForEntered b tasks → LowersForEntered b (changed_at t f tasks)
lowers_still (InLowering l k) tasks t f same h = entered_still tasks t l.acts_for f same h
lowers_still BeforeLeaving tasks t f same h = tt

-- Tasks that are changed, and one more.

tasks_entered : (w : World) (others : List Task) → KeepEntered w.tasks others → AllByRecursion (λ task. IsByEntered others task.caller) others → HaveEntered w → AreEntered others w.insts w.streams w.futures
tasks_entered w others keeps callers h = record {
  borrows = λ i index x there. names_as w.tasks others keeps x (h.borrows i index x there);
  callers = callers;
  copies = λ e c copy there under. keeps (task_by copy.by) (h.copies e c copy there under);
}

task_entered : (w : World) (t : ℕ) (f : Task → Task) → KeepEntered w.tasks (changed_at t f w.tasks) → ((x : Task) → IsByEntered w.tasks x.caller → IsByEntered w.tasks (f x).caller) → HaveEntered w
    → AreEntered (changed_at t f w.tasks) w.insts w.streams w.futures
task_entered w t f keeps calls h =
    tasks_entered w (changed_at t f w.tasks) keeps
    (all_as (λ (x : Task). IsByEntered w.tasks x.caller) (λ (x : Task). IsByEntered (changed_at t f w.tasks) x.caller) (λ x k. by_as w.tasks (changed_at t f w.tasks) keeps x.caller k) (changed_at t f w.tasks)
    (all_changed (λ (x : Task). IsByEntered w.tasks x.caller) t f w.tasks (λ x e k. calls x k) h.callers)) h

-- but for its state and its caller
left_so : (w : World) (t : ℕ) (f : Task → Task) → SameState f → ((x : Task) → (f x).caller ≡ x.caller) → HaveEntered w → AreEntered (changed_at t f w.tasks) w.insts w.streams w.futures
left_so w t f same calls h = task_entered w t f (λ n k. entered_still w.tasks t n f same k) (λ x k. subst (IsByEntered w.tasks) (sym (calls x)) k) h

-- to a state behind its entry
state_so : (w : World) (t : ℕ) (state : TaskState) → (HasNotEntered state → ⊥) → HaveEntered w → AreEntered (changed_at t (λ task. record task { state = state }) w.tasks) w.insts w.streams w.futures
state_so w t state behind h =
    task_entered w t (λ task. record task { state = state }) (λ n k. still_is w.tasks t n (λ task. record task { state = state }) IsBehindEntry (λ x l. behind) k) (λ x k. k) h

-- and in the caller's side of its call
by_subtask : (tasks : List Task) (f : Subtask → Subtask) → ((x : Subtask) → (f x).by ≡ x.by) → (c : Caller) → IsByEntered tasks c → IsByEntered tasks (caller_changed f c)
by_subtask tasks f same Nobody h = h
by_subtask tasks f same (Host call values) h = h
by_subtask tasks f same (Guest subtask) h = subst (HasEntered tasks) (sym (same subtask)) h

told_so : (w : World) (t : ℕ) (f : Subtask → Subtask) → ((x : Subtask) → (f x).by ≡ x.by) → HaveEntered w
    → AreEntered (changed_at t (λ task. record task { caller = caller_changed f task.caller }) w.tasks) w.insts w.streams w.futures
told_so w t f same h =
    task_entered w t (λ task. record task { caller = caller_changed f task.caller }) (λ n k. entered_still w.tasks t n (λ task. record task { caller = caller_changed f task.caller }) (λ x. refl) k)
    (λ x k. by_subtask w.tasks f same x.caller k) h

-- A task that is to wait until it may enter is new.
waits_or_not : (state : TaskState) → IsBlocked state → (state ≡ WaitsToEnter) ⊎ (HasNotEntered state → ⊥)
waits_or_not WaitsToEnter is = inl refl
waits_or_not (InLoop word) is = inr (λ new. new)
waits_or_not (InBuiltin number words wait) is = inr (λ new. new)
waits_or_not New is = absurd is
waits_or_not Acting is = absurd is
waits_or_not (AfterCall callee number words) is = absurd is
waits_or_not (AfterCancel callee number words) is = absurd is
waits_or_not (world.Begins n) is = absurd is
waits_or_not Exited is = absurd is

waiting_keeps : (tasks : List Task) (t : ℕ) → TaskIs tasks t (λ task. task.state ≡ New) → KeepEntered tasks (changed_at t (λ task. record task { state = WaitsToEnter }) tasks)
waiting_keeps tasks t new n h = elim (changed_where t (λ (task : Task). record task { state = WaitsToEnter }) tasks n h.0 h.1) [
  | inl old ↦ (h.0, old, h.2)
  | inr changed ↦ (
      let is : h.0.state ≡ New = one_task tasks t (λ task. task.state ≡ New) h.0 (ap (λ (k : ℕ). slice_get tasks k) (sym changed.0) ∙ h.1) new in
      absurd (h.2 (subst HasNotEntered (sym is) tt))
      )
]

blocks_so : (w : World) (t : ℕ) (state : TaskState) → IsBlocked state → TaskIs w.tasks t (BlocksFrom state) → HaveEntered w
    → AreEntered (changed_at t (λ task. record task { state = state }) w.tasks) w.insts w.streams w.futures
blocks_so w t state is from h = elim (waits_or_not state is) [
  | inl waits ↦
      subst (λ (s : TaskState). AreEntered (changed_at t (λ task. record task { state = s }) w.tasks) w.insts w.streams w.futures) (sym waits)
      (task_entered w t (λ task. record task { state = WaitsToEnter }) (waiting_keeps w.tasks t (subst (λ (s : TaskState). TaskIs w.tasks t (BlocksFrom s)) waits from)) (λ x k. k) h)
  | inr behind ↦ state_so w t state behind h
]

more_so : (w : World) (new : Task) → IsByEntered w.tasks new.caller → HaveEntered w → AreEntered (w.tasks ++ new ∷ []) w.insts w.streams w.futures
more_so w new last h =
    let keeps : KeepEntered w.tasks (w.tasks ++ new ∷ []) = λ n k. (k.0, get_front w.tasks new n k.0 k.1, k.2) in
    tasks_entered w (w.tasks ++ new ∷ []) keeps
    (all_more (λ (x : Task). IsByEntered (w.tasks ++ new ∷ []) x.caller) w.tasks new
    (all_as (λ (x : Task). IsByEntered w.tasks x.caller) (λ (x : Task). IsByEntered (w.tasks ++ new ∷ []) x.caller) (λ x k. by_as w.tasks (w.tasks ++ new ∷ []) keeps x.caller k) w.tasks h.callers)
    (by_as w.tasks (w.tasks ++ new ∷ []) keeps new.caller last)) h

-- Tables that are changed.

insts_entered : (w : World) (others : List Inst) → ((i index : ℕ) (x : Entry) → live (table_in (slice_get others i)) index ≡ Some x → NamesEntered w.tasks x) → HaveEntered w
    → AreEntered w.tasks others w.streams w.futures
insts_entered w others names h = record { borrows = names; callers = h.callers; copies = h.copies }

none_so : (w : World) (i : ℕ) (f : Inst → Inst) → AddsNone f → HaveEntered w → AreEntered w.tasks (changed_at i f w.insts) w.streams w.futures
none_so w i f none h =
    insts_entered w (changed_at i f w.insts) (λ j index x there. elim (table_back w.insts i f j index x there) [
      | inl new ↦ h.borrows j index x (subst (λ (o : Option Inst). live (table_in o) index ≡ Some x) (sym new.1.1) (none new.1.0 index x new.1.2))
      | inr old ↦ h.borrows j index x old
    ]) h

same_tables : (w : World) (i : ℕ) (f : Inst → Inst) → ((x : Inst) → (f x).table ≡ x.table) → HaveEntered w → AreEntered w.tasks (changed_at i f w.insts) w.streams w.futures
same_tables w i f same h = none_so w i f (none_same f same) h

add_so : (w : World) (i : ℕ) (entry : Entry) → NamesEntered w.tasks entry → HaveEntered w → HaveEntered (after (AddsEntry i entry) w)
add_so w i entry named h =
    insts_entered w (after (AddsEntry i entry) w).insts (λ j index x there. elim (table_back w.insts i (λ inst. record inst { table = added entry inst.table }) j index x there) [
      | inl new ↦ elim (added_so (nat_eq (next_index new.1.0.table) index) entry x (live new.1.0.table index) new.1.2) [
        | inl same ↦ subst (NamesEntered w.tasks) same.1 named
        | inr was ↦ h.borrows j index x (subst (λ (o : Option Inst). live (table_in o) index ≡ Some x) (sym new.1.1) was)
      ]
      | inr old ↦ h.borrows j index x old
    ]) h

nothing_in_new : (index : ℕ) (x : Entry) (y : Inst) → y ≡ new_inst → live y.table index ≡ Some x → ⊥
nothing_in_new index x y same k = (let clash : None ≡ Some x = subst (λ (z : Inst). live z.table index ≡ Some x) same k in cc)

begun_so : (w : World) → HaveEntered w → HaveEntered (after BeginsInstance w)
begun_so w h = insts_entered w (w.insts ++ new_inst ∷ []) (λ i index x there. by i index x (slice_get (w.insts ++ new_inst ∷ []) i) refl there) h
  where
    by : (i index : ℕ) (x : Entry) (o : Option Inst) → slice_get (w.insts ++ new_inst ∷ []) i ≡ o → live (table_in o) index ≡ Some x → NamesEntered w.tasks x
    by i index x None e k = cc
    by i index x (Some y) e k = elim (more_either w.insts new_inst i y e) [
      | inl old ↦ h.borrows i index x (subst (λ (o : Option Inst). live (table_in o) index ≡ Some x) (sym old) k)
      | inr last ↦ absurd (nothing_in_new index x y last.1 k)
    ]

-- Streams and futures that are changed.

abbrev CopiesEntered : World → World → Type 0
CopiesEntered w v =
    (e : EndRef) (c : Channel) (copy : OpenCopy) → channel_in e.kind e.number v.streams v.futures ≡ Some c → (end_at e.side c.ends.view).copy ≡ Some copy → HasEntered w.tasks (task_by copy.by)

by_before : (w : World) (e : EndRef) (c : Channel) (copy : OpenCopy) → HaveEntered w → channel_in e.kind e.number w.streams w.futures ≡ Some c → Before (end_at e.side c.ends.view).copy copy → HasEntered w.tasks (task_by copy.by)
by_before w e c copy h there b = subst (λ (b : By). HasEntered w.tasks (task_by b)) (sym b.2) (h.copies e c b.0 there b.1)

-- an edit of streams and futures leaves tasks and instances alone
channel_so : (kind : EndKind) (number : ℕ) (f : Channel → Channel) (w : World) → CopiesEntered w (with_channel kind number f w) → HaveEntered w → HaveEntered (with_channel kind number f w)
channel_so Stream number f w copies h = record { borrows = h.borrows; callers = h.callers; copies = copies }
channel_so Future number f w copies h = record { borrows = h.borrows; callers = h.callers; copies = copies }

edit_so : (kind : EndKind) (number : ℕ) (f : Channel → Channel) (w : World) → ((c : Channel) → AllCome c.ends.view (f c).ends.view) → HaveEntered w → HaveEntered (with_channel kind number f w)
edit_so kind number f w comes h =
    channel_so kind number f w (λ e c copy there under. elim (channel_either kind e.kind number e.number f w c there) [
      | inl new ↦ by_before w e new.2.0 copy h new.2.1 (comes new.2.0 e.side copy (ap (λ (x : Channel). (end_at e.side x.ends.view).copy) (sym new.2.2) ∙ under))
      | inr old ↦ h.copies e c copy old under
    ]) h

call_entered : (g : Graph) (w : World) (d : EndRef) (call copy : OpenCopy) → IsCall g w d call → copy ≡ call → HasEntered w.tasks (task_by copy.by)
call_entered g w d call copy may same = subst (λ (x : OpenCopy). HasEntered w.tasks (task_by x.by)) (sym (same ∙ may.is)) may.entered

pub called_entered : (g : Graph) (w : World) (d : EndRef) (call : OpenCopy) → IsCall g w d call → HasEntered w.tasks (task_by call.by)
called_entered g w d call may = call_entered g w d call call may refl

offer_so : (g : Graph) (d : EndRef) (call : OpenCopy) (w : World) → IsCall g w d call → HaveEntered w → HaveEntered (after (Offers d call) w)
offer_so g d call w may h =
    channel_so d.kind d.number (λ c. record c { ends = offered_by d.kind d.side call c.ends }) w (λ e c copy there under.
    elim (channel_either d.kind e.kind d.number e.number (λ c. record c { ends = offered_by d.kind d.side call c.ends }) w c there) [
      | inl new ↦ by_case e new.2.0 copy new.2.1 (offered_copies d.kind d.side call new.2.0.ends e.side copy (ap (λ (x : Channel). (end_at e.side x.ends.view).copy) (sym new.2.2) ∙ under))
      | inr old ↦ h.copies e c copy old under
    ]) h
  where
    by_case : (e : EndRef) (x : Channel) (copy : OpenCopy) → channel_in e.kind e.number w.streams w.futures ≡ Some x → OfCall d.side call x.ends e.side copy → HasEntered w.tasks (task_by copy.by)
    by_case e x copy found (inl own) = call_entered g w d call copy may own.1
    by_case e x copy found (inr b) = by_before w e x copy h found b

made_so : (kind : EndKind) (element : Option ValType) (w : World) → HaveEntered w → HaveEntered (channel_made kind element w)
made_so kind element w h = by kind (λ e c copy there under. h.copies e c copy (made_copies kind element w e c copy there under) under)
  where
    by : (k : EndKind) → CopiesEntered w (channel_made k element w) → HaveEntered (channel_made k element w)
    by Stream copies = record { borrows = h.borrows; callers = h.callers; copies = copies }
    by Future copies = record { borrows = h.borrows; callers = h.callers; copies = copies }

transfer_so : (e : EndRef) (size : ℕ) (values : List (Option Value)) (w : World) → HaveEntered w → HaveEntered (after (Transfers e size values) w)
transfer_so e size values w h =
    edit_so e.kind e.number _ _ (λ c. transfer_come e.kind e.side size (length values) c.ends) (edit_so e.kind e.number (carried values) w (λ c side. same_comes (end_at side c.ends.view).copy) h)

-- Every change.

removed_so : (w : World) (t : ℕ) → HaveEntered w → HaveEntered (after (IsRemoved t) w)
removed_so w t h = state_so (after (Resolves t Cancelled) w) t Exited (λ new. new) (left_so w t (λ task. record task { resolution = Some Cancelled }) (λ x. refl) (λ x. refl) h)

pub entered_kept : (g : Graph) (s : Script) (c : Change) (w : World) → Comes g s c w → HaveEntered w → HaveEntered (after c w)
entered_kept g s BeginsInstance w may h = begun_so w h
entered_kept g s (AddsEntry i entry) w may h = add_so w i entry may.3 h
entered_kept g s (MakesSet i set) w may h = same_tables (after (AddsEntry i (OfSet set)) w) i _ (λ x. refl) (add_so w i (OfSet set) tt h)
entered_kept g s (RemovesEntry i index) w may h = none_so w i _ (remove_none index) h
entered_kept g s (RemovesWaitable i index) w may h = same_tables (after (RemovesEntry i index) w) i _ (λ x. refl) (none_so w i _ (remove_none index) h)
entered_kept g s (LeavesSet i index) w may h = same_tables w i _ (λ x. refl) h
entered_kept g s (JoinsSet i index set) w may h = same_tables w i _ (λ x. refl) h
entered_kept g s (HasBackpressure i pressure) w may h = same_tables w i _ (λ x. refl) h
entered_kept g s (IsCalled callee call values) w may h = more_so w (new_task callee (Host call values) New) tt h
entered_kept g s (Calls number callee subtask words) w may h =
    let state : TaskState = AfterCall (length w.tasks) number words in
    let v : World = record w { tasks = changed_at subtask.by (λ task. record task { state = state }) w.tasks } in
    let calls : HasEntered v.tasks subtask.by =
    still_is w.tasks subtask.by subtask.by (λ task. record task { state = state }) IsBehindEntry (λ x l. λ new. new) (acts_entered w.tasks subtask.by may.4) in
    more_so v (new_task callee (Guest subtask) New) calls (state_so w subtask.by state (λ new. new) h)
entered_kept g s (ComesBack t) w may h = h
entered_kept g s (Acts t) w may h = state_so w t Acting (λ new. new) h
entered_kept g s (Begins n) w may h = state_so w 0 (world.Begins n) (λ new. new) h
entered_kept g s (Cancels t callee number words) w may h = state_so w t (AfterCancel callee number words) (λ new. new) h
entered_kept g s (Blocks t state) w may h = blocks_so w t state may.1 may.3 h
entered_kept g s (Exits t) w may h = state_so w t Exited (λ new. new) h
entered_kept g s (IsRemoved t) w may h = removed_so w t h
entered_kept g s (Resolves t resolution) w may h = left_so w t _ (λ x. refl) (λ x. refl) h
entered_kept g s (IsCancelled t cancellation) w may h = left_so w t _ (λ x. refl) (λ x. refl) h
entered_kept g s (HasWord t slot word) w may h = left_so w t _ (λ x. refl) (λ x. refl) h
entered_kept g s (HasNewStack t k) w may h = left_so w t _ (λ x. refl) (λ x. refl) h
entered_kept g s (HasStack t k) w may h = left_so w t _ (λ x. refl) (λ x. refl) h
entered_kept g s (LosesStack t) w may h = left_so w t _ (λ x. refl) (λ x. refl) h
entered_kept g s (IsAnswered t words) w may h = left_so w t _ (λ x. refl) (λ x. refl) h
entered_kept g s (IsTold t state) w may h = told_so w t (by_view delivered t state) (λ y. refl) h
entered_kept g s (IsLent t handle) w may h = told_so w t (λ y. by_view (with_lend handle) t y.told y) (λ y. refl) h
entered_kept g s (HasResult t words) w may h = told_so w t (λ y. record y { result = words }) (λ y. refl) h
entered_kept g s (MakesChannel kind element) w may h = made_so kind element w h
entered_kept g s (Offers e call) w may h = offer_so g e call w may h
entered_kept g s (Transfers e size values) w may h = transfer_so e size values w h
entered_kept g s (Concludes e) w may h = edit_so e.kind e.number _ w (λ c. conclude_come e.kind e.side c.ends) h
entered_kept g s (DropsEnd e) w may h = edit_so e.kind e.number _ w (λ c. drop_come e.side c.ends.view) h
entered_kept g s (GoesTo control) w may h = h
entered_kept g s (HasStore store) w may h = h
entered_kept g s SpendsUnit w may h = h
entered_kept g s (UsesPicks picks) w may h = h
entered_kept g s TakesItem w may h = h

-- In the first world.
pub first_entered : (g : Graph) → HaveEntered (first_world g)
first_entered g = record {
  borrows = λ i index x there. (let clash : None ≡ Some x = there in cc);
  callers = (tt, tt);
  copies = λ e c copy there under. none_yet e.kind e.number c copy there;
}
  where
    none_yet : (kind : EndKind) (number : ℕ) (c : Channel) (copy : OpenCopy) → channel_in kind number [] [] ≡ Some c → HasEntered (first_world g).tasks (task_by copy.by)
    none_yet Stream zero c copy k = cc
    none_yet Stream (suc place) c copy k = cc
    none_yet Future zero c copy k = cc
    none_yet Future (suc place) c copy k = cc

-- No borrow handle names a task that waits to enter.

count_more : {A : Type 0} (test : A → Bool) (xs : List A) (x : A) → count_by test (xs ++ x ∷ []) ≡ count_by test xs + (if test x then 1 else 0)
count_more test [] x = refl
count_more test (y ∷ xs) x =
    let a : ℕ = if test y then 1 else 0 in
    let b : ℕ = count_by test xs in
    let c : ℕ = if test x then 1 else 0 in
    let front : count_by test (y ∷ (xs ++ x ∷ [])) ≡ a + count_by test (xs ++ x ∷ []) = sum_by-cons (λ (z : _). if test z then 1 else 0) y (xs ++ x ∷ []) in
    let back : count_by test (y ∷ xs) ≡ a + b = sum_by-cons (λ (z : _). if test z then 1 else 0) y xs in
    let regroup : a + (b + c) ≡ (a + b) + c = omega arith in
    front ∙ (ap (λ (n : ℕ). a + n) (count_more test xs x) ∙ (regroup ∙ ap (λ (n : ℕ). n + c) (sym back)))

unnamed : (tasks : List Task) (t : ℕ) → (HasEntered tasks t → ⊥) → (o : Option Entry) → ((x : Entry) → o ≡ Some x → NamesEntered tasks x) → borrows_for t o ≡ false
unnamed tasks t out None h = refl
unnamed tasks t out (Some (OwnHandle resource rep)) h = refl
unnamed tasks t out (Some (BorrowHandle resource rep task)) h = by (nat_eq task t) refl
  where
    by : (b : Bool) → nat_eq task t ≡ b → b ≡ false
    by false e = refl
    by true e = (let same : task ≡ t = grind (arith, nat_tests, e) in absurd (out (subst (HasEntered tasks) same (h (BorrowHandle resource rep task) refl))))
unnamed tasks t out (Some (OfSubtask callee)) h = refl
unnamed tasks t out (Some (OfSet set)) h = refl
unnamed tasks t out (Some (OfEnd e)) h = refl

none_counted : (b : Bool) (n : ℕ) → b ≡ false → n + (if b then 1 else 0) ≡ n
none_counted true n e = cc
none_counted false n e = (let same : n + 0 ≡ n = omega arith in same)

none_up_to : (tasks : List Task) (t : ℕ) → (HasEntered tasks t → ⊥) → (table : List (Event Entry)) → ((index : ℕ) (x : Entry) → live table index ≡ Some x → NamesEntered tasks x) → (n : ℕ)
    → count_by (borrows_for t) (slots_up_to table n) ≡ 0
none_up_to tasks t out table h zero = refl
none_up_to tasks t out table h (suc n) =
    let last : borrows_for t (live table (suc n)) ≡ false = unnamed tasks t out (live table (suc n)) (h (suc n)) in
    count_more (borrows_for t) (slots_up_to table n) (live table (suc n))
    ∙ (none_counted (borrows_for t (live table (suc n))) (count_by (borrows_for t) (slots_up_to table n)) last ∙ none_up_to tasks t out table h n)

none_in : (tasks : List Task) (t : ℕ) → (HasEntered tasks t → ⊥) → (insts : List Inst) → ((i index : ℕ) (x : Entry) → live (table_in (slice_get insts i)) index ≡ Some x → NamesEntered tasks x)
    → sum_by (λ inst. count_by (borrows_for t) (slots_of inst.table)) insts ≡ 0
none_in tasks t out [] h = refl
none_in tasks t out (inst ∷ insts) h =
    let first = none_up_to tasks t out inst.table (λ index x there. h 0 index x there) (greatest inst.table) in
    let rest = none_in tasks t out insts (λ i index x there. h (suc i) index x there) in
    let all : sum_by (λ (x : Inst). count_by (borrows_for t) (slots_of x.table)) (inst ∷ insts)
    ≡ count_by (borrows_for t) (slots_of inst.table) + sum_by (λ (x : Inst). count_by (borrows_for t) (slots_of x.table)) insts = sum_by-cons (λ (x : Inst). count_by (borrows_for t) (slots_of x.table)) inst insts in
    omega (arith, first, rest, all)

pub waiting_unborrowed : (w : World) (t : ℕ) (P : Task → Type 0) → ((x : Task) → P x → x.state ≡ WaitsToEnter) → TaskIs w.tasks t P → HaveEntered w → borrows_of w t ≡ 0
waiting_unborrowed w t P waits is h =
    none_in w.tasks t (λ k. (let at : k.0.state ≡ WaitsToEnter = waits k.0 (one_task w.tasks t P k.0 k.1 is) in k.2 (subst HasNotEntered (sym at) tt))) w.insts h.borrows
