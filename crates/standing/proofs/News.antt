-- What has news is the same on both sides, and so are the ready members of a set.
use Rattle.std.proofs.Common.{◌≡◌, ◌≤◌, ◌<◌, ℕ, zero, suc, ◌+◌, Bool, true, false, cond, not, ◌&&◌, ◌||◌, ◌==◌, nat_eq, nat_lt, List, [], ◌∷◌, filter, is_some, refl, sym, ap, ◌∙◌, subst, arith, Option, Some, None}
use Rattle.std.specs.List.{slice_get, range_with_len}
use Rattle.std.proofs.lemmas.Bool.{eqb-true, eq-eqb, eqb-false, ltb-true, ltb-false}
use Rattle.syntax_trees.specs.declared.types.ValType.{ValType}
use Rattle.wasm_store.specs.Stack.{Stack}
use Rattle.handle_table.specs.History.{Event, live, greatest}
use Rattle.handle_table.specs.Alike.{SlotAlike}
use Rattle.handle_table.proofs.Histories.{live_past}
use Rattle.waitables.specs.Sets.{SetView, set_at, is_one_of}
use Rattle.builtin_kinds.specs.declared.EndKind.{EndKind}
use Rattle.stream_ends.specs.Ends.{is_pending}
use Rattle.stream_ends.specs.declared.stream_end.End.{End}
use Rattle.tasks.specs.declared.subtask_state.SubtaskState.{SubtaskState}
use Rattle.tasks.specs.Tasks.{state_of}
use Rattle.tasks.specs.Subtasks.{code_of, has_event}
use Rattle.res_handles.specs.declared.handle.Ownership.{Ownership}
use Rattle.res_handles.specs.declared.handle.Ownership.TheVariants.{Own, Borrow}
use Rattle.comp_graph.specs.Graph.{Graph}
use Rattle.script_reader.specs.Script.{Script}
use Rattle.channels.specs.declared.channel.Channel as kept_channel
use Rattle.channels.specs.Channels.{end_in}
use Rattle.instances.specs.declared.entry.WorldEntry.{WorldEntry}
use Rattle.instances.specs.declared.entry.WorldEntry.TheVariants as entry
use Rattle.instances.specs.Instances.{InstanceView, entry_of}
use Rattle.task_table.specs.declared.caller.Called.{Called}
use Rattle.task_table.specs.declared.caller.Caller as kept_caller
use Rattle.task_table.specs.declared.caller.Caller.TheVariants as by
use Rattle.task_table.specs.declared.slot.TaskSlot.{TaskSlot}
use Rattle.task_table.specs.Callers as callers
use Rattle.world_parts.specs.Views.{Views}
use Rattle.world_parts.specs.Held.{Held}
use Rattle.world_parts.specs.Channels.{channel_at}
use Rattle.world_parts.specs.News as news
use Rattle.world_parts.specs.News.{entry_in, end_news, channel_news, slot_news, entry_news, news_at}
use Rattle.abi_machine.specs.World.{Entry, Inst, Caller, Nobody, Host, Guest, Task, World}
use Rattle.abi_machine.specs.Reading as reading
use Rattle.abi_machine.specs.Reading.{table_in, table_of, sets_in, entry_at, subtask_of}
use Rattle.abi_machine.specs.Counting.{passes, end_of, subtask_state, subtask_has_event, entry_has_event, is_waited_for, has_news, news_of}
use Rattle.standing.specs.Instances.{owned_as, EntryStands, members_of, InstStands}
use Rattle.standing.specs.Tasks.{CallerStands, TaskStands}
use Rattle.standing.specs.Stands.{Stands}
use Rattle.standing.specs.Channels.{HasMarkedEnds}
use Rattle.standing.specs.Ends.{Sees}
use Rattle.standing.specs.News.{KeepsWho, CopiesWait, ReadyIsAlike}
use Rattle.standing.proofs.Lists.{BothAt, at_both, IsFound, found_both}
use Rattle.standing.proofs.Tables.{entries_are_alike}
use Rattle.standing.proofs.Telling.{state_alike}
use Rattle.standing.proofs.EndsFound.{EndFound, end_is_found, ref_of}
use Rattle.standing.proofs.EndsDropped.{end_same}
use Rattle.standing.proofs.EndsTold.{async_same}
use Rattle.standing.proofs.Delivering.{kind_is}

-- The members of a set.
members_same : (xs : List SetView) (n : ℕ) → (set_at xs n).members ≡ reading.members_in (slice_get (members_of xs) n)
members_same [] n = refl
members_same (x ∷ xs) zero = refl
members_same (x ∷ xs) (suc n) = members_same xs n

-- An index is one of those of a range that pass a test where it is in the range, and passes.
either_true : (a b : Bool) → b ≡ true → (a || b) ≡ true
either_true true b h = refl
either_true false b h = h

first_true : (a b : Bool) → a ≡ true → (a || b) ≡ true
first_true true b h = refl
first_true false b h = absurd (cc)

higher : (first i : ℕ) → first ≤ i → (first ≡ i → ⊥) → first + 1 ≤ i
higher first i low other = by (nat_lt first i) refl
  where
    by : (b : Bool) → nat_lt first i ≡ b → first + 1 ≤ i
    by true e = let less : first < i = ltb-true first i e in omega (arith, less)
    by false e = let most : i ≤ first = ltb-false first i e in absurd (other (omega (arith, low, most)))

kept_there : (first i : ℕ) (more : List ℕ) (b : Bool) → is_one_of more i ≡ true → is_one_of (cond b (first ∷ more) more) i ≡ true
kept_there first i more true h = either_true (first == i) (is_one_of more i) h
kept_there first i more false h = h

there_by : (p : ℕ → Bool) (first i : ℕ) (more : List ℕ) (b : Bool) → nat_eq first i ≡ b → p i ≡ true → ((first ≡ i → ⊥) → is_one_of more i ≡ true)
    → is_one_of (cond (p first) (first ∷ more) more) i ≡ true
there_by p first i more true e passed later =
    let same : first ≡ i = eqb-true first i e in
    subst (λ (b : Bool). is_one_of (cond b (first ∷ more) more) i ≡ true) (sym (ap p same ∙ passed)) (first_true (first == i) (is_one_of more i) (eq-eqb first i same))
there_by p first i more false e passed later = kept_there first i more (p first) (later (eqb-false first i e))

one_there : (p : ℕ → Bool) (first n i : ℕ) → first ≤ i → i < first + n → p i ≡ true → is_one_of (filter p (range_with_len first n)) i ≡ true
one_there p first zero i low high passed = absurd (omega (arith, low, high))
one_there p first (suc n) i low high passed =
    there_by p first i (filter p (range_with_len (first + 1) n)) (nat_eq first i) refl passed
    (λ (other : first ≡ i → ⊥). one_there p (first + 1) n i (higher first i low other) (omega (arith, high)) passed)

not_by : (p : ℕ → Bool) (x i : ℕ) (more : List ℕ) (b c : Bool) → p x ≡ b → (x == i) ≡ c → p i ≡ false → is_one_of more i ≡ false → is_one_of (cond b (x ∷ more) more) i ≡ false
not_by p x i more true true is e none later =
    absurd (let both : true ≡ false = sym is ∙ ap p (eqb-true x i e) ∙ none in let w : ⊥ = cc in w)
not_by p x i more true false is e none later = ap (λ (b : Bool). b || is_one_of more i) e ∙ later
not_by p x i more false c is e none later = later

one_not : (p : ℕ → Bool) (xs : List ℕ) (i : ℕ) → p i ≡ false → is_one_of (filter p xs) i ≡ false
one_not p [] i none = refl
one_not p (x ∷ xs) i none = not_by p x i (filter p xs) (p x) (x == i) refl refl none (one_not p xs i none)

one_of_range : (p : ℕ → Bool) (n i : ℕ) (b : Bool) → p i ≡ b → (b ≡ true → (1 ≤ i) × (i ≤ n)) → is_one_of (filter p (range_with_len 1 n)) i ≡ p i
one_of_range p n i true is inside = let place = inside refl in one_there p 1 n i place.0 (omega (arith, place.1)) is ∙ sym is
one_of_range p n i false is inside = one_not p (range_with_len 1 n) i is ∙ sym is

-- What is live stands at an index that was given.
given_before : (table : List (Event Entry)) (i : ℕ) (e : Entry) → live table i ≡ Some e → i ≤ greatest table
given_before table i e is = by (nat_lt (greatest table) i) refl
  where
    by : (b : Bool) → nat_lt (greatest table) i ≡ b → i ≤ greatest table
    by true h = absurd (let none : live table i ≡ None = live_past table i (ltb-true (greatest table) i h) in let both : None ≡ Some e = sym none ∙ is in let w : ⊥ = cc in w)
    by false h = ltb-false (greatest table) i h

-- An entry has news on both sides or on none.
no_event : (w : World) (resource rep : ℕ) (o : Ownership) → entry_has_event w (Some (owned_as resource rep o)) ≡ false
no_event w resource rep Own = refl
no_event w resource rep (Borrow task) = refl

event_same : (state told x y : SubtaskState) → state ≡ x → told ≡ y
    → not (nat_eq (code_of state) (code_of told)) ≡ not (nat_eq (code_of x) (code_of y))
event_same state told x y a b = ap (λ (z : SubtaskState). not (nat_eq (code_of z) (code_of told))) a ∙ ap (λ (z : SubtaskState). not (nat_eq (code_of x) (code_of z))) b

caller_news : (s : Script) (callee : ℕ) (slot : TaskSlot) (task : Task) (c : kept_caller.Caller) (d : Caller) (waits : Bool) → CallerStands s c d
    → ((called : Called) → c ≡ by.Guest called → (called.subtask.state ≡ subtask_state task) × (called.is_awaited ≡ waits))
    → callers.has_news c ≡ (subtask_has_event callee task (subtask_of d) && not waits)
caller_news s callee slot task by.Nobody Nobody waits st k = refl
caller_news s callee slot task by.Nobody (Host call values) waits st k = absurd st
caller_news s callee slot task by.Nobody (Guest subtask) waits st k = absurd st
caller_news s callee slot task (by.Host number) Nobody waits st k = absurd st
caller_news s callee slot task (by.Host number) (Host call values) waits st k = refl
caller_news s callee slot task (by.Host number) (Guest subtask) waits st k = absurd st
caller_news s callee slot task (by.Guest called) Nobody waits st k = absurd st
caller_news s callee slot task (by.Guest called) (Host call values) waits st k = absurd st
caller_news s callee slot task (by.Guest called) (Guest subtask) waits st k =
    ap (λ (b : Bool). b && not called.is_awaited)
    (event_same called.subtask.state called.subtask.told (subtask_state task) subtask.told (k called refl).0 st.was_told)
    ∙ ap (λ (b : Bool). has_event (record { callee = callee; state = subtask_state task; told = subtask.told; lends = subtask.lends }) && not b) (k called refl).1

slot_news_same : (g : Graph) (s : Script) (callee : ℕ) (o : Option TaskSlot) (p : Option Task) (waits : Bool) → BothAt (TaskStands g s) o p
    → ((slot : TaskSlot) (called : Called) → o ≡ Some slot → slot.caller ≡ by.Guest called → (called.subtask.state ≡ state_of slot.task) × (called.is_awaited ≡ waits))
    → slot_news o ≡ (passes (λ task. subtask_has_event callee task (subtask_of task.caller)) p && not waits)
slot_news_same g s callee None None waits st k = refl
slot_news_same g s callee None (Some task) waits st k = absurd st
slot_news_same g s callee (Some slot) None waits st k = absurd st
slot_news_same g s callee (Some slot) (Some task) waits st k =
    caller_news s callee slot task slot.caller task.caller waits st.called (λ called is. ((k slot called refl is).0 ∙ state_alike g s slot task st, (k slot called refl is).1))

both_same : (a c d : Bool) → (a ≡ true → c ≡ d) → (a && c) ≡ (a && d)
both_same true c d k = k refl
both_same false c d k = refl

entry_news_same : (g : Graph) (values : List ValType) (s : Script) (v : Views) (h : Held) (stacks : List (List Stack)) (w : World) (at index : ℕ) (x : InstanceView) (o : Option WorldEntry)
    (p : Option Entry)
    → Sees g v → slice_get h.instances at ≡ Some x → entry_of x index ≡ o → entry_at w at index ≡ p → HasMarkedEnds h → KeepsWho h w at → CopiesWait g w at → Stands g values s h stacks w
    → SlotAlike (EntryStands values) o p → entry_news v o h ≡ (entry_has_event w p && not (is_waited_for w at index))
entry_news_same g values s v h stacks w at index x None None sees is there beside marks who copies st a = refl
entry_news_same g values s v h stacks w at index x None (Some p) sees is there beside marks who copies st a = absurd a
entry_news_same g values s v h stacks w at index x (Some o) None sees is there beside marks who copies st a = absurd a
entry_news_same g values s v h stacks w at index x (Some (entry.Handle y)) (Some p) sees is there beside marks who copies st a =
    sym (ap (λ (b : Entry). entry_has_event w (Some b) && not (is_waited_for w at index)) a ∙ ap (λ (b : Bool). b && not (is_waited_for w at index)) (no_event w y.resource y.rep y.ownership))
entry_news_same g values s v h stacks w at index x (Some (entry.Set set)) (Some p) sees is there beside marks who copies st a =
    sym (ap (λ (b : Entry). entry_has_event w (Some b) && not (is_waited_for w at index)) a)
entry_news_same g values s v h stacks w at index x (Some (entry.Subtask callee)) (Some p) sees is there beside marks who copies st a =
    slot_news_same g s callee (slice_get h.tasks callee) (slice_get w.tasks callee) (is_waited_for w at index) (at_both (TaskStands g s) h.tasks w.tasks callee st.are_tasks)
    (λ slot called slot_is guest. who index callee x slot called is there slot_is guest)
    ∙ sym (ap (λ (b : Entry). entry_has_event w (Some b) && not (is_waited_for w at index)) a)
entry_news_same g values s v h stacks w at index x (Some (entry.End e)) (Some p) sees is there beside marks who copies st (k, of, a) =
    let f : EndFound values h w k e = end_is_found g values s h stacks w k of.0 e (marks at index x e is there) of.1 st in
    let own : End = end_in e.side f.channel.ends in
    let same : end_of w (ref_of k e) ≡ own = end_same values h w k e f in
    ap (λ (j : EndKind). channel_news v e.side (channel_at j e.number h)) (kind_is g values s h stacks w k e f st)
    ∙ ap (λ (c : Option kept_channel.Channel). channel_news v e.side c) f.here
    ∙ ap (λ (m : End). end_news v m) (sym same)
    ∙ both_same (is_pending (end_of w (ref_of k e))) (news.copy_is_async v (end_of w (ref_of k e)).copy) (not (is_waited_for w at index))
    (λ pending. async_same g v (end_of w (ref_of k e)).copy sees ∙ copies index (ref_of k e) (beside ∙ ap Some a) pending)
    ∙ sym (ap (λ (b : Entry). entry_has_event w (Some b) && not (is_waited_for w at index)) a)

-- Index by index.
index_inside : (x : InstanceView) (table : List (Event Entry)) (values : List ValType) (index : ℕ) (p : Option Entry) → live table index ≡ p
    → SlotAlike (EntryStands values) (entry_of x index) p → is_some p ≡ true → (1 ≤ index) × (index ≤ greatest table)
index_inside x table values zero None is a some = absurd (cc)
index_inside x table values zero (Some e) is a some = absurd a
index_inside x table values (suc n) None is a some = absurd (cc)
index_inside x table values (suc n) (Some e) is a some = (omega arith, given_before table (suc n) e is)

some_event : (w : World) (p : Option Entry) (b : Bool) → (entry_has_event w p && b) ≡ true → is_some p ≡ true
some_event w None b h = absurd (cc)
some_event w (Some e) b h = refl

filter_alike : (p q : ℕ → Bool) (xs : List ℕ) → ((x : ℕ) → p x ≡ q x) → filter p xs ≡ filter q xs
filter_alike p q [] same = refl
filter_alike p q (x ∷ xs) same =
    ap (λ (b : Bool). cond b (x ∷ filter p xs) (filter p xs)) (same x) ∙ ap (λ (ys : List ℕ). cond (q x) (x ∷ ys) ys) (filter_alike p q xs same)

pub ready_is_alike : ReadyIsAlike
ready_is_alike g values s v h stacks w at set sees inside marks who copies st =
    let i : IsFound (InstStands values) (slice_get h.instances at) (slice_get w.insts at) = found_both (InstStands values) h.instances w.insts at st.are_instances inside in
    let x : InstanceView = i.left in
    let y : Inst = i.right in
    let table : List (Event Entry) = y.table in
    let here : (index : ℕ) → entry_at w at index ≡ live table index = λ index. ap (λ (o : Option Inst). live (table_in o) index) i.is_right in
    let alike : (index : ℕ) → SlotAlike (EntryStands values) (entry_of x index) (live table index) = λ index. entries_are_alike values x y index i.alike in
    let news_is : (index : ℕ) → news_at v h at index ≡ has_news w at index =
    λ index.
    ap (λ (o : Option InstanceView). entry_news v (entry_in o index) h) i.is_left
    ∙ entry_news_same g values s v h stacks w at index x (entry_of x index) (live table index) sees i.is_left refl (here index) marks who copies st (alike index)
    ∙ sym (ap (λ (p : Option Entry). entry_has_event w p && not (is_waited_for w at index)) (here index)) in
    let one_is : (index : ℕ) → news_at v h at index ≡ is_one_of (news_of w at) index =
    λ index.
    news_is index
    ∙ sym (one_of_range (has_news w at) (greatest (table_of w at)) index (has_news w at index) refl
    (λ news_there.
    let place = index_inside x table values index (live table index) refl (alike index)
    (ap (λ (p : Option Entry). is_some p) (sym (here index)) ∙ some_event w (entry_at w at index) (not (is_waited_for w at index)) news_there) in
    (place.0, subst (λ (o : Option Inst). index ≤ greatest (table_in o)) (sym i.is_right) place.1))) in
    ap (λ (o : Option InstanceView). filter (news_at v h at) (news.members_in o set)) i.is_left
    ∙ ap (λ (ms : List ℕ). filter (news_at v h at) ms)
    (members_same x.sets set ∙ ap (λ (all : List (List ℕ)). reading.members_in (slice_get all set)) i.alike.sets
    ∙ sym (ap (λ (o : Option Inst). reading.members_in (slice_get (sets_in o) set)) i.is_right))
    ∙ filter_alike (news_at v h at) (is_one_of (news_of w at)) (reading.members_of w at set) one_is
