-- What is asked where an event is to come to a task that goes on is so where what is kept stands for a world that a run reaches; at any other rest nothing is to come.
use Rattle.std.proofs.Common.{◌≡◌, ◌≤◌, ◌+◌, ◌-◌, ℕ, zero, suc, Bool, true, false, not, ◌&&◌, ◌||◌, nat_eq, nat_lt, is_some, List, [], ◌∷◌, length, refl, sym, ap, ◌∙◌, subst, Option, Some, None}
use Rattle.std.specs.Prelude.{IsSome}
use Rattle.std.specs.List.{slice_get, list_any, AllZip}
use Rattle.std.specs.Option.{option_map}
use Rattle.syntax_trees.specs.declared.types.ValType.{ValType}
use Rattle.handle_table.specs.History.{live}
use Rattle.handle_table.specs.Slots.{Slots}
use Rattle.handle_table.specs.Slots.{entry_at as entry_in_slots}
use Rattle.res_handles.specs.Calls.{relent_by, lends_in}
use Rattle.instances.specs.Entries.{seen_as, of_handle}
use Rattle.wasm_store.specs.Store.{Store}
use Rattle.wasm_store.specs.Stack.{Stack}
use Rattle.builtin_kinds.specs.declared.EndKind.{EndKind}
use Rattle.builtin_kinds.specs.declared.EndKind.TheVariants.{Stream, Future}
use Rattle.stream_ends.specs.declared.side.Side.{Side}
use Rattle.stream_ends.specs.declared.stream_end.End.{End}
use Rattle.stream_ends.specs.Ends.{EndsView, end_at, is_pending}
use Rattle.tasks.specs.Tasks.{is_asked}
use Rattle.tasks.specs.declared.event.BlockedAt.TheVariants as blocked_at
use Rattle.tasks.specs.declared.phase.Phase.TheVariants as phase
use Rattle.comp_graph.specs.declared.graph.CoreRef.{CoreRef}
use Rattle.replies.specs.Seen.{seen}
use Rattle.machine_runs.specs.Moving.{woken}
use Rattle.comp_graph.specs.Graph.{Graph, Lifted}
use Rattle.script_reader.specs.Script.{Script}
use Rattle.channels.specs.declared.channel.Channel as kept_channel
use Rattle.instances.specs.declared.entry.WorldEntry.{WorldEntry}
use Rattle.instances.specs.declared.entry.WorldEntry.TheVariants as entry
use Rattle.instances.specs.Instances.{InstanceView, entry_of, given_back}
use Rattle.task_table.specs.declared.errand.Errand.TheVariants as errand
use Rattle.task_table.specs.declared.errand.Callee as runs
use Rattle.task_table.specs.declared.slot.TaskSlot.{TaskSlot}
use Rattle.task_table.specs.Slots.{waits_directly_at}
use Rattle.programs.specs.declared.program.Program.{Program}
use Rattle.world_parts.specs.declared.parts.Flow.{Flow}
use Rattle.world_parts.specs.declared.parts.Flow.TheVariants as flow
use Rattle.world_parts.specs.declared.parts.Rest.{Rest}
use Rattle.world_parts.specs.declared.parts.Rest.TheVariants as rest
use Rattle.world_parts.specs.declared.parts.Receiver.{Receiver}
use Rattle.world_parts.specs.declared.parts.Receiver.TheVariants as receiver
use Rattle.world_parts.specs.Held.{Held, Done}
use Rattle.world_parts.specs.Places as places
use Rattle.world_parts.specs.Slots.{word_in}
use Rattle.abi_machine.specs.Control.{EndRef}
use Rattle.abi_machine.specs.World.{Entry, OfEnd, OfSubtask, Inst, Channel, ForYield, ForSet, ForCall, ForCopy, ForCancel, Wait, New, Acting, AfterCall, AfterCancel, Begins, WaitsToEnter, InLoop, InBuiltin, Exited, TaskState, Task, World}
use Rattle.abi_machine.specs.Canons.{flag_at, options_at, memory_of, bytes_of}
use Rattle.abi_machine.specs.Counting.{passes, phase_of, channel_end, end_of, waits_at, is_waited_for}
use Rattle.abi_machine.specs.Reading.{table_in, entry_at, func_of, runs_in, numbered, channel_at}
use Rattle.abi_machine.specs.replies.Streams.{is_async_copy}
use Rattle.abi_machine.proofs.sound.Found.{some_same}
use Rattle.standing.specs.Channels.{EndMarked, HasMarkedEnds}
use Rattle.standing.specs.Events.{HasPlace}
use Rattle.standing.specs.Instances.{IsOfKind, end_entry, EntryStands}
use Rattle.standing.specs.KeptMarks.{runs_func, runs_at, awaited_at}
use Rattle.standing.specs.Moves.{Acts, GivesBack}
use Rattle.standing.specs.News.{KeepsWho, CopiesWait}
use Rattle.standing.specs.Stands.{ChannelStands, Stands}
use Rattle.standing.specs.Tasks.{callee_of, errand_of, TaskStands}
use Rattle.standing.specs.Waits.{KeepsCalls}
use Rattle.standing.proofs.Changes.{acting_is_alike}
use Rattle.standing.proofs.KeptMarks.{runs_alike, who_waits_is_kept}
use Rattle.standing.proofs.Lists.{BothAt, at_both}
use Rattle.run_laws.specs.Steps.{HearsWell, NewsWell, HearsBy}
use Rattle.run_laws.specs.Supplied.{RestsReached, SubtasksAreCalledOut, PlacesAreKept, WaitsInside, EventsAreHeard, IsNoResume, OthersHearNothing}
use Rattle.run_laws.proofs.keeping.Sums.{any_there}
use Rattle.run_laws.proofs.supplied.Canons.{calls_kept}
use Rattle.run_laws.proofs.supplied.Found.{task_of, slot_of, inst_of, view_of_inst, entry_shown, entry_back}
use Rattle.run_laws.proofs.supplied.Moves.{other_task}
use Rattle.run_laws.proofs.supplied.Quiet.{IsQuiet, QuietBy, arrives_quiet, leaves_quiet, goes_quiet, back_quiet, calls_quiet}
use Rattle.run_laws.proofs.supplied.Woken.{SlotWoke, Woke, Wakes, HearsFrom, HeardBy, resumes_hears}

-- Lists of which one passes.
bools_same : (a b : Bool) → (a ≡ true → b ≡ true) → (b ≡ true → a ≡ true) → a ≡ b
bools_same true true f k = refl
bools_same true false f k = sym (f refl)
bools_same false true f k = k refl
bools_same false false f k = refl

any_by : {A : Type 0} (p : A → Bool) (x : A) (xs : List A) (b : Bool) → p x ≡ b → (b || list_any p xs) ≡ true
    → (list_any p xs ≡ true → (n : ℕ) × (y : A) × (slice_get xs n ≡ Some y) × (p y ≡ true)) → (n : ℕ) × (y : A) × (slice_get (x ∷ xs) n ≡ Some y) × (p y ≡ true)
any_by p x xs true is e rest = (0, x, refl, is)
any_by p x xs false is e rest = (let y = rest e in (suc y.0, y.1, y.2, y.3))

any_found : {A : Type 0} (p : A → Bool) (xs : List A) → list_any p xs ≡ true → (n : ℕ) × (x : A) × (slice_get xs n ≡ Some x) × (p x ≡ true)
any_found p [] e = absurd (cc)
any_found p (x ∷ xs) e = any_by p x xs (p x) refl e (any_found p xs)

one_alike : {A B : Type 0} (R : A → B → Type 0) (p : A → Bool) (q : B → Bool) → ((x : A) (y : B) → R x y → p x ≡ q y) → (xs : List A) (ys : List B) → AllZip R xs ys → list_any p xs ≡ list_any q ys
one_alike R p q same [] [] h = refl
one_alike R p q same [] (y ∷ ys) h = absurd h
one_alike R p q same (x ∷ xs) [] h = absurd h
one_alike R p q same (x ∷ xs) (y ∷ ys) h = ap (λ (b : Bool). b || list_any p xs) (same x y h.0) ∙ ap (λ (b : Bool). q y || b) (one_alike R p q same xs ys h.1)

-- Who waits directly is kept.
direct_wait : (flag : ℕ → Bool) (index number : ℕ) (words : List ℕ) (wait : Wait) → waits_directly_at index (phase_of flag (InBuiltin number words wait)) ≡ waits_at index (InBuiltin number words wait)
direct_wait flag index number words ForYield = refl
direct_wait flag index number words (ForSet set) = refl
direct_wait flag index number words (ForCall callee) = refl
direct_wait flag index number words (ForCopy end) = refl
direct_wait flag index number words (ForCancel subtask) = refl

direct_same : (flag : ℕ → Bool) (index : ℕ) (state : TaskState) → waits_directly_at index (phase_of flag state) ≡ waits_at index state
direct_same flag index New = refl
direct_same flag index Acting = refl
direct_same flag index (AfterCall callee number words) = refl
direct_same flag index (AfterCancel callee number words) = refl
direct_same flag index (Begins n) = refl
direct_same flag index WaitsToEnter = refl
direct_same flag index (InLoop word) = refl
direct_same flag index (InBuiltin number words wait) = direct_wait flag index number words wait
direct_same flag index Exited = refl

both_same : (a b c d : Bool) → a ≡ b → c ≡ d → (a && c) ≡ (b && d)
both_same a b c d e f = ap (λ (x : Bool). x && c) e ∙ ap (λ (x : Bool). b && x) f

awaited_alike : (g : Graph) (values : List ValType) (s : Script) (h : Held) (stacks : List (List Stack)) (w : World) (at index : ℕ) → Stands g values s h stacks w
    → awaited_at h.tasks at index ≡ is_waited_for w at index
awaited_alike g values s h stacks w at index st =
    one_alike (TaskStands g s) (λ (x : TaskSlot). runs_at at x && waits_directly_at index x.task.phase) (λ (task : Task). runs_in at task && waits_at index task.state)
    (λ k a alike. both_same (runs_at at k) (runs_in at a) (waits_directly_at index k.task.phase) (waits_at index a.state) (runs_alike g s at k a alike)
    (ap (waits_directly_at index) alike.far ∙ direct_same (flag_at g) index a.state))
    h.tasks w.tasks st.are_tasks

slot_waits : (t n at index : ℕ) (x y : TaskSlot) → SlotWoke t n x y → (runs_at at y && waits_directly_at index y.task.phase) ≡ (runs_at at x && waits_directly_at index x.task.phase)
slot_waits t n at index x y woke =
    both_same (runs_at at y) (runs_at at x) (waits_directly_at index y.task.phase) (waits_directly_at index x.task.phase)
    (ap (λ (c : runs.Callee). runs_func c && nat_eq y.instance at) woke.callee ∙ ap (λ (m : ℕ). runs_func x.callee && nat_eq m at) woke.instance) (woke.waits index)

awaited_same : (t at index : ℕ) (h k : Held) → Woke t h k → awaited_at k.tasks at index ≡ awaited_at h.tasks at index
awaited_same t at index h k woke =
    let p : TaskSlot → Bool = λ slot. runs_at at slot && waits_directly_at index slot.task.phase in
    bools_same (list_any p k.tasks) (list_any p h.tasks)
    (λ e.
    let y = any_found p k.tasks e in
    let x = woke.tasks y.0 y.1 y.2 in
    any_there p h.tasks y.0 x.0 x.1 (sym (slot_waits t y.0 at index x.0 y.1 x.2) ∙ y.3))
    (λ e.
    let x = any_found p h.tasks e in
    let y = some_of (slice_get k.tasks x.0) (woke.slots x.0 (ap is_some x.2)) in
    let z = woke.tasks x.0 y.0 y.1 in
    let same : z.0 ≡ x.1 = some_same (sym z.1 ∙ x.2) in
    any_there p k.tasks x.0 y.0 y.1 (slot_waits t x.0 at index z.0 y.0 z.2 ∙ ap p same ∙ x.3))
  where
    some_of : {A : Type 0} (o : Option A) → IsSome o → (x : A) × (o ≡ Some x)
    some_of None h = absurd (cc)
    some_of (Some x) h = (x, refl)

-- Handles can be given back in an instance with the same table.
gives_alike : (handles : List ℕ) (i j : InstanceView) → j.slots ≡ i.slots → GivesBack handles i → GivesBack handles j
gives_alike [] i j same h = tt
gives_alike (handle ∷ handles) i j same h = (
  ap (λ (slots : Slots WorldEntry). nat_lt 0 (lends_in (option_map seen_as (entry_in_slots slots handle)))) same ∙ h.0,
  gives_alike handles (given_back handle i) (given_back handle j)
      (ap (λ (slots : Slots WorldEntry). relent_by (option_map seen_as (entry_in_slots slots handle)) of_handle (λ n. n - 1) handle slots) same) h.1,
)

-- What stands for an entry is one, and ends that stand for the same are the same.
entry_one : (values : List ValType) (e : WorldEntry) (a b : Entry) → EntryStands values e a → EntryStands values e b → a ≡ b
entry_one values (entry.Handle x) a b p q = p ∙ sym q
entry_one values (entry.Subtask callee) a b p q = p ∙ sym q
entry_one values (entry.Set set) a b p q = p ∙ sym q
entry_one values (entry.End e) a b p q =
    p.2 ∙ ap (λ (k : EndKind). end_entry k e) (kind_one values e.end_type p.0 q.0 p.1 q.1) ∙ sym q.2
  where
    kind_one : (values : List ValType) (n : ℕ) (k m : EndKind) → IsOfKind values k n → IsOfKind values m n → k ≡ m
    kind_one values n Stream Stream p q = refl
    kind_one values n Future Future p q = refl
    kind_one values n Stream Future p q = absurd (let both : Some _ ≡ Some _ = sym p.1 ∙ q.1 in let none : ⊥ = cc in none)
    kind_one values n Future Stream p q = absurd (let both : Some _ ≡ Some _ = sym p.1 ∙ q.1 in let none : ⊥ = cc in none)

channel_one : (values : List ValType) (kind : EndKind) (side : Side) (o : Option kept_channel.Channel) (p q : Option Channel) → BothAt (ChannelStands values kind) o p
    → BothAt (ChannelStands values kind) o q → channel_end side p ≡ channel_end side q
channel_one values kind side None None None p q = refl
channel_one values kind side None None (Some b) p q = absurd q
channel_one values kind side None (Some a) q p r = absurd p
channel_one values kind side (Some c) None q p r = absurd p
channel_one values kind side (Some c) (Some a) None p q = absurd q
channel_one values kind side (Some c) (Some a) (Some b) p q = ap (λ (v : EndsView). end_at side v) (sym p.ends ∙ q.ends)

number_one : (values : List ValType) (kind : EndKind) (side : Side) (number : ℕ) (cs : List kept_channel.Channel) (xs ys : List Channel) → AllZip (ChannelStands values kind) cs xs
    → AllZip (ChannelStands values kind) cs ys → channel_end side (numbered xs number) ≡ channel_end side (numbered ys number)
number_one values kind side zero cs xs ys p q = refl
number_one values kind side (suc place) cs xs ys p q =
    channel_one values kind side (slice_get cs place) (slice_get xs place) (slice_get ys place) (at_both (ChannelStands values kind) cs xs place p) (at_both (ChannelStands values kind) cs ys place q)

pub memory_alike : (m : Option CoreRef) (h k : Held) → k.memories ≡ h.memories → places.memory_by m k ≡ places.memory_by m h
memory_alike None h k same = refl
memory_alike (Some m) h k same = ap (λ (ms : List (Option ℕ)). places.memory_in (slice_get ms m.instance)) same

module _ (g : Graph) (values : List ValType) (s : Script) (h k : Held) (stacks now : List (List Stack)) (w v : World) (t : ℕ) (st : Stands g values s h stacks w) (later : Stands g values s k now v)
    (woke : Woke t h k) where
  ends_same : (kind : EndKind) (number : ℕ) (side : Side) → channel_end side (channel_at v kind number) ≡ channel_end side (channel_at w kind number)
  ends_same Stream number side =
      number_one values Stream side number k.streams v.streams w.streams later.are_streams (subst (λ (cs : List kept_channel.Channel). AllZip (ChannelStands values Stream) cs w.streams) (sym woke.streams) st.are_streams)
  ends_same Future number side =
      number_one values Future side number k.futures v.futures w.futures later.are_futures (subst (λ (cs : List kept_channel.Channel). AllZip (ChannelStands values Future) cs w.futures) (sym woke.futures) st.are_futures)

  waited_same : (at index : ℕ) → is_waited_for v at index ≡ is_waited_for w at index
  waited_same at index = sym (awaited_alike g values s k now v at index later) ∙ awaited_same t at index h k woke ∙ awaited_alike g values s h stacks w at index st

  end_stood : (at index : ℕ) (e : EndRef) (o : Option Inst) → slice_get v.insts at ≡ o → entry_at v at index ≡ Some (OfEnd e) → entry_at w at index ≡ Some (OfEnd e)
  end_stood at index e None is there =
      let none : None ≡ Some (OfEnd e) = sym (ap (λ (o : Option Inst). live (table_in o) index) is) ∙ there in absurd (cc)
  end_stood at index e (Some inst) is there =
      let j = view_of_inst g values s k now v later at inst is in
      let x = entry_back g values s k now v later at index j.0 (OfEnd e) j.1 there in
      let i = woke.instances at j.0 j.1 in
      let stood : entry_of i.0 index ≡ Some x.0 = ap (λ (slots : Slots WorldEntry). entry_in_slots slots index) (sym i.2) ∙ x.1 in
      let a = entry_shown g values s h stacks w st at index i.0 x.0 i.1 stood in
      a.1 ∙ ap (λ (y : Entry). Some y) (entry_one values x.0 a.0 (OfEnd e) a.2 x.2)

  copies_wait : (at : ℕ) → CopiesWait g w at → CopiesWait g v at
  copies_wait at waits index e there pending =
      let same : end_of v e ≡ end_of w e = ends_same e.kind e.number e.side in
      ap (λ (x : End). passes (is_async_copy g) x.copy) same ∙ waits index e (end_stood at index e (slice_get v.insts at) refl there) (ap is_pending (sym same) ∙ pending)
      ∙ ap not (sym (waited_same at index))

  marked_ends : HasMarkedEnds h → HasMarkedEnds k
  marked_ends ends at index j e here there =
      let i = woke.instances at j here in
      let m : EndMarked h.streams h.futures e = ends at index i.0 e i.1 (ap (λ (slots : Slots WorldEntry). entry_in_slots slots index) (sym i.2) ∙ there) in
      subst (λ (xs : List kept_channel.Channel). EndMarked k.streams xs e) (sym woke.futures) (subst (λ (xs : List kept_channel.Channel). EndMarked xs h.futures e) (sym woke.streams) m)

  -- The task of the number, and its instance.
  pub acts_still : (task : Task) (f : Lifted) → Acts w t task f → (b : Task) × Acts v t b f × ((slot : TaskSlot) → slice_get h.tasks t ≡ Some slot → slot.task.cancellation ≡ b.cancellation)
  acts_still task f acts =
      let x = slot_of g values s h stacks w st t task acts.there in
      let y = some_of (slice_get k.tasks t) (woke.slots t (ap is_some x.1)) in
      let b = task_of g values s k now v later t y.0 y.1 in
      let z = woke.tasks t y.0 y.1 in
      let same : z.0 ≡ x.0 = some_same (sym z.1 ∙ x.1) in
      let callee : b.0.callee ≡ task.callee = some_same (sym b.2.does ∙ ap (callee_of g) z.2.callee ∙ ap (λ (u : TaskSlot). callee_of g u.callee) same ∙ x.2.does) in
      let inst = some_of (slice_get w.insts f.instance) acts.inside in
      let i = view_of_inst g values s h stacks w st f.instance inst.0 inst.1 in
      let j = some_of (slice_get k.instances f.instance) (woke.insts f.instance (ap is_some i.1)) in
      let there = inst_of g values s k now v later f.instance j.0 j.1 in (
        b.0,
        record {
          first = sym (acting_is_alike g values s k now v later) ∙ ap (λ (c : List ℕ). slice_get c (length c - 1)) woke.chain ∙ acting_is_alike g values s h stacks w st ∙ acts.first;
          there = b.1;
          runs = ap func_of callee ∙ acts.runs;
          inside = ap is_some there.1;
        },
        (λ slot is. ap (λ (u : TaskSlot). u.task.cancellation) (some_same (sym is ∙ z.1)) ∙ sym z.2.cancellation ∙ b.2.cancelled),
      )
    where
      some_of : {A : Type 0} (o : Option A) → IsSome o → (x : A) × (o ≡ Some x)
      some_of None h = absurd (cc)
      some_of (Some x) h = (x, refl)

  -- Calls of subtasks in the table.
  calls_still : (at : ℕ) → KeepsCalls h at → ((index callee : ℕ) → entry_at w at index ≡ Some (OfSubtask callee) → callee ≡ t → ⊥) → KeepsCalls k at
  calls_still at calls others index callee j here stood =
      let i = woke.instances at j here in
      let was : entry_of i.0 index ≡ Some (entry.Subtask callee) = ap (λ (slots : Slots WorldEntry). entry_in_slots slots index) (sym i.2) ∙ stood in
      let e = entry_shown g values s h stacks w st at index i.0 (entry.Subtask callee) i.1 was in
      let c = calls index callee i.0 i.1 was in
      let y = some_of (slice_get k.tasks callee) (woke.slots callee (ap is_some c.2.there)) in
      let z = woke.tasks callee y.0 y.1 in
      let same : y.0 ≡ c.0 = z.2.others (others index callee (e.1 ∙ ap (λ (a : Entry). Some a) e.2)) ∙ some_same (sym z.1 ∙ c.2.there) in (
        c.0,
        c.1,
        record {
          there = y.1 ∙ ap (λ (u : TaskSlot). Some u) same;
          guest = c.2.guest;
          marked = c.2.marked;
          lent = λ u now_here. gives_alike c.1.subtask.lends i.0 u (ap (λ (x : InstanceView). x.slots) (some_same (sym now_here ∙ here)) ∙ i.2) (c.2.lent i.0 i.1);
          over = c.2.over;
        },
      )
    where
      some_of : {A : Type 0} (o : Option A) → IsSome o → (x : A) × (o ≡ Some x)
      some_of None h = absurd (cc)
      some_of (Some x) h = (x, refl)

  who_still : (at : ℕ) → KeepsWho h w at → ((index callee : ℕ) → entry_at w at index ≡ Some (OfSubtask callee) → callee ≡ t → ⊥) → KeepsWho k v at
  who_still at who others index callee j slot called here stood there guest =
      let i = woke.instances at j here in
      let was : entry_of i.0 index ≡ Some (entry.Subtask callee) = ap (λ (slots : Slots WorldEntry). entry_in_slots slots index) (sym i.2) ∙ stood in
      let e = entry_shown g values s h stacks w st at index i.0 (entry.Subtask callee) i.1 was in
      let z = woke.tasks callee slot there in
      let same : slot ≡ z.0 = z.2.others (others index callee (e.1 ∙ ap (λ (a : Entry). Some a) e.2)) in
      let p = who index callee i.0 slot called i.1 was (z.1 ∙ ap (λ (u : TaskSlot). Some u) (sym same)) guest in
      (p.0, p.1 ∙ sym (waited_same at index))

  -- The place of a wait.
  place_still : (canon place : ℕ) → HasPlace g h w (receiver.InWait canon place) → HasPlace g k v (receiver.InWait canon place)
  place_still canon place has =
      let stores : v.store ≡ w.store = sym later.same_store ∙ woke.store ∙ st.same_store in (
        memory_alike (options_at g canon).memory h k woke.memories ∙ has.0 ∙ ap (λ (x : Store). memory_of x (options_at g canon)) (sym stores),
        subst (λ (x : Store). place + 8 ≤ length (bytes_of x (memory_of x (options_at g canon)))) (sym stores) has.1,
      )

-- What a task that waits on a set has kept.
set_state : (g : Graph) (canon index : ℕ) (flag : Bool) (state : TaskState) → errand_of state ≡ errand.InBuiltin canon → phase_of (flag_at g) state ≡ phase.Blocked (blocked_at.Set index) flag
    → (words : List ℕ) × (state ≡ InBuiltin canon words (ForSet index))
set_state g canon index flag New e far = absurd (cc)
set_state g canon index flag Acting e far = absurd (cc)
set_state g canon index flag (AfterCall callee number words) e far = absurd (cc)
set_state g canon index flag (AfterCancel callee number words) e far = absurd (cc)
set_state g canon index flag (Begins n) e far = absurd (cc)
set_state g canon index flag WaitsToEnter e far = absurd (cc)
set_state g canon index flag (InLoop word) e far = absurd (cc)
set_state g canon index flag (InBuiltin number words ForYield) e far = absurd (cc)
set_state g canon index flag (InBuiltin number words (ForSet set)) e far = (words, set_is number canon set index words e far)
  where
    number_same : (a b : ℕ) → errand.InBuiltin a ≡ errand.InBuiltin b → a ≡ b
    number_same a b e = cc

    set_same : (a b : ℕ) (x y : Bool) → phase.Blocked (blocked_at.Set a) x ≡ phase.Blocked (blocked_at.Set b) y → a ≡ b
    set_same a b x y e = cc

    set_is : (number canon set index : ℕ) (words : List ℕ) → errand.InBuiltin number ≡ errand.InBuiltin canon → phase.Blocked (blocked_at.Set set) (flag_at g number) ≡ phase.Blocked (blocked_at.Set index) flag
        → InBuiltin number words (ForSet set) ≡ InBuiltin canon words (ForSet index)
    set_is number canon set index words e far =
        ap (λ (n : ℕ). InBuiltin n words (ForSet set)) (number_same number canon e) ∙ ap (λ (n : ℕ). InBuiltin canon words (ForSet n)) (set_same set index (flag_at g number) flag far)
set_state g canon index flag (InBuiltin number words (ForCall callee)) e far = absurd (cc)
set_state g canon index flag (InBuiltin number words (ForCopy end)) e far = absurd (cc)
set_state g canon index flag (InBuiltin number words (ForCancel subtask)) e far = absurd (cc)
set_state g canon index flag Exited e far = absurd (cc)

-- Together.
module _ (p : Program) (values : List ValType) (s : Script) (h : Held) (stacks : List (List Stack)) (w : World) (t : ℕ) (task : Task) (f : Lifted) (r : RestsReached p values s h stacks w) (acts : Acts w t task f)
    (out : SubtasksAreCalledOut w) (waits : (at : ℕ) → CopiesWait p.graph.now w at) (kept : PlacesAreKept h w) (inside : WaitsInside p.graph.now h w) where
  abbrev g : Graph
  g = p.graph.now

  abbrev st : Stands g values s h stacks w
  st = r.there.stands

  others : (index callee : ℕ) → entry_at w f.instance index ≡ Some (OfSubtask callee) → callee ≡ t → ⊥
  others index callee stood is = other_task w f.instance t callee task f (out f.instance index callee stood) acts.there acts.runs refl is

  place_of : (k : Held) (now : List (List Stack)) (v : World) (to : Receiver) → Stands g values s k now v → (x : Wakes h k to) → x.number ≡ t → HasPlace g k v to
  place_of k now v receiver.InCallback later x is = tt
  place_of k now v (receiver.InWait canon place) later x is =
      let a = task_of g values s h stacks w st x.number x.slot x.there in
      let state = set_state g canon x.place.2.0 x.place.2.1 a.0.state (sym a.2.at ∙ x.place.0) (sym a.2.far ∙ x.place.2.2) in
      let same = kept x.number canon x.place.2.0 state.0 a.0 a.1 state.1 x.slot x.there in
      let word : word_in state.0 1 ≡ Some place = same.2 ∙ ap (λ (n : ℕ). Some n) (some_same (sym same.1 ∙ x.place.1)) in
      place_still g values s h k stacks now w v x.number st later x.woke canon place (inside x.number canon x.place.2.0 place state.0 a.0 a.1 state.1 word)

  hears_well : (k : Held) (now : List (List Stack)) (v : World) (to : Receiver) → Stands g values s k now v → (x : Wakes h k to) → (y : HearsWell g k v t to) × ((y.func ≡ f) × (x.slot.task.cancellation ≡ y.task.cancellation))
  hears_well k now v to later x =
      let number : x.number ≡ t = some_same (sym x.last ∙ acting_is_alike g values s h stacks w st ∙ acts.first) in
      let woke : Woke t h k = subst (λ (n : ℕ). Woke n h k) number x.woke in
      let still = acts_still g values s h k stacks now w v t st later woke task f acts in (
        record { task = still.0; func = f; acts = still.1; place = place_of k now v to later x number },
        (refl, still.2 x.slot (ap (λ (n : ℕ). slice_get h.tasks n) (sym number) ∙ x.there)),
      )

  news_well : (k : Held) (now : List (List Stack)) (v : World) (to : Receiver) → Stands g values s k now v → Wakes h k to → NewsWell g k v f.instance
  news_well k now v to later x =
      let number : x.number ≡ t = some_same (sym x.last ∙ acting_is_alike g values s h stacks w st ∙ acts.first) in
      let woke : Woke t h k = subst (λ (n : ℕ). Woke n h k) number x.woke in
      record {
        ends = marked_ends g values s h k stacks now w v t st later woke r.ends;
        calls = calls_still g values s h k stacks now w v t st later woke f.instance (calls_kept p values s h stacks w f.instance r out) others;
        who = who_still g values s h k stacks now w v t st later woke f.instance (who_waits_is_kept g values s h stacks w f.instance st r.marks) others;
        copies = copies_wait g values s h k stacks now w v t st later woke f.instance (waits f.instance);
      }

  both_well : (k : Held) (now : List (List Stack)) (v : World) (to : Receiver) → Stands g values s k now v → Wakes h k to → (y : HearsWell g k v t to) × NewsWell g k v y.func.instance
  both_well k now v to later x =
      let y = hears_well k now v to later x in (y.0, subst (λ (l : Lifted). NewsWell g k v l.instance) (sym y.1.0) (news_well k now v to later x))

  hears_by : (what : Flow) (k : Held) (now : List (List Stack)) (v : World) → Stands g values s k now v → HearsFrom h what k → HearsBy g k v t what
  hears_by (flow.Now words) k now v later x = tt
  hears_by flow.Rests k now v later x = tt
  hears_by (flow.Starts ref words) k now v later x = tt
  hears_by flow.Enters k now v later x = tt
  hears_by flow.Returns k now v later x = tt
  hears_by (flow.Copies copying) k now v later x = tt
  hears_by (flow.Delivers to set) k now v later x = both_well k now v to later x
  hears_by (flow.Polls to set) k now v later x = both_well k now v to later x
  hears_by (flow.HearsNone to) k now v later x = (hears_well k now v to later x).0
  hears_by (flow.HearsCancel to) k now v later x =
      let y = hears_well k now v to later x.0 in (y.0, ap is_asked (sym y.1.1) ∙ x.1)

pub events_are_heard : EventsAreHeard
events_are_heard p values s h stacks w t task f r acts out waits kept inside what k now v is later =
    hears_by p values s h stacks w t task f r acts out waits kept inside what k now v later (subst (λ (d : Done Flow). HeardBy h d) is (resumes_hears h))

-- At any other rest.
quiet_hears : (g : Graph) (k : Held) (v : World) (t : ℕ) (what : Flow) → IsQuiet what → HearsBy g k v t what
quiet_hears g k v t (flow.Now words) q = tt
quiet_hears g k v t flow.Rests q = tt
quiet_hears g k v t (flow.Starts ref words) q = tt
quiet_hears g k v t flow.Enters q = tt
quiet_hears g k v t flow.Returns q = tt
quiet_hears g k v t (flow.Copies copying) q = tt
quiet_hears g k v t (flow.Delivers r set) q = absurd q
quiet_hears g k v t (flow.Polls r set) q = absurd q
quiet_hears g k v t (flow.HearsNone r) q = absurd q
quiet_hears g k v t (flow.HearsCancel r) q = absurd q

woken_quiet : (g : Graph) (types : List (Option ℕ)) (r : Rest) (h : Held) → IsNoResume r → QuietBy (woken g types r h)
woken_quiet g types (rest.Instantiates number) h quiet = tt
woken_quiet g types rest.Free h quiet = tt
woken_quiet g types rest.Arrives h quiet = arrives_quiet h
woken_quiet g types rest.Goes h quiet = goes_quiet h
woken_quiet g types rest.Resumes h quiet = absurd quiet
woken_quiet g types rest.Back h quiet = back_quiet (seen g) h
woken_quiet g types rest.Runs h quiet = tt
woken_quiet g types (rest.Calls number) h quiet = calls_quiet g types number h
woken_quiet g types rest.Leaves h quiet = leaves_quiet h

pub others_hear_nothing : OthersHearNothing
others_hear_nothing g types r h what k v t quiet is = quiet_hears g k v t what (subst (λ (d : Done Flow). QuietBy d) is (woken_quiet g types r h quiet))
