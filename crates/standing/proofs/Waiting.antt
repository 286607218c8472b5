-- The acting task waits for an event of a set, or polls it.
use Rattle.std.proofs.Common.{◌≡◌, ◌≤◌, ℕ, ◌+◌, ◌%◌, Bool, true, false, not, ◌&&◌, nat_eq, nat_le, nat_lt, if◌then◌else◌, List, length, slice_index, is_some, refl, sym, ap, ◌∙◌, subst, Option, Some, Result, Ok, Err}
use Rattle.std.specs.List.{slice_get}
use Rattle.std.proofs.lemmas.Bool.{ltb-false, leb-true, leb-false, le-ltb, lt-ltb, and_parts}
use Rattle.syntax_trees.specs.declared.types.ValType.{ValType}
use Rattle.wasm_store.specs.Stack.{Stack}
use Rattle.handle_table.specs.History.{live}
use Rattle.waitables.specs.Sets as waitable
use Rattle.builtin_kinds.specs.declared.WaitOp.{WaitOp}
use Rattle.builtin_kinds.specs.declared.WaitOp.TheVariants as wait_op
use Rattle.entry_gate.specs.declared.kind.Kind.{Kind}
use Rattle.tasks.specs.declared.event.BlockedAt.TheVariants as blocked_at
use Rattle.tasks.specs.declared.phase.Cancellation.{Cancellation}
use Rattle.tasks.specs.declared.phase.Phase.TheVariants as phase
use Rattle.tasks.specs.Tasks.{is_sync, is_asked, is_acting}
use Rattle.res_handles.specs.declared.refusal.Refusal.{Refusal}
use Rattle.comp_graph.specs.declared.graph.Options.{Options}
use Rattle.comp_graph.specs.Graph.{Graph, Lifted}
use Rattle.script_reader.specs.Script.{Script}
use Rattle.trace_labels.specs.declared.label.BlockReason.TheVariants as reason
use Rattle.trace_labels.specs.declared.trap.TrapName.{TrapName}
use Rattle.trace_labels.specs.declared.trap.TrapName.TheVariants as trap
use Rattle.instances.specs.Entries as entries
use Rattle.instances.specs.Instances.{InstanceView, entry_of, with_sets}
use Rattle.task_table.specs.declared.errand.Errand.TheVariants as errand
use Rattle.task_table.specs.declared.slot.TaskSlot.{TaskSlot}
use Rattle.world_parts.specs.declared.parts.Flow.{Flow}
use Rattle.world_parts.specs.declared.parts.Receiver.TheVariants as receiver
use Rattle.world_parts.specs.Views.{Views}
use Rattle.world_parts.specs.Held as held
use Rattle.world_parts.specs.Held.{Held, Done, Gives, Traps, after, given}
use Rattle.world_parts.specs.Places as places
use Rattle.world_parts.specs.Places.{bytes_at}
use Rattle.world_parts.specs.Entries.{with_instance, named, set_found, set_waited_on}
use Rattle.world_parts.specs.Slots.{word_in}
use Rattle.world_parts.specs.Calls.{blocked_in}
use Rattle.world_parts.specs.News as news
use Rattle.world_parts.specs.Events as events
use Rattle.world_parts.specs.Waits.{blocked_at_set, none_ready, by_ready, waited, set_wait}
use Rattle.abi_machine.specs.Control.{InWait}
use Rattle.abi_machine.specs.World.{ForSet, Acting, InBuiltin, Inst, Task, World}
use Rattle.abi_machine.specs.Canons.{flag_at, options_at, memory_of, bytes_of}
use Rattle.abi_machine.specs.Reading as reading
use Rattle.abi_machine.specs.Reading.{table_in, func_of}
use Rattle.abi_machine.specs.Counting.{phase_of, ready}
use Rattle.abi_machine.specs.Finding as found
use Rattle.abi_machine.specs.Traps.{renamed, refusal_name}
use Rattle.abi_machine.specs.Turn as turns
use Rattle.abi_machine.specs.Turn.{Turn, Steps, unless, unless_refused, blocked}
use Rattle.abi_machine.specs.Delivering as delivering
use Rattle.abi_machine.specs.replies.Waiting as machine
use Rattle.abi_machine.specs.replies.Waiting.{is_cancelled, event_turn, wait_turn}
use Rattle.abi_machine.proofs.sound.Found.{some_same}
use Rattle.standing.specs.Instances.{InstStands}
use Rattle.standing.specs.Tasks.{TaskStands}
use Rattle.standing.specs.Stands.{Stands}
use Rattle.standing.specs.Agreeing.{Agrees}
use Rattle.standing.specs.Replies.{HasItsSets}
use Rattle.standing.specs.Resolutions.{HasWords}
use Rattle.standing.specs.Ends.{Sees, HasMemory}
use Rattle.standing.specs.Events.{SeesCallbacks, AgreesOn, Hears}
use Rattle.standing.specs.Waits.{HasNews, SetIsWaitedFor}
use Rattle.standing.proofs.Lists.{IsFound, found_both}
use Rattle.standing.proofs.Tables.{entries_are_alike, waiters_are_not_said}
use Rattle.standing.proofs.Changes.{instances_stay}
use Rattle.standing.proofs.Found.{set_alike, word_is}
use Rattle.standing.proofs.Agreeing.{turn_as, on_trap, on_named}
use Rattle.standing.proofs.Joining.{few_sets}
use Rattle.standing.proofs.Blocking.{on_blocked}
use Rattle.standing.proofs.Steps.{via}
use Rattle.standing.proofs.Going.{done_as}
use Rattle.standing.proofs.Memories.{memory_alike}
use Rattle.standing.proofs.Heard.{nothing_is_heard, cancel_is_heard}
use Rattle.standing.proofs.Delivered.{on_as, by_ready_members}

-- A test, with what agrees with a turn and those behind it.
on_test_on : (g : Graph) (values : List ValType) (s : Script) (t : ℕ) (h : Held) (stacks : List (List Stack)) (b c : Bool) (d e : Done Flow) (u v : Turn) → b ≡ c
    → (b ≡ true → AgreesOn g values s t h.labels stacks d u) → (b ≡ false → AgreesOn g values s t h.labels stacks e v)
    → AgreesOn g values s t h.labels stacks (if b then d else e) (if c then u else v)
on_test_on g values s t h stacks true true d e u v same p q = p refl
on_test_on g values s t h stacks false false d e u v same p q = q refl
on_test_on g values s t h stacks true false d e u v same p q = absurd (cc)
on_test_on g values s t h stacks false true d e u v same p q = absurd (cc)

not_less : (a b : ℕ) → nat_lt a b ≡ not (nat_le b a)
not_less a b = by (nat_le b a) refl
  where
    by : (c : Bool) → nat_le b a ≡ c → nat_lt a b ≡ not c
    by true e = le-ltb a b (leb-true b a e)
    by false e = lt-ltb a b (leb-false b a e)

-- Where no member is ready a wait blocks.
waited_on_is : (at set : ℕ) (x : InstanceView) (h : Held) → slice_get h.instances at ≡ Some x → nat_lt set (length x.sets) ≡ true
    → set_waited_on at set h ≡ Gives tt (with_instance at (with_sets (waitable.waited_on set x.sets) x) h)
waited_on_is at set x h is few =
    ap (λ (o : Option InstanceView). given o (λ i. if nat_lt set (length i.sets) then Gives tt (with_instance at (with_sets (waitable.waited_on set i.sets) i) h) else held.Stuck)) is
    ∙ ap (λ (b : Bool). if b then Gives tt (with_instance at (with_sets (waitable.waited_on set x.sets) x) h) else held.Stuck) few

module _ (g : Graph) (values : List ValType) (s : Script) (v : Views) (h : Held) (stacks : List (List Stack)) (w : World) (t canon word place : ℕ) (op : WaitOp) (task : Task) (f : Lifted) (inst : Inst)
    (words : List ℕ) (sees : Sees g v) (callbacks : SeesCallbacks g v) (is : word_in words 0 ≡ Some word) (is_place : word_in words 1 ≡ Some place) (keeps : HasWords h t words) (has : HasMemory h w (options_at g canon))
    (first : slice_get w.chain 0 ≡ Some t) (there : slice_get w.tasks t ≡ Some task) (acts : task.state ≡ Acting) (runs : func_of task.callee ≡ Some f)
    (is_inst : slice_get w.insts f.instance ≡ Some inst) (sets : HasItsSets inst) (has_news : (set : ℕ) → HasNews values v h w f.instance set) (st : Stands g values s h stacks w) where
  abbrev at : ℕ
  at = f.instance

  abbrev slot_found : IsFound (TaskStands g s) (slice_get h.tasks t) (slice_get w.tasks t)
  slot_found = found_both (TaskStands g s) h.tasks w.tasks t st.are_tasks (ap is_some there)

  slot_stands : TaskStands g s slot_found.left task
  slot_stands = subst (λ (a : Task). TaskStands g s slot_found.left a) (some_same (sym slot_found.is_right ∙ there)) slot_found.alike

  blocks : (set : ℕ) (x : InstanceView) → slice_get h.instances at ≡ Some x → nat_lt set (length x.sets) ≡ true
      → Agrees g values s t h.labels stacks (blocked_at_set v t at canon word set h) (blocked t (InBuiltin canon words (ForSet (slice_index words 0))) (reason.Wait (slice_index words 0)) w)
  unfolding blocked_at_set blocked_in
  blocks set x is_x few =
      let k : Held = with_instance at (with_sets (waitable.waited_on set x.sets) x) h in
      done_as g values s t h.labels stacks _ (blocked_in t canon (v.flag canon) (blocked_at.Set word) (reason.Wait word) k) _ (via _ _ _ _ (waited_on_is at set x h is_x few))
      (turn_as g values s t h.labels stacks _ _ (blocked t (InBuiltin canon words (ForSet word)) (reason.Wait word) w)
      (ap (λ (n : ℕ). blocked t (InBuiltin canon words (ForSet n)) (reason.Wait n) w) (word_is words 0 word is))
      (on_blocked g values s k stacks w t slot_found.left (blocked_at.Set word) (v.flag canon) (reason.Wait word) (InBuiltin canon words (ForSet word)) (errand.InBuiltin canon)
      slot_found.is_left refl (ap is_acting (slot_stands.far ∙ ap (phase_of (flag_at g)) acts)) (ap (phase.Blocked (blocked_at.Set word)) (sym (sees.flag canon))) refl
      (place, ap (λ (ws : List ℕ). word_in ws 1) (keeps slot_found.left slot_found.is_left) ∙ is_place, is_place) first
      (instances_stay g values s h stacks w at x (with_sets (waitable.waited_on set x.sets) x) is_x
      (λ a now. waiters_are_not_said values x a set ((waitable.set_at x.sets set).waiters + 1) now) st)))

  abbrev heard_by : place + 8 ≤ length (bytes_of w.store (memory_of w.store (options_at g canon))) → Hears g v h w t f (receiver.InWait canon place) (InWait canon words)
  heard_by fits = record {
    sees = sees;
    callbacks = callbacks;
    task = task;
    there = there;
    runs = runs;
    receives = (refl, is_place);
    place = (has, fits);
  }

  none_is_ready : (set : ℕ) (x : InstanceView) (o : WaitOp) → slice_get h.instances at ≡ Some x → nat_lt set (length x.sets) ≡ true
      → Hears g v h w t f (receiver.InWait canon place) (InWait canon words)
      → Agrees g values s t h.labels stacks (none_ready v t at canon o word place set h) (machine.none_ready g t f o canon words w)
  unfolding machine.none_ready
  none_is_ready set x wait_op.Wait is_x few a = blocks set x is_x few
  none_is_ready set x wait_op.Poll is_x few a = nothing_is_heard g values s v h stacks w t f (receiver.InWait canon place) (InWait canon words) a st

  by_what_is_ready : (set : ℕ) (x : InstanceView) → slice_get h.instances at ≡ Some x → nat_lt set (length x.sets) ≡ true
      → Hears g v h w t f (receiver.InWait canon place) (InWait canon words)
      → AgreesOn g values s t h.labels stacks (by_ready v t at canon op word place set (news.ready v at set h) h) (machine.by_ready g t f op canon words set (ready w at set) w)
  unfolding by_ready machine.by_ready
  by_what_is_ready set x is_x few a =
      on_as g values s t h.labels stacks _ _ _ (machine.by_ready g t f op canon words set (news.ready v at set h) w) refl
      (ap (λ (ms : List ℕ). machine.by_ready g t f op canon words set ms w) (sym (has_news set).ready))
      (by_ready_members g values s v h stacks w t set f (receiver.InWait canon place) (InWait canon words) (none_ready v t at canon op word place set h)
      (machine.none_ready g t f op canon words w) (λ ms. machine.by_ready g t f op canon words set ms w) (news.ready v at set h) a first (has_news set) st refl refl (λ i more. refl)
      (none_is_ready set x op is_x few a))

  abbrev asked_now : Bool
  asked_now = v.flag canon && not (is_sync slot_found.left.task.kind) && is_asked slot_found.left.task.cancellation

  waits_so : (set : ℕ) (x : InstanceView) → slice_get h.instances at ≡ Some x → nat_lt set (length x.sets) ≡ true
      → Hears g v h w t f (receiver.InWait canon place) (InWait canon words)
      → AgreesOn g values s t h.labels stacks (waited v t at canon op word place set h)
      (if is_cancelled g task canon then delivering.received_cancel g t f (InWait canon words) w else machine.by_ready g t f op canon words set (ready w at set) w)
  unfolding waited
  waits_so set x is_x few a =
      on_as g values s t h.labels stacks _
      (if asked_now then events.received_cancel v t (receiver.InWait canon place) h else by_ready v t at canon op word place set (news.ready v at set h) h) _ _
      (via _ _ _ _ (ap (λ (o : Option TaskSlot). given o (λ slot. Gives slot.task.kind h)) slot_found.is_left)
      ∙ via _ _ _ _ (ap (λ (o : Option TaskSlot). given o (λ slot. Gives (is_asked slot.task.cancellation) h)) slot_found.is_left)) refl
      (on_test_on g values s t h stacks asked_now (is_cancelled g task canon) _ _ _ _
      (ap (λ (b : Bool). b && not (is_sync slot_found.left.task.kind) && is_asked slot_found.left.task.cancellation) (sees.flag canon)
      ∙ ap (λ (kind : Kind). flag_at g canon && not (is_sync kind) && is_asked slot_found.left.task.cancellation) slot_stands.lifted
      ∙ ap (λ (c : Cancellation). flag_at g canon && not (is_sync (reading.kind_of task)) && is_asked c) slot_stands.cancelled)
      (λ all. (
        0,
        cancel_is_heard g values s v h stacks w t f (receiver.InWait canon place) (InWait canon words) task a there
            (ap is_asked (sym slot_stands.cancelled)
            ∙ (and_parts (v.flag canon && not (is_sync slot_found.left.task.kind)) (is_asked slot_found.left.task.cancellation) all).1) st,
      ))
      (λ no. by_what_is_ready set x is_x few a))

  abbrev tested : ℕ → Held → Done Flow
  tested set k =
      if not (nat_eq (place % 4) 0) then Traps trap.Misaligned k else
      if nat_lt (length (bytes_at (places.memory_of (v.options canon) k) k.store)) (place + 8) then Traps trap.Bounds k else waited v t at canon op word place set k

  abbrev turned : ℕ → ℕ → Turn
  turned set p =
      unless t (not (nat_eq (p % 4) 0)) trap.Misaligned w
      (unless t (not (nat_le (p + 8) (length (bytes_of w.store (memory_of w.store (options_at g canon)))))) trap.Bounds w
      (if is_cancelled g task canon then delivering.received_cancel g t f (InWait canon words) w else machine.by_ready g t f op canon words set (ready w at set) w))

  on_tests : (set : ℕ) (x : InstanceView) → slice_get h.instances at ≡ Some x → nat_lt set (length x.sets) ≡ true
      → AgreesOn g values s t h.labels stacks (tested set h) (event_turn g t task f at op canon words set w)
  unfolding event_turn
  on_tests set x is_x few =
      let bytes : List ℕ = bytes_of w.store (memory_of w.store (options_at g canon)) in
      let same : bytes_at (places.memory_of (v.options canon) h) h.store ≡ bytes =
      ap (λ (o : Options). bytes_at (places.memory_of o h) h.store) (sees.options canon) ∙ memory_alike h w (options_at g canon) has st.same_store in
      on_as g values s t h.labels stacks _ _ _ (turned set place) refl (ap (turned set) (word_is words 1 place is_place))
      (on_test_on g values s t h stacks (not (nat_eq (place % 4) 0)) (not (nat_eq (place % 4) 0)) _ _ _ _ refl (λ odd. (0, on_trap g values s t h.labels stacks h w trap.Misaligned refl st))
      (λ even.
      on_test_on g values s t h stacks (nat_lt (length (bytes_at (places.memory_of (v.options canon) h) h.store)) (place + 8)) (not (nat_le (place + 8) (length bytes))) _ _ _ _
      (ap (λ (bs : List ℕ). nat_lt (length bs) (place + 8)) same ∙ not_less (length bytes) (place + 8))
      (λ outside. (0, on_trap g values s t h.labels stacks h w trap.Bounds refl st))
      (λ inside.
      waits_so set x is_x few
      (heard_by (subst (λ (bs : List ℕ). place + 8 ≤ length bs) same
      (ltb-false (length (bytes_at (places.memory_of (v.options canon) h) h.store)) (place + 8) inside))))))

  on_set : (x : InstanceView) (y : Inst) (r : Result ℕ Refusal) → slice_get h.instances at ≡ Some x → slice_get w.insts at ≡ Some y → InstStands values x y
      → entries.set_in (entry_of x word) ≡ r
      → AgreesOn g values s t h.labels stacks (after (named r h) tested) (unless_refused t (renamed refusal_name r) w (λ set. event_turn g t task f at op canon words set w))
  on_set x y (Err why) is_x is_y alike r_is = (
    0,
    on_named g values s t h.labels stacks h w (let r : Result ℕ Refusal = Err why in r) tested (λ set. event_turn g t task f at op canon words set w) refl st
        (λ set e. absurd (let w : ⊥ = cc in w)),
  )
  on_set x y (Ok set) is_x is_y alike r_is =
      on_tests set x is_x (few_sets values x y word set alike (subst HasItsSets (some_same (sym is_inst ∙ is_y)) sets) r_is)

  set_waited : AgreesOn g values s t h.labels stacks (set_wait v t at canon op words h) (wait_turn g t task at op canon words w)
  unfolding set_wait wait_turn
  set_waited =
      let i : IsFound (InstStands values) (slice_get h.instances at) (slice_get w.insts at) = found_both (InstStands values) h.instances w.insts at st.are_instances (ap is_some is_inst) in
      let x : InstanceView = i.left in
      on_as g values s t h.labels stacks _ (after (named (entries.set_in (entry_of x word)) h) tested) _
      (unless_refused t (renamed refusal_name (entries.set_in (entry_of x word))) w (λ set. event_turn g t task f at op canon words set w))
      (ap (λ (o : Option ℕ). given o (λ index. given (word_in words 1) (λ place. after (set_found at index h) (λ set k.
      if not (nat_eq (place % 4) 0) then Traps trap.Misaligned k else
      if nat_lt (length (bytes_at (places.memory_of (v.options canon) k) k.store)) (place + 8) then Traps trap.Bounds k else waited v t at canon op index place set k)))) is
      ∙ ap (λ (o : Option ℕ). given o (λ place. after (set_found at word h) (λ set k.
      if not (nat_eq (place % 4) 0) then Traps trap.Misaligned k else
      if nat_lt (length (bytes_at (places.memory_of (v.options canon) k) k.store)) (place + 8) then Traps trap.Bounds k else waited v t at canon op word place set k))) is_place
      ∙ ap (λ (o : Option InstanceView). after (given o (λ i. named (entries.set_in (entry_of i word)) h)) tested) i.is_left)
      (ap (λ (n : ℕ). unless_refused t (found.set_at w at n) w (λ set. turns.given (func_of task.callee) (λ f. event_turn g t task f at op canon words set w))) (word_is words 0 word is)
      ∙ ap (λ (o : Option Inst). unless_refused t (found.set_in (live (table_in o) word)) w (λ set. turns.given (func_of task.callee) (λ f. event_turn g t task f at op canon words set w))) i.is_right
      ∙ ap (λ (r : Result ℕ TrapName). unless_refused t r w (λ set. turns.given (func_of task.callee) (λ f. event_turn g t task f at op canon words set w)))
      (set_alike values (entry_of x word) (live i.right.table word) (entries_are_alike values x i.right word i.alike))
      ∙ ap (λ (o : Option Lifted). unless_refused t (renamed refusal_name (entries.set_in (entry_of x word))) w (λ set. turns.given o (λ one. event_turn g t task one at op canon words set w))) runs)
      (on_set x i.right (entries.set_in (entry_of x word)) i.is_left i.is_right i.alike refl)

pub set_is_waited_for : SetIsWaitedFor
set_is_waited_for g values s v h stacks w t canon word place op task f inst words sees callbacks is is_place keeps has first there acts runs is_inst sets has_news st =
    set_waited g values s v h stacks w t canon word place op task f inst words sees callbacks is is_place keeps has first there acts runs is_inst sets has_news st
