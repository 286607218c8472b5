-- Built-ins answer, block or deliver an event: typed worlds are left. Copies, `task.return` and what calls a function are not among them.
use Rattle.std.proofs.Common.{◌≡◌, ◌∙◌, ◌<◌, ◌≤◌, inr, ◌&&◌, ◌+◌, ◌-◌, ◌%◌, ◌^◌, ℕ, zero, suc, Bool, true, false, not, List, [], ◌∷◌, length, refl, sym, ap, arith, Option, Some}
use Rattle.std.proofs.lemmas.Bool.Decides.{nat_tests}
use Rattle.std.specs.Prelude.{slice_index, nat_eq, nat_le}
use Rattle.std.specs.List.{slice_get}
use Rattle.syntax_trees.specs.declared.module_types.ValType.TheVariants.{I32}
use Rattle.syntax_trees.specs.declared.types.ValType.{ValType}
use Rattle.builtin_kinds.specs.declared.EndKind.{EndKind}
use Rattle.builtin_kinds.specs.declared.EndKind.TheVariants.{Stream, Future}
use Rattle.builtin_kinds.specs.declared.WaitOp.{WaitOp}
use Rattle.builtin_kinds.specs.declared.WaitOp.TheVariants as wait_op
use Rattle.waitables.specs.Sets.{drop_answer}
use Rattle.stream_ends.specs.declared.side.Side.{Side}
use Rattle.stream_ends.specs.declared.side.Side.TheVariants.{Reader, Writer}
use Rattle.stream_ends.specs.Ends.{is_copying}
use Rattle.tasks.specs.Tasks.{is_asked, is_sync}
use Rattle.tasks.specs.Subtasks.{is_over}
use Rattle.comp_graph.specs.declared.graph.CanonFunc.{CanonFunc}
use Rattle.comp_graph.specs.Graph.{Graph, Lifted, canon_type}
use Rattle.trace_labels.specs.declared.label.BlockReason.TheVariants as reason
use Rattle.trace_labels.specs.declared.trap.TrapName.TheVariants as trap
use Rattle.abi_machine.specs.Control.{EndRef, InWait}
use Rattle.abi_machine.specs.World.{OwnHandle, OfSet, OfEnd, Subtask, ForYield, ForSet, InBuiltin, Task, World}
use Rattle.abi_machine.specs.Edits.{entry_removed, left_set, joined, set_made, with_backpressure, channel_made}
use Rattle.abi_machine.specs.Canons.{canon_at, memory_of, bytes_of, options_at, flag_at}
use Rattle.abi_machine.specs.Reading.{sets_in, backpressure_of, channels, func_of, kind_of}
use Rattle.abi_machine.specs.Counting.{passes, end_of, ready}
use Rattle.abi_machine.specs.Finding.{subtask_at, set_at, waitable_at, end_at}
use Rattle.abi_machine.specs.Traps.{set_name, renamed}
use Rattle.abi_machine.specs.Turn.{replied, with_entry}
use Rattle.abi_machine.specs.replies.Pressure.{most_backpressure, pressure_inc_turn, pressure_dec_turn, pressure_set_turn}
use Rattle.abi_machine.specs.replies.Resources.{resource_new_turn}
use Rattle.abi_machine.specs.replies.Subtasks.{subtask_drop_turn}
use Rattle.abi_machine.specs.replies.Tasks.{yield_turn}
use Rattle.abi_machine.specs.replies.Waiting.{event_size, event_align, is_cancelled, view_of_set, set_new_turn, none_ready, by_ready, event_turn, wait_turn, set_drop_turn, joins, join_turn}
use Rattle.abi_machine.specs.replies.Streams.{both_indices, end_ref, is_async_copy, is_unwritten, ends_added, channel_new_turn, copy_cancel_turn, end_drop_turn}
use Rattle.abi_machine.specs.sound.Firsts.{TaskIs}
use Rattle.abi_machine.specs.sound.Callees.{IsUsedGraph}
use Rattle.abi_machine.specs.sound.TypedStacks.{WaitsTyped}
use Rattle.abi_machine.specs.sound.TypedWorlds.{GivesWord, HasEventRoom}
use Rattle.abi_machine.proofs.sound.Found.{some_same}
use Rattle.abi_machine.proofs.sound.worlds.Grounds.{NotSync}
use Rattle.abi_machine.proofs.sound.worlds.Turns.{Good, given_good, either_good, unless_good, refused_good, subtask_good, At, replied_good, blocked_good, at_inst, at_removed, at_left, at_channel, entry_good}
use Rattle.abi_machine.proofs.sound.worlds.Waking.{Receives, none_received_good, cancel_received_good}
use Rattle.abi_machine.proofs.sound.worlds.Resuming.{yield_good}

-- A canonical function that gives back one i32.
pub gives_word : (g : Graph) (number : ℕ) (c : CanonFunc) → canon_at g number ≡ Some c → (canon_type c).results ≡ I32 ∷ [] → GivesWord g number
gives_word g number c at one other there = ap (λ (x : CanonFunc). (canon_type x).results) (some_same (sym there ∙ at)) ∙ one

and_right : (a b c : Bool) → (a && b && c) ≡ true → c ≡ true
and_right true true c h = h
and_right true false c h = cc
and_right false b c h = cc

le_not : (a b : ℕ) → not (nat_le a b) ≡ false → a ≤ b
le_not a b h = by (nat_le a b) refl h
  where
    by : (t : Bool) → nat_le a b ≡ t → not t ≡ false → a ≤ b
    by true e k = grind (arith, nat_tests)
    by false e k = cc

module _ (g : Graph) (P : List ℕ → Type 0) where
  pub at_made : (w : World) (t : ℕ) (kind : EndKind) (element : Option ValType) → At g P w t → At g P (channel_made kind element w) t
  at_made w t Stream element h = record { ground = h.ground; first = h.first; is = h.is }
  at_made w t Future element h = record { ground = h.ground; first = h.first; is = h.is }

  pub resource_new_good : (t i resource rep : ℕ) (w : World) → rep < 2 ^ 32 → At g P w t → Good g P (resource_new_turn t i resource rep w)
  unfolding resource_new_turn
  resource_new_good t i resource rep w low h = entry_good g P t i (OwnHandle resource rep) w (λ index v. replied t (index ∷ []) v) low h (λ index v k. replied_good g P t (index ∷ []) v k)

  pub subtask_drop_good : (t i index : ℕ) (w : World) → At g P w t → Good g P (subtask_drop_turn t i index w)
  unfolding subtask_drop_turn
  subtask_drop_good t i index w h =
      refused_good g P t (subtask_at w i index) w _ (λ callee e. subtask_good g P w callee _ (λ (task : Task) (subtask : Subtask) k j. unless_good g P t (not (is_over subtask.told)) trap.NotDelivered w _
      (λ over. replied_good g P t [] (left_set i index (entry_removed i index w)) (at_left g P (entry_removed i index w) t i index (at_removed g P w t i index h)))))

  pub pressure_inc_good : (t i : ℕ) (w : World) → At g P w t → Good g P (pressure_inc_turn t i w)
  unfolding pressure_inc_turn
  pressure_inc_good t i w h =
      unless_good g P t (nat_le most_backpressure (backpressure_of w i)) trap.PressureLimit w _ (λ e. replied_good g P t [] (with_backpressure i (backpressure_of w i + 1) w) (at_inst g P w t i _ (λ x. refl) h))

  pub pressure_dec_good : (t i : ℕ) (w : World) → At g P w t → Good g P (pressure_dec_turn t i w)
  unfolding pressure_dec_turn
  pressure_dec_good t i w h =
      unless_good g P t (nat_eq (backpressure_of w i) 0) trap.PressureZero w _ (λ e. replied_good g P t [] (with_backpressure i (backpressure_of w i - 1) w) (at_inst g P w t i _ (λ x. refl) h))

  pub pressure_set_good : (t i enabled : ℕ) (w : World) → At g P w t → Good g P (pressure_set_turn t i enabled w)
  unfolding pressure_set_turn
  pressure_set_good t i enabled w h = replied_good g P t [] _ (at_inst g P w t i _ (λ x. refl) h)

  pub set_new_good : (t i : ℕ) (w : World) → At g P w t → Good g P (set_new_turn t i w)
  unfolding set_new_turn
  set_new_good t i w h =
      entry_good g P t i (OfSet (length (sets_in (slice_get w.insts i)))) w (λ index v. replied t (index ∷ []) (set_made i v)) tt h (λ index v k. replied_good g P t (index ∷ []) (set_made i v) (at_inst g P v t i _ (λ x. refl) k))

  pub set_drop_good : (t i index : ℕ) (w : World) → At g P w t → Good g P (set_drop_turn t i index w)
  unfolding set_drop_turn
  set_drop_good t i index w h =
      refused_good g P t (set_at w i index) w _ (λ set e. refused_good g P t (renamed set_name (drop_answer (view_of_set w i index set))) w (λ done. replied t [] (entry_removed i index w))
      (λ done k. replied_good g P t [] (entry_removed i index w) (at_removed g P w t i index h)))

  joins_good : (t i index other : ℕ) (w : World) → At g P w t → Good g P (joins t i index other w)
  unfolding joins
  joins_good t i index zero w h = replied_good g P t [] (left_set i index w) (at_left g P w t i index h)
  joins_good t i index (suc other) w h = refused_good g P t (set_at w i (suc other)) w _ (λ set e. replied_good g P t [] (joined i index set w) (at_inst g P w t i _ (λ x. refl) h))

  pub join_good : (t i index other : ℕ) (w : World) → At g P w t → Good g P (join_turn t i index other w)
  unfolding join_turn
  join_good t i index other w h = refused_good g P t (waitable_at w i index) w _ (λ there e. joins_good t i index other w h)

  pub channel_new_good : (t i : ℕ) (kind : EndKind) (element : Option ValType) (w : World) → At g P w t → Good g P (channel_new_turn t i kind element w)
  unfolding channel_new_turn ends_added
  channel_new_good t i kind element w h =
      let made : ℕ = length (channels kind w) + 1 in
      entry_good g P t i (OfEnd (end_ref kind made Reader)) (channel_made kind element w) (λ readable x. with_entry t i (OfEnd (end_ref kind made Writer)) x (λ writable y. replied t (both_indices readable writable ∷ []) y)) tt (at_made w t kind element h)
      (λ readable x k. entry_good g P t i (OfEnd (end_ref kind made Writer)) x (λ writable y. replied t (both_indices readable writable ∷ []) y) tt k (λ writable y j. replied_good g P t (both_indices readable writable ∷ []) y j))

  pub copy_cancel_good : (t i : ℕ) (kind : EndKind) (side : Side) (element : Option ValType) (index : ℕ) (w : World) → At g P w t → Good g P (copy_cancel_turn g t i kind side element index w)
  unfolding copy_cancel_turn
  copy_cancel_good t i kind side element index w h =
      refused_good g P t (end_at w kind side element i index) w _ (λ (e : EndRef) k. unless_good g P t (not (passes (is_async_copy g) (end_of w e).copy)) trap.NotCopying w _
      (λ copies. replied_good g P t _ _ (at_channel g P w t e.kind e.number _ h)))

  pub end_drop_good : (t i : ℕ) (kind : EndKind) (side : Side) (element : Option ValType) (index : ℕ) (w : World) → At g P w t → Good g P (end_drop_turn t i kind side element index w)
  unfolding end_drop_turn
  end_drop_good t i kind side element index w h =
      refused_good g P t (end_at w kind side element i index) w _ (λ (e : EndRef) k. unless_good g P t (is_copying (end_of w e)) trap.Busy w _
      (λ idle. unless_good g P t (is_unwritten kind side (end_of w e)) trap.UnwrittenFuture w _
      (λ done. replied_good g P t [] _ (at_channel g P (left_set i index (entry_removed i index w)) t e.kind e.number _ (at_left g P (entry_removed i index w) t i index (at_removed g P w t i index h))))))

  module _ (used : IsUsedGraph g) where
    pub yielding_good : (t : ℕ) (task : Task) (number : ℕ) (cancellable : Bool) (words : List ℕ) (w : World) → (is_asked task.cancellation ≡ true → (x : Task) → slice_get w.tasks t ≡ Some x → NotSync g x) → GivesWord g number
        → TaskIs w.tasks t (λ x. WaitsTyped g w.store number x) → At g P w t → Good g P (yield_turn t task number cancellable words w)
    unfolding yield_turn
    yielding_good t task number cancellable words w apart gives waits h =
        either_good g P (cancellable && is_asked task.cancellation) _ _ (λ e. yield_good g P used t w (apart (right cancellable (is_asked task.cancellation) e)) h)
        (λ e. blocked_good g P t (InBuiltin number words ForYield) reason.Yield w h.ground waits gives)
      where
        right : (a b : Bool) → (a && b) ≡ true → b ≡ true
        right true b k = k
        right false b k = cc

    none_ready_good : (t : ℕ) (f : Lifted) (op : WaitOp) (number : ℕ) (words : List ℕ) (w : World) → GivesWord g number → TaskIs w.tasks t (λ x. WaitsTyped g w.store number x) → Receives g P used f (InWait number words) w t
        → Good g P (none_ready g t f op number words w)
    unfolding none_ready
    none_ready_good t f wait_op.Poll number words w gives waits h = none_received_good g P used t f (InWait number words) w h
    none_ready_good t f wait_op.Wait number words w gives waits h = blocked_good g P t (InBuiltin number words (ForSet (slice_index words 0))) (reason.Wait (slice_index words 0)) w h.0.ground waits (gives, h.1)

    by_ready_good : (t : ℕ) (f : Lifted) (op : WaitOp) (number : ℕ) (words : List ℕ) (set : ℕ) (members : List ℕ) (w : World) → GivesWord g number → TaskIs w.tasks t (λ x. WaitsTyped g w.store number x) → Receives g P used f (InWait number words) w t
        → Good g P (by_ready g t f op number words set members w)
    unfolding by_ready
    by_ready_good t f op number words set [] w gives waits h = none_ready_good t f op number words w gives waits h
    by_ready_good t f op number words set (index ∷ members) w gives waits h = λ a inside. inr (record { ground = h.0.ground; acts = (t, h.0.first, (waits.0, waits.1, (waits.2, gives, h.1))) })

    pub waiting_good : (t : ℕ) (task : Task) (i : ℕ) (op : WaitOp) (number : ℕ) (words : List ℕ) (w : World) → (is_asked task.cancellation ≡ true → (x : Task) → slice_get w.tasks t ≡ Some x → NotSync g x) → GivesWord g number
        → TaskIs w.tasks t (λ x. WaitsTyped g w.store number x) → At g P w t → Good g P (wait_turn g t task i op number words w)
    unfolding wait_turn event_turn
    waiting_good t task i op number words w apart gives waits h =
        refused_good g P t (set_at w i (slice_index words 0)) w _ (λ set e. given_good g P (func_of task.callee) _ (λ (f : Lifted) k.
        unless_good g P t (not (nat_eq (slice_index words 1 % event_align) 0)) trap.Misaligned w _
        (λ aligned. unless_good g P t (not (nat_le (slice_index words 1 + event_size) (length (bytes_of w.store (memory_of w.store (options_at g number)))))) trap.Bounds w _
        (λ inside. (let room : HasEventRoom g w.store number words = le_not (slice_index words 1 + event_size) (length (bytes_of w.store (memory_of w.store (options_at g number)))) inside in
        either_good g P (is_cancelled g task number) _ _ (λ c. cancel_received_good g P used t f (InWait number words) w (apart (and_right (flag_at g number) (not (is_sync (kind_of task))) (is_asked task.cancellation) c)) (h, room))
        (λ c. by_ready_good t f op number words set (ready w i set) w gives waits (h, room)))))))
