-- What may be done, and which members are ready, depends neither on the units, picks and items that are used, nor on the chain and on what comes next;
-- so the alternative that is picked is there.
use Rattle.std.proofs.Common.{◌≡◌, ◌<◌, ℕ, zero, suc, ◌%◌, Bool, true, false, not, ◌&&◌, ◌||◌, List, [], ◌∷◌, length, map, filter, refl, sym, ap, ◌∙◌, subst, arith, Option, Some, None, Result, Ok, Err, if◌then◌else◌}
use Rattle.std.proofs.lemmas.Nat.{mod_below}
use Rattle.std.specs.Prelude.{IsSome, slice_index}
use Rattle.std.specs.List.{slice_get, range_with_len}
use Rattle.handle_table.specs.History.{greatest}
use Rattle.waitables.specs.Sets.{ready_of, is_none}
use Rattle.stream_ends.specs.declared.stream_end.End.{End}
use Rattle.stream_ends.specs.Ends.{is_pending}
use Rattle.builtin_kinds.specs.declared.EndKind.{EndKind}
use Rattle.builtin_kinds.specs.declared.EndKind.TheVariants.{Stream, Future}
use Rattle.choices.specs.Drawing.{Drawn, uses_one, drawn_answer}
use Rattle.entry_gate.specs.Callbacks.{callback_of}
use Rattle.entry_gate.specs.declared.callback.BadCode.{BadCode}
use Rattle.entry_gate.specs.declared.callback.Next.{Next}
use Rattle.entry_gate.specs.declared.callback.Next.TheVariants as next
use Rattle.tasks.specs.Tasks.{is_asked, is_cancellable}
use Rattle.comp_graph.specs.Graph.{Graph, Lifted}
use Rattle.script_reader.specs.Script.{Script}
use Rattle.abi_machine.specs.Control.{EndRef, Control}
use Rattle.abi_machine.specs.World.{Entry, OwnHandle, BorrowHandle, OfSubtask, OfSet, OfEnd, Wait, ForYield, ForSet, ForCall, ForCopy, ForCancel, TaskState, New, Acting, AfterCall, AfterCancel, Begins, WaitsToEnter, InLoop, InBuiltin, Exited, Channel, Task, World}
use Rattle.abi_machine.specs.Canons.{flag_at}
use Rattle.abi_machine.specs.Reading.{table_of, entry_at, members_of, numbered, channels, func_of, kind_of, with_numbers}
use Rattle.abi_machine.specs.Counting.{passes, blocked_at_of, channel_end, end_of, entry_has_event, is_waited_for, has_news, ready}
use Rattle.abi_machine.specs.Edits.{set_view}
use Rattle.abi_machine.specs.Gate.{is_entry_free}
use Rattle.abi_machine.specs.Finding.{set_number, found_end}
use Rattle.abi_machine.specs.Scheduling.{is_some_ready, wait_is_over, loop_is_over, is_able_in, is_able, able, Alternative, GoesOn, item_first, alternatives}

pub filter_same : {A : Type 0} (p q : A → Bool) (xs : List A) → ((x : A) → p x ≡ q x) → filter p xs ≡ filter q xs
filter_same p q [] same = refl
filter_same p q (x ∷ xs) same =
    ap (λ (b : Bool). if b then x ∷ filter p xs else filter p xs) (same x) ∙ ap (λ (l : List _). if q x then x ∷ l else l) (filter_same p q xs same)

-- The same world, but for the chain, what comes next, and how many units, picks and items are used.
module _ (w : World) (chain : List ℕ) (control : Control) (units picks taken : ℕ) where
  abbrev pub later : World
  later = record w { chain = chain; control = control; units = units; picks = picks; taken = taken }

  channels_same : (kind : EndKind) → channels kind later ≡ channels kind w
  channels_same Stream = refl
  channels_same Future = refl

  end_same : (e : EndRef) → end_of later e ≡ end_of w e
  end_same e = ap (λ (all : List Channel). channel_end e.side (numbered all e.number)) (channels_same e.kind)

  event_same : (o : Option Entry) → entry_has_event later o ≡ entry_has_event w o
  event_same None = refl
  event_same (Some (OwnHandle resource rep)) = refl
  event_same (Some (BorrowHandle resource rep task)) = refl
  event_same (Some (OfSubtask callee)) = refl
  event_same (Some (OfSet set)) = refl
  event_same (Some (OfEnd e)) = ap (λ (x : End). is_pending x) (end_same e)

  news_same : (i index : ℕ) → has_news later i index ≡ has_news w i index
  news_same i index = ap (λ (b : Bool). b && not (is_waited_for w i index)) (event_same (entry_at w i index))

  pub ready_same : (i set : ℕ) → ready later i set ≡ ready w i set
  ready_same i set =
      ap (λ (l : List ℕ). ready_of l (set_view (members_of w i set)))
      (filter_same (has_news later i) (has_news w i) (range_with_len 1 (greatest (table_of w i))) (λ index. news_same i index))

  some_ready : (i : ℕ) (o : Option ℕ) → passes (λ set. not (is_none (ready later i set))) o ≡ passes (λ set. not (is_none (ready w i set))) o
  some_ready i None = refl
  some_ready i (Some set) = ap (λ (l : List ℕ). not (is_none l)) (ready_same i set)

  pub some_ready_same : (i index : ℕ) → is_some_ready later i index ≡ is_some_ready w i index
  some_ready_same i index = some_ready i (set_number w i index)

  copy_over : (o : Option EndRef) → passes (λ e. is_pending (end_of later e)) o ≡ passes (λ e. is_pending (end_of w e)) o
  copy_over None = refl
  copy_over (Some e) = ap (λ (x : End). is_pending x) (end_same e)

  wait_same : (g : Graph) (i : ℕ) (task : Task) (number : ℕ) (wait : Wait) → wait_is_over g later i task number wait ≡ wait_is_over g w i task number wait
  wait_same g i task number ForYield = refl
  wait_same g i task number (ForSet index) =
      ap (λ (b : Bool). b || (is_asked task.cancellation && is_cancellable (is_entry_free w i) (kind_of task) (blocked_at_of (ForSet index)) (flag_at g number))) (some_ready_same i index)
  wait_same g i task number (ForCall callee) = refl
  wait_same g i task number (ForCopy index) = copy_over (found_end w i index)
  wait_same g i task number (ForCancel index) = refl

  loop_same : (i : ℕ) (task : Task) (r : Result Next BadCode) → loop_is_over later i task r ≡ loop_is_over w i task r
  loop_same i task (Ok next.Exit) = refl
  loop_same i task (Ok next.Yield) = refl
  loop_same i task (Ok (next.Wait index)) = ap (λ (b : Bool). b || is_asked task.cancellation) (some_ready_same i index)
  loop_same i task (Ok (next.Poll index)) = refl
  loop_same i task (Err why) = refl

  able_in_same : (g : Graph) (i : ℕ) (task : Task) (state : TaskState) → is_able_in g later i task state ≡ is_able_in g w i task state
  able_in_same g i task New = refl
  able_in_same g i task Acting = refl
  able_in_same g i task (AfterCall callee number words) = refl
  able_in_same g i task (AfterCancel callee number words) = refl
  able_in_same g i task (Begins n) = refl
  able_in_same g i task WaitsToEnter = refl
  able_in_same g i task (InLoop word) = ap (λ (b : Bool). is_entry_free w i && b) (loop_same i task (callback_of word))
  able_in_same g i task (InBuiltin number words wait) = wait_same g i task number wait
  able_in_same g i task Exited = refl

  able_by : (g : Graph) (task : Task) (o : Option Lifted)
      → passes (λ (f : Lifted). is_able_in g later f.instance task task.state) o ≡ passes (λ (f : Lifted). is_able_in g w f.instance task task.state) o
  able_by g task None = refl
  able_by g task (Some f) = able_in_same g f.instance task task.state

  pub able_same : (g : Graph) → able g later ≡ able g w
  able_same g =
      ap (λ (l : List (ℕ × Task)). map (λ (x : ℕ × Task). x.0) l)
      (filter_same (λ (x : ℕ × Task). is_able g later x.1) (λ (x : ℕ × Task). is_able g w x.1) (with_numbers 0 w.tasks) (λ x. able_by g x.1 (func_of x.1.callee)))

pub alternatives_same : (w : World) (picks : ℕ) (control : Control) (g : Graph) (s : Script) → alternatives g s (record w { picks = picks; control = control }) ≡ alternatives g s w
alternatives_same w picks control g s = ap (λ (l : List ℕ). item_first (slice_get s.items w.taken) (map GoesOn l)) (able_same w w.chain control w.units picks w.taken g)

-- The answer of a choice is the number of an alternative.
below_if : (b : Bool) (m count : ℕ) → 0 < count → (if b then m % count else 0) < count
below_if true m count some = mod_below m count some
below_if false m count some = some

answer_below : (count : ℕ) (d : Drawn) → 0 < count → drawn_answer count d < count
answer_below count d some = below_if (uses_one count d) (slice_index d.given d.used) count some

there_below : {A : Type 0} (xs : List A) (n : ℕ) → n < length xs → IsSome (slice_get xs n)
there_below [] n few = absurd (omega (arith, few))
there_below (x ∷ xs) zero few = refl
there_below (x ∷ xs) (suc n) few = there_below xs n (omega (arith, few))

pub answer_there : {A : Type 0} (first : A) (others : List A) (d : Drawn) → IsSome (slice_get (first ∷ others) (drawn_answer (length (first ∷ others)) d))
answer_there first others d =
    let some : 0 < length (first ∷ others) = omega arith in
    there_below (first ∷ others) (drawn_answer (length (first ∷ others)) d) (answer_below (length (first ∷ others)) d some)

pub picked_there : (g : Graph) (s : Script) (w : World) (picks : ℕ) (control : Control) (first : Alternative) (others : List Alternative) (d : Drawn) → alternatives g s w ≡ first ∷ others
    → IsSome (slice_get (alternatives g s (record w { picks = picks; control = control })) (drawn_answer (length (first ∷ others)) d))
picked_there g s w picks control first others d are =
    subst (λ (all : List Alternative). IsSome (slice_get all (drawn_answer (length (first ∷ others)) d))) (sym (alternatives_same w picks control g s ∙ are)) (answer_there first others d)
