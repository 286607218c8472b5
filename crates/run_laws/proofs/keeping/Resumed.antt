-- A task that goes on in its loop, or behind a wait on a set or a yield, keeps all marks.
use Rattle.std.proofs.Common.{◌≡◌, ℕ, ◌+◌, nat_eq, Bool, true, false, ◌&&◌, if◌then◌else◌, length, slice_set, refl, sym, ap, ◌∙◌, subst, Option, Some, None}
use Rattle.std.specs.Prelude.{Result, Ok, Err}
use Rattle.std.specs.List.{slice_get}
use Rattle.std.proofs.lemmas.Bool.{ltb-true}
use Rattle.entry_gate.specs.Callbacks.{callback_of}
use Rattle.entry_gate.specs.declared.callback.BadCode.{BadCode}
use Rattle.entry_gate.specs.declared.callback.Next.{Next}
use Rattle.entry_gate.specs.declared.callback.Next.TheVariants as next
use Rattle.entry_gate.specs.Gates.{GateView, held_by}
use Rattle.entry_gate.specs.Kinds.{needs_entry}
use Rattle.waitables.specs.Sets.{set_at, waited_off}
use Rattle.tasks.specs.declared.event.BlockedAt.TheVariants as blocked_at
use Rattle.tasks.specs.declared.event.TaskEvent.TheVariants as event
use Rattle.tasks.specs.declared.phase.Phase.TheVariants as phase
use Rattle.tasks.specs.Tasks as tasks
use Rattle.tasks.specs.Tasks.{is_asked, waits_inside}
use Rattle.tasks.specs.Views.{TaskView}
use Rattle.instances.specs.declared.entry.WorldEntry.{WorldEntry}
use Rattle.instances.specs.declared.entry.WorldEntry.TheVariants as entry
use Rattle.instances.specs.Calls.{is_there, has_waiter}
use Rattle.instances.specs.Instances.{InstanceView, entry_of, with_sets, with_gate}
use Rattle.task_table.specs.declared.slot.TaskSlot.{TaskSlot}
use Rattle.task_table.specs.Slots as slots
use Rattle.task_table.specs.Slots.{event_answer, advanced_slot, waits_on, waits_directly_at, next_waits_on}
use Rattle.world_parts.specs.Held.{Held, Gives, Stuck, after, given}
use Rattle.world_parts.specs.Entries.{with_instance, set_number, set_waited_off}
use Rattle.world_parts.specs.Gates.{gate_taken_back}
use Rattle.world_parts.specs.Slots.{with_task, happened, happens}
use Rattle.world_parts.specs.Going.{loop_flow, loop_resumed_at, loop_resumed_by, loop_resumed}
use Rattle.abi_machine.proofs.sound.Found.{some_same}
use Rattle.standing.specs.KeptMarks.{runs_func, runs_at, place_in}
use Rattle.standing.specs.MarksKept.{StandOnce}
use Rattle.standing.proofs.Agreeing.{get_set}
use Rattle.standing.proofs.States.{states_stay, going_stays}
use Rattle.run_laws.specs.keeping.Kept.{MarksStay, KeepsMarks}
use Rattle.run_laws.proofs.keeping.Every.{look_every, tested_every, at_every}
use Rattle.run_laws.proofs.keeping.Alike.{waits_alike, set_twice}
use Rattle.run_laws.proofs.keeping.Entry.{GateSeen}
use Rattle.run_laws.proofs.keeping.GateSteps.{comes_back}
use Rattle.run_laws.proofs.keeping.OnSets.{counts_at, counts_not, counts_there, ceases_on}
use Rattle.run_laws.proofs.keeping.Moves.{alike_marks, acted_every}
use Rattle.run_laws.proofs.keeping.Going.{runs_own, none_counted}

-- The task once it goes on.
unfoldable pub gone_on : TaskSlot → TaskSlot
gone_on x = slots.with_task (tasks.after event.Go x.task) x

-- A task in its loop, in an instance that is there, which needs entry that none holds.
pub record InItsLoop (h : Held) (t word : ℕ) (x : TaskSlot) (i : InstanceView) : Type 0 where
  pub flag : Bool
  pub is : slice_get h.tasks t ≡ Some x
  pub here : slice_get h.instances x.instance ≡ Some i
  pub runs : runs_func x.callee ≡ true
  pub far : x.task.phase ≡ phase.Blocked (blocked_at.Loop word) flag
  pub needs : needs_entry x.task.kind ≡ true
  pub free : i.gate.holder ≡ None

-- It is inside again: its sets are these.
back_inside : (h k : Held) (t word : ℕ) (x : TaskSlot) (i j : InstanceView) → InItsLoop h t word x i → k.tasks ≡ slice_set h.tasks t (gone_on x) → k.instances ≡ slice_set h.instances x.instance j
    → j.gate ≡ held_by t i.gate → j.slots ≡ i.slots
    → ((index set : ℕ) → entry_of i index ≡ Some (entry.Set set)
    → (set_at j.sets set).waiters + counts_at x.instance index x ≡ (set_at i.sets set).waiters + counts_at x.instance index (gone_on x)) → MarksStay h k
unfolding gone_on
back_inside h k t word x i j l tasks_are insts_are gate slots_are sets =
    let later : TaskView = tasks.after event.Go x.task in
    let y : TaskSlot = slots.with_task later x in
    alike_marks h k t x.instance x y i j
    (record {
      is = l.is;
      here = l.here;
      runs = runs_own x l.runs;
      same = λ n. refl;
      gate = λ seen.
          subst (λ (g : GateView). GateSeen (slice_set h.tasks t y) x.instance g) (sym gate)
          (comes_back h.tasks t x.instance x y i.gate (record { is = l.is; runs = runs_own x l.runs; still = runs_own x l.runs; kind = refl; was = ap place_in l.far; place = refl }) l.needs l.free seen);
      slots = slots_are;
      sets = λ index set stood marked. sets index set stood;
    })
    tasks_are insts_are (waits_alike x y refl refl refl refl (λ index. sym (ap (waits_directly_at index) l.far)))
    (states_stay t x later (going_stays x.task (ap waits_inside l.far)))

-- It waited on no set, or on the one at an index.
waited_on_none : (at index word : ℕ) (x : TaskSlot) (flag : Bool) → x.task.phase ≡ phase.Blocked (blocked_at.Loop word) flag → callback_of word ≡ Ok next.Yield → counts_at at index x ≡ 0
waited_on_none at index word x flag far e = counts_not at index x (ap (waits_on index) far ∙ ap (next_waits_on index) e)

goes_on_none : (at index : ℕ) (x : TaskSlot) → counts_at at index (gone_on x) ≡ 0
unfolding gone_on
goes_on_none at index x = counts_not at index (slots.with_task (tasks.after event.Go x.task) x) refl

waited_on_one : (at index n word : ℕ) (x : TaskSlot) (flag : Bool) → runs_at at x ≡ true → x.task.phase ≡ phase.Blocked (blocked_at.Loop word) flag
    → ((m : ℕ) → next_waits_on m (callback_of word) ≡ nat_eq index m) → counts_at at n x ≡ (if nat_eq index n then 1 else 0)
waited_on_one at index n word x flag runs far e = counts_there at n x (nat_eq index n) runs (ap (waits_on n) far ∙ e n)

pub both_so : (b c : Bool) → (b && c) ≡ true → (b ≡ true) × (c ≡ true)
both_so true c e = (refl, e)
both_so false c e = absurd (cc)

pub set_of : (o : Option WorldEntry) (set : ℕ) → set_number o ≡ Some set → o ≡ Some (entry.Set set)
set_of None set e = absurd (cc)
set_of (Some (entry.Handle x)) set e = absurd (cc)
set_of (Some (entry.Subtask callee)) set e = absurd (cc)
set_of (Some (entry.Set other)) set e = ap (λ (n : ℕ). Some (entry.Set n)) (some_same e)
set_of (Some (entry.End x)) set e = absurd (cc)

-- What is kept once it has gone on and has entry again.
back_held : (h : Held) (t : ℕ) (x : TaskSlot) (i : InstanceView) → Held
back_held h t x i = with_instance x.instance (with_gate (held_by t i.gate) i) (with_task t (gone_on x) h)

loops_at_set : (h : Held) (t word index : ℕ) (asked polls : Bool) (x : TaskSlot) (i : InstanceView) → InItsLoop h t word x i → StandOnce i
    → ((m : ℕ) → next_waits_on m (callback_of word) ≡ nat_eq index m) → KeepsMarks h (loop_resumed_at x.instance asked polls index (back_held h t x i))
unfolding loop_resumed_at back_held
loops_at_set h t word index asked polls x i l once e =
    let i1 : InstanceView = with_gate (held_by t i.gate) i in
    let m : Held = with_instance x.instance i1 (with_task t (gone_on x) h) in
    let there : slice_get m.instances x.instance ≡ Some i1 = get_set h.instances x.instance i i1 l.here in
    at_every h (slice_get m.instances x.instance) i1 (λ j. given (set_number (entry_of j index)) (λ set. Gives set m))
    (λ set k. after (set_waited_off x.instance set k) (λ done n. Gives (loop_flow asked polls set) n)) there
    (look_every h (set_number (entry_of i1 index)) (λ set. Gives set m) (λ set k. after (set_waited_off x.instance set k) (λ done n. Gives (loop_flow asked polls set) n))
    (λ set found.
    at_every h (slice_get m.instances x.instance) i1
    (λ j. if is_there set j.sets && has_waiter set j.sets then Gives tt (with_instance x.instance (with_sets (waited_off set j.sets) j) m) else Stuck)
    (λ done n. Gives (loop_flow asked polls set) n) there
    (tested_every h (is_there set i1.sets && has_waiter set i1.sets) (Gives tt (with_instance x.instance (with_sets (waited_off set i1.sets) i1) m)) (λ done n. Gives (loop_flow asked polls set) n)
    (λ may.
    let i2 : InstanceView = with_sets (waited_off set i1.sets) i1 in
    let both : (is_there set i.sets ≡ true) × (has_waiter set i.sets ≡ true) = both_so (is_there set i.sets) (has_waiter set i.sets) may in
    back_inside h (with_instance x.instance i2 m) t word x i i2 l refl (set_twice h.instances x.instance i1 i2) refl refl
    (λ n number stood.
    ceases_on i x.instance index set x (gone_on x) (ltb-true set (length i.sets) both.0) (set_of (entry_of i index) set found) once (ltb-true 0 ((set_at i.sets set).waiters) both.1)
    (λ k. waited_on_one x.instance index k word x l.flag (runs_own x l.runs) l.far e) (λ k. goes_on_none x.instance k x) n number stood)))))

loops_by_word : (h : Held) (t word : ℕ) (asked : Bool) (x : TaskSlot) (i : InstanceView) (r : Result Next BadCode) → callback_of word ≡ r → InItsLoop h t word x i → StandOnce i
    → KeepsMarks h (loop_resumed_by x.instance asked r (back_held h t x i))
unfolding back_held
loops_by_word h t word asked x i (Err why) e l once = tt
loops_by_word h t word asked x i (Ok next.Exit) e l once = tt
loops_by_word h t word asked x i (Ok next.Yield) e l once =
    back_inside h (with_instance x.instance (with_gate (held_by t i.gate) i) (with_task t (gone_on x) h)) t word x i (with_gate (held_by t i.gate) i) l refl refl refl refl
    (λ index set stood. none_counted _ (waited_on_none x.instance index word x l.flag l.far e) (goes_on_none x.instance index x))
loops_by_word h t word asked x i (Ok (next.Wait index)) e l once = loops_at_set h t word index asked false x i l once (λ m. ap (next_waits_on m) e)
loops_by_word h t word asked x i (Ok (next.Poll index)) e l once = loops_at_set h t word index asked true x i l once (λ m. ap (next_waits_on m) e)

pub loop_resumed_marks : (t word : ℕ) (h : Held) (x : TaskSlot) → slice_get h.tasks t ≡ Some x → ((i : InstanceView) → slice_get h.instances x.instance ≡ Some i → InItsLoop h t word x i × StandOnce i)
    → KeepsMarks h (loop_resumed t x.instance word h)
unfolding loop_resumed gone_on back_held
loop_resumed_marks t word h x is loops =
    at_every h (slice_get h.tasks t) x (λ y. Gives (is_asked y.task.cancellation) h)
    (λ is_asked k. after (happens t event.Go k) (λ done l. after (gate_taken_back x.instance t l) (λ done m. loop_resumed_by x.instance is_asked (callback_of word) m))) is
    (at_every h (slice_get h.tasks t) x (λ z. happened (event_answer event.Go z.task) t (advanced_slot event.Go z) h)
    (λ done l. after (gate_taken_back x.instance t l) (λ done m. loop_resumed_by x.instance (is_asked x.task.cancellation) (callback_of word) m)) is
    (acted_every h h t event.Go x (λ done l. after (gate_taken_back x.instance t l) (λ done m. loop_resumed_by x.instance (is_asked x.task.cancellation) (callback_of word) m)) refl
    (λ may none.
    let l : Held = with_task t (slots.with_task (tasks.after event.Go x.task) x) h in
    look_every h (slice_get h.instances x.instance) (λ i. Gives tt (with_instance x.instance (with_gate (held_by t i.gate) i) l))
    (λ done m. loop_resumed_by x.instance (is_asked x.task.cancellation) (callback_of word) m)
    (λ i here. loops_by_word h t word (is_asked x.task.cancellation) x i (callback_of word) refl (loops i here).0 (loops i here).1))))
