-- A task that blocks in its loop keeps all marks.
use Rattle.std.proofs.Common.{◌≡◌, ℕ, ◌+◌, nat_eq, nat_lt, true, false, if◌then◌else◌, List, length, slice_set, refl, sym, ap, ◌∙◌, subst, Option, Some, None}
use Rattle.std.specs.Prelude.{Result, Ok, Err}
use Rattle.std.specs.List.{slice_get}
use Rattle.std.proofs.lemmas.Bool.{ltb-true}
use Rattle.entry_gate.specs.Callbacks.{callback_of}
use Rattle.entry_gate.specs.declared.callback.BadCode.{BadCode}
use Rattle.entry_gate.specs.declared.callback.Next.{Next}
use Rattle.entry_gate.specs.declared.callback.Next.TheVariants as next
use Rattle.entry_gate.specs.Gates.{GateView, given_up}
use Rattle.entry_gate.specs.Stays.{InLoop}
use Rattle.waitables.specs.Sets.{set_at, waited_on}
use Rattle.tasks.specs.declared.event.BlockedAt.TheVariants as blocked_at
use Rattle.tasks.specs.declared.event.TaskEvent.TheVariants as event
use Rattle.tasks.specs.declared.phase.Phase.TheVariants as phase
use Rattle.tasks.specs.Tasks as tasks
use Rattle.tasks.specs.Tasks.{is_acting}
use Rattle.tasks.specs.Views.{TaskView}
use Rattle.instances.specs.declared.entry.WorldEntry.TheVariants as entry
use Rattle.instances.specs.Entries.{set_in}
use Rattle.instances.specs.Instances.{InstanceView, entry_of, with_sets, with_gate}
use Rattle.task_table.specs.declared.slot.TaskSlot.{TaskSlot}
use Rattle.task_table.specs.Slots as slots
use Rattle.task_table.specs.Slots.{event_answer, advanced_slot, waits_on, waits_directly_at, next_waits_on}
use Rattle.trace_labels.specs.declared.label.BlockReason.{BlockReason}
use Rattle.trace_labels.specs.declared.label.BlockReason.TheVariants as reason
use Rattle.trace_labels.specs.declared.label.Label.TheVariants as line
use Rattle.world_parts.specs.Held.{Held, Gives, Stuck, after}
use Rattle.world_parts.specs.Entries.{with_instance, named, set_waited_on}
use Rattle.world_parts.specs.Feed.{told, left_chain}
use Rattle.world_parts.specs.Slots.{with_task, happened}
use Rattle.world_parts.specs.Calls.{blocked}
use Rattle.world_parts.specs.Going.{looped, looped_at_set, loops_by, loops}
use Rattle.standing.specs.KeptMarks.{runs_func, runs_at, place_in, waiters_at}
use Rattle.standing.specs.MarksKept.{StandOnce}
use Rattle.standing.proofs.Agreeing.{get_set}
use Rattle.standing.proofs.States.{states_stay, blocked_stays}
use Rattle.run_laws.specs.keeping.Kept.{KeepsMarks, RunsFunction, OneHolds}
use Rattle.run_laws.proofs.keeping.Every.{every_through, look_every, found_every, tested_every, at_every}
use Rattle.run_laws.proofs.keeping.Alike.{waits_alike, set_twice}
use Rattle.run_laws.proofs.keeping.Entry.{GateSeen, holds_alone}
use Rattle.run_laws.proofs.keeping.GateSteps.{goes_out}
use Rattle.run_laws.proofs.keeping.OnSets.{counts_at, counts_not, counts_there, begins_on}
use Rattle.run_laws.proofs.keeping.Moves.{alike_marks, acted_every, told_and_left}
use Rattle.run_laws.proofs.keeping.Going.{runs_own, acting_is, none_counted}
use Rattle.run_laws.proofs.keeping.Script.{ending_marks}
use Rattle.run_laws.proofs.keeping.parts.Waits.{set_stands}

-- The task in its loop.
in_loop : ℕ → TaskSlot → TaskSlot
in_loop word x = slots.with_task (tasks.after (event.Block (blocked_at.Loop word) false) x.task) x

-- What is kept where it gives entry up: the instance is this one, and its gate is the one that it had.
record Loops (h k : Held) (t word : ℕ) (x : TaskSlot) (i i1 : InstanceView) : Type 0 where
  is : slice_get h.tasks t ≡ Some x
  here : slice_get h.instances x.instance ≡ Some i
  runs : runs_func x.callee ≡ true
  one : OneHolds h
  tasks : k.tasks ≡ h.tasks
  there : slice_get k.instances x.instance ≡ Some i1
  put : (j : InstanceView) → slice_set k.instances x.instance j ≡ slice_set h.instances x.instance j
  gate : i1.gate ≡ i.gate
  slots : i1.slots ≡ i.slots
  sets : is_acting x.task.phase ≡ true → (index set : ℕ) → entry_of i index ≡ Some (entry.Set set) → (set_at i.sets set).waiters ≡ waiters_at h.tasks x.instance index
      → (set_at i1.sets set).waiters + counts_at x.instance index x ≡ (set_at i.sets set).waiters + counts_at x.instance index (in_loop word x)

loops_out : (h k m : Held) (t word : ℕ) (x : TaskSlot) (i i1 : InstanceView) → Loops h k t word x i i1 → is_acting x.task.phase ≡ true
    → m.tasks ≡ slice_set k.tasks t (in_loop word x) → m.instances ≡ slice_set k.instances x.instance (with_gate (given_up t i1.gate) i1) → KeepsMarks h (Gives (tt {0}) m)
unfolding in_loop
loops_out h k m t word x i i1 l acts tasks_are insts_are =
    let later : TaskView = tasks.after (event.Block (blocked_at.Loop word) false) x.task in
    let y : TaskSlot = slots.with_task later x in
    let p : x.task.phase ≡ phase.Acting = acting_is x.task.phase acts in
    alike_marks h m t x.instance x y i (with_gate (given_up t i1.gate) i1)
    (record {
      is = l.is;
      here = l.here;
      runs = runs_own x l.runs;
      same = λ n. refl;
      gate = λ seen.
          subst (λ (g : GateView). GateSeen (slice_set h.tasks t y) x.instance (given_up t g)) (sym l.gate)
          (goes_out h.tasks t x.instance x y InLoop i.gate (record { is = l.is; runs = runs_own x l.runs; still = runs_own x l.runs; kind = refl; was = ap place_in p; place = refl }) refl refl
          (λ holding. holds_alone h x.instance t x l.is l.one holding) seen);
      slots = l.slots;
      sets = l.sets acts;
    })
    (tasks_are ∙ ap (λ (ts : List TaskSlot). slice_set ts t y) l.tasks) (insts_are ∙ l.put (with_gate (given_up t i1.gate) i1))
    (waits_alike x y refl refl refl refl (λ index. sym (ap (waits_directly_at index) p)))
    (states_stay t x later (blocked_stays x.task (blocked_at.Loop word) false acts refl))

looped_marks : (h k : Held) (t word : ℕ) (why : BlockReason) (x : TaskSlot) (i i1 : InstanceView) → Loops h k t word x i i1 → KeepsMarks h (looped t x.instance word why k)
unfolding looped blocked in_loop
looped_marks h k t word why x i i1 l =
    at_every h (slice_get k.instances x.instance) i1 (λ j. Gives tt (with_instance x.instance (with_gate (given_up t j.gate) j) k)) (λ done m. blocked t (blocked_at.Loop word) false why m) l.there
    (let m : Held = with_instance x.instance (with_gate (given_up t i1.gate) i1) k in
    at_every h (slice_get k.tasks t) x
    (λ z. happened (event_answer (event.Block (blocked_at.Loop word) false) z.task) t (advanced_slot (event.Block (blocked_at.Loop word) false) z) m)
    (λ done n. after (told (line.Block t why) n) (λ done o. left_chain o)) (ap (λ (ts : List TaskSlot). slice_get ts t) l.tasks ∙ l.is)
    (acted_every h m t (event.Block (blocked_at.Loop word) false) x (λ done n. after (told (line.Block t why) n) (λ done o. left_chain o)) refl
    (λ acts none.
    let n : Held = with_task t (slots.with_task (tasks.after (event.Block (blocked_at.Loop word) false) x.task) x) m in
    every_through h n (after (told (line.Block t why) n) (λ done o. left_chain o)) (loops_out h k n t word x i i1 l acts refl refl) (told_and_left (line.Block t why) n))))

-- It waits on no set, or on the one at an index.
no_set_counts : (at index word : ℕ) (x : TaskSlot) → callback_of word ≡ Ok next.Yield → counts_at at index (in_loop word x) ≡ 0
unfolding in_loop
no_set_counts at index word x e = counts_not at index (slots.with_task (tasks.after (event.Block (blocked_at.Loop word) false) x.task) x) (ap (next_waits_on index) e)

yields_marks : (h : Held) (t word : ℕ) (x : TaskSlot) (i : InstanceView) → slice_get h.tasks t ≡ Some x → slice_get h.instances x.instance ≡ Some i → runs_func x.callee ≡ true → OneHolds h
    → callback_of word ≡ Ok next.Yield → KeepsMarks h (looped t x.instance word reason.Yield h)
yields_marks h t word x i is here runs one e =
    looped_marks h h t word reason.Yield x i i
    (record {
      is = is;
      here = here;
      runs = runs;
      one = one;
      tasks = refl;
      there = here;
      put = λ j. refl;
      gate = refl;
      slots = refl;
      sets = λ acts index set stood marked. none_counted _ (counts_not x.instance index x (ap (waits_on index) (acting_is x.task.phase acts))) (no_set_counts x.instance index word x e);
    })

set_counts : (at index n word : ℕ) (x : TaskSlot) → runs_at at x ≡ true → ((m : ℕ) → next_waits_on m (callback_of word) ≡ nat_eq index m)
    → counts_at at n (in_loop word x) ≡ (if nat_eq index n then 1 else 0)
unfolding in_loop
set_counts at index n word x runs e = counts_there at n (slots.with_task (tasks.after (event.Block (blocked_at.Loop word) false) x.task) x) (nat_eq index n) runs (e n)

at_set_marks : (h : Held) (t word index : ℕ) (why : BlockReason) (x : TaskSlot) → slice_get h.tasks t ≡ Some x → runs_func x.callee ≡ true → OneHolds h
    → ((i : InstanceView) → slice_get h.instances x.instance ≡ Some i → StandOnce i) → ((m : ℕ) → next_waits_on m (callback_of word) ≡ nat_eq index m)
    → KeepsMarks h (looped_at_set t x.instance word index why h)
unfolding looped_at_set
at_set_marks h t word index why x is runs one once e =
    look_every h (slice_get h.instances x.instance) (λ i. named (set_in (entry_of i index)) h) (λ set k. after (set_waited_on x.instance set k) (λ done l. looped t x.instance word why l))
    (λ i here.
    found_every h (set_in (entry_of i index)) (λ set k. after (set_waited_on x.instance set k) (λ done l. looped t x.instance word why l))
    (λ set found.
    at_every h (slice_get h.instances x.instance) i
    (λ j. if nat_lt set (length j.sets) then Gives tt (with_instance x.instance (with_sets (waited_on set j.sets) j) h) else Stuck) (λ done l. looped t x.instance word why l) here
    (tested_every h (nat_lt set (length i.sets)) (Gives tt (with_instance x.instance (with_sets (waited_on set i.sets) i) h)) (λ done l. looped t x.instance word why l)
    (λ within.
    let i1 : InstanceView = with_sets (waited_on set i.sets) i in
    looped_marks h (with_instance x.instance i1 h) t word why x i i1
    (record {
      is = is;
      here = here;
      runs = runs;
      one = one;
      tasks = refl;
      there = get_set h.instances x.instance i i1 here;
      put = λ j. set_twice h.instances x.instance i1 j;
      gate = refl;
      slots = refl;
      sets = λ acts n number stood marked.
          begins_on i x.instance index set x (in_loop word x) (ltb-true set (length i.sets) within) (set_stands (entry_of i index) set found) (once i here)
          (λ m. counts_not x.instance m x (ap (waits_on m) (acting_is x.task.phase acts))) (λ m. set_counts x.instance index m word x (runs_own x runs) e) n number stood;
    })))))

loops_so : (h : Held) (t word : ℕ) (x : TaskSlot) (r : Result Next BadCode) → callback_of word ≡ r → slice_get h.tasks t ≡ Some x → runs_func x.callee ≡ true → OneHolds h
    → ((i : InstanceView) → slice_get h.instances x.instance ≡ Some i → StandOnce i) → KeepsMarks h (loops_by t x.instance word r h)
unfolding looped
loops_so h t word x (Err why) e is runs one once = λ marks. marks.lends
loops_so h t word x (Ok next.Exit) e is runs one once = ending_marks t h
loops_so h t word x (Ok next.Yield) e is runs one once = by_instance h t word x (slice_get h.instances x.instance) refl e is runs one
  where
    by_instance : (h : Held) (t word : ℕ) (x : TaskSlot) (o : Option InstanceView) → slice_get h.instances x.instance ≡ o → callback_of word ≡ Ok next.Yield
        → slice_get h.tasks t ≡ Some x → runs_func x.callee ≡ true → OneHolds h → KeepsMarks h (looped t x.instance word reason.Yield h)
    by_instance h t word x (Some i) here e is runs one = yields_marks h t word x i is here runs one e
    by_instance h t word x None none e is runs one =
        look_every h (slice_get h.instances x.instance) (λ j. Gives tt (with_instance x.instance (with_gate (given_up t j.gate) j) h)) (λ done m. blocked t (blocked_at.Loop word) false reason.Yield m)
        (λ j there. absurd (let both : None ≡ Some j = sym none ∙ there in cc))
loops_so h t word x (Ok (next.Wait index)) e is runs one once = at_set_marks h t word index (reason.Wait index) x is runs one once (λ m. ap (next_waits_on m) e)
loops_so h t word x (Ok (next.Poll index)) e is runs one once = at_set_marks h t word index (reason.Poll index) x is runs one once (λ m. ap (next_waits_on m) e)

-- Each set stands once in the table of the task's instance.
pub loops_marks : (t word : ℕ) (h : Held) → RunsFunction h t → OneHolds h
    → ((x : TaskSlot) (i : InstanceView) → slice_get h.tasks t ≡ Some x → slice_get h.instances x.instance ≡ Some i → StandOnce i) → KeepsMarks h (loops t word h)
unfolding loops
loops_marks t word h runs one once =
    look_every h (slice_get h.tasks t) (λ x. Gives x.instance h) (λ at k. loops_by t at word (callback_of word) k)
    (λ x is. loops_so h t word x (callback_of word) refl is (runs x is) one (λ i here. once x i is here))
