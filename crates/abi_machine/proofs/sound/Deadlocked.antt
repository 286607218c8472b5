-- A deadlock names the tasks that have not exited, each of which is blocked while what it waits for is missing.
use Rattle.std.proofs.Common.{◌≡◌, ◌∙◌, ◌≤◌, ◌⊎◌, inl, inr, ℕ, zero, suc, ◌+◌, ◌&&◌, ◌||◌, Bool, true, false, not, nat_eq, List, [], ◌∷◌, map, refl, sym, ap, subst, arith, Option, Some, None, Result, Ok, Err, if◌then◌else◌}
use Rattle.std.specs.Prelude.{IsSome, filter, drop, is_none as is_absent}
use Rattle.std.specs.List.{slice_get, AllByRecursion}
use Rattle.std.proofs.lemmas.Bool.Decides.{nat_tests}
use Rattle.entry_gate.specs.declared.kind.Kind.{Kind}
use Rattle.entry_gate.specs.Kinds.{needs_entry}
use Rattle.entry_gate.specs.Gates.{GateView, is_free, may_enter}
use Rattle.entry_gate.specs.Stays.{holds, is_inside, holder_of}
use Rattle.entry_gate.specs.Callbacks.{callback_of}
use Rattle.entry_gate.specs.declared.callback.BadCode.{BadCode}
use Rattle.entry_gate.specs.declared.callback.Next.{Next}
use Rattle.entry_gate.specs.declared.callback.Next.TheVariants as word
use Rattle.handle_table.specs.History.{Event}
use Rattle.waitables.specs.Sets.{is_none}
use Rattle.tasks.specs.declared.phase.Cancellation.{Cancellation}
use Rattle.tasks.specs.declared.phase.Phase.{Phase}
use Rattle.tasks.specs.declared.phase.Resolution.{Resolution}
use Rattle.tasks.specs.declared.phase.Resolution.TheVariants.{Returned, Cancelled}
use Rattle.tasks.specs.declared.subtask_state.SubtaskState.TheVariants.{CancelledBeforeStarted, CancelledBeforeReturned}
use Rattle.tasks.specs.Subtasks.{is_over}
use Rattle.tasks.specs.Tasks.{is_asked, is_told, resolved_state}
use Rattle.comp_graph.specs.Graph.{Graph, Lifted}
use Rattle.trace_labels.specs.declared.label.Label.{Label}
use Rattle.script_reader.specs.Script.{Script}
use Rattle.script_reader.specs.declared.script.Item.{Item}
use Rattle.abi_machine.specs.declared.run_end.RunEnd.TheVariants.{Deadlock}
use Rattle.stream_ends.specs.Ends.{is_pending}
use Rattle.abi_machine.specs.Control.{EndRef, Control}
use Rattle.abi_machine.specs.World.{Entry, Callee, Init, Wait, ForYield, ForSet, ForCall, ForCopy, ForCancel, TaskState, New, Acting, AfterCall, AfterCancel, Begins, WaitsToEnter, InLoop, InBuiltin, Exited, Task, World, first_world}
use Rattle.abi_machine.specs.Run.{Reaches}
use Rattle.abi_machine.specs.Reading.{table_in, func_of, kind_of, runs_in, is_in, has_exited, with_numbers, numbers_of, unfinished}
use Rattle.abi_machine.specs.Counting.{passes, phase_of, has_resolved, end_of, ready}
use Rattle.abi_machine.specs.Gate.{place_of, stay_of, gate_of, is_entry_free}
use Rattle.abi_machine.specs.Finding.{found_subtask, set_number, found_end}
use Rattle.abi_machine.specs.Scheduling.{is_some_ready, is_task_resolved, wait_is_over, loop_is_over, is_able_in, is_able, able, GoesOn, item_first}
use Rattle.abi_machine.specs.sound.Changes.{IsBlocked}
use Rattle.abi_machine.specs.sound.Chain.{IsThere, IsAside}
use Rattle.abi_machine.specs.sound.Chain.{IsApart as ApartFrom}
use Rattle.abi_machine.specs.sound.Initial.{RunsAlone}
use Rattle.abi_machine.specs.sound.Tables.{HaveHistories}
use Rattle.abi_machine.specs.sound.Acting.{StandsBy, outline_of, outlines_of, ActsBy, IsOrdered}
use Rattle.abi_machine.specs.sound.Exiting.{HasExited, ResolvesFirst, ResolveFirst}
use Rattle.abi_machine.specs.sound.Loops.{GoesOnBy, LoopsIn, LoopsSo, HaveLoops}
use Rattle.abi_machine.specs.sound.Deadlocks.{IsAmong, IsHeldBy, NoneReady, LoopMisses, IsMissing, IsHeldUp, StandsStill, DeadlocksAreReal, ReachedDeadlocksAreReal}
use Rattle.wasm_store.proofs.Lists.{all_at}
use Rattle.abi_machine.proofs.sound.Found.{some_same}
use Rattle.abi_machine.proofs.sound.Chained.{state_there}
use Rattle.abi_machine.proofs.sound.Able.{all_kept}
use Rattle.abi_machine.proofs.sound.Ending.{ends_come_where}
use Rattle.abi_machine.proofs.sound.Alone.{first_runs_alone, stays_alone}
use Rattle.abi_machine.proofs.sound.Histories.{first_has_histories, histories_stay}
use Rattle.abi_machine.proofs.sound.Ordered.{first_ordered, order_stays}
use Rattle.abi_machine.proofs.sound.Looping.{first_has_loops, loops_stay}
use Rattle.abi_machine.proofs.sound.Exiting.{first_resolves_first, resolve_first_stays}
use Rattle.abi_machine.proofs.sound.Outlines.{outline_there}

-- No item is left, and no task is able.
abbrev pub IsNone : Option Item → List ℕ → Type 0
IsNone o all = (o ≡ None) × (all ≡ [])

pub none_of : (o : Option Item) (all : List ℕ) → item_first o (map GoesOn all) ≡ [] → IsNone o all
none_of None [] e = (refl, refl)
none_of None (t ∷ all) e = cc
none_of (Some i) all e = cc

-- Numbers of tasks that pass a test.
abbrev numbers : List (ℕ × Task) → List ℕ
numbers found = map (λ (x : ℕ × Task). x.0) found

none_first : (b : Bool) (n : ℕ) (task : Task) (others : List (ℕ × Task)) → numbers (if b then (n, task) ∷ others else others) ≡ [] → (b ≡ false) × (numbers others ≡ [])
none_first true n task others e = cc
none_first false n task others e = (refl, e)

pub none_passes : (test : Task → Bool) (n : ℕ) (tasks : List Task) (m : ℕ) (task : Task) → numbers_of test (with_numbers n tasks) ≡ [] → slice_get tasks m ≡ Some task → test task ≡ false
none_passes test n [] m task e there = cc
none_passes test n (x ∷ tasks) zero task e there =
    let first = (none_first (test x) n x (filter (λ (y : ℕ × Task). test y.1) (with_numbers (n + 1) tasks)) e).0 in
    subst (λ (y : Task). test y ≡ false) (some_same there) first
none_passes test n (x ∷ tasks) (suc m) task e there =
    none_passes test (n + 1) tasks m task (none_first (test x) n x (filter (λ (y : ℕ × Task). test y.1) (with_numbers (n + 1) tasks)) e).1 there

among_behind : (t u : ℕ) (all : List ℕ) → IsAmong t all → IsAmong t (u ∷ all)
among_behind t u all (place, there) = (suc place, there)

among_first : (t : ℕ) (b : Bool) (n : ℕ) (task : Task) (others : List (ℕ × Task)) → IsAmong t (numbers others) → IsAmong t (numbers (if b then (n, task) ∷ others else others))
among_first t true n task others h = among_behind t n (numbers others) h
among_first t false n task others h = h

among_here : (b : Bool) (n : ℕ) (task : Task) (others : List (ℕ × Task)) → b ≡ true → IsAmong n (numbers (if b then (n, task) ∷ others else others))
among_here true n task others e = (0, refl)
among_here false n task others e = cc

among : (test : Task → Bool) (n : ℕ) (tasks : List Task) (m : ℕ) (task : Task) → slice_get tasks m ≡ Some task → test task ≡ true → IsAmong (n + m) (numbers_of test (with_numbers n tasks))
among test n [] m task there e = cc
among test n (x ∷ tasks) zero task there e =
    let here : n ≡ n + 0 = omega arith in
    subst (λ (t : ℕ). IsAmong t (numbers_of test (with_numbers n (x ∷ tasks)))) here
    (among_here (test x) n x (filter (λ (y : ℕ × Task). test y.1) (with_numbers (n + 1) tasks)) (subst (λ (y : Task). test y ≡ true) (sym (some_same there)) e))
among test n (x ∷ tasks) (suc m) task there e =
    let next : n + 1 + m ≡ n + suc m = omega arith in
    among_first (n + suc m) (test x) n x (filter (λ (y : ℕ × Task). test y.1) (with_numbers (n + 1) tasks))
    (subst (λ (t : ℕ). IsAmong t (numbers_of test (with_numbers (n + 1) tasks))) next (among test (n + 1) tasks m task there e))

-- Those that have not exited, but for the first.
abbrev is_left : Task → Bool
is_left task = not (has_exited task.state)

abbrev left_of : List Task → List ℕ
left_of tasks = numbers_of is_left (drop 1 (with_numbers 0 tasks))

among_left : (tasks : List Task) (t : ℕ) (task : Task) → 1 ≤ t → slice_get tasks t ≡ Some task → is_left task ≡ true → IsAmong t (left_of tasks)
among_left [] t task some there e = cc
among_left (x ∷ tasks) zero task some there e = absurd (omega (arith, some))
among_left (x ∷ tasks) (suc t) task some there e = (let same : 0 + 1 + t ≡ suc t = omega arith in subst (λ (n : ℕ). IsAmong n (left_of (x ∷ tasks))) same (among is_left (0 + 1) tasks t task there e))

all_left : (P : ℕ → Type 0) (tasks : List Task) → ((t : ℕ) (task : Task) → 1 ≤ t → slice_get tasks t ≡ Some task → is_left task ≡ true → P t) → AllByRecursion P (left_of tasks)
all_left P [] h = tt
all_left P (x ∷ tasks) h =
    all_kept is_left P (0 + 1) tasks (λ m task there e. let same : suc m ≡ 0 + 1 + m = omega arith in subst P same (h (suc m) task (omega arith) there e))

there_left : (state : TaskState) → IsThere state → not (has_exited state) ≡ true
there_left Exited h = absurd h
there_left state h = refl

-- Who holds exclusive entry has not exited, and runs a function of the instance.
record Holds (i n holder : ℕ) (tasks : List Task) : Type 0 where
  place : ℕ
  task : Task
  is : holder ≡ n + place
  there : slice_get tasks place ≡ Some task
  runs : runs_in i task ≡ true
  inside : is_inside (place_of task.state) ≡ true

one_holds : (b : Bool) (n holder : ℕ) (others : Option ℕ) → (if b then Some n else others) ≡ Some holder → ((b ≡ true) × (holder ≡ n)) ⊎ (others ≡ Some holder)
one_holds true n holder others e = inl (refl, sym (some_same e))
one_holds false n holder others e = inr e

both_parts : (a b : Bool) → (a && b) ≡ true → b ≡ true
both_parts true b e = e
both_parts false b e = cc

holds_behind : (i n holder : ℕ) (x : Task) (tasks : List Task) → Holds i (n + 1) holder tasks → Holds i n holder (x ∷ tasks)
holds_behind i n holder x tasks h = record {
  place = suc h.place;
  task = h.task;
  is = (let is : holder ≡ n + 1 + h.place = h.is in omega (arith, is));
  there = h.there;
  runs = h.runs;
  inside = h.inside;
}

holds_by : (i n holder : ℕ) (x : Task) (tasks : List Task) (others : List (ℕ × Task)) → (holder_of (map stay_of others) ≡ Some holder → Holds i n holder (x ∷ tasks)) → (b : Bool) → runs_in i x ≡ b
    → holder_of (map stay_of (if b then (n, x) ∷ others else others)) ≡ Some holder → Holds i n holder (x ∷ tasks)
holds_by i n holder x tasks others more true runs k = elim (one_holds (holds (stay_of (n, x))) n holder (holder_of (map stay_of others)) k) [
  | inl here ↦ record {
    place = 0;
    task = x;
    is = (let is : holder ≡ n = here.1 in omega (arith, is));
    there = refl;
    runs = runs;
    inside = both_parts (needs_entry (kind_of x)) (is_inside (place_of x.state)) here.0;
  }
  | inr behind ↦ more behind
]
holds_by i n holder x tasks others more false runs k = more k

holder_is : (i n holder : ℕ) (tasks : List Task) → holder_of (map stay_of (filter (λ (x : ℕ × Task). runs_in i x.1) (with_numbers n tasks))) ≡ Some holder → Holds i n holder tasks
holder_is i n holder [] e = cc
holder_is i n holder (x ∷ tasks) e =
    holds_by i n holder x tasks (filter (λ (y : ℕ × Task). runs_in i y.1) (with_numbers (n + 1) tasks)) (λ k. holds_behind i n holder x tasks (holder_is i (n + 1) holder tasks k)) (runs_in i x) refl e

inside_left : (state : TaskState) → is_inside (place_of state) ≡ true → not (has_exited state) ≡ true
inside_left Exited e = cc
inside_left state e = refl

not_init : (i : ℕ) (callee : Callee) → callee ≡ Init → is_in i (func_of callee) ≡ true → ⊥
not_init i callee e runs = (let clash : false ≡ true = sym (ap (λ (c : Callee). is_in i (func_of c)) e) ∙ runs in cc)

holder_left : (i holder : ℕ) (w : World) → RunsAlone w → (gate_of w i).holder ≡ Some holder → IsAmong holder (unfinished w)
holder_left i holder w alone e = by h.place refl
  where
    h : Holds i 0 holder w.tasks
    h = holder_is i 0 holder w.tasks e

    first_is : h.place ≡ 0 → h.task.callee ≡ Init
    first_is at = (let same : Some alone.0.init ≡ Some h.task = sym alone.0.there ∙ (sym (ap (λ (n : ℕ). slice_get w.tasks n) at) ∙ h.there) in sym (ap (λ (x : Task). x.callee) (some_same same)) ∙ alone.0.instantiates)

    by : (place : ℕ) → h.place ≡ place → IsAmong holder (unfinished w)
    by zero at = absurd (not_init i h.task.callee (first_is at) h.runs)
    by (suc place) at =
        let is : holder ≡ 0 + h.place = h.is in
        let some : 1 ≤ holder = omega (arith, is, at) in
        let same : h.place ≡ holder = omega (arith, is) in
        among_left w.tasks holder h.task some (ap (λ (n : ℕ). slice_get w.tasks n) (sym same) ∙ h.there) (inside_left h.task.state h.inside)

-- What a task waits for is missing.
or_false : (a b : Bool) → (a || b) ≡ false → (a ≡ false) × (b ≡ false)
or_false true b e = cc
or_false false b e = (refl, e)

not_passed : {A : Type 0} (test : A → Bool) (o : Option A) (x : A) → passes test o ≡ false → o ≡ Some x → test x ≡ false
not_passed test None x e is = cc
not_passed {A} test (Some y) x e is = subst (λ (z : A). test z ≡ false) (some_same is) e

none_ready : (w : World) (i index : ℕ) → is_some_ready w i index ≡ false → NoneReady w i index
none_ready w i index e set is = empty (ready w i set) (not_passed (λ (n : ℕ). not (is_none (ready w i n))) (set_number w i index) set e is)
  where
    empty : (members : List ℕ) → not (is_none members) ≡ false → members ≡ []
    empty [] k = refl
    empty (m ∷ members) k = cc

-- One that has not resolved has not exited.
cancelled_over : (told : Bool) → is_over (if told then CancelledBeforeReturned else CancelledBeforeStarted) ≡ true
cancelled_over true = refl
cancelled_over false = refl

over_resolved : (c : Cancellation) (o : Option Resolution) (p : Phase) → IsSome o → is_over (resolved_state c o p) ≡ true
over_resolved c None p h = cc
over_resolved c (Some Returned) p h = refl
over_resolved c (Some Cancelled) p h = cancelled_over (is_told c)

clash_of : (a : Bool) → a ≡ false → a ≡ true → ⊥
clash_of true e f = cc
clash_of false e f = cc

open_left : (x : Task) (state : TaskState) → x.state ≡ state → ResolvesFirst x → IsSome (func_of x.callee) → has_resolved x ≡ false → not (has_exited state) ≡ true
open_left x Exited at first func unset =
    absurd (clash_of (has_resolved x) unset (over_resolved x.cancellation x.resolution (phase_of (λ number. false) x.state) (first (subst HasExited (sym at) tt) func)))
open_left x state at first func unset = refl

init_is : (w : World) (x : Task) → RunsAlone w → slice_get w.tasks 0 ≡ Some x → x.callee ≡ Init
init_is w x alone there = ap (λ (task : Task). task.callee) (some_same (sym there ∙ alone.0.there)) ∙ alone.0.instantiates

runs_none : (x : Task) → x.callee ≡ Init → IsSome (func_of x.callee) → ⊥
runs_none x e func = (let clash : IsSome (func_of Init) = subst (λ (c : Callee). IsSome (func_of c)) e func in cc)

open_named : (w : World) (callee : ℕ) (x : Task) → RunsAlone w → ResolveFirst w.tasks → slice_get w.tasks callee ≡ Some x → has_resolved x ≡ false → IsSome (func_of x.callee) → IsAmong callee (unfinished w)
open_named w zero x alone first there unset func = absurd (runs_none x (init_is w x alone there) func)
open_named w (suc n) x alone first there unset func =
    among_left w.tasks (suc n) x (omega arith) there (open_left x x.state refl (all_at ResolvesFirst w.tasks (suc n) x first there) func unset)

wait_misses : (g : Graph) (w : World) (i : ℕ) (task : Task) (number : ℕ) (wait : Wait) → RunsAlone w → ResolveFirst w.tasks → wait_is_over g w i task number wait ≡ false → IsMissing w i (unfinished w) wait
wait_misses g w i task number ForYield alone first e = cc
wait_misses g w i task number (ForSet index) alone first e = none_ready w i index (or_false (is_some_ready w i index) _ e).0
wait_misses g w i task number (ForCall callee) alone first e = λ x there. (let unset : has_resolved x ≡ false = not_passed has_resolved (slice_get w.tasks callee) x e there in (unset, open_named w callee x alone first there unset))
wait_misses g w i task number (ForCopy index) alone first e = λ end is. not_passed (λ (x : EndRef). is_pending (end_of w x)) (found_end w i index) end e is
wait_misses g w i task number (ForCancel index) alone first e =
    λ callee is x there. (let unset : has_resolved x ≡ false = not_passed has_resolved (slice_get w.tasks callee) x (not_passed (is_task_resolved w) (found_subtask w i index) callee e is) there in (unset, open_named w callee x alone first there unset))

loop_misses : (w : World) (i : ℕ) (task : Task) (table : List (Event Entry)) (said : Result Next BadCode) → GoesOnBy table said → loop_is_over w i task said ≡ false → LoopMisses w i task said
loop_misses w i task table (Ok word.Exit) goes e = absurd goes
loop_misses w i task table (Ok word.Yield) goes e = cc
loop_misses w i task table (Ok (word.Wait index)) goes e =
    let both = or_false (is_some_ready w i index) (is_asked task.cancellation) e in
    (none_ready w i index both.0, both.1)
loop_misses w i task table (Ok (word.Poll index)) goes e = cc
loop_misses w i task table (Err why) goes e = absurd goes

-- Who may not go in is held back, or another one holds exclusive entry.
held_in : (gate : GateView) (kind : Kind) → may_enter kind false gate ≡ false → (1 ≤ gate.pressure) ⊎ (is_free gate ≡ false)
held_in gate kind e = by (nat_eq gate.pressure 0) refl (needs_entry kind) (is_free gate) refl e
  where
    by : (none : Bool) → nat_eq gate.pressure 0 ≡ none → (needs free : Bool) → is_free gate ≡ free → (none && (not needs || free) && (not false || nat_eq gate.waiting 0)) ≡ false → (1 ≤ gate.pressure) ⊎ (is_free gate ≡ false)
    by false is needs free has k = inl (grind (arith, nat_tests))
    by true is true false has k = inr has
    by true is true true has k = cc
    by true is false free has k = cc

holder_there : (o : Option ℕ) → is_absent o ≡ false → (holder : ℕ) × (o ≡ Some holder)
holder_there None e = cc
holder_there (Some holder) e = (holder, refl)

held_by : (w : World) (i : ℕ) → RunsAlone w → is_free (gate_of w i) ≡ false → IsHeldBy w i (unfinished w)
held_by w i alone e =
    let h = holder_there (gate_of w i).holder e in
    (h.0, h.1, holder_left i h.0 w alone h.1)

held_up : (g : Graph) (w : World) (i : ℕ) (f : Lifted) (task : Task) (state : TaskState) → RunsAlone w → ResolveFirst w.tasks → func_of task.callee ≡ Some f → LoopsSo w.insts task.callee state → IsBlocked state
    → is_able_in g w i task state ≡ false → IsHeldUp w i (unfinished w) task state
held_up g w i f task WaitsToEnter alone first is loops blocked e = elim (held_in (gate_of w i) (kind_of task) e) [
  | inl pressed ↦ inl pressed
  | inr held ↦ inr (held_by w i alone held)
]
held_up g w i f task (InLoop said) alone first is loops blocked e = by (is_entry_free w i) refl e
  where
    in_loop : LoopsIn w.insts (Some f) said
    in_loop = subst (λ (o : Option Lifted). LoopsIn w.insts o said) is loops

    by : (free : Bool) → is_entry_free w i ≡ free → (free && loop_is_over w i task (callback_of said)) ≡ false → IsHeldBy w i (unfinished w) ⊎ LoopMisses w i task (callback_of said)
    by false has k = inl (held_by w i alone has)
    by true has k = inr (loop_misses w i task (table_in (slice_get w.insts f.instance)) (callback_of said) in_loop k)
held_up g w i f task (InBuiltin number words wait) alone first is loops blocked e = wait_misses g w i task number wait alone first e
held_up g w i f task New alone first is loops blocked e = absurd blocked
held_up g w i f task Acting alone first is loops blocked e = absurd blocked
held_up g w i f task (AfterCall callee number words) alone first is loops blocked e = absurd blocked
held_up g w i f task (AfterCancel callee number words) alone first is loops blocked e = absurd blocked
held_up g w i f task (Begins n) alone first is loops blocked e = absurd blocked
held_up g w i f task Exited alone first is loops blocked e = absurd blocked

-- A task that has not exited is blocked, in a function.
aside_blocked : (state : TaskState) → IsAside state → not (has_exited state) ≡ true → IsBlocked state
aside_blocked Exited h e = cc
aside_blocked New h e = h
aside_blocked Acting h e = h
aside_blocked (AfterCall callee number words) h e = h
aside_blocked (AfterCancel callee number words) h e = h
aside_blocked (Begins n) h e = h
aside_blocked WaitsToEnter h e = h
aside_blocked (InLoop said) h e = h
aside_blocked (InBuiltin number words wait) h e = h

blocked_runs : (task : Task) (state : TaskState) → IsBlocked state → StandsBy state (outline_of task) → IsSome (func_of task.callee)
blocked_runs task WaitsToEnter blocked h = h.0
blocked_runs task (InLoop said) blocked h = h.0
blocked_runs task (InBuiltin number words wait) blocked h = h.0
blocked_runs task New blocked h = absurd blocked
blocked_runs task Acting blocked h = absurd blocked
blocked_runs task (AfterCall callee number words) blocked h = absurd blocked
blocked_runs task (AfterCancel callee number words) blocked h = absurd blocked
blocked_runs task (Begins n) blocked h = absurd blocked
blocked_runs task Exited blocked h = absurd blocked

func_there : (o : Option Lifted) → IsSome o → (f : Lifted) × (o ≡ Some f)
func_there None h = cc
func_there (Some f) h = (f, refl)

still : (g : Graph) (w : World) → RunsAlone w → IsOrdered w → HaveLoops w.tasks w.insts → ResolveFirst w.tasks → w.chain ≡ [] → able g w ≡ [] → (t : ℕ) (task : Task) → slice_get w.tasks t ≡ Some task → is_left task ≡ true
    → StandsStill w (unfinished w) t
still g w alone ordered loops first idle none t task there left =
    let aside = ordered.0.others t task.state (state_there w.tasks t task there) (subst (λ (chain : List ℕ). ApartFrom t chain) (sym idle) tt) in
    let blocked = aside_blocked task.state aside left in
    let f = func_there (func_of task.callee) (blocked_runs task task.state blocked (ordered.1 t (outline_of task) (outline_there w.tasks t task there))) in
    let unable : is_able g w task ≡ false = none_passes (is_able g w) 0 w.tasks t task none there in (
      task,
      f.0,
      there,
      f.1,
      held_up g w f.0.instance f.0 task task.state alone first f.1 (loops t task there) blocked
          (sym (ap (λ (o : Option Lifted). passes (λ (h : Lifted). is_able_in g w h.instance task task.state) o) f.1) ∙ unable),
    )

pub deadlocks_are_real : DeadlocksAreReal
deadlocks_are_real g s w named alone ordered loops first e =
    let found = ends_come_where g s w (Deadlock named) e in
    let none = none_of (slice_get s.items w.taken) (able g w) found.1 in
    let idle : w.chain ≡ [] = subst (λ (c : Control). ActsBy c (outlines_of w.tasks) w.chain) found.0 ordered.2 in
    record {
      idle = idle;
      no_item = none.0;
      are = sym found.2;
      all_named = λ t task some there is. subst (λ (numbers : List ℕ). IsAmong t numbers) found.2 (among_left w.tasks t task some there (there_left task.state is));
      each = subst (λ (numbers : List ℕ). AllByRecursion (StandsStill w numbers) numbers) found.2
          (all_left (StandsStill w (unfinished w)) w.tasks (λ t task some there left. still g w alone ordered loops first idle none.1 t task there left));
    }

-- What this asks of a world holds of each that a run reaches.
record IsOrderly (w : World) : Type 0 where
  alone : RunsAlone w
  histories : HaveHistories w.insts
  ordered : IsOrdered w
  loops : HaveLoops w.tasks w.insts
  resolved : ResolveFirst w.tasks

first_orderly : (g : Graph) → IsOrderly (first_world g)
first_orderly g = record { alone = first_runs_alone g; histories = first_has_histories g; ordered = first_ordered g; loops = first_has_loops g; resolved = first_resolves_first g }

orderly_from : (g : Graph) (s : Script) (steps : List (List Label)) (w v : World) → IsOrderly w → Reaches g s w steps v → IsOrderly v
orderly_from g s [] w v h r = subst IsOrderly (sym r) h
orderly_from g s (labels ∷ steps) w v h r =
    orderly_from g s steps r.0 v
    (record {
      alone = stays_alone g s w r.0 labels h.alone r.1;
      histories = histories_stay g s w r.0 labels h.alone h.histories r.1;
      ordered = order_stays g s w r.0 labels h.alone h.ordered r.1;
      loops = loops_stay g s w r.0 labels h.alone h.ordered h.histories h.loops r.1;
      resolved = resolve_first_stays g s w r.0 labels h.alone h.resolved r.1;
    }) r.2

pub reached_deadlocks_are_real : ReachedDeadlocksAreReal
reached_deadlocks_are_real g s steps w named r e =
    let h : IsOrderly w = orderly_from g s steps (first_world g) w (first_orderly g) r in
    deadlocks_are_real g s w named h.alone h.ordered h.loops h.resolved e
