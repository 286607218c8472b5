-- What may go on is blocked, and what a cancellation ends or removes.
use Rattle.std.proofs.Common.{◌≡◌, ℕ, suc, ◌+◌, Bool, true, false, List, [], ◌∷◌, map, refl, subst, arith, Option, Some, None, if◌then◌else◌}
use Rattle.std.specs.Prelude.{IsSome, filter}
use Rattle.std.specs.List.{slice_get, AllByRecursion}
use Rattle.entry_gate.specs.declared.kind.Kind.{Kind}
use Rattle.tasks.specs.declared.event.Asked.TheVariants.{Removed, ResumeNow, Pending}
use Rattle.tasks.specs.declared.event.BlockedAt.TheVariants as blocked_at
use Rattle.tasks.specs.Tasks.{is_cancellable, phase_case}
use Rattle.comp_graph.specs.Graph.{Graph, Lifted}
use Rattle.script_reader.specs.declared.script.Item.{Item}
use Rattle.script_reader.specs.Script.{Script}
use Rattle.abi_machine.specs.World.{ForYield, ForSet, ForCall, ForCopy, ForCancel, TaskState, New, Acting, AfterCall, AfterCancel, Begins, WaitsToEnter, InLoop, InBuiltin, Exited, Task, World}
use Rattle.abi_machine.specs.Reading.{func_of, with_numbers, numbers_of}
use Rattle.abi_machine.specs.Counting.{passes, phase_of}
use Rattle.abi_machine.specs.Scheduling.{able, is_able_in, is_able, Alternative, Takes, GoesOn, item_first, alternatives}
use Rattle.abi_machine.specs.sound.Changes.{IsBlocked}

-- an item of the script, and an able task that is blocked in a function
abbrev pub IsStopped : Graph → World → Task → Type 0
IsStopped g w task = IsSome (func_of task.callee) × IsBlocked task.state × (is_able g w task ≡ true)

abbrev pub StopsAt : Graph → World → ℕ → Type 0
StopsAt g w t = (task : Task) × (slice_get w.tasks t ≡ Some task) × IsStopped g w task

abbrev pub MayBeDone : Graph → Script → World → Alternative → Type 0
MayBeDone g s w (Takes i) = slice_get s.items w.taken ≡ Some i
MayBeDone g s w (GoesOn t) = StopsAt g w t

-- those of numbered tasks that pass a test
one_kept : (P : ℕ → Type 0) (b : Bool) (n : ℕ) (task : Task) (others : List (ℕ × Task)) → (b ≡ true → P n) → AllByRecursion P (map (λ (x : ℕ × Task). x.0) others)
    → AllByRecursion P (map (λ (x : ℕ × Task). x.0) (if b then (n, task) ∷ others else others))
one_kept P true n task others h all = (h refl, all)
one_kept P false n task others h all = all

pub all_kept : (test : Task → Bool) (P : ℕ → Type 0) (n : ℕ) (tasks : List Task) → ((m : ℕ) (task : Task) → slice_get tasks m ≡ Some task → test task ≡ true → P (n + m))
    → AllByRecursion P (numbers_of test (with_numbers n tasks))
all_kept test P n [] h = tt
all_kept test P n (task ∷ tasks) h =
    let first : n + 0 ≡ n = omega arith in
    one_kept P (test task) n task (filter (λ (x : ℕ × Task). test x.1) (with_numbers (n + 1) tasks)) (λ e. subst P first (h 0 task refl e))
    (all_kept test P (n + 1) tasks (λ m x there e. let next : n + suc m ≡ n + 1 + m = omega arith in subst P next (h (suc m) x there e)))

able_blocked : (g : Graph) (w : World) (i : ℕ) (task : Task) (state : TaskState) → is_able_in g w i task state ≡ true → IsBlocked state
able_blocked g w i task New e = cc
able_blocked g w i task Acting e = cc
able_blocked g w i task (AfterCall callee number words) e = cc
able_blocked g w i task (AfterCancel callee number words) e = cc
able_blocked g w i task (Begins n) e = cc
able_blocked g w i task WaitsToEnter e = tt
able_blocked g w i task (InLoop word) e = tt
able_blocked g w i task (InBuiltin number words wait) e = tt
able_blocked g w i task Exited e = cc

able_stops : (g : Graph) (w : World) (task : Task) → is_able g w task ≡ true → IsStopped g w task
able_stops g w task e = by (func_of task.callee) e
  where
    by : (o : Option Lifted) → passes (λ (f : Lifted). is_able_in g w f.instance task task.state) o ≡ true → IsSome o × IsBlocked task.state × (is_able g w task ≡ true)
    by None k = cc
    by (Some f) k = (refl, able_blocked g w f.instance task task.state k, e)

tasks_may : (g : Graph) (s : Script) (w : World) (all : List ℕ) → AllByRecursion (StopsAt g w) all → AllByRecursion (MayBeDone g s w) (map GoesOn all)
tasks_may g s w [] h = tt
tasks_may g s w (t ∷ all) h = (h.0, tasks_may g s w all h.1)

item_may : (g : Graph) (s : Script) (w : World) (o : Option Item) (others : List Alternative) → slice_get s.items w.taken ≡ o → AllByRecursion (MayBeDone g s w) others
    → AllByRecursion (MayBeDone g s w) (item_first o others)
item_may g s w None others e h = h
item_may g s w (Some i) others e h = (e, h)

pub all_may : (g : Graph) (s : Script) (w : World) → AllByRecursion (MayBeDone g s w) (alternatives g s w)
all_may g s w =
    item_may g s w (slice_get s.items w.taken) (map GoesOn (able g w)) refl
    (tasks_may g s w (able g w)
    (all_kept (is_able g w) (StopsAt g w) 0 w.tasks
    (λ m task there e. let same : m ≡ 0 + m = omega arith in subst (StopsAt g w) same (task, there, able_stops g w task e))))

-- A cancellation ends the wait of a task, or removes one.

pub resumed_blocked : (free : Bool) (kind : Kind) (flag : ℕ → Bool) (state : TaskState) → phase_case free kind (phase_of flag state) ≡ ResumeNow → IsBlocked state
resumed_blocked free kind flag New e = cc
resumed_blocked free kind flag Acting e = cc
resumed_blocked free kind flag (AfterCall callee number words) e = cc
resumed_blocked free kind flag (AfterCancel callee number words) e = cc
resumed_blocked free kind flag (Begins n) e = cc
resumed_blocked free kind flag WaitsToEnter e = tt
resumed_blocked free kind flag (InLoop word) e = tt
resumed_blocked free kind flag (InBuiltin number words wait) e = tt
resumed_blocked free kind flag Exited e = cc

not_removed : (b : Bool) → (if b then ResumeNow else Pending) ≡ Removed → ⊥
not_removed true e = cc
not_removed false e = cc

pub removed_waits : (free : Bool) (kind : Kind) (flag : ℕ → Bool) (state : TaskState) → phase_case free kind (phase_of flag state) ≡ Removed → state ≡ WaitsToEnter
removed_waits free kind flag New e = cc
removed_waits free kind flag Acting e = cc
removed_waits free kind flag (AfterCall callee number words) e = cc
removed_waits free kind flag (AfterCancel callee number words) e = cc
removed_waits free kind flag (Begins n) e = cc
removed_waits free kind flag WaitsToEnter e = refl
removed_waits free kind flag (InLoop word) e = absurd (not_removed (is_cancellable free kind (blocked_at.Loop word) false) e)
removed_waits free kind flag (InBuiltin number words ForYield) e = absurd (not_removed (is_cancellable free kind blocked_at.Yield (flag number)) e)
removed_waits free kind flag (InBuiltin number words (ForSet index)) e = absurd (not_removed (is_cancellable free kind (blocked_at.Set index) (flag number)) e)
removed_waits free kind flag (InBuiltin number words (ForCall callee)) e = absurd (not_removed (is_cancellable free kind (blocked_at.Call callee) (flag number)) e)
removed_waits free kind flag (InBuiltin number words (ForCopy index)) e = absurd (not_removed (is_cancellable free kind (blocked_at.Copy index) (flag number)) e)
removed_waits free kind flag (InBuiltin number words (ForCancel index)) e = absurd (not_removed (is_cancellable free kind (blocked_at.Cancel index) (flag number)) e)
removed_waits free kind flag Exited e = cc
