-- Alternatives of a turn: an item is there, and a task that may go on runs a function and may be inside its instance.
use Rattle.std.proofs.Common.{◌≡◌, ℕ, suc, ◌+◌, Bool, true, false, List, [], ◌∷◌, map, refl, subst, arith, Option, Some, None, if◌then◌else◌}
use Rattle.std.specs.Prelude.{IsSome, filter}
use Rattle.std.specs.List.{slice_get, AllByRecursion}
use Rattle.comp_graph.specs.Graph.{Graph, Lifted}
use Rattle.script_reader.specs.declared.script.Item.{Item}
use Rattle.script_reader.specs.Script.{Script}
use Rattle.abi_machine.specs.World.{Task, World}
use Rattle.abi_machine.specs.Reading.{func_of, with_numbers, numbers_of}
use Rattle.abi_machine.specs.Counting.{passes}
use Rattle.abi_machine.specs.Scheduling.{able, is_able, Alternative, Takes, GoesOn, item_first, alternatives, is_able_in}
use Rattle.abi_machine.specs.sound.Changes.{HasFunc}
use Rattle.abi_machine.specs.sound.Firsts.{IsLetIn}
use Rattle.abi_machine.proofs.sound.Entries.{able_inside}

abbrev pub IsAlternative : Script → World → Alternative → Type 0
IsAlternative s w (Takes i) = slice_get s.items w.taken ≡ Some i
IsAlternative s w (GoesOn t) = HasFunc w.tasks t × IsLetIn w.tasks t

-- those of numbered tasks that pass a test
kept_there : (P : ℕ → Type 0) (b : Bool) (n : ℕ) (task : Task) (others : List (ℕ × Task)) → (b ≡ true → P n) → AllByRecursion P (map (λ (x : ℕ × Task). x.0) others)
    → AllByRecursion P (map (λ (x : ℕ × Task). x.0) (if b then (n, task) ∷ others else others))
kept_there P true n task others h all = (h refl, all)
kept_there P false n task others h all = all

able_there : (test : Task → Bool) (P : ℕ → Type 0) (n : ℕ) (tasks : List Task) → ((m : ℕ) (task : Task) → slice_get tasks m ≡ Some task → test task ≡ true → P (n + m))
    → AllByRecursion P (numbers_of test (with_numbers n tasks))
able_there test P n [] h = tt
able_there test P n (task ∷ tasks) h =
    let first : n + 0 ≡ n = omega arith in
    kept_there P (test task) n task (filter (λ (x : ℕ × Task). test x.1) (with_numbers (n + 1) tasks)) (λ e. subst P first (h 0 task refl e))
    (able_there test P (n + 1) tasks (λ m x there e. let next : n + suc m ≡ n + 1 + m = omega arith in subst P next (h (suc m) x there e)))

-- an able task runs a function
able_runs : (g : Graph) (w : World) (task : Task) → is_able g w task ≡ true → IsSome (func_of task.callee)
able_runs g w task e = by (func_of task.callee) e
  where
    by : (o : Option Lifted) → passes (λ (f : Lifted). is_able_in g w f.instance task task.state) o ≡ true → IsSome o
    by None k = cc
    by (Some f) k = refl

abbrev GoesOnWell : World → ℕ → Type 0
GoesOnWell w t = HasFunc w.tasks t × IsLetIn w.tasks t

tasks_go_on : (s : Script) (w : World) (all : List ℕ) → AllByRecursion (GoesOnWell w) all → AllByRecursion (IsAlternative s w) (map GoesOn all)
tasks_go_on s w [] h = tt
tasks_go_on s w (t ∷ all) h = (h.0, tasks_go_on s w all h.1)

first_there : (s : Script) (w : World) (o : Option Item) (others : List Alternative) → slice_get s.items w.taken ≡ o → AllByRecursion (IsAlternative s w) others
    → AllByRecursion (IsAlternative s w) (item_first o others)
first_there s w None others e h = h
first_there s w (Some i) others e h = (e, h)

pub all_alternatives : (g : Graph) (s : Script) (w : World) → AllByRecursion (IsAlternative s w) (alternatives g s w)
all_alternatives g s w =
    first_there s w (slice_get s.items w.taken) (map GoesOn (able g w)) refl
    (tasks_go_on s w (able g w)
    (able_there (is_able g w) (GoesOnWell w) 0 w.tasks
    (λ m task there e.
    let same : m ≡ 0 + m = omega arith in subst (GoesOnWell w) same ((task, there, able_runs g w task e), (task, there, able_inside g w task e)))))
