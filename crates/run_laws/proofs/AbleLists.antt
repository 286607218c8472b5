-- The lists of tasks that are kept are those of the machine: the tasks that can go on, and those that have not exited.
use Rattle.std.proofs.Common.{◌≡◌, ℕ, zero, suc, ◌+◌, Bool, true, false, not, ◌&&◌, is_some, if◌then◌else◌, List, [], ◌∷◌, map, filter, drop, take, count_by, refl, sym, ap, ◌∙◌, subst, arith, Some, None}
use Rattle.std.specs.List.{slice_get, list_any, AllZip}
use Rattle.syntax_trees.specs.declared.types.ValType.{ValType}
use Rattle.wasm_store.specs.Stack.{Stack}
use Rattle.comp_graph.specs.Graph.{Graph}
use Rattle.script_reader.specs.Script.{Script}
use Rattle.trace_labels.specs.declared.label.Label.{Label}
use Rattle.task_table.specs.declared.slot.TaskSlot.{TaskSlot}
use Rattle.task_table.specs.Slots as slots
use Rattle.replies.specs.Seen.{seen}
use Rattle.world_parts.specs.Held.{Held}
use Rattle.world_parts.specs.Turning as kept
use Rattle.world_parts.specs.Turning.{lets_in, lets_others_in}
use Rattle.abi_machine.specs.World.{TaskState, New, Acting, AfterCall, AfterCancel, Begins, WaitsToEnter, InLoop, InBuiltin, Exited, Task, World, first_world}
use Rattle.abi_machine.specs.Canons.{flag_at}
use Rattle.abi_machine.specs.Counting.{phase_of}
use Rattle.abi_machine.specs.Reading.{func_of, has_exited, numbers_of, with_numbers}
use Rattle.abi_machine.specs.Run.{Reaches}
use Rattle.abi_machine.specs.Scheduling as machine
use Rattle.abi_machine.specs.Scheduling.{is_call}
use Rattle.abi_machine.specs.Control.{Control, Free}
use Rattle.abi_machine.specs.sound.Controls.{Says}
use Rattle.abi_machine.specs.sound.Initial.{IsInitial, InitRunsAlone, RunsAlone}
use Rattle.abi_machine.proofs.sound.Found.{some_same}
use Rattle.abi_machine.specs.sound.Numbers.{IsNumbered}
use Rattle.abi_machine.proofs.sound.Alone.{first_runs_alone, stays_alone}
use Rattle.abi_machine.proofs.sound.Numbered.{first_numbered, stays_numbered}
use Rattle.standing.specs.Tasks.{TaskStands}
use Rattle.run_laws.specs.Steps.{IsReached}
use Rattle.run_laws.specs.TaskLists.{numbers_in, is_open, is_watched, is_awake, HasLists, TurnsAreKept}
use Rattle.run_laws.proofs.AbleAlone.{able_again}
use Rattle.run_laws.proofs.AbleTasks.{AreBeside, open_alike, watched_alike, awake_alike}

-- Numbers of tasks that pass one test on the left, and another one of their numbers, are those of the tasks that pass on the right.
abbrev kept_from : (TaskSlot → Bool) → ℕ → List TaskSlot → List (ℕ × TaskSlot)
kept_from test number ks = filter (λ (x : ℕ × TaskSlot). test x.1) (with_numbers number ks)

abbrev made_from : (Task → Bool) → ℕ → List Task → List (ℕ × Task)
made_from test number tasks = filter (λ (x : ℕ × Task). test x.1) (with_numbers number tasks)

abbrev firsts : {A : Type 0} → List (ℕ × A) → List ℕ
firsts {A} xs = map (λ (x : ℕ × A). x.0) xs

front_by : (p : ℕ → Bool) (a b : Bool) (x : ℕ) (k : TaskSlot) (t : Task) (ks : List (ℕ × TaskSlot)) (ts : List (ℕ × Task)) → p x ≡ b → filter p (firsts ks) ≡ firsts ts
    → filter p (firsts (if a then (x, k) ∷ ks else ks)) ≡ firsts (if a && b then (x, t) ∷ ts else ts)
front_by p true true x k t ks ts e h = ap (λ (d : Bool). if d then x ∷ filter p (firsts ks) else filter p (firsts ks)) e ∙ ap (λ (ys : List ℕ). x ∷ ys) h
front_by p true false x k t ks ts e h = ap (λ (d : Bool). if d then x ∷ filter p (firsts ks) else filter p (firsts ks)) e ∙ h
front_by p false b x k t ks ts e h = h

front_as : (p : ℕ → Bool) (a c : Bool) (x : ℕ) (k : TaskSlot) (t : Task) (ks : List (ℕ × TaskSlot)) (ts : List (ℕ × Task)) → (a && p x) ≡ c → filter p (firsts ks) ≡ firsts ts
    → filter p (firsts (if a then (x, k) ∷ ks else ks)) ≡ firsts (if c then (x, t) ∷ ts else ts)
front_as p a c x k t ks ts e h = front_by p a (p x) x k t ks ts refl h ∙ ap (λ (d : Bool). firsts (if d then (x, t) ∷ ts else ts)) e

both_pass : (g : Graph) (s : Script) (p : ℕ → Bool) (q : TaskSlot → Bool) (m : Task → Bool) (number : ℕ) (ks : List TaskSlot) (tasks : List Task) → AllZip (TaskStands g s) ks tasks
    → ((n : ℕ) (slot : TaskSlot) (task : Task) → slice_get ks n ≡ Some slot → slice_get tasks n ≡ Some task → TaskStands g s slot task → (q slot && p (number + n)) ≡ m task)
    → filter p (firsts (kept_from q number ks)) ≡ firsts (made_from m number tasks)
both_pass g s p q m number [] [] h same = refl
both_pass g s p q m number [] (a ∷ tasks) h same = absurd h
both_pass g s p q m number (k ∷ ks) [] h same = absurd h
both_pass g s p q m number (k ∷ ks) (a ∷ tasks) h same =
    let none : number + 0 ≡ number = omega arith in
    front_as p (q k) (m a) number k a (kept_from q (number + 1) ks) (made_from m (number + 1) tasks)
    (ap (λ (n : ℕ). q k && p n) (sym none) ∙ same 0 k a refl refl h.0)
    (both_pass g s p q m (number + 1) ks tasks h.1
    (λ n slot task is there alike.
    let next : number + 1 + n ≡ number + suc n = omega arith in
    ap (λ (n : ℕ). q slot && p n) next ∙ same (suc n) slot task is there alike))

open_able : (g : Graph) (values : List ValType) (s : Script) (h : Held) (stacks : List (List Stack)) (w : World) → AreBeside g values s h stacks w
    → filter (kept.is_able (seen g) h) (numbers_in is_open h.tasks) ≡ machine.able g w
open_able g values s h stacks w b =
    both_pass g s (kept.is_able (seen g) h) is_open (machine.is_able g w) 0 h.tasks w.tasks b.stands.are_tasks
    (λ n slot task is there alike.
    let same : 0 + n ≡ n = omega arith in
    ap (λ (m : ℕ). is_open slot && kept.is_able (seen g) h m) same ∙ open_alike g values s h stacks w n slot task b is there alike)

watched_able : (g : Graph) (values : List ValType) (s : Script) (h : Held) (stacks : List (List Stack)) (w : World) → AreBeside g values s h stacks w → list_any lets_in h.instances ≡ false
    → filter (kept.is_able (seen g) h) (numbers_in is_watched h.tasks) ≡ machine.able g w
watched_able g values s h stacks w b none =
    both_pass g s (kept.is_able (seen g) h) is_watched (machine.is_able g w) 0 h.tasks w.tasks b.stands.are_tasks
    (λ n slot task is there alike.
    let same : 0 + n ≡ n = omega arith in
    ap (λ (m : ℕ). is_watched slot && kept.is_able (seen g) h m) same ∙ watched_alike g values s h stacks w n slot task b none is there alike)

awake_able : (g : Graph) (values : List ValType) (s : Script) (h : Held) (stacks : List (List Stack)) (w : World) → AreBeside g values s h stacks w
    → list_any lets_others_in h.instances ≡ false → filter (kept.is_able (seen g) h) (numbers_in is_awake h.tasks) ≡ machine.able g w
awake_able g values s h stacks w b none =
    both_pass g s (kept.is_able (seen g) h) is_awake (machine.is_able g w) 0 h.tasks w.tasks b.stands.are_tasks
    (λ n slot task is there alike.
    let same : 0 + n ≡ n = omega arith in
    ap (λ (m : ℕ). is_awake slot && kept.is_able (seen g) h m) same ∙ awake_alike g values s h stacks w n slot task b none is there alike)

able_by : (g : Graph) (values : List ValType) (s : Script) (h : Held) (stacks : List (List Stack)) (w : World) (some others : Bool) → AreBeside g values s h stacks w → HasLists s h
    → list_any lets_in h.instances ≡ some → list_any lets_others_in h.instances ≡ others
    → filter (kept.is_able (seen g) h) (if some then h.live else if others then h.watched.all else h.watched.awake) ≡ machine.able g w
able_by g values s h stacks w true others b lists e f = ap (λ (xs : List ℕ). filter (kept.is_able (seen g) h) xs) lists.opens.open_ones ∙ open_able g values s h stacks w b
able_by g values s h stacks w false true b lists e f = ap (λ (xs : List ℕ). filter (kept.is_able (seen g) h) xs) lists.opens.watched_ones ∙ watched_able g values s h stacks w b e
able_by g values s h stacks w false false b lists e f = ap (λ (xs : List ℕ). filter (kept.is_able (seen g) h) xs) lists.opens.awake_ones ∙ awake_able g values s h stacks w b f

able_is : (g : Graph) (values : List ValType) (s : Script) (h : Held) (stacks : List (List Stack)) (w : World) → AreBeside g values s h stacks w → HasLists s h
    → kept.able (seen g) h ≡ machine.able g w
able_is g values s h stacks w b lists = able_by g values s h stacks w (list_any lets_in h.instances) (list_any lets_others_in h.instances) b lists refl refl

-- In each world that is reached task 0 alone runs no function; and it has exited where no task runs.
pub record IsPast (w : World) : Type 0 where
  pub alone : RunsAlone w
  pub numbered : IsNumbered w

past_from : (g : Graph) (s : Script) (steps : List (List Label)) (w v : World) → IsPast w → Reaches g s w steps v → IsPast v
past_from g s [] w v h r = subst (λ (x : World). IsPast x) (sym r) h
past_from g s (labels ∷ steps) w v h r =
    past_from g s steps r.0 v (record { alone = stays_alone g s w r.0 labels h.alone r.1; numbered = stays_numbered g s w r.0 labels h.alone h.numbered r.1 }) r.2

pub past_reached : (g : Graph) (s : Script) (w : World) → IsReached g s w → IsPast w
past_reached g s w reached = past_from g s reached.0 (first_world g) w (record { alone = first_runs_alone g; numbered = first_numbered g }) reached.1

exited_so : (state : TaskState) (chain : List ℕ) → IsInitial state chain → chain ≡ [] → state ≡ Exited
exited_so New chain h none = absurd h
exited_so Acting chain h none = absurd (let both : 0 ∷ [] ≡ [] = sym h ∙ none in let no : ⊥ = cc in no)
exited_so (AfterCall callee number words) chain h none = absurd h
exited_so (AfterCancel callee number words) chain h none = absurd h
exited_so (Begins n) chain h none = absurd (let both : 0 ∷ [] ≡ [] = sym h ∙ none in let no : ⊥ = cc in no)
exited_so WaitsToEnter chain h none = absurd h
exited_so (InLoop word) chain h none = absurd h
exited_so (InBuiltin number words wait) chain h none = absurd h
exited_so Exited chain h none = refl

first_exited : (w : World) (task : Task) → IsPast w → w.control ≡ Free → slice_get w.tasks 0 ≡ Some task → task.state ≡ Exited
first_exited w task past free there =
    let init : InitRunsAlone w.tasks w.chain = past.alone.0 in
    let none : w.chain ≡ [] = subst (λ (c : Control). Says c w.chain) free past.alone.1 in
    ap (λ (x : Task). x.state) (some_same (sym there ∙ init.there)) ∙ exited_so init.init.state w.chain init.alone none

init_exited : (w : World) (n : ℕ) (task : Task) → IsPast w → w.control ≡ Free → slice_get w.tasks n ≡ Some task → func_of task.callee ≡ None → task.state ≡ Exited
init_exited w zero task past free there none = first_exited w task past free there
init_exited w (suc n) task past free there none =
    absurd (let some : is_some (func_of task.callee) ≡ true = (past.numbered.called (suc n) task there).0 in let both : true ≡ false = sym some ∙ ap is_some none in let no : ⊥ = cc in no)

-- Tasks that have not exited.
exited_same : (flag : ℕ → Bool) (state : TaskState) → slots.has_exited (phase_of flag state) ≡ has_exited state
exited_same flag New = refl
exited_same flag Acting = refl
exited_same flag (AfterCall callee number words) = refl
exited_same flag (AfterCancel callee number words) = refl
exited_same flag (Begins n) = refl
exited_same flag WaitsToEnter = refl
exited_same flag (InLoop word) = refl
exited_same flag (InBuiltin number words wait) = refl
exited_same flag Exited = refl

open_same : (g : Graph) (s : Script) (slot : TaskSlot) (task : Task) → TaskStands g s slot task → is_open slot ≡ not (has_exited task.state)
open_same g s slot task st = ap not (ap slots.has_exited st.far ∙ exited_same (flag_at g) task.state)

both_front : (a c : Bool) (x : ℕ) (k : TaskSlot) (t : Task) (ks : List (ℕ × TaskSlot)) (ts : List (ℕ × Task)) → a ≡ c → firsts ks ≡ firsts ts
    → firsts (if a then (x, k) ∷ ks else ks) ≡ firsts (if c then (x, t) ∷ ts else ts)
both_front true true x k t ks ts e h = ap (λ (ys : List ℕ). x ∷ ys) h
both_front true false x k t ks ts e h = absurd (cc)
both_front false true x k t ks ts e h = absurd (cc)
both_front false false x k t ks ts e h = h

same_numbers : (g : Graph) (s : Script) (q : TaskSlot → Bool) (m : Task → Bool) (number : ℕ) (ks : List TaskSlot) (tasks : List Task) → AllZip (TaskStands g s) ks tasks
    → ((slot : TaskSlot) (task : Task) → TaskStands g s slot task → q slot ≡ m task)
    → firsts (kept_from q number ks) ≡ firsts (made_from m number tasks)
same_numbers g s q m number [] [] h same = refl
same_numbers g s q m number [] (a ∷ tasks) h same = absurd h
same_numbers g s q m number (k ∷ ks) [] h same = absurd h
same_numbers g s q m number (k ∷ ks) (a ∷ tasks) h same =
    both_front (q k) (m a) number k a (kept_from q (number + 1) ks) (made_from m (number + 1) tasks) (same k a h.0)
    (same_numbers g s q m (number + 1) ks tasks h.1 same)

first_left : (a : Bool) (x : ℕ × TaskSlot) (ks : List (ℕ × TaskSlot)) → a ≡ false → firsts (if a then x ∷ ks else ks) ≡ firsts ks
first_left true x ks e = absurd (cc)
first_left false x ks e = refl

open_by : (g : Graph) (s : Script) (ks : List TaskSlot) (tasks : List Task) → AllZip (TaskStands g s) ks tasks → ((task : Task) → slice_get tasks 0 ≡ Some task → task.state ≡ Exited)
    → numbers_in is_open ks ≡ numbers_of (λ task. not (has_exited task.state)) (drop 1 (with_numbers 0 tasks))
open_by g s [] [] h first = refl
open_by g s [] (a ∷ tasks) h first = absurd h
open_by g s (k ∷ ks) [] h first = absurd h
open_by g s (k ∷ ks) (a ∷ tasks) h first =
    first_left (is_open k) (0, k) (kept_from is_open 1 ks) (open_same g s k a h.0 ∙ ap (λ (state : TaskState). not (has_exited state)) (first a refl))
    ∙ same_numbers g s is_open (λ (task : Task). not (has_exited task.state)) 1 ks tasks h.1 (λ slot task alike. open_same g s slot task alike)

pub turns_are_kept : TurnsAreKept
turns_are_kept g values s h stacks w reached free st marks lists asked =
    let past : IsPast w = past_reached g s w reached in
    let b : AreBeside g values s h stacks w = record { stands = st; marks = marks; asked = asked; init = λ n task there none. init_exited w n task past free there none } in
    record {
      able_tasks = λ used. able_is g values s h stacks w b lists ∙ sym (able_again g used w);
      open_tasks = lists.opens.open_ones ∙ open_by g s h.tasks w.tasks st.are_tasks (λ task there. first_exited w task past free there);
      calls = lists.taken ∙ ap (λ (n : ℕ). count_by is_call (take n s.items)) st.as_taken;
    }
