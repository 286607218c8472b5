-- Where the acting task's stack is to run a rule applies, but where it is none that is to run, or has ended over one that does not go on with no words.
use Rattle.std.proofs.Common.{◌≡◌, ℕ, zero, suc, Bool, true, false, if◌then◌else◌, List, [], ◌∷◌, slice_set, refl, sym, ap, ◌∙◌, subst, is_some, Option, Some, None}
use Rattle.std.specs.List.{slice_get}
use Rattle.syntax_trees.specs.declared.types.ValType.{ValType}
use Rattle.wasm_store.specs.Store.{Store}
use Rattle.wasm_store.specs.Stack.{Stack}
use Rattle.wasm_execution.specs.Run.{RunGives}
use Rattle.wasm_execution.specs.declared.running.Outcome.{Outcome}
use Rattle.wasm_execution.specs.declared.running.Outcome.TheVariants as outcome
use Rattle.tasks.specs.Tasks.{is_acting}
use Rattle.comp_graph.specs.Graph.{Graph}
use Rattle.script_reader.specs.Script.{Script}
use Rattle.task_table.specs.declared.errand.Errand.{Errand}
use Rattle.task_table.specs.declared.errand.Errand.TheVariants as errand
use Rattle.task_table.specs.declared.slot.TaskSlot.{TaskSlot}
use Rattle.task_table.specs.Slots.{at_call, at_errand}
use Rattle.world_parts.specs.declared.parts.Rest.TheVariants as rest
use Rattle.world_parts.specs.Feed.{at_rest}
use Rattle.world_parts.specs.Held as kept
use Rattle.world_parts.specs.Held.{Held, Done, Gives, Traps, Spent, after, given}
use Rattle.world_parts.specs.Slots.{errand_of, errand_set, phase_of, with_task, words_set}
use Rattle.world_stacks.specs.declared.host_call.HostCall.{HostCall}
use Rattle.world_stacks.specs.declared.top.Top.{Top}
use Rattle.world_stacks.specs.declared.top.Top.TheVariants as top
use Rattle.world_stacks.specs.Piles.{going_back, resumed_at, unstacked, with_top}
use Rattle.world_stacks.specs.Running.{called, ended_at, ended_over, last_ended}
use Rattle.world_stacks.specs.Views.{PileView, stacks_of}
use Rattle.value_parts.specs.Coming.{Behind}
use Rattle.machine_runs.specs.declared.stepping.Step.{Step}
use Rattle.machine_runs.specs.declared.stepping.Step.TheVariants as step
use Rattle.machine_runs.specs.Moving.{acting_of}
use Rattle.machine_runs.specs.Stepping.{PileSteps, RunSteps, TaskSteps, TopComes, outcome_done, passing_behind}
use Rattle.abi_machine.specs.Canons.{flag_at}
use Rattle.abi_machine.specs.Control.{Control, Runs}
use Rattle.abi_machine.specs.Counting as machine
use Rattle.abi_machine.specs.World.{Callee, New, Acting, AfterCall, AfterCancel, Begins, WaitsToEnter, InLoop, InBuiltin, Exited, TaskState, Task, World}
use Rattle.abi_machine.specs.sound.Acting.{Outline, outline_of, outlines_of, RunsIn, IsRunning, IsOrdered, OneActs, ActsBy}
use Rattle.abi_machine.proofs.sound.Found.{some_same}
use Rattle.standing.specs.Stands.{Stands}
use Rattle.standing.specs.Tasks as tasks
use Rattle.standing.specs.Tasks.{TaskStands}
use Rattle.standing.proofs.Changes.{acting_is_alike}
use Rattle.standing.proofs.Lists.{IsFound, found_both}
use Rattle.standing.proofs.Steps.{found, via}
use Rattle.run_laws.specs.Beyond.{RunIsLost, TopIsLost, UnderIsLost}
use Rattle.run_laws.specs.Points.{stacks_at}
use Rattle.run_laws.proofs.LostMakes.{Applies, applies_after, applies_given, gives_applies, pile_there, stacks_there}

-- The task that acts.
task_there : (tasks : List Task) (t : ℕ) (o : Outline) → slice_get (outlines_of tasks) t ≡ Some o → (task : Task) × (slice_get tasks t ≡ Some task) × (outline_of task ≡ o)
task_there [] t o e = absurd (let w : ⊥ = cc in w)
task_there (x ∷ tasks) zero o e = (x, refl, some_same e)
task_there (x ∷ tasks) (suc t) o e = task_there tasks t o e

-- Of a stack that ended as the last one of a task that acts, or runs a start function, a rule tells what follows.
ends_by : (t : ℕ) (words : List ℕ) (state : TaskState) (callee : Callee) (slot : TaskSlot) (h : Held) → slice_get h.tasks t ≡ Some slot → RunsIn state callee → Applies (ended_at t words (tasks.errand_of state) h)
ends_by t words Acting callee slot h there runs = gives_applies (Some words) h
ends_by t words (Begins n) callee slot h there runs =
    applies_after (errand_set t errand.None h) (λ (done : Unit {0}) k. Gives (let o : Option (List ℕ) = None in o) (at_rest (rest.Instantiates n) k))
    (applies_given (slice_get h.tasks t) slot (λ x. Gives (let u : Unit {0} = tt in u) (with_task t (at_errand errand.None x) h)) there (gives_applies tt (with_task t (at_errand errand.None slot) h)))
    (λ done k e. gives_applies None (at_rest (rest.Instantiates n) k))
ends_by t words New callee slot h there runs = absurd runs
ends_by t words (AfterCall c number given) callee slot h there runs = absurd runs
ends_by t words (AfterCancel c number given) callee slot h there runs = absurd runs
ends_by t words WaitsToEnter callee slot h there runs = absurd runs
ends_by t words (InLoop word) callee slot h there runs = absurd runs
ends_by t words (InBuiltin number given wait) callee slot h there runs = absurd runs
ends_by t words Exited callee slot h there runs = absurd runs

acts_by : (flag : ℕ → Bool) (state : TaskState) (callee : Callee) → RunsIn state callee → is_acting (machine.phase_of flag state) ≡ true
acts_by flag Acting callee runs = refl
acts_by flag (Begins n) callee runs = refl
acts_by flag New callee runs = absurd runs
acts_by flag (AfterCall c number given) callee runs = absurd runs
acts_by flag (AfterCancel c number given) callee runs = absurd runs
acts_by flag WaitsToEnter callee runs = absurd runs
acts_by flag (InLoop word) callee runs = absurd runs
acts_by flag (InBuiltin number given wait) callee runs = absurd runs
acts_by flag Exited callee runs = absurd runs

tested : (b : Bool) (d : Done (Option (List ℕ))) → b ≡ true → Applies d → Applies (if b then d else kept.Stuck)
tested true d is applies = applies
tested false d is applies = absurd (let w : ⊥ = cc in w)

last_applies : (g : Graph) (s : Script) (t : ℕ) (words : List ℕ) (task : Task) (slot : TaskSlot) (h : Held) → slice_get h.tasks t ≡ Some slot → TaskStands g s slot task → RunsIn task.state task.callee
    → Applies (last_ended t words h)
last_applies g s t words task slot h there alike runs =
    let phase_is : phase_of t h ≡ Gives slot.task.phase h = found (slice_get h.tasks t) slot (λ x. Gives x.task.phase h) there in
    let errand_is : errand_of t h ≡ Gives slot.errand h = found (slice_get h.tasks t) slot (λ x. Gives x.errand h) there in
    let behind : Applies (after (errand_of t h) (λ e l. ended_at t words e l)) =
    λ e.
    subst (λ (x : Errand). Applies (ended_at t words x h)) (sym alike.at) (ends_by t words task.state task.callee slot h there runs)
    (sym (via (errand_of t h) slot.errand h (λ e l. ended_at t words e l) errand_is) ∙ e) in
    λ e.
    tested (is_acting slot.task.phase) (after (errand_of t h) (λ e l. ended_at t words e l)) (ap is_acting alike.far ∙ acts_by (flag_at g) task.state task.callee runs) behind
    (sym (via (phase_of t h) slot.task.phase h (λ phase k. if is_acting phase then after (errand_of t k) (λ e l. ended_at t words e l) else kept.Stuck) phase_is) ∙ e)

module _ (g : Graph) (values : List ValType) (s : Script) (h : Held) (piles : List PileView) (w : World) (ordered : IsOrdered w) (control : w.control ≡ Runs) (st : Stands g values s h (stacks_at piles) w) where
  acts : OneActs IsRunning (outlines_of w.tasks) w.chain
  acts = subst (λ (x : Control). ActsBy x (outlines_of w.tasks) w.chain) control ordered.2

  abbrev t : ℕ
  t = acts.0

  runner : (task : Task) × (slice_get w.tasks acts.0 ≡ Some task) × (outline_of task ≡ acts.1.1.0)
  runner = task_there w.tasks acts.0 acts.1.1.0 acts.1.1.1

  running : IsRunning (outline_of runner.0)
  running = subst IsRunning (sym runner.2) acts.1.1.2

  slot : IsFound (TaskStands g s) (slice_get h.tasks acts.0) (slice_get w.tasks acts.0)
  slot = found_both (TaskStands g s) h.tasks w.tasks acts.0 st.are_tasks (ap is_some runner.1)

  alike : TaskStands g s slot.left runner.0
  alike = subst (λ (a : Task). TaskStands g s slot.left a) (some_same (sym slot.is_right ∙ runner.1)) slot.alike

  pile : (p : PileView) × (slice_get piles acts.0 ≡ Some p) × (stacks_of p ≡ runner.0.stacks)
  pile = pile_there piles acts.0 runner.0.stacks (ap (λ (ss : List (List Stack)). slice_get ss acts.0) st.same_stacks ∙ stacks_there w.tasks acts.0 runner.0 runner.1)

  -- What follows an end.
  abbrev over : List ℕ → Held → Bool × PileView → Done (Option (List ℕ) × PileView)
  over words k r = ended_over acts.0 words r.0 r.1 k

  unfoldable NoneUnder : Store → List HostCall → Type 0
  NoneUnder x [] = ⊥
  NoneUnder x (c ∷ under) = resumed_at x [] c ≡ None

  by_resumed : (words : List ℕ) (k : Held) (under : List HostCall) (c : HostCall) (o : Option Stack) → given (going_back o under) (over words k) ≡ kept.Stuck → o ≡ None
  by_resumed words k under c None e = refl
  by_resumed words k under c (Some x) e = absurd (let f : ⊥ = cc in f)

  by_under : (words : List ℕ) (p : PileView) (k : Held) (under : List HostCall) → k.tasks ≡ h.tasks → given (unstacked k.store under p) (over words k) ≡ kept.Stuck → NoneUnder k.store under
  unfolding NoneUnder
  by_under words p k [] same e =
      applies_after (last_ended acts.0 words k) (λ ended l. Gives (let r : Option (List ℕ) × PileView = (ended, p) in r) l)
      (last_applies g s acts.0 words runner.0 slot.left k (ap (λ (ts : List TaskSlot). slice_get ts acts.0) same ∙ slot.is_left) alike running.0)
      (λ ended l is. gives_applies (ended, p) l) e
  by_under words p k (c ∷ under) same e = by_resumed words k under c (resumed_at k.store [] c) e

  calls_apply : (number : ℕ) (words : List ℕ) (k : Held) → k.tasks ≡ h.tasks → Applies (called acts.0 number words k)
  calls_apply number words k same =
      applies_after (words_set acts.0 words k) (λ (done : Unit {0}) l. Gives (let u : Unit {0} = tt in u) (at_rest (rest.Calls number) l))
      (applies_given (slice_get k.tasks acts.0) slot.left (λ x. Gives (let u : Unit {0} = tt in u) (with_task acts.0 (at_call words x) k)) (ap (λ (ts : List TaskSlot). slice_get ts acts.0) same ∙ slot.is_left)
      (gives_applies tt (with_task acts.0 (at_call words slot.left) k)))
      (λ done l e. gives_applies tt (at_rest (rest.Calls number) l))

  by_outcome : (k : Stack) (p : PileView) (o : Outcome) (x : Store) (left : ℕ) → RunGives h.store k h.left o x left
      → outcome_done acts.0 (with_top top.Empty p) o (record h { store = x; left = left }) ≡ Some kept.Stuck → UnderIsLost h k p.under
  unfolding NoneUnder
  by_outcome k p (outcome.Done words) x left runs e = under_lost p.under (by_under words (with_top top.Empty p) (record h { store = x; left = left }) p.under refl (some_same e))
    where
      under_lost : (under : List HostCall) → NoneUnder x under → UnderIsLost h k under
      under_lost [] none = none
      under_lost (c ∷ under) none = (words, x, left, runs, none)
  by_outcome k p (outcome.Calls number words waits) x left runs e =
      absurd (applies_after (called acts.0 number words (record h { store = x; left = left }))
      (λ done l. Gives (let r : Option (List ℕ) × PileView = (None, with_top (top.Waits (record { address = number; waiting = waits })) (with_top top.Empty p)) in r) l)
      (calls_apply number words (record h { store = x; left = left }) refl) (λ done l is. gives_applies (None, with_top (top.Waits (record { address = number; waiting = waits })) (with_top top.Empty p)) l) (some_same e))
  by_outcome k p (outcome.Trapped why) x left runs e = absurd (let f : ⊥ = cc in f)
  by_outcome k p (outcome.NoFuel later) x left runs e = absurd (let f : ⊥ = cc in f)
  by_outcome k p outcome.Memory x left runs e = absurd (let f : ⊥ = cc in f)

  by_top : (p : PileView) (x : Top) → TopComes acts.0 x p h kept.Stuck → TopIsLost h x p
  by_top p top.Empty comes = tt
  by_top p (top.Waits c) comes = tt
  by_top p (top.Goes k) comes = by_outcome k p comes.0 comes.1 comes.2 comes.3 comes.4

  by_first : (p : PileView) (first : Done (Option (List ℕ) × PileView)) → TopComes acts.0 p.top p h first
      → Behind first (λ r k e. e ≡ Gives (let y : Step × List PileView = (step.GoesOn (passing_behind r.0), slice_set piles acts.0 r.1) in y) k) kept.Stuck → TopIsLost h p.top p
  by_first p (Gives r k) comes e = absurd (let f : ⊥ = cc in f)
  by_first p (Traps why k) comes e = absurd (let f : ⊥ = cc in f)
  by_first p (Spent k) comes e = absurd (let f : ⊥ = cc in f)
  by_first p kept.Stuck comes e = by_top p p.top comes

  pub run_lost : RunSteps piles h kept.Stuck → RunIsLost piles h
  run_lost steps =
      let first : acting_of h ≡ Some acts.0 = acting_is_alike g values s h (stacks_at piles) w st ∙ acts.1.0 in
      let at : PileSteps acts.0 (Some pile.0) piles h kept.Stuck =
      subst (λ (o : Option PileView). PileSteps acts.0 o piles h kept.Stuck) pile.1 (subst (λ (o : Option ℕ). TaskSteps o piles h kept.Stuck) first steps) in
      record { acts = acts.0; is_first = first; pile = pile.0; there = pile.1; lost = by_first pile.0 at.0 at.1 at.2 }
