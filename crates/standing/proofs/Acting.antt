-- A run of the acting task's stack.
use Rattle.std.proofs.Common.{◌≡◌, ◌≤◌, ◌+◌, ℕ, zero, suc, Bool, true, false, List, [], ◌∷◌, drop, refl, sym, ap, ◌∙◌, subst, arith, Option, Some, None, Result, Ok, Err}
use Rattle.std.specs.List.{slice_get}
use Rattle.std.specs.Option.{option_map}
use Rattle.wasm_store.specs.declared.trap.Trap.{Trap}
use Rattle.wasm_store.specs.Store.{Store, found_at}
use Rattle.wasm_store.specs.Stack.{Stack}
use Rattle.wasm_store.specs.Step.{Move, Goes, Traps, Steps}
use Rattle.wasm_store.specs.Step as core
use Rattle.wasm_execution.specs.Run.{RunGives}
use Rattle.wasm_execution.specs.declared.running.Outcome.{Outcome}
use Rattle.wasm_execution.specs.declared.running.Outcome.TheVariants as outcome
use Rattle.entry_gate.specs.declared.kind.Kind.{Kind}
use Rattle.entry_gate.specs.declared.kind.Kind.TheVariants.{Sync, Callback, Stackful}
use Rattle.entry_gate.specs.Callbacks.{callback_of}
use Rattle.entry_gate.specs.declared.callback.BadCode.{BadCode}
use Rattle.entry_gate.specs.declared.callback.Next as loop
use Rattle.entry_gate.specs.declared.callback.Next.TheVariants as next_in
use Rattle.comp_graph.specs.Graph.{Graph, Lifted}
use Rattle.script_reader.specs.Script.{Script}
use Rattle.abi_machine.specs.Traps.{core_name}
use Rattle.abi_machine.specs.Control.{Control, Free, Runs, Calls, Doomed}
use Rattle.abi_machine.specs.World.{New, Acting, AfterCall, AfterCancel, Begins, WaitsToEnter, InLoop, InBuiltin, Exited, TaskState, Wait, Task, World}
use Rattle.abi_machine.specs.Edits.{changed_at, with_stack, unstacked}
use Rattle.abi_machine.specs.Reading.{acting, func_of, kind_of}
use Rattle.abi_machine.specs.Turn.{Turn, charged, given}
use Rattle.abi_machine.specs.Turn as turn
use Rattle.abi_machine.specs.CoreSteps.{costs, func_ended, stack_ended, ended_over, moved, running_turn}
use Rattle.abi_machine.specs.Looping.{next_turn, looping_turn}
use Rattle.abi_machine.specs.Returning.{resolves_to, resolves, returning_turn, ending_turn}
use Rattle.abi_machine.specs.Next.{next}
use Rattle.abi_machine.specs.Run.{RunsFrom}
use Rattle.abi_machine.specs.declared.run_end.RunEnd.TheVariants.{Fuel}
use Rattle.abi_machine.proofs.sound.Found.{changed_there}
use Rattle.standing.specs.Reaching.{GoesTo, Meets, with_room}
use Rattle.standing.specs.Runs.{RunsStack, StackLeads, StacksLead}
use Rattle.standing.proofs.Agreeing.{changed_twice}
use Rattle.standing.proofs.Reaching.{meets_step}
use Rattle.standing.proofs.Running.{comes_to, waits_at, with_used, run_spends}

-- A task that is changed to what it is.
pub changed_none : {A : Type 0} (n : ℕ) (f : A → A) (xs : List A) (x : A) → slice_get xs n ≡ Some x → f x ≡ x → changed_at n f xs ≡ xs
changed_none n f [] x e same = refl
changed_none zero f (y ∷ xs) x e same =
    let is : y ≡ x = cc in
    ap (λ (z : _). f z ∷ xs) is ∙ ap (λ (z : _). z ∷ xs) (same ∙ sym is)
changed_none (suc n) f (y ∷ xs) x e same = ap (λ ys. y ∷ ys) (changed_none n f xs x e same)

-- the task with a stack, and with other stacks
abbrev on_stack : Stack → Task → Task
on_stack k task = record task { stacks = k ∷ drop 1 task.stacks }

abbrev pub on_stacks : List Stack → Task → Task
on_stacks stacks task = record task { stacks = stacks }

-- The end of a stack reads nothing of the stacks.
sync_alone : (g : Graph) (t : ℕ) (task : Task) (f : Lifted) (stacks : List Stack) (words : List ℕ) (w : World)
    → returning_turn g t (on_stacks stacks task) f words w ≡ returning_turn g t task f words w
unfolding returning_turn resolves resolves_to
sync_alone g t task f stacks words w = refl

ending_alone : (t : ℕ) (task : Task) (stacks : List Stack) (w : World) → ending_turn t (on_stacks stacks task) w ≡ ending_turn t task w
unfolding ending_turn
ending_alone t task stacks w = refl

next_alone : (t : ℕ) (task : Task) (stacks : List Stack) (i word : ℕ) (r : Result loop.Next BadCode) (w : World)
    → next_turn t (on_stacks stacks task) i word r w ≡ next_turn t task i word r w
unfolding next_turn
next_alone t task stacks i word (Err why) w = refl
next_alone t task stacks i word (Ok next_in.Exit) w = ending_alone t task stacks w
next_alone t task stacks i word (Ok next_in.Yield) w = refl
next_alone t task stacks i word (Ok (next_in.Wait set)) w = refl
next_alone t task stacks i word (Ok (next_in.Poll set)) w = refl

loop_alone : (t : ℕ) (task : Task) (stacks : List Stack) (i : ℕ) (words : List ℕ) (w : World)
    → looping_turn t (on_stacks stacks task) i words w ≡ looping_turn t task i words w
unfolding looping_turn
loop_alone t task stacks i [] w = refl
loop_alone t task stacks i (word ∷ words) w = next_alone t task stacks i word (callback_of word) w

func_alone : (g : Graph) (t : ℕ) (task : Task) (f : Lifted) (stacks : List Stack) (kind : Kind) (words : List ℕ) (w : World)
    → func_ended g t (on_stacks stacks task) f kind words w ≡ func_ended g t task f kind words w
unfolding func_ended
func_alone g t task f stacks Sync words w = sync_alone g t task f stacks words w
func_alone g t task f stacks Stackful words w = ending_alone t task stacks w
func_alone g t task f stacks Callback words w = loop_alone t task stacks f.instance words w

lifted_alone : (g : Graph) (t : ℕ) (task : Task) (o : Option Lifted) (stacks : List Stack) (kind : Kind) (words : List ℕ) (w : World)
    → given o (λ f. func_ended g t (on_stacks stacks task) f kind words w) ≡ given o (λ f. func_ended g t task f kind words w)
lifted_alone g t task None stacks kind words w = refl
lifted_alone g t task (Some f) stacks kind words w = func_alone g t task f stacks kind words w

pub ended_alone : (g : Graph) (t : ℕ) (task : Task) (stacks : List Stack) (state : TaskState) (words : List ℕ) (w : World)
    → stack_ended g t (on_stacks stacks task) state words w ≡ stack_ended g t task state words w
unfolding stack_ended
ended_alone g t task stacks New words w = refl
ended_alone g t task stacks Acting words w = lifted_alone g t task (func_of task.callee) stacks (kind_of task) words w
ended_alone g t task stacks (AfterCall callee number passed) words w = refl
ended_alone g t task stacks (AfterCancel callee number passed) words w = refl
ended_alone g t task stacks (Begins n) words w = refl
ended_alone g t task stacks WaitsToEnter words w = refl
ended_alone g t task stacks (InLoop word) words w = refl
ended_alone g t task stacks (InBuiltin number passed wait) words w = refl
ended_alone g t task stacks Exited words w = refl

over_alone : (g : Graph) (t : ℕ) (task : Task) (stacks under : List Stack) (words : List ℕ) (w : World)
    → ended_over g t (on_stacks stacks task) under words w ≡ ended_over g t task under words w
unfolding ended_over
over_alone g t task stacks [] words w = ended_alone g t task stacks task.state words w
over_alone g t task stacks (k ∷ under) words w = refl

module _ (g : Graph) (s : Script) (w : World) (t : ℕ) (task : Task) (under : List Stack) (acts : slice_get w.chain 0 ≡ Some t) (there : slice_get w.tasks t ≡ Some task)
    (below : drop 1 task.stacks ≡ under) where
  -- where the stack stands, and what its moves do
  abbrev here : Store → ℕ → Stack → World
  here a used k = with_stack t k (with_room w a used Runs)

  abbrev does : Stack → Move → World → Turn
  does k m v = moved g t (on_stack k task) m (with_stack t k v)

  acting_is : (k : Stack) (v : World) → v.chain ≡ w.chain → v.tasks ≡ w.tasks → acting (with_stack t k v) ≡ Some (t, on_stack k task)
  acting_is k v chain tasks =
      ap (λ (o : Option ℕ). found_at (changed_at t (on_stack k) v.tasks) o) (ap (λ (c : List ℕ). slice_get c 0) chain ∙ acts)
      ∙ ap (λ (o : Option Task). option_map (λ (x : Task). (t, x)) o) (changed_there t (on_stack k) v.tasks task (ap (λ (ts : List Task). slice_get ts t) tasks ∙ there))

  charged_with : (paid : Bool) (k : Stack) (v : World) (f : World → Turn) → charged paid s (with_stack t k v) f ≡ charged paid s v (λ u. f (with_stack t k u))
  charged_with true k v f = refl
  charged_with false k v f = refl

  turns : (a : Store) (used : ℕ) (k : Stack) (m : Move) → core.next a k ≡ m → next g s (here a used k) ≡ charged (costs k m) s (with_room w a used Free) (does k m)
  unfolding running_turn
  turns a used k m e =
      let v : World = with_room w a used Free in
      ap (λ (o : Option (ℕ × Task)). given o (λ x. given (slice_get x.1.stacks 0) (λ j. charged (costs j (core.next a j)) s (with_stack t k v) (λ u. moved g x.0 x.1 (core.next a j) u)))) (acting_is k v refl refl)
      ∙ ap (λ (n : Move). charged (costs k n) s (with_stack t k v) (λ u. moved g t (on_stack k task) n u)) e
      ∙ charged_with (costs k m) k v (λ u. moved g t (on_stack k task) m u)

  again : (k l : Stack) → changed_at t (on_stack l) (changed_at t (on_stack k) w.tasks) ≡ changed_at t (on_stack l) w.tasks
  again k l = changed_twice t (on_stack l) (on_stack k) w.tasks

  goes : (a b : Store) (used : ℕ) (k l : Stack) (paid : Bool) → does k (Goes paid b l) (with_room w a used Free) ≡ turn.Steps [] (here b used l)
  unfolding moved
  goes a b used k l paid = ap (λ (tasks : List Task). turn.Steps [] (record w { store = b; units = used; control = Runs; tasks = tasks })) (again k l)

  ends : (a : Store) (used : ℕ) (k : Stack) (words : List ℕ)
      → does k (core.Ends words) (with_room w a used Free) ≡ ended_over g t task under words (unstacked t (with_room w a used Free))
  unfolding moved
  ends a used k words =
      let v : World = with_room w a used Free in
      ap (λ (ks : List Stack). ended_over g t (on_stack k task) ks words (unstacked t (with_stack t k v))) below
      ∙ over_alone g t task (k ∷ drop 1 task.stacks) under words (unstacked t (with_stack t k v))
      ∙ ap (λ (tasks : List Task). ended_over g t task under words (record v { tasks = tasks }))
      (changed_twice t (λ x. record x { stacks = drop 1 x.stacks }) (on_stack k) w.tasks)

  waits : (a : Store) (used : ℕ) (k l : Stack) (address : ℕ) (words : List ℕ)
      → does k (core.Calls address words l) (with_room w a used Free) ≡ turn.Steps [] (with_stack t l (with_room w a used (Calls address words)))
  unfolding moved
  waits a used k l address words = ap (λ (tasks : List Task). turn.Steps [] (record w { store = a; units = used; control = Calls address words; tasks = tasks })) (again k l)

  traps : (a : Store) (used : ℕ) (k : Stack) (why : Trap)
      → does k (Traps why) (with_room w a used Free) ≡ turn.Steps [] (with_stack t k (with_room w a used (Doomed t (core_name why))))
  unfolding moved
  traps a used k why = refl

  pub stack_leads : (outcome : Outcome) (a b : Store) (k : Stack) (left after used now : ℕ) → here a used k ≡ w → RunGives a k left outcome b after
      → used + left ≡ s.fuel → now + after ≡ s.fuel → StackLeads g s w t task under outcome b now
  stack_leads (outcome.Done words) a b k left after used now same h before behind =
      subst (λ (v : World). Meets g s v [] (ended_over g t task under words (unstacked t (with_room w b now Free)))) same
      (subst (Meets g s (here a used k) []) (ends b now h.last words)
      (comes_to g s w here does turns goes a b k left after used now (core.Ends words) h before behind))
  stack_leads (outcome.Calls address words waiting) a b k left after used now same h before behind =
      subst (λ (v : World). GoesTo g s v [] (with_stack t waiting.stack (with_room w b now (Calls address words)))) same
      (meets_step g s (here a used k) (with_stack t waiting.stack (with_room w b now (Calls address words))) [] []
      (subst (Meets g s (here a used k) []) (waits b now h.comes.last waiting.stack address words)
      (comes_to g s w here does turns goes a b k left after used now (core.Calls address words waiting.stack) h.comes before behind)))
  stack_leads (outcome.Trapped why) a b k left after used now same h before behind = (
    h.last,
    subst (λ (v : World). GoesTo g s v [] (with_stack t h.last (with_room w b now (Doomed t (core_name why))))) same
        (meets_step g s (here a used k) (with_stack t h.last (with_room w b now (Doomed t (core_name why)))) [] []
        (subst (Meets g s (here a used k) []) (traps b now h.last why)
        (comes_to g s w here does turns goes a b k left after used now (Traps why) h before behind))),
  )
  stack_leads (outcome.NoFuel later) a b k left after used now same h before behind =
      subst (λ (v : World). RunsFrom g s v [] (here b now later) Fuel) same (waits_at g s w here does turns goes a b k later left after used now h before behind)
  stack_leads outcome.Memory a b k left after used now same h before behind = tt

stack_here : (w : World) (t : ℕ) (task : Task) (k : Stack) (under : List Stack) → RunsStack w t task k under → with_stack t k (with_room w w.store w.units Runs) ≡ w
stack_here w t task k under runs =
    let stacks : k ∷ drop 1 task.stacks ≡ task.stacks = ap (λ (ks : List Stack). k ∷ drop 1 ks) runs.stacks ∙ sym runs.stacks in
    let whole : on_stack k task ≡ task = ap (λ (ks : List Stack). on_stacks ks task) stacks in
    let tasks : changed_at t (on_stack k) w.tasks ≡ w.tasks = changed_none t (on_stack k) w.tasks task runs.there whole in
    ap (λ (ts : List Task). record w { control = Runs; tasks = ts }) tasks ∙ ap (λ (c : Control). record w { control = c }) (sym runs.control)

pub stacks_lead : StacksLead
stacks_lead g s w t task k under outcome store left after runs before gives =
    with_used s w.units left after (λ used. StackLeads g s w t task under outcome store used) before (run_spends w.store store k outcome left after gives)
    (λ used behind. stack_leads g s w t task under runs.acts runs.there (ap (λ (ks : List Stack). drop 1 ks) runs.stacks) outcome w.store store k left after w.units used
    (stack_here w t task k under runs) gives before behind)
