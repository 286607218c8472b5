-- What is kept when the acting task's stack has run stands for a world to which the machine comes.
use Rattle.std.proofs.Common.{◌≡◌, ◌+◌, ◌-◌, ℕ, Bool, true, false, nat_eq, is_some, if◌then◌else◌, List, [], ◌∷◌, ◌++◌, map, length, drop, slice_set, refl, sym, ap, ◌∙◌, subst, append-nil, Option, Some, None}
use Rattle.std.specs.List.{slice_get}
use Rattle.std.specs.Option.{option_and_then}
use Rattle.wasm_store.specs.declared.trap.Trap.{Trap}
use Rattle.wasm_store.specs.declared.trap.Trap.TheVariants as core_trap
use Rattle.wasm_store.specs.Store.{Store}
use Rattle.wasm_store.specs.Stack.{Stack}
use Rattle.wasm_store.specs.Step.{resume}
use Rattle.wasm_execution.specs.Waiting.{Waiting}
use Rattle.wasm_execution.specs.Run.{RunGives}
use Rattle.wasm_execution.specs.declared.running.Outcome.{Outcome}
use Rattle.wasm_execution.specs.declared.running.Outcome.TheVariants as outcome
use Rattle.syntax_trees.specs.declared.types.ValType.{ValType}
use Rattle.tasks.specs.Tasks.{is_acting}
use Rattle.tasks.specs.declared.phase.Phase.{Phase}
use Rattle.tasks.specs.declared.phase.Phase.TheVariants as phase
use Rattle.comp_graph.specs.Graph.{Graph}
use Rattle.script_reader.specs.Script.{Script}
use Rattle.trace_labels.specs.declared.label.Label.{Label}
use Rattle.trace_labels.specs.declared.label.Label.TheVariants as line
use Rattle.task_table.specs.declared.errand.Errand.{Errand}
use Rattle.task_table.specs.declared.errand.Errand.TheVariants as errand
use Rattle.task_table.specs.declared.slot.TaskSlot.{TaskSlot}
use Rattle.task_table.specs.Slots.{at_call, at_errand}
use Rattle.world_parts.specs.declared.parts.Rest.TheVariants as rest
use Rattle.world_parts.specs.Held as kept
use Rattle.world_parts.specs.Held.{Held, Done, Gives, Traps, Spent, after, given}
use Rattle.world_parts.specs.Feed.{at_rest}
use Rattle.world_parts.specs.Slots.{errand_set, with_task}
use Rattle.world_stacks.specs.declared.host_call.HostCall.{HostCall}
use Rattle.world_stacks.specs.declared.top.Top.{Top}
use Rattle.world_stacks.specs.declared.top.Top.TheVariants as top
use Rattle.world_stacks.specs.Views.{PileView, stacks_of, stack_in}
use Rattle.world_stacks.specs.Piles.{with_top, going_back}
use Rattle.world_stacks.specs.Names as names
use Rattle.world_stacks.specs.Starting.{gives_words}
use Rattle.world_stacks.specs.Running.{called, ended_at, last_ended, ended_over, stack_ended}
use Rattle.abi_machine.specs.declared.run_end.RunEnd.TheVariants.{Fuel}
use Rattle.abi_machine.specs.Traps.{core_name}
use Rattle.abi_machine.specs.Control.{Control, Free, Runs, Calls, Instantiates, Doomed}
use Rattle.abi_machine.specs.World.{TaskState, Wait, New, Acting, AfterCall, AfterCancel, Begins, WaitsToEnter, InLoop, InBuiltin, Exited, Task, World}
use Rattle.abi_machine.specs.Canons.{flag_at}
use Rattle.abi_machine.specs.Counting.{phase_of}
use Rattle.abi_machine.specs.Edits as world
use Rattle.abi_machine.specs.Edits.{changed_at, with_stack, unstacked, in_state, answered_stacks}
use Rattle.abi_machine.specs.Reading.{func_of, kind_of}
use Rattle.abi_machine.specs.Turn as turns
use Rattle.abi_machine.specs.Turn.{Turn, Steps, goes_on_with}
use Rattle.abi_machine.specs.CoreSteps as machine
use Rattle.abi_machine.specs.CoreSteps.{func_ended}
use Rattle.abi_machine.specs.Next.{next}
use Rattle.abi_machine.specs.Run.{RunsFrom}
use Rattle.abi_machine.proofs.sound.Found.{some_same, changed_there}
use Rattle.standing.specs.Tasks.{TaskStands, errand_of}
use Rattle.standing.specs.Stands.{Stands}
use Rattle.standing.specs.Agreeing.{words_in, control_at}
use Rattle.standing.specs.Reaching.{GoesTo, Meets, with_room}
use Rattle.standing.specs.Leading.{ComesBy}
use Rattle.standing.specs.Runs.{RunsStack, StackLeads}
use Rattle.standing.specs.TaskRuns.{func_turn, FuncEnds, RunLeads, ActsStill, OutcomeLeads, RunsPile, TaskRunsLead}
use Rattle.standing.proofs.Lists.{IsFound, found_both}
use Rattle.standing.proofs.Changes.{acting_is_alike, tasks_change}
use Rattle.standing.proofs.Agreeing.{get_set, changed_twice}
use Rattle.standing.proofs.Reaching.{meets_step}
use Rattle.standing.proofs.Acting.{on_stacks, ended_alone, stacks_lead}
use Rattle.standing.proofs.Restacking.{other_way, room_stands, stacks_stand, tasks_stay, call_stays, set_changed, at_mapped}

pub traps_alike : (why : Trap) → core_name why ≡ names.core_name why
traps_alike core_trap.Unreachable = refl
traps_alike core_trap.DivideByZero = refl
traps_alike core_trap.DivideOverflow = refl
traps_alike core_trap.MemoryBounds = refl
traps_alike core_trap.TableBounds = refl
traps_alike core_trap.NullElement = refl
traps_alike core_trap.OtherSignature = refl
traps_alike core_trap.StackLimit = refl

-- the stacks of destructors
abbrev stacks_under : List HostCall → List Stack
stacks_under cs = map (λ (c : HostCall). c.waiting.stack) cs

func_turn_is : (g : Graph) (t : ℕ) (words : List ℕ) (u : World) (task : Task) → slice_get u.tasks t ≡ Some task
    → func_turn g t words u ≡ machine.stack_ended g t task Acting words u
unfolding machine.stack_ended
func_turn_is g t words u task there =
    ap (λ (o : Option Task). turns.given o (λ x. turns.given (func_of x.callee) (λ f. func_ended g t x f (kind_of x) words u))) there

begins_is : (g : Graph) (t n : ℕ) (task : Task) (words : List ℕ) (u : World)
    → machine.stack_ended g t task (Begins n) words u ≡ Steps [] (world.with_control (Instantiates n) (in_state t Acting u))
unfolding machine.stack_ended
begins_is g t n task words u = refl

over_is : (g : Graph) (t : ℕ) (task : Task) (words : List ℕ) (u : World) → machine.ended_over g t task [] words u ≡ machine.stack_ended g t task task.state words u
unfolding machine.ended_over
over_is g t task words u = refl

back_is : (g : Graph) (t : ℕ) (task : Task) (k : Stack) (under : List Stack) (words : List ℕ) (u : World)
    → machine.ended_over g t task (k ∷ under) words u ≡ Steps (line.Got t [] ∷ []) (goes_on_with t [] u)
unfolding machine.ended_over
back_is g t task k under words u = refl

-- Behind a run of a stack that stands over those of destructors. Of the world control is not read.
module _ (g : Graph) (values : List ValType) (s : Script) (w v : World) (h : Held) (before : List Label) (stacks : List (List Stack)) (t : ℕ) (task : Task) (k : Stack)
    (ws : List HostCall) (same : h.labels ≡ before) (acts : slice_get v.chain 0 ≡ Some t) (there : slice_get v.tasks t ≡ Some task)
    (piled : slice_get stacks t ≡ Some (k ∷ stacks_under ws)) (st : Stands g values s h stacks v) where
  abbrev pile : PileView
  pile = record { top = top.Empty; under = ws }

  found : IsFound (TaskStands g s) (slice_get h.tasks t) (slice_get v.tasks t)
  found = found_both (TaskStands g s) h.tasks v.tasks t st.are_tasks (ap is_some there)

  -- the stacks are others
  restacked : (f : List Stack → List Stack) (y : List Stack) → f (k ∷ stacks_under ws) ≡ y
      → Stands g values s h (slice_set stacks t y) (world.with_task t (λ task. record task { stacks = f task.stacks }) v)
  restacked f y e =
      subst (λ (x : List (List Stack)). Stands g values s h x (world.with_task t (λ task. record task { stacks = f task.stacks }) v))
      (set_changed stacks t (k ∷ stacks_under ws) y f piled e) (stacks_stand g values s h stacks v t f st)

  told_none : h.labels ≡ before ++ []
  told_none = same ∙ sym (append-nil before)

  pub calls_lead : (number : ℕ) (words : List ℕ) (waits : Waiting) → ActsStill task.state → GoesTo g s w [] (with_stack t waits.stack (world.with_control (Calls number words) v))
      → RunLeads g values s t w before stacks (after (called t number words h) (λ done k. Gives (None, with_top (top.Waits (record { address = number; waiting = waits })) pile) k))
  calls_lead number words waits acting to =
      let f : IsFound (TaskStands g s) (slice_get h.tasks t) (slice_get v.tasks t) = found in
      let slot : TaskSlot = f.left in
      let same : f.right ≡ task = some_same (sym f.is_right ∙ there) in
      let slot_acts : slot.task.phase ≡ phase.Acting = f.alike.far ∙ ap (λ (x : Task). phase_of (flag_at g) x.state) same ∙ acting (flag_at g) in
      let tasks : List TaskSlot = slice_set h.tasks t (at_call words slot) in
      subst
      (λ (o : Option TaskSlot). RunLeads g values s t w before stacks
      (after (after (given o (λ x. Gives tt (with_task t (at_call words x) h))) (λ (done : Unit {0}) k. Gives tt (at_rest (rest.Calls number) k)))
      (λ (done : Unit {0}) k. Gives (None, with_top (top.Waits (record { address = number; waiting = waits })) pile) k)))
      (sym f.is_left)
      (record {
        lines = [];
        world = with_stack t waits.stack (world.with_control (Calls number words) v);
        goes = to;
        stands = tasks_stay g values s h (slice_set stacks t (waits.stack ∷ stacks_under ws)) (with_stack t waits.stack v) t slot (at_call words slot) f.is_left
            (λ a now. call_stays g s slot a words slot_acts now) (restacked (λ ks. waits.stack ∷ drop 1 ks) (waits.stack ∷ stacks_under ws) refl);
        told = told_none;
        ends = sym (ap (λ (o : Option ℕ). Calls number (words_in (option_and_then (λ n. slice_get tasks n) o))) (acting_is_alike g values s h stacks v st ∙ acts)
            ∙ ap (λ (o : Option TaskSlot). Calls number (words_in o)) (get_set h.tasks t slot (at_call words slot) f.is_left));
      })

  -- where it stands when its acting stack has ended
  abbrev ended_world : World
  ended_world = unstacked t v

  ended_stands : Stands g values s h (slice_set stacks t (stacks_under ws)) ended_world
  ended_stands = restacked (λ ks. drop 1 ks) (stacks_under ws) refl

  ended_task : slice_get (ended_world).tasks t ≡ Some (on_stacks (drop 1 task.stacks) task)
  ended_task = changed_there t (λ x. record x { stacks = drop 1 x.stacks }) v.tasks task there

  -- the next one goes on
  back_leads : (fits b : Bool) (under : HostCall) (rest_under : List HostCall) (words : List ℕ) → ws ≡ under ∷ rest_under
      → Meets g s w [] (machine.ended_over g t task (stacks_under (under ∷ rest_under)) words ended_world)
      → RunLeads g values s t w before stacks (given (going_back (if fits then (if b then Some (resume [] under.waiting.stack) else None) else None) rest_under) (λ r. ended_over t words r.0 r.1 h))
  back_leads false b under rest_under words e m = tt
  back_leads true false under rest_under words e m = tt
  back_leads true true under rest_under words e m = record {
    lines = line.Got t [] ∷ [];
    world = goes_on_with t [] ended_world;
    goes = meets_step g s w (goes_on_with t [] ended_world) [] (line.Got t [] ∷ [])
        (subst (Meets g s w []) (back_is g t task under.waiting.stack (stacks_under rest_under) words ended_world) m);
    stands = subst (λ (tasks : List Task). Stands g values s h (slice_set stacks t (resume [] under.waiting.stack ∷ stacks_under rest_under)) (record v { tasks = tasks }))
        (sym (changed_twice t (λ x. record x { stacks = answered_stacks [] x.stacks }) (λ x. record x { stacks = drop 1 x.stacks }) v.tasks))
        (restacked (λ ks. answered_stacks [] (drop 1 ks)) (resume [] under.waiting.stack ∷ stacks_under rest_under) (ap (λ (xs : List HostCall). answered_stacks [] (stacks_under xs)) e));
    told = ap (λ (ls : List Label). ls ++ line.Got t [] ∷ []) same;
    ends = refl;
  }

  -- The task's function, or a start function, has ended.
  last_leads : (state : TaskState) (words : List ℕ) → ws ≡ [] → task.state ≡ state → Meets g s w [] (machine.stack_ended g t task state words ended_world)
      → RunLeads g values s t w before stacks
      (after (if is_acting (phase_of (flag_at g) state) then ended_at t words (errand_of state) h else kept.Stuck) (λ ended k. Gives (ended, pile) k))
  last_leads New words e is m = tt
  last_leads Acting words e is m = record {
    last = m.0;
    goes = m.1;
    world = ended_world;
    turn = m.2 ∙ sym (func_turn_is g t words ended_world (on_stacks (drop 1 task.stacks) task) ended_task ∙ ended_alone g t task (drop 1 task.stacks) Acting words ended_world);
    acts = acts;
    stands = ended_stands;
    told = same;
  }
  last_leads (AfterCall callee number passed) words e is m = tt
  last_leads (AfterCancel callee number passed) words e is m = tt
  last_leads (Begins n) words e is m =
      let f : IsFound (TaskStands g s) (slice_get h.tasks t) (slice_get v.tasks t) = found in
      let slot : TaskSlot = f.left in
      subst
      (λ (o : Option TaskSlot). RunLeads g values s t w before stacks
      (after (after (given o (λ x. Gives tt (with_task t (at_errand errand.None x) h))) (λ (done : Unit {0}) k. Gives None (at_rest (rest.Instantiates n) k)))
      (λ (ended : Option (List ℕ)) k. Gives (ended, pile) k)))
      (sym f.is_left)
      (record {
        lines = [];
        world = world.with_control (Instantiates n) (in_state t Acting ended_world);
        goes = meets_step g s w (world.with_control (Instantiates n) (in_state t Acting ended_world)) [] []
            (subst (Meets g s w []) (begins_is g t n task words ended_world) m);
        stands = tasks_change g values s h (slice_set stacks t (stacks_under ws)) ended_world t slot (at_errand errand.None slot) (λ x. record x { state = Acting }) f.is_left
            (λ a at now. begun_over slot a (ap (λ (x : Task). x.state) (some_same (sym at ∙ ended_task)) ∙ is) now) (λ x. refl) ended_stands;
        told = told_none;
        ends = refl;
      })
    where
      begun_over : (x : TaskSlot) (a : Task) → a.state ≡ Begins n → TaskStands g s x a → TaskStands g s (at_errand errand.None x) (record a { state = Acting })
      begun_over x a begins now = record {
        does = now.does;
        place = now.place;
        lifted = now.lifted;
        called = now.called;
        seen = now.seen;
        far = now.far ∙ ap (λ (state : TaskState). phase_of (flag_at g) state) begins;
        at = refl;
        resolved = now.resolved;
        cancelled = now.cancelled;
        words = now.words;
        placed = tt;
      }
  last_leads WaitsToEnter words e is m = tt
  last_leads (InLoop word) words e is m = tt
  last_leads (InBuiltin number passed wait) words e is m = tt
  last_leads Exited words e is m = tt

  -- what is looked up of it
  last_is : (words : List ℕ) → last_ended t words h ≡ (if is_acting (phase_of (flag_at g) task.state) then ended_at t words (errand_of task.state) h else kept.Stuck)
  last_is words =
      let f : IsFound (TaskStands g s) (slice_get h.tasks t) (slice_get v.tasks t) = found in
      let is_task : f.right ≡ task = some_same (sym f.is_right ∙ there) in
      ap (λ (o : Option TaskSlot). after (given o (λ x. Gives x.task.phase h)) (λ phase k. if is_acting phase then after (given (slice_get k.tasks t) (λ x. Gives x.errand k)) (λ e l. ended_at t words e l) else kept.Stuck)) f.is_left
      ∙ ap (λ (o : Option TaskSlot). if is_acting f.left.task.phase then after (given o (λ x. Gives x.errand h)) (λ e l. ended_at t words e l) else kept.Stuck) f.is_left
      ∙ ap (λ (p : Phase). if is_acting p then ended_at t words f.left.errand h else kept.Stuck) (f.alike.far ∙ ap (λ (x : Task). phase_of (flag_at g) x.state) is_task)
      ∙ ap (λ (e : Errand). if is_acting (phase_of (flag_at g) task.state) then ended_at t words e h else kept.Stuck) (f.alike.at ∙ ap (λ (x : Task). errand_of x.state) is_task)

  pub ends_lead : (under : List HostCall) (words : List ℕ) → ws ≡ under → Meets g s w [] (machine.ended_over g t task (stacks_under under) words ended_world)
      → RunLeads g values s t w before stacks (stack_ended t words (record { top = top.Empty; under = under }) h)
  ends_lead [] words e m =
      subst (λ (xs : List HostCall). RunLeads g values s t w before stacks (after (last_ended t words h) (λ ended k. Gives (ended, (let p : PileView = record { top = top.Empty; under = xs } in p)) k))) e
      (subst (λ (d : Done (Option (List ℕ))). RunLeads g values s t w before stacks (after d (λ ended k. Gives (ended, pile) k))) (sym (last_is words))
      (last_leads task.state words e refl (subst (Meets g s w []) (over_is g t task words ended_world) m)))
  ends_lead (one ∷ under) words e m = back_leads (gives_words h.store one.address []) (nat_eq one.waiting.count 0) one under words e m

  -- A trap, and want of fuel.
  pub traps_lead : (why : Trap) (last : Stack) → GoesTo g s w [] (with_stack t last (world.with_control (Doomed t (core_name why)) v))
      → RunLeads g values s t w before stacks (Traps (names.core_name why) h)
  traps_lead why last to = (
    slice_set stacks t (last ∷ stacks_under ws),
    record {
      lines = [];
      world = with_stack t last (world.with_control (Doomed t (core_name why)) v);
      goes = to;
      stands = restacked (λ ks. last ∷ drop 1 ks) (last ∷ stacks_under ws) refl;
      told = told_none;
      ends = (ap (Doomed t) (traps_alike why), acts);
    },
  )

  pub fuel_ends : (later : Stack) → RunsFrom g s w [] (with_stack t later (world.with_control Runs v)) Fuel → RunLeads g values s t w before stacks (Spent h)
  fuel_ends later to = (
    slice_set stacks t (later ∷ stacks_under ws),
    record {
      lines = [];
      last = with_stack t later (world.with_control Runs v);
      runs = to;
      stands = restacked (λ ks. later ∷ drop 1 ks) (later ∷ stacks_under ws) refl;
      told = told_none;
    },
  )

outcome_leads : (g : Graph) (values : List ValType) (s : Script) (h : Held) (stacks : List (List Stack)) (w : World) (t : ℕ) (task : Task) (p : PileView) (k : Stack)
    (o : Outcome) (store : Store) (left used : ℕ) → slice_get w.chain 0 ≡ Some t → slice_get w.tasks t ≡ Some task → ActsStill task.state → slice_get stacks t ≡ Some (k ∷ stacks_under p.under)
    → Stands g values s (record h { store = store; left = left }) stacks (with_room w store used Free) → StackLeads g s w t task (stacks_under p.under) o store used
    → OutcomeLeads g values s t w h.labels stacks (with_top top.Empty p) o (record h { store = store; left = left })
outcome_leads g values s h stacks w t task p k (outcome.Done words) store left used acts there acting piled st to =
    ends_lead g values s w (with_room w store used Free) (record h { store = store; left = left }) h.labels stacks t task k p.under refl acts there piled st p.under words refl to
outcome_leads g values s h stacks w t task p k (outcome.Calls number words waits) store left used acts there acting piled st to =
    calls_lead g values s w (with_room w store used Free) (record h { store = store; left = left }) h.labels stacks t task k p.under refl acts there piled st number words waits acting to
outcome_leads g values s h stacks w t task p k (outcome.Trapped why) store left used acts there acting piled st to =
    traps_lead g values s w (with_room w store used Free) (record h { store = store; left = left }) h.labels stacks t task k p.under refl acts there piled st why to.0 to.1
outcome_leads g values s h stacks w t task p k (outcome.NoFuel later) store left used acts there acting piled st to =
    fuel_ends g values s w (with_room w store used Free) (record h { store = store; left = left }) h.labels stacks t task k p.under refl acts there piled st later to
outcome_leads g values s h stacks w t task p k outcome.Memory store left used acts there acting piled st to = tt

pub task_runs_lead : TaskRunsLead
task_runs_lead g values s h stacks w t p k o store left runs st gives =
    let whole : slice_get stacks t ≡ Some (k ∷ stacks_under p.under) =
    runs.piled ∙ ap (λ (x : Top). Some (stack_in x ++ stacks_under p.under)) runs.goes in
    let at : (x : Task) × (slice_get w.tasks t ≡ Some x) × (x.stacks ≡ k ∷ stacks_under p.under) =
    at_mapped (λ (x : Task). x.stacks) w.tasks t (k ∷ stacks_under p.under) (ap (λ (xs : List (List Stack)). slice_get xs t) (sym st.same_stacks) ∙ whole) in
    let task : Task = at.0 in
    let here : RunsStack w t task k (stacks_under p.under) = record { control = runs.control; acts = runs.acts; there = at.1; stacks = at.2 } in
    let before : w.units + h.left ≡ s.fuel = other_way h.left w.units s.fuel st.fuel in
    let to = stacks_lead g s w t task k (stacks_under p.under) o store h.left left here before (subst (λ (a : Store). RunGives a k h.left o store left) st.same_store gives) in
    let sum : left + to.0 ≡ s.fuel = other_way to.0 left s.fuel to.1 in
    outcome_leads g values s h stacks w t task p k o store left to.0 runs.acts at.1 (runs.acting task at.1) whole (room_stands g values s h stacks w store left to.0 Free sum st) to.2
