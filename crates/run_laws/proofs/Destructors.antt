-- Tasks that run destructors: how they enter, and how they end.
use Rattle.std.proofs.Common.{◌≡◌, ℕ, is_some, List, [], ◌∷◌, ◌++◌, refl, sym, ap, ◌∙◌, subst, append-nil, Option, Some, None, Result, Ok, Err}
use Rattle.std.specs.Prelude.{IsSome}
use Rattle.std.specs.List.{slice_get}
use Rattle.wasm_store.specs.Store.{found_at}
use Rattle.wasm_store.specs.Stack.{Stack}
use Rattle.wasm_store.specs.Step.{start}
use Rattle.syntax_trees.specs.declared.types.ValType.{ValType}
use Rattle.syntax_trees.specs.declared.value.Value.{Value}
use Rattle.entry_gate.specs.declared.kind.Kind.TheVariants.{Sync}
use Rattle.tasks.specs.declared.phase.Resolution.TheVariants as resolution
use Rattle.comp_graph.specs.declared.graph.CanonFunc.{CanonFunc}
use Rattle.comp_graph.specs.declared.graph.FuncRef.{FuncRef}
use Rattle.comp_graph.specs.declared.graph.Lift.{Lift}
use Rattle.comp_graph.specs.Graph.{Graph, Lifted}
use Rattle.comp_graph.specs.Needs.{flat_result_limit}
use Rattle.graph_views.specs.Callees.{lift_of, destructor_lift}
use Rattle.script_reader.specs.Script.{Script}
use Rattle.trace_labels.specs.declared.label.Label.{Label}
use Rattle.trace_labels.specs.declared.label.Label.TheVariants as line
use Rattle.trace_labels.specs.declared.typed.TypedValue.{TypedValue}
use Rattle.task_table.specs.declared.caller.Caller as kept_caller
use Rattle.task_table.specs.declared.caller.Caller.TheVariants as by
use Rattle.task_table.specs.declared.errand.Callee as kept_callee
use Rattle.task_table.specs.declared.slot.TaskSlot.{TaskSlot}
use Rattle.task_table.specs.Callers.{called_of}
use Rattle.programs.specs.declared.program.Program.{Program}
use Rattle.programs.specs.Program.{returned_of}
use Rattle.world_parts.specs.declared.parts.Flow.{Flow}
use Rattle.world_parts.specs.declared.parts.Flow.TheVariants as flow
use Rattle.world_parts.specs.declared.parts.Parts.{Parts}
use Rattle.world_parts.specs.declared.parts.Rest.TheVariants as rest
use Rattle.world_parts.specs.declared.parts.Stop.{Stop}
use Rattle.world_parts.specs.declared.parts.Stop.TheVariants as stop
use Rattle.world_parts.specs.Held as kept
use Rattle.world_parts.specs.Held.{Held, Done, Gives, after, given}
use Rattle.world_parts.specs.Feed.{at_rest}
use Rattle.world_parts.specs.Places as places
use Rattle.world_parts.specs.Plain.{returned}
use Rattle.world_parts.specs.Slots.{word_in}
use Rattle.world_stacks.specs.PostReturns.{PostReturns}
use Rattle.value_parts.specs.Coming.{Behind, Then}
use Rattle.value_parts.specs.Passing.{result_lifted, ended_lifted}
use Rattle.value_moves.specs.Entering.{ArgumentsCome, entered, started_by}
use Rattle.value_moves.specs.Resolving.{PassesOn, Resolves, Settles, PostReturnsTo, Ends}
use Rattle.value_moves.specs.Passing.{lift_at, SyncEnds}
use Rattle.abi_machine.specs.Canons.{func_address, canon_at, inst_of_canon, options_of_canon, memory_of, bytes_of, defines, destructor_of}
use Rattle.abi_machine.specs.Control as control
use Rattle.abi_machine.specs.Control.{After, Finishes, Free, Lowering, Lowers}
use Rattle.abi_machine.specs.CoreSteps.{func_ended}
use Rattle.abi_machine.specs.Edits as world
use Rattle.abi_machine.specs.Edits.{with_control, in_state}
use Rattle.abi_machine.specs.Entering as entering
use Rattle.abi_machine.specs.Entering.{arguments_lowering, with_arguments, arguments_turn}
use Rattle.abi_machine.specs.Lifting.{Came, nothing_lifted, once_lifted}
use Rattle.abi_machine.specs.Lowering.{started, lowered, paused, settled_turn, lowers_turn}
use Rattle.abi_machine.specs.LoweringOver as plans
use Rattle.abi_machine.specs.Next.{next}
use Rattle.abi_machine.specs.Passing as machine
use Rattle.abi_machine.specs.Passing.{arguments_plan}
use Rattle.abi_machine.specs.Pausing.{entries_by}
use Rattle.abi_machine.specs.Reading as reading
use Rattle.abi_machine.specs.Reading.{func_of}
use Rattle.abi_machine.specs.Returning.{result_passed, finished, passed_on, resolves_to, resolves, returning_turn}
use Rattle.abi_machine.specs.Turn as turns
use Rattle.abi_machine.specs.Turn.{Turn, Steps, behind}
use Rattle.abi_machine.specs.World.{Acting, Destroys, Nobody, Host, Guest, Callee, Caller, Subtask, Task, World}
use Rattle.abi_machine.proofs.sound.Found.{some_same}
use Rattle.standing.specs.Tasks as standing_tasks
use Rattle.standing.specs.Tasks.{CallerStands, TaskStands}
use Rattle.standing.specs.Agreeing.{starts, enters}
use Rattle.standing.specs.Leading.{ComesBy}
use Rattle.standing.specs.Moves.{Acts}
use Rattle.standing.specs.PostReturns.{NestedComes}
use Rattle.standing.specs.Reaching.{Meets}
use Rattle.standing.proofs.KeptMarks.{borrows_are_counted}
use Rattle.standing.proofs.Lists.{IsFound, found_both, found_left}
use Rattle.standing.proofs.PostReturns.{post_returns_lead}
use Rattle.standing.proofs.Reaching.{goes_none}
use Rattle.standing.proofs.Steps.{turn_found, behind_none, func_acts, changed_there}
use Rattle.run_laws.specs.Taking.{StandsMarked}
use Rattle.run_laws.specs.Copied.{TurnLeads}
use Rattle.run_laws.specs.Destructors.{RunsDestructor, PassesRep, DestructorEnters, DestructorEnds}
use Rattle.run_laws.specs.Results.{LeadsOnBy, MarksBehind}
use Rattle.run_laws.proofs.Destroyed.{IsDestroyed, destroyed_is, rep_value, rep_lifted, rep_planned, left_same}
use Rattle.run_laws.proofs.Entering.{EntersAs, entered_so}
use Rattle.run_laws.proofs.Giving.{behind_gives}
use Rattle.run_laws.proofs.LeadsOn.{leads_then}
use Rattle.run_laws.proofs.OnceLifted.{behind_leads}
use Rattle.run_laws.proofs.Returned.{HasReturned, returned_leads}

-- What comes next where the word is lowered: the core function starts with it.
module _ (g : Graph) (s : Script) (v : World) (t : ℕ) (task : Task) (i : ℕ) (core : FuncRef) (word : ℕ) (acts : Acts v t task (destructor_of i core)) where
  abbrev one : Lifted
  one = destructor_of i core

  abbrev l : Lowering
  l = arguments_lowering v.store t one

  abbrev plan : plans.Plan
  plan = arguments_plan (entries_by (defines g i)) one.func_type (rep_value word)

  abbrev u : World
  u = with_control (Lowers l plan) v

  abbrev z : World
  z = with_control Free v

  abbrev acts_then : Acts z t task one
  acts_then = record { first = acts.first; there = acts.there; runs = acts.runs; inside = acts.inside }

  starts_so : started (word ∷ []) z ≡ starts t core (word ∷ []) z
  unfolding started
  starts_so =
      func_acts z t task one
      (λ t task f. turns.given (found_at z.store.funcs (func_address z.store f.core)) (λ function. turns.silent control.Runs (world.stacked t (start function.1 function.0 (word ∷ [])) z))) acts_then

  lowers_so : next g s u ≡ starts t core (word ∷ []) z
  unfolding lowers_turn settled_turn paused lowered
  lowers_so =
      ap (λ (q : plans.Plan). lowers_turn l q z) (rep_planned (entries_by (defines g i)) word)
      ∙ ap (λ (q : World). started (word ∷ []) q) (left_same i z) ∙ starts_so

-- It enters.
module _ (p : Program) (values : List ValType) (s : Script) (h : Held) (stacks : List (List Stack)) (w : World) (t : ℕ) (task : Task) (f : Lifted) (o : RunsDestructor w t task f)
    (rep : (subtask : Subtask) → task.caller ≡ Guest subtask → PassesRep p.graph.now subtask) (d : Done Flow) where
  abbrev g : Graph
  g = p.graph.now

  abbrev v : World
  v = in_state t Acting w

  acts_now : Acts v t (record task { state = Acting }) f
  acts_now = record {
    first = o.acts.first;
    there = changed_there t (λ (x : Task). record x { state = Acting }) w.tasks task o.acts.there;
    runs = o.acts.runs;
    inside = o.acts.inside;
  }

  abbrev Leads : List Label → Turn → Type 0
  Leads before turn = TurnLeads g values s t before stacks d turn

  none : (before : List Label) (turn : Turn) → d ≡ kept.Stuck → Leads before turn
  none before turn is = subst (λ (x : Done Flow). TurnLeads g values s t before stacks x turn) (sym is) tt

  module _ (c : kept_callee.Callee) (k : Held) (a : EntersAs g values s stacks h w t c k) (is : IsDestroyed g c f) where
    -- Where the words are known.
    starts_lead : (subtask : Subtask) (c : CanonFunc) (word : ℕ) → word_in (word ∷ []) 0 ≡ Some word → subtask.words ≡ word ∷ []
        → d ≡ Gives (flow.Starts is.core (word ∷ [])) (at_rest rest.Runs k)
        → Leads k.labels (once_lifted t (entering.arguments_passed t f subtask c v) (λ y later. with_arguments g t f y later))
    unfolding entering.arguments_passed with_arguments
    starts_lead subtask c word small alone gives =
        let one : Lifted = destructor_of is.instance is.core in
        let acts : Acts v t (record task { state = Acting }) one = subst (λ (x : Lifted). Acts v t (record task { state = Acting }) x) is.func acts_now in
        let l : Lowering = arguments_lowering v.store t one in
        let plan : plans.Plan = arguments_plan (entries_by (defines g is.instance)) one.func_type (rep_value word) in
        let u : World = with_control (Lowers l plan) v in
        let z : World = with_control Free v in
        let turn : once_lifted t (entering.arguments_passed t f subtask c v) (λ y later. with_arguments g t f y later) ≡ Steps [] u =
        ap (λ (x : Lifted). once_lifted t (entering.arguments_passed t x subtask c v) (λ y later. with_arguments g t x y later)) is.func
        ∙ ap (λ (r : Came Value). once_lifted t r (λ y later. with_arguments g t one y later))
        (ap (λ (ws : List ℕ). machine.arguments_lifted (inst_of_canon c) t (options_of_canon c).is_async one.func_type (bytes_of v.store (memory_of v.store (options_of_canon c))) ws v) alone
        ∙ rep_lifted (inst_of_canon c) t (options_of_canon c).is_async (bytes_of v.store (memory_of v.store (options_of_canon c))) word v small) in
        subst (λ (x : Done Flow). TurnLeads g values s t k.labels stacks x (once_lifted t (entering.arguments_passed t f subtask c v) (λ y later. with_arguments g t f y later))) (sym gives)
        (record {
          lines = [];
          world = u;
          is = turn;
          leads = record {
            lines = [];
            next = starts t is.core (word ∷ []) z;
            meets = (u, goes_none g s u, lowers_so g s v t (record task { state = Acting }) is.instance is.core word acts);
            agrees = record {
              lines = [];
              world = z;
              stands = a.stage.marked.stands;
              told = sym (append-nil k.labels) ∙ sym (append-nil (k.labels ++ [])) ∙ sym (append-nil ((k.labels ++ []) ++ []));
              ends = (refl, sym (behind_none (starts t is.core (word ∷ []) z)));
            };
          };
        })

    -- by who called
    abbrev Starting : List ℕ → Held → Done Flow → Type 0
    Starting words j e = e ≡ started_by p c words j

    started_so : (words : List ℕ) → started_by p c words k ≡ Gives (flow.Starts is.core words) (at_rest rest.Runs k)
    started_so words =
        ap (λ (q : kept_callee.Callee). given (lift_of g q) (λ lift. Gives (flow.Starts lift.core words) (at_rest rest.Runs k))) is.is
        ∙ ap (λ (q : Option Lift). given q (λ lift. Gives (flow.Starts lift.core words) (at_rest rest.Runs k))) is.lift

    some_there : (q : Option CanonFunc) → IsSome q → (z : CanonFunc) × (q ≡ Some z)
    some_there None there = absurd (let w : ⊥ = cc in w)
    some_there (Some z) there = (z, refl)

    by_caller : (q : kept_caller.Caller) (y : Caller) → task.caller ≡ y → CallerStands s q y → Behind (given (called_of q) (λ called. Gives called.words k)) Starting d
        → Leads k.labels (arguments_turn g t f y v)
    unfolding arguments_turn
    by_caller by.Nobody Nobody same st comes = none k.labels _ comes
    by_caller by.Nobody (Host call all) same st comes = absurd st
    by_caller by.Nobody (Guest subtask) same st comes = absurd st
    by_caller (by.Host number) Nobody same st comes = absurd st
    by_caller (by.Host number) (Host call all) same st comes = none k.labels _ comes
    by_caller (by.Host number) (Guest subtask) same st comes = absurd st
    by_caller (by.Guest called) Nobody same st comes = absurd st
    by_caller (by.Guest called) (Host call all) same st comes = absurd st
    by_caller (by.Guest called) (Guest subtask) same st comes =
        let passes : PassesRep g subtask = rep subtask same in
        let made : (z : CanonFunc) × (canon_at g subtask.canon ≡ Some z) = some_there (canon_at g subtask.canon) passes.made in
        subst (λ (turn : Turn). Leads k.labels turn)
        (sym (turn_found (canon_at g subtask.canon) made.0 (λ z. once_lifted t (entering.arguments_passed t f subtask z v) (λ y later. with_arguments g t f y later)) made.1))
        (starts_lead subtask made.0 passes.rep passes.small passes.alone
        (comes ∙ started_so called.words ∙ ap (λ (ws : List ℕ). Gives (flow.Starts is.core ws) (at_rest rest.Runs k)) (st.passed ∙ passes.alone)))

    enters_so : (mid : Done (List ℕ)) → CallerStands s a.slot.caller task.caller → ArgumentsCome p t c k mid → Behind mid Starting d → Leads k.labels (arguments_turn g t f task.caller v)
    enters_so mid called comes follows =
        by_caller a.slot.caller task.caller refl called
        (subst (λ (q : Done (List ℕ)). Behind q Starting d)
        (subst (λ (x : kept_callee.Callee). ArgumentsCome p t x k mid) is.is comes
        ∙ ap (λ (q : Option TaskSlot). given q (λ slot. given (called_of slot.caller) (λ called. Gives called.words k))) a.there)
        follows)

pub destructor_enters : DestructorEnters
unfolding entering.entered
destructor_enters p values s h stacks w t task f d o rep marked all =
    let g : Graph = p.graph.now in
    let v : World = in_state t Acting w in
    let turn : enters g t w ≡ behind (line.Enter t ∷ []) (arguments_turn g t f task.caller v) =
    turn_found (reading.task_at w t) task (λ task. turns.given (func_of task.callee) (λ f. entering.entered g t task f w)) o.acts.there
    ∙ turn_found (func_of task.callee) f (λ f. entering.entered g t task f w) o.acts.runs in
    subst (λ (q : Turn). TurnLeads g values s t h.labels stacks d q) (sym turn)
    (behind_leads g values s t h.labels (line.Enter t ∷ []) stacks d (arguments_turn g t f task.caller v)
    (behind_gives (λ c k. EntersAs g values s stacks h w t c k) (λ (x : Done Flow). TurnLeads g values s t (h.labels ++ line.Enter t ∷ []) stacks x (arguments_turn g t f task.caller v)) (entered t h)
    (λ c k e. Then (ArgumentsCome p t c k) (λ words l x. x ≡ started_by p c words l) e) d
    (entered_so g values s stacks h w t marked) tt
    (λ c k a comes.
    (let both : IsFound (TaskStands g s) (slice_get k.tasks t) (slice_get v.tasks t) = found_left (TaskStands g s) k.tasks v.tasks t a.slot a.stage.marked.stands.are_tasks a.there in
    let left : both.left ≡ a.slot = some_same (sym both.is_left ∙ a.there) in
    let right : both.right ≡ record task { state = Acting } = some_same (sym both.is_right ∙ changed_there t (λ (x : Task). record x { state = Acting }) w.tasks task o.acts.there) in
    let alike : TaskStands g s a.slot (record task { state = Acting }) =
    subst (λ (x : Task). TaskStands g s a.slot x) right (subst (λ (x : TaskSlot). TaskStands g s x both.right) left both.alike) in
    let runs : standing_tasks.callee_of g c ≡ Some (Destroys o.resource f) =
    ap (λ (x : kept_callee.Callee). standing_tasks.callee_of g x) (sym a.runs) ∙ alike.does ∙ ap (λ (x : Callee). Some x) o.runs in
    subst (λ (ls : List Label). TurnLeads g values s t ls stacks d (arguments_turn g t f task.caller v)) a.stage.told
    (enters_so p values s h stacks w t task f o rep d c k a (destroyed_is g c o.resource f runs) comes.0 alike.called comes.1 comes.2))) all))

-- It ends.
none_passed_on : (g : Graph) (t : ℕ) (a : Caller) (next : After) (z : World) → passed_on g t a next None z ≡ finished next z
unfolding passed_on
none_passed_on g t Nobody next z = refl
none_passed_on g t (Host call vs) next z = refl
none_passed_on g t (Guest sub) next z = refl

module _ (p : Program) (values : List ValType) (s : Script) (h : Held) (stacks : List (List Stack)) (u w : World) (t : ℕ) (task : Task) (f : Lifted) (words : List ℕ) (before lines ahead : List Label)
    (o : RunsDestructor w t task f) (marks : MarksBehind (ended_lifted p t words h)) (marked : StandsMarked p.graph.now values s h stacks w) (labels : h.labels ≡ before ++ (lines ++ ahead)) where
  abbrev graph : Graph
  graph = p.graph.now

  abbrev LeadsOf : {A : Type 0} → (A → Held → Type 0) → Done A → Type 0
  LeadsOf G d = LeadsOnBy graph values s t u before stacks G d

  -- the task as it is kept
  abbrev both_tasks : IsFound (TaskStands graph s) (slice_get h.tasks t) (slice_get w.tasks t)
  both_tasks = found_both (TaskStands graph s) h.tasks w.tasks t marked.stands.are_tasks (ap is_some o.acts.there)

  abbrev slot : TaskSlot
  slot = both_tasks.left

  alike : TaskStands graph s slot task
  alike = subst (λ (a : Task). TaskStands graph s slot a) (some_same (sym both_tasks.is_right ∙ o.acts.there)) both_tasks.alike

  is : IsDestroyed graph slot.callee f
  is = destroyed_is graph slot.callee o.resource f (alike.does ∙ ap (λ (c : Callee). Some c) o.runs)

  abbrev lift : Lift
  lift = destructor_lift is.instance is.core

  -- Nothing is lifted, and the post-return is none.
  lifts_none : ended_lifted p t words h ≡ Gives None h
  unfolding ended_lifted result_lifted
  lifts_none =
      let by_callee : kept_callee.Callee → Held → Done (Option TypedValue) = λ c k. given (lift_of graph c) (λ y. result_lifted p t (returned_of p c) (places.memory_of y.options k) 1 words k) in
      ap (λ (q : Option TaskSlot). after (given q (λ x. Gives x.callee h)) by_callee) both_tasks.is_left
      ∙ ap (λ (c : kept_callee.Callee). by_callee c h) is.is
      ∙ ap (λ (q : Option Lift). given q (λ y. (let gives : Done (Option TypedValue) = Gives None h in gives))) is.lift

  lift_found : lift_at p t h ≡ Gives lift h
  lift_found =
      ap (λ (q : Option TaskSlot). after (given q (λ x. Gives x.callee h)) (λ c k. given (lift_of graph c) (λ y. Gives y k))) both_tasks.is_left
      ∙ ap (λ (c : kept_callee.Callee). given (lift_of graph c) (λ y. Gives y h)) is.is
      ∙ ap (λ (q : Option Lift). given q (λ y. Gives y h)) is.lift

  came_none : result_passed f.instance t flat_result_limit f.func_type.result f.options words w ≡ Ok (None, nothing_lifted 0 w)
  unfolding result_passed
  came_none = ap (λ (x : Lifted). result_passed x.instance t flat_result_limit x.func_type.result x.options words w) is.func

  meets_so : Meets graph s u lines (behind ahead (func_ended graph t task f Sync words w)) → Meets graph s u lines (behind ahead (resolves_to graph t task (Finishes words) None w))
  unfolding func_ended returning_turn resolves
  meets_so meets =
      subst (λ (turn : Turn). Meets graph s u lines (behind ahead turn)) (behind_none (resolves_to graph t task (Finishes words) None w))
      (subst (λ (c : Came (Option TypedValue)). Meets graph s u lines (behind ahead (once_lifted t c (λ result v. resolves_to graph t task (Finishes words) result v)))) came_none meets)

  abbrev HasGone : Unit {0} → Held → Type 0
  HasGone done j = HasReturned graph values s t u before stacks None h w task (Finishes words) lines ahead j

  abbrev IsExiting : Unit {0} → Held → Type 0
  IsExiting done l = ComesBy graph values s u before l stacks (λ v. v.control ≡ control.Leaves)

  has_gone : Meets graph s u lines (behind ahead (func_ended graph t task f Sync words w)) → LeadsOf HasGone (returned t None h)
  has_gone meets =
      returned_leads graph values s t u before stacks None h w task task (Finishes words) lines ahead slot both_tasks.is_left alike
      (borrows_are_counted graph values s h stacks w t marked.stands (marks None h lifts_none) slot both_tasks.is_left) refl labels marked.stands (meets_so meets)

  settles : (result : Result (Unit {0}) Stop) (new : Parts) (e : Done (Unit {0})) → NestedComes graph values s t u before stacks result new → Settles e result new → LeadsOf IsExiting e
  settles (Ok x) new e comes same = subst (λ (d : Done (Unit {0})). LeadsOf IsExiting d) (sym same) comes
  settles (Err (stop.Trap why)) new e comes same = subst (λ (d : Done (Unit {0})). LeadsOf IsExiting d) (sym same) comes
  settles (Err stop.NoFuel) new e comes same = subst (λ (d : Done (Unit {0})). LeadsOf IsExiting d) (sym same) comes
  settles (Err stop.Stuck) new e comes same = subst (λ (d : Done (Unit {0})). LeadsOf IsExiting d) (sym same) tt
  settles (Err stop.Memory) new e comes same = absurd same

  exits : (j : Held) (e : Done (Unit {0})) → HasGone tt j → PostReturnsTo p t None words j e → LeadsOf IsExiting e
  exits j e r runs =
      let z : World = world.resolved t resolution.Returned w in
      let change : Task → Task = λ x. record x { resolution = Some resolution.Returned } in
      let gone : List Label = ahead ++ line.Return t None ∷ [] in
      let none : (let post : Option FuncRef = None in post) ≡ f.options.post_return = ap (λ (x : Lifted). x.options.post_return) (sym is.func) in
      settles runs.0 runs.1 e
      (post_returns_lead graph values s j stacks u z t (change task) f before lines gone words runs.0 runs.1 o.acts.first (changed_there t change w.tasks task o.acts.there) o.acts.runs r.stands r.told
      (subst (λ (turn : Turn). Meets graph s u lines (behind gone turn)) (none_passed_on graph t task.caller (Finishes words) z) r.meets)
      (subst (λ (post : Option FuncRef). PostReturns graph t post words j runs.0 runs.1) none runs.2)) runs.3

  ends_lead : (mid : Done (Unit {0})) → Meets graph s u lines (behind ahead (func_ended graph t task f Sync words w)) → Ends p t None words h mid → LeadsOf IsExiting mid
  ends_lead mid meets all =
      leads_then graph values s t u before stacks HasGone IsExiting all.0 (λ (done : Unit {0}) k e. PostReturnsTo p t None words k e) mid
      (leads_then graph values s t u before stacks HasGone HasGone (returned t None h) (λ (done : Unit {0}) k e. PassesOn p t None k e) all.0 (has_gone meets)
      (λ done j gives r same. subst (λ (d : Done (Unit {0})). LeadsOf HasGone d) (sym same) r)
      (subst (λ (q : Done (Option TypedValue)). Behind q (λ value k e. Resolves p t value k e) all.0) lifts_none all.1))
      (λ done j gives r runs. exits j mid r runs)
      all.2

  sync_ends : (d : Done Flow) → Meets graph s u lines (behind ahead (func_ended graph t task f Sync words w)) → SyncEnds p t words h d
      → LeadsOf (λ what k. (what ≡ flow.Rests) × ComesBy graph values s u before k stacks (λ v. v.control ≡ control.Leaves)) d
  sync_ends d meets all =
      let here : (mid : Done (Unit {0})) × Ends p t None words h mid × Behind mid (λ (done : Unit {0}) l x. x ≡ Gives flow.Rests l) d =
      subst (λ (q : Done Lift). Behind q (λ y k x. Then (Ends p t y.options.post_return words k) (λ (done : Unit {0}) l z. z ≡ Gives flow.Rests l) x) d) lift_found all in
      leads_then graph values s t u before stacks IsExiting (λ what k. (what ≡ flow.Rests) × ComesBy graph values s u before k stacks (λ v. v.control ≡ control.Leaves)) here.0
      (λ (done : Unit {0}) l x. x ≡ Gives flow.Rests l) d (ends_lead here.0 meets here.1)
      (λ done l gives comes same.
      subst (λ (x : Done Flow). LeadsOf (λ what k. (what ≡ flow.Rests) × ComesBy graph values s u before k stacks (λ v. v.control ≡ control.Leaves)) x) (sym same) (refl, comes))
      here.2

pub destructor_ends : DestructorEnds
destructor_ends p values s h stacks u w t task f words before lines ahead d o marks marked labels meets all =
    sync_ends p values s h stacks u w t task f words before lines ahead o marks marked labels d meets all
