-- Results that are passed: by `task.return`, and behind the core function of a task that is lifted without `async`.
use Rattle.std.proofs.Common.{◌≡◌, ℕ, zero, suc, Bool, false, not, is_some, if◌then◌else◌, List, [], ◌∷◌, ◌++◌, refl, sym, ap, ◌∙◌, subst, append_assoc, Option, Some, None, Result, Ok, Err}
use Rattle.std.specs.List.{slice_get, AllZip}
use Rattle.std.specs.Option.{option_map, option_and_then}
use Rattle.wasm_store.specs.Store.{Store, found_at}
use Rattle.wasm_store.specs.Stack.{Stack}
use Rattle.syntax_trees.specs.declared.types.ValType.{ValType}
use Rattle.laid_types.specs.Handles.{held_borrow}
use Rattle.laid_types.specs.Known.{Numbered, numbered_at}
use Rattle.entry_gate.specs.declared.kind.Kind.TheVariants.{Sync}
use Rattle.tasks.specs.declared.phase.Resolution.TheVariants as resolution
use Rattle.comp_graph.specs.declared.graph.Builtin.{Builtin}
use Rattle.comp_graph.specs.declared.graph.BuiltinKind.{BuiltinKind}
use Rattle.comp_graph.specs.declared.graph.CanonFunc.TheVariants as canon
use Rattle.comp_graph.specs.declared.graph.FuncRef.{FuncRef}
use Rattle.comp_graph.specs.declared.graph.Lift.{Lift}
use Rattle.comp_graph.specs.declared.graph.Options.{Options}
use Rattle.comp_graph.specs.Graph.{Graph, Lifted}
use Rattle.comp_graph.specs.Passed.{MayBeAt}
use Rattle.graph_views.specs.Callees.{lift_of}
use Rattle.graph_views.specs.Canons as seen
use Rattle.script_reader.specs.Script.{Script}
use Rattle.trace_labels.specs.declared.label.Label.{Label}
use Rattle.trace_labels.specs.declared.label.Label.TheVariants as line
use Rattle.trace_labels.specs.declared.trap.TrapName.TheVariants as trap
use Rattle.trace_labels.specs.declared.typed.TypedValue.{TypedValue}
use Rattle.task_table.specs.declared.errand.Callee as kept_callee
use Rattle.task_table.specs.declared.slot.TaskSlot.{TaskSlot}
use Rattle.programs.specs.declared.program.Program.{Program}
use Rattle.programs.specs.Program.{value_of, returned_of}
use Rattle.return_replies.specs.Returns as tests
use Rattle.return_replies.specs.Returns.{type_of, checked, return_checked}
use Rattle.world_parts.specs.declared.parts.Flow.{Flow}
use Rattle.world_parts.specs.declared.parts.Flow.TheVariants as flow
use Rattle.world_parts.specs.declared.parts.Parts.{Parts}
use Rattle.world_parts.specs.declared.parts.Rest.{Rest}
use Rattle.world_parts.specs.declared.parts.Stop.{Stop}
use Rattle.world_parts.specs.declared.parts.Stop.TheVariants as stop
use Rattle.world_parts.specs.Held.{Held, Done, Gives, Traps, after, given}
use Rattle.world_parts.specs.Feed.{got}
use Rattle.world_parts.specs.Places as places
use Rattle.world_parts.specs.Plain.{returned}
use Rattle.value_parts.specs.Coming.{Behind, Then}
use Rattle.value_parts.specs.Passing.{result_lifted, ended_lifted, returned_lifted}
use Rattle.value_moves.specs.Resolving.{PassesOn, Resolves, Settles, PostReturnsTo, Ends, type_by, return_tested, ReturnResolves, TestedResolves, Returns}
use Rattle.value_moves.specs.Passing.{lift_at, SyncEnds}
use Rattle.abi_machine.specs.LiftingOver as machine
use Rattle.abi_machine.specs.Control as control
use Rattle.abi_machine.specs.Control.{After, Replies, Finishes, Calls}
use Rattle.abi_machine.specs.World.{Func, Callee, Task, World}
use Rattle.abi_machine.specs.Edits as world
use Rattle.abi_machine.specs.Canons.{memory_of, canon_at, options_at, options_in, options_of_kind}
use Rattle.abi_machine.specs.CoreSteps.{func_ended}
use Rattle.abi_machine.specs.Counting.{borrows_of}
use Rattle.abi_machine.specs.Lifting as lifting
use Rattle.abi_machine.specs.Lifting.{Came}
use Rattle.comp_graph.specs.Needs.{flat_param_limit, flat_result_limit}
use Rattle.abi_machine.specs.Reading as reading
use Rattle.abi_machine.specs.Reading.{func_of, task_at}
use Rattle.abi_machine.specs.Returning.{result_passed, finished, resolves_to, resolves, returning_turn}
use Rattle.abi_machine.specs.replies.Tasks as machine_tests
use Rattle.abi_machine.specs.SameTypes as same_types
use Rattle.abi_machine.specs.Turn as turns
use Rattle.abi_machine.specs.Turn.{Turn, behind, replied}
use Rattle.abi_machine.proofs.sound.Found.{some_same, ok_same}
use Rattle.standing.specs.Tasks as standing_tasks
use Rattle.standing.specs.Tasks.{RunsIn, TaskStands}
use Rattle.standing.specs.Agreeing.{acting_words, words_in, control_of, control_at, returns_kind, returns_canon, returns, Agrees}
use Rattle.standing.specs.KeptMarks.{HasMarks}
use Rattle.standing.specs.Leading.{ComesBy}
use Rattle.standing.specs.PostReturns.{NestedComes}
use Rattle.standing.specs.Reaching.{Meets}
use Rattle.standing.proofs.KeptMarks.{borrows_are_counted}
use Rattle.standing.proofs.Lists.{IsFound, found_both}
use Rattle.standing.proofs.Changes.{acting_is_alike}
use Rattle.standing.proofs.PostReturns.{post_returns_lead}
use Rattle.standing.proofs.Steps.{turn_found, changed_there, on_got_behind}
use Rattle.run_laws.specs.Taking.{StandsMarked}
use Rattle.run_laws.specs.Lifted.{TaskStays, Leaves, LiftAgrees}
use Rattle.run_laws.specs.Copied.{FlowFollows}
use Rattle.run_laws.specs.Results.{LeadsOnBy, LeadsOn, PassesResult, MarksBehind, ReturnsBy, TaskReturnsResult, TaskEndsWithResult}
use Rattle.run_laws.proofs.Canons.{options_are_alike}
use Rattle.run_laws.proofs.Entered.{IsLift, lift_is, memory_kept}
use Rattle.run_laws.proofs.LeadsOn.{leads_then, IsLifted, lifted_on}
use Rattle.run_laws.proofs.Liftings.{results_lift}
use Rattle.run_laws.proofs.PassedOn.{Reached, passes_on}
use Rattle.run_laws.proofs.Returned.{held_same, memory_same, IsTested, tested, HasReturned, returned_leads}
use Rattle.run_laws.proofs.Taking.{held_told}

-- What is lifted is of the type of the result.
made_so : {A B S J : Type 0} (make : A → B) (r : Result (A × S) J) (x : B) (k : S) → machine.made make r ≡ Ok (x, k) → (y : A) × (make y ≡ x)
made_so {A} {B} {S} {J} make (Ok z) x k is = (z.0, ap (λ (q : B × S). q.0) (ok_same is))
made_so make (Err fault) x k is = absurd (let w : ⊥ = cc in w)

typed_so : (at t limit : ℕ) (result : Option ValType) (options : Options) (words : List ℕ) (w : World) (value : Option TypedValue) (now : lifting.Kept)
    → result_passed at t limit result options words w ≡ Ok (value, now) → (v : TypedValue) → value ≡ Some v → result ≡ Some v.val_type
unfolding result_passed
typed_so at t limit None options words w value now is v some =
    absurd (let none : (let q : Option TypedValue = None in q) ≡ value = ap (λ (q : Option TypedValue × lifting.Kept). q.0) (ok_same is) in let q : ⊥ = cc in q)
typed_so at t limit (Some type) options words w value now is v some =
    let made = made_so _ _ value now is in
    ap (λ (x : TypedValue). Some x.val_type) (some_same (made.1 ∙ some))

-- An item that stays.
stays_there : (xs ys : List Task) (n : ℕ) (x : Task) → AllZip TaskStays xs ys → slice_get xs n ≡ Some x → (y : Task) × (slice_get ys n ≡ Some y) × TaskStays x y
stays_there [] ys n x all is = absurd (let w : ⊥ = cc in w)
stays_there (a ∷ xs) [] n x all is = absurd all
stays_there (a ∷ xs) (b ∷ ys) zero x all is = (b, refl, subst (λ (z : Task). TaskStays z b) (some_same is) all.0)
stays_there (a ∷ xs) (b ∷ ys) (suc n) x all is = stays_there xs ys n x all.1 is

-- The type of a number.
type_is : (p : Program) (values : List ValType) (number : Option ℕ) (result : Option ValType) → p.types.now ≡ values → MayBeAt values number result → type_of (type_by p number) ≡ result
type_is p values None None types at = refl
type_is p values None (Some type) types at = absurd at
type_is p values (Some n) None types at = absurd at
type_is p values (Some n) (Some type) types at =
    ap (λ (all : List ValType). type_of (numbered_at all n)) types
    ∙ ap (λ (o : Option ValType). type_of (option_map (λ (q : ValType). (let one : Numbered = record { types = values; number = n; val_type = q } in one)) o)) at

module _ (p : Program) (values : List ValType) (s : Script) (h : Held) (stacks : List (List Stack)) (u w : World) (t : ℕ) (task : Task) (f : Lifted) (before lines ahead : List Label)
    (o : PassesResult p values h w t task f) (marked : StandsMarked p.graph.now values s h stacks w) (labels : h.labels ≡ before ++ (lines ++ ahead)) where
  abbrev g : Graph
  g = p.graph.now

  abbrev Leads : {A : Type 0} → (A → Held → Type 0) → Done A → Type 0
  Leads G d = LeadsOnBy g values s t u before stacks G d

  -- the task as it is kept
  record IsSlot (x : TaskSlot) : Type 0 where
    there : slice_get h.tasks t ≡ Some x
    alike : TaskStands g s x task
    does : standing_tasks.callee_of g x.callee ≡ Some (Func f)
    place : x.instance ≡ f.instance

  slot_so : (x : TaskSlot) × IsSlot x
  slot_so =
      let both : IsFound (TaskStands g s) (slice_get h.tasks t) (slice_get w.tasks t) = found_both (TaskStands g s) h.tasks w.tasks t marked.stands.are_tasks (ap is_some o.acts.there) in
      let alike : TaskStands g s both.left task = subst (λ (a : Task). TaskStands g s both.left a) (some_same (sym both.is_right ∙ o.acts.there)) both.alike in (
        both.left,
        record {
          there = both.is_left;
          alike = alike;
          does = alike.does ∙ ap (λ (c : Callee). Some c) o.runs;
          place = subst (λ (q : Option Lifted). RunsIn both.left.instance q) o.acts.runs alike.place;
        },
      )

  abbrev slot : TaskSlot
  slot = slot_so.0

  lift : IsLift g (lift_of g slot.callee) f
  lift = lift_is g slot.callee f slot_so.1.does

  -- A result that is lifted is passed.
  module _ (next : After) (value_type : Option ValType) (same_type : value_type ≡ f.func_type.result) (came : Came (Option TypedValue))
      (typed : (value : Option TypedValue) (now : lifting.Kept) → came ≡ Ok (value, now) → (v : TypedValue) → value ≡ Some v → value_type ≡ Some v.val_type) where
    abbrev more : Option TypedValue → World → Turn
    more value later = resolves_to g t task next value later

    abbrev Is : Option TypedValue → Held → Type 0
    Is value k = IsLifted g values s t u before stacks h w came more lines ahead value k

    abbrev IsReached : Unit {0} → Held → Type 0
    IsReached done k = Reached p values s t u before stacks next f o.types o.own k

    resolves_on : (value : Option TypedValue) (k : Held) → HasMarks k → Is value k → (e : Done (Unit {0})) → Resolves p t value k e → Leads IsReached e
    resolves_on value k marks is e follows =
        let v : World = is.now.world in
        let stay = stays_there w.tasks v.tasks t task is.leaves.tasks_stay o.acts.there in
        let now : Task = stay.0 in
        let both : IsFound (TaskStands g s) (slice_get k.tasks t) (slice_get v.tasks t) = found_both (TaskStands g s) k.tasks v.tasks t is.leaves.stands.stands.are_tasks (ap is_some stay.1) in
        let alike : TaskStands g s both.left now = subst (λ (a : Task). TaskStands g s both.left a) (some_same (sym both.is_right ∙ stay.1)) both.alike in
        let count : both.left.task.borrows ≡ borrows_of v t = borrows_are_counted g values s k stacks v t is.leaves.stands.stands marks both.left both.is_left in
        let first : slice_get v.chain 0 ≡ Some t = ap (λ (z : World). slice_get z.chain 0) is.leaves.world_rest ∙ o.acts.first in
        leads_then g values s t u before stacks (λ (done : Unit {0}) j. HasReturned g values s t u before stacks value k v task next lines (ahead ++ is.now.lines) j) IsReached (returned t value k)
        (λ done j e. PassesOn p t value j e) e
        (returned_leads g values s t u before stacks value k v task now next lines (ahead ++ is.now.lines) both.left both.is_left alike count stay.2.resolution is.told is.leaves.stands.stands is.meets)
        (λ done j gives r passes. goes_on value k is e now stay.1 stay.2 first j r passes)
        follows
      where
        goes_on : (value : Option TypedValue) (k : Held) (is : Is value k) (e : Done (Unit {0})) (now : Task) → slice_get is.now.world.tasks t ≡ Some now → TaskStays task now
            → slice_get is.now.world.chain 0 ≡ Some t → (j : Held) → HasReturned g values s t u before stacks value k is.now.world task next lines (ahead ++ is.now.lines) j → PassesOn p t value j e
            → Leads IsReached e
        goes_on value k is e now there stays first j r passes =
            let v : World = is.now.world in
            let z : World = world.resolved t resolution.Returned v in
            let last : Task = record now { resolution = Some resolution.Returned } in
            let last_there : slice_get z.tasks t ≡ Some last = changed_there t (λ (x : Task). record x { resolution = Some resolution.Returned }) v.tasks now there in
            let both : IsFound (TaskStands g s) (slice_get j.tasks t) (slice_get z.tasks t) = found_both (TaskStands g s) j.tasks z.tasks t r.stands.are_tasks (ap is_some last_there) in
            let alike : TaskStands g s both.left last = subst (λ (a : Task). TaskStands g s both.left a) (some_same (sym both.is_right ∙ last_there)) both.alike in
            let runs : last.callee ≡ Func f = stays.callee ∙ o.runs in
            passes_on p values s t u before stacks next f o.types o.own j z last task.caller both.left lines ((ahead ++ is.now.lines) ++ line.Return t value ∷ []) r.stands r.told first last_there runs
            stays.caller both.is_left alike
            (λ number.
            (let named : Options = options_at g number in
            memory_kept named.memory k j r.memories
            ∙ memory_kept named.memory h k (ap (λ (q : Held). q.memories) is.leaves.kept_rest) ∙ o.memories number
            ∙ ap (λ (store : Store). memory_of store named) (sym (ap (λ (q : World). q.store) is.leaves.world_rest))))
            value
            (λ x some.
            subst (λ (q : Option ValType). MayBeAt values (returned_of p both.left.callee) q) (sym same_type ∙ typed value is.now is.is x some)
            (o.returned both.left.callee (alike.does ∙ ap (λ (c : Callee). Some c) runs)))
            e passes r.meets

    -- Where it is lifted.
    lifted_resolves : (d : Done (Option TypedValue)) → MarksBehind d → LiftAgrees (Leaves g values s h stacks w) d came → Meets g s u lines (behind ahead (resolves g t task next came))
        → (e : Done (Unit {0})) → Behind d (λ value k e. Resolves p t value k e) e → Leads IsReached e
    unfolding resolves
    lifted_resolves d marks agrees meets e follows =
        leads_then g values s t u before stacks Is IsReached d (λ value k e. Resolves p t value k e) e (lifted_on g values s t u before stacks h w d came more lines ahead labels meets agrees)
        (λ value k gives is resolves. resolves_on value k (marks value k gives) is e resolves)
        follows

  -- Behind `task.return` the task goes on.
  goes_on_now : (k : Held) → Reached p values s t u before stacks Replies f o.types o.own k → LeadsOn g values s t u before stacks (got t [] k)
  unfolding finished
  goes_on_now k r = record {
    lines = r.lines;
    next = behind r.ahead (finished Replies r.world);
    meets = r.meets;
    agrees = subst (λ (turn : Turn). Agrees g values s t (before ++ r.lines) stacks (got t [] k) (behind r.ahead turn))
        (sym (turn_found (reading.acting r.world) (t, r.task) (λ a. replied a.0 [] r.world) (ap (found_at r.world.tasks) r.first ∙ ap (option_map (λ (x : Task). (t, x))) r.there)))
        (on_got_behind g values s t (before ++ r.lines) r.ahead stacks k r.world [] (r.told ∙ sym (append_assoc before r.lines r.ahead)) r.stands);
  }

  -- `task.return`, by its canonical function.
  module _ (number : ℕ) (b : Builtin) (result : Option ValType) (options : Options) (by : ReturnsBy p values h t number f b result options) where
    abbrev words : List ℕ
    words = slot.at_words

    abbrev came : Came (Option TypedValue)
    came = result_passed b.instance t flat_param_limit result options words w

    abbrev same_result : Bool
    same_result = same_types.same_held result f.func_type.result

    abbrev same_memory : Bool
    same_memory = machine_tests.same_address (memory_of w.store options) (memory_of w.store f.options)

    named : options_at g number ≡ options
    named = ap options_in by.there ∙ ap options_of_kind by.is

    kept_named : seen.options_at g number ≡ options
    kept_named = options_are_alike g number ∙ named

    memory_so : places.memory_of (seen.options_at g number) h ≡ memory_of w.store options
    memory_so = ap (λ (x : Options). places.memory_of x h) (options_are_alike g number) ∙ o.memories number ∙ ap (λ (x : Options). memory_of w.store x) named

    here_words : acting_words h ≡ words
    here_words =
        ap (λ (q : Option ℕ). words_in (option_and_then (λ n. slice_get h.tasks n) q)) (acting_is_alike g values s h stacks w marked.stands ∙ o.acts.first)
        ∙ ap (λ (q : Option TaskSlot). words_in q) slot_so.1.there

    turn_so : returns g t (control_at h) w ≡ machine_tests.return_checked g t task b.instance result options words f w
    turn_so =
        ap (λ (q : Rest). returns g t (control_of (acting_words h) q) w) by.calls
        ∙ ap (λ (ws : List ℕ). returns g t (Calls number ws) w) here_words
        ∙ turn_found (task_at w t) task (λ one. turns.given (canon_at g number) (λ c. returns_canon g t one words c w)) o.acts.there
        ∙ turn_found (canon_at g number) (canon.Builtin b) (λ c. returns_canon g t task words c w) by.there
        ∙ ap (λ (q : BuiltinKind). returns_kind g t task words b.instance q w) by.is
        ∙ turn_found (func_of task.callee) f (λ f. machine_tests.return_checked g t task b.instance result options words f w) o.acts.runs

    -- What is tested.
    tests_are : return_tested p t number h ≡ checked same_result (seen.options_at g number) lift.lift.options h
    tests_are =
        let one : Option ValType = type_of (type_by p (value_of p number)) in
        let by_callee : kept_callee.Callee → Held → Done (Unit {0}) = λ c k.
        return_checked g t one (type_of (type_by p (returned_of p c))) (seen.options_at g number) k in
        ap (λ (q : Option TaskSlot). after (given q (λ x. Gives x.callee h)) by_callee) slot_so.1.there
        ∙ ap (λ (q : Option TaskSlot). after (given q (λ x. Gives x.callee h)) (λ c k. given (lift_of g c) (λ y.
        checked (tests.same_held one (type_of (type_by p (returned_of p slot.callee)))) (seen.options_at g number) y.options k))) slot_so.1.there
        ∙ ap (λ (q : Option Lift). given q (λ y. checked (tests.same_held one (type_of (type_by p (returned_of p slot.callee)))) (seen.options_at g number) y.options h)) lift.is
        ∙ ap (λ (q : Option ValType). checked (tests.same_held q (type_of (type_by p (returned_of p slot.callee)))) (seen.options_at g number) lift.lift.options h)
        (type_is p values (value_of p number) result o.types by.typed)
        ∙ ap (λ (q : Option ValType). checked (tests.same_held result q) (seen.options_at g number) lift.lift.options h)
        (type_is p values (returned_of p slot.callee) f.func_type.result o.types (o.returned slot.callee slot_so.1.does))
        ∙ ap (λ (x : Bool). checked x (seen.options_at g number) lift.lift.options h) (held_same result f.func_type.result)

    memories_are : tests.same_memory (places.memory_of (seen.options_at g number) h) (places.memory_of lift.lift.options h) ≡ same_memory
    memories_are =
        memory_same (places.memory_of (seen.options_at g number) h) (places.memory_of lift.lift.options h)
        ∙ ap (λ (m : Option ℕ). machine_tests.same_address m (places.memory_of lift.lift.options h)) memory_so
        ∙ ap (λ (m : Option ℕ). machine_tests.same_address (memory_of w.store options) m) (ap (λ (x : Options). places.memory_of x h) lift.options ∙ o.memory)

    abbrev IsTestedHere : Unit {0} → Held → Type 0
    IsTestedHere done k = IsTested g values s t u before stacks h same_result lines ahead (resolves g t task Replies came) k

    tested_so : Meets g s u lines (behind ahead (returns g t (control_at h) w)) → Leads IsTestedHere (return_tested p t number h)
    unfolding machine_tests.return_checked
    tested_so meets =
        subst (λ (d : Done (Unit {0})). Leads IsTestedHere d)
        (sym (tests_are
        ∙ ap (λ (x : Bool). (let d : Done (Unit {0}) = if not same_result then Traps trap.WrongResult h else if not x then Traps trap.WrongOptions h else Gives tt h in d)) memories_are))
        (tested g values s t u before stacks h w lines ahead same_result same_memory (resolves g t task Replies came) labels marked.stands
        (subst (λ (turn : Turn). Meets g s u lines (behind ahead turn)) turn_so meets))

    -- What is lifted.
    lifts_are : returned_lifted p t number h ≡ result_lifted p t (value_of p number) (places.memory_of (seen.options_at g number) h) flat_param_limit words h
    unfolding returned_lifted
    lifts_are =
        ap (λ (q : Option TaskSlot). after (given q (λ x. Gives x.at_words h)) (λ ws k.
        result_lifted p t (value_of p number) (places.memory_of (seen.options_at g number) k) flat_param_limit ws k)) slot_so.1.there

    lifts_agree : result ≡ f.func_type.result → LiftAgrees (Leaves g values s h stacks w) (returned_lifted p t number h) came
    lifts_agree same =
        subst (λ (d : Done (Option TypedValue)). LiftAgrees (Leaves g values s h stacks w) d came) (sym lifts_are)
        (results_lift g values s h stacks w p t b.instance flat_param_limit (value_of p number) (places.memory_of (seen.options_at g number) h) result options words o.types by.typed memory_so
        (λ x there. ap (λ (y : TaskSlot). y.instance) (some_same (sym there ∙ slot_so.1.there)) ∙ slot_so.1.place ∙ sym by.own)
        (λ borrows. absurd (let none : held_borrow result ≡ false = ap held_borrow same ∙ o.no_borrow in let q : ⊥ = cc in q)) marked)

    abbrev IsReachedHere : Unit {0} → Held → Type 0
    IsReachedHere done k = Reached p values s t u before stacks Replies f o.types o.own k

    tested_resolves : (mid : Done (Unit {0})) → Meets g s u lines (behind ahead (returns g t (control_at h) w)) → TestedResolves p t number h mid → Leads IsReachedHere mid
    tested_resolves mid meets all =
        leads_then g values s t u before stacks IsTestedHere IsReachedHere (return_tested p t number h) (λ (done : Unit {0}) k e. ReturnResolves p t number k e) mid (tested_so meets)
        (λ done k gives is lifts.
        (let same : result ≡ f.func_type.result = held_told result f.func_type.result is.passed in
        lifted_resolves Replies result same came (λ value now came_is v some. typed_so b.instance t flat_param_limit result options words w value now came_is v some) (returned_lifted p t number h) by.marks
        (lifts_agree same) is.meets mid (subst (λ (j : Held). ReturnResolves p t number j mid) is.same lifts)))
        all

    returns_lead : (d : Done Flow) → Meets g s u lines (behind ahead (returns g t (control_at h) w)) → Returns p t number h d → LeadsOn g values s t u before stacks d
    returns_lead d meets all =
        leads_then g values s t u before stacks IsReachedHere (λ what k. FlowFollows g values s t before stacks (Gives what k) u) all.0 (λ (done : Unit {0}) k e. e ≡ got t [] k) d
        (tested_resolves all.0 meets all.1)
        (λ done k gives r same. subst (λ (x : Done Flow). LeadsOn g values s t u before stacks x) (sym same) (goes_on_now k r))
        all.2

  -- The core function of a task that is lifted without `async` has ended.
  module _ (words : List ℕ) (marks : MarksBehind (ended_lifted p t words h)) where
    abbrev ended_came : Came (Option TypedValue)
    ended_came = result_passed f.instance t flat_result_limit f.func_type.result f.options words w

    abbrev post : Option FuncRef
    post = f.options.post_return

    abbrev IsExiting : Unit {0} → Held → Type 0
    IsExiting done l = ComesBy g values s u before l stacks (λ v. v.control ≡ control.Leaves)

    abbrev IsReachedEnd : Unit {0} → Held → Type 0
    IsReachedEnd done k = Reached p values s t u before stacks (Finishes words) f o.types o.own k

    ended_lifts_are : ended_lifted p t words h ≡ result_lifted p t (returned_of p slot.callee) (places.memory_of lift.lift.options h) flat_result_limit words h
    unfolding ended_lifted
    ended_lifts_are =
        ap (λ (q : Option TaskSlot). after (given q (λ x. Gives x.callee h)) (λ c k. given (lift_of g c) (λ y.
        result_lifted p t (returned_of p c) (places.memory_of y.options k) flat_result_limit words k))) slot_so.1.there
        ∙ ap (λ (q : Option Lift). given q (λ y. result_lifted p t (returned_of p slot.callee) (places.memory_of y.options h) flat_result_limit words h)) lift.is

    ended_lifts_agree : LiftAgrees (Leaves g values s h stacks w) (ended_lifted p t words h) ended_came
    ended_lifts_agree =
        subst (λ (d : Done (Option TypedValue)). LiftAgrees (Leaves g values s h stacks w) d ended_came) (sym ended_lifts_are)
        (results_lift g values s h stacks w p t f.instance flat_result_limit (returned_of p slot.callee) (places.memory_of lift.lift.options h) f.func_type.result f.options words o.types
        (o.returned slot.callee slot_so.1.does) (ap (λ (x : Options). places.memory_of x h) lift.options ∙ o.memory)
        (λ x there. ap (λ (y : TaskSlot). y.instance) (some_same (sym there ∙ slot_so.1.there)) ∙ slot_so.1.place)
        (λ borrows. absurd (let none : held_borrow f.func_type.result ≡ false = o.no_borrow in let q : ⊥ = cc in q)) marked)

    settles : (result : Result (Unit {0}) Stop) (new : Parts) (e : Done (Unit {0})) → NestedComes g values s t u before stacks result new → Settles e result new → Leads IsExiting e
    settles (Ok x) new e comes is = subst (λ (d : Done (Unit {0})). Leads IsExiting d) (sym is) comes
    settles (Err (stop.Trap why)) new e comes is = subst (λ (d : Done (Unit {0})). Leads IsExiting d) (sym is) comes
    settles (Err stop.NoFuel) new e comes is = subst (λ (d : Done (Unit {0})). Leads IsExiting d) (sym is) comes
    settles (Err stop.Stuck) new e comes is = subst (λ (d : Done (Unit {0})). Leads IsExiting d) (sym is) tt
    settles (Err stop.Memory) new e comes is = absurd is

    post_returns : (k : Held) (e : Done (Unit {0})) → Reached p values s t u before stacks (Finishes words) f o.types o.own k → PostReturnsTo p t post words k e → Leads IsExiting e
    post_returns k e r runs =
        settles runs.0 runs.1 e
        (post_returns_lead g values s k stacks u r.world t r.task f before r.lines r.ahead words runs.0 runs.1 r.first r.there (ap func_of r.runs) r.stands r.told r.meets runs.2) runs.3

    ends_lead : (mid : Done (Unit {0})) → Meets g s u lines (behind ahead (func_ended g t task f Sync words w)) → Ends p t post words h mid → Leads IsExiting mid
    unfolding func_ended returning_turn
    ends_lead mid meets all =
        leads_then g values s t u before stacks IsReachedEnd IsExiting all.0 (λ (done : Unit {0}) k e. PostReturnsTo p t post words k e) mid
        (lifted_resolves (Finishes words) f.func_type.result refl ended_came
        (λ value now came_is v some. typed_so f.instance t flat_result_limit f.func_type.result f.options words w value now came_is v some) (ended_lifted p t words h) marks ended_lifts_agree meets all.0 all.1)
        (λ done k gives r runs. post_returns k mid r runs)
        all.2

    lift_found : lift_at p t h ≡ Gives lift.lift h
    lift_found =
        ap (λ (q : Option TaskSlot). after (given q (λ x. Gives x.callee h)) (λ c k. given (lift_of g c) (λ y. Gives y k))) slot_so.1.there
        ∙ ap (λ (q : Option Lift). given q (λ y. Gives y h)) lift.is

    sync_ends : (d : Done Flow) → Meets g s u lines (behind ahead (func_ended g t task f Sync words w)) → SyncEnds p t words h d
        → Leads (λ what k. (what ≡ flow.Rests) × ComesBy g values s u before k stacks (λ v. v.control ≡ control.Leaves)) d
    sync_ends d meets all =
        let here : (mid : Done (Unit {0})) × Ends p t lift.lift.options.post_return words h mid × Behind mid (λ (done : Unit {0}) l x. x ≡ Gives flow.Rests l) d =
        subst (λ (q : Done Lift). Behind q (λ y k x. Then (Ends p t y.options.post_return words k) (λ (done : Unit {0}) l z. z ≡ Gives flow.Rests l) x) d) lift_found all in
        leads_then g values s t u before stacks IsExiting (λ what k. (what ≡ flow.Rests) × ComesBy g values s u before k stacks (λ v. v.control ≡ control.Leaves)) here.0
        (λ (done : Unit {0}) l x. x ≡ Gives flow.Rests l) d
        (ends_lead here.0 meets (subst (λ (x : Options). Ends p t x.post_return words h here.0) lift.options here.1))
        (λ done l gives comes same.
        subst (λ (x : Done Flow). Leads (λ what k. (what ≡ flow.Rests) × ComesBy g values s u before k stacks (λ v. v.control ≡ control.Leaves)) x) (sym same) (refl, comes))
        here.2

pub task_returns_result : TaskReturnsResult
task_returns_result p values s h stacks u w t number task f b result options before lines ahead d o by marked labels meets all =
    returns_lead p values s h stacks u w t task f before lines ahead o marked labels number b result options by d meets all

pub task_ends_with_result : TaskEndsWithResult
task_ends_with_result p values s h stacks u w t task f words before lines ahead d o marks marked labels meets all =
    sync_ends p values s h stacks u w t task f before lines ahead o marked labels words marks d meets all
