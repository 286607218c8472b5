-- What is asked where a core function or a callback has ended is so where its stack ran in a world that a run reaches.
use Rattle.std.proofs.Common.{◌≡◌, ◌<◌, inl, inr, ℕ, Bool, true, false, is_some, if◌then◌else◌, List, [], ◌∷◌, ◌++◌, length, map, refl, sym, ap, ◌∙◌, subst, arith, Option, Some, None}
use Rattle.std.specs.Prelude.{IsSome, ◌^◌}
use Rattle.std.specs.List.{slice_get}
use Rattle.std.specs.Option.{option_map}
use Rattle.std.proofs.lemmas.Bool.{lt-ltb}
use Rattle.syntax_trees.specs.declared.core_type.FlatKind.TheVariants.{SyncLift, AsyncLift, CallbackLift}
use Rattle.syntax_trees.specs.declared.types.FuncType.{FuncType}
use Rattle.syntax_trees.specs.declared.types.ValType.{ValType}
use Rattle.syntax_trees.specs.Flat.{flat_func}
use Rattle.syntax_trees.specs.declared.module_types.ValType as core
use Rattle.syntax_trees.specs.declared.module_types.ValType.TheVariants.{I32}
use Rattle.wasm_numbers.specs.Types.{AreWords}
use Rattle.wasm_store.specs.Laws.{MoveTyped}
use Rattle.wasm_store.specs.Stack.{Stack}
use Rattle.wasm_store.specs.Store.{Store}
use Rattle.wasm_store.specs.Typed.{StackTyped, StoreTyped}
use Rattle.wasm_store.proofs.Lists.{all_at}
use Rattle.wasm_store.proofs.Moving.{moves_typed, never_stuck}
use Rattle.wasm_execution.specs.declared.running.Outcome.TheVariants as outcome
use Rattle.wasm_execution.specs.Run.{RunGives}
use Rattle.handle_table.specs.History.{live}
use Rattle.entry_gate.specs.declared.kind.Kind.{Kind}
use Rattle.entry_gate.specs.declared.kind.Kind.TheVariants.{Sync, Callback, Stackful}
use Rattle.tasks.specs.Tasks.{is_acting}
use Rattle.comp_graph.specs.declared.graph.CanonFunc.{CanonFunc}
use Rattle.comp_graph.specs.declared.graph.CanonFunc.TheVariants as canon
use Rattle.comp_graph.specs.Graph.{Graph, Lifted, func_at}
use Rattle.comp_graph.specs.Needs.{core_func, lift_type}
use Rattle.comp_graph.specs.Passed.{MayBeAt}
use Rattle.script_reader.specs.Script.{Script}
use Rattle.instances.specs.declared.entry.WorldEntry.{WorldEntry}
use Rattle.instances.specs.declared.entry.WorldEntry.TheVariants as entry
use Rattle.instances.specs.Instances.{InstanceView, entry_of}
use Rattle.task_table.specs.declared.errand.Callee as kept
use Rattle.task_table.specs.declared.errand.Callee.TheVariants as callee
use Rattle.task_table.specs.declared.errand.Errand.TheVariants as errand
use Rattle.task_table.specs.declared.slot.TaskSlot.{TaskSlot}
use Rattle.programs.specs.declared.program.Program.{Program}
use Rattle.programs.specs.Program.{returned_of}
use Rattle.world_parts.specs.declared.parts.Rest.TheVariants as rest
use Rattle.world_parts.specs.Held.{Held}
use Rattle.world_stacks.specs.declared.top.Top.{Top}
use Rattle.world_stacks.specs.declared.host_call.HostCall.{HostCall}
use Rattle.world_stacks.specs.Views.{PileView, stack_in, stacks_of}
use Rattle.value_parts.specs.declared.to_pass.Passing.TheVariants as passing
use Rattle.value_parts.specs.Passing.{ended_lifted}
use Rattle.machine_runs.specs.Worlds.{handed}
use Rattle.abi_machine.specs.Control.{Control, Runs}
use Rattle.abi_machine.specs.World.{Entry, OfSet, Inst, Callee, Init, Func, Destroys, New, Acting, AfterCall, AfterCancel, Begins, WaitsToEnter, InLoop, InBuiltin, Exited, TaskState, Task, World}
use Rattle.abi_machine.specs.Canons.{canon_at, flag_at, kind_of_options}
use Rattle.abi_machine.specs.Counting.{phase_of}
use Rattle.abi_machine.specs.Reading.{func_of, kind_of, kind_of_func, may_leave, table_in}
use Rattle.abi_machine.specs.sound.Acting.{IsRunning, RunsIn}
use Rattle.abi_machine.specs.sound.Firsts.{FirstIs}
use Rattle.abi_machine.specs.sound.GraphFuncs.{IsOfGraph}
use Rattle.abi_machine.specs.sound.Numbers.{NamesWhatIsThere}
use Rattle.abi_machine.specs.sound.PassedTypes.{PassesNoBorrow}
use Rattle.abi_machine.specs.sound.TypedStacks.{RunsTyped, TopIs, core_results}
use Rattle.abi_machine.specs.sound.TypedWorlds as typed_worlds
use Rattle.abi_machine.specs.sound.TypedWorlds.{IsTypedWorld}
use Rattle.abi_machine.proofs.sound.Found.{some_same}
use Rattle.abi_machine.proofs.sound.typed.Going.{callbacks_give_words}
use Rattle.reach_laws.specs.Reached.{ReachedAreTyped}
use Rattle.reach_laws.specs.Runnable.{IsRunnable}
use Rattle.standing.specs.Moves.{Acts}
use Rattle.standing.specs.Replies.{HasItsSets}
use Rattle.standing.specs.Stands.{Stands}
use Rattle.standing.specs.Tasks as standing_tasks
use Rattle.standing.specs.Tasks.{callee_of, lowered_in, TaskStands}
use Rattle.standing.proofs.Changes.{acting_is_alike}
use Rattle.run_laws.specs.AsyncEnds.{EndsAsync, GivesWord}
use Rattle.run_laws.specs.Passings.{EndsWell}
use Rattle.run_laws.specs.Points.{stacks_at}
use Rattle.run_laws.specs.Results.{MarksBehind}
use Rattle.run_laws.specs.Steps.{PassesThere}
use Rattle.run_laws.specs.Supplied.{RestsReached}
use Rattle.run_laws.specs.SuppliedPassings.{IsBehind, IsProgramOf, EndedSupplied}
use Rattle.run_laws.specs.keeping.Kept.{RunsFunction}
use Rattle.run_laws.specs.keeping.Liftings.{ReturnedLendsWell}
use Rattle.run_laws.specs.keeping.Lowerings.{HoldsNoBorrow}
use Rattle.run_laws.proofs.Reached.{some_func}
use Rattle.run_laws.proofs.Runs.{map_at}
use Rattle.run_laws.proofs.onward.Led.{IsLed, led_same}
use Rattle.run_laws.proofs.onward.Midst.{IsTaskThen, acts_then, lends_then, memories_then, memory_then, numbered_free, result_free, task_then}
use Rattle.run_laws.proofs.onward.Ran.{HasEnded, HasRun, has_ended}
use Rattle.run_laws.proofs.onward.Resting.{callees_there}
use Rattle.run_laws.proofs.onward.Returned.{lends_none, marks_lifted}
use Rattle.run_laws.proofs.keeping.Liftings.{ended_keep}
use Rattle.run_laws.proofs.supplied.Begun.{instances_there, late_runs}
use Rattle.run_laws.proofs.supplied.Fitting.{typed_now}
use Rattle.run_laws.proofs.supplied.Found.{entry_back, entry_shown, inst_of, set_kept, slot_of, view_of_inst}
use Rattle.run_laws.proofs.supplied.Kept.{runs_by}
use Rattle.run_laws.proofs.supplied.Known.{Known, known}
use Rattle.run_laws.proofs.supplied.Moves.{ActingTask, acting_task, acts_by, members_long, rests}

-- A task that is at nothing, and acts, is at its core function.
acting_state : (flag : ℕ → Bool) (state : TaskState) → is_acting (phase_of flag state) ≡ true → errand.None ≡ standing_tasks.errand_of state → state ≡ Acting
acting_state flag New acts at = absurd (cc)
acting_state flag Acting acts at = refl
acting_state flag (AfterCall called number words) acts at = absurd (cc)
acting_state flag (AfterCancel called number words) acts at = absurd (cc)
acting_state flag (Begins n) acts at = absurd (cc)
acting_state flag WaitsToEnter acts at = absurd (cc)
acting_state flag (InLoop word) acts at = absurd (cc)
acting_state flag (InBuiltin number words wait) acts at = absurd (cc)
acting_state flag Exited acts at = absurd (cc)

-- A run that ended ends with words of what its stack gives.
run_words : (s t : Store) (results : List core.ValType) (k : Stack) (left more : ℕ) (words : List ℕ) → StoreTyped s → StackTyped s results k → RunGives s k left (outcome.Done words) t more → AreWords results words
run_words s t results k left more words store typed run =
    let kept = never_stuck run.spent s t results k run.last store typed run.steps in
    subst (MoveTyped t results) run.moves (moves_typed t results run.last kept.1 kept.2)

-- One word at most is given by a function that is lifted with `async`.
no_results : (a b : Bool) (type : FuncType) → (if a then (if b then Callback else Stackful) else Sync) ≡ Stackful
    → (core_func (flat_func (if a then (if b then CallbackLift else AsyncLift) else SyncLift) type)).results ≡ []
no_results true true type e = absurd (cc)
no_results true false type e = refl
no_results false b type e = absurd (cc)

stackful_none : (f : Lifted) → kind_of_options f.options ≡ Stackful → (lift_type f.options f.func_type).results ≡ []
stackful_none f e = no_results f.options.is_async (is_some f.options.callback) f.func_type e

one_word : (results : List core.ValType) (words : List ℕ) → results ≡ I32 ∷ [] → AreWords results words → GivesWord words
one_word results words is typed = by words (subst (λ (types : List core.ValType). AreWords types words) is typed)
  where
    by : (ws : List ℕ) → AreWords (I32 ∷ []) ws → GivesWord ws
    by [] h word at = absurd (cc)
    by (x ∷ ws) h word at =
        let same : x ≡ word = some_same at in
        ap (λ (b : Bool). if b then Some x else None) (lt-ltb x (2 ^ 32) h.0) ∙ ap (λ (n : ℕ). Some n) same

no_word : (words : List ℕ) → AreWords [] words → GivesWord words
no_word [] h word at = absurd (cc)
no_word (x ∷ words) h word at = absurd h

func_results : (c : Callee) (f : Lifted) → func_of c ≡ Some f → core_results c ≡ (lift_type f.options f.func_type).results
func_results Init f is = absurd (cc)
func_results (Func k) f is = ap (λ (x : Lifted). (lift_type x.options x.func_type).results) (some_same is)
func_results (Destroys resource k) f is = ap (λ (x : Lifted). (lift_type x.options x.func_type).results) (some_same is)

-- The result of a task has the number of a type that holds no borrow.
destroyed_none : (p : Program) (c : kept.Callee) (resource : ℕ) (f : Lifted) → callee_of p.graph.now c ≡ Some (Destroys resource f) → returned_of p c ≡ None
destroyed_none p callee.Init resource f is = refl
destroyed_none p (callee.Export number) resource f is = absurd (exported (func_at p.graph.now number) is)
  where
    exported : (o : Option Lifted) → option_map Func o ≡ Some (Destroys resource f) → ⊥
    exported None e = cc
    exported (Some k) e = cc
destroyed_none p (callee.Lowered number) resource f is = absurd (lowered (canon_at p.graph.now number) is)
  where
    lowered : (o : Option CanonFunc) → lowered_in o ≡ Some (Destroys resource f) → ⊥
    lowered None e = cc
    lowered (Some (canon.Lower l)) e = cc
    lowered (Some (canon.Builtin b)) e = cc
destroyed_none p (callee.Destroys number) resource f is = refl

init_none : (p : Program) (c : kept.Callee) → callee_of p.graph.now c ≡ Some Init → returned_of p c ≡ None
init_none p callee.Init is = refl
init_none p (callee.Export number) is = absurd (exported (func_at p.graph.now number) is)
  where
    exported : (o : Option Lifted) → option_map Func o ≡ Some Init → ⊥
    exported None e = cc
    exported (Some k) e = cc
init_none p (callee.Lowered number) is = absurd (lowered (canon_at p.graph.now number) is)
  where
    lowered : (o : Option CanonFunc) → lowered_in o ≡ Some Init → ⊥
    lowered None e = cc
    lowered (Some (canon.Lower l)) e = cc
    lowered (Some (canon.Builtin b)) e = cc
init_none p (callee.Destroys number) is = refl

pub result_holds_none : (p : Program) (values : List ValType) (s : Script) → IsProgramOf p values s → PassesNoBorrow p.graph.now → (c : kept.Callee) (a : Callee) → callee_of p.graph.now c ≡ Some a
    → IsOfGraph p.graph.now a → HoldsNoBorrow p (returned_of p c)
result_holds_none p values s prog none c Init is of_graph number type found at = absurd (let clash : None ≡ Some number = sym (init_none p c is) ∙ found in let wrong : ⊥ = cc in wrong)
result_holds_none p values s prog none c (Func f) is of_graph number type found at =
    numbered_free p (returned_of p c) f.func_type.result (subst (λ (l : List ValType). MayBeAt l (returned_of p c) f.func_type.result) (sym prog.fits.types) (prog.types.returned c f is))
    (result_free p.graph.now none f of_graph) number type found at
result_holds_none p values s prog none c (Destroys resource f) is of_graph number type found at =
    absurd (let clash : None ≡ Some number = sym (destroyed_none p c resource f is) ∙ found in let wrong : ⊥ = cc in wrong)

module _ (p : Program) (values : List ValType) (s : Script) (h : Held) (piles more : List PileView) (w : World) (words : List ℕ) (typed : ReachedAreTyped) (run : IsRunnable p.graph.now s)
    (prog : IsProgramOf p values s) (r : RestsReached p values s h (stacks_at piles) w) (is : h.rest ≡ rest.Runs) (later : Held) (v : World) (b : IsBehind p values s later (stacks_at more) v)
    (ended : HasEnded h piles words later) where
  abbrev g : Graph
  g = p.graph.now

  abbrev stacks : List (List Stack)
  stacks = stacks_at piles

  abbrev now : List (List Stack)
  now = stacks_at more

  abbrev st : Stands g values s h stacks w
  st = r.there.stands

  abbrev k : Known g s w
  k = known g values s h stacks w r.there

  abbrev ran : HasRun h ended.number ended.pile words later
  ran = ended.ran

  led : IsLed h later
  led =
      led_same h later (ap (λ (z : Held). z.chain) ran.same) (ap (λ (z : Held). z.rest) ran.same) (ap (λ (z : Held). z.instances) ran.same) (ap (λ (z : Held). z.tasks) ran.same)

  -- The sets of an instance were made then too.
  sets_then : (n : ℕ) (inst : Inst) → slice_get v.insts n ≡ Some inst → HasItsSets inst
  sets_then n inst here index set stands =
      let i = view_of_inst g values s later now v b.stands n inst here in
      let e = entry_back g values s later now v b.stands n index i.0 (OfSet set) i.1 (ap (λ (o : Option Inst). live (table_in o) index) here ∙ stands) in
      let kept_here : slice_get h.instances n ≡ Some i.0 = ap (λ (l : List InstanceView). slice_get l n) (sym led.instances) ∙ i.1 in
      let set_there : entry_of i.0 index ≡ Some (entry.Set set) = e.1 ∙ ap (λ (y : WorldEntry). Some y) (set_kept values e.0 set e.2) in
      let a = entry_shown g values s h stacks w st n index i.0 (entry.Set set) kept_here set_there in
      let z = inst_of g values s h stacks w st n i.0 kept_here in
      let in_table : live z.0.table index ≡ Some (OfSet set) = ap (λ (o : Option Inst). live (table_in o) index) (sym z.1) ∙ a.1 ∙ ap (λ (y : Entry). Some y) a.2 in
      let made : set < length z.0.sets = all_at (NamesWhatIsThere w.tasks) w.insts n z.0 k.standing.numbered.entries z.1 index (OfSet set) in_table in
      let long : length i.0.sets ≡ length z.0.sets = sym (members_long i.0.sets) ∙ ap (λ (l : List (List ℕ)). length l) z.2.sets in
      let long_now : length i.0.sets ≡ length inst.sets = sym (members_long i.0.sets) ∙ ap (λ (l : List (List ℕ)). length l) i.2.sets in omega (arith, made, long, long_now)

  -- The words are of what the core function gives.
  module _ (a : ActingTask w IsRunning) (same : ended.number ≡ a.number) (f : Lifted) (runs : func_of a.task.callee ≡ Some f) where
    abbrev late : may_leave w ≡ true
    late = late_runs g values s h stacks w r.there prog.begin a.number a.task a.there (ap is_some runs) (may_leave w) refl

    abbrev world : IsTypedWorld g w
    world = typed_now g h w r.control (typed g s r.there.steps w run r.there.reached late)

    stack_is : a.task.stacks ≡ ran.stack ∷ []
    stack_is =
        let kept_stacks : slice_get stacks a.number ≡ Some (stacks_of ended.pile) = map_at stacks_of piles a.number ended.pile (ap (λ (n : ℕ). slice_get piles n) (sym same) ∙ ended.there) in
        let of_task : slice_get stacks a.number ≡ Some a.task.stacks =
        ap (λ (l : List (List Stack)). slice_get l a.number) st.same_stacks ∙ map_at (λ (z : Task). z.stacks) w.tasks a.number a.task a.there in
        some_same (sym of_task ∙ kept_stacks)
        ∙ ap (λ (x : Top). stack_in x ++ map (λ (c : HostCall). c.waiting.stack) ended.pile.under) ran.goes
        ∙ ap (λ (l : List HostCall). ran.stack ∷ map (λ (c : HostCall). c.waiting.stack) l) ran.alone

    words_typed : AreWords (core_results a.task.callee) words
    words_typed =
        let acts : FirstIs w.tasks w.chain (RunsTyped w.store) = subst (λ (c : Control). typed_worlds.Acts g c w.store w.tasks w.chain) (rests p values s h stacks w rest.Runs r is) world.acts in
        let first_is : acts.0 ≡ a.number = some_same (sym acts.1 ∙ a.first) in
        let one : acts.2.0 ≡ a.task = some_same (sym acts.2.1 ∙ ap (λ (n : ℕ). slice_get w.tasks n) first_is ∙ a.there) in
        let top_is : TopIs (StackTyped w.store) w.store a.task.callee (ran.stack ∷ []) =
        subst (λ (l : List Stack). TopIs (StackTyped w.store) w.store a.task.callee l) stack_is (subst (λ (z : Task). RunsTyped w.store z) one acts.2.2) in
        run_words w.store ran.store (core_results a.task.callee) ran.stack h.left ran.left words world.ground.store top_is.0
        (subst (λ (x : Store). RunGives x ran.stack h.left (outcome.Done words) ran.store ran.left) st.same_store ran.run)

    gives_word : (kind : Kind) → kind_of a.task ≡ kind → (kind ≡ Sync → ⊥) → GivesWord words
    gives_word Sync is_kind apart = absurd (apart refl)
    gives_word Callback is_kind apart =
        let results : core_results a.task.callee ≡ I32 ∷ [] =
        func_results a.task.callee f runs ∙ callbacks_give_words f (ap kind_of_func (sym runs) ∙ is_kind) in
        one_word (core_results a.task.callee) words results words_typed
    gives_word Stackful is_kind apart =
        no_word words
        (subst (λ (types : List core.ValType). AreWords types words) (func_results a.task.callee f runs ∙ stackful_none f (ap kind_of_func (sym runs) ∙ is_kind)) words_typed)

    -- By how the function is lifted.
    module _ (x : TaskSlot) (there : slice_get h.tasks a.number ≡ Some x) (stands : TaskStands g s x a.task) (inside : IsSome (slice_get w.insts f.instance)) where
      abbrev y : IsTaskThen p values s h stacks w later now v st b led a.number x a.task
      y = task_then p values s h stacks w later now v st b led a.number x a.task there stands

      abbrev acts : Acts v a.number y.task f
      acts = acts_then p values s h stacks w later now v st b led a.number x a.task f y (record { first = a.first; there = a.there; runs = runs; inside = inside })

      abbrev of_graph : IsOfGraph g a.task.callee
      of_graph = all_at (λ (z : Task). IsOfGraph g z.callee) w.tasks a.number a.task (callees_there g values s h stacks w r.there) a.there

      state_then : y.task.state ≡ Acting
      state_then =
          let both = ran.acts x (ap (λ (n : ℕ). slice_get h.tasks n) same ∙ there) in
          let one : y.slot ≡ x = some_same (sym y.kept ∙ ap (λ (z : Held). slice_get z.tasks a.number) ran.same ∙ there) in
          acting_state (flag_at g) y.task.state
          (ap is_acting (sym y.stands.far) ∙ ap (λ (z : TaskSlot). is_acting z.task.phase) one ∙ both.0)
          (sym both.1 ∙ ap (λ (z : TaskSlot). z.errand) (sym one) ∙ y.stands.at)

      lends_so : ReturnedLendsWell p a.number (handed later)
      lends_so slot at =
          lends_none p a.number (returned_of p slot.callee) (handed later)
          (let one : y.slot ≡ slot = some_same (sym y.kept ∙ at) in
          result_holds_none p values s prog r.there.no_borrow slot.callee a.task.callee
          (ap (λ (z : TaskSlot). callee_of g z.callee) (sym one) ∙ y.stands.does ∙ ap (λ (c : Callee). Some c) y.callee) of_graph)

      marks_so : MarksBehind (ended_lifted p a.number words (handed later))
      marks_so =
          marks_lifted (handed later) (ended_lifted p a.number words (handed later)) (ended_keep p a.number words (handed later) (record { sound = b.tables.sound; lent = b.tables.lent }) lends_so)
          (record { gates = b.marks.gates; waiters = b.marks.waiters; lends = b.marks.lends; borrows = b.marks.borrows; awaited = b.marks.awaited; states = b.marks.states })

      ends_sync : (c : Callee) → a.task.callee ≡ c → EndsWell p values (handed later) v a.number y.task f words Sync
      ends_sync Init runs_init = absurd (let clash : None ≡ Some f = ap func_of (sym runs_init) ∙ runs in let wrong : ⊥ = cc in wrong)
      ends_sync (Func l) runs_func =
          let one : l ≡ f = some_same (ap func_of (sym runs_func) ∙ runs) in (
            inl (record {
              types = prog.fits.types;
              acts = acts;
              runs = y.callee ∙ runs_func ∙ ap Func one;
              returned = λ c does. prog.types.returned c f does;
              no_borrow = result_free g r.there.no_borrow f (subst (IsOfGraph g) (runs_func ∙ ap Func one) of_graph);
              memory = memory_then p values s h stacks w later now v st b led prog f a.task.callee of_graph runs;
              memories = memories_then p values s h stacks w later now v st b led prog;
              own = prog.fits.own;
            }),
            marks_so,
          )
      ends_sync (Destroys resource l) runs_destroys =
          let one : l ≡ f = some_same (ap func_of (sym runs_destroys) ∙ runs) in
          (inr (record { acts = acts; resource = resource; runs = y.callee ∙ runs_destroys ∙ ap (Destroys resource) one }), marks_so)

      ends_async : (kind : Kind) → kind_of y.task ≡ kind → (kind ≡ Sync → ⊥) → EndsAsync v a.number y.task f words
      ends_async kind is_kind apart = record {
        acts = acts;
        state = state_then;
        gives = gives_word kind (ap (λ (c : Callee). kind_of_func (func_of c)) (sym y.callee) ∙ is_kind) apart;
        sets = λ inst here. sets_then f.instance inst here;
      }

      ends_by : (kind : Kind) → kind_of y.task ≡ kind → EndsWell p values (handed later) v a.number y.task f words kind
      ends_by Sync is_kind = ends_sync a.task.callee refl
      ends_by Callback is_kind = ends_async Callback is_kind (λ e. cc)
      ends_by Stackful is_kind = ends_async Stackful is_kind (λ e. cc)

      ends_there : PassesThere p values s (handed later) v (passing.Ended words)
      ends_there = record {
        number = a.number;
        task = y.task;
        func = f;
        may = record { acts = acts; well = ends_by (kind_of y.task) refl };
        ends = b.ends;
        lends = lends_then p values s h stacks w later now v st b led;
      }

  -- The acting task runs a function: a start function leaves nothing to be passed.
  runs_function : (state : TaskState) (c : Callee) → RunsIn state c → state ≡ Acting → IsSome (func_of c)
  runs_function state c runs acts = subst (λ (z : TaskState). RunsIn z c) acts runs

  pub ended_function : RunsFunction h ended.number
  ended_function slot there =
      let a : ActingTask w IsRunning = acting_task IsRunning w (acts_by g s w Runs k (rests p values s h stacks w rest.Runs r is)) in
      let first : slice_get w.chain 0 ≡ Some ended.number = sym (acting_is_alike g values s h stacks w st) ∙ ended.acts in
      let same : ended.number ≡ a.number = some_same (sym first ∙ a.first) in
      let x = slot_of g values s h stacks w st a.number a.task a.there in
      let one : x.0 ≡ slot = some_same (sym x.1 ∙ ap (λ (n : ℕ). slice_get h.tasks n) (sym same) ∙ there) in
      let both = ran.acts slot there in
      let acting : a.task.state ≡ Acting =
      acting_state (flag_at g) a.task.state (ap is_acting (sym x.2.far) ∙ ap (λ (z : TaskSlot). is_acting z.task.phase) one ∙ both.0) (sym both.1 ∙ ap (λ (z : TaskSlot). z.errand) (sym one) ∙ x.2.at) in
      runs_by g slot.callee a.task.callee (ap (λ (z : TaskSlot). callee_of g z.callee) (sym one) ∙ x.2.does) (runs_function a.task.state a.task.callee a.is.0 acting)

  pub ended_so : PassesThere p values s (handed later) v (passing.Ended words)
  ended_so =
      let a : ActingTask w IsRunning = acting_task IsRunning w (acts_by g s w Runs k (rests p values s h stacks w rest.Runs r is)) in
      let first : slice_get w.chain 0 ≡ Some ended.number = sym (acting_is_alike g values s h stacks w st) ∙ ended.acts in
      let same : ended.number ≡ a.number = some_same (sym first ∙ a.first) in
      let x = slot_of g values s h stacks w st a.number a.task a.there in
      let both = ran.acts x.0 (ap (λ (n : ℕ). slice_get h.tasks n) same ∙ x.1) in
      let acting : a.task.state ≡ Acting = acting_state (flag_at g) a.task.state (ap is_acting (sym x.2.far) ∙ both.0) (sym both.1 ∙ x.2.at) in
      let f = some_func (func_of a.task.callee) (runs_function a.task.state a.task.callee a.is.0 acting) in
      ends_there a same f.0 f.1 x.0 x.1 x.2 (instances_there g values s h stacks w r.there prog.begin a.number a.task f.0 a.there f.1)

pub ended_supplied : ReachedAreTyped → EndedSupplied
ended_supplied typed p values s h piles more w words run prog r is later v steps b =
    ended_so p values s h piles more w words typed run prog r is later v b (has_ended h piles more words later steps)
