-- The acting task's core code makes moves, calls, or ends: typed worlds are left.
use Rattle.std.proofs.Common.{◌≡◌, ◌∙◌, inl, inr, ℕ, Bool, true, false, if◌then◌else◌, List, [], ◌∷◌, refl, sym, ap, subst, Some, None, Result, Ok, Err}
use Rattle.std.specs.Prelude.{is_none, is_some, drop}
use Rattle.std.specs.List.{slice_get}
use Rattle.syntax_trees.specs.declared.module_types.ValType as core_val
use Rattle.wasm_numbers.specs.Types.{AreWords}
use Rattle.wasm_store.specs.Store.{Host as HostFunction, Store}
use Rattle.wasm_store.specs.Stack.{Stack}
use Rattle.wasm_store.specs.Step.{Move, Goes, Traps, resume, next}
use Rattle.wasm_store.specs.Step as core
use Rattle.wasm_store.specs.Typed.{StoreTyped, StackTyped}
use Rattle.wasm_store.specs.Laws.{MoveTyped}
use Rattle.wasm_store.proofs.Moving.{moves_typed}
use Rattle.entry_gate.specs.declared.kind.Kind.{Kind}
use Rattle.entry_gate.specs.declared.kind.Kind.TheVariants.{Sync, Callback, Stackful}
use Rattle.entry_gate.specs.Callbacks.{callback_of}
use Rattle.entry_gate.specs.declared.callback.BadCode.{BadCode}
use Rattle.entry_gate.specs.declared.callback.Next.{Next}
use Rattle.entry_gate.specs.declared.callback.Next.TheVariants as next_word
use Rattle.comp_graph.specs.Graph.{Graph, Lifted}
use Rattle.comp_graph.specs.Needs.{core_func, flat_result_limit, lift_type, post_return_type}
use Rattle.comp_graph.specs.declared.graph.Options.{Options}
use Rattle.syntax_trees.specs.declared.types.FuncType.{FuncType}
use Rattle.syntax_trees.specs.declared.core_type.FlatKind.TheVariants.{SyncLift, AsyncLift, CallbackLift}
use Rattle.syntax_trees.specs.Flat.{flat_func}
use Rattle.script_reader.specs.Script.{Script}
use Rattle.trace_labels.specs.declared.label.BlockReason.TheVariants as reason
use Rattle.trace_labels.specs.declared.trap.TrapName.TheVariants as trap
use Rattle.lowering_laws.specs.StoreBytes.{HasBytesAlone}
use Rattle.lowering_laws.proofs.Stores.{GoesOn}
use Rattle.lowering_laws.proofs.Moved as bytes
use Rattle.abi_machine.specs.Control.{Finishes}
use Rattle.abi_machine.specs.World.{Callee, TaskState, Acting, InLoop, Task, World}
use Rattle.abi_machine.specs.Edits.{with_store, unstacked}
use Rattle.abi_machine.specs.Canons.{kind_of_options}
use Rattle.abi_machine.specs.Reading.{acting, func_of, kind_of, kind_of_func}
use Rattle.abi_machine.specs.Finding.{set_at}
use Rattle.abi_machine.specs.Returning.{result_passed, returning_turn, ending_turn}
use Rattle.abi_machine.specs.Looping.{next_turn, looping_turn}
use Rattle.abi_machine.specs.CoreSteps.{costs, func_ended, stack_ended, ended_over, moved, running_turn}
use Rattle.abi_machine.specs.sound.Changes.{IsFirst}
use Rattle.abi_machine.specs.sound.Firsts.{TaskIs, FirstIs}
use Rattle.abi_machine.specs.sound.GraphFuncs.{IsOfGraph}
use Rattle.abi_machine.specs.sound.Callees.{IsUsedGraph}
use Rattle.abi_machine.specs.sound.Fitting.{FitsCall}
use Rattle.abi_machine.specs.sound.TypedStacks.{core_results, gives, IsWaiting, WaitBelow, TopIs, RunsTyped, CallsTyped}
use Rattle.abi_machine.proofs.sound.Found.{some_same, acting_first, acting_is}
use Rattle.abi_machine.proofs.sound.Acted.{now_is}
use Rattle.abi_machine.proofs.sound.TypedMoves.{below_later}
use Rattle.abi_machine.proofs.sound.own.Moved as own
use Rattle.abi_machine.proofs.sound.planned.Lifted.{IsLifting, result_comes}
use Rattle.abi_machine.proofs.sound.worlds.Grounds.{ground_later, ground_stacks}
use Rattle.abi_machine.proofs.sound.worlds.Turns.{IsGround, Good, given_good, unless_good, refused_good, charged_good, replied_good, blocked_good}
use Rattle.abi_machine.proofs.sound.worlds.Passing.{Beside, canon_of, callee_results, Resolving, resolving_lifts}
use Rattle.abi_machine.proofs.sound.worlds.Results.{resolves_good}
use Rattle.abi_machine.proofs.sound.worlds.Called.{WaitsAs, of_task, at_of}

-- A move of typed code over a store whose memories hold bytes.
abbrev pub MoveFine : Store → List core_val.ValType → Move → Type 0
MoveFine s results (Goes paid t l) = GoesOn s t × StackTyped t results l
MoveFine s results (core.Calls address words l) =
    (type : _) × (slice_get s.funcs address ≡ Some (HostFunction type)) × AreWords type.params words × ((answers : List ℕ) → AreWords type.results answers → StackTyped s results (resume answers l))
MoveFine s results (core.Ends words) = AreWords results words
MoveFine s results (Traps why) = Unit {0}
MoveFine s results core.Stuck = ⊥

fine : (s : Store) (results : List core_val.ValType) (m : Move) → HasBytesAlone s → MoveTyped s results m → own.MoveKeeps s m → bytes.MoveKeeps s m → MoveFine s results m
fine s results (Goes paid t l) all typed same keeps = (record { extends = typed.0; typed = typed.1; funcs = same.0; instances = same.1; bytes = keeps.1 all }, typed.2)
fine s results (core.Calls address words l) all typed same keeps = typed
fine s results (core.Ends words) all typed same keeps = typed
fine s results (Traps why) all typed same keeps = tt
fine s results core.Stuck all typed same keeps = typed

pub moves_fine : (s : Store) (results : List core_val.ValType) (k : Stack) → StoreTyped s → HasBytesAlone s → StackTyped s results k → MoveFine s results (next s k)
moves_fine s results k store all typed = fine s results (next s k) all (moves_typed s results k store typed) (own.next_keeps s k) (bytes.next_keeps s k)

-- What a function that is lifted without `async` gives back its post-return takes.
sync_gives : (options : Options) (f : FuncType) → kind_of_options options ≡ Sync → (lift_type options f).results ≡ (post_return_type f).params
sync_gives options f e = by options.is_async (is_some options.callback) e
  where
    by : (a b : Bool) → (let k : Kind = if a then (if b then Callback else Stackful) else Sync in k) ≡ Sync
        → (core_func (flat_func (if a then (if b then CallbackLift else AsyncLift) else SyncLift) f)).results ≡ (core_func (flat_func SyncLift f)).results
    by true true h = cc
    by true false h = cc
    by false b h = refl

module _ (g : Graph) (P : List ℕ → Type 0) (used : IsUsedGraph g) where
  ending_good : (t : ℕ) (task : Task) (w : World) → IsGround g w → Good g P (ending_turn t task w)
  unfolding ending_turn
  ending_good t task w ground = unless_good g P t (is_none task.resolution) trap.Unresolved w _ (λ some. λ a inside. inr (record { ground = ground; acts = tt }))

  next_good : (t : ℕ) (task x : Task) (i word : ℕ) (r : Result Next BadCode) (w : World) → IsGround g w → slice_get w.tasks t ≡ Some x → Good g P (next_turn t task i word r w)
  unfolding next_turn
  next_good t task x i word (Err why) w ground there = λ a inside. inl tt
  next_good t task x i word (Ok next_word.Exit) w ground there = ending_good t task w ground
  next_good t task x i word (Ok next_word.Yield) w ground there = blocked_good g P t (InLoop word) reason.Yield w ground (x, there, tt) tt
  next_good t task x i word (Ok (next_word.Wait set)) w ground there = refused_good g P t (set_at w i set) w _ (λ number e. blocked_good g P t (InLoop word) (reason.Wait set) w ground (x, there, tt) tt)
  next_good t task x i word (Ok (next_word.Poll set)) w ground there = refused_good g P t (set_at w i set) w _ (λ number e. blocked_good g P t (InLoop word) (reason.Poll set) w ground (x, there, tt) tt)

  looping_good : (t : ℕ) (task x : Task) (i : ℕ) (words : List ℕ) (w : World) → IsGround g w → slice_get w.tasks t ≡ Some x → Good g P (looping_turn t task i words w)
  unfolding looping_turn
  looping_good t task x i [] w ground there = tt
  looping_good t task x i (word ∷ words) w ground there = next_good t task x i word (callback_of word) w ground there

  returning_good : (t : ℕ) (task x : Task) (f : Lifted) (words : List ℕ) (w : World) → IsGround g w → IsFirst t w.chain → slice_get w.tasks t ≡ Some x → x.callee ≡ task.callee → x.caller ≡ task.caller → x.resolution ≡ task.resolution → x.state ≡ Acting
      → IsOfGraph g task.callee → FitsCall g task.callee task.caller → func_of task.callee ≡ Some f → AreWords (post_return_type f.func_type).params words → Good g P (returning_turn g t task f words w)
  unfolding returning_turn
  returning_good t task x f words w ground first there callee caller resolution acts of_graph fits runs ended =
      let R : World → Type 0 = Beside g t (Resolving g task.callee f (Finishes words) (canon_of task.caller) task.resolution) in
      let keeps : IsLifting R = resolving_lifts g t task.callee f (Finishes words) (canon_of task.caller) task.resolution in
      let x_runs : func_of x.callee ≡ Some f = ap func_of callee ∙ runs in
      resolves_good g P used t task f (Finishes words) (result_passed f.instance t flat_result_limit f.func_type.result f.options words w) f.instance tt of_graph runs fits
      (result_comes R keeps f.instance t flat_result_limit f.func_type.result f.options words w ground.bytes (record {
        ground = ground;
        first = first;
        is = (x, there, (acts, x_runs, subst (IsOfGraph g) (sym callee) of_graph, λ other e. subst (λ (y : Lifted). AreWords (post_return_type y.func_type).params words) (some_same (sym x_runs ∙ e)) ended, ap canon_of caller, resolution));
      }))

  func_good : (t : ℕ) (task x : Task) (f : Lifted) (kind : Kind) (words : List ℕ) (w : World) → IsGround g w → IsFirst t w.chain → slice_get w.tasks t ≡ Some x → x.callee ≡ task.callee → x.caller ≡ task.caller → x.resolution ≡ task.resolution → x.state ≡ Acting
      → IsOfGraph g task.callee → FitsCall g task.callee task.caller → func_of task.callee ≡ Some f → kind_of_options f.options ≡ kind → AreWords (lift_type f.options f.func_type).results words → Good g P (func_ended g t task f kind words w)
  unfolding func_ended
  func_good t task x f Sync words w ground first there callee caller resolution acts of_graph fits runs kind ended =
      returning_good t task x f words w ground first there callee caller resolution acts of_graph fits runs (subst (λ (ts : List core_val.ValType). AreWords ts words) (sync_gives f.options f.func_type kind) ended)
  func_good t task x f Stackful words w ground first there callee caller resolution acts of_graph fits runs kind ended = ending_good t task w ground
  func_good t task x f Callback words w ground first there callee caller resolution acts of_graph fits runs kind ended = looping_good t task x f.instance words w ground there

  -- what a stack of a task that acts was for
  pub stack_good : (t : ℕ) (task x : Task) (words : List ℕ) (w : World) → IsGround g w → IsFirst t w.chain → slice_get w.tasks t ≡ Some x → x.callee ≡ task.callee → x.caller ≡ task.caller → x.resolution ≡ task.resolution → x.state ≡ Acting
      → IsOfGraph g task.callee → FitsCall g task.callee task.caller → AreWords (core_results task.callee) words → Good g P (stack_ended g t task Acting words w)
  unfolding stack_ended
  stack_good t task x words w ground first there callee caller resolution acts of_graph fits ended =
      given_good g P (func_of task.callee) _ (λ f runs.
      func_good t task x f (kind_of task) words w ground first there callee caller resolution acts of_graph fits runs (sym (ap kind_of_func runs)) (subst (λ (ts : List core_val.ValType). AreWords ts words) (callee_results task.callee f runs) ended))

  -- what is known of the task whose stack makes moves
  pub record IsRunning (w : World) (t : ℕ) (task : Task) : Type 0 where
    pub first : IsFirst t w.chain
    pub there : slice_get w.tasks t ≡ Some task
    pub acts : task.state ≡ Acting
    pub of_graph : IsOfGraph g task.callee
    pub fits : FitsCall g task.callee task.caller

  -- it acts still, with other stacks
  acts_in : (w : World) (t : ℕ) (task : Task) → IsRunning w t task → TaskIs w.tasks t (λ x. x.state ≡ Acting)
  acts_in w t task h = (task, h.there, h.acts)

  over_good : (t : ℕ) (task : Task) (under : List Stack) (words : List ℕ) (w : World) → ((passed : List ℕ) → P passed → AreWords [] passed) → IsGround g w → IsRunning w t task → drop 1 task.stacks ≡ under → WaitBelow w.store task.callee under
      → AreWords (gives task.callee under) words → Good g P (ended_over g t task under words (unstacked t w))
  unfolding ended_over
  over_good t task [] words w takes ground h is below ended =
      let now : TaskIs (unstacked t w).tasks t (λ x. (x.callee ≡ task.callee) × (x.caller ≡ task.caller) × (x.resolution ≡ task.resolution) × (x.state ≡ Acting)) =
      now_is w.tasks t (λ x. record x { stacks = drop 1 x.stacks }) (λ x. x ≡ task) (λ x. (x.callee ≡ task.callee) × (x.caller ≡ task.caller) × (x.resolution ≡ task.resolution) × (x.state ≡ Acting))
      (λ x same. (ap (λ (y : Task). y.callee) same, ap (λ (y : Task). y.caller) same, ap (λ (y : Task). y.resolution) same, ap (λ (y : Task). y.state) same ∙ h.acts)) (task, h.there, refl) in
      subst (λ (state : TaskState). Good g P (stack_ended g t task state words (unstacked t w))) (sym h.acts)
      (stack_good t task now.0 words (unstacked t w) (ground_stacks g w.store t (λ ks. drop 1 ks) w.tasks w.insts None (acts_in w t task h) ground) h.first now.1 now.2.0 now.2.1 now.2.2 now.2.3 h.of_graph h.fits ended)
  over_good t task (k ∷ under) words w takes ground h is below ended =
      replied_good g P t [] (unstacked t w) (at_of g P (unstacked t w) t [] takes (record {
        ground = ground_stacks g w.store t (λ ks. drop 1 ks) w.tasks w.insts None (acts_in w t task h) ground;
        first = h.first;
        is = now_is w.tasks t (λ x. record x { stacks = drop 1 x.stacks }) (λ x. x ≡ task) (WaitsAs [] w.store)
            (λ x same. subst (λ (y : Task). WaitsAs [] w.store (record y { stacks = drop 1 y.stacks })) (sym same) (h.acts, subst (λ (ks : List Stack). TopIs (IsWaiting w.store []) w.store task.callee ks) (sym is) below)) (task, h.there, refl);
      }))

  -- by the move; the acting stack gives what the one under it, or the task's function, gives
  move_good : (t : ℕ) (task : Task) (m : Move) (results : List core_val.ValType) (w : World) → ((passed : List ℕ) → P passed → AreWords [] passed) → IsGround g w → IsRunning w t task → results ≡ gives task.callee (drop 1 task.stacks)
      → WaitBelow w.store task.callee (drop 1 task.stacks) → MoveFine w.store results m → Good g P (moved g t task m w)
  unfolding moved
  move_good t task (Goes paid s k) results w takes ground h is below m =
      let later : IsGround g (with_store s w) = ground_later g w.store s w.tasks w.insts None m.0 ground in
      λ a inside. inr (record {
        ground = ground_stacks g s t (λ ks. k ∷ drop 1 ks) w.tasks w.insts None (acts_in w t task h) later;
        acts = (
          t,
          h.first,
          now_is w.tasks t (λ x. record x { stacks = k ∷ drop 1 x.stacks }) (λ x. x ≡ task) (RunsTyped s)
              (λ x same. subst (λ (y : Task). RunsTyped s (record y { stacks = k ∷ drop 1 y.stacks })) (sym same) (subst (λ (ts : List core_val.ValType). StackTyped s ts k) is m.1, below_later w.store s task.callee (drop 1 task.stacks) m.0.extends below)) (task, h.there, refl),
        );
      })
  move_good t task (core.Calls address words k) results w takes ground h is below m =
      let hosted = ground.hosts address m.0 m.1 in
      λ a inside. inr (record {
        ground = ground_stacks g w.store t (λ ks. k ∷ drop 1 ks) w.tasks w.insts None (acts_in w t task h) ground;
        acts = (
          t,
          h.first,
          now_is w.tasks t (λ x. record x { stacks = k ∷ drop 1 x.stacks }) (λ x. x ≡ task) _
              (λ x same. subst (λ (y : Task). CallsTyped g w.store address words (record y { stacks = k ∷ drop 1 y.stacks })) (sym same) (
                hosted.0,
                hosted.1,
                subst (λ f. AreWords f.params words) (sym hosted.2) m.2,
                ((λ answers fit. subst (λ (ts : List core_val.ValType). StackTyped w.store ts (resume answers k)) is (m.3 answers (subst (λ f. AreWords f.results answers) hosted.2 fit))), below),
              )) (task, h.there, refl),
        );
      })
  move_good t task (core.Ends words) results w takes ground h is below m =
      over_good t task (drop 1 task.stacks) words w takes ground h refl below (subst (λ (ts : List core_val.ValType). AreWords ts words) is m)
  move_good t task (Traps why) results w takes ground h is below m = λ a inside. inl tt
  move_good t task core.Stuck results w takes ground h is below m = absurd m

  -- the acting stack and what is under it
  split : (s : Store) (callee : Callee) (stacks : List Stack) (k : Stack) → slice_get stacks 0 ≡ Some k → TopIs (StackTyped s) s callee stacks → StackTyped s (gives callee (drop 1 stacks)) k × WaitBelow s callee (drop 1 stacks)
  split s callee [] k e h = cc
  split s callee (x ∷ under) k e h = (subst (λ (y : Stack). StackTyped s (gives callee under) y) (some_same e) h.0, h.1)

  pub running_good : (s : Script) (w : World) → ((passed : List ℕ) → P passed → AreWords [] passed) → IsGround g w → FirstIs w.tasks w.chain (RunsTyped w.store) → ((a : ℕ × Task) → acting w ≡ Some a → IsRunning w a.0 a.1) → Good g P (running_turn g s w)
  unfolding running_turn
  running_good s w takes ground runs known =
      given_good g P (acting w) _ (λ a e. given_good g P (slice_get a.1.stacks 0) _ (λ k there.
      let task_is : TaskIs w.tasks a.0 (RunsTyped w.store) = subst (λ (n : ℕ). TaskIs w.tasks n (RunsTyped w.store)) (some_same (sym runs.1 ∙ acting_first w a e)) runs.2 in
      let own : RunsTyped w.store a.1 = of_task w.tasks a.0 (RunsTyped w.store) a.1 (acting_is w a e) task_is in
      let top = split w.store a.1.callee a.1.stacks k there own in
      charged_good g P (costs k (next w.store k)) s w _ (λ units.
      move_good a.0 a.1 (next w.store k) (gives a.1.callee (drop 1 a.1.stacks)) (record w { units = units }) takes ground (moved_units a.0 a.1 units w (known a e)) refl top.1 (moves_fine w.store (gives a.1.callee (drop 1 a.1.stacks)) k ground.store ground.bytes top.0))))
    where
      moved_units : (t : ℕ) (task : Task) (units : ℕ) (v : World) → IsRunning v t task → IsRunning (record v { units = units }) t task
      moved_units t task units v h = record { first = h.first; there = h.there; acts = h.acts; of_graph = h.of_graph; fits = h.fits }
