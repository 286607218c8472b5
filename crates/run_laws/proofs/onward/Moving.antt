-- Where a run rests, and so much is carried, all that is asked for marks to stay behind a step is so.
use Rattle.std.proofs.Common.{◌≡◌, inl, inr, ◌-◌, ℕ, zero, suc, Bool, true, false, ◌&&◌, nat_eq, is_some, is_none, List, [], ◌∷◌, length, refl, sym, ap, ◌∙◌, subst, arith, Option, Some, None}
use Rattle.std.specs.Prelude.{IsSome}
use Rattle.std.specs.List.{slice_get}
use Rattle.std.specs.Option.{option_and_then}
use Rattle.std.proofs.lemmas.Bool.{eq-eqb}
use Rattle.syntax_trees.specs.declared.types.ValType.{ValType}
use Rattle.wasm_store.specs.Stack.{Stack}
use Rattle.entry_gate.specs.Gates.{GateView}
use Rattle.entry_gate.specs.Kinds.{needs_entry}
use Rattle.entry_gate.specs.Stays.{Inside, holder_of}
use Rattle.entry_gate.specs.declared.kind.Kind.TheVariants.{Callback}
use Rattle.tasks.specs.declared.event.BlockedAt.{BlockedAt}
use Rattle.tasks.specs.declared.event.BlockedAt.TheVariants as blocked_at
use Rattle.tasks.specs.declared.phase.Phase.TheVariants as phase
use Rattle.comp_graph.specs.declared.graph.CanonFunc.{CanonFunc}
use Rattle.comp_graph.specs.declared.graph.CanonFunc.TheVariants as canon
use Rattle.comp_graph.specs.Graph.{Graph, Lifted}
use Rattle.script_reader.specs.Script.{Script}
use Rattle.instances.specs.declared.entry.WorldEntry.{WorldEntry}
use Rattle.instances.specs.declared.entry.WorldEntry.TheVariants as entry
use Rattle.instances.specs.Instances.{InstanceView, entry_of}
use Rattle.task_table.specs.declared.caller.Caller as kept_caller
use Rattle.task_table.specs.declared.caller.Caller.TheVariants as by
use Rattle.task_table.specs.declared.errand.Errand.{Errand}
use Rattle.task_table.specs.declared.slot.TaskSlot.{TaskSlot}
use Rattle.programs.specs.declared.program.Program.{Program}
use Rattle.world_parts.specs.declared.parts.Rest.{Rest}
use Rattle.world_parts.specs.declared.parts.Rest.TheVariants as rest
use Rattle.world_parts.specs.Held.{Held}
use Rattle.world_stacks.specs.Views.{PileView}
use Rattle.abi_machine.specs.Control.{Control, Instantiates, Arrives, Resumes, Back, Leaves}
use Rattle.abi_machine.specs.World.{Entry, OfSubtask, ForYield, ForSet, ForCall, ForCopy, ForCancel, Wait, Caller, Nobody, New, Acting, AfterCall, AfterCancel, Begins, WaitsToEnter, InLoop, InBuiltin, Exited, TaskState, Inst, Task, World}
use Rattle.abi_machine.specs.Canons.{flag_at, inst_of_canon}
use Rattle.abi_machine.specs.Cancelling.{first_of}
use Rattle.abi_machine.specs.Counting.{passes, phase_of, blocked_at_of}
use Rattle.abi_machine.specs.Gate.{place_of, stays_of}
use Rattle.abi_machine.specs.Reading.{func_of, has_exited, is_in, kind_of, may_leave, runs_in, task_at}
use Rattle.abi_machine.specs.sound.Acting.{Outline, outline_of, StandsBy, IsStarting, IsNew, IsActing, IsCalling, IsWaitingFor, WasBlocked}
use Rattle.abi_machine.specs.sound.Agreeing.{Tells}
use Rattle.abi_machine.specs.sound.Called.{CalledBy}
use Rattle.abi_machine.specs.sound.Cancels.{StandsIn, CancelStands}
use Rattle.abi_machine.specs.sound.Changes.{IsBlocked}
use Rattle.abi_machine.specs.sound.Firsts.{MayBeInside, FirstIs}
use Rattle.abi_machine.specs.sound.Guests.{WaitsAs}
use Rattle.abi_machine.proofs.sound.Found.{some_same}
use Rattle.reach_laws.specs.Reached.{CodePassesWords, ReachedAreTyped, StartsTyped}
use Rattle.standing.specs.KeptMarks.{runs_func}
use Rattle.standing.specs.MarksKept.{StandOnce}
use Rattle.standing.specs.Stands.{Stands}
use Rattle.standing.specs.Tasks.{errand_of, CallerStands, RunsIn, TaskStands}
use Rattle.standing.proofs.Changes.{acting_is_alike}
use Rattle.standing.proofs.KeptMarks.{gates_are_kept, runs_alike}
use Rattle.run_laws.specs.Answering.{CallsOwn, IsSoundAt}
use Rattle.run_laws.specs.Carried.{IsRight, IsFit}
use Rattle.run_laws.specs.Points.{AtRest, stacks_at}
use Rattle.run_laws.specs.Steps.{IsReached, MayMove, TaskWell, CallWell}
use Rattle.run_laws.specs.Supplied.{RestsReached, InstancesThere, PlacesAreKept}
use Rattle.run_laws.specs.Taking as taking
use Rattle.run_laws.specs.TaskLists.{call_of, called_at}
use Rattle.run_laws.specs.keeping.Acting.{ActingIs, GoesOn, MayCall, WokenWell}
use Rattle.run_laws.specs.keeping.Answers.{MayAnswer}
use Rattle.run_laws.specs.keeping.Cancels.{BackWell, OneWaits}
use Rattle.run_laws.specs.keeping.CancelsKept.{CancelsKept}
use Rattle.run_laws.specs.keeping.Instantiating.{NoneRuns}
use Rattle.run_laws.specs.keeping.Kept.{CalledFrom, RunsFunction, SubtasksAreOwn}
use Rattle.run_laws.specs.keeping.Moves.{ActingRuns, GoesOnWell, SubtaskAlone}
use Rattle.run_laws.specs.keeping.Steps.{GoesSo}
use Rattle.run_laws.specs.keeping.Stepping.{InitRuns}
use Rattle.run_laws.specs.keeping.Turning.{TurnWell}
use Rattle.run_laws.proofs.Beside.{calls_are_in}
use Rattle.run_laws.proofs.Canons.{leave_is_alike}
use Rattle.run_laws.proofs.Reached.{instantiated_is, some_func}
use Rattle.run_laws.proofs.onward.Knowing.{IsKnown}
use Rattle.run_laws.proofs.onward.Resting.{rests_reached, insts_there, may_move_at}
use Rattle.run_laws.proofs.keeping.CancelsKept.{cancels_are_kept}
use Rattle.run_laws.proofs.keeping.Sound.{tables_are_sound}
use Rattle.run_laws.proofs.supplied.Begun.{late_runs}
use Rattle.run_laws.proofs.supplied.Found.{task_of, view_of_inst, entry_shown, entry_back, subtask_kept, called_shown}
use Rattle.run_laws.proofs.supplied.Kept.{numbers_are_there, nothing_is_lent_next, no_task_waits_next, one_holds_entry, runs_by, tasks_run_functions, waiting_called}
use Rattle.run_laws.proofs.supplied.Known.{Known, known}
use Rattle.run_laws.proofs.supplied.Moves.{ActingTask, acting_task, rests, acts_by, stands_by, blocked_runs, waiting_runs, from_here, task_here}
use Rattle.run_laws.proofs.supplied.Sets.{sets_are_apart}
use Rattle.run_laws.proofs.well.Woken.{back_unawaited}

blocked_same : (a b : BlockedAt) (c d : Bool) → phase.Blocked a c ≡ phase.Blocked b d → a ≡ b
blocked_same a b c d e = cc

none_of : (o : Option ℕ) → is_none o ≡ true → o ≡ None
none_of None e = refl
none_of (Some n) e = absurd (cc)

not_called : (call : ℕ) → call_of by.Nobody ≡ Some call → ⊥
not_called call e = cc

-- Who is called by a task that runs at an instance of the world is so of what is kept.
pub called_here : (g : Graph) (values : List ValType) (s : Script) (h : Held) (stacks : List (List Stack)) (w : World) (at callee : ℕ) → Stands g values s h stacks w → taking.CalledFrom w at callee → CalledFrom h at callee
called_here g values s h stacks w at callee st from slot called there is =
    let a = task_of g values s h stacks w st callee slot there in
    let c = called_shown s slot.caller a.0.caller called a.2.called is in
    let runs : passes (runs_in at) (task_at w c.0.by) ≡ true = from a.0 c.0 a.1 c.1 in
    task_here g values s h stacks w at called.by c.0.by st c.2.caller (slice_get w.tasks c.0.by) refl runs

module _ (p : Program) (h : Held) (piles : List PileView) (w : World) (fit : IsFit p) (reached : IsReached p.graph.now p.script.now w)
    (at : AtRest p.graph.now p.types.now p.script.now h (stacks_at piles) [] w) (right : IsRight p.script.now h) where
  abbrev g : Graph
  g = p.graph.now

  abbrev s : Script
  s = p.script.now

  abbrev values : List ValType
  values = p.types.now

  abbrev stacks : List (List Stack)
  stacks = stacks_at piles

  abbrev st : Stands g values s h stacks w
  st = at.stands

  abbrev r : RestsReached p values s h stacks w
  r = rests_reached p h piles w fit reached at right

  abbrev k : Known g s w
  k = known g values s h stacks w r.there

  abbrev insts : InstancesThere w
  insts = insts_there p h piles w fit reached at right

  -- The acting task, on both sides.
  record Acts (t : ℕ) (x : TaskSlot) (P : Outline → Type 0) : Type 0 where
    task : Task
    first : slice_get w.chain 0 ≡ Some t
    there : slice_get w.tasks t ≡ Some task
    is : P (outline_of task)
    stands : TaskStands g s x task
    by_state : StandsBy task.state (outline_of task)

  acts_as : (P : Outline → Type 0) (a : ActingTask w P) (t : ℕ) (x : TaskSlot) → slice_get h.chain (length h.chain - 1) ≡ Some t → slice_get h.tasks t ≡ Some x → Acts t x P
  acts_as P a t x last there =
      let first : slice_get w.chain 0 ≡ Some t = sym (acting_is_alike g values s h stacks w st) ∙ last in
      let b = task_of g values s h stacks w st t x there in
      let same : a.number ≡ t = some_same (sym a.first ∙ first) in
      let one : a.task ≡ b.0 = some_same (sym a.there ∙ ap (λ (n : ℕ). slice_get w.tasks n) same ∙ b.1) in
      record {
        task = b.0;
        first = first;
        there = b.1;
        is = subst (λ (z : Task). P (outline_of z)) one a.is;
        stands = b.2;
        by_state = stands_by g s w t b.0 k b.1;
      }

  abbrev AreRunning : (Outline → Type 0) → Type 0
  AreRunning P = (o : Outline) → P o → StandsBy o.state o → IsSome (func_of o.callee)

  new_runs : AreRunning IsNew
  new_runs o is so = (subst (λ (x : TaskState). StandsBy x o) is so).0

  acting_runs : (P : Outline → Type 0) → AreRunning P → ActingTask w P → ActingRuns h
  acting_runs P run a t last slot there =
      let x : Acts t slot P = acts_as P a t slot last there in runs_by g slot.callee x.task.callee x.stands.does (run (outline_of x.task) x.is x.by_state)

  pub arriving : h.rest ≡ rest.Arrives → ActingTask w IsNew
  arriving is = acting_task IsNew w (acts_by g s w Arrives k (rests p values s h stacks w rest.Arrives r is))

  pub resuming : h.rest ≡ rest.Resumes → ActingTask w WasBlocked
  resuming is = acting_task WasBlocked w (acts_by g s w Resumes k (rests p values s h stacks w rest.Resumes r is))

  pub arrives_run : h.rest ≡ rest.Arrives → ActingRuns h
  arrives_run is = acting_runs IsNew new_runs (arriving is)

  pub resumes_run : h.rest ≡ rest.Resumes → ActingRuns h
  resumes_run is = acting_runs WasBlocked (λ o blocked so. blocked_runs o.state o blocked so) (resuming is)

  -- Subtasks were called from where they stand, and those that are cancelled are kept so.
  cancels : CancelsKept h
  cancels = cancels_are_kept g values s h stacks w st k.standing.subtasks k.standing.cancels k.awaited right.marks right.well

  pub stand_once : (n : ℕ) (i : InstanceView) → slice_get h.instances n ≡ Some i → StandOnce i
  stand_once n i here = (sets_are_apart g values s h stacks w n r.there).once i here

  place_is : (x : TaskSlot) (task : Task) (f : Lifted) → TaskStands g s x task → func_of task.callee ≡ Some f → x.instance ≡ f.instance
  place_is x task f stands runs = subst (λ (o : Option Lifted). RunsIn x.instance o) runs stands.place

  -- One that waits in its loop, or to enter, goes on where none holds the entry that it needs.
  pub let_in : (t : ℕ) (task : Task) (f : Lifted) → FirstIs w.tasks w.chain (MayBeInside w.tasks) → slice_get w.chain 0 ≡ Some t → slice_get w.tasks t ≡ Some task → func_of task.callee ≡ Some f
      → (place_of task.state ≡ Inside → ⊥) → needs_entry (kind_of task) ≡ true → holder_of (stays_of w f.instance) ≡ None
  let_in t task f lets first there runs out needs =
      let same : lets.0 ≡ t = some_same (sym lets.1 ∙ first) in
      let one : lets.2.0 ≡ task = some_same (sym lets.2.1 ∙ ap (λ (n : ℕ). slice_get w.tasks n) same ∙ there) in
      elim (subst (λ (z : Task). MayBeInside w.tasks z) one lets.2.2) [
        | inl inside ↦ absurd (out inside)
        | inr free ↦ none_of (holder_of (stays_of w f.instance)) (free f runs needs)
      ]

  pub resumes_let_in : h.rest ≡ rest.Resumes → FirstIs w.tasks w.chain (MayBeInside w.tasks)
  resumes_let_in is =
      subst (λ (c : Control). Tells c w.tasks w.chain w.streams w.futures w.insts) (rests p values s h stacks w rest.Resumes r is) k.standing.alone.2

  pub no_holder : (f : Lifted) (i : InstanceView) → slice_get h.instances f.instance ≡ Some i → holder_of (stays_of w f.instance) ≡ None → i.gate.holder ≡ None
  no_holder f i here none = ap (λ (v : GateView). v.holder) (gates_are_kept g values s h stacks w f.instance st right.marks i here) ∙ none

  -- While it instantiates no task runs a function.
  not_late : (number : ℕ) → h.rest ≡ rest.Instantiates number → may_leave w ≡ false
  not_late number is =
      let control : w.control ≡ Instantiates number = rests p values s h stacks w (rest.Instantiates number) r is in
      let a : ActingTask w IsStarting = acting_task IsStarting w (acts_by g s w (Instantiates number) k control) in
      let chain : w.chain ≡ 0 ∷ [] = subst (λ (c : Control). Tells c w.tasks w.chain w.streams w.futures w.insts) control k.standing.alone.2 in
      let zero_is : a.number ≡ 0 = some_same (sym a.first ∙ ap (λ (c : List ℕ). slice_get c 0) chain) in
      instantiated_is w.tasks a.task (ap (λ (n : ℕ). slice_get w.tasks n) (sym zero_is) ∙ a.there) ∙ ap has_exited a.is.0

  none_runs : (number : ℕ) → h.rest ≡ rest.Instantiates number → NoneRuns h
  none_runs number is t slot there =
      let a = task_of g values s h stacks w st t slot there in
      by_func slot a.0 a.2 (func_of a.0.callee) refl
      (λ some. (let clash : false ≡ true = sym (not_late number is) ∙ late_runs g values s h stacks w r.there fit.fits.begin t a.0 a.1 some (may_leave w) refl in let wrong : ⊥ = cc in wrong))
    where
      not_both : (a b : Bool) → (a && b) ≡ false → b ≡ true → a ≡ false
      not_both true b e f = sym f ∙ e
      not_both false b e f = refl

      by_func : (x : TaskSlot) (task : Task) → TaskStands g s x task → (o : Option Lifted) → func_of task.callee ≡ o → (IsSome (func_of task.callee) → ⊥) → runs_func x.callee ≡ false
      by_func x task stands None runs never =
          not_both (runs_func x.callee) (nat_eq x.instance x.instance) (runs_alike g s x.instance x task stands ∙ ap (is_in x.instance) runs) (eq-eqb x.instance x.instance refl)
      by_func x task stands (Some f) runs never = absurd (never (ap is_some runs))

  init_by : (x : Rest) → h.rest ≡ x → InitRuns x h
  init_by (rest.Instantiates number) is = none_runs number is
  init_by rest.Free is = tt
  init_by rest.Arrives is = tt
  init_by rest.Goes is = tt
  init_by rest.Resumes is = tt
  init_by rest.Back is = tt
  init_by rest.Runs is = tt
  init_by (rest.Calls number) is = tt
  init_by rest.Leaves is = tt

  -- The tasks of the script's calls are others than the one that instantiates.
  nobody : (c : kept_caller.Caller) → CallerStands s c Nobody → c ≡ by.Nobody
  nobody by.Nobody stands = refl
  nobody (by.Host number) stands = absurd stands
  nobody (by.Guest called) stands = absurd stands

  runs_call : (call t : ℕ) → called_at h.tasks t ≡ Some call → RunsFunction h t
  runs_call call zero e slot there =
      let a = task_of g values s h stacks w st 0 slot there in
      let none : a.0.caller ≡ Nobody = (k.standing.numbered.called 0 a.0 a.1).1 in
      let kept_none : slot.caller ≡ by.Nobody = nobody slot.caller (subst (λ (c : Caller). CallerStands s slot.caller c) none a.2.called) in
      absurd
      (not_called call
      (ap call_of (sym kept_none) ∙ sym (ap (λ (o : Option TaskSlot). option_and_then (λ (x : TaskSlot). call_of x.caller) o) there) ∙ e))
  runs_call call (suc t) e slot there = tasks_run_functions g values s h stacks w (suc t) r.there (omega (arith)) slot there

  turn_well : TurnWell h
  turn_well = record {
    numbers = numbers_are_there g values s h stacks w r.there;
    calls = λ call t is. runs_call call t (right.lists.calls.made call t is);
  }

  module _ (known_so : IsKnown g w) where
    pub own : (n : ℕ) → SubtasksAreOwn h n
    own n index callee i here stood =
        let e = entry_shown g values s h stacks w st n index i (entry.Subtask callee) here stood in
        from_here g values s h stacks w n callee st (known_so.worlds.called_out n index callee (e.1 ∙ ap (λ (y : Entry). Some y) e.2))

    -- A blocked task goes on.
    module _ (is_rest : h.rest ≡ rest.Resumes) (t : ℕ) (x : TaskSlot) (a : Acts t x WasBlocked) (here_slot : slice_get h.tasks t ≡ Some x) (f : Lifted) (runs : func_of a.task.callee ≡ Some f) (i : InstanceView)
        (here : slice_get h.instances f.instance ≡ Some i) where
      abbrev in_place : x.instance ≡ f.instance
      in_place = place_is x a.task f a.stands runs

      at_instance : (P : ℕ → Type 0) → P f.instance → P x.instance
      at_instance P y = subst P (sym in_place) y

      loop_on : (word : ℕ) → a.task.state ≡ InLoop word → GoesOnWell h x i (blocked_at.Loop word)
      loop_on word is =
          let callback : kind_of a.task ≡ Callback = subst (λ (z : TaskState). WaitsAs w.tasks a.task.callee z) is (k.standing.waits t a.task a.there) in
          let needs : needs_entry (kind_of a.task) ≡ true = ap needs_entry callback in
          let outside : place_of a.task.state ≡ Inside → ⊥ = λ inside. (let clash : place_of (InLoop word) ≡ Inside = sym (ap place_of is) ∙ inside in let wrong : ⊥ = cc in wrong) in (
            ap needs_entry a.stands.lifted ∙ needs,
            no_holder f i here (let_in t a.task f (resumes_let_in is_rest) a.first a.there runs outside needs),
            stand_once f.instance i here,
          )

      cancel_on : (number index : ℕ) (words : List ℕ) → a.task.state ≡ InBuiltin number words (ForCancel index) → GoesOnWell h x i (blocked_at.Cancel index)
      cancel_on number index words is =
          let stands : CancelStands w.tasks w.insts (func_of a.task.callee) (InBuiltin number words (ForCancel index)) =
          subst (λ (z : TaskState). CancelStands w.tasks w.insts (func_of a.task.callee) z) is (k.standing.cancels.stands t a.task a.there) in
          let stood : StandsIn w.insts (Some f) index stands.0 = subst (λ (o : Option Lifted). StandsIn w.insts o index stands.0) runs stands.1 in
          let e = entry_back g values s h stacks w st f.instance index i (OfSubtask stands.0) here stood in
          let is_there : entry_of i index ≡ Some (entry.Subtask stands.0) = e.1 ∙ ap (λ (y : WorldEntry). Some y) (subtask_kept values e.0 stands.0 e.2) in (
            at_instance (λ (n : ℕ). OneWaits h n index) ((cancels.alone f.instance index stands.0 i here is_there).0),
            at_instance (λ (n : ℕ). SubtaskAlone h n i index) (λ callee at_index. ((cancels.alone f.instance index callee i here at_index).1, own f.instance index callee i here at_index)),
            right.well.gave,
          )

      wait_on : (number : ℕ) (words : List ℕ) (wait : Wait) → a.task.state ≡ InBuiltin number words wait → GoesOnWell h x i (blocked_at_of wait)
      wait_on number words ForYield is = right.well.asked
      wait_on number words (ForSet index) is = stand_once f.instance i here
      wait_on number words (ForCall callee) is = (
        at_instance (λ (n : ℕ). CalledFrom h n callee)
            (waiting_called g values s h stacks w t callee number a.task f r.there a.there runs (subst (λ (z : TaskState). CalledBy z callee number) (sym is) (refl, refl))),
        right.well.gave,
      )
      wait_on number words (ForCopy index) is = tt
      wait_on number words (ForCancel index) is = cancel_on number index words is

      goes_by : (state : TaskState) → a.task.state ≡ state → IsBlocked state → (why : BlockedAt) (flag : Bool) → phase_of (flag_at g) state ≡ phase.Blocked why flag → GoesOnWell h x i why
      goes_by New is blocked why flag far = absurd blocked
      goes_by Acting is blocked why flag far = absurd blocked
      goes_by (AfterCall callee number words) is blocked why flag far = absurd blocked
      goes_by (AfterCancel callee number words) is blocked why flag far = absurd blocked
      goes_by (Begins n) is blocked why flag far = absurd blocked
      goes_by WaitsToEnter is blocked why flag far = subst (λ (z : BlockedAt). GoesOnWell h x i z) (blocked_same blocked_at.Entry why false flag far) tt
      goes_by (InLoop word) is blocked why flag far =
          subst (λ (z : BlockedAt). GoesOnWell h x i z) (blocked_same (blocked_at.Loop word) why false flag far) (loop_on word is)
      goes_by (InBuiltin number words wait) is blocked why flag far =
          subst (λ (z : BlockedAt). GoesOnWell h x i z) (blocked_same (blocked_at_of wait) why (flag_at g number) flag far) (wait_on number words wait is)
      goes_by Exited is blocked why flag far = absurd blocked

    goes_on : h.rest ≡ rest.Resumes → ActingIs h (λ t x. GoesOn h x)
    goes_on is t x last there why flag far =
        let a : Acts t x WasBlocked = acts_as WasBlocked (resuming is) t x last there in
        let f = some_func (func_of a.task.callee) (blocked_runs a.task.state (outline_of a.task) a.is a.by_state) in
        let inst = some_inst (slice_get w.insts f.0.instance) (insts t a.task f.0 a.there f.1) in
        let i = view_of_inst g values s h stacks w st f.0.instance inst.0 inst.1 in (
          i.0,
          ap (λ (n : ℕ). slice_get h.instances n) (place_is x a.task f.0 a.stands f.1) ∙ i.1,
          goes_by is t x a there f.0 f.1 i.0 i.1 a.task.state refl a.is why flag (sym a.stands.far ∙ far),
        )
      where
        some_inst : (o : Option Inst) → IsSome o → (z : Inst) × (o ≡ Some z)
        some_inst None h = absurd (cc)
        some_inst (Some z) h = (z, refl)

    -- Control is back.
    back_by : (t : ℕ) (x : TaskSlot) (a : Acts t x IsCalling) → slice_get h.tasks t ≡ Some x → (f : Lifted) → func_of a.task.callee ≡ Some f → (state : TaskState) → a.task.state ≡ state → IsWaitingFor state
        → x.errand ≡ errand_of state → BackWell h t x (errand_of state)
    back_by t x a there f runs New is waits same = absurd waits
    back_by t x a there f runs Acting is waits same = absurd waits
    back_by t x a there f runs (AfterCall callee number words) is waits same = (
      subst (λ (n : ℕ). CalledFrom h n callee) (sym (place_is x a.task f a.stands runs))
          (waiting_called g values s h stacks w t callee number a.task f r.there a.there runs (subst (λ (z : TaskState). CalledBy z callee number) (sym is) (refl, refl))),
      right.well.gave,
      tables_are_sound g values s h stacks w x.instance st,
      no_task_waits_next g values s h stacks w x.instance r.there,
      back_unawaited h t callee number x right.well there same,
    )
    back_by t x a there f runs (AfterCancel callee number words) is waits same = (
      subst (λ (n : ℕ). CalledFrom h n callee) (sym (place_is x a.task f a.stands runs))
          (called_here g values s h stacks w f.instance callee st (known_so.worlds.cancels t callee number words a.task f a.there runs is)),
      right.well.gave,
      cancels.back t callee number (first_of words) x there same (runs_by g x.callee a.task.callee a.stands.does (ap is_some runs)),
    )
    back_by t x a there f runs (Begins n) is waits same = absurd waits
    back_by t x a there f runs WaitsToEnter is waits same = absurd waits
    back_by t x a there f runs (InLoop word) is waits same = absurd waits
    back_by t x a there f runs (InBuiltin number words wait) is waits same = absurd waits
    back_by t x a there f runs Exited is waits same = absurd waits

    is_back : h.rest ≡ rest.Back → ActingIs h (λ t x. BackWell h t x x.errand)
    is_back is t x last there =
        let a : Acts t x IsCalling = acts_as IsCalling (acting_task IsCalling w (acts_by g s w Back k (rests p values s h stacks w rest.Back r is))) t x last there in
        let f = some_func (func_of a.task.callee) (waiting_runs a.task.state (outline_of a.task) a.is a.by_state) in
        subst (λ (e : Errand). BackWell h t x e) (sym a.stands.at) (back_by t x a there f.0 f.1 a.task.state refl a.is a.stands.at)

    -- A canonical function is called.
    module _ (passed : CodePassesWords) (typed : ReachedAreTyped) (starts : StartsTyped) (places : PlacesAreKept h w) where
      may_answer : (t : ℕ) (task : Task) (c : CanonFunc) (number : ℕ) (well : CallWell p values h w t task number) → well.made ≡ c → may_leave w ≡ true → MayAnswer h t c
      may_answer t task (canon.Lower l) number well same late = numbers_are_there g values s h stacks w r.there
      may_answer t task (canon.Builtin b) number well same late = record {
        calls = calls_are_in g values s h stacks w t task well.func (canon.Builtin b) (subst (λ (c : CanonFunc). CallsOwn w t task well.func c) same (well.own late))
            (subst (λ (c : CanonFunc). IsSoundAt g w t (inst_of_canon c)) same well.sound) (sets_are_apart g values s h stacks w b.instance r.there) st;
        numbers = numbers_are_there g values s h stacks w r.there;
        sound = tables_are_sound g values s h stacks w b.instance st;
        unlent = nothing_is_lent_next g values s h stacks w b.instance r.there;
        own = own b.instance;
        gave = right.well.gave;
        asked = right.well.asked;
      }

      calls_well : (number : ℕ) → h.rest ≡ rest.Calls number → MayCall g h number
      calls_well number is t c last made late =
          let m : MayMove p values s h w = may_move_at p h piles w fit reached at right passed typed starts known_so places number is in
          let well : CallWell p values h w m.number m.task number = subst (λ (z : Rest). TaskWell p values h w m.number m.task z) is m.well in
          let same : m.number ≡ t = some_same (sym m.first ∙ sym (acting_is_alike g values s h stacks w st) ∙ last) in
          subst (λ (n : ℕ). MayAnswer h n c) same
          (may_answer m.number m.task c number well (some_same (sym well.there ∙ made)) (sym (leave_is_alike g values s h stacks w st) ∙ late))

      woken_by : (x : Rest) → h.rest ≡ x → WokenWell g x h
      woken_by (rest.Instantiates number) is = tt
      woken_by rest.Free is = tt
      woken_by rest.Arrives is = arrives_run is
      woken_by rest.Goes is = tt
      woken_by rest.Resumes is = (resumes_run is, goes_on is)
      woken_by rest.Back is = is_back is
      woken_by rest.Runs is = tt
      woken_by (rest.Calls number) is = calls_well number is
      woken_by rest.Leaves is = (
        acting_runs (IsActing false) (λ o acts so. acts.0) (acting_task (IsActing false) w (acts_by g s w Leaves k (rests p values s h stacks w rest.Leaves r is))),
        one_holds_entry g values s h stacks w r.there,
      )

      pub goes_so : GoesSo p h
      goes_so = record {
        move = record {
          woken = woken_by h.rest refl;
          init = init_by h.rest refl;
          apart = cancels.apart;
          well = right.well;
          own = own;
        };
        turn = λ is. turn_well;
      }
