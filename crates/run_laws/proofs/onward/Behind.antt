-- Where values are to be passed, behind a rest at which so much was carried, all is asked that marks want to stay, and all that a step asks.
use Rattle.std.proofs.Common.{◌≡◌, ◌⊎◌, inl, inr, ℕ, Bool, true, false, not, ◌&&◌, ◌||◌, is_none, List, [], refl, sym, ap, ◌∙◌, subst, Option, Some, None}
use Rattle.std.specs.Prelude.{IsSome}
use Rattle.std.specs.List.{slice_get}
use Rattle.std.specs.Option.{option_map}
use Rattle.std.proofs.lemmas.Bool.{eq-eqb}
use Rattle.syntax_trees.specs.declared.types.ValType.{ValType}
use Rattle.wasm_store.specs.Stack.{Stack}
use Rattle.wasm_store.proofs.Lists.{all_at}
use Rattle.entry_gate.specs.Gates.{GateView, is_free, is_open}
use Rattle.entry_gate.specs.Kinds.{needs_entry}
use Rattle.entry_gate.specs.Stays.{Inside}
use Rattle.entry_gate.specs.declared.kind.Kind.{Kind}
use Rattle.entry_gate.specs.declared.kind.Kind.TheVariants.{Sync, Callback, Stackful}
use Rattle.tasks.specs.declared.event.BlockedAt.TheVariants as blocked_at
use Rattle.tasks.specs.declared.phase.Phase.TheVariants as phase
use Rattle.comp_graph.specs.declared.graph.CanonFunc.{CanonFunc}
use Rattle.comp_graph.specs.declared.graph.CanonFunc.TheVariants as canon
use Rattle.syntax_trees.specs.declared.exports.Export.{Export}
use Rattle.comp_graph.specs.declared.graph.FuncRef.{FuncRef}
use Rattle.comp_graph.specs.declared.graph.Lift.{Lift}
use Rattle.comp_graph.specs.declared.graph.Resource.{Resource}
use Rattle.comp_graph.specs.Graph.{Graph, Lifted, func_at, lifted_as}
use Rattle.script_reader.specs.Script.{Script}
use Rattle.instances.specs.Instances.{InstanceView}
use Rattle.graph_views.specs.Callees.{destructor_by, destructor_in, lift_of, lifted_in}
use Rattle.graph_views.specs.Canons.{instance_of}
use Rattle.task_table.specs.declared.errand.Callee as kept
use Rattle.task_table.specs.declared.errand.Callee.TheVariants as callee
use Rattle.task_table.specs.declared.slot.TaskSlot.{TaskSlot}
use Rattle.task_table.specs.Callers.{called_of}
use Rattle.copy_replies.specs.Moves.{element_at}
use Rattle.programs.specs.declared.program.Program.{Program}
use Rattle.programs.specs.Program.{value_of}
use Rattle.world_parts.specs.declared.parts.Flow.{Flow}
use Rattle.world_parts.specs.declared.parts.Flow.TheVariants as flow
use Rattle.world_parts.specs.declared.parts.Rest.{Rest}
use Rattle.world_parts.specs.declared.parts.Rest.TheVariants as rest
use Rattle.world_parts.specs.Held.{Held, Done, Gives}
use Rattle.world_stacks.specs.Views.{PileView}
use Rattle.machine_runs.specs.Moving.{acting_of, woken}
use Rattle.abi_machine.specs.World.{Callee, Func, ForYield, ForSet, ForCall, ForCopy, ForCancel, Wait, Guest, Subtask, New, Acting, AfterCall, AfterCancel, Begins, WaitsToEnter, InLoop, InBuiltin, Exited, TaskState, Task, World}
use Rattle.abi_machine.specs.Canons.{canon_at, flag_at, inst_of_canon, resource_at}
use Rattle.abi_machine.specs.Counting.{blocked_at_of, passes, phase_of}
use Rattle.abi_machine.specs.Gate.{place_of}
use Rattle.abi_machine.specs.Reading.{func_of, is_in, runs_in, task_at}
use Rattle.abi_machine.specs.sound.Firsts.{TaskIs}
use Rattle.abi_machine.specs.sound.GraphFuncs.{IsOfGraph}
use Rattle.abi_machine.specs.sound.OwnCallers.{MadeByOwn}
use Rattle.abi_machine.proofs.sound.Found.{some_same}
use Rattle.standing.specs.KeptMarks.{runs_func}
use Rattle.standing.specs.Stands.{Stands}
use Rattle.standing.specs.Tasks.{callee_of, destroyed_by, destroyed_in, lowered_in, RunsIn, TaskStands}
use Rattle.standing.proofs.Changes.{acting_is_alike}
use Rattle.standing.proofs.Seen.{resource_same}
use Rattle.run_laws.specs.Carried.{IsRight, IsFit}
use Rattle.run_laws.specs.Points.{AtRest, stacks_at}
use Rattle.run_laws.specs.Steps.{IsReached}
use Rattle.run_laws.specs.Supplied.{RestsReached}
use Rattle.run_laws.specs.Taking as taking
use Rattle.run_laws.specs.keeping.Kept.{CalledFrom, EntersFree, RunsFunction, holds_entry}
use Rattle.run_laws.specs.keeping.Liftings.{ArgumentsLendWell}
use Rattle.run_laws.specs.keeping.Lowerings.{HoldsNoBorrow, RunsInOwn}
use Rattle.run_laws.specs.keeping.Passings.{EndsBy, EntersSo, ResultHoldsNone}
use Rattle.run_laws.proofs.Reached.{some_func}
use Rattle.run_laws.proofs.onward.Ended.{result_holds_none}
use Rattle.run_laws.proofs.onward.Freed.{LetsIn, OnEntry, WaitedToEnter, arrives_let_in, resumes_waited}
use Rattle.run_laws.proofs.onward.Led.{By, IsLed}
use Rattle.run_laws.proofs.onward.Midst.{element_free, numbered_free}
use Rattle.run_laws.proofs.onward.Moving.{arrives_run, called_here, let_in, no_holder, resumes_let_in, resumes_run, stand_once}
use Rattle.run_laws.proofs.onward.Resting.{callees_there, program_of, rests_reached}
use Rattle.run_laws.proofs.supplied.Found.{called_shown, task_of}
use Rattle.run_laws.proofs.supplied.Kept.{by_own_at, one_holds_entry, owner_found}
use Rattle.run_laws.proofs.supplied.Known.{Known, known}

instance_alike : (c : CanonFunc) → instance_of c ≡ inst_of_canon c
instance_alike (canon.Lower l) = refl
instance_alike (canon.Builtin b) = refl

-- What runs a function does so in the world.
func_there : (g : Graph) (c : kept.Callee) (a : Callee) → callee_of g c ≡ Some a → runs_func c ≡ true → IsSome (func_of a)
func_there g callee.Init a does runs = absurd (cc)
func_there g (callee.Export number) a does runs = by (func_at g number) does
  where
    by : (o : Option Lifted) → option_map Func o ≡ Some a → IsSome (func_of a)
    by None does = absurd (cc)
    by (Some f) does = subst (λ (x : Callee). IsSome (func_of x)) (some_same does) refl
func_there g (callee.Lowered number) a does runs = by (canon_at g number) does
  where
    by : (o : Option CanonFunc) → lowered_in o ≡ Some a → IsSome (func_of a)
    by None does = absurd (cc)
    by (Some (canon.Lower l)) does = subst (λ (x : Callee). IsSome (func_of x)) (some_same does) refl
    by (Some (canon.Builtin b)) does = absurd (cc)
func_there g (callee.Destroys resource) a does runs = by (resource_at g resource) does
  where
    by_core : (r : Resource) (o : Option FuncRef) → destroyed_by resource r.instance o ≡ Some a → IsSome (func_of a)
    by_core r None does = absurd (cc)
    by_core r (Some core) does = subst (λ (x : Callee). IsSome (func_of x)) (some_same does) refl

    by : (o : Option Resource) → destroyed_in resource o ≡ Some a → IsSome (func_of a)
    by None does = absurd (cc)
    by (Some r) does = by_core r r.destructor does

-- The gate of a kind that needs entry lets in where none holds it.
opens : (a b c : Bool) (need : Bool) (free : Bool) → (a && b && c) ≡ true → b ≡ (not need || free) → need ≡ true → free ≡ true
opens true true true true true e f g = refl
opens true true true true false e f g = sym f
opens true true true false free e f g = absurd (cc)
opens true true false need free e f g = absurd (cc)
opens true false c need free e f g = absurd (cc)
opens false b c need free e f g = absurd (cc)

free_none : (v : GateView) → is_free v ≡ true → v.holder ≡ None
free_none v e = by v.holder e
  where
    by : (o : Option ℕ) → is_none o ≡ true → o ≡ None
    by None e = refl
    by (Some n) e = absurd (cc)

-- A task runs in the instance of its function.
own_by : (g : Graph) (c : kept.Callee) (a : Callee) (instance : ℕ) (f : Lift) → callee_of g c ≡ Some a → RunsIn instance (func_of a) → lift_of g c ≡ Some f → instance ≡ f.instance
own_by g callee.Init a instance f does runs is = absurd (cc)
own_by g (callee.Export number) a instance f does runs is = by (slice_get g.exports number) (slice_get g.lifts number) does is
  where
    by : (e : Option Export) (l : Option Lift) → option_map Func (lifted_as e l) ≡ Some a → l ≡ Some f → instance ≡ f.instance
    by None l does is = absurd (cc)
    by (Some e) None does is = absurd (cc)
    by (Some e) (Some l) does is = subst (λ (x : Callee). RunsIn instance (func_of x)) (sym (some_same does)) runs ∙ ap (λ (x : Lift). x.instance) (some_same is)
own_by g (callee.Lowered number) a instance f does runs is = by (canon_at g number) does is
  where
    by : (o : Option CanonFunc) → lowered_in o ≡ Some a → lifted_in o ≡ Some f → instance ≡ f.instance
    by None does is = absurd (cc)
    by (Some (canon.Lower l)) does is = subst (λ (x : Callee). RunsIn instance (func_of x)) (sym (some_same does)) runs ∙ ap (λ (x : Lift). x.instance) (some_same is)
    by (Some (canon.Builtin b)) does is = absurd (cc)
own_by g (callee.Destroys resource) a instance f does runs is = by (resource_at g resource) does (ap destructor_in (sym (resource_same g resource)) ∙ is)
  where
    by_core : (r : Resource) (o : Option FuncRef) → destroyed_by resource r.instance o ≡ Some a → destructor_by r.instance o ≡ Some f → instance ≡ f.instance
    by_core r None does is = absurd (cc)
    by_core r (Some core) does is = subst (λ (x : Callee). RunsIn instance (func_of x)) (sym (some_same does)) runs ∙ ap (λ (x : Lift). x.instance) (some_same is)

    by : (o : Option Resource) → destroyed_in resource o ≡ Some a → destructor_in o ≡ Some f → instance ≡ f.instance
    by None does is = absurd (cc)
    by (Some r) does is = by_core r r.destructor does is

module _ (p : Program) (h : Held) (piles : List PileView) (w : World) (fit : IsFit p) (reached : IsReached p.graph.now p.script.now w)
    (at : AtRest p.graph.now p.types.now p.script.now h (stacks_at piles) [] w) (right : IsRight p.script.now h) where
  abbrev g : Graph
  g = p.graph.now

  abbrev s : Script
  s = p.script.now

  abbrev values : List ValType
  values = p.types.now

  abbrev stacks : List (List Stack)
  stacks = stacks_at piles

  abbrev st : Stands g values s h stacks w
  st = at.stands

  abbrev r : RestsReached p values s h stacks w
  r = rests_reached p h piles w fit reached at right

  abbrev k : Known g s w
  k = known g values s h stacks w r.there

  -- A task that enters, as it arrives or as it goes on.
  free_arriving : h.rest ≡ rest.Arrives → (later : Held) → woken g p.ends.now h.rest h ≡ Gives flow.Enters later → (t : ℕ) → acting_of h ≡ Some t → EntersFree h t
  free_arriving is later gives t acts slot i there here needs =
      let lets : LetsIn h = subst (λ (d : Done Flow). By (OnEntry (LetsIn h)) d) (ap (λ (x : Rest). woken g p.ends.now x h) (sym is) ∙ gives) (arrives_let_in h) in
      free_none i.gate (opens _ (is_open slot.task.kind i.gate) _ (needs_entry slot.task.kind) (is_free i.gate) (lets t slot i acts there here) refl needs)

  waiting_out : (state : TaskState) (flag : Bool) → phase_of (flag_at g) state ≡ phase.Blocked blocked_at.Entry flag → place_of state ≡ Inside → ⊥
  waiting_out New flag far inside = cc
  waiting_out Acting flag far inside = cc
  waiting_out (AfterCall called number words) flag far inside = cc
  waiting_out (AfterCancel called number words) flag far inside = cc
  waiting_out (Begins n) flag far inside = cc
  waiting_out WaitsToEnter flag far inside = cc
  waiting_out (InLoop word) flag far inside = cc
  waiting_out (InBuiltin number words wait) flag far inside = by wait far
    where
      by : (z : Wait) → phase.Blocked (blocked_at_of z) (flag_at g number) ≡ phase.Blocked blocked_at.Entry flag → ⊥
      by ForYield e = cc
      by (ForSet index) e = cc
      by (ForCall called) e = cc
      by (ForCopy index) e = cc
      by (ForCancel index) e = cc
  waiting_out Exited flag far inside = cc

  free_resuming : h.rest ≡ rest.Resumes → (later : Held) → woken g p.ends.now h.rest h ≡ Gives flow.Enters later → (t : ℕ) → acting_of h ≡ Some t → EntersFree h t
  free_resuming is later gives t acts slot i there here needs =
      let waited : WaitedToEnter h = subst (λ (d : Done Flow). By (OnEntry (WaitedToEnter h)) d) (ap (λ (x : Rest). woken g p.ends.now x h) (sym is) ∙ gives) (resumes_waited h) in
      let a = task_of g values s h stacks w st t slot there in
      let first : slice_get w.chain 0 ≡ Some t = sym (acting_is_alike g values s h stacks w st) ∙ acts in
      let far = waited t slot acts there in
      let out : place_of a.0.state ≡ Inside → ⊥ = waiting_out a.0.state far.0 (sym a.2.far ∙ far.1) in
      let f = some_func (func_of a.0.callee) (runs_there t slot a.0 a.2 acts there) in
      let same : slot.instance ≡ f.0.instance = subst (λ (o : Option Lifted). RunsIn slot.instance o) f.1 a.2.place in
      no_holder p h piles w fit reached at right f.0 i (ap (λ (n : ℕ). slice_get h.instances n) (sym same) ∙ here)
      (let_in p h piles w fit reached at right t a.0 f.0 (resumes_let_in p h piles w fit reached at right is) first a.1 f.1 out (ap needs_entry (sym a.2.lifted) ∙ needs))
    where
      runs_there : (t : ℕ) (slot : TaskSlot) (a : Task) → TaskStands g s slot a → acting_of h ≡ Some t → slice_get h.tasks t ≡ Some slot → IsSome (func_of a.callee)
      runs_there t slot a stands acts there = func_there g slot.callee a.callee stands.does (resumes_run p h piles w fit reached at right is t acts slot there)

  may_enter_free : (later : Held) → (h.rest ≡ rest.Arrives) ⊎ (h.rest ≡ rest.Resumes) → woken g p.ends.now h.rest h ≡ Gives flow.Enters later → (t : ℕ) → acting_of h ≡ Some t → RunsFunction h t × EntersFree h t
  may_enter_free later (inl is) gives t acts = (arrives_run p h piles w fit reached at right is t acts, free_arriving is later gives t acts)
  may_enter_free later (inr is) gives t acts = (resumes_run p h piles w fit reached at right is t acts, free_resuming is later gives t acts)

  -- Its arguments are lent from the instance of its caller, and it runs in its own.
  lends_well : (t : ℕ) → ArgumentsLendWell p t h
  lends_well t slot type called c there found guest made borrow =
      let a = task_of g values s h stacks w st t slot there in
      let b = called_shown s slot.caller a.0.caller called a.2.called (ap called_of guest) in
      let own : TaskIs w.tasks b.0.by (MadeByOwn g b.0.canon) = by_own_at g s w t a.0 b.0 k a.1 b.1 in
      let d = owner_found (canon_at g b.0.canon) own.2.0.instance own.2.2 in
      let home : inst_of_canon c ≡ own.2.0.instance = ap inst_of_canon (some_same (sym made ∙ ap (λ (n : ℕ). canon_at g n) b.2.by_canon ∙ d.1)) ∙ d.2 in
      subst (λ (n : ℕ). CalledFrom h n t) (sym (instance_alike c)) (called_here g values s h stacks w (inst_of_canon c) t st (from_there t a.0 b.0 own.0 own.2.0 (inst_of_canon c) a.1 b.1 own.1 own.2.1 home))
    where
      guest_same : (x y : Subtask) → Guest x ≡ Guest y → x ≡ y
      guest_same x y e = cc

      from_there : (t : ℕ) (a : Task) (subtask : Subtask) (owner : Task) (f : Lifted) (n : ℕ) → slice_get w.tasks t ≡ Some a → a.caller ≡ Guest subtask → slice_get w.tasks subtask.by ≡ Some owner → func_of owner.callee ≡ Some f
          → n ≡ f.instance → taking.CalledFrom w n t
      from_there t a subtask owner f n at_t guest at_by runs home task other at_task calls =
          let one : a ≡ task = some_same (sym at_t ∙ at_task) in
          let same : subtask ≡ other = guest_same subtask other (sym guest ∙ ap (λ (z : Task). z.caller) one ∙ calls) in
          ap (λ (m : ℕ). passes (runs_in n) (task_at w m)) (ap (λ (z : Subtask). z.by) (sym same)) ∙ ap (passes (runs_in n)) at_by ∙ ap (is_in n) runs ∙ eq-eqb f.instance n (sym home)

  runs_own : (t : ℕ) → RunsInOwn p t h
  runs_own t slot f there is =
      let a = task_of g values s h stacks w st t slot there in own_by g slot.callee a.0.callee slot.instance f a.2.does a.2.place is

  pub enters_so : (later : Held) → (h.rest ≡ rest.Arrives) ⊎ (h.rest ≡ rest.Resumes) → woken g p.ends.now h.rest h ≡ Gives flow.Enters later → (t : ℕ) → acting_of h ≡ Some t → EntersSo p t h
  enters_so later may gives t acts =
      let both : RunsFunction h t × EntersFree h t = may_enter_free later may gives t acts in
      record { runs = both.0; free = both.1; lends = lends_well t; own = runs_own t }

  -- Results hold no borrow, nor do elements.
  pub value_none : (number : ℕ) → HoldsNoBorrow p (value_of p number)
  value_none number = numbered_free p (value_of p number) (element_at g number) ((program_of p fit).types.passed number) (element_free g fit.fits.no_borrow number)

  pub result_none : (later : Held) → IsLed h later → (t : ℕ) → ResultHoldsNone p t later
  result_none later led t slot there =
      let x = led.tasks t slot there in
      let a = task_of g values s h stacks w st t x.0 x.1 in
      result_holds_none p values s (program_of p fit) fit.fits.no_borrow slot.callee a.0.callee (ap (λ (c : kept.Callee). callee_of g c) x.2.callee ∙ a.2.does)
      (all_at (λ (z : Task). IsOfGraph g z.callee) w.tasks t a.0 (callees_there g values s h stacks w r.there) a.1)

  -- A stack ran, of a task that runs a function.
  pub ends_so : (later : Held) → later.tasks ≡ h.tasks → later.instances ≡ h.instances → IsLed h later → (t : ℕ) → RunsFunction h t → (kind : Kind) → EndsBy p t later kind
  ends_so later tasks instances led t runs Sync = result_none later led t
  ends_so later tasks instances led t runs Callback = record {
    runs = λ slot there. runs slot (ap (λ (l : List TaskSlot). slice_get l t) (sym tasks) ∙ there);
    one = subst (λ (l : List TaskSlot). (n m i : ℕ) (x y : TaskSlot) → slice_get l m ≡ Some x → slice_get l i ≡ Some y → holds_entry n x ≡ true → holds_entry n y ≡ true → m ≡ i) (sym tasks)
        (one_holds_entry g values s h stacks w r.there);
    once = λ slot i there here. stand_once p h piles w fit reached at right slot.instance i (ap (λ (l : List InstanceView). slice_get l slot.instance) (sym instances) ∙ here);
  }
  ends_so later tasks instances led t runs Stackful = tt
