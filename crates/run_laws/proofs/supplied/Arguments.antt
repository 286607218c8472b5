-- What is asked where a task enters is so where what is kept stood for a world that a run reaches as it arrived, or went on.
use Rattle.std.proofs.Common.{◌≡◌, ◌⊎◌, inl, inr, ◌-◌, ℕ, true, is_some, List, length, refl, sym, ap, ◌∙◌, subst, Option, Some, None}
use Rattle.std.specs.Prelude.{IsSome}
use Rattle.std.specs.List.{slice_get}
use Rattle.std.proofs.lemmas.Bool.{eq-eqb}
use Rattle.syntax_trees.specs.declared.types.ValType.{ValType}
use Rattle.wasm_store.specs.Store.{Store}
use Rattle.wasm_store.specs.Stack.{Stack}
use Rattle.comp_graph.specs.declared.graph.CanonFunc.{CanonFunc}
use Rattle.comp_graph.specs.declared.graph.Options.{Options}
use Rattle.comp_graph.specs.Graph.{Graph, Lifted}
use Rattle.script_reader.specs.Script.{Script}
use Rattle.task_table.specs.declared.caller.Called.{Called}
use Rattle.task_table.specs.declared.caller.Caller as kept_caller
use Rattle.task_table.specs.declared.caller.Caller.TheVariants as by
use Rattle.task_table.specs.declared.slot.TaskSlot.{TaskSlot}
use Rattle.programs.specs.declared.program.Program.{Program}
use Rattle.world_parts.specs.declared.parts.Flow.TheVariants as flow
use Rattle.world_parts.specs.declared.parts.Flow.{Flow}
use Rattle.world_parts.specs.declared.parts.Rest.{Rest}
use Rattle.world_parts.specs.declared.parts.Rest.TheVariants as rest
use Rattle.world_parts.specs.Held.{Held, Done, Gives}
use Rattle.world_parts.specs.Going.{arrives, resumes}
use Rattle.value_parts.specs.declared.to_pass.Passing.TheVariants as passing
use Rattle.machine_runs.specs.Moving.{woken}
use Rattle.abi_machine.specs.Control.{Arrives, Resumes}
use Rattle.abi_machine.specs.World.{Callee, Init, Func, Destroys, Caller, Nobody, Host, Guest, Subtask, New, TaskState, Task, World}
use Rattle.abi_machine.specs.Canons.{canon_at, inst_of_canon, options_at, memory_of}
use Rattle.abi_machine.specs.Counting.{passes}
use Rattle.abi_machine.specs.Passing.{params_type}
use Rattle.abi_machine.specs.Reading.{func_of, is_in, runs_in, task_at}
use Rattle.abi_machine.specs.sound.Acting.{Outline, outline_of, StandsBy, IsNew, WasBlocked}
use Rattle.abi_machine.specs.sound.Firsts.{TaskIs}
use Rattle.abi_machine.specs.sound.OwnCallers.{MadeByOwn}
use Rattle.abi_machine.proofs.sound.Found.{some_same}
use Rattle.standing.specs.Ends.{HasMemory}
use Rattle.standing.specs.Moves.{Acts}
use Rattle.standing.specs.Stands.{Stands}
use Rattle.standing.specs.Tasks.{callee_of, CallerStands, SubtaskStands, TaskStands}
use Rattle.standing.proofs.KeptMarks.{lends_are_counted}
use Rattle.run_laws.specs.Destructors.{PassesRep}
use Rattle.run_laws.specs.Passings.{EntersWell}
use Rattle.run_laws.specs.Steps.{PassesThere}
use Rattle.run_laws.specs.Supplied.{RestsReached, InstancesThere, PassesFor, MemoriesNamed, RepsArePassed, MayArrive, ArgumentsSupplied}
use Rattle.run_laws.specs.Taking.{CalledFrom}
use Rattle.run_laws.proofs.supplied.Calls.{guest_is}
use Rattle.run_laws.proofs.supplied.Found.{task_of, slot_of, called_back}
use Rattle.run_laws.proofs.supplied.Hears.{acts_still}
use Rattle.run_laws.proofs.supplied.Kept.{owner_found, by_own_at}
use Rattle.run_laws.proofs.supplied.Known.{Known, known}
use Rattle.run_laws.proofs.supplied.Moves.{ActingTask, acting_task, rests, acts_by, stands_by, acts_so, blocked_runs}
use Rattle.run_laws.proofs.supplied.Woken.{woke_same, HearsFrom, HeardBy, resumes_hears, arrives_hears}

-- Nothing is changed.
arrived_same : (h k : Held) → arrives h ≡ Gives flow.Enters k → k ≡ h
arrived_same h k is = subst (λ (d : Done Flow). HeardBy h d) is (arrives_hears h)

resumed_same : (h k : Held) → resumes h ≡ Gives flow.Enters k → k ≡ h
resumed_same h k is = subst (λ (d : Done Flow). HeardBy h d) is (resumes_hears h)

pub same_kept : (p : Program) (h k : Held) → MayArrive h.rest → woken p.graph.now p.ends.now h.rest h ≡ Gives flow.Enters k → k ≡ h
same_kept p h k (inl arrives_is) is = arrived_same h k (ap (λ (r : Rest). woken p.graph.now p.ends.now r h) (sym arrives_is) ∙ is)
same_kept p h k (inr resumes_is) is = resumed_same h k (ap (λ (r : Rest). woken p.graph.now p.ends.now r h) (sym resumes_is) ∙ is)

module _ (p : Program) (values : List ValType) (s : Script) (h : Held) (stacks now : List (List Stack)) (w v : World) (r : RestsReached p values s h stacks w) (insts : InstancesThere w)
    (fits : PassesFor p values s) (named : MemoriesNamed p.graph.now h w) (reps : RepsArePassed p.graph.now w) (later : Stands p.graph.now values s h now v) where
  abbrev g : Graph
  g = p.graph.now

  abbrev st : Stands g values s h stacks w
  st = r.there.stands

  abbrev knows : Known g s w
  knows = known g values s h stacks w r.there

  -- The task of a number in the one world is that of the other.
  record IsTaskOf (n : ℕ) (b : Task) : Type 0 where
    pub was : Task
    pub slot : TaskSlot
    pub there : slice_get w.tasks n ≡ Some was
    pub stood : TaskStands g s slot was
    pub stands : TaskStands g s slot b

  was_task : (n : ℕ) (b : Task) → slice_get v.tasks n ≡ Some b → IsTaskOf n b
  was_task n b there =
      let x = slot_of g values s h now v later n b there in
      let a = task_of g values s h stacks w st n x.0 x.1 in
      record { was = a.0; slot = x.0; there = a.1; stood = a.2; stands = x.2 }

  is_task : (n : ℕ) (a : Task) → slice_get w.tasks n ≡ Some a → (b : Task) × (slice_get v.tasks n ≡ Some b) × (b.callee ≡ a.callee)
  is_task n a there =
      let x = slot_of g values s h stacks w st n a there in
      let b = task_of g values s h now v later n x.0 x.1 in
      (b.0, b.1, some_same (sym b.2.does ∙ x.2.does))

  same_callee : (n : ℕ) (b : Task) (x : IsTaskOf n b) → b.callee ≡ x.was.callee
  same_callee n b x = some_same (sym x.stands.does ∙ x.stood.does)

  -- and so is who called it
  same_caller : (n : ℕ) (b : Task) (x : IsTaskOf n b) (subtask : Subtask) → b.caller ≡ Guest subtask
      → (old : Subtask) × (x.was.caller ≡ Guest old) × (old.by ≡ subtask.by) × (old.canon ≡ subtask.canon) × (old.words ≡ subtask.words)
  same_caller n b x subtask guest =
      let c = called_back s x.slot.caller subtask (subst (CallerStands s x.slot.caller) guest x.stands.called) in
      let old : CallerStands s (by.Guest c.0) x.was.caller = subst (λ (k : kept_caller.Caller). CallerStands s k x.was.caller) c.1 x.stood.called in
      by_caller x.was.caller c.0 old c.2
    where
      by_caller : (d : Caller) (called : Called) → CallerStands s (by.Guest called) d → SubtaskStands called subtask
          → (old : Subtask) × (d ≡ Guest old) × (old.by ≡ subtask.by) × (old.canon ≡ subtask.canon) × (old.words ≡ subtask.words)
      by_caller Nobody called stands q = absurd stands
      by_caller (Host call all) called stands q = absurd stands
      by_caller (Guest old) called stands q = (old, refl, sym stands.caller ∙ q.caller, sym stands.by_canon ∙ q.by_canon, sym stands.passed ∙ q.passed)

  -- The caller runs a function of the instance that made the canonical function.
  from_there : (t : ℕ) (b : Task) (subtask : Subtask) (c : CanonFunc) → slice_get v.tasks t ≡ Some b → b.caller ≡ Guest subtask → canon_at g subtask.canon ≡ Some c → CalledFrom v (inst_of_canon c) t
  from_there t b subtask c there guest made task other at calls =
      let one : b ≡ task = some_same (sym there ∙ at) in
      let same : subtask ≡ other = guest_same subtask other (sym guest ∙ ap (λ (x : Task). x.caller) one ∙ calls) in
      let x : IsTaskOf t b = was_task t b there in
      let old = same_caller t b x subtask guest in
      let own : TaskIs w.tasks old.0.by (MadeByOwn g old.0.canon) = by_own_at g s w t x.was old.0 knows x.there old.1 in
      let d = owner_found (canon_at g old.0.canon) own.2.0.instance own.2.2 in
      let home : inst_of_canon c ≡ own.2.0.instance =
      ap inst_of_canon (some_same (sym made ∙ ap (λ (n : ℕ). canon_at g n) (sym old.3) ∙ d.1)) ∙ d.2 in
      let y = is_task old.0.by own.0 own.1 in
      ap (λ (n : ℕ). passes (runs_in (inst_of_canon c)) (task_at v n)) (ap (λ (z : Subtask). z.by) (sym same) ∙ sym old.2)
      ∙ ap (λ (o : Option Task). passes (runs_in (inst_of_canon c)) o) y.1
      ∙ ap (λ (k : Callee). is_in (inst_of_canon c) (func_of k)) y.2
      ∙ ap (is_in (inst_of_canon c)) own.2.1 ∙ eq-eqb own.2.0.instance (inst_of_canon c) (sym home)
    where
      guest_same : (x y : Subtask) → Guest x ≡ Guest y → x ≡ y
      guest_same x y e = cc

  abbrev stores : v.store ≡ w.store
  stores = sym later.same_store ∙ st.same_store

  memory_still : (options : Options) → HasMemory h w options → HasMemory h v options
  memory_still options has = has ∙ ap (λ (x : Store). memory_of x options) (sym stores)

  passes_rep : (t resource : ℕ) (b : Task) (f : Lifted) → slice_get v.tasks t ≡ Some b → b.callee ≡ Destroys resource f → (subtask : Subtask) → b.caller ≡ Guest subtask → PassesRep g subtask
  passes_rep t resource b f there runs subtask guest =
      let x : IsTaskOf t b = was_task t b there in
      let old = same_caller t b x subtask guest in
      let q : PassesRep g old.0 = reps t resource x.was old.0 f x.there (sym (same_callee t b x) ∙ runs) old.1 in
      record { made = subst (λ (n : ℕ). IsSome (canon_at g n)) old.3 q.made; rep = q.rep; alone = sym old.4 ∙ q.alone; small = q.small }

  -- By what the task runs.
  enters_well : (t : ℕ) (b : Task) (f : Lifted) → Acts v t b f → HasMemory h w f.options → (c : Callee) → b.callee ≡ c → EntersWell p values s h v t b f
  enters_well t b f acts memory Init runs =
      let none : None ≡ Some f = ap func_of (sym runs) ∙ acts.runs in absurd (cc)
  enters_well t b f acts memory (Func l) runs =
      let same : l ≡ f = some_same (ap func_of (sym runs) ∙ acts.runs) in
      inl (record {
        types = fits.types;
        acts = acts;
        runs = runs ∙ ap Func same;
        params = λ callee type does is. fits.params callee f type does is;
        given = fits.given;
        lends = λ subtask c guest made borrow. from_there t b subtask c acts.there guest made;
        memory = memory_still f.options memory;
        memories = λ number. memory_still (options_at g number) (named.canons number);
        own = λ resources is. fits.own f.instance resources is;
      })
  enters_well t b f acts memory (Destroys resource l) runs =
      let same : l ≡ f = some_same (ap func_of (sym runs) ∙ acts.runs) in
      let is : b.callee ≡ Destroys resource f = runs ∙ ap (Destroys resource) same in
      inr (record { acts = acts; resource = resource; runs = is }, λ subtask guest. passes_rep t resource b f acts.there is subtask guest)

  supplied : (t : ℕ) (task : Task) (f : Lifted) → Acts w t task f → PassesThere p values s h v passing.Arguments
  supplied t task f acts =
      let b = acts_still g values s h h stacks now w v t st later (woke_same t h) task f acts in
      record {
        number = t;
        task = b.0;
        func = f;
        may = record { acts = b.1; well = enters_well t b.0 f b.1 (named.functions t task f acts.there acts.runs) b.0.callee refl };
        ends = r.ends;
        lends = λ at index i x here there. lends_are_counted g values s h now v at index i x later r.marks here there;
      }

  enters_so : MayArrive h.rest → PassesThere p values s h v passing.Arguments
  enters_so (inl is) =
      let a : ActingTask w IsNew = acting_task IsNew w (acts_by g s w Arrives knows (rests p values s h stacks w rest.Arrives r is)) in
      let so : StandsBy New (outline_of a.task) = subst (λ (x : TaskState). StandsBy x (outline_of a.task)) a.is (stands_by g s w a.number a.task knows a.there) in
      let f = acts_so w a.number a.task insts a.first a.there so.0 in
      supplied a.number a.task f.0 f.1
  enters_so (inr is) =
      let a : ActingTask w WasBlocked = acting_task WasBlocked w (acts_by g s w Resumes knows (rests p values s h stacks w rest.Resumes r is)) in
      let f = acts_so w a.number a.task insts a.first a.there (blocked_runs a.task.state (outline_of a.task) a.is (stands_by g s w a.number a.task knows a.there)) in
      supplied a.number a.task f.0 f.1

pub arguments_supplied : ArgumentsSupplied
arguments_supplied p values s h stacks w r insts fits named reps may k now v is later =
    let same : k ≡ h = same_kept p h k may is in
    subst (λ (x : Held). PassesThere p values s x v passing.Arguments) (sym same)
    (enters_so p values s h stacks now w v r insts fits named reps (subst (λ (x : Held). Stands p.graph.now values s x now v) same later) may)
