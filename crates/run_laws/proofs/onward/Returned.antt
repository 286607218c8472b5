-- What is asked where a task returns is so where it called `task.return` in a world that a run reaches.
use Rattle.std.proofs.Common.{◌≡◌, ℕ, true, false, is_some, List, refl, sym, ap, ◌∙◌, subst, Option, Some}
use Rattle.std.specs.List.{slice_get}
use Rattle.syntax_trees.specs.declared.types.ValType.{ValType}
use Rattle.wasm_store.specs.Stack.{Stack}
use Rattle.wasm_store.proofs.Lists.{all_at}
use Rattle.entry_gate.specs.declared.kind.Kind.TheVariants.{Sync}
use Rattle.tasks.specs.Tasks.{is_sync}
use Rattle.comp_graph.specs.declared.graph.BuiltinKind.{BuiltinKind}
use Rattle.comp_graph.specs.declared.graph.CanonFunc.{CanonFunc}
use Rattle.comp_graph.specs.declared.graph.CanonFunc.TheVariants as canon
use Rattle.comp_graph.specs.Graph.{Graph, Lifted, passed_value}
use Rattle.comp_graph.specs.Passed.{MayBeAt}
use Rattle.script_reader.specs.Script.{Script}
use Rattle.trace_labels.specs.declared.typed.TypedValue.{TypedValue}
use Rattle.copy_replies.specs.Moves.{element_at, value_in}
use Rattle.task_table.specs.declared.slot.TaskSlot.{TaskSlot}
use Rattle.programs.specs.declared.program.Program.{Program}
use Rattle.programs.specs.Program.{value_of}
use Rattle.world_parts.specs.declared.parts.Flow.{Flow}
use Rattle.world_parts.specs.declared.parts.Flow.TheVariants as flow
use Rattle.world_parts.specs.declared.parts.Rest.{Rest}
use Rattle.world_parts.specs.declared.parts.Rest.TheVariants as rest
use Rattle.world_parts.specs.Held.{Held, Done, Gives}
use Rattle.value_parts.specs.declared.to_pass.Passing.TheVariants as passing
use Rattle.value_parts.specs.Passing.{returned_lifted}
use Rattle.machine_runs.specs.Moving.{woken}
use Rattle.machine_runs.specs.Worlds.{handed}
use Rattle.abi_machine.specs.Control.{Calls}
use Rattle.abi_machine.specs.World.{Callee, Init, Func, Destroys, Task, World}
use Rattle.abi_machine.specs.Reading.{func_of, kind_of_func, may_leave}
use Rattle.abi_machine.specs.sound.Acting.{IsRunning}
use Rattle.abi_machine.specs.sound.GraphFuncs.{IsOfGraph}
use Rattle.abi_machine.proofs.sound.Found.{some_same}
use Rattle.standing.specs.Agreeing.{acting_words}
use Rattle.standing.specs.KeptMarks.{HasMarks}
use Rattle.standing.specs.Moves.{Acts}
use Rattle.standing.specs.Stands.{Stands}
use Rattle.standing.proofs.Changes.{acting_is_alike}
use Rattle.run_laws.specs.Answering.{CallsOwn}
use Rattle.run_laws.specs.Results.{MarksBehind}
use Rattle.run_laws.specs.Steps.{PassesThere}
use Rattle.run_laws.specs.Supplied.{RestsReached}
use Rattle.run_laws.specs.SuppliedPassings.{IsBehind, IsProgramOf, ReturnedSupplied}
use Rattle.run_laws.specs.keeping.Kept.{KeepsMarks}
use Rattle.run_laws.specs.keeping.Liftings.{ResultLendsWell}
use Rattle.run_laws.specs.keeping.Lowerings.{HoldsNoBorrow}
use Rattle.run_laws.proofs.Reached.{calls_are_own}
use Rattle.run_laws.proofs.onward.Led.{By, CallLed, ReturnsLed, calls_led}
use Rattle.run_laws.proofs.onward.Midst.{IsTaskThen, acts_then, element_free, lends_then, memories_then, memory_then, numbered_free, result_free, task_then}
use Rattle.run_laws.proofs.onward.Resting.{callees_there}
use Rattle.run_laws.proofs.keeping.Liftings.{returned_keep}
use Rattle.run_laws.proofs.supplied.Begun.{canons_inside, late_runs}
use Rattle.run_laws.proofs.supplied.Found.{slot_of}
use Rattle.run_laws.proofs.supplied.Moves.{ActingTask, acting_task, acts_by, rests}
use Rattle.run_laws.proofs.supplied.Known.{Known, known}

-- Once the result is lifted marks are as they were before.
pub marks_lifted : (h : Held) (d : Done (Option TypedValue)) → KeepsMarks h d → HasMarks h → MarksBehind d
marks_lifted h d keeps marks value k is = (subst (λ (x : Done (Option TypedValue)). KeepsMarks h x) is keeps) marks

-- What is said of a type that holds no borrow.
pub lends_none : (p : Program) (t : ℕ) (o : Option ℕ) (h : Held) → HoldsNoBorrow p o → ResultLendsWell p t o h
lends_none p t o h free number type slot is found there borrow = absurd (let clash : true ≡ false = sym borrow ∙ free number type is found in let wrong : ⊥ = cc in wrong)

-- A task that isn't lifted as one that waits runs a lifted function.
async_runs : (g : Graph) (callee : Callee) → IsOfGraph g callee → is_sync (kind_of_func (func_of callee)) ≡ false → (f : Lifted) × (callee ≡ Func f)
async_runs g Init of_graph apart = absurd (let clash : is_sync Sync ≡ false = apart in let wrong : ⊥ = cc in wrong)
async_runs g (Func f) of_graph apart = (f, refl)
async_runs g (Destroys resource f) of_graph apart =
    absurd (let clash : true ≡ false = ap (λ (x : Lifted). is_sync (kind_of_func (Some x))) of_graph.4 ∙ apart in let wrong : ⊥ = cc in wrong)

module _ (p : Program) (values : List ValType) (s : Script) (h : Held) (stacks : List (List Stack)) (w : World) (number : ℕ) (prog : IsProgramOf p values s) (r : RestsReached p values s h stacks w)
    (is : h.rest ≡ rest.Calls number) (later : Held) (now : List (List Stack)) (v : World) (b : IsBehind p values s later now v) where
  abbrev g : Graph
  g = p.graph.now

  abbrev st : Stands g values s h stacks w
  st = r.there.stands

  value_free : HoldsNoBorrow p (value_of p number)
  value_free =
      numbered_free p (value_of p number) (element_at g number) (subst (λ (l : List ValType). MayBeAt l (value_of p number) (element_at g number)) (sym prog.fits.types) (prog.types.passed number))
      (element_free g r.there.no_borrow number)

  returns_there : (t : ℕ) → slice_get w.chain 0 ≡ Some t → (l : ReturnsLed g number t h later) → (a : Task) (x : TaskSlot) → slice_get w.tasks t ≡ Some a → slice_get h.tasks t ≡ Some x
      → (f : Lifted) → a.callee ≡ Func f → IsOfGraph g (Func f) → CallsOwn w t a f (canon.Builtin l.builtin) → IsTaskThen p values s h stacks w later now v st b l.led t x a
      → PassesThere p values s (handed later) v passing.Returned
  returns_there t first l a x there kept_there f runs of_graph own y =
      let acts : Acts v t y.task f = acts_then p values s h stacks w later now v st b l.led t x a f y own.acts in
      let passed : MayBeAt values (value_of p number) l.result =
      subst (λ (k : BuiltinKind). MayBeAt values (value_of p number) (passed_value k)) l.is (subst (λ (o : Option CanonFunc). MayBeAt values (value_of p number) (value_in o)) l.made (prog.types.passed number)) in
      record {
        number = t;
        task = y.task;
        func = f;
        may = record {
          acts = acts;
          well = record {
            passes = record {
              types = prog.fits.types;
              acts = acts;
              runs = y.callee ∙ runs;
              returned = λ callee does. prog.types.returned callee f does;
              no_borrow = result_free g r.there.no_borrow f of_graph;
              memory = memory_then p values s h stacks w later now v st b l.led prog f (Func f) of_graph refl;
              memories = memories_then p values s h stacks w later now v st b l.led prog;
              own = prog.fits.own;
            };
            number = number;
            builtin = l.builtin;
            result = l.result;
            options = l.options;
            calls = record {
              there = l.made;
              is = l.is;
              own = own.own;
              typed = passed;
              calls = l.led.rest ∙ is;
              marks = marks_lifted (handed later) (returned_lifted p t number (handed later))
                  (returned_keep p t number (handed later) (record { sound = b.tables.sound; lent = b.tables.lent })
                  (lends_none p t (value_of p number) (handed later) value_free))
                  (record { gates = b.marks.gates; waiters = b.marks.waiters; lends = b.marks.lends; borrows = b.marks.borrows; awaited = b.marks.awaited; states = b.marks.states });
            };
          };
        };
        ends = b.ends;
        lends = lends_then p values s h stacks w later now v st b l.led;
      }

  -- The task that called it runs a lifted function, of the instance that made it.
  called_by : (a : ActingTask w IsRunning) → ReturnsLed g number a.number h later → PassesThere p values s (handed later) v passing.Returned
  called_by a l =
      let x = slot_of g values s h stacks w st a.number a.task a.there in
      let of_graph : IsOfGraph g a.task.callee = all_at (λ (z : Task). IsOfGraph g z.callee) w.tasks a.number a.task (callees_there g values s h stacks w r.there) a.there in
      let f = async_runs g a.task.callee of_graph (ap is_sync (sym x.2.lifted) ∙ l.asked.apart x.0 x.1) in
      let late : may_leave w ≡ true = late_runs g values s h stacks w r.there prog.begin a.number a.task a.there (ap (λ (c : Callee). is_some (func_of c)) f.1) (may_leave w) refl in
      let own = calls_are_own g s r.there.steps w number (acting_words h) (canon.Builtin l.builtin) a.number a.task r.there.apart r.there.reached
      (record {
        control = rests p values s h stacks w (rest.Calls number) r is;
        made = l.made;
        first = a.first;
        there = a.there;
        inside = canons_inside g values s h stacks w r.there prog.begin number (canon.Builtin l.builtin) l.made late;
      }) late in
      let same : own.0 ≡ f.0 = some_same (sym own.1.acts.runs ∙ ap func_of f.1) in
      returns_there a.number a.first l a.task x.0 a.there x.1 f.0 f.1 (subst (IsOfGraph g) f.1 of_graph) (subst (λ (z : Lifted). CallsOwn w a.number a.task z (canon.Builtin l.builtin)) same own.1)
      (task_then p values s h stacks w later now v st b l.led a.number x.0 a.task x.1 x.2)

  pub returns_so : woken g p.ends.now h.rest h ≡ Gives flow.Returns later → PassesThere p values s (handed later) v passing.Returned
  returns_so gives =
      let called : CallLed g p.ends.now number h flow.Returns later =
      subst (λ (d : Done Flow). By (CallLed g p.ends.now number h) d) (ap (λ (x : Rest). woken g p.ends.now x h) (sym is) ∙ gives) (calls_led g p.ends.now number h) in
      let k : Known g s w = known g values s h stacks w r.there in
      let a : ActingTask w IsRunning = acting_task IsRunning w (acts_by g s w (Calls number (acting_words h)) k (rests p values s h stacks w (rest.Calls number) r is)) in
      called_by a
      (subst (λ (n : ℕ). ReturnsLed g number n h later) (some_same (sym called.1 ∙ acting_is_alike g values s h stacks w st ∙ a.first)) called.2)

pub returned_supplied : ReturnedSupplied
returned_supplied p values s h stacks w number prog r is later now v gives b = returns_so p values s h stacks w number prog r is later now v b gives
