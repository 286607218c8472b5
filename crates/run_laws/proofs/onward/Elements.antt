-- What is asked where elements go over is so where a read or a write met an offer in a world that a run reaches.
use Rattle.std.proofs.Common.{◌≡◌, ◌-◌, ℕ, true, is_some, List, length, sym, ap, ◌∙◌, subst, Some}
use Rattle.std.specs.Prelude.{IsSome}
use Rattle.std.specs.List.{slice_get}
use Rattle.syntax_trees.specs.declared.types.ValType.{ValType}
use Rattle.wasm_store.specs.Stack.{Stack}
use Rattle.comp_graph.specs.Graph.{Graph, Lifted}
use Rattle.script_reader.specs.Script.{Script}
use Rattle.programs.specs.declared.program.Program.{Program}
use Rattle.world_parts.specs.declared.parts.Copying.{Copying}
use Rattle.world_parts.specs.declared.parts.Flow.{Flow}
use Rattle.world_parts.specs.declared.parts.Flow.TheVariants as flow
use Rattle.world_parts.specs.declared.parts.Rest.{Rest}
use Rattle.world_parts.specs.declared.parts.Rest.TheVariants as rest
use Rattle.world_parts.specs.Held.{Held, Done, Gives}
use Rattle.value_parts.specs.declared.to_pass.Passing.TheVariants as passing
use Rattle.machine_runs.specs.Moving.{acting_of, woken}
use Rattle.machine_runs.specs.Worlds.{handed}
use Rattle.abi_machine.specs.Control.{Calls}
use Rattle.abi_machine.specs.World.{World}
use Rattle.abi_machine.specs.Reading as reading
use Rattle.abi_machine.specs.Reading.{func_of}
use Rattle.abi_machine.specs.sound.Acting.{IsRunning}
use Rattle.abi_machine.proofs.sound.Found.{some_same}
use Rattle.standing.specs.Agreeing.{acting_words}
use Rattle.standing.specs.Moves.{Acts}
use Rattle.standing.specs.Stands.{Stands}
use Rattle.standing.proofs.Changes.{acting_is_alike}
use Rattle.run_laws.specs.Steps.{PassesThere}
use Rattle.run_laws.specs.Supplied.{RestsReached}
use Rattle.run_laws.specs.SuppliedPassings.{IsBehind, IsProgramOf, ElementsSupplied}
use Rattle.run_laws.specs.Transfers.{HasEndOf, HasTestedPlace}
use Rattle.run_laws.proofs.Canons.{leave_is_alike}
use Rattle.run_laws.proofs.Reached.{none_begins, runs_so, some_func}
use Rattle.run_laws.proofs.onward.Led.{By, CallLed, CopiesLed, calls_led}
use Rattle.run_laws.proofs.onward.Midst.{IsTaskThen, acts_then, element_free, lends_then, memories_then, task_then}
use Rattle.run_laws.proofs.onward.Tested.{end_typed, kept_here}
use Rattle.run_laws.proofs.supplied.Begun.{instances_there}
use Rattle.run_laws.proofs.supplied.Found.{slot_of}
use Rattle.run_laws.proofs.supplied.Known.{Known, known}
use Rattle.run_laws.proofs.supplied.Moves.{ActingTask, acting_task, acts_by, rests}

module _ (p : Program) (values : List ValType) (s : Script) (h : Held) (stacks : List (List Stack)) (w : World) (number : ℕ) (x : Copying) (prog : IsProgramOf p values s) (r : RestsReached p values s h stacks w)
    (is : h.rest ≡ rest.Calls number) (later : Held) (now : List (List Stack)) (v : World) (tested : (t : ℕ) → acting_of later ≡ Some t → HasTestedPlace p (handed later) t x) (b : IsBehind p values s later now v) where
  abbrev g : Graph
  g = p.graph.now

  abbrev st : Stands g values s h stacks w
  st = r.there.stands

  -- The end at the index is of the type of the built-in.
  end_so : (t : ℕ) (l : CopiesLed g p.ends.now number t h later x) → HasEndOf p values (handed later) x
  end_so t l c i e made here stands = (l.of_what, end_typed p values s h number x prog later t l i e (kept_here p values s h number x prog later t l c i made here) stands)

  goes_over : (a : ActingTask w IsRunning) (f : Lifted) → func_of a.task.callee ≡ Some f → CopiesLed g p.ends.now number a.number h later x → PassesThere p values s (handed later) v (passing.Elements x)
  goes_over a f runs l =
      let z = slot_of g values s h stacks w st a.number a.task a.there in
      let y : IsTaskThen p values s h stacks w later now v st b l.led a.number z.0 a.task = task_then p values s h stacks w later now v st b l.led a.number z.0 a.task z.1 z.2 in
      let inside : IsSome (slice_get w.insts f.instance) = instances_there g values s h stacks w r.there prog.begin a.number a.task f a.there runs in
      let acts : Acts v a.number y.task f = acts_then p values s h stacks w later now v st b l.led a.number z.0 a.task f y (record { first = a.first; there = a.there; runs = runs; inside = inside }) in
      record {
        number = a.number;
        task = y.task;
        func = f;
        may = record {
          acts = acts;
          well = record {
            types = prog.fits.types;
            first = acts.first;
            acts = ap is_some acts.there;
            typed = prog.types.passed x.canon;
            no_borrow = element_free g r.there.no_borrow x.canon;
            end = end_so a.number l;
            place = tested a.number (ap (λ (c : List ℕ). slice_get c (length c - 1)) l.led.chain ∙ acting_is_alike g values s h stacks w st ∙ a.first);
            memories = memories_then p values s h stacks w later now v st b l.led prog;
            own = prog.fits.own;
          };
        };
        ends = b.ends;
        lends = lends_then p values s h stacks w later now v st b l.led;
      }

  pub elements_so : woken g p.ends.now h.rest h ≡ Gives (flow.Copies x) later → PassesThere p values s (handed later) v (passing.Elements x)
  elements_so gives =
      let called : CallLed g p.ends.now number h (flow.Copies x) later =
      subst (λ (d : Done Flow). By (CallLed g p.ends.now number h) d) (ap (λ (y : Rest). woken g p.ends.now y h) (sym is) ∙ gives) (calls_led g p.ends.now number h) in
      let k : Known g s w = known g values s h stacks w r.there in
      let a : ActingTask w IsRunning = acting_task IsRunning w (acts_by g s w (Calls number (acting_words h)) k (rests p values s h stacks w (rest.Calls number) r is)) in
      let l : CopiesLed g p.ends.now number called.0 h later x = called.2 in
      let late : reading.may_leave w ≡ true = sym (leave_is_alike g values s h stacks w st) ∙ l.late in
      let runs = runs_so a.task.state a.task.callee (λ n e. none_begins w a.number a.task n k.standing.alone.0 late a.there e) a.is.0 in
      let f = some_func (func_of a.task.callee) runs.1 in
      goes_over a f.0 f.1 (subst (λ (n : ℕ). CopiesLed g p.ends.now number n h later x) (some_same (sym called.1 ∙ acting_is_alike g values s h stacks w st ∙ a.first)) l)

pub elements_supplied : ElementsSupplied
elements_supplied p values s h stacks w number x prog r is later now v gives tested b = elements_so p values s h stacks w number x prog r is later now v tested b gives
