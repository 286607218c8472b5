-- What is left to be asked of a move, of a graph and a script that fit.
use Rattle.std.proofs.Common.{◌≡◌, ℕ, Bool, true, false, List, refl}
use Rattle.std.specs.Prelude.{IsSome}
use Rattle.std.specs.List.{slice_get}
use Rattle.syntax_trees.specs.declared.types.ValType.{ValType}
use Rattle.wasm_store.specs.Stack.{Stack}
use Rattle.comp_graph.specs.Graph.{Graph}
use Rattle.script_reader.specs.Script.{Script}
use Rattle.programs.specs.declared.program.Program.{Program}
use Rattle.world_parts.specs.declared.parts.Rest.{Rest}
use Rattle.world_parts.specs.declared.parts.Rest.TheVariants as rest
use Rattle.world_parts.specs.Held.{Held}
use Rattle.abi_machine.specs.Control.{Resumes}
use Rattle.abi_machine.specs.World.{World}
use Rattle.abi_machine.specs.Canons.{inst_of_canon}
use Rattle.abi_machine.specs.Reading.{func_of, may_leave}
use Rattle.abi_machine.specs.sound.Acting.{outline_of, WasBlocked}
use Rattle.reach_laws.specs.KnownPlans.{InstancesBegin}
use Rattle.reach_laws.specs.Reached.{ReachedAreTyped, CodePassesWords}
use Rattle.reach_laws.specs.Runnable.{IsRunnable}
use Rattle.run_laws.specs.Supplied.{RestsReached, InstancesThere, CallLeft, CallStillAsked, MoveLeft, MoveStillAsked, FittingMovesSupplied}
use Rattle.run_laws.proofs.supplied.All.{moves_are_supplied}
use Rattle.run_laws.proofs.supplied.Begun.{instances_there, canons_inside, late_runs}
use Rattle.run_laws.proofs.supplied.Fitting.{calls_pass, waits_stand_inside}
use Rattle.run_laws.proofs.supplied.Known.{Known, known}
use Rattle.run_laws.proofs.supplied.Moves.{ActingTask, acting_task, rests, acts_by, stands_by, blocked_runs}

module _ (passes : CodePassesWords) (typed : ReachedAreTyped) (p : Program) (values : List ValType) (s : Script) (h : Held) (stacks : List (List Stack)) (w : World) (fits : IsRunnable p.graph.now s)
    (begin : InstancesBegin p.graph.now) (r : RestsReached p values s h stacks w) where
  abbrev g : Graph
  g = p.graph.now

  insts : InstancesThere w
  insts = instances_there g values s h stacks w r.there begin

  resumes_late : h.rest ≡ rest.Resumes → may_leave w ≡ true
  resumes_late is =
      let k : Known g s w = known g values s h stacks w r.there in
      let a : ActingTask w WasBlocked = acting_task WasBlocked w (acts_by g s w Resumes k (rests p values s h stacks w rest.Resumes r is)) in
      let runs : IsSome (func_of a.task.callee) = blocked_runs a.task.state (outline_of a.task) a.is (stands_by g s w a.number a.task k a.there) in
      late_runs g values s h stacks w r.there begin a.number a.task a.there runs (may_leave w) refl

  inside_so : (number : ℕ) (l : CallLeft g h w number) → (b : Bool) → may_leave w ≡ b → IsSome (slice_get w.insts (inst_of_canon l.made))
  inside_so number l true done = canons_inside g values s h stacks w r.there begin number l.made l.there done
  inside_so number l false yet = l.early yet

  call_asked : (number : ℕ) → CallLeft g h w number → CallStillAsked g h w number
  call_asked number l = record {
    made = l.made;
    there = l.there;
    inside = inside_so number l (may_leave w) refl;
    ends = l.ends;
    copies = l.copies;
    memories = l.memories;
    passed = λ words control. calls_pass passes g values s h stacks w fits r.there number words control;
  }

  still : (x : Rest) → h.rest ≡ x → MoveLeft p values h w x → MoveStillAsked p values h w x
  still (rest.Instantiates number) is left = tt
  still rest.Free is left = left
  still rest.Arrives is left = insts
  still rest.Goes is left = tt
  still rest.Resumes is left = (insts, left.0, left.1, left.2, waits_stand_inside typed g values s h stacks w fits r.there r.control (resumes_late is) left.3)
  still rest.Back is left = (insts, left.0, left.1)
  still rest.Runs is left = left
  still (rest.Calls number) is left = (insts, left.0, call_asked number left.1, left.2)
  still rest.Leaves is left = insts

pub fitting_moves : CodePassesWords → ReachedAreTyped → FittingMovesSupplied
fitting_moves passes typed p values s h stacks w fits begin r left = moves_are_supplied p values s h stacks w r (still passes typed p values s h stacks w fits begin r h.rest refl left)
