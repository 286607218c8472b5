-- What is known of each world that a run reaches of a program that fits.
use Rattle.std.proofs.Common.{◌≡◌, ℕ, false, List, Some}
use Rattle.std.specs.Prelude.{IsSome}
use Rattle.std.specs.List.{slice_get}
use Rattle.comp_graph.specs.declared.graph.CanonFunc.{CanonFunc}
use Rattle.comp_graph.specs.Graph.{Graph}
use Rattle.programs.specs.declared.program.Program.{Program}
use Rattle.abi_machine.specs.Control.{Calls}
use Rattle.abi_machine.specs.World.{World}
use Rattle.abi_machine.specs.Canons.{canon_at, inst_of_canon}
use Rattle.abi_machine.specs.Reading.{may_leave}
use Rattle.run_laws.specs.Carried.{IsFit}
use Rattle.run_laws.specs.Steps.{IsReached}
use Rattle.run_laws.specs.SuppliedWorlds.{IsSuppliedWorld}
use Rattle.run_laws.proofs.SuppliedWorlds.{worlds_are_supplied}
use Rattle.run_laws.proofs.supplied.Early.{early_calls_are_inside}

pub record IsKnown (g : Graph) (w : World) : Type 0 where
  pub worlds : IsSuppliedWorld g w
  pub early : (number : ℕ) (words : List ℕ) (c : CanonFunc) → w.control ≡ Calls number words → canon_at g number ≡ Some c → may_leave w ≡ false → IsSome (slice_get w.insts (inst_of_canon c))

pub known_world : (p : Program) (w : World) → IsFit p → IsReached p.graph.now p.script.now w → IsKnown p.graph.now w
known_world p w fit r = record {
  worlds = worlds_are_supplied p.graph.now p.script.now r.0 w fit.fits.runs.apart fit.fits.no_end r.1;
  early = λ number words c is made yet. early_calls_are_inside p.graph.now p.script.now r.0 w number words c fit.fits.runs.apart fit.fits.follow r.1 is made yet;
}
