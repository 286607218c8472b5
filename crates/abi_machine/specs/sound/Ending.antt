-- Ends of runs (Component Model, Concurrency.md, "Summary"): a run ends by want of fuel only where all units are used, in a trap only where a task has come
-- to it, and else only where no task runs and nothing may be done: as done where all tasks have exited, and in deadlock where some have not.
use Rattle.std.specs.Prelude.{◌≡◌, ◌≤◌, []}
use Rattle.comp_graph.specs.Graph.{Graph}
use Rattle.script_reader.specs.Script.{Script}
use Rattle.abi_machine.specs.declared.run_end.RunEnd.{RunEnd}
use Rattle.abi_machine.specs.declared.run_end.RunEnd.TheVariants.{Done, Trapped, Deadlock, Fuel}
use Rattle.abi_machine.specs.Control.{Free, Doomed}
use Rattle.abi_machine.specs.World.{World}
use Rattle.abi_machine.specs.Reading.{unfinished}
use Rattle.abi_machine.specs.Scheduling.{alternatives}
use Rattle.abi_machine.specs.Turn.{Ends}
use Rattle.abi_machine.specs.Next.{next}

abbrev pub EndsAt : Graph → Script → World → RunEnd → Type 0
EndsAt g s w Done = (w.control ≡ Free) × (alternatives g s w ≡ []) × (unfinished w ≡ [])
EndsAt g s w (Deadlock named) = (w.control ≡ Free) × (alternatives g s w ≡ []) × (unfinished w ≡ named)
EndsAt g s w (Trapped t why) = w.control ≡ Doomed t why
EndsAt g s w Fuel = s.fuel ≤ w.units

abbrev pub EndsComeWhere : Type 0
EndsComeWhere = (g : Graph) (s : Script) (w : World) (end : RunEnd) → next g s w ≡ Ends end → EndsAt g s w end
