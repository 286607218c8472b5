-- The program that is made of a graph and a script (Component Model, Concurrency.md, "Summary") is as turns ask for it: each of the script's calls has the
-- number of the export that it names, where the script is one for the graph.
use Rattle.comp_graph.specs.Graph.{Graph}
use Rattle.script_reader.specs.Script.{Script}
use Rattle.programs.specs.declared.program.Program.{Program}
use Rattle.program_maker.specs.Programs as made
use Rattle.abi_machine.specs.sound.Scripts.{IsScriptFor}
use Rattle.run_laws.specs.Turns.{IsProgram}

abbrev pub ProgramsAreNamed : Type 0
ProgramsAreNamed = (g : Graph) (s : Script) (p : Program) → made.IsProgram g s p → IsScriptFor g s → IsProgram g s p
