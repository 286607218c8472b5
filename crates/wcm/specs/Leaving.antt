-- What stands behind the trace of a run: nothing, where it is not asked for. Where the run is done, traps, or no task can go on, it is the text of what its last
-- world leaves. For want of fuel it is the text of what the program keeps then, at the end of the run of its own steps that has these lines.
use Rattle.std.specs.Prelude.{ℕ, Bool, true, false, if◌then◌else◌, List, [], ◌++◌, Option, Some, None}
use Rattle.script_reader.specs.Script.{Script}
use Rattle.comp_graph.specs.Graph.{Graph}
use Rattle.trace_labels.specs.declared.label.Label.{Label}
use Rattle.programs.specs.declared.program.Program.{Program}
use Rattle.program_maker.specs.Programs.{IsProgram}
use Rattle.world_parts.specs.Held.{Held}
use Rattle.trace_show.specs.LabelText.{trace_text}
use Rattle.world_dumps.specs.Tables as kept
use Rattle.value_moves.specs.Passing.{Passes}
use Rattle.machine_runs.specs.Worlds.{first_point, IsRun}
use Rattle.abi_machine.specs.declared.run_end.RunEnd.{RunEnd}
use Rattle.abi_machine.specs.declared.run_end.RunEnd.TheVariants as ends
use Rattle.abi_machine.specs.World.{World}
use Rattle.abi_machine.specs.Run.{trace_of}
use Rattle.abi_machine.specs.Dump.{dump_of}
use Rattle.run_laws.specs.Whole.{end_of}

-- the run came to its end while there was fuel
abbrev pub IsOver : RunEnd → Type 0
IsOver ends.Done = Unit {0}
IsOver (ends.Trapped task why) = Unit {0}
IsOver (ends.Deadlock tasks) = Unit {0}
IsOver ends.Fuel = ⊥

-- the end of a run of the program's own steps, with what is kept then
pub record EndsWith (g : Graph) (s : Script) (lines : List Label) (end : RunEnd) (p : Program) (last : Held) : Type 0 where
  pub is_of : IsProgram g s p
  pub goes : IsRun Passes p (first_point g s) (end_of end) lines last

pub data Leaves (g : Graph) (s : Script) (labels : List Label) (last : World) (end : RunEnd) : Bool → List ℕ → Type 0 where
  not_asked : Leaves g s labels last end false []
  of_world : IsOver end → Leaves g s labels last end true (dump_of last)
  of_kept : (p : Program) (h : Held) → (IsOver end → ⊥) → EndsWith g s (trace_of labels end) end p h → Leaves g s labels last end true (kept.dump_of h)

-- the text of a run of the program's own steps, and of what is kept behind it where that is asked for
abbrev pub kept_text : Bool → List Label → Held → List ℕ
kept_text dump lines last = trace_text lines ++ (if dump then kept.dump_of last else [])

-- a text that was asked for or not
abbrev pub dumped : Option (List ℕ) → List ℕ
dumped None = []
dumped (Some text) = text
