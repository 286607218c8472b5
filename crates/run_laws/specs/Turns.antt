-- Turns (Component Model, Concurrency.md, "Summary"): where no task runs, the kept machine takes the script's next item or lets an able task go on, as
-- the machine does, and ends where it ends. Among several alternatives one is chosen, by the same picks; the machine does so in a turn of its own.
use Rattle.std.specs.Prelude.{◌≡◌, ℕ, List, [], length, take, Some}
use Rattle.std.specs.List.{slice_get, count_by}
use Rattle.syntax_trees.specs.declared.types.ValType.{ValType}
use Rattle.wasm_store.specs.Stack.{Stack}
use Rattle.comp_graph.specs.Graph.{Graph, Lifted, func_at, func_named}
use Rattle.script_reader.specs.declared.script.Call.{Call}
use Rattle.script_reader.specs.declared.script.Item.TheVariants as item
use Rattle.script_reader.specs.Script.{Script}
use Rattle.trace_labels.specs.declared.label.Label.{Label}
use Rattle.programs.specs.declared.program.CallNumbers.{CallNumbers}
use Rattle.programs.specs.declared.program.Program.{Program}
use Rattle.world_parts.specs.Held.{Held}
use Rattle.world_parts.specs.Turning.{able, call_cancelled}
use Rattle.world_stacks.specs.Views.{PileView}
use Rattle.replies.specs.Seen.{seen}
use Rattle.machine_runs.specs.Stepping.{turn_steps}
use Rattle.abi_machine.specs.Control.{Free}
use Rattle.abi_machine.specs.World.{World}
use Rattle.abi_machine.specs.Edits.{with_control, picked}
use Rattle.abi_machine.specs.Reading.{unfinished}
use Rattle.abi_machine.specs.Scheduling as machine
use Rattle.abi_machine.specs.Scheduling.{Takes, is_call, calls_taken, alternative_turn}
use Rattle.standing.specs.Stands.{Stands}
use Rattle.standing.specs.Callings.{AgreesMade}
use Rattle.standing.specs.Rows.{resting}
use Rattle.run_laws.specs.Points.{stacks_at, StepAgrees}

-- What a turn needs of a program: it is of a graph and a script, and each of the script's calls has the number of the export that it names.
abbrev pub IsNamed : Graph → Program → Call → CallNumbers → Type 0
IsNamed g p call numbers = (f : Lifted) × (func_named g call.name ≡ Some f) × (func_at g numbers.export ≡ Some f)

pub record IsProgram (g : Graph) (s : Script) (p : Program) : Type 0 where
  pub graph : p.graph.now ≡ g
  pub script : p.script.now ≡ s
  pub calls : (n : ℕ) (call : Call) → slice_get s.items n ≡ Some (item.Call call)
      → (numbers : CallNumbers) × (slice_get p.calls.items (count_by is_call (take n s.items)) ≡ Some numbers) × IsNamed g p call numbers

-- The next item, where it is a cancel, is taken as the machine takes it, whatever was picked before.
abbrev pub CancelAt : Graph → List ValType → Script → Held → List (List Stack) → World → ℕ → Type 0
CancelAt g values s h stacks w number =
    AgreesMade g values s 0 h.labels stacks (resting (call_cancelled number h)) (alternative_turn g s (Takes (item.Cancel number)) w)

abbrev pub CancelRow : Graph → List ValType → Script → Held → List (List Stack) → World → Type 0
CancelRow g values s h stacks w =
    (number : ℕ) (picks : List ℕ) (labels : List Label) (used : ℕ) → slice_get s.items w.taken ≡ Some (item.Cancel number)
    → Stands g values s (record h { picks = picks; labels = labels }) stacks (picked used w)
    → CancelAt g values s (record h { picks = picks; labels = labels }) stacks (with_control Free (picked used w)) number

-- Where no task runs: those that can go on, whatever was picked before, and those that have not exited are kept, and how many calls were taken.
pub record TurnKept (g : Graph) (s : Script) (h : Held) (w : World) : Type 0 where
  pub able_tasks : (used : ℕ) → able (seen g) h ≡ machine.able g (with_control Free (picked used w))
  pub open_tasks : h.live ≡ unfinished w
  pub calls : length h.calls ≡ calls_taken s w

abbrev pub TurnsAgree : Type 0
TurnsAgree =
    (g : Graph) (values : List ValType) (s : Script) (p : Program) (h : Held) (piles : List PileView) (w : World)
    → IsProgram g s p → h.labels ≡ [] → w.control ≡ Free → TurnKept g s h w → CancelRow g values s h (stacks_at piles) w → Stands g values s h (stacks_at piles) w
    → StepAgrees g values s [] w (turn_steps p piles h)
