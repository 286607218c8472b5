-- Parts of a step keep the lists of tasks (Component Model, CanonicalABI.md, "Task State", `canon lift`, `canon lower`; Concurrency.md, "Summary" and
-- "Cancellation"): where the tasks that have not exited, those that are watched, and the tasks of the script's calls are as they follow from the tasks, they
-- are so behind the part.
use Rattle.std.specs.Prelude.{◌≡◌, ℕ, List, Option, Some}
use Rattle.std.specs.List.{slice_get}
use Rattle.entry_gate.specs.declared.kind.Kind.{Kind}
use Rattle.comp_graph.specs.declared.graph.CanonFunc.{CanonFunc}
use Rattle.comp_graph.specs.Graph.{Graph}
use Rattle.script_reader.specs.declared.script.Call.{Call}
use Rattle.script_reader.specs.declared.script.Item.TheVariants as item
use Rattle.script_reader.specs.Script.{Script}
use Rattle.trace_labels.specs.declared.label.Label.{Label}
use Rattle.trace_labels.specs.declared.typed.TypedValue.{TypedValue}
use Rattle.world_parts.specs.declared.parts.Receiver.{Receiver}
use Rattle.world_parts.specs.declared.parts.Rest.{Rest}
use Rattle.world_parts.specs.Held.{Held, Done, Gives, Traps, Spent, Stuck}
use Rattle.world_parts.specs.Views.{Views}
use Rattle.world_parts.specs.Events.{delivers, polls, received_none, received_cancel}
use Rattle.world_parts.specs.Going.{enters, ending, loops}
use Rattle.world_parts.specs.Plain.{returned}
use Rattle.world_parts.specs.Turning.{gone, call_taken, call_cancelled}
use Rattle.world_stacks.specs.Views.{PileView}
use Rattle.value_parts.specs.declared.to_pass.Passing.{Passing}
use Rattle.value_moves.specs.Passing.{Passes}
use Rattle.programs.specs.declared.program.Program.{Program}
use Rattle.machine_runs.specs.Calling.{canon_answered}
use Rattle.machine_runs.specs.Moving.{woken}
use Rattle.machine_runs.specs.Beginning.{first_held}
use Rattle.machine_runs.specs.Stepping.{Steps}
use Rattle.machine_runs.specs.Worlds.{Point, first_point, GoOn}
use Rattle.machine_runs.specs.declared.stepping.Step.{Step}
use Rattle.run_laws.specs.TaskLists.{HasLists}

-- So it is of what a part gives. Behind a trap, and where fuel is wanting, no run goes on.
abbrev pub KeepsLists : {A : Type 0} → Script → Held → Done A → Type 0
KeepsLists s h (Gives x k) = HasLists s h → HasLists s k
KeepsLists s h (Traps why k) = Unit {0}
KeepsLists s h (Spent k) = Unit {0}
KeepsLists s h Stuck = Unit {0}

-- What is answered to a call of a canonical function.
abbrev pub AnswersKeepLists : Type 0
AnswersKeepLists =
    (s : Script) (g : Graph) (types : List (Option ℕ)) (t number : ℕ) (c : CanonFunc) (words : List ℕ) (h : Held)
    → KeepsLists s h (canon_answered g types t number c words h)

-- Any move of the acting task: it arrives, goes on, is back, calls a canonical function, or exits.
abbrev pub MovesKeepLists : Type 0
MovesKeepLists = (s : Script) (g : Graph) (types : List (Option ℕ)) (r : Rest) (h : Held) → KeepsLists s h (woken g types r h)

-- A task enters; one ends, blocks in its loop, and resolves.
abbrev pub EnteringKeepsLists : Type 0
EnteringKeepsLists = (s : Script) (t : ℕ) (h : Held) → KeepsLists s h (enters t h)

abbrev pub EndingKeepsLists : Type 0
EndingKeepsLists =
    (s : Script) (t word : ℕ) (value : Option TypedValue) (h : Held)
    → KeepsLists s h (ending t h) × KeepsLists s h (loops t word h) × KeepsLists s h (returned t value h)

-- Events come.
abbrev pub EventsKeepLists : Type 0
EventsKeepLists =
    (s : Script) (g : Views) (t at : ℕ) (r : Receiver) (set : ℕ) (h : Held)
    → KeepsLists s h (delivers g t at r set h) × KeepsLists s h (polls g t at r set h) × KeepsLists s h (received_none g t r h)
    × KeepsLists s h (received_cancel g t r h)

-- A task goes on where none runs; and the script's next item is taken, where it is this one.
abbrev pub TurnsKeepLists : Type 0
TurnsKeepLists = (s : Script) (t : ℕ) (h : Held) → KeepsLists s h (gone t h)

abbrev pub NextCallKeepsLists : Type 0
NextCallKeepsLists =
    (s : Script) (call : Call) (export instance : ℕ) (kind : Kind) (name : List ℕ) (args : List TypedValue) (h : Held)
    → slice_get s.items h.taken ≡ Some (item.Call call) → KeepsLists s h (call_taken export instance kind name args h)

abbrev pub CancelKeepsLists : Type 0
CancelKeepsLists = (s : Script) (call : ℕ) (h : Held) → slice_get s.items h.taken ≡ Some (item.Cancel call) → KeepsLists s h (call_cancelled call h)

-- A step as a whole, of a program of the script, whatever it comes to from any point. And before a graph is instantiated the lists are so.
abbrev pub StepsKeepLists : Type 0
StepsKeepLists =
    (s : Script) (p : Program) (x : Passing) (piles : List PileView) (h : Held) (d : Done (Step × List PileView)) → p.script.now ≡ s
    → Steps Passes p x piles h d → KeepsLists s h d

abbrev pub FirstHasLists : Type 0
FirstHasLists = (g : Graph) (s : Script) → HasLists s (first_held g s)

-- So they are so at every point of a run, where a step ends.
abbrev pub RunsHaveLists : Type 0
RunsHaveLists =
    (p : Program) (g : Graph) (s : Script) (count : ℕ) (lines : List Label) (b : Point) → p.script.now ≡ s
    → GoOn Passes p count (first_point g s) lines b → HasLists s b.held
