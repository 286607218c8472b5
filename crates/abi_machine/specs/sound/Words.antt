-- Words that are kept (Component Model, CanonicalABI.md, "Flattening", `canon lower`, `canon context.set`, `canon resource.new`): a task that waits in a
-- canonical function was called with words of its parameters, and so were those passed by which another task called it; words of context and
-- representations are i32, also of handles that a lowering is to add. This asks that what core code calls is given words of its parameters.
use Rattle.std.specs.Prelude.{◌≡◌, ◌<◌, ◌^◌, ℕ, nat_lt, Bool, true, false, not, List, map, Option, Some}
use Rattle.std.specs.List.{slice_get, AllByRecursion}
use Rattle.handle_table.specs.History.{live}
use Rattle.syntax_trees.specs.declared.value.Value.{Value, fold-Value}
use Rattle.syntax_trees.specs.declared.value.Value.TheOpen.{Value-F}
use Rattle.syntax_trees.specs.Ends.{some_true, part_true}
use Rattle.wasm_numbers.specs.Types.{AreWords}
use Rattle.comp_graph.specs.declared.graph.CanonFunc.{CanonFunc}
use Rattle.comp_graph.specs.Graph.{Graph, canon_type}
use Rattle.script_reader.specs.declared.script.Item.{Item}
use Rattle.script_reader.specs.declared.script.Item.TheVariants as item
use Rattle.script_reader.specs.Script.{Script}
use Rattle.trace_labels.specs.declared.label.Label.{Label}
use Rattle.abi_machine.specs.LoweringOver.{New, NewOwn, NewBorrow, NewEnd, Plan, Gives, Fails, Asks, Size, Put, Adds}
use Rattle.abi_machine.specs.Control.{HostedState, Going, AtCall, Behind, InLowering, BeforeLeaving, Control, Calls, Lowers, Quiet}
use Rattle.abi_machine.specs.World.{Entry, Inst, Caller, Nobody, Host, Guest, TaskState, AfterCall, AfterCancel, InBuiltin, Task, World, first_world}
use Rattle.abi_machine.specs.Canons.{canon_at}
use Rattle.abi_machine.specs.Reading.{table_in}
use Rattle.abi_machine.specs.Turn.{Steps}
use Rattle.abi_machine.specs.Next.{next}
use Rattle.abi_machine.specs.Run.{Reaches}
use Rattle.abi_machine.specs.sound.Answers.{HasRep, IsInRange}

-- the words of a call of the canonical function of a number
abbrev pub IsPassed : Graph → ℕ → List ℕ → Type 0
IsPassed g number words = (c : CanonFunc) → canon_at g number ≡ Some c → AreWords (canon_type c).params words

-- What core code calls, where control says so, it calls with such words.
abbrev pub HostedPasses : Graph → HostedState → Type 0
HostedPasses g (Going k) = Unit {0}
HostedPasses g (AtCall number words k) = IsPassed g number words

abbrev pub CodePasses : Graph → Control → Type 0
CodePasses g (Calls number words) = IsPassed g number words
CodePasses g (Quiet n b) = HostedPasses g n.state
CodePasses g control = Unit {0}

-- Whether a value holds a handle whose representation is no i32; of what the script passes none does.
abbrev pub big_step : Value-F Bool → Bool
big_step (Value-F.Own handle) = not (nat_lt handle.rep (2 ^ 32))
big_step (Value-F.Borrow handle) = not (nat_lt handle.rep (2 ^ 32))
big_step (Value-F.List all) = some_true all
big_step (Value-F.Record all) = some_true all
big_step (Value-F.Variant n payload) = part_true payload
big_step other = false

abbrev pub has_big : Value → Bool
has_big = fold-Value Bool big_step

abbrev pub AreSmall : List Value → Type 0
AreSmall values = some_true (map has_big values) ≡ true → ⊥

abbrev pub ItemPassesSmall : Item → Type 0
ItemPassesSmall (item.Call call) = AreSmall call.values
ItemPassesSmall (item.Cancel call) = Unit {0}

abbrev pub ScriptPassesSmall : Script → Type 0
ScriptPassesSmall s = AllByRecursion ItemPassesSmall s.items

-- A task, by its state, by its caller, and its words of context.
abbrev pub WaitsWithWords : Graph → TaskState → Type 0
WaitsWithWords g (AfterCall callee number words) = IsPassed g number words
WaitsWithWords g (AfterCancel callee number words) = IsPassed g number words
WaitsWithWords g (InBuiltin number words wait) = IsPassed g number words
WaitsWithWords g state = Unit {0}

abbrev pub WasPassed : Graph → Caller → Type 0
WasPassed g Nobody = Unit {0}
WasPassed g (Host call values) = AreSmall values
WasPassed g (Guest subtask) = IsPassed g subtask.canon subtask.words

pub record KeepsWords (g : Graph) (state : TaskState) (caller : Caller) (context : ℕ × ℕ) : Type 0 where
  pub waits : WaitsWithWords g state
  pub passed : WasPassed g caller
  pub first : context.0 < 2 ^ 32
  pub second : context.1 < 2 ^ 32

abbrev pub KeepWords : Graph → List Task → Type 0
KeepWords g tasks = AllByRecursion (λ task. KeepsWords g task.state task.caller task.context) tasks

-- the handles in tables
abbrev pub HaveReps : List Inst → Type 0
HaveReps insts = (i index : ℕ) (entry : Entry) → live (table_in (slice_get insts i)) index ≡ Some entry → HasRep entry

-- Whatever is answered, a plan adds only handles with such representations.
abbrev pub HasNewRep : New → Type 0
HasNewRep (NewOwn resource rep) = rep < 2 ^ 32
HasNewRep (NewBorrow resource rep) = rep < 2 ^ 32
HasNewRep (NewEnd kind number) = Unit {0}

abbrev pub AddsReps : Plan → Type 0
AddsReps (Gives words) = Unit {0}
AddsReps (Fails why) = Unit {0}
AddsReps (Asks ask k) = (place : ℕ) → AddsReps (k place)
AddsReps (Size k) = (count : ℕ) → AddsReps (k count)
AddsReps (Put place bytes k) = AddsReps k
AddsReps (Adds entry k) = HasNewRep entry × ((index : Option ℕ) → AddsReps (k index))

-- by what comes next
abbrev pub BehindAdds : Behind → Type 0
BehindAdds (InLowering l k) = (place : ℕ) → AddsReps (k place)
BehindAdds BeforeLeaving = Unit {0}

abbrev pub ControlAdds : Control → Type 0
ControlAdds (Lowers l plan) = AddsReps plan
ControlAdds (Quiet n b) = BehindAdds b
ControlAdds control = Unit {0}

pub record HoldsWords (g : Graph) (tasks : List Task) (insts : List Inst) : Type 0 where
  pub keep : KeepWords g tasks
  pub reps : HaveReps insts

abbrev pub WordsAreKept : Graph → World → Type 0
WordsAreKept g w = HoldsWords g w.tasks w.insts × ControlAdds w.control

-- So it is in the first world, and so it stays, where what core code calls is given words of its parameters. So it is in each world that a run reaches
-- then, and representations and words of context are i32.
abbrev pub FirstKeepsWords : Type 0
FirstKeepsWords = (g : Graph) → WordsAreKept g (first_world g)

abbrev pub WordsStayKept : Type 0
WordsStayKept =
    (g : Graph) (s : Script) (w v : World) (labels : List Label) → ScriptPassesSmall s → CodePasses g w.control → WordsAreKept g w → next g s w ≡ Steps labels v
    → WordsAreKept g v

abbrev pub PassesEverywhere : Graph → Script → Type 0
PassesEverywhere g s = (steps : List (List Label)) (w : World) → Reaches g s (first_world g) steps w → CodePasses g w.control

abbrev pub ReachedKeepWords : Type 0
ReachedKeepWords =
    (g : Graph) (s : Script) (steps : List (List Label)) (w : World) → ScriptPassesSmall s → PassesEverywhere g s → Reaches g s (first_world g) steps w
    → WordsAreKept g w × IsInRange w
