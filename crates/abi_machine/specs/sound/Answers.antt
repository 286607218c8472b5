-- What is answered (Component Model, CanonicalABI.md, "Canonical Definitions", "Subtask State", "Stream State" and "Future State"): each answer that a step
-- gives to core code is words of the types that the canonical function gives back which it called, where representations, words of context, and
-- what is kept of results are such words.
use Rattle.std.specs.Prelude.{◌≡◌, ◌<◌, ◌^◌, ℕ, true, false, List, [], ◌∷◌, Option, Some, None}
use Rattle.std.specs.List.{slice_get, AllByRecursion}
use Rattle.syntax_trees.specs.declared.module_types.ValType.TheVariants.{I32}
use Rattle.wasm_numbers.specs.Types.{AreWords}
use Rattle.comp_graph.specs.declared.graph.CanonFunc.{CanonFunc}
use Rattle.comp_graph.specs.Graph.{Graph, canon_type}
use Rattle.script_reader.specs.Script.{Script}
use Rattle.trace_labels.specs.declared.label.Label.{Label}
use Rattle.trace_labels.specs.declared.label.Label.TheVariants as line
use Rattle.abi_machine.specs.Control.{Receiver, InWait, InCallback, After, Replies, Finishes, Then, Starts, Resolves, Transfers, HostedState, Going, AtCall, Control, Runs, Calls, Lowers, Quiet, Back, Resumes, Delivers}
use Rattle.abi_machine.specs.World.{Entry, OwnHandle, BorrowHandle, OfSubtask, OfSet, OfEnd, Subtask, Wait, ForYield, ForSet, ForCall, ForCopy, ForCancel, TaskState, AfterCall, AfterCancel, InBuiltin, Task, World}
use Rattle.abi_machine.specs.Canons.{canon_at, options_at}
use Rattle.abi_machine.specs.Reading.{entry_at, acting, subtask_of}
use Rattle.abi_machine.specs.Counting.{has_resolved}
use Rattle.abi_machine.specs.Turn.{Steps}
use Rattle.abi_machine.specs.Next.{next}
use Rattle.abi_machine.specs.sound.Tables.{HaveHistories}
use Rattle.abi_machine.specs.sound.Copies.{IsCopied}
use Rattle.abi_machine.specs.sound.Initial.{RunsAlone}
use Rattle.abi_machine.specs.sound.Called.{HaveCalled}
use Rattle.abi_machine.specs.sound.Subtasks.{AreSubtasks}
use Rattle.abi_machine.specs.sound.Events.{HasEvents}
use Rattle.abi_machine.specs.sound.Fitting.{CallsFit}

-- Among lines the answers are such words.
abbrev pub IsAnswer : (List ℕ → Type 0) → Label → Type 0
IsAnswer P (line.Got t words) = P words
IsAnswer P label = Unit {0}

abbrev pub AreAnswers : (List ℕ → Type 0) → List Label → Type 0
AreAnswers P labels = AllByRecursion (IsAnswer P) labels

-- An answer has no word, or one, an i32; or it is what the canonical function of a number gives back.
abbrev pub IsEmpty : List ℕ → Type 0
IsEmpty words = AreWords [] words

abbrev pub IsOneWord : List ℕ → Type 0
IsOneWord words = AreWords (I32 ∷ []) words

abbrev pub IsOfCanon : Graph → ℕ → List ℕ → Type 0
IsOfCanon g number words = (c : CanonFunc) → canon_at g number ≡ Some c → AreWords (canon_type c).results words

-- What is answered where a wait is over; where control is back at a task, or one that was blocked goes on; behind a lowering; and in nested code.
abbrev pub IsAtEnd : Graph → ℕ → Wait → List ℕ → Type 0
IsAtEnd g number (ForCall callee) words = IsOfCanon g number words
IsAtEnd g number ForYield words = IsOneWord words
IsAtEnd g number (ForSet index) words = IsOneWord words
IsAtEnd g number (ForCopy index) words = IsOneWord words
IsAtEnd g number (ForCancel index) words = IsOneWord words

abbrev pub IsAtWait : Graph → TaskState → List ℕ → Type 0
IsAtWait g (AfterCall callee number given) words = IsOfCanon g number words
IsAtWait g (AfterCancel callee number given) words = IsOneWord words
IsAtWait g (InBuiltin number given wait) words = IsAtEnd g number wait words
IsAtWait g state words = ⊥

abbrev pub IsBehindResult : After → List ℕ → Type 0
IsBehindResult Replies words = IsEmpty words
IsBehindResult (Finishes ended) words = ⊥

abbrev pub IsBehindLowering : Then → List ℕ → Type 0
IsBehindLowering Starts words = ⊥
IsBehindLowering (Resolves to after) words = IsBehindResult after words
IsBehindLowering (Transfers copying) words = IsOneWord words

abbrev pub IsHostedAnswer : Graph → HostedState → List ℕ → Type 0
IsHostedAnswer g (Going k) words = ⊥
IsHostedAnswer g (AtCall number given k) words = IsOfCanon g number words

-- a wait gets the code of an event; a callback gets it as a parameter
abbrev pub IsReceived : Receiver → List ℕ → Type 0
IsReceived (InWait number given) words = IsOneWord words
IsReceived InCallback words = ⊥

-- by the state of the acting task
abbrev pub IsOfActing : Graph → Option (ℕ × Task) → List ℕ → Type 0
IsOfActing g None words = ⊥
IsOfActing g (Some a) words = IsAtWait g a.1.state words

-- By control: where a task's stack makes moves a destructor may have ended.
abbrev pub IsAnswered : Graph → Control → Option (ℕ × Task) → List ℕ → Type 0
IsAnswered g Runs acts words = IsEmpty words
IsAnswered g (Calls number given) acts words = IsOfCanon g number words
IsAnswered g (Lowers l plan) acts words = IsBehindLowering l.next words
IsAnswered g (Quiet n b) acts words = IsHostedAnswer g n.state words
IsAnswered g Back acts words = IsOfActing g acts words
IsAnswered g Resumes acts words = IsOfActing g acts words
IsAnswered g (Delivers set receiver pick) acts words = IsReceived receiver words
IsAnswered g control acts words = ⊥

-- Representations and words of context are i32.
abbrev pub HasRep : Entry → Type 0
HasRep (OwnHandle resource rep) = rep < 2 ^ 32
HasRep (BorrowHandle resource rep task) = rep < 2 ^ 32
HasRep (OfSubtask callee) = Unit {0}
HasRep (OfSet set) = Unit {0}
HasRep (OfEnd e) = Unit {0}

pub record IsInRange (w : World) : Type 0 where
  pub reps : (i index : ℕ) (entry : Entry) → entry_at w i index ≡ Some entry → HasRep entry
  pub contexts : (t : ℕ) (task : Task) → slice_get w.tasks t ≡ Some task → (task.context.0 < 2 ^ 32) × (task.context.1 < 2 ^ 32)

-- What is kept of the result of a task that has resolved is words of the types that the canonical function gives back by which it was called, where this
-- one waits: where control is back at a task, and where one that was blocked goes on.
abbrev pub HasResults : Graph → World → Type 0
HasResults g w =
    (t : ℕ) (task : Task) (subtask : Subtask) → slice_get w.tasks t ≡ Some task → subtask_of task.caller ≡ Some subtask → has_resolved task ≡ true → (options_at g subtask.canon).is_async ≡ false
    → IsOfCanon g subtask.canon subtask.result

abbrev pub HasResultsAt : Graph → Control → World → Type 0
HasResultsAt g Back w = HasResults g w
HasResultsAt g Resumes w = HasResults g w
HasResultsAt g control w = Unit {0}

abbrev pub AnswersAreWords : Type 0
AnswersAreWords =
    (g : Graph) (s : Script) (w v : World) (labels : List Label) → RunsAlone w → HaveHistories w.insts → IsCopied w → HaveCalled w.tasks → AreSubtasks g w.tasks w.insts → CallsFit g w.tasks → HasEvents g w → IsInRange w
    → HasResultsAt g w.control w → next g s w ≡ Steps labels v → AreAnswers (IsAnswered g w.control (acting w)) labels
