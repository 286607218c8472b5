-- What holds of the definitions alone.
use Rattle.std.specs.Prelude.{◌≡◌, ◌⊎◌, ℕ, Bool, false, List, ◌++◌, Option, Some, None, IfSome, MatchOption}
use Rattle.script_reader.specs.Script.{Script}
use Rattle.comp_graph.specs.Graph.{Graph}
use Rattle.lowering_laws.specs.Values.{AreBytes}
use Rattle.programs.specs.declared.program.Program.{Program}
use Rattle.trace_labels.specs.declared.label.Label.{Label}
use Rattle.abi_machine.specs.declared.run_end.RunEnd.{RunEnd}
use Rattle.abi_machine.specs.World.{World}
use Rattle.abi_machine.specs.Run.{Runs}
use Rattle.command_words.specs.Words.{Request, Command, Run, Check, Show}
use Rattle.wcm.specs.declared.answer.Answer.{Answer}
use Rattle.wcm.specs.declared.status.Status.{Status}
use Rattle.wcm.specs.declared.status.Status.TheVariants.{Refused, LinkRefused}
use Rattle.wcm.specs.Answers.{Answers, no_command, file_refused, not_linked, accepted, shown, script_refused, ran}
use Rattle.wcm.specs.Causes.{HasCause}
use Rattle.wcm.specs.Coming.{IsTrace}
use Rattle.wcm.specs.Files.{IsComponentTold, IsTold, IsFileLinked, IsScriptFile}
use Rattle.wcm.specs.Leaving.{IsOver, Leaves, not_asked, of_world, of_kept}
use Rattle.wcm.specs.Piped.{PipeAnswers, Answered, IsAskedTold}

-- each file that is held is one of bytes
abbrev pub HoldsBytes : (List ℕ → Option (List ℕ)) → Type 0
HoldsBytes held = (name : List ℕ) → IfSome (held name) AreBytes

-- two answers are the same, but for the text for the error output where the words are no command
abbrev pub IsSameAnswer : Option Command → Answer → Answer → Type 0
IsSameAnswer words a b = MatchOption words ((b.status ≡ a.status) × (b.out ≡ a.out)) (λ command. b ≡ a)

-- The program of what stands behind the trace of an answer, if that is told of what the program keeps. A graph and a script have several, which tell the types
-- of what is passed by other numbers.
abbrev pub program_left : (g : Graph) (s : Script) (labels : List Label) (last : World) (end : RunEnd) (dump : Bool) (left : List ℕ) → Leaves g s labels last end dump left → Option Program
program_left g s labels last end dump left not_asked = None
program_left g s labels last end dump left (of_world over) = None
program_left g s labels last end dump left (of_kept p h beyond goes) = Some p

abbrev pub program_in : (held : List ℕ → Option (List ℕ)) (words : Option Command) (a : Answer) → Answers held words a → Option Program
program_in held words a (no_command text) = None
program_in held words a (file_refused command refusal f) = None
program_in held words a (not_linked command fault f) = None
program_in held words a (accepted file g f) = None
program_in held words a (shown file g f) = None
program_in held words a (script_refused file script dump g fault f s) = None
program_in held words a (ran file script dump g calls labels last end left f s comes leaves) = program_left g calls labels last end dump left leaves

-- these are one program, where both are there
abbrev pub IsOneProgram : Option Program → Option Program → Type 0
IsOneProgram None q = Unit {0}
IsOneProgram (Some p) None = Unit {0}
IsOneProgram (Some p) (Some q) = p ≡ q

-- What runs leave is told of their last worlds: no dump is asked for, or the run comes to its end while there is fuel.
abbrev pub IsToldOfWorlds : (List ℕ → Option (List ℕ)) → Command → Type 0
IsToldOfWorlds held (Run file script dump) =
    (g : Graph) (calls : Script) (labels : List Label) (last : World) (end : RunEnd)
    → IsFileLinked held file g → IsScriptFile held script g.exports calls → Runs g calls labels last end → (dump ≡ false) ⊎ IsOver end
IsToldOfWorlds held (Check file) = Unit {0}
IsToldOfWorlds held (Show file) = Unit {0}

abbrev pub LeavesWorlds : (List ℕ → Option (List ℕ)) → Option Command → Type 0
LeavesWorlds held words = IfSome words (IsToldOfWorlds held)

-- Where the files that words ask for are told, there is one answer at the most, of dumps for want of fuel for each program; and there is one, where
-- the files are of bytes and there is no such dump.
abbrev pub OneAnswer : Type 0
OneAnswer =
    (held : List ℕ → Option (List ℕ)) (words : Option Command) (a b : Answer) (h : Answers held words a) (k : Answers held words b)
    → IsTold held words → IsOneProgram (program_in held words a h) (program_in held words b k) → IsSameAnswer words a b

abbrev pub SomeAnswer : Type 0
SomeAnswer =
    (held : List ℕ → Option (List ℕ)) (words : Option Command)
    → HoldsBytes held → IsTold held words → LeavesWorlds held words → (a : Answer) × Answers held words a

-- Where the files that words ask for are told, the trace of a run is a front of what each answer has for the output.
abbrev pub TracesAreFronts : Type 0
TracesAreFronts =
    (held : List ℕ → Option (List ℕ)) (words : Option Request) (dump : Bool) (end : RunEnd) (text : List ℕ) (a : Answer)
    → IsAskedTold held words → Answered held words a → IsTrace held words dump end text → (rest : List ℕ) × (a.out ≡ text ++ rest)

-- A pipe has one answer at the most.
abbrev pub OnePipe : Type 0
OnePipe = (seed count : ℕ) (a b : Answer) → PipeAnswers seed count a → PipeAnswers seed count b → b ≡ a

-- The status of an answer has its cause, and each cause has an answer with its status, where what runs leave is told of their last worlds.
abbrev pub StatusesHaveCauses : Type 0
StatusesHaveCauses = (held : List ℕ → Option (List ℕ)) (words : Option Command) (a : Answer) → Answers held words a → HasCause held words a.status

abbrev pub CausesHaveAnswers : Type 0
CausesHaveAnswers =
    (held : List ℕ → Option (List ℕ)) (words : Option Command) (status : Status)
    → LeavesWorlds held words → HasCause held words status → (a : Answer) × Answers held words a × (a.status ≡ status)

-- A component file that is told and refused, or whose component is not linked, leaves nothing to be told.
abbrev pub RefusedFilesTellAll : Type 0
RefusedFilesTellAll =
    (held : List ℕ → Option (List ℕ)) (words : Option Command)
    → IsComponentTold held words → HasCause held words Refused ⊎ HasCause held words LinkRefused → IsTold held words
