-- What a call of the program comes to behind its words: an answer, of whose text for the output a front has gone out while its run went; or
-- why there is none, and what had gone out then: nothing, or a front of the trace of the machine's run.
use Rattle.std.specs.Prelude.{◌≡◌, ◌⊎◌, ℕ, Bool, List, Option, Some, Result, Ok, Err}
use Rattle.ca_io.specs.Bytes.{TookFront}
use Rattle.script_reader.specs.Script.{Script}
use Rattle.comp_graph.specs.Graph.{Graph}
use Rattle.machine_runs.specs.declared.fault.RunFault.{RunFault}
use Rattle.machine_runs.specs.declared.fault.RunFault.TheVariants as run
use Rattle.trace_labels.specs.declared.label.Label.{Label}
use Rattle.trace_show.specs.LabelText.{trace_text}
use Rattle.abi_machine.specs.declared.run_end.RunEnd.{RunEnd}
use Rattle.abi_machine.specs.World.{World}
use Rattle.abi_machine.specs.Run.{Runs, trace_of}
use Rattle.command_words.specs.Words.{Request, OfFile, Run}
use Rattle.wcm.specs.declared.answer.Answer.{Answer}
use Rattle.wcm.specs.declared.answer.Stop.{Stop}
use Rattle.wcm.specs.declared.answer.Stop.TheVariants.{Fault, Write, Memory}
use Rattle.wcm.specs.Files.{IsFileLinked, IsScriptFile}
use Rattle.wcm.specs.Piped.{Answered}
use Rattle.wcm.specs.Written.{IsLeft}

-- This is the text of the trace of a run that is asked for: all lines of the machine's run of the graph and the script that the files may hold, with this end.
pub record IsTrace (held : List ℕ → Option (List ℕ)) (words : Option Request) (dump : Bool) (end : RunEnd) (text : List ℕ) : Type 0 where
  pub file : List ℕ
  pub script : List ℕ
  pub graph : Graph
  pub calls : Script
  pub labels : List Label
  pub last : World
  pub named : words ≡ Some (OfFile (Run file script dump))
  pub linked : IsFileLinked held file graph
  pub read : IsScriptFile held script graph.exports calls
  pub runs : Runs graph calls labels last end
  pub same : text ≡ trace_text (trace_of labels end)

-- A front of such a text went out, and nothing else.
pub record WentOut (held : List ℕ → Option (List ℕ)) (words : Option Request) (before now : Option (List ℕ)) : Type 0 where
  pub dump : Bool
  pub end : RunEnd
  pub text : List ℕ
  pub trace : IsTrace held words dump end text
  pub front : TookFront before now text

-- An answer is there, but for what went out of it.
abbrev pub ComesToAnswer : (List ℕ → Option (List ℕ)) → Option Request → Option (List ℕ) → Option (List ℕ) → Answer → Type 0
ComesToAnswer held words before now left = (a : Answer) × Answered held words a × IsLeft a left before now

-- What a run comes to, and what a call does.
abbrev pub RunComes : (List ℕ → Option (List ℕ)) → Option Request → Option (List ℕ) → Option (List ℕ) → Result Answer RunFault → Type 0
RunComes held words before now (Ok left) = ComesToAnswer held words before now left
RunComes held words before now (Err run.Write) = WentOut held words before now
RunComes held words before now (Err run.Memory) = (now ≡ before) ⊎ WentOut held words before now
RunComes held words before now (Err run.Beyond) = (now ≡ before) ⊎ WentOut held words before now

abbrev pub Comes : (List ℕ → Option (List ℕ)) → Option Request → Option (List ℕ) → Option (List ℕ) → Result Answer Stop → Type 0
Comes held words before now (Ok left) = ComesToAnswer held words before now left
Comes held words before now (Err Fault) = now ≡ before
Comes held words before now (Err Write) = WentOut held words before now
Comes held words before now (Err Memory) = (now ≡ before) ⊎ WentOut held words before now
