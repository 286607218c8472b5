-- What a call of the program answers, from the command that its words lead to and what the files hold: a constructor for each row of the
-- statuses. In this order they are decided: words that are no command; the component file; its linking; for `run` the script file, and the
-- run. What a run has for the output is the text of its trace, and behind it, where that is asked for, that of what it leaves (`specs/Leaving`).
use Rattle.std.specs.Prelude.{◌≡◌, ℕ, Bool, true, false, List, [], ◌++◌, Option, Some, None}
use Rattle.ca_base.specs.declared.refusal.Refusal.{Refusal}
use Rattle.part_reader.specs.declared.fault.ComponentWhy.{ComponentWhy}
use Rattle.script_reader.specs.declared.fault.ScriptFault.{ScriptFault}
use Rattle.script_reader.specs.Script.{Script}
use Rattle.link_spec.specs.declared.fault.LinkFault.{LinkFault}
use Rattle.comp_graph.specs.Graph.{Graph}
use Rattle.trace_labels.specs.declared.label.Label.{Label}
use Rattle.trace_show.specs.LabelText.{trace_text}
use Rattle.abi_machine.specs.declared.run_end.RunEnd.{RunEnd}
use Rattle.abi_machine.specs.World.{World}
use Rattle.abi_machine.specs.Run.{Runs, trace_of}
use Rattle.answer_texts.specs.Refusals.{refused_line, link_refused_line, script_refused_line}
use Rattle.answer_texts.specs.Shown.{accepted_text, graph_text}
use Rattle.command_words.specs.Words.{Command, Run, Check, Show, component_file}
use Rattle.wcm.specs.declared.answer.Answer.{Answer}
use Rattle.wcm.specs.declared.status.Status.TheVariants.{Done, Usage, Refused, ScriptRefused, LinkRefused}
use Rattle.wcm.specs.Files.{IsFileRefused, IsFileNotLinked, IsFileLinked, IsScriptFileRefused, IsScriptFile}
use Rattle.wcm.specs.Leaving.{Leaves}
use Rattle.wcm.specs.Status.{status_of}

-- the answer for words that are no command, with this text for the error output
abbrev pub usage_answer : List ℕ → Answer
usage_answer text = record { status = Usage; out = []; err = text }

-- the answers without a run
abbrev pub refused_answer : Refusal ComponentWhy → Answer
refused_answer refusal = record { status = Refused; out = []; err = refused_line refusal }

abbrev pub link_refused_answer : LinkFault → Answer
link_refused_answer fault = record { status = LinkRefused; out = []; err = link_refused_line fault }

abbrev pub script_refused_answer : ScriptFault → Answer
script_refused_answer fault = record { status = ScriptRefused; out = []; err = script_refused_line fault }

abbrev pub accepted_answer : Answer
accepted_answer = record { status = Done; out = accepted_text; err = [] }

abbrev pub shown_answer : Graph → Answer
shown_answer g = record { status = Done; out = graph_text g; err = [] }

-- the text of a run: all its lines, and behind them what it leaves
abbrev pub run_text : List Label → RunEnd → List ℕ → List ℕ
run_text labels end left = trace_text (trace_of labels end) ++ left

-- the answer of a run
abbrev pub run_answer : List Label → RunEnd → List ℕ → Answer
run_answer labels end left = record { status = status_of end; out = run_text labels end left; err = [] }

-- The answers for a command, if the words lead to one, where this is held. Of the text for the error output nothing is said where they
-- are no command.
pub data Answers (held : List ℕ → Option (List ℕ)) : Option Command → Answer → Type 0 where
  -- 2: the words are no command
  no_command : (text : List ℕ) → Answers held None (usage_answer text)
  -- 3: the component file is refused
  file_refused : (command : Command) (refusal : Refusal ComponentWhy)
      → IsFileRefused held (component_file command) refusal
      → Answers held (Some command) (refused_answer refusal)
  -- 10: its component is not linked
  not_linked : (command : Command) (fault : LinkFault)
      → IsFileNotLinked held (component_file command) fault
      → Answers held (Some command) (link_refused_answer fault)
  -- 0: it is to be checked, and is linked
  accepted : (file : List ℕ) (g : Graph)
      → IsFileLinked held file g
      → Answers held (Some (Check file)) accepted_answer
  -- 0: it is to be shown, and is linked
  shown : (file : List ℕ) (g : Graph)
      → IsFileLinked held file g
      → Answers held (Some (Show file)) (shown_answer g)
  -- 4: it is to be run, and is linked, and the script file is refused
  script_refused : (file script : List ℕ) (dump : Bool) (g : Graph) (fault : ScriptFault)
      → IsFileLinked held file g → IsScriptFileRefused held script g.exports fault
      → Answers held (Some (Run file script dump)) (script_refused_answer fault)
  -- 0, 1, 5 or 6: the run has this end, and what it leaves has this text
  ran : (file script : List ℕ) (dump : Bool) (g : Graph) (calls : Script) (labels : List Label) (last : World) (end : RunEnd) (left : List ℕ)
      → IsFileLinked held file g → IsScriptFile held script g.exports calls → Runs g calls labels last end → Leaves g calls labels last end dump left
      → Answers held (Some (Run file script dump)) (run_answer labels end left)
