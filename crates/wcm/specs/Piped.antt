-- What `pipe` answers, from its seed and its count alone: its component has the bytes that are made of both (`comp_make`), and goes the same
-- way as that of a file; its script calls the component's one function, with fuel for 1,000,000,000 units and without picks. Of the run four
-- lines are told: the seed, how many elements its copies moved, the sum of those that are unsigned 32-bit integers, both modulo 2^64, and
-- the last line of its trace.
use Rattle.std.specs.Prelude.{◌≡◌, ℕ, List, [], ◌++◌, Option, Some, None, codes}
use Rattle.std.specs.Fmt.{decimal}
use Rattle.ca_base.specs.declared.refusal.Refusal.{Refusal}
use Rattle.comp_make.specs.Component.{component_bytes}
use Rattle.comp_make.specs.Pipe.{pipe_tree}
use Rattle.comp_tree.specs.declared.items.Component.{Component}
use Rattle.part_reader.specs.declared.fault.ComponentWhy.{ComponentWhy}
use Rattle.comp_reader.specs.Binary.{IsComponent, IsRefused}
use Rattle.link_spec.specs.declared.fault.LinkFault.{LinkFault}
use Rattle.link_spec.specs.Linked.{IsLinked, IsLinkRefused}
use Rattle.comp_graph.specs.Graph.{Graph}
use Rattle.script_reader.specs.declared.fault.ScriptFault.{ScriptFault}
use Rattle.script_reader.specs.Script.{Script, IsScript, IsScriptRefused}
use Rattle.abi_machine.specs.declared.run_end.RunEnd.{RunEnd}
use Rattle.abi_machine.specs.World.{World}
use Rattle.abi_machine.specs.Run.{Runs, trace_of}
use Rattle.trace_labels.specs.declared.label.Label.{Label}
use Rattle.trace_show.specs.LabelText.{line}
use Rattle.trace_show.specs.Tally.{Tally, counted, without_feed}
use Rattle.command_words.specs.Words.{Request, OfFile, Pipe}
use Rattle.wcm.specs.declared.answer.Answer.{Answer}
use Rattle.wcm.specs.declared.status.Status.{Status}
use Rattle.wcm.specs.Status.{status_of}
use Rattle.wcm.specs.Answers.{Answers, refused_answer, link_refused_answer, script_refused_answer}
use Rattle.wcm.specs.Causes.{IsCaused}
use Rattle.wcm.specs.Files.{IsTold}

-- the component's bytes, and the script's
abbrev pub pipe_bytes : ℕ → ℕ → List ℕ
pipe_bytes seed count = component_bytes (pipe_tree seed count)

abbrev pub pipe_script : List ℕ
pipe_script = line (codes "fuel 1000000000") ++ line (codes "call run ()")

-- the text of what is told of a run
abbrev pub number_line : List ℕ → ℕ → List ℕ
number_line name number = line (name ++ decimal number)

abbrev pub tally_text : ℕ → Tally → List ℕ
tally_text seed t = number_line (codes "seed ") seed ++ number_line (codes "elements ") t.elements ++ number_line (codes "sum ") t.sum ++ line (without_feed t.last)

abbrev pub pipe_answer : ℕ → List Label → RunEnd → Answer
pipe_answer seed labels end = record { status = status_of end; out = tally_text seed (counted (trace_of labels end)); err = [] }

-- the answers: a constructor for each row of the statuses, in the order in which they are decided
pub data PipeAnswers (seed count : ℕ) : Answer → Type 0 where
  -- 3, 10 and 4: the component is refused, is not linked, or its script is refused
  pipe_refused : (refusal : Refusal ComponentWhy) → IsRefused (pipe_bytes seed count) refusal → PipeAnswers seed count (refused_answer refusal)
  pipe_not_linked : (c : Component) (fault : LinkFault) → IsComponent (pipe_bytes seed count) c → IsLinkRefused c fault → PipeAnswers seed count (link_refused_answer fault)
  pipe_script_refused : (c : Component) (g : Graph) (fault : ScriptFault) → IsComponent (pipe_bytes seed count) c → IsLinked c g → IsScriptRefused g.exports pipe_script fault
      → PipeAnswers seed count (script_refused_answer fault)
  -- 0, 1, 5 or 6: the run has this end
  piped : (c : Component) (g : Graph) (calls : Script) (labels : List Label) (last : World) (end : RunEnd)
      → IsComponent (pipe_bytes seed count) c → IsLinked c g → IsScript g.exports pipe_script calls → Runs g calls labels last end
      → PipeAnswers seed count (pipe_answer seed labels end)

-- The answers for what words ask for: for a command over files by what is held, for a pipe by its seed and its count, and for words that ask for nothing.
abbrev pub Answered : (List ℕ → Option (List ℕ)) → Option Request → Answer → Type 0
Answered held None a = Answers held None a
Answered held (Some (OfFile command)) a = Answers held (Some command) a
Answered held (Some (Pipe seed count)) a = PipeAnswers seed count a

-- what words ask for is told, if they ask for files
abbrev pub IsAskedTold : (List ℕ → Option (List ℕ)) → Option Request → Type 0
IsAskedTold held None = IsTold held None
IsAskedTold held (Some (OfFile command)) = IsTold held (Some command)
IsAskedTold held (Some (Pipe seed count)) = Unit {0}

-- the status has its cause: of a pipe, one of its answers has this status
abbrev pub IsAskedFor : (List ℕ → Option (List ℕ)) → Option Request → Status → Type 0
IsAskedFor held None status = IsCaused held None status
IsAskedFor held (Some (OfFile command)) status = IsCaused held (Some command) status
IsAskedFor held (Some (Pipe seed count)) status = (a : Answer) × PipeAnswers seed count a × (a.status ≡ status)
