-- What each status of an answer comes from: a row of `Answers`, or an end of a run.
use Rattle.std.specs.Prelude.{◌≡◌, ◌⊎◌, ℕ, Bool, true, false, List, Option, Some, None}
use Rattle.ca_base.specs.declared.refusal.Refusal.{Refusal}
use Rattle.part_reader.specs.declared.fault.ComponentWhy.{ComponentWhy}
use Rattle.script_reader.specs.declared.fault.ScriptFault.{ScriptFault}
use Rattle.script_reader.specs.Script.{Script}
use Rattle.link_spec.specs.declared.fault.LinkFault.{LinkFault}
use Rattle.comp_graph.specs.Graph.{Graph}
use Rattle.trace_labels.specs.declared.label.Label.{Label}
use Rattle.trace_labels.specs.declared.trap.TrapName.{TrapName}
use Rattle.abi_machine.specs.declared.run_end.RunEnd.{RunEnd}
use Rattle.abi_machine.specs.declared.run_end.RunEnd.TheVariants as ends
use Rattle.abi_machine.specs.World.{World}
use Rattle.abi_machine.specs.Run.{Runs}
use Rattle.command_words.specs.Words.{Command, Run, Check, Show, component_file}
use Rattle.wcm.specs.declared.status.Status.{Status}
use Rattle.wcm.specs.declared.status.Status.TheVariants.{Done, Trap, Usage, Refused, ScriptRefused, Deadlock, Fuel, ReadFault, WriteFault, Memory, LinkRefused}
use Rattle.wcm.specs.Files.{IsFileRefused, IsFileNotLinked, IsFileLinked, IsScriptFileRefused, IsScriptFile, IsTold}

-- a command that asks for nothing behind a graph
abbrev pub asks_of_graph : Command → Bool
asks_of_graph (Run file script dump) = false
asks_of_graph (Check file) = true
asks_of_graph (Show file) = true

-- a component is to be checked or shown, and is linked
pub record HasGraph (held : List ℕ → Option (List ℕ)) (words : Option Command) : Type 0 where
  pub command : Command
  pub graph : Graph
  pub named : words ≡ Some command
  pub asks : asks_of_graph command ≡ true
  pub linked : IsFileLinked held (component_file command) graph

-- the component of a command is not linked
pub record HasNoGraph (held : List ℕ → Option (List ℕ)) (words : Option Command) : Type 0 where
  pub command : Command
  pub fault : LinkFault
  pub named : words ≡ Some command
  pub refused : IsFileNotLinked held (component_file command) fault

-- a component is to be run, and is linked, and its script file is refused
pub record HasNoScript (held : List ℕ → Option (List ℕ)) (words : Option Command) : Type 0 where
  pub file : List ℕ
  pub script : List ℕ
  pub dump : Bool
  pub graph : Graph
  pub fault : ScriptFault
  pub named : words ≡ Some (Run file script dump)
  pub linked : IsFileLinked held file graph
  pub refused : IsScriptFileRefused held script graph.exports fault

-- a component is to be run, and is linked, and the run of its script has this end
pub record HasRun (held : List ℕ → Option (List ℕ)) (words : Option Command) (end : RunEnd) : Type 0 where
  pub file : List ℕ
  pub script : List ℕ
  pub dump : Bool
  pub graph : Graph
  pub calls : Script
  pub labels : List Label
  pub last : World
  pub named : words ≡ Some (Run file script dump)
  pub linked : IsFileLinked held file graph
  pub read : IsScriptFile held script graph.exports calls
  pub runs : Runs graph calls labels last end

-- the status has its cause in the command that the words lead to and in what is held; a fault and want of memory have theirs elsewhere
abbrev pub HasCause : (List ℕ → Option (List ℕ)) → Option Command → Status → Type 0
HasCause held words Done = HasGraph held words ⊎ HasRun held words ends.Done
HasCause held words Trap = (task : ℕ) × (why : TrapName) × HasRun held words (ends.Trapped task why)
HasCause held words Usage = words ≡ None
HasCause held words Refused =
    (command : Command) × (refusal : Refusal ComponentWhy) × (words ≡ Some command) × IsFileRefused held (component_file command) refusal
HasCause held words ScriptRefused = HasNoScript held words
HasCause held words Deadlock = (tasks : List ℕ) × HasRun held words (ends.Deadlock tasks)
HasCause held words Fuel = HasRun held words ends.Fuel
HasCause held words ReadFault = ⊥
HasCause held words WriteFault = ⊥
HasCause held words Memory = ⊥
HasCause held words LinkRefused = HasNoGraph held words

-- the status that a command comes to: it has its cause, and no other status has one where the files are told
pub record IsCaused (held : List ℕ → Option (List ℕ)) (words : Option Command) (status : Status) : Type 0 where
  pub cause : HasCause held words status
  pub only : IsTold held words → (other : Status) → HasCause held words other → other ≡ status
