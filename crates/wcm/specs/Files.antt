-- What the files that a command names come to. A file holds what is told of it; where nothing is told of it, it may hold anything. The
-- component file is refused, or its component is not linked, or it is linked to a graph. The script file is refused, or it is a script
-- for the functions that can be called.
use Rattle.std.specs.Prelude.{◌≡◌, ◌<◌, ◌≤◌, ◌⊎◌, ℕ, true, List, length, Option, IfSome, IsSome}
use Rattle.ca_base.specs.declared.refusal.Refusal.{Refusal}
use Rattle.syntax_trees.specs.declared.exports.Export.{Export}
use Rattle.comp_tree.specs.declared.items.Component.{Component}
use Rattle.part_reader.specs.declared.fault.ComponentWhy.{ComponentWhy}
use Rattle.part_reader.specs.declared.fault.ComponentWhy.TheVariants.{Limit}
use Rattle.comp_reader.specs.Binary.{IsComponent, IsRefused}
use Rattle.script_reader.specs.declared.fault.ScriptFault.{ScriptFault}
use Rattle.script_reader.specs.Script.{Script, IsScript, IsScriptRefused}
use Rattle.link_spec.specs.declared.fault.LinkFault.{LinkFault}
use Rattle.link_spec.specs.Linked.{IsLinked, IsLinkRefused}
use Rattle.comp_graph.specs.Graph.{Graph}
use Rattle.lowering_laws.specs.Values.{AreBytes}
use Rattle.command_words.specs.Words.{Command, Run, Check, Show, component_file}

-- the file of this name may hold these bytes
abbrev pub MayHold : (List ℕ → Option (List ℕ)) → List ℕ → List ℕ → Type 0
MayHold held name bytes = IfSome (held name) (λ told. bytes ≡ told)

-- how many bytes a component file may have: 16 MiB
abbrev pub component_limit : ℕ
component_limit = 16777216

-- the bytes of a file are those of a component
abbrev pub IsComponentFile : List ℕ → Component → Type 0
IsComponentFile bytes c = (length bytes ≤ component_limit) × IsComponent bytes c

-- the refusal of a file that is too long
abbrev pub too_long : Refusal ComponentWhy
too_long = record { place = component_limit; why = Limit }

-- the bytes of a file are refused, where and why
abbrev pub IsRefusedFile : List ℕ → Refusal ComponentWhy → Type 0
IsRefusedFile bytes refusal =
    ((component_limit < length bytes) × (refusal ≡ too_long))
    ⊎ ((length bytes ≤ component_limit) × IsRefused bytes refusal)

-- the component file is refused
pub record IsFileRefused (held : List ℕ → Option (List ℕ)) (name : List ℕ) (refusal : Refusal ComponentWhy) : Type 0 where
  pub bytes : List ℕ
  pub holds : MayHold held name bytes
  pub refused : IsRefusedFile bytes refusal

-- the component file is of a component that is not linked
pub record IsFileNotLinked (held : List ℕ → Option (List ℕ)) (name : List ℕ) (fault : LinkFault) : Type 0 where
  pub bytes : List ℕ
  pub component : Component
  pub holds : MayHold held name bytes
  pub read : IsComponentFile bytes component
  pub refused : IsLinkRefused component fault

-- the component file is of a component that is linked to this graph
pub record IsFileLinked (held : List ℕ → Option (List ℕ)) (name : List ℕ) (g : Graph) : Type 0 where
  pub bytes : List ℕ
  pub component : Component
  pub holds : MayHold held name bytes
  pub read : IsComponentFile bytes component
  pub linked : IsLinked component g

-- the script file is refused, where these functions can be called
pub record IsScriptFileRefused (held : List ℕ → Option (List ℕ)) (name : List ℕ) (exports : List Export) (fault : ScriptFault) : Type 0 where
  pub text : List ℕ
  pub holds : MayHold held name text
  pub refused : IsScriptRefused exports text fault

-- the script file is of this script
pub record IsScriptFile (held : List ℕ → Option (List ℕ)) (name : List ℕ) (exports : List Export) (script : Script) : Type 0 where
  pub text : List ℕ
  pub holds : MayHold held name text
  pub read : IsScript exports text script

-- What a command asks for behind a graph is told: `run` asks for the script file, `check` and `show` for nothing.
abbrev pub IsScriptTold : (List ℕ → Option (List ℕ)) → Command → Type 0
IsScriptTold held (Run file script dump) = IsSome (held script)
IsScriptTold held (Check file) = Unit {0}
IsScriptTold held (Show file) = Unit {0}

-- the files that a command asks for are told: the component file, and what it asks for behind a graph where that file is linked to one
pub record AreTold (held : List ℕ → Option (List ℕ)) (command : Command) : Type 0 where
  pub component : IsSome (held (component_file command))
  pub script : (g : Graph) → IsFileLinked held (component_file command) g → IsScriptTold held command

-- the files that words ask for are told, if they are a command
abbrev pub IsTold : (List ℕ → Option (List ℕ)) → Option Command → Type 0
IsTold held command = IfSome command (AreTold held)

-- the component file that words name is told, if they are a command
abbrev pub IsComponentTold : (List ℕ → Option (List ℕ)) → Option Command → Type 0
IsComponentTold held command = IfSome command (λ c. IsSome (held (component_file c)))

-- a component that is read of some bytes, and the graph of one
abbrev pub IsRead : Component → Type 0
IsRead c = (bytes : List ℕ) × AreBytes bytes × IsComponent bytes c

abbrev pub IsOfComponent : Graph → Type 0
IsOfComponent g = (c : Component) × IsRead c × IsLinked c g

-- a script that is read of some text, for these exports
abbrev pub IsOfText : List Export → Script → Type 0
IsOfText exports s = (text : List ℕ) × IsScript exports text s

-- the file of this name may hold the bytes of this component
pub record IsFileRead (held : List ℕ → Option (List ℕ)) (name : List ℕ) (c : Component) : Type 0 where
  pub bytes : List ℕ
  pub holds : MayHold held name bytes
  pub read : IsComponentFile bytes c
