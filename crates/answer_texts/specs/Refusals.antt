-- The lines that tell of a refusal: where, and why. A component is refused at a byte place, a script at a line. A reason
-- stands by its name, with its argument in parentheses. A byte is two lower-case hexadecimal digits, and a name stands as
-- in a trace.
use Rattle.std.specs.Prelude.{ℕ, List, [], ◌∷◌, ◌++◌, codes}
use Rattle.std.specs.Fmt.{decimal}
use Rattle.hex.specs.Hex.{encode_lower}
use Rattle.ca_base.specs.declared.refusal.Refusal.{Refusal}
use Rattle.wasm_code_reader.specs.declared.fault.ModuleWhy.{ModuleWhy}
use Rattle.wasm_code_reader.specs.declared.fault.ModuleWhy.TheVariants as of_module
use Rattle.wasm_typing.specs.declared.why.ValidWhy.{ValidWhy}
use Rattle.wasm_typing.specs.declared.why.ValidWhy.TheVariants as valid
use Rattle.part_reader.specs.declared.fault.ComponentWhy.{ComponentWhy}
use Rattle.part_reader.specs.declared.fault.ComponentWhy.TheVariants.{Truncated, Leb, Utf8, Magic, SectionSize, Unsupported, Float, Limit, Module, Invalid}
use Rattle.script_reader.specs.declared.fault.ScriptWhy.{ScriptWhy}
use Rattle.script_reader.specs.declared.fault.ScriptWhy.TheVariants as script
use Rattle.script_reader.specs.declared.fault.ScriptFault.{ScriptFault}
use Rattle.link_spec.specs.declared.fault.LinkWhy.{LinkWhy}
use Rattle.link_spec.specs.declared.fault.LinkWhy.TheVariants as link
use Rattle.link_spec.specs.declared.fault.LinkFault.{LinkFault}
use Rattle.trace_show.specs.LabelText.{line}
use Rattle.syntax_trees.specs.NameText.{name_text}

-- a reason's name with its argument
abbrev pub with_argument : List ℕ → List ℕ → List ℕ
with_argument name argument = name ++ codes "(" ++ argument ++ codes ")"

abbrev pub byte_text : ℕ → List ℕ
byte_text b = encode_lower (b ∷ [])

-- why a core module is refused
abbrev pub module_why_text : ModuleWhy → List ℕ
module_why_text of_module.Truncated = codes "Truncated"
module_why_text of_module.Leb = codes "Leb"
module_why_text of_module.Magic = codes "Magic"
module_why_text of_module.SectionOrder = codes "SectionOrder"
module_why_text of_module.SectionSize = codes "SectionSize"
module_why_text of_module.Utf8 = codes "Utf8"
module_why_text of_module.Float = codes "Float"
module_why_text (of_module.Unsupported b) = with_argument (codes "Unsupported") (byte_text b)
module_why_text of_module.Count = codes "Count"
module_why_text of_module.Limit = codes "Limit"

-- why a core module is not valid
abbrev pub valid_why_text : ValidWhy → List ℕ
valid_why_text valid.Index = codes "Index"
valid_why_text valid.Label = codes "Label"
valid_why_text valid.Align = codes "Align"
valid_why_text valid.Stack = codes "Stack"
valid_why_text valid.Typing = codes "Typing"
valid_why_text valid.Name = codes "Name"
valid_why_text valid.Limit = codes "Limit"

-- why a component is refused
abbrev pub component_why_text : ComponentWhy → List ℕ
component_why_text Truncated = codes "Truncated"
component_why_text Leb = codes "Leb"
component_why_text Utf8 = codes "Utf8"
component_why_text Magic = codes "Magic"
component_why_text SectionSize = codes "SectionSize"
component_why_text (Unsupported b) = with_argument (codes "Unsupported") (byte_text b)
component_why_text Float = codes "Float"
component_why_text Limit = codes "Limit"
component_why_text (Module why) = with_argument (codes "Module") (module_why_text why)
component_why_text (Invalid why) = with_argument (codes "Invalid") (valid_why_text why)

-- why a component is not linked
abbrev pub link_why_text : LinkWhy → List ℕ
link_why_text link.RootImport = codes "RootImport"
link_why_text link.Index = codes "Index"
link_why_text (link.Missing name) = with_argument (codes "Missing") (name_text name)
link_why_text link.Typing = codes "Typing"
link_why_text link.Canon = codes "Canon"
link_why_text link.Limit = codes "Limit"

-- why a script is refused
abbrev pub script_why_text : ScriptWhy → List ℕ
script_why_text script.Size = codes "Size"
script_why_text script.Utf8 = codes "Utf8"
script_why_text script.Form = codes "Form"
script_why_text script.Fuel = codes "Fuel"
script_why_text script.CallNumber = codes "CallNumber"
script_why_text script.Export = codes "Export"
script_why_text script.HostType = codes "HostType"
script_why_text script.Value = codes "Value"

-- a place and a reason
abbrev pub at_place : ℕ → List ℕ → List ℕ
at_place place why = codes " at " ++ decimal place ++ codes ": " ++ why

-- the line for a component that is refused, and for one that is not linked
abbrev pub refused_line : Refusal ComponentWhy → List ℕ
refused_line refusal = line (codes "refused" ++ at_place refusal.place (component_why_text refusal.why))

abbrev pub link_refused_line : LinkFault → List ℕ
link_refused_line fault = line (codes "link refused" ++ at_place fault.place (link_why_text fault.why))

-- the line for a script that is refused
abbrev pub script_refused_line : ScriptFault → List ℕ
script_refused_line fault = line (codes "script refused at line " ++ decimal fault.line ++ codes ": " ++ script_why_text fault.why)
