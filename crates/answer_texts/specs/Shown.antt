-- What `check` and `show` tell of a component that is linked. `check` tells that it is; `show` how many component instances
-- begin in it, and then each function that can be called, in order: its name as in a trace, and its type after the text format of
-- interfaces (Component Model, WIT.md, "Types"), but without the names of parameters.
use Rattle.std.specs.Prelude.{ℕ, List, [], ◌++◌, Option, Some, None, codes}
use Rattle.std.specs.List.{flat_map}
use Rattle.std.specs.Fmt.{decimal}
use Rattle.syntax_trees.specs.declared.types.ValType.{ValType}
use Rattle.syntax_trees.specs.declared.types.Param.{Param}
use Rattle.syntax_trees.specs.declared.exports.Export.{Export}
use Rattle.syntax_trees.specs.TypeText.{type_text}
use Rattle.comp_graph.specs.Graph.{Graph}
use Rattle.trace_show.specs.LabelText.{line, listed}
use Rattle.syntax_trees.specs.NameText.{name_text}

-- that a component is linked
abbrev pub accepted_text : List ℕ
accepted_text = line (codes "accepted")

abbrev pub param_text : Param → List ℕ
param_text p = type_text p.val_type

-- a result behind an arrow, or nothing
abbrev pub arrow_text : Option ValType → List ℕ
arrow_text None = []
arrow_text (Some type) = codes " -> " ++ type_text type

-- the line of a function that can be called
abbrev pub export_line : Export → List ℕ
export_line e =
    line (codes "func " ++ name_text e.name ++ codes " " ++ listed param_text e.func_type.params ++ arrow_text e.func_type.result)

-- the lines of a graph
abbrev pub graph_text : Graph → List ℕ
graph_text g = line (codes "instances " ++ decimal g.instance_count) ++ flat_map export_line g.exports
