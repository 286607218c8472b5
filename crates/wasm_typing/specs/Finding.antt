-- The first fault of a module, as it is looked for: section by section in the order of the file.
use Rattle.std.specs.Prelude.{List, [], length, Option}
use Rattle.std.specs.List.{slice_get}
use Rattle.std.specs.Option.{option_or, option_map, option_and_then}
use Rattle.faults.specs.Faults.{first_in}
use Rattle.syntax_trees.specs.declared.instr.BlockType.TheVariants.{TypeIndex}
use Rattle.syntax_trees.specs.declared.module.Func.{Func}
use Rattle.syntax_trees.specs.declared.module.ModuleTree.{ModuleTree}
use Rattle.wasm_typing.specs.declared.module_places.ModulePlaces.{ModulePlaces}
use Rattle.wasm_typing.specs.declared.spot.Spot.TheVariants as spot
use Rattle.wasm_typing.specs.declared.fault.Fault.{Fault}
use Rattle.wasm_typing.specs.declared.fault.ValidFault.{ValidFault}
use Rattle.wasm_typing.specs.Checking.{body_fault}
use Rattle.wasm_typing.specs.Modules.{func_context}
use Rattle.wasm_typing.specs.Items.{fault, import_fault, type_fault, table_fault, memory_fault, global_fault, export_fault, start_fault, element_fault, data_fault}
use Rattle.wasm_typing.specs.Untyped.{place_of, func_of}

-- the first fault of a body; where its type is not there, it has its fault before all bodies
abbrev pub code_fault : ModuleTree → List Func → Func → Option Fault
code_fault m before func =
    option_map (λ found. fault (spot.Op (length before) found.at) found.why)
    (option_and_then (λ type. body_fault (func_context m func type) (TypeIndex func.type_index) func.body) (slice_get m.types func.type_index))

abbrev pub first_fault : ModuleTree → Option Fault
first_fault m =
    option_or (first_in (import_fault m) [] m.imports) (option_or (first_in (type_fault m) [] m.funcs) (option_or (first_in (table_fault m) [] m.tables)
    (option_or (first_in (memory_fault m) [] m.memories) (option_or (first_in (global_fault m) [] m.globals) (option_or (first_in (export_fault m) [] m.exports)
    (option_or (start_fault m m.start) (option_or (first_in (element_fault m) [] m.element_segments) (option_or (first_in (code_fault m) [] m.funcs)
    (first_in (data_fault m) [] m.data_segments)))))))))

-- a fault, with the function and the place of its part
abbrev pub told : ModulePlaces → Fault → Option ValidFault
told places found = option_map (λ place. record { func = func_of found.spot; place = place; why = found.why }) (place_of places found.spot)

abbrev pub untyped : ModuleTree → ModulePlaces → Option ValidFault
untyped m places = option_and_then (told places) (first_fault m)
