-- A module of the parts that its sections are taken apart to.
use Rattle.wasm_typing.specs.declared.module_places.ModuleParts.{ModuleParts}
use Rattle.wasm_reader.specs.declared.whole.DeclaredParts.{DeclaredParts}
use Rattle.wasm_reader.specs.declared.whole.DefinedParts.{DefinedParts}
use Rattle.wasm_reader.specs.declared.whole.UsedParts.{UsedParts}
use Rattle.wasm_reader.specs.declared.whole.HeldParts.{HeldParts}

-- the module of these parts, each with its places
abbrev pub module_together : DeclaredParts → DefinedParts → UsedParts → HeldParts → ModuleParts
module_together declared defined used held = record {
  tree = record {
    types = declared.types;
    imports = declared.imports;
    funcs = held.funcs;
    tables = defined.tables;
    memories = defined.memories;
    globals = defined.globals;
    exports = used.exports;
    start = used.start;
    element_segments = used.element_segments;
    data_segments = held.data_segments;
  };
  places = record {
    imports = declared.import_places;
    funcs = held.func_places;
    tables = defined.table_places;
    memories = defined.memory_places;
    globals = defined.global_places;
    exports = used.export_places;
    start = used.start_place;
    element_segments = used.element_places;
    data_segments = held.data_places;
  };
}
