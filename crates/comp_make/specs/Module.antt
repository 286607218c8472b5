-- Modules in bytes (Core 2.0, section 5.5.16): the preamble, and the sections in their order, each left out where it would
-- be empty. There are no custom sections and no data count, which no instruction of these modules needs.
use Rattle.std.specs.Prelude.{ℕ, List, [], ◌∷◌, ◌++◌, Option, Some, None}
use Rattle.syntax_trees.specs.declared.module.ModuleTree.{ModuleTree}
use Rattle.comp_make.specs.Numbers.{unsigned_bytes}
use Rattle.comp_make.specs.Lists.{section_bytes, items_section}
use Rattle.comp_make.specs.Types.{func_type_bytes, limits_bytes, table_bytes}
use Rattle.comp_make.specs.Items.{import_bytes, declared_bytes, global_bytes, export_bytes, element_segment_bytes, data_segment_bytes}
use Rattle.comp_make.specs.Code.{sized_code}

-- the preamble
abbrev pub preamble : List ℕ
preamble = 0x00 ∷ 0x61 ∷ 0x73 ∷ 0x6D ∷ 0x01 ∷ 0x00 ∷ 0x00 ∷ 0x00 ∷ []

-- types, imports, and functions as they are declared (sections 5.5.4 to 5.5.6)
unfoldable pub declarations : ModuleTree → List ℕ
declarations tree = items_section 1 func_type_bytes tree.types ++ items_section 2 import_bytes tree.imports ++ items_section 3 declared_bytes tree.funcs

-- tables, memories and globals (sections 5.5.7 to 5.5.9)
unfoldable pub definitions : ModuleTree → List ℕ
definitions tree = items_section 4 table_bytes tree.tables ++ items_section 5 limits_bytes tree.memories ++ items_section 6 global_bytes tree.globals

-- the index of the function that runs first (section 5.5.11)
abbrev pub start_section : Option ℕ → List ℕ
start_section None = []
start_section (Some index) = section_bytes 8 (unsigned_bytes index)

-- exports, the function that runs first, and segments of functions (sections 5.5.10 to 5.5.12)
unfoldable pub uses : ModuleTree → List ℕ
uses tree = items_section 7 export_bytes tree.exports ++ start_section tree.start ++ items_section 9 element_segment_bytes tree.element_segments

-- code, and segments of bytes (sections 5.5.13 and 5.5.14)
unfoldable pub contents : ModuleTree → List ℕ
contents tree = items_section 10 sized_code tree.funcs ++ items_section 11 data_segment_bytes tree.data_segments

-- the bytes of a module
abbrev pub module_bytes : ModuleTree → List ℕ
module_bytes tree = preamble ++ declarations tree ++ definitions tree ++ uses tree ++ contents tree
