-- Components in bytes (Component Model, the component binary format): the preamble, and a section for each item, in order. A core module stands in a
-- section with the id 1.
use Rattle.std.specs.Prelude.{ℕ, List, [], ◌∷◌, ◌++◌}
use Rattle.std.specs.List.{flat_map}
use Rattle.comp_make.specs.declared.build.BuildItem.{BuildItem}
use Rattle.comp_make.specs.declared.build.BuildItem.TheVariants.{Module, Section}
use Rattle.comp_make.specs.Lists.{section_bytes}
use Rattle.comp_make.specs.Module.{module_bytes}

-- the preamble
abbrev pub component_preamble : List ℕ
component_preamble = 0x00 ∷ 0x61 ∷ 0x73 ∷ 0x6D ∷ 0x0D ∷ 0x00 ∷ 0x01 ∷ 0x00 ∷ []

-- an item: a core module as a tree, or any section, by its id and what stands in it
abbrev pub item_bytes : BuildItem → List ℕ
item_bytes (Module tree) = section_bytes 1 (module_bytes tree)
item_bytes (Section id contents) = section_bytes id contents

-- the bytes of a component
abbrev pub component_bytes : List BuildItem → List ℕ
component_bytes items = component_preamble ++ flat_map item_bytes items
