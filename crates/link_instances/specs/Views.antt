-- Instances that are seen as an instance type (Component Model, Explainer.md, "Import and Export Definitions"): what stands under
-- a name in them, and what is asked for of them, export by export.
use Rattle.std.specs.Prelude.{ℕ, Bool, false, List, Option}
use Rattle.std.specs.Option.{option_map, option_and_then, option_map_or}
use Rattle.comp_graph.specs.Closed.{Extern}
use Rattle.link_spec.specs.Definitions.{Definition, Exports, export_named, lacks, seen_as}
use Rattle.link_spec.specs.Tests.{fits}

-- what stands under a name, where the type asks for something under it: the definition, as it is asked for
abbrev pub seen_under : Option Definition → Option Extern → Option Definition
seen_under found asked = option_and_then (λ extern. option_map (λ d. seen_as d extern) found) asked

-- the name that an instance lacks of one export that is asked for, and whether it has what is asked for
abbrev pub extern_lacks : Exports → List ℕ × Extern → Option (List ℕ)
extern_lacks given e = lacks (export_named e.0 given) e.0 e.1

abbrev pub extern_fits : Exports → List ℕ × Extern → Bool
extern_fits given e = option_map_or (λ d. fits d e.1) (export_named e.0 given) false
