-- What holds of instances that are seen as a type (Component Model, Explainer.md, "Import and Export Definitions"), in one step or in
-- two.
use Rattle.std.specs.Prelude.{◌≡◌, ℕ, List, None}
use Rattle.std.specs.List.{list_all}
use Rattle.comp_graph.specs.Closed.{Extern, Externs, extern_named}
use Rattle.link_spec.specs.Definitions.{Definition, Exports, export_named, Fits, FitAll, first_lacking, seen_as, seen_exports}
use Rattle.link_spec.specs.Items.{first_told}
use Rattle.link_spec.specs.Tests.{fit_all}
use Rattle.link_types.specs.Table.{in_order}
use Rattle.link_instances.specs.Views.{seen_under, extern_lacks, extern_fits}

-- An instance that is seen as a type that it is of has under a name what it has there, as the type asks for it.
abbrev pub SeenNamed : Type 0
SeenNamed =
    (q : List ℕ) (given : Exports) (asked : Externs) → FitAll given asked
    → export_named q (seen_exports given asked) ≡ seen_under (export_named q given) (extern_named q asked)

-- What is seen as a type, and that as another, is seen as the other. So it is of the other.
abbrev pub ExportsSeenTwice : Type 0
ExportsSeenTwice =
    (given : Exports) (a b : Externs) → FitAll given a → FitAll (seen_exports given a) b
    → seen_exports (seen_exports given a) b ≡ seen_exports given b

abbrev pub SeenTwice : Type 0
SeenTwice = (d : Definition) (a b : Extern) → Fits d a → Fits (seen_as d a) b → seen_as (seen_as d a) b ≡ seen_as d b

abbrev pub SeenExportsFit : Type 0
SeenExportsFit = (given : Exports) (a b : Externs) → FitAll given a → FitAll (seen_exports given a) b → FitAll given b

abbrev pub SeenFits : Type 0
SeenFits = (d : Definition) (a b : Extern) → Fits d a → Fits (seen_as d a) b → Fits d b

-- What an instance lacks of a type, and whether it is of it, export by export.
abbrev pub LackingListed : Type 0
LackingListed = (given : Exports) (asked : Externs) → first_lacking given asked ≡ first_told (extern_lacks given) (in_order asked)

abbrev pub FitListed : Type 0
FitListed = (given : Exports) (asked : Externs) → fit_all given asked ≡ list_all (extern_fits given) (in_order asked)

-- An instance of a type lacks nothing of it.
abbrev pub FitsLacksNone : Type 0
FitsLacksNone = (given : Exports) (asked : Externs) → FitAll given asked → first_lacking given asked ≡ None
