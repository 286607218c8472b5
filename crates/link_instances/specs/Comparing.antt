-- A definition beside what is asked for (Component Model, Explainer.md, "Instance Definitions").
use Rattle.std.specs.Prelude.{◌≡◌, ℕ, List, None, Some}
use Rattle.comp_graph.specs.Closed.{Extern, OfInstance, Externs}
use Rattle.link_spec.specs.Definitions.{Definition, AnInstance, Exports, lacks}
use Rattle.link_spec.specs.Tests.{fits}
use Rattle.link_values.specs.declared.refs.ExternRef.{ExternRef}
use Rattle.link_values.specs.declared.refs.ExternRef.TheVariants.{Instance}
use Rattle.link_instances.specs.declared.comparing.Comparison.{Comparison}
use Rattle.link_instances.specs.declared.comparing.Comparison.TheVariants.{Agrees, Inside}
use Rattle.link_types.specs.Table.{Table}
use Rattle.link_types.specs.Table.{IsInstanceType}
use Rattle.link_instances.specs.References.{World, IsInstance}

-- A definition is compared with what is asked for: all but an instance with an instance type at once.
abbrev pub IsCompared : Table → World → Definition → Extern → Comparison → Type 0
IsCompared t w d x (Agrees b) = ((name : List ℕ) → lacks (Some d) name x ≡ None) × (fits d x ≡ b)
IsCompared t w d x (Inside instance type) =
    (given : Exports) × (asked : Externs) × (d ≡ AnInstance given) × (x ≡ OfInstance asked) × IsInstance t w instance given × IsInstanceType t type asked

-- A pair inside is of the type that is asked for.
abbrev pub AsksInside : ExternRef → Comparison → Type 0
AsksInside asked (Agrees b) = Unit {0}
AsksInside asked (Inside instance type) = asked ≡ Instance type
