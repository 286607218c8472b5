-- What is given for types of resources that are brought (Component Model, Explainer.md, "Type Definitions"), by references.
use Rattle.std.specs.Prelude.{◌≡◌, ℕ, Option, Some, None}
use Rattle.link_spec.specs.Definitions.{Exports, EmptyInstance}
use Rattle.link_values.specs.declared.refs.TypeRef.TheVariants as type_ref
use Rattle.link_types.specs.Table.{Table}
use Rattle.link_instances.specs.declared.references.InstanceRef.{InstanceRef}
use Rattle.link_instances.specs.declared.references.DefinitionRef.{DefinitionRef}
use Rattle.link_instances.specs.declared.references.DefinitionRef.TheVariants as definition_ref
use Rattle.link_instances.specs.References.{World, IsInstance}

-- the number of the resource whose type is given, 0 where none is
abbrev pub number_of : Option DefinitionRef → ℕ
number_of (Some (definition_ref.Type (type_ref.Resource number))) = number
number_of given = 0

-- the exports of the instance that is given, none where none is
abbrev pub AreExports : Table → World → Option InstanceRef → Exports → Type 0
AreExports t w None exports = exports ≡ EmptyInstance
AreExports t w (Some instance) exports = IsInstance t w instance exports
