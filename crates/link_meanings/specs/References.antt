-- What references are (Component Model, Explainer.md, "Type Definitions"): values and resources among types, and what is imported or
-- exported of a type.
use Rattle.std.specs.Prelude.{ℕ, Option, Some, None}
use Rattle.comp_tree.specs.declared.externs.ExternDesc.{ExternDesc}
use Rattle.comp_tree.specs.declared.externs.ExternDesc.TheVariants as desc
use Rattle.link_values.specs.declared.refs.TypeRef.{TypeRef}
use Rattle.link_values.specs.declared.refs.TypeRef.TheVariants as type_ref
use Rattle.link_values.specs.declared.refs.ExternRef.{ExternRef}
use Rattle.link_values.specs.declared.refs.ExternRef.TheVariants as extern_ref

-- the number of the value type, if it is one
abbrev pub value_ref : TypeRef → Option ℕ
value_ref (type_ref.Value number) = Some number
value_ref ref = None

-- the number of the resource, if it is a type of resources
abbrev pub resource_ref : TypeRef → Option ℕ
resource_ref (type_ref.Resource number) = Some number
resource_ref ref = None

-- what an import or an export is to be, where its type is this one
abbrev pub described_ref : ExternDesc → TypeRef → Option ExternRef
described_ref (desc.Func index) (type_ref.Func ref) = Some (extern_ref.Func ref)
described_ref (desc.TypeEq index) ref = Some (extern_ref.Type ref)
described_ref (desc.Instance index) (type_ref.Instance ref) = Some (extern_ref.Instance ref)
described_ref asked ref = None
