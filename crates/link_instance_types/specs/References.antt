-- What exports are, as references (Component Model, Explainer.md, "Type Definitions"): types and instances among them, and those of
-- a sort.
use Rattle.std.specs.Prelude.{Option, Some, None}
use Rattle.comp_tree.specs.declared.instances.Sort.{Sort}
use Rattle.comp_tree.specs.declared.instances.Sort.TheVariants as sorts
use Rattle.link_values.specs.declared.refs.InstanceTypeRef.{InstanceTypeRef}
use Rattle.link_values.specs.declared.refs.TypeRef.{TypeRef}
use Rattle.link_values.specs.declared.refs.ExternRef.{ExternRef}
use Rattle.link_values.specs.declared.refs.ExternRef.TheVariants as extern_ref

-- the type that an export is, and the type of the instance
abbrev pub type_ref_in : Option ExternRef → Option TypeRef
type_ref_in (Some (extern_ref.Type ref)) = Some ref
type_ref_in item = None

abbrev pub instance_ref_in : Option ExternRef → Option InstanceTypeRef
instance_ref_in (Some (extern_ref.Instance ref)) = Some ref
instance_ref_in item = None

-- an export of a sort
abbrev pub ref_of_sort : Sort → ExternRef → Option ExternRef
ref_of_sort sorts.Func (extern_ref.Func ref) = Some (extern_ref.Func ref)
ref_of_sort sorts.Type (extern_ref.Type ref) = Some (extern_ref.Type ref)
ref_of_sort sorts.Instance (extern_ref.Instance ref) = Some (extern_ref.Instance ref)
ref_of_sort sort item = None
