-- The outer layers of the types (Component Model, Explainer.md, "Type Definitions") that references stand for.
use Rattle.link_values.specs.declared.layers.TypeLayer.{TypeLayer}
use Rattle.link_values.specs.declared.layers.TypeLayer.TheVariants as of_type
use Rattle.link_values.specs.declared.layers.ExternLayer.{ExternLayer}
use Rattle.link_values.specs.declared.layers.ExternLayer.TheVariants as of_extern
use Rattle.link_values.specs.declared.refs.TypeRef.{TypeRef}
use Rattle.link_values.specs.declared.refs.TypeRef.TheVariants as type_ref
use Rattle.link_values.specs.declared.refs.ExternRef.{ExternRef}
use Rattle.link_values.specs.declared.refs.ExternRef.TheVariants as extern_ref

abbrev pub type_layer : TypeRef → TypeLayer
type_layer (type_ref.Value type) = of_type.Value type
type_layer (type_ref.Func ref) = of_type.Func ref.layer
type_layer (type_ref.Resource number) = of_type.Resource number
type_layer (type_ref.Instance ref) = of_type.Instance ref.layer

abbrev pub extern_layer : ExternRef → ExternLayer
extern_layer (extern_ref.Func ref) = of_extern.Func ref.layer
extern_layer (extern_ref.Type ref) = of_extern.Type (type_layer ref)
extern_layer (extern_ref.Instance ref) = of_extern.Instance ref.layer
