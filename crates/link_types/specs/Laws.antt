-- What holds of tables of types (Component Model, Explainer.md, "Type Definitions").
use Rattle.std.specs.Prelude.{◌≡◌, ◌<◌, ℕ, List, length}
use Rattle.syntax_trees.specs.declared.types.ValType.{ValType}
use Rattle.syntax_trees.specs.declared.types.FuncType.{FuncType}
use Rattle.comp_graph.specs.Closed.{Closed, Extern, Externs}
use Rattle.link_values.specs.declared.layers.TypeLayer.{TypeLayer}
use Rattle.link_values.specs.declared.layers.Layer.{Layer}
use Rattle.link_values.specs.declared.refs.FuncTypeRef.{FuncTypeRef}
use Rattle.link_values.specs.declared.refs.InstanceTypeRef.{InstanceTypeRef}
use Rattle.link_values.specs.declared.refs.TypeRef.{TypeRef}
use Rattle.link_values.specs.declared.refs.ExternRef.{ExternRef}
use Rattle.link_types.specs.Layered.{IsTypeLayer}
use Rattle.link_types.specs.Table.{Table, AreDistinct, IsFunc, IsType, IsExtern, IsInstanceType, Grows}

-- Where no text, no value type and no layer stands twice, two layers that stand for one type are one, and a layer stands for one type.
abbrev pub OneLayer : Type 0
OneLayer =
    (texts : List (List ℕ)) (values : List ValType) (layers : List Layer) → AreDistinct texts values layers →
    (x y : TypeLayer) (type : Closed) → IsTypeLayer texts values layers x type → IsTypeLayer texts values layers y type → x ≡ y

abbrev pub OneType : Type 0
OneType =
    (texts : List (List ℕ)) (values : List ValType) (layers : List Layer) →
    (x : TypeLayer) (type other : Closed) → IsTypeLayer texts values layers x type → IsTypeLayer texts values layers x other → type ≡ other

-- What a reference stands for it stands for also once the table has grown.
abbrev pub FuncsStay : Type 0
FuncsStay = (t u : Table) → Grows t u → (ref : FuncTypeRef) (type : FuncType) → IsFunc t ref type → IsFunc u ref type

abbrev pub TypesStay : Type 0
TypesStay = (t u : Table) → Grows t u → (ref : TypeRef) (type : Closed) → IsType t ref type → IsType u ref type

abbrev pub ExternsStay : Type 0
ExternsStay = (t u : Table) → Grows t u → (ref : ExternRef) (extern : Extern) → IsExtern t ref extern → IsExtern u ref extern

abbrev pub InstanceTypesStay : Type 0
InstanceTypesStay = (t u : Table) → Grows t u → (ref : InstanceTypeRef) (externs : Externs) → IsInstanceType t ref externs → IsInstanceType u ref externs

-- A reference has its number in the table.
abbrev pub FuncsStand : Type 0
FuncsStand = (t : Table) (ref : FuncTypeRef) (type : FuncType) → IsFunc t ref type → ref.number < length t.funcs

abbrev pub InstanceTypesStand : Type 0
InstanceTypesStand = (t : Table) (ref : InstanceTypeRef) (externs : Externs) → IsInstanceType t ref externs → ref.number < length t.instances
