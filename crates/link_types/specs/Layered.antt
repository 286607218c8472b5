-- What numbers of layers stand for (Component Model, Explainer.md, "Type Definitions"): the closed types of comp_graph, layer
-- by layer. A layer stands on others by their numbers, names are told by their numbers among the texts, and types of values by
-- their numbers among the value types.
use Rattle.std.specs.Prelude.{◌≡◌, ℕ, List, [], ◌∷◌, Option, Some}
use Rattle.std.specs.List.{slice_get}
use Rattle.syntax_trees.specs.declared.types.ValType.{ValType}
use Rattle.syntax_trees.specs.declared.types.Param.{Param}
use Rattle.syntax_trees.specs.declared.types.FuncType.{FuncType}
use Rattle.comp_graph.specs.Passed.{MayBeAt}
use Rattle.comp_graph.specs.Closed.{Closed, Value, Func, Resource, Instance, Extern, OfFunc, OfType, OfInstance, Externs, EmptyType, WithExtern}
use Rattle.link_values.specs.declared.layers.TypeLayer.{TypeLayer}
use Rattle.link_values.specs.declared.layers.TypeLayer.TheVariants as of_type
use Rattle.link_values.specs.declared.layers.ExternLayer.{ExternLayer}
use Rattle.link_values.specs.declared.layers.ExternLayer.TheVariants as of_extern
use Rattle.link_values.specs.declared.layers.Layer.{Layer}
use Rattle.link_values.specs.declared.layers.Layer.TheVariants as layer

-- The number of a value type that may be absent: it is there exactly where the type is.
abbrev pub MayBeValue : List ValType → Option ℕ → Option ValType → Type 0
MayBeValue values number type = MayBeAt values number type

module _ (texts : List (List ℕ)) (values : List ValType) (layers : List Layer) where
  -- The layer of this number stands for these parameters: none, or one before others.
  abbrev pub IsParams : ℕ → List Param → Type 0
  IsParams number [] = slice_get layers number ≡ Some layer.NoParams
  IsParams number (param ∷ params) =
      (label : ℕ) × (type : ℕ) × (others : ℕ) × (slice_get layers number ≡ Some (layer.Param label type others))
      × (slice_get texts label ≡ Some param.label) × (slice_get values type ≡ Some param.val_type) × IsParams others params

  -- It stands for this function type.
  abbrev pub IsFuncLayer : ℕ → FuncType → Type 0
  IsFuncLayer number type =
      (params : ℕ) × (returned : Option ℕ) × (slice_get layers number ≡ Some (layer.Func params returned))
      × IsParams params type.params × MayBeValue values returned type.result

  -- It stands for these exports of a type of instances: none, or one behind others.
  abbrev mutual
    pub IsExternsLayer : ℕ → Externs → Type 0
    IsExternsLayer number EmptyType = slice_get layers number ≡ Some layer.NoExterns
    IsExternsLayer number (WithExtern others name extern) =
        (before : ℕ) × (label : ℕ) × (item : ExternLayer) × (slice_get layers number ≡ Some (layer.Extern before label item))
        × IsExternsLayer before others × (slice_get texts label ≡ Some name) × IsExternLayer item extern

    pub IsExternLayer : ExternLayer → Extern → Type 0
    IsExternLayer (of_extern.Func number) (OfFunc type) = IsFuncLayer number type
    IsExternLayer (of_extern.Type type) (OfType closed) = IsTypeLayer type closed
    IsExternLayer (of_extern.Instance number) (OfInstance externs) = IsExternsLayer number externs
    IsExternLayer item extern = ⊥

    pub IsTypeLayer : TypeLayer → Closed → Type 0
    IsTypeLayer (of_type.Value number) (Value type) = slice_get values number ≡ Some type
    IsTypeLayer (of_type.Func number) (Func type) = IsFuncLayer number type
    IsTypeLayer (of_type.Resource number) (Resource other) = number ≡ other
    IsTypeLayer (of_type.Instance number) (Instance externs) = IsExternsLayer number externs
    IsTypeLayer type closed = ⊥
