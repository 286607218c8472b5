-- What stands in a table stands there also once it has grown.
use Rattle.std.proofs.Common.{◌≡◌, ℕ, List, [], ◌∷◌, ◌++◌, Some, None, Option, inl, inr}
use Rattle.std.specs.List.{slice_get}
use Rattle.syntax_trees.specs.declared.types.ValType.{ValType}
use Rattle.syntax_trees.specs.declared.types.Param.{Param}
use Rattle.syntax_trees.specs.declared.types.FuncType.{FuncType}
use Rattle.comp_graph.specs.Closed.{Closed, Value, Func, Resource, Instance, Extern, OfFunc, OfType, OfInstance, Externs, EmptyType, WithExtern}
use Rattle.link_values.specs.declared.layers.TypeLayer.{TypeLayer}
use Rattle.link_values.specs.declared.layers.TypeLayer.TheVariants as of_type
use Rattle.link_values.specs.declared.layers.ExternLayer.{ExternLayer}
use Rattle.link_values.specs.declared.layers.ExternLayer.TheVariants as of_extern
use Rattle.link_values.specs.declared.layers.Layer.{Layer}
use Rattle.link_values.specs.declared.layers.Layer.TheVariants as layer
use Rattle.link_values.specs.declared.refs.FuncTypeRef.{FuncTypeRef}
use Rattle.link_values.specs.declared.refs.InstanceTypeRef.{InstanceTypeRef}
use Rattle.link_values.specs.declared.refs.TypeRef.{TypeRef}
use Rattle.link_values.specs.declared.refs.TypeRef.TheVariants as type_ref
use Rattle.link_values.specs.declared.refs.ExternRef.{ExternRef}
use Rattle.link_values.specs.declared.refs.ExternRef.TheVariants as extern_ref
use Rattle.link_types.specs.Layered.{MayBeValue, IsParams, IsFuncLayer, IsExternsLayer, IsExternLayer, IsTypeLayer}
use Rattle.link_types.specs.Numbering.{IsAdded}
use Rattle.link_types.specs.Table.{Table, IsName, IsFunc, IsType, IsExtern, IsInstanceType, AreListed, Grows}
use Rattle.link_values.proofs.Numbered.{stays_at}

pub grows_refl : (t : Table) → Grows t t
grows_refl t = record { texts = λ k x h. h; values = λ k x h. h; layers = λ k x h. h; funcs = λ k x h. h; instances = λ k x h. h }

pub grows_trans : (t u v : Table) → Grows t u → Grows u v → Grows t v
grows_trans t u v g h = record {
  texts = λ k x e. h.texts k x (g.texts k x e);
  values = λ k x e. h.values k x (g.values k x e);
  layers = λ k x e. h.layers k x (g.layers k x e);
  funcs = λ k x e. h.funcs k x (g.funcs k x e);
  instances = λ k x e. h.instances k x (g.instances k x e);
}

module _ (t u : Table) (g : Grows t u) where
  pub name_stays : (number : ℕ) (text : List ℕ) → IsName t number text → IsName u number text
  name_stays number text h = g.texts number text h

  pub may_be_stays : (number : Option ℕ) (type : Option ValType) → MayBeValue t.values number type → MayBeValue u.values number type
  may_be_stays None None h = tt
  may_be_stays (Some number) (Some type) h = g.values number type h
  may_be_stays number type h = absurd h

  pub params_stay : (number : ℕ) (params : List Param) → IsParams t.texts t.values t.layers number params → IsParams u.texts u.values u.layers number params
  params_stay number [] h = g.layers number layer.NoParams h
  params_stay number (p ∷ params) h =
      (h.0, h.1, h.2, g.layers number (layer.Param h.0 h.1 h.2) h.3, g.texts h.0 p.label h.4, g.values h.1 p.val_type h.5, params_stay h.2 params h.6)

  pub func_layer_stays : (number : ℕ) (type : FuncType) → IsFuncLayer t.texts t.values t.layers number type → IsFuncLayer u.texts u.values u.layers number type
  func_layer_stays number type h = (h.0, h.1, g.layers number (layer.Func h.0 h.1) h.2, params_stay h.0 type.params h.3, may_be_stays h.1 type.result h.4)

  mutual
    pub externs_layer_stays : (number : ℕ) (externs : Externs) → IsExternsLayer t.texts t.values t.layers number externs → IsExternsLayer u.texts u.values u.layers number externs
    externs_layer_stays number EmptyType h = g.layers number layer.NoExterns h
    externs_layer_stays number (WithExtern others name extern) h =
        (h.0, h.1, h.2, g.layers number (layer.Extern h.0 h.1 h.2) h.3, externs_layer_stays h.0 others h.4, g.texts h.1 name h.5, extern_layer_stays h.2 extern h.6)

    pub extern_layer_stays : (x : ExternLayer) (extern : Extern) → IsExternLayer t.texts t.values t.layers x extern → IsExternLayer u.texts u.values u.layers x extern
    extern_layer_stays (of_extern.Func n) (OfFunc type) h = func_layer_stays n type h
    extern_layer_stays (of_extern.Type x) (OfType closed) h = type_layer_stays x closed h
    extern_layer_stays (of_extern.Instance n) (OfInstance externs) h = externs_layer_stays n externs h
    extern_layer_stays x extern h = absurd h

    pub type_layer_stays : (x : TypeLayer) (closed : Closed) → IsTypeLayer t.texts t.values t.layers x closed → IsTypeLayer u.texts u.values u.layers x closed
    type_layer_stays (of_type.Value x) (Value v) h = g.values x v h
    type_layer_stays (of_type.Func n) (Func type) h = func_layer_stays n type h
    type_layer_stays (of_type.Resource n) (Resource number) h = h
    type_layer_stays (of_type.Instance n) (Instance externs) h = externs_layer_stays n externs h
    type_layer_stays x closed h = absurd h

  pub func_stays : (ref : FuncTypeRef) (type : FuncType) → IsFunc t ref type → IsFunc u ref type
  func_stays ref type h = (func_layer_stays ref.layer type h.0, g.funcs ref.number type h.1)

  mutual
    pub listed_stays : (entries : List (ℕ × ExternRef)) (externs : Externs) → AreListed t entries externs → AreListed u entries externs
    listed_stays entries EmptyType h = h
    listed_stays entries (WithExtern others name extern) h =
        (h.0, h.1, h.2, h.3, listed_stays h.0 others h.4, g.texts h.1 name h.5, extern_stays h.2 extern h.6)

    pub extern_stays : (ref : ExternRef) (extern : Extern) → IsExtern t ref extern → IsExtern u ref extern
    extern_stays (extern_ref.Func ref) (OfFunc type) h = func_stays ref type h
    extern_stays (extern_ref.Type ref) (OfType closed) h = type_stays ref closed h
    extern_stays (extern_ref.Instance ref) (OfInstance externs) h =
        (externs_layer_stays ref.layer externs h.0, (h.1.0, g.instances ref.number h.1.0 h.1.1, listed_stays h.1.0 externs h.1.2), h.2)
    extern_stays ref extern h = absurd h

    pub type_stays : (ref : TypeRef) (closed : Closed) → IsType t ref closed → IsType u ref closed
    type_stays (type_ref.Value x) (Value v) h = g.values x v h
    type_stays (type_ref.Func ref) (Func type) h = func_stays ref type h
    type_stays (type_ref.Resource n) (Resource number) h = h
    type_stays (type_ref.Instance ref) (Instance externs) h =
        (externs_layer_stays ref.layer externs h.0, (h.1.0, g.instances ref.number h.1.0 h.1.1, listed_stays h.1.0 externs h.1.2), h.2)
    type_stays ref closed h = absurd h

  pub instance_type_stays : (ref : InstanceTypeRef) (externs : Externs) → IsInstanceType t ref externs → IsInstanceType u ref externs
  instance_type_stays ref externs h = (externs_layer_stays ref.layer externs h.0, (h.1.0, g.instances ref.number h.1.0 h.1.1, listed_stays h.1.0 externs h.1.2), h.2)

-- A list that has perhaps one more.
added_stays : {A : Type 0} (old new : List A) (thing : A) (number : ℕ) → IsAdded old thing number new → (k : ℕ) (x : A) → slice_get old k ≡ Some x → slice_get new k ≡ Some x
added_stays old new thing number added k x h =
    elim added.1 [
      | inl same ↦ rw same h
      | inr more ↦ rw more (stays_at old (thing ∷ []) k x h)
    ]

pub texts_grow : (t : Table) (texts : List (List ℕ)) (text : List ℕ) (number : ℕ) → IsAdded t.texts text number texts → Grows t (record t { texts = texts })
texts_grow t texts text number added = record { texts = added_stays t.texts texts text number added; values = λ k x h. h; layers = λ k x h. h; funcs = λ k x h. h; instances = λ k x h. h }

pub values_grow : (t : Table) (values : List ValType) (type : ValType) (number : ℕ) → IsAdded t.values type number values → Grows t (record t { values = values })
values_grow t values type number added = record { texts = λ k x h. h; values = added_stays t.values values type number added; layers = λ k x h. h; funcs = λ k x h. h; instances = λ k x h. h }

pub layers_grow : (t : Table) (layers : List Layer) (one : Layer) (number : ℕ) → IsAdded t.layers one number layers → Grows t (record t { layers = layers })
layers_grow t layers one number added = record { texts = λ k x h. h; values = λ k x h. h; layers = added_stays t.layers layers one number added; funcs = λ k x h. h; instances = λ k x h. h }

pub funcs_grow : (t : Table) (funcs : List FuncType) (type : FuncType) → funcs ≡ t.funcs ++ type ∷ [] → Grows t (record t { funcs = funcs })
funcs_grow t funcs type more = record { texts = λ k x h. h; values = λ k x h. h; layers = λ k x h. h; funcs = λ k x h. rw more (stays_at t.funcs (type ∷ []) k x h); instances = λ k x h. h }
