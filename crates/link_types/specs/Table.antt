-- Tables of types, and what a reference into one stands for: a closed type (Component Model, Explainer.md,
-- "Type Definitions"), by the number of its outer layer, and by the number of the function type, or of the listing of exports, of which
-- it is known whether they name a resource. A type of resources stands for itself, by its number.
use Rattle.std.specs.Prelude.{◌≡◌, ℕ, List, [], ◌∷◌, ◌++◌, Option, Some, None}
use Rattle.std.specs.List.{slice_get}
use Rattle.syntax_trees.specs.declared.types.ValType.{ValType}
use Rattle.syntax_trees.specs.declared.types.FuncType.{FuncType}
use Rattle.comp_graph.specs.Closed.{Closed, Value, Func, Resource, Instance, Extern, OfFunc, OfType, OfInstance, Externs, EmptyType, WithExtern, names_in_externs}
use Rattle.link_values.specs.declared.layers.Layer.{Layer}
use Rattle.link_values.specs.declared.refs.FuncTypeRef.{FuncTypeRef}
use Rattle.link_values.specs.declared.refs.InstanceTypeRef.{InstanceTypeRef}
use Rattle.link_values.specs.declared.refs.TypeRef.{TypeRef}
use Rattle.link_values.specs.declared.refs.TypeRef.TheVariants as type_ref
use Rattle.link_values.specs.declared.refs.ExternRef.{ExternRef}
use Rattle.link_values.specs.declared.refs.ExternRef.TheVariants as extern_ref
use Rattle.link_types.specs.Numbering.{AreApart}
use Rattle.link_types.specs.Layered.{IsFuncLayer, IsExternsLayer}

-- the texts of names, the types of values, the layers, the function types, and the exports of types of instances, each behind the
-- number of its name
pub record Table : Type 0 where
  pub texts : List (List ℕ)
  pub values : List ValType
  pub layers : List Layer
  pub funcs : List FuncType
  pub instances : List (List (ℕ × ExternRef))

abbrev pub no_types : Table
no_types = record { texts = []; values = []; layers = []; funcs = []; instances = [] }

-- No text, no value type and no layer stands twice.
pub record AreDistinct (texts : List (List ℕ)) (types : List ValType) (layers : List Layer) : Type 0 where
  pub names : AreApart texts
  pub values : AreApart types
  pub parts : AreApart layers

-- A name's number stands for its text.
abbrev pub IsName : Table → ℕ → List ℕ → Type 0
IsName t number text = slice_get t.texts number ≡ Some text

-- A number stands for this value type.
abbrev pub IsValue : Table → ℕ → ValType → Type 0
IsValue t number type = slice_get t.values number ≡ Some type

-- A reference stands for this function type.
abbrev pub IsFunc : Table → FuncTypeRef → FuncType → Type 0
IsFunc t ref type = IsFuncLayer t.texts t.values t.layers ref.layer type × (slice_get t.funcs ref.number ≡ Some type)

-- References under numbers of names stand for these exports.
abbrev mutual
  pub AreListed : Table → List (ℕ × ExternRef) → Externs → Type 0
  AreListed t entries EmptyType = entries ≡ []
  AreListed t entries (WithExtern others name extern) =
      (before : List (ℕ × ExternRef)) × (label : ℕ) × (ref : ExternRef) × (entries ≡ before ++ (label, ref) ∷ [])
      × AreListed t before others × IsName t label name × IsExtern t ref extern

  -- A reference stands for this export, or for this closed type.
  pub IsExtern : Table → ExternRef → Extern → Type 0
  IsExtern t (extern_ref.Func ref) (OfFunc type) = IsFunc t ref type
  IsExtern t (extern_ref.Type ref) (OfType closed) = IsType t ref closed
  IsExtern t (extern_ref.Instance ref) (OfInstance externs) =
      IsExternsLayer t.texts t.values t.layers ref.layer externs × ((entries : List (ℕ × ExternRef)) × (slice_get t.instances ref.number ≡ Some entries) × AreListed t entries externs)
      × (ref.names_resource ≡ names_in_externs externs)
  IsExtern t ref extern = ⊥

  pub IsType : Table → TypeRef → Closed → Type 0
  IsType t (type_ref.Value number) (Value type) = IsValue t number type
  IsType t (type_ref.Func ref) (Func type) = IsFunc t ref type
  IsType t (type_ref.Resource number) (Resource other) = number ≡ other
  IsType t (type_ref.Instance ref) (Instance externs) =
      IsExternsLayer t.texts t.values t.layers ref.layer externs × ((entries : List (ℕ × ExternRef)) × (slice_get t.instances ref.number ≡ Some entries) × AreListed t entries externs)
      × (ref.names_resource ≡ names_in_externs externs)
  IsType t ref closed = ⊥

-- A reference stands for the type of instances with these exports.
abbrev pub IsInstanceType : Table → InstanceTypeRef → Externs → Type 0
IsInstanceType t ref externs =
    IsExternsLayer t.texts t.values t.layers ref.layer externs × ((entries : List (ℕ × ExternRef)) × (slice_get t.instances ref.number ≡ Some entries) × AreListed t entries externs)
    × (ref.names_resource ≡ names_in_externs externs)

-- What may be absent, and is there exactly where the export is.
abbrev pub MayBeExtern : Table → Option ExternRef → Option Extern → Type 0
MayBeExtern t None None = Unit {0}
MayBeExtern t (Some ref) (Some extern) = IsExtern t ref extern
MayBeExtern t ref extern = ⊥

abbrev pub MayBeEntry : Table → Option (ℕ × ExternRef) → Option (List ℕ × Extern) → Type 0
MayBeEntry t None None = Unit {0}
MayBeEntry t (Some entry) (Some extern) = IsName t entry.0 extern.0 × IsExtern t entry.1 extern.1
MayBeEntry t entry extern = ⊥

-- exports in order, with their names
abbrev pub in_order : Externs → List (List ℕ × Extern)
in_order EmptyType = []
in_order (WithExtern others name extern) = in_order others ++ (name, extern) ∷ []

-- What stands somewhere stands there also in the table that has grown.
pub record Grows (old new : Table) : Type 0 where
  pub texts : (k : ℕ) (text : List ℕ) → slice_get old.texts k ≡ Some text → slice_get new.texts k ≡ Some text
  pub values : (k : ℕ) (type : ValType) → slice_get old.values k ≡ Some type → slice_get new.values k ≡ Some type
  pub layers : (k : ℕ) (layer : Layer) → slice_get old.layers k ≡ Some layer → slice_get new.layers k ≡ Some layer
  pub funcs : (k : ℕ) (type : FuncType) → slice_get old.funcs k ≡ Some type → slice_get new.funcs k ≡ Some type
  pub instances : (k : ℕ) (entries : List (ℕ × ExternRef)) → slice_get old.instances k ≡ Some entries → slice_get new.instances k ≡ Some entries
