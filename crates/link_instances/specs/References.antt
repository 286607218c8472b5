-- Instances by number (Component Model, Explainer.md, "Index Spaces"): what stands behind the numbers, and which definition a
-- reference stands for. An instance is a base, whose exports stand in a table, as it is or as a type sees it that it is of.
use Rattle.std.specs.Prelude.{◌≡◌, ℕ, List, [], ◌∷◌, ◌++◌, length, Option, Some, None}
use Rattle.std.specs.List.{slice_get, AllZip}
use Rattle.std.specs.Option.{option_and_then, option_map_or}
use Rattle.syntax_trees.specs.declared.module.ModuleTree.{ModuleTree}
use Rattle.comp_graph.specs.Closed.{Externs}
use Rattle.link_spec.specs.Definitions.{Lifted, Closure, Definition, AFunc, AType, AComponent, AnInstance, AModule, Exports, EmptyInstance, WithExport, FitAll, seen_exports}
use Rattle.link_values.specs.declared.refs.InstanceTypeRef.{InstanceTypeRef}
use Rattle.link_values.specs.declared.refs.TypeRef.{TypeRef}
use Rattle.link_values.specs.declared.refs.ExternRef.{ExternRef}
use Rattle.link_values.specs.declared.refs.ExternRef.TheVariants as extern_ref
use Rattle.link_instances.specs.declared.references.LiftedRef.{LiftedRef}
use Rattle.link_instances.specs.declared.references.InstanceRef.{InstanceRef}
use Rattle.link_instances.specs.declared.references.DefinitionRef.{DefinitionRef}
use Rattle.link_instances.specs.declared.references.DefinitionRef.TheVariants as definition_ref
use Rattle.link_values.specs.Listed.{item_named}
use Rattle.link_types.specs.Table.{Table}
use Rattle.link_types.specs.Table.{IsFunc, IsInstanceType, IsType}

-- what stands behind numbers: components, the exports of instances, and core modules
pub record World : Type 0 where
  pub components : List Closure
  pub bases : List Exports
  pub modules : List ModuleTree

-- a base as it is, or as a type sees it that it is of
abbrev pub IsSeen : Table → Exports → Option InstanceTypeRef → Exports → Type 0
IsSeen t base None exports = exports ≡ base
IsSeen t base (Some type) exports =
    (asked : Externs) × IsInstanceType t type asked × FitAll base asked × (exports ≡ seen_exports base asked)

pub record IsInstance (t : Table) (w : World) (instance : InstanceRef) (exports : Exports) : Type 0 where
  pub base : Exports
  pub stands : slice_get w.bases instance.base ≡ Some base
  pub seen : IsSeen t base instance.seen_as exports

pub record IsLifted (t : Table) (ref : LiftedRef) (f : Lifted) : Type 0 where
  pub instance : f.instance ≡ ref.instance
  pub core : f.core ≡ ref.core
  pub options : f.options ≡ ref.options
  pub func_type : IsFunc t ref.func_type f.func_type

-- a reference stands for a definition
abbrev pub Stands : Table → World → DefinitionRef → Definition → Type 0
Stands t w (definition_ref.Func ref) (AFunc f) = IsLifted t ref f
Stands t w (definition_ref.Type ref) (AType type) = IsType t ref type
Stands t w (definition_ref.Component number) (AComponent c) = slice_get w.components number ≡ Some c
Stands t w (definition_ref.Instance instance) (AnInstance exports) = IsInstance t w instance exports
Stands t w (definition_ref.Module number) (AModule m) = slice_get w.modules number ≡ Some m
Stands t w ref d = ⊥

-- the exports, in order
abbrev pub listed : Exports → List (List ℕ × Definition)
listed EmptyInstance = []
listed (WithExport others name d) = listed others ++ (name, d) ∷ []

abbrev pub IsEntry : Table → World → ℕ × DefinitionRef → List ℕ × Definition → Type 0
IsEntry t w entry e = (slice_get t.texts entry.0 ≡ Some e.0) × Stands t w entry.1 e.1

-- entries, each of the number of a name and of a reference, stand for exports
abbrev pub IsListing : Table → World → List (ℕ × DefinitionRef) → Exports → Type 0
IsListing t w entries exports = AllZip (IsEntry t w) entries (listed exports)

-- what stands at a place: nothing, or what an entry stands for
abbrev pub IsEntryAt : Table → World → Option (ℕ × DefinitionRef) → Option (List ℕ × Definition) → Type 0
IsEntryAt t w None found = found ≡ None
IsEntryAt t w (Some entry) found = (e : List ℕ × Definition) × (found ≡ Some e) × IsEntry t w entry e

-- what a reference is seen as
abbrev pub seen_ref : DefinitionRef → ExternRef → DefinitionRef
seen_ref (definition_ref.Instance instance) (extern_ref.Instance type) = definition_ref.Instance (record { base = instance.base; seen_as = Some type })
seen_ref given asked = given

-- what is found under a name: nothing, or what a reference stands for
abbrev pub IsFound : Table → World → Option DefinitionRef → Option Definition → Type 0
IsFound t w None found = found ≡ None
IsFound t w (Some ref) found = (d : Definition) × (found ≡ Some d) × Stands t w ref d

-- what is found in a base, as a type asks for it
abbrev pub seen_found : Option DefinitionRef → Option ExternRef → Option DefinitionRef
seen_found None asked = None
seen_found (Some given) None = None
seen_found (Some given) (Some asked) = Some (seen_ref given asked)

abbrev pub func_ref : DefinitionRef → Option LiftedRef
func_ref (definition_ref.Func f) = Some f
func_ref d = None

abbrev pub type_ref : DefinitionRef → Option TypeRef
type_ref (definition_ref.Type type) = Some type
type_ref d = None

abbrev pub instance_ref : DefinitionRef → Option InstanceRef
instance_ref (definition_ref.Instance instance) = Some instance
instance_ref d = None

-- the listings of bases stand for their exports
pub record AreBases (t : Table) (w : World) (listings : List (List (ℕ × DefinitionRef))) : Type 0 where
  pub count : length listings ≡ length w.bases
  pub stand : (number : ℕ) (entries : List (ℕ × DefinitionRef)) (exports : Exports)
      → slice_get listings number ≡ Some entries → slice_get w.bases number ≡ Some exports → IsListing t w entries exports

-- one base more
abbrev pub with_base : World → Exports → World
with_base w exports = record { components = w.components; bases = w.bases ++ exports ∷ []; modules = w.modules }

-- What stands behind a number stays.
abbrev pub Stays : {A : Type 0} → List A → List A → Type 0
Stays {A} old new = (number : ℕ) (x : A) → slice_get old number ≡ Some x → slice_get new number ≡ Some x

pub record WorldStays (old new : World) : Type 0 where
  pub components : Stays old.components new.components
  pub bases : Stays old.bases new.bases
  pub modules : Stays old.modules new.modules

-- what stands at a place in the listing of a number, and how much stands in it
abbrev pub entry_at : List (List (ℕ × DefinitionRef)) → ℕ → ℕ → Option (ℕ × DefinitionRef)
entry_at listings base at = option_and_then (λ (entries : List (ℕ × DefinitionRef)). slice_get entries at) (slice_get listings base)

abbrev pub entry_count : List (List (ℕ × DefinitionRef)) → ℕ → ℕ
entry_count listings base = option_map_or (λ (entries : List (ℕ × DefinitionRef)). length entries) (slice_get listings base) 0

-- what stands under the number of a name in the listing of a number
abbrev pub found_at : List (List (ℕ × DefinitionRef)) → ℕ → ℕ → Option DefinitionRef
found_at listings base name = option_and_then (item_named name) (slice_get listings base)
