-- Instances of the types that an instance type asks for (Component Model, Explainer.md, "Import and Export Definitions"), by the
-- number of the type.
use Rattle.std.specs.Prelude.{◌≡◌, ℕ, Bool, true, false, not, List, [], ◌∷◌, Option, Some, None}
use Rattle.std.specs.List.{slice_get}
use Rattle.std.specs.Option.{option_map}
use Rattle.std.specs.declared.cmp.Ordering.{Ordering}
use Rattle.std.specs.BTreeMap.{BTreeMap, get}
use Rattle.comp_graph.specs.Closed.{Extern, OfFunc, OfType, OfInstance, Externs, names_resource}
use Rattle.link_spec.specs.Definitions.{types_of}
use Rattle.link_spec.specs.Tests.{are_types}
use Rattle.link_values.specs.declared.refs.InstanceTypeRef.{InstanceTypeRef}
use Rattle.link_values.specs.declared.refs.ExternRef.{ExternRef}
use Rattle.link_values.specs.declared.refs.ExternRef.TheVariants as extern_ref
use Rattle.link_values.specs.contracts.refs.InstanceTypeRefOrd.TheImpl as order
use Rattle.link_types.specs.Table.{Table, IsInstanceType}
use Rattle.link_instances.specs.declared.references.InstanceRef.{InstanceRef}
use Rattle.link_instances.specs.declared.references.DefinitionRef.{DefinitionRef}
use Rattle.link_instances.specs.declared.references.DefinitionRef.TheVariants as definition_ref
use Rattle.link_instances.specs.References.{World}

-- whether an export is a type that names no resource
abbrev pub is_plain : Extern → Bool
is_plain (OfFunc type) = false
is_plain (OfType type) = not (names_resource type)
is_plain (OfInstance externs) = false

-- the type that is asked for under a name, as a definition
abbrev pub type_listed : Option (ℕ × ExternRef) → List (ℕ × DefinitionRef)
type_listed (Some (name, extern_ref.Type closed)) = (name, definition_ref.Type closed) ∷ []
type_listed entry = []

-- the order of instance types, by which they are looked up
abbrev pub type_cmp : InstanceTypeRef → InstanceTypeRef → Ordering
type_cmp = (order.ghosts).cmp

-- what a map by instance types has at one
abbrev pub base_of : BTreeMap InstanceTypeRef ℕ → InstanceTypeRef → Option ℕ
base_of bases type = get type_cmp bases type

-- the instance of a base, as it is
abbrev pub instance_of : Option ℕ → Option InstanceRef
instance_of base = option_map (λ base. record { base = base; seen_as = None }) base

-- the instance that is kept for an instance type
abbrev pub kept_for : BTreeMap InstanceTypeRef ℕ → InstanceTypeRef → Option InstanceRef
kept_for bases type = instance_of (base_of bases type)

-- What is kept stays.
abbrev pub StayKept : BTreeMap InstanceTypeRef ℕ → BTreeMap InstanceTypeRef ℕ → Type 0
StayKept old new = (type : InstanceTypeRef) (i : InstanceRef) → kept_for old type ≡ Some i → kept_for new type ≡ Some i

-- The exports of this number are the types that an instance type asks for, which asks for nothing else.
pub record HasTypes (t : Table) (w : World) (type : InstanceTypeRef) (base : ℕ) : Type 0 where
  pub externs : Externs
  pub asked : IsInstanceType t type externs
  pub types : are_types externs ≡ true
  pub stands : slice_get w.bases base ≡ Some (types_of externs)
