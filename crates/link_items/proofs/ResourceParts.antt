-- Destructors, and types of resources: what they come to, by their parts.
use Rattle.std.proofs.Common.{◌≡◌, ◌∙◌, ℕ, true, false, refl, ap, Option, Some, None}
use Rattle.std.specs.Prelude.{Ok, Err}
use Rattle.std.specs.Option.{option_and_then}
use Rattle.comp_graph.specs.CoreItems.{CoreItem, core_func_of}
use Rattle.comp_graph.specs.Closed.{Closed, Value, Func, Resource, Instance, resource_of}
use Rattle.comp_graph.specs.Needs.{destructor_type}
use Rattle.comp_graph.specs.declared.graph.FuncRef.{FuncRef}
use Rattle.link_spec.specs.declared.fault.LinkWhy.TheVariants as why
use Rattle.link_spec.specs.Canons.{is_of_core_type}
use Rattle.link_spec.specs.Computed.{destructor_of}
use Rattle.link_values.specs.declared.refs.TypeRef.{TypeRef}
use Rattle.link_values.specs.declared.refs.TypeRef.TheVariants as type_ref
use Rattle.link_types.specs.Table.{Table, IsType}
use Rattle.link_meanings.specs.Meant.{IsFoundAs}
use Rattle.link_meanings.specs.References.{resource_ref}

-- Destructors.
module _ (item : CoreItem) where
  pub not_destructor : is_of_core_type destructor_type item ≡ false → destructor_of item ≡ Err why.Canon
  not_destructor other = rw other refl

  pub no_core : is_of_core_type destructor_type item ≡ true → core_func_of item ≡ None → destructor_of item ≡ Err why.Canon
  no_core fits none = rw (fits, none) refl

  pub is_destructor : (core : FuncRef) → is_of_core_type destructor_type item ≡ true → core_func_of item ≡ Some core → destructor_of item ≡ Ok (Some core)
  is_destructor core fits is = rw (fits, is) refl

-- The number of a resource, by its type.
resource_is : (t : Table) (ref : TypeRef) (c : Closed) → IsType t ref c → resource_ref ref ≡ resource_of c
resource_is t (type_ref.Value number) (Value v) h = refl
resource_is t (type_ref.Func ref) (Func type) h = refl
resource_is t (type_ref.Resource number) (Resource other) h = ap (λ (n : ℕ). Some n) h
resource_is t (type_ref.Instance ref) (Instance externs) h = refl
resource_is t ref c h = absurd h

resource_found : (t : Table) (r : Option TypeRef) (o : Option Closed) → IsFoundAs (IsType t) r o → option_and_then resource_ref r ≡ option_and_then resource_of o
resource_found t None o h = rw h refl
resource_found t (Some ref) o h = rw h.1 (resource_is t ref h.0 h.2)

pub number_told : (t : Table) (r : Option TypeRef) (number : Option ℕ) (o : Option Closed) → number ≡ option_and_then resource_ref r → IsFoundAs (IsType t) r o → number ≡ option_and_then resource_of o
number_told t r number o e h = e ∙ resource_found t r o h
