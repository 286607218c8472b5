-- The types of ends, by their numbers.
use Rattle.std.proofs.Common.{◌≡◌, ℕ, refl, Option, Some, None}
use Rattle.std.specs.Option.{option_and_then}
use Rattle.comp_graph.specs.Closed.{Closed, Value, Func, Resource, Instance, value_of}
use Rattle.link_values.specs.declared.refs.TypeRef.{TypeRef}
use Rattle.link_values.specs.declared.refs.TypeRef.TheVariants as type_ref
use Rattle.link_types.specs.Table.{Table, IsValue, IsType}
use Rattle.link_meanings.specs.Meant.{IsFoundAs}
use Rattle.link_meanings.specs.References.{value_ref}

value_is : (t : Table) (ref : TypeRef) (c : Closed) → IsType t ref c → IsFoundAs (IsValue t) (value_ref ref) (value_of c)
value_is t (type_ref.Value number) (Value v) h = (v, refl, h)
value_is t (type_ref.Func ref) (Func type) h = refl
value_is t (type_ref.Resource number) (Resource other) h = refl
value_is t (type_ref.Instance ref) (Instance externs) h = refl
value_is t ref c h = absurd h

pub value_found : (t : Table) (r : Option TypeRef) (o : Option Closed) → IsFoundAs (IsType t) r o → IsFoundAs (IsValue t) (option_and_then value_ref r) (option_and_then value_of o)
value_found t None o h = rw h refl
value_found t (Some ref) o h = rw h.1 (value_is t ref h.0 h.2)

pub number_told : (t : Table) (r : Option TypeRef) (number : Option ℕ) (o : Option Closed) → number ≡ option_and_then value_ref r → IsFoundAs (IsType t) r o → IsFoundAs (IsValue t) number (option_and_then value_of o)
number_told t r number o e h = rw e (value_found t r o h)
