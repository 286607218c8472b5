-- What exports of instance types are to be.
use Rattle.std.proofs.Common.{◌≡◌, ◌+◌, ℕ, List, refl, sym, subst, Option, Some}
use Rattle.std.specs.List.{slice_get}
use Rattle.comp_graph.specs.Closed.{Closed, Value, Func, Resource, Instance, Extern, OfType, OfInstance}
use Rattle.link_values.specs.Resources.{first_brought, brought_behind}
use Rattle.link_spec.specs.Brought.{moved_extern, moved_externs}
use Rattle.link_spec.specs.Types.{meant, as_exported}
use Rattle.link_values.specs.declared.meant.Meant.{Meant}
use Rattle.link_values.specs.declared.refs.InstanceTypeRef.{InstanceTypeRef}
use Rattle.link_values.specs.declared.refs.TypeRef.{TypeRef}
use Rattle.link_values.specs.declared.refs.TypeRef.TheVariants as type_ref
use Rattle.link_values.specs.declared.refs.ExternRef.{ExternRef}
use Rattle.link_values.specs.declared.refs.ExternRef.TheVariants as extern_ref
use Rattle.link_types.specs.Table.{Table, IsType, IsExtern}
use Rattle.link_meanings.specs.declared.levels.Enclosing.{Enclosing}
use Rattle.link_meanings.specs.Meant.{IsFoundAs, IsMeaning}
use Rattle.link_meanings.specs.Levels.{AreTypes, enclosed_types}
use Rattle.link_meanings.proofs.Lists.{found_at}

-- the type of an index
pub type_found : (t : Table) (scope : Enclosing) (types : List (Option Closed)) (index : ℕ) (known : Option (Option TypeRef)) → known ≡ slice_get (enclosed_types scope) index → AreTypes t (enclosed_types scope) types
    → IsFoundAs (IsFoundAs (IsType t)) known (slice_get types index)
type_found t scope types index known is h =
    subst (λ (o : Option (Option TypeRef)). IsFoundAs (IsFoundAs (IsType t)) o (slice_get types index)) (sym is) (found_at (IsFoundAs (IsType t)) (enclosed_types scope) types index h)

-- an instance of a type, what it brings behind the rest
pub instance_exported : (t u : Table) (resources : ℕ) (ref : InstanceTypeRef) (new : ExternRef)
    → ((extern : Extern) → IsExtern t (extern_ref.Instance ref) extern → IsExtern u new (moved_extern (brought_behind resources) 0 extern))
    → (type : Closed) → IsType t (type_ref.Instance ref) type → IsFoundAs (IsExtern u) (Some new) (as_exported resources type)
instance_exported t u resources ref new h (Value type) k = absurd k
instance_exported t u resources ref new h (Func type) k = absurd k
instance_exported t u resources ref new h (Resource number) k = absurd k
instance_exported t u resources ref new h (Instance externs) k = (OfInstance (moved_externs (brought_behind resources) 0 externs), refl, h (OfInstance externs) k)

-- any type of resources
pub resource_exported : (t : Table) (m : Meant ExternRef) (resources brought : ℕ) → resources ≡ brought → IsMeaning (IsExtern t) m (meant (Some (OfType (Resource (first_brought 0 + resources)))))
    → IsMeaning (IsExtern t) m (meant (Some (OfType (Resource (first_brought 0 + brought)))))
resource_exported t m resources brought e h = subst (λ (n : ℕ). IsMeaning (IsExtern t) m (meant (Some (OfType (Resource (first_brought 0 + n)))))) e h
