-- A definition that is compared with what is asked for.
use Rattle.std.proofs.Common.{◌≡◌, Bool, false, refl, subst, Some, None}
use Rattle.std.specs.Bool.{Decides}
use Rattle.std.proofs.lemmas.Bool.Decides.{same_from_decides}
use Rattle.syntax_trees.specs.declared.types.FuncType.{FuncType}
use Rattle.comp_graph.specs.Closed.{Closed, Extern, OfFunc, OfType, OfInstance}
use Rattle.link_spec.specs.Definitions.{Definition, AFunc, AType, AComponent, AnInstance, AModule}
use Rattle.link_values.specs.declared.refs.FuncTypeRef.{FuncTypeRef}
use Rattle.link_values.specs.declared.refs.InstanceTypeRef.{InstanceTypeRef}
use Rattle.link_values.specs.declared.refs.TypeRef.{TypeRef}
use Rattle.link_values.specs.declared.refs.ExternRef.TheVariants as extern_ref
use Rattle.link_instances.specs.declared.references.LiftedRef.{LiftedRef}
use Rattle.link_instances.specs.declared.references.InstanceRef.{InstanceRef}
use Rattle.link_instances.specs.declared.references.DefinitionRef.{DefinitionRef}
use Rattle.link_instances.specs.declared.references.DefinitionRef.TheVariants as definition_ref
use Rattle.link_types.specs.Table.{Table}
use Rattle.link_types.specs.Table.{IsFunc, IsType, IsExtern}
use Rattle.link_instances.specs.declared.comparing.Comparison.TheVariants.{Agrees, Inside}
use Rattle.link_instances.specs.References.{World, Stands, func_ref, type_ref, instance_ref}
use Rattle.link_instances.specs.Comparing.{IsCompared}
use Rattle.link_spec.proofs.Sameness.{func_told, closed_told}

-- a function that a function of this type is asked for
pub compared_func : (t : Table) (w : World) (given : DefinitionRef) (f : LiftedRef) (r : FuncTypeRef) (b : Bool) (d : Definition) (x : Extern)
    → func_ref given ≡ Some f → ((a c : FuncType) → IsFunc t f.func_type a → IsFunc t r c → Decides b (a ≡ c))
    → Stands t w given d → IsExtern t (extern_ref.Func r) x → IsCompared t w d x (Agrees b)
compared_func t w (definition_ref.Func l) f r b (AFunc g) (OfFunc type) is same h k =
    let one : l ≡ f = cc in
    let stands = subst (λ (l : LiftedRef). IsFunc t l.func_type g.func_type) one h.func_type in
    (λ name. refl, same_from_decides _ b (func_told g.func_type type) (same g.func_type type stands k))
compared_func t w (definition_ref.Func l) f r b (AFunc g) (OfType type) is same h k = absurd k
compared_func t w (definition_ref.Func l) f r b (AFunc g) (OfInstance type) is same h k = absurd k
compared_func t w (definition_ref.Func l) f r b d x is same h k = absurd h
compared_func t w (definition_ref.Type l) f r b d x is same h k = cc
compared_func t w (definition_ref.Component l) f r b d x is same h k = cc
compared_func t w (definition_ref.Instance l) f r b d x is same h k = cc
compared_func t w (definition_ref.Module l) f r b d x is same h k = cc

-- what is none of a function
pub no_func : (t : Table) (w : World) (given : DefinitionRef) (r : FuncTypeRef) (d : Definition) (x : Extern)
    → func_ref given ≡ None → Stands t w given d → IsExtern t (extern_ref.Func r) x → IsCompared t w d x (Agrees false)
no_func t w (definition_ref.Func l) r d x is h k = cc
no_func t w (definition_ref.Type l) r (AType a) (OfFunc type) is h k = (λ name. refl, refl)
no_func t w (definition_ref.Component l) r (AComponent a) (OfFunc type) is h k = (λ name. refl, refl)
no_func t w (definition_ref.Instance l) r (AnInstance a) (OfFunc type) is h k = (λ name. refl, refl)
no_func t w (definition_ref.Module l) r (AModule a) (OfFunc type) is h k = (λ name. refl, refl)
no_func t w given r d (OfType type) is h k = absurd k
no_func t w given r d (OfInstance type) is h k = absurd k
no_func t w given r d x is h k = absurd h

pub compared_type : (t : Table) (w : World) (given : DefinitionRef) (f r : TypeRef) (b : Bool) (d : Definition) (x : Extern)
    → type_ref given ≡ Some f → ((a c : Closed) → IsType t f a → IsType t r c → Decides b (a ≡ c))
    → Stands t w given d → IsExtern t (extern_ref.Type r) x → IsCompared t w d x (Agrees b)
compared_type t w (definition_ref.Type l) f r b (AType g) (OfType type) is same h k =
    let one : l ≡ f = cc in
    (λ name. refl, same_from_decides _ b (closed_told g type) (same g type (subst (λ (l : TypeRef). IsType t l g) one h) k))
compared_type t w (definition_ref.Type l) f r b (AType g) (OfFunc type) is same h k = absurd k
compared_type t w (definition_ref.Type l) f r b (AType g) (OfInstance type) is same h k = absurd k
compared_type t w (definition_ref.Type l) f r b d x is same h k = absurd h
compared_type t w (definition_ref.Func l) f r b d x is same h k = cc
compared_type t w (definition_ref.Component l) f r b d x is same h k = cc
compared_type t w (definition_ref.Instance l) f r b d x is same h k = cc
compared_type t w (definition_ref.Module l) f r b d x is same h k = cc

pub no_type : (t : Table) (w : World) (given : DefinitionRef) (r : TypeRef) (d : Definition) (x : Extern)
    → type_ref given ≡ None → Stands t w given d → IsExtern t (extern_ref.Type r) x → IsCompared t w d x (Agrees false)
no_type t w (definition_ref.Type l) r d x is h k = cc
no_type t w (definition_ref.Func l) r (AFunc a) (OfType type) is h k = (λ name. refl, refl)
no_type t w (definition_ref.Component l) r (AComponent a) (OfType type) is h k = (λ name. refl, refl)
no_type t w (definition_ref.Instance l) r (AnInstance a) (OfType type) is h k = (λ name. refl, refl)
no_type t w (definition_ref.Module l) r (AModule a) (OfType type) is h k = (λ name. refl, refl)
no_type t w given r d (OfFunc type) is h k = absurd k
no_type t w given r d (OfInstance type) is h k = absurd k
no_type t w given r d x is h k = absurd h

pub compared_instance : (t : Table) (w : World) (given : DefinitionRef) (i : InstanceRef) (r : InstanceTypeRef) (d : Definition) (x : Extern)
    → instance_ref given ≡ Some i → Stands t w given d → IsExtern t (extern_ref.Instance r) x → IsCompared t w d x (Inside i r)
compared_instance t w (definition_ref.Instance l) i r (AnInstance a) (OfInstance asked) is h k =
    let one : l ≡ i = cc in
    (a, asked, refl, refl, subst (λ (l : InstanceRef). Stands t w (definition_ref.Instance l) (AnInstance a)) one h, k)
compared_instance t w (definition_ref.Instance l) i r (AnInstance a) (OfFunc type) is h k = absurd k
compared_instance t w (definition_ref.Instance l) i r (AnInstance a) (OfType type) is h k = absurd k
compared_instance t w (definition_ref.Instance l) i r d x is h k = absurd h
compared_instance t w (definition_ref.Func l) i r d x is h k = cc
compared_instance t w (definition_ref.Type l) i r d x is h k = cc
compared_instance t w (definition_ref.Component l) i r d x is h k = cc
compared_instance t w (definition_ref.Module l) i r d x is h k = cc
