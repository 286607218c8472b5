-- What a reference stands for that is seen as a type.
use Rattle.std.proofs.Common.{◌∙◌, ap, subst, Option, Some, None}
use Rattle.comp_graph.specs.Closed.{Extern, OfFunc, OfType, OfInstance, Externs}
use Rattle.link_spec.specs.Definitions.{Definition, AFunc, AType, AComponent, AnInstance, AModule, Exports, Fits, FitAll, seen_as, seen_exports}
use Rattle.link_values.specs.declared.refs.InstanceTypeRef.{InstanceTypeRef}
use Rattle.link_values.specs.declared.refs.ExternRef.{ExternRef}
use Rattle.link_values.specs.declared.refs.ExternRef.TheVariants as extern_ref
use Rattle.link_instances.specs.declared.references.InstanceRef.{InstanceRef}
use Rattle.link_instances.specs.declared.references.DefinitionRef.{DefinitionRef}
use Rattle.link_instances.specs.declared.references.DefinitionRef.TheVariants as definition_ref
use Rattle.link_types.specs.Table.{Table}
use Rattle.link_types.specs.Table.{IsInstanceType, IsExtern}
use Rattle.link_instances.specs.References.{World, IsSeen, IsInstance, Stands, seen_ref}
use Rattle.link_instances.proofs.Views.{exports_fit, exports_twice}

-- an instance of a base that is seen as a type it is of
instance_seen : (t : Table) (w : World) (i : InstanceRef) (r : InstanceTypeRef) (given : Exports) (asked : Externs)
    → IsInstance t w i given → IsInstanceType t r asked → FitAll given asked → Stands t w (seen_ref (definition_ref.Instance i) (extern_ref.Instance r)) (AnInstance (seen_exports given asked))
instance_seen t w i r given asked h k fit = record { base = h.base; stands = h.stands; seen = by i.seen_as h.seen }
  where
    by : (o : Option InstanceTypeRef) → IsSeen t h.base o given → IsSeen t h.base (Some r) (seen_exports given asked)
    by None is = (asked, k, subst (λ (e : Exports). FitAll e asked) is fit, ap (λ (e : Exports). seen_exports e asked) is)
    by (Some s) (other, type, fits, is) =
        let once : FitAll (seen_exports h.base other) asked = subst (λ (e : Exports). FitAll e asked) is fit in
        (asked, k, exports_fit h.base other asked fits once, ap (λ (e : Exports). seen_exports e asked) is ∙ exports_twice h.base other asked fits once)

pub stands_seen : (t : Table) (w : World) (given : DefinitionRef) (asked : ExternRef) (d : Definition) (x : Extern)
    → Stands t w given d → IsExtern t asked x → Fits d x → Stands t w (seen_ref given asked) (seen_as d x)
stands_seen t w (definition_ref.Instance i) (extern_ref.Instance r) (AnInstance given) (OfInstance wanted) h k fit = instance_seen t w i r given wanted h k fit
stands_seen t w (definition_ref.Instance i) asked (AnInstance given) (OfFunc type) h k fit = absurd fit
stands_seen t w (definition_ref.Instance i) asked (AnInstance given) (OfType type) h k fit = absurd fit
stands_seen t w (definition_ref.Instance i) (extern_ref.Func r) (AnInstance given) (OfInstance wanted) h k fit = absurd k
stands_seen t w (definition_ref.Instance i) (extern_ref.Type r) (AnInstance given) (OfInstance wanted) h k fit = absurd k
stands_seen t w (definition_ref.Instance i) asked (AFunc f) x h k fit = absurd h
stands_seen t w (definition_ref.Instance i) asked (AType type) x h k fit = absurd h
stands_seen t w (definition_ref.Instance i) asked (AComponent c) x h k fit = absurd h
stands_seen t w (definition_ref.Instance i) asked (AModule m) x h k fit = absurd h
stands_seen t w (definition_ref.Func f) asked (AFunc g) x h k fit = h
stands_seen t w (definition_ref.Type r) asked (AType type) x h k fit = h
stands_seen t w (definition_ref.Component n) asked (AComponent c) x h k fit = absurd fit
stands_seen t w (definition_ref.Module n) asked (AModule m) x h k fit = absurd fit
stands_seen t w given asked d x h k fit = absurd h
