-- What is asked to be a type of resources is what is given for it, where that is one.
use Rattle.std.proofs.Common.{◌≡◌, ◌∙◌, ℕ, true, false, refl, ap, sym, subst, Option, Some, None}
use Rattle.std.specs.Option.{option_and_then}
use Rattle.comp_graph.specs.Closed.{Closed, Value, Func, Resource, Instance, OfType, resource_of}
use Rattle.link_spec.specs.Definitions.{Definition, AFunc, AType, AComponent, AnInstance, AModule}
use Rattle.link_spec.specs.Items.{type_given}
use Rattle.link_spec.specs.Types.{meant, resource_meant}
use Rattle.link_values.specs.declared.refs.TypeRef.{TypeRef}
use Rattle.link_values.specs.declared.refs.TypeRef.TheVariants as type_leaf
use Rattle.link_values.specs.declared.refs.ExternRef.TheVariants as extern_ref
use Rattle.link_types.specs.Table.{Table, IsType, IsExtern}
use Rattle.link_instances.specs.declared.references.DefinitionRef.{DefinitionRef}
use Rattle.link_instances.specs.declared.references.DefinitionRef.TheVariants as definition_ref
use Rattle.link_instances.specs.References.{World, Stands, type_ref}
use Rattle.link_meanings.specs.Meant.{IsFoundAs, IsMeaning}
use Rattle.link_meanings.specs.References.{resource_ref}
use Rattle.link_items.proofs.ResourceParts.{number_told}

module _ (t : Table) (w : World) where
  type_stands : (ref : DefinitionRef) (d : Definition) → Stands t w ref d → IsFoundAs (IsType t) (type_ref ref) (type_given (Some d))
  type_stands (definition_ref.Type ref) (AType type) h = (type, refl, h)
  type_stands (definition_ref.Func ref) (AFunc f) h = refl
  type_stands (definition_ref.Component number) (AComponent c) h = refl
  type_stands (definition_ref.Instance instance) (AnInstance exports) h = refl
  type_stands (definition_ref.Module number) (AModule m) h = refl
  type_stands ref d h = absurd h

  type_found : (given : Option DefinitionRef) (d : Option Definition) → IsFoundAs (Stands t w) given d → IsFoundAs (IsType t) (option_and_then type_ref given) (type_given d)
  type_found None d h = rw h refl
  type_found (Some ref) d h = subst (λ (o : Option Definition). IsFoundAs (IsType t) (type_ref ref) (type_given o)) (sym h.1) (type_stands ref h.0 h.2)

some_meant : (c : Option Closed) (number : ℕ) → Some number ≡ option_and_then resource_of c → resource_meant c ≡ meant (Some (OfType (Resource number)))
some_meant None number h = cc
some_meant (Some (Value type)) number h = cc
some_meant (Some (Func type)) number h = cc
some_meant (Some (Instance externs)) number h = cc
some_meant (Some (Resource other)) number h = let same : number ≡ other = cc in ap (λ (n : ℕ). meant (Some (OfType (Resource n)))) (sym same)

none_meant : (c : Option Closed) → ◌≡◌ {A = Option ℕ} None (option_and_then resource_of c) → resource_meant c ≡ meant None
none_meant None h = refl
none_meant (Some (Value type)) h = refl
none_meant (Some (Func type)) h = refl
none_meant (Some (Instance externs)) h = refl
none_meant (Some (Resource other)) h = cc

module _ (t : Table) (w : World) (given : Option DefinitionRef) (found : Option TypeRef) (of_type : found ≡ option_and_then type_ref given) (number : Option ℕ) (of_resource : number ≡ option_and_then resource_ref found) (d : Option Definition) (h : IsFoundAs (Stands t w) given d) where
  number_is : number ≡ option_and_then resource_of (type_given d)
  number_is = number_told t found number (type_given d) of_resource (subst (λ (r : Option TypeRef). IsFoundAs (IsType t) r (type_given d)) (sym of_type) (type_found t w given d h))

  pub asked_some : (n : ℕ) → number ≡ Some n → IsMeaning (IsExtern t) (record { is_there = true; missing = None; deep = false; means = Some (extern_ref.Type (type_leaf.Resource n)) }) (resource_meant (type_given d))
  asked_some n is =
      rw (some_meant (type_given d) n (sym is ∙ number_is)) (record { is_there = refl; missing = refl; deep = refl; has_room = refl; means = (OfType (Resource n), refl, refl) })

  pub asked_none : number ≡ None → IsMeaning (IsExtern t) (record { is_there = true; missing = None; deep = false; means = None }) (resource_meant (type_given d))
  asked_none is = rw (none_meant (type_given d) (sym is ∙ number_is)) (record { is_there = refl; missing = refl; deep = refl; has_room = refl; means = refl })
