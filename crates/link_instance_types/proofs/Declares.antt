-- Instance types with one declaration more.
use Rattle.std.proofs.Common.{◌≡◌, ◌∙◌, ◌≤◌, le-leb, ℕ, Bool, true, false, cond, List, [], ◌∷◌, ◌++◌, refl, ap, ap₂, sym, subst, Option, Some, None}
use Rattle.std.specs.Prelude.{◌&&◌, ◌||◌, not}
use Rattle.std.specs.Option.{option_map}
use denote.Ref.{Bor}
use Rattle.std.specs.Str.{bytes_eq}
use Rattle.syntax_trees.specs.Names.{has, is_among}
use Rattle.syntax_trees.proofs.Seen.{among_more}
use Rattle.comp_tree.specs.declared.instances.Sort.{Sort}
use Rattle.comp_tree.specs.declared.instances.Sort.TheVariants as sorts
use Rattle.comp_graph.specs.Closed.{Closed, Extern, OfFunc, OfType, OfInstance, Externs, extern_named}
use Rattle.link_values.specs.Resources.{resource_room}
use Rattle.link_spec.specs.Definitions.{Closure}
use Rattle.link_spec.specs.Types as types_read
use Rattle.link_spec.specs.Types.{Meaning, absent, type_in, instance_in, with_declared, told, kept_if, with_type, with_component, declared_as, extended, under_name, of_sort, exported}
use Rattle.link_values.specs.declared.refs.InstanceTypeRef.{InstanceTypeRef}
use Rattle.link_values.specs.declared.refs.TypeRef.{TypeRef}
use Rattle.link_values.specs.declared.refs.ExternRef.{ExternRef}
use Rattle.link_values.specs.declared.refs.ExternRef.TheVariants as extern_ref
use Rattle.link_types.specs.Table.{Table, IsType, IsExtern, IsInstanceType, MayBeExtern}
use Rattle.link_types.specs.Begun.{IsBegun}
use Rattle.link_values.specs.declared.meant.Meant.{Meant}
use Rattle.link_instance_types.specs.declared.declaring.Declared.{Declared}
use Rattle.link_meanings.specs.Meant.{IsFoundAs, IsMeaning, text_of}
use Rattle.link_meanings.specs.Levels.{IsClosure}
use Rattle.link_instance_types.specs.Declaring.{IsDeclared, told_more}
use Rattle.link_instance_types.specs.References.{type_ref_in, instance_ref_in, ref_of_sort}
use Rattle.link_types.proofs.Zips.{all_more}
use Rattle.link_instance_types.proofs.Telling.{told_stands, kept_before}

-- All is the same but one index space.
pub types_more : (t : Table) (closures : List Closure) (old new : Declared) (d : types_read.Declared) (x : Option TypeRef) (y : Option Closed) → IsDeclared t closures old d → IsFoundAs (IsType t) x y → new.types.items ≡ old.types.items ++ x ∷ []
    → new.components ≡ old.components → new.instances ≡ old.instances → new.names ≡ old.names → new.so_far ≡ old.so_far → new.resources ≡ old.resources → IsDeclared t closures new (record d { types = d.types ++ y ∷ [] })
types_more t closures old new d x y h r e a b n s c = record {
  types = rw e (all_more (IsFoundAs (IsType t)) old.types.items d.types x y h.types r);
  components = rw a h.components;
  instances = rw b h.instances;
  names = rw n h.names;
  resources = rw c h.resources;
  so_far = rw s h.so_far;
}

pub instances_more : (t : Table) (closures : List Closure) (old new : Declared) (d : types_read.Declared) (x : Option InstanceTypeRef) (y : Option Externs) → IsDeclared t closures old d → IsFoundAs (IsInstanceType t) x y → new.instances.items ≡ old.instances.items ++ x ∷ []
    → new.types ≡ old.types → new.components ≡ old.components → new.names ≡ old.names → new.so_far ≡ old.so_far → new.resources ≡ old.resources → IsDeclared t closures new (record d { instances = d.instances ++ y ∷ [] })
instances_more t closures old new d x y h r e a b n s c = record {
  types = rw a h.types;
  components = rw b h.components;
  instances = rw e (all_more (IsFoundAs (IsInstanceType t)) old.instances.items d.instances x y h.instances r);
  names = rw n h.names;
  resources = rw c h.resources;
  so_far = rw s h.so_far;
}

pub components_more : (t : Table) (closures : List Closure) (old new : Declared) (d : types_read.Declared) (x : Option ℕ) (y : Option Closure) → IsDeclared t closures old d → IsFoundAs (IsClosure closures) x y → new.components.items ≡ old.components.items ++ x ∷ []
    → new.types ≡ old.types → new.instances ≡ old.instances → new.names ≡ old.names → new.so_far ≡ old.so_far → new.resources ≡ old.resources → IsDeclared t closures new (record d { components = d.components ++ y ∷ [] })
components_more t closures old new d x y h r e a b n s c = record {
  types = rw a h.types;
  components = rw e (all_more (IsFoundAs (IsClosure closures)) old.components.items d.components x y h.components r);
  instances = rw b h.instances;
  names = rw n h.names;
  resources = rw c h.resources;
  so_far = rw s h.so_far;
}

-- All is the same but what is told.
pub one_told : {A B : Type 0} (t : Table) (closures : List Closure) (R : B → A → Type 0) (old new : Declared) (d : types_read.Declared) (r : Meant B) (now : Meaning A) → IsDeclared t closures old d → IsMeaning R r now
    → new.so_far ≡ told_more old.so_far r → new.types ≡ old.types → new.components ≡ old.components → new.instances ≡ old.instances → new.names ≡ old.names → new.resources ≡ old.resources → IsDeclared t closures new (told d now)
one_told t closures R old new d r now h k e a b c n q = record {
  types = rw a h.types;
  components = rw b h.components;
  instances = rw c h.instances;
  names = rw n h.names;
  resources = rw q h.resources;
  so_far = told_stands t R old.so_far new.so_far d.so_far r now h.so_far k e;
}

-- what is put in the space of a sort
type_found : (t : Table) (item : ExternRef) (x : Extern) → IsExtern t item x → IsFoundAs (IsType t) (type_ref_in (Some item)) (type_in (Some x))
type_found t (extern_ref.Func ref) (OfFunc type) h = refl
type_found t (extern_ref.Type ref) (OfType c) h = (c, refl, h)
type_found t (extern_ref.Instance ref) (OfInstance externs) h = refl
type_found t item x h = absurd h

type_of : (t : Table) (item : Option ExternRef) (e : Option Extern) → IsFoundAs (IsExtern t) item e → IsFoundAs (IsType t) (type_ref_in item) (type_in e)
type_of t None e h = rw h refl
type_of t (Some item) e h = rw h.1 (type_found t item h.0 h.2)

instance_found : (t : Table) (item : ExternRef) (x : Extern) → IsExtern t item x → IsFoundAs (IsInstanceType t) (instance_ref_in (Some item)) (instance_in (Some x))
instance_found t (extern_ref.Func ref) (OfFunc type) h = refl
instance_found t (extern_ref.Type ref) (OfType c) h = refl
instance_found t (extern_ref.Instance ref) (OfInstance externs) h = (externs, refl, h)
instance_found t item x h = absurd h

instance_of : (t : Table) (item : Option ExternRef) (e : Option Extern) → IsFoundAs (IsExtern t) item e → IsFoundAs (IsInstanceType t) (instance_ref_in item) (instance_in e)
instance_of t None e h = rw h refl
instance_of t (Some item) e h = rw h.1 (instance_found t item h.0 h.2)

pub type_put : (t : Table) (closures : List Closure) (old new : Declared) (d : types_read.Declared) (item : Option ExternRef) (x : Option TypeRef) (e : Option Extern) → IsDeclared t closures old d → IsFoundAs (IsExtern t) item e → x ≡ type_ref_in item
    → new.types.items ≡ old.types.items ++ x ∷ [] → new.components ≡ old.components → new.instances ≡ old.instances → new.names ≡ old.names → new.so_far ≡ old.so_far → new.resources ≡ old.resources → IsDeclared t closures new (with_declared d sorts.Type e)
type_put t closures old new d item x e h is f = types_more t closures old new d x (type_in e) h (rw f (type_of t item e is))

pub instance_put : (t : Table) (closures : List Closure) (old new : Declared) (d : types_read.Declared) (item : Option ExternRef) (x : Option InstanceTypeRef) (e : Option Extern) → IsDeclared t closures old d → IsFoundAs (IsExtern t) item e → x ≡ instance_ref_in item
    → new.instances.items ≡ old.instances.items ++ x ∷ [] → new.types ≡ old.types → new.components ≡ old.components → new.names ≡ old.names → new.so_far ≡ old.so_far → new.resources ≡ old.resources → IsDeclared t closures new (with_declared d sorts.Instance e)
instance_put t closures old new d item x e h is f = instances_more t closures old new d x (instance_in e) h (rw f (instance_of t item e is))

-- a type, a component, and what is of a sort
type_again : (o : Option Closed) → type_in (option_map OfType o) ≡ o
type_again None = refl
type_again (Some c) = refl

pub type_declared : (t : Table) (closures : List Closure) (old mid new : Declared) (d : types_read.Declared) (r : Meant TypeRef) (e : Meaning Closed) → IsDeclared t closures old d → IsMeaning (IsType t) r e
    → mid.types.items ≡ old.types.items ++ r.means ∷ [] → mid.components ≡ old.components → mid.instances ≡ old.instances → mid.names ≡ old.names → mid.so_far ≡ old.so_far → mid.resources ≡ old.resources
    → new.so_far ≡ told_more mid.so_far r → new.types ≡ mid.types → new.components ≡ mid.components → new.instances ≡ mid.instances → new.names ≡ mid.names → new.resources ≡ mid.resources → IsDeclared t closures new (with_type d e)
type_declared t closures old mid new d r e h k a1 a2 a3 a4 a5 a6 =
    one_told t closures (IsType t) mid new (with_declared d sorts.Type (option_map OfType e.means)) r e
    (types_more t closures old mid d r.means (type_in (option_map OfType e.means)) h (rw (type_again e.means) k.means) a1 a2 a3 a4 a5 a6) k

pub component_declared : (t : Table) (closures : List Closure) (old mid new : Declared) (d : types_read.Declared) (r : Meant ℕ) (e : Meaning Closure) → IsDeclared t closures old d → IsMeaning (IsClosure closures) r e
    → mid.components.items ≡ old.components.items ++ r.means ∷ [] → mid.types ≡ old.types → mid.instances ≡ old.instances → mid.names ≡ old.names → mid.so_far ≡ old.so_far → mid.resources ≡ old.resources
    → new.so_far ≡ told_more mid.so_far r → new.types ≡ mid.types → new.components ≡ mid.components → new.instances ≡ mid.instances → new.names ≡ mid.names → new.resources ≡ mid.resources → IsDeclared t closures new (with_component d e)
component_declared t closures old mid new d r e h k a1 a2 a3 a4 a5 a6 =
    one_told t closures (IsClosure closures) mid new (record d { components = d.components ++ e.means ∷ [] }) r e (components_more t closures old mid d r.means e.means h k.means a1 a2 a3 a4 a5 a6) k

-- what is told so far does not depend on what is declared, nor do the names
so_far_same : (d : types_read.Declared) (sort : Sort) (e : Option Extern) → (with_declared d sort e).so_far ≡ d.so_far
so_far_same d sorts.Func e = refl
so_far_same d sorts.Type e = refl
so_far_same d sorts.Instance e = refl
so_far_same d sorts.Component e = refl
so_far_same d (sorts.Core sort) e = refl

pub resources_same : (d : types_read.Declared) (sort : Sort) (e : Option Extern) → (with_declared d sort e).resources ≡ d.resources
resources_same d sorts.Func e = refl
resources_same d sorts.Type e = refl
resources_same d sorts.Instance e = refl
resources_same d sorts.Component e = refl
resources_same d (sorts.Core sort) e = refl

-- The same with another count of resources.
pub counted : (t : Table) (closures : List Closure) (d : Declared) (defined : types_read.Declared) (count : ℕ) → IsDeclared t closures d defined → IsDeclared t closures (record d { resources = count }) (record defined { resources = count })
counted t closures d defined count h = record { types = h.types; components = h.components; instances = h.instances; names = h.names; resources = refl; so_far = h.so_far }

-- An export: an index, a name more, and the exports with one more behind them.
not_new : {A : Type 0} (b : Bool) (x y : Option A) → x ≡ y → cond (not b) x None ≡ cond b None y
not_new true x y e = refl
not_new false x y e = e

pub export_declared : (t : Table) (closures : List Closure) (mid new : Declared) (defined : types_read.Declared) (before : Option Externs) (name : List ℕ) (extern : Option Extern) (is_new : Bool) → IsDeclared t closures mid defined
    → extended name extern defined.so_far.means ≡ extended name extern before
    → is_new ≡ not (has mid.names name) → ((q : List ℕ) → has new.names q ≡ (bytes_eq name q || has mid.names q))
    → IsFoundAs (IsBegun t) new.so_far.means (cond is_new (extended name extern defined.so_far.means) None) → new.so_far.is_there ≡ mid.so_far.is_there → new.so_far.missing ≡ mid.so_far.missing → new.so_far.deep ≡ mid.so_far.deep
    → new.types ≡ mid.types → new.components ≡ mid.components → new.instances ≡ mid.instances → new.resources ≡ mid.resources → mid.resources ≤ resource_room → IsDeclared t closures new (under_name defined before name extern)
export_declared t closures mid new defined before name extern is_new h same fresh all means there missing deep a b c r few = record {
  types = rw a h.types;
  components = rw b h.components;
  instances = rw c h.instances;
  resources = rw r h.resources;
  names = λ q. all q ∙ ap (λ r. bytes_eq name q || r) (h.names q) ∙ swapped (bytes_eq name q) (is_among q defined.names) ∙ sym (among_more q defined.names name);
  so_far = record {
    is_there = there ∙ h.so_far.is_there;
    missing = ap (λ (o : Option (Bor (List ℕ))). option_map text_of o) missing ∙ h.so_far.missing;
    deep = deep ∙ h.so_far.deep;
    has_room = ap₂ (λ b c. b && c) h.so_far.has_room (le-leb defined.resources resource_room (subst (λ n. n ≤ resource_room) h.resources few));
    means = subst (λ (o : Option Externs). IsFoundAs (IsBegun t) new.so_far.means o)
        (ap (λ r. cond r (extended name extern defined.so_far.means) None) (fresh ∙ ap not (h.names name)) ∙ not_new (is_among name defined.names) (extended name extern defined.so_far.means) (extended name extern before) same) means;
  };
}
  where
    swapped : (p q : Bool) → (p || q) ≡ (q || p)
    swapped true true = refl
    swapped true false = refl
    swapped false true = refl
    swapped false false = refl

pub export_same : (d : types_read.Declared) (sort : Sort) (e : Meaning Extern) (name : List ℕ) → extended name e.means (declared_as d sort e).so_far.means ≡ extended name e.means d.so_far.means
export_same d sort e name = ap (λ (m : Meaning Externs). extended name e.means (kept_if e.means m.means)) (so_far_same d sort e.means) ∙ kept_before name e.means d.so_far.means

-- an export of an instance: one that is missing, and one that is of the sort or not
sort_found : (t : Table) (sort : Sort) (item : ExternRef) (x : Extern) → IsExtern t item x → IsFoundAs (IsExtern t) (ref_of_sort sort item) (of_sort sort x)
sort_found t sorts.Func (extern_ref.Func ref) (OfFunc type) h = (OfFunc type, refl, h)
sort_found t sorts.Func (extern_ref.Type ref) (OfType c) h = refl
sort_found t sorts.Func (extern_ref.Instance ref) (OfInstance externs) h = refl
sort_found t sorts.Type (extern_ref.Func ref) (OfFunc type) h = refl
sort_found t sorts.Type (extern_ref.Type ref) (OfType c) h = (OfType c, refl, h)
sort_found t sorts.Type (extern_ref.Instance ref) (OfInstance externs) h = refl
sort_found t sorts.Instance (extern_ref.Func ref) (OfFunc type) h = refl
sort_found t sorts.Instance (extern_ref.Type ref) (OfType c) h = refl
sort_found t sorts.Instance (extern_ref.Instance ref) (OfInstance externs) h = (OfInstance externs, refl, h)
sort_found t sorts.Component (extern_ref.Func ref) (OfFunc type) h = refl
sort_found t sorts.Component (extern_ref.Type ref) (OfType c) h = refl
sort_found t sorts.Component (extern_ref.Instance ref) (OfInstance externs) h = refl
sort_found t (sorts.Core sort) (extern_ref.Func ref) (OfFunc type) h = refl
sort_found t (sorts.Core sort) (extern_ref.Type ref) (OfType c) h = refl
sort_found t (sorts.Core sort) (extern_ref.Instance ref) (OfInstance externs) h = refl
sort_found t sort item x h = absurd h

found_of : (t : Table) (item : ExternRef) (o : Option Extern) → MayBeExtern t (Some item) o → (x : Extern) × (o ≡ Some x) × IsExtern t item x
found_of t item None h = absurd h
found_of t item (Some x) h = (x, refl, h)

lacks_of : (t : Table) (o : Option Extern) → MayBeExtern t None o → o ≡ None
lacks_of t None h = refl
lacks_of t (Some x) h = absurd h

pub export_there : (t : Table) (sort : Sort) (name : List ℕ) (all : Externs) (item : ExternRef) (means : Option ExternRef) → MayBeExtern t (Some item) (extern_named name all) → means ≡ ref_of_sort sort item
    → IsMeaning (IsExtern t) (record { is_there = true; missing = None; deep = false; means = means }) (exported sort name (Some all))
export_there t sort name all item means h e =
    let p = found_of t item (extern_named name all) h in
    rw (p.1, e) (record { is_there = refl; missing = refl; deep = refl; has_room = refl; means = sort_found t sort item p.0 p.2 })

pub export_missing : (t : Table) (sort : Sort) (name : Bor (List ℕ)) (all : Externs) → MayBeExtern t None (extern_named name.now all)
    → IsMeaning (IsExtern t) (record { is_there = true; missing = Some name; deep = false; means = None }) (exported sort name.now (Some all))
export_missing t sort name all h = rw (lacks_of t (extern_named name.now all) h) (record { is_there = refl; missing = refl; deep = refl; has_room = refl; means = refl })

-- what is not there
pub absent_stands : {A B : Type 0} (R : B → A → Type 0) (m : Meant B) → m ≡ record { is_there = false; missing = None; deep = false; means = None } → IsMeaning R m absent
absent_stands R m e = rw e (record { is_there = refl; missing = refl; deep = refl; has_room = refl; means = refl })
