-- Labels with the numbers of value types, which stand for parameters where the references stand for types.
use Rattle.std.proofs.Common.{cond, ◌≡◌, ◌∙◌, ◌<◌, ◌≤◌, ℕ, Bool, true, false, List, length, map, refl, sym, ap, Option, Some, None, arith}
use Rattle.std.specs.Prelude.{is_none}
use Rattle.std.proofs.lemmas.Option.{slice_get_within}
use Rattle.std.specs.Option.{option_map, option_and_then}
use Rattle.std.specs.List.{slice_get, AllZip}
use Rattle.syntax_trees.specs.Names.{first_twice}
use Rattle.syntax_trees.specs.declared.types.ValType.{ValType}
use Rattle.syntax_trees.specs.declared.types.Param.{Param}
use Rattle.syntax_trees.specs.declared.types.FuncType.{FuncType}
use Rattle.comp_tree.specs.declared.types.Param as read_param
use Rattle.comp_tree.specs.declared.types.FuncType as read_func
use Rattle.comp_tree.specs.declared.types.ValTypeRef.{ValTypeRef}
use Rattle.laid_types.specs.Handles.{has_borrow, held_borrow}
use Rattle.comp_graph.specs.Closed.{Closed, Value, Func, Resource, Instance, value_of, resource_of}
use Rattle.link_spec.specs.ValueTypes.{close_resource}
use Rattle.link_spec.specs.Types.{meant, close_val, close_param, close_params, close_held, close_passed, close_func}
use Rattle.link_types.specs.declared.labels.LabelledType.{LabelledType}
use Rattle.link_values.specs.declared.refs.FuncTypeRef.{FuncTypeRef}
use Rattle.link_values.specs.declared.refs.TypeRef.{TypeRef}
use Rattle.link_values.specs.declared.refs.TypeRef.TheVariants as type_ref
use Rattle.link_types.specs.Layered.{MayBeValue}
use Rattle.link_types.specs.Labels.{IsParam, IsFuncOf}
use Rattle.link_types.specs.Table.{Table, IsValue, IsFunc, IsType, Grows}
use Rattle.link_types.proofs.ValuesStay.{labelled_stay}
use Rattle.link_meanings.specs.Meant.{IsFoundAs, IsMeaning}
use Rattle.link_meanings.specs.Levels.{AreTypes}
use Rattle.link_meanings.specs.References.{value_ref, resource_ref}
use Rattle.link_meanings.proofs.Lists.{found_at}

-- the number of a value type: that of an index
value_is : (t : Table) (ref : TypeRef) (c : Closed) → IsType t ref c → IsFoundAs (IsValue t) (value_ref ref) (value_of c)
value_is t (type_ref.Value number) (Value v) h = (v, refl, h)
value_is t (type_ref.Func ref) (Func type) h = refl
value_is t (type_ref.Resource number) (Resource other) h = refl
value_is t (type_ref.Instance ref) (Instance externs) h = refl
value_is t ref c h = absurd h

value_in : (t : Table) (o : Option (Option TypeRef)) (p : Option (Option Closed)) → IsFoundAs (IsFoundAs (IsType t)) o p → IsFoundAs (IsValue t) (option_and_then (option_and_then value_ref) o) (option_and_then (option_and_then value_of) p)
value_in t None p h = rw h refl
value_in t (Some None) p h = rw (h.1, h.2) refl
value_in t (Some (Some ref)) p h = rw (h.1, h.2.1) (value_is t ref h.2.0 h.2.2)

pub value_stands : (t : Table) (refs : List (Option TypeRef)) (closed : List (Option Closed)) (i : ℕ) (r : Option ℕ) → AreTypes t refs closed → r ≡ option_and_then (option_and_then value_ref) (slice_get refs i)
    → IsFoundAs (IsValue t) r (option_and_then (option_and_then value_of) (slice_get closed i))
value_stands t refs closed i r h e = rw e (value_in t (slice_get refs i) (slice_get closed i) (found_at (IsFoundAs (IsType t)) refs closed i h))

-- one that is not there
pub value_within : (t : Table) (number : ℕ) (found : Option ValType) → IsFoundAs (IsValue t) (Some number) found → number < length t.values
value_within t number found h = slice_get_within t.values number h.0 h.2

pub value_past : (t : Table) (number count : ℕ) (found : Option ValType) → IsFoundAs (IsValue t) (Some number) found → count ≡ length t.values → count ≤ number → found ≡ None
value_past t number count found h e past = let within : number < length t.values = value_within t number found h in absurd (omega arith)

-- a parameter without a type, and one with its type
pub param_open : (closed : List (Option Closed)) (p : read_param.Param) → close_val closed p.val_type ≡ None → close_param closed p ≡ None
param_open closed p h = rw h refl

pub param_closed : (t : Table) (closed : List (Option Closed)) (p : read_param.Param) (l : LabelledType) → l.label.now ≡ p.label → IsFoundAs (IsValue t) (Some l.val_type) (close_val closed p.val_type) → IsFoundAs (IsParam t.values) (Some l) (close_param closed p)
param_closed t closed p l e h = rw h.1 (record { label = p.label; val_type = h.0 }, refl, (e, h.2))

-- what a parameter stands for, as the table grows
pub param_stays : (t u : Table) → Grows t u → (l : LabelledType) (p : Param) → IsParam t.values l p → IsParam u.values l p
param_stays t u g l p h = (h.0, g.values l.val_type p.val_type h.1)

-- a part that may not be there, with its type
pub held_closed : (t : Table) (closed : List (Option Closed)) (type : ValTypeRef) (number : ℕ) → IsFoundAs (IsValue t) (Some number) (close_val closed type) → IsFoundAs (MayBeValue t.values) (Some (Some number)) (close_held closed (Some type))
held_closed t closed type number h = rw h.1 (Some h.0, refl, h.2)

-- whether a part holds a borrowed handle, if there is one
pub part_borrows : (t : Table) (number : ℕ) (held : Option ValType) (borrows : Bool) → ((type : ValType) → IsValue t number type → borrows ≡ has_borrow type) → MayBeValue t.values (Some number) held → borrows ≡ held_borrow held
part_borrows t number None borrows is h = absurd h
part_borrows t number (Some type) borrows is h = is type h

pub no_part_borrows : (t : Table) (held : Option ValType) → MayBeValue t.values None held → false ≡ held_borrow held
no_part_borrows t None h = refl
no_part_borrows t (Some type) h = absurd h

-- what passes, where it holds no borrowed handle, and where it does
pub passed_open : (closed : List (Option Closed)) (type : Option ValTypeRef) → close_held closed type ≡ None → close_passed closed type ≡ None
passed_open closed type h = rw h refl

pub passed_held : (t : Table) (closed : List (Option Closed)) (type : Option ValTypeRef) (part : Option ℕ) (borrows : Bool) → ((held : Option ValType) → MayBeValue t.values part held → borrows ≡ held_borrow held)
    → borrows ≡ false → IsFoundAs (MayBeValue t.values) (Some part) (close_held closed type) → IsFoundAs (MayBeValue t.values) (Some part) (close_passed closed type)
passed_held t closed type part borrows is none h = rw (h.1, sym (is h.0 h.2), none) (h.0, refl, h.2)

pub borrow_passed : (t : Table) (closed : List (Option Closed)) (type : Option ValTypeRef) (part : Option ℕ) (borrows : Bool) → ((held : Option ValType) → MayBeValue t.values part held → borrows ≡ held_borrow held)
    → borrows ≡ true → IsFoundAs (MayBeValue t.values) (Some part) (close_held closed type) → close_passed closed type ≡ None
borrow_passed t closed type part borrows is some h = rw (h.1, sym (is h.0 h.2), some) refl

-- the number of a resource: that of an index
resource_is : (t : Table) (ref : TypeRef) (c : Closed) → IsType t ref c → resource_ref ref ≡ resource_of c
resource_is t (type_ref.Value number) (Value v) h = refl
resource_is t (type_ref.Func ref) (Func type) h = refl
resource_is t (type_ref.Resource number) (Resource other) h = ap (λ (n : ℕ). Some n) h
resource_is t (type_ref.Instance ref) (Instance externs) h = refl
resource_is t ref c h = absurd h

resource_in : (t : Table) (o : Option (Option TypeRef)) (p : Option (Option Closed)) → IsFoundAs (IsFoundAs (IsType t)) o p → option_and_then (option_and_then resource_ref) o ≡ option_and_then (option_and_then resource_of) p
resource_in t None p h = rw h refl
resource_in t (Some None) p h = rw (h.1, h.2) refl
resource_in t (Some (Some ref)) p h = rw (h.1, h.2.1) (resource_is t ref h.2.0 h.2.2)

pub resource_stands : (t : Table) (refs : List (Option TypeRef)) (closed : List (Option Closed)) (i : ℕ) → AreTypes t refs closed → option_and_then (option_and_then resource_ref) (slice_get refs i) ≡ close_resource closed i
resource_stands t refs closed i h = resource_in t (slice_get refs i) (slice_get closed i) (found_at (IsFoundAs (IsType t)) refs closed i h)

-- what a function type comes to, by its labels, its parameters and its result
abbrev joined : Bool → Option (List Param) → Option (Option ValType) → Option Closed
joined distinct params returned =
    option_map Func (cond distinct (option_and_then (λ ps. option_map (λ r. (let f : FuncType = record { params = ps; result = r } in f)) returned) params) None)

params_missing : (distinct : Bool) (params : Option (List Param)) (returned : Option (Option ValType)) → params ≡ None → joined distinct params returned ≡ None
params_missing true params returned h = rw h refl
params_missing false params returned h = refl

result_missing : (distinct : Bool) (params : Option (List Param)) (returned : Option (Option ValType)) → returned ≡ None → joined distinct params returned ≡ None
result_missing true None returned h = refl
result_missing true (Some params) returned h = rw h refl
result_missing false params returned h = refl

joined_whole : (distinct : Bool) (params : Option (List Param)) (returned : Option (Option ValType)) (ps : List Param) (r : Option ValType) → distinct ≡ true → params ≡ Some ps → returned ≡ Some r
    → joined distinct params returned ≡ Some (Func (record { params = ps; result = r }))
joined_whole distinct params returned ps r h e f = rw (h, e, f) refl

pub params_open : (closed : List (Option Closed)) (type : read_func.FuncType) → close_params closed type.params ≡ None → option_map Func (close_func closed type) ≡ None
params_open closed type h = params_missing (is_none (first_twice (map (λ p. p.label) type.params))) (close_params closed type.params) (close_passed closed type.result) h

pub returned_open : (closed : List (Option Closed)) (type : read_func.FuncType) → close_passed closed type.result ≡ None → option_map Func (close_func closed type) ≡ None
returned_open closed type h = result_missing (is_none (first_twice (map (λ p. p.label) type.params))) (close_params closed type.params) (close_passed closed type.result) h

-- A function type with its types.
pub func_closed : (t u v : Table) (closed : List (Option Closed)) (type : read_func.FuncType) (distinct : Bool) (labels : List LabelledType) (returned : Option ℕ) (ref : FuncTypeRef)
    → Grows t u → distinct ≡ is_none (first_twice (map (λ p. p.label) type.params)) → distinct ≡ true
    → (all : List Param) × (close_params closed type.params ≡ Some all) × AllZip (IsParam t.values) labels all → IsFoundAs (MayBeValue u.values) (Some returned) (close_passed closed type.result)
    → ((f : FuncType) → IsFuncOf u.values labels returned f → IsFunc v ref f) → IsFoundAs (IsType v) (Some (type_ref.Func ref)) (option_map Func (close_func closed type))
func_closed t u v closed type distinct labels returned ref g e h p r made =
    let f : FuncType = record { params = p.0; result = r.0 } in (
      Func f,
      joined_whole (is_none (first_twice (map (λ p. p.label) type.params))) (close_params closed type.params) (close_passed closed type.result) p.0 r.0 (sym e ∙ h) p.1 r.1,
      made f (labelled_stay t u g labels p.0 p.2, r.2),
    )

-- what a function type with this means, where its indices are there
pub func_stands : (t : Table) (o : Option TypeRef) (means : Option Closed) → IsFoundAs (IsType t) o means → IsMeaning (IsType t) (record { is_there = true; missing = None; deep = false; means = o }) (meant means)
func_stands t o means h = record { is_there = refl; missing = refl; deep = refl; has_room = refl; means = h }
