-- What a type of instances asks for, place by place.
use Rattle.std.proofs.Common.{◌≡◌, ◌<◌, ◌≤◌, ℕ, zero, suc, ◌+◌, Bool, true, false, not, ◌&&◌, List, [], ◌∷◌, ◌++◌, length, take, drop, refl, sym, ap, subst, ◌∙◌, arith, Option, Some, None}
use Rattle.std.specs.List.{slice_get, AllZip, list_all, flat_map}
use Rattle.std.proofs.lemmas.List.Folds.{list_all-append}
use Rattle.std.proofs.lemmas.List.Concat.{flat_map-append}
use Rattle.std.proofs.lemmas.Option.{slice_get_past}
use Rattle.comp_graph.specs.Closed.{Closed, Extern, OfFunc, OfType, OfInstance, Externs, EmptyType, WithExtern, names_resource}
use Rattle.link_spec.specs.Definitions.{Definition, AType, types_of}
use Rattle.link_spec.specs.Tests.{are_types}
use Rattle.link_values.specs.declared.refs.FuncTypeRef.{FuncTypeRef}
use Rattle.link_values.specs.declared.refs.InstanceTypeRef.{InstanceTypeRef}
use Rattle.link_values.specs.declared.refs.TypeRef.{TypeRef}
use Rattle.link_values.specs.declared.refs.ExternRef.{ExternRef}
use Rattle.link_values.specs.declared.refs.ExternRef.TheVariants as extern_ref
use Rattle.link_types.specs.Table.{Table, IsType, IsExtern, MayBeEntry, in_order}
use Rattle.link_instances.specs.declared.references.DefinitionRef.{DefinitionRef}
use Rattle.link_instances.specs.References.{World, listed, IsEntry, IsListing}
use Rattle.link_instances.specs.OfTypes.{is_plain, type_listed}
use Rattle.link_instances.proofs.Places.{drop_at, drop_past, take_at, take_past, zips_append}

-- A type that names no resource, among what is asked for.
abbrev pub is_type : List ℕ × Extern → Bool
is_type e = is_plain e.1

and_true : (b : Bool) → (b && true) ≡ b
and_true true = refl
and_true false = refl

and_false : (b : Bool) → (b && false) ≡ false
and_false true = refl
and_false false = refl

pub types_listed : (externs : Externs) → are_types externs ≡ list_all is_type (in_order externs)
types_listed EmptyType = refl
types_listed (WithExtern others name (OfType type)) = rw (list_all-append is_type (in_order others) ((name, OfType type) ∷ []), ← types_listed others, and_true (not (names_resource type))) refl
types_listed (WithExtern others name (OfFunc type)) = rw (list_all-append is_type (in_order others) ((name, OfFunc type) ∷ []), and_false (list_all is_type (in_order others))) refl
types_listed (WithExtern others name (OfInstance inner)) = rw (list_all-append is_type (in_order others) ((name, OfInstance inner) ∷ []), and_false (list_all is_type (in_order others))) refl

-- the definition of a type that is asked for
abbrev pub type_entry : List ℕ × Extern → List (List ℕ × Definition)
type_entry (name, OfFunc type) = []
type_entry (name, OfType type) = (name, AType type) ∷ []
type_entry (name, OfInstance externs) = []

append_none : {A : Type 0} (xs : List A) → xs ++ [] ≡ xs
append_none [] = refl
append_none (x ∷ xs) = ap (λ zs. x ∷ zs) (append_none xs)

pub types_in_order : (externs : Externs) → listed (types_of externs) ≡ flat_map type_entry (in_order externs)
types_in_order EmptyType = refl
types_in_order (WithExtern others name (OfType type)) = rw (flat_map-append type_entry (in_order others) ((name, OfType type) ∷ []), ← types_in_order others) refl
types_in_order (WithExtern others name (OfFunc type)) = rw (flat_map-append type_entry (in_order others) ((name, OfFunc type) ∷ []), ← types_in_order others) (sym (append_none (listed (types_of others))))
types_in_order (WithExtern others name (OfInstance inner)) = rw (flat_map-append type_entry (in_order others) ((name, OfInstance inner) ∷ []), ← types_in_order others) (sym (append_none (listed (types_of others))))

-- a place within a list
get_within : {A : Type 0} (xs : List A) (k : ℕ) → k < length xs → (x : A) × (slice_get xs k ≡ Some x)
get_within [] k h = absurd (omega (arith, h))
get_within (x ∷ xs) zero h = (x, refl)
get_within (x ∷ xs) (suc k) h = get_within xs k (omega (arith, h))

-- Whether what stands at a place is such a type.
pub type_plain : (t : Table) (ref : TypeRef) (b : Bool) → ((type : Closed) → IsType t ref type → b ≡ names_resource type) → (extern : Extern) → IsExtern t (extern_ref.Type ref) extern → not b ≡ is_plain extern
type_plain t ref b h (OfFunc type) k = absurd k
type_plain t ref b h (OfType type) k = ap not (h type k)
type_plain t ref b h (OfInstance externs) k = absurd k

pub func_not_plain : (t : Table) (ref : FuncTypeRef) (extern : Extern) → IsExtern t (extern_ref.Func ref) extern → false ≡ is_plain extern
func_not_plain t ref (OfFunc type) k = refl
func_not_plain t ref (OfType type) k = absurd k
func_not_plain t ref (OfInstance externs) k = refl

pub instance_not_plain : (t : Table) (ref : InstanceTypeRef) (extern : Extern) → IsExtern t (extern_ref.Instance ref) extern → false ≡ is_plain extern
instance_not_plain t ref (OfFunc type) k = refl
instance_not_plain t ref (OfType type) k = absurd k
instance_not_plain t ref (OfInstance externs) k = refl

pub entry_plain : (t : Table) (name : ℕ) (ref : ExternRef) (b : Bool) → ((extern : Extern) → IsExtern t ref extern → b ≡ is_plain extern) → (asked : List ℕ × Extern) → MayBeEntry t (Some (name, ref)) (Some asked) → b ≡ is_plain asked.1
entry_plain t name ref b h asked k = h asked.1 k.1

pub none_plain : (t : Table) (asked : List ℕ × Extern) → MayBeEntry t None (Some asked) → false ≡ is_plain asked.1
none_plain t asked k = absurd k

-- what stands at a place, as what the root is given
entries_told : (t : Table) (w : World) (o : Option (ℕ × ExternRef)) (e : List ℕ × Extern) → MayBeEntry t o (Some e) → AllZip (IsEntry t w) (type_listed o) (type_entry e)
entries_told t w None e h = absurd h
entries_told t w (Some (name, extern_ref.Type closed)) (text, OfType type) h = (h, tt)
entries_told t w (Some (name, extern_ref.Type closed)) (text, OfFunc func) h = absurd h.1
entries_told t w (Some (name, extern_ref.Type closed)) (text, OfInstance inner) h = absurd h.1
entries_told t w (Some (name, extern_ref.Func r)) (text, OfFunc func) h = tt
entries_told t w (Some (name, extern_ref.Func r)) (text, OfType type) h = absurd h.1
entries_told t w (Some (name, extern_ref.Func r)) (text, OfInstance inner) h = absurd h.1
entries_told t w (Some (name, extern_ref.Instance r)) (text, OfInstance inner) h = tt
entries_told t w (Some (name, extern_ref.Instance r)) (text, OfFunc func) h = absurd h.1
entries_told t w (Some (name, extern_ref.Instance r)) (text, OfType type) h = absurd h.1

module _ (t : Table) (externs : Externs) (at : ℕ) (within : at < length (in_order externs)) (o : Option (ℕ × ExternRef)) (told : MayBeEntry t o (slice_get (in_order externs) at)) where
  here : (e : List ℕ × Extern) × (slice_get (in_order externs) at ≡ Some e)
  here = get_within (in_order externs) at within

  told_here : MayBeEntry t o (Some here.0)
  told_here = subst (λ (p : Option (List ℕ × Extern)). MayBeEntry t o p) here.1 told

  -- one more that is given
  pub given_next : (w : World) (listing : List (ℕ × DefinitionRef)) → AllZip (IsEntry t w) listing (flat_map type_entry (take at (in_order externs)))
      → AllZip (IsEntry t w) (listing ++ type_listed o) (flat_map type_entry (take (at + 1) (in_order externs)))
  given_next w listing h =
      let more : flat_map type_entry (take (at + 1) (in_order externs)) ≡ flat_map type_entry (take at (in_order externs)) ++ type_entry here.0 =
      ap (flat_map type_entry) (take_at (in_order externs) at here.0 here.1) ∙ flat_map-append type_entry (take at (in_order externs)) (here.0 ∷ []) ∙ ap (λ (es : List (List ℕ × Definition)). flat_map type_entry (take at (in_order externs)) ++ es) (append_none (type_entry here.0)) in
      subst (λ (es : List (List ℕ × Definition)). AllZip (IsEntry t w) (listing ++ type_listed o) es) (sym more)
      (zips_append (IsEntry t w) listing (type_listed o) (flat_map type_entry (take at (in_order externs))) (type_entry here.0) h (entries_told t w o here.0 told_here))

  -- one more that is such a type, or is none
  pub types_next : (b : Bool) → ((asked : List ℕ × Extern) → MayBeEntry t o (Some asked) → b ≡ is_plain asked.1) → list_all is_type (drop at (in_order externs)) ≡ (b && list_all is_type (drop (at + 1) (in_order externs)))
  types_next b is = rw (drop_at (in_order externs) at here.0 here.1) (ap (λ (c : Bool). c && list_all is_type (drop (at + 1) (in_order externs))) (sym (is here.0 told_here)))

-- All are gone through.
pub all_given : (t : Table) (w : World) (externs : Externs) (count at : ℕ) → count ≡ length (in_order externs) → count ≤ at → (listing : List (ℕ × DefinitionRef))
    → AllZip (IsEntry t w) listing (flat_map type_entry (take at (in_order externs))) → IsListing t w listing (types_of externs)
all_given t w externs count at is past listing h =
    let whole : flat_map type_entry (take at (in_order externs)) ≡ listed (types_of externs) =
    ap (flat_map type_entry) (take_past (in_order externs) at (slice_get_past (in_order externs) at (omega (arith, is, past)))) ∙ sym (types_in_order externs) in
    subst (λ (es : List (List ℕ × Definition)). AllZip (IsEntry t w) listing es) whole h

pub all_types : (externs : Externs) (count at : ℕ) → count ≡ length (in_order externs) → count ≤ at → list_all is_type (drop at (in_order externs)) ≡ true
all_types externs count at is past = rw (drop_past (in_order externs) at (slice_get_past (in_order externs) at (omega (arith, is, past)))) refl
