-- What stands under a name.
use Rattle.std.proofs.Common.{◌≡◌, ℕ, Bool, true, false, cond, List, [], ◌∷◌, ◌++◌, refl, sym, ◌∙◌, subst, arith, Option, Some, None}
use Rattle.std.specs.Prelude.{◌==◌}
use Rattle.std.specs.List.{slice_get, AllZip}
use Rattle.std.specs.Str.{bytes_eq}
use Rattle.std.proofs.lemmas.Bool.Decides.{nat_tests}
use Rattle.std.proofs.lemmas.Slice.Eq.{bytes_eq-Decides}
use Rattle.comp_graph.specs.Closed.{Extern, Externs, first_of, extern_named}
use Rattle.link_spec.specs.Definitions.{Definition, Exports, EmptyInstance, WithExport, export_named, Fits, FitAll, seen_as, seen_exports}
use Rattle.link_values.specs.declared.refs.InstanceTypeRef.{InstanceTypeRef}
use Rattle.link_values.specs.declared.refs.ExternRef.{ExternRef}
use Rattle.link_instances.specs.declared.references.InstanceRef.{InstanceRef}
use Rattle.link_instances.specs.declared.references.DefinitionRef.{DefinitionRef}
use Rattle.link_types.specs.Numbering.{AreApart}
use Rattle.link_values.specs.Listed.{item_named}
use Rattle.link_types.specs.Table.{Table}
use Rattle.link_types.specs.Table.{IsInstanceType}
use Rattle.link_instances.specs.References.{World, IsSeen, IsInstance, listed, IsEntry, IsListing, IsFound, seen_found}
use Rattle.link_instances.specs.Views.{seen_under}
use Rattle.link_instances.proofs.Views.{first_assoc, first_none, fit_named, seen_named}
use Rattle.link_instances.proofs.Asking.{IsAsked}
use Rattle.link_instances.proofs.Standing.{stands_seen}

-- the first of a name in a list
named_in : List ℕ → List (List ℕ × Definition) → Option Definition
named_in q [] = None
named_in q (e ∷ es) = first_of (cond (bytes_eq e.0 q) (Some e.1) None) (named_in q es)

named_append : (q : List ℕ) (xs ys : List (List ℕ × Definition)) → named_in q (xs ++ ys) ≡ first_of (named_in q xs) (named_in q ys)
unfolding named_in
named_append q [] ys = refl
named_append q (x ∷ xs) ys = rw (named_append q xs ys) (first_assoc (cond (bytes_eq x.0 q) (Some x.1) None) (named_in q xs) (named_in q ys))

named_listed : (q : List ℕ) (exports : Exports) → export_named q exports ≡ named_in q (listed exports)
unfolding named_in
named_listed q EmptyInstance = refl
named_listed q (WithExport others name d) =
    rw (named_append q (listed others) ((name, d) ∷ []), ← named_listed q others, first_none (cond (bytes_eq name q) (Some d) None)) refl

same_number : (a b : ℕ) → (a == b) ≡ true → a ≡ b
same_number a b h = grind (arith, nat_tests)

number_same : (a b : ℕ) → a ≡ b → (a == b) ≡ true
number_same a b h = grind (arith, nat_tests)

-- under the number of a name stands what stands under the name
found_in : (t : Table) (w : World) → AreApart t.texts → (n : ℕ) (q : List ℕ) → slice_get t.texts n ≡ Some q
    → (entries : List (ℕ × DefinitionRef)) (es : List (List ℕ × Definition)) → AllZip (IsEntry t w) entries es → IsFound t w (item_named n entries) (named_in q es)
unfolding named_in
found_in t w apart n q text [] [] h = refl
found_in t w apart n q text [] (e ∷ es) h = absurd h
found_in t w apart n q text (entry ∷ entries) [] h = absurd h
found_in t w apart n q text (entry ∷ entries) (e ∷ es) h =
    by (entry.0 == n) refl (bytes_eq e.0 q) refl (found_in t w apart n q text entries es h.1)
  where
    by : (a : Bool) → (entry.0 == n) ≡ a → (b : Bool) → bytes_eq e.0 q ≡ b → IsFound t w (item_named n entries) (named_in q es)
        → IsFound t w (cond a (Some entry.1) (item_named n entries)) (first_of (cond b (Some e.1) None) (named_in q es))
    by true p true k rest = (e.1, refl, h.0.1)
    by false p false k rest = rest
    by true p false k rest =
        let number : entry.0 ≡ n = same_number entry.0 n p in
        let there : slice_get t.texts n ≡ Some e.0 = subst (λ (m : ℕ). slice_get t.texts m ≡ Some e.0) number h.0.0 in
        let name : e.0 ≡ q = cc in
        let same : bytes_eq e.0 q ≡ true = (bytes_eq-Decides e.0 q).1 name in
        let no : false ≡ true = sym k ∙ same in
        cc
    by false p true k rest =
        let name : e.0 ≡ q = (bytes_eq-Decides e.0 q).0 k in
        let there : slice_get t.texts entry.0 ≡ Some q = subst (λ (name : List ℕ). slice_get t.texts entry.0 ≡ Some name) name h.0.0 in
        let number : entry.0 ≡ n = apart entry.0 n q there text in
        let same : (entry.0 == n) ≡ true = number_same entry.0 n number in
        let no : false ≡ true = sym p ∙ same in
        cc

pub listing_found : (t : Table) (w : World) → AreApart t.texts → (n : ℕ) (q : List ℕ) → slice_get t.texts n ≡ Some q
    → (entries : List (ℕ × DefinitionRef)) (exports : Exports) → IsListing t w entries exports → IsFound t w (item_named n entries) (export_named q exports)
listing_found t w apart n q text entries exports h = rw (named_listed q exports) (found_in t w apart n q text entries (listed exports) h)

-- what is found in an instance that is seen as a type
view_found : (t : Table) (w : World) (q : List ℕ) (base : Exports) (asked : Externs) (o : Option DefinitionRef) (x : Option ExternRef)
    → FitAll base asked → IsFound t w o (export_named q base) → IsAsked t x (extern_named q asked) → IsFound t w (seen_found o x) (export_named q (seen_exports base asked))
view_found t w q base asked None None fit found k = rw (seen_named q base asked fit, found, k) refl
view_found t w q base asked None (Some r) fit found (x, named, stands) = rw (seen_named q base asked fit, found, named) refl
view_found t w q base asked (Some d) None fit found k = rw (seen_named q base asked fit, k) refl
view_found t w q base asked (Some d) (Some r) fit (e, is, for) (x, named, stands) =
    let p = fit_named q base asked x fit named in
    let one : p.0 ≡ e = (let both : Some p.0 ≡ Some e = sym p.1 ∙ is in cc) in
    let fits = subst (λ (e : Definition). Fits e x) one p.2 in
    (seen_as e x, rw (seen_named q base asked fit, is, named) refl, stands_seen t w d r e x for stands fits)

-- what is found in an instance, by what is found in its base
pub base_lacks : (t : Table) (w : World) (q : List ℕ) (i : InstanceRef) (exports : Exports) (h : IsInstance t w i exports) → export_named q h.base ≡ None → export_named q exports ≡ None
base_lacks t w q i exports h none = by i.seen_as h.seen
  where
    under : (o : Option Extern) → seen_under (export_named q h.base) o ≡ None
    under None = refl
    under (Some e) = rw none refl

    by : (s : Option InstanceTypeRef) → IsSeen t h.base s exports → export_named q exports ≡ None
    by None is = subst (λ (exports : Exports). export_named q exports ≡ None) (sym is) none
    by (Some r) (wanted, type, fit, is) = subst (λ (exports : Exports). export_named q exports ≡ None) (sym is) (seen_named q h.base wanted fit ∙ under (extern_named q wanted))

pub base_has : (t : Table) (w : World) (q : List ℕ) (i : InstanceRef) (exports : Exports) (o : Option DefinitionRef) (h : IsInstance t w i exports)
    → i.seen_as ≡ None → IsFound t w o (export_named q h.base) → IsFound t w o (export_named q exports)
base_has t w q i exports o h plain found = by i.seen_as plain h.seen
  where
    by : (s : Option InstanceTypeRef) → s ≡ None → IsSeen t h.base s exports → IsFound t w o (export_named q exports)
    by None e is = subst (λ (exports : Exports). IsFound t w o (export_named q exports)) (sym is) found
    by (Some r) e is = cc

pub view_has : (t : Table) (w : World) (q : List ℕ) (i : InstanceRef) (exports : Exports) (o : Option DefinitionRef) (x : Option ExternRef) (h : IsInstance t w i exports) (r : InstanceTypeRef)
    → i.seen_as ≡ Some r → IsFound t w o (export_named q h.base) → ((asked : Externs) → IsInstanceType t r asked → IsAsked t x (extern_named q asked))
    → IsFound t w (seen_found o x) (export_named q exports)
view_has t w q i exports o x h r seen found asked = by i.seen_as seen h.seen
  where
    by : (s : Option InstanceTypeRef) → s ≡ Some r → IsSeen t h.base s exports → IsFound t w (seen_found o x) (export_named q exports)
    by None e is = cc
    by (Some s) e (wanted, type, fit, is) =
        let same : s ≡ r = cc in
        subst (λ (exports : Exports). IsFound t w (seen_found o x) (export_named q exports)) (sym is)
        (view_found t w q h.base wanted o x fit found (asked wanted (subst (λ (s : InstanceTypeRef). IsInstanceType t s wanted) same type)))
