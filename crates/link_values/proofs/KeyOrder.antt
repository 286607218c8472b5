-- The order of keys tells apart what differs in form, labels or parts.
use Rattle.std.proofs.Common.{◌≡◌, ◌∙◌, ℕ, Bool, true, cond, List, [], ◌∷◌, map, refl, ap, sym, Some, None, Option}
use denote.Enum.Bare.{same_true}
use Rattle.std.specs.declared.cmp.Ordering.{Ordering}
use Rattle.std.specs.declared.cmp.Ordering.TheVariants.{Less, Equal, Greater}
use Rattle.std.specs.Ordering.{nat_cmp, is_eq, ordering_then}
use Rattle.std.specs.Cmp.Lexicographic.{slice_cmp}
use Rattle.std.specs.Option.{option_cmp}
use Rattle.std.specs.BTreeMap.{BTreeMap, is_at}
use Rattle.std.specs.Map.{lookup}
use Rattle.std.proofs.lemmas.Cmp.{tied_itself, tied_back, nat_cmp_total}
use Rattle.std.proofs.lemmas.Map.Lookups.{exact_unsigned}
use Rattle.link_values.specs.declared.keys.Form.{Form}
use Rattle.link_values.specs.declared.keys.ValueKey.{ValueKey}
use Rattle.link_values.specs.contracts.keys.Form.{the_type}
use Rattle.link_values.specs.contracts.keys.FormOrd.TheImpl as form_order
use Rattle.link_values.specs.contracts.keys.FormOrd.TheImpl.Laws as form_laws
use Rattle.link_values.specs.contracts.keys.ValueKeyOrd.TheImpl.Laws as laws
use Rattle.link_values.specs.Keyed.{key_cmp, number_in}
use Rattle.link_values.proofs.ListOrder.{then_equal, both_equal, list_exact, list_tied}

pub is_equal : (o : Ordering) → is_eq o ≡ true → o ≡ Equal
is_equal Less h = cc
is_equal Equal h = refl
is_equal Greater h = cc

form_exact : (x y : Form) → (form_order.ghosts).cmp x y ≡ Equal → x ≡ y
form_exact x y h = same_true the_type tt x y (form_laws.matches_eq-law x y ∙ ap is_eq h)

option_exact : (x y : Option ℕ) → option_cmp nat_cmp x y ≡ Equal → x ≡ y
option_exact None None h = refl
option_exact None (Some y) h = cc
option_exact (Some x) None h = cc
option_exact (Some x) (Some y) h = ap (λ z. Some z) (exact_unsigned x y h)

option_tied : (x y : Option ℕ) → x ≡ y → option_cmp nat_cmp x y ≡ Equal
option_tied None None h = refl
option_tied None (Some y) h = cc
option_tied (Some x) None h = cc
option_tied (Some x) (Some y) h = let e : x ≡ y = cc in rw e (tied_itself nat_cmp_total y)

map_itself : {A : Type 0} (xs : List A) → map (λ (x : A). x) xs ≡ xs
map_itself [] = refl
map_itself (x ∷ xs) = ap (λ ys. x ∷ ys) (map_itself xs)

abbrev parts_cmp : ValueKey → ValueKey → Ordering
parts_cmp x y = slice_cmp (option_cmp nat_cmp) x.parts.items y.parts.items

-- Keys that are equal by their order, and back.
pub key_exact : (x y : ValueKey) → key_cmp x y ≡ Equal → (x.form ≡ y.form) × (x.resource ≡ y.resource) × (x.labels ≡ y.labels) × (x.parts.items ≡ y.parts.items)
key_exact x y h =
    let p = then_equal ((form_order.ghosts).cmp x.form y.form) (ordering_then (nat_cmp x.resource y.resource) (ordering_then (nat_cmp x.labels y.labels) (parts_cmp x y))) h in
    let q = then_equal (nat_cmp x.resource y.resource) (ordering_then (nat_cmp x.labels y.labels) (parts_cmp x y)) p.1 in
    let r = then_equal (nat_cmp x.labels y.labels) (parts_cmp x y) q.1 in (
      form_exact x.form y.form p.0,
      exact_unsigned x.resource y.resource q.0,
      exact_unsigned x.labels y.labels r.0,
      sym (map_itself x.parts.items) ∙ list_exact (option_cmp nat_cmp) (λ (p : Option ℕ). p) option_exact x.parts.items y.parts.items r.1 ∙ map_itself y.parts.items,
    )

pub key_tied : (x y : ValueKey) → x.form ≡ y.form → x.resource ≡ y.resource → x.labels ≡ y.labels → x.parts.items ≡ y.parts.items → key_cmp x y ≡ Equal
key_tied x y e r f g =
    let form_tied : (form_order.ghosts).cmp x.form y.form ≡ Equal = rw e (tied_itself form_laws.total-law y.form) in
    let resource_tied : nat_cmp x.resource y.resource ≡ Equal = rw r (tied_itself nat_cmp_total y.resource) in
    let labels_tied : nat_cmp x.labels y.labels ≡ Equal = rw f (tied_itself nat_cmp_total y.labels) in
    let parts_tied = list_tied (option_cmp nat_cmp) (λ (p : Option ℕ). p) option_tied x.parts.items y.parts.items (map_itself x.parts.items ∙ g ∙ sym (map_itself y.parts.items)) in
    both_equal ((form_order.ghosts).cmp x.form y.form) (ordering_then (nat_cmp x.resource y.resource) (ordering_then (nat_cmp x.labels y.labels) (parts_cmp x y))) form_tied
    (both_equal (nat_cmp x.resource y.resource) (ordering_then (nat_cmp x.labels y.labels) (parts_cmp x y)) resource_tied
    (both_equal (nat_cmp x.labels y.labels) (parts_cmp x y) labels_tied parts_tied))

-- What a map has at equal keys is the same.
lookup_alike : {K X : Type 0} (p q : K → Bool) → ((k : K) → p k ≡ q k) → (es : List (K × X)) → lookup p es ≡ lookup q es
lookup_alike p q alike [] = refl
lookup_alike p q alike (e ∷ es) = ap (λ b. cond b (Some e.1) (lookup p es)) (alike e.0) ∙ ap (cond (q e.0) (Some e.1)) (lookup_alike p q alike es)

pub cmp_alike : (x y z : ValueKey) → key_cmp x y ≡ Equal → key_cmp x z ≡ key_cmp y z
cmp_alike x y z h = laws.total-law.congr x y z h

pub cmp_itself : (x : ValueKey) → key_cmp x x ≡ Equal
cmp_itself x = tied_itself laws.total-law x

pub cmp_back : (x y : ValueKey) → key_cmp x y ≡ Equal → key_cmp y x ≡ Equal
cmp_back x y h = tied_back laws.total-law x y h

pub number_alike : (m : BTreeMap ValueKey ℕ) (x y : ValueKey) → key_cmp x y ≡ Equal → number_in m x ≡ number_in m y
number_alike m x y h = lookup_alike (is_at (key_cmp x)) (is_at (key_cmp y)) (λ z. ap is_eq (cmp_alike x y z h)) m.entries
