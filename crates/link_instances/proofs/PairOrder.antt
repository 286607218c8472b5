-- The order of pairs tells all pairs apart.
use Rattle.std.proofs.Common.{◌≡◌, Bool, true, false, cond, refl, ap, ap₂, sym, ◌∙◌, subst, Some, None, Option}
use Rattle.std.specs.Prelude.{◌||◌, Result, Ok, Err, OnOk, OnErr}
use Rattle.std.specs.declared.cmp.Ordering.{Ordering}
use Rattle.std.specs.declared.cmp.Ordering.TheVariants.{Less, Equal, Greater}
use Rattle.std.specs.Ordering.{nat_cmp, bool_cmp, is_eq, ordering_then}
use Rattle.std.specs.Option.{option_cmp}
use Rattle.std.specs.BTreeSet.{BTreeSet, Updates}
use Rattle.std.proofs.lemmas.Map.Lookups.{exact_unsigned}
use Rattle.link_values.specs.declared.refs.InstanceTypeRef.{InstanceTypeRef}
use Rattle.link_instances.specs.declared.references.InstanceRef.{InstanceRef}
use Rattle.link_instances.specs.declared.pairs.Pair.{Pair}
use Rattle.link_values.specs.contracts.refs.InstanceTypeRefOrd.TheImpl as type_order
use Rattle.link_instances.specs.contracts.references.InstanceRefOrd.TheImpl as instance_order
use Rattle.link_instances.specs.Pairs.{pair_cmp, has_pair, same_pair}

then_equal : (o p : Ordering) → ordering_then o p ≡ Equal → (o ≡ Equal) × (p ≡ Equal)
then_equal Less p h = cc
then_equal Equal p h = (refl, h)
then_equal Greater p h = cc

option_exact : {A : Type 0} (cmp : A → A → Ordering) → ((x y : A) → cmp x y ≡ Equal → x ≡ y) → (x y : Option A) → option_cmp cmp x y ≡ Equal → x ≡ y
option_exact cmp exact None None h = refl
option_exact cmp exact None (Some y) h = cc
option_exact cmp exact (Some x) None h = cc
option_exact cmp exact (Some x) (Some y) h = ap (λ z. Some z) (exact x y h)

bool_exact : (a b : Bool) → bool_cmp a b ≡ Equal → a ≡ b
bool_exact true true h = refl
bool_exact true false h = cc
bool_exact false true h = cc
bool_exact false false h = refl

type_exact : (x y : InstanceTypeRef) → (type_order.ghosts).cmp x y ≡ Equal → x ≡ y
type_exact x y h =
    let p = then_equal (nat_cmp x.layer y.layer) (ordering_then (nat_cmp x.number y.number) (bool_cmp x.names_resource y.names_resource)) h in
    let q = then_equal (nat_cmp x.number y.number) (bool_cmp x.names_resource y.names_resource) p.1 in
    ap (λ layer. (let r : InstanceTypeRef = record { layer = layer; number = x.number; names_resource = x.names_resource } in r)) (exact_unsigned x.layer y.layer p.0)
    ∙ ap₂ (λ number names. (let r : InstanceTypeRef = record { layer = y.layer; number = number; names_resource = names } in r)) (exact_unsigned x.number y.number q.0) (bool_exact x.names_resource y.names_resource q.1)

instance_exact : (x y : InstanceRef) → (instance_order.ghosts).cmp x y ≡ Equal → x ≡ y
instance_exact x y h =
    let p = then_equal (nat_cmp x.base y.base) (option_cmp (type_order.ghosts).cmp x.seen_as y.seen_as) h in
    ap₂ (λ base seen. (let r : InstanceRef = record { base = base; seen_as = seen } in r)) (exact_unsigned x.base y.base p.0) (option_exact (type_order.ghosts).cmp type_exact x.seen_as y.seen_as p.1)

pair_exact : (x y : Pair) → pair_cmp x y ≡ Equal → x ≡ y
pair_exact x y h =
    let p = then_equal ((instance_order.ghosts).cmp x.given y.given) ((type_order.ghosts).cmp x.asked y.asked) h in
    ap₂ (λ given asked. (let r : Pair = record { given = given; asked = asked } in r)) (instance_exact x.given y.given p.0) (type_exact x.asked y.asked p.1)

is_equal : (o : Ordering) → is_eq o ≡ true → o ≡ Equal
is_equal Less h = cc
is_equal Equal h = refl
is_equal Greater h = cc

pub type_same : (x y : InstanceTypeRef) → is_eq ((type_order.ghosts).cmp x y) ≡ true → x ≡ y
type_same x y h = type_exact x y (is_equal ((type_order.ghosts).cmp x y) h)

pub instance_same : (x y : InstanceRef) → is_eq ((instance_order.ghosts).cmp x y) ≡ true → x ≡ y
instance_same x y h = instance_exact x y (is_equal ((instance_order.ghosts).cmp x y) h)

pub pair_same : (p q : Pair) → same_pair p q ≡ true → p ≡ q
pair_same p q h = pair_exact p q (is_equal (pair_cmp p q) h)

or_cond : (a b : Bool) → cond a true b ≡ (a || b)
or_cond true b = refl
or_cond false b = refl

-- What pairs are there once one is added.
pub inserted : (p : Pair) (old new : BTreeSet Pair) → Updates pair_cmp old new p true → (q : Pair) → has_pair new q ≡ (same_pair p q || has_pair old q)
inserted p old new h q = h.0 q ∙ or_cond (same_pair p q) (has_pair old q)

-- What holds of all pairs among some holds also with one more of which it holds.
pub one_more : (P : Pair → Type 0) (old new : BTreeSet Pair) (p : Pair) → ((q : Pair) → has_pair new q ≡ (same_pair p q || has_pair old q))
    → ((q : Pair) → has_pair old q ≡ true → P q) → P p → (q : Pair) → has_pair new q ≡ true → P q
one_more P old new p is all this q h = by (same_pair p q) refl (sym (is q) ∙ h)
  where
    by : (b : Bool) → same_pair p q ≡ b → (b || has_pair old q) ≡ true → P q
    by true same k = subst P (pair_same p q same) this
    by false same k = all q k

pub no_more : (P : Pair → Type 0) (old new : BTreeSet Pair) → new.keys ≡ old.keys → ((q : Pair) → has_pair old q ≡ true → P q) → (q : Pair) → has_pair new q ≡ true → P q
no_more P old new same all q h = all q (has_same ∙ h)
  where
    has_same : has_pair old q ≡ has_pair new q
    has_same = rw same refl

pub more_or_same : {X E : Type 0} (P : Pair → Type 0) (old new : BTreeSet Pair) (p : Pair) (r : Result X E)
    → OnOk r ((q : Pair) → has_pair new q ≡ (same_pair p q || has_pair old q)) → OnErr r (new.keys ≡ old.keys)
    → ((q : Pair) → has_pair old q ≡ true → P q) → P p → (q : Pair) → has_pair new q ≡ true → P q
more_or_same P old new p (Ok x) ok err all this = one_more P old new p ok all this
more_or_same P old new p (Err e) ok err all this = no_more P old new err all
