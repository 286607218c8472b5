-- The order of layers tells all layers apart.
use Rattle.std.proofs.Common.{◌≡◌, ℕ, true, refl, ap, Some, None, Option}
use Rattle.std.specs.declared.cmp.Ordering.{Ordering}
use Rattle.std.specs.declared.cmp.Ordering.TheVariants.{Less, Equal, Greater}
use Rattle.std.specs.Ordering.{nat_cmp, is_eq, ordering_then}
use Rattle.std.specs.Option.{option_cmp}
use Rattle.std.specs.BTreeMap.{BTreeMap, Updates}
use Rattle.std.specs.Map.{update}
use Rattle.std.proofs.lemmas.Cmp.{tied_itself}
use Rattle.std.proofs.lemmas.Map.Lookups.{exact_unsigned}
use Rattle.link_values.specs.declared.layers.TypeLayer.{TypeLayer}
use Rattle.link_values.specs.declared.layers.TypeLayer.TheVariants as of_type
use Rattle.link_values.specs.declared.layers.ExternLayer.{ExternLayer}
use Rattle.link_values.specs.declared.layers.ExternLayer.TheVariants as of_extern
use Rattle.link_values.specs.declared.layers.Layer.{Layer}
use Rattle.link_values.specs.declared.layers.Layer.TheVariants as layer
use Rattle.link_values.specs.contracts.layers.TypeLayerOrd.TheImpl as type_order
use Rattle.link_values.specs.contracts.layers.ExternLayerOrd.TheImpl as extern_order
use Rattle.link_values.specs.contracts.layers.LayerOrd.TheImpl.Laws as laws
use Rattle.link_values.specs.Order.{layer_cmp, number_in}

then_equal : (o p : Ordering) → ordering_then o p ≡ Equal → (o ≡ Equal) × (p ≡ Equal)
then_equal Less p h = cc
then_equal Equal p h = (refl, h)
then_equal Greater p h = cc

type_exact : (x y : TypeLayer) → (type_order.ghosts).cmp x y ≡ Equal → x ≡ y
type_exact (of_type.Value x) (of_type.Value y) h = let e = exact_unsigned x y h in cc
type_exact (of_type.Func x) (of_type.Func y) h = let e = exact_unsigned x y h in cc
type_exact (of_type.Resource x) (of_type.Resource y) h = let e = exact_unsigned x y h in cc
type_exact (of_type.Instance x) (of_type.Instance y) h = let e = exact_unsigned x y h in cc
type_exact x y h = cc

extern_exact : (x y : ExternLayer) → (extern_order.ghosts).cmp x y ≡ Equal → x ≡ y
extern_exact (of_extern.Func x) (of_extern.Func y) h = let e = exact_unsigned x y h in cc
extern_exact (of_extern.Type x) (of_extern.Type y) h = let e = type_exact x y h in cc
extern_exact (of_extern.Instance x) (of_extern.Instance y) h = let e = exact_unsigned x y h in cc
extern_exact x y h = cc

option_exact : (x y : Option ℕ) → option_cmp nat_cmp x y ≡ Equal → x ≡ y
option_exact None None h = refl
option_exact None (Some y) h = cc
option_exact (Some x) None h = cc
option_exact (Some x) (Some y) h = ap (λ z. Some z) (exact_unsigned x y h)

pub layer_exact : (x y : Layer) → layer_cmp x y ≡ Equal → x ≡ y
layer_exact layer.NoParams layer.NoParams h = refl
layer_exact (layer.Param label type others) (layer.Param label' type' others') h =
    let p = then_equal (nat_cmp label label') (ordering_then (nat_cmp type type') (nat_cmp others others')) h in
    let q = then_equal (nat_cmp type type') (nat_cmp others others') p.1 in
    let a = exact_unsigned label label' p.0 in
    let b = exact_unsigned type type' q.0 in
    let d = exact_unsigned others others' q.1 in
    cc
layer_exact (layer.Func params returned) (layer.Func params' returned') h =
    let p = then_equal (nat_cmp params params') (option_cmp nat_cmp returned returned') h in
    let a = exact_unsigned params params' p.0 in
    let b = option_exact returned returned' p.1 in
    cc
layer_exact layer.NoExterns layer.NoExterns h = refl
layer_exact (layer.Extern before name item) (layer.Extern before' name' item') h =
    let p = then_equal (nat_cmp before before') (ordering_then (nat_cmp name name') ((extern_order.ghosts).cmp item item')) h in
    let q = then_equal (nat_cmp name name') ((extern_order.ghosts).cmp item item') p.1 in
    let a = exact_unsigned before before' p.0 in
    let b = exact_unsigned name name' q.0 in
    let d = extern_exact item item' q.1 in
    cc
layer_exact x y h = cc

is_equal : (o : Ordering) → is_eq o ≡ true → o ≡ Equal
is_equal Less h = cc
is_equal Equal h = refl
is_equal Greater h = cc

pub layer_same : (x y : Layer) → is_eq (layer_cmp x y) ≡ true → x ≡ y
layer_same x y h = layer_exact x y (is_equal (layer_cmp x y) h)

pub layer_itself : (x : Layer) → is_eq (layer_cmp x x) ≡ true
layer_itself x = ap is_eq (tied_itself laws.total-law x)

-- What a map by layers has once a layer is put in.
pub layer_put : (m n : BTreeMap Layer ℕ) (x : Layer) (w : Option ℕ) → Updates layer_cmp m n x w → (q : Layer) → number_in n q ≡ update (λ y z. is_eq (layer_cmp y z)) (number_in m) x w q
layer_put m n x w h q = h.0 q
