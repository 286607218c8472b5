-- References that are found equal are the same.
use Rattle.std.proofs.Common.{◌≡◌, ℕ, Bool, true, false, ◌&&◌, List, [], ◌∷◌, refl, ap, ap₂, ◌∙◌}
use Rattle.std.specs.Prelude.{◌==◌}
use mathlib.Core.Bool.{beq}
use Rattle.std.specs.Cmp.Lexicographic.{pointwise}
use Rattle.std.proofs.lemmas.Bool.Decides.{Decides-eqb}
use Rattle.link_values.specs.declared.refs.FuncTypeRef.{FuncTypeRef}
use Rattle.link_values.specs.declared.refs.InstanceTypeRef.{InstanceTypeRef}
use Rattle.link_values.specs.declared.refs.TypeRef.{TypeRef}
use Rattle.link_values.specs.declared.refs.TypeRef.TheVariants as type_ref
use Rattle.link_values.specs.declared.refs.ExternRef.{ExternRef}
use Rattle.link_values.specs.declared.refs.ExternRef.TheVariants as extern_ref
use Rattle.link_values.specs.contracts.refs.FuncTypeRefPartialEq.TheImpl as func_eq
use Rattle.link_values.specs.contracts.refs.InstanceTypeRefPartialEq.TheImpl as instance_eq
use Rattle.link_values.specs.contracts.refs.TypeRefPartialEq.TheImpl as type_eq
use Rattle.link_values.specs.contracts.refs.ExternRefPartialEq.TheImpl as extern_eq

both : (a b : Bool) → (a && b) ≡ true → (a ≡ true) × (b ≡ true)
both true b h = (refl, h)
both false b h = cc

bools_same : (a b : Bool) → beq a b ≡ true → a ≡ b
bools_same true true h = refl
bools_same true false h = cc
bools_same false true h = cc
bools_same false false h = refl

func_same : (x y : FuncTypeRef) → (func_eq.ghosts).eq x y ≡ true → x ≡ y
func_same x y h =
    let p = both (x.layer == y.layer) (x.number == y.number) h in
    ap₂ (λ layer number. (let r : FuncTypeRef = record { layer = layer; number = number } in r)) ((Decides-eqb x.layer y.layer).0 p.0) ((Decides-eqb x.number y.number).0 p.1)

instance_same : (x y : InstanceTypeRef) → (instance_eq.ghosts).eq x y ≡ true → x ≡ y
instance_same x y h =
    let p = both (x.layer == y.layer) ((x.number == y.number) && beq x.names_resource y.names_resource) h in
    let q = both (x.number == y.number) (beq x.names_resource y.names_resource) p.1 in
    let layers : x.layer ≡ y.layer = (Decides-eqb x.layer y.layer).0 p.0 in
    let numbers : x.number ≡ y.number = (Decides-eqb x.number y.number).0 q.0 in
    let named : x.names_resource ≡ y.names_resource = bools_same x.names_resource y.names_resource q.1 in
    ap (λ (layer : ℕ). (let r : InstanceTypeRef = record { layer = layer; number = x.number; names_resource = x.names_resource } in r)) layers
    ∙ ap₂ (λ (number : ℕ) (names : Bool). (let r : InstanceTypeRef = record { layer = y.layer; number = number; names_resource = names } in r)) numbers named

type_same : (x y : TypeRef) → (type_eq.ghosts).eq x y ≡ true → x ≡ y
type_same (type_ref.Value x) (type_ref.Value y) h = ap (λ (k : ℕ). type_ref.Value k) ((Decides-eqb x y).0 h)
type_same (type_ref.Func x) (type_ref.Func y) h = ap (λ (r : FuncTypeRef). type_ref.Func r) (func_same x y h)
type_same (type_ref.Resource x) (type_ref.Resource y) h = ap (λ (k : ℕ). type_ref.Resource k) ((Decides-eqb x y).0 h)
type_same (type_ref.Instance x) (type_ref.Instance y) h = ap (λ (r : InstanceTypeRef). type_ref.Instance r) (instance_same x y h)
type_same x y h = cc

pub extern_same : (x y : ExternRef) → (extern_eq.ghosts).eq x y ≡ true → x ≡ y
extern_same (extern_ref.Func x) (extern_ref.Func y) h = ap (λ (r : FuncTypeRef). extern_ref.Func r) (func_same x y h)
extern_same (extern_ref.Type x) (extern_ref.Type y) h = ap (λ (r : TypeRef). extern_ref.Type r) (type_same x y h)
extern_same (extern_ref.Instance x) (extern_ref.Instance y) h = ap (λ (r : InstanceTypeRef). extern_ref.Instance r) (instance_same x y h)
extern_same x y h = cc

pub entry_same : (x y : ℕ × ExternRef) → ((x.0 == y.0) && (extern_eq.ghosts).eq x.1 y.1) ≡ true → x ≡ y
entry_same x y h =
    let p = both (x.0 == y.0) ((extern_eq.ghosts).eq x.1 y.1) h in
    ap₂ (λ (n : ℕ) (r : ExternRef). (n, r)) ((Decides-eqb x.0 y.0).0 p.0) (extern_same x.1 y.1 p.1)

-- Lists that are found equal item by item are the same, where items are.
pub lists_same : {A : Type 0} (equal : A → A → Bool) → ((x y : A) → equal x y ≡ true → x ≡ y) → (xs ys : List A) → pointwise equal xs ys ≡ true → xs ≡ ys
lists_same equal same [] [] h = refl
lists_same equal same [] (y ∷ ys) h = cc
lists_same equal same (x ∷ xs) [] h = cc
lists_same equal same (x ∷ xs) (y ∷ ys) h =
    let p = both (equal x y) (pointwise equal xs ys) h in
    ap₂ (λ z zs. z ∷ zs) (same x y p.0) (lists_same equal same xs ys p.1)
