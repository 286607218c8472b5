-- What references stand for: two are the same type exactly where their layers have one number, and look-ups find what stands there.
use Rattle.std.proofs.Common.{◌≡◌, ℕ, zero, suc, Bool, true, false, cond, List, [], ◌∷◌, ◌++◌, length, refl, ap, sym, ◌∙◌, subst, Some, None, Option}
use Rattle.std.specs.Prelude.{◌==◌, IsTrue}
use Rattle.std.specs.List.{slice_get}
use Rattle.std.specs.Str.{bytes_eq}
use Rattle.std.proofs.lemmas.Bool.Decides.{Decides-eqb}
use Rattle.std.proofs.lemmas.Slice.Eq.{bytes_eq-Decides}
use Rattle.syntax_trees.specs.declared.types.FuncType.{FuncType}
use Rattle.comp_graph.specs.Closed.{Closed, Value, Func, Resource, Instance, Extern, OfFunc, OfType, OfInstance, Externs, EmptyType, WithExtern, extern_named, first_of}
use Rattle.link_values.specs.declared.layers.TypeLayer.{TypeLayer}
use Rattle.link_values.specs.declared.layers.TypeLayer.TheVariants as of_type
use Rattle.link_values.specs.contracts.layers.TypeLayerPartialEq.TheImpl as type_eq
use Rattle.link_values.specs.declared.refs.FuncTypeRef.{FuncTypeRef}
use Rattle.link_values.specs.declared.refs.InstanceTypeRef.{InstanceTypeRef}
use Rattle.link_values.specs.declared.refs.TypeRef.{TypeRef}
use Rattle.link_values.specs.declared.refs.TypeRef.TheVariants as type_ref
use Rattle.link_values.specs.declared.refs.ExternRef.{ExternRef}
use Rattle.link_values.specs.declared.refs.ExternRef.TheVariants as extern_ref
use Rattle.link_types.specs.Numbering.{AreApart}
use Rattle.std.specs.Option.{option_or}
use Rattle.link_values.specs.Listed.{item_named}
use Rattle.link_types.specs.Layered.{IsExternLayer, IsTypeLayer}
use Rattle.link_values.specs.Layering.{type_layer, extern_layer}
use Rattle.link_types.specs.Table.{Table, AreDistinct, IsName, IsFunc, IsType, IsExtern, IsInstanceType, AreListed, MayBeExtern, MayBeEntry, in_order}
use Rattle.link_values.proofs.Listings.{named_more}
use Rattle.link_types.proofs.LayersTold.{func_one, func_told, externs_one, externs_told, type_one, type_told}

-- What a reference stands for, its layer stands for.
pub type_in_layer : (t : Table) (ref : TypeRef) (closed : Closed) → IsType t ref closed → IsTypeLayer t.texts t.values t.layers (type_layer ref) closed
type_in_layer t (type_ref.Value type) (Value v) h = h
type_in_layer t (type_ref.Func ref) (Func type) h = h.0
type_in_layer t (type_ref.Resource number) (Resource other) h = h
type_in_layer t (type_ref.Instance ref) (Instance externs) h = h.0
type_in_layer t ref closed h = absurd h

pub extern_in_layer : (t : Table) (ref : ExternRef) (extern : Extern) → IsExtern t ref extern → IsExternLayer t.texts t.values t.layers (extern_layer ref) extern
extern_in_layer t (extern_ref.Func ref) (OfFunc type) h = h.0
extern_in_layer t (extern_ref.Type ref) (OfType closed) h = type_in_layer t ref closed h
extern_in_layer t (extern_ref.Instance ref) (OfInstance externs) h = h.0
extern_in_layer t ref extern h = absurd h

module _ (t : Table) (d : AreDistinct t.texts t.values t.layers) where
  pub same_funcs : (a b : FuncTypeRef) (f g : FuncType) → IsFunc t a f → IsFunc t b g → ((a.layer ≡ b.layer → f ≡ g) × (f ≡ g → a.layer ≡ b.layer))
  same_funcs a b f g h k = (
    λ e. func_told t.texts t.values t.layers a.layer f g h.0 (rw e k.0),
    λ e. func_one t.texts t.values t.layers d.names d.values d.parts a.layer b.layer f h.0 (rw e k.0),
  )

  pub same_instances : (a b : InstanceTypeRef) (f g : Externs) → IsInstanceType t a f → IsInstanceType t b g → ((a.layer ≡ b.layer → f ≡ g) × (f ≡ g → a.layer ≡ b.layer))
  same_instances a b f g h k = (
    λ e. externs_told t.texts t.values t.layers a.layer f g h.0 (rw e k.0),
    λ e. externs_one t.texts t.values t.layers d.names d.values d.parts a.layer b.layer f h.0 (rw e k.0),
  )

  pub same_types : (a b : TypeRef) (f g : Closed) → IsType t a f → IsType t b g → ((type_layer a ≡ type_layer b → f ≡ g) × (f ≡ g → type_layer a ≡ type_layer b))
  same_types a b f g h k =
      let x = type_in_layer t a f h in
      let y = type_in_layer t b g k in (
        λ e. type_told t.texts t.values t.layers (type_layer a) f g x (subst (λ (l : TypeLayer). IsTypeLayer t.texts t.values t.layers l g) (sym e) y),
        λ e. type_one t.texts t.values t.layers d.names d.values d.parts (type_layer a) (type_layer b) f x (subst (λ (c : Closed). IsTypeLayer t.texts t.values t.layers (type_layer b) c) (sym e) y),
      )

may_first : (t : Table) (o p : Option ExternRef) (x y : Option Extern) → MayBeExtern t o x → MayBeExtern t p y → MayBeExtern t (option_or o p) (first_of x y)
may_first t None p None y h k = k
may_first t None p (Some x) y h k = absurd h
may_first t (Some o) p None y h k = absurd h
may_first t (Some o) p (Some x) y h k = h

may_where : (t : Table) (a b : Bool) (ref : ExternRef) (extern : Extern) → a ≡ b → IsExtern t ref extern → MayBeExtern t (cond a (Some ref) None) (cond b (Some extern) None)
may_where t true true ref extern e h = h
may_where t false false ref extern e h = tt
may_where t true false ref extern e h = absurd (cc)
may_where t false true ref extern e h = absurd (cc)

same_tests : (a b : Bool) → (a ≡ true → b ≡ true) → (b ≡ true → a ≡ true) → a ≡ b
same_tests true true f g = refl
same_tests true false f g = sym (f refl)
same_tests false true f g = g refl
same_tests false false f g = refl

-- Numbers of names are equal where their texts are.
names_equal : (t : Table) → AreApart t.texts → (m n : ℕ) (x y : List ℕ) → IsName t m x → IsName t n y → (m == n) ≡ bytes_eq x y
names_equal t apart m n x y h k =
    same_tests (m == n) (bytes_eq x y)
    (λ e.
    let same : m ≡ n = (Decides-eqb m n).0 e in
    let f : ◌≡◌ {A = Option (List ℕ)} (Some x) (Some y) = sym h ∙ ap (slice_get t.texts) same ∙ k in
    let equal : x ≡ y = cc in
    (bytes_eq-Decides x y).1 equal)
    (λ e.
    let equal : x ≡ y = (bytes_eq-Decides x y).0 e in
    let same : m ≡ n = apart m n x h (rw equal k) in
    (Decides-eqb m n).1 same)

-- What stands under a name's number is the export of the name.
pub named_told : (t : Table) → AreApart t.texts → (name : ℕ) (text : List ℕ) → IsName t name text → (entries : List (ℕ × ExternRef)) (externs : Externs) → AreListed t entries externs → MayBeExtern t (item_named name entries) (extern_named text externs)
named_told t apart name text is entries EmptyType h = rw h tt
named_told t apart name text is entries (WithExtern others other extern) h =
    let rest = named_told t apart name text is h.0 others h.4 in
    let last = may_where t (h.1 == name) (bytes_eq other text) h.2 extern (names_equal t apart h.1 name other text h.5 is) h.6 in
    subst (λ (es : List (ℕ × ExternRef)). MayBeExtern t (item_named name es) (extern_named text (WithExtern others other extern))) (sym h.3)
    (rw (named_more name h.0 h.1 h.2)
    (may_first t (item_named name h.0) (cond (h.1 == name) (Some h.2) None) (extern_named text others) (cond (bytes_eq other text) (Some extern) None) rest last))

entries_more : (t : Table) (xs : List (ℕ × ExternRef)) (ys : List (List ℕ × Extern)) (x : ℕ × ExternRef) (y : List ℕ × Extern) → ((k : ℕ) → MayBeEntry t (slice_get xs k) (slice_get ys k)) → MayBeEntry t (Some x) (Some y) → (k : ℕ) → MayBeEntry t (slice_get (xs ++ x ∷ []) k) (slice_get (ys ++ y ∷ []) k)
entries_more t [] [] x y h e zero = e
entries_more t [] [] x y h e (suc k) = tt
entries_more t [] (b ∷ ys) x y h e k = absurd (h 0)
entries_more t (a ∷ xs) [] x y h e k = absurd (h 0)
entries_more t (a ∷ xs) (b ∷ ys) x y h e zero = h 0
entries_more t (a ∷ xs) (b ∷ ys) x y h e (suc k) = entries_more t xs ys x y (λ n. h (suc n)) e k

-- What stands at a place is the export there.
pub entries_told : (t : Table) (entries : List (ℕ × ExternRef)) (externs : Externs) → AreListed t entries externs → (k : ℕ) → MayBeEntry t (slice_get entries k) (slice_get (in_order externs) k)
entries_told t entries EmptyType h k = rw h tt
entries_told t entries (WithExtern others name extern) h k =
    subst (λ (es : List (ℕ × ExternRef)). MayBeEntry t (slice_get es k) (slice_get (in_order others ++ (name, extern) ∷ []) k)) (sym h.3)
    (entries_more t h.0 (in_order others) (h.1, h.2) (name, extern) (entries_told t h.0 others h.4) (h.5, h.6) k)

same_count : (t : Table) (xs : List (ℕ × ExternRef)) (ys : List (List ℕ × Extern)) → ((k : ℕ) → MayBeEntry t (slice_get xs k) (slice_get ys k)) → length xs ≡ length ys
same_count t [] [] h = refl
same_count t [] (b ∷ ys) h = absurd (h 0)
same_count t (a ∷ xs) [] h = absurd (h 0)
same_count t (a ∷ xs) (b ∷ ys) h = ap suc (same_count t xs ys (λ n. h (suc n)))

pub count_told : (t : Table) (entries : List (ℕ × ExternRef)) (externs : Externs) → AreListed t entries externs → length entries ≡ length (in_order externs)
count_told t entries externs h = same_count t entries (in_order externs) (entries_told t entries externs h)

-- The test of outer layers.
layer_itself : (x : TypeLayer) → (type_eq.ghosts).eq x x ≡ true
layer_itself (of_type.Value n) = (Decides-eqb n n).1 refl
layer_itself (of_type.Func n) = (Decides-eqb n n).1 refl
layer_itself (of_type.Resource n) = (Decides-eqb n n).1 refl
layer_itself (of_type.Instance n) = (Decides-eqb n n).1 refl

layer_same : (x y : TypeLayer) → (type_eq.ghosts).eq x y ≡ true → x ≡ y
layer_same (of_type.Value m) (of_type.Value n) h = ap (λ (k : ℕ). of_type.Value k) ((Decides-eqb m n).0 h)
layer_same (of_type.Func m) (of_type.Func n) h = ap (λ (k : ℕ). of_type.Func k) ((Decides-eqb m n).0 h)
layer_same (of_type.Resource m) (of_type.Resource n) h = ap (λ (k : ℕ). of_type.Resource k) ((Decides-eqb m n).0 h)
layer_same (of_type.Instance m) (of_type.Instance n) h = ap (λ (k : ℕ). of_type.Instance k) ((Decides-eqb m n).0 h)
layer_same x y h = cc

pub layers_tested : {P : Type 0} (x y : TypeLayer) (b : Bool) → b ≡ (type_eq.ghosts).eq x y → ((x ≡ y → P) × (P → x ≡ y)) → ((IsTrue b → P) × (P → IsTrue b))
layers_tested x y b h p = (
  λ e. p.0 (layer_same x y (sym h ∙ e)),
  λ q. h ∙ subst (λ (z : TypeLayer). (type_eq.ghosts).eq x z ≡ true) (p.1 q) (layer_itself x),
)

pub numbers_tested : {P : Type 0} (m n : ℕ) → ((m ≡ n → P) × (P → m ≡ n)) → ((IsTrue (m == n) → P) × (P → IsTrue (m == n)))
numbers_tested m n p = (λ e. p.0 ((Decides-eqb m n).0 e), λ q. (Decides-eqb m n).1 (p.1 q))

-- What is found in a listing.
same_entries : (a b : List (ℕ × ExternRef)) (o : Option (List (ℕ × ExternRef))) → o ≡ Some a → o ≡ Some b → b ≡ a
same_entries a b o h k = let e : ◌≡◌ {A = Option (List (ℕ × ExternRef))} (Some b) (Some a) = sym k ∙ h in cc

module _ (t : Table) (ref : InstanceTypeRef) (entries : List (ℕ × ExternRef)) (at : slice_get t.instances ref.number ≡ Some entries) where
  pub listed_at : (externs : Externs) → IsInstanceType t ref externs → AreListed t entries externs
  listed_at externs h =
      subst (λ (es : List (ℕ × ExternRef)). AreListed t es externs) (same_entries entries h.1.0 (slice_get t.instances ref.number) at h.1.1) h.1.2

  pub named_at : AreDistinct t.texts t.values t.layers → (name : ℕ) (o : Option ExternRef) → o ≡ item_named name entries → (externs : Externs) (text : List ℕ) → IsInstanceType t ref externs → IsName t name text → MayBeExtern t o (extern_named text externs)
  named_at d name o found externs text h is = rw found (named_told t d.names name text is entries externs (listed_at externs h))

  pub entry_at : (k : ℕ) (o : Option (ℕ × ExternRef)) → o ≡ slice_get entries k → (externs : Externs) → IsInstanceType t ref externs → MayBeEntry t o (slice_get (in_order externs) k)
  entry_at k o found externs h = rw found (entries_told t entries externs (listed_at externs h) k)

  pub count_at : (n : ℕ) → n ≡ length entries → (externs : Externs) → IsInstanceType t ref externs → n ≡ length (in_order externs)
  count_at n found externs h = found ∙ count_told t entries externs (listed_at externs h)
