-- What holds of lists, item by item, and of options.
use Rattle.std.proofs.Common.{◌≡◌, inl, inr, ℕ, ◌≤◌, List, [], ◌∷◌, length, refl, subst, arith, Option, Some, None}
use Rattle.std.specs.Option.{option_map, option_and_then, MatchOption}
use Rattle.std.specs.List.{slice_get, AllByRecursion, AllZip}
use Rattle.std.proofs.lemmas.Option.{slice_get_within}
use Rattle.link_spec.specs.Items.{AnyByRecursion, first_told}

-- none of some items has what excludes what each one has
pub some_all : {A : Type 0} (P Q : A → Type 0) → ((x : A) → P x → Q x → ⊥) → (xs : List A) → AllByRecursion P xs → AnyByRecursion Q xs → ⊥
some_all P Q f [] h k = k
some_all P Q f (x ∷ xs) h (inl k) = f x h.0 k
some_all P Q f (x ∷ xs) h (inr k) = some_all P Q f xs h.1 k

pub some_zip : {A B : Type 0} (R : A → B → Type 0) (Q : A → Type 0) → ((x : A) (y : B) → R x y → Q x → ⊥) → (xs : List A) (ys : List B) → AllZip R xs ys → AnyByRecursion Q xs → ⊥
some_zip R Q f [] ys h k = k
some_zip R Q f (x ∷ xs) [] h k = h
some_zip R Q f (x ∷ xs) (y ∷ ys) h (inl k) = f x y h.0 k
some_zip R Q f (x ∷ xs) (y ∷ ys) h (inr k) = some_zip R Q f xs ys h.1 k

-- what each item of a list goes with is one list
pub same_zip : {A B : Type 0} (R : A → B → Type 0) → ((x : A) (y z : B) → R x y → R x z → y ≡ z) → (xs : List A) (ys zs : List B) → AllZip R xs ys → AllZip R xs zs → ys ≡ zs
same_zip R f [] [] [] h k = refl
same_zip R f [] [] (z ∷ zs) h k = absurd k
same_zip R f [] (y ∷ ys) zs h k = absurd h
same_zip R f (x ∷ xs) [] zs h k = absurd h
same_zip R f (x ∷ xs) (y ∷ ys) [] h k = absurd k
same_zip R f (x ∷ xs) (y ∷ ys) (z ∷ zs) h k =
    let one : y ≡ z = f x y z h.0 k.0 in
    let others : ys ≡ zs = same_zip R f xs ys zs h.1 k.1 in
    cc

-- where nothing is told, no name is
pub none_told : {A B : Type 0} (R : A → B → Type 0) (f : A → Option (List ℕ)) → ((x : A) (y : B) → R x y → f x ≡ None) → (xs : List A) (ys : List B) → AllZip R xs ys → first_told f xs ≡ None
none_told R f g [] ys h = refl
none_told R f g (x ∷ xs) [] h = absurd h
none_told R f g (x ∷ xs) (y ∷ ys) h = rw (g x y h.0) (none_told R f g xs ys h.1)

-- an option that has a value
pub match_at : {A : Type 0} (P : A → Type 0) (o : Option A) (a : A) → o ≡ Some a → MatchOption o ⊥ P → P a
match_at P None a e h = absurd h
match_at P (Some b) a e h = let same : b ≡ a = cc in subst P same h

pub match_some : {A : Type 0} (P : A → Type 0) (o : Option A) → MatchOption o ⊥ P → (a : A) × (o ≡ Some a) × P a
match_some P None h = absurd h
match_some P (Some a) h = (a, refl, h)

pub map_some : {A B : Type 0} (f : A → B) (o : Option A) (y : B) → option_map f o ≡ Some y → (x : A) × (o ≡ Some x) × (f x ≡ y)
map_some f None y h = cc
map_some f (Some x) y h = (x, refl, cc)

pub then_some : {A B : Type 0} (f : A → Option B) (o : Option A) (y : B) → option_and_then f o ≡ Some y → (x : A) × (o ≡ Some x) × (f x ≡ Some y)
then_some f None y h = cc
then_some f (Some x) y h = (x, refl, h)

-- an index that is not there, and one that is
pub not_there : {A : Type 0} (xs : List A) (i : ℕ) (x : A) → slice_get xs i ≡ Some x → length xs ≤ i → ⊥
not_there xs i x e h = let within = slice_get_within xs i x e in omega arith

pub mapped_there : {A B : Type 0} (f : A → B) (xs : List A) (i : ℕ) (y : B) → option_map f (slice_get xs i) ≡ Some y → length xs ≤ i → ⊥
mapped_there f xs i y e h = let p = map_some f (slice_get xs i) y e in not_there xs i p.0 p.1 h
