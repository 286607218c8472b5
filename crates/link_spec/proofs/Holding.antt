-- What holds of each item of a list, and of what an option has.
use Rattle.std.proofs.Common.{◌≡◌, ℕ, zero, suc, Bool, true, false, cond, List, [], ◌∷◌, ◌++◌, length, map, set, refl, subst, Option, Some, None}
use Rattle.std.specs.Prelude.{IfSome, IsSome}
use Rattle.std.specs.Option.{option_map, option_and_then}
use Rattle.std.specs.List.{slice_get, flat_map, AllByRecursion, AllZip}

pub all_push : {A : Type 0} (P : A → Type 0) (xs : List A) (x : A) → AllByRecursion P xs → P x → AllByRecursion P (xs ++ x ∷ [])
all_push P [] x h p = (p, tt)
all_push P (y ∷ xs) x h p = (h.0, all_push P xs x h.1 p)

pub all_both : {A : Type 0} (P : A → Type 0) (xs ys : List A) → AllByRecursion P xs → AllByRecursion P ys → AllByRecursion P (xs ++ ys)
all_both P [] ys h k = k
all_both P (x ∷ xs) ys h k = (h.0, all_both P xs ys h.1 k)

pub all_set : {A : Type 0} (P : A → Type 0) (xs : List A) (n : ℕ) (x : A) → AllByRecursion P xs → P x → AllByRecursion P (set xs n x)
all_set P [] n x h p = tt
all_set P (y ∷ xs) zero x h p = (p, h.1)
all_set P (y ∷ xs) (suc n) x h p = (h.0, all_set P xs n x h.1 p)

pub all_weaker : {A : Type 0} (P Q : A → Type 0) → ((x : A) → P x → Q x) → (xs : List A) → AllByRecursion P xs → AllByRecursion Q xs
all_weaker P Q f [] h = tt
all_weaker P Q f (x ∷ xs) h = (f x h.0, all_weaker P Q f xs h.1)

pub all_mapped : {A B : Type 0} (f : A → B) (P : B → Type 0) (xs : List A) → AllByRecursion (λ x. P (f x)) xs → AllByRecursion P (map f xs)
all_mapped f P [] h = tt
all_mapped f P (x ∷ xs) h = (h.0, all_mapped f P xs h.1)

pub all_flat : {A B : Type 0} (f : A → List B) (P : B → Type 0) → ((x : A) → AllByRecursion P (f x)) → (xs : List A) → AllByRecursion P (flat_map f xs)
all_flat f P each [] = tt
all_flat f P each (x ∷ xs) = all_both P (f x) (flat_map f xs) (each x) (all_flat f P each xs)

pub all_at : {A : Type 0} (P : A → Type 0) (xs : List A) (i : ℕ) → AllByRecursion P xs → IfSome (slice_get xs i) P
all_at P [] i h = tt
all_at P (x ∷ xs) zero h = h.0
all_at P (x ∷ xs) (suc i) h = all_at P xs i h.1

-- of each second item, where it is so with the first one
pub all_second : {A B : Type 0} (R : A → B → Type 0) (P : B → Type 0) → ((x : A) (y : B) → R x y → P y) → (xs : List A) (ys : List B) → AllZip R xs ys → AllByRecursion P ys
all_second R P f [] [] h = tt
all_second R P f [] (y ∷ ys) h = absurd h
all_second R P f (x ∷ xs) [] h = absurd h
all_second R P f (x ∷ xs) (y ∷ ys) h = (f x y h.0, all_second R P f xs ys h.1)

pub zip_weaker : {A B : Type 0} (R S : A → B → Type 0) → ((x : A) (y : B) → R x y → S x y) → (xs : List A) (ys : List B) → AllZip R xs ys → AllZip S xs ys
zip_weaker R S f [] [] h = tt
zip_weaker R S f [] (y ∷ ys) h = absurd h
zip_weaker R S f (x ∷ xs) [] h = absurd h
zip_weaker R S f (x ∷ xs) (y ∷ ys) h = (f x y h.0, zip_weaker R S f xs ys h.1)

-- Options.
pub holds_at : {A : Type 0} (P : A → Type 0) (o : Option A) (x : A) → IfSome o P → o ≡ Some x → P x
holds_at P None x h e = cc
holds_at P (Some y) x h e = let same : y ≡ x = cc in subst P same h

pub if_weaker : {A : Type 0} (P Q : A → Type 0) → ((x : A) → P x → Q x) → (o : Option A) → IfSome o P → IfSome o Q
if_weaker P Q f None h = tt
if_weaker P Q f (Some x) h = f x h

pub if_mapped : {A B : Type 0} (f : A → B) (P : B → Type 0) (o : Option A) → IfSome o (λ x. P (f x)) → IfSome (option_map f o) P
if_mapped f P None h = tt
if_mapped f P (Some x) h = h

pub if_both : {A : Type 0} (P Q R : A → Type 0) → ((x : A) → P x → Q x → R x) → (o : Option A) → IfSome o P → IfSome o Q → IfSome o R
if_both P Q R f None h k = tt
if_both P Q R f (Some x) h k = f x h k

pub if_each : {A B : Type 0} (f : A → Option B) (P : B → Type 0) → ((x : A) → IfSome (f x) P) → (o : Option A) → IfSome (option_and_then f o) P
if_each f P each None = tt
if_each f P each (Some x) = each x

pub mapped_some : {A B : Type 0} (f : A → B) (o : Option A) → IsSome o → IsSome (option_map f o)
mapped_some f None h = h
mapped_some f (Some x) h = refl

pub if_then : {A B : Type 0} (f : A → Option B) (P : B → Type 0) (o : Option A) → IfSome o (λ x. IfSome (f x) P) → IfSome (option_and_then f o) P
if_then f P None h = tt
if_then f P (Some x) h = h

pub if_found : {A B : Type 0} (f : A → Option B) (P : A → Type 0) (Q : B → Type 0) → ((x : A) → P x → IfSome (f x) Q) → (o : Option A) → IfSome o P → IfSome (option_and_then f o) Q
if_found f P Q g None h = tt
if_found f P Q g (Some x) h = g x h

pub if_cond : {A : Type 0} (P : A → Type 0) (b : Bool) (o r : Option A) → IfSome o P → IfSome r P → IfSome (cond b o r) P
if_cond P true o r h k = h
if_cond P false o r h k = k

-- an item stays where it is when others come behind it
pub kept_at : {A : Type 0} (xs ys : List A) (i : ℕ) (x : A) → slice_get xs i ≡ Some x → slice_get (xs ++ ys) i ≡ Some x
kept_at [] ys i x h = cc
kept_at (y ∷ xs) ys zero x h = h
kept_at (y ∷ xs) ys (suc i) x h = kept_at xs ys i x h

pub last_there : {A : Type 0} (xs : List A) (x : A) → slice_get (xs ++ x ∷ []) (length xs) ≡ Some x
last_there [] x = refl
last_there (y ∷ xs) x = last_there xs x
