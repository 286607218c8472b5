-- Lists whose elements stand beside one another.
use Rattle.std.proofs.Common.{◌≡◌, ◌<◌, ◌≤◌, arith, ℕ, zero, suc, List, [], ◌∷◌, ◌++◌, length, map, refl, ap, subst, sym, ◌∙◌, Option, Some, None}
use Rattle.std.specs.Prelude.{set, get_or}
use Rattle.std.specs.List.{slice_get, AllZip}
use Rattle.std.specs.Option.{option_and_then, option_copied}
use Rattle.std.proofs.lemmas.Option.{slice_get_within}
use Rattle.link_meanings.specs.Meant.{IsFoundAs}
use denote.Ref.{Bor}

pub zips_weaker : {A B : Type 0} (R Q : A → B → Type 0) → ((x : A) (y : B) → R x y → Q x y) → (xs : List A) (ys : List B) → AllZip R xs ys → AllZip Q xs ys
zips_weaker R Q f [] [] h = tt
zips_weaker R Q f [] (y ∷ ys) h = absurd h
zips_weaker R Q f (x ∷ xs) [] h = absurd h
zips_weaker R Q f (x ∷ xs) (y ∷ ys) h = (f x y h.0, zips_weaker R Q f xs ys h.1)

pub zips_more : {A B : Type 0} (R : A → B → Type 0) (xs : List A) (ys : List B) (x : A) (y : B) → AllZip R xs ys → R x y → AllZip R (xs ++ x ∷ []) (ys ++ y ∷ [])
zips_more R [] [] x y h k = (k, tt)
zips_more R [] (b ∷ ys) x y h k = absurd h
zips_more R (a ∷ xs) [] x y h k = absurd h
zips_more R (a ∷ xs) (b ∷ ys) x y h k = (h.0, zips_more R xs ys x y h.1 k)

pub zips_set : {A B : Type 0} (R : A → B → Type 0) (xs : List A) (ys : List B) (n : ℕ) (x : A) (y : B) → AllZip R xs ys → R x y → AllZip R (set xs n x) (set ys n y)
zips_set R [] [] n x y h k = tt
zips_set R [] (b ∷ ys) n x y h k = absurd h
zips_set R (a ∷ xs) [] n x y h k = absurd h
zips_set R (a ∷ xs) (b ∷ ys) zero x y h k = (k, h.1)
zips_set R (a ∷ xs) (b ∷ ys) (suc n) x y h k = (h.0, zips_set R xs ys n x y h.1 k)

-- another element, which stands beside what the one before stood beside
pub zips_reset : {A B : Type 0} (R : A → B → Type 0) (xs : List A) (ys : List B) (n : ℕ) (x : A) → AllZip R xs ys → ((y : B) → slice_get ys n ≡ Some y → R x y) → AllZip R (set xs n x) ys
zips_reset R [] [] n x h k = tt
zips_reset R [] (b ∷ ys) n x h k = absurd h
zips_reset R (a ∷ xs) [] n x h k = absurd h
zips_reset R (a ∷ xs) (b ∷ ys) zero x h k = (k b refl, h.1)
zips_reset R (a ∷ xs) (b ∷ ys) (suc n) x h k = (h.0, zips_reset R xs ys n x h.1 k)

-- what stands elsewhere stays
pub other_kept : {A : Type 0} (xs : List A) (n k : ℕ) (x : A) → (k ≡ n → ⊥) → slice_get (set xs n x) k ≡ slice_get xs k
other_kept [] n k x apart = refl
other_kept (y ∷ xs) zero zero x apart = absurd (apart refl)
other_kept (y ∷ xs) zero (suc k) x apart = refl
other_kept (y ∷ xs) (suc n) zero x apart = refl
other_kept (y ∷ xs) (suc n) (suc k) x apart = other_kept xs n k x (λ e. apart (ap suc e))

-- what is seen of each element, where it is the same of another one
pub map_set : {A B : Type 0} (f : A → B) (xs : List A) (n : ℕ) (old new : A) → old ≡ get_or xs n old → n < length xs → f new ≡ f old → map f (set xs n new) ≡ map f xs
map_set f [] n old new is within same = absurd (omega (arith, within))
map_set f (x ∷ xs) zero old new is within same = ap (λ y. y ∷ map f xs) (same ∙ ap f is)
map_set f (x ∷ xs) (suc n) old new is within same = ap (λ ys. f x ∷ ys) (map_set f xs n old new is (omega (arith, within)) same)

pub zips_found : {A B : Type 0} (R : A → B → Type 0) (xs : List A) (ys : List B) (n : ℕ) → AllZip R xs ys → IsFoundAs R (slice_get xs n) (slice_get ys n)
zips_found R [] [] n h = refl
zips_found R [] (y ∷ ys) n h = absurd h
zips_found R (x ∷ xs) [] n h = absurd h
zips_found R (x ∷ xs) (y ∷ ys) zero h = (y, refl, h.0)
zips_found R (x ∷ xs) (y ∷ ys) (suc n) h = zips_found R xs ys n h.1

-- what stands beside an element
pub zips_there : {A B : Type 0} (R : A → B → Type 0) (xs : List A) (ys : List B) (n : ℕ) (x : A) → x ≡ get_or xs n x → n < length xs → AllZip R xs ys → (y : B) × (slice_get ys n ≡ Some y) × R x y
zips_there R [] ys n x is within h = absurd (omega (arith, within))
zips_there R (a ∷ xs) [] n x is within h = absurd h
zips_there {A} R (a ∷ xs) (b ∷ ys) zero x is within h = (b, refl, subst (λ (x : A). R x b) (sym is) h.0)
zips_there R (a ∷ xs) (b ∷ ys) (suc n) x is within h = zips_there R xs ys n x is (omega (arith, within)) h.1

pub zips_read : {A B : Type 0} (R : A → B → Type 0) (xs : List A) (ys : List B) (n : ℕ) (x : A) (y : B) → x ≡ get_or xs n x → n < length xs → AllZip R xs ys → slice_get ys n ≡ Some y → R x y
zips_read {A} {B} R xs ys n x y is within h there =
    let p = zips_there R xs ys n x is within h in
    let same : p.0 ≡ y = (let both : Some p.0 ≡ Some y = sym p.1 ∙ there in cc) in
    subst (λ (y : B). R x y) same p.2

pub as_long : {A B : Type 0} (R : A → B → Type 0) (xs : List A) (ys : List B) → AllZip R xs ys → length xs ≡ length ys
as_long R [] [] h = refl
as_long R [] (y ∷ ys) h = absurd h
as_long R (x ∷ xs) [] h = absurd h
as_long R (x ∷ xs) (y ∷ ys) h = ap suc (as_long R xs ys h.1)

-- what was put behind the others
pub last_is : {A : Type 0} (xs ys : List A) (x : A) (n : ℕ) → ys ≡ xs ++ x ∷ [] → n ≡ length xs → slice_get ys n ≡ Some x
last_is xs ys x n is at = rw (is, at) (at_length xs x)
  where
    at_length : {A : Type 0} (xs : List A) (x : A) → slice_get (xs ++ x ∷ []) (length xs) ≡ Some x
    at_length [] x = refl
    at_length (y ∷ xs) x = at_length xs x

-- what is found of a list that stands beside another one
pub found_in : {A B : Type 0} (R : A → B → Type 0) (xs zs : List A) (ys : List B) (n : ℕ) (o : Option A) → AllZip R xs ys → o ≡ slice_get zs n → zs ≡ xs → IsFoundAs R o (slice_get ys n)
found_in {A} R xs zs ys n o h is same =
    subst (λ (o : Option A). IsFoundAs R o (slice_get ys n)) (sym (is ∙ ap (λ (zs : List A). slice_get zs n) same)) (zips_found R xs ys n h)

-- the same, where it is lent
lent_as : {A B : Type 0} (R : A → B → Type 0) (r : Option (Bor A)) (found : Option B) → IsFoundAs R (option_copied r) found → IsFoundAs (λ (b : Bor A) (y : B). R b.now y) r found
lent_as R None found h = h
lent_as R (Some b) found h = h

pub found_lent : {A B : Type 0} (R : A → B → Type 0) (xs zs : List A) (ys : List B) (n : ℕ) (r : Option (Bor A)) → AllZip R xs ys → option_copied r ≡ slice_get zs n → zs ≡ xs
    → IsFoundAs (λ (b : Bor A) (y : B). R b.now y) r (slice_get ys n)
found_lent R xs zs ys n r h is same = lent_as R r (slice_get ys n) (found_in R xs zs ys n (option_copied r) h is same)

-- what is found by a number that stands for it
numbered : {A : Type 0} (xs : List A) (o : Option ℕ) (found : Option A) → IsFoundAs (λ (n : ℕ) (x : A). slice_get xs n ≡ Some x) o found → option_and_then (λ (n : ℕ). slice_get xs n) o ≡ found
numbered xs None found h = sym h
numbered xs (Some n) found h = h.2 ∙ sym h.1

-- a number behind the last one is that of nothing
pub not_past : {A : Type 0} (xs : List A) (n : ℕ) (found : Option A) → length xs ≤ n → IsFoundAs (λ (n : ℕ) (x : A). slice_get xs n ≡ Some x) (Some n) found → ⊥
not_past xs n found past h = let within = slice_get_within xs n h.0 h.2 in omega (arith, past, within)

itself : {A : Type 0} (r : Option (Bor A)) → IsFoundAs (λ (b : Bor A) (x : A). b.now ≡ x) r (option_copied r)
itself None = refl
itself (Some b) = (b.now, refl, refl)

pub found_through : {A : Type 0} (xs zs : List A) (o : Option ℕ) (found : Option A) (r : Option (Bor A)) → option_copied r ≡ option_and_then (λ (n : ℕ). slice_get zs n) o → zs ≡ xs
    → IsFoundAs (λ (n : ℕ) (x : A). slice_get xs n ≡ Some x) o found → IsFoundAs (λ (b : Bor A) (x : A). b.now ≡ x) r found
found_through {A} xs zs o found r is same h =
    subst (λ (found : Option A). IsFoundAs (λ (b : Bor A) (x : A). b.now ≡ x) r found)
    (is ∙ ap (λ (zs : List A). option_and_then (λ (n : ℕ). slice_get zs n) o) same ∙ numbered xs o found h) (itself r)
