-- Lists that go with one another, item by item.
use Rattle.std.proofs.Common.{◌≡◌, ◌+◌, ℕ, zero, suc, List, [], ◌∷◌, ◌++◌, length, map, refl, ap, sym, ◌∙◌, subst, Some, append_assoc, length-append}
use Rattle.std.specs.List.{slice_get, AllByRecursion, AllZip, range_with_len}

pub zip_at : {X Y : Type 0} (R : X → Y → Type 0) (xs : List X) (ys : List Y) (i : ℕ) (x : X) → AllZip R xs ys → slice_get xs i ≡ Some x → (y : Y) × (slice_get ys i ≡ Some y) × R x y
zip_at R [] [] i x h e = cc
zip_at R [] (y ∷ ys) i x h e = absurd h
zip_at R (w ∷ xs) [] i x h e = absurd h
zip_at R (w ∷ xs) (y ∷ ys) zero x h e =
    let same : w ≡ x = cc in
    (y, refl, subst (λ w. R w y) same h.0)
zip_at R (w ∷ xs) (y ∷ ys) (suc i) x h e = zip_at R xs ys i x h.1 e

pub zip_append : {X Y : Type 0} (R : X → Y → Type 0) (xs : List X) (ys : List Y) (us : List X) (vs : List Y) → AllZip R xs ys → AllZip R us vs → AllZip R (xs ++ us) (ys ++ vs)
zip_append R [] [] us vs h k = k
zip_append R [] (y ∷ ys) us vs h k = absurd h
zip_append R (x ∷ xs) [] us vs h k = absurd h
zip_append R (x ∷ xs) (y ∷ ys) us vs h k = (h.0, zip_append R xs ys us vs h.1 k)

-- of a list that is made of another one, each item of which has a property
pub zip_made : {W X Y : Type 0} (P : W → Type 0) (Q : W → Y → Type 0) (R : X → Y → Type 0) (g : W → X) → ((w : W) (y : Y) → P w → Q w y → R (g w) y) → (ws : List W) (ys : List Y) → AllByRecursion P ws → AllZip Q ws ys → AllZip R (map g ws) ys
zip_made P Q R g f [] [] p h = tt
zip_made P Q R g f [] (y ∷ ys) p h = absurd h
zip_made P Q R g f (w ∷ ws) [] p h = absurd h
zip_made P Q R g f (w ∷ ws) (y ∷ ys) p h = (f w y p.0 h.0, zip_made P Q R g f ws ys p.1 h.1)

pub all_true : {X : Type 0} (xs : List X) → AllByRecursion (λ x. Unit {0}) xs
all_true [] = tt
all_true (x ∷ xs) = (tt, all_true xs)

pub all_both : {X : Type 0} (P Q : X → Type 0) (xs : List X) → AllByRecursion P xs → AllByRecursion Q xs → AllByRecursion (λ x. P x × Q x) xs
all_both P Q [] h k = tt
all_both P Q (x ∷ xs) h k = ((h.0, k.0), all_both P Q xs h.1 k.1)

pub all_made : {X Y : Type 0} (P : X → Type 0) (Q : Y → Type 0) (g : X → Y) → ((x : X) → P x → Q (g x)) → (xs : List X) → AllByRecursion P xs → AllByRecursion Q (map g xs)
all_made P Q g f [] h = tt
all_made P Q g f (x ∷ xs) h = (f x h.0, all_made P Q g f xs h.1)

-- what stands behind others has their count as its number
pub get_behind : {X : Type 0} (before : List X) (x : X) (behind : List X) → slice_get (before ++ x ∷ behind) (length before) ≡ Some x
get_behind [] x behind = refl
get_behind (y ∷ before) x behind = get_behind before x behind

-- what is added to a list has the next numbers
abbrev pub StandsAt : {X Y : Type 0} → (Y → X) → List X → Y → ℕ → Type 0
StandsAt g all y a = slice_get all a ≡ Some (g y)

pub numbered : {X Y : Type 0} (g : Y → X) (all old : List X) (ys : List Y) → all ≡ old ++ map g ys → AllZip (StandsAt g all) ys (range_with_len (length old) (length ys))
numbered g all old [] e = tt
numbered {X} {Y} g all old (y ∷ ys) e =
    let there : slice_get all (length old) ≡ Some (g y) = ap (λ (xs : List X). slice_get xs (length old)) e ∙ get_behind old (g y) (map g ys) in
    let more : all ≡ (old ++ g y ∷ []) ++ map g ys = e ∙ sym (append_assoc old (g y ∷ []) (map g ys)) in
    let long : length (old ++ g y ∷ []) ≡ length old + 1 = length-append old (g y ∷ []) in
    (there, subst (λ (n : ℕ). AllZip (StandsAt g all) ys (range_with_len n (length ys))) long (numbered g all (old ++ g y ∷ []) ys more))
