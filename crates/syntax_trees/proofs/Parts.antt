-- Lists of images.
use Rattle.std.proofs.Common.{◌≡◌, ◌∙◌, ◌∷◌, [], List, map, ap, refl, ℕ, zero, suc, Result, Ok, Err, IfOk}
use Rattle.std.specs.List.{slice_get}
use Rattle.std.specs.Option.{option_map}

-- Functions that agree give the same lists.
pub map_alike : {A B : Type 0} (f g : A → B) (h : (x : A) → f x ≡ g x) (xs : List A) → map f xs ≡ map g xs
map_alike f g h [] = refl
map_alike f g h (x ∷ xs) = ap (λ y. y ∷ map f xs) (h x) ∙ ap (λ ys. g x ∷ ys) (map_alike f g h xs)

-- An item of the images is the image of that item.
pub get_image : {A B : Type 0} (f : A → B) (xs : List A) (n : ℕ) → slice_get (map f xs) n ≡ option_map f (slice_get xs n)
get_image f [] n = refl
get_image f (x ∷ xs) zero = refl
get_image f (x ∷ xs) (suc n) = get_image f xs n

-- what follows from what holds of a value in an `Ok`
pub if_ok_then : {X E : Type 0} (r : Result X E) {P Q : X → Type 0} → IfOk r P → ((x : X) → P x → Q x) → IfOk r Q
if_ok_then (Ok x) h f = f x h
if_ok_then (Err e) h f = tt
