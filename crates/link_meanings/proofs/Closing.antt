-- Lists of which each item closes: what stands for the items so far, place by place.
use Rattle.std.proofs.Common.{◌≡◌, ◌∙◌, ◌<◌, ◌≤◌, ◌+◌, ℕ, List, [], ◌∷◌, ◌++◌, length, map, drop, get_or, refl, ap, sym, append-nil, append_assoc, Option, Some, None}
use Rattle.std.proofs.lemmas.List.{drop_all, drop_more}
use Rattle.std.specs.Option.{option_map}
use Rattle.std.specs.List.{AllZip}
use Rattle.link_spec.specs.ValueTypes.{close_all}
use Rattle.laid_types.specs.Layers.{IsThere, AreThere}
use Rattle.link_types.specs.Table.{Table, Grows}
use Rattle.link_types.proofs.ValuesStay.{is_there_stays}
use Rattle.link_types.proofs.Zips.{all_more, all_stay}
use Rattle.link_meanings.specs.Meant.{IsFoundAs}

-- items that close, behind those that are closed already
abbrev pub behind : {A : Type 0} → List A → Option (List A) → Option (List A)
behind closed o = option_map (λ others. closed ++ others) o

one_more : {A : Type 0} (closed : List A) (x : A) (o : Option (List A)) → behind closed (option_map (λ others. x ∷ others) o) ≡ behind (closed ++ x ∷ []) o
one_more closed x None = refl
one_more {A} closed x (Some others) = ap (λ (xs : List A). Some xs) (sym (append_assoc closed (x ∷ []) others))

-- What is found stands for the items up to a place.
abbrev pub IsFoundSoFar : {X A B : Type 0} → (B → A → Type 0) → (X → Option A) → List X → List B → ℕ → Type 0
IsFoundSoFar {X} {A} {B} R close xs found at = (all : List A) × AllZip R found all × (close_all close xs ≡ behind all (close_all close (drop at xs)))

-- no item is left
pub found_ends : {X A B : Type 0} (R : B → A → Type 0) (close : X → Option A) (xs : List X) (found : List B) (at : ℕ) → length xs ≤ at → IsFoundSoFar R close xs found at
    → (all : List A) × (close_all close xs ≡ Some all) × AllZip R found all
found_ends R close xs found at past h = (h.0, h.2 ∙ rw (drop_all at xs past, append-nil h.0) refl, h.1)

-- an item closes
pub found_more : {X A B : Type 0} (R Q : B → A → Type 0) → ((b : B) (a : A) → R b a → Q b a) → (close : X → Option A) (xs : List X) (found : List B) (x d : X) (at : ℕ) (b : B) → at < length xs → x ≡ get_or xs at d
    → IsFoundAs Q (Some b) (close x) → IsFoundSoFar R close xs found at → IsFoundSoFar Q close xs (found ++ b ∷ []) (at + 1)
found_more R Q stays close xs found x d at b h e one so_far = (
  so_far.0 ++ one.0 ∷ [],
  all_more Q found so_far.0 b one.0 (all_stay R Q stays found so_far.0 so_far.1) one.2,
  so_far.2 ∙ rw (drop_more xs at d h, sym e, one.1) (one_more so_far.0 one.0 (close_all close (drop (at + 1) xs))),
)

-- an item does not
pub found_open : {X A B : Type 0} (R : B → A → Type 0) (close : X → Option A) (xs : List X) (found : List B) (x d : X) (at : ℕ) → at < length xs → x ≡ get_or xs at d → close x ≡ None → IsFoundSoFar R close xs found at
    → close_all close xs ≡ None
found_open R close xs found x d at h e open_at so_far = so_far.2 ∙ rw (drop_more xs at d h, sym e, open_at) refl

-- The numbers of what is found are there, and stay there.
pub there_more : {B : Type 0} (t u : Table) → Grows t u → (part : B → Option ℕ) (found : List B) (b : B) → AreThere t.values (map part found) → IsThere u.values (part b) → AreThere u.values (map part (found ++ b ∷ []))
there_more t u g part [] b h k = (k, tt)
there_more t u g part (x ∷ found) b h k = (is_there_stays t u g (part x) h.0, there_more t u g part found b h.1 k)
