-- Core values that are wrapped.
use Rattle.std.proofs.Common.{◌≡◌, ◌∙◌, ◌≤◌, ◌<◌, ◌+◌, ◌%◌, ◌^◌, ℕ, zero, suc, List, [], ◌∷◌, ◌++◌, length, map, drop, get_or, Option, Some, None, refl, ap, ap₂, subst, arith, length-drop}
use Rattle.std.specs.Int.{w32, w64}
use Rattle.std.proofs.lemmas.List.{drop_more, drop-drop}
use Rattle.std.proofs.Math.Pow.{mod-mod-pow}
use Rattle.std.proofs.Common.{mod-eq_of_lt}
use Rattle.syntax_trees.specs.declared.core_type.CoreType.{CoreType}
use Rattle.syntax_trees.specs.declared.core_type.CoreType.TheVariants.{I32, I64}
use Rattle.syntax_trees.specs.declared.types.ValType.{ValType, out-ValType}
use Rattle.syntax_trees.specs.declared.types.Case.{Case}
use Rattle.syntax_trees.specs.declared.types.Field.{Field}
use Rattle.syntax_trees.specs.declared.types.ValType.TheOpen as F
use Rattle.syntax_trees.specs.Flat.{flat, flat_step, flat_payload, joined, joined_lists, joined_all}
use Rattle.laid_types.specs.Parts.{parts_case}
use Rattle.value_lift.specs.Pieces.{part_in}
use Rattle.value_lift.specs.Lifting.{low}
use Rattle.value_lift.specs.WordStanding.{AreWords, wrapped}
use Rattle.value_lift.proofs.Equations.{flats_in, flat_is}
use Rattle.value_lift.proofs.Forms.{HasCases}
use Rattle.value_lift.proofs.WordRooms.{cases_flat}

-- core values of these types are as they are
pub wrapped_same : (types : List CoreType) (words : List ℕ) → AreWords types words → wrapped types words ≡ words
wrapped_same [] [] a = refl
wrapped_same [] (w ∷ words) a = absurd a
wrapped_same (t ∷ types) [] a = absurd a
wrapped_same (I32 ∷ types) (w ∷ words) a = ap₂ (λ (x : ℕ) (xs : List ℕ). x ∷ xs) (mod-eq_of_lt a.0) (wrapped_same types words a.1)
wrapped_same (I64 ∷ types) (w ∷ words) a = ap₂ (λ (x : ℕ) (xs : List ℕ). x ∷ xs) (mod-eq_of_lt a.0) (wrapped_same types words a.1)

pub words_many : (types : List CoreType) (words : List ℕ) → AreWords types words → length words ≡ length types
words_many [] [] a = refl
words_many [] (w ∷ words) a = absurd a
words_many (t ∷ types) [] a = absurd a
words_many (I32 ∷ types) (w ∷ words) a = ap suc (words_many types words a.1)
words_many (I64 ∷ types) (w ∷ words) a = ap suc (words_many types words a.1)

-- as many as there are
pub wrapped_many : (types : List CoreType) (words : List ℕ) → length types ≤ length words → length (wrapped types words) ≡ length types
wrapped_many [] words h = refl
wrapped_many (t ∷ types) [] h = absurd (omega arith)
wrapped_many (I32 ∷ types) (w ∷ words) h = ap suc (wrapped_many types words (omega arith))
wrapped_many (I64 ∷ types) (w ∷ words) h = ap suc (wrapped_many types words (omega arith))

-- the first of some core values, and those behind it
first_word : (words : List ℕ) (at : ℕ) → at < length words → drop at words ≡ get_or words at 0 ∷ drop (at + 1) words
first_word words at h = drop_more words at 0 h

pub wrapped_32 : (types : List CoreType) (words : List ℕ) (at : ℕ) → at < length words → wrapped (I32 ∷ types) (drop at words) ≡ low w32 at words ∷ wrapped types (drop (at + 1) words)
wrapped_32 types words at h = ap (wrapped (I32 ∷ types)) (first_word words at h)

pub wrapped_64 : (types : List CoreType) (words : List ℕ) (at : ℕ) → at < length words → wrapped (I64 ∷ types) (drop at words) ≡ low w64 at words ∷ wrapped types (drop (at + 1) words)
wrapped_64 types words at h = ap (wrapped (I64 ∷ types)) (first_word words at h)

-- those of one type, and those of others
wrapped_append : (ts us : List CoreType) (words : List ℕ) → length ts ≤ length words → wrapped (ts ++ us) words ≡ wrapped ts words ++ wrapped us (drop (length ts) words)
wrapped_append [] us words h = refl
wrapped_append (t ∷ ts) us [] h = absurd (omega arith)
wrapped_append (I32 ∷ ts) us (w ∷ words) h = ap (λ (l : List ℕ). w % 2 ^ 32 ∷ l) (wrapped_append ts us words (omega arith))
wrapped_append (I64 ∷ ts) us (w ∷ words) h = ap (λ (l : List ℕ). w % 2 ^ 64 ∷ l) (wrapped_append ts us words (omega arith))

pub wrapped_parts : (ts us : List CoreType) (words : List ℕ) (at : ℕ) → at + length ts ≤ length words
    → wrapped (ts ++ us) (drop at words) ≡ wrapped ts (drop at words) ++ wrapped us (drop (at + length ts) words)
wrapped_parts ts us words at h =
    wrapped_append ts us (drop at words) (omega (arith, length-drop at words))
    ∙ ap (λ (l : List ℕ). wrapped ts (drop at words) ++ wrapped us l) (drop-drop (length ts) at words)

-- two lists that begin with as many
pub same_parts : (a b c d : List ℕ) → length a ≡ length c → a ++ b ≡ c ++ d → (a ≡ c) × (b ≡ d)
same_parts [] b [] d e h = (refl, h)
same_parts [] b (x ∷ c) d e h = cc
same_parts (x ∷ a) b [] d e h = cc
same_parts (x ∷ a) b (y ∷ c) d e h =
    let f : x ≡ y = cc in
    let g : a ++ b ≡ c ++ d = cc in
    let n : length a ≡ length c = omega arith in
    let r = same_parts a b c d n g in
    (ap₂ (λ (x : ℕ) (xs : List ℕ). x ∷ xs) f r.0, r.1)

-- low bits of low bits
pub low_8 : (n : ℕ) → n % 2 ^ 32 % 2 ^ 8 ≡ n % 2 ^ 8
low_8 n = mod-mod-pow n 24 8

pub low_16 : (n : ℕ) → n % 2 ^ 32 % 2 ^ 16 ≡ n % 2 ^ 16
low_16 n = mod-mod-pow n 16 16

low_32 : (n : ℕ) → n % 2 ^ 32 % 2 ^ 32 ≡ n % 2 ^ 32
low_32 n = mod-mod-pow n 0 32

low_64 : (n : ℕ) → n % 2 ^ 64 % 2 ^ 64 ≡ n % 2 ^ 64
low_64 n = mod-mod-pow n 0 64

long_32 : (n : ℕ) → n % 2 ^ 64 % 2 ^ 32 ≡ n % 2 ^ 32
long_32 n = mod-mod-pow n 32 32

-- Core types that others hold, place by place.
abbrev pub Below : List CoreType → List CoreType → Type 0
Below [] us = Unit {0}
Below (t ∷ ts) [] = ⊥
Below (t ∷ ts) (u ∷ us) = (joined t u ≡ u) × Below ts us

twice : (t u : CoreType) (w : ℕ) (words : List ℕ) (ts us : List CoreType) → joined t u ≡ u → wrapped ts (wrapped us words) ≡ wrapped ts words
    → wrapped (t ∷ ts) (wrapped (u ∷ us) (w ∷ words)) ≡ wrapped (t ∷ ts) (w ∷ words)
twice I32 I32 w words ts us h r = ap₂ (λ (x : ℕ) (xs : List ℕ). x ∷ xs) (low_32 w) r
twice I32 I64 w words ts us h r = ap₂ (λ (x : ℕ) (xs : List ℕ). x ∷ xs) (long_32 w) r
twice I64 I32 w words ts us h r = cc
twice I64 I64 w words ts us h r = ap₂ (λ (x : ℕ) (xs : List ℕ). x ∷ xs) (low_64 w) r

wrapped_none : (ts : List CoreType) → wrapped ts [] ≡ []
wrapped_none [] = refl
wrapped_none (t ∷ ts) = refl

pub wrapped_below : (ts us : List CoreType) (words : List ℕ) → Below ts us → wrapped ts (wrapped us words) ≡ wrapped ts words
wrapped_below [] us words b = refl
wrapped_below (t ∷ ts) [] words b = absurd b
wrapped_below (t ∷ ts) (u ∷ us) [] b = refl
wrapped_below (t ∷ ts) (u ∷ us) (w ∷ words) b = twice t u w words ts us b.0 (wrapped_below ts us words b.1)

pub below_length : (ts us : List CoreType) → Below ts us → length ts ≤ length us
below_length [] us b = omega arith
below_length (t ∷ ts) [] b = absurd b
below_length (t ∷ ts) (u ∷ us) b = omega (arith, below_length ts us b.1)

below_same : (ts : List CoreType) → Below ts ts
below_same [] = tt
below_same (I32 ∷ ts) = (refl, below_same ts)
below_same (I64 ∷ ts) = (refl, below_same ts)

joined_left : (t u : CoreType) → joined t (joined t u) ≡ joined t u
joined_left I32 I32 = refl
joined_left I32 I64 = refl
joined_left I64 u = refl

joined_right : (t u : CoreType) → joined u (joined t u) ≡ joined t u
joined_right I32 I32 = refl
joined_right I32 I64 = refl
joined_right I64 I32 = refl
joined_right I64 I64 = refl

below_left : (ts us : List CoreType) → Below ts (joined_lists ts us)
below_left [] us = tt
below_left (t ∷ ts) [] = below_same (t ∷ ts)
below_left (t ∷ ts) (u ∷ us) = (joined_left t u, below_left ts us)

below_right : (ts us : List CoreType) → Below us (joined_lists ts us)
below_right [] us = below_same us
below_right (t ∷ ts) [] = tt
below_right (t ∷ ts) (u ∷ us) = (joined_right t u, below_right ts us)

joined_over : (t u v : CoreType) → joined t u ≡ u → joined u v ≡ v → joined t v ≡ v
joined_over I32 u I32 h i = refl
joined_over I32 u I64 h i = refl
joined_over I64 I32 v h i = cc
joined_over I64 I64 v h i = i

below_over : (ts us vs : List CoreType) → Below ts us → Below us vs → Below ts vs
below_over [] us vs a b = tt
below_over (t ∷ ts) [] vs a b = absurd a
below_over (t ∷ ts) (u ∷ us) [] a b = absurd b
below_over (t ∷ ts) (u ∷ us) (v ∷ vs) a b = (joined_over t u v a.0 b.0, below_over ts us vs a.1 b.1)

below_all : (types : List (Option ValType)) (n : ℕ) (p : ValType) → part_in types n ≡ Some p → Below (flat p) (joined_all (map flat_payload types))
below_all [] n p h = cc
below_all (t ∷ types) zero p h =
    subst (λ (l : List CoreType). Below l (joined_all (map flat_payload (t ∷ types)))) (ap flat_payload h) (below_left (flat_payload t) (joined_all (map flat_payload types)))
below_all (t ∷ types) (suc n) p h =
    below_over (flat p) (joined_all (map flat_payload types)) (joined_all (map flat_payload (t ∷ types))) (below_all types n p h)
    (below_right (flat_payload t) (joined_all (map flat_payload types)))

-- what payloads share
pub record Shares (y : F.ValType-F ValType Case Field) : Type 0 where
  pub types : List CoreType
  pub is : flat_step (flats_in y) ≡ I32 ∷ types
  pub below : (n : ℕ) (p : ValType) → part_in (parts_case y) n ≡ Some p → Below (flat p) types

option_below : (part : ValType) (n : ℕ) (p : ValType) → part_in (None ∷ Some part ∷ []) n ≡ Some p → Below (flat p) (flat part)
option_below part zero p h = cc
option_below part (suc zero) p h =
    let e : part ≡ p = cc in
    subst (λ (t : ValType). Below (flat t) (flat part)) e (below_same (flat part))
option_below part (suc (suc n)) p h = cc

result_below : (ok err : Option ValType) (n : ℕ) (p : ValType) → part_in (ok ∷ err ∷ []) n ≡ Some p → Below (flat p) (joined_lists (flat_payload ok) (flat_payload err))
result_below ok err zero p h = subst (λ (l : List CoreType). Below l (joined_lists (flat_payload ok) (flat_payload err))) (ap flat_payload h) (below_left (flat_payload ok) (flat_payload err))
result_below ok err (suc zero) p h = subst (λ (l : List CoreType). Below l (joined_lists (flat_payload ok) (flat_payload err))) (ap flat_payload h) (below_right (flat_payload ok) (flat_payload err))
result_below ok err (suc (suc n)) p h = cc

pub shares : (y : F.ValType-F ValType Case Field) → HasCases y → Shares y
shares (F.Variant cases) h = record {
  types = joined_all (map flat_payload (map (λ (c : Case). c.payload) cases));
  is = ap (λ (ls : List (List CoreType)). I32 ∷ joined_all ls) (cases_flat cases);
  below = below_all (map (λ (c : Case). c.payload) cases);
}
shares (F.Enum labels) h = record { types = []; is = refl; below = λ n p e. cc }
shares (F.Option part) h = record { types = flat part; is = refl; below = option_below part }
shares (F.Result None None) h = record { types = joined_lists [] []; is = refl; below = result_below None None }
shares (F.Result None (Some e)) h = record { types = joined_lists [] (flat e); is = refl; below = result_below None (Some e) }
shares (F.Result (Some o) None) h = record { types = joined_lists (flat o) []; is = refl; below = result_below (Some o) None }
shares (F.Result (Some o) (Some e)) h = record { types = joined_lists (flat o) (flat e); is = refl; below = result_below (Some o) (Some e) }
shares other h = absurd h

-- the labels of an enum share nothing
pub enum_shares : (labels : List (List ℕ)) (others : List ℕ) → wrapped (shares (F.Enum labels) tt).types others ≡ []
unfolding shares
enum_shares labels others = refl

pub case_words : (t : ValType) (h : HasCases (out-ValType t)) → flat t ≡ I32 ∷ (shares (out-ValType t) h).types
case_words t h = flat_is t ∙ (shares (out-ValType t) h).is
