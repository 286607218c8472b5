-- Layouts that are computed up to a limit are those of the definition, up to that limit.
use Rattle.std.proofs.Common.{◌≡◌, ◌∙◌, ℕ, ◌+◌, ◌≤◌, ◌^◌, min, max, List, [], ◌∷◌, Option, Some, None, refl, arith, ap, sym}
use Rattle.layouts.specs.Layout.{Laid, aligned, end_of, top_align, top_size, there, tag_size, scalar, record_laid}
use Rattle.layouts.specs.Layout as layout
use Rattle.layouts.specs.Limited.{limited, nothing, followed, closed, joined, tagged}

-- the layout of a row and of the parts behind it
abbrev pub closed_behind : Laid → List Laid → Laid
closed_behind row [] = closed row
closed_behind row (p ∷ parts) = closed_behind (followed row (limited p)) parts

-- room for one more payload, which may be absent
abbrev pub joined_with : Laid → Option Laid → Laid
joined_with payload (Some p) = joined payload (limited p)
joined_with payload None = payload

-- the layout of so many cases, with a payload so far and the payloads of more cases
abbrev pub tagged_behind : ℕ → Laid → List (Option Laid) → Laid
tagged_behind count payload [] = tagged count payload
tagged_behind count payload (c ∷ cases) = tagged_behind count (joined_with payload c) cases

-- What is limited alike before a step is so behind it.
aligned_alike : (L p q align : ℕ) → min p L ≡ min q L → min (aligned p align) L ≡ min (aligned q align) L
aligned_alike L p q align h = grind arith

added_alike : (L p q size : ℕ) → min p L ≡ min q L → min (p + size) L ≡ min (q + size) L
added_alike L p q size h = omega arith

ends_alike : (L : ℕ) (parts : List Laid) (p q : ℕ) → min p L ≡ min q L → min (end_of p parts) L ≡ min (end_of q parts) L
ends_alike L [] p q h = h
ends_alike L (f ∷ parts) p q h =
    ends_alike L parts _ _ (added_alike L _ _ f.size (aligned_alike L p q f.align h))

part_limited : (L p s : ℕ) → min (min (p + min s L) L) L ≡ min (p + s) L
part_limited L p s = omega arith

top_align_low : (parts : List Laid) → 1 ≤ top_align parts
top_align_low [] = omega arith
top_align_low (p ∷ parts) = omega (arith, top_align_low parts)

laid_eq : (s s' a a' : ℕ) → s ≡ s' → a ≡ a' → (let x : Laid = record { size = s; align = a } in x) ≡ (let y : Laid = record { size = s'; align = a' } in y)
laid_eq s s' a a' e f = cc

max_one : (a : ℕ) → 1 ≤ a → max a 1 ≡ a
max_one a h = omega arith

max_assoc : (a b c : ℕ) → max (max a b) c ≡ max a (max b c)
max_assoc a b c = omega arith

closed_behind_from : (parts : List Laid) (row : Laid) → 1 ≤ row.align
    → closed_behind row parts ≡ record { size = min (aligned (end_of row.size parts) (max row.align (top_align parts))) (2 ^ 64); align = max row.align (top_align parts) }
closed_behind_from [] row h = laid_eq _ _ _ _ (ap (λ a. min (aligned row.size a) (2 ^ 64)) (sym (max_one row.align h))) (sym (max_one row.align h))
closed_behind_from (p ∷ parts) row h =
    closed_behind_from parts (followed row (limited p)) (omega arith)
    ∙ laid_eq _ _ _ _
    (ap (λ a. min (aligned (end_of (min (aligned row.size p.align + min p.size (2 ^ 64)) (2 ^ 64)) parts) a) (2 ^ 64)) (max_assoc row.align p.align (top_align parts))
    ∙ aligned_alike (2 ^ 64) _ _ _ (ends_alike (2 ^ 64) parts _ _ (part_limited (2 ^ 64) (aligned row.size p.align) p.size)))
    (max_assoc row.align p.align (top_align parts))

pub closed_behind_all : (parts : List Laid) → closed_behind nothing parts ≡ limited (record_laid parts)
closed_behind_all parts =
    let e : max 1 (top_align parts) ≡ top_align parts = omega (arith, top_align_low parts) in
    closed_behind_from parts nothing (omega arith)
    ∙ laid_eq _ _ _ _ (ap (λ a. min (aligned (end_of 0 parts) a) (2 ^ 64)) e) e

min_twice : (L p s s' : ℕ) → min s L ≡ min s' L → min (min (p + s) L) L ≡ min (p + s') L
min_twice L p s s' h = omega arith

tagged_alike : (count a s s' : ℕ) → min s (2 ^ 64) ≡ min s' (2 ^ 64)
    → tagged count (record { size = s; align = a }) ≡ limited (record {
      size = aligned (aligned (tag_size count) a + s') (max (tag_size count) a);
      align = max (tag_size count) a;
    })
tagged_alike count a s s' h =
    laid_eq _ _ _ _
    (aligned_alike (2 ^ 64) _ _ (max (tag_size count) a)
    (min_twice (2 ^ 64) (aligned (tag_size count) a) s s' h))
    refl

tagged_behind_from : (count : ℕ) (cases : List (Option Laid)) (payload : Laid) → 1 ≤ payload.align
    → tagged_behind count payload cases ≡ tagged count (record { size = max payload.size (min (top_size (there cases)) (2 ^ 64)); align = max payload.align (top_align (there cases)) })
tagged_behind_from count [] payload h = ap (tagged count) (laid_eq _ _ _ _ (omega arith) (sym (max_one payload.align h)))
tagged_behind_from count (None ∷ cases) payload h = tagged_behind_from count cases payload h
tagged_behind_from count (Some p ∷ cases) payload h =
    tagged_behind_from count cases (joined payload (limited p)) (omega arith)
    ∙ ap (tagged count) (laid_eq _ _ _ _ (omega arith) (max_assoc payload.align p.align (top_align (there cases))))

pub tagged_behind_all : (count : ℕ) (cases : List (Option Laid)) → tagged_behind count nothing cases ≡ limited (layout.tagged count (there cases))
tagged_behind_all count cases =
    let e : max 1 (top_align (there cases)) ≡ top_align (there cases) = omega (arith, top_align_low (there cases)) in
    tagged_behind_from count cases nothing (omega arith)
    ∙ ap (tagged count) (laid_eq _ _ _ _ (let f : max 0 (min (top_size (there cases)) (2 ^ 64)) ≡ min (top_size (there cases)) (2 ^ 64) = omega arith in f) e)
    ∙ tagged_alike count (top_align (there cases)) (min (top_size (there cases)) (2 ^ 64)) (top_size (there cases)) (omega arith)
