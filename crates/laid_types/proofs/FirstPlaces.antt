-- A map of the first place of each label.
use Rattle.std.proofs.Common.{◌≡◌, ◌<◌, ◌+◌, ℕ, Bool, true, false, cond, List, [], ◌∷◌, ◌++◌, map, length, take, get_or, refl, ap, sym, ◌∙◌, Some, None, Option, arith, Bor, length-take-le}
use Rattle.std.specs.Prelude.{is_some}
use Rattle.std.specs.Map.{update}
use Rattle.std.specs.Str.{bytes_eq}
use Rattle.std.proofs.lemmas.List.{length-map, map-append, take_more}
use Rattle.std.proofs.lemmas.Slice.Eq.{bytes_eq-Decides}
use Rattle.syntax_trees.specs.Names.{named_behind, first_named}

abbrev or_last : Option ℕ → Bool → ℕ → Option ℕ
or_last (Some k) b at = Some k
or_last None b at = cond b (Some at) None

cond_or : (b c : Bool) (k at : ℕ) (r : Option ℕ) → or_last (cond b (Some k) r) c at ≡ cond b (Some k) (or_last r c at)
cond_or true c k at r = refl
cond_or false c k at r = refl

named_more : (k at : ℕ) (q : List ℕ) (names : List (List ℕ)) (name : List ℕ) → at ≡ k + length names → named_behind k q (names ++ name ∷ []) ≡ or_last (named_behind k q names) (bytes_eq name q) at
named_more k at q [] name h = let e : at ≡ k = omega arith in rw e refl
named_more k at q (n ∷ names) name h =
    ap (cond (bytes_eq n q) (Some k)) (named_more (k + 1) at q names name (omega arith)) ∙ sym (cond_or (bytes_eq n q) (bytes_eq name q) k at (named_behind (k + 1) q names))

same_if : (name q : List ℕ) → bytes_eq name q ≡ true → name ≡ q
same_if name q h = (bytes_eq-Decides name q).0 h

old_in : (name q : List ℕ) (at : ℕ) (f : List ℕ → Option ℕ) (b : Bool) (o : Option ℕ) → bytes_eq name q ≡ b → f q ≡ o → is_some (f name) ≡ true → o ≡ or_last o b at
old_in name q at f b (Some k) e s h = refl
old_in name q at f false None e s h = refl
old_in name q at f true None e s h = let same = same_if name q e in let none : f name ≡ None = ap f same ∙ s in cc

new_in : (name q : List ℕ) (at : ℕ) (f : List ℕ → Option ℕ) (b : Bool) (o : Option ℕ) → bytes_eq name q ≡ b → f q ≡ o → is_some (f name) ≡ false → cond b (Some at) o ≡ or_last o b at
new_in name q at f true None e s h = refl
new_in name q at f false None e s h = refl
new_in name q at f false (Some k) e s h = refl
new_in name q at f true (Some k) e s h = let same = same_if name q e in let some : f name ≡ Some k = ap f same ∙ s in cc

-- the labels so far
abbrev pub labels_to : List (Bor (List ℕ)) → ℕ → List (List ℕ)
labels_to labels at = map (λ (l : Bor (List ℕ)). l.now) (take at labels)

-- What is found of each label is its first place so far.
abbrev pub AreFirst : (List ℕ → Option ℕ) → List (Bor (List ℕ)) → ℕ → Type 0
AreFirst find labels at = (q : List ℕ) → find q ≡ first_named q (labels_to labels at)

one_more : (labels : List (Bor (List ℕ))) (at : ℕ) (label d : Bor (List ℕ)) (q : List ℕ) → at < length labels → label.now ≡ (get_or labels at d).now → first_named q (labels_to labels (at + 1)) ≡ or_last (first_named q (labels_to labels at)) (bytes_eq label.now q) at
one_more labels at label d q h is =
    let taken : labels_to labels (at + 1) ≡ labels_to labels at ++ label.now ∷ [] =
    ap (map (λ (l : Bor (List ℕ)). l.now)) (take_more labels at d h)
    ∙ map-append (λ (l : Bor (List ℕ)). l.now) (take at labels) (get_or labels at d ∷ [])
    ∙ ap (λ (t : List ℕ). labels_to labels at ++ t ∷ []) (sym is) in
    let long : length (labels_to labels at) ≡ at = length-map (take at labels) (λ (l : Bor (List ℕ)). l.now) ∙ length-take-le at labels (omega arith) in
    ap (first_named q) taken ∙ named_more 0 at q (labels_to labels at) label.now (omega arith)

-- A label that stands before.
pub old_label : (find : List ℕ → Option ℕ) (labels : List (Bor (List ℕ))) (at : ℕ) (label d : Bor (List ℕ)) → AreFirst find labels at → at < length labels → label.now ≡ (get_or labels at d).now → is_some (find label.now) ≡ true → AreFirst find labels (at + 1)
old_label find labels at label d first h is found q =
    first q
    ∙ old_in label.now q at find (bytes_eq label.now q) (first_named q (labels_to labels at)) refl (first q) found
    ∙ sym (one_more labels at label d q h is)

-- A label that is new.
pub new_label : (find next : List ℕ → Option ℕ) (labels : List (Bor (List ℕ))) (at : ℕ) (label d : Bor (List ℕ)) → AreFirst find labels at → at < length labels → label.now ≡ (get_or labels at d).now → is_some (find label.now) ≡ false → ((q : List ℕ) → next q ≡ update bytes_eq find label.now (Some at) q) → AreFirst next labels (at + 1)
new_label find next labels at label d first h is found put q =
    put q
    ∙ ap (cond (bytes_eq label.now q) (Some at)) (first q)
    ∙ new_in label.now q at find (bytes_eq label.now q) (first_named q (labels_to labels at)) refl (first q) found
    ∙ sym (one_more labels at label d q h is)
