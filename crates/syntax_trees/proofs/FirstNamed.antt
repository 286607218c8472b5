-- A map of the first item of each name.
use Rattle.std.proofs.Common.{◌≡◌, ◌<◌, ◌≤◌, ◌+◌, ◌-◌, ℕ, zero, suc, Bool, true, false, cond, List, [], ◌∷◌, ◌++◌, map, length, take, get_or, refl, ap, sym, ◌∙◌, Some, None, Option, arith, Bor, length-take-le}
use Rattle.std.specs.Prelude.{is_some}
use Rattle.std.specs.List.{slice_get, find}
use Rattle.std.specs.Option.{option_and_then}
use Rattle.std.specs.Str.{bytes_eq}
use Rattle.std.specs.BTreeMap.{BTreeMap, UpdatesBy}
use Rattle.std.specs.Cmp.Lexicographic.{slice_cmp}
use Rattle.std.specs.Ordering.{nat_cmp}
use Rattle.std.proofs.lemmas.Map.Text.{btree_map_updates_str}
use Rattle.std.proofs.lemmas.List.{length-map, map-append}
use Rattle.std.proofs.lemmas.Slice.Eq.{bytes_eq-Decides}
use Rattle.syntax_trees.specs.Names.{at_name, named_behind, first_named}
use Rattle.syntax_trees.proofs.Seen.{take_one}

-- The map has the first item of each name so far.
pub record IsIndex {T : Type 0} (name : T → List ℕ) (items : List T) (at : ℕ) (m : BTreeMap (Bor (List ℕ)) ℕ) : Type 0 where
  pub all : (q : List ℕ) → at_name m q ≡ first_named q (map name (take at items))

abbrev or_last : Option ℕ → Bool → ℕ → Option ℕ
or_last (Some k) b at = Some k
or_last None b at = cond b (Some at) None

cond_or : (b c : Bool) (k at : ℕ) (r : Option ℕ) → or_last (cond b (Some k) r) c at ≡ cond b (Some k) (or_last r c at)
cond_or true c k at r = refl
cond_or false c k at r = refl

named_more : (k at : ℕ) (q : List ℕ) (names : List (List ℕ)) (name : List ℕ) → at ≡ k + length names → named_behind k q (names ++ name ∷ []) ≡ or_last (named_behind k q names) (bytes_eq name q) at
named_more k at q [] name h = let e : at ≡ k = omega arith in rw e refl
named_more k at q (n ∷ names) name h =
    ap (cond (bytes_eq n q) (Some k)) (named_more (k + 1) at q names name (omega arith)) ∙ sym (cond_or (bytes_eq n q) (bytes_eq name q) k at (named_behind (k + 1) q names))

same_if : (name q : List ℕ) → bytes_eq name q ≡ true → name ≡ q
same_if name q h = (bytes_eq-Decides name q).0 h

pub none_named : {T : Type 0} (name_of : T → List ℕ) (items : List T) (m : BTreeMap (Bor (List ℕ)) ℕ) → m.entries ≡ [] → IsIndex name_of items 0 m
none_named name_of items m h = record { all = λ q. rw h refl }

old_in : (name q : List ℕ) (at : ℕ) (f : List ℕ → Option ℕ) (b : Bool) (o : Option ℕ) → bytes_eq name q ≡ b → f q ≡ o → is_some (f name) ≡ true → o ≡ or_last o b at
old_in name q at f b (Some k) e s h = refl
old_in name q at f false None e s h = refl
old_in name q at f true None e s h = let same = same_if name q e in let none : f name ≡ None = ap f same ∙ s in cc

new_in : (name q : List ℕ) (at : ℕ) (f : List ℕ → Option ℕ) (b : Bool) (o : Option ℕ) → bytes_eq name q ≡ b → f q ≡ o → is_some (f name) ≡ false → cond b (Some at) o ≡ or_last o b at
new_in name q at f true None e s h = refl
new_in name q at f false None e s h = refl
new_in name q at f false (Some k) e s h = refl
new_in name q at f true (Some k) e s h = let same = same_if name q e in let some : f name ≡ Some k = ap f same ∙ s in cc

one_more : {T : Type 0} (name_of : T → List ℕ) (items : List T) (at : ℕ) (e : T) (q : List ℕ) → at < length items → e ≡ get_or items at e → first_named q (map name_of (take (at + 1) items)) ≡ or_last (first_named q (map name_of (take at items))) (bytes_eq (name_of e) q) at
one_more name_of items at e q h i =
    let taken : map name_of (take (at + 1) items) ≡ map name_of (take at items) ++ name_of e ∷ [] = ap (map name_of) (take_one items at e h i) ∙ map-append name_of (take at items) (e ∷ []) in
    let long : length (map name_of (take at items)) ≡ at = length-map (take at items) name_of ∙ length-take-le at items (omega arith) in
    ap (first_named q) taken ∙ named_more 0 at q (map name_of (take at items)) (name_of e) (omega arith)

pub old_named : {T : Type 0} (name_of : T → List ℕ) (items : List T) (at : ℕ) (e : T) (name : List ℕ) (there : Bool) (m : BTreeMap (Bor (List ℕ)) ℕ) → IsIndex name_of items at m → at < length items → e ≡ get_or items at e → name ≡ name_of e → there ≡ is_some (at_name m name) → there ≡ true → IsIndex name_of items (at + 1) m
old_named name_of items at e name there m is h i same found so = record {
  all = λ q.
      is.all q
      ∙ old_in (name_of e) q at (at_name m) (bytes_eq (name_of e) q) (first_named q (map name_of (take at items))) refl (is.all q) (ap (λ (n : List ℕ). is_some (at_name m n)) (sym same) ∙ sym found ∙ so)
      ∙ sym (one_more name_of items at e q h i);
}

pub new_named : {T : Type 0} (name_of : T → List ℕ) (items : List T) (at : ℕ) (e : T) (name : List ℕ) (there : Bool) (m n : BTreeMap (Bor (List ℕ)) ℕ) → IsIndex name_of items at m → at < length items → e ≡ get_or items at e → name ≡ name_of e → there ≡ is_some (at_name m name) → there ≡ false → UpdatesBy (λ x y. slice_cmp nat_cmp x.now y.now) (λ k. slice_cmp nat_cmp name k.now) m n (Some at) → IsIndex name_of items (at + 1) n
new_named name_of items at e name there m n is h i same found so updates = record {
  all = λ q.
      btree_map_updates_str name m n (Some at) updates q
      ∙ rw (same, is.all q) (new_in (name_of e) q at (at_name m) (bytes_eq (name_of e) q) (first_named q (map name_of (take at items))) refl (is.all q) (ap (λ (n : List ℕ). is_some (at_name m n)) (sym same) ∙ sym found ∙ so))
      ∙ sym (one_more name_of items at e q h i);
}

take_all : {T : Type 0} (n : ℕ) (xs : List T) → length xs ≤ n → take n xs ≡ xs
take_all zero [] h = refl
take_all zero (x ∷ xs) h = absurd (omega arith)
take_all (suc n) [] h = refl
take_all (suc n) (x ∷ xs) h = ap (λ ys. x ∷ ys) (take_all n xs (omega arith))

pub all_named : {T : Type 0} (name_of : T → List ℕ) (items : List T) (at : ℕ) (m : BTreeMap (Bor (List ℕ)) ℕ) → IsIndex name_of items at m → length items ≤ at → (q : List ℕ) → at_name m q ≡ first_named q (map name_of items)
all_named name_of items at m is h q = is.all q ∙ rw (take_all at items h) refl

found_at : (b : Bool) {T : Type 0} (x : T) (xs : List T) (at : ℕ) (r : Option ℕ) (f : Option T) → option_and_then (λ k. slice_get xs (k - (at + 1))) r ≡ f → ((k : ℕ) → r ≡ Some k → at + 1 ≤ k) → option_and_then (λ k. slice_get (x ∷ xs) (k - at)) (cond b (Some at) r) ≡ cond b (Some x) f
found_at true x xs at r f h later = let e : at - at ≡ 0 = omega arith in rw e refl
found_at false x xs at None f h later = h
found_at false x xs at (Some k) f h later =
    let above = later k refl in
    let e : k - at ≡ suc (k - (at + 1)) = omega (arith, above) in
    rw e h

later_in : (b : Bool) (at k : ℕ) (r : Option ℕ) → cond b (Some at) r ≡ Some k → (r ≡ Some k → at + 1 ≤ k) → at ≤ k
later_in true at k r h f = let e : at ≡ k = cc in omega (arith, e)
later_in false at k r h f = let e = f h in omega (arith, e)

named_later : (at : ℕ) (q : List ℕ) (names : List (List ℕ)) (k : ℕ) → named_behind at q names ≡ Some k → at ≤ k
named_later at q [] k h = cc
named_later at q (name ∷ names) k h = later_in (bytes_eq name q) at k (named_behind (at + 1) q names) h (λ e. named_later (at + 1) q names k e)

found_behind : {T : Type 0} (name_of : T → List ℕ) (xs : List T) (at : ℕ) (q : List ℕ) → option_and_then (λ k. slice_get xs (k - at)) (named_behind at q (map name_of xs)) ≡ find (λ x. bytes_eq (name_of x) q) xs
found_behind name_of [] at q = refl
found_behind name_of (x ∷ xs) at q =
    found_at (bytes_eq (name_of x) q) x xs at (named_behind (at + 1) q (map name_of xs)) (find (λ x. bytes_eq (name_of x) q) xs) (found_behind name_of xs (at + 1) q) (λ k. named_later (at + 1) q (map name_of xs) k)

minus_none : (k : ℕ) → k - 0 ≡ k
minus_none k = omega arith

same_found : {T : Type 0} (xs : List T) (r : Option ℕ) → option_and_then (λ k. slice_get xs (k - 0)) r ≡ option_and_then (λ k. slice_get xs k) r
same_found xs None = refl
same_found xs (Some k) = ap (λ (n : ℕ). slice_get xs n) (minus_none k)

-- What stands at the number of the first item of a name is the first item of that name.
pub found_by_name : {T : Type 0} (name_of : T → List ℕ) (xs : List T) (q : List ℕ) → option_and_then (λ k. slice_get xs k) (first_named q (map name_of xs)) ≡ find (λ x. bytes_eq (name_of x) q) xs
found_by_name name_of xs q = sym (same_found xs (first_named q (map name_of xs))) ∙ found_behind name_of xs 0 q
