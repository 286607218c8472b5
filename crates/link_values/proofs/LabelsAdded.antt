-- Lists of labels that are looked up, and one more that is added.
use Rattle.std.proofs.Common.{◌≡◌, ◌∙◌, ℕ, ◌+◌, ◌<◌, Bool, true, false, cond, List, [], ◌∷◌, length, map, refl, ap, sym, subst, arith, Option, Some, None, Bor, ◌⊎◌, inl, inr}
use Rattle.std.specs.Prelude.{is_some, if◌then◌else◌}
use Rattle.std.proofs.lemmas.List.{length-map}
use Rattle.std.specs.declared.cmp.Ordering.{Ordering}
use Rattle.std.specs.declared.cmp.Ordering.TheVariants.{Less, Equal, Greater}
use Rattle.std.specs.Ordering.{nat_cmp, is_eq, ordering_then, match_ordering}
use Rattle.std.specs.Cmp.Lexicographic.{slice_cmp}
use Rattle.std.specs.BTreeMap.{insert_entry}
use Rattle.std.specs.Map.{lookup}
use Rattle.std.proofs.lemmas.Cmp.{tied_itself, nat_list_cmp_total}
use Rattle.std.proofs.lemmas.Map.Lookups.{exact_bytes}
use Rattle.link_values.specs.Labels.{texts, same_list, list_number, AreListed}
use Rattle.link_values.proofs.KeyOrder.{is_equal}
use Rattle.link_values.proofs.ListOrder.{then_equal, both_equal}

-- Lists that are the same.
same_exact : (p q : List (List ℕ)) → slice_cmp (slice_cmp nat_cmp) p q ≡ Equal → p ≡ q
same_exact [] [] h = refl
same_exact [] (y ∷ q) h = cc
same_exact (x ∷ p) [] h = cc
same_exact (x ∷ p) (y ∷ q) h =
    let both = then_equal (slice_cmp nat_cmp x y) (slice_cmp (slice_cmp nat_cmp) p q) h in
    let a : x ≡ y = exact_bytes x y both.0 in
    let b : p ≡ q = same_exact p q both.1 in
    cc

same_itself : (p : List (List ℕ)) → slice_cmp (slice_cmp nat_cmp) p p ≡ Equal
same_itself [] = refl
same_itself (x ∷ p) = both_equal (slice_cmp nat_cmp x x) (slice_cmp (slice_cmp nat_cmp) p p) (tied_itself nat_list_cmp_total x) (same_itself p)

pub list_exact : (p q : List (List ℕ)) → same_list p q ≡ true → p ≡ q
list_exact p q h = same_exact p q (is_equal (slice_cmp (slice_cmp nat_cmp) p q) h)

pub list_itself : (p : List (List ℕ)) → same_list p p ≡ true
list_itself p = ap is_eq (same_itself p)

-- Labels are compared by their texts.
abbrev label_cmp : Bor (List ℕ) → Bor (List ℕ) → Ordering
label_cmp a b = slice_cmp nat_cmp a.now b.now

by_texts : (xs ys : List (Bor (List ℕ))) → slice_cmp label_cmp xs ys ≡ slice_cmp (slice_cmp nat_cmp) (texts xs) (texts ys)
by_texts [] [] = refl
by_texts [] (y ∷ ys) = refl
by_texts (x ∷ xs) [] = refl
by_texts (x ∷ xs) (y ∷ ys) = ap (ordering_then (slice_cmp nat_cmp x.now y.now)) (by_texts xs ys)

-- One list more.
module _ (entries more : List (List (List ℕ) × ℕ)) (labels : List (List ℕ)) (number : ℕ) (listed : AreListed entries) (absent : list_number entries labels ≡ None) (last : number ≡ length entries)
    (longer : length more ≡ length entries + 1) (added : (q : List (List ℕ)) → list_number more q ≡ cond (same_list q labels) (Some number) (list_number entries q)) where
  found_in : (q : List (List ℕ)) (n : ℕ) (b : Bool) → same_list q labels ≡ b → cond b (Some number) (list_number entries q) ≡ Some n → ((b ≡ true) × (n ≡ number)) ⊎ ((b ≡ false) × (list_number entries q ≡ Some n))
  found_in q n true e h = inl (refl, cc)
  found_in q n false e h = inr (refl, h)

  one_more : (p q : List (List ℕ)) (n : ℕ) → list_number more p ≡ Some n → list_number more q ≡ Some n → p ≡ q
  one_more p q n hp hq =
      elim (found_in p n (same_list p labels) refl (sym (added p) ∙ hp)) [
        | inl here ↦ elim (found_in q n (same_list q labels) refl (sym (added q) ∙ hq)) [
          | inl too ↦ list_exact p labels here.0 ∙ sym (list_exact q labels too.0)
          | inr there ↦ absurd (let below : n < length entries = listed.below q n there.1 in omega (arith, below, here.1, last))
        ]
        | inr old ↦ elim (found_in q n (same_list q labels) refl (sym (added q) ∙ hq)) [
          | inl new ↦ absurd (let below : n < length entries = listed.below p n old.1 in omega (arith, below, new.1, last))
          | inr other ↦ listed.one p q n old.1 other.1
        ]
      ]

  below_more : (q : List (List ℕ)) (n : ℕ) → list_number more q ≡ Some n → n < length more
  below_more q n h =
      elim (found_in q n (same_list q labels) refl (sym (added q) ∙ h)) [
        | inl here ↦ omega (arith, here.1, last, longer)
        | inr old ↦ (let below : n < length entries = listed.below q n old.1 in omega (arith, below, longer))
      ]

  pub listed_more : AreListed more
  listed_more = record { one = one_more; below = below_more }

  pub number_stays : (q : List (List ℕ)) (n : ℕ) → list_number entries q ≡ Some n → list_number more q ≡ Some n
  number_stays q n h = added q ∙ stays (same_list q labels) refl
    where
      stays : (b : Bool) → same_list q labels ≡ b → cond b (Some number) (list_number entries q) ≡ Some n
      stays true e = let same : q ≡ labels = list_exact q labels e in let there : list_number entries labels ≡ Some n = ap (list_number entries) (sym same) ∙ h in cc
      stays false e = h

  pub number_here : list_number more labels ≡ Some number
  number_here = added labels ∙ ap (λ b. cond b (Some number) (list_number entries labels)) (list_itself labels)

-- The same of a map by vectors of labels, whose items are these.
module _ {K : Type 0} (items : K → List (Bor (List ℕ))) where
  abbrev pub shown : List (K × ℕ) → List (List (List ℕ) × ℕ)
  shown entries = map (λ (e : K × ℕ). (texts (items e.0), e.1)) entries

  abbrev key_cmp : K → K → Ordering
  key_cmp x y = slice_cmp label_cmp (items x) (items y)

  pub looked_up : (q : List (Bor (List ℕ))) (entries : List (K × ℕ)) → lookup (λ k. is_eq (slice_cmp label_cmp q (items k))) entries ≡ list_number (shown entries) (texts q)
  looked_up q [] = refl
  looked_up q (e ∷ entries) =
      ap (λ o. cond (is_eq o) (Some e.1) (lookup (λ k. is_eq (slice_cmp label_cmp q (items k))) entries)) (by_texts q (items e.0))
      ∙ ap (cond (same_list (texts q) (texts (items e.0))) (Some e.1)) (looked_up q entries)

  -- another list stands first
  not_first : (b : Bool) (n : ℕ) (o : Option ℕ) → cond b (Some n) o ≡ None → (b ≡ false) × (o ≡ None)
  not_first true n o h = cc
  not_first false n o h = (refl, h)

  swapped : (first labels q : List (List ℕ)) (n number : ℕ) (o : Option ℕ) (b d : Bool) → same_list q first ≡ b → same_list q labels ≡ d → same_list labels first ≡ false
      → cond b (Some n) (cond d (Some number) o) ≡ cond d (Some number) (cond b (Some n) o)
  swapped first labels q n number o true true e h apart =
      let same : labels ≡ first = sym (list_exact q labels h) ∙ list_exact q first e in
      let itself : same_list labels first ≡ true = ap (same_list labels) (sym same) ∙ list_itself labels in
      cc
  swapped first labels q n number o true false e h apart = refl
  swapped first labels q n number o false d e h apart = refl

  module _ (k : K) (number : ℕ) where
    put_in : (e : K × ℕ) (entries : List (K × ℕ)) (o : Ordering) → key_cmp k e.0 ≡ o → list_number (shown (e ∷ entries)) (texts (items k)) ≡ None
        → ((q : List (List ℕ)) → list_number (shown (insert_entry key_cmp entries k number)) q ≡ cond (same_list q (texts (items k))) (Some number) (list_number (shown entries) q))
        → (q : List (List ℕ)) → list_number (shown (match_ordering o ((k, number) ∷ e ∷ entries) ((e.0, number) ∷ entries) (e ∷ insert_entry key_cmp entries k number))) q ≡ cond (same_list q (texts (items k))) (Some number) (list_number (shown (e ∷ entries)) q)
    put_in e entries Less is absent rest q = refl
    put_in e entries Equal is absent rest q =
        let same : same_list (texts (items k)) (texts (items e.0)) ≡ true = ap is_eq (sym (by_texts (items k) (items e.0)) ∙ is) in
        let apart = not_first (same_list (texts (items k)) (texts (items e.0))) e.1 (list_number (shown entries) (texts (items k))) absent in
        absurd (let no : true ≡ false = sym same ∙ apart.0 in let bad : ⊥ = cc in bad)
    put_in e entries Greater is absent rest q =
        let apart = not_first (same_list (texts (items k)) (texts (items e.0))) e.1 (list_number (shown entries) (texts (items k))) absent in
        ap (cond (same_list q (texts (items e.0))) (Some e.1)) (rest q)
        ∙ swapped (texts (items e.0)) (texts (items k)) q e.1 number (list_number (shown entries) q) (same_list q (texts (items e.0))) (same_list q (texts (items k))) refl refl apart.0

    pub inserted : (entries : List (K × ℕ)) → list_number (shown entries) (texts (items k)) ≡ None
        → (q : List (List ℕ)) → list_number (shown (insert_entry key_cmp entries k number)) q ≡ cond (same_list q (texts (items k))) (Some number) (list_number (shown entries) q)
    inserted [] absent q = refl
    inserted (e ∷ entries) absent q =
        put_in e entries (key_cmp k e.0) refl absent
        (inserted entries (not_first (same_list (texts (items k)) (texts (items e.0))) e.1 (list_number (shown entries) (texts (items k))) absent).1) q

  shown_length : (entries : List (K × ℕ)) → length (shown entries) ≡ length entries
  shown_length entries = length-map entries (λ (e : K × ℕ). (texts (items e.0), e.1))

  pub one_longer : (old : Option ℕ) (m n : ℕ) → old ≡ None → m ≡ n + (if is_some old then 0 else 1) → m ≡ n + 1
  one_longer None m n e h = h
  one_longer (Some k) m n e h = cc

  module _ (entries new : List (K × ℕ)) (seen : List (List (List ℕ) × ℕ)) (k : K) (number : ℕ) (listed : AreListed (shown entries)) (same : shown entries ≡ seen) (absent : list_number (shown entries) (texts (items k)) ≡ None)
      (last : number ≡ length entries) (long : length new ≡ length entries + 1) (put : new ≡ insert_entry key_cmp entries k number) where
    added_to : (q : List (List ℕ)) → list_number (shown new) q ≡ cond (same_list q (texts (items k))) (Some number) (list_number (shown entries) q)
    added_to q = ap (λ (es : List (K × ℕ)). list_number (shown es) q) put ∙ inserted k number entries absent q

    longer_by : length (shown new) ≡ length (shown entries) + 1
    longer_by = shown_length new ∙ long ∙ ap (λ n. n + 1) (sym (shown_length entries))

    pub put_listed : AreListed (shown new)
    put_listed = listed_more (shown entries) (shown new) (texts (items k)) number listed absent (last ∙ sym (shown_length entries)) longer_by added_to

    pub put_stays : (q : List (List ℕ)) (n : ℕ) → list_number seen q ≡ Some n → list_number (shown new) q ≡ Some n
    put_stays q n h =
        number_stays (shown entries) (shown new) (texts (items k)) number listed absent (last ∙ sym (shown_length entries)) longer_by added_to q n (subst (λ (es : List (List (List ℕ) × ℕ)). list_number es q ≡ Some n) (sym same) h)

    pub put_here : list_number (shown new) (texts (items k)) ≡ Some number
    put_here = number_here (shown entries) (shown new) (texts (items k)) number listed absent (last ∙ sym (shown_length entries)) longer_by added_to

pub none_listed : AreListed []
none_listed = record { one = λ p q n h k. cc; below = λ q n h. cc }
