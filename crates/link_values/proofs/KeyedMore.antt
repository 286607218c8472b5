-- Tables in which types are found by their keys, as one more is added, or is taken back.
use Rattle.std.proofs.Common.{◌≡◌, ◌∙◌, ℕ, Bool, true, false, cond, List, [], ◌∷◌, ◌++◌, length, ap, sym, refl, subst, Some, None, Option, inl, inr}
use Rattle.std.specs.List.{slice_get}
use Rattle.std.specs.BTreeMap.{BTreeMap}
use Rattle.std.specs.Ordering.{is_eq}
use Rattle.std.specs.declared.cmp.Ordering.TheVariants.{Equal}
use Rattle.syntax_trees.specs.declared.types.ValType.{ValType}
use Rattle.link_values.specs.declared.keys.ValueKey.{ValueKey}
use Rattle.link_values.specs.Keys.{IsKeyOf}
use Rattle.link_values.specs.Keyed.{AreKeyed, key_cmp, number_in}
use Rattle.link_values.specs.Labels.{list_number, AreListed}
use Rattle.link_values.specs.Numbering.{AreApart, IsNumberOf}
use Rattle.link_values.proofs.Numbered.{none_at, stays_at, last_at, is_at_or_last}
use Rattle.link_values.proofs.KeyOrder.{is_equal, cmp_alike, cmp_itself, number_alike}
use Rattle.link_values.proofs.KeysTold.{one_key, one_type, equal_key, key_more, key_stays}
use Rattle.link_values.proofs.LabelsAdded.{none_listed}

module _ (lists : List (List (List ℕ) × ℕ)) where
  -- What is found.
  pub found_number : (m : BTreeMap ValueKey ℕ) (types : List ValType) (key : ValueKey) (t : ValType) (o : Option ℕ) → AreKeyed lists m types → IsKeyOf lists types key t → number_in m key ≡ o → IsNumberOf types t o
  found_number m types key t None keyed k h = λ n at.
      let f = keyed.found n t at in
      let same = number_alike m key f.0 (one_key lists types key f.0 t keyed.apart k f.1) in
      cc
  found_number m types key t (Some n) keyed k h =
      let s = keyed.stands key n h in
      let same = one_type lists types key s.0 t keyed.listed s.2 k in
      s.1 ∙ ap (λ (u : ValType). Some u) same

  absent_at : (m : BTreeMap ValueKey ℕ) (types : List ValType) (key : ValueKey) (t : ValType) (o : Option ℕ) → AreKeyed lists m types → IsKeyOf lists types key t → IsNumberOf types t None → number_in m key ≡ o → o ≡ None
  absent_at m types key t None keyed k absent h = refl
  absent_at m types key t (Some n) keyed k absent h = absurd (absent n (found_number m types key t (Some n) keyed k h))

  -- What is not there is not found.
  pub not_found : (m : BTreeMap ValueKey ℕ) (types : List ValType) (key : ValueKey) (t : ValType) → AreKeyed lists m types → IsKeyOf lists types key t → IsNumberOf types t None → number_in m key ≡ None
  not_found m types key t keyed k absent = absent_at m types key t (number_in m key) keyed k absent refl

  -- Look-ups that agree.
  pub keyed_alike : (m n : BTreeMap ValueKey ℕ) (types : List ValType) → ((q : ValueKey) → number_in n q ≡ number_in m q) → AreKeyed lists m types → AreKeyed lists n types
  keyed_alike m n types alike keyed = record {
    listed = keyed.listed;
    stands = λ key number h. keyed.stands key number (sym (alike key) ∙ h);
    found = λ number t at. let f = keyed.found number t at in (f.0, f.1, alike f.0 ∙ f.2);
    apart = keyed.apart;
  }

  pub keyed_kept : (m n : BTreeMap ValueKey ℕ) (types others : List ValType) → n.entries ≡ m.entries → others ≡ types → AreKeyed lists m types → AreKeyed lists n others
  keyed_kept m n types others same is keyed = rw is (keyed_alike m n types (λ q. rw same refl) keyed)

  -- More lists.
  pub keyed_stays : (longer : List (List (List ℕ) × ℕ)) (m : BTreeMap ValueKey ℕ) (types : List ValType) → ((q : List (List ℕ)) (n : ℕ) → list_number lists q ≡ Some n → list_number longer q ≡ Some n) → AreListed longer → AreKeyed lists m types → AreKeyed longer m types
  keyed_stays longer m types stays listed keyed = record {
    listed = listed;
    stands = λ key number h. let s = keyed.stands key number h in (s.0, s.1, key_stays lists types longer stays key s.0 s.2);
    found = λ number t at. let f = keyed.found number t at in (f.0, key_stays lists types longer stays f.0 t f.1, f.2);
    apart = keyed.apart;
  }

  -- One type more.
  module _ (m n : BTreeMap ValueKey ℕ) (types : List ValType) (key : ValueKey) (t : ValType) (keyed : AreKeyed lists m types) (k : IsKeyOf lists types key t) (absent : IsNumberOf types t None)
      (more : (q : ValueKey) → number_in n q ≡ cond (is_eq (key_cmp key q)) (Some (length types)) (number_in m q)) where
    abbrev Stands : ValueKey → ℕ → Type 0
    Stands q number = (type : ValType) × (slice_get (types ++ t ∷ []) number ≡ Some type) × IsKeyOf lists (types ++ t ∷ []) q type

    stands_one : (q : ValueKey) (number : ℕ) (b : Bool) → is_eq (key_cmp key q) ≡ b → cond b (Some (length types)) (number_in m q) ≡ Some number → Stands q number
    stands_one q number true e h =
        let here : length types ≡ number = cc in
        (t, rw (← here) (last_at types t), key_more lists types (t ∷ []) q t (equal_key lists types key q t (is_equal (key_cmp key q) e) k))
    stands_one q number false e h =
        let s = keyed.stands q number h in
        (s.0, stays_at types (t ∷ []) number s.0 s.1, key_more lists types (t ∷ []) q s.0 s.2)

    found_old : (q : ValueKey) (number : ℕ) (b : Bool) → is_eq (key_cmp key q) ≡ b → number_in m q ≡ Some number → cond b (Some (length types)) (number_in m q) ≡ Some number
    found_old q number true e h =
        let none = not_found m types key t keyed k absent in
        let same = number_alike m key q (is_equal (key_cmp key q) e) in
        cc
    found_old q number false e h = h

    found_one : (number : ℕ) (u : ValType) → slice_get (types ++ t ∷ []) number ≡ Some u → (q : ValueKey) × IsKeyOf lists (types ++ t ∷ []) q u × (number_in n q ≡ Some number)
    found_one number u at = elim (is_at_or_last types t number u at) [
      | inl there ↦
          let f = keyed.found number u there in
          (f.0, key_more lists types (t ∷ []) f.0 u f.1, more f.0 ∙ found_old f.0 number (is_eq (key_cmp key f.0)) refl f.2)
      | inr last ↦
          let itself : is_eq (key_cmp key key) ≡ true = ap is_eq (cmp_itself key) in
          (key, rw last.1 (key_more lists types (t ∷ []) key t k), more key ∙ ap (λ b. cond b (Some (length types)) (number_in m key)) itself ∙ ap (λ (i : ℕ). Some i) (sym last.0))
    ]

    apart_one : AreApart (types ++ t ∷ [])
    apart_one i j u hi hj = elim (is_at_or_last types t i u hi) [
      | inl there ↦ elim (is_at_or_last types t j u hj) [
        | inl other ↦ keyed.apart i j u there other
        | inr last ↦ absurd (absent i (there ∙ ap (λ (v : ValType). Some v) last.1))
      ]
      | inr here ↦ elim (is_at_or_last types t j u hj) [
        | inl other ↦ absurd (absent j (other ∙ ap (λ (v : ValType). Some v) here.1))
        | inr last ↦ here.0 ∙ sym last.0
      ]
    ]

    pub keyed_more : AreKeyed lists n (types ++ t ∷ [])
    keyed_more = record {
      listed = keyed.listed;
      stands = λ q number h. stands_one q number (is_eq (key_cmp key q)) refl (sym (more q) ∙ h);
      found = found_one;
      apart = apart_one;
    }

pub found_in : (lists seen : List (List (List ℕ) × ℕ)) (m : BTreeMap ValueKey ℕ) (types others : List ValType) (key : ValueKey) (o : Option ℕ) → AreKeyed lists m types → lists ≡ seen → types ≡ others → o ≡ number_in m key
    → (t : ValType) → IsKeyOf seen others key t → IsNumberOf others t o
found_in lists seen m types others key o keyed f e h t k =
    found_number seen m others key t o (subst (λ (ls : List (List (List ℕ) × ℕ)). AreKeyed ls m others) f (subst (AreKeyed lists m) e keyed)) k (sym h)

-- A key that was put in and is taken out.
module _ (m n o : BTreeMap ValueKey ℕ) (x y : ValueKey) (number : Option ℕ) (tied : key_cmp x y ≡ Equal) (none : number_in m y ≡ None) where
  back_at : (q : ValueKey) (b : Bool) → is_eq (key_cmp x q) ≡ b → cond b None (cond (is_eq (key_cmp y q)) number (number_in m q)) ≡ number_in m q
  back_at q true e = sym (sym (number_alike m y q (sym (cmp_alike x y q tied) ∙ is_equal (key_cmp x q) e)) ∙ none)
  back_at q false e =
      let apart : is_eq (key_cmp y q) ≡ false = ap is_eq (sym (cmp_alike x y q tied)) ∙ e in
      ap (λ b. cond b number (number_in m q)) apart

  pub taken_back : ((q : ValueKey) → number_in n q ≡ cond (is_eq (key_cmp y q)) number (number_in m q)) → ((q : ValueKey) → number_in o q ≡ cond (is_eq (key_cmp x q)) None (number_in n q)) → (q : ValueKey) → number_in o q ≡ number_in m q
  taken_back put taken q = taken q ∙ ap (cond (is_eq (key_cmp x q)) None) (put q) ∙ back_at q (is_eq (key_cmp x q)) refl

pub none_keyed : (m : BTreeMap ValueKey ℕ) → ((q : ValueKey) → number_in m q ≡ None) → AreKeyed [] m []
none_keyed m h = record {
  listed = none_listed;
  stands = λ key number f. let e = h key in cc;
  found = λ number t at. absurd (none_at number t at);
  apart = λ i j u hi hj. absurd (none_at i u hi);
}
