-- Every grammar reads what matches, and refuses what doesn't; so each span has one item or one refusal.
use Rattle.std.proofs.Common.{◌≡◌, ◌≢◌, ℕ, List, [], ◌∷◌, length, refl, sym, ◌∙◌, ap, Result, Ok, Err, ◌+◌, ◌⊎◌, inl, inr, Bool, true, false, cond, eqb, ltb, take}
use Rattle.std.proofs.lemmas.Bool.{ltb-true, ltb-false, lt-ltb, le-ltb, eqb-true, eq-eqb}
use Rattle.std.proofs.lemmas.Bool.Decides.{eqb_tells}
use Rattle.std.proofs.lemmas.List.{nil_from_length}
use Rattle.ca_base.specs.Span.{Span, behind, window}
use Rattle.ca_base.specs.declared.refusal.Refusal.{Refusal}
use Rattle.ca_base.specs.Grammar.{Grammar, read, Matches, Refuses, IsDecided, Give, Refuse, Here, Left, Next, Byte, Take, Sized, Then, Choose, and_then, first_byte, passing, in_words, filling}

ok_inj : {A E : Type 0} {x y : A} → ◌≡◌ {A = Result A E} (Ok x) (Ok y) → x ≡ y
ok_inj h = cc

err_inj : {A E : Type 0} {x y : E} → ◌≡◌ {A = Result A E} (Err x) (Err y) → x ≡ y
err_inj h = cc

-- the parts of a reading in two steps
and_then_ok : {W A B : Type 0} (r : Result (A × Span W) (Refusal W)) (f : A → Span W → Result (B × Span W) (Refusal W)) (y : B × Span W) → and_then r f ≡ Ok y → (x : A × Span W) × (r ≡ Ok x) × (f x.0 x.1 ≡ Ok y)
and_then_ok (Ok x) f y h = (x, refl, h)
and_then_ok (Err e) f y h = cc

and_then_err : {W A B : Type 0} (r : Result (A × Span W) (Refusal W)) (f : A → Span W → Result (B × Span W) (Refusal W)) (e : Refusal W) → and_then r f ≡ Err e → (r ≡ Err e) ⊎ ((x : A × Span W) × (r ≡ Ok x) × (f x.0 x.1 ≡ Err e))
and_then_err (Ok x) f e h = inr (x, refl, h)
and_then_err (Err d) f e h = inl (ap (λ (d : Refusal _). Err d) (err_inj h))

-- which way a test went
tested : {A : Type 0} (b : Bool) (x y z : A) → cond b x y ≡ z → ((b ≡ true) × (x ≡ z)) ⊎ ((b ≡ false) × (y ≡ z))
tested true x y z h = inl (refl, h)
tested false x y z h = inr (refl, h)

-- the first byte
first_ok : {W : Type 0} (s : Span W) (bytes : List ℕ) (b : ℕ) (t : Span W) → first_byte s bytes ≡ Ok (b, t) → (bytes ≡ b ∷ t.bytes) × (t.at ≡ s.at + 1) × (t.past ≡ s.past)
first_ok s [] b t h = cc
first_ok s (c ∷ rest) b t h =
    let e = ok_inj h in
    let at_head : c ≡ b = ap (λ p. p.0) e in
    let at_rest : rest ≡ t.bytes = ap (λ p. p.1.bytes) e in
    (cc, sym (ap (λ p. p.1.at) e), sym (ap (λ p. p.1.past) e))

first_err : {W : Type 0} (s : Span W) (bytes : List ℕ) (e : Refusal W) → first_byte s bytes ≡ Err e → (bytes ≡ []) × (e ≡ passing s)
first_err s [] e h = (refl, sym (err_inj h))
first_err s (c ∷ rest) e h = cc

same_span : {W : Type 0} (bytes : List ℕ) (at : ℕ) (past : W) (t : Span W) → t.bytes ≡ bytes → t.at ≡ at → t.past ≡ past → ◌≡◌ {A = Span W} (record { bytes = bytes; at = at; past = past }) (record { bytes = t.bytes; at = t.at; past = t.past })
same_span bytes at past t h i j = cc

first_matched : {W : Type 0} (s : Span W) (bytes : List ℕ) (b : ℕ) (t : Span W) → bytes ≡ b ∷ t.bytes → t.at ≡ s.at + 1 → t.past ≡ s.past → first_byte s bytes ≡ Ok (b, t)
first_matched s [] b t h i j = cc
first_matched s (c ∷ rest) b t h i j =
    let at_head : c ≡ b = cc in
    let at_rest : t.bytes ≡ rest = cc in
    let all : ◌≡◌ {A = Span _} (record { bytes = rest; at = s.at + 1; past = s.past }) t = same_span rest (s.at + 1) s.past t at_rest i j in
    cc

first_refused : {W : Type 0} (s : Span W) (bytes : List ℕ) (e : Refusal W) → bytes ≡ [] → e ≡ passing s → first_byte s bytes ≡ Err e
first_refused s [] e h i = cc
first_refused s (c ∷ rest) e h i = cc

same_item : {E A B : Type 0} (x y : A) (u : B) → x ≡ y → ◌≡◌ {A = Result (A × B) E} (Ok (x, u)) (Ok (y, u))
same_item x y u h = cc

-- what is left of a reading that has to fill its window
filling_ok : {V W A : Type 0} (f : V → W) (r : Result (A × Span V) (Refusal V)) (t : Span W) (y : A × Span W) → filling f r t ≡ Ok y → (u : Span V) × (r ≡ Ok (y.0, u)) × (u.bytes ≡ []) × (y.1 ≡ t)
filling_ok f (Ok x) t y h =
    elim (tested (eqb (length x.1.bytes) 0) (Ok (x.0, t)) (Err (record { place = x.1.at; why = f x.1.past })) (Ok y) h) [
      | inl a ↦
          let e = ok_inj a.1 in
          (x.1, same_item x.0 y.0 x.1 (ap (λ p. p.0) e), nil_from_length _ (eqb-true _ _ a.0), sym (ap (λ p. p.1) e))
      | inr a ↦ cc
    ]
filling_ok f (Err e) t y h = cc

-- a list with a length other than 0
some_left : (bytes : List ℕ) → eqb (length bytes) 0 ≡ false → bytes ≢ []
some_left bytes h e = let z = eq-eqb (length bytes) 0 (ap length e) in cc

none_is : (bytes : List ℕ) → bytes ≢ [] → eqb (length bytes) 0 ≡ false
none_is bytes h =
    elim (eqb_tells (length bytes) 0) [ inl a ↦ absurd (h (nil_from_length _ a.1)) | inr a ↦ a.0 ]

filling_err : {V W A : Type 0} (f : V → W) (r : Result (A × Span V) (Refusal V)) (t : Span W) (e : Refusal W) → filling f r t ≡ Err e → ((d : Refusal V) × (r ≡ Err d) × (e ≡ in_words f d)) ⊎ ((x : A × Span V) × (r ≡ Ok x) × (x.1.bytes ≢ []) × (e ≡ record { place = x.1.at; why = f x.1.past }))
filling_err f (Ok x) t e h =
    elim (tested (eqb (length x.1.bytes) 0) (Ok (x.0, t)) (Err (record { place = x.1.at; why = f x.1.past })) (Err e) h) [
      | inl a ↦ cc
      | inr a ↦ inr (x, refl, some_left _ a.0, sym (err_inj a.1))
    ]
filling_err f (Err d) t e h = inl (d, refl, sym (err_inj h))

-- An item keeps the reason of its window.
pub matches_past : {W A : Type 0} (g : Grammar W A) (s : Span W) (x : A) (t : Span W) → Matches g s x t → t.past ≡ s.past
matches_past (Give y) s x t m = ap (λ (u : Span _). u.past) m.1
matches_past (Refuse place why) s x t m = absurd m
matches_past Here s x t m = ap (λ (u : Span _). u.past) m.1
matches_past Left s x t m = ap (λ (u : Span _). u.past) m.1
matches_past Next s x t m = ap (λ (u : Span _). u.past) m.1
matches_past Byte s x t m = m.2
matches_past (Take n) s x t m = ap (λ (u : Span _). u.past) m.2
matches_past (Sized n past f g) s x t m = ap (λ (u : Span _). u.past) m.1
matches_past (Choose true g k) s x t m = matches_past g s x t m
matches_past (Choose false g k) s x t m = matches_past k s x t m
matches_past (Then g f) s x t m = matches_past (f m.0) m.1 x t m.3 ∙ matches_past g s m.0 m.1 m.2

-- What is read matches.
pub reads_matches : {W A : Type 0} (g : Grammar W A) (s : Span W) (x : A) (t : Span W) → read g s ≡ Ok (x, t) → Matches g s x t
reads_matches (Give y) s x t h = let e = ok_inj h in (sym (ap (λ p. p.0) e), sym (ap (λ p. p.1) e))
reads_matches (Refuse p why) s x t h = cc
reads_matches Here s x t h = let e = ok_inj h in (sym (ap (λ p. p.0) e), sym (ap (λ p. p.1) e))
reads_matches Left s x t h = let e = ok_inj h in (sym (ap (λ p. p.0) e), sym (ap (λ p. p.1) e))
reads_matches Next s x t h = let e = ok_inj h in (sym (ap (λ p. p.0) e), sym (ap (λ p. p.1) e))
reads_matches Byte s x t h = first_ok s s.bytes x t h
reads_matches (Take n) s x t h =
    elim (tested (ltb (length s.bytes) n) (Err (passing s)) (Ok (take n s.bytes, behind n s)) (Ok (x, t)) h) [
      | inl a ↦ cc
      | inr a ↦ let e = ok_inj a.1 in (ltb-false _ _ a.0, sym (ap (λ p. p.0) e), sym (ap (λ p. p.1) e))
    ]
reads_matches (Sized n past f g) s x t h =
    elim (tested (ltb (length s.bytes) n) (Err (passing s)) (filling f (read g (window n past s)) (behind n s)) (Ok (x, t)) h) [
      | inl a ↦ cc
      | inr a ↦
          let e = filling_ok f (read g (window n past s)) (behind n s) (x, t) a.1 in
          (ltb-false _ _ a.0, e.3, (e.0, reads_matches g (window n past s) x e.0 e.1, e.2))
    ]
reads_matches (Choose true g k) s x t h = reads_matches g s x t h
reads_matches (Choose false g k) s x t h = reads_matches k s x t h
reads_matches (Then g f) s x t h =
    let a = and_then_ok (read g s) (λ y u. read (f y) u) (x, t) h in
    (a.0.0, a.0.1, reads_matches g s a.0.0 a.0.1 a.1, reads_matches (f a.0.0) a.0.1 x t a.2)

-- What matches is read.
pub matches_reads : {W A : Type 0} (g : Grammar W A) (s : Span W) (x : A) (t : Span W) → Matches g s x t → read g s ≡ Ok (x, t)
matches_reads (Give y) s x t m = cc
matches_reads (Refuse p why) s x t m = absurd m
matches_reads Here s x t m = cc
matches_reads Left s x t m = cc
matches_reads Next s x t m = cc
matches_reads Byte s x t m = first_matched s s.bytes x t m.0 m.1 m.2
matches_reads (Take n) s x t m = rw (le-ltb _ _ m.0) (cc)
matches_reads (Sized n past f g) s x t m =
    rw (le-ltb _ _ m.0, matches_reads g (window n past s) x m.2.0 m.2.1, m.2.2) (cc)
matches_reads (Choose true g k) s x t m = matches_reads g s x t m
matches_reads (Choose false g k) s x t m = matches_reads k s x t m
matches_reads (Then g f) s x t m = rw (matches_reads g s m.0 m.1 m.2) (matches_reads (f m.0) m.1 x t m.3)

-- What reading refuses is refused.
pub reads_refuses : {W A : Type 0} (g : Grammar W A) (s : Span W) (e : Refusal W) → read g s ≡ Err e → Refuses g s e
reads_refuses (Give y) s e h = cc
reads_refuses (Refuse p why) s e h = sym (err_inj h)
reads_refuses Here s e h = cc
reads_refuses Left s e h = cc
reads_refuses Next s e h = cc
reads_refuses Byte s e h = first_err s s.bytes e h
reads_refuses (Take n) s e h =
    elim (tested (ltb (length s.bytes) n) (Err (passing s)) (Ok (take n s.bytes, behind n s)) (Err e) h) [ inl a ↦ (ltb-true _ _ a.0, sym (err_inj a.1)) | inr a ↦ cc ]
reads_refuses (Sized n past f g) s e h =
    elim (tested (ltb (length s.bytes) n) (Err (passing s)) (filling f (read g (window n past s)) (behind n s)) (Err e) h) [
      | inl a ↦ inl (ltb-true _ _ a.0, sym (err_inj a.1))
      | inr a ↦
          elim (filling_err f (read g (window n past s)) (behind n s) e a.1) [
            | inl b ↦ inr (inl (ltb-false _ _ a.0, (b.0, reads_refuses g (window n past s) b.0 b.1, b.2)))
            | inr b ↦
                let m = reads_matches g (window n past s) b.0.0 b.0.1 b.1 in
                let keeps = matches_past g (window n past s) b.0.0 b.0.1 m in
                inr (inr (ltb-false _ _ a.0, (b.0.0, b.0.1, m, b.2, cc)))
          ]
    ]
reads_refuses (Choose true g k) s e h = reads_refuses g s e h
reads_refuses (Choose false g k) s e h = reads_refuses k s e h
reads_refuses (Then g f) s e h =
    elim (and_then_err (read g s) (λ y u. read (f y) u) e h) [
      | inl a ↦ inl (reads_refuses g s e a)
      | inr a ↦ inr (a.0.0, a.0.1, reads_matches g s a.0.0 a.0.1 a.1, reads_refuses (f a.0.0) a.0.1 e a.2)
    ]

-- What is refused, reading refuses.
pub refuses_reads : {W A : Type 0} (g : Grammar W A) (s : Span W) (e : Refusal W) → Refuses g s e → read g s ≡ Err e
refuses_reads (Give y) s e m = absurd m
refuses_reads (Refuse p why) s e m = cc
refuses_reads Here s e m = absurd m
refuses_reads Left s e m = absurd m
refuses_reads Next s e m = absurd m
refuses_reads Byte s e m = first_refused s s.bytes e m.0 m.1
refuses_reads (Take n) s e m = rw (lt-ltb _ _ m.0) (cc)
refuses_reads (Sized n past f g) s e m =
    elim m [
      | inl a ↦ rw (lt-ltb _ _ a.0) (cc)
      | inr k ↦
          elim k [
            | inl a ↦ rw (le-ltb _ _ a.0, refuses_reads g (window n past s) a.1.0 a.1.1) (cc)
            | inr a ↦
                let keeps = matches_past g (window n past s) a.1.0 a.1.1 a.1.2 in
                rw (le-ltb _ _ a.0, matches_reads g (window n past s) a.1.0 a.1.1 a.1.2, none_is a.1.1.bytes a.1.3) (cc)
          ]
    ]
refuses_reads (Choose true g k) s e m = refuses_reads g s e m
refuses_reads (Choose false g k) s e m = refuses_reads k s e m
refuses_reads (Then g f) s e m =
    elim m [
      | inl a ↦ rw (refuses_reads g s e a) refl
      | inr a ↦ rw (matches_reads g s a.0 a.1 a.2) (refuses_reads (f a.0) a.1 e a.3)
    ]

decided_by : {W A : Type 0} (g : Grammar W A) (s : Span W) (r : Result (A × Span W) (Refusal W)) → read g s ≡ r → IsDecided g s
decided_by g s (Ok p) h =
    inl (
      p.0,
      p.1,
      reads_matches g s p.0 p.1 h,
      (λ y u m. let e = ok_inj (sym (matches_reads g s y u m) ∙ h) in (ap (λ p. p.0) e, ap (λ p. p.1) e)),
      λ e m. let k = refuses_reads g s e m in cc,
    )
decided_by g s (Err e) h =
    inr (
      e,
      reads_refuses g s e h,
      (λ d m. err_inj (sym (refuses_reads g s d m) ∙ h)),
      λ y u m. let k = matches_reads g s y u m in cc,
    )

-- From each span a grammar stands for exactly one item, or is refused in exactly one way.
pub decided : {W A : Type 0} (g : Grammar W A) (s : Span W) → IsDecided g s
decided g s = decided_by g s (read g s) refl
