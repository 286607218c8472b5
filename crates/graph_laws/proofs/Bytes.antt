-- What a grammar stands for over bytes that have a property: what is left of them has it too.
use Rattle.std.proofs.Common.{◌<◌, ℕ, zero, suc, Bool, true, false, List, [], ◌∷◌, take, drop, get_or, sym, subst}
use Rattle.std.specs.List.{AllByRecursion}
use Rattle.ca_base.specs.Span.{Span, window}
use Rattle.ca_base.specs.Grammar.{Grammar, Give, Refuse, Here, Left, Next, Byte, Take, Sized, Then, Choose, times, Matches}
use Rattle.ca_base.specs.Items.{NumberReasons, Reasons, u32, placed, sized}
use Rattle.ca_base.specs.declared.placed.Placed.{Placed}
use Rattle.lowering_laws.specs.Values.{AreBytes}

-- a byte, and the bytes of a slice
abbrev pub IsByte : ℕ → Type 0
IsByte b = b < 256

pub are_bytes : (bytes : List ℕ) → ((i : ℕ) → get_or bytes i 0 < 256) → AreBytes bytes
are_bytes [] h = tt
are_bytes (b ∷ bytes) h = (h zero, are_bytes bytes (λ i. h (suc i)))

-- what a grammar stands for
abbrev pub ItemOf : {W A : Type 0} → Grammar W A → Type 0
ItemOf {W} {A} g = A

-- Over bytes that have the first property, what a grammar stands for has the second one.
abbrev pub GivesOn : {W A : Type 0} → (ℕ → Type 0) → (A → Type 0) → Grammar W A → Type 0
GivesOn {W} {A} Q P g = (s : Span W) (x : A) (t : Span W) → AllByRecursion Q s.bytes → Matches g s x t → P x

module _ (Q : ℕ → Type 0) where
  pub take_bytes : (count : ℕ) (bytes : List ℕ) → AllByRecursion Q bytes → AllByRecursion Q (take count bytes)
  take_bytes zero [] h = tt
  take_bytes zero (b ∷ bytes) h = tt
  take_bytes (suc count) [] h = tt
  take_bytes (suc count) (b ∷ bytes) h = (h.0, take_bytes count bytes h.1)

  pub drop_bytes : (count : ℕ) (bytes : List ℕ) → AllByRecursion Q bytes → AllByRecursion Q (drop count bytes)
  drop_bytes zero [] h = h
  drop_bytes zero (b ∷ bytes) h = h
  drop_bytes (suc count) [] h = tt
  drop_bytes (suc count) (b ∷ bytes) h = drop_bytes count bytes h.1

  -- what an item leaves
  pub matches_bytes : {W A : Type 0} (g : Grammar W A) (s : Span W) (x : A) (t : Span W) → AllByRecursion Q s.bytes → Matches g s x t → AllByRecursion Q t.bytes
  matches_bytes (Give y) s x t h m = subst (λ (u : Span _). AllByRecursion Q u.bytes) (sym m.1) h
  matches_bytes (Refuse place why) s x t h m = absurd m
  matches_bytes Here s x t h m = subst (λ (u : Span _). AllByRecursion Q u.bytes) (sym m.1) h
  matches_bytes Left s x t h m = subst (λ (u : Span _). AllByRecursion Q u.bytes) (sym m.1) h
  matches_bytes Next s x t h m = subst (λ (u : Span _). AllByRecursion Q u.bytes) (sym m.1) h
  matches_bytes Byte s x t h m = (subst (AllByRecursion Q) m.0 h).1
  matches_bytes (Take count) s x t h m = subst (λ (u : Span _). AllByRecursion Q u.bytes) (sym m.2) (drop_bytes count s.bytes h)
  matches_bytes (Sized count past f g) s x t h m = subst (λ (u : Span _). AllByRecursion Q u.bytes) (sym m.1) (drop_bytes count s.bytes h)
  matches_bytes (Choose true g k) s x t h m = matches_bytes g s x t h m
  matches_bytes (Choose false g k) s x t h m = matches_bytes k s x t h m
  matches_bytes (Then g f) s x t h m = matches_bytes (f m.0) m.1 x t (matches_bytes g s m.0 m.1 h m.2) m.3

  pub choice_on : {W A : Type 0} (P : A → Type 0) (g k : Grammar W A) → GivesOn Q P g → GivesOn Q P k → (b : Bool) → GivesOn Q P (Choose b g k)
  choice_on P g k h i true s x t bytes m = h s x t bytes m
  choice_on P g k h i false s x t bytes m = i s x t bytes m

  pub placed_on : {W A : Type 0} (P : A → Type 0) (g : Grammar W A) → GivesOn Q P g → GivesOn Q (λ (p : Placed A). P p.item) (placed g)
  unfolding placed
  placed_on P g h s x t bytes m = subst (λ (p : Placed _). P p.item) (sym m.3.3.0) (h m.1 m.3.0 m.3.1 (matches_bytes Here s m.0 m.1 bytes m.2) m.3.2)

  pub times_on : {W A : Type 0} (P : A → Type 0) (g : Grammar W A) → GivesOn Q P g → (count : ℕ) → GivesOn Q (AllByRecursion P) (times count g)
  times_on P g h zero s x t bytes m = subst (AllByRecursion P) (sym m.0) tt
  times_on P g h (suc count) s x t bytes m =
      subst (AllByRecursion P) (sym m.3.3.0) (h s m.0 m.1 bytes m.2, times_on P g h count m.1 m.3.0 m.3.1 (matches_bytes g s m.0 m.1 bytes m.2) m.3.2)

  pub sized_on : {W A : Type 0} (P : A → Type 0) (n : NumberReasons W) (r : Reasons W) (g : Grammar W A) → GivesOn Q P g → GivesOn Q P (sized n r g)
  sized_on P n r g h s x t bytes m = h (window m.0 r.section_size m.1) x m.3.2.0 (take_bytes m.0 m.1.bytes (matches_bytes (u32 n) s m.0 m.1 bytes m.2)) m.3.2.1
