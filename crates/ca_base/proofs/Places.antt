-- Where a reading comes to.
use Rattle.std.proofs.Common.{◌≡◌, ◌≤◌, ◌+◌, ℕ, List, [], ◌∷◌, length, refl, ap, sym, ◌∙◌, arith, Bool, true, false, nat_eq, length-drop}
use Rattle.std.specs.Bool.{MatchBool}
use Rattle.std.proofs.lemmas.Bool.{eqb-true}
use Rattle.std.proofs.lemmas.List.{nil_from_length}
use Rattle.ca_base.specs.Span.{Span, behind}
use Rattle.ca_base.specs.Grammar.{Grammar, Matches, Give, Refuse, Here, Left, Next, Byte, Take, Sized, Choose, Then}
use Rattle.ca_base.specs.Items.{Reasons, at_end}

-- the place of a span's end
abbrev pub end_of : {W : Type 0} → Span W → ℕ
end_of s = s.at + length s.bytes

end-behind : {W : Type 0} (count : ℕ) (s t : Span W) → count ≤ length s.bytes → t ≡ behind count s → end_of t ≡ end_of s
end-behind count s t h e = rw (e, length-drop count s.bytes) (omega arith)

-- An item leaves the end of the span where it was.
pub matches_end : {W A : Type 0} (g : Grammar W A) (s : Span W) (x : A) (t : Span W) → Matches g s x t → end_of t ≡ end_of s
matches_end (Give y) s x t m = ap end_of m.1
matches_end (Refuse place why) s x t m = absurd m
matches_end Here s x t m = ap end_of m.1
matches_end Left s x t m = ap end_of m.1
matches_end Next s x t m = ap end_of m.1
matches_end Byte s x t m = rw (m.0, m.1) (omega arith)
matches_end (Take count) s x t m = end-behind count s t m.0 m.2
matches_end (Sized count past f g) s x t m = end-behind count s t m.0 m.1
matches_end (Choose true g k) s x t m = matches_end g s x t m
matches_end (Choose false g k) s x t m = matches_end k s x t m
matches_end (Then g f) s x t m = matches_end (f m.0) m.1 x t m.3 ∙ matches_end g s m.0 m.1 m.2

-- what an end matches
ended : {W : Type 0} (r : Reasons W) (b : Bool) (count place : ℕ) (s u : Span W) (x : Unit {0}) → nat_eq count 0 ≡ b
    → MatchBool b ((x ≡ tt) × (u ≡ s)) ((c : ℕ) × (v : Span W) × ((s.bytes ≡ c ∷ v.bytes) × (v.at ≡ s.at + 1) × (v.past ≡ s.past)) × ⊥) → (count ≡ 0) × (u ≡ s)
ended r true count place s u x e m = (eqb-true count 0 e, m.1)
ended r false count place s u x e m = absurd m.3

pub at_end_matches : {W : Type 0} (r : Reasons W) (s : Span W) (x : Unit {0}) (t : Span W) → Matches (at_end r) s x t → (s.bytes ≡ []) × (t ≡ s)
unfolding at_end
at_end_matches r s x t m =
    let e = ended r (nat_eq m.0 0) m.0 m.3.0 m.3.1 t x refl m.3.3 in
    (nil_from_length _ (sym m.2.0 ∙ e.0), e.1 ∙ (m.3.2.1 ∙ m.2.1))

rebuilt : {W : Type 0} (t : Span W) (bytes : List ℕ) (at : ℕ) (past : W) → t.bytes ≡ bytes → t.at ≡ at → t.past ≡ past → ◌≡◌ {A = Span W} (record { bytes = t.bytes; at = t.at; past = t.past }) (record { bytes = bytes; at = at; past = past })
rebuilt t bytes at past h i j = cc

-- A reading that leaves no bytes comes to the end.
pub at_its_end : {W : Type 0} (s t : Span W) → end_of t ≡ end_of s → t.past ≡ s.past → t.bytes ≡ [] → ◌≡◌ {A = Span W} t (record { bytes = []; at = s.at + length s.bytes; past = s.past })
at_its_end s t e p b =
    let zero_left : length t.bytes ≡ 0 = ap length b in
    let at : t.at ≡ s.at + length s.bytes = omega arith in
    rebuilt t [] (s.at + length s.bytes) s.past b at p

-- An item leaves no more bytes than there were.
pub matches_shorter : {W A : Type 0} (g : Grammar W A) (s : Span W) (x : A) (t : Span W) → Matches g s x t → length t.bytes ≤ length s.bytes
matches_shorter (Give y) s x t m = rw (m.1) (omega arith)
matches_shorter (Refuse place why) s x t m = absurd m
matches_shorter Here s x t m = rw (m.1) (omega arith)
matches_shorter Left s x t m = rw (m.1) (omega arith)
matches_shorter Next s x t m = rw (m.1) (omega arith)
matches_shorter Byte s x t m = rw (m.0) (omega arith)
matches_shorter (Take count) s x t m = rw (m.2, length-drop count s.bytes) (omega arith)
matches_shorter (Sized count past f g) s x t m = rw (m.1, length-drop count s.bytes) (omega arith)
matches_shorter (Choose true g k) s x t m = matches_shorter g s x t m
matches_shorter (Choose false g k) s x t m = matches_shorter k s x t m
matches_shorter (Then g f) s x t m = let a = matches_shorter (f m.0) m.1 x t m.3 in let b = matches_shorter g s m.0 m.1 m.2 in omega (arith, a, b)
