-- The parts of a text are what a byte parts.
use Rattle.std.proofs.Common.{◌≡◌, ◌≢◌, ℕ, ◌≤◌, List, [], ◌∷◌, ◌++◌, length, nat_eq, inl, inr, refl, sym, ap, ◌∙◌, subst, arith}
use Rattle.std.specs.List.{AllByRecursion, onto_first, join_with_byte, slice_split}
use Rattle.std.proofs.lemmas.Bool.{cases_Bool, eqb-false, ne_eqb, eq-eqb}
use Rattle.std.proofs.lemmas.List.Splits.{join_with_byte-slice_split, length-slice_split, slice_split-cons_yes, slice_split-cons_no}

-- the separator isn't among these bytes
abbrev pub IsOnePart : ℕ → List ℕ → Type 0
IsOnePart separator part = AllByRecursion (λ b. b ≢ separator) part

abbrev pub parts : ℕ → List ℕ → List (List ℕ)
parts separator text = slice_split (λ b. nat_eq b separator) text

-- one part or more, with the separator between two, and none in a part
abbrev pub ArePartsOf : ℕ → List ℕ → List (List ℕ) → Type 0
ArePartsOf separator text ps = (text ≡ join_with_byte separator ps) × (1 ≤ length ps) × AllByRecursion (IsOnePart separator) ps

onto_one : (separator b : ℕ) (ps : List (List ℕ)) → b ≢ separator → AllByRecursion (IsOnePart separator) ps → AllByRecursion (IsOnePart separator) (onto_first b ps)
onto_one separator b [] h a = ((h, tt), tt)
onto_one separator b (part ∷ ps) h a = ((h, a.0), a.1)

parts_are_one : (separator : ℕ) (text : List ℕ) → AllByRecursion (IsOnePart separator) (parts separator text)
parts_are_one separator [] = (tt, tt)
parts_are_one separator (b ∷ text) =
    elim (cases_Bool (nat_eq b separator)) [
      | inl e ↦ subst (λ (l : List (List ℕ)). AllByRecursion (IsOnePart separator) l) (sym (slice_split-cons_yes (λ c. nat_eq c separator) b text e)) (tt, parts_are_one separator text)
      | inr e ↦
          subst (λ (l : List (List ℕ)). AllByRecursion (IsOnePart separator) l) (sym (slice_split-cons_no (λ c. nat_eq c separator) b text e)) (onto_one separator b (parts separator text) (eqb-false b separator e) (parts_are_one separator text))
    ]

last_part : (separator : ℕ) (part : List ℕ) → IsOnePart separator part → parts separator part ≡ part ∷ []
last_part separator [] a = refl
last_part separator (b ∷ part) a =
    slice_split-cons_no (λ c. nat_eq c separator) b part (ne_eqb b separator a.0) ∙ ap (λ (l : List (List ℕ)). onto_first b l) (last_part separator part a.1)

next_part : (separator : ℕ) (part rest : List ℕ) → IsOnePart separator part → parts separator (part ++ separator ∷ rest) ≡ part ∷ parts separator rest
next_part separator [] rest a = slice_split-cons_yes (λ c. nat_eq c separator) separator rest (eq-eqb separator separator refl)
next_part separator (b ∷ part) rest a =
    slice_split-cons_no (λ c. nat_eq c separator) b (part ++ separator ∷ rest) (ne_eqb b separator a.0) ∙ ap (λ (l : List (List ℕ)). onto_first b l) (next_part separator part rest a.1)

parts_joined : (separator : ℕ) (ps : List (List ℕ)) → 1 ≤ length ps → AllByRecursion (IsOnePart separator) ps → parts separator (join_with_byte separator ps) ≡ ps
parts_joined separator [] n a = absurd (omega arith)
parts_joined separator (part ∷ []) n a = last_part separator part a.0
parts_joined separator (part ∷ next ∷ ps) n a =
    next_part separator part (join_with_byte separator (next ∷ ps)) a.0 ∙ ap (λ (l : List (List ℕ)). part ∷ l) (parts_joined separator (next ∷ ps) (omega arith) a.1)

pub parts_told : (separator : ℕ) (text : List ℕ) → ArePartsOf separator text (parts separator text)
parts_told separator text =
    let some : 1 ≤ length (parts separator text) = omega (arith, length-slice_split (λ c. nat_eq c separator) text) in
    (sym (join_with_byte-slice_split separator text), some, parts_are_one separator text)

pub parts_tell : (separator : ℕ) (text : List ℕ) (ps : List (List ℕ)) → ArePartsOf separator text ps → parts separator text ≡ ps
parts_tell separator text ps i = ap (λ (l : List ℕ). parts separator l) i.0 ∙ parts_joined separator ps i.1 i.2
