-- Numbers at the front of a text.
use Rattle.std.proofs.Common.{◌≡◌, ◌≢◌, ◌↔◌, ℕ, ◌+◌, ◌-◌, ◌≤◌, List, [], ◌∷◌, ◌++◌, length, codes, true, false, Option, Some, None, nat_eq, nat_le, refl, sym, ap, ◌∙◌, subst, arith}
use Rattle.std.specs.Prelude.{ℤ, pos, negsuc}
use Rattle.std.specs.Option.{option_map, option_and_then}
use Rattle.std.proofs.lemmas.Bool.{leb-true, le-leb, eqb-false, ne_eqb}
use Rattle.value_reader.specs.Tokens.{is_digit, digits_of, behind_digits, number, number_up_to, unsigned_at, negated, signed_behind, signed_at, after}
use Rattle.value_reader.specs.Syntax.{IsNumber, IsSigned, IsInRange, BeginsWithout}
use Rattle.value_reader.proofs.Fronts.{front_taken, front_dropped, front_passes, front_stops, front_and_rest}
use Rattle.value_reader.proofs.Cases.{some_inj, passed_some, failed_some, mapped_some, chained_some}
use Rattle.value_reader.proofs.Words.{after_told, after_byte, after_other_byte}

pub some_length : (xs : List ℕ) → nat_eq (length xs) 0 ≡ false → 1 ≤ length xs
some_length xs h =
    let other = eqb-false (length xs) 0 h in
    omega (arith, other)

pub length_some : (xs : List ℕ) → 1 ≤ length xs → nat_eq (length xs) 0 ≡ false
length_some xs h = ne_eqb (length xs) 0 (λ e. omega (arith, e, h))

-- a number that is not too large
up_to_told : (base most n : ℕ) (digits : List ℕ) → number_up_to base most digits ≡ Some n → (n ≡ number base digits) × (n ≤ most)
up_to_told base most n digits h =
    let both = passed_some (nat_le (number base digits) most) (Some (number base digits)) n h in
    let same : number base digits ≡ n = some_inj both.1 in
    let small : number base digits ≤ most = leb-true (number base digits) most both.0 in
    (sym same, subst (λ k. k ≤ most) same small)

up_to_tell : (base most n : ℕ) (digits : List ℕ) → n ≡ number base digits → n ≤ most → number_up_to base most digits ≡ Some n
up_to_tell base most n digits same small =
    let low : number base digits ≤ most = subst (λ k. k ≤ most) same small in
    rw (le-leb (number base digits) most low, same) refl

-- an unsigned one
abbrev Unsigned : ℕ → ℕ → List ℕ → List ℕ → Type 0
Unsigned most n text rest = (written : List ℕ) × (text ≡ written ++ rest) × IsNumber 10 written n × (n ≤ most) × BeginsWithout (is_digit 10) rest

unsigned_told : (most n : ℕ) (text rest : List ℕ) → unsigned_at most text ≡ Some (n, rest) → Unsigned most n text rest
unsigned_told most n text rest h =
    let written = digits_of 10 text in
    let some = failed_some (nat_eq (length written) 0) (option_map (λ (k : ℕ). (k, behind_digits 10 text)) (number_up_to 10 most written)) (n, rest) h in
    let found = mapped_some (λ (k : ℕ). (k, behind_digits 10 text)) (number_up_to 10 most written) (n, rest) some.1 in
    let same : found.0 ≡ n = ap (λ (p : ℕ × List ℕ). p.0) found.2 in
    let there : behind_digits 10 text ≡ rest = ap (λ (p : ℕ × List ℕ). p.1) found.2 in
    let small = up_to_told 10 most found.0 written found.1 in (
      written,
      front_and_rest (is_digit 10) text ∙ ap (λ (l : List ℕ). written ++ l) there,
      (some_length written some.0, front_passes (is_digit 10) text, sym same ∙ small.0),
      subst (λ k. k ≤ most) same small.1,
      subst (λ l. BeginsWithout (is_digit 10) l) there (front_stops (is_digit 10) text),
    )

unsigned_tells : (most n : ℕ) (written rest : List ℕ) → IsNumber 10 written n → n ≤ most → BeginsWithout (is_digit 10) rest → unsigned_at most (written ++ rest) ≡ Some (n, rest)
unsigned_tells most n written rest i small s =
    let front : digits_of 10 (written ++ rest) ≡ written = front_taken (is_digit 10) written rest i.1 s in
    let behind : behind_digits 10 (written ++ rest) ≡ rest = front_dropped (is_digit 10) written rest i.1 s in
    let value : number_up_to 10 most written ≡ Some n = up_to_tell 10 most n written i.2 small in
    rw (front, length_some written i.0, value, behind) refl

pub numbers_are_texts : (most n : ℕ) (text rest : List ℕ) → (unsigned_at most text ≡ Some (n, rest)) ↔ Unsigned most n text rest
numbers_are_texts most n text rest = (
  λ h. unsigned_told most n text rest h,
  λ u. ap (λ (l : List ℕ). unsigned_at most l) u.1 ∙ unsigned_tells most n u.0 rest u.2 u.3 u.4,
)

-- a signed one
abbrev Signed : ℕ → ℤ → List ℕ → List ℕ → Type 0
Signed most n text rest = (written : List ℕ) × (text ≡ written ++ rest) × IsSigned written n × IsInRange most n × BeginsWithout (is_digit 10) rest

positive_told : (most : ℕ) (n : ℤ) (text rest : List ℕ) → option_map {U = ℤ × List ℕ} (λ (p : ℕ × List ℕ). (pos p.0, p.1)) (unsigned_at most text) ≡ Some (n, rest) → Signed most n text rest
positive_told most n text rest h =
    let found = mapped_some (λ (p : ℕ × List ℕ). (pos p.0, p.1)) (unsigned_at most text) (n, rest) h in
    let same : pos found.0.0 ≡ n = ap (λ (p : ℤ × List ℕ). p.0) found.2 in
    let there : found.0.1 ≡ rest = ap (λ (p : ℤ × List ℕ). p.1) found.2 in
    let u = unsigned_told most found.0.0 text found.0.1 found.1 in
    let signed : Signed most (pos found.0.0) text found.0.1 = (u.0, u.1, u.2, u.3, u.4) in
    subst (λ (r : List ℕ). Signed most n text r) there (subst (λ (z : ℤ). Signed most z text found.0.1) same signed)

negative_told : (most : ℕ) (n : ℤ) (text digits rest : List ℕ) → text ≡ 45 ∷ digits → option_and_then negated (unsigned_at (most + 1) digits) ≡ Some (n, rest) → Signed most n text rest
negative_told most n text digits rest e h =
    let found = chained_some negated (unsigned_at (most + 1) digits) (n, rest) h in
    let k = found.0.0 in
    let some = failed_some (nat_eq k 0) (Some (negsuc (k - 1), found.0.1)) (n, rest) found.2 in
    let both = some_inj some.1 in
    let same : negsuc (k - 1) ≡ n = ap (λ (p : ℤ × List ℕ). p.0) both in
    let there : found.0.1 ≡ rest = ap (λ (p : ℤ × List ℕ). p.1) both in
    let other = eqb-false k 0 some.0 in
    let back : k - 1 + 1 ≡ k = omega (arith, other) in
    let u = unsigned_told (most + 1) k digits found.0.1 found.1 in
    let low : k - 1 ≤ most = omega (arith, u.3) in
    let digit : IsNumber 10 u.0 (k - 1 + 1) = subst (λ (m : ℕ). IsNumber 10 u.0 m) (sym back) u.2 in
    let signed : Signed most (negsuc (k - 1)) text found.0.1 = (45 ∷ u.0, e ∙ ap (λ (l : List ℕ). 45 ∷ l) u.1, (u.0, refl, digit), low, u.4) in
    subst (λ (r : List ℕ). Signed most n text r) there (subst (λ (z : ℤ). Signed most z text found.0.1) same signed)

signed_cases : (most : ℕ) (n : ℤ) (text rest : List ℕ) (o : Option (List ℕ)) → after (codes "-") text ≡ o → signed_behind most text o ≡ Some (n, rest) → Signed most n text rest
signed_cases most n text rest None e h = positive_told most n text rest h
signed_cases most n text rest (Some digits) e h = negative_told most n text digits rest (after_told (codes "-") text digits e) h

-- no minus is a digit
minus_is_none : (b : ℕ) → is_digit 10 b ≡ true → b ≢ 45
minus_is_none b h e =
    let two : is_digit 10 45 ≡ true = subst (λ (d : ℕ). is_digit 10 d ≡ true) e h in
    cc

no_minus : (n : ℕ) (written rest : List ℕ) → IsNumber 10 written n → after (codes "-") (written ++ rest) ≡ None
no_minus n [] rest i = absurd (omega (arith, i.0))
no_minus n (b ∷ written) rest i = after_other_byte 45 b (written ++ rest) (minus_is_none b i.1.0)

signed_tells : (most : ℕ) (n : ℤ) (written rest : List ℕ) → IsSigned written n → IsInRange most n → BeginsWithout (is_digit 10) rest → signed_at most (written ++ rest) ≡ Some (n, rest)
signed_tells most (pos n) written rest i small s =
    ap (λ (o : Option (List ℕ)). signed_behind most (written ++ rest) o) (no_minus n written rest i)
    ∙ ap (λ (o : Option (ℕ × List ℕ)). option_map {U = ℤ × List ℕ} (λ (p : ℕ × List ℕ). (pos p.0, p.1)) o) (unsigned_tells most n written rest i small s)
signed_tells most (negsuc n) written rest i small s =
    let low : n + 1 ≤ most + 1 = omega (arith, small) in
    let digits = unsigned_tells (most + 1) (n + 1) i.0 rest i.2 low s in
    let some : nat_eq (n + 1) 0 ≡ false = ne_eqb (n + 1) 0 (λ e. omega (arith, e)) in
    let back : n + 1 - 1 ≡ n = omega arith in
    ap (λ (l : List ℕ). signed_at most (l ++ rest)) i.1
    ∙ ap (λ (o : Option (List ℕ)). signed_behind most (45 ∷ (i.0 ++ rest)) o) (after_byte 45 (i.0 ++ rest))
    ∙ ap (option_and_then negated) digits
    ∙ rw (some, back) refl

pub signed_are_texts : (most : ℕ) (n : ℤ) (text rest : List ℕ) → (signed_at most text ≡ Some (n, rest)) ↔ Signed most n text rest
signed_are_texts most n text rest = (
  λ h. signed_cases most n text rest (after (codes "-") text) refl h,
  λ u. ap (λ (l : List ℕ). signed_at most l) u.1 ∙ signed_tells most n u.0 rest u.2 u.3 u.4,
)
