-- What is written for a number or for characters is read back.
use Rattle.std.proofs.Common.{◌≡◌, inl, inr, ℕ, suc, ◌+◌, ◌*◌, ◌/◌, ◌%◌, ◌^◌, ◌≤◌, ◌<◌, List, [], ◌∷◌, ◌++◌, length, map, Bool, true, false, cond, IsTrue, Some, nat_eq, nat_lt, ◌||◌, refl, sym, ap, subst, lt-ltb, arith, add-one, lit≤}
use Rattle.std.specs.Prelude.{ℤ, pos, negsuc}
use Rattle.std.specs.List.{flat_map, AllByRecursion}
use Rattle.std.specs.Fmt.{decimal, signed_decimal}
use Rattle.std.specs.Char.{encode_utf8, IsScalar}
use Rattle.std.specs.Char.Escape.{escape_unicode, hex_digit_at}
use Rattle.std.specs.Str.{IsUtf8, chars, encode_utf8_all, all_scalars}
use Rattle.std.specs.Str.Parse.{AllDigits}
use Rattle.std.proofs.lemmas.Bool.{and_parts, and_from, eqb-true, eqb-false, ltb-true, cases_Bool}
use Rattle.std.proofs.lemmas.Bool.Decides.{nat_tests}
use Rattle.std.proofs.lemmas.Fmt.{decimal_is_IsNumeral}
use Rattle.std.proofs.lemmas.Str.{digit_value-digit_char, encode_ascii, scalars-chars, encodes-chars, chars-encodes, is_utf8-from_IsUtf8}
use Rattle.syntax_trees.specs.CharText.{is_printable, is_marked, char_text, quoted_chars, quoted}
use Rattle.value_reader.specs.Tokens.{is_digit, digit_value, unsigned_at, signed_at}
use Rattle.value_reader.specs.Quoted.{escaped, is_scalar, literal_at, string_at, char_at}
use Rattle.value_reader.specs.Syntax.{IsNumber, IsInRange, IsPiece, IsLiteral, BeginsWithout}
use Rattle.value_reader.proofs.NumberTexts.{numbers_are_texts, signed_are_texts}
use Rattle.value_reader.proofs.Literals.{literals_are_texts}

-- Numbers.
digits_pass : (base : ℕ) (ds : List ℕ) → AllDigits base ds → AllByRecursion (λ b. IsTrue (is_digit base b)) ds
digits_pass base [] a = tt
digits_pass base (d ∷ ds) a = (lt-ltb (digit_value d) base a.0, digits_pass base ds a.1)

pub decimal_is_number : (n : ℕ) → n < 2 ^ 64 → IsNumber 10 (decimal n) n
decimal_is_number n low =
    let numeral = decimal_is_IsNumeral n low in
    let some : 1 ≤ length (decimal n) = omega (arith, numeral.0.0) in
    (some, digits_pass 10 (decimal n) numeral.0.1, sym numeral.1)

pub written_number : (most n : ℕ) (rest : List ℕ) → n < 2 ^ 64 → n ≤ most → BeginsWithout (is_digit 10) rest → unsigned_at most (decimal n ++ rest) ≡ Some (n, rest)
written_number most n rest low small s = (numbers_are_texts most n (decimal n ++ rest) rest).1 (decimal n, refl, decimal_is_number n low, small, s)

pub written_signed : (most : ℕ) (n : ℤ) (rest : List ℕ) → most < 2 ^ 63 → IsInRange most n → BeginsWithout (is_digit 10) rest → signed_at most (signed_decimal n ++ rest) ≡ Some (n, rest)
written_signed most (pos n) rest low small s =
    let fits : n < 2 ^ 64 = omega (arith, low, small) in
    (signed_are_texts most (pos n) (decimal n ++ rest) rest).1 (decimal n, refl, decimal_is_number n fits, small, s)
written_signed most (negsuc n) rest low small s =
    let fits : n + 1 < 2 ^ 64 = omega (arith, low, small) in
    let digits : IsNumber 10 (decimal (suc n)) (n + 1) = subst (λ (k : ℕ). IsNumber 10 (decimal k) (n + 1)) (add-one n) (decimal_is_number (n + 1) fits) in
    (signed_are_texts most (negsuc n) (45 ∷ (decimal (suc n) ++ rest)) rest).1 (45 ∷ decimal (suc n), refl, (decimal (suc n), refl, digits), small, s)

-- Hexadecimal digits.
hex_value : (p c : ℕ) → digit_value (hex_digit_at p c) ≡ c / p % 16
hex_value p c =
    let low : c / p % 16 < 36 = omega arith in
    digit_value-digit_char (c / p % 16) low

hex_is_digit : (p c : ℕ) → is_digit 16 (hex_digit_at p c) ≡ true
hex_is_digit p c =
    let low : c / p % 16 < 16 = omega arith in
    let here : digit_value (hex_digit_at p c) < 16 = subst (λ (k : ℕ). k < 16) (sym (hex_value p c)) low in
    lt-ltb (digit_value (hex_digit_at p c)) 16 here

one_digit : (c v0 : ℕ) → c < 0x10 → v0 ≡ c / 1 % 16 → 0 * 16 + v0 ≡ c
one_digit c v0 low e = omega arith

two_digits : (c v1 v0 : ℕ) → c < 0x100 → v1 ≡ c / 0x10 % 16 → v0 ≡ c / 1 % 16 → (0 * 16 + v1) * 16 + v0 ≡ c
two_digits c v1 v0 low e d = omega arith

step0 : (c : ℕ) → c ≡ c / 0x10 * 16 + c / 1 % 16
step0 c = omega arith

step1 : (c : ℕ) → c / 0x10 ≡ c / 0x100 * 16 + c / 0x10 % 16
step1 c = omega arith

step2 : (c : ℕ) → c / 0x100 ≡ c / 0x1000 * 16 + c / 0x100 % 16
step2 c = omega arith

step3 : (c : ℕ) → c / 0x1000 ≡ c / 0x1_0000 * 16 + c / 0x1000 % 16
step3 c = omega arith

step4 : (c : ℕ) → c / 0x1_0000 ≡ c / 0x10_0000 * 16 + c / 0x1_0000 % 16
step4 c = omega arith

three_digits : (c v2 v1 v0 : ℕ) → c < 0x1000 → v2 ≡ c / 0x100 % 16 → v1 ≡ c / 0x10 % 16 → v0 ≡ c / 1 % 16 → ((0 * 16 + v2) * 16 + v1) * 16 + v0 ≡ c
three_digits c v2 v1 v0 low g e d = omega (arith, step0 c, step1 c)

four_digits : (c v3 v2 v1 v0 : ℕ) → c < 0x1_0000 → v3 ≡ c / 0x1000 % 16 → v2 ≡ c / 0x100 % 16 → v1 ≡ c / 0x10 % 16 → v0 ≡ c / 1 % 16
    → (((0 * 16 + v3) * 16 + v2) * 16 + v1) * 16 + v0 ≡ c
four_digits c v3 v2 v1 v0 low h g e d = omega (arith, step0 c, step1 c, step2 c)

five_digits : (c v4 v3 v2 v1 v0 : ℕ) → c < 0x10_0000 → v4 ≡ c / 0x1_0000 % 16 → v3 ≡ c / 0x1000 % 16 → v2 ≡ c / 0x100 % 16 → v1 ≡ c / 0x10 % 16 → v0 ≡ c / 1 % 16
    → ((((0 * 16 + v4) * 16 + v3) * 16 + v2) * 16 + v1) * 16 + v0 ≡ c
five_digits c v4 v3 v2 v1 v0 low i h g e d = omega (arith, step0 c, step1 c, step2 c, step3 c)

six_digits : (c v5 v4 v3 v2 v1 v0 : ℕ) → c < 0x100_0000 → v5 ≡ c / 0x10_0000 % 16 → v4 ≡ c / 0x1_0000 % 16 → v3 ≡ c / 0x1000 % 16 → v2 ≡ c / 0x100 % 16 → v1 ≡ c / 0x10 % 16 → v0 ≡ c / 1 % 16
    → (((((0 * 16 + v5) * 16 + v4) * 16 + v3) * 16 + v2) * 16 + v1) * 16 + v0 ≡ c
six_digits c v5 v4 v3 v2 v1 v0 low j i h g e d = omega (arith, step0 c, step1 c, step2 c, step3 c, step4 c)

-- The code of a character.
abbrev Code : ℕ → List ℕ → Type 0
Code c text = (digits : List ℕ) × (text ≡ 92 ∷ 117 ∷ 123 ∷ (digits ++ 125 ∷ [])) × IsNumber 16 digits c × (length digits ≤ 6)

pick : (P : List ℕ → Type 0) (b : Bool) (x y : List ℕ) → (b ≡ true → P x) → (b ≡ false → P y) → P (cond b x y)
pick P true x y f g = f refl
pick P false x y f g = g refl

code1 : (c : ℕ) → c < 0x10 → Code c (92 ∷ 117 ∷ 123 ∷ hex_digit_at 1 c ∷ 125 ∷ [])
code1 c low = (
  hex_digit_at 1 c ∷ [],
  refl,
  (lit≤ tt, (hex_is_digit 1 c, tt), sym (one_digit c (digit_value (hex_digit_at 1 c)) low (hex_value 1 c))),
  lit≤ tt,
)

code2 : (c : ℕ) → c < 0x100 → Code c (92 ∷ 117 ∷ 123 ∷ hex_digit_at 0x10 c ∷ hex_digit_at 1 c ∷ 125 ∷ [])
code2 c low = (
  hex_digit_at 0x10 c ∷ hex_digit_at 1 c ∷ [],
  refl,
  (lit≤ tt, (hex_is_digit 0x10 c, (hex_is_digit 1 c, tt)), sym (two_digits c (digit_value (hex_digit_at 0x10 c)) (digit_value (hex_digit_at 1 c)) low (hex_value 0x10 c) (hex_value 1 c))),
  lit≤ tt,
)

code3 : (c : ℕ) → c < 0x1000 → Code c (92 ∷ 117 ∷ 123 ∷ hex_digit_at 0x100 c ∷ hex_digit_at 0x10 c ∷ hex_digit_at 1 c ∷ 125 ∷ [])
code3 c low = (
  hex_digit_at 0x100 c ∷ hex_digit_at 0x10 c ∷ hex_digit_at 1 c ∷ [],
  refl,
  (lit≤ tt, (hex_is_digit 0x100 c, (hex_is_digit 0x10 c, (hex_is_digit 1 c, tt))), sym (three_digits c (digit_value (hex_digit_at 0x100 c)) (digit_value (hex_digit_at 0x10 c)) (digit_value (hex_digit_at 1 c)) low (hex_value 0x100 c) (hex_value 0x10 c) (hex_value 1 c))),
  lit≤ tt,
)

code4 : (c : ℕ) → c < 0x1_0000 → Code c (92 ∷ 117 ∷ 123 ∷ hex_digit_at 0x1000 c ∷ hex_digit_at 0x100 c ∷ hex_digit_at 0x10 c ∷ hex_digit_at 1 c ∷ 125 ∷ [])
code4 c low = (
  hex_digit_at 0x1000 c ∷ hex_digit_at 0x100 c ∷ hex_digit_at 0x10 c ∷ hex_digit_at 1 c ∷ [],
  refl,
  (lit≤ tt, (hex_is_digit 0x1000 c, (hex_is_digit 0x100 c, (hex_is_digit 0x10 c, (hex_is_digit 1 c, tt)))), sym (four_digits c (digit_value (hex_digit_at 0x1000 c)) (digit_value (hex_digit_at 0x100 c)) (digit_value (hex_digit_at 0x10 c)) (digit_value (hex_digit_at 1 c)) low (hex_value 0x1000 c) (hex_value 0x100 c) (hex_value 0x10 c) (hex_value 1 c))),
  lit≤ tt,
)

code5 : (c : ℕ) → c < 0x10_0000 → Code c (92 ∷ 117 ∷ 123 ∷ hex_digit_at 0x1_0000 c ∷ hex_digit_at 0x1000 c ∷ hex_digit_at 0x100 c ∷ hex_digit_at 0x10 c ∷ hex_digit_at 1 c ∷ 125 ∷ [])
code5 c low = (
  hex_digit_at 0x1_0000 c ∷ hex_digit_at 0x1000 c ∷ hex_digit_at 0x100 c ∷ hex_digit_at 0x10 c ∷ hex_digit_at 1 c ∷ [],
  refl,
  (lit≤ tt, (hex_is_digit 0x1_0000 c, (hex_is_digit 0x1000 c, (hex_is_digit 0x100 c, (hex_is_digit 0x10 c, (hex_is_digit 1 c, tt))))), sym (five_digits c (digit_value (hex_digit_at 0x1_0000 c)) (digit_value (hex_digit_at 0x1000 c)) (digit_value (hex_digit_at 0x100 c)) (digit_value (hex_digit_at 0x10 c)) (digit_value (hex_digit_at 1 c)) low (hex_value 0x1_0000 c) (hex_value 0x1000 c) (hex_value 0x100 c) (hex_value 0x10 c) (hex_value 1 c))),
  lit≤ tt,
)

code6 : (c : ℕ) → c < 0x100_0000 → Code c (92 ∷ 117 ∷ 123 ∷ hex_digit_at 0x10_0000 c ∷ hex_digit_at 0x1_0000 c ∷ hex_digit_at 0x1000 c ∷ hex_digit_at 0x100 c ∷ hex_digit_at 0x10 c ∷ hex_digit_at 1 c ∷ 125 ∷ [])
code6 c low = (
  hex_digit_at 0x10_0000 c ∷ hex_digit_at 0x1_0000 c ∷ hex_digit_at 0x1000 c ∷ hex_digit_at 0x100 c ∷ hex_digit_at 0x10 c ∷ hex_digit_at 1 c ∷ [],
  refl,
  (lit≤ tt, (hex_is_digit 0x10_0000 c, (hex_is_digit 0x1_0000 c, (hex_is_digit 0x1000 c, (hex_is_digit 0x100 c, (hex_is_digit 0x10 c, (hex_is_digit 1 c, tt)))))), sym (six_digits c (digit_value (hex_digit_at 0x10_0000 c)) (digit_value (hex_digit_at 0x1_0000 c)) (digit_value (hex_digit_at 0x1000 c)) (digit_value (hex_digit_at 0x100 c)) (digit_value (hex_digit_at 0x10 c)) (digit_value (hex_digit_at 1 c)) low (hex_value 0x10_0000 c) (hex_value 0x1_0000 c) (hex_value 0x1000 c) (hex_value 0x100 c) (hex_value 0x10 c) (hex_value 1 c))),
  lit≤ tt,
)

code_of : (c : ℕ) → c < 0x11_0000 → Code c (escape_unicode c)
code_of c low =
    pick (Code c) (nat_lt c 0x10) _ _ (λ h. code1 c (ltb-true c 0x10 h)) (λ h1.
    pick (Code c) (nat_lt c 0x100) _ _ (λ h. code2 c (ltb-true c 0x100 h)) (λ h2.
    pick (Code c) (nat_lt c 0x1000) _ _ (λ h. code3 c (ltb-true c 0x1000 h)) (λ h3.
    pick (Code c) (nat_lt c 0x1_0000) _ _ (λ h. code4 c (ltb-true c 0x1_0000 h)) (λ h4.
    pick (Code c) (nat_lt c 0x10_0000) _ _ (λ h. code5 c (ltb-true c 0x10_0000 h)) (λ h5.
    code6 c (omega (arith, low)))))))

-- A character as it is written.
scalar_is : (c : ℕ) → IsScalar c → is_scalar c ≡ true
scalar_is c h = grind (arith, nat_tests)

scalar_low : (c : ℕ) → IsScalar c → c < 0x11_0000
scalar_low c h = grind (arith, nat_tests)

printable_low : (c : ℕ) → is_printable c ≡ true → c < 128
printable_low c h = grind (arith, nat_tests)

or_second : (a b : Bool) → (a || b) ≡ true → a ≡ false → b ≡ true
or_second true b h e = cc
or_second false b h e = h

or_false : (a b : Bool) → (a || b) ≡ false → (a ≡ false) × (b ≡ false)
or_false true b h = cc
or_false false b h = (refl, h)

marked_escape : (q c : ℕ) → escaped q ≡ Some q → is_marked q c ≡ true → escaped c ≡ Some c
marked_escape q c e h =
    elim (cases_Bool (nat_eq c q)) [
      | inl w ↦ subst (λ (k : ℕ). escaped k ≡ Some k) (sym (eqb-true c q w)) e
      | inr w ↦ subst (λ (k : ℕ). escaped k ≡ Some k) (sym (eqb-true c 92 (or_second (nat_eq c q) (nat_eq c 92) h w))) refl
    ]

char_piece : (q c : ℕ) → escaped q ≡ Some q → IsScalar c → IsPiece q (char_text q c, encode_utf8 c)
char_piece q c e scalar =
    pick (λ (t : List ℕ). IsPiece q (t, encode_utf8 c)) (is_printable c) _ _
    (λ printable.
    pick (λ (t : List ℕ). IsPiece q (t, encode_utf8 c)) (is_marked q c) _ _
    (λ marked. inr (c, c ∷ [], refl, inl (c, refl, marked_escape q c e marked), refl))
    (λ unmarked.
    let both = or_false (nat_eq c q) (nat_eq c 92) unmarked in
    inl (c, refl, encode_ascii c (printable_low c printable), eqb-false c q both.0, eqb-false c 92 both.1)))
    (λ other.
    let code = code_of c (scalar_low c scalar) in
    inr (c, 117 ∷ 123 ∷ (code.0 ++ 125 ∷ []), code.1, inr (code.0, refl, code.2, code.3, scalar_is c scalar), refl))

-- Characters between quotes.
abbrev Piece : Type 0
Piece = List ℕ × List ℕ

abbrev piece : ℕ → ℕ → Piece
piece q c = (char_text q c, encode_utf8 c)

all_pieces : (q : ℕ) (cs : List ℕ) → escaped q ≡ Some q → all_scalars cs ≡ true → AllByRecursion (IsPiece q) (map (piece q) cs)
all_pieces q [] e h = tt
all_pieces q (c ∷ cs) e h =
    let both = and_parts _ (all_scalars cs) h in
    (char_piece q c e both.0, all_pieces q cs e both.1)

piece_texts : (q : ℕ) (cs : List ℕ) → flat_map (λ (p : Piece). p.0) (map (piece q) cs) ≡ flat_map (char_text q) cs
piece_texts q [] = refl
piece_texts q (c ∷ cs) = ap (λ (l : List ℕ). char_text q c ++ l) (piece_texts q cs)

piece_bytes : (q : ℕ) (cs : List ℕ) → flat_map (λ (p : Piece). p.1) (map (piece q) cs) ≡ encode_utf8_all cs
piece_bytes q [] = refl
piece_bytes q (c ∷ cs) = ap (λ (l : List ℕ). encode_utf8 c ++ l) (piece_bytes q cs)

pub quoted_is_literal : (q : ℕ) (cs : List ℕ) → escaped q ≡ Some q → all_scalars cs ≡ true → IsLiteral q (quoted_chars q cs) (encode_utf8_all cs)
quoted_is_literal q cs e h = (
  map (piece q) cs,
  all_pieces q cs e h,
  ap (λ (l : List ℕ). q ∷ (l ++ q ∷ [])) (sym (piece_texts q cs)),
  sym (piece_bytes q cs),
)

pub written_text : (text rest : List ℕ) → IsUtf8 text → string_at (quoted 34 text ++ rest) ≡ Some (text, rest)
written_text text rest u =
    let bytes : encode_utf8_all (chars text) ≡ text = encodes-chars text u in
    let is : IsLiteral 34 (quoted 34 text) text = subst (IsLiteral 34 (quoted 34 text)) bytes (quoted_is_literal 34 (chars text) refl (scalars-chars text u)) in
    let read : literal_at 34 (quoted 34 text ++ rest) ≡ Some (text, rest) = (literals_are_texts 34 (quoted 34 text ++ rest) text rest (λ e. absurd (omega (arith, e)))).1 (quoted 34 text, refl, is) in
    rw (read, is_utf8-from_IsUtf8 text u) refl

pub written_char : (c : ℕ) (rest : List ℕ) → IsScalar c → char_at (quoted_chars 39 (c ∷ []) ++ rest) ≡ Some (c, rest)
written_char c rest scalar =
    let one : all_scalars (c ∷ []) ≡ true = and_from _ true scalar refl in
    let bytes = encode_utf8_all (c ∷ []) in
    let u : IsUtf8 bytes = (c ∷ [], (one, refl)) in
    let is : IsLiteral 39 (quoted_chars 39 (c ∷ [])) bytes = quoted_is_literal 39 (c ∷ []) refl one in
    let read : literal_at 39 (quoted_chars 39 (c ∷ []) ++ rest) ≡ Some (bytes, rest) = (literals_are_texts 39 (quoted_chars 39 (c ∷ []) ++ rest) bytes rest (λ e. absurd (omega (arith, e)))).1 (quoted_chars 39 (c ∷ []), refl, is) in
    rw (read, is_utf8-from_IsUtf8 bytes u, chars-encodes (c ∷ []) one) refl
