-- How the parts of values are written: which texts stand for a number and for what is between quotes. The format is the
-- program's own. `specs/Tokens` and `specs/Quoted` compute what these say; the laws in `specs/Laws` say that both are the
-- same.
use Rattle.std.specs.Prelude.{◌≡◌, ◌≢◌, ◌≤◌, ◌+◌, ◌⊎◌, IsTrue, ℕ, ℤ, pos, negsuc, Bool, false, List, [], ◌∷◌, ◌++◌, length, Some}
use Rattle.std.specs.List.{AllByRecursion, flat_map}
use Rattle.std.specs.Char.{encode_utf8}
use Rattle.value_reader.specs.Tokens.{is_digit, number}
use Rattle.value_reader.specs.Quoted.{escaped, is_scalar}

-- one digit or more in a base, of this number
abbrev pub IsNumber : ℕ → List ℕ → ℕ → Type 0
IsNumber base text n = (1 ≤ length text) × AllByRecursion (λ b. IsTrue (is_digit base b)) text × (n ≡ number base text)

-- a signed number: its digits, and a minus right before them where it is below 0
abbrev pub IsSigned : List ℕ → ℤ → Type 0
IsSigned text (pos n) = IsNumber 10 text n
IsSigned text (negsuc n) = (digits : List ℕ) × (text ≡ 45 ∷ digits) × IsNumber 10 digits (n + 1)

-- it is within a range that ends at such a number, and begins at one more below 0
abbrev pub IsInRange : ℕ → ℤ → Type 0
IsInRange most (pos n) = n ≤ most
IsInRange most (negsuc n) = n ≤ most

-- the text is at its end, or begins with a byte that does not pass a test
abbrev pub BeginsWithout : (ℕ → Bool) → List ℕ → Type 0
BeginsWithout p [] = Unit {0}
BeginsWithout p (b ∷ text) = p b ≡ false

-- what stands behind a backslash: a letter, or `u` and a code in braces, of one to six hexadecimal digits
abbrev pub IsEscape : List ℕ → ℕ → Type 0
IsEscape text c =
    ((letter : ℕ) × (text ≡ letter ∷ []) × (escaped letter ≡ Some c))
    ⊎ ((digits : List ℕ) × (text ≡ 117 ∷ 123 ∷ (digits ++ 125 ∷ [])) × IsNumber 16 digits c × (length digits ≤ 6) × IsTrue (is_scalar c))

-- a piece of what stands between two such quotes, and the bytes for which it stands: a byte that is neither the quote nor
-- a backslash, or an escape
abbrev pub IsPiece : ℕ → List ℕ × List ℕ → Type 0
IsPiece quote p =
    ((b : ℕ) × (p.0 ≡ b ∷ []) × (p.1 ≡ b ∷ []) × (b ≢ quote) × (b ≢ 92))
    ⊎ ((c : ℕ) × (behind : List ℕ) × (p.0 ≡ 92 ∷ behind) × IsEscape behind c × (p.1 ≡ encode_utf8 c))

-- a literal and the bytes for which it stands: pieces between two quotes
abbrev pub IsLiteral : ℕ → List ℕ → List ℕ → Type 0
IsLiteral quote text content =
    (pieces : List (List ℕ × List ℕ)) × AllByRecursion (IsPiece quote) pieces
    × (text ≡ quote ∷ (flat_map (λ p. p.0) pieces ++ quote ∷ [])) × (content ≡ flat_map (λ p. p.1) pieces)
