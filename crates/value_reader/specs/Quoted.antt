-- Characters and texts between quotes. A backslash before a quote, a backslash, `n`, `r` and `t` stands with it for the
-- quote, the backslash, the line feed, the carriage return and the tab; `\u{h}` for the character whose code is h, one to
-- six hexadecimal digits. Each other byte but the quote that ends the literal stands for itself. The format is the
-- program's own.
use Rattle.std.specs.Prelude.{ℕ, zero, suc, ◌==◌, ◌&&◌, ◌||◌, Bool, nat_lt, nat_le, List, [], ◌∷◌, ◌++◌, length, codes, if◌then◌else◌, Option, Some, None}
use Rattle.std.specs.Option.{option_map, option_and_then}
use Rattle.std.specs.Char.{encode_utf8}
use Rattle.std.specs.Str.{is_utf8, chars}
use Rattle.value_reader.specs.Tokens.{after, byte_at, digits_of, behind_digits, number}

-- the character for which a letter stands behind a backslash
abbrev pub escaped : ℕ → Option ℕ
escaped b =
    if b == 39 then Some 39
    else if b == 34 then Some 34
    else if b == 92 then Some 92
    else if b == 110 then Some 10
    else if b == 114 then Some 13
    else if b == 116 then Some 9
    else None

-- a code of a character: no surrogate, and not above the last one
abbrev pub is_scalar : ℕ → Bool
is_scalar c = nat_lt c 0xD800 || (nat_le 0xE000 c && nat_le c 0x10FFFF)

-- the character with this code in hexadecimal digits
abbrev pub char_of_code : List ℕ → Option ℕ
char_of_code digits =
    if nat_le 1 (length digits) && nat_le (length digits) 6 && is_scalar (number 16 digits) then Some (number 16 digits) else None

-- a code in braces
abbrev pub code_at : List ℕ → Option (ℕ × List ℕ)
code_at text =
    option_and_then (λ braced. option_and_then (λ c. option_map (λ rest. (c, rest)) (after (codes "}") (behind_digits 16 braced))) (char_of_code (digits_of 16 braced)))
    (after (codes "{") text)

-- what stands behind a backslash
abbrev pub escape_behind : ℕ × List ℕ → Option (ℕ × List ℕ)
escape_behind p = if p.0 == 117 then code_at p.1 else option_map (λ c. (c, p.1)) (escaped p.0)

abbrev pub escape_at : List ℕ → Option (ℕ × List ℕ)
escape_at text = option_and_then escape_behind (byte_at text)

-- The bytes for which a literal stands, behind those of its first part, up to the quote that ends it, which is among so
-- many parts: bytes and escapes.
abbrev pub content_from : ℕ → ℕ → List ℕ → List ℕ → Option (List ℕ × List ℕ)
content_from quote zero before text = None
content_from quote (suc parts) before [] = None
content_from quote (suc parts) before (b ∷ text) =
    if b == quote then Some (before, text)
    else if b == 92 then option_and_then (λ p. content_from quote parts (before ++ encode_utf8 p.0) p.1) (escape_at text)
    else content_from quote parts (before ++ b ∷ []) text

abbrev pub content_at : ℕ → List ℕ → Option (List ℕ × List ℕ)
content_at quote text = content_from quote (length text) [] text

abbrev pub literal_at : ℕ → List ℕ → Option (List ℕ × List ℕ)
literal_at quote text = option_and_then (content_at quote) (after (quote ∷ []) text)

-- a text: between double quotes, and UTF-8
abbrev pub string_at : List ℕ → Option (List ℕ × List ℕ)
string_at text = option_and_then (λ p. if is_utf8 p.0 then Some p else None) (literal_at 34 text)

-- the character of a text that has only one
abbrev pub only : List ℕ → Option ℕ
only [] = None
only (c ∷ []) = Some c
only (c ∷ d ∷ cs) = None

-- a character: one between single quotes
abbrev pub char_at : List ℕ → Option (ℕ × List ℕ)
char_at text = option_and_then (λ p. if is_utf8 p.0 then option_map (λ c. (c, p.1)) (only (chars p.0)) else None) (literal_at 39 text)
