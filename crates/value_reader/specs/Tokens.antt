-- The parts of the texts of values: blanks, marks, words, labels, digits and numbers. The format is the program's own.
use Rattle.std.specs.Prelude.{ℕ, ℤ, pos, negsuc, ◌+◌, ◌-◌, ◌==◌, ◌||◌, Bool, nat_lt, nat_le, List, [], ◌∷◌, length, take, drop, codes, if◌then◌else◌, Option, Some, None}
use Rattle.std.specs.List.{prefix_len, position_or_len}
use Rattle.std.specs.Option.{option_map, option_and_then}
use Rattle.std.specs.Char as char
use Rattle.std.specs.Str.{bytes_eq}
use Rattle.std.specs.Str.Parse as parse

-- A blank is a space or a tab.
abbrev pub is_blank : ℕ → Bool
is_blank b = b == 32 || b == 9

-- a parenthesis, a bracket or a brace
abbrev pub is_bracket : ℕ → Bool
is_bracket b = b == 40 || b == 41 || b == 91 || b == 93 || b == 123 || b == 125

-- A label ends before a blank, a bracket, a comma, a colon and a quote.
abbrev pub ends_label : ℕ → Bool
ends_label b = is_blank b || is_bracket b || b == 44 || b == 58 || b == 34 || b == 39

-- a text without the blanks before it
abbrev pub without_blanks : List ℕ → List ℕ
without_blanks text = drop (prefix_len is_blank text) text

-- the first byte, and what follows it
abbrev pub byte_at : List ℕ → Option (ℕ × List ℕ)
byte_at [] = None
byte_at (b ∷ text) = Some (b, text)

-- what follows a word, where a text begins with it
abbrev pub after : List ℕ → List ℕ → Option (List ℕ)
after word text = if bytes_eq (take (length word) text) word then Some (drop (length word) text) else None

-- what follows a mark of one byte, with or without blanks before it
abbrev pub after_mark : ℕ → List ℕ → Option (List ℕ)
after_mark mark text = after (mark ∷ []) (without_blanks text)

-- the label at the front of a text, which may have no bytes, and what follows it
abbrev pub label_of : List ℕ → List ℕ
label_of text = take (position_or_len ends_label text) text

abbrev pub behind_label : List ℕ → List ℕ
behind_label text = drop (position_or_len ends_label text) text

-- whether this label stands next, with or without blanks before it, and what follows it
abbrev pub is_next : List ℕ → List ℕ → Bool
is_next label text = bytes_eq (label_of (without_blanks text)) label

abbrev pub behind_next : List ℕ → List ℕ
behind_next text = behind_label (without_blanks text)

-- Digits in a base: those from 0 to 9, then the letters, in either case.
abbrev pub digit_value : ℕ → ℕ
digit_value b = char.digit_value b

abbrev pub is_digit : ℕ → ℕ → Bool
is_digit base b = nat_lt (digit_value b) base

abbrev pub digits_of : ℕ → List ℕ → List ℕ
digits_of base text = take (prefix_len (is_digit base) text) text

abbrev pub behind_digits : ℕ → List ℕ → List ℕ
behind_digits base text = drop (prefix_len (is_digit base) text) text

-- the number of digits behind those of a number; leading zeros are allowed
abbrev pub number_behind : ℕ → ℕ → List ℕ → ℕ
number_behind base before digits = parse.digits_value_after base before digits

abbrev pub number : ℕ → List ℕ → ℕ
number base digits = number_behind base 0 digits

-- the number, where it is not above this one
abbrev pub number_up_to : ℕ → ℕ → List ℕ → Option ℕ
number_up_to base most digits = if nat_le (number base digits) most then Some (number base digits) else None

-- A number at the front of a text: one decimal digit or more.
abbrev pub unsigned_at : ℕ → List ℕ → Option (ℕ × List ℕ)
unsigned_at most text =
    if length (digits_of 10 text) == 0 then None
    else option_map (λ n. (n, behind_digits 10 text)) (number_up_to 10 most (digits_of 10 text))

-- A signed number, which has a minus right before its digits where it is below 0; there is no minus before a 0.
abbrev pub negated : ℕ × List ℕ → Option (ℤ × List ℕ)
negated p = if p.0 == 0 then None else Some (negsuc (p.0 - 1), p.1)

abbrev pub signed_behind : ℕ → List ℕ → Option (List ℕ) → Option (ℤ × List ℕ)
signed_behind most text (Some digits) = option_and_then negated (unsigned_at (most + 1) digits)
signed_behind most text None = option_map (λ p. (pos p.0, p.1)) (unsigned_at most text)

abbrev pub signed_at : ℕ → List ℕ → Option (ℤ × List ℕ)
signed_at most text = signed_behind most text (after (codes "-") text)
