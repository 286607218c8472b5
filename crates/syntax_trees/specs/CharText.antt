-- The texts of characters between quotes.
use Rattle.std.specs.Prelude.{ℕ, Bool, ◌&&◌, ◌||◌, ◌==◌, nat_le, if◌then◌else◌, List, [], ◌∷◌, ◌++◌}
use Rattle.std.specs.List.{flat_map}
use Rattle.std.specs.Char.Escape.{escape_unicode}
use Rattle.std.specs.Str.{chars}

-- a character of ASCII that is no control character
abbrev pub is_printable : ℕ → Bool
is_printable c = nat_le 0x20 c && nat_le c 0x7E

-- a character that wants a backslash before it: the quote around it, or a backslash
abbrev pub is_marked : ℕ → ℕ → Bool
is_marked quote c = c == quote || c == 0x5C

-- A character that is not printable stands as its code, in lower-case hexadecimal digits without leading zeros: `\u{e9}`.
abbrev pub char_text : ℕ → ℕ → List ℕ
char_text quote c = if is_printable c then (if is_marked quote c then (0x5C ∷ c ∷ []) else (c ∷ [])) else escape_unicode c

-- characters between two quotes
abbrev pub quoted_chars : ℕ → List ℕ → List ℕ
quoted_chars quote cs = quote ∷ (flat_map (char_text quote) cs ++ quote ∷ [])

-- a text, which is UTF-8, between two quotes
abbrev pub quoted : ℕ → List ℕ → List ℕ
quoted quote text = quoted_chars quote (chars text)
