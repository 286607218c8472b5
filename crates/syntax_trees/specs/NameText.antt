-- The text of a name: of a function or a label, in traces, in the texts of types and in the lines of refusals. It has visible
-- characters of ASCII alone, so that no name makes a line of its own, or a space in one.
use Rattle.std.specs.Prelude.{ℕ, Bool, not, ◌&&◌, ◌==◌, nat_le, if◌then◌else◌, List, [], ◌∷◌}
use Rattle.std.specs.List.{flat_map}
use Rattle.std.specs.Char.Escape.{escape_unicode}
use Rattle.std.specs.Str.{chars}

-- a character that stands in a name as it is: a visible one of ASCII, but for the backslash
abbrev pub is_plain : ℕ → Bool
is_plain c = nat_le 0x21 c && nat_le c 0x7E && not (c == 0x5C)

-- Any other one stands as its code, in lower-case hexadecimal digits without leading zeros: `\u{e9}`.
abbrev pub char_text : ℕ → List ℕ
char_text c = if is_plain c then c ∷ [] else escape_unicode c

-- a name, which is UTF-8
unfoldable pub name_text : List ℕ → List ℕ
name_text name = flat_map char_text (chars name)
