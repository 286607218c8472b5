-- What holds of the format alone.
use Rattle.std.specs.Prelude.{◌≡◌, IsTrue, ◌≢◌, ◌≤◌, ◌<◌, ◌^◌, ◌↔◌, ℕ, ℤ, List, [], ◌∷◌, ◌++◌, Some}
use Rattle.std.specs.Fmt.{decimal, signed_decimal}
use Rattle.std.specs.Char.{IsScalar}
use Rattle.std.specs.Str.{IsUtf8}
use Rattle.syntax_trees.specs.CharText.{quoted, quoted_chars}
use Rattle.value_reader.specs.Tokens.{is_digit, unsigned_at, signed_at}
use Rattle.value_reader.specs.Quoted.{literal_at, string_at, char_at}
use Rattle.syntax_trees.specs.declared.types.ValType.{ValType, out-ValType}
use Rattle.syntax_trees.specs.declared.types.ValType.TheOpen.{ValType-F}
use Rattle.syntax_trees.specs.declared.value.Value.{Value}
use Rattle.value_reader.specs.Values.{reader, read_value, arguments}
use Rattle.syntax_trees.specs.declared.types.ValType.TheViews as view
use Rattle.syntax_trees.specs.declared.value.Value.TheViews as values
use Rattle.syntax_trees.specs.declared.value.Value.TheVariants as plain
use Rattle.syntax_trees.specs.Fits.{fits}
use Rattle.syntax_trees.specs.ValueText.{value_text}
use Rattle.value_reader.specs.Writable.{is_writable, is_sound}
use Rattle.value_reader.specs.Typed.{AreOfTypes}
use Rattle.value_reader.specs.Written.{IsWholeText, AreArguments}
use Rattle.value_reader.specs.Syntax.{IsNumber, IsSigned, IsInRange, BeginsWithout, IsLiteral}

-- A number that is not above a limit is read exactly where it is written at the front of a text, and no digit behind it.
abbrev pub NumbersAreTexts : Type 0
NumbersAreTexts =
    (most n : ℕ) (text rest : List ℕ)
    → (unsigned_at most text ≡ Some (n, rest)) ↔ ((written : List ℕ) × (text ≡ written ++ rest) × IsNumber 10 written n × (n ≤ most) × BeginsWithout (is_digit 10) rest)

-- The same of signed numbers.
abbrev pub SignedAreTexts : Type 0
SignedAreTexts =
    (most : ℕ) (n : ℤ) (text rest : List ℕ)
    → (signed_at most text ≡ Some (n, rest)) ↔ ((written : List ℕ) × (text ≡ written ++ rest) × IsSigned written n × IsInRange most n × BeginsWithout (is_digit 10) rest)

-- What is between quotes is read exactly where it is written at the front of a text.
abbrev pub LiteralsAreTexts : Type 0
LiteralsAreTexts =
    (quote : ℕ) (text content rest : List ℕ) → quote ≢ 92
    → (literal_at quote text ≡ Some (content, rest)) ↔ ((written : List ℕ) × (text ≡ written ++ rest) × IsLiteral quote written content)

-- A value of any type is read exactly where the whole text is written as one of it.
abbrev pub ValuesAreTexts : Type 0
ValuesAreTexts = (type : ValType) (v : Value) (text : List ℕ) → (read_value type text ≡ Some v) ↔ IsWholeText type v text

-- Arguments are read exactly where the text is written as theirs.
abbrev pub ArgumentsAreTexts : Type 0
ArgumentsAreTexts = (types : List ValType) (all : List Value) (text : List ℕ) → (arguments types text ≡ Some all) ↔ AreArguments types all text

-- A text is written as at most one value of a type, and as at most one list of arguments.
abbrev pub TextsAreOneValue : Type 0
TextsAreOneValue = (type : ValType) (v w : Value) (text : List ℕ) → IsWholeText type v text → IsWholeText type w text → v ≡ w

abbrev pub TextsAreOneCall : Type 0
TextsAreOneCall = (types : List ValType) (all others : List Value) (text : List ℕ) → AreArguments types all text → AreArguments types others text → all ≡ others

-- The texts that traces have of numbers, of texts and of characters are read as these, where no digit stands behind a
-- number.
abbrev pub NumbersAreReadBack : Type 0
NumbersAreReadBack =
    (most n : ℕ) (rest : List ℕ) → n < 2 ^ 64 → n ≤ most → BeginsWithout (is_digit 10) rest → unsigned_at most (decimal n ++ rest) ≡ Some (n, rest)

abbrev pub SignedAreReadBack : Type 0
SignedAreReadBack =
    (most : ℕ) (n : ℤ) (rest : List ℕ)
    → most < 2 ^ 63 → IsInRange most n → BeginsWithout (is_digit 10) rest → signed_at most (signed_decimal n ++ rest) ≡ Some (n, rest)

abbrev pub TextsAreReadBack : Type 0
TextsAreReadBack = (text rest : List ℕ) → IsUtf8 text → string_at (quoted 34 text ++ rest) ≡ Some (text, rest)

abbrev pub CharsAreReadBack : Type 0
CharsAreReadBack = (c : ℕ) (rest : List ℕ) → IsScalar c → char_at (quoted_chars 39 (c ∷ []) ++ rest) ≡ Some (c, rest)

-- What a trace has for a sound value of a type is read as that value, where a script can write the type's values as a trace
-- does.
abbrev pub ValuesAreReadBack : Type 0
ValuesAreReadBack =
    (type : ValType) (v : Value)
    → IsTrue (is_writable type) → IsTrue (fits v type) → IsTrue (is_sound v) → read_value type (value_text v type) ≡ Some v

-- The same of the arguments of a call, between parentheses and with a comma and a space between two.
abbrev pub CallsAreReadBack : Type 0
CallsAreReadBack =
    (types : List ValType) (all : List Value)
    → IsTrue (is_writable (view.Tuple types)) → IsTrue (fits (values.Record all) (view.Tuple types)) → IsTrue (is_sound (values.Record all))
    → arguments types (value_text (values.Record all) (view.Tuple types)) ≡ Some all

-- What is read of a type fits it, and is sound.
abbrev pub ReadValuesFit : Type 0
ReadValuesFit = (type : ValType) (v : Value) (text rest : List ℕ) → reader type text ≡ Some (v, rest) → IsTrue (fits v type) × IsTrue (is_sound v)

-- The same of arguments.
abbrev pub ReadArgumentsFit : Type 0
ReadArgumentsFit = (types : List ValType) (all : List Value) (text : List ℕ) → arguments types text ≡ Some all → AreOfTypes types all

-- A sound value of an unsigned integer of 32 bits is a number below 2^32.
abbrev pub SoundValuesAreSmall : Type 0
SoundValuesAreSmall =
    (type : ValType) (v : Value)
    → out-ValType type ≡ ValType-F.U32 → IsTrue (fits v type) → IsTrue (is_sound v) → (n : ℕ) × (plain.U32 n ≡ v) × (n < 2 ^ 32)
