-- Texts of numbers, characters and texts are read as these, whatever ends them.
use Rattle.std.proofs.Common.{◌≡◌, ◌≢◌, ◌∙◌, ℕ, ◌≤◌, List, [], ◌∷◌, ◌++◌, cond, Option, Some, None, true, false, refl, sym, ap, subst, append-nil, arith}
use Rattle.std.specs.Prelude.{ℤ, pos, negsuc}
use Rattle.std.specs.Option.{option_map, option_and_then}
use Rattle.std.specs.Char.{encode_utf8, IsScalar}
use Rattle.std.specs.Str.{IsUtf8, is_utf8, chars, all_scalars}
use Rattle.std.proofs.lemmas.Bool.{and_from}
use Rattle.std.proofs.lemmas.Str.{chars-encodes, is_utf8-from_IsUtf8}
use Rattle.syntax_trees.specs.declared.value.Value.{Value}
use Rattle.syntax_trees.specs.declared.value.Value.TheVariants as plain
use Rattle.value_reader.specs.Tokens.{is_blank, without_blanks, unsigned_at, signed_at}
use Rattle.value_reader.specs.Quoted.{literal_at, only}
use Rattle.value_reader.specs.Values.{found, char_value_at, string_value_at}
use Rattle.value_reader.specs.Syntax.{IsNumber, IsSigned, IsInRange, IsLiteral}
use Rattle.value_reader.proofs.NumberTexts.{numbers_are_texts, signed_are_texts}
use Rattle.value_reader.proofs.Literals.{literals_are_texts}
use Rattle.value_reader.proofs.Marks.{no_blanks, digit_is_no_blank, ends_digits}
use Rattle.value_reader.proofs.Sequences.{Tells}

-- numbers
pub number_begins : (n : ℕ) (text rest : List ℕ) → IsNumber 10 text n → without_blanks (text ++ rest) ≡ text ++ rest
number_begins n [] rest i = absurd (omega (arith, i.0))
number_begins n (b ∷ text) rest i = no_blanks b (text ++ rest) (digit_is_no_blank b i.1.0)

signed_begins : (n : ℤ) (text rest : List ℕ) → IsSigned text n → without_blanks (text ++ rest) ≡ text ++ rest
signed_begins (pos n) text rest i = number_begins n text rest i
signed_begins (negsuc n) text rest i = subst (λ (l : List ℕ). without_blanks (l ++ rest) ≡ l ++ rest) (sym i.1) (no_blanks 45 (i.0 ++ rest) refl)

pub number_tells : (most n : ℕ) (make : ℕ → Value) (text : List ℕ) → IsNumber 10 text n → n ≤ most → Tells (λ (l : List ℕ). found make (unsigned_at most l)) (make n) text
number_tells most n make text i small = λ rest e. (
  rest,
  ap (λ (l : List ℕ). found make (unsigned_at most l)) (number_begins n text rest i)
      ∙ ap (found make) ((numbers_are_texts most n (text ++ rest) rest).1 (text, refl, i, small, ends_digits rest e)),
  refl,
)

pub signed_tells : (most : ℕ) (n : ℤ) (make : ℤ → Value) (text : List ℕ) → IsSigned text n → IsInRange most n → Tells (λ (l : List ℕ). found make (signed_at most l)) (make n) text
signed_tells most n make text i small = λ rest e. (
  rest,
  ap (λ (l : List ℕ). found make (signed_at most l)) (signed_begins n text rest i)
      ∙ ap (found make) ((signed_are_texts most n (text ++ rest) rest).1 (text, refl, i, small, ends_digits rest e)),
  refl,
)

-- what is between quotes
literal_begins : (q : ℕ) (text content rest : List ℕ) → is_blank q ≡ false → IsLiteral q text content → without_blanks (text ++ rest) ≡ text ++ rest
literal_begins q text content rest b i = subst (λ (l : List ℕ). without_blanks (l ++ rest) ≡ l ++ rest) (sym i.2) (no_blanks q _ b)

literal_read : (q : ℕ) (text content rest : List ℕ) → is_blank q ≡ false → q ≢ 92 → IsLiteral q text content → literal_at q (without_blanks (text ++ rest)) ≡ Some (content, rest)
literal_read q text content rest b ne i =
    ap (literal_at q) (literal_begins q text content rest b i) ∙ (literals_are_texts q (text ++ rest) content rest ne).1 (text, refl, i)

string_of : (s rest : List ℕ) → IsUtf8 s → ◌≡◌ {A = Option (List ℕ × List ℕ)} (option_and_then (λ (p : List ℕ × List ℕ). cond (is_utf8 p.0) (Some p) None) (Some (s, rest))) (Some (s, rest))
string_of s rest u = rw (is_utf8-from_IsUtf8 s u) refl

pub string_tells : (s text : List ℕ) → IsLiteral 34 text s → IsUtf8 s → Tells string_value_at (plain.String s) text
string_tells s text i u = λ rest e. (
  rest,
  ap (λ (o : Option (List ℕ × List ℕ)). found plain.String (option_and_then (λ (p : List ℕ × List ℕ). cond (is_utf8 p.0) (Some p) None) o))
      (literal_read 34 text s rest refl (λ e. absurd (omega (arith, e))) i)
      ∙ ap (found plain.String) (string_of s rest u),
  refl,
)

abbrev char_of : Option (List ℕ × List ℕ) → Option (ℕ × List ℕ)
char_of o = option_and_then (λ (p : List ℕ × List ℕ). cond (is_utf8 p.0) (option_map (λ (c : ℕ). (c, p.1)) (only (chars p.0))) None) o

char_is : (c : ℕ) (rest : List ℕ) → IsScalar c → char_of (Some (encode_utf8 c, rest)) ≡ Some (c, rest)
char_is c rest scalar =
    let one : all_scalars (c ∷ []) ≡ true = and_from _ true scalar refl in
    let u : IsUtf8 (encode_utf8 c ++ []) = (c ∷ [], (one, refl)) in
    subst (λ (l : List ℕ). char_of (Some (l, rest)) ≡ Some (c, rest)) (append-nil (encode_utf8 c))
    (rw (is_utf8-from_IsUtf8 (encode_utf8 c ++ []) u, chars-encodes (c ∷ []) one) refl)

pub char_tells : (c : ℕ) (text : List ℕ) → IsLiteral 39 text (encode_utf8 c) → IsScalar c → Tells char_value_at (plain.Char c) text
char_tells c text i scalar = λ rest e. (
  rest,
  ap (λ (o : Option (List ℕ × List ℕ)). found plain.Char (char_of o)) (literal_read 39 text (encode_utf8 c) rest refl (λ e. absurd (omega (arith, e))) i)
      ∙ ap (found plain.Char) (char_is c rest scalar),
  refl,
)
