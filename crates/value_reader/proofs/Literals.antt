-- Literals at the front of a text.
use Rattle.std.proofs.Common.{◌≡◌, ◌≢◌, ◌↔◌, ◌⊎◌, inl, inr, ℕ, zero, suc, ◌≤◌, ◌<◌, List, [], ◌∷◌, ◌++◌, length, codes, Bool, true, false, cond, IsTrue, Option, Some, nat_eq, nat_le, ◌&&◌, refl, sym, ap, ◌∙◌, subst, append_assoc, append-nil, length-append, arith}
use Rattle.std.specs.Option.{option_map, option_and_then}
use Rattle.std.specs.List.{flat_map, AllByRecursion}
use Rattle.std.specs.Char.{encode_utf8}
use Rattle.std.proofs.lemmas.Bool.{and_parts, leb-true, le-leb, eqb-true, eqb-false, ne_eqb}
use Rattle.value_reader.specs.Tokens.{is_digit, digits_of, behind_digits, number, after}
use Rattle.value_reader.specs.Quoted.{escaped, is_scalar, char_of_code, code_at, escape_at, content_from, content_at, literal_at}
use Rattle.value_reader.specs.Syntax.{IsNumber, IsEscape, IsPiece, IsLiteral}
use Rattle.value_reader.proofs.Fronts.{front_taken, front_dropped, front_passes, front_and_rest}
use Rattle.value_reader.proofs.Cases.{some_inj, passed_some, mapped_some, chained_some}
use Rattle.value_reader.proofs.Words.{after_told, after_byte}
use Rattle.value_reader.proofs.Contents.{content_ends, content_goes, content_escapes}

abbrev Piece : Type 0
Piece = List ℕ × List ℕ

abbrev texts : List Piece → List ℕ
texts pieces = flat_map (λ (p : Piece). p.0) pieces

abbrev bytes : List Piece → List ℕ
bytes pieces = flat_map (λ (p : Piece). p.1) pieces

-- A code in digits.
char_told : (digits : List ℕ) (c : ℕ) → char_of_code digits ≡ Some c → (1 ≤ length digits) × (length digits ≤ 6) × (is_scalar c ≡ true) × (c ≡ number 16 digits)
char_told digits c h =
    let both = passed_some (nat_le 1 (length digits) && nat_le (length digits) 6 && is_scalar (number 16 digits)) (Some (number 16 digits)) c h in
    let parts = and_parts (nat_le 1 (length digits) && nat_le (length digits) 6) (is_scalar (number 16 digits)) both.0 in
    let lengths = and_parts (nat_le 1 (length digits)) (nat_le (length digits) 6) parts.0 in
    let same : number 16 digits ≡ c = some_inj both.1 in
    (leb-true 1 (length digits) lengths.0, leb-true (length digits) 6 lengths.1, subst (λ (k : ℕ). is_scalar k ≡ true) same parts.1, sym same)

char_tells : (digits : List ℕ) (c : ℕ) → 1 ≤ length digits → length digits ≤ 6 → is_scalar c ≡ true → c ≡ number 16 digits → char_of_code digits ≡ Some c
char_tells digits c low high scalar same =
    let here : is_scalar (number 16 digits) ≡ true = subst (λ (k : ℕ). is_scalar k ≡ true) same scalar in
    rw (le-leb 1 (length digits) low, le-leb (length digits) 6 high, here, same) refl

-- A code in braces.
code_told : (text rest : List ℕ) (c : ℕ) → code_at text ≡ Some (c, rest)
    → (digits : List ℕ) × (text ≡ 123 ∷ (digits ++ 125 ∷ rest)) × IsNumber 16 digits c × (length digits ≤ 6) × IsTrue (is_scalar c)
code_told text rest c h =
    let open1 = chained_some (λ (braced : List ℕ). option_and_then (λ (c : ℕ). option_map (λ (rest : List ℕ). (c, rest)) (after (codes "}") (behind_digits 16 braced))) (char_of_code (digits_of 16 braced))) (after (codes "{") text) (c, rest) h in
    let braced = open1.0 in
    let digits = digits_of 16 braced in
    let found = chained_some (λ (c : ℕ). option_map (λ (rest : List ℕ). (c, rest)) (after (codes "}") (behind_digits 16 braced))) (char_of_code digits) (c, rest) open1.2 in
    let last = mapped_some (λ (r : List ℕ). (found.0, r)) (after (codes "}") (behind_digits 16 braced)) (c, rest) found.2 in
    let same : found.0 ≡ c = ap (λ (p : ℕ × List ℕ). p.0) last.2 in
    let there : last.0 ≡ rest = ap (λ (p : ℕ × List ℕ). p.1) last.2 in
    let told = char_told digits c (found.1 ∙ ap (λ (k : ℕ). Some k) same) in
    let begins : text ≡ 123 ∷ braced = after_told (codes "{") text braced open1.1 in
    let closes : behind_digits 16 braced ≡ 125 ∷ last.0 = after_told (codes "}") (behind_digits 16 braced) last.0 last.1 in
    let whole : braced ≡ digits ++ behind_digits 16 braced = front_and_rest (is_digit 16) braced in (
      digits,
      begins ∙ ap (λ (l : List ℕ). 123 ∷ l) (whole ∙ ap (λ (l : List ℕ). digits ++ l) (closes ∙ ap (λ (l : List ℕ). 125 ∷ l) there)),
      (told.0, front_passes (is_digit 16) braced, told.3),
      told.1,
      told.2,
    )

code_tells : (digits more : List ℕ) (c : ℕ) → IsNumber 16 digits c → length digits ≤ 6 → IsTrue (is_scalar c) → code_at (123 ∷ (digits ++ 125 ∷ more)) ≡ Some (c, more)
code_tells digits more c i high scalar =
    let front : digits_of 16 (digits ++ 125 ∷ more) ≡ digits = front_taken (is_digit 16) digits (125 ∷ more) i.1 refl in
    let behind : behind_digits 16 (digits ++ 125 ∷ more) ≡ 125 ∷ more = front_dropped (is_digit 16) digits (125 ∷ more) i.1 refl in
    let value : char_of_code digits ≡ Some c = char_tells digits c i.0 high scalar i.2 in
    rw (front, value, behind) refl

-- What stands behind a backslash.
letter_is_no_code : (letter c : ℕ) → escaped letter ≡ Some c → letter ≢ 117
letter_is_no_code letter c h e =
    let none : escaped 117 ≡ Some c = subst (λ (b : ℕ). escaped b ≡ Some c) e h in
    cc

abbrev Escape : List ℕ → ℕ → List ℕ → Type 0
Escape text c rest = (written : List ℕ) × (text ≡ written ++ rest) × IsEscape written c

code_is_escape : (b : ℕ) (text rest : List ℕ) (c : ℕ) → b ≡ 117 → code_at text ≡ Some (c, rest) → Escape (b ∷ text) c rest
code_is_escape b text rest c e h =
    let told = code_told text rest c h in
    let digits = told.0 in
    let closed : digits ++ 125 ∷ rest ≡ (digits ++ 125 ∷ []) ++ rest = sym (append_assoc digits (125 ∷ []) rest) in (
      117 ∷ 123 ∷ (digits ++ 125 ∷ []),
      ap (λ (k : ℕ). k ∷ text) e ∙ ap (λ (l : List ℕ). 117 ∷ l) (told.1 ∙ ap (λ (l : List ℕ). 123 ∷ l) closed),
      inr (digits, refl, told.2, told.3, told.4),
    )

letter_is_escape : (b : ℕ) (text rest : List ℕ) (c : ℕ) → option_map {U = ℕ × List ℕ} (λ (c : ℕ). (c, text)) (escaped b) ≡ Some (c, rest) → Escape (b ∷ text) c rest
letter_is_escape b text rest c h =
    let found = mapped_some (λ (c : ℕ). (c, text)) (escaped b) (c, rest) h in
    let same : found.0 ≡ c = ap (λ (p : ℕ × List ℕ). p.0) found.2 in
    let there : text ≡ rest = ap (λ (p : ℕ × List ℕ). p.1) found.2 in
    (b ∷ [], ap (λ (l : List ℕ). b ∷ l) there, inl (b, refl, found.1 ∙ ap (λ (k : ℕ). Some k) same))

either : {A : Type 0} (b : Bool) (x y : Option A) (z : A) → cond b x y ≡ Some z → ((b ≡ true) × (x ≡ Some z)) ⊎ ((b ≡ false) × (y ≡ Some z))
either true x y z h = inl (refl, h)
either false x y z h = inr (refl, h)

escape_told : (text rest : List ℕ) (c : ℕ) → escape_at text ≡ Some (c, rest) → Escape text c rest
escape_told [] rest c h = cc
escape_told (b ∷ text) rest c h =
    elim (either (nat_eq b 117) (code_at text) (option_map {U = ℕ × List ℕ} (λ (c : ℕ). (c, text)) (escaped b)) (c, rest) h) [
      | inl w ↦ code_is_escape b text rest c (eqb-true b 117 w.0) w.1
      | inr w ↦ letter_is_escape b text rest c w.1
    ]

escape_tells : (written more : List ℕ) (c : ℕ) → IsEscape written c → escape_at (written ++ more) ≡ Some (c, more)
escape_tells written more c (inl i) =
    ap (λ (l : List ℕ). escape_at (l ++ more)) i.1
    ∙ rw (ne_eqb i.0 117 (letter_is_no_code i.0 c i.2), i.2) refl
escape_tells written more c (inr i) =
    let closed : (i.0 ++ 125 ∷ []) ++ more ≡ i.0 ++ 125 ∷ more = append_assoc i.0 (125 ∷ []) more in
    ap (λ (l : List ℕ). escape_at (l ++ more)) i.1
    ∙ ap (λ (l : List ℕ). code_at (123 ∷ l)) closed
    ∙ code_tells i.0 more c i.2 i.3 i.4

-- The pieces of a literal.
abbrev Content : ℕ → List ℕ → List ℕ → List ℕ → List ℕ → Type 0
Content q before text rest all =
    (pieces : List Piece) × AllByRecursion (IsPiece q) pieces × (text ≡ texts pieces ++ q ∷ rest) × (all ≡ before ++ bytes pieces)

three : {A : Type 0} (b c : Bool) (x y z : Option A) (w : A) → cond b x (cond c y z) ≡ Some w
    → ((b ≡ true) × (x ≡ Some w)) ⊎ (((b ≡ false) × (c ≡ true) × (y ≡ Some w)) ⊎ ((b ≡ false) × (c ≡ false) × (z ≡ Some w)))
three true c x y z w h = inl (refl, h)
three false true x y z w h = inr (inl (refl, refl, h))
three false false x y z w h = inr (inr (refl, refl, h))

ended_told : (q b : ℕ) (before text rest all : List ℕ) → b ≡ q → ◌≡◌ {A = Option (List ℕ × List ℕ)} (Some (before, text)) (Some (all, rest)) → Content q before (b ∷ text) rest all
ended_told q b before text rest all e h =
    let both = some_inj h in
    let same : before ≡ all = ap (λ (p : List ℕ × List ℕ). p.0) both in
    let there : text ≡ rest = ap (λ (p : List ℕ × List ℕ). p.1) both in
    ([], tt, ap (λ (k : ℕ). k ∷ text) e ∙ ap (λ (l : List ℕ). q ∷ l) there, sym same ∙ sym (append-nil before))

content_told : (q n : ℕ) (before text rest all : List ℕ) → content_from q n before text ≡ Some (all, rest) → Content q before text rest all
content_told q zero before text rest all h = cc
content_told q (suc n) before [] rest all h = cc
content_told q (suc n) before (b ∷ text) rest all h =
    elim (three (nat_eq b q) (nat_eq b 92) (Some (before, text)) (option_and_then (λ (p : ℕ × List ℕ). content_from q n (before ++ encode_utf8 p.0) p.1) (escape_at text)) (content_from q n (before ++ b ∷ []) text) (all, rest) h) [
      | inl w ↦ ended_told q b before text rest all (eqb-true b q w.0) w.1
      | inr (inl w) ↦
          let found = chained_some (λ (p : ℕ × List ℕ). content_from q n (before ++ encode_utf8 p.0) p.1) (escape_at text) (all, rest) w.2 in
          let c = found.0.0 in
          let told = escape_told text found.0.1 c found.1 in
          let others = content_told q n (before ++ encode_utf8 c) found.0.1 rest all found.2 in
          let is : b ≡ 92 = eqb-true b 92 w.1 in (
            (92 ∷ told.0, encode_utf8 c) ∷ others.0,
            (inr (c, told.0, refl, told.2, refl), others.1),
            ap (λ (k : ℕ). k ∷ text) is
                ∙ ap (λ (l : List ℕ). 92 ∷ l) (told.1 ∙ ap (λ (l : List ℕ). told.0 ++ l) others.2 ∙ sym (append_assoc told.0 (texts others.0) (q ∷ rest))),
            others.3 ∙ append_assoc before (encode_utf8 c) (bytes others.0),
          )
      | inr (inr w) ↦
          let others = content_told q n (before ++ b ∷ []) text rest all w.2 in (
            (b ∷ [], b ∷ []) ∷ others.0,
            (inl (b, refl, refl, eqb-false b q w.0, eqb-false b 92 w.1), others.1),
            ap (λ (l : List ℕ). b ∷ l) others.2,
            others.3 ∙ append_assoc before (b ∷ []) (bytes others.0),
          )
    ]

content_tells : (q n : ℕ) (before rest : List ℕ) (pieces : List Piece) → q ≢ 92 → AllByRecursion (IsPiece q) pieces → length pieces < n
    → content_from q n before (texts pieces ++ q ∷ rest) ≡ Some (before ++ bytes pieces, rest)
content_tells q n before rest [] ne a low =
    content_ends q n q before (q ∷ rest) rest low refl refl ∙ ap (λ (l : List ℕ). Some (l, rest)) (sym (append-nil before))
content_tells q zero before rest (p ∷ pieces) ne a low = absurd (omega (arith, low))
content_tells q (suc n) before rest (p ∷ pieces) ne (inl i, a) low =
    let fewer : length pieces < n = omega (arith, low) in
    let more = texts pieces ++ q ∷ rest in
    let text : texts (p ∷ pieces) ++ q ∷ rest ≡ i.0 ∷ more = append_assoc p.0 (texts pieces) (q ∷ rest) ∙ ap (λ (l : List ℕ). l ++ more) i.1 in
    let all : (before ++ i.0 ∷ []) ++ bytes pieces ≡ before ++ bytes (p ∷ pieces) =
    append_assoc before (i.0 ∷ []) (bytes pieces) ∙ ap (λ (l : List ℕ). before ++ (l ++ bytes pieces)) (sym i.2) in
    ap (λ (l : List ℕ). content_from q (suc n) before l) text
    ∙ content_goes q (suc n) n i.0 before (i.0 ∷ more) more refl refl i.3 i.4
    ∙ content_tells q n (before ++ i.0 ∷ []) rest pieces ne a fewer
    ∙ ap (λ (l : List ℕ). Some (l, rest)) all
content_tells q (suc n) before rest (p ∷ pieces) ne (inr i, a) low =
    let fewer : length pieces < n = omega (arith, low) in
    let more = texts pieces ++ q ∷ rest in
    let text : texts (p ∷ pieces) ++ q ∷ rest ≡ 92 ∷ (i.1 ++ more) = append_assoc p.0 (texts pieces) (q ∷ rest) ∙ ap (λ (l : List ℕ). l ++ more) i.2 in
    let all : (before ++ encode_utf8 i.0) ++ bytes pieces ≡ before ++ bytes (p ∷ pieces) =
    append_assoc before (encode_utf8 i.0) (bytes pieces) ∙ ap (λ (l : List ℕ). before ++ (l ++ bytes pieces)) (sym i.4) in
    ap (λ (l : List ℕ). content_from q (suc n) before l) text
    ∙ content_escapes q (suc n) n 92 i.0 before (92 ∷ (i.1 ++ more)) (i.1 ++ more) more refl refl (λ e. ne (sym e)) refl (escape_tells i.1 more i.0 i.3)
    ∙ content_tells q n (before ++ encode_utf8 i.0) rest pieces ne a fewer
    ∙ ap (λ (l : List ℕ). Some (l, rest)) all

-- There are no more pieces than bytes.
piece_has_bytes : (q : ℕ) (p : Piece) → IsPiece q p → 1 ≤ length p.0
piece_has_bytes q p (inl i) = subst (λ (l : List ℕ). 1 ≤ length l) (sym i.1) (omega arith)
piece_has_bytes q p (inr i) = subst (λ (l : List ℕ). 1 ≤ length l) (sym i.2) (omega arith)

few_pieces : (q : ℕ) (pieces : List Piece) → AllByRecursion (IsPiece q) pieces → length pieces ≤ length (texts pieces)
few_pieces q [] a = omega arith
few_pieces q (p ∷ pieces) a = omega (arith, piece_has_bytes q p a.0, few_pieces q pieces a.1, length-append p.0 (texts pieces))

-- Literals.
abbrev Literal : ℕ → List ℕ → List ℕ → List ℕ → Type 0
Literal q text content rest = (written : List ℕ) × (text ≡ written ++ rest) × IsLiteral q written content

literal_told : (q : ℕ) (text content rest : List ℕ) → literal_at q text ≡ Some (content, rest) → Literal q text content rest
literal_told q text content rest h =
    let found = chained_some (content_at q) (after (q ∷ []) text) (content, rest) h in
    let begins : text ≡ q ∷ found.0 = after_told (q ∷ []) text found.0 found.1 in
    let told = content_told q (length found.0) [] found.0 rest content found.2 in
    let closed : texts told.0 ++ q ∷ rest ≡ (texts told.0 ++ q ∷ []) ++ rest = sym (append_assoc (texts told.0) (q ∷ []) rest) in (
      q ∷ (texts told.0 ++ q ∷ []),
      begins ∙ ap (λ (l : List ℕ). q ∷ l) (told.2 ∙ closed),
      (told.0, told.1, refl, told.3),
    )

literal_tells : (q : ℕ) (written content rest : List ℕ) → q ≢ 92 → IsLiteral q written content → literal_at q (written ++ rest) ≡ Some (content, rest)
literal_tells q written content rest ne i =
    let pieces = i.0 in
    let inner = texts pieces ++ q ∷ rest in
    let closed : (texts pieces ++ q ∷ []) ++ rest ≡ inner = append_assoc (texts pieces) (q ∷ []) rest in
    let few : length pieces < length inner = omega (arith, few_pieces q pieces i.1, length-append (texts pieces) (q ∷ rest)) in
    ap (λ (l : List ℕ). literal_at q (l ++ rest)) i.2
    ∙ ap (λ (l : List ℕ). literal_at q (q ∷ l)) closed
    ∙ ap (λ (o : Option (List ℕ)). option_and_then (content_at q) o) (after_byte q inner)
    ∙ content_tells q (length inner) [] rest pieces ne i.1 few
    ∙ ap (λ (l : List ℕ). Some (l, rest)) (sym i.3)

pub literals_are_texts : (q : ℕ) (text content rest : List ℕ) → q ≢ 92 → (literal_at q text ≡ Some (content, rest)) ↔ Literal q text content rest
literals_are_texts q text content rest ne = (
  λ h. literal_told q text content rest h,
  λ u. ap (λ (l : List ℕ). literal_at q l) u.1 ∙ literal_tells q u.0 content rest ne u.2,
)
