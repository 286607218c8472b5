-- Numbers that are written are read back.
use Rattle.std.proofs.Common.{◌≡◌, ℕ, zero, suc, ◌+◌, ◌-◌, ◌/◌, ◌%◌, ◌<◌, ◌≤◌, ◌++◌, List, [], ◌∷◌, length, refl, ap, Ok, arith, Bool, ℤ, pos, negsuc, ◌+ℤ◌, ◌*ℤ◌, true, false, inl, inr}
use Rattle.std.proofs.lemmas.Int.{ints}
use Rattle.std.proofs.lemmas.Bool.{cases_lt}
use Rattle.ca_base.specs.Grammar.{read}
use Rattle.ca_base.specs.Items.{unsigned, signed}
use Rattle.ca_base.specs.Numbers.{reach}
use Rattle.ca_base.proofs.Leb.{unsigned_last, unsigned_ends as read_ends, unsigned_goes as read_goes, signed_low, signed_high, signed_ends_low, signed_ends_high, signed_goes as read_signed_goes}
use Rattle.wasm_code_reader.specs.declared.fault.ModuleWhy.{ModuleWhy}
use Rattle.wasm_code_reader.specs.Reasons.{numbers}
use Rattle.comp_make.specs.Numbers.{unsigned_in, signed_in, signed_bytes, low_bits}
use Rattle.comp_make.specs.Laws.{span, IsRead, FitsSign}
use Rattle.comp_make.proofs.Leb.{unsigned_ends, unsigned_goes, signed_ends, signed_goes}

-- the reading of bytes that are others too
read_of : {A : Type 0} (g : _) (x : A) (bytes others : List ℕ) → bytes ≡ others → IsRead g x others → IsRead g x bytes
read_of g x bytes others e h = rw e h

behind_byte : (at n : ℕ) (bytes : List ℕ) (past : ModuleWhy) (rest : List ℕ) → span rest (at + 1 + length bytes) past ≡ span rest (at + length (n ∷ bytes)) past
behind_byte at n bytes past rest = ap (λ (k : ℕ). span rest k past) (omega arith)

unsigned_one : (more top n : ℕ) → n < reach more top → top ≤ 128 → n < 128 → IsRead (unsigned numbers more top) n (n ∷ [])
unsigned_one zero top n h t l rest at past = unsigned_last numbers zero top n (span (n ∷ rest) at past) (span rest (at + 1) past) refl refl h
unsigned_one (suc more) top n h t l rest at past = read_ends numbers (suc more) top n (span (n ∷ rest) at past) (span rest (at + 1) past) (omega arith) refl l

unsigned_more : (more top n high : ℕ) (bytes : List ℕ) → 128 ≤ n → high ≡ n / 128 → IsRead (unsigned numbers more top) high bytes → IsRead (unsigned numbers (suc more) top) n ((128 + n % 128) ∷ bytes)
unsigned_more more top n high bytes l e h rest at past =
    let b = 128 + n % 128 in
    let same : suc more - 1 ≡ more = omega arith in
    let back : read (unsigned numbers (suc more - 1) top) (span (bytes ++ rest) (at + 1) past) ≡ Ok (high, span rest (at + length (b ∷ bytes)) past) = rw (same, ← behind_byte at b bytes past rest) (h rest (at + 1) past) in
    read_goes numbers (suc more) top b high n (span (b ∷ bytes ++ rest) at past) (span (bytes ++ rest) (at + 1) past) (span rest (at + length (b ∷ bytes)) past) (omega arith) refl (omega arith) back (omega arith)

pub unsigned_read : (more top k n : ℕ) → n < reach more top → top ≤ 128 → more < k → IsRead (unsigned numbers more top) n (unsigned_in k n)
unsigned_read more top zero n h t l = absurd (omega arith)
unsigned_read zero top (suc k) n h t l = read_of (unsigned numbers zero top) n (unsigned_in (suc k) n) (n ∷ []) (unsigned_ends (suc k) n (omega arith) (omega arith)) (unsigned_one zero top n h t (omega arith))
unsigned_read (suc more) top (suc k) n h t l = elim (cases_lt n 128) [
  | inl low ↦ read_of (unsigned numbers (suc more) top) n (unsigned_in (suc k) n) (n ∷ []) (unsigned_ends (suc k) n (omega arith) low) (unsigned_one (suc more) top n h t low)
  | inr high ↦ read_of (unsigned numbers (suc more) top) n (unsigned_in (suc k) n) ((128 + n % 128) ∷ unsigned_in k (n / 128)) (unsigned_goes (suc k) k n (omega arith) high)
      (unsigned_more more top n (n / 128) (unsigned_in k (n / 128)) high refl (unsigned_read more top k (n / 128) (omega arith) t (omega arith)))
]

-- The same of signed numbers: of numbers that are not negative, and of those that are.
abbrev signed_of : Bool → ℕ → ℤ
signed_of false n = pos n
signed_of true n = negsuc n

signed_one : (negative : Bool) (top n : ℕ) → n < top → top ≤ 64 → IsRead (signed numbers zero top) (signed_of negative n) (low_bits negative n ∷ [])
signed_one false top n h t rest at past =
    let same : n % 128 ≡ n = omega arith in
    rw same (signed_low numbers zero top n (span (n ∷ rest) at past) (span rest (at + 1) past) refl t refl h)
signed_one true top n h t rest at past =
    let b = 127 - n % 128 in
    signed_high numbers zero top b (negsuc n) (span (b ∷ rest) at past) (span rest (at + 1) past) refl t refl (omega arith) (omega arith) (omega arith) (omega (arith, ints))

signed_end : (negative : Bool) (more top n : ℕ) → n < 64 → IsRead (signed numbers (suc more) top) (signed_of negative n) (low_bits negative n ∷ [])
signed_end false more top n h rest at past =
    let same : n % 128 ≡ n = omega arith in
    rw same (signed_ends_low numbers (suc more) top n (span (n ∷ rest) at past) (span rest (at + 1) past) (omega arith) refl h)
signed_end true more top n h rest at past =
    let b = 127 - n % 128 in
    signed_ends_high numbers (suc more) top b (negsuc n) (span (b ∷ rest) at past) (span rest (at + 1) past) (omega arith) refl (omega arith) (omega arith) (omega (arith, ints))

parts : (negative : Bool) (n b : ℕ) → b ≡ 128 + low_bits negative n → signed_of negative n ≡ pos 128 *ℤ signed_of negative (n / 128) +ℤ pos (b - 128)
parts false n b e = omega (arith, ints)
parts true n b e = omega (arith, ints)

signed_more : (negative : Bool) (more top n : ℕ) (bytes : List ℕ) → IsRead (signed numbers more top) (signed_of negative (n / 128)) bytes → IsRead (signed numbers (suc more) top) (signed_of negative n) ((128 + low_bits negative n) ∷ bytes)
signed_more negative more top n bytes h rest at past =
    let b = 128 + low_bits negative n in
    let same : suc more - 1 ≡ more = omega arith in
    let back : read (signed numbers (suc more - 1) top) (span (bytes ++ rest) (at + 1) past) ≡ Ok (signed_of negative (n / 128), span rest (at + length (b ∷ bytes)) past) = rw (same, ← behind_byte at b bytes past rest) (h rest (at + 1) past) in
    read_signed_goes numbers (suc more) top b (signed_of negative (n / 128)) (signed_of negative n) (span (b ∷ bytes ++ rest) at past) (span (bytes ++ rest) (at + 1) past) (span rest (at + length (b ∷ bytes)) past) (omega arith) refl (omega arith) back (parts negative n b refl)

pub signed_read : (negative : Bool) (more top k n : ℕ) → n < reach more top → top ≤ 64 → more < k → IsRead (signed numbers more top) (signed_of negative n) (signed_in negative k n)
signed_read negative more top zero n h t l = absurd (omega arith)
signed_read negative zero top (suc k) n h t l = read_of (signed numbers zero top) (signed_of negative n) (signed_in negative (suc k) n) (low_bits negative n ∷ []) (signed_ends negative (suc k) n (omega arith) (omega arith)) (signed_one negative top n h t)
signed_read negative (suc more) top (suc k) n h t l = elim (cases_lt n 64) [
  | inl low ↦ read_of (signed numbers (suc more) top) (signed_of negative n) (signed_in negative (suc k) n) (low_bits negative n ∷ []) (signed_ends negative (suc k) n (omega arith) low) (signed_end negative more top n low)
  | inr high ↦ read_of (signed numbers (suc more) top) (signed_of negative n) (signed_in negative (suc k) n) ((128 + low_bits negative n) ∷ signed_in negative k (n / 128)) (signed_goes negative (suc k) k n (omega arith) high)
      (signed_more negative more top n (signed_in negative k (n / 128)) (signed_read negative more top k (n / 128) (omega arith) t (omega arith)))
]

pub signed_fits : (more top limit : ℕ) (n : ℤ) → reach more top ≡ limit → FitsSign limit n → top ≤ 64 → more < 10 → IsRead (signed numbers more top) n (signed_bytes n)
signed_fits more top limit (pos n) e h t l = signed_read false more top 10 n (omega arith) t l
signed_fits more top limit (negsuc n) e h t l = signed_read true more top 10 n (omega arith) t l
