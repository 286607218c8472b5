-- Numbers that are written byte by byte.
use Rattle.std.proofs.Common.{◌≡◌, ℕ, zero, suc, ◌+◌, ◌-◌, ◌/◌, ◌%◌, ◌<◌, ◌≤◌, ◌++◌, Bool, List, [], ◌∷◌, refl, ap, sym, ◌∙◌, append_assoc, arith, ℤ, pos, negsuc, ◌<ℤ◌, ◌≤ℤ◌, true, false}
use Rattle.std.proofs.lemmas.Bool.{lt-ltb, le-ltb}
use Rattle.std.proofs.lemmas.List.{append-nil}
use Rattle.std.proofs.lemmas.Int.{ints}
use Rattle.std.specs.Int.RustNames.{unsigned_abs}
use Rattle.comp_make.specs.Numbers.{unsigned_in, signed_in, signed_bytes, low_bits}

-- the last byte
pub unsigned_ends : (more n : ℕ) → 0 < more → n < 128 → unsigned_in more n ≡ n ∷ []
unfolding unsigned_in
unsigned_ends zero n z h = absurd (omega arith)
unsigned_ends (suc more) n z h = rw (lt-ltb _ _ h) refl

-- a byte that others follow
pub unsigned_goes : (more less n : ℕ) → more ≡ less + 1 → 128 ≤ n → unsigned_in more n ≡ (128 + n % 128) ∷ unsigned_in less (n / 128)
unfolding unsigned_in
unsigned_goes zero less n e h = absurd (omega arith)
unsigned_goes (suc more) less n e h =
    let same : more ≡ less = omega arith in
    rw (le-ltb _ _ h, same) refl

pub unsigned_last : (i n : ℕ) (out now all : List ℕ) → i < 10 → n < 128 → now ≡ out ++ n ∷ [] → out ++ unsigned_in (10 - i) n ≡ all → now ≡ all
unsigned_last i n out now all l h e k = e ∙ ap (λ (bytes : List ℕ). out ++ bytes) (sym (unsigned_ends (10 - i) n (omega arith) h)) ∙ k

-- behind a byte that others follow, what is left to write is what was left
pub unsigned_step : (i n : ℕ) (out now : List ℕ) → i < 10 → 128 ≤ n → now ≡ out ++ (128 + n % 128) ∷ [] → now ++ unsigned_in (10 - (i + 1)) (n / 128) ≡ out ++ unsigned_in (10 - i) n
unsigned_step i n out now l h e =
    rw (e, append_assoc, unsigned_goes (10 - i) (10 - (i + 1)) n (omega arith) h) refl

-- nothing is left to write
pub unsigned_over : (left n : ℕ) (out all : List ℕ) → left ≡ 0 → out ++ unsigned_in left n ≡ all → out ≡ all
unfolding unsigned_in
unsigned_over zero n out all z h = sym (append-nil out) ∙ h
unsigned_over (suc left) n out all z h = cc

-- The same of signed numbers.
pub signed_ends : (negative : Bool) (more n : ℕ) → 0 < more → n < 64 → signed_in negative more n ≡ low_bits negative n ∷ []
unfolding signed_in
signed_ends negative zero n z h = absurd (omega arith)
signed_ends negative (suc more) n z h = rw (lt-ltb _ _ h) refl

pub signed_goes : (negative : Bool) (more less n : ℕ) → more ≡ less + 1 → 64 ≤ n → signed_in negative more n ≡ (128 + low_bits negative n) ∷ signed_in negative less (n / 128)
unfolding signed_in
signed_goes negative zero less n e h = absurd (omega arith)
signed_goes negative (suc more) less n e h =
    let same : more ≡ less = omega arith in
    rw (le-ltb _ _ h, same) refl

pub signed_last : (negative : Bool) (i n : ℕ) (out now all : List ℕ) → i < 10 → n < 64 → now ≡ out ++ low_bits negative n ∷ [] → out ++ signed_in negative (10 - i) n ≡ all → now ≡ all
signed_last negative i n out now all l h e k = e ∙ ap (λ (bytes : List ℕ). out ++ bytes) (sym (signed_ends negative (10 - i) n (omega arith) h)) ∙ k

pub signed_step : (negative : Bool) (i n : ℕ) (out now : List ℕ) → i < 10 → 64 ≤ n → now ≡ out ++ (128 + low_bits negative n) ∷ [] → now ++ signed_in negative (10 - (i + 1)) (n / 128) ≡ out ++ signed_in negative (10 - i) n
signed_step negative i n out now l h e =
    rw (e, append_assoc, signed_goes negative (10 - i) (10 - (i + 1)) n (omega arith) h) refl

pub signed_over : (negative : Bool) (left n : ℕ) (out all : List ℕ) → left ≡ 0 → out ++ signed_in negative left n ≡ all → out ≡ all
unfolding signed_in
signed_over negative zero n out all z h = sym (append-nil out) ∙ h
signed_over negative (suc left) n out all z h = cc

-- numbers that are not negative, and those that are
pub signed_natural : (n : ℤ) (size : ℕ) → pos 0 ≤ℤ n → size ≡ unsigned_abs n → signed_bytes n ≡ signed_in false 10 size
signed_natural (pos n) size h e = rw e refl
signed_natural (negsuc n) size h e = absurd (omega (arith, ints))

pub signed_negative : (n : ℤ) (size : ℕ) → n <ℤ pos 0 → size ≡ unsigned_abs n → signed_bytes n ≡ signed_in true 10 (size - 1)
signed_negative (pos n) size h e = absurd (omega (arith, ints))
signed_negative (negsuc n) size h e = let same : size - 1 ≡ n = omega arith in rw same refl
