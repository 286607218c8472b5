-- How long the longest front of a text that is UTF-8 is.
use Rattle.std.proofs.Common.{◌≡◌, ℕ, List, length, true, false, nat_eq, arith}
use Rattle.std.proofs.lemmas.Bool.{eq-eqb, ne_eqb}
use Rattle.std.proofs.lemmas.Str.{utf8_valid_len-IsUtf8, utf8_valid_len-IsValidUpTo}
use Rattle.std.specs.Str.{IsUtf8, IsValidUpTo}
use Rattle.std.specs.Str.Lossy.{utf8_valid_len}

pub is_whole : (bytes : List ℕ) → IsUtf8 bytes → nat_eq (utf8_valid_len bytes) (length bytes) ≡ true
is_whole bytes u = eq-eqb _ _ (utf8_valid_len-IsUtf8 bytes u)

pub is_cut : (bytes : List ℕ) (n : ℕ) → IsValidUpTo bytes n → nat_eq (utf8_valid_len bytes) (length bytes) ≡ false
is_cut bytes n v =
    let short = v.short in
    let there = utf8_valid_len-IsValidUpTo bytes n v in
    ne_eqb _ _ (λ h. omega arith)
