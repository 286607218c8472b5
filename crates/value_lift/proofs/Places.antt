-- Bytes, characters and texts.
use Rattle.std.proofs.Common.{◌≡◌, ◌+◌, ◌-◌, ◌<◌, ◌≤◌, ℕ, true, false, List, take, drop, ap, arith, inl, inr}
use Rattle.std.proofs.lemmas.Bool.{cases_Bool, lt-ltb, le-ltb, le-leb, lt-leb, or_left, or_right, or_from, and_from, and_left, and_right}
use Rattle.std.proofs.lemmas.Str.{IsUtf8-from_is_utf8, is_utf8-from_IsUtf8}
use Rattle.std.specs.Prelude.{nat_lt, nat_le}
use Rattle.std.specs.Char.{InScalarRange, OutOfScalarRange}
use Rattle.std.specs.Str.{IsUtf8, is_utf8}
use Rattle.value_lift.specs.Bytes.{is_scalar, bytes_at}

pub bytes_between : (place count : ℕ) (memory : List ℕ) → take (place + count - place) (drop place memory) ≡ bytes_at place count memory
bytes_between place count memory =
    let e : place + count - place ≡ count = omega arith in
    ap (λ (n : ℕ). take n (drop place memory)) e

pub no_text : (bs : List ℕ) → ¬ (IsUtf8 bs) → is_utf8 bs ≡ false
no_text bs h = elim (cases_Bool (is_utf8 bs)) [ inl e ↦ absurd (h (IsUtf8-from_is_utf8 bs e)) | inr e ↦ e ]

pub some_text : (bs : List ℕ) → IsUtf8 bs → is_utf8 bs ≡ true
some_text bs h = is_utf8-from_IsUtf8 bs h

pub is_a_scalar : (c : ℕ) → InScalarRange c → is_scalar c ≡ true
is_a_scalar c (inl h) = or_left (nat_lt c 0xD800) _ (lt-ltb c 0xD800 h)
is_a_scalar c (inr h) =
    or_right (nat_lt c 0xD800) _ (and_from (nat_le 0xE000 c) (nat_le c 0x10FFFF) (le-leb 0xE000 c h.0) (le-leb c 0x10FFFF h.1))

pub is_no_scalar : (c : ℕ) → OutOfScalarRange c → is_scalar c ≡ false
is_no_scalar c (inl h) =
    or_from (nat_lt c 0xD800) _ (le-ltb c 0xD800 h.0) (and_left (nat_le 0xE000 c) (nat_le c 0x10FFFF) (lt-leb 0xE000 c (let k : c < 0xE000 = omega (arith, h.1) in k)))
is_no_scalar c (inr h) =
    or_from (nat_lt c 0xD800) _ (le-ltb c 0xD800 (let k : 0xD800 ≤ c = omega (arith, h) in k))
    (and_right (nat_le 0xE000 c) (nat_le c 0x10FFFF) (lt-leb c 0x10FFFF (let k : 0x10FFFF < c = omega (arith, h) in k)))
