-- Numbers that are read byte by byte.
use Rattle.std.proofs.Common.{◌≡◌, ℕ, zero, suc, ◌+◌, ◌-◌, ◌*◌, ◌<◌, ◌≤◌, refl, ap, sym, ◌∙◌, Bool, true, false, cond, Ok, Err, arith, ℤ, pos, ◌+ℤ◌, ◌-ℤ◌, ◌*ℤ◌}
use Rattle.std.proofs.lemmas.Bool.{lt-ltb, le-ltb, le-leb, lt-leb}
use Rattle.ca_base.specs.Span.{Span}
use Rattle.ca_base.specs.declared.refusal.Refusal.{Refusal}
use Rattle.ca_base.specs.Grammar.{read, first_byte}
use Rattle.ca_base.specs.Numbers.{reach}
use Rattle.ca_base.specs.Items.{NumberReasons, last_byte, unsigned, signed}

-- seven bits more
pub reach_more : (more less top : ℕ) → more ≡ less + 1 → reach more top ≡ 128 * reach less top
reach_more zero less top h = absurd (omega arith)
reach_more (suc more) less top h =
    let same : more ≡ less = omega arith in
    rw same refl

pub reach_none : (more top : ℕ) → more ≡ 0 → reach more top ≡ top
reach_none zero top h = refl
reach_none (suc more) top h = cc

pub reach_least : (more top : ℕ) → 1 ≤ top → 1 ≤ reach more top
reach_least zero top h = h
reach_least (suc more) top h = let least = reach_least more top h in omega arith

pub reach_byte : (more top : ℕ) → 0 < more → 1 ≤ top → 128 ≤ reach more top
reach_byte zero top z h = absurd (omega arith)
reach_byte (suc more) top z h = let least = reach_least more top h in omega arith

-- the last byte that a number can have
pub unsigned_last : {W : Type 0} (numbers : NumberReasons W) (more top b : ℕ) (s t : Span W) → more ≡ 0 → first_byte s s.bytes ≡ Ok (b, t) → b < top → read (unsigned numbers more top) s ≡ Ok (b, t)
unfolding unsigned last_byte
unsigned_last numbers zero top b s t z h l = rw (h, lt-ltb _ _ l) refl
unsigned_last numbers (suc more) top b s t z h l = cc

-- a last byte that is too large
pub unsigned_past : {W : Type 0} (numbers : NumberReasons W) (more top b : ℕ) (s t : Span W) → more ≡ 0 → first_byte s s.bytes ≡ Ok (b, t) → top ≤ b → read (unsigned numbers more top) s ≡ Err (record { place = s.at; why = numbers.leb })
unfolding unsigned last_byte
unsigned_past numbers zero top b s t z h l = rw (h, le-ltb _ _ l) refl
unsigned_past numbers (suc more) top b s t z h l = cc

-- no byte is left
pub unsigned_left : {W : Type 0} (numbers : NumberReasons W) (more top : ℕ) (s : Span W) (e : Refusal W) → first_byte s s.bytes ≡ Err e → read (unsigned numbers more top) s ≡ Err e
unfolding unsigned last_byte
unsigned_left numbers zero top s e h = rw h refl
unsigned_left numbers (suc more) top s e h = rw h refl

-- a byte that ends the number
pub unsigned_ends : {W : Type 0} (numbers : NumberReasons W) (more top b : ℕ) (s t : Span W) → 0 < more → first_byte s s.bytes ≡ Ok (b, t) → b < 128 → read (unsigned numbers more top) s ≡ Ok (b, t)
unfolding unsigned
unsigned_ends numbers zero top b s t z h l = absurd (omega arith)
unsigned_ends numbers (suc more) top b s t z h l = rw (h, lt-ltb _ _ l) refl

-- a byte that another one follows
pub unsigned_goes : {W : Type 0} (numbers : NumberReasons W) (more top b high n : ℕ) (s t u : Span W) → 0 < more → first_byte s s.bytes ≡ Ok (b, t) → 128 ≤ b → read (unsigned numbers (more - 1) top) t ≡ Ok (high, u) → n ≡ 128 * high + (b - 128) → read (unsigned numbers more top) s ≡ Ok (n, u)
unfolding unsigned
unsigned_goes numbers zero top b high n s t u z h l r e = absurd (omega arith)
unsigned_goes numbers (suc more) top b high n s t u z h l r e =
    let same : suc more - 1 ≡ more = omega arith in
    rw (h, le-ltb _ _ l, rw same at r, e) refl

-- what follows is refused
pub unsigned_refused : {W : Type 0} (numbers : NumberReasons W) (more top b : ℕ) (s t : Span W) (e : Refusal W) → 0 < more → first_byte s s.bytes ≡ Ok (b, t) → 128 ≤ b → read (unsigned numbers (more - 1) top) t ≡ Err e → read (unsigned numbers more top) s ≡ Err e
unfolding unsigned
unsigned_refused numbers zero top b s t e z h l r = absurd (omega arith)
unsigned_refused numbers (suc more) top b s t e z h l r =
    let same : suc more - 1 ≡ more = omega arith in
    rw (h, le-ltb _ _ l, rw same at r) refl

then_is : {A : Type 0} (b : Bool) (x y : A) → b ≡ true → cond b x y ≡ x
then_is true x y h = refl
then_is false x y h = cc

else_is : {A : Type 0} (b : Bool) (x y : A) → b ≡ false → cond b x y ≡ y
else_is true x y h = cc
else_is false x y h = refl

-- The same of signed numbers.
pub signed_low : {W : Type 0} (numbers : NumberReasons W) (more top b : ℕ) (s t : Span W) → more ≡ 0 → top ≤ 64 → first_byte s s.bytes ≡ Ok (b, t) → b < top → read (signed numbers more top) s ≡ Ok (pos b, t)
unfolding signed last_byte
signed_low numbers zero top b s t z m h l =
    let low : b < 64 = omega arith in
    rw (h, lt-ltb _ _ l, lt-ltb _ _ low) refl
signed_low numbers (suc more) top b s t z m h l = cc

pub signed_high : {W : Type 0} (numbers : NumberReasons W) (more top b : ℕ) (n : ℤ) (s t : Span W) → more ≡ 0 → top ≤ 64 → first_byte s s.bytes ≡ Ok (b, t) → top ≤ b → 128 - top ≤ b → b < 128 → n ≡ pos b -ℤ pos 128 → read (signed numbers more top) s ≡ Ok (n, t)
unfolding signed last_byte
signed_high numbers zero top b n s t z m h k l i e =
    let high : 64 ≤ b = omega arith in
    rw (h, le-ltb _ _ k, le-leb _ _ l, lt-ltb _ _ i, le-ltb _ _ high) (ap (λ (m : ℤ). Ok (m, t)) (sym e))
signed_high numbers (suc more) top b n s t z m h k l i e = cc

pub signed_between : {W : Type 0} (numbers : NumberReasons W) (more top b : ℕ) (s t : Span W) → more ≡ 0 → first_byte s s.bytes ≡ Ok (b, t) → top ≤ b → b < 128 - top → read (signed numbers more top) s ≡ Err (record { place = s.at; why = numbers.leb })
unfolding signed last_byte
signed_between numbers zero top b s t z h k l = rw (h, le-ltb _ _ k, lt-leb _ _ l) refl
signed_between numbers (suc more) top b s t z h k l = cc

pub signed_past : {W : Type 0} (numbers : NumberReasons W) (more top b : ℕ) (s t : Span W) → more ≡ 0 → top ≤ 64 → first_byte s s.bytes ≡ Ok (b, t) → 128 ≤ b → read (signed numbers more top) s ≡ Err (record { place = s.at; why = numbers.leb })
unfolding signed last_byte
signed_past numbers zero top b s t z m h l =
    let above : top ≤ b = omega arith in
    let k : 128 - top ≤ b = omega arith in
    rw (h, le-ltb _ _ above, le-leb _ _ k, le-ltb _ _ l) refl
signed_past numbers (suc more) top b s t z m h l = cc

pub signed_left : {W : Type 0} (numbers : NumberReasons W) (more top : ℕ) (s : Span W) (e : Refusal W) → first_byte s s.bytes ≡ Err e → read (signed numbers more top) s ≡ Err e
unfolding signed last_byte
signed_left numbers zero top s e h = rw h refl
signed_left numbers (suc more) top s e h = rw h refl

pub signed_ends_low : {W : Type 0} (numbers : NumberReasons W) (more top b : ℕ) (s t : Span W) → 0 < more → first_byte s s.bytes ≡ Ok (b, t) → b < 64 → read (signed numbers more top) s ≡ Ok (pos b, t)
unfolding signed
signed_ends_low numbers zero top b s t z h l = absurd (omega arith)
signed_ends_low numbers (suc more) top b s t z h l =
    let below : b < 128 = omega arith in
    rw (h, lt-ltb _ _ below, lt-ltb _ _ l) refl

pub signed_ends_high : {W : Type 0} (numbers : NumberReasons W) (more top b : ℕ) (n : ℤ) (s t : Span W) → 0 < more → first_byte s s.bytes ≡ Ok (b, t) → 64 ≤ b → b < 128 → n ≡ pos b -ℤ pos 128 → read (signed numbers more top) s ≡ Ok (n, t)
unfolding signed
signed_ends_high numbers zero top b n s t z h k l e = absurd (omega arith)
signed_ends_high numbers (suc more) top b n s t z h k l e = rw h (then_is _ _ _ (lt-ltb _ _ l) ∙ ap (λ (m : ℤ). Ok (m, t)) (else_is _ _ _ (le-ltb _ _ k) ∙ sym e))

pub signed_goes : {W : Type 0} (numbers : NumberReasons W) (more top b : ℕ) (high n : ℤ) (s t u : Span W) → 0 < more → first_byte s s.bytes ≡ Ok (b, t) → 128 ≤ b → read (signed numbers (more - 1) top) t ≡ Ok (high, u) → n ≡ pos 128 *ℤ high +ℤ pos (b - 128) → read (signed numbers more top) s ≡ Ok (n, u)
unfolding signed
signed_goes numbers zero top b high n s t u z h l r e = absurd (omega arith)
signed_goes numbers (suc more) top b high n s t u z h l r e =
    let same : suc more - 1 ≡ more = omega arith in
    rw (h, le-ltb _ _ l, rw same at r, e) refl

pub signed_refused : {W : Type 0} (numbers : NumberReasons W) (more top b : ℕ) (s t : Span W) (e : Refusal W) → 0 < more → first_byte s s.bytes ≡ Ok (b, t) → 128 ≤ b → read (signed numbers (more - 1) top) t ≡ Err e → read (signed numbers more top) s ≡ Err e
unfolding signed
signed_refused numbers zero top b s t e z h l r = absurd (omega arith)
signed_refused numbers (suc more) top b s t e z h l r =
    let same : suc more - 1 ≡ more = omega arith in
    rw (h, le-ltb _ _ l, rw same at r) refl
