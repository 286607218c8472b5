-- Custom sections that are skipped one after the other.
use Rattle.std.proofs.Common.{◌≡◌, ◌<◌, ℕ, zero, suc, refl, arith, true, false, Ok, Err}
use Rattle.ca_base.specs.Span.{Span}
use Rattle.ca_base.specs.declared.refusal.Refusal.{Refusal}
use Rattle.ca_base.specs.Grammar.{read, first_byte, next_byte}
use Rattle.ca_base.specs.Items.{sized, custom, is_byte}
use Rattle.wasm_code_reader.specs.declared.fault.ModuleWhy.{ModuleWhy}
use Rattle.wasm_code_reader.specs.Reasons.{numbers, reasons}
use Rattle.wasm_reader.specs.Binary.{customs_in}

-- no more are looked for
pub customs_none : (n : ℕ) (s : Span ModuleWhy) → n ≡ 0 → read (customs_in n) s ≡ Ok (tt, s)
unfolding customs_in
customs_none zero s h = refl
customs_none (suc n) s h = cc

-- something else comes next
pub customs_stop : (n : ℕ) (s : Span ModuleWhy) → is_byte 0 (next_byte s.bytes) ≡ false → read (customs_in n) s ≡ Ok (tt, s)
unfolding customs_in
customs_stop zero s h = refl
customs_stop (suc n) s h = rw h refl

-- one is skipped
pub customs_go : (n k id : ℕ) (s u t : Span ModuleWhy) → n ≡ suc k → is_byte 0 (next_byte s.bytes) ≡ true → first_byte s s.bytes ≡ Ok (id, u) → read (sized numbers reasons (custom numbers)) u ≡ Ok (tt, t) → read (customs_in n) s ≡ read (customs_in k) t
unfolding customs_in
customs_go zero k id s u t h i b r = cc
customs_go (suc m) k id s u t h i b r =
    let e : m ≡ k = cc in
    rw (i, b, r, e) (refl {a = read (customs_in k) t})

-- there is no byte
pub customs_short : (n : ℕ) (s : Span ModuleWhy) (e : Refusal ModuleWhy) → 0 < n → is_byte 0 (next_byte s.bytes) ≡ true → first_byte s s.bytes ≡ Err e → read (customs_in n) s ≡ Err e
unfolding customs_in
customs_short zero s e h i b = absurd (omega arith)
customs_short (suc m) s e h i b = rw (i, b) refl

-- one is refused
pub customs_refused : (n id : ℕ) (s u : Span ModuleWhy) (e : Refusal ModuleWhy) → 0 < n → is_byte 0 (next_byte s.bytes) ≡ true → first_byte s s.bytes ≡ Ok (id, u) → read (sized numbers reasons (custom numbers)) u ≡ Err e → read (customs_in n) s ≡ Err e
unfolding customs_in
customs_refused zero id s u e h i b r = absurd (omega arith)
customs_refused (suc m) id s u e h i b r = rw (i, b, r) refl
