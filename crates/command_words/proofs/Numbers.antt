-- Numbers of texts up to another one: what `parse` reads is what clap's parser takes, where it is small enough.
use Rattle.std.proofs.Common.{◌≡◌, ◌∙◌, ℕ, ◌^◌, ◌<◌, ◌≤◌, Bool, true, false, if◌then◌else◌, List, refl, sym, ap, arith, Result, Ok, Err}
use Rattle.std.specs.Str.Parse.{IsNumeral, digits_value, without_leading_plus, ParsesUnsigned}
use Rattle.clap.specs.Values.{Accepts}
use Rattle.clap.specs.ValueTests.{is_unsigned_in}
use Rattle.clap.specs.declared.builder.value_parser.ValueParser.TheVariants as vp
use Rattle.clap.proofs.ValueTestLemmas.{accepts-Accepts, Accepts-accepts}
use Rattle.command_words.specs.Words.{number_up_to}

abbrev value_of : List ℕ → ℕ
value_of text = digits_value 10 (without_leading_plus text)

if_taken : (b : Bool) (n : ℕ) → b ≡ true → (if b then n else 0) ≡ n
if_taken true n e = refl
if_taken false n e = cc

if_not : (b : Bool) (n : ℕ) → (b ≡ true → ⊥) → (if b then n else 0) ≡ 0
if_not true n none = absurd (none refl)
if_not false n none = refl

pub number_read : (E : Type 0) (most number : ℕ) (text : List ℕ) → most < 2 ^ 32 → (let r : Result ℕ E = Ok number in ParsesUnsigned 32 10 text r) → number ≤ most → number ≡ number_up_to most text
number_read E most number text bound parsed small =
    let within : value_of text ≤ most = omega (arith, parsed.1, small) in
    let takes : Accepts false (vp.Unsigned 0 most) text = (parsed.0.0, omega (arith, within, bound), omega arith, within) in
    parsed.1 ∙ sym (if_taken (is_unsigned_in 0 most text) (value_of text) (Accepts-accepts false (vp.Unsigned 0 most) text takes))

pub none_read : {E : Type 0} (most : ℕ) (e : E) (text : List ℕ) → most < 2 ^ 32 → (let r : Result ℕ E = Err e in ParsesUnsigned 32 10 text r) → 0 ≡ number_up_to most text
none_read most e text bound parsed =
    sym (if_not (is_unsigned_in 0 most text) (value_of text) (λ taken.
    let takes : Accepts false (vp.Unsigned 0 most) text = accepts-Accepts false (vp.Unsigned 0 most) text taken in
    parsed (takes.0, below takes.3)))
  where
    below : value_of text ≤ most → value_of text < 2 ^ 32
    below within = omega (arith, within, bound)
