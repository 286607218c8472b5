-- Texts of digits, and the numbers that they stand for: amounts of fuel, and numbers of calls.
use Rattle.std.proofs.Common.{◌≡◌, ◌↔◌, ◌==◌, ℕ, ◌≤◌, List, [], ◌∷◌, length, Bool, true, false, not, Option, Some, None, Result, Ok, Err, nat_eq, nat_le, refl, sym, ap, ◌∙◌, subst, arith}
use Rattle.std.specs.Bool.{if◌then◌else◌}
use Rattle.std.specs.List.{list_all}
use Rattle.std.proofs.lemmas.Bool.{and_parts, and_from, leb-true, le-leb, eqb-false, ne_eqb, not-true, not_from_false}
use Rattle.script_reader.specs.declared.fault.ScriptWhy.{ScriptWhy}
use Rattle.script_reader.specs.declared.fault.ScriptWhy.TheVariants as why
use Rattle.script_reader.specs.Script.{is_digit, number, number_up_to, is_number, checked_fuel, fuel_of, fuel_limit, checked_call, cancel_of}
use Rattle.script_reader.specs.Syntax.{IsNumber, IsFuelOf, IsCancelOf}
use Rattle.script_reader.proofs.Fronts.{Pass}
use Rattle.script_reader.proofs.Cases.{ok_inj, some_inj, passed_some, passed_ok, failed_ok}

pub all_pass : (p : ℕ → Bool) (xs : List ℕ) → list_all p xs ≡ true → Pass p xs
all_pass p [] h = tt
all_pass p (x ∷ xs) h =
    let both = and_parts (p x) (list_all p xs) h in
    (both.0, all_pass p xs both.1)

pub pass_all : (p : ℕ → Bool) (xs : List ℕ) → Pass p xs → list_all p xs ≡ true
pass_all p [] a = refl
pass_all p (x ∷ xs) a = and_from (p x) (list_all p xs) a.0 (pass_all p xs a.1)

pub some_length : (xs : List ℕ) → nat_eq (length xs) 0 ≡ false → 1 ≤ length xs
some_length xs h =
    let other = eqb-false (length xs) 0 h in
    omega (arith, other)

pub length_some : (xs : List ℕ) → 1 ≤ length xs → nat_eq (length xs) 0 ≡ false
length_some xs h = ne_eqb (length xs) 0 (λ e. omega (arith, e, h))

-- digits and nothing else
pub digits_told : (text : List ℕ) → is_number text ≡ true → IsNumber text (number text)
digits_told text h =
    let both = and_parts (not (nat_eq (length text) 0)) (list_all is_digit text) h in
    (some_length text (not-true _ both.0), all_pass is_digit text both.1, refl)

pub digits_tell : (text : List ℕ) (n : ℕ) → IsNumber text n → is_number text ≡ true
digits_tell text n i =
    and_from (not (nat_eq (length text) 0)) (list_all is_digit text) (not_from_false _ (length_some text i.0)) (pass_all is_digit text i.1)

-- a number that is not too large
pub up_to_told : (most n : ℕ) (digits : List ℕ) → number_up_to most digits ≡ Some n → (n ≡ number digits) × (n ≤ most)
up_to_told most n digits h =
    let both = passed_some (nat_le (number digits) most) (Some (number digits)) n h in
    let same : number digits ≡ n = some_inj both.1 in
    let small : number digits ≤ most = leb-true (number digits) most both.0 in
    (sym same, subst (λ k. k ≤ most) same small)

pub up_to_tell : (most n : ℕ) (digits : List ℕ) → n ≡ number digits → n ≤ most → number_up_to most digits ≡ Some n
up_to_tell most n digits same small =
    let low : number digits ≤ most = subst (λ k. k ≤ most) same small in
    rw (le-leb (number digits) most low, same) refl

-- a number from 1 to a limit, and the reason where it is out of range
abbrev pub checked : ScriptWhy → Option ℕ → Result ℕ ScriptWhy
checked w None = Err w
checked w (Some n) = if n == 0 then Err w else Ok n

abbrev pub within : ScriptWhy → ℕ → List ℕ → Result ℕ ScriptWhy
within w most text = if is_number text then checked w (number_up_to most text) else Err why.Form

abbrev pub IsWithin : ℕ → List ℕ → ℕ → Type 0
IsWithin most text n = IsNumber text n × (1 ≤ n) × (n ≤ most)

range_told : (w : ScriptWhy) (o : Option ℕ) (n : ℕ) → checked w o ≡ Ok n → (o ≡ Some n) × (1 ≤ n)
range_told w None n h = cc
range_told w (Some m) n h =
    let both = failed_ok (nat_eq m 0) (Ok m) w n h in
    let same : m ≡ n = ok_inj both.1 in
    let some = eqb-false m 0 both.0 in
    let large : 1 ≤ m = omega (arith, some) in
    (ap (λ (k : ℕ). Some k) same, subst (λ k. 1 ≤ k) same large)

range_tells : (w : ScriptWhy) (n : ℕ) → 1 ≤ n → checked w (Some n) ≡ Ok n
range_tells w n h = rw (ne_eqb n 0 (λ e. omega (arith, e, h))) refl

within_told : (w : ScriptWhy) (most : ℕ) (text : List ℕ) (n : ℕ) → within w most text ≡ Ok n → IsWithin most text n
within_told w most text n h =
    let digits = passed_ok (is_number text) (checked w (number_up_to most text)) why.Form n h in
    let range = range_told w (number_up_to most text) n digits.1 in
    let small = up_to_told most n text range.0 in
    let is = digits_told text digits.0 in
    ((is.0, is.1, small.0), range.1, small.1)

within_tells : (w : ScriptWhy) (most : ℕ) (text : List ℕ) (n : ℕ) → IsWithin most text n → within w most text ≡ Ok n
within_tells w most text n i =
    rw (digits_tell text n i.0, up_to_tell most n text i.0.2 i.2) (range_tells w n i.1)

-- an amount of fuel
same_fuel : (o : Option ℕ) → checked_fuel o ≡ checked why.Fuel o
same_fuel None = refl
same_fuel (Some n) = refl

pub fuel_within : (text : List ℕ) → fuel_of text ≡ within why.Fuel fuel_limit text
fuel_within text = ap (λ (r : Result ℕ ScriptWhy). if is_number text then r else Err why.Form) (same_fuel (number_up_to fuel_limit text))

pub fuel_is_a_line : (text : List ℕ) (n : ℕ) → (fuel_of text ≡ Ok n) ↔ IsFuelOf text n
fuel_is_a_line text n = (
  λ h. within_told why.Fuel fuel_limit text n (sym (fuel_within text) ∙ h),
  λ i. fuel_within text ∙ within_tells why.Fuel fuel_limit text n i,
)

-- the number of a call
same_call : (o : Option ℕ) → checked_call o ≡ checked why.CallNumber o
same_call None = refl
same_call (Some n) = refl

pub cancel_within : (calls : ℕ) (text : List ℕ) → cancel_of calls text ≡ within why.CallNumber calls text
cancel_within calls text = ap (λ (r : Result ℕ ScriptWhy). if is_number text then r else Err why.Form) (same_call (number_up_to calls text))

pub cancel_is_a_line : (calls : ℕ) (text : List ℕ) (n : ℕ) → (cancel_of calls text ≡ Ok n) ↔ IsCancelOf calls text n
cancel_is_a_line calls text n = (
  λ h. within_told why.CallNumber calls text n (sym (cancel_within calls text) ∙ h),
  λ i. cancel_within calls text ∙ within_tells why.CallNumber calls text n i,
)
