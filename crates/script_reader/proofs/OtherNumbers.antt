-- A text is refused as an amount of fuel, or as the number of a call, exactly where it is none.
use Rattle.std.proofs.Common.{◌≡◌, ◌⊎◌, ◌↔◌, inl, inr, ℕ, ◌<◌, List, true, Option, Some, None, Result, Ok, Err, nat_eq, nat_le, refl, sym, ◌∙◌, subst, arith}
use Rattle.std.proofs.lemmas.Bool.{cases_Bool, eqb-true, leb-false, lt-leb, cond-true, cond-false}
use Rattle.script_reader.specs.declared.fault.ScriptWhy.{ScriptWhy}
use Rattle.script_reader.specs.declared.fault.ScriptWhy.TheVariants as why
use Rattle.script_reader.specs.Script.{number, number_up_to, is_number, fuel_of, fuel_limit, cancel_of}
use Rattle.script_reader.specs.Syntax.{IsNumber, IsNoFuelOf, IsNoCancelOf}
use Rattle.script_reader.proofs.Cases.{err_inj, passed_err, failed_err, passed_none}
use Rattle.script_reader.proofs.Numbers.{digits_told, digits_tell, up_to_told, up_to_tell, checked, within, fuel_within, cancel_within}

-- a number that is too large
pub none_told : (most : ℕ) (digits : List ℕ) → number_up_to most digits ≡ None → most < number digits
none_told most digits h = leb-false (number digits) most (passed_none (nat_le (number digits) most) (number digits) h)

none_tells : (most n : ℕ) (digits : List ℕ) → n ≡ number digits → most < n → number_up_to most digits ≡ None
none_tells most n digits same large =
    let high : most < number digits = subst (λ k. most < k) same large in
    cond-false (nat_le (number digits) most) (Some (number digits)) None (lt-leb (number digits) most high)

-- no number, and one out of range
abbrev IsNone : List ℕ → Type 0
IsNone text = (n : ℕ) → IsNumber text n → ⊥

abbrev IsOutside : ℕ → List ℕ → Type 0
IsOutside most text = (n : ℕ) × IsNumber text n × ((n ≡ 0) ⊎ (most < n))

range_refused : (v : ScriptWhy) (most : ℕ) (text : List ℕ) (o : Option ℕ) (w : ScriptWhy) → is_number text ≡ true → number_up_to most text ≡ o → checked v o ≡ Err w → IsOutside most text × (v ≡ w)
range_refused v most text None w d e h = ((number text, digits_told text d, inr (none_told most text e)), err_inj h)
range_refused v most text (Some n) w d e h =
    elim (failed_err (nat_eq n 0) (Ok n) v w h) [
      | inl both ↦
          let small = up_to_told most n text e in
          let none : number text ≡ 0 = sym small.0 ∙ eqb-true n 0 both.0 in
          ((number text, digits_told text d, inl none), both.1)
      | inr both ↦ let other : ◌≡◌ {A = Result ℕ ScriptWhy} (Ok n) (Err w) = both.1 in cc
    ]

-- a text that is refused
refused : (v : ScriptWhy) (most : ℕ) (text : List ℕ) (w : ScriptWhy) → within v most text ≡ Err w → (IsOutside most text × (v ≡ w)) ⊎ ((why.Form ≡ w) × IsNone text)
refused v most text w h =
    elim (passed_err (is_number text) (checked v (number_up_to most text)) why.Form w h) [
      | inl both ↦ inl (range_refused v most text (number_up_to most text) w both.0 refl both.1)
      | inr both ↦
          let is : IsNone text = λ n i. (let is_one = digits_tell text n i in let never = both.0 in cc) in
          inr (both.1, is)
    ]

no_number : (v : ScriptWhy) (most : ℕ) (text : List ℕ) → IsNone text → within v most text ≡ Err why.Form
no_number v most text never =
    elim (cases_Bool (is_number text)) [
      | inl is_one ↦ absurd (never (number text) (digits_told text is_one))
      | inr e ↦ cond-false (is_number text) (checked v (number_up_to most text)) (Err why.Form) e
    ]

zero_is_outside : (v : ScriptWhy) (most : ℕ) (text : List ℕ) (n : ℕ) → IsNumber text n → n ≡ 0 → checked v (number_up_to most text) ≡ Err v
zero_is_outside v most text n i z =
    let some : number_up_to most text ≡ Some 0 = up_to_tell most 0 text (sym z ∙ i.2) (omega arith) in
    rw some refl

out_of_range : (v : ScriptWhy) (most : ℕ) (text : List ℕ) → IsOutside most text → within v most text ≡ Err v
out_of_range v most text o =
    let range : checked v (number_up_to most text) ≡ Err v =
    elim o.2 [
      | inl z ↦ zero_is_outside v most text o.0 o.1 z
      | inr large ↦ rw (none_tells most o.0 text o.1.2 large) refl
    ] in
    cond-true (is_number text) (checked v (number_up_to most text)) (Err why.Form) (digits_tell text o.0 o.1) ∙ range

-- an amount of fuel that is refused
fuel_refused : (text : List ℕ) (w : ScriptWhy) → fuel_of text ≡ Err w → IsNoFuelOf text w
fuel_refused text w h =
    elim (refused why.Fuel fuel_limit text w (sym (fuel_within text) ∙ h)) [
      | inl outside ↦
          let is : IsNoFuelOf text why.Fuel = outside.0 in
          subst (λ (v : ScriptWhy). IsNoFuelOf text v) outside.1 is
      | inr none ↦
          let is : IsNoFuelOf text why.Form = none.1 in
          subst (λ (v : ScriptWhy). IsNoFuelOf text v) none.0 is
    ]

refuses_fuel : (text : List ℕ) (w : ScriptWhy) → IsNoFuelOf text w → fuel_of text ≡ Err w
refuses_fuel text why.Form never = fuel_within text ∙ no_number why.Fuel fuel_limit text never
refuses_fuel text why.Fuel i = fuel_within text ∙ out_of_range why.Fuel fuel_limit text i
refuses_fuel text why.Size i = absurd i
refuses_fuel text why.Utf8 i = absurd i
refuses_fuel text why.CallNumber i = absurd i
refuses_fuel text why.Export i = absurd i
refuses_fuel text why.HostType i = absurd i
refuses_fuel text why.Value i = absurd i

pub other_fuel_is_refused : (text : List ℕ) (w : ScriptWhy) → (fuel_of text ≡ Err w) ↔ IsNoFuelOf text w
other_fuel_is_refused text w = (λ h. fuel_refused text w h, λ i. refuses_fuel text w i)

-- the number of a call that is refused
cancel_refused : (calls : ℕ) (text : List ℕ) (w : ScriptWhy) → cancel_of calls text ≡ Err w → IsNoCancelOf calls text w
cancel_refused calls text w h =
    elim (refused why.CallNumber calls text w (sym (cancel_within calls text) ∙ h)) [
      | inl outside ↦
          let is : IsNoCancelOf calls text why.CallNumber = outside.0 in
          subst (λ (v : ScriptWhy). IsNoCancelOf calls text v) outside.1 is
      | inr none ↦
          let is : IsNoCancelOf calls text why.Form = none.1 in
          subst (λ (v : ScriptWhy). IsNoCancelOf calls text v) none.0 is
    ]

refuses_cancel : (calls : ℕ) (text : List ℕ) (w : ScriptWhy) → IsNoCancelOf calls text w → cancel_of calls text ≡ Err w
refuses_cancel calls text why.Form never = cancel_within calls text ∙ no_number why.CallNumber calls text never
refuses_cancel calls text why.CallNumber i = cancel_within calls text ∙ out_of_range why.CallNumber calls text i
refuses_cancel calls text why.Size i = absurd i
refuses_cancel calls text why.Utf8 i = absurd i
refuses_cancel calls text why.Fuel i = absurd i
refuses_cancel calls text why.Export i = absurd i
refuses_cancel calls text why.HostType i = absurd i
refuses_cancel calls text why.Value i = absurd i

pub other_cancels_are_refused : (calls : ℕ) (text : List ℕ) (w : ScriptWhy) → (cancel_of calls text ≡ Err w) ↔ IsNoCancelOf calls text w
other_cancels_are_refused calls text w = (λ h. cancel_refused calls text w h, λ i. refuses_cancel calls text w i)
