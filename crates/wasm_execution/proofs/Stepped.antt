-- What an instruction makes of the frame that runs, by what came of it.
use Rattle.std.proofs.Common.{◌≡◌, ◌+◌, ℕ, sym, subst, Result, Ok, Err, OnErr}
use Rattle.wasm_store.specs.declared.trap.Trap.{Trap}
use Rattle.wasm_store.specs.Store.{Store}
use Rattle.wasm_store.specs.Stack.{Frame}
use Rattle.wasm_execution.specs.declared.frame.Frame.{Frame as Active}
use Rattle.wasm_execution.specs.declared.stepping.Step.{Step}
use Rattle.wasm_execution.specs.declared.stepping.Step.TheVariants as step
use Rattle.wasm_execution.specs.Places.{IsPlaced}
use Rattle.wasm_execution.specs.Stepping.{IsTyped, StepGives, PlacedAfter, Onward, CallsThere, Fails, Halts, LeavesTo, Reaches}
use Rattle.wasm_execution.proofs.Turns.{turn_paid}

pub gave_goes : (s t : Store) (f g : Frame) (o : Step) → o ≡ step.Goes → StepGives s f o t g → Onward s f t g
gave_goes s t f g o is h = subst (λ (o : Step). StepGives s f o t g) is h

pub placed_goes : (o : Step) (f : Active) → o ≡ step.Goes → PlacedAfter o f → IsPlaced f
placed_goes o f is h = subst (λ (o : Step). PlacedAfter o f) is h

pub turn_calls : (s t u : Store) (f g k h : Frame) (before after left address : ℕ) (o : Step) → Reaches s f before t after g → IsTyped t g → LeavesTo g k → after ≡ left + 1 → o ≡ step.Calls address → StepGives t k o u h → (last : Frame) × Reaches s f before u (left + 1) last × CallsThere u last address h
turn_calls s t u f g k h before after left address o r typed leaves one is made =
    let m = subst (λ (o : Step). StepGives t k o u h) is made in
    let paid = turn_paid s t f g k before after left r typed leaves one in
    (k, subst (λ (u : Store). Reaches s f before u (left + 1) k) (sym m.0) paid, subst (λ (u : Store). CallsThere u k address h) (sym m.0) m.1)

pub turn_traps : (s t u : Store) (f g k h : Frame) (before after left : ℕ) (why : Trap) (o : Step) → Reaches s f before t after g → IsTyped t g → LeavesTo g k → after ≡ left + 1 → o ≡ step.Traps why → StepGives t k o u h → (last : Frame) × Reaches s f before u (left + 1) last × Fails u last why
turn_traps s t u f g k h before after left why o r typed leaves one is made =
    let m = subst (λ (o : Step). StepGives t k o u h) is made in
    let paid = turn_paid s t f g k before after left r typed leaves one in
    (k, subst (λ (u : Store). Reaches s f before u (left + 1) k) (sym m.0) paid, subst (λ (u : Store). Fails u k why) (sym m.0) m.1)

pub turn_halts : (s t u : Store) (f g k : Frame) (before after left : ℕ) → Reaches s f before t after g → IsTyped t g → LeavesTo g k → after ≡ left + 1 → u ≡ t → Halts s f before u left
turn_halts s t u f g k before after left r typed leaves one same =
    (k, subst (λ (u : Store). Reaches s f before u (left + 1) k) (sym same) (turn_paid s t f g k before after left r typed leaves one))

-- what holds whatever an error is
pub on_err : {T E : Type 0} (r : Result T E) (P : Type 0) → P → OnErr r P
on_err (Ok x) P h = tt
on_err (Err e) P h = h
