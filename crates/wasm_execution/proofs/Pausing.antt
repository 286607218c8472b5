-- What a run makes of each pause of the function that runs.
use Rattle.std.proofs.Common.{◌≡◌, ◌+◌, ℕ, List, [], ◌∷◌, ◌++◌, length, ap, sym, ◌∙◌, subst, Option, Some}
use Rattle.std.specs.List.{slice_get, AllByRecursion}
use Rattle.wasm_store.specs.Store.{Function, type_of, Store}
use Rattle.wasm_store.specs.Stack as stack
use Rattle.wasm_store.specs.Step.{Move, Calls, invoked, next}
use Rattle.wasm_execution.specs.declared.frame.Frame.{Frame}
use Rattle.wasm_execution.specs.declared.turn.Pause.{Pause}
use Rattle.wasm_execution.specs.declared.invoking.Invoked.{Invoked}
use Rattle.wasm_execution.specs.Run.{Asks}
use Rattle.wasm_execution.specs.Stepping.{CallsThere, Pauses, PlacedAt}
use Rattle.wasm_execution.specs.Invoking.{InvokeGives}
use Rattle.wasm_execution.proofs.Runs.{Iterated, comes_call}

pub at_pause : (s : Store) (f : stack.Frame) (before : ℕ) (p q : Pause) (t : Store) (g : stack.Frame) (after : ℕ) → p ≡ q → Pauses s f before p t g after → Pauses s f before q t g after
at_pause s f before p q t g after is h = subst (λ (p : Pause). Pauses s f before p t g after) is h

pub placed_at : (p q : Pause) (f : Frame) → p ≡ q → PlacedAt p f → PlacedAt q f
placed_at p q f is h = subst (λ (p : Pause). PlacedAt p f) is h

pub at_invoked : (s : Store) (f : stack.Frame) (old : List Frame) (address : ℕ) (function : Function) (i j : Invoked) (new : List Frame) → i ≡ j → InvokeGives s f old address function i new → InvokeGives s f old address function j new
at_invoked s f old address function i j new is h = subst (λ (i : Invoked). InvokeGives s f old address function i new) is h

pub all_last : {X : Type 0} (P : X → Type 0) (xs : List X) (y : X) → AllByRecursion P (xs ++ y ∷ []) → AllByRecursion P xs × P y
all_last P [] y h = (tt, h.0)
all_last P (x ∷ xs) y h = let k = all_last P xs y h.1 in ((h.0, k.0), k.1)

-- A call of a function is the move that it was seen to be.
pub call_moves : (t : Store) (last g : stack.Frame) (fs : List stack.Frame) (address : ℕ) (function : Function) (m : Move) → CallsThere t last address g → slice_get t.funcs address ≡ Some function → invoked address function g.values t g fs ≡ m → next t (stack.Running last fs) ≡ m
call_moves t last g fs address function m k there e =
    let same : k.function ≡ function = (let q : (let o : Option Function = Some k.function in o) ≡ Some function = sym k.there ∙ there in cc) in
    k.moves fs ∙ ap (λ (f : Function). invoked address f g.values t g fs) same ∙ e

pub asks_there : (s t : Store) (k : stack.Stack) (last w : stack.Frame) (fs gs : List stack.Frame) (before after address count : ℕ) (words given : List ℕ) (function : Function) → Iterated s k before t (after + 1) last fs → next t (stack.Running last fs) ≡ Calls address words (stack.Running w fs) → given ≡ words → gs ≡ fs → slice_get t.funcs address ≡ Some function → count ≡ length (type_of function).results → Asks s k before t after address given (record { stack = stack.Running w gs; count = count })
asks_there s t k last w fs gs before after address count words given function it goes same alike there results =
    let moves : next t (stack.Running last fs) ≡ Calls address given (stack.Running w gs) =
    goes ∙ ap (λ (ws : List ℕ). let m : Move = Calls address ws (stack.Running w fs) in m) (sym same) ∙ ap (λ (hs : List stack.Frame). let m : Move = Calls address given (stack.Running w hs) in m) (sym alike) in
    record {
      comes = comes_call s t k last fs before after address given (stack.Running w gs) it.stands moves;
      function = function;
      there = there;
      count = results;
    }
