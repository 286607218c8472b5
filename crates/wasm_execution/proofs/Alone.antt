-- Functions of the host that are called alone.
use Rattle.std.proofs.Common.{◌≡◌, ℕ, List, [], ap, ap₂, sym, arith, Some, length}
use Rattle.std.specs.List.{slice_get}
use Rattle.wasm_store.specs.Store.{Function, type_of, Store}
use Rattle.wasm_store.specs.Stack.{Stack, AtHost, Given}
use Rattle.wasm_store.specs.Step.{Move, Calls, Ends}
use Rattle.wasm_execution.specs.Waiting.{Waiting}
use Rattle.wasm_execution.specs.Run.{Comes, Asks, GivesUp}
use Rattle.wasm_execution.proofs.Ends.{no_steps}

pub alone_asks : (s : Store) (address fuel : ℕ) (args words : List ℕ) (w : Waiting) (function : Function) → words ≡ args → w.stack ≡ Given [] → slice_get s.funcs address ≡ Some function → w.count ≡ length (type_of function).results → Asks s (AtHost address args) fuel s fuel address words w
alone_asks s address fuel args words w function same waits there count = record {
  comes = record {
    spent = 0;
    last = AtHost address args;
    steps = no_steps s (AtHost address args);
    moves = ap₂ (λ (ws : List ℕ) (k : Stack). let m : Move = Calls address ws k in m) (sym same) (sym waits);
    paid = omega arith;
  };
  function = function;
  there = there;
  count = count;
}

pub given_done : (s : Store) (fuel : ℕ) (words given : List ℕ) → words ≡ given → Comes s (Given given) fuel s fuel (Ends words)
given_done s fuel words given same = record {
  spent = 0;
  last = Given given;
  steps = no_steps s (Given given);
  moves = ap (λ (ws : List ℕ). let m : Move = Ends ws in m) (sym same);
  paid = omega arith;
}

pub gives_up_at_once : (s : Store) (k : Stack) (fuel : ℕ) → GivesUp s k fuel s fuel
gives_up_at_once s k fuel = record { spent = 0; last = k; steps = no_steps s k; paid = omega arith; one_more = omega arith }
