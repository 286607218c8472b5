-- What a call of a function makes of the frames (Core 2.0, section 4.4.10).
use Rattle.std.specs.Prelude.{◌≡◌, ◌≤◌, ◌+◌, ℕ, true, List, length, vec_capacity}
use Rattle.std.specs.List.{AllByRecursion}
use Rattle.wasm_store.specs.declared.trap.Trap.TheVariants.{StackLimit}
use Rattle.wasm_store.specs.Store.{Function, type_of, Store}
use Rattle.wasm_store.specs.Stack as stack
use Rattle.wasm_store.specs.Step.{Goes, Calls, Traps, invoked}
use Rattle.wasm_execution.specs.declared.frame.Frame.{Frame}
use Rattle.wasm_execution.specs.declared.invoking.Invoked.{Invoked}
use Rattle.wasm_execution.specs.declared.invoking.Invoked.TheVariants as call
use Rattle.wasm_execution.specs.Places.{frame_of, IsPlaced}
use Rattle.wasm_execution.specs.Stacks.{frames_of}

-- A frame of a function of an instance began, over one frame more.
pub record Begins (s : Store) (f : stack.Frame) (old : List Frame) (address : ℕ) (function : Function) (g : Frame) (new : List Frame) : Type 0 where
  pub moves : invoked address function f.values s f (frames_of old) ≡ Goes true s (stack.Running (frame_of g) (frames_of new))
  pub placed : IsPlaced g
  pub callers : AllByRecursion IsPlaced new
  pub count : length new ≤ length old + 1

-- A function of the host is called, and the frame waits with room for its words.
pub record Asks (s : Store) (f : stack.Frame) (old : List Frame) (address : ℕ) (function : Function) (words : List ℕ) (g : Frame) (count : ℕ) (new : List Frame) : Type 0 where
  pub moves : invoked address function f.values s f (frames_of old) ≡ Calls address words (stack.Running (frame_of g) (frames_of old))
  pub placed : IsPlaced g
  pub room : length g.operands.items + count ≤ vec_capacity g.operands
  pub results : count ≡ length (type_of function).results
  pub same : new ≡ old

abbrev pub InvokeGives : Store → stack.Frame → List Frame → ℕ → Function → Invoked → List Frame → Type 0
InvokeGives s f old address function (call.Began g) new = Begins s f old address function g new
InvokeGives s f old address function (call.Asked words g count) new = Asks s f old address function words.items g count new
InvokeGives s f old address function call.Limit new = invoked address function f.values s f (frames_of old) ≡ Traps StackLimit
