-- What the frames and the waiting stacks of a program are seen as (Core 2.0, section 4.2.14): stacks of wasm_store.
use Rattle.std.specs.Prelude.{◌≡◌, ◌≤◌, ◌+◌, ℕ, List, [], map, reverse, length, vec_capacity}
use Rattle.std.specs.List.{AllByRecursion}
use Rattle.wasm_store.specs.Stack as stack
use Rattle.wasm_execution.specs.declared.frame.Frame.{Frame}
use Rattle.wasm_execution.specs.declared.running.State.{State}
use Rattle.wasm_execution.specs.declared.running.State.TheVariants as state
use Rattle.wasm_execution.specs.Places.{frame_of, IsPlaced}

-- the frames that wait, the innermost first. In the program the innermost stands at the end
abbrev pub frames_of : List Frame → List stack.Frame
frames_of callers = map frame_of (reverse callers)

abbrev pub stack_of : State → stack.Stack
stack_of (state.Active f) = stack.Running (frame_of f.top) (frames_of f.callers.items)
stack_of (state.AtHost address words) = stack.AtHost address words.items
stack_of (state.Given words) = stack.Given words.items

-- All frames are placed in their code.
abbrev pub ArePlaced : State → Type 0
ArePlaced (state.Active f) = IsPlaced f.top × AllByRecursion IsPlaced f.callers.items
ArePlaced other = Unit {0}

-- There is room for so many more words.
abbrev pub HasRoom : ℕ → State → Type 0
HasRoom count (state.Active f) = length f.top.operands.items + count ≤ vec_capacity f.top.operands
HasRoom count (state.AtHost address words) = Unit {0}
HasRoom count (state.Given words) = (words.items ≡ []) × (count ≤ vec_capacity words)
