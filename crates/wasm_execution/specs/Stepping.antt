-- What the frame that runs does by itself, whatever frames wait for it (Core 2.0, section 4.4).
use Rattle.std.specs.Prelude.{◌≡◌, ◌+◌, ℕ, Bool, true, false, List, [], ◌⊎◌, length, Some}
use Rattle.std.specs.List.{slice_get}
use Rattle.syntax_trees.specs.declared.module_types.ValType.{ValType}
use Rattle.syntax_trees.specs.declared.instr.Instr.{Instr}
use Rattle.syntax_trees.specs.declared.instr.Instr.TheVariants as instr
use Rattle.syntax_trees.specs.Expr.{Expr, End, Plain, Block, Loop, If, IfElse}
use Rattle.wasm_store.specs.declared.trap.Trap.{Trap}
use Rattle.wasm_store.specs.Store.{Function, type_of, Instance, Store}
use Rattle.wasm_store.specs.Stack.{Frame, Running}
use Rattle.wasm_store.specs.Step.{Goes, Traps, next, invoked, Steps}
use Rattle.wasm_store.specs.Typed.{FrameTyped}
use Rattle.wasm_execution.specs.declared.control.Control.{Control}
use Rattle.wasm_execution.specs.declared.control.Control.TheVariants as control
use Rattle.wasm_execution.specs.declared.stepping.Step.{Step}
use Rattle.wasm_execution.specs.declared.stepping.Step.TheVariants as step
use Rattle.wasm_execution.specs.declared.turn.Pause.{Pause}
use Rattle.wasm_execution.specs.declared.turn.Pause.TheVariants as pause
use Rattle.wasm_execution.specs.declared.frame.Frame.{Frame as Active}
use Rattle.wasm_execution.specs.Places.{IsPlaced}
use Rattle.wasm_execution.specs.Shape.{HasOver}

-- The frame runs, and gives values of some types.
abbrev pub IsTyped : Store → Frame → Type 0
IsTyped s f = (gives : List ValType) × FrameTyped s [] gives f

-- An instruction comes next, and not an end.
abbrev pub HasNext : Expr → Type 0
HasNext End = ⊥
HasNext other = Unit {0}

-- An instruction leaves the blocks and calls around it as they are.
abbrev pub IsEffect : Instr → Type 0
IsEffect instr.Unreachable = ⊥
IsEffect (instr.Br depth) = ⊥
IsEffect (instr.BrIf depth) = ⊥
IsEffect (instr.BrTable others last) = ⊥
IsEffect instr.Return = ⊥
IsEffect (instr.Call index) = ⊥
IsEffect (instr.CallIndirect index table) = ⊥
IsEffect other = Unit {0}

-- what comes next, by what is left
abbrev pub ComesNext : Control → Expr → Type 0
ComesNext control.Unreachable e = (r : Expr) × (e ≡ Plain instr.Unreachable r)
ComesNext (control.Branch depth) e = (r : Expr) × (e ≡ Plain (instr.Br depth) r)
ComesNext (control.BranchIf depth) e = (r : Expr) × (e ≡ Plain (instr.BrIf depth) r)
ComesNext control.BranchTable e = (others : List ℕ) × (last : ℕ) × (r : Expr) × (e ≡ Plain (instr.BrTable others last) r)
ComesNext control.Return e = (r : Expr) × (e ≡ Plain instr.Return r)
ComesNext (control.Call index) e = (r : Expr) × (e ≡ Plain (instr.Call index) r)
ComesNext (control.CallIndirect index table) e = (r : Expr) × (e ≡ Plain (instr.CallIndirect index table) r)
ComesNext (control.Block t) e = (b : Expr) × (r : Expr) × (e ≡ Block t b r)
ComesNext (control.Loop t) e = (b : Expr) × (r : Expr) × (e ≡ Loop t b r)
ComesNext (control.If t) e = ((a : Expr) × (r : Expr) × (e ≡ If t a r)) ⊎ ((a : Expr) × (b : Expr) × (r : Expr) × (e ≡ IfElse t a b r))
ComesNext control.Effect e = (p : Instr) × (r : Expr) × (e ≡ Plain p r) × IsEffect p
ComesNext control.End e = e ≡ End

-- The frame goes on in a store, and leaves another one.
abbrev pub Onward : Store → Frame → Store → Frame → Type 0
Onward s f t g = (fs : List Frame) → next s (Running f fs) ≡ Goes true t (Running g fs)

-- It goes on in every store that has its instance, and leaves the store as it was.
abbrev pub OnwardAlone : Frame → Frame → Type 0
OnwardAlone f g = (s : Store) (i : Instance) → slice_get s.instances f.instance ≡ Some i → Onward s f s g

-- It traps.
abbrev pub Fails : Store → Frame → Trap → Type 0
Fails s f why = (fs : List Frame) → next s (Running f fs) ≡ Traps why

-- It calls the function at an address with its last values, when it has become a frame of these values.
pub record CallsThere (s : Store) (f : Frame) (address : ℕ) (g : Frame) : Type 0 where
  pub function : Function
  pub there : slice_get s.funcs address ≡ Some function
  pub over : HasOver (length (type_of function).params) g.labels g.values
  pub moves : (fs : List Frame) → next s (Running f fs) ≡ invoked address function g.values s g fs

-- what a step makes of a store and of a frame
abbrev pub StepGives : Store → Frame → Step → Store → Frame → Type 0
StepGives s f step.Goes t g = Onward s f t g
StepGives s f (step.Calls address) t g = (t ≡ s) × CallsThere s f address g
StepGives s f (step.Traps why) t g = (t ≡ s) × Fails s f why

-- Ends of blocks lead from the one frame to the other, for no fuel.
abbrev pub LeavesTo : Frame → Frame → Type 0
LeavesTo f g = (s : Store) (i : Instance) (fs : List Frame) → slice_get s.instances f.instance ≡ Some i → Steps 0 s (Running f fs) s (Running g fs)

-- Steps lead from the one store and frame to the other, and each was paid.
pub record Reaches (s : Store) (f : Frame) (before : ℕ) (t : Store) (after : ℕ) (g : Frame) : Type 0 where
  pub spent : ℕ
  pub steps : (fs : List Frame) → Steps spent s (Running f fs) t (Running g fs)
  pub paid : before ≡ after + spent

-- how a frame comes to a pause
abbrev pub Pauses : Store → Frame → ℕ → Pause → Store → Frame → ℕ → Type 0
Pauses s f before pause.Ended t g after = Reaches s f before t after g × (g.rest ≡ End) × (g.labels ≡ [])
Pauses s f before pause.NoFuel t g after = Reaches s f before t after g × (after ≡ 0) × HasNext g.rest
Pauses s f before (pause.Calls address) t g after = (last : Frame) × Reaches s f before t (after + 1) last × CallsThere t last address g
Pauses s f before (pause.Traps why) t g after = (last : Frame) × Reaches s f before t (after + 1) last × Fails t last why

-- A frame ends for want of memory in a step that was paid and not made. The steps before it lead to the store that is left.
abbrev pub Halts : Store → Frame → ℕ → Store → ℕ → Type 0
Halts s f before t after = (last : Frame) × Reaches s f before t (after + 1) last

-- An instruction comes next, or the function has ended.
abbrev pub ComesTo : Bool → Frame → Type 0
ComesTo true g = HasNext g.rest
ComesTo false g = (g.rest ≡ End) × (g.labels ≡ [])

-- An end comes next, or an instruction.
abbrev pub IsEnd : Bool → Expr → Type 0
IsEnd true e = e ≡ End
IsEnd false e = HasNext e

-- A frame is placed, unless it has trapped.
abbrev pub PlacedAfter : Step → Active → Type 0
PlacedAfter (step.Traps why) f = Unit {0}
PlacedAfter other f = IsPlaced f

abbrev pub PlacedAt : Pause → Active → Type 0
PlacedAt (pause.Traps why) f = Unit {0}
PlacedAt other f = IsPlaced f
