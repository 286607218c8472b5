-- How tasks resolve with a result (Component Model, CanonicalABI.md, `canon lift`, `canon task.return`, "Flat Lifting"): the result is lifted, the
-- task has returned by its line, and the result is lowered into the task that called it at once. Behind a task that is lifted without `async`
-- its post-return runs, and it exits; behind `task.return` the task goes on.
use Rattle.std.specs.Prelude.{◌≡◌, ℕ, List, [], Option, Some, None, Result, Ok, Err}
use Rattle.std.specs.Option.{option_and_then}
use Rattle.comp_graph.specs.declared.graph.FuncRef.{FuncRef}
use Rattle.graph_views.specs.Canons.{options_at}
use Rattle.laid_types.specs.Known.{Numbered, numbered_at}
use Rattle.programs.specs.Program.{returned_of, value_of}
use Rattle.programs.specs.declared.program.Program.{Program}
use Rattle.trace_labels.specs.declared.typed.TypedValue.{TypedValue}
use Rattle.world_parts.specs.declared.parts.Parts.{Parts}
use Rattle.world_parts.specs.declared.parts.Flow.{Flow}
use Rattle.world_parts.specs.declared.parts.Stop.{Stop}
use Rattle.world_parts.specs.declared.parts.Stop.TheVariants as stop
use Rattle.world_parts.specs.Held.{Held, held, Done, Gives, Traps, Spent, Stuck, after}
use Rattle.world_parts.specs.Feed.{got}
use Rattle.world_parts.specs.Slots.{callee_of}
use Rattle.world_parts.specs.Plain.{returned}
use Rattle.world_stacks.specs.PostReturns.{PostReturns}
use Rattle.value_parts.specs.Passing.{ended_lifted, returned_lifted}
use Rattle.return_replies.specs.Returns.{type_of, return_checked}
use Rattle.value_parts.specs.Coming.{Behind, Then}
use Rattle.value_moves.specs.Lowered.{LowersResult}

-- A result goes into the caller, where there is one and a task called.
abbrev pub PassesOn : Program → ℕ → Option TypedValue → Held → Done (Unit {0}) → Type 0
PassesOn p t None h d = d ≡ Gives tt h
PassesOn p t (Some v) h d = LowersResult p t v.value h d

-- A task resolves with this result.
abbrev pub Resolves : Program → ℕ → Option TypedValue → Held → Done (Unit {0}) → Type 0
Resolves p t value h d = Behind (returned t value h) (λ done k e. PassesOn p t value k e) d

-- The core function of a task that is lifted without `async` has ended with these words.
abbrev pub ResolvesEnded : Program → ℕ → List ℕ → Held → Done (Unit {0}) → Type 0
ResolvesEnded p t words h d = Behind (ended_lifted p t words h) (λ value k e. Resolves p t value k e) d

-- What a post-return comes to, but for want of memory.
abbrev pub Settles : {A : Type 0} → Done A → Result A Stop → Parts → Type 0
Settles d (Ok x) new = d ≡ Gives x (held new)
Settles d (Err (stop.Trap why)) new = d ≡ Traps why (held new)
Settles d (Err stop.NoFuel) new = d ≡ Spent (held new)
Settles d (Err stop.Stuck) new = d ≡ Stuck
Settles d (Err stop.Memory) new = ⊥

abbrev pub PostReturnsTo : Program → ℕ → Option FuncRef → List ℕ → Held → Done (Unit {0}) → Type 0
PostReturnsTo p t post words h d =
    (result : Result (Unit {0}) Stop) × (new : Parts) × PostReturns p.graph.now t post words h result new × Settles d result new

abbrev pub Ends : Program → ℕ → Option FuncRef → List ℕ → Held → Done (Unit {0}) → Type 0
Ends p t post words h d = Then (ResolvesEnded p t words h) (λ done k e. PostReturnsTo p t post words k e) d

-- `task.return` by the canonical function of a number: its type and its options are tested.
abbrev pub type_by : Program → Option ℕ → Option Numbered
type_by p number = option_and_then (numbered_at p.types.now) number

abbrev pub return_tested : Program → ℕ → ℕ → Held → Done (Unit {0})
return_tested p t canon h =
    after (callee_of t h) (λ callee k.
    return_checked p.graph.now t (type_of (type_by p (value_of p canon))) (type_of (type_by p (returned_of p callee))) (options_at p.graph.now canon) k)

abbrev pub ReturnResolves : Program → ℕ → ℕ → Held → Done (Unit {0}) → Type 0
ReturnResolves p t canon h d = Behind (returned_lifted p t canon h) (λ value k e. Resolves p t value k e) d

abbrev pub TestedResolves : Program → ℕ → ℕ → Held → Done (Unit {0}) → Type 0
TestedResolves p t canon h d = Behind (return_tested p t canon h) (λ tested k e. ReturnResolves p t canon k e) d

abbrev pub Returns : Program → ℕ → ℕ → Held → Done Flow → Type 0
Returns p t canon h d = Then (TestedResolves p t canon h) (λ done k e. e ≡ got t [] k) d
