-- Nested code (Component Model, CanonicalABI.md, `canon lift`: `post_return`; `canon context.get`, `canon context.set`, `canon resource.rep`): a
-- post-return runs on a stack of its own. The instance whose code it is may not be left while it runs, so that a call of a function that
-- this instance made is written and then is a trap, but for those that are answered in place.
use Rattle.std.specs.Prelude.{◌≡◌, ℕ, zero, suc, if◌then◌else◌, List, Option, Some, None, Result, Ok, Err}
use Rattle.std.specs.List.{slice_get}
use Rattle.std.specs.Option.{option_map}
use Rattle.syntax_trees.specs.declared.module_types.ValType.{ValType}
use Rattle.syntax_trees.specs.declared.module_types.FuncType.{FuncType}
use Rattle.wasm_numbers.specs.Types.{AreWords}
use Rattle.wasm_store.specs.Store.{Host, Store}
use Rattle.wasm_store.specs.Stack.{Stack}
use Rattle.wasm_store.specs.Step.{resume}
use Rattle.wasm_store.specs.Typed.{StackTyped}
use Rattle.wasm_execution.specs.Waiting.{Waiting}
use Rattle.wasm_execution.specs.Run.{RunGives}
use Rattle.wasm_execution.specs.declared.running.Outcome.{Outcome}
use Rattle.wasm_execution.specs.declared.running.Outcome.TheVariants as outcome
use Rattle.comp_graph.specs.declared.graph.FuncRef.{FuncRef}
use Rattle.comp_graph.specs.declared.graph.CanonFunc.{CanonFunc}
use Rattle.comp_graph.specs.Graph.{Graph}
use Rattle.graph_views.specs.Canons.{canon_at, is_made_in}
use Rattle.graph_views.specs.Names.{builtin_of}
use Rattle.task_table.specs.declared.slot.TaskSlot.{TaskSlot}
use Rattle.trace_labels.specs.declared.label.Label.TheVariants as line
use Rattle.trace_labels.specs.declared.trap.TrapName.TheVariants as trap
use Rattle.world_parts.specs.declared.parts.Parts.{Parts}
use Rattle.world_parts.specs.declared.parts.Rest.TheVariants as rest
use Rattle.world_parts.specs.declared.parts.Stop.{Stop}
use Rattle.world_parts.specs.declared.parts.Stop.TheVariants as stop
use Rattle.world_parts.specs.Held.{Held, held, Done, Gives, Traps, Spent, Stuck, after, given}
use Rattle.world_parts.specs.Feed.{told, at_rest}
use Rattle.world_stacks.specs.Piles.{resumed}
use Rattle.world_stacks.specs.Names.{core_name}
use Rattle.world_stacks.specs.Starting.{call_of, gives_words}
use Rattle.world_stacks.specs.Exempt.{exempt_answer}

-- A call by nested code that acts for a task: its line, and the words of the answer, or a trap.
abbrev pub answer_or_trap : Option (List ℕ) → Held → Done (List ℕ)
answer_or_trap None h = Traps trap.CannotLeave h
answer_or_trap (Some answer) h = Gives answer h

abbrev pub answered_by : ℕ → List ℕ → CanonFunc → Held → Done (List ℕ)
answered_by t words c h =
    after (told (line.Do t (builtin_of c) words) h) (λ done k. after (exempt_answer t words c k) (λ answer l. answer_or_trap answer l))

-- Core code calls only what its own component instance made. There is no rule for a function of another one.
abbrev pub answered : Graph → ℕ → ℕ → ℕ → List ℕ → Held → Done (List ℕ)
answered g t at number words h =
    if is_made_in g number at then given (canon_at g number) (λ c. answered_by t words c h) else Stuck

-- The stack that waits at the call goes on with the answer, which is of the words that the function gives, behind its line.
abbrev pub goes_on_with : ℕ → ℕ → List ℕ → Waiting → Held → Done Stack
goes_on_with t number answer w h =
    if gives_words h.store number answer
    then given (resumed answer w) (λ k. after (told (line.Got t answer) h) (λ done l. Gives k l))
    else Stuck

abbrev pub answered_in_place : Graph → ℕ → ℕ → ℕ → List ℕ → Waiting → Held → Done Stack
answered_in_place g t at number words w h = after (answered g t at number words h) (λ answer k. goes_on_with t number answer w k)

-- Where nested code is: what is kept, and its stack.
pub record Point : Type 0 where
  pub held : Held
  pub stack : Stack

-- A run of it comes to something, and leaves a store and so much fuel.
abbrev pub Runs : Point → Outcome → Held → Type 0
Runs a o h = (s : Store) × (left : ℕ) × RunGives a.held.store a.stack a.held.left o s left × (h ≡ record a.held { store = s; left = left })

-- It runs up to a call that is answered in place, and goes on; and so many times.
abbrev pub GoesOn : Graph → ℕ → ℕ → Point → Point → Type 0
GoesOn g t at a b =
    (number : ℕ) × (words : List ℕ) × (w : Waiting) × (h : Held) × Runs a (outcome.Calls number words w) h
    × (answered_in_place g t at number words w h ≡ Gives b.stack b.held)

abbrev pub GoOn : Graph → ℕ → ℕ → ℕ → Point → Point → Type 0
GoOn g t at zero a b = b ≡ a
GoOn g t at (suc count) a b = (mid : Point) × GoOn g t at count a mid × GoesOn g t at mid b

pub record Gone (g : Graph) (t at : ℕ) (a b : Point) : Type 0 where
  pub count : ℕ
  pub calls : GoOn g t at count a b

-- What follows its last run: behind its end the task exits. It ends in a trap, or at a call that is not answered.
abbrev pub Comes : {A B : Type 0} → Done A → Result B Stop → Parts → Type 0
Comes d (Ok x) new = ⊥
Comes d (Err (stop.Trap why)) new = d ≡ Traps why (held new)
Comes d (Err stop.NoFuel) new = d ≡ Spent (held new)
Comes d (Err stop.Stuck) new = d ≡ Stuck
Comes d (Err stop.Memory) new = Unit {0}

abbrev pub EndsWith : Graph → ℕ → ℕ → Outcome → Held → Result (Unit {0}) Stop → Parts → Type 0
EndsWith g t at (outcome.Done words) h result new = (result ≡ Ok tt) × (held new ≡ at_rest rest.Leaves h)
EndsWith g t at (outcome.Calls number words w) h result new = Comes (answered_in_place g t at number words w h) result new
EndsWith g t at (outcome.Trapped why) h result new = (result ≡ Err (stop.Trap (core_name why))) × (held new ≡ h)
EndsWith g t at (outcome.NoFuel later) h result new = (result ≡ Err stop.NoFuel) × (held new ≡ h)
EndsWith g t at outcome.Memory h result new = result ≡ Err stop.Memory

abbrev pub NestedEnds : Graph → ℕ → ℕ → Point → Result (Unit {0}) Stop → Parts → Type 0
NestedEnds g t at a result new = (mid : Point) × Gone g t at a mid × ((o : Outcome) × (h : Held) × Runs mid o h × EndsWith g t at o h result new)

-- So runs nested code. Of want of memory nothing is said.
abbrev pub NestedGives : Graph → ℕ → ℕ → Point → Result (Unit {0}) Stop → Parts → Type 0
NestedGives g t at a (Ok x) new = NestedEnds g t at a (Ok x) new
NestedGives g t at a (Err (stop.Trap why)) new = NestedEnds g t at a (Err (stop.Trap why)) new
NestedGives g t at a (Err stop.NoFuel) new = NestedEnds g t at a (Err stop.NoFuel) new
NestedGives g t at a (Err stop.Stuck) new = NestedEnds g t at a (Err stop.Stuck) new
NestedGives g t at a (Err stop.Memory) new = Unit {0}

-- The post-return of a task's function runs, where it has one, with the words with which its core function ended; and then the task exits.
abbrev pub instance_at : ℕ → Held → Option ℕ
instance_at t h = option_map (λ (slot : TaskSlot). slot.instance) (slice_get h.tasks t)

abbrev pub NoRule : {A : Type 0} → Result A Stop → Type 0
NoRule (Ok x) = ⊥
NoRule (Err (stop.Trap why)) = ⊥
NoRule (Err stop.NoFuel) = ⊥
NoRule (Err stop.Stuck) = Unit {0}
NoRule (Err stop.Memory) = Unit {0}

abbrev pub BeginsNested : Graph → ℕ → Option ℕ → Option Stack → Held → Result (Unit {0}) Stop → Parts → Type 0
BeginsNested g t None call h result new = NoRule result
BeginsNested g t (Some at) None h result new = NoRule result
BeginsNested g t (Some at) (Some k) h result new = NestedGives g t at (record { held = h; stack = k }) result new

abbrev pub PostReturns : Graph → ℕ → Option FuncRef → List ℕ → Held → Result (Unit {0}) Stop → Parts → Type 0
PostReturns g t None words h result new = (result ≡ Ok tt) × (held new ≡ at_rest rest.Leaves h)
PostReturns g t (Some func) words h result new = BeginsNested g t (instance_at t h) (call_of h.store func words) h result new

-- The stack that waits at a call of the host is typed for all words that its function gives.
abbrev pub WaitsTyped : Store → ℕ → Waiting → Type 0
WaitsTyped s number w =
    (type : FuncType) × (slice_get s.funcs number ≡ Some (Host type))
    × ((results : List ValType) × ((words : List ℕ) → AreWords type.results words → StackTyped s results (resume words w.stack)))
