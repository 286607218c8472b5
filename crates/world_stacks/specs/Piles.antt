-- What becomes of the stacks of tasks (Core 2.0, section 4.4.10; Component Model, CanonicalABI.md, `canon lift`, `canon lower` and `canon
-- resource.drop`): one goes on with the words of an answer, a further one begins, and one ends over another.
use Rattle.std.specs.Prelude.{◌≡◌, ℕ, nat_eq, Bool, true, false, if◌then◌else◌, List, [], ◌∷◌, length, slice_set, Option, Some, None, Result, Ok, Err}
use Rattle.std.specs.List.{slice_get}
use Rattle.syntax_trees.specs.declared.module_types.ValType.{ValType}
use Rattle.wasm_store.specs.Store.{Store}
use Rattle.wasm_store.specs.Stack.{Stack}
use Rattle.wasm_store.specs.Step.{resume}
use Rattle.wasm_store.specs.Typed.{StackTyped}
use Rattle.wasm_execution.specs.Waiting.{Waiting}
use Rattle.world_parts.specs.declared.parts.Stop.{Stop}
use Rattle.world_parts.specs.declared.parts.Stop.TheVariants as stop
use Rattle.world_stacks.specs.declared.host_call.HostCall.{HostCall}
use Rattle.world_stacks.specs.declared.top.Top.{Top}
use Rattle.world_stacks.specs.declared.top.Top.TheVariants as top
use Rattle.world_stacks.specs.Views.{PileView}
use Rattle.world_stacks.specs.Starting.{gives_words}

-- no stack, and another acting one
abbrev pub new_pile : PileView
new_pile = record { top = top.Empty; under = [] }

abbrev pub with_top : Top → PileView → PileView
with_top t p = record p { top = t }

-- A stack that waits for so many words goes on with them.
abbrev pub resumed : List ℕ → Waiting → Option Stack
resumed words w = if nat_eq w.count (length words) then Some (resume words w.stack) else None

-- It does so at a call of a function of the host where they are words that the function gives.
abbrev pub resumed_at : Store → List ℕ → HostCall → Option Stack
resumed_at s words c = if gives_words s c.address words then resumed words c.waiting else None

-- The acting stack goes on with words.
abbrev pub going : Option Stack → PileView → Option (Unit {0} × PileView)
going None p = None
going (Some k) p = Some (tt, with_top (top.Goes k) p)

abbrev pub gone_on_from : Store → Top → List ℕ → PileView → Option (Unit {0} × PileView)
gone_on_from s top.Empty words p = None
gone_on_from s (top.Waits c) words p = going (resumed_at s words c) p
gone_on_from s (top.Goes k) words p = None

abbrev pub gone_on : Store → List ℕ → PileView → Option (Unit {0} × PileView)
gone_on s words p = gone_on_from s p.top words p

-- A further stack begins, where none runs.
abbrev pub stacked_on : Top → Stack → PileView → Option (Unit {0} × PileView)
stacked_on top.Empty k p = Some (tt, with_top (top.Goes k) p)
stacked_on (top.Waits c) k p = Some (tt, record { top = top.Goes k; under = c ∷ p.under })
stacked_on (top.Goes other) k p = None

abbrev pub stacked : Stack → PileView → Option (Unit {0} × PileView)
stacked k p = stacked_on p.top k p

-- The acting stack has ended: the one under it, where there is one, goes on with no words.
abbrev pub going_back : Option Stack → List HostCall → Option (Bool × PileView)
going_back None under = None
going_back (Some k) under = Some (true, record { top = top.Goes k; under = under })

abbrev pub unstacked : Store → List HostCall → PileView → Option (Bool × PileView)
unstacked s [] p = Some (false, p)
unstacked s (c ∷ under) p = going_back (resumed_at s [] c) under

-- What is changed in the stacks of the task of a number.
abbrev pub put_back : {A : Type 0} → ℕ → List PileView → Option (A × PileView) → Option (A × List PileView)
put_back t piles None = None
put_back t piles (Some r) = Some (r.0, slice_set piles t r.1)

abbrev pub at_found : {A : Type 0} → (PileView → Option (A × PileView)) → ℕ → List PileView → Option PileView → Option (A × List PileView)
at_found f t piles None = None
at_found f t piles (Some p) = put_back t piles (f p)

abbrev pub at_pile : {A : Type 0} → (PileView → Option (A × PileView)) → ℕ → List PileView → Option (A × List PileView)
at_pile f t piles = at_found f t piles (slice_get piles t)

-- The code changes stacks so, or no rule applies. Of want of memory nothing is said.
abbrev pub Turns : {A P : Type 0} → Option (A × P) → Result A Stop → P → Type 0
Turns o (Ok x) new = o ≡ Some (x, new)
Turns o (Err (stop.Trap why)) new = ⊥
Turns o (Err stop.NoFuel) new = ⊥
Turns o (Err stop.Stuck) new = o ≡ None
Turns o (Err stop.Memory) new = Unit {0}

-- What is looked up is there, or no rule applies.
abbrev pub Finds : {A : Type 0} → Option A → Result A Stop → Type 0
Finds o (Ok x) = o ≡ Some x
Finds o (Err (stop.Trap why)) = ⊥
Finds o (Err stop.NoFuel) = ⊥
Finds o (Err stop.Stuck) = o ≡ None
Finds o (Err stop.Memory) = Unit {0}

-- A stack is typed in a store. The acting stack of a task is so where it is to run.
abbrev pub RunsTyped : Store → Stack → Type 0
RunsTyped s k = (results : List ValType) × StackTyped s results k

abbrev pub TopTyped : Store → Top → Type 0
TopTyped s top.Empty = Unit {0}
TopTyped s (top.Waits c) = Unit {0}
TopTyped s (top.Goes k) = RunsTyped s k

abbrev pub PileTyped : Store → Option PileView → Type 0
PileTyped s None = Unit {0}
PileTyped s (Some p) = TopTyped s p.top
