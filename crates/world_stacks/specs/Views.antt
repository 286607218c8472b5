-- What the stacks of a task are seen as (Component Model, CanonicalABI.md, `canon lift` and `canon resource.drop`).
use Rattle.std.specs.Prelude.{List, [], ◌∷◌, ◌++◌, map}
use Rattle.wasm_store.specs.Stack.{Stack}
use Rattle.world_stacks.specs.declared.host_call.HostCall.{HostCall}
use Rattle.world_stacks.specs.declared.top.Top.{Top}
use Rattle.world_stacks.specs.declared.top.Top.TheVariants as top

-- the acting stack, and those under it, which wait for the destructors that they run, the innermost first, each at its call
pub record PileView : Type 0 where
  pub top : Top
  pub under : List HostCall

-- The same as a list of stacks, the acting one first.
abbrev pub stack_in : Top → List Stack
stack_in top.Empty = []
stack_in (top.Waits c) = c.waiting.stack ∷ []
stack_in (top.Goes k) = k ∷ []

abbrev pub stacks_of : PileView → List Stack
stacks_of p = stack_in p.top ++ map (λ (c : HostCall). c.waiting.stack) p.under
