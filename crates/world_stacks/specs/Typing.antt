-- Stacks of tasks that are typed in a store (Core 2.0, section 4.2.1): those that run, and those that wait for words that a function of the host
-- gives. Where each is so, a stack that goes on or begins is typed too.
use Rattle.std.specs.Prelude.{◌≡◌, ℕ, List, Some}
use Rattle.std.specs.List.{slice_get}
use Rattle.wasm_store.specs.Store.{Store}
use Rattle.world_stacks.specs.declared.host_call.HostCall.{HostCall}
use Rattle.world_stacks.specs.declared.top.Top.{Top}
use Rattle.world_stacks.specs.declared.top.Top.TheVariants as top
use Rattle.world_stacks.specs.Views.{PileView}
use Rattle.world_stacks.specs.Piles.{RunsTyped}
use Rattle.world_stacks.specs.PostReturns.{WaitsTyped}

abbrev pub CallTyped : Store → HostCall → Type 0
CallTyped s c = WaitsTyped s c.address c.waiting

abbrev pub TopFits : Store → Top → Type 0
TopFits s top.Empty = Unit {0}
TopFits s (top.Waits c) = CallTyped s c
TopFits s (top.Goes k) = RunsTyped s k

abbrev pub UnderFits : Store → List HostCall → Type 0
UnderFits s under = (n : ℕ) (c : HostCall) → slice_get under n ≡ Some c → CallTyped s c

-- those of a task, and of all tasks
pub record PileFits (s : Store) (p : PileView) : Type 0 where
  pub top : TopFits s p.top
  pub under : UnderFits s p.under

abbrev pub PilesFit : Store → List PileView → Type 0
PilesFit s piles = (t : ℕ) (p : PileView) → slice_get piles t ≡ Some p → PileFits s p
