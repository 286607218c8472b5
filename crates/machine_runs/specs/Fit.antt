-- Worlds in which code can run and values can be lifted (Core 2.0, section 4.2; Component Model, CanonicalABI.md, `lift_borrow`): the store and all
-- stacks are typed, those that wait for whatever words their function gives; and no handle is lent too often, as each step lends it only so much
-- more often and so many steps are made at most.
use Rattle.std.specs.Prelude.{◌≡◌, ℕ, ◌*◌, Some}
use Rattle.std.specs.List.{slice_get}
use Rattle.wasm_typing.specs.Modules.{Typed}
use Rattle.wasm_store.specs.Instantiation.{InRange}
use Rattle.wasm_store.specs.Typed.{StoreTyped}
use Rattle.comp_graph.specs.Graph.{CoreMake, Graph}
use Rattle.world_stacks.specs.Typing.{PilesFit}
use Rattle.value_parts.specs.Fit.{LentAtMost, most_more}
use Rattle.machine_runs.specs.Worlds.{Point}

-- a world to which so many steps led
pub record Fit (count : ℕ) (a : Point) : Type 0 where
  pub store : StoreTyped a.held.store
  pub piles : PilesFit a.held.store a.piles
  pub lends : LentAtMost (count * most_more) a.held

-- The modules of all core instances of a graph are valid.
abbrev pub ModulesFit : Graph → Type 0
ModulesFit g = (n : ℕ) (c : CoreMake) → slice_get g.cores n ≡ Some c → Typed c.of_module × InRange c.of_module
