-- Parts of a step over what is kept and stacks (Component Model, Concurrency.md, "Summary").
use Rattle.std.specs.Prelude.{◌≡◌, Result, Ok, Err}
use Rattle.world_parts.specs.declared.parts.Parts.{Parts}
use Rattle.world_parts.specs.declared.parts.Stop.{Stop}
use Rattle.world_parts.specs.declared.parts.Stop.TheVariants as stop
use Rattle.world_parts.specs.Held.{held, Done, Gives, Traps, Spent, Stuck}

-- The code comes to what such a part comes to: an answer, with stacks. Behind a trap, and where no fuel is left, no stack runs on, and
-- nothing is said of them; nor of want of memory.
abbrev pub Leads : {A P : Type 0} → Done (A × P) → Result A Stop → Parts → P → Type 0
Leads d (Ok x) new piles = d ≡ Gives (x, piles) (held new)
Leads d (Err (stop.Trap why)) new piles = d ≡ Traps why (held new)
Leads d (Err stop.NoFuel) new piles = d ≡ Spent (held new)
Leads d (Err stop.Stuck) new piles = d ≡ Stuck
Leads d (Err stop.Memory) new piles = Unit {0}
