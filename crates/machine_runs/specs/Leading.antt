-- Parts over stacks that may come to more than one thing (Core 2.0, section 4.4).
use Rattle.std.specs.Prelude.{Result, Ok, Err}
use Rattle.world_parts.specs.declared.parts.Parts.{Parts}
use Rattle.world_parts.specs.declared.parts.Stop.{Stop}
use Rattle.world_parts.specs.declared.parts.Stop.TheVariants as stop
use Rattle.world_parts.specs.Held.{Done}
use Rattle.world_stacks.specs.Over.{Leads}

-- The code comes to something that a part may come to. Of want of memory nothing is said.
abbrev pub LeadsToOne : {A P : Type 0} → (Done (A × P) → Type 0) → Result A Stop → Parts → P → Type 0
LeadsToOne {A} {P} R result new piles = (d : Done (A × P)) × R d × Leads d result new piles

abbrev pub MayLead : {A P : Type 0} → (Done (A × P) → Type 0) → Result A Stop → Parts → P → Type 0
MayLead R (Ok x) new piles = LeadsToOne R (Ok x) new piles
MayLead R (Err (stop.Trap why)) new piles = LeadsToOne R (Err (stop.Trap why)) new piles
MayLead R (Err stop.NoFuel) new piles = LeadsToOne R (Err stop.NoFuel) new piles
MayLead R (Err stop.Stuck) new piles = LeadsToOne R (Err stop.Stuck) new piles
MayLead R (Err stop.Memory) new piles = Unit {0}
