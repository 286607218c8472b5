-- Code that comes to what a part comes to.
use Rattle.std.proofs.Common.{Result, Ok, Err}
use Rattle.world_parts.specs.declared.parts.Parts.{Parts}
use Rattle.world_parts.specs.declared.parts.Stop.{Stop}
use Rattle.world_parts.specs.declared.parts.Stop.TheVariants as stop
use Rattle.world_parts.specs.Held.{Held, held, Done, Does}
use Rattle.value_parts.specs.Coming.{Comes}

pub does_so : {A : Type 0} (f : Held → Done A) (old new : Parts) (result : Result A Stop) → Comes (f (held old)) result new → Does f old result new
does_so f old new (Ok x) h = h
does_so f old new (Err (stop.Trap why)) h = h
does_so f old new (Err stop.NoFuel) h = h
does_so f old new (Err stop.Stuck) h = h
does_so f old new (Err stop.Memory) h = h
