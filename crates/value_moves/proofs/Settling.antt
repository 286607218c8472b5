-- What a post-return comes to a task may come to.
use Rattle.std.proofs.Common.{ℕ, List, refl, Option, Result, Ok, Err}
use Rattle.comp_graph.specs.declared.graph.FuncRef.{FuncRef}
use Rattle.programs.specs.declared.program.Program.{Program}
use Rattle.world_parts.specs.declared.parts.Parts.{Parts}
use Rattle.world_parts.specs.declared.parts.Stop.{Stop}
use Rattle.world_parts.specs.declared.parts.Stop.TheVariants as stop
use Rattle.world_parts.specs.Held.{Held, held, Gives, Traps, Spent, Stuck}
use Rattle.world_stacks.specs.PostReturns.{PostReturns}
use Rattle.value_parts.specs.Coming.{May}
use Rattle.value_moves.specs.Resolving.{PostReturnsTo}

pub settled : (p : Program) (t : ℕ) (post : Option FuncRef) (words : List ℕ) (h : Held) (result : Result (Unit {0}) Stop) (new : Parts)
    → PostReturns p.graph.now t post words h result new → May (PostReturnsTo p t post words h) result new
settled p t post words h (Ok x) new r = (Gives x (held new), (Ok x, new, r, refl), refl)
settled p t post words h (Err (stop.Trap why)) new r = (Traps why (held new), (Err (stop.Trap why), new, r, refl), refl)
settled p t post words h (Err stop.NoFuel) new r = (Spent (held new), (Err stop.NoFuel, new, r, refl), refl)
settled p t post words h (Err stop.Stuck) new r = (Stuck, (Err stop.Stuck, new, r, refl), refl)
settled p t post words h (Err stop.Memory) new r = tt
