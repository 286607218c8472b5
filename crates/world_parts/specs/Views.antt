-- What the parts ask of a graph (Component Model, CanonicalABI.md, "Canonical ABI Options"): of a canonical function by its number its flag,
-- whether a call by it goes on before what it began is done, what else it uses, and whether a component instance made it; of what a task
-- runs how it is lifted; and a resource by its number.
use Rattle.std.specs.Prelude.{ℕ, Bool, Option}
use Rattle.task_table.specs.declared.errand.Callee.{Callee}
use Rattle.comp_graph.specs.declared.graph.Options.{Options}
use Rattle.comp_graph.specs.declared.graph.Lift.{Lift}
use Rattle.comp_graph.specs.declared.graph.Resource.{Resource}

pub record Views : Type 0 where
  pub flag : ℕ → Bool
  pub is_async : ℕ → Bool
  pub options : ℕ → Options
  pub made_in : ℕ → ℕ → Bool
  pub lift : Callee → Option Lift
  pub resource : ℕ → Option Resource
