-- Graphs of synchronous functions (Component Model, CanonicalABI.md, `canon lift` and `canon lower`): all that the machine of
-- synchronous calls runs. No resource is defined, no core function is a built-in, and neither a lift nor a lower has `async`.
use Rattle.std.specs.Prelude.{◌≡◌, ◌==◌, Bool, false, not, ◌&&◌, [], length}
use Rattle.std.specs.List.{AllByRecursion, list_all}
use Rattle.comp_graph.specs.declared.graph.Lift.{Lift}
use Rattle.comp_graph.specs.declared.graph.CanonFunc.{CanonFunc}
use Rattle.comp_graph.specs.declared.graph.CanonFunc.TheVariants as canon_func
use Rattle.comp_graph.specs.Graph.{Graph}

abbrev pub IsSyncLift : Lift → Type 0
IsSyncLift lift = lift.options.is_async ≡ false

abbrev pub IsSyncCanon : CanonFunc → Type 0
IsSyncCanon (canon_func.Lower l) = (l.options.is_async ≡ false) × IsSyncLift l.lift
IsSyncCanon (canon_func.Builtin b) = ⊥

pub record IsSync (g : Graph) : Type 0 where
  pub canons : AllByRecursion IsSyncCanon g.canons
  pub lifts : AllByRecursion IsSyncLift g.lifts
  pub resources : g.resources ≡ []

-- The same as tests.

abbrev pub is_sync_lift : Lift → Bool
is_sync_lift lift = not lift.options.is_async

abbrev pub is_sync_canon : CanonFunc → Bool
is_sync_canon (canon_func.Lower l) = not l.options.is_async && is_sync_lift l.lift
is_sync_canon (canon_func.Builtin b) = false

abbrev pub runs_now : Graph → Bool
runs_now g = list_all is_sync_canon g.canons && list_all is_sync_lift g.lifts && (length g.resources == 0)
