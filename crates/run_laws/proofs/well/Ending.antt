-- Whatever values are passed, what is kept well stays so.
use Rattle.std.proofs.Common.{◌≡◌, ℕ, List, Option, Some}
use Rattle.entry_gate.specs.declared.kind.Kind.{Kind}
use Rattle.entry_gate.specs.declared.kind.Kind.TheVariants.{Sync, Callback, Stackful}
use Rattle.comp_graph.specs.declared.graph.FuncRef.{FuncRef}
use Rattle.graph_views.specs.Callees.{lift_of}
use Rattle.programs.specs.declared.program.Program.{Program}
use Rattle.world_parts.specs.declared.parts.Flow.{Flow}
use Rattle.world_parts.specs.declared.parts.Flow.TheVariants as flow
use Rattle.world_parts.specs.Held.{Held, Done, Gives, given}
use Rattle.world_parts.specs.Feed.{acting}
use Rattle.world_parts.specs.Slots.{callee_of, kind_of, word_in}
use Rattle.world_parts.specs.Going.{ending, loops}
use Rattle.value_parts.specs.declared.to_pass.Passing.{Passing}
use Rattle.value_parts.specs.declared.to_pass.Passing.TheVariants as passing
use Rattle.value_parts.specs.Coming.{Then}
use Rattle.value_parts.specs.Passing.{ended_lifted}
use Rattle.value_moves.specs.Resolving.{Resolves, ResolvesEnded, PostReturnsTo, Ends}
use Rattle.value_moves.specs.Passing.{lift_at, async_ended, SyncEnds, KindEnds, FuncEnds, call_at, PassesFor, Passes}
use Rattle.run_laws.specs.keeping.Well.{KeepsWell}
use Rattle.run_laws.specs.keeping.WellKept.{PassingsKeepWell}
use Rattle.run_laws.proofs.well.Behind.{well_after, well_given, well_same}
use Rattle.run_laws.proofs.well.Coming.{well_as, well_coming, well_then}
use Rattle.run_laws.proofs.well.Feed.{acting_well}
use Rattle.run_laws.proofs.well.Going.{ending_well, loops_well}
use Rattle.run_laws.proofs.well.Lifted.{ended_lifted_well}
use Rattle.run_laws.proofs.well.Nested.{post_returns_well}
use Rattle.run_laws.proofs.well.Passed.{enters_well_for, resolves_well, returned_by_well, transfers_well}
use Rattle.run_laws.proofs.well.Slots.{callee_of_well, kind_of_well}

lift_at_well : (p : Program) (t : ℕ) (h : Held) → KeepsWell h (lift_at p t h)
lift_at_well p t h =
    well_after h (callee_of t h) (λ callee k. given (lift_of p.graph.now callee) (λ lift. Gives lift k)) (callee_of_well t h)
    (λ callee k. well_given k (lift_of p.graph.now callee) (λ lift. Gives lift k) (λ lift is. well_same k))

resolves_ended_well : (p : Program) (t : ℕ) (words : List ℕ) (h : Held) (d : Done (Unit {0})) → ResolvesEnded p t words h d → KeepsWell h d
resolves_ended_well p t words h d b =
    well_coming h (ended_lifted p t words h) (λ value k e. Resolves p t value k e) d (ended_lifted_well p t words h) (λ value k is. resolves_well p t value k d is) b

ends_well : (p : Program) (t : ℕ) (post : Option FuncRef) (words : List ℕ) (h : Held) (d : Done (Unit {0})) → Ends p t post words h d → KeepsWell h d
ends_well p t post words h d b =
    well_then h (ResolvesEnded p t words h) (λ done k e. PostReturnsTo p t post words k e) d (λ e is. resolves_ended_well p t words h e is)
    (λ done k is. post_returns_well p t post words k d is) b

sync_well : (p : Program) (t : ℕ) (words : List ℕ) (h : Held) (d : Done Flow) → SyncEnds p t words h d → KeepsWell h d
sync_well p t words h d b =
    well_coming h (lift_at p t h) (λ lift k e. Then (Ends p t lift.options.post_return words k) (λ done l f. f ≡ Gives flow.Rests l) e) d (lift_at_well p t h)
    (λ lift k is.
    well_then k (Ends p t lift.options.post_return words k) (λ done l f. f ≡ Gives flow.Rests l) d (λ e ends. ends_well p t lift.options.post_return words k e ends)
    (λ done l same. well_as l d (Gives flow.Rests l) (well_same l) same) is) b

kind_well : (p : Program) (t : ℕ) (words : List ℕ) (kind : Kind) (h : Held) (d : Done Flow) → KindEnds p t words kind h d → KeepsWell h d
kind_well p t words Sync h d b = sync_well p t words h d b
kind_well p t words Callback h d b =
    well_as h d (async_ended t Callback words h) (well_given h (word_in words 0) (λ word. loops t word h) (λ word is. loops_well t word h)) b
kind_well p t words Stackful h d b = well_as h d (async_ended t Stackful words h) (ending_well t h) b

func_well : (p : Program) (t : ℕ) (words : List ℕ) (h : Held) (d : Done Flow) → FuncEnds p t words h d → KeepsWell h d
func_well p t words h d b = well_coming h (kind_of t h) (λ kind k e. KindEnds p t words kind k e) d (kind_of_well t h) (λ kind k is. kind_well p t words kind k d is) b

passes_well : (p : Program) (t : ℕ) (x : Passing) (h : Held) (d : Done Flow) → PassesFor p t x h d → KeepsWell h d
passes_well p t passing.Nothing h d b = well_as h d (Gives flow.Rests h) (well_same h) b
passes_well p t passing.Arguments h d b = enters_well_for p t h d b
passes_well p t passing.Returned h d b = returned_by_well p t (call_at h.rest) h d b
passes_well p t (passing.Ended words) h d b = func_well p t words h d b
passes_well p t (passing.Elements copying) h d b = transfers_well p t copying h d b

pub passings_keep_well : PassingsKeepWell
passings_keep_well p x h d b = well_coming h (acting h) (λ t k e. PassesFor p t x k e) d (acting_well h) (λ t k is. passes_well p t x k d is) b
