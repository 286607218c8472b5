-- Values that are passed behind a move (Component Model, CanonicalABI.md, "Lifting and Lowering Values"): arguments of the acting task, which enters,
-- its result, or elements that go over.
use Rattle.std.specs.Prelude.{◌≡◌, ℕ, List, Option, Some, None}
use Rattle.entry_gate.specs.declared.kind.Kind.{Kind}
use Rattle.entry_gate.specs.declared.kind.Kind.TheVariants.{Sync, Callback, Stackful}
use Rattle.comp_graph.specs.declared.graph.Lift.{Lift}
use Rattle.graph_views.specs.Callees.{lift_of}
use Rattle.programs.specs.declared.program.Program.{Program}
use Rattle.world_parts.specs.declared.parts.Rest.{Rest}
use Rattle.world_parts.specs.declared.parts.Rest.TheVariants as rest
use Rattle.world_parts.specs.declared.parts.Flow.{Flow}
use Rattle.world_parts.specs.declared.parts.Flow.TheVariants as flow
use Rattle.world_parts.specs.Held.{Held, Done, Gives, Stuck, after, given}
use Rattle.world_parts.specs.Feed.{acting}
use Rattle.world_parts.specs.Slots.{callee_of, kind_of, word_in}
use Rattle.world_parts.specs.Going.{ending, loops}
use Rattle.value_parts.specs.declared.to_pass.Passing.{Passing}
use Rattle.value_parts.specs.declared.to_pass.Passing.TheVariants as passing
use Rattle.value_parts.specs.Coming.{Behind, Then}
use Rattle.value_moves.specs.Entering.{Enters}
use Rattle.value_moves.specs.Resolving.{Ends, Returns}
use Rattle.value_moves.specs.Transferring.{Transfers}

-- The core function or the callback of a task has ended with these words, by how its function is lifted.
abbrev pub lift_at : Program → ℕ → Held → Done Lift
lift_at p t h = after (callee_of t h) (λ callee k. given (lift_of p.graph.now callee) (λ lift. Gives lift k))

-- One that is lifted with `async` exits, or blocks in its loop.
abbrev pub async_ended : ℕ → Kind → List ℕ → Held → Done Flow
async_ended t Sync words h = Stuck
async_ended t Callback words h = given (word_in words 0) (λ word. loops t word h)
async_ended t Stackful words h = ending t h

-- One that is lifted without it resolves.
abbrev pub SyncEnds : Program → ℕ → List ℕ → Held → Done Flow → Type 0
SyncEnds p t words h d =
    Behind (lift_at p t h) (λ lift k e. Then (Ends p t lift.options.post_return words k) (λ done l f. f ≡ Gives flow.Rests l) e) d

abbrev pub KindEnds : Program → ℕ → List ℕ → Kind → Held → Done Flow → Type 0
KindEnds p t words Sync h d = SyncEnds p t words h d
KindEnds p t words Callback h d = d ≡ async_ended t Callback words h
KindEnds p t words Stackful h d = d ≡ async_ended t Stackful words h

abbrev pub FuncEnds : Program → ℕ → List ℕ → Held → Done Flow → Type 0
FuncEnds p t words h d = Behind (kind_of t h) (λ kind k e. KindEnds p t words kind k e) d

-- the canonical function at whose call the acting task is
abbrev pub call_at : Rest → Option ℕ
call_at (rest.Instantiates number) = None
call_at rest.Free = None
call_at rest.Arrives = None
call_at rest.Goes = None
call_at rest.Resumes = None
call_at rest.Back = None
call_at rest.Runs = None
call_at (rest.Calls number) = Some number
call_at rest.Leaves = None

abbrev pub ReturnsBy : Program → ℕ → Option ℕ → Held → Done Flow → Type 0
ReturnsBy p t None h d = d ≡ Stuck
ReturnsBy p t (Some canon) h d = Returns p t canon h d

-- What is passed for a task.
abbrev pub PassesFor : Program → ℕ → Passing → Held → Done Flow → Type 0
PassesFor p t passing.Nothing h d = d ≡ Gives flow.Rests h
PassesFor p t passing.Arguments h d = Enters p t h d
PassesFor p t passing.Returned h d = ReturnsBy p t (call_at h.rest) h d
PassesFor p t (passing.Ended words) h d = FuncEnds p t words h d
PassesFor p t (passing.Elements copying) h d = Transfers p t copying h d

-- It is passed for the acting task.
abbrev pub Passes : Program → Passing → Held → Done Flow → Type 0
Passes p x h d = Behind (acting h) (λ t k e. PassesFor p t x k e) d
