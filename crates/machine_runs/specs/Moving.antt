-- Moves (Component Model, Concurrency.md, "Summary"): from a rest up to the next one, or up to where values are to be passed.
use Rattle.std.specs.Prelude.{◌≡◌, ℕ, ◌-◌, List, length, Option, Some, None, Result, Ok, Err}
use Rattle.std.specs.List.{slice_get}
use Rattle.wasm_store.specs.Store.{Store}
use Rattle.comp_graph.specs.Graph.{Graph}
use Rattle.world_parts.specs.declared.parts.Parts.{Parts}
use Rattle.world_parts.specs.declared.parts.Rest.{Rest}
use Rattle.world_parts.specs.declared.parts.Rest.TheVariants as rest
use Rattle.world_parts.specs.declared.parts.Flow.{Flow}
use Rattle.world_parts.specs.declared.parts.Flow.TheVariants as flow
use Rattle.world_parts.specs.declared.parts.Stop.{Stop}
use Rattle.world_parts.specs.declared.parts.Stop.TheVariants as stop
use Rattle.world_parts.specs.Held.{Held, Done, Gives, Stuck, after}
use Rattle.world_parts.specs.Calls.{back}
use Rattle.world_parts.specs.Going.{arrives, leaves, resumes}
use Rattle.world_parts.specs.Turning.{goes}
use Rattle.world_stacks.specs.Views.{PileView}
use Rattle.world_stacks.specs.Piles.{PileTyped}
use Rattle.world_stacks.specs.Running.{RunsAt}
use Rattle.world_stacks.specs.Instantiating.{instantiates}
use Rattle.replies.specs.Seen.{seen}
use Rattle.value_parts.specs.declared.to_pass.Passing.{Passing}
use Rattle.value_parts.specs.declared.to_pass.Passing.TheVariants as passing
use Rattle.machine_runs.specs.Calling.{calls}
use Rattle.machine_runs.specs.Following.{followed}

-- What tasks do at a rest. Where code runs, where task 0 instantiates, and where no task runs, this is none of their rules.
abbrev pub woken : Graph → List (Option ℕ) → Rest → Held → Done Flow
woken g types (rest.Instantiates number) h = Stuck
woken g types rest.Free h = Stuck
woken g types rest.Arrives h = arrives h
woken g types rest.Goes h = after (goes h) (λ done k. Gives flow.Rests k)
woken g types rest.Resumes h = resumes h
woken g types rest.Back h = back (seen g) h
woken g types rest.Runs h = Stuck
woken g types (rest.Calls number) h = calls g types number h
woken g types rest.Leaves h = leaves h

unfoldable pub moved_on : Graph → List (Option ℕ) → Rest → List PileView → Held → Done (Passing × List PileView)
moved_on g types r piles h = after (woken g types r h) (λ f k. followed (seen g) f piles k)

unfoldable pub instantiated : Graph → ℕ → List PileView → Held → Done (Passing × List PileView)
instantiated g number piles h = after (instantiates g number piles h) (λ r k. Gives (passing.Nothing, r.1) k)

-- One move, by where the run is, but for code that runs.
abbrev pub moves : Graph → List (Option ℕ) → Rest → List PileView → Held → Done (Passing × List PileView)
moves g types (rest.Instantiates number) piles h = instantiated g number piles h
moves g types rest.Free piles h = moved_on g types rest.Free piles h
moves g types rest.Arrives piles h = moved_on g types rest.Arrives piles h
moves g types rest.Goes piles h = moved_on g types rest.Goes piles h
moves g types rest.Resumes piles h = moved_on g types rest.Resumes piles h
moves g types rest.Back piles h = moved_on g types rest.Back piles h
moves g types rest.Runs piles h = moved_on g types rest.Runs piles h
moves g types (rest.Calls number) piles h = moved_on g types (rest.Calls number) piles h
moves g types rest.Leaves piles h = moved_on g types rest.Leaves piles h

-- The acting task, if there is one, and that its stack is typed where it is to run.
abbrev pub acting_of : Held → Option ℕ
acting_of h = slice_get h.chain (length h.chain - 1)

abbrev pub TypedOf : Store → List PileView → Option ℕ → Type 0
TypedOf s piles None = Unit {0}
TypedOf s piles (Some t) = PileTyped s (slice_get piles t)

abbrev pub IsActingTyped : Held → List PileView → Type 0
IsActingTyped h piles = TypedOf h.store piles (acting_of h)

-- The acting task's stack runs. Where the task's function has ended with words these are to be passed on.
abbrev pub passing_of : Result (Option (List ℕ)) Stop → Result Passing Stop
passing_of (Ok None) = Ok passing.Nothing
passing_of (Ok (Some words)) = Ok (passing.Ended words)
passing_of (Err why) = Err why

abbrev pub RunMoves : Option ℕ → List PileView → Held → Result Passing Stop → Parts → List PileView → Type 0
RunMoves None piles h result new later = result ≡ Err stop.Stuck
RunMoves (Some t) piles h result new later =
    (ended : Result (Option (List ℕ)) Stop) × RunsAt (slice_get piles t) t piles h ended new later × (result ≡ passing_of ended)
