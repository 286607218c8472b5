-- Moves and turns keep stacks typed, and lend no handle more often.
use Rattle.std.proofs.Common.{◌≡◌, ℕ, List, length, Option, Some, None, map, refl}
use Rattle.std.specs.List.{slice_get}
use Rattle.syntax_trees.specs.declared.exports.Export.{Export}
use Rattle.script_reader.specs.declared.script.Call.{Call}
use Rattle.script_reader.specs.declared.script.Item.{Item}
use Rattle.script_reader.specs.declared.script.Item.TheVariants as item
use Rattle.graph_views.specs.Callees.{kind_of}
use Rattle.comp_graph.specs.declared.graph.Lift.{Lift}
use Rattle.comp_graph.specs.Graph.{Graph}
use Rattle.programs.specs.declared.program.CallNumbers.{CallNumbers}
use Rattle.programs.specs.declared.program.Program.{Program}
use Rattle.programs.specs.Typed.{typed}
use Rattle.world_parts.specs.declared.parts.Rest.{Rest}
use Rattle.world_parts.specs.declared.parts.Rest.TheVariants as rest
use Rattle.world_parts.specs.declared.parts.Flow.{Flow}
use Rattle.world_parts.specs.declared.parts.Flow.TheVariants as flow
use Rattle.world_parts.specs.declared.parts.Turned.{Turned}
use Rattle.world_parts.specs.declared.parts.Turned.TheVariants as turned
use Rattle.world_parts.specs.Held.{Held, Done, Gives, Stuck, after, given}
use Rattle.world_parts.specs.Calls.{back}
use Rattle.world_parts.specs.Going.{arrives, leaves, resumes}
use Rattle.world_parts.specs.Turning.{able, goes, call_taken, call_cancelled, turns_by}
use Rattle.world_stacks.specs.Views.{PileView}
use Rattle.world_stacks.specs.Instantiating.{instantiates}
use Rattle.replies.specs.Seen.{seen}
use Rattle.value_parts.specs.declared.to_pass.Passing.{Passing}
use Rattle.value_parts.specs.declared.to_pass.Passing.TheVariants as passing
use Rattle.value_parts.proofs.fit.Keeps.{KeepsBy, keeps_after, keeps_given, keeps_same}
use Rattle.value_parts.proofs.fit.Calls.{back_keeps}
use Rattle.value_parts.proofs.fit.Going.{arrives_keeps, leaves_keeps, resumes_keeps}
use Rattle.value_parts.proofs.fit.Turning.{goes_keeps, call_taken_keeps, call_cancelled_keeps, turns_by_keeps}
use Rattle.machine_runs.specs.declared.stepping.Step.{Step}
use Rattle.machine_runs.specs.declared.stepping.Step.TheVariants as step
use Rattle.machine_runs.specs.Calling.{calls}
use Rattle.machine_runs.specs.Following.{with_piles, followed}
use Rattle.machine_runs.specs.Moving.{woken, moved_on, instantiated, moves}
use Rattle.machine_runs.specs.Turning.{has_item, call_by, call_of, item_done, next_item_taken, turned_so, turns}
use Rattle.machine_runs.specs.Stepping.{step_of_turn, turn_steps, move_steps}
use Rattle.machine_runs.specs.Fit.{ModulesFit}
use Rattle.machine_runs.proofs.fit.Calling.{calls_keeps}
use Rattle.machine_runs.proofs.fit.Stacks.{FitsBy, fits_after, fits_then, fits_given, fits_piles, fits_same}
use Rattle.machine_runs.proofs.fit.Following.{with_piles_fits, followed_fits}
use Rattle.machine_runs.proofs.fit.Instantiating.{instantiates_fits}

woken_keeps : (g : Graph) (types : List (Option ℕ)) (r : Rest) (h : Held) → KeepsBy h (woken g types r h)
woken_keeps g types (rest.Instantiates number) h = tt
woken_keeps g types rest.Free h = tt
woken_keeps g types rest.Arrives h = arrives_keeps h
woken_keeps g types rest.Goes h = keeps_after h (goes h) (λ done k. Gives flow.Rests k) (goes_keeps h) (λ done k. keeps_same k)
woken_keeps g types rest.Resumes h = resumes_keeps h
woken_keeps g types rest.Back h = back_keeps (seen g) h
woken_keeps g types rest.Runs h = tt
woken_keeps g types (rest.Calls number) h = calls_keeps g types number h
woken_keeps g types rest.Leaves h = leaves_keeps h

moved_on_fits : (g : Graph) (types : List (Option ℕ)) (r : Rest) (piles : List PileView) (h : Held) → FitsBy h piles (moved_on g types r piles h)
unfolding moved_on
moved_on_fits g types r piles h =
    fits_after h piles (woken g types r h) (λ f k. followed (seen g) f piles k) (woken_keeps g types r h) (λ f k. followed_fits (seen g) f piles k)

instantiated_fits : (g : Graph) (number : ℕ) (piles : List PileView) (h : Held) → ModulesFit g → FitsBy h piles (instantiated g number piles h)
unfolding instantiated
instantiated_fits g number piles h fit =
    fits_then h piles (instantiates g number piles h) (λ r k. Gives (passing.Nothing, r.1) k) (instantiates_fits g number piles h fit)
    (λ r k. fits_same k r.1 passing.Nothing)

moves_fits : (g : Graph) (types : List (Option ℕ)) (r : Rest) (piles : List PileView) (h : Held) → ModulesFit g → FitsBy h piles (moves g types r piles h)
moves_fits g types (rest.Instantiates number) piles h fit = instantiated_fits g number piles h fit
moves_fits g types rest.Free piles h fit = moved_on_fits g types rest.Free piles h
moves_fits g types rest.Arrives piles h fit = moved_on_fits g types rest.Arrives piles h
moves_fits g types rest.Goes piles h fit = moved_on_fits g types rest.Goes piles h
moves_fits g types rest.Resumes piles h fit = moved_on_fits g types rest.Resumes piles h
moves_fits g types rest.Back piles h fit = moved_on_fits g types rest.Back piles h
moves_fits g types rest.Runs piles h fit = moved_on_fits g types rest.Runs piles h
moves_fits g types (rest.Calls number) piles h fit = moved_on_fits g types (rest.Calls number) piles h
moves_fits g types rest.Leaves piles h fit = moved_on_fits g types rest.Leaves piles h

pub move_steps_fits : (p : Program) (piles : List PileView) (h : Held) → ModulesFit p.graph.now → FitsBy h piles (move_steps p piles h)
move_steps_fits p piles h fit =
    fits_then h piles (moves p.graph.now p.ends.now h.rest piles h) (λ r k. Gives (step.GoesOn r.0, r.1) k) (moves_fits p.graph.now p.ends.now h.rest piles h fit)
    (λ r k. fits_same k r.1 (step.GoesOn r.0))

-- Turns.
call_by_keeps : (number : ℕ) (e : Export) (lift : Lift) (call : Call) (h : Held) → KeepsBy h (call_by number e lift call h)
call_by_keeps number e lift call h =
    call_taken_keeps number lift.instance (kind_of lift.options) call.name (typed (map (λ p. p.val_type) e.func_type.params) call.values) h

call_of_keeps : (g : Graph) (numbers : CallNumbers) (call : Call) (h : Held) → KeepsBy h (call_of g numbers call h)
call_of_keeps g numbers call h =
    keeps_given h (slice_get g.exports numbers.export) (λ e. given (slice_get g.lifts numbers.export) (λ lift. call_by numbers.export e lift call h))
    (λ e is.
    keeps_given h (slice_get g.lifts numbers.export) (λ lift. call_by numbers.export e lift call h) (λ lift there. call_by_keeps numbers.export e lift call h))

item_done_keeps : (p : Program) (x : Item) (h : Held) → KeepsBy h (item_done p x h)
item_done_keeps p (item.Call call) h =
    keeps_given h (slice_get p.calls.items (length h.calls)) (λ numbers. call_of p.graph.now numbers call h) (λ numbers is. call_of_keeps p.graph.now numbers call h)
item_done_keeps p (item.Cancel call) h = call_cancelled_keeps call h

next_item_fits : (p : Program) (piles : List PileView) (h : Held) → FitsBy h piles (next_item_taken p piles h)
unfolding next_item_taken
next_item_fits p piles h =
    fits_given h piles (slice_get p.script.now.items h.taken)
    (λ next. after (item_done p next h) (λ f k. Gives (turned.TakesItem, with_piles (length k.tasks) piles) k))
    (λ next is.
    fits_after h piles (item_done p next h) (λ f k. Gives (turned.TakesItem, with_piles (length k.tasks) piles) k) (item_done_keeps p next h)
    (λ f k.
    fits_piles k k piles (with_piles (length k.tasks) piles) turned.TakesItem refl refl (λ typed fit. with_piles_fits k.store (length k.tasks) piles fit)))

turned_so_fits : (p : Program) (what : Turned) (piles : List PileView) (h : Held) → FitsBy h piles (turned_so p what piles h)
turned_so_fits p turned.Ends piles h = fits_same h piles turned.Ends
turned_so_fits p turned.TakesItem piles h = next_item_fits p piles h
turned_so_fits p turned.GoesOn piles h = fits_same h piles turned.GoesOn

turns_fits : (p : Program) (piles : List PileView) (h : Held) → FitsBy h piles (turns p piles h)
unfolding turns
turns_fits p piles h =
    fits_after h piles (turns_by (has_item p h) (able (seen p.graph.now) h) h) (λ what k. turned_so p what piles k) (turns_by_keeps (has_item p h) (able (seen p.graph.now) h) h)
    (λ what k. turned_so_fits p what piles k)

pub turn_steps_fits : (p : Program) (piles : List PileView) (h : Held) → FitsBy h piles (turn_steps p piles h)
turn_steps_fits p piles h =
    fits_then h piles (turns p piles h) (λ r k. Gives (step_of_turn r.0, r.1) k) (turns_fits p piles h) (λ r k. fits_same k r.1 (step_of_turn r.0))
