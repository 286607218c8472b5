-- Where a move comes to values that are to be passed, no handle is lent where none stands, if this was so before it.
use Rattle.std.proofs.Common.{◌≡◌, ℕ, Bool, true, false, if◌then◌else◌, List, [], slice_set, Option, Some, None, refl, sym, subst}
use Rattle.std.specs.List.{slice_get}
use Rattle.wasm_execution.specs.declared.running.Outcome.{Outcome}
use Rattle.wasm_execution.specs.declared.running.Outcome.TheVariants as outcome
use Rattle.comp_graph.specs.declared.graph.FuncRef.{FuncRef}
use Rattle.comp_graph.specs.Graph.{Graph}
use Rattle.tasks.specs.Tasks.{is_acting}
use Rattle.task_table.specs.declared.errand.Errand.{Errand}
use Rattle.task_table.specs.declared.errand.Errand.TheVariants as errand
use Rattle.trace_labels.specs.declared.label.Label.TheVariants as line
use Rattle.replies.specs.Seen.{seen}
use Rattle.world_parts.specs.declared.parts.Flow.{Flow}
use Rattle.world_parts.specs.declared.parts.Flow.TheVariants as flow
use Rattle.world_parts.specs.declared.parts.Rest.{Rest}
use Rattle.world_parts.specs.declared.parts.Rest.TheVariants as rest
use Rattle.world_parts.specs.declared.parts.Turned.{Turned}
use Rattle.world_parts.specs.declared.parts.Turned.TheVariants as turned
use Rattle.world_parts.specs.Views.{Views}
use Rattle.world_parts.specs.Held.{Held, Done, Gives, Traps, Spent, Stuck, after, given}
use Rattle.world_parts.specs.Events.{delivers, polls, received_none, received_cancel}
use Rattle.world_parts.specs.Feed.{acting, told, at_rest}
use Rattle.world_parts.specs.Slots.{instance_of, phase_of, errand_of, errand_set}
use Rattle.world_stacks.specs.declared.top.Top.{Top}
use Rattle.world_stacks.specs.declared.top.Top.TheVariants as top
use Rattle.world_stacks.specs.Instantiating.{instantiates}
use Rattle.world_stacks.specs.Views.{PileView}
use Rattle.world_stacks.specs.Piles.{with_top, unstacked, gone_on, at_pile}
use Rattle.world_stacks.specs.Moving.{started_on}
use Rattle.world_stacks.specs.Running.{called, ended_at, last_ended, ended_over}
use Rattle.value_parts.specs.declared.to_pass.Passing.{Passing}
use Rattle.value_parts.specs.declared.to_pass.Passing.TheVariants as passing
use Rattle.programs.specs.declared.program.Program.{Program}
use Rattle.machine_runs.specs.declared.stepping.Step.{Step}
use Rattle.machine_runs.specs.declared.stepping.Step.TheVariants as step
use Rattle.machine_runs.specs.Following.{answered_now, started_now, stacked, followed}
use Rattle.machine_runs.specs.Moving.{woken, moved_on, instantiated, moves, acting_of}
use Rattle.machine_runs.specs.Stepping.{step_of_turn, move_steps, turn_steps, outcome_done, TopComes, PileSteps, TaskSteps, RestSteps, passing_behind}
use Rattle.machine_runs.specs.Turning.{turns}
use Rattle.value_parts.specs.Coming.{Behind}
use Rattle.abi_machine.proofs.sound.Found.{some_same}
use Rattle.run_laws.specs.keeping.Still.{PassesValues, KeepsLent, MoveKeepsLent}
use Rattle.run_laws.proofs.plain.Events.{delivers_plain, polls_plain, received_none_plain, received_cancel_plain}
use Rattle.run_laws.proofs.plain.Only.{IsPlain, PlainBy, plain_after}
use Rattle.run_laws.proofs.keeping.still.Lent.{IsPassed, LentBy, SoBy, BehindBy, NeverOf, lent_same, lent_all, lent_given, so_through, so_after, so_given, so_if, so_behind, never_so, never_behind, no_after, no_given}
use Rattle.run_laws.proofs.keeping.still.Values.{woken_pass}

-- What follows a part: stacks, and an event that comes.
abbrev IsValues : Passing → Type 0
IsValues passing.Nothing = ⊥
IsValues passing.Arguments = Unit {0}
IsValues passing.Returned = Unit {0}
IsValues (passing.Ended words) = Unit {0}
IsValues (passing.Elements copying) = Unit {0}

abbrev HasValues : Passing × List PileView → Type 0
HasValues r = IsValues r.0

now_never : (words : List ℕ) (piles : List PileView) (h : Held) → NeverOf HasValues (answered_now words piles h)
now_never words piles h =
    no_after HasValues (acting h) (λ t k. given (at_pile (gone_on k.store words) t piles) (λ r. Gives (passing.Nothing, r.1) k))
    (λ t k. no_given HasValues (at_pile (gone_on k.store words) t piles) (λ r. Gives (passing.Nothing, r.1) k) (λ r so. so))

start_never : (func : FuncRef) (words : List ℕ) (piles : List PileView) (h : Held) → NeverOf HasValues (started_now func words piles h)
start_never func words piles h =
    no_after HasValues (acting h) (λ t k. after (started_on t func words piles k) (λ r l. Gives (passing.Nothing, r.1) l))
    (λ t k. no_after HasValues (started_on t func words piles k) (λ r l. Gives (passing.Nothing, r.1) l) (λ r l so. so))

plain_stacked : (f : Flow) (piles : List PileView) (h : Held) → IsPlain f → NeverOf HasValues (stacked f piles h)
plain_stacked (flow.Now words) piles h p = now_never words piles h
plain_stacked flow.Rests piles h p = λ so. so
plain_stacked (flow.Starts func words) piles h p = start_never func words piles h
plain_stacked flow.Enters piles h p = absurd p
plain_stacked flow.Returns piles h p = absurd p
plain_stacked (flow.Copies copying) piles h p = absurd p
plain_stacked (flow.Delivers r set) piles h p = tt
plain_stacked (flow.Polls r set) piles h p = tt
plain_stacked (flow.HearsNone r) piles h p = tt
plain_stacked (flow.HearsCancel r) piles h p = tt

plain_never : (d : Done Flow) (piles : List PileView) → PlainBy d → NeverOf HasValues (after d (λ e k. stacked e piles k))
plain_never (Gives x k) piles p = plain_stacked x piles k p
plain_never (Traps why k) piles p = tt
plain_never (Spent k) piles p = tt
plain_never Stuck piles p = tt

passed_on : (g : Views) (f : Flow) (piles : List PileView) (h : Held) → BehindBy (IsPassed f) HasValues h (followed g f piles h)
unfolding followed
passed_on g (flow.Now words) piles h = never_behind ⊥ HasValues h (answered_now words piles h) (now_never words piles h)
passed_on g flow.Rests piles h = λ so. absurd so
passed_on g (flow.Starts func words) piles h = never_behind ⊥ HasValues h (started_now func words piles h) (start_never func words piles h)
passed_on g flow.Enters piles h = λ so. (tt, lent_same h)
passed_on g flow.Returns piles h = λ so. (tt, lent_same h)
passed_on g (flow.Copies copying) piles h = λ so. (tt, lent_same h)
passed_on g (flow.Delivers r set) piles h =
    let d : Done Flow = after (acting h) (λ t k. after (instance_of t k) (λ at l. delivers g t at r set l)) in
    never_behind ⊥ HasValues h (after d (λ e k. stacked e piles k))
    (plain_never d piles
    (plain_after (acting h) (λ t k. after (instance_of t k) (λ at l. delivers g t at r set l))
    (λ t k. plain_after (instance_of t k) (λ at l. delivers g t at r set l) (λ at l. delivers_plain g t at r set l))))
passed_on g (flow.Polls r set) piles h =
    let d : Done Flow = after (acting h) (λ t k. after (instance_of t k) (λ at l. polls g t at r set l)) in
    never_behind ⊥ HasValues h (after d (λ e k. stacked e piles k))
    (plain_never d piles
    (plain_after (acting h) (λ t k. after (instance_of t k) (λ at l. polls g t at r set l))
    (λ t k. plain_after (instance_of t k) (λ at l. polls g t at r set l) (λ at l. polls_plain g t at r set l))))
passed_on g (flow.HearsNone r) piles h =
    let d : Done Flow = after (acting h) (λ t k. received_none g t r k) in
    never_behind ⊥ HasValues h (after d (λ e k. stacked e piles k)) (plain_never d piles (plain_after (acting h) (λ t k. received_none g t r k) (λ t k. received_none_plain g t r k)))
passed_on g (flow.HearsCancel r) piles h =
    let d : Done Flow = after (acting h) (λ t k. received_cancel g t r k) in
    never_behind ⊥ HasValues h (after d (λ e k. stacked e piles k)) (plain_never d piles (plain_after (acting h) (λ t k. received_cancel g t r k) (λ t k. received_cancel_plain g t r k)))

-- Moves.
moved_pass : (g : Graph) (types : List (Option ℕ)) (r : Rest) (piles : List PileView) (h : Held) → SoBy HasValues h (moved_on g types r piles h)
unfolding moved_on
moved_pass g types r piles h = so_behind IsPassed HasValues h (woken g types r h) (λ f k. followed (seen g) f piles k) (woken_pass g types r h) (λ f k. passed_on (seen g) f piles k)

made_never : (g : Graph) (number : ℕ) (piles : List PileView) (h : Held) → NeverOf HasValues (instantiated g number piles h)
unfolding instantiated
made_never g number piles h = no_after HasValues (instantiates g number piles h) (λ r k. Gives (passing.Nothing, r.1) k) (λ r k so. so)

moves_pass : (g : Graph) (types : List (Option ℕ)) (r : Rest) (piles : List PileView) (h : Held) → SoBy HasValues h (moves g types r piles h)
moves_pass g types (rest.Instantiates number) piles h = never_so HasValues h (instantiated g number piles h) (made_never g number piles h)
moves_pass g types rest.Free piles h = moved_pass g types rest.Free piles h
moves_pass g types rest.Arrives piles h = moved_pass g types rest.Arrives piles h
moves_pass g types rest.Goes piles h = moved_pass g types rest.Goes piles h
moves_pass g types rest.Resumes piles h = moved_pass g types rest.Resumes piles h
moves_pass g types rest.Back piles h = moved_pass g types rest.Back piles h
moves_pass g types rest.Runs piles h = moved_pass g types rest.Runs piles h
moves_pass g types (rest.Calls number) piles h = moved_pass g types (rest.Calls number) piles h
moves_pass g types rest.Leaves piles h = moved_pass g types rest.Leaves piles h

abbrev GoesToValues : Step × List PileView → Type 0
GoesToValues r = PassesValues r.0

as_step : (x : Passing) → PassesValues (step.GoesOn x) → IsValues x
as_step passing.Nothing so = so
as_step passing.Arguments so = tt
as_step passing.Returned so = tt
as_step (passing.Ended words) so = tt
as_step (passing.Elements copying) so = tt

move_pass : (p : Program) (piles : List PileView) (h : Held) → SoBy GoesToValues h (move_steps p piles h)
move_pass p piles h =
    so_behind HasValues GoesToValues h (moves p.graph.now p.ends.now h.rest piles h) (λ r k. Gives (step.GoesOn r.0, r.1) k) (moves_pass p.graph.now p.ends.now h.rest piles h)
    (λ r k so. (as_step r.0 so, lent_same k))

-- Turns.
turn_none : (x : Turned) → PassesValues (step_of_turn x) → ⊥
turn_none turned.Ends so = so
turn_none turned.TakesItem so = so
turn_none turned.GoesOn so = so

turn_never : (p : Program) (piles : List PileView) (h : Held) → NeverOf GoesToValues (turn_steps p piles h)
turn_never p piles h = no_after GoesToValues (turns p piles h) (λ r k. Gives (step_of_turn r.0, r.1) k) (λ r k. turn_none r.0)

-- Core code that runs: words are to be passed on where the task's function has ended.
abbrev HasWords : Option (List ℕ) → Type 0
HasWords None = ⊥
HasWords (Some words) = Unit {0}

abbrev EndsWith : Option (List ℕ) × PileView → Type 0
EndsWith r = HasWords r.0

phase_lent : (t : ℕ) (h : Held) → LentBy h (phase_of t h)
phase_lent t h = lent_given h (slice_get h.tasks t) (λ slot. Gives slot.task.phase h) (λ slot is. lent_same h)

errand_lent : (t : ℕ) (h : Held) → LentBy h (errand_of t h)
errand_lent t h = lent_given h (slice_get h.tasks t) (λ slot. Gives slot.errand h) (λ slot is. lent_same h)

at_end : (t : ℕ) (words : List ℕ) (e : Errand) (h : Held) → SoBy HasWords h (ended_at t words e h)
at_end t words errand.None h = λ so. lent_same h
at_end t words (errand.Begins next) h =
    never_so HasWords h (after (errand_set t errand.None h) (λ done k. Gives None (at_rest (rest.Instantiates next) k)))
    (no_after HasWords (errand_set t errand.None h) (λ done k. Gives None (at_rest (rest.Instantiates next) k)) (λ done k so. so))
at_end t words (errand.AfterCall callee canon) h = tt
at_end t words (errand.AfterCancel callee canon index) h = tt
at_end t words (errand.InBuiltin canon) h = tt

last_end : (t : ℕ) (words : List ℕ) (h : Held) → SoBy HasWords h (last_ended t words h)
last_end t words h =
    so_after HasWords h (phase_of t h) (λ phase k. if is_acting phase then after (errand_of t k) (λ e l. ended_at t words e l) else Stuck) (phase_lent t h)
    (λ phase k.
    so_if HasWords k (is_acting phase) (after (errand_of t k) (λ e l. ended_at t words e l)) Stuck
    (so_after HasWords k (errand_of t k) (λ e l. ended_at t words e l) (errand_lent t k) (λ e l. at_end t words e l)) tt)

over_end : (t : ℕ) (words : List ℕ) (over : Bool) (p : PileView) (h : Held) → SoBy EndsWith h (ended_over t words over p h)
over_end t words true p h =
    never_so EndsWith h (after (told (line.Got t []) h) (λ done k. Gives (None, p) (at_rest rest.Runs k)))
    (no_after EndsWith (told (line.Got t []) h) (λ done k. Gives (None, p) (at_rest rest.Runs k)) (λ done k so. so))
over_end t words false p h =
    so_behind HasWords EndsWith h (last_ended t words h) (λ ended k. Gives (ended, p) k) (last_end t words h) (λ ended k so. (so, lent_same k))

outcome_end : (t : ℕ) (p : PileView) (o : Outcome) (h : Held) (d : Done (Option (List ℕ) × PileView)) → outcome_done t p o h ≡ Some d → SoBy EndsWith h d
outcome_end t p (outcome.Done words) h d is =
    subst (SoBy EndsWith h) (some_same is) (so_given EndsWith h (unstacked h.store p.under p) (λ r. ended_over t words r.0 r.1 h) (λ r. over_end t words r.0 r.1 h))
outcome_end t p (outcome.Calls number words w) h d is =
    let q : PileView = with_top (top.Waits (record { address = number; waiting = w })) p in
    subst (SoBy EndsWith h) (some_same is)
    (never_so EndsWith h (after (called t number words h) (λ done m. Gives (None, q) m)) (no_after EndsWith (called t number words h) (λ done m. Gives (None, q) m) (λ done m so. so)))
outcome_end t p (outcome.Trapped why) h d is = subst (SoBy EndsWith h) (some_same is) tt
outcome_end t p (outcome.NoFuel later) h d is = subst (SoBy EndsWith h) (some_same is) tt
outcome_end t p outcome.Memory h d is = absurd (cc)

top_end : (t : ℕ) (x : Top) (p : PileView) (h : Held) (d : Done (Option (List ℕ) × PileView)) → TopComes t x p h d → SoBy EndsWith h d
top_end t top.Empty p h d c = subst (SoBy EndsWith h) (sym c) tt
top_end t (top.Waits call) p h d c = subst (SoBy EndsWith h) (sym c) tt
top_end t (top.Goes k) p h d (o, s, left, gives, e) =
    so_through EndsWith h (record h { store = s; left = left }) d (lent_all h (record h { store = s; left = left }) refl refl)
    (outcome_end t (with_top top.Empty p) o (record h { store = s; left = left }) d e)

behind_words : (r : Option (List ℕ)) → PassesValues (step.GoesOn (passing_behind r)) → HasWords r
behind_words None so = so
behind_words (Some words) so = tt

pile_end : (t : ℕ) (piles : List PileView) (h : Held) (first : Done (Option (List ℕ) × PileView)) (d : Done (Step × List PileView)) → SoBy EndsWith h first
    → Behind first (λ r k e. e ≡ Gives (step.GoesOn (passing_behind r.0), slice_set piles t r.1) k) d → SoBy GoesToValues h d
pile_end t piles h (Gives r k) d p is = subst (SoBy GoesToValues h) (sym is) (λ so. p (behind_words r.0 so))
pile_end t piles h (Traps why k) d p is = subst (SoBy GoesToValues h) (sym is) tt
pile_end t piles h (Spent k) d p is = subst (SoBy GoesToValues h) (sym is) tt
pile_end t piles h Stuck d p is = subst (SoBy GoesToValues h) (sym is) tt

found_end : (t : ℕ) (o : Option PileView) (piles : List PileView) (h : Held) (d : Done (Step × List PileView)) → PileSteps t o piles h d → SoBy GoesToValues h d
found_end t None piles h d is = subst (SoBy GoesToValues h) (sym is) tt
found_end t (Some p) piles h d (first, comes, behind) = pile_end t piles h first d (top_end t p.top p h first comes) behind

task_end : (o : Option ℕ) (piles : List PileView) (h : Held) (d : Done (Step × List PileView)) → TaskSteps o piles h d → SoBy GoesToValues h d
task_end None piles h d is = subst (SoBy GoesToValues h) (sym is) tt
task_end (Some t) piles h d is = found_end t (slice_get piles t) piles h d is

-- From where the run is.
same_pass : (h : Held) (d e : Done (Step × List PileView)) → d ≡ e → SoBy GoesToValues h e → SoBy GoesToValues h d
same_pass h d e is p = subst (λ (x : Done (Step × List PileView)). SoBy GoesToValues h x) (sym is) p

rest_pass : (p : Program) (r : Rest) (piles : List PileView) (h : Held) (d : Done (Step × List PileView)) → RestSteps p r piles h d → SoBy GoesToValues h d
rest_pass p rest.Free piles h d is = same_pass h d (turn_steps p piles h) is (never_so GoesToValues h (turn_steps p piles h) (turn_never p piles h))
rest_pass p rest.Runs piles h d is = task_end (acting_of h) piles h d is
rest_pass p (rest.Instantiates number) piles h d is = same_pass h d (move_steps p piles h) is (move_pass p piles h)
rest_pass p rest.Arrives piles h d is = same_pass h d (move_steps p piles h) is (move_pass p piles h)
rest_pass p rest.Goes piles h d is = same_pass h d (move_steps p piles h) is (move_pass p piles h)
rest_pass p rest.Resumes piles h d is = same_pass h d (move_steps p piles h) is (move_pass p piles h)
rest_pass p rest.Back piles h d is = same_pass h d (move_steps p piles h) is (move_pass p piles h)
rest_pass p (rest.Calls number) piles h d is = same_pass h d (move_steps p piles h) is (move_pass p piles h)
rest_pass p rest.Leaves piles h d is = same_pass h d (move_steps p piles h) is (move_pass p piles h)

as_kept : (h : Held) (d : Done (Step × List PileView)) → SoBy GoesToValues h d → KeepsLent h d
as_kept h (Gives r k) p = p
as_kept h (Traps why k) p = tt
as_kept h (Spent k) p = tt
as_kept h Stuck p = tt

pub move_keeps_lent : MoveKeepsLent
move_keeps_lent p piles h d is = as_kept h d (rest_pass p h.rest piles h d is)
