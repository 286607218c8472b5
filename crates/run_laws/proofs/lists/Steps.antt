-- A step as a whole keeps the lists of tasks.
use Rattle.std.proofs.Common.{◌≡◌, ℕ, zero, suc, nat_eq, Bool, ◌&&◌, if◌then◌else◌, List, map, length, refl, sym, ap, ◌∙◌, subst, Option, Some, None}
use Rattle.std.specs.List.{slice_get}
use Rattle.comp_graph.specs.Graph.{Graph}
use Rattle.graph_views.specs.Callees.{kind_of}
use Rattle.script_reader.specs.declared.script.Item.{Item}
use Rattle.script_reader.specs.declared.script.Item.TheVariants as item
use Rattle.script_reader.specs.Script.{Script}
use Rattle.programs.specs.declared.program.Program.{Program}
use Rattle.programs.specs.Typed.{typed}
use Rattle.replies.specs.Seen.{seen}
use Rattle.trace_labels.specs.declared.label.Label.{Label}
use Rattle.world_parts.specs.declared.parts.Flow.{Flow}
use Rattle.world_parts.specs.declared.parts.Flow.TheVariants as flow
use Rattle.world_parts.specs.declared.parts.Rest.{Rest}
use Rattle.world_parts.specs.declared.parts.Rest.TheVariants as rest
use Rattle.world_parts.specs.declared.parts.Turned.{Turned}
use Rattle.world_parts.specs.declared.parts.Turned.TheVariants as turned
use Rattle.world_parts.specs.Feed.{choice}
use Rattle.world_parts.specs.Held.{Held, Done, Gives, Traps, Spent, Stuck, after, given}
use Rattle.world_parts.specs.Turning.{able, count_of, task_at, gone, goes, task_gone, taken, turns_by}
use Rattle.world_stacks.specs.Instantiating.{instantiates}
use Rattle.world_stacks.specs.Views.{PileView}
use Rattle.value_parts.specs.declared.to_pass.Passing.{Passing}
use Rattle.value_parts.specs.declared.to_pass.Passing.TheVariants as passing
use Rattle.value_moves.specs.Passing.{Passes}
use Rattle.machine_runs.specs.declared.stepping.Step.{Step}
use Rattle.machine_runs.specs.declared.stepping.Step.TheVariants as step
use Rattle.machine_runs.specs.Following.{with_piles, followed}
use Rattle.machine_runs.specs.Moving.{woken, moved_on, instantiated, moves}
use Rattle.machine_runs.specs.Stepping.{step_of_turn, move_steps, turn_steps, RestSteps, PassSteps, follow_steps}
use Rattle.machine_runs.specs.Worlds.{Point, first_point, Goes, GoOn}
use Rattle.machine_runs.specs.Turning.{has_item, call_by, call_of, item_done, next_item_taken, turned_so, turns}
use Rattle.run_laws.specs.keeping.Lists.{KeepsLists, StepsKeepLists, RunsHaveLists}
use Rattle.run_laws.specs.TaskLists.{HasLists}
use Rattle.run_laws.proofs.lists.Calling.{calls_lists}
use Rattle.run_laws.proofs.lists.Calls.{back_lists}
use Rattle.run_laws.proofs.lists.Entering.{arrives_lists, leaves_lists}
use Rattle.run_laws.proofs.lists.Feed.{choice_lists}
use Rattle.run_laws.proofs.lists.Following.{followed_lists}
use Rattle.run_laws.proofs.lists.Going.{resumes_lists}
use Rattle.run_laws.proofs.lists.Keeping.{first_has_lists}
use Rattle.run_laws.proofs.lists.Instantiating.{instantiates_lists}
use Rattle.run_laws.proofs.lists.Running.{runs_lists}
use Rattle.run_laws.proofs.lists.Same.{ListsBy, lists_after, lists_given, lists_if, lists_same}
use Rattle.run_laws.proofs.lists.Script.{of_script, gone_lists, goes_lists, next_call_keeps_lists, cancel_keeps_lists}
use Rattle.run_laws.proofs.lists.passings.Coming.{then_lists}
use Rattle.run_laws.proofs.lists.passings.Passed.{passes_lists}

-- Moves.
woken_lists : (g : Graph) (types : List (Option ℕ)) (r : Rest) (h : Held) → ListsBy h (woken g types r h)
woken_lists g types (rest.Instantiates number) h = tt
woken_lists g types rest.Free h = tt
woken_lists g types rest.Arrives h = arrives_lists h
woken_lists g types rest.Goes h = lists_after h (goes h) (λ done k. Gives flow.Rests k) (goes_lists h) (λ done k. lists_same k)
woken_lists g types rest.Resumes h = resumes_lists h
woken_lists g types rest.Back h = back_lists (seen g) h
woken_lists g types rest.Runs h = tt
woken_lists g types (rest.Calls number) h = calls_lists g types number h
woken_lists g types rest.Leaves h = leaves_lists h

moved_on_lists : (g : Graph) (types : List (Option ℕ)) (r : Rest) (piles : List PileView) (h : Held) → ListsBy h (moved_on g types r piles h)
unfolding moved_on
moved_on_lists g types r piles h = lists_after h (woken g types r h) (λ f k. followed (seen g) f piles k) (woken_lists g types r h) (λ f k. followed_lists (seen g) f piles k)

instantiated_lists : (g : Graph) (number : ℕ) (piles : List PileView) (h : Held) → ListsBy h (instantiated g number piles h)
unfolding instantiated
instantiated_lists g number piles h =
    lists_after {B = Passing × List PileView} h (instantiates g number piles h) (λ r k. Gives (passing.Nothing, r.1) k) (instantiates_lists g number piles h) (λ r k. lists_same k)

moves_lists : (g : Graph) (types : List (Option ℕ)) (r : Rest) (piles : List PileView) (h : Held) → ListsBy h (moves g types r piles h)
moves_lists g types (rest.Instantiates number) piles h = instantiated_lists g number piles h
moves_lists g types rest.Free piles h = moved_on_lists g types rest.Free piles h
moves_lists g types rest.Arrives piles h = moved_on_lists g types rest.Arrives piles h
moves_lists g types rest.Goes piles h = moved_on_lists g types rest.Goes piles h
moves_lists g types rest.Resumes piles h = moved_on_lists g types rest.Resumes piles h
moves_lists g types rest.Back piles h = moved_on_lists g types rest.Back piles h
moves_lists g types rest.Runs piles h = moved_on_lists g types rest.Runs piles h
moves_lists g types (rest.Calls number) piles h = moved_on_lists g types (rest.Calls number) piles h
moves_lists g types rest.Leaves piles h = moved_on_lists g types rest.Leaves piles h

move_steps_lists : (p : Program) (piles : List PileView) (h : Held) → ListsBy h (move_steps p piles h)
move_steps_lists p piles h =
    lists_after {B = Step × List PileView} h (moves p.graph.now p.ends.now h.rest piles h) (λ r k. Gives (step.GoesOn r.0, r.1) k) (moves_lists p.graph.now p.ends.now h.rest piles h) (λ r k. lists_same k)

-- Turns, for one script.
keeps_through : {A : Type 0} (s : Script) (h k : Held) (d : Done A) → (HasLists s h → HasLists s k) → KeepsLists s k d → KeepsLists s h d
keeps_through s h k (Gives x l) p q = λ lists. q (p lists)
keeps_through s h k (Traps why l) p q = tt
keeps_through s h k (Spent l) p q = tt
keeps_through s h k Stuck p q = tt

keeps_after : {A B : Type 0} (s : Script) (h : Held) (d : Done A) (f : A → Held → Done B) → KeepsLists s h d → ((x : A) (k : Held) → KeepsLists s k (f x k)) → KeepsLists s h (after d f)
keeps_after s h (Gives x k) f p q = keeps_through s h k (f x k) p (q x k)
keeps_after s h (Traps why k) f p q = tt
keeps_after s h (Spent k) f p q = tt
keeps_after s h Stuck f p q = tt

keeps_given : {A B : Type 0} (s : Script) (h : Held) (o : Option A) (f : A → Done B) → ((x : A) → o ≡ Some x → KeepsLists s h (f x)) → KeepsLists s h (given o f)
keeps_given s h None f p = tt
keeps_given s h (Some x) f p = p x refl

turns_by_lists : (b : Bool) (tasks : List ℕ) (h : Held) → ListsBy h (turns_by b tasks h)
unfolding turns_by taken task_gone
turns_by_lists b tasks h =
    lists_if h (nat_eq (count_of b tasks) 0) (Gives turned.Ends h)
    (after (choice (count_of b tasks) h) (λ number k. if b && nat_eq number 0 then Gives turned.TakesItem k else given (task_at b number tasks) (λ t. gone t k))) (lists_same h)
    (lists_after h (choice (count_of b tasks) h) (λ number k. if b && nat_eq number 0 then Gives turned.TakesItem k else given (task_at b number tasks) (λ t. gone t k))
    (choice_lists (count_of b tasks) h)
    (λ number k.
    lists_if k (b && nat_eq number 0) (Gives turned.TakesItem k) (given (task_at b number tasks) (λ t. gone t k)) (lists_same k)
    (lists_given k (task_at b number tasks) (λ t. gone t k) (λ t is. gone_lists t k))))

item_keeps : (s : Script) (p : Program) (next_item : Item) (h : Held) → slice_get s.items h.taken ≡ Some next_item → KeepsLists s h (item_done p next_item h)
item_keeps s p (item.Call call) h is =
    keeps_given s h (slice_get p.calls.items (length h.calls)) (λ numbers. call_of p.graph.now numbers call h)
    (λ numbers found.
    keeps_given s h (slice_get p.graph.now.exports numbers.export) (λ e. given (slice_get p.graph.now.lifts numbers.export) (λ lift. call_by numbers.export e lift call h))
    (λ e there.
    keeps_given s h (slice_get p.graph.now.lifts numbers.export) (λ lift. call_by numbers.export e lift call h)
    (λ lift here.
    next_call_keeps_lists s call numbers.export lift.instance (kind_of lift.options) call.name (typed (map (λ q. q.val_type) e.func_type.params) call.values) h is)))
item_keeps s p (item.Cancel call) h is = cancel_keeps_lists s call h is

next_item_keeps : (s : Script) (p : Program) (piles : List PileView) (h : Held) → p.script.now ≡ s → KeepsLists s h (next_item_taken p piles h)
unfolding next_item_taken
next_item_keeps s p piles h script =
    keeps_given s h (slice_get p.script.now.items h.taken) (λ next. after (item_done p next h) (λ f k. Gives (turned.TakesItem, with_piles (length k.tasks) piles) k))
    (λ next is.
    keeps_after {B = Turned × List PileView} s h (item_done p next h) (λ f k. Gives (turned.TakesItem, with_piles (length k.tasks) piles) k)
    (item_keeps s p next h (ap (λ (x : Script). slice_get x.items h.taken) (sym script) ∙ is)) (λ f k lists. lists))

turned_keeps : (s : Script) (p : Program) (what : Turned) (piles : List PileView) (h : Held) → p.script.now ≡ s → KeepsLists s h (turned_so p what piles h)
turned_keeps s p turned.Ends piles h script = λ lists. lists
turned_keeps s p turned.TakesItem piles h script = next_item_keeps s p piles h script
turned_keeps s p turned.GoesOn piles h script = λ lists. lists

turns_keep : (s : Script) (p : Program) (piles : List PileView) (h : Held) → p.script.now ≡ s → KeepsLists s h (turns p piles h)
unfolding turns
turns_keep s p piles h script =
    keeps_after s h (turns_by (has_item p h) (able (seen p.graph.now) h) h) (λ what k. turned_so p what piles k)
    (of_script s h (turns_by (has_item p h) (able (seen p.graph.now) h) h) (turns_by_lists (has_item p h) (able (seen p.graph.now) h) h)) (λ what k. turned_keeps s p what piles k script)

turn_steps_keep : (s : Script) (p : Program) (piles : List PileView) (h : Held) → p.script.now ≡ s → KeepsLists s h (turn_steps p piles h)
turn_steps_keep s p piles h script =
    keeps_after {B = Step × List PileView} s h (turns p piles h) (λ r k. Gives (step_of_turn r.0, r.1) k) (turns_keep s p piles h script) (λ r k lists. lists)

-- From where the run is.
moved_so : (s : Script) (p : Program) (piles : List PileView) (h : Held) (d : Done (Step × List PileView)) → d ≡ move_steps p piles h → KeepsLists s h d
moved_so s p piles h d is = of_script s h d (subst (ListsBy h) (sym is) (move_steps_lists p piles h))

rest_keeps : (s : Script) (p : Program) (r : Rest) (piles : List PileView) (h : Held) (d : Done (Step × List PileView)) → p.script.now ≡ s → RestSteps p r piles h d → KeepsLists s h d
rest_keeps s p rest.Free piles h d script is = subst (λ (e : Done (Step × List PileView)). KeepsLists s h e) (sym is) (turn_steps_keep s p piles h script)
rest_keeps s p rest.Runs piles h d script is = of_script s h d (runs_lists piles h d is)
rest_keeps s p (rest.Instantiates number) piles h d script is = moved_so s p piles h d is
rest_keeps s p rest.Arrives piles h d script is = moved_so s p piles h d is
rest_keeps s p rest.Goes piles h d script is = moved_so s p piles h d is
rest_keeps s p rest.Resumes piles h d script is = moved_so s p piles h d is
rest_keeps s p rest.Back piles h d script is = moved_so s p piles h d is
rest_keeps s p (rest.Calls number) piles h d script is = moved_so s p piles h d is
rest_keeps s p rest.Leaves piles h d script is = moved_so s p piles h d is

-- Values are passed first.
follow_lists : (p : Program) (f : Flow) (piles : List PileView) (h : Held) → ListsBy h (follow_steps p f piles h)
follow_lists p f piles h =
    lists_after {B = Step × List PileView} h (followed (seen p.graph.now) f piles h) (λ r k. Gives (step.GoesOn r.0, r.1) k) (followed_lists (seen p.graph.now) f piles h) (λ r k. lists_same k)

passed_lists : (p : Program) (x : Passing) (piles : List PileView) (h : Held) (d : Done (Step × List PileView)) → PassSteps Passes p x piles h d → ListsBy h d
passed_lists p x piles h d is =
    then_lists h (Passes p x h) (λ f k e. e ≡ follow_steps p f piles k) d (λ e passes. passes_lists p x h e passes)
    (λ f k same. subst (ListsBy k) (sym same) (follow_lists p f piles k)) is

pub steps_keep_lists : StepsKeepLists
steps_keep_lists s p passing.Nothing piles h d script is = rest_keeps s p h.rest piles h d script is
steps_keep_lists s p passing.Arguments piles h d script is = of_script s h d (passed_lists p passing.Arguments piles h d is)
steps_keep_lists s p passing.Returned piles h d script is = of_script s h d (passed_lists p passing.Returned piles h d is)
steps_keep_lists s p (passing.Ended words) piles h d script is = of_script s h d (passed_lists p (passing.Ended words) piles h d is)
steps_keep_lists s p (passing.Elements copying) piles h d script is = of_script s h d (passed_lists p (passing.Elements copying) piles h d is)

-- Runs: what a step gives, with all lines handed on.
one_goes : (p : Program) (s : Script) (a c : Point) (lines : List Label) → p.script.now ≡ s → HasLists s a.held → Goes Passes p a lines c → HasLists s c.held
one_goes p s a c lines script lists (b, gives, told, is) =
    subst (λ (x : Point). HasLists s x.held) (sym is) (steps_keep_lists s p a.passing a.piles a.held (Gives (step.GoesOn b.passing, b.piles) b.held) script gives lists)

all_go : (p : Program) (s : Script) (count : ℕ) (a b : Point) (lines : List Label) → p.script.now ≡ s → HasLists s a.held → GoOn Passes p count a lines b → HasLists s b.held
all_go p s zero a b lines script lists (none, is) = subst (λ (x : Point). HasLists s x.held) (sym is) lists
all_go p s (suc count) a b lines script lists (mid, before, more, steps, goes, is) = one_goes p s mid b more script (all_go p s count a mid before script lists steps) goes

pub runs_have_lists : RunsHaveLists
runs_have_lists p g s count lines b script go = all_go p s count (first_point g s) b lines script (first_has_lists g s) go
