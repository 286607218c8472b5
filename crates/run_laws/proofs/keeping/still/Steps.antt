-- A step as a whole keeps memories, and ends where no values are passed.
use Rattle.std.proofs.Common.{◌≡◌, ℕ, zero, suc, nat_eq, Bool, ◌&&◌, if◌then◌else◌, List, [], ◌∷◌, map, length, refl, sym, ap, ◌∙◌, subst, Option, Some}
use Rattle.std.specs.List.{slice_get}
use Rattle.comp_graph.specs.Graph.{Graph}
use Rattle.graph_views.specs.Callees.{kind_of}
use Rattle.script_reader.specs.declared.script.Item.{Item}
use Rattle.script_reader.specs.declared.script.Item.TheVariants as item
use Rattle.programs.specs.declared.program.Program.{Program}
use Rattle.programs.specs.Typed.{typed}
use Rattle.replies.specs.Seen.{seen}
use Rattle.world_parts.specs.declared.parts.Flow.{Flow}
use Rattle.world_parts.specs.declared.parts.Flow.TheVariants as flow
use Rattle.world_parts.specs.declared.parts.Rest.{Rest}
use Rattle.world_parts.specs.declared.parts.Rest.TheVariants as rest
use Rattle.world_parts.specs.declared.parts.Turned.{Turned}
use Rattle.world_parts.specs.declared.parts.Turned.TheVariants as turned
use Rattle.world_parts.specs.Feed.{choice}
use Rattle.world_parts.specs.Held.{Held, Done, Gives, Traps, Spent, Stuck, after, given}
use Rattle.world_parts.specs.Turning.{able, count_of, task_at, gone, goes, task_gone, taken, turns_by}
use Rattle.world_stacks.specs.Instantiating.{instantiates}
use Rattle.world_stacks.specs.Views.{PileView}
use Rattle.value_parts.specs.declared.to_pass.Passing.{Passing}
use Rattle.value_parts.specs.declared.to_pass.Passing.TheVariants as passing
use Rattle.value_moves.specs.Passing.{Passes}
use Rattle.machine_runs.specs.declared.stepping.Step.{Step}
use Rattle.machine_runs.specs.declared.stepping.Step.TheVariants as step
use Rattle.machine_runs.specs.Following.{with_piles, followed}
use Rattle.machine_runs.specs.Moving.{woken, moved_on, instantiated, moves}
use Rattle.machine_runs.specs.Stepping.{step_of_turn, move_steps, turn_steps, RestSteps, PassSteps, follow_steps}
use Rattle.machine_runs.specs.Turning.{has_item, call_by, call_of, item_done, next_item_taken, turned_so, turns}
use Rattle.run_laws.proofs.keeping.still.Calling.{calls_still}
use Rattle.run_laws.proofs.keeping.still.Calls.{back_still}
use Rattle.run_laws.proofs.keeping.still.Going.{arrives_still, leaves_still}
use Rattle.run_laws.proofs.keeping.still.Feed.{choice_still}
use Rattle.run_laws.proofs.keeping.still.Following.{followed_still}
use Rattle.run_laws.proofs.keeping.still.Going.{resumes_still}
use Rattle.run_laws.proofs.keeping.still.Running.{runs_still}
use Rattle.run_laws.proofs.keeping.still.Coming.{then_still}
use Rattle.wasm_store.specs.Store.{Instance}
use Rattle.builtin_kinds.specs.declared.EndKind.{EndKind}
use Rattle.channels.specs.declared.channel.Channel.{Channel}
use Rattle.instances.specs.Instances.{InstanceView}
use Rattle.world_parts.specs.Places.{memory_in}
use Rattle.abi_machine.proofs.sound.Found.{some_same}
use Rattle.run_laws.specs.Supplied.{first_memory}
use Rattle.run_laws.specs.keeping.Still.{first_of, TypesFit, KeepsMemory, StepKeepsMemories, FirstKeepsMemories, MemoriesAreFirst, KeepsEnds, MoveKeepsEnds, FirstKeepsEnds}
use Rattle.run_laws.proofs.keeping.still.Still.{Kinds, no_kinds, StillBy, still_after, still_given, still_if, still_same}
use Rattle.run_laws.proofs.keeping.still.Goes.{StaysBy, by_still, stays_same, stays_after}
use Rattle.run_laws.proofs.keeping.still.Instantiating.{instantiates_stays}
use Rattle.run_laws.proofs.keeping.still.Turning.{gone_still, goes_still, call_taken_still, call_cancelled_still}
use Rattle.run_laws.proofs.keeping.still.Passed.{passes_still}

-- Moves.
abbrev Fits : Kinds → Graph → List (Option ℕ) → Type 0
Fits W g types = (K : ℕ → EndKind) → W ≡ Some K → TypesFit g types K

woken_still : (W : Kinds) (g : Graph) (types : List (Option ℕ)) (r : Rest) (h : Held) → Fits W g types → StillBy W h (woken g types r h)
woken_still W g types (rest.Instantiates number) h fit = tt
woken_still W g types rest.Free h fit = tt
woken_still W g types rest.Arrives h fit = arrives_still W h
woken_still W g types rest.Goes h fit = still_after W h (goes h) (λ done k. Gives flow.Rests k) (goes_still W h) (λ done k. still_same W k)
woken_still W g types rest.Resumes h fit = resumes_still W h
woken_still W g types rest.Back h fit = back_still W (seen g) h
woken_still W g types rest.Runs h fit = tt
woken_still W g types (rest.Calls number) h fit = calls_still W g types number h fit
woken_still W g types rest.Leaves h fit = leaves_still W h

moved_on_stays : (W : Kinds) (g : Graph) (types : List (Option ℕ)) (r : Rest) (piles : List PileView) (h : Held) → Fits W g types → StaysBy W h (moved_on g types r piles h)
unfolding moved_on
moved_on_stays W g types r piles h fit =
    by_still W h (after (woken g types r h) (λ f k. followed (seen g) f piles k))
    (still_after W h (woken g types r h) (λ f k. followed (seen g) f piles k) (woken_still W g types r h fit) (λ f k. followed_still W (seen g) f piles k))

instantiated_stays : (W : Kinds) (g : Graph) (number : ℕ) (piles : List PileView) (h : Held) → StaysBy W h (instantiated g number piles h)
unfolding instantiated
instantiated_stays W g number piles h =
    stays_after {B = Passing × List PileView} W h (instantiates g number piles h) (λ r k. Gives (passing.Nothing, r.1) k) (instantiates_stays W g number piles h) (λ r k. stays_same W k)

moves_stay : (W : Kinds) (g : Graph) (types : List (Option ℕ)) (r : Rest) (piles : List PileView) (h : Held) → Fits W g types → StaysBy W h (moves g types r piles h)
moves_stay W g types (rest.Instantiates number) piles h fit = instantiated_stays W g number piles h
moves_stay W g types rest.Free piles h fit = moved_on_stays W g types rest.Free piles h fit
moves_stay W g types rest.Arrives piles h fit = moved_on_stays W g types rest.Arrives piles h fit
moves_stay W g types rest.Goes piles h fit = moved_on_stays W g types rest.Goes piles h fit
moves_stay W g types rest.Resumes piles h fit = moved_on_stays W g types rest.Resumes piles h fit
moves_stay W g types rest.Back piles h fit = moved_on_stays W g types rest.Back piles h fit
moves_stay W g types rest.Runs piles h fit = moved_on_stays W g types rest.Runs piles h fit
moves_stay W g types (rest.Calls number) piles h fit = moved_on_stays W g types (rest.Calls number) piles h fit
moves_stay W g types rest.Leaves piles h fit = moved_on_stays W g types rest.Leaves piles h fit

move_steps_stay : (W : Kinds) (p : Program) (piles : List PileView) (h : Held) → Fits W p.graph.now p.ends.now → StaysBy W h (move_steps p piles h)
move_steps_stay W p piles h fit =
    stays_after {B = Step × List PileView} W h (moves p.graph.now p.ends.now h.rest piles h) (λ r k. Gives (step.GoesOn r.0, r.1) k) (moves_stay W p.graph.now p.ends.now h.rest piles h fit)
    (λ r k. stays_same W k)

-- Turns.
turns_by_still : (W : Kinds) → (b : Bool) (tasks : List ℕ) (h : Held) → StillBy W h (turns_by b tasks h)
unfolding turns_by taken task_gone
turns_by_still W b tasks h =
    still_if W h (nat_eq (count_of b tasks) 0) (Gives turned.Ends h)
    (after (choice (count_of b tasks) h) (λ number k. if b && nat_eq number 0 then Gives turned.TakesItem k else given (task_at b number tasks) (λ t. gone t k))) (still_same W h)
    (still_after W h (choice (count_of b tasks) h) (λ number k. if b && nat_eq number 0 then Gives turned.TakesItem k else given (task_at b number tasks) (λ t. gone t k))
    (choice_still W (count_of b tasks) h)
    (λ number k.
    still_if W k (b && nat_eq number 0) (Gives turned.TakesItem k) (given (task_at b number tasks) (λ t. gone t k)) (still_same W k)
    (still_given W k (task_at b number tasks) (λ t. gone t k) (λ t is. gone_still W t k))))

item_still : (W : Kinds) (p : Program) (next : Item) (h : Held) → StillBy W h (item_done p next h)
item_still W p (item.Call call) h =
    still_given W h (slice_get p.calls.items (length h.calls)) (λ numbers. call_of p.graph.now numbers call h)
    (λ numbers found.
    still_given W h (slice_get p.graph.now.exports numbers.export) (λ e. given (slice_get p.graph.now.lifts numbers.export) (λ lift. call_by numbers.export e lift call h))
    (λ e there.
    still_given W h (slice_get p.graph.now.lifts numbers.export) (λ lift. call_by numbers.export e lift call h)
    (λ lift here. call_taken_still W numbers.export lift.instance (kind_of lift.options) call.name (typed (map (λ q. q.val_type) e.func_type.params) call.values) h)))
item_still W p (item.Cancel call) h = call_cancelled_still W call h

next_item_still : (W : Kinds) (p : Program) (piles : List PileView) (h : Held) → StillBy W h (next_item_taken p piles h)
unfolding next_item_taken
next_item_still W p piles h =
    still_given W h (slice_get p.script.now.items h.taken) (λ next. after (item_done p next h) (λ f k. Gives (turned.TakesItem, with_piles (length k.tasks) piles) k))
    (λ next is.
    still_after {B = Turned × List PileView} W h (item_done p next h) (λ f k. Gives (turned.TakesItem, with_piles (length k.tasks) piles) k) (item_still W p next h) (λ f k. still_same W k))

turned_still : (W : Kinds) (p : Program) (what : Turned) (piles : List PileView) (h : Held) → StillBy W h (turned_so p what piles h)
turned_still W p turned.Ends piles h = still_same W h
turned_still W p turned.TakesItem piles h = next_item_still W p piles h
turned_still W p turned.GoesOn piles h = still_same W h

turns_still : (W : Kinds) (p : Program) (piles : List PileView) (h : Held) → StillBy W h (turns p piles h)
unfolding turns
turns_still W p piles h =
    still_after W h (turns_by (has_item p h) (able (seen p.graph.now) h) h) (λ what k. turned_so p what piles k) (turns_by_still W (has_item p h) (able (seen p.graph.now) h) h)
    (λ what k. turned_still W p what piles k)

turn_steps_stay : (W : Kinds) (p : Program) (piles : List PileView) (h : Held) → StaysBy W h (turn_steps p piles h)
turn_steps_stay W p piles h =
    stays_after {B = Step × List PileView} W h (turns p piles h) (λ r k. Gives (step_of_turn r.0, r.1) k) (by_still W h (turns p piles h) (turns_still W p piles h)) (λ r k. stays_same W k)

-- From where the run is.
same_stays : {A : Type 0} (W : Kinds) (h : Held) (d e : Done A) → d ≡ e → StaysBy W h e → StaysBy W h d
same_stays {A} W h d e is p = subst (λ (x : Done A). StaysBy W h x) (sym is) p

rest_stays : (W : Kinds) (p : Program) (r : Rest) (piles : List PileView) (h : Held) (d : Done (Step × List PileView)) → Fits W p.graph.now p.ends.now → RestSteps p r piles h d → StaysBy W h d
rest_stays W p rest.Free piles h d fit is = same_stays W h d (turn_steps p piles h) is (turn_steps_stay W p piles h)
rest_stays W p rest.Runs piles h d fit is = by_still W h d (runs_still W piles h d is)
rest_stays W p (rest.Instantiates number) piles h d fit is = same_stays W h d (move_steps p piles h) is (move_steps_stay W p piles h fit)
rest_stays W p rest.Arrives piles h d fit is = same_stays W h d (move_steps p piles h) is (move_steps_stay W p piles h fit)
rest_stays W p rest.Goes piles h d fit is = same_stays W h d (move_steps p piles h) is (move_steps_stay W p piles h fit)
rest_stays W p rest.Resumes piles h d fit is = same_stays W h d (move_steps p piles h) is (move_steps_stay W p piles h fit)
rest_stays W p rest.Back piles h d fit is = same_stays W h d (move_steps p piles h) is (move_steps_stay W p piles h fit)
rest_stays W p (rest.Calls number) piles h d fit is = same_stays W h d (move_steps p piles h) is (move_steps_stay W p piles h fit)
rest_stays W p rest.Leaves piles h d fit is = same_stays W h d (move_steps p piles h) is (move_steps_stay W p piles h fit)

-- Values are passed first.
follow_still : (W : Kinds) (p : Program) (f : Flow) (piles : List PileView) (h : Held) → StillBy W h (follow_steps p f piles h)
follow_still W p f piles h =
    still_after {B = Step × List PileView} W h (followed (seen p.graph.now) f piles h) (λ r k. Gives (step.GoesOn r.0, r.1) k) (followed_still W (seen p.graph.now) f piles h) (λ r k. still_same W k)

passed_still : (p : Program) (x : Passing) (piles : List PileView) (h : Held) (d : Done (Step × List PileView)) → PassSteps Passes p x piles h d → StillBy no_kinds h d
passed_still p x piles h d is =
    then_still no_kinds h (Passes p x h) (λ f k e. e ≡ follow_steps p f piles k) d (λ e passes. passes_still p x h e passes)
    (λ f k same. subst (λ (e : Done (Step × List PileView)). StillBy no_kinds k e) (sym same) (follow_still no_kinds p f piles k)) is

none_fit : (g : Graph) (types : List (Option ℕ)) → Fits no_kinds g types
none_fit g types K is = absurd (cc)

memory_of : {A : Type 0} (h : Held) (d : Done A) → StaysBy no_kinds h d → KeepsMemory h d
memory_of h (Gives x k) p = p.memories
memory_of h (Traps why k) p = tt
memory_of h (Spent k) p = tt
memory_of h Stuck p = tt

pub step_keeps_memories : StepKeepsMemories
step_keeps_memories p passing.Nothing piles h d is = memory_of h d (rest_stays no_kinds p h.rest piles h d (none_fit p.graph.now p.ends.now) is)
step_keeps_memories p passing.Arguments piles h d is = memory_of h d (by_still no_kinds h d (passed_still p passing.Arguments piles h d is))
step_keeps_memories p passing.Returned piles h d is = memory_of h d (by_still no_kinds h d (passed_still p passing.Returned piles h d is))
step_keeps_memories p (passing.Ended words) piles h d is = memory_of h d (by_still no_kinds h d (passed_still p (passing.Ended words) piles h d is))
step_keeps_memories p (passing.Elements copying) piles h d is = memory_of h d (by_still no_kinds h d (passed_still p (passing.Elements copying) piles h d is))

ends_of : {A : Type 0} (K : ℕ → EndKind) (h : Held) (d : Done A) → StaysBy (Some K) h d → KeepsEnds K h d
ends_of K h (Gives x k) p = p.ends K refl
ends_of K h (Traps why k) p = λ kept. (p K refl kept).marked
ends_of K h (Spent k) p = tt
ends_of K h Stuck p = tt

some_fit : (g : Graph) (types : List (Option ℕ)) (K : ℕ → EndKind) → TypesFit g types K → Fits (Some K) g types
some_fit g types K fit L is = subst (λ (J : ℕ → EndKind). TypesFit g types J) (some_same is) fit

pub move_keeps_ends : MoveKeepsEnds
move_keeps_ends p K piles h d fit is = ends_of K h d (rest_stays (Some K) p h.rest piles h d (some_fit p.graph.now p.ends.now K fit) is)

pub first_keeps_memories : FirstKeepsMemories
first_keeps_memories g s = refl

pub first_keeps_ends : FirstKeepsEnds
first_keeps_ends g s K = record {
  marked = λ at index i e here is. absurd (none_there at i here);
  once = λ at index n m i j e d here is there has number type side. absurd (none_there at i here);
  are_streams = λ place c is. absurd (no_channel place c is);
  are_futures = λ place c is. absurd (no_channel place c is);
}
  where
    none_there : (at : ℕ) (i : InstanceView) → (let all : List InstanceView = [] in slice_get all at) ≡ Some i → ⊥
    none_there zero i is = cc
    none_there (suc n) i is = cc

    no_channel : (at : ℕ) (c : Channel) → (let all : List Channel = [] in slice_get all at) ≡ Some c → ⊥
    no_channel zero c is = cc
    no_channel (suc n) c is = cc

-- The first memory of each.
found : (all : List Instance) (n : ℕ) → memory_in (slice_get (map first_of all) n) ≡ first_memory (slice_get all n)
found [] zero = refl
found [] (suc n) = refl
found (i ∷ all) zero = refl
found (i ∷ all) (suc n) = found all n

pub memories_are_first : MemoriesAreFirst
memories_are_first h kept n = ap (λ (all : List (Option ℕ)). memory_in (slice_get all n)) kept ∙ found h.store.instances n
