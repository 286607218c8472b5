-- What is to be passed behind a step: where one led there from a rest by a move or a run of a stack, and nothing where values were passed.
use Rattle.std.proofs.Common.{◌≡◌, ℕ, List, refl, sym, ap, ◌∙◌, subst, Option, Some, None}
use Rattle.std.specs.List.{slice_get, slice_set}
use Rattle.comp_graph.specs.Graph.{Graph}
use Rattle.programs.specs.declared.program.Program.{Program}
use Rattle.world_parts.specs.declared.parts.Flow.{Flow}
use Rattle.world_parts.specs.declared.parts.Flow.TheVariants as flow
use Rattle.world_parts.specs.declared.parts.Rest.{Rest}
use Rattle.world_parts.specs.declared.parts.Rest.TheVariants as rest
use Rattle.world_parts.specs.Events.{delivers, polls, received_none, received_cancel}
use Rattle.world_parts.specs.Feed.{acting}
use Rattle.world_parts.specs.Held.{Held, Done, Gives, Traps, Spent, Stuck, after, given}
use Rattle.world_parts.specs.Slots.{instance_of}
use Rattle.world_parts.specs.Views.{Views}
use Rattle.world_stacks.specs.Instantiating.{instantiates}
use Rattle.world_stacks.specs.Moving.{started_on}
use Rattle.world_stacks.specs.Piles.{at_pile, gone_on}
use Rattle.world_stacks.specs.Views.{PileView}
use Rattle.replies.specs.Seen.{seen}
use Rattle.value_parts.specs.Coming.{Behind}
use Rattle.value_parts.specs.declared.to_pass.Passing.{Passing}
use Rattle.value_parts.specs.declared.to_pass.Passing.TheVariants as passing
use Rattle.value_moves.specs.Passing.{Passes}
use Rattle.machine_runs.specs.declared.stepping.Step.{Step}
use Rattle.machine_runs.specs.declared.stepping.Step.TheVariants as step
use Rattle.world_parts.specs.declared.parts.Turned.{Turned}
use Rattle.world_parts.specs.declared.parts.Turned.TheVariants as turned
use Rattle.machine_runs.specs.Following.{followed, heard, stacked}
use Rattle.machine_runs.specs.Moving.{acting_of, instantiated, moved_on, moves, woken}
use Rattle.machine_runs.specs.Stepping.{PassSteps, PileSteps, RestSteps, RunSteps, Steps, TaskSteps, follow_steps, move_steps, passing_behind, step_of_turn, turn_steps}
use Rattle.machine_runs.specs.Turning.{turns}
use Rattle.run_laws.proofs.PassedFlows.{GivesBy}
use Rattle.run_laws.proofs.keeping.Steps.{by_acting}
use Rattle.run_laws.proofs.onward.Led.{gives_first, gives_held}
use Rattle.run_laws.proofs.plain.Events.{delivers_plain, polls_plain, received_none_plain, received_cancel_plain}
use Rattle.run_laws.proofs.plain.Only.{IsPlain, PlainBy, plain_after}

abbrev After : Type 0
After = Passing × List PileView

-- Nothing is to be passed behind what is plain.
abbrev IsNothing : Done After → Type 0
IsNothing (Gives r k) = r.0 ≡ passing.Nothing
IsNothing (Traps why k) = Unit {0}
IsNothing (Spent k) = Unit {0}
IsNothing Stuck = Unit {0}

nothing_after : {A : Type 0} (d : Done A) (f : A → Held → Done After) → ((x : A) (k : Held) → IsNothing (f x k)) → IsNothing (after d f)
nothing_after (Gives x k) f p = p x k
nothing_after (Traps why k) f p = tt
nothing_after (Spent k) f p = tt
nothing_after Stuck f p = tt

nothing_given : {A : Type 0} (o : Option A) (f : A → Done After) → ((x : A) → IsNothing (f x)) → IsNothing (given o f)
nothing_given None f p = tt
nothing_given (Some x) f p = p x

stacked_nothing : (f : Flow) (piles : List PileView) (k : Held) → IsPlain f → IsNothing (stacked f piles k)
stacked_nothing (flow.Now words) piles k plain =
    nothing_after (acting k) (λ t k. given (at_pile (gone_on k.store words) t piles) (λ r. Gives (passing.Nothing, r.1) k))
    (λ t k. nothing_given (at_pile (gone_on k.store words) t piles) (λ r. Gives (passing.Nothing, r.1) k) (λ r. refl))
stacked_nothing flow.Rests piles k plain = refl
stacked_nothing (flow.Starts func words) piles k plain =
    nothing_after (acting k) (λ t k. after (started_on t func words piles k) (λ r l. Gives (passing.Nothing, r.1) l))
    (λ t k. nothing_after (started_on t func words piles k) (λ r l. Gives (passing.Nothing, r.1) l) (λ r l. refl))
stacked_nothing flow.Enters piles k plain = absurd plain
stacked_nothing flow.Returns piles k plain = absurd plain
stacked_nothing (flow.Copies copying) piles k plain = absurd plain
stacked_nothing (flow.Delivers r set) piles k plain = absurd plain
stacked_nothing (flow.Polls r set) piles k plain = absurd plain
stacked_nothing (flow.HearsNone r) piles k plain = absurd plain
stacked_nothing (flow.HearsCancel r) piles k plain = absurd plain

heard_nothing : (piles : List PileView) (d : Done Flow) → PlainBy d → IsNothing (after d (λ e l. stacked e piles l))
heard_nothing piles (Gives f k) plain = stacked_nothing f piles k plain
heard_nothing piles (Traps why k) plain = tt
heard_nothing piles (Spent k) plain = tt
heard_nothing piles Stuck plain = tt

-- What follows a move.
abbrev Follows : Flow → Held → Passing → Held → Type 0
Follows f k passing.Nothing l = Unit {0}
Follows f k passing.Arguments l = (f ≡ flow.Enters) × (l ≡ k)
Follows f k passing.Returned l = (f ≡ flow.Returns) × (l ≡ k)
Follows f k (passing.Ended words) l = ⊥
Follows f k (passing.Elements copying) l = (f ≡ flow.Copies copying) × (l ≡ k)

abbrev FollowsBy : Flow → Held → Done After → Type 0
FollowsBy f k (Gives r l) = Follows f k r.0 l
FollowsBy f k (Traps why l) = Unit {0}
FollowsBy f k (Spent l) = Unit {0}
FollowsBy f k Stuck = Unit {0}

none_follows : (f : Flow) (k : Held) (d : Done After) → IsNothing d → FollowsBy f k d
none_follows f k (Gives r l) is = subst (λ (x : Passing). Follows f k x l) (sym is) tt
none_follows f k (Traps why l) is = tt
none_follows f k (Spent l) is = tt
none_follows f k Stuck is = tt

abbrev heard_on : Views → Flow → List PileView → Held → Done After
heard_on v f piles k = after (heard v f k) (λ e l. stacked e piles l)

in_place : (k : Held) (f : ℕ → ℕ → Held → Done Flow) → ((t at : ℕ) (l : Held) → PlainBy (f t at l)) → PlainBy (let d : Done Flow = after (acting k) (λ t m. after (instance_of t m) (λ at l. f t at l)) in d)
in_place k f plain =
    plain_after (acting k) (λ t m. after (instance_of t m) (λ at l. f t at l)) (λ t m. plain_after (instance_of t m) (λ at l. f t at l) (λ at l. plain t at l))

heard_so : (v : Views) (f : Flow) (piles : List PileView) (k : Held) → FollowsBy f k (heard_on v f piles k)
heard_so v (flow.Now words) piles k = none_follows (flow.Now words) k (stacked (flow.Now words) piles k) (stacked_nothing (flow.Now words) piles k tt)
heard_so v flow.Rests piles k = tt
heard_so v (flow.Starts func words) piles k = none_follows (flow.Starts func words) k (stacked (flow.Starts func words) piles k) (stacked_nothing (flow.Starts func words) piles k tt)
heard_so v flow.Enters piles k = (refl, refl)
heard_so v flow.Returns piles k = (refl, refl)
heard_so v (flow.Copies copying) piles k = (refl, refl)
heard_so v (flow.Delivers r set) piles k =
    none_follows (flow.Delivers r set) k (heard_on v (flow.Delivers r set) piles k) (heard_nothing piles (heard v (flow.Delivers r set) k) (in_place k (λ t at l. delivers v t at r set l) (λ t at l. delivers_plain v t at r set l)))
heard_so v (flow.Polls r set) piles k =
    none_follows (flow.Polls r set) k (heard_on v (flow.Polls r set) piles k) (heard_nothing piles (heard v (flow.Polls r set) k) (in_place k (λ t at l. polls v t at r set l) (λ t at l. polls_plain v t at r set l)))
heard_so v (flow.HearsNone r) piles k =
    none_follows (flow.HearsNone r) k (heard_on v (flow.HearsNone r) piles k)
    (heard_nothing piles (heard v (flow.HearsNone r) k) (plain_after (acting k) (λ t l. received_none v t r l) (λ t l. received_none_plain v t r l)))
heard_so v (flow.HearsCancel r) piles k =
    none_follows (flow.HearsCancel r) k (heard_on v (flow.HearsCancel r) piles k)
    (heard_nothing piles (heard v (flow.HearsCancel r) k) (plain_after (acting k) (λ t l. received_cancel v t r l) (λ t l. received_cancel_plain v t r l)))

follows_so : (v : Views) (f : Flow) (piles : List PileView) (k : Held) → FollowsBy f k (followed v f piles k)
unfolding followed
follows_so v f piles k = heard_so v f piles k

-- By where the run rests.
abbrev pub LedBy : Graph → List (Option ℕ) → Rest → Held → Passing → Held → Type 0
LedBy g types r h passing.Nothing l = Unit {0}
LedBy g types r h passing.Arguments l = woken g types r h ≡ Gives flow.Enters l
LedBy g types r h passing.Returned l = woken g types r h ≡ Gives flow.Returns l
LedBy g types r h (passing.Ended words) l = ⊥
LedBy g types r h (passing.Elements copying) l = woken g types r h ≡ Gives (flow.Copies copying) l

led_by : (g : Graph) (types : List (Option ℕ)) (r : Rest) (h : Held) (f : Flow) (k : Held) (x : Passing) (l : Held) → woken g types r h ≡ Gives f k → Follows f k x l → LedBy g types r h x l
led_by g types r h f k passing.Nothing l is follows = tt
led_by g types r h f k passing.Arguments l is follows = is ∙ ap (λ (z : Flow). Gives z k) follows.0 ∙ ap (λ (z : Held). Gives flow.Enters z) (sym follows.1)
led_by g types r h f k passing.Returned l is follows = is ∙ ap (λ (z : Flow). Gives z k) follows.0 ∙ ap (λ (z : Held). Gives flow.Returns z) (sym follows.1)
led_by g types r h f k (passing.Ended words) l is follows = follows
led_by g types r h f k (passing.Elements copying) l is follows = is ∙ ap (λ (z : Flow). Gives z k) follows.0 ∙ ap (λ (z : Held). Gives (flow.Copies copying) z) (sym follows.1)

abbrev MovesBy : Graph → List (Option ℕ) → Rest → Held → Done After → Type 0
MovesBy g types r h (Gives x l) = LedBy g types r h x.0 l
MovesBy g types r h (Traps why l) = Unit {0}
MovesBy g types r h (Spent l) = Unit {0}
MovesBy g types r h Stuck = Unit {0}

all_led : (g : Graph) (types : List (Option ℕ)) (r : Rest) (h : Held) (f : Flow) (k : Held) (d : Done After) → woken g types r h ≡ Gives f k → FollowsBy f k d → MovesBy g types r h d
all_led g types r h f k (Gives x l) is follows = led_by g types r h f k x.0 l is follows
all_led g types r h f k (Traps why l) is follows = tt
all_led g types r h f k (Spent l) is follows = tt
all_led g types r h f k Stuck is follows = tt

moved_so : (g : Graph) (types : List (Option ℕ)) (r : Rest) (piles : List PileView) (h : Held) → MovesBy g types r h (moved_on g types r piles h)
unfolding moved_on
moved_so g types r piles h = by (woken g types r h) refl
  where
    by : (d : Done Flow) → woken g types r h ≡ d → MovesBy g types r h (after d (λ f k. followed (seen g) f piles k))
    by (Gives f k) is = all_led g types r h f k (followed (seen g) f piles k) is (follows_so (seen g) f piles k)
    by (Traps why k) is = tt
    by (Spent k) is = tt
    by Stuck is = tt

instantiated_so : (g : Graph) (types : List (Option ℕ)) (number : ℕ) (piles : List PileView) (h : Held) → MovesBy g types (rest.Instantiates number) h (instantiated g number piles h)
unfolding instantiated
instantiated_so g types number piles h = by (instantiates g number piles h)
  where
    by : (d : Done (Unit {0} × List PileView)) → MovesBy g types (rest.Instantiates number) h (let e : Done After = after d (λ r k. Gives (passing.Nothing, r.1) k) in e)
    by (Gives r k) = tt
    by (Traps why k) = tt
    by (Spent k) = tt
    by Stuck = tt

moves_so : (g : Graph) (types : List (Option ℕ)) (r : Rest) (piles : List PileView) (h : Held) → MovesBy g types r h (moves g types r piles h)
moves_so g types (rest.Instantiates number) piles h = instantiated_so g types number piles h
moves_so g types rest.Free piles h = moved_so g types rest.Free piles h
moves_so g types rest.Arrives piles h = moved_so g types rest.Arrives piles h
moves_so g types rest.Goes piles h = moved_so g types rest.Goes piles h
moves_so g types rest.Resumes piles h = moved_so g types rest.Resumes piles h
moves_so g types rest.Back piles h = moved_so g types rest.Back piles h
moves_so g types rest.Runs piles h = moved_so g types rest.Runs piles h
moves_so g types (rest.Calls number) piles h = moved_so g types (rest.Calls number) piles h
moves_so g types rest.Leaves piles h = moved_so g types rest.Leaves piles h

-- A step that goes on.
goes_same : (x y : Passing) → step.GoesOn x ≡ step.GoesOn y → x ≡ y
goes_same x y e = cc

step_same : (x y : Passing) (a b : List PileView) (k l : Held) → (let d : Done (Step × List PileView) = Gives (step.GoesOn x, a) k in d) ≡ Gives (step.GoesOn y, b) l → (x ≡ y) × (k ≡ l)
step_same x y a b k l e = (goes_same x y (ap (λ (r : Step × List PileView). r.0) (gives_first e)), gives_held e)

move_led : (p : Program) (piles more : List PileView) (h later : Held) (x : Passing) → (let d : Done (Step × List PileView) = Gives (step.GoesOn x, more) later in d) ≡ move_steps p piles h
    → LedBy p.graph.now p.ends.now h.rest h x later
move_led p piles more h later x e = by (moves p.graph.now p.ends.now h.rest piles h) (moves_so p.graph.now p.ends.now h.rest piles h) e
  where
    by : (d : Done After) → MovesBy p.graph.now p.ends.now h.rest h d
        → (let c : Done (Step × List PileView) = Gives (step.GoesOn x, more) later in c) ≡ (let c : Done (Step × List PileView) = after d (λ r k. Gives (step.GoesOn r.0, r.1) k) in c) → LedBy p.graph.now p.ends.now h.rest h x later
    by (Gives r k) led e =
        let both = step_same x r.0 more r.1 later k e in
        subst (λ (y : Passing). LedBy p.graph.now p.ends.now h.rest h y later) (sym both.0) (subst (λ (l : Held). LedBy p.graph.now p.ends.now h.rest h r.0 l) (sym both.1) led)
    by (Traps why k) led e = absurd (cc)
    by (Spent k) led e = absurd (cc)
    by Stuck led e = absurd (cc)

-- From a rest: by a move, by a run of a stack, or nothing is to be passed.
abbrev pub CameBy : Program → List PileView → Held → Passing → List PileView → Held → Type 0
CameBy p piles h passing.Nothing more later = Unit {0}
CameBy p piles h passing.Arguments more later = woken p.graph.now p.ends.now h.rest h ≡ Gives flow.Enters later
CameBy p piles h passing.Returned more later = woken p.graph.now p.ends.now h.rest h ≡ Gives flow.Returns later
CameBy p piles h (passing.Ended words) more later = (h.rest ≡ rest.Runs) × RunSteps piles h (Gives (step.GoesOn (passing.Ended words), more) later)
CameBy p piles h (passing.Elements copying) more later = woken p.graph.now p.ends.now h.rest h ≡ Gives (flow.Copies copying) later

came_led : (p : Program) (piles more : List PileView) (h later : Held) (x : Passing) → LedBy p.graph.now p.ends.now h.rest h x later → CameBy p piles h x more later
came_led p piles more h later passing.Nothing led = tt
came_led p piles more h later passing.Arguments led = led
came_led p piles more h later passing.Returned led = led
came_led p piles more h later (passing.Ended words) led = absurd led
came_led p piles more h later (passing.Elements copying) led = led

came_none : (p : Program) (piles more : List PileView) (h later : Held) (x : Passing) → x ≡ passing.Nothing → CameBy p piles h x more later
came_none p piles more h later x is = subst (λ (y : Passing). CameBy p piles h y more later) (sym is) tt

turn_none : (r : Turned) (x : Passing) → step.GoesOn x ≡ step_of_turn r → x ≡ passing.Nothing
turn_none turned.Ends x e = absurd (cc)
turn_none turned.TakesItem x e = cc
turn_none turned.GoesOn x e = cc

step_first : (a b : Step) (x y : List PileView) (k l : Held) → (let d : Done (Step × List PileView) = Gives (a, x) k in d) ≡ Gives (b, y) l → a ≡ b
step_first a b x y k l e = ap (λ (r : Step × List PileView). r.0) (gives_first e)

turn_nothing : (p : Program) (piles more : List PileView) (h later : Held) (x : Passing) → (let d : Done (Step × List PileView) = Gives (step.GoesOn x, more) later in d) ≡ turn_steps p piles h → x ≡ passing.Nothing
turn_nothing p piles more h later x e = by (turns p piles h) e
  where
    by : (d : Done (Turned × List PileView)) → (let c : Done (Step × List PileView) = Gives (step.GoesOn x, more) later in c) ≡ (let c : Done (Step × List PileView) = after d (λ r k. Gives (step_of_turn r.0, r.1) k) in c) → x ≡ passing.Nothing
    by (Gives r k) e = turn_none r.0 x (step_first (step.GoesOn x) (step_of_turn r.0) more r.1 later k e)
    by (Traps why k) e = absurd (cc)
    by (Spent k) e = absurd (cc)
    by Stuck e = absurd (cc)

-- A run of a stack.
abbrev Ran : Type 0
Ran = Option (List ℕ) × PileView

run_behind : (t : ℕ) (piles more : List PileView) (later : Held) (x : Passing) (first : Done Ran)
    → Behind {B = Step × List PileView} first (λ r k e. e ≡ Gives (step.GoesOn (passing_behind r.0), slice_set piles t r.1) k) (Gives (step.GoesOn x, more) later) → (o : Option (List ℕ)) × (x ≡ passing_behind o)
run_behind t piles more later x (Gives r k) b = (r.0, (step_same x (passing_behind r.0) more (slice_set piles t r.1) later k b).0)
run_behind t piles more later x (Traps why k) b = absurd (cc)
run_behind t piles more later x (Spent k) b = absurd (cc)
run_behind t piles more later x Stuck b = absurd (cc)

run_pile : (t : ℕ) (o : Option PileView) (piles more : List PileView) (h later : Held) (x : Passing) → PileSteps t o piles h (Gives (step.GoesOn x, more) later) → (o : Option (List ℕ)) × (x ≡ passing_behind o)
run_pile t None piles more h later x c = absurd (cc)
run_pile t (Some pile) piles more h later x c = run_behind t piles more later x c.0 c.2

run_task : (o : Option ℕ) (piles more : List PileView) (h later : Held) (x : Passing) → TaskSteps o piles h (Gives (step.GoesOn x, more) later) → (o : Option (List ℕ)) × (x ≡ passing_behind o)
run_task None piles more h later x c = absurd (cc)
run_task (Some t) piles more h later x c = run_pile t (slice_get piles t) piles more h later x c

run_came : (p : Program) (piles more : List PileView) (h later : Held) (x : Passing) → h.rest ≡ rest.Runs → RunSteps piles h (Gives (step.GoesOn x, more) later) → CameBy p piles h x more later
run_came p piles more h later x runs steps = by (run_task (acting_of h) piles more h later x steps)
  where
    by : (o : Option (List ℕ)) × (x ≡ passing_behind o) → CameBy p piles h x more later
    by (None, is) = came_none p piles more h later x is
    by (Some words, is) =
        subst (λ (y : Passing). CameBy p piles h y more later) (sym is)
        (runs, subst (λ (y : Passing). RunSteps piles h (Gives (step.GoesOn y, more) later)) is steps)

rest_came : (p : Program) (piles more : List PileView) (h later : Held) (x : Passing) (r : Rest) → h.rest ≡ r → RestSteps p r piles h (Gives (step.GoesOn x, more) later) → CameBy p piles h x more later
rest_came p piles more h later x rest.Free is steps = came_none p piles more h later x (turn_nothing p piles more h later x steps)
rest_came p piles more h later x rest.Runs is steps = run_came p piles more h later x is steps
rest_came p piles more h later x (rest.Instantiates number) is steps = came_led p piles more h later x (move_led p piles more h later x steps)
rest_came p piles more h later x rest.Arrives is steps = came_led p piles more h later x (move_led p piles more h later x steps)
rest_came p piles more h later x rest.Goes is steps = came_led p piles more h later x (move_led p piles more h later x steps)
rest_came p piles more h later x rest.Resumes is steps = came_led p piles more h later x (move_led p piles more h later x steps)
rest_came p piles more h later x rest.Back is steps = came_led p piles more h later x (move_led p piles more h later x steps)
rest_came p piles more h later x (rest.Calls number) is steps = came_led p piles more h later x (move_led p piles more h later x steps)
rest_came p piles more h later x rest.Leaves is steps = came_led p piles more h later x (move_led p piles more h later x steps)

pub came_by : (p : Program) (piles more : List PileView) (h later : Held) (x : Passing) → Steps Passes p passing.Nothing piles h (Gives (step.GoesOn x, more) later) → CameBy p piles h x more later
came_by p piles more h later x steps = rest_came p piles more h later x h.rest refl steps

-- Behind values that were passed nothing is to be passed.
plain_heard : (v : Views) (f : Flow) (piles : List PileView) (k : Held) → IsPlain f → IsNothing (heard_on v f piles k)
plain_heard v (flow.Now words) piles k plain = stacked_nothing (flow.Now words) piles k tt
plain_heard v flow.Rests piles k plain = refl
plain_heard v (flow.Starts func words) piles k plain = stacked_nothing (flow.Starts func words) piles k tt
plain_heard v flow.Enters piles k plain = absurd plain
plain_heard v flow.Returns piles k plain = absurd plain
plain_heard v (flow.Copies copying) piles k plain = absurd plain
plain_heard v (flow.Delivers r set) piles k plain = absurd plain
plain_heard v (flow.Polls r set) piles k plain = absurd plain
plain_heard v (flow.HearsNone r) piles k plain = absurd plain
plain_heard v (flow.HearsCancel r) piles k plain = absurd plain

followed_nothing : (v : Views) (f : Flow) (piles : List PileView) (k : Held) → IsPlain f → IsNothing (followed v f piles k)
unfolding followed
followed_nothing v f piles k plain = plain_heard v f piles k plain

follow_none : (p : Program) (f : Flow) (piles more : List PileView) (k later : Held) (y : Passing) → IsPlain f → (let d : Done (Step × List PileView) = Gives (step.GoesOn y, more) later in d) ≡ follow_steps p f piles k
    → y ≡ passing.Nothing
follow_none p f piles more k later y plain e = by (followed (seen p.graph.now) f piles k) (followed_nothing (seen p.graph.now) f piles k plain) e
  where
    by : (d : Done After) → IsNothing d → (let c : Done (Step × List PileView) = Gives (step.GoesOn y, more) later in c) ≡ (let c : Done (Step × List PileView) = after d (λ r k. Gives (step.GoesOn r.0, r.1) k) in c) → y ≡ passing.Nothing
    by (Gives r k) none e = (step_same y r.0 more r.1 later k e).0 ∙ none
    by (Traps why k) none e = absurd (cc)
    by (Spent k) none e = absurd (cc)
    by Stuck none e = absurd (cc)

pub pass_nothing : (p : Program) (x y : Passing) (piles more : List PileView) (h later : Held) → PassSteps Passes p x piles h (Gives (step.GoesOn y, more) later) → y ≡ passing.Nothing
pass_nothing p x y piles more h later (first, passes, b) = by first (by_acting p x h first (acting_of h) passes) b
  where
    by : (d : Done Flow) → GivesBy IsPlain d → Behind {B = Step × List PileView} d (λ f k e. e ≡ follow_steps p f piles k) (Gives (step.GoesOn y, more) later) → y ≡ passing.Nothing
    by (Gives f k) plain b = follow_none p f piles more k later y plain b
    by (Traps why k) plain b = absurd (cc)
    by (Spent k) plain b = absurd (cc)
    by Stuck plain b = absurd (cc)
