-- What follows a part of a step keeps all marks, and well what is kept.
use Rattle.std.proofs.Common.{◌≡◌, refl, Option, Some, None}
use Rattle.std.specs.Prelude.{ℕ, ◌-◌, List, length}
use Rattle.std.specs.List.{slice_get}
use Rattle.comp_graph.specs.declared.graph.FuncRef.{FuncRef}
use Rattle.world_parts.specs.Views.{Views}
use Rattle.world_parts.specs.declared.parts.Flow.{Flow}
use Rattle.world_parts.specs.declared.parts.Flow.TheVariants as flow
use Rattle.world_parts.specs.declared.parts.Rest.TheVariants as rest
use Rattle.world_parts.specs.Held.{Held, Done, Gives, Traps, Spent, Stuck, after, given}
use Rattle.world_parts.specs.Events.{received_none, received_cancel}
use Rattle.world_parts.specs.Feed.{at_rest, acting}
use Rattle.world_stacks.specs.Views.{PileView}
use Rattle.world_stacks.specs.Piles.{gone_on, at_pile}
use Rattle.world_stacks.specs.Piles as piled
use Rattle.world_stacks.specs.Starting.{call_of}
use Rattle.world_stacks.specs.Moving.{started_on}
use Rattle.value_parts.specs.declared.to_pass.Passing.{Passing}
use Rattle.value_parts.specs.declared.to_pass.Passing.TheVariants as passing
use Rattle.machine_runs.specs.Following.{heard, answered_now, started_now, stacked, followed}
use Rattle.run_laws.specs.keeping.Kept.{KeepsMarks, SubtasksAreOwn}
use Rattle.run_laws.specs.keeping.Well.{KeptWell}
use Rattle.run_laws.specs.keeping.Hearing.{OwnIfHears, OwnBehind}
use Rattle.run_laws.specs.keeping.Stepping.{KeepsAll, OwnToHear, FollowingKeepsAll}
use Rattle.run_laws.proofs.keeping.Every.{every_all, every_same, every_through, every_after, look_every}
use Rattle.run_laws.proofs.keeping.Back.{none_marks, cancel_marks}
use Rattle.run_laws.proofs.keeping.Acting.{heard_keeps}
use Rattle.run_laws.proofs.well.Behind.{well_all, well_same, well_behind, well_after}
use Rattle.run_laws.proofs.well.Woken.{events_well}

pub all_after : {A B : Type 0} (h : Held) (d : Done A) (f : A → Held → Done B) → KeepsAll h d → ((x : A) (k : Held) → KeepsAll k (f x k)) → KeepsAll h (after d f)
all_after h d f p q = (every_after h d f p.0 (λ x k. (q x k).0), well_after h d f p.1 (λ x k. (q x k).1))

pub all_given : {A B : Type 0} (h : Held) (o : Option A) (f : A → Done B) → ((x : A) → o ≡ Some x → KeepsAll h (f x)) → KeepsAll h (given o f)
all_given h None f p = (tt, tt)
all_given h (Some x) f p = p x refl

-- Neither tasks nor instances change.
pub all_rests : {A : Type 0} (h k : Held) (x : A) → k.tasks ≡ h.tasks → k.instances ≡ h.instances → KeepsAll h (Gives x k)
all_rests h k x tasks insts = (every_all h k tasks insts, well_all h k tasks)

pub all_through : {B : Type 0} (h k : Held) (d : Done B) → k.tasks ≡ h.tasks → k.instances ≡ h.instances → KeepsAll k d → KeepsAll h d
all_through h k d tasks insts p = (every_through h k d (every_all h k tasks insts) p.0, well_behind h k d (well_all h k tasks) p.1)

acting_all : (h : Held) → KeepsAll h (acting h)
acting_all h = all_given h (slice_get h.chain (length h.chain - 1)) (λ t. Gives t h) (λ t is. all_rests h h t refl refl)

-- Stacks.
now_all : (words : List ℕ) (piles : List PileView) (h : Held) → KeepsAll h (answered_now words piles h)
now_all words piles h =
    all_after {B = Passing × List PileView} h (acting h) (λ t k. given (at_pile (gone_on k.store words) t piles) (λ r. Gives (passing.Nothing, r.1) k)) (acting_all h)
    (λ t k.
    all_given {B = Passing × List PileView} k (at_pile (gone_on k.store words) t piles) (λ r. Gives (passing.Nothing, r.1) k)
    (λ r is. all_rests {A = Passing × List PileView} k k (passing.Nothing, r.1) refl refl))

start_all : (func : FuncRef) (words : List ℕ) (piles : List PileView) (h : Held) → KeepsAll h (started_now func words piles h)
start_all func words piles h =
    all_after {B = Passing × List PileView} h (acting h) (λ t k. after (started_on t func words piles k) (λ r l. Gives (passing.Nothing, r.1) l)) (acting_all h)
    (λ t k.
    all_after {B = Passing × List PileView} k (started_on t func words piles k) (λ r l. Gives (passing.Nothing, r.1) l)
    (all_given k (call_of k.store func words) (λ s. given (at_pile (piled.stacked s) t piles) (λ r. Gives r (at_rest rest.Runs k)))
    (λ s is. all_given k (at_pile (piled.stacked s) t piles) (λ r. Gives r (at_rest rest.Runs k)) (λ r there. all_rests k (at_rest rest.Runs k) r refl refl)))
    (λ r l. all_rests {A = Passing × List PileView} l l (passing.Nothing, r.1) refl refl))

pub stacked_all : (f : Flow) (piles : List PileView) (h : Held) → KeepsAll h (stacked f piles h)
stacked_all (flow.Now words) piles h = now_all words piles h
stacked_all flow.Rests piles h = (every_same h, well_same h)
stacked_all (flow.Starts func words) piles h = start_all func words piles h
stacked_all flow.Enters piles h = (every_same h, well_same h)
stacked_all flow.Returns piles h = (every_same h, well_same h)
stacked_all (flow.Copies copying) piles h = (every_same h, well_same h)
stacked_all (flow.Delivers r set) piles h = (tt, tt)
stacked_all (flow.Polls r set) piles h = (tt, tt)
stacked_all (flow.HearsNone r) piles h = (tt, tt)
stacked_all (flow.HearsCancel r) piles h = (tt, tt)

-- An event comes, or none.
heard_by : (g : Views) (f : Flow) (h : Held) → KeptWell h → OwnToHear h f → KeepsMarks h (heard g f h)
heard_by g (flow.Now words) h well own = every_same h
heard_by g flow.Rests h well own = every_same h
heard_by g (flow.Starts func words) h well own = every_same h
heard_by g flow.Enters h well own = every_same h
heard_by g flow.Returns h well own = every_same h
heard_by g (flow.Copies copying) h well own = every_same h
heard_by g (flow.Delivers r set) h well own = heard_keeps g (flow.Delivers r set) h well (λ t x acts is. own x.instance)
heard_by g (flow.Polls r set) h well own = heard_keeps g (flow.Polls r set) h well (λ t x acts is. own x.instance)
heard_by g (flow.HearsNone r) h well own =
    look_every h (slice_get h.chain (length h.chain - 1)) (λ t. Gives t h) (λ t k. received_none g t r k) (λ t acts. none_marks g t r h)
heard_by g (flow.HearsCancel r) h well own =
    look_every h (slice_get h.chain (length h.chain - 1)) (λ t. Gives t h) (λ t k. received_cancel g t r k) (λ t acts. cancel_marks g t r h well.asked)

pub following_all : FollowingKeepsAll
unfolding followed
following_all g f piles h well own =
    all_after h (heard g f h) (λ e k. stacked e piles k) (heard_by g f h well own, events_well g f h) (λ e k. stacked_all e piles k)

-- Behind a part that keeps both, where an event is to come as it is asked.
hears_from : (h k : Held) (f : Flow) → ((at : ℕ) → SubtasksAreOwn h at) → OwnIfHears h f k → OwnToHear k f
hears_from h k (flow.Now words) own p = tt
hears_from h k flow.Rests own p = tt
hears_from h k (flow.Starts ref words) own p = tt
hears_from h k flow.Enters own p = tt
hears_from h k flow.Returns own p = tt
hears_from h k (flow.Copies copying) own p = tt
hears_from h k (flow.Delivers r set) own p = λ at. p at (own at)
hears_from h k (flow.Polls r set) own p = λ at. p at (own at)
hears_from h k (flow.HearsNone r) own p = tt
hears_from h k (flow.HearsCancel r) own p = tt

pub behind_flow : {B : Type 0} (h : Held) (d : Done Flow) (c : Flow → Held → Done B) → KeepsAll h d → KeptWell h → ((at : ℕ) → SubtasksAreOwn h at) → OwnBehind h d
    → ((f : Flow) (k : Held) → KeptWell k → OwnToHear k f → KeepsAll k (c f k)) → KeepsAll h (after d c)
behind_flow {B} h (Gives f k) c keeps well own hears p =
    let q : KeepsAll k (c f k) = p f k (keeps.1 well) (hears_from h k f own hears) in
    (every_through h k (c f k) keeps.0 q.0, well_behind h k (c f k) keeps.1 q.1)
behind_flow h (Traps why k) c keeps well own hears p = keeps
behind_flow h (Spent k) c keeps well own hears p = (tt, tt)
behind_flow h Stuck c keeps well own hears p = (tt, tt)
