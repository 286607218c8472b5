-- Core code that runs keeps stacks typed, and lends no handle.
use Rattle.std.proofs.Common.{◌≡◌, ℕ, Bool, true, false, if◌then◌else◌, List, [], ◌∷◌, ◌++◌, slice_set, refl, sym, ap, subst, Option, Some, None}
use Rattle.std.specs.List.{slice_get}
use Rattle.wasm_store.specs.Store.{Store}
use Rattle.wasm_store.specs.Stack.{Stack}
use Rattle.wasm_store.specs.Step.{Move, Steps}
use Rattle.wasm_store.specs.Typed.{StoreTyped, Extends}
use Rattle.wasm_store.proofs.Moving.{never_stuck}
use Rattle.wasm_execution.specs.Waiting.{Waiting}
use Rattle.wasm_execution.specs.Run.{RunGives, Comes}
use Rattle.wasm_execution.specs.declared.running.Outcome.{Outcome}
use Rattle.wasm_execution.specs.declared.running.Outcome.TheVariants as outcome
use Rattle.tasks.specs.Tasks.{is_acting}
use Rattle.task_table.specs.declared.errand.Errand.{Errand}
use Rattle.task_table.specs.declared.errand.Errand.TheVariants as errand
use Rattle.trace_labels.specs.declared.label.Label.TheVariants as line
use Rattle.world_parts.specs.declared.parts.Rest.TheVariants as rest
use Rattle.world_parts.specs.Held.{Held, Done, Gives, Traps, Spent, Stuck, after, given}
use Rattle.world_parts.specs.Feed.{told, at_rest}
use Rattle.task_table.specs.declared.slot.TaskSlot.{TaskSlot}
use Rattle.task_table.specs.Slots.{at_errand, at_call}
use Rattle.world_parts.specs.Slots.{with_task, phase_of, errand_of, errand_set, words_set}
use Rattle.world_stacks.specs.declared.host_call.HostCall.{HostCall}
use Rattle.world_stacks.specs.declared.top.Top.{Top}
use Rattle.world_stacks.specs.declared.top.Top.TheVariants as top
use Rattle.world_stacks.specs.Views.{PileView}
use Rattle.world_stacks.specs.Piles.{with_top, unstacked, RunsTyped}
use Rattle.world_stacks.specs.Names.{core_name}
use Rattle.world_stacks.specs.Running.{called, ended_at, last_ended, ended_over, stack_ended}
use Rattle.world_stacks.specs.Typing.{TopFits, PileFits, PilesFit}
use Rattle.world_stacks.proofs.Nested.{waits_typed}
use Rattle.world_stacks.proofs.Fitting.{pile_later, piles_later, set_fits, unstacked_fits}
use Rattle.value_parts.proofs.fit.Keeps.{Keeps, KeepsBy, keeps_after, keeps_given, keeps_if, keeps_same, keeps_all, keeps_further, keeps_all}
use Rattle.value_parts.proofs.fit.Feed.{told_keeps}
use Rattle.value_parts.proofs.fit.Slots.{phase_of_keeps, errand_of_keeps, errand_set_keeps, words_set_keeps}
use Rattle.value_parts.specs.Coming.{Behind}
use Rattle.machine_runs.specs.declared.stepping.Step.{Step}
use Rattle.machine_runs.specs.declared.stepping.Step.TheVariants as step
use Rattle.machine_runs.specs.Stepping.{outcome_done, StackComes, TopComes, PileSteps, TaskSteps, RunSteps, passing_behind}
use Rattle.machine_runs.specs.Moving.{acting_of}
use Rattle.machine_runs.proofs.fit.Stacks.{FitsBy}

-- What is kept behind a part that leaves these stacks of a task.
abbrev PileBy : {A : Type 0} → Held → Done (A × PileView) → Type 0
PileBy h (Gives r k) = Keeps h k × (StoreTyped h.store → PileFits k.store r.1)
PileBy h (Traps why k) = Unit {0}
PileBy h (Spent k) = Unit {0}
PileBy h Stuck = Unit {0}

-- A part that leaves the stacks of a task as they are, in a store that is the same.
abbrev SameBy : {A : Type 0} → Held → Done A → Type 0
SameBy h (Gives x k) = (k.store ≡ h.store) × (k.instances ≡ h.instances)
SameBy h (Traps why k) = Unit {0}
SameBy h (Spent k) = Unit {0}
SameBy h Stuck = Unit {0}

same_pile : {A B : Type 0} (h : Held) (q : PileView) (d : Done A) (f : A → B) → SameBy h d → (StoreTyped h.store → PileFits h.store q) → PileBy h (after d (λ x k. Gives (f x, q) k))
same_pile h q (Gives x k) f same fit = (keeps_all h k same.0 same.1, λ typed. subst (λ (s : Store). PileFits s q) (sym same.0) (fit typed))
same_pile h q (Traps why k) f same fit = tt
same_pile h q (Spent k) f same fit = tt
same_pile h q Stuck f same fit = tt

same_given : {A B : Type 0} (h : Held) (o : Option A) (f : A → Done B) → ((x : A) → SameBy h (f x)) → SameBy h (given o f)
same_given h None f p = tt
same_given h (Some x) f p = p x

same_if : {A : Type 0} (h : Held) (b : Bool) (d e : Done A) → SameBy h d → SameBy h e → SameBy h (if b then d else e)
same_if h true d e p q = p
same_if h false d e p q = q

-- The last stack of a task has ended.
begins_same : (next : ℕ) (t : ℕ) (h : Held) (o : Option TaskSlot)
    → (let d : Done (Unit {0}) = given o (λ slot. Gives (tt {0}) (with_task t (at_errand errand.None slot) h)) in
    let none : Option (List ℕ) = None in SameBy h (after d (λ done k. Gives none (at_rest (rest.Instantiates next) k))))
begins_same next t h None = tt
begins_same next t h (Some slot) = (refl, refl)

ended_at_same : (t : ℕ) (words : List ℕ) (e : Errand) (h : Held) → SameBy h (ended_at t words e h)
ended_at_same t words errand.None h = (refl, refl)
ended_at_same t words (errand.Begins next) h = begins_same next t h (slice_get h.tasks t)
ended_at_same t words (errand.AfterCall callee canon) h = tt
ended_at_same t words (errand.AfterCancel callee canon index) h = tt
ended_at_same t words (errand.InBuiltin canon) h = tt

errand_same : (t : ℕ) (words : List ℕ) (h : Held) (o : Option TaskSlot) → SameBy h (after (given o (λ slot. Gives slot.errand h)) (λ e l. ended_at t words e l))
errand_same t words h None = tt
errand_same t words h (Some slot) = ended_at_same t words slot.errand h

phase_same : (t : ℕ) (words : List ℕ) (h : Held) (o : Option TaskSlot)
    → SameBy h (after (given o (λ slot. Gives slot.task.phase h)) (λ phase k. if is_acting phase then after (errand_of t k) (λ e l. ended_at t words e l) else Stuck))
phase_same t words h None = tt
phase_same t words h (Some slot) =
    same_if h (is_acting slot.task.phase) (after (errand_of t h) (λ e l. ended_at t words e l)) Stuck (errand_same t words h (slice_get h.tasks t)) tt

last_ended_same : (t : ℕ) (words : List ℕ) (h : Held) → SameBy h (last_ended t words h)
last_ended_same t words h = phase_same t words h (slice_get h.tasks t)

ended_over_fits : (t : ℕ) (words : List ℕ) (over : Bool) (p : PileView) (h : Held) → (StoreTyped h.store → PileFits h.store p) → PileBy h (ended_over t words over p h)
ended_over_fits t words true p h fit = (keeps_all h (at_rest rest.Runs (record h { labels = h.labels ++ line.Got t [] ∷ [] })) refl refl, fit)
ended_over_fits t words false p h fit = same_pile h p (last_ended t words h) (λ ended. ended) (last_ended_same t words h) fit

stack_ended_fits : (t : ℕ) (words : List ℕ) (p : PileView) (h : Held) → (StoreTyped h.store → PileFits h.store p) → PileBy h (stack_ended t words p h)
stack_ended_fits t words p h fit = by_under (unstacked h.store p.under p) refl
  where
    by_under : (o : Option (Bool × PileView)) → unstacked h.store p.under p ≡ o → PileBy h (given o (λ r. ended_over t words r.0 r.1 h))
    by_under None e = tt
    by_under (Some r) e = ended_over_fits t words r.0 r.1 h (λ typed. let now = fit typed in unstacked_fits h.store p.under p r now.under e now)

call_same : (t number : ℕ) (words : List ℕ) (h : Held) (o : Option TaskSlot)
    → SameBy h (after (given o (λ slot. Gives (tt {0}) (with_task t (at_call words slot) h))) (λ done k. Gives (tt {0}) (at_rest (rest.Calls number) k)))
call_same t number words h None = tt
call_same t number words h (Some slot) = (refl, refl)

called_same : (t number : ℕ) (words : List ℕ) (h : Held) → SameBy h (called t number words h)
called_same t number words h = call_same t number words h (slice_get h.tasks t)

-- What a run of a typed stack leaves.
left_by : (s t : Store) (k : Stack) (before later : ℕ) (move : Move) → StoreTyped s → RunsTyped s k → Comes s k before t later move → Extends s t × StoreTyped t
left_by s t k before later move store typed h = let last = never_stuck h.spent s t typed.0 k h.last store typed.1 h.steps in (last.0, last.1)

abbrev ran : Held → Store → ℕ → Held
ran h s left = record h { store = s; left = left }

ran_keeps : (h : Held) (s : Store) (left : ℕ) → Extends h.store s × StoreTyped s → Keeps h (ran h s left)
ran_keeps h s left p = record { store = λ typed. p; lends = λ most few. few }

through : {A : Type 0} (h k : Held) (d : Done (A × PileView)) → Keeps h k → StoreTyped k.store → PileBy k d → PileBy h d
through h k (Gives r l) p typed q = (keeps_further h k l p q.0, λ old. q.1 typed)
through h k (Traps why l) p typed q = tt
through h k (Spent l) p typed q = tt
through h k Stuck p typed q = tt

some_is : {A : Type 0} (x y : A) → ◌≡◌ {A = Option A} (Some x) (Some y) → y ≡ x
some_is x y h = cc

-- By what it came to.
outcome_fits : (t : ℕ) (p : PileView) (k : Stack) (o : Outcome) (h : Held) (s : Store) (left : ℕ) (d : Done (Option (List ℕ) × PileView)) → StoreTyped h.store → RunsTyped h.store k
    → PileFits h.store p → RunGives h.store k h.left o s left → outcome_done t p o (ran h s left) ≡ Some d → PileBy h d
outcome_fits t p k (outcome.Done words) h s left d store typed fit gives is =
    let now = left_by h.store s k h.left left _ store typed gives in
    subst (PileBy h) (sym (some_is (stack_ended t words p (ran h s left)) d is))
    (through h (ran h s left) (stack_ended t words p (ran h s left)) (ran_keeps h s left now) now.1
    (stack_ended_fits t words p (ran h s left) (λ later. pile_later h.store s p now.0 fit)))
outcome_fits t p k (outcome.Calls number words w) h s left d store typed fit gives is =
    let now = left_by h.store s k h.left left _ store typed gives.comes in
    let q : PileView = with_top (top.Waits (record { address = number; waiting = w })) p in
    let e : Done (Option (List ℕ) × PileView) = after (called t number words (ran h s left)) (λ done m. Gives (None, q) m) in
    subst (PileBy h) (sym (some_is e d is))
    (through h (ran h s left) e (ran_keeps h s left now) now.1
    (same_pile (ran h s left) q (called t number words (ran h s left)) (λ done. None) (called_same t number words (ran h s left))
    (λ later. record { top = waits_typed h.store k h.left number words w s left store typed gives; under = (pile_later h.store s p now.0 fit).under })))
outcome_fits t p k (outcome.Trapped why) h s left d store typed fit gives is = subst (PileBy h) (sym (some_is (Traps (core_name why) (ran h s left)) d is)) tt
outcome_fits t p k (outcome.NoFuel later) h s left d store typed fit gives is = subst (PileBy h) (sym (some_is (Spent (ran h s left)) d is)) tt
outcome_fits t p k outcome.Memory h s left d store typed fit gives is = cc

-- By the top of the stacks of the acting task.
top_fits : (t : ℕ) (x : Top) (p : PileView) (h : Held) (d : Done (Option (List ℕ) × PileView)) → StoreTyped h.store → x ≡ p.top → PileFits h.store p → TopComes t x p h d → PileBy h d
top_fits t top.Empty p h d store is fit c = subst (PileBy h) (sym c) tt
top_fits t (top.Waits call) p h d store is fit c = subst (PileBy h) (sym c) tt
top_fits t (top.Goes k) p h d store is fit (o, s, left, gives, e) =
    let typed : TopFits h.store (top.Goes k) = subst (TopFits h.store) (sym is) fit.top in
    outcome_fits t (with_top top.Empty p) k o h s left d store typed (record { top = tt; under = fit.under }) gives e

-- The stacks of the acting task are others.
pile_put : (t : ℕ) (piles : List PileView) (h : Held) (first : Done (Option (List ℕ) × PileView)) (d : Done (Step × List PileView)) → PilesFit h.store piles → StoreTyped h.store
    → PileBy h first → Behind first (λ r k e. e ≡ Gives (step.GoesOn (passing_behind r.0), slice_set piles t r.1) k) d → FitsBy h piles d
pile_put t piles h (Gives r k) d fit store p is =
    subst (FitsBy h piles) (sym is)
    (p.0, λ typed old. set_fits k.store piles t r.1 (p.1 typed) (piles_later h.store k.store piles (p.0.store typed).0 old))
pile_put t piles h (Traps why k) d fit store p is = subst (FitsBy h piles) (sym is) tt
pile_put t piles h (Spent k) d fit store p is = subst (FitsBy h piles) (sym is) tt
pile_put t piles h Stuck d fit store p is = subst (FitsBy h piles) (sym is) tt

pile_fits : (t : ℕ) (o : Option PileView) (piles : List PileView) (h : Held) (d : Done (Step × List PileView)) → StoreTyped h.store → PilesFit h.store piles
    → ((p : PileView) → o ≡ Some p → PileFits h.store p) → PileSteps t o piles h d → FitsBy h piles d
pile_fits t None piles h d store fit found is = subst (FitsBy h piles) (sym is) tt
pile_fits t (Some p) piles h d store fit found (first, comes, behind) =
    pile_put t piles h first d fit store (top_fits t p.top p h first store refl (found p refl) comes) behind

task_fits : (o : Option ℕ) (piles : List PileView) (h : Held) (d : Done (Step × List PileView)) → StoreTyped h.store → PilesFit h.store piles → TaskSteps o piles h d → FitsBy h piles d
task_fits None piles h d store fit is = subst (FitsBy h piles) (sym is) tt
task_fits (Some t) piles h d store fit is = pile_fits t (slice_get piles t) piles h d store fit (λ p there. fit t p there) is

pub runs_fit : (piles : List PileView) (h : Held) (d : Done (Step × List PileView)) → StoreTyped h.store → PilesFit h.store piles → RunSteps piles h d → FitsBy h piles d
runs_fit piles h d store fit is = task_fits (acting_of h) piles h d store fit is
