-- What follows what a run of a task's stack came to keeps all marks, and well what is kept.
use Rattle.std.proofs.Common.{refl, subst}
use Rattle.std.specs.Prelude.{ℕ, Bool, true, false, if◌then◌else◌, List, [], Option, None}
use Rattle.std.specs.List.{slice_get}
use Rattle.wasm_execution.specs.declared.running.Outcome.TheVariants as outcome
use Rattle.tasks.specs.Tasks.{is_acting}
use Rattle.task_table.specs.declared.errand.Errand.{Errand}
use Rattle.task_table.specs.declared.errand.Errand.TheVariants as errand
use Rattle.trace_labels.specs.declared.label.Label.TheVariants as line
use Rattle.world_parts.specs.declared.parts.Rest.TheVariants as rest
use Rattle.world_parts.specs.Held.{Held, Done, Gives, Stuck, after}
use Rattle.world_parts.specs.Feed.{told, at_rest}
use Rattle.world_parts.specs.Slots.{phase_of, errand_of, errand_set, words_set}
use Rattle.world_stacks.specs.declared.top.Top.TheVariants as top
use Rattle.world_stacks.specs.Views.{PileView}
use Rattle.world_stacks.specs.Piles.{with_top, unstacked}
use Rattle.world_stacks.specs.Running.{called, ended_at, last_ended, ended_over}
use Rattle.abi_machine.proofs.sound.Found.{some_same}
use Rattle.standing.proofs.marks.Feed.{told_stays}
use Rattle.standing.proofs.marks.Slots.{errand_set_stays, words_set_stays}
use Rattle.run_laws.specs.keeping.Kept.{KeepsMarks}
use Rattle.run_laws.specs.keeping.Well.{KeepsWell}
use Rattle.run_laws.specs.keeping.Instantiating.{RunningKeepsMarks}
use Rattle.run_laws.proofs.keeping.Every.{all_by, every_all, every_same, every_after, every_given, every_if, look_every}
use Rattle.run_laws.proofs.keeping.parts.Feed.{told_keeps}
use Rattle.run_laws.proofs.keeping.parts.Slots.{errand_set_keeps, words_set_keeps}
use Rattle.run_laws.proofs.well.Behind.{well_all, well_same, well_after, well_given, well_if}
use Rattle.run_laws.proofs.well.Feed.{told_well}
use Rattle.run_laws.proofs.well.Slots.{phase_of_well, errand_of_well, errand_set_well, words_set_well}

-- It waits at a call of a canonical function, whose words are kept.
called_marks : (t number : ℕ) (words : List ℕ) (h : Held) → KeepsMarks h (called t number words h)
called_marks t number words h =
    every_after h (words_set t words h) (λ done k. Gives tt (at_rest (rest.Calls number) k)) (all_by h (words_set t words h) (words_set_stays t words h) (words_set_keeps t words h))
    (λ done k. every_all k (at_rest (rest.Calls number) k) refl refl)

called_well : (t number : ℕ) (words : List ℕ) (h : Held) → KeepsWell h (called t number words h)
called_well t number words h =
    well_after h (words_set t words h) (λ done k. Gives tt (at_rest (rest.Calls number) k)) (words_set_well t words h) (λ done k. well_all k (at_rest (rest.Calls number) k) refl)

-- It has ended.
ended_at_marks : (t : ℕ) (words : List ℕ) (e : Errand) (h : Held) → KeepsMarks h (ended_at t words e h)
ended_at_marks t words errand.None h = every_same h
ended_at_marks t words (errand.Begins next) h =
    every_after h (errand_set t errand.None h) (λ done k. Gives None (at_rest (rest.Instantiates next) k))
    (all_by h (errand_set t errand.None h) (errand_set_stays t errand.None h) (errand_set_keeps t errand.None h)) (λ done k. every_all k (at_rest (rest.Instantiates next) k) refl refl)
ended_at_marks t words (errand.AfterCall callee canon) h = tt
ended_at_marks t words (errand.AfterCancel callee canon index) h = tt
ended_at_marks t words (errand.InBuiltin canon) h = tt

ended_at_well : (t : ℕ) (words : List ℕ) (e : Errand) (h : Held) → KeepsWell h (ended_at t words e h)
ended_at_well t words errand.None h = well_same h
ended_at_well t words (errand.Begins next) h =
    well_after h (errand_set t errand.None h) (λ done k. Gives None (at_rest (rest.Instantiates next) k)) (errand_set_well t errand.None h tt)
    (λ done k. well_all k (at_rest (rest.Instantiates next) k) refl)
ended_at_well t words (errand.AfterCall callee canon) h = tt
ended_at_well t words (errand.AfterCancel callee canon index) h = tt
ended_at_well t words (errand.InBuiltin canon) h = tt

last_ended_marks : (t : ℕ) (words : List ℕ) (h : Held) → KeepsMarks h (last_ended t words h)
last_ended_marks t words h =
    look_every h (slice_get h.tasks t) (λ slot. Gives slot.task.phase h) (λ phase k. if is_acting phase then after (errand_of t k) (λ e l. ended_at t words e l) else Stuck)
    (λ x is.
    every_if h (is_acting x.task.phase) (after (errand_of t h) (λ e l. ended_at t words e l)) Stuck
    (look_every h (slice_get h.tasks t) (λ slot. Gives slot.errand h) (λ e l. ended_at t words e l) (λ y found. ended_at_marks t words y.errand h)) tt)

last_ended_well : (t : ℕ) (words : List ℕ) (h : Held) → KeepsWell h (last_ended t words h)
last_ended_well t words h =
    well_after h (phase_of t h) (λ phase k. if is_acting phase then after (errand_of t k) (λ e l. ended_at t words e l) else Stuck) (phase_of_well t h)
    (λ phase k.
    well_if k (is_acting phase) (after (errand_of t k) (λ e l. ended_at t words e l)) Stuck
    (well_after k (errand_of t k) (λ e l. ended_at t words e l) (errand_of_well t k) (λ e l. ended_at_well t words e l)) tt)

ended_over_marks : (t : ℕ) (words : List ℕ) (b : Bool) (p : PileView) (h : Held) → KeepsMarks h (ended_over t words b p h)
ended_over_marks t words true p h =
    every_after {B = Option (List ℕ) × PileView} h (told (line.Got t []) h) (λ done k. Gives (None, p) (at_rest rest.Runs k)) (all_by h (told (line.Got t []) h) (told_stays (line.Got t []) h) (told_keeps (line.Got t []) h))
    (λ done k. every_all k (at_rest rest.Runs k) refl refl)
ended_over_marks t words false p h = every_after {B = Option (List ℕ) × PileView} h (last_ended t words h) (λ ended k. Gives (ended, p) k) (last_ended_marks t words h) (λ ended k. every_same k)

ended_over_well : (t : ℕ) (words : List ℕ) (b : Bool) (p : PileView) (h : Held) → KeepsWell h (ended_over t words b p h)
ended_over_well t words true p h =
    well_after {B = Option (List ℕ) × PileView} h (told (line.Got t []) h) (λ done k. Gives (None, p) (at_rest rest.Runs k)) (told_well (line.Got t []) h) (λ done k. well_all k (at_rest rest.Runs k) refl)
ended_over_well t words false p h = well_after {B = Option (List ℕ) × PileView} h (last_ended t words h) (λ ended k. Gives (ended, p) k) (last_ended_well t words h) (λ ended k. well_same k)

Both : {A : Type 0} → Held → Done A → Type 0
Both h d = KeepsMarks h d × KeepsWell h d

pub running_marks : RunningKeepsMarks
unfolding Both
running_marks t p (outcome.Done words) h d e =
    subst (λ (z : Done (Option (List ℕ) × PileView)). Both h z) (some_same e) (
      every_given h (unstacked h.store p.under p) (λ r. ended_over t words r.0 r.1 h) (λ r is. ended_over_marks t words r.0 r.1 h),
      well_given h (unstacked h.store p.under p) (λ r. ended_over t words r.0 r.1 h) (λ r is. ended_over_well t words r.0 r.1 h),
    )
running_marks t p (outcome.Calls number words w) h d e =
    subst (λ (z : Done (Option (List ℕ) × PileView)). Both h z) (some_same e) (
      every_after {B = Option (List ℕ) × PileView} h (called t number words h) (λ done k. Gives (None, with_top (top.Waits (record { address = number; waiting = w })) p) k) (called_marks t number words h) (λ done k. every_same k),
      well_after {B = Option (List ℕ) × PileView} h (called t number words h) (λ done k. Gives (None, with_top (top.Waits (record { address = number; waiting = w })) p) k) (called_well t number words h) (λ done k. well_same k),
    )
running_marks t p (outcome.Trapped why) h d e = subst (λ (z : Done (Option (List ℕ) × PileView)). Both h z) (some_same e) (λ marks. marks.lends, tt)
running_marks t p (outcome.NoFuel later) h d e = subst (λ (z : Done (Option (List ℕ) × PileView)). Both h z) (some_same e) (tt, tt)
running_marks t p outcome.Memory h d e = absurd (cc)
