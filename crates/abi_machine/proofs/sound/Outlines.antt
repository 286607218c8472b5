-- Outlines of tasks: what tasks do, their states and their stacks.
use Rattle.std.proofs.Common.{◌≡◌, inl, inr, ℕ, zero, suc, Bool, true, List, [], ◌∷◌, ◌++◌, refl, sym, ap, ◌∙◌, subst, Option, Some}
use Rattle.std.specs.Prelude.{IsSome}
use Rattle.std.specs.List.{slice_get}
use Rattle.wasm_store.specs.Stack.{Stack}
use Rattle.abi_machine.specs.World.{Callee, TaskState, New, Acting, AfterCall, AfterCancel, Begins, WaitsToEnter, InLoop, InBuiltin, Exited, Task, World}
use Rattle.abi_machine.specs.Edits.{changed_at, answered_stacks}
use Rattle.abi_machine.specs.Reading.{task_at}
use Rattle.abi_machine.specs.sound.Acting.{Outline, outline_of, outlines_of, WaitsWith, StandsBy, HaveStacks, IsActing, RunsIn, IsRunning, ActsAs}
use Rattle.abi_machine.proofs.sound.Lists.{more_either}
use Rattle.abi_machine.proofs.sound.Found.{some_same, changed_there}
use Rattle.abi_machine.proofs.sound.Chained.{no_first, changed_here}

pub outlines_changed : (t : ℕ) (f : Task → Task) (h : Outline → Outline) (tasks : List Task) → ((x : Task) → outline_of (f x) ≡ h (outline_of x)) → outlines_of (changed_at t f tasks) ≡ changed_at t h (outlines_of tasks)
outlines_changed t f h [] same = refl
outlines_changed zero f h (x ∷ tasks) same = ap (λ (o : Outline). o ∷ outlines_of tasks) (same x)
outlines_changed (suc t) f h (x ∷ tasks) same = ap (λ (l : List Outline). outline_of x ∷ l) (outlines_changed t f h tasks same)

pub outlines_kept : (t : ℕ) (f : Task → Task) (tasks : List Task) → ((x : Task) → outline_of (f x) ≡ outline_of x) → outlines_of (changed_at t f tasks) ≡ outlines_of tasks
outlines_kept t f [] same = refl
outlines_kept zero f (x ∷ tasks) same = ap (λ (o : Outline). o ∷ outlines_of tasks) (same x)
outlines_kept (suc t) f (x ∷ tasks) same = ap (λ (l : List Outline). outline_of x ∷ l) (outlines_kept t f tasks same)

pub outlines_more : (tasks : List Task) (new : Task) → outlines_of (tasks ++ new ∷ []) ≡ outlines_of tasks ++ outline_of new ∷ []
outlines_more [] new = refl
outlines_more (x ∷ tasks) new = ap (λ (l : List Outline). outline_of x ∷ l) (outlines_more tasks new)

pub outline_there : (tasks : List Task) (n : ℕ) (task : Task) → slice_get tasks n ≡ Some task → slice_get (outlines_of tasks) n ≡ Some (outline_of task)
outline_there [] n task e = absurd (no_first n task e)
outline_there (x ∷ tasks) zero task e = ap (λ (y : Task). Some (outline_of y)) (some_same e)
outline_there (x ∷ tasks) (suc n) task e = outline_there tasks n task e

pub outline_back : (tasks : List Task) (n : ℕ) (o : Outline) → slice_get (outlines_of tasks) n ≡ Some o → (task : Task) × (slice_get tasks n ≡ Some task) × (outline_of task ≡ o)
outline_back [] n o e = absurd (no_first n o e)
outline_back (x ∷ tasks) zero o e = (x, refl, some_same e)
outline_back (x ∷ tasks) (suc n) o e = outline_back tasks n o e

-- The acting task.

abbrev pub Is : (Outline → Type 0) → ℕ → World → Type 0
Is P t w = ActsAs P t (outlines_of w.tasks) w.chain

pub as_is : (P Q : Outline → Type 0) (t : ℕ) (w : World) → ((o : Outline) → P o → Q o) → Is P t w → Is Q t w
as_is P Q t w f a = (a.0, (a.1.0, a.1.1, f a.1.0 a.1.2))

pub is_there : (P : Outline → Type 0) (t : ℕ) (w : World) → Is P t w → IsSome (task_at w t)
is_there P t w a = (let x = outline_back w.tasks t a.1.0 a.1.1 in subst (λ (o : Option Task). IsSome o) (sym x.1) refl)

-- it is changed
pub task_first : (P Q : Outline → Type 0) (w : World) (t : ℕ) (f : Task → Task) (h : Outline → Outline) → ((x : Task) → outline_of (f x) ≡ h (outline_of x)) → ((o : Outline) → Q o → P (h o)) → Is Q t w
    → ActsAs P t (outlines_of (changed_at t f w.tasks)) w.chain
task_first P Q w t f h same keeps a = (
  a.0,
  (
    h a.1.0,
    ap (λ (all : List Outline). slice_get all t) (outlines_changed t f h w.tasks same) ∙ changed_there t h (outlines_of w.tasks) a.1.0 a.1.1,
    keeps a.1.0 a.1.2,
  ),
)

pub state_first : (P Q : Outline → Type 0) (w : World) (t : ℕ) (state : TaskState) → ((o : Outline) → Q o → P (record o { state = state })) → Is Q t w
    → ActsAs P t (outlines_of (changed_at t (λ task. record task { state = state }) w.tasks)) w.chain
state_first P Q w t state keeps a = task_first P Q w t (λ task. record task { state = state }) (λ o. record o { state = state }) (λ x. refl) keeps a

pub stacks_first : (P Q : Outline → Type 0) (w : World) (t : ℕ) (F : List Stack → List Stack) → ((o : Outline) → Q o → P (record o { stacks = F o.stacks })) → Is Q t w
    → ActsAs P t (outlines_of (changed_at t (λ task. record task { stacks = F task.stacks }) w.tasks)) w.chain
stacks_first P Q w t F keeps a = task_first P Q w t (λ task. record task { stacks = F task.stacks }) (λ o. record o { stacks = F o.stacks }) (λ x. refl) keeps a

-- Stacks.

pub answered_some : (words : List ℕ) (stacks : List Stack) → IsSome (slice_get stacks 0) → IsSome (slice_get (answered_stacks words stacks) 0)
answered_some words [] h = cc
answered_some words (k ∷ under) h = refl

-- a state that says nothing of stacks
abbrev pub MayHaveStacks : Outline → Type 0
MayHaveStacks o = (p : Outline) → StandsBy o.state p

acting_says : (state : TaskState) → state ≡ Acting → (p : Outline) → StandsBy state p
acting_says state same p = subst (λ (x : TaskState). StandsBy x p) (sym same) tt

pub acting_may : (b : Bool) (o : Outline) → IsActing b o → MayHaveStacks o
acting_may b o h p = acting_says o.state h.1 p

runs_says : (state : TaskState) (callee : Callee) → RunsIn state callee → (p : Outline) → StandsBy state p
runs_says Acting callee h p = tt
runs_says (Begins n) callee h p = tt
runs_says New callee h p = absurd h
runs_says (AfterCall other number words) callee h p = absurd h
runs_says (AfterCancel other number words) callee h p = absurd h
runs_says WaitsToEnter callee h p = absurd h
runs_says (InLoop word) callee h p = absurd h
runs_says (InBuiltin number words wait) callee h p = absurd h
runs_says Exited callee h p = absurd h

abbrev pub Runs : Outline → Type 0
Runs o = RunsIn o.state o.callee

pub runs_may : (o : Outline) → Runs o → MayHaveStacks o
runs_may o h p = runs_says o.state o.callee h p

pub acting_runs : (b : Bool) (o : Outline) → IsActing b o → Runs o
acting_runs b o h = subst (λ (state : TaskState). RunsIn state o.callee) (sym h.1) h.0

pub acting_running : (o : Outline) → IsActing true o → IsRunning o
acting_running o h = (acting_runs true o h, h.2)

pub acting_waits : (b : Bool) (o : Outline) → IsActing b o → WaitsWith b o
acting_waits b o h = (h.0, h.2)

-- A task is changed, so that its stacks are as its state says, and one is added.
pub stacks_kept : (tasks : List Task) (u : ℕ) (f : Task → Task) (h : Outline → Outline) → ((x : Task) → outline_of (f x) ≡ h (outline_of x))
    → ((o : Outline) → slice_get (outlines_of tasks) u ≡ Some o → StandsBy (h o).state (h o)) → HaveStacks (outlines_of tasks) → HaveStacks (outlines_of (changed_at u f tasks))
stacks_kept tasks u f h same says all =
    subst HaveStacks (sym (outlines_changed u f h tasks same)) (λ t o e. elim (changed_here u h (outlines_of tasks) t o e) [
      | inl x ↦ subst (λ (y : Outline). StandsBy y.state y) (sym x.1.2) (says x.1.0 x.1.1)
      | inr old ↦ all t o old
    ])

pub stacks_more : (tasks : List Task) (new : Task) → StandsBy new.state (outline_of new) → HaveStacks (outlines_of tasks) → HaveStacks (outlines_of (tasks ++ new ∷ []))
stacks_more tasks new says all =
    subst HaveStacks (sym (outlines_more tasks new)) (λ t o e. elim (more_either (outlines_of tasks) (outline_of new) t o e) [
      | inl old ↦ all t o old
      | inr last ↦ subst (λ (y : Outline). StandsBy y.state y) (sym last.1) says
    ])

-- what is known of the acting task is known of what stands at its number
pub is_what : (P : Outline → Type 0) (t : ℕ) (w : World) (o : Outline) → Is P t w → slice_get (outlines_of w.tasks) t ≡ Some o → P o
is_what P t w o a e = subst P (some_same (sym a.1.1 ∙ e)) a.1.2
