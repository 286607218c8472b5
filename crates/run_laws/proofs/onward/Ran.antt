-- Where a stack ran, and the core function or the callback of the acting task has ended with words: the stack came to its end with these, and nothing but the store and the fuel has changed.
use Rattle.std.proofs.Common.{◌≡◌, ℕ, Bool, true, false, if◌then◌else◌, List, [], ◌∷◌, refl, sym, ap, ◌∙◌, subst, Option, Some, None}
use Rattle.std.specs.List.{slice_get, slice_set}
use Rattle.wasm_store.specs.Stack.{Stack}
use Rattle.wasm_store.specs.Store.{Store}
use Rattle.wasm_execution.specs.declared.running.Outcome.{Outcome}
use Rattle.wasm_execution.specs.declared.running.Outcome.TheVariants as outcome
use Rattle.wasm_execution.specs.Run.{RunGives}
use Rattle.tasks.specs.Tasks.{is_acting}
use Rattle.task_table.specs.declared.errand.Errand.{Errand}
use Rattle.task_table.specs.declared.errand.Errand.TheVariants as errand
use Rattle.task_table.specs.declared.slot.TaskSlot.{TaskSlot}
use Rattle.trace_labels.specs.declared.label.Label.TheVariants as line
use Rattle.world_parts.specs.declared.parts.Rest.TheVariants as rest
use Rattle.world_parts.specs.Feed.{told, at_rest}
use Rattle.world_parts.specs.Held.{Held, Done, Gives, Traps, Spent, Stuck, after, given}
use Rattle.world_parts.specs.Slots.{errand_of, errand_set}
use Rattle.world_stacks.specs.declared.host_call.HostCall.{HostCall}
use Rattle.world_stacks.specs.declared.top.Top.{Top}
use Rattle.world_stacks.specs.declared.top.Top.TheVariants as top
use Rattle.world_stacks.specs.Names.{core_name}
use Rattle.world_stacks.specs.Piles.{going_back, resumed_at, unstacked, with_top}
use Rattle.world_stacks.specs.Running.{called, ended_at, ended_over, stack_ended}
use Rattle.world_stacks.specs.Views.{PileView}
use Rattle.value_parts.specs.Coming.{Behind}
use Rattle.value_parts.specs.declared.to_pass.Passing.{Passing}
use Rattle.value_parts.specs.declared.to_pass.Passing.TheVariants as passing
use Rattle.machine_runs.specs.declared.stepping.Step.{Step}
use Rattle.machine_runs.specs.declared.stepping.Step.TheVariants as step
use Rattle.machine_runs.specs.Moving.{acting_of}
use Rattle.run_laws.proofs.onward.Led.{gives_first, gives_held}
use Rattle.machine_runs.specs.Stepping.{PileSteps, RunSteps, TaskSteps, TopComes, outcome_done, passing_behind}

abbrev Ended : Type 0
Ended = Option (List ℕ) × PileView

-- What came to its end.
pub record HasRun (h : Held) (t : ℕ) (pile : PileView) (words : List ℕ) (later : Held) : Type 0 where
  pub stack : Stack
  pub store : Store
  pub left : ℕ
  pub goes : pile.top ≡ top.Goes stack
  pub run : RunGives h.store stack h.left (outcome.Done words) store left
  pub alone : pile.under ≡ []
  pub same : later ≡ record h { store = store; left = left }
  pub acts : (x : TaskSlot) → slice_get h.tasks t ≡ Some x → (is_acting x.task.phase ≡ true) × (x.errand ≡ errand.None)

module _ (h : Held) (t : ℕ) (pile : PileView) where
  abbrev EndsIn : Option (List ℕ) → Held → Type 0
  EndsIn None k = Unit {0}
  EndsIn (Some words) k = HasRun h t pile words k

  abbrev First : Done Ended → Type 0
  First (Gives r k) = EndsIn r.0 k
  First (Traps why k) = Unit {0}
  First (Spent k) = Unit {0}
  First Stuck = Unit {0}

  none_first : {A : Type 0} (d : Done A) (f : A → Held → Held) (p : PileView)
      → First (let e : Done Ended = after (let n : Done (Option (List ℕ)) = after d (λ x k. Gives None (f x k)) in n) (λ ended k. Gives (ended, p) k) in e)
  none_first (Gives x k) f p = tt
  none_first (Traps why k) f p = tt
  none_first (Spent k) f p = tt
  none_first Stuck f p = tt

  gone_first : {A : Type 0} (d : Done A) (f : A → Held → Held) (p : PileView) → First (let e : Done Ended = after d (λ x k. Gives (None, p) (f x k)) in e)
  gone_first (Gives x k) f p = tt
  gone_first (Traps why k) f p = tt
  gone_first (Spent k) f p = tt
  gone_first Stuck f p = tt

  module _ (stack : Stack) (goes : pile.top ≡ top.Goes stack) (store : Store) (left : ℕ) where
    abbrev later : Held
    later = record h { store = store; left = left }

    module _ (words : List ℕ) (run : RunGives h.store stack h.left (outcome.Done words) store left) (alone : pile.under ≡ []) (p : PileView) where
      by_errand : (x : TaskSlot) → slice_get h.tasks t ≡ Some x → is_acting x.task.phase ≡ true → (e : Errand) → x.errand ≡ e
          → First (let d : Done Ended = after (ended_at t words e later) (λ ended k. Gives (ended, p) k) in d)
      by_errand x there acts errand.None is = record {
        stack = stack;
        store = store;
        left = left;
        goes = goes;
        run = run;
        alone = alone;
        same = refl;
        acts = λ y at. subst (λ (z : TaskSlot). (is_acting z.task.phase ≡ true) × (z.errand ≡ errand.None)) (one x y there at) (acts, is);
      }
        where
          one : (a b : TaskSlot) → slice_get h.tasks t ≡ Some a → slice_get h.tasks t ≡ Some b → a ≡ b
          one a b first second = (let same : Some a ≡ Some b = sym first ∙ second in cc)
      by_errand x there acts (errand.Begins next) is = none_first (errand_set t errand.None later) (λ done k. at_rest (rest.Instantiates next) k) p
      by_errand x there acts (errand.AfterCall callee canon) is = tt
      by_errand x there acts (errand.AfterCancel callee canon index) is = tt
      by_errand x there acts (errand.InBuiltin canon) is = tt

      abbrev from_errand : Option TaskSlot → Done Ended
      from_errand o = after (after (given o (λ slot. Gives slot.errand later)) (λ e l. ended_at t words e l)) (λ ended k. Gives (ended, p) k)

      by_phase : (x : TaskSlot) → slice_get h.tasks t ≡ Some x → (b : Bool) → is_acting x.task.phase ≡ b
          → First (let d : Done Ended = after (if b then after (errand_of t later) (λ e l. ended_at t words e l) else Stuck) (λ ended k. Gives (ended, p) k) in d)
      by_phase x there true acts =
          subst (λ (o : Option TaskSlot). First (from_errand o)) (sym there) (by_errand x there acts x.errand refl)
      by_phase x there false acts = tt

      by_task : (o : Option TaskSlot) → slice_get h.tasks t ≡ o
          → First (let d : Done Ended = after (after (given o (λ slot. Gives slot.task.phase later)) (λ phase k. if is_acting phase then after (errand_of t k) (λ e l. ended_at t words e l) else Stuck)) (λ ended k. Gives (ended, p) k) in d)
      by_task None none = tt
      by_task (Some x) there = by_phase x there (is_acting x.task.phase) refl

    stack_first : (words : List ℕ) (p : PileView) → RunGives h.store stack h.left (outcome.Done words) store left → p.under ≡ pile.under → First (stack_ended t words p later)
    stack_first words p run same = by_under p.under refl
      where
        by_back : (o : Option Stack) (under : List HostCall) → First (let d : Done Ended = given (going_back o under) (λ r. ended_over t words r.0 r.1 later) in d)
        by_back None under = tt
        by_back (Some k) under = gone_first (told (line.Got t []) later) (λ done n. at_rest rest.Runs n) (record { top = top.Goes k; under = under })

        by_under : (under : List HostCall) → p.under ≡ under → First (let d : Done Ended = given (unstacked later.store under p) (λ r. ended_over t words r.0 r.1 later) in d)
        by_under [] is = by_task words run (sym same ∙ is) p (slice_get h.tasks t) refl
        by_under (c ∷ under) is = by_back (resumed_at later.store [] c) under

    outcome_first : (o : Outcome) (p : PileView) (first : Done Ended) → RunGives h.store stack h.left o store left → p.under ≡ pile.under → outcome_done t p o later ≡ Some first → First first
    outcome_first (outcome.Done words) p first run same is = subst First (one (stack_ended t words p later) first is) (stack_first words p run same)
      where
        one : (a b : Done Ended) → (let o : Option (Done Ended) = Some a in o) ≡ Some b → a ≡ b
        one a b e = cc
    outcome_first (outcome.Calls number words waits) p first run same is =
        subst First (one (after (called t number words later) (λ done k. Gives (None, with_top (top.Waits (record { address = number; waiting = waits })) p) k)) first is)
        (gone_first (called t number words later) (λ done k. k) (with_top (top.Waits (record { address = number; waiting = waits })) p))
      where
        one : (a b : Done Ended) → (let o : Option (Done Ended) = Some a in o) ≡ Some b → a ≡ b
        one a b e = cc
    outcome_first (outcome.Trapped why) p first run same is = subst First (one (Traps (core_name why) later) first is) tt
      where
        one : (a b : Done Ended) → (let o : Option (Done Ended) = Some a in o) ≡ Some b → a ≡ b
        one a b e = cc
    outcome_first (outcome.NoFuel k) p first run same is = subst First (one (Spent later) first is) tt
      where
        one : (a b : Done Ended) → (let o : Option (Done Ended) = Some a in o) ≡ Some b → a ≡ b
        one a b e = cc
    outcome_first outcome.Memory p first run same is = absurd (cc)

  top_first : (x : Top) (first : Done Ended) → pile.top ≡ x → TopComes t x pile h first → First first
  top_first top.Empty first is c = subst First (sym c) tt
  top_first (top.Waits call) first is c = subst First (sym c) tt
  top_first (top.Goes k) first is (o, store, left, run, done) = outcome_first k is store left o (with_top top.Empty pile) first run refl done

-- The step as a whole.
pub record HasEnded (h : Held) (piles : List PileView) (words : List ℕ) (later : Held) : Type 0 where
  pub number : ℕ
  pub pile : PileView
  pub acts : acting_of h ≡ Some number
  pub there : slice_get piles number ≡ Some pile
  pub ran : HasRun h number pile words later

goes_same : (a b : Passing) → step.GoesOn a ≡ step.GoesOn b → a ≡ b
goes_same a b e = cc

step_ends : (a b : Passing) (x y : List PileView) (k l : Held) → (let d : Done (Step × List PileView) = Gives (step.GoesOn a, x) k in d) ≡ Gives (step.GoesOn b, y) l → (a ≡ b) × (k ≡ l)
step_ends a b x y k l e = (goes_same a b (ap (λ (r : Step × List PileView). r.0) (gives_first e)), gives_held e)

same_words : (xs ys : List ℕ) → passing.Ended xs ≡ passing.Ended ys → xs ≡ ys
same_words xs ys e = cc

module _ (h : Held) (t : ℕ) (pile : PileView) (piles more : List PileView) (words : List ℕ) (later : Held) where
  abbrev Whole : Type 0
  Whole = HasRun h t pile words later

  by_words : (o : Option (List ℕ)) (q : PileView) (k : Held) → EndsIn h t pile o k → (let d : Done (Step × List PileView) = Gives (step.GoesOn (passing.Ended words), more) later in d) ≡ Gives (step.GoesOn (passing_behind o), slice_set piles t q) k
      → Whole
  by_words None q k ends e = absurd (let both = step_ends (passing.Ended words) passing.Nothing more (slice_set piles t q) later k e in let same : passing.Ended words ≡ passing.Nothing = both.0 in let wrong : ⊥ = cc in wrong)
  by_words (Some ws) q k ends e =
      let both = step_ends (passing.Ended words) (passing.Ended ws) more (slice_set piles t q) later k e in
      subst (λ (l : Held). HasRun h t pile words l) (sym both.1) (subst (λ (xs : List ℕ). HasRun h t pile xs k) (sym (same_words words ws both.0)) ends)

  by_first : (first : Done Ended) → First h t pile first → Behind {B = Step × List PileView} first (λ r k e. e ≡ Gives (step.GoesOn (passing_behind r.0), slice_set piles t r.1) k) (Gives (step.GoesOn (passing.Ended words), more) later) → Whole
  by_first (Gives r k) ends b = by_words r.0 r.1 k ends b
  by_first (Traps why k) ends b = absurd (cc)
  by_first (Spent k) ends b = absurd (cc)
  by_first Stuck ends b = absurd (cc)

ran_by : (h : Held) (piles more : List PileView) (words : List ℕ) (later : Held) (o : Option ℕ) → acting_of h ≡ o → TaskSteps o piles h (Gives (step.GoesOn (passing.Ended words), more) later) → HasEnded h piles words later
ran_by h piles more words later None none steps = absurd (cc)
ran_by h piles more words later (Some t) acts steps = by_pile (slice_get piles t) refl steps
  where
    by_pile : (o : Option PileView) → slice_get piles t ≡ o → PileSteps t o piles h (Gives (step.GoesOn (passing.Ended words), more) later) → HasEnded h piles words later
    by_pile None none steps = absurd (cc)
    by_pile (Some pile) there (first, comes, behind) =
        record { number = t; pile = pile; acts = acts; there = there; ran = by_first h t pile piles more words later first (top_first h t pile pile.top first refl comes) behind }

pub has_ended : (h : Held) (piles more : List PileView) (words : List ℕ) (later : Held) → RunSteps piles h (Gives (step.GoesOn (passing.Ended words), more) later) → HasEnded h piles words later
has_ended h piles more words later steps = ran_by h piles more words later (acting_of h) refl steps
