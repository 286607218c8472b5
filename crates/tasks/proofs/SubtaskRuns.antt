-- Whole runs of a subtask: what is told rises, and when what was lent is free.
use Rattle.std.proofs.Common.{◌≡◌, ℕ, ◌+◌, ◌<◌, ◌≤◌, sym, ap, refl, ◌∙◌, subst, arith, Bool, true, false, not, nat_eq, nat_le, if◌then◌else◌, List, [], ◌∷◌, ◌++◌, inl, inr}
use Rattle.std.proofs.lemmas.Bool.{both_ways, not-true, eq-eqb, lt-leb, cases_lt}
use Rattle.std.proofs.lemmas.List.{append_assoc}
use Rattle.std.proofs.lemmas.List.Sums.{sum_by-append}
use Rattle.std.specs.List.{count_by}
use Rattle.tasks.specs.declared.subtask_state.SubtaskState.{SubtaskState}
use Rattle.tasks.specs.declared.subtask_state.SubtaskState.TheVariants.{Starting, Started, Returned, CancelledBeforeStarted, CancelledBeforeReturned}
use Rattle.tasks.specs.Views.{SubtaskView}
use Rattle.tasks.specs.Subtasks.{code_of, is_over, follows, has_event, raised, delivered, with_lend, new_subtask}
use Rattle.tasks.specs.SubtaskHistory.{Step, Rises, IsTold, Lends}
use Rattle.tasks.specs.Runs.{steps_to, subtask_run, told_in, payloads, lent_in, all_lent}
use Rattle.tasks.specs.Laws.{RisesFrom, ToldRisesTo}
use Rattle.tasks.proofs.SubtaskStanding.{over_is_last}

-- What holds of a subtask at any time: its state is no lower than what was told, and the last state told is its state.
record Sound (s : SubtaskView) : Type 0 where
  low : code_of s.told ≤ code_of s.state
  last : is_over s.told ≡ true → s.state ≡ s.told

rises_above : (state later : SubtaskState) → follows state later ≡ true → code_of state ≤ code_of later
rises_above Starting later h = omega arith
rises_above Started Starting h = cc
rises_above Started Started h = cc
rises_above Started Returned h = omega arith
rises_above Started CancelledBeforeStarted h = cc
rises_above Started CancelledBeforeReturned h = omega arith
rises_above Returned later h = cc
rises_above CancelledBeforeStarted later h = cc
rises_above CancelledBeforeReturned later h = cc

-- a test of what may happen
if_may : (P : SubtaskView → Type 0) (b : Bool) (x y : SubtaskView) → (b ≡ true → P x) → (b ≡ false → P y) → P (if b then x else y)
if_may P true x y f g = f refl
if_may P false x y f g = g refl

step_sound : (s : SubtaskView) (step : Step) → Sound s → Sound (steps_to s step)
step_sound s (Rises state) h =
    if_may Sound (follows s.state state) (raised state s) s
    (λ may. let up : code_of s.state ≤ code_of state = rises_above s.state state may in let low : code_of s.told ≤ code_of s.state = h.low in
    record { low = omega arith; last = λ over. absurd (both_ways (follows s.state state) (over_is_last s.state state (ap is_over (h.last over) ∙ over)) may) })
    (λ _. h)
step_sound s IsTold h = if_may Sound (has_event s) (delivered s) s (λ _. record { low = omega arith; last = λ over. refl }) (λ _. h)
step_sound s (Lends handle) h = if_may Sound (is_over s.state) s (with_lend handle s) (λ _. h) (λ _. record { low = h.low; last = h.last })

new_sound : (callee : ℕ) → Sound (new_subtask callee)
new_sound callee = record { low = omega arith; last = λ over. cc }

-- Told states rise.
rise_if : (b : Bool) (s : SubtaskView) (x : ℕ) (rest : List ℕ) → (b ≡ true → code_of s.told < x) → (b ≡ true → RisesFrom x rest) → (b ≡ false → RisesFrom (code_of s.told) rest) → RisesFrom (code_of s.told) ((if b then x ∷ [] else []) ++ rest)
rise_if true s x rest f g h = (f refl, g refl)
rise_if false s x rest f g h = h refl

event_above : (s : SubtaskView) → Sound s → has_event s ≡ true → code_of s.told < code_of s.state
event_above s h e =
    let low : code_of s.told ≤ code_of s.state = h.low in
    let apart : code_of s.state ≡ code_of s.told → ⊥ = λ same. both_ways (nat_eq (code_of s.state) (code_of s.told)) (not-true (nat_eq (code_of s.state) (code_of s.told)) e) (eq-eqb (code_of s.state) (code_of s.told) same) in
    omega arith

same_told : (s : SubtaskView) (step : Step) → told_in s step ≡ [] → (steps_to s step).told ≡ s.told → (rest : List ℕ) → RisesFrom (code_of (steps_to s step).told) rest → RisesFrom (code_of s.told) (told_in s step ++ rest)
same_told s step none same rest h =
    subst (λ (xs : List ℕ). RisesFrom (code_of s.told) (xs ++ rest)) (sym none) (subst (λ (t : SubtaskState). RisesFrom (code_of t) rest) same h)

told_kept_if : (b : Bool) (x y : SubtaskView) → x.told ≡ y.told → (if b then x else y).told ≡ y.told
told_kept_if true x y h = h
told_kept_if false x y h = refl

told_kept_else : (b : Bool) (x y : SubtaskView) → y.told ≡ x.told → (if b then x else y).told ≡ x.told
told_kept_else true x y h = refl
told_kept_else false x y h = h

told_if : (b : Bool) (s : SubtaskView) (rest : SubtaskView → List ℕ) → (b ≡ true → code_of s.told < code_of s.state) → RisesFrom (code_of (if b then delivered s else s).told) (rest (if b then delivered s else s)) → RisesFrom (code_of s.told) ((if b then code_of s.state ∷ [] else []) ++ rest (if b then delivered s else s))
told_if true s rest f h = (f refl, h)
told_if false s rest f h = h

rises : (steps : List Step) (s : SubtaskView) → Sound s → RisesFrom (code_of s.told) (payloads steps s)
rises [] s h = tt
rises (Rises state ∷ steps) s h =
    same_told s (Rises state) refl (told_kept_if (follows s.state state) (raised state s) s refl) (payloads steps (steps_to s (Rises state))) (rises steps (steps_to s (Rises state)) (step_sound s (Rises state) h))
rises (IsTold ∷ steps) s h = told_if (has_event s) s (payloads steps) (event_above s h) (rises steps (steps_to s IsTold) (step_sound s IsTold h))
rises (Lends handle ∷ steps) s h =
    same_told s (Lends handle) refl (told_kept_else (is_over s.state) s (with_lend handle s) refl) (payloads steps (steps_to s (Lends handle))) (rises steps (steps_to s (Lends handle)) (step_sound s (Lends handle) h))

-- Once the last state is told nothing more is.
still : (s : SubtaskView) (step : Step) → is_over s.told ≡ true → s.state ≡ s.told → (told_in s step ≡ []) × (steps_to s step ≡ s)
still s (Rises state) over same =
    (refl, ap (λ (b : Bool). if b then raised state s else s) (over_is_last s.state state (ap is_over same ∙ over)))
still s IsTold over same =
    let none : has_event s ≡ false = ap not (eq-eqb (code_of s.state) (code_of s.told) (ap code_of same)) in
    (ap (λ (b : Bool). if b then code_of s.state ∷ [] else []) none, ap (λ (b : Bool). if b then delivered s else s) none)
still s (Lends handle) over same = (refl, ap (λ (b : Bool). if b then s else with_lend handle s) (ap is_over same ∙ over))

nothing_more : (steps : List Step) (s : SubtaskView) → is_over s.told ≡ true → s.state ≡ s.told → payloads steps s ≡ []
nothing_more [] s over same = refl
nothing_more (step ∷ steps) s over same =
    let e : (told_in s step ≡ []) × (steps_to s step ≡ s) = still s step over same in
    ap (λ (xs : List ℕ). xs ++ payloads steps (steps_to s step)) e.0 ∙ ap (payloads steps) e.1 ∙ nothing_more steps s over same

over_code : (state : SubtaskState) → 2 ≤ code_of state → is_over state ≡ true
over_code Starting h = absurd (omega arith)
over_code Started h = absurd (omega arith)
over_code Returned h = refl
over_code CancelledBeforeStarted h = refl
over_code CancelledBeforeReturned h = refl

-- a number of at least 2 is the last
abbrev TwoIsLast : List ℕ → Type 0
TwoIsLast [] = Unit {0}
TwoIsLast (x ∷ xs) = (2 ≤ x → xs ≡ []) × TwoIsLast xs

last_if : (b : Bool) (s : SubtaskView) (rest : SubtaskView → List ℕ) → (2 ≤ code_of s.state → rest (delivered s) ≡ []) → TwoIsLast (rest (if b then delivered s else s)) → TwoIsLast ((if b then code_of s.state ∷ [] else []) ++ rest (if b then delivered s else s))
last_if true s rest f h = (f, h)
last_if false s rest f h = h

two_is_last : (steps : List Step) (s : SubtaskView) → TwoIsLast (payloads steps s)
two_is_last [] s = tt
two_is_last (Rises state ∷ steps) s = two_is_last steps (steps_to s (Rises state))
two_is_last (IsTold ∷ steps) s =
    last_if (has_event s) s (payloads steps) (λ high. nothing_more steps (delivered s) (over_code s.state high) refl) (two_is_last steps (steps_to s IsTold))
two_is_last (Lends handle ∷ steps) s = two_is_last steps (steps_to s (Lends handle))

count_split : (x : ℕ) (xs : List ℕ) → count_by (nat_le 2) (x ∷ xs) ≡ count_by (nat_le 2) (x ∷ []) + count_by (nat_le 2) xs
count_split x xs = sum_by-append (λ y. if nat_le 2 y then 1 else 0) (x ∷ []) xs

count_none : (x : ℕ) → nat_le 2 x ≡ false → count_by (nat_le 2) (x ∷ []) ≡ 0
count_none x h = ap (λ (b : Bool). 0 + (if b then 1 else 0)) h

count_one : (b : Bool) → 0 + (if b then 1 else 0) ≤ 1
count_one true = omega arith
count_one false = omega arith

at_most_one : (xs : List ℕ) → TwoIsLast xs → count_by (nat_le 2) xs ≤ 1
at_most_one [] h = omega arith
at_most_one (x ∷ xs) h = elim (cases_lt x 2) [
  | inl low ↦ omega (arith, count_split x xs, count_none x (lt-leb 2 x low), at_most_one xs h.1)
  | inr high ↦ subst (λ (ys : List ℕ). count_by (nat_le 2) (x ∷ ys) ≤ 1) (sym (h.0 high)) (count_one (nat_le 2 x))
]

pub told_rises : (callee : ℕ) (steps : List Step) → ToldRisesTo (payloads steps (new_subtask callee))
told_rises callee steps = record {
  rises = rises steps (new_subtask callee) (new_sound callee);
  last = at_most_one (payloads steps (new_subtask callee)) (two_is_last steps (new_subtask callee));
}

-- What is lent.
abbrev LentAre : List ℕ → SubtaskView → Type 0
LentAre all s = s.lends ≡ (if is_over s.told then [] else all)

append_none : (xs : List ℕ) → xs ++ [] ≡ xs
append_none [] = refl
append_none (x ∷ xs) = ap (λ (ys : List ℕ). x ∷ ys) (append_none xs)

freed : (over told : Bool) (lends all : List ℕ) → (told ≡ true → over ≡ true) → lends ≡ (if told then [] else all) → (if over then [] else lends) ≡ (if over then [] else all)
freed true told lends all h e = refl
freed false true lends all h e = absurd (both_ways false refl (h refl))
freed false false lends all h e = e

more_lent : (over told : Bool) (handle : ℕ) (lends all : List ℕ) → over ≡ false → (told ≡ true → over ≡ true) → lends ≡ (if told then [] else all) → lends ++ handle ∷ [] ≡ (if told then [] else all ++ handle ∷ [])
more_lent over true handle lends all opened h e = absurd (both_ways over opened (h refl))
more_lent over false handle lends all opened h e = ap (λ (xs : List ℕ). xs ++ handle ∷ []) e

lend_if : (b : Bool) (handle : ℕ) (all : List ℕ) (s : SubtaskView) → (b ≡ false → LentAre (all ++ handle ∷ []) (with_lend handle s)) → LentAre all s → LentAre (all ++ (if b then [] else handle ∷ [])) (if b then s else with_lend handle s)
lend_if true handle all s f h = subst (λ (xs : List ℕ). LentAre xs s) (sym (append_none all)) h
lend_if false handle all s f h = f refl

lent_step : (s : SubtaskView) (step : Step) (all : List ℕ) → Sound s → LentAre all s → LentAre (all ++ lent_in s step) (steps_to s step)
lent_step s (Rises state) all sound h =
    subst (λ (xs : List ℕ). LentAre xs (steps_to s (Rises state))) (sym (append_none all)) (if_may (LentAre all) (follows s.state state) (raised state s) s (λ _. h) (λ _. h))
lent_step s IsTold all sound h =
    subst (λ (xs : List ℕ). LentAre xs (steps_to s IsTold)) (sym (append_none all))
    (if_may (LentAre all) (has_event s) (delivered s) s (λ _. freed (is_over s.state) (is_over s.told) s.lends all (λ over. ap is_over (sound.last over) ∙ over) h) (λ _. h))
lent_step s (Lends handle) all sound h =
    lend_if (is_over s.state) handle all s (λ opened. more_lent (is_over s.state) (is_over s.told) handle s.lends all opened (λ over. ap is_over (sound.last over) ∙ over) h) h

lent_run : (steps : List Step) (s : SubtaskView) (all : List ℕ) → Sound s → LentAre all s → LentAre (all ++ all_lent steps s) (subtask_run steps s)
lent_run [] s all sound h = subst (λ (xs : List ℕ). LentAre xs s) (sym (append_none all)) h
lent_run (step ∷ steps) s all sound h =
    subst (λ (xs : List ℕ). LentAre xs (subtask_run (step ∷ steps) s)) (append_assoc all (lent_in s step) (all_lent steps (steps_to s step)))
    (lent_run steps (steps_to s step) (all ++ lent_in s step) (step_sound s step sound) (lent_step s step all sound h))

pub lends_end : (callee : ℕ) (steps : List Step) → (subtask_run steps (new_subtask callee)).lends ≡ (if is_over (subtask_run steps (new_subtask callee)).told then [] else all_lent steps (new_subtask callee))
lends_end callee steps = lent_run steps (new_subtask callee) [] (new_sound callee) refl
