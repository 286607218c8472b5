-- What each step makes of a subtask that stands for a history.
use Rattle.std.proofs.Common.{◌≡◌, ℕ, sym, ap, refl, ◌∙◌, Bool, true, false, not, if◌then◌else◌, IsTrue, List, [], ◌∷◌, ◌++◌}
use Rattle.std.proofs.lemmas.Bool.{both_ways, not-true}
use Rattle.tasks.specs.declared.subtask_state.SubtaskState.{SubtaskState}
use Rattle.tasks.specs.declared.subtask_state.SubtaskState.TheVariants.{Starting, Started, Returned, CancelledBeforeStarted, CancelledBeforeReturned}
use Rattle.tasks.specs.Views.{SubtaskView}
use Rattle.tasks.specs.Subtasks.{is_over, follows, raised, delivered, with_lend}
use Rattle.tasks.specs.SubtaskHistory.{Step, Rises, IsTold, Lends, SubtaskHistory, and_step, state_by, told_by, lent, SubtaskStandsFor}

-- what one step more leaves
abbrev state_once : SubtaskState → Step → SubtaskState
state_once state (Rises later) = later
state_once state IsTold = state
state_once state (Lends handle) = state

abbrev told_once : SubtaskState → SubtaskState → Step → SubtaskState
told_once state told (Rises later) = told
told_once state told IsTold = state
told_once state told (Lends handle) = told

state_more : (state : SubtaskState) (steps : List Step) (x : Step) → state_by state (steps ++ x ∷ []) ≡ state_once (state_by state steps) x
state_more state [] (Rises later) = refl
state_more state [] IsTold = refl
state_more state [] (Lends handle) = refl
state_more state (Rises later ∷ steps) x = state_more later steps x
state_more state (IsTold ∷ steps) x = state_more state steps x
state_more state (Lends handle ∷ steps) x = state_more state steps x

told_more : (state told : SubtaskState) (steps : List Step) (x : Step) → told_by state told (steps ++ x ∷ []) ≡ told_once (state_by state steps) (told_by state told steps) x
told_more state told [] (Rises later) = refl
told_more state told [] IsTold = refl
told_more state told [] (Lends handle) = refl
told_more state told (Rises later ∷ steps) x = told_more later told steps x
told_more state told (IsTold ∷ steps) x = told_more state state steps x
told_more state told (Lends handle ∷ steps) x = told_more state told steps x

lent_more : (steps : List Step) (x : Step) → lent (steps ++ x ∷ []) ≡ lent steps ++ lent (x ∷ [])
lent_more [] x = refl
lent_more (Rises later ∷ steps) x = lent_more steps x
lent_more (IsTold ∷ steps) x = lent_more steps x
lent_more (Lends handle ∷ steps) x = ap (λ (xs : List ℕ). handle ∷ xs) (lent_more steps x)

append_none : (xs : List ℕ) → xs ++ [] ≡ xs
append_none [] = refl
append_none (x ∷ xs) = ap (λ (ys : List ℕ). x ∷ ys) (append_none xs)

-- no state follows one of a resolved callee
pub over_is_last : (state later : SubtaskState) → is_over state ≡ true → follows state later ≡ false
over_is_last Starting later h = cc
over_is_last Started later h = cc
over_is_last Returned later h = refl
over_is_last CancelledBeforeStarted later h = refl
over_is_last CancelledBeforeReturned later h = refl

pub raised_stands : (later : SubtaskState) (h : SubtaskHistory) (s : SubtaskView) → IsTrue (follows s.state later) → SubtaskStandsFor h s → SubtaskStandsFor (and_step (Rises later) h) (raised later s)
raised_stands later h s may st = record {
  callee = st.callee;
  state = sym (state_more Starting h.steps (Rises later));
  told = st.told ∙ sym (told_more Starting Starting h.steps (Rises later));
  lends = st.lends ∙ ap (λ (xs : List ℕ). if is_over s.told then [] else xs) (sym (lent_more h.steps (Rises later) ∙ append_none (lent h.steps)));
  last = λ over. absurd (both_ways (follows s.state later) (over_is_last s.state later (ap is_over (st.last over) ∙ over)) may);
}

told_lends : (over told : Bool) (lends all : List ℕ) → (told ≡ true → over ≡ true) → lends ≡ (if told then [] else all) → (if over then [] else lends) ≡ (if over then [] else all)
told_lends true told lends all h e = refl
told_lends false true lends all h e = absurd (both_ways false refl (h refl))
told_lends false false lends all h e = e

pub delivered_stands : (h : SubtaskHistory) (s : SubtaskView) → SubtaskStandsFor h s → SubtaskStandsFor (and_step IsTold h) (delivered s)
delivered_stands h s st = record {
  callee = st.callee;
  state = st.state ∙ sym (state_more Starting h.steps IsTold);
  told = st.state ∙ sym (told_more Starting Starting h.steps IsTold);
  lends = told_lends (is_over s.state) (is_over s.told) s.lends (lent h.steps) (λ over. ap is_over (st.last over) ∙ over) st.lends
      ∙ ap (λ (xs : List ℕ). if is_over s.state then [] else xs) (sym (lent_more h.steps IsTold ∙ append_none (lent h.steps)));
  last = λ over. refl;
}

lend_more : (over told : Bool) (handle : ℕ) (lends all : List ℕ) → over ≡ false → (told ≡ true → over ≡ true) → lends ≡ (if told then [] else all) → lends ++ handle ∷ [] ≡ (if told then [] else all ++ handle ∷ [])
lend_more over true handle lends all opened h e = absurd (both_ways over opened (h refl))
lend_more over false handle lends all opened h e = ap (λ (xs : List ℕ). xs ++ handle ∷ []) e

pub lent_stands : (handle : ℕ) (h : SubtaskHistory) (s : SubtaskView) → IsTrue (not (is_over s.state)) → SubtaskStandsFor h s → SubtaskStandsFor (and_step (Lends handle) h) (with_lend handle s)
lent_stands handle h s open' st = record {
  callee = st.callee;
  state = st.state ∙ sym (state_more Starting h.steps (Lends handle));
  told = st.told ∙ sym (told_more Starting Starting h.steps (Lends handle));
  lends = lend_more (is_over s.state) (is_over s.told) handle s.lends (lent h.steps) (not-true (is_over s.state) open') (λ over. ap is_over (st.last over) ∙ over) st.lends
      ∙ ap (λ (xs : List ℕ). if is_over s.told then [] else xs) (sym (lent_more h.steps (Lends handle)));
  last = st.last;
}
