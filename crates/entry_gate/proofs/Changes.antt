-- A stay that changes its place, and what the gate is then.
use Rattle.std.proofs.Common.{◌≡◌, ℕ, ◌+◌, ◌<◌, ◌≤◌, sym, ap, refl, ◌∙◌, arith, subst, Bool, true, false, not, ◌&&◌, ◌||◌, nat_eq, if◌then◌else◌, is_none, IsTrue, List, [], ◌∷◌, ◌++◌, Option, Some, None}
use Rattle.std.specs.List.{count_by}
use Rattle.std.proofs.lemmas.List.Sums.{sum_by-append, sum_by-cons}
use Rattle.std.proofs.Common.{eq-eqb}
use Rattle.std.proofs.lemmas.Bool.{ne_eqb}
use Rattle.entry_gate.specs.declared.kind.Kind.{Kind}
use Rattle.entry_gate.specs.declared.kind.Kind.TheVariants.{Sync, Callback, Stackful}
use Rattle.entry_gate.specs.Kinds.{needs_entry}
use Rattle.entry_gate.specs.Gates.{GateView, is_free, is_open, with_wait, without_wait, held_by, entered, is_holder, given_up}
use Rattle.entry_gate.specs.Stays.{Place, Outside, Waiting, Inside, InLoop, Stay, is_waiting, is_inside, waits, holds, is_of, holder_of, with_stay, StandsFor}

abbrev pub one_if : Bool → ℕ
one_if b = if b then 1 else 0

abbrev pub stay_at : ℕ → Kind → Place → Stay
stay_at task kind place = record { task = task; kind = kind; place = place }

-- Counts go over the stays before, the one, and those after.
pub counted : (p : Stay → Bool) (before after : List Stay) (s : Stay) → count_by p (before ++ s ∷ after) ≡ count_by p before + (one_if (p s) + count_by p after)
counted p before after s =
    sum_by-append (λ (x : Stay). one_if (p x)) before (s ∷ after)
    ∙ ap (λ (n : ℕ). count_by p before + n) (sum_by-cons (λ (x : Stay). one_if (p x)) s after)

pub first_counted : (p : Stay → Bool) (s : Stay) (after : List Stay) → count_by p (s ∷ after) ≡ one_if (p s) + count_by p after
first_counted p s after = sum_by-cons (λ (x : Stay). one_if (p x)) s after

-- Where none holds there is no holder, and the other way round.
holder_none_by : (b : Bool) (s : Stay) (more : List Stay) (n : ℕ) → one_if b + n ≡ 0 → (n ≡ 0 → holder_of more ≡ None) → (if b then Some s.task else holder_of more) ≡ None
holder_none_by true s more n e h = absurd (omega arith)
holder_none_by false s more n e h = h (omega arith)

pub holder_none : (xs : List Stay) → count_by holds xs ≡ 0 → holder_of xs ≡ None
holder_none [] e = refl
holder_none (s ∷ xs) e = holder_none_by (holds s) s xs (count_by holds xs) (sym (first_counted holds s xs) ∙ e) (holder_none xs)

none_holds_by : (b : Bool) (s : Stay) (more : List Stay) (n : ℕ) → (if b then Some s.task else holder_of more) ≡ None → (holder_of more ≡ None → n ≡ 0) → one_if b + n ≡ 0
none_holds_by true s more n e h = cc
none_holds_by false s more n e h = let none : n ≡ 0 = h e in omega arith

pub none_holds : (xs : List Stay) → holder_of xs ≡ None → count_by holds xs ≡ 0
none_holds [] e = refl
none_holds (s ∷ xs) e = first_counted holds s xs ∙ none_holds_by (holds s) s xs (count_by holds xs) e (none_holds xs)

-- A stay that does not hold is passed over.
passed_by : (b : Bool) (s : Stay) (o q : Option ℕ) → o ≡ q → (if b then Some s.task else o) ≡ (if b then Some s.task else q)
passed_by true s o q e = refl
passed_by false s o q e = e

pub passed_over : (before after : List Stay) (s : Stay) → holds s ≡ false → holder_of (before ++ s ∷ after) ≡ holder_of (before ++ after)
passed_over [] after s h = rw h refl
passed_over (t ∷ before) after s h = passed_by (holds t) t (holder_of (before ++ s ∷ after)) (holder_of (before ++ after)) (passed_over before after s h)

-- One that holds behind none is the holder.
found_by : (b : Bool) (t : Stay) (n : ℕ) (o q : Option ℕ) → one_if b + n ≡ 0 → (n ≡ 0 → o ≡ q) → (if b then Some t.task else o) ≡ q
found_by true t n o q e h = absurd (omega arith)
found_by false t n o q e h = h (omega arith)

pub found : (before after : List Stay) (s : Stay) → holds s ≡ true → count_by holds before ≡ 0 → holder_of (before ++ s ∷ after) ≡ Some s.task
found [] after s h e = rw h refl
found (t ∷ before) after s h e = found_by (holds t) t (count_by holds before) (holder_of (before ++ s ∷ after)) (Some s.task) (sym (first_counted holds t before) ∙ e) (found before after s h)

-- The holder has a stay.
named_by : (b : Bool) (t : ℕ) (s : Stay) (o : Option ℕ) (n : ℕ) → (if b then Some s.task else o) ≡ Some t → (o ≡ Some t → 1 ≤ n) → 1 ≤ one_if (nat_eq t s.task) + n
named_by true t s o n e h =
    let same : t ≡ s.task = cc in
    let yes : nat_eq t s.task ≡ true = eq-eqb t s.task same in rw yes (omega arith)
named_by false t s o n e h = let more : 1 ≤ n = h e in omega arith

pub named : (t : ℕ) (xs : List Stay) → holder_of xs ≡ Some t → 1 ≤ count_by (is_of t) xs
named t [] e = cc
named t (s ∷ xs) e = let P : ℕ → Type 0 = λ n. 1 ≤ n in subst P (sym (first_counted (is_of t) s xs)) (named_by (holds s) t s (holder_of xs) (count_by (is_of t) xs) e (named t xs))

-- no one holds who is not inside
pub not_inside : (kind : Kind) → (needs_entry kind && false) ≡ false
not_inside Sync = refl
not_inside Callback = refl
not_inside Stackful = refl

-- what stays of the gate whatever the place
each_once_at : (task : ℕ) (kind : Kind) (from to : Place) (before after : List Stay) → ((t : ℕ) → count_by (is_of t) (before ++ stay_at task kind from ∷ after) ≤ 1) → (t : ℕ) → count_by (is_of t) (before ++ stay_at task kind to ∷ after) ≤ 1
each_once_at task kind from to before after h t =
    omega (arith, h t, counted (is_of t) before after (stay_at task kind from), counted (is_of t) before after (stay_at task kind to))

waiting_at : (task : ℕ) (kind : Kind) (from to : Place) (before after : List Stay) (old new : ℕ) → old ≡ count_by waits (before ++ stay_at task kind from ∷ after) → new + one_if (is_waiting from) ≡ old + one_if (is_waiting to) → new ≡ count_by waits (before ++ stay_at task kind to ∷ after)
waiting_at task kind from to before after old new h e =
    omega (arith, h, e, counted waits before after (stay_at task kind from), counted waits before after (stay_at task kind to))

-- A stay that holds at neither place
pub same_holder : (pressure task : ℕ) (kind : Kind) (from to : Place) (before after : List Stay) (gate later : GateView) → (needs_entry kind && is_inside from) ≡ false → (needs_entry kind && is_inside to) ≡ false → StandsFor (with_stay pressure before task kind from after) gate → later.pressure ≡ gate.pressure → later.holder ≡ gate.holder → later.waiting + one_if (is_waiting from) ≡ gate.waiting + one_if (is_waiting to) → StandsFor (with_stay pressure before task kind to after) later
same_holder pressure task kind from to before after gate later f t h p o w = record {
  pressure = p ∙ h.pressure;
  holder = o ∙ h.holder ∙ passed_over before after (stay_at task kind from) f ∙ sym (passed_over before after (stay_at task kind to) t);
  waiting = waiting_at task kind from to before after gate.waiting later.waiting h.waiting w;
  one_holds = omega (arith, h.one_holds, ap one_if f, ap one_if t, counted holds before after (stay_at task kind from), counted holds before after (stay_at task kind to));
  each_once = each_once_at task kind from to before after h.each_once;
}

-- One that comes to hold, where none did
pub comes_to_hold : (pressure task : ℕ) (kind : Kind) (from to : Place) (before after : List Stay) (gate later : GateView) → (needs_entry kind && is_inside from) ≡ false → (needs_entry kind && is_inside to) ≡ true → gate.holder ≡ None → StandsFor (with_stay pressure before task kind from after) gate → later.pressure ≡ gate.pressure → later.holder ≡ Some task → later.waiting + one_if (is_waiting from) ≡ gate.waiting + one_if (is_waiting to) → StandsFor (with_stay pressure before task kind to after) later
comes_to_hold pressure task kind from to before after gate later f t none h p o w =
    let nobody : count_by holds (before ++ stay_at task kind from ∷ after) ≡ 0 = none_holds (before ++ stay_at task kind from ∷ after) (sym h.holder ∙ none) in
    let first : count_by holds before ≡ 0 = omega (arith, nobody, counted holds before after (stay_at task kind from)) in
    record {
      pressure = p ∙ h.pressure;
      holder = o ∙ sym (found before after (stay_at task kind to) t first);
      waiting = waiting_at task kind from to before after gate.waiting later.waiting h.waiting w;
      one_holds = omega (arith, nobody, ap one_if f, ap one_if t, counted holds before after (stay_at task kind from), counted holds before after (stay_at task kind to));
      each_once = each_once_at task kind from to before after h.each_once;
    }

-- One that held, and holds no longer
pub ceases_to_hold : (pressure task : ℕ) (kind : Kind) (from to : Place) (before after : List Stay) (gate later : GateView) → (needs_entry kind && is_inside from) ≡ true → (needs_entry kind && is_inside to) ≡ false → StandsFor (with_stay pressure before task kind from after) gate → later.pressure ≡ gate.pressure → later.holder ≡ None → later.waiting + one_if (is_waiting from) ≡ gate.waiting + one_if (is_waiting to) → StandsFor (with_stay pressure before task kind to after) later
ceases_to_hold pressure task kind from to before after gate later f t h p o w =
    let others : count_by holds (before ++ stay_at task kind to ∷ after) ≡ 0 = omega (arith, h.one_holds, ap one_if f, ap one_if t, counted holds before after (stay_at task kind from), counted holds before after (stay_at task kind to)) in
    record {
      pressure = p ∙ h.pressure;
      holder = o ∙ sym (holder_none (before ++ stay_at task kind to ∷ after) others);
      waiting = waiting_at task kind from to before after gate.waiting later.waiting h.waiting w;
      one_holds = omega (arith, others);
      each_once = each_once_at task kind from to before after h.each_once;
    }

-- the holder of a stay that holds
pub holder_here : (pressure task : ℕ) (kind : Kind) (from : Place) (before after : List Stay) (gate : GateView) → (needs_entry kind && is_inside from) ≡ true → StandsFor (with_stay pressure before task kind from after) gate → gate.holder ≡ Some task
holder_here pressure task kind from before after gate f h =
    let first : count_by holds before ≡ 0 = omega (arith, h.one_holds, ap one_if f, counted holds before after (stay_at task kind from)) in
    h.holder ∙ found before after (stay_at task kind from) f first

pub free_none : (o : Option ℕ) → IsTrue (is_none o) → o ≡ None
free_none None h = refl
free_none (Some t) h = cc

-- It is not the task of a stay that does not hold.
not_holder_by : (task : ℕ) (o : Option ℕ) → (o ≡ Some task → ⊥) → is_holder task o ≡ false
not_holder_by task None h = refl
not_holder_by task (Some t) h = ne_eqb task t (λ e. h (ap Some (sym e)))

pub not_holder : (pressure task : ℕ) (kind : Kind) (from : Place) (before after : List Stay) (gate : GateView) → (needs_entry kind && is_inside from) ≡ false → StandsFor (with_stay pressure before task kind from after) gate → is_holder task gate.holder ≡ false
not_holder pressure task kind from before after gate f h =
    not_holder_by task gate.holder (λ e.
    let other : 1 ≤ count_by (is_of task) (before ++ after) = named task (before ++ after) (sym (passed_over before after (stay_at task kind from) f) ∙ sym h.holder ∙ e) in
    let own : nat_eq task task ≡ true = eq-eqb task task refl in
    omega (arith, other, h.each_once task, ap one_if own, counted (is_of task) before after (stay_at task kind from), sum_by-append (λ (x : Stay). one_if (is_of task x)) before after))

-- giving up, from inside to a place where no task holds
gives_up : (pressure task : ℕ) (kind : Kind) (to : Place) (b : Bool) (before after : List Stay) (gate : GateView) → (needs_entry kind && true) ≡ b → (needs_entry kind && is_inside to) ≡ false → one_if (is_waiting to) ≡ 0 → StandsFor (with_stay pressure before task kind Inside after) gate → StandsFor (with_stay pressure before task kind to after) (given_up task gate)
gives_up pressure task kind to true before after gate f t w h =
    let held : gate.holder ≡ Some task = holder_here pressure task kind Inside before after gate f h in
    let yes : is_holder task gate.holder ≡ true = ap (is_holder task) held ∙ eq-eqb task task refl in
    rw yes (ceases_to_hold pressure task kind Inside to before after gate (record gate { holder = None }) f t h refl refl (omega (arith, w)))
gives_up pressure task kind to false before after gate f t w h =
    let no : is_holder task gate.holder ≡ false = not_holder pressure task kind Inside before after gate f h in
    rw no (same_holder pressure task kind Inside to before after gate gate f t h refl refl (omega (arith, w)))

-- the calls
pub wait_stands : (gate later : GateView) → later ≡ with_wait gate → (pressure task : ℕ) (kind : Kind) (before after : List Stay) → StandsFor (with_stay pressure before task kind Outside after) gate → StandsFor (with_stay pressure before task kind Waiting after) later
wait_stands gate later e pressure task kind before after h =
    let P : GateView → Type 0 = StandsFor (with_stay pressure before task kind Waiting after) in
    subst P (sym e) (same_holder pressure task kind Outside Waiting before after gate (with_wait gate) (not_inside kind) (not_inside kind) h refl refl (omega arith))

pub unwait_stands : (gate later : GateView) → 0 < gate.waiting → later ≡ without_wait gate → (pressure task : ℕ) (kind : Kind) (before after : List Stay) → StandsFor (with_stay pressure before task kind Waiting after) gate → StandsFor (with_stay pressure before task kind Outside after) later
unwait_stands gate later some e pressure task kind before after h =
    let P : GateView → Type 0 = StandsFor (with_stay pressure before task kind Outside after) in
    subst P (sym e) (same_holder pressure task kind Waiting Outside before after gate (without_wait gate) (not_inside kind) (not_inside kind) h refl refl (omega (arith, some)))

enter_at : (b : Bool) (gate : GateView) (pressure task : ℕ) (kind : Kind) (before after : List Stay) → needs_entry kind ≡ b → IsTrue (not b || is_free gate) → StandsFor (with_stay pressure before task kind Outside after) gate → StandsFor (with_stay pressure before task kind Inside after) (if b then held_by task gate else gate)
enter_at true gate pressure task kind before after k free h =
    comes_to_hold pressure task kind Outside Inside before after gate (held_by task gate) (not_inside kind) (rw k refl) (free_none gate.holder free) h refl refl (omega arith)
enter_at false gate pressure task kind before after k free h =
    same_holder pressure task kind Outside Inside before after gate gate (not_inside kind) (rw k refl) h refl refl (omega arith)

pub enter_stands : (gate later : GateView) (task : ℕ) (kind : Kind) → later ≡ entered task kind gate → (pressure : ℕ) (before after : List Stay) → IsTrue (is_open kind gate) → StandsFor (with_stay pressure before task kind Outside after) gate → StandsFor (with_stay pressure before task kind Inside after) later
enter_stands gate later task kind e pressure before after free h =
    let P : GateView → Type 0 = StandsFor (with_stay pressure before task kind Inside after) in
    subst P (sym e) (enter_at (needs_entry kind) gate pressure task kind before after refl free h)

pub leave_stands : (gate later : GateView) (task : ℕ) → later ≡ given_up task gate → (pressure : ℕ) (kind : Kind) (before after : List Stay) → StandsFor (with_stay pressure before task kind Inside after) gate → StandsFor (with_stay pressure before task kind Outside after) later
leave_stands gate later task e pressure kind before after h =
    let P : GateView → Type 0 = StandsFor (with_stay pressure before task kind Outside after) in
    subst P (sym e) (gives_up pressure task kind Outside (needs_entry kind && true) before after gate refl (not_inside kind) refl h)

pub pause_stands : (gate later : GateView) (task : ℕ) → later ≡ given_up task gate → (pressure : ℕ) (kind : Kind) (before after : List Stay) → StandsFor (with_stay pressure before task kind Inside after) gate → StandsFor (with_stay pressure before task kind InLoop after) later
pause_stands gate later task e pressure kind before after h =
    let P : GateView → Type 0 = StandsFor (with_stay pressure before task kind InLoop after) in
    subst P (sym e) (gives_up pressure task kind InLoop (needs_entry kind && true) before after gate refl (not_inside kind) refl h)

pub take_back_stands : (gate later : GateView) (task : ℕ) → later ≡ held_by task gate → (pressure : ℕ) (before after : List Stay) → IsTrue (is_free gate) → StandsFor (with_stay pressure before task Callback InLoop after) gate → StandsFor (with_stay pressure before task Callback Inside after) later
take_back_stands gate later task e pressure before after free h =
    let P : GateView → Type 0 = StandsFor (with_stay pressure before task Callback Inside after) in
    subst P (sym e) (comes_to_hold pressure task Callback InLoop Inside before after gate (held_by task gate) refl refl (free_none gate.holder free) h refl refl (omega arith))
