-- What becomes of a gate where a task comes to wait, comes in, goes out, or comes back in from its loop.
use Rattle.std.proofs.Common.{◌≡◌, ℕ, ◌+◌, ◌-◌, Bool, true, false, ◌&&◌, if◌then◌else◌, List, slice_set, refl, sym, ap, ◌∙◌, arith, eq-eqb, Some, None}
use Rattle.std.specs.List.{slice_get}
use Rattle.entry_gate.specs.declared.kind.Kind.{Kind}
use Rattle.entry_gate.specs.Gates.{GateView, with_wait, without_wait, held_by, entered, is_holder, given_up}
use Rattle.entry_gate.specs.Kinds.{needs_entry}
use Rattle.entry_gate.specs.Stays.{Place, Outside, Waiting, Inside, InLoop, is_waiting, is_inside}
use Rattle.task_table.specs.declared.slot.TaskSlot.{TaskSlot}
use Rattle.standing.specs.KeptMarks.{runs_at, place_in}
use Rattle.run_laws.proofs.keeping.Entry.{holds_at, enters_at, holder_from, GateSeen, holder_same, holder_gains, holder_loses, holder_is, not_holder, HoldsAlone, waiting_set, holds_there, enters_there}

-- A task is another one of the same kind, that runs at the instance.
pub record Moves (tasks : List TaskSlot) (t at : ℕ) (x y : TaskSlot) (before now : Place) : Type 0 where
  pub is : slice_get tasks t ≡ Some x
  pub runs : runs_at at x ≡ true
  pub still : runs_at at y ≡ true
  pub kind : y.task.kind ≡ x.task.kind
  pub was : place_in x.task.phase ≡ before
  pub place : place_in y.task.phase ≡ now

no_second : (b c : Bool) → c ≡ false → (b && c) ≡ false
no_second true c e = e
no_second false c e = refl

outside : (at : ℕ) (x : TaskSlot) (p : Place) → runs_at at x ≡ true → place_in x.task.phase ≡ p → is_inside p ≡ false → holds_at at x ≡ false
outside at x p runs place out = holds_there at x false runs (no_second (needs_entry x.task.kind) (is_inside (place_in x.task.phase)) (ap is_inside place ∙ out))

inside : (at : ℕ) (x : TaskSlot) (b : Bool) → runs_at at x ≡ true → place_in x.task.phase ≡ Inside → needs_entry x.task.kind ≡ b → holds_at at x ≡ b
inside at x b runs place needs =
    holds_there at x b runs (ap (λ (c : Bool). c && is_inside (place_in x.task.phase)) needs ∙ ap (λ (p : Place). b && is_inside p) place ∙ by_bool b)
  where
    by_bool : (b : Bool) → (b && true) ≡ b
    by_bool true = refl
    by_bool false = refl

waits_by : (at : ℕ) (x : TaskSlot) (p : Place) (b : Bool) → runs_at at x ≡ true → place_in x.task.phase ≡ p → is_waiting p ≡ b → enters_at at x ≡ (if b then 1 else 0)
waits_by at x p b runs place e = enters_there at x b runs (ap is_waiting place ∙ e)

-- It comes to wait.
pub comes_to_wait : (tasks : List TaskSlot) (t at : ℕ) (x y : TaskSlot) (gate : GateView) → Moves tasks t at x y Outside Waiting → GateSeen tasks at gate
    → GateSeen (slice_set tasks t y) at (with_wait gate)
comes_to_wait tasks t at x y gate m seen = record {
  holder = seen.holder ∙ sym (holder_same at 0 tasks t x y m.is (outside at y Waiting m.still m.place refl ∙ sym (outside at x Outside m.runs m.was refl)));
  waiting = one_more seen.waiting (waiting_set at tasks t x y m.is) (waits_by at x Outside false m.runs m.was refl) (waits_by at y Waiting true m.still m.place refl);
}
  where
    one_more : {w all later a b : ℕ} → w ≡ all → later + a ≡ all + b → a ≡ 0 → b ≡ 1 → w + 1 ≡ later
    one_more e f g k = omega (arith, e, f, g, k)

-- It comes in, where none bars it.
entered_holder : (t : ℕ) (kind : Kind) (gate : GateView) (b : Bool) → needs_entry kind ≡ b → (entered t kind gate).holder ≡ (if b then Some t else gate.holder)
entered_holder t kind gate b e = by_bool (needs_entry kind) t gate ∙ ap (λ (c : Bool). if c then Some t else gate.holder) e
  where
    by_bool : (b : Bool) (t : ℕ) (gate : GateView) → (if b then held_by t gate else gate).holder ≡ (if b then Some t else gate.holder)
    by_bool true t gate = refl
    by_bool false t gate = refl

entered_waiting : (t : ℕ) (kind : Kind) (gate : GateView) → (entered t kind gate).waiting ≡ gate.waiting
entered_waiting t kind gate = by_bool (needs_entry kind) t gate
  where
    by_bool : (b : Bool) (t : ℕ) (gate : GateView) → (if b then held_by t gate else gate).waiting ≡ gate.waiting
    by_bool true t gate = refl
    by_bool false t gate = refl

in_holder : (tasks : List TaskSlot) (t at : ℕ) (x y : TaskSlot) (before : Place) (old gate : GateView) (b : Bool) → Moves tasks t at x y before Inside → is_inside before ≡ false
    → needs_entry x.task.kind ≡ b → gate.holder ≡ old.holder → old.holder ≡ holder_from at 0 tasks → (b ≡ true → old.holder ≡ None)
    → (entered t x.task.kind gate).holder ≡ holder_from at 0 (slice_set tasks t y)
in_holder tasks t at x y before old gate true m out needs same seen free =
    entered_holder t x.task.kind gate true needs
    ∙ sym (holder_gains at 0 tasks t x y m.is (inside at y true m.still m.place (ap needs_entry m.kind ∙ needs)) (sym seen ∙ free refl) ∙ (let e : 0 + t ≡ t = omega arith in ap (λ (n : ℕ). Some n) e))
in_holder tasks t at x y before old gate false m out needs same seen free =
    entered_holder t x.task.kind gate false needs ∙ same ∙ seen
    ∙ sym (holder_same at 0 tasks t x y m.is (inside at y false m.still m.place (ap needs_entry m.kind ∙ needs) ∙ sym (outside at x before m.runs m.was out)))

pub comes_in : (tasks : List TaskSlot) (t at : ℕ) (x y : TaskSlot) (gate : GateView) → Moves tasks t at x y Outside Inside → (needs_entry x.task.kind ≡ true → gate.holder ≡ None)
    → GateSeen tasks at gate → GateSeen (slice_set tasks t y) at (entered t x.task.kind gate)
comes_in tasks t at x y gate m free seen = record {
  holder = in_holder tasks t at x y Outside gate gate (needs_entry x.task.kind) m refl refl refl seen.holder free;
  waiting = as_many (entered_waiting t x.task.kind gate) seen.waiting (waiting_set at tasks t x y m.is) (waits_by at x Outside false m.runs m.was refl) (waits_by at y Inside false m.still m.place refl);
}
  where
    as_many : {now w all later a b : ℕ} → now ≡ w → w ≡ all → later + a ≡ all + b → a ≡ 0 → b ≡ 0 → now ≡ later
    as_many c e f g k = omega (arith, c, e, f, g, k)

pub comes_in_late : (tasks : List TaskSlot) (t at : ℕ) (x y : TaskSlot) (gate : GateView) → Moves tasks t at x y Waiting Inside → (needs_entry x.task.kind ≡ true → gate.holder ≡ None)
    → GateSeen tasks at gate → GateSeen (slice_set tasks t y) at (entered t x.task.kind (without_wait gate))
comes_in_late tasks t at x y gate m free seen = record {
  holder = in_holder tasks t at x y Waiting gate (without_wait gate) (needs_entry x.task.kind) m refl refl refl seen.holder free;
  waiting = one_fewer (entered_waiting t x.task.kind (without_wait gate)) seen.waiting (waiting_set at tasks t x y m.is) (waits_by at x Waiting true m.runs m.was refl) (waits_by at y Inside false m.still m.place refl);
}
  where
    one_fewer : {now w all later a b : ℕ} → now ≡ w - 1 → w ≡ all → later + a ≡ all + b → a ≡ 1 → b ≡ 0 → now ≡ later
    one_fewer c e f g k = omega (arith, c, e, f, g, k)

-- It goes out, or into its loop.
given_holder : (t : ℕ) (gate : GateView) (b : Bool) → is_holder t gate.holder ≡ b → (given_up t gate).holder ≡ (if b then None else gate.holder)
given_holder t gate b e = by_bool (is_holder t gate.holder) gate ∙ ap (λ (c : Bool). if c then None else gate.holder) e
  where
    by_bool : (b : Bool) (gate : GateView) → (if b then record gate { holder = None } else gate).holder ≡ (if b then None else gate.holder)
    by_bool true gate = refl
    by_bool false gate = refl

given_waiting : (t : ℕ) (gate : GateView) → (given_up t gate).waiting ≡ gate.waiting
given_waiting t gate = by_bool (is_holder t gate.holder) gate
  where
    by_bool : (b : Bool) (gate : GateView) → (if b then record gate { holder = None } else gate).waiting ≡ gate.waiting
    by_bool true gate = refl
    by_bool false gate = refl

out_holder : (tasks : List TaskSlot) (t at : ℕ) (x y : TaskSlot) (now : Place) (gate : GateView) (b : Bool) → Moves tasks t at x y Inside now → is_inside now ≡ false
    → needs_entry x.task.kind ≡ b → gate.holder ≡ holder_from at 0 tasks → (holds_at at x ≡ true → HoldsAlone tasks at t)
    → (given_up t gate).holder ≡ holder_from at 0 (slice_set tasks t y)
out_holder tasks t at x y now gate true m out needs seen alone =
    let holding : holds_at at x ≡ true = inside at x true m.runs m.was needs in
    let zero_more : 0 + t ≡ t = omega arith in
    let is_t : gate.holder ≡ Some t = seen ∙ holder_is at 0 tasks t x m.is holding (alone holding) ∙ ap (λ (n : ℕ). Some n) zero_more in
    given_holder t gate true (ap (is_holder t) is_t ∙ eq-eqb t t refl) ∙ sym (holder_loses at 0 tasks t y (alone holding) (outside at y now m.still m.place out))
out_holder tasks t at x y now gate false m out needs seen alone =
    let none : holds_at at x ≡ false = inside at x false m.runs m.was needs in
    let zero_more : t ≡ 0 + t = omega arith in
    given_holder t gate false (ap (is_holder t) seen ∙ ap (λ (n : ℕ). is_holder n (holder_from at 0 tasks)) zero_more ∙ not_holder at 0 tasks t x m.is none)
    ∙ seen ∙ sym (holder_same at 0 tasks t x y m.is (outside at y now m.still m.place out ∙ sym none))

pub goes_out : (tasks : List TaskSlot) (t at : ℕ) (x y : TaskSlot) (now : Place) (gate : GateView) → Moves tasks t at x y Inside now → is_inside now ≡ false → is_waiting now ≡ false
    → (holds_at at x ≡ true → HoldsAlone tasks at t) → GateSeen tasks at gate → GateSeen (slice_set tasks t y) at (given_up t gate)
goes_out tasks t at x y now gate m out none alone seen = record {
  holder = out_holder tasks t at x y now gate (needs_entry x.task.kind) m out refl seen.holder alone;
  waiting = as_many (given_waiting t gate) seen.waiting (waiting_set at tasks t x y m.is) (waits_by at x Inside false m.runs m.was refl) (waits_by at y now false m.still m.place none);
}
  where
    as_many : {now w all later a b : ℕ} → now ≡ w → w ≡ all → later + a ≡ all + b → a ≡ 0 → b ≡ 0 → now ≡ later
    as_many c e f g k = omega (arith, c, e, f, g, k)

-- It comes back in from its loop, where none holds entry.
pub comes_back : (tasks : List TaskSlot) (t at : ℕ) (x y : TaskSlot) (gate : GateView) → Moves tasks t at x y InLoop Inside → needs_entry x.task.kind ≡ true → gate.holder ≡ None
    → GateSeen tasks at gate → GateSeen (slice_set tasks t y) at (held_by t gate)
comes_back tasks t at x y gate m needs free seen = record {
  holder = sym
      (holder_gains at 0 tasks t x y m.is (inside at y true m.still m.place (ap needs_entry m.kind ∙ needs)) (sym seen.holder ∙ free) ∙ (let e : 0 + t ≡ t = omega arith in ap (λ (n : ℕ). Some n) e));
  waiting = as_many seen.waiting (waiting_set at tasks t x y m.is) (waits_by at x InLoop false m.runs m.was refl) (waits_by at y Inside false m.still m.place refl);
}
  where
    as_many : {w all later a b : ℕ} → w ≡ all → later + a ≡ all + b → a ≡ 0 → b ≡ 0 → w ≡ later
    as_many e f g k = omega (arith, e, f, g, k)

-- It stays inside.
pub stays_in : (tasks : List TaskSlot) (t at : ℕ) (x y : TaskSlot) (gate : GateView) → Moves tasks t at x y Inside Inside → GateSeen tasks at gate → GateSeen (slice_set tasks t y) at gate
stays_in tasks t at x y gate m seen = record {
  holder = seen.holder
      ∙ sym (holder_same at 0 tasks t x y m.is (inside at y (needs_entry x.task.kind) m.still m.place (ap needs_entry m.kind) ∙ sym (inside at x (needs_entry x.task.kind) m.runs m.was refl)));
  waiting = as_many seen.waiting (waiting_set at tasks t x y m.is) (waits_by at x Inside false m.runs m.was refl) (waits_by at y Inside false m.still m.place refl);
}
  where
    as_many : {w all later a b : ℕ} → w ≡ all → later + a ≡ all + b → a ≡ 0 → b ≡ 0 → w ≡ later
    as_many e f g k = omega (arith, e, f, g, k)
