-- Borrow handles that a task gets are counted: those that were counted still are counted then.
use Rattle.std.proofs.Common.{◌≡◌, ◌∙◌, ◌+◌, ℕ, nat_eq, Bool, true, false, if◌then◌else◌, List, [], ◌∷◌, map, Option, Some, None, refl, sym, ap, subst, arith, eq-eqb, inl, inr}
use Rattle.std.specs.Prelude.{Err}
use Rattle.std.specs.List.{slice_get}
use Rattle.std.proofs.lemmas.Bool.{ne_eqb}
use Rattle.syntax_trees.specs.declared.value.Value.{Value}
use Rattle.syntax_trees.specs.declared.value.Value.TheOpen as V
use Rattle.syntax_trees.specs.declared.value.Value.TheViews.{roll-Value}
use Rattle.syntax_trees.specs.declared.value.Value.TheFolds.{map-Value, ind-Value, fold-roll-Value}
use Rattle.res_handles.specs.Calls.{is_defined}
use Rattle.tasks.specs.declared.event.TaskEvent.TheVariants as event
use Rattle.tasks.specs.declared.event.TaskTrap.{TaskTrap}
use Rattle.tasks.specs.Tasks as tasks
use Rattle.tasks.specs.Tasks.{may_happen, fault, unless}
use Rattle.task_table.specs.declared.refusal.EventError.TheVariants as event_error
use Rattle.task_table.specs.declared.slot.TaskSlot.{TaskSlot}
use Rattle.task_table.specs.Slots as slots
use Rattle.task_table.specs.Slots.{trapped, event_answer, advanced_slot}
use Rattle.world_parts.specs.Held.{Held, Done, Gives, Traps, Spent, Stuck, after}
use Rattle.world_parts.specs.Slots.{with_task, happened, happens}
use Rattle.value_moves.specs.Borrowing.{Act, all_done, borrow_step, borrows_counted}
use Rattle.standing.specs.KeptMarks.{borrows_in}
use Rattle.standing.specs.MarksKept.{WaitsStay}
use Rattle.standing.proofs.marks.Inside.{same_seen}
use Rattle.standing.proofs.marks.Tasks.{task_stays}
use Rattle.run_laws.proofs.keeping.Sums.{set_cases}
use Rattle.run_laws.proofs.keeping.Changes.{lends_same, waits_same, awaited_alike, states_alike}
use Rattle.run_laws.proofs.keeping.But.{owed, HasBut, GivesBut, task_but, leaves_given, right_at}
use Rattle.run_laws.proofs.keeping.Alike.{same_task}
use Rattle.run_laws.proofs.keeping.Planned.{total, borrow_steps, borrow_count}

-- One of them is counted.
module _ (C : Type 0) (t : ℕ) where
  one_counted : (n : ℕ) (h : Held) (x : TaskSlot) → slice_get h.tasks t ≡ Some x → HasBut C t (1 + n) h → HasBut C t n (with_task t (slots.with_task (tasks.after event.Borrow x.task) x) h)
  one_counted n h x is but =
      let y : TaskSlot = slots.with_task (tasks.after event.Borrow x.task) x in
      let waits : WaitsStay h (with_task t y h) = task_stays h t x y is (same_seen x y refl refl refl refl) in
      record {
        gates = waits.gates but.gates;
        waiters = waits.waiters but.waiters;
        lent = λ at index i here. but.lent at index i here ∙ sym (lends_same h.tasks t x y at index is refl refl);
        borrows = λ m slot found. elim (set_cases h.tasks t y m slot found) [
          | inl new ↦
              ap (λ (s : TaskSlot). s.task.borrows + owed t n m) new.1 ∙ ap (λ (k : ℕ). x.task.borrows + 1 + owed t n k) new.0
              ∙ (let same : x.task.borrows + 1 + owed t n t ≡ x.task.borrows + owed t (1 + n) t = counted x.task.borrows (own_owed t n) (own_owed t (1 + n)) in same)
              ∙ but.borrows t x is ∙ ap (λ (k : ℕ). borrows_in h.instances k) (sym new.0)
          | inr old ↦ ap (λ (k : ℕ). slot.task.borrows + k) (other_owed t m n (1 + n) (λ e. old.0 (sym e))) ∙ but.borrows m slot old.1
        ];
        awaited = awaited_alike h.instances h.tasks t x y is (λ called e. (called, e, refl)) (λ at index. waits_same at index x y refl refl) but.awaited;
        states = states_alike h.tasks t x y is (λ m. m) but.states;
        sound = but.sound;
        ends = but.ends;
      }
    where
      own_if : (b : Bool) (n : ℕ) → b ≡ true → ◌≡◌ {A = ℕ} (if b then n else 0) n
      own_if true n e = refl
      own_if false n e = absurd (cc)

      other_if : (b : Bool) (n m : ℕ) → b ≡ false → ◌≡◌ {A = ℕ} (if b then n else 0) (if b then m else 0)
      other_if true n m e = absurd (cc)
      other_if false n m e = refl

      own_owed : (t n : ℕ) → owed t n t ≡ n
      own_owed t n = own_if (nat_eq t t) n (eq-eqb t t refl)

      other_owed : (t m n k : ℕ) → (t ≡ m → ⊥) → owed t n m ≡ owed t k m
      other_owed t m n k other = other_if (nat_eq t m) n k (ne_eqb t m other)

      counted : (b : ℕ) {o p n : ℕ} → o ≡ n → p ≡ 1 + n → b + 1 + o ≡ b + p
      counted b e f = omega (arith, e, f)

  by_test : (n : ℕ) (h : Held) (x : TaskSlot) (b : Bool) (o : Option TaskTrap) → slice_get h.tasks t ≡ Some x → HasBut C t (1 + n) h
      → GivesBut C t n
      (happened (if b then trapped o else Err event_error.NotNow) t
      (if b then slots.with_task (unless o (tasks.after event.Borrow x.task) x.task) x else x) h)
  by_test n h x true None is but = one_counted n h x is but
  by_test n h x true (Some why) is but = right_at C t (1 + n) (with_task t (slots.with_task x.task x) h) (task_but C t (1 + n) h t x (slots.with_task x.task x) is (same_task x (slots.with_task x.task x) refl refl refl refl refl)
      (same_seen x (slots.with_task x.task x) refl refl refl refl) (λ m. m) but)
  by_test n h x false o is but = tt

  happens_counted : (n : ℕ) (h : Held) → HasBut C t (1 + n) h → GivesBut C t n (happens t event.Borrow h)
  happens_counted n h but =
      leaves_given C (λ (k : Held). HasBut C t n k) (slice_get h.tasks t) (λ slot. happened (event_answer event.Borrow slot.task) t (advanced_slot event.Borrow slot) h)
      (λ x is. by_test n h x (may_happen event.Borrow x.task) (fault event.Borrow x.task) is but)

-- All of a value are.
module _ (C : Type 0) (home : List ℕ) (t : ℕ) where
  abbrev CountsOn : Act → ℕ → Type 0
  CountsOn act k = (n : ℕ) (h : Held) → HasBut C t (k + n) h → GivesBut C t n (act h)

  abbrev Good : Value → Type 0
  Good v = CountsOn (borrows_counted home t v) (borrow_count home v)

  abbrev Goods : Type 0
  Goods = (v : Value) × Good v

  abbrev these : List Goods → List Value
  these es = map (λ (e : Goods). e.0) es

  as_less : (k n : ℕ) (h : Held) → HasBut C t (0 + n) h → HasBut C t n h
  as_less k n h but = subst (λ (m : ℕ). HasBut C t m h) (let same : 0 + n ≡ n = omega arith in same) but

  none_counted : {A : Type 0} (n : ℕ) (h : Held) (x : A) → HasBut C t (0 + n) h → GivesBut C t n (let d : Done A = Gives x h in d)
  none_counted n h x but = as_less 0 n h but

  then_counted : (d : Done (Unit {0})) (f : Held → Done (Unit {0})) (m n : ℕ) → GivesBut C t m d → ((k : Held) → HasBut C t m k → GivesBut C t n (f k))
      → GivesBut C t n (after d (λ done k. f k))
  then_counted (Gives x k) f m n p q = q k p
  then_counted (Traps why k) f m n p q = p
  then_counted (Spent k) f m n p q = tt
  then_counted Stuck f m n p q = tt

  all_count : (es : List Goods) → CountsOn (all_done (map (borrows_counted home t) (these es))) (total (map (borrow_count home) (these es)))
  all_count [] n h but = none_counted n h (tt {0}) but
  all_count (e ∷ es) n h but =
      then_counted (borrows_counted home t e.0 h) (λ k. all_done (map (borrows_counted home t) (these es)) k) (total (map (borrow_count home) (these es)) + n) n
      (e.1 (total (map (borrow_count home) (these es)) + n) h
      (subst (λ (m : ℕ). HasBut C t m h)
      (let same : borrow_count home e.0 + total (map (borrow_count home) (these es)) + n ≡ borrow_count home e.0 + (total (map (borrow_count home) (these es)) + n) = omega arith in same) but))
      (λ k b. all_count es n k b)

  one_by : (b : Bool) (n : ℕ) (h : Held) → HasBut C t ((if b then 0 else 1) + n) h → GivesBut C t n (if b then Gives tt h else happens t event.Borrow h)
  one_by true n h but = none_counted n h (tt {0}) but
  one_by false n h but = happens_counted C t n h but

  abbrev layer : V.Value-F Goods → V.Value-F Value
  layer w = map-Value Goods Value (λ (e : Goods). e.0) w

  abbrev in_layer : V.Value-F Value → V.Value-F Act
  in_layer w = map-Value Value Act (borrows_counted home t) w

  abbrev count_layer : V.Value-F Value → ℕ
  count_layer w = borrow_steps home (map-Value Value ℕ (borrow_count home) w)

  step_counts : (w : V.Value-F Goods) → CountsOn (borrow_step home t (in_layer (layer w))) (count_layer (layer w))
  step_counts (V.List es) = all_count es
  step_counts (V.Record es) = all_count es
  step_counts (V.Variant m (Some e)) = e.1
  step_counts (V.Variant m None) = λ n h but. none_counted n h (tt {0}) but
  step_counts (V.Borrow x) = λ n h but. one_by (is_defined x.resource home) n h but
  step_counts (V.String text) = λ n h but. none_counted n h (tt {0}) but
  step_counts (V.Flags flags) = λ n h but. none_counted n h (tt {0}) but
  step_counts (V.Own x) = λ n h but. none_counted n h (tt {0}) but
  step_counts (V.Stream x) = λ n h but. none_counted n h (tt {0}) but
  step_counts (V.Future x) = λ n h but. none_counted n h (tt {0}) but
  step_counts (V.Bool b) = λ n h but. none_counted n h (tt {0}) but
  step_counts (V.S8 x) = λ n h but. none_counted n h (tt {0}) but
  step_counts (V.U8 x) = λ n h but. none_counted n h (tt {0}) but
  step_counts (V.S16 x) = λ n h but. none_counted n h (tt {0}) but
  step_counts (V.U16 x) = λ n h but. none_counted n h (tt {0}) but
  step_counts (V.S32 x) = λ n h but. none_counted n h (tt {0}) but
  step_counts (V.U32 x) = λ n h but. none_counted n h (tt {0}) but
  step_counts (V.S64 x) = λ n h but. none_counted n h (tt {0}) but
  step_counts (V.U64 x) = λ n h but. none_counted n h (tt {0}) but
  step_counts (V.Char x) = λ n h but. none_counted n h (tt {0}) but

  good_step : (w : V.Value-F Goods) → Good (roll-Value (layer w))
  good_step w =
      let act : borrows_counted home t (roll-Value (layer w)) ≡ borrow_step home t (in_layer (layer w)) = fold-roll-Value Act (borrow_step home t) (layer w) in
      let counts : borrow_count home (roll-Value (layer w)) ≡ count_layer (layer w) = fold-roll-Value ℕ (borrow_steps home) (layer w) in
      subst (λ (a : Act). CountsOn a (borrow_count home (roll-Value (layer w)))) (sym act) (subst (λ (k : ℕ). CountsOn (borrow_step home t (in_layer (layer w))) k) (sym counts) (step_counts w))

  good : (v : Value) → Good v
  good = ind-Value Good (λ x y e. subst (λ (z : V.Value-F Value). Good (roll-Value z)) e (good_step y))

  pub all_are_counted : (v : Value) (n : ℕ) (h : Held) → HasBut C t (borrow_count home v + n) h → GivesBut C t n (borrows_counted home t v h)
  all_are_counted v = good v
