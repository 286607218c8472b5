-- How many tasks wait on sets, where a task begins to wait on one, and where it ceases to.
use Rattle.std.proofs.Common.{◌≡◌, ◌≢◌, ◌<◌, inl, inr, ℕ, ◌+◌, ◌-◌, nat_eq, Bool, true, false, ◌&&◌, if◌then◌else◌, List, length, slice_set, refl, sym, ap, ◌∙◌, arith, eq-eqb, Some}
use Rattle.std.specs.List.{slice_get}
use Rattle.std.proofs.lemmas.Bool.{cases_eq, ne_eqb}
use Rattle.std.proofs.lemmas.List.{get_or-set_same, get_or-set_other}
use Rattle.waitables.specs.Sets.{SetView, no_set, set_at, waited_on, waited_off}
use Rattle.instances.specs.declared.entry.WorldEntry.TheVariants as entry
use Rattle.instances.specs.Instances.{InstanceView, entry_of}
use Rattle.task_table.specs.declared.slot.TaskSlot.{TaskSlot}
use Rattle.task_table.specs.Slots.{waits_on}
use Rattle.abi_machine.proofs.sound.Found.{some_same}
use Rattle.standing.specs.KeptMarks.{runs_at, waiters_at, WaitersMarked}
use Rattle.standing.specs.MarksKept.{StandOnce}
use Rattle.standing.proofs.marks.Tables.{waiters_put}
use Rattle.run_laws.proofs.keeping.Sums.{sum_set}
use Rattle.run_laws.proofs.keeping.Told.{runs_not}

pub counts_at : ℕ → ℕ → TaskSlot → ℕ
counts_at at index slot = if runs_at at slot && waits_on index slot.task.phase then 1 else 0

waiters_change : (at index : ℕ) (tasks : List TaskSlot) (t : ℕ) (x y : TaskSlot) → slice_get tasks t ≡ Some x
    → waiters_at (slice_set tasks t y) at index + counts_at at index x ≡ waiters_at tasks at index + counts_at at index y
unfolding counts_at
waiters_change at index tasks t x y is = sum_set (λ (slot : TaskSlot). if runs_at at slot && waits_on index slot.task.phase then 1 else 0) tasks t x y is

pub counts_not : (at index : ℕ) (x : TaskSlot) → waits_on index x.task.phase ≡ false → counts_at at index x ≡ 0
unfolding counts_at
counts_not at index x none = both (runs_at at x) (waits_on index x.task.phase) none
  where
    both : (b c : Bool) → c ≡ false → ◌≡◌ {A = ℕ} (if b && c then 1 else 0) 0
    both true c e = ap (λ (d : Bool). if d then 1 else 0) e
    both false c e = refl

pub counts_elsewhere : (at index : ℕ) (x : TaskSlot) → runs_at at x ≡ false → counts_at at index x ≡ 0
unfolding counts_at
counts_elsewhere at index x none = ap (λ (b : Bool). if b && waits_on index x.task.phase then 1 else 0) none

pub counts_there : (at index : ℕ) (x : TaskSlot) (b : Bool) → runs_at at x ≡ true → waits_on index x.task.phase ≡ b → counts_at at index x ≡ (if b then 1 else 0)
unfolding counts_at
counts_there at index x b there e = ap (λ (c : Bool). if c && waits_on index x.task.phase then 1 else 0) there ∙ ap (λ (c : Bool). if c then 1 else 0) e

-- A task and its instance are others: as many more tasks, or fewer, wait on each set of the instance as are said to.
pub waiters_move : (instances : List InstanceView) (tasks : List TaskSlot) (t at : ℕ) (x y : TaskSlot) (i j : InstanceView) → slice_get instances at ≡ Some i → slice_get tasks t ≡ Some x
    → runs_at at x ≡ true → ((n : ℕ) → runs_at n y ≡ runs_at n x) → ((index set : ℕ) → entry_of j index ≡ Some (entry.Set set) → entry_of i index ≡ Some (entry.Set set))
    → ((index set : ℕ) → entry_of i index ≡ Some (entry.Set set) → (set_at i.sets set).waiters ≡ waiters_at tasks at index
    → (set_at j.sets set).waiters + counts_at at index x ≡ (set_at i.sets set).waiters + counts_at at index y)
    → WaitersMarked instances tasks → WaitersMarked (slice_set instances at j) (slice_set tasks t y)
waiters_move instances tasks t at x y i j here is there same stood counts marks =
    waiters_put instances (slice_set tasks t y) at i j here
    (λ index set found.
    let before : (set_at i.sets set).waiters ≡ waiters_at tasks at index = marks at index set i here (stood index set found) in
    as_said (counts_at at index x) (counts_at at index y) (counts index set (stood index set found) before) before (waiters_change at index tasks t x y is))
    (λ n index set k other found stands.
    let none : runs_at n x ≡ false = runs_not at n x there other in
    as_before (marks n index set k found stands) (waiters_change n index tasks t x y is) (counts_elsewhere n index x none) (counts_elsewhere n index y (same n ∙ none)))
  where
    as_said : (a b : ℕ) {now before tasks later : ℕ} → now + a ≡ before + b → before ≡ tasks → later + a ≡ tasks + b → now ≡ later
    as_said a b e f g = omega (arith, e, f, g)

    as_before : {w tasks later a b : ℕ} → w ≡ tasks → later + a ≡ tasks + b → a ≡ 0 → b ≡ 0 → w ≡ later
    as_before e f g k = omega (arith, e, f, g, k)

-- One more waits on the set, or one fewer, and as many on the others.
on_set : (sets : List SetView) (set : ℕ) → set < length sets → (set_at (waited_on set sets) set).waiters ≡ (set_at sets set).waiters + 1
on_set sets set within = ap (λ (v : SetView). v.waiters) (get_or-set_same sets set (record (set_at sets set) { waiters = (set_at sets set).waiters + 1 }) no_set within)

on_others : (sets : List SetView) (set other : ℕ) → other ≢ set → (set_at (waited_on set sets) other).waiters ≡ (set_at sets other).waiters
on_others sets set other isnt =
    ap (λ (v : SetView). v.waiters) (get_or-set_other sets set other (record (set_at sets set) { waiters = (set_at sets set).waiters + 1 }) no_set isnt)

off_set : (sets : List SetView) (set : ℕ) → set < length sets → (set_at (waited_off set sets) set).waiters ≡ (set_at sets set).waiters - 1
off_set sets set within = ap (λ (v : SetView). v.waiters) (get_or-set_same sets set (record (set_at sets set) { waiters = (set_at sets set).waiters - 1 }) no_set within)

off_others : (sets : List SetView) (set other : ℕ) → other ≢ set → (set_at (waited_off set sets) other).waiters ≡ (set_at sets other).waiters
off_others sets set other isnt =
    ap (λ (v : SetView). v.waiters) (get_or-set_other sets set other (record (set_at sets set) { waiters = (set_at sets set).waiters - 1 }) no_set isnt)

set_same : {a b : ℕ} → entry.Set a ≡ entry.Set b → a ≡ b
set_same e = cc

-- The task begins to wait on the set at an index.
pub begins_on : (i : InstanceView) (at index set : ℕ) (x y : TaskSlot) → set < length i.sets → entry_of i index ≡ Some (entry.Set set) → StandOnce i
    → ((n : ℕ) → counts_at at n x ≡ 0) → ((n : ℕ) → counts_at at n y ≡ (if nat_eq index n then 1 else 0))
    → (n number : ℕ) → entry_of i n ≡ Some (entry.Set number) → (set_at (waited_on set i.sets) number).waiters + counts_at at n x ≡ (set_at i.sets number).waiters + counts_at at n y
begins_on i at index set x y within stands once before now n number stood =
    elim (cases_eq number set) [
      | inl same ↦
          let here : n ≡ index = once n index set (stood ∙ ap (λ (k : ℕ). Some (entry.Set k)) same) stands in
          let a : (set_at (waited_on set i.sets) number).waiters ≡ (set_at i.sets number).waiters + 1
          = ap (λ (k : ℕ). (set_at (waited_on set i.sets) k).waiters) same ∙ on_set i.sets set within ∙ ap (λ (k : ℕ). (set_at i.sets k).waiters + 1) (sym same) in
          let b : counts_at at n y ≡ 1 = now n ∙ ap (λ (c : Bool). if c then 1 else 0) (eq-eqb index n (sym here)) in
          one_more (set_at i.sets number).waiters a (before n) b
      | inr other ↦
          let apart : index ≡ n → ⊥ = λ e. other (set_same (some_same (sym stood ∙ ap (λ (k : ℕ). entry_of i k) (sym e) ∙ stands))) in
          let a : (set_at (waited_on set i.sets) number).waiters ≡ (set_at i.sets number).waiters = on_others i.sets set number other in
          let b : counts_at at n y ≡ 0 = now n ∙ ap (λ (c : Bool). if c then 1 else 0) (ne_eqb index n apart) in
          as_many a (before n) b
    ]
  where
    one_more : (w : ℕ) {later x y : ℕ} → later ≡ w + 1 → x ≡ 0 → y ≡ 1 → later + x ≡ w + y
    one_more w e f g = omega (arith, e, f, g)

    as_many : {later w x y : ℕ} → later ≡ w → x ≡ 0 → y ≡ 0 → later + x ≡ w + y
    as_many e f g = omega (arith, e, f, g)

-- It ceases to.
pub ceases_on : (i : InstanceView) (at index set : ℕ) (x y : TaskSlot) → set < length i.sets → entry_of i index ≡ Some (entry.Set set) → StandOnce i
    → 0 < (set_at i.sets set).waiters → ((n : ℕ) → counts_at at n x ≡ (if nat_eq index n then 1 else 0)) → ((n : ℕ) → counts_at at n y ≡ 0)
    → (n number : ℕ) → entry_of i n ≡ Some (entry.Set number) → (set_at (waited_off set i.sets) number).waiters + counts_at at n x ≡ (set_at i.sets number).waiters + counts_at at n y
ceases_on i at index set x y within stands once some before now n number stood =
    elim (cases_eq number set) [
      | inl same ↦
          let here : n ≡ index = once n index set (stood ∙ ap (λ (k : ℕ). Some (entry.Set k)) same) stands in
          let a : (set_at (waited_off set i.sets) number).waiters ≡ (set_at i.sets number).waiters - 1
          = ap (λ (k : ℕ). (set_at (waited_off set i.sets) k).waiters) same ∙ off_set i.sets set within ∙ ap (λ (k : ℕ). (set_at i.sets k).waiters - 1) (sym same) in
          let b : counts_at at n x ≡ 1 = before n ∙ ap (λ (c : Bool). if c then 1 else 0) (eq-eqb index n (sym here)) in
          let c : 0 < (set_at i.sets number).waiters = lower some (ap (λ (k : ℕ). (set_at i.sets k).waiters) same) in
          one_fewer (set_at i.sets number).waiters a b (now n) c
      | inr other ↦
          let apart : index ≡ n → ⊥ = λ e. other (set_same (some_same (sym stood ∙ ap (λ (k : ℕ). entry_of i k) (sym e) ∙ stands))) in
          let a : (set_at (waited_off set i.sets) number).waiters ≡ (set_at i.sets number).waiters = off_others i.sets set number other in
          let b : counts_at at n x ≡ 0 = before n ∙ ap (λ (c : Bool). if c then 1 else 0) (ne_eqb index n apart) in
          as_many a b (now n)
    ]
  where
    lower : {a b : ℕ} → 0 < a → b ≡ a → 0 < b
    lower e f = omega (arith, e, f)

    one_fewer : (w : ℕ) {later x y : ℕ} → later ≡ w - 1 → x ≡ 1 → y ≡ 0 → 0 < w → later + x ≡ w + y
    one_fewer w e f g k = omega (arith, e, f, g, k)

    as_many : {later w x y : ℕ} → later ≡ w → x ≡ 0 → y ≡ 0 → later + x ≡ w + y
    as_many e f g = omega (arith, e, f, g)
