-- What becomes of these marks where a task is another one, and where an instance is.
use Rattle.std.proofs.Common.{◌≡◌, inl, inr, ℕ, ◌+◌, nat_eq, Bool, true, false, ◌&&◌, List, slice_set, refl, sym, ap, ◌∙◌, subst, arith, Option, Some, None}
use Rattle.std.specs.List.{slice_get, list_any, count_by, sum_by}
use Rattle.std.proofs.lemmas.Bool.{cases_eq}
use Rattle.handle_table.specs.Slots.{Slots, entry_at}
use Rattle.res_handles.specs.declared.handle.Handle.{Handle}
use Rattle.instances.specs.declared.entry.WorldEntry.{WorldEntry}
use Rattle.instances.specs.declared.entry.WorldEntry.TheVariants as entry
use Rattle.instances.specs.Instances.{InstanceView, entry_of}
use Rattle.task_table.specs.declared.caller.Called.{Called}
use Rattle.task_table.specs.declared.caller.Caller.TheVariants.{Guest}
use Rattle.task_table.specs.declared.slot.TaskSlot.{TaskSlot}
use Rattle.task_table.specs.Callers.{called_of}
use Rattle.task_table.specs.Slots.{waits_directly_at}
use Rattle.world_parts.specs.Held.{Held}
use Rattle.world_parts.specs.Entries.{with_instance}
use Rattle.world_parts.specs.Slots.{with_task}
use Rattle.abi_machine.specs.Counting.{passes}
use Rattle.standing.specs.KeptMarks.{runs_at, lends_by, is_task_at, lends_at, LendsMarked, is_borrow_of, borrows_in, BorrowsMarked, awaited_at, AwaitedMarked}
use Rattle.standing.specs.Marks.{StateMarked, StatesMarked}
use Rattle.standing.proofs.Agreeing.{get_set}
use Rattle.standing.proofs.Steps.{other_get}
use Rattle.standing.proofs.marks.Tables.{put_same, put_other}
use Rattle.run_laws.proofs.keeping.Others.{Keeps}
use Rattle.run_laws.proofs.keeping.Sums.{sum_set, sums_equal, any_same, set_either}

-- Whether a task runs at an instance, where one is another one that runs where it ran.
pub here_same : (tasks : List TaskSlot) (t : ℕ) (x y : TaskSlot) (at n : ℕ) → slice_get tasks t ≡ Some x → runs_at at y ≡ runs_at at x
    → is_task_at (slice_set tasks t y) at n ≡ is_task_at tasks at n
here_same tasks t x y at n is same =
    elim (cases_eq n t) [
      | inl e ↦
          ap (λ (k : ℕ). is_task_at (slice_set tasks t y) at k) e ∙ ap (passes (runs_at at)) (get_set tasks t x y is) ∙ same ∙ sym (ap (passes (runs_at at)) is)
          ∙ ap (λ (k : ℕ). is_task_at tasks at k) (sym e)
      | inr other ↦ ap (passes (runs_at at)) (other_get tasks t n y other)
    ]

pub by_same : (p q : ℕ → Bool) (index : ℕ) (o : Option Called) → ((called : Called) → o ≡ Some called → p called.by ≡ q called.by) → lends_by p index o ≡ lends_by q index o
by_same p q index None same = refl
by_same p q index (Some called) same = ap (λ (b : Bool). count_by (λ handle. b && nat_eq handle index) called.subtask.lends) (same called refl)

-- How often a handle is lent, with who runs where said beside it.
unfoldable pub lent_with : (ℕ → Bool) → ℕ → List TaskSlot → ℕ
lent_with p index tasks = sum_by (λ (slot : TaskSlot). lends_by p index (called_of slot.caller)) tasks

pub lent_as : (tasks : List TaskSlot) (at index : ℕ) → lends_at tasks at index ≡ lent_with (is_task_at tasks at) index tasks
unfolding lent_with
lent_as tasks at index = refl

lent_same : (p q : ℕ → Bool) (index : ℕ) (tasks : List TaskSlot) → ((n : ℕ) → p n ≡ q n) → lent_with p index tasks ≡ lent_with q index tasks
unfolding lent_with
lent_same p q index tasks same =
    sums_equal (λ (slot : TaskSlot). lends_by p index (called_of slot.caller)) (λ (slot : TaskSlot). lends_by q index (called_of slot.caller)) tasks
    (λ n slot e. by_same p q index (called_of slot.caller) (λ called found. same called.by))

lent_set : (p : ℕ → Bool) (index : ℕ) (tasks : List TaskSlot) (t : ℕ) (x y : TaskSlot) → slice_get tasks t ≡ Some x
    → lent_with p index (slice_set tasks t y) + lends_by p index (called_of x.caller) ≡ lent_with p index tasks + lends_by p index (called_of y.caller)
unfolding lent_with
lent_set p index tasks t x y is = sum_set (λ (slot : TaskSlot). lends_by p index (called_of slot.caller)) tasks t x y is

-- Where a task is another one that runs where it ran, what is lent for its call alone may be more or less.
pub lends_change : (tasks : List TaskSlot) (t : ℕ) (x y : TaskSlot) (at index : ℕ) → slice_get tasks t ≡ Some x → runs_at at y ≡ runs_at at x
    → lends_at (slice_set tasks t y) at index + lends_by (is_task_at tasks at) index (called_of x.caller) ≡ lends_at tasks at index + lends_by (is_task_at tasks at) index (called_of y.caller)
lends_change tasks t x y at index is same =
    let a : lends_at (slice_set tasks t y) at index ≡ lent_with (is_task_at (slice_set tasks t y) at) index (slice_set tasks t y) = lent_as (slice_set tasks t y) at index in
    let b : lent_with (is_task_at (slice_set tasks t y) at) index (slice_set tasks t y) ≡ lent_with (is_task_at tasks at) index (slice_set tasks t y)
    = lent_same (is_task_at (slice_set tasks t y) at) (is_task_at tasks at) index (slice_set tasks t y) (λ n. here_same tasks t x y at n is same) in
    let c : lent_with (is_task_at tasks at) index (slice_set tasks t y) + lends_by (is_task_at tasks at) index (called_of x.caller)
    ≡ lent_with (is_task_at tasks at) index tasks + lends_by (is_task_at tasks at) index (called_of y.caller) = lent_set (is_task_at tasks at) index tasks t x y is in
    let d : lends_at tasks at index ≡ lent_with (is_task_at tasks at) index tasks = lent_as tasks at index in
    ap (λ (n : ℕ). n + lends_by (is_task_at tasks at) index (called_of x.caller)) (a ∙ b) ∙ c ∙ ap (λ (n : ℕ). n + lends_by (is_task_at tasks at) index (called_of y.caller)) (sym d)

pub lends_same : (tasks : List TaskSlot) (t : ℕ) (x y : TaskSlot) (at index : ℕ) → slice_get tasks t ≡ Some x → runs_at at y ≡ runs_at at x
    → lends_by (is_task_at tasks at) index (called_of y.caller) ≡ lends_by (is_task_at tasks at) index (called_of x.caller)
    → lends_at (slice_set tasks t y) at index ≡ lends_at tasks at index
lends_same tasks t x y at index is same lent = equal (lends_change tasks t x y at index is same) lent
  where
    equal : {a b c d : ℕ} → a + b ≡ c + d → d ≡ b → a ≡ c
    equal e f = omega (arith, e, f)

-- Whether a task waits directly at an index, and whether one does.
pub waits_there : ℕ → ℕ → TaskSlot → Bool
waits_there at index slot = runs_at at slot && waits_directly_at index slot.task.phase

pub awaited_as : (tasks : List TaskSlot) (at index : ℕ) → awaited_at tasks at index ≡ list_any (waits_there at index) tasks
unfolding waits_there
awaited_as tasks at index = refl

pub waits_same : (at index : ℕ) (x y : TaskSlot) → runs_at at y ≡ runs_at at x → waits_directly_at index y.task.phase ≡ waits_directly_at index x.task.phase
    → waits_there at index y ≡ waits_there at index x
unfolding waits_there
waits_same at index x y there waits = ap (λ (b : Bool). b && waits_directly_at index y.task.phase) there ∙ ap (λ (b : Bool). runs_at at x && b) waits

no_both : (b c : Bool) → c ≡ false → (b && c) ≡ false
no_both true c e = e
no_both false c e = refl

pub waits_not : (at index : ℕ) (x : TaskSlot) → waits_directly_at index x.task.phase ≡ false → waits_there at index x ≡ false
unfolding waits_there
waits_not at index x none = no_both (runs_at at x) (waits_directly_at index x.task.phase) none

pub waits_now : (at index : ℕ) (x : TaskSlot) → runs_at at x ≡ true → waits_directly_at index x.task.phase ≡ true → waits_there at index x ≡ true
unfolding waits_there
waits_now at index x there waits = ap (λ (b : Bool). b && waits_directly_at index x.task.phase) there ∙ waits

pub waits_elsewhere : (at index : ℕ) (x : TaskSlot) → runs_at at x ≡ false → waits_there at index x ≡ false
unfolding waits_there
waits_elsewhere at index x none = ap (λ (b : Bool). b && waits_directly_at index x.task.phase) none

pub awaited_same : (tasks : List TaskSlot) (t : ℕ) (x y : TaskSlot) (at index : ℕ) → slice_get tasks t ≡ Some x → waits_there at index y ≡ waits_there at index x
    → awaited_at (slice_set tasks t y) at index ≡ awaited_at tasks at index
awaited_same tasks t x y at index is same =
    awaited_as (slice_set tasks t y) at index ∙ any_same (waits_there at index) tasks t x y is same ∙ sym (awaited_as tasks at index)

-- A task is another one that runs where it ran and waits where it waited; for its call is lent what was, and it is waited for as it was.
pub record TaskAlike (x y : TaskSlot) : Type 0 where
  pub at : (n : ℕ) → runs_at n y ≡ runs_at n x
  pub lends : (p : ℕ → Bool) (index : ℕ) → lends_by p index (called_of y.caller) ≡ lends_by p index (called_of x.caller)
  pub awaited : (called : Called) → y.caller ≡ Guest called → (prior : Called) × (x.caller ≡ Guest prior) × (called.is_awaited ≡ prior.is_awaited)
  pub borrows : y.task.borrows ≡ x.task.borrows
  pub waits : (index : ℕ) → waits_directly_at index y.task.phase ≡ waits_directly_at index x.task.phase

pub lends_alike : (instances : List InstanceView) (tasks : List TaskSlot) (t : ℕ) (x y : TaskSlot) → slice_get tasks t ≡ Some x → ((n : ℕ) → runs_at n y ≡ runs_at n x)
    → ((p : ℕ → Bool) (index : ℕ) → lends_by p index (called_of y.caller) ≡ lends_by p index (called_of x.caller)) → LendsMarked instances tasks
    → LendsMarked instances (slice_set tasks t y)
lends_alike instances tasks t x y is there lent marks at index i z here stood =
    marks at index i z here stood ∙ sym (lends_same tasks t x y at index is (there at) (lent (is_task_at tasks at) index))

pub borrows_alike : (instances : List InstanceView) (tasks : List TaskSlot) (t : ℕ) (x y : TaskSlot) → slice_get tasks t ≡ Some x → y.task.borrows ≡ x.task.borrows
    → BorrowsMarked instances tasks → BorrowsMarked instances (slice_set tasks t y)
borrows_alike instances tasks t x y is same marks n slot found =
    elim (set_either tasks t y n slot found) [
      | inl new ↦ ap (λ (s : TaskSlot). s.task.borrows) new.1 ∙ same ∙ marks t x is ∙ ap (λ (k : ℕ). borrows_in instances k) (sym new.0)
      | inr old ↦ marks n slot old
    ]

-- Of the tasks one is another one, that waits for each subtask in a table as it did.
pub awaited_stands : (instances : List InstanceView) (tasks : List TaskSlot) (t : ℕ) (x y : TaskSlot) → slice_get tasks t ≡ Some x
    → ((called : Called) → y.caller ≡ Guest called → (prior : Called) × (x.caller ≡ Guest prior) × (called.is_awaited ≡ prior.is_awaited))
    → ((at index callee : ℕ) (i : InstanceView) → slice_get instances at ≡ Some i → entry_of i index ≡ Some (entry.Subtask callee) → waits_there at index y ≡ waits_there at index x)
    → AwaitedMarked instances tasks → AwaitedMarked instances (slice_set tasks t y)
awaited_stands instances tasks t x y is by same marks at index callee i slot called here stood found guest =
    elim (set_either tasks t y callee slot found) [
      | inl new ↦
          let prior : (prior : Called) × (x.caller ≡ Guest prior) × (called.is_awaited ≡ prior.is_awaited) = by called (ap (λ (s : TaskSlot). s.caller) (sym new.1) ∙ guest) in
          prior.2 ∙ marks at index t i x prior.0 here (stood ∙ ap (λ (k : ℕ). Some (entry.Subtask k)) new.0) is prior.1
          ∙ sym (awaited_same tasks t x y at index is (same at index callee i here stood))
      | inr old ↦ marks at index callee i slot called here stood old guest ∙ sym (awaited_same tasks t x y at index is (same at index callee i here stood))
    ]

pub awaited_alike : (instances : List InstanceView) (tasks : List TaskSlot) (t : ℕ) (x y : TaskSlot) → slice_get tasks t ≡ Some x
    → ((called : Called) → y.caller ≡ Guest called → (prior : Called) × (x.caller ≡ Guest prior) × (called.is_awaited ≡ prior.is_awaited))
    → ((at index : ℕ) → waits_there at index y ≡ waits_there at index x) → AwaitedMarked instances tasks → AwaitedMarked instances (slice_set tasks t y)
awaited_alike instances tasks t x y is by same marks = awaited_stands instances tasks t x y is by (λ at index callee i here stood. same at index) marks

pub states_alike : (tasks : List TaskSlot) (t : ℕ) (x y : TaskSlot) → slice_get tasks t ≡ Some x → (StateMarked t x → StateMarked t y) → StatesMarked tasks
    → StatesMarked (slice_set tasks t y)
states_alike tasks t x y is keeps marks n slot found =
    elim (set_either tasks t y n slot found) [
      | inl new ↦ subst (λ (k : ℕ). StateMarked k slot) (sym new.0) (subst (λ (s : TaskSlot). StateMarked t s) (sym new.1) (keeps (marks t x is)))
      | inr old ↦ marks n slot old
    ]

pub task_keeps : (h : Held) (t : ℕ) (x y : TaskSlot) → slice_get h.tasks t ≡ Some x → TaskAlike x y → (StateMarked t x → StateMarked t y) → Keeps h (with_task t y h)
task_keeps h t x y is same state marks = record {
  lends = lends_alike h.instances h.tasks t x y is same.at same.lends marks.lends;
  borrows = borrows_alike h.instances h.tasks t x y is same.borrows marks.borrows;
  awaited = awaited_alike h.instances h.tasks t x y is same.awaited (λ at index. waits_same at index x y (same.at at) (same.waits index)) marks.awaited;
  states = states_alike h.tasks t x y is state marks.states;
}

-- An instance is another one.
pub lends_put : (instances : List InstanceView) (later : List TaskSlot) (at : ℕ) (x y : InstanceView) → slice_get instances at ≡ Some x
    → ((index : ℕ) (z : Handle) → entry_of y index ≡ Some (entry.Handle z) → z.lends ≡ lends_at later at index)
    → ((n index : ℕ) (i : InstanceView) (z : Handle) → (n ≡ at → ⊥) → slice_get instances n ≡ Some i → entry_of i index ≡ Some (entry.Handle z) → z.lends ≡ lends_at later n index)
    → LendsMarked (slice_set instances at y) later
lends_put instances later at x y is now others n index i z there stood =
    elim (cases_eq n at) [
      | inl e ↦
          let same : i ≡ y = put_same instances at n x y i is there e in
          now index z (ap (λ (j : InstanceView). entry_of j index) (sym same) ∙ stood) ∙ ap (λ (k : ℕ). lends_at later k index) (sym e)
      | inr e ↦ others n index i z e (put_other instances at n y i there e) stood
    ]

pub awaited_put : (instances : List InstanceView) (later : List TaskSlot) (at : ℕ) (x y : InstanceView) → slice_get instances at ≡ Some x
    → ((index callee : ℕ) (slot : TaskSlot) (called : Called) → entry_of y index ≡ Some (entry.Subtask callee) → slice_get later callee ≡ Some slot → slot.caller ≡ Guest called
    → called.is_awaited ≡ awaited_at later at index)
    → ((n index callee : ℕ) (i : InstanceView) (slot : TaskSlot) (called : Called) → (n ≡ at → ⊥) → slice_get instances n ≡ Some i → entry_of i index ≡ Some (entry.Subtask callee)
    → slice_get later callee ≡ Some slot → slot.caller ≡ Guest called → called.is_awaited ≡ awaited_at later n index)
    → AwaitedMarked (slice_set instances at y) later
awaited_put instances later at x y is now others n index callee i slot called there stood found guest =
    elim (cases_eq n at) [
      | inl e ↦
          let same : i ≡ y = put_same instances at n x y i is there e in
          now index callee slot called (ap (λ (j : InstanceView). entry_of j index) (sym same) ∙ stood) found guest ∙ ap (λ (k : ℕ). awaited_at later k index) (sym e)
      | inr e ↦ others n index callee i slot called e (put_other instances at n y i there e) stood found guest
    ]

-- How many borrow handles name a task in an instance.
unfoldable pub borrows_of : ℕ → InstanceView → ℕ
borrows_of t i = count_by (is_borrow_of t) i.slots.entries

pub borrows_change : (instances : List InstanceView) (at : ℕ) (x y : InstanceView) (t : ℕ) → slice_get instances at ≡ Some x
    → borrows_in (slice_set instances at y) t + borrows_of t x ≡ borrows_in instances t + borrows_of t y
unfolding borrows_of
borrows_change instances at x y t is = sum_set (λ (i : InstanceView). count_by (is_borrow_of t) i.slots.entries) instances at x y is

pub borrows_same : (instances : List InstanceView) (at : ℕ) (x y : InstanceView) (t : ℕ) → slice_get instances at ≡ Some x → borrows_of t y ≡ borrows_of t x
    → borrows_in (slice_set instances at y) t ≡ borrows_in instances t
borrows_same instances at x y t is same = equal (borrows_change instances at x y t is) same
  where
    equal : {a b c d : ℕ} → a + b ≡ c + d → d ≡ b → a ≡ c
    equal e f = omega (arith, e, f)

-- Its handles stood there and were lent as often, its subtasks stood there, and as many borrow handles name each task.
pub record TableAlike (x y : InstanceView) : Type 0 where
  pub handles : (index : ℕ) (z : Handle) → entry_of y index ≡ Some (entry.Handle z) → (prior : Handle) × (entry_of x index ≡ Some (entry.Handle prior)) × (z.lends ≡ prior.lends)
  pub subtasks : (index callee : ℕ) → entry_of y index ≡ Some (entry.Subtask callee) → entry_of x index ≡ Some (entry.Subtask callee)
  pub borrows : (t : ℕ) → borrows_of t y ≡ borrows_of t x

pub lends_table : (instances : List InstanceView) (tasks : List TaskSlot) (at : ℕ) (x y : InstanceView) → slice_get instances at ≡ Some x
    → ((index : ℕ) (z : Handle) → entry_of y index ≡ Some (entry.Handle z) → (prior : Handle) × (entry_of x index ≡ Some (entry.Handle prior)) × (z.lends ≡ prior.lends))
    → LendsMarked instances tasks → LendsMarked (slice_set instances at y) tasks
lends_table instances tasks at x y is same marks =
    lends_put instances tasks at x y is
    (λ index z stood.
    let p : (prior : Handle) × (entry_of x index ≡ Some (entry.Handle prior)) × (z.lends ≡ prior.lends) = same index z stood in
    p.2 ∙ marks at index x p.0 is p.1)
    (λ n index i z other there stood. marks n index i z there stood)

pub awaited_table : (instances : List InstanceView) (tasks : List TaskSlot) (at : ℕ) (x y : InstanceView) → slice_get instances at ≡ Some x
    → ((index callee : ℕ) → entry_of y index ≡ Some (entry.Subtask callee) → entry_of x index ≡ Some (entry.Subtask callee)) → AwaitedMarked instances tasks
    → AwaitedMarked (slice_set instances at y) tasks
awaited_table instances tasks at x y is same marks =
    awaited_put instances tasks at x y is (λ index callee slot called stood found guest. marks at index callee x slot called is (same index callee stood) found guest)
    (λ n index callee i slot called other there stood found guest. marks n index callee i slot called there stood found guest)

pub borrows_table : (instances : List InstanceView) (tasks : List TaskSlot) (at : ℕ) (x y : InstanceView) → slice_get instances at ≡ Some x → ((t : ℕ) → borrows_of t y ≡ borrows_of t x)
    → BorrowsMarked instances tasks → BorrowsMarked (slice_set instances at y) tasks
borrows_table instances tasks at x y is same marks t slot found = marks t slot found ∙ sym (borrows_same instances at x y t is (same t))

pub instance_keeps : (h : Held) (at : ℕ) (x y : InstanceView) → slice_get h.instances at ≡ Some x → TableAlike x y → Keeps h (with_instance at y h)
instance_keeps h at x y is same marks = record {
  lends = lends_table h.instances h.tasks at x y is same.handles marks.lends;
  borrows = borrows_table h.instances h.tasks at x y is same.borrows marks.borrows;
  awaited = awaited_table h.instances h.tasks at x y is same.subtasks marks.awaited;
  states = marks.states;
}

-- The same table stands there.
borrows_in_slots : (t : ℕ) (x y : InstanceView) → y.slots ≡ x.slots → borrows_of t y ≡ borrows_of t x
unfolding borrows_of
borrows_in_slots t x y same = ap (λ (s : Slots WorldEntry). count_by (is_borrow_of t) s.entries) same

pub same_table : (x y : InstanceView) → y.slots ≡ x.slots → TableAlike x y
same_table x y same = record {
  handles = λ index z stood. (z, ap (λ (s : Slots WorldEntry). entry_at s index) (sym same) ∙ stood, refl);
  subtasks = λ index callee stood. ap (λ (s : Slots WorldEntry). entry_at s index) (sym same) ∙ stood;
  borrows = λ t. borrows_in_slots t x y same;
}

pub same_keeps : (h : Held) (at : ℕ) (x y : InstanceView) → slice_get h.instances at ≡ Some x → y.slots ≡ x.slots → Keeps h (with_instance at y h)
same_keeps h at x y is same = instance_keeps h at x y is (same_table x y same)
