-- What becomes of these marks where there is a further task, which has begun nothing: each number names a task that is there.
use Rattle.std.proofs.Common.{◌≡◌, inl, inr, ℕ, zero, suc, ◌+◌, Bool, false, List, [], ◌∷◌, ◌++◌, length, refl, sym, ap, ◌∙◌, subst, arith, Option, Some, None, is_some}
use Rattle.std.specs.Prelude.{IsSome}
use Rattle.std.specs.List.{slice_get, count_by, sum_by}
use Rattle.std.proofs.lemmas.Bool.{cases_eq, ne_eqb}
use Rattle.std.proofs.lemmas.List.Sums.{sum_by_push}
use Rattle.res_handles.specs.declared.handle.Handle.{Handle}
use Rattle.res_handles.specs.declared.handle.Ownership.{Ownership}
use Rattle.res_handles.specs.declared.handle.Ownership.TheVariants.{Own, Borrow}
use Rattle.instances.specs.declared.entry.WorldEntry.{WorldEntry}
use Rattle.instances.specs.declared.entry.WorldEntry.TheVariants as entry
use Rattle.instances.specs.Instances.{InstanceView}
use Rattle.task_table.specs.declared.caller.Called.{Called}
use Rattle.task_table.specs.declared.slot.TaskSlot.{TaskSlot}
use Rattle.task_table.specs.Callers.{called_of}
use Rattle.task_table.specs.Slots.{waits_directly_at}
use Rattle.tasks.specs.declared.phase.Phase.TheVariants as phase
use Rattle.world_parts.specs.Held.{Held}
use Rattle.abi_machine.specs.Counting.{passes}
use Rattle.abi_machine.proofs.sound.Lists.{more_either}
use Rattle.standing.specs.KeptMarks.{runs_at, lends_by, is_task_at, lends_at, borrows_by, is_borrow_of, borrows_in, awaited_at}
use Rattle.standing.specs.Marks.{StateMarked}
use Rattle.run_laws.specs.keeping.Kept.{NumbersThere}
use Rattle.run_laws.proofs.keeping.Others.{OthersMarked, Keeps}
use Rattle.run_laws.proofs.keeping.Sums.{sums_equal, sum_none, count_none, any_more, none_last, found_index}
use Rattle.run_laws.proofs.keeping.Changes.{lent_with, lent_as, by_same, waits_there, awaited_as, waits_not}

-- What is found stays where more stands behind.
found_more : {A : Type 0} (xs : List A) (x : A) (n : ℕ) → IsSome (slice_get xs n) → slice_get (xs ++ x ∷ []) n ≡ slice_get xs n
found_more [] x n there = absurd (cc)
found_more (y ∷ xs) x zero there = refl
found_more (y ∷ xs) x (suc n) there = found_more xs x n there

not_last : {A : Type 0} (xs : List A) (B : Type 0) → IsSome (slice_get xs (length xs)) → B
not_last xs B there = absurd (let none : is_some (slice_get xs (length xs)) ≡ false = ap is_some (none_last xs) in cc)

-- A new task called nobody, so that nothing is lent by it; and it lent nothing itself.
pub record Begins (slot : TaskSlot) : Type 0 where
  pub outside : slot.task.phase ≡ phase.New
  pub none : slot.task.borrows ≡ 0
  pub unlent : (p : ℕ → Bool) (index : ℕ) → lends_by p index (called_of slot.caller) ≡ 0

here_more : (tasks : List TaskSlot) (slot : TaskSlot) (at n : ℕ) → IsSome (slice_get tasks n) → is_task_at (tasks ++ slot ∷ []) at n ≡ is_task_at tasks at n
here_more tasks slot at n there = ap (passes (runs_at at)) (found_more tasks slot n there)

lent_more : (p q : ℕ → Bool) (index : ℕ) (tasks : List TaskSlot) (slot : TaskSlot)
    → ((n : ℕ) (x : TaskSlot) (called : Called) → slice_get tasks n ≡ Some x → called_of x.caller ≡ Some called → p called.by ≡ q called.by)
    → lends_by p index (called_of slot.caller) ≡ 0 → lent_with p index (tasks ++ slot ∷ []) ≡ lent_with q index tasks
unfolding lent_with
lent_more p q index tasks slot same none =
    let a : sum_by (λ (x : TaskSlot). lends_by p index (called_of x.caller)) (tasks ++ slot ∷ []) ≡ sum_by (λ (x : TaskSlot). lends_by p index (called_of x.caller)) tasks + lends_by p index (called_of slot.caller)
    = sum_by_push (λ (x : TaskSlot). lends_by p index (called_of x.caller)) tasks slot in
    let b : sum_by (λ (x : TaskSlot). lends_by p index (called_of x.caller)) tasks ≡ sum_by (λ (x : TaskSlot). lends_by q index (called_of x.caller)) tasks
    = sums_equal (λ (x : TaskSlot). lends_by p index (called_of x.caller)) (λ (x : TaskSlot). lends_by q index (called_of x.caller)) tasks
    (λ n x e. by_same p q index (called_of x.caller) (λ called found. same n x called e found)) in
    let c : sum_by (λ (x : TaskSlot). lends_by p index (called_of x.caller)) tasks + lends_by p index (called_of slot.caller) ≡ sum_by (λ (x : TaskSlot). lends_by p index (called_of x.caller)) tasks
    = plus_none none in
    a ∙ c ∙ b
  where
    plus_none : {a b : ℕ} → b ≡ 0 → a + b ≡ a
    plus_none e = omega (arith, e)

lends_more : (h : Held) (slot : TaskSlot) (at index : ℕ) → NumbersThere h → Begins slot → lends_at (h.tasks ++ slot ∷ []) at index ≡ lends_at h.tasks at index
lends_more h slot at index numbers new =
    lent_as (h.tasks ++ slot ∷ []) at index
    ∙ lent_more (is_task_at (h.tasks ++ slot ∷ []) at) (is_task_at h.tasks at) index h.tasks slot (λ n x called e found. here_more h.tasks slot at called.by (numbers.callers n x called e found))
    (new.unlent (is_task_at (h.tasks ++ slot ∷ []) at) index)
    ∙ sym (lent_as h.tasks at index)

awaited_more : (h : Held) (slot : TaskSlot) (at index : ℕ) → Begins slot → awaited_at (h.tasks ++ slot ∷ []) at index ≡ awaited_at h.tasks at index
awaited_more h slot at index new =
    awaited_as (h.tasks ++ slot ∷ []) at index ∙ any_more (waits_there at index) h.tasks slot (waits_not at index slot (ap (waits_directly_at index) new.outside))
    ∙ sym (awaited_as h.tasks at index)

-- No borrow handle names a task that is not there.
names_not : (t : ℕ) (o : Option WorldEntry) → ((x : Handle) → o ≡ Some (entry.Handle x) → x.ownership ≡ Borrow t → ⊥) → is_borrow_of t o ≡ false
names_not t None none = refl
names_not t (Some (entry.Handle x)) none = owned t x x.ownership refl (λ e. none x refl e)
  where
    owned : (t : ℕ) (x : Handle) (o : Ownership) → x.ownership ≡ o → (x.ownership ≡ Borrow t → ⊥) → borrows_by t o ≡ false
    owned t x Own e none = refl
    owned t x (Borrow task) e none = elim (cases_eq task t) [
      | inl same ↦ absurd (none (e ∙ ap Borrow same))
      | inr other ↦ ne_eqb task t other
    ]
names_not t (Some (entry.Subtask callee)) none = refl
names_not t (Some (entry.Set set)) none = refl
names_not t (Some (entry.End e)) none = refl

none_named : (h : Held) → NumbersThere h → borrows_in h.instances (length h.tasks) ≡ 0
none_named h numbers =
    sum_none (λ (i : InstanceView). count_by (is_borrow_of (length h.tasks)) i.slots.entries) h.instances
    (λ at i here. count_none (is_borrow_of (length h.tasks)) i.slots.entries
    (λ place o found. names_not (length h.tasks) o
    (λ x is by. not_last h.tasks ⊥ (numbers.borrowers at (suc place) (length h.tasks) i x here (found_index i.slots.entries place o found ∙ is) by))))

pub tasks_keep_more : (h k : Held) (slot : TaskSlot) → k.tasks ≡ h.tasks ++ slot ∷ [] → k.instances ≡ h.instances → NumbersThere h → Begins slot
    → StateMarked (length h.tasks) slot → Keeps h k
tasks_keep_more h k slot same insts numbers new state marks =
    subst (λ (tasks : List TaskSlot). OthersMarked k.instances tasks) (sym same)
    (subst (λ (is : List InstanceView). OthersMarked is (h.tasks ++ slot ∷ [])) (sym insts)
    (record {
      lends = λ at index i z here stood. marks.lends at index i z here stood ∙ sym (lends_more h slot at index numbers new);
      borrows = λ t x found. elim (more_either h.tasks slot t x found) [
        | inl old ↦ marks.borrows t x old
        | inr last ↦ ap (λ (s : TaskSlot). s.task.borrows) last.1 ∙ new.none ∙ sym (none_named h numbers) ∙ ap (λ (n : ℕ). borrows_in h.instances n) (sym last.0)
      ];
      awaited = λ at index callee i x called here stood found guest. elim (more_either h.tasks slot callee x found) [
        | inl old ↦ marks.awaited at index callee i x called here stood old guest ∙ sym (awaited_more h slot at index new)
        | inr last ↦ not_last h.tasks (called.is_awaited ≡ awaited_at (h.tasks ++ slot ∷ []) at index)
            (subst (λ (n : ℕ). IsSome (slice_get h.tasks n)) last.0 (numbers.subtasks at index callee i here stood))
      ];
      states = λ t x found. elim (more_either h.tasks slot t x found) [
        | inl old ↦ marks.states t x old
        | inr last ↦ subst (λ (n : ℕ). StateMarked n x) (sym last.0) (subst (λ (s : TaskSlot). StateMarked (length h.tasks) s) (sym last.1) state)
      ];
    }))
