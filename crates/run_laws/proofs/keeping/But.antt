-- All marks, but that so many borrow handles of a task are counted still; and that tables are sound, how often what stands at an index is lent, which nothing but a
-- handle is, and, where this is asked, that ends are marked. It stays where a task is another one, and where an instance is.
use Rattle.std.proofs.Common.{◌≡◌, inl, inr, ℕ, ◌+◌, nat_eq, Bool, true, false, if◌then◌else◌, List, slice_set, refl, sym, ap, ◌∙◌, subst, arith, Option, Some, None}
use Rattle.std.specs.List.{slice_get}
use Rattle.std.proofs.lemmas.Bool.{cases_eq}
use Rattle.handle_table.specs.Sound.{IsSound}
use Rattle.res_handles.specs.declared.handle.Handle.{Handle}
use Rattle.channels.specs.declared.channel.Channel.{Channel}
use Rattle.instances.specs.declared.entry.WorldEntry.{WorldEntry}
use Rattle.instances.specs.declared.entry.WorldEntry.TheVariants as entry
use Rattle.instances.specs.Instances.{InstanceView, entry_of}
use Rattle.task_table.specs.declared.slot.TaskSlot.{TaskSlot}
use Rattle.world_parts.specs.Held.{Held, Done, Gives, Traps, Spent, Stuck, after, given}
use Rattle.world_parts.specs.Entries.{with_instance}
use Rattle.world_parts.specs.Slots.{with_task}
use Rattle.standing.specs.Channels.{EndsMarked, HasMarkedEnds}
use Rattle.standing.specs.KeptMarks.{GatesMarked, WaitersMarked, LendsMarked, AwaitedMarked, HasMarks, borrows_in, is_task_at, lends_at}
use Rattle.standing.specs.Marks.{StateMarked, StatesMarked}
use Rattle.standing.specs.MarksKept.{WaitsStay}
use Rattle.standing.proofs.marks.Tables.{put_same, put_other, WaitedSame, instance_stays}
use Rattle.standing.proofs.marks.Tasks.{SeenSame, task_stays}
use Rattle.run_laws.specs.keeping.Tables.{TablesWell}
use Rattle.run_laws.proofs.keeping.Sums.{set_either}
use Rattle.run_laws.proofs.keeping.Changes.{TaskAlike, lends_same, waits_same, awaited_alike, states_alike, borrows_of, borrows_change, awaited_table}

-- How often what stands at an index is lent.
abbrev pub lent_there : Option WorldEntry → ℕ
lent_there None = 0
lent_there (Some (entry.Handle x)) = x.lends
lent_there (Some (entry.Subtask callee)) = 0
lent_there (Some (entry.Set set)) = 0
lent_there (Some (entry.End e)) = 0

abbrev pub LentExactly : List InstanceView → List TaskSlot → Type 0
LentExactly instances tasks = (at index : ℕ) (i : InstanceView) → slice_get instances at ≡ Some i → lent_there (entry_of i index) ≡ lends_at tasks at index

-- How many borrow handles of a task are counted still: so many of one, and none of any other.
abbrev pub owed : ℕ → ℕ → ℕ → ℕ
owed t n m = if nat_eq t m then n else 0

abbrev pub BorrowsBut : ℕ → ℕ → List InstanceView → List TaskSlot → Type 0
BorrowsBut t n instances tasks = (m : ℕ) (slot : TaskSlot) → slice_get tasks m ≡ Some slot → slot.task.borrows + owed t n m ≡ borrows_in instances m

abbrev pub AreSound : List InstanceView → Type 0
AreSound instances = (at : ℕ) (i : InstanceView) → slice_get instances at ≡ Some i → IsSound i.slots

pub record MarkedBut (C : Type 0) (streams futures : List Channel) (t n : ℕ) (instances : List InstanceView) (tasks : List TaskSlot) : Type 0 where
  pub gates : GatesMarked instances tasks
  pub waiters : WaitersMarked instances tasks
  pub lent : LentExactly instances tasks
  pub borrows : BorrowsBut t n instances tasks
  pub awaited : AwaitedMarked instances tasks
  pub states : StatesMarked tasks
  pub sound : AreSound instances
  pub ends : C → EndsMarked instances streams futures

abbrev pub HasBut : Type 0 → ℕ → ℕ → Held → Type 0
HasBut C t n h = MarkedBut C h.streams h.futures t n h.instances h.tasks

-- So it is of what a part gives.
abbrev pub GivesSo : {A : Type 0} → (Held → Type 0) → Done A → Type 0
GivesSo Q (Gives x k) = Q k
GivesSo Q (Traps why k) = Unit {0}
GivesSo Q (Spent k) = Unit {0}
GivesSo Q Stuck = Unit {0}

-- Where it traps handles are lent as marked, and ends, where this is asked for, are marked.
abbrev pub RightAt : Type 0 → Held → Type 0
RightAt C k = LendsMarked k.instances k.tasks × (C → EndsMarked k.instances k.streams k.futures)

abbrev pub LeavesSo : {A : Type 0} → Type 0 → (Held → Type 0) → Done A → Type 0
LeavesSo C Q (Gives x k) = Q k
LeavesSo C Q (Traps why k) = RightAt C k
LeavesSo C Q (Spent k) = Unit {0}
LeavesSo C Q Stuck = Unit {0}

abbrev pub GivesBut : {A : Type 0} → Type 0 → ℕ → ℕ → Done A → Type 0
GivesBut C t n d = LeavesSo C (λ (k : Held). HasBut C t n k) d

-- The same behind a trap too.
abbrev pub HoldsSo : {A : Type 0} → (Held → Type 0) → Done A → Type 0
HoldsSo Q (Gives x k) = Q k
HoldsSo Q (Traps why k) = Q k
HoldsSo Q (Spent k) = Unit {0}
HoldsSo Q Stuck = Unit {0}

module _ (Q : Held → Type 0) where
  pub holds_after : {A B : Type 0} (d : Done A) (f : A → Held → Done B) → HoldsSo Q d → ((x : A) (k : Held) → Q k → HoldsSo Q (f x k)) → HoldsSo Q (after d f)
  holds_after (Gives x k) f p q = q x k p
  holds_after (Traps why k) f p q = p
  holds_after (Spent k) f p q = tt
  holds_after Stuck f p q = tt

  pub as_holds : {A : Type 0} (d e : Done A) → d ≡ e → HoldsSo Q e → HoldsSo Q d
  as_holds {A} d e is p = subst (λ (x : Done A). HoldsSo Q x) (sym is) p

  pub holds_given : {A B : Type 0} (o : Option A) (f : A → Done B) → ((x : A) → o ≡ Some x → HoldsSo Q (f x)) → HoldsSo Q (given o f)
  holds_given None f p = tt
  holds_given (Some x) f p = p x refl

  pub holds_if : {A : Type 0} (b : Bool) (d e : Done A) → HoldsSo Q d → HoldsSo Q e → HoldsSo Q (if b then d else e)
  holds_if true d e p q = p
  holds_if false d e p q = q

-- Behind parts, what follows a look, and both ways of a test.
module _ (Q : Held → Type 0) where
  pub so_after : {A B : Type 0} (d : Done A) (f : A → Held → Done B) → GivesSo Q d → ((x : A) (k : Held) → Q k → GivesSo Q (f x k)) → GivesSo Q (after d f)
  so_after (Gives x k) f p q = q x k p
  so_after (Traps why k) f p q = tt
  so_after (Spent k) f p q = tt
  so_after Stuck f p q = tt

  pub so_given : {A B : Type 0} (o : Option A) (f : A → Done B) → ((x : A) → o ≡ Some x → GivesSo Q (f x)) → GivesSo Q (given o f)
  so_given None f p = tt
  so_given (Some x) f p = p x refl

  pub so_if : {A : Type 0} (b : Bool) (d e : Done A) → GivesSo Q d → GivesSo Q e → GivesSo Q (if b then d else e)
  so_if true d e p q = p
  so_if false d e p q = q

  -- Behind what a part leaves, whatever that is.
  pub so_behind : {A B : Type 0} (d : Done A) (f : A → Held → Done B) → ((x : A) (k : Held) → d ≡ Gives x k → GivesSo Q (f x k)) → GivesSo Q (after d f)
  so_behind (Gives x k) f q = q x k refl
  so_behind (Traps why k) f q = tt
  so_behind (Spent k) f q = tt
  so_behind Stuck f q = tt

module _ (C : Type 0) (Q : Held → Type 0) where
  pub leaves_after : {A B : Type 0} (d : Done A) (f : A → Held → Done B) → LeavesSo C Q d → ((x : A) (k : Held) → Q k → LeavesSo C Q (f x k)) → LeavesSo C Q (after d f)
  leaves_after (Gives x k) f p q = q x k p
  leaves_after (Traps why k) f p q = p
  leaves_after (Spent k) f p q = tt
  leaves_after Stuck f p q = tt

  pub leaves_given : {A B : Type 0} (o : Option A) (f : A → Done B) → ((x : A) → o ≡ Some x → LeavesSo C Q (f x)) → LeavesSo C Q (given o f)
  leaves_given None f p = tt
  leaves_given (Some x) f p = p x refl

  pub leaves_if : {A : Type 0} (b : Bool) (d e : Done A) → LeavesSo C Q d → LeavesSo C Q e → LeavesSo C Q (if b then d else e)
  leaves_if true d e p q = p
  leaves_if false d e p q = q

  -- Behind a part that leaves something else so.
  pub leaves_over : {A B : Type 0} (P : Held → Type 0) (d : Done A) (f : A → Held → Done B) → LeavesSo C P d → ((x : A) (k : Held) → P k → LeavesSo C Q (f x k)) → LeavesSo C Q (after d f)
  leaves_over P (Gives x k) f p q = q x k p
  leaves_over P (Traps why k) f p q = p
  leaves_over P (Spent k) f p q = tt
  leaves_over P Stuck f p q = tt

  pub leaves_both : {A : Type 0} (P : Held → Type 0) (d : Done A) → LeavesSo C Q d → GivesSo P d → LeavesSo C (λ (k : Held). Q k × P k) d
  leaves_both P (Gives x k) p q = (p, q)
  leaves_both P (Traps why k) p q = p
  leaves_both P (Spent k) p q = tt
  leaves_both P Stuck p q = tt

-- What is owed.
owed_if : (b : Bool) → ◌≡◌ {A = ℕ} (if b then 0 else 0) 0
owed_if true = refl
owed_if false = refl

pub owed_none : (t m : ℕ) → owed t 0 m ≡ 0
owed_none t m = owed_if (nat_eq t m)

both_owed : (b : Bool) (n more : ℕ) → ◌≡◌ {A = ℕ} (if b then n + more else 0) ((if b then n else 0) + (if b then more else 0))
both_owed true n more = refl
both_owed false n more = (let none : 0 ≡ 0 + 0 = omega arith in none)

pub owed_more : (t n more m : ℕ) → owed t (n + more) m ≡ owed t n m + owed t more m
owed_more t n more m = both_owed (nat_eq t m) n more

-- It is so where all marks are, and what is asked of tables; and where nothing is owed all marks are.
lent_by : (tasks : List TaskSlot) (at index : ℕ) (o : Option WorldEntry) → ((x : Handle) → o ≡ Some (entry.Handle x) → x.lends ≡ lends_at tasks at index)
    → (((x : Handle) → o ≡ Some (entry.Handle x) → ⊥) → lends_at tasks at index ≡ 0) → lent_there o ≡ lends_at tasks at index
lent_by tasks at index None one none = sym (none (λ x e. cc))
lent_by tasks at index (Some (entry.Handle x)) one none = one x refl
lent_by tasks at index (Some (entry.Subtask callee)) one none = sym (none (λ x e. cc))
lent_by tasks at index (Some (entry.Set set)) one none = sym (none (λ x e. cc))
lent_by tasks at index (Some (entry.End d)) one none = sym (none (λ x e. cc))

pub but_of : (C : Type 0) (t : ℕ) (h : Held) → HasMarks h → TablesWell h → (C → HasMarkedEnds h) → HasBut C t 0 h
but_of C t h marks tables ends = record {
  gates = marks.gates;
  waiters = marks.waiters;
  lent = λ at index i here. lent_by h.tasks at index (entry_of i index) (λ x stood. marks.lends at index i x here stood) (λ none. tables.lent at index i here none);
  borrows = λ m slot found.
      ap (λ (n : ℕ). slot.task.borrows + n) (owed_none t m) ∙ (let same : slot.task.borrows + 0 ≡ slot.task.borrows = omega arith in same) ∙ marks.borrows m slot found;
  awaited = marks.awaited;
  states = marks.states;
  sound = λ at i here. tables.sound at i here;
  ends = ends;
}

pub lends_of_but : (instances : List InstanceView) (tasks : List TaskSlot) → LentExactly instances tasks → LendsMarked instances tasks
lends_of_but instances tasks exact at index i x here stood = ap lent_there (sym stood) ∙ exact at index i here

-- So where nothing is asked of what is owed.
pub right_at : (C : Type 0) (t n : ℕ) (k : Held) → HasBut C t n k → RightAt C k
right_at C t n k but = (lends_of_but k.instances k.tasks but.lent, but.ends)

pub marks_of : (C : Type 0) (t : ℕ) (h : Held) → HasBut C t 0 h → HasMarks h
marks_of C t h but = record {
  gates = but.gates;
  waiters = but.waiters;
  lends = lends_of_but h.instances h.tasks but.lent;
  borrows = λ m slot found.
      (let same : slot.task.borrows ≡ slot.task.borrows + 0 = omega arith in same) ∙ ap (λ (n : ℕ). slot.task.borrows + n) (sym (owed_none t m)) ∙ but.borrows m slot found;
  awaited = but.awaited;
  states = but.states;
}

none_lent : (o : Option WorldEntry) → ((x : Handle) → o ≡ Some (entry.Handle x) → ⊥) → lent_there o ≡ 0
none_lent None none = refl
none_lent (Some (entry.Handle x)) none = absurd (none x refl)
none_lent (Some (entry.Subtask callee)) none = refl
none_lent (Some (entry.Set set)) none = refl
none_lent (Some (entry.End e)) none = refl

pub tables_of : (C : Type 0) (t n : ℕ) (h : Held) → HasBut C t n h → TablesWell h
tables_of C t n h but = record {
  sound = λ at i here. but.sound at i here;
  lent = λ at index i here none. sym (but.lent at index i here) ∙ none_lent (entry_of i index) none;
}

-- An instance is another one: what stands in its table is lent as often, its subtasks stood there, its table is sound, and its gate and sets are waited at as
-- they were.
pub record TableSame (x y : InstanceView) : Type 0 where
  pub lent : (index : ℕ) → lent_there (entry_of y index) ≡ lent_there (entry_of x index)
  pub subtasks : (index callee : ℕ) → entry_of y index ≡ Some (entry.Subtask callee) → entry_of x index ≡ Some (entry.Subtask callee)
  pub sound : IsSound y.slots
  pub waited : WaitedSame x y

lent_put : (instances : List InstanceView) (tasks : List TaskSlot) (at : ℕ) (x y : InstanceView) → slice_get instances at ≡ Some x
    → ((index : ℕ) → lent_there (entry_of y index) ≡ lent_there (entry_of x index)) → LentExactly instances tasks → LentExactly (slice_set instances at y) tasks
lent_put instances tasks at x y is same exact k index i here =
    elim (cases_eq k at) [
      | inl e ↦
          ap (λ (j : InstanceView). lent_there (entry_of j index)) (put_same instances at k x y i is here e) ∙ same index ∙ exact at index x is
          ∙ ap (λ (j : ℕ). lends_at tasks j index) (sym e)
      | inr other ↦ exact k index i (put_other instances at k y i here other)
    ]

pub sound_put : (instances : List InstanceView) (at : ℕ) (x y : InstanceView) → slice_get instances at ≡ Some x → IsSound y.slots → AreSound instances → AreSound (slice_set instances at y)
sound_put instances at x y is now sound k i here =
    elim (cases_eq k at) [
      | inl e ↦ subst (λ (j : InstanceView). IsSound j.slots) (sym (put_same instances at k x y i is here e)) now
      | inr other ↦ sound k i (put_other instances at k y i here other)
    ]

module _ (C : Type 0) (t n : ℕ) where
  -- A task is another one that no mark tells apart.
  pub task_but : (h : Held) (m : ℕ) (x y : TaskSlot) → slice_get h.tasks m ≡ Some x → TaskAlike x y → SeenSame x y → (StateMarked m x → StateMarked m y) → HasBut C t n h
      → HasBut C t n (with_task m y h)
  task_but h m x y is same seen state but =
      let waits : WaitsStay h (with_task m y h) = task_stays h m x y is seen in
      record {
        gates = waits.gates but.gates;
        waiters = waits.waiters but.waiters;
        lent = λ at index i here. but.lent at index i here ∙ sym (lends_same h.tasks m x y at index is (same.at at) (same.lends (is_task_at h.tasks at) index));
        borrows = λ k slot found. elim (set_either h.tasks m y k slot found) [
          | inl new ↦
              ap (λ (s : TaskSlot). s.task.borrows + owed t n k) new.1 ∙ ap (λ (b : ℕ). b + owed t n k) same.borrows ∙ ap (λ (j : ℕ). x.task.borrows + owed t n j) new.0
              ∙ but.borrows m x is ∙ ap (λ (j : ℕ). borrows_in h.instances j) (sym new.0)
          | inr old ↦ but.borrows k slot old
        ];
        awaited = awaited_alike h.instances h.tasks m x y is same.awaited (λ at index. waits_same at index x y (same.at at) (same.waits index)) but.awaited;
        states = states_alike h.tasks m x y is state but.states;
        sound = but.sound;
        ends = but.ends;
      }

  -- More borrow handles of the task are counted still.
  pub instance_more : (more : ℕ) (h : Held) (at : ℕ) (x y : InstanceView) → slice_get h.instances at ≡ Some x → TableSame x y
      → ((m : ℕ) → borrows_of m y ≡ borrows_of m x + owed t more m) → (C → EndsMarked h.instances h.streams h.futures → EndsMarked (slice_set h.instances at y) h.streams h.futures)
      → HasBut C t n h → HasBut C t (n + more) (with_instance at y h)
  instance_more more h at x y is same borrows ends but =
      let waits : WaitsStay h (with_instance at y h) = instance_stays h at x y is same.waited in
      record {
        gates = waits.gates but.gates;
        waiters = waits.waiters but.waiters;
        lent = lent_put h.instances h.tasks at x y is same.lent but.lent;
        borrows = λ m slot found.
            counted slot.task.borrows (owed t n m) (borrows_in h.instances m) (borrows_in (slice_set h.instances at y) m) (borrows_of m x) (borrows_of m y) (owed t more m) (owed t (n + more) m)
            (but.borrows m slot found) (borrows_change h.instances at x y m is) (borrows m) (owed_more t n more m);
        awaited = awaited_table h.instances h.tasks at x y is same.subtasks but.awaited;
        states = but.states;
        sound = sound_put h.instances at x y is same.sound but.sound;
        ends = λ c. ends c (but.ends c);
      }
    where
      counted : (b on before now was is om onm : ℕ) → b + on ≡ before → now + was ≡ before + is → is ≡ was + om → onm ≡ on + om → b + onm ≡ now
      counted b on before now was is om onm e f g k = omega (arith, e, f, g, k)

  -- As many are.
  pub instance_but : (h : Held) (at : ℕ) (x y : InstanceView) → slice_get h.instances at ≡ Some x → TableSame x y → ((m : ℕ) → borrows_of m y ≡ borrows_of m x)
      → (C → EndsMarked h.instances h.streams h.futures → EndsMarked (slice_set h.instances at y) h.streams h.futures) → HasBut C t n h → HasBut C t n (with_instance at y h)
  instance_but h at x y is same borrows ends but =
      subst (λ (k : ℕ). HasBut C t k (with_instance at y h)) (let none : n + 0 ≡ n = omega arith in none)
      (instance_more 0 h at x y is same (λ m. as_many (borrows m) (owed_none t m)) ends but)
    where
      as_many : {a b o : ℕ} → a ≡ b → o ≡ 0 → a ≡ b + o
      as_many e f = omega (arith, e, f)

  -- Neither tasks nor instances change, nor streams and futures.
  pub but_as : (h k : Held) → k.tasks ≡ h.tasks → k.instances ≡ h.instances → k.streams ≡ h.streams → k.futures ≡ h.futures → HasBut C t n h → HasBut C t n k
  but_as h k tasks instances streams futures but =
      subst (λ (all : List TaskSlot). MarkedBut C k.streams k.futures t n k.instances all) (sym tasks)
      (subst (λ (all : List InstanceView). MarkedBut C k.streams k.futures t n all h.tasks) (sym instances)
      (subst (λ (all : List Channel). MarkedBut C all k.futures t n h.instances h.tasks) (sym streams)
      (subst (λ (all : List Channel). MarkedBut C h.streams all t n h.instances h.tasks) (sym futures) but)))
