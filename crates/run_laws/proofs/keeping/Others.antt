-- Marks beside those of gates and of sets: how often handles are lent, how many borrow handles tasks have, who waits directly for a subtask, and the states
-- of subtasks. They stay where neither a task nor an instance changes, behind parts, and both ways of a test.
use Rattle.std.proofs.Common.{◌≡◌, Bool, true, false, if◌then◌else◌, List, refl, sym, subst, Option, Some, None}
use Rattle.std.specs.Prelude.{ℕ, Result, Ok, Err}
use Rattle.std.specs.List.{slice_get}
use Rattle.res_handles.specs.declared.refusal.Refusal.{Refusal}
use Rattle.instances.specs.Instances.{InstanceView}
use Rattle.task_table.specs.declared.slot.TaskSlot.{TaskSlot}
use Rattle.task_table.specs.Slots as slots
use Rattle.tasks.specs.declared.event.TaskTrap.{TaskTrap}
use Rattle.trace_labels.specs.declared.trap.TrapName.{TrapName}
use Rattle.world_parts.specs.Held.{Held, Done, Gives, Traps, Spent, Stuck, after, given}
use Rattle.world_parts.specs.Entries.{with_instance, named}
use Rattle.world_parts.specs.Slots.{with_task}
use Rattle.standing.specs.KeptMarks.{LendsMarked, BorrowsMarked, AwaitedMarked}
use Rattle.standing.specs.Marks.{StatesMarked}
use Rattle.standing.proofs.Lists.{set_same}

pub record OthersMarked (instances : List InstanceView) (tasks : List TaskSlot) : Type 0 where
  pub lends : LendsMarked instances tasks
  pub borrows : BorrowsMarked instances tasks
  pub awaited : AwaitedMarked instances tasks
  pub states : StatesMarked tasks

abbrev pub Keeps : Held → Held → Type 0
Keeps h k = OthersMarked h.instances h.tasks → OthersMarked k.instances k.tasks

-- Where a part traps those of handles that are lent are right, if all were.
abbrev pub TrapsLent : Held → Held → Type 0
TrapsLent h k = OthersMarked h.instances h.tasks → LendsMarked k.instances k.tasks

abbrev pub KeptBy : {A : Type 0} → Held → Done A → Type 0
KeptBy h (Gives x k) = Keeps h k
KeptBy h (Traps why k) = TrapsLent h k
KeptBy h (Spent k) = Unit {0}
KeptBy h Stuck = Unit {0}

-- Neither the tasks nor the instances change.
pub keeps_all : (h k : Held) → k.tasks ≡ h.tasks → k.instances ≡ h.instances → Keeps h k
keeps_all h k same insts marks = subst (λ (tasks : List TaskSlot). OthersMarked k.instances tasks) (sym same) (subst (λ (is : List InstanceView). OthersMarked is h.tasks) (sym insts) marks)

pub traps_same : (h : Held) → TrapsLent h h
traps_same h marks = marks.lends

-- An instance, or a task, is put where it is.
pub traps_put : (h : Held) (at : ℕ) (i : InstanceView) → slice_get h.instances at ≡ Some i → TrapsLent h (with_instance at i h)
traps_put h at i is marks = subst (λ (all : List InstanceView). LendsMarked all h.tasks) (sym (set_same h.instances at i is)) marks.lends

abbrev pub TaskTraps : Held → Held → ℕ → TaskSlot → Option TaskTrap → Type 0
TaskTraps h l t x o = (why : TaskTrap) → o ≡ Some why → TrapsLent h (with_task t (slots.with_task x.task x) l)

pub never_traps : (h l : Held) (t : ℕ) (x : TaskSlot) → TaskTraps h l t x None
never_traps h l t x why e marks = absurd (cc)

pub traps_there : (h : Held) (t : ℕ) (x : TaskSlot) (o : Option TaskTrap) → slice_get h.tasks t ≡ Some x → TaskTraps h h t x o
traps_there h t x o is why e marks = subst (λ (all : List TaskSlot). LendsMarked h.instances all) (sym (set_same h.tasks t x is)) marks.lends

pub keeps_same : (h : Held) → Keeps h h
keeps_same h marks = marks

pub keeps_further : (h k l : Held) → Keeps h k → Keeps k l → Keeps h l
keeps_further h k l p q marks = q (p marks)

pub keeps_through : {A : Type 0} (h k : Held) (d : Done A) → Keeps h k → KeptBy k d → KeptBy h d
keeps_through h k (Gives x l) p q = keeps_further h k l p q
keeps_through h k (Traps why l) p q = λ marks. q (p marks)
keeps_through h k (Spent l) p q = tt
keeps_through h k Stuck p q = tt

pub keeps_after : {A B : Type 0} (h : Held) (d : Done A) (f : A → Held → Done B) → KeptBy h d → ((x : A) (k : Held) → KeptBy k (f x k)) → KeptBy h (after d f)
keeps_after h (Gives x k) f p q = keeps_through h k (f x k) p (q x k)
keeps_after h (Traps why k) f p q = p
keeps_after h (Spent k) f p q = tt
keeps_after h Stuck f p q = tt

pub keeps_given : {A B : Type 0} (h : Held) (o : Option A) (f : A → Done B) → ((x : A) → o ≡ Some x → KeptBy h (f x)) → KeptBy h (given o f)
keeps_given h None f p = tt
keeps_given h (Some x) f p = p x refl

pub keeps_if : {A : Type 0} (h : Held) (b : Bool) (d e : Done A) → KeptBy h d → KeptBy h e → KeptBy h (if b then d else e)
keeps_if h true d e p q = p
keeps_if h false d e p q = q

pub keeps_from : {A : Type 0} (h k : Held) (d : Done A) → k.tasks ≡ h.tasks → k.instances ≡ h.instances → KeptBy k d → KeptBy h d
keeps_from h k d same insts p = keeps_through h k d (keeps_all h k same insts) p

-- What follows a look changes nothing of what it looks at.
pub look_keeps : {A B C : Type 0} (h : Held) (o : Option A) (f : A → Done B) (c : B → Held → Done C) → ((x : A) → o ≡ Some x → KeptBy h (after (f x) c)) → KeptBy h (after (given o f) c)
look_keeps h None f c p = tt
look_keeps h (Some x) f c p = p x refl

pub found_keeps : {A B : Type 0} (h : Held) (r : Result A Refusal) (c : A → Held → Done B) → ((x : A) → r ≡ Ok x → KeptBy h (c x h)) → KeptBy h (after (named r h) c)
found_keeps h (Ok x) c p = p x refl
found_keeps h (Err why) c p = λ marks. marks.lends

-- The same behind two parts, and behind a test.
pub look_further : {A B C D : Type 0} (h : Held) (o : Option A) (f : A → Done B) (c : B → Held → Done C) (d : C → Held → Done D)
    → ((x : A) → o ≡ Some x → KeptBy h (after (after (f x) c) d)) → KeptBy h (after (after (given o f) c) d)
look_further h None f c d p = tt
look_further h (Some x) f c d p = p x refl

pub tested_keeps : {A B : Type 0} (h : Held) (b : Bool) (d : Done A) (c : A → Held → Done B) → (b ≡ true → KeptBy h (after d c)) → KeptBy h (after (if b then d else Stuck) c)
tested_keeps h true d c p = p refl
tested_keeps h false d c p = tt

pub trapped_keeps : {A B : Type 0} (h k : Held) (b : Bool) (why : TrapName) (d : Done A) (c : A → Held → Done B) → TrapsLent h k → KeptBy h (after d c) → KeptBy h (after (if b then d else Traps why k) c)
trapped_keeps h k true why d c q p = p
trapped_keeps h k false why d c q p = q

pub full_keeps : {A B : Type 0} (h k : Held) (b : Bool) (why : TrapName) (d : Done A) (c : A → Held → Done B) → TrapsLent h k → (b ≡ true → KeptBy h (after d c)) → KeptBy h (after (if b then d else Traps why k) c)
full_keeps h k true why d c q p = p refl
full_keeps h k false why d c q p = q
