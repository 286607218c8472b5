-- All marks: they stay where neither a task nor an instance changes, behind parts, and both ways of a test; and where those of gates and of sets stay, and all
-- others do.
use Rattle.std.proofs.Common.{◌≡◌, Bool, true, false, if◌then◌else◌, List, refl, sym, subst, Option, Some, None}
use Rattle.std.specs.Prelude.{Result, Ok, Err}
use Rattle.res_handles.specs.declared.refusal.Refusal.{Refusal}
use Rattle.instances.specs.Instances.{InstanceView}
use Rattle.task_table.specs.declared.slot.TaskSlot.{TaskSlot}
use Rattle.trace_labels.specs.declared.trap.TrapName.{TrapName}
use Rattle.world_parts.specs.Held.{Held, Done, Gives, Traps, Spent, Stuck, after, given}
use Rattle.world_parts.specs.Entries.{named}
use Rattle.abi_machine.proofs.sound.Found.{some_same}
use Rattle.standing.specs.KeptMarks.{TasksMarked, HasMarks}
use Rattle.standing.specs.MarksKept.{WaitsStay, StayBy}
use Rattle.run_laws.specs.keeping.Kept.{MarksStay, KeepsMarks, LendsRight}
use Rattle.run_laws.proofs.keeping.Others.{OthersMarked, Keeps, KeptBy}

pub all_marks : (h k : Held) → WaitsStay h k → Keeps h k → MarksStay h k
all_marks h k p q marks =
    let others : OthersMarked k.instances k.tasks = q (record { lends = marks.lends; borrows = marks.borrows; awaited = marks.awaited; states = marks.states }) in
    record {
      gates = p.gates marks.gates;
      waiters = p.waiters marks.waiters;
      lends = others.lends;
      borrows = others.borrows;
      awaited = others.awaited;
      states = others.states;
    }

pub all_by : {A : Type 0} (h : Held) (d : Done A) → StayBy h d → KeptBy h d → KeepsMarks h d
all_by h (Gives x k) p q = all_marks h k p q
all_by h (Traps why k) p q = λ marks. q (record { lends = marks.lends; borrows = marks.borrows; awaited = marks.awaited; states = marks.states })
all_by h (Spent k) p q = tt
all_by h Stuck p q = tt

-- Neither the tasks nor the instances change.
pub every_all : (h k : Held) → k.tasks ≡ h.tasks → k.instances ≡ h.instances → MarksStay h k
every_all h k same insts marks = subst (λ (tasks : List TaskSlot). TasksMarked k.instances tasks) (sym same) (subst (λ (is : List InstanceView). TasksMarked is h.tasks) (sym insts) marks)

pub every_same : (h : Held) → MarksStay h h
every_same h marks = marks

pub every_further : (h k l : Held) → MarksStay h k → MarksStay k l → MarksStay h l
every_further h k l p q marks = q (p marks)

pub every_through : {A : Type 0} (h k : Held) (d : Done A) → MarksStay h k → KeepsMarks k d → KeepsMarks h d
every_through h k (Gives x l) p q = every_further h k l p q
every_through h k (Traps why l) p q = λ marks. q (p marks)
every_through h k (Spent l) p q = tt
every_through h k Stuck p q = tt

pub every_after : {A B : Type 0} (h : Held) (d : Done A) (f : A → Held → Done B) → KeepsMarks h d → ((x : A) (k : Held) → KeepsMarks k (f x k)) → KeepsMarks h (after d f)
every_after h (Gives x k) f p q = every_through h k (f x k) p (q x k)
every_after h (Traps why k) f p q = p
every_after h (Spent k) f p q = tt
every_after h Stuck f p q = tt

pub every_given : {A B : Type 0} (h : Held) (o : Option A) (f : A → Done B) → ((x : A) → o ≡ Some x → KeepsMarks h (f x)) → KeepsMarks h (given o f)
every_given h None f p = tt
every_given h (Some x) f p = p x refl

pub every_if : {A : Type 0} (h : Held) (b : Bool) (d e : Done A) → KeepsMarks h d → KeepsMarks h e → KeepsMarks h (if b then d else e)
every_if h true d e p q = p
every_if h false d e p q = q

pub every_from : {A : Type 0} (h k : Held) (d : Done A) → k.tasks ≡ h.tasks → k.instances ≡ h.instances → KeepsMarks k d → KeepsMarks h d
every_from h k d same insts p = every_through h k d (every_all h k same insts) p

-- What follows a look changes nothing of what it looks at.
pub look_every : {A B C : Type 0} (h : Held) (o : Option A) (f : A → Done B) (c : B → Held → Done C) → ((x : A) → o ≡ Some x → KeepsMarks h (after (f x) c)) → KeepsMarks h (after (given o f) c)
look_every h None f c p = tt
look_every h (Some x) f c p = p x refl

pub found_every : {A B : Type 0} (h : Held) (r : Result A Refusal) (c : A → Held → Done B) → ((x : A) → r ≡ Ok x → KeepsMarks h (c x h)) → KeepsMarks h (after (named r h) c)
found_every h (Ok x) c p = p x refl
found_every h (Err why) c p = λ marks. marks.lends

-- The same behind two parts, and behind a test.
pub further_every : {A B C D : Type 0} (h : Held) (o : Option A) (f : A → Done B) (c : B → Held → Done C) (d : C → Held → Done D)
    → ((x : A) → o ≡ Some x → KeepsMarks h (after (after (f x) c) d)) → KeepsMarks h (after (after (given o f) c) d)
further_every h None f c d p = tt
further_every h (Some x) f c d p = p x refl

pub tested_every : {A B : Type 0} (h : Held) (b : Bool) (d : Done A) (c : A → Held → Done B) → (b ≡ true → KeepsMarks h (after d c)) → KeepsMarks h (after (if b then d else Stuck) c)
tested_every h true d c p = p refl
tested_every h false d c p = tt

pub trapped_every : {A B : Type 0} (h k : Held) (b : Bool) (why : TrapName) (d : Done A) (c : A → Held → Done B) → (HasMarks h → LendsRight k) → KeepsMarks h (after d c) → KeepsMarks h (after (if b then d else Traps why k) c)
trapped_every h k true why d c q p = p
trapped_every h k false why d c q p = q

pub full_every : {A B : Type 0} (h k : Held) (b : Bool) (why : TrapName) (d : Done A) (c : A → Held → Done B) → (HasMarks h → LendsRight k) → (b ≡ true → KeepsMarks h (after d c)) → KeepsMarks h (after (if b then d else Traps why k) c)
full_every h k true why d c q p = p refl
full_every h k false why d c q p = q

-- What is found was found before.
pub at_every : {A B C : Type 0} (h : Held) (o : Option A) (x : A) (f : A → Done B) (c : B → Held → Done C) → o ≡ Some x → KeepsMarks h (after (f x) c) → KeepsMarks h (after (given o f) c)
at_every h None x f c e p = absurd (cc)
at_every {A} h (Some y) x f c e p = subst (λ (z : A). KeepsMarks h (after (f z) c)) (sym (some_same e)) p
