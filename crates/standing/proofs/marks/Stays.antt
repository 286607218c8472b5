-- Marks of gates and of sets stay: where neither a task nor an instance changes, behind parts, and both ways of a test.
use Rattle.std.proofs.Common.{◌≡◌, Bool, true, false, if◌then◌else◌, List, refl, sym, subst, Option, Some, None}
use Rattle.std.specs.Prelude.{Result, Ok, Err}
use Rattle.res_handles.specs.declared.refusal.Refusal.{Refusal}
use Rattle.instances.specs.Instances.{InstanceView}
use Rattle.task_table.specs.declared.slot.TaskSlot.{TaskSlot}
use Rattle.trace_labels.specs.declared.trap.TrapName.{TrapName}
use Rattle.world_parts.specs.Held.{Held, Done, Gives, Traps, Spent, Stuck, after, given}
use Rattle.world_parts.specs.Entries.{named}
use Rattle.standing.specs.KeptMarks.{GatesMarked, WaitersMarked}
use Rattle.standing.specs.MarksKept.{WaitsStay, StayBy}

-- Neither the tasks nor the instances change.
pub stays_all : (h k : Held) → k.tasks ≡ h.tasks → k.instances ≡ h.instances → WaitsStay h k
stays_all h k same insts = record {
  gates = λ marks. subst (λ (tasks : List TaskSlot). GatesMarked k.instances tasks) (sym same) (subst (λ (is : List InstanceView). GatesMarked is h.tasks) (sym insts) marks);
  waiters = λ marks. subst (λ (tasks : List TaskSlot). WaitersMarked k.instances tasks) (sym same) (subst (λ (is : List InstanceView). WaitersMarked is h.tasks) (sym insts) marks);
}

pub stays_same : (h : Held) → WaitsStay h h
stays_same h = record { gates = λ marks. marks; waiters = λ marks. marks }

pub stays_further : (h k l : Held) → WaitsStay h k → WaitsStay k l → WaitsStay h l
stays_further h k l p q = record { gates = λ marks. q.gates (p.gates marks); waiters = λ marks. q.waiters (p.waiters marks) }

pub stays_through : {A : Type 0} (h k : Held) (d : Done A) → WaitsStay h k → StayBy k d → StayBy h d
stays_through h k (Gives x l) p q = stays_further h k l p q
stays_through h k (Traps why l) p q = tt
stays_through h k (Spent l) p q = tt
stays_through h k Stuck p q = tt

pub stays_after : {A B : Type 0} (h : Held) (d : Done A) (f : A → Held → Done B) → StayBy h d → ((x : A) (k : Held) → StayBy k (f x k)) → StayBy h (after d f)
stays_after h (Gives x k) f p q = stays_through h k (f x k) p (q x k)
stays_after h (Traps why k) f p q = tt
stays_after h (Spent k) f p q = tt
stays_after h Stuck f p q = tt

pub stays_given : {A B : Type 0} (h : Held) (o : Option A) (f : A → Done B) → ((x : A) → o ≡ Some x → StayBy h (f x)) → StayBy h (given o f)
stays_given h None f p = tt
stays_given h (Some x) f p = p x refl

pub stays_if : {A : Type 0} (h : Held) (b : Bool) (d e : Done A) → StayBy h d → StayBy h e → StayBy h (if b then d else e)
stays_if h true d e p q = p
stays_if h false d e p q = q

pub stays_from : {A : Type 0} (h k : Held) (d : Done A) → k.tasks ≡ h.tasks → k.instances ≡ h.instances → StayBy k d → StayBy h d
stays_from h k d same insts p = stays_through h k d (stays_all h k same insts) p

-- What follows a look changes nothing of what it looks at.
pub look_stays : {A B C : Type 0} (h : Held) (o : Option A) (f : A → Done B) (c : B → Held → Done C) → ((x : A) → o ≡ Some x → StayBy h (after (f x) c)) → StayBy h (after (given o f) c)
look_stays h None f c p = tt
look_stays h (Some x) f c p = p x refl

pub found_stays : {A B : Type 0} (h : Held) (r : Result A Refusal) (c : A → Held → Done B) → ((x : A) → r ≡ Ok x → StayBy h (c x h)) → StayBy h (after (named r h) c)
found_stays h (Ok x) c p = p x refl
found_stays h (Err why) c p = tt

-- The same behind two parts, and behind a test.
pub look_further : {A B C D : Type 0} (h : Held) (o : Option A) (f : A → Done B) (c : B → Held → Done C) (d : C → Held → Done D)
    → ((x : A) → o ≡ Some x → StayBy h (after (after (f x) c) d)) → StayBy h (after (after (given o f) c) d)
look_further h None f c d p = tt
look_further h (Some x) f c d p = p x refl

pub tested_stays : {A B : Type 0} (h : Held) (b : Bool) (d : Done A) (c : A → Held → Done B) → (b ≡ true → StayBy h (after d c)) → StayBy h (after (if b then d else Stuck) c)
tested_stays h true d c p = p refl
tested_stays h false d c p = tt

pub trapped_stays : {A B : Type 0} (h k : Held) (b : Bool) (why : TrapName) (d : Done A) (c : A → Held → Done B) → StayBy h (after d c) → StayBy h (after (if b then d else Traps why k) c)
trapped_stays h k true why d c p = p
trapped_stays h k false why d c p = tt
