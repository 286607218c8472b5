-- What is kept well stays so where no task changes, behind parts, and both ways of a test.
use Rattle.std.proofs.Common.{◌≡◌, ℕ, Bool, true, false, if◌then◌else◌, List, refl, sym, ap, ◌∙◌, Option, Some, None}
use Rattle.std.specs.List.{slice_get}
use Rattle.instances.specs.Instances.{InstanceView}
use Rattle.task_table.specs.declared.slot.TaskSlot.{TaskSlot}
use Rattle.world_parts.specs.Held.{Held, Done, Gives, Traps, Spent, Stuck, after, given}
use Rattle.world_parts.specs.Entries.{with_instance}
use Rattle.run_laws.specs.keeping.Well.{WellStays, KeepsWell}

-- No task changes.
pub well_all : (h k : Held) → k.tasks ≡ h.tasks → WellStays h k
well_all h k same well = record {
  gave = λ t slot called found by told. well.gave t slot called (ap (λ (ts : List TaskSlot). slice_get ts t) (sym same) ∙ found) by told;
  over = λ t slot called found by told. well.over t slot called (ap (λ (ts : List TaskSlot). slice_get ts t) (sym same) ∙ found) by told;
  asked = λ t slot found resolved. well.asked t slot (ap (λ (ts : List TaskSlot). slice_get ts t) (sym same) ∙ found) resolved;
  unawaited = λ t callee canon slot x called found at there by.
      well.unawaited t callee canon slot x called (ap (λ (ts : List TaskSlot). slice_get ts t) (sym same) ∙ found) at (ap (λ (ts : List TaskSlot). slice_get ts callee) (sym same) ∙ there) by;
}

pub well_same : (h : Held) → WellStays h h
well_same h well = well

pub well_instance : (h : Held) (at : ℕ) (i : InstanceView) → WellStays h (with_instance at i h)
well_instance h at i = well_all h (with_instance at i h) refl

pub well_further : (h k l : Held) → WellStays h k → WellStays k l → WellStays h l
well_further h k l p q well = q (p well)

pub well_behind : {A : Type 0} (h k : Held) (d : Done A) → WellStays h k → KeepsWell k d → KeepsWell h d
well_behind h k (Gives x l) p q = well_further h k l p q
well_behind h k (Traps why l) p q = tt
well_behind h k (Spent l) p q = tt
well_behind h k Stuck p q = tt

pub well_after : {A B : Type 0} (h : Held) (d : Done A) (f : A → Held → Done B) → KeepsWell h d → ((x : A) (k : Held) → KeepsWell k (f x k)) → KeepsWell h (after d f)
well_after h (Gives x k) f p q = well_behind h k (f x k) p (q x k)
well_after h (Traps why k) f p q = tt
well_after h (Spent k) f p q = tt
well_after h Stuck f p q = tt

pub well_given : {A B : Type 0} (h : Held) (o : Option A) (f : A → Done B) → ((x : A) → o ≡ Some x → KeepsWell h (f x)) → KeepsWell h (given o f)
well_given h None f p = tt
well_given h (Some x) f p = p x refl

pub well_if : {A : Type 0} (h : Held) (b : Bool) (d e : Done A) → KeepsWell h d → KeepsWell h e → KeepsWell h (if b then d else e)
well_if h true d e p q = p
well_if h false d e p q = q

pub well_from : {A : Type 0} (h k : Held) (d : Done A) → k.tasks ≡ h.tasks → KeepsWell k d → KeepsWell h d
well_from h k d same p = well_behind h k d (well_all h k same) p

-- What follows a look changes nothing of what it looks at.
pub look_well : {A B C : Type 0} (h : Held) (o : Option A) (f : A → Done B) (c : B → Held → Done C) → ((x : A) → o ≡ Some x → KeepsWell h (after (f x) c)) → KeepsWell h (after (given o f) c)
look_well h None f c p = tt
look_well h (Some x) f c p = p x refl

pub tested_well : {A B : Type 0} (h : Held) (b : Bool) (d : Done A) (c : A → Held → Done B) → (b ≡ true → KeepsWell h (after d c)) → KeepsWell h (after (if b then d else Stuck) c)
tested_well h true d c p = p refl
tested_well h false d c p = tt
