-- Parts that give something, or come to no rule.
use Rattle.std.proofs.Common.{◌≡◌, ℕ, Bool, true, false, if◌then◌else◌, refl, sym, ap, ◌∙◌, subst, Option, Some, None, Err}
use Rattle.std.specs.List.{slice_get}
use Rattle.tasks.specs.declared.event.TaskEvent.{TaskEvent}
use Rattle.tasks.specs.Tasks as task_of
use Rattle.tasks.specs.Tasks.{may_happen, fault, advanced}
use Rattle.task_table.specs.declared.slot.TaskSlot.{TaskSlot}
use Rattle.task_table.specs.declared.refusal.EventError.TheVariants.{NotNow}
use Rattle.task_table.specs.Slots as slots
use Rattle.task_table.specs.Slots.{event_answer, advanced_slot, trapped}
use Rattle.world_parts.specs.Held as kept
use Rattle.world_parts.specs.Held.{Held, Done, Gives, Traps, Spent, after, given}
use Rattle.world_parts.specs.Slots.{with_task, happened, happens}
use Rattle.value_parts.specs.Coming.{Behind}
use Rattle.standing.proofs.Blocking.{happens_when}

abbrev pub AllGive : {A : Type 0} → (A → Held → Type 0) → Done A → Type 0
AllGive P (Gives x k) = P x k
AllGive P (Traps why k) = ⊥
AllGive P (Spent k) = ⊥
AllGive P kept.Stuck = Unit {0}

pub after_gives : {A B : Type 0} (P : A → Held → Type 0) (Q : B → Held → Type 0) (d : Done A) (F : A → Held → Done B) → AllGive P d → ((x : A) (k : Held) → P x k → AllGive Q (F x k))
    → AllGive Q (after d F)
after_gives P Q (Gives x k) F first more = more x k first
after_gives P Q (Traps why k) F first more = absurd first
after_gives P Q (Spent k) F first more = absurd first
after_gives P Q kept.Stuck F first more = tt

pub given_gives : {A B : Type 0} (Q : B → Held → Type 0) (o : Option A) (F : A → Done B) → ((x : A) → o ≡ Some x → AllGive Q (F x)) → AllGive Q (given o F)
given_gives Q None F more = tt
given_gives Q (Some x) F more = more x refl

pub if_gives : {A : Type 0} (Q : A → Held → Type 0) (b : Bool) (d : Done A) → AllGive Q d → AllGive Q (if b then d else kept.Stuck)
if_gives Q true d gives = gives
if_gives Q false d gives = tt

pub either_gives : {A : Type 0} (Q : A → Held → Type 0) (b : Bool) (d e : Done A) → AllGive Q d → AllGive Q e → AllGive Q (if b then d else e)
either_gives Q true d e first other = first
either_gives Q false d e first other = other

-- What follows a part.
pub behind_gives : {A B : Type 0} (P : A → Held → Type 0) (Goal : Done B → Type 0) (d : Done A) (F : A → Held → Done B → Type 0) (e : Done B) → AllGive P d → Goal kept.Stuck
    → ((x : A) (k : Held) → P x k → F x k e → Goal e) → Behind d F e → Goal e
behind_gives P Goal (Gives x k) F e gives none more follows = more x k gives follows
behind_gives P Goal (Traps why k) F e gives none more follows = absurd gives
behind_gives P Goal (Spent k) F e gives none more follows = absurd gives
behind_gives P Goal kept.Stuck F e gives none more follows = subst Goal (sym follows) none

-- Something that is never refused happens to a task.
pub happens_gives : (P : Unit {0} → Held → Type 0) (e : TaskEvent) (t : ℕ) (h : Held) → ((x : TaskSlot) → fault e x.task ≡ None)
    → ((x : TaskSlot) → slice_get h.tasks t ≡ Some x → may_happen e x.task ≡ true → P tt (with_task t (slots.with_task (task_of.after e x.task) x) h)) → AllGive P (happens t e h)
happens_gives P e t h none more = by (slice_get h.tasks t) refl
  where
    may : (x : TaskSlot) → slice_get h.tasks t ≡ Some x → (b : Bool) → may_happen e x.task ≡ b → AllGive P (happens t e h)
    may x there true can = subst (λ (d : Done (Unit {0})). AllGive P d) (sym (happens_when e x t h there can (none x))) (more x there can)
    may x there false can =
        subst (λ (d : Done (Unit {0})). AllGive P d)
        (sym (ap (λ (o : Option TaskSlot). given o (λ slot. happened (event_answer e slot.task) t (advanced_slot e slot) h)) there
        ∙ ap (λ (b : Bool). happened (if b then trapped (fault e x.task) else Err NotNow) t (if b then slots.with_task (advanced e x.task) x else x) h) can)) tt

    by : (o : Option TaskSlot) → slice_get h.tasks t ≡ o → AllGive P (happens t e h)
    by None gone = subst (λ (d : Done (Unit {0})). AllGive P d) (sym (ap (λ (o : Option TaskSlot). given o (λ slot. happened (event_answer e slot.task) t (advanced_slot e slot) h)) gone)) tt
    by (Some x) there = may x there (may_happen e x.task) refl
