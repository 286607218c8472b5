-- What a part leaves as it was: who runs, and how many tasks there are. So do parts behind parts, what follows something that is looked up, and both ways of a test.
-- None of them costs a unit. A part that rests may have made a task, or let one act or no longer.
use Rattle.std.proofs.Common.{◌≡◌, ◌⊎◌, inl, inr, ℕ, zero, suc, Bool, true, false, if◌then◌else◌, List, [], ◌∷◌, length, slice_set, refl, ap, ◌∙◌, Option, Some, None}
use Rattle.instances.specs.Instances.{InstanceView}
use Rattle.task_table.specs.declared.slot.TaskSlot.{TaskSlot}
use Rattle.world_parts.specs.declared.parts.Flow.{Flow}
use Rattle.world_parts.specs.declared.parts.Flow.TheVariants as flow
use Rattle.world_parts.specs.Held.{Held, Done, Gives, Traps, Spent, Stuck, after, given}
use Rattle.world_parts.specs.Entries.{with_instance}

abbrev pub Same : Held → Held → Type 0
Same h k = (k.chain ≡ h.chain) × (length k.tasks ≡ length h.tasks)

abbrev pub StaysBy : {A : Type 0} → Held → Done A → Type 0
StaysBy h (Gives x k) = Same h k
StaysBy h (Traps why k) = Unit {0}
StaysBy h (Spent k) = ⊥
StaysBy h Stuck = Unit {0}

abbrev pub FlowsBy : Held → Done Flow → Type 0
FlowsBy h (Gives x k) = (x ≡ flow.Rests) ⊎ Same h k
FlowsBy h (Traps why k) = Unit {0}
FlowsBy h (Spent k) = ⊥
FlowsBy h Stuck = Unit {0}

-- A part that rests, where it gives something.
abbrev pub RestsBy : Done Flow → Type 0
RestsBy (Gives x k) = x ≡ flow.Rests
RestsBy (Traps why k) = Unit {0}
RestsBy (Spent k) = ⊥
RestsBy Stuck = Unit {0}

pub same_further : (h k l : Held) → Same h k → Same k l → Same h l
same_further h k l p q = (q.0 ∙ p.0, q.1 ∙ p.1)

stays_behind : {A : Type 0} (h k : Held) (d : Done A) → Same h k → StaysBy k d → StaysBy h d
stays_behind h k (Gives x l) p q = same_further h k l p q
stays_behind h k (Traps why l) p q = tt
stays_behind h k (Spent l) p q = q
stays_behind h k Stuck p q = tt

flows_more : (h k l : Held) (x : Flow) → Same h k → (x ≡ flow.Rests) ⊎ Same k l → (x ≡ flow.Rests) ⊎ Same h l
flows_more h k l x p (inl rests) = inl rests
flows_more h k l x p (inr same) = inr (same_further h k l p same)

pub flows_behind : (h k : Held) (d : Done Flow) → Same h k → FlowsBy k d → FlowsBy h d
flows_behind h k (Gives x l) p q = flows_more h k l x p q
flows_behind h k (Traps why l) p q = tt
flows_behind h k (Spent l) p q = q
flows_behind h k Stuck p q = tt

pub stays_after : {A B : Type 0} (h : Held) (d : Done A) (f : A → Held → Done B) → StaysBy h d → ((x : A) (k : Held) → StaysBy k (f x k)) → StaysBy h (after d f)
stays_after h (Gives x k) f p q = stays_behind h k (f x k) p (q x k)
stays_after h (Traps why k) f p q = tt
stays_after h (Spent k) f p q = p
stays_after h Stuck f p q = tt

pub flows_after : {A : Type 0} (h : Held) (d : Done A) (f : A → Held → Done Flow) → StaysBy h d → ((x : A) (k : Held) → FlowsBy k (f x k)) → FlowsBy h (after d f)
flows_after h (Gives x k) f p q = flows_behind h k (f x k) p (q x k)
flows_after h (Traps why k) f p q = tt
flows_after h (Spent k) f p q = p
flows_after h Stuck f p q = tt

pub rests_after : {A : Type 0} (h : Held) (d : Done A) (f : A → Held → Done Flow) → StaysBy h d → ((x : A) (k : Held) → RestsBy (f x k)) → RestsBy (after d f)
rests_after h (Gives x k) f p q = q x k
rests_after h (Traps why k) f p q = tt
rests_after h (Spent k) f p q = p
rests_after h Stuck f p q = tt

pub rests_flow : (h : Held) (d : Done Flow) → RestsBy d → FlowsBy h d
rests_flow h (Gives x k) p = inl p
rests_flow h (Traps why k) p = tt
rests_flow h (Spent k) p = p
rests_flow h Stuck p = tt

pub stays_given : {A B : Type 0} (h : Held) (o : Option A) (f : A → Done B) → ((x : A) → o ≡ Some x → StaysBy h (f x)) → StaysBy h (given o f)
stays_given h None f p = tt
stays_given h (Some x) f p = p x refl

pub flows_given : {A : Type 0} (h : Held) (o : Option A) (f : A → Done Flow) → ((x : A) → o ≡ Some x → FlowsBy h (f x)) → FlowsBy h (given o f)
flows_given h None f p = tt
flows_given h (Some x) f p = p x refl

pub stays_if : {A : Type 0} (h : Held) (b : Bool) (d e : Done A) → StaysBy h d → StaysBy h e → StaysBy h (if b then d else e)
stays_if h true d e p q = p
stays_if h false d e p q = q

pub flows_if : (h : Held) (b : Bool) (d e : Done Flow) → FlowsBy h d → FlowsBy h e → FlowsBy h (if b then d else e)
flows_if h true d e p q = p
flows_if h false d e p q = q

-- by what is given
pub stays_all : (h k : Held) → k.chain ≡ h.chain → length k.tasks ≡ length h.tasks → Same h k
stays_all h k chain tasks = (chain, tasks)

pub stays_same : (h : Held) → Same h h
stays_same h = (refl, refl)

pub stays_instance : (h : Held) (at : ℕ) (i : InstanceView) → Same h (with_instance at i h)
stays_instance h at i = (refl, refl)

pub stays_from : {A : Type 0} (h k : Held) (d : Done A) → k.chain ≡ h.chain → length k.tasks ≡ length h.tasks → StaysBy k d → StaysBy h d
stays_from h k d chain tasks p = stays_behind h k d (chain, tasks) p

pub flows_all : {x : Flow} (h k : Held) → k.chain ≡ h.chain → length k.tasks ≡ length h.tasks → (x ≡ flow.Rests) ⊎ Same h k
flows_all h k chain tasks = inr (chain, tasks)

pub flows_same : {x : Flow} (h : Held) → (x ≡ flow.Rests) ⊎ Same h h
flows_same h = inr (refl, refl)

-- As many tasks where one is another.
set_long : (xs : List TaskSlot) (n : ℕ) (x : TaskSlot) → length (slice_set xs n x) ≡ length xs
set_long [] n x = refl
set_long (y ∷ xs) zero x = refl
set_long (y ∷ xs) (suc n) x = ap suc (set_long xs n x)

pub task_long : (h : Held) (t : ℕ) (slot : TaskSlot) → length (slice_set h.tasks t slot) ≡ length h.tasks
task_long h t slot = set_long h.tasks t slot
