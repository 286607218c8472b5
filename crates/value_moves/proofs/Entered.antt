-- No handle is lent more often where a task enters.
use Rattle.std.proofs.Common.{◌≡◌, ℕ, ap, Option, Some, None}
use Rattle.std.specs.List.{slice_get}
use Rattle.task_table.specs.declared.errand.Callee.{Callee}
use Rattle.task_table.specs.declared.slot.TaskSlot.{TaskSlot}
use Rattle.world_parts.specs.Held.{Held, Done, Gives, Traps, Spent, Stuck, after, given}
use Rattle.world_parts.specs.Slots.{callee_of}
use Rattle.world_parts.specs.Going.{enters}
use Rattle.value_parts.specs.Lifting.{FewLent}
use Rattle.value_parts.proofs.Kept.{few_enters}
use Rattle.value_moves.specs.Entering.{entered}

-- What is looked up of a task changes nothing.
seen_in : (o : Option TaskSlot) (callee : Callee) (l k : Held) → (let d : Done Callee = given o (λ slot. Gives slot.callee l) in d) ≡ Gives callee k → l ≡ k
seen_in None callee l k h = absurd (let w : ⊥ = cc in w)
seen_in (Some slot) callee l k h = cc

seen_after : (d : Done (Unit {0})) (t : ℕ) (callee : Callee) (k : Held) → after d (λ done l. callee_of t l) ≡ Gives callee k → (done : Unit {0}) × (d ≡ Gives done k)
seen_after (Gives done l) t callee k h = (done, ap (λ (m : Held). Gives done m) (seen_in (slice_get l.tasks t) callee l k h))
seen_after (Traps why l) t callee k h = absurd (let w : ⊥ = cc in w)
seen_after (Spent l) t callee k h = absurd (let w : ⊥ = cc in w)
seen_after Stuck t callee k h = absurd (let w : ⊥ = cc in w)

pub few_entered : (t : ℕ) (h k : Held) (callee : Callee) → entered t h ≡ Gives callee k → FewLent h → FewLent k
few_entered t h k callee is few = let found = seen_after (enters t h) t callee k is in few_enters t h k found.0 found.1 few
