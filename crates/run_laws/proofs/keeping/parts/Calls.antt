-- Calls, and tasks that block in built-ins, leave marks of handles and subtasks as they follow from tables and tasks.
use Rattle.std.proofs.Common.{refl, sym, subst}
use Rattle.std.specs.Prelude.{ℕ, ◌+◌, Bool, List, length}
use Rattle.std.specs.List.{slice_get}
use Rattle.entry_gate.specs.declared.kind.Kind.{Kind}
use Rattle.tasks.specs.declared.event.BlockedAt.{BlockedAt}
use Rattle.tasks.specs.declared.event.TaskEvent.TheVariants as event
use Rattle.task_table.specs.declared.caller.Caller.TheVariants.{Guest}
use Rattle.task_table.specs.declared.errand.Callee.{Callee}
use Rattle.task_table.specs.declared.errand.Errand.TheVariants as errand
use Rattle.task_table.specs.declared.slot.TaskSlot.{TaskSlot}
use Rattle.task_table.specs.Callers.{new_called}
use Rattle.task_table.specs.Slots.{new_slot, at_errand}
use Rattle.trace_labels.specs.declared.label.BlockReason.{BlockReason}
use Rattle.trace_labels.specs.declared.label.Label.TheVariants as line
use Rattle.trace_labels.specs.declared.trap.TrapName.TheVariants as trap
use Rattle.world_parts.specs.declared.parts.Rest.TheVariants as rest
use Rattle.world_parts.specs.declared.parts.Flow.TheVariants as flow
use Rattle.world_parts.specs.Held.{Held, Gives, Traps, after}
use Rattle.world_parts.specs.Feed.{told, at_rest, chained, left_chain}
use Rattle.world_parts.specs.Slots.{with_task, happens, errand_set, task_made, reenters}
use Rattle.world_parts.specs.Calls.{blocked, blocked_in, call_begun}
use Rattle.standing.specs.Marks.{StateMarked}
use Rattle.standing.proofs.States.{new_is_marked}
use Rattle.run_laws.specs.keeping.Kept.{NumbersThere}
use Rattle.run_laws.proofs.keeping.Others.{KeptBy, keeps_after, keeps_if, keeps_all, keeps_through, look_keeps, traps_same}
use Rattle.run_laws.proofs.keeping.Sums.{length_set}
use Rattle.run_laws.proofs.keeping.Changes.{task_keeps}
use Rattle.run_laws.proofs.keeping.Made.{Begins}
use Rattle.run_laws.proofs.keeping.Alike.{IsIndirect, same_task}
use Rattle.run_laws.proofs.keeping.Carried.{numbers_task}
use Rattle.run_laws.proofs.keeping.parts.Feed.{chained_keeps, left_chain_keeps, told_keeps}
use Rattle.run_laws.proofs.keeping.parts.Slots.{blocks_keeps, errand_set_keeps, task_made_keeps}

pub blocked_keeps : (t : ℕ) (why : BlockedAt) (flag : Bool) (reason : BlockReason) (h : Held) → IsIndirect why → KeptBy h (blocked t why flag reason h)
unfolding blocked
blocked_keeps t why flag reason h q =
    keeps_after h (happens t (event.Block why flag) h) (λ done k. after (told (line.Block t reason) k) (λ done l. left_chain l)) (blocks_keeps t why flag h q) (λ done k. keeps_after k (told (line.Block t reason) k) (λ done l. left_chain l) (told_keeps (line.Block t reason) k) (λ done l. left_chain_keeps l))

pub blocked_in_keeps : (t : ℕ) (canon : ℕ) (flag : Bool) (why : BlockedAt) (reason : BlockReason) (h : Held) → IsIndirect why → KeptBy h (blocked_in t canon flag why reason h)
unfolding blocked_in
blocked_in_keeps t canon flag why reason h q =
    keeps_after h (errand_set t (errand.InBuiltin canon) h) (λ done k. blocked t why flag reason k) (errand_set_keeps t (errand.InBuiltin canon) h) (λ done k. blocked_keeps t why flag reason k q)

-- A new task begins, of which nothing is lent and for which none waits.
begins : (instance by canon made : ℕ) (kind : Kind) (callee : Callee) (words : List ℕ) → Begins (new_slot instance kind callee (Guest (new_called by canon words made)))
begins instance by canon made kind callee words = record { outside = refl; none = refl; unlent = λ p index. refl }

made_keeps : (t made : ℕ) (slot : TaskSlot) (instance : ℕ) (l : Held) → NumbersThere l → Begins slot → StateMarked (length l.tasks) slot
    → KeptBy l (after (task_made slot l) (λ number m. after (told (line.Call t made (instance + 1)) m) (λ done n. after (chained made n) (λ done o. Gives flow.Rests (at_rest rest.Arrives o)))))
made_keeps t made slot instance l numbers new state =
    keeps_after l (task_made slot l) (λ number m. after (told (line.Call t made (instance + 1)) m) (λ done n. after (chained made n) (λ done o. Gives flow.Rests (at_rest rest.Arrives o))))
    (task_made_keeps slot l numbers new state)
    (λ number m.
    keeps_after m (told (line.Call t made (instance + 1)) m) (λ done n. after (chained made n) (λ done o. Gives flow.Rests (at_rest rest.Arrives o))) (told_keeps (line.Call t made (instance + 1)) m)
    (λ done n.
    keeps_after n (chained made n) (λ done o. Gives flow.Rests (at_rest rest.Arrives o)) (chained_keeps made n) (λ done o. keeps_all o (at_rest rest.Arrives o) refl refl)))

pub call_begun_keeps : (t : ℕ) (canon : ℕ) (callee : Callee) (instance : ℕ) (kind : Kind) (words : List ℕ) (h : Held) → NumbersThere h
    → KeptBy h (call_begun t canon callee instance kind words h)
unfolding call_begun
call_begun_keeps t canon callee instance kind words h numbers =
    let made : ℕ = length h.tasks in
    let slot : TaskSlot = new_slot instance kind callee (Guest (new_called t canon words made)) in
    keeps_if h (reenters instance t h) (Traps trap.Reentrant h)
    (after (errand_set t (errand.AfterCall made canon) h)
    (λ done l. after (task_made slot l) (λ number m. after (told (line.Call t made (instance + 1)) m) (λ done n. after (chained made n) (λ done o. Gives flow.Rests (at_rest rest.Arrives o)))))) (traps_same h)
    (look_keeps h (slice_get h.tasks t) (λ x. Gives (tt {0}) (with_task t (at_errand (errand.AfterCall made canon) x) h))
    (λ done l. after (task_made slot l) (λ number m. after (told (line.Call t made (instance + 1)) m) (λ done n. after (chained made n) (λ done o. Gives flow.Rests (at_rest rest.Arrives o)))))
    (λ x is.
    let y : TaskSlot = at_errand (errand.AfterCall made canon) x in
    let k : Held = with_task t y h in
    keeps_through h k
    (after (task_made slot k) (λ number m. after (told (line.Call t made (instance + 1)) m) (λ done n. after (chained made n) (λ done o. Gives flow.Rests (at_rest rest.Arrives o)))))
    (task_keeps h t x y is (same_task x y refl refl refl refl refl) (λ m. m))
    (made_keeps t made slot instance k (numbers_task h t x y is refl numbers) (begins instance t canon made kind callee words)
    (subst (λ (n : ℕ). StateMarked n slot) (sym (length_set h.tasks t y)) (new_is_marked made instance t canon kind callee words)))))
