-- Calls: what is given is words, a rest, or a core function that starts.
use Rattle.std.specs.Prelude.{ℕ, ◌+◌, Bool, List, length}
use Rattle.entry_gate.specs.declared.kind.Kind.{Kind}
use Rattle.tasks.specs.declared.event.BlockedAt.{BlockedAt}
use Rattle.tasks.specs.declared.event.TaskEvent.TheVariants as event
use Rattle.task_table.specs.declared.caller.Caller.TheVariants.{Guest}
use Rattle.task_table.specs.declared.errand.Callee.{Callee}
use Rattle.task_table.specs.declared.errand.Errand.TheVariants as errand
use Rattle.task_table.specs.Callers.{new_called}
use Rattle.task_table.specs.Slots.{new_slot}
use Rattle.trace_labels.specs.declared.label.BlockReason.{BlockReason}
use Rattle.trace_labels.specs.declared.label.Label.TheVariants as line
use Rattle.trace_labels.specs.declared.trap.TrapName.TheVariants as trap
use Rattle.world_parts.specs.declared.parts.Rest.TheVariants as rest
use Rattle.world_parts.specs.declared.parts.Flow.{Flow}
use Rattle.world_parts.specs.declared.parts.Flow.TheVariants as flow
use Rattle.world_parts.specs.Held.{Held, Done, Gives, Traps, after}
use Rattle.world_parts.specs.Feed.{told, at_rest, chained, left_chain}
use Rattle.world_parts.specs.Slots.{happens, errand_set, task_made, reenters}
use Rattle.world_parts.specs.Calls.{blocked, blocked_in, call_begun}
use Rattle.run_laws.proofs.plain.Feed.{left_chain_plain}
use Rattle.run_laws.proofs.plain.Only.{PlainBy, plain_after, plain_if}

pub blocked_plain : (t : ℕ) (why : BlockedAt) (flag : Bool) (reason : BlockReason) (h : Held) → PlainBy (blocked t why flag reason h)
unfolding blocked
blocked_plain t why flag reason h =
    plain_after (happens t (event.Block why flag) h) (λ done k. after (told (line.Block t reason) k) (λ done l. left_chain l)) (λ done k. plain_after (told (line.Block t reason) k) (λ done l. left_chain l) (λ done l. left_chain_plain l))

pub blocked_in_plain : (t : ℕ) (canon : ℕ) (flag : Bool) (why : BlockedAt) (reason : BlockReason) (h : Held) → PlainBy (blocked_in t canon flag why reason h)
unfolding blocked_in
blocked_in_plain t canon flag why reason h =
    plain_after (errand_set t (errand.InBuiltin canon) h) (λ done k. blocked t why flag reason k) (λ done k. blocked_plain t why flag reason k)

pub call_begun_plain : (t : ℕ) (canon : ℕ) (callee : Callee) (instance : ℕ) (kind : Kind) (words : List ℕ) (h : Held) → PlainBy (call_begun t canon callee instance kind words h)
unfolding call_begun
call_begun_plain t canon callee instance kind words h =
    let made : ℕ = length h.tasks in
    let begins : Unit {0} → Held → Done Flow = λ done l.
    after (task_made (new_slot instance kind callee (Guest (new_called t canon words made))) l) (λ number m.
    after (told (line.Call t made (instance + 1)) m) (λ done n. after (chained made n) (λ done o. Gives flow.Rests (at_rest rest.Arrives o)))) in
    plain_if (reenters instance t h) (Traps trap.Reentrant h) (after (errand_set t (errand.AfterCall made canon) h) begins) tt
    (plain_after (errand_set t (errand.AfterCall made canon) h) begins (λ done l. tt))
