-- A task that exits, and control that is back: what is given is words, a rest, or a core function that starts.
use Rattle.std.proofs.Common.{◌+◌, ◌*◌, ℕ, true, if◌then◌else◌, [], ◌∷◌}
use Rattle.tasks.specs.declared.event.BlockedAt.TheVariants as blocked_at
use Rattle.tasks.specs.declared.event.TaskEvent.TheVariants as event
use Rattle.instances.specs.declared.entry.WorldEntry.TheVariants as entry
use Rattle.task_table.specs.declared.errand.Errand.{Errand}
use Rattle.task_table.specs.declared.errand.Errand.TheVariants as errand
use Rattle.trace_labels.specs.declared.label.BlockReason.TheVariants as reason
use Rattle.trace_labels.specs.declared.label.Label.TheVariants as line
use Rattle.world_parts.specs.declared.parts.Flow.{Flow}
use Rattle.world_parts.specs.Held.{Held, Done, after}
use Rattle.world_parts.specs.Views.{Views}
use Rattle.world_parts.specs.Calls as parts
use Rattle.world_parts.specs.Calls.{blocked_in, call_resolved, call_open, back_from_call, cancel_resolved, cancel_open, back_from_cancel, back_by, back, subtask_told}
use Rattle.world_parts.specs.Entries.{entry_added}
use Rattle.world_parts.specs.Feed.{told, acting, left_chain, got}
use Rattle.world_parts.specs.Gates.{gate_given_up}
use Rattle.world_parts.specs.Going.{leaves}
use Rattle.world_parts.specs.Slots.{instance_of, errand_of, happens, resolved, result_found, state_told, awaited, errand_set, closed}
use Rattle.run_laws.proofs.plain.Calls.{blocked_in_plain}
use Rattle.run_laws.proofs.plain.Feed.{left_chain_plain, got_plain}
use Rattle.run_laws.proofs.plain.Only.{PlainBy, plain_after, plain_if}

pub leaves_plain : (h : Held) → PlainBy (leaves h)
unfolding leaves
leaves_plain h =
    let out : ℕ → Held → Done Flow = λ t n. after (closed t n) (λ done o. after (told (line.Exit t) o) (λ done p. left_chain p)) in
    plain_after (acting h) (λ t k. after (instance_of t k) (λ at l. after (happens t event.Exit l) (λ done m. after (gate_given_up at t m) (λ done n. out t n))))
    (λ t k.
    plain_after (instance_of t k) (λ at l. after (happens t event.Exit l) (λ done m. after (gate_given_up at t m) (λ done n. out t n)))
    (λ at l.
    plain_after (happens t event.Exit l) (λ done m. after (gate_given_up at t m) (λ done n. out t n))
    (λ done m.
    plain_after (gate_given_up at t m) (λ done n. out t n)
    (λ done n.
    plain_after (closed t n) (λ done o. after (told (line.Exit t) o) (λ done p. left_chain p))
    (λ done o. plain_after (told (line.Exit t) o) (λ done p. left_chain p) (λ done p. (left_chain_plain p)))))))

-- Control that is back.
resolved_plain : (g : Views) (t at callee canon : ℕ) (h : Held) → PlainBy (call_resolved g t at callee canon h)
unfolding call_resolved
resolved_plain g t at callee canon h =
    plain_after (result_found callee h) (λ words k. after (subtask_told at callee k) (λ payload l. if g.is_async canon then got t (2 ∷ []) l else got t words l))
    (λ words k.
    plain_after (subtask_told at callee k) (λ payload l. if g.is_async canon then got t (2 ∷ []) l else got t words l)
    (λ payload l. plain_if (g.is_async canon) (got t (2 ∷ []) l) (got t words l) (got_plain t (2 ∷ []) l) (got_plain t words l)))

open_plain : (g : Views) (t at callee canon : ℕ) (h : Held) → PlainBy (call_open g t at callee canon h)
unfolding call_open
open_plain g t at callee canon h =
    plain_if (g.is_async canon) (after (entry_added at (entry.Subtask callee) h) (λ index k. after (state_told callee k) (λ state l. got t ((state + 16 * index) ∷ []) l)))
    (blocked_in t canon (g.flag canon) (blocked_at.Call callee) (reason.Call callee) h)
    (plain_after (entry_added at (entry.Subtask callee) h) (λ index k. after (state_told callee k) (λ state l. got t ((state + 16 * index) ∷ []) l))
    (λ index k. plain_after (state_told callee k) (λ state l. got t ((state + 16 * index) ∷ []) l) (λ state l. got_plain t ((state + 16 * index) ∷ []) l)))
    ((blocked_in_plain t canon (g.flag canon) (blocked_at.Call callee) (reason.Call callee) h))

called_plain : (g : Views) (t at callee canon : ℕ) (h : Held) → PlainBy (back_from_call g t at callee canon h)
unfolding back_from_call
called_plain g t at callee canon h =
    plain_after (errand_set t errand.None h) (λ done k. after (resolved callee k) (λ is_over l. if is_over then call_resolved g t at callee canon l else call_open g t at callee canon l))
    (λ done k.
    plain_after (resolved callee k) (λ is_over l. if is_over then call_resolved g t at callee canon l else call_open g t at callee canon l)
    (λ is_over l.
    plain_if is_over (call_resolved g t at callee canon l) (call_open g t at callee canon l) (resolved_plain g t at callee canon l) (open_plain g t at callee canon l)))

over_plain : (t at callee : ℕ) (h : Held) → PlainBy (cancel_resolved t at callee h)
unfolding cancel_resolved
over_plain t at callee h = plain_after (subtask_told at callee h) (λ payload k. got t (payload ∷ []) k) (λ payload k. got_plain t (payload ∷ []) k)

waits_plain : (g : Views) (t callee canon index : ℕ) (h : Held) → PlainBy (cancel_open g t callee canon index h)
unfolding cancel_open
waits_plain g t callee canon index h =
    plain_if (g.flag canon) (got t (parts.blocked_word ∷ []) h) (after (awaited callee true h) (λ done k. blocked_in t canon (g.flag canon) (blocked_at.Cancel index) (reason.Cancel index) k))
    (got_plain t (parts.blocked_word ∷ []) h)
    (plain_after (awaited callee true h) (λ done k. blocked_in t canon (g.flag canon) (blocked_at.Cancel index) (reason.Cancel index) k)
    (λ done k. (blocked_in_plain t canon (g.flag canon) (blocked_at.Cancel index) (reason.Cancel index) k)))

cancelled_plain : (g : Views) (t at callee canon index : ℕ) (h : Held) → PlainBy (back_from_cancel g t at callee canon index h)
unfolding back_from_cancel
cancelled_plain g t at callee canon index h =
    plain_after (errand_set t errand.None h) (λ done k. after (resolved callee k) (λ is_over l. if is_over then cancel_resolved t at callee l else cancel_open g t callee canon index l))
    (λ done k.
    plain_after (resolved callee k) (λ is_over l. if is_over then cancel_resolved t at callee l else cancel_open g t callee canon index l)
    (λ is_over l. plain_if is_over (cancel_resolved t at callee l) (cancel_open g t callee canon index l) (over_plain t at callee l) (waits_plain g t callee canon index l)))

by_plain : (g : Views) (t at : ℕ) (e : Errand) (h : Held) → PlainBy (back_by g t at e h)
by_plain g t at errand.None h = tt
by_plain g t at (errand.AfterCall callee canon) h = called_plain g t at callee canon h
by_plain g t at (errand.AfterCancel callee canon index) h = cancelled_plain g t at callee canon index h
by_plain g t at (errand.Begins n) h = tt
by_plain g t at (errand.InBuiltin canon) h = tt

pub back_plain : (g : Views) (h : Held) → PlainBy (back g h)
unfolding back
back_plain g h =
    plain_after (acting h) (λ t k. after (instance_of t k) (λ at l. after (errand_of t l) (λ e m. back_by g t at e m)))
    (λ t k.
    plain_after (instance_of t k) (λ at l. after (errand_of t l) (λ e m. back_by g t at e m))
    (λ at l. plain_after (errand_of t l) (λ e m. back_by g t at e m) (λ e m. by_plain g t at e m)))
