-- Calls (Component Model, CanonicalABI.md, `canon lower`, "Subtask State"; Concurrency.md): a task calls a function; its caller is told its state,
-- and gets back what was lent; and control is back at a task that called or cancelled another one.
use Rattle.std.specs.Prelude.{ℕ, ◌+◌, ◌*◌, Bool, true, false, if◌then◌else◌, List, [], ◌∷◌, length}
use Rattle.entry_gate.specs.declared.kind.Kind.{Kind}
use Rattle.tasks.specs.declared.event.BlockedAt.{BlockedAt}
use Rattle.tasks.specs.declared.event.BlockedAt.TheVariants as blocked_at
use Rattle.tasks.specs.declared.event.TaskEvent.TheVariants as event
use Rattle.task_table.specs.declared.caller.Caller.TheVariants.{Guest}
use Rattle.task_table.specs.declared.errand.Callee.{Callee}
use Rattle.task_table.specs.declared.errand.Errand.{Errand}
use Rattle.task_table.specs.declared.errand.Errand.TheVariants as errand
use Rattle.task_table.specs.Callers.{new_called}
use Rattle.task_table.specs.Slots.{new_slot}
use Rattle.instances.specs.declared.entry.WorldEntry.TheVariants as entry
use Rattle.world_parts.specs.Views.{Views}
use Rattle.trace_labels.specs.declared.label.BlockReason.{BlockReason}
use Rattle.trace_labels.specs.declared.label.BlockReason.TheVariants as reason
use Rattle.trace_labels.specs.declared.label.Label.TheVariants as line
use Rattle.trace_labels.specs.declared.trap.TrapName.TheVariants as trap
use Rattle.world_parts.specs.declared.parts.Rest.TheVariants as rest
use Rattle.world_parts.specs.declared.parts.Flow.{Flow}
use Rattle.world_parts.specs.declared.parts.Flow.TheVariants as flow
use Rattle.world_parts.specs.Held.{Held, Done, Gives, Traps, Stuck, after, given}
use Rattle.world_parts.specs.Feed.{told, at_rest, chained, acting, left_chain, got}
use Rattle.world_parts.specs.Entries.{entry_added, lend_ended}
use Rattle.world_parts.specs.Slots.{instance_of, errand_of, happens, errand_set, payload_found, lends_found, result_found, resolved, awaited, state_told, next_task, task_made, reenters}

-- what a call that does not wait answers where it would block
abbrev pub blocked_word : ℕ
blocked_word = 4294967295

-- A task blocks, in a canonical function of this number. Control goes to the task before it.
unfoldable pub blocked : ℕ → BlockedAt → Bool → BlockReason → Held → Done Flow
blocked t why flag reason h =
    after (happens t (event.Block why flag) h) (λ done k. after (told (line.Block t reason) k) (λ done l. left_chain l))

unfoldable pub blocked_in : ℕ → ℕ → Bool → BlockedAt → BlockReason → Held → Done Flow
blocked_in t canon flag why reason h =
    after (errand_set t (errand.InBuiltin canon) h) (λ done k. blocked t why flag reason k)

-- A task calls a function, by the canonical function of this number, and passes these words. Instances are counted from 1 in lines.
unfoldable pub call_begun : ℕ → ℕ → Callee → ℕ → Kind → List ℕ → Held → Done Flow
call_begun t canon callee instance kind words h =
    if reenters instance t h then Traps trap.Reentrant h else
    after (next_task h) (λ made k. after (errand_set t (errand.AfterCall made canon) k) (λ done l.
    after (task_made (new_slot instance kind callee (Guest (new_called t canon words made))) l) (λ number m.
    after (told (line.Call t made (instance + 1)) m) (λ done n. after (chained made n) (λ done o. Gives flow.Rests (at_rest rest.Arrives o))))))

-- Handles of an instance that were lent for the call of a task are given back, each with a line.
abbrev pub unlent : ℕ → ℕ → ℕ → Held → Done (Unit {0})
unlent at callee handle h = after (lend_ended at handle h) (λ done k. told (line.Unlend (at + 1) handle callee) k)

abbrev pub all_unlent : ℕ → ℕ → List ℕ → Held → Done (Unit {0})
all_unlent at callee [] h = Gives tt h
all_unlent at callee (handle ∷ handles) h = after (unlent at callee handle h) (λ done k. all_unlent at callee handles k)

unfoldable pub given_back : ℕ → ℕ → Held → Done (Unit {0})
given_back at callee h = after (lends_found callee h) (λ handles k. all_unlent at callee handles k)

-- The caller of a task, in this instance, is told the task's state. Once it has resolved, what was lent for the call is given back.
abbrev pub given_back_if : Bool → ℕ → ℕ → Held → Done (Unit {0})
given_back_if is_over at callee h = if is_over then given_back at callee h else Gives tt h

unfoldable pub subtask_told : ℕ → ℕ → Held → Done ℕ
subtask_told at callee h =
    after (resolved callee h) (λ is_over k. after (given_back_if is_over at callee k) (λ done l. state_told callee l))

-- Control is back at a task that called another one, which has resolved: a call that does not wait answers that it has returned;
unfoldable pub call_resolved : Views → ℕ → ℕ → ℕ → ℕ → Held → Done Flow
call_resolved g t at callee canon h =
    after (result_found callee h) (λ words k. after (subtask_told at callee k) (λ payload l.
    if g.is_async canon then got t (2 ∷ []) l else got t words l))

-- or which has not: a call that does not wait adds the subtask to the table, and answers its state and its index; another one blocks.
unfoldable pub call_open : Views → ℕ → ℕ → ℕ → ℕ → Held → Done Flow
call_open g t at callee canon h =
    if g.is_async canon
    then after (entry_added at (entry.Subtask callee) h) (λ index k. after (state_told callee k) (λ state l. got t ((state + 16 * index) ∷ []) l))
    else blocked_in t canon (g.flag canon) (blocked_at.Call callee) (reason.Call callee) h

unfoldable pub back_from_call : Views → ℕ → ℕ → ℕ → ℕ → Held → Done Flow
back_from_call g t at callee canon h =
    after (errand_set t errand.None h) (λ done k. after (resolved callee k) (λ is_over l.
    if is_over then call_resolved g t at callee canon l else call_open g t at callee canon l))

-- The same of one that cancelled a subtask, at this index.
unfoldable pub cancel_resolved : ℕ → ℕ → ℕ → Held → Done Flow
cancel_resolved t at callee h = after (subtask_told at callee h) (λ payload k. got t (payload ∷ []) k)

unfoldable pub cancel_open : Views → ℕ → ℕ → ℕ → ℕ → Held → Done Flow
cancel_open g t callee canon index h =
    if g.flag canon then got t (blocked_word ∷ []) h
    else after (awaited callee true h) (λ done k. blocked_in t canon (g.flag canon) (blocked_at.Cancel index) (reason.Cancel index) k)

unfoldable pub back_from_cancel : Views → ℕ → ℕ → ℕ → ℕ → ℕ → Held → Done Flow
back_from_cancel g t at callee canon index h =
    after (errand_set t errand.None h) (λ done k. after (resolved callee k) (λ is_over l.
    if is_over then cancel_resolved t at callee l else cancel_open g t callee canon index l))

abbrev pub back_by : Views → ℕ → ℕ → Errand → Held → Done Flow
back_by g t at errand.None h = Stuck
back_by g t at (errand.AfterCall callee canon) h = back_from_call g t at callee canon h
back_by g t at (errand.AfterCancel callee canon index) h = back_from_cancel g t at callee canon index h
back_by g t at (errand.Begins n) h = Stuck
back_by g t at (errand.InBuiltin canon) h = Stuck

-- Control is back at the acting task.
unfoldable pub back : Views → Held → Done Flow
back g h = after (acting h) (λ t k. after (instance_of t k) (λ at l. after (errand_of t l) (λ e m. back_by g t at e m)))
