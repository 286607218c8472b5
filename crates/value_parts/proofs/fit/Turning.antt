-- Turns leave the store alone, and no handle is lent more often.
use Rattle.std.proofs.Common.{◌≡◌, refl, Some}
use Rattle.std.specs.Prelude.{ℕ, ◌+◌, ◌-◌, nat_eq, nat_lt, Bool, true, false, ◌&&◌, ◌||◌, if◌then◌else◌, List, [], ◌∷◌, ◌++◌, length, filter, Option, Some, None, Result, Ok, Err}
use Rattle.std.specs.List.{slice_get, list_any}
use Rattle.entry_gate.specs.declared.kind.Kind.{Kind}
use Rattle.entry_gate.specs.declared.kind.Kind.TheVariants.{Sync}
use Rattle.entry_gate.specs.Gates as gate
use Rattle.entry_gate.specs.Gates.{is_free}
use Rattle.entry_gate.specs.Callbacks.{callback_of}
use Rattle.entry_gate.specs.declared.callback.BadCode.{BadCode}
use Rattle.entry_gate.specs.declared.callback.Next.{Next}
use Rattle.entry_gate.specs.declared.callback.Next.TheVariants as next
use Rattle.tasks.specs.declared.event.BlockedAt.{BlockedAt}
use Rattle.tasks.specs.declared.event.BlockedAt.TheVariants as blocked_at
use Rattle.tasks.specs.declared.phase.Phase.{Phase}
use Rattle.tasks.specs.declared.phase.Phase.TheVariants as phase
use Rattle.tasks.specs.Tasks.{is_asked}
use Rattle.task_table.specs.declared.caller.Caller.TheVariants.{Host}
use Rattle.task_table.specs.declared.errand.Callee.TheVariants as callee
use Rattle.task_table.specs.declared.slot.TaskSlot.{TaskSlot}
use Rattle.task_table.specs.Slots.{new_slot, is_to_be_told}
use Rattle.instances.specs.Instances.{InstanceView}
use Rattle.world_parts.specs.Views.{Views}
use Rattle.trace_labels.specs.declared.label.Label.TheVariants as line
use Rattle.trace_labels.specs.declared.typed.TypedValue.{TypedValue}
use Rattle.world_parts.specs.declared.parts.Rest.TheVariants as rest
use Rattle.world_parts.specs.declared.parts.Turned.{Turned}
use Rattle.world_parts.specs.declared.parts.Turned.TheVariants as turned
use Rattle.world_parts.specs.declared.parts.Flow.{Flow}
use Rattle.world_parts.specs.declared.parts.Flow.TheVariants as flow
use Rattle.world_parts.specs.Held.{Held, Done, Gives, after, given}
use Rattle.world_parts.specs.Feed.{told, at_rest, spent, item_taken, choice, acting, chained}
use Rattle.world_parts.specs.Slots.{cancellable, next_task, task_made, call_made}
use Rattle.world_parts.specs.Channels.{numbered}
use Rattle.world_parts.specs.News.{entry_in, index_is_ready, task_is_resolved, entry_is_pending, entry_is_resolved}
use Rattle.world_parts.specs.Subtasks.{cancelled}
use Rattle.world_parts.specs.Turning.{able, call_cancelled, call_taken, candidates, count_of, gate_is_free, gate_lets, goes, gone, is_able, lets_in, loop_is_over, phase_is_able, slot_is_able, taken, task_at, task_gone, turns_by, wait_is_over}
use Rattle.value_parts.proofs.fit.Keeps.{Keeps, KeepsBy, keeps_after, keeps_given, keeps_if, keeps_same, keeps_all, keeps_from, keeps_instance}
use Rattle.value_parts.proofs.fit.Feed.{acting_keeps, chained_keeps, choice_keeps, item_taken_keeps, spent_keeps, told_keeps}
use Rattle.value_parts.proofs.fit.Slots.{call_made_keeps, cancellable_keeps, next_task_keeps, task_made_keeps}
use Rattle.value_parts.proofs.fit.Subtasks.{cancelled_keeps}

pub gone_keeps : (t : ℕ) (h : Held) → KeepsBy h (gone t h)
unfolding gone
gone_keeps t h =
    keeps_after h (spent h) (λ done k. after (told (line.Go t) k) (λ done l. after (chained t l) (λ done m. Gives turned.GoesOn (at_rest rest.Resumes m)))) (spent_keeps h) (λ done k. keeps_after k (told (line.Go t) k) (λ done l. after (chained t l) (λ done m. Gives turned.GoesOn (at_rest rest.Resumes m))) (told_keeps (line.Go t) k) (λ done l. keeps_after l (chained t l) (λ done m. Gives turned.GoesOn (at_rest rest.Resumes m)) (chained_keeps t l) (λ done m. keeps_all m (at_rest rest.Resumes m) refl refl)))

pub goes_keeps : (h : Held) → KeepsBy h (goes h)
unfolding goes
goes_keeps h =
    keeps_after h (acting h) (λ t k. after (spent k) (λ done l. after (told (line.Go t) l) (λ done m. Gives (tt {0}) (at_rest rest.Resumes m)))) (acting_keeps h) (λ t k. keeps_after k (spent k) (λ done l. after (told (line.Go t) l) (λ done m. Gives (tt {0}) (at_rest rest.Resumes m))) (spent_keeps k) (λ done l. keeps_after l (told (line.Go t) l) (λ done m. Gives (tt {0}) (at_rest rest.Resumes m)) (told_keeps (line.Go t) l) (λ done m. keeps_all m (at_rest rest.Resumes m) refl refl)))

pub task_gone_keeps : (has_item : Bool) (number : ℕ) (tasks : List ℕ) (h : Held) → KeepsBy h (task_gone has_item number tasks h)
unfolding task_gone
task_gone_keeps has_item number tasks h =
    keeps_given h (task_at has_item number tasks) (λ t. gone t h) (λ t is. gone_keeps t h)

pub taken_keeps : (has_item : Bool) (tasks : List ℕ) (h : Held) → KeepsBy h (taken has_item tasks h)
unfolding taken
taken_keeps has_item tasks h =
    keeps_after h (choice (count_of has_item tasks) h) (λ number k. if has_item && nat_eq number 0 then Gives turned.TakesItem k else task_gone has_item number tasks k) (choice_keeps (count_of has_item tasks) h) (λ number k. keeps_if k (has_item && nat_eq number 0) (Gives turned.TakesItem k) (task_gone has_item number tasks k) (keeps_same k) (task_gone_keeps has_item number tasks k))

pub turns_by_keeps : (has_item : Bool) (tasks : List ℕ) (h : Held) → KeepsBy h (turns_by has_item tasks h)
unfolding turns_by
turns_by_keeps has_item tasks h =
    keeps_if h (nat_eq (count_of has_item tasks) 0) (Gives turned.Ends h) (taken has_item tasks h) (keeps_same h) (taken_keeps has_item tasks h)

pub call_taken_keeps : (export : ℕ) (instance : ℕ) (kind : Kind) (name : List ℕ) (args : List TypedValue) (h : Held) → KeepsBy h (call_taken export instance kind name args h)
unfolding call_taken
call_taken_keeps export instance kind name args h =
    keeps_after h (spent h) (λ done k. after (item_taken k) (λ done l. after (next_task l) (λ t m. after (told (line.Take (length m.calls + 1) t name args) m) (λ done n. after (task_made (new_slot instance kind (callee.Export export) (Host (length m.calls + 1))) n) (λ made o. after (call_made t o) (λ done p. after (chained t p) (λ done q. Gives flow.Rests (at_rest rest.Arrives q)))))))) (spent_keeps h) (λ done k. keeps_after k (item_taken k) (λ done l. after (next_task l) (λ t m. after (told (line.Take (length m.calls + 1) t name args) m) (λ done n. after (task_made (new_slot instance kind (callee.Export export) (Host (length m.calls + 1))) n) (λ made o. after (call_made t o) (λ done p. after (chained t p) (λ done q. Gives flow.Rests (at_rest rest.Arrives q))))))) (item_taken_keeps k) (λ done l. keeps_after l (next_task l) (λ t m. after (told (line.Take (length m.calls + 1) t name args) m) (λ done n. after (task_made (new_slot instance kind (callee.Export export) (Host (length m.calls + 1))) n) (λ made o. after (call_made t o) (λ done p. after (chained t p) (λ done q. Gives flow.Rests (at_rest rest.Arrives q)))))) (next_task_keeps l) (λ t m. keeps_after m (told (line.Take (length m.calls + 1) t name args) m) (λ done n. after (task_made (new_slot instance kind (callee.Export export) (Host (length m.calls + 1))) n) (λ made o. after (call_made t o) (λ done p. after (chained t p) (λ done q. Gives flow.Rests (at_rest rest.Arrives q))))) (told_keeps (line.Take (length m.calls + 1) t name args) m) (λ done n. keeps_after n (task_made (new_slot instance kind (callee.Export export) (Host (length m.calls + 1))) n) (λ made o. after (call_made t o) (λ done p. after (chained t p) (λ done q. Gives flow.Rests (at_rest rest.Arrives q)))) (task_made_keeps (new_slot instance kind (callee.Export export) (Host (length m.calls + 1))) n) (λ made o. keeps_after o (call_made t o) (λ done p. after (chained t p) (λ done q. Gives flow.Rests (at_rest rest.Arrives q))) (call_made_keeps t o) (λ done p. keeps_after p (chained t p) (λ done q. Gives flow.Rests (at_rest rest.Arrives q)) (chained_keeps t p) (λ done q. keeps_all q (at_rest rest.Arrives q) refl refl)))))))

pub call_cancelled_keeps : (call : ℕ) (h : Held) → KeepsBy h (call_cancelled call h)
unfolding call_cancelled
call_cancelled_keeps call h =
    keeps_after h (spent h) (λ done k. after (item_taken k) (λ done l. given (numbered l.calls call) (λ t. after (told (line.Cancel call) l) (λ done m. after (cancellable t m) (λ may n. if may then cancelled t rest.Free n else Gives flow.Rests (at_rest rest.Free n)))))) (spent_keeps h) (λ done k. keeps_after k (item_taken k) (λ done l. given (numbered l.calls call) (λ t. after (told (line.Cancel call) l) (λ done m. after (cancellable t m) (λ may n. if may then cancelled t rest.Free n else Gives flow.Rests (at_rest rest.Free n))))) (item_taken_keeps k) (λ done l. keeps_given l (numbered l.calls call) (λ t. after (told (line.Cancel call) l) (λ done m. after (cancellable t m) (λ may n. if may then cancelled t rest.Free n else Gives flow.Rests (at_rest rest.Free n)))) (λ t is. keeps_after l (told (line.Cancel call) l) (λ done m. after (cancellable t m) (λ may n. if may then cancelled t rest.Free n else Gives flow.Rests (at_rest rest.Free n))) (told_keeps (line.Cancel call) l) (λ done m. keeps_after m (cancellable t m) (λ may n. if may then cancelled t rest.Free n else Gives flow.Rests (at_rest rest.Free n)) (cancellable_keeps t m) (λ may n. keeps_if n (may) (cancelled t rest.Free n) (Gives flow.Rests (at_rest rest.Free n)) (cancelled_keeps t rest.Free n) (keeps_all n (at_rest rest.Free n) refl refl))))))
