-- Turns keep memories, core instances and ends as they are kept.
use Rattle.std.proofs.Common.{refl}
use Rattle.std.specs.Prelude.{ℕ, ◌+◌, nat_eq, Bool, ◌&&◌, if◌then◌else◌, List, length}
use Rattle.entry_gate.specs.declared.kind.Kind.{Kind}
use Rattle.task_table.specs.declared.caller.Caller.TheVariants.{Host}
use Rattle.task_table.specs.declared.errand.Callee.TheVariants as callee
use Rattle.task_table.specs.Slots.{new_slot}
use Rattle.trace_labels.specs.declared.label.Label.TheVariants as line
use Rattle.trace_labels.specs.declared.typed.TypedValue.{TypedValue}
use Rattle.world_parts.specs.declared.parts.Rest.TheVariants as rest
use Rattle.world_parts.specs.declared.parts.Turned.TheVariants as turned
use Rattle.world_parts.specs.declared.parts.Flow.TheVariants as flow
use Rattle.world_parts.specs.Held.{Held, Gives, after, given}
use Rattle.world_parts.specs.Feed.{told, at_rest, spent, item_taken, choice, acting, chained}
use Rattle.world_parts.specs.Slots.{cancellable, next_task, task_made, call_made}
use Rattle.world_parts.specs.Channels.{numbered}
use Rattle.world_parts.specs.Subtasks.{cancelled}
use Rattle.world_parts.specs.Turning.{call_cancelled, call_taken, count_of, goes, gone, taken, task_at, task_gone, turns_by}
use Rattle.run_laws.proofs.keeping.still.Still.{Kinds, StillBy, still_after, still_given, still_if, still_same, still_all}
use Rattle.run_laws.proofs.keeping.still.Feed.{acting_still, chained_still, choice_still, item_taken_still, spent_still, told_still}
use Rattle.run_laws.proofs.keeping.still.Slots.{call_made_still, cancellable_still, next_task_still, task_made_still}
use Rattle.run_laws.proofs.keeping.still.Subtasks.{cancelled_still}

pub gone_still : (W : Kinds) → (t : ℕ) (h : Held) → StillBy W h (gone t h)
unfolding gone
gone_still W t h =
    still_after W h (spent h) (λ done k. after (told (line.Go t) k) (λ done l. after (chained t l) (λ done m. Gives turned.GoesOn (at_rest rest.Resumes m)))) (spent_still W h) (λ done k. still_after W k (told (line.Go t) k) (λ done l. after (chained t l) (λ done m. Gives turned.GoesOn (at_rest rest.Resumes m))) (told_still W (line.Go t) k) (λ done l. still_after W l (chained t l) (λ done m. Gives turned.GoesOn (at_rest rest.Resumes m)) (chained_still W t l) (λ done m. still_all W m (at_rest rest.Resumes m) refl refl refl refl refl)))

pub goes_still : (W : Kinds) → (h : Held) → StillBy W h (goes h)
unfolding goes
goes_still W h =
    still_after W h (acting h) (λ t k. after (spent k) (λ done l. after (told (line.Go t) l) (λ done m. Gives (tt {0}) (at_rest rest.Resumes m)))) (acting_still W h) (λ t k. still_after W k (spent k) (λ done l. after (told (line.Go t) l) (λ done m. Gives (tt {0}) (at_rest rest.Resumes m))) (spent_still W k) (λ done l. still_after W l (told (line.Go t) l) (λ done m. Gives (tt {0}) (at_rest rest.Resumes m)) (told_still W (line.Go t) l) (λ done m. still_all W m (at_rest rest.Resumes m) refl refl refl refl refl)))

pub task_gone_still : (W : Kinds) → (has_item : Bool) (number : ℕ) (tasks : List ℕ) (h : Held) → StillBy W h (task_gone has_item number tasks h)
unfolding task_gone
task_gone_still W has_item number tasks h =
    still_given W h (task_at has_item number tasks) (λ t. gone t h) (λ t is. gone_still W t h)

pub taken_still : (W : Kinds) → (has_item : Bool) (tasks : List ℕ) (h : Held) → StillBy W h (taken has_item tasks h)
unfolding taken
taken_still W has_item tasks h =
    still_after W h (choice (count_of has_item tasks) h) (λ number k. if has_item && nat_eq number 0 then Gives turned.TakesItem k else task_gone has_item number tasks k) (choice_still W (count_of has_item tasks) h) (λ number k. still_if W k (has_item && nat_eq number 0) (Gives turned.TakesItem k) (task_gone has_item number tasks k) (still_same W k) (task_gone_still W has_item number tasks k))

pub turns_by_still : (W : Kinds) → (has_item : Bool) (tasks : List ℕ) (h : Held) → StillBy W h (turns_by has_item tasks h)
unfolding turns_by
turns_by_still W has_item tasks h =
    still_if W h (nat_eq (count_of has_item tasks) 0) (Gives turned.Ends h) (taken has_item tasks h) (still_same W h) (taken_still W has_item tasks h)

pub call_taken_still : (W : Kinds) → (export : ℕ) (instance : ℕ) (kind : Kind) (name : List ℕ) (args : List TypedValue) (h : Held) → StillBy W h (call_taken export instance kind name args h)
unfolding call_taken
call_taken_still W export instance kind name args h =
    still_after W h (spent h) (λ done k. after (item_taken k) (λ done l. after (next_task l) (λ t m. after (told (line.Take (length m.calls + 1) t name args) m) (λ done n. after (task_made (new_slot instance kind (callee.Export export) (Host (length m.calls + 1))) n) (λ made o. after (call_made t o) (λ done p. after (chained t p) (λ done q. Gives flow.Rests (at_rest rest.Arrives q)))))))) (spent_still W h) (λ done k. still_after W k (item_taken k) (λ done l. after (next_task l) (λ t m. after (told (line.Take (length m.calls + 1) t name args) m) (λ done n. after (task_made (new_slot instance kind (callee.Export export) (Host (length m.calls + 1))) n) (λ made o. after (call_made t o) (λ done p. after (chained t p) (λ done q. Gives flow.Rests (at_rest rest.Arrives q))))))) (item_taken_still W k) (λ done l. still_after W l (next_task l) (λ t m. after (told (line.Take (length m.calls + 1) t name args) m) (λ done n. after (task_made (new_slot instance kind (callee.Export export) (Host (length m.calls + 1))) n) (λ made o. after (call_made t o) (λ done p. after (chained t p) (λ done q. Gives flow.Rests (at_rest rest.Arrives q)))))) (next_task_still W l) (λ t m. still_after W m (told (line.Take (length m.calls + 1) t name args) m) (λ done n. after (task_made (new_slot instance kind (callee.Export export) (Host (length m.calls + 1))) n) (λ made o. after (call_made t o) (λ done p. after (chained t p) (λ done q. Gives flow.Rests (at_rest rest.Arrives q))))) (told_still W (line.Take (length m.calls + 1) t name args) m) (λ done n. still_after W n (task_made (new_slot instance kind (callee.Export export) (Host (length m.calls + 1))) n) (λ made o. after (call_made t o) (λ done p. after (chained t p) (λ done q. Gives flow.Rests (at_rest rest.Arrives q)))) (task_made_still W (new_slot instance kind (callee.Export export) (Host (length m.calls + 1))) n) (λ made o. still_after W o (call_made t o) (λ done p. after (chained t p) (λ done q. Gives flow.Rests (at_rest rest.Arrives q))) (call_made_still W t o) (λ done p. still_after W p (chained t p) (λ done q. Gives flow.Rests (at_rest rest.Arrives q)) (chained_still W t p) (λ done q. still_all W q (at_rest rest.Arrives q) refl refl refl refl refl)))))))

pub call_cancelled_still : (W : Kinds) → (call : ℕ) (h : Held) → StillBy W h (call_cancelled call h)
unfolding call_cancelled
call_cancelled_still W call h =
    still_after W h (spent h) (λ done k. after (item_taken k) (λ done l. given (numbered l.calls call) (λ t. after (told (line.Cancel call) l) (λ done m. after (cancellable t m) (λ may n. if may then cancelled t rest.Free n else Gives flow.Rests (at_rest rest.Free n)))))) (spent_still W h) (λ done k. still_after W k (item_taken k) (λ done l. given (numbered l.calls call) (λ t. after (told (line.Cancel call) l) (λ done m. after (cancellable t m) (λ may n. if may then cancelled t rest.Free n else Gives flow.Rests (at_rest rest.Free n))))) (item_taken_still W k) (λ done l. still_given W l (numbered l.calls call) (λ t. after (told (line.Cancel call) l) (λ done m. after (cancellable t m) (λ may n. if may then cancelled t rest.Free n else Gives flow.Rests (at_rest rest.Free n)))) (λ t is. still_after W l (told (line.Cancel call) l) (λ done m. after (cancellable t m) (λ may n. if may then cancelled t rest.Free n else Gives flow.Rests (at_rest rest.Free n))) (told_still W (line.Cancel call) l) (λ done m. still_after W m (cancellable t m) (λ may n. if may then cancelled t rest.Free n else Gives flow.Rests (at_rest rest.Free n)) (cancellable_still W t m) (λ may n. still_if W n (may) (cancelled t rest.Free n) (Gives flow.Rests (at_rest rest.Free n)) (cancelled_still W t rest.Free n) (still_all W n (at_rest rest.Free n) refl refl refl refl refl))))))
