-- Tasks that go on, and the script's calls: what is kept well stays so.
use Rattle.std.proofs.Common.{refl}
use Rattle.std.specs.Prelude.{ℕ, ◌+◌, if◌then◌else◌, List, [], ◌∷◌, ◌++◌, length}
use Rattle.entry_gate.specs.declared.kind.Kind.{Kind}
use Rattle.task_table.specs.declared.caller.Caller.TheVariants.{Host}
use Rattle.task_table.specs.declared.errand.Callee.TheVariants as callee
use Rattle.task_table.specs.declared.slot.TaskSlot.{TaskSlot}
use Rattle.task_table.specs.Slots.{new_slot}
use Rattle.task_table.specs.Tasks.{with_number, watching}
use Rattle.trace_labels.specs.declared.label.Label.TheVariants as line
use Rattle.trace_labels.specs.declared.typed.TypedValue.{TypedValue}
use Rattle.world_parts.specs.declared.parts.Rest.TheVariants as rest
use Rattle.world_parts.specs.declared.parts.Flow.TheVariants as flow
use Rattle.world_parts.specs.declared.parts.Turned.TheVariants as turned
use Rattle.world_parts.specs.Held.{Held, Gives, after, given}
use Rattle.world_parts.specs.Feed.{told, at_rest, spent, item_taken, acting, chained}
use Rattle.world_parts.specs.Channels.{numbered}
use Rattle.world_parts.specs.Slots.{cancellable, next_task, task_made, call_made}
use Rattle.world_parts.specs.Subtasks.{cancelled}
use Rattle.world_parts.specs.Turning.{gone, goes, call_taken, call_cancelled}
use Rattle.run_laws.specs.keeping.Well.{KeepsWell}
use Rattle.run_laws.proofs.well.Behind.{well_all, well_after, well_given, well_if}
use Rattle.run_laws.proofs.well.Made.{IsNew, well_more}
use Rattle.run_laws.proofs.well.Feed.{told_well, spent_well, item_taken_well, acting_well, chained_well}
use Rattle.run_laws.proofs.well.Slots.{cancellable_well, next_task_well, call_made_well}
use Rattle.run_laws.proofs.well.Subtasks.{cancelled_well}

pub gone_well : (t : ℕ) (h : Held) → KeepsWell h (gone t h)
unfolding gone
gone_well t h =
    well_after h (spent h) (λ done k. after (told (line.Go t) k) (λ done l. after (chained t l) (λ done m. Gives turned.GoesOn (at_rest rest.Resumes m)))) (spent_well h)
    (λ done k.
    well_after k (told (line.Go t) k) (λ done l. after (chained t l) (λ done m. Gives turned.GoesOn (at_rest rest.Resumes m))) (told_well (line.Go t) k)
    (λ done l.
    well_after l (chained t l) (λ done m. Gives turned.GoesOn (at_rest rest.Resumes m)) (chained_well t l) (λ done m. well_all m (at_rest rest.Resumes m) refl)))

pub goes_well : (h : Held) → KeepsWell h (goes h)
unfolding goes
goes_well h =
    well_after h (acting h) (λ t k. after (spent k) (λ done l. after (told (line.Go t) l) (λ done m. Gives (tt {0}) (at_rest rest.Resumes m)))) (acting_well h)
    (λ t k.
    well_after k (spent k) (λ done l. after (told (line.Go t) l) (λ done m. Gives (tt {0}) (at_rest rest.Resumes m))) (spent_well k)
    (λ done l. well_after l (told (line.Go t) l) (λ done m. Gives (tt {0}) (at_rest rest.Resumes m)) (told_well (line.Go t) l) (λ done m. well_all m (at_rest rest.Resumes m) refl)))

-- The script's next call makes a task.
host_new : (export instance call : ℕ) (kind : Kind) → IsNew (new_slot instance kind (callee.Export export) (Host call))
host_new export instance call kind = record { untold = λ called e. absurd (cc); unawaited = λ called e. absurd (cc); unresolved = refl; at_none = refl }

task_made_well : (slot : TaskSlot) (h : Held) → IsNew slot → KeepsWell h (task_made slot h)
task_made_well slot h new =
    well_more h (record h { tasks = h.tasks ++ slot ∷ []; live = with_number (length h.tasks) h.live; watched = watching (length h.tasks) h.watched }) slot refl new

pub call_taken_well : (export instance : ℕ) (kind : Kind) (name : List ℕ) (args : List TypedValue) (h : Held) → KeepsWell h (call_taken export instance kind name args h)
unfolding call_taken
call_taken_well export instance kind name args h =
    well_after h (spent h)
    (λ done k. after (item_taken k) (λ done l. after (next_task l) (λ t m.
    after (told (line.Take (length m.calls + 1) t name args) m) (λ done n.
    after (task_made (new_slot instance kind (callee.Export export) (Host (length m.calls + 1))) n) (λ made o.
    after (call_made t o) (λ done p. after (chained t p) (λ done q. Gives flow.Rests (at_rest rest.Arrives q))))))))
    (spent_well h)
    (λ done k.
    well_after k (item_taken k)
    (λ done l. after (next_task l) (λ t m.
    after (told (line.Take (length m.calls + 1) t name args) m) (λ done n.
    after (task_made (new_slot instance kind (callee.Export export) (Host (length m.calls + 1))) n) (λ made o.
    after (call_made t o) (λ done p. after (chained t p) (λ done q. Gives flow.Rests (at_rest rest.Arrives q)))))))
    (item_taken_well k)
    (λ done l.
    well_after l (next_task l)
    (λ t m.
    after (told (line.Take (length m.calls + 1) t name args) m) (λ done n.
    after (task_made (new_slot instance kind (callee.Export export) (Host (length m.calls + 1))) n) (λ made o.
    after (call_made t o) (λ done p. after (chained t p) (λ done q. Gives flow.Rests (at_rest rest.Arrives q))))))
    (next_task_well l)
    (λ t m.
    well_after m (told (line.Take (length m.calls + 1) t name args) m)
    (λ done n.
    after (task_made (new_slot instance kind (callee.Export export) (Host (length m.calls + 1))) n) (λ made o.
    after (call_made t o) (λ done p. after (chained t p) (λ done q. Gives flow.Rests (at_rest rest.Arrives q)))))
    (told_well (line.Take (length m.calls + 1) t name args) m)
    (λ done n.
    well_after n (task_made (new_slot instance kind (callee.Export export) (Host (length m.calls + 1))) n)
    (λ made o. after (call_made t o) (λ done p. after (chained t p) (λ done q. Gives flow.Rests (at_rest rest.Arrives q))))
    (task_made_well (new_slot instance kind (callee.Export export) (Host (length m.calls + 1))) n (host_new export instance (length m.calls + 1) kind))
    (λ made o.
    well_after o (call_made t o) (λ done p. after (chained t p) (λ done q. Gives flow.Rests (at_rest rest.Arrives q))) (call_made_well t o)
    (λ done p. well_after p (chained t p) (λ done q. Gives flow.Rests (at_rest rest.Arrives q)) (chained_well t p) (λ done q. well_all q (at_rest rest.Arrives q) refl)))))))

pub call_cancelled_well : (call : ℕ) (h : Held) → KeepsWell h (call_cancelled call h)
unfolding call_cancelled
call_cancelled_well call h =
    well_after h (spent h)
    (λ done k. after (item_taken k) (λ done l. given (numbered l.calls call) (λ t.
    after (told (line.Cancel call) l) (λ done m. after (cancellable t m) (λ may n. if may then cancelled t rest.Free n else Gives flow.Rests (at_rest rest.Free n))))))
    (spent_well h)
    (λ done k.
    well_after k (item_taken k)
    (λ done l. given (numbered l.calls call) (λ t.
    after (told (line.Cancel call) l) (λ done m. after (cancellable t m) (λ may n. if may then cancelled t rest.Free n else Gives flow.Rests (at_rest rest.Free n)))))
    (item_taken_well k)
    (λ done l.
    well_given l (numbered l.calls call)
    (λ t. after (told (line.Cancel call) l) (λ done m. after (cancellable t m) (λ may n. if may then cancelled t rest.Free n else Gives flow.Rests (at_rest rest.Free n))))
    (λ t is.
    well_after l (told (line.Cancel call) l) (λ done m. after (cancellable t m) (λ may n. if may then cancelled t rest.Free n else Gives flow.Rests (at_rest rest.Free n)))
    (told_well (line.Cancel call) l)
    (λ done m.
    well_after m (cancellable t m) (λ may n. if may then cancelled t rest.Free n else Gives flow.Rests (at_rest rest.Free n)) (cancellable_well t m)
    (λ may n. well_if n may (cancelled t rest.Free n) (Gives flow.Rests (at_rest rest.Free n)) (cancelled_well t rest.Free n) (well_all n (at_rest rest.Free n) refl))))))
