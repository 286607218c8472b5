-- Tasks that go on, come to their end and resolve, and the script's calls, keep all marks.
use Rattle.std.proofs.Common.{◌≡◌, refl}
use Rattle.std.specs.Prelude.{ℕ, ◌+◌, ◌-◌, nat_lt, Bool, true, false, if◌then◌else◌, List, [], ◌∷◌, ◌++◌, length, Option, Some, is_none}
use Rattle.std.specs.List.{slice_get}
use Rattle.entry_gate.specs.declared.kind.Kind.{Kind}
use Rattle.tasks.specs.Tasks.{may_cancel}
use Rattle.task_table.specs.declared.caller.Caller.TheVariants.{Host}
use Rattle.task_table.specs.declared.errand.Callee.TheVariants as callee
use Rattle.task_table.specs.declared.slot.TaskSlot.{TaskSlot}
use Rattle.task_table.specs.Slots.{new_slot}
use Rattle.task_table.specs.Tasks.{with_number, watching}
use Rattle.trace_labels.specs.declared.label.Label.TheVariants as line
use Rattle.trace_labels.specs.declared.trap.TrapName.TheVariants as trap
use Rattle.trace_labels.specs.declared.typed.TypedValue.{TypedValue}
use Rattle.world_parts.specs.declared.parts.Rest.TheVariants as rest
use Rattle.world_parts.specs.declared.parts.Flow.TheVariants as flow
use Rattle.world_parts.specs.declared.parts.Turned.TheVariants as turned
use Rattle.world_parts.specs.Held.{Held, Done, Gives, Traps, Spent, after, given}
use Rattle.world_parts.specs.Feed.{told, at_rest, spent, chained}
use Rattle.world_parts.specs.Channels.{numbered}
use Rattle.world_parts.specs.Slots.{cancellable}
use Rattle.world_parts.specs.Plain.{returned}
use Rattle.world_parts.specs.Subtasks.{cancelled}
use Rattle.world_parts.specs.Going.{ending}
use Rattle.world_parts.specs.Turning.{gone, goes, call_taken, call_cancelled}
use Rattle.standing.proofs.marks.Plain.{returned_stays}
use Rattle.standing.proofs.marks.Subtasks.{cancelled_stays}
use Rattle.standing.proofs.marks.Tasks.{tasks_stay_more}
use Rattle.run_laws.specs.keeping.Kept.{KeepsMarks, NumbersThere, RunsFunction}
use Rattle.run_laws.proofs.keeping.Every.{all_marks, all_by, every_all, every_from, every_given, every_if, look_every}
use Rattle.run_laws.proofs.keeping.Made.{tasks_keep_more}
use Rattle.run_laws.proofs.keeping.parts.Plain.{returned_keeps}
use Rattle.run_laws.proofs.keeping.parts.Subtasks.{cancelled_keeps}

-- A task comes to its end, where it has resolved.
pub ending_marks : (t : ℕ) (h : Held) → KeepsMarks h (ending t h)
unfolding ending
ending_marks t h =
    look_every h (slice_get h.tasks t) (λ x. Gives x.task.resolution h)
    (λ resolution k. if is_none resolution then Traps trap.Unresolved k else Gives flow.Rests (at_rest rest.Leaves k))
    (λ x is.
    every_if h (is_none x.task.resolution) (Traps trap.Unresolved h) (Gives flow.Rests (at_rest rest.Leaves h)) (λ marks. marks.lends) (every_all h (at_rest rest.Leaves h) refl refl))

pub returned_marks : (t : ℕ) (value : Option TypedValue) (h : Held) → KeepsMarks h (returned t value h)
returned_marks t value h = all_by h (returned t value h) (returned_stays t value h) (returned_keeps t value h)

-- A unit is spent, where one is left.
spent_every : {A : Type 0} (h : Held) (c : Unit {0} → Held → Done A) → KeepsMarks h (c tt (record h { left = h.left - 1 })) → KeepsMarks h (after (spent h) c)
spent_every h c p = by_bool (nat_lt 0 h.left) h c p
  where
    by_bool : {A : Type 0} (b : Bool) (h : Held) (c : Unit {0} → Held → Done A) → KeepsMarks h (c tt (record h { left = h.left - 1 }))
        → KeepsMarks h (after (if b then Gives tt (record h { left = h.left - 1 }) else Spent (record h { left = h.left - 1 })) c)
    by_bool true h c p = p
    by_bool false h c p = tt

-- A task goes on, by its line.
pub gone_on_marks : (t : ℕ) (h : Held) → KeepsMarks h (gone t h)
unfolding gone
gone_on_marks t h =
    spent_every h (λ done k. after (told (line.Go t) k) (λ done l. after (chained t l) (λ done m. Gives turned.GoesOn (at_rest rest.Resumes m))))
    (let k : Held = record h { left = h.left - 1 } in
    let l : Held = record k { labels = k.labels ++ line.Go t ∷ [] } in
    let m : Held = record l { chain = l.chain ++ t ∷ [] } in
    every_all h (at_rest rest.Resumes m) refl refl)

pub goes_on_marks : (h : Held) → KeepsMarks h (goes h)
unfolding goes
goes_on_marks h =
    look_every h (slice_get h.chain (length h.chain - 1)) (λ t. Gives t h)
    (λ t k. after (spent k) (λ done l. after (told (line.Go t) l) (λ done m. Gives tt (at_rest rest.Resumes m))))
    (λ t acts.
    spent_every h (λ done l. after (told (line.Go t) l) (λ done m. Gives tt (at_rest rest.Resumes m)))
    (let l : Held = record h { left = h.left - 1 } in
    let m : Held = record l { labels = l.labels ++ line.Go t ∷ [] } in
    every_all h (at_rest rest.Resumes m) refl refl))

-- The script's next call makes a task.
pub call_taken_marks : (export instance : ℕ) (kind : Kind) (name : List ℕ) (args : List TypedValue) (h : Held) → NumbersThere h → KeepsMarks h (call_taken export instance kind name args h)
unfolding call_taken
call_taken_marks export instance kind name args h numbers =
    spent_every h
    (λ done k. after (Gives (tt {0}) (record k { taken = k.taken + 1 })) (λ done l. after (Gives (length l.tasks) l) (λ t m.
    after (told (line.Take (length m.calls + 1) t name args) m) (λ done n.
    after (Gives (length n.tasks) (record n { tasks = n.tasks ++ new_slot instance kind (callee.Export export) (Host (length m.calls + 1)) ∷ []; live = with_number (length n.tasks) n.live; watched = watching (length n.tasks) n.watched })) (λ made o.
    after (Gives (tt {0}) (record o { calls = o.calls ++ t ∷ [] })) (λ done p. after (chained t p) (λ done q. Gives flow.Rests (at_rest rest.Arrives q))))))))
    (let slot : TaskSlot = new_slot instance kind (callee.Export export) (Host (length h.calls + 1)) in
    let k : Held = record h {
      left = h.left - 1;
      taken = h.taken + 1;
      labels = h.labels ++ line.Take (length h.calls + 1) (length h.tasks) name args ∷ [];
      tasks = h.tasks ++ slot ∷ [];
      live = with_number (length h.tasks) h.live;
      watched = watching (length h.tasks) h.watched;
      calls = h.calls ++ length h.tasks ∷ [];
      chain = h.chain ++ length h.tasks ∷ [];
      rest = rest.Arrives;
    } in
    all_marks h k (tasks_stay_more h k slot refl refl refl) (tasks_keep_more h k slot refl refl numbers (record { outside = refl; none = refl; unlent = λ p index. refl }) tt))

-- A call of the script is cancelled, whose task runs a function.
pub call_cancelled_marks : (call : ℕ) (h : Held) → ((t : ℕ) → numbered h.calls call ≡ Some t → RunsFunction h t) → KeepsMarks h (call_cancelled call h)
unfolding call_cancelled
call_cancelled_marks call h runs =
    spent_every h
    (λ done k. after (Gives (tt {0}) (record k { taken = k.taken + 1 })) (λ done l. given (numbered l.calls call) (λ t.
    after (told (line.Cancel call) l) (λ done m. after (cancellable t m) (λ may n. if may then cancelled t rest.Free n else Gives flow.Rests (at_rest rest.Free n))))))
    (let l : Held = record h { left = h.left - 1; taken = h.taken + 1 } in
    every_given h (numbered h.calls call)
    (λ t. after (told (line.Cancel call) l) (λ done m. after (cancellable t m) (λ may n. if may then cancelled t rest.Free n else Gives flow.Rests (at_rest rest.Free n))))
    (λ t is.
    let m : Held = record l { labels = l.labels ++ line.Cancel call ∷ [] } in
    every_from h m (after (cancellable t m) (λ may n. if may then cancelled t rest.Free n else Gives flow.Rests (at_rest rest.Free n))) refl refl
    (look_every m (slice_get m.tasks t) (λ x. Gives (may_cancel x.task) m) (λ may n. if may then cancelled t rest.Free n else Gives flow.Rests (at_rest rest.Free n))
    (λ x there.
    every_if m (may_cancel x.task) (cancelled t rest.Free m) (Gives flow.Rests (at_rest rest.Free m))
    (all_by m (cancelled t rest.Free m) (cancelled_stays t rest.Free m (λ y found. runs t is y found)) (cancelled_keeps t rest.Free m)) (every_all m (at_rest rest.Free m) refl refl)))))
