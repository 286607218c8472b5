-- A task that enters, and one that returns, leave tables, and what is lent for calls, as they were.
use Rattle.std.proofs.Common.{◌≡◌, ◌∙◌, ℕ, nat_lt, Bool, true, false, if◌then◌else◌, ◌++◌, ◌∷◌, [], Option, Some, None, refl, sym, ap}
use Rattle.std.specs.Prelude.{Err}
use Rattle.std.specs.List.{slice_get}
use Rattle.entry_gate.specs.declared.kind.Kind.{Kind}
use Rattle.entry_gate.specs.Gates as gate
use Rattle.entry_gate.specs.Gates.{without_wait}
use Rattle.tasks.specs.declared.event.TaskEvent.{TaskEvent}
use Rattle.tasks.specs.declared.event.TaskEvent.TheVariants as event
use Rattle.tasks.specs.declared.event.TaskTrap.{TaskTrap}
use Rattle.tasks.specs.declared.subtask_state.SubtaskState.{SubtaskState}
use Rattle.tasks.specs.declared.subtask_state.SubtaskState.TheVariants as state
use Rattle.tasks.specs.Subtasks.{follows}
use Rattle.tasks.specs.Subtasks as subtasks
use Rattle.tasks.specs.Tasks as tasks
use Rattle.tasks.specs.Tasks.{may_happen, fault, unless}
use Rattle.tasks.specs.Views.{TaskView}
use Rattle.instances.specs.Instances.{with_gate}
use Rattle.task_table.specs.declared.caller.Called.{Called}
use Rattle.task_table.specs.declared.caller.Caller.{Caller}
use Rattle.task_table.specs.declared.caller.Caller.TheVariants.{Nobody, Host, Guest}
use Rattle.task_table.specs.declared.refusal.EventError.TheVariants as event_error
use Rattle.task_table.specs.declared.slot.TaskSlot.{TaskSlot}
use Rattle.task_table.specs.Callers as callers
use Rattle.task_table.specs.Callers.{changed, may_raise}
use Rattle.task_table.specs.Slots as slots
use Rattle.task_table.specs.Slots.{trapped, event_answer, advanced_slot, raised_slot}
use Rattle.task_table.specs.Tasks.{watching}
use Rattle.trace_labels.specs.declared.label.Label.{Label}
use Rattle.trace_labels.specs.declared.label.Label.TheVariants as line
use Rattle.trace_labels.specs.declared.typed.TypedValue.{TypedValue}
use Rattle.world_parts.specs.Held.{Held, Done, Gives, Stuck, after, given}
use Rattle.world_parts.specs.Entries.{with_instance}
use Rattle.world_parts.specs.Feed.{told}
use Rattle.world_parts.specs.Gates.{gate_unwaited, gate_entered}
use Rattle.world_parts.specs.Slots.{with_task, instance_of, kind_of, phase_of, happened, happens, raised, unparked}
use Rattle.world_parts.specs.Going.{unwaited_if, waits_to_enter, enters}
use Rattle.world_parts.specs.Plain.{returned}
use Rattle.run_laws.proofs.keeping.Alike.{guest_same, if_field, raised_alike}
use Rattle.run_laws.proofs.keeping.Prior.{QuietBy, quiet_all, quiet_same, quiet_task, quiet_instance, quiet_after, quiet_given, quiet_if}

-- What happens to a task, and a state that rises.
happened_quiet : (h : Held) (t : ℕ) (x : TaskSlot) (later : TaskView) (b : Bool) (o : Option TaskTrap) → slice_get h.tasks t ≡ Some x
    → QuietBy h (happened (if b then trapped o else Err event_error.NotNow) t (if b then slots.with_task (unless o later x.task) x else x) h)
happened_quiet h t x later true None is =
    quiet_task h t x (slots.with_task later x) is (λ n. refl) (λ p index. refl) (record { instance = refl; callee = refl; calls = λ called e. (called, e, refl, refl, refl) })
happened_quiet h t x later true (Some why) is =
    quiet_task h t x (slots.with_task x.task x) is (λ n. refl) (λ p index. refl) (record { instance = refl; callee = refl; calls = λ called e. (called, e, refl, refl, refl) })
happened_quiet h t x later false o is = tt

pub happens_quiet : (t : ℕ) (e : TaskEvent) (h : Held) → QuietBy h (happens t e h)
happens_quiet t e h =
    quiet_given h (slice_get h.tasks t) (λ slot. happened (event_answer e slot.task) t (advanced_slot e slot) h)
    (λ x is. happened_quiet h t x (tasks.after e x.task) (may_happen e x.task) (fault e x.task) is)

raised_calls : (now : SubtaskState) (c : Caller) (called : Called) → changed (callers.raised now) c ≡ Guest called
    → (prior : Called) × (c ≡ Guest prior) × (called.by ≡ prior.by) × (called.canon ≡ prior.canon) × (called.words ≡ prior.words)
raised_calls now Nobody called e = absurd (cc)
raised_calls now (Host call) called e = absurd (cc)
raised_calls now (Guest x) called e =
    let same : callers.raised now x ≡ called = guest_same e in (
      x,
      refl,
      ap (λ (c : Called). c.by) (sym same) ∙ if_field (λ (d : Called). d.by) (follows x.subtask.state now) (callers.with_subtask (subtasks.raised now x.subtask) x) x refl,
      ap (λ (c : Called). c.canon) (sym same) ∙ if_field (λ (d : Called). d.canon) (follows x.subtask.state now) (callers.with_subtask (subtasks.raised now x.subtask) x) x refl,
      ap (λ (c : Called). c.words) (sym same) ∙ if_field (λ (d : Called). d.words) (follows x.subtask.state now) (callers.with_subtask (subtasks.raised now x.subtask) x) x refl,
    )

pub raised_quiet : (t : ℕ) (now : SubtaskState) (h : Held) → QuietBy h (raised t now h)
raised_quiet t now h =
    quiet_given h (slice_get h.tasks t) (λ slot. if may_raise now slot.caller then Gives (tt {0}) (with_task t (raised_slot now slot) h) else Stuck)
    (λ x is.
    quiet_if h (may_raise now x.caller) (Gives (tt {0}) (with_task t (raised_slot now x) h)) Stuck
    (quiet_task h t x (raised_slot now x) is (λ n. refl) (λ p index. (raised_alike now x).lends p index)
    (record { instance = refl; callee = refl; calls = λ called e. raised_calls now x.caller called e })) tt)

told_quiet : (label : Label) (h : Held) → QuietBy h (told label h)
told_quiet label h = quiet_all h (record h { labels = h.labels ++ label ∷ [] }) refl refl refl refl

-- The gate.
unwaited_quiet : (at : ℕ) (h : Held) → QuietBy h (gate_unwaited at h)
unwaited_quiet at h =
    quiet_given h (slice_get h.instances at) (λ i. if nat_lt 0 i.gate.waiting then Gives tt (with_instance at (with_gate (without_wait i.gate) i) h) else Stuck)
    (λ i is.
    quiet_if h (nat_lt 0 i.gate.waiting) (Gives tt (with_instance at (with_gate (without_wait i.gate) i) h)) Stuck
    (quiet_instance h at i (with_gate (without_wait i.gate) i) is refl) tt)

wait_quiet : (b : Bool) (t at : ℕ) (h : Held) → QuietBy h (unwaited_if b t at h)
wait_quiet true t at h =
    quiet_after h (gate_unwaited at h) (λ done k. unparked t k) (unwaited_quiet at h) (λ done k. quiet_all k (record k { watched = watching t k.watched }) refl refl refl refl)
wait_quiet false t at h = quiet_same h

entered_quiet : (at t : ℕ) (kind : Kind) (h : Held) → QuietBy h (gate_entered at t kind h)
entered_quiet at t kind h =
    quiet_given h (slice_get h.instances at) (λ i. Gives tt (with_instance at (with_gate (gate.entered t kind i.gate) i) h))
    (λ i is. quiet_instance h at i (with_gate (gate.entered t kind i.gate) i) is refl)

looked_quiet : {A : Type 0} (h : Held) (o : Option TaskSlot) (f : TaskSlot → A) → QuietBy h (let d : Done A = given o (λ slot. Gives (f slot) h) in d)
looked_quiet h o f = quiet_given h o (λ slot. Gives (f slot) h) (λ slot is. quiet_same h)

pub enters_quiet : (t : ℕ) (h : Held) → QuietBy h (enters t h)
unfolding enters
enters_quiet t h =
    quiet_after h (instance_of t h)
    (λ at k. after (kind_of t k) (λ kind l. after (phase_of t l) (λ far m. after (unwaited_if (waits_to_enter far) t at m) (λ done n.
    after (gate_entered at t kind n) (λ done o. after (happens t event.Enter o) (λ done p. after (raised t state.Started p) (λ done q. told (line.Enter t) q)))))))
    (looked_quiet h (slice_get h.tasks t) (λ slot. slot.instance))
    (λ at k.
    quiet_after k (kind_of t k)
    (λ kind l. after (phase_of t l) (λ far m. after (unwaited_if (waits_to_enter far) t at m) (λ done n.
    after (gate_entered at t kind n) (λ done o. after (happens t event.Enter o) (λ done p. after (raised t state.Started p) (λ done q. told (line.Enter t) q))))))
    (looked_quiet k (slice_get k.tasks t) (λ slot. slot.task.kind))
    (λ kind l.
    quiet_after l (phase_of t l)
    (λ far m. after (unwaited_if (waits_to_enter far) t at m) (λ done n.
    after (gate_entered at t kind n) (λ done o. after (happens t event.Enter o) (λ done p. after (raised t state.Started p) (λ done q. told (line.Enter t) q)))))
    (looked_quiet l (slice_get l.tasks t) (λ slot. slot.task.phase))
    (λ far m.
    quiet_after m (unwaited_if (waits_to_enter far) t at m)
    (λ done n. after (gate_entered at t kind n) (λ done o. after (happens t event.Enter o) (λ done p. after (raised t state.Started p) (λ done q. told (line.Enter t) q))))
    (wait_quiet (waits_to_enter far) t at m)
    (λ done n.
    quiet_after n (gate_entered at t kind n) (λ done o. after (happens t event.Enter o) (λ done p. after (raised t state.Started p) (λ done q. told (line.Enter t) q)))
    (entered_quiet at t kind n)
    (λ done o.
    quiet_after o (happens t event.Enter o) (λ done p. after (raised t state.Started p) (λ done q. told (line.Enter t) q)) (happens_quiet t event.Enter o)
    (λ done p. quiet_after p (raised t state.Started p) (λ done q. told (line.Enter t) q) (raised_quiet t state.Started p) (λ done q. told_quiet (line.Enter t) q)))))))

pub returned_quiet : (t : ℕ) (value : Option TypedValue) (h : Held) → QuietBy h (returned t value h)
unfolding returned
returned_quiet t value h =
    quiet_after h (happens t event.Return h) (λ done k. after (told (line.Return t value) k) (λ done l. raised t state.Returned l)) (happens_quiet t event.Return h)
    (λ done k. quiet_after k (told (line.Return t value) k) (λ done l. raised t state.Returned l) (told_quiet (line.Return t value) k) (λ done l. raised_quiet t state.Returned l))
