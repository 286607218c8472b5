-- A call of the script that is cancelled costs a unit first: where none is left nothing was told, and it does not trap.
use Rattle.std.proofs.Common.{◌≡◌, Bool, true, false, if◌then◌else◌, refl, sym, ap, subst, Option, Some, None}
use Rattle.std.specs.Prelude.{ℕ, ◌+◌, ◌-◌, nat_lt, List, [], ◌∷◌, ◌++◌}
use Rattle.std.specs.List.{slice_get}
use Rattle.entry_gate.specs.Gates.{is_free, without_wait}
use Rattle.instances.specs.Instances.{with_gate}
use Rattle.tasks.specs.Tasks.{may_cancel}
use Rattle.tasks.specs.declared.event.Asked.{Asked}
use Rattle.tasks.specs.declared.event.Asked.TheVariants as asking
use Rattle.tasks.specs.declared.subtask_state.SubtaskState.{SubtaskState}
use Rattle.tasks.specs.declared.subtask_state.SubtaskState.TheVariants as state
use Rattle.task_table.specs.declared.slot.TaskSlot.{TaskSlot}
use Rattle.task_table.specs.Callers.{may_raise}
use Rattle.task_table.specs.Slots.{cancel_answer, cancelled_slot, raised_slot}
use Rattle.trace_labels.specs.declared.label.Label.{Label}
use Rattle.trace_labels.specs.declared.label.Label.TheVariants as line
use Rattle.trace_labels.specs.declared.trap.TrapName.{TrapName}
use Rattle.world_parts.specs.declared.parts.Rest.{Rest}
use Rattle.world_parts.specs.declared.parts.Rest.TheVariants as rest
use Rattle.world_parts.specs.declared.parts.Flow.{Flow}
use Rattle.world_parts.specs.declared.parts.Flow.TheVariants as flow
use Rattle.world_parts.specs.Held.{Held, Done, Gives, Traps, Spent, Stuck, after, given}
use Rattle.world_parts.specs.Entries.{with_instance}
use Rattle.world_parts.specs.Feed.{told, at_rest, chained, item_taken}
use Rattle.world_parts.specs.Gates.{entry_is_free, gate_unwaited}
use Rattle.world_parts.specs.Slots.{with_task, asked_by, cancel_asked, cancellable, closed, instance_of, raised}
use Rattle.world_parts.specs.Subtasks.{removed, cancelled_by, cancelled}
use Rattle.world_parts.specs.Channels.{numbered}
use Rattle.world_parts.specs.Turning.{call_cancelled}

-- What a part that costs a unit leaves where none is left, and that it does not trap.
pub record Costs {A : Type 0} (before : List Label) (d : Done A) : Type 0 where
  pub spent : (k : Held) → d ≡ Spent k → k.labels ≡ before
  pub no_trap : (why : TrapName) (k : Held) → d ≡ Traps why k → ⊥

-- A part gives something, or no rule applies.
abbrev pub GivesOrNot : {A : Type 0} → Done A → Type 0
GivesOrNot (Gives x k) = Unit {0}
GivesOrNot (Traps why k) = ⊥
GivesOrNot (Spent k) = ⊥
GivesOrNot Stuck = Unit {0}

so_after : {A B : Type 0} (d : Done A) (f : A → Held → Done B) → GivesOrNot d → ((x : A) (k : Held) → GivesOrNot (f x k)) → GivesOrNot (after d f)
so_after (Gives x k) f p q = q x k
so_after (Traps why k) f p q = p
so_after (Spent k) f p q = p
so_after Stuck f p q = tt

so_given : {A B : Type 0} (o : Option A) (f : A → Done B) → ((x : A) → GivesOrNot (f x)) → GivesOrNot (given o f)
so_given None f p = tt
so_given (Some x) f p = p x

so_if : {A : Type 0} (b : Bool) (d e : Done A) → GivesOrNot d → GivesOrNot e → GivesOrNot (if b then d else e)
so_if true d e p q = p
so_if false d e p q = q

-- The parts of a cancellation.
so_unwaited : (at : ℕ) (h : Held) → GivesOrNot (gate_unwaited at h)
so_unwaited at h =
    so_given (slice_get h.instances at) (λ i. if nat_lt 0 i.gate.waiting then Gives (tt {0}) (with_instance at (with_gate (without_wait i.gate) i) h) else Stuck)
    (λ i. so_if (nat_lt 0 i.gate.waiting) (Gives (tt {0}) (with_instance at (with_gate (without_wait i.gate) i) h)) Stuck tt tt)

so_raised : (t : ℕ) (now : SubtaskState) (h : Held) → GivesOrNot (raised t now h)
so_raised t now h =
    so_given (slice_get h.tasks t) (λ slot. if may_raise now slot.caller then Gives (tt {0}) (with_task t (raised_slot now slot) h) else Stuck)
    (λ slot. so_if (may_raise now slot.caller) (Gives (tt {0}) (with_task t (raised_slot now slot) h)) Stuck tt tt)

so_removed : (t : ℕ) (behind : Rest) (h : Held) → GivesOrNot (removed t behind h)
unfolding removed
so_removed t behind h =
    so_after (instance_of t h)
    (λ at k. after (gate_unwaited at k) (λ done l. after (raised t state.CancelledBeforeStarted l) (λ done m. after (closed t m) (λ done n.
    after (told (line.Cancelled t) n) (λ done o. after (told (line.Exit t) o) (λ done p. Gives flow.Rests (at_rest behind p)))))))
    (so_given (slice_get h.tasks t) (λ slot. Gives slot.instance h) (λ slot. tt))
    (λ at k.
    so_after (gate_unwaited at k)
    (λ done l. after (raised t state.CancelledBeforeStarted l) (λ done m. after (closed t m) (λ done n.
    after (told (line.Cancelled t) n) (λ done o. after (told (line.Exit t) o) (λ done p. Gives flow.Rests (at_rest behind p))))))
    (so_unwaited at k)
    (λ done l.
    so_after (raised t state.CancelledBeforeStarted l)
    (λ done m. after (closed t m) (λ done n. after (told (line.Cancelled t) n) (λ done o. after (told (line.Exit t) o) (λ done p. Gives flow.Rests (at_rest behind p)))))
    (so_raised t state.CancelledBeforeStarted l) (λ done m. tt)))

so_cancelled_by : (case : Asked) (t : ℕ) (behind : Rest) (h : Held) → GivesOrNot (cancelled_by case t behind h)
so_cancelled_by asking.Removed t behind h = so_removed t behind h
so_cancelled_by asking.ResumeNow t behind h = tt
so_cancelled_by asking.Pending t behind h = tt

so_asked_by : (o : Option Asked) (t : ℕ) (slot : TaskSlot) (h : Held) → GivesOrNot (asked_by o t slot h)
so_asked_by None t slot h = tt
so_asked_by (Some case) t slot h = tt

so_asked : (t : ℕ) (h : Held) → GivesOrNot (cancel_asked t h)
so_asked t h =
    so_after (instance_of t h) (λ at k. after (entry_is_free at k) (λ free l. given (slice_get l.tasks t) (λ slot. asked_by (cancel_answer free slot.task) t (cancelled_slot free slot) l)))
    (so_given (slice_get h.tasks t) (λ slot. Gives slot.instance h) (λ slot. tt))
    (λ at k.
    so_after (entry_is_free at k) (λ free l. given (slice_get l.tasks t) (λ slot. asked_by (cancel_answer free slot.task) t (cancelled_slot free slot) l))
    (so_given (slice_get k.instances at) (λ i. Gives (is_free i.gate) k) (λ i. tt))
    (λ free l.
    so_given (slice_get l.tasks t) (λ slot. asked_by (cancel_answer free slot.task) t (cancelled_slot free slot) l)
    (λ slot. so_asked_by (cancel_answer free slot.task) t (cancelled_slot free slot) l)))

so_cancelled : (t : ℕ) (behind : Rest) (h : Held) → GivesOrNot (cancelled t behind h)
unfolding cancelled
so_cancelled t behind h = so_after (cancel_asked t h) (λ case k. cancelled_by case t behind k) (so_asked t h) (λ case k. so_cancelled_by case t behind k)

-- Behind the unit.
cancel_behind : ℕ → Unit {0} → Held → Done Flow
cancel_behind call done k =
    after (item_taken k) (λ done l. given (numbered l.calls call) (λ t.
    after (told (line.Cancel call) l) (λ done m. after (cancellable t m) (λ may n. if may then cancelled t rest.Free n else Gives flow.Rests (at_rest rest.Free n)))))

so_behind : (call : ℕ) (k : Held) → GivesOrNot (cancel_behind call tt k)
unfolding cancel_behind
so_behind call k =
    let l : Held = record k { taken = k.taken + 1 } in
    so_given (numbered k.calls call)
    (λ t. after (told (line.Cancel call) l) (λ done m. after (cancellable t m) (λ may n. if may then cancelled t rest.Free n else Gives flow.Rests (at_rest rest.Free n))))
    (λ t.
    let m : Held = record l { labels = l.labels ++ line.Cancel call ∷ [] } in
    so_after (cancellable t m) (λ may n. if may then cancelled t rest.Free n else Gives flow.Rests (at_rest rest.Free n))
    (so_given (slice_get m.tasks t) (λ slot. Gives (may_cancel slot.task) m) (λ slot. tt))
    (λ may n. so_if may (cancelled t rest.Free n) (Gives flow.Rests (at_rest rest.Free n)) (so_cancelled t rest.Free n) tt))

kept_labels : {A : Type 0} → List Label → Done A → List Label
kept_labels none (Spent k) = k.labels
kept_labels none (Gives x k) = none
kept_labels none (Traps why k) = none
kept_labels none Stuck = none

unit_costs : {A : Type 0} (h : Held) (b : Bool) (f : Unit {0} → Held → Done A) → ((k : Held) → GivesOrNot (f tt k))
    → Costs h.labels (after (if b then Gives tt (record h { left = h.left - 1 }) else Spent (record h { left = h.left - 1 })) f)
unfolding kept_labels
unit_costs {A} h true f never = record {
  spent = λ k e. absurd (subst (λ (d : Done A). GivesOrNot d) e (never (record h { left = h.left - 1 })));
  no_trap = λ why k e. subst (λ (d : Done A). GivesOrNot d) e (never (record h { left = h.left - 1 }));
}
unit_costs {A} h false f never = record {
  spent = λ k e. ap (λ (d : Done A). kept_labels h.labels d) (sym e);
  no_trap = λ why k e. absurd (cc);
}

pub cancel_costs : (call : ℕ) (h : Held) → Costs h.labels (call_cancelled call h)
unfolding call_cancelled cancel_behind
cancel_costs call h = unit_costs h (nat_lt 0 h.left) (cancel_behind call) (λ k. so_behind call k)
