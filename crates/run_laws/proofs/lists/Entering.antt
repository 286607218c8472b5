-- How tasks arrive, enter and exit: lists of tasks stay as they follow from the tasks.
use Rattle.std.proofs.Common.{◌≡◌, ℕ, ◌-◌, Bool, true, false, not, ◌&&◌, ◌||◌, nat_lt, if◌then◌else◌, [], ◌∷◌, ◌++◌, length, refl, sym, ap, ◌∙◌, Some}
use Rattle.std.specs.List.{slice_get}
use Rattle.entry_gate.specs.Gates as gate
use Rattle.entry_gate.specs.Gates.{with_wait, without_wait, given_up}
use Rattle.entry_gate.specs.Kinds.{needs_entry}
use Rattle.entry_gate.specs.declared.kind.Kind.{Kind}
use Rattle.instances.specs.Instances.{with_gate}
use Rattle.tasks.specs.declared.event.BlockedAt.TheVariants as blocked_at
use Rattle.tasks.specs.declared.event.TaskEvent.TheVariants as event
use Rattle.tasks.specs.declared.phase.Phase.{Phase}
use Rattle.tasks.specs.declared.phase.Phase.TheVariants as phase
use Rattle.tasks.specs.declared.subtask_state.SubtaskState.TheVariants as state
use Rattle.tasks.specs.Tasks as tasks
use Rattle.tasks.specs.Tasks.{is_new}
use Rattle.task_table.specs.declared.slot.TaskSlot.{TaskSlot}
use Rattle.task_table.specs.Slots as slots
use Rattle.task_table.specs.Tasks.{without, watching, unwatched, asleep, parked_by}
use Rattle.trace_labels.specs.declared.label.BlockReason.TheVariants as reason
use Rattle.trace_labels.specs.declared.label.Label.TheVariants as line
use Rattle.world_parts.specs.declared.parts.Flow.TheVariants as flow
use Rattle.world_parts.specs.Held.{Held, Done, Gives, Stuck, after}
use Rattle.world_parts.specs.Calls.{blocked}
use Rattle.world_parts.specs.Entries.{with_instance}
use Rattle.world_parts.specs.Feed.{told, left_chain}
use Rattle.world_parts.specs.Gates.{may_enter, gate_waited, gate_entered, gate_given_up}
use Rattle.world_parts.specs.Going.{arrives, enters, leaves, waits_to_enter, unwaited_if}
use Rattle.world_parts.specs.Slots.{instance_of, kind_of, phase_of, happens, raised, closed, parked, unparked, with_task}
use Rattle.abi_machine.proofs.sound.Found.{some_same}
use Rattle.run_laws.specs.TaskLists.{is_open, waits_apart, is_watched}
use Rattle.run_laws.proofs.lists.Feed.{left_chain_lists, told_lists}
use Rattle.run_laws.proofs.lists.Slots.{happened_then, raised_lists}
use Rattle.run_laws.proofs.lists.Same.{ListsBy, SlotSame, lists_after, lists_behind, lists_look, further_lists, further_tested, lists_same, lists_task, lists_close, lists_park, lists_queue, lists_unpark}

-- How far a task is that is new, or waits.
new_open : (p : Phase) → is_new p ≡ true → slots.has_exited p ≡ false
new_open phase.New e = refl
new_open phase.Acting e = absurd (cc)
new_open (phase.Blocked why flag) e = absurd (cc)
new_open phase.Exited e = absurd (cc)

new_unblocked : (p : Phase) → is_new p ≡ true → tasks.waits_to_enter p ≡ false
new_unblocked phase.New e = refl
new_unblocked phase.Acting e = absurd (cc)
new_unblocked (phase.Blocked why flag) e = absurd (cc)
new_unblocked phase.Exited e = absurd (cc)

entering_open : (p : Phase) → (is_new p || tasks.waits_to_enter p) ≡ true → slots.has_exited p ≡ false
entering_open phase.New e = refl
entering_open phase.Acting e = absurd (cc)
entering_open (phase.Blocked why flag) e = refl
entering_open phase.Exited e = absurd (cc)

not_blocked : (p : Phase) → waits_to_enter p ≡ false → tasks.waits_to_enter p ≡ false
not_blocked phase.New e = refl
not_blocked phase.Acting e = refl
not_blocked (phase.Blocked why flag) e = absurd (cc)
not_blocked phase.Exited e = refl

-- A task exits.
pub leaves_lists : (h : Held) → ListsBy h (leaves h)
unfolding leaves
leaves_lists h =
    lists_look h (slice_get h.chain (length h.chain - 1)) (λ t. Gives t h)
    (λ t k. after (instance_of t k) (λ at l. after (happens t event.Exit l) (λ done m. after (gate_given_up at t m) (λ done n. after (closed t n) (λ done o. after (told (line.Exit t) o) (λ done p. left_chain p))))))
    (λ t acts.
    lists_look h (slice_get h.tasks t) (λ slot. Gives slot.instance h)
    (λ at l. after (happens t event.Exit l) (λ done m. after (gate_given_up at t m) (λ done n. after (closed t n) (λ done o. after (told (line.Exit t) o) (λ done p. left_chain p)))))
    (λ z here.
    happened_then h h t event.Exit
    (λ done m. after (gate_given_up z.instance t m) (λ done n. after (closed t n) (λ done o. after (told (line.Exit t) o) (λ done p. left_chain p))))
    (λ x is may.
    let y : TaskSlot = slots.with_task (tasks.after event.Exit x.task) x in
    let m : Held = with_task t y h in
    lists_look h (slice_get m.instances z.instance) (λ i. Gives (tt {0}) (with_instance z.instance (with_gate (given_up t i.gate) i) m))
    (λ done n. after (closed t n) (λ done o. after (told (line.Exit t) o) (λ done p. left_chain p)))
    (λ i there.
    let n : Held = with_instance z.instance (with_gate (given_up t i.gate) i) m in
    let p : Held = record n { live = without t n.live; watched = unwatched t n.watched; labels = n.labels ++ line.Exit t ∷ [] } in
    lists_behind h p (left_chain p) (lists_close h p t x y is refl refl refl refl refl refl refl) (left_chain_lists p)))))

-- One arrives, and may have to wait.
block_open : (x : TaskSlot) → is_new x.task.phase ≡ true → is_open (slots.with_task (tasks.after (event.Block blocked_at.Entry false) x.task) x) ≡ is_open x
block_open x new = ap not (sym (new_open x.task.phase new))

apart_unwatched : (x : TaskSlot) → needs_entry x.task.kind ≡ true → is_watched (slots.with_task (tasks.after (event.Block blocked_at.Entry false) x.task) x) ≡ false
apart_unwatched x needs = ap (λ (b : Bool). true && not (true && b)) needs

new_watched : (x : TaskSlot) → is_new x.task.phase ≡ true → is_watched x ≡ true
new_watched x new =
    ap (λ (b : Bool). not b && not (waits_apart x)) (new_open x.task.phase new)
    ∙ ap (λ (b : Bool). true && not (b && needs_entry x.task.kind)) (new_unblocked x.task.phase new)

queued_watched : (x : TaskSlot) → is_new x.task.phase ≡ true → needs_entry x.task.kind ≡ false
    → is_watched (slots.with_task (tasks.after (event.Block blocked_at.Entry false) x.task) x) ≡ is_watched x
queued_watched x new free = ap (λ (b : Bool). true && not (true && b)) free ∙ sym (new_watched x new)

-- It waits: it is watched no more where it waits for exclusive entry, and else is awake no more.
waits_lists : (t : ℕ) (z : TaskSlot) (n : Held) (b : Bool) → slice_get n.tasks t ≡ Some z → needs_entry z.task.kind ≡ b
    → ListsBy n (after (Gives (tt {0}) (record n { watched = parked_by b t n.watched })) (λ done p. blocked t blocked_at.Entry false reason.Entry p))
unfolding blocked
waits_lists t z n true here needs =
    let p : Held = record n { watched = unwatched t n.watched } in
    happened_then n p t (event.Block blocked_at.Entry false) (λ done k. after (told (line.Block t reason.Entry) k) (λ done l. left_chain l))
    (λ x is may.
    let y : TaskSlot = slots.with_task (tasks.after (event.Block blocked_at.Entry false) x.task) x in
    let k : Held = with_task t y p in
    lists_behind n k (after (told (line.Block t reason.Entry) k) (λ done l. left_chain l))
    (lists_park n k t x y is (block_open x may) (apart_unwatched x (ap (λ (s : TaskSlot). needs_entry s.task.kind) (some_same (sym is ∙ here)) ∙ needs)) refl refl refl refl refl refl refl)
    (lists_after k (told (line.Block t reason.Entry) k) (λ done l. left_chain l) (told_lists (line.Block t reason.Entry) k) (λ done l. left_chain_lists l)))
waits_lists t z n false here needs =
    let p : Held = record n { watched = asleep t n.watched } in
    happened_then n p t (event.Block blocked_at.Entry false) (λ done k. after (told (line.Block t reason.Entry) k) (λ done l. left_chain l))
    (λ x is may.
    let y : TaskSlot = slots.with_task (tasks.after (event.Block blocked_at.Entry false) x.task) x in
    let k : Held = with_task t y p in
    lists_behind n k (after (told (line.Block t reason.Entry) k) (λ done l. left_chain l))
    (lists_queue n k t x y is (block_open x may) (queued_watched x may (ap (λ (s : TaskSlot). needs_entry s.task.kind) (some_same (sym is ∙ here)) ∙ needs)) refl refl refl refl refl refl refl)
    (lists_after k (told (line.Block t reason.Entry) k) (λ done l. left_chain l) (told_lists (line.Block t reason.Entry) k) (λ done l. left_chain_lists l)))

arrived_lists : (t at : ℕ) (z : TaskSlot) (h : Held) (may : Bool) → slice_get h.tasks t ≡ Some z
    → ListsBy h (if may then Gives flow.Enters h else after (gate_waited at h) (λ done o. after (parked t z.task.kind o) (λ done p. blocked t blocked_at.Entry false reason.Entry p)))
arrived_lists t at z h true here = lists_same h
arrived_lists t at z h false here =
    lists_look h (slice_get h.instances at) (λ i. Gives (tt {0}) (with_instance at (with_gate (with_wait i.gate) i) h))
    (λ done o. after (parked t z.task.kind o) (λ done p. blocked t blocked_at.Entry false reason.Entry p))
    (λ i there.
    let n : Held = with_instance at (with_gate (with_wait i.gate) i) h in
    lists_behind h n (after (parked t z.task.kind n) (λ done p. blocked t blocked_at.Entry false reason.Entry p)) (λ s l. l)
    (waits_lists t z n (needs_entry z.task.kind) here refl))

pub arrives_lists : (h : Held) → ListsBy h (arrives h)
unfolding arrives
arrives_lists h =
    lists_look h (slice_get h.chain (length h.chain - 1)) (λ t. Gives t h)
    (λ t k. after (instance_of t k) (λ at l. after (kind_of t l) (λ kind m. after (may_enter at kind true m) (λ may n.
    if may then Gives flow.Enters n else after (gate_waited at n) (λ done o. after (parked t kind o) (λ done p. blocked t blocked_at.Entry false reason.Entry p))))))
    (λ t acts.
    lists_look h (slice_get h.tasks t) (λ slot. Gives slot.instance h)
    (λ at l. after (kind_of t l) (λ kind m. after (may_enter at kind true m) (λ may n.
    if may then Gives flow.Enters n else after (gate_waited at n) (λ done o. after (parked t kind o) (λ done p. blocked t blocked_at.Entry false reason.Entry p)))))
    (λ z here.
    lists_look h (slice_get h.tasks t) (λ slot. Gives slot.task.kind h)
    (λ kind m. after (may_enter z.instance kind true m) (λ may n.
    if may then Gives flow.Enters n else after (gate_waited z.instance n) (λ done o. after (parked t kind o) (λ done p. blocked t blocked_at.Entry false reason.Entry p))))
    (λ x is.
    lists_look h (slice_get h.instances z.instance) (λ i. Gives (gate.may_enter x.task.kind true i.gate) h)
    (λ may n. if may then Gives flow.Enters n else after (gate_waited z.instance n) (λ done o. after (parked t x.task.kind o) (λ done p. blocked t blocked_at.Entry false reason.Entry p)))
    (λ i there. arrived_lists t z.instance x h (gate.may_enter x.task.kind true i.gate) is))))

-- One enters: it is watched and awake again where it waited.
enters_open : (x : TaskSlot) → (is_new x.task.phase || tasks.waits_to_enter x.task.phase) ≡ true → is_open (slots.with_task (tasks.after event.Enter x.task) x) ≡ is_open x
enters_open x may = ap not (sym (entering_open x.task.phase may))

enters_same : (x : TaskSlot) → waits_to_enter x.task.phase ≡ false → (is_new x.task.phase || tasks.waits_to_enter x.task.phase) ≡ true
    → SlotSame x (slots.with_task (tasks.after event.Enter x.task) x)
enters_same x none may = record {
  exited = sym (entering_open x.task.phase may);
  waits = sym (not_blocked x.task.phase none);
  needs = refl;
  call = refl;
}

abbrev entered_behind : ℕ → ℕ → Kind → Unit {0} → Held → Done (Unit {0})
entered_behind t at kind done n =
    after (gate_entered at t kind n) (λ done o. after (happens t event.Enter o) (λ done p. after (raised t state.Started p) (λ done q. told (line.Enter t) q)))

started_lists : (t : ℕ) (p : Held) → ListsBy p (after (raised t state.Started p) (λ done q. told (line.Enter t) q))
started_lists t p = lists_after p (raised t state.Started p) (λ done q. told (line.Enter t) q) (raised_lists t state.Started p) (λ done q. told_lists (line.Enter t) q)

by_wait : (t at : ℕ) (z : TaskSlot) (kind : Kind) (h : Held) (b : Bool) → slice_get h.tasks t ≡ Some z → waits_to_enter z.task.phase ≡ b
    → ListsBy h (after (unwaited_if b t at h) (entered_behind t at kind))
by_wait t at z kind h true here waits =
    further_lists h (slice_get h.instances at) (λ i. if nat_lt 0 i.gate.waiting then Gives (tt {0}) (with_instance at (with_gate (without_wait i.gate) i) h) else Stuck) (λ done k. unparked t k)
    (entered_behind t at kind)
    (λ i there.
    let k : Held = with_instance at (with_gate (without_wait i.gate) i) h in
    further_tested h (nat_lt 0 i.gate.waiting) (Gives (tt {0}) k) (λ done k. unparked t k) (entered_behind t at kind)
    (let n : Held = record k { watched = watching t k.watched } in
    lists_look h (slice_get n.instances at) (λ j. Gives (tt {0}) (with_instance at (with_gate (gate.entered t kind j.gate) j) n))
    (λ done o. after (happens t event.Enter o) (λ done p. after (raised t state.Started p) (λ done q. told (line.Enter t) q)))
    (λ j beside.
    let o : Held = with_instance at (with_gate (gate.entered t kind j.gate) j) n in
    happened_then h o t event.Enter (λ done p. after (raised t state.Started p) (λ done q. told (line.Enter t) q))
    (λ x is may.
    let y : TaskSlot = slots.with_task (tasks.after event.Enter x.task) x in
    let p : Held = with_task t y o in
    lists_behind h p (after (raised t state.Started p) (λ done q. told (line.Enter t) q))
    (lists_unpark h p t x y is (enters_open x may) refl refl refl refl refl refl refl refl) (started_lists t p)))))
by_wait t at z kind h false here waits =
    lists_look h (slice_get h.instances at) (λ j. Gives (tt {0}) (with_instance at (with_gate (gate.entered t kind j.gate) j) h))
    (λ done o. after (happens t event.Enter o) (λ done p. after (raised t state.Started p) (λ done q. told (line.Enter t) q)))
    (λ j beside.
    let o : Held = with_instance at (with_gate (gate.entered t kind j.gate) j) h in
    happened_then h o t event.Enter (λ done p. after (raised t state.Started p) (λ done q. told (line.Enter t) q))
    (λ x is may.
    let y : TaskSlot = slots.with_task (tasks.after event.Enter x.task) x in
    let p : Held = with_task t y o in
    lists_behind h p (after (raised t state.Started p) (λ done q. told (line.Enter t) q))
    (lists_task o t x y is (enters_same x (ap (λ (s : TaskSlot). waits_to_enter s.task.phase) (some_same (sym is ∙ here)) ∙ waits) may)) (started_lists t p)))

pub enters_lists : (t : ℕ) (h : Held) → ListsBy h (enters t h)
unfolding enters
enters_lists t h =
    lists_look h (slice_get h.tasks t) (λ slot. Gives slot.instance h)
    (λ at k. after (kind_of t k) (λ kind l. after (phase_of t l) (λ far m. after (unwaited_if (waits_to_enter far) t at m) (entered_behind t at kind))))
    (λ z here.
    lists_look h (slice_get h.tasks t) (λ slot. Gives slot.task.kind h)
    (λ kind l. after (phase_of t l) (λ far m. after (unwaited_if (waits_to_enter far) t z.instance m) (entered_behind t z.instance kind)))
    (λ y there.
    lists_look h (slice_get h.tasks t) (λ slot. Gives slot.task.phase h)
    (λ far m. after (unwaited_if (waits_to_enter far) t z.instance m) (entered_behind t z.instance y.task.kind))
    (λ x is. by_wait t z.instance x y.task.kind h (waits_to_enter x.task.phase) is refl)))
