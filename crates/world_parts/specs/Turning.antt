-- Turns (Component Model, Concurrency.md, "Summary"): which tasks can go on, what is chosen, and the script's items.
use Rattle.std.specs.Prelude.{ℕ, ◌+◌, ◌-◌, nat_eq, nat_lt, Bool, true, false, ◌&&◌, ◌||◌, if◌then◌else◌, List, [], ◌∷◌, ◌++◌, length, filter, Option, Some, None, Result, Ok, Err}
use Rattle.std.specs.List.{slice_get, list_any}
use Rattle.entry_gate.specs.declared.kind.Kind.{Kind}
use Rattle.entry_gate.specs.declared.kind.Kind.TheVariants.{Sync, Stackful}
use Rattle.entry_gate.specs.Gates as gate
use Rattle.entry_gate.specs.Gates.{is_free}
use Rattle.entry_gate.specs.Callbacks.{callback_of}
use Rattle.entry_gate.specs.declared.callback.BadCode.{BadCode}
use Rattle.entry_gate.specs.declared.callback.Next.{Next}
use Rattle.entry_gate.specs.declared.callback.Next.TheVariants as next
use Rattle.tasks.specs.declared.event.BlockedAt.{BlockedAt}
use Rattle.tasks.specs.declared.event.BlockedAt.TheVariants as blocked_at
use Rattle.tasks.specs.declared.phase.Phase.{Phase}
use Rattle.tasks.specs.declared.phase.Phase.TheVariants as phase
use Rattle.tasks.specs.Tasks.{is_asked}
use Rattle.task_table.specs.declared.caller.Caller.TheVariants.{Host}
use Rattle.task_table.specs.declared.errand.Callee.TheVariants as callee
use Rattle.task_table.specs.declared.slot.TaskSlot.{TaskSlot}
use Rattle.task_table.specs.Slots.{new_slot, is_to_be_told}
use Rattle.instances.specs.Instances.{InstanceView}
use Rattle.world_parts.specs.Views.{Views}
use Rattle.trace_labels.specs.declared.label.Label.TheVariants as line
use Rattle.trace_labels.specs.declared.typed.TypedValue.{TypedValue}
use Rattle.world_parts.specs.declared.parts.Rest.TheVariants as rest
use Rattle.world_parts.specs.declared.parts.Turned.{Turned}
use Rattle.world_parts.specs.declared.parts.Turned.TheVariants as turned
use Rattle.world_parts.specs.declared.parts.Flow.{Flow}
use Rattle.world_parts.specs.declared.parts.Flow.TheVariants as flow
use Rattle.world_parts.specs.Held.{Held, Done, Gives, after, given}
use Rattle.world_parts.specs.Feed.{told, at_rest, spent, item_taken, choice, acting, chained}
use Rattle.world_parts.specs.Slots.{cancellable, next_task, task_made, call_made}
use Rattle.world_parts.specs.Channels.{numbered}
use Rattle.world_parts.specs.News.{entry_in, index_is_ready, task_is_resolved, entry_is_pending, entry_is_resolved}
use Rattle.world_parts.specs.Subtasks.{cancelled}

-- what a gate says of a task that waits to enter, and of one that is blocked
abbrev pub gate_lets : Option InstanceView → Kind → Bool
gate_lets None kind = false
gate_lets (Some i) kind = gate.may_enter kind false i.gate

abbrev pub gate_is_free : Option InstanceView → Bool
gate_is_free None = false
gate_is_free (Some i) = is_free i.gate

-- A task can go on in its loop, where no task holds exclusive entry.
abbrev pub loop_is_over : Views → TaskSlot → Result Next BadCode → Held → Bool
loop_is_over g slot (Err why) h = false
loop_is_over g slot (Ok next.Exit) h = false
loop_is_over g slot (Ok next.Yield) h = true
loop_is_over g slot (Ok (next.Wait index)) h = index_is_ready g slot.instance index h || is_asked slot.task.cancellation
loop_is_over g slot (Ok (next.Poll index)) h = true

-- by what it is blocked at
abbrev pub wait_is_over : Views → TaskSlot → BlockedAt → Held → Bool
wait_is_over g slot blocked_at.Entry h = gate_lets (slice_get h.instances slot.instance) slot.task.kind
wait_is_over g slot (blocked_at.Loop word) h = gate_is_free (slice_get h.instances slot.instance) && loop_is_over g slot (callback_of word) h
wait_is_over g slot blocked_at.Yield h = true
wait_is_over g slot (blocked_at.Set index) h =
    index_is_ready g slot.instance index h || is_to_be_told (gate_is_free (slice_get h.instances slot.instance)) slot.task
wait_is_over g slot (blocked_at.Call callee) h = task_is_resolved callee h
wait_is_over g slot (blocked_at.Copy index) h = entry_is_pending (entry_in (slice_get h.instances slot.instance) index) h
wait_is_over g slot (blocked_at.Cancel index) h = entry_is_resolved (entry_in (slice_get h.instances slot.instance) index) h

abbrev pub phase_is_able : Views → TaskSlot → Phase → Held → Bool
phase_is_able g slot phase.New h = false
phase_is_able g slot phase.Acting h = false
phase_is_able g slot (phase.Blocked why flag) h = wait_is_over g slot why h
phase_is_able g slot phase.Exited h = false

abbrev pub slot_is_able : Views → Option TaskSlot → Held → Bool
slot_is_able g None h = false
slot_is_able g (Some slot) h = phase_is_able g slot slot.task.phase h

abbrev pub is_able : Views → Held → ℕ → Bool
is_able g h t = slot_is_able g (slice_get h.tasks t) h

-- The able tasks, by their numbers. Those that have exited are not looked at; those that wait for exclusive entry only where a gate lets one of
-- them in, and the others that wait to enter only where a gate at which one waits is without backpressure.
abbrev pub lets_in : InstanceView → Bool
lets_in i = nat_lt 0 i.gate.waiting && gate.may_enter Sync false i.gate

abbrev pub lets_others_in : InstanceView → Bool
lets_others_in i = nat_lt 0 i.gate.waiting && gate.may_enter Stackful false i.gate

abbrev pub candidates : Held → List ℕ
candidates h =
    if list_any lets_in h.instances then h.live else
    if list_any lets_others_in h.instances then h.watched.all else h.watched.awake

abbrev pub able : Views → Held → List ℕ
able g h = filter (is_able g h) (candidates h)

-- A task goes on, by its line, which costs a unit.
unfoldable pub gone : ℕ → Held → Done Turned
gone t h =
    after (spent h) (λ done k. after (told (line.Go t) k) (λ done l. after (chained t l) (λ done m. Gives turned.GoesOn (at_rest rest.Resumes m))))

-- The same of the acting task, which a cancellation ended the wait of.
unfoldable pub goes : Held → Done (Unit {0})
goes h =
    after (acting h) (λ t k. after (spent k) (λ done l. after (told (line.Go t) l) (λ done m. Gives tt (at_rest rest.Resumes m))))

-- Of the alternatives, the next item and then the tasks, one is chosen. Where there is none the run ends.
abbrev pub count_of : Bool → List ℕ → ℕ
count_of has_item tasks = if has_item then length tasks + 1 else length tasks

abbrev pub task_at : Bool → ℕ → List ℕ → Option ℕ
task_at has_item number tasks = if has_item then slice_get tasks (number - 1) else slice_get tasks number

unfoldable pub task_gone : Bool → ℕ → List ℕ → Held → Done Turned
task_gone has_item number tasks h = given (task_at has_item number tasks) (λ t. gone t h)

unfoldable pub taken : Bool → List ℕ → Held → Done Turned
taken has_item tasks h =
    after (choice (count_of has_item tasks) h) (λ number k.
    if has_item && nat_eq number 0 then Gives turned.TakesItem k else task_gone has_item number tasks k)

unfoldable pub turns_by : Bool → List ℕ → Held → Done Turned
turns_by has_item tasks h = if nat_eq (count_of has_item tasks) 0 then Gives turned.Ends h else taken has_item tasks h

-- The script's next call makes a task that runs an export.
unfoldable pub call_taken : ℕ → ℕ → Kind → List ℕ → List TypedValue → Held → Done Flow
call_taken export instance kind name args h =
    after (spent h) (λ done k. after (item_taken k) (λ done l. after (next_task l) (λ t m.
    after (told (line.Take (length m.calls + 1) t name args) m) (λ done n.
    after (task_made (new_slot instance kind (callee.Export export) (Host (length m.calls + 1))) n) (λ made o.
    after (call_made t o) (λ done p. after (chained t p) (λ done q. Gives flow.Rests (at_rest rest.Arrives q))))))))

-- A call is cancelled, unless its task has resolved, or was asked to be before.
unfoldable pub call_cancelled : ℕ → Held → Done Flow
call_cancelled call h =
    after (spent h) (λ done k. after (item_taken k) (λ done l. given (numbered l.calls call) (λ t.
    after (told (line.Cancel call) l) (λ done m. after (cancellable t m) (λ may n.
    if may then cancelled t rest.Free n else Gives flow.Rests (at_rest rest.Free n))))))
