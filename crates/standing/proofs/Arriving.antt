-- A new task enters, or waits to.
use Rattle.std.proofs.Common.{◌≡◌, ℕ, Bool, true, false, if◌then◌else◌, List, [], refl, sym, ap, ◌∙◌, append-nil, Some}
use Rattle.std.specs.List.{slice_get}
use Rattle.syntax_trees.specs.declared.types.ValType.{ValType}
use Rattle.wasm_store.specs.Stack.{Stack}
use Rattle.entry_gate.specs.Gates as gate
use Rattle.entry_gate.specs.Gates.{GateView, with_wait}
use Rattle.entry_gate.specs.Kinds.{needs_entry}
use Rattle.entry_gate.specs.declared.kind.Kind.{Kind}
use Rattle.tasks.specs.declared.event.BlockedAt.{BlockedAt}
use Rattle.tasks.specs.declared.event.BlockedAt.TheVariants as blocked_at
use Rattle.tasks.specs.declared.event.TaskEvent.TheVariants as event
use Rattle.tasks.specs.declared.phase.Phase.TheVariants as phase
use Rattle.tasks.specs.Tasks.{may_happen, is_new}
use Rattle.comp_graph.specs.Graph.{Graph, Lifted}
use Rattle.script_reader.specs.Script.{Script}
use Rattle.trace_labels.specs.declared.label.BlockReason.{BlockReason}
use Rattle.trace_labels.specs.declared.label.BlockReason.TheVariants as reason
use Rattle.trace_labels.specs.declared.label.Label.{Label}
use Rattle.trace_labels.specs.declared.label.Label.TheVariants as line
use Rattle.instances.specs.Instances.{with_gate}
use Rattle.task_table.specs.declared.slot.TaskSlot.{TaskSlot}
use Rattle.task_table.specs.Slots as slots
use Rattle.task_table.specs.Tasks.{parked_by}
use Rattle.world_parts.specs.declared.parts.Flow.TheVariants as flow
use Rattle.world_parts.specs.Held.{Held, Gives, after}
use Rattle.world_parts.specs.Feed.{told, left_chain}
use Rattle.world_parts.specs.Entries.{with_instance}
use Rattle.world_parts.specs.Slots.{with_task}
use Rattle.world_parts.specs.Calls.{blocked}
use Rattle.world_parts.specs.Going.{arrives}
use Rattle.abi_machine.specs.World.{TaskState, New, WaitsToEnter, Task, World}
use Rattle.abi_machine.specs.Edits.{in_state}
use Rattle.abi_machine.specs.Canons.{flag_at}
use Rattle.abi_machine.specs.Counting.{phase_of}
use Rattle.abi_machine.specs.Gate.{gate_of, may_arrive}
use Rattle.abi_machine.specs.Reading.{task_at, func_of}
use Rattle.abi_machine.specs.Turn as turns
use Rattle.abi_machine.specs.Turn.{Turn, behind}
use Rattle.abi_machine.specs.Entering.{entered, arriving_turn}
use Rattle.standing.specs.Tasks.{errand_of, IsPlaced, TaskStands}
use Rattle.standing.specs.Stands.{Stands}
use Rattle.standing.specs.Agreeing.{enters, Agrees}
use Rattle.standing.specs.Moves.{Acts, TaskArrives}
use Rattle.standing.proofs.Tables.{entry_is_not_said}
use Rattle.standing.proofs.Changes.{instances_stay, tasks_change}
use Rattle.standing.proofs.Going.{done_as}
use Rattle.standing.proofs.Blocking.{happens_when}
use Rattle.standing.proofs.Leaving.{on_leave}
use Rattle.standing.proofs.Steps.{via, turn_found, if_true, if_false, both_as, behind_none, func_acts, IsKept, is_kept, instance_is, kind_is, may_enter_is, waited_is}

-- The acting task blocks, and is at what it was at.
waits_stand : (g : Graph) (s : Script) (x : TaskSlot) (a : Task) (why : BlockedAt) (flag : Bool) (state : TaskState) → phase_of (flag_at g) state ≡ phase.Blocked why flag
    → errand_of state ≡ x.errand → IsPlaced x.at_words state → TaskStands g s x a → TaskStands g s (slots.with_task (record x.task { phase = phase.Blocked why flag }) x) (record a { state = state })
waits_stand g s x a why flag state far at placed st = record {
  does = st.does;
  place = st.place;
  lifted = st.lifted;
  called = st.called;
  seen = st.seen;
  far = sym far;
  at = sym at;
  resolved = st.resolved;
  cancelled = st.cancelled;
  words = st.words;
  placed = placed;
}

pub on_wait : (g : Graph) (values : List ValType) (s : Script) (before : List Label) (h : Held) (stacks : List (List Stack)) (w : World) (t : ℕ) (x : TaskSlot) (why : BlockedAt) (flag : Bool)
    (reason : BlockReason) (state : TaskState)
    → slice_get h.tasks t ≡ Some x → may_happen (event.Block why flag) x.task ≡ true → phase_of (flag_at g) state ≡ phase.Blocked why flag → errand_of state ≡ x.errand
    → IsPlaced x.at_words state → slice_get w.chain 0 ≡ Some t → h.labels ≡ before → Stands g values s h stacks w
    → Agrees g values s t before stacks (blocked t why flag reason h) (turns.blocked t state reason w)
unfolding blocked
on_wait g values s before h stacks w t x why flag reason state is may far at placed first same st =
    let waits : TaskSlot = slots.with_task (record x.task { phase = phase.Blocked why flag }) x in
    let now : Stands g values s (with_task t waits h) stacks (in_state t state w) =
    tasks_change g values s h stacks w t x waits (λ task. record task { state = state }) is (λ a there st. waits_stand g s x a why flag state far at placed st) (λ a. refl) st in
    done_as g values s t before stacks _ _ _
    (via _ _ _ (λ done k. after (told (line.Block t reason) k) (λ done l. left_chain l)) (happens_when (event.Block why flag) x t h is may refl))
    (on_leave g values s t before stacks (with_task t waits h) (in_state t state w) (line.Block t reason) t first same now)

-- A task that waits to enter is not looked at, until a gate lets one in.
abbrev watched_by : Bool → ℕ → Held → Held
watched_by b t h = record h { watched = parked_by b t h.watched }

entered_is : (g : Graph) (w : World) (t : ℕ) (task : Task) (f : Lifted) → Acts w t task f → entered g t task f w ≡ behind [] (enters g t w)
entered_is g w t task f acts =
    sym (behind_none (enters g t w)
    ∙ turn_found (task_at w t) task (λ task. turns.given (func_of task.callee) (λ f. entered g t task f w)) acts.there
    ∙ turn_found (func_of task.callee) f (λ f. entered g t task f w) acts.runs)

pub on_enters : (g : Graph) (values : List ValType) (s : Script) (h : Held) (stacks : List (List Stack)) (w : World) (t : ℕ) (task : Task) (f : Lifted) → Acts w t task f
    → Stands g values s h stacks w → Agrees g values s t h.labels stacks (Gives flow.Enters h) (entered g t task f w)
on_enters g values s h stacks w t task f acts st =
    record { lines = []; world = w; stands = st; told = sym (append-nil h.labels); ends = entered_is g w t task f acts }

arrives_by : (g : Graph) (values : List ValType) (s : Script) (h : Held) (stacks : List (List Stack)) (w : World) (t : ℕ) (task : Task) (f : Lifted) (k : IsKept g values s h w t task f) (b : Bool)
    → Acts w t task f → task.state ≡ New → may_arrive w f.instance task ≡ b → gate.may_enter k.slot.task.kind true k.inst.gate ≡ b → Stands g values s h stacks w
    → Agrees g values s t h.labels stacks (arrives h) (arriving_turn g w)
unfolding arrives arriving_turn
arrives_by g values s h stacks w t task f k true acts new e may st =
    both_as g values s t h.labels stacks _ _ _ _
    (via _ _ _ _ k.acts ∙ via _ _ _ _ (instance_is t f.instance h k.slot k.is k.at) ∙ via _ _ _ _ (kind_is t h k.slot k.is)
    ∙ via _ _ _ _ (may_enter_is f.instance k.slot.task.kind true h k.inst k.here) ∙ if_true _ _ _ may)
    (func_acts w t task f (λ t task f. if may_arrive w f.instance task then entered g t task f w else turns.blocked t WaitsToEnter reason.Entry w) acts ∙ if_true _ _ _ e)
    (on_enters g values s h stacks w t task f acts st)
arrives_by g values s h stacks w t task f k false acts new e may st =
    let waits : Held = with_instance f.instance (with_gate (with_wait k.inst.gate) k.inst) h in
    let waiting : Stands g values s waits stacks w =
    instances_stay g values s h stacks w f.instance k.inst (with_gate (with_wait k.inst.gate) k.inst) k.here (λ a now. entry_is_not_said values k.inst a (with_wait k.inst.gate) refl now) st in
    both_as g values s t h.labels stacks _ _ _ _
    (via _ _ _ _ k.acts ∙ via _ _ _ _ (instance_is t f.instance h k.slot k.is k.at) ∙ via _ _ _ _ (kind_is t h k.slot k.is)
    ∙ via _ _ _ _ (may_enter_is f.instance k.slot.task.kind true h k.inst k.here) ∙ if_false _ _ _ may
    ∙ via _ _ _ _ (waited_is f.instance h k.inst k.here))
    (func_acts w t task f (λ t task f. if may_arrive w f.instance task then entered g t task f w else turns.blocked t WaitsToEnter reason.Entry w) acts ∙ if_false _ _ _ e)
    (on_wait g values s h.labels (watched_by (needs_entry k.slot.task.kind) t waits) stacks w t k.slot blocked_at.Entry false reason.Entry WaitsToEnter k.is
    (ap is_new (k.alike.far ∙ ap (λ state. phase_of (flag_at g) state) new)) refl (sym (k.alike.at ∙ ap errand_of new)) tt acts.first refl waiting)

pub task_arrives : TaskArrives
task_arrives g values s h stacks w t task f acts new gates st =
    let k : IsKept g values s h w t task f = is_kept g values s h stacks w t task f acts st in
    arrives_by g values s h stacks w t task f k (may_arrive w f.instance task) acts new refl
    (ap (λ (i : GateView). gate.may_enter k.slot.task.kind true i) (gates k.inst k.here) ∙ ap (λ (kind : Kind). gate.may_enter kind true (gate_of w f.instance)) k.alike.lifted) st
