-- Tasks resolve, as they ask for themselves.
use Rattle.std.proofs.Common.{◌≡◌, ℕ, Bool, true, false, nat_lt, is_some, if◌then◌else◌, List, [], ◌∷◌, ◌++◌, refl, sym, ap, ◌∙◌, subst, append-nil, append_assoc, Option, Some, None, Err}
use Rattle.std.specs.Option.{option_and_then}
use Rattle.std.specs.List.{slice_get}
use Rattle.syntax_trees.specs.declared.types.ValType.{ValType}
use Rattle.wasm_store.specs.Stack.{Stack}
use Rattle.entry_gate.specs.declared.kind.Kind.{Kind}
use Rattle.tasks.specs.declared.event.TaskEvent.{TaskEvent}
use Rattle.tasks.specs.declared.event.TaskEvent.TheVariants as event
use Rattle.tasks.specs.declared.event.TaskTrap.{TaskTrap}
use Rattle.tasks.specs.declared.event.TaskTrap.TheVariants as task_trap
use Rattle.tasks.specs.declared.phase.Caller as views
use Rattle.tasks.specs.declared.phase.Cancellation.{Cancellation}
use Rattle.tasks.specs.declared.phase.Phase.{Phase}
use Rattle.tasks.specs.declared.phase.Phase.TheVariants as phase
use Rattle.tasks.specs.declared.phase.Resolution.{Resolution}
use Rattle.tasks.specs.declared.phase.Resolution.TheVariants as resolution
use Rattle.tasks.specs.declared.subtask_state.SubtaskState.{SubtaskState}
use Rattle.tasks.specs.declared.subtask_state.SubtaskState.TheVariants as state
use Rattle.tasks.specs.Subtasks as subtasks
use Rattle.tasks.specs.Subtasks.{follows}
use Rattle.tasks.specs.Tasks as task_of
use Rattle.tasks.specs.Tasks.{may_happen, fault, asking_fault, cancel_fault, is_acting, is_sync, is_told, resolved_state, state_of}
use Rattle.tasks.specs.Views.{TaskView}
use Rattle.comp_graph.specs.declared.graph.Builtin.{Builtin}
use Rattle.comp_graph.specs.declared.graph.BuiltinKind.{BuiltinKind}
use Rattle.comp_graph.specs.declared.graph.BuiltinKind.TheVariants as kind
use Rattle.comp_graph.specs.declared.graph.CanonFunc.TheVariants as canon
use Rattle.comp_graph.specs.declared.graph.Options.{Options}
use Rattle.comp_graph.specs.Graph.{Graph}
use Rattle.script_reader.specs.Script.{Script}
use Rattle.trace_labels.specs.declared.label.Label.TheVariants as line
use Rattle.trace_labels.specs.declared.trap.TrapName.{TrapName}
use Rattle.task_table.specs.declared.caller.Called.{Called}
use Rattle.task_table.specs.declared.caller.Caller as kept_caller
use Rattle.task_table.specs.declared.caller.Caller.TheVariants as by
use Rattle.task_table.specs.declared.refusal.EventError.TheVariants.{NotNow}
use Rattle.task_table.specs.declared.slot.TaskSlot.{TaskSlot}
use Rattle.task_table.specs.Callers as callers
use Rattle.task_table.specs.Callers.{changed, may_raise}
use Rattle.task_table.specs.Slots as slots
use Rattle.task_table.specs.Slots.{advanced_slot, raised_slot}
use Rattle.world_parts.specs.declared.parts.Flow.TheVariants as flow
use Rattle.world_parts.specs.declared.parts.Rest.{Rest}
use Rattle.world_parts.specs.declared.parts.Rest.TheVariants as rest
use Rattle.world_parts.specs.Held as kept
use Rattle.world_parts.specs.Held.{Held, Done, Gives, Traps, after, given}
use Rattle.world_parts.specs.Feed.{told, got}
use Rattle.world_parts.specs.Names as names
use Rattle.world_parts.specs.Slots.{with_task, happened, happens, raised}
use Rattle.world_parts.specs.Plain.{return_asked, task_cancel}
use Rattle.abi_machine.specs.Control.{Control, Calls}
use Rattle.abi_machine.specs.World.{Caller, Nobody, Host, Guest, Task, World}
use Rattle.abi_machine.specs.Edits as world
use Rattle.abi_machine.specs.Canons.{canon_at, flag_at}
use Rattle.abi_machine.specs.Counting.{phase_of, caller_view, borrows_of, task_view}
use Rattle.abi_machine.specs.Reading.{task_at, func_of, kind_of}
use Rattle.abi_machine.specs.Traps as traps
use Rattle.abi_machine.specs.Turn as turns
use Rattle.abi_machine.specs.Turn.{Turn, Steps, doomed, unless_fault, behind, replied}
use Rattle.abi_machine.specs.replies.Tasks.{return_checked, return_turn, task_cancel_turn}
use Rattle.abi_machine.proofs.sound.Found.{some_same}
use Rattle.standing.specs.Tasks.{CallerStands, TaskStands}
use Rattle.standing.specs.Stands.{Stands}
use Rattle.standing.specs.Agreeing.{acting_words, words_in, control_of, returns_kind, returns_canon, returns, Agrees}
use Rattle.standing.specs.Marks.{CallerMarked}
use Rattle.standing.specs.Resolutions.{TaskReturns, TaskCancels}
use Rattle.standing.proofs.Lists.{IsFound, found_both}
use Rattle.standing.proofs.Changes.{tasks_change, acting_is_alike}
use Rattle.standing.proofs.Agreeing.{on_trap, get_set}
use Rattle.standing.proofs.Blocking.{happens_when}
use Rattle.standing.proofs.Steps.{via, trapped, found, turn_found, if_true, both_as, behind_none}
use Rattle.standing.proofs.Backing.{tasks_stay}

-- What happens to a task that may, and is refused.
refused_when : (e : TaskEvent) (x : TaskSlot) (t : ℕ) (h : Held) (why : TaskTrap) → slice_get h.tasks t ≡ Some x → may_happen e x.task ≡ true → fault e x.task ≡ Some why
    → happens t e h ≡ Traps (names.task_name why) (with_task t x h)
refused_when e x t h why is may some =
    found (slice_get h.tasks t) x (λ slot. happened (slots.event_answer e slot.task) t (advanced_slot e slot) h) is
    ∙ ap (λ (b : Bool). happened (if b then slots.trapped (fault e x.task) else Err NotNow) t (if b then slots.with_task (task_of.advanced e x.task) x else x) h) may
    ∙ ap (λ (f : Option TaskTrap). happened (slots.trapped f) t (slots.with_task (task_of.unless f (task_of.after e x.task) x.task) x) h) some

pub names_same : (why : TaskTrap) → names.task_name why ≡ traps.task_name why
names_same task_trap.SyncTask = refl
names_same task_trap.NotAsked = refl
names_same task_trap.Resolved = refl
names_same task_trap.BorrowLives = refl

-- What is seen of a task is what the machine sees of it.
abbrev view : Kind → views.Caller → Phase → Option Resolution → Cancellation → ℕ → TaskView
view k c p r asked n = record { kind = k; caller = c; phase = p; resolution = r; cancellation = asked; borrows = n }

pub view_is : (g : Graph) (s : Script) (w : World) (t : ℕ) (x : TaskSlot) (a : Task) → TaskStands g s x a → x.task.borrows ≡ borrows_of w t → x.task ≡ task_view g w t a
view_is g s w t x a st count =
    ap (λ (k : Kind). view k x.task.caller x.task.phase x.task.resolution x.task.cancellation x.task.borrows) st.lifted
    ∙ ap (λ (c : views.Caller). view (kind_of a) c x.task.phase x.task.resolution x.task.cancellation x.task.borrows) st.seen
    ∙ ap (λ (p : Phase). view (kind_of a) (caller_view a.caller) p x.task.resolution x.task.cancellation x.task.borrows) st.far
    ∙ ap (λ (r : Option Resolution). view (kind_of a) (caller_view a.caller) (phase_of (flag_at g) a.state) r x.task.cancellation x.task.borrows) st.resolved
    ∙ ap (λ (c : Cancellation). view (kind_of a) (caller_view a.caller) (phase_of (flag_at g) a.state) a.resolution c x.task.borrows) st.cancelled
    ∙ ap (λ (n : ℕ). view (kind_of a) (caller_view a.caller) (phase_of (flag_at g) a.state) a.resolution a.cancellation n) count

-- The state that its caller sees rises.
risen_stands : (s : Script) (now : SubtaskState) (called : Called) (d : Caller) (b : Bool) → CallerStands s (by.Guest called) d
    → CallerStands s (by.Guest (if b then callers.with_subtask (subtasks.raised now called.subtask) called else called)) d
risen_stands s now called d false st = st
risen_stands s now called Nobody true st = st
risen_stands s now called (Host call values) true st = st
risen_stands s now called (Guest subtask) true st =
    record { caller = st.caller; by_canon = st.by_canon; passed = st.passed; was_told = st.was_told; lent = st.lent; kept = st.kept }

rises_for : (s : Script) (now : SubtaskState) (c : kept_caller.Caller) (d : Caller) → CallerStands s c d → CallerStands s (changed (callers.raised now) c) d
rises_for s now by.Nobody d st = st
rises_for s now (by.Host call) d st = st
rises_for s now (by.Guest called) d st = risen_stands s now called d (follows called.subtask.state now) st

pub raised_stands : (g : Graph) (s : Script) (now : SubtaskState) (x : TaskSlot) (a : Task) → TaskStands g s x a → TaskStands g s (raised_slot now x) a
raised_stands g s now x a st = record {
  does = st.does;
  place = st.place;
  lifted = st.lifted;
  called = rises_for s now x.caller a.caller st.called;
  seen = st.seen;
  far = st.far;
  at = st.at;
  resolved = st.resolved;
  cancelled = st.cancelled;
  words = st.words;
  placed = st.placed;
}

pub raised_is : (t : ℕ) (now : SubtaskState) (h : Held) (x : TaskSlot) → slice_get h.tasks t ≡ Some x → may_raise now x.caller ≡ true
    → raised t now h ≡ Gives tt (with_task t (raised_slot now x) h)
raised_is t now h x is may =
    found (slice_get h.tasks t) x (λ slot. if may_raise now slot.caller then Gives tt (with_task t (raised_slot now slot) h) else kept.Stuck) is ∙ if_true _ _ _ may

-- It may, where the state that is kept is one that the new one follows.
pub may_rise : (t : ℕ) (old now : SubtaskState) (c : kept_caller.Caller) → follows old now ≡ true → CallerMarked t old c → may_raise now c ≡ true
may_rise t old now by.Nobody next m = refl
may_rise t old now (by.Host call) next m = refl
may_rise t old now (by.Guest called) next m = ap (λ (x : SubtaskState). follows x now) m.seen ∙ next

-- The control of a call.
calls_there : (g : Graph) (values : List ValType) (s : Script) (h : Held) (stacks : List (List Stack)) (w : World) (t number : ℕ) (words : List ℕ) (x : TaskSlot) → slice_get w.chain 0 ≡ Some t
    → Stands g values s h stacks w → slice_get h.tasks t ≡ Some x → x.at_words ≡ words → h.rest ≡ rest.Calls number → control_of (acting_words h) h.rest ≡ Calls number words
calls_there g values s h stacks w t number words x first st is same rests =
    ap (λ (r : Rest). control_of (acting_words h) r) rests
    ∙ ap (λ (o : Option ℕ). Calls number (words_in (option_and_then (λ n. slice_get h.tasks n) o))) (acting_is_alike g values s h stacks w st ∙ first)
    ∙ ap (λ (o : Option TaskSlot). Calls number (words_in o)) is ∙ ap (Calls number) same

-- `task.return`
return_by : (g : Graph) (values : List ValType) (s : Script) (h : Held) (stacks : List (List Stack)) (w : World) (t number : ℕ) (task : Task) (b : Builtin) (options : Options) (words : List ℕ)
    (result : Option ValType) (x : TaskSlot) (sync : Bool)
    → slice_get w.chain 0 ≡ Some t → slice_get w.tasks t ≡ Some task → slice_get h.tasks t ≡ Some x → x.task.phase ≡ phase.Acting → canon_at g number ≡ Some (canon.Builtin b)
    → b.kind ≡ kind.TaskReturn result options → h.rest ≡ rest.Calls number → x.at_words ≡ words → is_sync x.task.kind ≡ sync → is_sync (kind_of task) ≡ sync → Stands g values s h stacks w
    → Agrees g values s t h.labels stacks (return_asked t h) (return_turn g t task b.instance result options words w)
unfolding return_asked return_turn
return_by g values s h stacks w t number task b options words result x true first there is acts canon_is kind_is rests same kept_sync sync st =
    both_as g values s t h.labels stacks _ _ _ _
    (trapped _ _ _ (λ done k. Gives flow.Returns k) (refused_when event.AskReturn x t h task_trap.SyncTask is (ap is_acting acts) (ap (λ (b : Bool). if b then Some task_trap.SyncTask else None) kept_sync)))
    (ap (λ (c : Bool). unless_fault t traps.task_name (if c then Some task_trap.SyncTask else None) w
    (turns.given (func_of task.callee) (λ f. return_checked g t task b.instance result options words f w))) sync)
    (on_trap g values s t h.labels stacks (with_task t x h) w (names.task_name task_trap.SyncTask) refl (tasks_stay g values s h stacks w t x x is (λ a now. now) st))
return_by g values s h stacks w t number task b options words result x false first there is acts canon_is kind_is rests same kept_sync sync st =
    let k : Held = with_task t x h in
    let k_st : Stands g values s k stacks w = tasks_stay g values s h stacks w t x x is (λ a now. now) st in
    both_as g values s t h.labels stacks _ _ _ _
    (via _ _ _ (λ done k. Gives flow.Returns k) (happens_when event.AskReturn x t h is (ap is_acting acts) (ap (λ (b : Bool). if b then Some task_trap.SyncTask else None) kept_sync)))
    (ap (λ (c : Bool). unless_fault t traps.task_name (if c then Some task_trap.SyncTask else None) w
    (turns.given (func_of task.callee) (λ f. return_checked g t task b.instance result options words f w))) sync)
    (record {
      lines = [];
      world = w;
      stands = k_st;
      told = sym (append-nil h.labels);
      ends =
          sym (behind_none (returns g t (control_of (acting_words k) k.rest) w)
          ∙ ap (λ (c : Control). returns g t c w) (calls_there g values s k stacks w t number words x first k_st (get_set h.tasks t x x is) same rests)
          ∙ turn_found (task_at w t) task (λ task. turns.given (canon_at g number) (λ c. returns_canon g t task words c w)) there
          ∙ turn_found (canon_at g number) (canon.Builtin b) (λ c. returns_canon g t task words c w) canon_is
          ∙ ap (λ (k : BuiltinKind). returns_kind g t task words b.instance k w) kind_is);
    })

pub task_returns : TaskReturns
task_returns g values s h stacks w t number task b options words result first there acts canon_is kind_is rests same st =
    let one : IsFound (TaskStands g s) (slice_get h.tasks t) (slice_get w.tasks t) = found_both (TaskStands g s) h.tasks w.tasks t st.are_tasks (ap is_some there) in
    let alike : TaskStands g s one.left task = subst (λ (a : Task). TaskStands g s one.left a) (some_same (sym one.is_right ∙ there)) one.alike in
    return_by g values s h stacks w t number task b options words result one.left (is_sync (kind_of task)) first there one.is_left (alike.far ∙ ap (phase_of (flag_at g)) acts) canon_is kind_is rests
    (same one.left one.is_left) (ap is_sync alike.lifted) refl st

-- `task.cancel`
not_resolved : (a b c d : Bool) (p q r u : TaskTrap)
    → (if a then Some p else (if b then (if c then Some q else (if d then Some r else None)) else Some u)) ≡ None → c ≡ false
not_resolved true b c d p q r u e = absurd (cc)
not_resolved false false c d p q r u e = absurd (cc)
not_resolved false true true d p q r u e = absurd (cc)
not_resolved false true false d p q r u e = refl

none_of : (r : Option Resolution) → is_some r ≡ false → r ≡ None
none_of None e = refl
none_of (Some x) e = absurd (cc)

resolved_stands : (g : Graph) (s : Script) (x : TaskSlot) (a : Task) → TaskStands g s x a
    → TaskStands g s (slots.with_task (record x.task { resolution = Some resolution.Cancelled }) x) (record a { resolution = Some resolution.Cancelled })
resolved_stands g s x a st = record {
  does = st.does;
  place = st.place;
  lifted = st.lifted;
  called = st.called;
  seen = st.seen;
  far = st.far;
  at = st.at;
  resolved = refl;
  cancelled = st.cancelled;
  words = st.words;
  placed = st.placed;
}

cancel_by : (g : Graph) (values : List ValType) (s : Script) (h : Held) (stacks : List (List Stack)) (w : World) (t : ℕ) (task : Task) (x : TaskSlot) (o : Option TaskTrap)
    → slice_get h.tasks t ≡ Some x → x.task.phase ≡ phase.Acting → CallerMarked t (state_of x.task) x.caller → cancel_fault x.task ≡ o → cancel_fault (task_view g w t task) ≡ o
    → Stands g values s h stacks w
    → Agrees g values s t h.labels stacks (task_cancel t h) (task_cancel_turn g t task w)
unfolding task_cancel task_cancel_turn
cancel_by g values s h stacks w t task x (Some why) is acts marked fails fails_so st =
    both_as g values s t h.labels stacks _ _ _ _
    (trapped _ _ _ (λ done k. after (told (line.Cancelled t) k) (λ done l. after (raised t state.CancelledBeforeReturned l) (λ done m. got t [] m)))
    (refused_when event.Cancel x t h why is (ap is_acting acts) fails))
    (ap (λ (f : Option TaskTrap). unless_fault t traps.task_name f w (behind (line.Cancelled t ∷ []) (replied t [] (world.resolved t resolution.Cancelled w)))) fails_so
    ∙ ap (λ (name : TrapName). doomed t name w) (sym (names_same why)))
    (on_trap g values s t h.labels stacks (with_task t x h) w (names.task_name why) refl (tasks_stay g values s h stacks w t x x is (λ a now. now) st))
cancel_by g values s h stacks w t task x None is acts marked fails fails_so st =
    let y : TaskSlot = slots.with_task (record x.task { resolution = Some resolution.Cancelled }) x in
    let k : Held = with_task t y h in
    let told_so : Held = record k { labels = h.labels ++ line.Cancelled t ∷ [] } in
    let none : x.task.resolution ≡ None =
    none_of x.task.resolution (not_resolved (is_sync x.task.kind) (is_told x.task.cancellation) (is_some x.task.resolution) (nat_lt 0 x.task.borrows) _ _ _ _ fails) in
    let started : state_of x.task ≡ state.Started =
    ap (λ (r : Option Resolution). resolved_state x.task.cancellation r x.task.phase) none ∙ ap (λ (p : Phase). resolved_state x.task.cancellation None p) acts in
    let may : may_raise state.CancelledBeforeReturned y.caller ≡ true =
    may_rise t state.Started state.CancelledBeforeReturned x.caller refl (subst (λ (n : SubtaskState). CallerMarked t n x.caller) started marked) in
    let k_st : Stands g values s k stacks (world.resolved t resolution.Cancelled w) =
    tasks_change g values s h stacks w t x y (λ a. record a { resolution = Some resolution.Cancelled }) is (λ a there now. resolved_stands g s x a now) (λ a. refl) st in
    both_as g values s t h.labels stacks _ _ _ _
    (via _ _ _ (λ done k. after (told (line.Cancelled t) k) (λ done l. after (raised t state.CancelledBeforeReturned l) (λ done m. got t [] m)))
    (happens_when event.Cancel x t h is (ap is_acting acts) fails)
    ∙ via _ _ _ (λ done m. got t [] m) (raised_is t state.CancelledBeforeReturned told_so y (get_set h.tasks t x y is) may))
    (ap (λ (f : Option TaskTrap). unless_fault t traps.task_name f w (behind (line.Cancelled t ∷ []) (replied t [] (world.resolved t resolution.Cancelled w)))) fails_so)
    (record {
      lines = line.Cancelled t ∷ line.Got t [] ∷ [];
      world = world.resolved t resolution.Cancelled w;
      stands = tasks_stay g values s k stacks (world.resolved t resolution.Cancelled w) t y (raised_slot state.CancelledBeforeReturned y) (get_set h.tasks t x y is)
          (λ a now. raised_stands g s state.CancelledBeforeReturned y a now) k_st;
      told = append_assoc h.labels (line.Cancelled t ∷ []) (line.Got t [] ∷ []);
      ends = (refl, refl);
    })

pub task_cancels : TaskCancels
task_cancels g values s h stacks w t task there acts borrows states st =
    let one : IsFound (TaskStands g s) (slice_get h.tasks t) (slice_get w.tasks t) = found_both (TaskStands g s) h.tasks w.tasks t st.are_tasks (ap is_some there) in
    let alike : TaskStands g s one.left task = subst (λ (a : Task). TaskStands g s one.left a) (some_same (sym one.is_right ∙ there)) one.alike in
    cancel_by g values s h stacks w t task one.left (cancel_fault (task_view g w t task)) one.is_left (alike.far ∙ ap (phase_of (flag_at g)) acts) (states one.left one.is_left)
    (ap cancel_fault (view_is g s w t one.left task alike (borrows one.left one.is_left))) refl st
