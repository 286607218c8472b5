-- A task calls a function.
use Rattle.std.proofs.Common.{◌≡◌, inl, inr, ℕ, zero, suc, ◌+◌, Bool, true, false, ◌||◌, nat_eq, is_some, List, [], ◌∷◌, ◌++◌, length, refl, sym, ap, ◌∙◌, subst, Option, Some, None}
use Rattle.std.specs.Prelude.{IsSome}
use Rattle.std.specs.List.{slice_get}
use Rattle.syntax_trees.specs.declared.types.ValType.{ValType}
use Rattle.wasm_store.specs.Stack.{Stack}
use Rattle.entry_gate.specs.declared.kind.Kind.{Kind}
use Rattle.tasks.specs.declared.phase.Phase.TheVariants as phase
use Rattle.comp_graph.specs.Graph.{Graph, Lifted}
use Rattle.script_reader.specs.Script.{Script}
use Rattle.trace_labels.specs.declared.label.Label.TheVariants as line
use Rattle.trace_labels.specs.declared.trap.TrapName.TheVariants as trap
use Rattle.task_table.specs.declared.caller.Caller as kept_caller
use Rattle.task_table.specs.declared.caller.Caller.TheVariants as caller
use Rattle.task_table.specs.declared.errand.Callee as runs
use Rattle.task_table.specs.declared.errand.Errand.TheVariants as errand
use Rattle.task_table.specs.declared.slot.TaskSlot.{TaskSlot}
use Rattle.task_table.specs.Callers.{new_called}
use Rattle.task_table.specs.Slots.{new_slot, at_errand}
use Rattle.task_table.specs.Tasks as kept_tasks
use Rattle.task_table.specs.Tasks.{by_of, is_of_slot}
use Rattle.world_parts.specs.Held.{Held}
use Rattle.world_parts.specs.Slots.{with_task, reenters}
use Rattle.world_parts.specs.Calls as kept
use Rattle.abi_machine.specs.Control.{Arrives}
use Rattle.abi_machine.specs.World.{Callee, Caller, Nobody, Host, Guest, New, AfterCall, Task, World, new_task}
use Rattle.abi_machine.specs.Edits as world
use Rattle.abi_machine.specs.Edits.{with_control, changed_at, in_state}
use Rattle.abi_machine.specs.Canons.{flag_at, kind_of_options}
use Rattle.abi_machine.specs.Counting.{phase_of}
use Rattle.abi_machine.specs.Reading.{func_of, kind_of_func, subtask_of, is_in, is_among, is_of_task, is_among_callers, is_reentrant}
use Rattle.abi_machine.specs.Turn.{Steps}
use Rattle.abi_machine.specs.Calling.{begun, called_by, call_begun}
use Rattle.abi_machine.proofs.sound.Found.{some_same}
use Rattle.standing.specs.Tasks.{callee_of, RunsIn, CallerStands, TaskStands}
use Rattle.standing.specs.Stands.{Stands}
use Rattle.standing.specs.Agreeing.{Agrees}
use Rattle.standing.specs.Callings.{AgreesMade, CallersRun, CallIsBegun}
use Rattle.standing.proofs.Lists.{IsFound, found_both, both_long}
use Rattle.standing.proofs.Changes.{tasks_change, tasks_are_made, tasks_come_to_the_chain}
use Rattle.standing.proofs.Agreeing.{on_trap}
use Rattle.standing.proofs.Steps.{via, if_true, if_false, both_as, errand_put}

-- Whether a call comes back to an instance that waits for it.
none_among : (count instance : ℕ) (slots : List TaskSlot) → kept_tasks.is_among_callers count instance None slots ≡ false
none_among zero instance slots = refl
none_among (suc count) instance slots = refl

pub in_instance : (instance at : ℕ) (o : Option Lifted) → IsSome o → RunsIn at o → nat_eq at instance ≡ is_in instance o
in_instance instance at None some st = absurd (cc)
in_instance instance at (Some f) some st = ap (λ (n : ℕ). nat_eq n instance) st

or_same : (a b c d : Bool) → a ≡ b → c ≡ d → (a || c) ≡ (b || d)
or_same a b c d e f = ap (λ x. x || c) e ∙ ap (λ x. b || x) f

by_caller : (s : Script) (w : World) (slots : List TaskSlot) (count instance t : ℕ) (task : Task) (c : kept_caller.Caller) (d : Caller) → slice_get w.tasks t ≡ Some task → task.caller ≡ d
    → CallersRun w → CallerStands s c d
    → ((n : ℕ) (a : Task) → slice_get w.tasks n ≡ Some a → IsSome (func_of a.callee) → kept_tasks.is_among_callers count instance (Some n) slots ≡ is_among_callers count w instance n)
    → kept_tasks.is_among_callers count instance (by_of c) slots ≡ is_among (is_among_callers count w instance) (subtask_of d)
by_caller s w slots count instance t task caller.Nobody Nobody there e run b more = none_among count instance slots
by_caller s w slots count instance t task caller.Nobody (Host call vs) there e run b more = absurd b
by_caller s w slots count instance t task caller.Nobody (Guest subtask) there e run b more = absurd b
by_caller s w slots count instance t task (caller.Host number) Nobody there e run b more = absurd b
by_caller s w slots count instance t task (caller.Host number) (Host call vs) there e run b more = none_among count instance slots
by_caller s w slots count instance t task (caller.Host number) (Guest subtask) there e run b more = absurd b
by_caller s w slots count instance t task (caller.Guest called) Nobody there e run b more = absurd b
by_caller s w slots count instance t task (caller.Guest called) (Host call vs) there e run b more = absurd b
by_caller s w slots count instance t task (caller.Guest called) (Guest subtask) there e run b more =
    ap (λ (n : ℕ). kept_tasks.is_among_callers count instance (Some n) slots) b.caller
    ∙ more subtask.by (run t task subtask there e).0 (run t task subtask there e).1 (run t task subtask there e).2

callers_alike : (g : Graph) (values : List ValType) (s : Script) (h : Held) (stacks : List (List Stack)) (w : World) (count instance t : ℕ) (task : Task)
    → slice_get w.tasks t ≡ Some task → IsSome (func_of task.callee) → CallersRun w → Stands g values s h stacks w
    → kept_tasks.is_among_callers count instance (Some t) h.tasks ≡ is_among_callers count w instance t
callers_alike g values s h stacks w zero instance t task there runs run st = refl
callers_alike g values s h stacks w (suc count) instance t task there runs run st =
    let one : IsFound (TaskStands g s) (slice_get h.tasks t) (slice_get w.tasks t) = found_both (TaskStands g s) h.tasks w.tasks t st.are_tasks (ap is_some there) in
    let alike : TaskStands g s one.left task = subst (λ (a : Task). TaskStands g s one.left a) (some_same (sym one.is_right ∙ there)) one.alike in
    ap (λ (o : Option TaskSlot). is_of_slot (λ by. kept_tasks.is_among_callers count instance by h.tasks) instance o) one.is_left
    ∙ or_same (nat_eq one.left.instance instance) (is_in instance (func_of task.callee)) _ _ (in_instance instance one.left.instance (func_of task.callee) runs alike.place)
    (by_caller s w h.tasks count instance t task one.left.caller task.caller there refl run alike.called
    (λ n a a_is a_runs. callers_alike g values s h stacks w count instance n a a_is a_runs run st))
    ∙ ap (λ (o : Option Task). is_of_task (is_among_callers count w instance) instance o) (sym there)

pub reenters_alike : (g : Graph) (values : List ValType) (s : Script) (h : Held) (stacks : List (List Stack)) (w : World) (instance at t : ℕ) (task : Task)
    → slice_get w.tasks t ≡ Some task → IsSome (func_of task.callee) → CallersRun w → instance ≡ at → Stands g values s h stacks w → reenters instance t h ≡ is_reentrant w at t
reenters_alike g values s h stacks w instance at t task there runs run same st =
    callers_alike g values s h stacks w (length h.tasks) instance t task there runs run st
    ∙ ap (λ (n : ℕ). is_among_callers n w instance t) (both_long (TaskStands g s) h.tasks w.tasks st.are_tasks)
    ∙ ap (λ (n : ℕ). is_among_callers (length w.tasks) w n t) same

-- The task that is called, and the one that calls.
new_stands : (g : Graph) (s : Script) (t canon instance made : ℕ) (callee : runs.Callee) (kind : Kind) (passed : List ℕ) (does : Callee) (f : Lifted)
    → callee_of g callee ≡ Some does → func_of does ≡ Some f → instance ≡ f.instance → kind ≡ kind_of_options f.options
    → TaskStands g s (new_slot instance kind callee (caller.Guest (new_called t canon passed made))) (new_task does (Guest (called_by t canon passed)) New)
new_stands g s t canon instance made callee kind passed does f is runs place lifted = record {
  does = is;
  place = subst (λ (o : Option Lifted). RunsIn instance o) (sym runs) place;
  lifted = lifted ∙ ap kind_of_func (sym runs);
  called = record { caller = refl; by_canon = refl; passed = refl; was_told = refl; lent = refl; kept = refl };
  seen = refl;
  far = refl;
  at = refl;
  resolved = refl;
  cancelled = refl;
  words = refl;
  placed = tt;
}

calls_stand : (g : Graph) (s : Script) (x : TaskSlot) (a : Task) (made canon : ℕ) (words : List ℕ) → x.task.phase ≡ phase.Acting → TaskStands g s x a
    → TaskStands g s (at_errand (errand.AfterCall made canon) x) (record a { state = AfterCall made canon words })
calls_stand g s x a made canon words acts st = record {
  does = st.does;
  place = st.place;
  lifted = st.lifted;
  called = st.called;
  seen = st.seen;
  far = acts;
  at = refl;
  resolved = st.resolved;
  cancelled = st.cancelled;
  words = st.words;
  placed = tt;
}

pub changed_long : {A : Type 0} (n : ℕ) (f : A → A) (xs : List A) → length (changed_at n f xs) ≡ length xs
changed_long n f [] = refl
changed_long zero f (x ∷ xs) = refl
changed_long (suc n) f (x ∷ xs) = ap suc (changed_long n f xs)

-- It is made, and acts.
begins : (g : Graph) (values : List ValType) (s : Script) (h : Held) (stacks : List (List Stack)) (w : World) (t canon instance : ℕ) (callee : runs.Callee) (kind : Kind)
    (words passed : List ℕ) (does : Callee) (f : Lifted) (x : TaskSlot) (task : Task)
    → slice_get h.tasks t ≡ Some x → x.task.phase ≡ phase.Acting → callee_of g callee ≡ Some does → func_of does ≡ Some f → instance ≡ f.instance → kind ≡ kind_of_options f.options
    → is_reentrant w f.instance t ≡ false → reenters instance t h ≡ false → Stands g values s h stacks w
    → Agrees g values s t h.labels (stacks ++ [] ∷ []) (kept.call_begun t canon callee instance kind passed h) (call_begun t canon words does f passed w)
unfolding kept.call_begun call_begun
begins g values s h stacks w t canon instance callee kind words passed does f x task is far does_is func place lifted e again st =
    let made : ℕ = length h.tasks in
    let many : made ≡ length w.tasks = both_long (TaskStands g s) h.tasks w.tasks st.are_tasks in
    let called : Held = with_task t (at_errand (errand.AfterCall made canon) x) h in
    let calls : World = in_state t (AfterCall made canon words) w in
    let called_st : Stands g values s called stacks calls =
    tasks_change g values s h stacks w t x (at_errand (errand.AfterCall made canon) x) (λ a. record a { state = AfterCall made canon words }) is
    (λ a a_is now. calls_stand g s x a made canon words far now) (λ a. refl) st in
    let slot : TaskSlot = new_slot instance kind callee (caller.Guest (new_called t canon passed made)) in
    let grown : Held = record called { tasks = called.tasks ++ slot ∷ [] } in
    let grown_st : Stands g values s grown (stacks ++ [] ∷ []) (world.task_made does (Guest (called_by t canon passed)) calls) =
    tasks_are_made g values s called stacks calls slot (new_task does (Guest (called_by t canon passed)) New)
    (new_stands g s t canon instance made callee kind passed does f does_is func place lifted) called_st in
    both_as g values s t h.labels (stacks ++ [] ∷ []) _ _ _ _
    (if_false _ _ _ again ∙ via _ _ _ _ (errand_put t (errand.AfterCall made canon) h x is)) (if_false _ _ _ e)
    (record {
      lines = line.Call t made (instance + 1) ∷ [];
      world = world.chained made (world.task_made does (Guest (called_by t canon passed)) calls);
      stands = tasks_come_to_the_chain g values s grown (stacks ++ [] ∷ []) (world.task_made does (Guest (called_by t canon passed)) calls) made grown_st;
      told = refl;
      ends =
          ap (λ (n : ℕ). Steps (line.Call t n (f.instance + 1) ∷ []) (begun does (Guest (called_by t canon passed)) (in_state t (AfterCall n canon words) w))) (sym many)
          ∙ ap (λ (n : ℕ). Steps (line.Call t made (f.instance + 1) ∷ []) (with_control Arrives (world.chained n (world.task_made does (Guest (called_by t canon passed)) calls))))
          (changed_long t (λ (a : Task). record a { state = AfterCall made canon words }) w.tasks ∙ sym many)
          ∙ ap (λ (n : ℕ). Steps (line.Call t made (n + 1) ∷ []) (with_control Arrives (world.chained made (world.task_made does (Guest (called_by t canon passed)) calls)))) (sym place);
    })

begun_by : (g : Graph) (values : List ValType) (s : Script) (h : Held) (stacks : List (List Stack)) (w : World) (t canon instance : ℕ) (callee : runs.Callee) (kind : Kind)
    (words passed : List ℕ) (does : Callee) (f : Lifted) (x : TaskSlot) (task : Task) (b : Bool)
    → slice_get h.tasks t ≡ Some x → x.task.phase ≡ phase.Acting → callee_of g callee ≡ Some does → func_of does ≡ Some f → instance ≡ f.instance → kind ≡ kind_of_options f.options
    → is_reentrant w f.instance t ≡ b → reenters instance t h ≡ b → Stands g values s h stacks w
    → AgreesMade g values s t h.labels stacks (kept.call_begun t canon callee instance kind passed h) (call_begun t canon words does f passed w)
unfolding kept.call_begun call_begun
begun_by g values s h stacks w t canon instance callee kind words passed does f x task true is far does_is func place lifted e again st =
    (stacks, inl refl, both_as g values s t h.labels stacks _ _ _ _ (if_true _ _ _ again) (if_true _ _ _ e) (on_trap g values s t h.labels stacks h w trap.Reentrant refl st))
begun_by g values s h stacks w t canon instance callee kind words passed does f x task false is far does_is func place lifted e again st =
    (stacks ++ [] ∷ [], inr refl, begins g values s h stacks w t canon instance callee kind words passed does f x task is far does_is func place lifted e again st)

pub call_is_begun : CallIsBegun
call_is_begun g values s h stacks w t canon instance callee kind words passed does f task there acts runs run is func place lifted st =
    let one : IsFound (TaskStands g s) (slice_get h.tasks t) (slice_get w.tasks t) = found_both (TaskStands g s) h.tasks w.tasks t st.are_tasks (ap is_some there) in
    begun_by g values s h stacks w t canon instance callee kind words passed does f one.left task (is_reentrant w f.instance t) one.is_left
    (one.alike.far ∙ ap (λ (a : Task). phase_of (flag_at g) a.state) (some_same (sym one.is_right ∙ there)) ∙ ap (phase_of (flag_at g)) acts) is func place lifted refl
    (reenters_alike g values s h stacks w instance f.instance t task there runs run place st) st
