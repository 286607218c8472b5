-- A handle is dropped.
use Rattle.std.proofs.Common.{◌≡◌, inl, ℕ, ◌-◌, Bool, true, false, not, ◌&&◌, nat_eq, nat_lt, if◌then◌else◌, List, [], ◌∷◌, is_some, refl, sym, ap, ◌∙◌, subst, append-nil, Option, Some, None, Result, Ok, Err}
use Rattle.std.specs.Prelude.{IsSome}
use Rattle.std.specs.List.{slice_get}
use Rattle.std.specs.Option.{option_map}
use Rattle.syntax_trees.specs.declared.types.ValType.{ValType}
use Rattle.wasm_store.specs.Stack.{Stack}
use Rattle.handle_table.specs.History.{Remove, live}
use Rattle.res_handles.specs.declared.handle.Handle.{Handle}
use Rattle.res_handles.specs.declared.handle.Ownership.{Ownership}
use Rattle.res_handles.specs.declared.handle.Ownership.TheVariants.{Own, Borrow}
use Rattle.res_handles.specs.declared.refusal.Refusal.{Refusal}
use Rattle.res_handles.specs.Refusals.{dropped_in}
use Rattle.entry_gate.specs.declared.kind.Kind.TheVariants.{Sync}
use Rattle.tasks.specs.declared.event.TaskEvent.TheVariants as event
use Rattle.tasks.specs.Tasks as task_of
use Rattle.comp_graph.specs.declared.graph.FuncRef.{FuncRef}
use Rattle.comp_graph.specs.declared.graph.Resource.{Resource}
use Rattle.comp_graph.specs.Graph.{Graph}
use Rattle.script_reader.specs.Script.{Script}
use Rattle.trace_labels.specs.declared.label.Label.{Label}
use Rattle.trace_labels.specs.declared.trap.TrapName.{TrapName}
use Rattle.trace_labels.specs.declared.trap.TrapName.TheVariants as trap
use Rattle.instances.specs.declared.entry.WorldEntry.TheVariants as entry
use Rattle.instances.specs.Instances as instance
use Rattle.instances.specs.Instances.{InstanceView, entry_of, view_of}
use Rattle.task_table.specs.declared.errand.Callee.TheVariants as callee
use Rattle.task_table.specs.declared.slot.TaskSlot.{TaskSlot}
use Rattle.task_table.specs.Slots as slots
use Rattle.world_parts.specs.declared.parts.Flow.{Flow}
use Rattle.world_parts.specs.declared.parts.Flow.TheVariants as flow
use Rattle.world_parts.specs.declared.parts.Rest.TheVariants as rest
use Rattle.world_parts.specs.Names as names
use Rattle.world_parts.specs.Views.{Views}
use Rattle.world_parts.specs.Held.{Held, Done, Gives, Traps, after, given}
use Rattle.world_parts.specs.Feed.{at_rest, got}
use Rattle.world_parts.specs.Entries.{with_instance, dropped_of, handle_dropped}
use Rattle.world_parts.specs.Slots.{with_task, word_in, happens, reenters}
use Rattle.world_parts.specs.Calls as kept_calls
use Rattle.world_parts.specs.Handles as kept
use Rattle.world_parts.specs.Handles.{undestroyed, destroyed_by, destroyed_of, resource_drop}
use Rattle.abi_machine.specs.World.{Destroys, Acting, Inst, Task, World}
use Rattle.abi_machine.specs.Edits as world
use Rattle.abi_machine.specs.Traps.{renamed, refusal_name}
use Rattle.abi_machine.specs.Canons.{resource_at, destructor_of}
use Rattle.abi_machine.specs.Reading.{table_in, func_of, is_reentrant}
use Rattle.abi_machine.specs.Counting.{entry_view, view_at}
use Rattle.abi_machine.specs.Turn as turns
use Rattle.abi_machine.specs.Turn.{Turn, doomed, unless, unless_refused, replied}
use Rattle.abi_machine.specs.Calling.{call_begun}
use Rattle.abi_machine.specs.replies.Resources as machine
use Rattle.abi_machine.specs.replies.Resources.{destroyed_here, resource_drop_turn}
use Rattle.standing.specs.Instances.{InstStands}
use Rattle.standing.specs.Tasks.{destroyed_in, destroyed_by as destroyed_as, TaskStands}
use Rattle.standing.specs.Stands.{Stands}
use Rattle.standing.specs.Agreeing.{starts, Agrees}
use Rattle.standing.specs.Callings.{AgreesMade, CallersRun}
use Rattle.standing.specs.HandleDrops.{SeesResources, ResourcesAreSeen, CountsOne, IsCounted, HandleKept, KeepsHandle, HandleIsDropped}
use Rattle.standing.proofs.Lists.{IsFound, found_both}
use Rattle.standing.proofs.Tables.{entries_are_alike, entries_are_removed}
use Rattle.standing.proofs.Changes.{instances_change, refusals_change_nothing}
use Rattle.standing.proofs.Found.{names_same, word_is}
use Rattle.standing.proofs.HandlesFound.{dropped_alike, dropped_there}
use Rattle.standing.proofs.Seen.{resource_same}
use Rattle.standing.proofs.Steps.{found, both_as, behind_none}
use Rattle.standing.proofs.Blocking.{happens_when}
use Rattle.standing.proofs.Going.{done_as}
use Rattle.standing.proofs.Backing.{tasks_stay}
use Rattle.standing.proofs.Begun.{reenters_alike, call_is_begun}
use Rattle.standing.proofs.Agreeing.{on_got, on_trap, on_if}

pub resources_are_seen : ResourcesAreSeen
resources_are_seen g number = resource_same g number

-- A part that may make a task, told by others; and one that makes none.
pub made_as : (g : Graph) (values : List ValType) (s : Script) (t : ℕ) (before : List Label) (stacks : List (List Stack)) (d e : Done Flow) (u v : Turn) → d ≡ e → u ≡ v
    → AgreesMade g values s t before stacks e v → AgreesMade g values s t before stacks d u
made_as g values s t before stacks d e u v same turn a = (a.0, a.1, both_as g values s t before a.0 d e u v same turn a.2)

pub makes_none : (g : Graph) (values : List ValType) (s : Script) (t : ℕ) (before : List Label) (stacks : List (List Stack)) (d : Done Flow) (u : Turn)
    → Agrees g values s t before stacks d u → AgreesMade g values s t before stacks d u
makes_none g values s t before stacks d u a = (stacks, inl refl, a)

-- A borrow handle counts for its task no more, which the machine does not keep.
unborrowed : TaskSlot → TaskSlot
unborrowed x = slots.with_task (task_of.after event.Unborrow x.task) x

unborrowed_stands : (g : Graph) (s : Script) (x : TaskSlot) (a : Task) → TaskStands g s x a → TaskStands g s (unborrowed x) a
unfolding unborrowed
unborrowed_stands g s x a st = record {
  does = st.does;
  place = st.place;
  lifted = st.lifted;
  called = st.called;
  seen = st.seen;
  far = st.far;
  at = st.at;
  resolved = st.resolved;
  cancelled = st.cancelled;
  words = st.words;
  placed = st.placed;
}

borrow_is_dropped : (g : Graph) (values : List ValType) (s : Script) (h : Held) (stacks : List (List Stack)) (w : World) (t by : ℕ) → CountsOne h.tasks by → Stands g values s h stacks w
    → Agrees g values s t h.labels stacks (after (happens by event.Unborrow h) (λ done k. got t [] k)) (replied t [] w)
unfolding unborrowed
borrow_is_dropped g values s h stacks w t by counts st =
    done_as g values s t h.labels stacks (after (happens by event.Unborrow h) (λ done k. got t [] k)) (got t [] (with_task by (unborrowed counts.0) h)) (replied t [] w)
    (ap (λ (d : Done (Unit {0})). after d (λ done k. got t [] k)) (happens_when event.Unborrow counts.0 by h counts.1 counts.2 refl))
    (on_got g values s t h.labels stacks (with_task by (unborrowed counts.0) h) w [] refl
    (tasks_stay g values s h stacks w by counts.0 (unborrowed counts.0) counts.1 (λ a now. unborrowed_stands g s counts.0 a now) st))

-- Without a destructor nothing is destroyed, but the instance of the resource may not wait for this one.
nothing_destroyed : (g : Graph) (values : List ValType) (s : Script) (h : Held) (stacks : List (List Stack)) (w : World) (t at home : ℕ) (task : Task)
    → slice_get w.tasks t ≡ Some task → IsSome (func_of task.callee) → CallersRun w → Stands g values s h stacks w
    → Agrees g values s t h.labels stacks (undestroyed t at home h) (unless t (not (nat_eq home at) && is_reentrant w home t) trap.Reentrant w (replied t [] w))
unfolding undestroyed
nothing_destroyed g values s h stacks w t at home task there runs run st =
    on_if g values s t h.labels stacks (not (nat_eq home at) && reenters home t h) (not (nat_eq home at) && is_reentrant w home t) _ _ _ _
    (ap (λ (b : Bool). not (nat_eq home at) && b) (reenters_alike g values s h stacks w home home t task there runs run refl st))
    (on_trap g values s t h.labels stacks h w trap.Reentrant refl st) (on_got g values s t h.labels stacks h w [] refl st)

-- A destructor runs on a further stack,
starts_here : (g : Graph) (values : List ValType) (s : Script) (h : Held) (stacks : List (List Stack)) (w : World) (t rep : ℕ) (ref : FuncRef) → Stands g values s h stacks w
    → Agrees g values s t h.labels stacks (Gives (flow.Starts ref (rep ∷ [])) (at_rest rest.Runs h)) (destroyed_here t ref rep w)
unfolding destroyed_here
starts_here g values s h stacks w t rep ref st =
    record { lines = []; world = w; stands = st; told = sym (append-nil h.labels); ends = (refl, sym (behind_none (starts t ref (rep ∷ []) w))) }

-- or by a call.
by_core : (g : Graph) (values : List ValType) (s : Script) (h : Held) (stacks : List (List Stack)) (w : World) (t at canon : ℕ) (words : List ℕ) (task : Task) (x : Handle) (r : Resource)
    (ref : FuncRef) (b : Bool)
    → resource_at g x.resource ≡ Some r → r.destructor ≡ Some ref → slice_get w.tasks t ≡ Some task → task.state ≡ Acting → IsSome (func_of task.callee) → CallersRun w
    → Stands g values s h stacks w
    → AgreesMade g values s t h.labels stacks
    (if b then Gives (flow.Starts ref (x.rep ∷ [])) (at_rest rest.Runs h) else kept_calls.call_begun t canon (callee.Destroys x.resource) r.instance Sync (x.rep ∷ []) h)
    (if b then destroyed_here t ref x.rep w
    else call_begun t canon words (Destroys x.resource (destructor_of r.instance ref)) (destructor_of r.instance ref) (x.rep ∷ []) w)
by_core g values s h stacks w t at canon words task x r ref true is core there acts runs run st =
    makes_none g values s t h.labels stacks (Gives (flow.Starts ref (x.rep ∷ [])) (at_rest rest.Runs h)) (destroyed_here t ref x.rep w)
    (starts_here g values s h stacks w t x.rep ref st)
by_core g values s h stacks w t at canon words task x r ref false is core there acts runs run st =
    call_is_begun g values s h stacks w t canon r.instance (callee.Destroys x.resource) Sync words (x.rep ∷ []) (Destroys x.resource (destructor_of r.instance ref))
    (destructor_of r.instance ref) task there acts runs run
    (ap (λ (o : Option Resource). destroyed_in x.resource o) is ∙ ap (λ (o : Option FuncRef). destroyed_as x.resource r.instance o) core) refl refl refl st

by_destructor : (g : Graph) (values : List ValType) (s : Script) (h : Held) (stacks : List (List Stack)) (w : World) (t at canon : ℕ) (words : List ℕ) (task : Task) (x : Handle) (r : Resource)
    (o : Option FuncRef)
    → resource_at g x.resource ≡ Some r → r.destructor ≡ o → slice_get w.tasks t ≡ Some task → task.state ≡ Acting → IsSome (func_of task.callee) → CallersRun w
    → Stands g values s h stacks w
    → AgreesMade g values s t h.labels stacks (destroyed_of t at canon x r.instance o h) (machine.destroyed t at canon words x.resource r o x.rep w)
unfolding destroyed_by machine.destroyed
by_destructor g values s h stacks w t at canon words task x r None is core there acts runs run st =
    makes_none g values s t h.labels stacks (undestroyed t at r.instance h)
    (unless t (not (nat_eq r.instance at) && is_reentrant w r.instance t) trap.Reentrant w (replied t [] w))
    (nothing_destroyed g values s h stacks w t at r.instance task there runs run st)
by_destructor g values s h stacks w t at canon words task x r (Some ref) is core there acts runs run st =
    by_core g values s h stacks w t at canon words task x r ref (nat_eq r.instance at) is core there acts runs run st

-- What an own handle owned is destroyed.
by_resource : (g : Graph) (values : List ValType) (s : Script) (h : Held) (stacks : List (List Stack)) (w : World) (t at canon : ℕ) (words : List ℕ) (task : Task) (x : Handle)
    (o : Option Resource)
    → resource_at g x.resource ≡ o → slice_get w.tasks t ≡ Some task → task.state ≡ Acting → IsSome (func_of task.callee) → CallersRun w → Stands g values s h stacks w
    → AgreesMade g values s t h.labels stacks (given o (λ r. destroyed_of t at canon x r.instance r.destructor h))
    (turns.given o (λ r. machine.destroyed t at canon words x.resource r r.destructor x.rep w))
by_resource g values s h stacks w t at canon words task x None is there acts runs run st = (stacks, inl refl, refl)
by_resource g values s h stacks w t at canon words task x (Some r) is there acts runs run st =
    by_destructor g values s h stacks w t at canon words task x r r.destructor is refl there acts runs run st

own_is_dropped : (g : Graph) (values : List ValType) (s : Script) (v : Views) (h : Held) (stacks : List (List Stack)) (w : World) (t at canon : ℕ) (words : List ℕ) (task : Task) (x : Handle)
    → SeesResources g v → slice_get w.tasks t ≡ Some task → task.state ≡ Acting → IsSome (func_of task.callee) → CallersRun w → Stands g values s h stacks w
    → AgreesMade g values s t h.labels stacks (kept.destroyed v t at canon x h) (machine.dropped g t at canon words x Own w)
unfolding kept.destroyed machine.dropped
own_is_dropped g values s v h stacks w t at canon words task x sees there acts runs run st =
    made_as g values s t h.labels stacks (given (v.resource x.resource) (λ r. destroyed_of t at canon x r.instance r.destructor h))
    (given (resource_at g x.resource) (λ r. destroyed_of t at canon x r.instance r.destructor h))
    (turns.given (resource_at g x.resource) (λ r. machine.destroyed t at canon words x.resource r r.destructor x.rep w))
    (turns.given (resource_at g x.resource) (λ r. machine.destroyed t at canon words x.resource r r.destructor x.rep w))
    (ap (λ (o : Option Resource). given o (λ r. destroyed_of t at canon x r.instance r.destructor h)) (sees x.resource)) refl
    (by_resource g values s h stacks w t at canon words task x (resource_at g x.resource) refl there acts runs run st)

-- By whether it owns.
by_owner : (g : Graph) (values : List ValType) (s : Script) (v : Views) (h : Held) (stacks : List (List Stack)) (w : World) (t at canon : ℕ) (words : List ℕ) (task : Task) (x : Handle)
    (o : Ownership)
    → IsCounted h.tasks o → SeesResources g v → slice_get w.tasks t ≡ Some task → task.state ≡ Acting → IsSome (func_of task.callee) → CallersRun w → Stands g values s h stacks w
    → AgreesMade g values s t h.labels stacks (kept.dropped v t at canon x o h) (machine.dropped g t at canon words x o w)
unfolding machine.dropped
by_owner g values s v h stacks w t at canon words task x Own counted sees there acts runs run st =
    own_is_dropped g values s v h stacks w t at canon words task x sees there acts runs run st
by_owner g values s v h stacks w t at canon words task x (Borrow by) counted sees there acts runs run st =
    makes_none g values s t h.labels stacks (after (happens by event.Unborrow h) (λ done k. got t [] k)) (replied t [] w)
    (borrow_is_dropped g values s h stacks w t by counted st)

-- It leaves the table, or is refused.
by_found : (g : Graph) (values : List ValType) (s : Script) (v : Views) (h : Held) (stacks : List (List Stack)) (w : World) (t at canon resource index : ℕ) (words : List ℕ) (task : Task)
    (i : InstanceView) (r : Result Handle Refusal)
    → slice_get h.instances at ≡ Some i → dropped_in (view_of i index) resource ≡ r → SeesResources g v → slice_get w.tasks t ≡ Some task → task.state ≡ Acting
    → IsSome (func_of task.callee) → CallersRun w → KeepsHandle h w at index → Stands g values s h stacks w
    → AgreesMade g values s t h.labels stacks (after (dropped_of r at index i h) (λ x k. kept.dropped v t at canon x x.ownership k))
    (unless_refused t (renamed refusal_name r) w (λ x. machine.dropped g t at canon words x x.ownership (world.entry_removed at index w)))
by_found g values s v h stacks w t at canon resource index words task i (Err why) is found_it sees there acts runs run keeps st =
    makes_none g values s t h.labels stacks (Traps (names.refusal_name why) (with_instance at i h)) (doomed t (refusal_name why) w)
    (subst (λ (name : TrapName). Agrees g values s t h.labels stacks (Traps (names.refusal_name why) (with_instance at i h)) (doomed t name w)) (names_same why)
    (on_trap g values s t h.labels stacks (with_instance at i h) w (names.refusal_name why) refl (refusals_change_nothing g values s h stacks w at i is st)))
by_found g values s v h stacks w t at canon resource index words task i (Ok x) is found_it sees there acts runs run keeps st =
    let stood : entry_of i index ≡ Some (entry.Handle x) = dropped_there (entry_of i index) resource x found_it in
    by_owner g values s v (with_instance at (instance.entry_removed index i) h) stacks (world.entry_removed at index w) t at canon words task x x.ownership
    (keeps i x is stood).counted sees there acts runs run
    (instances_change g values s h stacks w at i (instance.entry_removed index i) (λ inst. record inst { table = Remove index ∷ inst.table }) is
    (λ a e now. entries_are_removed values i a index (ap is_some stood) now) st)

pub handle_is_dropped : HandleIsDropped
unfolding resource_drop resource_drop_turn
handle_is_dropped g values s v h stacks w t at canon resource word words task sees is there acts runs run inside keeps st =
    let one : IsFound (InstStands values) (slice_get h.instances at) (slice_get w.insts at) = found_both (InstStands values) h.instances w.insts at st.are_instances inside in
    made_as g values s t h.labels stacks _
    (after (dropped_of (dropped_in (view_of one.left word) resource) at word one.left h) (λ x k. kept.dropped v t at canon x x.ownership k)) _
    (unless_refused t (renamed refusal_name (dropped_in (view_of one.left word) resource)) w (λ x. machine.dropped g t at canon words x x.ownership (world.entry_removed at word w)))
    (found (word_in words 0) word (λ index. after (handle_dropped at index resource h) (λ x k. kept.dropped v t at canon x x.ownership k)) is
    ∙ ap (λ (o : Option InstanceView). after (given o (λ i. dropped_of (dropped_in (view_of i word) resource) at word i h)) (λ x k. kept.dropped v t at canon x x.ownership k)) one.is_left)
    (ap (λ (n : ℕ). unless_refused t (renamed refusal_name (dropped_in (view_at w at n) resource)) w (λ x. machine.dropped g t at canon words x x.ownership (world.entry_removed at n w)))
    (word_is words 0 word is)
    ∙ ap (λ (r : Result Handle Refusal). unless_refused t (renamed refusal_name r) w (λ x. machine.dropped g t at canon words x x.ownership (world.entry_removed at word w)))
    (ap (λ (o : Option Inst). dropped_in (option_map (entry_view w at word) (live (table_in o) word)) resource) one.is_right
    ∙ dropped_alike values w at word resource (entry_of one.left word) (live one.right.table word) (λ x stood. (keeps one.left x one.is_left stood).lends)
    (entries_are_alike values one.left one.right word one.alike)))
    (by_found g values s v h stacks w t at canon resource word words task one.left (dropped_in (view_of one.left word) resource) one.is_left refl sees there acts runs run keeps st)
