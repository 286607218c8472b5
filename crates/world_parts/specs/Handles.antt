-- Resources (Component Model, CanonicalABI.md, `canon resource.new`, `canon resource.rep` and `canon resource.drop`): a new own handle, what a
-- handle stands for, and the drop of a handle, which runs the destructor where it owns what it names: in the resource's own instance on a
-- further stack of the task, else by a call.
use Rattle.std.specs.Prelude.{ℕ, nat_eq, not, ◌&&◌, if◌then◌else◌, List, [], ◌∷◌, Option, Some, None}
use Rattle.entry_gate.specs.declared.kind.Kind.TheVariants.{Sync}
use Rattle.tasks.specs.declared.event.TaskEvent.TheVariants as event
use Rattle.task_table.specs.declared.errand.Callee.TheVariants as callee
use Rattle.res_handles.specs.declared.handle.Handle.{Handle}
use Rattle.res_handles.specs.declared.handle.Ownership.{Ownership}
use Rattle.res_handles.specs.declared.handle.Ownership.TheVariants.{Own, Borrow}
use Rattle.res_handles.specs.Calls.{own_handle}
use Rattle.instances.specs.declared.entry.WorldEntry.TheVariants as entry
use Rattle.comp_graph.specs.declared.graph.FuncRef.{FuncRef}
use Rattle.comp_graph.specs.declared.graph.Resource.{Resource}
use Rattle.world_parts.specs.Views.{Views}
use Rattle.trace_labels.specs.declared.trap.TrapName.TheVariants as trap
use Rattle.world_parts.specs.declared.parts.Rest.TheVariants as rest
use Rattle.world_parts.specs.declared.parts.Flow.{Flow}
use Rattle.world_parts.specs.declared.parts.Flow.TheVariants as flow
use Rattle.world_parts.specs.Held.{Held, Done, Gives, Traps, after, given}
use Rattle.world_parts.specs.Feed.{at_rest, got}
use Rattle.world_parts.specs.Entries.{entry_added, handle_dropped, rep_found}
use Rattle.world_parts.specs.Slots.{word_in, happens, reenters}
use Rattle.world_parts.specs.Calls.{call_begun}

unfoldable pub resource_new : ℕ → ℕ → ℕ → List ℕ → Held → Done Flow
resource_new t at resource words h =
    given (word_in words 0) (λ rep. after (entry_added at (entry.Handle (own_handle resource rep)) h) (λ index k. got t (index ∷ []) k))

unfoldable pub resource_rep : ℕ → ℕ → ℕ → List ℕ → Held → Done Flow
resource_rep t at resource words h =
    given (word_in words 0) (λ index. after (rep_found at index resource h) (λ rep k. got t (rep ∷ []) k))

-- What an own handle names is destroyed. Without a destructor nothing is, but also then the instance of the resource must not wait for this
-- one.
unfoldable pub undestroyed : ℕ → ℕ → ℕ → Held → Done Flow
undestroyed t at instance h = if not (nat_eq instance at) && reenters instance t h then Traps trap.Reentrant h else got t [] h

unfoldable pub destroyed_by : ℕ → ℕ → ℕ → Handle → ℕ → FuncRef → Held → Done Flow
destroyed_by t at canon x instance ref h =
    if nat_eq instance at then Gives (flow.Starts ref (x.rep ∷ [])) (at_rest rest.Runs h)
    else call_begun t canon (callee.Destroys x.resource) instance Sync (x.rep ∷ []) h

abbrev pub destroyed_of : ℕ → ℕ → ℕ → Handle → ℕ → Option FuncRef → Held → Done Flow
destroyed_of t at canon x instance None h = undestroyed t at instance h
destroyed_of t at canon x instance (Some ref) h = destroyed_by t at canon x instance ref h

unfoldable pub destroyed : Views → ℕ → ℕ → ℕ → Handle → Held → Done Flow
destroyed g t at canon x h = given (g.resource x.resource) (λ r. destroyed_of t at canon x r.instance r.destructor h)

-- A borrow handle counts for its task no more.
abbrev pub dropped : Views → ℕ → ℕ → ℕ → Handle → Ownership → Held → Done Flow
dropped g t at canon x Own h = destroyed g t at canon x h
dropped g t at canon x (Borrow task) h = after (happens task event.Unborrow h) (λ done k. got t [] k)

unfoldable pub resource_drop : Views → ℕ → ℕ → ℕ → ℕ → List ℕ → Held → Done Flow
resource_drop g t at canon resource words h =
    given (word_in words 0) (λ index. after (handle_dropped at index resource h) (λ x k. dropped g t at canon x x.ownership k))
