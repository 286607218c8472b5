-- Handles that are made, read and dropped leave the store alone, and no handle is lent more often.
use Rattle.std.proofs.Common.{◌≡◌, refl, Some}
use Rattle.std.specs.Prelude.{ℕ, nat_eq, not, ◌&&◌, if◌then◌else◌, List, [], ◌∷◌, Option, Some, None}
use Rattle.entry_gate.specs.declared.kind.Kind.TheVariants.{Sync}
use Rattle.tasks.specs.declared.event.TaskEvent.TheVariants as event
use Rattle.task_table.specs.declared.errand.Callee.TheVariants as callee
use Rattle.res_handles.specs.declared.handle.Handle.{Handle}
use Rattle.res_handles.specs.declared.handle.Ownership.{Ownership}
use Rattle.res_handles.specs.declared.handle.Ownership.TheVariants.{Own, Borrow}
use Rattle.res_handles.specs.Calls.{own_handle}
use Rattle.instances.specs.declared.entry.WorldEntry.TheVariants as entry
use Rattle.comp_graph.specs.declared.graph.FuncRef.{FuncRef}
use Rattle.comp_graph.specs.declared.graph.Resource.{Resource}
use Rattle.world_parts.specs.Views.{Views}
use Rattle.trace_labels.specs.declared.trap.TrapName.TheVariants as trap
use Rattle.world_parts.specs.declared.parts.Rest.TheVariants as rest
use Rattle.world_parts.specs.declared.parts.Flow.{Flow}
use Rattle.world_parts.specs.declared.parts.Flow.TheVariants as flow
use Rattle.world_parts.specs.Held.{Held, Done, Gives, Traps, after, given}
use Rattle.world_parts.specs.Feed.{at_rest, got}
use Rattle.world_parts.specs.Entries.{entry_added, handle_dropped, rep_found}
use Rattle.world_parts.specs.Slots.{word_in, happens, reenters}
use Rattle.world_parts.specs.Calls.{call_begun}
use Rattle.world_parts.specs.Handles.{destroyed, destroyed_by, destroyed_of, dropped, resource_drop, resource_new, resource_rep, undestroyed}
use Rattle.value_parts.proofs.fit.Keeps.{Keeps, KeepsBy, keeps_after, keeps_given, keeps_if, keeps_same, keeps_all, keeps_from, keeps_instance}
use Rattle.value_parts.proofs.fit.Calls.{call_begun_keeps}
use Rattle.value_parts.proofs.fit.Entries.{entry_added_keeps, handle_dropped_keeps, rep_found_keeps}
use Rattle.value_parts.proofs.fit.Feed.{got_keeps}
use Rattle.value_parts.proofs.fit.Slots.{happens_keeps}

pub resource_new_keeps : (t : ℕ) (at : ℕ) (resource : ℕ) (words : List ℕ) (h : Held) → KeepsBy h (resource_new t at resource words h)
unfolding resource_new
resource_new_keeps t at resource words h =
    keeps_given h (word_in words 0) (λ rep. after (entry_added at (entry.Handle (own_handle resource rep)) h) (λ index k. got t (index ∷ []) k)) (λ rep is. keeps_after h (entry_added at (entry.Handle (own_handle resource rep)) h) (λ index k. got t (index ∷ []) k) (entry_added_keeps at (entry.Handle (own_handle resource rep)) h refl) (λ index k. got_keeps t (index ∷ []) k))

pub resource_rep_keeps : (t : ℕ) (at : ℕ) (resource : ℕ) (words : List ℕ) (h : Held) → KeepsBy h (resource_rep t at resource words h)
unfolding resource_rep
resource_rep_keeps t at resource words h =
    keeps_given h (word_in words 0) (λ index. after (rep_found at index resource h) (λ rep k. got t (rep ∷ []) k)) (λ index is. keeps_after h (rep_found at index resource h) (λ rep k. got t (rep ∷ []) k) (rep_found_keeps at index resource h) (λ rep k. got_keeps t (rep ∷ []) k))

pub undestroyed_keeps : (t : ℕ) (at : ℕ) (instance : ℕ) (h : Held) → KeepsBy h (undestroyed t at instance h)
unfolding undestroyed
undestroyed_keeps t at instance h =
    keeps_if h (not (nat_eq instance at) && reenters instance t h) (Traps trap.Reentrant h) (got t [] h) tt (got_keeps t [] h)

pub destroyed_by_keeps : (t : ℕ) (at : ℕ) (canon : ℕ) (x : Handle) (instance : ℕ) (ref : FuncRef) (h : Held) → KeepsBy h (destroyed_by t at canon x instance ref h)
unfolding destroyed_by
destroyed_by_keeps t at canon x instance ref h =
    keeps_if h (nat_eq instance at) (Gives (flow.Starts ref (x.rep ∷ [])) (at_rest rest.Runs h)) (call_begun t canon (callee.Destroys x.resource) instance Sync (x.rep ∷ []) h) (keeps_all h (at_rest rest.Runs h) refl refl) (call_begun_keeps t canon (callee.Destroys x.resource) instance Sync (x.rep ∷ []) h)

pub destroyed_of_keeps : (t : ℕ) (at : ℕ) (canon : ℕ) (x : Handle) (instance : ℕ) (o : Option FuncRef) (h : Held) → KeepsBy h (destroyed_of t at canon x instance o h)
destroyed_of_keeps t at canon x instance None h =
    undestroyed_keeps t at instance h
destroyed_of_keeps t at canon x instance (Some ref) h =
    destroyed_by_keeps t at canon x instance ref h

pub destroyed_keeps : (g : Views) (t : ℕ) (at : ℕ) (canon : ℕ) (x : Handle) (h : Held) → KeepsBy h (destroyed g t at canon x h)
unfolding destroyed
destroyed_keeps g t at canon x h =
    keeps_given h (g.resource x.resource) (λ r. destroyed_of t at canon x r.instance r.destructor h) (λ r is. destroyed_of_keeps t at canon x r.instance r.destructor h)

pub dropped_keeps : (g : Views) (t : ℕ) (at : ℕ) (canon : ℕ) (x : Handle) (x_2 : Ownership) (h : Held) → KeepsBy h (dropped g t at canon x x_2 h)
dropped_keeps g t at canon x Own h =
    destroyed_keeps g t at canon x h
dropped_keeps g t at canon x (Borrow task) h =
    keeps_after h (happens task event.Unborrow h) (λ done k. got t [] k) (happens_keeps task event.Unborrow h) (λ done k. got_keeps t [] k)

pub resource_drop_keeps : (g : Views) (t : ℕ) (at : ℕ) (canon : ℕ) (resource : ℕ) (words : List ℕ) (h : Held) → KeepsBy h (resource_drop g t at canon resource words h)
unfolding resource_drop
resource_drop_keeps g t at canon resource words h =
    keeps_given h (word_in words 0) (λ index. after (handle_dropped at index resource h) (λ x k. dropped g t at canon x x.ownership k)) (λ index is. keeps_after h (handle_dropped at index resource h) (λ x k. dropped g t at canon x x.ownership k) (handle_dropped_keeps at index resource h) (λ x k. dropped_keeps g t at canon x x.ownership k))
