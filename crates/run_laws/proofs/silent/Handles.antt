-- Handles: no event is to come next.
use Rattle.std.proofs.Common.{Some}
use Rattle.std.specs.Prelude.{ℕ, nat_eq, not, ◌&&◌, List, [], ◌∷◌, Option, Some, None}
use Rattle.entry_gate.specs.declared.kind.Kind.TheVariants.{Sync}
use Rattle.tasks.specs.declared.event.TaskEvent.TheVariants as event
use Rattle.task_table.specs.declared.errand.Callee.TheVariants as callee
use Rattle.res_handles.specs.declared.handle.Handle.{Handle}
use Rattle.res_handles.specs.declared.handle.Ownership.{Ownership}
use Rattle.res_handles.specs.declared.handle.Ownership.TheVariants.{Own, Borrow}
use Rattle.res_handles.specs.Calls.{own_handle}
use Rattle.instances.specs.declared.entry.WorldEntry.TheVariants as entry
use Rattle.comp_graph.specs.declared.graph.FuncRef.{FuncRef}
use Rattle.world_parts.specs.Views.{Views}
use Rattle.trace_labels.specs.declared.trap.TrapName.TheVariants as trap
use Rattle.world_parts.specs.declared.parts.Rest.TheVariants as rest
use Rattle.world_parts.specs.declared.parts.Flow.TheVariants as flow
use Rattle.world_parts.specs.Held.{Held, Gives, Traps, after}
use Rattle.world_parts.specs.Feed.{at_rest, got}
use Rattle.world_parts.specs.Entries.{entry_added, handle_dropped, rep_found}
use Rattle.world_parts.specs.Slots.{word_in, happens, reenters}
use Rattle.world_parts.specs.Calls.{call_begun}
use Rattle.world_parts.specs.Handles.{destroyed, destroyed_by, destroyed_of, dropped, resource_drop, resource_new, resource_rep, undestroyed}
use Rattle.run_laws.proofs.silent.Calls.{call_begun_silent}
use Rattle.run_laws.proofs.silent.Feed.{got_silent}
use Rattle.run_laws.proofs.silent.Silent.{SilentBy, silent_after, silent_given, silent_if}

pub resource_new_silent : (t : ℕ) (at : ℕ) (resource : ℕ) (words : List ℕ) (h : Held) → SilentBy (resource_new t at resource words h)
unfolding resource_new
resource_new_silent t at resource words h =
    silent_given (word_in words 0) (λ rep. after (entry_added at (entry.Handle (own_handle resource rep)) h) (λ index k. got t (index ∷ []) k)) (λ rep is. silent_after (entry_added at (entry.Handle (own_handle resource rep)) h) (λ index k. got t (index ∷ []) k) (λ index k. got_silent t (index ∷ []) k))

pub resource_rep_silent : (t : ℕ) (at : ℕ) (resource : ℕ) (words : List ℕ) (h : Held) → SilentBy (resource_rep t at resource words h)
unfolding resource_rep
resource_rep_silent t at resource words h =
    silent_given (word_in words 0) (λ index. after (rep_found at index resource h) (λ rep k. got t (rep ∷ []) k)) (λ index is. silent_after (rep_found at index resource h) (λ rep k. got t (rep ∷ []) k) (λ rep k. got_silent t (rep ∷ []) k))

pub undestroyed_silent : (t : ℕ) (at : ℕ) (instance : ℕ) (h : Held) → SilentBy (undestroyed t at instance h)
unfolding undestroyed
undestroyed_silent t at instance h =
    silent_if (not (nat_eq instance at) && reenters instance t h) (Traps trap.Reentrant h) (got t [] h) tt (got_silent t [] h)

pub destroyed_by_silent : (t : ℕ) (at : ℕ) (canon : ℕ) (x : Handle) (instance : ℕ) (ref : FuncRef) (h : Held) → SilentBy (destroyed_by t at canon x instance ref h)
unfolding destroyed_by
destroyed_by_silent t at canon x instance ref h =
    silent_if (nat_eq instance at) (Gives (flow.Starts ref (x.rep ∷ [])) (at_rest rest.Runs h)) (call_begun t canon (callee.Destroys x.resource) instance Sync (x.rep ∷ []) h) tt (call_begun_silent t canon (callee.Destroys x.resource) instance Sync (x.rep ∷ []) h)

pub destroyed_of_silent : (t : ℕ) (at : ℕ) (canon : ℕ) (x : Handle) (instance : ℕ) (o : Option FuncRef) (h : Held) → SilentBy (destroyed_of t at canon x instance o h)
destroyed_of_silent t at canon x instance None h =
    undestroyed_silent t at instance h
destroyed_of_silent t at canon x instance (Some ref) h =
    destroyed_by_silent t at canon x instance ref h

pub destroyed_silent : (g : Views) (t : ℕ) (at : ℕ) (canon : ℕ) (x : Handle) (h : Held) → SilentBy (destroyed g t at canon x h)
unfolding destroyed
destroyed_silent g t at canon x h =
    silent_given (g.resource x.resource) (λ r. destroyed_of t at canon x r.instance r.destructor h) (λ r is. destroyed_of_silent t at canon x r.instance r.destructor h)

pub dropped_silent : (g : Views) (t : ℕ) (at : ℕ) (canon : ℕ) (x : Handle) (x_2 : Ownership) (h : Held) → SilentBy (dropped g t at canon x x_2 h)
dropped_silent g t at canon x Own h =
    destroyed_silent g t at canon x h
dropped_silent g t at canon x (Borrow task) h =
    silent_after (happens task event.Unborrow h) (λ done k. got t [] k) (λ done k. got_silent t [] k)

pub resource_drop_silent : (g : Views) (t : ℕ) (at : ℕ) (canon : ℕ) (resource : ℕ) (words : List ℕ) (h : Held) → SilentBy (resource_drop g t at canon resource words h)
unfolding resource_drop
resource_drop_silent g t at canon resource words h =
    silent_given (word_in words 0) (λ index. after (handle_dropped at index resource h) (λ x k. dropped g t at canon x x.ownership k)) (λ index is. silent_after (handle_dropped at index resource h) (λ x k. dropped g t at canon x x.ownership k) (λ x k. dropped_silent g t at canon x x.ownership k))
