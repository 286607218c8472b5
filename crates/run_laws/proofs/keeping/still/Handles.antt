-- Handles that are made, read and dropped keep memories, core instances and ends as they are kept.
use Rattle.std.proofs.Common.{refl, Some}
use Rattle.std.specs.Prelude.{ℕ, nat_eq, not, ◌&&◌, List, [], ◌∷◌, Option, Some, None}
use Rattle.entry_gate.specs.declared.kind.Kind.TheVariants.{Sync}
use Rattle.tasks.specs.declared.event.TaskEvent.TheVariants as event
use Rattle.task_table.specs.declared.errand.Callee.TheVariants as callee
use Rattle.res_handles.specs.declared.handle.Handle.{Handle}
use Rattle.res_handles.specs.declared.handle.Ownership.{Ownership}
use Rattle.res_handles.specs.declared.handle.Ownership.TheVariants.{Own, Borrow}
use Rattle.res_handles.specs.Calls.{own_handle}
use Rattle.instances.specs.declared.entry.WorldEntry.TheVariants as entry
use Rattle.comp_graph.specs.declared.graph.FuncRef.{FuncRef}
use Rattle.world_parts.specs.Views.{Views}
use Rattle.trace_labels.specs.declared.trap.TrapName.TheVariants as trap
use Rattle.world_parts.specs.declared.parts.Rest.TheVariants as rest
use Rattle.world_parts.specs.declared.parts.Flow.TheVariants as flow
use Rattle.world_parts.specs.Held.{Held, Gives, Traps, after}
use Rattle.world_parts.specs.Feed.{at_rest, got}
use Rattle.world_parts.specs.Entries.{entry_added, handle_dropped, rep_found}
use Rattle.world_parts.specs.Slots.{word_in, happens, reenters}
use Rattle.world_parts.specs.Calls.{call_begun}
use Rattle.world_parts.specs.Handles.{destroyed, destroyed_by, destroyed_of, dropped, resource_drop, resource_new, resource_rep, undestroyed}
use Rattle.run_laws.proofs.keeping.still.Still.{Kinds, StillBy, still_after, still_given, still_if, still_all}
use Rattle.run_laws.proofs.keeping.still.Calls.{call_begun_still}
use Rattle.run_laws.proofs.keeping.still.Entries.{entry_added_still, handle_dropped_still, rep_found_still}
use Rattle.run_laws.proofs.keeping.still.Feed.{got_still}
use Rattle.run_laws.proofs.keeping.still.Slots.{happens_still}

pub resource_new_still : (W : Kinds) → (t : ℕ) (at : ℕ) (resource : ℕ) (words : List ℕ) (h : Held) → StillBy W h (resource_new t at resource words h)
unfolding resource_new
resource_new_still W t at resource words h =
    still_given W h (word_in words 0) (λ rep. after (entry_added at (entry.Handle (own_handle resource rep)) h) (λ index k. got t (index ∷ []) k)) (λ rep is. still_after W h (entry_added at (entry.Handle (own_handle resource rep)) h) (λ index k. got t (index ∷ []) k) (entry_added_still W at (entry.Handle (own_handle resource rep)) h refl) (λ index k. got_still W t (index ∷ []) k))

pub resource_rep_still : (W : Kinds) → (t : ℕ) (at : ℕ) (resource : ℕ) (words : List ℕ) (h : Held) → StillBy W h (resource_rep t at resource words h)
unfolding resource_rep
resource_rep_still W t at resource words h =
    still_given W h (word_in words 0) (λ index. after (rep_found at index resource h) (λ rep k. got t (rep ∷ []) k)) (λ index is. still_after W h (rep_found at index resource h) (λ rep k. got t (rep ∷ []) k) (rep_found_still W at index resource h) (λ rep k. got_still W t (rep ∷ []) k))

pub undestroyed_still : (W : Kinds) → (t : ℕ) (at : ℕ) (instance : ℕ) (h : Held) → StillBy W h (undestroyed t at instance h)
unfolding undestroyed
undestroyed_still W t at instance h =
    still_if W h (not (nat_eq instance at) && reenters instance t h) (Traps trap.Reentrant h) (got t [] h) (λ K asked kept. kept) (got_still W t [] h)

pub destroyed_by_still : (W : Kinds) → (t : ℕ) (at : ℕ) (canon : ℕ) (x : Handle) (instance : ℕ) (ref : FuncRef) (h : Held) → StillBy W h (destroyed_by t at canon x instance ref h)
unfolding destroyed_by
destroyed_by_still W t at canon x instance ref h =
    still_if W h (nat_eq instance at) (Gives (flow.Starts ref (x.rep ∷ [])) (at_rest rest.Runs h)) (call_begun t canon (callee.Destroys x.resource) instance Sync (x.rep ∷ []) h) (still_all W h (at_rest rest.Runs h) refl refl refl refl refl) (call_begun_still W t canon (callee.Destroys x.resource) instance Sync (x.rep ∷ []) h)

pub destroyed_of_still : (W : Kinds) → (t : ℕ) (at : ℕ) (canon : ℕ) (x : Handle) (instance : ℕ) (o : Option FuncRef) (h : Held) → StillBy W h (destroyed_of t at canon x instance o h)
destroyed_of_still W t at canon x instance None h =
    undestroyed_still W t at instance h
destroyed_of_still W t at canon x instance (Some ref) h =
    destroyed_by_still W t at canon x instance ref h

pub destroyed_still : (W : Kinds) → (g : Views) (t : ℕ) (at : ℕ) (canon : ℕ) (x : Handle) (h : Held) → StillBy W h (destroyed g t at canon x h)
unfolding destroyed
destroyed_still W g t at canon x h =
    still_given W h (g.resource x.resource) (λ r. destroyed_of t at canon x r.instance r.destructor h) (λ r is. destroyed_of_still W t at canon x r.instance r.destructor h)

pub dropped_still : (W : Kinds) → (g : Views) (t : ℕ) (at : ℕ) (canon : ℕ) (x : Handle) (x_2 : Ownership) (h : Held) → StillBy W h (dropped g t at canon x x_2 h)
dropped_still W g t at canon x Own h =
    destroyed_still W g t at canon x h
dropped_still W g t at canon x (Borrow task) h =
    still_after W h (happens task event.Unborrow h) (λ done k. got t [] k) (happens_still W task event.Unborrow h) (λ done k. got_still W t [] k)

pub resource_drop_still : (W : Kinds) → (g : Views) (t : ℕ) (at : ℕ) (canon : ℕ) (resource : ℕ) (words : List ℕ) (h : Held) → StillBy W h (resource_drop g t at canon resource words h)
unfolding resource_drop
resource_drop_still W g t at canon resource words h =
    still_given W h (word_in words 0) (λ index. after (handle_dropped at index resource h) (λ x k. dropped g t at canon x x.ownership k)) (λ index is. still_after W h (handle_dropped at index resource h) (λ x k. dropped g t at canon x x.ownership k) (handle_dropped_still W at index resource h) (λ x k. dropped_still W g t at canon x x.ownership k))
