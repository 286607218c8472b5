-- Handles: what is given is words, a rest, or a core function that starts.
use Rattle.std.proofs.Common.{Some}
use Rattle.std.specs.Prelude.{ℕ, nat_eq, not, ◌&&◌, List, [], ◌∷◌, Option, Some, None}
use Rattle.entry_gate.specs.declared.kind.Kind.TheVariants.{Sync}
use Rattle.tasks.specs.declared.event.TaskEvent.TheVariants as event
use Rattle.task_table.specs.declared.errand.Callee.TheVariants as callee
use Rattle.res_handles.specs.declared.handle.Handle.{Handle}
use Rattle.res_handles.specs.declared.handle.Ownership.{Ownership}
use Rattle.res_handles.specs.declared.handle.Ownership.TheVariants.{Own, Borrow}
use Rattle.res_handles.specs.Calls.{own_handle}
use Rattle.instances.specs.declared.entry.WorldEntry.TheVariants as entry
use Rattle.comp_graph.specs.declared.graph.FuncRef.{FuncRef}
use Rattle.world_parts.specs.Views.{Views}
use Rattle.trace_labels.specs.declared.trap.TrapName.TheVariants as trap
use Rattle.world_parts.specs.declared.parts.Rest.TheVariants as rest
use Rattle.world_parts.specs.declared.parts.Flow.TheVariants as flow
use Rattle.world_parts.specs.Held.{Held, Gives, Traps, after}
use Rattle.world_parts.specs.Feed.{at_rest, got}
use Rattle.world_parts.specs.Entries.{entry_added, handle_dropped, rep_found}
use Rattle.world_parts.specs.Slots.{word_in, happens, reenters}
use Rattle.world_parts.specs.Calls.{call_begun}
use Rattle.world_parts.specs.Handles.{destroyed, destroyed_by, destroyed_of, dropped, resource_drop, resource_new, resource_rep, undestroyed}
use Rattle.run_laws.proofs.plain.Calls.{call_begun_plain}
use Rattle.run_laws.proofs.plain.Feed.{got_plain}
use Rattle.run_laws.proofs.plain.Only.{PlainBy, plain_after, plain_given, plain_if}

pub resource_new_plain : (t : ℕ) (at : ℕ) (resource : ℕ) (words : List ℕ) (h : Held) → PlainBy (resource_new t at resource words h)
unfolding resource_new
resource_new_plain t at resource words h =
    plain_given (word_in words 0) (λ rep. after (entry_added at (entry.Handle (own_handle resource rep)) h) (λ index k. got t (index ∷ []) k)) (λ rep is. plain_after (entry_added at (entry.Handle (own_handle resource rep)) h) (λ index k. got t (index ∷ []) k) (λ index k. got_plain t (index ∷ []) k))

pub resource_rep_plain : (t : ℕ) (at : ℕ) (resource : ℕ) (words : List ℕ) (h : Held) → PlainBy (resource_rep t at resource words h)
unfolding resource_rep
resource_rep_plain t at resource words h =
    plain_given (word_in words 0) (λ index. after (rep_found at index resource h) (λ rep k. got t (rep ∷ []) k)) (λ index is. plain_after (rep_found at index resource h) (λ rep k. got t (rep ∷ []) k) (λ rep k. got_plain t (rep ∷ []) k))

pub undestroyed_plain : (t : ℕ) (at : ℕ) (instance : ℕ) (h : Held) → PlainBy (undestroyed t at instance h)
unfolding undestroyed
undestroyed_plain t at instance h =
    plain_if (not (nat_eq instance at) && reenters instance t h) (Traps trap.Reentrant h) (got t [] h) tt (got_plain t [] h)

pub destroyed_by_plain : (t : ℕ) (at : ℕ) (canon : ℕ) (x : Handle) (instance : ℕ) (ref : FuncRef) (h : Held) → PlainBy (destroyed_by t at canon x instance ref h)
unfolding destroyed_by
destroyed_by_plain t at canon x instance ref h =
    plain_if (nat_eq instance at) (Gives (flow.Starts ref (x.rep ∷ [])) (at_rest rest.Runs h)) (call_begun t canon (callee.Destroys x.resource) instance Sync (x.rep ∷ []) h) tt (call_begun_plain t canon (callee.Destroys x.resource) instance Sync (x.rep ∷ []) h)

pub destroyed_of_plain : (t : ℕ) (at : ℕ) (canon : ℕ) (x : Handle) (instance : ℕ) (o : Option FuncRef) (h : Held) → PlainBy (destroyed_of t at canon x instance o h)
destroyed_of_plain t at canon x instance None h =
    undestroyed_plain t at instance h
destroyed_of_plain t at canon x instance (Some ref) h =
    destroyed_by_plain t at canon x instance ref h

pub destroyed_plain : (g : Views) (t : ℕ) (at : ℕ) (canon : ℕ) (x : Handle) (h : Held) → PlainBy (destroyed g t at canon x h)
unfolding destroyed
destroyed_plain g t at canon x h =
    plain_given (g.resource x.resource) (λ r. destroyed_of t at canon x r.instance r.destructor h) (λ r is. destroyed_of_plain t at canon x r.instance r.destructor h)

pub dropped_plain : (g : Views) (t : ℕ) (at : ℕ) (canon : ℕ) (x : Handle) (x_2 : Ownership) (h : Held) → PlainBy (dropped g t at canon x x_2 h)
dropped_plain g t at canon x Own h =
    destroyed_plain g t at canon x h
dropped_plain g t at canon x (Borrow task) h =
    plain_after (happens task event.Unborrow h) (λ done k. got t [] k) (λ done k. got_plain t [] k)

pub resource_drop_plain : (g : Views) (t : ℕ) (at : ℕ) (canon : ℕ) (resource : ℕ) (words : List ℕ) (h : Held) → PlainBy (resource_drop g t at canon resource words h)
unfolding resource_drop
resource_drop_plain g t at canon resource words h =
    plain_given (word_in words 0) (λ index. after (handle_dropped at index resource h) (λ x k. dropped g t at canon x x.ownership k)) (λ index is. plain_after (handle_dropped at index resource h) (λ x k. dropped g t at canon x x.ownership k) (λ x k. dropped_plain g t at canon x x.ownership k))
