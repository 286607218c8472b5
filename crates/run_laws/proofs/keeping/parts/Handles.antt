-- Handles that are made, read and dropped leave marks of handles and subtasks as they are.
use Rattle.std.proofs.Common.{◌≡◌, refl}
use Rattle.std.specs.Prelude.{ℕ, nat_eq, not, ◌&&◌, List, [], ◌∷◌, Option, Some, None, Result, Ok, Err}
use Rattle.std.specs.List.{slice_get}
use Rattle.entry_gate.specs.declared.kind.Kind.TheVariants.{Sync}
use Rattle.tasks.specs.declared.event.TaskEvent.TheVariants as event
use Rattle.task_table.specs.declared.errand.Callee.TheVariants as callee
use Rattle.res_handles.specs.declared.handle.Handle.{Handle}
use Rattle.res_handles.specs.declared.handle.Ownership.{Ownership}
use Rattle.res_handles.specs.declared.handle.Ownership.TheVariants.{Own, Borrow}
use Rattle.res_handles.specs.declared.refusal.Refusal.{Refusal}
use Rattle.res_handles.specs.Calls.{own_handle}
use Rattle.res_handles.specs.Refusals.{dropped_in}
use Rattle.instances.specs.declared.entry.WorldEntry.TheVariants as entry
use Rattle.instances.specs.Instances as instance
use Rattle.instances.specs.Instances.{InstanceView, entry_of, view_of}
use Rattle.comp_graph.specs.declared.graph.FuncRef.{FuncRef}
use Rattle.trace_labels.specs.declared.trap.TrapName.TheVariants as trap
use Rattle.world_parts.specs.Views.{Views}
use Rattle.world_parts.specs.declared.parts.Rest.TheVariants as rest
use Rattle.world_parts.specs.declared.parts.Flow.TheVariants as flow
use Rattle.world_parts.specs.Held.{Held, Gives, Traps, after}
use Rattle.world_parts.specs.Feed.{at_rest, got}
use Rattle.world_parts.specs.Entries.{with_instance, entry_added, dropped_of, handle_dropped, rep_found}
use Rattle.world_parts.specs.Slots.{word_in, happens, reenters}
use Rattle.world_parts.specs.Calls.{call_begun}
use Rattle.world_parts.specs.Handles.{destroyed, destroyed_by, destroyed_of, dropped, resource_drop, resource_new, resource_rep, undestroyed}
use Rattle.standing.proofs.HandlesFound.{dropped_there}
use Rattle.run_laws.specs.keeping.Kept.{NumbersThere, TableIsSound, NextIsUnlent}
use Rattle.run_laws.proofs.keeping.Others.{KeptBy, keeps_after, keeps_given, keeps_if, keeps_all, keeps_through, look_keeps, traps_same, traps_put}
use Rattle.run_laws.proofs.keeping.Carried.{numbers_removed}
use Rattle.run_laws.proofs.keeping.Dropped.{own_dropped, unborrow_keeps}
use Rattle.run_laws.proofs.keeping.parts.Calls.{call_begun_keeps}
use Rattle.run_laws.proofs.keeping.parts.Entries.{handle_added_keeps, rep_found_keeps}
use Rattle.run_laws.proofs.keeping.parts.Feed.{got_keeps}

pub resource_new_keeps : (t : ℕ) (at : ℕ) (resource : ℕ) (words : List ℕ) (h : Held) → TableIsSound h at → NextIsUnlent h at → KeptBy h (resource_new t at resource words h)
unfolding resource_new
resource_new_keeps t at resource words h sound unlent =
    keeps_given h (word_in words 0) (λ rep. after (entry_added at (entry.Handle (own_handle resource rep)) h) (λ index k. got t (index ∷ []) k)) (λ rep is. keeps_after h (entry_added at (entry.Handle (own_handle resource rep)) h) (λ index k. got t (index ∷ []) k) (handle_added_keeps at resource rep h sound unlent) (λ index k. got_keeps t (index ∷ []) k))

pub resource_rep_keeps : (t : ℕ) (at : ℕ) (resource : ℕ) (words : List ℕ) (h : Held) → KeptBy h (resource_rep t at resource words h)
unfolding resource_rep
resource_rep_keeps t at resource words h =
    keeps_given h (word_in words 0) (λ index. after (rep_found at index resource h) (λ rep k. got t (rep ∷ []) k)) (λ index is. keeps_after h (rep_found at index resource h) (λ rep k. got t (rep ∷ []) k) (rep_found_keeps at index resource h) (λ rep k. got_keeps t (rep ∷ []) k))

pub undestroyed_keeps : (t : ℕ) (at : ℕ) (instance : ℕ) (h : Held) → KeptBy h (undestroyed t at instance h)
unfolding undestroyed
undestroyed_keeps t at instance h =
    keeps_if h (not (nat_eq instance at) && reenters instance t h) (Traps trap.Reentrant h) (got t [] h) (traps_same h) (got_keeps t [] h)

pub destroyed_by_keeps : (t : ℕ) (at : ℕ) (canon : ℕ) (x : Handle) (instance : ℕ) (ref : FuncRef) (h : Held) → NumbersThere h → KeptBy h (destroyed_by t at canon x instance ref h)
unfolding destroyed_by
destroyed_by_keeps t at canon x instance ref h numbers =
    keeps_if h (nat_eq instance at) (Gives (flow.Starts ref (x.rep ∷ [])) (at_rest rest.Runs h)) (call_begun t canon (callee.Destroys x.resource) instance Sync (x.rep ∷ []) h) (keeps_all h (at_rest rest.Runs h) refl refl) (call_begun_keeps t canon (callee.Destroys x.resource) instance Sync (x.rep ∷ []) h numbers)

pub destroyed_of_keeps : (t : ℕ) (at : ℕ) (canon : ℕ) (x : Handle) (instance : ℕ) (o : Option FuncRef) (h : Held) → NumbersThere h → KeptBy h (destroyed_of t at canon x instance o h)
destroyed_of_keeps t at canon x instance None h numbers =
    undestroyed_keeps t at instance h
destroyed_of_keeps t at canon x instance (Some ref) h numbers =
    destroyed_by_keeps t at canon x instance ref h numbers

pub destroyed_keeps : (g : Views) (t : ℕ) (at : ℕ) (canon : ℕ) (x : Handle) (h : Held) → NumbersThere h → KeptBy h (destroyed g t at canon x h)
unfolding destroyed
destroyed_keeps g t at canon x h numbers =
    keeps_given h (g.resource x.resource) (λ r. destroyed_of t at canon x r.instance r.destructor h) (λ r is. destroyed_of_keeps t at canon x r.instance r.destructor h numbers)

-- Behind the removal of the handle.
dropped_keeps : (g : Views) (t at canon index : ℕ) (i : InstanceView) (x : Handle) (o : Ownership) (h : Held) → slice_get h.instances at ≡ Some i → entry_of i index ≡ Some (entry.Handle x)
    → x.ownership ≡ o → NumbersThere h → KeptBy h (dropped g t at canon x o (with_instance at (instance.entry_removed index i) h))
dropped_keeps g t at canon index i x Own h is stood own numbers =
    let k : Held = with_instance at (instance.entry_removed index i) h in
    keeps_through h k (destroyed g t at canon x k) (own_dropped h at index i x is stood own) (destroyed_keeps g t at canon x k (numbers_removed h at index i is numbers))
dropped_keeps g t at canon index i x (Borrow task) h is stood by numbers =
    let k : Held = with_instance at (instance.entry_removed index i) h in
    keeps_after h (happens task event.Unborrow k) (λ done l. got t [] l) (unborrow_keeps h at index task i x is stood by) (λ done l. got_keeps t [] l)

taken_keeps : (g : Views) (t at canon resource index : ℕ) (i : InstanceView) (r : Result Handle Refusal) (h : Held) → slice_get h.instances at ≡ Some i
    → dropped_in (view_of i index) resource ≡ r → NumbersThere h → KeptBy h (after (dropped_of r at index i h) (λ x k. dropped g t at canon x x.ownership k))
taken_keeps g t at canon resource index i (Ok x) h is e numbers =
    dropped_keeps g t at canon index i x x.ownership h is (dropped_there (entry_of i index) resource x e) refl numbers
taken_keeps g t at canon resource index i (Err why) h is e numbers = traps_put h at i is

pub resource_drop_keeps : (g : Views) (t : ℕ) (at : ℕ) (canon : ℕ) (resource : ℕ) (words : List ℕ) (h : Held) → NumbersThere h → KeptBy h (resource_drop g t at canon resource words h)
unfolding resource_drop
resource_drop_keeps g t at canon resource words h numbers =
    keeps_given h (word_in words 0) (λ index. after (handle_dropped at index resource h) (λ x k. dropped g t at canon x x.ownership k))
    (λ index word.
    look_keeps h (slice_get h.instances at) (λ i. dropped_of (dropped_in (view_of i index) resource) at index i h) (λ x k. dropped g t at canon x x.ownership k)
    (λ i is. taken_keeps g t at canon resource index i (dropped_in (view_of i index) resource) h is refl numbers))
