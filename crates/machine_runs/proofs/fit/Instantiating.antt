-- Actions of a graph's plan keep stacks typed, where the modules of its core instances are valid.
use Rattle.std.proofs.Common.{◌≡◌, ◌⊎◌, inl, inr, ℕ, zero, suc, Bool, true, false, if◌then◌else◌, List, [], ◌∷◌, ◌++◌, length, refl, sym, subst, Option, Some, None, ◌+◌, arith}
use Rattle.std.specs.List.{slice_get}
use Rattle.syntax_trees.specs.declared.module.ModuleTree.{ModuleTree}
use Rattle.wasm_typing.specs.Modules.{Typed}
use Rattle.wasm_store.specs.Store.{Instance, Store}
use Rattle.wasm_store.specs.Stack.{Stack}
use Rattle.wasm_store.specs.Typed.{StoreTyped, Extends}
use Rattle.wasm_store.specs.Instantiation.{External, Instantiation, instantiated, ImportsMatch, InRange}
use Rattle.wasm_store.specs.Instantiation as core
use Rattle.wasm_store.specs.Matching.{imports_fit}
use Rattle.wasm_store.specs.Laws.{AddedTyped}
use Rattle.wasm_store.proofs.AddedModules.{adds_typed}
use Rattle.wasm_store.proofs.Imports.{fits_sound}
use Rattle.wasm_store.proofs.Stores.{store_same}
use Rattle.value_lift.specs.Tables.{MostLends}
use Rattle.instances.specs.Entries.{seen_as}
use Rattle.instances.specs.Instances.{InstanceView, new_instance}
use Rattle.comp_graph.specs.declared.graph.Action.{Action}
use Rattle.comp_graph.specs.declared.graph.Action.TheVariants.{Begin, Make}
use Rattle.comp_graph.specs.Graph.{CoreMake, Graph}
use Rattle.trace_labels.specs.declared.trap.TrapName.TheVariants as trap
use Rattle.task_table.specs.declared.errand.Errand.TheVariants as errand
use Rattle.tasks.specs.declared.event.TaskEvent.TheVariants.{Exit}
use Rattle.world_parts.specs.declared.parts.Rest.TheVariants as rest
use Rattle.world_parts.specs.Held.{Held, Done, Gives, Traps, Stuck, after, given}
use Rattle.world_parts.specs.Feed.{at_rest, left_chain}
use Rattle.task_table.specs.declared.slot.TaskSlot.{TaskSlot}
use Rattle.task_table.specs.Slots.{at_errand}
use Rattle.world_parts.specs.Slots.{with_task, happens, closed, errand_set}
use Rattle.world_stacks.specs.Views.{PileView}
use Rattle.world_stacks.specs.Piles.{stacked, at_pile}
use Rattle.world_stacks.specs.Starting.{started}
use Rattle.world_stacks.specs.Addresses.{externals}
use Rattle.world_stacks.specs.Instantiating.{init_exits, begun, memory_kept, core_made, core_added, started_by, start_of, started_up, made, acted, instantiates}
use Rattle.world_stacks.proofs.Fitting.{at_pile_fits, stacked_fits, started_fits}
use Rattle.value_parts.specs.Fit.{LentAtMost}
use Rattle.value_parts.proofs.fit.Keeps.{Keeps, KeepsBy, keeps_after, keeps_given, keeps_same, keeps_all, keeps_through}
use Rattle.value_parts.proofs.fit.Feed.{left_chain_keeps}
use Rattle.value_parts.proofs.fit.Slots.{happens_keeps, closed_keeps, errand_set_keeps}
use Rattle.machine_runs.specs.Fit.{ModulesFit}
use Rattle.machine_runs.proofs.fit.Stacks.{FitsBy, fits_after, fits_then, fits_given, fits_piles, fits_same}

init_exits_keeps : (h : Held) → KeepsBy h (init_exits h)
init_exits_keeps h =
    keeps_after h (happens 0 Exit h) (λ done k. after (closed 0 k) (λ done l. after (left_chain l) (λ flow m. Gives (tt {0}) (at_rest rest.Free m)))) (happens_keeps 0 Exit h)
    (λ done k.
    keeps_after k (closed 0 k) (λ done l. after (left_chain l) (λ flow m. Gives (tt {0}) (at_rest rest.Free m))) (closed_keeps 0 k)
    (λ done l. keeps_after l (left_chain l) (λ flow m. Gives (tt {0}) (at_rest rest.Free m)) (left_chain_keeps l) (λ flow m. keeps_all m (at_rest rest.Free m) refl refl)))

-- An instance begins, in which no handle is lent.
last_either : {A : Type 0} (xs : List A) (y : A) (n : ℕ) (z : A) → slice_get (xs ++ y ∷ []) n ≡ Some z → (slice_get xs n ≡ Some z) ⊎ (z ≡ y)
last_either [] y zero z h = inr (let e : z ≡ y = cc in e)
last_either [] y (suc zero) z h = cc
last_either [] y (suc (suc n)) z h = cc
last_either (x ∷ xs) y zero z h = inl h
last_either (x ∷ xs) y (suc n) z h = last_either xs y n z h

none_lent : (most : ℕ) → MostLends seen_as most new_instance.slots
none_lent most zero = (omega arith)
none_lent most (suc index) = (omega arith)

begun_keeps : (next : ℕ) (h : Held) → KeepsBy h (begun next h)
begun_keeps next h = record {
  store = λ typed. (store_same h.store, typed);
  lends = λ most few at i is.
      elim (last_either h.instances new_instance at i is) [
        | inl old ↦ few at i old
        | inr e ↦ subst (λ (j : InstanceView). MostLends seen_as most j.slots) (sym e) (none_lent most)
      ];
}

memory_kept_keeps : (number : ℕ) (h : Held) → KeepsBy h (memory_kept number h)
memory_kept_keeps number h =
    keeps_given h (slice_get h.store.instances number) (λ i. Gives (tt {0}) (record h { memories = h.memories ++ slice_get i.memories 0 ∷ [] }))
    (λ i is. keeps_all h (record h { memories = h.memories ++ slice_get i.memories 0 ∷ [] }) refl refl)

-- A core instance is made of a module that is valid.
stores_keep : (h : Held) (s : Store) → (StoreTyped h.store → Extends h.store s × StoreTyped s) → Keeps h (record h { store = s })
stores_keep h s p = record { store = p; lends = λ most few. few }

made_keeps : (h : Held) (m : ModuleTree) (imports : List External) (made : Instantiation) → (StoreTyped h.store → AddedTyped h.store m imports made) → KeepsBy h (core_made made h)
made_keeps h m imports (core.SegmentBounds s) p = tt
made_keeps h m imports (core.Makes s) p =
    keeps_through h (record h { store = s }) (after (memory_kept (length h.store.instances) (record h { store = s })) (λ done k. Gives (length h.store.instances) k))
    (stores_keep h s (λ typed. let a = p typed in (a.0, a.1)))
    (keeps_after (record h { store = s }) (memory_kept (length h.store.instances) (record h { store = s })) (λ done k. Gives (length h.store.instances) k)
    (memory_kept_keeps (length h.store.instances) (record h { store = s })) (λ done k. keeps_same k))

core_added_keeps : (m : ModuleTree) (imports : List External) (h : Held) → Typed m → InRange m → KeepsBy h (core_added m imports h)
core_added_keeps m imports h typed range = by_fit (imports_fit h.store m.types m.imports imports) refl
  where
    by_fit : (b : Bool) → imports_fit h.store m.types m.imports imports ≡ b → KeepsBy h (if b then core_made (instantiated m imports h.store) h else Stuck)
    by_fit true e =
        made_keeps h m imports (instantiated m imports h.store)
        (λ store. adds_typed h.store m imports store typed range (fits_sound h.store m.types m.imports imports e))
    by_fit false e = tt

-- Behind its segments comes its start function, or the next action.
begins_fits : (next : ℕ) (address : ℕ) (k : Stack) (r : Unit {0} × List PileView) (piles : List PileView) (h : Held) (o : Option TaskSlot) → started h.store address [] ≡ Some k
    → at_pile (stacked k) 0 piles ≡ Some r
    → FitsBy h piles (after (given o (λ slot. Gives (tt {0}) (with_task 0 (at_errand (errand.Begins next) slot) h))) (λ done l. Gives r (at_rest rest.Runs l)))
begins_fits next address k r piles h None begins is = tt
begins_fits next address k r piles h (Some slot) begins is = (
  keeps_all h (at_rest rest.Runs (with_task 0 (at_errand (errand.Begins next) slot) h)) refl refl,
  λ typed fit. at_pile_fits h.store (stacked k) 0 piles r (λ p q e f. stacked_fits h.store k p q (started_fits h.store address [] k typed begins) e f) is fit,
)

started_by_fits : (next : ℕ) (o : Option ℕ) (piles : List PileView) (h : Held) → FitsBy h piles (started_by next o piles h)
started_by_fits next None piles h = fits_piles h (at_rest (rest.Instantiates next) h) piles piles (tt {0}) refl refl (λ typed fit. fit)
started_by_fits next (Some address) piles h =
    fits_given h piles (started h.store address [])
    (λ k. given (at_pile (stacked k) 0 piles) (λ r. after (errand_set 0 (errand.Begins next) h) (λ done l. Gives r (at_rest rest.Runs l))))
    (λ k begins.
    fits_given h piles (at_pile (stacked k) 0 piles) (λ r. after (errand_set 0 (errand.Begins next) h) (λ done l. Gives r (at_rest rest.Runs l)))
    (λ r is. begins_fits next address k r piles h (slice_get h.tasks 0) begins is))

started_up_fits : (next : ℕ) (m : ModuleTree) (number : ℕ) (piles : List PileView) (h : Held) → FitsBy h piles (started_up next m number piles h)
started_up_fits next m number piles h =
    fits_given h piles (slice_get h.store.instances number) (λ i. started_by next (start_of m i) piles h) (λ i is. started_by_fits next (start_of m i) piles h)

made_fits : (next : ℕ) (c : CoreMake) (piles : List PileView) (h : Held) → Typed c.of_module → InRange c.of_module → FitsBy h piles (made next c piles h)
made_fits next c piles h typed range =
    fits_given h piles (externals h.store c.imports) (λ imports. after (core_added c.of_module imports h) (λ number k. started_up next c.of_module number piles k))
    (λ imports is.
    fits_after h piles (core_added c.of_module imports h) (λ number k. started_up next c.of_module number piles k) (core_added_keeps c.of_module imports h typed range)
    (λ number k. started_up_fits next c.of_module number piles k))

acted_fits : (g : Graph) (n : ℕ) (o : Option Action) (piles : List PileView) (h : Held) → ModulesFit g → FitsBy h piles (acted g n o piles h)
acted_fits g n None piles h fit = fits_after h piles (init_exits h) (λ done k. Gives (tt {0}, piles) k) (init_exits_keeps h) (λ done k. fits_same k piles (tt {0}))
acted_fits g n (Some (Begin number)) piles h fit =
    fits_after h piles (begun (n + 1) h) (λ done k. Gives (tt {0}, piles) k) (begun_keeps (n + 1) h) (λ done k. fits_same k piles (tt {0}))
acted_fits g n (Some (Make number)) piles h fit =
    fits_given h piles (slice_get g.cores number) (λ c. made (n + 1) c piles h)
    (λ c is. let valid = fit number c is in made_fits (n + 1) c piles h valid.0 valid.1)

pub instantiates_fits : (g : Graph) (n : ℕ) (piles : List PileView) (h : Held) → ModulesFit g → FitsBy h piles (instantiates g n piles h)
instantiates_fits g n piles h fit = acted_fits g n (slice_get g.plan n) piles h fit
