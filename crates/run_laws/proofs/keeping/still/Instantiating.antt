-- Actions of a graph's plan keep memories, of which one comes with each core instance, and ends.
use Rattle.std.proofs.Common.{◌≡◌, ◌∙◌, ℕ, zero, suc, ◌+◌, Bool, true, false, if◌then◌else◌, List, [], ◌∷◌, ◌++◌, map, length, refl, sym, ap, Option, Some, None}
use Rattle.std.specs.List.{slice_get}
use Rattle.std.proofs.lemmas.List.{map-append}
use Rattle.syntax_trees.specs.declared.module.ModuleTree.{ModuleTree}
use Rattle.wasm_store.specs.Store.{Store, Instance}
use Rattle.wasm_store.specs.Instantiation as core
use Rattle.wasm_store.specs.Instantiation.{External, Instantiation, instantiated, instance_of}
use Rattle.wasm_store.specs.Matching.{imports_fit}
use Rattle.tasks.specs.declared.event.TaskEvent.TheVariants as event
use Rattle.comp_graph.specs.declared.graph.Action.{Action}
use Rattle.comp_graph.specs.declared.graph.Action.TheVariants.{Begin, Make}
use Rattle.comp_graph.specs.Graph.{CoreMake, Graph}
use Rattle.instances.specs.declared.entry.EndEntry.{EndEntry}
use Rattle.instances.specs.declared.entry.WorldEntry.TheVariants as entry
use Rattle.instances.specs.Instances.{InstanceView, new_instance, entry_of}
use Rattle.task_table.specs.declared.errand.Errand.TheVariants as errand
use Rattle.world_parts.specs.declared.parts.Rest.TheVariants as rest
use Rattle.world_parts.specs.Held.{Held, Gives, Stuck, after, given}
use Rattle.world_parts.specs.Feed.{at_rest, left_chain}
use Rattle.world_parts.specs.Slots.{happens, closed, errand_set}
use Rattle.world_stacks.specs.Views.{PileView}
use Rattle.world_stacks.specs.Addresses.{externals}
use Rattle.world_stacks.specs.Piles.{stacked, at_pile}
use Rattle.world_stacks.specs.Starting.{started}
use Rattle.world_stacks.specs.Instantiating.{init_exits, begun, core_made, core_added, started_by, start_of, started_up, made, acted, instantiates}
use Rattle.abi_machine.proofs.sound.Found.{some_same}
use Rattle.run_laws.specs.keeping.Still.{first_of, MemoriesKept}
use Rattle.run_laws.proofs.keeping.still.Still.{Kinds, StillBy, still_after, still_all, stood_ends, ends_same}
use Rattle.run_laws.proofs.keeping.still.Goes.{StaysBy, by_still, stays_same, stays_after, stays_given}
use Rattle.run_laws.proofs.keeping.still.Modules.{AddedBy, adds_one}
use Rattle.run_laws.proofs.keeping.still.Feed.{left_chain_still}
use Rattle.run_laws.proofs.keeping.still.Slots.{happens_still, closed_still, errand_set_still}

init_exits_still : (W : Kinds) (h : Held) → StillBy W h (init_exits h)
init_exits_still W h =
    still_after W h (happens 0 event.Exit h) (λ done k. after (closed 0 k) (λ done l. after (left_chain l) (λ flow m. Gives (tt {0}) (at_rest rest.Free m)))) (happens_still W 0 event.Exit h)
    (λ done k.
    still_after W k (closed 0 k) (λ done l. after (left_chain l) (λ flow m. Gives (tt {0}) (at_rest rest.Free m))) (closed_still W 0 k)
    (λ done l.
    still_after W l (left_chain l) (λ flow m. Gives (tt {0}) (at_rest rest.Free m)) (left_chain_still W l) (λ flow m. still_all W m (at_rest rest.Free m) refl refl refl refl refl)))

-- An instance that begins has no entry.
no_entry : (index : ℕ) (e : EndEntry) → entry_of new_instance index ≡ Some (entry.End e) → ⊥
no_entry zero e h = cc
no_entry (suc n) e h = cc

more_at : (xs : List InstanceView) (n : ℕ) (i : InstanceView) (e : EndEntry) (index : ℕ) → slice_get (xs ++ new_instance ∷ []) n ≡ Some i → entry_of i index ≡ Some (entry.End e)
    → (j : InstanceView) × (slice_get xs n ≡ Some j) × (entry_of j index ≡ Some (entry.End e))
more_at [] zero i e index here has = absurd (no_entry index e (ap (λ (j : InstanceView). entry_of j index) (some_same here) ∙ has))
more_at [] (suc n) i e index here has = absurd (cc)
more_at (x ∷ xs) zero i e index here has = (i, here, has)
more_at (x ∷ xs) (suc n) i e index here has = more_at xs n i e index here has

begun_still : (W : Kinds) (next : ℕ) (h : Held) → StillBy W h (begun next h)
begun_still W next h = record {
  memories = refl;
  modules = refl;
  ends = λ K is kept. stood_ends K h.instances (h.instances ++ new_instance ∷ []) h.streams h.futures (λ at index i e here has. more_at h.instances at i e index here has) kept;
}

-- A core instance is made, and its first memory is kept.
there_last : {A : Type 0} (xs : List A) (x : A) → slice_get (xs ++ x ∷ []) (length xs) ≡ Some x
there_last [] x = refl
there_last (y ∷ xs) x = there_last xs x

one_more : (h : Held) (s : Store) (one i : Instance) → s.instances ≡ h.store.instances ++ one ∷ [] → slice_get s.instances (length h.store.instances) ≡ Some i → MemoriesKept h
    → h.memories ++ slice_get i.memories 0 ∷ [] ≡ map first_of s.instances
one_more h s one i more found kept =
    let same : one ≡ i = some_same (sym (ap (λ (all : List Instance). slice_get all (length h.store.instances)) more ∙ there_last h.store.instances one) ∙ found) in
    ap (λ (all : List (Option ℕ)). all ++ first_of i ∷ []) kept
    ∙ ap (λ (j : Instance). map first_of h.store.instances ++ first_of j ∷ []) (sym same)
    ∙ sym (ap (λ (all : List Instance). map first_of all) more ∙ map-append first_of h.store.instances (one ∷ []))

core_made_stays : (W : Kinds) (made : Instantiation) (h : Held) (one : Instance) → AddedBy (h.store.instances ++ one ∷ []) made → StaysBy W h (core_made made h)
core_made_stays W (core.SegmentBounds s) h one more = ends_same W h
core_made_stays W (core.Makes s) h one more = by_instance (slice_get s.instances (length h.store.instances)) refl
  where
    by_instance : (o : Option Instance) → slice_get s.instances (length h.store.instances) ≡ o
        → StaysBy W h
        (let k : Held = record h { store = s } in
        after (given o (λ i. Gives (tt {0}) (record k { memories = k.memories ++ slice_get i.memories 0 ∷ [] }))) (λ done l. Gives (length h.store.instances) l))
    by_instance None found = tt
    by_instance (Some i) found = record { memories = λ kept. one_more h s one i more found kept; ends = λ K is kept. kept }

core_added_stays : (W : Kinds) (m : ModuleTree) (imports : List External) (h : Held) → StaysBy W h (core_added m imports h)
core_added_stays W m imports h = by_fit (imports_fit h.store m.types m.imports imports)
  where
    by_fit : (b : Bool) → StaysBy W h (if b then core_made (instantiated m imports h.store) h else Stuck)
    by_fit true = core_made_stays W (instantiated m imports h.store) h (instance_of m imports h.store) (adds_one h.store m imports)
    by_fit false = tt

started_by_stays : (W : Kinds) (next : ℕ) (o : Option ℕ) (piles : List PileView) (h : Held) → StaysBy W h (started_by next o piles h)
started_by_stays W next None piles h = record { memories = λ kept. kept; ends = λ K is kept. kept }
started_by_stays W next (Some address) piles h =
    stays_given W h (started h.store address [])
    (λ k. given (at_pile (stacked k) 0 piles) (λ r. after (errand_set 0 (errand.Begins next) h) (λ done l. Gives r (at_rest rest.Runs l))))
    (λ k begins.
    stays_given W h (at_pile (stacked k) 0 piles) (λ r. after (errand_set 0 (errand.Begins next) h) (λ done l. Gives r (at_rest rest.Runs l)))
    (λ r is.
    stays_after W h (errand_set 0 (errand.Begins next) h) (λ done l. Gives r (at_rest rest.Runs l)) (by_still W h (errand_set 0 (errand.Begins next) h) (errand_set_still W 0 (errand.Begins next) h))
    (λ done l. record { memories = λ kept. kept; ends = λ K is kept. kept })))

started_up_stays : (W : Kinds) (next : ℕ) (m : ModuleTree) (number : ℕ) (piles : List PileView) (h : Held) → StaysBy W h (started_up next m number piles h)
started_up_stays W next m number piles h =
    stays_given W h (slice_get h.store.instances number) (λ i. started_by next (start_of m i) piles h) (λ i is. started_by_stays W next (start_of m i) piles h)

made_stays : (W : Kinds) (next : ℕ) (c : CoreMake) (piles : List PileView) (h : Held) → StaysBy W h (made next c piles h)
made_stays W next c piles h =
    stays_given W h (externals h.store c.imports) (λ imports. after (core_added c.of_module imports h) (λ number k. started_up next c.of_module number piles k))
    (λ imports is.
    stays_after W h (core_added c.of_module imports h) (λ number k. started_up next c.of_module number piles k) (core_added_stays W c.of_module imports h)
    (λ number k. started_up_stays W next c.of_module number piles k))

acted_stays : (W : Kinds) (g : Graph) (n : ℕ) (o : Option Action) (piles : List PileView) (h : Held) → StaysBy W h (acted g n o piles h)
acted_stays W g n None piles h =
    stays_after {B = Unit {0} × List PileView} W h (init_exits h) (λ done k. Gives (tt {0}, piles) k) (by_still W h (init_exits h) (init_exits_still W h)) (λ done k. stays_same W k)
acted_stays W g n (Some (Begin number)) piles h =
    stays_after {B = Unit {0} × List PileView} W h (begun (n + 1) h) (λ done k. Gives (tt {0}, piles) k) (by_still W h (begun (n + 1) h) (begun_still W (n + 1) h)) (λ done k. stays_same W k)
acted_stays W g n (Some (Make number)) piles h = stays_given W h (slice_get g.cores number) (λ c. made (n + 1) c piles h) (λ c is. made_stays W (n + 1) c piles h)

pub instantiates_stays : (W : Kinds) (g : Graph) (n : ℕ) (piles : List PileView) (h : Held) → StaysBy W h (instantiates g n piles h)
instantiates_stays W g n piles h = acted_stays W g n (slice_get g.plan n) piles h
