-- Actions of a graph's plan, and what follows runs of core code, keep all marks, and well what is kept.
use Rattle.std.proofs.Common.{◌≡◌, refl}
use Rattle.std.specs.Prelude.{ℕ, ◌+◌, Bool, true, false, ◌&&◌, ◌||◌, is_some, if◌then◌else◌, List, [], ◌∷◌, ◌++◌, length, Option, Some, None}
use Rattle.std.specs.List.{slice_get}
use Rattle.wasm_store.specs.Instantiation.{External, Instantiation, instantiated}
use Rattle.wasm_store.specs.Instantiation as core
use Rattle.wasm_store.specs.Matching.{imports_fit}
use Rattle.comp_graph.specs.declared.graph.Action.{Action}
use Rattle.comp_graph.specs.declared.graph.Action.TheVariants.{Begin, Make}
use Rattle.comp_graph.specs.Graph.{CoreMake, Graph}
use Rattle.instances.specs.Instances.{new_instance}
use Rattle.tasks.specs.declared.event.TaskEvent.TheVariants as event
use Rattle.tasks.specs.Tasks as tasks
use Rattle.tasks.specs.Tasks.{is_acting, is_nobody}
use Rattle.task_table.specs.declared.errand.Errand.{Errand}
use Rattle.task_table.specs.declared.errand.Errand.TheVariants as errand
use Rattle.task_table.specs.Slots as slots
use Rattle.task_table.specs.Slots.{event_answer, advanced_slot}
use Rattle.task_table.specs.Tasks.{without, unwatched}
use Rattle.world_parts.specs.declared.parts.Rest.TheVariants as rest
use Rattle.world_parts.specs.Held.{Held, Gives, Stuck, after, given}
use Rattle.world_parts.specs.Feed.{at_rest, left_chain}
use Rattle.world_parts.specs.Slots.{with_task, happened, happens, closed, errand_set}
use Rattle.world_stacks.specs.Views.{PileView}
use Rattle.world_stacks.specs.Piles.{stacked, at_pile}
use Rattle.world_stacks.specs.Addresses.{externals}
use Rattle.world_stacks.specs.Starting.{started}
use Rattle.world_stacks.specs.Instantiating.{init_exits, memory_kept, core_made, core_added, started_by, start_of, started_up, made, acted}
use Rattle.standing.proofs.marks.Feed.{left_chain_stays}
use Rattle.standing.proofs.marks.Slots.{errand_set_stays}
use Rattle.run_laws.specs.keeping.Kept.{KeepsMarks}
use Rattle.run_laws.specs.keeping.Well.{KeepsWell}
use Rattle.run_laws.specs.keeping.Instantiating.{NoneRuns, InstantiatingKeepsMarks}
use Rattle.run_laws.proofs.keeping.Every.{all_by, every_all, every_same, every_after, every_given, every_through, every_from, look_every}
use Rattle.run_laws.proofs.keeping.Moves.{acted_every}
use Rattle.run_laws.proofs.keeping.Begun.{begun_marks, init_gone}
use Rattle.run_laws.proofs.keeping.parts.Feed.{left_chain_keeps}
use Rattle.run_laws.proofs.keeping.parts.Slots.{errand_set_keeps}
use Rattle.run_laws.proofs.well.Behind.{well_all, well_same, well_after, well_given, well_from}
use Rattle.run_laws.proofs.well.Feed.{left_chain_well}
use Rattle.run_laws.proofs.well.Slots.{happens_well, closed_well, errand_set_well}

first_so : (b c : Bool) → (b && c) ≡ true → b ≡ true
first_so true c e = refl
first_so false c e = absurd (cc)

-- Task 0 has done its work.
init_exits_marks : (h : Held) → NoneRuns h → KeepsMarks h (init_exits h)
init_exits_marks h none =
    look_every h (slice_get h.tasks 0) (λ x. happened (event_answer event.Exit x.task) 0 (advanced_slot event.Exit x) h)
    (λ done k. after (closed 0 k) (λ done l. after (left_chain l) (λ flow m. Gives (tt {0}) (at_rest rest.Free m))))
    (λ x is.
    acted_every h h 0 event.Exit x (λ done k. after (closed 0 k) (λ done l. after (left_chain l) (λ flow m. Gives (tt {0}) (at_rest rest.Free m)))) refl
    (λ may fine.
    let k : Held = with_task 0 (slots.with_task (tasks.after event.Exit x.task) x) h in
    let l : Held = record k { live = without 0 k.live; watched = unwatched 0 k.watched } in
    every_through h k (after (closed 0 k) (λ done l. after (left_chain l) (λ flow m. Gives (tt {0}) (at_rest rest.Free m))))
    (init_gone h 0 x is (none 0 x is) (first_so (is_acting x.task.phase) (is_some x.task.resolution || is_nobody x.task.caller) may))
    (every_from k l (after (left_chain l) (λ flow m. Gives (tt {0}) (at_rest rest.Free m))) refl refl
    (every_after l (left_chain l) (λ flow m. Gives (tt {0}) (at_rest rest.Free m)) (all_by l (left_chain l) (left_chain_stays l) (left_chain_keeps l))
    (λ flow m. every_all m (at_rest rest.Free m) refl refl)))))

init_exits_well : (h : Held) → KeepsWell h (init_exits h)
init_exits_well h =
    well_after h (happens 0 event.Exit h) (λ done k. after (closed 0 k) (λ done l. after (left_chain l) (λ flow m. Gives (tt {0}) (at_rest rest.Free m)))) (happens_well 0 event.Exit h)
    (λ done k.
    well_after k (closed 0 k) (λ done l. after (left_chain l) (λ flow m. Gives (tt {0}) (at_rest rest.Free m))) (closed_well 0 k)
    (λ done l. well_after l (left_chain l) (λ flow m. Gives (tt {0}) (at_rest rest.Free m)) (left_chain_well l) (λ flow m. well_all m (at_rest rest.Free m) refl)))

-- A core instance is made.
memory_kept_marks : (number : ℕ) (h : Held) → KeepsMarks h (memory_kept number h)
memory_kept_marks number h =
    every_given h (slice_get h.store.instances number) (λ i. Gives (tt {0}) (record h { memories = h.memories ++ slice_get i.memories 0 ∷ [] }))
    (λ i is. every_all h (record h { memories = h.memories ++ slice_get i.memories 0 ∷ [] }) refl refl)

core_made_marks : (made : Instantiation) (h : Held) → KeepsMarks h (core_made made h)
core_made_marks (core.SegmentBounds s) h = λ marks. marks.lends
core_made_marks (core.Makes s) h =
    every_from h (record h { store = s }) (after (memory_kept (length h.store.instances) (record h { store = s })) (λ done k. Gives (length h.store.instances) k)) refl refl
    (every_after (record h { store = s }) (memory_kept (length h.store.instances) (record h { store = s })) (λ done k. Gives (length h.store.instances) k)
    (memory_kept_marks (length h.store.instances) (record h { store = s })) (λ done k. every_same k))

core_added_marks : (c : CoreMake) (imports : List External) (h : Held) → KeepsMarks h (core_added c.of_module imports h)
core_added_marks c imports h = by_fit (imports_fit h.store c.of_module.types c.of_module.imports imports)
  where
    by_fit : (b : Bool) → KeepsMarks h (if b then core_made (instantiated c.of_module imports h.store) h else Stuck)
    by_fit true = core_made_marks (instantiated c.of_module imports h.store) h
    by_fit false = tt

errand_marks : (t : ℕ) (e : Errand) (h : Held) → KeepsMarks h (errand_set t e h)
errand_marks t e h = all_by h (errand_set t e h) (errand_set_stays t e h) (errand_set_keeps t e h)

started_by_marks : (next : ℕ) (o : Option ℕ) (piles : List PileView) (h : Held) → KeepsMarks h (started_by next o piles h)
started_by_marks next None piles h = every_all h (at_rest (rest.Instantiates next) h) refl refl
started_by_marks next (Some address) piles h =
    every_given h (started h.store address [])
    (λ k. given (at_pile (stacked k) 0 piles) (λ r. after (errand_set 0 (errand.Begins next) h) (λ done l. Gives r (at_rest rest.Runs l))))
    (λ k begins.
    every_given h (at_pile (stacked k) 0 piles) (λ r. after (errand_set 0 (errand.Begins next) h) (λ done l. Gives r (at_rest rest.Runs l)))
    (λ r is.
    every_after h (errand_set 0 (errand.Begins next) h) (λ done l. Gives r (at_rest rest.Runs l)) (errand_marks 0 (errand.Begins next) h) (λ done l. every_all l (at_rest rest.Runs l) refl refl)))

made_marks : (next : ℕ) (c : CoreMake) (piles : List PileView) (h : Held) → KeepsMarks h (made next c piles h)
made_marks next c piles h =
    every_given h (externals h.store c.imports) (λ imports. after (core_added c.of_module imports h) (λ number k. started_up next c.of_module number piles k))
    (λ imports is.
    every_after h (core_added c.of_module imports h) (λ number k. started_up next c.of_module number piles k) (core_added_marks c imports h)
    (λ number k.
    every_given k (slice_get k.store.instances number) (λ i. started_by next (start_of c.of_module i) piles k) (λ i is. started_by_marks next (start_of c.of_module i) piles k)))

acted_marks : (g : Graph) (n : ℕ) (o : Option Action) (piles : List PileView) (h : Held) → NoneRuns h → KeepsMarks h (acted g n o piles h)
acted_marks g n None piles h none = every_after {B = Unit {0} × List PileView} h (init_exits h) (λ done k. Gives (tt {0}, piles) k) (init_exits_marks h none) (λ done k. every_same k)
acted_marks g n (Some (Begin number)) piles h none =
    begun_marks h (at_rest (rest.Instantiates (n + 1)) (record h { instances = h.instances ++ new_instance ∷ [] })) none refl refl
acted_marks g n (Some (Make number)) piles h none = every_given h (slice_get g.cores number) (λ c. made (n + 1) c piles h) (λ c is. made_marks (n + 1) c piles h)

-- The same of what is kept well.
memory_kept_well : (number : ℕ) (h : Held) → KeepsWell h (memory_kept number h)
memory_kept_well number h =
    well_given h (slice_get h.store.instances number) (λ i. Gives (tt {0}) (record h { memories = h.memories ++ slice_get i.memories 0 ∷ [] }))
    (λ i is. well_all h (record h { memories = h.memories ++ slice_get i.memories 0 ∷ [] }) refl)

core_made_well : (made : Instantiation) (h : Held) → KeepsWell h (core_made made h)
core_made_well (core.SegmentBounds s) h = tt
core_made_well (core.Makes s) h =
    well_from h (record h { store = s }) (after (memory_kept (length h.store.instances) (record h { store = s })) (λ done k. Gives (length h.store.instances) k)) refl
    (well_after (record h { store = s }) (memory_kept (length h.store.instances) (record h { store = s })) (λ done k. Gives (length h.store.instances) k)
    (memory_kept_well (length h.store.instances) (record h { store = s })) (λ done k. well_same k))

core_added_well : (c : CoreMake) (imports : List External) (h : Held) → KeepsWell h (core_added c.of_module imports h)
core_added_well c imports h = by_fit (imports_fit h.store c.of_module.types c.of_module.imports imports)
  where
    by_fit : (b : Bool) → KeepsWell h (if b then core_made (instantiated c.of_module imports h.store) h else Stuck)
    by_fit true = core_made_well (instantiated c.of_module imports h.store) h
    by_fit false = tt

started_by_well : (next : ℕ) (o : Option ℕ) (piles : List PileView) (h : Held) → KeepsWell h (started_by next o piles h)
started_by_well next None piles h = well_all h (at_rest (rest.Instantiates next) h) refl
started_by_well next (Some address) piles h =
    well_given h (started h.store address [])
    (λ k. given (at_pile (stacked k) 0 piles) (λ r. after (errand_set 0 (errand.Begins next) h) (λ done l. Gives r (at_rest rest.Runs l))))
    (λ k begins.
    well_given h (at_pile (stacked k) 0 piles) (λ r. after (errand_set 0 (errand.Begins next) h) (λ done l. Gives r (at_rest rest.Runs l)))
    (λ r is.
    well_after h (errand_set 0 (errand.Begins next) h) (λ done l. Gives r (at_rest rest.Runs l)) (errand_set_well 0 (errand.Begins next) h tt) (λ done l. well_all l (at_rest rest.Runs l) refl)))

made_well : (next : ℕ) (c : CoreMake) (piles : List PileView) (h : Held) → KeepsWell h (made next c piles h)
made_well next c piles h =
    well_given h (externals h.store c.imports) (λ imports. after (core_added c.of_module imports h) (λ number k. started_up next c.of_module number piles k))
    (λ imports is.
    well_after h (core_added c.of_module imports h) (λ number k. started_up next c.of_module number piles k) (core_added_well c imports h)
    (λ number k.
    well_given k (slice_get k.store.instances number) (λ i. started_by next (start_of c.of_module i) piles k) (λ i is. started_by_well next (start_of c.of_module i) piles k)))

acted_well : (g : Graph) (n : ℕ) (o : Option Action) (piles : List PileView) (h : Held) → KeepsWell h (acted g n o piles h)
acted_well g n None piles h = well_after {B = Unit {0} × List PileView} h (init_exits h) (λ done k. Gives (tt {0}, piles) k) (init_exits_well h) (λ done k. well_same k)
acted_well g n (Some (Begin number)) piles h = well_all h (at_rest (rest.Instantiates (n + 1)) (record h { instances = h.instances ++ new_instance ∷ [] })) refl
acted_well g n (Some (Make number)) piles h = well_given h (slice_get g.cores number) (λ c. made (n + 1) c piles h) (λ c is. made_well (n + 1) c piles h)

pub instantiating_marks : InstantiatingKeepsMarks
instantiating_marks g number piles h =
    ((λ none. acted_marks g number (slice_get g.plan number) piles h none), acted_well g number (slice_get g.plan number) piles h)
