-- Actions of a graph's plan: lists of tasks stay as they follow from the tasks.
use Rattle.std.proofs.Common.{ℕ, ◌+◌, List, [], ◌∷◌, ◌++◌, length, refl, Option, Some, None}
use Rattle.std.specs.List.{slice_get}
use Rattle.syntax_trees.specs.declared.module.ModuleTree.{ModuleTree}
use Rattle.wasm_store.specs.Instantiation.{External, Instantiation, instantiated}
use Rattle.wasm_store.specs.Instantiation as core
use Rattle.wasm_store.specs.Matching.{imports_fit}
use Rattle.comp_graph.specs.declared.graph.Action.{Action}
use Rattle.comp_graph.specs.declared.graph.Action.TheVariants.{Begin, Make}
use Rattle.comp_graph.specs.Graph.{CoreMake, Graph}
use Rattle.tasks.specs.declared.event.TaskEvent.TheVariants as event
use Rattle.tasks.specs.Tasks as tasks
use Rattle.task_table.specs.declared.errand.Errand.TheVariants as errand
use Rattle.task_table.specs.declared.slot.TaskSlot.{TaskSlot}
use Rattle.task_table.specs.Slots as slots
use Rattle.task_table.specs.Tasks.{without, unwatched}
use Rattle.world_parts.specs.declared.parts.Rest.TheVariants as rest
use Rattle.world_parts.specs.Held.{Held, Gives, Stuck, after, given}
use Rattle.world_parts.specs.Feed.{at_rest, left_chain}
use Rattle.world_parts.specs.Slots.{with_task, closed, errand_set}
use Rattle.world_stacks.specs.Views.{PileView}
use Rattle.world_stacks.specs.Piles.{stacked, at_pile}
use Rattle.world_stacks.specs.Starting.{started}
use Rattle.world_stacks.specs.Addresses.{externals}
use Rattle.world_stacks.specs.Instantiating.{init_exits, begun, memory_kept, core_made, core_added, started_by, start_of, started_up, made, acted, instantiates}
use Rattle.run_laws.proofs.lists.Feed.{left_chain_lists}
use Rattle.run_laws.proofs.lists.Slots.{errand_set_lists, happened_then}
use Rattle.run_laws.proofs.lists.Same.{ListsBy, lists_after, lists_behind, lists_given, lists_if, lists_same, lists_close}

init_exits_lists : (h : Held) → ListsBy h (init_exits h)
init_exits_lists h =
    happened_then h h 0 event.Exit (λ done k. after (closed 0 k) (λ done l. after (left_chain l) (λ flow m. Gives (tt {0}) (at_rest rest.Free m))))
    (λ x is may.
    let y : TaskSlot = slots.with_task (tasks.after event.Exit x.task) x in
    let k : Held = with_task 0 y h in
    let l : Held = record k { live = without 0 k.live; watched = unwatched 0 k.watched } in
    lists_behind h l (after (left_chain l) (λ flow m. Gives (tt {0}) (at_rest rest.Free m))) (lists_close h l 0 x y is refl refl refl refl refl refl refl)
    (lists_after l (left_chain l) (λ flow m. Gives (tt {0}) (at_rest rest.Free m)) (left_chain_lists l) (λ flow m s l. l)))

begun_lists : (next : ℕ) (h : Held) → ListsBy h (begun next h)
begun_lists next h s l = l

memory_kept_lists : (number : ℕ) (h : Held) → ListsBy h (memory_kept number h)
memory_kept_lists number h =
    lists_given h (slice_get h.store.instances number) (λ i. Gives (tt {0}) (record h { memories = h.memories ++ slice_get i.memories 0 ∷ [] })) (λ i is s l. l)

core_made_lists : (made : Instantiation) (h : Held) → ListsBy h (core_made made h)
core_made_lists (core.SegmentBounds s) h = tt
core_made_lists (core.Makes s) h =
    lists_behind h (record h { store = s }) (after (memory_kept (length h.store.instances) (record h { store = s })) (λ done k. Gives (length h.store.instances) k)) (λ script l. l)
    (lists_after (record h { store = s }) (memory_kept (length h.store.instances) (record h { store = s })) (λ done k. Gives (length h.store.instances) k)
    (memory_kept_lists (length h.store.instances) (record h { store = s })) (λ done k. lists_same k))

core_added_lists : (m : ModuleTree) (imports : List External) (h : Held) → ListsBy h (core_added m imports h)
core_added_lists m imports h =
    lists_if h (imports_fit h.store m.types m.imports imports) (core_made (instantiated m imports h.store) h) Stuck (core_made_lists (instantiated m imports h.store) h) tt

started_by_lists : (next : ℕ) (o : Option ℕ) (piles : List PileView) (h : Held) → ListsBy h (started_by next o piles h)
started_by_lists next None piles h = λ s l. l
started_by_lists next (Some address) piles h =
    lists_given h (started h.store address [])
    (λ k. given (at_pile (stacked k) 0 piles) (λ r. after (errand_set 0 (errand.Begins next) h) (λ done l. Gives r (at_rest rest.Runs l))))
    (λ k begins.
    lists_given h (at_pile (stacked k) 0 piles) (λ r. after (errand_set 0 (errand.Begins next) h) (λ done l. Gives r (at_rest rest.Runs l)))
    (λ r is. lists_after h (errand_set 0 (errand.Begins next) h) (λ done l. Gives r (at_rest rest.Runs l)) (errand_set_lists 0 (errand.Begins next) h) (λ done k s l. l)))

started_up_lists : (next : ℕ) (m : ModuleTree) (number : ℕ) (piles : List PileView) (h : Held) → ListsBy h (started_up next m number piles h)
started_up_lists next m number piles h =
    lists_given h (slice_get h.store.instances number) (λ i. started_by next (start_of m i) piles h) (λ i is. started_by_lists next (start_of m i) piles h)

made_lists : (next : ℕ) (c : CoreMake) (piles : List PileView) (h : Held) → ListsBy h (made next c piles h)
made_lists next c piles h =
    lists_given h (externals h.store c.imports) (λ imports. after (core_added c.of_module imports h) (λ number k. started_up next c.of_module number piles k))
    (λ imports is.
    lists_after h (core_added c.of_module imports h) (λ number k. started_up next c.of_module number piles k) (core_added_lists c.of_module imports h)
    (λ number k. started_up_lists next c.of_module number piles k))

acted_lists : (g : Graph) (n : ℕ) (o : Option Action) (piles : List PileView) (h : Held) → ListsBy h (acted g n o piles h)
acted_lists g n None piles h = lists_after {B = Unit {0} × List PileView} h (init_exits h) (λ done k. Gives (tt {0}, piles) k) (init_exits_lists h) (λ done k. lists_same k)
acted_lists g n (Some (Begin number)) piles h = lists_after {B = Unit {0} × List PileView} h (begun (n + 1) h) (λ done k. Gives (tt {0}, piles) k) (begun_lists (n + 1) h) (λ done k. lists_same k)
acted_lists g n (Some (Make number)) piles h = lists_given h (slice_get g.cores number) (λ c. made (n + 1) c piles h) (λ c is. made_lists (n + 1) c piles h)

pub instantiates_lists : (g : Graph) (n : ℕ) (piles : List PileView) (h : Held) → ListsBy h (instantiates g n piles h)
instantiates_lists g n piles h = acted_lists g n (slice_get g.plan n) piles h
