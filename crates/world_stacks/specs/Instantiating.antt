-- Instantiation (Component Model, Explainer.md, "Instance Definitions"; Core 2.0, section 4.5.4): an action of the graph's plan. A component
-- instance begins, or a core instance is made, with its parts, its segments and its start function. Task 0 does it.
use Rattle.std.specs.Prelude.{◌≡◌, ℕ, ◌+◌, if◌then◌else◌, List, [], ◌∷◌, ◌++◌, length, map, Option, Some, None, Result, Ok, Err}
use Rattle.std.specs.List.{slice_get}
use Rattle.std.specs.Option.{option_and_then}
use Rattle.syntax_trees.specs.declared.module.ModuleTree.{ModuleTree}
use Rattle.wasm_code.specs.declared.instance.External.{External as Import}
use Rattle.wasm_store.specs.Store.{Instance}
use Rattle.wasm_store.specs.Instantiation.{External, Instantiation, instantiated}
use Rattle.wasm_store.specs.Instantiation as core
use Rattle.wasm_store.specs.Matching.{imports_fit}
use Rattle.wasm_store.specs.Views.{address_of}
use Rattle.comp_graph.specs.declared.graph.Action.{Action}
use Rattle.comp_graph.specs.declared.graph.Action.TheVariants.{Begin, Make}
use Rattle.comp_graph.specs.Graph.{CoreMake, Graph}
use Rattle.instances.specs.Instances.{new_instance}
use Rattle.tasks.specs.declared.event.TaskEvent.TheVariants.{Exit}
use Rattle.task_table.specs.declared.errand.Errand.TheVariants as errand
use Rattle.trace_labels.specs.declared.trap.TrapName.TheVariants as trap
use Rattle.world_parts.specs.declared.parts.Rest.TheVariants as rest
use Rattle.world_parts.specs.declared.parts.Stop.{Stop}
use Rattle.world_parts.specs.declared.parts.Stop.TheVariants as stop
use Rattle.world_parts.specs.Held.{Held, Done, Gives, Traps, Stuck, after, given}
use Rattle.world_parts.specs.Feed.{at_rest, left_chain}
use Rattle.world_parts.specs.Slots.{happens, closed, errand_set}
use Rattle.world_stacks.specs.Views.{PileView}
use Rattle.world_stacks.specs.Piles.{stacked, at_pile}
use Rattle.world_stacks.specs.Addresses.{externals}
use Rattle.world_stacks.specs.Starting.{started}

-- Where no action is left task 0 has done its work. It exits without a line.
abbrev pub init_exits : Held → Done (Unit {0})
init_exits h =
    after (happens 0 Exit h) (λ done k. after (closed 0 k) (λ done l. after (left_chain l) (λ flow m. Gives tt (at_rest rest.Free m))))

-- A component instance begins.
abbrev pub begun : ℕ → Held → Done (Unit {0})
begun next h = Gives tt (at_rest (rest.Instantiates next) (record h { instances = h.instances ++ new_instance ∷ [] }))

-- The address of the memory of a core instance is kept, where it has one.
abbrev pub memory_kept : ℕ → Held → Done (Unit {0})
memory_kept number h =
    given (slice_get h.store.instances number) (λ i. Gives tt (record h { memories = h.memories ++ slice_get i.memories 0 ∷ [] }))

-- A core instance is made of a module, with its segments. The first that does not fit is a trap, and what stands before it stays. The answer is
-- the number of the instance.
abbrev pub core_made : Instantiation → Held → Done ℕ
core_made (core.SegmentBounds s) h = Traps trap.SegmentBounds (record h { store = s })
core_made (core.Makes s) h =
    after (memory_kept (length h.store.instances) (record h { store = s })) (λ done k. Gives (length h.store.instances) k)

abbrev pub core_added : ModuleTree → List External → Held → Done ℕ
core_added m imports h = if imports_fit h.store m.types m.imports imports then core_made (instantiated m imports h.store) h else Stuck

-- Behind its segments comes its start function, or the next action.
abbrev pub started_by : ℕ → Option ℕ → List PileView → Held → Done (Unit {0} × List PileView)
started_by next None piles h = Gives (tt, piles) (at_rest (rest.Instantiates next) h)
started_by next (Some address) piles h =
    given (started h.store address []) (λ k. given (at_pile (stacked k) 0 piles) (λ r.
    after (errand_set 0 (errand.Begins next) h) (λ done l. Gives r (at_rest rest.Runs l))))

abbrev pub start_of : ModuleTree → Instance → Option ℕ
start_of m i = option_and_then (λ index. slice_get i.funcs index) m.start

abbrev pub started_up : ℕ → ModuleTree → ℕ → List PileView → Held → Done (Unit {0} × List PileView)
started_up next m number piles h = given (slice_get h.store.instances number) (λ i. started_by next (start_of m i) piles h)

-- one that the graph has, with what its imports are
abbrev pub made : ℕ → CoreMake → List PileView → Held → Done (Unit {0} × List PileView)
made next c piles h =
    given (externals h.store c.imports) (λ imports. after (core_added c.of_module imports h) (λ number k. started_up next c.of_module number piles k))

-- The action of a number.
abbrev pub acted : Graph → ℕ → Option Action → List PileView → Held → Done (Unit {0} × List PileView)
acted g n None piles h = after (init_exits h) (λ done k. Gives (tt, piles) k)
acted g n (Some (Begin number)) piles h = after (begun (n + 1) h) (λ done k. Gives (tt, piles) k)
acted g n (Some (Make number)) piles h = given (slice_get g.cores number) (λ c. made (n + 1) c piles h)

abbrev pub instantiates : Graph → ℕ → List PileView → Held → Done (Unit {0} × List PileView)
instantiates g n piles h = acted g n (slice_get g.plan n) piles h

-- All imports are found, or one is not there.
abbrev pub FindsAll : Option (List External) → Result (List Import) Stop → Type 0
FindsAll o (Ok found) = o ≡ Some (map address_of found)
FindsAll o (Err (stop.Trap why)) = ⊥
FindsAll o (Err stop.NoFuel) = ⊥
FindsAll o (Err stop.Stuck) = o ≡ None
FindsAll o (Err stop.Memory) = Unit {0}
