-- What is kept of memories is what options name, where the first memory of each core instance is kept.
use Rattle.std.proofs.Common.{◌≡◌, ℕ, List, refl, sym, ap, ◌∙◌, Option, Some, None}
use Rattle.std.specs.List.{slice_get}
use Rattle.std.specs.Option.{option_and_then}
use Rattle.wasm_store.specs.Store.{Instance, Store}
use Rattle.comp_graph.specs.declared.graph.CoreRef.{CoreRef}
use Rattle.world_parts.specs.Held.{Held}
use Rattle.world_parts.specs.Places.{memory_by}
use Rattle.abi_machine.specs.Canons.{address_in, memory_of}
use Rattle.run_laws.specs.Supplied.{first_memory, KeepsMemories, MemoriesAreNamed}

first_at : (o : Option Instance) (index : ℕ) → index ≡ 0 → first_memory o ≡ option_and_then (λ (i : Instance). slice_get i.memories index) o
first_at None index is = refl
first_at (Some i) index is = ap (λ (n : ℕ). slice_get i.memories n) (sym is)

named_by : (h : Held) (o : Option CoreRef) → KeepsMemories h → ((m : CoreRef) → o ≡ Some m → m.index ≡ 0) → memory_by o h ≡ option_and_then (address_in (λ (i : Instance). i.memories) h.store) o
named_by h None keeps first = refl
named_by h (Some m) keeps first = keeps m.instance ∙ first_at (slice_get h.store.instances m.instance) m.index (first m refl)

pub memories_are_named : MemoriesAreNamed
memories_are_named g values s h stacks w options st keeps first = named_by h options.memory keeps first ∙ ap (λ (x : Store). memory_of x options) st.same_store
