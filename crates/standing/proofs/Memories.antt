-- Memories that options name: their bytes, on both sides.
use Rattle.std.proofs.Common.{◌≡◌, ℕ, refl, ap, ◌∙◌, Option, Some, None}
use Rattle.std.specs.List.{slice_get}
use Rattle.std.specs.Option.{option_map}
use Rattle.wasm_memory.specs.Memories.{MemoryState}
use Rattle.wasm_store.specs.Store.{Store}
use Rattle.comp_graph.specs.declared.graph.Options.{Options}
use Rattle.world_parts.specs.Held.{Held}
use Rattle.world_parts.specs.Places as places
use Rattle.world_parts.specs.Places.{bytes_at, bytes_of}
use Rattle.abi_machine.specs.World.{World}
use Rattle.abi_machine.specs.Canons as machine
use Rattle.abi_machine.specs.Canons.{bytes_of_memory}
use Rattle.standing.specs.Ends.{HasMemory}

bytes_there : (address : ℕ) (o : Option MemoryState) → bytes_of o ≡ bytes_of_memory (option_map (λ x. (address, x)) o)
bytes_there address None = refl
bytes_there address (Some m) = refl

pub bytes_alike : (memory : Option ℕ) (s : Store) → bytes_at memory s ≡ machine.bytes_of s memory
bytes_alike None s = refl
bytes_alike (Some address) s = bytes_there address (slice_get s.memories address)

pub memory_alike : (h : Held) (w : World) (options : Options) → HasMemory h w options → h.store ≡ w.store
    → bytes_at (places.memory_of options h) h.store ≡ machine.bytes_of w.store (machine.memory_of w.store options)
memory_alike h w options has same =
    ap (λ (m : Option ℕ). bytes_at m h.store) has
    ∙ ap (λ (s : Store). bytes_at (machine.memory_of w.store options) s) same
    ∙ bytes_alike (machine.memory_of w.store options) w.store
