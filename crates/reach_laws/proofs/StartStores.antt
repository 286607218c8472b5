-- The instantiation of a module whose data are bytes leaves a store that extends the one before, with memories of bytes.
use Rattle.std.proofs.Common.{◌≡◌, ◌+◌, ◌*◌, ℕ, Bool, true, false, if◌then◌else◌, nat_le, List, [], ◌∷◌, length, map, subst, Option, Some, None}
use Rattle.std.specs.List.{slice_get, AllByRecursion}
use Rattle.syntax_trees.specs.declared.module.DataSegment.{DataSegment}
use Rattle.syntax_trees.specs.declared.module.ElementSegment.{ElementSegment}
use Rattle.syntax_trees.specs.declared.module.ModuleTree.{ModuleTree}
use Rattle.syntax_trees.specs.declared.module_types.Limits.{Limits}
use Rattle.wasm_memory.specs.Memories.{MemoryState}
use Rattle.wasm_store.specs.Store.{Table, Instance, Store, table_at}
use Rattle.wasm_store.specs.Instantiation.{External, new_memory, allocated, into_table, element_written, data_written, init_value, Instantiation, Makes, SegmentBounds, all_written, instance_of, instantiated}
use Rattle.wasm_store.specs.Laws.{AddedTyped}
use Rattle.wasm_store.proofs.Lists.{all_append}
use Rattle.lowering_laws.specs.StoreBytes.{HasBytesAlone, HasBytes}
use Rattle.lowering_laws.specs.Values.{AreBytes}
use Rattle.lowering_laws.proofs.Bytes.{zeros_are_bytes}
use Rattle.lowering_laws.proofs.Segments.{LeavesWith, written_leaves, bytes_keep}
use Rattle.abi_machine.proofs.sound.Found.{some_same}
use Rattle.reach_laws.proofs.growing.Stores.{IsOn}

new_bytes : (limits : List Limits) → AllByRecursion (λ (memory : MemoryState). AreBytes memory.bytes) (map new_memory limits)
new_bytes [] = tt
new_bytes (l ∷ limits) = (zeros_are_bytes (l.min * 65536), new_bytes limits)

-- Entries of tables are no bytes.
table_keeps : (at : ℕ) (entries : List (Option ℕ)) (o : Option (ℕ × Table)) (u v : Store) → HasBytesAlone u → into_table at entries o u ≡ Some v → HasBytesAlone v
table_keeps at entries None u v all h = cc
table_keeps at entries (Some t) u v all h = by (nat_le (at + length entries) (length t.1.entries)) _ h all
  where
    by : (b : Bool) (w : Store) → (if b then Some w else None) ≡ Some v → HasBytesAlone w → HasBytesAlone v
    by true w k bytes = subst HasBytesAlone (some_same k) bytes
    by false w k bytes = cc

all_fine : (xs : List ElementSegment) → AllByRecursion (λ x. Unit {0}) xs
all_fine [] = tt
all_fine (x ∷ xs) = (tt, all_fine xs)

bytes_left : (s : Store) (m : ModuleTree) (imports : List External) → HasBytesAlone s → HasBytes m → LeavesWith HasBytesAlone (instantiated m imports s)
bytes_left s m imports all segments =
    let i : Instance = instance_of m imports s in
    let written : (u v : Store) (d : DataSegment) → AreBytes d.bytes → HasBytesAlone u → data_written i u d ≡ Some v → HasBytesAlone v =
    λ u v d own h e. (bytes_keep (init_value u i.globals d.offset) d.bytes (slice_get i.memories d.memory) u v own e).bytes h in
    let element : (u v : Store) (d : ElementSegment) → Unit {0} → HasBytesAlone u → element_written i u d ≡ Some v → HasBytesAlone v =
    λ u v d own h e. table_keeps (init_value u i.globals d.offset) _ (table_at d.table i u) u v h e in
    written_leaves HasBytesAlone (λ (d : ElementSegment). Unit {0}) (element_written i) element (λ u. all_written (data_written i) m.data_segments u Makes)
    (λ u h. written_leaves HasBytesAlone (λ (d : DataSegment). AreBytes d.bytes) (data_written i) written Makes (λ v k. k) m.data_segments segments u h) m.element_segments (all_fine m.element_segments) (allocated m imports s)
    (all_append (λ (memory : MemoryState). AreBytes memory.bytes) s.memories (map new_memory m.memories) all (new_bytes m.memories))

on_left : (s : Store) (m : ModuleTree) (imports : List External) (r : Instantiation) → AddedTyped s m imports r → LeavesWith HasBytesAlone r → LeavesWith (IsOn s) r
on_left s m imports (Makes t) added bytes = record { extends = added.0; typed = added.1; bytes = bytes }
on_left s m imports (SegmentBounds t) added bytes = record { extends = added.0; typed = added.1; bytes = bytes }

pub instance_on : (s : Store) (m : ModuleTree) (imports : List External) → HasBytesAlone s → HasBytes m → AddedTyped s m imports (instantiated m imports s) → LeavesWith (IsOn s) (instantiated m imports s)
instance_on s m imports all segments added = on_left s m imports (instantiated m imports s) added (bytes_left s m imports all segments)
