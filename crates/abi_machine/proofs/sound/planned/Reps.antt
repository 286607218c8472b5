-- Representations in tables, and the bytes of memories.
use Rattle.std.proofs.Common.{◌≡◌, ℕ, true, false, if◌then◌else◌, Bool, List, [], ◌∷◌, refl, subst, Option, Some, None}
use Rattle.std.specs.Prelude.{nat_eq}
use Rattle.std.specs.List.{slice_get, AllByRecursion}
use Rattle.std.specs.Option.{option_map}
use Rattle.wasm_memory.specs.Memories.{MemoryState}
use Rattle.wasm_store.specs.Store.{Store}
use Rattle.wasm_store.proofs.Lists.{all_at}
use Rattle.handle_table.specs.History.{Event, Add, Remove, live}
use Rattle.lowering_laws.specs.Values.{AreBytes}
use Rattle.lowering_laws.specs.StoreBytes.{HasBytesAlone}
use Rattle.abi_machine.specs.World.{Entry, Inst}
use Rattle.abi_machine.specs.Edits.{changed_at}
use Rattle.abi_machine.specs.Canons.{bytes_of_memory, bytes_of}
use Rattle.abi_machine.specs.sound.Answers.{HasRep}
use Rattle.abi_machine.specs.sound.Planned.{EventHasRep, HaveReps}
use Rattle.abi_machine.proofs.sound.Lists.{all_changed}
use Rattle.abi_machine.proofs.sound.Found.{some_same}

-- Tables.
pub reps_changed : (i : ℕ) (f : Inst → Inst) (insts : List Inst) → ((x : Inst) → AllByRecursion EventHasRep x.table → AllByRecursion EventHasRep (f x).table) → HaveReps insts → HaveReps (changed_at i f insts)
reps_changed i f insts keeps h = all_changed (λ (x : Inst). AllByRecursion EventHasRep x.table) i f insts (λ x e k. keeps x k) h

pub live_rep : (table : List (Event Entry)) (index : ℕ) (entry : Entry) → AllByRecursion EventHasRep table → live table index ≡ Some entry → HasRep entry
live_rep [] index entry h e = cc
live_rep (Add i x ∷ table) index entry h e = by (nat_eq i index) e (λ k. live_rep table index entry h.1 k)
  where
    by : (b : Bool) → (if b then Some x else live table index) ≡ Some entry → (live table index ≡ Some entry → HasRep entry) → HasRep entry
    by true k rest = subst HasRep (some_same k) h.0
    by false k rest = rest k
live_rep (Remove i ∷ table) index entry h e = by (nat_eq i index) e (λ k. live_rep table index entry h.1 k)
  where
    by : (b : Bool) → (let o : Option Entry = if b then None else live table index in o) ≡ Some entry → (live table index ≡ Some entry → HasRep entry) → HasRep entry
    by true k rest = cc
    by false k rest = rest k

-- Memories hold bytes.
pub memory_bytes : (s : Store) (memory : Option ℕ) → HasBytesAlone s → AreBytes (bytes_of s memory)
memory_bytes s None all = tt
memory_bytes s (Some a) all = by (slice_get s.memories a) refl
  where
    by : (o : Option MemoryState) → slice_get s.memories a ≡ o → AreBytes (bytes_of_memory (option_map (λ m. (a, m)) o))
    by None e = tt
    by (Some m) e = all_at (λ (memory : MemoryState). AreBytes memory.bytes) s.memories a m all e
