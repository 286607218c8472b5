-- Stores that are changed from outside: further functions of the host, and other bytes in a memory.
use Rattle.std.proofs.Common.{◌≡◌, ◌≤◌, ◌/◌, ◌%◌, ℕ, Option, [], ◌∷◌, length, sym, subst, arith}
use Rattle.wasm_memory.specs.Memories.{page_count, most_pages}
use Rattle.wasm_store.specs.Store.{Host, Store}
use Rattle.wasm_store.specs.Instantiation.{with_host}
use Rattle.wasm_store.specs.Typed.{IsSame, IsLaterTable, IsLaterMemory, IsLaterGlobal, Extends, FunctionTyped, TableTyped, MemoryTyped}
use Rattle.wasm_store.specs.Laws.{EmptyTyped, HostsTyped, WritesTyped}
use Rattle.wasm_store.proofs.Lists.{all_at, all_map, all_append, keeps_same, keeps_append}
use Rattle.wasm_store.proofs.Stores.{same_later, table_later, memory_later, global_later, function_later, entries_later, memory_changed}

pub empty_typed : EmptyTyped
empty_typed = record { funcs = tt; tables = tt; memories = tt; globals = tt }

pub hosts_typed : HostsTyped
hosts_typed s type st =
    let t : Store = with_host type s in
    let x : Extends s t = record {
      funcs = keeps_append IsSame same_later s.funcs (Host type ∷ []);
      tables = keeps_same IsLaterTable table_later s.tables;
      memories = keeps_same IsLaterMemory memory_later s.memories;
      globals = keeps_same IsLaterGlobal global_later s.globals;
      instances = keeps_same IsSame same_later s.instances;
    } in (
      x,
      record {
        funcs = all_append (FunctionTyped t) s.funcs (Host type ∷ []) (all_map (FunctionTyped s) (FunctionTyped t) (function_later s t x) s.funcs st.funcs) (tt, tt);
        tables = all_map (TableTyped s) (TableTyped t) (entries_later s t x) s.tables st.tables;
        memories = st.memories;
        globals = st.globals;
      },
    )

pub writes_typed : WritesTyped
writes_typed s address m n st there max long =
    let old : MemoryTyped m = all_at MemoryTyped s.memories address m st.memories there in
    let whole : length n.bytes % 65536 ≡ 0 = subst (λ (k : ℕ). k % 65536 ≡ 0) (sym long) old.whole in
    let few : page_count n ≤ most_pages n.maximum =
    subst (λ (max : Option ℕ). page_count n ≤ most_pages max) (sym max) (subst (λ (k : ℕ). k / 65536 ≤ most_pages m.maximum) (sym long) old.few) in
    memory_changed s address m n st there (max, omega arith) (record { whole = whole; few = few })
