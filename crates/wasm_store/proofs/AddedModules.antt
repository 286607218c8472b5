-- Modules that are added to typed stores.
use Rattle.std.proofs.Common.{◌≡◌, ◌<◌, ◌≤◌, ◌+◌, ℕ, Bool, true, false, if◌then◌else◌, nat_le, List, [], ◌∷◌, ◌++◌, length, map, refl, ap, sym, ◌∙◌, subst, arith, Some, None, Option, length-append, length-take, length-drop}
use Rattle.std.specs.List.{slice_get, AllByRecursion, AllZip, range_with_len, flat_map}
use Rattle.std.specs.Option.{option_map, option_and_then, IfSome}
use Rattle.std.specs.Int.{w32, w64}
use Rattle.std.proofs.lemmas.Bool.{leb-true}
use Rattle.syntax_trees.specs.declared.module_types.ValType.{ValType}
use Rattle.syntax_trees.specs.declared.module_types.ValType.TheVariants.{I32, I64}
use Rattle.syntax_trees.specs.declared.module_types.FuncType.{FuncType}
use Rattle.syntax_trees.specs.declared.module_types.Limits.{Limits}
use Rattle.syntax_trees.specs.declared.module_types.GlobalType.{GlobalType}
use Rattle.syntax_trees.specs.declared.module_types.Mutability.{Mutability}
use Rattle.syntax_trees.specs.declared.module_types.Mutability.TheVariants.{Constant, Variable}
use Rattle.syntax_trees.specs.declared.instr.ConstInstr.{ConstInstr}
use Rattle.syntax_trees.specs.declared.instr.ConstInstr.TheVariants as const
use Rattle.syntax_trees.specs.declared.module.Import.{Import}
use Rattle.syntax_trees.specs.declared.module.ImportDesc.{ImportDesc}
use Rattle.syntax_trees.specs.declared.module.ImportDesc.TheVariants as import
use Rattle.syntax_trees.specs.declared.module.Func.{Func}
use Rattle.syntax_trees.specs.declared.module.Global.{Global as ModuleGlobal}
use Rattle.syntax_trees.specs.declared.module.ElementSegment.{ElementSegment}
use Rattle.syntax_trees.specs.declared.module.DataSegment.{DataSegment}
use Rattle.syntax_trees.specs.declared.module.ModuleTree.{ModuleTree}
use Rattle.syntax_trees.specs.Locals.{local_types}
use Rattle.wasm_typing.specs.Context.{found_type}
use Rattle.wasm_typing.specs.Modules as modules
use Rattle.wasm_typing.specs.Modules.{Typed, FuncTyped, ConstTyped, const_type, constant_of, func_context, func_space, global_space, table_count, memory_count, type_of_func}
use Rattle.wasm_numbers.specs.Types.{IsWord, AreWords}
use Rattle.wasm_memory.specs.Bytes.{is_inside, put}
use Rattle.wasm_memory.specs.Memories.{MemoryState, most_pages, with_bytes}
use Rattle.wasm_memory.proofs.Putting.{length_put}
use Rattle.wasm_store.specs.Store.{Function, type_of, Table, Global, Instance, Store, found_at, func_at, table_at, memory_at}
use Rattle.wasm_store.specs.Stack.{Stack}
use Rattle.wasm_store.specs.Effects.{word_of, with_memory}
use Rattle.wasm_store.specs.Step.{start}
use Rattle.wasm_store.specs.Instantiation.{External, FuncAddress, TableAddress, MemoryAddress, GlobalAddress, func_address, table_address, memory_address, global_address, imported_globals, instance_of, const_value, init_value, global_value, new_func, new_table, new_memory, new_global, allocated, with_table, overwritten, into_table, into_memory, element_written, data_written, Instantiation, Makes, SegmentBounds, written_then, all_written, start_call, ImportMatches, ImportsMatch, InRange}
use Rattle.wasm_store.specs.Typed.{IsSame, IsLaterTable, IsLaterMemory, IsLaterGlobal, Extends, HasContext, OwnTyped, FunctionTyped, EntryTyped, TableTyped, MemoryTyped, GlobalTyped, StoreTyped, StackTyped, module_context}
use Rattle.wasm_store.specs.Laws.{IsThere, AddedTyped, AddsTyped}
use Rattle.wasm_store.proofs.Lists.{all_at, all_map, all_append, all_set, all_replicate, all_overwritten, get_within, found_there, keeps_same, keeps_append, keeps_set}
use Rattle.wasm_store.proofs.Zips.{zip_at, zip_append, zip_made, all_true, all_both, all_made, get_behind, StandsAt, numbered}
use Rattle.wasm_store.proofs.Words.{rest_below}
use Rattle.wasm_store.proofs.Stores.{same_later, table_later, memory_later, global_later, store_same, further, still, has_later, function_later, entry_later, entries_later, memory_changed}
use Rattle.wasm_store.proofs.Memories.{memory_rewritten, memory_made}
use Rattle.wasm_store.proofs.Moving.{starts_typed}

-- What index spaces have, and the addresses of it.

abbrev FuncThere : Store → ModuleTree → ℕ → ℕ → Type 0
FuncThere t m index address = (f : Function) × (slice_get t.funcs address ≡ Some f) × (slice_get m.types index ≡ Some (type_of f))

abbrev TableThere : Store → Limits → ℕ → Type 0
TableThere t limits address = (x : Table) × (slice_get t.tables address ≡ Some x)

abbrev MemoryThere : Store → Limits → ℕ → Type 0
MemoryThere t limits address = (x : MemoryState) × (slice_get t.memories address ≡ Some x)

abbrev GlobalThere : Store → GlobalType → ℕ → Type 0
GlobalThere t type address = (x : Global) × (slice_get t.globals address ≡ Some x) × (x.type ≡ type)

-- imported ones
funcs_in : (s : Store) (m : ModuleTree) (is : List Import) (es : List External) → AllZip (λ i e. ImportMatches s m.types i.desc e) is es → AllZip (FuncThere s m) (modules.imported_funcs is) (flat_map func_address es)
funcs_in s m [] [] h = tt
funcs_in s m [] (e ∷ es) h = absurd h
funcs_in s m (i ∷ is) [] h = absurd h
funcs_in s m (i ∷ is) (e ∷ es) h =
    zip_append (FuncThere s m) (modules.funcs_of i.desc) (func_address e) (modules.imported_funcs is) (flat_map func_address es) (one i.desc e h.0) (funcs_in s m is es h.1)
  where
    one : (d : ImportDesc) (e : External) → ImportMatches s m.types d e → AllZip (FuncThere s m) (modules.funcs_of d) (func_address e)
    one (import.Func index) (FuncAddress a) k = (k, tt)
    one (import.Table limits) (TableAddress a) k = tt
    one (import.Memory limits) (MemoryAddress a) k = tt
    one (import.Global type) (GlobalAddress a) k = tt
    one d e k = absurd k

tables_in : (s : Store) (types : List FuncType) (is : List Import) (es : List External) → AllZip (λ i e. ImportMatches s types i.desc e) is es → AllZip (TableThere s) (modules.imported_tables is) (flat_map table_address es)
tables_in s types [] [] h = tt
tables_in s types [] (e ∷ es) h = absurd h
tables_in s types (i ∷ is) [] h = absurd h
tables_in s types (i ∷ is) (e ∷ es) h =
    zip_append (TableThere s) (modules.tables_of i.desc) (table_address e) (modules.imported_tables is) (flat_map table_address es) (one i.desc e h.0) (tables_in s types is es h.1)
  where
    one : (d : ImportDesc) (e : External) → ImportMatches s types d e → AllZip (TableThere s) (modules.tables_of d) (table_address e)
    one (import.Func index) (FuncAddress a) k = tt
    one (import.Table limits) (TableAddress a) k = ((k.0, k.1), tt)
    one (import.Memory limits) (MemoryAddress a) k = tt
    one (import.Global type) (GlobalAddress a) k = tt
    one d e k = absurd k

memories_in : (s : Store) (types : List FuncType) (is : List Import) (es : List External) → AllZip (λ i e. ImportMatches s types i.desc e) is es → AllZip (MemoryThere s) (modules.imported_memories is) (flat_map memory_address es)
memories_in s types [] [] h = tt
memories_in s types [] (e ∷ es) h = absurd h
memories_in s types (i ∷ is) [] h = absurd h
memories_in s types (i ∷ is) (e ∷ es) h =
    zip_append (MemoryThere s) (modules.memories_of i.desc) (memory_address e) (modules.imported_memories is) (flat_map memory_address es) (one i.desc e h.0) (memories_in s types is es h.1)
  where
    one : (d : ImportDesc) (e : External) → ImportMatches s types d e → AllZip (MemoryThere s) (modules.memories_of d) (memory_address e)
    one (import.Func index) (FuncAddress a) k = tt
    one (import.Table limits) (TableAddress a) k = tt
    one (import.Memory limits) (MemoryAddress a) k = ((k.0, k.1), tt)
    one (import.Global type) (GlobalAddress a) k = tt
    one d e k = absurd k

globals_in : (s : Store) (types : List FuncType) (is : List Import) (es : List External) → AllZip (λ i e. ImportMatches s types i.desc e) is es → AllZip (GlobalThere s) (modules.imported_globals is) (imported_globals es)
globals_in s types [] [] h = tt
globals_in s types [] (e ∷ es) h = absurd h
globals_in s types (i ∷ is) [] h = absurd h
globals_in s types (i ∷ is) (e ∷ es) h =
    zip_append (GlobalThere s) (modules.globals_of i.desc) (global_address e) (modules.imported_globals is) (imported_globals es) (one i.desc e h.0) (globals_in s types is es h.1)
  where
    one : (d : ImportDesc) (e : External) → ImportMatches s types d e → AllZip (GlobalThere s) (modules.globals_of d) (global_address e)
    one (import.Func index) (FuncAddress a) k = tt
    one (import.Table limits) (TableAddress a) k = tt
    one (import.Memory limits) (MemoryAddress a) k = tt
    one (import.Global type) (GlobalAddress a) k = (k, tt)
    one d e k = absurd k

-- A store with a module's parts extends the one before.
pub allocates : (m : ModuleTree) (imports : List External) (s : Store) → Extends s (allocated m imports s)
allocates m imports s = record {
  funcs = keeps_append IsSame same_later s.funcs (map (new_func m (length s.instances)) m.funcs);
  tables = keeps_append IsLaterTable table_later s.tables (map new_table m.tables);
  memories = keeps_append IsLaterMemory memory_later s.memories (map new_memory m.memories);
  globals = keeps_append IsLaterGlobal global_later s.globals (map (new_global s (imported_globals imports)) m.globals);
  instances = keeps_append IsSame same_later s.instances (instance_of m imports s ∷ []);
}

-- all of an index space
funcs_all : (s : Store) (m : ModuleTree) (imports : List External) → Typed m → ImportsMatch s m imports → AllZip (FuncThere (allocated m imports s) m) (func_space m) (instance_of m imports s).funcs
funcs_all s m imports typed match =
    let t : Store = allocated m imports s in
    let x = allocates m imports s in
    zip_append (FuncThere t m) (modules.imported_funcs m.imports) (flat_map func_address imports) (map (λ (f : Func). f.type_index) m.funcs) (range_with_len (length s.funcs) (length m.funcs))
    (later (modules.imported_funcs m.imports) (flat_map func_address imports) (funcs_in s m m.imports imports match))
    (zip_made (FuncTyped m) (StandsAt (new_func m (length s.instances)) t.funcs) (FuncThere t m) (λ (f : Func). f.type_index) own m.funcs (range_with_len (length s.funcs) (length m.funcs)) typed.funcs
    (numbered (new_func m (length s.instances)) t.funcs s.funcs m.funcs refl))
  where
    later : (xs ys : List ℕ) → AllZip (FuncThere s m) xs ys → AllZip (FuncThere (allocated m imports s) m) xs ys
    later [] [] h = tt
    later [] (y ∷ ys) h = absurd h
    later (w ∷ xs) [] h = absurd h
    later (w ∷ xs) (y ∷ ys) h = ((h.0.0, still s.funcs (allocated m imports s).funcs y h.0.0 (allocates m imports s).funcs h.0.1, h.0.2), later xs ys h.1)

    own : (f : Func) (a : ℕ) → FuncTyped m f → StandsAt (new_func m (length s.instances)) (allocated m imports s).funcs f a → FuncThere (allocated m imports s) m f.type_index a
    own f a h k =
        let type : h.0 ≡ found_type (slice_get m.types f.type_index) = sym (ap found_type h.1) in
        (new_func m (length s.instances) f, k, h.1 ∙ ap Some type)

sizes : {X Y : Type 0} (R : X → Y → Type 0) (xs us : List X) (ys : List Y) (count index : ℕ) → AllZip R (xs ++ us) ys → count ≡ length xs + length us → index < count → (x : X) × ((y : Y) × (slice_get ys index ≡ Some y) × R x y)
sizes R xs us ys count index h e k =
    let long = length-append xs us in
    let x = get_within (xs ++ us) index (omega arith) in
    (x.0, zip_at R (xs ++ us) ys index x.0 h x.1)

tables_all : (s : Store) (m : ModuleTree) (imports : List External) → ImportsMatch s m imports → AllZip (TableThere (allocated m imports s)) (modules.imported_tables m.imports ++ m.tables) (instance_of m imports s).tables
tables_all s m imports match =
    zip_append (TableThere (allocated m imports s)) (modules.imported_tables m.imports) (flat_map table_address imports) m.tables (range_with_len (length s.tables) (length m.tables))
    (later (modules.imported_tables m.imports) (flat_map table_address imports) (tables_in s m.types m.imports imports match))
    (own m.tables (range_with_len (length s.tables) (length m.tables)) (numbered new_table (allocated m imports s).tables s.tables m.tables refl))
  where
    later : (xs : List Limits) (ys : List ℕ) → AllZip (TableThere s) xs ys → AllZip (TableThere (allocated m imports s)) xs ys
    later [] [] h = tt
    later [] (y ∷ ys) h = absurd h
    later (w ∷ xs) [] h = absurd h
    later (w ∷ xs) (y ∷ ys) h = (let k = (allocates m imports s).tables y h.0.0 h.0.1 in ((k.0, k.1), later xs ys h.1))

    own : (xs : List Limits) (ys : List ℕ) → AllZip (StandsAt new_table (allocated m imports s).tables) xs ys → AllZip (TableThere (allocated m imports s)) xs ys
    own [] [] h = tt
    own [] (y ∷ ys) h = absurd h
    own (w ∷ xs) [] h = absurd h
    own (w ∷ xs) (y ∷ ys) h = ((new_table w, h.0), own xs ys h.1)

memories_all : (s : Store) (m : ModuleTree) (imports : List External) → ImportsMatch s m imports → AllZip (MemoryThere (allocated m imports s)) (modules.imported_memories m.imports ++ m.memories) (instance_of m imports s).memories
memories_all s m imports match =
    zip_append (MemoryThere (allocated m imports s)) (modules.imported_memories m.imports) (flat_map memory_address imports) m.memories (range_with_len (length s.memories) (length m.memories))
    (later (modules.imported_memories m.imports) (flat_map memory_address imports) (memories_in s m.types m.imports imports match))
    (own m.memories (range_with_len (length s.memories) (length m.memories)) (numbered new_memory (allocated m imports s).memories s.memories m.memories refl))
  where
    later : (xs : List Limits) (ys : List ℕ) → AllZip (MemoryThere s) xs ys → AllZip (MemoryThere (allocated m imports s)) xs ys
    later [] [] h = tt
    later [] (y ∷ ys) h = absurd h
    later (w ∷ xs) [] h = absurd h
    later (w ∷ xs) (y ∷ ys) h = (let k = (allocates m imports s).memories y h.0.0 h.0.1 in ((k.0, k.1), later xs ys h.1))

    own : (xs : List Limits) (ys : List ℕ) → AllZip (StandsAt new_memory (allocated m imports s).memories) xs ys → AllZip (MemoryThere (allocated m imports s)) xs ys
    own [] [] h = tt
    own [] (y ∷ ys) h = absurd h
    own (w ∷ xs) [] h = absurd h
    own (w ∷ xs) (y ∷ ys) h = ((new_memory w, h.0), own xs ys h.1)

globals_all : (s : Store) (m : ModuleTree) (imports : List External) → ImportsMatch s m imports → AllZip (GlobalThere (allocated m imports s)) (global_space m) (instance_of m imports s).globals
globals_all s m imports match =
    zip_append (GlobalThere (allocated m imports s)) (modules.imported_globals m.imports) (imported_globals imports) (map (λ (g : ModuleGlobal). g.global_type) m.globals) (range_with_len (length s.globals) (length m.globals))
    (later (modules.imported_globals m.imports) (imported_globals imports) (globals_in s m.types m.imports imports match))
    (zip_made (λ (x : ModuleGlobal). Unit {0}) (StandsAt (new_global s (imported_globals imports)) (allocated m imports s).globals) (GlobalThere (allocated m imports s)) (λ (g : ModuleGlobal). g.global_type)
    (λ x a p k. (new_global s (imported_globals imports) x, k, refl)) m.globals (range_with_len (length s.globals) (length m.globals)) (all_true m.globals)
    (numbered (new_global s (imported_globals imports)) (allocated m imports s).globals s.globals m.globals refl))
  where
    later : (xs : List GlobalType) (ys : List ℕ) → AllZip (GlobalThere s) xs ys → AllZip (GlobalThere (allocated m imports s)) xs ys
    later [] [] h = tt
    later [] (y ∷ ys) h = absurd h
    later (w ∷ xs) [] h = absurd h
    later (w ∷ xs) (y ∷ ys) h = (let k = (allocates m imports s).globals y h.0.0 h.0.1 in ((k.0, k.1, k.2.0 ∙ h.0.2), later xs ys h.1))

-- what is found at an address that is there
pub found_is : {X : Type 0} (xs : List X) (o : Option ℕ) (a : ℕ) (x : X) → o ≡ Some a → slice_get xs a ≡ Some x → found_at xs o ≡ (let p : Option (ℕ × X) = Some (a, x) in p)
found_is {X} xs o a x e k = ap (found_at xs) e ∙ ap (λ (o : Option X). (let p : Option (ℕ × X) = option_map (λ x. (a, x)) o in p)) k

then_some : {A B : Type 0} (f : A → Option B) (o : Option A) (y : B) → option_and_then f o ≡ Some y → (x : A) × (o ≡ Some x) × (f x ≡ Some y)
then_some f None y h = cc
then_some f (Some x) y h = (x, refl, h)

-- The new instance has the context of each of its functions.
pub has_context : (s : Store) (m : ModuleTree) (imports : List External) (locals results : List ValType) → Typed m → ImportsMatch s m imports → HasContext (allocated m imports s) (instance_of m imports s) (record { types = m.types; funcs = func_space m; tables = table_count m; memories = memory_count m; globals = global_space m; locals = locals; results = results })
has_context s m imports locals results typed match = record {
  types = refl;
  funcs = λ index type e. (
      let n = then_some (λ (type : ℕ). slice_get m.types type) (slice_get (func_space m) index) type e in
      let z = zip_at (FuncThere (allocated m imports s) m) (func_space m) (instance_of m imports s).funcs index n.0 (funcs_all s m imports typed match) n.1 in
      let same : (let o : Option FuncType = Some (type_of z.2.0) in o) ≡ Some type = sym z.2.2 ∙ n.2 in
      let types : type_of z.2.0 ≡ type = cc in
      ((z.0, z.2.0), found_is (allocated m imports s).funcs (slice_get (instance_of m imports s).funcs index) z.0 z.2.0 z.1 z.2.1, types)
      );
  tables = λ index e. (
      let z = sizes (TableThere (allocated m imports s)) (modules.imported_tables m.imports) m.tables (instance_of m imports s).tables (table_count m) index (tables_all s m imports match) refl e in
      ((z.1.0, z.1.2.0), found_is (allocated m imports s).tables (slice_get (instance_of m imports s).tables index) z.1.0 z.1.2.0 z.1.1 z.1.2.1)
      );
  memories = λ index e. (
      let z = sizes (MemoryThere (allocated m imports s)) (modules.imported_memories m.imports) m.memories (instance_of m imports s).memories (memory_count m) index (memories_all s m imports match) refl e in
      ((z.1.0, z.1.2.0), found_is (allocated m imports s).memories (slice_get (instance_of m imports s).memories index) z.1.0 z.1.2.0 z.1.1 z.1.2.1)
      );
  globals = λ index type e. (
      let z = zip_at (GlobalThere (allocated m imports s)) (global_space m) (instance_of m imports s).globals index type (globals_all s m imports match) e in
      ((z.0, z.2.0), found_is (allocated m imports s).globals (slice_get (instance_of m imports s).globals index) z.0 z.2.0 z.1 z.2.1, z.2.2)
      );
}

-- A function of the module is typed in the new store.
new_func_typed : (s : Store) (m : ModuleTree) (imports : List External) → Typed m → ImportsMatch s m imports → (func : Func) → FuncTyped m func → FunctionTyped (allocated m imports s) (new_func m (length s.instances) func)
new_func_typed s m imports typed match func h =
    let type : h.0 ≡ found_type (slice_get m.types func.type_index) = sym (ap found_type h.1) in
    subst (λ (type : FuncType). OwnTyped (allocated m imports s) type (local_types type func.locals) (length s.instances) func.body) type
    (record {
      context = func_context m func h.0;
      owner = instance_of m imports s;
      there = get_behind s.instances (instance_of m imports s) [];
      has = has_context s m imports (local_types h.0 func.locals) h.0.results typed match;
      locals_are = refl;
      results_are = refl;
      typed = h.2;
    })

-- the value of a constant expression
some_same : {A : Type 0} (x y : A) → (let o : Option A = Some x in o) ≡ Some y → x ≡ y
some_same x y h = cc

constant_same : (t : GlobalType) (mutability : Mutability) (type : ValType) → constant_of t mutability ≡ Some type → t.val_type ≡ type
constant_same t Constant type h = some_same t.val_type type h
constant_same t Variable type h = cc

const_word : (s : Store) (types : List FuncType) (is : List Import) (es : List External) (type : ValType) (c : ConstInstr) → StoreTyped s → AllZip (λ i e. ImportMatches s types i.desc e) is es → const_type (modules.imported_globals is) c ≡ Some type → IsWord type (const_value s (imported_globals es) c)
const_word s types is es type (const.I32Const value) st h e = subst (λ (t : ValType). IsWord t (word_of w32 value)) (some_same I32 type e) (rest_below w32 _)
const_word s types is es type (const.I64Const value) st h e = subst (λ (t : ValType). IsWord t (word_of w64 value)) (some_same I64 type e) (rest_below w64 _)
const_word s types is es type (const.GlobalGet index) st h e =
    let n = then_some (λ (type : GlobalType). constant_of type type.mutability) (slice_get (modules.imported_globals is) index) type e in
    let z = zip_at (GlobalThere s) (modules.imported_globals is) (imported_globals es) index n.0 (globals_in s types is es h) n.1 in
    let same : z.2.0.type.val_type ≡ type = ap (λ (t : GlobalType). t.val_type) z.2.2 ∙ constant_same n.0 n.0.mutability type n.2 in
    let word : IsWord type z.2.0.value = subst (λ (t : ValType). IsWord t z.2.0.value) same (all_at GlobalTyped s.globals z.0 z.2.0 st.globals z.2.1) in
    subst (λ (o : Option (ℕ × Global)). IsWord type (global_value o)) (sym (found_is s.globals (slice_get (imported_globals es) index) z.0 z.2.0 z.1 z.2.1)) word

new_global_typed : (s : Store) (m : ModuleTree) (imports : List External) → StoreTyped s → ImportsMatch s m imports → (g : ModuleGlobal) → modules.GlobalTyped m g → GlobalTyped (new_global s (imported_globals imports) g)
new_global_typed s m imports st match g h =
    subst (λ (is : List ConstInstr). IsWord g.global_type.val_type (init_value s (imported_globals imports) is)) (sym h.1)
    (const_word s m.types m.imports imports g.global_type.val_type h.0 st match h.2)

new_table_typed : (t : Store) (limits : Limits) → Unit {0} → TableTyped t (new_table limits)
new_table_typed t limits h = all_replicate (EntryTyped t) limits.min None tt

-- A memory that begins with no more pages than any may have, and than it may have itself, begins with no more than that.
begins_within : (min : ℕ) (max : Option ℕ) → min ≤ most_pages None → IfSome max (λ max. (max ≤ modules.page_limit) × (min ≤ max)) → min ≤ most_pages max
begins_within min None few typed = few
begins_within min (Some max) few typed = let own = typed.1 in omega arith

new_memory_typed : (limits : Limits) → modules.MemoryTyped limits × (limits.min ≤ most_pages None) → MemoryTyped (new_memory limits)
new_memory_typed limits h = memory_made limits.min limits.max (begins_within limits.min limits.max h.1 h.0.1)

pub allocated_typed : (s : Store) (m : ModuleTree) (imports : List External) → StoreTyped s → Typed m → InRange m → ImportsMatch s m imports → StoreTyped (allocated m imports s)
allocated_typed s m imports st typed range match =
    let t : Store = allocated m imports s in
    let x = allocates m imports s in
    record {
      funcs = all_append (FunctionTyped t) s.funcs (map (new_func m (length s.instances)) m.funcs) (all_map (FunctionTyped s) (FunctionTyped t) (function_later s t x) s.funcs st.funcs)
          (all_made (FuncTyped m) (FunctionTyped t) (new_func m (length s.instances)) (new_func_typed s m imports typed match) m.funcs typed.funcs);
      tables = all_append (TableTyped t) s.tables (map new_table m.tables) (all_map (TableTyped s) (TableTyped t) (entries_later s t x) s.tables st.tables)
          (all_made (λ (l : Limits). Unit {0}) (TableTyped t) new_table (new_table_typed t) m.tables (all_true m.tables));
      memories = all_append MemoryTyped s.memories (map new_memory m.memories) st.memories (all_made (λ (l : Limits). modules.MemoryTyped l × (l.min ≤ most_pages None)) MemoryTyped new_memory new_memory_typed m.memories (all_both modules.MemoryTyped (λ (l : Limits). l.min ≤ most_pages None) m.memories typed.memories range));
      globals = all_append GlobalTyped s.globals (map (new_global s (imported_globals imports)) m.globals) st.globals
          (all_made (modules.GlobalTyped m) GlobalTyped (new_global s (imported_globals imports)) (new_global_typed s m imports st match) m.globals typed.globals);
    }

-- Segments.

table_changed : (s : Store) (a : ℕ) (x : Table) (entries : List (Option ℕ)) → StoreTyped s → slice_get s.tables a ≡ Some x → length entries ≡ length x.entries → AllByRecursion (EntryTyped s) entries → let t : Store = with_table a (record { entries = entries; max = x.max }) s in Extends s t × StoreTyped t
table_changed s a x entries st e long all =
    let new : Table = record { entries = entries; max = x.max } in
    let t : Store = with_table a new s in
    let later : Extends s t = record {
      funcs = keeps_same IsSame same_later s.funcs;
      tables = keeps_set IsLaterTable table_later s.tables a x new e (refl, long);
      memories = keeps_same IsLaterMemory memory_later s.memories;
      globals = keeps_same IsLaterGlobal global_later s.globals;
      instances = keeps_same IsSame same_later s.instances;
    } in
    let more : TableTyped t new = all_map (EntryTyped s) (EntryTyped t) (entry_later s t later) entries all in (
      later,
      record {
        funcs = all_map (FunctionTyped s) (FunctionTyped t) (function_later s t later) s.funcs st.funcs;
        tables = all_set (TableTyped t) s.tables a new (all_map (TableTyped s) (TableTyped t) (entries_later s t later) s.tables st.tables) more;
        memories = st.memories;
        globals = st.globals;
      },
    )

-- a store behind the one with the module's parts
abbrev pub Behind : Store → Store → Type 0
Behind t u = Extends t u × StoreTyped u

-- what holds of each store that segments leave holds at last
written_on : (R : Instantiation → Type 0) (o : Option Store) (u : Store) (more : Store → Instantiation) → R (SegmentBounds u) → ((v : Store) → o ≡ Some v → R (more v)) → R (written_then o u more)
written_on R None u more stop go = stop
written_on R (Some v) u more stop go = go v refl

written_all : {A : Type 0} (Inv : Store → Type 0) (R : Instantiation → Type 0) (Q : A → Type 0) (f : Store → A → Option Store) → ((u v : Store) (x : A) → Q x → Inv u → f u x ≡ Some v → Inv v) → ((u : Store) → Inv u → R (SegmentBounds u)) → (more : Store → Instantiation) → ((u : Store) → Inv u → R (more u)) → (xs : List A) → AllByRecursion Q xs → (u : Store) → Inv u → R (all_written f xs u more)
written_all Inv R Q f step stop more go [] q u h = go u h
written_all Inv R Q f step stop more go (x ∷ xs) q u h =
    written_on R (f u x) u (λ t. all_written f xs t more) (stop u h)
    (λ v e. written_all Inv R Q f step stop more go xs q.1 v (step u v x q.0 h e))

test_some : (b : Bool) (u v : Store) → (if b then Some u else None) ≡ Some v → (b ≡ true) × (u ≡ v)
test_some true u v h = (refl, some_same u v h)
test_some false u v h = cc

overwritten_long : (at : ℕ) (new old : List (Option ℕ)) → at + length new ≤ length old → length (overwritten at new old) ≡ length old
overwritten_long at new old h = simp (length-append, length-take, length-drop) (omega arith)

-- entries are written
pub into_table_typed : (u v : Store) (at : ℕ) (entries : List (Option ℕ)) (o : Option (ℕ × Table)) (index : Option ℕ) → StoreTyped u → o ≡ found_at u.tables index → AllByRecursion (EntryTyped u) entries → into_table at entries o u ≡ Some v → Behind u v
into_table_typed u v at entries None index st e all h = cc
into_table_typed u v at entries (Some p) index st e all h =
    let w = test_some (nat_le (at + length entries) (length p.1.entries)) (with_table p.0 (record { entries = overwritten at entries p.1.entries; max = p.1.max }) u) v h in
    let there = (found_there u.tables index p (sym e)).1 in
    let within = leb-true (at + length entries) (length p.1.entries) w.0 in
    let old = all_at (TableTyped u) u.tables p.0 p.1 st.tables there in
    subst (Behind u) w.1
    (table_changed u p.0 p.1 (overwritten at entries p.1.entries) st there (overwritten_long at entries p.1.entries within) (all_overwritten (EntryTyped u) at entries p.1.entries all old))

pub into_memory_typed : (u v : Store) (at : ℕ) (bytes : List ℕ) (o : Option (ℕ × MemoryState)) (index : Option ℕ) → StoreTyped u → o ≡ found_at u.memories index → into_memory at bytes o u ≡ Some v → Behind u v
into_memory_typed u v at bytes None index st e h = cc
into_memory_typed u v at bytes (Some p) index st e h =
    let w = test_some (is_inside at (length bytes) p.1.bytes) (with_memory p.0 (with_bytes p.1 (put at bytes p.1.bytes)) u) v h in
    let there = (found_there u.memories index p (sym e)).1 in
    let old = all_at MemoryTyped u.memories p.0 p.1 st.memories there in
    let new = memory_rewritten p.1 (put at bytes p.1.bytes) old (length_put at bytes p.1.bytes) in
    subst (Behind u) w.1 (memory_changed u p.0 p.1 (with_bytes p.1 (put at bytes p.1.bytes)) st there new.0 new.1)

-- the entries of a segment are functions of the store
pub entries_typed : (s : Store) (m : ModuleTree) (imports : List External) (u : Store) → Typed m → ImportsMatch s m imports → Extends (allocated m imports s) u → (indices : List ℕ) → AllByRecursion (λ index. index < length (func_space m)) indices → AllByRecursion (EntryTyped u) (map (λ index. slice_get (instance_of m imports s).funcs index) indices)
entries_typed s m imports u typed match x [] h = tt
entries_typed s m imports u typed match x (index ∷ indices) h =
    let n = get_within (func_space m) index h.0 in
    let z = zip_at (FuncThere (allocated m imports s) m) (func_space m) (instance_of m imports s).funcs index n.0 (funcs_all s m imports typed match) n.1 in
    let there : EntryTyped u (Some z.0) = (z.2.0, still (allocated m imports s).funcs u.funcs z.0 z.2.0 x.funcs z.2.1) in
    (subst (EntryTyped u) (sym z.1) there, entries_typed s m imports u typed match x indices h.1)

behind_further : (t u v : Store) → Behind t u → Behind u v → Behind t v
behind_further t u v h k = (further t u v h.0 k.0, k.1)

start_typed : (s : Store) (m : ModuleTree) (imports : List External) (u : Store) → Typed m → ImportsMatch s m imports → Behind (allocated m imports s) u → (k : Stack) → start_call m (instance_of m imports s) u ≡ Some k → StackTyped u [] k
start_typed s m imports u typed match h k e = by m.start refl typed.start
  where
    i : Instance
    i = instance_of m imports s

    by : (o : Option ℕ) → m.start ≡ o → IfSome o (modules.StartTyped m) → StackTyped u [] k
    by None q t = (
        let none : start_call m (instance_of m imports s) u ≡ None = ap (λ (o : Option ℕ). option_map (λ (p : ℕ × Function). start p.1 p.0 []) (option_and_then (λ index. func_at index (instance_of m imports s) u) o)) q in
        cc
        )
    by (Some index) q (type, type_is, params, results) =
        let n = then_some (λ (type : ℕ). slice_get m.types type) (slice_get (func_space m) index) type type_is in
        let z = zip_at (FuncThere (allocated m imports s) m) (func_space m) (instance_of m imports s).funcs index n.0 (funcs_all s m imports typed match) n.1 in
        let there = still (allocated m imports s).funcs u.funcs z.0 z.2.0 h.0.funcs z.2.1 in
        let same : type_of z.2.0 ≡ type = some_same (type_of z.2.0) type (sym z.2.2 ∙ n.2) in
        let found = found_is u.funcs (slice_get (instance_of m imports s).funcs index) z.0 z.2.0 z.1 there in
        let call : start_call m (instance_of m imports s) u ≡ Some (start z.2.0 z.0 []) =
        ap (λ (o : Option ℕ). option_map (λ (p : ℕ × Function). start p.1 p.0 []) (option_and_then (λ index. func_at index (instance_of m imports s) u) o)) q
        ∙ ap (λ (o : Option (ℕ × Function)). option_map (λ (p : ℕ × Function). start p.1 p.0 []) o) found in
        let is : start z.2.0 z.0 [] ≡ k = some_same (start z.2.0 z.0 []) k (sym call ∙ e) in
        let none : AreWords (type_of z.2.0).params [] = subst (λ (ts : List ValType). AreWords ts []) (sym (ap (λ (t : FuncType). t.params) same ∙ params)) tt in
        let typed_call = starts_typed u z.0 z.2.0 [] h.1 there none in
        subst (StackTyped u []) is (subst (λ (ts : List ValType). StackTyped u ts (start z.2.0 z.0 [])) (ap (λ (t : FuncType). t.results) same ∙ results) typed_call)

pub adds_typed : AddsTyped
adds_typed s m imports st typed range match =
    let t : Store = allocated m imports s in
    let i : Instance = instance_of m imports s in
    let x = allocates m imports s in
    let begin : Behind t t = (store_same t, allocated_typed s m imports st typed range match) in
    let there : (u : Store) → Behind t u → IsThere s m imports u =
    λ u h. (still t.instances u.instances (length s.instances) i h.0.instances (get_behind s.instances i []), has_later t u i (module_context m) h.0 (has_context s m imports [] [] typed match)) in
    let stop : (u : Store) → Behind t u → AddedTyped s m imports (SegmentBounds u) = λ u h. (further s t u x h.0, h.1, there u h) in
    let done : (u : Store) → Behind t u → AddedTyped s m imports (Makes u) = λ u h. (further s t u x h.0, h.1, there u h, start_typed s m imports u typed match h) in
    let data_step : (u v : Store) (d : DataSegment) → Unit {0} → Behind t u → data_written i u d ≡ Some v → Behind t v =
    λ u v d any h e. behind_further t u v h (into_memory_typed u v (init_value u i.globals d.offset) d.bytes (memory_at d.memory i u) (slice_get i.memories d.memory) h.1 refl e) in
    let element_step : (u v : Store) (d : ElementSegment) → modules.ElementTyped m d → Behind t u → element_written i u d ≡ Some v → Behind t v =
    λ u v d own h e. behind_further t u v h (into_table_typed u v (init_value u i.globals d.offset) (map (λ index. slice_get i.funcs index) d.funcs) (table_at d.table i u) (slice_get i.tables d.table) h.1 refl
    (entries_typed s m imports u typed match h.0 d.funcs own.2) e) in
    written_all (Behind t) (AddedTyped s m imports) (modules.ElementTyped m) (element_written i) element_step stop (λ u. all_written (data_written i) m.data_segments u Makes)
    (λ u h. written_all (Behind t) (AddedTyped s m imports) (λ (d : DataSegment). Unit {0}) (data_written i) data_step stop Makes done m.data_segments (all_true m.data_segments) u h) m.element_segments typed.element_segments t begin
