-- Instantiation (Core 2.0, sections 4.5.3 and 4.5.4): a module's functions, tables, memories and globals are added to a
-- store, and then its segments are written, those of functions before those of bytes.
use Rattle.std.specs.Prelude.{◌≡◌, ◌≤◌, ◌+◌, ℕ, nat_le, if◌then◌else◌, List, [], ◌∷◌, ◌++◌, map, length, take, drop, replicate, set, Option, Some, None}
use Rattle.std.specs.List.{slice_get, flat_map, range_with_len, AllByRecursion, AllZip}
use Rattle.std.specs.Option.{option_and_then, option_map, IfSome, IsSomeAnd}
use Rattle.std.specs.Int.{w32, w64}
use Rattle.syntax_trees.specs.declared.module_types.FuncType.{FuncType}
use Rattle.syntax_trees.specs.declared.module_types.Limits.{Limits}
use Rattle.syntax_trees.specs.declared.instr.ConstInstr.{ConstInstr}
use Rattle.syntax_trees.specs.declared.instr.ConstInstr.TheVariants as const
use Rattle.syntax_trees.specs.declared.module.ImportDesc.{ImportDesc}
use Rattle.syntax_trees.specs.declared.module.ImportDesc.TheVariants as import
use Rattle.syntax_trees.specs.declared.module.Func.{Func}
use Rattle.syntax_trees.specs.declared.module.Global.{Global as ModuleGlobal}
use Rattle.syntax_trees.specs.declared.module.ElementSegment.{ElementSegment}
use Rattle.syntax_trees.specs.declared.module.DataSegment.{DataSegment}
use Rattle.syntax_trees.specs.declared.module.ModuleTree.{ModuleTree}
use Rattle.wasm_typing.specs.Context.{found_type}
use Rattle.wasm_memory.specs.Bytes.{is_inside, put}
use Rattle.wasm_memory.specs.Memories.{MemoryState, most_pages, page_count, made, with_bytes}
use Rattle.wasm_store.specs.Store.{Function, Own, Host, type_of, Table, Global, Instance, Store, func_at, table_at, memory_at, found_at}
use Rattle.wasm_store.specs.Stack.{Stack}
use Rattle.wasm_store.specs.Effects.{word_of, with_memory}
use Rattle.wasm_store.specs.Step.{start}

-- what an import brings: the address of something in the store (section 4.2.13)
pub data External : Type 0 where
  FuncAddress : ℕ → External
  TableAddress : ℕ → External
  MemoryAddress : ℕ → External
  GlobalAddress : ℕ → External

abbrev pub func_address : External → List ℕ
func_address (FuncAddress address) = address ∷ []
func_address other = []

abbrev pub table_address : External → List ℕ
table_address (TableAddress address) = address ∷ []
table_address other = []

abbrev pub memory_address : External → List ℕ
memory_address (MemoryAddress address) = address ∷ []
memory_address other = []

abbrev pub global_address : External → List ℕ
global_address (GlobalAddress address) = address ∷ []
global_address other = []

abbrev pub imported_globals : List External → List ℕ
imported_globals imports = flat_map global_address imports

-- The instance of a module in a store. What the module has of its own gets the next addresses.
abbrev pub instance_of : ModuleTree → List External → Store → Instance
instance_of m imports s = record {
  types = m.types;
  funcs = flat_map func_address imports ++ range_with_len (length s.funcs) (length m.funcs);
  tables = flat_map table_address imports ++ range_with_len (length s.tables) (length m.tables);
  memories = flat_map memory_address imports ++ range_with_len (length s.memories) (length m.memories);
  globals = imported_globals imports ++ range_with_len (length s.globals) (length m.globals);
}

-- the value of a constant instruction, over imported globals
abbrev pub global_value : Option (ℕ × Global) → ℕ
global_value None = 0
global_value (Some g) = g.1.value

abbrev pub const_value : Store → List ℕ → ConstInstr → ℕ
const_value s globals (const.I32Const value) = word_of w32 value
const_value s globals (const.I64Const value) = word_of w64 value
const_value s globals (const.GlobalGet index) = global_value (found_at s.globals (slice_get globals index))

-- that of a constant expression, which has one instruction where it is typed
abbrev pub init_value : Store → List ℕ → List ConstInstr → ℕ
init_value s globals [] = 0
init_value s globals (i ∷ others) = const_value s globals i

abbrev pub new_func : ModuleTree → ℕ → Func → Function
new_func m instance func = Own (found_type (slice_get m.types func.type_index)) instance func.locals func.body

abbrev pub new_table : Limits → Table
new_table limits = record { entries = replicate limits.min None; max = limits.max }

abbrev pub new_memory : Limits → MemoryState
new_memory limits = made limits.min limits.max

abbrev pub new_global : Store → List ℕ → ModuleGlobal → Global
new_global s globals global = record { type = global.global_type; value = init_value s globals global.init }

-- a store with nothing, and a store with a further function of the host
abbrev pub empty : Store
empty = record { funcs = []; tables = []; memories = []; globals = []; instances = [] }

abbrev pub with_host : FuncType → Store → Store
with_host type s = record s { funcs = s.funcs ++ Host type ∷ [] }

-- the store with a module's parts
abbrev pub allocated : ModuleTree → List External → Store → Store
allocated m imports s = record {
  funcs = s.funcs ++ map (new_func m (length s.instances)) m.funcs;
  tables = s.tables ++ map new_table m.tables;
  memories = s.memories ++ map new_memory m.memories;
  globals = s.globals ++ map (new_global s (imported_globals imports)) m.globals;
  instances = s.instances ++ instance_of m imports s ∷ [];
}

abbrev pub with_table : ℕ → Table → Store → Store
with_table address t s = record s { tables = set s.tables address t }

-- entries in the place of those from a place on
abbrev pub overwritten : ℕ → List (Option ℕ) → List (Option ℕ) → List (Option ℕ)
overwritten at new old = take at old ++ new ++ drop (at + length new) old

-- Entries are written into a table, and bytes into a memory, where they fit.
abbrev pub into_table : ℕ → List (Option ℕ) → Option (ℕ × Table) → Store → Option Store
into_table at entries None s = None
into_table at entries (Some t) s =
    if nat_le (at + length entries) (length t.1.entries) then Some (with_table t.0 (record { entries = overwritten at entries t.1.entries; max = t.1.max }) s) else None

abbrev pub into_memory : ℕ → List ℕ → Option (ℕ × MemoryState) → Store → Option Store
into_memory at bytes None s = None
into_memory at bytes (Some m) s =
    if is_inside at (length bytes) m.1.bytes then Some (with_memory m.0 (with_bytes m.1 (put at bytes m.1.bytes)) s) else None

abbrev pub element_written : Instance → Store → ElementSegment → Option Store
element_written i s segment =
    into_table (init_value s i.globals segment.offset) (map (λ index. slice_get i.funcs index) segment.funcs) (table_at segment.table i s) s

abbrev pub data_written : Instance → Store → DataSegment → Option Store
data_written i s segment = into_memory (init_value s i.globals segment.offset) segment.bytes (memory_at segment.memory i s) s

pub data Instantiation : Type 0 where
  -- all segments are written
  Makes : Store → Instantiation
  -- The first segment that doesn't fit is not written. What stands before it stays.
  SegmentBounds : Store → Instantiation

-- what is written, and then more, if it fits
abbrev pub written_then : Option Store → Store → (Store → Instantiation) → Instantiation
written_then None s more = SegmentBounds s
written_then (Some t) s more = more t

abbrev pub all_written : {A : Type 0} → (Store → A → Option Store) → List A → Store → (Store → Instantiation) → Instantiation
all_written f [] s more = more s
all_written f (x ∷ xs) s more = written_then (f s x) s (λ t. all_written f xs t more)

abbrev pub instantiated : ModuleTree → List External → Store → Instantiation
instantiated m imports s =
    let i = instance_of m imports s in
    all_written (element_written i) m.element_segments (allocated m imports s) (λ t. all_written (data_written i) m.data_segments t Makes)

-- The function of a module that runs first is called once all is written (section 4.5.4).
abbrev pub start_call : ModuleTree → Instance → Store → Option Stack
start_call m i s = option_map (λ (p : ℕ × Function). start p.1 p.0 []) (option_and_then (λ index. func_at index i s) m.start)

-- What an import brings is of the type that is asked for (section 3.2.8).
abbrev pub LimitsMatch : ℕ → Option ℕ → Limits → Type 0
LimitsMatch size max limits = (limits.min ≤ size) × IfSome limits.max (λ wanted. IsSomeAnd max (λ most. most ≤ wanted))

abbrev pub ImportMatches : Store → List FuncType → ImportDesc → External → Type 0
ImportMatches s types (import.Func index) (FuncAddress a) = (f : Function) × (slice_get s.funcs a ≡ Some f) × (slice_get types index ≡ Some (type_of f))
ImportMatches s types (import.Table limits) (TableAddress a) = (t : Table) × (slice_get s.tables a ≡ Some t) × LimitsMatch (length t.entries) t.max limits
ImportMatches s types (import.Memory limits) (MemoryAddress a) = (m : MemoryState) × (slice_get s.memories a ≡ Some m) × LimitsMatch (page_count m) m.maximum limits
ImportMatches s types (import.Global type) (GlobalAddress a) = (g : Global) × (slice_get s.globals a ≡ Some g) × (g.type ≡ type)
ImportMatches s types desc other = ⊥

abbrev pub ImportsMatch : Store → ModuleTree → List External → Type 0
ImportsMatch s m imports = AllZip (λ i e. ImportMatches s m.types i.desc e) m.imports imports

-- No memory of a module begins with more pages than any may have.
abbrev pub InRange : ModuleTree → Type 0
InRange m = AllByRecursion (λ l. l.min ≤ most_pages None) m.memories
