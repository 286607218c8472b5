-- The parts of a module, and functions of the host, behind those of a store.
use Rattle.std.proofs.Common.{◌≡◌, List, ◌∷◌, [], ◌++◌, map, refl, sym, subst}
use Rattle.std.proofs.lemmas.List.{map-append}
use Rattle.syntax_trees.specs.declared.module_types.FuncType.{FuncType}
use Rattle.syntax_trees.specs.declared.module.ModuleTree.{ModuleTree}
use Rattle.wasm_typing.specs.Modules.{Typed}
use Rattle.wasm_memory.specs.Memories.{MemoryState}
use Rattle.wasm_store.specs.Store.{Store, Function}
use Rattle.wasm_store.specs.Instantiation.{External as Address, InRange, ImportsMatch, allocated}
use Rattle.wasm_store.specs.Typed.{StoreTyped}
use Rattle.wasm_store.proofs.AddedModules.{allocated_typed}
use Rattle.wasm_store.proofs.Changing.{hosts_typed}
use Rattle.wasm_store.specs.declared.function.FunctionInstance.{FunctionInstance}
use Rattle.wasm_store.specs.declared.function.FunctionInstance.TheVariants as function
use Rattle.wasm_code.specs.declared.instance.TableInstance.{TableInstance}
use Rattle.wasm_code.specs.declared.instance.GlobalInstance.{GlobalInstance}
use Rattle.wasm_code.specs.declared.instance.ModuleInstance.{ModuleInstance}
use Rattle.wasm_store.specs.declared.parts.Parts.{Parts}
use Rattle.wasm_store.specs.Views.{function_of, table_of, global_of, instance_of}
use Rattle.wasm_store.specs.Parts.{ArePartsOf}

-- the store that these are seen as
abbrev pub seen : List FunctionInstance → List TableInstance → List MemoryState → List GlobalInstance → List ModuleInstance → Store
seen fs ts ms gs is = record { funcs = map function_of fs; tables = map table_of ts; memories = ms; globals = map global_of gs; instances = map instance_of is }

pub host_joined : (fs : List FunctionInstance) (ts : List TableInstance) (ms : List MemoryState) (gs : List GlobalInstance) (is : List ModuleInstance) (type : FuncType) → StoreTyped (seen fs ts ms gs is) → StoreTyped (seen (fs ++ function.Host type ∷ []) ts ms gs is)
host_joined fs ts ms gs is type h =
    let s : Store = seen fs ts ms gs is in
    subst (λ (funcs : List Function). StoreTyped (record s { funcs = funcs })) (sym (map-append function_of fs (function.Host type ∷ []))) (hosts_typed s type h).1

pub joined : (m : ModuleTree) (imports : List Address) (fs : List FunctionInstance) (ts : List TableInstance) (ms : List MemoryState) (gs : List GlobalInstance) (is : List ModuleInstance) (p : Parts) → ArePartsOf m imports (seen fs ts ms gs is) p → seen (fs ++ p.functions.items) (ts ++ p.tables.items) (ms ++ p.memories.items) (gs ++ p.globals.items) (is ++ p.instances.items) ≡ allocated m imports (seen fs ts ms gs is)
joined m imports fs ts ms gs is p h =
    rw (map-append function_of fs p.functions.items, h.functions, map-append table_of ts p.tables.items, h.tables, h.memories, map-append global_of gs p.globals.items, h.globals, map-append instance_of is p.instances.items, h.instances)
    (refl {a = allocated m imports (seen fs ts ms gs is)})

pub joined_typed : (m : ModuleTree) (imports : List Address) (fs : List FunctionInstance) (ts : List TableInstance) (ms : List MemoryState) (gs : List GlobalInstance) (is : List ModuleInstance) (p : Parts) → StoreTyped (seen fs ts ms gs is) → Typed m → InRange m → ImportsMatch (seen fs ts ms gs is) m imports → ArePartsOf m imports (seen fs ts ms gs is) p → StoreTyped (seen (fs ++ p.functions.items) (ts ++ p.tables.items) (ms ++ p.memories.items) (gs ++ p.globals.items) (is ++ p.instances.items))
joined_typed m imports fs ts ms gs is p st typed range match h =
    subst StoreTyped (sym (joined m imports fs ts ms gs is p h)) (allocated_typed (seen fs ts ms gs is) m imports st typed range match)
