-- What the parts of a store are seen as (Core 2.0, section 4.2): the functions, tables, globals and instances of specs/Store.
use Rattle.std.specs.Prelude.{ℕ, List, [], ◌∷◌, Option, Some, None}
use Rattle.std.specs.List.{slice_get}
use Rattle.wasm_typing.specs.Context.{found_type}
use Rattle.syntax_trees.specs.declared.module_types.FuncType.{FuncType}
use Rattle.syntax_trees.specs.declared.module.Func.{Func}
use Rattle.wasm_store.specs.Store.{Function, Own, Host, Table, Global, Instance}
use Rattle.wasm_store.specs.Instantiation.{External as Address, FuncAddress, TableAddress, MemoryAddress, GlobalAddress, func_address, table_address, memory_address, global_address}
use Rattle.wasm_store.specs.declared.function.FunctionInstance.{FunctionInstance}
use Rattle.wasm_store.specs.declared.function.FunctionInstance.TheVariants as function
use Rattle.wasm_code.specs.declared.instance.TableInstance.{TableInstance}
use Rattle.wasm_code.specs.declared.instance.GlobalInstance.{GlobalInstance}
use Rattle.wasm_code.specs.declared.instance.ModuleInstance.{ModuleInstance}
use Rattle.wasm_code.specs.declared.instance.External.{External}
use Rattle.wasm_code.specs.declared.instance.External.TheVariants as external
use Rattle.wasm_code.specs.declared.instance.Sort.{Sort}
use Rattle.wasm_code.specs.declared.instance.Sort.TheVariants as sort

abbrev pub function_of : FunctionInstance → Function
function_of (function.Own f) = Own (found_type (slice_get f.types.value f.type_index)) f.instance f.locals f.code.value
function_of (function.Host type) = Host type

abbrev pub table_of : TableInstance → Table
table_of t = record { entries = t.entries.items; max = t.max }

abbrev pub global_of : GlobalInstance → Global
global_of g = record { type = g.global_type; value = g.value }

abbrev pub instance_of : ModuleInstance → Instance
instance_of i = record { types = i.types.value; funcs = i.funcs; tables = i.tables; memories = i.memories; globals = i.globals }

-- what an import brings
abbrev pub address_of : External → Address
address_of (external.Func address) = FuncAddress address
address_of (external.Table address) = TableAddress address
address_of (external.Memory address) = MemoryAddress address
address_of (external.Global address) = GlobalAddress address

-- what is there, as a list
abbrev pub listed : Option ℕ → List ℕ
listed None = []
listed (Some address) = address ∷ []

-- the addresses of a sort
abbrev pub addresses_in : Sort → Address → List ℕ
addresses_in sort.Func a = func_address a
addresses_in sort.Table a = table_address a
addresses_in sort.Memory a = memory_address a
addresses_in sort.Global a = global_address a

-- a function of a module of these types, in an instance
abbrev pub own_function : List FuncType → ℕ → Func → Function
own_function types instance func = Own (found_type (slice_get types func.type_index)) instance func.locals func.body
