-- Codes of stores and stacks, by which what a program keeps can be seen as one.
use Rattle.std.specs.Prelude.{◌≡◌, ◌⊎◌, ℕ, List, Option}
use Rattle.std.specs.Coded.{Coded, code_by, coded_ℕ, coded_list, coded_option, coded×, coded⊎}
use mathlib.Core.Path.{refl}
use mathlib.Core.Logic.{inl, inr}
use Rattle.syntax_trees.specs.contracts.module_types.FuncType as func_type
use Rattle.syntax_trees.specs.contracts.module_types.GlobalType as global_type
use Rattle.syntax_trees.specs.contracts.module_types.Locals as locals
use Rattle.syntax_trees.specs.declared.module_types.FuncType.{FuncType}
use Rattle.syntax_trees.specs.declared.module_types.GlobalType.{GlobalType}
use Rattle.syntax_trees.specs.declared.module_types.Locals.{Locals}
use Rattle.syntax_trees.specs.Expr.{Expr, expr_code}
use Rattle.wasm_memory.specs.contracts.memory.LinearMemory as memory
use Rattle.wasm_memory.specs.Memories.{MemoryState}
use Rattle.wasm_store.specs.Store.{Function, Own, Host, Table, Global, Instance, Store}
use Rattle.wasm_store.specs.Stack.{Label, Frame, Stack, Running, AtHost, Given}

abbrev numbers : Coded (List ℕ)
numbers = coded_list coded_ℕ

abbrev FunctionParts : Type 0
FunctionParts = FuncType × (ℕ × (List Locals × Expr)) ⊎ FuncType

abbrev function_parts : Function → FunctionParts
function_parts (Own type instance locals body) = inl (type, (instance, (locals, body)))
function_parts (Host type) = inr type

abbrev function_of : FunctionParts → Function
function_of (inl p) = Own p.0 p.1.0 p.1.1.0 p.1.1.1
function_of (inr type) = Host type

pub function_back : (f : Function) → function_of (function_parts f) ≡ f
function_back (Own type instance locals body) = refl
function_back (Host type) = refl

abbrev pub function_code : Coded Function
function_code =
    code_by FunctionParts (coded⊎ (coded× func_type.the_row.coded (coded× coded_ℕ (coded× (coded_list locals.the_row.coded) expr_code))) func_type.the_row.coded)
    function_parts function_of function_back

abbrev pub table_code : Coded Table
table_code =
    code_by (List (Option ℕ) × Option ℕ) (coded× (coded_list (coded_option coded_ℕ)) (coded_option coded_ℕ)) (λ t. (t.entries, t.max))
    (λ p. record { entries = p.0; max = p.1 }) (λ _. refl)

abbrev pub memory_code : Coded MemoryState
memory_code = memory.the_row.coded

abbrev pub global_code : Coded Global
global_code = code_by (GlobalType × ℕ) (coded× global_type.the_row.coded coded_ℕ) (λ g. (g.type, g.value)) (λ p. record { type = p.0; value = p.1 }) (λ _. refl)

abbrev pub instance_code : Coded Instance
instance_code =
    code_by (List FuncType × (List ℕ × (List ℕ × (List ℕ × List ℕ))))
    (coded× (coded_list func_type.the_row.coded) (coded× numbers (coded× numbers (coded× numbers numbers))))
    (λ i. (i.types, (i.funcs, (i.tables, (i.memories, i.globals)))))
    (λ p. record { types = p.0; funcs = p.1.0; tables = p.1.1.0; memories = p.1.1.1.0; globals = p.1.1.1.1 }) (λ _. refl)

abbrev pub store_code : Coded Store
store_code =
    code_by (List Function × (List Table × (List MemoryState × (List Global × List Instance))))
    (coded× (coded_list function_code) (coded× (coded_list table_code) (coded× (coded_list memory_code) (coded× (coded_list global_code) (coded_list instance_code)))))
    (λ s. (s.funcs, (s.tables, (s.memories, (s.globals, s.instances)))))
    (λ p. record { funcs = p.0; tables = p.1.0; memories = p.1.1.0; globals = p.1.1.1.0; instances = p.1.1.1.1 }) (λ _. refl)

abbrev pub label_code : Coded Label
label_code =
    code_by (ℕ × (List ℕ × (Option Expr × Expr))) (coded× coded_ℕ (coded× numbers (coded× (coded_option expr_code) expr_code)))
    (λ l. (l.arity, (l.under, (l.again, l.after)))) (λ p. record { arity = p.0; under = p.1.0; again = p.1.1.0; after = p.1.1.1 }) (λ _. refl)

abbrev pub frame_code : Coded Frame
frame_code =
    code_by (ℕ × (ℕ × (List ℕ × (List ℕ × (Expr × List Label)))))
    (coded× coded_ℕ (coded× coded_ℕ (coded× numbers (coded× numbers (coded× expr_code (coded_list label_code))))))
    (λ f. (f.instance, (f.results, (f.locals, (f.values, (f.rest, f.labels))))))
    (λ p. record { instance = p.0; results = p.1.0; locals = p.1.1.0; values = p.1.1.1.0; rest = p.1.1.1.1.0; labels = p.1.1.1.1.1 }) (λ _. refl)

abbrev StackParts : Type 0
StackParts = Frame × List Frame ⊎ (ℕ × List ℕ ⊎ List ℕ)

abbrev stack_parts : Stack → StackParts
stack_parts (Running f fs) = inl (f, fs)
stack_parts (AtHost address words) = inr (inl (address, words))
stack_parts (Given words) = inr (inr words)

abbrev stack_of : StackParts → Stack
stack_of (inl p) = Running p.0 p.1
stack_of (inr (inl p)) = AtHost p.0 p.1
stack_of (inr (inr words)) = Given words

pub stack_back : (k : Stack) → stack_of (stack_parts k) ≡ k
stack_back (Running f fs) = refl
stack_back (AtHost address words) = refl
stack_back (Given words) = refl

abbrev pub stack_code : Coded Stack
stack_code =
    code_by StackParts (coded⊎ (coded× frame_code (coded_list frame_code)) (coded⊎ (coded× coded_ℕ numbers) numbers)) stack_parts stack_of stack_back
