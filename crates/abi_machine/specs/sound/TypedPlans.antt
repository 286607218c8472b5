-- What is passed has its type (Component Model, CanonicalABI.md, "Loading", "Flat Lifting", "Storing", "Flat Lowering", "Flattening"): what is lifted
-- from bytes is of its type, and a plan that lowers a value of a type gives words of the core types which that type becomes.
use Rattle.std.specs.Prelude.{◌≡◌, ◌≤◌, ◌+◌, ◌*◌, ℕ, Bool, if◌then◌else◌, List, [], map, length, Option, Some, None, Ok, Err}
use Rattle.std.specs.List.{AllByRecursion}
use Rattle.syntax_trees.specs.declared.types.ValType.{ValType}
use Rattle.syntax_trees.specs.declared.types.FuncType.{FuncType}
use Rattle.syntax_trees.specs.declared.value.Value.{Value}
use Rattle.syntax_trees.specs.Flat.{flat, returned}
use Rattle.laid_types.specs.Layout.{laid}
use Rattle.syntax_trees.specs.declared.module_types.ValType as core
use Rattle.wasm_numbers.specs.Types.{AreWords}
use Rattle.handle_table.specs.History.{Event, IsHistory}
use Rattle.comp_graph.specs.declared.graph.Options.{Options}
use Rattle.comp_graph.specs.Needs.{core_val, lift_type}
use Rattle.script_reader.specs.Script.{AreOfTypes}
use Rattle.trace_labels.specs.declared.typed.TypedValue.{TypedValue}
use Rattle.lowering_laws.specs.StoreBytes.{HasBytesAlone}
use Rattle.lowering_laws.specs.Values.{AreBytes, AllInRange}
use Rattle.abi_machine.specs.LoweringOver.{Plan}
use Rattle.abi_machine.specs.World.{Entry, World}
use Rattle.abi_machine.specs.Lifting.{Came}
use Rattle.abi_machine.specs.Passing.{params_type, arguments_lifted, elements_lifted, arguments_plan, result_plan, elements_plan}
use Rattle.abi_machine.specs.Pausing.{entries_by, settle}
use Rattle.abi_machine.specs.Returning.{result_passed}
use Rattle.abi_machine.specs.sound.Planned.{IsPlanned, EventHasRep, HaveReps, IsSettled}
use Rattle.abi_machine.specs.sound.Values.{IsOf, AllAre, EachIs}

-- what comes has a property, and behind it representations are below 2^32 still
abbrev pub ComesWith : {A : Type 0} → (A → Type 0) → Came A → Type 0
ComesWith P (Ok x) = P x.0 × HaveReps x.1.world.insts
ComesWith P (Err stop) = Unit {0}

-- a result of a type, where the function has one
abbrev pub IsResultOf : Option ValType → Option TypedValue → Type 0
IsResultOf None None = Unit {0}
IsResultOf (Some type) (Some r) = (r.val_type ≡ type) × IsOf type r.value
IsResultOf None (Some r) = ⊥
IsResultOf (Some type) None = ⊥

-- Arguments, a result and elements are lifted.
abbrev pub ArgumentsAreTyped : Type 0
ArgumentsAreTyped =
    (i callee : ℕ) (is_async : Bool) (f : FuncType) (bytes words : List ℕ) (w : World) → AreBytes bytes → HaveReps w.insts
    → ComesWith (IsOf (params_type f)) (arguments_lifted i callee is_async f bytes words w)

abbrev pub ResultIsTyped : Type 0
ResultIsTyped =
    (i t limit : ℕ) (type : Option ValType) (options : Options) (words : List ℕ) (w : World) → HasBytesAlone w.store → HaveReps w.insts
    → ComesWith (IsResultOf type) (result_passed i t limit type options words w)

abbrev pub ElementsAreTyped : Type 0
ElementsAreTyped =
    (i t : ℕ) (type : ValType) (bytes : List ℕ) (place count : ℕ) (w : World) → AreBytes bytes → HaveReps w.insts → ComesWith (AllAre type) (elements_lifted i t type bytes place count w)

-- The values of a script that fit types and are in their ranges are of these types.
abbrev pub ScriptValuesAreTyped : Type 0
ScriptValuesAreTyped = (types : List ValType) (all : List Value) → AreOfTypes types all → AllInRange all → EachIs types all

-- They are lowered; elements into a memory in which there is room for them.
abbrev pub ArgumentsAreTaken : Type 0
ArgumentsAreTaken =
    (options : Options) (f : FuncType) (is_own : ℕ → Bool) (v : Value) (n : ℕ) → IsOf (params_type f) v → IsPlanned (AreWords (lift_type options f).params) n (arguments_plan (entries_by is_own) f v)

abbrev pub ResultIsTaken : Type 0
ResultIsTaken =
    (is_own : ℕ → Bool) (is_async : Bool) (type : ValType) (v : Value) (words : List ℕ) (n : ℕ) → IsOf type v
    → IsPlanned (AreWords (map core_val (if is_async then [] else returned (flat type)))) n (result_plan (entries_by is_own) is_async type v words)

abbrev pub ElementsAreTaken : Type 0
ElementsAreTaken =
    (is_own : ℕ → Bool) (type : ValType) (all : List Value) (place n : ℕ) → AllAre type all → place + length all * (laid type).size ≤ n
    → IsPlanned (AreWords []) n (elements_plan (entries_by is_own) type all place)

-- So far as it goes at once such a plan keeps a memory and a table so.
abbrev pub PlansSettle : Type 0
PlansSettle =
    (types : List core.ValType) (t : ℕ) (plan : Plan) (bytes : List ℕ) (table : List (Event Entry)) → IsPlanned (AreWords types) (length bytes) plan → AreBytes bytes
    → AllByRecursion EventHasRep table → IsHistory table → IsSettled (AreWords types) bytes (settle t plan bytes table)
