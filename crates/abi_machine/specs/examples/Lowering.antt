-- Calls that are waited for (Component Model, CanonicalABI.md, `canon lift`, `canon lower`; Core 2.0, section 4.4).
use Rattle.std.specs.Prelude.{ℕ, codes, List, [], ◌∷◌, ◌++◌, replicate, Some}
use Rattle.syntax_trees.specs.declared.instr.Instr.TheVariants.{LocalGet, Numeric}
use Rattle.syntax_trees.specs.declared.instr.NumericOp.TheVariants.{Binary}
use Rattle.syntax_trees.specs.declared.instr.Width.TheVariants.{W32}
use Rattle.syntax_trees.specs.declared.instr.BinaryOp.TheVariants.{Add}
use Rattle.syntax_trees.specs.Expr.{End, Plain}
use Rattle.syntax_trees.specs.declared.types.ValType.TheVariants.{U32, String}
use Rattle.syntax_trees.specs.declared.types.FuncType.{FuncType}
use Rattle.syntax_trees.specs.declared.value.Value.TheVariants as value
use Rattle.comp_graph.specs.declared.graph.CanonFunc.{CanonFunc}
use Rattle.comp_graph.specs.Graph.{Graph, no_options}
use Rattle.script_reader.specs.declared.script.Item.TheVariants.{Call}
use Rattle.script_reader.specs.Script.{Script}
use Rattle.trace_labels.specs.declared.builtin.Builtin.TheVariants as builtin
use Rattle.trace_labels.specs.declared.label.Label.{Label}
use Rattle.trace_labels.specs.declared.label.Label.TheVariants as line
use Rattle.trace_labels.specs.declared.typed.TypedValue.{TypedValue}
use Rattle.abi_machine.specs.World.{World}
use Rattle.abi_machine.specs.examples.Parts.{func_type, of_nothing, words, own, number, calls, lower, with_memory, with_realloc, lift, graph_of, exported, store_of, instantiated, acting, run_name, script_of}

-- `run` calls its child's `add` with its argument twice.
abbrev pub of_two : FuncType
of_two = func_type (U32 ∷ U32 ∷ []) (Some U32)

abbrev pub of_one : FuncType
of_one = func_type (U32 ∷ []) (Some U32)

abbrev pub doubling_canons : List CanonFunc
doubling_canons = lower 0 (lift 1 1 no_options) of_two no_options ∷ []

abbrev pub doubling : Graph
doubling = graph_of 2 doubling_canons [] (exported run_name of_one ∷ []) (lift 0 2 no_options ∷ [])

abbrev pub doubling_world : World
doubling_world =
    instantiated 2
    (store_of (words 2 1 ∷ [])
    (own 1 (words 2 1) (Plain (LocalGet 0) (Plain (LocalGet 1) (Plain (Numeric (Binary W32 Add)) End)))
    ∷ own 0 (words 1 1) (Plain (LocalGet 0) (Plain (LocalGet 0) (calls 0 [] End))) ∷ []) ([] ∷ [] ∷ []))

abbrev pub doubling_script : Script
doubling_script = script_of (Call (record { name = run_name; values = value.U32 4 ∷ [] }) ∷ [])

abbrev pub typed : ℕ → TypedValue
typed n = record { value = value.U32 n; val_type = U32 }

abbrev pub doubled : List Label
doubled =
    line.Take 1 1 run_name (typed 4 ∷ []) ∷ line.Enter 1 ∷ line.Do 1 builtin.Lower (4 ∷ 4 ∷ []) ∷ line.Call 1 2 2 ∷ line.Enter 2
    ∷ line.Return 2 (Some (typed 8)) ∷ line.Exit 2 ∷ line.Got 1 (8 ∷ []) ∷ line.Return 1 (Some (typed 8)) ∷ line.Exit 1 ∷ []

-- `len` gives the number of bytes of a text, which stands where its realloc says.
abbrev pub measuring : Graph
measuring = graph_of 1 [] [] (exported (codes "len") (func_type (String ∷ []) (Some U32)) ∷ []) (lift 0 0 (with_realloc 0 1 (with_memory 0 no_options)) ∷ [])

abbrev pub measuring_world : World
measuring_world =
    instantiated 1 (store_of [] (own 0 (words 2 1) (Plain (LocalGet 1) End) ∷ own 0 (words 4 1) (number 32 End) ∷ []) (replicate 40 0 ∷ []))

-- "héllo"
abbrev pub hello : List ℕ
hello = 104 ∷ 195 ∷ 169 ∷ 108 ∷ 108 ∷ 111 ∷ []

abbrev pub measuring_script : Script
measuring_script = script_of (Call (record { name = codes "len"; values = value.String hello ∷ [] }) ∷ [])

abbrev pub measured : List Label
measured =
    line.Take 1 1 (codes "len") (record { value = value.String hello; val_type = String } ∷ []) ∷ line.Enter 1 ∷ line.Return 1 (Some (typed 6)) ∷ line.Exit 1 ∷ []

abbrev pub measured_bytes : List (List ℕ)
measured_bytes = (replicate 32 0 ++ hello ++ 0 ∷ 0 ∷ []) ∷ []

-- The root gives a function of its own to its child, which calls it while the root waits for it.
abbrev pub coming_back_canons : List CanonFunc
coming_back_canons = lower 0 (lift 1 2 no_options) of_nothing no_options ∷ lower 1 (lift 0 3 no_options) of_nothing no_options ∷ []

abbrev pub coming_back : Graph
coming_back = graph_of 2 coming_back_canons [] [] []

abbrev pub coming_back_world : World
coming_back_world =
    acting (calls 0 [] End) (instantiated 2 (store_of (words 0 0 ∷ words 0 0 ∷ []) (own 1 (words 0 0) (calls 1 [] End) ∷ own 0 (words 0 0) End ∷ []) ([] ∷ [] ∷ [])))

abbrev pub came_back : List Label
came_back = line.Do 1 builtin.Lower [] ∷ line.Call 1 2 2 ∷ line.Enter 2 ∷ line.Do 2 builtin.Lower [] ∷ []
