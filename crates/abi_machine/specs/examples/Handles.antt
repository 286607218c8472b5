-- Handles of resources (Component Model, CanonicalABI.md, `canon resource.new`, `canon resource.drop`, `lift_own`, `lift_borrow`, `lower_own`,
-- `lower_borrow`, "Table State").
use Rattle.std.specs.Prelude.{ℕ, false, List, [], ◌∷◌, ◌++◌, map, replicate, Option, Some, None}
use Rattle.syntax_trees.specs.declared.instr.Instr.TheVariants.{LocalGet}
use Rattle.syntax_trees.specs.declared.module_types.FuncType as core
use Rattle.syntax_trees.specs.Expr.{Expr, End, Plain}
use Rattle.syntax_trees.specs.declared.types.ValType.{ValType}
use Rattle.syntax_trees.specs.declared.types.ValType.TheVariants.{U32}
use Rattle.syntax_trees.specs.declared.types.ValType.TheVariants as type
use Rattle.syntax_trees.specs.declared.value.Value.TheVariants as value
use Rattle.builtin_kinds.specs.declared.PlainBuiltin.TheVariants as op
use Rattle.builtin_kinds.specs.declared.ResourceOp.TheVariants.{New, Drop, Rep}
use Rattle.builtin_kinds.specs.declared.WaitOp.TheVariants.{Wait}
use Rattle.builtin_kinds.specs.declared.ContextOp.TheVariants.{Get, Set}
use Rattle.comp_graph.specs.declared.graph.CanonFunc.{CanonFunc}
use Rattle.comp_graph.specs.Graph.{Graph, no_options, canon_type}
use Rattle.trace_labels.specs.declared.builtin.Builtin.TheVariants as builtin
use Rattle.trace_labels.specs.declared.label.BlockReason.TheVariants as reason
use Rattle.trace_labels.specs.declared.label.Label.{Label}
use Rattle.trace_labels.specs.declared.label.Label.TheVariants as line
use Rattle.trace_labels.specs.declared.typed.TypedValue.{TypedValue}
use Rattle.trace_labels.specs.declared.dump.LiveEntry.{LiveEntry}
use Rattle.trace_labels.specs.declared.dump.Entry.TheVariants as entry
use Rattle.abi_machine.specs.World.{World, new_inst}
use Rattle.abi_machine.specs.examples.Parts.{func_type, words, own, calls, asks, plain, resource, context, wait, task_return, lower, core_at, core_func, asynchronous, lift, graph_of, store_of, instantiated, acting}

-- A resource with a destructor, which keeps the representation as a word of the task: handles are made, read and dropped.
abbrev pub making_canons : List CanonFunc
making_canons = resource 0 New 1 ∷ resource 0 Rep 1 ∷ resource 0 Drop 1 ∷ context 0 Set 0 ∷ context 0 Get 0 ∷ []

abbrev pub makes : Expr
makes = asks 0 (7 ∷ []) (asks 1 (1 ∷ []) (asks 0 (8 ∷ []) (calls 2 (1 ∷ []) (calls 2 (2 ∷ []) (asks 0 (9 ∷ []) (asks 4 [] End))))))

abbrev pub making : Graph
making = graph_of 1 making_canons (record { instance = 0; destructor = Some (core_func 0 5) } ∷ []) [] []

abbrev pub making_world : World
making_world = acting makes (instantiated 1 (store_of (map canon_type making_canons) (own 0 (words 1 0) (Plain (LocalGet 0) (calls 3 [] End)) ∷ []) ([] ∷ [])))

abbrev pub made : ℕ → ℕ → List Label
made rep index = line.Do 1 builtin.ResourceNew (rep ∷ []) ∷ line.Got 1 (index ∷ []) ∷ []

-- the drop of a handle at an index, whose destructor keeps this representation
abbrev pub drops : ℕ → ℕ → List Label
drops index rep =
    line.Do 1 builtin.ResourceDrop (index ∷ []) ∷ line.Do 1 builtin.ContextSet (rep ∷ []) ∷ line.Got 1 [] ∷ line.Got 1 [] ∷ []

abbrev pub handles_made : List Label
handles_made =
    made 7 1 ++ line.Do 1 builtin.ResourceRep (1 ∷ []) ∷ line.Got 1 (7 ∷ []) ∷ made 8 2 ++ drops 1 7 ++ drops 2 8 ++ made 9 2
    ++ line.Do 1 builtin.ContextGet [] ∷ line.Got 1 (8 ∷ []) ∷ line.Return 1 None ∷ line.Exit 1 ∷ []

-- The index that was freed last is given first.
abbrev pub handle_left : List (List LiveEntry)
handle_left = (record { index = 2; entry = entry.Own 1 9 0 } ∷ []) ∷ []

-- A child defines a resource: `make` gives an own handle of it, and `peek` reads a borrow.
abbrev pub owned : ValType
owned = type.Own 1

abbrev pub borrowed : ValType
borrowed = type.Borrow 1

abbrev pub lending_canons : List CanonFunc
lending_canons =
    lower 0 (lift 1 3 no_options) (func_type (U32 ∷ []) (Some owned)) no_options
    ∷ lower 0 (lift 1 4 no_options) (func_type (borrowed ∷ []) (Some U32)) no_options ∷ resource 1 New 1 ∷ []

abbrev pub lending : Graph
lending = graph_of 2 lending_canons (record { instance = 1; destructor = None } ∷ []) [] []

abbrev pub lending_world : World
lending_world =
    acting (asks 0 (7 ∷ []) (asks 1 (1 ∷ []) End))
    (instantiated 2
    (store_of (words 1 1 ∷ words 1 1 ∷ words 1 1 ∷ []) (own 1 (words 1 1) (Plain (LocalGet 0) (calls 2 [] End)) ∷ own 1 (words 1 1) (Plain (LocalGet 0) End) ∷ []) ([] ∷ [] ∷ [])))

abbrev pub own_seven : Option TypedValue
own_seven = Some (record { value = value.Own (record { resource = 1; rep = 7 }); val_type = owned })

abbrev pub number_seven : Option TypedValue
number_seven = Some (record { value = value.U32 7; val_type = U32 })

abbrev pub handle_got : List Label
handle_got =
    line.Do 1 builtin.Lower (7 ∷ []) ∷ line.Call 1 2 2 ∷ line.Enter 2
    ∷ line.Do 2 builtin.ResourceNew (7 ∷ []) ∷ line.Got 2 (1 ∷ []) ∷ line.Return 2 own_seven ∷ line.Exit 2 ∷ line.Got 1 (1 ∷ []) ∷ []

abbrev pub handle_lent : List Label
handle_lent =
    line.Do 1 builtin.Lower (1 ∷ []) ∷ line.Call 1 3 2 ∷ line.Enter 3 ∷ line.Lend 1 1 3
    ∷ line.Return 3 number_seven ∷ line.Exit 3 ∷ line.Unlend 1 1 3 ∷ line.Got 1 (7 ∷ []) ∷ []

abbrev pub run_ends : List Label
run_ends = line.Return 1 None ∷ line.Exit 1 ∷ []

abbrev pub lent_once : List Label
lent_once = handle_got ++ handle_lent ++ run_ends

abbrev pub handle_kept : List (List LiveEntry)
handle_kept = (record { index = 1; entry = entry.Own 1 7 0 } ∷ []) ∷ [] ∷ []

-- Task 1 makes a handle of a resource of its own instance and passes it to its child, to parameters of these types.
abbrev pub passing_canons : List ValType → List CanonFunc
passing_canons types = resource 0 New 1 ∷ lower 0 (lift 1 3 no_options) (func_type types None) no_options ∷ resource 1 Drop 1 ∷ []

abbrev pub passing : List ValType → Graph
passing types = graph_of 2 (passing_canons types) (record { instance = 0; destructor = None } ∷ []) [] []

-- so many words are passed, and this is the child's function
abbrev pub passing_world : List ℕ → core.FuncType → Expr → World
passing_world given type body =
    acting (asks 0 (7 ∷ []) (calls 1 given End)) (instantiated 2 (store_of (words 1 1 ∷ type ∷ words 1 0 ∷ []) (own 1 type body ∷ []) ([] ∷ [] ∷ [])))

abbrev pub passed : List ℕ → List Label
passed given = made 7 1 ++ line.Do 1 builtin.Lower given ∷ line.Call 1 2 2 ∷ line.Enter 2 ∷ []

-- Both parameters get the same handle: where it is lent first it can't be given away, and where it is given away it can't be lent.
abbrev pub both_world : World
both_world = passing_world (1 ∷ 1 ∷ []) (words 2 0) End

abbrev pub lent_then_given : List Label
lent_then_given = passed (1 ∷ 1 ∷ []) ++ line.Lend 1 1 2 ∷ []

-- The child drops what it got, while the resource's instance waits for it.
abbrev pub sink_world : World
sink_world = passing_world (1 ∷ []) (words 1 0) (calls 2 (1 ∷ []) End)

abbrev pub sunk : List Label
sunk = passed (1 ∷ []) ++ line.Do 2 builtin.ResourceDrop (1 ∷ []) ∷ []

-- The child keeps the borrow handle that it got, and returns.
abbrev pub keeping_canons : List CanonFunc
keeping_canons = resource 0 New 1 ∷ lower 0 (lift 1 3 asynchronous) (func_type (borrowed ∷ []) None) asynchronous ∷ task_return 1 None no_options ∷ []

abbrev pub keeping : Graph
keeping = graph_of 2 keeping_canons (record { instance = 0; destructor = None } ∷ []) [] []

abbrev pub keeping_world : World
keeping_world =
    acting (asks 0 (7 ∷ []) (asks 1 (1 ∷ []) End))
    (instantiated 2 (store_of (words 1 1 ∷ words 1 1 ∷ words 0 0 ∷ []) (own 1 (words 1 0) (calls 2 [] End) ∷ []) ([] ∷ [] ∷ [])))

abbrev pub kept_borrow : List Label
kept_borrow = passed (1 ∷ []) ++ line.Lend 1 1 2 ∷ line.Do 2 builtin.TaskReturn [] ∷ []

-- The child lets others run before it drops what was lent to it, and returns.
abbrev pub holding_canons : List CanonFunc
holding_canons =
    resource 0 New 1 ∷ lower 0 (lift 1 10 asynchronous) (func_type (borrowed ∷ []) None) asynchronous ∷ resource 0 Drop 1
    ∷ plain 0 op.WaitableSetNew ∷ plain 0 op.WaitableJoin ∷ wait 0 Wait (core_at 0 0)
    ∷ plain 1 (op.Yield false) ∷ task_return 1 None no_options ∷ resource 1 Drop 1 ∷ context 0 Set 0 ∷ []

abbrev pub holding : Graph
holding = graph_of 2 holding_canons (record { instance = 0; destructor = Some (core_func 0 11) } ∷ []) [] []

abbrev pub holding_world : Expr → World
holding_world body =
    acting body
    (instantiated 2
    (store_of (words 1 1 ∷ words 1 1 ∷ words 1 0 ∷ words 0 1 ∷ words 2 0 ∷ words 2 1 ∷ words 0 1 ∷ words 0 0 ∷ words 1 0 ∷ words 1 0 ∷ [])
    (own 1 (words 1 0) (asks 6 [] (calls 8 (1 ∷ []) (calls 7 [] End))) ∷ own 0 (words 1 0) (Plain (LocalGet 0) (calls 9 [] End)) ∷ []) (replicate 8 0 ∷ [] ∷ [])))

abbrev pub lent_out : List Label
lent_out =
    passed (1 ∷ []) ++ line.Lend 1 1 2 ∷ line.Do 2 builtin.Yield [] ∷ line.Block 2 reason.Yield ∷ line.Got 1 (33 ∷ []) ∷ []

-- A handle that is lent is not dropped,
abbrev pub drops_lent : Expr
drops_lent = asks 0 (7 ∷ []) (asks 1 (1 ∷ []) (calls 2 (1 ∷ []) End))

abbrev pub dropped_lent : List Label
dropped_lent = lent_out ++ line.Do 1 builtin.ResourceDrop (1 ∷ []) ∷ []

-- before the call is told to have returned.
abbrev pub drops_given_back : Expr
drops_given_back = asks 0 (7 ∷ []) (asks 1 (1 ∷ []) (asks 3 [] (calls 4 (2 ∷ 3 ∷ []) (asks 5 (3 ∷ 0 ∷ []) (calls 2 (1 ∷ []) End)))))

abbrev pub given_back : List Label
given_back =
    lent_out ++ line.Do 1 builtin.WaitableSetNew [] ∷ line.Got 1 (3 ∷ []) ∷ line.Do 1 builtin.WaitableJoin (2 ∷ 3 ∷ []) ∷ line.Got 1 []
    ∷ line.Do 1 builtin.WaitableSetWait (3 ∷ 0 ∷ []) ∷ line.Block 1 (reason.Wait 3)
    ∷ line.Go 2 ∷ line.Got 2 (0 ∷ []) ∷ line.Do 2 builtin.ResourceDrop (1 ∷ []) ∷ line.Got 2 []
    ∷ line.Do 2 builtin.TaskReturn [] ∷ line.Return 2 None ∷ line.Got 2 [] ∷ line.Exit 2
    ∷ line.Go 1 ∷ line.Event 1 1 2 2 ∷ line.Unlend 1 1 2 ∷ line.Got 1 (1 ∷ []) ∷ drops 1 7 ++ run_ends

-- The call of a child into whose instance no task may enter is cancelled: what was to be given away stays.
abbrev pub offering_canons : List CanonFunc
offering_canons = resource 0 New 1 ∷ lower 0 (lift 1 3 asynchronous) (func_type (owned ∷ []) None) asynchronous ∷ plain 0 (op.SubtaskCancel false) ∷ []

abbrev pub offering : Graph
offering = graph_of 2 offering_canons (record { instance = 0; destructor = None } ∷ []) [] []

abbrev pub offering_world : World
offering_world =
    record (acting (asks 0 (7 ∷ []) (asks 1 (1 ∷ []) (asks 2 (2 ∷ []) End))) (instantiated 2 (store_of (words 1 1 ∷ words 1 1 ∷ words 1 1 ∷ []) (own 1 (words 1 0) End ∷ []) ([] ∷ [] ∷ [])))) {
      insts = new_inst ∷ record new_inst { backpressure = 1 } ∷ [];
    }

abbrev pub offered : List Label
offered =
    made 7 1 ++ line.Do 1 builtin.Lower (1 ∷ []) ∷ line.Call 1 2 2 ∷ line.Block 2 reason.Entry ∷ line.Got 1 (32 ∷ [])
    ∷ line.Do 1 builtin.SubtaskCancel (2 ∷ []) ∷ line.Cancelled 2 ∷ line.Exit 2 ∷ line.Got 1 (3 ∷ []) ∷ run_ends

abbrev pub still_owned : List (List LiveEntry)
still_owned = (record { index = 1; entry = entry.Own 1 7 0 } ∷ record { index = 2; entry = entry.Subtask 2 3 } ∷ []) ∷ [] ∷ []
