-- Values that are lifted over what is kept (Component Model, CanonicalABI.md, "Loading", "Flat Lifting", `canon lift`, `canon lower`, `canon
-- task.return`, `canon stream.write`): what that comes to is what the machine lifts in a world for which what is kept stands, and what is kept then
-- stands for the world then. The first index that is refused, or the first part that stands for nothing, is the same trap on both sides.
use Rattle.std.specs.Prelude.{◌≡◌, ℕ, true, List, ◌++◌, map, Option, Some, Ok, Err}
use Rattle.std.specs.List.{slice_get, AllZip}
use Rattle.wasm_store.specs.Stack.{Stack}
use Rattle.syntax_trees.specs.declared.types.ValType.{ValType}
use Rattle.laid_types.specs.Handles.{held_borrow}
use Rattle.laid_types.specs.Known.{Numbered}
use Rattle.comp_graph.specs.declared.graph.CanonFunc.{CanonFunc}
use Rattle.comp_graph.specs.declared.graph.Options.{Options}
use Rattle.comp_graph.specs.Graph.{Graph, Lifted}
use Rattle.comp_graph.specs.Passed.{MayBeAt}
use Rattle.script_reader.specs.Script.{Script}
use Rattle.trace_labels.specs.declared.label.Label.{Label}
use Rattle.trace_labels.specs.declared.trap.TrapName.{TrapName}
use Rattle.task_table.specs.declared.errand.Callee.{Callee}
use Rattle.task_table.specs.declared.slot.TaskSlot.{TaskSlot}
use Rattle.programs.specs.declared.program.Program.{Program}
use Rattle.world_parts.specs.Held as kept
use Rattle.world_parts.specs.Held.{Held, Done, Gives, Traps, Spent}
use Rattle.value_parts.specs.declared.lifting.Origin.{Origin}
use Rattle.value_parts.specs.Lifting as kept_lifting
use Rattle.value_parts.specs.Passing as kept_passing
use Rattle.abi_machine.specs.World.{Caller, Nobody, Host, Guest, Subtask, Task, World}
use Rattle.abi_machine.specs.Canons.{memory_of, bytes_of, inst_of_canon, options_of_canon}
use Rattle.abi_machine.specs.Lifting as lifting
use Rattle.abi_machine.specs.Lifting.{Came}
use Rattle.abi_machine.specs.Passing as passing
use Rattle.abi_machine.specs.Passing.{params_type}
use Rattle.abi_machine.specs.Entering as entering
use Rattle.abi_machine.specs.Returning as returning
use Rattle.standing.specs.Ends.{HasMemory}
use Rattle.run_laws.specs.Taking.{StandsMarked, CalledFrom}

-- what tasks do
abbrev pub callees_of : List TaskSlot → List Callee
callees_of tasks = map (λ (slot : TaskSlot). slot.callee) tasks

-- A task that differs from another one in its state, or in what is lent for its call, at most.
abbrev pub SameCaller : Caller → Caller → Type 0
SameCaller Nobody b = b ≡ Nobody
SameCaller (Host call all) b = b ≡ Host call all
SameCaller (Guest x) Nobody = ⊥
SameCaller (Guest x) (Host call all) = ⊥
SameCaller (Guest x) (Guest y) = (y.by ≡ x.by) × (y.canon ≡ x.canon) × (y.words ≡ x.words)

pub record TaskStays (a b : Task) : Type 0 where
  pub callee : b.callee ≡ a.callee
  pub resolution : b.resolution ≡ a.resolution
  pub caller : SameCaller a.caller b.caller

-- What is kept behind a lifting stands for the world behind it, with the same lines. Only tables, sets, and what calls lent have changed, and the tasks do
-- what they did.
pub record Leaves
    (g : Graph) (values : List ValType) (s : Script) (h : Held) (stacks : List (List Stack)) (w : World) (k : Held) (lines : List Label) (v : World) : Type 0 where
  pub stands : StandsMarked g values s k stacks v
  pub told : k.labels ≡ h.labels ++ lines
  pub kept_rest : k ≡ record h { instances = k.instances; tasks = k.tasks; labels = k.labels }
  pub world_rest : v ≡ record w { insts = v.insts; tasks = v.tasks }
  pub same_tasks : callees_of k.tasks ≡ callees_of h.tasks
  pub tasks_stay : AllZip TaskStays w.tasks v.tasks

-- The same is lifted, or lifting stops in the same trap, and this holds of what it leaves. Where no rule applies nothing is said.
pub record LiftsTo {A : Type 0} (came : Came A) (x : A) (P : List Label → World → Type 0) : Type 0 where
  pub now : lifting.Kept
  pub is : came ≡ Ok (x, now)
  pub leaves : P now.lines now.world

pub record StopsIn {A : Type 0} (came : Came A) (why : TrapName) (P : List Label → World → Type 0) : Type 0 where
  pub stop : lifting.Stopped
  pub is : came ≡ Err stop
  pub same_why : stop.why ≡ why
  pub leaves : P stop.lines stop.world

abbrev pub LiftAgrees : {A : Type 0} → (Held → List Label → World → Type 0) → Done A → Came A → Type 0
LiftAgrees L (Gives x k) came = LiftsTo came x (L k)
LiftAgrees L (Traps why k) came = StopsIn came why (L k)
LiftAgrees L (Spent k) came = ⊥
LiftAgrees L kept.Stuck came = Unit {0}

-- Where a type holds a borrow, handles are lent for the call by a task of the instance.
abbrev pub LendsFrom : World → ℕ → ℕ → Option ValType → Type 0
LendsFrom w at callee type = held_borrow type ≡ true → CalledFrom w at callee

-- The arguments that a task passes by a canonical function.
abbrev pub ArgumentsLift : Type 0
ArgumentsLift =
    (g : Graph) (values : List ValType) (s : Script) (h : Held) (stacks : List (List Stack)) (w : World) (t : ℕ) (f : Lifted) (subtask : Subtask) (c : CanonFunc) (type : Numbered)
    → type.types ≡ values → type.val_type ≡ params_type f.func_type → HasMemory h w (options_of_canon c)
    → LendsFrom w (inst_of_canon c) t (Some type.val_type) → StandsMarked g values s h stacks w
    → LiftAgrees (Leaves g values s h stacks w) (kept_passing.arguments_passed t c type subtask.words h) (entering.arguments_passed t f subtask c w)

-- The result of a task of an instance, by the number of its type, where it has one.
abbrev pub ResultsLift : Type 0
ResultsLift =
    (g : Graph) (values : List ValType) (s : Script) (h : Held) (stacks : List (List Stack)) (w : World) (p : Program) (t at limit : ℕ) (number memory : Option ℕ)
    (result : Option ValType) (options : Options) (words : List ℕ)
    → p.types.now ≡ values → MayBeAt values number result → memory ≡ memory_of w.store options → ((slot : TaskSlot) → slice_get h.tasks t ≡ Some slot → slot.instance ≡ at)
    → LendsFrom w at t result → StandsMarked g values s h stacks w
    → LiftAgrees (Leaves g values s h stacks w) (kept_passing.result_lifted p t number memory limit words h) (returning.result_passed at t limit result options words w)

-- Elements of a copy, one after the other from a place on.
abbrev pub ElementsLift : Type 0
ElementsLift =
    (g : Graph) (values : List ValType) (s : Script) (h : Held) (stacks : List (List Stack)) (w : World) (from : Origin) (type : Numbered) (place count : ℕ)
    → type.types ≡ values → LendsFrom w from.at from.callee (Some type.val_type) → StandsMarked g values s h stacks w
    → LiftAgrees (Leaves g values s h stacks w) (kept_lifting.elements_lifted from type place count h)
    (passing.elements_lifted from.at from.callee type.val_type (bytes_of w.store from.memory) place count w)
