-- Core definitions do not leave the component instance that makes them (Component Model, Explainer.md, "Instance Definitions" and
-- "Canonical Definitions"): what a core instance imports, the core function of a lift, a destructor, and what the options of canonical
-- definitions give, were made by their own component instance. So a task runs code of the component instance of its function alone, and
-- calls only canonical functions of it.
use Rattle.std.specs.Prelude.{◌≡◌, ℕ, suc, List, [], ◌∷◌, ◌++◌, length, drop, Option, Some, None}
use Rattle.std.specs.List.{slice_get, AllByRecursion}
use Rattle.std.specs.Option.{option_map, IfSome}
use Rattle.wasm_store.specs.Store.{Function, Own, Host as HostFunction, Table, Instance, Store}
use Rattle.wasm_store.specs.Stack.{Stack, Running, AtHost, Given}
use Rattle.comp_graph.specs.declared.graph.Action.{Action}
use Rattle.comp_graph.specs.declared.graph.Action.TheVariants.{Begin, Make}
use Rattle.comp_graph.specs.declared.graph.FuncRef.{FuncRef}
use Rattle.comp_graph.specs.declared.graph.FuncRef.TheVariants as func_ref
use Rattle.comp_graph.specs.declared.graph.CoreExtern.{CoreExtern}
use Rattle.comp_graph.specs.declared.graph.CoreExtern.TheVariants as extern
use Rattle.comp_graph.specs.declared.graph.Options.{Options}
use Rattle.comp_graph.specs.declared.graph.Lift.{Lift}
use Rattle.comp_graph.specs.declared.graph.Resource.{Resource}
use Rattle.comp_graph.specs.declared.graph.CanonFunc.{CanonFunc}
use Rattle.comp_graph.specs.declared.graph.CanonFunc.TheVariants as canon_func
use Rattle.comp_graph.specs.Graph.{CoreMake, Graph, Lifted, canon_type}
use Rattle.script_reader.specs.Script.{Script}
use Rattle.trace_labels.specs.declared.label.Label.{Label}
use Rattle.abi_machine.specs.Control.{Control, Instantiates, Calls, Lowers, Quiet, Lowering, HostedState, Going, AtCall, Behind, InLowering, BeforeLeaving}
use Rattle.abi_machine.specs.World.{TaskState, AfterCall, AfterCancel, Begins, InBuiltin, Task, World, first_world}
use Rattle.abi_machine.specs.Canons.{inst_of_canon, options_of_canon}
use Rattle.abi_machine.specs.Reading.{func_of}
use Rattle.abi_machine.specs.Turn.{Steps}
use Rattle.abi_machine.specs.Next.{next}
use Rattle.abi_machine.specs.sound.Changes.{IsFirst}
use Rattle.abi_machine.specs.sound.Initial.{RunsAlone}
use Rattle.abi_machine.specs.sound.Acting.{IsOrdered}

-- the component instance that made the core instance of a number, and the canonical function of a number
abbrev pub owner_of_core : Graph → ℕ → Option ℕ
owner_of_core g number = option_map (λ c. c.owner) (slice_get g.cores number)

abbrev pub owner_of_canon : Graph → ℕ → Option ℕ
owner_of_canon g number = option_map inst_of_canon (slice_get g.canons number)

abbrev pub owner_of_func : Graph → FuncRef → Option ℕ
owner_of_func g (func_ref.Instance f) = owner_of_core g f.instance
owner_of_func g (func_ref.Canon number) = owner_of_canon g number

abbrev pub owner_of_extern : Graph → CoreExtern → Option ℕ
owner_of_extern g (extern.Func f) = owner_of_func g f
owner_of_extern g (extern.Table t) = owner_of_core g t.instance
owner_of_extern g (extern.Memory m) = owner_of_core g m.instance
owner_of_extern g (extern.Global global) = owner_of_core g global.instance

-- The memory and the functions that options give were made by this component instance.
pub record AreOptionsOf (g : Graph) (owner : ℕ) (options : Options) : Type 0 where
  pub memory : IfSome options.memory (λ m. owner_of_core g m.instance ≡ Some owner)
  pub realloc : IfSome options.realloc (λ f. owner_of_func g f ≡ Some owner)
  pub post_return : IfSome options.post_return (λ f. owner_of_func g f ≡ Some owner)
  pub callback : IfSome options.callback (λ f. owner_of_func g f ≡ Some owner)

-- A component instance made the core function that it lifts, and what its options give.
abbrev pub IsLiftApart : Graph → Lift → Type 0
IsLiftApart g lift = (owner_of_func g lift.core ≡ Some lift.instance) × AreOptionsOf g lift.instance lift.options

abbrev pub IsLoweredApart : Graph → CanonFunc → Type 0
IsLoweredApart g (canon_func.Lower l) = IsLiftApart g l.lift
IsLoweredApart g (canon_func.Builtin b) = Unit {0}

abbrev pub IsCanonApart : Graph → CanonFunc → Type 0
IsCanonApart g c = AreOptionsOf g (inst_of_canon c) (options_of_canon c) × IsLoweredApart g c

abbrev pub IsResourceApart : Graph → Resource → Type 0
IsResourceApart g r = IfSome r.destructor (λ f. owner_of_func g f ≡ Some r.instance)

-- What is left of a plan makes these core instances, one behind the other, the first of which has this number.
abbrev pub Makes : ℕ → List Action → List CoreMake → Type 0
Makes number [] cores = cores ≡ []
Makes number (Begin instance ∷ actions) cores = Makes number actions cores
Makes number (Make made ∷ actions) [] = ⊥
Makes number (Make made ∷ actions) (c ∷ cores) = (made ≡ number) × Makes (suc number) actions cores

-- What a core instance imports, the core function of a lift, a destructor, and what the options of canonical definitions give, were made by
-- their own component instance; and the plan makes each core instance, in order.
pub record IsApart (g : Graph) : Type 0 where
  pub imports : AllByRecursion (λ c. AllByRecursion (λ e. owner_of_extern g e ≡ Some c.owner) c.imports) g.cores
  pub lifts : AllByRecursion (IsLiftApart g) g.lifts
  pub canons : AllByRecursion (IsCanonApart g) g.canons
  pub resources : AllByRecursion (IsResourceApart g) g.resources
  pub planned : Makes 0 g.plan g.cores

-- The store.

-- The canonical functions stand first in it.
abbrev pub HasCanons : Graph → Store → Type 0
HasCanons g s = (number : ℕ) (c : CanonFunc) → slice_get g.canons number ≡ Some c → slice_get s.funcs number ≡ Some (HostFunction (canon_type c))

-- a core function of the store, at its address, that a component instance made
abbrev pub IsFuncOf : Graph → ℕ → ℕ → Function → Type 0
IsFuncOf g owner address (Own type instance locals body) = owner_of_core g instance ≡ Some owner
IsFuncOf g owner address (HostFunction type) = owner_of_canon g address ≡ Some owner

abbrev pub IsOwned : Graph → Store → ℕ → ℕ → Type 0
IsOwned g s owner address = (f : Function) × (slice_get s.funcs address ≡ Some f) × IsFuncOf g owner address f

abbrev pub IsEntryOwned : Graph → Store → ℕ → Option ℕ → Type 0
IsEntryOwned g s owner None = Unit {0}
IsEntryOwned g s owner (Some address) = IsOwned g s owner address

-- the component instances that made the tables and the memories of a store, by their addresses
pub record StoreOwners : Type 0 where
  pub tables : List ℕ
  pub memories : List ℕ

-- Each table and each memory belongs to a component instance. The core instances of a component instance have functions, tables and
-- memories of it, and its tables have functions of it.
pub record AreOwnedBy (g : Graph) (owners : StoreOwners) (s : Store) : Type 0 where
  pub count : length owners.tables ≡ length s.tables
  pub memory_count : length owners.memories ≡ length s.memories
  pub funcs : (number owner : ℕ) (i : Instance) → owner_of_core g number ≡ Some owner → slice_get s.instances number ≡ Some i → AllByRecursion (IsOwned g s owner) i.funcs
  pub tables : (number owner : ℕ) (i : Instance) → owner_of_core g number ≡ Some owner → slice_get s.instances number ≡ Some i
      → AllByRecursion (λ address. slice_get owners.tables address ≡ Some owner) i.tables
  pub memories : (number owner : ℕ) (i : Instance) → owner_of_core g number ≡ Some owner → slice_get s.instances number ≡ Some i
      → AllByRecursion (λ address. slice_get owners.memories address ≡ Some owner) i.memories
  pub entries : (address owner : ℕ) (t : Table) → slice_get owners.tables address ≡ Some owner → slice_get s.tables address ≡ Some t → AllByRecursion (IsEntryOwned g s owner) t.entries

abbrev pub AreOwned : Graph → Store → Type 0
AreOwned g s = (owners : StoreOwners) × AreOwnedBy g owners s

-- Behind an action of the plan so many core instances were made, and those that are left are the graph's.
pub record IsMadeUpTo (g : Graph) (count n : ℕ) : Type 0 where
  pub before : List CoreMake
  pub after : List CoreMake
  pub cores_are : g.cores ≡ before ++ after
  pub counted : length before ≡ count
  pub left : Makes count (drop n g.plan) after

-- Stacks and tasks.

-- A stack runs code of a component instance, or waits at a call of what it made.
abbrev pub IsStackOf : Graph → ℕ → Stack → Type 0
IsStackOf g owner (Running f fs) = (owner_of_core g f.instance ≡ Some owner) × AllByRecursion (λ waits. owner_of_core g waits.instance ≡ Some owner) fs
IsStackOf g owner (AtHost address words) = owner_of_canon g address ≡ Some owner
IsStackOf g owner (Given words) = Unit {0}

-- of the function that a task runs, where it runs one: it is its component instance's, and so are its stacks and what it calls
abbrev pub IsLiftedApart : Graph → Option Lifted → Type 0
IsLiftedApart g None = Unit {0}
IsLiftedApart g (Some f) = (owner_of_func g f.core ≡ Some f.instance) × AreOptionsOf g f.instance f.options

abbrev pub IsOwnStack : Graph → Option Lifted → Stack → Type 0
IsOwnStack g None k = Unit {0}
IsOwnStack g (Some f) k = IsStackOf g f.instance k

abbrev pub CallsOwn : Graph → Option Lifted → ℕ → Type 0
CallsOwn g None number = Unit {0}
CallsOwn g (Some f) number = owner_of_canon g number ≡ Some f.instance

-- so where it waits; and a start function comes where the plan is
abbrev pub IsStateOwn : Graph → ℕ → Option Lifted → TaskState → Type 0
IsStateOwn g count f (AfterCall callee number words) = CallsOwn g f number
IsStateOwn g count f (AfterCancel callee number words) = CallsOwn g f number
IsStateOwn g count f (InBuiltin number words wait) = CallsOwn g f number
IsStateOwn g count f (Begins n) = IsMadeUpTo g count n
IsStateOwn g count f state = Unit {0}

pub record IsOwnOf (g : Graph) (count : ℕ) (f : Option Lifted) (stacks : List Stack) (state : TaskState) : Type 0 where
  pub lifted : IsLiftedApart g f
  pub code : AllByRecursion (IsOwnStack g f) stacks
  pub waits : IsStateOwn g count f state

abbrev pub IsTaskOwn : Graph → ℕ → Task → Type 0
IsTaskOwn g count task = IsOwnOf g count (func_of task.callee) task.stacks task.state

-- Nested code.

abbrev pub IsHostedBy : Graph → ℕ → HostedState → Type 0
IsHostedBy g owner (Going k) = IsStackOf g owner k
IsHostedBy g owner (AtCall number words k) = (owner_of_canon g number ≡ Some owner) × IsStackOf g owner k

abbrev pub HasOwnRealloc : Graph → Store → Lowering → Type 0
HasOwnRealloc g s l = (address : ℕ) → l.realloc ≡ Some address → IsOwned g s l.inst address

abbrev pub IsBehindOwn : Graph → Store → Behind → Type 0
IsBehindOwn g s (InLowering l k) = HasOwnRealloc g s l
IsBehindOwn g s BeforeLeaving = Unit {0}

-- by what comes next
abbrev pub IsControlOwn : Graph → Control → World → Type 0
IsControlOwn g (Instantiates n) w = IsMadeUpTo g (length w.store.instances) n
IsControlOwn g (Calls number words) w = (t : ℕ) (task : Task) → IsFirst t w.chain → slice_get w.tasks t ≡ Some task → CallsOwn g (func_of task.callee) number
IsControlOwn g (Lowers l plan) w = HasOwnRealloc g w.store l
IsControlOwn g (Quiet n b) w = IsHostedBy g n.inst n.state × IsBehindOwn g w.store b
IsControlOwn g control w = Unit {0}

pub record AreOwn (g : Graph) (store : Store) (tasks : List Task) : Type 0 where
  pub canons : HasCanons g store
  pub owned : AreOwned g store
  pub each : AllByRecursion (IsTaskOwn g (length store.instances)) tasks

abbrev pub IsOwnWorld : Graph → World → Type 0
IsOwnWorld g w = AreOwn g w.store w.tasks

-- So it is in the first world, and so it stays.
abbrev pub FirstIsOwn : Type 0
FirstIsOwn = (g : Graph) → IsApart g → IsOwnWorld g (first_world g) × IsControlOwn g (first_world g).control (first_world g)

abbrev pub OwnStays : Type 0
OwnStays =
    (g : Graph) (s : Script) (w v : World) (labels : List Label) → IsApart g → RunsAlone w → IsOrdered w → IsOwnWorld g w → IsControlOwn g w.control w → next g s w ≡ Steps labels v
    → IsOwnWorld g v × IsControlOwn g v.control v
