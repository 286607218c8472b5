-- What every step keeps beside marks of tasks (Component Model, CanonicalABI.md, "Canonical ABI Options", "Table State", "Stream State" and "Future State"; Core 2.0, section
-- 4.2.5): of each core instance its first memory is kept, and ends are marked, where each stands once and is of a type that tells whether it is of a stream or a future.
use Rattle.std.specs.Prelude.{◌≡◌, ℕ, List, [], map, Option, Some, None}
use Rattle.std.specs.List.{slice_get}
use Rattle.syntax_trees.specs.declared.types.FuncType.{FuncType}
use Rattle.syntax_trees.specs.declared.types.ValType.{ValType, out-ValType}
use Rattle.syntax_trees.specs.declared.types.ValType.TheOpen.{ValType-F}
use Rattle.wasm_store.specs.Store.{Instance}
use Rattle.syntax_trees.specs.declared.value.Value.{Value}
use Rattle.laid_types.specs.SameTypes.{AreDistinct}
use Rattle.builtin_kinds.specs.declared.EndKind.{EndKind}
use Rattle.builtin_kinds.specs.declared.EndKind.TheVariants.{Stream, Future}
use Rattle.comp_graph.specs.declared.graph.BuiltinKind.TheVariants as kind
use Rattle.comp_graph.specs.declared.graph.EndOp.{EndOp}
use Rattle.channels.specs.declared.channel.Channel.{Channel}
use Rattle.comp_graph.specs.declared.graph.Builtin.{Builtin}
use Rattle.comp_graph.specs.declared.graph.CanonFunc.TheVariants as canon
use Rattle.comp_graph.specs.Graph.{Graph}
use Rattle.comp_graph.specs.Passed.{MayBeAt}
use Rattle.copy_replies.specs.Moves.{element_at}
use Rattle.graph_views.specs.Canons.{canon_at}
use Rattle.script_reader.specs.Script.{Script}
use Rattle.instances.specs.declared.entry.EndEntry.{EndEntry}
use Rattle.instances.specs.declared.entry.WorldEntry.TheVariants as entry
use Rattle.instances.specs.Instances.{InstanceView, entry_of}
use Rattle.programs.specs.declared.program.Program.{Program}
use Rattle.programs.specs.Program.{host_values, value_of}
use Rattle.world_parts.specs.declared.parts.Copying.{Copying}
use Rattle.world_parts.specs.Held.{Held, Done, Gives, Traps, Spent, Stuck}
use Rattle.wasm_store.specs.Stack.{Stack}
use Rattle.world_stacks.specs.Views.{PileView}
use Rattle.value_parts.specs.declared.to_pass.Passing.{Passing}
use Rattle.value_parts.specs.declared.to_pass.Passing.TheVariants as passing
use Rattle.value_moves.specs.Passing.{Passes}
use Rattle.machine_runs.specs.declared.stepping.Step.{Step}
use Rattle.machine_runs.specs.declared.stepping.Step.TheVariants as step
use Rattle.machine_runs.specs.Beginning.{first_held}
use Rattle.machine_runs.specs.Stepping.{Steps}
use Rattle.standing.specs.Channels.{EndsMarked, HasMarkedEnds}
use Rattle.standing.specs.KeptMarks.{HasMarks}
use Rattle.standing.specs.Stands.{Stands}
use Rattle.abi_machine.specs.sound.EndsPassed.{ends_of, ScriptPassesNoEnd}
use Rattle.run_laws.specs.keeping.Steps.{StepsSo}
use Rattle.reach_laws.specs.KnownEnds.{EndsStandOnce}
use Rattle.abi_machine.specs.World.{World}
use Rattle.run_laws.specs.Answering.{HasTypes}
use Rattle.run_laws.specs.Reached.{StandsReached}
use Rattle.run_laws.specs.Supplied.{KeepsMemories, PlacesAreKept}
use Rattle.run_laws.specs.Transfers.{HasEndOf}
use Rattle.run_laws.specs.keeping.Tables.{HandlesAloneLent}

-- The first memory of a core instance, where it has one; and the memories that are kept are those, one for each.
abbrev pub first_of : Instance → Option ℕ
first_of i = slice_get i.memories 0

abbrev pub MemoriesKept : Held → Type 0
MemoriesKept h = h.memories ≡ map first_of h.store.instances

-- Each end stands once: no other one of its stream or its future, its type and its side stands anywhere.
abbrev pub EndsOnce : List InstanceView → Type 0
EndsOnce instances =
    (at index n m : ℕ) (i j : InstanceView) (e d : EndEntry) → slice_get instances at ≡ Some i → entry_of i index ≡ Some (entry.End e) → slice_get instances n ≡ Some j
    → entry_of j m ≡ Some (entry.End d) → d.number ≡ e.number → d.end_type ≡ e.end_type → d.side ≡ e.side → (at ≡ n) × (index ≡ m)

-- The number of the type of a stream or a future tells which it is, by a test of numbers.
abbrev pub AreOf : (ℕ → EndKind) → EndKind → List Channel → Type 0
AreOf K kind all = (place : ℕ) (c : Channel) → slice_get all place ≡ Some c → K c.end_type ≡ kind

-- All that is kept of ends.
pub record EndsAre (K : ℕ → EndKind) (instances : List InstanceView) (streams futures : List Channel) : Type 0 where
  pub marked : EndsMarked instances streams futures
  pub once : EndsOnce instances
  pub are_streams : AreOf K Stream streams
  pub are_futures : AreOf K Future futures

abbrev pub EndsKept : (ℕ → EndKind) → Held → Type 0
EndsKept K h = EndsAre K h.instances h.streams h.futures

-- Of the types of ends that a program's table names by the numbers of canonical functions the test is right.
abbrev pub TypesFit : Graph → List (Option ℕ) → (ℕ → EndKind) → Type 0
TypesFit g types K =
    (number type : ℕ) (b : Builtin) (of_what : EndKind) (element : Option ValType) (op : EndOp) → canon_at g number ≡ Some (canon.Builtin b) → b.kind ≡ kind.End of_what element op
    → slice_get types number ≡ Some (Some type) → K type ≡ of_what

-- Each step keeps memories. Of ends, which a step keeps where no values are passed; where these are, see below. Behind a trap they are marked.
abbrev pub KeepsMemory : {A : Type 0} → Held → Done A → Type 0
KeepsMemory h (Gives x k) = MemoriesKept h → MemoriesKept k
KeepsMemory h (Traps why k) = Unit {0}
KeepsMemory h (Spent k) = Unit {0}
KeepsMemory h Stuck = Unit {0}

abbrev pub StepKeepsMemories : Type 0
StepKeepsMemories = (p : Program) (x : Passing) (piles : List PileView) (h : Held) (d : Done (Step × List PileView)) → Steps Passes p x piles h d → KeepsMemory h d

-- Before a graph is instantiated it is so; and then of each core instance the first memory is kept.
abbrev pub FirstKeepsMemories : Type 0
FirstKeepsMemories = (g : Graph) (s : Script) → MemoriesKept (first_held g s)

abbrev pub MemoriesAreFirst : Type 0
MemoriesAreFirst = (h : Held) → MemoriesKept h → KeepsMemories h

abbrev pub KeepsEnds : {A : Type 0} → (ℕ → EndKind) → Held → Done A → Type 0
KeepsEnds K h (Gives x k) = EndsKept K h → EndsKept K k
KeepsEnds K h (Traps why k) = EndsKept K h → HasMarkedEnds k
KeepsEnds K h (Spent k) = Unit {0}
KeepsEnds K h Stuck = Unit {0}

abbrev pub MoveKeepsEnds : Type 0
MoveKeepsEnds =
    (p : Program) (K : ℕ → EndKind) (piles : List PileView) (h : Held) (d : Done (Step × List PileView)) → TypesFit p.graph.now p.ends.now K → Steps Passes p passing.Nothing piles h d
    → KeepsEnds K h d

abbrev pub FirstKeepsEnds : Type 0
FirstKeepsEnds = (g : Graph) (s : Script) (K : ℕ → EndKind) → EndsKept K (first_held g s)

-- No handle is lent where none stands: of what stands for a world that a run reaches, and behind a step from a rest to where values are to be passed, if it was so before it.
abbrev pub HandlesAreAloneLent : Type 0
HandlesAreAloneLent =
    (g : Graph) (values : List ValType) (s : Script) (h : Held) (stacks : List (List Stack)) (w : World) → StandsReached g values s h stacks w → HandlesAloneLent h.instances h.tasks

abbrev pub PassesValues : Step → Type 0
PassesValues (step.GoesOn passing.Nothing) = ⊥
PassesValues (step.GoesOn passing.Arguments) = Unit {0}
PassesValues (step.GoesOn passing.Returned) = Unit {0}
PassesValues (step.GoesOn (passing.Ended words)) = Unit {0}
PassesValues (step.GoesOn (passing.Elements copying)) = Unit {0}
PassesValues step.Ends = ⊥

abbrev pub LentStays : Held → Held → Type 0
LentStays h k = HandlesAloneLent h.instances h.tasks → HandlesAloneLent k.instances k.tasks

abbrev pub KeepsLent : Held → Done (Step × List PileView) → Type 0
KeepsLent h (Gives r k) = PassesValues r.0 → LentStays h k
KeepsLent h (Traps why k) = Unit {0}
KeepsLent h (Spent k) = Unit {0}
KeepsLent h Stuck = Unit {0}

abbrev pub MoveKeepsLent : Type 0
MoveKeepsLent = (p : Program) (piles : List PileView) (h : Held) (d : Done (Step × List PileView)) → Steps Passes p passing.Nothing piles h d → KeepsLent h d

-- A task that waits on a set in a built-in has kept the place of the call, of what stands for a world.
abbrev pub PlacesStandKept : Type 0
PlacesStandKept = (g : Graph) (values : List ValType) (s : Script) (h : Held) (stacks : List (List Stack)) (w : World) → Stands g values s h stacks w → PlacesAreKept h w

-- The kind of the type of a number among types of values: so the types of ends are told that a program names, where it names the graph's.
abbrev pub kind_step : {A B C : Type 0} → ValType-F A B C → EndKind
kind_step (ValType-F.Future element) = Future
kind_step other = Stream

abbrev pub kind_of_type : Option ValType → EndKind
kind_of_type None = Stream
kind_of_type (Some type) = kind_step (out-ValType type)

abbrev pub kind_among : List ValType → ℕ → EndKind
kind_among values number = kind_of_type (slice_get values number)

abbrev pub TypesTellKinds : Type 0
TypesTellKinds =
    (g : Graph) (values : List ValType) (funcs : List FuncType) (types : List (Option ℕ)) → HasTypes g values funcs types → TypesFit g types (kind_among values)

-- Of what stands for a world in which each end stands once all of this is so, where ends are marked.
abbrev pub EndsStandKept : Type 0
EndsStandKept =
    (g : Graph) (values : List ValType) (s : Script) (h : Held) (stacks : List (List Stack)) (w : World) → Stands g values s h stacks w → EndsStandOnce w → HasMarkedEnds h
    → EndsKept (kind_among values) h

-- Ends are marked behind a step in which values of a task are passed, arguments or a result, where they are kept before it, and marks are: types of values are distinct, and the
-- script passes no end.
abbrev pub HostPassesNone : Program → Type 0
HostPassesNone p = (call : ℕ) (values : List Value) → host_values p call ≡ Some values → ends_of values ≡ []

abbrev pub ScriptsPassNone : Type 0
ScriptsPassNone = (p : Program) → ScriptPassesNoEnd p.script.now → HostPassesNone p

abbrev pub IsOfTask : Passing → Type 0
IsOfTask passing.Nothing = ⊥
IsOfTask passing.Arguments = Unit {0}
IsOfTask passing.Returned = Unit {0}
IsOfTask (passing.Ended words) = Unit {0}
IsOfTask (passing.Elements copying) = ⊥

abbrev pub GivesMarked : {A : Type 0} → Done A → Type 0
GivesMarked (Gives x k) = HasMarkedEnds k
GivesMarked (Traps why k) = HasMarkedEnds k
GivesMarked (Spent k) = Unit {0}
GivesMarked Stuck = Unit {0}

abbrev pub PassingKeepsEnds : Type 0
PassingKeepsEnds =
    (p : Program) (K : ℕ → EndKind) (x : Passing) (piles : List PileView) (h : Held) (d : Done (Step × List PileView)) → AreDistinct p.types.now → HostPassesNone p → IsOfTask x → StepsSo p h x
    → HasMarks h → EndsKept K h → Steps Passes p x piles h d → GivesMarked d

-- So they are behind one in which elements go over, where the end of the call is of the type of the built-in, whose elements have the type of a number.
abbrev pub ElementsKeepEnds : Type 0
ElementsKeepEnds =
    (p : Program) (K : ℕ → EndKind) (copying : Copying) (piles : List PileView) (h : Held) (d : Done (Step × List PileView)) → AreDistinct p.types.now → HasEndOf p p.types.now h copying
    → MayBeAt p.types.now (value_of p copying.canon) (element_at p.graph.now copying.canon) → StepsSo p h (passing.Elements copying) → HasMarks h → EndsKept K h
    → Steps Passes p (passing.Elements copying) piles h d → GivesMarked d
