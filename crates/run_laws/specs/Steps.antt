-- A step as a whole (Component Model, CanonicalABI.md; Concurrency.md, "Summary"): whatever a step of the kept machine comes to, from any point, the machine comes to
-- by its steps, where a rule applies: where no task runs, where a stack runs, where task 0 instantiates, where a task is new, goes on, is back, calls or leaves,
-- and where values are to be passed.
use Rattle.std.specs.Prelude.{◌≡◌, ℕ, true, List, [], Some, IsSome, Ok}
use Rattle.std.specs.List.{slice_get}
use Rattle.wasm_store.specs.Stack.{Stack}
use Rattle.syntax_trees.specs.declared.types.FuncType.{FuncType}
use Rattle.syntax_trees.specs.declared.types.ValType.{ValType}
use Rattle.entry_gate.specs.Callbacks.{callback_of}
use Rattle.entry_gate.specs.declared.callback.Next.{Next}
use Rattle.tasks.specs.Tasks.{is_asked}
use Rattle.comp_graph.specs.declared.graph.CanonFunc.{CanonFunc}
use Rattle.comp_graph.specs.Graph.{Graph, Lifted}
use Rattle.script_reader.specs.Script.{Script}
use Rattle.trace_labels.specs.declared.label.Label.{Label}
use Rattle.instances.specs.declared.entry.EndEntry.{EndEntry}
use Rattle.instances.specs.declared.entry.WorldEntry.TheVariants as entry
use Rattle.task_table.specs.declared.caller.Called.{Called}
use Rattle.task_table.specs.declared.slot.TaskSlot.{TaskSlot}
use Rattle.programs.specs.declared.program.Program.{Program}
use Rattle.world_parts.specs.declared.parts.Flow.{Flow}
use Rattle.world_parts.specs.declared.parts.Flow.TheVariants as flow
use Rattle.world_parts.specs.declared.parts.Receiver as kept
use Rattle.world_parts.specs.declared.parts.Rest.{Rest}
use Rattle.world_parts.specs.declared.parts.Rest.TheVariants as rest
use Rattle.world_parts.specs.Held.{Held, Done, Gives}
use Rattle.world_stacks.specs.Views.{PileView}
use Rattle.value_parts.specs.declared.to_pass.Passing.{Passing}
use Rattle.value_parts.specs.declared.to_pass.Passing.TheVariants as passing
use Rattle.value_moves.specs.Passing.{Passes}
use Rattle.machine_runs.specs.declared.stepping.Step.{Step}
use Rattle.machine_runs.specs.Moving.{woken}
use Rattle.machine_runs.specs.Stepping.{Steps}
use Rattle.abi_machine.specs.World.{ForYield, ForSet, ForCall, ForCopy, ForCancel, Wait, New, Acting, AfterCall, AfterCancel, Begins, WaitsToEnter, InLoop, InBuiltin, Exited, TaskState, Task, World, first_world}
use Rattle.abi_machine.specs.Canons.{canon_at, inst_of_canon}
use Rattle.abi_machine.specs.Reading.{may_leave}
use Rattle.abi_machine.specs.Run.{Reaches}
use Rattle.standing.specs.Stands.{Stands}
use Rattle.standing.specs.Channels.{HasMarkedEnds}
use Rattle.standing.specs.EndReplies.{HasOpenCopy}
use Rattle.standing.specs.Events.{HasPlace}
use Rattle.standing.specs.Instantiates.{InitActs}
use Rattle.standing.specs.Moves.{Acts, KeepsGate, IsWaitedOn, LoopsAt, KeepsPlace, CallKept, StandsAt}
use Rattle.standing.specs.News.{KeepsWho, CopiesWait}
use Rattle.standing.specs.Waits.{KeepsCalls}
use Rattle.run_laws.specs.Answering.{HasWordsFor, CallsOwn, IsSoundAt, IsBeside, HasTypes}
use Rattle.run_laws.specs.Dispatch.{KeepsWords}
use Rattle.run_laws.specs.Passings.{MayPass}
use Rattle.run_laws.specs.Points.{InPassing, stacks_at}
use Rattle.run_laws.specs.Runs.{RuleAgrees}
use Rattle.run_laws.specs.Taking.{LendsMarked}
use Rattle.run_laws.specs.Turns.{IsProgram, CancelRow, TurnKept}

-- Of the call of another task it is kept what its caller is told next.
pub record IsCalled (h : Held) (t : ℕ) (f : Lifted) (callee : ℕ) : Type 0 where
  pub apart : callee ≡ t → ⊥
  pub slot : TaskSlot
  pub called : Called
  pub is_kept : CallKept h f.instance callee slot called

-- What is asked where a blocked task goes on, by what it was blocked at,
abbrev pub WaitWell : Held → World → ℕ → Lifted → List ℕ → Wait → Type 0
WaitWell h w t f words ForYield = KeepsGate h w f.instance
WaitWell h w t f words (ForSet index) = KeepsGate h w f.instance × KeepsPlace h t words × IsWaitedOn h f.instance index
WaitWell h w t f words (ForCall callee) = IsCalled h t f callee
WaitWell h w t f words (ForCopy index) = (e : EndEntry) × StandsAt h f.instance index (entry.End e) × HasOpenCopy w f.instance index × HasMarkedEnds h
WaitWell h w t f words (ForCancel index) = (callee : ℕ) × StandsAt h f.instance index (entry.Subtask callee) × IsCalled h t f callee

abbrev pub BlockedWell : Held → World → ℕ → Lifted → TaskState → Type 0
BlockedWell h w t f New = ⊥
BlockedWell h w t f Acting = ⊥
BlockedWell h w t f (AfterCall callee number words) = ⊥
BlockedWell h w t f (AfterCancel callee number words) = ⊥
BlockedWell h w t f (Begins n) = ⊥
BlockedWell h w t f WaitsToEnter = Unit {0}
BlockedWell h w t f (InLoop word) = (next : Next) × (callback_of word ≡ Ok next) × LoopsAt h f.instance next
BlockedWell h w t f (InBuiltin number words wait) = WaitWell h w t f words wait
BlockedWell h w t f Exited = ⊥

-- where control is back at a task that called or cancelled another one,
abbrev pub BackWell : Held → ℕ → Lifted → TaskState → Type 0
BackWell h t f New = ⊥
BackWell h t f Acting = ⊥
BackWell h t f (AfterCall callee number words) = IsCalled h t f callee
BackWell h t f (AfterCancel callee number words) = IsCalled h t f callee
BackWell h t f (Begins n) = ⊥
BackWell h t f WaitsToEnter = ⊥
BackWell h t f (InLoop word) = ⊥
BackWell h t f (InBuiltin number words wait) = ⊥
BackWell h t f Exited = ⊥

-- and where a task calls the canonical function of a number.
pub record CallWell (p : Program) (values : List ValType) (h : Held) (w : World) (t : ℕ) (task : Task) (number : ℕ) : Type 0 where
  pub funcs : List FuncType
  pub typed : HasTypes p.graph.now values funcs p.ends.now
  pub made : CanonFunc
  pub there : canon_at p.graph.now number ≡ Some made
  pub words : List ℕ
  pub keeps : KeepsWords h t words
  pub has : HasWordsFor made words
  pub func : Lifted
  pub own : may_leave w ≡ true → CallsOwn w t task func made
  pub inside : IsSome (slice_get w.insts (inst_of_canon made))
  pub sound : IsSoundAt p.graph.now w t (inst_of_canon made)
  pub beside : IsBeside p.graph.now h w t (inst_of_canon made)

-- The acting task, by where the run rests.
pub record RunsWell (w : World) (t : ℕ) (task : Task) (P : Lifted → Type 0) : Type 0 where
  pub func : Lifted
  pub acts : Acts w t task func
  pub well : P func

abbrev pub TaskWell : Program → List ValType → Held → World → ℕ → Task → Rest → Type 0
TaskWell p values h w t task (rest.Instantiates number) = (t ≡ 0) × InitActs w task
TaskWell p values h w t task rest.Free = ⊥
TaskWell p values h w t task rest.Arrives = RunsWell w t task (λ f. (task.state ≡ New) × KeepsGate h w f.instance)
TaskWell p values h w t task rest.Goes = Unit {0}
TaskWell p values h w t task rest.Resumes = RunsWell w t task (λ f. BlockedWell h w t f task.state)
TaskWell p values h w t task rest.Back = RunsWell w t task (λ f. BackWell h t f task.state)
TaskWell p values h w t task rest.Runs = Unit {0}
TaskWell p values h w t task (rest.Calls number) = CallWell p values h w t task number
TaskWell p values h w t task rest.Leaves = RunsWell w t task (λ f. (task.state ≡ Acting) × IsSome task.resolution)

-- Where an event comes to the acting task, or none, its place is inside a memory; and its set's members, their calls and their ends are kept right.
pub record HearsWell (g : Graph) (k : Held) (v : World) (t : ℕ) (r : kept.Receiver) : Type 0 where
  pub task : Task
  pub func : Lifted
  pub acts : Acts v t task func
  pub place : HasPlace g k v r

pub record NewsWell (g : Graph) (k : Held) (v : World) (at : ℕ) : Type 0 where
  pub ends : HasMarkedEnds k
  pub calls : KeepsCalls k at
  pub who : KeepsWho k v at
  pub copies : CopiesWait g v at

abbrev pub HearsBy : Graph → Held → World → ℕ → Flow → Type 0
HearsBy g k v t (flow.Now words) = Unit {0}
HearsBy g k v t flow.Rests = Unit {0}
HearsBy g k v t (flow.Starts ref words) = Unit {0}
HearsBy g k v t flow.Enters = Unit {0}
HearsBy g k v t flow.Returns = Unit {0}
HearsBy g k v t (flow.Copies copying) = Unit {0}
HearsBy g k v t (flow.Delivers r set) = (x : HearsWell g k v t r) × NewsWell g k v x.func.instance
HearsBy g k v t (flow.Polls r set) = (x : HearsWell g k v t r) × NewsWell g k v x.func.instance
HearsBy g k v t (flow.HearsNone r) = HearsWell g k v t r
HearsBy g k v t (flow.HearsCancel r) = (x : HearsWell g k v t r) × (is_asked x.task.cancellation ≡ true)

-- All that is asked of a move: of the acting task, and of what it hears.
pub record MayMove (p : Program) (values : List ValType) (s : Script) (h : Held) (w : World) : Type 0 where
  pub number : ℕ
  pub task : Task
  pub first : slice_get w.chain 0 ≡ Some number
  pub there : slice_get w.tasks number ≡ Some task
  pub well : TaskWell p values h w number task h.rest
  pub hears : (what : Flow) (k : Held) (now : List (List Stack)) (v : World) → woken p.graph.now p.ends.now h.rest h ≡ Gives what k → Stands p.graph.now values s k now v
      → HearsBy p.graph.now k v number what

-- Where no task runs: that the same tasks can go on, and that a cancellation of the script agrees. And where values are to be passed, for the acting task of
-- the world in the midst of the turn.
pub record MayTurn (p : Program) (values : List ValType) (s : Script) (h : Held) (piles : List PileView) (w : World) : Type 0 where
  pub named : IsProgram p.graph.now s p
  pub turns : TurnKept p.graph.now s h w
  pub cancels : CancelRow p.graph.now values s h (stacks_at piles) w

pub record PassesThere (p : Program) (values : List ValType) (s : Script) (h : Held) (w : World) (x : Passing) : Type 0 where
  pub number : ℕ
  pub task : Task
  pub func : Lifted
  pub may : MayPass p values s h w number task func x
  pub ends : HasMarkedEnds h
  pub lends : LendsMarked h.instances w

abbrev pub RestWell : Program → List ValType → Script → Held → List PileView → World → Rest → Type 0
RestWell p values s h piles w (rest.Instantiates number) = MayMove p values s h w
RestWell p values s h piles w rest.Free = MayTurn p values s h piles w
RestWell p values s h piles w rest.Arrives = MayMove p values s h w
RestWell p values s h piles w rest.Goes = MayMove p values s h w
RestWell p values s h piles w rest.Resumes = MayMove p values s h w
RestWell p values s h piles w rest.Back = MayMove p values s h w
RestWell p values s h piles w rest.Runs = Unit {0}
RestWell p values s h piles w (rest.Calls number) = MayMove p values s h w
RestWell p values s h piles w rest.Leaves = MayMove p values s h w

-- All that a step asks, at a point: no line was told ahead where a core function or a callback ended.
abbrev pub MayStep : (p : Program) (values : List ValType) (s : Script) (h : Held) (piles : List PileView) (x : Passing) (ahead : List Label) (w : World)
    → InPassing p.graph.now values s h (stacks_at piles) x ahead w → Type 0
MayStep p values s h piles passing.Nothing ahead w at = RestWell p values s h piles w h.rest
MayStep p values s h piles passing.Arguments ahead w at = PassesThere p values s h at.world passing.Arguments
MayStep p values s h piles passing.Returned ahead w at = PassesThere p values s h at.world passing.Returned
MayStep p values s h piles (passing.Ended words) ahead w at = (ahead ≡ []) × PassesThere p values s h at.world (passing.Ended words)
MayStep p values s h piles (passing.Elements copying) ahead w at = PassesThere p values s h at.world (passing.Elements copying)

-- In a world that the machine reaches.
abbrev pub IsReached : Graph → Script → World → Type 0
IsReached g s w = (steps : List (List Label)) × Reaches g s (first_world g) steps w

abbrev pub StepIsMade : Type 0
StepIsMade =
    (p : Program) (values : List ValType) (s : Script) (h : Held) (piles : List PileView) (x : Passing) (ahead : List Label) (w : World) (d : Done (Step × List PileView))
    → IsReached p.graph.now s w → h.labels ≡ [] → (at : InPassing p.graph.now values s h (stacks_at piles) x ahead w) → MayStep p values s h piles x ahead w at
    → Steps Passes p x piles h d → RuleAgrees p.graph.now values s ahead w d
