-- Core code that moves, values that are lowered, and nested code leave stores that extend the one before.
use Rattle.std.proofs.Common.{◌≡◌, ◌∙◌, ◌<◌, ◌^◌, ℕ, true, List, [], ◌∷◌, drop, refl, sym, subst, arith, Option, Some, None, Result, Ok, Err}
use Rattle.std.specs.Prelude.{is_none, nat_eq}
use Rattle.std.specs.List.{slice_get, AllByRecursion}
use Rattle.syntax_trees.specs.declared.module_types.ValType as core_val
use Rattle.syntax_trees.specs.declared.module_types.ValType.TheVariants.{I32}
use Rattle.wasm_numbers.specs.Types.{AreWords}
use Rattle.wasm_store.specs.Store.{Store, found_at}
use Rattle.wasm_store.specs.Stack.{Stack}
use Rattle.wasm_store.specs.Step.{Move, Goes as Moves, Traps}
use Rattle.wasm_store.specs.Step as core
use Rattle.wasm_store.specs.Typed.{StackTyped}
use Rattle.wasm_store.proofs.Lists.{all_at}
use Rattle.entry_gate.specs.Callbacks.{callback_of}
use Rattle.entry_gate.specs.declared.kind.Kind.{Kind}
use Rattle.entry_gate.specs.declared.kind.Kind.TheVariants.{Sync, Callback, Stackful}
use Rattle.entry_gate.specs.declared.callback.BadCode.{BadCode}
use Rattle.entry_gate.specs.declared.callback.Next.{Next}
use Rattle.entry_gate.specs.declared.callback.Next.TheVariants as word
use Rattle.handle_table.specs.History.{Event, IsHistory}
use Rattle.builtin_kinds.specs.declared.ContextOp.TheVariants as context_op
use Rattle.builtin_kinds.specs.declared.ResourceOp.TheVariants as resource_op
use Rattle.comp_graph.specs.declared.graph.BuiltinKind.{BuiltinKind}
use Rattle.comp_graph.specs.declared.graph.BuiltinKind.TheVariants as kind
use Rattle.comp_graph.specs.declared.graph.CanonFunc.{CanonFunc}
use Rattle.comp_graph.specs.declared.graph.CanonFunc.TheVariants as canon
use Rattle.comp_graph.specs.Needs.{flat_result_limit}
use Rattle.comp_graph.specs.Graph.{Graph, Lifted}
use Rattle.script_reader.specs.Script.{Script}
use Rattle.trace_labels.specs.declared.label.Label.TheVariants as line
use Rattle.trace_labels.specs.declared.label.BlockReason.TheVariants as reason
use Rattle.trace_labels.specs.declared.trap.TrapName.{TrapName}
use Rattle.trace_labels.specs.declared.trap.TrapName.TheVariants as trap
use Rattle.lowering_laws.proofs.Stores.{GoesOn}
use Rattle.abi_machine.specs.LoweringOver.{Plan}
use Rattle.abi_machine.specs.Control.{Finishes, Copying, Then, Starts, Resolves, Transfers, Lowering, Nested, Behind, InLowering, BeforeLeaving, HostedState, Going, AtCall}
use Rattle.abi_machine.specs.World.{Entry, Inst, Callee, TaskState, New, Acting, AfterCall, AfterCancel, Begins, WaitsToEnter, InLoop, InBuiltin, Exited, Task, World}
use Rattle.abi_machine.specs.Edits.{unstacked, result_kept}
use Rattle.abi_machine.specs.Canons.{func_address, bytes_of, inst_of_canon, builtin_of, canon_at}
use Rattle.abi_machine.specs.Reading.{table_in, table_of, channel_at, acting, func_of, kind_of}
use Rattle.abi_machine.specs.Finding.{set_at}
use Rattle.abi_machine.specs.Traps.{core_name}
use Rattle.abi_machine.specs.Pausing.{Paused, Words, Failed, Asked, Settled, settle}
use Rattle.abi_machine.specs.Turn.{doomed}
use Rattle.abi_machine.specs.Looping.{next_turn, looping_turn}
use Rattle.abi_machine.specs.CoreSteps.{costs, func_ended, stack_ended, ended_over, moved, running_turn}
use Rattle.abi_machine.specs.Copying.{transferring_turn}
use Rattle.abi_machine.specs.Lowering.{started, lowered, paused, left_by, settled_turn, lowers_turn}
use Rattle.abi_machine.specs.Returning.{returning_turn, ending_turn, leaving_turn}
use Rattle.abi_machine.specs.Nested.{HostedTurn, On as StepsOn, EndsIn, TrapsBy, CallsHost, NoRule, hosted_move, hosted_next, nested_ended, answered_in_place, answered_or_refused, calls_host, hosted, nested_turn}
use Rattle.abi_machine.specs.replies.Context.{Answers, Exempt, rep_answered, exempt_kind, exempt_of}
use Rattle.abi_machine.specs.sound.Changes.{IsFirst}
use Rattle.abi_machine.specs.sound.Firsts.{TaskIs, FirstIs}
use Rattle.abi_machine.specs.sound.Tables.{HaveHistories}
use Rattle.abi_machine.specs.sound.Planned.{EventHasRep, HaveReps, IsPlanned, IsSettled}
use Rattle.abi_machine.specs.sound.TypedStacks.{gives, TopIs, RunsTyped, HostedTyped, nested_results}
use Rattle.abi_machine.specs.sound.TypedWorlds.{memory_size, Takes, IsBehindFor, PutInside}
use Rattle.abi_machine.proofs.sound.Found.{some_same, acting_first, acting_is}
use Rattle.abi_machine.proofs.sound.planned.Passing.{settles}
use Rattle.abi_machine.proofs.sound.planned.Reps.{memory_bytes}
use Rattle.abi_machine.proofs.sound.worlds.Called.{of_task}
use Rattle.abi_machine.proofs.sound.worlds.Grounds.{rewritten_goes_on}
use Rattle.abi_machine.proofs.sound.worlds.Moving.{MoveFine, moves_fine}
use Rattle.reach_laws.proofs.Leaving.{Leaves, behind_leaves, given_leaves, either_leaves, unless_leaves, refused_leaves, charged_leaves, func_leaves}
use Rattle.reach_laws.proofs.growing.Stores.{IsOn, Grown, goes_on, behind_inside}
use Rattle.reach_laws.proofs.growing.Passing.{resolves_grows, finished_grows}
use Rattle.reach_laws.proofs.growing.Waking.{on_channel, blocked_grows}

-- the acting stack of typed ones
top_typed : (s : Store) (callee : Callee) (stacks : List Stack) (k : Stack) → slice_get stacks 0 ≡ Some k → TopIs (StackTyped s) s callee stacks → StackTyped s (gives callee (drop 1 stacks)) k
top_typed s callee [] k e h = cc
top_typed s callee (x ∷ under) k e h = subst (λ (y : Stack). StackTyped s (gives callee under) y) (some_same e) h.0

-- what a move leaves
abbrev pub MoveOn : Store → Move → Type 0
MoveOn s (Moves paid t k) = GoesOn s t
MoveOn s move = Unit {0}

move_on : (s : Store) (results : List core_val.ValType) (m : Move) → MoveFine s results m → MoveOn s m
move_on s results (Moves paid t k) h = h.0
move_on s results (core.Calls address words k) h = tt
move_on s results (core.Ends words) h = tt
move_on s results (Traps why) h = tt
move_on s results core.Stuck h = tt

-- a table as it is in an instance that is there, or none
table_history : (o : Option Inst) → ((x : Inst) → o ≡ Some x → IsHistory x.table) → IsHistory (table_in o)
table_history None h = tt
table_history (Some x) h = h x refl

table_reps : (o : Option Inst) → ((x : Inst) → o ≡ Some x → AllByRecursion EventHasRep x.table) → AllByRecursion EventHasRep (table_in o)
table_reps None h = tt
table_reps (Some x) h = h x refl

-- what is left of a lowering of elements
inside_then : (g : Graph) (n : Then) (memory : Option ℕ) (plan : Plan) (s : Store) (x : Task) → IsPlanned (Takes g n x) (memory_size s memory) plan → PutInside n memory plan s
inside_then g Starts memory plan s x h = tt
inside_then g (Resolves to follows) memory plan s x h = tt
inside_then g (Transfers copying) memory plan s x h = h

low_place : (types : List core_val.ValType) (place : ℕ) (words : List ℕ) → AreWords (I32 ∷ types) (place ∷ words) → place < 2 ^ 32
low_place types place words h = h.0

module _ (g : Graph) (s : Store) where
  abbrev Fine : World → Type 0
  Fine v = Grown s v

  abbrev On : World → Type 0
  On w = IsOn s w.store

  ending_grows : (t : ℕ) (task : Task) (w : World) → On w → Leaves Fine (ending_turn t task w)
  unfolding ending_turn
  ending_grows t task w h = unless_leaves Fine t (is_none task.resolution) trap.Unresolved w _ (h, tt) (λ e. (h, tt))

  pub leaving_grows : (w : World) → On w → Leaves Fine (leaving_turn w)
  unfolding leaving_turn
  leaving_grows w h = given_leaves Fine (acting w) _ (λ a e. (h, behind_inside (drop 1 w.chain) w.store))

  -- Loops, and the ends of core functions.
  next_grows : (t : ℕ) (task : Task) (i said : ℕ) (r : Result Next BadCode) (w : World) → On w → Leaves Fine (next_turn t task i said r w)
  unfolding next_turn
  next_grows t task i said (Err why) w h = (h, tt)
  next_grows t task i said (Ok word.Exit) w h = ending_grows t task w h
  next_grows t task i said (Ok word.Yield) w h = blocked_grows g s t (InLoop said) reason.Yield w h
  next_grows t task i said (Ok (word.Wait set)) w h = refused_leaves Fine t (set_at w i set) w _ (λ why. (h, tt)) (λ number e. blocked_grows g s t (InLoop said) (reason.Wait set) w h)
  next_grows t task i said (Ok (word.Poll set)) w h = refused_leaves Fine t (set_at w i set) w _ (λ why. (h, tt)) (λ number e. blocked_grows g s t (InLoop said) (reason.Poll set) w h)

  looping_grows : (t : ℕ) (task : Task) (i : ℕ) (words : List ℕ) (w : World) → On w → Leaves Fine (looping_turn t task i words w)
  unfolding looping_turn
  looping_grows t task i [] w h = tt
  looping_grows t task i (said ∷ words) w h = next_grows t task i said (callback_of said) w h

  func_ended_grows : (t : ℕ) (task : Task) (f : Lifted) (k : Kind) (words : List ℕ) (w : World) → On w → Leaves Fine (func_ended g t task f k words w)
  unfolding func_ended returning_turn
  func_ended_grows t task f Sync words w h = resolves_grows g s t task (Finishes words) f.instance flat_result_limit f.func_type.result f.options words w h
  func_ended_grows t task f Stackful words w h = ending_grows t task w h
  func_ended_grows t task f Callback words w h = looping_grows t task f.instance words w h

  stack_ended_grows : (t : ℕ) (task : Task) (state : TaskState) (words : List ℕ) (w : World) → On w → Leaves Fine (stack_ended g t task state words w)
  unfolding stack_ended
  stack_ended_grows t task (Begins n) words w h = (h, tt)
  stack_ended_grows t task Acting words w h = given_leaves Fine (func_of task.callee) _ (λ f e. func_ended_grows t task f (kind_of task) words w h)
  stack_ended_grows t task New words w h = tt
  stack_ended_grows t task (AfterCall callee number passed) words w h = tt
  stack_ended_grows t task (AfterCancel callee number passed) words w h = tt
  stack_ended_grows t task WaitsToEnter words w h = tt
  stack_ended_grows t task (InLoop said) words w h = tt
  stack_ended_grows t task (InBuiltin number passed wait) words w h = tt
  stack_ended_grows t task Exited words w h = tt

  ended_over_grows : (t : ℕ) (task : Task) (under : List Stack) (words : List ℕ) (w : World) → On w → Leaves Fine (ended_over g t task under words w)
  unfolding ended_over
  ended_over_grows t task [] words w h = stack_ended_grows t task task.state words w h
  ended_over_grows t task (k ∷ under) words w h = (h, tt)

  moved_grows : (t : ℕ) (task : Task) (move : Move) (w : World) → On w → MoveOn w.store move → Leaves Fine (moved g t task move w)
  unfolding moved
  moved_grows t task (Moves paid x k) w h m = (goes_on s w.store x h m, tt)
  moved_grows t task (core.Calls address words k) w h m = (h, tt)
  moved_grows t task (core.Ends words) w h m = ended_over_grows t task (drop 1 task.stacks) words (unstacked t w) h
  moved_grows t task (Traps why) w h m = (h, tt)
  moved_grows t task core.Stuck w h m = tt

  pub running_grows : (script : Script) (w : World) → FirstIs w.tasks w.chain (RunsTyped w.store) → On w → Leaves Fine (running_turn g script w)
  unfolding running_turn
  running_grows script w runs h =
      given_leaves Fine (acting w) _ (λ a e. given_leaves Fine (slice_get a.1.stacks 0) _ (λ (k : Stack) i.
      charged_leaves Fine (costs k (core.next w.store k)) script w (λ v. moved g a.0 a.1 (core.next w.store k) v)
      (λ units. moved_grows a.0 a.1 (core.next w.store k) (record w { units = units }) h (fine_move a.0 a.1 k (acting_first w a e) (acting_is w a e) i))))
    where
      fine_move : (t : ℕ) (task : Task) (k : Stack) → IsFirst t w.chain → slice_get w.tasks t ≡ Some task → slice_get task.stacks 0 ≡ Some k → MoveOn w.store (core.next w.store k)
      fine_move t task k first there top =
          let task_is : TaskIs w.tasks t (RunsTyped w.store) = subst (λ (n : ℕ). TaskIs w.tasks n (RunsTyped w.store)) (some_same (sym runs.1 ∙ first)) runs.2 in
          let own : RunsTyped w.store task = of_task w.tasks t (RunsTyped w.store) task there task_is in
          let results : List core_val.ValType = gives task.callee (drop 1 task.stacks) in
          move_on w.store results (core.next w.store k) (moves_fine w.store results k h.typed h.bytes (top_typed w.store task.callee task.stacks k top own))

  -- Lowerings.
  transferring_grows : (copying : Copying) (w : World) → On w → Leaves Fine (transferring_turn copying w)
  unfolding transferring_turn
  transferring_grows copying w h =
      given_leaves Fine (acting w) _ (λ a e. given_leaves Fine (channel_at w copying.end.kind copying.end.number) _ (λ c i.
      (on_channel s copying.end.kind copying.end.number _ _ (on_channel s copying.end.kind copying.end.number _ w h), tt)))

  started_grows : (words : List ℕ) (w : World) → On w → Leaves Fine (started words w)
  unfolding started
  started_grows words w h = func_leaves Fine w _ (λ a f e k. given_leaves Fine (found_at w.store.funcs (func_address w.store f.core)) _ (λ function j. (h, tt)))

  lowered_grows : (follows : Then) (words : List ℕ) (w : World) → On w → Leaves Fine (lowered follows words w)
  unfolding lowered
  lowered_grows Starts words w h = started_grows words w h
  lowered_grows (Resolves to follows) words w h = finished_grows g s follows (result_kept to words w) h
  lowered_grows (Transfers copying) words w h = transferring_grows copying w h

  paused_grows : (l : Lowering) (p : Paused) (w : World) → On w → Leaves Fine (paused l p w)
  unfolding paused
  paused_grows l (Words words) w h = lowered_grows l.next words w h
  paused_grows l (Failed why) w h = (h, tt)
  paused_grows l (Asked ask k) w h = given_leaves Fine (found_at w.store.funcs l.realloc) _ (λ f e. (h, tt))

  pub lowers_grows : (l : Lowering) (plan : Plan) (x : Task) (w : World) → HaveHistories w.insts → HaveReps w.insts → IsPlanned (Takes g l.next x) (memory_size w.store l.memory) plan → On w → Leaves Fine (lowers_turn l plan w)
  unfolding lowers_turn settled_turn
  lowers_grows l plan x w history reps planned h =
      let old : List ℕ = bytes_of w.store l.memory in
      let table : List (Event Entry) = table_of w l.inst in
      let done : Settled = settle l.acts_for plan old table in
      let settled : IsSettled (Takes g l.next x) old done = settles (Takes g l.next x) l.acts_for plan old table planned (memory_bytes w.store l.memory h.bytes)
      (table_reps (slice_get w.insts l.inst) (λ y e. all_at (λ (z : Inst). AllByRecursion EventHasRep z.table) w.insts l.inst y reps e))
      (table_history (slice_get w.insts l.inst) (λ y e. all_at (λ (z : Inst). IsHistory z.table) w.insts l.inst y history e)) in
      let v : World = left_by l done w in
      let on : GoesOn w.store v.store = rewritten_goes_on w.store l.memory done.bytes h.typed h.bytes settled.long settled.are in
      paused_grows l done.paused v (goes_on s w.store v.store h on)

  -- Nested code.
  abbrev HostedOn : Store → HostedTurn → Type 0
  HostedOn x (StepsOn paid state t) = IsOn s t
  HostedOn x turn = Unit {0}

  move_hosted : (x : Store) (k : Stack) (m : Move) → IsOn s x → MoveOn x m → HostedOn x (hosted_move k x m)
  move_hosted x k (Moves paid t l) h m = goes_on s x t h m
  move_hosted x k (core.Calls number words l) h m = h
  move_hosted x k (core.Ends words) h m = tt
  move_hosted x k (Traps why) h m = tt
  move_hosted x k core.Stuck h m = tt

  next_hosted : (x : Store) (results : List core_val.ValType) (state : HostedState) → IsOn s x → HostedTyped g x results state → HostedOn x (hosted_next state x)
  next_hosted x results (Going k) h typed = move_hosted x k (core.next x k) h (move_on x results (core.next x k) (moves_fine x results k h.typed h.bytes typed))
  next_hosted x results (AtCall number words k) h typed = tt

  -- the words with which it ends are of its types
  abbrev EndsWith : List core_val.ValType → HostedTurn → Type 0
  EndsWith results (EndsIn words) = AreWords results words
  EndsWith results turn = Unit {0}

  move_ends : (x : Store) (results : List core_val.ValType) (k : Stack) (m : Move) → MoveFine x results m → EndsWith results (hosted_move k x m)
  move_ends x results k (Moves paid t l) m = tt
  move_ends x results k (core.Calls number words l) m = tt
  move_ends x results k (core.Ends words) m = m
  move_ends x results k (Traps why) m = tt
  move_ends x results k core.Stuck m = tt

  next_ends : (x : Store) (results : List core_val.ValType) (state : HostedState) → IsOn s x → HostedTyped g x results state → EndsWith results (hosted_next state x)
  next_ends x results (Going k) h typed = move_ends x results k (core.next x k) (moves_fine x results k h.typed h.bytes typed)
  next_ends x results (AtCall number words k) h typed = tt

  ended_grows : (b : Behind) (words : List ℕ) (w : World) → FirstIs w.tasks w.chain (IsBehindFor g w.store b) → AreWords (nested_results b) words → On w → Leaves Fine (nested_ended b words w)
  unfolding nested_ended
  ended_grows (InLowering l k) (place ∷ words) w first are h =
      let own : IsBehindFor g w.store (InLowering l k) first.2.0 = first.2.2 in
      (h, inside_then g l.next l.memory (k place) w.store first.2.0 (own.1 place (memory_size w.store l.memory) (low_place [] place words are) (omega arith)))
  ended_grows (InLowering l k) [] w first are h = tt
  ended_grows BeforeLeaving words w first are h = (h, tt)

  -- calls that are answered in place
  abbrev AnswersOn : Result Answers TrapName → Type 0
  AnswersOn (Ok answer) = On answer.world
  AnswersOn (Err why) = Unit {0}

  abbrev pub IfAnswered : World → Option Exempt → Type 0
  IfAnswered w None = Unit {0}
  IfAnswered w (Some exempt) = AnswersOn (exempt w)

  rep_on : (w : World) (r : Result ℕ TrapName) → On w → AnswersOn (rep_answered w r)
  rep_on w (Ok rep) h = h
  rep_on w (Err why) h = tt

  kind_on : (t : ℕ) (words : List ℕ) (i : ℕ) (k : BuiltinKind) (w : World) → On w → IfAnswered w (exempt_kind t words i k)
  kind_on t words i (kind.Context context_op.Get slot) w h = h
  kind_on t words i (kind.Context context_op.Set slot) w h = h
  kind_on t words i (kind.Resource resource_op.Rep resource) w h = rep_on w _ h
  kind_on t words i (kind.Resource resource_op.New resource) w h = tt
  kind_on t words i (kind.Resource resource_op.Drop resource) w h = tt
  kind_on t words i (kind.TaskReturn result options) w h = tt
  kind_on t words i (kind.Plain op) w h = tt
  kind_on t words i (kind.Wait op cancellable memory) w h = tt
  kind_on t words i (kind.End what element op) w h = tt

  pub exempt_on : (t : ℕ) (words : List ℕ) (c : CanonFunc) (w : World) → On w → IfAnswered w (exempt_of t words c)
  exempt_on t words (canon.Lower l) w h = tt
  exempt_on t words (canon.Builtin b) w h = kind_on t words b.instance b.kind w h

  in_place_grows : (n : Nested) (b : Behind) (k : Stack) (r : Result Answers TrapName) (w : World) → AnswersOn r → On w → Leaves Fine (answered_in_place n b k r w)
  unfolding answered_in_place
  in_place_grows n b k (Ok answer) w on h = (on, tt)
  in_place_grows n b k (Err why) w on h = (h, tt)

  or_refused_grows : (n : Nested) (b : Behind) (k : Stack) (o : Option Exempt) (w : World) → IfAnswered w o → On w → Leaves Fine (answered_or_refused n b k o w)
  unfolding answered_or_refused
  or_refused_grows n b k None w on h = (h, tt)
  or_refused_grows n b k (Some exempt) w on h = in_place_grows n b k (exempt w) w on h

  host_grows : (n : Nested) (b : Behind) (k : Stack) (words : List ℕ) (c : CanonFunc) (w : World) → On w → Leaves Fine (calls_host n b k words c w)
  unfolding calls_host
  host_grows n b k words c w h =
      either_leaves Fine (nat_eq (inst_of_canon c) n.inst) _ _
      (λ own. behind_leaves Fine (line.Do n.acts_for (builtin_of c) words ∷ []) (answered_or_refused n b k (exempt_of n.acts_for words c) w) (or_refused_grows n b k (exempt_of n.acts_for words c) w (exempt_on n.acts_for words c w h) h))
      (λ other. tt)

  hosted_grows : (script : Script) (n : Nested) (b : Behind) (m : HostedTurn) (w : World) → FirstIs w.tasks w.chain (IsBehindFor g w.store b) → HostedOn w.store m → EndsWith (nested_results b) m → On w → Leaves Fine (hosted g script n b m w)
  unfolding hosted
  hosted_grows script n b (StepsOn paid state t) w first on ends h = charged_leaves Fine paid script w _ (λ units. (on, tt))
  hosted_grows script n b (EndsIn words) w first on ends h = ended_grows b words w first ends h
  hosted_grows script n b (TrapsBy why) w first on ends h = charged_leaves Fine true script w (λ v. doomed n.blame (core_name why) v) (λ units. (h, tt))
  hosted_grows script n b (CallsHost number words k) w first on ends h = given_leaves Fine (canon_at g number) _ (λ c at. host_grows n b k words c w h)
  hosted_grows script n b NoRule w first on ends h = tt

  pub nested_grows : (script : Script) (n : Nested) (b : Behind) (w : World) → HostedTyped g w.store (nested_results b) n.state → FirstIs w.tasks w.chain (IsBehindFor g w.store b) → On w → Leaves Fine (nested_turn g script n b w)
  unfolding nested_turn
  nested_grows script n b w typed first h =
      hosted_grows script n b (hosted_next n.state w.store) w first (next_hosted w.store (nested_results b) n.state h typed) (next_ends w.store (nested_results b) n.state h typed) h
