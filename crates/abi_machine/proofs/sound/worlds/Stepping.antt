-- A step of a typed world, but for what the core's instantiation does, leaves a typed world.
use Rattle.std.proofs.Common.{◌≡◌, ◌∙◌, ℕ, List, [], ◌∷◌, refl, sym, ap, subst, Option, Some, None}
use Rattle.std.specs.List.{slice_get}
use Rattle.syntax_trees.specs.declared.module_types.ValType.TheVariants.{I32}
use Rattle.wasm_numbers.specs.Types.{AreWords}
use Rattle.wasm_store.specs.Stack.{Stack}
use Rattle.wasm_store.specs.Store.{Store}
use Rattle.wasm_store.specs.Step.{Move, Goes, Traps, next}
use Rattle.wasm_store.specs.Step as core
use Rattle.comp_graph.specs.Graph.{Graph, Lifted, canon_type}
use Rattle.comp_graph.specs.declared.graph.CanonFunc.{CanonFunc}
use Rattle.script_reader.specs.Script.{Script}
use Rattle.script_reader.specs.declared.script.Item.{Item}
use Rattle.abi_machine.specs.Control.{Replies, Finishes, Then, Starts, Resolves, Transfers, Lowering, Receiver, InWait, InCallback, HostedState, Going, AtCall, Control, Free, Chosen, Instantiates, Runs, Calls, Arrives, Lowers, Quiet, Back, Goes as GoesOn, Resumes, Delivers, Leaves, Doomed}
use Rattle.abi_machine.specs.World.{InLoop, Acting, Task, World}
use Rattle.abi_machine.specs.LoweringOver.{Plan}
use Rattle.abi_machine.specs.Canons.{canon_at}
use Rattle.abi_machine.specs.Reading.{acting, func_of}
use Rattle.abi_machine.specs.Nested.{CallsHost, hosted_move, hosted_next}
use Rattle.abi_machine.specs.Next.{next_by}
use Rattle.abi_machine.specs.sound.Acting.{FollowsFor}
use Rattle.abi_machine.specs.sound.Answers.{IsAnswered, IsHostedAnswer, IsReceived, IsBehindLowering, IsOfActing, IsAtWait}
use Rattle.abi_machine.specs.sound.Firsts.{TaskIs, FirstIs}
use Rattle.abi_machine.specs.sound.GraphFuncs.{IsOfGraph}
use Rattle.abi_machine.specs.sound.Callees.{IsUsedGraph}
use Rattle.abi_machine.specs.sound.Copies.{IsCopied}
use Rattle.abi_machine.specs.sound.Fitting.{FitsCall, CopiesFit}
use Rattle.abi_machine.specs.sound.Subtasks.{AreSubtasks}
use Rattle.abi_machine.specs.sound.Tables.{HaveHistories}
use Rattle.abi_machine.specs.sound.TypedStacks.{core_results}
use Rattle.abi_machine.specs.sound.TypedSteps.{PassesFit}
use Rattle.abi_machine.specs.sound.TypedWorlds.{IsReceivedAt, Acts, IsGrounded, IsLoweringFor, Takes, memory_size, pending_then, pending_of}
use Rattle.abi_machine.specs.sound.Planned.{IsPlanned}
use Rattle.abi_machine.proofs.sound.Found.{some_same, acting_first, acting_is}
use Rattle.abi_machine.proofs.sound.worlds.Turns.{Good}
use Rattle.abi_machine.proofs.sound.worlds.Passing.{found_there}
use Rattle.abi_machine.proofs.sound.worlds.Waking.{Receives}
use Rattle.abi_machine.proofs.sound.worlds.Resuming.{word_takes, back_good, leaving_good, arriving_good, delivering_good, resuming_good}
use Rattle.abi_machine.proofs.sound.worlds.Called.{of_task, at_of}
use Rattle.abi_machine.proofs.sound.worlds.Replying.{calling_good}
use Rattle.abi_machine.proofs.sound.worlds.Moving.{running_good}
use Rattle.abi_machine.proofs.sound.worlds.Lowering.{StartsBare, AnswersFit, lowers_good}
use Rattle.abi_machine.proofs.sound.worlds.Nesting.{nested_good}
use Rattle.abi_machine.proofs.sound.worlds.Scheduling.{IsHosts, free_good, chosen_good, going_good}

-- what order says of the acting task
abbrev pub IsOrderedAt : Control → List ℕ → Task → Type 0
IsOrderedAt Runs chain x = x.state ≡ Acting
IsOrderedAt (Calls number words) chain x = x.state ≡ Acting
IsOrderedAt (Lowers l plan) chain x = (x.state ≡ Acting) × ((f : Lifted) × (func_of x.callee ≡ Some f)) × StartsBare l.next x × FollowsFor l.next chain
IsOrderedAt Resumes chain x = (word : ℕ) → x.state ≡ InLoop word → (x.stacks ≡ []) × (core_results x.callee ≡ I32 ∷ [])
IsOrderedAt (Delivers set (InWait number words) pick) chain x = x.state ≡ Acting
IsOrderedAt (Delivers set InCallback pick) chain x = (x.state ≡ Acting) × (x.stacks ≡ [])
IsOrderedAt control chain x = Unit {0}

-- what other laws say of the world
pub record Known (g : Graph) (s : Script) (c : Control) (w : World) : Type 0 where
  pub history : HaveHistories w.insts
  pub copied : IsCopied w
  pub subtasks : AreSubtasks g w.tasks w.insts
  pub copies : CopiesFit g w.streams w.futures
  pub callees : (t : ℕ) (x : Task) → slice_get w.tasks t ≡ Some x → IsOfGraph g x.callee × FitsCall g x.callee x.caller
  pub ordered : (a : ℕ × Task) → acting w ≡ Some a → IsOrderedAt c w.chain a.1
  pub passes : (i : Item) → slice_get s.items w.taken ≡ Some i → PassesFit g i
  pub hosts : IsHosts g w

-- what is answered behind a lowering, and where nested code is at a call
answers_fit : (n : Then) → AnswersFit (IsBehindLowering n) n
answers_fit Starts = tt
answers_fit (Resolves to Replies) = λ words h. h
answers_fit (Resolves to (Finishes ended)) = tt
answers_fit (Transfers copying) = λ words h. h

move_says : (g : Graph) (k : Stack) (s : Store) (m : Move) (number : ℕ) (words : List ℕ) (l : Stack) → hosted_move k s m ≡ CallsHost number words l → ⊥
move_says g k s (Goes paid t x) number words l e = cc
move_says g k s (core.Calls address passed x) number words l e = cc
move_says g k s (core.Ends passed) number words l e = cc
move_says g k s (Traps why) number words l e = cc
move_says g k s core.Stuck number words l e = cc

call_number : (number other : ℕ) (words others : List ℕ) (k l : Stack) → CallsHost number words k ≡ CallsHost other others l → number ≡ other
call_number number other words others k l e = cc

state_says : (g : Graph) (state : HostedState) (s : Store) (number : ℕ) (words : List ℕ) (l : Stack) → hosted_next state s ≡ CallsHost number words l → (c : CanonFunc) → canon_at g number ≡ Some c → (passed : List ℕ) → IsHostedAnswer g state passed → AreWords (canon_type c).results passed
state_says g (Going k) s number words l e c at passed h = absurd (move_says g k s (next s k) number words l e)
state_says g (AtCall other given k) s number words l e c at passed h = h c (ap (canon_at g) (call_number other number given words k l e) ∙ at)

module _ (g : Graph) (used : IsUsedGraph g) (s : Script) where
  receives : (c : Control) (set : ℕ) (r : Receiver) (pick : Option ℕ) (w : World) (a : ℕ × Task) (f : Lifted) → IsGrounded g w.store w.tasks w.insts None → FirstIs w.tasks w.chain (IsReceivedAt g w.store r) → IsOrderedAt (Delivers set r pick) w.chain a.1 → IsOfGraph g a.1.callee
      → acting w ≡ Some a → func_of a.1.callee ≡ Some f → Receives g (IsReceived r) used f r w a.0
  receives c set (InWait number words) pick w a f ground acts ordered of_graph e runs =
      let task_is : TaskIs w.tasks a.0 (IsReceivedAt g w.store (InWait number words)) = subst (λ (n : ℕ). TaskIs w.tasks n (IsReceivedAt g w.store (InWait number words))) (some_same (sym acts.1 ∙ acting_first w a e)) acts.2 in
      let own : IsReceivedAt g w.store (InWait number words) a.1 = of_task w.tasks a.0 (IsReceivedAt g w.store (InWait number words)) a.1 (acting_is w a e) task_is in
      (at_of g (IsReceived (InWait number words)) w a.0 (canon_type own.0.0).results (λ passed p. word_takes g number own.0.0 own.0.1 own.1 passed p) (record { ground = ground; first = acting_first w a e; is = (a.1, acting_is w a e, (ordered, own.0.2)) }), own.2)
  receives c set InCallback pick w a f ground acts ordered of_graph e runs =
      let task_is : TaskIs w.tasks a.0 (IsReceivedAt g w.store InCallback) = subst (λ (n : ℕ). TaskIs w.tasks n (IsReceivedAt g w.store InCallback)) (some_same (sym acts.1 ∙ acting_first w a e)) acts.2 in
      let own : core_results a.1.callee ≡ I32 ∷ [] = of_task w.tasks a.0 (IsReceivedAt g w.store InCallback) a.1 (acting_is w a e) task_is in
      record { ground = ground; first = acting_first w a e; is = (a.1, acting_is w a e, (ordered.0, runs, of_graph, ordered.1, own)) }

  acts_so : (x : Task) (o : Option (ℕ × Task)) (a : ℕ × Task) → o ≡ Some a → (words : List ℕ) → IsOfActing g o words → IsAtWait g a.1.state words
  acts_so x None a e words p = absurd p
  acts_so x (Some b) a e words p = subst (λ (y : ℕ × Task). IsAtWait g y.1.state words) (some_same e) p

  lowers_of : (l : Lowering) (plan : Plan) (w : World) → Known g s (Lowers l plan) w → IsGrounded g w.store w.tasks w.insts (pending_then l.next) → FirstIs w.tasks w.chain (λ task. IsLoweringFor w.store l task × IsPlanned (Takes g l.next task) (memory_size w.store l.memory) plan)
      → Good g (IsBehindLowering l.next) (next_by g s w (Lowers l plan))
  lowers_of l plan w known ground acts =
      let t : ℕ = acts.0 in
      let x : Task = acts.2.0 in
      let there : slice_get w.tasks t ≡ Some x = acts.2.1 in
      let a : ℕ × Task = (t, x) in
      let ordered : IsOrderedAt (Lowers l plan) w.chain x = known.ordered a (found_there w.tasks (slice_get w.chain 0) t x acts.1 there) in
      lowers_good g (IsBehindLowering l.next) used l plan w t x (answers_fit l.next) known.history ground
      (record { first = acts.1; there = there; acts = ordered.0; of_graph = (known.callees t x there).0; func = ordered.1.0; runs = ordered.1.1; bare = ordered.2; follows = ordered.3 }) acts.2.2.0 acts.2.2.1

  -- by control
  pub each_good : (c : Control) (w : World) → ((n : ℕ) → c ≡ Instantiates n → ⊥) → Known g s c w → IsGrounded g w.store w.tasks w.insts (pending_of c) → Acts g c w.store w.tasks w.chain → Good g (IsAnswered g c (acting w)) (next_by g s w c)
  each_good Free w not known ground acts = free_good g (IsAnswered g Free (acting w)) s w ground known.passes known.hosts
  each_good (Chosen k) w not known ground acts = chosen_good g (IsAnswered g (Chosen k) (acting w)) s k w ground known.passes known.hosts
  each_good (Instantiates n) w not known ground acts = absurd (not n refl)
  each_good Runs w not known ground acts =
      running_good g (IsAnswered g Runs (acting w)) used s w (λ passed p. p) ground acts
      (λ a e. (let own = known.callees a.0 a.1 (acting_is w a e) in record { first = acting_first w a e; there = acting_is w a e; acts = known.ordered a e; of_graph = own.0; fits = own.1 }))
  each_good (Calls number words) w not known ground acts =
      calling_good g (IsAnswered g (Calls number words) (acting w)) used number words w ground acts
      (λ a e. (let own = known.callees a.0 a.1 (acting_is w a e) in (known.ordered a e, record { there = acting_is w a e; of_graph = own.0; fits = own.1; subtasks = known.subtasks; copies = known.copies })))
      (λ c at passed p. p c at)
  each_good Arrives w not known ground acts = arriving_good g (IsAnswered g Arrives (acting w)) used w ground (λ a e. (known.callees a.0 a.1 (acting_is w a e)).0)
  each_good (Lowers l plan) w not known ground acts = lowers_of l plan w known ground acts
  each_good (Quiet n b) w not known ground acts = nested_good g (IsHostedAnswer g n.state) s n b w ground acts.0 acts.1 (state_says g n.state w.store)
  each_good Back w not known ground acts = back_good g (IsAnswered g Back (acting w)) w ground (λ a e words p. acts_so a.1 (acting w) a e words p)
  each_good GoesOn w not known ground acts = going_good g (IsAnswered g GoesOn (acting w)) s w ground
  each_good Resumes w not known ground acts =
      resuming_good g (IsAnswered g Resumes (acting w)) used w ground (λ a e. ((known.callees a.0 a.1 (acting_is w a e)).0, known.ordered a e)) (λ a e words p. acts_so a.1 (acting w) a e words p)
  each_good (Delivers set receiver pick) w not known ground acts =
      delivering_good g (IsAnswered g (Delivers set receiver pick) (acting w)) used s set receiver pick w known.copied known.history ground acts
      (λ a f e runs. receives (Delivers set receiver pick) set receiver pick w a f ground acts (known.ordered a e) (known.callees a.0 a.1 (acting_is w a e)).0 e runs)
  each_good Leaves w not known ground acts = leaving_good g (IsAnswered g Leaves (acting w)) w ground
  each_good (Doomed t why) w not known ground acts = tt
