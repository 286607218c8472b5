-- What tasks make of themselves answers words of the types that are asked for: calls and cancellations that are over, results, entry, events and copies.
use Rattle.std.proofs.Common.{◌≡◌, ◌<◌, ◌+◌, ◌^◌, ℕ, Bool, true, false, nat_lt, List, [], ◌∷◌, ◌++◌, refl, arith, Option, Some, None, Result, Ok, Err, if◌then◌else◌}
use Rattle.std.specs.Prelude.{is_none, drop}
use Rattle.std.specs.List.{slice_get}
use Rattle.wasm_store.specs.Store.{found_at}
use Rattle.wasm_store.specs.Stack.{Stack}
use Rattle.wasm_store.specs.Step.{Move, Goes as Moves, Traps}
use Rattle.wasm_store.specs.Step as core
use Rattle.syntax_trees.specs.declared.types.ValType.{ValType}
use Rattle.syntax_trees.specs.declared.types.FuncType.{FuncType}
use Rattle.entry_gate.specs.Callbacks.{callback_of}
use Rattle.entry_gate.specs.declared.kind.Kind.{Kind}
use Rattle.entry_gate.specs.declared.kind.Kind.TheVariants.{Sync, Callback, Stackful}
use Rattle.entry_gate.specs.declared.callback.BadCode.{BadCode}
use Rattle.entry_gate.specs.declared.callback.Next.{Next}
use Rattle.entry_gate.specs.declared.callback.Next.TheVariants as word
use Rattle.value_lift.specs.declared.trap.LiftTrap.{LiftTrap}
use Rattle.value_lift.specs.Answers.{counted}
use Rattle.res_handles.specs.declared.handle.Handle.{Handle}
use Rattle.res_handles.specs.declared.refusal.Refusal.{Refusal}
use Rattle.res_handles.specs.Refusals.{handle_in, own_in}
use Rattle.tasks.specs.Tasks.{cancel_case, resolving_fault}
use Rattle.tasks.specs.declared.event.Asked.{Asked}
use Rattle.tasks.specs.declared.event.Asked.TheVariants.{Removed, ResumeNow, Pending}
use Rattle.tasks.specs.declared.phase.Resolution.TheVariants.{Returned}
use Rattle.comp_graph.specs.declared.graph.FuncRef.{FuncRef}
use Rattle.comp_graph.specs.declared.graph.Options.{Options}
use Rattle.comp_graph.specs.Needs.{flat_result_limit}
use Rattle.comp_graph.specs.Graph.{Graph, Lifted}
use Rattle.script_reader.specs.Script.{Script}
use Rattle.trace_labels.specs.declared.label.Label.{Label}
use Rattle.trace_labels.specs.declared.label.Label.TheVariants as line
use Rattle.trace_labels.specs.declared.trap.TrapName.{TrapName}
use Rattle.trace_labels.specs.declared.trap.TrapName.TheVariants as trap
use Rattle.trace_labels.specs.declared.typed.TypedValue.{TypedValue}
use Rattle.abi_machine.specs.declared.run_end.RunEnd.TheVariants.{Fuel}
use Rattle.abi_machine.specs.Traps.{task_name}
use Rattle.abi_machine.specs.LiftingOver.{Use, What, AnOwn, ABorrow, AnEnd, load_by, lift_flat_by}
use Rattle.abi_machine.specs.LiftingOver as over
use Rattle.abi_machine.specs.Control.{After, Replies, Finishes, EventCode, NoEvent, SubtaskEvent, TaskCancelled, Receiver, InWait, InCallback, Control}
use Rattle.abi_machine.specs.World.{Entry, OwnHandle, BorrowHandle, OfSubtask, OfSet, OfEnd, Callee, Subtask, Caller, Nobody, Host, Guest, Wait, ForYield, ForSet, ForCall, ForCopy, ForCancel, TaskState, New, Acting, AfterCall, AfterCancel, WaitsToEnter, InLoop, InBuiltin, Exited, Task, Channel, World}
use Rattle.abi_machine.specs.World as world
use Rattle.abi_machine.specs.Edits.{unit_spent, in_state, resolved, unstacked}
use Rattle.abi_machine.specs.Canons.{func_address, canon_at, inst_of_canon}
use Rattle.abi_machine.specs.Reading.{entry_at, task_at, acting, func_of, kind_of, subtask_of, is_reentrant}
use Rattle.abi_machine.specs.Counting.{task_view, has_resolved, ready, view_at}
use Rattle.abi_machine.specs.Gate.{is_entry_free}
use Rattle.abi_machine.specs.Finding.{set_at}
use Rattle.abi_machine.specs.Lifting.{Kept, Stopped, Came, by_world, own_taken, borrow_taken, end_taken, taken_as, spent_so, once_lifted}
use Rattle.abi_machine.specs.Lifting as lifting
use Rattle.abi_machine.specs.Passing.{params_type, arguments_lifted, result_lifted, elements_lifted}
use Rattle.abi_machine.specs.Turn.{Turn, Steps, Ends, Stuck, behind, doomed, given, unless_refused, unless, unless_fault, with_func, charged}
use Rattle.abi_machine.specs.Calling.{Told, unlend_lines, lines_told, call_begun, with_subtask_of, subtask_told}
use Rattle.abi_machine.specs.Cancelling.{asked_turn, cancelled_turn}
use Rattle.abi_machine.specs.Choosing.{chosen}
use Rattle.abi_machine.specs.CoreSteps.{func_ended, stack_ended, ended_over, moved}
use Rattle.abi_machine.specs.Delivering.{number_of, event_line, nothing_told, cancel_told, end_told, event_of_end, callback_started, received, received_none, received_cancel, entry_delivered, member_delivered, members_turn, delivering_turn, yield_cancelled}
use Rattle.abi_machine.specs.Entering.{with_arguments, arguments_passed, arguments_turn, entered}
use Rattle.abi_machine.specs.Looping.{next_turn, looping_turn}
use Rattle.abi_machine.specs.Returning.{result_passed, returning_turn, ending_turn, post_return, finished, passed_to, passed_on, resolves_to, resolves}
use Rattle.abi_machine.specs.sound.Answers.{IsAnswer, AreAnswers, IsOneWord, IsBehindResult, IsReceived}
use Rattle.abi_machine.proofs.sound.Lifts.{Leaves as LeavesWith, Spent, load_uses, load_list_uses, lift_flat_uses}
use Rattle.abi_machine.proofs.sound.answers.Words.{event_small}

-- What is said of answers says less of them.
less_answer : (P Q : List ℕ → Type 0) → ((words : List ℕ) → P words → Q words) → (label : Label) → IsAnswer P label → IsAnswer Q label
less_answer P Q f (line.Got t words) h = f words h
less_answer P Q f label h = h

less_lines : (P Q : List ℕ → Type 0) → ((words : List ℕ) → P words → Q words) → (labels : List Label) → AreAnswers P labels → AreAnswers Q labels
less_lines P Q f [] h = tt
less_lines P Q f (label ∷ labels) h = (less_answer P Q f label h.0, less_lines P Q f labels h.1)

-- one i32
pub one_word : (n : ℕ) → n < 2 ^ 32 → IsOneWord (n ∷ [])
one_word n h = (h, tt)

module _ (P : List ℕ → Type 0) where
  -- the answers among the lines of a turn
  abbrev pub Fits : Turn → Type 0
  Fits (Steps labels v) = AreAnswers P labels
  Fits (Ends end) = Unit {0}
  Fits Stuck = Unit {0}

  more_answers : (xs ys : List Label) → AreAnswers P xs → AreAnswers P ys → AreAnswers P (xs ++ ys)
  more_answers [] ys h k = k
  more_answers (x ∷ xs) ys h k = (h.0, more_answers xs ys h.1 k)

  pub behind_fits : (lines : List Label) (t : Turn) → AreAnswers P lines → Fits t → Fits (behind lines t)
  behind_fits lines (Steps labels v) h k = more_answers lines labels h k
  behind_fits lines (Ends end) h k = tt
  behind_fits lines Stuck h k = tt

  -- What turns are made of.
  pub given_fits : {A : Type 0} (o : Option A) (f : A → Turn) → ((x : A) → o ≡ Some x → Fits (f x)) → Fits (given o f)
  given_fits None f h = tt
  given_fits (Some x) f h = h x refl

  pub either_fits : (b : Bool) (t u : Turn) → Fits t → Fits u → Fits (if b then t else u)
  either_fits true t u h k = h
  either_fits false t u h k = k

  pub either_so : (b : Bool) (t u : Turn) → (b ≡ true → Fits t) → (b ≡ false → Fits u) → Fits (if b then t else u)
  either_so true t u h k = h refl
  either_so false t u h k = k refl

  pub unless_fits : (t : ℕ) (b : Bool) (why : TrapName) (w : World) (more : Turn) → Fits more → Fits (unless t b why w more)
  unless_fits t true why w more h = tt
  unless_fits t false why w more h = h

  pub fault_fits : {F : Type 0} (t : ℕ) (name : F → TrapName) (o : Option F) (w : World) (more : Turn) → Fits more → Fits (unless_fault t name o w more)
  fault_fits t name None w more h = h
  fault_fits t name (Some fault) w more h = tt

  pub refused_fits : {A : Type 0} (t : ℕ) (r : Result A TrapName) (w : World) (f : A → Turn) → ((x : A) → Fits (f x)) → Fits (unless_refused t r w f)
  refused_fits t (Err why) w f h = tt
  refused_fits t (Ok x) w f h = h x

  pub func_fits : (w : World) (more : ℕ → Task → Lifted → Turn) → ((a : ℕ × Task) (f : Lifted) → acting w ≡ Some a → Fits (more a.0 a.1 f)) → Fits (with_func w more)
  func_fits w more h = given_fits (acting w) _ (λ (a : ℕ × Task) e. given_fits (func_of a.1.callee) _ (λ f k. h a f e))

  pub subtask_fits : (w : World) (callee : ℕ) (more : Task → Subtask → Turn) → ((task : Task) (subtask : Subtask) → Fits (more task subtask)) → Fits (with_subtask_of w callee more)
  subtask_fits w callee more h = given_fits (task_at w callee) _ (λ (task : Task) e. given_fits (subtask_of task.caller) _ (λ subtask k. h task subtask))

  pub charged_fits : (costs : Bool) (s : Script) (w : World) (f : World → Turn) → ((units : ℕ) → Fits (f (record w { units = units }))) → Fits (charged costs s w f)
  charged_fits false s w f h = h w.units
  charged_fits true s w f h = either_fits (nat_lt w.units s.fuel) (f (unit_spent w)) (Ends Fuel) (h (w.units + 1)) tt

  -- What is told.
  unlend_fits : (i callee : ℕ) (handles : List ℕ) → AreAnswers P (unlend_lines i callee handles)
  unlend_fits i callee [] = tt
  unlend_fits i callee (handle ∷ handles) = (tt, unlend_fits i callee handles)

  lines_fit : (i callee : ℕ) (b : Bool) (handles : List ℕ) → AreAnswers P (lines_told i callee b handles)
  lines_fit i callee true handles = unlend_fits i callee handles
  lines_fit i callee false handles = tt

  pub told_fits : (t i callee : ℕ) (task : Task) (subtask : Subtask) (w : World) (words : List ℕ) → P words → AreAnswers P ((subtask_told i callee task subtask w).lines ++ line.Got t words ∷ [])
  told_fits t i callee task subtask w words h = more_answers (subtask_told i callee task subtask w).lines (line.Got t words ∷ []) (lines_fit i callee (has_resolved task) subtask.lends) (h, tt)

  -- What is lifted has no answer among its lines.
  abbrev KeptSo : Kept → Type 0
  KeptSo k = AreAnswers P k.lines

  abbrev StoppedSo : Stopped → Type 0
  StoppedSo stop = AreAnswers P stop.lines

  spent_fits : (r : Result ℕ LiftTrap) (k : Kept) → KeptSo k → Spent KeptSo StoppedSo (spent_so r k)
  spent_fits (Ok left) k h = h
  spent_fits (Err fault) k h = h

  own_fits : (i index : ℕ) (r : Result Handle Refusal) (k : Kept) → KeptSo k → LeavesWith KeptSo StoppedSo (own_taken i index r k)
  own_fits i index (Ok x) k h = h
  own_fits i index (Err why) k h = h

  borrow_fits : (i callee index : ℕ) (r : Result Handle Refusal) (k : Kept) → KeptSo k → LeavesWith KeptSo StoppedSo (borrow_taken i callee index r k)
  borrow_fits i callee index (Ok x) k h = more_answers k.lines _ h (tt, tt)
  borrow_fits i callee index (Err why) k h = h

  end_fits : (i index : ℕ) (r : Result ℕ Refusal) (k : Kept) → KeptSo k → LeavesWith KeptSo StoppedSo (end_taken i index r k)
  end_fits i index (Ok number) k h = h
  end_fits i index (Err why) k h = h

  taken_fits : (i callee : ℕ) (what : What) (index : ℕ) (k : Kept) → KeptSo k → LeavesWith KeptSo StoppedSo (taken_as i callee what index k)
  taken_fits i callee (AnOwn resource) index k h = own_fits i index (own_in (view_at k.world i index) resource) k h
  taken_fits i callee (ABorrow resource) index k h = borrow_fits i callee index (handle_in (view_at k.world i index) resource) k h
  taken_fits i callee (AnEnd kind element) index k h = end_fits i index (lifting.end_seen (view_at k.world i index) kind element k.world i index) k h

  pub lifted_fits : {A : Type 0} (t : ℕ) (came : Came A) (more : A → World → Turn) → LeavesWith KeptSo StoppedSo came → ((x : A) (u : World) → Fits (more x u)) → Fits (once_lifted t came more)
  lifted_fits t (Ok x) more h k = behind_fits x.1.lines (more x.0 x.1.world) h (k x.0 x.1.world)
  lifted_fits t (Err stop) more h k = behind_fits stop.lines (doomed t stop.why stop.world) h tt

  made_came : {A C : Type 0} (f : A → C) (came : Came A) → LeavesWith KeptSo StoppedSo came → LeavesWith KeptSo StoppedSo (over.made f came)
  made_came f (Ok x) h = h
  made_came f (Err stop) h = h

  either_came : {A : Type 0} (b : Bool) (x y : Came A) → LeavesWith KeptSo StoppedSo x → LeavesWith KeptSo StoppedSo y → LeavesWith KeptSo StoppedSo (if b then x else y)
  either_came true x y h k = h
  either_came false x y h k = k

  loaded_fits : (i callee : ℕ) (type : ValType) (bytes : List ℕ) (place : ℕ) (k : Kept) → KeptSo k → LeavesWith KeptSo StoppedSo (load_by (by_world i callee) type bytes place k)
  loaded_fits i callee type bytes place k h =
      load_uses (by_world i callee) KeptSo StoppedSo (Unit {0}) (λ many at k h. spent_fits (counted many at k.left) k h) (λ fault k h. h) (λ u k used h. taken_fits i callee u.what u.index k h) type (λ b. tt) bytes place k h

  flat_fits : (i callee : ℕ) (type : ValType) (bytes words : List ℕ) (k : Kept) → KeptSo k → LeavesWith KeptSo StoppedSo (lift_flat_by (by_world i callee) type bytes words k)
  flat_fits i callee type bytes words k h =
      lift_flat_uses (by_world i callee) KeptSo StoppedSo (Unit {0}) (λ many at k h. spent_fits (counted many at k.left) k h) (λ fault k h. h) (λ u k used h. taken_fits i callee u.what u.index k h) type (λ b. tt) bytes words k h

  arguments_fit : (i callee : ℕ) (is_async : Bool) (f : FuncType) (bytes words : List ℕ) (w : World) → LeavesWith KeptSo StoppedSo (arguments_lifted i callee is_async f bytes words w)
  unfolding arguments_lifted
  arguments_fit i callee is_async f bytes words w = either_came _ _ _ (loaded_fits i callee (params_type f) bytes _ _ tt) (flat_fits i callee (params_type f) bytes words _ tt)

  value_fits : (i callee limit : ℕ) (type : ValType) (bytes words : List ℕ) (w : World) → LeavesWith KeptSo StoppedSo (result_lifted i callee limit type bytes words w)
  unfolding result_lifted
  value_fits i callee limit type bytes words w = either_came _ _ _ (loaded_fits i callee type bytes _ _ tt) (flat_fits i callee type bytes words _ tt)

  pub result_fits : (i callee limit : ℕ) (type : Option ValType) (options : Options) (words : List ℕ) (w : World) → LeavesWith KeptSo StoppedSo (result_passed i callee limit type options words w)
  unfolding result_passed
  result_fits i callee limit None options words w = tt
  result_fits i callee limit (Some type) options words w = made_came _ _ (value_fits i callee limit type _ words w)

  pub elements_fit : (i callee : ℕ) (type : ValType) (bytes : List ℕ) (place count : ℕ) (w : World) → LeavesWith KeptSo StoppedSo (elements_lifted i callee type bytes place count w)
  unfolding elements_lifted
  elements_fit i callee type bytes place count w =
      load_list_uses (by_world i callee) KeptSo StoppedSo (Unit {0}) (λ many at k h. spent_fits (counted many at k.left) k h) (λ fault k h. h) (λ u k used h. taken_fits i callee u.what u.index k h) type (λ b. tt) bytes place count _ tt

  -- Calls, and cancellations.
  pub begun_fits : (t number : ℕ) (words : List ℕ) (callee : Callee) (f : Lifted) (passed : List ℕ) (w : World) → Fits (call_begun t number words callee f passed w)
  unfolding call_begun
  begun_fits t number words callee f passed w = unless_fits t (is_reentrant w f.instance t) trap.Reentrant w _ (tt, tt)

  asked_fits : (t : ℕ) (asked : Asked) (control : Control) (w : World) → Fits (asked_turn t asked control w)
  unfolding asked_turn
  asked_fits t Removed control w = (tt, (tt, tt))
  asked_fits t ResumeNow control w = tt
  asked_fits t Pending control w = tt

  pub cancelled_fits : (g : Graph) (t : ℕ) (task : Task) (control : Control) (w : World) → Fits (cancelled_turn g t task control w)
  unfolding cancelled_turn
  cancelled_fits g t task control w = given_fits (func_of task.callee) _ (λ f e. asked_fits t (cancel_case (is_entry_free w f.instance) (task_view g w t task)) control w)

  -- Entry, and results.
  arguments_turn_fits : (g : Graph) (t : ℕ) (f : Lifted) (caller : Caller) (w : World) → Fits (arguments_turn g t f caller w)
  unfolding arguments_turn arguments_passed with_arguments
  arguments_turn_fits g t f Nobody w = tt
  arguments_turn_fits g t f (Host call values) w = tt
  arguments_turn_fits g t f (Guest subtask) w =
      given_fits (canon_at g subtask.canon) _ (λ c e. lifted_fits t (arguments_passed t f subtask c w) (λ v later. with_arguments g t f v later) (arguments_fit (inst_of_canon c) t _ f.func_type _ subtask.words w) (λ v later. tt))

  pub entered_fits : (g : Graph) (t : ℕ) (task : Task) (f : Lifted) (w : World) → Fits (entered g t task f w)
  unfolding entered
  entered_fits g t task f w = behind_fits (line.Enter t ∷ []) (arguments_turn g t f task.caller (in_state t Acting w)) (tt, tt) (arguments_turn_fits g t f task.caller (in_state t Acting w))

  post_return_fits : (t : ℕ) (f : Lifted) (ended : List ℕ) (ref : Option FuncRef) (w : World) → Fits (post_return t f ended ref w)
  unfolding post_return
  post_return_fits t f ended None w = tt
  post_return_fits t f ended (Some ref) w = given_fits (found_at w.store.funcs (func_address w.store ref)) _ (λ function e. tt)

  pub finished_fits : (follows : After) (w : World) → ((words : List ℕ) → IsBehindResult follows words → P words) → Fits (finished follows w)
  unfolding finished
  finished_fits Replies w says = given_fits (acting w) _ (λ a e. (says [] tt, tt))
  finished_fits (Finishes ended) w says = func_fits w _ (λ a f e. post_return_fits a.0 f ended f.options.post_return w)

  passed_fits : (g : Graph) (t : ℕ) (caller : Caller) (follows : After) (result : Option TypedValue) (w : World) → ((words : List ℕ) → IsBehindResult follows words → P words) → Fits (passed_on g t caller follows result w)
  unfolding passed_on passed_to
  passed_fits g t (Guest subtask) follows (Some r) w says = given_fits (canon_at g subtask.canon) _ (λ c e. tt)
  passed_fits g t (Guest subtask) follows None w says = finished_fits follows w says
  passed_fits g t Nobody follows result w says = finished_fits follows w says
  passed_fits g t (Host call values) follows result w says = finished_fits follows w says

  pub resolves_fits : (g : Graph) (t : ℕ) (task : Task) (follows : After) (came : Came (Option TypedValue)) → ((words : List ℕ) → IsBehindResult follows words → P words) → LeavesWith KeptSo StoppedSo came
      → Fits (resolves g t task follows came)
  unfolding resolves resolves_to
  resolves_fits g t task follows came says lines =
      lifted_fits t came (λ result w. resolves_to g t task follows result w) lines (λ result u.
      fault_fits t task_name (resolving_fault (task_view g u t task)) u _
      (behind_fits (line.Return t result ∷ []) (passed_on g t task.caller follows result (resolved t Returned u)) (tt, tt) (passed_fits g t task.caller follows result (resolved t Returned u) says)))

  ending_fits : (t : ℕ) (task : Task) (w : World) → Fits (ending_turn t task w)
  unfolding ending_turn
  ending_fits t task w = unless_fits t (is_none task.resolution) trap.Unresolved w _ tt

  next_turn_fits : (t : ℕ) (task : Task) (i said : ℕ) (r : Result Next BadCode) (w : World) → Fits (next_turn t task i said r w)
  unfolding next_turn
  next_turn_fits t task i said (Err why) w = tt
  next_turn_fits t task i said (Ok word.Exit) w = ending_fits t task w
  next_turn_fits t task i said (Ok word.Yield) w = (tt, tt)
  next_turn_fits t task i said (Ok (word.Wait set)) w = refused_fits t (set_at w i set) w _ (λ number. (tt, tt))
  next_turn_fits t task i said (Ok (word.Poll set)) w = refused_fits t (set_at w i set) w _ (λ number. (tt, tt))

  looping_fits : (t : ℕ) (task : Task) (i : ℕ) (words : List ℕ) (w : World) → Fits (looping_turn t task i words w)
  unfolding looping_turn
  looping_fits t task i [] w = tt
  looping_fits t task i (said ∷ words) w = next_turn_fits t task i said (callback_of said) w

  func_ended_fits : (g : Graph) (t : ℕ) (task : Task) (f : Lifted) (k : Kind) (words : List ℕ) (w : World) → Fits (func_ended g t task f k words w)
  unfolding func_ended returning_turn
  func_ended_fits g t task f Sync words w =
      resolves_fits g t task (Finishes words) (result_passed f.instance t flat_result_limit f.func_type.result f.options words w) (λ words h. absurd h) (result_fits f.instance t flat_result_limit f.func_type.result f.options words w)
  func_ended_fits g t task f Stackful words w = ending_fits t task w
  func_ended_fits g t task f Callback words w = looping_fits t task f.instance words w

  stack_ended_fits : (g : Graph) (t : ℕ) (task : Task) (state : TaskState) (words : List ℕ) (w : World) → Fits (stack_ended g t task state words w)
  unfolding stack_ended
  stack_ended_fits g t task (world.Begins n) words w = tt
  stack_ended_fits g t task Acting words w = given_fits (func_of task.callee) _ (λ f e. func_ended_fits g t task f (kind_of task) words w)
  stack_ended_fits g t task New words w = tt
  stack_ended_fits g t task (AfterCall callee number passed) words w = tt
  stack_ended_fits g t task (AfterCancel callee number passed) words w = tt
  stack_ended_fits g t task WaitsToEnter words w = tt
  stack_ended_fits g t task (InLoop said) words w = tt
  stack_ended_fits g t task (InBuiltin number passed wait) words w = tt
  stack_ended_fits g t task Exited words w = tt

  ended_over_fits : (g : Graph) (t : ℕ) (task : Task) (under : List Stack) (words : List ℕ) (w : World) → P [] → Fits (ended_over g t task under words w)
  unfolding ended_over
  ended_over_fits g t task [] words w h = stack_ended_fits g t task task.state words w
  ended_over_fits g t task (k ∷ under) words w h = (h, tt)

  pub moved_fits : (g : Graph) (t : ℕ) (task : Task) (move : Move) (w : World) → P [] → Fits (moved g t task move w)
  unfolding moved
  moved_fits g t task (Moves paid s k) w h = tt
  moved_fits g t task (core.Calls address words k) w h = tt
  moved_fits g t task (core.Ends words) w h = ended_over_fits g t task (drop 1 task.stacks) words (unstacked t w) h
  moved_fits g t task (Traps why) w h = tt
  moved_fits g t task core.Stuck w h = tt

  -- Events.
  callback_fits : (t : ℕ) (f : Lifted) (code : EventCode) (index payload : ℕ) (w : World) → Fits (callback_started t f code index payload w)
  unfolding callback_started
  callback_fits t f code index payload w = given_fits f.options.callback _ (λ ref e. given_fits (found_at w.store.funcs (func_address w.store ref)) _ (λ function k. tt))

  received_fits : (g : Graph) (t : ℕ) (f : Lifted) (receiver : Receiver) (code : EventCode) (index : ℕ) (s : Told) → ((words : List ℕ) → IsReceived receiver words → P words) → AreAnswers P s.lines
      → Fits (received g t f receiver code index s)
  unfolding received
  received_fits g t f (InWait number words) code index s says h =
      (let k : number_of code < 2 ^ 32 = omega (arith, event_small code) in (tt, more_answers s.lines (line.Got t (number_of code ∷ []) ∷ []) h (says (number_of code ∷ []) (k, tt), tt)))
  received_fits g t f InCallback code index s says h = behind_fits (event_line t code index s.payload ∷ s.lines) (callback_started t f code index s.payload s.world) (tt, h) (callback_fits t f code index s.payload s.world)

  pub none_received_fits : (g : Graph) (t : ℕ) (f : Lifted) (receiver : Receiver) (w : World) → ((words : List ℕ) → IsReceived receiver words → P words) → Fits (received_none g t f receiver w)
  unfolding received_none
  none_received_fits g t f receiver w says = received_fits g t f receiver NoEvent 0 (nothing_told w) says tt

  pub cancel_received_fits : (g : Graph) (t : ℕ) (f : Lifted) (receiver : Receiver) (w : World) → ((words : List ℕ) → IsReceived receiver words → P words) → Fits (received_cancel g t f receiver w)
  unfolding received_cancel
  cancel_received_fits g t f receiver w says = received_fits g t f receiver TaskCancelled 0 (cancel_told t w) says tt

  entry_delivered_fits : (g : Graph) (t : ℕ) (f : Lifted) (receiver : Receiver) (index : ℕ) (entry : Option Entry) (w : World) → ((words : List ℕ) → IsReceived receiver words → P words)
      → Fits (entry_delivered g t f receiver index entry w)
  unfolding entry_delivered
  entry_delivered_fits g t f receiver index None w says = tt
  entry_delivered_fits g t f receiver index (Some (OwnHandle resource rep)) w says = tt
  entry_delivered_fits g t f receiver index (Some (BorrowHandle resource rep task)) w says = tt
  entry_delivered_fits g t f receiver index (Some (OfSubtask callee)) w says =
      subtask_fits w callee _ (λ task subtask. received_fits g t f receiver SubtaskEvent index (subtask_told f.instance callee task subtask w) says (lines_fit f.instance callee (has_resolved task) subtask.lends))
  entry_delivered_fits g t f receiver index (Some (OfSet set)) w says = tt
  entry_delivered_fits g t f receiver index (Some (OfEnd e)) w says = received_fits g t f receiver (event_of_end e) index (end_told e w) says tt

  member_fits : (g : Graph) (t : ℕ) (f : Lifted) (receiver : Receiver) (member : Option ℕ) (w : World) → ((words : List ℕ) → IsReceived receiver words → P words) → Fits (member_delivered g t f receiver member w)
  unfolding member_delivered
  member_fits g t f receiver member w says = given_fits member _ (λ index e. entry_delivered_fits g t f receiver index (entry_at w f.instance index) w says)

  members_fit : (g : Graph) (s : Script) (t : ℕ) (f : Lifted) (set : ℕ) (receiver : Receiver) (pick : Option ℕ) (members : List ℕ) (w : World) → ((words : List ℕ) → IsReceived receiver words → P words)
      → Fits (members_turn g s t f set receiver pick members w)
  unfolding members_turn chosen
  members_fit g s t f set receiver None [] w says = member_fits g t f receiver None w says
  members_fit g s t f set receiver None (index ∷ []) w says = member_fits g t f receiver (Some index) w says
  members_fit g s t f set receiver None (index ∷ other ∷ members) w says = (tt, tt)
  members_fit g s t f set receiver (Some k) members w says = member_fits g t f receiver (slice_get members k) w says

  pub delivering_fits : (g : Graph) (s : Script) (set : ℕ) (receiver : Receiver) (pick : Option ℕ) (w : World) → ((words : List ℕ) → IsReceived receiver words → P words) → Fits (delivering_turn g s set receiver pick w)
  unfolding delivering_turn
  delivering_fits g s set receiver pick w says = func_fits w _ (λ a f e. members_fit g s a.0 f set receiver pick (ready w f.instance set) w says)

  -- Waits that are over.
  pub yield_cancelled_fits : (t : ℕ) (w : World) → P (1 ∷ []) → Fits (yield_cancelled t w)
  unfolding yield_cancelled
  yield_cancelled_fits t w h = (tt, (h, tt))

pub less_answers : (P Q : List ℕ → Type 0) → ((words : List ℕ) → P words → Q words) → (t : Turn) → Fits P t → Fits Q t
less_answers P Q f (Steps labels v) h = less_lines P Q f labels h
less_answers P Q f (Ends end) h = tt
less_answers P Q f Stuck h = tt
