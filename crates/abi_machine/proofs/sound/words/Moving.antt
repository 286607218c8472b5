-- How core functions move and end, core instances are made, and values are lowered keeps words.
use Rattle.std.proofs.Common.{◌≡◌, inl, inr, ℕ, ◌+◌, Bool, true, false, List, [], ◌∷◌, drop, refl, subst, Option, Some, None, Result, Ok, Err, if◌then◌else◌}
use Rattle.std.specs.Prelude.{is_none, length}
use Rattle.std.specs.List.{slice_get}
use Rattle.wasm_store.specs.Store.{found_at}
use Rattle.wasm_store.specs.Stack.{Stack}
use Rattle.wasm_store.specs.Instantiation.{External, Instantiation, Makes, SegmentBounds as TooFar, instantiated, instance_of, start_call}
use Rattle.wasm_store.specs.Step.{Move, Goes as Moves, Traps}
use Rattle.wasm_store.specs.Step as core
use Rattle.entry_gate.specs.Callbacks.{callback_of}
use Rattle.entry_gate.specs.declared.kind.Kind.{Kind}
use Rattle.entry_gate.specs.declared.kind.Kind.TheVariants.{Sync, Callback, Stackful}
use Rattle.entry_gate.specs.declared.callback.BadCode.{BadCode}
use Rattle.entry_gate.specs.declared.callback.Next.{Next}
use Rattle.entry_gate.specs.declared.callback.Next.TheVariants as word
use Rattle.handle_table.specs.History.{Event, live}
use Rattle.value_lower.specs.Following.{written}
use Rattle.comp_graph.specs.declared.graph.Action.{Action}
use Rattle.comp_graph.specs.declared.graph.Action.TheVariants.{Begin, Make}
use Rattle.comp_graph.specs.Needs.{flat_result_limit}
use Rattle.comp_graph.specs.Graph.{Graph, CoreMake, Lifted}
use Rattle.script_reader.specs.Script.{Script}
use Rattle.trace_labels.specs.declared.label.BlockReason.TheVariants as reason
use Rattle.trace_labels.specs.declared.trap.TrapName.TheVariants as trap
use Rattle.abi_machine.specs.LoweringOver.{Plan, Gives, Fails, Asks, Size, Put, Adds}
use Rattle.abi_machine.specs.Control.{Finishes, Copying, Then, Starts, Resolves, Transfers, Lowering}
use Rattle.abi_machine.specs.World.{Entry, Inst, TaskState, New, Acting, AfterCall, AfterCancel, WaitsToEnter, InLoop, InBuiltin, Exited, Task, World}
use Rattle.abi_machine.specs.World as world
use Rattle.abi_machine.specs.Edits.{changed_at, added, with_store, in_state, unstacked, result_kept, transferred}
use Rattle.abi_machine.specs.Canons.{func_address, externals, bytes_of}
use Rattle.abi_machine.specs.Reading.{table_of, channel_at, acting, func_of, kind_of}
use Rattle.abi_machine.specs.Finding.{set_at}
use Rattle.abi_machine.specs.Pausing.{Paused, Words, Failed, Asked as AsksNow, Settled, settle, entry_of, has_room, index_in, with_new}
use Rattle.abi_machine.specs.Copying.{completed, transferring_turn}
use Rattle.abi_machine.specs.CoreSteps.{costs, func_ended, stack_ended, ended_over, moved, running_turn}
use Rattle.abi_machine.specs.Instantiating.{started_up, made, action_turn, instantiating_turn}
use Rattle.abi_machine.specs.Looping.{next_turn, looping_turn}
use Rattle.abi_machine.specs.Lowering.{started, lowered, paused, left_by, settled_turn, lowers_turn}
use Rattle.abi_machine.specs.Returning.{returning_turn, ending_turn, leaving_turn}
use Rattle.abi_machine.specs.sound.Answers.{HasRep}
use Rattle.abi_machine.specs.sound.Words.{AddsReps, HaveReps}
use Rattle.abi_machine.proofs.sound.OnePlace.{table_back, added_so}
use Rattle.abi_machine.proofs.sound.words.Plans.{PausesWith, settled_adds, entry_rep}
use Rattle.abi_machine.proofs.sound.words.Keeping.{Ground, reps_begun, Holds, task_so, state_so, subtask_so, insts_so, transferred_so, Keeps, given_keeps, refused_keeps, unless_keeps, charged_keeps, behind_adds, blocked_keeps, on_keeps}
use Rattle.abi_machine.proofs.sound.words.Passing.{finished_keeps, resolves_keeps}

-- A table as a plan leaves it.
abbrev TableReps : List (Event Entry) → Type 0
TableReps table = (index : ℕ) (x : Entry) → live table index ≡ Some x → HasRep x

added_reps : (entry : Entry) (table : List (Event Entry)) → HasRep entry → TableReps table → TableReps (added entry table)
added_reps entry table new h index x there = elim (added_so _ entry x (live table index) there) [
  | inl same ↦ subst HasRep same.1 new
  | inr old ↦ h index x old
]

new_reps : (b : Bool) (entry : Entry) (table : List (Event Entry)) → HasRep entry → TableReps table → TableReps (if b then added entry table else table)
new_reps true entry table new h = added_reps entry table new h
new_reps false entry table new h = h

settled_reps : (t : ℕ) (plan : Plan) (bytes : List ℕ) (table : List (Event Entry)) → AddsReps plan → TableReps table → TableReps (settle t plan bytes table).table
settled_reps t (Gives words) bytes table adds h = h
settled_reps t (Fails why) bytes table adds h = h
settled_reps t (Asks ask k) bytes table adds h = h
settled_reps t (Size k) bytes table adds h = settled_reps t (k (length bytes)) bytes table (adds (length bytes)) h
settled_reps t (Put place more k) bytes table adds h = settled_reps t k (written place more bytes) table adds h
settled_reps t (Adds entry k) bytes table adds h =
    settled_reps t (k (index_in table)) bytes (with_new (entry_of t entry) table) (adds.1 (index_in table)) (new_reps (has_room table) (entry_of t entry) table (entry_rep t entry adds.0) h)

table_reps : (insts : List Inst) (i : ℕ) (table : List (Event Entry)) → TableReps table → HaveReps insts → HaveReps (changed_at i (λ inst. record inst { table = table }) insts)
table_reps insts i table new h j index x there = elim (table_back insts i (λ inst. record inst { table = table }) j index x there) [
  | inl at ↦ new index x at.1.2
  | inr old ↦ h j index x old
]

module _ {g : Graph} (ground : Ground g) where
  ending_keeps : (t : ℕ) (task : Task) (w : World) → Holds ground w → Keeps ground (ending_turn t task w)
  unfolding ending_turn
  ending_keeps t task w h = unless_keeps ground t (is_none task.resolution) trap.Unresolved w _ h (h, tt)

  pub leaving_keeps : (w : World) → Holds ground w → Keeps ground (leaving_turn w)
  unfolding leaving_turn
  leaving_keeps w h = given_keeps ground (acting w) _ (λ a e. (state_so ground w a.0 Exited tt h, behind_adds ground (drop 1 w.chain)))

  -- Loops, and the ends of core functions.
  next_keeps : (t : ℕ) (task : Task) (i said : ℕ) (r : Result Next BadCode) (w : World) → Holds ground w → Keeps ground (next_turn t task i said r w)
  unfolding next_turn
  next_keeps t task i said (Err why) w h = (h, tt)
  next_keeps t task i said (Ok word.Exit) w h = ending_keeps t task w h
  next_keeps t task i said (Ok word.Yield) w h = blocked_keeps ground t (InLoop said) reason.Yield w tt h
  next_keeps t task i said (Ok (word.Wait set)) w h = refused_keeps ground t (set_at w i set) w _ h (λ number e. blocked_keeps ground t (InLoop said) (reason.Wait set) w tt h)
  next_keeps t task i said (Ok (word.Poll set)) w h = refused_keeps ground t (set_at w i set) w _ h (λ number e. blocked_keeps ground t (InLoop said) (reason.Poll set) w tt h)

  looping_keeps : (t : ℕ) (task : Task) (i : ℕ) (words : List ℕ) (w : World) → Holds ground w → Keeps ground (looping_turn t task i words w)
  unfolding looping_turn
  looping_keeps t task i [] w h = tt
  looping_keeps t task i (said ∷ words) w h = next_keeps t task i said (callback_of said) w h

  func_ended_keeps : (t : ℕ) (task : Task) (f : Lifted) (k : Kind) (words : List ℕ) (w : World) → Holds ground w → Keeps ground (func_ended g t task f k words w)
  unfolding func_ended returning_turn
  func_ended_keeps t task f Sync words w h = resolves_keeps ground t task (Finishes words) f.instance flat_result_limit f.func_type.result f.options words w h
  func_ended_keeps t task f Stackful words w h = ending_keeps t task w h
  func_ended_keeps t task f Callback words w h = looping_keeps t task f.instance words w h

  stack_ended_keeps : (t : ℕ) (task : Task) (state : TaskState) (words : List ℕ) (w : World) → Holds ground w → Keeps ground (stack_ended g t task state words w)
  unfolding stack_ended
  stack_ended_keeps t task (world.Begins n) words w h = (state_so ground w t Acting tt h, tt)
  stack_ended_keeps t task Acting words w h = given_keeps ground (func_of task.callee) _ (λ f e. func_ended_keeps t task f (kind_of task) words w h)
  stack_ended_keeps t task New words w h = tt
  stack_ended_keeps t task (AfterCall callee number passed) words w h = tt
  stack_ended_keeps t task (AfterCancel callee number passed) words w h = tt
  stack_ended_keeps t task WaitsToEnter words w h = tt
  stack_ended_keeps t task (InLoop said) words w h = tt
  stack_ended_keeps t task (InBuiltin number passed wait) words w h = tt
  stack_ended_keeps t task Exited words w h = tt

  ended_over_keeps : (t : ℕ) (task : Task) (under : List Stack) (words : List ℕ) (w : World) → Holds ground w → Keeps ground (ended_over g t task under words w)
  unfolding ended_over
  ended_over_keeps t task [] words w h = stack_ended_keeps t task task.state words w h
  ended_over_keeps t task (k ∷ under) words w h = (on_keeps ground t [] w h, tt)

  moved_keeps : (t : ℕ) (task : Task) (move : Move) (w : World) → Holds ground w → Keeps ground (moved g t task move w)
  unfolding moved
  moved_keeps t task (Moves paid s k) w h = (task_so ground (with_store s w) t _ (λ x k. k) h, tt)
  moved_keeps t task (core.Calls address words k) w h = (task_so ground w t _ (λ x k. k) h, tt)
  moved_keeps t task (core.Ends words) w h = ended_over_keeps t task (drop 1 task.stacks) words (unstacked t w) (task_so ground w t _ (λ x k. k) h)
  moved_keeps t task (Traps why) w h = (h, tt)
  moved_keeps t task core.Stuck w h = tt

  pub running_keeps : (s : Script) (w : World) → Holds ground w → Keeps ground (running_turn g s w)
  unfolding running_turn
  running_keeps s w h =
      given_keeps ground (acting w) _ (λ a e. given_keeps ground (slice_get a.1.stacks 0) _ (λ (k : Stack) i.
      charged_keeps ground (costs k (core.next w.store k)) s w (λ v. moved g a.0 a.1 (core.next w.store k) v) (λ units. moved_keeps a.0 a.1 (core.next w.store k) (record w { units = units }) h)))

  -- Instantiation.
  started_up_keeps : (n : ℕ) (k : Option Stack) (w : World) → Holds ground w → Keeps ground (started_up n k w)
  unfolding started_up
  started_up_keeps n None w h = (h, tt)
  started_up_keeps n (Some k) w h = (task_so ground (in_state 0 (world.Begins n) w) 0 _ (λ x k. k) (state_so ground w 0 (world.Begins n) tt h), tt)

  made_keeps : (n : ℕ) (c : CoreMake) (imports : List External) (i : Instantiation) (w : World) → Holds ground w → Keeps ground (made n c imports i w)
  unfolding made
  made_keeps n c imports (TooFar s) w h = (h, tt)
  made_keeps n c imports (Makes s) w h = started_up_keeps (n + 1) (start_call c.of_module (instance_of c.of_module imports w.store) s) (with_store s w) h

  action_keeps : (n : ℕ) (a : Option Action) (w : World) → Holds ground w → Keeps ground (action_turn g n a w)
  unfolding action_turn
  action_keeps n None w h = (state_so ground w 0 Exited tt h, tt)
  action_keeps n (Some (Begin number)) w h = (insts_so ground w _ (reps_begun w.insts h.0.reps) h, tt)
  action_keeps n (Some (Make number)) w h =
      given_keeps ground (slice_get g.cores number) _ (λ (c : CoreMake) e. given_keeps ground (externals w.store c.imports) _ (λ imports i. made_keeps n c imports (instantiated c.of_module imports w.store) w h))

  pub instantiating_keeps : (n : ℕ) (w : World) → Holds ground w → Keeps ground (instantiating_turn g n w)
  unfolding instantiating_turn
  instantiating_keeps n w h = action_keeps n (slice_get g.plan n) w h

  -- Lowerings.
  transferring_keeps : (copying : Copying) (w : World) → Holds ground w → Keeps ground (transferring_turn copying w)
  unfolding transferring_turn
  transferring_keeps copying w h =
      given_keeps ground (acting w) _ (λ a e. given_keeps ground (channel_at w copying.end.kind copying.end.number) _ (λ c i.
      (on_keeps ground a.0 (completed copying.end.kind (length copying.values) ∷ []) (transferred copying.end copying.length copying.values w) (transferred_so ground copying.end copying.length copying.values w h), tt)))

  started_keeps : (words : List ℕ) (w : World) → Holds ground w → Keeps ground (started words w)
  unfolding started
  started_keeps words w h =
      given_keeps ground (acting w) _ (λ a e. given_keeps ground (func_of a.1.callee) _ (λ f i. given_keeps ground (found_at w.store.funcs (func_address w.store f.core)) _ (λ function j. (task_so ground w a.0 _ (λ x k. k) h, tt))))

  lowered_keeps : (follows : Then) (words : List ℕ) (w : World) → Holds ground w → Keeps ground (lowered follows words w)
  unfolding lowered
  lowered_keeps Starts words w h = started_keeps words w h
  lowered_keeps (Resolves to follows) words w h =
      finished_keeps ground follows (result_kept to words w) (subtask_so ground w to (λ subtask. record subtask { result = words }) (λ x. refl) (λ x. refl) h)
  lowered_keeps (Transfers copying) words w h = transferring_keeps copying w h

  paused_keeps : (l : Lowering) (p : Paused) (w : World) → PausesWith p → Holds ground w → Keeps ground (paused l p w)
  unfolding paused
  paused_keeps l (Words words) w adds h = lowered_keeps l.next words w h
  paused_keeps l (Failed why) w adds h = (h, tt)
  paused_keeps l (AsksNow ask k) w adds h = given_keeps ground (found_at w.store.funcs l.realloc) _ (λ f e. (h, adds))

  pub lowers_keeps : (l : Lowering) (plan : Plan) (w : World) → AddsReps plan → Holds ground w → Keeps ground (lowers_turn l plan w)
  unfolding lowers_turn settled_turn
  lowers_keeps l plan w adds h =
      let settled : Settled = settle l.acts_for plan (bytes_of w.store l.memory) (table_of w l.inst) in
      paused_keeps l settled.paused (left_by l settled w) (settled_adds l.acts_for plan (bytes_of w.store l.memory) (table_of w l.inst) adds)
      (insts_so ground w _ (table_reps w.insts l.inst settled.table (settled_reps l.acts_for plan (bytes_of w.store l.memory) (table_of w l.inst) adds (λ index x there. h.0.reps l.inst index x there)) h.0.reps) h)
