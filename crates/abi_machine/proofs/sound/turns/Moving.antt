-- How tasks resolve and exit, the moves of core functions, and instantiation keep what every change keeps.
use Rattle.std.proofs.Common.{◌≡◌, inl, inr, ℕ, ◌+◌, Bool, true, false, nat_lt, List, [], ◌∷◌, drop, refl, sym, ap, ◌∙◌, subst, Option, Some, None, Result, Ok, Err, if◌then◌else◌, arith, ◌≤◌}
use Rattle.std.proofs.lemmas.Bool.Decides.{nat_tests}
use Rattle.std.specs.Prelude.{IsSome, is_none, is_some}
use Rattle.std.specs.List.{slice_get}
use Rattle.wasm_store.specs.Store.{found_at}
use Rattle.wasm_store.specs.Stack.{Stack}
use Rattle.wasm_store.specs.Step.{Move, Goes, Traps}
use Rattle.wasm_store.specs.Step as core
use Rattle.wasm_store.specs.Instantiation.{External, Instantiation, Makes, instance_of, instantiated, start_call}
use Rattle.wasm_store.specs.Instantiation as core_instance
use Rattle.syntax_trees.specs.declared.types.ValType.{ValType}
use Rattle.entry_gate.specs.Callbacks.{callback_of}
use Rattle.entry_gate.specs.declared.kind.Kind.{Kind}
use Rattle.entry_gate.specs.declared.kind.Kind.TheVariants.{Sync, Callback, Stackful}
use Rattle.entry_gate.specs.declared.callback.BadCode.{BadCode}
use Rattle.entry_gate.specs.declared.callback.Next.{Next}
use Rattle.entry_gate.specs.declared.callback.Next.TheVariants as next
use Rattle.tasks.specs.declared.phase.Resolution.TheVariants.{Returned}
use Rattle.tasks.specs.Tasks.{resolving_fault}
use Rattle.comp_graph.specs.declared.graph.Action.{Action}
use Rattle.comp_graph.specs.declared.graph.Action.TheVariants.{Begin, Make}
use Rattle.comp_graph.specs.declared.graph.FuncRef.{FuncRef}
use Rattle.comp_graph.specs.declared.graph.Options.{Options}
use Rattle.comp_graph.specs.Graph.{CoreMake, Graph, Lifted}
use Rattle.script_reader.specs.Script.{Script}
use Rattle.trace_labels.specs.declared.label.Label.TheVariants as line
use Rattle.trace_labels.specs.declared.label.BlockReason.TheVariants as reason
use Rattle.trace_labels.specs.declared.trap.TrapName.TheVariants as trap
use Rattle.trace_labels.specs.declared.typed.TypedValue.{TypedValue}
use Rattle.abi_machine.specs.Traps.{core_name, task_name}
use Rattle.abi_machine.specs.Control.{After, Replies, Finishes, Free, Instantiates, Runs, Leaves, Doomed}
use Rattle.abi_machine.specs.Control as control
use Rattle.abi_machine.specs.World.{Callee, Init, Caller, Nobody, Host, Guest, TaskState, New as IsNew, Acting, AfterCall, AfterCancel, Begins, WaitsToEnter, InLoop, InBuiltin, Exited, Task, World}
use Rattle.abi_machine.specs.Edits.{with_store, in_state, resolved, control_behind}
use Rattle.abi_machine.specs.Canons.{func_address, canon_at, inst_of_canon, options_of_canon, defines, externals}
use Rattle.abi_machine.specs.Reading.{acting, func_of, kind_of, kind_of_func}
use Rattle.abi_machine.specs.Counting.{task_view}
use Rattle.abi_machine.specs.Finding.{set_at}
use Rattle.abi_machine.specs.Lifting.{Kept, Stopped, Came}
use Rattle.abi_machine.specs.Returning.{result_passed, post_return, finished, passed_to, passed_on, resolves_to, resolves, returning_turn, ending_turn, leaving_turn}
use Rattle.abi_machine.specs.Looping.{next_turn, looping_turn}
use Rattle.abi_machine.specs.CoreSteps.{costs, func_ended, stack_ended, ended_over, moved, running_turn}
use Rattle.abi_machine.specs.Instantiating.{started_up, made as core_made, action_turn, instantiating_turn}
use Rattle.abi_machine.specs.sound.Changes.{HasStore, BeginsInstance, Begins as IsBegun, Exits, HasStack, LosesStack, after, HasFunc}
use Rattle.laid_types.specs.Handles.{held_borrow}
use Rattle.abi_machine.specs.sound.Premises.{BlocksFrom, MayResolve, ExitsResolved, HasBorrowResult, PassBorrow}
use Rattle.abi_machine.specs.sound.Agreeing.{FirstHasResolved, HasResolvedFor}
use Rattle.tasks.specs.declared.event.TaskTrap.TheVariants.{Resolved, BorrowLives}
use Rattle.tasks.specs.declared.phase.Resolution.{Resolution}
use Rattle.tasks.specs.Views.{TaskView}
use Rattle.abi_machine.specs.sound.Firsts.{TaskIs, IsActing, MayBeInside, IsActingState}
use Rattle.abi_machine.specs.sound.Changes.{IsFirst}
use Rattle.abi_machine.proofs.sound.Lifts.{Leaves as LeavesWith}
use Rattle.abi_machine.proofs.sound.Found.{acting_first, acting_is, func_changed}
use Rattle.abi_machine.proofs.sound.Takeable.{behind_agrees}
use Rattle.abi_machine.proofs.sound.Acted.{still_is, now_is, is_as, one_task, first_at, first_now, acting_inside}
use Rattle.abi_machine.proofs.sound.Lifted.{result_keeps}
use Rattle.abi_machine.proofs.sound.turns.Resolving.{has_resolved_for, resolution_there, init_no_func}
use Rattle.abi_machine.specs.sound.Chain.{IsThere}
use Rattle.abi_machine.specs.sound.Entering.{IsBehindEntry}
use Rattle.abi_machine.specs.sound.Premises.{ExitsFrom}
use Rattle.abi_machine.specs.sound.Lines as mark
use Rattle.abi_machine.specs.sound.Lines.{with_exit}
use Rattle.abi_machine.proofs.sound.LiftLines.{ComesPlain, result_unmarked}
use Rattle.abi_machine.proofs.sound.Unresolved.{acting_entered}
use Rattle.abi_machine.proofs.sound.turns.Keeping.{Invariant, HasActing, Keeps, Acted, given_keeps, stay, acts, goes, goes_on, refused_keeps, unless_keeps, fault_keeps, charged_keeps, on_keeps, blocked_keeps, new_stack_keeps, removes, waits, lends, came_keeps, ahead, goes_behind, resolves_now, marked_keeps}
use Rattle.abi_machine.specs.sound.Entered.{IsByEntered, HaveEntered}
use Rattle.abi_machine.proofs.sound.Entered.{caller_entered, by_still}
use Rattle.comp_graph.specs.Needs.{flat_result_limit}
use Rattle.abi_machine.specs.sound.EndsPassed.{AreApart, IsOnTheWay, HostPassesNoEnd, ReadersPass}
use Rattle.abi_machine.proofs.sound.ends.Lowered.{result_adds}
use Rattle.abi_machine.proofs.sound.ends.Brought.{BringsSo, hosts_before, came_passes}
use Rattle.abi_machine.proofs.sound.ends.Lifting.{ends_returned, result_brings}

-- what a task keeps while something is lifted for it
abbrev pub IsLike : Task → Task → Type 0
IsLike task x = (x.resolution ≡ task.resolution) × (x.cancellation ≡ task.cancellation) × (x.callee ≡ task.callee)

-- it acts, is still like this task, and the one that called it has entered
abbrev pub ActsLike : ℕ → Task → World → Type 0
ActsLike t task w = IsFirst t w.chain × TaskIs w.tasks t (IsLike task) × IsByEntered w.tasks task.caller

pub acts_like : (t : ℕ) (task : Task) (w : World) → IsFirst t w.chain → slice_get w.tasks t ≡ Some task → HaveEntered w → ActsLike t task w
acts_like t task w first there entered = (first, (task, there, (refl, refl, refl)), caller_entered w t task entered there)

is_unresolved : (o : Option Resolution) (borrows : Bool) → (if is_some o then Some Resolved else (if borrows then Some BorrowLives else None)) ≡ None → o ≡ None
is_unresolved None borrows e = refl
is_unresolved (Some r) borrows e = cc

none_borrowed : (o : Option Resolution) (borrows : Bool) → (if is_some o then Some Resolved else (if borrows then Some BorrowLives else None)) ≡ None → borrows ≡ false
none_borrowed None true e = cc
none_borrowed None false e = refl
none_borrowed (Some r) borrows e = cc

none_more : (n : ℕ) → nat_lt 0 n ≡ false → n ≡ 0
none_more n e = grind (arith, nat_tests)

pub no_borrows : (v : TaskView) → resolving_fault v ≡ None → v.borrows ≡ 0
no_borrows v e = none_more v.borrows (none_borrowed v.resolution (nat_lt 0 v.borrows) e)

-- Where nothing keeps a task from resolving it has not resolved.
pub no_fault : (v : TaskView) → resolving_fault v ≡ None → v.resolution ≡ None
no_fault v e = is_unresolved v.resolution (nat_lt 0 v.borrows) e

-- One that acts has not exited.
acting_there : (state : TaskState) → IsActingState state → IsThere state
acting_there Acting is = tt
acting_there (Begins n) is = tt
acting_there IsNew is = tt
acting_there (AfterCall callee number words) is = tt
acting_there (AfterCancel callee number words) is = tt
acting_there WaitsToEnter is = tt
acting_there (InLoop word) is = tt
acting_there (InBuiltin number words wait) is = tt
acting_there Exited is = is

module _ {g : Graph} {s : Script} (inv : Invariant g s) where
  -- Tasks resolve and exit.

  pub finished_keeps : (follows : After) (w : World) → HasResolvedFor follows w.tasks w.chain → Acted inv w → Keeps inv (finished follows w)
  unfolding finished post_return
  finished_keeps Replies w done h = given_keeps inv (acting w) _ (λ a e. on_keeps inv a.0 [] w h)
  finished_keeps (Finishes ended) w done h = given_keeps inv (acting w) _ (λ a e. given_keeps inv (func_of a.1.callee) _ (λ f i. by a f f.options.post_return))
    where
      by : (a : ℕ × Task) (f : Lifted) (r : Option FuncRef) → Keeps inv (post_return a.0 f ended r w)
      by a f None = goes inv Leaves w (h.1, done) h.0
      by a f (Some ref) = given_keeps inv (found_at w.store.funcs (func_address w.store ref)) _ (λ function e. goes inv _ w (h.1, tt, tt, done, λ none. tt) h.0)

  -- the readable ends in a result are on their way, where the script passes none
  abbrev EndsPass : Option TypedValue → World → Type 0
  EndsPass result w = HostPassesNoEnd w.tasks → AreApart (ends_returned result) (IsOnTheWay w.insts w.streams w.futures)

  passed_keeps : (t : ℕ) (caller : Caller) (follows : After) (result : Option TypedValue) (w : World) → IsByEntered w.tasks caller → HasResolvedFor follows w.tasks w.chain → EndsPass result w → Acted inv w
      → Keeps inv (passed_on g t caller follows result w)
  unfolding passed_on passed_to
  passed_keeps t Nobody follows result w entered done passes h = finished_keeps follows w done h
  passed_keeps t (Host call values) follows result w entered done passes h = finished_keeps follows w done h
  passed_keeps t (Guest subtask) follows None w entered done passes h = finished_keeps follows w done h
  passed_keeps t (Guest subtask) follows (Some result) w entered done passes h =
      given_keeps inv (canon_at g subtask.canon) _ (λ c e.
      goes inv _ w
      (h.1, tt, entered, done, λ none. result_adds (defines g (inst_of_canon c)) (IsOnTheWay w.insts w.streams w.futures) (options_of_canon c).is_async result.val_type result.value subtask.words (passes none)) h.0)

module _ {g : Graph} {s : Script} (inv : Invariant g s) where
  -- what holds while the result of a task is lifted, and when it has come
  abbrev pub WhileLifted : ℕ → Task → World → Type 0
  WhileLifted t task w = Acted inv w × ActsLike t task w

  pub result_comes : (i t limit : ℕ) (task : Task) (type : Option ValType) (options : Options) (words : List ℕ) (w : World)
      → ((v : World) → ActsLike t task v → held_borrow type ≡ true → PassBorrow g v) → Acted inv w → ActsLike t task w
      → LeavesWith (λ (k : Kept). WhileLifted t task k.world) (λ (stop : Stopped). WhileLifted t task stop.world) (result_passed i t limit type options words w)
  result_comes i t limit task type options words w passes h like =
      result_keeps i t (WhileLifted t task) (held_borrow type ≡ true) (λ j index v may k. (removes inv j index v may k.0, k.1)) (λ j index v may k. (waits inv j index v may k.0, k.1))
      (λ index v used there k. (lends inv t index v (i, there, inr (passes v k.1 used)) k.0, (k.1.0, still_is v.tasks t t _ (IsLike task) (λ x l. l) k.1.1, by_still v.tasks t _ (λ x. refl) task.caller k.1.2)))
      limit type (λ b. b) options words w (h, like)

  resolvable : (t : ℕ) (task : Task) (w : World) → HasActing w → ActsLike t task w → task.resolution ≡ None → TaskIs w.tasks t (MayResolve Returned)
  resolvable t task w works like none =
      (like.1.0, like.1.1, (one_task w.tasks t IsActing like.1.0 like.1.1 (first_at w.tasks w.chain t IsActing like.0 works), like.1.2.0 ∙ none, tt))

  resolves_to_keeps : (t : ℕ) (task : Task) (follows : After) (result : Option TypedValue) (w : World) → EndsPass inv result w → WhileLifted t task w → Keeps inv (resolves_to g t task follows result w)
  unfolding resolves_to
  resolves_to_keeps t task follows result w passes i =
      fault_keeps inv t task_name (resolving_fault (task_view g w t task)) w _ i.0 (λ none.
      marked_keeps inv (mark.Returns t ∷ []) (line.Return t result ∷ []) (passed_on g t task.caller follows result (resolved t Returned w)) refl
      (passed_keeps (ahead (mark.Returns t ∷ []) inv) t task.caller follows result (resolved t Returned w) (by_still w.tasks t _ (λ x. refl) task.caller i.1.2)
      (has_resolved_for follows (resolved t Returned w).tasks w.chain (first_now (resolved t Returned w).tasks w.chain t (λ x. IsSome x.resolution) i.1.0
      (now_is w.tasks t (λ x. record x { resolution = Some Returned }) (IsLike task) (λ x. IsSome x.resolution) (λ x k. refl) i.1.1)))
      (λ hosts. passes (hosts_before t (λ x. record x { resolution = Some Returned }) w.tasks (λ x k. k) hosts))
      (resolves_now inv t Returned w (resolvable t task w i.0.1 i.1 (no_fault (task_view g w t task) none), no_borrows (task_view g w t task) none) i.0)))

  pub resolves_keeps : (t : ℕ) (task : Task) (follows : After) (came : Came (Option TypedValue)) (before : World) → BringsSo before ends_returned came → ReadersPass before
      → LeavesWith (λ (k : Kept). WhileLifted t task k.world) (λ (stop : Stopped). WhileLifted t task stop.world) came → ComesPlain came → Keeps inv (resolves g t task follows came)
  unfolding resolves
  resolves_keeps t task follows came before brings readers h none =
      came_keeps inv (WhileLifted t task) t came (λ result w. resolves_to g t task follows result w) (λ w k. k.0) h none (λ result k comes i. resolves_to_keeps t task follows result k.world (came_passes before ends_returned came result k brings comes readers) i)

  ending_keeps : (t : ℕ) (task : Task) (w : World) → ActsLike t task w → Acted inv w → Keeps inv (ending_turn t task w)
  unfolding ending_turn
  ending_keeps t task w like h =
      unless_keeps inv t (is_none task.resolution) trap.Unresolved w _ h
      (λ e.
      goes inv Leaves w (
        h.1,
        first_now w.tasks w.chain t (λ x. IsSome x.resolution) like.0
            (is_as w.tasks t (IsLike task) (λ x. IsSome x.resolution) (λ x k. subst (λ (o : Option Resolution). IsSome o) (sym k.0) (resolution_there task.resolution e)) like.1),
      ) h.0)

  exits_so : (w : World) (t : ℕ) → IsFirst t w.chain → FirstHasResolved w.tasks w.chain → HasActing w → TaskIs w.tasks t (ExitsFrom t)
  exits_so w t first done works =
      let now : TaskIs w.tasks t (λ x. IsSome x.resolution) = first_at w.tasks w.chain t (λ x. IsSome x.resolution) first done in
      (now.0, now.1, λ later. (one_task w.tasks t IsActing now.0 now.1 (first_at w.tasks w.chain t IsActing first works), now.2))

  pub leaving_keeps : (w : World) → FirstHasResolved w.tasks w.chain → Acted inv w → Keeps inv (leaving_turn w)
  unfolding leaving_turn
  leaving_keeps w done h =
      given_keeps inv (acting w) _ (λ a e.
      goes_behind inv (with_exit a.0 []) (control_behind (drop 1 w.chain)) (after (Exits a.0) w) (behind_agrees (drop 1 w.chain) (after (Exits a.0) w) refl) (inv.stays [] (Exits a.0) w
      (acting_first w a e, is_as w.tasks a.0 (λ x. IsSome x.resolution) ExitsResolved (λ x k func. k) (first_at w.tasks w.chain a.0 (λ x. IsSome x.resolution) (acting_first w a e) done), exits_so w a.0 (acting_first w a e) done h.1) h.0))

  -- Core functions make moves.

  -- a task that acts and has a callback
  blocks_looped : (t word : ℕ) (w : World) → IsFirst t w.chain → TaskIs w.tasks t (λ x. kind_of x ≡ Callback) → Acted inv w → TaskIs w.tasks t (BlocksFrom (InLoop word))
  blocks_looped t word w first looped h = (looped.0, looped.1, (one_task w.tasks t IsActing looped.0 looped.1 (first_at w.tasks w.chain t IsActing first h.1), looped.2))

  next_keeps : (t : ℕ) (task : Task) (i word : ℕ) (r : Result Next BadCode) (w : World) → ActsLike t task w → HasFunc w.tasks t → TaskIs w.tasks t (λ x. kind_of x ≡ Callback) → Acted inv w → Keeps inv (next_turn t task i word r w)
  unfolding next_turn
  next_keeps t task i word (Err why) w like runs looped h = goes_on inv (Doomed t trap.BadCode) w tt h
  next_keeps t task i word (Ok next.Exit) w like runs looped h = ending_keeps t task w like h
  next_keeps t task i word (Ok next.Yield) w like runs looped h = blocked_keeps inv t (InLoop word) reason.Yield w like.0 tt (inr runs) (blocks_looped t word w like.0 looped h) h.0
  next_keeps t task i word (Ok (next.Wait set)) w like runs looped h =
      refused_keeps inv t (set_at w i set) w _ h (λ number e. blocked_keeps inv t (InLoop word) (reason.Wait set) w like.0 tt (inr runs) (blocks_looped t word w like.0 looped h) h.0)
  next_keeps t task i word (Ok (next.Poll set)) w like runs looped h =
      refused_keeps inv t (set_at w i set) w _ h (λ number e. blocked_keeps inv t (InLoop word) (reason.Poll set) w like.0 tt (inr runs) (blocks_looped t word w like.0 looped h) h.0)

  looping_keeps : (t : ℕ) (task : Task) (i : ℕ) (words : List ℕ) (w : World) → ActsLike t task w → HasFunc w.tasks t → TaskIs w.tasks t (λ x. kind_of x ≡ Callback) → Acted inv w → Keeps inv (looping_turn t task i words w)
  unfolding looping_turn
  looping_keeps t task i [] w like runs looped h = tt
  looping_keeps t task i (word ∷ words) w like runs looped h = next_keeps t task i word (callback_of word) w like runs looped h

  result_borrowed : (t : ℕ) (task : Task) (f : Lifted) (w : World) → func_of task.callee ≡ Some f → ActsLike t task w → held_borrow f.func_type.result ≡ true → PassBorrow g w
  result_borrowed t task f w is like b = inr (inl (t, is_as w.tasks t (IsLike task) HasBorrowResult (λ x k. (f, ap func_of k.2 ∙ is, b)) like.1))

  func_keeps : (t : ℕ) (task : Task) (f : Lifted) (kind : Kind) (words : List ℕ) (w : World) → kind_of task ≡ kind → func_of task.callee ≡ Some f → ActsLike t task w → HasFunc w.tasks t → Acted inv w
      → Keeps inv (func_ended g t task f kind words w)
  unfolding func_ended returning_turn
  func_keeps t task f Sync words w kind is like runs h =
      resolves_keeps t task (Finishes words) _ w (result_brings f.instance t flat_result_limit f.func_type.result f.options words w) (inv.readers [] w h.0) (result_comes f.instance t _ task f.func_type.result f.options words w (λ v l b. result_borrowed t task f v is l b) h like)
      (result_unmarked f.instance t flat_result_limit f.func_type.result f.options words w)
  func_keeps t task f Stackful words w kind is like runs h = ending_keeps t task w like h
  func_keeps t task f Callback words w kind is like runs h =
      looping_keeps t task f.instance words w like runs (is_as w.tasks t (IsLike task) (λ x. kind_of x ≡ Callback) (λ x k. ap (λ (c : Callee). kind_of_func (func_of c)) k.2 ∙ kind) like.1) h

  stack_keeps : (t : ℕ) (task : Task) (state : TaskState) (words : List ℕ) (w : World) → ActsLike t task w → (IsSome (func_of task.callee) → HasFunc w.tasks t)
      → ((n : ℕ) → state ≡ Begins n → w.chain ≡ 0 ∷ []) → Acted inv w → Keeps inv (stack_ended g t task state words w)
  unfolding stack_ended
  stack_keeps t task (Begins n) words w like runs alone h =
      goes inv (Instantiates n) (in_state t Acting w) (alone n refl) (acts inv t w (like.0, is_as w.tasks t IsActing (MayBeInside w.tasks) (λ x k. inl (acting_inside x k)) (first_at w.tasks w.chain t IsActing like.0 h.1), is_as w.tasks t IsActing (λ x. IsThere x.state) (λ x k. acting_there x.state k) (first_at w.tasks w.chain t IsActing like.0 h.1))
      (is_as w.tasks t IsActing IsBehindEntry (λ x k. acting_entered x.state k) (first_at w.tasks w.chain t IsActing like.0 h.1)) h.0).0
  stack_keeps t task Acting words w like runs alone h =
      given_keeps inv (func_of task.callee) _ (λ f e. func_keeps t task f (kind_of task) words w refl e like (runs (subst (λ (o : Option Lifted). IsSome o) (sym e) refl)) h)
  stack_keeps t task IsNew words w like runs alone h = tt
  stack_keeps t task (AfterCall callee number others) words w like runs alone h = tt
  stack_keeps t task (AfterCancel callee number others) words w like runs alone h = tt
  stack_keeps t task WaitsToEnter words w like runs alone h = tt
  stack_keeps t task (InLoop word) words w like runs alone h = tt
  stack_keeps t task (InBuiltin number others wait) words w like runs alone h = tt
  stack_keeps t task Exited words w like runs alone h = tt

  over_keeps : (t : ℕ) (task : Task) (stacks : List Stack) (words : List ℕ) (w : World) → ActsLike t task w → (IsSome (func_of task.callee) → HasFunc w.tasks t)
      → ((n : ℕ) → task.state ≡ Begins n → w.chain ≡ 0 ∷ []) → Acted inv w → Keeps inv (ended_over g t task stacks words w)
  unfolding ended_over
  over_keeps t task [] words w like runs alone h = stack_keeps t task task.state words w like runs alone h
  over_keeps t task (k ∷ under) words w like runs alone h = on_keeps inv t [] w h

  move_keeps : (t : ℕ) (task : Task) (m : Move) (w : World) → IsFirst t w.chain → slice_get w.tasks t ≡ Some task → ((n : ℕ) → task.state ≡ Begins n → w.chain ≡ 0 ∷ []) → Acted inv w → Keeps inv (moved g t task m w)
  unfolding moved
  move_keeps t task (Goes paid store k) w first there alone h =
      goes_on inv Runs (after (HasStack t k) (with_store store w)) tt (stay inv (HasStack t k) (with_store store w) tt tt (stay inv (HasStore store) w tt tt h))
  move_keeps t task (core.Calls address words k) w first there alone h = goes_on inv (control.Calls address words) (after (HasStack t k) w) tt (stay inv (HasStack t k) w tt tt h)
  move_keeps t task (core.Ends words) w first there alone h =
      over_keeps t task (drop 1 task.stacks) words (after (LosesStack t) w) (first, still_is w.tasks t t (λ x. record x { stacks = drop 1 x.stacks }) (IsLike task) (λ x k. k) (task, there, (refl, refl, refl)), by_still w.tasks t (λ x. record x { stacks = drop 1 x.stacks }) (λ x. refl) task.caller (caller_entered w t task (inv.entered [] w h.0) there))
      (λ some. func_changed w.tasks t t (λ x. record x { stacks = drop 1 x.stacks }) (λ x. refl) (task, there, some)) alone (stay inv (LosesStack t) w tt tt h)
  move_keeps t task (Traps why) w first there alone h = goes_on inv (Doomed t (core_name why)) w tt h
  move_keeps t task core.Stuck w first there alone h = tt

  pub running_keeps : (w : World) → Acted inv w → Keeps inv (running_turn g s w)
  unfolding running_turn
  running_keeps w h =
      given_keeps inv (acting w) _ (λ a e. given_keeps inv (slice_get a.1.stacks 0) _ (λ k i.
      charged_keeps inv (costs k (core.next w.store k)) w (λ v. moved g a.0 a.1 (core.next w.store k) v) h.0 (λ units j.
      move_keeps a.0 a.1 (core.next w.store k) (record w { units = units }) (acting_first w a e) (acting_is w a e)
      (λ n b. inv.alone [] w a.0 a.1 n h.0 (acting_first w a e) (acting_is w a e) b) (j, h.1))))

  -- Task 0 instantiates.

  start_keeps : (n : ℕ) (k : Option Stack) (w : World) → w.chain ≡ 0 ∷ [] → inv.Holds [] w → Keeps inv (started_up n k w)
  unfolding started_up
  start_keeps n None w one h = goes inv (Instantiates n) w one h
  start_keeps n (Some k) w one h =
      let first : IsFirst 0 w.chain = ap (λ (l : List ℕ). slice_get l 0) one in
      new_stack_keeps inv 0 k (in_state 0 (Begins n) w) (
        inv.stays [] (IsBegun n) w (first, inv.there [] w h) h,
        first_now _ w.chain 0 IsActing first (now_is w.tasks 0 (λ task. record task { state = Begins n }) (λ task. task.callee ≡ Init) IsActing (λ y l. tt) (inv.there [] w h)),
      )

  core_keeps : (n : ℕ) (c : CoreMake) (imports : List External) (r : Instantiation) (w : World) → w.chain ≡ 0 ∷ [] → inv.Holds [] w → Keeps inv (core_made n c imports r w)
  unfolding core_made
  core_keeps n c imports (core_instance.SegmentBounds store) w one h = goes inv (Doomed 0 trap.SegmentBounds) (with_store store w) tt (inv.stays [] (HasStore store) w tt h)
  core_keeps n c imports (Makes store) w one h =
      start_keeps (n + 1) (start_call c.of_module (instance_of c.of_module imports w.store) store) (with_store store w) one (inv.stays [] (HasStore store) w tt h)

  action_keeps : (n : ℕ) (a : Option Action) (w : World) → w.chain ≡ 0 ∷ [] → inv.Holds [] w → Keeps inv (action_turn g n a w)
  unfolding action_turn
  action_keeps n None w one h = goes inv Free (after (Exits 0) w) (ap (λ (l : List ℕ). drop 1 l) one) (inv.stays [] (Exits 0) w (ap (λ (l : List ℕ). slice_get l 0) one, is_as w.tasks 0 (λ x. x.callee ≡ Init) ExitsResolved (λ x k func. init_no_func x k func) (inv.there [] w h), is_as w.tasks 0 (λ x. x.callee ≡ Init) (ExitsFrom 0) (λ x k later. absurd (let none : 1 ≤ 0 = later in omega (arith, none))) (inv.there [] w h)) h)
  action_keeps n (Some (Begin number)) w one h = goes inv (Instantiates (n + 1)) (after BeginsInstance w) one (inv.stays [] BeginsInstance w tt h)
  action_keeps n (Some (Make number)) w one h =
      given_keeps inv (slice_get g.cores number) _ (λ c e. given_keeps inv (externals w.store c.imports) _ (λ imports i.
      core_keeps n c imports (instantiated c.of_module imports w.store) w one h))

  pub instantiating_keeps : (n : ℕ) (w : World) → w.chain ≡ 0 ∷ [] → inv.Holds [] w → Keeps inv (instantiating_turn g n w)
  unfolding instantiating_turn
  instantiating_keeps n w one h = action_keeps n (slice_get g.plan n) w one h
