-- Turns whose steps leave typed worlds, where what they answer is words of what is waited at.
use Rattle.std.proofs.Common.{◌≡◌, ◌∙◌, ◌⊎◌, inl, inr, ◌+◌, ℕ, Bool, true, false, if◌then◌else◌, nat_lt, List, [], ◌∷◌, ◌++◌, drop, refl, sym, subst, Option, Some, None, Result, Ok, Err}
use Rattle.std.specs.List.{slice_get, AllByRecursion}
use Rattle.syntax_trees.specs.declared.module_types.ValType.{ValType}
use Rattle.wasm_numbers.specs.Types.{AreWords}
use Rattle.wasm_store.specs.Store.{Store}
use Rattle.handle_table.specs.History.{Event, live_count, most_live, next_index}
use Rattle.builtin_kinds.specs.declared.EndKind.{EndKind}
use Rattle.builtin_kinds.specs.declared.EndKind.TheVariants.{Stream, Future}
use Rattle.tasks.specs.declared.subtask_state.SubtaskState.{SubtaskState}
use Rattle.tasks.specs.Subtasks.{delivered, with_lend}
use Rattle.comp_graph.specs.Graph.{Graph, Lifted}
use Rattle.script_reader.specs.Script.{Script}
use Rattle.trace_labels.specs.declared.label.BlockReason.{BlockReason}
use Rattle.trace_labels.specs.declared.label.Label.{Label}
use Rattle.trace_labels.specs.declared.label.Label.TheVariants as line
use Rattle.trace_labels.specs.declared.trap.TrapName.{TrapName}
use Rattle.trace_labels.specs.declared.trap.TrapName.TheVariants as trap
use Rattle.abi_machine.specs.declared.run_end.RunEnd.TheVariants.{Fuel}
use Rattle.lowering_laws.proofs.Stores.{GoesOn}
use Rattle.abi_machine.specs.World.{Entry, Inst, Subtask, TaskState, Acting, Task, Channel, World}
use Rattle.abi_machine.specs.Edits.{changed_at, caller_changed, by_view, with_control, with_store, with_inst, unit_spent, entry_added, entry_removed, left_set, in_state, told, lent, answered_stacks, left_chain, control_behind, with_channel}
use Rattle.abi_machine.specs.Reading.{table_of, acting, func_of, subtask_of, task_at}
use Rattle.abi_machine.specs.Turn.{Turn, Steps, Ends, Stuck, doomed, behind, given, unless_refused, unless, unless_fault, with_func, goes_on_with, replied, blocked, charged, with_entry}
use Rattle.abi_machine.specs.Calling.{replied_behind, with_subtask_of}
use Rattle.abi_machine.specs.sound.Answers.{AreAnswers, HasRep}
use Rattle.abi_machine.specs.sound.Changes.{IsFirst}
use Rattle.abi_machine.specs.sound.Firsts.{TaskIs}
use Rattle.abi_machine.specs.sound.Starting.{IsDoomed}
use Rattle.abi_machine.specs.sound.TypedStacks.{IsWaiting, TopIs, RunsTyped, StandsTyped}
use Rattle.abi_machine.specs.sound.Planned.{EventHasRep}
use Rattle.abi_machine.specs.sound.TypedWorlds.{WaitsSo, IsGrounded, IsTypedWorld, PutsInside}
use Rattle.abi_machine.proofs.sound.Acted.{still_is, now_is, is_as}
use Rattle.abi_machine.proofs.sound.TypedMoves.{top_later, answered_top}
use Rattle.abi_machine.proofs.sound.planned.Reps.{reps_changed}
use Rattle.abi_machine.proofs.sound.worlds.Grounds.{ground_later, ground_insts, ground_state, ground_stacks, ground_called}

-- what is grounded in a world, while no result is lowered
abbrev pub IsGround : Graph → World → Type 0
IsGround g w = IsGrounded g w.store w.tasks w.insts None

-- what follows a task that leaves the chain
pub left_typed : (g : Graph) (w : World) → IsGround g w → IsTypedWorld g (left_chain w)
left_typed g w h = by (drop 1 w.chain)
  where
    by : (chain : List ℕ) → IsTypedWorld g (with_control (control_behind chain) (record w { chain = chain }))
    by [] = record { ground = h; acts = tt }
    by (t ∷ below) = record { ground = h; acts = tt }

module _ (g : Graph) (P : List ℕ → Type 0) where
  abbrev pub Good : Turn → Type 0
  Good (Steps labels v) = AreAnswers P labels → PutsInside v → IsDoomed v.control ⊎ IsTypedWorld g v
  Good (Ends end) = Unit {0}
  Good Stuck = Unit {0}

  answers_behind : (xs ys : List Label) → AreAnswers P (xs ++ ys) → AreAnswers P ys
  answers_behind [] ys h = h
  answers_behind (x ∷ xs) ys h = answers_behind xs ys h.1

  pub behind_good : (lines : List Label) (t : Turn) → Good t → Good (behind lines t)
  behind_good lines (Steps labels v) h = λ a. h (answers_behind lines labels a)
  behind_good lines (Ends end) h = tt
  behind_good lines Stuck h = tt

  pub given_good : {A : Type 0} (o : Option A) (f : A → Turn) → ((x : A) → o ≡ Some x → Good (f x)) → Good (given o f)
  given_good None f h = tt
  given_good (Some x) f h = h x refl

  pub either_good : (b : Bool) (t u : Turn) → (b ≡ true → Good t) → (b ≡ false → Good u) → Good (if b then t else u)
  either_good true t u h k = h refl
  either_good false t u h k = k refl

  pub doomed_good : (t : ℕ) (why : TrapName) (w : World) → Good (doomed t why w)
  doomed_good t why w = λ a inside. inl tt

  pub unless_good : (t : ℕ) (b : Bool) (why : TrapName) (w : World) (more : Turn) → (b ≡ false → Good more) → Good (unless t b why w more)
  unless_good t true why w more h = λ a inside. inl tt
  unless_good t false why w more h = h refl

  pub fault_good : {F : Type 0} (t : ℕ) (name : F → TrapName) (o : Option F) (w : World) (more : Turn) → Good more → Good (unless_fault t name o w more)
  fault_good t name None w more h = h
  fault_good t name (Some fault) w more h = λ a inside. inl tt

  pub refused_good : {A : Type 0} (t : ℕ) (r : Result A TrapName) (w : World) (f : A → Turn) → ((x : A) → r ≡ Ok x → Good (f x)) → Good (unless_refused t r w f)
  refused_good t (Err why) w f h = λ a inside. inl tt
  refused_good t (Ok x) w f h = h x refl

  pub charged_good : (costs : Bool) (s : Script) (w : World) (f : World → Turn) → ((units : ℕ) → Good (f (record w { units = units }))) → Good (charged costs s w f)
  charged_good false s w f h = h w.units
  charged_good true s w f h = either_good (nat_lt w.units s.fuel) (f (unit_spent w)) (Ends Fuel) (λ e. h (w.units + 1)) (λ e. tt)

  pub func_good : (w : World) (more : ℕ → Task → Lifted → Turn) → ((a : ℕ × Task) (f : Lifted) → acting w ≡ Some a → func_of a.1.callee ≡ Some f → Good (more a.0 a.1 f)) → Good (with_func w more)
  func_good w more h = given_good (acting w) _ (λ a e. given_good (func_of a.1.callee) _ (λ f k. h a f e k))

  pub subtask_good : (w : World) (callee : ℕ) (more : Task → Subtask → Turn) → ((task : Task) (subtask : Subtask) → task_at w callee ≡ Some task → subtask_of task.caller ≡ Some subtask → Good (more task subtask)) → Good (with_subtask_of w callee more)
  subtask_good w callee more h = given_good (task_at w callee) _ (λ task e. given_good (subtask_of task.caller) _ (λ subtask k. h task subtask e k))

  -- A task waits for words that are answered.
  pub record IsWaitingFor (s : Store) (task : Task) : Type 0 where
    pub asked : List ValType
    pub top : TopIs (IsWaiting s asked) s task.callee task.stacks
    pub takes : (words : List ℕ) → P words → AreWords asked words

  abbrev pub IsAt : Store → Task → Type 0
  IsAt s task = (task.state ≡ Acting) × IsWaitingFor s task

  -- the acting task of a world
  pub record At (w : World) (t : ℕ) : Type 0 where
    pub ground : IsGround g w
    pub first : IsFirst t w.chain
    pub is : TaskIs w.tasks t (IsAt w.store)

  -- It goes on with an answer.
  pub goes_on_typed : (t : ℕ) (words : List ℕ) (w : World) → At w t → P words → IsTypedWorld g (goes_on_with t words w)
  goes_on_typed t words w h p = record {
    ground = ground_stacks g w.store t (answered_stacks words) w.tasks w.insts None (is_as w.tasks t (IsAt w.store) (λ (x : Task). x.state ≡ Acting) (λ x k. k.0) h.is) h.ground;
    acts = (
      t,
      h.first,
      now_is w.tasks t (λ x. record x { stacks = answered_stacks words x.stacks }) (IsAt w.store) (RunsTyped w.store)
          (λ x k. answered_top w.store k.1.asked x.callee x.stacks words (k.1.takes words p) k.1.top) h.is,
    );
  }

  pub replied_good : (t : ℕ) (words : List ℕ) (w : World) → At w t → Good (replied t words w)
  replied_good t words w h = λ a inside. inr (goes_on_typed t words w h a.0)

  pub last_answer : (lines : List Label) (t : ℕ) (words : List ℕ) → AreAnswers P (lines ++ line.Got t words ∷ []) → P words
  last_answer lines t words h = (answers_behind lines (line.Got t words ∷ []) h).0

  pub told_good : (t : ℕ) (lines : List Label) (words : List ℕ) (w : World) → At w t → Good (replied_behind t lines words w)
  told_good t lines words w h = λ a inside. inr (goes_on_typed t words w h (last_answer lines t words a))

  -- A task blocks.
  pub blocked_good : (t : ℕ) (state : TaskState) (reason : BlockReason) (w : World) → IsGround g w → TaskIs w.tasks t (λ x. StandsTyped g w.store state (record x { state = state })) → WaitsSo g w.store state → Good (blocked t state reason w)
  blocked_good t state reason w h stands waits =
      λ a inside. inr (left_typed g (in_state t state w)
      (ground_state g w.store t state w.tasks w.insts None (λ x there. one_of w.tasks t (λ x. StandsTyped g w.store state (record x { state = state })) x there stands) waits h))
    where
      one_of : (tasks : List Task) (n : ℕ) (Q : Task → Type 0) (x : Task) → slice_get tasks n ≡ Some x → TaskIs tasks n Q → Q x
      one_of tasks n Q x there k = subst Q (same k.0 x (sym k.1 ∙ there)) k.2
        where
          same : (y z : Task) → Some y ≡ Some z → y ≡ z
          same y z e = cc

  -- What is changed beside it: tables, the caller's side of calls, how far cancellation is, and the store.
  pub at_inst : (w : World) (t i : ℕ) (f : Inst → Inst) → ((x : Inst) → (f x).table ≡ x.table) → At w t → At (with_inst i f w) t
  at_inst w t i f same h = record {
    ground = ground_insts g w.store w.tasks w.insts (changed_at i f w.insts) None (reps_changed i f w.insts (λ x k. subst (λ (table : List (Event Entry)). AllByRecursion EventHasRep table) (sym (same x)) k) h.ground.reps) h.ground;
    first = h.first;
    is = h.is;
  }

  pub at_removed : (w : World) (t i index : ℕ) → At w t → At (entry_removed i index w) t
  at_removed w t i index h = record { ground = ground_insts g w.store w.tasks w.insts (entry_removed i index w).insts None (reps_changed i _ w.insts (λ x k. (tt, k)) h.ground.reps) h.ground; first = h.first; is = h.is }

  pub at_added : (w : World) (t i : ℕ) (entry : Entry) → HasRep entry → At w t → At (entry_added i entry w) t
  at_added w t i entry rep h = record { ground = ground_insts g w.store w.tasks w.insts (entry_added i entry w).insts None (reps_changed i _ w.insts (λ x k. (rep, k)) h.ground.reps) h.ground; first = h.first; is = h.is }

  pub at_left : (w : World) (t i waitable : ℕ) → At w t → At (left_set i waitable w) t
  at_left w t i waitable h = at_inst w t i _ (λ x. refl) h

  pub at_called : (w : World) (t n : ℕ) (F : Subtask → Subtask) → ((x : Subtask) → (F x).canon ≡ x.canon) → ((x : Subtask) → (F x).result ≡ x.result) → At w t → At (record w { tasks = changed_at n (λ x. record x { caller = caller_changed F x.caller }) w.tasks }) t
  at_called w t n F canon result h = record {
    ground = ground_called g w.store n F w.tasks w.insts None canon result h.ground;
    first = h.first;
    is = still_is w.tasks n t (λ x. record x { caller = caller_changed F x.caller }) (IsAt w.store) (λ x k. (k.0, record { asked = k.1.asked; top = k.1.top; takes = k.1.takes })) h.is;
  }

  pub at_told : (w : World) (t n : ℕ) (state : SubtaskState) → At w t → At (told n state w) t
  at_told w t n state h = at_called w t n (by_view delivered n state) (λ x. refl) (λ x. refl) h

  pub at_lent : (w : World) (t n handle : ℕ) → At w t → At (lent n handle w) t
  at_lent w t n handle h = at_called w t n (λ subtask. by_view (with_lend handle) n subtask.told subtask) (λ x. refl) (λ x. refl) h

  pub at_later : (w : World) (s : Store) (t : ℕ) → GoesOn w.store s → At w t → At (with_store s w) t
  at_later w s t x h = record {
    ground = ground_later g w.store s w.tasks w.insts None x h.ground;
    first = h.first;
    is = is_as w.tasks t (IsAt w.store) (IsAt s) (λ y k. (k.0, record { asked = k.1.asked; top = top_later w.store s k.1.asked y.callee y.stacks x.extends k.1.top; takes = k.1.takes })) h.is;
  }

  pub at_channel : (w : World) (t : ℕ) (kind : EndKind) (number : ℕ) (f : Channel → Channel) → At w t → At (with_channel kind number f w) t
  at_channel w t Stream number f h = record { ground = h.ground; first = h.first; is = h.is }
  at_channel w t Future number f h = record { ground = h.ground; first = h.first; is = h.is }

  pub entry_good : (t i : ℕ) (entry : Entry) (w : World) (more : ℕ → World → Turn) → HasRep entry → At w t → ((index : ℕ) (v : World) → At v t → Good (more index v)) → Good (with_entry t i entry w more)
  entry_good t i entry w more rep h k =
      either_good (nat_lt (live_count (table_of w i)) most_live) (more (next_index (table_of w i)) (entry_added i entry w)) (doomed t trap.TableFull w)
      (λ e. k (next_index (table_of w i)) (entry_added i entry w) (at_added w t i entry rep h)) (λ e. doomed_good t trap.TableFull w)
