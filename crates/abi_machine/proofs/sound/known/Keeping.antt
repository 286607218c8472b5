-- What a turn makes of the acting task and keeps, where what held at its start is known: steps by their kinds, answers, blocked tasks and what is
-- lifted.
use Rattle.std.proofs.Common.{◌≡◌, ◌<◌, ◌⊎◌, inr, ℕ, ◌+◌, Bool, true, false, nat_lt, List, [], ◌∷◌, length, drop, refl, sym, ◌∙◌, subst, Option, Some, None, Result, Ok, Err, if◌then◌else◌}
use Rattle.std.specs.Prelude.{IsSome}
use Rattle.std.specs.List.{slice_get}
use Rattle.wasm_store.specs.Stack.{Stack}
use Rattle.choices.specs.Drawing.{drawn, drawn_answer}
use Rattle.handle_table.specs.History.{live_count, most_live, next_index}
use Rattle.tasks.specs.declared.phase.Cancellation.TheVariants.{Asked}
use Rattle.tasks.specs.Tasks.{is_unasked}
use Rattle.tasks.specs.declared.subtask_state.SubtaskState.TheVariants.{Starting}
use Rattle.stream_ends.specs.declared.open_copy.OpenCopy.{OpenCopy}
use Rattle.comp_graph.specs.Graph.{Graph, Lifted}
use Rattle.script_reader.specs.Script.{Script}
use Rattle.trace_labels.specs.declared.label.Label.{Label}
use Rattle.trace_labels.specs.declared.label.BlockReason.{BlockReason}
use Rattle.trace_labels.specs.declared.trap.TrapName.{TrapName}
use Rattle.trace_labels.specs.declared.trap.TrapName.TheVariants as trap
use Rattle.abi_machine.specs.declared.run_end.RunEnd.TheVariants.{Fuel}
use Rattle.abi_machine.specs.Control.{EndRef, Control, Free, Chosen, Instantiates, Runs, Lowers, Quiet, Goes as GoesOn, Resumes, Delivers, Doomed}
use Rattle.abi_machine.specs.Control as control
use Rattle.abi_machine.specs.World.{Entry, OfSubtask, OfSet, OfEnd, Callee, ForSet, ForCall, ForCopy, TaskState, Acting, AfterCall, Begins, WaitsToEnter, InLoop, InBuiltin, Task, World}
use Rattle.abi_machine.specs.Edits.{with_control, entry_added, entry_removed, left_set, unit_spent, in_state, control_behind, answered_stacks, lent, offered}
use Rattle.abi_machine.specs.Canons.{canon_at, options_at}
use Rattle.abi_machine.specs.Reading.{table_in, table_of, entry_at, func_of, is_reentrant, may_leave}
use Rattle.abi_machine.specs.Counting.{waiters_of, end_of}
use Rattle.abi_machine.specs.Copying.{task_by}
use Rattle.abi_machine.specs.Lifting.{Kept, Stopped, Came, once_lifted}
use Rattle.abi_machine.specs.Choosing.{picks_of, chosen}
use Rattle.abi_machine.specs.Turn.{Turn, Steps, Ends, Stuck, doomed, behind, given, unless_refused, unless, unless_fault, goes_on_with, blocked, charged, with_entry}
use Rattle.abi_machine.specs.sound.Premises.{HasNoCopy, WasDropped, IsTaken}
use Rattle.abi_machine.specs.sound.Firsts.{TaskIs}
use Rattle.abi_machine.specs.sound.Cancels.{IsResolved, IsOver}
use Rattle.abi_machine.specs.sound.Changes.{Change, GoesTo, SpendsUnit, HasStore, UsesPicks, AddsEntry, RemovesEntry, RemovesWaitable, IsCalled, Calls, ComesBack, Acts, Begins, Cancels, Blocks, IsRemoved, IsCancelled, Exits, HasNewStack, HasStack, LosesStack, IsAnswered, IsTold, IsLent, Offers, Concludes, after, Stands, IsFirst, HasFunc, IsBlocked, MayCome}
use Rattle.abi_machine.specs.sound.Chain.{IsChained}
use Rattle.abi_machine.specs.sound.Acting.{outlines_of, HasStacks, WaitsWith, StandsBy, HaveStacks, IsActing, IsRunning, OneActs, ActsBy}
use Rattle.abi_machine.specs.sound.Called.{HaveCalled}
use Rattle.abi_machine.specs.sound.Loops.{HasSetAt, LoopsIn}
use Rattle.abi_machine.specs.sound.Subtasks.{StandsNowhere, CallIs, IsAsync, IsUnawaited, AreSubtasks}
use Rattle.abi_machine.specs.sound.Picked.{IsPicked}
use Rattle.abi_machine.specs.sound.Events.{EventComes}
use Rattle.abi_machine.specs.sound.Guests.{WaitAs}
use Rattle.abi_machine.specs.sound.Owners.{owner_of_canon, IsApart, IsMadeUpTo, IsLiftedApart, IsOwnStack, CallsOwn, IsControlOwn, IsOwnWorld}
use Rattle.abi_machine.proofs.sound.Lifts.{Leaves as LeavesWith}
use Rattle.abi_machine.proofs.sound.Alone.{Alone}
use Rattle.abi_machine.proofs.sound.Numbered.{changed_twice}
use Rattle.abi_machine.proofs.sound.Outlines.{Is, as_is, stacks_first, answered_some, MayHaveStacks, Runs as InTask, runs_may, acting_runs, acting_running}
use Rattle.abi_machine.proofs.sound.Standing.{IsSteady, steady}
use Rattle.abi_machine.proofs.sound.acts.Keeping.{IsIn, left_acts, IsUntrapped, waits_stacked, less}
use Rattle.abi_machine.proofs.sound.own.Tasks.{IsOwnStore, after_calls_own}
use Rattle.abi_machine.proofs.sound.Found.{some_same}
use Rattle.abi_machine.proofs.sound.known.Handles.{IsHandle, handle_is_left, handle_unwaited}
use Rattle.abi_machine.proofs.sound.known.Unawaited.{CallsInside}
use Rattle.abi_machine.proofs.sound.known.Asked.{TellsWell, CancelsWell, BlocksAsked, AskedFacts}
use Rattle.abi_machine.proofs.sound.known.Copying.{NoneAwaits, BlocksCopying, CopyFacts}

-- What else is known where a change comes. A set that is removed is waited on by no task; and where what held at the start of the turn is given, a
-- subtask that is added to a table was called by a canonical function that does not wait, from the component instance of the table, and no task waits
-- in a call for one that is told or cancelled. Where what held of cancellations is given, they are well asked and told, and a subtask that leaves its table was told that it has resolved.
-- What leaves a table has no copy under way, nor has an end where a call comes; and where what held of copies is given, none waits for one that is told.
-- A task that changes its state waits for no copy; and where changes that belong together are kept together, none acts again from such a wait, or blocks
-- in one, by itself, and a call whose offer stands does not wait.
abbrev pub WaitsElse : TaskState → Type 0
WaitsElse (InBuiltin number words (ForCopy index)) = ⊥
WaitsElse state = Unit {0}

abbrev pub WaitsForNone : ℕ → World → Type 0
WaitsForNone t w = Is (λ o. WaitsElse o.state) t w

abbrev pub NoneWaits : World → ℕ → ℕ → Type 0
NoneWaits w i index = (set : ℕ) → entry_at w i index ≡ Some (OfSet set) → waiters_of w i index ≡ 0

abbrev pub IsNewEntry : Graph → World → ℕ → Entry → Type 0
IsNewEntry g w i (OfSubtask callee) = CallIs w.tasks callee (IsAsync g) × IsUnawaited w.tasks callee × StandsNowhere w.insts callee × CallIs w.tasks callee (CallsInside w.tasks i)
IsNewEntry g w i entry = Unit {0}

-- A task that is called runs in none of the component instances in which the one that calls it runs, or its callers.
abbrev pub CallsApart : World → Callee → ℕ → Type 0
CallsApart w callee t = (f : Lifted) → func_of callee ≡ Some f → is_reentrant w f.instance t ≡ false

abbrev pub BlocksAs : Graph → ℕ → TaskState → World → Type 0
BlocksAs g t (InBuiltin number words (ForSet index)) w = (i : ℕ) × (owner_of_canon g number ≡ Some i) × HasSetAt (table_in (slice_get w.insts i)) index
BlocksAs g t (InBuiltin number words (ForCall callee)) w = Is (IsIn (AfterCall callee number words)) t w × ((options_at g number).is_async ≡ false)
BlocksAs g t (InLoop word) w = Is (λ o. LoopsIn w.insts (func_of o.callee) word) t w
BlocksAs g t state w = Unit {0}

abbrev pub Besides : Type 0 → Type 0 → Type 0 → Type 0 → Graph → Change → World → Type 0
Besides F D C J g (ComesBack t) w = ⊥
Besides F D C J g (IsRemoved t) w = ⊥
Besides F D C J g (Calls number callee subtask words) w = (subtask.canon ≡ number) × Is (WaitsWith true) subtask.by w × IsSome (canon_at g number) × (subtask.told ≡ Starting) × CallsApart w callee subtask.by × WaitsForNone subtask.by w
Besides F D C J g (Cancels t callee number words) w =
    Is (WaitsWith true) t w × IsSome (slice_get w.tasks callee) × (F → IsUnawaited w.tasks callee) × (D → CancelsWell w t callee words × TaskIs w.tasks callee IsResolved) × WaitsForNone t w
Besides F D C J g (Blocks t state) w = BlocksAs g t state w × Is (StandsBy state) t w × (D → BlocksAsked t state w) × (C → BlocksCopying g t state w) × WaitsForNone t w × (J → WaitsElse state)
Besides F D C J g (Exits t) w = Is (λ o. HasStacks false o.stacks) t w × WaitsForNone t w
Besides F D C J g (Acts t) w = J → WaitsForNone t w
Besides F D C J g (Begins n) w = WaitsForNone 0 w
Besides F D C J g (IsCancelled t cancellation) w = is_unasked cancellation ≡ false
Besides F D C J g (HasNewStack t k) w = Is MayHaveStacks t w
Besides F D C J g (HasStack t k) w = Is MayHaveStacks t w
Besides F D C J g (LosesStack t) w = Is MayHaveStacks t w
Besides F D C J g (IsAnswered t words) w = Is MayHaveStacks t w
Besides F D C J g (AddsEntry i entry) w = F → IsNewEntry g w i entry
Besides F D C J g (RemovesEntry i index) w = NoneWaits w i index
Besides F D C J g (RemovesWaitable i index) w = (D → (callee : ℕ) → entry_at w i index ≡ Some (OfSubtask callee) → CallIs w.tasks callee IsOver) × Stands w i index (HasNoCopy w)
Besides F D C J g (IsTold t state) w = (F → IsUnawaited w.tasks t) × (D → TellsWell w t state)
Besides F D C J g (Offers e call) w = ((end_of w e).copy ≡ None) × (J → ((options_at g call.canon).is_async ≡ true) ⊎ ((end_of (offered e call w) e).copy ≡ None))
Besides F D C J g (Concludes e) w = C → NoneAwaits w e
Besides F D C J g change w = Unit {0}

-- Where the graph is apart: what comes is the component instance's own.
abbrev pub CallsItsOwn : Graph → ℕ → ℕ → World → Type 0
CallsItsOwn g number t w = Is (λ o. CallsOwn g (func_of o.callee) number) t w

abbrev pub HasOwnStack : Graph → ℕ → Stack → World → Type 0
HasOwnStack g t k w = Is (λ o. IsOwnStack g (func_of o.callee) k) t w

abbrev pub BlocksOwn : Graph → ℕ → TaskState → World → Type 0
BlocksOwn g t (InBuiltin number words wait) w = CallsItsOwn g number t w
BlocksOwn g t state w = Unit {0}

abbrev pub Owns : Graph → Change → World → Type 0
Owns g (HasStore store) w = IsOwnStore g w store
Owns g (HasNewStack t k) w = HasOwnStack g t k w
Owns g (HasStack t k) w = HasOwnStack g t k w
Owns g (IsCalled callee call values) w = IsLiftedApart g (func_of callee)
Owns g (Calls number callee subtask words) w = IsLiftedApart g (func_of callee) × CallsItsOwn g number subtask.by w
Owns g (Cancels t callee number words) w = CallsItsOwn g number t w
Owns g (Blocks t state) w = BlocksOwn g t state w
Owns g (Begins n) w = IsMadeUpTo g (length w.store.instances) n
Owns g change w = Unit {0}

-- What control says, where it says more than of the acting task: what was picked is there; where the graph is apart what comes is its own; and where
-- what control said before is given, an event comes.
abbrev pub Promises : Type 0 → Type 0 → Graph → Script → Control → World → Type 0
Promises A E g s (Chosen k) w = IsPicked g s (Chosen k) w
Promises A E g s (Instantiates n) w = A → IsControlOwn g (Instantiates n) w
Promises A E g s (control.Calls number words) w = A → IsControlOwn g (control.Calls number words) w
Promises A E g s (Lowers l plan) w = A → IsControlOwn g (Lowers l plan) w
Promises A E g s (Quiet n b) w = A → IsControlOwn g (Quiet n b) w
Promises A E g s GoesOn w = E → EventComes g GoesOn (with_control Free w)
Promises A E g s Resumes w = E → EventComes g Resumes (with_control Free w)
Promises A E g s (Delivers set receiver pick) w = E → EventComes g (Delivers set receiver pick) (with_control Free w)
Promises A E g s control w = Unit {0}

-- what is known of the start of a turn, of tasks that wait for others and of subtasks
pub record Facts (g : Graph) (w : World) : Type 0 where
  pub called : HaveCalled w.tasks
  pub subtasks : AreSubtasks g w.tasks w.insts

-- and of what control says of events, and of tasks in their loop
abbrev pub Comings : Graph → Control → World → Type 0
Comings g c w = EventComes g c w × WaitAs w.tasks

-- What every change keeps beside the order of tasks. A task that comes back, and one that is removed, was blocked: where no task runs, and where the
-- acting task cancels it.
pub record Walk (g : Graph) (s : Script) : Type 1 where
  pub Given : Type 0
  pub Apart : Type 0
  pub Event : Type 0
  pub Asks : Type 0
  pub Copies : Type 0
  pub Joins : Type 0
  pub Holds : World → Type 0
  pub alone : (w : World) → Holds w → Alone w
  pub chained : (w : World) → Holds w → IsChained w
  pub stacked : (w : World) → Holds w → HaveStacks (outlines_of w.tasks)
  pub graph : Apart → IsApart g
  pub events : Event → Apart
  pub asks_apart : Asks → Apart
  pub own : Apart → (w : World) → Holds w → IsOwnWorld g w
  pub stays : (c : Change) (w : World) → MayCome g s c w → Besides Given Asks Copies Joins g c w → (Apart → Owns g c w) → Holds w → Holds (after c w)
  pub comes : (t : ℕ) (w : World) (task : Task) → slice_get w.tasks t ≡ Some task → IsSome (func_of task.callee) → IsBlocked task.state → w.chain ≡ [] → Holds w → Holds (after (ComesBack t) w)
  pub removed : (t : ℕ) (w : World) (task : Task) → slice_get w.tasks t ≡ Some task → IsSome (func_of task.callee) → task.state ≡ WaitsToEnter → w.chain ≡ [] → Holds w → Holds (after (IsRemoved t) w)
  pub comes_asked : (t callee number : ℕ) (words : List ℕ) (w : World) (task : Task) → Is (IsActing true) t w → may_leave w ≡ true → slice_get w.tasks callee ≡ Some task → IsSome (func_of task.callee)
      → IsBlocked task.state → (Given → IsUnawaited w.tasks callee) → (Asks → CancelsWell w t callee words) → (Apart → CallsItsOwn g number t w) → Holds w → Holds (after (ComesBack callee) (after (IsCancelled callee Asked) (after (Cancels t callee number words) w)))
  pub removed_asked : (t callee number : ℕ) (words : List ℕ) (w : World) (task : Task) → Is (IsActing true) t w → may_leave w ≡ true → slice_get w.tasks callee ≡ Some task → IsSome (func_of task.callee)
      → task.state ≡ WaitsToEnter → (Given → IsUnawaited w.tasks callee) → (Asks → CancelsWell w t callee words) → (Apart → CallsItsOwn g number t w) → Holds w → Holds (after (IsRemoved callee) (after (Cancels t callee number words) w))
  pub pending_asked : (t callee number : ℕ) (words : List ℕ) (w : World) (task : Task) → Is (IsActing true) t w → may_leave w ≡ true → slice_get w.tasks callee ≡ Some task
      → (Given → IsUnawaited w.tasks callee) → (Asks → CancelsWell w t callee words) → (Apart → CallsItsOwn g number t w) → Holds w → Holds (after (IsCancelled callee Asked) (after (Cancels t callee number words) w))
  -- A call whose offer stands blocks until its copy is over; and the copy is told where the task goes on.
  pub stands : (t i index : ℕ) (e : EndRef) (call : OpenCopy) (words : List ℕ) (w : World) → Is (IsActing true) t w → may_leave w ≡ true → (end_of w e).copy ≡ None → task_by call.by ≡ t
      → (options_at g call.canon).is_async ≡ false → owner_of_canon g call.canon ≡ Some i → entry_at w i index ≡ Some (OfEnd e)
      → (Copies → BlocksCopying g t (InBuiltin call.canon words (ForCopy index)) (offered e call w)) → (Apart → CallsItsOwn g call.canon t w) → Holds w
      → Holds (after (Blocks t (InBuiltin call.canon words (ForCopy index))) (after (Offers e call) w))
  pub wakes : (t number index : ℕ) (words : List ℕ) (f : Lifted) (e : EndRef) (w : World) → Is (IsIn (InBuiltin number words (ForCopy index))) t w → Is (λ o. func_of o.callee ≡ Some f) t w
      → entry_at w f.instance index ≡ Some (OfEnd e) → (Copies → NoneAwaits (in_state t Acting w) e) → Holds w → Holds (after (Concludes e) (after (Acts t) w))

-- no choice
pub behind_promised : (A E : Type 0) (g : Graph) (s : Script) (chain : List ℕ) (w : World) → Promises A E g s (control_behind chain) w
behind_promised A E g s [] w = tt
behind_promised A E g s (t ∷ below) w = tt

-- A task that acts waits for no copy, nor does one that called another one, or is new, in its loop or at its entry.
pub acting_waits_else : (b : Bool) (t : ℕ) (w : World) → Is (IsActing b) t w → WaitsForNone t w
acting_waits_else b t w a = as_is (IsActing b) (λ o. WaitsElse o.state) t w (λ o k. subst WaitsElse (sym k.1) tt) a

pub state_waits_else : (state : TaskState) (t : ℕ) (w : World) → WaitsElse state → Is (IsIn state) t w → WaitsForNone t w
state_waits_else state t w otherwise a = as_is (IsIn state) (λ o. WaitsElse o.state) t w (λ o k. subst WaitsElse (sym k) otherwise) a

pub called_waits_else : (w : World) (t callee number : ℕ) (words : List ℕ) → Is (IsIn (AfterCall callee number words)) t w → WaitsForNone t w
called_waits_else w t callee number words a = state_waits_else (AfterCall callee number words) t w tt a

module _ {g : Graph} {s : Script} (walk : Walk g s) where
  -- a turn whose step leaves it so
  abbrev pub Keeps : Turn → Type 0
  Keeps (Steps labels v) = walk.Holds v × Promises walk.Apart walk.Event g s v.control v × ActsBy v.control (outlines_of v.tasks) v.chain
  Keeps (Ends end) = IsUntrapped end
  Keeps Stuck = Unit {0}

  -- what is known of the start of a turn
  abbrev pub Known : World → Type 0
  Known w = (walk.Given → Facts g w) × (walk.Asks → AskedFacts g w) × (walk.Copies → CopyFacts g w)

  -- where a task acts, with a stack or without
  abbrev pub Held : Bool → ℕ → World → Type 0
  Held b t w = walk.Holds w × Is (IsActing b) t w

  pub still : (b : Bool) (t : ℕ) (c : Change) (w : World) → MayCome g s c w → Besides walk.Given walk.Asks walk.Copies walk.Joins g c w → (walk.Apart → Owns g c w) → IsSteady c → Held b t w → Held b t (after c w)
  still b t c w may besides own is h = (walk.stays c w may besides own h.0, steady (IsActing b) t c w is h.1)

  -- where it is the first of the chain
  abbrev pub Leads : ℕ → World → Type 0
  Leads t w = walk.Holds w × IsFirst t w.chain

  pub given_keeps : {A : Type 0} (o : Option A) (f : A → Turn) → ((x : A) → o ≡ Some x → Keeps (f x)) → Keeps (given o f)
  given_keeps None f h = tt
  given_keeps (Some x) f h = h x refl

  pub behind_keeps : (lines : List Label) (t : Turn) → Keeps t → Keeps (behind lines t)
  behind_keeps lines (Steps labels v) h = h
  behind_keeps lines (Ends end) h = h
  behind_keeps lines Stuck h = tt

  pub either_keeps : (b : Bool) (t u : Turn) → (b ≡ true → Keeps t) → (b ≡ false → Keeps u) → Keeps (if b then t else u)
  either_keeps true t u h i = h refl
  either_keeps false t u h i = i refl

  pub goes : (c : Control) (w : World) → walk.Holds w → walk.Holds (with_control c w)
  goes c w h = walk.stays (GoesTo c) w tt tt (λ apart. tt) h

  pub refused_keeps : {A : Type 0} (t : ℕ) (r : Result A TrapName) (w : World) (f : A → Turn) → Leads t w → ((x : A) → r ≡ Ok x → Keeps (f x)) → Keeps (unless_refused t r w f)
  refused_keeps t (Err why) w f h more = (goes (Doomed t why) w h.0, tt, h.1)
  refused_keeps t (Ok x) w f h more = more x refl

  pub unless_keeps : (t : ℕ) (b : Bool) (why : TrapName) (w : World) (more : Turn) → Leads t w → (b ≡ false → Keeps more) → Keeps (unless t b why w more)
  unless_keeps t true why w more h keeps = (goes (Doomed t why) w h.0, tt, h.1)
  unless_keeps t false why w more h keeps = keeps refl

  pub fault_keeps : {F : Type 0} (t : ℕ) (name : F → TrapName) (o : Option F) (w : World) (more : Turn) → Leads t w → Keeps more → Keeps (unless_fault t name o w more)
  fault_keeps t name None w more h keeps = keeps
  fault_keeps t name (Some fault) w more h keeps = (goes (Doomed t (name fault)) w h.0, tt, h.1)

  pub charged_keeps : (costs : Bool) (w : World) (f : World → Turn) → walk.Holds w → ((units : ℕ) → walk.Holds (record w { units = units }) → Keeps (f (record w { units = units }))) → Keeps (charged costs s w f)
  charged_keeps false w f h keeps = keeps w.units h
  charged_keeps true w f h keeps =
      either_keeps (nat_lt w.units s.fuel) (f (unit_spent w)) (Ends Fuel) (λ e. keeps (w.units + 1) (walk.stays SpendsUnit w (less w.units s.fuel e) tt (λ apart. tt) h)) (λ e. tt)

  pub chosen_keeps : (count : ℕ) (c : ℕ → Control) (w : World) → ((k : ℕ) → ActsBy (c k) (outlines_of w.tasks) w.chain)
      → Promises walk.Apart walk.Event g s (c (drawn_answer count (picks_of s w))) (with_control (c (drawn_answer count (picks_of s w))) (after (UsesPicks (drawn count (picks_of s w)).used) w)) → walk.Holds w → Keeps (chosen s count c w)
  unfolding chosen
  chosen_keeps count c w says picked h = (
    goes (c (drawn_answer count (picks_of s w))) (after (UsesPicks (drawn count (picks_of s w)).used) w) (walk.stays (UsesPicks (drawn count (picks_of s w)).used) w (count, refl) tt (λ apart. tt) h),
    picked,
    says (drawn_answer count (picks_of s w)),
  )

  -- The acting task goes on with an answer, or on a further stack.
  pub runs_keeps : (t : ℕ) (words : List ℕ) (w : World) → walk.Holds w → Is IsRunning t w → walk.Holds (goes_on_with t words w) × Unit {0} × OneActs IsRunning (outlines_of (goes_on_with t words w).tasks) w.chain
  runs_keeps t words w h r = (
    goes Runs (after (IsAnswered t words) w) (walk.stays (IsAnswered t words) w tt (as_is IsRunning MayHaveStacks t w (λ o k. runs_may o k.0) r) (λ apart. tt) h),
    tt,
    (t, stacks_first IsRunning IsRunning w t (answered_stacks words) (λ o k. (k.0, answered_some words o.stacks k.1)) r),
  )

  pub on_keeps : (t : ℕ) (words : List ℕ) (w : World) → Held true t w → walk.Holds (goes_on_with t words w) × Unit {0} × OneActs IsRunning (outlines_of (goes_on_with t words w).tasks) w.chain
  on_keeps t words w h = runs_keeps t words w h.0 (as_is (IsActing true) IsRunning t w acting_running h.1)

  pub new_stack_keeps : (t : ℕ) (k : Stack) (w : World) → (walk.Apart → HasOwnStack g t k w) → walk.Holds w → Is InTask t w
      → walk.Holds (with_control Runs (after (HasNewStack t k) w)) × Unit {0} × OneActs IsRunning (outlines_of (after (HasNewStack t k) w).tasks) w.chain
  new_stack_keeps t k w own h r = (
    goes Runs (after (HasNewStack t k) w) (walk.stays (HasNewStack t k) w tt (as_is InTask MayHaveStacks t w runs_may r) own h),
    tt,
    (t, stacks_first IsRunning InTask w t (λ stacks. k ∷ stacks) (λ o i. (i, refl)) r),
  )

  pub acting_stack_keeps : (b : Bool) (t : ℕ) (k : Stack) (w : World) → (walk.Apart → HasOwnStack g t k w) → Held b t w → walk.Holds (with_control Runs (after (HasNewStack t k) w)) × Unit {0} × OneActs IsRunning (outlines_of (after (HasNewStack t k) w).tasks) w.chain
  acting_stack_keeps b t k w own h = new_stack_keeps t k w own h.0 (as_is (IsActing b) InTask t w (acting_runs b) h.1)

  pub blocked_so : (t : ℕ) (state : TaskState) (reason : BlockReason) (w : World) → IsFirst t w.chain → IsChained w → walk.Holds (after (Blocks t state) w) → Keeps (blocked t state reason w)
  blocked_so t state reason w first chained h = (
    goes (control_behind (drop 1 w.chain)) (after (Blocks t state) w) h,
    behind_promised walk.Apart walk.Event g s (drop 1 w.chain) (with_control (control_behind (drop 1 w.chain)) (after (Blocks t state) w)),
    left_acts w t state first chained,
  )

  pub blocked_keeps : (t : ℕ) (state : TaskState) (reason : BlockReason) (w : World) → IsFirst t w.chain → IsBlocked state → (may_leave w ≡ true) ⊎ HasFunc w.tasks t → BlocksAs g t state w → (walk.Asks → BlocksAsked t state w) → (walk.Copies → BlocksCopying g t state w) → (walk.Apart → BlocksOwn g t state w) → WaitsForNone t w → WaitsElse state → Is (StandsBy state) t w → walk.Holds w → Keeps (blocked t state reason w)
  blocked_keeps t state reason w first is may known asked copying own before otherwise stacks h =
      blocked_so t state reason w first (walk.chained w h) (walk.stays (Blocks t state) w (first, is, may) (known, stacks, asked, copying, before, λ joins. otherwise) own h)

  -- one that waits for a task that it called
  pub waited_keeps : (t callee number : ℕ) (words : List ℕ) (reason : BlockReason) (w : World) → Is (IsIn (AfterCall callee number words)) t w → (options_at g number).is_async ≡ false → HasFunc w.tasks t → walk.Holds w
      → Keeps (blocked t (InBuiltin number words (ForCall callee)) reason (in_state t Acting w))
  waited_keeps t callee number words reason w a sync runs h =
      let state : TaskState = InBuiltin number words (ForCall callee) in
      let behind : Control = control_behind (drop 1 w.chain) in
      subst (λ (all : List Task). walk.Holds (let v : World = record w { tasks = all; chain = drop 1 w.chain; control = behind } in v) × Promises walk.Apart walk.Event g s behind (let v : World = record w { tasks = all; chain = drop 1 w.chain; control = behind } in v) × ActsBy behind (outlines_of all) (drop 1 w.chain))
      (sym (changed_twice t (λ task. record task { state = Acting }) (λ task. record task { state = state }) w.tasks))
      (goes behind (after (Blocks t state) w) (walk.stays (Blocks t state) w (a.0, tt, inr runs) ((a, sync), waits_stacked w t callee number words a (walk.stacked w h), (λ asks. tt), (λ copies. tt), called_waits_else w t callee number words a, (λ joins. tt)) (λ apart. after_calls_own g w t callee number words (walk.own apart w h) a) h), behind_promised walk.Apart walk.Event g s (drop 1 w.chain) (with_control behind (after (Blocks t state) w)), left_acts w t state a.0 (walk.chained w h))

  pub entry_keeps : (t i : ℕ) (entry : Entry) (w : World) (more : ℕ → World → Turn) → Leads t w
      → (live_count (table_of w i) < most_live → Keeps (more (next_index (table_of w i)) (entry_added i entry w))) → Keeps (with_entry t i entry w more)
  entry_keeps t i entry w more h keeps =
      either_keeps (nat_lt (live_count (table_of w i)) most_live) (more (next_index (table_of w i)) (entry_added i entry w)) (doomed t trap.TableFull w)
      (λ e. keeps (less (live_count (table_of w i)) most_live e)) (λ e. (goes (Doomed t trap.TableFull) w h.0, tt, h.1))

  -- Lifting.

  pub removes : (b : Bool) (t i index : ℕ) (w : World) → Stands w i index IsHandle → Held b t w → Held b t (entry_removed i index w)
  removes b t i index w may h = still b t (RemovesEntry i index) w (handle_is_left w i index may) (handle_unwaited w i index may) (λ apart. tt) tt h

  pub waits : (b : Bool) (t i index : ℕ) (w : World) → Stands w i index (IsTaken w) → Held b t w → Held b t (left_set i index (entry_removed i index w))
  waits b t i index w may h = still b t (RemovesWaitable i index) w (may.0, may.1, may.2.0) ((λ asks callee at. subst (WasDropped w.tasks) (some_same (sym may.1 ∙ at)) may.2.2), (may.0, may.1, may.2.1)) (λ apart. tt) tt h

  pub lends : (b : Bool) (t callee index : ℕ) (w : World) → Held b t w → Held b t (lent callee index w)
  lends b t callee index w h = still b t (IsLent callee index) w tt tt (λ apart. tt) tt h

  abbrev pub KeptSo : Bool → ℕ → Kept → Type 0
  KeptSo b t k = Held b t k.world

  abbrev pub StoppedSo : Bool → ℕ → Stopped → Type 0
  StoppedSo b t stop = Held b t stop.world

  pub came_keeps : {A : Type 0} (b : Bool) (t : ℕ) (came : Came A) (more : A → World → Turn) → LeavesWith (KeptSo b t) (StoppedSo b t) came → ((x : A) (w : World) → Held b t w → Keeps (more x w)) → Keeps (once_lifted t came more)
  came_keeps b t (Ok x) more h keeps = behind_keeps x.1.lines (more x.0 x.1.world) (keeps x.0 x.1.world h)
  came_keeps b t (Err stop) more h keeps = (goes (Doomed t stop.why) stop.world h.0, tt, h.1.0)
