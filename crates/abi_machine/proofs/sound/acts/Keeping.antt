-- What a turn makes of the acting task and keeps: steps by their kinds, answers, blocked tasks and what is lifted.
use Rattle.std.proofs.Common.{◌≡◌, ◌<◌, ◌⊎◌, inr, ℕ, ◌+◌, Bool, true, false, nat_lt, List, [], ◌∷◌, ◌++◌, length, drop, refl, sym, ◌∙◌, subst, arith, Option, Some, None, Result, Ok, Err, if◌then◌else◌}
use Rattle.std.proofs.lemmas.Bool.Decides.{nat_tests}
use Rattle.std.specs.Prelude.{IsSome}
use Rattle.std.specs.List.{slice_get}
use Rattle.wasm_store.specs.Stack.{Stack}
use Rattle.choices.specs.Drawing.{drawn, drawn_answer}
use Rattle.handle_table.specs.History.{live_count, most_live, next_index}
use Rattle.tasks.specs.declared.phase.Cancellation.TheVariants.{Asked}
use Rattle.comp_graph.specs.Graph.{Graph}
use Rattle.script_reader.specs.Script.{Script}
use Rattle.trace_labels.specs.declared.label.Label.{Label}
use Rattle.trace_labels.specs.declared.label.BlockReason.{BlockReason}
use Rattle.trace_labels.specs.declared.trap.TrapName.{TrapName}
use Rattle.trace_labels.specs.declared.trap.TrapName.TheVariants as trap
use Rattle.abi_machine.specs.declared.run_end.RunEnd.{RunEnd}
use Rattle.abi_machine.specs.declared.run_end.RunEnd.TheVariants.{Trapped, Fuel}
use Rattle.abi_machine.specs.Control.{Control, Runs, Doomed}
use Rattle.abi_machine.specs.World.{Entry, ForCall, TaskState, New, Acting, AfterCall, AfterCancel, Begins, WaitsToEnter, InLoop, InBuiltin, Exited, Task, World}
use Rattle.abi_machine.specs.Edits.{with_control, entry_added, entry_removed, left_set, unit_spent, in_state, control_behind, answered_stacks, lent}
use Rattle.abi_machine.specs.Canons.{canon_at}
use Rattle.abi_machine.specs.Reading.{table_of, acting, func_of, may_leave}
use Rattle.abi_machine.specs.Lifting.{Kept, Stopped, Came, once_lifted}
use Rattle.abi_machine.specs.Choosing.{picks_of, chosen}
use Rattle.abi_machine.specs.Turn.{Turn, Steps, Ends, Stuck, doomed, behind, given, unless_refused, unless, unless_fault, goes_on_with, blocked, charged, with_entry}
use Rattle.abi_machine.specs.sound.Premises.{IsHandle, IsFree, IsTaken}
use Rattle.abi_machine.specs.sound.Changes.{Change, GoesTo, SpendsUnit, UsesPicks, RemovesEntry, RemovesWaitable, Calls, ComesBack, Cancels, Blocks, IsRemoved, IsCancelled, Exits, HasNewStack, HasStack, LosesStack, IsAnswered, IsLent, after, Stands, IsFirst, HasFunc, IsBlocked, MayCome}
use Rattle.abi_machine.specs.sound.Chain.{states_of, WaitsFor, AreUnder, IsChained}
use Rattle.abi_machine.specs.sound.Acting.{Outline, outline_of, outlines_of, HasStacks, WaitsWith, StandsBy, HaveStacks, IsActing, IsRunning, IsNew, IsWaitingFor, OneActs, ActsBy}
use Rattle.abi_machine.proofs.sound.Lifts.{Leaves as LeavesWith}
use Rattle.abi_machine.proofs.sound.Found.{some_same, acting_first, acting_is}
use Rattle.abi_machine.proofs.sound.Alone.{Alone}
use Rattle.abi_machine.proofs.sound.Numbered.{changed_twice}
use Rattle.abi_machine.proofs.sound.Chained.{state_set, state_back, last_there, left_under}
use Rattle.abi_machine.proofs.sound.Outlines.{outline_there, Is, as_is, stacks_first, answered_some, MayHaveStacks, Runs as InTask, runs_may, acting_runs, acting_running}
use Rattle.abi_machine.proofs.sound.Standing.{IsSteady, steady}

-- the acting task is in this state
abbrev pub IsIn : TaskState → Outline → Type 0
IsIn state o = o.state ≡ state

-- What else is known where a change comes: a task is called by the canonical function at whose call its caller waits, one that waits for a task
-- has called it, and the stacks of a task that stops fit its state.
abbrev pub BlocksAs : ℕ → TaskState → World → Type 0
BlocksAs t (InBuiltin number words (ForCall callee)) w = Is (IsIn (AfterCall callee number words)) t w
BlocksAs t state w = Unit {0}

abbrev pub Besides : Graph → Change → World → Type 0
Besides g (ComesBack t) w = ⊥
Besides g (IsRemoved t) w = ⊥
Besides g (Calls number callee subtask words) w = (subtask.canon ≡ number) × Is (WaitsWith true) subtask.by w × IsSome (canon_at g number)
Besides g (Cancels t callee number words) w = Is (WaitsWith true) t w
Besides g (Blocks t state) w = BlocksAs t state w × Is (StandsBy state) t w
Besides g (Exits t) w = Is (λ o. HasStacks false o.stacks) t w
Besides g (HasNewStack t k) w = Is MayHaveStacks t w
Besides g (HasStack t k) w = Is MayHaveStacks t w
Besides g (LosesStack t) w = Is MayHaveStacks t w
Besides g (IsAnswered t words) w = Is MayHaveStacks t w
Besides g change w = Unit {0}

-- What every change keeps beside the order of tasks. A task that comes back, and one that is removed, was blocked: where no task runs, and where the
-- acting task cancels it.
pub record Order (g : Graph) (s : Script) : Type 1 where
  pub Holds : World → Type 0
  pub alone : (w : World) → Holds w → Alone w
  pub chained : (w : World) → Holds w → IsChained w
  pub stacked : (w : World) → Holds w → HaveStacks (outlines_of w.tasks)
  pub stays : (c : Change) (w : World) → MayCome g s c w → Besides g c w → Holds w → Holds (after c w)
  pub comes : (t : ℕ) (w : World) (task : Task) → slice_get w.tasks t ≡ Some task → IsSome (func_of task.callee) → IsBlocked task.state → w.chain ≡ [] → Holds w → Holds (after (ComesBack t) w)
  pub removed : (t : ℕ) (w : World) (task : Task) → slice_get w.tasks t ≡ Some task → IsSome (func_of task.callee) → task.state ≡ WaitsToEnter → w.chain ≡ [] → Holds w → Holds (after (IsRemoved t) w)
  pub comes_asked : (t callee number : ℕ) (words : List ℕ) (w : World) (task : Task) → Is (IsActing true) t w → may_leave w ≡ true → slice_get w.tasks callee ≡ Some task → IsSome (func_of task.callee)
      → IsBlocked task.state → Holds w → Holds (after (ComesBack callee) (after (IsCancelled callee Asked) (after (Cancels t callee number words) w)))
  pub removed_asked : (t callee number : ℕ) (words : List ℕ) (w : World) (task : Task) → Is (IsActing true) t w → may_leave w ≡ true → slice_get w.tasks callee ≡ Some task → IsSome (func_of task.callee)
      → task.state ≡ WaitsToEnter → Holds w → Holds (after (IsRemoved callee) (after (Cancels t callee number words) w))

-- The acting task, by its number.

pub is_first : (P : Outline → Type 0) (w : World) (t : ℕ) → IsFirst t w.chain → OneActs P (outlines_of w.tasks) w.chain → Is P t w
is_first P w t first o =
    let same : o.0 ≡ t = some_same (sym o.1.0 ∙ first) in
    (first, (o.1.1.0, subst (λ (n : ℕ). slice_get (outlines_of w.tasks) n ≡ Some o.1.1.0) same o.1.1.1, o.1.1.2))

pub acts_at : (P : Outline → Type 0) (w : World) (a : ℕ × Task) → acting w ≡ Some a → OneActs P (outlines_of w.tasks) w.chain → Is P a.0 w
acts_at P w a e o = is_first P w a.0 (acting_first w a e) o

-- one that is looked up
pub acts_by : (w : World) (a : ℕ × Task) → acting w ≡ Some a → Is (λ o. o ≡ outline_of a.1) a.0 w
acts_by w a e = (acting_first w a e, (outline_of a.1, outline_there w.tasks a.0 a.1 (acting_is w a e), refl))

-- one that is new
pub new_acts : (tasks : List Task) (chain : List ℕ) (new : Task) → new.state ≡ New → OneActs IsNew (outlines_of (tasks ++ new ∷ [])) (length tasks ∷ chain)
new_acts tasks chain new is = (length tasks, (refl, (outline_of new, outline_there (tasks ++ new ∷ []) (length tasks) new (last_there tasks new), is)))

waits_calling : (t : ℕ) (state : TaskState) → WaitsFor t state → IsWaitingFor state
waits_calling t New h = h
waits_calling t Acting h = h
waits_calling t (AfterCall callee number words) h = tt
waits_calling t (AfterCancel callee number words) h = tt
waits_calling t (Begins n) h = h
waits_calling t WaitsToEnter h = h
waits_calling t (InLoop word) h = h
waits_calling t (InBuiltin number words wait) h = h
waits_calling t Exited h = h

under_acts : (tasks : List Task) (t : ℕ) (below : List ℕ) → AreUnder (states_of tasks) t below → ActsBy (control_behind below) (outlines_of tasks) below
under_acts tasks t [] h = refl
under_acts tasks t (u ∷ below) h =
    let x = state_back tasks u h.0.0 h.0.1 in
    (u, (refl, (outline_of x.0, outline_there tasks u x.0 x.1, waits_calling t x.0.state (subst (WaitsFor t) (sym x.2) h.0.2))))

-- the one behind a task that leaves the chain
pub left_acts : (w : World) (t : ℕ) (state : TaskState) → IsFirst t w.chain → IsChained w → ActsBy (control_behind (drop 1 w.chain)) (outlines_of (in_state t state w).tasks) (drop 1 w.chain)
left_acts w t state first h =
    under_acts (in_state t state w).tasks t (drop 1 w.chain)
    (subst (λ (all : List TaskState). AreUnder all t (drop 1 w.chain)) (sym (state_set t state w.tasks)) (left_under (states_of w.tasks) w.chain t state first h))

-- no trap
abbrev pub IsUntrapped : RunEnd → Type 0
IsUntrapped (Trapped t why) = ⊥
IsUntrapped end = Unit {0}

-- A task that waits behind a call has a stack.
pub waits_stacked : (w : World) (t callee number : ℕ) (words : List ℕ) → Is (IsIn (AfterCall callee number words)) t w → HaveStacks (outlines_of w.tasks) → Is (WaitsWith true) t w
waits_stacked w t callee number words a h =
    (a.0, (a.1.0, a.1.1, subst (λ (state : TaskState). StandsBy state a.1.0) a.1.2 (h t a.1.0 a.1.1)))

pub less : (a b : ℕ) → nat_lt a b ≡ true → a < b
less a b h = grind (arith, nat_tests)

module _ {g : Graph} {s : Script} (ord : Order g s) where
  -- a turn whose step leaves it so
  abbrev pub Keeps : Turn → Type 0
  Keeps (Steps labels v) = ord.Holds v × ActsBy v.control (outlines_of v.tasks) v.chain
  Keeps (Ends end) = IsUntrapped end
  Keeps Stuck = Unit {0}

  -- where a task acts, with a stack or without
  abbrev pub Held : Bool → ℕ → World → Type 0
  Held b t w = ord.Holds w × Is (IsActing b) t w

  pub still : (b : Bool) (t : ℕ) (c : Change) (w : World) → MayCome g s c w → Besides g c w → IsSteady c → Held b t w → Held b t (after c w)
  still b t c w may besides is h = (ord.stays c w may besides h.0, steady (IsActing b) t c w is h.1)

  -- where it is the first of the chain
  abbrev pub Leads : ℕ → World → Type 0
  Leads t w = ord.Holds w × IsFirst t w.chain

  pub given_keeps : {A : Type 0} (o : Option A) (f : A → Turn) → ((x : A) → o ≡ Some x → Keeps (f x)) → Keeps (given o f)
  given_keeps None f h = tt
  given_keeps (Some x) f h = h x refl

  pub behind_keeps : (lines : List Label) (t : Turn) → Keeps t → Keeps (behind lines t)
  behind_keeps lines (Steps labels v) h = h
  behind_keeps lines (Ends end) h = h
  behind_keeps lines Stuck h = tt

  pub either_keeps : (b : Bool) (t u : Turn) → (b ≡ true → Keeps t) → (b ≡ false → Keeps u) → Keeps (if b then t else u)
  either_keeps true t u h i = h refl
  either_keeps false t u h i = i refl

  pub goes : (c : Control) (w : World) → ord.Holds w → ord.Holds (with_control c w)
  goes c w h = ord.stays (GoesTo c) w tt tt h

  pub refused_keeps : {A : Type 0} (t : ℕ) (r : Result A TrapName) (w : World) (f : A → Turn) → Leads t w → ((x : A) → r ≡ Ok x → Keeps (f x)) → Keeps (unless_refused t r w f)
  refused_keeps t (Err why) w f h more = (goes (Doomed t why) w h.0, h.1)
  refused_keeps t (Ok x) w f h more = more x refl

  pub unless_keeps : (t : ℕ) (b : Bool) (why : TrapName) (w : World) (more : Turn) → Leads t w → (b ≡ false → Keeps more) → Keeps (unless t b why w more)
  unless_keeps t true why w more h keeps = (goes (Doomed t why) w h.0, h.1)
  unless_keeps t false why w more h keeps = keeps refl

  pub fault_keeps : {F : Type 0} (t : ℕ) (name : F → TrapName) (o : Option F) (w : World) (more : Turn) → Leads t w → Keeps more → Keeps (unless_fault t name o w more)
  fault_keeps t name None w more h keeps = keeps
  fault_keeps t name (Some fault) w more h keeps = (goes (Doomed t (name fault)) w h.0, h.1)

  pub charged_keeps : (costs : Bool) (w : World) (f : World → Turn) → ord.Holds w → ((units : ℕ) → ord.Holds (record w { units = units }) → Keeps (f (record w { units = units }))) → Keeps (charged costs s w f)
  charged_keeps false w f h keeps = keeps w.units h
  charged_keeps true w f h keeps =
      either_keeps (nat_lt w.units s.fuel) (f (unit_spent w)) (Ends Fuel) (λ e. keeps (w.units + 1) (ord.stays SpendsUnit w (less w.units s.fuel e) tt h)) (λ e. tt)

  pub chosen_keeps : (count : ℕ) (c : ℕ → Control) (w : World) → ((k : ℕ) → ActsBy (c k) (outlines_of w.tasks) w.chain) → ord.Holds w → Keeps (chosen s count c w)
  unfolding chosen
  chosen_keeps count c w says h = (
    goes (c (drawn_answer count (picks_of s w))) (after (UsesPicks (drawn count (picks_of s w)).used) w) (ord.stays (UsesPicks (drawn count (picks_of s w)).used) w (count, refl) tt h),
    says (drawn_answer count (picks_of s w)),
  )

  -- The acting task goes on with an answer, or on a further stack.
  pub runs_keeps : (t : ℕ) (words : List ℕ) (w : World) → ord.Holds w → Is IsRunning t w → ord.Holds (goes_on_with t words w) × OneActs IsRunning (outlines_of (goes_on_with t words w).tasks) w.chain
  runs_keeps t words w h r = (
    goes Runs (after (IsAnswered t words) w) (ord.stays (IsAnswered t words) w tt (as_is IsRunning MayHaveStacks t w (λ o k. runs_may o k.0) r) h),
    (t, stacks_first IsRunning IsRunning w t (answered_stacks words) (λ o k. (k.0, answered_some words o.stacks k.1)) r),
  )

  pub on_keeps : (t : ℕ) (words : List ℕ) (w : World) → Held true t w → ord.Holds (goes_on_with t words w) × OneActs IsRunning (outlines_of (goes_on_with t words w).tasks) w.chain
  on_keeps t words w h = runs_keeps t words w h.0 (as_is (IsActing true) IsRunning t w acting_running h.1)

  pub new_stack_keeps : (t : ℕ) (k : Stack) (w : World) → ord.Holds w → Is InTask t w
      → ord.Holds (with_control Runs (after (HasNewStack t k) w)) × OneActs IsRunning (outlines_of (after (HasNewStack t k) w).tasks) w.chain
  new_stack_keeps t k w h r = (
    goes Runs (after (HasNewStack t k) w) (ord.stays (HasNewStack t k) w tt (as_is InTask MayHaveStacks t w runs_may r) h),
    (t, stacks_first IsRunning InTask w t (λ stacks. k ∷ stacks) (λ o i. (i, refl)) r),
  )

  pub acting_stack_keeps : (b : Bool) (t : ℕ) (k : Stack) (w : World) → Held b t w → ord.Holds (with_control Runs (after (HasNewStack t k) w)) × OneActs IsRunning (outlines_of (after (HasNewStack t k) w).tasks) w.chain
  acting_stack_keeps b t k w h = new_stack_keeps t k w h.0 (as_is (IsActing b) InTask t w (acting_runs b) h.1)

  pub blocked_keeps : (t : ℕ) (state : TaskState) (reason : BlockReason) (w : World) → IsFirst t w.chain → IsBlocked state → (may_leave w ≡ true) ⊎ HasFunc w.tasks t → BlocksAs t state w → Is (StandsBy state) t w → ord.Holds w → Keeps (blocked t state reason w)
  blocked_keeps t state reason w first is may known stacks h =
      (goes (control_behind (drop 1 w.chain)) (after (Blocks t state) w) (ord.stays (Blocks t state) w (first, is, may) (known, stacks) h), left_acts w t state first (ord.chained w h))

  -- one that waits for a task that it called
  pub waited_keeps : (t callee number : ℕ) (words : List ℕ) (reason : BlockReason) (w : World) → Is (IsIn (AfterCall callee number words)) t w → HasFunc w.tasks t → ord.Holds w
      → Keeps (blocked t (InBuiltin number words (ForCall callee)) reason (in_state t Acting w))
  waited_keeps t callee number words reason w a runs h =
      let state : TaskState = InBuiltin number words (ForCall callee) in
      let behind : Control = control_behind (drop 1 w.chain) in
      subst (λ (all : List Task). ord.Holds (let v : World = record w { tasks = all; chain = drop 1 w.chain; control = behind } in v) × ActsBy behind (outlines_of all) (drop 1 w.chain))
      (sym (changed_twice t (λ task. record task { state = Acting }) (λ task. record task { state = state }) w.tasks))
      (goes behind (after (Blocks t state) w) (ord.stays (Blocks t state) w (a.0, tt, inr runs) (a, waits_stacked w t callee number words a (ord.stacked w h)) h), left_acts w t state a.0 (ord.chained w h))

  pub entry_keeps : (t i : ℕ) (entry : Entry) (w : World) (more : ℕ → World → Turn) → Leads t w
      → (live_count (table_of w i) < most_live → Keeps (more (next_index (table_of w i)) (entry_added i entry w))) → Keeps (with_entry t i entry w more)
  entry_keeps t i entry w more h keeps =
      either_keeps (nat_lt (live_count (table_of w i)) most_live) (more (next_index (table_of w i)) (entry_added i entry w)) (doomed t trap.TableFull w)
      (λ e. keeps (less (live_count (table_of w i)) most_live e)) (λ e. (goes (Doomed t trap.TableFull) w h.0, h.1))

  -- Lifting.

  pub removes : (b : Bool) (t i index : ℕ) (w : World) → Stands w i index (IsFree w i index) → Held b t w → Held b t (entry_removed i index w)
  removes b t i index w may h = still b t (RemovesEntry i index) w (may.0, may.1, may.2.0) tt tt h

  pub waits : (b : Bool) (t i index : ℕ) (w : World) → Stands w i index (IsTaken w) → Held b t w → Held b t (left_set i index (entry_removed i index w))
  waits b t i index w may h = still b t (RemovesWaitable i index) w (may.0, may.1, may.2.0) tt tt h

  pub lends : (b : Bool) (t i callee index : ℕ) (w : World) → Unit {0} → Stands w i index IsHandle → Held b t w → Held b t (lent callee index w)
  lends b t i callee index w used there h = still b t (IsLent callee index) w tt tt tt h

  abbrev pub KeptSo : Bool → ℕ → Kept → Type 0
  KeptSo b t k = Held b t k.world

  abbrev pub StoppedSo : Bool → ℕ → Stopped → Type 0
  StoppedSo b t stop = Held b t stop.world

  pub came_keeps : {A : Type 0} (b : Bool) (t : ℕ) (came : Came A) (more : A → World → Turn) → LeavesWith (KeptSo b t) (StoppedSo b t) came → ((x : A) (w : World) → Held b t w → Keeps (more x w)) → Keeps (once_lifted t came more)
  came_keeps b t (Ok x) more h keeps = behind_keeps x.1.lines (more x.0 x.1.world) (keeps x.0 x.1.world h)
  came_keeps b t (Err stop) more h keeps = (goes (Doomed t stop.why) stop.world h.0, h.1.0)
