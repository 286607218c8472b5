-- The chain and the acting task behind each change.
use Rattle.std.proofs.Common.{◌≡◌, ◌≢◌, ℕ, true, false, List, [], ◌∷◌, length, drop, refl, sym, ap, ◌∙◌, subst, Some}
use Rattle.std.specs.List.{slice_get}
use Rattle.tasks.specs.declared.phase.Cancellation.TheVariants.{Asked}
use Rattle.tasks.specs.declared.phase.Resolution.TheVariants.{Cancelled}
use Rattle.wasm_store.specs.Stack.{Stack}
use Rattle.comp_graph.specs.Graph.{Graph}
use Rattle.script_reader.specs.Script.{Script}
use Rattle.abi_machine.specs.World.{Host, Guest, TaskState, New, Acting, AfterCall, AfterCancel, WaitsToEnter, Exited, Task, World, new_task}
use Rattle.abi_machine.specs.World as world
use Rattle.abi_machine.specs.Edits.{changed_at, answered_stacks}
use Rattle.abi_machine.specs.Reading.{task_at}
use Rattle.abi_machine.specs.sound.Changes.{Change, GoesTo, HasStore, SpendsUnit, UsesPicks, TakesItem, BeginsInstance, AddsEntry, MakesSet, RemovesEntry, RemovesWaitable, LeavesSet, JoinsSet, HasBackpressure, IsCalled, Calls, ComesBack, Acts, Begins, Cancels, Blocks, Exits, IsRemoved, Resolves, IsCancelled, HasWord, HasNewStack, HasStack, LosesStack, IsAnswered, IsTold, IsLent, HasResult, MakesChannel, Offers, Transfers, Concludes, DropsEnd, after, IsFirst, IsBlocked, MayCome}
use Rattle.abi_machine.specs.sound.Chain.{states_of, IsAt, WaitsFor, IsThere, AreUnder, IsChain, IsChained}
use Rattle.abi_machine.specs.sound.Acting.{Outline, outline_of, outlines_of, HasStacks, WaitsWith, StandsBy, HaveStacks, IsActing, IsCalling, WasBlocked, ActsAs}
use Rattle.abi_machine.proofs.sound.Lists.{length_changed}
use Rattle.abi_machine.proofs.sound.Found.{some_same, changed_there, some_there}
use Rattle.abi_machine.proofs.sound.Aside.{channel_kept, made_kept}
use Rattle.abi_machine.proofs.sound.Outlines.{outlines_changed, outlines_kept, outline_there, Is, is_there, state_first, stacks_kept, stacks_more, is_what, MayHaveStacks}
use Rattle.abi_machine.proofs.sound.Chained.{other_there, states_kept, state_set, state_there, blocked_aside, blocked_apart, first_under, none_under, first_changed, first_left, aside_kept, comes_first, new_first}

-- The chain.

-- a change of a task that leaves its state alone
beside : (w : World) (t : ℕ) (f : Task → Task) → ((x : Task) → (f x).state ≡ x.state) → IsChained w → IsChain (states_of (changed_at t f w.tasks)) w.chain
beside w t f same h = subst (λ (all : List TaskState). IsChain all w.chain) (sym (states_kept t f w.tasks same)) h

in_states : (tasks : List Task) (chain : List ℕ) (t : ℕ) (state : TaskState) → IsChain (changed_at t (λ old. state) (states_of tasks)) chain
    → IsChain (states_of (changed_at t (λ task. record task { state = state }) tasks)) chain
in_states tasks chain t state h = subst (λ (all : List TaskState). IsChain all chain) (sym (state_set t state tasks)) h

-- the acting task is in another state
sets_first : (w : World) (t : ℕ) (state : TaskState) → IsFirst t w.chain → IsThere state → IsChained w → IsChain (states_of (changed_at t (λ task. record task { state = state }) w.tasks)) w.chain
sets_first w t state first is h = in_states w.tasks w.chain t state (first_changed (states_of w.tasks) w.chain t state first is h)

-- all changes but those of a task that comes back or is removed
abbrev pub IsPlain : Change → Type 0
IsPlain (ComesBack t) = ⊥
IsPlain (IsRemoved t) = ⊥
IsPlain change = Unit {0}

pub stays_chained : (g : Graph) (s : Script) (c : Change) (w : World) → MayCome g s c w → IsPlain c → IsChained w → IsChained (after c w)
stays_chained g s (IsCalled callee call values) w may plain h =
    new_first w.tasks w.chain (new_task callee (Host call values) New) tt (none_under (states_of w.tasks) w.chain (length w.tasks) may.1) h
stays_chained g s (Calls number callee subtask words) w may plain h =
    let state : TaskState = AfterCall (length w.tasks) number words in
    let f : Task → Task = λ task. record task { state = state } in
    let tasks : List Task = changed_at subtask.by f w.tasks in
    let k : IsChain (states_of tasks) w.chain = sets_first w subtask.by state may.2 tt h in
    let x = some_there (task_at w subtask.by) may.1 in
    let there : slice_get (states_of tasks) subtask.by ≡ Some state = state_there tasks subtask.by (f x.0) (changed_there subtask.by f w.tasks x.0 x.1) in
    new_first tasks w.chain (new_task callee (Guest subtask) New) tt
    (first_under (states_of tasks) w.chain subtask.by (length tasks) state may.2 there (sym (length_changed subtask.by f w.tasks)) k) k
stays_chained g s (ComesBack t) w may plain h = absurd plain
stays_chained g s (Acts t) w may plain h = sets_first w t Acting may tt h
stays_chained g s (Begins n) w may plain h = sets_first w 0 (world.Begins n) may tt h
stays_chained g s (Cancels t callee number words) w may plain h = sets_first w t (AfterCancel callee number words) may.0 tt h
stays_chained g s (Blocks t state) w may plain h =
    in_states w.tasks (drop 1 w.chain) t state (first_left (states_of w.tasks) w.chain t state may.0 (blocked_aside state may.1) h)
stays_chained g s (Exits t) w may plain h = in_states w.tasks (drop 1 w.chain) t Exited (first_left (states_of w.tasks) w.chain t Exited may tt h)
stays_chained g s (IsRemoved t) w may plain h = absurd plain
stays_chained g s (Resolves t resolution) w may plain h = beside w t _ (λ x. refl) h
stays_chained g s (IsCancelled t cancellation) w may plain h = beside w t _ (λ x. refl) h
stays_chained g s (HasWord t slot word) w may plain h = beside w t _ (λ x. refl) h
stays_chained g s (HasNewStack t k) w may plain h = beside w t _ (λ x. refl) h
stays_chained g s (HasStack t k) w may plain h = beside w t _ (λ x. refl) h
stays_chained g s (LosesStack t) w may plain h = beside w t _ (λ x. refl) h
stays_chained g s (IsAnswered t words) w may plain h = beside w t _ (λ x. refl) h
stays_chained g s (IsTold t state) w may plain h = beside w t _ (λ x. refl) h
stays_chained g s (IsLent t handle) w may plain h = beside w t _ (λ x. refl) h
stays_chained g s (HasResult t words) w may plain h = beside w t _ (λ x. refl) h
stays_chained g s (MakesChannel kind element) w may plain h = made_kept IsChained (λ v x k. k) (λ v x k. k) kind element w h
stays_chained g s (Offers e call) w may plain h = channel_kept IsChained (λ v x k. k) (λ v x k. k) e.kind e.number _ w h
stays_chained g s (Transfers e size values) w may plain h =
    channel_kept IsChained (λ v x k. k) (λ v x k. k) e.kind e.number _ _ (channel_kept IsChained (λ v x k. k) (λ v x k. k) e.kind e.number _ w h)
stays_chained g s (Concludes e) w may plain h = channel_kept IsChained (λ v x k. k) (λ v x k. k) e.kind e.number _ w h
stays_chained g s (DropsEnd e) w may plain h = channel_kept IsChained (λ v x k. k) (λ v x k. k) e.kind e.number _ w h
stays_chained g s (GoesTo control) w may plain h = h
stays_chained g s (HasStore store) w may plain h = h
stays_chained g s SpendsUnit w may plain h = h
stays_chained g s (UsesPicks picks) w may plain h = h
stays_chained g s TakesItem w may plain h = h
stays_chained g s BeginsInstance w may plain h = h
stays_chained g s (AddsEntry i entry) w may plain h = h
stays_chained g s (MakesSet i set) w may plain h = h
stays_chained g s (RemovesEntry i index) w may plain h = h
stays_chained g s (RemovesWaitable i index) w may plain h = h
stays_chained g s (LeavesSet i index) w may plain h = h
stays_chained g s (JoinsSet i index set) w may plain h = h
stays_chained g s (HasBackpressure i backpressure) w may plain h = h

-- The acting task.

-- changes after which the acting task is as before, but for those of a task that comes back or is removed
abbrev pub IsSteady : Change → Type 0
IsSteady (IsCalled callee call values) = ⊥
IsSteady (Calls number callee subtask words) = ⊥
IsSteady (ComesBack t) = ⊥
IsSteady (Acts t) = ⊥
IsSteady (Begins n) = ⊥
IsSteady (Cancels t callee number words) = ⊥
IsSteady (Blocks t state) = ⊥
IsSteady (Exits t) = ⊥
IsSteady (IsRemoved t) = ⊥
IsSteady (HasNewStack t k) = ⊥
IsSteady (HasStack t k) = ⊥
IsSteady (LosesStack t) = ⊥
IsSteady (IsAnswered t words) = ⊥
IsSteady change = Unit {0}

module _ (P : Outline → Type 0) (t : ℕ) where
  is_beside : (w : World) (u : ℕ) (f : Task → Task) → ((x : Task) → outline_of (f x) ≡ outline_of x) → Is P t w → ActsAs P t (outlines_of (changed_at u f w.tasks)) w.chain
  is_beside w u f same a = (a.0, subst (λ (all : List Outline). IsAt all t P) (sym (outlines_kept u f w.tasks same)) a.1)

  pub steady : (c : Change) (w : World) → IsSteady c → Is P t w → Is P t (after c w)
  steady (IsCalled callee call values) w is a = absurd is
  steady (Calls number callee subtask words) w is a = absurd is
  steady (ComesBack u) w is a = absurd is
  steady (Acts u) w is a = absurd is
  steady (Begins n) w is a = absurd is
  steady (Cancels u callee number words) w is a = absurd is
  steady (Blocks u state) w is a = absurd is
  steady (Exits u) w is a = absurd is
  steady (IsRemoved u) w is a = absurd is
  steady (Resolves u resolution) w is a = is_beside w u _ (λ x. refl) a
  steady (IsCancelled u cancellation) w is a = is_beside w u _ (λ x. refl) a
  steady (HasWord u slot word) w is a = is_beside w u _ (λ x. refl) a
  steady (HasNewStack u k) w is a = absurd is
  steady (HasStack u k) w is a = absurd is
  steady (LosesStack u) w is a = absurd is
  steady (IsAnswered u words) w is a = absurd is
  steady (IsTold u state) w is a = is_beside w u _ (λ x. refl) a
  steady (IsLent u handle) w is a = is_beside w u _ (λ x. refl) a
  steady (HasResult u words) w is a = is_beside w u _ (λ x. refl) a
  steady (MakesChannel kind element) w is a = made_kept (Is P t) (λ v x k. k) (λ v x k. k) kind element w a
  steady (Offers e call) w is a = channel_kept (Is P t) (λ v x k. k) (λ v x k. k) e.kind e.number _ w a
  steady (Transfers e size values) w is a =
      channel_kept (Is P t) (λ v x k. k) (λ v x k. k) e.kind e.number _ _ (channel_kept (Is P t) (λ v x k. k) (λ v x k. k) e.kind e.number _ w a)
  steady (Concludes e) w is a = channel_kept (Is P t) (λ v x k. k) (λ v x k. k) e.kind e.number _ w a
  steady (DropsEnd e) w is a = channel_kept (Is P t) (λ v x k. k) (λ v x k. k) e.kind e.number _ w a
  steady (GoesTo control) w is a = a
  steady (HasStore store) w is a = a
  steady SpendsUnit w is a = a
  steady (UsesPicks picks) w is a = a
  steady TakesItem w is a = a
  steady BeginsInstance w is a = a
  steady (AddsEntry i entry) w is a = a
  steady (MakesSet i set) w is a = a
  steady (RemovesEntry i index) w is a = a
  steady (RemovesWaitable i index) w is a = a
  steady (LeavesSet i index) w is a = a
  steady (JoinsSet i index set) w is a = a
  steady (HasBackpressure i backpressure) w is a = a

-- The stacks of tasks that do not act.

-- where a change makes them so
abbrev pub StacksFit : Change → World → Type 0
StacksFit (ComesBack t) w = Unit {0}
StacksFit (IsRemoved t) w = ⊥
StacksFit (Calls number callee subtask words) w = Is (WaitsWith true) subtask.by w
StacksFit (Cancels t callee number words) w = Is (WaitsWith true) t w
StacksFit (Blocks t state) w = Is (StandsBy state) t w
StacksFit (Exits t) w = Is (λ o. HasStacks false o.stacks) t w
StacksFit (HasNewStack t k) w = Is MayHaveStacks t w
StacksFit (HasStack t k) w = Is MayHaveStacks t w
StacksFit (LosesStack t) w = Is MayHaveStacks t w
StacksFit (IsAnswered t words) w = Is MayHaveStacks t w
StacksFit change w = Unit {0}

abbrev pub AreStacked : World → Type 0
AreStacked w = HaveStacks (outlines_of w.tasks)

kept_stacked : (w : World) (u : ℕ) (f : Task → Task) → ((x : Task) → outline_of (f x) ≡ outline_of x) → AreStacked w → HaveStacks (outlines_of (changed_at u f w.tasks))
kept_stacked w u f same h = subst HaveStacks (sym (outlines_kept u f w.tasks same)) h

-- the acting task gets a state, or other stacks
state_stacked : (tasks : List Task) (t : ℕ) (state : TaskState) → ((o : Outline) → slice_get (outlines_of tasks) t ≡ Some o → StandsBy state (record o { state = state })) → HaveStacks (outlines_of tasks)
    → HaveStacks (outlines_of (changed_at t (λ task. record task { state = state }) tasks))
state_stacked tasks t state says h = stacks_kept tasks t (λ task. record task { state = state }) (λ o. record o { state = state }) (λ x. refl) says h

others_stacked : (w : World) (t : ℕ) (F : List Stack → List Stack) → Is MayHaveStacks t w → AreStacked w → HaveStacks (outlines_of (changed_at t (λ task. record task { stacks = F task.stacks }) w.tasks))
others_stacked w t F may h =
    stacks_kept w.tasks t (λ task. record task { stacks = F task.stacks }) (λ o. record o { stacks = F o.stacks }) (λ x. refl)
    (λ o e. (let says : (p : Outline) → StandsBy o.state p = is_what MayHaveStacks t w o may e in says (record o { stacks = F o.stacks }))) h

blocks_says : (state : TaskState) (o : Outline) → IsBlocked state → StandsBy state o → StandsBy state (record o { state = state })
blocks_says New o is h = h
blocks_says Acting o is h = h
blocks_says (AfterCall callee number words) o is h = h
blocks_says (AfterCancel callee number words) o is h = h
blocks_says (world.Begins n) o is h = h
blocks_says WaitsToEnter o is h = h
blocks_says (world.InLoop word) o is h = h
blocks_says (world.InBuiltin number words wait) o is h = h
blocks_says Exited o is h = h

pub stays_stacked : (g : Graph) (s : Script) (c : Change) (w : World) → MayCome g s c w → StacksFit c w → AreStacked w → AreStacked (after c w)
stays_stacked g s (IsCalled callee call values) w may fit h = stacks_more w.tasks (new_task callee (Host call values) New) (may.0, refl) h
stays_stacked g s (Calls number callee subtask words) w may fit h =
    stacks_more (changed_at subtask.by (λ task. record task { state = AfterCall (length w.tasks) number words }) w.tasks) (new_task callee (Guest subtask) New) (may.0, refl)
    (state_stacked w.tasks subtask.by (AfterCall (length w.tasks) number words) (λ o e. is_what (WaitsWith true) subtask.by w o fit e) h)
stays_stacked g s (ComesBack t) w may fit h = h
stays_stacked g s (Acts t) w may fit h = state_stacked w.tasks t Acting (λ o e. tt) h
stays_stacked g s (Begins n) w may fit h = state_stacked w.tasks 0 (world.Begins n) (λ o e. tt) h
stays_stacked g s (Cancels t callee number words) w may fit h = state_stacked w.tasks t (AfterCancel callee number words) (λ o e. is_what (WaitsWith true) t w o fit e) h
stays_stacked g s (Blocks t state) w may fit h = state_stacked w.tasks t state (λ o e. blocks_says state o may.1 (is_what (StandsBy state) t w o fit e)) h
stays_stacked g s (Exits t) w may fit h = state_stacked w.tasks t Exited (λ o e. is_what (λ x. HasStacks false x.stacks) t w o fit e) h
stays_stacked g s (IsRemoved t) w may fit h = absurd fit
stays_stacked g s (HasNewStack t k) w may fit h = others_stacked w t (λ stacks. k ∷ stacks) fit h
stays_stacked g s (HasStack t k) w may fit h = others_stacked w t (λ stacks. k ∷ drop 1 stacks) fit h
stays_stacked g s (LosesStack t) w may fit h = others_stacked w t (λ stacks. drop 1 stacks) fit h
stays_stacked g s (IsAnswered t words) w may fit h = others_stacked w t (answered_stacks words) fit h
stays_stacked g s (Resolves t resolution) w may fit h = kept_stacked w t _ (λ x. refl) h
stays_stacked g s (IsCancelled t cancellation) w may fit h = kept_stacked w t _ (λ x. refl) h
stays_stacked g s (HasWord t slot word) w may fit h = kept_stacked w t _ (λ x. refl) h
stays_stacked g s (IsTold t state) w may fit h = kept_stacked w t _ (λ x. refl) h
stays_stacked g s (IsLent t handle) w may fit h = kept_stacked w t _ (λ x. refl) h
stays_stacked g s (HasResult t words) w may fit h = kept_stacked w t _ (λ x. refl) h
stays_stacked g s (MakesChannel kind element) w may fit h = made_kept AreStacked (λ v x k. k) (λ v x k. k) kind element w h
stays_stacked g s (Offers e call) w may fit h = channel_kept AreStacked (λ v x k. k) (λ v x k. k) e.kind e.number _ w h
stays_stacked g s (Transfers e size values) w may fit h =
    channel_kept AreStacked (λ v x k. k) (λ v x k. k) e.kind e.number _ _ (channel_kept AreStacked (λ v x k. k) (λ v x k. k) e.kind e.number _ w h)
stays_stacked g s (Concludes e) w may fit h = channel_kept AreStacked (λ v x k. k) (λ v x k. k) e.kind e.number _ w h
stays_stacked g s (DropsEnd e) w may fit h = channel_kept AreStacked (λ v x k. k) (λ v x k. k) e.kind e.number _ w h
stays_stacked g s (GoesTo control) w may fit h = h
stays_stacked g s (HasStore store) w may fit h = h
stays_stacked g s SpendsUnit w may fit h = h
stays_stacked g s (UsesPicks picks) w may fit h = h
stays_stacked g s TakesItem w may fit h = h
stays_stacked g s BeginsInstance w may fit h = h
stays_stacked g s (AddsEntry i entry) w may fit h = h
stays_stacked g s (MakesSet i set) w may fit h = h
stays_stacked g s (RemovesEntry i index) w may fit h = h
stays_stacked g s (RemovesWaitable i index) w may fit h = h
stays_stacked g s (LeavesSet i index) w may fit h = h
stays_stacked g s (JoinsSet i index set) w may fit h = h
stays_stacked g s (HasBackpressure i backpressure) w may fit h = h

-- A task that waits to enter has no stack, and none where it is removed.
waits_none : (state : TaskState) (o : Outline) → state ≡ WaitsToEnter → StandsBy state o → o.stacks ≡ []
waits_none state o waits h = (let none : WaitsWith false o = subst (λ (x : TaskState). StandsBy x o) waits h in none.1)

pub removed_stacked : (t : ℕ) (w : World) (task : Task) → slice_get w.tasks t ≡ Some task → task.state ≡ WaitsToEnter → AreStacked w → AreStacked (after (IsRemoved t) w)
removed_stacked t w task there waits h =
    let f : Task → Task = λ x. record x { resolution = Some Cancelled } in
    let same : outlines_of (changed_at t f w.tasks) ≡ outlines_of w.tasks = outlines_kept t f w.tasks (λ x. refl) in
    state_stacked (changed_at t f w.tasks) t Exited
    (λ o e.
    let here : outline_of task ≡ o = some_same (sym (outline_there w.tasks t task there) ∙ (ap (λ (all : List Outline). slice_get all t) (sym same) ∙ e)) in
    subst (λ (x : Outline). x.stacks ≡ []) here (waits_none task.state (outline_of task) waits (h t (outline_of task) (outline_there w.tasks t task there)))) (subst HaveStacks (sym same) h)

-- A task comes back or is removed.

-- where no task runs
pub back_idle : (t : ℕ) (w : World) (task : Task) → slice_get w.tasks t ≡ Some task → IsBlocked task.state → w.chain ≡ [] → IsChained w → IsChained (after (ComesBack t) w)
back_idle t w task there is idle h =
    comes_first (states_of w.tasks) w.chain t task.state (state_there w.tasks t task there) is (none_under (states_of w.tasks) w.chain t idle) h

pub removed_idle : (t : ℕ) (w : World) (task : Task) → slice_get w.tasks t ≡ Some task → task.state ≡ WaitsToEnter → w.chain ≡ [] → IsChained w → IsChained (after (IsRemoved t) w)
removed_idle t w task there waits idle h =
    let f : Task → Task = λ x. record x { resolution = Some Cancelled } in
    in_states (changed_at t f w.tasks) w.chain t Exited
    (subst (λ (all : List TaskState). IsChain (changed_at t (λ old. Exited) all) w.chain) (sym (states_kept t f w.tasks (λ x. refl)))
    (aside_kept (states_of w.tasks) w.chain t Exited
    (blocked_apart (states_of w.tasks) t t task.state w.chain (state_there w.tasks t task there) (subst IsBlocked (sym waits) tt) (none_under (states_of w.tasks) w.chain t idle)) tt h))

acting_unblocked : (state : TaskState) → state ≡ Acting → IsBlocked state → ⊥
acting_unblocked state same is = subst IsBlocked same is

-- The acting task cancels another one, which is blocked.
module _ (t callee number : ℕ) (words : List ℕ) (w : World) (task : Task) (a : Is (IsActing true) t w) (there : slice_get w.tasks callee ≡ Some task) (is : IsBlocked task.state) (h : IsChained w) where
  abbrev asking : World
  asking = after (Cancels t callee number words) w

  abbrev asks_so : Outline → Outline
  asks_so o = record o { state = AfterCancel callee number words }

  apart : t ≢ callee
  apart same =
      let here : a.1.0 ≡ outline_of task = some_same (sym a.1.1 ∙ (ap (λ (n : ℕ). slice_get (outlines_of w.tasks) n) same ∙ outline_there w.tasks callee task there)) in
      acting_unblocked task.state (sym (ap (λ (o : Outline). o.state) here) ∙ a.1.2.1) is

  pub task_there : slice_get asking.tasks callee ≡ Some task
  task_there = other_there t callee (λ x. record x { state = AfterCancel callee number words }) w.tasks apart ∙ there

  asks : IsChained asking
  asks = sets_first w t (AfterCancel callee number words) a.0 tt h

  waits : IsAt (states_of asking.tasks) t (WaitsFor callee)
  waits =
      let x = some_there (task_at w t) (is_there (IsActing true) t w a) in
      let f : Task → Task = λ y. record y { state = AfterCancel callee number words } in
      (AfterCancel callee number words, state_there asking.tasks t (f x.0) (changed_there t f w.tasks x.0 x.1), refl)

  under : AreUnder (states_of asking.tasks) callee w.chain
  under = first_under (states_of asking.tasks) w.chain t callee waits.0 a.0 waits.1 waits.2 asks

  callee_there : slice_get (states_of asking.tasks) callee ≡ Some task.state
  callee_there =
      ap (λ (all : List TaskState). slice_get all callee) (state_set t (AfterCancel callee number words) w.tasks)
      ∙ (other_there t callee (λ old. AfterCancel callee number words) (states_of w.tasks) apart ∙ state_there w.tasks callee task there)

  -- what leaves the states alone
  cancelled_same : states_of (after (IsCancelled callee Asked) asking).tasks ≡ states_of asking.tasks
  cancelled_same = states_kept callee (λ x. record x { cancellation = Asked }) asking.tasks (λ x. refl)

  resolved_same : states_of (changed_at callee (λ x. record x { resolution = Some Cancelled }) asking.tasks) ≡ states_of asking.tasks
  resolved_same = states_kept callee (λ x. record x { resolution = Some Cancelled }) asking.tasks (λ x. refl)

  -- It goes on at once,
  pub back_asked : IsChained (after (ComesBack callee) (after (IsCancelled callee Asked) asking))
  back_asked =
      subst (λ (all : List TaskState). IsChain all (callee ∷ w.chain)) (sym cancelled_same) (comes_first (states_of asking.tasks) w.chain callee task.state callee_there is under asks)

  pub first_back : Is WasBlocked callee (after (ComesBack callee) (after (IsCancelled callee Asked) asking))
  first_back = (
    refl,
    (
      outline_of task,
      ap (λ (all : List Outline). slice_get all callee)
          (outlines_kept callee (λ x. record x { cancellation = Asked }) asking.tasks (λ x. refl) ∙ outlines_changed t (λ x. record x { state = AfterCancel callee number words }) asks_so w.tasks (λ x. refl))
          ∙ (other_there t callee asks_so (outlines_of w.tasks) apart ∙ outline_there w.tasks callee task there),
      is,
    ),
  )

  -- or is removed.
  removed_states : states_of (after (IsRemoved callee) asking).tasks ≡ changed_at callee (λ old. Exited) (states_of asking.tasks)
  removed_states = state_set callee Exited _ ∙ ap (changed_at callee (λ (old : TaskState). Exited)) resolved_same

  pub removed_asked : IsChained (after (IsRemoved callee) asking)
  removed_asked =
      subst (λ (all : List TaskState). IsChain all w.chain) (sym removed_states)
      (aside_kept (states_of asking.tasks) w.chain callee Exited (blocked_apart (states_of asking.tasks) callee callee task.state w.chain callee_there is under) tt asks)

  pub first_asks : Is IsCalling t (after (IsRemoved callee) asking)
  first_asks =
      let mine : Is IsCalling t asking = state_first IsCalling (IsActing true) w t (AfterCancel callee number words) (λ o k. tt) a in
      let exits : Outline → Outline = λ o. record o { state = Exited } in (
        a.0,
        (
          mine.1.0,
          ap (λ (all : List Outline). slice_get all t)
              (outlines_changed callee (λ x. record x { state = Exited }) exits (changed_at callee (λ x. record x { resolution = Some Cancelled }) asking.tasks) (λ x. refl)
              ∙ ap (changed_at callee exits) (outlines_kept callee (λ x. record x { resolution = Some Cancelled }) asking.tasks (λ x. refl)))
              ∙ (other_there callee t exits (outlines_of asking.tasks) (λ same. apart (sym same)) ∙ mine.1.1),
          mine.1.2,
        ),
      )
