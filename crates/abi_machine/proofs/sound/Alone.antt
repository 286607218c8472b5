-- Task 0 runs alone until it has exited, and never again.
use Rattle.std.proofs.Common.{◌≡◌, ◌<◌, ◌≤◌, ◌⊎◌, inl, inr, ℕ, zero, suc, true, List, [], ◌∷◌, ◌++◌, length, drop, refl, sym, ap, ◌∙◌, subst, arith, Option, Some, None}
use Rattle.std.specs.Prelude.{IsSome}
use Rattle.std.specs.List.{slice_get, AllByRecursion}
use Rattle.wasm_store.proofs.Lists.{all_at}
use Rattle.tasks.specs.declared.phase.Resolution.TheVariants.{Cancelled}
use Rattle.comp_graph.specs.Graph.{Graph}
use Rattle.script_reader.specs.Script.{Script}
use Rattle.abi_machine.specs.Control.{Control, Free, Chosen, Instantiates, Runs, Arrives, Lowers, Quiet, Back, Goes, Resumes, Delivers, Leaves, Doomed}
use Rattle.abi_machine.specs.Control as control
use Rattle.abi_machine.specs.World.{OfEnd, Callee, Init, Host, Guest, TaskState, New, Acting, AfterCall, AfterCancel, WaitsToEnter, InLoop, InBuiltin, Exited, Task, World, new_task}
use Rattle.abi_machine.specs.World as world
use Rattle.abi_machine.specs.Edits.{changed_at}
use Rattle.abi_machine.specs.Reading.{func_of, has_exited, is_instantiated}
use Rattle.abi_machine.specs.sound.Changes.{Change, GoesTo, HasStore, SpendsUnit, UsesPicks, TakesItem, BeginsInstance, AddsEntry, MakesSet, RemovesEntry, RemovesWaitable, LeavesSet, JoinsSet, HasBackpressure, IsCalled, Calls, ComesBack, Acts, Begins, Cancels, Blocks, Exits, IsRemoved, Resolves, IsCancelled, HasWord, HasNewStack, HasStack, LosesStack, IsAnswered, IsTold, IsLent, HasResult, MakesChannel, Offers, Transfers, Concludes, DropsEnd, after, IsFirst, HasFunc, IsCancelling, FirstCancels, IsBlocked, MayCome}
use Rattle.abi_machine.specs.sound.Premises.{Comes}
use Rattle.abi_machine.specs.sound.Firsts.{TaskIs}
use Rattle.abi_machine.specs.sound.Agreeing.{Agrees}
use Rattle.abi_machine.specs.sound.Controls.{Says}
use Rattle.abi_machine.specs.sound.Entering.{EntersUnresolved, EnterUnresolved}
use Rattle.abi_machine.specs.sound.EndPlaces.{WritersStand, WritersStandOnce}
use Rattle.abi_machine.specs.sound.Entered.{HaveEntered}
use Rattle.abi_machine.specs.sound.Writers.{FirstHasWriters, WritersStayInOnePlace}
use Rattle.abi_machine.specs.sound.Initial.{IsInitial, StartsNothing, InitRunsAlone, RunsAlone, FirstRunsAlone, StaysAlone}
use Rattle.trace_labels.specs.declared.label.Label.{Label}
use Rattle.abi_machine.specs.Turn.{Steps}
use Rattle.abi_machine.specs.Next.{next}
use Rattle.abi_machine.proofs.sound.Lists.{changed_either, more_either, get_front, within}
use Rattle.abi_machine.proofs.sound.Found.{some_same, changed_there}
use Rattle.abi_machine.proofs.sound.Aside.{channel_kept, made_kept}
use Rattle.abi_machine.proofs.sound.Unresolved.{unresolved_kept}
use Rattle.abi_machine.proofs.sound.OnePlace.{writers_kept}
use Rattle.abi_machine.proofs.sound.Entered.{entered_kept, first_entered}
use Rattle.abi_machine.specs.sound.EndsPassed.{ReadersStand, ReadersPass}
use Rattle.abi_machine.proofs.sound.ends.Readers.{readers_kept}
use Rattle.abi_machine.specs.sound.Lines.{Mark, marks_of}
use Rattle.abi_machine.proofs.sound.Marks.{marks_by}
use Rattle.abi_machine.proofs.sound.turns.Keeping.{Invariant}
use Rattle.abi_machine.proofs.sound.Steps.{step_keeps}

-- The chain, by the state of task 0.

first_of_none : (chain : List ℕ) (t : ℕ) → chain ≡ [] → IsFirst t chain → ⊥
first_of_none chain t none first = (let there : slice_get [] 0 ≡ Some t = subst (λ (l : List ℕ). slice_get l 0 ≡ Some t) none first in cc)

first_of_one : (chain : List ℕ) (t : ℕ) → chain ≡ 0 ∷ [] → IsFirst t chain → 0 ≡ t
first_of_one chain t one first = some_same (subst (λ (l : List ℕ). slice_get l 0 ≡ Some t) one first)

-- the first is one of all
first_later : (chain : List ℕ) (t : ℕ) → AllByRecursion (λ u. 1 ≤ u) chain → IsFirst t chain → 1 ≤ t
first_later [] t all first = cc
first_later (u ∷ below) t all first = subst (λ (k : ℕ). 1 ≤ k) (some_same first) all.0

first_zero : (state : TaskState) (chain : List ℕ) → IsInitial state chain → IsFirst 0 chain → chain ≡ 0 ∷ []
first_zero Acting chain h first = h
first_zero (world.Begins n) chain h first = h
first_zero Exited chain h first = (let late : 1 ≤ 0 = first_later chain 0 h first in absurd (omega (arith, late)))
first_zero New chain h first = absurd h
first_zero (AfterCall callee number words) chain h first = absurd h
first_zero (AfterCancel callee number words) chain h first = absurd h
first_zero WaitsToEnter chain h first = absurd h
first_zero (InLoop word) chain h first = absurd h
first_zero (InBuiltin number words wait) chain h first = absurd h

drop_later : (chain : List ℕ) → AllByRecursion (λ u. 1 ≤ u) chain → AllByRecursion (λ u. 1 ≤ u) (drop 1 chain)
drop_later [] h = tt
drop_later (u ∷ below) h = h.1

-- another task leaves the chain, or comes to it
dropped : (state : TaskState) (chain : List ℕ) (m : ℕ) → IsFirst (suc m) chain → IsInitial state chain → IsInitial state (drop 1 chain)
dropped Acting chain m first h = (let same : 0 ≡ suc m = first_of_one chain (suc m) h first in absurd (omega (arith, same)))
dropped (world.Begins n) chain m first h = (let same : 0 ≡ suc m = first_of_one chain (suc m) h first in absurd (omega (arith, same)))
dropped Exited chain m first h = drop_later chain h
dropped New chain m first h = absurd h
dropped (AfterCall callee number words) chain m first h = absurd h
dropped (AfterCancel callee number words) chain m first h = absurd h
dropped WaitsToEnter chain m first h = absurd h
dropped (InLoop word) chain m first h = absurd h
dropped (InBuiltin number words wait) chain m first h = absurd h

no_cons : (n : ℕ) (l : List ℕ) → n ∷ l ≡ [] → ⊥
no_cons n l e = cc

one_is_some : (chain : List ℕ) → chain ≡ 0 ∷ [] → chain ≡ [] → ⊥
one_is_some chain one none = no_cons 0 [] (sym one ∙ none)

pushed : (state : TaskState) (chain : List ℕ) (u : ℕ) → 1 ≤ u → (chain ≡ []) ⊎ (state ≡ Exited) → IsInitial state chain → IsInitial state (u ∷ chain)
pushed Acting chain u late (inl none) h = absurd (one_is_some chain h none)
pushed Acting chain u late (inr e) h = cc
pushed (world.Begins n) chain u late (inl none) h = absurd (one_is_some chain h none)
pushed (world.Begins n) chain u late (inr e) h = cc
pushed Exited chain u late why h = (late, h)
pushed New chain u late why h = absurd h
pushed (AfterCall callee number words) chain u late why h = absurd h
pushed (AfterCancel callee number words) chain u late why h = absurd h
pushed WaitsToEnter chain u late why h = absurd h
pushed (InLoop word) chain u late why h = absurd h
pushed (InBuiltin number words wait) chain u late why h = absurd h

has_left : (state : TaskState) → has_exited state ≡ true → state ≡ Exited
has_left Exited e = refl
has_left New e = cc
has_left Acting e = cc
has_left (AfterCall callee number words) e = cc
has_left (AfterCancel callee number words) e = cc
has_left (world.Begins n) e = cc
has_left WaitsToEnter e = cc
has_left (InLoop word) e = cc
has_left (InBuiltin number words wait) e = cc

-- Once tasks may leave, task 0 has exited.
pub free_left : (tasks : List Task) (init : Task) → slice_get tasks 0 ≡ Some init → is_instantiated tasks ≡ true → init.state ≡ Exited
free_left [] init there free = cc
free_left (x ∷ tasks) init there free = has_left init.state (subst (λ (y : Task). has_exited y.state ≡ true) (some_same there) free)

pub free_changed : (tasks : List Task) (t : ℕ) (f : Task → Task) → 1 ≤ t → is_instantiated tasks ≡ true → is_instantiated (changed_at t f tasks) ≡ true
free_changed [] t f late free = free
free_changed (x ∷ tasks) zero f late free = absurd (omega (arith, late))
free_changed (x ∷ tasks) (suc m) f late free = free

module _ (tasks : List Task) (chain : List ℕ) (h : InitRunsAlone tasks chain) where
  -- a task that runs a function is another one
  pub runs_later : (t : ℕ) → HasFunc tasks t → 1 ≤ t
  runs_later zero f =
      let same : f.0 ≡ h.init = some_same (sym f.1 ∙ h.there) in
      let none : IsSome (func_of Init) = subst (λ (c : Callee). IsSome (func_of c)) (ap (λ (x : Task). x.callee) same ∙ h.instantiates) f.2 in cc
  runs_later (suc t) f = omega arith

  -- and so is the acting one, once tasks may leave
  pub acts_later : (t : ℕ) → IsFirst t chain → is_instantiated tasks ≡ true → 1 ≤ t
  acts_later t first free = first_later chain t (subst (λ (s : TaskState). IsInitial s chain) (free_left tasks h.init h.there free) h.alone) first

  -- The acting task cancels another one: task 0 has exited.
  cancels_left : (state : TaskState) → state ≡ h.init.state → IsInitial state chain → FirstCancels tasks chain → state ≡ Exited
  cancels_left Acting e i c =
      let zero_first : 0 ≡ c.0 = first_of_one chain c.0 i c.1 in
      let same : h.init ≡ c.2.0 = some_same (sym h.there ∙ (ap (λ (k : ℕ). slice_get tasks k) zero_first ∙ c.2.1)) in
      absurd (subst IsCancelling (sym (e ∙ ap (λ (x : Task). x.state) same)) c.2.2)
  cancels_left (world.Begins n) e i c =
      let zero_first : 0 ≡ c.0 = first_of_one chain c.0 i c.1 in
      let same : h.init ≡ c.2.0 = some_same (sym h.there ∙ (ap (λ (k : ℕ). slice_get tasks k) zero_first ∙ c.2.1)) in
      absurd (subst IsCancelling (sym (e ∙ ap (λ (x : Task). x.state) same)) c.2.2)
  cancels_left Exited e i c = refl
  cancels_left New e i c = absurd i
  cancels_left (AfterCall callee number words) e i c = absurd i
  cancels_left (AfterCancel callee number words) e i c = absurd i
  cancels_left WaitsToEnter e i c = absurd i
  cancels_left (InLoop word) e i c = absurd i
  cancels_left (InBuiltin number words wait) e i c = absurd i

  may_come : (chain ≡ []) ⊎ FirstCancels tasks chain → (chain ≡ []) ⊎ (h.init.state ≡ Exited)
  may_come (inl none) = inl none
  may_come (inr c) = inr (cancels_left h.init.state refl h.alone c)

  -- Another task is changed, and the chain with it.
  other_changed : (m : ℕ) (f : Task → Task) (later : List ℕ) → (IsInitial h.init.state chain → IsInitial h.init.state later) → ((x : Task) → StartsNothing x.state → StartsNothing (f x).state)
      → InitRunsAlone (changed_at (suc m) f tasks) later
  other_changed m f later chained starts = record {
    init = h.init;
    there = by tasks h.there;
    instantiates = h.instantiates;
    alone = chained h.alone;
    others = λ n task e. elim (changed_either (suc m) f tasks (suc n) task e) [
      | inl o ↦ subst (λ (x : Task). StartsNothing x.state) (sym o.2) (starts o.0 (h.others n o.0 o.1))
      | inr old ↦ h.others n task old
    ];
  }
    where
      by : (l : List Task) → slice_get l 0 ≡ Some h.init → slice_get (changed_at (suc m) f l) 0 ≡ Some h.init
      by [] e = e
      by (x ∷ l) e = e

  -- Task 0 is changed.
  init_changed : (f : Task → Task) (later : List ℕ) → (f h.init).callee ≡ h.init.callee → IsInitial (f h.init).state later → InitRunsAlone (changed_at 0 f tasks) later
  init_changed f later callee alone = record {
    init = f h.init;
    there = changed_there 0 f tasks h.init h.there;
    instantiates = callee ∙ h.instantiates;
    alone = alone;
    others = λ n task e. h.others n task (by tasks n task e);
  }
    where
      by : (l : List Task) (n : ℕ) (task : Task) → slice_get (changed_at 0 f l) (suc n) ≡ Some task → slice_get l (suc n) ≡ Some task
      by [] n task e = e
      by (x ∷ l) n task e = e

  -- what leaves states and callees alone
  still : (t : ℕ) (f : Task → Task) → ((x : Task) → ((f x).callee ≡ x.callee) × ((f x).state ≡ x.state)) → InitRunsAlone (changed_at t f tasks) chain
  still zero f same = init_changed f chain (same h.init).0 (subst (λ (s : TaskState). IsInitial s chain) (sym (same h.init).1) h.alone)
  still (suc m) f same = other_changed m f chain (λ i. i) (λ x k. subst StartsNothing (sym (same x).1) k)

  -- One more task.
  one_more : (new : Task) (later : List ℕ) → StartsNothing new.state → IsInitial h.init.state later → InitRunsAlone (tasks ++ new ∷ []) later
  one_more new later starts alone = record {
    init = h.init;
    there = get_front tasks new 0 h.init h.there;
    instantiates = h.instantiates;
    alone = alone;
    others = λ n task e. elim (more_either tasks new (suc n) task e) [
      | inl old ↦ h.others n task old
      | inr last ↦ subst (λ (x : Task). StartsNothing x.state) (sym last.1) starts
    ];
  }

  last_later : 1 ≤ length tasks
  last_later = (let low : 0 < length tasks = within tasks 0 (subst (λ (o : Option Task). IsSome o) (sym h.there) refl) in omega (arith, low))

-- The acting task acts, blocks or exits.

acts : (tasks : List Task) (chain : List ℕ) (t : ℕ) → IsFirst t chain → InitRunsAlone tasks chain → InitRunsAlone (changed_at t (λ task. record task { state = Acting }) tasks) chain
acts tasks chain zero first h = init_changed tasks chain h (λ task. record task { state = Acting }) chain refl (first_zero h.init.state chain h.alone first)
acts tasks chain (suc m) first h = other_changed tasks chain h m (λ task. record task { state = Acting }) chain (λ i. i) (λ x k. tt)

exits : (tasks : List Task) (chain : List ℕ) (t : ℕ) → IsFirst t chain → InitRunsAlone tasks chain → InitRunsAlone (changed_at t (λ task. record task { state = Exited }) tasks) (drop 1 chain)
exits tasks chain zero first h =
    init_changed tasks chain h (λ task. record task { state = Exited }) (drop 1 chain) refl
    (subst (λ (l : List ℕ). AllByRecursion (λ u. 1 ≤ u) (drop 1 l)) (sym (first_zero h.init.state chain h.alone first)) tt)
exits tasks chain (suc m) first h = other_changed tasks chain h m (λ task. record task { state = Exited }) (drop 1 chain) (dropped h.init.state chain m first) (λ x k. tt)

later_task : (t : ℕ) → 1 ≤ t → (m : ℕ) × (t ≡ suc m)
later_task zero h = absurd (omega (arith, h))
later_task (suc m) h = (m, refl)

-- a state in which no start function runs, of another task
other_state : (tasks : List Task) (chain : List ℕ) (t : ℕ) (state : TaskState) → 1 ≤ t → StartsNothing state → InitRunsAlone tasks chain
    → InitRunsAlone (changed_at t (λ task. record task { state = state }) tasks) chain
other_state tasks chain t state late starts h =
    let m = later_task t late in
    subst (λ (k : ℕ). InitRunsAlone (changed_at k (λ task. record task { state = state }) tasks) chain) (sym m.1)
    (other_changed tasks chain h m.0 (λ task. record task { state = state }) chain (λ i. i) (λ x k. starts))

blocks : (tasks : List Task) (chain : List ℕ) (t : ℕ) (state : TaskState) → 1 ≤ t → IsFirst t chain → StartsNothing state → InitRunsAlone tasks chain
    → InitRunsAlone (changed_at t (λ task. record task { state = state }) tasks) (drop 1 chain)
blocks tasks chain t state late first starts h =
    let m = later_task t late in
    subst (λ (k : ℕ). InitRunsAlone (changed_at k (λ task. record task { state = state }) tasks) (drop 1 chain)) (sym m.1)
    (other_changed tasks chain h m.0 (λ task. record task { state = state }) (drop 1 chain) (dropped h.init.state chain m.0 (subst (λ (k : ℕ). IsFirst k chain) m.1 first)) (λ x k. starts))

blocked_starts : (state : TaskState) → IsBlocked state → StartsNothing state
blocked_starts WaitsToEnter h = tt
blocked_starts (InLoop word) h = tt
blocked_starts (InBuiltin number words wait) h = tt
blocked_starts New h = tt
blocked_starts Acting h = tt
blocked_starts (AfterCall callee number words) h = tt
blocked_starts (AfterCancel callee number words) h = tt
blocked_starts (world.Begins n) h = h
blocked_starts Exited h = tt

with_chain : (tasks : List Task) (chain later : List ℕ) (h : InitRunsAlone tasks chain) → IsInitial h.init.state later → InitRunsAlone tasks later
with_chain tasks chain later h alone = record { init = h.init; there = h.there; instantiates = h.instantiates; alone = alone; others = h.others }

may_later : (tasks : List Task) (chain : List ℕ) (t : ℕ) → InitRunsAlone tasks chain → IsFirst t chain → (is_instantiated tasks ≡ true) ⊎ HasFunc tasks t → 1 ≤ t
may_later tasks chain t h first (inl free) = acts_later tasks chain h t first free
may_later tasks chain t h first (inr runs) = runs_later tasks chain h t runs

abbrev pub Alone : World → Type 0
Alone w = InitRunsAlone w.tasks w.chain

pub stands_alone : (g : Graph) (s : Script) (c : Change) (w : World) → MayCome g s c w → Alone w → Alone (after c w)
stands_alone g s (IsCalled callee call values) w may h =
    one_more w.tasks w.chain h (new_task callee (Host call values) New) (length w.tasks ∷ w.chain) tt
    (pushed h.init.state w.chain (length w.tasks) (last_later w.tasks w.chain h) (inl may.1) h.alone)
stands_alone g s (Calls number callee subtask words) w may h =
    let f : Task → Task = λ task. record task { state = AfterCall (length w.tasks) number words } in
    let late : 1 ≤ subtask.by = acts_later w.tasks w.chain h subtask.by may.2 may.3 in
    let tasks : List Task = changed_at subtask.by f w.tasks in
    let k : InitRunsAlone tasks w.chain = other_state w.tasks w.chain subtask.by (AfterCall (length w.tasks) number words) late tt h in
    let left : k.init.state ≡ Exited = free_left tasks k.init k.there (free_changed w.tasks subtask.by f late may.3) in
    one_more tasks w.chain k (new_task callee (Guest subtask) New) (length tasks ∷ w.chain) tt
    (pushed k.init.state w.chain (length tasks) (last_later tasks w.chain k) (inr left) k.alone)
stands_alone g s (ComesBack t) w may h =
    with_chain w.tasks w.chain (t ∷ w.chain) h
    (pushed h.init.state w.chain t (runs_later w.tasks w.chain h t may.0) (may_come w.tasks w.chain h may.1) h.alone)
stands_alone g s (Acts t) w may h = acts w.tasks w.chain t may h
stands_alone g s (Begins n) w may h =
    init_changed w.tasks w.chain h (λ task. record task { state = world.Begins n }) w.chain refl (first_zero h.init.state w.chain h.alone may)
stands_alone g s (Cancels t callee number words) w may h =
    other_state w.tasks w.chain t (AfterCancel callee number words) (acts_later w.tasks w.chain h t may.0 may.1) tt h
stands_alone g s (Blocks t state) w may h =
    blocks w.tasks w.chain t state (may_later w.tasks w.chain t h may.0 may.2) may.0 (blocked_starts state may.1) h
stands_alone g s (Exits t) w may h = exits w.tasks w.chain t may h
stands_alone g s (IsRemoved t) w may h =
    other_state _ w.chain t Exited (runs_later w.tasks w.chain h t may) tt (still w.tasks w.chain h t (λ task. record task { resolution = Some Cancelled }) (λ x. (refl, refl)))
stands_alone g s (Resolves t resolution) w may h = still w.tasks w.chain h t _ (λ x. (refl, refl))
stands_alone g s (IsCancelled t cancellation) w may h = still w.tasks w.chain h t _ (λ x. (refl, refl))
stands_alone g s (HasWord t slot word) w may h = still w.tasks w.chain h t _ (λ x. (refl, refl))
stands_alone g s (HasNewStack t k) w may h = still w.tasks w.chain h t _ (λ x. (refl, refl))
stands_alone g s (HasStack t k) w may h = still w.tasks w.chain h t _ (λ x. (refl, refl))
stands_alone g s (LosesStack t) w may h = still w.tasks w.chain h t _ (λ x. (refl, refl))
stands_alone g s (IsAnswered t words) w may h = still w.tasks w.chain h t _ (λ x. (refl, refl))
stands_alone g s (IsTold t state) w may h = still w.tasks w.chain h t _ (λ x. (refl, refl))
stands_alone g s (IsLent t handle) w may h = still w.tasks w.chain h t _ (λ x. (refl, refl))
stands_alone g s (HasResult t words) w may h = still w.tasks w.chain h t _ (λ x. (refl, refl))
stands_alone g s (MakesChannel kind element) w may h = made_kept Alone (λ v x k. k) (λ v x k. k) kind element w h
stands_alone g s (Offers e call) w may h = channel_kept Alone (λ v x k. k) (λ v x k. k) e.kind e.number _ w h
stands_alone g s (Transfers e size values) w may h = channel_kept Alone (λ v x k. k) (λ v x k. k) e.kind e.number _ _ (channel_kept Alone (λ v x k. k) (λ v x k. k) e.kind e.number _ w h)
stands_alone g s (Concludes e) w may h = channel_kept Alone (λ v x k. k) (λ v x k. k) e.kind e.number _ w h
stands_alone g s (DropsEnd e) w may h = channel_kept Alone (λ v x k. k) (λ v x k. k) e.kind e.number _ w h
stands_alone g s (GoesTo control) w may h = h
stands_alone g s (HasStore store) w may h = h
stands_alone g s SpendsUnit w may h = h
stands_alone g s (UsesPicks picks) w may h = h
stands_alone g s TakesItem w may h = h
stands_alone g s BeginsInstance w may h = h
stands_alone g s (AddsEntry i entry) w may h = h
stands_alone g s (MakesSet i set) w may h = h
stands_alone g s (RemovesEntry i index) w may h = h
stands_alone g s (RemovesWaitable i index) w may h = h
stands_alone g s (LeavesSet i index) w may h = h
stands_alone g s (JoinsSet i index set) w may h = h
stands_alone g s (HasBackpressure i backpressure) w may h = h

-- A task that runs a start function is task 0.
pub begins_alone : (w : World) (t : ℕ) (task : Task) (n : ℕ) → Alone w → IsFirst t w.chain → slice_get w.tasks t ≡ Some task → task.state ≡ world.Begins n → w.chain ≡ 0 ∷ []
begins_alone w zero task n h first there begins = first_zero h.init.state w.chain h.alone first
begins_alone w (suc m) task n h first there begins = absurd (subst StartsNothing begins (h.others m task there))

others_none : (g : Graph) (n : ℕ) (task : Task) → slice_get (new_task Init world.Nobody Acting ∷ []) (suc n) ≡ Some task → StartsNothing task.state
others_none g n task e = cc

-- A change that comes with all that is said where it comes may come.
pub comes_may : (g : Graph) (s : Script) (c : Change) (w : World) → Comes g s c w → MayCome g s c w
comes_may g s (GoesTo control) w may = tt
comes_may g s (HasStore store) w may = tt
comes_may g s SpendsUnit w may = may
comes_may g s (UsesPicks picks) w may = may
comes_may g s TakesItem w may = may.0
comes_may g s BeginsInstance w may = tt
comes_may g s (AddsEntry i entry) w may = (may.0, may.1)
comes_may g s (MakesSet i set) w may = may
comes_may g s (RemovesEntry i index) w may = (may.0, may.1, may.2.0)
comes_may g s (RemovesWaitable i index) w may = (may.0, may.1, may.2.0)
comes_may g s (LeavesSet i index) w may = tt
comes_may g s (JoinsSet i index set) w may = may
comes_may g s (HasBackpressure i backpressure) w may = may
comes_may g s (IsCalled callee call values) w may = (may.0, may.1)
comes_may g s (Calls number callee subtask words) w may = (may.0, may.1, may.2, may.3)
comes_may g s (ComesBack t) w may = may
comes_may g s (Acts t) w may = may.0
comes_may g s (Begins n) w may = may.0
comes_may g s (Cancels t callee number words) w may = (may.0, may.1)
comes_may g s (Blocks t state) w may = (may.0, may.1, may.2)
comes_may g s (Exits t) w may = may.0
comes_may g s (IsRemoved t) w may = may.0
comes_may g s (Resolves t resolution) w may = tt
comes_may g s (IsCancelled t cancellation) w may = tt
comes_may g s (HasWord t slot word) w may = tt
comes_may g s (HasNewStack t k) w may = tt
comes_may g s (HasStack t k) w may = tt
comes_may g s (LosesStack t) w may = tt
comes_may g s (IsAnswered t words) w may = tt
comes_may g s (IsTold t state) w may = tt
comes_may g s (IsLent t handle) w may = tt
comes_may g s (HasResult t words) w may = tt
comes_may g s (MakesChannel kind element) w may = tt
comes_may g s (Offers e call) w may = tt
comes_may g s (Transfers e size values) w may = tt
comes_may g s (Concludes e) w may = tt
comes_may g s (DropsEnd e) w may = tt

-- what control says of the chain, of all that it says
agrees_says : (c : Control) (w : World) → Agrees c w → Says c w.chain
agrees_says Free w h = h
agrees_says (Chosen k) w h = h
agrees_says (Instantiates n) w h = h
agrees_says Runs w h = tt
agrees_says (control.Calls number words) w h = tt
agrees_says Arrives w h = tt
agrees_says (Lowers l plan) w h = tt
agrees_says (Quiet n b) w h = tt
agrees_says Back w h = tt
agrees_says Goes w h = tt
agrees_says Resumes w h = tt
agrees_says (Delivers set receiver pick) w h = tt
agrees_says Leaves w h = tt
agrees_says (Doomed t why) w h = tt

first_writers : WritersStand [] [] []
first_writers = record {
  once = λ i index j other e side a b. (let clash : None ≡ Some (OfEnd e) = a in cc);
  made = λ i index e side a. (let clash : None ≡ Some (OfEnd e) = a in cc);
  live = λ i index e side a. (let clash : None ≡ Some (OfEnd e) = a in cc);
}

pub first_readers : ReadersStand [] [] []
first_readers = record { once = λ i index j other e side a b. (let clash : None ≡ Some (OfEnd e) = a in cc); live = λ i index e side a. (let clash : None ≡ Some (OfEnd e) = a in cc) }

pub first_runs_alone : FirstRunsAlone
first_runs_alone g = (record { init = new_task Init world.Nobody Acting; there = refl; instantiates = refl; alone = refl; others = others_none g }, refl, refl, (λ new. absurd new, tt), first_writers, first_entered g, λ none. first_readers)

init_there : (w : World) → Alone w → TaskIs w.tasks 0 (λ task. task.callee ≡ Init)
init_there w h = (h.init, h.there, h.instantiates)

-- what every change keeps by itself
abbrev pub IsAlone : World → Type 0
IsAlone w = Alone w × EnterUnresolved w.tasks × WritersStandOnce w × HaveEntered w × ReadersPass w

abbrev alone_by_itself : (g : Graph) (s : Script) → Invariant g s
alone_by_itself g s = record {
  Holds = λ marks u. IsAlone u;
  stays = λ marks c u may k. (stands_alone g s c u (comes_may g s c u may) k.0, unresolved_kept g s c u may k.1, writers_kept g s c u may k.2, entered_kept g s c u may k.3, readers_kept g s c u may k.4);
  there = λ marks u k. init_there u k.0;
  alone = λ marks u t task n k. begins_alone u t task n k.0;
  enters = λ marks u t task k there. all_at EntersUnresolved u.tasks t task k.1 there;
  writers = λ marks u k. k.2;
  entered = λ marks u k. k.3;
  readers = λ marks u k. k.4;
}

pub stays_alone : StaysAlone
stays_alone g s w v labels h e =
    let k : IsAlone v × Agrees v.control v = step_keeps (alone_by_itself g s) w v labels h.2 (h.0, h.3, h.4, h.5, h.6) e in
    (k.0.0, agrees_says v.control v k.1, k.1, k.0.1, k.0.2, k.0.3, k.0.4)

-- So writable ends stay in one place.
pub first_has_writers : FirstHasWriters
first_has_writers g = first_writers

pub writers_stay : WritersStayInOnePlace
writers_stay g s w v labels h e = (stays_alone g s w v labels h e).4

-- What every change keeps stays, beside task 0, behind the marks of the lines.
abbrev beside_alone : (g : Graph) (s : Script) (K : List Mark → World → Type 0) → ((marks : List Mark) (c : Change) (w : World) → Comes g s c w → IsAlone w → K marks w → K (marks ++ marks_by c w) (after c w)) → Invariant g s
beside_alone g s K keep = record {
  Holds = λ marks u. Alone u × EnterUnresolved u.tasks × WritersStandOnce u × HaveEntered u × ReadersPass u × K marks u;
  stays = λ marks c u may k. (stands_alone g s c u (comes_may g s c u may) k.0, unresolved_kept g s c u may k.1, writers_kept g s c u may k.2, entered_kept g s c u may k.3, readers_kept g s c u may k.4, keep marks c u may (k.0, k.1, k.2, k.3, k.4) k.5);
  there = λ marks u k. init_there u k.0;
  alone = λ marks u t task n k. begins_alone u t task n k.0;
  enters = λ marks u t task k there. all_at EntersUnresolved u.tasks t task k.1 there;
  writers = λ marks u k. k.2;
  entered = λ marks u k. k.3;
  readers = λ marks u k. k.4;
}

pub marked_so : (g : Graph) (s : Script) (K : List Mark → World → Type 0) → ((marks : List Mark) (c : Change) (w : World) → Comes g s c w → IsAlone w → K marks w → K (marks ++ marks_by c w) (after c w))
    → (w v : World) (labels : List Label) → RunsAlone w → K [] w → next g s w ≡ Steps labels v → K (marks_of labels) v
marked_so g s K keep w v labels alone h e = (step_keeps (beside_alone g s K keep) w v labels alone.2 (alone.0, alone.3, alone.4, alone.5, alone.6, h) e).0.5

pub kept_so : (g : Graph) (s : Script) (K : World → Type 0) → ((c : Change) (w : World) → Comes g s c w → K w → K (after c w)) → (w v : World) (labels : List Label) → RunsAlone w → K w
    → next g s w ≡ Steps labels v → K v
kept_so g s K keep w v labels alone h e = marked_so g s (λ marks u. K u) (λ marks c u may alone k. keep c u may k) w v labels alone h e

pub kept_alone : (g : Graph) (s : Script) (K : World → Type 0) → ((c : Change) (w : World) → MayCome g s c w → K w → K (after c w)) → (w v : World) (labels : List Label) → RunsAlone w → K w
    → next g s w ≡ Steps labels v → K v
kept_alone g s K keep w v labels alone h e = kept_so g s K (λ c u may k. keep c u (comes_may g s c u may) k) w v labels alone h e
