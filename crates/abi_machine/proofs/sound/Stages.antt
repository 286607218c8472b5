-- Tasks go on: each stays the task of its number, and goes back behind neither its entry, nor its resolution, nor its exit.
use Rattle.std.proofs.Common.{◌≡◌, inl, inr, ℕ, List, [], ◌∷◌, ◌++◌, length, refl, sym, ap, ◌∙◌, subst, Option, Some, None}
use Rattle.std.specs.Prelude.{IsSome}
use Rattle.std.specs.List.{slice_get}
use Rattle.tasks.specs.declared.phase.Resolution.{Resolution}
use Rattle.tasks.specs.declared.phase.Resolution.TheVariants.{Cancelled}
use Rattle.tasks.specs.declared.phase.Cancellation.TheVariants.{Asked}
use Rattle.comp_graph.specs.Graph.{Graph}
use Rattle.script_reader.specs.Script.{Script}
use Rattle.abi_machine.specs.World.{Subtask, Caller, Nobody, Host, Guest, TaskState, New, Acting, AfterCall, AfterCancel, WaitsToEnter, InLoop, InBuiltin, Exited, Task, World, new_task}
use Rattle.abi_machine.specs.World as world
use Rattle.tasks.specs.Subtasks.{delivered, with_lend}
use Rattle.abi_machine.specs.Edits.{changed_at, caller_changed, by_view}
use Rattle.abi_machine.specs.sound.Changes.{Change, GoesTo, HasStore, SpendsUnit, UsesPicks, TakesItem, BeginsInstance, AddsEntry, MakesSet, RemovesEntry, RemovesWaitable, LeavesSet, JoinsSet, HasBackpressure, IsCalled, Calls, ComesBack, Acts, Begins, Cancels, Blocks, Exits, IsRemoved, Resolves, IsCancelled, HasWord, HasNewStack, HasStack, LosesStack, IsAnswered, IsTold, IsLent, HasResult, MakesChannel, Offers, Transfers, Concludes, DropsEnd, after, IsFirst, IsBlocked, MayCome}
use Rattle.abi_machine.specs.sound.Premises.{BlocksFrom, MayResolve, Comes}
use Rattle.abi_machine.specs.sound.Chain.{states_of, IsAt, IsThere, StandOver, IsChained}
use Rattle.abi_machine.specs.sound.Entering.{HasNotEntered, IsBehindEntry}
use Rattle.abi_machine.specs.sound.Exiting.{HasExited}
use Rattle.abi_machine.specs.sound.Firsts.{TaskIs}
use Rattle.abi_machine.specs.sound.Stages.{IsSameCaller, TasksGoOn}
use Rattle.abi_machine.proofs.sound.Lists.{get_front}
use Rattle.abi_machine.proofs.sound.Found.{some_same}
use Rattle.abi_machine.proofs.sound.Acted.{changed_where, one_task}
use Rattle.abi_machine.proofs.sound.Aside.{channel_kept, made_kept}
use Rattle.abi_machine.proofs.sound.Alone.{kept_so}
use Rattle.abi_machine.proofs.sound.Chained.{state_there}
use Rattle.abi_machine.proofs.sound.Ordered.{in_order}
use Rattle.abi_machine.proofs.sound.acts.Keeping.{Order}
use Rattle.abi_machine.proofs.sound.acts.Turning.{step_ordered}

task_where : (tasks : List Task) (u t : ℕ) (f : Task → Task) (P : Task → Type 0) → ((x : Task) → u ≡ t → slice_get tasks u ≡ Some x → P x → P (f x)) → TaskIs tasks t P → TaskIs (changed_at u f tasks) t P
task_where tasks u t f P keeps h = elim (changed_where u f tasks t h.0 h.1) [
  | inl old ↦ (h.0, old, h.2)
  | inr new ↦ (f h.0, new.1, keeps h.0 (sym new.0) (ap (slice_get tasks) (sym new.0) ∙ h.1) h.2)
]

task_more : (tasks : List Task) (new : Task) (t : ℕ) (P : Task → Type 0) → TaskIs tasks t P → TaskIs (tasks ++ new ∷ []) t P
task_more tasks new t P h = (h.0, get_front tasks new t h.0 h.1, h.2)

-- By where a change comes: the callee, the entry and the resolution.
abbrev Stays : Task → Task → Type 0
Stays before x =
    (x.callee ≡ before.callee) × (IsBehindEntry before → IsBehindEntry x) × (IsSome before.resolution → x.resolution ≡ before.resolution) × IsSameCaller before.caller x.caller

same_self : (a : Caller) → IsSameCaller a a
same_self Nobody = refl
same_self (Host call values) = refl
same_self (Guest subtask) = (subtask, refl, refl, refl, refl)

-- the caller's side is changed
edited : (before a : Caller) (f : Subtask → Subtask) → ((x : Subtask) → (f x).by ≡ x.by) → ((x : Subtask) → (f x).canon ≡ x.canon) → ((x : Subtask) → (f x).words ≡ x.words) → IsSameCaller before a
    → IsSameCaller before (caller_changed f a)
edited Nobody a f by canon words k = ap (caller_changed f) k
edited (Host call values) a f by canon words k = ap (caller_changed f) k
edited (Guest subtask) a f by canon words k = (f k.0, ap (caller_changed f) k.1, by k.0 ∙ k.2, canon k.0 ∙ k.3, words k.0 ∙ k.4)

side_stays : (before x : Task) (f : Subtask → Subtask) → ((y : Subtask) → (f y).by ≡ y.by) → ((y : Subtask) → (f y).canon ≡ y.canon) → ((y : Subtask) → (f y).words ≡ y.words) → Stays before x
    → Stays before (record x { caller = caller_changed f x.caller })
side_stays before x f by canon words k = (k.0, k.1, k.2, edited before.caller x.caller f by canon words k.3)

-- the state alone is changed
stated : (before x : Task) (state : TaskState) → (IsBehindEntry x → HasNotEntered state → ⊥) → Stays before x → Stays before (record x { state = state })
stated before x state behind k = (k.0, λ entered. behind (k.1 entered), k.2, k.3)

blocked : (before x : Task) (state : TaskState) → IsBlocked state → BlocksFrom state x → Stays before x → Stays before (record x { state = state })
blocked before x WaitsToEnter is from k = stated before x WaitsToEnter (λ entered new. entered (subst HasNotEntered (sym from) tt)) k
blocked before x New is from k = absurd is
blocked before x Acting is from k = absurd is
blocked before x (AfterCall callee number words) is from k = absurd is
blocked before x (AfterCancel callee number words) is from k = absurd is
blocked before x (world.Begins n) is from k = absurd is
blocked before x (InLoop word) is from k = stated before x (InLoop word) (λ entered new. new) k
blocked before x (InBuiltin number words wait) is from k = stated before x (InBuiltin number words wait) (λ entered new. new) k
blocked before x Exited is from k = absurd is

-- It had not resolved.
resolved_so : (before x : Task) (resolution : Resolution) → x.resolution ≡ None → Stays before x → Stays before (record x { resolution = Some resolution })
resolved_so before x resolution none k =
    (k.0, k.1, (λ some. absurd (none_is (before.resolution) (sym (k.2 some) ∙ none) some)), k.3)
  where
    none_is : (o : Option Resolution) → o ≡ None → IsSome o → ⊥
    none_is None e some = cc
    none_is (Some r) e some = cc

module _ (t : ℕ) (before : Task) where
  abbrev Still : World → Type 0
  Still w = TaskIs w.tasks t (Stays before)

  same_still : (tasks : List Task) (u : ℕ) (f : Task → Task) → ((x : Task) → Stays before x → Stays before (f x)) → TaskIs tasks t (Stays before) → TaskIs (changed_at u f tasks) t (Stays before)
  same_still tasks u f keeps h = task_where tasks u t f (Stays before) (λ x at there k. keeps x k) h

  state_still : (tasks : List Task) (u : ℕ) (state : TaskState) → (HasNotEntered state → ⊥) → TaskIs tasks t (Stays before) → TaskIs (changed_at u (λ task. record task { state = state }) tasks) t (Stays before)
  state_still tasks u state behind h = same_still tasks u (λ task. record task { state = state }) (λ x k. stated before x state (λ entered new. behind new) k) h

  still_kept : (g : Graph) (s : Script) (a : Change) (w : World) → Comes g s a w → Still w → Still (after a w)
  still_kept g s (IsCalled callee call values) w may h = task_more w.tasks (new_task callee (Host call values) New) t (Stays before) h
  still_kept g s (Calls n callee subtask words) w may h = task_more _ (new_task callee (Guest subtask) New) t (Stays before) (state_still w.tasks subtask.by (AfterCall (length w.tasks) n words) (λ new. new) h)
  still_kept g s (Acts u) w may h = state_still w.tasks u Acting (λ new. new) h
  still_kept g s (Begins n) w may h = state_still w.tasks 0 (world.Begins n) (λ new. new) h
  still_kept g s (Cancels u callee n words) w may h = state_still w.tasks u (AfterCancel callee n words) (λ new. new) h
  still_kept g s (Blocks u state) w may h =
      task_where w.tasks u t (λ task. record task { state = state }) (Stays before) (λ x at there k. blocked before x state may.1 (one_task w.tasks u (BlocksFrom state) x there may.3) k) h
  still_kept g s (Exits u) w may h = state_still w.tasks u Exited (λ new. new) h
  still_kept g s (IsRemoved u) w may h =
      state_still _ u Exited (λ new. new)
      (task_where w.tasks u t (λ task. record task { resolution = Some Cancelled }) (Stays before)
      (λ x at there k. resolved_so before x Cancelled (one_task w.tasks u (λ y. y.resolution ≡ None) x there (may.1.0, may.1.1, may.1.2.1)) k) h)
  still_kept g s (Resolves u resolution) w may h =
      task_where w.tasks u t (λ task. record task { resolution = Some resolution }) (Stays before)
      (λ x at there k. resolved_so before x resolution (one_task w.tasks u (MayResolve resolution) x there may.0).1 k) h
  still_kept g s (IsCancelled u cancellation) w may h = same_still w.tasks u _ (λ x k. k) h
  still_kept g s (HasWord u slot word) w may h = same_still w.tasks u _ (λ x k. k) h
  still_kept g s (HasNewStack u k) w may h = same_still w.tasks u _ (λ x k. k) h
  still_kept g s (HasStack u k) w may h = same_still w.tasks u _ (λ x k. k) h
  still_kept g s (LosesStack u) w may h = same_still w.tasks u _ (λ x k. k) h
  still_kept g s (IsAnswered u words) w may h = same_still w.tasks u _ (λ x k. k) h
  still_kept g s (IsTold u state) w may h =
      same_still w.tasks u (λ task. record task { caller = caller_changed (by_view delivered u state) task.caller }) (λ x k. side_stays before x (by_view delivered u state) (λ y. refl) (λ y. refl) (λ y. refl) k) h
  still_kept g s (IsLent u handle) w may h =
      same_still w.tasks u (λ task. record task { caller = caller_changed (λ subtask. by_view (with_lend handle) u subtask.told subtask) task.caller })
      (λ x k. side_stays before x (λ subtask. by_view (with_lend handle) u subtask.told subtask) (λ y. refl) (λ y. refl) (λ y. refl) k) h
  still_kept g s (HasResult u words) w may h =
      same_still w.tasks u (λ task. record task { caller = caller_changed (λ subtask. record subtask { result = words }) task.caller })
      (λ x k. side_stays before x (λ subtask. record subtask { result = words }) (λ y. refl) (λ y. refl) (λ y. refl) k) h
  still_kept g s (MakesChannel kind element) w may h = made_kept Still (λ v x k. k) (λ v x k. k) kind element w h
  still_kept g s (Offers e call) w may h = channel_kept Still (λ v x k. k) (λ v x k. k) e.kind e.number _ w h
  still_kept g s (Transfers e size values) w may h = channel_kept Still (λ v x k. k) (λ v x k. k) e.kind e.number _ _ (channel_kept Still (λ v x k. k) (λ v x k. k) e.kind e.number _ w h)
  still_kept g s (Concludes e) w may h = channel_kept Still (λ v x k. k) (λ v x k. k) e.kind e.number _ w h
  still_kept g s (DropsEnd e) w may h = channel_kept Still (λ v x k. k) (λ v x k. k) e.kind e.number _ w h
  still_kept g s (GoesTo control) w may h = h
  still_kept g s (HasStore store) w may h = h
  still_kept g s SpendsUnit w may h = h
  still_kept g s (UsesPicks picks) w may h = h
  still_kept g s TakesItem w may h = h
  still_kept g s BeginsInstance w may h = h
  still_kept g s (AddsEntry i entry) w may h = h
  still_kept g s (MakesSet i set) w may h = h
  still_kept g s (RemovesEntry i index) w may h = h
  still_kept g s (RemovesWaitable i index) w may h = h
  still_kept g s (LeavesSet i index) w may h = h
  still_kept g s (JoinsSet i index set) w may h = h
  still_kept g s (HasBackpressure i pressure) w may h = h
  still_kept g s (ComesBack u) w may h = h

-- By the chain: the first task has not exited, so what it does makes none act that has.
first_left : (w : World) (u : ℕ) → IsChained w → IsFirst u w.chain → TaskIs w.tasks u (λ task. HasExited task.state) → ⊥
first_left w u chained first gone = by w.chain first chained.standing
  where
    both : (state : TaskState) → IsThere state → HasExited state → ⊥
    both New is left = left
    both Acting is left = left
    both (AfterCall callee number words) is left = left
    both (AfterCancel callee number words) is left = left
    both (world.Begins n) is left = left
    both WaitsToEnter is left = left
    both (InLoop word) is left = left
    both (InBuiltin number words wait) is left = left
    both Exited is left = is

    by : (chain : List ℕ) → IsFirst u chain → StandOver (states_of w.tasks) chain → ⊥
    by [] e over = cc
    by (x ∷ below) e over =
        let at : IsAt (states_of w.tasks) u IsThere = subst (λ (n : ℕ). IsAt (states_of w.tasks) n IsThere) (some_same e) over.0 in
        let same : at.0 ≡ gone.0.state = some_same (sym at.1 ∙ state_there w.tasks u gone.0 gone.1) in
        both gone.0.state (subst IsThere same at.2) gone.2

module _ (t : ℕ) where
  abbrev Gone : World → Type 0
  Gone w = TaskIs w.tasks t (λ task. HasExited task.state)

  abbrev GoneIn : List Task → Type 0
  GoneIn tasks = TaskIs tasks t (λ task. HasExited task.state)

  same_gone : (tasks : List Task) (u : ℕ) (f : Task → Task) → ((x : Task) → (f x).state ≡ x.state) → GoneIn tasks → GoneIn (changed_at u f tasks)
  same_gone tasks u f same h = task_where tasks u t f (λ task. HasExited task.state) (λ x at there k. subst HasExited (sym (same x)) k) h

  -- another one than the task
  other_gone : (w : World) (u : ℕ) (f : Task → Task) → IsChained w → IsFirst u w.chain → Gone w → GoneIn (changed_at u f w.tasks)
  other_gone w u f chained first h = task_where w.tasks u t f (λ task. HasExited task.state) (λ x at there k. absurd (first_left w u chained first (x, there, k))) h

  removed_gone : (tasks : List Task) (u : ℕ) → GoneIn tasks → GoneIn (changed_at u (λ task. record task { state = Exited }) (changed_at u (λ task. record task { resolution = Some Cancelled }) tasks))
  removed_gone tasks u h =
      task_where _ u t (λ task. record task { state = Exited }) (λ task. HasExited task.state) (λ x at there k. tt) (same_gone tasks u (λ task. record task { resolution = Some Cancelled }) (λ x. refl) h)

  gone_kept : (g : Graph) (s : Script) (a : Change) (w : World) → MayCome g s a w → IsChained w → Gone w → Gone (after a w)
  gone_kept g s (IsCalled callee call values) w may c h = task_more w.tasks (new_task callee (Host call values) New) t (λ task. HasExited task.state) h
  gone_kept g s (Calls n callee subtask words) w may c h = task_more _ (new_task callee (Guest subtask) New) t (λ task. HasExited task.state) (other_gone w subtask.by (λ task. record task { state = AfterCall (length w.tasks) n words }) c may.2 h)
  gone_kept g s (Acts u) w may c h = other_gone w u _ c may h
  gone_kept g s (Begins n) w may c h = other_gone w 0 _ c may h
  gone_kept g s (Cancels u callee n words) w may c h = other_gone w u _ c may.0 h
  gone_kept g s (Blocks u state) w may c h = other_gone w u _ c may.0 h
  gone_kept g s (Exits u) w may c h = other_gone w u _ c may h
  gone_kept g s (IsRemoved u) w may c h = removed_gone w.tasks u h
  gone_kept g s (Resolves u resolution) w may c h = same_gone w.tasks u _ (λ x. refl) h
  gone_kept g s (IsCancelled u cancellation) w may c h = same_gone w.tasks u _ (λ x. refl) h
  gone_kept g s (HasWord u slot word) w may c h = same_gone w.tasks u _ (λ x. refl) h
  gone_kept g s (HasNewStack u k) w may c h = same_gone w.tasks u _ (λ x. refl) h
  gone_kept g s (HasStack u k) w may c h = same_gone w.tasks u _ (λ x. refl) h
  gone_kept g s (LosesStack u) w may c h = same_gone w.tasks u _ (λ x. refl) h
  gone_kept g s (IsAnswered u words) w may c h = same_gone w.tasks u _ (λ x. refl) h
  gone_kept g s (IsTold u state) w may c h = same_gone w.tasks u _ (λ x. refl) h
  gone_kept g s (IsLent u handle) w may c h = same_gone w.tasks u _ (λ x. refl) h
  gone_kept g s (HasResult u words) w may c h = same_gone w.tasks u _ (λ x. refl) h
  gone_kept g s (MakesChannel kind element) w may c h = made_kept Gone (λ v x k. k) (λ v x k. k) kind element w h
  gone_kept g s (Offers e call) w may c h = channel_kept Gone (λ v x k. k) (λ v x k. k) e.kind e.number _ w h
  gone_kept g s (Transfers e size values) w may c h = channel_kept Gone (λ v x k. k) (λ v x k. k) e.kind e.number _ _ (channel_kept Gone (λ v x k. k) (λ v x k. k) e.kind e.number _ w h)
  gone_kept g s (Concludes e) w may c h = channel_kept Gone (λ v x k. k) (λ v x k. k) e.kind e.number _ w h
  gone_kept g s (DropsEnd e) w may c h = channel_kept Gone (λ v x k. k) (λ v x k. k) e.kind e.number _ w h
  gone_kept g s (GoesTo control) w may c h = h
  gone_kept g s (HasStore store) w may c h = h
  gone_kept g s SpendsUnit w may c h = h
  gone_kept g s (UsesPicks picks) w may c h = h
  gone_kept g s TakesItem w may c h = h
  gone_kept g s BeginsInstance w may c h = h
  gone_kept g s (AddsEntry i entry) w may c h = h
  gone_kept g s (MakesSet i set) w may c h = h
  gone_kept g s (RemovesEntry i index) w may c h = h
  gone_kept g s (RemovesWaitable i index) w may c h = h
  gone_kept g s (LeavesSet i index) w may c h = h
  gone_kept g s (JoinsSet i index set) w may c h = h
  gone_kept g s (HasBackpressure i pressure) w may c h = h
  gone_kept g s (ComesBack u) w may c h = h

  unfoldable still_gone : (g : Graph) (s : Script) → Order g s
  still_gone g s = (let o : Order g s = in_order g s in record {
    Holds = λ w. o.Holds w × Gone w;
    alone = λ w h. o.alone w h.0;
    chained = λ w h. o.chained w h.0;
    stacked = λ w h. o.stacked w h.0;
    stays = λ c w may besides h. (o.stays c w may besides h.0, gone_kept g s c w may (o.chained w h.0) h.1);
    comes = λ u w task there runs is idle h. (o.comes u w task there runs is idle h.0, h.1);
    removed = λ u w task there runs waits idle h. (o.removed u w task there runs waits idle h.0, removed_gone w.tasks u h.1);
    comes_asked = λ u callee number words w task a free there runs is h. (
      o.comes_asked u callee number words w task a free there runs is h.0,
      same_gone (after (Cancels u callee number words) w).tasks callee (λ x. record x { cancellation = Asked }) (λ x. refl) (gone_kept g s (Cancels u callee number words) w (a.0, free) (o.chained w h.0) h.1),
    );
    removed_asked = λ u callee number words w task a free there runs waits h. (
      o.removed_asked u callee number words w task a free there runs waits h.0,
      removed_gone (after (Cancels u callee number words) w).tasks callee (gone_kept g s (Cancels u callee number words) w (a.0, free) (o.chained w h.0) h.1),
    );
  })

pub tasks_go_on : TasksGoOn
unfolding in_order still_gone
tasks_go_on g s w v labels alone o e t task there =
    let still : TaskIs v.tasks t (Stays task) =
    kept_so g s (Still t task) (still_kept t task g s) w v labels alone (task, there, (refl, (λ entered. entered), (λ some. refl), same_self task.caller)) e in (
      still.0,
      still.1,
      (record {
        callee = still.2.0;
        caller = still.2.3;
        entered = still.2.1;
        resolved = still.2.2;
        exited = λ gone.
            one_task v.tasks t (λ x. HasExited x.state) still.0 still.1 (step_ordered (still_gone t g s) w v labels alone.1 o.2 ((alone.0, o.0, o.1), (task, there, gone)) e).0.1;
      }),
    )
