-- Tasks that wait for one that they called.
use Rattle.std.proofs.Common.{◌≡◌, inl, inr, ℕ, zero, suc, List, [], ◌∷◌, ◌++◌, length, refl, sym, ap, ◌∙◌, subst, Some}
use Rattle.std.specs.Prelude.{IsSome}
use Rattle.std.specs.List.{slice_get}
use Rattle.comp_graph.specs.Graph.{Graph}
use Rattle.script_reader.specs.Script.{Script}
use Rattle.tasks.specs.Subtasks.{delivered, with_lend}
use Rattle.tasks.specs.declared.phase.Cancellation.TheVariants.{Asked}
use Rattle.tasks.specs.declared.phase.Resolution.TheVariants.{Cancelled}
use Rattle.abi_machine.specs.World.{Init, Subtask, Caller, Nobody, Host, Guest, Wait, ForYield, ForSet, ForCall, ForCopy, ForCancel, TaskState, New, Acting, AfterCall, AfterCancel, WaitsToEnter, InLoop, InBuiltin, Exited, Task, World, new_task}
use Rattle.abi_machine.specs.World as world
use Rattle.abi_machine.specs.Edits.{changed_at, caller_changed, by_view}
use Rattle.abi_machine.specs.Reading.{subtask_of}
use Rattle.abi_machine.specs.sound.Changes.{Change, GoesTo, HasStore, SpendsUnit, UsesPicks, TakesItem, BeginsInstance, AddsEntry, MakesSet, RemovesEntry, RemovesWaitable, LeavesSet, JoinsSet, HasBackpressure, IsCalled, Calls, ComesBack, Acts, Begins, Cancels, Blocks, Exits, IsRemoved, Resolves, IsCancelled, HasWord, HasNewStack, HasStack, LosesStack, IsAnswered, IsTold, IsLent, HasResult, MakesChannel, Offers, Transfers, Concludes, DropsEnd, after, IsBlocked, MayCome}
use Rattle.abi_machine.specs.sound.Acting.{Outline}
use Rattle.abi_machine.specs.sound.Called.{IsCalledBy, Called, HasCalled, HaveCalled, FirstHasCalled, CalledStay, CalledBy, OneWaits}
use Rattle.abi_machine.proofs.sound.Lists.{more_either, get_front}
use Rattle.abi_machine.proofs.sound.Found.{some_same, changed_kept}
use Rattle.abi_machine.proofs.sound.Aside.{channel_kept, made_kept}
use Rattle.abi_machine.proofs.sound.Chained.{no_first, changed_here, last_there}
use Rattle.abi_machine.proofs.sound.Outlines.{outline_back}
use Rattle.abi_machine.proofs.sound.acts.Keeping.{BlocksAs, Besides, Order}
use Rattle.abi_machine.proofs.sound.acts.Turning.{step_ordered}
use Rattle.abi_machine.proofs.sound.Ordered.{in_order}

-- what a change of a task leaves alone: who called it, and by what
abbrev KeepsCaller : (Task → Task) → Type 0
KeepsCaller f = (t number : ℕ) (x : Task) → IsCalledBy t number x → IsCalledBy t number (f x)

same_caller : (f : Task → Task) → ((x : Task) → (f x).caller ≡ x.caller) → KeepsCaller f
same_caller f same t number x h = (h.0, ap subtask_of (same x) ∙ h.1, h.2, h.3)

by_subtask : (f : Subtask → Subtask) → ((x : Subtask) → ((f x).by ≡ x.by) × ((f x).canon ≡ x.canon)) → KeepsCaller (λ x. record x { caller = caller_changed f x.caller })
by_subtask f same t number x h = of x.caller h
  where
    of : (c : Caller) → ((subtask : Subtask) × (subtask_of c ≡ Some subtask) × (subtask.by ≡ t) × (subtask.canon ≡ number))
        → (subtask : Subtask) × (subtask_of (caller_changed f c) ≡ Some subtask) × (subtask.by ≡ t) × (subtask.canon ≡ number)
    of Nobody k = cc
    of (Host call values) k = cc
    of (Guest subtask) k =
        let here : subtask ≡ k.0 = some_same k.1 in
        (f subtask, refl, (same subtask).0 ∙ (ap (λ (y : Subtask). y.by) here ∙ k.2), (same subtask).1 ∙ (ap (λ (y : Subtask). y.canon) here ∙ k.3))

called_changed : (tasks : List Task) (u : ℕ) (f : Task → Task) → KeepsCaller f → (t number callee : ℕ) → Called tasks t number callee → Called (changed_at u f tasks) t number callee
called_changed tasks u f keeps t number callee h = elim (changed_kept u f tasks callee h.0 h.1) [
  | inl e ↦ (h.0, e, h.2)
  | inr e ↦ (f h.0, e, keeps t number h.0 h.2)
]

called_more : (tasks : List Task) (new : Task) (t number callee : ℕ) → Called tasks t number callee → Called (tasks ++ new ∷ []) t number callee
called_more tasks new t number callee h = (h.0, get_front tasks new callee h.0 h.1, h.2)

-- what a state says of other tasks
has_called : (tasks others : List Task) (t : ℕ) → ((number callee : ℕ) → Called tasks t number callee → Called others t number callee) → (state : TaskState) → HasCalled tasks t state → HasCalled others t state
has_called tasks others t keeps New h = tt
has_called tasks others t keeps Acting h = tt
has_called tasks others t keeps (AfterCall callee number words) h = keeps number callee h
has_called tasks others t keeps (AfterCancel callee number words) h = tt
has_called tasks others t keeps (world.Begins n) h = tt
has_called tasks others t keeps WaitsToEnter h = tt
has_called tasks others t keeps (InLoop word) h = tt
has_called tasks others t keeps (InBuiltin number words ForYield) h = tt
has_called tasks others t keeps (InBuiltin number words (ForSet index)) h = tt
has_called tasks others t keeps (InBuiltin number words (ForCall callee)) h = keeps number callee h
has_called tasks others t keeps (InBuiltin number words (ForCopy index)) h = tt
has_called tasks others t keeps (InBuiltin number words (ForCancel index)) h = tt
has_called tasks others t keeps Exited h = tt

-- A task is changed, so that what its state says holds, and one is added.
one_changed : (tasks : List Task) (u : ℕ) (f : Task → Task) → KeepsCaller f → ((x : Task) → slice_get tasks u ≡ Some x → HasCalled tasks u x.state → HasCalled (changed_at u f tasks) u (f x).state) → HaveCalled tasks
    → HaveCalled (changed_at u f tasks)
one_changed tasks u f keeps says h t task e = elim (changed_here u f tasks t task e) [
  | inl o ↦ subst (λ (n : ℕ). HasCalled (changed_at u f tasks) n task.state) (sym o.0)
      (subst (λ (x : Task). HasCalled (changed_at u f tasks) u x.state) (sym o.1.2) (says o.1.0 o.1.1 (h u o.1.0 o.1.1)))
  | inr old ↦ has_called tasks (changed_at u f tasks) t (λ number callee k. called_changed tasks u f keeps t number callee k) task.state (h t task old)
]

one_more : (tasks : List Task) (new : Task) → HasCalled (tasks ++ new ∷ []) (length tasks) new.state → HaveCalled tasks → HaveCalled (tasks ++ new ∷ [])
one_more tasks new says h t task e = elim (more_either tasks new t task e) [
  | inl old ↦ has_called tasks (tasks ++ new ∷ []) t (λ number callee k. called_more tasks new t number callee k) task.state (h t task old)
  | inr last ↦ subst (λ (n : ℕ). HasCalled (tasks ++ new ∷ []) n task.state) (sym last.0) (subst (λ (x : Task). HasCalled (tasks ++ new ∷ []) (length tasks) x.state) (sym last.1) says)
]

-- a change that leaves states alone, and one of a state
beside : (tasks : List Task) (u : ℕ) (f : Task → Task) → KeepsCaller f → ((x : Task) → (f x).state ≡ x.state) → HaveCalled tasks → HaveCalled (changed_at u f tasks)
beside tasks u f keeps same h =
    one_changed tasks u f keeps (λ x there k.
    subst (HasCalled (changed_at u f tasks) u) (sym (same x)) (has_called tasks (changed_at u f tasks) u (λ number callee i. called_changed tasks u f keeps u number callee i) x.state k)) h

untouched : (tasks : List Task) (u : ℕ) (f : Task → Task) → ((x : Task) → (f x).caller ≡ x.caller) → ((x : Task) → (f x).state ≡ x.state) → HaveCalled tasks → HaveCalled (changed_at u f tasks)
untouched tasks u f callers states h = beside tasks u f (same_caller f callers) states h

in_state_called : (tasks : List Task) (u : ℕ) (state : TaskState) → HasCalled (changed_at u (λ task. record task { state = state }) tasks) u state → HaveCalled tasks
    → HaveCalled (changed_at u (λ task. record task { state = state }) tasks)
in_state_called tasks u state says h = one_changed tasks u (λ task. record task { state = state }) (same_caller (λ task. record task { state = state }) (λ x. refl)) (λ x there k. says) h

changed_front : {A : Type 0} (xs ys : List A) (n : ℕ) (f : A → A) → IsSome (slice_get xs n) → changed_at n f (xs ++ ys) ≡ changed_at n f xs ++ ys
changed_front [] ys n f h = cc
changed_front (x ∷ xs) ys zero f h = refl
changed_front (x ∷ xs) ys (suc n) f h = ap (λ (l : List _). x ∷ l) (changed_front xs ys n f h)

-- A task blocks.
block_says : (w : World) (t : ℕ) (state : TaskState) → IsBlocked state → BlocksAs t state w → HaveCalled w.tasks → HasCalled (changed_at t (λ task. record task { state = state }) w.tasks) t state
block_says w t New is b h = tt
block_says w t Acting is b h = tt
block_says w t (AfterCall callee number words) is b h = absurd is
block_says w t (AfterCancel callee number words) is b h = tt
block_says w t (world.Begins n) is b h = tt
block_says w t WaitsToEnter is b h = tt
block_says w t (InLoop word) is b h = tt
block_says w t (InBuiltin number words ForYield) is b h = tt
block_says w t (InBuiltin number words (ForSet index)) is b h = tt
block_says w t (InBuiltin number words (ForCall callee)) is b h =
    let f : Task → Task = λ task. record task { state = InBuiltin number words (ForCall callee) } in
    let x = outline_back w.tasks t b.1.0 b.1.1 in
    called_changed w.tasks t f (same_caller f (λ y. refl)) t number callee (subst (HasCalled w.tasks t) (ap (λ (o : Outline). o.state) x.2 ∙ b.1.2) (h t x.0 x.1))
block_says w t (InBuiltin number words (ForCopy index)) is b h = tt
block_says w t (InBuiltin number words (ForCancel index)) is b h = tt
block_says w t Exited is b h = tt

abbrev HasCalls : World → Type 0
HasCalls w = HaveCalled w.tasks

calls_kept : (g : Graph) (s : Script) (c : Change) (w : World) → MayCome g s c w → Besides g c w → HasCalls w → HasCalls (after c w)
calls_kept g s (IsCalled callee call values) w may besides h = one_more w.tasks (new_task callee (Host call values) New) tt h
calls_kept g s (Calls number callee subtask words) w may besides h =
    let new : Task = new_task callee (Guest subtask) New in
    let state : TaskState = AfterCall (length w.tasks) number words in
    let f : Task → Task = λ task. record task { state = state } in
    let keeps : KeepsCaller f = same_caller f (λ x. refl) in
    subst HaveCalled (changed_front w.tasks (new ∷ []) subtask.by f may.1)
    (in_state_called (w.tasks ++ new ∷ []) subtask.by state
    (called_changed (w.tasks ++ new ∷ []) subtask.by f keeps subtask.by number (length w.tasks) (new, last_there w.tasks new, (subtask, refl, refl, besides.0))) (one_more w.tasks new tt h))
calls_kept g s (ComesBack t) w may besides h = h
calls_kept g s (Acts t) w may besides h = in_state_called w.tasks t Acting tt h
calls_kept g s (Begins n) w may besides h = in_state_called w.tasks 0 (world.Begins n) tt h
calls_kept g s (Cancels t callee number words) w may besides h = in_state_called w.tasks t (AfterCancel callee number words) tt h
calls_kept g s (Blocks t state) w may besides h = in_state_called w.tasks t state (block_says w t state may.1 besides.0 h) h
calls_kept g s (Exits t) w may besides h = in_state_called w.tasks t Exited tt h
calls_kept g s (IsRemoved t) w may besides h = absurd besides
calls_kept g s (Resolves t resolution) w may besides h = untouched w.tasks t _ (λ x. refl) (λ x. refl) h
calls_kept g s (IsCancelled t cancellation) w may besides h = untouched w.tasks t _ (λ x. refl) (λ x. refl) h
calls_kept g s (HasWord t slot word) w may besides h = untouched w.tasks t _ (λ x. refl) (λ x. refl) h
calls_kept g s (HasNewStack t k) w may besides h = untouched w.tasks t _ (λ x. refl) (λ x. refl) h
calls_kept g s (HasStack t k) w may besides h = untouched w.tasks t _ (λ x. refl) (λ x. refl) h
calls_kept g s (LosesStack t) w may besides h = untouched w.tasks t _ (λ x. refl) (λ x. refl) h
calls_kept g s (IsAnswered t words) w may besides h = untouched w.tasks t _ (λ x. refl) (λ x. refl) h
calls_kept g s (IsTold t state) w may besides h = beside w.tasks t _ (by_subtask (by_view delivered t state) (λ x. (refl, refl))) (λ x. refl) h
calls_kept g s (IsLent t handle) w may besides h = beside w.tasks t _ (by_subtask (λ subtask. by_view (with_lend handle) t subtask.told subtask) (λ x. (refl, refl))) (λ x. refl) h
calls_kept g s (HasResult t words) w may besides h = beside w.tasks t _ (by_subtask (λ subtask. record subtask { result = words }) (λ x. (refl, refl))) (λ x. refl) h
calls_kept g s (MakesChannel kind element) w may besides h = made_kept HasCalls (λ v x k. k) (λ v x k. k) kind element w h
calls_kept g s (Offers e call) w may besides h = channel_kept HasCalls (λ v x k. k) (λ v x k. k) e.kind e.number _ w h
calls_kept g s (Transfers e size values) w may besides h =
    channel_kept HasCalls (λ v x k. k) (λ v x k. k) e.kind e.number _ _ (channel_kept HasCalls (λ v x k. k) (λ v x k. k) e.kind e.number _ w h)
calls_kept g s (Concludes e) w may besides h = channel_kept HasCalls (λ v x k. k) (λ v x k. k) e.kind e.number _ w h
calls_kept g s (DropsEnd e) w may besides h = channel_kept HasCalls (λ v x k. k) (λ v x k. k) e.kind e.number _ w h
calls_kept g s (GoesTo control) w may besides h = h
calls_kept g s (HasStore store) w may besides h = h
calls_kept g s SpendsUnit w may besides h = h
calls_kept g s (UsesPicks picks) w may besides h = h
calls_kept g s TakesItem w may besides h = h
calls_kept g s BeginsInstance w may besides h = h
calls_kept g s (AddsEntry i entry) w may besides h = h
calls_kept g s (MakesSet i set) w may besides h = h
calls_kept g s (RemovesEntry i index) w may besides h = h
calls_kept g s (RemovesWaitable i index) w may besides h = h
calls_kept g s (LeavesSet i index) w may besides h = h
calls_kept g s (JoinsSet i index set) w may besides h = h
calls_kept g s (HasBackpressure i backpressure) w may besides h = h

removed_calls : (t : ℕ) (w : World) → HasCalls w → HasCalls (after (IsRemoved t) w)
removed_calls t w h = in_state_called _ t Exited tt (untouched w.tasks t (λ x. record x { resolution = Some Cancelled }) (λ x. refl) (λ x. refl) h)

with_calls : (g : Graph) (s : Script) → Order g s
with_calls g s = (let o : Order g s = in_order g s in record {
  Holds = λ w. o.Holds w × HasCalls w;
  alone = λ w h. o.alone w h.0;
  chained = λ w h. o.chained w h.0;
  stacked = λ w h. o.stacked w h.0;
  stays = λ c w may besides h. (o.stays c w may besides h.0, calls_kept g s c w may besides h.1);
  comes = λ t w task there runs is idle h. (o.comes t w task there runs is idle h.0, h.1);
  removed = λ t w task there runs waits idle h. (o.removed t w task there runs waits idle h.0, removed_calls t w h.1);
  comes_asked = λ t callee number words w task a free there runs is h. (
    o.comes_asked t callee number words w task a free there runs is h.0,
    untouched (after (Cancels t callee number words) w).tasks callee (λ x. record x { cancellation = Asked }) (λ x. refl) (λ x. refl) (in_state_called w.tasks t (AfterCancel callee number words) tt h.1),
  );
  removed_asked = λ t callee number words w task a free there runs waits h. (
    o.removed_asked t callee number words w task a free there runs waits h.0,
    removed_calls callee (after (Cancels t callee number words) w) (in_state_called w.tasks t (AfterCancel callee number words) tt h.1),
  );
})

pub first_has_called : FirstHasCalled
first_has_called g zero task e = subst (λ (x : Task). HasCalled (new_task Init Nobody Acting ∷ []) 0 x.state) (some_same e) tt
first_has_called g (suc n) task e = absurd (no_first n task e)

pub called_stay : CalledStay
unfolding with_calls in_order
called_stay g s w v labels alone o h e = (step_ordered (with_calls g s) w v labels alone.1 o.2 ((alone.0, o.0, o.1), h) e).0.1

-- The one that waits is the one that called.
called_of : (tasks : List Task) (t callee number : ℕ) (state : TaskState) → CalledBy state callee number → HasCalled tasks t state → Called tasks t number callee
called_of tasks t callee number New c h = absurd c
called_of tasks t callee number Acting c h = absurd c
called_of tasks t callee number (AfterCall other canon words) c h = subst (λ (n : ℕ). Called tasks t n callee) c.1 (subst (λ (n : ℕ). Called tasks t canon n) c.0 h)
called_of tasks t callee number (AfterCancel other canon words) c h = absurd c
called_of tasks t callee number (world.Begins n) c h = absurd c
called_of tasks t callee number WaitsToEnter c h = absurd c
called_of tasks t callee number (InLoop word) c h = absurd c
called_of tasks t callee number (InBuiltin canon words ForYield) c h = absurd c
called_of tasks t callee number (InBuiltin canon words (ForSet index)) c h = absurd c
called_of tasks t callee number (InBuiltin canon words (ForCall other)) c h = subst (λ (n : ℕ). Called tasks t n callee) c.1 (subst (λ (n : ℕ). Called tasks t canon n) c.0 h)
called_of tasks t callee number (InBuiltin canon words (ForCopy index)) c h = absurd c
called_of tasks t callee number (InBuiltin canon words (ForCancel index)) c h = absurd c
called_of tasks t callee number Exited c h = absurd c

same_calls : (tasks : List Task) (t u callee number canon : ℕ) → Called tasks t number callee → Called tasks u canon callee → (t ≡ u) × (number ≡ canon)
same_calls tasks t u callee number canon h k =
    let task : h.0 ≡ k.0 = some_same (sym h.1 ∙ k.1) in
    let subtask : h.2.0 ≡ k.2.0 = some_same (sym h.2.1 ∙ (ap (λ (x : Task). subtask_of x.caller) task ∙ k.2.1)) in
    (sym h.2.2 ∙ (ap (λ (x : Subtask). x.by) subtask ∙ k.2.2), sym h.2.3 ∙ (ap (λ (x : Subtask). x.canon) subtask ∙ k.2.3))

pub one_waits : OneWaits
one_waits tasks h t u callee number canon x y there others c d =
    same_calls tasks t u callee number canon (called_of tasks t callee number x.state c (h t x there)) (called_of tasks u callee canon y.state d (h u y others))
