-- Tasks that were called by canonical functions.
use Rattle.std.proofs.Common.{◌≡◌, ℕ, List, length, refl, sym, subst, Some}
use Rattle.std.specs.Prelude.{IsSome}
use Rattle.comp_graph.specs.Graph.{Graph}
use Rattle.script_reader.specs.Script.{Script}
use Rattle.tasks.specs.Subtasks.{delivered, with_lend}
use Rattle.tasks.specs.declared.phase.Cancellation.TheVariants.{Asked}
use Rattle.tasks.specs.declared.phase.Resolution.TheVariants.{Cancelled}
use Rattle.abi_machine.specs.World.{Subtask, Caller, Nobody, Host, Guest, New, AfterCall, AfterCancel, Task, World, new_task}
use Rattle.abi_machine.specs.Edits.{changed_at, caller_changed, by_view}
use Rattle.abi_machine.specs.Canons.{canon_at}
use Rattle.abi_machine.specs.sound.Changes.{Change, GoesTo, HasStore, SpendsUnit, UsesPicks, TakesItem, BeginsInstance, AddsEntry, MakesSet, RemovesEntry, RemovesWaitable, LeavesSet, JoinsSet, HasBackpressure, IsCalled, Calls, ComesBack, Acts, Begins, Cancels, Blocks, Exits, IsRemoved, Resolves, IsCancelled, HasWord, HasNewStack, HasStack, LosesStack, IsAnswered, IsTold, IsLent, HasResult, MakesChannel, Offers, Transfers, Concludes, DropsEnd, after, MayCome}
use Rattle.abi_machine.specs.sound.Callers.{IsByCanon, AreByCanons, FirstByCanons, ByCanonsStay}
use Rattle.abi_machine.proofs.sound.Lists.{all_changed, all_more}
use Rattle.abi_machine.proofs.sound.Aside.{channel_kept, made_kept}
use Rattle.abi_machine.proofs.sound.acts.Keeping.{Besides, Order}
use Rattle.abi_machine.proofs.sound.acts.Turning.{step_ordered}
use Rattle.abi_machine.proofs.sound.Ordered.{in_order}

module _ (g : Graph) where
  -- what leaves the callers alone, and what changes the caller's side of a call
  left_so : (tasks : List Task) (t : ℕ) (f : Task → Task) → ((x : Task) → (f x).caller ≡ x.caller) → AreByCanons g tasks → AreByCanons g (changed_at t f tasks)
  left_so tasks t f same h = all_changed (λ (x : Task). IsByCanon g x.caller) t f tasks (λ x e p. subst (IsByCanon g) (sym (same x)) p) h

  by_subtask : (f : Subtask → Subtask) → ((x : Subtask) → (f x).canon ≡ x.canon) → (c : Caller) → IsByCanon g c → IsByCanon g (caller_changed f c)
  by_subtask f same Nobody h = h
  by_subtask f same (Host call values) h = h
  by_subtask f same (Guest subtask) h = subst (λ (n : ℕ). IsSome (canon_at g n)) (sym (same subtask)) h

  told_so : (tasks : List Task) (t : ℕ) (f : Subtask → Subtask) → ((x : Subtask) → (f x).canon ≡ x.canon) → AreByCanons g tasks
      → AreByCanons g (changed_at t (λ task. record task { caller = caller_changed f task.caller }) tasks)
  told_so tasks t f same h =
      all_changed (λ (x : Task). IsByCanon g x.caller) t (λ task. record task { caller = caller_changed f task.caller }) tasks (λ x e p. by_subtask f same x.caller p) h

  abbrev AreBy : World → Type 0
  AreBy w = AreByCanons g w.tasks

  kept_by : (s : Script) (c : Change) (w : World) → MayCome g s c w → Besides g c w → AreBy w → AreBy (after c w)
  kept_by s (IsCalled callee call values) w may besides h = all_more (λ (x : Task). IsByCanon g x.caller) w.tasks (new_task callee (Host call values) New) h tt
  kept_by s (Calls number callee subtask words) w may besides h =
      all_more (λ (x : Task). IsByCanon g x.caller) (changed_at subtask.by (λ task. record task { state = AfterCall (length w.tasks) number words }) w.tasks) (new_task callee (Guest subtask) New)
      (left_so w.tasks subtask.by _ (λ x. refl) h) (subst (λ (n : ℕ). IsSome (canon_at g n)) (sym besides.0) besides.2)
  kept_by s (ComesBack t) w may besides h = h
  kept_by s (Acts t) w may besides h = left_so w.tasks t _ (λ x. refl) h
  kept_by s (Begins n) w may besides h = left_so w.tasks 0 _ (λ x. refl) h
  kept_by s (Cancels t callee number words) w may besides h = left_so w.tasks t _ (λ x. refl) h
  kept_by s (Blocks t state) w may besides h = left_so w.tasks t _ (λ x. refl) h
  kept_by s (Exits t) w may besides h = left_so w.tasks t _ (λ x. refl) h
  kept_by s (IsRemoved t) w may besides h = absurd besides
  kept_by s (Resolves t resolution) w may besides h = left_so w.tasks t _ (λ x. refl) h
  kept_by s (IsCancelled t cancellation) w may besides h = left_so w.tasks t _ (λ x. refl) h
  kept_by s (HasWord t slot word) w may besides h = left_so w.tasks t _ (λ x. refl) h
  kept_by s (HasNewStack t k) w may besides h = left_so w.tasks t _ (λ x. refl) h
  kept_by s (HasStack t k) w may besides h = left_so w.tasks t _ (λ x. refl) h
  kept_by s (LosesStack t) w may besides h = left_so w.tasks t _ (λ x. refl) h
  kept_by s (IsAnswered t words) w may besides h = left_so w.tasks t _ (λ x. refl) h
  kept_by s (IsTold t state) w may besides h = told_so w.tasks t (by_view delivered t state) (λ x. refl) h
  kept_by s (IsLent t handle) w may besides h = told_so w.tasks t (λ subtask. by_view (with_lend handle) t subtask.told subtask) (λ x. refl) h
  kept_by s (HasResult t words) w may besides h = told_so w.tasks t (λ subtask. record subtask { result = words }) (λ x. refl) h
  kept_by s (MakesChannel kind element) w may besides h = made_kept AreBy (λ v x k. k) (λ v x k. k) kind element w h
  kept_by s (Offers e call) w may besides h = channel_kept AreBy (λ v x k. k) (λ v x k. k) e.kind e.number _ w h
  kept_by s (Transfers e size values) w may besides h =
      channel_kept AreBy (λ v x k. k) (λ v x k. k) e.kind e.number _ _ (channel_kept AreBy (λ v x k. k) (λ v x k. k) e.kind e.number _ w h)
  kept_by s (Concludes e) w may besides h = channel_kept AreBy (λ v x k. k) (λ v x k. k) e.kind e.number _ w h
  kept_by s (DropsEnd e) w may besides h = channel_kept AreBy (λ v x k. k) (λ v x k. k) e.kind e.number _ w h
  kept_by s (GoesTo control) w may besides h = h
  kept_by s (HasStore store) w may besides h = h
  kept_by s SpendsUnit w may besides h = h
  kept_by s (UsesPicks picks) w may besides h = h
  kept_by s TakesItem w may besides h = h
  kept_by s BeginsInstance w may besides h = h
  kept_by s (AddsEntry i entry) w may besides h = h
  kept_by s (MakesSet i set) w may besides h = h
  kept_by s (RemovesEntry i index) w may besides h = h
  kept_by s (RemovesWaitable i index) w may besides h = h
  kept_by s (LeavesSet i index) w may besides h = h
  kept_by s (JoinsSet i index set) w may besides h = h
  kept_by s (HasBackpressure i backpressure) w may besides h = h

  removed_by : (t : ℕ) (w : World) → AreBy w → AreBy (after (IsRemoved t) w)
  removed_by t w h = left_so (changed_at t (λ x. record x { resolution = Some Cancelled }) w.tasks) t _ (λ x. refl) (left_so w.tasks t _ (λ x. refl) h)

with_canons : (g : Graph) (s : Script) → Order g s
with_canons g s = (let o : Order g s = in_order g s in record {
  Holds = λ w. o.Holds w × AreByCanons g w.tasks;
  alone = λ w h. o.alone w h.0;
  chained = λ w h. o.chained w h.0;
  stacked = λ w h. o.stacked w h.0;
  stays = λ c w may besides h. (o.stays c w may besides h.0, kept_by g s c w may besides h.1);
  comes = λ t w task there runs is idle h. (o.comes t w task there runs is idle h.0, h.1);
  removed = λ t w task there runs waits idle h. (o.removed t w task there runs waits idle h.0, removed_by g t w h.1);
  comes_asked = λ t callee number words w task a free there runs is h. (
    o.comes_asked t callee number words w task a free there runs is h.0,
    left_so g (after (Cancels t callee number words) w).tasks callee (λ x. record x { cancellation = Asked }) (λ x. refl) (left_so g w.tasks t (λ x. record x { state = AfterCancel callee number words }) (λ x. refl) h.1),
  );
  removed_asked = λ t callee number words w task a free there runs waits h. (
    o.removed_asked t callee number words w task a free there runs waits h.0,
    removed_by g callee (after (Cancels t callee number words) w) (left_so g w.tasks t (λ x. record x { state = AfterCancel callee number words }) (λ x. refl) h.1),
  );
})

pub first_by_canons : FirstByCanons
first_by_canons g = (tt, tt)

pub by_canons_stay : ByCanonsStay
unfolding with_canons in_order
by_canons_stay g s w v labels alone o h e = (step_ordered (with_canons g s) w v labels alone.1 o.2 ((alone.0, o.0, o.1), h) e).0.1
