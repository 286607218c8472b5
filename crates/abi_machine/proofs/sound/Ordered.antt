-- The order of tasks stays, and a trap names the acting task.
use Rattle.std.proofs.Common.{◌≡◌, inl, inr, ℕ, zero, suc, true, List, [], ◌∷◌, refl, sym, subst, Some}
use Rattle.std.specs.Prelude.{IsSome}
use Rattle.std.specs.List.{slice_get}
use Rattle.tasks.specs.declared.phase.Cancellation.TheVariants.{Asked}
use Rattle.comp_graph.specs.Graph.{Graph}
use Rattle.script_reader.specs.Script.{Script}
use Rattle.trace_labels.specs.declared.label.Label.{Label}
use Rattle.abi_machine.specs.Control.{Control}
use Rattle.abi_machine.specs.World.{Init, Nobody, TaskState, Acting, AfterCancel, Task, World, first_world, new_task}
use Rattle.abi_machine.specs.Reading.{func_of, may_leave}
use Rattle.abi_machine.specs.Run.{Reaches}
use Rattle.abi_machine.specs.sound.Changes.{Change, GoesTo, HasStore, SpendsUnit, UsesPicks, TakesItem, BeginsInstance, AddsEntry, MakesSet, RemovesEntry, RemovesWaitable, LeavesSet, JoinsSet, HasBackpressure, IsCalled, Calls, ComesBack, Acts, Begins, Cancels, Blocks, Exits, IsRemoved, Resolves, IsCancelled, HasWord, HasNewStack, HasStack, LosesStack, IsAnswered, IsTold, IsLent, HasResult, MakesChannel, Offers, Transfers, Concludes, DropsEnd, after, IsBlocked}
use Rattle.abi_machine.specs.sound.Initial.{RunsAlone}
use Rattle.abi_machine.specs.sound.Chain.{IsAside, IsApart, IsChained}
use Rattle.abi_machine.specs.sound.Acting.{Outline, outline_of, outlines_of, WaitsWith, StandsBy, HaveStacks, IsActing, ActsBy, IsOrdered, FirstOrdered, OrderStays, TrapsNameTheActingTask}
use Rattle.abi_machine.proofs.sound.Found.{some_same, func_changed, now_cancels, cancels_changed}
use Rattle.abi_machine.proofs.sound.Alone.{Alone, stands_alone, first_runs_alone, stays_alone}
use Rattle.abi_machine.proofs.sound.Chained.{no_first}
use Rattle.abi_machine.proofs.sound.Outlines.{Is, as_is, is_there, acting_waits}
use Rattle.abi_machine.proofs.sound.Standing.{IsPlain, stays_chained, StacksFit, AreStacked, stays_stacked, removed_stacked, back_idle, removed_idle, task_there, back_asked, removed_asked}
use Rattle.abi_machine.proofs.sound.acts.Keeping.{Besides, Order}
use Rattle.abi_machine.proofs.sound.acts.Turning.{step_ordered, trap_is_met}

pub besides_plain : (g : Graph) (c : Change) (w : World) → Besides g c w → IsPlain c
besides_plain g (GoesTo control) w b = tt
besides_plain g (HasStore store) w b = tt
besides_plain g SpendsUnit w b = tt
besides_plain g (UsesPicks picks) w b = tt
besides_plain g TakesItem w b = tt
besides_plain g BeginsInstance w b = tt
besides_plain g (AddsEntry i entry) w b = tt
besides_plain g (MakesSet i set) w b = tt
besides_plain g (RemovesEntry i index) w b = tt
besides_plain g (RemovesWaitable i index) w b = tt
besides_plain g (LeavesSet i index) w b = tt
besides_plain g (JoinsSet i index set) w b = tt
besides_plain g (HasBackpressure i backpressure) w b = tt
besides_plain g (IsCalled callee call values) w b = tt
besides_plain g (Calls number callee subtask words) w b = tt
besides_plain g (ComesBack t) w b = b
besides_plain g (Acts t) w b = tt
besides_plain g (Begins n) w b = tt
besides_plain g (Cancels t callee number words) w b = tt
besides_plain g (Blocks t state) w b = tt
besides_plain g (Exits t) w b = tt
besides_plain g (IsRemoved t) w b = b
besides_plain g (Resolves t resolution) w b = tt
besides_plain g (IsCancelled t cancellation) w b = tt
besides_plain g (HasWord t slot word) w b = tt
besides_plain g (HasNewStack t k) w b = tt
besides_plain g (HasStack t k) w b = tt
besides_plain g (LosesStack t) w b = tt
besides_plain g (IsAnswered t words) w b = tt
besides_plain g (IsTold t state) w b = tt
besides_plain g (IsLent t handle) w b = tt
besides_plain g (HasResult t words) w b = tt
besides_plain g (MakesChannel kind element) w b = tt
besides_plain g (Offers e call) w b = tt
besides_plain g (Transfers e size values) w b = tt
besides_plain g (Concludes e) w b = tt
besides_plain g (DropsEnd e) w b = tt

pub besides_fit : (g : Graph) (c : Change) (w : World) → Besides g c w → StacksFit c w
besides_fit g (GoesTo control) w b = tt
besides_fit g (HasStore store) w b = tt
besides_fit g SpendsUnit w b = tt
besides_fit g (UsesPicks picks) w b = tt
besides_fit g TakesItem w b = tt
besides_fit g BeginsInstance w b = tt
besides_fit g (AddsEntry i entry) w b = tt
besides_fit g (MakesSet i set) w b = tt
besides_fit g (RemovesEntry i index) w b = tt
besides_fit g (RemovesWaitable i index) w b = tt
besides_fit g (LeavesSet i index) w b = tt
besides_fit g (JoinsSet i index set) w b = tt
besides_fit g (HasBackpressure i backpressure) w b = tt
besides_fit g (IsCalled callee call values) w b = tt
besides_fit g (Calls number callee subtask words) w b = b.1
besides_fit g (ComesBack t) w b = tt
besides_fit g (Acts t) w b = tt
besides_fit g (Begins n) w b = tt
besides_fit g (Cancels t callee number words) w b = b
besides_fit g (Blocks t state) w b = b.1
besides_fit g (Exits t) w b = b
besides_fit g (IsRemoved t) w b = b
besides_fit g (Resolves t resolution) w b = tt
besides_fit g (IsCancelled t cancellation) w b = tt
besides_fit g (HasWord t slot word) w b = tt
besides_fit g (HasNewStack t k) w b = b
besides_fit g (HasStack t k) w b = b
besides_fit g (LosesStack t) w b = b
besides_fit g (IsAnswered t words) w b = b
besides_fit g (IsTold t state) w b = tt
besides_fit g (IsLent t handle) w b = tt
besides_fit g (HasResult t words) w b = tt
besides_fit g (MakesChannel kind element) w b = tt
besides_fit g (Offers e call) w b = tt
besides_fit g (Transfers e size values) w b = tt
besides_fit g (Concludes e) w b = tt
besides_fit g (DropsEnd e) w b = tt

-- Task 0 stays alone where the acting task cancels another one.
pub back_alone : (g : Graph) (s : Script) (t callee number : ℕ) (words : List ℕ) (w : World) (task : Task) → Is (IsActing true) t w → may_leave w ≡ true → slice_get w.tasks callee ≡ Some task → IsSome (func_of task.callee) → Alone w
    → Alone (after (ComesBack callee) (after (IsCancelled callee Asked) (after (Cancels t callee number words) w)))
back_alone g s t callee number words w task a free there runs h =
    let v : World = after (Cancels t callee number words) w in
    let u : World = after (IsCancelled callee Asked) v in
    let cancels : Task → Task = λ x. record x { cancellation = Asked } in
    stands_alone g s (ComesBack callee) u (
      func_changed v.tasks callee callee cancels (λ x. refl) (func_changed w.tasks t callee (λ x. record x { state = AfterCancel callee number words }) (λ x. refl) (task, there, runs)),
      cancels_changed v.tasks v.chain callee cancels (λ x. refl) (inr (now_cancels w t callee number words a.0 (is_there (IsActing true) t w a))),
    ) (stands_alone g s (IsCancelled callee Asked) v tt (stands_alone g s (Cancels t callee number words) w (a.0, free) h))

pub removed_alone : (g : Graph) (s : Script) (t callee number : ℕ) (words : List ℕ) (w : World) (task : Task) → Is (IsActing true) t w → may_leave w ≡ true → slice_get w.tasks callee ≡ Some task → IsSome (func_of task.callee) → Alone w
    → Alone (after (IsRemoved callee) (after (Cancels t callee number words) w))
removed_alone g s t callee number words w task a free there runs h =
    stands_alone g s (IsRemoved callee) (after (Cancels t callee number words) w) (func_changed w.tasks t callee (λ x. record x { state = AfterCancel callee number words }) (λ x. refl) (task, there, runs))
    (stands_alone g s (Cancels t callee number words) w (a.0, free) h)

pub cancels_stacked : (g : Graph) (s : Script) (t callee number : ℕ) (words : List ℕ) (w : World) → Is (IsActing true) t w → may_leave w ≡ true → AreStacked w → AreStacked (after (Cancels t callee number words) w)
cancels_stacked g s t callee number words w a free h = stays_stacked g s (Cancels t callee number words) w (a.0, free) (as_is (IsActing true) (WaitsWith true) t w (acting_waits true) a) h

-- Task 0 runs alone, and the chain is in order.
unfoldable pub in_order : (g : Graph) (s : Script) → Order g s
in_order g s = record {
  Holds = λ w. Alone w × IsChained w × AreStacked w;
  alone = λ w h. h.0;
  chained = λ w h. h.1;
  stacked = λ w h. h.2;
  stays = λ c w may besides h. (stands_alone g s c w may h.0, stays_chained g s c w may (besides_plain g c w besides) h.1, stays_stacked g s c w may (besides_fit g c w besides) h.2);
  comes = λ t w task there runs is idle h. (stands_alone g s (ComesBack t) w ((task, there, runs), inl idle) h.0, back_idle t w task there is idle h.1, h.2);
  removed = λ t w task there runs waits idle h. (stands_alone g s (IsRemoved t) w (task, there, runs) h.0, removed_idle t w task there waits idle h.1, removed_stacked t w task there waits h.2);
  comes_asked = λ t callee number words w task a free there runs is h. (
    back_alone g s t callee number words w task a free there runs h.0,
    back_asked t callee number words w task a there is h.1,
    stays_stacked g s (IsCancelled callee Asked) (after (Cancels t callee number words) w) tt tt (cancels_stacked g s t callee number words w a free h.2),
  );
  removed_asked = λ t callee number words w task a free there runs waits h. (
    removed_alone g s t callee number words w task a free there runs h.0,
    removed_asked t callee number words w task a there (subst IsBlocked (sym waits) tt) h.1,
    removed_stacked callee (after (Cancels t callee number words) w) task (task_there t callee number words w task a there (subst IsBlocked (sym waits) tt) h.1) waits (cancels_stacked g s t callee number words w a free h.2),
  );
}

first_others : (t : ℕ) (state : TaskState) → slice_get (Acting ∷ []) t ≡ Some state → IsApart t (0 ∷ []) → IsAside state
first_others zero state e apart = absurd (apart.0 refl)
first_others (suc n) state e apart = absurd (no_first n state e)

abbrev first_outline : Outline
first_outline = outline_of (new_task Init Nobody Acting)

first_stacked : HaveStacks (first_outline ∷ [])
first_stacked zero o e = subst (λ (x : Outline). StandsBy x.state x) (some_same e) tt
first_stacked (suc n) o e = absurd (no_first n o e)

pub first_ordered : FirstOrdered
first_ordered g = (record { standing = ((Acting, refl, tt), tt); once = (tt, tt); others = first_others }, first_stacked, (0, (refl, (first_outline, refl, (refl, refl)))))

pub order_stays : OrderStays
unfolding in_order
order_stays g s w v labels alone o e = (let k = step_ordered (in_order g s) w v labels alone.1 o.2 (alone.0, o.0, o.1) e in (k.0.1, k.0.2, k.1))

pub reached_ordered : (g : Graph) (s : Script) (steps : List (List Label)) (w v : World) → RunsAlone w → IsOrdered w → Reaches g s w steps v → RunsAlone v × IsOrdered v
reached_ordered g s [] w v alone o r = subst (λ (x : World). RunsAlone x × IsOrdered x) (sym r) (alone, o)
reached_ordered g s (labels ∷ steps) w v alone o r = reached_ordered g s steps r.0 v (stays_alone g s w r.0 labels alone r.1) (order_stays g s w r.0 labels alone o r.1) r.2

pub traps_name_the_acting_task : TrapsNameTheActingTask
unfolding in_order
traps_name_the_acting_task g s steps w t why r e =
    let h = reached_ordered g s steps (first_world g) w (first_runs_alone g) (first_ordered g) r in
    subst (λ (c : Control). ActsBy c (outlines_of w.tasks) w.chain) (trap_is_met (in_order g s) w t why h.0.1 h.1.2 (h.0.0, h.1.0, h.1.1) e) h.1.2
