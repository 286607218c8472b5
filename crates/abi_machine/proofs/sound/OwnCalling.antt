-- Tasks are called by canonical functions of their callers' component instances, and so they are in every step.
use Rattle.std.proofs.Common.{◌≡◌, ℕ, true, List, [], ◌∷◌, ◌++◌, length, refl, sym, ap, ◌∙◌, subst, Option, Some}
use Rattle.std.specs.Prelude.{IsSome}
use Rattle.tasks.specs.Subtasks.{delivered, with_lend}
use Rattle.tasks.specs.declared.phase.Resolution.TheVariants.{Cancelled}
use Rattle.comp_graph.specs.Graph.{Graph, Lifted}
use Rattle.abi_machine.specs.World.{Subtask, Caller, Nobody, Host, Guest, New, Exited, AfterCall, Task, World, new_task}
use Rattle.abi_machine.specs.Edits.{changed_at, caller_changed, by_view}
use Rattle.abi_machine.specs.Reading.{func_of}
use Rattle.abi_machine.specs.sound.Changes.{Change, GoesTo, HasStore, SpendsUnit, UsesPicks, TakesItem, BeginsInstance, AddsEntry, MakesSet, RemovesEntry, RemovesWaitable, LeavesSet, JoinsSet, HasBackpressure, IsCalled, Calls, ComesBack, Acts, Begins, Cancels, Blocks, Exits, IsRemoved, Resolves, IsCancelled, HasWord, HasNewStack, HasStack, LosesStack, IsAnswered, IsTold, IsLent, HasResult, MakesChannel, Offers, Transfers, Concludes, DropsEnd, after}
use Rattle.abi_machine.specs.sound.Firsts.{TaskIs}
use Rattle.abi_machine.specs.sound.Acting.{Outline, outline_of, WaitsWith}
use Rattle.abi_machine.specs.sound.Owners.{CallsOwn, IsOwnWorld}
use Rattle.abi_machine.specs.sound.OwnCallers.{MadeByOwn, IsByOwn, AreByOwn, FirstByOwn, ByOwnStay}
use Rattle.abi_machine.proofs.sound.Lists.{all_changed, all_more, all_as, get_front}
use Rattle.abi_machine.proofs.sound.Found.{some_there}
use Rattle.abi_machine.proofs.sound.Aside.{channel_kept, made_kept}
use Rattle.abi_machine.proofs.sound.Acted.{still_is}
use Rattle.abi_machine.proofs.sound.Outlines.{Is, outline_there, outline_back, is_what}
use Rattle.abi_machine.proofs.sound.Ordered.{in_order}
use Rattle.abi_machine.proofs.sound.own.Kept.{own_kept, own_removed}
use Rattle.abi_machine.proofs.sound.known.Keeping.{CallsItsOwn, Besides, Owns}
use Rattle.abi_machine.proofs.sound.known.Beside.{beside}
use Rattle.abi_machine.proofs.sound.known.Turning.{step_known}

-- The task that calls a canonical function runs a function of the component instance that made this one.
made_by : (g : Graph) (number : ℕ) (o : Option Lifted) → IsSome o → CallsOwn g o number → (f : Lifted) × (o ≡ Some f) × CallsOwn g (Some f) number
made_by g number o there own = (let x = some_there o there in (x.0, x.1, subst (λ (l : Option Lifted). CallsOwn g l number) x.1 own))

caller_made : (g : Graph) (number t : ℕ) (w : World) → Is (WaitsWith true) t w → CallsItsOwn g number t w → TaskIs w.tasks t (MadeByOwn g number)
caller_made g number t w waits own =
    let x = outline_back w.tasks t waits.1.0 waits.1.1 in
    let runs : WaitsWith true (outline_of x.0) = subst (WaitsWith true) (sym x.2) waits.1.2 in
    let calls : CallsOwn g (func_of x.0.callee) number = is_what (λ (o : Outline). CallsOwn g (func_of o.callee) number) t w (outline_of x.0) own (outline_there w.tasks t x.0 x.1) in
    (x.0, x.1, made_by g number (func_of x.0.callee) runs.0 calls)

module _ (g : Graph) where
  -- among other tasks, of which each runs what it ran
  of_tasks : (tasks others : List Task) → ((n number : ℕ) → TaskIs tasks n (MadeByOwn g number) → TaskIs others n (MadeByOwn g number)) → (c : Caller) → IsByOwn g tasks c → IsByOwn g others c
  of_tasks tasks others keeps Nobody h = tt
  of_tasks tasks others keeps (Host call values) h = tt
  of_tasks tasks others keeps (Guest subtask) h = keeps subtask.by subtask.canon h

  task_so : (tasks : List Task) (t : ℕ) (f : Task → Task) → ((x : Task) → (f x).callee ≡ x.callee) → ((x : Task) → IsByOwn g tasks x.caller → IsByOwn g tasks (f x).caller) → AreByOwn g tasks
      → AreByOwn g (changed_at t f tasks)
  task_so tasks t f callee keeps h =
      all_as (λ (x : Task). IsByOwn g tasks x.caller) (λ (x : Task). IsByOwn g (changed_at t f tasks) x.caller)
      (λ x k.
      of_tasks tasks (changed_at t f tasks) (λ n number i. still_is tasks t n f (MadeByOwn g number) (λ y p. (p.0, ap func_of (callee y) ∙ p.1, p.2)) i) x.caller k)
      (changed_at t f tasks) (all_changed (λ (x : Task). IsByOwn g tasks x.caller) t f tasks (λ x e k. keeps x k) h)

  left_so : (tasks : List Task) (t : ℕ) (f : Task → Task) → ((x : Task) → (f x).callee ≡ x.callee) → ((x : Task) → (f x).caller ≡ x.caller) → AreByOwn g tasks → AreByOwn g (changed_at t f tasks)
  left_so tasks t f callee same h = task_so tasks t f callee (λ x k. subst (IsByOwn g tasks) (sym (same x)) k) h

  more_so : (tasks : List Task) (new : Task) → IsByOwn g tasks new.caller → AreByOwn g tasks → AreByOwn g (tasks ++ new ∷ [])
  more_so tasks new last h =
      let front : (c : Caller) → IsByOwn g tasks c → IsByOwn g (tasks ++ new ∷ []) c =
      λ c k. of_tasks tasks (tasks ++ new ∷ []) (λ n number i. (i.0, get_front tasks new n i.0 i.1, i.2)) c k in
      all_more (λ (x : Task). IsByOwn g (tasks ++ new ∷ []) x.caller) tasks new
      (all_as (λ (x : Task). IsByOwn g tasks x.caller) (λ (x : Task). IsByOwn g (tasks ++ new ∷ []) x.caller) (λ x k. front x.caller k) tasks h) (front new.caller last)

  by_subtask : (tasks : List Task) (f : Subtask → Subtask) → ((x : Subtask) → (f x).by ≡ x.by) → ((x : Subtask) → (f x).canon ≡ x.canon) → (c : Caller) → IsByOwn g tasks c → IsByOwn g tasks (caller_changed f c)
  by_subtask tasks f by_same canon_same Nobody h = h
  by_subtask tasks f by_same canon_same (Host call values) h = h
  by_subtask tasks f by_same canon_same (Guest subtask) h =
      subst (λ (n : ℕ). TaskIs tasks n (MadeByOwn g (f subtask).canon)) (sym (by_same subtask)) (subst (λ (n : ℕ). TaskIs tasks subtask.by (MadeByOwn g n)) (sym (canon_same subtask)) h)

  told_so : (tasks : List Task) (t : ℕ) (f : Subtask → Subtask) → ((x : Subtask) → (f x).by ≡ x.by) → ((x : Subtask) → (f x).canon ≡ x.canon) → AreByOwn g tasks
      → AreByOwn g (changed_at t (λ task. record task { caller = caller_changed f task.caller }) tasks)
  told_so tasks t f by_same canon_same h =
      task_so tasks t (λ task. record task { caller = caller_changed f task.caller }) (λ x. refl) (λ x k. by_subtask tasks f by_same canon_same x.caller k) h

  abbrev AreBy : World → Type 0
  AreBy w = AreByOwn g w.tasks

  kept_by : (c : Change) (w : World) → Besides ⊥ ⊥ ⊥ ⊥ g c w → Owns g c w → AreBy w → AreBy (after c w)
  kept_by (IsCalled callee call values) w b own h = more_so w.tasks (new_task callee (Host call values) New) tt h
  kept_by (Calls number callee subtask words) w b own h =
      let f : Task → Task = λ task. record task { state = AfterCall (length w.tasks) number words } in
      let made : TaskIs w.tasks subtask.by (MadeByOwn g subtask.canon) =
      subst (λ (n : ℕ). TaskIs w.tasks subtask.by (MadeByOwn g n)) (sym b.0) (caller_made g number subtask.by w b.1 own.1) in
      more_so (changed_at subtask.by f w.tasks) (new_task callee (Guest subtask) New) (still_is w.tasks subtask.by subtask.by f (MadeByOwn g subtask.canon) (λ y p. p) made)
      (left_so w.tasks subtask.by f (λ x. refl) (λ x. refl) h)
  kept_by (ComesBack t) w b own h = h
  kept_by (Acts t) w b own h = left_so w.tasks t _ (λ x. refl) (λ x. refl) h
  kept_by (Begins n) w b own h = left_so w.tasks 0 _ (λ x. refl) (λ x. refl) h
  kept_by (Cancels t callee number words) w b own h = left_so w.tasks t _ (λ x. refl) (λ x. refl) h
  kept_by (Blocks t state) w b own h = left_so w.tasks t _ (λ x. refl) (λ x. refl) h
  kept_by (Exits t) w b own h = left_so w.tasks t _ (λ x. refl) (λ x. refl) h
  kept_by (IsRemoved t) w b own h = absurd b
  kept_by (Resolves t resolution) w b own h = left_so w.tasks t _ (λ x. refl) (λ x. refl) h
  kept_by (IsCancelled t cancellation) w b own h = left_so w.tasks t _ (λ x. refl) (λ x. refl) h
  kept_by (HasWord t slot word) w b own h = left_so w.tasks t _ (λ x. refl) (λ x. refl) h
  kept_by (HasNewStack t k) w b own h = left_so w.tasks t _ (λ x. refl) (λ x. refl) h
  kept_by (HasStack t k) w b own h = left_so w.tasks t _ (λ x. refl) (λ x. refl) h
  kept_by (LosesStack t) w b own h = left_so w.tasks t _ (λ x. refl) (λ x. refl) h
  kept_by (IsAnswered t words) w b own h = left_so w.tasks t _ (λ x. refl) (λ x. refl) h
  kept_by (IsTold t state) w b own h = told_so w.tasks t (by_view delivered t state) (λ x. refl) (λ x. refl) h
  kept_by (IsLent t handle) w b own h = told_so w.tasks t (λ subtask. by_view (with_lend handle) t subtask.told subtask) (λ x. refl) (λ x. refl) h
  kept_by (HasResult t words) w b own h = told_so w.tasks t (λ subtask. record subtask { result = words }) (λ x. refl) (λ x. refl) h
  kept_by (MakesChannel kind element) w b own h = made_kept AreBy (λ v x k. k) (λ v x k. k) kind element w h
  kept_by (Offers e call) w b own h = channel_kept AreBy (λ v x k. k) (λ v x k. k) e.kind e.number _ w h
  kept_by (Transfers e size values) w b own h =
      channel_kept AreBy (λ v x k. k) (λ v x k. k) e.kind e.number _ _ (channel_kept AreBy (λ v x k. k) (λ v x k. k) e.kind e.number _ w h)
  kept_by (Concludes e) w b own h = channel_kept AreBy (λ v x k. k) (λ v x k. k) e.kind e.number _ w h
  kept_by (DropsEnd e) w b own h = channel_kept AreBy (λ v x k. k) (λ v x k. k) e.kind e.number _ w h
  kept_by (GoesTo control) w b own h = h
  kept_by (HasStore store) w b own h = h
  kept_by SpendsUnit w b own h = h
  kept_by (UsesPicks picks) w b own h = h
  kept_by TakesItem w b own h = h
  kept_by BeginsInstance w b own h = h
  kept_by (AddsEntry i entry) w b own h = h
  kept_by (MakesSet i set) w b own h = h
  kept_by (RemovesEntry i index) w b own h = h
  kept_by (RemovesWaitable i index) w b own h = h
  kept_by (LeavesSet i index) w b own h = h
  kept_by (JoinsSet i index set) w b own h = h
  kept_by (HasBackpressure i backpressure) w b own h = h

  removed_by : (t : ℕ) (w : World) → AreBy w → AreBy (after (IsRemoved t) w)
  removed_by t w h =
      left_so (changed_at t (λ x. record x { resolution = Some Cancelled }) w.tasks) t (λ x. record x { state = Exited }) (λ x. refl) (λ x. refl)
      (left_so w.tasks t (λ x. record x { resolution = Some Cancelled }) (λ x. refl) (λ x. refl) h)

abbrev Kept : Graph → World → Type 0
Kept g w = IsOwnWorld g w × AreByOwn g w.tasks

pub first_by_own : FirstByOwn
first_by_own g = (tt, tt)

pub by_own_stay : ByOwnStay
unfolding beside in_order
by_own_stay g s w v labels apart alone o own says h e =
    (step_known
    (beside g s (in_order g s) ⊥ (Unit {0}) ⊥ ⊥ (Kept g) (λ a. apart) (λ event. absurd event) (λ a u k. k.0)
    (λ c u may b belongs k. (own_kept g s c u may (belongs tt) k.0, kept_by g c u b (belongs tt) k.1)) (λ t u may k. k) (λ t u may k. (own_removed g t u k.0, removed_by g t u k.1)))
    w v labels (λ none. absurd none) (λ asks. absurd asks) (λ copies. absurd copies) (λ a. says) (λ event. absurd event) alone.1 o.2 ((alone.0, o.0, o.1), (own, h)) e).0.1.1
