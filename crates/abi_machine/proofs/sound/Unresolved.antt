-- A task that has not entered has not resolved, and its caller was not told that it has; and so it stays.
use Rattle.std.proofs.Common.{◌≡◌, ◌∙◌, ℕ, zero, suc, Bool, true, false, List, [], ◌∷◌, refl, sym, ap, subst, Option, Some, None, if◌then◌else◌}
use Rattle.tasks.specs.declared.phase.Cancellation.{Cancellation}
use Rattle.tasks.specs.declared.phase.Phase.{Phase}
use Rattle.tasks.specs.declared.phase.Phase.TheVariants as phase
use Rattle.tasks.specs.declared.phase.Resolution.{Resolution}
use Rattle.tasks.specs.declared.phase.Resolution.TheVariants.{Cancelled}
use Rattle.tasks.specs.declared.subtask_state.SubtaskState.{SubtaskState}
use Rattle.tasks.specs.declared.subtask_state.SubtaskState.TheVariants.{Starting, Started}
use Rattle.tasks.specs.Subtasks.{is_over, delivered, with_lend}
use Rattle.tasks.specs.Tasks.{is_entry, open_state, resolved_state}
use Rattle.comp_graph.specs.Graph.{Graph}
use Rattle.script_reader.specs.Script.{Script}
use Rattle.abi_machine.specs.World.{Subtask, Caller, Nobody, Host, Guest, TaskState, New, Acting, AfterCall, AfterCancel, WaitsToEnter, InLoop, InBuiltin, Exited, Task, World, new_task}
use Rattle.abi_machine.specs.World as world
use Rattle.abi_machine.specs.Edits.{changed_at, caller_changed, by_view}
use Rattle.abi_machine.specs.Counting.{phase_of, subtask_state}
use Rattle.abi_machine.specs.sound.Changes.{Change, GoesTo, HasStore, SpendsUnit, UsesPicks, TakesItem, BeginsInstance, AddsEntry, MakesSet, RemovesEntry, RemovesWaitable, LeavesSet, JoinsSet, HasBackpressure, IsCalled, Calls, ComesBack, Acts, Begins, Cancels, Blocks, Exits, IsRemoved, Resolves, IsCancelled, HasWord, HasNewStack, HasStack, LosesStack, IsAnswered, IsTold, IsLent, HasResult, MakesChannel, Offers, Transfers, Concludes, DropsEnd, after, IsBlocked}
use Rattle.abi_machine.specs.sound.Premises.{BlocksFrom, MayResolve, Comes}
use Rattle.abi_machine.specs.sound.Firsts.{IsActingState}
use Rattle.abi_machine.specs.sound.Entering.{HasNotEntered, IsUntold, EntersUnresolved, EnterUnresolved}
use Rattle.abi_machine.proofs.sound.Lists.{all_changed, all_more}
use Rattle.abi_machine.proofs.sound.Acted.{one_task}
use Rattle.abi_machine.proofs.sound.Aside.{channel_kept, made_kept}

-- A task that acts, or is blocked behind its entry, has entered.
pub acting_entered : (state : TaskState) → IsActingState state → HasNotEntered state → ⊥
acting_entered Acting is new = new
acting_entered (world.Begins n) is new = new
acting_entered New is new = is
acting_entered (AfterCall callee number words) is new = is
acting_entered (AfterCancel callee number words) is new = is
acting_entered WaitsToEnter is new = is
acting_entered (InLoop word) is new = is
acting_entered (InBuiltin number words wait) is new = is
acting_entered Exited is new = is

blocks_unresolved : (x : Task) (state : TaskState) → IsBlocked state → BlocksFrom state x → EntersUnresolved x → EntersUnresolved (record x { state = state })
blocks_unresolved x WaitsToEnter is from h = λ new. h (subst HasNotEntered (sym from) tt)
blocks_unresolved x New is from h = absurd is
blocks_unresolved x Acting is from h = λ new. absurd new
blocks_unresolved x (AfterCall callee number words) is from h = λ new. absurd new
blocks_unresolved x (AfterCancel callee number words) is from h = λ new. absurd new
blocks_unresolved x (world.Begins n) is from h = λ new. absurd new
blocks_unresolved x (InLoop word) is from h = λ new. absurd new
blocks_unresolved x (InBuiltin number words wait) is from h = λ new. absurd new
blocks_unresolved x Exited is from h = λ new. absurd new

-- The state of one that has not resolved is not its last.
blocked_going : (entry : Bool) → is_over (if entry then Starting else Started) ≡ false
blocked_going true = refl
blocked_going false = refl

open_going : (p : Phase) → is_over (open_state p) ≡ false
open_going phase.New = refl
open_going phase.Acting = refl
open_going (phase.Blocked why flag) = blocked_going (is_entry why)
open_going phase.Exited = refl

unset_going : (c : Cancellation) (o : Option Resolution) (p : Phase) → o ≡ None → is_over (resolved_state c o p) ≡ false
unset_going c None p e = open_going p
unset_going c (Some r) p e = cc

told_going : (x : Task) (state : SubtaskState) → state ≡ subtask_state x → x.resolution ≡ None → is_over state ≡ false
told_going x state e unset = ap is_over e ∙ unset_going x.cancellation x.resolution (phase_of (λ (number : ℕ). false) x.state) unset

-- The caller's side.
told_untold : (t : ℕ) (state : SubtaskState) (c : Caller) → is_over state ≡ false → IsUntold (caller_changed (by_view delivered t state) c)
told_untold t state Nobody e = tt
told_untold t state (Host call values) e = tt
told_untold t state (Guest subtask) e = e

lent_untold : (handle t : ℕ) (c : Caller) → IsUntold c → IsUntold (caller_changed (λ subtask. by_view (with_lend handle) t subtask.told subtask) c)
lent_untold handle t Nobody h = tt
lent_untold handle t (Host call values) h = tt
lent_untold handle t (Guest subtask) h = h

kept_untold : (words : List ℕ) (c : Caller) → IsUntold c → IsUntold (caller_changed (λ subtask. record subtask { result = words }) c)
kept_untold words Nobody h = tt
kept_untold words (Host call values) h = tt
kept_untold words (Guest subtask) h = h

-- One that is removed has exited.
removed_unresolved : (t : ℕ) (tasks : List Task) → EnterUnresolved tasks
    → EnterUnresolved (changed_at t (λ task. record task { state = Exited }) (changed_at t (λ task. record task { resolution = Some Cancelled }) tasks))
removed_unresolved t [] h = tt
removed_unresolved zero (x ∷ tasks) h = (λ new. absurd new, h.1)
removed_unresolved (suc t) (x ∷ tasks) h = (h.0, removed_unresolved t tasks h.1)

abbrev Has : World → Type 0
Has w = EnterUnresolved w.tasks

pub unresolved_kept : (g : Graph) (s : Script) (c : Change) (w : World) → Comes g s c w → Has w → Has (after c w)
unresolved_kept g s (IsCalled callee call values) w may h = all_more EntersUnresolved w.tasks (new_task callee (Host call values) New) h (λ new. (refl, tt))
unresolved_kept g s (Calls number callee subtask words) w may h =
    all_more EntersUnresolved _ (new_task callee (Guest subtask) New) (all_changed EntersUnresolved subtask.by _ w.tasks (λ x e k. λ new. absurd new) h)
    (λ new. (refl, ap is_over may.5.0))
unresolved_kept g s (Acts t) w may h = all_changed EntersUnresolved t _ w.tasks (λ x e k. λ new. absurd new) h
unresolved_kept g s (Begins n) w may h = all_changed EntersUnresolved 0 _ w.tasks (λ x e k. λ new. absurd new) h
unresolved_kept g s (Cancels t callee number words) w may h = all_changed EntersUnresolved t _ w.tasks (λ x e k. λ new. absurd new) h
unresolved_kept g s (Blocks t state) w may h =
    all_changed EntersUnresolved t _ w.tasks (λ x e k. blocks_unresolved x state may.1 (one_task w.tasks t (BlocksFrom state) x e may.3) k) h
unresolved_kept g s (Exits t) w may h = all_changed EntersUnresolved t _ w.tasks (λ x e k. λ new. absurd new) h
unresolved_kept g s (IsRemoved t) w may h =
    removed_unresolved t w.tasks h
unresolved_kept g s (Resolves t resolution) w may h =
    all_changed EntersUnresolved t _ w.tasks (λ x e k. λ new. absurd (acting_entered x.state (one_task w.tasks t (MayResolve resolution) x e may.0).0 new)) h
unresolved_kept g s (IsCancelled t cancellation) w may h = all_changed EntersUnresolved t _ w.tasks (λ x e k. λ new. k new) h
unresolved_kept g s (IsTold t state) w may h =
    all_changed EntersUnresolved t _ w.tasks
    (λ x e k. λ new. ((k new).0, told_untold t state x.caller (told_going x state (one_task w.tasks t (λ (y : Task). state ≡ subtask_state y) x e may) (k new).0))) h
unresolved_kept g s (IsLent t handle) w may h = all_changed EntersUnresolved t _ w.tasks (λ x e k. λ new. ((k new).0, lent_untold handle t x.caller (k new).1)) h
unresolved_kept g s (HasResult t words) w may h = all_changed EntersUnresolved t _ w.tasks (λ x e k. λ new. ((k new).0, kept_untold words x.caller (k new).1)) h
unresolved_kept g s (HasWord t slot word) w may h = all_changed EntersUnresolved t _ w.tasks (λ x e k. λ new. k new) h
unresolved_kept g s (HasNewStack t stack) w may h = all_changed EntersUnresolved t _ w.tasks (λ x e k. λ new. k new) h
unresolved_kept g s (HasStack t stack) w may h = all_changed EntersUnresolved t _ w.tasks (λ x e k. λ new. k new) h
unresolved_kept g s (LosesStack t) w may h = all_changed EntersUnresolved t _ w.tasks (λ x e k. λ new. k new) h
unresolved_kept g s (IsAnswered t words) w may h = all_changed EntersUnresolved t _ w.tasks (λ x e k. λ new. k new) h
unresolved_kept g s (MakesChannel kind element) w may h = made_kept Has (λ v x k. k) (λ v x k. k) kind element w h
unresolved_kept g s (Offers e call) w may h = channel_kept Has (λ v x k. k) (λ v x k. k) e.kind e.number _ w h
unresolved_kept g s (Transfers e size values) w may h = channel_kept Has (λ v x k. k) (λ v x k. k) e.kind e.number _ _ (channel_kept Has (λ v x k. k) (λ v x k. k) e.kind e.number _ w h)
unresolved_kept g s (Concludes e) w may h = channel_kept Has (λ v x k. k) (λ v x k. k) e.kind e.number _ w h
unresolved_kept g s (DropsEnd e) w may h = channel_kept Has (λ v x k. k) (λ v x k. k) e.kind e.number _ w h
unresolved_kept g s (GoesTo control) w may h = h
unresolved_kept g s (HasStore store) w may h = h
unresolved_kept g s SpendsUnit w may h = h
unresolved_kept g s (UsesPicks picks) w may h = h
unresolved_kept g s TakesItem w may h = h
unresolved_kept g s BeginsInstance w may h = h
unresolved_kept g s (AddsEntry i entry) w may h = h
unresolved_kept g s (MakesSet i set) w may h = h
unresolved_kept g s (RemovesEntry i index) w may h = h
unresolved_kept g s (RemovesWaitable i index) w may h = h
unresolved_kept g s (LeavesSet i index) w may h = h
unresolved_kept g s (JoinsSet i index set) w may h = h
unresolved_kept g s (HasBackpressure i pressure) w may h = h
unresolved_kept g s (ComesBack t) w may h = h
