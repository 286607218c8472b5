-- What callers were told is so, and stays so.
use Rattle.std.proofs.Common.{◌≡◌, ◌≤◌, ℕ, Bool, true, false, List, refl, sym, ◌∙◌, subst, arith, Option, Some, None, if◌then◌else◌}
use Rattle.tasks.specs.declared.phase.Cancellation.{Cancellation}
use Rattle.tasks.specs.declared.phase.Cancellation.TheVariants as cancellation
use Rattle.tasks.specs.declared.phase.Phase.{Phase}
use Rattle.tasks.specs.declared.phase.Phase.TheVariants as phase
use Rattle.tasks.specs.declared.phase.Resolution.{Resolution}
use Rattle.tasks.specs.declared.phase.Resolution.TheVariants.{Returned, Cancelled}
use Rattle.tasks.specs.declared.subtask_state.SubtaskState.{SubtaskState}
use Rattle.tasks.specs.declared.subtask_state.SubtaskState.TheVariants.{Starting, Started, CancelledBeforeStarted, CancelledBeforeReturned}
use Rattle.tasks.specs.Subtasks.{code_of, is_over, delivered, with_lend}
use Rattle.tasks.specs.Tasks.{is_told, is_entry, open_state, resolved_state}
use Rattle.comp_graph.specs.Graph.{Graph}
use Rattle.script_reader.specs.Script.{Script}
use Rattle.abi_machine.specs.World.{Callee, Subtask, Caller, Nobody, Host, Guest, Wait, ForYield, ForSet, ForCall, ForCopy, ForCancel, TaskState, New, Acting, AfterCall, AfterCancel, WaitsToEnter, InLoop, InBuiltin, Exited, Task, World, new_task}
use Rattle.abi_machine.specs.World as world
use Rattle.abi_machine.specs.Edits.{caller_changed, by_view}
use Rattle.abi_machine.specs.Counting.{phase_of, subtask_state}
use Rattle.abi_machine.specs.sound.Changes.{Change, GoesTo, HasStore, SpendsUnit, UsesPicks, TakesItem, BeginsInstance, AddsEntry, MakesSet, RemovesEntry, RemovesWaitable, LeavesSet, JoinsSet, HasBackpressure, IsCalled, Calls, ComesBack, Acts, Begins, Cancels, Blocks, Exits, IsRemoved, Resolves, IsCancelled, HasWord, HasNewStack, HasStack, LosesStack, IsAnswered, IsTold as TellsState, IsLent, HasResult, MakesChannel, Offers, Transfers, Concludes, DropsEnd, after, IsBlocked}
use Rattle.abi_machine.specs.sound.Premises.{BlocksFrom, IsUnasked, IsRemovable, MayResolve, MayResolveTo, MayBecome, Comes}
use Rattle.abi_machine.specs.sound.Told.{IsToldOf, IsToldAt, WasTold, IsTold, AreTold, FirstIsTold, ToldStays}
use Rattle.abi_machine.proofs.sound.Lists.{all_changed, all_more}
use Rattle.abi_machine.proofs.sound.Acted.{one_task}
use Rattle.abi_machine.proofs.sound.Aside.{channel_kept, made_kept}
use Rattle.abi_machine.proofs.sound.Alone.{kept_so}

-- States rise, and one in which a subtask has resolved is the last.

abbrev Rises : SubtaskState → SubtaskState → Type 0
Rises before now = (code_of before ≤ code_of now) × (is_over before ≡ true → before ≡ now)

same_rises : (state : SubtaskState) → Rises state state
same_rises state = (omega arith, λ over. refl)

told_rises : (caller : Caller) (before now : SubtaskState) → Rises before now → IsToldAt caller before → IsToldAt caller now
told_rises Nobody before now r h = tt
told_rises (Host call values) before now r h = tt
told_rises (Guest subtask) before now r h =
    record {
      rises = (let first : code_of subtask.told ≤ code_of before = h.rises in let later : code_of before ≤ code_of now = r.0 in omega (arith, first, later));
      once = λ over. (let same : subtask.told ≡ before = h.once over in same ∙ r.1 (subst (λ (s : SubtaskState). is_over s ≡ true) same over));
    }

-- the states of a task that has not resolved
blocked_small : (entry : Bool) → code_of (if entry then Starting else Started) ≤ 1
blocked_small true = omega arith
blocked_small false = omega arith

open_small : (p : Phase) → code_of (open_state p) ≤ 1
open_small phase.New = omega arith
open_small phase.Acting = omega arith
open_small (phase.Blocked why flag) = blocked_small (is_entry why)
open_small phase.Exited = omega arith

blocked_open : (entry : Bool) → is_over (if entry then Starting else Started) ≡ true → ⊥
blocked_open true e = cc
blocked_open false e = cc

open_not_over : (p : Phase) → is_over (open_state p) ≡ true → ⊥
open_not_over phase.New e = cc
open_not_over phase.Acting e = cc
open_not_over (phase.Blocked why flag) e = blocked_open (is_entry why) e
open_not_over phase.Exited e = cc

open_rises : (p : Phase) (now : SubtaskState) → code_of (open_state p) ≤ code_of now → Rises (open_state p) now
open_rises p now less = (less, λ over. absurd (open_not_over p over))

-- A task comes to another state.
state_rises : (c : Cancellation) (r : Option Resolution) (p q : Phase) → code_of (open_state p) ≤ code_of (open_state q) → Rises (resolved_state c r p) (resolved_state c r q)
state_rises c None p q less = open_rises p (open_state q) less
state_rises c (Some Returned) p q less = same_rises _
state_rises c (Some Cancelled) p q less = same_rises _

abbrev open_of : TaskState → ℕ
open_of state = code_of (open_state (phase_of (λ (number : ℕ). false) state))

in_state_told : (x : Task) (state : TaskState) → open_of x.state ≤ open_of state → IsTold x → IsTold (record x { state = state })
in_state_told x state less h =
    record {
      caller =
          told_rises x.caller (subtask_state x) (subtask_state (record x { state = state }))
          (state_rises x.cancellation x.resolution (phase_of (λ (number : ℕ). false) x.state) (phase_of (λ (number : ℕ). false) state) less) h.caller;
      cancelled = h.cancelled;
    }

-- to one in which it has started
started_told : (x : Task) (state : TaskState) → 1 ≤ open_of state → IsTold x → IsTold (record x { state = state })
started_told x state late h =
    in_state_told x state (let small : open_of x.state ≤ 1 = open_small (phase_of (λ (number : ℕ). false) x.state) in omega (arith, small, late)) h

wait_started : (number : ℕ) (words : List ℕ) (wait : Wait) → 1 ≤ open_of (InBuiltin number words wait)
wait_started number words ForYield = omega arith
wait_started number words (ForSet index) = omega arith
wait_started number words (ForCall callee) = omega arith
wait_started number words (ForCopy index) = omega arith
wait_started number words (ForCancel index) = omega arith

blocks_told : (x : Task) (state : TaskState) → IsBlocked state → BlocksFrom state x → IsTold x → IsTold (record x { state = state })
blocks_told x WaitsToEnter is from h = in_state_told x WaitsToEnter (subst (λ (s : TaskState). open_of s ≤ 0) (sym from) (omega arith)) h
blocks_told x (InLoop word) is from h = started_told x (InLoop word) (omega arith) h
blocks_told x (InBuiltin number words wait) is from h = started_told x (InBuiltin number words wait) (wait_started number words wait) h
blocks_told x New is from h = absurd is
blocks_told x Acting is from h = absurd is
blocks_told x (AfterCall callee number words) is from h = absurd is
blocks_told x (AfterCancel callee number words) is from h = absurd is
blocks_told x (world.Begins n) is from h = absurd is
blocks_told x Exited is from h = absurd is

-- A task resolves.
cancelled_late : (told : Bool) → 2 ≤ code_of (if told then CancelledBeforeReturned else CancelledBeforeStarted)
cancelled_late true = omega arith
cancelled_late false = omega arith

resolved_late : (c : Cancellation) (r : Resolution) (p : Phase) → 2 ≤ code_of (resolved_state c (Some r) p)
resolved_late c Returned p = omega arith
resolved_late c Cancelled p = cancelled_late (is_told c)

resolves_rise : (c : Cancellation) (o : Option Resolution) (r : Resolution) (p : Phase) → o ≡ None → Rises (resolved_state c o p) (resolved_state c (Some r) p)
resolves_rise c None r p e =
    open_rises p (resolved_state c (Some r) p)
    (let small : code_of (open_state p) ≤ 1 = open_small p in let late : 2 ≤ code_of (resolved_state c (Some r) p) = resolved_late c r p in omega (arith, small, late))
resolves_rise c (Some other) r p e = cc

was_told : (r : Resolution) (c : Cancellation) → (r ≡ Cancelled → c ≡ cancellation.Asked → ⊥) → WasTold (Some r) c
was_told Returned c h = tt
was_told Cancelled cancellation.NotAsked h = tt
was_told Cancelled cancellation.Asked h = h refl refl
was_told Cancelled cancellation.Delivered h = tt

resolves_told : (x : Task) (r : Resolution) → x.resolution ≡ None → (r ≡ Cancelled → x.cancellation ≡ cancellation.Asked → ⊥) → IsTold x → IsTold (record x { resolution = Some r })
resolves_told x r unset asked h =
    record {
      caller =
          told_rises x.caller (subtask_state x) (subtask_state (record x { resolution = Some r }))
          (resolves_rise x.cancellation x.resolution r (phase_of (λ (number : ℕ). false) x.state) unset) h.caller;
      cancelled = was_told r x.cancellation asked;
    }

not_asked : (c : Cancellation) → c ≡ cancellation.NotAsked → c ≡ cancellation.Asked → ⊥
not_asked c e f = (let clash : cancellation.NotAsked ≡ cancellation.Asked = sym e ∙ f in cc)

is_delivered : (c : Cancellation) → c ≡ cancellation.Delivered → c ≡ cancellation.Asked → ⊥
is_delivered c e f = (let clash : cancellation.Delivered ≡ cancellation.Asked = sym e ∙ f in cc)

may_resolve : (r : Resolution) (x : Task) → MayResolveTo r x → r ≡ Cancelled → x.cancellation ≡ cancellation.Asked → ⊥
may_resolve Returned x h e f = cc
may_resolve Cancelled x h e f = is_delivered x.cancellation h f

-- A cancellation goes on.
unresolved_same : (c d : Cancellation) (o : Option Resolution) (p : Phase) → o ≡ None → Rises (resolved_state c o p) (resolved_state d o p)
unresolved_same c d None p e = same_rises (open_state p)
unresolved_same c d (Some r) p e = cc

none_told : (o : Option Resolution) (c : Cancellation) → o ≡ None → WasTold o c
none_told None c e = tt
none_told (Some r) c e = cc

asked_told : (x : Task) → IsUnasked x → IsTold x → IsTold (record x { cancellation = cancellation.Asked })
asked_told x may h =
    record {
      caller =
          told_rises x.caller (subtask_state x) (subtask_state (record x { cancellation = cancellation.Asked }))
          (unresolved_same x.cancellation cancellation.Asked x.resolution (phase_of (λ (number : ℕ). false) x.state) may.0) h.caller;
      cancelled = none_told x.resolution cancellation.Asked may.0;
    }

delivered_same : (c : Cancellation) (o : Option Resolution) (p : Phase) → c ≡ cancellation.Asked → WasTold o c → Rises (resolved_state c o p) (resolved_state cancellation.Delivered o p)
delivered_same c None p e h = same_rises (open_state p)
delivered_same c (Some Returned) p e h = same_rises _
delivered_same c (Some Cancelled) p e h = absurd (subst (λ (d : Cancellation). WasTold (Some Cancelled) d) e h)

delivered_told : (o : Option Resolution) → WasTold o cancellation.Delivered
delivered_told None = tt
delivered_told (Some Returned) = tt
delivered_told (Some Cancelled) = tt

told_asked : (x : Task) → x.cancellation ≡ cancellation.Asked → IsTold x → IsTold (record x { cancellation = cancellation.Delivered })
told_asked x may h =
    record {
      caller =
          told_rises x.caller (subtask_state x) (subtask_state (record x { cancellation = cancellation.Delivered }))
          (delivered_same x.cancellation x.resolution (phase_of (λ (number : ℕ). false) x.state) may h.cancelled) h.caller;
      cancelled = delivered_told x.resolution;
    }

becomes_told : (x : Task) (c : Cancellation) → MayBecome c x → IsTold x → IsTold (record x { cancellation = c })
becomes_told x cancellation.NotAsked may h = absurd may
becomes_told x cancellation.Asked may h = asked_told x may h
becomes_told x cancellation.Delivered may h = told_asked x may h

-- The caller's side.
caller_told : (state now : SubtaskState) (t : ℕ) (c : Caller) → state ≡ now → IsToldAt (caller_changed (by_view delivered t state) c) now
caller_told state now t Nobody e = tt
caller_told state now t (Host call values) e = tt
caller_told state now t (Guest subtask) e = record { rises = subst (λ (s : SubtaskState). code_of state ≤ code_of s) e (omega arith); once = λ over. e }

caller_lent : (handle t : ℕ) (now : SubtaskState) (c : Caller) → IsToldAt c now → IsToldAt (caller_changed (λ subtask. by_view (with_lend handle) t subtask.told subtask) c) now
caller_lent handle t now Nobody h = tt
caller_lent handle t now (Host call values) h = tt
caller_lent handle t now (Guest subtask) h = record { rises = h.rises; once = h.once }

caller_kept : (words : List ℕ) (now : SubtaskState) (c : Caller) → IsToldAt c now → IsToldAt (caller_changed (λ subtask. record subtask { result = words }) c) now
caller_kept words now Nobody h = tt
caller_kept words now (Host call values) h = tt
caller_kept words now (Guest subtask) h = record { rises = h.rises; once = h.once }

-- A new task.
new_told : (callee : Callee) (caller : Caller) → IsToldAt caller Starting → IsTold (new_task callee caller New)
new_told callee caller h = record { caller = h; cancelled = tt }

new_subtask_told : (subtask : Subtask) → subtask.told ≡ Starting → IsToldOf subtask Starting
new_subtask_told subtask e = record { rises = subst (λ (s : SubtaskState). code_of s ≤ 0) (sym e) (omega arith); once = λ over. e }

abbrev Has : World → Type 0
Has w = AreTold w.tasks

pub told_kept : (g : Graph) (s : Script) (c : Change) (w : World) → Comes g s c w → Has w → Has (after c w)
told_kept g s (IsCalled callee call values) w may h = all_more IsTold w.tasks (new_task callee (Host call values) New) h (new_told callee (Host call values) tt)
told_kept g s (Calls number callee subtask words) w may h =
    all_more IsTold _ (new_task callee (Guest subtask) New) (all_changed IsTold subtask.by _ w.tasks (λ x e k. started_told x _ (omega arith) k) h)
    (new_told callee (Guest subtask) (new_subtask_told subtask may.5.0))
told_kept g s (Acts t) w may h = all_changed IsTold t _ w.tasks (λ x e k. started_told x Acting (omega arith) k) h
told_kept g s (Begins n) w may h = all_changed IsTold 0 _ w.tasks (λ x e k. started_told x (world.Begins n) (omega arith) k) h
told_kept g s (Cancels t callee number words) w may h = all_changed IsTold t _ w.tasks (λ x e k. started_told x (AfterCancel callee number words) (omega arith) k) h
told_kept g s (Blocks t state) w may h = all_changed IsTold t _ w.tasks (λ x e k. blocks_told x state may.1 (one_task w.tasks t (BlocksFrom state) x e may.3) k) h
told_kept g s (Exits t) w may h = all_changed IsTold t _ w.tasks (λ x e k. started_told x Exited (omega arith) k) h
told_kept g s (IsRemoved t) w may h =
    all_changed IsTold t _ _ (λ x e k. started_told x Exited (omega arith) k)
    (all_changed IsTold t _ w.tasks
    (λ x e k.
    let removable : IsRemovable x = one_task w.tasks t IsRemovable x e may.1 in
    resolves_told x Cancelled removable.1 (λ same asked. not_asked x.cancellation removable.2 asked) k) h)
told_kept g s (Resolves t resolution) w may h =
    all_changed IsTold t _ w.tasks
    (λ x e k. let resolves : MayResolve resolution x = one_task w.tasks t (MayResolve resolution) x e may.0 in resolves_told x resolution resolves.1 (may_resolve resolution x resolves.2) k) h
told_kept g s (IsCancelled t c) w may h = all_changed IsTold t _ w.tasks (λ x e k. becomes_told x c (one_task w.tasks t (MayBecome c) x e may) k) h
told_kept g s (TellsState t state) w may h =
    all_changed IsTold t _ w.tasks
    (λ x e k.
    record { caller = caller_told state (subtask_state x) t x.caller (one_task w.tasks t (λ (y : Task). state ≡ subtask_state y) x e may); cancelled = k.cancelled }) h
told_kept g s (IsLent t handle) w may h =
    all_changed IsTold t _ w.tasks (λ x e k. record { caller = caller_lent handle t (subtask_state x) x.caller k.caller; cancelled = k.cancelled }) h
told_kept g s (HasResult t words) w may h =
    all_changed IsTold t _ w.tasks (λ x e k. record { caller = caller_kept words (subtask_state x) x.caller k.caller; cancelled = k.cancelled }) h
told_kept g s (HasWord t slot word) w may h = all_changed IsTold t _ w.tasks (λ x e k. record { caller = k.caller; cancelled = k.cancelled }) h
told_kept g s (HasNewStack t stack) w may h = all_changed IsTold t _ w.tasks (λ x e k. record { caller = k.caller; cancelled = k.cancelled }) h
told_kept g s (HasStack t stack) w may h = all_changed IsTold t _ w.tasks (λ x e k. record { caller = k.caller; cancelled = k.cancelled }) h
told_kept g s (LosesStack t) w may h = all_changed IsTold t _ w.tasks (λ x e k. record { caller = k.caller; cancelled = k.cancelled }) h
told_kept g s (IsAnswered t words) w may h = all_changed IsTold t _ w.tasks (λ x e k. record { caller = k.caller; cancelled = k.cancelled }) h
told_kept g s (MakesChannel kind element) w may h = made_kept Has (λ v x k. k) (λ v x k. k) kind element w h
told_kept g s (Offers e call) w may h = channel_kept Has (λ v x k. k) (λ v x k. k) e.kind e.number _ w h
told_kept g s (Transfers e size values) w may h = channel_kept Has (λ v x k. k) (λ v x k. k) e.kind e.number _ _ (channel_kept Has (λ v x k. k) (λ v x k. k) e.kind e.number _ w h)
told_kept g s (Concludes e) w may h = channel_kept Has (λ v x k. k) (λ v x k. k) e.kind e.number _ w h
told_kept g s (DropsEnd e) w may h = channel_kept Has (λ v x k. k) (λ v x k. k) e.kind e.number _ w h
told_kept g s (GoesTo control) w may h = h
told_kept g s (HasStore store) w may h = h
told_kept g s SpendsUnit w may h = h
told_kept g s (UsesPicks picks) w may h = h
told_kept g s TakesItem w may h = h
told_kept g s BeginsInstance w may h = h
told_kept g s (AddsEntry i entry) w may h = h
told_kept g s (MakesSet i set) w may h = h
told_kept g s (RemovesEntry i index) w may h = h
told_kept g s (RemovesWaitable i index) w may h = h
told_kept g s (LeavesSet i index) w may h = h
told_kept g s (JoinsSet i index set) w may h = h
told_kept g s (HasBackpressure i pressure) w may h = h
told_kept g s (ComesBack t) w may h = h

pub first_is_told : FirstIsTold
first_is_told g = (record { caller = tt; cancelled = tt }, tt)

pub told_stays : ToldStays
told_stays g s w v labels alone h e = kept_so g s Has (told_kept g s) w v labels alone h e
