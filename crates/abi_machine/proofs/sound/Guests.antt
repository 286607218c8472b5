-- What is cancelled was called by a task, and what is in its loop has a callback, in each step.
use Rattle.std.proofs.Common.{◌≡◌, inl, inr, ℕ, zero, suc, List, [], ◌∷◌, ◌++◌, length, refl, sym, subst, Some}
use Rattle.std.specs.Prelude.{IsSome}
use Rattle.std.specs.List.{slice_get}
use Rattle.tasks.specs.declared.phase.Resolution.TheVariants.{Cancelled}
use Rattle.comp_graph.specs.Graph.{Graph}
use Rattle.script_reader.specs.Script.{Script}
use Rattle.abi_machine.specs.World.{Callee, Subtask, Caller, Nobody, Host, Guest, TaskState, New, Acting, AfterCall, AfterCancel, WaitsToEnter, InLoop, InBuiltin, Exited, Task, World, new_task}
use Rattle.abi_machine.specs.World as world
use Rattle.abi_machine.specs.Edits.{changed_at, caller_changed}
use Rattle.abi_machine.specs.Reading.{subtask_of}
use Rattle.abi_machine.specs.sound.Changes.{Change, GoesTo, HasStore, SpendsUnit, UsesPicks, TakesItem, BeginsInstance, AddsEntry, MakesSet, RemovesEntry, RemovesWaitable, LeavesSet, JoinsSet, HasBackpressure, IsCalled, Calls, ComesBack, Acts, Begins, Cancels, Blocks, Exits, IsRemoved, Resolves, IsCancelled, HasWord, HasNewStack, HasStack, LosesStack, IsAnswered, IsTold, IsLent, HasResult, MakesChannel, Offers, Transfers, Concludes, DropsEnd, after, IsGuest, IsBlocked}
use Rattle.abi_machine.specs.sound.Premises.{BlocksFrom, Comes}
use Rattle.abi_machine.specs.sound.Guests.{WaitsAs, WaitAs, FirstWaitsAs, WaitsAsStay}
use Rattle.abi_machine.proofs.sound.Lists.{more_either, get_front}
use Rattle.abi_machine.proofs.sound.Found.{some_same, guest_changed}
use Rattle.abi_machine.proofs.sound.Acted.{one_task}
use Rattle.abi_machine.proofs.sound.Aside.{channel_kept, made_kept}
use Rattle.abi_machine.proofs.sound.Chained.{no_first, changed_here}
use Rattle.abi_machine.proofs.sound.Alone.{kept_so}

abbrev Has : World → Type 0
Has w = WaitAs w.tasks

-- with other tasks, in which what was called by a task is
as_before : (tasks others : List Task) (callee : Callee) (state : TaskState) → ((n : ℕ) → IsGuest tasks n → IsGuest others n) → WaitsAs tasks callee state → WaitsAs others callee state
as_before tasks others callee (AfterCancel cancelled number words) keeps h = keeps cancelled h
as_before tasks others callee (InLoop word) keeps h = h
as_before tasks others callee New keeps h = tt
as_before tasks others callee Acting keeps h = tt
as_before tasks others callee (AfterCall other number words) keeps h = tt
as_before tasks others callee (world.Begins n) keeps h = tt
as_before tasks others callee WaitsToEnter keeps h = tt
as_before tasks others callee (InBuiltin number words wait) keeps h = tt
as_before tasks others callee Exited keeps h = tt

-- A task is changed.
module _ (tasks : List Task) (n : ℕ) (f : Task → Task) (guest : (x : Task) → IsSome (subtask_of x.caller) → IsSome (subtask_of (f x).caller)) where
  changed_as : ((x : Task) → slice_get tasks n ≡ Some x → WaitsAs tasks x.callee x.state → WaitsAs tasks (f x).callee (f x).state) → WaitAs tasks → WaitAs (changed_at n f tasks)
  changed_as so h t task e = elim (changed_here n f tasks t task e) [
    | inl o ↦ (
        let now : WaitsAs tasks (f o.1.0).callee (f o.1.0).state = so o.1.0 o.1.1 (h n o.1.0 o.1.1) in
        as_before tasks (changed_at n f tasks) task.callee task.state (λ m g. guest_changed tasks n m f guest g) (subst (λ (x : Task). WaitsAs tasks x.callee x.state) (sym o.1.2) now)
        )
    | inr old ↦ as_before tasks (changed_at n f tasks) task.callee task.state (λ m g. guest_changed tasks n m f guest g) (h t task old)
  ]

-- its state alone
state_as : (tasks : List Task) (n : ℕ) (state : TaskState) → ((x : Task) → slice_get tasks n ≡ Some x → WaitsAs tasks x.callee state) → WaitAs tasks → WaitAs (changed_at n (λ task. record task { state = state }) tasks)
state_as tasks n state so h = changed_as tasks n (λ task. record task { state = state }) (λ x k. k) (λ x e k. so x e) h

-- the caller's side of its call
guest_still : (f : Subtask → Subtask) (c : Caller) → IsSome (subtask_of c) → IsSome (subtask_of (caller_changed f c))
guest_still f Nobody h = h
guest_still f (Host call values) h = h
guest_still f (Guest subtask) h = refl

called_as : (tasks : List Task) (n : ℕ) (f : Subtask → Subtask) → WaitAs tasks → WaitAs (changed_at n (λ task. record task { caller = caller_changed f task.caller }) tasks)
called_as tasks n f h = changed_as tasks n (λ task. record task { caller = caller_changed f task.caller }) (λ x k. guest_still f x.caller k) (λ x e k. k) h

-- One more is new.
more_as : (tasks : List Task) (callee : Callee) (caller : Caller) → WaitAs tasks → WaitAs (tasks ++ new_task callee caller New ∷ [])
more_as tasks callee caller h t task e = elim (more_either tasks (new_task callee caller New) t task e) [
  | inl old ↦ as_before tasks (tasks ++ new_task callee caller New ∷ []) task.callee task.state (λ m g. (g.0, get_front tasks (new_task callee caller New) m g.0 g.1, g.2)) (h t task old)
  | inr last ↦ subst (λ (x : Task). WaitsAs (tasks ++ new_task callee caller New ∷ []) x.callee x.state) (sym last.1) tt
]

blocked_as : (tasks : List Task) (x : Task) (state : TaskState) → IsBlocked state → BlocksFrom state x → WaitsAs tasks x.callee state
blocked_as tasks x WaitsToEnter is from = tt
blocked_as tasks x (InLoop word) is from = from.1
blocked_as tasks x (InBuiltin number words wait) is from = tt
blocked_as tasks x New is from = absurd is
blocked_as tasks x Acting is from = absurd is
blocked_as tasks x (AfterCall callee number words) is from = absurd is
blocked_as tasks x (AfterCancel callee number words) is from = absurd is
blocked_as tasks x (world.Begins n) is from = absurd is
blocked_as tasks x Exited is from = absurd is

waits_kept : (g : Graph) (s : Script) (c : Change) (w : World) → Comes g s c w → Has w → Has (after c w)
waits_kept g s (IsCalled callee call values) w may h = more_as w.tasks callee (Host call values) h
waits_kept g s (Calls number callee subtask words) w may h =
    more_as (changed_at subtask.by (λ task. record task { state = AfterCall (length w.tasks) number words }) w.tasks) callee (Guest subtask)
    (state_as w.tasks subtask.by (AfterCall (length w.tasks) number words) (λ x e. tt) h)
waits_kept g s (Acts t) w may h = state_as w.tasks t Acting (λ x e. tt) h
waits_kept g s (Begins n) w may h = state_as w.tasks 0 (world.Begins n) (λ x e. tt) h
waits_kept g s (Cancels t callee number words) w may h = state_as w.tasks t (AfterCancel callee number words) (λ x e. may.3) h
waits_kept g s (Blocks t state) w may h = state_as w.tasks t state (λ x e. blocked_as w.tasks x state may.1 (one_task w.tasks t (BlocksFrom state) x e may.3)) h
waits_kept g s (Exits t) w may h = state_as w.tasks t Exited (λ x e. tt) h
waits_kept g s (IsRemoved t) w may h =
    state_as (changed_at t (λ task. record task { resolution = Some Cancelled }) w.tasks) t Exited (λ x e. tt) (changed_as w.tasks t (λ task. record task { resolution = Some Cancelled }) (λ x k. k) (λ x e k. k) h)
waits_kept g s (Resolves t resolution) w may h = changed_as w.tasks t (λ task. record task { resolution = Some resolution }) (λ x k. k) (λ x e k. k) h
waits_kept g s (IsCancelled t cancellation) w may h = changed_as w.tasks t (λ task. record task { cancellation = cancellation }) (λ x k. k) (λ x e k. k) h
waits_kept g s (HasWord t slot word) w may h = changed_as w.tasks t _ (λ x k. k) (λ x e k. k) h
waits_kept g s (HasNewStack t k) w may h = changed_as w.tasks t _ (λ x k. k) (λ x e k. k) h
waits_kept g s (HasStack t k) w may h = changed_as w.tasks t _ (λ x k. k) (λ x e k. k) h
waits_kept g s (LosesStack t) w may h = changed_as w.tasks t _ (λ x k. k) (λ x e k. k) h
waits_kept g s (IsAnswered t words) w may h = changed_as w.tasks t _ (λ x k. k) (λ x e k. k) h
waits_kept g s (IsTold t state) w may h = called_as w.tasks t _ h
waits_kept g s (IsLent t handle) w may h = called_as w.tasks t _ h
waits_kept g s (HasResult t words) w may h = called_as w.tasks t _ h
waits_kept g s (MakesChannel kind element) w may h = made_kept Has (λ v x k. k) (λ v x k. k) kind element w h
waits_kept g s (Offers e call) w may h = channel_kept Has (λ v x k. k) (λ v x k. k) e.kind e.number _ w h
waits_kept g s (Transfers e size values) w may h = channel_kept Has (λ v x k. k) (λ v x k. k) e.kind e.number _ _ (channel_kept Has (λ v x k. k) (λ v x k. k) e.kind e.number _ w h)
waits_kept g s (Concludes e) w may h = channel_kept Has (λ v x k. k) (λ v x k. k) e.kind e.number _ w h
waits_kept g s (DropsEnd e) w may h = channel_kept Has (λ v x k. k) (λ v x k. k) e.kind e.number _ w h
waits_kept g s (GoesTo control) w may h = h
waits_kept g s (HasStore store) w may h = h
waits_kept g s SpendsUnit w may h = h
waits_kept g s (UsesPicks picks) w may h = h
waits_kept g s TakesItem w may h = h
waits_kept g s BeginsInstance w may h = h
waits_kept g s (AddsEntry i entry) w may h = h
waits_kept g s (MakesSet i set) w may h = h
waits_kept g s (RemovesEntry i index) w may h = h
waits_kept g s (RemovesWaitable i index) w may h = h
waits_kept g s (LeavesSet i index) w may h = h
waits_kept g s (JoinsSet i index set) w may h = h
waits_kept g s (HasBackpressure i backpressure) w may h = h
waits_kept g s (ComesBack t) w may h = h

pub first_waits_as : FirstWaitsAs
first_waits_as g zero task e = subst (λ (x : Task). WaitsAs (new_task world.Init Nobody Acting ∷ []) x.callee x.state) (some_same e) tt
first_waits_as g (suc n) task e = absurd (no_first n task e)

pub waits_as_stay : WaitsAsStay
waits_as_stay g s w v labels alone h e = kept_so g s Has (waits_kept g s) w v labels alone h e
