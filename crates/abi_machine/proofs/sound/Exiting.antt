-- Tasks resolve before they exit, and so it stays.
use Rattle.std.proofs.Common.{ℕ, zero, suc, List, [], ◌∷◌, refl, Some}
use Rattle.tasks.specs.declared.phase.Resolution.TheVariants.{Cancelled}
use Rattle.comp_graph.specs.Graph.{Graph}
use Rattle.script_reader.specs.Script.{Script}
use Rattle.abi_machine.specs.World.{Host, Guest, TaskState, New, Acting, AfterCall, AfterCancel, WaitsToEnter, InLoop, InBuiltin, Exited, Task, World, new_task}
use Rattle.abi_machine.specs.World as world
use Rattle.abi_machine.specs.Edits.{changed_at}
use Rattle.abi_machine.specs.sound.Changes.{Change, GoesTo, HasStore, SpendsUnit, UsesPicks, TakesItem, BeginsInstance, AddsEntry, MakesSet, RemovesEntry, RemovesWaitable, LeavesSet, JoinsSet, HasBackpressure, IsCalled, Calls, ComesBack, Acts, Begins, Cancels, Blocks, Exits, IsRemoved, Resolves, IsCancelled, HasWord, HasNewStack, HasStack, LosesStack, IsAnswered, IsTold, IsLent, HasResult, MakesChannel, Offers, Transfers, Concludes, DropsEnd, after, IsBlocked}
use Rattle.abi_machine.specs.sound.Premises.{ExitsResolved, Comes}
use Rattle.abi_machine.specs.sound.Exiting.{HasExited, ResolvesFirst, ResolveFirst, FirstResolvesFirst, ResolveFirstStays}
use Rattle.abi_machine.proofs.sound.Lists.{all_changed, all_more}
use Rattle.abi_machine.proofs.sound.Acted.{one_task}
use Rattle.abi_machine.proofs.sound.Aside.{channel_kept, made_kept}
use Rattle.abi_machine.proofs.sound.Alone.{kept_so}

-- One that is blocked has not exited.
blocked_left : (state : TaskState) → IsBlocked state → HasExited state → ⊥
blocked_left WaitsToEnter is gone = gone
blocked_left (InLoop word) is gone = gone
blocked_left (InBuiltin number words wait) is gone = gone
blocked_left New is gone = gone
blocked_left Acting is gone = gone
blocked_left (AfterCall callee number words) is gone = gone
blocked_left (AfterCancel callee number words) is gone = gone
blocked_left (world.Begins n) is gone = gone
blocked_left Exited is gone = is

-- One that is removed has resolved.
removed_resolved : (t : ℕ) (tasks : List Task) → ResolveFirst tasks
    → ResolveFirst (changed_at t (λ task. record task { state = Exited }) (changed_at t (λ task. record task { resolution = Some Cancelled }) tasks))
removed_resolved t [] h = tt
removed_resolved zero (x ∷ tasks) h = (λ gone func. refl, h.1)
removed_resolved (suc t) (x ∷ tasks) h = (h.0, removed_resolved t tasks h.1)

abbrev Has : World → Type 0
Has w = ResolveFirst w.tasks

resolved_kept : (g : Graph) (s : Script) (c : Change) (w : World) → Comes g s c w → Has w → Has (after c w)
resolved_kept g s (IsCalled callee call values) w may h = all_more ResolvesFirst w.tasks (new_task callee (Host call values) New) h (λ gone. absurd gone)
resolved_kept g s (Calls number callee subtask words) w may h =
    all_more ResolvesFirst _ (new_task callee (Guest subtask) New) (all_changed ResolvesFirst subtask.by _ w.tasks (λ x e k. λ gone. absurd gone) h) (λ gone. absurd gone)
resolved_kept g s (Acts t) w may h = all_changed ResolvesFirst t _ w.tasks (λ x e k. λ gone. absurd gone) h
resolved_kept g s (Begins n) w may h = all_changed ResolvesFirst 0 _ w.tasks (λ x e k. λ gone. absurd gone) h
resolved_kept g s (Cancels t callee number words) w may h = all_changed ResolvesFirst t _ w.tasks (λ x e k. λ gone. absurd gone) h
resolved_kept g s (Blocks t state) w may h = all_changed ResolvesFirst t _ w.tasks (λ x e k. λ gone. absurd (blocked_left state may.1 gone)) h
resolved_kept g s (Exits t) w may h = all_changed ResolvesFirst t _ w.tasks (λ x e k. λ gone. one_task w.tasks t ExitsResolved x e may.1) h
resolved_kept g s (IsRemoved t) w may h = removed_resolved t w.tasks h
resolved_kept g s (Resolves t resolution) w may h = all_changed ResolvesFirst t _ w.tasks (λ x e k. λ gone func. refl) h
resolved_kept g s (IsCancelled t cancellation) w may h = all_changed ResolvesFirst t _ w.tasks (λ x e k. k) h
resolved_kept g s (IsTold t state) w may h = all_changed ResolvesFirst t _ w.tasks (λ x e k. k) h
resolved_kept g s (IsLent t handle) w may h = all_changed ResolvesFirst t _ w.tasks (λ x e k. k) h
resolved_kept g s (HasResult t words) w may h = all_changed ResolvesFirst t _ w.tasks (λ x e k. k) h
resolved_kept g s (HasWord t slot word) w may h = all_changed ResolvesFirst t _ w.tasks (λ x e k. k) h
resolved_kept g s (HasNewStack t stack) w may h = all_changed ResolvesFirst t _ w.tasks (λ x e k. k) h
resolved_kept g s (HasStack t stack) w may h = all_changed ResolvesFirst t _ w.tasks (λ x e k. k) h
resolved_kept g s (LosesStack t) w may h = all_changed ResolvesFirst t _ w.tasks (λ x e k. k) h
resolved_kept g s (IsAnswered t words) w may h = all_changed ResolvesFirst t _ w.tasks (λ x e k. k) h
resolved_kept g s (MakesChannel kind element) w may h = made_kept Has (λ v x k. k) (λ v x k. k) kind element w h
resolved_kept g s (Offers e call) w may h = channel_kept Has (λ v x k. k) (λ v x k. k) e.kind e.number _ w h
resolved_kept g s (Transfers e size values) w may h = channel_kept Has (λ v x k. k) (λ v x k. k) e.kind e.number _ _ (channel_kept Has (λ v x k. k) (λ v x k. k) e.kind e.number _ w h)
resolved_kept g s (Concludes e) w may h = channel_kept Has (λ v x k. k) (λ v x k. k) e.kind e.number _ w h
resolved_kept g s (DropsEnd e) w may h = channel_kept Has (λ v x k. k) (λ v x k. k) e.kind e.number _ w h
resolved_kept g s (GoesTo control) w may h = h
resolved_kept g s (HasStore store) w may h = h
resolved_kept g s SpendsUnit w may h = h
resolved_kept g s (UsesPicks picks) w may h = h
resolved_kept g s TakesItem w may h = h
resolved_kept g s BeginsInstance w may h = h
resolved_kept g s (AddsEntry i entry) w may h = h
resolved_kept g s (MakesSet i set) w may h = h
resolved_kept g s (RemovesEntry i index) w may h = h
resolved_kept g s (RemovesWaitable i index) w may h = h
resolved_kept g s (LeavesSet i index) w may h = h
resolved_kept g s (JoinsSet i index set) w may h = h
resolved_kept g s (HasBackpressure i pressure) w may h = h
resolved_kept g s (ComesBack t) w may h = h

pub first_resolves_first : FirstResolvesFirst
first_resolves_first g = (λ gone. absurd gone, tt)

pub resolve_first_stays : ResolveFirstStays
resolve_first_stays g s w v labels alone h e = kept_so g s Has (resolved_kept g s) w v labels alone h e
