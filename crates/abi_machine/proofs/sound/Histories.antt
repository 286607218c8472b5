-- Histories of tables stay.
use Rattle.std.proofs.Common.{◌≡◌, ◌<◌, ℕ, List, [], ◌∷◌, ◌++◌, refl, sym, subst, Option, Some}
use Rattle.std.specs.Prelude.{IsSome}
use Rattle.std.specs.List.{slice_get}
use Rattle.handle_table.specs.History.{Remove, IsHistory, live, live_count, most_live}
use Rattle.comp_graph.specs.Graph.{Graph}
use Rattle.script_reader.specs.Script.{Script}
use Rattle.waitables.specs.Sets as sets
use Rattle.abi_machine.specs.World.{Entry, OfSet, Inst, World, new_inst}
use Rattle.abi_machine.specs.Edits.{changed_at, added, by_views}
use Rattle.abi_machine.specs.Reading.{table_in}
use Rattle.abi_machine.specs.sound.Changes.{Change, GoesTo, HasStore, SpendsUnit, UsesPicks, TakesItem, BeginsInstance, AddsEntry, MakesSet, RemovesEntry, RemovesWaitable, LeavesSet, JoinsSet, HasBackpressure, IsCalled, Calls, ComesBack, Acts, Begins, Cancels, Blocks, Exits, IsRemoved, Resolves, IsCancelled, HasWord, HasNewStack, HasStack, LosesStack, IsAnswered, IsTold, IsLent, HasResult, MakesChannel, Offers, Transfers, Concludes, DropsEnd, after, MayCome}
use Rattle.abi_machine.specs.sound.Tables.{HaveHistories, FirstHasHistories, HistoriesStay}
use Rattle.abi_machine.proofs.sound.Lists.{all_changed, all_more}
use Rattle.abi_machine.proofs.sound.Alone.{kept_alone}
use Rattle.abi_machine.proofs.sound.Aside.{channel_kept, made_kept}

abbrev HasHistory : Inst → Type 0
HasHistory inst = IsHistory inst.table

-- An entry is added, one is removed, and what is not in tables is changed.
pub adds_history : (i : ℕ) (entry : Entry) (insts : List Inst) → live_count (table_in (slice_get insts i)) < most_live → HaveHistories insts
    → HaveHistories (changed_at i (λ inst. record inst { table = added entry inst.table }) insts)
adds_history i entry insts few h =
    all_changed HasHistory i (λ inst. record inst { table = added entry inst.table }) insts
    (λ x e p. (p, refl, subst (λ (o : Option Inst). live_count (table_in o) < most_live) e few)) h

pub removes_history : (i index : ℕ) (entry : Entry) (insts : List Inst) → live (table_in (slice_get insts i)) index ≡ Some entry → HaveHistories insts
    → HaveHistories (changed_at i (λ inst. record inst { table = Remove index ∷ inst.table }) insts)
removes_history i index entry insts there h =
    all_changed HasHistory i (λ inst. record inst { table = Remove index ∷ inst.table }) insts
    (λ x e p. (p, subst (λ (o : Option Entry). IsSome o) (sym (subst (λ (o : Option Inst). live (table_in o) index ≡ Some entry) e there)) refl)) h

pub sets_history : (i : ℕ) (f : Inst → List (List ℕ)) (insts : List Inst) → HaveHistories insts → HaveHistories (changed_at i (λ inst. record inst { sets = f inst }) insts)
sets_history i f insts h = all_changed HasHistory i (λ inst. record inst { sets = f inst }) insts (λ x e p. p) h

abbrev Has : World → Type 0
Has w = HaveHistories w.insts

pub histories_kept : (g : Graph) (s : Script) (c : Change) (w : World) → MayCome g s c w → Has w → Has (after c w)
histories_kept g s BeginsInstance w may h = all_more HasHistory w.insts new_inst h tt
histories_kept g s (AddsEntry i entry) w may h = adds_history i entry w.insts may.0 h
histories_kept g s (MakesSet i set) w may h = sets_history i (λ inst. inst.sets ++ [] ∷ []) _ (adds_history i (OfSet set) w.insts may.0 h)
histories_kept g s (RemovesEntry i index) w may h = removes_history i index may.0 w.insts may.1 h
histories_kept g s (RemovesWaitable i index) w may h = sets_history i (λ inst. by_views (sets.left index) inst.sets) _ (removes_history i index may.0 w.insts may.1 h)
histories_kept g s (LeavesSet i index) w may h = sets_history i (λ inst. by_views (sets.left index) inst.sets) w.insts h
histories_kept g s (JoinsSet i index set) w may h =
    sets_history i (λ inst. by_views (sets.joined index set) inst.sets) w.insts h
histories_kept g s (HasBackpressure i pressure) w may h = all_changed HasHistory i _ w.insts (λ x e p. p) h
histories_kept g s (MakesChannel kind element) w may h = made_kept Has (λ v x k. k) (λ v x k. k) kind element w h
histories_kept g s (Offers e call) w may h = channel_kept Has (λ v x k. k) (λ v x k. k) e.kind e.number _ w h
histories_kept g s (Transfers e size values) w may h = channel_kept Has (λ v x k. k) (λ v x k. k) e.kind e.number _ _ (channel_kept Has (λ v x k. k) (λ v x k. k) e.kind e.number _ w h)
histories_kept g s (Concludes e) w may h = channel_kept Has (λ v x k. k) (λ v x k. k) e.kind e.number _ w h
histories_kept g s (DropsEnd e) w may h = channel_kept Has (λ v x k. k) (λ v x k. k) e.kind e.number _ w h
histories_kept g s (GoesTo control) w may h = h
histories_kept g s (HasStore store) w may h = h
histories_kept g s SpendsUnit w may h = h
histories_kept g s (UsesPicks picks) w may h = h
histories_kept g s TakesItem w may h = h
histories_kept g s (IsCalled callee call values) w may h = h
histories_kept g s (Calls number callee subtask words) w may h = h
histories_kept g s (ComesBack t) w may h = h
histories_kept g s (Acts t) w may h = h
histories_kept g s (Begins n) w may h = h
histories_kept g s (Cancels t callee number words) w may h = h
histories_kept g s (Blocks t state) w may h = h
histories_kept g s (Exits t) w may h = h
histories_kept g s (IsRemoved t) w may h = h
histories_kept g s (Resolves t resolution) w may h = h
histories_kept g s (IsCancelled t cancellation) w may h = h
histories_kept g s (HasWord t slot word) w may h = h
histories_kept g s (HasNewStack t k) w may h = h
histories_kept g s (HasStack t k) w may h = h
histories_kept g s (LosesStack t) w may h = h
histories_kept g s (IsAnswered t words) w may h = h
histories_kept g s (IsTold t state) w may h = h
histories_kept g s (IsLent t handle) w may h = h
histories_kept g s (HasResult t words) w may h = h

pub first_has_histories : FirstHasHistories
first_has_histories g = tt

pub histories_stay : HistoriesStay
histories_stay g s w v labels alone h e = kept_alone g s Has (histories_kept g s) w v labels alone h e
