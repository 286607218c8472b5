-- Limits stay.
use Rattle.std.proofs.Common.{◌≡◌, ◌<◌, ◌≤◌, ◌⊎◌, inl, inr, ℕ, ◌+◌, Bool, true, false, ◌&&◌, nat_lt, List, length, refl, sym, subst, arith, Option, Some, if◌then◌else◌}
use Rattle.std.proofs.lemmas.Bool.Decides.{nat_tests}
use Rattle.std.specs.List.{slice_get, AllByRecursion}
use Rattle.choices.specs.Choosing.{is_choice}
use Rattle.choices.specs.Drawing.{Drawn, drawn}
use Rattle.comp_graph.specs.Graph.{Graph}
use Rattle.script_reader.specs.Script.{Script}
use Rattle.abi_machine.specs.World.{Inst, World, new_inst}
use Rattle.abi_machine.specs.Edits.{changed_at}
use Rattle.abi_machine.specs.Reading.{backpressure_in}
use Rattle.abi_machine.specs.Choosing.{picks_of}
use Rattle.abi_machine.specs.replies.Pressure.{most_backpressure}
use Rattle.abi_machine.specs.sound.Changes.{Change, GoesTo, HasStore, SpendsUnit, UsesPicks, TakesItem, BeginsInstance, AddsEntry, MakesSet, RemovesEntry, RemovesWaitable, LeavesSet, JoinsSet, HasBackpressure, IsCalled, Calls, ComesBack, Acts, Begins, Cancels, Blocks, Exits, IsRemoved, Resolves, IsCancelled, HasWord, HasNewStack, HasStack, LosesStack, IsAnswered, IsTold, IsLent, HasResult, MakesChannel, Offers, Transfers, Concludes, DropsEnd, after, MayCome}
use Rattle.abi_machine.specs.sound.Limits.{IsWithinLimits, FirstWithinLimits, StaysWithinLimits}
use Rattle.abi_machine.proofs.sound.Lists.{all_changed, all_more, within}
use Rattle.abi_machine.proofs.sound.Alone.{kept_alone}
use Rattle.abi_machine.proofs.sound.Aside.{channel_kept, made_kept}

-- a choice uses a pick only where one is left
one_used : (all : List ℕ) (used count : ℕ) (b : Bool) → nat_lt used (length all) ≡ b → used ≤ length all
    → (if is_choice count && b then (let d : Drawn = record { given = all; used = used + 1 } in d) else (let d : Drawn = record { given = all; used = used } in d)).used ≤ length all
one_used all used count b e h = by (is_choice count) b e
  where
    by : (c b : Bool) → nat_lt used (length all) ≡ b → (if c && b then (let d : Drawn = record { given = all; used = used + 1 } in d) else (let d : Drawn = record { given = all; used = used } in d)).used ≤ length all
    by true true e = (let less : used < length all = grind (arith, nat_tests) in omega (arith, less))
    by true false e = h
    by false true e = h
    by false false e = h

picks_left : (s : Script) (w : World) (count : ℕ) → w.picks ≤ length s.picks → (drawn count (picks_of s w)).used ≤ length s.picks
picks_left s w count h = one_used s.picks w.picks count (nat_lt w.picks (length s.picks)) refl h

-- the backpressure of an instance that is set anew
pressed_few : (insts : List Inst) (i pressure : ℕ) → (pressure ≤ most_backpressure) ⊎ (pressure ≤ backpressure_in (slice_get insts i))
    → AllByRecursion (λ inst. inst.backpressure ≤ most_backpressure) insts → AllByRecursion (λ inst. inst.backpressure ≤ most_backpressure) (changed_at i (λ inst. record inst { backpressure = pressure }) insts)
pressed_few insts i pressure few h =
    all_changed (λ (inst : Inst). inst.backpressure ≤ most_backpressure) i (λ inst. record inst { backpressure = pressure }) insts (λ x e p. by x e p few) h
  where
    by : (x : Inst) → slice_get insts i ≡ Some x → x.backpressure ≤ most_backpressure → (pressure ≤ most_backpressure) ⊎ (pressure ≤ backpressure_in (slice_get insts i)) → pressure ≤ most_backpressure
    by x e p (inl l) = l
    by x e p (inr l) = let less : pressure ≤ x.backpressure = subst (λ (o : Option Inst). pressure ≤ backpressure_in o) e l in omega (arith, less, p)

limited : (g : Graph) (s : Script) (c : Change) (w : World) → MayCome g s c w → IsWithinLimits s w → IsWithinLimits s (after c w)
limited g s SpendsUnit w may h = record { fuel = (let less : w.units < s.fuel = may in omega (arith, less)); choices = h.choices; items = h.items; backpressures = h.backpressures }
limited g s (UsesPicks picks) w may h =
    record { fuel = h.fuel; choices = subst (λ (n : ℕ). n ≤ length s.picks) (sym may.1) (picks_left s w may.0 h.choices); items = h.items; backpressures = h.backpressures }
limited g s TakesItem w may h =
    record { fuel = h.fuel; choices = h.choices; items = (let less : w.taken < length s.items = within s.items w.taken may in omega (arith, less)); backpressures = h.backpressures }
limited g s BeginsInstance w may h =
    record { fuel = h.fuel; choices = h.choices; items = h.items; backpressures = all_more (λ (inst : Inst). inst.backpressure ≤ most_backpressure) w.insts new_inst h.backpressures (omega arith) }
limited g s (AddsEntry i entry) w may h =
    record { fuel = h.fuel; choices = h.choices; items = h.items; backpressures = all_changed (λ (inst : Inst). inst.backpressure ≤ most_backpressure) i _ w.insts (λ x e p. p) h.backpressures }
limited g s (MakesSet i set) w may h =
    record {
      fuel = h.fuel;
      choices = h.choices;
      items = h.items;
      backpressures =
          all_changed (λ (inst : Inst). inst.backpressure ≤ most_backpressure) i _ _ (λ x e p. p) (all_changed (λ (inst : Inst). inst.backpressure ≤ most_backpressure) i _ w.insts (λ x e p. p) h.backpressures);
    }
limited g s (RemovesEntry i index) w may h =
    record { fuel = h.fuel; choices = h.choices; items = h.items; backpressures = all_changed (λ (inst : Inst). inst.backpressure ≤ most_backpressure) i _ w.insts (λ x e p. p) h.backpressures }
limited g s (RemovesWaitable i index) w may h =
    record {
      fuel = h.fuel;
      choices = h.choices;
      items = h.items;
      backpressures =
          all_changed (λ (inst : Inst). inst.backpressure ≤ most_backpressure) i _ _ (λ x e p. p) (all_changed (λ (inst : Inst). inst.backpressure ≤ most_backpressure) i _ w.insts (λ x e p. p) h.backpressures);
    }
limited g s (LeavesSet i index) w may h =
    record { fuel = h.fuel; choices = h.choices; items = h.items; backpressures = all_changed (λ (inst : Inst). inst.backpressure ≤ most_backpressure) i _ w.insts (λ x e p. p) h.backpressures }
limited g s (JoinsSet i index set) w may h =
    record { fuel = h.fuel; choices = h.choices; items = h.items; backpressures = all_changed (λ (inst : Inst). inst.backpressure ≤ most_backpressure) i _ w.insts (λ x e p. p) h.backpressures }
limited g s (HasBackpressure i pressure) w may h = record { fuel = h.fuel; choices = h.choices; items = h.items; backpressures = pressed_few w.insts i pressure may h.backpressures }
limited g s (MakesChannel kind element) w may h = made_kept (IsWithinLimits s) (λ v x k. k) (λ v x k. k) kind element w h
limited g s (Offers e call) w may h = channel_kept (IsWithinLimits s) (λ v x k. k) (λ v x k. k) e.kind e.number _ w h
limited g s (Transfers e size values) w may h =
    channel_kept (IsWithinLimits s) (λ v x k. k) (λ v x k. k) e.kind e.number _ _ (channel_kept (IsWithinLimits s) (λ v x k. k) (λ v x k. k) e.kind e.number _ w h)
limited g s (Concludes e) w may h = channel_kept (IsWithinLimits s) (λ v x k. k) (λ v x k. k) e.kind e.number _ w h
limited g s (DropsEnd e) w may h = channel_kept (IsWithinLimits s) (λ v x k. k) (λ v x k. k) e.kind e.number _ w h
limited g s (GoesTo control) w may h = h
limited g s (HasStore store) w may h = h
limited g s (IsCalled callee call values) w may h = h
limited g s (Calls number callee subtask words) w may h = h
limited g s (ComesBack t) w may h = h
limited g s (Acts t) w may h = h
limited g s (Begins n) w may h = h
limited g s (Cancels t callee number words) w may h = h
limited g s (Blocks t state) w may h = h
limited g s (Exits t) w may h = h
limited g s (IsRemoved t) w may h = h
limited g s (Resolves t resolution) w may h = h
limited g s (IsCancelled t cancellation) w may h = h
limited g s (HasWord t slot word) w may h = h
limited g s (HasNewStack t k) w may h = h
limited g s (HasStack t k) w may h = h
limited g s (LosesStack t) w may h = h
limited g s (IsAnswered t words) w may h = h
limited g s (IsTold t state) w may h = h
limited g s (IsLent t handle) w may h = h
limited g s (HasResult t words) w may h = h

pub first_within_limits : FirstWithinLimits
first_within_limits g s = record { fuel = omega arith; choices = omega arith; items = omega arith; backpressures = tt }

pub stays_within_limits : StaysWithinLimits
stays_within_limits g s w v labels alone h e = kept_alone g s (IsWithinLimits s) (limited g s) w v labels alone h e
