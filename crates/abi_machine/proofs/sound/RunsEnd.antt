-- Units are never given back, and a run ends where steps that cost nothing do.
use Rattle.std.proofs.Common.{◌≡◌, ◌≤◌, ◌<◌, ◌+◌, ◌⊎◌, inl, inr, ℕ, zero, suc, List, [], ◌∷◌, ◌++◌, refl, sym, ap, subst, arith}
use Rattle.comp_graph.specs.Graph.{Graph}
use Rattle.script_reader.specs.Script.{Script}
use Rattle.trace_labels.specs.declared.label.Label.{Label}
use Rattle.abi_machine.specs.World.{World, first_world}
use Rattle.abi_machine.specs.Turn.{Turn, Steps, Ends, Stuck}
use Rattle.abi_machine.specs.Next.{next}
use Rattle.abi_machine.specs.Run.{Reaches, lines_of}
use Rattle.abi_machine.specs.sound.Changes.{Change, GoesTo, HasStore, SpendsUnit, UsesPicks, TakesItem, BeginsInstance, AddsEntry, MakesSet, RemovesEntry, RemovesWaitable, LeavesSet, JoinsSet, HasBackpressure, IsCalled, Calls, ComesBack, Acts, Begins, Cancels, Blocks, Exits, IsRemoved, Resolves, IsCancelled, HasWord, HasNewStack, HasStack, LosesStack, IsAnswered, IsTold, IsLent, HasResult, MakesChannel, Offers, Transfers, Concludes, DropsEnd, after}
use Rattle.abi_machine.specs.sound.Premises.{Comes}
use Rattle.abi_machine.specs.sound.Initial.{RunsAlone}
use Rattle.abi_machine.specs.sound.Limits.{IsWithinLimits}
use Rattle.abi_machine.specs.sound.GoingOn.{HasNext}
use Rattle.abi_machine.specs.sound.RunsEnd.{UnitsRise, IsFree, ComesToCost, FreeStepsEnd, GoesOnEverywhere, HasRun, RunsEndSo}
use Rattle.abi_machine.proofs.sound.Aside.{channel_kept, made_kept}
use Rattle.abi_machine.proofs.sound.Alone.{kept_so, first_runs_alone, stays_alone}
use Rattle.abi_machine.proofs.sound.Limited.{first_within_limits, stays_within_limits}

module _ (g : Graph) (least : ℕ) where
  abbrev AtLeast : World → Type 0
  AtLeast u = least ≤ u.units

  rises : (s : Script) (c : Change) (u : World) → Comes g s c u → AtLeast u → AtLeast (after c u)
  rises s SpendsUnit u may h = omega (arith, h)
  rises s (MakesChannel kind element) u may h = made_kept AtLeast (λ v x k. k) (λ v x k. k) kind element u h
  rises s (Offers e call) u may h = channel_kept AtLeast (λ v x k. k) (λ v x k. k) e.kind e.number _ u h
  rises s (Transfers e size values) u may h =
      channel_kept AtLeast (λ v x k. k) (λ v x k. k) e.kind e.number _ _ (channel_kept AtLeast (λ v x k. k) (λ v x k. k) e.kind e.number _ u h)
  rises s (Concludes e) u may h = channel_kept AtLeast (λ v x k. k) (λ v x k. k) e.kind e.number _ u h
  rises s (DropsEnd e) u may h = channel_kept AtLeast (λ v x k. k) (λ v x k. k) e.kind e.number _ u h
  rises s (ComesBack t) u may h = h
  rises s (Acts t) u may h = h
  rises s (Begins n) u may h = h
  rises s (Cancels t callee number words) u may h = h
  rises s (Blocks t state) u may h = h
  rises s (Exits t) u may h = h
  rises s (IsRemoved t) u may h = h
  rises s (Resolves t resolution) u may h = h
  rises s (IsCancelled t cancellation) u may h = h
  rises s (HasWord t slot word) u may h = h
  rises s (HasNewStack t k) u may h = h
  rises s (HasStack t k) u may h = h
  rises s (LosesStack t) u may h = h
  rises s (IsAnswered t words) u may h = h
  rises s (IsTold t state) u may h = h
  rises s (IsLent t handle) u may h = h
  rises s (HasResult t words) u may h = h
  rises s (IsCalled callee call values) u may h = h
  rises s (Calls number callee subtask words) u may h = h
  rises s (GoesTo control) u may h = h
  rises s (HasStore store) u may h = h
  rises s (UsesPicks picks) u may h = h
  rises s TakesItem u may h = h
  rises s BeginsInstance u may h = h
  rises s (AddsEntry i entry) u may h = h
  rises s (MakesSet i set) u may h = h
  rises s (RemovesEntry i index) u may h = h
  rises s (RemovesWaitable i index) u may h = h
  rises s (LeavesSet i index) u may h = h
  rises s (JoinsSet i index set) u may h = h
  rises s (HasBackpressure i pressure) u may h = h

same_least : (n : ℕ) → n ≤ n
same_least n = omega arith

pub units_rise : UnitsRise
units_rise g s w v labels alone e = kept_so g s (AtLeast g w.units) (rises g w.units s) w v labels alone (same_least w.units) e

-- Runs that go on.
two_runs : (g : Graph) (s : Script) (steps more : List (List Label)) (w v u : World) → Reaches g s w steps v → Reaches g s v more u → Reaches g s w (steps ++ more) u
two_runs g s [] more w v u r later = subst (λ (x : World). Reaches g s x more u) r later
two_runs g s (labels ∷ steps) more w v u r later = (r.0, r.1, two_runs g s steps more r.0 v u r.2 later)

record Kept (s : Script) (w : World) : Type 0 where
  alone : RunsAlone w
  limits : IsWithinLimits s w

kept_next : (g : Graph) (s : Script) (w v : World) (labels : List Label) → Kept s w → next g s w ≡ Steps labels v → Kept s v
kept_next g s w v labels h e = record { alone = stays_alone g s w v labels h.alone e; limits = stays_within_limits g s w v labels h.alone h.limits e }

-- what is kept behind steps, and that no fewer units are used
record Behind (s : Script) (w v : World) : Type 0 where
  kept : Kept s v
  more : w.units ≤ v.units

behind_from : (g : Graph) (s : Script) (steps : List (List Label)) (w v : World) → Kept s w → Reaches g s w steps v → Behind s w v
behind_from g s [] w v h r = subst (Behind s w) (sym r) (record { kept = h; more = same_least w.units })
behind_from g s (labels ∷ steps) w v h r =
    let first : w.units ≤ r.0.units = units_rise g s w r.0 labels h.alone r.1 in
    let b : Behind s r.0 v = behind_from g s steps r.0 v (kept_next g s w r.0 labels h r.1) r.2 in
    let rest : r.0.units ≤ v.units = b.more in
    record { kept = b.kept; more = omega (arith, first, rest) }

rises_by_one : (a b : ℕ) → a ≤ b → (b ≡ a → ⊥) → a < b
rises_by_one zero zero less other = absurd (other refl)
rises_by_one zero (suc b) less other = omega arith
rises_by_one (suc a) zero less other = omega (arith, less)
rises_by_one (suc a) (suc b) less other =
    let before : a ≤ b = omega (arith, less) in
    let k : a < b = rises_by_one a b before (λ (same : b ≡ a). other (ap suc same)) in omega (arith, k)

module _ (g : Graph) (s : Script) (on : GoesOnEverywhere g s) (free : FreeStepsEnd g s) where
  -- what comes behind a world that is reached: the end, or a world with one unit more that is used
  record Later (w : World) : Type 0 where
    steps : List (List Label)
    world : World
    reached : Reaches g s (first_world g) steps world
    kept : Kept s world
    more : w.units < world.units

  abbrev EndsOr : World → Type 0
  EndsOr w = HasRun g s ⊎ Later w

  behind_cost : (steps : List (List Label)) (w last : World) (t : Turn) → Reaches g s (first_world g) steps last → Behind s w last → (IsFree g s last → ⊥) → next g s last ≡ t → HasNext t → EndsOr w
  behind_cost steps w last (Steps labels v) there b costs e has =
      let other : v.units ≡ last.units → ⊥ = λ same. costs (record { labels = labels; behind = v; comes = e; costs_nothing = same }) in
      let rose : last.units ≤ v.units = units_rise g s last v labels b.kept.alone e in
      let less : last.units < v.units = rises_by_one last.units v.units rose other in
      let before : w.units ≤ last.units = b.more in
      inr (record {
        steps = steps ++ labels ∷ [];
        world = v;
        reached = two_runs g s steps (labels ∷ []) (first_world g) last v there (v, e, refl);
        kept = kept_next g s last v labels b.kept e;
        more = omega (arith, less, before);
      })
  behind_cost steps w last (Ends end) there b costs e has =
      inl (record { labels = lines_of steps; last = last; end = end; runs = (steps, there, e, refl) })
  behind_cost steps w last Stuck there b costs e has = absurd has

  comes_to : (steps : List (List Label)) (w : World) → Reaches g s (first_world g) steps w → Kept s w → EndsOr w
  comes_to steps w r h =
      let c : ComesToCost g s w = free steps w r in
      let there : Reaches g s (first_world g) (steps ++ c.steps) c.last = two_runs g s steps c.steps (first_world g) w c.last r c.reached in
      behind_cost (steps ++ c.steps) w c.last (next g s c.last) there (behind_from g s c.steps w c.last h c.reached) c.costs refl (on (steps ++ c.steps) c.last there)

  -- where at most so many units are left
  ends_by : (n : ℕ) (w : World) → EndsOr w → s.fuel ≤ w.units + n → HasRun g s
  ends_by n w (inl run) left = run
  ends_by zero w (inr k) left =
      let within : k.world.units ≤ s.fuel = k.kept.limits.fuel in
      let more : w.units < k.world.units = k.more in
      absurd (omega (arith, within, more, left))
  ends_by (suc n) w (inr k) left =
      let more : w.units < k.world.units = k.more in
      let fewer : s.fuel ≤ k.world.units + n = omega (arith, more, left) in ends_by n k.world (comes_to k.steps k.world k.reached k.kept) fewer

pub runs_end_so : RunsEndSo
runs_end_so g s on free =
    let all : s.fuel ≤ (first_world g).units + s.fuel = omega arith in
    ends_by g s on free s.fuel (first_world g) (comes_to g s on free [] (first_world g) refl (record { alone = first_runs_alone g; limits = first_within_limits g s })) all
