-- The scheduler takes an item, or lets a task go on: typed worlds are left.
use Rattle.std.proofs.Common.{◌≡◌, ◌∙◌, inr, ℕ, zero, suc, true, if◌then◌else◌, List, [], ◌∷◌, map, refl, ap, subst, Option, Some, None}
use Rattle.std.specs.List.{slice_get}
use Rattle.tasks.specs.Tasks.{may_cancel}
use Rattle.comp_graph.specs.Graph.{Graph, Lifted, func_named}
use Rattle.script_reader.specs.Script.{Script}
use Rattle.script_reader.specs.declared.script.Item.{Item}
use Rattle.script_reader.specs.declared.script.Item.TheVariants as item
use Rattle.trace_labels.specs.declared.label.Label.TheVariants as line
use Rattle.abi_machine.specs.Control.{Free}
use Rattle.abi_machine.specs.World.{Func, Host, Task, World}
use Rattle.abi_machine.specs.Edits.{chained, item_taken}
use Rattle.abi_machine.specs.Reading.{acting}
use Rattle.abi_machine.specs.Counting.{task_view}
use Rattle.abi_machine.specs.Cancelling.{cancelled_turn}
use Rattle.abi_machine.specs.Choosing.{chosen}
use Rattle.abi_machine.specs.Turn.{silent}
use Rattle.abi_machine.specs.Scheduling.{Alternative, Takes, GoesOn, able, item_first, alternatives, call_taken, task_of_call, cancel_taken, item_turn, gone, going_turn, alternative_turn, one_of, free_turn, chosen_turn}
use Rattle.abi_machine.specs.sound.TypedSteps.{PassesFit}
use Rattle.abi_machine.specs.sound.TypedWorlds.{types_of}
use Rattle.abi_machine.specs.sound.Values.{EachIs}
use Rattle.abi_machine.proofs.sound.Found.{some_same}
use Rattle.abi_machine.proofs.sound.worlds.Grounds.{NotSync, ground_more}
use Rattle.abi_machine.proofs.sound.worlds.Turns.{IsGround, Good, behind_good, given_good, either_good, charged_good}
use Rattle.abi_machine.proofs.sound.worlds.Resuming.{cancelled_good}

-- What the script called no task waits for.
abbrev pub IsHosts : Graph → World → Type 0
IsHosts g w = (call : ℕ) (found : ℕ × Task) → task_of_call call w ≡ Some found → (x : Task) → slice_get w.tasks found.0 ≡ Some x → NotSync g x

none_goes : (ts : List ℕ) (k : ℕ) (i : Item) → slice_get (map GoesOn ts) k ≡ Some (Takes i) → ⊥
none_goes [] k i h = cc
none_goes (t ∷ ts) zero i h = cc
none_goes (t ∷ ts) (suc k) i h = none_goes ts k i h

-- what is taken is the next item
takes_is : (o : Option Item) (ts : List ℕ) (k : ℕ) (i : Item) → slice_get (item_first o (map GoesOn ts)) k ≡ Some (Takes i) → o ≡ Some i
takes_is None ts k i h = absurd (none_goes ts k i h)
takes_is (Some j) ts zero i h = cc
takes_is (Some j) ts (suc k) i h = absurd (none_goes ts k i h)

module _ (g : Graph) (P : List ℕ → Type 0) (s : Script) where
  item_good : (i : Item) (w : World) → IsGround g w → PassesFit g i → IsHosts g w → Good g P (item_turn g s i w)
  unfolding item_turn call_taken cancel_taken
  item_good (item.Call call) w ground passes hosts =
      given_good g P (func_named g call.name) _ (λ f e. λ a inside. inr (record {
        ground = ground_more g w.store (Func f) (Host _ call.values) w.tasks w.insts None tt (λ other runs. subst (λ (x : Lifted). EachIs (types_of x) call.values) (some_same runs) (passes f e)) ground;
        acts = tt;
      }))
  item_good (item.Cancel call) w ground passes hosts =
      given_good g P (task_of_call call w) _ (λ (found : ℕ × Task) e.
      behind_good g P (line.Cancel call ∷ []) (if may_cancel (task_view g (item_taken w) found.0 found.1) then cancelled_turn g found.0 found.1 Free (item_taken w) else silent Free (item_taken w))
      (either_good g P (may_cancel (task_view g (item_taken w) found.0 found.1)) (cancelled_turn g found.0 found.1 Free (item_taken w)) (silent Free (item_taken w))
      (λ may. cancelled_good g P found.0 found.1 Free (item_taken w) ground (λ x there. hosts call found e x there) (λ v own. record { ground = own; acts = tt }))
      (λ not. λ a inside. inr (record { ground = ground; acts = tt }))))

  pub going_good : (w : World) → IsGround g w → Good g P (going_turn s w)
  unfolding going_turn gone
  going_good w ground = given_good g P (acting w) _ (λ (a : ℕ × Task) e. charged_good g P true s w (λ v. gone a.0 v) (λ units. λ b inside. inr (record { ground = ground; acts = tt })))

  alternative_good : (x : Alternative) (w : World) → IsGround g w → ((i : Item) → x ≡ Takes i → PassesFit g i) → IsHosts g w → Good g P (alternative_turn g s x w)
  unfolding alternative_turn gone
  alternative_good (Takes i) w ground passes hosts = charged_good g P true s w (λ v. item_turn g s i v) (λ units. item_good i (record w { units = units }) ground (passes i refl) (λ call found e x there. hosts call found e x there))
  alternative_good (GoesOn t) w ground passes hosts = charged_good g P true s w (λ v. gone t (chained t v)) (λ units. λ a inside. inr (record { ground = ground; acts = tt }))

  one_good : (all : List Alternative) (w : World) → IsGround g w → ((k : ℕ) (i : Item) → slice_get all k ≡ Some (Takes i) → PassesFit g i) → IsHosts g w → Good g P (one_of g s all w)
  unfolding one_of chosen
  one_good [] w ground passes hosts = tt
  one_good (x ∷ []) w ground passes hosts = alternative_good x w ground (λ i e. passes 0 i (ap (λ (y : Alternative). Some y) e)) hosts
  one_good (x ∷ other ∷ others) w ground passes hosts = λ a inside. inr (record { ground = ground; acts = tt })

  pub free_good : (w : World) → IsGround g w → ((i : Item) → slice_get s.items w.taken ≡ Some i → PassesFit g i) → IsHosts g w → Good g P (free_turn g s w)
  unfolding free_turn
  free_good w ground passes hosts = one_good (alternatives g s w) w ground (λ k i e. passes i (takes_is (slice_get s.items w.taken) (able g w) k i e)) hosts

  pub chosen_good : (k : ℕ) (w : World) → IsGround g w → ((i : Item) → slice_get s.items w.taken ≡ Some i → PassesFit g i) → IsHosts g w → Good g P (chosen_turn g s k w)
  unfolding chosen_turn
  chosen_good k w ground passes hosts =
      given_good g P (slice_get (alternatives g s w) k) _ (λ x e. alternative_good x w ground (λ i same. passes i (takes_is (slice_get s.items w.taken) (able g w) k i (e ∙ ap (λ (y : Alternative). Some y) same))) hosts)
