-- What was picked is there behind every step.
use Rattle.abi_machine.specs.Control.{Control, Free, Chosen, Instantiates, Runs, Arrives, Lowers, Quiet, Back, Goes as GoesOn, Resumes, Delivers, Leaves, Doomed}
use Rattle.abi_machine.specs.Control as control
use Rattle.abi_machine.specs.World.{World}
use Rattle.abi_machine.specs.sound.Picked.{IsPicked, FirstIsPicked, PickedStays}
use Rattle.abi_machine.proofs.sound.Ordered.{in_order}
use Rattle.abi_machine.proofs.sound.known.Keeping.{Promises}
use Rattle.abi_machine.proofs.sound.known.Beside.{beside}
use Rattle.abi_machine.proofs.sound.known.Turning.{step_known}

pub first_is_picked : FirstIsPicked
first_is_picked g s = tt

pub picked_stays : PickedStays
unfolding beside in_order
picked_stays g s w v labels alone o e =
    promised v.control v
    (step_known
    (beside g s (in_order g s) ⊥ ⊥ ⊥ ⊥ (λ u. Unit {0}) (λ apart. absurd apart) (λ event. event) (λ apart u k. absurd apart) (λ c u may b belongs k. tt) (λ t u may k. tt) (λ t u may k. tt))
    w v labels (λ none. absurd none) (λ asks. absurd asks) (λ copies. absurd copies) (λ apart. absurd apart) (λ event. absurd event) alone.1 o.2 ((alone.0, o.0, o.1), tt) e).1
  where
    promised : (c : Control) (u : World) → Promises ⊥ ⊥ g s c u → IsPicked g s c u
    promised Free u h = tt
    promised (Chosen k) u h = h
    promised (Instantiates n) u h = tt
    promised Runs u h = tt
    promised (control.Calls number words) u h = tt
    promised Arrives u h = tt
    promised (Lowers l plan) u h = tt
    promised (Quiet n b) u h = tt
    promised Back u h = tt
    promised GoesOn u h = tt
    promised Resumes u h = tt
    promised (Delivers set receiver pick) u h = tt
    promised Leaves u h = tt
    promised (Doomed t why) u h = tt
