-- Where the event of a member comes, the member that was picked is there, and what gets the event; and a task that goes on from a set has a cause.
use Rattle.comp_graph.specs.Graph.{Graph}
use Rattle.script_reader.specs.Script.{Script}
use Rattle.abi_machine.specs.Control.{Control, Free, Chosen, Instantiates, Runs, Arrives, Lowers, Quiet, Back, Goes as GoesOn, Resumes, Delivers, Leaves, Doomed}
use Rattle.abi_machine.specs.Control as control
use Rattle.abi_machine.specs.World.{World}
use Rattle.abi_machine.specs.Edits.{with_control}
use Rattle.abi_machine.specs.sound.Owners.{IsOwnWorld}
use Rattle.abi_machine.specs.sound.Events.{EventComes, FirstHasEvents, EventsStay}
use Rattle.abi_machine.proofs.sound.Ordered.{in_order}
use Rattle.abi_machine.proofs.sound.own.Kept.{own_kept, own_removed}
use Rattle.abi_machine.proofs.sound.known.Keeping.{Promises}
use Rattle.abi_machine.proofs.sound.known.Beside.{beside}
use Rattle.abi_machine.proofs.sound.known.Turning.{step_known}

-- what is promised of what comes next
promised : (g : Graph) (s : Script) (c : Control) (w : World) → Promises (Unit {0}) (Unit {0}) g s c w → EventComes g c (with_control Free w)
promised g s Free w h = tt
promised g s (Chosen k) w h = tt
promised g s (Instantiates n) w h = tt
promised g s Runs w h = tt
promised g s (control.Calls number words) w h = tt
promised g s Arrives w h = tt
promised g s (Lowers l plan) w h = tt
promised g s (Quiet n b) w h = tt
promised g s Back w h = tt
promised g s GoesOn w h = h tt
promised g s Resumes w h = h tt
promised g s (Delivers set receiver pick) w h = h tt
promised g s Leaves w h = tt
promised g s (Doomed t why) w h = tt

pub first_has_events : FirstHasEvents
first_has_events g = tt

pub events_stay : EventsStay
unfolding beside in_order
events_stay g s w v labels apart alone o own says waits comes e =
    promised g s v.control v
    (step_known
    (beside g s (in_order g s) ⊥ (Unit {0}) (Unit {0}) ⊥ (IsOwnWorld g) (λ a. apart) (λ event. event) (λ a u h. h) (λ c u may b belongs h. own_kept g s c u may (belongs tt) h) (λ t u may h. h) (λ t u may h. own_removed g t u h))
    w v labels (λ none. absurd none) (λ asks. absurd asks) (λ copies. absurd copies) (λ a. says) (λ event. (comes, waits)) alone.1 o.2 ((alone.0, o.0, o.1), own) e).1
