-- What is kept holds of each world that is reached, and so none of these is stuck where what else its rule looks up is there.
use Rattle.std.proofs.Common.{◌≡◌, List, [], ◌∷◌, sym, subst}
use Rattle.comp_graph.specs.Graph.{Graph}
use Rattle.script_reader.specs.Script.{Script}
use Rattle.trace_labels.specs.declared.label.Label.{Label}
use Rattle.abi_machine.specs.World.{World, first_world}
use Rattle.abi_machine.specs.Turn.{Steps}
use Rattle.abi_machine.specs.Next.{next}
use Rattle.abi_machine.specs.Run.{Reaches}
use Rattle.abi_machine.specs.sound.Owners.{IsApart}
use Rattle.abi_machine.specs.sound.GoingOn.{IsStanding, ReachedStand, ReachedGoOn}
use Rattle.abi_machine.proofs.sound.Alone.{first_runs_alone, stays_alone}
use Rattle.abi_machine.proofs.sound.Histories.{first_has_histories, histories_stay}
use Rattle.abi_machine.proofs.sound.Ordered.{first_ordered, order_stays}
use Rattle.abi_machine.proofs.sound.Numbered.{first_numbered, stays_numbered}
use Rattle.abi_machine.proofs.sound.Calling.{first_has_called, called_stay}
use Rattle.abi_machine.proofs.sound.Callers.{first_by_canons, by_canons_stay}
use Rattle.abi_machine.proofs.sound.Guests.{first_waits_as, waits_as_stay}
use Rattle.abi_machine.proofs.sound.Holding.{first_holds_copies, copies_stay_held}
use Rattle.abi_machine.proofs.sound.Looping.{first_has_loops, loops_stay}
use Rattle.abi_machine.proofs.sound.SetWaiting.{first_has_sets, sets_stay_there}
use Rattle.abi_machine.proofs.sound.Owning.{first_is_own, own_stays}
use Rattle.abi_machine.proofs.sound.Awaited.{first_has_subtasks, subtasks_stay}
use Rattle.abi_machine.proofs.sound.Telling.{first_is_told, told_stays}
use Rattle.abi_machine.proofs.sound.Cancelling.{first_has_cancels, cancels_stay}
use Rattle.abi_machine.proofs.sound.Picking.{first_is_picked, picked_stays}
use Rattle.abi_machine.proofs.sound.Taking.{first_calls_have_tasks, calls_keep_tasks}
use Rattle.abi_machine.proofs.sound.Coming.{first_has_events, events_stay}
use Rattle.abi_machine.proofs.sound.nexts.Turning.{worlds_go_on}

pub first_stands : (g : Graph) (s : Script) → IsApart g → IsStanding g s (first_world g)
first_stands g s apart = record {
  alone = first_runs_alone g;
  histories = first_has_histories g;
  ordered = first_ordered g;
  numbered = first_numbered g;
  called = first_has_called g;
  by_canons = first_by_canons g;
  waits = first_waits_as g;
  copies = first_holds_copies g;
  loops = first_has_loops g;
  sets = first_has_sets g;
  subtasks = first_has_subtasks g;
  told = first_is_told g;
  cancels = first_has_cancels g;
  own = (first_is_own g apart).0;
  control_own = (first_is_own g apart).1;
  picked = first_is_picked g s;
  taken = first_calls_have_tasks g s;
  events = first_has_events g;
}

pub standing_stays : (g : Graph) (s : Script) (w v : World) (labels : List Label) → IsApart g → IsStanding g s w → next g s w ≡ Steps labels v → IsStanding g s v
standing_stays g s w v labels apart h e =
    let own = own_stays g s w v labels apart h.alone h.ordered h.own h.control_own e in
    record {
      alone = stays_alone g s w v labels h.alone e;
      histories = histories_stay g s w v labels h.alone h.histories e;
      ordered = order_stays g s w v labels h.alone h.ordered e;
      numbered = stays_numbered g s w v labels h.alone h.numbered e;
      called = called_stay g s w v labels h.alone h.ordered h.called e;
      by_canons = by_canons_stay g s w v labels h.alone h.ordered h.by_canons e;
      waits = waits_as_stay g s w v labels h.alone h.waits e;
      copies = copies_stay_held g s w v labels h.alone h.histories h.copies e;
      loops = loops_stay g s w v labels h.alone h.ordered h.histories h.loops e;
      sets = sets_stay_there g s w v labels apart h.alone h.ordered h.histories h.own h.control_own h.sets e;
      subtasks = subtasks_stay g s w v labels h.alone h.ordered h.numbered h.called h.subtasks e;
      told = told_stays g s w v labels h.alone h.told e;
      cancels = cancels_stay g s w v labels apart h.alone h.ordered h.histories h.called h.subtasks h.told h.own h.control_own h.cancels e;
      own = own.0;
      control_own = own.1;
      picked = picked_stays g s w v labels h.alone h.ordered e;
      taken = calls_keep_tasks g s w v labels h.alone h.taken e;
      events = events_stay g s w v labels apart h.alone h.ordered h.own h.control_own h.waits h.events e;
    }

reached_from : (g : Graph) (s : Script) (steps : List (List Label)) (w v : World) → IsApart g → IsStanding g s w → Reaches g s w steps v → IsStanding g s v
reached_from g s [] w v apart h r = subst (IsStanding g s) (sym r) h
reached_from g s (labels ∷ steps) w v apart h r = reached_from g s steps r.0 v apart (standing_stays g s w r.0 labels apart h r.1) r.2

pub reached_stand : ReachedStand
reached_stand g s steps w apart r = reached_from g s steps (first_world g) w apart (first_stands g s apart) r

pub reached_go_on : ReachedGoOn
reached_go_on g s steps w apart r fed = worlds_go_on g s w (reached_stand g s steps w apart r) fed
