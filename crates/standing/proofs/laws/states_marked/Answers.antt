use Rattle.standing.proofs.States.{states_change, states_are_made, new_is_marked, states_rise, states_stay, blocked_stays, going_stays, telling_stays, keeping_stays, awaiting_stays, entered_is_started, returned_is_returned, cancelled_is_cancelled}
use Rattle.standing.proofs.laws.states_marked.Goals as goal

pub returns : goal.returns
returns c = record {
  changed = states_change;
  made = states_are_made;
  new = new_is_marked;
  rises = states_rise;
  stays = states_stay;
  blocked = blocked_stays;
  going = going_stays;
  told = telling_stays;
  kept = keeping_stays;
  awaited = awaiting_stays;
  entered = entered_is_started;
  returned = returned_is_returned;
  cancelled = cancelled_is_cancelled;
}
