use Rattle.standing.proofs.Tables.{entries_are_alike, next_is_alike, room_is_alike}
use Rattle.standing.proofs.Changes.{acting_is_alike, fuel_is_alike, picks_are_alike}
use Rattle.standing.proofs.laws.found_alike.Goals as goal

pub returns : goal.returns
returns c = record {
  entries = entries_are_alike;
  next = next_is_alike;
  room = room_is_alike;
  acting = acting_is_alike;
  fuel = fuel_is_alike;
  picks = picks_are_alike;
}
