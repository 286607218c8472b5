-- What holds of every run of a future's ends.
use Rattle.std.specs.Prelude.{◌≡◌, ◌≤◌, true, false, List, map}
use Rattle.stream_ends.specs.declared.side.Side.{Side}
use Rattle.stream_ends.specs.Ends.{end_at}
use Rattle.stream_ends.specs.Meeting.{stands}
use Rattle.stream_ends.specs.Closed.{new_ends, closed_at}
use Rattle.stream_ends.specs.Runs.{passed}
use Rattle.future_ends.specs.Runs.{Act, run, values, payloads, payload_at, has_ended}

-- At each end as many values passed as were copied: between the ends nothing is held or lost.
abbrev pub NothingIsLost : Type 0
NothingIsLost = (acts : List Act) (side : Side) → passed side (run acts new_ends) ≡ values acts new_ends

-- Not both ends have an offer that stands.
abbrev pub OneOfferStands : Type 0
OneOfferStands = (acts : List Act) → stands (run acts new_ends).view.reader ≡ true → stands (run acts new_ends).view.writer ≡ false

-- What an end is told are the payloads of its closed copies, each once and in order.
abbrev pub ToldOnce : Type 0
ToldOnce = (acts : List Act) (side : Side) → payloads side acts new_ends ≡ map payload_at (closed_at side (run acts new_ends))

-- An end is done exactly where one of its copies was completed, or was told that the other end is dropped.
abbrev pub DoneWhereEnded : Type 0
DoneWhereEnded = (acts : List Act) (side : Side) → has_ended (closed_at side (run acts new_ends)) ≡ (end_at side (run acts new_ends).view).done

-- At most one value passes.
abbrev pub AtMostOne : Type 0
AtMostOne = (acts : List Act) → values acts new_ends ≤ 1

-- Once an end is dropped nothing is copied.
abbrev pub NothingAfterDrop : Type 0
NothingAfterDrop =
    (before later : List Act) (side : Side) → (end_at side (run before new_ends).view).dropped ≡ true → values later (run before new_ends) ≡ 0
