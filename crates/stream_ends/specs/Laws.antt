-- What holds of every run of a stream's ends.
use Rattle.std.specs.Prelude.{◌≡◌, true, false, List, map}
use Rattle.stream_ends.specs.declared.side.Side.{Side}
use Rattle.stream_ends.specs.Ends.{end_at}
use Rattle.stream_ends.specs.Meeting.{stands}
use Rattle.stream_ends.specs.Closed.{new_ends, closed_at}
use Rattle.stream_ends.specs.Runs.{Act, run, elements, passed, payloads, payload_at}

-- At each end as many elements passed as were copied: between the ends nothing is held or lost.
abbrev pub NothingIsLost : Type 0
NothingIsLost = (acts : List Act) (side : Side) → passed side (run acts new_ends) ≡ elements acts new_ends

-- Not both ends have an offer that stands.
abbrev pub OneOfferStands : Type 0
OneOfferStands = (acts : List Act) → stands (run acts new_ends).view.reader ≡ true → stands (run acts new_ends).view.writer ≡ false

-- What an end is told are the payloads of its closed copies, each once and in order.
abbrev pub ToldOnce : Type 0
ToldOnce = (acts : List Act) (side : Side) → payloads side acts new_ends ≡ map payload_at (closed_at side (run acts new_ends))

-- Once an end is dropped nothing is copied.
abbrev pub NothingAfterDrop : Type 0
NothingAfterDrop =
    (before later : List Act) (side : Side) → (end_at side (run before new_ends).view).dropped ≡ true → elements later (run before new_ends) ≡ 0
