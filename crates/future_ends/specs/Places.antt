-- Meeting places of a future (Component Model, CanonicalABI.md, "Future State"): both ends, and whether the value of a meeting is to be copied
-- still; and the runs of calls of which a meeting place comes.
use Rattle.std.specs.Prelude.{◌≡◌, Bool, true, false, IsTrue, List, [], ◌∷◌, ◌++◌}
use Rattle.stream_ends.specs.declared.side.Side.{Side}
use Rattle.stream_ends.specs.declared.open_copy.OpenCopy.{OpenCopy}
use Rattle.stream_ends.specs.Ends.{EndsView}
use Rattle.stream_ends.specs.Closed.{new_ends}
use Rattle.future_ends.specs.declared.meet.Meet.{Meet}
use Rattle.future_ends.specs.declared.meet.Meet.TheVariants.{Stands, Copies, Dropped}
use Rattle.future_ends.specs.Meeting.{met_at, after, IsDue, Sound}
use Rattle.future_ends.specs.Runs.{Act, run}

-- Both ends, and whether the last call is to copy the value, and nothing was called since.
pub record FuturePlace : Type 0 where
  pub ends : EndsView
  pub is_due : Bool

-- nothing is to be copied
abbrev pub settled : EndsView → FuturePlace
settled ends = record { ends = ends; is_due = false }

abbrev pub copies : Meet → Bool
copies Copies = true
copies Stands = false
copies Dropped = false

-- a call of a side, with its offer
abbrev pub offered_at : Side → OpenCopy → FuturePlace → FuturePlace
offered_at side call p = record { ends = after side call p.ends; is_due = copies (met_at side call p.ends).meet }

-- what a meeting copies is due
abbrev pub AsksIfCopies : Meet → FuturePlace → Type 0
AsksIfCopies Copies p = IsTrue p.is_due
AsksIfCopies Stands p = Unit {0}
AsksIfCopies Dropped p = Unit {0}

-- Where the value is to be copied, an offer stands, and the other side is that of a call.
abbrev pub DueFits : Bool → EndsView → Type 0
DueFits false ends = Unit {0}
DueFits true ends = IsDue ends

pub record SoundPlace (p : FuturePlace) : Type 0 where
  pub ends : Sound p.ends
  pub due : DueFits p.is_due p.ends

-- The ends are those after this run.
abbrev pub ComesOf : List Act → FuturePlace → Type 0
ComesOf acts p = p.ends ≡ (run acts new_ends).view

-- A call is part of a run once what it copies is copied.
abbrev pub ComesOfCall : List Act → Act → Meet → FuturePlace → Type 0
ComesOfCall acts call Copies p = ComesOf acts p
ComesOfCall acts call Stands p = ComesOf (acts ++ call ∷ []) p
ComesOfCall acts call Dropped p = ComesOf (acts ++ call ∷ []) p
