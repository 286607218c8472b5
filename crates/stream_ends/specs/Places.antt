-- Meeting places of a stream (Component Model, CanonicalABI.md, "Stream State"): both ends, and the meeting whose elements are to be copied
-- still; and the runs of calls of which a meeting place comes.
use Rattle.std.specs.Prelude.{◌≡◌, ℕ, zero, suc, nat_lt, nat_eq, Bool, ◌&&◌, IsTrue, List, [], ◌∷◌, ◌++◌}
use Rattle.stream_ends.specs.declared.side.Side.{Side}
use Rattle.stream_ends.specs.declared.open_copy.OpenCopy.{OpenCopy}
use Rattle.stream_ends.specs.declared.meet.Meet.{Meet}
use Rattle.stream_ends.specs.declared.meet.Meet.TheVariants.{Stands, Copies, Dropped, Displaces, ZeroDone, NothingNow}
use Rattle.stream_ends.specs.Ends.{EndsView}
use Rattle.stream_ends.specs.Meeting.{met_at, after, IsDue, Sound}
use Rattle.stream_ends.specs.Closed.{new_ends}
use Rattle.stream_ends.specs.Runs.{Act, count_of, run}

-- Both ends, and how many elements the last call is to copy, 0 where it copies none or something was called since.
pub record MeetingPlace : Type 0 where
  pub ends : EndsView
  pub due : ℕ

-- nothing is to be copied
abbrev pub settled : EndsView → MeetingPlace
settled ends = record { ends = ends; due = 0 }

-- a call of a side, with its offer
abbrev pub offered_at : Side → OpenCopy → MeetingPlace → MeetingPlace
offered_at side call p = record { ends = after side (met_at side call p.ends); due = count_of (met_at side call p.ends).meet }

-- a meeting of so many elements is due
abbrev pub is_due : ℕ → MeetingPlace → Bool
is_due count p = nat_lt 0 count && nat_eq p.due count

-- what a meeting copies is due
abbrev pub AsksIfCopies : Meet → MeetingPlace → Type 0
AsksIfCopies (Copies count) p = IsTrue (is_due count p)
AsksIfCopies Stands p = Unit {0}
AsksIfCopies Dropped p = Unit {0}
AsksIfCopies Displaces p = Unit {0}
AsksIfCopies ZeroDone p = Unit {0}
AsksIfCopies NothingNow p = Unit {0}

-- Where elements are to be copied, the standing offer has room for them, and the other side is that of a call.
abbrev pub DueFits : ℕ → EndsView → Type 0
DueFits zero ends = Unit {0}
DueFits (suc more) ends = IsDue (suc more) ends

pub record SoundPlace (p : MeetingPlace) : Type 0 where
  pub ends : Sound p.ends
  pub due : DueFits p.due p.ends

-- The ends are those after this run.
abbrev pub ComesOf : List Act → MeetingPlace → Type 0
ComesOf acts p = p.ends ≡ (run acts new_ends).view

-- A call is part of a run once what it copies is copied.
abbrev pub ComesOfCall : List Act → Act → Meet → MeetingPlace → Type 0
ComesOfCall acts call (Copies count) p = ComesOf acts p
ComesOfCall acts call Stands p = ComesOf (acts ++ call ∷ []) p
ComesOfCall acts call Dropped p = ComesOf (acts ++ call ∷ []) p
ComesOfCall acts call Displaces p = ComesOf (acts ++ call ∷ []) p
ComesOfCall acts call ZeroDone p = ComesOf (acts ++ call ∷ []) p
ComesOfCall acts call NothingNow p = ComesOf (acts ++ call ∷ []) p
