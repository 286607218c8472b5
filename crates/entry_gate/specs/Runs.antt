-- What tasks do at an instance, where each enters only as the gate lets it (Component Model, CanonicalABI.md, "Task State").
use Rattle.std.specs.Prelude.{◌≡◌, ℕ, Bool, true, false, IsTrue, List, [], ◌∷◌, ◌++◌, count_by}
use Rattle.entry_gate.specs.declared.kind.Kind.{Kind}
use Rattle.entry_gate.specs.Gates.{GateView, is_open, may_enter}
use Rattle.entry_gate.specs.Stays.{Place, Outside, Waiting, Inside, InLoop, Stay, Instance, waits, is_of, holder_of, with_stay, nobody}

-- A task enters at once, begins to wait, is taken away while it waits, enters after it waited, leaves, blocks in the loop of
-- its callback, goes on in it.
pub data Act : Type 0 where
  Comes : Act
  BeginsToWait : Act
  Withdraws : Act
  GoesIn : Act
  Leaves : Act
  Pauses : Act
  TakesBack : Act

abbrev pub from_of : Act → Place
from_of Comes = Outside
from_of BeginsToWait = Outside
from_of Withdraws = Waiting
from_of GoesIn = Waiting
from_of Leaves = Inside
from_of Pauses = Inside
from_of TakesBack = InLoop

abbrev pub to_of : Act → Place
to_of Comes = Inside
to_of BeginsToWait = Waiting
to_of Withdraws = Outside
to_of GoesIn = Inside
to_of Leaves = Outside
to_of Pauses = InLoop
to_of TakesBack = Inside

-- the gate of an instance
abbrev pub gate_of : Instance → GateView
gate_of i = record { pressure = i.pressure; holder = holder_of i.stays; waiting = count_by waits i.stays }

-- the gate lets a task of this kind do it
abbrev pub lets : Act → Kind → GateView → Bool
lets Comes kind gate = may_enter kind true gate
lets BeginsToWait kind gate = true
lets Withdraws kind gate = true
lets GoesIn kind gate = may_enter kind false gate
lets Leaves kind gate = true
lets Pauses kind gate = true
lets TakesBack kind gate = is_open kind gate

-- one task does this
pub record Happens (act : Act) (old new : Instance) : Type 0 where
  pub task : ℕ
  pub kind : Kind
  pub before : List Stay
  pub after : List Stay
  pub was : old ≡ with_stay old.pressure before task kind (from_of act) after
  pub now : new ≡ with_stay old.pressure before task kind (to_of act) after
  pub may : IsTrue (lets act kind (gate_of old))

-- A task does something, a task is made, or the backpressure changes.
pub data Event : Type 0 where
  Does : Act → Event
  Makes : ℕ → Kind → Event
  Presses : ℕ → Event

pub record Made (task : ℕ) (kind : Kind) (old new : Instance) : Type 0 where
  pub first : count_by (is_of task) old.stays ≡ 0
  pub now : new ≡ record { pressure = old.pressure; stays = old.stays ++ record { task = task; kind = kind; place = Outside } ∷ [] }

abbrev pub Occurs : Event → Instance → Instance → Type 0
Occurs (Does act) old new = Happens act old new
Occurs (Makes task kind) old new = Made task kind old new
Occurs (Presses pressure) old new = new ≡ record { pressure = pressure; stays = old.stays }

-- the events, the last one first, lead from an instance without tasks to this one
abbrev pub Run : List Event → Instance → Type 0
Run [] i = i ≡ nobody
Run (event ∷ earlier) i = (old : Instance) × Run earlier old × Occurs event old i
