-- What a gate stands for: the stays of tasks at an instance, of which its holder and its number of waiting tasks are
-- computed (Component Model, CanonicalABI.md, "Task State").
use Rattle.std.specs.Prelude.{◌≡◌, ℕ, ◌≤◌, Bool, true, false, ◌&&◌, nat_eq, if◌then◌else◌, List, [], ◌∷◌, ◌++◌, count_by, Option, Some, None}
use Rattle.entry_gate.specs.declared.kind.Kind.{Kind}
use Rattle.entry_gate.specs.Kinds.{needs_entry}
use Rattle.entry_gate.specs.Gates.{GateView}

-- where a task is: outside, before it comes and after it has left; waiting to enter; inside; or inside and blocked in the
-- loop of its callback
pub data Place : Type 0 where
  Outside : Place
  Waiting : Place
  Inside : Place
  InLoop : Place

pub record Stay : Type 0 where
  pub task : ℕ
  pub kind : Kind
  pub place : Place

-- an instance as its gate sees it
pub record Instance : Type 0 where
  pub pressure : ℕ
  pub stays : List Stay

abbrev pub is_waiting : Place → Bool
is_waiting Outside = false
is_waiting Waiting = true
is_waiting Inside = false
is_waiting InLoop = false

abbrev pub is_inside : Place → Bool
is_inside Outside = false
is_inside Waiting = false
is_inside Inside = true
is_inside InLoop = false

-- the task waits to enter
abbrev pub waits : Stay → Bool
waits stay = is_waiting stay.place

-- The task holds exclusive entry: it needs it, has entered, has not left and is not blocked in its loop.
abbrev pub holds : Stay → Bool
holds stay = needs_entry stay.kind && is_inside stay.place

abbrev pub is_of : ℕ → Stay → Bool
is_of task stay = nat_eq task stay.task

-- the task that holds exclusive entry
abbrev pub holder_of : List Stay → Option ℕ
holder_of [] = None
holder_of (stay ∷ stays) = if holds stay then Some stay.task else holder_of stays

-- the instance with this task at this place, between other stays
abbrev pub with_stay : ℕ → List Stay → ℕ → Kind → Place → List Stay → Instance
with_stay pressure before task kind place after =
    record { pressure = pressure; stays = before ++ record { task = task; kind = kind; place = place } ∷ after }

abbrev pub nobody : Instance
nobody = record { pressure = 0; stays = [] }

-- The gate of an instance at which each task stays once, and of which at most one holds exclusive entry
pub record StandsFor (i : Instance) (gate : GateView) : Type 0 where
  pub pressure : gate.pressure ≡ i.pressure
  pub holder : gate.holder ≡ holder_of i.stays
  pub waiting : gate.waiting ≡ count_by waits i.stays
  pub one_holds : count_by holds i.stays ≤ 1
  pub each_once : (task : ℕ) → count_by (is_of task) i.stays ≤ 1
