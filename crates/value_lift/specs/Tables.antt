-- Lifting over the table of handles of a component instance (Component Model, CanonicalABI.md, `lift_own`, `lift_borrow`, `lift_stream`
-- and `lift_future`). An own handle and an end leave the table, and a borrow is lent. What was lent or has left stays so where lifting
-- stops.
use Rattle.std.specs.Prelude.{◌≡◌, ℕ, ◌+◌, ◌-◌, ◌≤◌, ◌^◌, nat_le, if◌then◌else◌, Bool, List, [], ◌∷◌, ◌++◌, Option, Result, Ok, Err, option_and_then}
use Rattle.std.specs.List.{slice_get}
use Rattle.faults.specs.declared.memory.MemoryOr.{MemoryOr}
use Rattle.faults.specs.declared.memory.MemoryOr.TheVariants.{Memory, Fault}
use Rattle.syntax_trees.specs.declared.types.ValType.{ValType}
use Rattle.laid_types.specs.SameTypes.{same_val}
use Rattle.handle_table.specs.Slots.{Slots, removed}
use Rattle.res_handles.specs.declared.handle.Handle.{Handle}
use Rattle.res_handles.specs.declared.entry.EntryView.{EntryView}
use Rattle.res_handles.specs.declared.refusal.Refusal.{Refusal}
use Rattle.res_handles.specs.Refusals.{handle_in, own_in}
use Rattle.res_handles.specs.Calls.{lends_in, view_at, lent}
use Rattle.res_handles.specs.Ends.{end_in, end_type_at, is_of_by}
use Rattle.value_lift.specs.declared.moved.Moved.{Moved}
use Rattle.value_lift.specs.declared.moved.Moved.TheVariants.{Lent, Taken}
use Rattle.value_lift.specs.declared.trap.LiftTrap.{LiftTrap}
use Rattle.value_lift.specs.declared.trap.LiftWhy.TheVariants.{TooLarge, Refused}
use Rattle.value_lift.specs.Leaves.{trap}
use Rattle.value_lift.specs.Ledger.{Ledger, Came, Use, What, AnOwn, ABorrow, AnEnd}

-- What lifting goes on with: how much may be counted still, the slots of the table, and which indices were lent and which ends taken, in
-- order;
pub record Kept (E : Type 0) : Type 0 where
  pub left : ℕ
  pub slots : Slots E
  pub moved : List Moved

-- and with what it stops.
pub record Stop (E : Type 0) : Type 0 where
  pub trap : LiftTrap
  pub slots : Slots E
  pub moved : List Moved

-- the type of an end among types, by its number
abbrev pub type_in : List ValType → Option ℕ → Option ValType
type_in types number = option_and_then (λ n. slice_get types n) number

module _ {E : Type 0} where
  abbrev pub stopped : LiftTrap → Kept E → Stop E
  stopped fault k = record { trap = fault; slots = k.slots; moved = k.moved }

  abbrev pub spent : ℕ → ℕ → Kept E → Result (Kept E) (Stop E)
  spent many place k =
      if nat_le many k.left
      then Ok (record { left = k.left - many; slots = k.slots; moved = k.moved })
      else Err (stopped (trap TooLarge place) k)

  -- An index by what is found there: an own handle leaves the table,
  abbrev pub taken_own : Result Handle Refusal → Use → Kept E → Result (ℕ × Kept E) (Stop E)
  taken_own (Ok x) u k = Ok (x.rep, record { left = k.left; slots = removed u.index k.slots; moved = k.moved })
  taken_own (Err why) u k = Err (stopped (trap (Refused why) u.place) k)

  -- the readable end of a type too, where it is idle,
  abbrev pub taken_end : Result ℕ Refusal → Use → Kept E → Result (ℕ × Kept E) (Stop E)
  taken_end (Ok number) u k = Ok (number, record { left = k.left; slots = removed u.index k.slots; moved = k.moved ++ Taken u.index ∷ [] })
  taken_end (Err why) u k = Err (stopped (trap (Refused why) u.place) k)

module _ {E : Type 0} (view : E → EntryView) (made : Handle → E) where
  -- and a handle is lent.
  abbrev pub taken_borrow : Result Handle Refusal → Use → Kept E → Result (ℕ × Kept E) (Stop E)
  taken_borrow (Ok x) u k = Ok (x.rep, record { left = k.left; slots = lent view made u.index k.slots; moved = k.moved ++ Lent u.index ∷ [] })
  taken_borrow (Err why) u k = Err (stopped (trap (Refused why) u.place) k)

-- whether the entry at an index is an end of this type
abbrev pub is_end_at : {E : Type 0} → (E → Option ℕ) → List ValType → Slots E → ℕ → ValType → Bool
is_end_at end_type types s index type = is_of_by same_val (type_in types (end_type_at end_type s index)) type

module _ {E : Type 0} (view : E → EntryView) (made : Handle → E) (end_type : E → Option ℕ) (types : List ValType) where
  abbrev pub taken_as : What → Use → Kept E → Result (ℕ × Kept E) (Stop E)
  taken_as (AnOwn resource) u k = taken_own (own_in (view_at view k.slots u.index) resource) u k
  taken_as (ABorrow resource) u k = taken_borrow view made (handle_in (view_at view k.slots u.index) resource) u k
  taken_as (AnEnd type) u k = taken_end (end_in (view_at view k.slots u.index) (is_end_at end_type types k.slots u.index type)) u k

  -- Over a table, where the types of ends are told by their numbers among these.
  abbrev pub by_table : Ledger (Kept E) (Stop E)
  by_table = record { spend = spent; stop = stopped; take = λ u k. taken_as u.what u k }

module _ {E A : Type 0} where
  -- A call that lifts, or is short of memory and then says nothing; and what is kept behind it.
  abbrev pub Moves : Came (Kept E) (Stop E) A → Kept E → Result A (MemoryOr LiftTrap) → Type 0
  Moves came kept (Ok x) = came ≡ Ok (x, kept)
  Moves came kept (Err (Fault fault)) = came ≡ Err (stopped fault kept)
  Moves came kept (Err Memory) = Unit {0}

  -- what is lifted with the slots and what has moved, or with what lifting stops
  abbrev pub given : Came (Kept E) (Stop E) A → Result (A × Slots E × List Moved) (Stop E)
  given (Ok x) = Ok (x.0, x.1.slots, x.1.moved)
  given (Err stop) = Err stop

  -- A public call that lifts, or is short of memory and then says nothing; and the slots and what has moved behind it.
  abbrev pub MayGive : Came (Kept E) (Stop E) A → Slots E → List Moved → Result A (MemoryOr LiftTrap) → Type 0
  MayGive came slots moved (Ok x) = given came ≡ Ok (x, slots, moved)
  MayGive came slots moved (Err (Fault fault)) = came ≡ Err (record { trap = fault; slots = slots; moved = moved })
  MayGive came slots moved (Err Memory) = Unit {0}

-- before anything is lifted, where so much may be counted
abbrev pub at_first : {E : Type 0} → ℕ → Slots E → List Moved → Kept E
at_first left slots moved = record { left = left; slots = slots; moved = moved }

-- No handle is lent more often than this.
abbrev pub MostLends : {E : Type 0} → (E → EntryView) → ℕ → Slots E → Type 0
MostLends view most s = (index : ℕ) → lends_in (view_at view s index) ≤ most

-- Each handle may be lent as often as something may be counted still.
abbrev pub FewLends : {E : Type 0} → (E → EntryView) → ℕ → Slots E → Type 0
FewLends view left s = (index : ℕ) → lends_in (view_at view s index) + left ≤ 2 ^ 63 + 2 ^ 28
