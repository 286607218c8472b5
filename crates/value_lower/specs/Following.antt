-- What a plan comes to in a room (Component Model, CanonicalABI.md, "Storing", "Flat Lowering"). A room is where values are
-- lowered: it has a memory and answers reallocs. Whatever is said of a room, a store puts its bytes and no others, a place is an i32, and
-- the memory gets no shorter: each room's calls have that in their contracts.
use Rattle.std.specs.Prelude.{◌≡◌, ◌≤◌, ◌<◌, ◌+◌, ◌^◌, ◌⊎◌, ℕ, List, ◌++◌, length, take, drop, Option, None, Result, Ok, Err}
use Rattle.value_lower.specs.declared.ends.LowerWhy.{LowerWhy}
use Rattle.value_lower.specs.declared.ends.RoomEnd.{RoomEnd}
use Rattle.value_lower.specs.declared.ends.RoomEnd.TheVariants.{Trapped, NoFuel, Memory}
use Rattle.value_lower.specs.declared.ends.LowerError.{LowerError}
use Rattle.value_lower.specs.declared.ends.LowerError.TheVariants as error
use Rattle.value_lower.specs.Plan.{Ask, New, Plan, Gives, Fails, Asks, Size, Put, Adds}

-- What is said of rooms: which memory one has, what it may answer to a realloc and how it is then, how it is after a store, and which
-- index an entry gets, none where the table is full, and how it is then.
pub record Rooms (R T : Type 0) : Type 1 where
  pub memory : R → List ℕ
  pub answers : R → Ask → Result ℕ (RoomEnd T) → R → Type 0
  pub wrote : R → ℕ → List ℕ → R → Type 0
  pub adds : R → New → Option ℕ → R → Type 0

abbrev pub rooms_of : {R T : Type 0} → (R → List ℕ) → (R → Ask → Result ℕ (RoomEnd T) → R → Type 0) → (R → ℕ → List ℕ → R → Type 0) → (R → New → Option ℕ → R → Type 0)
    → Rooms R T
rooms_of memory answers wrote adds = record { memory = memory; answers = answers; wrote = wrote; adds = adds }

-- A room without a table is full.
abbrev pub no_table : {R : Type 0} → R → New → Option ℕ → R → Type 0
no_table r entry given s = (given ≡ None) × (s ≡ r)

abbrev pub untabled : {R T : Type 0} → (R → List ℕ) → (R → Ask → Result ℕ (RoomEnd T) → R → Type 0) → (R → ℕ → List ℕ → R → Type 0) → Rooms R T
untabled memory answers wrote = record { memory = memory; answers = answers; wrote = wrote; adds = no_table }

-- what a plan comes to: core values, a reason, or the end of a realloc that gives no answer
pub data Came (T : Type 0) : Type 0 where
  Words : List ℕ → Came T
  Failed : LowerWhy → Came T
  Ended : RoomEnd T → Came T

-- A memory with bytes that are put at a place.
abbrev pub written : ℕ → List ℕ → List ℕ → List ℕ
written place bytes memory = take place memory ++ bytes ++ drop (place + length bytes) memory

module _ {R T : Type 0} (rooms : Rooms R T) where
  -- A realloc answers a place and leaves that room.
  abbrev pub Answered : R → Ask → ℕ → R → Type 0
  Answered r ask place s = rooms.answers r ask (Ok place) s × (place < 2 ^ 32) × (length (rooms.memory r) ≤ length (rooms.memory s))

  -- A store of bytes at a place leaves that room.
  abbrev pub Wrote : R → ℕ → List ℕ → R → Type 0
  Wrote r place bytes s = rooms.wrote r place bytes s × (rooms.memory s ≡ written place bytes (rooms.memory r))

  -- An entry gets this index, or none, and leaves that room. The memory stays.
  abbrev pub Entered : R → New → Option ℕ → R → Type 0
  Entered r entry given s = rooms.adds r entry given s × (rooms.memory s ≡ rooms.memory r)

  -- From this room the plan comes to this, and leaves that room.
  abbrev pub Follows : Plan → R → Came T → R → Type 0
  Follows (Gives words) r came s = (came ≡ Words words) × (s ≡ r)
  Follows (Fails why) r came s = (came ≡ Failed why) × (s ≡ r)
  Follows (Asks ask k) r came s =
      ((place : ℕ) × (mid : R) × Answered r ask place mid × Follows (k place) mid came s)
      ⊎ ((end : RoomEnd T) × rooms.answers r ask (Err end) s × (came ≡ Ended end))
  Follows (Size k) r came s = Follows (k (length (rooms.memory r))) r came s
  Follows (Put place bytes k) r came s = (mid : R) × Wrote r place bytes mid × Follows k mid came s
  Follows (Adds entry k) r came s = (given : Option ℕ) × (mid : R) × Entered r entry given mid × Follows (k given) mid came s

  -- Whatever what is left of the plan comes to from the room now, the whole comes to from the room before.
  abbrev pub Leads : Plan → R → Plan → R → Type 0
  Leads whole before left now = (came : Came T) (after : R) → Follows left now came after → Follows whole before came after

-- Of want of memory nothing is said.
abbrev pub IsTold : {T : Type 0} → RoomEnd T → Type 0 → Type 0
IsTold (Trapped why) fact = fact
IsTold NoFuel fact = fact
IsTold Memory fact = Unit {0}

-- A call that follows a plan up to what is left of it with its answer, or comes to the plan's end.
abbrev pub Runs : {R T A : Type 0} → Rooms R T → Plan → (A → Plan) → R → Result A (LowerError T) → R → Type 0
Runs rooms whole left r (Ok x) s = Leads rooms whole r (left x) s
Runs rooms whole left r (Err (error.Failed why)) s = Follows rooms whole r (Failed why) s
Runs rooms whole left r (Err (error.Ended end)) s = IsTold end (Follows rooms whole r (Ended end) s)

-- A call that follows a plan to its end, with the core values that its answer stands for.
abbrev pub Comes : {R T A : Type 0} → Rooms R T → Plan → (A → List ℕ) → R → Result A (LowerError T) → R → Type 0
Comes rooms plan words r (Ok x) s = Follows rooms plan r (Words (words x)) s
Comes rooms plan words r (Err (error.Failed why)) s = Follows rooms plan r (Failed why) s
Comes rooms plan words r (Err (error.Ended end)) s = IsTold end (Follows rooms plan r (Ended end) s)
