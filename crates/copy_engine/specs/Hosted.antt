-- Lowering into a memory of a store, beside the table of the instance, which the code that gives out places sees (Component Model,
-- CanonicalABI.md, "Storing", "Flat Lowering"): what is said of such rooms, and what a lowering comes to in them.
use Rattle.std.specs.Prelude.{◌≡◌, ◌+◌, ◌≤◌, ℕ, List, length, Option, Result, Ok, Err, IfOk}
use Rattle.faults.specs.declared.memory.Memory.{Memory as Want}
use Rattle.syntax_trees.specs.declared.types.ValType.{ValType}
use Rattle.syntax_trees.specs.declared.value.Value.{Value}
use Rattle.wasm_store.specs.Store.{Store}
use Rattle.wasm_store.specs.Typed.{StoreTyped, Extends}
use Rattle.handle_table.specs.Slots.{Slots}
use Rattle.res_handles.specs.declared.entry.EntryView.{EntryView}
use Rattle.res_handles.specs.Calls.{view_at}
use Rattle.value_lower.specs.declared.ends.LowerError.{LowerError}
use Rattle.value_lower.specs.declared.ends.LowerError.TheVariants as error
use Rattle.value_lower.specs.declared.ends.RoomEnd.{RoomEnd}
use Rattle.value_lower.specs.declared.ends.RoomEnd.TheVariants.{Trapped, NoFuel, Memory}
use Rattle.value_lower.specs.Plan.{Ask, New, Plan}
use Rattle.value_lower.specs.Following as follow
use Rattle.value_lower.specs.Following.{Rooms, rooms_of, written}
use Rattle.value_lower.specs.Entering.{stored, all_stored, placed, flat_lowered}
use Rattle.value_lower.specs.Tables.{entered, gets}
use Rattle.copy_engine.specs.declared.hosted.HostedRoom.{HostedRoom}
use Rattle.copy_engine.specs.declared.hosted.HostedTrap.{HostedTrap}
use Rattle.copy_engine.specs.declared.lower_values.Target.{Target}
use Rattle.copy_engine.specs.declared.lower_values.Target.TheVariants as target
use Rattle.copy_engine.specs.declared.lower_values.Lowered.{Lowered}
use Rattle.copy_engine.specs.declared.lower_values.Lowered.TheVariants as lowered
use Rattle.copy_engine.specs.Nested.{bytes_in, with_bytes_in}
use Rattle.copy_engine.specs.Answering.{Setting}
use Rattle.copy_engine.specs.Hosting.{HostedAnswers}

-- What a lowering works on: a room and the slots of the table beside it.
pub record Placed (E : Type 0) : Type 0 where
  pub room : HostedRoom
  pub slots : Slots E

-- a store of bytes at a place of a memory changes that memory and nothing else
abbrev pub put_at : ℕ → ℕ → List ℕ → HostedRoom → HostedRoom
put_at memory place bytes r = record r { store = with_bytes_in memory (written place bytes (bytes_in memory r.store)) r.store }

-- Code that runs lets a store grow, and leaves it typed.
abbrev pub Grows : Store → Store → Type 0
Grows s t = Extends s t × StoreTyped t

module _ {E : Type 0} (seen : E → EntryView) (is : New → E → Type 0) (to : Setting) where
  abbrev pub memory_of : Placed E → List ℕ
  memory_of p = bytes_in to.options.memory p.room.store

  -- A realloc sees the table, and leaves it as it is. So does a store, of bytes that go inside. An entry leaves all else as it is.
  abbrev pub answers_of : Placed E → Ask → Result ℕ (RoomEnd HostedTrap) → Placed E → Type 0
  answers_of p ask result q = HostedAnswers to (view_at seen p.slots) p.room ask result q.room × Grows p.room.store q.room.store × (q.slots ≡ p.slots)

  abbrev pub wrote_of : Placed E → ℕ → List ℕ → Placed E → Type 0
  wrote_of p place bytes q = (place + length bytes ≤ length (memory_of p)) × (q.room ≡ put_at to.options.memory place bytes p.room) × (q.slots ≡ p.slots)

  abbrev pub adds_of : Placed E → New → Option ℕ → Placed E → Type 0
  adds_of p entry given q = gets is p.slots entry given q.slots × (q.room ≡ p.room)

  -- A memory of a store with a realloc that sees a table, as what is said of rooms.
  abbrev pub hosted_rooms : Rooms (Placed E) HostedTrap
  hosted_rooms = rooms_of memory_of answers_of wrote_of adds_of

-- The same where the setting is kept beside.
pub record Set (E : Type 0) : Type 0 where
  pub to : Setting
  pub at : Placed E

abbrev pub set_at : {E : Type 0} → Setting → HostedRoom → Slots E → Set E
set_at to room slots = record { to = to; at = record { room = room; slots = slots } }

module _ {E : Type 0} where
  abbrev pub set_memory : Set E → List ℕ
  set_memory p = bytes_in p.to.options.memory p.at.room.store

  abbrev pub set_answers : (E → EntryView) → Set E → Ask → Result ℕ (RoomEnd HostedTrap) → Set E → Type 0
  set_answers seen p ask result q = HostedAnswers p.to (view_at seen p.at.slots) p.at.room ask result q.at.room × Grows p.at.room.store q.at.room.store × (q.at.slots ≡ p.at.slots) × (q.to ≡ p.to)

  abbrev pub set_wrote : Set E → ℕ → List ℕ → Set E → Type 0
  set_wrote p place bytes q = (place + length bytes ≤ length (set_memory p)) × (q.at.room ≡ put_at p.to.options.memory place bytes p.at.room) × (q.at.slots ≡ p.at.slots) × (q.to ≡ p.to)

  abbrev pub set_adds : (New → E → Type 0) → Set E → New → Option ℕ → Set E → Type 0
  set_adds is p entry given q = gets is p.at.slots entry given q.at.slots × (q.at.room ≡ p.at.room) × (q.to ≡ p.to)

  abbrev pub set_rooms : (E → EntryView) → (New → E → Type 0) → Rooms (Set E) HostedTrap
  set_rooms seen is = rooms_of set_memory (set_answers seen) set_wrote (set_adds is)

-- The plan of a value, by where it goes, in an instance that defines these resources.
abbrev pub plan_to : Target → ValType → Value → List ℕ → Plan
plan_to target.Flat type v home = flat_lowered (entered home) type v
plan_to target.NewPlace type v home = placed (entered home) type v
plan_to (target.Place place) type v home = stored (entered home) type v place

-- Values one after the other from a place on.
abbrev pub plan_all : ValType → List Value → ℕ → List ℕ → Plan
plan_all type all place home = all_stored (entered home) type all place

-- What a plan comes to, but for want of memory.
abbrev pub as_plan : Lowered → follow.Came HostedTrap
as_plan (lowered.Words words) = follow.Words words
as_plan (lowered.Failed why) = follow.Failed why
as_plan (lowered.Trapped why) = follow.Ended (Trapped why)
as_plan lowered.NoFuel = follow.Ended NoFuel

abbrev pub PlanComesTo : {E : Type 0} → (E → EntryView) → (New → E → Type 0) → Setting → Plan → Placed E → Lowered → Placed E → Type 0
PlanComesTo seen is to plan before came after = follow.Follows (hosted_rooms seen is to) plan before (as_plan came) after

-- A call that lowers, as what its plan comes to; want of memory of the program is told apart.
abbrev pub IsLowered : Result (List ℕ) (LowerError HostedTrap) → Result Lowered Want → Type 0
IsLowered (Ok words) result = result ≡ Ok (lowered.Words words)
IsLowered (Err (error.Failed why)) result = result ≡ Ok (lowered.Failed why)
IsLowered (Err (error.Ended (Trapped why))) result = result ≡ Ok (lowered.Trapped why)
IsLowered (Err (error.Ended NoFuel)) result = result ≡ Ok lowered.NoFuel
IsLowered (Err (error.Ended Memory)) result = IfOk result (λ came. ⊥)
