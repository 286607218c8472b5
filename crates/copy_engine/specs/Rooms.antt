-- A memory of a store, with the function that gives out places in it, as a room (Component Model, CanonicalABI.md, "Lifting and
-- Lowering Context").
use Rattle.std.specs.Prelude.{◌≡◌, ℕ, List, Result, Ok, Err}
use Rattle.value_lower.specs.declared.ends.RoomEnd.{RoomEnd}
use Rattle.value_lower.specs.declared.ends.LowerError.{LowerError}
use Rattle.value_lower.specs.declared.ends.LowerError.TheVariants as error
use Rattle.value_lower.specs.Plan.{Ask, Plan}
use Rattle.value_lower.specs.Following.{IsTold, Comes}
use Rattle.copy_engine.specs.declared.nested.NestedTrap.{NestedTrap}
use Rattle.copy_engine.specs.declared.store_room.LowerOptions.{LowerOptions}
use Rattle.copy_engine.specs.declared.store_room.StoreRoom.{StoreRoom}
use Rattle.copy_engine.specs.Nested.{RoomState, memory_with, Stores, Reallocs, rooms_with}

-- what it works on now
abbrev pub state_of : StoreRoom → RoomState
state_of r = record { store = r.store.now; units = r.fuel.now; call = r.call.now }

-- It works on what the same references lend, with the same options.
pub record Same (r s : StoreRoom) : Type 0 where
  pub store : s.store.ghost_name ≡ r.store.ghost_name
  pub fuel : s.fuel.ghost_name ≡ r.fuel.ghost_name
  pub call : s.call.ghost_name ≡ r.call.ghost_name
  pub options : s.options ≡ r.options

abbrev pub memory_of : StoreRoom → List ℕ
memory_of r = memory_with r.options (state_of r)

abbrev pub answers_of : StoreRoom → Ask → Result ℕ (RoomEnd NestedTrap) → StoreRoom → Type 0
answers_of r ask result s = Reallocs r.options (state_of r) ask result (state_of s) × Same r s

abbrev pub wrote_of : StoreRoom → ℕ → List ℕ → StoreRoom → Type 0
wrote_of r place bytes s = Stores r.options (state_of r) place bytes (state_of s) × Same r s

-- Of a lowering for which the program is short of memory nothing is said.
abbrev pub IfTold : {A T : Type 0} → Result A (LowerError T) → Type 0 → Type 0
IfTold (Ok x) fact = fact
IfTold (Err (error.Failed why)) fact = fact
IfTold (Err (error.Ended end)) fact = IsTold end fact

-- With these options a call follows a plan to its end over a store, its fuel and what is kept of a call of the host.
abbrev pub Lowers : {A : Type 0} → LowerOptions → Plan → (A → List ℕ) → RoomState → Result A (LowerError NestedTrap) → RoomState → Type 0
Lowers options plan words r result s = Comes (rooms_with options) plan words r result s
