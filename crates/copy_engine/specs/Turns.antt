-- Lowering one step at a time (Component Model, CanonicalABI.md, "Storing", "Flat Lowering"; Core 2.0, section 4.4): what is going on,
-- and the one step that it makes. A realloc makes a step for each move of its stack; all else costs nothing.
use Rattle.std.specs.Prelude.{◌≡◌, ◌-◌, ℕ, zero, suc, nat_le, if◌then◌else◌, List, [], ◌∷◌, length, Option, Some, None}
use Rattle.wasm_store.specs.Store.{Function}
use Rattle.wasm_store.specs.Stack.{Stack}
use Rattle.wasm_store.specs.Step.{Move, Goes, Calls, Ends, Traps, Stuck, next, cost}
use Rattle.value_lower.specs.declared.ends.RoomEnd.TheVariants.{Trapped, NoFuel, Memory}
use Rattle.value_lower.specs.Plan.{Ask, Plan, Gives, Fails, Asks, Size, Put, Adds}
use Rattle.value_lower.specs.Following.{Came, Words, Failed, Ended, Follows, written}
use Rattle.copy_engine.specs.declared.store_room.LowerOptions.{LowerOptions}
use Rattle.copy_engine.specs.declared.nested.NestedTrap.{NestedTrap}
use Rattle.copy_engine.specs.declared.nested.NestedTrap.TheVariants.{Core, CannotLeave, NoRealloc}
use Rattle.copy_engine.specs.Nested.{RoomState, memory_with, with_bytes_in, realloc_in, begun, rooms_with}

-- what is going on: a plan, or the stack of a realloc, with whose place the plan goes on
pub data Doing : Type 0 where
  Plans : Plan → Doing
  Runs : Stack → (ℕ → Plan) → Doing

pub record Conf : Type 0 where
  pub doing : Doing
  pub room : RoomState

-- what a step gives: it goes on, or the lowering has come to this
pub data Turn : Type 0 where
  On : Conf → Turn
  Over : Came NestedTrap → RoomState → Turn
  NoStep : Turn

-- a step that costs so many units, where they are left
abbrev pub paid : ℕ → RoomState → (RoomState → Turn) → Turn
paid n r f = if nat_le n r.units then f (record { store = r.store; units = r.units - n; call = r.call }) else Over (Ended NoFuel) r

-- by the words with which a realloc ends
abbrev pub placed_at : List ℕ → (ℕ → Plan) → RoomState → Turn
placed_at [] plan r = NoStep
placed_at (place ∷ []) plan r = On (record { doing = Plans (plan place); room = r })
placed_at (place ∷ other ∷ words) plan r = NoStep

-- by the move of its stack
abbrev pub moved : Move → (ℕ → Plan) → RoomState → Turn
moved (Goes costs s l) plan r = On (record { doing = Runs l plan; room = record { store = s; units = r.units; call = r.call } })
moved (Calls address words waits) plan r =
    Over (Ended (Trapped CannotLeave)) (record { store = r.store; units = r.units; call = Some (record { address = address; words = words }) })
moved (Ends words) plan r = placed_at words plan r
moved (Traps why) plan r = Over (Ended (Trapped (Core why))) r
moved Stuck plan r = NoStep

abbrev pub ran : Move → Stack → (ℕ → Plan) → RoomState → Turn
ran m k plan r = paid (cost k m) r (λ left. moved m plan left)

-- a realloc begins, where there is a function to call
abbrev pub asks : Option (ℕ × Function) → Ask → (ℕ → Plan) → RoomState → Turn
asks None ask plan r = Over (Ended (Trapped NoRealloc)) r
asks (Some f) ask plan r = On (record { doing = Runs (begun f ask) plan; room = r })

abbrev pub turn_by : LowerOptions → Doing → RoomState → Turn
turn_by options (Plans (Gives words)) r = Over (Words words) r
turn_by options (Plans (Fails why)) r = Over (Failed why) r
turn_by options (Plans (Asks ask k)) r = asks (realloc_in options.realloc r.store) ask k r
turn_by options (Plans (Size k)) r = On (record { doing = Plans (k (length (memory_with options r))); room = r })
turn_by options (Plans (Put place bytes k)) r =
    On (record { doing = Plans k; room = record r { store = with_bytes_in options.memory (written place bytes (memory_with options r)) r.store } })
turn_by options (Plans (Adds entry k)) r = On (record { doing = Plans (k None); room = r })
turn_by options (Runs k plan) r = ran (next r.store k) k plan r

abbrev pub turn : LowerOptions → Conf → Turn
turn options c = turn_by options c.doing c.room

-- So many steps lead from the one to the other.
abbrev pub Turns : LowerOptions → ℕ → Conf → Conf → Type 0
Turns options zero c d = d ≡ c
Turns options (suc count) c d = (mid : Conf) × (turn options c ≡ On mid) × Turns options count mid d

-- Steps lead to the end of a lowering, which has come to this and leaves that.
pub record ComesTo (options : LowerOptions) (c : Conf) (came : Came NestedTrap) (s : RoomState) : Type 0 where
  pub count : ℕ
  pub last : Conf
  pub turns : Turns options count c last
  pub over : turn options last ≡ Over came s

-- Want of memory of the program is no end of these steps.
abbrev pub Counts : Came NestedTrap → Type 0
Counts (Words words) = Unit {0}
Counts (Failed why) = Unit {0}
Counts (Ended (Trapped why)) = Unit {0}
Counts (Ended NoFuel) = Unit {0}
Counts (Ended Memory) = ⊥

-- What a plan comes to over a store, the steps come to, one at a time.
abbrev pub FollowsBySteps : Type 0
FollowsBySteps =
    (options : LowerOptions) (plan : Plan) (r s : RoomState) (came : Came NestedTrap) → Counts came
    → Follows (rooms_with options) plan r came s
    → ComesTo options (record { doing = Plans plan; room = r }) came s
