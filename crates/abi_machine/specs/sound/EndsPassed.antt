-- Readable ends (Component Model, CanonicalABI.md, "Stream State" and "Future State", `lift_stream`, `lift_future`, `lower_stream` and
-- `lower_future`, `canon stream.drop-readable`): each stands in one table at most, at one index, is of a stream or a future that was made, and was not
-- dropped. Those that are passed in values were not either, stand in no table meanwhile, and what is left of the plan of a lowering adds each of them
-- once at most. The script passes none.
use Rattle.std.specs.Prelude.{◌≡◌, ◌⊎◌, ℕ, List, [], ◌∷◌, Option, Some, None}
use Rattle.std.specs.List.{slice_get, flat_map, AllByRecursion}
use Rattle.syntax_trees.specs.declared.value.Value.{Value, fold-Value}
use Rattle.syntax_trees.specs.declared.value.Value.TheOpen.{Value-F}
use Rattle.builtin_kinds.specs.declared.EndKind.{EndKind}
use Rattle.builtin_kinds.specs.declared.EndKind.TheVariants.{Stream, Future}
use Rattle.stream_ends.specs.declared.side.Side.TheVariants.{Reader, Writer}
use Rattle.script_reader.specs.declared.script.Call.{Call}
use Rattle.script_reader.specs.declared.script.Item.{Item}
use Rattle.script_reader.specs.declared.script.Item.TheVariants as item
use Rattle.script_reader.specs.Script.{Script}
use Rattle.abi_machine.specs.LoweringOver.{New, NewOwn, NewBorrow, NewEnd, Plan, Gives, Fails, Asks, Size, Put, Adds}
use Rattle.abi_machine.specs.Control.{EndRef, Behind, InLowering, BeforeLeaving, Control, Lowers, Quiet}
use Rattle.abi_machine.specs.World.{Entry, OfEnd, Inst, Caller, Nobody, Host, Guest, Task, Channel, World}
use Rattle.abi_machine.specs.sound.EndPlaces.{EndStandsAt, EndStandsNowhere, IsLive}

-- the readable end of the stream or the future of a number
abbrev pub readable : EndKind → ℕ → EndRef
readable kind number = record { kind = kind; number = number; side = Reader }

-- the readable ends in a value, in order; and in several
abbrev pub ends_step : Value-F (List EndRef) → List EndRef
ends_step (Value-F.List all) = flat_map (λ ends. ends) all
ends_step (Value-F.Record all) = flat_map (λ ends. ends) all
ends_step (Value-F.Variant n (Some ends)) = ends
ends_step (Value-F.Variant n None) = []
ends_step (Value-F.Stream number) = readable Stream number ∷ []
ends_step (Value-F.Future number) = readable Future number ∷ []
ends_step other = []

abbrev pub ends_in : Value → List EndRef
ends_in = fold-Value (List EndRef) ends_step

abbrev pub ends_of : List Value → List EndRef
ends_of values = flat_map ends_in values

-- What is so of ends, but of those of a list; and that the ends of a list are so, and none stands there twice.
abbrev pub Besides : List EndRef → (EndRef → Type 0) → EndRef → Type 0
Besides [] P e = P e
Besides (x ∷ xs) P e = Besides xs (λ y. P y × (y ≡ x → ⊥)) e

abbrev pub AreApart : List EndRef → (EndRef → Type 0) → Type 0
AreApart [] P = Unit {0}
AreApart (x ∷ xs) P = P x × AreApart xs (λ y. P y × (y ≡ x → ⊥))

-- The end of a new entry is so; and what is so of ends but of this one.
abbrev pub IsOfNew : New → (EndRef → Type 0) → Type 0
IsOfNew (NewOwn resource rep) P = Unit {0}
IsOfNew (NewBorrow resource rep) P = Unit {0}
IsOfNew (NewEnd kind number) P = P (readable kind number)

abbrev pub ButNew : New → (EndRef → Type 0) → EndRef → Type 0
ButNew (NewOwn resource rep) P e = P e
ButNew (NewBorrow resource rep) P e = P e
ButNew (NewEnd kind number) P e = P e × (e ≡ readable kind number → ⊥)

-- The readable ends that a plan adds are so, and none is added twice.
abbrev pub AddsOnce : Plan → (EndRef → Type 0) → Type 0
AddsOnce (Gives words) P = Unit {0}
AddsOnce (Fails why) P = Unit {0}
AddsOnce (Asks ask k) P = (place : ℕ) → AddsOnce (k place) P
AddsOnce (Size k) P = (size : ℕ) → AddsOnce (k size) P
AddsOnce (Put place bytes k) P = AddsOnce k P
AddsOnce (Adds entry k) P = IsOfNew entry P × ((index : Option ℕ) → AddsOnce (k index) (ButNew entry P))

-- An end stands in a table; and it was not dropped, and stands in no table.
abbrev pub EndStands : List Inst → EndRef → Type 0
EndStands insts e = (i : ℕ) × (index : ℕ) × EndStandsAt insts i index e

abbrev pub IsOnTheWay : List Inst → List Channel → List Channel → EndRef → Type 0
IsOnTheWay insts streams futures e = IsLive e streams futures × EndStandsNowhere insts e

pub record ReadersStand (insts : List Inst) (streams futures : List Channel) : Type 0 where
  pub once : (i index j other : ℕ) (e : EndRef) → e.side ≡ Reader → EndStandsAt insts i index e → EndStandsAt insts j other e → (i ≡ j) × (index ≡ other)
  pub live : (i index : ℕ) (e : EndRef) → e.side ≡ Reader → EndStandsAt insts i index e → IsLive e streams futures

-- what is left of a plan, by what comes next
abbrev pub PassesBehind : Behind → List Inst → List Channel → List Channel → Type 0
PassesBehind (InLowering l k) insts streams futures = (place : ℕ) → AddsOnce (k place) (IsOnTheWay insts streams futures)
PassesBehind BeforeLeaving insts streams futures = Unit {0}

abbrev pub PassesOnce : Control → List Inst → List Channel → List Channel → Type 0
PassesOnce (Lowers l plan) insts streams futures = AddsOnce plan (IsOnTheWay insts streams futures)
PassesOnce (Quiet n b) insts streams futures = PassesBehind b insts streams futures
PassesOnce control insts streams futures = Unit {0}

-- The arguments of the script's calls hold no end: of those that were taken, and of all.
abbrev pub PassesNoEnd : Caller → Type 0
PassesNoEnd Nobody = Unit {0}
PassesNoEnd (Host call values) = ends_of values ≡ []
PassesNoEnd (Guest subtask) = Unit {0}

abbrev pub HostPassesNoEnd : List Task → Type 0
HostPassesNoEnd tasks = AllByRecursion (λ task. PassesNoEnd task.caller) tasks

abbrev pub ItemPassesNoEnd : Item → Type 0
ItemPassesNoEnd (item.Call call) = ends_of call.values ≡ []
ItemPassesNoEnd (item.Cancel call) = Unit {0}

abbrev pub ScriptPassesNoEnd : Script → Type 0
ScriptPassesNoEnd s = AllByRecursion ItemPassesNoEnd s.items

-- So where the script passes no end a readable end stands once, in a table or on its way.
abbrev pub ReadersPass : World → Type 0
ReadersPass w = HostPassesNoEnd w.tasks → ReadersStand w.insts w.streams w.futures

-- An end that is added is writable, or was not dropped, and stands nowhere.
abbrev pub IsFreshReader : World → Entry → Type 0
IsFreshReader w (OfEnd e) = (e.side ≡ Writer) ⊎ IsOnTheWay w.insts w.streams w.futures e
IsFreshReader w entry = Unit {0}

-- The values are those of a call of the script.
abbrev pub AreOfScript : Script → List Value → Type 0
AreOfScript s values = (place : ℕ) × (call : Call) × (slice_get s.items place ≡ Some (item.Call call)) × (call.values ≡ values)
