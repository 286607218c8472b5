-- Which indices a lifting uses, and what a table makes of them (Component Model, CanonicalABI.md, "Loading", "Flat Lifting", `lift_own`,
-- `lift_borrow`, `lift_stream` and `lift_future`). Lifting that lists the indices and takes each for itself gives them in order, from left
-- to right, and behind them a plain value or a fault. A table takes them in this order, up to the first that it refuses.
use Rattle.std.specs.Prelude.{◌≡◌, ℕ, ◌+◌, ◌-◌, ◌≤◌, nat_le, if◌then◌else◌, List, [], ◌∷◌, ◌++◌, map, Option, Some, None, Result, Ok, Err}
use Rattle.faults.specs.declared.memory.MemoryOr.{MemoryOr}
use Rattle.faults.specs.declared.memory.MemoryOr.TheVariants.{Memory, Fault}
use Rattle.syntax_trees.specs.declared.types.ValType.{ValType}
use Rattle.syntax_trees.specs.declared.value.Handle as plain_handles
use Rattle.syntax_trees.specs.declared.value.Value.{Value, fold-Value, roll-Value}
use Rattle.syntax_trees.specs.declared.value.Value.TheOpen.{Value-F}
use Rattle.syntax_trees.specs.declared.value.Value.TheVariants as plain
use Rattle.handle_table.specs.History.{Event, Remove}
use Rattle.handle_table.specs.Laws.{with_changed}
use Rattle.handle_table.specs.Slots.{Slots, StandsFor}
use Rattle.res_handles.specs.declared.handle.Handle.{Handle}
use Rattle.res_handles.specs.declared.entry.EntryView.{EntryView}
use Rattle.res_handles.specs.declared.entry.EntryView.TheVariants as seen
use Rattle.res_handles.specs.Calls.{with_lends, lends_in, view_at, shown}
use Rattle.res_handles.specs.Runs.{Call, LiftsOwn, LiftsBorrow, RemovesOther, ComesOf}
use Rattle.value_lift.specs.declared.counting.LiftOf.{LiftOf}
use Rattle.value_lift.specs.declared.trap.LiftTrap.{LiftTrap}
use Rattle.value_lift.specs.declared.trap.LiftWhy.TheVariants.{TooLarge}
use Rattle.value_lift.specs.Leaves.{trap}
use Rattle.value_lift.specs.Ledger.{Ledger, Came, Use, What, AnOwn, ABorrow, AnEnd, counting}
use Rattle.value_lift.specs.Over.{load_by, load_list_by, lift_flat_by}
use Rattle.value_lift.specs.Lifting.{load, load_list, lift_flat, most}
use Rattle.value_lift.specs.Tables.{Kept, Stop, stopped, taken_as, by_table}

-- how much may be counted still, and the indices that were used, in order
pub record Listed : Type 0 where
  pub left : ℕ
  pub uses : List Use

abbrev pub listed_spent : ℕ → ℕ → Listed → Result Listed (LiftTrap × List Use)
listed_spent many place k = if nat_le many k.left then Ok (record { left = k.left - many; uses = k.uses }) else Err (trap TooLarge place, k.uses)

-- Indices are listed, and each names itself.
abbrev pub listing : Ledger Listed (LiftTrap × List Use)
listing = record {
  spend = listed_spent;
  stop = λ fault k. (fault, k.uses);
  take = λ u k. Ok (u.index, record { left = k.left; uses = k.uses ++ u ∷ [] });
}

-- before anything is lifted, where so much may be counted
abbrev pub none_listed : ℕ → Listed
none_listed left = record { left = left; uses = [] }

-- the indices that were used
abbrev pub uses_in : {A : Type 0} → Came Listed (LiftTrap × List Use) A → List Use
uses_in (Ok x) = x.1.uses
uses_in (Err x) = x.1

-- without the list, the plain value or the fault
abbrev pub unlisted : {A : Type 0} → Came Listed (LiftTrap × List Use) A → Result A LiftTrap
unlisted (Ok x) = Ok x.0
unlisted (Err x) = Err x.0

-- what an index names: the representation of a handle, the number of an end
abbrev pub name_of : Option EntryView → ℕ
name_of None = 0
name_of (Some seen.Other) = 0
name_of (Some (seen.Handle x)) = x.rep
name_of (Some (seen.ReadableEnd x)) = x.number

abbrev pub names_in : {E : Type 0} → (E → EntryView) → Slots E → ℕ → ℕ
names_in view s index = name_of (view_at view s index)

-- a plain value with each index replaced by what it names
abbrev pub carried_handle : (ℕ → ℕ) → plain_handles.Handle → plain_handles.Handle
carried_handle names h = record { resource = h.resource; rep = names h.rep }

abbrev pub carried_step : (ℕ → ℕ) → Value-F Value → Value
carried_step names (Value-F.Own h) = plain.Own (carried_handle names h)
carried_step names (Value-F.Borrow h) = plain.Borrow (carried_handle names h)
carried_step names (Value-F.Stream n) = plain.Stream (names n)
carried_step names (Value-F.Future n) = plain.Future (names n)
carried_step names other = roll-Value other

abbrev pub carried : (ℕ → ℕ) → Value → Value
carried names = fold-Value Value (carried_step names)

abbrev pub all_carried : (ℕ → ℕ) → List Value → List Value
all_carried names all = map (carried names) all

-- the entry that a handle becomes that is lent once more
abbrev pub lent_in : {E : Type 0} → (Handle → E) → ℕ → Option EntryView → List (Event E) → List (Event E)
lent_in made index None h = h
lent_in made index (Some seen.Other) h = h
lent_in made index (Some (seen.ReadableEnd x)) h = h
lent_in made index (Some (seen.Handle x)) h = with_changed index (made (with_lends (x.lends + 1) x)) h

-- the call that a use is, of a run of calls over the table,
abbrev pub call_for : What → ℕ → Call
call_for (AnOwn resource) index = LiftsOwn index resource
call_for (ABorrow resource) index = LiftsBorrow index resource
call_for (AnEnd type) index = RemovesOther index

-- and what it makes of a history
abbrev pub event_for : {E : Type 0} → (E → EntryView) → (Handle → E) → What → ℕ → Slots E → List (Event E) → List (Event E)
event_for view made (AnOwn resource) index s h = Remove index ∷ h
event_for view made (ABorrow resource) index s h = lent_in made index (view_at view s index) h
event_for view made (AnEnd type) index s h = Remove index ∷ h

module _ {E : Type 0} where
  -- goes on behind a use that is taken
  abbrev pub applied_by : Result (ℕ × Kept E) (Stop E) → (Kept E → Result (Kept E) (Stop E)) → Result (Kept E) (Stop E)
  applied_by (Ok x) f = f x.1
  applied_by (Err stop) f = Err stop

  abbrev pub added_by : {A : Type 0} → Result (ℕ × Kept E) (Stop E) → A → (Kept E → A) → A
  added_by (Ok x) before f = f x.1
  added_by (Err stop) before f = before

  -- the slots behind uses, up to the first that is refused
  abbrev pub slots_behind : Result (Kept E) (Stop E) → Slots E
  slots_behind (Ok k) = k.slots
  slots_behind (Err stop) = stop.slots

module _ {E : Type 0} (view : E → EntryView) (made : Handle → E) (end_type : E → Option ℕ) (types : List ValType) where
  -- The table takes uses, one after the other, up to the first that it refuses.
  abbrev pub applied : List Use → Kept E → Result (Kept E) (Stop E)
  applied [] k = Ok k
  applied (u ∷ uses) k = applied_by (taken_as view made end_type types u.what u k) (λ now. applied uses now)

  -- What it makes of what is listed: the first use that is refused is the fault, at its place; else it is the fault that lifting itself
  -- comes to, or the value with each index replaced by what it named before. What was lent or has left the table stays so.
  abbrev pub settled : {A : Type 0} → ((ℕ → ℕ) → A → A) → Kept E → Came Listed (LiftTrap × List Use) A → Came (Kept E) (Stop E) A
  settled carry k (Ok x) =
      counting (applied x.1.uses k) (λ now. Ok (carry (names_in view k.slots) x.0, record { left = x.1.left; slots = now.slots; moved = now.moved }))
  settled carry k (Err x) = counting (applied x.1 k) (λ now. Err (stopped x.0 now))

  -- what the uses that are taken add to a run of calls, the latest first, and to a history
  abbrev pub run_behind : List Use → Kept E → List Call → List Call
  run_behind [] k r = r
  run_behind (u ∷ uses) k r = added_by (taken_as view made end_type types u.what u k) r (λ now. run_behind uses now (call_for u.what u.index ∷ r))

  abbrev pub history_behind : List Use → Kept E → List (Event E) → List (Event E)
  history_behind [] k h = h
  history_behind (u ∷ uses) k h =
      added_by (taken_as view made end_type types u.what u k) h (λ now. history_behind uses now (event_for view made u.what u.index k.slots h))

  -- Slots that come of a run, or of a history, come of a longer one behind these uses.
  abbrev pub RunGrows : List Use → Kept E → Slots E → Type 0
  RunGrows uses k slots = (r : List Call) → ComesOf r (shown view k.slots) → ComesOf (run_behind uses k r) (shown view slots)

  abbrev pub HistoryGrows : List Use → Kept E → Slots E → Type 0
  HistoryGrows uses k slots = (h : List (Event E)) → StandsFor h k.slots → StandsFor (history_behind uses k h) slots

  -- Lifting over a table is what the table makes of what is listed.
  abbrev pub LoadsAreSettled : Type 0
  LoadsAreSettled =
      (type : ValType) (memory : List ℕ) (place : ℕ) (k : Kept E)
      → load_by (by_table view made end_type types) type memory place k ≡ settled carried k (load_by listing type memory place (none_listed k.left))

  abbrev pub ListsAreSettled : Type 0
  ListsAreSettled =
      (type : ValType) (memory : List ℕ) (place count : ℕ) (k : Kept E)
      → load_list_by (by_table view made end_type types) type memory place count k ≡ settled all_carried k (load_list_by listing type memory place count (none_listed k.left))

  abbrev pub WordsAreSettled : Type 0
  WordsAreSettled =
      (type : ValType) (memory words : List ℕ) (k : Kept E)
      → lift_flat_by (by_table view made end_type types) type memory words k ≡ settled carried k (lift_flat_by listing type memory words (none_listed k.left))

-- Without the list it is plain lifting.
abbrev pub ListedLoadsArePlain : Type 0
ListedLoadsArePlain =
    (what : LiftOf) (type : ValType) (memory : List ℕ) (place : ℕ) → unlisted (load_by listing type memory place (none_listed (most what))) ≡ load what type memory place

abbrev pub ListedListsArePlain : Type 0
ListedListsArePlain =
    (type : ValType) (memory : List ℕ) (place count : ℕ) → unlisted (load_list_by listing type memory place count (none_listed 134217728)) ≡ load_list type memory place count

abbrev pub ListedWordsArePlain : Type 0
ListedWordsArePlain =
    (what : LiftOf) (type : ValType) (memory words : List ℕ) → unlisted (lift_flat_by listing type memory words (none_listed (most what))) ≡ lift_flat what type memory words

-- Each handle is lent at most so much more often.
abbrev pub LendsRise : {E : Type 0} → (E → EntryView) → ℕ → Slots E → Slots E → Type 0
LendsRise view many s t = (index : ℕ) → lends_in (view_at view t index) ≤ lends_in (view_at view s index) + many

-- This holds unless memory was short.
abbrev pub UnlessMemory : {A : Type 0} → Result A (MemoryOr LiftTrap) → Type 0 → Type 0
UnlessMemory (Ok x) P = P
UnlessMemory (Err (Fault fault)) P = P
UnlessMemory (Err Memory) P = Unit {0}
