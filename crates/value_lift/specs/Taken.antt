-- What lifting over a table comes to, told by lifting without one (Component Model, CanonicalABI.md, "Loading", "Flat Lifting", `lift_own`,
-- `lift_borrow`, `lift_stream` and `lift_future`). The table takes the indices that are used in order, from left to right, and before any
-- later fault. The first one that it refuses is the fault, at its place. If it refuses none, it is the fault that stands there, or the
-- value that stands there with each index replaced by what it names. What was lent or has left the table before stays so.
use Rattle.std.specs.Prelude.{◌≡◌, ◌<◌, ◌⊎◌, ℕ, List, ◌∷◌, ◌++◌, Option, Ok, Err}
use Rattle.syntax_trees.specs.declared.types.ValType.{ValType}
use Rattle.syntax_trees.specs.Flat.{flat}
use Rattle.handle_table.specs.Slots.{Slots}
use Rattle.res_handles.specs.declared.handle.Handle.{Handle}
use Rattle.res_handles.specs.declared.entry.EntryView.{EntryView}
use Rattle.res_handles.specs.declared.refusal.Refusal.{Refusal}
use Rattle.value_lift.specs.declared.counting.LiftOf.{LiftOf}
use Rattle.value_lift.specs.declared.moved.Moved.{Moved}
use Rattle.value_lift.specs.declared.trap.LiftWhy.{LiftWhy}
use Rattle.value_lift.specs.declared.trap.LiftWhy.TheVariants.{Refused}
use Rattle.value_lift.specs.Leaves.{trap}
use Rattle.value_lift.specs.Ledger.{Came, Use}
use Rattle.value_lift.specs.Over.{load_by, load_list_by, lift_flat_by}
use Rattle.value_lift.specs.Lifting.{most}
use Rattle.value_lift.specs.WordStanding.{AreWords}
use Rattle.value_lift.specs.Failing.{LoadFails, LoadListFails}
use Rattle.value_lift.specs.WordFailing.{LiftFlatFails}
use Rattle.value_lift.specs.Laws.{IsLoaded, AreLoaded, IsLifted}
use Rattle.value_lift.specs.Tables.{Kept, Stop, stopped, taken_as, by_table, at_first}
use Rattle.value_lift.specs.Settled.{listing, none_listed, uses_in, names_in, carried, all_carried, applied}

module _ {E : Type 0} (view : E → EntryView) (made : Handle → E) (end_type : E → Option ℕ) (types : List ValType) (uses : List Use) (first : Kept E) where
  -- A use is the first that is refused, and lifting stops with that.
  pub record FirstRefused (stop : Stop E) : Type 0 where
    pub before : List Use
    pub refused : Use
    pub behind : List Use
    pub are : uses ≡ before ++ refused ∷ behind
    pub left : Kept E
    pub taken : applied view made end_type types before first ≡ Ok left
    pub why : Refusal
    pub refusal : taken_as view made end_type types refused.what refused left ≡ Err (stopped (trap (Refused why) refused.place) left)
    pub stops : stop ≡ stopped (trap (Refused why) refused.place) left

  -- All uses are taken, and lifting stops for another fault.
  pub record FaultBehind (Faults : LiftWhy → ℕ → Type 0) (stop : Stop E) : Type 0 where
    pub why : LiftWhy
    pub spot : ℕ
    pub fails : Faults why spot
    pub left : Kept E
    pub taken : applied view made end_type types uses first ≡ Ok left
    pub stops : stop ≡ stopped (trap why spot) left

  -- All uses are taken, and what is lifted is what stands there, with each index replaced by what it named at first.
  pub record ValueBehind {A : Type 0} (carry : (ℕ → ℕ) → A → A) (Is : A → Type 0) (lifted : A) (now : Kept E) : Type 0 where
    pub plain : A
    pub is : Is plain
    pub named : carry (names_in view first.slots) plain ≡ lifted
    pub left : Kept E
    pub taken : applied view made end_type types uses first ≡ Ok left
    pub slots : now.slots ≡ left.slots
    pub moved : now.moved ≡ left.moved

  abbrev pub ComesTo : {A : Type 0} → ((ℕ → ℕ) → A → A) → (A → Type 0) → (LiftWhy → ℕ → Type 0) → Came (Kept E) (Stop E) A → Type 0
  ComesTo carry Is Faults (Ok x) = ValueBehind carry Is x.0 x.1
  ComesTo carry Is Faults (Err stop) = FirstRefused stop ⊎ FaultBehind Faults stop

module _ {E : Type 0} (view : E → EntryView) (made : Handle → E) (end_type : E → Option ℕ) (types : List ValType) where
  -- Of a value at a place,
  abbrev pub LoadsComeTo : Type 0
  LoadsComeTo =
      (what : LiftOf) (type : ValType) (memory : List ℕ) (place : ℕ) (slots : Slots E) (moved : List Moved)
      → ComesTo view made end_type types (uses_in (load_by listing type memory place (none_listed (most what)))) (at_first (most what) slots moved) carried
      (IsLoaded what type memory place) (LoadFails what type memory place) (load_by (by_table view made end_type types) type memory place (at_first (most what) slots moved))

  -- of so many values from a place on, where that is one at least,
  abbrev pub ListsComeTo : Type 0
  ListsComeTo =
      (type : ValType) (memory : List ℕ) (place count : ℕ) (slots : Slots E) (moved : List Moved) → 0 < count
      → ComesTo view made end_type types (uses_in (load_list_by listing type memory place count (none_listed 134217728))) (at_first 134217728 slots moved) all_carried
      (AreLoaded type memory place count) (LoadListFails type memory place count)
      (load_list_by (by_table view made end_type types) type memory place count (at_first 134217728 slots moved))

  -- and of core values, which are of the type's core types.
  abbrev pub WordsComeTo : Type 0
  WordsComeTo =
      (what : LiftOf) (type : ValType) (memory words : List ℕ) (slots : Slots E) (moved : List Moved) → AreWords (flat type) words
      → ComesTo view made end_type types (uses_in (lift_flat_by listing type memory words (none_listed (most what)))) (at_first (most what) slots moved) carried
      (IsLifted what type memory words) (LiftFlatFails what type memory words)
      (lift_flat_by (by_table view made end_type types) type memory words (at_first (most what) slots moved))
