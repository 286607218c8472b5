-- What is lifted over a table is of its type (Component Model, CanonicalABI.md, "Loading", "Flat Lifting"), whatever its indices name. So
-- all that a copy lifts can be lowered.
use Rattle.std.specs.Prelude.{◌≡◌, ◌≢◌, ◌<◌, ◌^◌, ℕ, true, List, length, Option, Ok}
use Rattle.syntax_trees.specs.declared.types.ValType.{ValType}
use Rattle.syntax_trees.specs.declared.value.Value.{Value}
use Rattle.syntax_trees.specs.Fits.{fits}
use Rattle.syntax_trees.specs.Flat.{flat}
use Rattle.laid_types.specs.Known.{Numbered}
use Rattle.handle_table.specs.Slots.{Slots}
use Rattle.res_handles.specs.declared.handle.Handle.{Handle}
use Rattle.res_handles.specs.declared.entry.EntryView.{EntryView}
use Rattle.value_lift.specs.declared.counting.LiftOf.{LiftOf}
use Rattle.value_lift.specs.declared.moved.Moved.{Moved}
use Rattle.value_lift.specs.Lifting.{most}
use Rattle.value_lift.specs.Over.{load_by, load_list_by, lift_flat_by}
use Rattle.value_lift.specs.Tables.{Kept, by_table, at_first}
use Rattle.value_lift.specs.Settled.{names_in}
use Rattle.lowering_laws.specs.Values.{InRange, AllInRange, AreBytes}
use Rattle.copy_engine.specs.declared.copying.CopyFrom.{CopyFrom}
use Rattle.copy_engine.specs.declared.copying.Copied.{Copied}
use Rattle.copy_engine.specs.declared.copying.Copied.TheVariants as copied
use Rattle.copy_engine.specs.Answering.{Setting}
use Rattle.copy_engine.specs.Copying.{CopyState, all_fit, Copies}

module _ {E : Type 0} (view : E → EntryView) (made : Handle → E) (end_type : E → Option ℕ) (types : List ValType) where
  -- So it is of a value that is loaded,
  abbrev pub LoadsFit : Type 0
  LoadsFit =
      (what : LiftOf) (type : ValType) (memory : List ℕ) (place : ℕ) (slots : Slots E) (moved : List Moved) (v : Value) (now : Kept E)
      → load_by (by_table view made end_type types) type memory place (at_first (most what) slots moved) ≡ Ok (v, now) → fits v type ≡ true

  -- of values that are loaded one after the other,
  abbrev pub ListsFit : Type 0
  ListsFit =
      (type : ValType) (memory : List ℕ) (place count : ℕ) (slots : Slots E) (moved : List Moved) (all : List Value) (now : Kept E)
      → load_list_by (by_table view made end_type types) type memory place count (at_first 134217728 slots moved) ≡ Ok (all, now) → all_fit type all ≡ true

  -- and of a value that is lifted from as many core values as stand for the type, whichever they are.
  abbrev pub WordsFit : Type 0
  WordsFit =
      (what : LiftOf) (type : ValType) (memory words : List ℕ) (slots : Slots E) (moved : List Moved) (v : Value) (now : Kept E) → length words ≡ length (flat type)
      → lift_flat_by (by_table view made end_type types) type memory words (at_first (most what) slots moved) ≡ Ok (v, now) → fits v type ≡ true

-- No copy comes to elements that are not of their type.
abbrev pub CopiesFit : {E : Type 0} → (E → EntryView) → (Handle → E) → (ℕ → ℕ → E) → (E → Option ℕ) → Type 0
CopiesFit {E} view made made_end end_type =
    (element : Option Numbered) (from : CopyFrom) (count : ℕ) (to : Setting) (task : ℕ) (home : List ℕ) (place : ℕ) (before after : CopyState E) (c : Copied)
    → Copies view made made_end end_type element from count to task home place before c after → c ≢ copied.Misfit

-- What is lifted over a table from a memory of bytes is in its ranges, where all that the table names are 32-bit numbers: so it is with a value
-- that is loaded,
module _ {E : Type 0} (view : E → EntryView) (made : Handle → E) (end_type : E → Option ℕ) (types : List ValType) where
  abbrev pub LoadsAreInRange : Type 0
  LoadsAreInRange =
      (what : LiftOf) (type : ValType) (memory : List ℕ) (place : ℕ) (slots : Slots E) (moved : List Moved) (v : Value) (now : Kept E) → AreBytes memory
      → ((index : ℕ) → names_in view slots index < 2 ^ 32)
      → load_by (by_table view made end_type types) type memory place (at_first (most what) slots moved) ≡ Ok (v, now) → InRange v

  -- with values that are loaded one after the other,
  abbrev pub ListsAreInRange : Type 0
  ListsAreInRange =
      (type : ValType) (memory : List ℕ) (place count : ℕ) (slots : Slots E) (moved : List Moved) (all : List Value) (now : Kept E) → AreBytes memory
      → ((index : ℕ) → names_in view slots index < 2 ^ 32)
      → load_list_by (by_table view made end_type types) type memory place count (at_first 134217728 slots moved) ≡ Ok (all, now) → AllInRange all

  -- and with a value that is lifted from core values.
  abbrev pub WordsAreInRange : Type 0
  WordsAreInRange =
      (what : LiftOf) (type : ValType) (memory words : List ℕ) (slots : Slots E) (moved : List Moved) (v : Value) (now : Kept E) → AreBytes memory
      → ((index : ℕ) → names_in view slots index < 2 ^ 32) → length words ≡ length (flat type)
      → lift_flat_by (by_table view made end_type types) type memory words (at_first (most what) slots moved) ≡ Ok (v, now) → InRange v
