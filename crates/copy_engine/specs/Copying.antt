-- Copies of elements (Component Model, CanonicalABI.md, `canon stream.read`, `canon stream.write`, "Loading", "Storing"): all are lifted from
-- the memory and the table of the instance that writes, and then all are lowered into those of the one that reads.
use Rattle.std.specs.Prelude.{◌≡◌, ℕ, Bool, true, false, List, [], Option, Some, None, Result, Ok, Err}
use Rattle.std.specs.List.{list_all}
use Rattle.syntax_trees.specs.declared.types.ValType.{ValType}
use Rattle.syntax_trees.specs.declared.value.Value.{Value}
use Rattle.syntax_trees.specs.Fits.{fits}
use Rattle.laid_types.specs.Known.{Numbered}
use Rattle.handle_table.specs.Slots.{Slots}
use Rattle.res_handles.specs.declared.entry.EntryView.{EntryView}
use Rattle.res_handles.specs.declared.handle.Handle.{Handle}
use Rattle.value_lift.specs.declared.moved.Moved.{Moved}
use Rattle.value_lift.specs.Over.{load_list_by}
use Rattle.value_lift.specs.Tables.{Stop, by_table, at_first, given}
use Rattle.value_lower.specs.Plan.{New}
use Rattle.value_lower.specs.Tables.{IsEntry}
use Rattle.copy_engine.specs.declared.copying.CopyFrom.{CopyFrom}
use Rattle.copy_engine.specs.declared.copying.Copied.{Copied}
use Rattle.copy_engine.specs.declared.copying.Copied.TheVariants as copied
use Rattle.copy_engine.specs.declared.lower_values.Lowered.{Lowered}
use Rattle.copy_engine.specs.declared.lower_values.Lowered.TheVariants as lowered
use Rattle.copy_engine.specs.Nested.{bytes_in}
use Rattle.copy_engine.specs.Answering.{Setting}
use Rattle.copy_engine.specs.Hosted.{Placed, plan_all, PlanComesTo}

-- What a copy works on: the slots of the table of the instance that writes, and what has moved in it, and what is lowered into.
pub record CopyState (E : Type 0) : Type 0 where
  pub out : Slots E
  pub moved : List Moved
  pub placed : Placed E

-- what a lowering of these elements comes to
abbrev pub as_copied : List Value → Lowered → Copied
as_copied values (lowered.Words words) = copied.Values values
as_copied values (lowered.Failed why) = copied.Failed why
as_copied values (lowered.Trapped why) = copied.Trapped why
as_copied values lowered.NoFuel = copied.NoFuel

abbrev pub all_fit : ValType → List Value → Bool
all_fit type values = list_all (λ v. fits v type) values

module _ {E : Type 0} (seen : E → EntryView) (is : New → E → Type 0) (to : Setting) (home : List ℕ) (type : ValType) (place : ℕ) where
  abbrev pub LowersAll : List Value → Placed E → Copied → Placed E → Type 0
  LowersAll values before c after =
      (came : Lowered) × PlanComesTo seen is to (plan_all type values place home) before came after × (c ≡ as_copied values came)

  -- Elements that are not of the type are not lowered. No lifting gives such.
  abbrev pub LowersFitting : Bool → List Value → Placed E → Copied → Placed E → Type 0
  LowersFitting true values before c after = LowersAll values before c after
  LowersFitting false values before c after = (c ≡ copied.Misfit) × (after ≡ before)

  -- By what is lifted: where that stops, nothing is lowered, and what was lent or has left before stays so.
  abbrev pub CopiesBy : Result (List Value × Slots E × List Moved) (Stop E) → CopyState E → Copied → CopyState E → Type 0
  CopiesBy (Err stop) before c after =
      (c ≡ copied.NotLifted stop.trap) × (after.out ≡ stop.slots) × (after.moved ≡ stop.moved) × (after.placed ≡ before.placed)
  CopiesBy (Ok x) before c after = (after.out ≡ x.1) × (after.moved ≡ x.2) × LowersFitting (all_fit type x.0) x.0 before.placed c after.placed

module _ {E : Type 0} (seen : E → EntryView) (made : Handle → E) (made_end : ℕ → ℕ → E) (end_type : E → Option ℕ) where
  -- So many elements of a type of a table are copied from a memory to a place, for a task.
  abbrev pub CopiesElements : Numbered → CopyFrom → ℕ → Setting → ℕ → List ℕ → ℕ → CopyState E → Copied → CopyState E → Type 0
  CopiesElements t from count to task home place before c after =
      CopiesBy seen (IsEntry made made_end task t.types) to home t.val_type place
      (given (load_list_by (by_table seen made end_type t.types) t.val_type (bytes_in from.memory before.placed.room.store) from.place count
      (at_first 134217728 before.out before.moved))) before c after

  -- Elements that hold nothing are no values, and nothing changes.
  abbrev pub Copies : Option Numbered → CopyFrom → ℕ → Setting → ℕ → List ℕ → ℕ → CopyState E → Copied → CopyState E → Type 0
  Copies None from count to task home place before c after = (c ≡ copied.Values []) × (after ≡ before)
  Copies (Some t) from count to task home place before c after = CopiesElements t from count to task home place before c after
