-- Transport by a copy (Component Model, CanonicalABI.md, `canon stream.read`, `canon stream.write`): behind a copy of so many elements the
-- values that stood in the writer's memory stand in the reader's, at its place and in order; where handles and ends are, what the writer's
-- indices named is what the reader's name.
use Rattle.std.specs.Prelude.{◌≡◌, ◌<◌, ◌^◌, ℕ, List, [], ◌∷◌, Option}
use Rattle.syntax_trees.specs.declared.types.ValType.{ValType}
use Rattle.syntax_trees.specs.declared.value.Value.{Value}
use Rattle.laid_types.specs.Known.{Numbered}
use Rattle.handle_table.specs.History.{Event}
use Rattle.handle_table.specs.Slots.{StandsFor}
use Rattle.res_handles.specs.declared.handle.Handle.{Handle}
use Rattle.res_handles.specs.declared.entry.EntryView.{EntryView}
use Rattle.value_lift.specs.Laws.{AreLoaded}
use Rattle.value_lift.specs.Settled.{names_in, all_carried}
use Rattle.value_lift.specs.Stored.{AreStored}
use Rattle.value_lower.specs.Plan.{New}
use Rattle.value_lower.specs.Tables.{IsEntry}
use Rattle.copy_engine.specs.declared.copying.CopyFrom.{CopyFrom}
use Rattle.copy_engine.specs.declared.copying.Copied.TheVariants as copied
use Rattle.copy_engine.specs.Answering.{Setting}
use Rattle.copy_engine.specs.Copying.{CopyState, CopiesElements}
use Rattle.copy_engine.specs.Hosted.{plan_all, hosted_rooms}
use Rattle.copy_engine.specs.Nested.{bytes_in}
use Rattle.lowering_laws.specs.Settling.{Answer}
use Rattle.lowering_laws.specs.ApartPlaces.{Apart}
use Rattle.lowering_laws.specs.Values.{AreBytes}
use Rattle.lowering_laws.specs.ValueLaws.{list_target}
use Rattle.lowering_laws.specs.ValueRooms.{FollowsOver}
use Rattle.value_laws.specs.Arriving.{AllArrive}

-- By which entries are of what is new, and how a table is seen: so many elements of a type stood in a memory from a place on, and with their
-- indices in a table they were these values. They were lowered over some answers of reallocs, and where these lie apart they arrive at a
-- place of another memory, and in its table.
pub record AreTransported {E : Type 0} (view : E → EntryView) (is : New → E → Type 0) (to : Setting) (home : List ℕ) (type : ValType) (from : CopyFrom) (count place : ℕ)
    (before after : CopyState E) (values : List Value) : Type 0 where
  pub plain : List Value
  pub stood : AreLoaded type (bytes_in from.memory before.placed.room.store) from.place count plain
  pub named : all_carried (names_in view before.out) plain ≡ values
  pub over : List Answer
  pub given : List ℕ
  pub follows : FollowsOver (hosted_rooms view is to) (plan_all type values place home) before.placed over given after.placed
  pub arrive : Apart (list_target type place values ∷ []) over
      → AllArrive is home type values (λ all. AreStored (bytes_in to.options.memory after.placed.room.store) place type all) after.placed.slots

-- Each copy of some elements does that, from a memory of bytes, where all that the writer's table names are 32-bit numbers.
abbrev pub CopiesTransport : {E : Type 0} → (E → EntryView) → (Handle → E) → (ℕ → ℕ → E) → (E → Option ℕ) → Type 0
CopiesTransport {E} view made made_end end_type =
    (t : Numbered) (from : CopyFrom) (count : ℕ) (to : Setting) (task : ℕ) (home : List ℕ) (place : ℕ) (before after : CopyState E) (values : List Value) (h : List (Event E)) → 0 < count
    → AreBytes (bytes_in from.memory before.placed.room.store) → ((index : ℕ) → names_in view before.out index < 2 ^ 32) → StandsFor h before.placed.slots
    → CopiesElements view made made_end end_type t from count to task home place before (copied.Values values) after
    → AreTransported view (IsEntry made made_end task t.types) to home t.val_type from count place before after values
