-- No handle of the table is lent more often than may be.
use Rattle.std.proofs.Common.{◌^◌}
use Rattle.value_lift.specs.Tables.{MostLends}
use Rattle.table_texts.specs.Things.{thing_view}
use Rattle.table_texts.proofs.things.table_of.Given as goal

abbrev pub invariant-loop-word : goal.invariant-loop-word
invariant-loop-word l = MostLends thing_view (2 ^ 63) l.table.slots

abbrev pub invariant-loop-word-2 : goal.invariant-loop-word-2
invariant-loop-word-2 l = MostLends thing_view (2 ^ 63) l.table.slots
