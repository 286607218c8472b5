-- What the entries of a table of tests are.
use Rattle.std.specs.Prelude.{ℕ, Option, Some, None}
use Rattle.res_handles.specs.declared.entry.EntryView.{EntryView}
use Rattle.res_handles.specs.declared.entry.EntryView.TheVariants as seen
use Rattle.table_texts.specs.declared.things.Thing.{Thing}
use Rattle.table_texts.specs.declared.things.Thing.TheVariants as thing

abbrev pub thing_view : Thing → EntryView
thing_view (thing.Handle x) = seen.Handle x
thing_view (thing.End t x) = seen.ReadableEnd x
thing_view thing.Other = seen.Other
