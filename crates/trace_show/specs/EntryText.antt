-- The lines of the entries of a table: a line for each, with its index.
use Rattle.std.specs.Prelude.{ℕ, List, ◌++◌, codes}
use Rattle.std.specs.Fmt.{decimal}
use Rattle.trace_labels.specs.declared.label.Channel.{Channel}
use Rattle.trace_labels.specs.declared.label.Channel.TheVariants.{Stream, Future}
use Rattle.trace_labels.specs.declared.dump.Side.{Side}
use Rattle.trace_labels.specs.declared.dump.Side.TheVariants.{Readable, Writable}
use Rattle.trace_labels.specs.declared.dump.Entry.{Entry}
use Rattle.trace_labels.specs.declared.dump.Entry.TheVariants.{Own, Borrow, Subtask, Set, End}
use Rattle.trace_labels.specs.declared.dump.LiveEntry.{LiveEntry}
use Rattle.trace_labels.specs.Parts.{task_text, channel_text, state_text}
use Rattle.trace_show.specs.LabelText.{line, listed}

abbrev pub resource_text : ℕ → List ℕ
resource_text number = codes "R" ++ decimal number

-- which end of what
abbrev pub end_text : Channel → Side → List ℕ
end_text (Stream number) Readable = codes "stream-readable"
end_text (Stream number) Writable = codes "stream-writable"
end_text (Future number) Readable = codes "future-readable"
end_text (Future number) Writable = codes "future-writable"

abbrev pub entry_text : Entry → List ℕ
entry_text (Own resource rep lends) =
    codes "own " ++ resource_text resource ++ codes " " ++ decimal rep ++ codes " " ++ decimal lends
entry_text (Borrow resource rep task lends) =
    codes "borrow " ++ resource_text resource ++ codes " " ++ decimal rep ++ codes " " ++ task_text task ++ codes " " ++ decimal lends
entry_text (Subtask task state) = codes "subtask " ++ task_text task ++ codes " " ++ decimal state
entry_text (Set members) = codes "set " ++ listed decimal members
entry_text (End channel side state) =
    end_text channel side ++ codes " " ++ channel_text channel ++ codes " " ++ state_text state

abbrev pub live_entry_text : LiveEntry → List ℕ
live_entry_text live = line (codes "entry " ++ decimal live.index ++ codes " " ++ entry_text live.entry)
