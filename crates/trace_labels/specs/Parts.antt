-- The parts of lines. Instances, tasks, streams and futures stand by a letter and their number; why a task blocks, and how an
-- end stands, by words.
use Rattle.std.specs.Prelude.{ℕ, List, ◌++◌, codes}
use Rattle.std.specs.Fmt.{decimal}
use Rattle.trace_labels.specs.declared.label.Channel.{Channel}
use Rattle.trace_labels.specs.declared.label.Channel.TheVariants.{Stream, Future}
use Rattle.trace_labels.specs.declared.label.BlockReason.{BlockReason}
use Rattle.trace_labels.specs.declared.label.BlockReason.TheVariants as blocks
use Rattle.trace_labels.specs.declared.dump.EndState.{EndState}
use Rattle.trace_labels.specs.declared.dump.EndState.TheVariants.{Idle, Copying, Done}

abbrev pub instance_text : ℕ → List ℕ
instance_text number = codes "I" ++ decimal number

abbrev pub task_text : ℕ → List ℕ
task_text number = codes "T" ++ decimal number

abbrev pub channel_text : Channel → List ℕ
channel_text (Stream number) = codes "S" ++ decimal number
channel_text (Future number) = codes "F" ++ decimal number

abbrev pub reason_text : BlockReason → List ℕ
reason_text blocks.Entry = codes "entry"
reason_text blocks.Yield = codes "yield"
reason_text (blocks.Wait set) = codes "wait " ++ decimal set
reason_text (blocks.Poll set) = codes "poll " ++ decimal set
reason_text (blocks.Call callee) = codes "call " ++ task_text callee
reason_text (blocks.Copy end) = codes "copy " ++ decimal end
reason_text (blocks.Cancel subtask) = codes "cancel " ++ decimal subtask

abbrev pub state_text : EndState → List ℕ
state_text Idle = codes "idle"
state_text Copying = codes "copying"
state_text Done = codes "done"
