-- Copies (Component Model, CanonicalABI.md, "Stream State" and "Future State", `canon stream.{read,write}`, `canon future.{read,write}`): a
-- read or write meets the other end. Where elements are to go over, they are lifted from the writer and lowered to the reader behind what is
-- copied there already; then the step with the line of the copy completes the call.
use Rattle.std.specs.Prelude.{ℕ, ◌+◌, ◌*◌, nat_eq, Bool, true, not, ◌&&◌, if◌then◌else◌, List, [], ◌∷◌, map, length, replicate, Option, Some, None}
use Rattle.std.specs.List.{filter_map}
use Rattle.syntax_trees.specs.declared.types.ValType.{ValType}
use Rattle.syntax_trees.specs.declared.value.Value.{Value}
use Rattle.laid_types.specs.Layout.{laid}
use Rattle.value_lift.specs.Lifting.{is_integer}
use Rattle.builtin_kinds.specs.declared.EndKind.{EndKind}
use Rattle.builtin_kinds.specs.declared.EndKind.TheVariants as end_kind
use Rattle.stream_ends.specs.declared.side.Side.{Side}
use Rattle.stream_ends.specs.declared.side.Side.TheVariants.{Reader, Writer}
use Rattle.stream_ends.specs.declared.open_copy.By.{By}
use Rattle.stream_ends.specs.declared.open_copy.By.TheVariants as by
use Rattle.stream_ends.specs.declared.open_copy.CopyResult.TheVariants.{Completed}
use Rattle.stream_ends.specs.declared.open_copy.OpenCopy.{OpenCopy}
use Rattle.stream_ends.specs.declared.meet.Meet as stream_meet
use Rattle.stream_ends.specs.declared.meet.Meet.TheVariants as stream
use Rattle.stream_ends.specs.Ends.{EndsView, other_side, end_at, standing_of, payload_of, code_of}
use Rattle.stream_ends.specs.Meeting as streams
use Rattle.stream_ends.specs.Runs as stream_runs
use Rattle.future_ends.specs.declared.meet.Meet as future_meet
use Rattle.future_ends.specs.declared.meet.Meet.TheVariants as future
use Rattle.future_ends.specs.Meeting as futures
use Rattle.future_ends.specs.Runs as future_runs
use Rattle.comp_graph.specs.declared.graph.CanonFunc.{CanonFunc}
use Rattle.comp_graph.specs.Graph.{Graph}
use Rattle.trace_labels.specs.declared.label.BlockReason.TheVariants as reason
use Rattle.trace_labels.specs.declared.label.Channel as labels
use Rattle.trace_labels.specs.declared.label.Channel.TheVariants as channel
use Rattle.trace_labels.specs.declared.label.Copied.{Copied}
use Rattle.trace_labels.specs.declared.label.Copied.TheVariants.{Units, Values}
use Rattle.trace_labels.specs.declared.label.Label.TheVariants as line
use Rattle.trace_labels.specs.declared.trap.TrapName.TheVariants as trap
use Rattle.abi_machine.specs.LoweringOver.{Gives}
use Rattle.abi_machine.specs.Lifting.{Came, once_lifted}
use Rattle.abi_machine.specs.Passing.{elements_lifted, elements_plan}
use Rattle.abi_machine.specs.Pausing.{entries_by}
use Rattle.abi_machine.specs.Control.{EndRef, Copying, Transfers, Lowering, Lowers}
use Rattle.abi_machine.specs.World.{ForCopy, InBuiltin, Channel, World}
use Rattle.abi_machine.specs.Edits.{offered, transferred}
use Rattle.abi_machine.specs.Canons.{memory_of, realloc_of, bytes_of, inst_of_canon, options_of_canon, options_at, canon_at, defines}
use Rattle.abi_machine.specs.Reading.{channel_at, acting}
use Rattle.abi_machine.specs.Counting.{passes}
use Rattle.abi_machine.specs.Turn.{Turn, silent, behind, given, unless, replied, blocked}

-- what a call that does not wait answers where it would block
abbrev pub blocked_word : ℕ
blocked_word = 4294967295

-- What comes of a read or write: it is answered at once, so many elements go over, or its offer stands.
pub data Met : Type 0 where
  AtOnce : ℕ → Met
  Moves : ℕ → Met
  Stands : Met

abbrev pub met_at_once : Option ℕ → Met
met_at_once None = Stands
met_at_once (Some payload) = AtOnce payload

abbrev pub stream_met : stream_meet.Meet → Met
stream_met (stream.Copies count) = Moves count
stream_met meet = met_at_once (stream_runs.payload_at_once meet)

abbrev pub future_met : future_meet.Meet → Met
future_met future.Copies = Moves 1
future_met meet = met_at_once (future_runs.payload_at_once meet)

abbrev pub met_by : EndKind → Side → OpenCopy → EndsView → Met
met_by end_kind.Stream side call ends = stream_met (streams.met_at side call ends).meet
met_by end_kind.Future side call ends = future_met (futures.met_at side call ends).meet

-- the payload of a call that so many elements complete
abbrev pub completed : EndKind → ℕ → ℕ
completed end_kind.Stream count = payload_of Completed count
completed end_kind.Future count = code_of Completed

-- The offer that stands at the other end of an end.
abbrev pub other_offer : Side → EndsView → Option OpenCopy
other_offer side ends = standing_of (end_at (other_side side) ends).copy

abbrev pub other_dropped : Side → EndsView → Bool
other_dropped side ends = (end_at (other_side side) ends).dropped

-- Elements that hold anything but an integer do not go over inside an instance.
abbrev pub is_none_or_number : Option ValType → Bool
is_none_or_number None = true
is_none_or_number (Some element) = is_integer element

abbrev pub is_of_inst : Graph → ℕ → OpenCopy → Bool
is_of_inst g i copy = passes (λ c. nat_eq (inst_of_canon c) i) (canon_at g copy.canon)

abbrev pub is_within : Graph → ℕ → Side → Option ValType → EndsView → Bool
is_within g i side element ends = not (is_none_or_number element) && not (other_dropped side ends) && passes (is_of_inst g i) (other_offer side ends)

-- the read and the write, of a call and the offer that it meets
abbrev pub read_of : Side → OpenCopy → OpenCopy → OpenCopy
read_of Reader call offer = call
read_of Writer call offer = offer

abbrev pub write_of : Side → OpenCopy → OpenCopy → OpenCopy
write_of Reader call offer = offer
write_of Writer call offer = call

-- where the next element of a copy stands or is to stand
abbrev pub next_place : ValType → OpenCopy → ℕ
next_place element copy = copy.place + copy.copied * (laid element).size

abbrev pub task_by : By → ℕ
task_by (by.Task t) = t

-- The lowering of elements acts for the task that reads, and a trap names the one that acts.
abbrev pub elements_lowering : World → ℕ → OpenCopy → CanonFunc → Copying → Lowering
elements_lowering w t read c copying = record {
  inst = inst_of_canon c;
  memory = memory_of w.store (options_of_canon c);
  realloc = realloc_of w.store (options_of_canon c);
  acts_for = task_by read.by;
  blame = t;
  next = Transfers copying;
}

abbrev pub copying_of : EndRef → ℕ → List (Option Value) → Copying
copying_of e size values = record { end = e; length = size; values = values }

-- So many elements are lifted from the writer, by its canonical function. Of elements that hold nothing nothing is.
unfoldable pub elements_written : ℕ → OpenCopy → CanonFunc → ℕ → ValType → World → Came (List Value)
elements_written t write c count element w =
    elements_lifted (inst_of_canon c) t element (bytes_of w.store (memory_of w.store (options_of_canon c))) (next_place element write) count w

-- They are lowered to the reader, by its own.
unfoldable pub elements_read : Graph → ℕ → EndRef → ℕ → OpenCopy → CanonFunc → ValType → List Value → World → Turn
elements_read g t e size read c element values w =
    silent (Lowers (elements_lowering w t read c (copying_of e size (map (λ v. Some v) values)))
    (elements_plan (entries_by (defines g (inst_of_canon c))) element values (next_place element read))) w

unfoldable pub moved_by : Graph → ℕ → EndRef → OpenCopy → OpenCopy → OpenCopy → CanonFunc → CanonFunc → ℕ → Option ValType → World → Turn
moved_by g t e call read write reading writing count None w =
    silent (Lowers (elements_lowering w t read reading (copying_of e call.length (replicate count None))) (Gives [])) w
moved_by g t e call read write reading writing count (Some element) w =
    once_lifted t (elements_written t write writing count element w) (λ values later. elements_read g t e call.length read reading element values later)

unfoldable pub elements_moved : Graph → ℕ → EndRef → OpenCopy → ℕ → Option ValType → OpenCopy → World → Turn
elements_moved g t e call count element offer w =
    given (canon_at g (read_of e.side call offer).canon) (λ reading. given (canon_at g (write_of e.side call offer).canon) (λ writing.
    moved_by g t e call (read_of e.side call offer) (write_of e.side call offer) reading writing count element w))

-- by what comes of a call at the end of an index, by this canonical function with these words
unfoldable pub meeting_turn : Graph → ℕ → EndRef → OpenCopy → List ℕ → ℕ → Channel → Met → World → Turn
meeting_turn g t e call words index c (AtOnce payload) w = replied t (payload ∷ []) (offered e call w)
meeting_turn g t e call words index c (Moves count) w =
    given (other_offer e.side c.ends.view) (λ offer. elements_moved g t e call count c.element offer w)
meeting_turn g t e call words index c Stands w =
    if (options_at g call.canon).is_async then replied t (blocked_word ∷ []) (offered e call w)
    else blocked t (InBuiltin call.canon words (ForCopy index)) (reason.Copy index) (offered e call w)

-- A call of a task of this instance meets the other end.
unfoldable pub meets : Graph → ℕ → ℕ → EndRef → OpenCopy → List ℕ → ℕ → World → Turn
meets g t i e call words index w =
    given (channel_at w e.kind e.number) (λ c.
    unless t (is_within g i e.side c.element c.ends.view) trap.SameInstance w
    (meeting_turn g t e call words index c (met_by e.kind e.side call c.ends.view) w))

-- The line of a copy.
abbrev pub channel_by : EndKind → ℕ → labels.Channel
channel_by end_kind.Stream number = channel.Stream number
channel_by end_kind.Future number = channel.Future number

abbrev pub channel_of : EndRef → labels.Channel
channel_of e = channel_by e.kind e.number

abbrev pub copied_of : Option ValType → List (Option Value) → Copied
copied_of None values = Units (length values)
copied_of (Some element) values = Values (record { values = filter_map (λ v. v) values; val_type = element })

-- The elements stand at the reader: the copy is made, and the acting task's call is completed.
unfoldable pub transferring_turn : Copying → World → Turn
transferring_turn copying w =
    given (acting w) (λ a. given (channel_at w copying.end.kind copying.end.number) (λ c.
    behind (line.Copy (channel_of copying.end) (copied_of c.element copying.values) ∷ [])
    (replied a.0 (completed copying.end.kind (length copying.values) ∷ []) (transferred copying.end copying.length copying.values w))))
