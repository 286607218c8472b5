-- Elements that go over (Component Model, CanonicalABI.md, "Stream State" and "Future State", `canon stream.{read,write}`, `canon
-- future.{read,write}`): whose they are and whose they become, from where and to where, behind what is copied already; and what the copy leaves
-- behind once they stand at the reader.
use Rattle.std.specs.Prelude.{ℕ, ◌+◌, ◌*◌, [], ◌∷◌, Option, Some, None}
use Rattle.syntax_trees.specs.declared.types.ValType.{ValType}
use Rattle.laid_types.specs.Layout.{laid}
use Rattle.builtin_kinds.specs.declared.EndKind.{EndKind}
use Rattle.builtin_kinds.specs.declared.EndKind.TheVariants.{Stream, Future}
use Rattle.stream_ends.specs.declared.side.Side.{Side}
use Rattle.stream_ends.specs.declared.side.Side.TheVariants.{Reader, Writer}
use Rattle.stream_ends.specs.declared.open_copy.By.{By}
use Rattle.stream_ends.specs.declared.open_copy.By.TheVariants as by
use Rattle.stream_ends.specs.declared.open_copy.OpenCopy.{OpenCopy}
use Rattle.stream_ends.specs.Ends.{new_copy, other_side, standing_of}
use Rattle.channels.specs.declared.channel.Channel.{Channel}
use Rattle.channels.specs.Channels.{end_in}
use Rattle.instances.specs.declared.entry.EndEntry.{EndEntry}
use Rattle.instances.specs.Entries.{any_end_in}
use Rattle.comp_graph.specs.declared.graph.BuiltinKind.TheVariants as kind
use Rattle.comp_graph.specs.declared.graph.CanonFunc.{CanonFunc}
use Rattle.comp_graph.specs.declared.graph.CanonFunc.TheVariants as canon
use Rattle.comp_graph.specs.Graph.{Graph, passed_value}
use Rattle.graph_views.specs.Canons.{canon_at, instance_of, options_of}
use Rattle.trace_labels.specs.declared.label.Channel as labels
use Rattle.trace_labels.specs.declared.label.Channel.TheVariants as channel
use Rattle.trace_labels.specs.declared.label.Copied.{Copied}
use Rattle.trace_labels.specs.declared.label.Label.TheVariants as line
use Rattle.world_parts.specs.declared.parts.Copying.{Copying}
use Rattle.world_parts.specs.declared.parts.Flow.{Flow}
use Rattle.world_parts.specs.Held.{Held, Done, Gives, after, given}
use Rattle.world_parts.specs.Feed.{told, got}
use Rattle.world_parts.specs.Entries.{entry_found, end_idled}
use Rattle.world_parts.specs.Slots.{small}
use Rattle.world_parts.specs.Channels.{channel_of, kind_of_end, idle_seen, copied}
use Rattle.world_parts.specs.Places.{memory_of}
use Rattle.copy_replies.specs.declared.moving.CopySide.{CopySide}
use Rattle.copy_replies.specs.declared.moving.Moving.{Moving}

-- the type of the result or of the elements of a built-in of a number, where it has one
abbrev pub value_in : Option CanonFunc → Option ValType
value_in None = None
value_in (Some (canon.Lower l)) = None
value_in (Some (canon.Builtin b)) = passed_value b.kind

abbrev pub element_at : Graph → ℕ → Option ValType
element_at g number = value_in (canon_at g number)

-- Where the next element of a copy stands or is to stand: a 32-bit place. Elements that hold nothing stand nowhere.
abbrev pub next_place : Option ValType → OpenCopy → Option ℕ
next_place None copy = Some copy.place
next_place (Some element) copy = small (copy.place + copy.copied * (laid element).size)

abbrev pub task_by : By → ℕ
task_by (by.Task t) = t

-- One side of a copy: the task that reads or writes, its canonical function with what else that uses, and the place of the next element.
abbrev pub side_by : OpenCopy → CanonFunc → ℕ → Held → CopySide
side_by copy c place h =
    record { task = task_by copy.by; canon = copy.canon; instance = instance_of c; options = options_of c; memory = memory_of (options_of c) h; place = place }

abbrev pub side_found : Graph → Option ValType → OpenCopy → Held → Done CopySide
side_found g element copy h =
    given (canon_at g copy.canon) (λ c. given (next_place element copy) (λ place. Gives (side_by copy c place h) h))

-- a call and the offer that it meets, as a read and a write
abbrev pub read_of : Side → OpenCopy → OpenCopy → OpenCopy
read_of Reader call offer = call
read_of Writer call offer = offer

abbrev pub write_of : Side → OpenCopy → OpenCopy → OpenCopy
write_of Reader call offer = offer
write_of Writer call offer = call

abbrev pub moving_by : EndKind → EndEntry → ℕ → ℕ → Copying → CopySide → CopySide → Moving
moving_by of_what e t at x reader writer =
    record { kind = of_what; side = e.side; number = e.number; task = t; at = at; index = x.index; count = x.count; reader = reader; writer = writer }

unfoldable pub sides_found : Graph → Option ValType → EndKind → EndEntry → ℕ → ℕ → Copying → OpenCopy → Held → Done Moving
sides_found g element of_what e t at x offer h =
    after (side_found g element (read_of e.side (new_copy (by.Task t) x.canon x.place x.length) offer) h) (λ reader k.
    after (side_found g element (write_of e.side (new_copy (by.Task t) x.canon x.place x.length) offer) k) (λ writer l.
    Gives (moving_by of_what e t at x reader writer) l))

-- the offer that the call at an end meets
abbrev pub other_offer : Side → Channel → Option OpenCopy
other_offer side c = standing_of (end_in (other_side side) c.ends).copy

-- What goes over for the call of a task, in the instance that made its canonical function.
unfoldable pub moving_in : Graph → ℕ → ℕ → Copying → Held → Done Moving
moving_in g t at x h =
    after (entry_found at x.index h) (λ found k. given (any_end_in found) (λ e. given (channel_of e k) (λ c. given (other_offer e.side c) (λ offer.
    sides_found g (element_at g x.canon) (kind_of_end e k) e t at x offer k))))

unfoldable pub moving : Graph → ℕ → Copying → Held → Done Moving
moving g t x h = given (canon_at g x.canon) (λ c. moving_in g t (instance_of c) x h)

-- The elements stand at the reader. The copy is counted and has its line, the offer has an event from now on, and the call is completed.
abbrev pub channel_named : EndKind → ℕ → labels.Channel
channel_named Stream number = channel.Stream number
channel_named Future number = channel.Future number

abbrev pub completed_payload : EndKind → ℕ → ℕ
completed_payload Stream count = 16 * count
completed_payload Future count = 0

unfoldable pub completed : Moving → Copied → Held → Done Flow
completed m what h =
    after (copied m.kind m.number m.count h) (λ done k. after (told (line.Copy (channel_named m.kind m.number) what) k) (λ done l.
    after (idle_seen m.kind m.side m.number l) (λ is_idle n. after (end_idled m.at m.index is_idle n) (λ done o.
    got m.task (completed_payload m.kind m.count ∷ []) o))))
