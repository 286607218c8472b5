-- Reads and writes (Component Model, CanonicalABI.md, `canon stream.{read,write}`, `canon future.{read,write}`, "Stream State" and "Future
-- State"): what is tested of one, in order, and what comes of it where it meets the other end. A write is what a read is, from the other side,
-- and one of a future is one of a stream with one element.
use Rattle.std.specs.Prelude.{ℕ, ◌+◌, ◌*◌, ◌%◌, nat_eq, nat_le, nat_lt, Bool, true, false, not, ◌&&◌, if◌then◌else◌, List, [], ◌∷◌, length, Option, Some, None}
use Rattle.syntax_trees.specs.declared.types.ValType.{ValType}
use Rattle.laid_types.specs.Layout.{laid}
use Rattle.value_lift.specs.Lifting.{is_integer}
use Rattle.builtin_kinds.specs.declared.EndKind.{EndKind}
use Rattle.builtin_kinds.specs.declared.EndKind.TheVariants.{Stream, Future}
use Rattle.stream_ends.specs.declared.side.Side.{Side}
use Rattle.stream_ends.specs.declared.open_copy.By.TheVariants as by
use Rattle.stream_ends.specs.declared.open_copy.OpenCopy.{OpenCopy}
use Rattle.stream_ends.specs.declared.meet.Meet.{Meet}
use Rattle.stream_ends.specs.declared.meet.Meet.TheVariants as meet
use Rattle.stream_ends.specs.Ends.{other_side, standing_of, is_copying}
use Rattle.channels.specs.declared.channel.Channel.{Channel}
use Rattle.channels.specs.declared.channel.Ends.{Ends}
use Rattle.channels.specs.Channels.{end_in}
use Rattle.tasks.specs.declared.event.BlockedAt.TheVariants as blocked_at
use Rattle.trace_labels.specs.declared.label.BlockReason.TheVariants as reason
use Rattle.trace_labels.specs.declared.trap.TrapName.TheVariants as trap
use Rattle.world_parts.specs.Views.{Views}
use Rattle.world_parts.specs.declared.parts.Copying.{Copying}
use Rattle.world_parts.specs.declared.parts.Flow.{Flow}
use Rattle.world_parts.specs.declared.parts.Flow.TheVariants as flow
use Rattle.world_parts.specs.Held.{Held, Done, Gives, Traps, after, given}
use Rattle.world_parts.specs.Feed.{got}
use Rattle.world_parts.specs.Entries.{end_found, end_idled}
use Rattle.world_parts.specs.Slots.{word_in}
use Rattle.world_parts.specs.Channels.{channel_at, idle_seen, offered}
use Rattle.world_parts.specs.Places.{memory_of, bytes_at}
use Rattle.world_parts.specs.Calls.{blocked_word, blocked_in}
use Rattle.copy_replies.specs.declared.reading.CopyCall.{CopyCall}

-- how many elements a read or write is of at most
abbrev pub most_elements : ℕ
most_elements = 268435455

-- Elements are tested, where they hold anything and there are some.
unfoldable pub placed_well : Option ValType → Option ℕ → ℕ → ℕ → Held → Done (Unit {0})
placed_well None memory place count h = Gives tt h
placed_well (Some element) memory place count h =
    if nat_eq count 0 then Gives tt h else
    if not (nat_eq (place % (laid element).align) 0) then Traps trap.Misaligned h else
    if not (nat_le (place + count * (laid element).size) (length (bytes_at memory h.store))) then Traps trap.Bounds h else Gives tt h

-- Elements that hold anything but an integer do not go over inside an instance. Where the other end is dropped none go over.
abbrev pub is_none_or_integer : Option ValType → Bool
is_none_or_integer None = true
is_none_or_integer (Some element) = is_integer element

abbrev pub is_offer_of : Views → ℕ → Option OpenCopy → Bool
is_offer_of g at None = false
is_offer_of g at (Some offer) = g.made_in offer.canon at

abbrev pub is_within : Views → ℕ → Side → Option ValType → Ends → Bool
is_within g at side element ends =
    not (is_none_or_integer element) && not (end_in (other_side side) ends).dropped && is_offer_of g at (standing_of (end_in (other_side side) ends).copy)

-- Whether the end of a call is idle is said beside its index.
unfoldable pub idle_said : CopyCall → ℕ → Held → Done (Unit {0})
idle_said c number h = after (idle_seen c.kind c.side number h) (λ is_idle k. end_idled c.at c.index is_idle k)

-- A call is answered at once.
unfoldable pub answered_at_once : CopyCall → ℕ → ℕ → Held → Done Flow
answered_at_once c number payload h = after (idle_said c number h) (λ done k. got c.task (payload ∷ []) k)

-- Its offer stands: one that does not wait answers so, and another one blocks.
abbrev pub left_standing : Views → CopyCall → Held → Done Flow
left_standing g c h =
    if g.is_async c.canon then got c.task (blocked_word ∷ []) h
    else blocked_in c.task c.canon (g.flag c.canon) (blocked_at.Copy c.index) (reason.Copy c.index) h

unfoldable pub offer_stands : Views → CopyCall → ℕ → Held → Done Flow
offer_stands g c number h = after (idle_said c number h) (λ done k. left_standing g c k)

-- So many elements are to go over.
abbrev pub copying_of : CopyCall → ℕ → Copying
copying_of c count = record { canon = c.canon; index = c.index; place = c.place; length = c.length; count = count }

-- by what it meets
abbrev pub met : Views → CopyCall → ℕ → Meet → Held → Done Flow
met g c number meet.Stands h = offer_stands g c number h
met g c number (meet.Copies count) h = Gives (flow.Copies (copying_of c count)) h
met g c number meet.Dropped h = answered_at_once c number 1 h
met g c number meet.Displaces h = offer_stands g c number h
met g c number meet.ZeroDone h = answered_at_once c number 0 h
met g c number meet.NothingNow h = answered_at_once c number 0 h

unfoldable pub meets : Views → CopyCall → ℕ → Held → Done Flow
meets g c number h =
    after (offered c.kind c.side number (by.Task c.task) c.canon c.place c.length h) (λ m k. met g c number m k)

-- The end of a call may begin one, and its elements are tested; then it meets the other end.
unfoldable pub placed_and_met : Views → Option ValType → CopyCall → ℕ → Bool → Held → Done Flow
placed_and_met g element c number is_inside h =
    after (placed_well element (memory_of (g.options c.canon) h) c.place c.length h) (λ done k.
    if is_inside then Traps trap.SameInstance k else meets g c number k)

abbrev pub copy_tested : Views → Option ValType → CopyCall → ℕ → Channel → Held → Done Flow
copy_tested g element c number channel h =
    if is_copying (end_in c.side channel.ends) then Traps trap.Busy h else
    if (end_in c.side channel.ends).done then Traps trap.DoneEnd h else
    if nat_lt most_elements c.length then Traps trap.TooLong h else
    placed_and_met g element c number (is_within g c.at c.side element channel.ends) h

unfoldable pub read_or_write : Views → Option ValType → CopyCall → Held → Done Flow
read_or_write g element c h =
    after (end_found c.at c.side c.end_type c.index h) (λ e k. given (channel_at c.kind e.number k) (λ channel.
    copy_tested g element c e.number channel k))

-- A call of a task, by its words: the index of the end, the place, and of a stream how many elements.
abbrev pub length_in : EndKind → List ℕ → Option ℕ
length_in Stream words = word_in words 2
length_in Future words = Some 1

abbrev pub call_of : ℕ → ℕ → ℕ → EndKind → Side → ℕ → ℕ → ℕ → ℕ → CopyCall
call_of t at canon kind side type index place count =
    record { task = t; at = at; canon = canon; kind = kind; side = side; end_type = type; index = index; place = place; length = count }

unfoldable pub copy_asked : Views → Option ValType → ℕ → ℕ → ℕ → EndKind → Side → ℕ → List ℕ → Held → Done Flow
copy_asked g element t at canon kind side type words h =
    given (word_in words 0) (λ index. given (word_in words 1) (λ place. given (length_in kind words) (λ count.
    read_or_write g element (call_of t at canon kind side type index place count) h)))
