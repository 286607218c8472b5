-- Reads and writes, up to where elements go over, keep memories, core instances and ends as they are kept.
use Rattle.std.specs.Prelude.{ℕ, ◌+◌, ◌*◌, ◌%◌, nat_eq, nat_le, nat_lt, Bool, not, if◌then◌else◌, List, [], ◌∷◌, length, Option, Some, None}
use Rattle.syntax_trees.specs.declared.types.ValType.{ValType}
use Rattle.laid_types.specs.Layout.{laid}
use Rattle.builtin_kinds.specs.declared.EndKind.{EndKind}
use Rattle.stream_ends.specs.declared.side.Side.{Side}
use Rattle.stream_ends.specs.declared.open_copy.By.TheVariants as by
use Rattle.stream_ends.specs.declared.meet.Meet.{Meet}
use Rattle.stream_ends.specs.declared.meet.Meet.TheVariants as meet
use Rattle.stream_ends.specs.Ends.{is_copying}
use Rattle.channels.specs.declared.channel.Channel.{Channel}
use Rattle.channels.specs.Channels.{end_in}
use Rattle.tasks.specs.declared.event.BlockedAt.TheVariants as blocked_at
use Rattle.trace_labels.specs.declared.label.BlockReason.TheVariants as reason
use Rattle.trace_labels.specs.declared.trap.TrapName.TheVariants as trap
use Rattle.world_parts.specs.Views.{Views}
use Rattle.world_parts.specs.Held.{Held, Gives, Traps, given}
use Rattle.world_parts.specs.Feed.{got}
use Rattle.world_parts.specs.Entries.{end_found, end_idled}
use Rattle.world_parts.specs.Slots.{word_in}
use Rattle.world_parts.specs.Channels.{channel_at, idle_seen, offered}
use Rattle.world_parts.specs.Places.{memory_of, bytes_at}
use Rattle.world_parts.specs.Calls.{blocked_word, blocked_in}
use Rattle.copy_replies.specs.declared.reading.CopyCall.{CopyCall}
use Rattle.copy_replies.specs.Reads.{answered_at_once, call_of, copy_asked, copy_tested, idle_said, is_within, left_standing, length_in, meets, met, most_elements, offer_stands, placed_and_met, placed_well, read_or_write}
use Rattle.run_laws.proofs.keeping.still.Still.{no_kinds, StillBy, still_after, still_given, still_if, still_same}
use Rattle.run_laws.proofs.keeping.still.Calls.{blocked_in_still}
use Rattle.run_laws.proofs.keeping.still.Channels.{idle_seen_still, offered_still}
use Rattle.run_laws.proofs.keeping.still.Entries.{end_found_still, end_idled_bare}
use Rattle.run_laws.proofs.keeping.still.Feed.{got_still}

pub placed_well_still : (o : Option ValType) (memory : Option ℕ) (place : ℕ) (count : ℕ) (h : Held) → StillBy no_kinds h (placed_well o memory place count h)
unfolding placed_well
placed_well_still None memory place count h =
    still_same no_kinds h
placed_well_still (Some element) memory place count h =
    still_if no_kinds h (nat_eq count 0) (Gives (tt {0}) h) (if not (nat_eq (place % (laid element).align) 0) then Traps trap.Misaligned h else if not (nat_le (place + count * (laid element).size) (length (bytes_at memory h.store))) then Traps trap.Bounds h else Gives (tt {0}) h) (still_same no_kinds h) (still_if no_kinds h (not (nat_eq (place % (laid element).align) 0)) (Traps trap.Misaligned h) (if not (nat_le (place + count * (laid element).size) (length (bytes_at memory h.store))) then Traps trap.Bounds h else Gives (tt {0}) h) (λ K asked kept. kept) (still_if no_kinds h (not (nat_le (place + count * (laid element).size) (length (bytes_at memory h.store)))) (Traps trap.Bounds h) (Gives (tt {0}) h) (λ K asked kept. kept) (still_same no_kinds h)))

pub idle_said_still : (c : CopyCall) (number : ℕ) (h : Held) → StillBy no_kinds h (idle_said c number h)
unfolding idle_said
idle_said_still c number h =
    still_after no_kinds h (idle_seen c.kind c.side number h) (λ is_idle k. end_idled c.at c.index is_idle k) (idle_seen_still c.kind c.side number h) (λ is_idle k. end_idled_bare c.at c.index is_idle k)

pub answered_at_once_still : (c : CopyCall) (number : ℕ) (payload : ℕ) (h : Held) → StillBy no_kinds h (answered_at_once c number payload h)
unfolding answered_at_once
answered_at_once_still c number payload h =
    still_after no_kinds h (idle_said c number h) (λ done k. got c.task (payload ∷ []) k) (idle_said_still c number h) (λ done k. got_still no_kinds c.task (payload ∷ []) k)

pub left_standing_still : (g : Views) (c : CopyCall) (h : Held) → StillBy no_kinds h (left_standing g c h)
left_standing_still g c h =
    still_if no_kinds h (g.is_async c.canon) (got c.task (blocked_word ∷ []) h) (blocked_in c.task c.canon (g.flag c.canon) (blocked_at.Copy c.index) (reason.Copy c.index) h) (got_still no_kinds c.task (blocked_word ∷ []) h) (blocked_in_still no_kinds c.task c.canon (g.flag c.canon) (blocked_at.Copy c.index) (reason.Copy c.index) h)

pub offer_stands_still : (g : Views) (c : CopyCall) (number : ℕ) (h : Held) → StillBy no_kinds h (offer_stands g c number h)
unfolding offer_stands
offer_stands_still g c number h =
    still_after no_kinds h (idle_said c number h) (λ done k. left_standing g c k) (idle_said_still c number h) (λ done k. left_standing_still g c k)

pub met_still : (g : Views) (c : CopyCall) (number : ℕ) (x : Meet) (h : Held) → StillBy no_kinds h (met g c number x h)
met_still g c number meet.Stands h =
    offer_stands_still g c number h
met_still g c number (meet.Copies count) h =
    still_same no_kinds h
met_still g c number meet.Dropped h =
    answered_at_once_still c number 1 h
met_still g c number meet.Displaces h =
    offer_stands_still g c number h
met_still g c number meet.ZeroDone h =
    answered_at_once_still c number 0 h
met_still g c number meet.NothingNow h =
    answered_at_once_still c number 0 h

pub meets_still : (g : Views) (c : CopyCall) (number : ℕ) (h : Held) → StillBy no_kinds h (meets g c number h)
unfolding meets
meets_still g c number h =
    still_after no_kinds h (offered c.kind c.side number (by.Task c.task) c.canon c.place c.length h) (λ m k. met g c number m k) (offered_still c.kind c.side number (by.Task c.task) c.canon c.place c.length h) (λ m k. met_still g c number m k)

pub placed_and_met_still : (g : Views) (element : Option ValType) (c : CopyCall) (number : ℕ) (is_inside : Bool) (h : Held) → StillBy no_kinds h (placed_and_met g element c number is_inside h)
unfolding placed_and_met
placed_and_met_still g element c number is_inside h =
    still_after no_kinds h (placed_well element (memory_of (g.options c.canon) h) c.place c.length h) (λ done k. if is_inside then Traps trap.SameInstance k else meets g c number k) (placed_well_still element (memory_of (g.options c.canon) h) c.place c.length h) (λ done k. still_if no_kinds k (is_inside) (Traps trap.SameInstance k) (meets g c number k) (λ K asked kept. kept) (meets_still g c number k))

pub copy_tested_still : (g : Views) (element : Option ValType) (c : CopyCall) (number : ℕ) (channel : Channel) (h : Held) → StillBy no_kinds h (copy_tested g element c number channel h)
copy_tested_still g element c number channel h =
    still_if no_kinds h (is_copying (end_in c.side channel.ends)) (Traps trap.Busy h) (if (end_in c.side channel.ends).done then Traps trap.DoneEnd h else if nat_lt most_elements c.length then Traps trap.TooLong h else placed_and_met g element c number (is_within g c.at c.side element channel.ends) h) (λ K asked kept. kept) (still_if no_kinds h ((end_in c.side channel.ends).done) (Traps trap.DoneEnd h) (if nat_lt most_elements c.length then Traps trap.TooLong h else placed_and_met g element c number (is_within g c.at c.side element channel.ends) h) (λ K asked kept. kept) (still_if no_kinds h (nat_lt most_elements c.length) (Traps trap.TooLong h) (placed_and_met g element c number (is_within g c.at c.side element channel.ends) h) (λ K asked kept. kept) (placed_and_met_still g element c number (is_within g c.at c.side element channel.ends) h)))

pub read_or_write_still : (g : Views) (element : Option ValType) (c : CopyCall) (h : Held) → StillBy no_kinds h (read_or_write g element c h)
unfolding read_or_write
read_or_write_still g element c h =
    still_after no_kinds h (end_found c.at c.side c.end_type c.index h) (λ e k. given (channel_at c.kind e.number k) (λ channel. copy_tested g element c e.number channel k)) (end_found_still no_kinds c.at c.side c.end_type c.index h) (λ e k. still_given no_kinds k (channel_at c.kind e.number k) (λ channel. copy_tested g element c e.number channel k) (λ channel is. copy_tested_still g element c e.number channel k))

pub copy_asked_still : (g : Views) (element : Option ValType) (t : ℕ) (at : ℕ) (canon : ℕ) (kind : EndKind) (side : Side) (type : ℕ) (words : List ℕ) (h : Held) → StillBy no_kinds h (copy_asked g element t at canon kind side type words h)
unfolding copy_asked
copy_asked_still g element t at canon kind side type words h =
    still_given no_kinds h (word_in words 0) (λ index. given (word_in words 1) (λ place. given (length_in kind words) (λ count. read_or_write g element (call_of t at canon kind side type index place count) h))) (λ index is. still_given no_kinds h (word_in words 1) (λ place. given (length_in kind words) (λ count. read_or_write g element (call_of t at canon kind side type index place count) h)) (λ place is. still_given no_kinds h (length_in kind words) (λ count. read_or_write g element (call_of t at canon kind side type index place count) h) (λ count is. read_or_write_still g element (call_of t at canon kind side type index place count) h)))
