-- Reads and writes, up to where elements go over, leave the store alone, and no handle is lent more often.
use Rattle.std.proofs.Common.{◌≡◌, refl}
use Rattle.std.specs.Prelude.{ℕ, ◌+◌, ◌*◌, ◌%◌, nat_eq, nat_le, nat_lt, Bool, true, false, not, ◌&&◌, if◌then◌else◌, List, [], ◌∷◌, length, Option, Some, None}
use Rattle.syntax_trees.specs.declared.types.ValType.{ValType}
use Rattle.laid_types.specs.Layout.{laid}
use Rattle.value_lift.specs.Lifting.{is_integer}
use Rattle.builtin_kinds.specs.declared.EndKind.{EndKind}
use Rattle.builtin_kinds.specs.declared.EndKind.TheVariants.{Stream, Future}
use Rattle.stream_ends.specs.declared.side.Side.{Side}
use Rattle.stream_ends.specs.declared.open_copy.By.TheVariants as by
use Rattle.stream_ends.specs.declared.open_copy.OpenCopy.{OpenCopy}
use Rattle.stream_ends.specs.declared.meet.Meet.{Meet}
use Rattle.stream_ends.specs.declared.meet.Meet.TheVariants as meet
use Rattle.stream_ends.specs.Ends.{other_side, standing_of, is_copying}
use Rattle.channels.specs.declared.channel.Channel.{Channel}
use Rattle.channels.specs.declared.channel.Ends.{Ends}
use Rattle.channels.specs.Channels.{end_in}
use Rattle.tasks.specs.declared.event.BlockedAt.TheVariants as blocked_at
use Rattle.trace_labels.specs.declared.label.BlockReason.TheVariants as reason
use Rattle.trace_labels.specs.declared.trap.TrapName.TheVariants as trap
use Rattle.world_parts.specs.Views.{Views}
use Rattle.world_parts.specs.declared.parts.Copying.{Copying}
use Rattle.world_parts.specs.declared.parts.Flow.{Flow}
use Rattle.world_parts.specs.declared.parts.Flow.TheVariants as flow
use Rattle.world_parts.specs.Held.{Held, Done, Gives, Traps, after, given}
use Rattle.world_parts.specs.Feed.{got}
use Rattle.world_parts.specs.Entries.{end_found, end_idled}
use Rattle.world_parts.specs.Slots.{word_in}
use Rattle.world_parts.specs.Channels.{channel_at, idle_seen, offered}
use Rattle.world_parts.specs.Places.{memory_of, bytes_at}
use Rattle.world_parts.specs.Calls.{blocked_word, blocked_in}
use Rattle.copy_replies.specs.declared.reading.CopyCall.{CopyCall}
use Rattle.copy_replies.specs.Reads.{answered_at_once, call_of, copy_asked, copy_tested, copying_of, idle_said, is_none_or_integer, is_offer_of, is_within, left_standing, length_in, meets, met, most_elements, offer_stands, placed_and_met, placed_well, read_or_write}
use Rattle.value_parts.proofs.fit.Keeps.{KeepsBy, keeps_after, keeps_given, keeps_if, keeps_same, keeps_all, keeps_from}
use Rattle.value_parts.proofs.fit.Calls.{blocked_in_keeps}
use Rattle.value_parts.proofs.fit.Channels.{idle_seen_keeps, offered_keeps}
use Rattle.value_parts.proofs.fit.Entries.{end_found_keeps, end_idled_keeps}
use Rattle.value_parts.proofs.fit.Feed.{got_keeps}

pub placed_well_keeps : (o : Option ValType) (memory : Option ℕ) (place : ℕ) (count : ℕ) (h : Held) → KeepsBy h (placed_well o memory place count h)
unfolding placed_well
placed_well_keeps None memory place count h =
    keeps_same h
placed_well_keeps (Some element) memory place count h =
    keeps_if h (nat_eq count 0) (Gives (tt {0}) h) (if not (nat_eq (place % (laid element).align) 0) then Traps trap.Misaligned h else if not (nat_le (place + count * (laid element).size) (length (bytes_at memory h.store))) then Traps trap.Bounds h else Gives (tt {0}) h) (keeps_same h) (keeps_if h (not (nat_eq (place % (laid element).align) 0)) (Traps trap.Misaligned h) (if not (nat_le (place + count * (laid element).size) (length (bytes_at memory h.store))) then Traps trap.Bounds h else Gives (tt {0}) h) tt (keeps_if h (not (nat_le (place + count * (laid element).size) (length (bytes_at memory h.store)))) (Traps trap.Bounds h) (Gives (tt {0}) h) tt (keeps_same h)))

pub idle_said_keeps : (c : CopyCall) (number : ℕ) (h : Held) → KeepsBy h (idle_said c number h)
unfolding idle_said
idle_said_keeps c number h =
    keeps_after h (idle_seen c.kind c.side number h) (λ is_idle k. end_idled c.at c.index is_idle k) (idle_seen_keeps c.kind c.side number h) (λ is_idle k. end_idled_keeps c.at c.index is_idle k)

pub answered_at_once_keeps : (c : CopyCall) (number : ℕ) (payload : ℕ) (h : Held) → KeepsBy h (answered_at_once c number payload h)
unfolding answered_at_once
answered_at_once_keeps c number payload h =
    keeps_after h (idle_said c number h) (λ done k. got c.task (payload ∷ []) k) (idle_said_keeps c number h) (λ done k. got_keeps c.task (payload ∷ []) k)

pub left_standing_keeps : (g : Views) (c : CopyCall) (h : Held) → KeepsBy h (left_standing g c h)
left_standing_keeps g c h =
    keeps_if h (g.is_async c.canon) (got c.task (blocked_word ∷ []) h) (blocked_in c.task c.canon (g.flag c.canon) (blocked_at.Copy c.index) (reason.Copy c.index) h) (got_keeps c.task (blocked_word ∷ []) h) (blocked_in_keeps c.task c.canon (g.flag c.canon) (blocked_at.Copy c.index) (reason.Copy c.index) h)

pub offer_stands_keeps : (g : Views) (c : CopyCall) (number : ℕ) (h : Held) → KeepsBy h (offer_stands g c number h)
unfolding offer_stands
offer_stands_keeps g c number h =
    keeps_after h (idle_said c number h) (λ done k. left_standing g c k) (idle_said_keeps c number h) (λ done k. left_standing_keeps g c k)

pub met_keeps : (g : Views) (c : CopyCall) (number : ℕ) (x : Meet) (h : Held) → KeepsBy h (met g c number x h)
met_keeps g c number meet.Stands h =
    offer_stands_keeps g c number h
met_keeps g c number (meet.Copies count) h =
    keeps_same h
met_keeps g c number meet.Dropped h =
    answered_at_once_keeps c number 1 h
met_keeps g c number meet.Displaces h =
    offer_stands_keeps g c number h
met_keeps g c number meet.ZeroDone h =
    answered_at_once_keeps c number 0 h
met_keeps g c number meet.NothingNow h =
    answered_at_once_keeps c number 0 h

pub meets_keeps : (g : Views) (c : CopyCall) (number : ℕ) (h : Held) → KeepsBy h (meets g c number h)
unfolding meets
meets_keeps g c number h =
    keeps_after h (offered c.kind c.side number (by.Task c.task) c.canon c.place c.length h) (λ m k. met g c number m k) (offered_keeps c.kind c.side number (by.Task c.task) c.canon c.place c.length h) (λ m k. met_keeps g c number m k)

pub placed_and_met_keeps : (g : Views) (element : Option ValType) (c : CopyCall) (number : ℕ) (is_inside : Bool) (h : Held) → KeepsBy h (placed_and_met g element c number is_inside h)
unfolding placed_and_met
placed_and_met_keeps g element c number is_inside h =
    keeps_after h (placed_well element (memory_of (g.options c.canon) h) c.place c.length h) (λ done k. if is_inside then Traps trap.SameInstance k else meets g c number k) (placed_well_keeps element (memory_of (g.options c.canon) h) c.place c.length h) (λ done k. keeps_if k (is_inside) (Traps trap.SameInstance k) (meets g c number k) tt (meets_keeps g c number k))

pub copy_tested_keeps : (g : Views) (element : Option ValType) (c : CopyCall) (number : ℕ) (channel : Channel) (h : Held) → KeepsBy h (copy_tested g element c number channel h)
copy_tested_keeps g element c number channel h =
    keeps_if h (is_copying (end_in c.side channel.ends)) (Traps trap.Busy h) (if (end_in c.side channel.ends).done then Traps trap.DoneEnd h else if nat_lt most_elements c.length then Traps trap.TooLong h else placed_and_met g element c number (is_within g c.at c.side element channel.ends) h) tt (keeps_if h ((end_in c.side channel.ends).done) (Traps trap.DoneEnd h) (if nat_lt most_elements c.length then Traps trap.TooLong h else placed_and_met g element c number (is_within g c.at c.side element channel.ends) h) tt (keeps_if h (nat_lt most_elements c.length) (Traps trap.TooLong h) (placed_and_met g element c number (is_within g c.at c.side element channel.ends) h) tt (placed_and_met_keeps g element c number (is_within g c.at c.side element channel.ends) h)))

pub read_or_write_keeps : (g : Views) (element : Option ValType) (c : CopyCall) (h : Held) → KeepsBy h (read_or_write g element c h)
unfolding read_or_write
read_or_write_keeps g element c h =
    keeps_after h (end_found c.at c.side c.end_type c.index h) (λ e k. given (channel_at c.kind e.number k) (λ channel. copy_tested g element c e.number channel k)) (end_found_keeps c.at c.side c.end_type c.index h) (λ e k. keeps_given k (channel_at c.kind e.number k) (λ channel. copy_tested g element c e.number channel k) (λ channel is. copy_tested_keeps g element c e.number channel k))

pub copy_asked_keeps : (g : Views) (element : Option ValType) (t : ℕ) (at : ℕ) (canon : ℕ) (kind : EndKind) (side : Side) (type : ℕ) (words : List ℕ) (h : Held) → KeepsBy h (copy_asked g element t at canon kind side type words h)
unfolding copy_asked
copy_asked_keeps g element t at canon kind side type words h =
    keeps_given h (word_in words 0) (λ index. given (word_in words 1) (λ place. given (length_in kind words) (λ count. read_or_write g element (call_of t at canon kind side type index place count) h))) (λ index is. keeps_given h (word_in words 1) (λ place. given (length_in kind words) (λ count. read_or_write g element (call_of t at canon kind side type index place count) h)) (λ place is. keeps_given h (length_in kind words) (λ count. read_or_write g element (call_of t at canon kind side type index place count) h) (λ count is. read_or_write_keeps g element (call_of t at canon kind side type index place count) h)))
