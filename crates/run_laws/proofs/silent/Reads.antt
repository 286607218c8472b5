-- Reads and writes: no event is to come next.
use Rattle.std.specs.Prelude.{ℕ, nat_lt, Bool, if◌then◌else◌, List, [], ◌∷◌, length, Option}
use Rattle.syntax_trees.specs.declared.types.ValType.{ValType}
use Rattle.builtin_kinds.specs.declared.EndKind.{EndKind}
use Rattle.stream_ends.specs.declared.side.Side.{Side}
use Rattle.stream_ends.specs.declared.open_copy.By.TheVariants as by
use Rattle.stream_ends.specs.declared.meet.Meet.{Meet}
use Rattle.stream_ends.specs.declared.meet.Meet.TheVariants as meet
use Rattle.stream_ends.specs.Ends.{is_copying}
use Rattle.channels.specs.declared.channel.Channel.{Channel}
use Rattle.channels.specs.Channels.{end_in}
use Rattle.tasks.specs.declared.event.BlockedAt.TheVariants as blocked_at
use Rattle.trace_labels.specs.declared.label.BlockReason.TheVariants as reason
use Rattle.trace_labels.specs.declared.trap.TrapName.TheVariants as trap
use Rattle.world_parts.specs.Views.{Views}
use Rattle.world_parts.specs.Held.{Held, Traps, given}
use Rattle.world_parts.specs.Feed.{got}
use Rattle.world_parts.specs.Entries.{end_found}
use Rattle.world_parts.specs.Slots.{word_in}
use Rattle.world_parts.specs.Channels.{channel_at, offered}
use Rattle.world_parts.specs.Places.{memory_of}
use Rattle.world_parts.specs.Calls.{blocked_word, blocked_in}
use Rattle.copy_replies.specs.declared.reading.CopyCall.{CopyCall}
use Rattle.copy_replies.specs.Reads.{answered_at_once, call_of, copy_asked, copy_tested, idle_said, is_within, left_standing, length_in, meets, met, most_elements, offer_stands, placed_and_met, placed_well, read_or_write}
use Rattle.run_laws.proofs.silent.Calls.{blocked_in_silent}
use Rattle.run_laws.proofs.silent.Feed.{got_silent}
use Rattle.run_laws.proofs.silent.Silent.{SilentBy, silent_after, silent_given, silent_if}

pub answered_at_once_silent : (c : CopyCall) (number : ℕ) (payload : ℕ) (h : Held) → SilentBy (answered_at_once c number payload h)
unfolding answered_at_once
answered_at_once_silent c number payload h =
    silent_after (idle_said c number h) (λ done k. got c.task (payload ∷ []) k) (λ done k. got_silent c.task (payload ∷ []) k)

pub left_standing_silent : (g : Views) (c : CopyCall) (h : Held) → SilentBy (left_standing g c h)
left_standing_silent g c h =
    silent_if (g.is_async c.canon) (got c.task (blocked_word ∷ []) h) (blocked_in c.task c.canon (g.flag c.canon) (blocked_at.Copy c.index) (reason.Copy c.index) h) (got_silent c.task (blocked_word ∷ []) h) (blocked_in_silent c.task c.canon (g.flag c.canon) (blocked_at.Copy c.index) (reason.Copy c.index) h)

pub offer_stands_silent : (g : Views) (c : CopyCall) (number : ℕ) (h : Held) → SilentBy (offer_stands g c number h)
unfolding offer_stands
offer_stands_silent g c number h =
    silent_after (idle_said c number h) (λ done k. left_standing g c k) (λ done k. left_standing_silent g c k)

pub met_silent : (g : Views) (c : CopyCall) (number : ℕ) (x : Meet) (h : Held) → SilentBy (met g c number x h)
met_silent g c number meet.Stands h =
    offer_stands_silent g c number h
met_silent g c number (meet.Copies count) h =
    tt
met_silent g c number meet.Dropped h =
    answered_at_once_silent c number 1 h
met_silent g c number meet.Displaces h =
    offer_stands_silent g c number h
met_silent g c number meet.ZeroDone h =
    answered_at_once_silent c number 0 h
met_silent g c number meet.NothingNow h =
    answered_at_once_silent c number 0 h

pub meets_silent : (g : Views) (c : CopyCall) (number : ℕ) (h : Held) → SilentBy (meets g c number h)
unfolding meets
meets_silent g c number h =
    silent_after (offered c.kind c.side number (by.Task c.task) c.canon c.place c.length h) (λ m k. met g c number m k) (λ m k. met_silent g c number m k)

pub placed_and_met_silent : (g : Views) (element : Option ValType) (c : CopyCall) (number : ℕ) (is_inside : Bool) (h : Held) → SilentBy (placed_and_met g element c number is_inside h)
unfolding placed_and_met
placed_and_met_silent g element c number is_inside h =
    silent_after (placed_well element (memory_of (g.options c.canon) h) c.place c.length h) (λ done k. if is_inside then Traps trap.SameInstance k else meets g c number k) (λ done k. silent_if (is_inside) (Traps trap.SameInstance k) (meets g c number k) tt (meets_silent g c number k))

pub copy_tested_silent : (g : Views) (element : Option ValType) (c : CopyCall) (number : ℕ) (channel : Channel) (h : Held) → SilentBy (copy_tested g element c number channel h)
copy_tested_silent g element c number channel h =
    silent_if (is_copying (end_in c.side channel.ends)) (Traps trap.Busy h) (if (end_in c.side channel.ends).done then Traps trap.DoneEnd h else if nat_lt most_elements c.length then Traps trap.TooLong h else placed_and_met g element c number (is_within g c.at c.side element channel.ends) h) tt (silent_if ((end_in c.side channel.ends).done) (Traps trap.DoneEnd h) (if nat_lt most_elements c.length then Traps trap.TooLong h else placed_and_met g element c number (is_within g c.at c.side element channel.ends) h) tt (silent_if (nat_lt most_elements c.length) (Traps trap.TooLong h) (placed_and_met g element c number (is_within g c.at c.side element channel.ends) h) tt (placed_and_met_silent g element c number (is_within g c.at c.side element channel.ends) h)))

pub read_or_write_silent : (g : Views) (element : Option ValType) (c : CopyCall) (h : Held) → SilentBy (read_or_write g element c h)
unfolding read_or_write
read_or_write_silent g element c h =
    silent_after (end_found c.at c.side c.end_type c.index h) (λ e k. given (channel_at c.kind e.number k) (λ channel. copy_tested g element c e.number channel k)) (λ e k. silent_given (channel_at c.kind e.number k) (λ channel. copy_tested g element c e.number channel k) (λ channel is. copy_tested_silent g element c e.number channel k))

pub copy_asked_silent : (g : Views) (element : Option ValType) (t : ℕ) (at : ℕ) (canon : ℕ) (kind : EndKind) (side : Side) (type : ℕ) (words : List ℕ) (h : Held) → SilentBy (copy_asked g element t at canon kind side type words h)
unfolding copy_asked
copy_asked_silent g element t at canon kind side type words h =
    silent_given (word_in words 0) (λ index. given (word_in words 1) (λ place. given (length_in kind words) (λ count. read_or_write g element (call_of t at canon kind side type index place count) h))) (λ index is. silent_given (word_in words 1) (λ place. given (length_in kind words) (λ count. read_or_write g element (call_of t at canon kind side type index place count) h)) (λ place is. silent_given (length_in kind words) (λ count. read_or_write g element (call_of t at canon kind side type index place count) h) (λ count is. read_or_write_silent g element (call_of t at canon kind side type index place count) h)))
