-- Streams and futures (Component Model, CanonicalABI.md, `canon stream.new`, `canon stream.{read,write}`, `canon stream.cancel-{read,write}`,
-- `canon stream.drop-{readable,writable}` and their fellows of futures): what their built-ins do before elements go over.
use Rattle.std.specs.Prelude.{ℕ, ◌+◌, ◌*◌, ◌%◌, ◌^◌, nat_eq, nat_le, nat_lt, min, Bool, true, false, not, ◌&&◌, if◌then◌else◌, List, [], ◌∷◌, length, Option, Some, None}
use Rattle.builtin_kinds.specs.declared.EndKind.{EndKind}
use Rattle.builtin_kinds.specs.declared.EndKind.TheVariants.{Stream, Future}
use Rattle.stream_ends.specs.declared.side.Side.{Side}
use Rattle.stream_ends.specs.declared.side.Side.TheVariants.{Reader, Writer}
use Rattle.stream_ends.specs.declared.open_copy.By.TheVariants as by
use Rattle.stream_ends.specs.declared.open_copy.OpenCopy.{OpenCopy}
use Rattle.stream_ends.specs.declared.meet.Meet.{Meet}
use Rattle.stream_ends.specs.declared.meet.Meet.TheVariants as meet
use Rattle.stream_ends.specs.declared.stream_end.End.{End}
use Rattle.stream_ends.specs.Ends.{other_side, standing_of, is_copying}
use Rattle.channels.specs.declared.channel.Channel.{Channel}
use Rattle.channels.specs.Channels.{end_in}
use Rattle.tasks.specs.declared.event.BlockedAt.TheVariants as blocked_at
use Rattle.instances.specs.declared.entry.EndEntry.{EndEntry}
use Rattle.instances.specs.declared.entry.WorldEntry.{WorldEntry}
use Rattle.instances.specs.declared.entry.WorldEntry.TheVariants as entry
use Rattle.world_parts.specs.Views.{Views}
use Rattle.trace_labels.specs.declared.label.BlockReason.TheVariants as reason
use Rattle.trace_labels.specs.declared.trap.TrapName.TheVariants as trap
use Rattle.world_parts.specs.declared.parts.Copying.{Copying}
use Rattle.world_parts.specs.declared.parts.Flow.{Flow}
use Rattle.world_parts.specs.declared.parts.Flow.TheVariants as flow
use Rattle.world_parts.specs.Held.{Held, Done, Gives, Traps, Stuck, after, given}
use Rattle.world_parts.specs.Feed.{got}
use Rattle.world_parts.specs.Entries.{end_found, entry_added, entry_removed, end_idled, set_left}
use Rattle.world_parts.specs.Slots.{word_in}
use Rattle.world_parts.specs.Channels.{channel_at, channel_made, idle_seen, offered, concluded, end_dropped}
use Rattle.world_parts.specs.Places.{memory_of, bytes_at}
use Rattle.world_parts.specs.Calls.{blocked_word, blocked_in}
use Rattle.world_parts.specs.News.{copy_is_async}

-- Both ends of a new stream or future stand in the table, and one word has their indices.
abbrev pub both_indices : ℕ → ℕ → ℕ
both_indices readable writable = readable + 2 ^ 32 * writable

abbrev pub new_end : Side → ℕ → ℕ → WorldEntry
new_end side type number = entry.End (record { side = side; end_type = type; number = number; is_idle = true })

unfoldable pub channel_new : ℕ → ℕ → EndKind → ℕ → Held → Done Flow
channel_new t at kind type h =
    after (channel_made kind type h) (λ number k. after (entry_added at (new_end Reader type number) k) (λ readable l.
    after (entry_added at (new_end Writer type number) l) (λ writable m. got t (both_indices readable writable ∷ []) m)))

-- An end is dropped, unless a copy is open there, or it is the writable one of a future that is not done.
abbrev pub is_unwritten : EndKind → Side → Bool → Bool
is_unwritten Stream side is_done = false
is_unwritten Future Reader is_done = false
is_unwritten Future Writer is_done = not is_done

unfoldable pub dropped_end : ℕ → ℕ → ℕ → EndKind → Side → ℕ → Held → Done Flow
dropped_end t at index kind side number h =
    after (set_left at index h) (λ done k. after (entry_removed at index k) (λ done l.
    after (end_dropped kind side number l) (λ done m. got t [] m)))

abbrev pub drop_tested : ℕ → ℕ → ℕ → EndKind → Side → ℕ → End → Held → Done Flow
drop_tested t at index kind side number e h =
    if is_copying e then Traps trap.Busy h else
    if is_unwritten kind side e.done then Traps trap.UnwrittenFuture h else dropped_end t at index kind side number h

unfoldable pub end_drop : ℕ → ℕ → EndKind → Side → ℕ → List ℕ → Held → Done Flow
end_drop t at kind side type words h =
    given (word_in words 0) (λ index. after (end_found at side type index h) (λ e k. given (channel_at kind e.number k) (λ c.
    drop_tested t at index kind side e.number (end_in side c.ends) k)))

-- The copy of a call that did not wait is told, or given up.
unfoldable pub copy_given_up : ℕ → ℕ → ℕ → EndKind → Side → ℕ → Held → Done Flow
copy_given_up t at index kind side number h =
    after (concluded kind side number h) (λ payload k. after (idle_seen kind side number k) (λ is_idle l.
    after (end_idled at index is_idle l) (λ done m. got t (payload ∷ []) m)))

unfoldable pub copy_cancel : Views → ℕ → ℕ → EndKind → Side → ℕ → List ℕ → Held → Done Flow
copy_cancel g t at kind side type words h =
    given (word_in words 0) (λ index. after (end_found at side type index h) (λ e k. given (channel_at kind e.number k) (λ c.
    if not (copy_is_async g (end_in side c.ends).copy) then Traps trap.NotCopying k else copy_given_up t at index kind side e.number k)))
