-- Built-ins of ends leave the store alone before elements go over, and no handle is lent more often.
use Rattle.std.proofs.Common.{◌≡◌, refl, Some}
use Rattle.std.specs.Prelude.{ℕ, ◌+◌, ◌*◌, ◌%◌, ◌^◌, nat_eq, nat_le, nat_lt, min, Bool, true, false, not, ◌&&◌, if◌then◌else◌, List, [], ◌∷◌, length, Option, Some, None}
use Rattle.builtin_kinds.specs.declared.EndKind.{EndKind}
use Rattle.builtin_kinds.specs.declared.EndKind.TheVariants.{Stream, Future}
use Rattle.stream_ends.specs.declared.side.Side.{Side}
use Rattle.stream_ends.specs.declared.side.Side.TheVariants.{Reader, Writer}
use Rattle.stream_ends.specs.declared.open_copy.By.TheVariants as by
use Rattle.stream_ends.specs.declared.open_copy.OpenCopy.{OpenCopy}
use Rattle.stream_ends.specs.declared.meet.Meet.{Meet}
use Rattle.stream_ends.specs.declared.meet.Meet.TheVariants as meet
use Rattle.stream_ends.specs.declared.stream_end.End.{End}
use Rattle.stream_ends.specs.Ends.{other_side, standing_of, is_copying}
use Rattle.channels.specs.declared.channel.Channel.{Channel}
use Rattle.channels.specs.Channels.{end_in}
use Rattle.tasks.specs.declared.event.BlockedAt.TheVariants as blocked_at
use Rattle.instances.specs.declared.entry.EndEntry.{EndEntry}
use Rattle.instances.specs.declared.entry.WorldEntry.{WorldEntry}
use Rattle.instances.specs.declared.entry.WorldEntry.TheVariants as entry
use Rattle.world_parts.specs.Views.{Views}
use Rattle.trace_labels.specs.declared.label.BlockReason.TheVariants as reason
use Rattle.trace_labels.specs.declared.trap.TrapName.TheVariants as trap
use Rattle.world_parts.specs.declared.parts.Copying.{Copying}
use Rattle.world_parts.specs.declared.parts.Flow.{Flow}
use Rattle.world_parts.specs.declared.parts.Flow.TheVariants as flow
use Rattle.world_parts.specs.Held.{Held, Done, Gives, Traps, Stuck, after, given}
use Rattle.world_parts.specs.Feed.{got}
use Rattle.world_parts.specs.Entries.{end_found, entry_added, entry_removed, end_idled, set_left}
use Rattle.world_parts.specs.Slots.{word_in}
use Rattle.world_parts.specs.Channels.{channel_at, channel_made, idle_seen, offered, concluded, end_dropped}
use Rattle.world_parts.specs.Places.{memory_of, bytes_at}
use Rattle.world_parts.specs.Calls.{blocked_word, blocked_in}
use Rattle.world_parts.specs.News.{copy_is_async}
use Rattle.world_parts.specs.Copies.{both_indices, channel_new, copy_cancel, copy_given_up, drop_tested, dropped_end, end_drop, is_unwritten, new_end}
use Rattle.value_parts.proofs.fit.Keeps.{Keeps, KeepsBy, keeps_after, keeps_given, keeps_if, keeps_same, keeps_all, keeps_from, keeps_instance}
use Rattle.value_parts.proofs.fit.Channels.{channel_made_keeps, concluded_keeps, end_dropped_keeps, idle_seen_keeps}
use Rattle.value_parts.proofs.fit.Entries.{end_found_keeps, end_idled_keeps, entry_added_keeps, entry_removed_keeps, set_left_keeps}
use Rattle.value_parts.proofs.fit.Feed.{got_keeps}

pub channel_new_keeps : (t : ℕ) (at : ℕ) (kind : EndKind) (type : ℕ) (h : Held) → KeepsBy h (channel_new t at kind type h)
unfolding channel_new
channel_new_keeps t at kind type h =
    keeps_after h (channel_made kind type h) (λ number k. after (entry_added at (new_end Reader type number) k) (λ readable l. after (entry_added at (new_end Writer type number) l) (λ writable m. got t (both_indices readable writable ∷ []) m))) (channel_made_keeps kind type h) (λ number k. keeps_after k (entry_added at (new_end Reader type number) k) (λ readable l. after (entry_added at (new_end Writer type number) l) (λ writable m. got t (both_indices readable writable ∷ []) m)) (entry_added_keeps at (new_end Reader type number) k refl) (λ readable l. keeps_after l (entry_added at (new_end Writer type number) l) (λ writable m. got t (both_indices readable writable ∷ []) m) (entry_added_keeps at (new_end Writer type number) l refl) (λ writable m. got_keeps t (both_indices readable writable ∷ []) m)))

pub dropped_end_keeps : (t : ℕ) (at : ℕ) (index : ℕ) (kind : EndKind) (side : Side) (number : ℕ) (h : Held) → KeepsBy h (dropped_end t at index kind side number h)
unfolding dropped_end
dropped_end_keeps t at index kind side number h =
    keeps_after h (set_left at index h) (λ done k. after (entry_removed at index k) (λ done l. after (end_dropped kind side number l) (λ done m. got t [] m))) (set_left_keeps at index h) (λ done k. keeps_after k (entry_removed at index k) (λ done l. after (end_dropped kind side number l) (λ done m. got t [] m)) (entry_removed_keeps at index k) (λ done l. keeps_after l (end_dropped kind side number l) (λ done m. got t [] m) (end_dropped_keeps kind side number l) (λ done m. got_keeps t [] m)))

pub drop_tested_keeps : (t : ℕ) (at : ℕ) (index : ℕ) (kind : EndKind) (side : Side) (number : ℕ) (e : End) (h : Held) → KeepsBy h (drop_tested t at index kind side number e h)
drop_tested_keeps t at index kind side number e h =
    keeps_if h (is_copying e) (Traps trap.Busy h) (if is_unwritten kind side e.done then Traps trap.UnwrittenFuture h else dropped_end t at index kind side number h) tt (keeps_if h (is_unwritten kind side e.done) (Traps trap.UnwrittenFuture h) (dropped_end t at index kind side number h) tt (dropped_end_keeps t at index kind side number h))

pub end_drop_keeps : (t : ℕ) (at : ℕ) (kind : EndKind) (side : Side) (type : ℕ) (words : List ℕ) (h : Held) → KeepsBy h (end_drop t at kind side type words h)
unfolding end_drop
end_drop_keeps t at kind side type words h =
    keeps_given h (word_in words 0) (λ index. after (end_found at side type index h) (λ e k. given (channel_at kind e.number k) (λ c. drop_tested t at index kind side e.number (end_in side c.ends) k))) (λ index is. keeps_after h (end_found at side type index h) (λ e k. given (channel_at kind e.number k) (λ c. drop_tested t at index kind side e.number (end_in side c.ends) k)) (end_found_keeps at side type index h) (λ e k. keeps_given k (channel_at kind e.number k) (λ c. drop_tested t at index kind side e.number (end_in side c.ends) k) (λ c is. drop_tested_keeps t at index kind side e.number (end_in side c.ends) k)))

pub copy_given_up_keeps : (t : ℕ) (at : ℕ) (index : ℕ) (kind : EndKind) (side : Side) (number : ℕ) (h : Held) → KeepsBy h (copy_given_up t at index kind side number h)
unfolding copy_given_up
copy_given_up_keeps t at index kind side number h =
    keeps_after h (concluded kind side number h) (λ payload k. after (idle_seen kind side number k) (λ is_idle l. after (end_idled at index is_idle l) (λ done m. got t (payload ∷ []) m))) (concluded_keeps kind side number h) (λ payload k. keeps_after k (idle_seen kind side number k) (λ is_idle l. after (end_idled at index is_idle l) (λ done m. got t (payload ∷ []) m)) (idle_seen_keeps kind side number k) (λ is_idle l. keeps_after l (end_idled at index is_idle l) (λ done m. got t (payload ∷ []) m) (end_idled_keeps at index is_idle l) (λ done m. got_keeps t (payload ∷ []) m)))

pub copy_cancel_keeps : (g : Views) (t : ℕ) (at : ℕ) (kind : EndKind) (side : Side) (type : ℕ) (words : List ℕ) (h : Held) → KeepsBy h (copy_cancel g t at kind side type words h)
unfolding copy_cancel
copy_cancel_keeps g t at kind side type words h =
    keeps_given h (word_in words 0) (λ index. after (end_found at side type index h) (λ e k. given (channel_at kind e.number k) (λ c. if not (copy_is_async g (end_in side c.ends).copy) then Traps trap.NotCopying k else copy_given_up t at index kind side e.number k))) (λ index is. keeps_after h (end_found at side type index h) (λ e k. given (channel_at kind e.number k) (λ c. if not (copy_is_async g (end_in side c.ends).copy) then Traps trap.NotCopying k else copy_given_up t at index kind side e.number k)) (end_found_keeps at side type index h) (λ e k. keeps_given k (channel_at kind e.number k) (λ c. if not (copy_is_async g (end_in side c.ends).copy) then Traps trap.NotCopying k else copy_given_up t at index kind side e.number k) (λ c is. keeps_if k (not (copy_is_async g (end_in side c.ends).copy)) (Traps trap.NotCopying k) (copy_given_up t at index kind side e.number k) tt (copy_given_up_keeps t at index kind side e.number k))))
