-- Built-ins of ends: no event is to come next.
use Rattle.std.specs.Prelude.{ℕ, not, if◌then◌else◌, List, [], ◌∷◌}
use Rattle.builtin_kinds.specs.declared.EndKind.{EndKind}
use Rattle.stream_ends.specs.declared.side.Side.{Side}
use Rattle.stream_ends.specs.declared.side.Side.TheVariants.{Reader, Writer}
use Rattle.stream_ends.specs.declared.stream_end.End.{End}
use Rattle.stream_ends.specs.Ends.{is_copying}
use Rattle.channels.specs.Channels.{end_in}
use Rattle.world_parts.specs.Views.{Views}
use Rattle.trace_labels.specs.declared.trap.TrapName.TheVariants as trap
use Rattle.world_parts.specs.Held.{Held, Traps, after, given}
use Rattle.world_parts.specs.Feed.{got}
use Rattle.world_parts.specs.Entries.{end_found, entry_added, entry_removed, end_idled, set_left}
use Rattle.world_parts.specs.Slots.{word_in}
use Rattle.world_parts.specs.Channels.{channel_at, channel_made, idle_seen, concluded, end_dropped}
use Rattle.world_parts.specs.News.{copy_is_async}
use Rattle.world_parts.specs.Copies.{both_indices, channel_new, copy_cancel, copy_given_up, drop_tested, dropped_end, end_drop, is_unwritten, new_end}
use Rattle.run_laws.proofs.silent.Feed.{got_silent}
use Rattle.run_laws.proofs.silent.Silent.{SilentBy, silent_after, silent_given, silent_if}

pub channel_new_silent : (t : ℕ) (at : ℕ) (kind : EndKind) (type : ℕ) (h : Held) → SilentBy (channel_new t at kind type h)
unfolding channel_new
channel_new_silent t at kind type h =
    silent_after (channel_made kind type h) (λ number k. after (entry_added at (new_end Reader type number) k) (λ readable l. after (entry_added at (new_end Writer type number) l) (λ writable m. got t (both_indices readable writable ∷ []) m))) (λ number k. silent_after (entry_added at (new_end Reader type number) k) (λ readable l. after (entry_added at (new_end Writer type number) l) (λ writable m. got t (both_indices readable writable ∷ []) m)) (λ readable l. silent_after (entry_added at (new_end Writer type number) l) (λ writable m. got t (both_indices readable writable ∷ []) m) (λ writable m. got_silent t (both_indices readable writable ∷ []) m)))

pub dropped_end_silent : (t : ℕ) (at : ℕ) (index : ℕ) (kind : EndKind) (side : Side) (number : ℕ) (h : Held) → SilentBy (dropped_end t at index kind side number h)
unfolding dropped_end
dropped_end_silent t at index kind side number h =
    silent_after (set_left at index h) (λ done k. after (entry_removed at index k) (λ done l. after (end_dropped kind side number l) (λ done m. got t [] m))) (λ done k. silent_after (entry_removed at index k) (λ done l. after (end_dropped kind side number l) (λ done m. got t [] m)) (λ done l. silent_after (end_dropped kind side number l) (λ done m. got t [] m) (λ done m. got_silent t [] m)))

pub drop_tested_silent : (t : ℕ) (at : ℕ) (index : ℕ) (kind : EndKind) (side : Side) (number : ℕ) (e : End) (h : Held) → SilentBy (drop_tested t at index kind side number e h)
drop_tested_silent t at index kind side number e h =
    silent_if (is_copying e) (Traps trap.Busy h) (if is_unwritten kind side e.done then Traps trap.UnwrittenFuture h else dropped_end t at index kind side number h) tt (silent_if (is_unwritten kind side e.done) (Traps trap.UnwrittenFuture h) (dropped_end t at index kind side number h) tt (dropped_end_silent t at index kind side number h))

pub end_drop_silent : (t : ℕ) (at : ℕ) (kind : EndKind) (side : Side) (type : ℕ) (words : List ℕ) (h : Held) → SilentBy (end_drop t at kind side type words h)
unfolding end_drop
end_drop_silent t at kind side type words h =
    silent_given (word_in words 0) (λ index. after (end_found at side type index h) (λ e k. given (channel_at kind e.number k) (λ c. drop_tested t at index kind side e.number (end_in side c.ends) k))) (λ index is. silent_after (end_found at side type index h) (λ e k. given (channel_at kind e.number k) (λ c. drop_tested t at index kind side e.number (end_in side c.ends) k)) (λ e k. silent_given (channel_at kind e.number k) (λ c. drop_tested t at index kind side e.number (end_in side c.ends) k) (λ c is. drop_tested_silent t at index kind side e.number (end_in side c.ends) k)))

pub copy_given_up_silent : (t : ℕ) (at : ℕ) (index : ℕ) (kind : EndKind) (side : Side) (number : ℕ) (h : Held) → SilentBy (copy_given_up t at index kind side number h)
unfolding copy_given_up
copy_given_up_silent t at index kind side number h =
    silent_after (concluded kind side number h) (λ payload k. after (idle_seen kind side number k) (λ is_idle l. after (end_idled at index is_idle l) (λ done m. got t (payload ∷ []) m))) (λ payload k. silent_after (idle_seen kind side number k) (λ is_idle l. after (end_idled at index is_idle l) (λ done m. got t (payload ∷ []) m)) (λ is_idle l. silent_after (end_idled at index is_idle l) (λ done m. got t (payload ∷ []) m) (λ done m. got_silent t (payload ∷ []) m)))

pub copy_cancel_silent : (g : Views) (t : ℕ) (at : ℕ) (kind : EndKind) (side : Side) (type : ℕ) (words : List ℕ) (h : Held) → SilentBy (copy_cancel g t at kind side type words h)
unfolding copy_cancel
copy_cancel_silent g t at kind side type words h =
    silent_given (word_in words 0) (λ index. after (end_found at side type index h) (λ e k. given (channel_at kind e.number k) (λ c. if not (copy_is_async g (end_in side c.ends).copy) then Traps trap.NotCopying k else copy_given_up t at index kind side e.number k))) (λ index is. silent_after (end_found at side type index h) (λ e k. given (channel_at kind e.number k) (λ c. if not (copy_is_async g (end_in side c.ends).copy) then Traps trap.NotCopying k else copy_given_up t at index kind side e.number k)) (λ e k. silent_given (channel_at kind e.number k) (λ c. if not (copy_is_async g (end_in side c.ends).copy) then Traps trap.NotCopying k else copy_given_up t at index kind side e.number k) (λ c is. silent_if (not (copy_is_async g (end_in side c.ends).copy)) (Traps trap.NotCopying k) (copy_given_up t at index kind side e.number k) tt (copy_given_up_silent t at index kind side e.number k))))
