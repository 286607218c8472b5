-- Built-ins of ends, before elements go over, keep memories, core instances and ends as they are kept.
use Rattle.std.specs.Prelude.{ℕ, not, if◌then◌else◌, List, [], ◌∷◌}
use Rattle.builtin_kinds.specs.declared.EndKind.{EndKind}
use Rattle.stream_ends.specs.declared.side.Side.{Side}
use Rattle.stream_ends.specs.declared.side.Side.TheVariants.{Reader, Writer}
use Rattle.stream_ends.specs.declared.stream_end.End.{End}
use Rattle.stream_ends.specs.Ends.{is_copying}
use Rattle.channels.specs.Channels.{end_in}
use Rattle.world_parts.specs.Views.{Views}
use Rattle.trace_labels.specs.declared.trap.TrapName.TheVariants as trap
use Rattle.world_parts.specs.Held.{Held, Traps, after, given}
use Rattle.world_parts.specs.Feed.{got}
use Rattle.world_parts.specs.Entries.{end_found, entry_added, entry_removed, end_idled, set_left}
use Rattle.world_parts.specs.Slots.{word_in}
use Rattle.world_parts.specs.Channels.{channel_at, channel_made, idle_seen, concluded, end_dropped}
use Rattle.world_parts.specs.News.{copy_is_async}
use Rattle.world_parts.specs.Copies.{both_indices, channel_new, copy_cancel, copy_given_up, drop_tested, dropped_end, end_drop, is_unwritten, new_end}
use Rattle.run_laws.proofs.keeping.still.Still.{no_kinds, StillBy, still_after, still_given, still_if}
use Rattle.run_laws.proofs.keeping.still.Channels.{channel_made_still, concluded_still, end_dropped_still, idle_seen_still}
use Rattle.run_laws.proofs.keeping.still.Entries.{end_found_still, end_idled_bare, entry_added_bare, entry_removed_still, set_left_still}
use Rattle.run_laws.proofs.keeping.still.Feed.{got_still}

pub channel_new_still : (t : ℕ) (at : ℕ) (kind : EndKind) (type : ℕ) (h : Held) → StillBy no_kinds h (channel_new t at kind type h)
unfolding channel_new
channel_new_still t at kind type h =
    still_after no_kinds h (channel_made kind type h) (λ number k. after (entry_added at (new_end Reader type number) k) (λ readable l. after (entry_added at (new_end Writer type number) l) (λ writable m. got t (both_indices readable writable ∷ []) m))) (channel_made_still kind type h) (λ number k. still_after no_kinds k (entry_added at (new_end Reader type number) k) (λ readable l. after (entry_added at (new_end Writer type number) l) (λ writable m. got t (both_indices readable writable ∷ []) m)) (entry_added_bare at (new_end Reader type number) k) (λ readable l. still_after no_kinds l (entry_added at (new_end Writer type number) l) (λ writable m. got t (both_indices readable writable ∷ []) m) (entry_added_bare at (new_end Writer type number) l) (λ writable m. got_still no_kinds t (both_indices readable writable ∷ []) m)))

pub dropped_end_still : (t : ℕ) (at : ℕ) (index : ℕ) (kind : EndKind) (side : Side) (number : ℕ) (h : Held) → StillBy no_kinds h (dropped_end t at index kind side number h)
unfolding dropped_end
dropped_end_still t at index kind side number h =
    still_after no_kinds h (set_left at index h) (λ done k. after (entry_removed at index k) (λ done l. after (end_dropped kind side number l) (λ done m. got t [] m))) (set_left_still no_kinds at index h) (λ done k. still_after no_kinds k (entry_removed at index k) (λ done l. after (end_dropped kind side number l) (λ done m. got t [] m)) (entry_removed_still no_kinds at index k) (λ done l. still_after no_kinds l (end_dropped kind side number l) (λ done m. got t [] m) (end_dropped_still kind side number l) (λ done m. got_still no_kinds t [] m)))

pub drop_tested_still : (t : ℕ) (at : ℕ) (index : ℕ) (kind : EndKind) (side : Side) (number : ℕ) (e : End) (h : Held) → StillBy no_kinds h (drop_tested t at index kind side number e h)
drop_tested_still t at index kind side number e h =
    still_if no_kinds h (is_copying e) (Traps trap.Busy h) (if is_unwritten kind side e.done then Traps trap.UnwrittenFuture h else dropped_end t at index kind side number h) (λ K asked kept. kept) (still_if no_kinds h (is_unwritten kind side e.done) (Traps trap.UnwrittenFuture h) (dropped_end t at index kind side number h) (λ K asked kept. kept) (dropped_end_still t at index kind side number h))

pub end_drop_still : (t : ℕ) (at : ℕ) (kind : EndKind) (side : Side) (type : ℕ) (words : List ℕ) (h : Held) → StillBy no_kinds h (end_drop t at kind side type words h)
unfolding end_drop
end_drop_still t at kind side type words h =
    still_given no_kinds h (word_in words 0) (λ index. after (end_found at side type index h) (λ e k. given (channel_at kind e.number k) (λ c. drop_tested t at index kind side e.number (end_in side c.ends) k))) (λ index is. still_after no_kinds h (end_found at side type index h) (λ e k. given (channel_at kind e.number k) (λ c. drop_tested t at index kind side e.number (end_in side c.ends) k)) (end_found_still no_kinds at side type index h) (λ e k. still_given no_kinds k (channel_at kind e.number k) (λ c. drop_tested t at index kind side e.number (end_in side c.ends) k) (λ c is. drop_tested_still t at index kind side e.number (end_in side c.ends) k)))

pub copy_given_up_still : (t : ℕ) (at : ℕ) (index : ℕ) (kind : EndKind) (side : Side) (number : ℕ) (h : Held) → StillBy no_kinds h (copy_given_up t at index kind side number h)
unfolding copy_given_up
copy_given_up_still t at index kind side number h =
    still_after no_kinds h (concluded kind side number h) (λ payload k. after (idle_seen kind side number k) (λ is_idle l. after (end_idled at index is_idle l) (λ done m. got t (payload ∷ []) m))) (concluded_still kind side number h) (λ payload k. still_after no_kinds k (idle_seen kind side number k) (λ is_idle l. after (end_idled at index is_idle l) (λ done m. got t (payload ∷ []) m)) (idle_seen_still kind side number k) (λ is_idle l. still_after no_kinds l (end_idled at index is_idle l) (λ done m. got t (payload ∷ []) m) (end_idled_bare at index is_idle l) (λ done m. got_still no_kinds t (payload ∷ []) m)))

pub copy_cancel_still : (g : Views) (t : ℕ) (at : ℕ) (kind : EndKind) (side : Side) (type : ℕ) (words : List ℕ) (h : Held) → StillBy no_kinds h (copy_cancel g t at kind side type words h)
unfolding copy_cancel
copy_cancel_still g t at kind side type words h =
    still_given no_kinds h (word_in words 0) (λ index. after (end_found at side type index h) (λ e k. given (channel_at kind e.number k) (λ c. if not (copy_is_async g (end_in side c.ends).copy) then Traps trap.NotCopying k else copy_given_up t at index kind side e.number k))) (λ index is. still_after no_kinds h (end_found at side type index h) (λ e k. given (channel_at kind e.number k) (λ c. if not (copy_is_async g (end_in side c.ends).copy) then Traps trap.NotCopying k else copy_given_up t at index kind side e.number k)) (end_found_still no_kinds at side type index h) (λ e k. still_given no_kinds k (channel_at kind e.number k) (λ c. if not (copy_is_async g (end_in side c.ends).copy) then Traps trap.NotCopying k else copy_given_up t at index kind side e.number k) (λ c is. still_if no_kinds k (not (copy_is_async g (end_in side c.ends).copy)) (Traps trap.NotCopying k) (copy_given_up t at index kind side e.number k) (λ K asked kept. kept) (copy_given_up_still t at index kind side e.number k))))
