-- Built-ins of ends: what is kept well stays so.
use Rattle.std.specs.Prelude.{ℕ, not, if◌then◌else◌, List, [], ◌∷◌}
use Rattle.builtin_kinds.specs.declared.EndKind.{EndKind}
use Rattle.stream_ends.specs.declared.side.Side.{Side}
use Rattle.stream_ends.specs.declared.side.Side.TheVariants.{Reader, Writer}
use Rattle.stream_ends.specs.declared.stream_end.End.{End}
use Rattle.stream_ends.specs.Ends.{is_copying}
use Rattle.channels.specs.Channels.{end_in}
use Rattle.world_parts.specs.Views.{Views}
use Rattle.trace_labels.specs.declared.trap.TrapName.TheVariants as trap
use Rattle.world_parts.specs.Held.{Held, Traps, after, given}
use Rattle.world_parts.specs.Feed.{got}
use Rattle.world_parts.specs.Entries.{end_found, entry_added, entry_removed, end_idled, set_left}
use Rattle.world_parts.specs.Slots.{word_in}
use Rattle.world_parts.specs.Channels.{channel_at, channel_made, idle_seen, concluded, end_dropped}
use Rattle.world_parts.specs.News.{copy_is_async}
use Rattle.world_parts.specs.Copies.{both_indices, channel_new, copy_cancel, copy_given_up, drop_tested, dropped_end, end_drop, is_unwritten, new_end}
use Rattle.run_laws.specs.keeping.Well.{KeepsWell}
use Rattle.run_laws.proofs.well.Channels.{channel_made_well, concluded_well, end_dropped_well, idle_seen_well}
use Rattle.run_laws.proofs.well.Entries.{end_found_well, end_idled_well, entry_added_well, entry_removed_well, set_left_well}
use Rattle.run_laws.proofs.well.Feed.{got_well}
use Rattle.run_laws.proofs.well.Behind.{well_after, well_given, well_if}

pub channel_new_well : (t : ℕ) (at : ℕ) (kind : EndKind) (type : ℕ) (h : Held) → KeepsWell h (channel_new t at kind type h)
unfolding channel_new
channel_new_well t at kind type h =
    well_after h (channel_made kind type h) (λ number k. after (entry_added at (new_end Reader type number) k) (λ readable l. after (entry_added at (new_end Writer type number) l) (λ writable m. got t (both_indices readable writable ∷ []) m))) (channel_made_well kind type h) (λ number k. well_after k (entry_added at (new_end Reader type number) k) (λ readable l. after (entry_added at (new_end Writer type number) l) (λ writable m. got t (both_indices readable writable ∷ []) m)) (entry_added_well at (new_end Reader type number) k) (λ readable l. well_after l (entry_added at (new_end Writer type number) l) (λ writable m. got t (both_indices readable writable ∷ []) m) (entry_added_well at (new_end Writer type number) l) (λ writable m. got_well t (both_indices readable writable ∷ []) m)))

pub dropped_end_well : (t : ℕ) (at : ℕ) (index : ℕ) (kind : EndKind) (side : Side) (number : ℕ) (h : Held) → KeepsWell h (dropped_end t at index kind side number h)
unfolding dropped_end
dropped_end_well t at index kind side number h =
    well_after h (set_left at index h) (λ done k. after (entry_removed at index k) (λ done l. after (end_dropped kind side number l) (λ done m. got t [] m))) (set_left_well at index h) (λ done k. well_after k (entry_removed at index k) (λ done l. after (end_dropped kind side number l) (λ done m. got t [] m)) (entry_removed_well at index k) (λ done l. well_after l (end_dropped kind side number l) (λ done m. got t [] m) (end_dropped_well kind side number l) (λ done m. got_well t [] m)))

pub drop_tested_well : (t : ℕ) (at : ℕ) (index : ℕ) (kind : EndKind) (side : Side) (number : ℕ) (e : End) (h : Held) → KeepsWell h (drop_tested t at index kind side number e h)
drop_tested_well t at index kind side number e h =
    well_if h (is_copying e) (Traps trap.Busy h) (if is_unwritten kind side e.done then Traps trap.UnwrittenFuture h else dropped_end t at index kind side number h) tt (well_if h (is_unwritten kind side e.done) (Traps trap.UnwrittenFuture h) (dropped_end t at index kind side number h) tt (dropped_end_well t at index kind side number h))

pub end_drop_well : (t : ℕ) (at : ℕ) (kind : EndKind) (side : Side) (type : ℕ) (words : List ℕ) (h : Held) → KeepsWell h (end_drop t at kind side type words h)
unfolding end_drop
end_drop_well t at kind side type words h =
    well_given h (word_in words 0) (λ index. after (end_found at side type index h) (λ e k. given (channel_at kind e.number k) (λ c. drop_tested t at index kind side e.number (end_in side c.ends) k))) (λ index is. well_after h (end_found at side type index h) (λ e k. given (channel_at kind e.number k) (λ c. drop_tested t at index kind side e.number (end_in side c.ends) k)) (end_found_well at side type index h) (λ e k. well_given k (channel_at kind e.number k) (λ c. drop_tested t at index kind side e.number (end_in side c.ends) k) (λ c is. drop_tested_well t at index kind side e.number (end_in side c.ends) k)))

pub copy_given_up_well : (t : ℕ) (at : ℕ) (index : ℕ) (kind : EndKind) (side : Side) (number : ℕ) (h : Held) → KeepsWell h (copy_given_up t at index kind side number h)
unfolding copy_given_up
copy_given_up_well t at index kind side number h =
    well_after h (concluded kind side number h) (λ payload k. after (idle_seen kind side number k) (λ is_idle l. after (end_idled at index is_idle l) (λ done m. got t (payload ∷ []) m))) (concluded_well kind side number h) (λ payload k. well_after k (idle_seen kind side number k) (λ is_idle l. after (end_idled at index is_idle l) (λ done m. got t (payload ∷ []) m)) (idle_seen_well kind side number k) (λ is_idle l. well_after l (end_idled at index is_idle l) (λ done m. got t (payload ∷ []) m) (end_idled_well at index is_idle l) (λ done m. got_well t (payload ∷ []) m)))

pub copy_cancel_well : (g : Views) (t : ℕ) (at : ℕ) (kind : EndKind) (side : Side) (type : ℕ) (words : List ℕ) (h : Held) → KeepsWell h (copy_cancel g t at kind side type words h)
unfolding copy_cancel
copy_cancel_well g t at kind side type words h =
    well_given h (word_in words 0) (λ index. after (end_found at side type index h) (λ e k. given (channel_at kind e.number k) (λ c. if not (copy_is_async g (end_in side c.ends).copy) then Traps trap.NotCopying k else copy_given_up t at index kind side e.number k))) (λ index is. well_after h (end_found at side type index h) (λ e k. given (channel_at kind e.number k) (λ c. if not (copy_is_async g (end_in side c.ends).copy) then Traps trap.NotCopying k else copy_given_up t at index kind side e.number k)) (end_found_well at side type index h) (λ e k. well_given k (channel_at kind e.number k) (λ c. if not (copy_is_async g (end_in side c.ends).copy) then Traps trap.NotCopying k else copy_given_up t at index kind side e.number k) (λ c is. well_if k (not (copy_is_async g (end_in side c.ends).copy)) (Traps trap.NotCopying k) (copy_given_up t at index kind side e.number k) tt (copy_given_up_well t at index kind side e.number k))))
