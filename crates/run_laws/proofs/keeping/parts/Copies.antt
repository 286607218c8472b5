-- Built-ins of ends, but for reads and writes, leave marks of handles and subtasks as they follow from tables and tasks.
use Rattle.std.proofs.Common.{◌≡◌, true, false, refl, sym, ap, ◌∙◌, subst}
use Rattle.std.specs.Prelude.{ℕ, ◌+◌, nat_lt, Bool, not, if◌then◌else◌, List, [], ◌∷◌, ◌++◌, length, Option, Some, None, Ok, Err}
use Rattle.std.specs.List.{slice_get}
use Rattle.std.proofs.lemmas.Bool.{ltb-true}
use Rattle.builtin_kinds.specs.declared.EndKind.{EndKind}
use Rattle.builtin_kinds.specs.declared.EndKind.TheVariants.{Stream, Future}
use Rattle.handle_table.specs.History.{most_live}
use Rattle.handle_table.specs.Slots.{count, next_of}
use Rattle.handle_table.specs.Sound.{IsSound}
use Rattle.handle_table.proofs.Soundness.{added_sound}
use Rattle.res_handles.specs.declared.refusal.Refusal.TheVariants as refusal
use Rattle.stream_ends.specs.declared.side.Side.{Side}
use Rattle.stream_ends.specs.declared.side.Side.TheVariants.{Reader, Writer}
use Rattle.stream_ends.specs.declared.stream_end.End.{End}
use Rattle.stream_ends.specs.Ends.{is_copying}
use Rattle.channels.specs.Channels.{new_ends, end_in as channel_end}
use Rattle.waitables.specs.Sets.{left}
use Rattle.instances.specs.declared.entry.EndEntry.{EndEntry}
use Rattle.instances.specs.declared.entry.WorldEntry.{WorldEntry}
use Rattle.instances.specs.declared.entry.WorldEntry.TheVariants as entry
use Rattle.instances.specs.Entries.{same_side, is_of_type, typed_end, end_in}
use Rattle.instances.specs.Instances as instance
use Rattle.instances.specs.Instances.{InstanceView, entry_of, with_sets}
use Rattle.trace_labels.specs.declared.trap.TrapName.TheVariants as trap
use Rattle.world_parts.specs.Views.{Views}
use Rattle.world_parts.specs.Held.{Held, Done, Gives, Traps, after, given}
use Rattle.world_parts.specs.Feed.{got}
use Rattle.world_parts.specs.Entries.{with_instance, named, end_found, entry_added, entry_removed, end_idled, set_left}
use Rattle.world_parts.specs.Slots.{word_in}
use Rattle.world_parts.specs.Channels.{with_channels, channel_at, idle_seen, concluded, end_dropped}
use Rattle.world_parts.specs.News.{copy_is_async}
use Rattle.world_parts.specs.Copies.{both_indices, channel_new, copy_cancel, copy_given_up, drop_tested, dropped_end, end_drop, is_unwritten, new_end}
use Rattle.abi_machine.proofs.sound.Found.{some_same, ok_same}
use Rattle.standing.specs.KeptMarks.{is_borrow_of}
use Rattle.standing.proofs.marks.Tables.{put_same}
use Rattle.run_laws.specs.keeping.Kept.{TableIsSound}
use Rattle.run_laws.proofs.keeping.Others.{KeptBy, keeps_after, keeps_given, keeps_if, keeps_from, keeps_through, look_keeps, found_keeps, full_keeps, traps_same, traps_put}
use Rattle.run_laws.proofs.keeping.Changes.{same_keeps}
use Rattle.run_laws.proofs.keeping.Tables.{other_added}
use Rattle.run_laws.proofs.keeping.parts.Channels.{concluded_keeps, end_dropped_keeps, idle_seen_keeps}
use Rattle.run_laws.proofs.keeping.parts.Entries.{NotBorrow, end_found_keeps, end_idled_keeps, other_added_keeps, entry_removed_keeps}
use Rattle.run_laws.proofs.keeping.parts.Feed.{got_keeps}

-- Both ends come to stand in the table.
sound_added : (h : Held) (at : ℕ) (i : InstanceView) (e : WorldEntry) → slice_get h.instances at ≡ Some i → nat_lt (count i.slots) most_live ≡ true → IsSound i.slots
    → TableIsSound (with_instance at (instance.entry_added e i) h) at
sound_added h at i e is room sound j there =
    let same : j ≡ instance.entry_added e i = put_same h.instances at at i (instance.entry_added e i) j is there refl in
    subst (λ (x : InstanceView). IsSound x.slots) (sym same) (added_sound i.slots e (ltb-true (count i.slots) most_live room) sound)

writer_keeps : (t at type number readable : ℕ) (h : Held) → TableIsSound h at
    → KeptBy h (after (entry_added at (new_end Writer type number) h) (λ writable m. got t (both_indices readable writable ∷ []) m))
writer_keeps t at type number readable h sound =
    keeps_after h (entry_added at (new_end Writer type number) h) (λ writable m. got t (both_indices readable writable ∷ []) m) (other_added_keeps at (new_end Writer type number) h tt sound)
    (λ writable m. got_keeps t (both_indices readable writable ∷ []) m)

ends_keep : (t at type number : ℕ) (h : Held) → TableIsSound h at
    → KeptBy h (after (entry_added at (new_end Reader type number) h)
    (λ readable l. after (entry_added at (new_end Writer type number) l) (λ writable m. got t (both_indices readable writable ∷ []) m)))
ends_keep t at type number h sound =
    look_keeps h (slice_get h.instances at)
    (λ i.
    if nat_lt (count i.slots) most_live then Gives (next_of i.slots) (with_instance at (instance.entry_added (new_end Reader type number) i) h) else Traps trap.TableFull (with_instance at i h))
    (λ readable l. after (entry_added at (new_end Writer type number) l) (λ writable m. got t (both_indices readable writable ∷ []) m))
    (λ i is.
    full_keeps h (with_instance at i h) (nat_lt (count i.slots) most_live) trap.TableFull
    (Gives (next_of i.slots) (with_instance at (instance.entry_added (new_end Reader type number) i) h))
    (λ readable l. after (entry_added at (new_end Writer type number) l) (λ writable m. got t (both_indices readable writable ∷ []) m)) (traps_put h at i is)
    (λ room.
    let k : Held = with_instance at (instance.entry_added (new_end Reader type number) i) h in
    keeps_through h k (after (entry_added at (new_end Writer type number) k) (λ writable m. got t (both_indices (next_of i.slots) writable ∷ []) m))
    (other_added h at i (new_end Reader type number) is tt (sound i is))
    (writer_keeps t at type number (next_of i.slots) k (sound_added h at i (new_end Reader type number) is room (sound i is)))))

pub channel_new_keeps : (t : ℕ) (at : ℕ) (kind : EndKind) (type : ℕ) (h : Held) → TableIsSound h at → KeptBy h (channel_new t at kind type h)
unfolding channel_new
channel_new_keeps t at Stream type h sound =
    let k : Held = with_channels Stream (h.streams ++ (record { end_type = type; ends = new_ends Stream }) ∷ []) h in
    keeps_from h k
    (after (entry_added at (new_end Reader type (length h.streams + 1)) k)
    (λ readable l. after (entry_added at (new_end Writer type (length h.streams + 1)) l) (λ writable m. got t (both_indices readable writable ∷ []) m))) refl refl
    (ends_keep t at type (length h.streams + 1) k sound)
channel_new_keeps t at Future type h sound =
    let k : Held = with_channels Future (h.futures ++ (record { end_type = type; ends = new_ends Future }) ∷ []) h in
    keeps_from h k
    (after (entry_added at (new_end Reader type (length h.futures + 1)) k)
    (λ readable l. after (entry_added at (new_end Writer type (length h.futures + 1)) l) (λ writable m. got t (both_indices readable writable ∷ []) m))) refl refl
    (ends_keep t at type (length h.futures + 1) k sound)

-- An end leaves its set and the table.
pub left_and_gone : {A : Type 0} (at index : ℕ) (h : Held) (c : Held → Done A) → NotBorrow h at index → ((k : Held) → KeptBy k (c k))
    → KeptBy h (after (set_left at index h) (λ done k. after (entry_removed at index k) (λ done l. c l)))
left_and_gone at index h c none p =
    look_keeps h (slice_get h.instances at) (λ i. Gives (tt {0}) (with_instance at (with_sets (left index i.sets) i) h)) (λ done k. after (entry_removed at index k) (λ done l. c l))
    (λ i is.
    let k : Held = with_instance at (with_sets (left index i.sets) i) h in
    keeps_through h k (after (entry_removed at index k) (λ done l. c l)) (same_keeps h at i (with_sets (left index i.sets) i) is refl)
    (keeps_after k (entry_removed at index k) (λ done l. c l)
    (entry_removed_keeps at index k
    (λ j there t.
    let same : j ≡ with_sets (left index i.sets) i = put_same h.instances at at i (with_sets (left index i.sets) i) j is there refl in
    ap (λ (x : InstanceView). is_borrow_of t (entry_of x index)) same ∙ none i is t))
    (λ done l. p l)))

pub dropped_end_keeps : (t : ℕ) (at : ℕ) (index : ℕ) (kind : EndKind) (side : Side) (number : ℕ) (h : Held) → NotBorrow h at index
    → KeptBy h (dropped_end t at index kind side number h)
unfolding dropped_end
dropped_end_keeps t at index kind side number h none =
    left_and_gone at index h (λ l. after (end_dropped kind side number l) (λ done m. got t [] m)) none
    (λ l. keeps_after l (end_dropped kind side number l) (λ done m. got t [] m) (end_dropped_keeps kind side number l) (λ done m. got_keeps t [] m))

pub drop_tested_keeps : (t : ℕ) (at : ℕ) (index : ℕ) (kind : EndKind) (side : Side) (number : ℕ) (e : End) (h : Held) → NotBorrow h at index
    → KeptBy h (drop_tested t at index kind side number e h)
drop_tested_keeps t at index kind side number e h none =
    keeps_if h (is_copying e) (Traps trap.Busy h) (if is_unwritten kind side e.done then Traps trap.UnwrittenFuture h else dropped_end t at index kind side number h) (traps_same h)
    (keeps_if h (is_unwritten kind side e.done) (Traps trap.UnwrittenFuture h) (dropped_end t at index kind side number h) (traps_same h) (dropped_end_keeps t at index kind side number h none))

-- The end that is found stands at the index.
typed_there : (b : Bool) (x e : EndEntry) → (if b then Ok x else Err refusal.OtherType) ≡ Ok e → x ≡ e
typed_there true x e is = ok_same is
typed_there false x e is = absurd (cc)

side_there : (b : Bool) (wanted : ℕ) (x e : EndEntry) → (if b then typed_end wanted x else Err refusal.OtherKind) ≡ Ok e → x ≡ e
side_there true wanted x e is = typed_there (is_of_type wanted x) x e is
side_there false wanted x e is = absurd (cc)

pub end_stands : (side : Side) (wanted : ℕ) (o : Option WorldEntry) (e : EndEntry) → end_in side wanted o ≡ Ok e → o ≡ Some (entry.End e)
end_stands side wanted None e is = absurd (cc)
end_stands side wanted (Some (entry.Handle x)) e is = absurd (cc)
end_stands side wanted (Some (entry.Subtask callee)) e is = absurd (cc)
end_stands side wanted (Some (entry.Set set)) e is = absurd (cc)
end_stands side wanted (Some (entry.End x)) e is = ap (λ (y : EndEntry). Some (entry.End y)) (side_there (same_side x.side side) wanted x e is)

pub end_drop_keeps : (t : ℕ) (at : ℕ) (kind : EndKind) (side : Side) (type : ℕ) (words : List ℕ) (h : Held) → KeptBy h (end_drop t at kind side type words h)
unfolding end_drop
end_drop_keeps t at kind side type words h =
    keeps_given h (word_in words 0)
    (λ index. after (end_found at side type index h) (λ e k. given (channel_at kind e.number k) (λ c. drop_tested t at index kind side e.number (channel_end side c.ends) k)))
    (λ index word.
    look_keeps h (slice_get h.instances at) (λ i. named (end_in side type (entry_of i index)) h)
    (λ e k. given (channel_at kind e.number k) (λ c. drop_tested t at index kind side e.number (channel_end side c.ends) k))
    (λ i is.
    found_keeps h (end_in side type (entry_of i index)) (λ e k. given (channel_at kind e.number k) (λ c. drop_tested t at index kind side e.number (channel_end side c.ends) k))
    (λ e found.
    keeps_given h (channel_at kind e.number h) (λ c. drop_tested t at index kind side e.number (channel_end side c.ends) h)
    (λ c there.
    drop_tested_keeps t at index kind side e.number (channel_end side c.ends) h
    (λ j here t.
    ap (λ (x : InstanceView). is_borrow_of t (entry_of x index)) (some_same (sym here ∙ is)) ∙ ap (is_borrow_of t) (end_stands side type (entry_of i index) e found))))))

pub copy_given_up_keeps : (t : ℕ) (at : ℕ) (index : ℕ) (kind : EndKind) (side : Side) (number : ℕ) (h : Held) → KeptBy h (copy_given_up t at index kind side number h)
unfolding copy_given_up
copy_given_up_keeps t at index kind side number h =
    keeps_after h (concluded kind side number h) (λ payload k. after (idle_seen kind side number k) (λ is_idle l. after (end_idled at index is_idle l) (λ done m. got t (payload ∷ []) m))) (concluded_keeps kind side number h) (λ payload k. keeps_after k (idle_seen kind side number k) (λ is_idle l. after (end_idled at index is_idle l) (λ done m. got t (payload ∷ []) m)) (idle_seen_keeps kind side number k) (λ is_idle l. keeps_after l (end_idled at index is_idle l) (λ done m. got t (payload ∷ []) m) (end_idled_keeps at index is_idle l) (λ done m. got_keeps t (payload ∷ []) m)))

pub copy_cancel_keeps : (g : Views) (t : ℕ) (at : ℕ) (kind : EndKind) (side : Side) (type : ℕ) (words : List ℕ) (h : Held) → KeptBy h (copy_cancel g t at kind side type words h)
unfolding copy_cancel
copy_cancel_keeps g t at kind side type words h =
    keeps_given h (word_in words 0) (λ index. after (end_found at side type index h) (λ e k. given (channel_at kind e.number k) (λ c. if not (copy_is_async g (channel_end side c.ends).copy) then Traps trap.NotCopying k else copy_given_up t at index kind side e.number k))) (λ index is. keeps_after h (end_found at side type index h) (λ e k. given (channel_at kind e.number k) (λ c. if not (copy_is_async g (channel_end side c.ends).copy) then Traps trap.NotCopying k else copy_given_up t at index kind side e.number k)) (end_found_keeps at side type index h) (λ e k. keeps_given k (channel_at kind e.number k) (λ c. if not (copy_is_async g (channel_end side c.ends).copy) then Traps trap.NotCopying k else copy_given_up t at index kind side e.number k) (λ c is. keeps_if k (not (copy_is_async g (channel_end side c.ends).copy)) (Traps trap.NotCopying k) (copy_given_up t at index kind side e.number k) (traps_same k) (copy_given_up_keeps t at index kind side e.number k))))
