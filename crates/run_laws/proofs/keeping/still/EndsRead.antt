-- Reads and writes keep memories, core instances and ends, up to where elements go over.
use Rattle.std.proofs.Common.{◌≡◌, ◌∙◌, ℕ, ◌+◌, nat_eq, nat_lt, Bool, true, false, not, if◌then◌else◌, List, [], ◌∷◌, refl, sym, ap, subst, Option, Some, None}
use Rattle.std.specs.Prelude.{◌*◌, ◌%◌, nat_le, length}
use Rattle.std.specs.List.{slice_get}
use Rattle.syntax_trees.specs.declared.types.ValType.{ValType}
use Rattle.laid_types.specs.Layout.{laid}
use Rattle.builtin_kinds.specs.declared.EndKind.{EndKind}
use Rattle.builtin_kinds.specs.declared.EndKind.TheVariants as kind
use Rattle.stream_ends.specs.declared.side.Side.{Side}
use Rattle.stream_ends.specs.declared.side.Side.TheVariants.{Reader, Writer}
use Rattle.stream_ends.specs.declared.open_copy.By.{By}
use Rattle.stream_ends.specs.declared.open_copy.By.TheVariants as by
use Rattle.stream_ends.specs.declared.open_copy.OpenCopy.{OpenCopy}
use Rattle.stream_ends.specs.declared.meet.Meet.{Meet}
use Rattle.stream_ends.specs.declared.meet.Meet.TheVariants as meet
use Rattle.stream_ends.specs.declared.stream_end.End.{End}
use Rattle.stream_ends.specs.Ends.{EndsView, end_at, arranged, other_side, standing_of, is_idle, is_copying, new_copy, leaves}
use Rattle.stream_ends.specs.Meeting as streams
use Rattle.future_ends.specs.declared.meet.Meet.TheVariants as future_meets
use Rattle.future_ends.specs.Meeting as futures
use Rattle.channels.specs.declared.channel.Channel.{Channel}
use Rattle.channels.specs.declared.channel.Ends.{Ends}
use Rattle.channels.specs.declared.channel.Ends.TheVariants as ends
use Rattle.channels.specs.Channels as channel
use Rattle.channels.specs.Channels.{kind_of, end_in, may_offer, meet_in, future_meet, with_ends, view_of}
use Rattle.instances.specs.declared.entry.EndEntry.{EndEntry}
use Rattle.instances.specs.Instances.{InstanceView}
use Rattle.trace_labels.specs.declared.trap.TrapName.{TrapName}
use Rattle.trace_labels.specs.declared.trap.TrapName.TheVariants as trap
use Rattle.tasks.specs.declared.event.BlockedAt.TheVariants as blocked_at
use Rattle.trace_labels.specs.declared.label.BlockReason.TheVariants as reason
use Rattle.world_parts.specs.Views.{Views}
use Rattle.world_parts.specs.Held.{Held, Done, Gives, Traps, Spent, Stuck, after, given}
use Rattle.world_parts.specs.Feed.{got}
use Rattle.world_parts.specs.Entries.{end_idled}
use Rattle.world_parts.specs.Slots.{word_in}
use Rattle.world_parts.specs.Channels.{place_of, channels, with_channel, idle_seen, answered, offered_at}
use Rattle.world_parts.specs.Places.{memory_of, bytes_at}
use Rattle.world_parts.specs.Calls.{blocked_word, blocked_in}
use Rattle.copy_replies.specs.declared.reading.CopyCall.{CopyCall}
use Rattle.copy_replies.specs.Reads.{most_elements, placed_well, is_within, idle_said, answered_at_once, left_standing, offer_stands, met, meets, placed_and_met, copy_tested, read_or_write, length_in, call_of, copy_asked}
use Rattle.standing.specs.Channels.{of_kind}
use Rattle.standing.specs.EndMarks.{streams_with, futures_with}
use Rattle.standing.proofs.EndSides.{meeting_leaves_other, channels_stay_marked}
use Rattle.run_laws.specs.keeping.Still.{EndsAre, EndsKept}
use Rattle.run_laws.proofs.keeping.But.{HoldsSo, holds_given, holds_if}
use Rattle.run_laws.proofs.keeping.still.Still.{Kinds, StillBy}
use Rattle.run_laws.proofs.keeping.still.Calls.{blocked_in_still}
use Rattle.run_laws.proofs.keeping.still.Reads as bare
use Rattle.run_laws.proofs.keeping.still.EndsKept.{are_streams_with, are_futures_with}
use Rattle.run_laws.proofs.keeping.still.Ends.{Known, so_looked, said_so}
use Rattle.run_laws.proofs.keeping.still.EndParts.{joined, of_still, found_so}

-- Where elements are to go over both ends are as they were.
record Unmoved (own other : End) (m : streams.Meeting) : Type 0 where
  own_is : m.own ≡ own
  other_is : m.other ≡ other

offer_unmoved : (side : Side) (call : OpenCopy) (own other : End) (o : Option OpenCopy) (count : ℕ) → (streams.met_offer side call own other o).meet ≡ meet.Copies count
    → Unmoved own other (streams.met_offer side call own other o)
offer_unmoved side call own other None count copies = absurd (cc)
offer_unmoved side call own other (Some offer) count copies = by_room (nat_lt offer.copied offer.length) copies
  where
    by_pair : (b : Bool)
        → (let m : streams.Meeting = if b then record { meet = meet.ZeroDone; own = own; other = other } else record { meet = meet.Displaces; own = streams.with_offer call own; other = leaves other } in
        m.meet) ≡ meet.Copies count → ⊥
    by_pair true copies = cc
    by_pair false copies = cc

    by_room : (b : Bool)
        → (let m : streams.Meeting = if b then record { meet = streams.room_meet call offer; own = own; other = other } else streams.met_full side call own other offer in m.meet) ≡ meet.Copies count
        → (let m : streams.Meeting = if b then record { meet = streams.room_meet call offer; own = own; other = other } else streams.met_full side call own other offer in Unmoved own other m)
    by_room true copies = record { own_is = refl; other_is = refl }
    by_room false copies = absurd (by_pair (streams.is_empty_pair side call offer) copies)

met_unmoved : (side : Side) (call : OpenCopy) (own other : End) (count : ℕ) → (streams.met side call own other).meet ≡ meet.Copies count → Unmoved own other (streams.met side call own other)
unfolding streams.met
met_unmoved side call own other count copies = by_drop other.dropped copies
  where
    by_drop : (b : Bool)
        → (let m : streams.Meeting = if b then record { meet = meet.Dropped; own = streams.made_done own; other = other } else streams.met_offer side call own other (standing_of other.copy) in m.meet)
        ≡ meet.Copies count
        → (let m : streams.Meeting = if b then record { meet = meet.Dropped; own = streams.made_done own; other = other } else streams.met_offer side call own other (standing_of other.copy) in Unmoved own other m)
    by_drop true copies = absurd (cc)
    by_drop false copies = offer_unmoved side call own other (standing_of other.copy) count copies

future_offer_unmoved : (call : OpenCopy) (own : End) (o : Option OpenCopy) (count : ℕ) → future_meet (futures.met_offer call own o).meet ≡ meet.Copies count → (futures.met_offer call own o).own ≡ own
future_offer_unmoved call own None count copies = absurd (cc)
future_offer_unmoved call own (Some offer) count copies = refl

future_unmoved : (call : OpenCopy) (own other : End) (count : ℕ) → future_meet (futures.met call own other).meet ≡ meet.Copies count → (futures.met call own other).own ≡ own
unfolding futures.met
future_unmoved call own other count copies = by_drop other.dropped copies
  where
    by_drop : (b : Bool)
        → future_meet (let m : futures.Meeting = if b then record { meet = future_meets.Dropped; own = streams.made_done own } else futures.met_offer call own (standing_of other.copy) in m).meet ≡ meet.Copies count
        → (let m : futures.Meeting = if b then record { meet = future_meets.Dropped; own = streams.made_done own } else futures.met_offer call own (standing_of other.copy) in m.own) ≡ own
    by_drop true copies = absurd (cc)
    by_drop false copies = future_offer_unmoved call own (standing_of other.copy) count copies

end_of_arranged : (side at : Side) (own other : End) (v : EndsView) → own ≡ end_at side v → other ≡ end_at (other_side side) v → end_at at (arranged side own other) ≡ end_at at v
end_of_arranged Reader Reader own other v p q = p
end_of_arranged Reader Writer own other v p q = q
end_of_arranged Writer Reader own other v p q = q
end_of_arranged Writer Writer own other v p q = p

copies_unmoved : (side at : Side) (who : By) (canon place size count : ℕ) (e : Ends) → meet_in side who canon place size e ≡ meet.Copies count
    → end_in at (channel.offered side who canon place size e) ≡ end_in at e
copies_unmoved side at who canon place size count (ends.Stream p) copies =
    let call : OpenCopy = new_copy who canon place size in
    let u : Unmoved (end_at side p.ends) (end_at (other_side side) p.ends) (streams.met_at side call p.ends) =
    met_unmoved side call (end_at side p.ends) (end_at (other_side side) p.ends) count copies in
    end_of_arranged side at (streams.met_at side call p.ends).own (streams.met_at side call p.ends).other p.ends u.own_is u.other_is
copies_unmoved side at who canon place size count (ends.Future p) copies =
    let call : OpenCopy = futures.new_offer who canon place in
    end_of_arranged side at (futures.met_at side call p.ends).own (end_at (other_side side) p.ends) p.ends
    (future_unmoved call (end_at side p.ends) (end_at (other_side side) p.ends) count copies) refl

offered_kind : (side : Side) (who : By) (canon place size : ℕ) (e : Ends) → kind_of (channel.offered side who canon place size e) ≡ kind_of e
offered_kind side who canon place size (ends.Stream p) = refl
offered_kind side who canon place size (ends.Future p) = refl

-- Parts behind parts.
so_assoc : {A B C : Type 0} (Q : Held → Type 0) (d : Done A) (f : A → Held → Done B) (c : B → Held → Done C) → HoldsSo Q (after d (λ x k. after (f x k) c)) → HoldsSo Q (after (after d f) c)
so_assoc Q (Gives x k) f c p = p
so_assoc Q (Traps why k) f c p = p
so_assoc Q (Spent k) f c p = tt
so_assoc Q Stuck f c p = tt

module _ (K : ℕ → EndKind) (g : Views) where
  abbrev Kept : Held → Type 0
  Kept k = EndsKept K k

  left_standing_so : (c : CopyCall) (h : Held) → Kept h → HoldsSo Kept (left_standing g c h)
  left_standing_so c h kept =
      holds_if Kept (g.is_async c.canon) (got c.task (blocked_word ∷ []) h) (blocked_in c.task c.canon (g.flag c.canon) (blocked_at.Copy c.index) (reason.Copy c.index) h) kept
      (of_still K h (blocked_in c.task c.canon (g.flag c.canon) (blocked_at.Copy c.index) (reason.Copy c.index) h)
      (blocked_in_still (Some K) c.task c.canon (g.flag c.canon) (blocked_at.Copy c.index) (reason.Copy c.index) h) kept)

  -- Behind an offer, by what it meets.
  module _ (c : CopyCall) (h : Held) (x : InstanceView) (e : EndEntry) (place : ℕ) (d : Channel) (known : Known K h c.at c.index c.kind c.side x e place d) (kept : Kept h) where
    abbrev z : Channel
    z = with_ends (channel.offered c.side (by.Task c.task) c.canon c.place c.length d.ends) d

    abbrev k : Held
    k = with_channel c.kind place z h

    other : is_idle (end_in (other_side e.side) z.ends) ≡ is_idle (end_in (other_side e.side) d.ends)
    other =
        subst (λ (s : Side). is_idle (end_in (other_side e.side) (channel.offered s (by.Task c.task) c.canon c.place c.length d.ends)) ≡ is_idle (end_in (other_side e.side) d.ends)) known.side_is
        (meeting_leaves_other e.side (by.Task c.task) c.canon c.place c.length d.ends)

    idle_so : {A : Type 0} (more : Held → Done A) → ((l : Held) → Kept l → HoldsSo Kept (more l)) → HoldsSo Kept (after (idle_said c e.number k) (λ done l. more l))
    unfolding idle_said
    idle_so more goes =
        so_assoc Kept (idle_seen c.kind c.side e.number k) (λ is_idle l. end_idled c.at c.index is_idle l) (λ done l. more l)
        (said_so K h c.at c.index c.kind c.side x e place d z (λ done l. more l) known kept (offered_kind c.side (by.Task c.task) c.canon c.place c.length d.ends) refl other goes)

    at_once_so : (payload : ℕ) → HoldsSo Kept (answered_at_once c e.number payload k)
    unfolding answered_at_once
    at_once_so payload = idle_so (λ l. got c.task (payload ∷ []) l) (λ l now. now)

    stands_so : HoldsSo Kept (offer_stands g c e.number k)
    unfolding offer_stands
    stands_so = idle_so (λ l. left_standing g c l) (λ l now. left_standing_so c l now)

    put_kept : (kind : EndKind) → EndsAre K h.instances (streams_with kind place z h.streams) (futures_with kind place z h.futures) → Kept (with_channel kind place z h)
    put_kept kind.Stream p = p
    put_kept kind.Future p = p

    channels_at : (kind : EndKind) → slice_get (channels kind h) place ≡ Some d → slice_get (of_kind kind h.streams h.futures) place ≡ Some d
    channels_at kind.Stream is = is
    channels_at kind.Future is = is

    copies_so : (count : ℕ) → meet_in c.side (by.Task c.task) c.canon c.place c.length d.ends ≡ meet.Copies count → Kept k
    copies_so count copies =
        let there : slice_get (of_kind c.kind h.streams h.futures) place ≡ Some d = channels_at c.kind known.found in
        put_kept c.kind
        (record {
          marked = channels_stay_marked h.instances h.streams h.futures c.kind place d z there (offered_kind c.side (by.Task c.task) c.canon c.place c.length d.ends) refl
              (λ at index i f here stood number idle typed.
              idle ∙ ap (λ (q : End). is_idle q) (sym (copies_unmoved c.side f.side (by.Task c.task) c.canon c.place c.length count d.ends copies))) kept.marked;
          once = kept.once;
          are_streams = are_streams_with K c.kind place d z h.streams h.futures there refl kept.are_streams;
          are_futures = are_futures_with K c.kind place d z h.streams h.futures there refl kept.are_futures;
        })

    met_so : (m : Meet) → meet_in c.side (by.Task c.task) c.canon c.place c.length d.ends ≡ m → HoldsSo Kept (met g c e.number m k)
    met_so meet.Stands is = stands_so
    met_so (meet.Copies count) is = copies_so count is
    met_so meet.Dropped is = at_once_so 1
    met_so meet.Displaces is = stands_so
    met_so meet.ZeroDone is = at_once_so 0
    met_so meet.NothingNow is = at_once_so 0

    meets_so : HoldsSo Kept (meets g c e.number h)
    unfolding meets
    meets_so =
        so_looked K (place_of e.number) place (λ p. offered_at c.kind p c.side (by.Task c.task) c.canon c.place c.length h) (λ m l. met g c e.number m l) known.number
        (so_looked K (slice_get (channels c.kind h) place) d
        (λ q. answered (if may_offer c.side c.length q.ends then Some (meet_in c.side (by.Task c.task) c.canon c.place c.length q.ends) else None) c.kind place
        (if may_offer c.side c.length q.ends then with_ends (channel.offered c.side (by.Task c.task) c.canon c.place c.length q.ends) q else q) h)
        (λ m l. met g c e.number m l) known.found (by_offer (may_offer c.side c.length d.ends)))
      where
        by_offer : (b : Bool)
            → HoldsSo Kept (after (answered (if b then Some (meet_in c.side (by.Task c.task) c.canon c.place c.length d.ends) else None) c.kind place
            (if b then with_ends (channel.offered c.side (by.Task c.task) c.canon c.place c.length d.ends) d else d) h) (λ m l. met g c e.number m l))
        by_offer true = met_so (meet_in c.side (by.Task c.task) c.canon c.place c.length d.ends) refl
        by_offer false = tt

  -- Elements are tested first.
  trapped_so : {A : Type 0} (b : Bool) (why : TrapName) (l : Held) (d : Done (Unit {0})) (f : Unit {0} → Held → Done A) → Kept l → HoldsSo Kept (after d f) → HoldsSo Kept (after (if b then Traps why l else d) f)
  trapped_so true why l d f q p = q
  trapped_so false why l d f q p = p

  given_so : {A : Type 0} (b : Bool) (h : Held) (d : Done (Unit {0})) (f : Unit {0} → Held → Done A) → HoldsSo Kept (f tt h) → HoldsSo Kept (after d f) → HoldsSo Kept (after (if b then Gives tt h else d) f)
  given_so true h d f p q = p
  given_so false h d f p q = q

  well_so : {A : Type 0} (o : Option ValType) (memory : Option ℕ) (place count : ℕ) (h : Held) (f : Unit {0} → Held → Done A) → Kept h → HoldsSo Kept (f tt h) → HoldsSo Kept (after (placed_well o memory place count h) f)
  unfolding placed_well
  well_so None memory place count h f q p = p
  well_so (Some element) memory place count h f q p =
      given_so (nat_eq count 0) h
      (if not (nat_eq (place % (laid element).align) 0) then Traps trap.Misaligned h else
      if not (nat_le (place + count * (laid element).size) (length (bytes_at memory h.store))) then Traps trap.Bounds h else Gives tt h) f p
      (trapped_so (not (nat_eq (place % (laid element).align) 0)) trap.Misaligned h
      (if not (nat_le (place + count * (laid element).size) (length (bytes_at memory h.store))) then Traps trap.Bounds h else Gives tt h) f q
      (trapped_so (not (nat_le (place + count * (laid element).size) (length (bytes_at memory h.store)))) trap.Bounds h (Gives tt h) f q p))

  tested_so : (element : Option ValType) (c : CopyCall) (h : Held) (x : InstanceView) (e : EndEntry) (place : ℕ) (d : Channel) → Known K h c.at c.index c.kind c.side x e place d → Kept h
      → HoldsSo Kept (copy_tested g element c e.number d h)
  unfolding placed_and_met
  tested_so element c h x e place d known kept =
      let b : Bool = is_within g c.at c.side element d.ends in
      holds_if Kept (is_copying (end_in c.side d.ends)) (Traps trap.Busy h)
      (if (end_in c.side d.ends).done then Traps trap.DoneEnd h else if nat_lt most_elements c.length then Traps trap.TooLong h else placed_and_met g element c e.number b h) kept
      (holds_if Kept (end_in c.side d.ends).done (Traps trap.DoneEnd h) (if nat_lt most_elements c.length then Traps trap.TooLong h else placed_and_met g element c e.number b h) kept
      (holds_if Kept (nat_lt most_elements c.length) (Traps trap.TooLong h) (placed_and_met g element c e.number b h) kept
      (well_so element (memory_of (g.options c.canon) h) c.place c.length h (λ done k. if b then Traps trap.SameInstance k else meets g c e.number k) kept
      (holds_if Kept b (Traps trap.SameInstance h) (meets g c e.number h) kept (meets_so c h x e place d known kept)))))

  asked_so : (element : Option ValType) (t at canon : ℕ) (kind : EndKind) (side : Side) (type : ℕ) (words : List ℕ) (h : Held) → K type ≡ kind → Kept h
      → HoldsSo Kept (copy_asked g element t at canon kind side type words h)
  unfolding copy_asked read_or_write
  asked_so element t at canon kind side type words h of kept =
      holds_given Kept (word_in words 0) (λ index. given (word_in words 1) (λ place. given (length_in kind words) (λ count. read_or_write g element (call_of t at canon kind side type index place count) h)))
      (λ index is.
      holds_given Kept (word_in words 1) (λ place. given (length_in kind words) (λ count. read_or_write g element (call_of t at canon kind side type index place count) h))
      (λ place second.
      holds_given Kept (length_in kind words) (λ count. read_or_write g element (call_of t at canon kind side type index place count) h)
      (λ count third.
      let c : CopyCall = call_of t at canon kind side type index place count in
      found_so K h at kind side type index of kept (λ e channel k. copy_tested g element c e.number channel k) (λ x e p d known. tested_so element c h x e p d known kept))))

pub copy_asked_still : (W : Kinds) (g : Views) (element : Option ValType) (t at canon : ℕ) (kind : EndKind) (side : Side) (type : ℕ) (words : List ℕ) (h : Held)
    → ((K : ℕ → EndKind) → W ≡ Some K → K type ≡ kind) → StillBy W h (copy_asked g element t at canon kind side type words h)
copy_asked_still W g element t at canon kind side type words h of =
    joined W h (copy_asked g element t at canon kind side type words h) (bare.copy_asked_still g element t at canon kind side type words h)
    (λ K is kept. asked_so K g element t at canon kind side type words h (of K is) kept)
