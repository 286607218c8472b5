-- Parts that change a stream or a future at one end keep ends: an end is dropped, its copy is told, and one is read or written. Its index in the table says it.
use Rattle.std.proofs.Common.{◌≡◌, ◌∙◌, ℕ, Bool, true, false, is_some, if◌then◌else◌, List, [], slice_set, refl, sym, ap, subst, Option, Some, None}
use Rattle.std.specs.List.{slice_get}
use Rattle.handle_table.specs.Slots.{Slots, entry_at}
use Rattle.builtin_kinds.specs.declared.EndKind.{EndKind}
use Rattle.builtin_kinds.specs.declared.EndKind.TheVariants.{Stream, Future}
use Rattle.stream_ends.specs.declared.side.Side.{Side}
use Rattle.stream_ends.specs.Ends.{other_side, is_idle, is_copying}
use Rattle.channels.specs.declared.channel.Channel.{Channel}
use Rattle.channels.specs.declared.channel.Ends.{Ends}
use Rattle.channels.specs.declared.channel.Ends.TheVariants as ends
use Rattle.channels.specs.Channels as channel
use Rattle.channels.specs.Channels.{kind_of, end_in, payload_in, may_drop, with_ends}
use Rattle.instances.specs.declared.entry.EndEntry.{EndEntry}
use Rattle.instances.specs.declared.entry.WorldEntry.{WorldEntry}
use Rattle.instances.specs.declared.entry.WorldEntry.TheVariants as entry
use Rattle.instances.specs.Entries.{with_idle, any_end_in}
use Rattle.instances.specs.Instances as instance
use Rattle.instances.specs.Instances.{InstanceView, entry_of, with_sets}
use Rattle.waitables.specs.Sets.{left}
use Rattle.world_parts.specs.Held.{Held, Done, Gives, Stuck, after, given}
use Rattle.world_parts.specs.Feed.{got}
use Rattle.world_parts.specs.Entries.{with_instance, removed_of, entry_removed, end_idled}
use Rattle.world_parts.specs.Channels.{place_of, at_place, channels, channel_at, with_channel, idle_seen, answered, concluded_at, concluded, end_dropped_at, end_dropped}
use Rattle.world_parts.specs.Copies.{dropped_end}
use Rattle.abi_machine.proofs.sound.Found.{some_same}
use Rattle.standing.specs.Channels.{of_kind}
use Rattle.standing.specs.EndMarks.{streams_with, futures_with, OneEnd}
use Rattle.standing.proofs.Agreeing.{get_set}
use Rattle.standing.proofs.Lists.{set_same}
use Rattle.standing.proofs.EndSaid.{said_stays_marked, gone_stays_marked}
use Rattle.standing.proofs.EndSides.{telling_leaves_other, dropping_leaves_other}
use Rattle.standing.proofs.marks.Tables.{put_same, put_other}
use Rattle.std.proofs.lemmas.Bool.{cases_eq}
use Rattle.std.proofs.Common.{inl, inr}
use Rattle.run_laws.specs.keeping.Ends.{EndAlone}
use Rattle.run_laws.specs.keeping.Still.{EndsAre, EndsKept}
use Rattle.run_laws.proofs.keeping.But.{HoldsSo}
use Rattle.run_laws.proofs.keeping.still.Still.{put_stood, stood_ends}
use Rattle.run_laws.proofs.keeping.still.Entries.{removed_stood}
use Rattle.run_laws.proofs.keeping.still.EndsKept.{once_as, idled_stood, are_streams_with, are_futures_with, alone}

module _ (K : ℕ → EndKind) where
  abbrev pub Kept : Held → Type 0
  Kept k = EndsKept K k

  -- What follows something that is looked up and known, and a test.
  pub so_looked : {A B C : Type 0} (o : Option A) (x : A) (f : A → Done B) (c : B → Held → Done C) → o ≡ Some x → HoldsSo Kept (after (f x) c) → HoldsSo Kept (after (given o f) c)
  so_looked None x f c is p = absurd (cc)
  so_looked {A} (Some y) x f c is p = subst (λ (z : A). HoldsSo Kept (after (f z) c)) (sym (some_same is)) p

  so_tested : {A B : Type 0} (b : Bool) (d : Done A) (c : A → Held → Done B) → HoldsSo Kept (after d c) → HoldsSo Kept (after (if b then d else Stuck) c)
  so_tested true d c p = p
  so_tested false d c p = tt

  -- A stream or a future is another one.
  changed_ends : (kind : EndKind) (place : ℕ) (z : Channel) (l : Held) → EndsAre K l.instances (streams_with kind place z l.streams) (futures_with kind place z l.futures) → Kept (with_channel kind place z l)
  changed_ends Stream place z l kept = kept
  changed_ends Future place z l kept = kept

  pub put_ends : (kind : EndKind) (place : ℕ) (z : Channel) (at : ℕ) (i : InstanceView) (h : Held)
      → EndsAre K (slice_set h.instances at i) (streams_with kind place z h.streams) (futures_with kind place z h.futures) → Kept (with_instance at i (with_channel kind place z h))
  put_ends Stream place z at i h kept = kept
  put_ends Future place z at i h kept = kept

  kind_channels : (kind : EndKind) (h : Held) (place : ℕ) (c : Channel) → slice_get (channels kind h) place ≡ Some c → slice_get (of_kind kind h.streams h.futures) place ≡ Some c
  kind_channels Stream h place c is = is
  kind_channels Future h place c is = is

  same_channels : (kind : EndKind) (h : Held) (at : ℕ) (i : InstanceView) (place : ℕ) (c : Channel) → slice_get (channels kind h) place ≡ Some c
      → slice_get (channels kind (with_instance at i h)) place ≡ Some c
  same_channels Stream h at i place c is = is
  same_channels Future h at i place c is = is

  pub there_now : (kind : EndKind) (h : Held) (number place : ℕ) (c z : Channel) → place_of number ≡ Some place → slice_get (channels kind h) place ≡ Some c
      → channel_at kind number (with_channel kind place z h) ≡ Some z
  there_now Stream h number place c z at is = ap (λ (o : Option ℕ). at_place (slice_set h.streams place z) o) at ∙ get_set h.streams place c z is
  there_now Future h number place c z at is = ap (λ (o : Option ℕ). at_place (slice_set h.futures place z) o) at ∙ get_set h.futures place c z is

  pub same_instances : (kind : EndKind) (h : Held) (place : ℕ) (z : Channel) (at : ℕ) (x : InstanceView) → slice_get h.instances at ≡ Some x
      → slice_get (with_channel kind place z h).instances at ≡ Some x
  same_instances Stream h place z at x is = is
  same_instances Future h place z at x is = is

  -- What is known of an end that is looked up.
  pub record Known (h : Held) (at index : ℕ) (kind : EndKind) (side : Side) (x : InstanceView) (e : EndEntry) (place : ℕ) (c : Channel) : Type 0 where
    pub inst : slice_get h.instances at ≡ Some x
    pub there : entry_of x index ≡ Some (entry.End e)
    pub side_is : e.side ≡ side
    pub number : place_of e.number ≡ Some place
    pub found : slice_get (channels kind h) place ≡ Some c
    pub alone : EndAlone h at index kind e place c

  -- An instance has the same entries, and its stream or future changes at one end.
  one_end : (h : Held) (at index : ℕ) (kind : EndKind) (side : Side) (x y : InstanceView) (e : EndEntry) (place : ℕ) (c z : Channel) → Known h at index kind side x e place c → y.slots ≡ x.slots
      → kind_of z.ends ≡ kind_of c.ends → z.end_type ≡ c.end_type → is_idle (end_in (other_side e.side) z.ends) ≡ is_idle (end_in (other_side e.side) c.ends)
      → OneEnd (slice_set h.instances at y) h.streams h.futures kind place c z at index y e
  one_end h at index kind side x y e place c z known same kinds types other = record {
    channel = kind_channels kind h place c known.found;
    same_kind = kinds;
    same_type = types;
    inst = get_set h.instances at x y known.inst;
    there = same_entry index ∙ known.there;
    number = known.number;
    typed = known.alone.typed;
    of = known.alone.of;
    other = other;
    once = λ other_at other_index i d here stood at_place typed side_is.
        elim (cases_eq other_at at) [
          | inl is ↦
              known.alone.once other_at other_index x d (ap (λ (k : ℕ). slice_get h.instances k) is ∙ known.inst)
              (sym (same_entry other_index) ∙ ap (λ (j : InstanceView). entry_of j other_index) (sym (put_same h.instances at other_at x y i known.inst here is)) ∙ stood) at_place typed side_is
          | inr apart ↦ known.alone.once other_at other_index i d (put_other h.instances at other_at y i here apart) stood at_place typed side_is
        ];
  }
    where
      same_entry : (n : ℕ) → entry_of y n ≡ entry_of x n
      same_entry n = ap (λ (s : Slots WorldEntry). entry_at s n) same

  -- The end is said at its index to be as it is then; or it leaves the table.
  pub said_ends : (h : Held) (at index : ℕ) (kind : EndKind) (side : Side) (x : InstanceView) (e : EndEntry) (place : ℕ) (c z : Channel) → Known h at index kind side x e place c → Kept h
      → kind_of z.ends ≡ kind_of c.ends → z.end_type ≡ c.end_type → is_idle (end_in (other_side e.side) z.ends) ≡ is_idle (end_in (other_side e.side) c.ends)
      → Kept (with_instance at (instance.entry_changed index (entry.End (with_idle (is_idle (end_in side z.ends)) e)) x) (with_channel kind place z h))
  said_ends h at index kind side x e place c z known kept kinds types other =
      let now : Bool → InstanceView = λ b. instance.entry_changed index (entry.End (with_idle b e)) x in
      let one : OneEnd h.instances h.streams h.futures kind place c z at index x e =
      subst (λ (all : List InstanceView). OneEnd all h.streams h.futures kind place c z at index x e) (set_same h.instances at x known.inst)
      (one_end h at index kind side x x e place c z known refl kinds types other) in
      put_ends kind place z at (now (is_idle (end_in side z.ends))) h
      (subst (λ (s : Side). EndsAre K (slice_set h.instances at (now (is_idle (end_in s z.ends)))) (streams_with kind place z h.streams) (futures_with kind place z h.futures)) known.side_is
      (record {
        marked = said_stays_marked h.instances h.streams h.futures kind place c z at index x e one kept.marked;
        once = once_as h.instances (slice_set h.instances at (now (is_idle (end_in e.side z.ends))))
            (idled_stood h.instances at index x e (is_idle (end_in e.side z.ends)) known.inst known.there) kept.once;
        are_streams = are_streams_with K kind place c z h.streams h.futures one.channel types kept.are_streams;
        are_futures = are_futures_with K kind place c z h.streams h.futures one.channel types kept.are_futures;
      }))

  gone_ends : (h : Held) (at index : ℕ) (kind : EndKind) (side : Side) (x y : InstanceView) (e : EndEntry) (place : ℕ) (c z : Channel) → Known h at index kind side x e place c → Kept h
      → y.slots ≡ x.slots → kind_of z.ends ≡ kind_of c.ends → z.end_type ≡ c.end_type → is_idle (end_in (other_side e.side) z.ends) ≡ is_idle (end_in (other_side e.side) c.ends)
      → EndsAre K (slice_set (slice_set h.instances at y) at (instance.entry_removed index y)) (streams_with kind place z h.streams) (futures_with kind place z h.futures)
  gone_ends h at index kind side x y e place c z known kept same kinds types other =
      let all : List InstanceView = slice_set h.instances at y in
      let before : EndsAre K all h.streams h.futures = stood_ends K h.instances all h.streams h.futures
      (put_stood h.instances at x y known.inst (λ n d has. ap (λ (s : Slots WorldEntry). entry_at s n) (sym same) ∙ has)) kept in
      let one : OneEnd all h.streams h.futures kind place c z at index y e = one_end h at index kind side x y e place c z known same kinds types other in
      let gone : EndsAre K (slice_set all at (instance.entry_removed index y)) h.streams h.futures = stood_ends K all (slice_set all at (instance.entry_removed index y)) h.streams h.futures
      (put_stood all at y (instance.entry_removed index y) one.inst (λ n d has. removed_stood y.slots index n d has)) before in
      record {
        marked = gone_stays_marked all h.streams h.futures kind place c z at index y e one before.marked;
        once = gone.once;
        are_streams = are_streams_with K kind place c z h.streams h.futures one.channel types kept.are_streams;
        are_futures = are_futures_with K kind place c z h.streams h.futures one.channel types kept.are_futures;
      }

  told_kind : (side : Side) (e : Ends) → kind_of (channel.told side e) ≡ kind_of e
  told_kind side (ends.Stream p) = refl
  told_kind side (ends.Future p) = refl

  dropped_kind : (side : Side) (e : Ends) → kind_of (channel.dropped side e) ≡ kind_of e
  dropped_kind side (ends.Stream p) = refl
  dropped_kind side (ends.Future p) = refl

  -- An end leaves the table, and its stream or future knows.
  pub dropped_so : (h : Held) (t at index : ℕ) (kind : EndKind) (side : Side) (x : InstanceView) (e : EndEntry) (place : ℕ) (c : Channel) → Known h at index kind side x e place c → Kept h
      → HoldsSo Kept (dropped_end t at index kind side e.number h)
  unfolding dropped_end
  dropped_so h t at index kind side x e place c known kept =
      let y : InstanceView = with_sets (left index x.sets) x in
      let k : Held = with_instance at y h in
      let z : Channel = with_ends (channel.dropped side c.ends) c in
      let l : Held = with_instance at (instance.entry_removed index y) k in
      let after_all : Kept (with_channel kind place z l) = changed_ends kind place z l
      (gone_ends h at index kind side x y e place c z known kept refl (dropped_kind side c.ends) refl
      (subst (λ (s : Side). is_idle (end_in (other_side e.side) (channel.dropped s c.ends)) ≡ is_idle (end_in (other_side e.side) c.ends)) known.side_is (dropping_leaves_other e.side c.ends))) in
      so_looked (slice_get h.instances at) x (λ i. Gives tt (with_instance at (with_sets (left index i.sets) i) h))
      (λ done k. after (entry_removed at index k) (λ done l. after (end_dropped kind side e.number l) (λ done m. got t [] m))) known.inst
      (so_looked (slice_get k.instances at) y (λ i. removed_of (entry_of i index) at index i k) (λ done l. after (end_dropped kind side e.number l) (λ done m. got t [] m))
      (get_set h.instances at x y known.inst)
      (removed (entry_of y index) known.there
      (so_looked (place_of e.number) place (λ p. end_dropped_at kind p side l) (λ done m. got t [] m) known.number
      (so_looked (slice_get (channels kind l) place) c
      (λ d. if may_drop side d.ends then Gives tt (with_channel kind place (with_ends (channel.dropped side d.ends) d) l) else Stuck) (λ done m. got t [] m)
      (same_channels kind k at (instance.entry_removed index y) place c (same_channels kind h at y place c known.found))
      (so_tested (may_drop side c.ends) (Gives tt (with_channel kind place z l)) (λ done m. got t [] m) after_all)))))
    where
      removed : (o : Option WorldEntry) → o ≡ Some (entry.End e)
          → (let y : InstanceView = with_sets (left index x.sets) x in
          let l : Held = with_instance at (instance.entry_removed index y) (with_instance at y h) in HoldsSo Kept (after (end_dropped kind side e.number l) (λ done m. got t [] m)))
          → (let y : InstanceView = with_sets (left index x.sets) x in
          HoldsSo Kept (after (removed_of o at index y (with_instance at y h)) (λ done l. after (end_dropped kind side e.number l) (λ done m. got t [] m))))
      removed None is p = tt
      removed (Some d) is p = p

  -- Whether it is idle is said, and then something goes on that leaves ends.
  end_of : (f g : EndEntry) → entry.End f ≡ entry.End g → f ≡ g
  end_of f g q = cc

  idled_so : {A : Type 0} (at index : ℕ) (e : EndEntry) (x : InstanceView) (o : Option WorldEntry) (b : Bool) (k : Held) (c : Unit {0} → Held → Done A) → o ≡ Some (entry.End e)
      → HoldsSo Kept (c tt (with_instance at (instance.entry_changed index (entry.End (with_idle b e)) x) k))
      → HoldsSo Kept (after (if is_some (any_end_in o) then Gives (tt {0}) (with_instance at (instance.end_idled index b (any_end_in o) x) k) else Stuck) c)
  idled_so at index e x None b k c is p = tt
  idled_so at index e x (Some (entry.Handle y)) b k c is p = tt
  idled_so at index e x (Some (entry.Subtask callee)) b k c is p = tt
  idled_so at index e x (Some (entry.Set set)) b k c is p = tt
  idled_so at index e x (Some (entry.End d)) b k c is p =
      subst (λ (f : EndEntry). HoldsSo Kept (c tt (with_instance at (instance.entry_changed index (entry.End (with_idle b f)) x) k))) (sym (end_of d e (some_same is))) p

  pub said_so : {A : Type 0} (h : Held) (at index : ℕ) (kind : EndKind) (side : Side) (x : InstanceView) (e : EndEntry) (place : ℕ) (c z : Channel) (more : Unit {0} → Held → Done A)
      → Known h at index kind side x e place c → Kept h → kind_of z.ends ≡ kind_of c.ends → z.end_type ≡ c.end_type
      → is_idle (end_in (other_side e.side) z.ends) ≡ is_idle (end_in (other_side e.side) c.ends) → ((k : Held) → Kept k → HoldsSo Kept (more tt k))
      → HoldsSo Kept (after (idle_seen kind side e.number (with_channel kind place z h)) (λ is_idle l. after (end_idled at index is_idle l) more))
  said_so h at index kind side x e place c z more known kept kinds types other goes =
      let k : Held = with_channel kind place z h in
      let now : Held = with_instance at (instance.entry_changed index (entry.End (with_idle (is_idle (end_in side z.ends)) e)) x) k in
      so_looked (channel_at kind e.number k) z (λ d. Gives (is_idle (end_in side d.ends)) k) (λ is_idle l. after (end_idled at index is_idle l) more)
      (there_now kind h e.number place c z known.number known.found)
      (so_looked (slice_get k.instances at) x
      (λ i. if is_some (any_end_in (entry_of i index)) then Gives tt (with_instance at (instance.idled index (is_idle (end_in side z.ends)) i) k) else Stuck)
      more (same_instances kind h place z at x known.inst)
      (idled_so at index e x (entry_of x index) (is_idle (end_in side z.ends)) k more known.there
      (goes now (said_ends h at index kind side x e place c z known kept kinds types other))))

  -- Its copy is told.
  pub told_so : {A : Type 0} (h : Held) (at index : ℕ) (kind : EndKind) (side : Side) (x : InstanceView) (e : EndEntry) (place : ℕ) (c : Channel) (more : ℕ → Unit {0} → Held → Done A)
      → Known h at index kind side x e place c → Kept h → ((payload : ℕ) (k : Held) → Kept k → HoldsSo Kept (more payload tt k))
      → HoldsSo Kept (after (concluded kind side e.number h) (λ payload k. after (idle_seen kind side e.number k) (λ is_idle l. after (end_idled at index is_idle l) (more payload))))
  told_so {A} h at index kind side x e place c more known kept goes =
      so_looked (place_of e.number) place (λ p. concluded_at kind p side h) rest known.number
      (so_looked (slice_get (channels kind h) place) c
      (λ d. answered (if is_copying (end_in side d.ends) then Some (payload_in side d.ends) else None) kind place (if is_copying (end_in side d.ends) then with_ends (channel.told side d.ends) d else d) h)
      rest known.found (by_copy (is_copying (end_in side c.ends))))
    where
      rest : ℕ → Held → Done A
      rest payload k = after (idle_seen kind side e.number k) (λ is_idle l. after (end_idled at index is_idle l) (more payload))

      by_copy : (b : Bool)
          → HoldsSo Kept (after (answered (if b then Some (payload_in side c.ends) else None) kind place (if b then with_ends (channel.told side c.ends) c else c) h)
          (λ payload k. after (idle_seen kind side e.number k) (λ is_idle l. after (end_idled at index is_idle l) (more payload))))
      by_copy false = tt
      by_copy true =
          said_so h at index kind side x e place c (with_ends (channel.told side c.ends) c) (more (payload_in side c.ends)) known kept (told_kind side c.ends) refl
          (subst (λ (s : Side). is_idle (end_in (other_side e.side) (channel.told s c.ends)) ≡ is_idle (end_in (other_side e.side) c.ends)) known.side_is (telling_leaves_other e.side c.ends))
          (goes (payload_in side c.ends))

  -- An end that stands at an index, whose stream or future is looked up.
  module _ (h : Held) (at index : ℕ) (kind : EndKind) (x : InstanceView) (e : EndEntry) (kept : Kept h) (type : K e.end_type ≡ kind) (inst : slice_get h.instances at ≡ Some x)
      (there : entry_of x index ≡ Some (entry.End e)) where
    known_at : (place : ℕ) (c : Channel) → place_of e.number ≡ Some place → slice_get (channels kind h) place ≡ Some c → Known h at index kind e.side x e place c
    known_at place c number found = record {
      inst = inst;
      there = there;
      side_is = refl;
      number = number;
      found = found;
      alone = alone K h at index kind x e place c kept type inst there number found;
    }

    pub end_told_so : {A : Type 0} (more : ℕ → Unit {0} → Held → Done A) → ((payload : ℕ) (k : Held) → Kept k → HoldsSo Kept (more payload tt k))
        → HoldsSo Kept (after (concluded kind e.side e.number h) (λ payload k. after (idle_seen kind e.side e.number k) (λ is_idle l. after (end_idled at index is_idle l) (more payload))))
    end_told_so {A} more goes = by_place (place_of e.number) refl
      where
        rest : ℕ → Held → Done A
        rest payload k = after (idle_seen kind e.side e.number k) (λ is_idle l. after (end_idled at index is_idle l) (more payload))

        by_channel : (place : ℕ) (o : Option Channel) → place_of e.number ≡ Some place → slice_get (channels kind h) place ≡ o
            → HoldsSo Kept (after (given o (λ d. answered (if is_copying (end_in e.side d.ends) then Some (payload_in e.side d.ends) else None) kind place
            (if is_copying (end_in e.side d.ends) then with_ends (channel.told e.side d.ends) d else d) h)) rest)
        by_channel place None number found = tt
        by_channel place (Some c) number found =
            as_looked place c number found (told_so h at index kind e.side x e place c more (known_at place c number found) kept goes)
          where
            as_looked : (place : ℕ) (c : Channel) → place_of e.number ≡ Some place → slice_get (channels kind h) place ≡ Some c → HoldsSo Kept (after (concluded kind e.side e.number h) rest)
                → HoldsSo Kept (after (answered (if is_copying (end_in e.side c.ends) then Some (payload_in e.side c.ends) else None) kind place
                (if is_copying (end_in e.side c.ends) then with_ends (channel.told e.side c.ends) c else c) h) rest)
            as_looked place c number found p =
                subst (λ (d : Done ℕ). HoldsSo Kept (after d rest))
                (ap (λ (o : Option ℕ). given o (λ q. concluded_at kind q e.side h)) number
                ∙ ap (λ (o : Option Channel). given o (λ d. answered (if is_copying (end_in e.side d.ends) then Some (payload_in e.side d.ends) else None) kind place
                (if is_copying (end_in e.side d.ends) then with_ends (channel.told e.side d.ends) d else d) h)) found) p

        by_place : (o : Option ℕ) → place_of e.number ≡ o → HoldsSo Kept (after (given o (λ q. concluded_at kind q e.side h)) rest)
        by_place None number = tt
        by_place (Some place) number = by_channel place (slice_get (channels kind h) place) number refl
