-- Built-ins of streams and futures keep marks of ends: a stream or a future is made, an end is dropped, and a copy is given up, or told.
use Rattle.std.proofs.Common.{◌≡◌, ◌∙◌, inl, inr, ℕ, zero, suc, ◌+◌, ◌-◌, nat_eq, nat_lt, Bool, true, false, not, ◌&&◌, is_some, if◌then◌else◌, List, [], ◌∷◌, ◌++◌, length, slice_set, Option, Some, None, Result, Ok, Err, refl, sym, ap, subst, arith}
use Rattle.std.specs.List.{slice_get}
use Rattle.std.proofs.lemmas.Bool.{cases_eq, eqb-true, ne_eqb}
use Rattle.handle_table.specs.History.{most_live}
use Rattle.handle_table.specs.Slots.{Slots, entry_at, count, next_of}
use Rattle.res_handles.specs.declared.refusal.Refusal.{Refusal}
use Rattle.res_handles.specs.declared.refusal.Refusal.TheVariants as refusal
use Rattle.builtin_kinds.specs.declared.EndKind.{EndKind}
use Rattle.builtin_kinds.specs.declared.EndKind.TheVariants.{Stream, Future}
use Rattle.stream_ends.specs.declared.side.Side.{Side}
use Rattle.stream_ends.specs.declared.side.Side.TheVariants.{Reader, Writer}
use Rattle.stream_ends.specs.declared.stream_end.End.{End}
use Rattle.stream_ends.specs.Ends.{other_side, is_idle, is_copying}
use Rattle.channels.specs.declared.channel.Channel.{Channel}
use Rattle.channels.specs.declared.channel.Ends.{Ends}
use Rattle.channels.specs.declared.channel.Ends.TheVariants as ends
use Rattle.channels.specs.Channels as channel
use Rattle.channels.specs.Channels.{new_ends, kind_of, end_in, payload_in, may_drop, with_ends}
use Rattle.instances.specs.declared.entry.EndEntry.{EndEntry}
use Rattle.instances.specs.declared.entry.WorldEntry.{WorldEntry}
use Rattle.instances.specs.declared.entry.WorldEntry.TheVariants as entry
use Rattle.instances.specs.Entries as entries
use Rattle.instances.specs.Entries.{with_idle, any_end_in}
use Rattle.instances.specs.Instances as instance
use Rattle.instances.specs.Instances.{InstanceView, entry_of, with_sets}
use Rattle.waitables.specs.Sets.{left}
use Rattle.trace_labels.specs.declared.trap.TrapName.TheVariants as trap
use Rattle.world_parts.specs.Views.{Views}
use Rattle.world_parts.specs.declared.parts.Flow.{Flow}
use Rattle.world_parts.specs.Held.{Held, Done, Gives, Traps, Spent, Stuck, after, given}
use Rattle.world_parts.specs.Feed.{got}
use Rattle.world_parts.specs.News.{copy_is_async}
use Rattle.world_parts.specs.Slots.{word_in}
use Rattle.world_parts.specs.Entries.{with_instance, named, end_found, entry_added, removed_of, entry_removed, end_idled, set_left}
use Rattle.world_parts.specs.Channels.{place_of, at_place, numbered, channels, with_channels, channel_at, with_channel, channel_made, idle_seen, answered, concluded_at, concluded, end_dropped_at, end_dropped}
use Rattle.world_parts.specs.Copies.{both_indices, new_end, is_unwritten, channel_new, dropped_end, drop_tested, end_drop, copy_given_up, copy_cancel}
use Rattle.abi_machine.proofs.sound.Found.{some_same}
use Rattle.standing.specs.Channels.{of_kind, EndMarked, EndsMarked, HasMarkedEnds}
use Rattle.standing.specs.EndMarks.{streams_with, futures_with, OneEnd}
use Rattle.standing.proofs.Agreeing.{get_set}
use Rattle.standing.proofs.Lists.{set_same}
use Rattle.standing.proofs.EndMarks.{added_stay_marked, same_entries_stay_marked, streams_stay_marked, futures_stay_marked}
use Rattle.standing.proofs.EndSaid.{said_stays_marked, gone_stays_marked}
use Rattle.standing.proofs.EndSides.{telling_leaves_other, dropping_leaves_other}
use Rattle.standing.proofs.marks.Tables.{put_same, put_other}
use Rattle.run_laws.specs.keeping.Ends.{KeepsEnds, EndAlone, EndsAlone, EndBuiltinsKeepEnds}
use Rattle.run_laws.proofs.keeping.But.{GivesSo, so_after, so_given, so_if}

-- What follows something that is looked up and known.
so_looked : {A B C : Type 0} (Q : Held → Type 0) (o : Option A) (x : A) (f : A → Done B) (c : B → Held → Done C) → o ≡ Some x → GivesSo Q (after (f x) c) → GivesSo Q (after (given o f) c)
so_looked Q None x f c is p = absurd (cc)
so_looked {A} Q (Some y) x f c is p = subst (λ (z : A). GivesSo Q (after (f z) c)) (sym (some_same is)) p

so_tested : {A B : Type 0} (Q : Held → Type 0) (b : Bool) (d : Done A) (c : A → Held → Done B) → GivesSo Q (after d c) → GivesSo Q (after (if b then d else Stuck) c)
so_tested Q true d c p = p
so_tested Q false d c p = tt

abbrev Marked : Held → Type 0
Marked k = HasMarkedEnds k

keeps_so : {A : Type 0} (h : Held) (d : Done A) → (HasMarkedEnds h → GivesSo Marked d) → KeepsEnds h d
keeps_so h (Gives x k) p = λ marks. p marks
keeps_so h (Traps why k) p = tt
keeps_so h (Spent k) p = tt
keeps_so h Stuck p = tt

-- A stream or a future is another one.
changed_marks : (kind : EndKind) (place : ℕ) (z : Channel) (l : Held) → EndsMarked l.instances (streams_with kind place z l.streams) (futures_with kind place z l.futures)
    → HasMarkedEnds (with_channel kind place z l)
changed_marks Stream place z l marks = marks
changed_marks Future place z l marks = marks

kind_channels : (kind : EndKind) (h : Held) (place : ℕ) (c : Channel) → slice_get (channels kind h) place ≡ Some c → slice_get (of_kind kind h.streams h.futures) place ≡ Some c
kind_channels Stream h place c is = is
kind_channels Future h place c is = is

same_channels : (kind : EndKind) (h : Held) (at : ℕ) (i : InstanceView) (place : ℕ) (c : Channel) → slice_get (channels kind h) place ≡ Some c
    → slice_get (channels kind (with_instance at i h)) place ≡ Some c
same_channels Stream h at i place c is = is
same_channels Future h at i place c is = is

there_now : (kind : EndKind) (h : Held) (number place : ℕ) (c z : Channel) → place_of number ≡ Some place → slice_get (channels kind h) place ≡ Some c
    → channel_at kind number (with_channel kind place z h) ≡ Some z
there_now Stream h number place c z at is = ap (λ (o : Option ℕ). at_place (slice_set h.streams place z) o) at ∙ get_set h.streams place c z is
there_now Future h number place c z at is = ap (λ (o : Option ℕ). at_place (slice_set h.futures place z) o) at ∙ get_set h.futures place c z is

same_instances : (kind : EndKind) (h : Held) (place : ℕ) (z : Channel) (at : ℕ) (x : InstanceView) → slice_get h.instances at ≡ Some x
    → slice_get (with_channel kind place z h).instances at ≡ Some x
same_instances Stream h place z at x is = is
same_instances Future h place z at x is = is

told_kind : (side : Side) (e : Ends) → kind_of (channel.told side e) ≡ kind_of e
told_kind side (ends.Stream p) = refl
told_kind side (ends.Future p) = refl

dropped_kind : (side : Side) (e : Ends) → kind_of (channel.dropped side e) ≡ kind_of e
dropped_kind side (ends.Stream p) = refl
dropped_kind side (ends.Future p) = refl

-- What is known of an end that is looked up.
record Known (h : Held) (at index : ℕ) (kind : EndKind) (side : Side) (x : InstanceView) (e : EndEntry) (place : ℕ) (c : Channel) : Type 0 where
  inst : slice_get h.instances at ≡ Some x
  there : entry_of x index ≡ Some (entry.End e)
  side_is : e.side ≡ side
  number : place_of e.number ≡ Some place
  found : slice_get (channels kind h) place ≡ Some c
  alone : EndAlone h at index kind e place c

-- An instance has the same entries, and its stream or future changes at one end.
one_end : (h : Held) (at index : ℕ) (kind : EndKind) (side : Side) (x y : InstanceView) (e : EndEntry) (place : ℕ) (c z : Channel) → Known h at index kind side x e place c → y.slots ≡ x.slots
    → kind_of z.ends ≡ kind_of c.ends → z.end_type ≡ c.end_type → is_idle (end_in (other_side e.side) z.ends) ≡ is_idle (end_in (other_side e.side) c.ends)
    → OneEnd (slice_set h.instances at y) h.streams h.futures kind place c z at index y e
one_end h at index kind side x y e place c z known same kinds types other = record {
  channel = kind_channels kind h place c known.found;
  same_kind = kinds;
  same_type = types;
  inst = get_set h.instances at x y known.inst;
  there = same_entry index ∙ known.there;
  number = known.number;
  typed = known.alone.typed;
  of = known.alone.of;
  other = other;
  once = λ other_at other_index i d here stood at_place typed side_is.
      elim (cases_eq other_at at) [
        | inl is ↦
            known.alone.once other_at other_index x d (ap (λ (k : ℕ). slice_get h.instances k) is ∙ known.inst)
            (sym (same_entry other_index) ∙ ap (λ (j : InstanceView). entry_of j other_index) (sym (put_same h.instances at other_at x y i known.inst here is)) ∙ stood) at_place typed side_is
        | inr apart ↦ known.alone.once other_at other_index i d (put_other h.instances at other_at y i here apart) stood at_place typed side_is
      ];
}
  where
    same_entry : (n : ℕ) → entry_of y n ≡ entry_of x n
    same_entry n = ap (λ (s : Slots WorldEntry). entry_at s n) same

-- An end leaves the table, and its stream or future knows.
gone_so : (h : Held) (t at index : ℕ) (kind : EndKind) (side : Side) (x : InstanceView) (e : EndEntry) (place : ℕ) (c : Channel) → Known h at index kind side x e place c → HasMarkedEnds h
    → GivesSo Marked (dropped_end t at index kind side e.number h)
unfolding dropped_end
gone_so h t at index kind side x e place c known marks =
    let y : InstanceView = with_sets (left index x.sets) x in
    let k : Held = with_instance at y h in
    let z : Channel = with_ends (channel.dropped side c.ends) c in
    let l : Held = with_instance at (instance.entry_removed index y) k in
    let before : EndsMarked k.instances h.streams h.futures = same_entries_stay_marked h.instances h.streams h.futures at x y known.inst refl marks in
    let one : OneEnd k.instances h.streams h.futures kind place c z at index y e =
    one_end h at index kind side x y e place c z known refl (dropped_kind side c.ends) refl
    (subst (λ (s : Side). is_idle (end_in (other_side e.side) (channel.dropped s c.ends)) ≡ is_idle (end_in (other_side e.side) c.ends)) known.side_is (dropping_leaves_other e.side c.ends)) in
    let after_all : HasMarkedEnds (with_channel kind place z l) = changed_marks kind place z l (gone_stays_marked k.instances h.streams h.futures kind place c z at index y e one before) in
    so_looked Marked (slice_get h.instances at) x (λ i. Gives tt (with_instance at (with_sets (left index i.sets) i) h))
    (λ done k. after (entry_removed at index k) (λ done l. after (end_dropped kind side e.number l) (λ done m. got t [] m))) known.inst
    (so_looked Marked (slice_get k.instances at) y (λ i. removed_of (entry_of i index) at index i k) (λ done l. after (end_dropped kind side e.number l) (λ done m. got t [] m))
    (get_set h.instances at x y known.inst)
    (removed (entry_of y index) known.there
    (so_looked Marked (place_of e.number) place (λ p. end_dropped_at kind p side l) (λ done m. got t [] m) known.number
    (so_looked Marked (slice_get (channels kind l) place) c
    (λ d. if may_drop side d.ends then Gives tt (with_channel kind place (with_ends (channel.dropped side d.ends) d) l) else Stuck) (λ done m. got t [] m)
    (same_channels kind k at (instance.entry_removed index y) place c (same_channels kind h at y place c known.found))
    (so_tested Marked (may_drop side c.ends) (Gives tt (with_channel kind place z l)) (λ done m. got t [] m) after_all)))))
  where
    removed : (o : Option WorldEntry) → o ≡ Some (entry.End e)
        → (let y : InstanceView = with_sets (left index x.sets) x in
        let l : Held = with_instance at (instance.entry_removed index y) (with_instance at y h) in GivesSo Marked (after (end_dropped kind side e.number l) (λ done m. got t [] m)))
        → (let y : InstanceView = with_sets (left index x.sets) x in
        GivesSo Marked (after (removed_of o at index y (with_instance at y h)) (λ done l. after (end_dropped kind side e.number l) (λ done m. got t [] m))))
    removed None is p = tt
    removed (Some d) is p = p

-- A copy is given up, or told.
abbrev told_rest : ℕ → ℕ → ℕ → EndKind → Side → ℕ → ℕ → Held → Done Flow
told_rest t at index kind side number payload k = after (idle_seen kind side number k) (λ is_idle l. after (end_idled at index is_idle l) (λ done m. got t (payload ∷ []) m))

end_inj : (f g : EndEntry) → entry.End f ≡ entry.End g → f ≡ g
end_inj f g q = cc

idled_so : (t at index payload : ℕ) (e : EndEntry) (x : InstanceView) (o : Option WorldEntry) (b : Bool) (k : Held) → o ≡ Some (entry.End e)
    → HasMarkedEnds (with_instance at (instance.entry_changed index (entry.End (with_idle b e)) x) k)
    → GivesSo Marked
    (after (if is_some (any_end_in o) then Gives (tt {0}) (with_instance at (instance.end_idled index b (any_end_in o) x) k) else Stuck) (λ done m. got t (payload ∷ []) m))
idled_so t at index payload e x None b k is p = tt
idled_so t at index payload e x (Some (entry.Handle y)) b k is p = tt
idled_so t at index payload e x (Some (entry.Subtask callee)) b k is p = tt
idled_so t at index payload e x (Some (entry.Set set)) b k is p = tt
idled_so t at index payload e x (Some (entry.End d)) b k is p =
    subst (λ (f : EndEntry). HasMarkedEnds (with_instance at (instance.entry_changed index (entry.End (with_idle b f)) x) k)) (sym (end_inj d e (some_same is))) p

said_marks : (kind : EndKind) (place : ℕ) (z : Channel) (at : ℕ) (i : InstanceView) (h : Held)
    → EndsMarked (slice_set h.instances at i) (streams_with kind place z h.streams) (futures_with kind place z h.futures) → HasMarkedEnds (with_instance at i (with_channel kind place z h))
said_marks Stream place z at i h marks = marks
said_marks Future place z at i h marks = marks

told_so : (h : Held) (t at index : ℕ) (kind : EndKind) (side : Side) (x : InstanceView) (e : EndEntry) (place : ℕ) (c : Channel) → Known h at index kind side x e place c → HasMarkedEnds h
    → GivesSo Marked (copy_given_up t at index kind side e.number h)
unfolding copy_given_up
told_so h t at index kind side x e place c known marks =
    so_looked Marked (place_of e.number) place (λ p. concluded_at kind p side h) (λ payload k. told_rest t at index kind side e.number payload k) known.number
    (so_looked Marked (slice_get (channels kind h) place) c
    (λ d. answered (if is_copying (end_in side d.ends) then Some (payload_in side d.ends) else None) kind place (if is_copying (end_in side d.ends) then with_ends (channel.told side d.ends) d else d) h)
    (λ payload k. told_rest t at index kind side e.number payload k) known.found (by_copy (is_copying (end_in side c.ends))))
  where
    by_copy : (b : Bool)
        → GivesSo Marked
        (after (answered (if b then Some (payload_in side c.ends) else None) kind place (if b then with_ends (channel.told side c.ends) c else c) h)
        (λ payload k. told_rest t at index kind side e.number payload k))
    by_copy false = tt
    by_copy true =
        let z : Channel = with_ends (channel.told side c.ends) c in
        let k : Held = with_channel kind place z h in
        let payload : ℕ = payload_in side c.ends in
        let one : OneEnd h.instances h.streams h.futures kind place c z at index x e =
        subst (λ (is : List InstanceView). OneEnd is h.streams h.futures kind place c z at index x e) (set_same h.instances at x known.inst)
        (one_end h at index kind side x x e place c z known refl (told_kind side c.ends) refl
        (subst (λ (s : Side). is_idle (end_in (other_side e.side) (channel.told s c.ends)) ≡ is_idle (end_in (other_side e.side) c.ends)) known.side_is (telling_leaves_other e.side c.ends))) in
        let settled : HasMarkedEnds (with_instance at (instance.entry_changed index (entry.End (with_idle (is_idle (end_in side z.ends)) e)) x) k) =
        said_marks kind place z at (instance.entry_changed index (entry.End (with_idle (is_idle (end_in side z.ends)) e)) x) h
        (subst
        (λ (s : Side). EndsMarked (slice_set h.instances at (instance.entry_changed index (entry.End (with_idle (is_idle (end_in s z.ends)) e)) x)) (streams_with kind place z h.streams)
        (futures_with kind place z h.futures))
        known.side_is (said_stays_marked h.instances h.streams h.futures kind place c z at index x e one marks)) in
        so_looked Marked (channel_at kind e.number k) z (λ d. Gives (is_idle (end_in side d.ends)) k) (λ is_idle l. after (end_idled at index is_idle l) (λ done m. got t (payload ∷ []) m))
        (there_now kind h e.number place c z known.number known.found)
        (so_looked Marked (slice_get k.instances at) x
        (λ i. if is_some (any_end_in (entry_of i index)) then Gives tt (with_instance at (instance.idled index (is_idle (end_in side z.ends)) i) k) else Stuck)
        (λ done m. got t (payload ∷ []) m) (same_instances kind h place z at x known.inst)
        (idled_so t at index payload e x (entry_of x index) (is_idle (end_in side z.ends)) k known.there settled))

-- An end is found.
same_sides : (a b : Side) → entries.same_side a b ≡ true → a ≡ b
same_sides Reader Reader h = refl
same_sides Reader Writer h = absurd (cc)
same_sides Writer Reader h = absurd (cc)
same_sides Writer Writer h = refl

record EndAt (side : Side) (type : ℕ) (o : Option WorldEntry) (e : EndEntry) : Type 0 where
  there : o ≡ Some (entry.End e)
  side_is : e.side ≡ side
  type_is : e.end_type ≡ type

ok_same : (x e : EndEntry) → ◌≡◌ {A = Result EndEntry Refusal} (Ok x) (Ok e) → x ≡ e
ok_same x e h = cc

end_by : (side : Side) (type : ℕ) (x e : EndEntry) (a c : Bool) → entries.same_side x.side side ≡ a → nat_eq x.end_type type ≡ c
    → (if a then (if c then Ok x else Err refusal.OtherType) else Err refusal.OtherKind) ≡ Ok e → EndAt side type (Some (entry.End x)) e
end_by side type x e false c p q h = absurd (cc)
end_by side type x e true false p q h = absurd (cc)
end_by side type x e true true p q h =
    let same : x ≡ e = ok_same x e h in
    record {
      there = ap (λ (y : EndEntry). Some (entry.End y)) same;
      side_is = ap (λ (y : EndEntry). y.side) (sym same) ∙ same_sides x.side side p;
      type_is = ap (λ (y : EndEntry). y.end_type) (sym same) ∙ eqb-true x.end_type type q;
    }

end_there : (side : Side) (type : ℕ) (o : Option WorldEntry) (e : EndEntry) → entries.end_in side type o ≡ Ok e → EndAt side type o e
end_there side type None e h = absurd (cc)
end_there side type (Some (entry.Handle x)) e h = absurd (cc)
end_there side type (Some (entry.Subtask callee)) e h = absurd (cc)
end_there side type (Some (entry.Set set)) e h = absurd (cc)
end_there side type (Some (entry.End x)) e h = end_by side type x e (entries.same_side x.side side) (nat_eq x.end_type type) refl refl h

module _ (h : Held) (at : ℕ) (kind : EndKind) (side : Side) (type index : ℕ) (alone : EndsAlone h at kind type) (f : EndEntry → Channel → Held → Done Flow)
    (so : (x : InstanceView) (e : EndEntry) (place : ℕ) (c : Channel) → Known h at index kind side x e place c → GivesSo Marked (f e c h)) where
  by_place : (x : InstanceView) (e : EndEntry) (c : Channel) (o : Option ℕ) → slice_get h.instances at ≡ Some x → EndAt side type (entry_of x index) e → place_of e.number ≡ o
      → at_place (channels kind h) o ≡ Some c → GivesSo Marked (f e c h)
  by_place x e c None is end number found = absurd (cc)
  by_place x e c (Some place) is end number found =
      so x e place c
      (record {
        inst = is;
        there = end.there;
        side_is = end.side_is;
        number = number;
        found = found;
        alone = alone index place x e c is end.there end.type_is number found;
      })

  by_end : (x : InstanceView) (r : Result EndEntry Refusal) → slice_get h.instances at ≡ Some x → entries.end_in side type (entry_of x index) ≡ r
      → GivesSo Marked (after (named r h) (λ e k. given (channel_at kind e.number k) (λ c. f e c k)))
  by_end x (Err why) is found = tt
  by_end x (Ok e) is found =
      so_given Marked (channel_at kind e.number h) (λ c. f e c h) (λ c there. by_place x e c (place_of e.number) is (end_there side type (entry_of x index) e found) refl there)

  found_so : GivesSo Marked (after (end_found at side type index h) (λ e k. given (channel_at kind e.number k) (λ c. f e c k)))
  found_so = by_inst (slice_get h.instances at) refl
    where
      by_inst : (o : Option InstanceView) → slice_get h.instances at ≡ o
          → GivesSo Marked (after (given o (λ i. named (entries.end_in side type (entry_of i index)) h)) (λ e k. given (channel_at kind e.number k) (λ c. f e c k)))
      by_inst None is = tt
      by_inst (Some x) is = by_end x (entries.end_in side type (entry_of x index)) is refl

drop_so : (t at : ℕ) (kind : EndKind) (side : Side) (type : ℕ) (words : List ℕ) (h : Held) → EndsAlone h at kind type → HasMarkedEnds h → GivesSo Marked (end_drop t at kind side type words h)
unfolding end_drop
drop_so t at kind side type words h alone marks =
    so_given Marked (word_in words 0)
    (λ index. after (end_found at side type index h) (λ e k. given (channel_at kind e.number k) (λ c. drop_tested t at index kind side e.number (end_in side c.ends) k)))
    (λ index is.
    found_so h at kind side type index alone (λ e c k. drop_tested t at index kind side e.number (end_in side c.ends) k)
    (λ x e place c known.
    so_if Marked (is_copying (end_in side c.ends)) (Traps trap.Busy h)
    (if is_unwritten kind side (end_in side c.ends).done then Traps trap.UnwrittenFuture h else dropped_end t at index kind side e.number h) tt
    (so_if Marked (is_unwritten kind side (end_in side c.ends).done) (Traps trap.UnwrittenFuture h) (dropped_end t at index kind side e.number h) tt
    (gone_so h t at index kind side x e place c known marks))))

cancel_so : (g : Views) (t at : ℕ) (kind : EndKind) (side : Side) (type : ℕ) (words : List ℕ) (h : Held) → EndsAlone h at kind type → HasMarkedEnds h
    → GivesSo Marked (copy_cancel g t at kind side type words h)
unfolding copy_cancel
cancel_so g t at kind side type words h alone marks =
    so_given Marked (word_in words 0)
    (λ index. after (end_found at side type index h) (λ e k. given (channel_at kind e.number k) (λ c.
    if not (copy_is_async g (end_in side c.ends).copy) then Traps trap.NotCopying k else copy_given_up t at index kind side e.number k)))
    (λ index is.
    found_so h at kind side type index alone
    (λ e c k. if not (copy_is_async g (end_in side c.ends).copy) then Traps trap.NotCopying k else copy_given_up t at index kind side e.number k)
    (λ x e place c known.
    so_if Marked (not (copy_is_async g (end_in side c.ends).copy)) (Traps trap.NotCopying h) (copy_given_up t at index kind side e.number h) tt
    (told_so h t at index kind side x e place c known marks)))

-- A stream or a future is made, and its ends come to the table.
last_there : {A : Type 0} (xs : List A) (x : A) → slice_get (xs ++ x ∷ []) (length xs) ≡ Some x
last_there [] x = refl
last_there (y ∷ xs) x = last_there xs x

place_last : (n : ℕ) → place_of (n + 1) ≡ Some n
place_last n =
    ap (λ (b : Bool). if b then None else Some (n + 1 - 1)) (ne_eqb (n + 1) 0 (λ e. omega (arith, e))) ∙ ap (λ (k : ℕ). Some k) (let same : n + 1 - 1 ≡ n = omega arith in same)

numbered_last : {A : Type 0} (xs : List A) (x : A) → numbered (xs ++ x ∷ []) (length xs + 1) ≡ Some x
numbered_last {A} xs x = ap (λ (o : Option ℕ). at_place (xs ++ x ∷ []) o) (place_last (length xs)) ∙ last_there xs x

abbrev made : EndKind → ℕ → Channel
made kind type = record { end_type = type; ends = new_ends kind }

abbrev made_held : EndKind → ℕ → Held → Held
made_held kind type h = with_channels kind (channels kind h ++ made kind type ∷ []) h

new_is_idle : (kind : EndKind) (side : Side) → true ≡ is_idle (end_in side (new_ends kind))
new_is_idle Stream Reader = refl
new_is_idle Stream Writer = refl
new_is_idle Future Reader = refl
new_is_idle Future Writer = refl

new_of : (kind : EndKind) → kind_of (new_ends kind) ≡ kind
new_of Stream = refl
new_of Future = refl

made_there : (kind : EndKind) (type : ℕ) (h : Held)
    → numbered (of_kind kind (made_held kind type h).streams (made_held kind type h).futures) (length (channels kind h) + 1) ≡ Some (made kind type)
made_there Stream type h = numbered_last h.streams (made Stream type)
made_there Future type h = numbered_last h.futures (made Future type)

made_marks : (kind : EndKind) (type : ℕ) (h : Held) → HasMarkedEnds h → HasMarkedEnds (made_held kind type h)
made_marks Stream type h marks = streams_stay_marked h.instances h.streams h.futures (made Stream type) marks
made_marks Future type h marks = futures_stay_marked h.instances h.streams h.futures (made Future type) marks

new_marked : (kind : EndKind) (side : Side) (type : ℕ) (h : Held)
    → EndMarked (made_held kind type h).streams (made_held kind type h).futures (record { side = side; end_type = type; number = length (channels kind h) + 1; is_idle = true })
new_marked kind side type h = record {
  kind = kind;
  channel = made kind type;
  there = made_there kind type h;
  of = new_of kind;
  typed = refl;
  idle = new_is_idle kind side;
}

-- Entries that are marked come.
abbrev MarkedOver : List Channel → List Channel → Held → Type 0
MarkedOver streams futures k = HasMarkedEnds k × (k.streams ≡ streams) × (k.futures ≡ futures)

added_so : (streams futures : List Channel) (at : ℕ) (e : EndEntry) (k : Held) → EndMarked streams futures e → MarkedOver streams futures k
    → GivesSo (MarkedOver streams futures) (entry_added at (entry.End e) k)
added_so streams futures at e k marked (marks, s, f) =
    so_given (MarkedOver streams futures) (slice_get k.instances at)
    (λ i. if nat_lt (count i.slots) most_live then Gives (next_of i.slots) (with_instance at (instance.entry_added (entry.End e) i) k) else Traps trap.TableFull (with_instance at i k))
    (λ i is.
    so_if (MarkedOver streams futures) (nat_lt (count i.slots) most_live) (Gives (next_of i.slots) (with_instance at (instance.entry_added (entry.End e) i) k))
    (Traps trap.TableFull (with_instance at i k)) (
      added_stay_marked k.instances k.streams k.futures at i (entry.End e) is
          (subst (λ (all : List Channel). EndMarked all k.futures e) (sym s) (subst (λ (all : List Channel). EndMarked streams all e) (sym f) marked)) marks,
      s,
      f,
    ) tt)

only_marked : {A : Type 0} (streams futures : List Channel) (d : Done A) → GivesSo (MarkedOver streams futures) d → GivesSo Marked d
only_marked streams futures (Gives x l) q = q.0
only_marked streams futures (Traps why l) q = tt
only_marked streams futures (Spent l) q = tt
only_marked streams futures Stuck q = tt

new_so : (t at : ℕ) (kind : EndKind) (type : ℕ) (h : Held) → HasMarkedEnds h → GivesSo Marked (channel_new t at kind type h)
unfolding channel_new
new_so t at kind type h marks =
    let k : Held = made_held kind type h in
    let number : ℕ = length (channels kind h) + 1 in
    only_marked k.streams k.futures (channel_new t at kind type h)
    (so_after (MarkedOver k.streams k.futures) (entry_added at (new_end Reader type number) k)
    (λ readable l. after (entry_added at (new_end Writer type number) l) (λ writable m. got t (both_indices readable writable ∷ []) m))
    (added_so k.streams k.futures at (record { side = Reader; end_type = type; number = number; is_idle = true }) k (new_marked kind Reader type h) (made_marks kind type h marks, refl, refl))
    (λ readable l b.
    so_after (MarkedOver k.streams k.futures) (entry_added at (new_end Writer type number) l) (λ writable m. got t (both_indices readable writable ∷ []) m)
    (added_so k.streams k.futures at (record { side = Writer; end_type = type; number = number; is_idle = true }) l (new_marked kind Writer type h) b) (λ writable m c. c)))

pub end_builtins_keep_ends : EndBuiltinsKeepEnds
end_builtins_keep_ends g t at kind side type words h alone = (
  keeps_so h (channel_new t at kind type h) (λ marks. new_so t at kind type h marks),
  keeps_so h (end_drop t at kind side type words h) (λ marks. drop_so t at kind side type words h alone marks),
  keeps_so h (copy_cancel g t at kind side type words h) (λ marks. cancel_so g t at kind side type words h alone marks),
)
