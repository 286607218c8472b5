-- Built-ins of streams and futures, and the copy of an end that is told, keep memories, core instances and ends.
use Rattle.std.proofs.Common.{◌≡◌, ◌∙◌, ℕ, nat_eq, Bool, true, false, not, if◌then◌else◌, List, [], ◌∷◌, refl, sym, ap, Option, Some, None}
use Rattle.std.specs.Prelude.{Result, Ok, Err}
use Rattle.std.specs.List.{slice_get}
use Rattle.std.proofs.lemmas.Bool.{eqb-true}
use Rattle.res_handles.specs.declared.refusal.Refusal.{Refusal}
use Rattle.res_handles.specs.declared.refusal.Refusal.TheVariants as refusal
use Rattle.builtin_kinds.specs.declared.EndKind.{EndKind}
use Rattle.stream_ends.specs.declared.side.Side.{Side}
use Rattle.stream_ends.specs.declared.side.Side.TheVariants.{Reader, Writer}
use Rattle.stream_ends.specs.Ends.{is_copying}
use Rattle.channels.specs.declared.channel.Channel.{Channel}
use Rattle.channels.specs.Channels.{end_in}
use Rattle.instances.specs.declared.entry.EndEntry.{EndEntry}
use Rattle.instances.specs.declared.entry.WorldEntry.{WorldEntry}
use Rattle.instances.specs.declared.entry.WorldEntry.TheVariants as entry
use Rattle.instances.specs.Entries as entries
use Rattle.instances.specs.Instances.{InstanceView, entry_of}
use Rattle.trace_labels.specs.declared.trap.TrapName.TheVariants as trap
use Rattle.world_parts.specs.Views.{Views}
use Rattle.world_parts.specs.declared.parts.Flow.{Flow}
use Rattle.world_parts.specs.Held.{Held, Done, Gives, Traps, Spent, Stuck, after, given}
use Rattle.world_parts.specs.Feed.{got}
use Rattle.world_parts.specs.News.{copy_is_async}
use Rattle.world_parts.specs.Slots.{word_in}
use Rattle.world_parts.specs.Entries.{named, end_found, end_idled}
use Rattle.world_parts.specs.Channels.{place_of, at_place, channels, channel_at, idle_seen, concluded, kind_of_end}
use Rattle.world_parts.specs.Copies.{is_unwritten, dropped_end, drop_tested, end_drop, copy_given_up, copy_cancel}
use Rattle.world_parts.specs.Events.{end_told}
use Rattle.run_laws.specs.keeping.Still.{EndsKept}
use Rattle.run_laws.proofs.keeping.But.{HoldsSo, holds_given, holds_if}
use Rattle.run_laws.proofs.keeping.still.Still.{Kinds, no_kinds, StillBy, still_after, still_same}
use Rattle.run_laws.proofs.keeping.still.Channels.{concluded_still, idle_seen_still}
use Rattle.run_laws.proofs.keeping.still.Entries.{end_idled_bare}
use Rattle.run_laws.proofs.keeping.still.Copies as bare
use Rattle.run_laws.proofs.keeping.still.EndsKept.{alone, kind_is}
use Rattle.run_laws.proofs.keeping.still.Ends.{Known, dropped_so, told_so, end_told_so}

-- Memories and core instances by themselves, and ends by themselves.
pub joined : {A : Type 0} (W : Kinds) (h : Held) (d : Done A) → StillBy no_kinds h d → ((K : ℕ → EndKind) → W ≡ Some K → EndsKept K h → HoldsSo (λ (k : Held). EndsKept K k) d) → StillBy W h d
joined W h (Gives x k) p q = record { memories = p.memories; modules = p.modules; ends = q }
joined W h (Traps why k) p q = q
joined W h (Spent k) p q = tt
joined W h Stuck p q = tt

pub of_still : {A : Type 0} (K : ℕ → EndKind) (h : Held) (d : Done A) → StillBy (Some K) h d → EndsKept K h → HoldsSo (λ (k : Held). EndsKept K k) d
of_still K h (Gives x k) p kept = p.ends K refl kept
of_still K h (Traps why k) p kept = p K refl kept
of_still K h (Spent k) p kept = tt
of_still K h Stuck p kept = tt

-- The copy of an end that stands at an index is told.
abbrev pub StandsThere : Held → ℕ → ℕ → EndEntry → Type 0
StandsThere h at index e = (i : InstanceView) × (slice_get h.instances at ≡ Some i) × (entry_of i index ≡ Some (entry.End e))

end_told_bare : (at index : ℕ) (e : EndEntry) (h : Held) → StillBy no_kinds h (end_told at index e h)
unfolding end_told
end_told_bare at index e h =
    still_after no_kinds h (concluded (kind_of_end e h) e.side e.number h)
    (λ payload k. after (idle_seen (kind_of_end e h) e.side e.number k) (λ is_idle l. after (end_idled at index is_idle l) (λ done m. Gives payload m)))
    (concluded_still (kind_of_end e h) e.side e.number h)
    (λ payload k.
    still_after no_kinds k (idle_seen (kind_of_end e h) e.side e.number k) (λ is_idle l. after (end_idled at index is_idle l) (λ done m. Gives payload m))
    (idle_seen_still (kind_of_end e h) e.side e.number k)
    (λ is_idle l.
    still_after no_kinds l (end_idled at index is_idle l) (λ done m. Gives payload m) (end_idled_bare at index is_idle l) (λ done m. still_same no_kinds m)))

told_ends : (K : ℕ → EndKind) (at index : ℕ) (e : EndEntry) (h : Held) → StandsThere h at index e → EndsKept K h → HoldsSo (λ (k : Held). EndsKept K k) (end_told at index e h)
unfolding end_told
told_ends K at index e h (x, inst, there) kept =
    end_told_so K h at index (kind_of_end e h) x e kept (kind_is K h at index x e kept inst there) inst there (λ payload done m. Gives payload m) (λ payload k now. now)

pub end_told_still : (W : Kinds) (at index : ℕ) (e : EndEntry) (h : Held) → StandsThere h at index e → StillBy W h (end_told at index e h)
end_told_still W at index e h stands = joined W h (end_told at index e h) (end_told_bare at index e h) (λ K is kept. told_ends K at index e h stands kept)

-- An end is found, of a type that tells that it is of this kind.
same_sides : (a b : Side) → entries.same_side a b ≡ true → a ≡ b
same_sides Reader Reader h = refl
same_sides Reader Writer h = absurd (cc)
same_sides Writer Reader h = absurd (cc)
same_sides Writer Writer h = refl

record EndAt (side : Side) (type : ℕ) (o : Option WorldEntry) (e : EndEntry) : Type 0 where
  there : o ≡ Some (entry.End e)
  side_is : e.side ≡ side
  type_is : e.end_type ≡ type

ok_same : (x e : EndEntry) → ◌≡◌ {A = Result EndEntry Refusal} (Ok x) (Ok e) → x ≡ e
ok_same x e h = cc

end_by : (side : Side) (type : ℕ) (x e : EndEntry) (a c : Bool) → entries.same_side x.side side ≡ a → nat_eq x.end_type type ≡ c
    → (if a then (if c then Ok x else Err refusal.OtherType) else Err refusal.OtherKind) ≡ Ok e → EndAt side type (Some (entry.End x)) e
end_by side type x e false c p q h = absurd (cc)
end_by side type x e true false p q h = absurd (cc)
end_by side type x e true true p q h =
    let same : x ≡ e = ok_same x e h in
    record {
      there = ap (λ (y : EndEntry). Some (entry.End y)) same;
      side_is = ap (λ (y : EndEntry). y.side) (sym same) ∙ same_sides x.side side p;
      type_is = ap (λ (y : EndEntry). y.end_type) (sym same) ∙ eqb-true x.end_type type q;
    }

end_there : (side : Side) (type : ℕ) (o : Option WorldEntry) (e : EndEntry) → entries.end_in side type o ≡ Ok e → EndAt side type o e
end_there side type None e h = absurd (cc)
end_there side type (Some (entry.Handle x)) e h = absurd (cc)
end_there side type (Some (entry.Subtask callee)) e h = absurd (cc)
end_there side type (Some (entry.Set set)) e h = absurd (cc)
end_there side type (Some (entry.End x)) e h = end_by side type x e (entries.same_side x.side side) (nat_eq x.end_type type) refl refl h

module _ (K : ℕ → EndKind) (h : Held) (at : ℕ) (kind : EndKind) (side : Side) (type index : ℕ) (of : K type ≡ kind) (kept : EndsKept K h) (f : EndEntry → Channel → Held → Done Flow)
    (so : (x : InstanceView) (e : EndEntry) (place : ℕ) (c : Channel) → Known K h at index kind side x e place c → HoldsSo (λ (k : Held). EndsKept K k) (f e c h)) where
  abbrev Kept : Held → Type 0
  Kept k = EndsKept K k

  by_place : (x : InstanceView) (e : EndEntry) (c : Channel) (o : Option ℕ) → slice_get h.instances at ≡ Some x → EndAt side type (entry_of x index) e → place_of e.number ≡ o
      → at_place (channels kind h) o ≡ Some c → HoldsSo Kept (f e c h)
  by_place x e c None is end number found = absurd (cc)
  by_place x e c (Some place) is end number found =
      so x e place c
      (record {
        inst = is;
        there = end.there;
        side_is = end.side_is;
        number = number;
        found = found;
        alone = alone K h at index kind x e place c kept (ap K end.type_is ∙ of) is end.there number found;
      })

  by_end : (x : InstanceView) (r : Result EndEntry Refusal) → slice_get h.instances at ≡ Some x → entries.end_in side type (entry_of x index) ≡ r
      → HoldsSo Kept (after (named r h) (λ e k. given (channel_at kind e.number k) (λ c. f e c k)))
  by_end x (Err why) is found = kept
  by_end x (Ok e) is found =
      holds_given Kept (channel_at kind e.number h) (λ c. f e c h) (λ c there. by_place x e c (place_of e.number) is (end_there side type (entry_of x index) e found) refl there)

  pub found_so : HoldsSo Kept (after (end_found at side type index h) (λ e k. given (channel_at kind e.number k) (λ c. f e c k)))
  found_so = by_inst (slice_get h.instances at) refl
    where
      by_inst : (o : Option InstanceView) → slice_get h.instances at ≡ o
          → HoldsSo Kept (after (given o (λ i. named (entries.end_in side type (entry_of i index)) h)) (λ e k. given (channel_at kind e.number k) (λ c. f e c k)))
      by_inst None is = tt
      by_inst (Some x) is = by_end x (entries.end_in side type (entry_of x index)) is refl

-- An end is dropped.
drop_ends : (K : ℕ → EndKind) (t at : ℕ) (kind : EndKind) (side : Side) (type : ℕ) (words : List ℕ) (h : Held) → K type ≡ kind → EndsKept K h
    → HoldsSo (λ (k : Held). EndsKept K k) (end_drop t at kind side type words h)
unfolding end_drop
drop_ends K t at kind side type words h of kept =
    let Kept : Held → Type 0 = λ k. EndsKept K k in
    holds_given Kept (word_in words 0)
    (λ index. after (end_found at side type index h) (λ e k. given (channel_at kind e.number k) (λ c. drop_tested t at index kind side e.number (end_in side c.ends) k)))
    (λ index is.
    found_so K h at kind side type index of kept (λ e c k. drop_tested t at index kind side e.number (end_in side c.ends) k)
    (λ x e place c known.
    holds_if Kept (is_copying (end_in side c.ends)) (Traps trap.Busy h)
    (if is_unwritten kind side (end_in side c.ends).done then Traps trap.UnwrittenFuture h else dropped_end t at index kind side e.number h) kept
    (holds_if Kept (is_unwritten kind side (end_in side c.ends).done) (Traps trap.UnwrittenFuture h) (dropped_end t at index kind side e.number h) kept
    (dropped_so K h t at index kind side x e place c known kept))))

pub end_drop_still : (W : Kinds) (t at : ℕ) (kind : EndKind) (side : Side) (type : ℕ) (words : List ℕ) (h : Held) → ((K : ℕ → EndKind) → W ≡ Some K → K type ≡ kind)
    → StillBy W h (end_drop t at kind side type words h)
end_drop_still W t at kind side type words h of =
    joined W h (end_drop t at kind side type words h) (bare.end_drop_still t at kind side type words h) (λ K is kept. drop_ends K t at kind side type words h (of K is) kept)

-- The copy of a call that did not wait is told, or given up.
given_up_ends : (K : ℕ → EndKind) (t at index : ℕ) (kind : EndKind) (side : Side) (x : InstanceView) (e : EndEntry) (place : ℕ) (c : Channel) (h : Held) → Known K h at index kind side x e place c
    → EndsKept K h → HoldsSo (λ (k : Held). EndsKept K k) (copy_given_up t at index kind side e.number h)
unfolding copy_given_up
given_up_ends K t at index kind side x e place c h known kept =
    told_so K h at index kind side x e place c (λ payload done m. got t (payload ∷ []) m) known kept (λ payload k now. now)

cancel_ends : (K : ℕ → EndKind) (g : Views) (t at : ℕ) (kind : EndKind) (side : Side) (type : ℕ) (words : List ℕ) (h : Held) → K type ≡ kind → EndsKept K h
    → HoldsSo (λ (k : Held). EndsKept K k) (copy_cancel g t at kind side type words h)
unfolding copy_cancel
cancel_ends K g t at kind side type words h of kept =
    let Kept : Held → Type 0 = λ k. EndsKept K k in
    holds_given Kept (word_in words 0)
    (λ index. after (end_found at side type index h) (λ e k. given (channel_at kind e.number k) (λ c.
    if not (copy_is_async g (end_in side c.ends).copy) then Traps trap.NotCopying k else copy_given_up t at index kind side e.number k)))
    (λ index is.
    found_so K h at kind side type index of kept
    (λ e c k. if not (copy_is_async g (end_in side c.ends).copy) then Traps trap.NotCopying k else copy_given_up t at index kind side e.number k)
    (λ x e place c known.
    holds_if Kept (not (copy_is_async g (end_in side c.ends).copy)) (Traps trap.NotCopying h) (copy_given_up t at index kind side e.number h) kept
    (given_up_ends K t at index kind side x e place c h known kept)))

pub copy_cancel_still : (W : Kinds) (g : Views) (t at : ℕ) (kind : EndKind) (side : Side) (type : ℕ) (words : List ℕ) (h : Held) → ((K : ℕ → EndKind) → W ≡ Some K → K type ≡ kind)
    → StillBy W h (copy_cancel g t at kind side type words h)
copy_cancel_still W g t at kind side type words h of =
    joined W h (copy_cancel g t at kind side type words h) (bare.copy_cancel_still g t at kind side type words h) (λ K is kept. cancel_ends K g t at kind side type words h (of K is) kept)
