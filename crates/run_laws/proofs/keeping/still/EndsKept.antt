-- What is kept of ends stays where a stream or a future changes at one end, which is said at its index or leaves the table.
use Rattle.std.proofs.Common.{◌≡◌, ◌⊎◌, ◌∙◌, inl, inr, rules, ℕ, zero, suc, ◌-◌, nat_eq, Bool, true, false, if◌then◌else◌, List, slice_set, refl, sym, ap, subst, arith, Option, Some, None}
use Rattle.std.specs.List.{slice_get}
use Rattle.std.proofs.lemmas.Bool.{cases_eq, eqb-true, ne_eqb}
use Rattle.value_lift.proofs.Lends.{slot_either}
use Rattle.builtin_kinds.specs.declared.EndKind.{EndKind}
use Rattle.builtin_kinds.specs.declared.EndKind.TheVariants.{Stream, Future}
use Rattle.channels.specs.declared.channel.Channel.{Channel}
use Rattle.channels.specs.Channels.{kind_of}
use Rattle.instances.specs.declared.entry.EndEntry.{EndEntry}
use Rattle.instances.specs.declared.entry.WorldEntry.TheVariants as entry
use Rattle.instances.specs.Entries.{with_idle}
use Rattle.instances.specs.Instances as instance
use Rattle.instances.specs.Instances.{InstanceView, entry_of}
use Rattle.world_parts.specs.Held.{Held}
use Rattle.world_parts.specs.Channels.{place_of, at_place, numbered, channels, channel_at, is_of_type, kind_of_end}
use Rattle.abi_machine.proofs.sound.Found.{some_same}
use Rattle.standing.specs.Channels.{of_kind, EndMarked}
use Rattle.standing.specs.EndMarks.{streams_with, futures_with}
use Rattle.standing.proofs.Agreeing.{get_set}
use Rattle.standing.proofs.Steps.{other_get}
use Rattle.standing.proofs.marks.Tables.{put_same, put_other}
use Rattle.run_laws.specs.keeping.Ends.{EndAlone}
use Rattle.run_laws.specs.keeping.Still.{EndsOnce, AreOf, EndsKept}

-- Each end stood there, but for whether it is idle.
abbrev pub StoodAs : List InstanceView → List InstanceView → Type 0
StoodAs old new =
    (at index : ℕ) (i : InstanceView) (e : EndEntry) → slice_get new at ≡ Some i → entry_of i index ≡ Some (entry.End e)
    → (j : InstanceView) × (d : EndEntry) × (slice_get old at ≡ Some j) × (entry_of j index ≡ Some (entry.End d)) × (e.number ≡ d.number) × (e.end_type ≡ d.end_type) × (e.side ≡ d.side)

pub once_as : (old new : List InstanceView) → StoodAs old new → EndsOnce old → EndsOnce new
once_as old new stood once at index n m i j e d here is there has number type side =
    let a = stood at index i e here is in
    let b = stood n m j d there has in
    once at index n m a.0 b.0 a.1 b.1 a.2 a.3 b.2 b.3 (sym b.4 ∙ number ∙ a.4) (sym b.5 ∙ type ∙ a.5) (sym b.6 ∙ side ∙ a.6)

end_inj : (f g : EndEntry) → Some (entry.End f) ≡ Some (entry.End g) → f ≡ g
end_inj f g q = cc

pub idled_stood : (instances : List InstanceView) (at index : ℕ) (x : InstanceView) (e : EndEntry) (b : Bool) → slice_get instances at ≡ Some x → entry_of x index ≡ Some (entry.End e)
    → StoodAs instances (slice_set instances at (instance.entry_changed index (entry.End (with_idle b e)) x))
idled_stood instances at index x e b is stood n m i d here has = by_place (cases_eq n at)
  where
    now : InstanceView
    now = instance.entry_changed index (entry.End (with_idle b e)) x

    Was : Type 0
    Was = (j : InstanceView) × (c : EndEntry) × (slice_get instances n ≡ Some j) × (entry_of j m ≡ Some (entry.End c)) × (d.number ≡ c.number) × (d.end_type ≡ c.end_type) × (d.side ≡ c.side)

    by_place : (n ≡ at) ⊎ (n ≡ at → ⊥) → Was
    by_place (inr other) = (i, d, put_other instances at n now i here other, has, refl, refl, refl)
    by_place (inl same) =
        let there : slice_get instances n ≡ Some x = ap (λ (k : ℕ). slice_get instances k) same ∙ is in
        let stands : entry_of now m ≡ Some (entry.End d) = ap (λ (j : InstanceView). entry_of j m) (sym (put_same instances at n x now i is here same)) ∙ has in
        elim (slot_either x.slots.entries index m (Some (entry.End (with_idle b e)))) [
          | inl old ↦ (x, d, there, sym old ∙ stands, refl, refl, refl)
          | inr new ↦ by_end (end_inj (with_idle b e) d (sym new.1 ∙ stands)) there (ap (λ (k : ℕ). entry_of x k) new.0 ∙ stood)
        ]
      where
        by_end : with_idle b e ≡ d → slice_get instances n ≡ Some x → entry_of x m ≡ Some (entry.End e) → Was
        by_end is there at_m = (x, e, there, at_m, ap (λ (f : EndEntry). f.number) (sym is), ap (λ (f : EndEntry). f.end_type) (sym is), ap (λ (f : EndEntry). f.side) (sym is))

-- The types of streams and of futures tell them, where one is another one of its type.
of_changed : (K : ℕ → EndKind) (kind : EndKind) (all : List Channel) (place : ℕ) (c z : Channel) → slice_get all place ≡ Some c → z.end_type ≡ c.end_type → AreOf K kind all
    → AreOf K kind (slice_set all place z)
of_changed K kind all place c z is type are n d there =
    elim (cases_eq n place) [
      | inl same ↦
          let one : d ≡ z = some_same (sym there ∙ ap (λ (k : ℕ). slice_get (slice_set all place z) k) same ∙ get_set all place c z is) in
          ap (λ (x : Channel). K x.end_type) one ∙ ap K type ∙ are place c is
      | inr other ↦ are n d (sym (other_get all place n z other) ∙ there)
    ]

pub are_streams_with : (K : ℕ → EndKind) (kind : EndKind) (place : ℕ) (c z : Channel) (streams futures : List Channel) → slice_get (of_kind kind streams futures) place ≡ Some c
    → z.end_type ≡ c.end_type → AreOf K Stream streams → AreOf K Stream (streams_with kind place z streams)
are_streams_with K Stream place c z streams futures is type are = of_changed K Stream streams place c z is type are
are_streams_with K Future place c z streams futures is type are = are

pub are_futures_with : (K : ℕ → EndKind) (kind : EndKind) (place : ℕ) (c z : Channel) (streams futures : List Channel) → slice_get (of_kind kind streams futures) place ≡ Some c
    → z.end_type ≡ c.end_type → AreOf K Future futures → AreOf K Future (futures_with kind place z futures)
are_futures_with K Stream place c z streams futures is type are = are
are_futures_with K Future place c z streams futures is type are = of_changed K Future futures place c z is type are

-- An end that stands is of the stream or the future that its type tells, and stands nowhere else.
place_suc : (n : ℕ) → place_of (suc n) ≡ Some n
place_suc n =
    ap (λ (b : Bool). if b then None else Some (suc n - 1)) (ne_eqb (suc n) 0 (λ (e : suc n ≡ 0). omega (arith, e))) ∙ ap (λ (k : ℕ). Some k) (let less : suc n - 1 ≡ n = omega arith in less)

place_alone : (a b place : ℕ) → place_of a ≡ Some place → place_of b ≡ Some place → a ≡ b
place_alone zero b place p q = absurd (cc)
place_alone (suc a) zero place p q = absurd (cc)
place_alone (suc a) (suc b) place p q = ap suc (some_same (sym (place_suc a) ∙ p) ∙ sym (some_same (sym (place_suc b) ∙ q)))

at_number : (all : List Channel) (number place : ℕ) (c : Channel) → place_of number ≡ Some place → numbered all number ≡ Some c → slice_get all place ≡ Some c
at_number all number place c at is = sym (ap (λ (o : Option ℕ). at_place all o) at) ∙ is

channel_is : (K : ℕ → EndKind) (streams futures : List Channel) (kind : EndKind) (number : ℕ) (c : Channel) (o : Option ℕ) → place_of number ≡ o → AreOf K Stream streams → AreOf K Future futures
    → at_place (of_kind kind streams futures) o ≡ Some c → K c.end_type ≡ kind
channel_is K streams futures kind number c None at are_streams are_futures there = absurd (cc)
channel_is K streams futures Stream number c (Some place) at are_streams are_futures there = are_streams place c there
channel_is K streams futures Future number c (Some place) at are_streams are_futures there = are_futures place c there

pub marked_kind : (K : ℕ → EndKind) (h : Held) (e : EndEntry) (m : EndMarked h.streams h.futures e) → EndsKept K h → K e.end_type ≡ m.kind
marked_kind K h e m kept = ap K m.typed ∙ channel_is K h.streams h.futures m.kind e.number m.channel (place_of e.number) refl kept.are_streams kept.are_futures m.there

kind_channels : (kind : EndKind) (h : Held) (place : ℕ) (c : Channel) → slice_get (channels kind h) place ≡ Some c → slice_get (of_kind kind h.streams h.futures) place ≡ Some c
kind_channels Stream h place c is = is
kind_channels Future h place c is = is

pub alone : (K : ℕ → EndKind) (h : Held) (at index : ℕ) (kind : EndKind) (x : InstanceView) (e : EndEntry) (place : ℕ) (c : Channel) → EndsKept K h → K e.end_type ≡ kind
    → slice_get h.instances at ≡ Some x → entry_of x index ≡ Some (entry.End e) → place_of e.number ≡ Some place → slice_get (channels kind h) place ≡ Some c → EndAlone h at index kind e place c
alone K h at index kind x e place c kept type inst there number found =
    let m : EndMarked h.streams h.futures e = kept.marked at index x e inst there in
    let same : m.kind ≡ kind = sym (marked_kind K h e m kept) ∙ type in
    let stands : slice_get (of_kind kind h.streams h.futures) place ≡ Some m.channel =
    subst (λ (k : EndKind). slice_get (of_kind k h.streams h.futures) place ≡ Some m.channel) same (at_number (of_kind m.kind h.streams h.futures) e.number place m.channel number m.there) in
    let one : m.channel ≡ c = some_same (sym stands ∙ kind_channels kind h place c found) in
    let typed : e.end_type ≡ c.end_type = m.typed ∙ ap (λ (d : Channel). d.end_type) one in
    record {
      typed = typed;
      of = ap (λ (d : Channel). kind_of d.ends) (sym one) ∙ m.of ∙ same;
      once = λ other_at other_index i d here stood at_place of_type side.
          kept.once at index other_at other_index x i e d inst there here stood (place_alone d.number e.number place at_place number) (of_type ∙ sym typed) side;
    }

-- By its type it is known of which it is.
of_type : (K : ℕ → EndKind) (type : ℕ) (o : Option Channel) (b : Bool) → ((c : Channel) → o ≡ Some c → K c.end_type ≡ Stream) → is_of_type type o ≡ b → b ≡ true → K type ≡ Stream
of_type K type None b are is holds = absurd (cc)
of_type K type (Some c) b are is holds = ap K (sym (eqb-true c.end_type type (is ∙ holds))) ∙ are c refl

stream_there : (K : ℕ → EndKind) (h : Held) (number : ℕ) (c : Channel) → EndsKept K h → channel_at Stream number h ≡ Some c → K c.end_type ≡ Stream
stream_there K h number c kept is = channel_is K h.streams h.futures Stream number c (place_of number) refl kept.are_streams kept.are_futures is

by_test : (K : ℕ → EndKind) (h : Held) (e : EndEntry) (m : EndMarked h.streams h.futures e) (kind : EndKind) (b : Bool) → EndsKept K h → m.kind ≡ kind
    → is_of_type e.end_type (channel_at Stream e.number h) ≡ b → (let k : EndKind = if b then Stream else Future in k) ≡ kind
by_test K h e m Stream true kept same is = refl
by_test K h e m Future false kept same is = refl
by_test K h e m Stream false kept same is =
    let there : channel_at Stream e.number h ≡ Some m.channel = subst (λ (k : EndKind). numbered (of_kind k h.streams h.futures) e.number ≡ Some m.channel) same m.there in
    let holds : is_of_type e.end_type (channel_at Stream e.number h) ≡ true = ap (λ (o : Option Channel). is_of_type e.end_type o) there ∙ eq_true m.channel.end_type e.end_type (sym m.typed) in
    absurd (both (sym is ∙ holds))
  where
    both : false ≡ true → ⊥
    both q = cc

    eq_true : (a b : ℕ) → a ≡ b → nat_eq a b ≡ true
    eq_true a b q = search rules
by_test K h e m Future true kept same is =
    let stream : K e.end_type ≡ Stream = of_type K e.end_type (channel_at Stream e.number h) true (λ c found. stream_there K h e.number c kept found) is refl in
    absurd (both (sym stream ∙ marked_kind K h e m kept ∙ same))
  where
    both : Stream ≡ Future → ⊥
    both q = cc

pub kind_is : (K : ℕ → EndKind) (h : Held) (at index : ℕ) (x : InstanceView) (e : EndEntry) → EndsKept K h → slice_get h.instances at ≡ Some x → entry_of x index ≡ Some (entry.End e)
    → K e.end_type ≡ kind_of_end e h
kind_is K h at index x e kept inst there =
    let m : EndMarked h.streams h.futures e = kept.marked at index x e inst there in
    marked_kind K h e m kept ∙ sym (by_test K h e m m.kind (is_of_type e.end_type (channel_at Stream e.number h)) kept refl refl)
