-- A stream or a future that is made, with both its ends, keeps memories, core instances and ends.
use Rattle.std.proofs.Common.{◌≡◌, ◌⊎◌, ◌∙◌, inl, inr, ℕ, zero, suc, ◌+◌, ◌-◌, nat_lt, Bool, true, false, if◌then◌else◌, List, [], ◌∷◌, ◌++◌, length, slice_set, refl, sym, ap, subst, arith, Option, Some, None}
use Rattle.std.specs.List.{slice_get}
use Rattle.std.proofs.lemmas.Bool.{cases_eq, ne_eqb}
use Rattle.handle_table.specs.History.{most_live}
use Rattle.handle_table.specs.Slots.{count, next_of}
use Rattle.builtin_kinds.specs.declared.EndKind.{EndKind}
use Rattle.builtin_kinds.specs.declared.EndKind.TheVariants.{Stream, Future}
use Rattle.stream_ends.specs.declared.side.Side.{Side}
use Rattle.stream_ends.specs.declared.side.Side.TheVariants.{Reader, Writer}
use Rattle.stream_ends.specs.Ends.{is_idle}
use Rattle.channels.specs.declared.channel.Channel.{Channel}
use Rattle.channels.specs.Channels.{new_ends, kind_of, end_in}
use Rattle.instances.specs.declared.entry.EndEntry.{EndEntry}
use Rattle.instances.specs.declared.entry.WorldEntry.TheVariants as entry
use Rattle.instances.specs.Instances as instance
use Rattle.instances.specs.Instances.{InstanceView, entry_of}
use Rattle.trace_labels.specs.declared.trap.TrapName.TheVariants as trap
use Rattle.world_parts.specs.Held.{Held, Done, Gives, Traps, after, given}
use Rattle.world_parts.specs.Feed.{got}
use Rattle.world_parts.specs.Entries.{with_instance, entry_added}
use Rattle.world_parts.specs.Channels.{place_of, at_place, numbered, channels, with_channels}
use Rattle.world_parts.specs.Copies.{both_indices, new_end, channel_new}
use Rattle.abi_machine.proofs.sound.Found.{some_same}
use Rattle.standing.specs.Channels.{of_kind, EndMarked}
use Rattle.standing.proofs.EndMarks.{added_stay_marked, streams_stay_marked, futures_stay_marked}
use Rattle.standing.proofs.marks.Tables.{filled_either, put_same, put_other}
use Rattle.run_laws.specs.keeping.Still.{AreOf, EndsKept}
use Rattle.run_laws.proofs.keeping.But.{HoldsSo}
use Rattle.run_laws.proofs.keeping.still.Still.{Kinds, StillBy, still_instance}
use Rattle.run_laws.proofs.keeping.still.Copies as bare
use Rattle.run_laws.proofs.keeping.still.EndsKept.{marked_kind}
use Rattle.run_laws.proofs.keeping.still.EndParts.{joined}

-- A stream or a future is made, and its ends come to the table, where none of them stands.
abbrev Absent : ℕ → ℕ → Side → Held → Type 0
Absent type number side h =
    (at index : ℕ) (i : InstanceView) (d : EndEntry) → slice_get h.instances at ≡ Some i → entry_of i index ≡ Some (entry.End d) → d.number ≡ number → d.end_type ≡ type → d.side ≡ side → ⊥

abbrev made : EndKind → ℕ → Channel
made kind type = record { end_type = type; ends = new_ends kind }

abbrev made_held : EndKind → ℕ → Held → Held
made_held kind type h = with_channels kind (channels kind h ++ made kind type ∷ []) h

last_there : {A : Type 0} (xs : List A) (x : A) → slice_get (xs ++ x ∷ []) (length xs) ≡ Some x
last_there [] x = refl
last_there (y ∷ xs) x = last_there xs x

place_last : (n : ℕ) → place_of (n + 1) ≡ Some n
place_last n =
    ap (λ (b : Bool). if b then None else Some (n + 1 - 1)) (ne_eqb (n + 1) 0 (λ e. omega (arith, e))) ∙ ap (λ (k : ℕ). Some k) (let same : n + 1 - 1 ≡ n = omega arith in same)

numbered_last : {A : Type 0} (xs : List A) (x : A) → numbered (xs ++ x ∷ []) (length xs + 1) ≡ Some x
numbered_last {A} xs x = ap (λ (o : Option ℕ). at_place (xs ++ x ∷ []) o) (place_last (length xs)) ∙ last_there xs x

past_last : {A : Type 0} (xs : List A) (x : A) → slice_get xs (length xs) ≡ Some x → ⊥
past_last [] x is = cc
past_last (y ∷ xs) x is = past_last xs x is

more_there : {A : Type 0} (xs : List A) (x y : A) (n : ℕ) → slice_get (xs ++ x ∷ []) n ≡ Some y → (x ≡ y) ⊎ (slice_get xs n ≡ Some y)
more_there [] x y zero is = inl (some_same is)
more_there [] x y (suc n) is = absurd (cc)
more_there (z ∷ xs) x y zero is = inr is
more_there (z ∷ xs) x y (suc n) is = more_there xs x y n is

of_made : (K : ℕ → EndKind) (kind : EndKind) (type : ℕ) (all : List Channel) (c : Channel) → c.end_type ≡ type → K type ≡ kind → AreOf K kind all → AreOf K kind (all ++ c ∷ [])
of_made K kind type all c typed of are place d there =
    elim (more_there all c d place there) [
      | inl same ↦ ap (λ (x : Channel). K x.end_type) (sym same) ∙ ap K typed ∙ of
      | inr old ↦ are place d old
    ]

new_is_idle : (kind : EndKind) (side : Side) → true ≡ is_idle (end_in side (new_ends kind))
new_is_idle Stream Reader = refl
new_is_idle Stream Writer = refl
new_is_idle Future Reader = refl
new_is_idle Future Writer = refl

new_of : (kind : EndKind) → kind_of (new_ends kind) ≡ kind
new_of Stream = refl
new_of Future = refl

module _ (K : ℕ → EndKind) where
  made_ends : (kind : EndKind) (type : ℕ) (h : Held) → K type ≡ kind → EndsKept K h → EndsKept K (made_held kind type h)
  made_ends Stream type h of kept = record {
    marked = streams_stay_marked h.instances h.streams h.futures (made Stream type) kept.marked;
    once = kept.once;
    are_streams = of_made K Stream type h.streams (made Stream type) refl of kept.are_streams;
    are_futures = kept.are_futures;
  }
  made_ends Future type h of kept = record {
    marked = futures_stay_marked h.instances h.streams h.futures (made Future type) kept.marked;
    once = kept.once;
    are_streams = kept.are_streams;
    are_futures = of_made K Future type h.futures (made Future type) refl of kept.are_futures;
  }

  made_there : (kind : EndKind) (type : ℕ) (h : Held)
      → numbered (of_kind kind (made_held kind type h).streams (made_held kind type h).futures) (length (channels kind h) + 1) ≡ Some (made kind type)
  made_there Stream type h = numbered_last h.streams (made Stream type)
  made_there Future type h = numbered_last h.futures (made Future type)

  new_marked : (kind : EndKind) (side : Side) (type : ℕ) (h : Held)
      → EndMarked (made_held kind type h).streams (made_held kind type h).futures (record { side = side; end_type = type; number = length (channels kind h) + 1; is_idle = true })
  new_marked kind side type h = record {
    kind = kind;
    channel = made kind type;
    there = made_there kind type h;
    of = new_of kind;
    typed = refl;
    idle = new_is_idle kind side;
  }

  -- In what was there before neither of both ends stands.
  at_last : (kind : EndKind) (h : Held) (number : ℕ) (c : Channel) → number ≡ length (channels kind h) + 1 → numbered (of_kind kind h.streams h.futures) number ≡ Some c → ⊥
  at_last Stream h number c is there = past_last h.streams c (sym (ap (λ (o : Option ℕ). at_place h.streams o) (ap place_of is ∙ place_last (length h.streams))) ∙ there)
  at_last Future h number c is there = past_last h.futures c (sym (ap (λ (o : Option ℕ). at_place h.futures o) (ap place_of is ∙ place_last (length h.futures))) ∙ there)

  absent_first : (kind : EndKind) (type : ℕ) (side : Side) (h : Held) → K type ≡ kind → EndsKept K h → Absent type (length (channels kind h) + 1) side h
  absent_first kind type side h of kept at index i d here is number typed sided =
      let m : EndMarked h.streams h.futures d = kept.marked at index i d here is in
      let same : m.kind ≡ kind = sym (marked_kind K h d m kept) ∙ ap K typed ∙ of in
      at_last kind h d.number m.channel number (subst (λ (k : EndKind). numbered (of_kind k h.streams h.futures) d.number ≡ Some m.channel) same m.there)

  made_absent : (kind : EndKind) (type number : ℕ) (side : Side) (h : Held) → Absent type number side h → Absent type number side (made_held kind type h)
  made_absent Stream type number side h none = none
  made_absent Future type number side h none = none

  -- An end comes to a table.
  record CameAt (instances : List InstanceView) (at : ℕ) (x : InstanceView) (e : EndEntry) (n m : ℕ) (d : EndEntry) : Type 0 where
    place : (n ≡ at) × (m ≡ next_of x.slots)
    is : e ≡ d

  came_or_stood : (instances : List InstanceView) (at : ℕ) (x : InstanceView) (e : EndEntry) (n m : ℕ) (i : InstanceView) (d : EndEntry) → slice_get instances at ≡ Some x
      → slice_get (slice_set instances at (instance.entry_added (entry.End e) x)) n ≡ Some i → entry_of i m ≡ Some (entry.End d)
      → CameAt instances at x e n m d ⊎ ((j : InstanceView) × (slice_get instances n ≡ Some j) × (entry_of j m ≡ Some (entry.End d)))
  came_or_stood instances at x e n m i d is here has =
      elim (cases_eq n at) [
        | inr other ↦ inr (i, put_other instances at n (instance.entry_added (entry.End e) x) i here other, has)
        | inl same ↦
            let now : entry_of (instance.entry_added (entry.End e) x) m ≡ Some (entry.End d) =
            ap (λ (j : InstanceView). entry_of j m) (sym (put_same instances at n x (instance.entry_added (entry.End e) x) i is here same)) ∙ has in
            elim (filled_either x.slots.entries x.slots.freed (entry.End e) m) [
              | inl old ↦ inr (x, ap (λ (k : ℕ). slice_get instances k) same ∙ is, sym old ∙ now)
              | inr new ↦ inl (record { place = (same, new.0); is = end_inj e d (sym new.1 ∙ now) })
            ]
      ]
    where
      end_inj : (f g : EndEntry) → Some (entry.End f) ≡ Some (entry.End g) → f ≡ g
      end_inj f g q = cc

  comes : (h : Held) (at : ℕ) (x : InstanceView) (e : EndEntry) → slice_get h.instances at ≡ Some x → EndMarked h.streams h.futures e → Absent e.end_type e.number e.side h → EndsKept K h
      → EndsKept K (with_instance at (instance.entry_added (entry.End e) x) h)
  comes h at x e is marked none kept = record {
    marked = added_stay_marked h.instances h.streams h.futures at x (entry.End e) is marked kept.marked;
    once = λ a index n m i j f d here is_f there is_d number type side.
        by a index n m f d (came_or_stood h.instances at x e a index i f is here is_f) (came_or_stood h.instances at x e n m j d is there is_d) number type side;
    are_streams = kept.are_streams;
    are_futures = kept.are_futures;
  }
    where
      by : (a index n m : ℕ) (f d : EndEntry)
          → (CameAt h.instances at x e a index f ⊎ ((j : InstanceView) × (slice_get h.instances a ≡ Some j) × (entry_of j index ≡ Some (entry.End f))))
          → (CameAt h.instances at x e n m d ⊎ ((j : InstanceView) × (slice_get h.instances n ≡ Some j) × (entry_of j m ≡ Some (entry.End d)))) → d.number ≡ f.number → d.end_type ≡ f.end_type → d.side ≡ f.side → (a ≡ n) × (index ≡ m)
      by a index n m f d (inl p) (inl q) number type side = (p.place.0 ∙ sym q.place.0, p.place.1 ∙ sym q.place.1)
      by a index n m f d (inl p) (inr q) number type side =
          absurd (none n m q.0 d q.1 q.2 (number ∙ ap (λ (g : EndEntry). g.number) (sym p.is)) (type ∙ ap (λ (g : EndEntry). g.end_type) (sym p.is)) (side ∙ ap (λ (g : EndEntry). g.side) (sym p.is)))
      by a index n m f d (inr p) (inl q) number type side =
          absurd (none a index p.0 f p.1 p.2 (sym number ∙ ap (λ (g : EndEntry). g.number) (sym q.is)) (sym type ∙ ap (λ (g : EndEntry). g.end_type) (sym q.is))
          (sym side ∙ ap (λ (g : EndEntry). g.side) (sym q.is)))
      by a index n m f d (inr p) (inr q) number type side = kept.once a index n m p.0 q.0 f d p.1 p.2 q.1 q.2 number type side

  -- Both come, the readable one first.
  other_absent : (l : Held) (at : ℕ) (x : InstanceView) (e : EndEntry) (side : Side) → slice_get l.instances at ≡ Some x → (e.side ≡ side → ⊥) → Absent e.end_type e.number side l
      → Absent e.end_type e.number side (with_instance at (instance.entry_added (entry.End e) x) l)
  other_absent l at x e side is apart none n m i d here has number type sided =
      by (came_or_stood l.instances at x e n m i d is here has)
    where
      by : (CameAt l.instances at x e n m d ⊎ ((j : InstanceView) × (slice_get l.instances n ≡ Some j) × (entry_of j m ≡ Some (entry.End d)))) → ⊥
      by (inl came) = apart (ap (λ (g : EndEntry). g.side) came.is ∙ sided)
      by (inr stood) = none n m stood.0 d stood.1 stood.2 number type sided

  sides_apart : Reader ≡ Writer → ⊥
  sides_apart q = cc

  put_ends : (l : Held) (at : ℕ) (x : InstanceView) → slice_get l.instances at ≡ Some x → EndsKept K l → EndsKept K (with_instance at x l)
  put_ends l at x is kept = (still_instance (Some K) l at x x is refl).ends K refl kept

  added_so : {A : Type 0} (Q : Held → Type 0) (at : ℕ) (e : EndEntry) (l : Held) (c : ℕ → Held → Done A)
      → ((x : InstanceView) → slice_get l.instances at ≡ Some x → Q (with_instance at x l))
      → ((x : InstanceView) → slice_get l.instances at ≡ Some x → HoldsSo Q (c (next_of x.slots) (with_instance at (instance.entry_added (entry.End e) x) l)))
      → HoldsSo Q (after (entry_added at (entry.End e) l) c)
  added_so {A} Q at e l c q p = by_inst (slice_get l.instances at) refl
    where
      by_room : (x : InstanceView) (b : Bool) → slice_get l.instances at ≡ Some x
          → HoldsSo Q (after (if b then Gives (next_of x.slots) (with_instance at (instance.entry_added (entry.End e) x) l) else Traps trap.TableFull (with_instance at x l)) c)
      by_room x true is = p x is
      by_room x false is = q x is

      by_inst : (o : Option InstanceView) → slice_get l.instances at ≡ o
          → HoldsSo Q (after (given o (λ i. if nat_lt (count i.slots) most_live then Gives (next_of i.slots) (with_instance at (instance.entry_added (entry.End e) i) l)
          else Traps trap.TableFull (with_instance at i l))) c)
      by_inst None is = tt
      by_inst (Some x) is = by_room x (nat_lt (count x.slots) most_live) is

  new_ends_so : (t at : ℕ) (kind : EndKind) (type : ℕ) (h : Held) → K type ≡ kind → EndsKept K h → HoldsSo (λ (k : Held). EndsKept K k) (channel_new t at kind type h)
  unfolding channel_new
  new_ends_so t at kind type h of kept =
      let Kept : Held → Type 0 = λ k. EndsKept K k in
      let k : Held = made_held kind type h in
      let number : ℕ = length (channels kind h) + 1 in
      let readable : EndEntry = record { side = Reader; end_type = type; number = number; is_idle = true } in
      let writable : EndEntry = record { side = Writer; end_type = type; number = number; is_idle = true } in
      let start : EndsKept K k = made_ends kind type h of kept in
      added_so Kept at readable k (λ first l. after (entry_added at (new_end Writer type number) l) (λ second m. got t (both_indices first second ∷ []) m)) (λ x is. put_ends k at x is start)
      (λ x is.
      let l : Held = with_instance at (instance.entry_added (entry.End readable) x) k in
      let one : EndsKept K l = comes k at x readable is (new_marked kind Reader type h) (made_absent kind type number Reader h (absent_first kind type Reader h of kept)) start in
      added_so Kept at writable l (λ second m. got t (both_indices (next_of x.slots) second ∷ []) m) (λ y is_y. put_ends l at y is_y one)
      (λ y is_y.
      comes l at y writable is_y (new_marked kind Writer type h)
      (other_absent k at x readable Writer is sides_apart (made_absent kind type number Writer h (absent_first kind type Writer h of kept))) one))

pub channel_new_still : (W : Kinds) (t at : ℕ) (kind : EndKind) (type : ℕ) (h : Held) → ((K : ℕ → EndKind) → W ≡ Some K → K type ≡ kind) → StillBy W h (channel_new t at kind type h)
channel_new_still W t at kind type h of =
    joined W h (channel_new t at kind type h) (bare.channel_new_still t at kind type h) (λ K is kept. new_ends_so K t at kind type h (of K is) kept)
