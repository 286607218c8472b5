-- A copy is counted at the end of a call and told: ends stay marked, where the other end has an offer that stands, and the end of the call stands alone.
use Rattle.std.proofs.Common.{◌≡◌, ◌∙◌, ℕ, Bool, true, false, not, ◌&&◌, is_none, is_some, if◌then◌else◌, List, [], ◌∷◌, ◌++◌, slice_set, refl, sym, ap, subst, Option, Some, None}
use Rattle.std.specs.List.{slice_get}
use Rattle.builtin_kinds.specs.declared.EndKind.{EndKind}
use Rattle.builtin_kinds.specs.declared.EndKind.TheVariants.{Stream, Future}
use Rattle.stream_ends.specs.declared.side.Side.{Side}
use Rattle.stream_ends.specs.declared.side.Side.TheVariants.{Reader, Writer}
use Rattle.stream_ends.specs.declared.open_copy.OpenCopy.{OpenCopy}
use Rattle.stream_ends.specs.declared.stream_end.End.{End}
use Rattle.stream_ends.specs.Ends.{EndsView, other_side, end_at, is_idle, standing_of, replaced, grown}
use Rattle.stream_ends.specs.Meeting.{changed, made_done, standing_side}
use Rattle.stream_ends.proofs.Meetings.{standing_is}
use Rattle.future_ends.specs.Meeting.{taken, copied_from}
use Rattle.channels.specs.declared.channel.Channel.{Channel}
use Rattle.channels.specs.declared.channel.Ends.{Ends}
use Rattle.channels.specs.declared.channel.Ends.TheVariants as ends
use Rattle.channels.specs.Channels as channel
use Rattle.channels.specs.Channels.{kind_of, end_in, is_due, with_ends}
use Rattle.copy_replies.specs.declared.moving.CopySide.{CopySide}
use Rattle.copy_replies.specs.Moves.{other_offer, moving_by, channel_named, completed_payload, completed}
use Rattle.instances.specs.declared.entry.EndEntry.{EndEntry}
use Rattle.instances.specs.declared.entry.WorldEntry.{WorldEntry}
use Rattle.instances.specs.declared.entry.WorldEntry.TheVariants as entry
use Rattle.instances.specs.Entries.{with_idle, any_end_in}
use Rattle.instances.specs.Instances as instance
use Rattle.instances.specs.Instances.{InstanceView, entry_of}
use Rattle.trace_labels.specs.declared.label.Copied.{Copied}
use Rattle.trace_labels.specs.declared.label.Label.{Label}
use Rattle.trace_labels.specs.declared.label.Label.TheVariants as line
use Rattle.world_parts.specs.declared.parts.Copying.{Copying}
use Rattle.world_parts.specs.declared.parts.Flow.{Flow}
use Rattle.world_parts.specs.Held.{Held, Done, Gives, Stuck, after, given}
use Rattle.world_parts.specs.Channels.{place_of, channels, channel_at, with_channel, idle_seen, copied_at, copied}
use Rattle.world_parts.specs.Entries.{with_instance, end_idled}
use Rattle.world_parts.specs.Feed.{told, got}
use Rattle.abi_machine.proofs.sound.Found.{some_same}
use Rattle.standing.specs.Channels.{of_kind, EndsMarked, HasMarkedEnds}
use Rattle.standing.specs.EndMarks.{streams_with, futures_with, OneEnd}
use Rattle.standing.proofs.EndSaid.{said_stays_marked}
use Rattle.run_laws.specs.keeping.Ends.{EndAlone}
use Rattle.run_laws.proofs.keeping.But.{HoldsSo}
use Rattle.run_laws.proofs.keeping.still.Ends.{there_now, same_instances}

-- An end with an offer that stands is not idle, and neither is it behind a copy.
replaced_by : (edit : OpenCopy → OpenCopy) (e : End) (o : Option OpenCopy) → standing_of e.copy ≡ o → is_idle (replaced edit o e) ≡ is_idle e
replaced_by edit e None is = refl
replaced_by edit e (Some copy) is =
    ap (λ (b : Bool). not e.dropped && not e.done && b) (sym (ap (λ (o : Option OpenCopy). is_none o) (standing_is e.copy copy is)))

grown_same : (count : ℕ) (e : End) → is_idle (grown count e) ≡ is_idle e
grown_same count e = replaced_by _ e (standing_of e.copy) refl

taken_same : (e : End) → is_idle (taken e) ≡ is_idle e
taken_same e = replaced_by _ e (standing_of e.copy) refl

never_idle : (a b : Bool) → (a && b && false) ≡ false
never_idle false b = refl
never_idle true false = refl
never_idle true true = refl

never_done : (a b : Bool) → (a && not true && b) ≡ false
never_done false b = refl
never_done true b = refl

busy : (e : End) (offer : OpenCopy) → standing_of e.copy ≡ Some offer → is_idle e ≡ false
busy e offer is =
    ap (λ (o : Option OpenCopy). not e.dropped && not e.done && is_none o) (standing_is e.copy offer is) ∙ never_idle (not e.dropped) (not e.done)

done_busy : (e : End) → is_idle (made_done e) ≡ false
done_busy e = never_done (not e.dropped) (is_none e.copy)

changed_same : (side at : Side) (count : ℕ) (view : EndsView) → is_idle (end_at at (changed side (grown count) view)) ≡ is_idle (end_at at view)
changed_same Reader Reader count view = grown_same count view.reader
changed_same Reader Writer count view = refl
changed_same Writer Reader count view = refl
changed_same Writer Writer count view = grown_same count view.writer

copied_busy : (side at : Side) (view : EndsView) (offer : OpenCopy) → standing_of (end_at at view).copy ≡ Some offer
    → is_idle (end_at at (copied_from side view)) ≡ false
copied_busy Reader Reader view offer is = taken_same view.reader ∙ busy view.reader offer is
copied_busy Reader Writer view offer is = done_busy view.writer
copied_busy Writer Reader view offer is = done_busy view.reader
copied_busy Writer Writer view offer is = taken_same view.writer ∙ busy view.writer offer is

copying_leaves_other : (count : ℕ) (at : Side) (e : Ends) (offer : OpenCopy) → standing_of (end_in at e).copy ≡ Some offer
    → is_idle (end_in at (channel.copied count e)) ≡ is_idle (end_in at e)
copying_leaves_other count at (ends.Stream p) offer is = changed_same (standing_side p.ends) at count p.ends
copying_leaves_other count at (ends.Future p) offer is = copied_busy (standing_side p.ends) at p.ends offer is ∙ sym (busy (end_at at p.ends) offer is)

copied_kind : (count : ℕ) (e : Ends) → kind_of (channel.copied count e) ≡ kind_of e
copied_kind count (ends.Stream p) = refl
copied_kind count (ends.Future p) = refl

-- What follows something that is looked up and known, and a test.
abbrev pub Marked : Held → Type 0
Marked k = HasMarkedEnds k

so_looked : {A B C : Type 0} (o : Option A) (x : A) (f : A → Done B) (c : B → Held → Done C) → o ≡ Some x → HoldsSo Marked (after (f x) c)
    → HoldsSo Marked (after (given o f) c)
so_looked None x f c is p = absurd (cc)
so_looked {A} (Some y) x f c is p = subst (λ (z : A). HoldsSo Marked (after (f z) c)) (sym (some_same is)) p

so_tested : {A B : Type 0} (b : Bool) (d : Done A) (c : A → Held → Done B) → HoldsSo Marked (after d c) → HoldsSo Marked (after (if b then d else Stuck) c)
so_tested true d c p = p
so_tested false d c p = tt

-- Streams or futures, behind a line.
abbrev with_line : Label → Held → Held
with_line label h = record h { labels = h.labels ++ label ∷ [] }

line_first : (kind : EndKind) (place : ℕ) (z : Channel) (label : Label) (h : Held)
    → with_line label (with_channel kind place z h) ≡ with_channel kind place z (with_line label h)
line_first Stream place z label h = refl
line_first Future place z label h = refl

put_marked : (kind : EndKind) (place : ℕ) (z : Channel) (at : ℕ) (i : InstanceView) (h : Held)
    → EndsMarked (slice_set h.instances at i) (streams_with kind place z h.streams) (futures_with kind place z h.futures)
    → Marked (with_instance at i (with_channel kind place z h))
put_marked Stream place z at i h marked = marked
put_marked Future place z at i h marked = marked

kind_channels : (kind : EndKind) (h : Held) (place : ℕ) (c : Channel) → slice_get (channels kind h) place ≡ Some c
    → slice_get (of_kind kind h.streams h.futures) place ≡ Some c
kind_channels Stream h place c is = is
kind_channels Future h place c is = is

line_channels : (kind : EndKind) (label : Label) (h : Held) (place : ℕ) (c : Channel) → slice_get (channels kind h) place ≡ Some c
    → slice_get (channels kind (with_line label h)) place ≡ Some c
line_channels Stream label h place c is = is
line_channels Future label h place c is = is

end_of : (f g : EndEntry) → entry.End f ≡ entry.End g → f ≡ g
end_of f g q = cc

-- Whether it is idle is said at its index.
idled_so : {A : Type 0} (at index : ℕ) (e : EndEntry) (x : InstanceView) (o : Option WorldEntry) (b : Bool) (k : Held) (c : Unit {0} → Held → Done A)
    → o ≡ Some (entry.End e)
    → HoldsSo Marked (c tt (with_instance at (instance.entry_changed index (entry.End (with_idle b e)) x) k))
    → HoldsSo Marked (after (if is_some (any_end_in o) then Gives (tt {0}) (with_instance at (instance.end_idled index b (any_end_in o) x) k) else Stuck) c)
idled_so at index e x None b k c is p = tt
idled_so at index e x (Some (entry.Handle y)) b k c is p = tt
idled_so at index e x (Some (entry.Subtask callee)) b k c is p = tt
idled_so at index e x (Some (entry.Set set)) b k c is p = tt
idled_so at index e x (Some (entry.End d)) b k c is p =
    subst (λ (f : EndEntry). HoldsSo Marked (c tt (with_instance at (instance.entry_changed index (entry.End (with_idle b f)) x) k)))
    (sym (end_of d e (some_same is))) p

-- An end that stands alone, and whose other end has an offer.
pub record Alone (h : Held) (at index : ℕ) (kind : EndKind) (x : InstanceView) (e : EndEntry) (place : ℕ) (c : Channel) : Type 0 where
  pub inst : slice_get h.instances at ≡ Some x
  pub there : entry_of x index ≡ Some (entry.End e)
  pub number : place_of e.number ≡ Some place
  pub found : slice_get (channels kind h) place ≡ Some c
  pub alone : EndAlone h at index kind e place c
  pub offer : OpenCopy
  pub meets : other_offer e.side c ≡ Some offer

module _ (h : Held) (at index : ℕ) (kind : EndKind) (x : InstanceView) (e : EndEntry) (place : ℕ) (c : Channel) (a : Alone h at index kind x e place c)
    (marked : HasMarkedEnds h) (count : ℕ) where
  abbrev z : Channel
  z = with_ends (channel.copied count c.ends) c

  one : OneEnd h.instances h.streams h.futures kind place c z at index x e
  one = record {
    channel = kind_channels kind h place c a.found;
    same_kind = copied_kind count c.ends;
    same_type = refl;
    inst = a.inst;
    there = a.there;
    number = a.number;
    typed = a.alone.typed;
    of = a.alone.of;
    other = copying_leaves_other count (other_side e.side) c.ends a.offer a.meets;
    once = a.alone.once;
  }

  -- The line comes between, of which marks say nothing.
  said_so : (label : Label) (task : ℕ) (words : List ℕ)
      → HoldsSo Marked (after (idle_seen kind e.side e.number (with_channel kind place z (with_line label h)))
      (λ is_idle n. after (end_idled at index is_idle n) (λ done o. got task words o)))
  said_so label task words =
      let l : Held = with_line label h in
      let k : Held = with_channel kind place z l in
      so_looked (channel_at kind e.number k) z (λ d. Gives (is_idle (end_in e.side d.ends)) k)
      (λ is_idle n. after (end_idled at index is_idle n) (λ done o. got task words o))
      (there_now (λ n. kind) kind l e.number place c z a.number (line_channels kind label h place c a.found))
      (so_looked (slice_get k.instances at) x
      (λ i. if is_some (any_end_in (entry_of i index)) then Gives tt (with_instance at (instance.idled index (is_idle (end_in e.side z.ends)) i) k) else Stuck)
      (λ done o. got task words o) (same_instances (λ n. kind) kind l place z at x a.inst)
      (idled_so at index e x (entry_of x index) (is_idle (end_in e.side z.ends)) k (λ done o. got task words o) a.there
      (put_marked kind place z at (instance.entry_changed index (entry.End (with_idle (is_idle (end_in e.side z.ends)) e)) x) l
      (said_stays_marked h.instances h.streams h.futures kind place c z at index x e one marked))))

  abbrev rest : (label : Label) (task : ℕ) (words : List ℕ) → Unit {0} → Held → Done Flow
  rest label task words done k =
      after (told label k) (λ done l. after (idle_seen kind e.side e.number l)
      (λ is_idle n. after (end_idled at index is_idle n) (λ done o. got task words o)))

  copied_so : (label : Label) (task : ℕ) (words : List ℕ) → HoldsSo Marked (after (copied kind e.number count h) (rest label task words))
  copied_so label task words =
      so_looked (place_of e.number) place (λ p. copied_at kind p count h) (rest label task words) a.number
      (so_looked (slice_get (channels kind h) place) c (λ d. if is_due count d.ends then Gives tt
      (with_channel kind place (with_ends (channel.copied count d.ends) d) h) else Stuck)
      (rest label task words) a.found
      (so_tested (is_due count c.ends) (Gives tt (with_channel kind place z h)) (rest label task words)
      (subst (λ (k : Held). HoldsSo Marked (after (idle_seen kind e.side e.number k)
      (λ is_idle n. after (end_idled at index is_idle n) (λ done o. got task words o))))
      (sym (line_first kind place z label h)) (said_so label task words))))

pub completed_so : (h : Held) (at : ℕ) (kind : EndKind) (x : InstanceView) (e : EndEntry) (place : ℕ) (c : Channel) (t : ℕ) (copying : Copying)
    (reader writer : CopySide) (what : Copied)
    → Alone h at copying.index kind x e place c → HasMarkedEnds h → HoldsSo Marked (completed (moving_by kind e t at copying reader writer) what h)
unfolding completed
completed_so h at kind x e place c t copying reader writer what a marked =
    copied_so h at copying.index kind x e place c a marked copying.count (line.Copy (channel_named kind e.number) what) t
    (completed_payload kind copying.count ∷ [])
