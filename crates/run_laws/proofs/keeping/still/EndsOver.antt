-- Elements that go over keep ends marked: those that leave a table come to another one, readable and idle, and the end of the call stays alone at its
-- index, since its elements hold no end of its own type.
use Rattle.std.proofs.Common.{◌≡◌, ◌∙◌, ◌≤◌, ◌+◌, ℕ, suc, Bool, true, false, List, [], ◌∷◌, map, refl, sym, ap, subst, arith, Option, Some, None}
use Rattle.std.specs.List.{slice_get}
use Rattle.std.specs.Option.{option_map}
use Rattle.syntax_trees.specs.declared.types.ValType.{ValType}
use Rattle.syntax_trees.specs.declared.value.Value.{Value}
use Rattle.laid_types.specs.Depth.{depth}
use Rattle.laid_types.specs.Handles.{has_borrow}
use Rattle.laid_types.specs.Known.{Numbered}
use Rattle.laid_types.specs.SameTypes.{AreDistinct}
use Rattle.builtin_kinds.specs.declared.EndKind.{EndKind}
use Rattle.builtin_kinds.specs.declared.EndKind.TheVariants.{Stream, Future}
use Rattle.stream_ends.specs.declared.side.Side.TheVariants.{Reader}
use Rattle.stream_ends.specs.declared.open_copy.By.TheVariants as by
use Rattle.stream_ends.specs.declared.open_copy.OpenCopy.{OpenCopy}
use Rattle.stream_ends.specs.Ends.{new_copy}
use Rattle.channels.specs.declared.channel.Channel.{Channel}
use Rattle.comp_graph.specs.declared.graph.CanonFunc.{CanonFunc}
use Rattle.comp_graph.specs.Graph.{Graph, ends_type}
use Rattle.comp_graph.specs.Passed.{MayBeAt}
use Rattle.copy_engine.specs.Copying.{all_fit}
use Rattle.copy_engine.specs.Hosted.{plan_all}
use Rattle.graph_views.specs.Canons.{canon_at, instance_of}
use Rattle.copy_replies.specs.declared.moving.Moving.{Moving}
use Rattle.copy_replies.specs.declared.moving.CopySide.{CopySide}
use Rattle.copy_replies.specs.Moves.{element_at, next_place, side_by, side_found, read_of, write_of, moving_by, sides_found, other_offer, moving_in, moving, completed}
use Rattle.trace_labels.specs.declared.label.Copied.{Copied}
use Rattle.trace_labels.specs.declared.label.Copied.TheVariants.{Units}
use Rattle.instances.specs.declared.entry.EndEntry.{EndEntry}
use Rattle.instances.specs.declared.entry.WorldEntry.{WorldEntry}
use Rattle.instances.specs.declared.entry.WorldEntry.TheVariants as entry
use Rattle.instances.specs.Entries.{any_end_in}
use Rattle.instances.specs.Instances.{InstanceView, entry_of}
use Rattle.programs.specs.declared.program.Program.{Program}
use Rattle.programs.specs.Program.{value_of}
use Rattle.world_parts.specs.declared.parts.Copying.{Copying}
use Rattle.world_parts.specs.declared.parts.Flow.{Flow}
use Rattle.world_parts.specs.Held.{Held, Done, Gives, Traps, Spent, Stuck, after, given}
use Rattle.world_parts.specs.Channels.{place_of, at_place, channels, channel_of, kind_of_end}
use Rattle.value_parts.specs.Coming.{Behind}
use Rattle.value_parts.specs.Lifting.{elements_lifted}
use Rattle.value_moves.specs.declared.lowering.Destination.{Destination}
use Rattle.value_moves.specs.Lowering.{LowersAt, LowersAll}
use Rattle.value_moves.specs.Transferring.{origin_of, reader_of, copied_values, Reads, MovesElements, MovesOver, Transfers}
use Rattle.abi_machine.proofs.sound.Found.{some_same}
use Rattle.standing.specs.Channels.{EndMarked}
use Rattle.run_laws.specs.Transfers.{HasEndOf}
use Rattle.run_laws.specs.keeping.Ends.{EndAlone}
use Rattle.run_laws.specs.keeping.Lowerings.{EndComes, HoldsNoBorrow}
use Rattle.run_laws.specs.keeping.Still.{EndsKept}
use Rattle.run_laws.proofs.keeping.But.{HasBut, GivesSo, LeavesSo, HoldsSo, GivesBut, as_holds, leaves_both}
use Rattle.run_laws.proofs.keeping.Lifted.{LiftsSo}
use Rattle.run_laws.proofs.keeping.Liftings.{elements_but}
use Rattle.run_laws.proofs.keeping.Lowered.{from_site, all_into, fits_each}
use Rattle.run_laws.proofs.keeping.NoBorrow.{none_in_all}
use Rattle.run_laws.proofs.keeping.Passed.{any_task}
use Rattle.run_laws.proofs.keeping.Planned.{AreAll, Ends as TypedEnds, ends_typed, in_elements, all_count}
use Rattle.run_laws.proofs.keeping.still.EndDepths.{ends_deeper}
use Rattle.run_laws.proofs.keeping.still.EndSaid.{Alone, Marked, completed_so}
use Rattle.run_laws.proofs.keeping.still.EndsBelow.{Keeps, all_keep}
use Rattle.run_laws.proofs.keeping.still.EndsCome.{Alike, AlikeBy, elements_come}
use Rattle.run_laws.proofs.keeping.still.EndsKept.{alone, kind_is}
use Rattle.run_laws.proofs.keeping.still.EndsLeft.{same_type, type_there, typed_at, SameTyped, elements_same}
use Rattle.run_laws.proofs.keeping.still.EndsLifted.{AllAre, elements_so}
use Rattle.run_laws.proofs.keeping.still.EndsTaken.{Comes_so}

-- What is found of what goes over.
abbrev With : {A : Type 0} → (A → Held → Type 0) → Done A → Type 0
With P (Gives x k) = P x k
With P (Traps why k) = ⊥
With P (Spent k) = Unit {0}
With P Stuck = Unit {0}

with_after : {A B : Type 0} (P : A → Held → Type 0) (R : B → Held → Type 0) (d : Done A) (f : A → Held → Done B) → With P d
    → ((x : A) (k : Held) → P x k → With R (f x k)) → With R (after d f)
with_after P R (Gives x k) f p q = q x k p
with_after P R (Traps why k) f p q = p
with_after P R (Spent k) f p q = tt
with_after P R Stuck f p q = tt

with_given : {A B : Type 0} (R : B → Held → Type 0) (o : Option A) (f : A → Done B) → ((x : A) → o ≡ Some x → With R (f x)) → With R (given o f)
with_given R None f p = tt
with_given R (Some x) f p = p x refl

with_behind : {A B : Type 0} (P : A → Held → Type 0) (R : Held → Type 0) (d : Done A) (F : A → Held → Done B → Type 0) (e : Done B) → With P d
    → ((x : A) (k : Held) → P x k → F x k e → HoldsSo R e) → Behind d F e → HoldsSo R e
with_behind P R (Gives x k) F e p more b = more x k p b
with_behind {A} {B} P R (Traps why k) F e p more b = absurd p
with_behind {A} {B} P R (Spent k) F e p more b = subst (λ (d : Done B). HoldsSo R d) (sym b) tt
with_behind {A} {B} P R Stuck F e p more b = subst (λ (d : Done B). HoldsSo R d) (sym b) tt

end_there : (o : Option WorldEntry) (e : EndEntry) → any_end_in o ≡ Some e → o ≡ Some (entry.End e)
end_there None e is = absurd (cc)
end_there (Some (entry.Handle x)) e is = absurd (cc)
end_there (Some (entry.Subtask callee)) e is = absurd (cc)
end_there (Some (entry.Set set)) e is = absurd (cc)
end_there (Some (entry.End d)) e is = ap (λ (f : EndEntry). Some (entry.End f)) (some_same is)

record IsMoving (g : Graph) (t : ℕ) (x : Copying) (h : Held) (m : Moving) : Type 0 where
  canon : CanonFunc
  inst : InstanceView
  end : EndEntry
  channel : Channel
  offer : OpenCopy
  reader : CopySide
  writer : CopySide
  made : canon_at g x.canon ≡ Some canon
  here : slice_get h.instances (instance_of canon) ≡ Some inst
  there : entry_of inst x.index ≡ Some (entry.End end)
  found : channel_of end h ≡ Some channel
  meets : other_offer end.side channel ≡ Some offer
  is : m ≡ moving_by (kind_of_end end h) end t (instance_of canon) x reader writer

module _ (g : Graph) (t : ℕ) (x : Copying) (h : Held) where
  abbrev Same : {A : Type 0} → A → Held → Type 0
  Same y k = k ≡ h

  side_is : (element : Option ValType) (copy : OpenCopy) (k : Held) → k ≡ h → With (λ (y : CopySide) l. l ≡ h) (side_found g element copy k)
  side_is element copy k same =
      with_given (λ (y : CopySide) l. l ≡ h) (canon_at g copy.canon) (λ c. given (next_place element copy) (λ place. Gives (side_by copy c place k) k))
      (λ c is. with_given (λ (y : CopySide) l. l ≡ h) (next_place element copy) (λ place. Gives (side_by copy c place k) k) (λ place at. same))

  abbrev By : EndKind → EndEntry → ℕ → Moving → Held → Type 0
  By kind e at m k = (k ≡ h) × (reader : CopySide) × (writer : CopySide) × (m ≡ moving_by kind e t at x reader writer)

  sides_are : (element : Option ValType) (kind : EndKind) (e : EndEntry) (at : ℕ) (offer : OpenCopy)
      → With (By kind e at) (sides_found g element kind e t at x offer h)
  unfolding sides_found
  sides_are element kind e at offer =
      let call : OpenCopy = new_copy (by.Task t) x.canon x.place x.length in
      with_after (λ (y : CopySide) l. l ≡ h) (By kind e at) (side_found g element (read_of e.side call offer) h)
      (λ reader k. after (side_found g element (write_of e.side call offer) k) (λ writer l. Gives (moving_by kind e t at x reader writer) l))
      (side_is element (read_of e.side call offer) h refl)
      (λ reader k same.
      with_after (λ (y : CopySide) l. l ≡ h) (By kind e at) (side_found g element (write_of e.side call offer) k)
      (λ writer l. Gives (moving_by kind e t at x reader writer) l)
      (side_is element (write_of e.side call offer) k same) (λ writer l now. (now, reader, writer, refl)))

  abbrev Found : Moving → Held → Type 0
  Found m k = (k ≡ h) × IsMoving g t x h m

  found_by : (c : CanonFunc) (i : InstanceView) (e : EndEntry) (d : Channel) (offer : OpenCopy) (r : Done Moving) → canon_at g x.canon ≡ Some c
      → slice_get h.instances (instance_of c) ≡ Some i
      → entry_of i x.index ≡ Some (entry.End e) → channel_of e h ≡ Some d → other_offer e.side d ≡ Some offer
      → With (By (kind_of_end e h) e (instance_of c)) r → With Found r
  found_by c i e d offer (Gives m k) made here there found meets (same, reader, writer, is) = (
    same,
    record {
      canon = c;
      inst = i;
      end = e;
      channel = d;
      offer = offer;
      reader = reader;
      writer = writer;
      made = made;
      here = here;
      there = there;
      found = found;
      meets = meets;
      is = is;
    },
  )
  found_by c i e d offer (Traps why k) made here there found meets p = p
  found_by c i e d offer (Spent k) made here there found meets p = tt
  found_by c i e d offer Stuck made here there found meets p = tt

  entry_is : (c : CanonFunc) (o : Option InstanceView) → canon_at g x.canon ≡ Some c → slice_get h.instances (instance_of c) ≡ o
      → With Found (let r : Done Moving = after (given o (λ i. Gives (entry_of i x.index) h))
      (λ found k. given (any_end_in found) (λ e. given (channel_of e k)
      (λ d. given (other_offer e.side d) (λ offer. sides_found g (element_at g x.canon) (kind_of_end e k) e t (instance_of c) x offer k)))) in r)
  entry_is c None made here = tt
  entry_is c (Some i) made here =
      with_given Found (any_end_in (entry_of i x.index))
      (λ e. given (channel_of e h) (λ d. given (other_offer e.side d) (λ offer. sides_found g (element_at g x.canon) (kind_of_end e h) e t
      (instance_of c) x offer h)))
      (λ e is.
      with_given Found (channel_of e h) (λ d. given (other_offer e.side d)
      (λ offer. sides_found g (element_at g x.canon) (kind_of_end e h) e t (instance_of c) x offer h))
      (λ d of.
      with_given Found (other_offer e.side d) (λ offer. sides_found g (element_at g x.canon) (kind_of_end e h) e t (instance_of c) x offer h)
      (λ offer met.
      found_by c i e d offer (sides_found g (element_at g x.canon) (kind_of_end e h) e t (instance_of c) x offer h) made here
      (end_there (entry_of i x.index) e is) of met
      (sides_are (element_at g x.canon) (kind_of_end e h) e (instance_of c) offer))))

  in_is : (c : CanonFunc) → canon_at g x.canon ≡ Some c → With Found (moving_in g t (instance_of c) x h)
  unfolding moving_in
  in_is c made = entry_is c (slice_get h.instances (instance_of c)) made refl

  moving_is : With Found (moving g t x h)
  unfolding moving
  moving_is = with_given Found (canon_at g x.canon) (λ c. moving_in g t (instance_of c) x h) (λ c made. in_is c made)

-- An end of a type that stands in a table.
at_there : (type : ℕ) (o : Option InstanceView) (index : ℕ) (e : EndEntry) → typed_at type o index ≡ Some e
    → (i : InstanceView) × (o ≡ Some i) × (entry_of i index ≡ Some (entry.End e))
at_there type None index e is = absurd (cc)
at_there type (Some i) index e is = (i, refl, type_there type (entry_of i index) e is)

there_at : (type : ℕ) (o : Option InstanceView) (i : InstanceView) (index : ℕ) (e : EndEntry) → o ≡ Some i → entry_of i index ≡ Some (entry.End e)
    → e.end_type ≡ type → typed_at type o index ≡ Some e
there_at type o i index e is there same = ap (λ (p : Option InstanceView). typed_at type p index) is ∙ same_type type (entry_of i index) e there same

same_channels : (kind : EndKind) (h k : Held) (place : ℕ) (c : Channel) → Alike h k → slice_get (channels kind h) place ≡ Some c
    → slice_get (channels kind k) place ≡ Some c
same_channels Stream h k place c alike is = ap (λ (all : List Channel). slice_get all place) alike.0 ∙ is
same_channels Future h k place c alike is = ap (λ (all : List Channel). slice_get all place) alike.1 ∙ is

-- The end of the call stands alone behind what leaves ends of its type.
alone_then : (h k : Held) (at index : ℕ) (kind : EndKind) (i : InstanceView) (e : EndEntry) (place : ℕ) (c : Channel) (offer : OpenCopy)
    → slice_get h.instances at ≡ Some i
    → entry_of i index ≡ Some (entry.End e) → place_of e.number ≡ Some place → slice_get (channels kind h) place ≡ Some c → EndAlone h at index kind e place c
    → other_offer e.side c ≡ Some offer
    → SameTyped e.end_type h k → Alike h k → (j : InstanceView) × Alone k at index kind j e place c
alone_then h k at index kind i e place c offer here there number found a meets same alike =
    let now = at_there e.end_type (slice_get k.instances at) index e (same at index ∙ there_at e.end_type
    (slice_get h.instances at) i index e here there refl) in (
      now.0,
      record {
        inst = now.1;
        there = now.2;
        number = number;
        found = same_channels kind h k place c alike found;
        alone = record {
          typed = a.typed;
          of = a.of;
          once = λ other_at other_index j d stands stood at_place of_type side.
              (let before = at_there e.end_type (slice_get h.instances other_at) other_index d
              (sym (same other_at other_index) ∙ there_at e.end_type (slice_get k.instances other_at) j other_index d stands stood (of_type ∙ sym a.typed)) in
              a.once other_at other_index before.0 d before.1 before.2 at_place of_type side);
        };
        offer = offer;
        meets = meets;
      },
    )

alike_on : (h k l : Held) → Alike h k → Alike k l → Alike h l
alike_on h k l p q = (q.0 ∙ p.0, q.1 ∙ p.1)

typed_on : (type : ℕ) (h k l : Held) → SameTyped type h k → SameTyped type k l → SameTyped type h l
typed_on type h k l p q at index = q at index ∙ p at index

-- Behind elements that are lifted.
behind_three : {A B : Type 0} (P R : Held → Type 0) (V : A → Type 0) (h : Held) (d : Done A) (F : A → Held → Done B → Type 0) (e : Done B) → LeavesSo (Unit {0}) P d
    → GivesSo R d → AlikeBy V h d
    → ((x : A) (k : Held) → P k → R k → V x → Alike h k → F x k e → HoldsSo Marked e) → Behind d F e → HoldsSo Marked e
behind_three P R V h (Gives x k) F e p r v more b = more x k p r v.0 v.1 b
behind_three {A} {B} P R V h (Traps why k) F e p r v more b = subst (λ (d : Done B). HoldsSo Marked d) (sym b) (p.1 tt)
behind_three {A} {B} P R V h (Spent k) F e p r v more b = subst (λ (d : Done B). HoldsSo Marked d) (sym b) tt
behind_three {A} {B} P R V h Stuck F e p r v more b = subst (λ (d : Done B). HoldsSo Marked d) (sym b) tt

-- Behind those that are lowered.
behind_right : {A B : Type 0} (P : Held → Type 0) (d : Done A) (F : A → Held → Done B → Type 0) (e : Done B) → LeavesSo (Unit {0}) P d
    → ((x : A) (k : Held) → P k → F x k e → HoldsSo Marked e) → Behind d F e → HoldsSo Marked e
behind_right P (Gives x k) F e p more b = more x k p b
behind_right {A} {B} P (Traps why k) F e p more b = subst (λ (d : Done B). HoldsSo Marked d) (sym b) (p.1 tt)
behind_right {A} {B} P (Spent k) F e p more b = subst (λ (d : Done B). HoldsSo Marked d) (sym b) tt
behind_right {A} {B} P Stuck F e p more b = subst (λ (d : Done B). HoldsSo Marked d) (sym b) tt

all_mapped : (P R : ValType → ℕ → Type 0) (es : TypedEnds) → ((type : ValType) (number : ℕ) → P type number → R type number) → AreAll P es → AreAll R es
all_mapped P R [] f h = tt
all_mapped P R (e ∷ es) f h = (f e.0 e.1 h.0, all_mapped P R es f h.1)

-- the type of a number, where it is found
abbrev numbered_as : List ValType → ℕ → Option ValType → Option Numbered
numbered_as types number o = option_map (λ (v : ValType). (let n : Numbered = record { types = types; number = number; val_type = v } in n)) o

module _ (p : Program) (u : ℕ) (distinct : AreDistinct p.types.now) where
  abbrev C : Type 0
  C = Unit {0}

  abbrev Q : Held → Type 0
  Q k = HasBut C u 0 k

  -- They are lowered.
  lowered_so : (to : Destination) (t : Numbered) (values : List Value) (place : ℕ) (h : Held) (d : Done (List ℕ)) → has_borrow t.val_type ≡ false
      → AreAll (λ end_type number. C → EndComes h t.types end_type number) (in_elements t.val_type (map ends_typed values))
      → LowersAll p to t values place h d → Q h → LeavesSo C Q d
  lowered_so to t values place h d none come b but =
      from_site (λ (e : Done (List ℕ)). LeavesSo C Q e) tt p to (all_fit t.val_type values) h
      (λ s k e. LowersAt p.graph.now to t.types (plan_all t.val_type values place s.resources) s k e) d
      (λ s found mine fit is.
      other_task d
      (subst (λ (n : ℕ). GivesBut C to.task n d)
      (let same : 0 + all_count s.resources values ≡ 0 = none_owed (none_in_all s.resources values t.val_type
      (λ m w there. fits_each t.val_type values fit m w there) none) in same)
      (all_into C 0 p to t values place h d s.resources mine come b (any_task C u to.task h but)))) b
    where
      none_owed : {a : ℕ} → a ≡ 0 → 0 + a ≡ 0
      none_owed e = omega (arith, e)

      other_task : (e : Done (List ℕ)) → GivesBut C to.task 0 e → LeavesSo C Q e
      other_task (Gives x k) q = any_task C to.task u k q
      other_task (Traps why k) q = q
      other_task (Spent k) q = tt
      other_task Stuck q = tt

  come_then : (h k : Held) (types : List ValType) (es : TypedEnds) → Alike h k → AreAll (λ end_type number. EndComes h types end_type number) es
      → AreAll (λ end_type number. C → EndComes k types end_type number) es
  come_then h k types es alike come =
      all_mapped (λ end_type number. EndComes h types end_type number) (λ end_type number. C → EndComes k types end_type number) es
      (λ end_type number comes c place there.
      subst (λ (all : List Channel). EndMarked k.streams all (record { side = Reader; end_type = place; number = number; is_idle = true })) (sym alike.1)
      (subst (λ (all : List Channel). EndMarked all h.futures (record { side = Reader; end_type = place; number = number; is_idle = true })) (sym alike.0)
      (comes place there))) come

  -- What goes over for the call at an end of this type, which stands alone.
  module _ (h : Held) (t at : ℕ) (kind : EndKind) (i : InstanceView) (e : EndEntry) (place : ℕ) (c : Channel) (x : Copying) (offer : OpenCopy)
      (reader writer : CopySide)
      (here : slice_get h.instances at ≡ Some i) (there : entry_of i x.index ≡ Some (entry.End e)) (number : place_of e.number ≡ Some place)
      (found : slice_get (channels kind h) place ≡ Some c)
      (a : EndAlone h at x.index kind e place c) (meets : other_offer e.side c ≡ Some offer) (but : Q h) where
    abbrev m : Moving
    m = moving_by kind e t at x reader writer

    done_so : (what : Copied) (k : Held) → SameTyped e.end_type h k → Alike h k → Q k → HoldsSo Marked (completed m what k)
    done_so what k same alike now =
        let b = alone_then h k at x.index kind i e place c offer here there number found a meets same alike in
        completed_so k at kind b.0 e place c t x reader writer what b.1 (now.ends tt)

    lifted_so : (of_what : EndKind) (value : ℕ) (type : ValType) (d : Done Flow) → has_borrow type ≡ false
        → slice_get p.types.now e.end_type ≡ Some (ends_type of_what (Some type))
        → (let n : Numbered = record { types = p.types.now; number = value; val_type = type } in MovesElements p m n h d) → HoldsSo Marked d
    lifted_so of_what value type d none typed b =
        let n : Numbered = record { types = p.types.now; number = value; val_type = type } in
        behind_three (LiftsSo C u 0 h) (λ (k : Held). SameTyped e.end_type h k) (AllAre (Comes_so h.streams h.futures p.types.now distinct) type) h
        (elements_lifted (origin_of m) n writer.place x.count h) (λ values k f. Reads p m n values k f) d
        (elements_but C u 0 (origin_of m) n writer.place x.count h (λ holds. absurd (lent none holds)) but)
        (elements_same e.end_type (depth type) p.types.now deep h (origin_of m) type value writer.place x.count within)
        (elements_come h (origin_of m) n distinct (but.ends tt) writer.place x.count)
        (λ values k q same come alike (first, lowers, behind).
        let ends : AreAll (λ end_type number. C → EndComes k p.types.now end_type number) (in_elements type (map ends_typed values)) =
        come_then h k p.types.now (in_elements type (map ends_typed values)) alike
        (elements_so (Comes_so h.streams h.futures p.types.now distinct) type values come) in
        behind_right (λ (l : Held). Q l × Keeps e.end_type k l) first (λ words l f. f ≡ completed m (copied_values n values) l) d
        (leaves_both C Q (λ (l : Held). Keeps e.end_type k l) first (lowered_so (reader_of m k) n values reader.place k first none ends lowers q.0)
        (all_keep e.end_type k p (reader_of m k) n (depth type) values reader.place first deep within lowers q.0.sound))
        (λ words l both same_done.
        as_holds Marked d (completed m (copied_values n values) l) same_done
        (done_so (copied_values n values) l (typed_on e.end_type h k l same both.1.0) (alike_on h k l alike both.1.1) both.0)) behind) b
      where
        lent : {b : Bool} → b ≡ false → b ≡ true → ⊥
        lent e f = cc

        within : depth type ≤ depth type
        within = omega arith

        too_deep : (a b : ℕ) → a ≡ suc b → a ≤ b → ⊥
        too_deep a b is less = omega (arith, is, less)

        deep : (v : ValType) → slice_get p.types.now e.end_type ≡ Some v → depth v ≤ depth type → ⊥
        deep v of less =
            let same : ends_type of_what (Some type) ≡ v = some_same (sym typed ∙ of) in
            too_deep (depth v) (depth type) (ap depth (sym same) ∙ ends_deeper of_what type) less

    over_so : (of_what : EndKind) (value : Option ℕ) (element : Option ValType) (d : Done Flow) → HoldsNoBorrow p value → MayBeAt p.types.now value element
        → slice_get p.types.now e.end_type ≡ Some (ends_type of_what element) → MovesOver p m value h d → HoldsSo Marked d
    over_so of_what None element d plain fits typed b =
        as_holds Marked d (completed m (Units x.count) h) b (done_so (Units x.count) h (λ n k. refl) (refl, refl) but)
    over_so of_what (Some value) None d plain fits typed b = absurd fits
    over_so of_what (Some value) (Some type) d plain fits typed b =
        lifted_so of_what value type d (plain value (record { types = p.types.now; number = value; val_type = type }) refl
        (ap (λ (o : Option ValType). numbered_as p.types.now value o) fits)) typed
        (subst (λ (o : Option ValType). Behind (let r : Done Numbered = given (numbered_as p.types.now value o) (λ n. Gives n h) in r)
        (λ n k f. MovesElements p m n k f) d) fits b)

  -- The end that is found for the call stands alone, as it was kept.
  found_so : (K : ℕ → EndKind) (t : ℕ) (x : Copying) (h : Held) (m : Moving) (d : Done Flow) → HasEndOf p p.types.now h x
      → MayBeAt p.types.now (value_of p x.canon) (element_at p.graph.now x.canon)
      → HoldsNoBorrow p (value_of p x.canon) → EndsKept K h → IsMoving p.graph.now t x h m → MovesOver p m (value_of p x.canon) h d → Q h → HoldsSo Marked d
  found_so K t x h m d has fits plain kept i b but = by_place (place_of i.end.number) refl i.found
    where
      by_place : (o : Option ℕ) → place_of i.end.number ≡ o → at_place (channels (kind_of_end i.end h) h) o ≡ Some i.channel → HoldsSo Marked d
      by_place None number found = absurd (cc)
      by_place (Some place) number found =
          let of : K i.end.end_type ≡ kind_of_end i.end h = kind_is K h (instance_of i.canon) x.index i.inst i.end kept i.here i.there in
          let typed = has i.canon i.inst i.end i.made i.here i.there in
          over_so h t (instance_of i.canon) (kind_of_end i.end h) i.inst i.end place i.channel x i.offer i.reader i.writer i.here i.there number found
          (alone K h (instance_of i.canon) x.index (kind_of_end i.end h) i.inst i.end place i.channel kept of i.here i.there number found) i.meets but
          typed.0 (value_of p x.canon) (element_at p.graph.now x.canon) d plain fits typed.1
          (subst (λ (n : Moving). MovesOver p n (value_of p x.canon) h d) i.is b)

  pub transferred_marked : (K : ℕ → EndKind) (t : ℕ) (x : Copying) (h : Held) (d : Done Flow) → HasEndOf p p.types.now h x
      → MayBeAt p.types.now (value_of p x.canon) (element_at p.graph.now x.canon) → HoldsNoBorrow p (value_of p x.canon) → EndsKept K h → Transfers p t x h d
      → Q h → HoldsSo Marked d
  transferred_marked K t x h d has fits plain kept b but =
      with_behind (λ m k. (k ≡ h) × IsMoving p.graph.now t x h m) Marked (moving p.graph.now t x h) (λ m k e. MovesOver p m (value_of p x.canon) k e) d
      (moving_is p.graph.now t x h)
      (λ m k (same, is) over. found_so K t x h m d has fits plain kept is (subst (λ (l : Held). MovesOver p m (value_of p x.canon) l d) same over) but) b
