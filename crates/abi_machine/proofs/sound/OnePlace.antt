-- Each writable end stands in one table at most, at one index; and so it stays.
use Rattle.std.proofs.Common.{◌≡◌, ◌≤◌, ◌⊎◌, inl, inr, ℕ, zero, suc, ◌+◌, Bool, true, false, nat_eq, List, [], ◌∷◌, ◌++◌, length, refl, sym, ap, ◌∙◌, subst, arith, Option, Some, None, if◌then◌else◌}
use Rattle.std.proofs.lemmas.Bool.Decides.{nat_tests}
use Rattle.std.specs.List.{slice_get}
use Rattle.handle_table.specs.History.{Event, Remove, live, next_index}
use Rattle.syntax_trees.specs.declared.types.ValType.{ValType}
use Rattle.builtin_kinds.specs.declared.EndKind.{EndKind}
use Rattle.builtin_kinds.specs.declared.EndKind.TheVariants.{Stream, Future}
use Rattle.stream_ends.specs.declared.side.Side.{Side}
use Rattle.stream_ends.specs.declared.side.Side.TheVariants.{Reader, Writer}
use Rattle.comp_graph.specs.Graph.{Graph}
use Rattle.script_reader.specs.Script.{Script}
use Rattle.abi_machine.specs.LoweringOver.{New, NewOwn, NewBorrow, NewEnd}
use Rattle.abi_machine.specs.Control.{EndRef}
use Rattle.abi_machine.specs.World.{Entry, OfSet, OfEnd, Inst, Channel, World, new_inst, new_channel}
use Rattle.abi_machine.specs.Edits.{changed_at, changed_number, with_channel, carried, channel_made, added, entry_added}
use Rattle.abi_machine.specs.Reading.{table_in, channels}
use Rattle.abi_machine.specs.Pausing.{entry_of}
use Rattle.abi_machine.specs.replies.Streams.{end_ref}
use Rattle.abi_machine.specs.sound.Changes.{Change, GoesTo, HasStore, SpendsUnit, UsesPicks, TakesItem, BeginsInstance, AddsEntry, MakesSet, RemovesEntry, RemovesWaitable, LeavesSet, JoinsSet, HasBackpressure, IsCalled, Calls, ComesBack, Acts, Begins, Cancels, Blocks, Exits, IsRemoved, Resolves, IsCancelled, HasWord, HasNewStack, HasStack, LosesStack, IsAnswered, IsTold, IsLent, HasResult, MakesChannel, Offers, Transfers, Concludes, DropsEnd, after}
use Rattle.abi_machine.specs.sound.Premises.{Comes}
use Rattle.abi_machine.specs.sound.EndPlaces.{EndStandsAt, EndStandsNowhere, made_count, IsLive, WritersStand, WritersStandOnce, IsFreshEnd}
use Rattle.abi_machine.proofs.sound.Lists.{more_either, length_changed, length_more}
use Rattle.abi_machine.proofs.sound.Found.{some_same}
use Rattle.abi_machine.proofs.sound.ends.Live.{IsDroppedAt, concluded_drops, transferred_drops, offered_drops, other_drops, edit_live, made_live, same_end}

-- what stood where an item is changed
pub changed_back : {A : Type 0} (t : ℕ) (f : A → A) (xs : List A) (n : ℕ) (y : A) → slice_get (changed_at t f xs) n ≡ Some y
    → ((n ≡ t) × ((x : A) × (slice_get xs n ≡ Some x) × (y ≡ f x))) ⊎ (slice_get xs n ≡ Some y)
changed_back t f [] n y h = inr h
changed_back zero f (x ∷ xs) zero y h = inl (refl, (x, refl, (let same : f x ≡ y = cc in sym same)))
changed_back zero f (x ∷ xs) (suc n) y h = inr h
changed_back (suc t) f (x ∷ xs) zero y h = inr h
changed_back (suc t) f (x ∷ xs) (suc n) y h = elim (changed_back t f xs n y h) [
  | inl new ↦ inl (ap suc new.0, new.1)
  | inr old ↦ inr old
]

-- An entry that stands in a table that is changed stood there before, or came with the change.
abbrev pub CameSo : ℕ → (Inst → Inst) → List Inst → ℕ → ℕ → Entry → Type 0
CameSo i f insts j index x = (j ≡ i) × ((inst : Inst) × (slice_get insts j ≡ Some inst) × (live (f inst).table index ≡ Some x))

pub table_back : (insts : List Inst) (i : ℕ) (f : Inst → Inst) (j index : ℕ) (x : Entry) → live (table_in (slice_get (changed_at i f insts) j)) index ≡ Some x
    → CameSo i f insts j index x ⊎ (live (table_in (slice_get insts j)) index ≡ Some x)
table_back insts i f j index x there = by (slice_get (changed_at i f insts) j) refl there
  where
    by : (o : Option Inst) → slice_get (changed_at i f insts) j ≡ o → live (table_in o) index ≡ Some x → CameSo i f insts j index x ⊎ (live (table_in (slice_get insts j)) index ≡ Some x)
    by None e k = cc
    by (Some y) e k = elim (changed_back i f insts j y e) [
      | inl new ↦ inl (new.0, (new.1.0, new.1.1, subst (λ (z : Inst). live z.table index ≡ Some x) new.1.2 k))
      | inr old ↦ inr (subst (λ (o : Option Inst). live (table_in o) index ≡ Some x) (sym old) k)
    ]

-- a change that adds nothing
abbrev pub AddsNone : (Inst → Inst) → Type 0
AddsNone f = (inst : Inst) (index : ℕ) (x : Entry) → live (f inst).table index ≡ Some x → live inst.table index ≡ Some x

none_back : (insts : List Inst) (i : ℕ) (f : Inst → Inst) → AddsNone f → (j index : ℕ) (e : EndRef) → EndStandsAt (changed_at i f insts) j index e → EndStandsAt insts j index e
none_back insts i f none j index e there = elim (table_back insts i f j index (OfEnd e) there) [
  | inl new ↦ subst (λ (o : Option Inst). live (table_in o) index ≡ Some (OfEnd e)) (sym new.1.1) (none new.1.0 index (OfEnd e) new.1.2)
  | inr old ↦ old
]

stand_as : (insts others : List Inst) (streams futures : List Channel) → ((j index : ℕ) (e : EndRef) → EndStandsAt others j index e → EndStandsAt insts j index e) → WritersStand insts streams futures
    → WritersStand others streams futures
stand_as insts others streams futures back h = record {
  once = λ i index j other e side a b. h.once i index j other e side (back i index e a) (back j other e b);
  made = λ i index e side a. h.made i index e side (back i index e a);
  live = λ i index e side a. h.live i index e side (back i index e a);
}

none_added : (insts : List Inst) (streams futures : List Channel) (i : ℕ) (f : Inst → Inst) → AddsNone f → WritersStand insts streams futures → WritersStand (changed_at i f insts) streams futures
none_added insts streams futures i f none h = stand_as insts (changed_at i f insts) streams futures (none_back insts i f none) h

removed_so : {A : Type 0} (b : Bool) (y : A) (o : Option A) → (if b then None else o) ≡ Some y → o ≡ Some y
removed_so true y o h = cc
removed_so false y o h = h

pub remove_none : (gone : ℕ) → AddsNone (λ inst. record inst { table = Remove gone ∷ inst.table })
remove_none gone inst index x k = removed_so (nat_eq gone index) x (live inst.table index) k

pub begun_back : (insts : List Inst) (j index : ℕ) (e : EndRef) → EndStandsAt (insts ++ new_inst ∷ []) j index e → EndStandsAt insts j index e
begun_back insts j index e there = by (slice_get (insts ++ new_inst ∷ []) j) refl there
  where
    none : (y : Inst) → y ≡ new_inst → live y.table index ≡ Some (OfEnd e) → ⊥
    none y same k = (let clash : None ≡ Some (OfEnd e) = subst (λ (z : Inst). live z.table index ≡ Some (OfEnd e)) same k in cc)

    by : (o : Option Inst) → slice_get (insts ++ new_inst ∷ []) j ≡ o → live (table_in o) index ≡ Some (OfEnd e) → EndStandsAt insts j index e
    by None h k = cc
    by (Some y) h k = elim (more_either insts new_inst j y h) [
      | inl old ↦ subst (λ (o : Option Inst). live (table_in o) index ≡ Some (OfEnd e)) (sym old) k
      | inr last ↦ absurd (none y last.1 k)
    ]

-- An entry is added.

pub added_so : {A : Type 0} (b : Bool) (x y : A) (o : Option A) → (if b then Some x else o) ≡ Some y → ((b ≡ true) × (x ≡ y)) ⊎ (o ≡ Some y)
added_so true x y o h = inl (refl, some_same h)
added_so false x y o h = inr h

abbrev pub IsNewAt : List Inst → ℕ → Entry → ℕ → ℕ → EndRef → Type 0
IsNewAt insts i entry j index e = (j ≡ i) × (index ≡ next_index (table_in (slice_get insts i))) × (entry ≡ OfEnd e)

pub add_back : (insts : List Inst) (i : ℕ) (entry : Entry) (j index : ℕ) (e : EndRef) → EndStandsAt (changed_at i (λ inst. record inst { table = added entry inst.table }) insts) j index e
    → IsNewAt insts i entry j index e ⊎ EndStandsAt insts j index e
add_back insts i entry j index e there = elim (table_back insts i (λ inst. record inst { table = added entry inst.table }) j index (OfEnd e) there) [
  | inl new ↦ by new.1.0 new.0 new.1.1 new.1.2
  | inr old ↦ inr old
]
  where
    same_index : (n m : ℕ) → nat_eq n m ≡ true → m ≡ n
    same_index n m h = grind (arith, nat_tests)

    by : (inst : Inst) → j ≡ i → slice_get insts j ≡ Some inst → live (added entry inst.table) index ≡ Some (OfEnd e) → IsNewAt insts i entry j index e ⊎ EndStandsAt insts j index e
    by inst at found k = elim (added_so (nat_eq (next_index inst.table) index) entry (OfEnd e) (live inst.table index) k) [
      | inl new ↦ inl (
        at,
        same_index (next_index inst.table) index new.0 ∙ ap (λ (o : Option Inst). next_index (table_in o)) (sym found) ∙ ap (λ (n : ℕ). next_index (table_in (slice_get insts n))) at,
        new.1,
      )
      | inr old ↦ inr (subst (λ (o : Option Inst). live (table_in o) index ≡ Some (OfEnd e)) (sym found) old)
    ]

pub reads_no_write : (s : Side) → s ≡ Reader → s ≡ Writer → ⊥
reads_no_write s a b = (let clash : Reader ≡ Writer = sym a ∙ b in cc)

add_stands : (w : World) (i : ℕ) (entry : Entry) → IsFreshEnd w entry → WritersStandOnce w → WritersStand (after (AddsEntry i entry) w).insts w.streams w.futures
add_stands w i entry fresh h = record {
  once = λ k index j other e side a b. elim (add_back w.insts i entry k index e a) [
    | inl new ↦ elim (add_back w.insts i entry j other e b) [
      | inl last ↦ (new.0 ∙ sym last.0, new.1 ∙ sym last.1)
      | inr old ↦ absurd (not_both e side new.2 j other old)
    ]
    | inr was ↦ elim (add_back w.insts i entry j other e b) [
      | inl last ↦ absurd (not_both e side last.2 k index was)
      | inr old ↦ h.once k index j other e side was old
    ]
  ];
  made = λ k index e side a. elim (add_back w.insts i entry k index e a) [
    | inl new ↦ made_so e side (subst (IsFreshEnd w) new.2 fresh)
    | inr old ↦ h.made k index e side old
  ];
  live = λ k index e side a. elim (add_back w.insts i entry k index e a) [
    | inl new ↦ live_so e side (subst (IsFreshEnd w) new.2 fresh)
    | inr old ↦ h.live k index e side old
  ];
}
  where
    made_so : (e : EndRef) → e.side ≡ Writer → IsFreshEnd w (OfEnd e) → e.number ≤ made_count e.kind w.streams w.futures
    made_so e side (inl reads) = absurd (reads_no_write e.side reads side)
    made_so e side (inr new) = new.0

    live_so : (e : EndRef) → e.side ≡ Writer → IsFreshEnd w (OfEnd e) → IsLive e w.streams w.futures
    live_so e side (inl reads) = absurd (reads_no_write e.side reads side)
    live_so e side (inr new) = new.2

    nowhere_so : (e : EndRef) → e.side ≡ Writer → IsFreshEnd w (OfEnd e) → EndStandsNowhere w.insts e
    nowhere_so e side (inl reads) = absurd (reads_no_write e.side reads side)
    nowhere_so e side (inr new) = new.1

    not_both : (e : EndRef) → e.side ≡ Writer → entry ≡ OfEnd e → EndStandsNowhere w.insts e
    not_both e side same = nowhere_so e side (subst (IsFreshEnd w) same fresh)

pub entry_is_fresh : (w : World) (t : ℕ) (entry : New) → IsFreshEnd w (entry_of t entry)
entry_is_fresh w t (NewOwn resource rep) = tt
entry_is_fresh w t (NewBorrow resource rep) = tt
entry_is_fresh w t (NewEnd kind number) = inl refl

-- Streams and futures are changed, or one is made.

number_long : (number : ℕ) (f : Channel → Channel) (all : List Channel) → length (changed_number number f all) ≡ length all
number_long zero f all = refl
number_long (suc place) f all = length_changed place f all

counted_as : (insts : List Inst) (streams futures more others : List Channel) → ((k : EndKind) → made_count k streams futures ≤ made_count k more others)
    → ((i index : ℕ) (e : EndRef) → e.side ≡ Writer → EndStandsAt insts i index e → IsLive e streams futures → IsLive e more others) → WritersStand insts streams futures
    → WritersStand insts more others
counted_as insts streams futures more others less still h = record {
  once = h.once;
  made = λ i index e side a.
      let was : e.number ≤ made_count e.kind streams futures = h.made i index e side a in
      let now : made_count e.kind streams futures ≤ made_count e.kind more others = less e.kind in
      omega (arith, was, now);
  live = λ i index e side a. still i index e side a (h.live i index e side a);
}

-- What is done to a stream or a future leaves the writable ends that stand as they are.
abbrev KeepsEnds : EndKind → ℕ → (Channel → Channel) → World → Type 0
KeepsEnds kind number f w =
    (i index : ℕ) (e : EndRef) (c : Channel) → e.side ≡ Writer → EndStandsAt w.insts i index e → e.kind ≡ kind → e.number ≡ number → IsDroppedAt e.side (f c) ≡ IsDroppedAt e.side c

channel_stands : (kind : EndKind) (number : ℕ) (f : Channel → Channel) (w : World) → KeepsEnds kind number f w → WritersStandOnce w → WritersStandOnce (with_channel kind number f w)
channel_stands Stream number f w keeps h =
    counted_as w.insts w.streams w.futures (changed_number number f w.streams) w.futures less (λ i index e side there l. edit_live Stream e.kind number e.number e.side f w (λ c. keeps i index e c side there) l) h
  where
    less : (k : EndKind) → made_count k w.streams w.futures ≤ made_count k (changed_number number f w.streams) w.futures
    less Stream = (let same : length (changed_number number f w.streams) ≡ length w.streams = number_long number f w.streams in omega (arith, same))
    less Future = omega arith
channel_stands Future number f w keeps h =
    counted_as w.insts w.streams w.futures w.streams (changed_number number f w.futures) less (λ i index e side there l. edit_live Future e.kind number e.number e.side f w (λ c. keeps i index e c side there) l) h
  where
    less : (k : EndKind) → made_count k w.streams w.futures ≤ made_count k w.streams (changed_number number f w.futures)
    less Stream = omega arith
    less Future = (let same : length (changed_number number f w.futures) ≡ length w.futures = number_long number f w.futures in omega (arith, same))

made_stands : (kind : EndKind) (element : Option ValType) (w : World) → WritersStandOnce w → WritersStandOnce (channel_made kind element w)
made_stands Stream element w h = counted_as w.insts w.streams w.futures (w.streams ++ new_channel element ∷ []) w.futures less (λ i index e side there l. made_live Stream e.kind e.number e.side element w l) h
  where
    less : (k : EndKind) → made_count k w.streams w.futures ≤ made_count k (w.streams ++ new_channel element ∷ []) w.futures
    less Stream = (let longer : length (w.streams ++ new_channel element ∷ []) ≡ suc (length w.streams) = length_more w.streams (new_channel element) in omega (arith, longer))
    less Future = omega arith
made_stands Future element w h = counted_as w.insts w.streams w.futures w.streams (w.futures ++ new_channel element ∷ []) less (λ i index e side there l. made_live Future e.kind e.number e.side element w l) h
  where
    less : (k : EndKind) → made_count k w.streams w.futures ≤ made_count k w.streams (w.futures ++ new_channel element ∷ [])
    less Stream = omega arith
    less Future = (let longer : length (w.futures ++ new_channel element ∷ []) ≡ suc (length w.futures) = length_more w.futures (new_channel element) in omega (arith, longer))

-- The writable end of what was just made stands nowhere.
abbrev pub readable_added : ℕ → EndKind → Option ValType → World → World
readable_added i kind element w = entry_added i (OfEnd (end_ref kind (length (channels kind w) + 1) Reader)) (channel_made kind element w)

new_in : (insts : List Inst) (i number : ℕ) (kind : EndKind) (streams futures : List Channel) → made_count kind streams futures ≡ number → WritersStand insts streams futures
    → EndStandsNowhere (changed_at i (λ inst. record inst { table = added (OfEnd (end_ref kind (number + 1) Reader)) inst.table }) insts) (end_ref kind (number + 1) Writer)
new_in insts i number kind streams futures same h j index there = elim (add_back insts i (OfEnd (end_ref kind (number + 1) Reader)) j index (end_ref kind (number + 1) Writer) there) [
  | inl new ↦ other_side new.2
  | inr old ↦ (let less : number + 1 ≤ made_count kind streams futures = h.made j index (end_ref kind (number + 1) Writer) refl old in absurd (omega (arith, less, same)))
]
  where
    side_of : Entry → Side
    side_of (OfEnd e) = e.side
    side_of entry = Writer

    other_side : OfEnd (end_ref kind (number + 1) Reader) ≡ OfEnd (end_ref kind (number + 1) Writer) → ⊥
    other_side e = reads_no_write Reader refl (ap side_of e)

pub new_nowhere : (i : ℕ) (kind : EndKind) (element : Option ValType) (w : World) → WritersStandOnce w → EndStandsNowhere (readable_added i kind element w).insts (end_ref kind (length (channels kind w) + 1) Writer)
new_nowhere i Stream element w h = new_in w.insts i (length w.streams) Stream w.streams w.futures refl h
new_nowhere i Future element w h = new_in w.insts i (length w.futures) Future w.streams w.futures refl h

pub new_is_made : (i : ℕ) (kind : EndKind) (element : Option ValType) (w : World)
    → length (channels kind w) + 1 ≤ made_count kind (readable_added i kind element w).streams (readable_added i kind element w).futures
new_is_made i Stream element w = (let longer : length (w.streams ++ new_channel element ∷ []) ≡ suc (length w.streams) = length_more w.streams (new_channel element) in omega (arith, longer))
new_is_made i Future element w = (let longer : length (w.futures ++ new_channel element ∷ []) ≡ suc (length w.futures) = length_more w.futures (new_channel element) in omega (arith, longer))

-- Every change.

pub none_same : (f : Inst → Inst) → ((x : Inst) → (f x).table ≡ x.table) → AddsNone f
none_same f same inst index x k = subst (λ (t : List (Event Entry)). live t index ≡ Some x) (same inst) k

same_tables : (insts : List Inst) (streams futures : List Channel) (i : ℕ) (f : Inst → Inst) → ((x : Inst) → (f x).table ≡ x.table) → WritersStand insts streams futures
    → WritersStand (changed_at i f insts) streams futures
same_tables insts streams futures i f same h = none_added insts streams futures i f (none_same f same) h

pub writers_kept : (g : Graph) (s : Script) (c : Change) (w : World) → Comes g s c w → WritersStandOnce w → WritersStandOnce (after c w)
writers_kept g s BeginsInstance w may h = stand_as w.insts _ w.streams w.futures (begun_back w.insts) h
writers_kept g s (AddsEntry i entry) w may h = add_stands w i entry may.2 h
writers_kept g s (MakesSet i set) w may h = same_tables (after (AddsEntry i (OfSet set)) w).insts w.streams w.futures i _ (λ x. refl) (add_stands w i (OfSet set) tt h)
writers_kept g s (RemovesEntry i index) w may h = none_added w.insts w.streams w.futures i _ (remove_none index) h
writers_kept g s (RemovesWaitable i index) w may h =
    same_tables (after (RemovesEntry i index) w).insts w.streams w.futures i _ (λ x. refl) (none_added w.insts w.streams w.futures i _ (remove_none index) h)
writers_kept g s (LeavesSet i index) w may h = same_tables w.insts w.streams w.futures i _ (λ x. refl) h
writers_kept g s (JoinsSet i index set) w may h = same_tables w.insts w.streams w.futures i _ (λ x. refl) h
writers_kept g s (HasBackpressure i pressure) w may h = same_tables w.insts w.streams w.futures i _ (λ x. refl) h
writers_kept g s (MakesChannel kind element) w may h = made_stands kind element w h
writers_kept g s (Offers e call) w may h = channel_stands e.kind e.number _ w (λ i index x c side there kind number. offered_drops e.kind e.side call c.ends x.side) h
writers_kept g s (Transfers e size values) w may h =
    channel_stands e.kind e.number _ (with_channel e.kind e.number (carried values) w) (λ i index x c side there kind number. transferred_drops e.kind e.side size (length values) c.ends x.side)
    (channel_stands e.kind e.number (carried values) w (λ i index x c side there kind number. refl) h)
writers_kept g s (Concludes e) w may h = channel_stands e.kind e.number _ w (λ i index x c side there kind number. concluded_drops e.kind e.side c.ends x.side) h
writers_kept g s (DropsEnd e) w may h =
    channel_stands e.kind e.number _ w
    (λ i index x c side there kind number.
    other_drops e.side x.side c.ends (λ same. may.1.0 (sym same ∙ side) i index (subst (EndStandsAt w.insts i index) (same_end x e kind number same) there))) h
writers_kept g s (GoesTo control) w may h = h
writers_kept g s (HasStore store) w may h = h
writers_kept g s SpendsUnit w may h = h
writers_kept g s (UsesPicks picks) w may h = h
writers_kept g s TakesItem w may h = h
writers_kept g s (IsCalled callee call values) w may h = h
writers_kept g s (Calls number callee subtask words) w may h = h
writers_kept g s (ComesBack t) w may h = h
writers_kept g s (Acts t) w may h = h
writers_kept g s (Begins n) w may h = h
writers_kept g s (Cancels t callee number words) w may h = h
writers_kept g s (Blocks t state) w may h = h
writers_kept g s (Exits t) w may h = h
writers_kept g s (IsRemoved t) w may h = h
writers_kept g s (Resolves t resolution) w may h = h
writers_kept g s (IsCancelled t cancellation) w may h = h
writers_kept g s (HasWord t slot word) w may h = h
writers_kept g s (HasNewStack t k) w may h = h
writers_kept g s (HasStack t k) w may h = h
writers_kept g s (LosesStack t) w may h = h
writers_kept g s (IsAnswered t words) w may h = h
writers_kept g s (IsTold t state) w may h = h
writers_kept g s (IsLent t handle) w may h = h
writers_kept g s (HasResult t words) w may h = h
