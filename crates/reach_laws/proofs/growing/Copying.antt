-- Elements that go over where a read or write meets an offer are put inside the memory of the one that reads, and stores are left as they are.
use Rattle.std.proofs.Common.{◌≡◌, ◌∙◌, ◌≤◌, ◌+◌, ◌*◌, ◌%◌, ℕ, suc, Bool, true, false, not, List, [], ◌∷◌, length, refl, sym, ap, subst, arith, Option, Some, None, Ok, Err}
use Rattle.std.proofs.lemmas.Bool.Decides.{nat_tests}
use Rattle.std.proofs.lemmas.Nat.{mul-le}
use Rattle.std.specs.Prelude.{slice_index, nat_eq, nat_le, nat_lt}
use Rattle.wasm_numbers.specs.Types.{AreWords}
use Rattle.wasm_store.specs.Store.{Store}
use Rattle.syntax_trees.specs.declared.types.ValType.{ValType}
use Rattle.syntax_trees.specs.declared.value.Value.{Value}
use Rattle.laid_types.specs.Layout.{laid}
use Rattle.builtin_kinds.specs.declared.EndKind.{EndKind}
use Rattle.stream_ends.specs.declared.side.Side.{Side}
use Rattle.stream_ends.specs.declared.side.Side.TheVariants.{Reader, Writer}
use Rattle.stream_ends.specs.declared.open_copy.OpenCopy.{OpenCopy}
use Rattle.stream_ends.specs.declared.open_copy.By.TheVariants as by
use Rattle.stream_ends.specs.Ends.{end_at, standing_of, is_copying, new_copy}
use Rattle.comp_graph.specs.declared.graph.CanonFunc.{CanonFunc}
use Rattle.comp_graph.specs.declared.graph.Options.{Options}
use Rattle.comp_graph.specs.Graph.{Graph}
use Rattle.trace_labels.specs.declared.label.BlockReason.TheVariants as reason
use Rattle.trace_labels.specs.declared.trap.TrapName.TheVariants as trap
use Rattle.abi_machine.specs.LoweringOver.{Plan}
use Rattle.abi_machine.specs.Control.{EndRef}
use Rattle.abi_machine.specs.World.{ForCopy, InBuiltin, Channel, World}
use Rattle.abi_machine.specs.Edits.{offered}
use Rattle.abi_machine.specs.Canons.{canon_at, memory_of, bytes_of, options_in, options_of_canon, inst_of_canon, options_at, defines}
use Rattle.abi_machine.specs.Reading.{channel_at}
use Rattle.abi_machine.specs.Counting.{end_of}
use Rattle.abi_machine.specs.Finding as finding
use Rattle.abi_machine.specs.Lifting.{Kept, Stopped, Came}
use Rattle.abi_machine.specs.Passing.{elements_plan}
use Rattle.abi_machine.specs.Pausing.{entries_by}
use Rattle.abi_machine.specs.Turn.{Turn}
use Rattle.abi_machine.specs.Copying.{Met, AtOnce, Moves, Stands, met_by, other_offer, is_within, read_of, write_of, next_place, elements_written, elements_read, moved_by, elements_moved, meeting_turn, meets}
use Rattle.abi_machine.specs.replies.Streams.{max_length, placed_well, copy_turn}
use Rattle.abi_machine.specs.sound.Agreeing.{channel_in, FitsIn}
use Rattle.abi_machine.specs.sound.Copies.{IsCopied}
use Rattle.abi_machine.specs.sound.CopyPlaces.{IsInside, IsTested, CopiesStandInside}
use Rattle.abi_machine.specs.sound.Planned.{HaveReps, IsPlanned}
use Rattle.abi_machine.specs.sound.TypedPlans.{ComesWith}
use Rattle.abi_machine.specs.sound.Values.{AllAre}
use Rattle.abi_machine.proofs.sound.Found.{some_same}
use Rattle.abi_machine.proofs.sound.CopyKinds.{IsTypedEnd, end_typed}
use Rattle.abi_machine.proofs.sound.Due.{met_fits, channel_is, lifted_long}
use Rattle.abi_machine.proofs.sound.Lifted.{elements_keep}
use Rattle.abi_machine.proofs.sound.Lifts.{Leaves as LeavesWith}
use Rattle.abi_machine.proofs.sound.places.Givers.{held_same}
use Rattle.abi_machine.proofs.sound.planned.Given.{elements_are_typed, elements_are_taken}
use Rattle.abi_machine.proofs.sound.planned.Reps.{memory_bytes}
use Rattle.abi_machine.proofs.sound.worlds.Results.{planned_as}
use Rattle.reach_laws.proofs.Leaving.{Leaves, given_leaves, either_leaves, unless_leaves, refused_leaves, came_leaves}
use Rattle.reach_laws.proofs.growing.Stores.{IsOn, Grown}
use Rattle.reach_laws.proofs.growing.Meeting.{IsOneOf, call_has_room, standing_at, offer_has_room}
use Rattle.reach_laws.proofs.growing.Waking.{on_channel, blocked_grows}

-- What tests tell.
none_is : (n : ℕ) → nat_eq n 0 ≡ true → n ≡ 0
none_is n e = grind (arith, nat_tests)

not_false : (b : Bool) → not b ≡ false → b ≡ true
not_false true e = refl
not_false false e = cc

none_left : (n : ℕ) → not (nat_eq n 0) ≡ false → n ≡ 0
none_left n e = none_is n (not_false (nat_eq n 0) e)

within : (a b : ℕ) → not (nat_le a b) ≡ false → a ≤ b
within a b e = less (not_false (nat_le a b) e)
  where
    less : nat_le a b ≡ true → a ≤ b
    less k = grind (arith, nat_tests)

-- so many elements behind others
fits_behind : (copied count long size : ℕ) → copied + count ≤ long → copied * size + count * size ≤ long * size
fits_behind copied count long size h =
    let whole : (copied + count) * size ≤ long * size = mul-le (copied + count) size long size h (omega arith) in
    omega (arith, whole)

-- The elements of a read that has room for them, inside its memory.
reads_inside : (g : Graph) (t : Store) (read : OpenCopy) (reading : CanonFunc) (element : ValType) (values : List Value) (count : ℕ) → canon_at g read.canon ≡ Some reading
    → IsTested t (options_at g read.canon) (Some element) read.place read.length → read.copied + count ≤ read.length → length values ≡ count → AllAre element values
    → IsPlanned (λ words. Unit {0}) (length (bytes_of t (memory_of t (options_of_canon reading)))) (elements_plan (entries_by (defines g (inst_of_canon reading))) element values (next_place element read))
unfolding elements_plan
reads_inside g t read reading element [] count at tested room long are = tt
reads_inside g t read reading element (v ∷ values) count at tested room long are =
    let options : options_at g read.canon ≡ options_of_canon reading = ap options_in at in
    let some : read.length ≡ 0 → ⊥ = λ none. (let more : suc (length values) ≡ count = long in omega (arith, none, room, more)) in
    let inside : IsInside element read.place read.length (bytes_of t (memory_of t (options_at g read.canon))) = tested some in
    let bytes : ℕ = length (bytes_of t (memory_of t (options_of_canon reading))) in
    let whole : read.place + read.length * (laid element).size ≤ bytes = subst (λ (o : Options). read.place + read.length * (laid element).size ≤ length (bytes_of t (memory_of t o))) options inside.1 in
    let behind : read.copied * (laid element).size + count * (laid element).size ≤ read.length * (laid element).size = fits_behind read.copied count read.length (laid element).size room in
    let fits : next_place element read + count * (laid element).size ≤ bytes = omega (arith, whole, behind) in
    planned_as (AreWords []) (λ words. Unit {0}) (λ words a. tt) bytes (elements_plan (entries_by (defines g (inst_of_canon reading))) element (v ∷ values) (next_place element read))
    (elements_are_taken (defines g (inst_of_canon reading)) element (v ∷ values) (next_place element read) bytes are (subst (λ (n : ℕ). next_place element read + n * (laid element).size ≤ bytes) (sym long) fits))

module _ (g : Graph) (s : Store) where
  abbrev Fine : World → Type 0
  Fine v = Grown s v

  abbrev On : World → Type 0
  On w = IsOn s w.store

  -- what is known of a world in which a read or write is called
  pub record Copies (w : World) : Type 0 where
    pub on : On w
    pub reps : HaveReps w.insts
    pub copied : IsCopied w
    pub inside : CopiesStandInside g w

  -- what is read, and that it has room for what goes over
  pub record Reads (w : World) (element : Option ValType) (read : OpenCopy) (count : ℕ) : Type 0 where
    pub tested : IsTested w.store (options_at g read.canon) element read.place read.length
    pub room : read.copied + count ≤ read.length

  reads_of : (w : World) (e : EndRef) (c : Channel) (call offer : OpenCopy) (count : ℕ) → Copies w → channel_at w e.kind e.number ≡ Some c → IsTested w.store (options_at g call.canon) c.element call.place call.length → call.copied ≡ 0
      → IsOneOf e.kind call.length → other_offer e.side c.ends.view ≡ Some offer → met_by e.kind e.side call c.ends.view ≡ Moves count → Reads w c.element (read_of e.side call offer) count
  reads_of w e c call offer count h there tested fresh one meets_offer moves = by e.side refl
    where
      at : channel_in e.kind e.number w.streams w.futures ≡ Some c
      at = channel_is e.kind e.number w ∙ there

      by : (side : Side) → e.side ≡ side → Reads w c.element (read_of side call offer) count
      by Reader is =
          let most : count ≤ call.length = call_has_room e.kind e.side call c.ends.view count one moves in
          record { tested = tested; room = omega (arith, fresh, most) }
      by Writer is =
          let d : EndRef = record { kind = e.kind; number = e.number; side = Reader } in
          let stands : standing_of (end_at Reader c.ends.view).copy ≡ Some offer = subst (λ (x : Side). other_offer x c.ends.view ≡ Some offer) is meets_offer in
          let fits : FitsIn e.kind count offer = met_fits e.kind e.side call c.ends.view count offer moves meets_offer in
          record {
            tested = (h.inside d c offer at (standing_at Reader c.ends.view offer stands)).inside;
            room = offer_has_room w e.kind e.number c offer count h.copied there stands fits;
          }

  -- what is lifted of elements: values of their type, as many, over the same store
  came_typed : (t : ℕ) (write : OpenCopy) (c : CanonFunc) (count : ℕ) (element : ValType) (w : World) → Copies w → ComesWith (AllAre element) (elements_written t write c count element w)
  unfolding elements_written
  came_typed t write c count element w h =
      elements_are_typed (inst_of_canon c) t element (bytes_of w.store (memory_of w.store (options_of_canon c))) (next_place element write) count w (memory_bytes w.store (memory_of w.store (options_of_canon c)) h.on.bytes) h.reps

  came_long : (t : ℕ) (write : OpenCopy) (c : CanonFunc) (count : ℕ) (element : ValType) (w : World) (values : List Value) (k : Kept) → elements_written t write c count element w ≡ Ok (values, k) → length values ≡ count
  unfolding elements_written
  came_long t write c count element w values k e =
      lifted_long (inst_of_canon c) t element (bytes_of w.store (memory_of w.store (options_of_canon c))) (next_place element write) count w values k e

  abbrev SameKept : World → Kept → Type 0
  SameKept w k = k.world.store ≡ w.store

  abbrev SameStopped : World → Stopped → Type 0
  SameStopped w stop = stop.world.store ≡ w.store

  came_same : (t : ℕ) (write : OpenCopy) (c : CanonFunc) (count : ℕ) (element : ValType) (w : World) → LeavesWith (SameKept w) (SameStopped w) (elements_written t write c count element w)
  unfolding elements_written
  came_same t write c count element w =
      elements_keep (inst_of_canon c) t (λ v. v.store ≡ w.store) (Unit {0}) (λ j index v stands k. k) (λ j index v stands k. k) (λ index v b stands k. k) element (λ b. tt) (bytes_of w.store (memory_of w.store (options_of_canon c)))
      (next_place element write) count w refl

  read_grows : (t : ℕ) (e : EndRef) (size : ℕ) (read : OpenCopy) (reading : CanonFunc) (element : ValType) (values : List Value) (count : ℕ) (w later : World) → Copies w → later.store ≡ w.store → canon_at g read.canon ≡ Some reading
      → Reads w (Some element) read count → length values ≡ count → AllAre element values → Leaves Fine (elements_read g t e size read reading element values later)
  unfolding elements_read
  read_grows t e size read reading element values count w later h same at reads long are =
      let plan : Plan = elements_plan (entries_by (defines g (inst_of_canon reading))) element values (next_place element read) in
      let inside : IsPlanned (λ words. Unit {0}) (length (bytes_of w.store (memory_of w.store (options_of_canon reading)))) plan = reads_inside g w.store read reading element values count at reads.tested reads.room long are in
      let on : IsOn s later.store = subst (IsOn s) (sym same) h.on in
      (on, subst (λ (x : Store). IsPlanned (λ words. Unit {0}) (length (bytes_of x (memory_of x (options_of_canon reading)))) plan) (sym same) inside)

  moved_grows : (t : ℕ) (e : EndRef) (call read write : OpenCopy) (reading writing : CanonFunc) (count : ℕ) (element : Option ValType) (w : World) → Copies w → canon_at g read.canon ≡ Some reading → Reads w element read count
      → Leaves Fine (moved_by g t e call read write reading writing count element w)
  unfolding moved_by
  moved_grows t e call read write reading writing count None w h at reads = (h.on, tt)
  moved_grows t e call read write reading writing count (Some element) w h at reads =
      let came : Came (List Value) = elements_written t write writing count element w in
      came_leaves Fine t came (λ values later. elements_read g t e call.length read reading element values later)
      (λ x i. read_grows t e call.length read reading element x.0 count w x.1.world h (same_kept came (came_same t write writing count element w) x i) at reads (came_long t write writing count element w x.0 x.1 i)
      (typed_of came (came_typed t write writing count element w h) x i))
      (λ stop i. (subst (IsOn s) (sym (same_stopped came (came_same t write writing count element w) stop i)) h.on, tt))
    where
      same_kept : (came : Came (List Value)) → LeavesWith (SameKept w) (SameStopped w) came → (x : List Value × Kept) → came ≡ Ok x → x.1.world.store ≡ w.store
      same_kept came k x i = subst (λ (c : Came (List Value)). LeavesWith (SameKept w) (SameStopped w) c) i k

      same_stopped : (came : Came (List Value)) → LeavesWith (SameKept w) (SameStopped w) came → (stop : Stopped) → came ≡ Err stop → stop.world.store ≡ w.store
      same_stopped came k stop i = subst (λ (c : Came (List Value)). LeavesWith (SameKept w) (SameStopped w) c) i k

      typed_of : (came : Came (List Value)) → ComesWith (AllAre element) came → (x : List Value × Kept) → came ≡ Ok x → AllAre element x.0
      typed_of came k x i = (let both : ComesWith (AllAre element) (Ok x) = subst (λ (c : Came (List Value)). ComesWith (AllAre element) c) i k in both.0)

  meeting_grows : (t : ℕ) (e : EndRef) (call : OpenCopy) (words : List ℕ) (index : ℕ) (c : Channel) (m : Met) (w : World) → Copies w → channel_at w e.kind e.number ≡ Some c
      → IsTested w.store (options_at g call.canon) c.element call.place call.length → call.copied ≡ 0 → IsOneOf e.kind call.length → met_by e.kind e.side call c.ends.view ≡ m → Leaves Fine (meeting_turn g t e call words index c m w)
  unfolding meeting_turn elements_moved
  meeting_grows t e call words index c (AtOnce payload) w h there tested fresh one moves = (on_channel s e.kind e.number _ w h.on, tt)
  meeting_grows t e call words index c (Moves count) w h there tested fresh one moves =
      given_leaves Fine (other_offer e.side c.ends.view) _ (λ offer i. given_leaves Fine (canon_at g (read_of e.side call offer).canon) _ (λ reading j.
      given_leaves Fine (canon_at g (write_of e.side call offer).canon) _ (λ writing k.
      moved_grows t e call (read_of e.side call offer) (write_of e.side call offer) reading writing count c.element w h j (reads_of w e c call offer count h there tested fresh one i moves))))
  meeting_grows t e call words index c Stands w h there tested fresh one moves =
      either_leaves Fine (options_at g call.canon).is_async _ _ (λ async. (on_channel s e.kind e.number _ w h.on, tt))
      (λ sync. blocked_grows g s t (InBuiltin call.canon words (ForCopy index)) (reason.Copy index) (offered e call w) (on_channel s e.kind e.number _ w h.on))

  meets_grows : (t i : ℕ) (e : EndRef) (call : OpenCopy) (words : List ℕ) (index : ℕ) (w : World) → Copies w → ((c : Channel) → channel_at w e.kind e.number ≡ Some c → IsTested w.store (options_at g call.canon) c.element call.place call.length)
      → call.copied ≡ 0 → IsOneOf e.kind call.length → Leaves Fine (meets g t i e call words index w)
  unfolding meets
  meets_grows t i e call words index w h tested fresh one =
      given_leaves Fine (channel_at w e.kind e.number) _ (λ c there. unless_leaves Fine t (is_within g i e.side c.element c.ends.view) trap.SameInstance w _ (h.on, tt)
      (λ apart. meeting_grows t e call words index c (met_by e.kind e.side call c.ends.view) w h there (tested c there) fresh one refl))

  placed_grows : (t : ℕ) (options : Options) (element : Option ValType) (place size : ℕ) (w : World) (more : Turn) → On w → (IsTested w.store options element place size → Leaves Fine more)
      → Leaves Fine (placed_well t (bytes_of w.store (memory_of w.store options)) element place size w more)
  unfolding placed_well
  placed_grows t options None place size w more h k = k tt
  placed_grows t options (Some element) place size w more h k =
      let bytes : List ℕ = bytes_of w.store (memory_of w.store options) in
      let far : ℕ = place + size * (laid element).size in
      either_leaves Fine (nat_eq size 0) _ _ (λ e. k (λ some. absurd (some (none_is size e))))
      (λ e.
      unless_leaves Fine t (not (nat_eq (place % (laid element).align) 0)) trap.Misaligned w _ (h, tt) (λ a.
      unless_leaves Fine t (not (nat_le far (length bytes))) trap.Bounds w _ (h, tt) (λ b. k (λ some. (none_left (place % (laid element).align) a, within far (length bytes) b)))))

  pub copy_grows : (t i number : ℕ) (what : EndKind) (side : Side) (element : Option ValType) (options : Options) (words : List ℕ) (size : ℕ) (w : World) → Copies w → options_at g number ≡ options → IsOneOf what size
      → Leaves Fine (copy_turn g t i number what side element options words size w)
  unfolding copy_turn
  copy_grows t i number what side element options words size w h same one =
      refused_leaves Fine t (finding.end_at w what side element i (slice_index words 0)) w _ (λ why. (h.on, tt)) (λ (e : EndRef) found.
      unless_leaves Fine t (is_copying (end_of w e)) trap.Busy w _ (h.on, tt) (λ idle. unless_leaves Fine t (end_of w e).done trap.DoneEnd w _ (h.on, tt) (λ early.
      unless_leaves Fine t (nat_lt max_length size) trap.TooLong w _ (h.on, tt) (λ short.
      placed_grows t options element (slice_index words 1) size w (meets g t i e (new_copy (by.Task t) number (slice_index words 1) size) words (slice_index words 0) w) h.on (λ tested.
      (let typed : IsTypedEnd w what side element e = end_typed w i what side element (slice_index words 0) e found in
      meets_grows t i e (new_copy (by.Task t) number (slice_index words 1) size) words (slice_index words 0) w h
      (λ c there.
      let of_type : c.element ≡ element = ap (λ (x : Channel). x.element) (some_same (sym there ∙ typed.2.1)) ∙ held_same typed.2.0.element element typed.2.2 in
      subst (λ (o : Option ValType). IsTested w.store (options_at g number) o (slice_index words 1) size) (sym of_type)
      (subst (λ (o : Options). IsTested w.store o element (slice_index words 1) size) (sym same) tested)) refl
      (subst (λ (k : EndKind). IsOneOf k size) (sym typed.1) one)))))))
