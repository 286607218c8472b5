-- The place at the reader was tested of elements that go over: by the call that met the offer, or as the offer was made.
use Rattle.std.proofs.Common.{◌≡◌, inl, inr, ◌-◌, ◌+◌, ◌*◌, ◌%◌, ◌≤◌, ℕ, Bool, true, false, not, nat_eq, nat_le, if◌then◌else◌, List, [], ◌∷◌, length, refl, sym, ap, ◌∙◌, subst, ◌⊎◌, arith, Option, Some, None}
use Rattle.std.specs.List.{slice_get}
use Rattle.std.proofs.lemmas.Bool.Decides.{nat_tests}
use Rattle.std.proofs.lemmas.Nat.{mul-le}
use Rattle.syntax_trees.specs.declared.types.ValType.{ValType}
use Rattle.laid_types.specs.Layout.{laid}
use Rattle.copy_engine.specs.Nested.{bytes_in}
use Rattle.wasm_store.specs.Stack.{Stack}
use Rattle.wasm_store.specs.Store.{Store}
use Rattle.builtin_kinds.specs.declared.EndKind.{EndKind}
use Rattle.builtin_kinds.specs.declared.EndKind.TheVariants.{Stream, Future}
use Rattle.stream_ends.specs.declared.side.Side.{Side}
use Rattle.stream_ends.specs.declared.side.Side.TheVariants.{Reader, Writer}
use Rattle.stream_ends.specs.declared.open_copy.By.TheVariants as by
use Rattle.stream_ends.specs.declared.open_copy.OpenCopy.{OpenCopy}
use Rattle.stream_ends.specs.Ends.{EndsView, end_at, new_copy, other_side, standing_of}
use Rattle.channels.specs.declared.channel.Channel as kept_channel
use Rattle.channels.specs.Channels as channel
use Rattle.channels.specs.Channels.{with_ends}
use Rattle.comp_graph.specs.declared.graph.BuiltinKind.{BuiltinKind}
use Rattle.comp_graph.specs.declared.graph.CanonFunc.{CanonFunc}
use Rattle.comp_graph.specs.declared.graph.CanonFunc.TheVariants as canon
use Rattle.comp_graph.specs.declared.graph.Options.{Options}
use Rattle.comp_graph.specs.Graph.{Graph, passed_value, numbered_value}
use Rattle.comp_graph.specs.Passed.{MayBeAt, HasCanonType}
use Rattle.script_reader.specs.Script.{Script}
use Rattle.trace_labels.specs.declared.label.Label.{Label}
use Rattle.trace_labels.specs.declared.trap.TrapName.TheVariants as trap
use Rattle.graph_views.specs.Canons as seen
use Rattle.graph_views.specs.Canons.{instance_of}
use Rattle.instances.specs.declared.entry.EndEntry.{EndEntry}
use Rattle.instances.specs.declared.entry.WorldEntry.{WorldEntry}
use Rattle.instances.specs.declared.entry.WorldEntry.TheVariants as entry
use Rattle.instances.specs.Entries.{any_end_in}
use Rattle.instances.specs.Instances.{InstanceView, entry_of}
use Rattle.copy_replies.specs.declared.moving.CopySide.{CopySide}
use Rattle.copy_replies.specs.declared.moving.Moving.{Moving}
use Rattle.copy_replies.specs.Moves as moves
use Rattle.copy_replies.specs.Moves.{element_at, moving, moving_by, moving_in, side_by, side_found, sides_found, value_in}
use Rattle.copy_replies.specs.Reads.{placed_well}
use Rattle.programs.specs.declared.program.Program.{Program}
use Rattle.world_parts.specs.declared.parts.Copying.{Copying}
use Rattle.world_parts.specs.declared.parts.Flow.{Flow}
use Rattle.world_parts.specs.declared.parts.Flow.TheVariants as flow
use Rattle.world_parts.specs.declared.parts.Rest.{Rest}
use Rattle.world_parts.specs.Channels as kept_channels
use Rattle.world_parts.specs.Channels.{channel_of, kind_of_end}
use Rattle.world_parts.specs.Held as kept
use Rattle.world_parts.specs.Held.{Held, Done, Gives, Traps, after, given}
use Rattle.world_parts.specs.Places as places
use Rattle.world_parts.specs.Places.{bytes_at}
use Rattle.value_moves.specs.Lowering.{address_or_none}
use Rattle.value_moves.specs.Transferring.{reader_of}
use Rattle.machine_runs.specs.Moving.{woken}
use Rattle.machine_runs.specs.Worlds.{handed}
use Rattle.abi_machine.specs.Control.{EndRef}
use Rattle.abi_machine.specs.World.{Channel, World, first_world}
use Rattle.abi_machine.specs.Canons.{bytes_of, canon_at, memory_of, options_at, options_in}
use Rattle.abi_machine.specs.Reading.{channel_at}
use Rattle.abi_machine.specs.Copying as machine
use Rattle.abi_machine.specs.Run.{Reaches}
use Rattle.abi_machine.specs.sound.Agreeing.{channel_in}
use Rattle.abi_machine.specs.sound.Copies.{IsCopied}
use Rattle.abi_machine.specs.sound.CopyPlaces.{IsInside, IsTested, StandsInside}
use Rattle.abi_machine.specs.sound.GoingOn.{IsStanding}
use Rattle.abi_machine.specs.sound.Owners.{IsApart}
use Rattle.abi_machine.proofs.sound.Copied.{first_is_copied, copies_stay, sound_there}
use Rattle.abi_machine.proofs.sound.Due.{channel_is}
use Rattle.abi_machine.proofs.sound.Found.{some_same}
use Rattle.abi_machine.proofs.sound.Reached.{first_stands, standing_stays}
use Rattle.reach_laws.specs.Reached.{ReachedStandInside}
use Rattle.reach_laws.specs.Runnable.{IsRunnable}
use Rattle.standing.specs.Channels.{IsEndsType}
use Rattle.standing.specs.Stands.{ChannelStands, Stands}
use Rattle.standing.proofs.CopyMeetings.{copying_stands}
use Rattle.standing.proofs.Delivering.{kind_is}
use Rattle.standing.proofs.EndsFound.{EndFound, end_is_found}
use Rattle.standing.proofs.EndTypes.{one_element}
use Rattle.standing.proofs.Lists.{BothAt, at_both}
use Rattle.standing.proofs.LoweredMemories.{same_bytes}
use Rattle.standing.proofs.Memories.{bytes_alike}
use Rattle.run_laws.specs.Copied.{IsPlacedWell}
use Rattle.run_laws.specs.Supplied.{RestsReached}
use Rattle.run_laws.specs.SuppliedPassings.{IsBehind, IsProgramOf, PlacesSupplied}
use Rattle.run_laws.specs.Transfers.{HasTestedPlace}
use Rattle.run_laws.proofs.Canons.{options_same}
use Rattle.run_laws.proofs.Sites.{memory_there}
use Rattle.run_laws.proofs.Transfers.{SideIs, place_is, side_is}
use Rattle.run_laws.proofs.onward.Led.{By, CallLed, CopiesLed, calls_led}
use Rattle.run_laws.proofs.onward.Meets.{HasMet, HasRoom, SoundIfFuture, room_met}
use Rattle.run_laws.proofs.onward.Midst.{memories_then}
use Rattle.run_laws.proofs.onward.Multiples.{behind_aligned, laid_whole}
use Rattle.run_laws.proofs.supplied.Hears.{memory_alike}

-- In a world that a run reaches the counts of copies are in their ranges.
copied_from : (g : Graph) (s : Script) (steps : List (List Label)) (w v : World) → IsApart g → IsStanding g s w → IsCopied w → Reaches g s w steps v → IsCopied v
copied_from g s [] w v apart stands copied r = subst IsCopied (sym r) copied
copied_from g s (labels ∷ steps) w v apart stands copied r =
    copied_from g s steps r.0 v apart (standing_stays g s w r.0 labels apart stands r.1) (copies_stay g s w r.0 labels stands.alone copied r.1) r.2

reached_copied : (g : Graph) (s : Script) (steps : List (List Label)) (w : World) → IsApart g → Reaches g s (first_world g) steps w → IsCopied w
reached_copied g s steps w apart r = copied_from g s steps (first_world g) w apart (first_stands g s apart) (first_is_copied g) r

sound_in : (k : EndKind) (number : ℕ) (c : Channel) (w : World) → channel_at w k number ≡ Some c → IsCopied w → SoundIfFuture k c.ends.view
sound_in Stream number c w there copied = tt
sound_in Future number c w there copied = sound_there Future number c w there copied

-- What a test tells.
is_zero : (n : ℕ) → nat_eq n 0 ≡ true → n ≡ 0
is_zero n e = grind (arith, nat_tests)

is_within : (a b : ℕ) → nat_le a b ≡ true → a ≤ b
is_within a b e = grind (arith, nat_tests)

tested_by : (type : ValType) (memory : Option ℕ) (place count : ℕ) (h : Held) → placed_well (Some type) memory place count h ≡ Gives tt h → (count ≡ 0 → ⊥)
    → IsInside type place count (bytes_at memory h.store)
unfolding placed_well
tested_by type memory place count h e some =
    by_test (nat_eq count 0) (nat_eq (place % (laid type).align) 0) (nat_le (place + count * (laid type).size) (length (bytes_at memory h.store))) refl refl refl e
  where
    by_test : (a b c : Bool) → nat_eq count 0 ≡ a → nat_eq (place % (laid type).align) 0 ≡ b → nat_le (place + count * (laid type).size) (length (bytes_at memory h.store)) ≡ c
        → (let d : Done (Unit {0}) = if a then Gives tt h else if not b then Traps trap.Misaligned h else if not c then Traps trap.Bounds h else Gives tt h in d) ≡ Gives tt h
        → IsInside type place count (bytes_at memory h.store)
    by_test true b c none aligned inside e = absurd (some (is_zero count none))
    by_test false false c none aligned inside e = absurd (cc)
    by_test false true false none aligned inside e = absurd (cc)
    by_test false true true none aligned inside e = (is_zero (place % (laid type).align) aligned, is_within (place + count * (laid type).size) (length (bytes_at memory h.store)) inside)

-- Many behind others.
fits_behind : (copied count long size : ℕ) → copied + count ≤ long → copied * size + count * size ≤ long * size
fits_behind copied count long size h =
    let whole : (copied + count) * size ≤ long * size = mul-le (copied + count) size long size h (omega arith) in
    omega (arith, whole)

-- The end at the index is of the type of the built-in.
typed_at : (values : List ValType) (p : Program) (s : Script) (prog : IsProgramOf p values s) (o : Option (Option ℕ)) (c : Option CanonFunc) (type : ℕ) (f : CanonFunc)
    → BothAt (HasCanonType (record { funcs = prog.funcs; values = values })) o c → o ≡ Some (Some type) → c ≡ Some f → HasCanonType (record { funcs = prog.funcs; values = values }) (Some type) f
typed_at values p s prog None c type f both one other = absurd (cc)
typed_at values p s prog (Some n) None type f both one other = absurd (cc)
typed_at values p s prog (Some n) (Some d) type f both one other =
    subst (λ (z : CanonFunc). HasCanonType (record { funcs = prog.funcs; values = values }) (Some type) z) (some_same other)
    (subst (λ (z : Option ℕ). HasCanonType (record { funcs = prog.funcs; values = values }) z d) (some_same one) both)

module _ (p : Program) (values : List ValType) (s : Script) (h : Held) (number : ℕ) (x : Copying) (prog : IsProgramOf p values s) (later : Held) (t : ℕ)
    (l : CopiesLed p.graph.now p.ends.now number t h later x) where
  abbrev the_graph : Graph
  the_graph = p.graph.now

  pub element_is : element_at the_graph x.canon ≡ l.element
  element_is = ap (λ (n : ℕ). element_at the_graph n) l.called ∙ ap value_in l.made ∙ ap passed_value l.is

  pub canon_is : (c : CanonFunc) → canon_at the_graph x.canon ≡ Some c → canon.Builtin l.builtin ≡ c
  canon_is c made = some_same (sym l.made ∙ ap (λ (n : ℕ). canon_at the_graph n) (sym l.called) ∙ made)

  pub kept_here : (c : CanonFunc) (i : InstanceView) → canon_at the_graph x.canon ≡ Some c → slice_get later.instances (instance_of c) ≡ Some i → slice_get h.instances l.builtin.instance ≡ Some i
  kept_here c i made here =
      ap (λ (ls : List InstanceView). slice_get ls l.builtin.instance) (sym l.led.instances)
      ∙ ap (λ (d : CanonFunc). slice_get later.instances (instance_of d)) (canon_is c made)
      ∙ here

  pub end_typed : (i : InstanceView) (e : EndEntry) → slice_get h.instances l.builtin.instance ≡ Some i → entry_of i x.index ≡ Some (entry.End e)
      → IsEndsType values l.of_what (element_at the_graph x.canon) e.end_type
  end_typed i e here stands =
      let of_type : e.end_type ≡ l.type = l.end i e here stands in
      let all : BothAt (HasCanonType (record { funcs = prog.funcs; values = values })) (slice_get p.ends.now number) (canon_at the_graph number) =
      at_both (HasCanonType (record { funcs = prog.funcs; values = values })) p.ends.now the_graph.canons number prog.typed.canons in
      let has : HasCanonType (record { funcs = prog.funcs; values = values }) (Some l.type) (canon.Builtin l.builtin) =
      typed_at values p s prog (slice_get p.ends.now number) (canon_at the_graph number) l.type (canon.Builtin l.builtin) all l.typed l.made in
      let ends : MayBeAt values (Some l.type) (numbered_value l.builtin.kind) = has in
      let type_is : IsEndsType values l.of_what l.element l.type = subst (λ (k : BuiltinKind). MayBeAt values (Some l.type) (numbered_value k)) l.is ends in
      subst (λ (o : Option ValType). IsEndsType values l.of_what o e.end_type) (sym element_is) (subst (λ (n : ℕ). IsEndsType values l.of_what l.element n) (sym of_type) type_is)

module _ (inside : ReachedStandInside) (p : Program) (values : List ValType) (s : Script) (h : Held) (stacks : List (List Stack)) (w : World) (number : ℕ) (x : Copying) (runs : IsRunnable p.graph.now s)
    (prog : IsProgramOf p values s) (r : RestsReached p values s h stacks w) (later : Held) (now : List (List Stack)) (v : World) (b : IsBehind p values s later now v) (t : ℕ)
    (l : CopiesLed p.graph.now p.ends.now number t h later x) where
  abbrev g : Graph
  g = p.graph.now

  abbrev st : Stands g values s h stacks w
  st = r.there.stands

  abbrev here : Held
  here = handed later

  abbrev element : Option ValType
  element = element_at g x.canon

  abbrev call : OpenCopy
  call = new_copy (by.Task t) x.canon x.place x.length

  -- Streams and futures then, and the memory that options name.
  handed_on : (k : EndKind) (n : ℕ) → kept_channels.channel_at k n here ≡ kept_channels.channel_at k n later
  handed_on Stream n = refl
  handed_on Future n = refl

  memory_named : (n : ℕ) (c : CanonFunc) → canon_at g n ≡ Some c → places.memory_of (seen.options_of c) here ≡ memory_of later.store (options_at g n)
  memory_named n c is =
      ap (λ (o : Options). places.memory_of o here) (options_same c ∙ sym (ap options_in is))
      ∙ memories_then p values s h stacks w later now v st b l.led prog n
      ∙ ap (λ (y : Store). memory_of y (options_at g n)) (sym b.stands.same_store)

  -- The elements that are read were tested, and there is room for those that go over.
  record IsRead (type : ValType) (read : OpenCopy) : Type 0 where
    tested : IsTested later.store (options_at g read.canon) (Some type) read.place read.length
    room : read.copied + x.count ≤ read.length
    some : 1 ≤ x.count

  placed_at : (type : ValType) (read : OpenCopy) (c : CanonFunc) (place : ℕ) → IsRead type read → canon_at g read.canon ≡ Some c → moves.next_place (Some type) read ≡ Some place
      → IsPlacedWell type x.count place (bytes_in (address_or_none (places.memory_of (seen.options_of c) here) later.store) later.store)
  placed_at type read c place q is next =
      let size : ℕ = (laid type).size in
      let wanted : Option ℕ = memory_of later.store (options_at g read.canon) in
      let memory : Option ℕ = places.memory_of (seen.options_of c) here in
      let i : IsInside type read.place read.length (bytes_of later.store wanted) =
      q.tested (λ none. (let room : read.copied + x.count ≤ read.length = q.room in let some : 1 ≤ x.count = q.some in omega (arith, room, none, some))) in
      let at : place ≡ read.place + read.copied * size = place_is (Some type) type read place refl next in
      let bytes : bytes_of later.store wanted ≡ bytes_in (address_or_none memory later.store) later.store =
      same_bytes wanted (address_or_none memory later.store) later.store (memory_there memory wanted later.store later.store (memory_named read.canon c is) refl) in
      let behind : read.copied * size + x.count * size ≤ read.length * size = fits_behind read.copied x.count read.length size q.room in
      let whole : read.place + read.length * size ≤ length (bytes_of later.store wanted) = i.1 in
      record {
        aligned = ap (λ (n : ℕ). n % (laid type).align) at ∙ behind_aligned read.place read.copied size (laid type).align i.0 (laid_whole type);
        inside = subst (λ (bs : List ℕ). place + x.count * size ≤ length bs) bytes (omega (arith, at, behind, whole));
      }

  -- The call itself, and the offer.
  call_read : (type : ValType) → element ≡ Some type → (offer : OpenCopy) → HasRoom x.length x.count offer → IsRead type call
  call_read type is offer room =
      let options : seen.options_at g number ≡ seen.options_of (canon.Builtin l.builtin) = ap seen.options_in l.made in
      let named : places.memory_of (seen.options_at g number) h ≡ memory_of later.store (options_at g x.canon) =
      sym (memory_alike (seen.options_at g number).memory h here l.memories)
      ∙ ap (λ (o : Options). places.memory_of o here) options
      ∙ memory_named number (canon.Builtin l.builtin) l.made
      ∙ ap (λ (n : ℕ). memory_of later.store (options_at g n)) (sym l.called) in
      let bytes : bytes_at (places.memory_of (seen.options_at g number) h) h.store ≡ bytes_of later.store (memory_of later.store (options_at g x.canon)) =
      ap (λ (m : Option ℕ). bytes_at m h.store) named
      ∙ ap (λ (y : Store). bytes_at (memory_of later.store (options_at g x.canon)) y) (sym l.store)
      ∙ bytes_alike (memory_of later.store (options_at g x.canon)) later.store in
      let typed : element_at g number ≡ Some type = ap (λ (n : ℕ). element_at g n) (sym l.called) ∙ is in
      let tests : placed_well (Some type) (places.memory_of (seen.options_at g number) h) x.place x.length h ≡ Gives tt h =
      subst (λ (o : Option ValType). placed_well o (places.memory_of (seen.options_at g number) h) x.place x.length h ≡ Gives tt h) typed l.placed in
      record {
        tested = λ some. subst (λ (bs : List ℕ). IsInside type x.place x.length bs) bytes (tested_by type (places.memory_of (seen.options_at g number) h) x.place x.length h tests some);
        room = (let most : x.count ≤ x.length = room.own in let none : 0 + x.count ≤ x.length = omega (arith, most) in none);
        some = room.some;
      }

  offer_read : (type : ValType) (e : EndEntry) (a : Channel) (offer : OpenCopy) → channel_at w l.of_what e.number ≡ Some a → a.element ≡ Some type
      → standing_of (end_at Reader a.ends.view).copy ≡ Some offer → HasRoom x.length x.count offer → IsRead type offer
  offer_read type e a offer there is stands room =
      let d : EndRef = record { kind = l.of_what; number = e.number; side = Reader } in
      let at : channel_in l.of_what e.number w.streams w.futures ≡ Some a = channel_is l.of_what e.number w ∙ there in
      let stood : StandsInside g w.store a.element offer = inside g s r.there.steps w runs r.there.reached d a offer at (copy_there (end_at Reader a.ends.view).copy stands) in
      let of_type : IsTested w.store (options_at g offer.canon) (Some type) offer.place offer.length =
      subst (λ (o : Option ValType). IsTested w.store (options_at g offer.canon) o offer.place offer.length) is stood.inside in
      record {
        tested = subst (λ (y : Store). IsTested y (options_at g offer.canon) (Some type) offer.place offer.length) (sym (l.store ∙ st.same_store)) of_type;
        room = room.other;
        some = room.some;
      }
    where
      copy_there : (o : Option OpenCopy) → standing_of o ≡ Some offer → o ≡ Some offer
      copy_there None e = absurd (cc)
      copy_there (Some copy) e = by_test copy.standing e
        where
          by_test : (b : Bool) → (let o : Option OpenCopy = if b then Some copy else None in o) ≡ Some offer → Some copy ≡ Some offer
          by_test true e = e
          by_test false e = absurd (cc)

  reader_read : (type : ValType) (e : EndEntry) (a : Channel) (offer : OpenCopy) → element ≡ Some type → channel_at w l.of_what e.number ≡ Some a → a.element ≡ element
      → standing_of (end_at (other_side e.side) a.ends.view).copy ≡ Some offer → HasRoom x.length x.count offer → IsRead type (moves.read_of e.side call offer)
  reader_read type e a offer is there same stands room = by_side e.side refl
    where
      by_side : (side : Side) → e.side ≡ side → IsRead type (moves.read_of side call offer)
      by_side Reader side = call_read type is offer room
      by_side Writer side = offer_read type e a offer there (same ∙ is) (subst (λ (y : Side). standing_of (end_at (other_side y) a.ends.view).copy ≡ Some offer) side stands) room

  -- What goes over, by its reader.
  abbrev Placed : ValType → Moving → Type 0
  Placed type m = IsPlacedWell type m.count m.reader.place (bytes_in (reader_of m here).options.memory later.store)

  abbrev sides : EndKind → EndEntry → ℕ → OpenCopy → Done Moving
  sides k e at offer = sides_found g element k e t at x offer here

  moves_same : (m n : Moving) → Gives m here ≡ Gives n here → m ≡ n
  moves_same m n e = cc

  placed_sides : (type : ValType) (m : Moving) (k : EndKind) (e : EndEntry) (at : ℕ) (offer : OpenCopy) → element ≡ Some type → IsRead type (moves.read_of e.side call offer) → sides k e at offer ≡ Gives m here
      → Placed type m
  unfolding sides_found
  placed_sides type m k e at offer is q so = elim (side_is g element (moves.read_of e.side call offer) here) [
    | inl none ↦ absurd (never (sym (ap (λ (q : Done CopySide). after q (λ reader j.
        after (side_found g element (moves.write_of e.side call offer) j) (λ writer l. Gives (moving_by k e t at x reader writer) l))) none) ∙ so))
    | inr f ↦ by_writer f (side_is g element (moves.write_of e.side call offer) here)
  ]
    where
      never : kept.Stuck ≡ Gives m here → ⊥
      never e = cc

      by_writer : (f : SideIs g element (moves.read_of e.side call offer) here) → (side_found g element (moves.write_of e.side call offer) here ≡ kept.Stuck) ⊎ SideIs g element (moves.write_of e.side call offer) here
          → Placed type m
      by_writer f (inl none) =
          absurd (never (sym (ap (λ (q : Done CopySide). after q (λ reader j.
          after (side_found g element (moves.write_of e.side call offer) j) (λ writer l. Gives (moving_by k e t at x reader writer) l))) f.gives
          ∙ ap (λ (q : Done CopySide). after q (λ writer l. Gives (moving_by k e t at x (side_by (moves.read_of e.side call offer) f.canon f.place here) writer) l)) none) ∙ so))
      by_writer f (inr v) =
          let n : Moving = moving_by k e t at x (side_by (moves.read_of e.side call offer) f.canon f.place here) (side_by (moves.write_of e.side call offer) v.canon v.place here) in
          let same : n ≡ m =
          moves_same n m
          (sym (ap (λ (q : Done CopySide). after q (λ reader j.
          after (side_found g element (moves.write_of e.side call offer) j) (λ writer l. Gives (moving_by k e t at x reader writer) l))) f.gives
          ∙ ap (λ (q : Done CopySide). after q (λ writer l. Gives (moving_by k e t at x (side_by (moves.read_of e.side call offer) f.canon f.place here) writer) l)) v.gives) ∙ so) in
          let next : moves.next_place (Some type) (moves.read_of e.side call offer) ≡ Some f.place =
          ap (λ (o : Option ValType). moves.next_place o (moves.read_of e.side call offer)) (sym is) ∙ f.placed in
          subst (λ (y : Moving). Placed type y) same (placed_at type (moves.read_of e.side call offer) f.canon f.place q f.is next)

  -- The end at the index of the call, and the offer that it meets.
  placed_end : (type : ValType) (m : Moving) (i : InstanceView) (e : EndEntry) (at : ℕ) → element ≡ Some type → slice_get h.instances l.builtin.instance ≡ Some i → slice_get later.instances l.builtin.instance ≡ Some i
      → entry_of i x.index ≡ Some (entry.End e)
      → given (channel_of e here) (λ c. given (moves.other_offer e.side c) (λ offer. sides (kind_of_end e here) e at offer)) ≡ Gives m here → Placed type m
  placed_end type m i e at is kept_i kept_now stands so =
      by_offer (machine.other_offer e.side a.ends.view) refl
      (sym (ap (λ (k : EndKind). given (kept_channels.channel_at k e.number here) (λ c. given (moves.other_offer e.side c) (λ offer. sides k e at offer))) kind
      ∙ ap (λ (q : Option kept_channel.Channel). given q (λ c. given (moves.other_offer e.side c) (λ offer. sides l.of_what e at offer))) (handed_on l.of_what e.number ∙ met.then_is)
      ∙ ap (λ (q : Option OpenCopy). given q (λ offer. sides l.of_what e at offer)) offers) ∙ so)
    where
      typed : IsEndsType values l.of_what element e.end_type
      typed = end_typed p values s h number x prog later t l i e kept_i stands

      before : EndFound values h w l.of_what e
      before = end_is_found g values s h stacks w l.of_what element e (r.ends l.builtin.instance x.index i e kept_i stands) typed st

      after_it : EndFound values later v l.of_what e
      after_it = end_is_found g values s later now v l.of_what element e (b.ends l.builtin.instance x.index i e kept_now stands) typed b.stands

      kind : kind_of_end e here ≡ l.of_what
      kind = kind_is g values s later now v l.of_what e after_it b.stands

      a : Channel
      a = before.other

      met : HasMet e.side t number x.place x.length x.count (kept_channels.channel_at l.of_what e.number h) (kept_channels.channel_at l.of_what e.number later)
      met = l.met i e kept_i stands

      alike : ChannelStands values l.of_what met.met a
      alike = subst (λ (c : kept_channel.Channel). ChannelStands values l.of_what c a) (some_same (sym before.here ∙ met.here)) before.alike

      offers : moves.other_offer e.side (with_ends (channel.offered e.side (by.Task t) number x.place x.length met.met.ends) met.met) ≡ machine.other_offer e.side a.ends.view
      offers =
          ap (λ (view : EndsView). standing_of (end_at (other_side e.side) view).copy)
          (copying_stands values l.of_what e.side (by.Task t) number x.place x.length x.count met.met a met.meets alike).ends

      by_offer : (q : Option OpenCopy) → machine.other_offer e.side a.ends.view ≡ q → given q (λ offer. sides l.of_what e at offer) ≡ Gives m here → Placed type m
      by_offer None none so = absurd (cc)
      by_offer (Some offer) there so =
          let room : HasRoom x.length x.count offer =
          room_met l.of_what e.side (by.Task t) number x.place x.length x.count met.met.ends a.ends.view offer alike.of alike.ends l.fits
          (sound_in l.of_what e.number a w before.there (reached_copied g s r.there.steps w r.there.apart r.there.reached)) there met.meets in
          let same : a.element ≡ element = one_element values e.end_type l.of_what l.of_what a.element element before.typed typed in
          placed_sides type m l.of_what e at offer is (reader_read type e a offer is before.there same there room) so

  by_entry : (type : ValType) (m : Moving) (i : InstanceView) (at : ℕ) → element ≡ Some type → slice_get h.instances l.builtin.instance ≡ Some i → slice_get later.instances l.builtin.instance ≡ Some i
      → (q : Option WorldEntry) → entry_of i x.index ≡ q
      → given (any_end_in q) (λ e. given (channel_of e here) (λ c. given (moves.other_offer e.side c) (λ offer. sides (kind_of_end e here) e at offer))) ≡ Gives m here → Placed type m
  by_entry type m i at is kept_i kept_now None none so = absurd (cc)
  by_entry type m i at is kept_i kept_now (Some (entry.Handle y)) other so = absurd (cc)
  by_entry type m i at is kept_i kept_now (Some (entry.Subtask callee)) other so = absurd (cc)
  by_entry type m i at is kept_i kept_now (Some (entry.Set set)) other so = absurd (cc)
  by_entry type m i at is kept_i kept_now (Some (entry.End e)) stands so = placed_end type m i e at is kept_i kept_now stands so

  by_instance : (type : ValType) (m : Moving) (c : CanonFunc) → canon_at g x.canon ≡ Some c → element ≡ Some type → (q : Option InstanceView) → slice_get later.instances (instance_of c) ≡ q
      → after (given q (λ i. Gives (entry_of i x.index) here)) (λ y k. given (any_end_in y) (λ e. given (channel_of e k) (λ channel. given (moves.other_offer e.side channel) (λ offer.
      sides_found g element (kind_of_end e k) e t (instance_of c) x offer k)))) ≡ Gives m here → Placed type m
  by_instance type m c made is None none so = absurd (cc)
  by_instance type m c made is (Some i) there so =
      let kept_i : slice_get h.instances l.builtin.instance ≡ Some i = kept_here p values s h number x prog later t l c i made there in
      by_entry type m i (instance_of c) is kept_i (ap (λ (ls : List InstanceView). slice_get ls l.builtin.instance) l.led.instances ∙ kept_i) (entry_of i x.index) refl so

  by_canon : (type : ValType) (m : Moving) → element ≡ Some type → (q : Option CanonFunc) → canon_at g x.canon ≡ q → given q (λ c. moving_in g t (instance_of c) x here) ≡ Gives m here → Placed type m
  unfolding moving_in
  by_canon type m is None none so = absurd (cc)
  by_canon type m is (Some c) made so = by_instance type m c made is (slice_get later.instances (instance_of c)) refl so

  pub place_tested : HasTestedPlace p here t x
  unfolding moving
  place_tested m type gives is = by_canon type m is (canon_at g x.canon) refl gives

pub places_supplied : ReachedStandInside → PlacesSupplied
places_supplied inside p values s h stacks w number x runs prog r is later now v gives b t acts =
    let called : CallLed p.graph.now p.ends.now number h (flow.Copies x) later =
    subst (λ (d : Done Flow). By (CallLed p.graph.now p.ends.now number h) d) (ap (λ (y : Rest). woken p.graph.now p.ends.now y h) (sym is) ∙ gives) (calls_led p.graph.now p.ends.now number h) in
    let l : CopiesLed p.graph.now p.ends.now number called.0 h later x = called.2 in
    let same : called.0 ≡ t = some_same (sym called.1 ∙ ap (λ (c : List ℕ). slice_get c (length c - 1)) (sym l.led.chain) ∙ acts) in
    place_tested inside p values s h stacks w number x runs prog r later now v b t (subst (λ (n : ℕ). CopiesLed p.graph.now p.ends.now number n h later x) same l)
