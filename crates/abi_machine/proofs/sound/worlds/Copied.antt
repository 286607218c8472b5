-- Reads and writes meet: typed worlds are left, where elements that go over are put inside the memory.
use Rattle.std.proofs.Common.{◌≡◌, ◌∙◌, inr, ◌+◌, ◌*◌, ◌%◌, ℕ, not, List, [], ◌∷◌, length, sym, subst, Option, Some, None, Ok}
use Rattle.std.specs.Prelude.{slice_index, nat_eq, nat_le, nat_lt}
use Rattle.syntax_trees.specs.declared.module_types.ValType.TheVariants.{I32}
use Rattle.wasm_numbers.specs.Types.{AreWords}
use Rattle.wasm_store.specs.Store.{Store}
use Rattle.wasm_store.proofs.Lists.{all_at}
use Rattle.syntax_trees.specs.declared.types.ValType.{ValType}
use Rattle.syntax_trees.specs.declared.value.Value.{Value}
use Rattle.laid_types.specs.Layout.{laid}
use Rattle.builtin_kinds.specs.declared.EndKind.{EndKind}
use Rattle.builtin_kinds.specs.declared.EndKind.TheVariants.{Stream, Future}
use Rattle.stream_ends.specs.declared.side.Side.{Side}
use Rattle.stream_ends.specs.declared.side.Side.TheVariants.{Reader}
use Rattle.stream_ends.specs.declared.open_copy.OpenCopy.{OpenCopy}
use Rattle.stream_ends.specs.declared.open_copy.By.TheVariants as by
use Rattle.stream_ends.specs.Ends.{is_copying, new_copy}
use Rattle.comp_graph.specs.declared.graph.BuiltinKind.{BuiltinKind}
use Rattle.comp_graph.specs.declared.graph.CanonFunc.{CanonFunc}
use Rattle.comp_graph.specs.declared.graph.CanonFunc.TheVariants as canon
use Rattle.comp_graph.specs.declared.graph.Options.{Options}
use Rattle.comp_graph.specs.Graph.{Graph, IsReallocThere}
use Rattle.trace_labels.specs.declared.label.BlockReason.TheVariants as reason
use Rattle.trace_labels.specs.declared.trap.TrapName.TheVariants as trap
use Rattle.lowering_laws.proofs.Bytes.{each_byte}
use Rattle.abi_machine.specs.Control.{EndRef}
use Rattle.abi_machine.specs.World.{ForCopy, InBuiltin, Channel, World}
use Rattle.abi_machine.specs.Edits.{offered_by, offered, with_channel}
use Rattle.abi_machine.specs.Canons.{canon_at, memory_of, realloc_of, bytes_of, options_of_kind, options_of_canon, inst_of_canon, options_at}
use Rattle.abi_machine.specs.Reading.{channel_at}
use Rattle.abi_machine.specs.Counting.{end_of}
use Rattle.abi_machine.specs.Finding.{end_at}
use Rattle.abi_machine.specs.Turn.{Turn}
use Rattle.abi_machine.specs.Copying.{Met, AtOnce, Moves, Stands, blocked_word, met_by, other_offer, is_within, read_of, write_of, next_place, elements_written, elements_read, moved_by, elements_moved, meeting_turn, meets}
use Rattle.abi_machine.specs.replies.Streams.{max_length, placed_well, copy_turn}
use Rattle.abi_machine.specs.sound.Firsts.{TaskIs}
use Rattle.abi_machine.specs.sound.Callees.{IsUsedGraph}
use Rattle.abi_machine.specs.sound.CallsFit.{IsCopyBy, CopiesAt}
use Rattle.abi_machine.specs.sound.Fitting.{CopiesFit}
use Rattle.abi_machine.specs.sound.Owners.{HasCanons}
use Rattle.abi_machine.specs.sound.MadeInstances.{WereMade}
use Rattle.abi_machine.specs.sound.TypedStacks.{WaitsTyped}
use Rattle.abi_machine.specs.sound.TypedWorlds.{GivesWord, GivesPlaces}
use Rattle.abi_machine.specs.sound.Values.{AllAre}
use Rattle.abi_machine.proofs.sound.Found.{some_same}
use Rattle.abi_machine.proofs.sound.Acted.{is_as}
use Rattle.abi_machine.proofs.sound.places.Givers.{KindGives, CanonGives, all_give}
use Rattle.abi_machine.proofs.sound.places.Moving.{read_by}
use Rattle.abi_machine.proofs.sound.planned.Reps.{memory_bytes}
use Rattle.abi_machine.proofs.sound.planned.Lifted.{IsLifting, elements_come}
use Rattle.abi_machine.proofs.sound.worlds.Turns.{Good, given_good, either_good, unless_good, refused_good, replied_good, blocked_good}
use Rattle.abi_machine.proofs.sound.worlds.Passing.{Beside, beside_lifts, lifted_good, gives_places}
use Rattle.abi_machine.proofs.sound.worlds.Called.{WaitsAs, at_of}

-- The function that gives places of a read.
reader_places : (g : Graph) → IsUsedGraph g → (s : Store) (what : EndKind) (side : Side) (element : Option ValType) (number : ℕ) (c : CanonFunc) → HasCanons g s → WereMade s g.cores → IsCopyBy g what side element number → canon_at g number ≡ Some c
    → GivesPlaces s (realloc_of s (options_of_canon c))
reader_places g used s what side element number c canons made h at =
    let given : KindGives g.cores g.canons h.builtin.kind = all_at (CanonGives g.cores g.canons) g.canons number (canon.Builtin h.builtin) (all_give used.made) h.there in
    let there : IsReallocThere g.cores g.canons h.options.realloc = (subst (KindGives g.cores g.canons) h.copies given).1 in
    let of_kind : IsReallocThere g.cores g.canons (options_of_kind h.builtin.kind).realloc = subst (λ (k : BuiltinKind). IsReallocThere g.cores g.canons (options_of_kind k).realloc) (sym h.copies) there in
    subst (λ (x : CanonFunc). GivesPlaces s (realloc_of s (options_of_canon x))) (some_same (sym h.there ∙ at)) (gives_places g s (options_of_kind h.builtin.kind) canons made of_kind)

module _ (g : Graph) (P : List ℕ → Type 0) (used : IsUsedGraph g) where
  abbrev OneWord : World → ℕ → Type 0
  OneWord w t = Beside g t (WaitsAs (I32 ∷ [])) w

  beside_channel : (w : World) (t : ℕ) (kind : EndKind) (number : ℕ) (f : Channel → Channel) → OneWord w t → OneWord (with_channel kind number f w) t
  beside_channel w t Stream number f h = record { ground = h.ground; first = h.first; is = h.is }
  beside_channel w t Future number f h = record { ground = h.ground; first = h.first; is = h.is }

  read_good : (t : ℕ) (e : EndRef) (size : ℕ) (read : OpenCopy) (c : CanonFunc) (element : ValType) (values : List Value) (w : World) → OneWord w t → GivesPlaces w.store (realloc_of w.store (options_of_canon c)) → Good g P (elements_read g t e size read c element values w)
  unfolding elements_read
  read_good t e size read c element values w h places =
      λ a inside. inr (record { ground = h.ground; acts = (t, h.first, is_as w.tasks t (WaitsAs (I32 ∷ []) w.store) _ (λ x k. ((k.1, places), inside)) h.is) })

  moved_good : (t : ℕ) (e : EndRef) (call read write : OpenCopy) (reading writing : CanonFunc) (count : ℕ) (element : Option ValType) (w : World) → OneWord w t → IsCopyBy g e.kind Reader element read.canon → canon_at g read.canon ≡ Some reading
      → Good g P (moved_by g t e call read write reading writing count element w)
  unfolding moved_by elements_written
  moved_good t e call read write reading writing count None w h reads at =
      λ a inside. inr (record {
        ground = h.ground;
        acts = (t, h.first, is_as w.tasks t (WaitsAs (I32 ∷ []) w.store) _ (λ x k. ((k.1, reader_places g used w.store e.kind Reader None read.canon reading h.ground.canons h.ground.made reads at), tt)) h.is);
      })
  moved_good t e call read write reading writing count (Some element) w h reads at =
      let R : World → Type 0 = Beside g t (WaitsAs (I32 ∷ [])) in
      let keeps : IsLifting R = beside_lifts g t (WaitsAs (I32 ∷ [])) (λ s x F same k. k) in
      let memory : Option ℕ = memory_of w.store (options_of_canon writing) in
      lifted_good g P R keeps (inst_of_canon writing) t (AllAre element) t (elements_written t write writing count element w) (λ values later. elements_read g t e call.length read reading element values later)
      (elements_come R keeps (inst_of_canon writing) t element (bytes_of w.store memory) (next_place element write) count w (each_byte (bytes_of w.store memory) (memory_bytes w.store memory h.ground.bytes)) h)
      (λ values later are k. read_good t e call.length read reading element values later k (reader_places g used later.store e.kind Reader (Some element) read.canon reading k.ground.canons k.ground.made reads at))

  meeting_good : (t : ℕ) (e : EndRef) (call : OpenCopy) (words : List ℕ) (index : ℕ) (c : Channel) (m : Met) (w : World) → ((passed : List ℕ) → P passed → AreWords (I32 ∷ []) passed) → GivesWord g call.canon → TaskIs w.tasks t (λ x. WaitsTyped g w.store call.canon x)
      → CopiesAt g w.streams w.futures e call.canon → CopiesFit g w.streams w.futures → channel_at w e.kind e.number ≡ Some c → OneWord w t → Good g P (meeting_turn g t e call words index c m w)
  unfolding meeting_turn elements_moved
  meeting_good t e call words index c (AtOnce payload) w takes gives waits own fit there h =
      replied_good g P t (payload ∷ []) (offered e call w) (at_of g P (offered e call w) t (I32 ∷ []) takes (beside_channel w t e.kind e.number _ h))
  meeting_good t e call words index c (Moves count) w takes gives waits own fit there h =
      given_good g P (other_offer e.side c.ends.view) _ (λ offer i. given_good g P (canon_at g (read_of e.side call offer).canon) _ (λ reading j. given_good g P (canon_at g (write_of e.side call offer).canon) _ (λ writing k.
      moved_good t e call (read_of e.side call offer) (write_of e.side call offer) reading writing count c.element w h (read_by g w e call offer c own fit there i) j)))
  meeting_good t e call words index c Stands w takes gives waits own fit there h =
      either_good g P (options_at g call.canon).is_async _ _
      (λ async. replied_good g P t (blocked_word ∷ []) (offered e call w) (at_of g P (offered e call w) t (I32 ∷ []) takes (beside_channel w t e.kind e.number _ h)))
      (λ sync. blocked_good g P t (InBuiltin call.canon words (ForCopy index)) (reason.Copy index) (offered e call w) (beside_channel w t e.kind e.number _ h).ground (still e.kind (λ (x : Channel). record x { ends = offered_by e.kind e.side call x.ends })) gives)
    where
      still : (kind : EndKind) (f : Channel → Channel) → TaskIs (with_channel kind e.number f w).tasks t (λ x. WaitsTyped g (with_channel kind e.number f w).store call.canon x)
      still Stream f = waits
      still Future f = waits

  pub meets_good : (t i : ℕ) (e : EndRef) (call : OpenCopy) (words : List ℕ) (index : ℕ) (w : World) → ((passed : List ℕ) → P passed → AreWords (I32 ∷ []) passed) → GivesWord g call.canon → TaskIs w.tasks t (λ x. WaitsTyped g w.store call.canon x)
      → CopiesAt g w.streams w.futures e call.canon → CopiesFit g w.streams w.futures → OneWord w t → Good g P (meets g t i e call words index w)
  unfolding meets
  meets_good t i e call words index w takes gives waits own fit h =
      given_good g P (channel_at w e.kind e.number) _ (λ c there. unless_good g P t (is_within g i e.side c.element c.ends.view) trap.SameInstance w _
      (λ apart. meeting_good t e call words index c (met_by e.kind e.side call c.ends.view) w takes gives waits own fit there h))

  placed_good : (t : ℕ) (bytes : List ℕ) (element : Option ValType) (place size : ℕ) (w : World) (more : Turn) → Good g P more → Good g P (placed_well t bytes element place size w more)
  unfolding placed_well
  placed_good t bytes None place size w more h = h
  placed_good t bytes (Some element) place size w more h =
      either_good g P (nat_eq size 0) _ _ (λ none. h) (λ some. unless_good g P t (not (nat_eq (place % (laid element).align) 0)) trap.Misaligned w _
      (λ aligned. unless_good g P t (not (nat_le (place + size * (laid element).size) (length bytes))) trap.Bounds w _ (λ inside. h)))

  pub copy_good : (t i number : ℕ) (what : EndKind) (side : Side) (element : Option ValType) (options : Options) (words : List ℕ) (size : ℕ) (w : World) → ((passed : List ℕ) → P passed → AreWords (I32 ∷ []) passed) → GivesWord g number
      → TaskIs w.tasks t (λ x. WaitsTyped g w.store number x) → ((e : EndRef) → end_at w what side element i (slice_index words 0) ≡ Ok e → CopiesAt g w.streams w.futures e number) → CopiesFit g w.streams w.futures → OneWord w t
      → Good g P (copy_turn g t i number what side element options words size w)
  unfolding copy_turn
  copy_good t i number what side element options words size w takes gives waits own fit h =
      refused_good g P t (end_at w what side element i (slice_index words 0)) w _ (λ (e : EndRef) found.
      unless_good g P t (is_copying (end_of w e)) trap.Busy w _ (λ idle. unless_good g P t (end_of w e).done trap.DoneEnd w _ (λ early.
      unless_good g P t (nat_lt max_length size) trap.TooLong w _ (λ short.
      placed_good t (bytes_of w.store (memory_of w.store options)) element (slice_index words 1) size w
      (meets g t i e (new_copy (by.Task t) number (slice_index words 1) size) words (slice_index words 0) w)
      (meets_good t i e (new_copy (by.Task t) number (slice_index words 1) size) words (slice_index words 0) w takes gives waits (own e found) fit h)))))
