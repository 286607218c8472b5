-- A copy as a whole: what is kept finds what the machine finds.
use Rattle.std.proofs.Common.{◌≡◌, ◌⊎◌, inl, inr, ◌+◌, ◌*◌, ◌^◌, ℕ, Bool, true, false, nat_lt, if◌then◌else◌, List, refl, sym, ap, ◌∙◌, subst, Option, Some, None}
use Rattle.std.specs.List.{slice_get}
use Rattle.wasm_store.specs.Stack.{Stack}
use Rattle.syntax_trees.specs.declared.types.ValType.{ValType}
use Rattle.laid_types.specs.Layout.{laid}
use Rattle.laid_types.specs.Handles.{held_borrow}
use Rattle.handle_table.specs.History.{live}
use Rattle.builtin_kinds.specs.declared.EndKind.{EndKind}
use Rattle.stream_ends.specs.declared.side.Side.{Side}
use Rattle.stream_ends.specs.declared.side.Side.TheVariants.{Reader, Writer}
use Rattle.stream_ends.specs.declared.open_copy.By.{By}
use Rattle.stream_ends.specs.declared.open_copy.By.TheVariants as by
use Rattle.stream_ends.specs.declared.open_copy.OpenCopy.{OpenCopy}
use Rattle.stream_ends.specs.Ends.{EndsView, new_copy, other_side, end_at, standing_of}
use Rattle.channels.specs.declared.channel.Channel as kept_channel
use Rattle.comp_graph.specs.declared.graph.CanonFunc.{CanonFunc}
use Rattle.comp_graph.specs.declared.graph.Options.{Options}
use Rattle.comp_graph.specs.Graph.{Graph}
use Rattle.comp_graph.specs.Passed.{MayBeAt}
use Rattle.graph_views.specs.Canons.{canon_at, instance_of}
use Rattle.instances.specs.declared.entry.EndEntry.{EndEntry}
use Rattle.instances.specs.declared.entry.WorldEntry.{WorldEntry}
use Rattle.instances.specs.declared.entry.WorldEntry.TheVariants as entry
use Rattle.instances.specs.Entries.{any_end_in}
use Rattle.instances.specs.Instances.{InstanceView, entry_of}
use Rattle.programs.specs.declared.program.Program.{Program}
use Rattle.programs.specs.Program.{value_of}
use Rattle.script_reader.specs.Script.{Script}
use Rattle.copy_replies.specs.declared.moving.CopySide.{CopySide}
use Rattle.copy_replies.specs.declared.moving.Moving.{Moving}
use Rattle.copy_replies.specs.Moves as moves
use Rattle.copy_replies.specs.Moves.{element_at, side_by, side_found, moving_by, sides_found, moving_in, moving}
use Rattle.world_parts.specs.declared.parts.Copying.{Copying}
use Rattle.world_parts.specs.declared.parts.Flow.{Flow}
use Rattle.world_parts.specs.Held as kept
use Rattle.world_parts.specs.Held.{Held, Done, Gives, after, given}
use Rattle.world_parts.specs.Places as places
use Rattle.world_parts.specs.Slots.{small}
use Rattle.world_parts.specs.Channels as kept_channels
use Rattle.world_parts.specs.Channels.{channel_of, kind_of_end}
use Rattle.value_parts.specs.Coming.{Behind}
use Rattle.value_moves.specs.Transferring.{MovesOver, Transfers}
use Rattle.abi_machine.specs.Control.{EndRef}
use Rattle.abi_machine.specs.World.{Entry, Inst, Channel, OfEnd, World}
use Rattle.abi_machine.specs.Canons.{memory_of, inst_of_canon, options_of_canon, options_in, options_at}
use Rattle.abi_machine.specs.Reading.{table_in, entry_at, channel_at}
use Rattle.abi_machine.specs.Finding as found
use Rattle.abi_machine.specs.Finding.{found_end}
use Rattle.abi_machine.specs.Turn as turns
use Rattle.abi_machine.specs.Turn.{Turn}
use Rattle.abi_machine.specs.Copying as machine
use Rattle.abi_machine.specs.Copying.{elements_moved, moved_by}
use Rattle.abi_machine.proofs.sound.Found.{some_same}
use Rattle.standing.specs.Instances.{InstStands}
use Rattle.standing.specs.Channels.{IsEndsType, EndMarked}
use Rattle.standing.proofs.Lists.{IsFound, found_left}
use Rattle.standing.proofs.Tables.{entries_are_alike}
use Rattle.standing.proofs.InPlace.{makers_alike}
use Rattle.standing.proofs.EndTypes.{one_element}
use Rattle.standing.proofs.EndsFound.{EndFound, end_is_found, entry_there, ref_of}
use Rattle.standing.proofs.Delivering.{kind_is}
use Rattle.run_laws.specs.Taking.{StandsMarked}
use Rattle.run_laws.specs.Copied.{TurnLeads, IsSideOf, GoesOver}
use Rattle.run_laws.specs.Transfers.{MayTransfer, CopiesTransfer}
use Rattle.run_laws.proofs.Canons.{options_same}
use Rattle.run_laws.proofs.Copied.{elements_go_over}

-- The sides of both.
task_same : (b : By) → moves.task_by b ≡ machine.task_by b
task_same (by.Task t) = refl

read_same : (side : Side) (call offer : OpenCopy) → machine.read_of side call offer ≡ moves.read_of side call offer
read_same Reader call offer = refl
read_same Writer call offer = refl

write_same : (side : Side) (call offer : OpenCopy) → machine.write_of side call offer ≡ moves.write_of side call offer
write_same Reader call offer = refl
write_same Writer call offer = refl

-- A place is that of the next element.
small_is : (n place : ℕ) → small n ≡ Some place → place ≡ n
small_is n place is = by (nat_lt n (2 ^ 32)) is
  where
    by : (b : Bool) → (if b then Some n else None) ≡ Some place → place ≡ n
    by true e = sym (some_same e)
    by false e = absurd (let w : ⊥ = cc in w)

pub place_is : (element : Option ValType) (type : ValType) (copy : OpenCopy) (place : ℕ) → element ≡ Some type → moves.next_place element copy ≡ Some place → place ≡ machine.next_place type copy
place_is None type copy place some is = absurd (cc)
place_is (Some other) type copy place some is =
    small_is (copy.place + copy.copied * (laid other).size) place is ∙ ap (λ (t : ValType). copy.place + copy.copied * (laid t).size) (some_same some)

-- A side that is found, or none.
pub record SideIs (g : Graph) (element : Option ValType) (copy : OpenCopy) (h : Held) : Type 0 where
  pub canon : CanonFunc
  pub place : ℕ
  pub is : canon_at g copy.canon ≡ Some canon
  pub placed : moves.next_place element copy ≡ Some place
  pub gives : side_found g element copy h ≡ Gives (side_by copy canon place h) h

pub side_is : (g : Graph) (element : Option ValType) (copy : OpenCopy) (h : Held) → (side_found g element copy h ≡ kept.Stuck) ⊎ SideIs g element copy h
side_is g element copy h = by (canon_at g copy.canon) refl
  where
    placed : (c : CanonFunc) → canon_at g copy.canon ≡ Some c → (o : Option ℕ) → moves.next_place element copy ≡ o → (side_found g element copy h ≡ kept.Stuck) ⊎ SideIs g element copy h
    placed c is None none =
        inl (ap (λ (q : Option CanonFunc). given q (λ c. given (moves.next_place element copy) (λ place. Gives (side_by copy c place h) h))) is
        ∙ ap (λ (q : Option ℕ). given q (λ place. Gives (side_by copy c place h) h)) none)
    placed c is (Some place) there =
        inr (record {
          canon = c;
          place = place;
          is = is;
          placed = there;
          gives = ap (λ (q : Option CanonFunc). given q (λ c. given (moves.next_place element copy) (λ place. Gives (side_by copy c place h) h))) is
              ∙ ap (λ (q : Option ℕ). given q (λ place. Gives (side_by copy c place h) h)) there;
        })

    by : (o : Option CanonFunc) → canon_at g copy.canon ≡ o → (side_found g element copy h ≡ kept.Stuck) ⊎ SideIs g element copy h
    by None none = inl (ap (λ (q : Option CanonFunc). given q (λ c. given (moves.next_place element copy) (λ place. Gives (side_by copy c place h) h))) none)
    by (Some c) is = placed c is (moves.next_place element copy) refl

module _ (p : Program) (values : List ValType) (s : Script) (h : Held) (stacks : List (List Stack)) (w : World) (t : ℕ) (x : Copying) (d : Done Flow) (o : MayTransfer p values h w t x)
    (marked : StandsMarked p.graph.now values s h stacks w) (all : Transfers p t x h d) where
  abbrev g : Graph
  g = p.graph.now

  abbrev element : Option ValType
  element = element_at g x.canon

  abbrev call : OpenCopy
  call = new_copy (by.Task t) x.canon x.place x.length

  abbrev Leads : Turn → Type 0
  Leads turn = TurnLeads g values s t h.labels stacks d turn

  abbrev Finds : Done Moving → Type 0
  Finds e = moving g t x h ≡ e

  -- Where nothing is found no rule applies.
  stuck : Finds kept.Stuck → (turn : Turn) → Leads turn
  stuck none turn =
      let is : d ≡ kept.Stuck = subst (λ (e : Done Moving). Behind e (λ m k f. MovesOver p m (value_of p x.canon) k f) d) none all in
      subst (λ (f : Done Flow). TurnLeads g values s t h.labels stacks f turn) (sym is) tt

  as_turn : (turn other : Turn) → turn ≡ other → Leads other → Leads turn
  as_turn turn other same leads = subst (λ (u : Turn). Leads u) (sym same) leads

  -- One side, with the canonical function that is found.
  side_of : (a : Channel) (copy : OpenCopy) (c : CanonFunc) (place : ℕ) → a.element ≡ element → canon_at g copy.canon ≡ Some c → moves.next_place element copy ≡ Some place
      → IsSideOf w a.element (side_by copy c place h) copy c
  side_of a copy c place same is placed =
      let options : options_at g copy.canon ≡ options_of_canon c = ap options_in is in
      record {
        task = task_same copy.by;
        instance = makers_alike c;
        options = options_same c;
        memory = ap (λ (x : Options). places.memory_of x h) (options_same c ∙ sym options)
            ∙ o.memories copy.canon ∙ ap (λ (x : Options). memory_of w.store x) options;
        place = λ type some. place_is element type copy place (sym same ∙ some) placed;
      }

  -- An end at the index of the call, and the offer that it meets.
  module _ (k : EndKind) (e : EndEntry) (f : EndFound values h w k e) (at : ℕ) (same : f.other.element ≡ element) where
    abbrev sides : OpenCopy → Done Moving
    sides offer =
        after (side_found g element (moves.read_of e.side call offer) h) (λ reader j.
        after (side_found g element (moves.write_of e.side call offer) j) (λ writer l. Gives (moving_by k e t at x reader writer) l))

    abbrev over : OpenCopy → Turn
    over offer = elements_moved g t (ref_of k e) call x.count f.other.element offer w

    both_sides : (offer : OpenCopy) → SideIs g element (moves.read_of e.side call offer) h → SideIs g element (moves.write_of e.side call offer) h → Finds (sides offer) → Leads (over offer)
    unfolding elements_moved
    both_sides offer r v so =
        let read : OpenCopy = moves.read_of e.side call offer in
        let write : OpenCopy = moves.write_of e.side call offer in
        let m : Moving = moving_by k e t at x (side_by read r.canon r.place h) (side_by write v.canon v.place h) in
        let gives : Finds (Gives m h) =
        so
        ∙ ap (λ (q : Done CopySide). after q (λ reader j. after (side_found g element write j) (λ writer l. Gives (moving_by k e t at x reader writer) l))) r.gives
        ∙ ap (λ (q : Done CopySide). after q (λ writer l. Gives (moving_by k e t at x (side_by read r.canon r.place h) writer) l)) v.gives in
        let goes : GoesOver p values h w m (value_of p x.canon) f.other read write r.canon v.canon = record {
          types = o.types;
          channel = f.there;
          first = o.first;
          acts = o.acts;
          typed = subst (λ (q : Option ValType). MayBeAt values (value_of p x.canon) q) (sym same) o.typed;
          no_borrow = ap held_borrow same ∙ o.no_borrow;
          reader = side_of f.other read r.canon r.place same r.is r.placed;
          writer = side_of f.other write v.canon v.place same v.is v.placed;
          placed = λ type some. o.place m type gives (sym same ∙ some);
          own = λ resources is. o.own m.reader.instance resources is;
        } in
        as_turn (over offer) (moved_by g t (ref_of k e) call read write r.canon v.canon x.count f.other.element w)
        (ap (λ (copy : OpenCopy). turns.given (canon_at g copy.canon) (λ reading. turns.given (canon_at g (machine.write_of e.side call offer).canon) (λ writing.
        moved_by g t (ref_of k e) call copy (machine.write_of e.side call offer) reading writing x.count f.other.element w))) (read_same e.side call offer)
        ∙ ap (λ (copy : OpenCopy). turns.given (canon_at g read.canon) (λ reading. turns.given (canon_at g copy.canon) (λ writing.
        moved_by g t (ref_of k e) call read copy reading writing x.count f.other.element w))) (write_same e.side call offer)
        ∙ ap (λ (q : Option CanonFunc). turns.given q (λ reading. turns.given (canon_at g write.canon) (λ writing.
        moved_by g t (ref_of k e) call read write reading writing x.count f.other.element w))) r.is
        ∙ ap (λ (q : Option CanonFunc). turns.given q (λ writing. moved_by g t (ref_of k e) call read write r.canon writing x.count f.other.element w)) v.is)
        (elements_go_over p values s h stacks w m (value_of p x.canon) f.other call read write r.canon v.canon d goes marked
        (subst (λ (q : Done Moving). Behind q (λ m k f. MovesOver p m (value_of p x.canon) k f) d) gives all))

    by_sides : (offer : OpenCopy) → Finds (sides offer) → Leads (over offer)
    by_sides offer so =
        elim (side_is g element (moves.read_of e.side call offer) h) [
          | inl none ↦ stuck (so ∙ ap (λ (q : Done CopySide). after q (λ reader j.
              after (side_found g element (moves.write_of e.side call offer) j) (λ writer l. Gives (moving_by k e t at x reader writer) l))) none) (over offer)
          | inr r ↦ elim (side_is g element (moves.write_of e.side call offer) h) [
            | inl none ↦ stuck (so
                ∙ ap (λ (q : Done CopySide). after q (λ reader j. after (side_found g element (moves.write_of e.side call offer) j) (λ writer l. Gives (moving_by k e t at x reader writer) l))) r.gives
                ∙ ap (λ (q : Done CopySide). after q (λ writer l. Gives (moving_by k e t at x (side_by (moves.read_of e.side call offer) r.canon r.place h) writer) l)) none) (over offer)
            | inr v ↦ both_sides offer r v so
          ]
        ]

    by_offer : (q : Option OpenCopy) → Finds (given q sides) → Leads (turns.given q over)
    by_offer None so = stuck so turns.Stuck
    by_offer (Some offer) so = by_sides offer so

  -- What the machine does at an end.
  abbrev met_at : EndRef → Turn
  met_at r = turns.given (channel_at w r.kind r.number) (λ a. turns.given (machine.other_offer r.side a.ends.view) (λ offer. elements_moved g t r call x.count a.element offer w))

  abbrev kept_at : ℕ → EndKind → EndEntry → Done Moving
  kept_at at k e = given (kept_channels.channel_at k e.number h) (λ c. given (moves.other_offer e.side c) (λ offer. sides_found g element k e t at x offer h))

  by_end : (k : EndKind) (e : EndEntry) (f : EndFound values h w k e) (at : ℕ) → f.other.element ≡ element → Finds (kept_at at k e) → Leads (met_at (ref_of k e))
  unfolding sides_found
  by_end k e f at same so =
      let offers : moves.other_offer e.side f.channel ≡ machine.other_offer e.side f.other.ends.view =
      ap (λ (v : EndsView). standing_of (end_at (other_side e.side) v).copy) f.alike.ends in
      as_turn (met_at (ref_of k e)) (turns.given (machine.other_offer e.side f.other.ends.view) (over k e f at same))
      (ap (λ (q : Option Channel). turns.given q (λ a. turns.given (machine.other_offer e.side a.ends.view) (λ offer. elements_moved g t (ref_of k e) call x.count a.element offer w))) f.there)
      (by_offer k e f at same (machine.other_offer e.side f.other.ends.view)
      (so
      ∙ ap (λ (q : Option kept_channel.Channel). given q (λ c. given (moves.other_offer e.side c) (sides k e f at same))) f.here
      ∙ ap (λ (q : Option OpenCopy). given q (sides k e f at same)) offers))

  -- The entry at the index of the call.
  abbrev of_entry : ℕ → Option WorldEntry → Done Moving
  of_entry at q = given (any_end_in q) (λ e. given (channel_of e h) (λ c. given (moves.other_offer e.side c) (λ offer. sides_found g element (kind_of_end e h) e t at x offer h)))

  at_entry : (c : CanonFunc) (i : InstanceView) (e : EndEntry) → canon_at g x.canon ≡ Some c → slice_get h.instances (instance_of c) ≡ Some i → entry_of i x.index ≡ Some (entry.End e)
      → Finds (of_entry (instance_of c) (Some (entry.End e))) → Leads (turns.given (found_end w (inst_of_canon c) x.index) met_at)
  at_entry c i e is there is_end so =
      let at : ℕ = instance_of c in
      let of : (kind : EndKind) × IsEndsType values kind element e.end_type = o.end c i e is there is_end in
      let mark : EndMarked h.streams h.futures e = marked.ends at x.index i e there is_end in
      let f : EndFound values h w of.0 e = end_is_found g values s h stacks w of.0 element e mark of.1 marked.stands in
      let both : IsFound (InstStands values) (slice_get h.instances at) (slice_get w.insts at) = found_left (InstStands values) h.instances w.insts at i marked.stands.are_instances there in
      let one : both.left ≡ i = some_same (sym both.is_left ∙ there) in
      let inst : InstStands values i both.right = subst (λ (y : InstanceView). InstStands values y both.right) one both.alike in
      let here : entry_at w (inst_of_canon c) x.index ≡ Some (OfEnd (ref_of of.0 e)) =
      ap (λ (n : ℕ). entry_at w n x.index) (sym (makers_alike c))
      ∙ ap (λ (q : Option Inst). live (table_in q) x.index) both.is_right
      ∙ entry_there values of.0 element e (entry_of i x.index) (live both.right.table x.index) is_end of.1 (entries_are_alike values i both.right x.index inst) in
      as_turn (turns.given (found_end w (inst_of_canon c) x.index) met_at) (met_at (ref_of of.0 e)) (ap (λ (q : Option Entry). turns.given (found.any_end_in q) met_at) here)
      (by_end of.0 e f at (one_element values e.end_type of.0 of.0 f.other.element element f.typed of.1)
      (so
      ∙ ap (λ (j : EndKind). given (kept_channels.channel_at j e.number h) (λ c. given (moves.other_offer e.side c) (λ offer. sides_found g element j e t at x offer h)))
      (kind_is g values s h stacks w of.0 e f marked.stands)))

  by_entry : (c : CanonFunc) (i : InstanceView) → canon_at g x.canon ≡ Some c → slice_get h.instances (instance_of c) ≡ Some i → (q : Option WorldEntry) → entry_of i x.index ≡ q
      → Finds (of_entry (instance_of c) q) → Leads (turns.given (found_end w (inst_of_canon c) x.index) met_at)
  by_entry c i is there None none so = stuck so (turns.given (found_end w (inst_of_canon c) x.index) met_at)
  by_entry c i is there (Some (entry.Handle y)) other so = stuck so (turns.given (found_end w (inst_of_canon c) x.index) met_at)
  by_entry c i is there (Some (entry.Subtask callee)) other so = stuck so (turns.given (found_end w (inst_of_canon c) x.index) met_at)
  by_entry c i is there (Some (entry.Set set)) other so = stuck so (turns.given (found_end w (inst_of_canon c) x.index) met_at)
  by_entry c i is there (Some (entry.End e)) is_end so = at_entry c i e is there is_end so

  by_inst : (c : CanonFunc) → canon_at g x.canon ≡ Some c → (q : Option InstanceView) → slice_get h.instances (instance_of c) ≡ q
      → Finds (after (given q (λ i. Gives (entry_of i x.index) h)) (λ y k. given (any_end_in y) (λ e. given (channel_of e k) (λ channel. given (moves.other_offer e.side channel) (λ offer.
      sides_found g element (kind_of_end e k) e t (instance_of c) x offer k)))))
      → Leads (turns.given (found_end w (inst_of_canon c) x.index) met_at)
  by_inst c is None none so = stuck so (turns.given (found_end w (inst_of_canon c) x.index) met_at)
  by_inst c is (Some i) there so = by_entry c i is there (entry_of i x.index) refl so

  by_canon : (q : Option CanonFunc) → canon_at g x.canon ≡ q → Finds (given q (λ c. moving_in g t (instance_of c) x h)) → Leads (turns.given q (λ c. turns.given (found_end w (inst_of_canon c) x.index) met_at))
  unfolding moving_in
  by_canon None none so = stuck so turns.Stuck
  by_canon (Some c) is so =
      by_inst c is (slice_get h.instances (instance_of c)) refl so

pub copies_transfer : CopiesTransfer
unfolding moving
copies_transfer p values s h stacks w t x d o marked all = by_canon p values s h stacks w t x d o marked all (canon_at p.graph.now x.canon) refl refl
