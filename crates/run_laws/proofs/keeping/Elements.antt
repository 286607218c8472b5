-- Elements that go over keep all marks; and so does whatever is passed.
use Rattle.std.proofs.Common.{◌≡◌, ◌+◌, ◌-◌, ℕ, Bool, true, false, List, [], ◌∷◌, map, length, Option, Some, None, refl, subst, arith}
use Rattle.std.specs.List.{slice_get}
use Rattle.syntax_trees.specs.declared.types.ValType.{ValType}
use Rattle.syntax_trees.specs.declared.value.Value.{Value}
use Rattle.laid_types.specs.Handles.{has_borrow}
use Rattle.laid_types.specs.Known.{Numbered, numbered_at}
use Rattle.builtin_kinds.specs.declared.EndKind.{EndKind}
use Rattle.entry_gate.specs.declared.kind.Kind.{Kind}
use Rattle.entry_gate.specs.declared.kind.Kind.TheVariants.{Sync, Callback, Stackful}
use Rattle.stream_ends.specs.declared.open_copy.By.TheVariants as by
use Rattle.stream_ends.specs.declared.open_copy.OpenCopy.{OpenCopy}
use Rattle.stream_ends.specs.Ends.{new_copy}
use Rattle.comp_graph.specs.declared.graph.Lift.{Lift}
use Rattle.comp_graph.specs.Graph.{Graph}
use Rattle.copy_engine.specs.Copying.{all_fit}
use Rattle.copy_engine.specs.Hosted.{plan_all}
use Rattle.graph_views.specs.Canons.{canon_at, instance_of}
use Rattle.graph_views.specs.Callees.{lift_of}
use Rattle.copy_replies.specs.declared.moving.Moving.{Moving}
use Rattle.copy_replies.specs.Moves.{element_at, next_place, side_by, side_found, read_of, write_of, moving_by, sides_found, other_offer, moving_in, moving, channel_named, completed_payload, completed}
use Rattle.trace_labels.specs.declared.label.Copied.{Copied}
use Rattle.trace_labels.specs.declared.label.Copied.TheVariants.{Units}
use Rattle.trace_labels.specs.declared.label.Label.TheVariants as line
use Rattle.programs.specs.declared.program.Program.{Program}
use Rattle.programs.specs.Program.{returned_of, value_of}
use Rattle.instances.specs.declared.entry.EndEntry.{EndEntry}
use Rattle.instances.specs.Entries.{any_end_in}
use Rattle.instances.specs.Instances.{entry_of}
use Rattle.task_table.specs.declared.slot.TaskSlot.{TaskSlot}
use Rattle.world_parts.specs.declared.parts.Copying.{Copying}
use Rattle.world_parts.specs.declared.parts.Flow.{Flow}
use Rattle.world_parts.specs.declared.parts.Flow.TheVariants as flow
use Rattle.world_parts.specs.Held.{Held, Done, Gives, Traps, Spent, Stuck, after, given}
use Rattle.world_parts.specs.Channels.{channel_of, kind_of_end, idle_seen, copied}
use Rattle.world_parts.specs.Entries.{entry_found, end_idled}
use Rattle.world_parts.specs.Feed.{told, got}
use Rattle.world_parts.specs.Slots.{word_in}
use Rattle.world_parts.specs.Going.{ending, loops}
use Rattle.value_parts.specs.declared.to_pass.Passing.{Passing}
use Rattle.value_parts.specs.declared.to_pass.Passing.TheVariants as passing
use Rattle.value_parts.specs.Coming.{Behind, Then}
use Rattle.value_parts.specs.Lifting.{elements_lifted}
use Rattle.value_moves.specs.declared.lowering.Destination.{Destination}
use Rattle.value_moves.specs.Lowering.{LowersAt, LowersAll}
use Rattle.value_moves.specs.Passing.{async_ended, SyncEnds, KindEnds, call_at, ReturnsBy, PassesFor}
use Rattle.value_moves.specs.Resolving.{Ends}
use Rattle.value_moves.specs.Transferring.{origin_of, reader_of, copied_values, Reads, MovesElements, MovesOver, Transfers}
use Rattle.standing.specs.KeptMarks.{HasMarks}
use Rattle.standing.proofs.marks.Channels.{copied_stays, idle_seen_stays}
use Rattle.standing.proofs.marks.Entries.{end_idled_stays}
use Rattle.standing.proofs.marks.Feed.{told_stays, got_stays}
use Rattle.run_laws.specs.keeping.Kept.{KeepsMarks}
use Rattle.run_laws.specs.keeping.Lowerings.{EndComes, HoldsNoBorrow}
use Rattle.run_laws.specs.keeping.Passings.{EndsBy, PassesSo, PassingsKeepMarks}
use Rattle.run_laws.proofs.keeping.parts.Channels.{copied_keeps, idle_seen_keeps}
use Rattle.run_laws.proofs.keeping.parts.Entries.{end_idled_keeps}
use Rattle.run_laws.proofs.keeping.parts.Feed.{told_keeps, got_keeps}
use Rattle.run_laws.proofs.keeping.But.{HasBut, LeavesSo, GivesBut, but_of, marks_of, leaves_given, leaves_after}
use Rattle.run_laws.proofs.keeping.Every.{all_by, every_after}
use Rattle.run_laws.proofs.keeping.Liftings.{elements_but}
use Rattle.run_laws.proofs.keeping.Loops.{loops_marks}
use Rattle.run_laws.proofs.keeping.Lowered.{from_site, all_into, fits_each}
use Rattle.run_laws.proofs.keeping.NoBorrow.{none_in_all}
use Rattle.run_laws.proofs.keeping.Passed.{any_task}
use Rattle.run_laws.proofs.keeping.Passings.{as_so, behind_so, enters_so, ends_so, returns_so}
use Rattle.run_laws.proofs.keeping.Planned.{AreAll, Ends as TypedEnds, ends_typed, in_elements, all_count}
use Rattle.run_laws.proofs.keeping.Lifted.{LiftsSo}
use Rattle.run_laws.proofs.keeping.Script.{ending_marks}

-- The copy is completed.
pub completed_marks : (m : Moving) (what : Copied) (h : Held) → KeepsMarks h (completed m what h)
unfolding completed
completed_marks m what h =
    every_after h (copied m.kind m.number m.count h)
    (λ done k. after (told (line.Copy (channel_named m.kind m.number) what) k) (λ done l. after (idle_seen m.kind m.side m.number l) (λ is_idle n. after (end_idled m.at m.index is_idle n) (λ done o.
    got m.task (completed_payload m.kind m.count ∷ []) o))))
    (all_by h (copied m.kind m.number m.count h) (copied_stays m.kind m.number m.count h) (copied_keeps m.kind m.number m.count h))
    (λ done k.
    every_after k (told (line.Copy (channel_named m.kind m.number) what) k)
    (λ done l. after (idle_seen m.kind m.side m.number l) (λ is_idle n. after (end_idled m.at m.index is_idle n) (λ done o. got m.task (completed_payload m.kind m.count ∷ []) o)))
    (all_by k (told (line.Copy (channel_named m.kind m.number) what) k) (told_stays (line.Copy (channel_named m.kind m.number) what) k) (told_keeps (line.Copy (channel_named m.kind m.number) what) k))
    (λ done l.
    every_after l (idle_seen m.kind m.side m.number l) (λ is_idle n. after (end_idled m.at m.index is_idle n) (λ done o. got m.task (completed_payload m.kind m.count ∷ []) o))
    (all_by l (idle_seen m.kind m.side m.number l) (idle_seen_stays m.kind m.side m.number l) (idle_seen_keeps m.kind m.side m.number l))
    (λ is_idle n.
    every_after n (end_idled m.at m.index is_idle n) (λ done o. got m.task (completed_payload m.kind m.count ∷ []) o)
    (all_by n (end_idled m.at m.index is_idle n) (end_idled_stays m.at m.index is_idle n) (end_idled_keeps m.at m.index is_idle n))
    (λ done o.
    all_by o (got m.task (completed_payload m.kind m.count ∷ []) o) (got_stays m.task (completed_payload m.kind m.count ∷ []) o) (got_keeps m.task (completed_payload m.kind m.count ∷ []) o)))))

-- What is passed on in the midst is kept so, and behind it all marks are.
abbrev pub Marked : Held → Type 0
Marked k = HasMarks k

module _ (u : ℕ) where
  abbrev Q : Held → Type 0
  Q k = HasBut ⊥ u 0 k

  -- Elements are found.
  side_so : (g : Graph) (element : Option ValType) (copy : OpenCopy) (h : Held) → Q h → LeavesSo ⊥ Q (side_found g element copy h)
  side_so g element copy h but =
      leaves_given ⊥ Q (canon_at g copy.canon) (λ c. given (next_place element copy) (λ place. Gives (side_by copy c place h) h))
      (λ c is. leaves_given ⊥ Q (next_place element copy) (λ place. Gives (side_by copy c place h) h) (λ place at. but))

  sides_so : (g : Graph) (element : Option ValType) (of_what : EndKind) (e : EndEntry) (t at : ℕ) (x : Copying) (offer : OpenCopy) (h : Held) → Q h
      → LeavesSo ⊥ Q (sides_found g element of_what e t at x offer h)
  unfolding sides_found
  sides_so g element of_what e t at x offer h but =
      leaves_after ⊥ Q (side_found g element (read_of e.side (new_copy (by.Task t) x.canon x.place x.length) offer) h)
      (λ reader k. after (side_found g element (write_of e.side (new_copy (by.Task t) x.canon x.place x.length) offer) k) (λ writer l. Gives (moving_by of_what e t at x reader writer) l))
      (side_so g element (read_of e.side (new_copy (by.Task t) x.canon x.place x.length) offer) h but)
      (λ reader k b.
      leaves_after ⊥ Q (side_found g element (write_of e.side (new_copy (by.Task t) x.canon x.place x.length) offer) k) (λ writer l. Gives (moving_by of_what e t at x reader writer) l)
      (side_so g element (write_of e.side (new_copy (by.Task t) x.canon x.place x.length) offer) k b) (λ writer l c. c))

  in_so : (g : Graph) (t at : ℕ) (x : Copying) (h : Held) → Q h → LeavesSo ⊥ Q (moving_in g t at x h)
  unfolding moving_in
  in_so g t at x h but =
      leaves_after ⊥ Q (entry_found at x.index h)
      (λ found k. given (any_end_in found) (λ e. given (channel_of e k) (λ c. given (other_offer e.side c) (λ offer. sides_found g (element_at g x.canon) (kind_of_end e k) e t at x offer k))))
      (leaves_given ⊥ Q (slice_get h.instances at) (λ i. Gives (entry_of i x.index) h) (λ i is. but))
      (λ found k b.
      leaves_given ⊥ Q (any_end_in found) (λ e. given (channel_of e k) (λ c. given (other_offer e.side c) (λ offer. sides_found g (element_at g x.canon) (kind_of_end e k) e t at x offer k)))
      (λ e is.
      leaves_given ⊥ Q (channel_of e k) (λ c. given (other_offer e.side c) (λ offer. sides_found g (element_at g x.canon) (kind_of_end e k) e t at x offer k))
      (λ c of.
      leaves_given ⊥ Q (other_offer e.side c) (λ offer. sides_found g (element_at g x.canon) (kind_of_end e k) e t at x offer k)
      (λ offer met. sides_so g (element_at g x.canon) (kind_of_end e k) e t at x offer k b))))

  moving_so : (g : Graph) (t : ℕ) (x : Copying) (h : Held) → Q h → LeavesSo ⊥ Q (moving g t x h)
  unfolding moving
  moving_so g t x h but = leaves_given ⊥ Q (canon_at g x.canon) (λ c. moving_in g t (instance_of c) x h) (λ c is. in_so g t (instance_of c) x h but)

  -- They are lowered, where their type holds no borrow.
  no_ends : (h : Held) (type : Numbered) (es : TypedEnds) → AreAll (λ end_type number. ⊥ → EndComes h type.types end_type number) es
  no_ends h type [] = tt
  no_ends h type (e ∷ es) = (λ c. absurd c, no_ends h type es)

  all_so : (p : Program) (to : Destination) (t : Numbered) (values : List Value) (place : ℕ) (h : Held) (d : Done (List ℕ)) → has_borrow t.val_type ≡ false → LowersAll p to t values place h d → Q h
      → LeavesSo ⊥ Q d
  all_so p to t values place h d none b but =
      from_site (λ (e : Done (List ℕ)). LeavesSo ⊥ Q e) tt p to (all_fit t.val_type values) h (λ s k e. LowersAt p.graph.now to t.types (plan_all t.val_type values place s.resources) s k e) d
      (λ s found mine fit is.
      other_task d
      (subst (λ (n : ℕ). GivesBut ⊥ to.task n d)
      (let same : 0 + all_count s.resources values ≡ 0 = none_owed (none_in_all s.resources values t.val_type (λ m w there. fits_each t.val_type values fit m w there) none) in same)
      (all_into ⊥ 0 p to t values place h d s.resources mine (no_ends h t (in_elements t.val_type (map ends_typed values))) b (any_task ⊥ u to.task h but)))) b
    where
      none_owed : {a : ℕ} → a ≡ 0 → 0 + a ≡ 0
      none_owed e = omega (arith, e)

      other_task : (e : Done (List ℕ)) → GivesBut ⊥ to.task 0 e → LeavesSo ⊥ Q e
      other_task (Gives x k) q = any_task ⊥ to.task u k q
      other_task (Traps why k) q = q
      other_task (Spent k) q = tt
      other_task Stuck q = tt

  -- A part behind which all marks are.
  keeps_behind : {A : Type 0} (h : Held) (d : Done A) → KeepsMarks h d → Q h → LeavesSo ⊥ Marked d
  keeps_behind h (Gives x k) p but = p (marks_of ⊥ u h but)
  keeps_behind h (Traps why k) p but = (p (marks_of ⊥ u h but), λ c. absurd c)
  keeps_behind h (Spent k) p but = tt
  keeps_behind h Stuck p but = tt

  reads_so : (p : Program) (m : Moving) (t : Numbered) (values : List Value) (h : Held) (d : Done Flow) → has_borrow t.val_type ≡ false → Reads p m t values h d → Q h → LeavesSo ⊥ Marked d
  reads_so p m t values h d none (first, lowers, b) but =
      behind_so ⊥ Q Marked first (λ words k e. e ≡ completed m (copied_values t values) k) d (all_so p (reader_of m h) t values m.reader.place h first none lowers but)
      (λ words k kept is. as_so ⊥ Marked d (completed m (copied_values t values) k) is (keeps_behind k (completed m (copied_values t values) k) (completed_marks m (copied_values t values) k) kept)) b

  moves_so : (p : Program) (m : Moving) (o : Option ℕ) (h : Held) (d : Done Flow) → HoldsNoBorrow p o → MovesOver p m o h d → Q h → LeavesSo ⊥ Marked d
  moves_so p m None h d plain b but = as_so ⊥ Marked d (completed m (Units m.count) h) b (keeps_behind h (completed m (Units m.count) h) (completed_marks m (Units m.count) h) but)
  moves_so p m (Some number) h d plain b but = by_type (numbered_at p.types.now number) refl b
    where
      lent : {b : Bool} → b ≡ false → b ≡ true → ⊥
      lent e f = cc

      by_type : (o : Option Numbered) → numbered_at p.types.now number ≡ o → Behind (let e : Done Numbered = given o (λ t. Gives t h) in e) (λ t k e. MovesElements p m t k e) d → LeavesSo ⊥ Marked d
      by_type None is b = as_so ⊥ Marked d Stuck b tt
      by_type (Some t) is b =
          let none : has_borrow t.val_type ≡ false = plain number t refl is in
          behind_so ⊥ (LiftsSo ⊥ u 0 h) Marked (elements_lifted (origin_of m) t m.writer.place m.count h) (λ values k e. Reads p m t values k e) d
          (elements_but ⊥ u 0 (origin_of m) t m.writer.place m.count h (λ holds. absurd (lent none holds)) but)
          (λ values k q reads. reads_so p m t values k d none reads q.0) b

  transfers_so : (p : Program) (t : ℕ) (x : Copying) (h : Held) (d : Done Flow) → HoldsNoBorrow p (value_of p x.canon) → Transfers p t x h d → Q h → LeavesSo ⊥ Marked d
  transfers_so p t x h d plain b but =
      behind_so ⊥ Q Marked (moving p.graph.now t x h) (λ m k e. MovesOver p m (value_of p x.canon) k e) d (moving_so p.graph.now t x h but) (λ m k q over. moves_so p m (value_of p x.canon) k d plain over q) b

-- Whatever is passed.
module _ (p : Program) (t : ℕ) where
  abbrev Kept : Held → Type 0
  Kept k = HasBut ⊥ t 0 k

  marked : {A : Type 0} (d : Done A) → LeavesSo ⊥ Kept d → LeavesSo ⊥ Marked d
  marked (Gives x k) q = marks_of ⊥ t k q
  marked (Traps why k) q = q
  marked (Spent k) q = tt
  marked Stuck q = tt

  sync_so : (words : List ℕ) (h : Held) (d : Done Flow) → ((slot : TaskSlot) → slice_get h.tasks t ≡ Some slot → HoldsNoBorrow p (returned_of p slot.callee)) → SyncEnds p t words h d → Kept h
      → LeavesSo ⊥ Kept d
  sync_so words h d plain b but = by_slot (slice_get h.tasks t) b
    where
      by_lift : (o : Option Lift) → Behind (let e : Done Lift = given o (λ lift. Gives lift h) in e) (λ lift k x. Then (Ends p t lift.options.post_return words k) (λ done l f. f ≡ Gives flow.Rests l) x) d → LeavesSo ⊥ Kept d
      by_lift None b = as_so ⊥ Kept d Stuck b tt
      by_lift (Some lift) (first, ends, b) =
          behind_so ⊥ Kept Kept first (λ done l f. f ≡ Gives flow.Rests l) d (ends_so ⊥ p t (λ c. c) lift.options.post_return words h first plain ends but)
          (λ done l kept is. as_so ⊥ Kept d (Gives flow.Rests l) is kept) b

      by_slot : (o : Option TaskSlot) → Behind (let e : Done Lift = after (given o (λ slot. Gives slot.callee h)) (λ c k. given (lift_of p.graph.now c) (λ lift. Gives lift k)) in e) (λ lift k x. Then (Ends p t lift.options.post_return words k) (λ done l f. f ≡ Gives flow.Rests l) x) d
          → LeavesSo ⊥ Kept d
      by_slot None b = as_so ⊥ Kept d Stuck b tt
      by_slot (Some slot) b = by_lift (lift_of p.graph.now slot.callee) b

  looped_so : (words : List ℕ) (h : Held) (o : Option ℕ) → EndsBy p t h Callback → Kept h → LeavesSo ⊥ Marked (let d : Done Flow = given o (λ word. loops t word h) in d)
  looped_so words h None well but = tt
  looped_so words h (Some word) well but = keeps_behind t h (loops t word h) (loops_marks t word h well.runs well.one well.once) but

  kind_so : (words : List ℕ) (kind : Kind) (h : Held) (d : Done Flow) → EndsBy p t h kind → KindEnds p t words kind h d → Kept h → LeavesSo ⊥ Marked d
  kind_so words Sync h d well b but = marked d (sync_so words h d well b but)
  kind_so words Callback h d well b but = as_so ⊥ Marked d (async_ended t Callback words h) b (looped_so words h (word_in words 0) well but)
  kind_so words Stackful h d well b but = as_so ⊥ Marked d (async_ended t Stackful words h) b (keeps_behind t h (ending t h) (ending_marks t h) but)

  passes_so : (x : Passing) (h : Held) (d : Done Flow) → PassesSo p t h x → PassesFor p t x h d → Kept h → LeavesSo ⊥ Marked d
  passes_so passing.Nothing h d well b but = as_so ⊥ Marked d (Gives flow.Rests h) b (marks_of ⊥ t h but)
  passes_so passing.Arguments h d well b but = marked d (enters_so ⊥ p t (λ c. c) h d well.runs well.free well.lends well.own b but)
  passes_so passing.Returned h d well b but = by_number (call_at h.rest) refl b
    where
      by_number : (o : Option ℕ) → call_at h.rest ≡ o → ReturnsBy p t o h d → LeavesSo ⊥ Marked d
      by_number None is b = as_so ⊥ Marked d Stuck b tt
      by_number (Some number) is b = marked d (returns_so ⊥ p t (λ c. c) number h d (well.0 number is) well.1 b but)
  passes_so (passing.Ended words) h d well b but = by_slot (slice_get h.tasks t) refl b
    where
      by_slot : (o : Option TaskSlot) → slice_get h.tasks t ≡ o → Behind (let e : Done Kind = given o (λ slot. Gives slot.task.kind h) in e) (λ kind k e. KindEnds p t words kind k e) d → LeavesSo ⊥ Marked d
      by_slot None is b = as_so ⊥ Marked d Stuck b tt
      by_slot (Some slot) is b = kind_so words slot.task.kind h d (well slot is) b but
  passes_so (passing.Elements copying) h d well b but = transfers_so t p t copying h d well b but

-- For the acting task.
keeps_marked : {A : Type 0} (h : Held) (d : Done A) → (HasMarks h → LeavesSo ⊥ Marked d) → KeepsMarks h d
keeps_marked h (Gives x k) p = λ marks. p marks
keeps_marked h (Traps why k) p = λ marks. (p marks).0
keeps_marked h (Spent k) p = tt
keeps_marked h Stuck p = tt

pub passings_keep_marks : PassingsKeepMarks
passings_keep_marks p x h d well tables b = keeps_marked h d (λ marks. by_acting marks (slice_get h.chain (length h.chain - 1)) refl b)
  where
    by_acting : HasMarks h → (o : Option ℕ) → slice_get h.chain (length h.chain - 1) ≡ o → Behind (let e : Done ℕ = given o (λ t. Gives t h) in e) (λ t k e. PassesFor p t x k e) d → LeavesSo ⊥ Marked d
    by_acting marks None is b = as_so ⊥ Marked d Stuck b tt
    by_acting marks (Some t) is b = passes_so p t x h d (well t is) b (but_of ⊥ t h marks tables (λ c. absurd c))
