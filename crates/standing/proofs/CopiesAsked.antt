-- Reads and writes, up to where elements go over.
use Rattle.std.proofs.Common.{◌≡◌, ℕ, ◌+◌, ◌*◌, ◌%◌, Bool, true, false, not, ◌&&◌, nat_eq, nat_le, nat_lt, is_some, if◌then◌else◌, List, [], ◌∷◌, length, slice_index, refl, sym, ap, ◌∙◌, subst, append-nil, Option, Some, None}
use Rattle.std.specs.List.{slice_get}
use Rattle.syntax_trees.specs.declared.types.ValType.{ValType}
use Rattle.laid_types.specs.Layout.{laid}
use Rattle.wasm_store.specs.Stack.{Stack}
use Rattle.builtin_kinds.specs.declared.EndKind.{EndKind}
use Rattle.builtin_kinds.specs.declared.EndKind.TheVariants as kind
use Rattle.stream_ends.specs.declared.side.Side.{Side}
use Rattle.stream_ends.specs.declared.open_copy.By.TheVariants as by
use Rattle.stream_ends.specs.declared.open_copy.OpenCopy.{OpenCopy}
use Rattle.stream_ends.specs.declared.meet.Meet.{Meet}
use Rattle.stream_ends.specs.declared.meet.Meet.TheVariants as meet
use Rattle.stream_ends.specs.declared.stream_end.End.{End}
use Rattle.stream_ends.specs.Ends.{EndsView, other_side, end_at, standing_of, is_idle, is_copying, new_copy}
use Rattle.tasks.specs.declared.event.BlockedAt.TheVariants as blocked_at
use Rattle.tasks.specs.declared.phase.Phase.TheVariants as phase
use Rattle.tasks.specs.Tasks.{is_acting}
use Rattle.channels.specs.declared.channel.Channel as kept
use Rattle.channels.specs.declared.channel.Ends.{Ends}
use Rattle.channels.specs.Channels as channel
use Rattle.channels.specs.Channels.{view_of, end_in, with_ends, may_offer, meet_in}
use Rattle.comp_graph.specs.Graph.{Graph}
use Rattle.comp_graph.specs.declared.graph.CanonFunc.{CanonFunc}
use Rattle.comp_graph.specs.declared.graph.Options.{Options}
use Rattle.script_reader.specs.Script.{Script}
use Rattle.trace_labels.specs.declared.label.BlockReason.TheVariants as reason
use Rattle.trace_labels.specs.declared.label.Label.{Label}
use Rattle.trace_labels.specs.declared.trap.TrapName.TheVariants as trap
use Rattle.task_table.specs.declared.errand.Errand.TheVariants as errand
use Rattle.instances.specs.declared.entry.EndEntry.{EndEntry}
use Rattle.instances.specs.declared.entry.WorldEntry.TheVariants as entry
use Rattle.instances.specs.Instances.{InstanceView, entry_of}
use Rattle.world_parts.specs.declared.parts.Flow.{Flow}
use Rattle.world_parts.specs.declared.parts.Flow.TheVariants as flow
use Rattle.world_parts.specs.Views.{Views}
use Rattle.world_parts.specs.Held.{Held, Done, Gives, Traps, after, given}
use Rattle.world_parts.specs.Places as places
use Rattle.world_parts.specs.Places.{bytes_at}
use Rattle.world_parts.specs.Feed.{got}
use Rattle.world_parts.specs.Slots.{word_in}
use Rattle.world_parts.specs.Calls.{blocked_in}
use Rattle.world_parts.specs.Channels.{channel_at}
use Rattle.copy_replies.specs.declared.reading.CopyCall.{CopyCall}
use Rattle.copy_replies.specs.Reads as reads
use Rattle.copy_replies.specs.Reads.{most_elements, is_within, idle_said, answered_at_once, left_standing, offer_stands, copying_of, met, meets, placed_and_met, copy_tested, read_or_write, length_in, call_of, copy_asked}
use Rattle.abi_machine.specs.World.{Entry, OfEnd, ForCopy, Acting, InBuiltin, Task, Channel, World}
use Rattle.abi_machine.specs.Edits as world
use Rattle.abi_machine.specs.Canons.{flag_at, options_at, canon_at, inst_of_canon, memory_of, bytes_of}
use Rattle.abi_machine.specs.Reading as machine
use Rattle.abi_machine.specs.Reading.{entry_at}
use Rattle.abi_machine.specs.Counting.{passes, phase_of, end_of}
use Rattle.abi_machine.specs.Finding as found
use Rattle.abi_machine.specs.Turn as turns
use Rattle.abi_machine.specs.Turn.{Turn, unless, replied, blocked}
use Rattle.abi_machine.specs.Copying as copying
use Rattle.abi_machine.specs.Copying.{Met, blocked_word, met_by, is_of_inst, other_offer, elements_moved, meeting_turn}
use Rattle.abi_machine.specs.Reply.{copy_size}
use Rattle.abi_machine.specs.replies.Streams as built_ins
use Rattle.abi_machine.specs.replies.Streams.{copy_turn}
use Rattle.abi_machine.proofs.sound.Found.{some_same}
use Rattle.standing.specs.Tasks.{TaskStands}
use Rattle.standing.specs.Stands.{Stands}
use Rattle.standing.specs.Channels.{IsEndsType}
use Rattle.standing.specs.Agreeing.{copies, Agrees}
use Rattle.standing.specs.Ends.{Sees, HasMemory, CopyIsAsked}
use Rattle.standing.proofs.Lists.{IsFound, found_both}
use Rattle.standing.proofs.Found.{word_is}
use Rattle.standing.proofs.Agreeing.{turn_as, on_word, on_got, on_trap}
use Rattle.standing.proofs.Blocking.{on_test, on_blocked}
use Rattle.standing.proofs.Steps.{via, behind_none}
use Rattle.standing.proofs.Going.{done_as}
use Rattle.standing.proofs.EndTypes.{one_element}
use Rattle.standing.proofs.EndsFound.{EndFound, ref_of, on_end}
use Rattle.standing.proofs.EndEdits.{put, found_again, put_stands, put_stays, chain_kept, offered_is, idle_seen_is, idled_at, idled_is, idled_stands}
use Rattle.standing.proofs.EndsDropped.{end_same}
use Rattle.standing.proofs.CopyMeetings.{SizeFits, may_offer_when, met_of, met_alike, offered_stands, copying_stands}
use Rattle.standing.proofs.Memories.{memory_alike}

-- Elements are tested.
tests_of : (g : Graph) (values : List ValType) (s : Script) (t : ℕ) (before : List Label) (stacks : List (List Stack)) (h : Held) (w : World) (G : Unit {0} → Held → Done Flow) (u : Turn)
    (a b c : Bool) → h.labels ≡ before → Stands g values s h stacks w → Agrees g values s t before stacks (G tt h) u
    → Agrees g values s t before stacks
    (after (if a then Gives tt h else if not b then Traps trap.Misaligned h else if not c then Traps trap.Bounds h else Gives tt h) G)
    (if a then u else unless t (not b) trap.Misaligned w (unless t (not c) trap.Bounds w u))
tests_of g values s t before stacks h w G u true b c same st more = more
tests_of g values s t before stacks h w G u false false c same st more = on_trap g values s t before stacks h w trap.Misaligned same st
tests_of g values s t before stacks h w G u false true false same st more = on_trap g values s t before stacks h w trap.Bounds same st
tests_of g values s t before stacks h w G u false true true same st more = more

on_placed : (g : Graph) (values : List ValType) (s : Script) (t : ℕ) (before : List Label) (stacks : List (List Stack)) (h : Held) (w : World) (element : Option ValType) (memory : Option ℕ)
    (bytes : List ℕ) (place size : ℕ) (G : Unit {0} → Held → Done Flow) (u : Turn)
    → h.labels ≡ before → bytes_at memory h.store ≡ bytes → Stands g values s h stacks w → Agrees g values s t before stacks (G tt h) u
    → Agrees g values s t before stacks (after (reads.placed_well element memory place size h) G) (built_ins.placed_well t bytes element place size w u)
unfolding reads.placed_well built_ins.placed_well
on_placed g values s t before stacks h w None memory bytes place size G u same alike st more = more
on_placed g values s t before stacks h w (Some element) memory bytes place size G u same alike st more =
    turn_as g values s t before stacks _ (built_ins.placed_well t bytes (Some element) place size w u) (built_ins.placed_well t (bytes_at memory h.store) (Some element) place size w u)
    (ap (λ (all : List ℕ). built_ins.placed_well t all (Some element) place size w u) (sym alike))
    (tests_of g values s t before stacks h w G u (nat_eq size 0) (nat_eq (place % (laid element).align) 0)
    (nat_le (place + size * (laid element).size) (length (bytes_at memory h.store))) same st more)

-- Elements that hold anything but an integer do not go over inside an instance.
none_same : (element : Option ValType) → reads.is_none_or_integer element ≡ copying.is_none_or_number element
none_same None = refl
none_same (Some element) = refl

offer_same : (g : Graph) (v : Views) (at : ℕ) (o : Option OpenCopy) → Sees g v → reads.is_offer_of v at o ≡ passes (is_of_inst g at) o
offer_same g v at None sees = refl
offer_same g v at (Some offer) sees = sees.made_in offer.canon at

within_same : (g : Graph) (v : Views) (at : ℕ) (side : Side) (element : Option ValType) (ends : Ends) (view : EndsView) → Sees g v → view_of ends ≡ view
    → is_within v at side element ends ≡ copying.is_within g at side element view
within_same g v at side element ends view sees same =
    ap (λ (u : EndsView). not (reads.is_none_or_integer element) && not (end_at (other_side side) u).dropped && reads.is_offer_of v at (standing_of (end_at (other_side side) u).copy)) same
    ∙ ap (λ (b : Bool). not b && not (end_at (other_side side) view).dropped && reads.is_offer_of v at (standing_of (end_at (other_side side) view).copy)) (none_same element)
    ∙ ap (λ (b : Bool). not (copying.is_none_or_number element) && not (end_at (other_side side) view).dropped && b)
    (offer_same g v at (standing_of (end_at (other_side side) view).copy) sees)

-- A call of the acting task, as both sides know it.
abbrev call_by : ℕ → ℕ → ℕ → ℕ → OpenCopy
call_by t canon place size = new_copy (by.Task t) canon place size

abbrev call_at : ℕ → ℕ → ℕ → EndKind → ℕ → EndEntry → ℕ → ℕ → ℕ → CopyCall
call_at t at canon k type e index place size = call_of t at canon k e.side type index place size

abbrev met_ends : ℕ → ℕ → ℕ → ℕ → Side → kept.Channel → kept.Channel
met_ends t canon place size side c = with_ends (channel.offered side (by.Task t) canon place size c.ends) c

abbrev once_met : ℕ → ℕ → ℕ → ℕ → EndKind → EndEntry → kept.Channel → Held → Held
once_met t canon place size k e c h = put k e.number (met_ends t canon place size e.side c) h

abbrev once_said : ℕ → ℕ → ℕ → ℕ → ℕ → ℕ → InstanceView → EndKind → EndEntry → kept.Channel → Held → Held
once_said t at canon index place size x k e c h =
    idled_at at index (is_idle (end_in e.side (channel.offered e.side (by.Task t) canon place size c.ends))) x e (once_met t canon place size k e c h)

-- what is known of a call, beside the end
pub record Calls (g : Graph) (v : Views) (h : Held) (w : World) (t at canon index : ℕ) (x : InstanceView) (k : EndKind) (e : EndEntry) (size : ℕ) : Type 0 where
  pub sees : Sees g v
  pub canon_func : CanonFunc
  pub canon_is : canon_at g canon ≡ Some canon_func
  pub made : inst_of_canon canon_func ≡ at
  pub inst : slice_get h.instances at ≡ Some x
  pub there : entry_of x index ≡ Some (entry.End e)
  pub beside : entry_at w at index ≡ Some (OfEnd (ref_of k e))
  pub fits : SizeFits k size
  pub task : Task
  pub first : slice_get w.chain 0 ≡ Some t
  pub acts : slice_get w.tasks t ≡ Some task
  pub state : task.state ≡ Acting

said_is : (t at canon type index place size : ℕ) (x : InstanceView) (k : EndKind) (e : EndEntry) (c : kept.Channel) (h : Held)
    → channel_at k e.number h ≡ Some c → slice_get h.instances at ≡ Some x → entry_of x index ≡ Some (entry.End e)
    → idle_said (call_at t at canon k type e index place size) e.number (once_met t canon place size k e c h) ≡ Gives tt (once_said t at canon index place size x k e c h)
unfolding idle_said
said_is t at canon type index place size x k e c h here is there =
    let z : kept.Channel = met_ends t canon place size e.side c in
    via _ _ _ _ (idle_seen_is k e.side e.number (put k e.number z h) z (found_again k e.number h c z here))
    ∙ idled_is at index (is_idle (end_in e.side z.ends)) (put k e.number z h) x e is there

module _ (g : Graph) (values : List ValType) (s : Script) (v : Views) (h : Held) (stacks : List (List Stack)) (w : World) (t at canon type index place size : ℕ) (x : InstanceView) (k : EndKind)
    (e : EndEntry) (words : List ℕ) (f : EndFound values h w k e) (a : Calls g v h w t at canon index x k e size) (st : Stands g values s h stacks w) where
  abbrev behind_meeting : World
  behind_meeting = world.offered (ref_of k e) (call_by t canon place size) w

  met_stands : Stands g values s (once_met t canon place size k e f.channel h) stacks behind_meeting
  met_stands =
      put_stands g values s h stacks w k e.number f.channel (met_ends t canon place size e.side f.channel)
      (λ c. record c { ends = world.offered_by k e.side (call_by t canon place size) c.ends }) f.here
      (λ c now. offered_stands values k e.side (by.Task t) canon place size f.channel c a.fits now) st

  said_stands : Stands g values s (once_said t at canon index place size x k e f.channel h) stacks behind_meeting
  said_stands =
      idled_stands g values s (once_met t canon place size k e f.channel h) stacks behind_meeting at index
      (is_idle (end_in e.side (channel.offered e.side (by.Task t) canon place size f.channel.ends))) x e a.inst a.there met_stands

  at_once : (payload : ℕ)
      → Agrees g values s t h.labels stacks (answered_at_once (call_at t at canon k type e index place size) e.number payload (once_met t canon place size k e f.channel h))
      (replied t (payload ∷ []) behind_meeting)
  unfolding answered_at_once
  at_once payload =
      done_as g values s t h.labels stacks _ (got t (payload ∷ []) (once_said t at canon index place size x k e f.channel h)) _
      (via _ _ _ _ (said_is t at canon type index place size x k e f.channel h f.here a.inst a.there))
      (on_got g values s t h.labels stacks (once_said t at canon index place size x k e f.channel h) behind_meeting (payload ∷ []) refl said_stands)

  waits : Agrees g values s t h.labels stacks
      (blocked_in t canon (v.flag canon) (blocked_at.Copy index) (reason.Copy index) (once_said t at canon index place size x k e f.channel h))
      (blocked t (InBuiltin canon words (ForCopy index)) (reason.Copy index) behind_meeting)
  unfolding blocked_in
  waits =
      let one : IsFound (TaskStands g s) (slice_get h.tasks t) (slice_get w.tasks t) = found_both (TaskStands g s) h.tasks w.tasks t st.are_tasks (ap is_some a.acts) in
      let same : one.right ≡ a.task = some_same (sym one.is_right ∙ a.acts) in
      on_blocked g values s (once_said t at canon index place size x k e f.channel h) stacks behind_meeting t one.left (blocked_at.Copy index) (v.flag canon) (reason.Copy index)
      (InBuiltin canon words (ForCopy index)) (errand.InBuiltin canon) one.is_left refl
      (ap is_acting (one.alike.far ∙ ap (λ (y : Task). phase_of (flag_at g) y.state) same ∙ ap (phase_of (flag_at g)) a.state))
      (ap (phase.Blocked (blocked_at.Copy index)) (sym (a.sees.flag canon))) refl tt
      (ap (λ (chain : List ℕ). slice_get chain 0) (chain_kept k e.number (λ c. record c { ends = world.offered_by k e.side (call_by t canon place size) c.ends }) w) ∙ a.first) said_stands

  stands_there : Agrees g values s t h.labels stacks (offer_stands v (call_at t at canon k type e index place size) e.number (once_met t canon place size k e f.channel h))
      (if (options_at g canon).is_async then replied t (blocked_word ∷ []) behind_meeting else blocked t (InBuiltin canon words (ForCopy index)) (reason.Copy index) behind_meeting)
  unfolding offer_stands
  stands_there =
      done_as g values s t h.labels stacks _ (left_standing v (call_at t at canon k type e index place size) (once_said t at canon index place size x k e f.channel h)) _
      (via _ _ _ _ (said_is t at canon type index place size x k e f.channel h f.here a.inst a.there))
      (on_test g values s t h.labels stacks (v.is_async canon) (options_at g canon).is_async _ _ _ _ (a.sees.is_async canon)
      (λ yes_it. on_got g values s t h.labels stacks (once_said t at canon index place size x k e f.channel h) behind_meeting (blocked_word ∷ []) refl said_stands)
      (λ no_it. waits))

  goes_over : (count : ℕ) → meet_in e.side (by.Task t) canon place size f.channel.ends ≡ meet.Copies count
      → Agrees g values s t h.labels stacks (Gives (flow.Copies (copying_of (call_at t at canon k type e index place size) count)) (once_met t canon place size k e f.channel h))
      (turns.given (other_offer e.side f.other.ends.view) (λ offer. elements_moved g t (ref_of k e) (call_by t canon place size) count f.other.element offer w))
  goes_over count is = record {
    lines = [];
    world = w;
    stands = put_stays g values s h stacks w k e.number f.channel (met_ends t canon place size e.side f.channel) f.here
        (λ c now. copying_stands values k e.side (by.Task t) canon place size count f.channel c is now) st;
    told = sym (append-nil h.labels);
    ends = sym (behind_none (copies g t (copying_of (call_at t at canon k type e index place size) count) w)
        ∙ ap (λ (o : Option CanonFunc). turns.given o (λ c. turns.given (found.found_end w (inst_of_canon c) index) (λ r. turns.given (machine.channel_at w r.kind r.number) (λ ch.
        turns.given (other_offer r.side ch.ends.view) (λ offer. elements_moved g t r (call_by t canon place size) count ch.element offer w))))) a.canon_is
        ∙ ap (λ (i : ℕ). turns.given (found.found_end w i index) (λ r. turns.given (machine.channel_at w r.kind r.number) (λ ch.
        turns.given (other_offer r.side ch.ends.view) (λ offer. elements_moved g t r (call_by t canon place size) count ch.element offer w)))) a.made
        ∙ ap (λ (o : Option Entry). turns.given (found.any_end_in o) (λ r. turns.given (machine.channel_at w r.kind r.number) (λ ch.
        turns.given (other_offer r.side ch.ends.view) (λ offer. elements_moved g t r (call_by t canon place size) count ch.element offer w)))) a.beside
        ∙ ap (λ (o : Option Channel). turns.given o (λ ch.
        turns.given (other_offer e.side ch.ends.view) (λ offer. elements_moved g t (ref_of k e) (call_by t canon place size) count ch.element offer w))) f.there);
  }

  by_meet : (m : Meet) → meet_in e.side (by.Task t) canon place size f.channel.ends ≡ m
      → Agrees g values s t h.labels stacks (met v (call_at t at canon k type e index place size) e.number m (once_met t canon place size k e f.channel h))
      (meeting_turn g t (ref_of k e) (call_by t canon place size) words index f.other (met_of m) w)
  unfolding meeting_turn
  by_meet meet.Stands is = stands_there
  by_meet (meet.Copies count) is = goes_over count is
  by_meet meet.Dropped is = at_once 1
  by_meet meet.Displaces is = stands_there
  by_meet meet.ZeroDone is = at_once 0
  by_meet meet.NothingNow is = at_once 0

  on_meeting : may_offer e.side size f.channel.ends ≡ true
      → Agrees g values s t h.labels stacks (meets v (call_at t at canon k type e index place size) e.number h)
      (meeting_turn g t (ref_of k e) (call_by t canon place size) words index f.other (met_by k e.side (call_by t canon place size) f.other.ends.view) w)
  unfolding meets
  on_meeting may =
      done_as g values s t h.labels stacks _
      (met v (call_at t at canon k type e index place size) e.number (meet_in e.side (by.Task t) canon place size f.channel.ends) (once_met t canon place size k e f.channel h)) _
      (via _ _ _ _ (offered_is k e.side e.number (by.Task t) canon place size h f.channel f.here may))
      (turn_as g values s t h.labels stacks _ _
      (meeting_turn g t (ref_of k e) (call_by t canon place size) words index f.other (met_of (meet_in e.side (by.Task t) canon place size f.channel.ends)) w)
      (ap (λ (m : Met). meeting_turn g t (ref_of k e) (call_by t canon place size) words index f.other m w)
      (met_alike values k e.side (by.Task t) canon place size f.channel f.other a.fits f.alike))
      (by_meet (meet_in e.side (by.Task t) canon place size f.channel.ends) refl))

  -- The element of the end is that of the canonical function.
  on_inside : (element : Option ValType) → f.other.element ≡ element → may_offer e.side size f.channel.ends ≡ true
      → Agrees g values s t h.labels stacks
      (if is_within v at e.side element f.channel.ends then Traps trap.SameInstance h else meets v (call_at t at canon k type e index place size) e.number h)
      (copying.meets g t at (ref_of k e) (call_by t canon place size) words index w)
  unfolding copying.meets
  on_inside element same may =
      turn_as g values s t h.labels stacks _ _
      (unless t (copying.is_within g at e.side f.other.element f.other.ends.view) trap.SameInstance w
      (meeting_turn g t (ref_of k e) (call_by t canon place size) words index f.other (met_by k e.side (call_by t canon place size) f.other.ends.view) w))
      (ap (λ (o : Option Channel). turns.given o (λ c. unless t (copying.is_within g at e.side c.element c.ends.view) trap.SameInstance w
      (meeting_turn g t (ref_of k e) (call_by t canon place size) words index c (met_by k e.side (call_by t canon place size) c.ends.view) w))) f.there)
      (on_test g values s t h.labels stacks (is_within v at e.side element f.channel.ends) (copying.is_within g at e.side f.other.element f.other.ends.view) _ _ _ _
      (within_same g v at e.side element f.channel.ends f.other.ends.view a.sees f.alike.ends ∙ ap (λ (y : Option ValType). copying.is_within g at e.side y f.other.ends.view) (sym same))
      (λ inside. on_trap g values s t h.labels stacks h w trap.SameInstance refl st)
      (λ outside. on_meeting may))

  on_tested : (element : Option ValType) → f.other.element ≡ element → HasMemory h w (options_at g canon) → (end_of w (ref_of k e)).dropped ≡ false
      → Agrees g values s t h.labels stacks (given (channel_at k e.number h) (λ c. copy_tested v element (call_at t at canon k type e index place size) e.number c h))
      (unless t (is_copying (end_of w (ref_of k e))) trap.Busy w (unless t (end_of w (ref_of k e)).done trap.DoneEnd w (unless t (nat_lt built_ins.max_length size) trap.TooLong w
      (built_ins.placed_well t (bytes_of w.store (memory_of w.store (options_at g canon))) element place size w
      (copying.meets g t at (ref_of k e) (call_by t canon place size) words index w)))))
  unfolding placed_and_met
  on_tested element same_element has live =
      let own : End = end_in e.side f.channel.ends in
      let same : end_of w (ref_of k e) ≡ own = end_same values h w k e f in
      let rest : Turn = unless t (nat_lt built_ins.max_length size) trap.TooLong w (built_ins.placed_well t (bytes_of w.store (memory_of w.store (options_at g canon))) element place size w
      (copying.meets g t at (ref_of k e) (call_by t canon place size) words index w)) in
      done_as g values s t h.labels stacks _ (copy_tested v element (call_at t at canon k type e index place size) e.number f.channel h) _
      (ap (λ (o : Option kept.Channel). given o (λ c. copy_tested v element (call_at t at canon k type e index place size) e.number c h)) f.here)
      (turn_as g values s t h.labels stacks (copy_tested v element (call_at t at canon k type e index place size) e.number f.channel h) _
      (unless t (is_copying own) trap.Busy w (unless t own.done trap.DoneEnd w rest))
      (ap (λ (m : End). unless t (is_copying m) trap.Busy w (unless t m.done trap.DoneEnd w rest)) same)
      (on_test g values s t h.labels stacks (is_copying own) (is_copying own) _ _ _ _ refl (λ busy. on_trap g values s t h.labels stacks h w trap.Busy refl st)
      (λ none.
      on_test g values s t h.labels stacks own.done own.done _ _ _ _ refl (λ over. on_trap g values s t h.labels stacks h w trap.DoneEnd refl st)
      (λ undone.
      on_test g values s t h.labels stacks (nat_lt most_elements size) (nat_lt built_ins.max_length size) _ _ _ _ refl (λ many. on_trap g values s t h.labels stacks h w trap.TooLong refl st)
      (λ few.
      on_placed g values s t h.labels stacks h w element (places.memory_of (v.options canon) h) (bytes_of w.store (memory_of w.store (options_at g canon))) place size
      (λ done m. if is_within v at e.side element f.channel.ends then Traps trap.SameInstance m else meets v (call_at t at canon k type e index place size) e.number m)
      (copying.meets g t at (ref_of k e) (call_by t canon place size) words index w) refl
      (ap (λ (o : Options). bytes_at (places.memory_of o h) h.store) (a.sees.options canon) ∙ memory_alike h w (options_at g canon) has st.same_store) st
      (on_inside element same_element
      (may_offer_when e.side size f.channel.ends (ap (λ (m : End). m.dropped) (sym same) ∙ live) undone none few)))))))

-- The words of a call.
size_is : (k : EndKind) (words : List ℕ) (size : ℕ) → length_in k words ≡ Some size → copy_size k words ≡ size
size_is kind.Stream words size is = word_is words 2 size is
size_is kind.Future words size is = some_same is

size_fits : (k : EndKind) (words : List ℕ) (size : ℕ) → length_in k words ≡ Some size → SizeFits k size
size_fits kind.Stream words size is = tt
size_fits kind.Future words size is = sym (some_same is)

abbrev copy_by : Graph → ℕ → ℕ → ℕ → EndKind → Side → Option ValType → List ℕ → World → ℕ → ℕ → ℕ → Turn
copy_by g t at canon k side element words w index place size =
    turns.unless_refused t (found.end_at w k side element at index) w (λ r.
    unless t (is_copying (end_of w r)) trap.Busy w
    (unless t (end_of w r).done trap.DoneEnd w
    (unless t (nat_lt built_ins.max_length size) trap.TooLong w
    (built_ins.placed_well t (bytes_of w.store (memory_of w.store (options_at g canon))) element place size w
    (copying.meets g t at r (call_by t canon place size) words index w)))))

pub copy_is_asked : CopyIsAsked
unfolding copy_asked copy_turn read_or_write
copy_is_asked g values s v h stacks w t at canon type word place size task c k side element words sees canon_is made is is_place is_size once of has marks live there first acts state st =
    on_word g values s t h.labels stacks (word_in words 0) word
    (λ index. given (word_in words 1) (λ place. given (length_in k words) (λ count. read_or_write v element (call_of t at canon k side type index place count) h)))
    (copy_turn g t at canon k side element (options_at g canon) words (copy_size k words) w) is
    (on_word g values s t h.labels stacks (word_in words 1) place (λ place. given (length_in k words) (λ count. read_or_write v element (call_of t at canon k side type word place count) h))
    (copy_turn g t at canon k side element (options_at g canon) words (copy_size k words) w) is_place
    (on_word g values s t h.labels stacks (length_in k words) size (λ count. read_or_write v element (call_of t at canon k side type word place count) h)
    (copy_turn g t at canon k side element (options_at g canon) words (copy_size k words) w) is_size
    (turn_as g values s t h.labels stacks _ (copy_turn g t at canon k side element (options_at g canon) words (copy_size k words) w)
    (copy_by g t at canon k side element words w word place size)
    (ap (λ (n : ℕ). copy_by g t at canon k side element words w n (slice_index words 1) (copy_size k words)) (word_is words 0 word is)
    ∙ ap (λ (n : ℕ). copy_by g t at canon k side element words w word n (copy_size k words)) (word_is words 1 place is_place)
    ∙ ap (λ (n : ℕ). copy_by g t at canon k side element words w word place n) (size_is k words size is_size))
    (on_end g values s t h.labels stacks h w at word type k side element
    (λ e m. given (channel_at k e.number m) (λ ch. copy_tested v element (call_of t at canon k side type word place size) e.number ch m))
    (λ r. unless t (is_copying (end_of w r)) trap.Busy w
    (unless t (end_of w r).done trap.DoneEnd w
    (unless t (nat_lt built_ins.max_length size) trap.TooLong w
    (built_ins.placed_well t (bytes_of w.store (memory_of w.store (options_at g canon))) element place size w
    (copying.meets g t at r (call_by t canon place size) words word w)))))
    once of marks there refl st
    (λ x e is_left a at_right f.
    subst (λ (z : Side). Agrees g values s t h.labels stacks
    (given (channel_at k e.number h) (λ ch. copy_tested v element (call_of t at canon k z type word place size) e.number ch h))
    (unless t (is_copying (end_of w (ref_of k e))) trap.Busy w
    (unless t (end_of w (ref_of k e)).done trap.DoneEnd w
    (unless t (nat_lt built_ins.max_length size) trap.TooLong w
    (built_ins.placed_well t (bytes_of w.store (memory_of w.store (options_at g canon))) element place size w
    (copying.meets g t at (ref_of k e) (call_by t canon place size) words word w))))))
    a.side_is
    (on_tested g values s v h stacks w t at canon type word place size x k e words f
    (record {
      sees = sees;
      canon_func = c;
      canon_is = canon_is;
      made = made;
      inst = is_left;
      there = a.there;
      beside = at_right;
      fits = size_fits k words size is_size;
      task = task;
      first = first;
      acts = acts;
      state = state;
    })
    st element (one_element values type k k f.other.element element (subst (λ (n : ℕ). IsEndsType values k f.other.element n) a.type_is f.typed) of) has
    (live word (ref_of k e) at_right)))))))
