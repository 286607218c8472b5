-- Where a call of a canonical function leads to values that are to be passed: a task returns, or elements go over. What is kept is as it was, but for a line, the task that asked, and
-- the stream or future of an offer.
use Rattle.std.proofs.Common.{◌≡◌, inl, inr, ◌+◌, ◌*◌, ◌%◌, ℕ, Bool, true, false, not, nat_eq, nat_le, nat_lt, if◌then◌else◌, List, [], ◌∷◌, length, refl, sym, ap, ◌∙◌, subst, Option, Some, None, Result, Ok, Err}
use Rattle.std.specs.List.{slice_get}
use Rattle.syntax_trees.specs.declared.types.ValType.{ValType}
use Rattle.laid_types.specs.Layout.{laid}
use Rattle.builtin_kinds.specs.declared.ContextOp.TheVariants as context_op
use Rattle.builtin_kinds.specs.declared.EndKind.{EndKind}
use Rattle.builtin_kinds.specs.declared.EndKind.TheVariants.{Stream, Future}
use Rattle.builtin_kinds.specs.declared.ResourceOp.TheVariants as resource_op
use Rattle.wasm_store.specs.Store.{Store}
use Rattle.stream_ends.specs.declared.side.Side.{Side}
use Rattle.stream_ends.specs.declared.open_copy.By.TheVariants as by
use Rattle.stream_ends.specs.declared.meet.Meet.{Meet}
use Rattle.stream_ends.specs.declared.meet.Meet.TheVariants as meet
use Rattle.stream_ends.specs.Ends.{is_copying}
use Rattle.tasks.specs.declared.event.TaskEvent.TheVariants as event
use Rattle.tasks.specs.declared.event.TaskTrap.TheVariants.{SyncTask}
use Rattle.tasks.specs.Tasks.{is_sync, may_happen, fault}
use Rattle.channels.specs.declared.channel.Channel.{Channel}
use Rattle.channels.specs.Channels as channel
use Rattle.channels.specs.Channels.{end_in, meet_in, may_offer, with_ends}
use Rattle.comp_graph.specs.declared.graph.Builtin.{Builtin}
use Rattle.comp_graph.specs.declared.graph.BuiltinKind.{BuiltinKind}
use Rattle.comp_graph.specs.declared.graph.BuiltinKind.TheVariants as kind
use Rattle.comp_graph.specs.declared.graph.CanonFunc.{CanonFunc}
use Rattle.comp_graph.specs.declared.graph.CanonFunc.TheVariants as canon
use Rattle.comp_graph.specs.declared.graph.EndOp.{EndOp}
use Rattle.comp_graph.specs.declared.graph.EndOp.TheVariants as end_op
use Rattle.comp_graph.specs.declared.graph.Options.{Options}
use Rattle.comp_graph.specs.Graph.{Graph}
use Rattle.instances.specs.declared.entry.EndEntry.{EndEntry}
use Rattle.res_handles.specs.declared.refusal.Refusal.{Refusal}
use Rattle.instances.specs.declared.entry.WorldEntry.TheVariants as entry
use Rattle.instances.specs.Entries as entries
use Rattle.instances.specs.Instances.{InstanceView, entry_of}
use Rattle.task_table.specs.declared.slot.TaskSlot.{TaskSlot}
use Rattle.task_table.specs.Slots as slots
use Rattle.task_table.specs.Slots.{advanced_slot, event_answer, trapped}
use Rattle.trace_labels.specs.declared.label.Label.TheVariants as line
use Rattle.trace_labels.specs.declared.trap.TrapName.TheVariants as trap
use Rattle.graph_views.specs.Canons.{canon_at}
use Rattle.graph_views.specs.Names.{builtin_of}
use Rattle.world_parts.specs.declared.parts.Flow.{Flow}
use Rattle.world_parts.specs.declared.parts.Flow.TheVariants as flow
use Rattle.world_parts.specs.Held.{Held, Done, Gives, Traps, Spent, Stuck, after, given}
use Rattle.world_parts.specs.Channels.{answered, channel_at, channels, numbered, offered, offered_at, place_of, with_channel}
use Rattle.world_parts.specs.Copies.{channel_new, end_drop, copy_cancel}
use Rattle.world_parts.specs.Entries.{end_found, named, rep_found}
use Rattle.world_parts.specs.Feed.{acting, got}
use Rattle.world_parts.specs.Places.{memory_of, bytes_at}
use Rattle.world_parts.specs.Plain.{return_asked}
use Rattle.world_parts.specs.Slots.{context_of, context_set, happened, words_of, word_in}
use Rattle.world_parts.specs.Waits.{set_wait}
use Rattle.copy_replies.specs.declared.reading.CopyCall.{CopyCall}
use Rattle.copy_replies.specs.Reads.{most_elements, placed_well, is_within, answered_at_once, offer_stands, met, meets, placed_and_met, copy_tested, read_or_write, length_in, call_of, copy_asked}
use Rattle.copy_replies.specs.Moves.{element_at}
use Rattle.copy_replies.specs.Replies.{side_of, op_reply, kind_reply, canon_reply}
use Rattle.copy_replies.specs.Seen as ends
use Rattle.replies.specs.Replies as whole
use Rattle.replies.specs.Replies.{begun, lowered, resource_reply, context_reply, plain_reply, builtin_reply, may_leave, slot_has_exited}
use Rattle.replies.specs.Seen.{seen}
use Rattle.world_stacks.specs.Exempt as exempt
use Rattle.world_stacks.specs.Exempt.{exempt_answer, builtin_answer}
use Rattle.machine_runs.specs.Calling.{kind_answered, canon_answered, allowed_by, allowed, calls}
use Rattle.machine_runs.specs.Moving.{acting_of}
use Rattle.abi_machine.proofs.sound.Found.{some_same}
use Rattle.standing.proofs.CopyMeetings.{SizeFits}
use Rattle.run_laws.proofs.keeping.Sums.{set_cases, still_there}
use Rattle.run_laws.proofs.onward.Meets.{HasMet, IsEnd, end_is, met_by_offer}
use Rattle.run_laws.proofs.plain.Feed.{got_plain}
use Rattle.run_laws.proofs.plain.Only.{IsPlain, PlainBy}
use Rattle.run_laws.proofs.plain.Replying.{lowered_plain, resource_reply_plain, context_reply_plain, plain_reply_plain}
use Rattle.run_laws.proofs.plain.Waits.{set_wait_plain}
use Rattle.run_laws.proofs.supplied.Hears.{memory_alike}
pub use Rattle.run_laws.proofs.onward.LedBy.{By, by_after, by_given, by_if, gives_held, gives_first, SlotLed, IsLed, slot_led, led_same, IsAsked, ReturnsLed, CopiesLed, LedTo, acting_gives}
use Rattle.run_laws.proofs.onward.LedBy.{new_plain, drop_plain, cancel_plain, at_once_plain, stands_plain, words_gives, lined, not_sync, returned_by}

module _ (g : Graph) (types : List (Option ℕ)) (number t : ℕ) (h : Held) where
  abbrev P : Flow → Held → Type 0
  P = LedTo g types number t h

  plain_led : (x : Flow) (k : Held) → IsPlain x → P x k
  plain_led (flow.Now words) k plain = tt
  plain_led flow.Rests k plain = tt
  plain_led (flow.Starts ref words) k plain = tt
  plain_led flow.Enters k plain = absurd plain
  plain_led flow.Returns k plain = absurd plain
  plain_led (flow.Copies copying) k plain = absurd plain
  plain_led (flow.Delivers r set) k plain = absurd plain
  plain_led (flow.Polls r set) k plain = absurd plain
  plain_led (flow.HearsNone r) k plain = absurd plain
  plain_led (flow.HearsCancel r) k plain = absurd plain

  by_plain : (d : Done Flow) → PlainBy d → By P d
  by_plain (Gives x k) p = plain_led x k p
  by_plain (Traps why k) p = tt
  by_plain (Spent k) p = tt
  by_plain Stuck p = tt

  -- `task.return`, from what is kept behind the line of the call.
  return_led : (b : Builtin) (result : Option ValType) (options : Options) (m : Held) → canon_at g number ≡ Some (canon.Builtin b) → b.kind ≡ kind.TaskReturn result options → IsLed h m → m.tasks ≡ h.tasks
      → By P (return_asked t m)
  unfolding return_asked
  return_led b result options m made is led same = found (slice_get m.tasks t) refl
    where
      found : (o : Option TaskSlot) → slice_get m.tasks t ≡ o
          → By P (let d : Done Flow = after (given o (λ slot. happened (event_answer event.AskReturn slot.task) t (advanced_slot event.AskReturn slot) m)) (λ done k. Gives flow.Returns k) in d)
      found None none = tt
      found (Some x) there =
          returned_by P m t (may_happen event.AskReturn x.task) (fault event.AskReturn x.task) x
          (λ no_fault. (
          let here : slice_get h.tasks t ≡ Some x = ap (λ (l : List TaskSlot). slice_get l t) (sym same) ∙ there in
          let apart : is_sync x.task.kind ≡ false = not_sync (is_sync x.task.kind) SyncTask no_fault in
          record {
            builtin = b;
            result = result;
            options = options;
            made = made;
            is = is;
            asked = record { apart = λ y at. ap (λ (z : TaskSlot). is_sync z.task.kind) (some_same (sym at ∙ here)) ∙ apart };
            led = record {
              chain = led.chain;
              rest = led.rest;
              instances = led.instances;
              stay = λ n at. still_there m.tasks t n (slots.with_task x.task x) (led.stay n at);
              tasks = λ n y at. elim (set_cases m.tasks t (slots.with_task x.task x) n y at) [
                | inl e ↦ (x, ap (λ (j : ℕ). slice_get h.tasks j) e.0 ∙ here, subst (λ (z : TaskSlot). SlotLed x z) (sym e.1) (slot_led x))
                | inr other ↦ led.tasks n y other.1
              ];
            };
          }
          ))

  -- A read or a write, from there on.
  module _ (b : Builtin) (of_what : EndKind) (element : Option ValType) (op : EndOp) (made : canon_at g number ≡ Some (canon.Builtin b)) (is : b.kind ≡ kind.End of_what element op) (m : Held)
      (same_chain : m.chain ≡ h.chain) (same_rest : m.rest ≡ h.rest) (same_instances : m.instances ≡ h.instances) (same_tasks : m.tasks ≡ h.tasks) (same_memories : m.memories ≡ h.memories) (same_store : m.store ≡ h.store)
      (same_streams : m.streams ≡ h.streams) (same_futures : m.futures ≡ h.futures)
      (late : may_leave h ≡ true) (type : ℕ) (typed : slice_get types number ≡ Some (Some type)) where
    -- What is found and tested.
    record IsFound (c : CopyCall) (n : ℕ) : Type 0 where
      of_canon : c.canon ≡ number
      of_at : c.at ≡ b.instance
      of_task : c.task ≡ t
      of_kind : c.kind ≡ of_what
      fits : SizeFits c.kind c.length
      end : (i : InstanceView) (e : EndEntry) → slice_get h.instances b.instance ≡ Some i → entry_of i c.index ≡ Some (entry.End e) → (e.end_type ≡ type) × (e.number ≡ n) × (e.side ≡ c.side)

    -- An offer changes streams or futures alone.
    record IsOffered (l : Held) : Type 0 where
      led : IsLed h l
      store : l.store ≡ h.store
      memories : l.memories ≡ h.memories

    with_led : (k : EndKind) (place : ℕ) (c : Channel) → IsOffered (with_channel k place c m)
    with_led Stream place c = record { led = led_same h (with_channel Stream place c m) same_chain same_rest same_instances same_tasks; store = same_store; memories = same_memories }
    with_led Future place c = record { led = led_same h (with_channel Future place c m) same_chain same_rest same_instances same_tasks; store = same_store; memories = same_memories }

    answered_led : (o : Option Meet) (k : EndKind) (place : ℕ) (c : Channel) (x : Meet) (l : Held) → answered o k place c m ≡ Gives x l → IsOffered l
    answered_led None k place c x l e = absurd (cc)
    answered_led (Some y) k place c x l e = subst (λ (z : Held). IsOffered z) (gives_held e) (with_led k place c)

    offered_led : (c : CopyCall) (n : ℕ) (x : Meet) (l : Held) → offered c.kind c.side n (by.Task c.task) c.canon c.place c.length m ≡ Gives x l → IsOffered l
    offered_led c n x l e = by_place (place_of n) e
      where
        by_channel : (o : Option Channel) (place : ℕ)
            → (let d : Done Meet = given o (λ y. answered (if may_offer c.side c.length y.ends then Some (meet_in c.side (by.Task c.task) c.canon c.place c.length y.ends) else None) c.kind place
            (if may_offer c.side c.length y.ends then with_ends (channel.offered c.side (by.Task c.task) c.canon c.place c.length y.ends) y else y) m) in d) ≡ Gives x l → IsOffered l
        by_channel None place e = absurd (cc)
        by_channel (Some y) place e =
            answered_led (if may_offer c.side c.length y.ends then Some (meet_in c.side (by.Task c.task) c.canon c.place c.length y.ends) else None) c.kind place
            (if may_offer c.side c.length y.ends then with_ends (channel.offered c.side (by.Task c.task) c.canon c.place c.length y.ends) y else y) x l e

        by_place : (o : Option ℕ) → (let d : Done Meet = given o (λ place. offered_at c.kind place c.side (by.Task c.task) c.canon c.place c.length m) in d) ≡ Gives x l → IsOffered l
        by_place None e = absurd (cc)
        by_place (Some place) e = by_channel (slice_get (channels c.kind m) place) place e

    -- What was met, from what is kept before the line of the call.
    channel_before : (k : EndKind) (n : ℕ) → channel_at k n m ≡ channel_at k n h
    channel_before Stream n = ap (λ (all : List Channel). numbered all n) same_streams
    channel_before Future n = ap (λ (all : List Channel). numbered all n) same_futures

    met_at : (c : CopyCall) (n count : ℕ) (l : Held) → IsFound c n → offered c.kind c.side n (by.Task c.task) c.canon c.place c.length m ≡ Gives (meet.Copies count) l
        → HasMet c.side t number c.place c.length count (channel_at of_what n h) (channel_at of_what n l)
    met_at c n count l f e =
        let found : HasMet c.side c.task c.canon c.place c.length count (channel_at c.kind n m) (channel_at c.kind n l) = met_by_offer c.kind c.side n c.task c.canon c.place c.length count m l e in
        let by_kind : HasMet c.side c.task c.canon c.place c.length count (channel_at of_what n m) (channel_at of_what n l) =
        subst (λ (k : EndKind). HasMet c.side c.task c.canon c.place c.length count (channel_at k n m) (channel_at k n l)) f.of_kind found in
        let by_task : HasMet c.side t c.canon c.place c.length count (channel_at of_what n m) (channel_at of_what n l) =
        subst (λ (who : ℕ). HasMet c.side who c.canon c.place c.length count (channel_at of_what n m) (channel_at of_what n l)) f.of_task by_kind in
        let by_canon : HasMet c.side t number c.place c.length count (channel_at of_what n m) (channel_at of_what n l) =
        subst (λ (d : ℕ). HasMet c.side t d c.place c.length count (channel_at of_what n m) (channel_at of_what n l)) f.of_canon by_task in
        subst (λ (o : Option Channel). HasMet c.side t number c.place c.length count o (channel_at of_what n l)) (channel_before of_what n) by_canon

    met_led : (c : CopyCall) (n : ℕ) (x : Meet) (l : Held) → IsFound c n → placed_well (element_at g number) (memory_of ((ends.seen g).options number) h) c.place c.length h ≡ Gives tt h
        → offered c.kind c.side n (by.Task c.task) c.canon c.place c.length m ≡ Gives x l → By P (met (ends.seen g) c n x l)
    met_led c n meet.Stands l f placed e = by_plain (offer_stands (ends.seen g) c n l) (stands_plain (ends.seen g) c n l)
    met_led c n (meet.Copies count) l f placed e =
        let o : IsOffered l = offered_led c n (meet.Copies count) l e in
        record {
          builtin = b;
          of_what = of_what;
          element = element;
          op = op;
          made = made;
          is = is;
          type = type;
          typed = typed;
          called = f.of_canon;
          late = late;
          end = λ i x here stands. (f.end i x here stands).0;
          placed = placed;
          led = o.led;
          store = o.store;
          memories = o.memories;
          fits = subst (λ (k : EndKind). SizeFits k c.length) f.of_kind f.fits;
          met = λ i x here stands. (
              let all = f.end i x here stands in
              subst (λ (s : Side). HasMet s t number c.place c.length count (channel_at of_what x.number h) (channel_at of_what x.number l)) (sym all.2)
              (subst (λ (k : ℕ). HasMet c.side t number c.place c.length count (channel_at of_what k h) (channel_at of_what k l)) (sym all.1) (met_at c n count l f e))
              );
        }
    met_led c n meet.Dropped l f placed e = by_plain (answered_at_once c n 1 l) (at_once_plain c n 1 l)
    met_led c n meet.Displaces l f placed e = by_plain (offer_stands (ends.seen g) c n l) (stands_plain (ends.seen g) c n l)
    met_led c n meet.ZeroDone l f placed e = by_plain (answered_at_once c n 0 l) (at_once_plain c n 0 l)
    met_led c n meet.NothingNow l f placed e = by_plain (answered_at_once c n 0 l) (at_once_plain c n 0 l)

    meets_led : (c : CopyCall) (n : ℕ) → IsFound c n → placed_well (element_at g number) (memory_of ((ends.seen g).options number) h) c.place c.length h ≡ Gives tt h → By P (meets (ends.seen g) c n m)
    unfolding meets
    meets_led c n f placed =
        by_after P (offered c.kind c.side n (by.Task c.task) c.canon c.place c.length m) (λ x k. met (ends.seen g) c n x k) (λ x k e. met_led c n x k f placed e)

    -- The tests of places change nothing.
    placed_same : (o : Option ValType) (memory : Option ℕ) (place count : ℕ) (x y : Held) (done : Unit {0}) (l : Held) → y.store ≡ x.store → placed_well o memory place count x ≡ Gives done l
        → (l ≡ x) × (placed_well o memory place count y ≡ Gives tt y)
    unfolding placed_well
    placed_same None memory place count x y done l same e = (sym (gives_held e), refl)
    placed_same (Some type) memory place count x y done l same e =
        by_test (nat_eq count 0) (not (nat_eq (place % (laid type).align) 0)) (not (nat_le (place + count * (laid type).size) (length (bytes_at memory x.store))))
        (not (nat_le (place + count * (laid type).size) (length (bytes_at memory y.store)))) (ap (λ (s : Store). not (nat_le (place + count * (laid type).size) (length (bytes_at memory s)))) same) e
      where
        by_test : (a b c d : Bool) → d ≡ c → ◌≡◌ {A = Done (Unit {0})} (if a then Gives (tt {0}) x else if b then Traps trap.Misaligned x else if c then Traps trap.Bounds x else Gives (tt {0}) x) (Gives done l)
            → (l ≡ x) × ◌≡◌ {A = Done (Unit {0})} (if a then Gives (tt {0}) y else if b then Traps trap.Misaligned y else if d then Traps trap.Bounds y else Gives (tt {0}) y) (Gives (tt {0}) y)
        by_test true b c d same e = (sym (gives_held e), refl)
        by_test false true c d same e = absurd (cc)
        by_test false false true d same e = absurd (cc)
        by_test false false false d same e = (sym (gives_held e), ap (λ (z : Bool). (let d : Done (Unit {0}) = if z then Traps trap.Bounds y else Gives tt y in d)) same)

    placed_led : (c : CopyCall) (n : ℕ) (is_inside : Bool) → IsFound c n → By P (placed_and_met (ends.seen g) (element_at g number) c n is_inside m)
    unfolding placed_and_met
    placed_led c n is_inside f =
        by_after P (placed_well (element_at g number) (memory_of ((ends.seen g).options c.canon) m) c.place c.length m) (λ done k. if is_inside then Traps trap.SameInstance k else meets (ends.seen g) c n k)
        (λ done k e. (
        let both = placed_same (element_at g number) (memory_of ((ends.seen g).options c.canon) m) c.place c.length m h done k (sym same_store) e in
        let memory : memory_of ((ends.seen g).options c.canon) m ≡ memory_of ((ends.seen g).options number) h =
        ap (λ (n : ℕ). memory_of ((ends.seen g).options n) m) f.of_canon ∙ memory_alike ((ends.seen g).options number).memory h m same_memories in
        subst (λ (z : Held). By P (if is_inside then Traps trap.SameInstance z else meets (ends.seen g) c n z)) (sym both.0)
        (by_if P is_inside (Traps trap.SameInstance m) (meets (ends.seen g) c n m) (λ inside. tt)
        (λ outside. meets_led c n f (subst (λ (o : Option ℕ). placed_well (element_at g number) o c.place c.length h ≡ Gives tt h) memory both.1)))
        ))

    copy_led : (c : CopyCall) (n : ℕ) (channel : Channel) → IsFound c n → By P (copy_tested (ends.seen g) (element_at g number) c n channel m)
    copy_led c n channel f =
        let place : Done Flow = placed_and_met (ends.seen g) (element_at g number) c n (is_within (ends.seen g) c.at c.side (element_at g number) channel.ends) m in
        by_if P (is_copying (end_in c.side channel.ends)) (Traps trap.Busy m)
        (if (end_in c.side channel.ends).done then Traps trap.DoneEnd m else if nat_lt most_elements c.length then Traps trap.TooLong m else place) (λ busy. tt)
        (λ free.
        by_if P (end_in c.side channel.ends).done (Traps trap.DoneEnd m) (if nat_lt most_elements c.length then Traps trap.TooLong m else place) (λ over. tt)
        (λ still.
        by_if P (nat_lt most_elements c.length) (Traps trap.TooLong m) place (λ long. tt)
        (λ short. placed_led c n (is_within (ends.seen g) c.at c.side (element_at g number) channel.ends) f)))

    -- The end that is found is of the type and the side.
    end_gives : (at : ℕ) (side : Side) (wanted index : ℕ) (y : EndEntry) (l : Held) → end_found at side wanted index m ≡ Gives y l
        → (l ≡ m) × ((i : InstanceView) (x : EndEntry) → slice_get m.instances at ≡ Some i → entry_of i index ≡ Some (entry.End x) → IsEnd side wanted x y)
    end_gives at side wanted index y l e = by_instance (slice_get m.instances at) refl e
      where
        by_result : (r : Result EndEntry Refusal) → named r m ≡ Gives y l → (l ≡ m) × (r ≡ Ok y)
        by_result (Ok z) e = (sym (gives_held e), ap (λ (v : EndEntry). Ok v) (gives_first e))
        by_result (Err why) e = absurd (cc)

        by_instance : (o : Option InstanceView) → slice_get m.instances at ≡ o → (let d : Done EndEntry = given o (λ i. named (entries.end_in side wanted (entry_of i index)) m) in d) ≡ Gives y l
            → (l ≡ m) × ((i : InstanceView) (x : EndEntry) → slice_get m.instances at ≡ Some i → entry_of i index ≡ Some (entry.End x) → IsEnd side wanted x y)
        by_instance None here e = absurd (cc)
        by_instance (Some j) here e =
            let both = by_result (entries.end_in side wanted (entry_of j index)) e in (
              both.0,
              λ i x at_i stands. end_is side wanted (entry_of j index) x y both.1 (ap (λ (z : InstanceView). entry_of z index) (some_same (sym here ∙ at_i)) ∙ stands),
            )

    read_led : (side : Side) (index place count : ℕ) → SizeFits of_what count → By P (read_or_write (ends.seen g) (element_at g number) (call_of t b.instance number of_what side type index place count) m)
    unfolding read_or_write
    read_led side index place count fits =
        let c : CopyCall = call_of t b.instance number of_what side type index place count in
        by_after P (end_found b.instance side type index m) (λ e k. given (channel_at of_what e.number k) (λ channel. copy_tested (ends.seen g) (element_at g number) c e.number channel k))
        (λ e k found. (
        let both = end_gives b.instance side type index e k found in
        let f : IsFound c e.number = record {
          of_canon = refl;
          of_at = refl;
          of_task = refl;
          of_kind = refl;
          fits = fits;
          end = λ i x here stands. both.1 i x (ap (λ (l : List InstanceView). slice_get l b.instance) same_instances ∙ here) stands;
        } in
        subst (λ (z : Held). By P (let d : Done Flow = given (channel_at of_what e.number z) (λ channel. copy_tested (ends.seen g) (element_at g number) c e.number channel z) in d)) (sym both.0)
        (by_given P (channel_at of_what e.number m) (λ channel. copy_tested (ends.seen g) (element_at g number) c e.number channel m) (λ channel at_number. copy_led c e.number channel f))
        ))

    length_fits : (k : EndKind) (words : List ℕ) (count : ℕ) → length_in k words ≡ Some count → SizeFits k count
    length_fits Stream words count e = tt
    length_fits Future words count e = sym (some_same e)

    asked_led : (side : Side) (words : List ℕ) → By P (copy_asked (ends.seen g) (element_at g number) t b.instance number of_what side type words m)
    unfolding copy_asked
    asked_led side words =
        by_given P (word_in words 0)
        (λ index. given (word_in words 1) (λ place. given (length_in of_what words) (λ count. read_or_write (ends.seen g) (element_at g number) (call_of t b.instance number of_what side type index place count) m)))
        (λ index first.
        by_given P (word_in words 1) (λ place. given (length_in of_what words) (λ count. read_or_write (ends.seen g) (element_at g number) (call_of t b.instance number of_what side type index place count) m))
        (λ place second.
        by_given P (length_in of_what words) (λ count. read_or_write (ends.seen g) (element_at g number) (call_of t b.instance number of_what side type index place count) m)
        (λ count third. read_led side index place count (length_fits of_what words count third))))

    op_led : (o : EndOp) (words : List ℕ) → By P (op_reply g (element_at g number) t b.instance number of_what type o words m)
    op_led end_op.New words = by_plain (channel_new t b.instance of_what type m) (new_plain t b.instance of_what type m)
    op_led (end_op.Copy side options) words = asked_led (side_of side) words
    op_led (end_op.Cancel side is_async) words =
        by_plain (copy_cancel (ends.seen g) t b.instance of_what (side_of side) type words m) (cancel_plain (ends.seen g) t b.instance of_what (side_of side) type words m)
    op_led (end_op.Drop side) words = by_plain (end_drop t b.instance of_what (side_of side) type words m) (drop_plain t b.instance of_what (side_of side) type words m)

  -- What is kept behind the line of the call.
  record IsLined (m : Held) : Type 0 where
    chain : m.chain ≡ h.chain
    rest : m.rest ≡ h.rest
    instances : m.instances ≡ h.instances
    tasks : m.tasks ≡ h.tasks
    memories : m.memories ≡ h.memories
    store : m.store ≡ h.store
    streams : m.streams ≡ h.streams
    futures : m.futures ≡ h.futures

  end_led : (b : Builtin) (of_what : EndKind) (element : Option ValType) (op : EndOp) (words : List ℕ) (m : Held) → canon_at g number ≡ Some (canon.Builtin b) → b.kind ≡ kind.End of_what element op → IsLined m
      → may_leave h ≡ true → By P (kind_reply g types (element_at g number) t b.instance number (kind.End of_what element op) words m)
  end_led b of_what element op words m made is l late =
      by_given P (slice_get types number) (λ known. given known (λ type. op_reply g (element_at g number) t b.instance number of_what type op words m))
      (λ known at_number.
      by_given P known (λ type. op_reply g (element_at g number) t b.instance number of_what type op words m)
      (λ type numbered.
      op_led b of_what element op made is m l.chain l.rest l.instances l.tasks l.memories l.store l.streams l.futures late type (at_number ∙ ap (λ (o : Option ℕ). Some o) numbered) op words))

  -- All canonical functions, by their kinds.
  reply_plain : (b : Builtin) (k : BuiltinKind) (words : List ℕ) (m : Held) → b.kind ≡ k → PlainBy (builtin_reply g t b.instance number k words m) → By P (whole.answered g t number (canon.Builtin b) words m)
  reply_plain b k words m is plain =
      by_plain (whole.answered g t number (canon.Builtin b) words m) (subst (λ (z : BuiltinKind). PlainBy (builtin_reply g t b.instance number z words m)) (sym is) plain)

  by_kind_led : (b : Builtin) (k : BuiltinKind) (words : List ℕ) (m : Held) → canon_at g number ≡ Some (canon.Builtin b) → b.kind ≡ k → IsLined m → may_leave h ≡ true
      → By P (kind_answered g types t number (canon.Builtin b) b.instance k words m)
  by_kind_led b (kind.Resource op resource) words m made is l late = reply_plain b (kind.Resource op resource) words m is (resource_reply_plain g t b.instance number op resource words m)
  by_kind_led b (kind.TaskReturn result options) words m made is l late =
      subst (λ (z : BuiltinKind). By P (builtin_reply g t b.instance number z words m)) (sym is)
      (return_led b result options m made is (led_same h m l.chain l.rest l.instances l.tasks) l.tasks)
  by_kind_led b (kind.Plain op) words m made is l late = reply_plain b (kind.Plain op) words m is (plain_reply_plain g t b.instance number op words m)
  by_kind_led b (kind.Context op slot) words m made is l late = reply_plain b (kind.Context op slot) words m is (context_reply_plain t op slot words m)
  by_kind_led b (kind.Wait op cancellable memory) words m made is l late =
      by_waits (set_wait (seen g) t b.instance number op words m) (set_wait_plain (seen g) t b.instance number op words m)
    where
      by_waits : (d : Done Flow) → PlainBy d → By P d
      by_waits d p = by_plain d p
  by_kind_led b (kind.End of_what element op) words m made is l late =
      by_given P (canon_at g number) (λ d. canon_reply g types (element_at g number) t number d words m)
      (λ d found.
      subst (λ (z : CanonFunc). By P (canon_reply g types (element_at g number) t number z words m)) (some_same (sym made ∙ found))
      (subst (λ (z : BuiltinKind). By P (kind_reply g types (element_at g number) t b.instance number z words m)) (sym is) (end_led b of_what element op words m made is l late)))

  canon_led : (c : CanonFunc) (words : List ℕ) (m : Held) → canon_at g number ≡ Some c → IsLined m → may_leave h ≡ true → By P (canon_answered g types t number c words m)
  canon_led (canon.Lower x) words m made l late = by_plain (lowered t number x.lift words m) (lowered_plain t number x.lift words m)
  canon_led (canon.Builtin b) words m made l late = by_kind_led b b.kind words m made refl l late

  -- Those that are answered also where the instance may not be left change what is kept; but they lead nowhere.
  exempt_by : (c : CanonFunc) (words : List ℕ) (m : Held) (answer : Option (List ℕ)) (k : Held) → IsLined m → exempt_answer t words c m ≡ Gives answer k → answer ≡ None → IsLined k
  exempt_by (canon.Lower x) words m answer k l e none = subst (λ (z : Held). IsLined z) (gives_held e) l
  exempt_by (canon.Builtin b) words m answer k l e none = by_kind b.kind e
    where
      some_none : (words : List ℕ) → answer ≡ Some words → ⊥
      some_none words some = (let clash : Some words ≡ None = sym some ∙ none in let wrong : ⊥ = cc in wrong)

      got_so : {A : Type 0} (d : Done A) (F : A → List ℕ) → (let x : Done (Option (List ℕ)) = after d (λ y n. Gives (Some (F y)) n) in x) ≡ Gives answer k → IsLined k
      got_so (Gives y n) F e = absurd (some_none (F y) (sym (gives_first e)))
      got_so (Traps why n) F e = absurd (cc)
      got_so (Spent n) F e = absurd (cc)
      got_so Stuck F e = absurd (cc)

      word_so : {A : Type 0} (o : Option ℕ) (D : ℕ → Done A) (F : ℕ → A → List ℕ) → (let x : Done (Option (List ℕ)) = given o (λ w. after (D w) (λ y n. Gives (Some (F w y)) n)) in x) ≡ Gives answer k → IsLined k
      word_so None D F e = absurd (cc)
      word_so (Some w) D F e = got_so (D w) (F w) e

      by_kind : (z : BuiltinKind) → builtin_answer t words b.instance z m ≡ Gives answer k → IsLined k
      by_kind (kind.Resource resource_op.New resource) e = subst (λ (z : Held). IsLined z) (gives_held e) l
      by_kind (kind.Resource resource_op.Drop resource) e = subst (λ (z : Held). IsLined z) (gives_held e) l
      by_kind (kind.Resource resource_op.Rep resource) e = word_so (exempt.first_word words) (λ index. rep_found b.instance index resource m) (λ index rep. rep ∷ []) e
      by_kind (kind.TaskReturn result options) e = subst (λ (z : Held). IsLined z) (gives_held e) l
      by_kind (kind.Plain op) e = subst (λ (z : Held). IsLined z) (gives_held e) l
      by_kind (kind.Context context_op.Get slot) e = got_so (context_of t slot m) (λ word. word ∷ []) e
      by_kind (kind.Context context_op.Set slot) e = word_so (exempt.first_word words) (λ word. context_set t slot word m) (λ word done. []) e
      by_kind (kind.Wait op cancellable memory) e = subst (λ (z : Held). IsLined z) (gives_held e) l
      by_kind (kind.End of_what element op) e = subst (λ (z : Held). IsLined z) (gives_held e) l

  allowed_led : (c : CanonFunc) (words : List ℕ) (m : Held) → canon_at g number ≡ Some c → IsLined m → By P (allowed g types t number c words m)
  unfolding allowed
  allowed_led c words m made l =
      by_after P (exempt_answer t words c m) (λ answer k. allowed_by g types t number c words answer k) (λ answer k e. by_answer answer k (exempt_by c words m answer k l e))
    where
      by_answer : (answer : Option (List ℕ)) (k : Held) → (answer ≡ None → IsLined k) → By P (allowed_by g types t number c words answer k)
      by_answer (Some answer) k lined = by_plain (got t answer k) (got_plain t answer k)
      by_answer None k lined =
          by_if P (may_leave k) (canon_answered g types t number c words k) (Traps trap.CannotLeave k)
          (λ may. canon_led c words k made (lined refl) (ap (λ (tasks : List TaskSlot). slot_has_exited (slice_get tasks 0)) (sym (lined refl).tasks) ∙ may)) (λ may. tt)

-- A call, whatever it is.
abbrev pub CallLed : Graph → List (Option ℕ) → ℕ → Held → Flow → Held → Type 0
CallLed g types number h what k = (t : ℕ) × (acting_of h ≡ Some t) × LedTo g types number t h what k

more_by : (P Q : Flow → Held → Type 0) → ((x : Flow) (k : Held) → P x k → Q x k) → (d : Done Flow) → By P d → By Q d
more_by P Q f (Gives x k) h = f x k h
more_by P Q f (Traps why k) h = tt
more_by P Q f (Spent k) h = tt
more_by P Q f Stuck h = tt

pub calls_led : (g : Graph) (types : List (Option ℕ)) (number : ℕ) (h : Held) → By (CallLed g types number h) (calls g types number h)
unfolding calls
calls_led g types number h =
    by_after (CallLed g types number h) (acting h) (λ t k. given (canon_at g number) (λ c. after (words_of t k) (λ words l. after (begun t c words l) (λ done m. allowed g types t number c words m))))
    (λ t k acts. (
    let a = acting_gives h t k acts in
    by_given (CallLed g types number h) (canon_at g number) (λ c. after (words_of t k) (λ words l. after (begun t c words l) (λ done m. allowed g types t number c words m)))
    (λ c made.
    by_after (CallLed g types number h) (words_of t k) (λ words l. after (begun t c words l) (λ done m. allowed g types t number c words m))
    (λ words l found.
    by_after (CallLed g types number h) (begun t c words l) (λ done m. allowed g types t number c words m)
    (λ done m told_so. (
    let same : l ≡ h = words_gives t k words l found ∙ a.1 in
    let lines : m ≡ lined (line.Do t (builtin_of c) words) l = sym (gives_held told_so) in
    let is : IsLined g types number t h m = record {
      chain = ap (λ (z : Held). z.chain) lines ∙ ap (λ (z : Held). z.chain) same;
      rest = ap (λ (z : Held). z.rest) lines ∙ ap (λ (z : Held). z.rest) same;
      instances = ap (λ (z : Held). z.instances) lines ∙ ap (λ (z : Held). z.instances) same;
      tasks = ap (λ (z : Held). z.tasks) lines ∙ ap (λ (z : Held). z.tasks) same;
      memories = ap (λ (z : Held). z.memories) lines ∙ ap (λ (z : Held). z.memories) same;
      store = ap (λ (z : Held). z.store) lines ∙ ap (λ (z : Held). z.store) same;
      streams = ap (λ (z : Held). z.streams) lines ∙ ap (λ (z : Held). z.streams) same;
      futures = ap (λ (z : Held). z.futures) lines ∙ ap (λ (z : Held). z.futures) same;
    } in
    more_by (LedTo g types number t h) (CallLed g types number h) (λ x z led. (t, a.0, led)) (allowed g types t number c words m) (allowed_led g types number t h c words m made is)
    ))))
    ))
