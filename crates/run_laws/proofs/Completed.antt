-- Copies that are completed.
use Rattle.std.proofs.Common.{◌≡◌, ℕ, ◌-◌, Bool, true, false, is_some, if◌then◌else◌, List, [], ◌∷◌, ◌++◌, length, refl, sym, ap, ◌∙◌, subst, append_assoc, arith, Option, Some, None}
use Rattle.std.specs.List.{slice_get}
use Rattle.std.specs.Option.{option_map}
use Rattle.wasm_store.specs.Stack.{Stack}
use Rattle.wasm_store.specs.Store.{found_at}
use Rattle.syntax_trees.specs.declared.types.ValType.{ValType}
use Rattle.syntax_trees.specs.declared.value.Value.{Value}
use Rattle.builtin_kinds.specs.declared.EndKind.{EndKind}
use Rattle.builtin_kinds.specs.declared.EndKind.TheVariants as kind
use Rattle.stream_ends.specs.declared.side.Side.{Side}
use Rattle.stream_ends.specs.Ends.{EndsView, is_idle}
use Rattle.stream_ends.specs.Ends as stream_end
use Rattle.stream_ends.specs.Meeting as streams
use Rattle.future_ends.specs.Meeting as futures
use Rattle.channels.specs.declared.channel.Ends.{Ends}
use Rattle.channels.specs.declared.channel.Ends.TheVariants.{Stream, Future}
use Rattle.channels.specs.declared.channel.Channel as kept_channel
use Rattle.channels.specs.Channels as channel
use Rattle.channels.specs.Channels.{kind_of, view_of, end_in, with_ends, is_due}
use Rattle.comp_graph.specs.Graph.{Graph}
use Rattle.script_reader.specs.Script.{Script}
use Rattle.trace_labels.specs.declared.label.Channel as labels
use Rattle.trace_labels.specs.declared.label.Copied.{Copied}
use Rattle.trace_labels.specs.declared.label.Label.{Label}
use Rattle.trace_labels.specs.declared.label.Label.TheVariants as line
use Rattle.handle_table.specs.Alike.{SlotAlike}
use Rattle.instances.specs.declared.entry.EndEntry.{EndEntry}
use Rattle.instances.specs.declared.entry.WorldEntry.{WorldEntry}
use Rattle.instances.specs.declared.entry.WorldEntry.TheVariants as entry
use Rattle.instances.specs.Entries.{any_end_in}
use Rattle.instances.specs.Instances as instance
use Rattle.instances.specs.Instances.{InstanceView, entry_of}
use Rattle.copy_replies.specs.declared.moving.Moving.{Moving}
use Rattle.copy_replies.specs.Moves.{channel_named, completed_payload, completed}
use Rattle.world_parts.specs.declared.parts.Flow.{Flow}
use Rattle.world_parts.specs.Held as kept
use Rattle.world_parts.specs.Held.{Held, Done, Gives, after, given}
use Rattle.world_parts.specs.Entries.{with_instance, end_idled}
use Rattle.world_parts.specs.Feed.{told, got}
use Rattle.world_parts.specs.Channels.{place_of, channels, channel_at, with_channel, copied, copied_at, idle_seen}
use Rattle.abi_machine.specs.World.{Task, Channel, World}
use Rattle.abi_machine.specs.Edits as world
use Rattle.abi_machine.specs.Reading as reading
use Rattle.abi_machine.specs.Turn.{Steps, goes_on_with}
use Rattle.abi_machine.specs.Copying as copying
use Rattle.abi_machine.specs.Copying.{channel_by, copying_of, copied_of, transferring_turn}
use Rattle.standing.specs.Stands.{ChannelStands, Stands}
use Rattle.standing.specs.Agreeing.{Agrees}
use Rattle.standing.proofs.Channels.{channels_are_alike}
use Rattle.standing.proofs.Steps.{via, turn_found}
use Rattle.standing.proofs.Going.{done_as}
use Rattle.standing.proofs.EndEdits.{Placed, placed, put, found_again, put_stands, idle_seen_is, idled_at, idled_is, idled_stands}
use Rattle.run_laws.specs.Completed.{IsRuled, end_of, CopyIsCompleted}
use Rattle.run_laws.proofs.Giving.{AllGive, after_gives, given_gives, if_gives}
use Rattle.run_laws.proofs.Taking.{set_twice}

-- The names and the words of both sides.
same_name : (k : EndKind) (number : ℕ) → channel_named k number ≡ channel_by k number
same_name kind.Stream number = refl
same_name kind.Future number = refl

same_payload : (k : EndKind) (count : ℕ) → completed_payload k count ≡ copying.completed k count
same_payload kind.Stream count = omega (arith)
same_payload kind.Future count = refl

-- The ends, where so many elements went over.
abbrev copied_ends : ℕ → kept_channel.Channel → kept_channel.Channel
copied_ends count c = with_ends (channel.copied count c.ends) c

copied_kind : (count : ℕ) (ends : Ends) → kind_of (channel.copied count ends) ≡ kind_of ends
copied_kind count (Stream p) = refl
copied_kind count (Future p) = refl

copied_view : (k : EndKind) (side : Side) (size count : ℕ) (ends : Ends) (others : stream_end.Ends) → kind_of ends ≡ k → view_of ends ≡ others.view
    → view_of (channel.copied count ends) ≡ (world.transferred_by k side size count others).view
copied_view kind.Stream side size count (Stream p) others of same = ap (λ (v : EndsView). streams.after_copy count v) same
copied_view kind.Stream side size count (Future p) others of same = absurd (cc)
copied_view kind.Future side size count (Stream p) others of same = absurd (cc)
copied_view kind.Future side size count (Future p) others of same = ap (λ (v : EndsView). futures.after_copy v) same

copied_alike : (values : List ValType) (k : EndKind) (side : Side) (size count : ℕ) (c : kept_channel.Channel) (a : Channel) → ChannelStands values k c a
    → ChannelStands values k (copied_ends count c) (record a { ends = world.transferred_by k side size count a.ends })
copied_alike values k side size count c a st = record {
  of = copied_kind count c.ends ∙ st.of;
  typed = st.typed;
  ends = copied_view k side size count c.ends a.ends st.of st.ends;
}

carried_alike : (values : List ValType) (k : EndKind) (all : List (Option Value)) (c : kept_channel.Channel) (a : Channel) → ChannelStands values k c a
    → ChannelStands values k c (world.carried all a)
carried_alike values k all c a st = record { of = st.of; typed = st.typed; ends = st.ends }

put_is : (k : EndKind) (number : ℕ) (c : kept_channel.Channel) (h : Held) → with_channel k (number - 1) c h ≡ put k number c h
put_is kind.Stream number c h = refl
put_is kind.Future number c h = refl

-- What is put twice is put once.
put_twice : (k : EndKind) (number : ℕ) (x y : kept_channel.Channel) (h : Held) → put k number y (put k number x h) ≡ put k number y h
put_twice kind.Stream number x y h = ap (λ (all : List kept_channel.Channel). record h { streams = all }) (set_twice h.streams (number - 1) x y)
put_twice kind.Future number x y h = ap (λ (all : List kept_channel.Channel). record h { futures = all }) (set_twice h.futures (number - 1) x y)

-- What is put stands for what the machine transfers.
put_copied : (g : Graph) (values : List ValType) (s : Script) (h : Held) (stacks : List (List Stack)) (w : World) (k : EndKind) (number : ℕ) (side : Side) (size : ℕ) (all : List (Option Value))
    (c : kept_channel.Channel)
    → channel_at k number h ≡ Some c → Stands g values s h stacks w
    → Stands g values s (put k number (copied_ends (length all) c) h) stacks (world.transferred (record { kind = k; number = number; side = side }) size all w)
put_copied g values s h stacks w k number side size all c there st =
    let z : kept_channel.Channel = copied_ends (length all) c in
    let once = put_stands g values s h stacks w k number c c (world.carried all) there (λ a now. carried_alike values k all c a now) st in
    subst (λ (x : Held). Stands g values s x stacks (world.transferred (record { kind = k; number = number; side = side }) size all w)) (put_twice k number c z h)
    (put_stands g values s (put k number c h) stacks (world.with_channel k number (world.carried all) w) k number c z
    (λ a. record a { ends = world.transferred_by k side size (length all) a.ends }) (found_again k number h c c there)
    (λ a now. copied_alike values k side size (length all) c a now) once)

-- A stream or a future that is kept for one that is there.
record IsKept (values : List ValType) (k : EndKind) (o : Option kept_channel.Channel) : Type 0 where
  channel : kept_channel.Channel
  is : o ≡ Some channel

is_kept : (values : List ValType) (k : EndKind) (o : Option kept_channel.Channel) (a : Channel) → SlotAlike (ChannelStands values k) o (Some a) → IsKept values k o
is_kept values k None a alike = absurd alike
is_kept values k (Some c) a alike = record { channel = c; is = refl }

same_labels : (k : EndKind) (number : ℕ) (h : Held) (ls : List Label) → channel_at k number (record h { labels = ls }) ≡ channel_at k number h
same_labels kind.Stream number h ls = refl
same_labels kind.Future number h ls = refl

-- What so many elements that go over come to.
copied_is : (k : EndKind) (number count : ℕ) (h : Held) (c : kept_channel.Channel) → channel_at k number h ≡ Some c
    → copied k number count h ≡ (if is_due count c.ends then Gives tt (put k number (copied_ends count c) h) else kept.Stuck)
copied_is k number count h c is =
    let p : Placed k number h c = placed k number h c is in
    ap (λ (o : Option ℕ). given o (λ place. copied_at k place count h)) p.counted
    ∙ ap (λ (o : Option kept_channel.Channel). given o (λ d.
    if is_due count d.ends then Gives tt (with_channel k (number - 1) (copied_ends count d) h) else kept.Stuck)) p.there
    ∙ ap (λ (x : Held). (if is_due count c.ends then Gives tt x else kept.Stuck)) (put_is k number (copied_ends count c) h)

module _ (g : Graph) (values : List ValType) (s : Script) (h : Held) (stacks : List (List Stack)) (w : World) (m : Moving) (size : ℕ) (all : List (Option Value)) (a : Channel) (task : Task)
    (counted : length all ≡ m.count) (there : reading.channel_at w m.kind m.number ≡ Some a) (first : slice_get w.chain 0 ≡ Some m.task) (acts : slice_get w.tasks m.task ≡ Some task)
    (st : Stands g values s h stacks w) (c : kept_channel.Channel) (here : channel_at m.kind m.number h ≡ Some c) where
  abbrev what : Copied
  what = copied_of a.element all

  abbrev put_one : Held
  put_one = put m.kind m.number (copied_ends m.count c) h

  -- behind the line of the copy
  abbrev lined : Held
  lined = record put_one { labels = h.labels ++ line.Copy (channel_named m.kind m.number) what ∷ [] }

  abbrev idle_now : Bool
  idle_now = is_idle (end_in m.side (channel.copied m.count c.ends))

  abbrev word : ℕ
  word = completed_payload m.kind m.count

  -- what is left once the elements are counted
  abbrev rest : Done (Unit {0}) → Done Flow
  rest d =
      after d (λ done k. after (told (line.Copy (channel_named m.kind m.number) what) k) (λ done l.
      after (idle_seen m.kind m.side m.number l) (λ is_idle n. after (end_idled m.at m.index is_idle n) (λ done o. got m.task (word ∷ []) o))))

  transferred_turn : transferring_turn (copying_of (end_of m) size all) w
      ≡ Steps (line.Copy (channel_named m.kind m.number) what ∷ line.Got m.task (word ∷ []) ∷ []) (goes_on_with m.task (word ∷ []) (world.transferred (end_of m) size all w))
  unfolding transferring_turn
  transferred_turn =
      turn_found (reading.acting w) (m.task, task) _ (ap (found_at w.tasks) first ∙ ap (option_map (λ (x : Task). (m.task, x))) acts)
      ∙ turn_found (reading.channel_at w m.kind m.number) a _ there
      ∙ ap (λ (n : labels.Channel). Steps (line.Copy n what ∷ line.Got m.task (copying.completed m.kind (length all) ∷ []) ∷ [])
      (goes_on_with m.task (copying.completed m.kind (length all) ∷ []) (world.transferred (end_of m) size all w))) (sym (same_name m.kind m.number))
      ∙ ap (λ (n : ℕ). Steps (line.Copy (channel_named m.kind m.number) what ∷ line.Got m.task (n ∷ []) ∷ [])
      (goes_on_with m.task (n ∷ []) (world.transferred (end_of m) size all w)))
      (ap (λ (n : ℕ). copying.completed m.kind n) counted ∙ sym (same_payload m.kind m.count))

  put_now : Stands g values s put_one stacks (world.transferred (end_of m) size all w)
  put_now = subst (λ (n : ℕ). Stands g values s (put m.kind m.number (copied_ends n c) h) stacks (world.transferred (end_of m) size all w)) counted
      (put_copied g values s h stacks w m.kind m.number m.side size all c here st)

  lined_there : channel_at m.kind m.number lined ≡ Some (copied_ends m.count c)
  lined_there = same_labels m.kind m.number put_one (h.labels ++ line.Copy (channel_named m.kind m.number) what ∷ []) ∙ found_again m.kind m.number h c (copied_ends m.count c) here

  -- at an end in a table
  at_end : (x : InstanceView) (e : EndEntry) → slice_get h.instances m.at ≡ Some x → entry_of x m.index ≡ Some (entry.End e)
      → Agrees g values s m.task h.labels stacks (rest (Gives tt put_one)) (transferring_turn (copying_of (end_of m) size all) w)
  at_end x e is is_end =
      let last : Held = idled_at m.at m.index idle_now x e lined in
      done_as g values s m.task h.labels stacks (rest (Gives tt put_one)) (got m.task (word ∷ []) last) _
      (via _ _ _ _ (idle_seen_is m.kind m.side m.number lined (copied_ends m.count c) lined_there) ∙ via _ _ _ _ (idled_is m.at m.index idle_now lined x e is is_end))
      (record {
        lines = line.Copy (channel_named m.kind m.number) what ∷ line.Got m.task (word ∷ []) ∷ [];
        world = world.transferred (end_of m) size all w;
        stands = idled_stands g values s put_one stacks (world.transferred (end_of m) size all w) m.at m.index idle_now x e is is_end put_now;
        told = append_assoc h.labels (line.Copy (channel_named m.kind m.number) what ∷ []) (line.Got m.task (word ∷ []) ∷ []);
        ends = (refl, transferred_turn);
      })

  -- where no rule applies
  no_rule : (d : Done Flow) → d ≡ kept.Stuck → IsRuled d → Agrees g values s m.task h.labels stacks d (transferring_turn (copying_of (end_of m) size all) w)
  no_rule d none ruled = absurd (subst (λ (x : Done Flow). IsRuled x) none ruled)

  idled_as : (o : Option InstanceView) → slice_get h.instances m.at ≡ o
      → after (idle_seen m.kind m.side m.number lined) (λ is_idle n. after (end_idled m.at m.index is_idle n) (λ done o. got m.task (word ∷ []) o))
      ≡ after (given o (λ i. if is_some (any_end_in (entry_of i m.index)) then Gives tt (with_instance m.at (instance.idled m.index idle_now i) lined) else kept.Stuck)) (λ (done : Unit {0}) o. got m.task (word ∷ []) o)
  idled_as o is =
      via _ _ _ _ (idle_seen_is m.kind m.side m.number lined (copied_ends m.count c) lined_there)
      ∙ ap (λ (o : Option InstanceView). after (given o (λ i. if is_some (any_end_in (entry_of i m.index)) then Gives tt (with_instance m.at (instance.idled m.index idle_now i) lined) else kept.Stuck))
      (λ (done : Unit {0}) o. got m.task (word ∷ []) o)) is

  by_entry : (x : InstanceView) (o : Option WorldEntry) → slice_get h.instances m.at ≡ Some x → entry_of x m.index ≡ o → IsRuled (rest (Gives tt put_one))
      → Agrees g values s m.task h.labels stacks (rest (Gives tt put_one)) (transferring_turn (copying_of (end_of m) size all) w)
  by_entry x o is is_entry ruled = by o is_entry
    where
      none : (p : Option WorldEntry) → entry_of x m.index ≡ p → is_some (any_end_in p) ≡ false → Agrees g values s m.task h.labels stacks (rest (Gives tt put_one)) (transferring_turn (copying_of (end_of m) size all) w)
      none p same none_there = no_rule (rest (Gives tt put_one))
          (idled_as (Some x) is
          ∙ ap (λ (b : Bool). after (if b then Gives tt (with_instance m.at (instance.idled m.index idle_now x) lined) else kept.Stuck) (λ (done : Unit {0}) o. got m.task (word ∷ []) o))
          (ap (λ (p : Option WorldEntry). is_some (any_end_in p)) same ∙ none_there)) ruled

      by : (p : Option WorldEntry) → entry_of x m.index ≡ p → Agrees g values s m.task h.labels stacks (rest (Gives tt put_one)) (transferring_turn (copying_of (end_of m) size all) w)
      by None same = none None same refl
      by (Some (entry.End e)) same = at_end x e is same
      by (Some (entry.Handle x)) same = none (Some (entry.Handle x)) same refl
      by (Some (entry.Subtask callee)) same = none (Some (entry.Subtask callee)) same refl
      by (Some (entry.Set set)) same = none (Some (entry.Set set)) same refl

  by_instance : (o : Option InstanceView) → slice_get h.instances m.at ≡ o → IsRuled (rest (Gives tt put_one))
      → Agrees g values s m.task h.labels stacks (rest (Gives tt put_one)) (transferring_turn (copying_of (end_of m) size all) w)
  by_instance None is ruled = no_rule (rest (Gives tt put_one)) (idled_as None is) ruled
  by_instance (Some x) is ruled = by_entry x (entry_of x m.index) is refl ruled

  -- where so many are due
  by_due : (b : Bool) → copied m.kind m.number m.count h ≡ (if b then Gives tt put_one else kept.Stuck) → IsRuled (rest (copied m.kind m.number m.count h))
      → Agrees g values s m.task h.labels stacks (rest (copied m.kind m.number m.count h)) (transferring_turn (copying_of (end_of m) size all) w)
  by_due true is ruled =
      done_as g values s m.task h.labels stacks (rest (copied m.kind m.number m.count h)) (rest (Gives tt put_one)) _ (ap rest is)
      (by_instance (slice_get h.instances m.at) refl (subst (λ (d : Done (Unit {0})). IsRuled (rest d)) is ruled))
  by_due false is ruled = no_rule (rest (copied m.kind m.number m.count h)) (ap rest is) ruled

pub copy_is_completed : CopyIsCompleted
unfolding completed
copy_is_completed g values s h stacks w m size all a task counted there first acts st ruled =
    let k : IsKept values m.kind (channel_at m.kind m.number h) =
    is_kept values m.kind (channel_at m.kind m.number h) a
    (subst (λ (o : Option Channel). SlotAlike (ChannelStands values m.kind) (channel_at m.kind m.number h) o) there (channels_are_alike g values s h stacks w m.kind m.number st)) in
    by_due g values s h stacks w m size all a task counted there first acts st k.channel k.is (is_due m.count k.channel.ends)
    (copied_is m.kind m.number m.count h k.channel k.is) ruled

-- It comes to an answer, or no rule applies.
abbrev pub Answers : {A : Type 0} → Done A → Type 0
Answers d = AllGive (λ x k. Unit {0}) d

pub completed_answers : (m : Moving) (what : Copied) (h : Held) → Answers (completed m what h)
unfolding completed
completed_answers m what h =
    let Given : Unit {0} → Held → Type 0 = λ done k. Unit {0} in
    let End : Flow → Held → Type 0 = λ flow k. Unit {0} in
    after_gives Given End (copied m.kind m.number m.count h) _
    (given_gives Given (place_of m.number) (λ place. copied_at m.kind place m.count h)
    (λ place found. given_gives Given (slice_get (channels m.kind h) place)
    (λ c. if is_due m.count c.ends then Gives tt (with_channel m.kind place (copied_ends m.count c) h) else kept.Stuck)
    (λ c there. if_gives Given (is_due m.count c.ends) (Gives tt (with_channel m.kind place (copied_ends m.count c) h)) tt)))
    (λ done k one. after_gives Given End (told (line.Copy (channel_named m.kind m.number) what) k) _ tt
    (λ done l two. after_gives (λ (idle : Bool) n. Unit {0}) End (idle_seen m.kind m.side m.number l) _
    (given_gives (λ (idle : Bool) n. Unit {0}) (channel_at m.kind m.number l) (λ c. Gives (is_idle (end_in m.side c.ends)) l) (λ c there. tt))
    (λ idle n three. after_gives Given End (end_idled m.at m.index idle n) (λ (done : Unit {0}) o. got m.task (completed_payload m.kind m.count ∷ []) o)
    (given_gives Given (slice_get n.instances m.at)
    (λ i. if is_some (any_end_in (entry_of i m.index)) then Gives tt (with_instance m.at (instance.idled m.index idle i) n) else kept.Stuck)
    (λ i there. if_gives Given (is_some (any_end_in (entry_of i m.index))) (Gives tt (with_instance m.at (instance.idled m.index idle i) n)) tt))
    (λ done o four. tt {0}))))
