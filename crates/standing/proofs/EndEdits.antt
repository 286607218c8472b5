-- What happens to the ends of a stream or a future that is kept, and what it is on the machine's side.
use Rattle.std.proofs.Common.{◌≡◌, ℕ, zero, suc, ◌-◌, Bool, true, is_some, if◌then◌else◌, List, [], ◌∷◌, slice_set, refl, sym, ap, ◌∙◌, subst, arith, Option, Some, None}
use Rattle.std.specs.List.{slice_get}
use Rattle.syntax_trees.specs.declared.types.ValType.{ValType}
use Rattle.wasm_store.specs.Stack.{Stack}
use Rattle.builtin_kinds.specs.declared.EndKind.{EndKind}
use Rattle.builtin_kinds.specs.declared.EndKind.TheVariants as kind
use Rattle.stream_ends.specs.declared.side.Side.{Side}
use Rattle.stream_ends.specs.declared.open_copy.By.{By}
use Rattle.stream_ends.specs.Ends.{EndsView, end_at, is_idle, is_copying, new_copy}
use Rattle.stream_ends.specs.Ends as stream_end
use Rattle.stream_ends.specs.Closed as streams
use Rattle.stream_ends.specs.Meeting.{after_dropping, changed}
use Rattle.future_ends.specs.Meeting as futures
use Rattle.channels.specs.declared.channel.Ends.{Ends}
use Rattle.channels.specs.declared.channel.Ends.TheVariants.{Stream, Future}
use Rattle.channels.specs.declared.channel.Channel as kept
use Rattle.channels.specs.Channels as channel
use Rattle.channels.specs.Channels.{kind_of, view_of, end_in, with_ends, may_offer, meet_in, is_short, payload_in, may_drop}
use Rattle.comp_graph.specs.Graph.{Graph}
use Rattle.script_reader.specs.Script.{Script}
use Rattle.instances.specs.declared.entry.EndEntry.{EndEntry}
use Rattle.instances.specs.declared.entry.WorldEntry.{WorldEntry}
use Rattle.instances.specs.declared.entry.WorldEntry.TheVariants as entry
use Rattle.instances.specs.Entries.{with_idle, any_end_in}
use Rattle.instances.specs.Instances as instance
use Rattle.instances.specs.Instances.{InstanceView, entry_of}
use Rattle.world_parts.specs.Held.{Held, Gives, Stuck, given}
use Rattle.world_parts.specs.Entries.{with_instance, end_idled}
use Rattle.world_parts.specs.Channels.{place_of, at_place, channels, channel_at, with_channel, answered, offered, offered_at, concluded, concluded_at, end_dropped, end_dropped_at, idle_seen}
use Rattle.abi_machine.specs.World.{Channel, World}
use Rattle.abi_machine.specs.Edits as world
use Rattle.abi_machine.specs.Edits.{changed_at}
use Rattle.abi_machine.specs.Counting.{payload_by}
use Rattle.standing.specs.Stands.{ChannelStands, Stands}
use Rattle.standing.proofs.Agreeing.{get_set}
use Rattle.standing.proofs.Tables.{entries_stay_alike}
use Rattle.standing.proofs.Changes.{instances_stay}
use Rattle.standing.proofs.Channels.{place_suc, channels_change}

-- What is kept with another stream or future of a number.
abbrev pub put_streams : EndKind → ℕ → kept.Channel → List kept.Channel → List kept.Channel
put_streams kind.Stream number c all = slice_set all (number - 1) c
put_streams kind.Future number c all = all

abbrev pub put_futures : EndKind → ℕ → kept.Channel → List kept.Channel → List kept.Channel
put_futures kind.Stream number c all = all
put_futures kind.Future number c all = slice_set all (number - 1) c

abbrev pub put : EndKind → ℕ → kept.Channel → Held → Held
put k number c h = record h { streams = put_streams k number c h.streams; futures = put_futures k number c h.futures }

put_is : (k : EndKind) (number : ℕ) (c : kept.Channel) (h : Held) → with_channel k (number - 1) c h ≡ put k number c h
put_is kind.Stream number c h = refl
put_is kind.Future number c h = refl

-- where it stands
pub record Placed (k : EndKind) (number : ℕ) (h : Held) (c : kept.Channel) : Type 0 where
  pub counted : place_of number ≡ Some (number - 1)
  pub there : slice_get (channels k h) (number - 1) ≡ Some c

pub placed : (k : EndKind) (number : ℕ) (h : Held) (c : kept.Channel) → channel_at k number h ≡ Some c → Placed k number h c
placed k zero h c is = absurd (cc)
placed k (suc n) h c is =
    let less : suc n - 1 ≡ n = omega arith in
    record {
      counted = place_suc n ∙ ap (λ (m : ℕ). Some m) (sym less);
      there =
          ap (λ (m : ℕ). slice_get (channels k h) m) less
          ∙ subst (λ (o : Option ℕ). at_place (channels k h) o ≡ Some c) (place_suc n) is;
    }

-- It is found again, and what is put stands for what the machine changes.
pub found_again : (k : EndKind) (number : ℕ) (h : Held) (c z : kept.Channel) → channel_at k number h ≡ Some c → channel_at k number (put k number z h) ≡ Some z
found_again kind.Stream number h c z is =
    let p : Placed kind.Stream number h c = placed kind.Stream number h c is in
    ap (at_place (slice_set h.streams (number - 1) z)) p.counted ∙ get_set h.streams (number - 1) c z p.there
found_again kind.Future number h c z is =
    let p : Placed kind.Future number h c = placed kind.Future number h c is in
    ap (at_place (slice_set h.futures (number - 1) z)) p.counted ∙ get_set h.futures (number - 1) c z p.there

pub put_stands : (g : Graph) (values : List ValType) (s : Script) (h : Held) (stacks : List (List Stack)) (w : World) (k : EndKind) (number : ℕ) (c z : kept.Channel) (f : Channel → Channel)
    → channel_at k number h ≡ Some c → ((a : Channel) → ChannelStands values k c a → ChannelStands values k z (f a)) → Stands g values s h stacks w
    → Stands g values s (put k number z h) stacks (world.with_channel k number f w)
put_stands g values s h stacks w k number c z f is keeps st =
    let p : Placed k number h c = placed k number h c is in
    subst (λ (x : Held). Stands g values s x stacks (world.with_channel k number f w)) (put_is k number z h)
    (channels_change g values s h stacks w k number (number - 1) c z f p.counted p.there (λ a there now. keeps a now) st)

same_at : {A : Type 0} (n : ℕ) (xs : List A) → changed_at n (λ x. x) xs ≡ xs
same_at n [] = refl
same_at zero (x ∷ xs) = refl
same_at (suc n) (x ∷ xs) = ap (λ ys. x ∷ ys) (same_at n xs)

same_number : {A : Type 0} (n : ℕ) (xs : List A) → world.changed_number n (λ x. x) xs ≡ xs
same_number zero xs = refl
same_number (suc n) xs = same_at n xs

same_world : (k : EndKind) (number : ℕ) (w : World) → world.with_channel k number (λ a. a) w ≡ w
same_world kind.Stream number w = ap (λ (xs : List Channel). record w { streams = xs }) (same_number number w.streams)
same_world kind.Future number w = ap (λ (xs : List Channel). record w { futures = xs }) (same_number number w.futures)

-- What is put stands for the same.
pub put_stays : (g : Graph) (values : List ValType) (s : Script) (h : Held) (stacks : List (List Stack)) (w : World) (k : EndKind) (number : ℕ) (c z : kept.Channel)
    → channel_at k number h ≡ Some c → ((a : Channel) → ChannelStands values k c a → ChannelStands values k z a) → Stands g values s h stacks w
    → Stands g values s (put k number z h) stacks w
put_stays g values s h stacks w k number c z is keeps st =
    subst (λ (u : World). Stands g values s (put k number z h) stacks u) (same_world k number w) (put_stands g values s h stacks w k number c z (λ a. a) is keeps st)

-- The store, the tasks and the chain are not changed.
pub store_kept : (k : EndKind) (number : ℕ) (f : Channel → Channel) (w : World) → (world.with_channel k number f w).store ≡ w.store
store_kept kind.Stream number f w = refl
store_kept kind.Future number f w = refl

pub tasks_kept : (k : EndKind) (number : ℕ) (f : Channel → Channel) (w : World) → (world.with_channel k number f w).tasks ≡ w.tasks
tasks_kept kind.Stream number f w = refl
tasks_kept kind.Future number f w = refl

pub chain_kept : (k : EndKind) (number : ℕ) (f : Channel → Channel) (w : World) → (world.with_channel k number f w).chain ≡ w.chain
chain_kept kind.Stream number f w = refl
chain_kept kind.Future number f w = refl

-- The same number names the same, where instances are others.
pub same_channel : (k : EndKind) (number : ℕ) (h : Held) (instances : List InstanceView) → channel_at k number (record h { instances = instances }) ≡ channel_at k number h
same_channel kind.Stream number h instances = refl
same_channel kind.Future number h instances = refl

-- What ends answer.
pub offered_is : (k : EndKind) (side : Side) (number : ℕ) (by : By) (canon address size : ℕ) (h : Held) (c : kept.Channel) → channel_at k number h ≡ Some c → may_offer side size c.ends ≡ true
    → offered k side number by canon address size h
    ≡ Gives (meet_in side by canon address size c.ends) (put k number (with_ends (channel.offered side by canon address size c.ends) c) h)
offered_is k side number by canon address size h c is may =
    let p : Placed k number h c = placed k number h c is in
    ap (λ (o : Option ℕ). given o (λ place. offered_at k place side by canon address size h)) p.counted
    ∙ ap (λ (o : Option kept.Channel). given o (λ d.
    answered (if may_offer side size d.ends then Some (meet_in side by canon address size d.ends) else None) k (number - 1)
    (if may_offer side size d.ends then with_ends (channel.offered side by canon address size d.ends) d else d) h)) p.there
    ∙ ap (λ (b : Bool). answered (if b then Some (meet_in side by canon address size c.ends) else None) k (number - 1)
    (if b then with_ends (channel.offered side by canon address size c.ends) c else c) h) may
    ∙ ap (λ (x : Held). Gives (meet_in side by canon address size c.ends) x) (put_is k number (with_ends (channel.offered side by canon address size c.ends) c) h)

pub concluded_is : (k : EndKind) (side : Side) (number : ℕ) (h : Held) (c : kept.Channel) → channel_at k number h ≡ Some c → is_copying (end_in side c.ends) ≡ true
    → concluded k side number h ≡ Gives (payload_in side c.ends) (put k number (with_ends (channel.told side c.ends) c) h)
concluded_is k side number h c is open_one =
    let p : Placed k number h c = placed k number h c is in
    ap (λ (o : Option ℕ). given o (λ place. concluded_at k place side h)) p.counted
    ∙ ap (λ (o : Option kept.Channel). given o (λ d.
    answered (if is_copying (end_in side d.ends) then Some (payload_in side d.ends) else None) k (number - 1)
    (if is_copying (end_in side d.ends) then with_ends (channel.told side d.ends) d else d) h)) p.there
    ∙ ap (λ (b : Bool). answered (if b then Some (payload_in side c.ends) else None) k (number - 1) (if b then with_ends (channel.told side c.ends) c else c) h) open_one
    ∙ ap (λ (x : Held). Gives (payload_in side c.ends) x) (put_is k number (with_ends (channel.told side c.ends) c) h)

pub dropped_is : (k : EndKind) (side : Side) (number : ℕ) (h : Held) (c : kept.Channel) → channel_at k number h ≡ Some c → may_drop side c.ends ≡ true
    → end_dropped k side number h ≡ Gives tt (put k number (with_ends (channel.dropped side c.ends) c) h)
dropped_is k side number h c is may =
    let p : Placed k number h c = placed k number h c is in
    ap (λ (o : Option ℕ). given o (λ place. end_dropped_at k place side h)) p.counted
    ∙ ap (λ (o : Option kept.Channel). given o (λ d.
    if may_drop side d.ends then Gives tt (with_channel k (number - 1) (with_ends (channel.dropped side d.ends) d) h) else Stuck)) p.there
    ∙ ap (λ (b : Bool). if b then Gives tt (with_channel k (number - 1) (with_ends (channel.dropped side c.ends) c) h) else Stuck) may
    ∙ ap (λ (x : Held). Gives tt x) (put_is k number (with_ends (channel.dropped side c.ends) c) h)

pub idle_seen_is : (k : EndKind) (side : Side) (number : ℕ) (h : Held) (c : kept.Channel) → channel_at k number h ≡ Some c
    → idle_seen k side number h ≡ Gives (is_idle (end_in side c.ends)) h
idle_seen_is k side number h c is = ap (λ (o : Option kept.Channel). given o (λ d. Gives (is_idle (end_in side d.ends)) h)) is

-- Whether an end is idle is said at its index, and is not said of what it stands for.
abbrev pub idled_at : ℕ → ℕ → Bool → InstanceView → EndEntry → Held → Held
idled_at at index b x e h = with_instance at (instance.entry_changed index (entry.End (with_idle b e)) x) h

pub idled_is : (at index : ℕ) (b : Bool) (h : Held) (x : InstanceView) (e : EndEntry) → slice_get h.instances at ≡ Some x → entry_of x index ≡ Some (entry.End e)
    → end_idled at index b h ≡ Gives tt (idled_at at index b x e h)
idled_is at index b h x e is there =
    ap (λ (o : Option InstanceView). given o (λ i. if is_some (any_end_in (entry_of i index)) then Gives tt (with_instance at (instance.idled index b i) h) else Stuck)) is
    ∙ ap (λ (o : Option WorldEntry). if is_some (any_end_in o) then Gives tt (with_instance at (instance.end_idled index b (any_end_in o) x) h) else Stuck) there

pub idled_stands : (g : Graph) (values : List ValType) (s : Script) (h : Held) (stacks : List (List Stack)) (w : World) (at index : ℕ) (b : Bool) (x : InstanceView) (e : EndEntry)
    → slice_get h.instances at ≡ Some x → entry_of x index ≡ Some (entry.End e) → Stands g values s h stacks w → Stands g values s (idled_at at index b x e h) stacks w
idled_stands g values s h stacks w at index b x e is there st =
    instances_stay g values s h stacks w at x (instance.entry_changed index (entry.End (with_idle b e)) x) is
    (λ a now. entries_stay_alike values x a index (entry.End e) (entry.End (with_idle b e)) there (λ stands p. p) now) st

-- A copy that is told, or given up.
payload_same : (k : EndKind) (side : Side) (ends : Ends) (view : EndsView) → kind_of ends ≡ k → view_of ends ≡ view → payload_in side ends ≡ payload_by k (end_at side view)
payload_same kind.Stream side (Stream p) view of same = ap (λ (v : EndsView). stream_end.told_payload (end_at side v).copy) same
payload_same kind.Stream side (Future p) view of same = absurd (cc)
payload_same kind.Future side (Stream p) view of same = absurd (cc)
payload_same kind.Future side (Future p) view of same = ap (λ (v : EndsView). futures.told_payload (end_at side v).copy) same

pub payload_alike : (values : List ValType) (k : EndKind) (side : Side) (c : kept.Channel) (a : Channel) → ChannelStands values k c a → payload_in side c.ends ≡ payload_by k (end_at side a.ends.view)
payload_alike values k side c a st = payload_same k side c.ends a.ends.view st.of st.ends

told_kind : (side : Side) (ends : Ends) → kind_of (channel.told side ends) ≡ kind_of ends
told_kind side (Stream p) = refl
told_kind side (Future p) = refl

told_view : (k : EndKind) (side : Side) (ends : Ends) (others : stream_end.Ends) → kind_of ends ≡ k → view_of ends ≡ others.view
    → view_of (channel.told side ends) ≡ (world.concluded_by k side others).view
told_view kind.Stream side (Stream p) others of same = ap (λ (v : EndsView). changed side stream_end.told v) same
told_view kind.Stream side (Future p) others of same = absurd (cc)
told_view kind.Future side (Stream p) others of same = absurd (cc)
told_view kind.Future side (Future p) others of same = ap (λ (v : EndsView). changed side futures.told v) same

pub told_stands : (values : List ValType) (k : EndKind) (side : Side) (c : kept.Channel) (a : Channel) → ChannelStands values k c a
    → ChannelStands values k (with_ends (channel.told side c.ends) c) (record a { ends = world.concluded_by k side a.ends })
told_stands values k side c a st = record { of = told_kind side c.ends ∙ st.of; typed = st.typed; ends = told_view k side c.ends a.ends st.of st.ends }

-- An end that is dropped.
dropped_kind : (side : Side) (ends : Ends) → kind_of (channel.dropped side ends) ≡ kind_of ends
dropped_kind side (Stream p) = refl
dropped_kind side (Future p) = refl

dropped_view : (side : Side) (ends : Ends) → view_of (channel.dropped side ends) ≡ after_dropping side (view_of ends)
dropped_view side (Stream p) = refl
dropped_view side (Future p) = refl

pub dropped_stands : (values : List ValType) (k : EndKind) (side : Side) (c : kept.Channel) (a : Channel) → ChannelStands values k c a
    → ChannelStands values k (with_ends (channel.dropped side c.ends) c) (record a { ends = streams.after_drop side a.ends })
dropped_stands values k side c a st = record {
  of = dropped_kind side c.ends ∙ st.of;
  typed = st.typed;
  ends = dropped_view side c.ends ∙ ap (λ (v : EndsView). after_dropping side v) st.ends;
}
