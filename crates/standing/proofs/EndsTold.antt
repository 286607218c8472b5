-- The copy at an end is told, or given up; and a stream or a future is made.
use Rattle.std.proofs.Common.{◌≡◌, ℕ, ◌+◌, true, false, not, is_some, if◌then◌else◌, List, [], ◌∷◌, ◌++◌, length, slice_index, refl, sym, ap, ◌∙◌, subst, Option, Some, None}
use Rattle.std.specs.Prelude.{IsSome}
use Rattle.std.specs.List.{slice_get}
use Rattle.syntax_trees.specs.declared.types.ValType.{ValType}
use Rattle.wasm_store.specs.Stack.{Stack}
use Rattle.builtin_kinds.specs.declared.EndKind.{EndKind}
use Rattle.builtin_kinds.specs.declared.EndKind.TheVariants as kind
use Rattle.stream_ends.specs.declared.side.Side.{Side}
use Rattle.stream_ends.specs.declared.side.Side.TheVariants.{Reader, Writer}
use Rattle.stream_ends.specs.declared.open_copy.OpenCopy.{OpenCopy}
use Rattle.stream_ends.specs.declared.stream_end.End.{End}
use Rattle.stream_ends.specs.Ends.{is_idle, is_copying}
use Rattle.channels.specs.declared.channel.Channel as kept
use Rattle.channels.specs.Channels as channel
use Rattle.channels.specs.Channels.{new_ends, end_in, with_ends, payload_in}
use Rattle.comp_graph.specs.Graph.{Graph}
use Rattle.script_reader.specs.Script.{Script}
use Rattle.trace_labels.specs.declared.trap.TrapName.TheVariants as trap
use Rattle.instances.specs.declared.entry.EndEntry.{EndEntry}
use Rattle.instances.specs.declared.entry.WorldEntry.TheVariants as entry
use Rattle.instances.specs.Instances.{InstanceView, entry_of}
use Rattle.world_parts.specs.Views.{Views}
use Rattle.world_parts.specs.Held.{Held, Done, Traps, after, given}
use Rattle.world_parts.specs.Entries.{entry_added, end_found, end_idled}
use Rattle.world_parts.specs.Feed.{got}
use Rattle.world_parts.specs.Slots.{word_in}
use Rattle.world_parts.specs.Channels.{with_channels, channel_at, concluded, idle_seen}
use Rattle.world_parts.specs.News.{copy_is_async}
use Rattle.world_parts.specs.Copies.{both_indices, new_end, channel_new, copy_given_up, copy_cancel}
use Rattle.abi_machine.specs.World.{OfEnd, Channel, World, new_channel}
use Rattle.abi_machine.specs.Edits as world
use Rattle.abi_machine.specs.Counting.{passes, end_of, channel_end, payload_by, payload_of}
use Rattle.abi_machine.specs.Turn.{unless, with_entry, replied}
use Rattle.abi_machine.specs.replies.Streams.{end_ref, is_async_copy, channel_new_turn, ends_added, copy_cancel_turn}
use Rattle.standing.specs.Stands.{ChannelStands, Stands}
use Rattle.standing.specs.Channels.{IsEndsType}
use Rattle.standing.specs.Agreeing.{Agrees}
use Rattle.standing.specs.Ends.{Sees, ChannelIsMade, CopyIsCancelled}
use Rattle.standing.proofs.Lists.{both_long}
use Rattle.standing.proofs.Found.{word_is}
use Rattle.standing.proofs.Agreeing.{turn_as, on_word, on_got, on_trap, on_add}
use Rattle.standing.proofs.Blocking.{on_test}
use Rattle.standing.proofs.Steps.{via}
use Rattle.standing.proofs.Going.{done_as}
use Rattle.standing.proofs.Channels.{channels_are_made}
use Rattle.standing.proofs.EndsFound.{EndFound, ref_of, on_end}
use Rattle.standing.proofs.EndEdits.{put, found_again, put_stands, concluded_is, idle_seen_is, idled_at, idled_is, idled_stands, payload_alike, told_stands}
use Rattle.standing.proofs.EndsDropped.{end_same}

-- What is kept once the copy at an end is told: the end of a stream or a future, and at its index whether it is idle.
abbrev pub told_ends : Side → kept.Channel → kept.Channel
told_ends side c = with_ends (channel.told side c.ends) c

abbrev pub once_told : ℕ → ℕ → InstanceView → EndKind → EndEntry → kept.Channel → Held → Held
once_told at index x k e c h =
    idled_at at index (is_idle (end_in e.side (channel.told e.side c.ends))) x e (put k e.number (told_ends e.side c) h)

pub told_is : {A : Type 0} (h : Held) (at index : ℕ) (x : InstanceView) (k : EndKind) (e : EndEntry) (c : kept.Channel) (G : ℕ → Held → Done A)
    → slice_get h.instances at ≡ Some x → entry_of x index ≡ Some (entry.End e) → channel_at k e.number h ≡ Some c → is_copying (end_in e.side c.ends) ≡ true
    → after (concluded k e.side e.number h) (λ payload m. after (idle_seen k e.side e.number m) (λ is_idle n. after (end_idled at index is_idle n) (λ done o. G payload o)))
    ≡ G (payload_in e.side c.ends) (once_told at index x k e c h)
told_is h at index x k e c G is there here open_one =
    let told_one : Held = put k e.number (told_ends e.side c) h in
    via _ _ _ _ (concluded_is k e.side e.number h c here open_one)
    ∙ via _ _ _ _ (idle_seen_is k e.side e.number told_one (told_ends e.side c) (found_again k e.number h c (told_ends e.side c) here))
    ∙ via _ _ _ _ (idled_is at index (is_idle (end_in e.side (channel.told e.side c.ends))) told_one x e is there)

pub once_told_stands : (g : Graph) (values : List ValType) (s : Script) (h : Held) (stacks : List (List Stack)) (w : World) (at index : ℕ) (x : InstanceView) (k : EndKind) (e : EndEntry)
    (f : EndFound values h w k e)
    → slice_get h.instances at ≡ Some x → entry_of x index ≡ Some (entry.End e) → Stands g values s h stacks w
    → Stands g values s (once_told at index x k e f.channel h) stacks (world.concluded (ref_of k e) w)
once_told_stands g values s h stacks w at index x k e f is there st =
    idled_stands g values s (put k e.number (told_ends e.side f.channel) h) stacks (world.concluded (ref_of k e) w) at index
    (is_idle (end_in e.side (channel.told e.side f.channel.ends))) x e is there
    (put_stands g values s h stacks w k e.number f.channel (told_ends e.side f.channel) (λ a. record a { ends = world.concluded_by k e.side a.ends }) f.here
    (λ a now. told_stands values k e.side f.channel a now) st)

pub payload_is : (values : List ValType) (h : Held) (w : World) (k : EndKind) (e : EndEntry) (f : EndFound values h w k e) → payload_in e.side f.channel.ends ≡ payload_of w (ref_of k e)
payload_is values h w k e f =
    payload_alike values k e.side f.channel f.other f.alike ∙ sym (ap (λ (c : Option Channel). payload_by k (channel_end e.side c)) f.there)

-- The copy of a call that did not wait is given up.
pub async_same : (g : Graph) (v : Views) (copy : Option OpenCopy) → Sees g v → copy_is_async v copy ≡ passes (is_async_copy g) copy
async_same g v None sees = refl
async_same g v (Some copy) sees = sees.is_async copy.canon

async_open : (v : Views) (copy : Option OpenCopy) → not (copy_is_async v copy) ≡ false → is_some copy ≡ true
async_open v None h = absurd (cc)
async_open v (Some copy) h = refl

on_cancelled : (g : Graph) (values : List ValType) (s : Script) (v : Views) (h : Held) (stacks : List (List Stack)) (w : World) (t at index : ℕ) (x : InstanceView) (k : EndKind) (e : EndEntry)
    (f : EndFound values h w k e)
    → Sees g v → slice_get h.instances at ≡ Some x → entry_of x index ≡ Some (entry.End e) → Stands g values s h stacks w
    → Agrees g values s t h.labels stacks
    (given (channel_at k e.number h) (λ c. if not (copy_is_async v (end_in e.side c.ends).copy) then Traps trap.NotCopying h else copy_given_up t at index k e.side e.number h))
    (unless t (not (passes (is_async_copy g) (end_of w (ref_of k e)).copy)) trap.NotCopying w (replied t (payload_of w (ref_of k e) ∷ []) (world.concluded (ref_of k e) w)))
unfolding copy_given_up
on_cancelled g values s v h stacks w t at index x k e f sees is there st =
    let own : End = end_in e.side f.channel.ends in
    done_as g values s t h.labels stacks _ (if not (copy_is_async v own.copy) then Traps trap.NotCopying h else copy_given_up t at index k e.side e.number h) _
    (ap (λ (o : Option kept.Channel). given o (λ c. if not (copy_is_async v (end_in e.side c.ends).copy) then Traps trap.NotCopying h else copy_given_up t at index k e.side e.number h)) f.here)
    (on_test g values s t h.labels stacks (not (copy_is_async v own.copy)) (not (passes (is_async_copy g) (end_of w (ref_of k e)).copy)) _ _ _ _
    (ap not (async_same g v own.copy sees) ∙ ap (λ (m : End). not (passes (is_async_copy g) m.copy)) (sym (end_same values h w k e f)))
    (λ none. on_trap g values s t h.labels stacks h w trap.NotCopying refl st)
    (λ some.
    done_as g values s t h.labels stacks (copy_given_up t at index k e.side e.number h) (got t (payload_in e.side f.channel.ends ∷ []) (once_told at index x k e f.channel h)) _
    (told_is h at index x k e f.channel (λ payload m. got t (payload ∷ []) m) is there f.here (async_open v own.copy some))
    (turn_as g values s t h.labels stacks (got t (payload_in e.side f.channel.ends ∷ []) (once_told at index x k e f.channel h)) (replied t (payload_of w (ref_of k e) ∷ []) (world.concluded (ref_of k e) w))
    (replied t (payload_in e.side f.channel.ends ∷ []) (world.concluded (ref_of k e) w))
    (ap (λ (n : ℕ). replied t (n ∷ []) (world.concluded (ref_of k e) w)) (sym (payload_is values h w k e f)))
    (on_got g values s t h.labels stacks (once_told at index x k e f.channel h) (world.concluded (ref_of k e) w) (payload_in e.side f.channel.ends ∷ []) refl
    (once_told_stands g values s h stacks w at index x k e f is there st)))))

pub copy_is_cancelled : CopyIsCancelled
unfolding copy_cancel copy_cancel_turn
copy_is_cancelled g values s v h stacks w t at type word k side element words sees is once of marks there st =
    on_word g values s t h.labels stacks (word_in words 0) word
    (λ index. after (end_found at side type index h) (λ e m. given (channel_at k e.number m) (λ c.
    if not (copy_is_async v (end_in side c.ends).copy) then Traps trap.NotCopying m else copy_given_up t at index k side e.number m)))
    (copy_cancel_turn g t at k side element (slice_index words 0) w) is
    (turn_as g values s t h.labels stacks _ (copy_cancel_turn g t at k side element (slice_index words 0) w) (copy_cancel_turn g t at k side element word w)
    (ap (λ (n : ℕ). copy_cancel_turn g t at k side element n w) (word_is words 0 word is))
    (on_end g values s t h.labels stacks h w at word type k side element
    (λ e m. given (channel_at k e.number m) (λ c. if not (copy_is_async v (end_in side c.ends).copy) then Traps trap.NotCopying m else copy_given_up t at word k side e.number m))
    (λ r. unless t (not (passes (is_async_copy g) (end_of w r).copy)) trap.NotCopying w (replied t (payload_of w r ∷ []) (world.concluded r w)))
    once of marks there refl st
    (λ x e is_left a at_right f.
    subst (λ (z : Side). Agrees g values s t h.labels stacks
    (given (channel_at k e.number h) (λ c. if not (copy_is_async v (end_in z c.ends).copy) then Traps trap.NotCopying h else copy_given_up t at word k z e.number h))
    (unless t (not (passes (is_async_copy g) (end_of w (ref_of k e)).copy)) trap.NotCopying w (replied t (payload_of w (ref_of k e) ∷ []) (world.concluded (ref_of k e) w))))
    a.side_is (on_cancelled g values s v h stacks w t at word x k e f sees is_left a.there st))))

-- A stream or a future is made, with both its ends.
new_stands : (values : List ValType) (k : EndKind) (element : Option ValType) (type : ℕ) → IsEndsType values k element type
    → ChannelStands values k (record { end_type = type; ends = new_ends k }) (new_channel element)
new_stands values kind.Stream element type is = record { of = refl; typed = is; ends = refl }
new_stands values kind.Future element type is = record { of = refl; typed = is; ends = refl }

on_ends : (g : Graph) (values : List ValType) (s : Script) (h : Held) (stacks : List (List Stack)) (w : World) (t at type number : ℕ) (k : EndKind) (element : Option ValType)
    → IsEndsType values k element type → IsSome (slice_get w.insts at) → Stands g values s h stacks w
    → Agrees g values s t h.labels stacks
    (after (entry_added at (new_end Reader type number) h) (λ readable l. after (entry_added at (new_end Writer type number) l) (λ writable m. got t (both_indices readable writable ∷ []) m)))
    (ends_added t at k number w)
unfolding ends_added
on_ends g values s h stacks w t at type number k element of there st =
    on_add g values s t h.labels stacks h w at (new_end Reader type number) (OfEnd (end_ref k number Reader))
    (λ readable l. after (entry_added at (new_end Writer type number) l) (λ writable m. got t (both_indices readable writable ∷ []) m))
    (λ readable v. with_entry t at (OfEnd (end_ref k number Writer)) v (λ writable u. replied t (both_indices readable writable ∷ []) u))
    there refl (k, (element, of), refl) st
    (λ readable l v there_now same now.
    on_add g values s t h.labels stacks l v at (new_end Writer type number) (OfEnd (end_ref k number Writer)) (λ writable m. got t (both_indices readable writable ∷ []) m)
    (λ writable u. replied t (both_indices readable writable ∷ []) u) there_now same (k, (element, of), refl) now
    (λ writable m u there_then said then_stands. on_got g values s t h.labels stacks m u (both_indices readable writable ∷ []) said then_stands))

pub channel_is_made : ChannelIsMade
unfolding channel_new channel_new_turn
channel_is_made g values s h stacks w t at type kind.Stream element of there st =
    let made : kept.Channel = record { end_type = type; ends = new_ends kind.Stream } in
    turn_as g values s t h.labels stacks (channel_new t at kind.Stream type h) (channel_new_turn t at kind.Stream element w)
    (ends_added t at kind.Stream (length h.streams + 1) (world.channel_made kind.Stream element w))
    (ap (λ (n : ℕ). ends_added t at kind.Stream (n + 1) (world.channel_made kind.Stream element w)) (sym (both_long (ChannelStands values kind.Stream) h.streams w.streams st.are_streams)))
    (on_ends g values s (with_channels kind.Stream (h.streams ++ made ∷ []) h) stacks (world.channel_made kind.Stream element w) t at type (length h.streams + 1) kind.Stream element of there
    (channels_are_made g values s h stacks w kind.Stream made element (new_stands values kind.Stream element type of) st))
channel_is_made g values s h stacks w t at type kind.Future element of there st =
    let made : kept.Channel = record { end_type = type; ends = new_ends kind.Future } in
    turn_as g values s t h.labels stacks (channel_new t at kind.Future type h) (channel_new_turn t at kind.Future element w)
    (ends_added t at kind.Future (length h.futures + 1) (world.channel_made kind.Future element w))
    (ap (λ (n : ℕ). ends_added t at kind.Future (n + 1) (world.channel_made kind.Future element w)) (sym (both_long (ChannelStands values kind.Future) h.futures w.futures st.are_futures)))
    (on_ends g values s (with_channels kind.Future (h.futures ++ made ∷ []) h) stacks (world.channel_made kind.Future element w) t at type (length h.futures + 1) kind.Future element of there
    (channels_are_made g values s h stacks w kind.Future made element (new_stands values kind.Future element type of) st))
