-- An end is dropped.
use Rattle.std.proofs.Common.{◌≡◌, ℕ, Bool, true, false, not, ◌&&◌, is_some, List, [], ◌∷◌, slice_index, refl, sym, ap, ◌∙◌, subst, Option, Some}
use Rattle.std.specs.Prelude.{IsSome}
use Rattle.std.specs.List.{slice_get}
use Rattle.std.proofs.lemmas.Bool.{and_from}
use Rattle.syntax_trees.specs.declared.types.ValType.{ValType}
use Rattle.wasm_store.specs.Stack.{Stack}
use Rattle.handle_table.specs.History.{Remove}
use Rattle.waitables.specs.Sets.{left}
use Rattle.builtin_kinds.specs.declared.EndKind.{EndKind}
use Rattle.builtin_kinds.specs.declared.EndKind.TheVariants as kind
use Rattle.stream_ends.specs.declared.side.Side.{Side}
use Rattle.stream_ends.specs.declared.side.Side.TheVariants.{Reader, Writer}
use Rattle.stream_ends.specs.declared.stream_end.End.{End}
use Rattle.stream_ends.specs.Ends.{EndsView, end_at, is_copying}
use Rattle.stream_ends.specs.Closed as streams
use Rattle.channels.specs.declared.channel.Ends.{Ends}
use Rattle.channels.specs.declared.channel.Ends.TheVariants.{Stream, Future}
use Rattle.channels.specs.declared.channel.Channel as kept
use Rattle.channels.specs.Channels as channel
use Rattle.channels.specs.Channels.{kind_of, end_in, with_ends, may_drop}
use Rattle.comp_graph.specs.Graph.{Graph}
use Rattle.script_reader.specs.Script.{Script}
use Rattle.trace_labels.specs.declared.trap.TrapName.TheVariants as trap
use Rattle.instances.specs.declared.entry.EndEntry.{EndEntry}
use Rattle.instances.specs.declared.entry.WorldEntry.{WorldEntry}
use Rattle.instances.specs.declared.entry.WorldEntry.TheVariants as entry
use Rattle.instances.specs.Instances as instance
use Rattle.instances.specs.Instances.{InstanceView, entry_of, with_sets}
use Rattle.world_parts.specs.Held.{Held, Gives, after, given}
use Rattle.world_parts.specs.Entries.{with_instance, removed_of, entry_removed, set_left, end_found}
use Rattle.world_parts.specs.Feed.{got}
use Rattle.world_parts.specs.Slots.{word_in}
use Rattle.world_parts.specs.Channels.{channel_at}
use Rattle.world_parts.specs.Copies.{is_unwritten, dropped_end, drop_tested, end_drop}
use Rattle.abi_machine.specs.World.{Inst, World}
use Rattle.abi_machine.specs.Edits as world
use Rattle.abi_machine.specs.Edits.{changed_at, by_views}
use Rattle.abi_machine.specs.Counting.{channel_end, end_of}
use Rattle.abi_machine.specs.Turn.{Turn, unless, replied}
use Rattle.abi_machine.specs.replies.Streams as turns
use Rattle.abi_machine.specs.replies.Streams.{end_drop_turn}
use Rattle.standing.specs.Stands.{Stands}
use Rattle.standing.specs.Agreeing.{Agrees}
use Rattle.standing.specs.Ends.{EndIsDropped}
use Rattle.standing.proofs.Tables.{waitables_leave, entries_are_removed}
use Rattle.standing.proofs.Changes.{instances_change}
use Rattle.standing.proofs.Found.{word_is}
use Rattle.standing.proofs.Agreeing.{turn_as, on_word, on_got, on_trap, get_set, changed_twice}
use Rattle.standing.proofs.Blocking.{on_test}
use Rattle.standing.proofs.Steps.{via}
use Rattle.standing.proofs.Going.{done_as}
use Rattle.standing.proofs.EndsFound.{EndFound, ref_of, on_end}
use Rattle.standing.proofs.EndEdits.{put, put_stands, same_channel, dropped_is, dropped_stands}

-- An end as it stands is the same on both sides.
pub end_same : (values : List ValType) (h : Held) (w : World) (k : EndKind) (e : EndEntry) (f : EndFound values h w k e) → end_of w (ref_of k e) ≡ end_in e.side f.channel.ends
end_same values h w k e f = ap (channel_end e.side) f.there ∙ ap (λ (v : EndsView). end_at e.side v) (sym f.alike.ends)

-- An end leaves its set and the table.
abbrev out_of_set : ℕ → InstanceView → InstanceView
out_of_set index x = with_sets (left index x.sets) x

abbrev taken : ℕ → ℕ → InstanceView → Held → Held
taken at index x h = with_instance at (instance.entry_removed index (out_of_set index x)) (with_instance at (out_of_set index x) h)

taken_stands : (g : Graph) (values : List ValType) (s : Script) (h : Held) (stacks : List (List Stack)) (w : World) (at index : ℕ) (x : InstanceView) (e : WorldEntry)
    → slice_get h.instances at ≡ Some x → entry_of x index ≡ Some e → Stands g values s h stacks w
    → Stands g values s (taken at index x h) stacks (world.left_set at index (world.entry_removed at index w))
taken_stands g values s h stacks w at index x e is there st =
    let once : Held = with_instance at (out_of_set index x) h in
    let stands_once : Stands g values s once stacks (world.left_set at index w) =
    instances_change g values s h stacks w at x (out_of_set index x) (λ inst. record inst { sets = by_views (left index) inst.sets }) is (λ a e now. waitables_leave values x a index now) st in
    let here : IsSome (entry_of (out_of_set index x) index) = ap is_some there in
    let stands_twice : Stands g values s (taken at index x h) stacks (world.entry_removed at index (world.left_set at index w)) =
    instances_change g values s once stacks (world.left_set at index w) at (out_of_set index x) (instance.entry_removed index (out_of_set index x))
    (λ inst. record inst { table = Remove index ∷ inst.table })
    (get_set h.instances at x (out_of_set index x) is) (λ a e now. entries_are_removed values (out_of_set index x) a index here now) stands_once in
    let same : changed_at at (λ inst. record inst { table = Remove index ∷ inst.table }) (changed_at at (λ inst. record inst { sets = by_views (left index) inst.sets }) w.insts)
    ≡ changed_at at (λ inst. record inst { sets = by_views (left index) inst.sets }) (changed_at at (λ inst. record inst { table = Remove index ∷ inst.table }) w.insts) =
    changed_twice at (λ (inst : Inst). record inst { table = Remove index ∷ inst.table }) (λ (inst : Inst). record inst { sets = by_views (left index) inst.sets }) w.insts
    ∙ sym (changed_twice at (λ (inst : Inst). record inst { sets = by_views (left index) inst.sets }) (λ (inst : Inst). record inst { table = Remove index ∷ inst.table }) w.insts) in
    subst (λ (insts : List Inst). Stands g values s (taken at index x h) stacks (record w { insts = insts })) same stands_twice

left_is : (at index : ℕ) (x : InstanceView) (h : Held) → slice_get h.instances at ≡ Some x → set_left at index h ≡ Gives tt (with_instance at (out_of_set index x) h)
left_is at index x h is = ap (λ (o : Option InstanceView). given o (λ i. Gives tt (with_instance at (with_sets (left index i.sets) i) h))) is

removed_is : (at index : ℕ) (x : InstanceView) (e : WorldEntry) (h : Held) → slice_get h.instances at ≡ Some x → entry_of x index ≡ Some e
    → entry_removed at index (with_instance at (out_of_set index x) h) ≡ Gives tt (taken at index x h)
removed_is at index x e h is there =
    ap (λ (o : Option InstanceView). given o (λ i. removed_of (entry_of i index) at index i (with_instance at (out_of_set index x) h))) (get_set h.instances at x (out_of_set index x) is)
    ∙ ap (λ (o : Option WorldEntry). removed_of o at index (out_of_set index x) (with_instance at (out_of_set index x) h)) there

-- Whether an end may be dropped.
unwritten_same : (k : EndKind) (side : Side) (e : End) → is_unwritten k side e.done ≡ turns.is_unwritten k side e
unwritten_same kind.Stream side e = refl
unwritten_same kind.Future Reader e = refl
unwritten_same kind.Future Writer e = refl

not_false : (b : Bool) → not b ≡ false → b ≡ true
not_false true h = refl
not_false false h = absurd (cc)

may_drop_when : (k : EndKind) (side : Side) (ends : Ends) → kind_of ends ≡ k → (end_in side ends).dropped ≡ false → is_copying (end_in side ends) ≡ false
    → is_unwritten k side (end_in side ends).done ≡ false → may_drop side ends ≡ true
may_drop_when kind.Stream side (Stream p) of live none written = and_from (not (end_at side p.ends).dropped) (not (is_copying (end_at side p.ends))) (ap not live) (ap not none)
may_drop_when kind.Stream side (Future p) of live none written = absurd (cc)
may_drop_when kind.Future side (Stream p) of live none written = absurd (cc)
may_drop_when kind.Future Reader (Future p) of live none written = and_from (not p.ends.reader.dropped) (not (is_copying p.ends.reader)) (ap not live) (ap not none)
may_drop_when kind.Future Writer (Future p) of live none written =
    and_from (not p.ends.writer.dropped && not (is_copying p.ends.writer)) p.ends.writer.done
    (and_from (not p.ends.writer.dropped) (not (is_copying p.ends.writer)) (ap not live) (ap not none)) (not_false p.ends.writer.done written)

-- An end that may be is dropped.
on_out : (g : Graph) (values : List ValType) (s : Script) (h : Held) (stacks : List (List Stack)) (w : World) (t at index : ℕ) (x : InstanceView) (k : EndKind) (e : EndEntry)
    (f : EndFound values h w k e)
    → slice_get h.instances at ≡ Some x → entry_of x index ≡ Some (entry.End e) → may_drop e.side f.channel.ends ≡ true → Stands g values s h stacks w
    → Agrees g values s t h.labels stacks (dropped_end t at index k e.side e.number h)
    (replied t [] (world.end_dropped (ref_of k e) (world.left_set at index (world.entry_removed at index w))))
unfolding dropped_end
on_out g values s h stacks w t at index x k e f is there may st =
    let out : Held = taken at index x h in
    let c : kept.Channel = f.channel in
    let z : kept.Channel = with_ends (channel.dropped e.side c.ends) c in
    let here : channel_at k e.number out ≡ Some c = same_channel k e.number h out.instances ∙ f.here in
    done_as g values s t h.labels stacks (dropped_end t at index k e.side e.number h) (got t [] (put k e.number z out)) _
    (via _ _ _ _ (left_is at index x h is)
    ∙ via _ _ _ _ (removed_is at index x (entry.End e) h is there)
    ∙ via _ _ _ _ (dropped_is k e.side e.number out c here may))
    (on_got g values s t h.labels stacks (put k e.number z out) (world.end_dropped (ref_of k e) (world.left_set at index (world.entry_removed at index w))) [] refl
    (put_stands g values s out stacks (world.left_set at index (world.entry_removed at index w)) k e.number c z (λ a. record a { ends = streams.after_drop e.side a.ends }) here
    (λ a now. dropped_stands values k e.side c a now) (taken_stands g values s h stacks w at index x (entry.End e) is there st)))

on_tested : (g : Graph) (values : List ValType) (s : Script) (h : Held) (stacks : List (List Stack)) (w : World) (t at index : ℕ) (x : InstanceView) (k : EndKind) (e : EndEntry)
    (f : EndFound values h w k e)
    → slice_get h.instances at ≡ Some x → entry_of x index ≡ Some (entry.End e) → (end_of w (ref_of k e)).dropped ≡ false → Stands g values s h stacks w
    → Agrees g values s t h.labels stacks (given (channel_at k e.number h) (λ c. drop_tested t at index k e.side e.number (end_in e.side c.ends) h))
    (unless t (is_copying (end_of w (ref_of k e))) trap.Busy w (unless t (turns.is_unwritten k e.side (end_of w (ref_of k e))) trap.UnwrittenFuture w
    (replied t [] (world.end_dropped (ref_of k e) (world.left_set at index (world.entry_removed at index w))))))
on_tested g values s h stacks w t at index x k e f is there live st =
    let own : End = end_in e.side f.channel.ends in
    let last : Turn = replied t [] (world.end_dropped (ref_of k e) (world.left_set at index (world.entry_removed at index w))) in
    let same : end_of w (ref_of k e) ≡ own = end_same values h w k e f in
    done_as g values s t h.labels stacks _ (drop_tested t at index k e.side e.number own h) _
    (ap (λ (o : Option kept.Channel). given o (λ c. drop_tested t at index k e.side e.number (end_in e.side c.ends) h)) f.here)
    (turn_as g values s t h.labels stacks (drop_tested t at index k e.side e.number own h) _
    (unless t (is_copying own) trap.Busy w (unless t (turns.is_unwritten k e.side own) trap.UnwrittenFuture w last))
    (ap (λ (m : End). unless t (is_copying m) trap.Busy w (unless t (turns.is_unwritten k e.side m) trap.UnwrittenFuture w last)) same)
    (on_test g values s t h.labels stacks (is_copying own) (is_copying own) _ _ _ _ refl (λ busy. on_trap g values s t h.labels stacks h w trap.Busy refl st)
    (λ none.
    on_test g values s t h.labels stacks (is_unwritten k e.side own.done) (turns.is_unwritten k e.side own) _ _ _ _ (unwritten_same k e.side own)
    (λ unwritten. on_trap g values s t h.labels stacks h w trap.UnwrittenFuture refl st)
    (λ written.
    on_out g values s h stacks w t at index x k e f is there
    (may_drop_when k e.side f.channel.ends f.alike.of (ap (λ (m : End). m.dropped) (sym same) ∙ live) none written) st))))

pub end_is_dropped : EndIsDropped
unfolding end_drop end_drop_turn
end_is_dropped g values s h stacks w t at type word k side element words is once of marks live there st =
    on_word g values s t h.labels stacks (word_in words 0) word
    (λ index. after (end_found at side type index h) (λ e m. given (channel_at k e.number m) (λ c. drop_tested t at index k side e.number (end_in side c.ends) m)))
    (end_drop_turn t at k side element (slice_index words 0) w) is
    (turn_as g values s t h.labels stacks _ (end_drop_turn t at k side element (slice_index words 0) w) (end_drop_turn t at k side element word w)
    (ap (λ (n : ℕ). end_drop_turn t at k side element n w) (word_is words 0 word is))
    (on_end g values s t h.labels stacks h w at word type k side element
    (λ e m. given (channel_at k e.number m) (λ c. drop_tested t at word k side e.number (end_in side c.ends) m))
    (λ r. unless t (is_copying (end_of w r)) trap.Busy w (unless t (turns.is_unwritten k side (end_of w r)) trap.UnwrittenFuture w
    (replied t [] (world.end_dropped r (world.left_set at word (world.entry_removed at word w))))))
    once of marks there refl st
    (λ x e is_left a at_right f.
    subst (λ (z : Side). Agrees g values s t h.labels stacks (given (channel_at k e.number h) (λ c. drop_tested t at word k z e.number (end_in z c.ends) h))
    (unless t (is_copying (end_of w (ref_of k e))) trap.Busy w (unless t (turns.is_unwritten k z (end_of w (ref_of k e))) trap.UnwrittenFuture w
    (replied t [] (world.end_dropped (ref_of k e) (world.left_set at word (world.entry_removed at word w)))))))
    a.side_is (on_tested g values s h stacks w t at word x k e f is_left a.there (live word (ref_of k e) at_right) st))))
