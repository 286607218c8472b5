-- The text of what stands for a world is that of the world.
use Rattle.std.proofs.Common.{◌≡◌, ℕ, zero, suc, ◌+◌, Bool, true, false, if◌then◌else◌, List, [], ◌∷◌, ◌++◌, map, length, slice_index_or, refl, sym, ap, ◌∙◌, Option, Some, None, arith}
use Rattle.std.specs.Prelude.{is_some}
use Rattle.std.specs.List.{slice_get, filter, filter_map, flat_map, range_with_len, AllZip}
use Rattle.std.specs.Option.{option_map}
use Rattle.syntax_trees.specs.declared.types.ValType.{ValType}
use Rattle.wasm_store.specs.Store.{Store}
use Rattle.wasm_store.specs.Stack.{Stack}
use Rattle.handle_table.specs.History.{Event, live, greatest, slots_of}
use Rattle.handle_table.specs.Alike.{SlotAlike, SlotsAlike}
use Rattle.handle_table.proofs.Histories.{slots_length}
use Rattle.builtin_kinds.specs.declared.EndKind.{EndKind}
use Rattle.builtin_kinds.specs.declared.EndKind.TheVariants as end_kind
use Rattle.res_handles.specs.declared.handle.Handle.{Handle}
use Rattle.res_handles.specs.declared.handle.Ownership.{Ownership}
use Rattle.res_handles.specs.declared.handle.Ownership.TheVariants.{Own, Borrow}
use Rattle.stream_ends.specs.declared.side.Side.{Side}
use Rattle.stream_ends.specs.declared.side.Side.TheVariants.{Reader, Writer}
use Rattle.stream_ends.specs.Ends.{EndsView, end_at}
use Rattle.channels.specs.declared.channel.Channel as kept_channel
use Rattle.comp_graph.specs.Graph.{Graph}
use Rattle.script_reader.specs.Script.{Script}
use Rattle.tasks.specs.Subtasks.{code_of}
use Rattle.tasks.specs.declared.subtask_state.SubtaskState.{SubtaskState}
use Rattle.task_table.specs.declared.slot.TaskSlot.{TaskSlot}
use Rattle.instances.specs.declared.entry.EndEntry.{EndEntry}
use Rattle.instances.specs.declared.entry.WorldEntry.{WorldEntry}
use Rattle.instances.specs.declared.entry.WorldEntry.TheVariants as entry
use Rattle.instances.specs.Instances.{InstanceView, entry_of}
use Rattle.trace_labels.specs.declared.dump.Entry as shown
use Rattle.trace_labels.specs.declared.dump.Entry.TheVariants as show
use Rattle.trace_labels.specs.declared.dump.Side as sides
use Rattle.trace_labels.specs.declared.dump.LiveEntry.{LiveEntry}
use Rattle.trace_labels.specs.declared.label.Channel as labels
use Rattle.trace_show.specs.DumpText.{dump_text}
use Rattle.world_parts.specs.Held.{Held}
use Rattle.world_parts.specs.Channels.{channel_at}
use Rattle.world_dumps.specs.Entries as kept
use Rattle.world_dumps.specs.Tables as tables
use Rattle.abi_machine.specs.World.{Entry, OfEnd, Inst, Task, Channel, World}
use Rattle.abi_machine.specs.Reading.{table_of, table_in, sets_in, members_in, task_at}
use Rattle.abi_machine.specs.Reading as machine_read
use Rattle.abi_machine.specs.Counting.{lends_of, channel_end}
use Rattle.abi_machine.specs.Copying.{channel_by}
use Rattle.abi_machine.specs.Dump as machine
use Rattle.standing.specs.Instances.{owned_as, EntryStands, InstStands}
use Rattle.standing.specs.Tasks.{TaskStands}
use Rattle.standing.specs.Stands.{Stands}
use Rattle.standing.specs.Channels.{HasMarkedEnds}
use Rattle.standing.proofs.Lists.{BothAt, at_both}
use Rattle.standing.proofs.Tables.{entries_are_alike, members_at}
use Rattle.standing.proofs.Telling.{state_alike}
use Rattle.standing.proofs.EndsFound.{EndFound, end_is_found, ref_of}
use Rattle.standing.proofs.Delivering.{kind_is}
use Rattle.run_laws.specs.Left.{DumpsAgree}
use Rattle.run_laws.specs.keeping.Kept.{LendsRight}
use Rattle.run_laws.proofs.onward.Counted.{lends_are_same}

-- Lists.
set_of : (xs : List (List ℕ)) (n : ℕ) → slice_index_or xs n [] ≡ members_in (slice_get xs n)
set_of [] n = refl
set_of (x ∷ xs) zero = refl
set_of (x ∷ xs) (suc n) = set_of xs n

same_length : {E A : Type 0} (R : E → A → Type 0) (xs : List (Option E)) (ys : List (Option A)) → SlotsAlike R xs ys → length xs ≡ length ys
same_length R [] [] h = refl
same_length R [] (y ∷ ys) h = absurd h
same_length R (x ∷ xs) [] h = absurd h
same_length R (x ∷ xs) (y ∷ ys) h = ap suc (same_length R xs ys h.1)

next_listed : (is_live : Bool) (n : ℕ) (ns : List ℕ) (f g : ℕ → Option LiveEntry) (o p : Option LiveEntry) (ys : List LiveEntry) → f n ≡ o → g n ≡ p → o ≡ p → (is_live ≡ false → o ≡ None)
    → flat_map (λ index. tables.listed (f index)) ns ≡ ys
    → flat_map (λ index. tables.listed (f index)) (if is_live then n ∷ ns else ns) ≡ tables.listed (g n) ++ ys
next_listed true n ns f g o p ys a b e none here =
    ap (λ (x : Option LiveEntry). tables.listed x ++ flat_map (λ index. tables.listed (f index)) ns) (a ∙ e ∙ sym b) ∙ ap (λ (zs : List LiveEntry). tables.listed (g n) ++ zs) here
next_listed false n ns f g o p ys a b e none here = here ∙ ap (λ (x : Option LiveEntry). tables.listed x ++ ys) (sym (none refl) ∙ e ∙ sym b)

one_more : (g : ℕ → Option LiveEntry) (n : ℕ) (ns : List ℕ) (o : Option LiveEntry) → g n ≡ o → tables.listed (g n) ++ filter_map g ns ≡ filter_map g (n ∷ ns)
one_more g n ns None h = rw h refl
one_more g n ns (Some x) h = rw h refl

listed_alike : (is_live : ℕ → Bool) (f g : ℕ → Option LiveEntry) (ns : List ℕ) → ((n : ℕ) → f n ≡ g n) → ((n : ℕ) → is_live n ≡ false → f n ≡ None)
    → flat_map (λ index. tables.listed (f index)) (filter is_live ns) ≡ filter_map g ns
listed_alike is_live f g [] same none = refl
listed_alike is_live f g (n ∷ ns) same none =
    next_listed (is_live n) n (filter is_live ns) f g (f n) (g n) (filter_map g ns) refl refl (same n) (none n) (listed_alike is_live f g ns same none) ∙ one_more g n ns (g n) refl

-- What is shown of a handle, of a subtask, of a set and of an end.
-- What is shown of a handle, of a subtask, of a set and of an end.
handle_is : (w : World) (at index : ℕ) (x : Handle) (o : Ownership) → x.lends ≡ lends_of w at index → kept.owned_shown o x ≡ machine.shown_entry w at index (owned_as x.resource x.rep o)
handle_is w at index x Own e = ap (λ n. show.Own x.resource x.rep n) e
handle_is w at index x (Borrow task) e = ap (λ n. show.Borrow x.resource x.rep task n) e

task_is : (g : Graph) (s : Script) (o : Option TaskSlot) (p : Option Task) → BothAt (TaskStands g s) o p → kept.state_by o ≡ machine.state_in p
task_is g s None None b = refl
task_is g s None (Some task) b = absurd b
task_is g s (Some slot) None b = absurd b
task_is g s (Some slot) (Some task) b = ap (λ (st : SubtaskState). code_of st) (state_alike g s slot task b)

set_is : (values : List ValType) (h : Held) (w : World) (at n : ℕ) (i : InstanceView) (a : Inst) → InstStands values i a → slice_get w.insts at ≡ Some a
    → kept.members_of n i ≡ machine_read.members_of w at n
set_is values h w at n i a st there =
    members_at i.sets n ∙ ap (λ (all : List (List ℕ)). slice_index_or all n []) st.sets ∙ set_of a.sets n ∙ ap (λ (o : Option Inst). members_in (slice_get (sets_in o) n)) (sym there)

named_same : (k : EndKind) (n : ℕ) → kept.channel_named k n ≡ channel_by k n
named_same end_kind.Stream n = refl
named_same end_kind.Future n = refl

sides_same : (side : Side) → kept.side_of side ≡ machine.side_of side
sides_same Reader = refl
sides_same Writer = refl

end_is : (g : Graph) (values : List ValType) (s : Script) (h : Held) (stacks : List (List Stack)) (w : World) (at index : ℕ) (k : EndKind) (e : EndEntry) → EndFound values h w k e
    → Stands g values s h stacks w → kept.end_shown e h ≡ machine.shown_entry w at index (OfEnd (ref_of k e))
end_is g values s h stacks w at index k e f st =
    ap (λ (j : EndKind). show.End (kept.channel_named j e.number) (kept.side_of e.side) (kept.end_state (channel_at j e.number h) e.side)) (kind_is g values s h stacks w k e f st)
    ∙ ap (λ (o : Option kept_channel.Channel). show.End (kept.channel_named k e.number) (kept.side_of e.side) (kept.end_state o e.side)) f.here
    ∙ ap (λ (c : labels.Channel). show.End c (kept.side_of e.side) (kept.end_state (Some f.channel) e.side)) (named_same k e.number)
    ∙ ap (λ (side : sides.Side). show.End (channel_by k e.number) side (kept.end_state (Some f.channel) e.side)) (sides_same e.side)
    ∙ ap (λ (v : EndsView). show.End (channel_by k e.number) (machine.side_of e.side) (machine.end_state (end_at e.side v))) f.alike.ends
    ∙ ap (λ (o : Option Channel). show.End (channel_by k e.number) (machine.side_of e.side) (machine.end_state (channel_end e.side o))) (sym f.there)

entry_is : (g : Graph) (values : List ValType) (s : Script) (h : Held) (stacks : List (List Stack)) (w : World) (at index : ℕ) (i : InstanceView) (a : Inst) (x : WorldEntry) (y : Entry)
    → Stands g values s h stacks w → LendsRight h → HasMarkedEnds h → slice_get h.instances at ≡ Some i → slice_get w.insts at ≡ Some a → InstStands values i a → entry_of i index ≡ Some x
    → EntryStands values x y → kept.entry_shown x i h ≡ machine.shown_entry w at index y
entry_is g values s h stacks w at index i a (entry.Handle x) y st m ends here there alike is same =
    handle_is w at index x x.ownership (m at index i x here is ∙ lends_are_same g values s h stacks w at index st) ∙ ap (λ (e : Entry). machine.shown_entry w at index e) (sym same)
entry_is g values s h stacks w at index i a (entry.Subtask callee) y st m ends here there alike is same =
    ap (λ (n : ℕ). show.Subtask callee n) (task_is g s (slice_get h.tasks callee) (task_at w callee) (at_both (TaskStands g s) h.tasks w.tasks callee st.are_tasks))
    ∙ ap (λ (e : Entry). machine.shown_entry w at index e) (sym same)
entry_is g values s h stacks w at index i a (entry.Set n) y st m ends here there alike is same =
    ap (λ (ns : List ℕ). show.Set ns) (set_is values h w at n i a alike there) ∙ ap (λ (e : Entry). machine.shown_entry w at index e) (sym same)
entry_is g values s h stacks w at index i a (entry.End e) y st m ends here there alike is (k, of, same) =
    end_is g values s h stacks w at index k e (end_is_found g values s h stacks w k of.0 e (ends at index i e here is) of.1 st) st
    ∙ ap (λ (e : Entry). machine.shown_entry w at index e) (sym same)

-- What stands at an index, a table, and all tables.
at_index : (g : Graph) (values : List ValType) (s : Script) (h : Held) (stacks : List (List Stack)) (w : World) (at index : ℕ) (i : InstanceView) (a : Inst) (o : Option WorldEntry)
    (p : Option Entry)
    → Stands g values s h stacks w → LendsRight h → HasMarkedEnds h → slice_get h.instances at ≡ Some i → slice_get w.insts at ≡ Some a → InstStands values i a → entry_of i index ≡ o
    → SlotAlike (EntryStands values) o p
    → option_map (λ e. (let line : LiveEntry = record { index = index; entry = kept.entry_shown e i h } in line)) o
    ≡ option_map (λ e. (let line : LiveEntry = record { index = index; entry = machine.shown_entry w at index e } in line)) p
at_index g values s h stacks w at index i a None None st m ends here there alike is same = refl
at_index g values s h stacks w at index i a None (Some y) st m ends here there alike is same = absurd same
at_index g values s h stacks w at index i a (Some x) None st m ends here there alike is same = absurd same
at_index g values s h stacks w at index i a (Some x) (Some y) st m ends here there alike is same =
    ap (λ (e : shown.Entry). (let line : LiveEntry = record { index = index; entry = e } in Some line)) (entry_is g values s h stacks w at index i a x y st m ends here there alike is same)

none_shown : (o : Option WorldEntry) (f : WorldEntry → LiveEntry) → is_some o ≡ false → option_map f o ≡ None
none_shown None f h = refl
none_shown (Some x) f h = absurd (cc)

table_is : (g : Graph) (values : List ValType) (s : Script) (h : Held) (stacks : List (List Stack)) (w : World) (at : ℕ) (i : InstanceView) (a : Inst)
    → Stands g values s h stacks w → LendsRight h → HasMarkedEnds h → slice_get h.instances at ≡ Some i → slice_get w.insts at ≡ Some a → InstStands values i a
    → tables.table_shown h i ≡ machine.shown_table w at
table_is g values s h stacks w at i a st m ends here there alike =
    let table : table_of w at ≡ a.table = ap (λ (o : Option Inst). table_in o) there in
    let many : length i.slots.entries ≡ greatest (table_of w at) =
    same_length (EntryStands values) i.slots.entries (slots_of a.table) alike.table.alike.slots ∙ slots_length a.table (greatest a.table) ∙ ap (λ (es : List (Event Entry)). greatest es) (sym table) in
    listed_alike (λ index. is_some (entry_of i index)) (λ index. tables.shown_at h i index) (λ index. machine.shown_at w at index) (range_with_len 1 (length i.slots.entries))
    (λ index.
    at_index g values s h stacks w at index i a (entry_of i index) (live a.table index) st m ends here there alike refl (entries_are_alike values i a index alike)
    ∙ ap (λ (es : List (Event Entry)). option_map (λ e. (let line : LiveEntry = record { index = index; entry = machine.shown_entry w at index e } in line)) (live es index)) (sym table))
    (λ index none. none_shown (entry_of i index) (λ e. record { index = index; entry = kept.entry_shown e i h }) none)
    ∙ ap (λ (n : ℕ). filter_map (λ index. machine.shown_at w at index) (range_with_len 1 n)) many

tables_are : (values : List ValType) (h : Held) (w : World) (n : ℕ) (ks : List InstanceView) (insts : List Inst)
    → ((k : ℕ) (i : InstanceView) (a : Inst) → slice_get ks k ≡ Some i → slice_get insts k ≡ Some a → InstStands values i a → tables.table_shown h i ≡ machine.shown_table w (n + k))
    → AllZip (InstStands values) ks insts → map (tables.table_shown h) ks ≡ machine.tables_from w n insts
tables_are values h w n [] [] each all = refl
tables_are values h w n [] (a ∷ insts) each all = absurd all
tables_are values h w n (i ∷ ks) [] each all = absurd all
tables_are values h w n (i ∷ ks) (a ∷ insts) each all =
    let first : n + 0 ≡ n = omega arith in
    ap (λ (t : List LiveEntry). t ∷ map (tables.table_shown h) ks) (each 0 i a refl refl all.0 ∙ ap (λ (k : ℕ). machine.shown_table w k) first)
    ∙ ap (λ (ts : List (List LiveEntry)). machine.shown_table w n ∷ ts)
    (tables_are values h w (n + 1) ks insts
    (λ k j b here there alike. (let next : n + suc k ≡ n + 1 + k = omega arith in each (suc k) j b here there alike ∙ ap (λ (k : ℕ). machine.shown_table w k) next)) all.1)

pub dumps_agree : DumpsAgree
dumps_agree g values s h stacks w st m ends =
    ap (λ (ts : List (List LiveEntry)). dump_text ts (map (λ m. m.bytes) h.store.memories))
    (tables_are values h w 0 h.instances w.insts
    (λ k i a here there alike. (let at : 0 + k ≡ k = omega arith in table_is g values s h stacks w k i a st m ends here there alike ∙ ap (λ (k : ℕ). machine.shown_table w k) (sym at))) st.are_instances)
    ∙ ap (λ (store : Store). dump_text (machine.dumped_instances w) (map (λ m. m.bytes) store.memories)) st.same_store
