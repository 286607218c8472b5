-- Tasks wait for copies of their own, at ends that are there, and so they do in every step.
use Rattle.std.proofs.Common.{◌≡◌, inl, inr, ℕ, zero, suc, List, [], ◌∷◌, ◌++◌, length, refl, sym, ap, ◌∙◌, subst, Option, Some, None}
use Rattle.std.specs.List.{slice_get}
use Rattle.wasm_store.proofs.Lists.{all_at}
use Rattle.syntax_trees.specs.declared.types.ValType.{ValType}
use Rattle.syntax_trees.specs.declared.value.Value.{Value}
use Rattle.handle_table.specs.History.{Event, IsHistory, live}
use Rattle.builtin_kinds.specs.declared.EndKind.{EndKind}
use Rattle.builtin_kinds.specs.declared.EndKind.TheVariants.{Stream, Future}
use Rattle.stream_ends.specs.declared.open_copy.OpenCopy.{OpenCopy}
use Rattle.stream_ends.specs.declared.stream_end.End.{End}
use Rattle.stream_ends.specs.Ends.{end_at}
use Rattle.tasks.specs.declared.phase.Resolution.TheVariants.{Cancelled}
use Rattle.comp_graph.specs.Graph.{Graph, Lifted}
use Rattle.script_reader.specs.Script.{Script}
use Rattle.abi_machine.specs.Control.{EndRef}
use Rattle.abi_machine.specs.World.{Entry, OfSet, OfEnd, Inst, Host, Guest, ForCopy, TaskState, New, Acting, AfterCall, AfterCancel, InBuiltin, Exited, Task, Channel, World, new_inst, new_task, new_channel}
use Rattle.abi_machine.specs.World as world
use Rattle.abi_machine.specs.Edits.{changed_at, with_channel, channel_made, carried, offered_by, transferred_by, transferred, concluded_by}
use Rattle.abi_machine.specs.Reading.{table_in, numbered, func_of}
use Rattle.abi_machine.specs.Counting.{end_of}
use Rattle.abi_machine.specs.Copying.{task_by}
use Rattle.abi_machine.specs.sound.Changes.{Change, GoesTo, HasStore, SpendsUnit, UsesPicks, TakesItem, BeginsInstance, AddsEntry, MakesSet, RemovesEntry, RemovesWaitable, LeavesSet, JoinsSet, HasBackpressure, IsCalled, Calls, ComesBack, Acts, Begins, Cancels, Blocks, Exits, IsRemoved, Resolves, IsCancelled, HasWord, HasNewStack, HasStack, LosesStack, IsAnswered, IsTold, IsLent, HasResult, MakesChannel, Offers, Transfers, Concludes, DropsEnd, after, IsLeft, MayCome}
use Rattle.abi_machine.specs.sound.Premises.{HasNoCopy}
use Rattle.abi_machine.specs.sound.Tables.{HaveHistories}
use Rattle.abi_machine.specs.sound.Acting.{Outline, outline_of}
use Rattle.abi_machine.specs.sound.Owners.{owner_of_canon, CallsOwn, IsOwnWorld}
use Rattle.abi_machine.specs.sound.EndPlaces.{EndStandsAt, channel_in}
use Rattle.abi_machine.specs.sound.CopyWaits.{WaitsForCopy, IsUnderWay, AwaitsCopy, AwaitCopiesIn, AwaitCopies, FirstAwaitsCopies, CopiesStayAwaited}
use Rattle.abi_machine.proofs.sound.Lists.{more_either, get_front}
use Rattle.abi_machine.proofs.sound.Found.{some_same}
use Rattle.abi_machine.proofs.sound.Chained.{no_first, changed_here}
use Rattle.abi_machine.proofs.sound.Outlines.{outline_there, is_what}
use Rattle.abi_machine.proofs.sound.Histories.{histories_kept}
use Rattle.abi_machine.proofs.sound.Joined.{live_added, live_removed}
use Rattle.abi_machine.proofs.sound.Copied.{channel_twice, end_there}
use Rattle.abi_machine.proofs.sound.Holding.{live_changed}
use Rattle.abi_machine.proofs.sound.Ordered.{in_order}
use Rattle.abi_machine.proofs.sound.OpenStay.{Stays, AllStay, OthersStay, conclude_stays, drop_stays, transfer_stays, offered_stays, channel_after}
use Rattle.abi_machine.proofs.sound.own.Kept.{own_kept, own_removed}
use Rattle.abi_machine.proofs.sound.ends.Live.{same_end}
use Rattle.abi_machine.proofs.sound.ends.Brought.{both_once}
use Rattle.abi_machine.proofs.sound.known.Copying.{NoneAwaits, BlocksCopying}
use Rattle.abi_machine.proofs.sound.known.Keeping.{BlocksOwn, Besides, Owns}
use Rattle.abi_machine.proofs.sound.known.Beside.{beside}
use Rattle.abi_machine.proofs.sound.known.Turning.{step_known}

-- What a task waits for, in other tables, and among other streams and futures.

in_tables : (g : Graph) (insts others : List Inst) (streams futures : List Channel) (t number index i : ℕ) (a : AwaitsCopy g insts streams futures t number index i) → EndStandsAt others i index a.end
    → AwaitsCopy g others streams futures t number index i
in_tables g insts others streams futures t number index i a stands =
    record { end = a.end; copy = a.copy; stands = stands; under = a.under; of_task = a.of_task; of_canon = a.of_canon; waits = a.waits }

abbrev IsLater : List Channel → List Channel → EndRef → OpenCopy → Type 0
IsLater streams futures e copy = (later : OpenCopy) × IsUnderWay streams futures e later × (later.by ≡ copy.by) × (later.canon ≡ copy.canon)

in_channels : (g : Graph) (insts : List Inst) (streams futures more others : List Channel) (t number index i : ℕ) (a : AwaitsCopy g insts streams futures t number index i) → IsLater more others a.end a.copy
    → AwaitsCopy g insts more others t number index i
in_channels g insts streams futures more others t number index i a later = record {
  end = a.end;
  copy = later.0;
  stands = a.stands;
  under = later.1;
  of_task = ap task_by later.2 ∙ a.of_task;
  of_canon = later.3 ∙ a.of_canon;
  waits = a.waits;
}

-- an edit of a stream or a future, where the copies at its ends stay, but for one end for whose copy no task waits
under_stays : (kind : EndKind) (number : ℕ) (f : Channel → Channel) (w : World) (e : EndRef) (copy : OpenCopy)
    → ((c : Channel) → e.kind ≡ kind → e.number ≡ number → channel_in e.kind e.number w.streams w.futures ≡ Some c → (end_at e.side c.ends.view).copy ≡ Some copy → Stays (end_at e.side c.ends.view).copy (end_at e.side (f c).ends.view).copy)
    → IsUnderWay w.streams w.futures e copy → IsLater (with_channel kind number f w).streams (with_channel kind number f w).futures e copy
under_stays kind number f w e copy stays under = elim (channel_after kind e.kind number e.number f w under.0 under.1) [
  | inl old ↦ (copy, (under.0, old, under.2), refl, refl)
  | inr new ↦ (
      let later = stays under.0 new.0 new.1 under.1 under.2 copy under.2 in
      (later.0, (f under.0, new.2, later.1), later.2, later.3)
      )
]

abbrev AwaitBeside : Graph → World → World → Type 0
AwaitBeside g w v = AwaitCopiesIn g w.tasks w.insts v.streams v.futures

edit_awaits : (g : Graph) (kind : EndKind) (number : ℕ) (f : Channel → Channel) (w : World) → ((c : Channel) → AllStay c.ends.view (f c).ends.view) → AwaitCopies g w → AwaitBeside g w (with_channel kind number f w)
edit_awaits g kind number f w stays h t n index task l e runs waits =
    let a : AwaitsCopy g w.insts w.streams w.futures t n index l.instance = h t n index task l e runs waits in
    in_channels g w.insts w.streams w.futures _ _ t n index l.instance a (under_stays kind number f w a.end a.copy (λ c k m there under. stays c a.end.side) a.under)

-- an edit at one end, where none awaits the copy that is there
other_awaits : (g : Graph) (d : EndRef) (f : Channel → Channel) (w : World) → ((c : Channel) → OthersStay d.side c.ends.view (f c).ends.view)
    → ((t number index i : ℕ) (task : Task) (l : Lifted) → slice_get w.tasks t ≡ Some task → func_of task.callee ≡ Some l → WaitsForCopy task number index → (a : AwaitsCopy g w.insts w.streams w.futures t number index l.instance) → a.end ≡ d → ⊥)
    → AwaitCopies g w → AwaitBeside g w (with_channel d.kind d.number f w)
other_awaits g d f w stays none h t n index task l e runs waits =
    let a : AwaitsCopy g w.insts w.streams w.futures t n index l.instance = h t n index task l e runs waits in
    in_channels g w.insts w.streams w.futures _ _ t n index l.instance a
    (under_stays d.kind d.number f w a.end a.copy
    (λ c kind number there under. elim (stays c a.end.side) [
      | inl own ↦ absurd (none t n index 0 task l e runs waits a (same_end a.end d kind number own))
      | inr others ↦ others
    ]) a.under)

offer_awaits : (g : Graph) (d : EndRef) (call : OpenCopy) (w : World) → (end_of w d).copy ≡ None → AwaitCopies g w → AwaitBeside g w (with_channel d.kind d.number (λ c. record c { ends = offered_by d.kind d.side call c.ends }) w)
offer_awaits g d call w quiet h =
    other_awaits g d (λ c. record c { ends = offered_by d.kind d.side call c.ends }) w (λ c. offered_stays d.kind d.side call c.ends)
    (λ t number index i task l e runs waits a same.
    let there : (end_of w a.end).copy ≡ Some a.copy = ap (λ (x : End). x.copy) (end_there w a.end a.under.0 a.under.1) ∙ a.under.2 in
    let clash : None ≡ Some a.copy = sym quiet ∙ (ap (λ (x : EndRef). (end_of w x).copy) (sym same) ∙ there) in cc) h

conclude_awaits : (g : Graph) (d : EndRef) (w : World) → NoneAwaits w d → AwaitCopies g w → AwaitBeside g w (with_channel d.kind d.number (λ c. record c { ends = concluded_by d.kind d.side c.ends }) w)
conclude_awaits g d w none h =
    other_awaits g d (λ c. record c { ends = concluded_by d.kind d.side c.ends }) w (λ c. conclude_stays d.kind d.side c.ends)
    (λ t number index i task l e runs waits a same. none t number index task l e runs waits (subst (EndStandsAt w.insts l.instance index) same a.stands)) h

transfer_awaits : (g : Graph) (e : EndRef) (size : ℕ) (values : List (Option Value)) (w : World) → AwaitCopies g w → AwaitBeside g w (transferred e size values w)
transfer_awaits g e size values w h =
    let completes : Channel → Channel = λ c. record c { ends = transferred_by e.kind e.side size (length values) c.ends } in
    subst (AwaitBeside g w) (sym (channel_twice e.kind e.number (carried values) completes w))
    (edit_awaits g e.kind e.number (λ c. completes (carried values c)) w (λ c. transfer_stays e.kind e.side size (length values) c.ends) h)

numbered_front : (all : List Channel) (new : Channel) (n : ℕ) (c : Channel) → numbered all n ≡ Some c → numbered (all ++ new ∷ []) n ≡ Some c
numbered_front all new zero c h = cc
numbered_front all new (suc n) c h = get_front all new n c h

made_there : (kind k : EndKind) (element : Option ValType) (w : World) (n : ℕ) (c : Channel) → channel_in k n w.streams w.futures ≡ Some c
    → channel_in k n (channel_made kind element w).streams (channel_made kind element w).futures ≡ Some c
made_there Stream Stream element w n c h = numbered_front w.streams (new_channel element) n c h
made_there Stream Future element w n c h = h
made_there Future Stream element w n c h = h
made_there Future Future element w n c h = numbered_front w.futures (new_channel element) n c h

made_awaits : (g : Graph) (kind : EndKind) (element : Option ValType) (w : World) → AwaitCopies g w → AwaitBeside g w (channel_made kind element w)
made_awaits g kind element w h t n index task l e runs waits =
    let a : AwaitsCopy g w.insts w.streams w.futures t n index l.instance = h t n index task l e runs waits in
    in_channels g w.insts w.streams w.futures _ _ t n index l.instance a
    (a.copy, (a.under.0, made_there kind a.end.kind element w a.end.number a.under.0 a.under.1, a.under.2), refl, refl)

-- Tables.

insts_await : (g : Graph) (w : World) (others : List Inst) → ((t number index i : ℕ) (a : AwaitsCopy g w.insts w.streams w.futures t number index i) → EndStandsAt others i index a.end) → AwaitCopies g w
    → AwaitCopiesIn g w.tasks others w.streams w.futures
insts_await g w others keeps h t n index task l e runs waits =
    let a : AwaitsCopy g w.insts w.streams w.futures t n index l.instance = h t n index task l e runs waits in
    in_tables g w.insts others w.streams w.futures t n index l.instance a (keeps t n index l.instance a)

tables_await : (g : Graph) (w : World) (j : ℕ) (f : Inst → Inst) → ((x : Inst) → (f x).table ≡ x.table) → AwaitCopies g w → AwaitCopiesIn g w.tasks (changed_at j f w.insts) w.streams w.futures
tables_await g w j f same h =
    insts_await g w (changed_at j f w.insts)
    (λ t number index i a. live_changed w.insts j f i index (OfEnd a.end) (λ inst at found k. subst (λ (table : List (Event Entry)). live table index ≡ Some (OfEnd a.end)) (sym (same inst)) k) a.stands) h

add_awaits : (g : Graph) (w : World) (j : ℕ) (entry : Entry) → HaveHistories w.insts → AwaitCopies g w → AwaitCopiesIn g w.tasks (after (AddsEntry j entry) w).insts w.streams w.futures
add_awaits g w j entry history h =
    insts_await g w _
    (λ t number index i a.
    live_changed w.insts j _ i index (OfEnd a.end) (λ inst at found k. live_added inst.table entry (OfEnd a.end) index (all_at (λ (x : Inst). IsHistory x.table) w.insts j inst history found) k) a.stands) h

begun_awaits : (g : Graph) (w : World) → AwaitCopies g w → AwaitCopiesIn g w.tasks (w.insts ++ new_inst ∷ []) w.streams w.futures
begun_awaits g w h = insts_await g w (w.insts ++ new_inst ∷ []) (λ t number index i a. by i index a.end (slice_get w.insts i) refl a.stands) h
  where
    by : (i index : ℕ) (e : EndRef) (o : Option Inst) → slice_get w.insts i ≡ o → live (table_in o) index ≡ Some (OfEnd e) → EndStandsAt (w.insts ++ new_inst ∷ []) i index e
    by i index e None k l = cc
    by i index e (Some inst) k l = subst (λ (o : Option Inst). live (table_in o) index ≡ Some (OfEnd e)) (sym (get_front w.insts new_inst i inst k)) l

-- An entry that leaves is another one than an end with a copy.
remove_awaits : (g : Graph) (w : World) (j gone : ℕ) (entry : Entry) → live (table_in (slice_get w.insts j)) gone ≡ Some entry
    → ((t number index i : ℕ) (a : AwaitsCopy g w.insts w.streams w.futures t number index i) → entry ≡ OfEnd a.end → ⊥) → AwaitCopies g w
    → AwaitCopiesIn g w.tasks (after (RemovesEntry j gone) w).insts w.streams w.futures
remove_awaits g w j gone entry there apart h =
    insts_await g w _
    (λ t number index i a.
    live_changed w.insts j _ i index (OfEnd a.end)
    (λ inst at found k.
    live_removed inst.table gone index (OfEnd a.end)
    (λ same.
    apart t number index i a
    (some_same (sym (subst (λ (o : Option Inst). live (table_in o) gone ≡ Some entry) found there) ∙ (ap (λ (n : ℕ). live inst.table n) same ∙ k)))) k) a.stands) h

left_apart : (w : World) (j : ℕ) (entry : Entry) (e : EndRef) → IsLeft w j entry → entry ≡ OfEnd e → ⊥
left_apart w j entry e left same = subst (IsLeft w j) same left

idle_apart : (g : Graph) (w : World) (entry : Entry) (t number index i : ℕ) → HasNoCopy w entry → (a : AwaitsCopy g w.insts w.streams w.futures t number index i) → entry ≡ OfEnd a.end → ⊥
idle_apart g w entry t number index i none a same =
    let idle : (end_of w a.end).copy ≡ None = subst (HasNoCopy w) same none in
    let clash : None ≡ Some a.copy = sym idle ∙ (ap (λ (x : End). x.copy) (end_there w a.end a.under.0 a.under.1) ∙ a.under.2) in cc

-- Tasks.

tasks_await : (g : Graph) (w : World) (u : ℕ) (f : Task → Task)
    → ((x : Task) → slice_get w.tasks u ≡ Some x → (number index : ℕ) (l : Lifted) → func_of (f x).callee ≡ Some l → WaitsForCopy (f x) number index
    → (func_of x.callee ≡ Some l → WaitsForCopy x number index → AwaitsCopy g w.insts w.streams w.futures u number index l.instance) → AwaitsCopy g w.insts w.streams w.futures u number index l.instance)
    → AwaitCopies g w → AwaitCopiesIn g (changed_at u f w.tasks) w.insts w.streams w.futures
tasks_await g w u f says h t number index task l e runs waits = elim (changed_here u f w.tasks t task e) [
  | inl o ↦
      subst (λ (n : ℕ). AwaitsCopy g w.insts w.streams w.futures n number index l.instance) (sym o.0)
      (says o.1.0 o.1.1 number index l (subst (λ (x : Task). func_of x.callee ≡ Some l) o.1.2 runs) (subst (λ (x : Task). WaitsForCopy x number index) o.1.2 waits)
      (λ r k. h u number index o.1.0 l o.1.1 r k))
  | inr old ↦ h t number index task l old runs waits
]

same_await : (g : Graph) (w : World) (u : ℕ) (f : Task → Task) → ((x : Task) → ((f x).callee ≡ x.callee) × ((f x).state ≡ x.state)) → AwaitCopies g w → AwaitCopiesIn g (changed_at u f w.tasks) w.insts w.streams w.futures
same_await g w u f same h =
    tasks_await g w u f (λ x e number index l runs waits before. before (ap func_of (sym (same x).0) ∙ runs) (waits.0, sym (same x).1 ∙ waits.1)) h

-- in a state in which it waits for no copy
abbrev IsNoWait : TaskState → Type 0
IsNoWait state = (number index : ℕ) (words : List ℕ) → state ≡ InBuiltin number words (ForCopy index) → ⊥

state_awaits : (g : Graph) (w : World) (u : ℕ) (state : TaskState) → IsNoWait state → AwaitCopies g w → AwaitCopiesIn g (changed_at u (λ task. record task { state = state }) w.tasks) w.insts w.streams w.futures
state_awaits g w u state not h = tasks_await g w u (λ task. record task { state = state }) (λ x e number index l runs waits before. absurd (not number index waits.0 waits.1)) h

one_more : (g : Graph) (tasks : List Task) (insts : List Inst) (streams futures : List Channel) (new : Task) → IsNoWait new.state → AwaitCopiesIn g tasks insts streams futures → AwaitCopiesIn g (tasks ++ new ∷ []) insts streams futures
one_more g tasks insts streams futures new not h t number index task l e runs waits = elim (more_either tasks new t task e) [
  | inl old ↦ h t number index task l old runs waits
  | inr last ↦ let k : WaitsForCopy new number index = subst (λ (x : Task). WaitsForCopy x number index) last.1 waits in absurd (not number index k.0 k.1)
]

new_no_wait : IsNoWait New
new_no_wait number index words e = cc

acting_no_wait : IsNoWait Acting
acting_no_wait number index words e = cc

exited_no_wait : IsNoWait Exited
exited_no_wait number index words e = cc

called_no_wait : (callee canon : ℕ) (given : List ℕ) → IsNoWait (AfterCall callee canon given)
called_no_wait callee canon given number index words e = cc

cancels_no_wait : (callee canon : ℕ) (given : List ℕ) → IsNoWait (AfterCancel callee canon given)
cancels_no_wait callee canon given number index words e = cc

begins_no_wait : (n : ℕ) → IsNoWait (world.Begins n)
begins_no_wait n number index words e = cc

-- A task blocks for its own copy, in the table of the component instance that made what it calls, which is that of its function.
blocks_there : (g : Graph) (w : World) (t : ℕ) (state : TaskState) (x : Task) (number index : ℕ) (l : Lifted) → slice_get w.tasks t ≡ Some x → func_of x.callee ≡ Some l → BlocksCopying g t state w → BlocksOwn g t state w
    → (words : List ℕ) → state ≡ InBuiltin number words (ForCopy index) → AwaitsCopy g w.insts w.streams w.futures t number index l.instance
blocks_there g w t state x number index l e runs blocks own words is =
    let there : BlocksCopying g t (InBuiltin number words (ForCopy index)) w = subst (λ (s : TaskState). BlocksCopying g t s w) is blocks in
    let mine : BlocksOwn g t (InBuiltin number words (ForCopy index)) w = subst (λ (s : TaskState). BlocksOwn g t s w) is own in
    let calls : CallsOwn g (func_of x.callee) number = is_what (λ (o : Outline). CallsOwn g (func_of o.callee) number) t w (outline_of x) mine (outline_there w.tasks t x e) in
    let here : owner_of_canon g number ≡ Some l.instance = subst (λ (o : Option Lifted). CallsOwn g o number) runs calls in
    subst (λ (i : ℕ). AwaitsCopy g w.insts w.streams w.futures t number index i) (some_same (sym there.1 ∙ here)) there.2

abbrev Kept : Graph → World → Type 0
Kept g w = HaveHistories w.insts × IsOwnWorld g w × AwaitCopies g w

-- An edit of streams and futures leaves tasks and instances alone.
beside_edit : (g : Graph) (kind : EndKind) (number : ℕ) (f : Channel → Channel) (w : World) → AwaitBeside g w (with_channel kind number f w) → AwaitCopies g (with_channel kind number f w)
beside_edit g Stream number f w h = h
beside_edit g Future number f w h = h

beside_made : (g : Graph) (kind : EndKind) (element : Option ValType) (w : World) → AwaitBeside g w (channel_made kind element w) → AwaitCopies g (channel_made kind element w)
beside_made g Stream element w h = h
beside_made g Future element w h = h

beside_twice : (g : Graph) (kind : EndKind) (number : ℕ) (f k : Channel → Channel) (w : World) → AwaitBeside g w (with_channel kind number k (with_channel kind number f w))
    → AwaitCopies g (with_channel kind number k (with_channel kind number f w))
beside_twice g Stream number f k w h = h
beside_twice g Future number f k w h = h

copies_kept : (g : Graph) (s : Script) (c : Change) (w : World) → MayCome g s c w → Besides ⊥ ⊥ (Unit {0}) ⊥ g c w → Owns g c w → HaveHistories w.insts → AwaitCopies g w → AwaitCopies g (after c w)
copies_kept g s BeginsInstance w may b own history h = begun_awaits g w h
copies_kept g s (AddsEntry i entry) w may b own history h = add_awaits g w i entry history h
copies_kept g s (MakesSet i set) w may b own history h = tables_await g (after (AddsEntry i (OfSet set)) w) i _ (λ x. refl) (add_awaits g w i (OfSet set) history h)
copies_kept g s (RemovesEntry i index) w may b own history h = remove_awaits g w i index may.0 may.1 (λ t number place j a same. left_apart w i may.0 a.end may.2 same) h
copies_kept g s (RemovesWaitable i index) w may b own history h =
    tables_await g (after (RemovesEntry i index) w) i _ (λ x. refl) (remove_awaits g w i index b.1.0 b.1.1 (λ t number place j a same. idle_apart g w b.1.0 t number place j b.1.2 a same) h)
copies_kept g s (LeavesSet i index) w may b own history h = tables_await g w i _ (λ x. refl) h
copies_kept g s (JoinsSet i index set) w may b own history h = tables_await g w i _ (λ x. refl) h
copies_kept g s (HasBackpressure i backpressure) w may b own history h = tables_await g w i _ (λ x. refl) h
copies_kept g s (IsCalled callee call values) w may b own history h = one_more g w.tasks w.insts w.streams w.futures (new_task callee (Host call values) New) new_no_wait h
copies_kept g s (Calls number callee subtask words) w may b own history h =
    one_more g _ w.insts w.streams w.futures (new_task callee (Guest subtask) New) new_no_wait (state_awaits g w subtask.by (AfterCall (length w.tasks) number words) (called_no_wait (length w.tasks) number words) h)
copies_kept g s (ComesBack t) w may b own history h = h
copies_kept g s (Acts t) w may b own history h = state_awaits g w t Acting acting_no_wait h
copies_kept g s (Begins n) w may b own history h = state_awaits g w 0 (world.Begins n) (begins_no_wait n) h
copies_kept g s (Cancels t callee number words) w may b own history h = state_awaits g w t (AfterCancel callee number words) (cancels_no_wait callee number words) h
copies_kept g s (Blocks t state) w may b own history h =
    tasks_await g w t (λ task. record task { state = state }) (λ x e number index l runs waits before. blocks_there g w t state x number index l e runs (b.3 tt) own waits.0 waits.1) h
copies_kept g s (Exits t) w may b own history h = state_awaits g w t Exited exited_no_wait h
copies_kept g s (IsRemoved t) w may b own history h = absurd b
copies_kept g s (Resolves t resolution) w may b own history h = same_await g w t _ (λ x. (refl, refl)) h
copies_kept g s (IsCancelled t cancellation) w may b own history h = same_await g w t _ (λ x. (refl, refl)) h
copies_kept g s (HasWord t slot word) w may b own history h = same_await g w t _ (λ x. (refl, refl)) h
copies_kept g s (HasNewStack t k) w may b own history h = same_await g w t _ (λ x. (refl, refl)) h
copies_kept g s (HasStack t k) w may b own history h = same_await g w t _ (λ x. (refl, refl)) h
copies_kept g s (LosesStack t) w may b own history h = same_await g w t _ (λ x. (refl, refl)) h
copies_kept g s (IsAnswered t words) w may b own history h = same_await g w t _ (λ x. (refl, refl)) h
copies_kept g s (IsTold t state) w may b own history h = same_await g w t _ (λ x. (refl, refl)) h
copies_kept g s (IsLent t handle) w may b own history h = same_await g w t _ (λ x. (refl, refl)) h
copies_kept g s (HasResult t words) w may b own history h = same_await g w t _ (λ x. (refl, refl)) h
copies_kept g s (MakesChannel kind element) w may b own history h = beside_made g kind element w (made_awaits g kind element w h)
copies_kept g s (Offers e call) w may b own history h = beside_edit g e.kind e.number _ w (offer_awaits g e call w b.0 h)
copies_kept g s (Transfers e size values) w may b own history h = beside_twice g e.kind e.number _ _ w (transfer_awaits g e size values w h)
copies_kept g s (Concludes e) w may b own history h = beside_edit g e.kind e.number _ w (conclude_awaits g e w (b tt) h)
copies_kept g s (DropsEnd e) w may b own history h = beside_edit g e.kind e.number _ w (edit_awaits g e.kind e.number _ w (λ c. drop_stays e.side c.ends.view) h)
copies_kept g s (GoesTo control) w may b own history h = h
copies_kept g s (HasStore store) w may b own history h = h
copies_kept g s SpendsUnit w may b own history h = h
copies_kept g s (UsesPicks picks) w may b own history h = h
copies_kept g s TakesItem w may b own history h = h

removed_copies : (g : Graph) (t : ℕ) (w : World) → Kept g w → Kept g (after (IsRemoved t) w)
removed_copies g t w h = (
  h.0,
  own_removed g t w h.1,
  state_awaits g (after (Resolves t Cancelled) w) t Exited exited_no_wait (same_await g w t (λ x. record x { resolution = Some Cancelled }) (λ x. (refl, refl)) h.2),
)

pub first_awaits_copies : FirstAwaitsCopies
first_awaits_copies g zero number index task f e runs waits =
    let k : WaitsForCopy (new_task world.Init world.Nobody Acting) number index = subst (λ (x : Task). WaitsForCopy x number index) (sym (some_same e)) waits in absurd (acting_no_wait number index k.0 k.1)
first_awaits_copies g (suc n) number index task f e runs waits = absurd (no_first n task e)

pub copies_stay_awaited : CopiesStayAwaited
unfolding beside in_order
copies_stay_awaited g s w v labels apart alone o history own says none h e =
    (step_known
    (beside g s (in_order g s) ⊥ (Unit {0}) ⊥ (Unit {0}) (Kept g) (λ a. apart) (λ event. absurd event) (λ a u k. k.1)
    (λ c u may b belongs k. (histories_kept g s c u may k.0, own_kept g s c u may (belongs tt) k.1, copies_kept g s c u may b (belongs tt) k.0 k.2)) (λ t u may k. k) (λ t u may k. removed_copies g t u k))
    w v labels (λ none. absurd none) (λ asks. absurd asks) (λ copies. record { once = both_once w.insts w.streams w.futures alone.4 (alone.6 none); awaits = h }) (λ a. says) (λ event. absurd event) alone.1 o.2
    ((alone.0, o.0, o.1), (history, own, h)) e).0.1.2
