-- The end of each copy under way stands in a table, and so it stays.
use Rattle.std.proofs.Common.{◌≡◌, inl, inr, ℕ, zero, suc, List, [], ◌∷◌, ◌++◌, length, refl, sym, ap, ◌∙◌, subst, Option, Some, None}
use Rattle.std.specs.Prelude.{IsSome}
use Rattle.std.specs.List.{slice_get}
use Rattle.wasm_store.proofs.Lists.{all_at}
use Rattle.handle_table.specs.History.{Event, IsHistory, live}
use Rattle.builtin_kinds.specs.declared.EndKind.{EndKind}
use Rattle.builtin_kinds.specs.declared.EndKind.TheVariants.{Stream, Future}
use Rattle.stream_ends.specs.declared.side.Side.{Side}
use Rattle.stream_ends.specs.declared.open_copy.By.{By}
use Rattle.stream_ends.specs.declared.open_copy.OpenCopy.{OpenCopy}
use Rattle.stream_ends.specs.declared.stream_end.End.{End}
use Rattle.stream_ends.specs.Ends.{end_at}
use Rattle.stream_ends.specs.Ends as stream
use Rattle.tasks.specs.declared.phase.Resolution.TheVariants.{Cancelled}
use Rattle.syntax_trees.specs.declared.types.ValType.{ValType}
use Rattle.syntax_trees.specs.declared.value.Value.{Value}
use Rattle.comp_graph.specs.Graph.{Graph}
use Rattle.script_reader.specs.Script.{Script}
use Rattle.abi_machine.specs.Control.{EndRef}
use Rattle.abi_machine.specs.World.{Entry, OfSet, OfEnd, Inst, Host, Guest, New, AfterCall, Task, Channel, World, first_world, new_inst, new_task}
use Rattle.abi_machine.specs.Edits.{changed_at, with_channel, channel_made, carried, offered_by, offered, transferred_by, transferred}
use Rattle.abi_machine.specs.Canons.{canon_at}
use Rattle.abi_machine.specs.Reading.{table_in, entry_at}
use Rattle.abi_machine.specs.Copying.{task_by}
use Rattle.abi_machine.specs.sound.Changes.{Change, GoesTo, HasStore, SpendsUnit, UsesPicks, TakesItem, BeginsInstance, AddsEntry, MakesSet, RemovesEntry, RemovesWaitable, LeavesSet, JoinsSet, HasBackpressure, IsCalled, Calls, ComesBack, Acts, Begins, Cancels, Blocks, Exits, IsRemoved, Resolves, IsCancelled, HasWord, HasNewStack, HasStack, LosesStack, IsAnswered, IsTold, IsLent, HasResult, MakesChannel, Offers, Transfers, Concludes, DropsEnd, after, IsLeft}
use Rattle.abi_machine.specs.sound.Premises.{IsTaken, IsCall, Comes}
use Rattle.abi_machine.specs.sound.Tables.{HaveHistories}
use Rattle.abi_machine.specs.sound.Agreeing.{channel_in}
use Rattle.abi_machine.specs.sound.OpenCopies.{IsHeld, AreHeld, HoldsCopies, FirstHoldsCopies, CopiesStayHeld}
use Rattle.abi_machine.proofs.sound.Lists.{get_front, there_front}
use Rattle.abi_machine.proofs.sound.Found.{some_same, there_changed}
use Rattle.abi_machine.proofs.sound.Acted.{changed_where}
use Rattle.abi_machine.proofs.sound.Histories.{histories_kept}
use Rattle.abi_machine.proofs.sound.Joined.{live_added, live_removed}
use Rattle.abi_machine.proofs.sound.Copied.{end_there, channel_twice}
use Rattle.abi_machine.proofs.sound.Alone.{comes_may, kept_so}
use Rattle.abi_machine.proofs.sound.CopyEdits.{Before, AllCome, conclude_come, drop_come, transfer_come, OfCall, offered_copies, channel_either, made_copies}

-- A copy of the same task and canonical function is held where the other one was.
held_as : (g : Graph) (tasks : List Task) (insts : List Inst) (e : EndRef) (copy before : OpenCopy) → copy.by ≡ before.by → copy.canon ≡ before.canon → IsHeld g tasks insts e before → IsHeld g tasks insts e copy
held_as g tasks insts e copy before by_same canon_same k = record {
  inst = k.inst;
  index = k.index;
  held = k.held;
  reads_or_writes = subst (λ (b : By). IsSome (slice_get tasks (task_by b))) (sym by_same) k.reads_or_writes;
  called = subst (λ (n : ℕ). IsSome (canon_at g n)) (sym canon_same) k.called;
}

abbrev StayHeld : Graph → World → World → Type 0
StayHeld g w v = AreHeld g w.tasks w.insts v.streams v.futures

edit_held : (g : Graph) (kind : EndKind) (number : ℕ) (f : Channel → Channel) (w : World) → ((c : Channel) → AllCome c.ends.view (f c).ends.view) → HoldsCopies g w → StayHeld g w (with_channel kind number f w)
edit_held g kind number f w comes h e c copy there under = elim (channel_either kind e.kind number e.number f w c there) [
  | inl new ↦ (
      let b : Before (end_at e.side new.2.0.ends.view).copy copy = comes new.2.0 e.side copy (ap (λ (x : Channel). (end_at e.side x.ends.view).copy) (sym new.2.2) ∙ under) in
      held_as g w.tasks w.insts e copy b.0 b.2 b.3 (h e new.2.0 b.0 new.2.1 b.1)
      )
  | inr old ↦ h e c copy old under
]

-- an end by what it is
same_ref : (e d : EndRef) → e.kind ≡ d.kind → e.number ≡ d.number → e.side ≡ d.side → d ≡ e
same_ref e d kind number side =
    ap (λ (x : EndKind). (let r : EndRef = record { kind = x; number = d.number; side = d.side } in r)) (sym kind)
    ∙ (ap (λ (x : ℕ). (let r : EndRef = record { kind = e.kind; number = x; side = d.side } in r)) (sym number)
    ∙ ap (λ (x : Side). (let r : EndRef = record { kind = e.kind; number = e.number; side = x } in r)) (sym side))

call_held : (g : Graph) (w : World) (d e : EndRef) (call copy : OpenCopy) → IsCall g w d call → d ≡ e → copy ≡ call → IsHeld g w.tasks w.insts e copy
call_held g w d e call copy may at same =
    let is : copy ≡ stream.new_copy _ may.canon may.place may.size = same ∙ may.is in
    record {
      inst = may.inst;
      index = may.index;
      held = may.held ∙ ap (λ (x : EndRef). Some (OfEnd x)) at;
      reads_or_writes = subst (λ (x : OpenCopy). IsSome (slice_get w.tasks (task_by x.by))) (sym is) may.acts;
      called = subst (λ (x : OpenCopy). IsSome (canon_at g x.canon)) (sym is) may.made;
    }

offer_held : (g : Graph) (d : EndRef) (call : OpenCopy) (w : World) → IsCall g w d call → HoldsCopies g w → StayHeld g w (offered d call w)
offer_held g d call w may h e c copy there under = elim (channel_either d.kind e.kind d.number e.number (λ c. record c { ends = offered_by d.kind d.side call c.ends }) w c there) [
  | inl new ↦ by_case new.2.0 new.0 new.1 new.2.1
      (offered_copies d.kind d.side call new.2.0.ends e.side copy (ap (λ (x : Channel). (end_at e.side x.ends.view).copy) (sym new.2.2) ∙ under))
  | inr old ↦ h e c copy old under
]
  where
    by_case : (x : Channel) → e.kind ≡ d.kind → e.number ≡ d.number → channel_in e.kind e.number w.streams w.futures ≡ Some x → OfCall d.side call x.ends e.side copy → IsHeld g w.tasks w.insts e copy
    by_case x kind number found (inl own) = call_held g w d e call copy may (same_ref e d kind number own.0) own.1
    by_case x kind number found (inr b) = held_as g w.tasks w.insts e copy b.0 b.2 b.3 (h e x b.0 found b.1)

made_held : (g : Graph) (kind : EndKind) (element : Option ValType) (w : World) → HoldsCopies g w → StayHeld g w (channel_made kind element w)
made_held g kind element w h e c copy there under = h e c copy (made_copies kind element w e c copy there under) under

-- Tasks and tables that are changed.

tasks_held : (g : Graph) (w : World) (others : List Task) → ((n : ℕ) → IsSome (slice_get w.tasks n) → IsSome (slice_get others n)) → HoldsCopies g w → AreHeld g others w.insts w.streams w.futures
tasks_held g w others more h e c copy there under =
    let k : IsHeld g w.tasks w.insts e copy = h e c copy there under in
    record { inst = k.inst; index = k.index; held = k.held; reads_or_writes = more (task_by copy.by) k.reads_or_writes; called = k.called }

task_held : (g : Graph) (w : World) (t : ℕ) (f : Task → Task) → HoldsCopies g w → AreHeld g (changed_at t f w.tasks) w.insts w.streams w.futures
task_held g w t f h = tasks_held g w (changed_at t f w.tasks) (λ n k. there_changed w.tasks t n f k) h

-- what stands in a table where an instance is changed
pub live_changed : (insts : List Inst) (i : ℕ) (f : Inst → Inst) (j index : ℕ) (x : Entry)
    → ((inst : Inst) → j ≡ i → slice_get insts i ≡ Some inst → live inst.table index ≡ Some x → live (f inst).table index ≡ Some x) → live (table_in (slice_get insts j)) index ≡ Some x
    → live (table_in (slice_get (changed_at i f insts) j)) index ≡ Some x
live_changed insts i f j index x keeps there = by_inst (slice_get insts j) refl there
  where
    by_inst : (o : Option Inst) → slice_get insts j ≡ o → live (table_in o) index ≡ Some x → live (table_in (slice_get (changed_at i f insts) j)) index ≡ Some x
    by_inst None e k = cc
    by_inst (Some inst) e k = elim (changed_where i f insts j inst e) [
      | inl old ↦ subst (λ (o : Option Inst). live (table_in o) index ≡ Some x) (sym old) k
      | inr new ↦ subst (λ (o : Option Inst). live (table_in o) index ≡ Some x) (sym new.1) (keeps inst new.0 (ap (λ (n : ℕ). slice_get insts n) (sym new.0) ∙ e) k)
    ]

-- An entry that holds an end with a copy stands where the others leave it.
abbrev KeepsEnds : Graph → World → List Inst → Type 0
KeepsEnds g w others =
    (e : EndRef) (c : Channel) (copy : OpenCopy) → channel_in e.kind e.number w.streams w.futures ≡ Some c → (end_at e.side c.ends.view).copy ≡ Some copy
    → (j index : ℕ) → live (table_in (slice_get w.insts j)) index ≡ Some (OfEnd e) → live (table_in (slice_get others j)) index ≡ Some (OfEnd e)

insts_held : (g : Graph) (w : World) (others : List Inst) → KeepsEnds g w others → HoldsCopies g w → AreHeld g w.tasks others w.streams w.futures
insts_held g w others keeps h e c copy there under =
    let k : IsHeld g w.tasks w.insts e copy = h e c copy there under in
    record { inst = k.inst; index = k.index; held = keeps e c copy there under k.inst k.index k.held; reads_or_writes = k.reads_or_writes; called = k.called }

-- tables that stay
tables_keep : (g : Graph) (w : World) (i : ℕ) (f : Inst → Inst) → ((x : Inst) → (f x).table ≡ x.table) → KeepsEnds g w (changed_at i f w.insts)
tables_keep g w i f same e c copy there under j index held =
    live_changed w.insts i f j index (OfEnd e) (λ inst at found k. subst (λ (t : List (Event Entry)). live t index ≡ Some (OfEnd e)) (sym (same inst)) k) held

add_keeps : (g : Graph) (w : World) (i : ℕ) (entry : Entry) → HaveHistories w.insts → KeepsEnds g w (after (AddsEntry i entry) w).insts
add_keeps g w i entry history e c copy there under j index held =
    live_changed w.insts i _ j index (OfEnd e)
    (λ inst at found k. live_added inst.table entry (OfEnd e) index (all_at (λ (x : Inst). IsHistory x.table) w.insts i inst history found) k) held

remove_keeps : (g : Graph) (w : World) (i gone : ℕ) (entry : Entry) → entry_at w i gone ≡ Some entry
    → ((e : EndRef) (c : Channel) (copy : OpenCopy) → channel_in e.kind e.number w.streams w.futures ≡ Some c → (end_at e.side c.ends.view).copy ≡ Some copy → entry ≡ OfEnd e → ⊥)
    → KeepsEnds g w (after (RemovesEntry i gone) w).insts
remove_keeps g w i gone entry stands apart e c copy there under j index held =
    live_changed w.insts i _ j index (OfEnd e)
    (λ inst at found k.
    live_removed inst.table gone index (OfEnd e)
    (λ same.
    apart e c copy there under
    (some_same
    (sym (subst (λ (o : Option Inst). live (table_in o) gone ≡ Some entry) found stands) ∙ (ap (λ (n : ℕ). live inst.table n) same ∙ k)))) k) held

left_apart : (w : World) (i : ℕ) (entry : Entry) (e : EndRef) → IsLeft w i entry → entry ≡ OfEnd e → ⊥
left_apart w i entry e left same = subst (IsLeft w i) same left

taken_apart : (w : World) (entry : Entry) (e : EndRef) (c : Channel) (copy : OpenCopy) → IsTaken w entry → channel_in e.kind e.number w.streams w.futures ≡ Some c → (end_at e.side c.ends.view).copy ≡ Some copy
    → entry ≡ OfEnd e → ⊥
taken_apart w entry e c copy taken there under same =
    let idle : IsTaken w (OfEnd e) = subst (IsTaken w) same taken in
    let clash : None ≡ Some copy = sym idle.1 ∙ (ap (λ (x : End). x.copy) (end_there w e c there) ∙ under) in cc

begun_keeps : (g : Graph) (w : World) → KeepsEnds g w (w.insts ++ new_inst ∷ [])
begun_keeps g w e c copy there under j index held = by_inst (slice_get w.insts j) refl held
  where
    by_inst : (o : Option Inst) → slice_get w.insts j ≡ o → live (table_in o) index ≡ Some (OfEnd e) → live (table_in (slice_get (w.insts ++ new_inst ∷ []) j)) index ≡ Some (OfEnd e)
    by_inst None k l = cc
    by_inst (Some inst) k l = subst (λ (o : Option Inst). live (table_in o) index ≡ Some (OfEnd e)) (sym (get_front w.insts new_inst j inst k)) l

-- two changes of instances, one behind the other
both_keep : (g : Graph) (w : World) (mid others : List Inst) → KeepsEnds g w mid → KeepsEnds g (record w { insts = mid }) others → KeepsEnds g w others
both_keep g w mid others first later e c copy there under j index held = later e c copy there under j index (first e c copy there under j index held)

transfer_held : (g : Graph) (e : EndRef) (size : ℕ) (values : List (Option Value)) (w : World) → HoldsCopies g w → StayHeld g w (transferred e size values w)
transfer_held g e size values w h =
    let completes : Channel → Channel = λ c. record c { ends = transferred_by e.kind e.side size (length values) c.ends } in
    subst (StayHeld g w) (sym (channel_twice e.kind e.number (carried values) completes w))
    (edit_held g e.kind e.number (λ c. completes (carried values c)) w (λ c. transfer_come e.kind e.side size (length values) c.ends) h)

-- An edit of streams and futures leaves tasks and instances alone.
beside : (g : Graph) (kind : EndKind) (number : ℕ) (f : Channel → Channel) (w : World) → StayHeld g w (with_channel kind number f w) → HoldsCopies g (with_channel kind number f w)
beside g Stream number f w h = h
beside g Future number f w h = h

beside_made : (g : Graph) (kind : EndKind) (element : Option ValType) (w : World) → StayHeld g w (channel_made kind element w) → HoldsCopies g (channel_made kind element w)
beside_made g Stream element w h = h
beside_made g Future element w h = h

beside_twice : (g : Graph) (kind : EndKind) (number : ℕ) (f k : Channel → Channel) (w : World) → StayHeld g w (with_channel kind number k (with_channel kind number f w))
    → HoldsCopies g (with_channel kind number k (with_channel kind number f w))
beside_twice g Stream number f k w h = h
beside_twice g Future number f k w h = h

abbrev Kept : Graph → World → Type 0
Kept g w = HaveHistories w.insts × HoldsCopies g w

held_kept : (g : Graph) (s : Script) (c : Change) (w : World) → Comes g s c w → Kept g w → HoldsCopies g (after c w)
held_kept g s BeginsInstance w may h = insts_held g w _ (begun_keeps g w) h.1
held_kept g s (AddsEntry i entry) w may h = insts_held g w _ (add_keeps g w i entry h.0) h.1
held_kept g s (MakesSet i set) w may h =
    insts_held g w _ (both_keep g w (after (AddsEntry i (OfSet set)) w).insts _ (add_keeps g w i (OfSet set) h.0) (tables_keep g (after (AddsEntry i (OfSet set)) w) i _ (λ x. refl))) h.1
held_kept g s (RemovesEntry i index) w may h =
    insts_held g w _ (remove_keeps g w i index may.0 may.1 (λ e c copy there under same. left_apart w i may.0 e may.2.0 same)) h.1
held_kept g s (RemovesWaitable i index) w may h =
    insts_held g w _
    (both_keep g w (after (RemovesEntry i index) w).insts _
    (remove_keeps g w i index may.0 may.1 (λ e c copy there under same. taken_apart w may.0 e c copy may.2 there under same))
    (tables_keep g (after (RemovesEntry i index) w) i _ (λ x. refl))) h.1
held_kept g s (LeavesSet i index) w may h = insts_held g w _ (tables_keep g w i _ (λ x. refl)) h.1
held_kept g s (JoinsSet i index set) w may h = insts_held g w _ (tables_keep g w i _ (λ x. refl)) h.1
held_kept g s (HasBackpressure i pressure) w may h = insts_held g w _ (tables_keep g w i _ (λ x. refl)) h.1
held_kept g s (IsCalled callee call values) w may h = tasks_held g w _ (λ n k. there_front w.tasks (new_task callee (Host call values) New) n k) h.1
held_kept g s (Calls number callee subtask words) w may h =
    tasks_held g w _
    (λ n k. there_front _ (new_task callee (Guest subtask) New) n (there_changed w.tasks subtask.by n (λ task. record task { state = AfterCall (length w.tasks) number words }) k)) h.1
held_kept g s (Acts t) w may h = task_held g w t _ h.1
held_kept g s (Begins n) w may h = task_held g w 0 _ h.1
held_kept g s (Cancels t callee number words) w may h = task_held g w t _ h.1
held_kept g s (Blocks t state) w may h = task_held g w t _ h.1
held_kept g s (Exits t) w may h = task_held g w t _ h.1
held_kept g s (IsRemoved t) w may h = task_held g (after (Resolves t Cancelled) w) t _ (task_held g w t _ h.1)
held_kept g s (Resolves t resolution) w may h = task_held g w t _ h.1
held_kept g s (IsCancelled t cancellation) w may h = task_held g w t _ h.1
held_kept g s (HasWord t slot word) w may h = task_held g w t _ h.1
held_kept g s (HasNewStack t k) w may h = task_held g w t _ h.1
held_kept g s (HasStack t k) w may h = task_held g w t _ h.1
held_kept g s (LosesStack t) w may h = task_held g w t _ h.1
held_kept g s (IsAnswered t words) w may h = task_held g w t _ h.1
held_kept g s (IsTold t state) w may h = task_held g w t _ h.1
held_kept g s (IsLent t handle) w may h = task_held g w t _ h.1
held_kept g s (HasResult t words) w may h = task_held g w t _ h.1
held_kept g s (MakesChannel kind element) w may h = beside_made g kind element w (made_held g kind element w h.1)
held_kept g s (Offers e call) w may h = beside g e.kind e.number _ w (offer_held g e call w may h.1)
held_kept g s (Transfers e size values) w may h = beside_twice g e.kind e.number _ _ w (transfer_held g e size values w h.1)
held_kept g s (Concludes e) w may h = beside g e.kind e.number _ w (edit_held g e.kind e.number _ w (λ c. conclude_come e.kind e.side c.ends) h.1)
held_kept g s (DropsEnd e) w may h = beside g e.kind e.number _ w (edit_held g e.kind e.number _ w (λ c. drop_come e.side c.ends.view) h.1)
held_kept g s (GoesTo control) w may h = h.1
held_kept g s (HasStore store) w may h = h.1
held_kept g s SpendsUnit w may h = h.1
held_kept g s (UsesPicks picks) w may h = h.1
held_kept g s TakesItem w may h = h.1
held_kept g s (ComesBack t) w may h = h.1

pub first_holds_copies : FirstHoldsCopies
first_holds_copies g e c copy there under = none_yet e.kind e.number there
  where
    none_yet : (kind : EndKind) (number : ℕ) → channel_in kind number [] [] ≡ Some c → IsHeld g (first_world g).tasks (first_world g).insts e copy
    none_yet Stream zero k = cc
    none_yet Stream (suc place) k = cc
    none_yet Future zero k = cc
    none_yet Future (suc place) k = cc

pub copies_stay_held : CopiesStayHeld
copies_stay_held g s w v labels alone history h e =
    (kept_so g s (Kept g) (λ c u may k. (histories_kept g s c u (comes_may g s c u may) k.0, held_kept g s c u may k)) w v labels alone (history, h) e).1
