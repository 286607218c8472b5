-- What each change keeps of copies whose tasks wait for them.
use Rattle.std.proofs.Common.{◌≡◌, ◌⊎◌, inl, inr, ℕ, true, false, List, [], ◌∷◌, ◌++◌, length, refl, sym, ap, ◌∙◌, subst, Option, Some, None}
use Rattle.std.specs.Prelude.{IsSome}
use Rattle.std.specs.List.{slice_get}
use Rattle.wasm_store.proofs.Lists.{all_at}
use Rattle.handle_table.specs.History.{Event, IsHistory, live}
use Rattle.builtin_kinds.specs.declared.EndKind.{EndKind}
use Rattle.builtin_kinds.specs.declared.EndKind.TheVariants.{Stream, Future}
use Rattle.stream_ends.specs.declared.side.Side.{Side}
use Rattle.stream_ends.specs.declared.side.Side.TheVariants.{Reader, Writer}
use Rattle.stream_ends.specs.declared.open_copy.By.{By}
use Rattle.stream_ends.specs.declared.open_copy.OpenCopy.{OpenCopy}
use Rattle.stream_ends.specs.declared.stream_end.End.{End}
use Rattle.stream_ends.specs.Ends.{Ends, end_at}
use Rattle.syntax_trees.specs.declared.types.ValType.{ValType}
use Rattle.syntax_trees.specs.declared.value.Value.{Value}
use Rattle.comp_graph.specs.Graph.{Graph, Lifted}
use Rattle.abi_machine.specs.Control.{EndRef}
use Rattle.abi_machine.specs.World.{Entry, OfEnd, Inst, ForCopy, TaskState, Acting, InBuiltin, Task, Channel, World, new_inst}
use Rattle.abi_machine.specs.Edits.{changed_at, with_channel, channel_made, carried, in_state, offered_by, offered, transferred_by, transferred, concluded_by, concluded}
use Rattle.abi_machine.specs.Canons.{options_at}
use Rattle.abi_machine.specs.Reading.{table_in, entry_at, func_of}
use Rattle.abi_machine.specs.Counting.{end_of}
use Rattle.abi_machine.specs.Copying.{task_by}
use Rattle.abi_machine.specs.sound.Changes.{AddsEntry, RemovesEntry, after, IsLeft}
use Rattle.abi_machine.specs.sound.Premises.{HasNoCopy}
use Rattle.abi_machine.specs.sound.Tables.{HaveHistories}
use Rattle.abi_machine.specs.sound.EndPlaces.{EndStandsAt, channel_in}
use Rattle.abi_machine.specs.sound.Acting.{Outline, outline_of, IsActing}
use Rattle.abi_machine.specs.sound.Owners.{owner_of_canon, CallsOwn}
use Rattle.abi_machine.proofs.sound.Lists.{get_front}
use Rattle.abi_machine.proofs.sound.Found.{some_same, changed_there}
use Rattle.abi_machine.proofs.sound.Acted.{changed_where}
use Rattle.abi_machine.proofs.sound.Outlines.{Is, is_what, outline_there, outline_back}
use Rattle.abi_machine.proofs.sound.Joined.{live_added, live_removed}
use Rattle.abi_machine.proofs.sound.Holding.{live_changed}
use Rattle.abi_machine.proofs.sound.Copied.{end_there, channel_twice}
use Rattle.abi_machine.proofs.sound.CopyEdits.{Before, AllCome, conclude_come, transfer_come, OfCall, offered_copies, channel_either, made_copies}
use Rattle.abi_machine.proofs.sound.OpenStay.{channel_now}
use Rattle.abi_machine.proofs.sound.ends.Live.{same_end}
use Rattle.abi_machine.proofs.sound.acts.Keeping.{IsIn}
use Rattle.abi_machine.proofs.sound.known.Unawaited.{in_this_state}
use Rattle.abi_machine.proofs.sound.known.Keeping.{WaitsElse, WaitsForNone, CallsItsOwn}
use Rattle.reach_laws.specs.KnownCopies.{HasWaiter, HaveWaiters}

abbrev pub AreWaited : Graph → World → Type 0
AreWaited g w = HaveWaiters g w.tasks w.insts w.streams w.futures

-- beside other streams and futures
abbrev pub StayWaited : Graph → World → World → Type 0
StayWaited g w v = HaveWaiters g w.tasks w.insts v.streams v.futures

-- A copy of the same task and canonical function has the same waiter.
waiter_as : (tasks : List Task) (insts : List Inst) (e : EndRef) (copy before : OpenCopy) → copy.by ≡ before.by → copy.canon ≡ before.canon → HasWaiter tasks insts e before → HasWaiter tasks insts e copy
waiter_as tasks insts e copy before by_same canon_same k = record {
  task = k.task;
  func = k.func;
  words = k.words;
  index = k.index;
  there = subst (λ (b : By). slice_get tasks (task_by b) ≡ Some k.task) (sym by_same) k.there;
  runs = k.runs;
  waits = subst (λ (n : ℕ). k.task.state ≡ InBuiltin n k.words (ForCopy k.index)) (sym canon_same) k.waits;
  stands = k.stands;
}

sync_as : (g : Graph) (copy before : OpenCopy) → copy.canon ≡ before.canon → (options_at g copy.canon).is_async ≡ false → (options_at g before.canon).is_async ≡ false
sync_as g copy before same sync = subst (λ (n : ℕ). (options_at g n).is_async ≡ false) same sync

pub edit_waited : (g : Graph) (kind : EndKind) (number : ℕ) (f : Channel → Channel) (w : World) → ((c : Channel) → AllCome c.ends.view (f c).ends.view) → AreWaited g w → StayWaited g w (with_channel kind number f w)
edit_waited g kind number f w comes h e c copy there under sync = elim (channel_either kind e.kind number e.number f w c there) [
  | inl new ↦ (
      let b : Before (end_at e.side new.2.0.ends.view).copy copy = comes new.2.0 e.side copy (ap (λ (x : Channel). (end_at e.side x.ends.view).copy) (sym new.2.2) ∙ under) in
      waiter_as w.tasks w.insts e copy b.0 b.2 b.3 (h e new.2.0 b.0 new.2.1 b.1 (sync_as g copy b.0 b.3 sync))
      )
  | inr old ↦ h e c copy old under sync
]

pub made_waited : (g : Graph) (kind : EndKind) (element : Option ValType) (w : World) → AreWaited g w → StayWaited g w (channel_made kind element w)
made_waited g kind element w h e c copy there under sync = h e c copy (made_copies kind element w e c copy there under) under sync

pub transfer_waited : (g : Graph) (e : EndRef) (size : ℕ) (values : List (Option Value)) (w : World) → AreWaited g w → StayWaited g w (transferred e size values w)
transfer_waited g e size values w h =
    let completes : Channel → Channel = λ c. record c { ends = transferred_by e.kind e.side size (length values) c.ends } in
    subst (StayWaited g w) (sym (channel_twice e.kind e.number (carried values) completes w))
    (edit_waited g e.kind e.number (λ c. completes (carried values c)) w (λ c. transfer_come e.kind e.side size (length values) c.ends) h)

-- An edit of streams and futures leaves tasks and instances alone.
pub beside : (g : Graph) (kind : EndKind) (number : ℕ) (f : Channel → Channel) (w : World) → StayWaited g w (with_channel kind number f w) → AreWaited g (with_channel kind number f w)
beside g Stream number f w h = h
beside g Future number f w h = h

pub beside_made : (g : Graph) (kind : EndKind) (element : Option ValType) (w : World) → StayWaited g w (channel_made kind element w) → AreWaited g (channel_made kind element w)
beside_made g Stream element w h = h
beside_made g Future element w h = h

pub beside_twice : (g : Graph) (kind : EndKind) (number : ℕ) (f k : Channel → Channel) (w : World) → StayWaited g w (with_channel kind number k (with_channel kind number f w))
    → AreWaited g (with_channel kind number k (with_channel kind number f w))
beside_twice g Stream number f k w h = h
beside_twice g Future number f k w h = h

-- Tables.

abbrev pub KeepsEnds : World → List Inst → Type 0
KeepsEnds w others =
    (e : EndRef) (c : Channel) (copy : OpenCopy) → channel_in e.kind e.number w.streams w.futures ≡ Some c → (end_at e.side c.ends.view).copy ≡ Some copy
    → (j index : ℕ) → EndStandsAt w.insts j index e → EndStandsAt others j index e

pub insts_waited : (g : Graph) (w : World) (others : List Inst) → KeepsEnds w others → AreWaited g w → HaveWaiters g w.tasks others w.streams w.futures
insts_waited g w others keeps h e c copy there under sync =
    let k : HasWaiter w.tasks w.insts e copy = h e c copy there under sync in
    record { task = k.task; func = k.func; words = k.words; index = k.index; there = k.there; runs = k.runs; waits = k.waits; stands = keeps e c copy there under k.func.instance k.index k.stands }

pub tables_keep : (w : World) (i : ℕ) (f : Inst → Inst) → ((x : Inst) → (f x).table ≡ x.table) → KeepsEnds w (changed_at i f w.insts)
tables_keep w i f same e c copy there under j index held =
    live_changed w.insts i f j index (OfEnd e) (λ inst at found k. subst (λ (t : List (Event Entry)). live t index ≡ Some (OfEnd e)) (sym (same inst)) k) held

pub add_keeps : (w : World) (i : ℕ) (entry : Entry) → HaveHistories w.insts → KeepsEnds w (after (AddsEntry i entry) w).insts
add_keeps w i entry history e c copy there under j index held =
    live_changed w.insts i _ j index (OfEnd e)
    (λ inst at found k. live_added inst.table entry (OfEnd e) index (all_at (λ (x : Inst). IsHistory x.table) w.insts i inst history found) k) held

remove_keeps : (w : World) (i gone : ℕ) (entry : Entry) → entry_at w i gone ≡ Some entry
    → ((e : EndRef) (c : Channel) (copy : OpenCopy) → channel_in e.kind e.number w.streams w.futures ≡ Some c → (end_at e.side c.ends.view).copy ≡ Some copy → entry ≡ OfEnd e → ⊥)
    → KeepsEnds w (after (RemovesEntry i gone) w).insts
remove_keeps w i gone entry stands apart e c copy there under j index held =
    live_changed w.insts i _ j index (OfEnd e)
    (λ inst at found k.
    live_removed inst.table gone index (OfEnd e)
    (λ same.
    apart e c copy there under
    (some_same
    (sym (subst (λ (o : Option Inst). live (table_in o) gone ≡ Some entry) found stands) ∙ (ap (λ (n : ℕ). live inst.table n) same ∙ k)))) k) held

pub left_keeps : (w : World) (i gone : ℕ) (entry : Entry) → entry_at w i gone ≡ Some entry → IsLeft w i entry → KeepsEnds w (after (RemovesEntry i gone) w).insts
left_keeps w i gone entry stands left = remove_keeps w i gone entry stands (λ e c copy there under same. subst (IsLeft w i) same left)

pub idle_keeps : (w : World) (i gone : ℕ) (entry : Entry) → entry_at w i gone ≡ Some entry → HasNoCopy w entry → KeepsEnds w (after (RemovesEntry i gone) w).insts
idle_keeps w i gone entry stands none = remove_keeps w i gone entry stands (λ e c copy there under same.
    let idle : (end_of w e).copy ≡ None = subst (HasNoCopy w) same none in
    let clash : None ≡ Some copy = sym idle ∙ (ap (λ (x : End). x.copy) (end_there w e c there) ∙ under) in cc)

pub begun_keeps : (w : World) → KeepsEnds w (w.insts ++ new_inst ∷ [])
begun_keeps w e c copy there under j index held = by_inst (slice_get w.insts j) refl held
  where
    by_inst : (o : Option Inst) → slice_get w.insts j ≡ o → live (table_in o) index ≡ Some (OfEnd e) → EndStandsAt (w.insts ++ new_inst ∷ []) j index e
    by_inst None k l = cc
    by_inst (Some inst) k l = subst (λ (o : Option Inst). live (table_in o) index ≡ Some (OfEnd e)) (sym (get_front w.insts new_inst j inst k)) l

pub both_keep : (w : World) (mid others : List Inst) → KeepsEnds w mid → KeepsEnds (record w { insts = mid }) others → KeepsEnds w others
both_keep w mid others first later e c copy there under j index held = later e c copy there under j index (first e c copy there under j index held)

-- Tasks.

-- A change of a task that waits for a copy leaves what it runs, and how it waits.
abbrev pub LeavesWait : (Task → Task) → Task → Type 0
LeavesWait f x = (number index : ℕ) (words : List ℕ) → x.state ≡ InBuiltin number words (ForCopy index) → ((f x).callee ≡ x.callee) × ((f x).state ≡ x.state)

pub task_waited : (g : Graph) (w : World) (t : ℕ) (f : Task → Task) → ((x : Task) → slice_get w.tasks t ≡ Some x → LeavesWait f x) → AreWaited g w → HaveWaiters g (changed_at t f w.tasks) w.insts w.streams w.futures
task_waited g w t f leaves h e c copy there under sync =
    let k : HasWaiter w.tasks w.insts e copy = h e c copy there under sync in
    elim (changed_where t f w.tasks (task_by copy.by) k.task k.there) [
      | inl old ↦ record { task = k.task; func = k.func; words = k.words; index = k.index; there = old; runs = k.runs; waits = k.waits; stands = k.stands }
      | inr new ↦ (
          let same = leaves k.task (ap (λ (n : ℕ). slice_get w.tasks n) (sym new.0) ∙ k.there) copy.canon k.index k.words k.waits in
          record { task = f k.task; func = k.func; words = k.words; index = k.index; there = new.1; runs = ap func_of same.0 ∙ k.runs; waits = same.1 ∙ k.waits; stands = k.stands }
          )
    ]

pub same_waited : (g : Graph) (w : World) (t : ℕ) (f : Task → Task) → ((x : Task) → ((f x).callee ≡ x.callee) × ((f x).state ≡ x.state)) → AreWaited g w → HaveWaiters g (changed_at t f w.tasks) w.insts w.streams w.futures
same_waited g w t f same h = task_waited g w t f (λ x at number index words is. same x) h

-- one that waits for no copy
else_state : (state : TaskState) (number index : ℕ) (words : List ℕ) → WaitsElse state → state ≡ InBuiltin number words (ForCopy index) → ⊥
else_state state number index words otherwise is = subst WaitsElse is otherwise

waits_else : (w : World) (t : ℕ) (x : Task) → slice_get w.tasks t ≡ Some x → WaitsForNone t w → WaitsElse x.state
waits_else w t x at none = is_what (λ (o : Outline). WaitsElse o.state) t w (outline_of x) none (outline_there w.tasks t x at)

pub state_waited_by : (g : Graph) (w : World) (t : ℕ) (state : TaskState) → ((x : Task) → slice_get w.tasks t ≡ Some x → WaitsElse x.state) → AreWaited g w
    → HaveWaiters g (changed_at t (λ task. record task { state = state }) w.tasks) w.insts w.streams w.futures
state_waited_by g w t state otherwise h =
    task_waited g w t (λ task. record task { state = state }) (λ x at number index words is. absurd (else_state x.state number index words (otherwise x at) is)) h

pub state_waited : (g : Graph) (w : World) (t : ℕ) (state : TaskState) → WaitsForNone t w → AreWaited g w → HaveWaiters g (changed_at t (λ task. record task { state = state }) w.tasks) w.insts w.streams w.futures
state_waited g w t state none h = state_waited_by g w t state (λ x at. waits_else w t x at none) h

pub more_waited : (g : Graph) (tasks : List Task) (insts : List Inst) (streams futures : List Channel) (new : Task) → HaveWaiters g tasks insts streams futures → HaveWaiters g (tasks ++ new ∷ []) insts streams futures
more_waited g tasks insts streams futures new h e c copy there under sync =
    let k : HasWaiter tasks insts e copy = h e c copy there under sync in
    record { task = k.task; func = k.func; words = k.words; index = k.index; there = get_front tasks new (task_by copy.by) k.task k.there; runs = k.runs; waits = k.waits; stands = k.stands }

-- A call that does not wait, or whose offer does not stand.

pub offer_waited : (g : Graph) (d : EndRef) (call : OpenCopy) (w : World) → ((options_at g call.canon).is_async ≡ true) ⊎ ((end_of (offered d call w) d).copy ≡ None) → AreWaited g w → StayWaited g w (offered d call w)
offer_waited g d call w over h e c copy there under sync = elim (channel_either d.kind e.kind d.number e.number (λ x. record x { ends = offered_by d.kind d.side call x.ends }) w c there) [
  | inl new ↦ by_case new.2.0 new.0 new.1 new.2.1
      (offered_copies d.kind d.side call new.2.0.ends e.side copy (ap (λ (x : Channel). (end_at e.side x.ends.view).copy) (sym new.2.2) ∙ under))
  | inr old ↦ h e c copy old under sync
]
  where
    not_own : e ≡ d → copy ≡ call → ((options_at g call.canon).is_async ≡ true) ⊎ ((end_of (offered d call w) d).copy ≡ None) → ⊥
    not_own at same (inl async) = (let clash : true ≡ false = sym async ∙ subst (λ (x : OpenCopy). (options_at g x.canon).is_async ≡ false) same sync in cc)
    not_own at same (inr none) =
        let found : (end_of (offered d call w) e).copy ≡ Some copy = ap (λ (x : End). x.copy) (end_there (offered d call w) e c there) ∙ under in
        let clash : None ≡ Some copy = sym none ∙ (ap (λ (x : EndRef). (end_of (offered d call w) x).copy) (sym at) ∙ found) in cc

    by_case : (x : Channel) → e.kind ≡ d.kind → e.number ≡ d.number → channel_in e.kind e.number w.streams w.futures ≡ Some x → OfCall d.side call x.ends e.side copy → HasWaiter w.tasks w.insts e copy
    by_case x kind number found (inl own) = absurd (not_own (same_end e d kind number own.0) own.1 over)
    by_case x kind number found (inr b) = waiter_as w.tasks w.insts e copy b.0 b.2 b.3 (h e x b.0 found b.1 (sync_as g copy b.0 b.3 sync))

-- One whose offer stands, and whose task blocks for it.

-- the task of the call
pub stands_waited : (g : Graph) (t i index : ℕ) (d : EndRef) (call : OpenCopy) (words : List ℕ) (w : World) → Is (IsActing true) t w → task_by call.by ≡ t → owner_of_canon g call.canon ≡ Some i
    → entry_at w i index ≡ Some (OfEnd d) → CallsItsOwn g call.canon t w → AreWaited g w
    → HaveWaiters g (changed_at t (λ task. record task { state = InBuiltin call.canon words (ForCopy index) }) w.tasks) w.insts (offered d call w).streams (offered d call w).futures
stands_waited g t i index d call words w acts of_task own here calls h e c copy there under sync =
    elim (channel_either d.kind e.kind d.number e.number (λ x. record x { ends = offered_by d.kind d.side call x.ends }) w c there) [
      | inl new ↦ by_case new.2.0 new.0 new.1 new.2.1
          (offered_copies d.kind d.side call new.2.0.ends e.side copy (ap (λ (x : Channel). (end_at e.side x.ends.view).copy) (sym new.2.2) ∙ under))
      | inr old ↦ still e c copy old under sync
    ]
  where
    blocks : Task → Task
    blocks task = record task { state = InBuiltin call.canon words (ForCopy index) }

    none : WaitsForNone t w
    none = (acts.0, (acts.1.0, acts.1.1, subst WaitsElse (sym acts.1.2.1) tt))

    still : HaveWaiters g (changed_at t blocks w.tasks) w.insts w.streams w.futures
    still = state_waited g w t (InBuiltin call.canon words (ForCopy index)) none h

    func_is : (x : Task) (o : Option Lifted) → func_of x.callee ≡ o → IsSome o → CallsOwn g o call.canon → (f : Lifted) × (func_of x.callee ≡ Some f) × (owner_of_canon g call.canon ≡ Some f.instance)
    func_is x None e some k = cc
    func_is x (Some f) e some k = (f, e, k)

    mine_in : (x : Task) (f : Lifted) → slice_get w.tasks t ≡ Some x → func_of x.callee ≡ Some f → i ≡ f.instance → e ≡ d → copy ≡ call → HasWaiter (changed_at t blocks w.tasks) w.insts e copy
    mine_in x f found runs inst at same =
        waiter_as (changed_at t blocks w.tasks) w.insts e copy call (ap (λ (y : OpenCopy). y.by) same) (ap (λ (y : OpenCopy). y.canon) same) (record {
          task = blocks x;
          func = f;
          words = words;
          index = index;
          there = ap (λ (n : ℕ). slice_get (changed_at t blocks w.tasks) n) of_task ∙ changed_there t blocks w.tasks x found;
          runs = runs;
          waits = refl;
          stands = subst (λ (n : ℕ). EndStandsAt w.insts n index e) inst (here ∙ ap (λ (r : EndRef). Some (OfEnd r)) (sym at));
        })

    mine : e ≡ d → copy ≡ call → HasWaiter (changed_at t blocks w.tasks) w.insts e copy
    mine at same =
        let x = outline_back w.tasks t acts.1.0 acts.1.1 in
        let runs : IsActing true (outline_of x.0) = subst (IsActing true) (sym x.2) acts.1.2 in
        let k : CallsOwn g (func_of x.0.callee) call.canon = is_what (λ (o : Outline). CallsOwn g (func_of o.callee) call.canon) t w (outline_of x.0) calls (outline_there w.tasks t x.0 x.1) in
        let f = func_is x.0 (func_of x.0.callee) refl runs.0 k in
        mine_in x.0 f.0 x.1 f.1 (some_same {x = i} {y = f.0.instance} (sym own ∙ f.2)) at same

    by_case : (x : Channel) → e.kind ≡ d.kind → e.number ≡ d.number → channel_in e.kind e.number w.streams w.futures ≡ Some x → OfCall d.side call x.ends e.side copy
        → HasWaiter (changed_at t blocks w.tasks) w.insts e copy
    by_case x kind number found (inl own_side) = mine (same_end e d kind number own_side.0) own_side.1
    by_case x kind number found (inr b) = waiter_as (changed_at t blocks w.tasks) w.insts e copy b.0 b.2 b.3 (still e x b.0 found b.1 (sync_as g copy b.0 b.3 sync))

-- A copy is told where its task acts again: there is none at its end.

concluded_none : (kind : EndKind) (side : Side) (ends : Ends) → (end_at side (concluded_by kind side ends).view).copy ≡ None
concluded_none Stream Reader ends = refl
concluded_none Stream Writer ends = refl
concluded_none Future Reader ends = refl
concluded_none Future Writer ends = refl

same_index : (number other index place : ℕ) (words given : List ℕ) → InBuiltin number words (ForCopy index) ≡ InBuiltin other given (ForCopy place) → index ≡ place
same_index number other index place words given e = cc

same_entry : (a b : EndRef) → OfEnd a ≡ OfEnd b → a ≡ b
same_entry a b e = ap end_in e
  where
    end_in : Entry → EndRef
    end_in (OfEnd x) = x
    end_in entry = a

left_none : (d : EndRef) (c x : Channel) (copy : OpenCopy) → c ≡ record x { ends = concluded_by d.kind d.side x.ends } → (end_at d.side c.ends.view).copy ≡ Some copy → ⊥
left_none d c x copy is under =
    let gone : (end_at d.side c.ends.view).copy ≡ None = ap (λ (y : Channel). (end_at d.side y.ends.view).copy) is ∙ concluded_none d.kind d.side x.ends in
    let clash : None ≡ Some copy = sym gone ∙ under in cc

told_none : (d : EndRef) (w : World) (c : Channel) (copy : OpenCopy) → channel_in d.kind d.number (concluded d w).streams (concluded d w).futures ≡ Some c → (end_at d.side c.ends.view).copy ≡ Some copy → ⊥
told_none d w c copy there under =
    let edit : Channel → Channel = λ x. record x { ends = concluded_by d.kind d.side x.ends } in
    elim (channel_either d.kind d.kind d.number d.number edit w c there) [
      | inl new ↦ left_none d c new.2.0 copy new.2.2 under
      | inr old ↦ left_none d c c copy (some_same (sym there ∙ channel_now d.kind d.number edit w c old)) under
    ]

pub wakes_waited : (g : Graph) (t number index : ℕ) (words : List ℕ) (f : Lifted) (d : EndRef) (w : World) → Is (IsIn (InBuiltin number words (ForCopy index))) t w → Is (λ o. func_of o.callee ≡ Some f) t w
    → entry_at w f.instance index ≡ Some (OfEnd d) → AreWaited g w → HaveWaiters g (in_state t Acting w).tasks w.insts (concluded d w).streams (concluded d w).futures
wakes_waited g t number index words f d w a mine here h e c copy there under sync =
    let k : HasWaiter w.tasks w.insts e copy = edit_waited g d.kind d.number (λ x. record x { ends = concluded_by d.kind d.side x.ends }) w (λ x. conclude_come d.kind d.side x.ends) h e c copy there under sync in
    elim (changed_where t (λ task. record task { state = Acting }) w.tasks (task_by copy.by) k.task k.there) [
      | inl old ↦ record { task = k.task; func = k.func; words = k.words; index = k.index; there = old; runs = k.runs; waits = k.waits; stands = k.stands }
      | inr new ↦ absurd (told k new.0)
    ]
  where
    -- the end at which the task waited
    told : (k : HasWaiter w.tasks w.insts e copy) → task_by copy.by ≡ t → ⊥
    told k is =
        let x = in_this_state w t (InBuiltin number words (ForCopy index)) a in
        let same : k.task ≡ x.0 = some_same (sym k.there ∙ (ap (λ (n : ℕ). slice_get w.tasks n) is ∙ x.1)) in
        let place : k.index ≡ index = same_index copy.canon number k.index index k.words words (sym k.waits ∙ (ap (λ (y : Task). y.state) same ∙ x.2)) in
        let runs : func_of x.0.callee ≡ Some f = is_what (λ (o : Outline). func_of o.callee ≡ Some f) t w (outline_of x.0) mine (outline_there w.tasks t x.0 x.1) in
        let func : k.func ≡ f = some_same (sym k.runs ∙ (ap (λ (y : Task). func_of y.callee) same ∙ runs)) in
        let stands : EndStandsAt w.insts f.instance index e =
        subst (λ (n : ℕ). EndStandsAt w.insts f.instance n e) place (subst (λ (l : Lifted). EndStandsAt w.insts l.instance k.index e) func k.stands) in
        let at : e ≡ d = same_entry e d (some_same (sym stands ∙ here)) in
        told_none d w c copy (subst (λ (r : EndRef). channel_in r.kind r.number (concluded d w).streams (concluded d w).futures ≡ Some c) at there) (subst (λ (r : EndRef). (end_at r.side c.ends.view).copy ≡ Some copy) at under)
