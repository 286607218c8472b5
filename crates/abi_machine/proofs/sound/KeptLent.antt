-- A handle that is lent stays so, and stays at its index, until it is given back.
use Rattle.std.proofs.Common.{◌≡◌, ◌≢◌, ◌⊎◌, inl, inr, ℕ, Bool, true, false, List, [], ◌∷◌, ◌++◌, length, refl, sym, ap, ◌∙◌, subst, Option, Some, None, if◌then◌else◌}
use Rattle.std.specs.List.{slice_get}
use Rattle.wasm_store.proofs.Lists.{all_at}
use Rattle.builtin_kinds.specs.declared.EndKind.{EndKind}
use Rattle.builtin_kinds.specs.declared.EndKind.TheVariants.{Stream, Future}
use Rattle.syntax_trees.specs.declared.types.ValType.{ValType}
use Rattle.handle_table.specs.History.{Event, IsHistory, live}
use Rattle.tasks.specs.declared.phase.Resolution.TheVariants.{Cancelled}
use Rattle.tasks.specs.declared.subtask_state.SubtaskState.{SubtaskState}
use Rattle.tasks.specs.Subtasks.{is_over, delivered, with_lend}
use Rattle.comp_graph.specs.declared.graph.CanonFunc.{CanonFunc}
use Rattle.comp_graph.specs.Graph.{Graph}
use Rattle.script_reader.specs.Script.{Script}
use Rattle.abi_machine.specs.World.{Entry, OwnHandle, BorrowHandle, OfSubtask, OfSet, OfEnd, Inst, Subtask, Caller, Nobody, Host, Guest, New, AfterCall, Task, Channel, World, new_inst, new_task}
use Rattle.abi_machine.specs.Edits.{changed_at, with_channel, channel_made, caller_changed, by_view}
use Rattle.abi_machine.specs.Canons.{inst_of_canon, canon_at}
use Rattle.abi_machine.specs.Reading.{table_in, task_at, runs_in, subtask_of}
use Rattle.abi_machine.specs.Counting.{passes, lends_for, lends_of, subtask_state}
use Rattle.abi_machine.specs.sound.Changes.{Change, GoesTo, HasStore, SpendsUnit, UsesPicks, TakesItem, BeginsInstance, AddsEntry, MakesSet, RemovesEntry, RemovesWaitable, LeavesSet, JoinsSet, HasBackpressure, IsCalled, Calls, ComesBack, Acts, Begins, Cancels, Blocks, Exits, IsRemoved, Resolves, IsCancelled, HasWord, HasNewStack, HasStack, LosesStack, IsAnswered, IsTold, IsLent, HasResult, MakesChannel, Offers, Transfers, Concludes, DropsEnd, after}
use Rattle.abi_machine.specs.sound.Premises.{IsHandle, IsFree, Comes}
use Rattle.abi_machine.specs.sound.Tables.{HaveHistories}
use Rattle.abi_machine.specs.sound.Told.{IsToldAt, AreTold}
use Rattle.abi_machine.specs.sound.Told as telling
use Rattle.abi_machine.specs.sound.Subtasks.{CallIs}
use Rattle.abi_machine.specs.sound.Cancels.{IsOver}
use Rattle.abi_machine.specs.sound.Loans.{HoldsHandle, table_of_canon, AreLoans, LoansOf, HoldLoans}
use Rattle.abi_machine.specs.sound.PassedTypes.{PassesNoBorrow, HoldsNoBorrow}
use Rattle.abi_machine.specs.sound.LentHandles.{Lends, HandlesStayLent}
use Rattle.abi_machine.proofs.sound.Lists.{get_front}
use Rattle.abi_machine.proofs.sound.Found.{some_same}
use Rattle.abi_machine.proofs.sound.Acted.{changed_where, one_task}
use Rattle.abi_machine.proofs.sound.Histories.{histories_kept}
use Rattle.abi_machine.proofs.sound.Joined.{live_added, live_removed}
use Rattle.abi_machine.proofs.sound.Holding.{live_changed}
use Rattle.abi_machine.proofs.sound.Unborrowed.{holds_kept}
use Rattle.abi_machine.proofs.sound.Telling.{told_kept}
use Rattle.abi_machine.proofs.sound.Alone.{comes_may, kept_so}
use Rattle.abi_machine.proofs.sound.OwnCalling.{by_own_stay}
use Rattle.abi_machine.proofs.sound.Lent.{CallsByOwn, CallByOwn, call_own, own_before, none_of_sum, unlent_apart, waitable_is_no_handle, loans_kept}

-- A call whose caller's side is changed, or left alone.
abbrev pub KeepsCall : (Subtask → Type 0) → (Task → Task) → Type 0
KeepsCall P f = (x : Task) (subtask : Subtask) → subtask_of x.caller ≡ Some subtask → P subtask → (later : Subtask) × (subtask_of (f x).caller ≡ Some later) × P later

pub call_changed : (tasks : List Task) (u t : ℕ) (f : Task → Task) (P : Subtask → Type 0) → KeepsCall P f → CallIs tasks t P → CallIs (changed_at u f tasks) t P
call_changed tasks u t f P keeps h = elim (changed_where u f tasks t h.0 h.1) [
  | inl old ↦ (h.0, old, h.2)
  | inr new ↦ (f h.0, new.1, keeps h.0 h.2.0 h.2.1 h.2.2)
]

pub call_more : (tasks : List Task) (new : Task) (t : ℕ) (P : Subtask → Type 0) → CallIs tasks t P → CallIs (tasks ++ new ∷ []) t P
call_more tasks new t P h = (h.0, get_front tasks new t h.0 h.1, h.2)

pub same_caller : (P : Subtask → Type 0) (f : Task → Task) → ((x : Task) → (f x).caller ≡ x.caller) → KeepsCall P f
same_caller P f same x subtask e p = (subtask, ap subtask_of (same x) ∙ e, p)

pub side_changed : (P : Subtask → Type 0) (edit : Subtask → Subtask) → ((y : Subtask) → P y → P (edit y)) → KeepsCall P (λ task. record task { caller = caller_changed edit task.caller })
side_changed P edit keeps x subtask e p = by x.caller e
  where
    by : (c : Caller) → subtask_of c ≡ Some subtask → (later : Subtask) × (subtask_of (caller_changed edit c) ≡ Some later) × P later
    by Nobody k = cc
    by (Host call values) k = cc
    by (Guest y) k = (edit y, refl, keeps y (subst P (sym (some_same k)) p))

-- A caller that was told that the task has resolved is told nothing else.
over_at : (subtask : Subtask) (c : Caller) (state : SubtaskState) → subtask_of c ≡ Some subtask → IsToldAt c state → is_over subtask.told ≡ true → is_over state ≡ true
over_at subtask Nobody state e h over = cc
over_at subtask (Host call values) state e h over = cc
over_at subtask (Guest other) state e h over =
    let same : other ≡ subtask = some_same e in
    let before : is_over other.told ≡ true = subst (λ (x : Subtask). is_over x.told ≡ true) (sym same) over in
    subst (λ (x : SubtaskState). is_over x ≡ true) (h.once before) before

module _ (g : Graph) (t number place index : ℕ) (c : CanonFunc) (x : Entry) (is : canon_at g number ≡ Some c) where
  -- The handle was given back, or is lent still and stands at its index.
  abbrev IsLentIn : List Task → List Inst → Type 0
  IsLentIn tasks insts = CallIs tasks t (Lends number place index) × (live (table_of_canon insts c) index ≡ Some x)

  abbrev StaysIn : List Task → List Inst → Type 0
  StaysIn tasks insts = CallIs tasks t IsOver ⊎ IsLentIn tasks insts

  tasks_stay : (tasks others : List Task) (insts : List Inst) → ((P : Subtask → Type 0) → CallIs tasks t P → CallIs others t P) → StaysIn tasks insts → StaysIn others insts
  tasks_stay tasks others insts keeps (inl over) = inl (keeps IsOver over)
  tasks_stay tasks others insts keeps (inr lent) = inr (keeps (Lends number place index) lent.0, lent.1)

  same_stays : (tasks : List Task) (insts : List Inst) (u : ℕ) (f : Task → Task) → ((y : Task) → (f y).caller ≡ y.caller) → StaysIn tasks insts → StaysIn (changed_at u f tasks) insts
  same_stays tasks insts u f same h = tasks_stay tasks (changed_at u f tasks) insts (λ P k. call_changed tasks u t f P (same_caller P f same) k) h

  more_stays : (tasks : List Task) (insts : List Inst) (new : Task) → StaysIn tasks insts → StaysIn (tasks ++ new ∷ []) insts
  more_stays tasks insts new h = tasks_stay tasks (tasks ++ new ∷ []) insts (λ P k. call_more tasks new t P k) h

  edit_stays : (tasks : List Task) (insts : List Inst) (u : ℕ) (edit : Subtask → Subtask) → ((y : Subtask) → IsOver y → IsOver (edit y)) → ((y : Subtask) → Lends number place index y → Lends number place index (edit y))
      → StaysIn tasks insts → StaysIn (changed_at u (λ task. record task { caller = caller_changed edit task.caller }) tasks) insts
  edit_stays tasks insts u edit over lends (inl h) = inl (call_changed tasks u t (λ task. record task { caller = caller_changed edit task.caller }) IsOver (side_changed IsOver edit over) h)
  edit_stays tasks insts u edit over lends (inr h) =
      inr (call_changed tasks u t (λ task. record task { caller = caller_changed edit task.caller }) (Lends number place index) (side_changed (Lends number place index) edit lends) h.0, h.1)

  -- The caller is told a state: it is given back, or stays lent.
  told_so : (u : ℕ) (state : SubtaskState) (tasks : List Task) (insts : List Inst) → ((task : Task) → slice_get tasks u ≡ Some task → IsToldAt task.caller state) → StaysIn tasks insts
      → StaysIn (changed_at u (λ task. record task { caller = caller_changed (by_view delivered u state) task.caller }) tasks) insts
  told_so u state tasks insts rises h = elim h [
    | inl over ↦ elim (changed_where u tell tasks t over.0 over.1) [
      | inl old ↦ inl (over.0, old, over.2)
      | inr new ↦ inl (tell over.0, new.1, now_over over.0.caller over.2.0 over.2.1 (over_at over.2.0 over.0.caller state over.2.1 (rises over.0 (ap (slice_get tasks) (sym new.0) ∙ over.1)) over.2.2))
    ]
    | inr lent ↦ elim (changed_where u tell tasks t lent.0.0 lent.0.1) [
      | inl old ↦ inr ((lent.0.0, old, lent.0.2), lent.1)
      | inr new ↦ by_state (is_over state) refl lent new.1
    ]
  ]
    where
      tell : Task → Task
      tell task = record task { caller = caller_changed (by_view delivered u state) task.caller }

      now_over : (a : Caller) (subtask : Subtask) → subtask_of a ≡ Some subtask → is_over state ≡ true
          → (later : Subtask) × (subtask_of (caller_changed (by_view delivered u state) a) ≡ Some later) × IsOver later
      now_over Nobody subtask e over = cc
      now_over (Host call values) subtask e over = cc
      now_over (Guest y) subtask e over = (by_view delivered u state y, refl, over)

      still_lent : (a : Caller) (subtask : Subtask) → subtask_of a ≡ Some subtask → is_over state ≡ false → Lends number place index subtask
          → (later : Subtask) × (subtask_of (caller_changed (by_view delivered u state) a) ≡ Some later) × Lends number place index later
      still_lent Nobody subtask e untold lends = cc
      still_lent (Host call values) subtask e untold lends = cc
      still_lent (Guest y) subtask e untold lends =
          let same : y ≡ subtask = some_same e in
          let mine : Lends number place index y = subst (Lends number place index) (sym same) lends in
          (by_view delivered u state y, refl, (mine.0, subst (λ (b : Bool). slice_get (if b then [] else y.lends) place ≡ Some index) (sym untold) mine.1))

      by_state : (b : Bool) → is_over state ≡ b → (lent : IsLentIn tasks insts) → slice_get (changed_at u tell tasks) t ≡ Some (tell lent.0.0) → StaysIn (changed_at u tell tasks) insts
      by_state true e lent at = inl (tell lent.0.0, at, now_over lent.0.0.caller lent.0.2.0 lent.0.2.1 e)
      by_state false e lent at = inr ((tell lent.0.0, at, still_lent lent.0.0.caller lent.0.2.0 lent.0.2.1 e lent.0.2.2), lent.1)

  -- Tables that are changed.
  table_stays : (tasks : List Task) (insts : List Inst) (j : ℕ) (f : Inst → Inst)
      → (IsLentIn tasks insts → (inst : Inst) → inst_of_canon c ≡ j → slice_get insts j ≡ Some inst → live inst.table index ≡ Some x → live (f inst).table index ≡ Some x) → StaysIn tasks insts
      → StaysIn tasks (changed_at j f insts)
  table_stays tasks insts j f keeps (inl over) = inl over
  table_stays tasks insts j f keeps (inr lent) = inr (lent.0, live_changed insts j f (inst_of_canon c) index x (λ inst at found k. keeps lent inst at found k) lent.1)

  alike_stays : (tasks : List Task) (insts : List Inst) (j : ℕ) (f : Inst → Inst) → ((y : Inst) → (f y).table ≡ y.table) → StaysIn tasks insts → StaysIn tasks (changed_at j f insts)
  alike_stays tasks insts j f same h = table_stays tasks insts j f (λ lent inst at found k. subst (λ (table : List (Event Entry)). live table index ≡ Some x) (sym (same inst)) k) h

  add_stays : (w : World) (j : ℕ) (entry : Entry) → HaveHistories w.insts → StaysIn w.tasks w.insts → StaysIn w.tasks (after (AddsEntry j entry) w).insts
  add_stays w j entry history h =
      table_stays w.tasks w.insts j _ (λ lent inst at found k. live_added inst.table entry x index (all_at (λ (y : Inst). IsHistory y.table) w.insts j inst history found) k) h

  begun_stays : (tasks : List Task) (insts : List Inst) → StaysIn tasks insts → StaysIn tasks (insts ++ new_inst ∷ [])
  begun_stays tasks insts (inl over) = inl over
  begun_stays tasks insts (inr lent) = inr (lent.0, by (slice_get insts (inst_of_canon c)) refl lent.1)
    where
      by : (o : Option Inst) → slice_get insts (inst_of_canon c) ≡ o → live (table_in o) index ≡ Some x → live (table_in (slice_get (insts ++ new_inst ∷ []) (inst_of_canon c))) index ≡ Some x
      by None e k = cc
      by (Some inst) e k = subst (λ (o : Option Inst). live (table_in o) index ≡ Some x) (sym (get_front insts new_inst (inst_of_canon c) inst e)) k

  -- What is lent is a handle, and does not leave its table.

  loans_at : (tasks : List Task) (insts : List Inst) → HoldLoans g tasks insts → (call : CallIs tasks t (Lends number place index)) → AreLoans g tasks insts call.2.0
  loans_at tasks insts loans call = by call.0.caller call.2.1 (all_at (λ (y : Task). LoansOf g tasks insts y.caller) tasks t call.0 loans call.1)
    where
      by : (a : Caller) → subtask_of a ≡ Some call.2.0 → LoansOf g tasks insts a → AreLoans g tasks insts call.2.0
      by Nobody e k = cc
      by (Host n values) e k = cc
      by (Guest y) e k = subst (λ (z : Subtask). AreLoans g tasks insts z) (some_same e) k

  is_handle : (tasks : List Task) (insts : List Inst) → HoldLoans g tasks insts → IsLentIn tasks insts → IsHandle x
  is_handle tasks insts loans lent =
      let held : HoldsHandle (table_of_canon insts c) index =
      all_at (HoldsHandle (table_of_canon insts c)) lent.0.2.0.lends place index ((loans_at tasks insts loans lent.0).stand c (ap (canon_at g) lent.0.2.2.0 ∙ is)) lent.0.2.2.1 in
      subst IsHandle (some_same (sym held.1 ∙ lent.1)) held.2

  unlent_stays : (w : World) (j gone : ℕ) → CallByOwn g w.tasks → HoldLoans g w.tasks w.insts → lends_of w j gone ≡ 0 → IsLentIn w.tasks w.insts → inst_of_canon c ≡ j → gone ≢ index
  unlent_stays w j gone own loans none lent at =
      all_at (λ (handle : ℕ). gone ≢ handle) lent.0.2.0.lends place index
      (unlent_apart g w j gone lent.0.0 lent.0.2.0 c lent.0.2.1 (ap (canon_at g) lent.0.2.2.0 ∙ is) (all_at (CallsByOwn g w.tasks) w.tasks t lent.0.0 own lent.0.1) (loans_at w.tasks w.insts loans lent.0).caller
      (all_at (λ (y : Task). lends_for (λ n. passes (runs_in j) (task_at w n)) gone (subtask_of y.caller) ≡ 0) w.tasks t lent.0.0 (none_of_sum _ w.tasks 0 none).1 lent.0.1) at) lent.0.2.2.1

  -- another entry than the one that leaves
  other_stays : (w : World) (j gone : ℕ) (entry : Entry) → live (table_in (slice_get w.insts j)) gone ≡ Some entry → (IsHandle entry → ⊥) → HoldLoans g w.tasks w.insts → StaysIn w.tasks w.insts
      → StaysIn w.tasks (after (RemovesEntry j gone) w).insts
  other_stays w j gone entry there other loans h =
      table_stays w.tasks w.insts j _
      (λ lent inst at found k.
      live_removed inst.table gone index x
      (λ same.
      let both : entry ≡ x = some_same (sym (subst (λ (o : Option Inst). live (table_in o) gone ≡ Some entry) found there) ∙ (ap (live inst.table) same ∙ k)) in
      other (subst IsHandle (sym both) (is_handle w.tasks w.insts loans lent))) k) h

  free_stays : (w : World) (j gone : ℕ) (entry : Entry) → live (table_in (slice_get w.insts j)) gone ≡ Some entry → IsFree w j gone entry → CallByOwn g w.tasks → HoldLoans g w.tasks w.insts
      → StaysIn w.tasks w.insts → StaysIn w.tasks (after (RemovesEntry j gone) w).insts
  free_stays w j gone (OwnHandle resource rep) there free own loans h =
      table_stays w.tasks w.insts j _ (λ lent inst at found k. live_removed inst.table gone index x (unlent_stays w j gone own loans free.1 lent at) k) h
  free_stays w j gone (BorrowHandle resource rep task) there free own loans h =
      table_stays w.tasks w.insts j _ (λ lent inst at found k. live_removed inst.table gone index x (unlent_stays w j gone own loans free.1 lent at) k) h
  free_stays w j gone (OfSubtask callee) there free own loans h = absurd free.0
  free_stays w j gone (OfEnd e) there free own loans h = absurd free.0
  free_stays w j gone (OfSet set) there free own loans h = other_stays w j gone (OfSet set) there (λ k. k) loans h

  abbrev Stays : World → Type 0
  Stays w = StaysIn w.tasks w.insts

  beside : (kind : EndKind) (n : ℕ) (f : Channel → Channel) (w : World) → Stays w → Stays (with_channel kind n f w)
  beside Stream n f w h = h
  beside Future n f w h = h

  beside_made : (kind : EndKind) (element : Option ValType) (w : World) → Stays w → Stays (channel_made kind element w)
  beside_made Stream element w h = h
  beside_made Future element w h = h

  stays_kept : (s : Script) (a : Change) (w : World) → Comes g s a w → HaveHistories w.insts → AreTold w.tasks → CallByOwn g w.tasks → HoldLoans g w.tasks w.insts → Stays w → Stays (after a w)
  stays_kept s BeginsInstance w may history told own loans h = begun_stays w.tasks w.insts h
  stays_kept s (AddsEntry j entry) w may history told own loans h = add_stays w j entry history h
  stays_kept s (MakesSet j set) w may history told own loans h = alike_stays w.tasks (after (AddsEntry j (OfSet set)) w).insts j _ (λ y. refl) (add_stays w j (OfSet set) history h)
  stays_kept s (RemovesEntry j gone) w may history told own loans h = free_stays w j gone may.0 may.1 may.2 own loans h
  stays_kept s (RemovesWaitable j gone) w may history told own loans h =
      alike_stays w.tasks (after (RemovesEntry j gone) w).insts j _ (λ y. refl) (other_stays w j gone may.0 may.1 (λ k. waitable_is_no_handle may.0 may.2.0 k) loans h)
  stays_kept s (LeavesSet j n) w may history told own loans h = alike_stays w.tasks w.insts j _ (λ y. refl) h
  stays_kept s (JoinsSet j n set) w may history told own loans h = alike_stays w.tasks w.insts j _ (λ y. refl) h
  stays_kept s (HasBackpressure j pressure) w may history told own loans h = alike_stays w.tasks w.insts j _ (λ y. refl) h
  stays_kept s (IsCalled callee call values) w may history told own loans h = more_stays w.tasks w.insts (new_task callee (Host call values) New) h
  stays_kept s (Calls n callee subtask words) w may history told own loans h =
      more_stays _ w.insts (new_task callee (Guest subtask) New) (same_stays w.tasks w.insts subtask.by (λ task. record task { state = AfterCall (length w.tasks) n words }) (λ y. refl) h)
  stays_kept s (Acts u) w may history told own loans h = same_stays w.tasks w.insts u _ (λ y. refl) h
  stays_kept s (Begins n) w may history told own loans h = same_stays w.tasks w.insts 0 _ (λ y. refl) h
  stays_kept s (Cancels u callee n words) w may history told own loans h = same_stays w.tasks w.insts u _ (λ y. refl) h
  stays_kept s (Blocks u state) w may history told own loans h = same_stays w.tasks w.insts u _ (λ y. refl) h
  stays_kept s (Exits u) w may history told own loans h = same_stays w.tasks w.insts u _ (λ y. refl) h
  stays_kept s (IsRemoved u) w may history told own loans h = same_stays _ w.insts u _ (λ y. refl) (same_stays w.tasks w.insts u (λ task. record task { resolution = Some Cancelled }) (λ y. refl) h)
  stays_kept s (Resolves u resolution) w may history told own loans h = same_stays w.tasks w.insts u _ (λ y. refl) h
  stays_kept s (IsCancelled u cancellation) w may history told own loans h = same_stays w.tasks w.insts u _ (λ y. refl) h
  stays_kept s (HasWord u slot word) w may history told own loans h = same_stays w.tasks w.insts u _ (λ y. refl) h
  stays_kept s (HasNewStack u k) w may history told own loans h = same_stays w.tasks w.insts u _ (λ y. refl) h
  stays_kept s (HasStack u k) w may history told own loans h = same_stays w.tasks w.insts u _ (λ y. refl) h
  stays_kept s (LosesStack u) w may history told own loans h = same_stays w.tasks w.insts u _ (λ y. refl) h
  stays_kept s (IsAnswered u words) w may history told own loans h = same_stays w.tasks w.insts u _ (λ y. refl) h
  stays_kept s (IsTold u state) w may history told own loans h =
      told_so u state w.tasks w.insts
      (λ task there.
      subst (IsToldAt task.caller) (sym (one_task w.tasks u (λ y. state ≡ subtask_state y) task there may)) (all_at telling.IsTold w.tasks u task told there).caller) h
  stays_kept s (IsLent u handle) w may history told own loans h =
      edit_stays w.tasks w.insts u (λ subtask. by_view (with_lend handle) u subtask.told subtask) (λ y k. k) (λ y k. (k.0, get_front y.lends handle place index k.1)) h
  stays_kept s (HasResult u words) w may history told own loans h = edit_stays w.tasks w.insts u (λ subtask. record subtask { result = words }) (λ y k. k) (λ y k. k) h
  stays_kept s (MakesChannel kind element) w may history told own loans h = beside_made kind element w h
  stays_kept s (Offers e call) w may history told own loans h = beside e.kind e.number _ w h
  stays_kept s (Transfers e size values) w may history told own loans h = beside e.kind e.number _ _ (beside e.kind e.number _ w h)
  stays_kept s (Concludes e) w may history told own loans h = beside e.kind e.number _ w h
  stays_kept s (DropsEnd e) w may history told own loans h = beside e.kind e.number _ w h
  stays_kept s (GoesTo control) w may history told own loans h = h
  stays_kept s (HasStore store) w may history told own loans h = h
  stays_kept s SpendsUnit w may history told own loans h = h
  stays_kept s (UsesPicks picks) w may history told own loans h = h
  stays_kept s TakesItem w may history told own loans h = h
  stays_kept s (ComesBack u) w may history told own loans h = h

  abbrev Kept : World → Type 0
  Kept w = HaveHistories w.insts × HoldsNoBorrow w × AreTold w.tasks × (CallByOwn g w.tasks → HoldLoans g w.tasks w.insts × Stays w)

  keeps_lent : (s : Script) (none : PassesNoBorrow g) (a : Change) (w : World) → Comes g s a w → Kept w → Kept (after a w)
  keeps_lent s none a w may k = (
    histories_kept g s a w (comes_may g s a w may) k.0,
    holds_kept g s none a w may k.1,
    told_kept g s a w may k.2,
    λ own.
        let before : CallByOwn g w.tasks = own_before g a w own in
        let had = k.3 before in (
          loans_kept g s a w may (record { history = k.0; none = none; holds = k.1; own = before }) had.0,
          stays_kept s a w may k.0 k.2 before had.0 had.1,
        ),
  )

pub handles_stay_lent : HandlesStayLent
handles_stay_lent g s w v labels apart none alone o history told holds own says called loans e t number place index c x is lent there =
    ((kept_so g s (Kept g t number place index c x is) (keeps_lent g t number place index c x is s none) w v labels alone (history, holds, told, λ l. (loans, inr (lent, there))) e).3
    (call_own g v.tasks (by_own_stay g s w v labels apart alone o own says called e))).1
