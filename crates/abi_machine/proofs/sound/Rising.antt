-- What callers were told rises, and a subtask stays in its table until its caller was told that it has resolved.
use Rattle.std.proofs.Common.{◌≡◌, ◌≤◌, ◌⊎◌, inl, inr, ℕ, true, List, [], ◌∷◌, ◌++◌, length, refl, sym, ap, ◌∙◌, subst, arith, Option, Some, None}
use Rattle.std.specs.List.{slice_get}
use Rattle.wasm_store.proofs.Lists.{all_at}
use Rattle.builtin_kinds.specs.declared.EndKind.{EndKind}
use Rattle.builtin_kinds.specs.declared.EndKind.TheVariants.{Stream, Future}
use Rattle.syntax_trees.specs.declared.types.ValType.{ValType}
use Rattle.handle_table.specs.History.{Event, IsHistory, live}
use Rattle.tasks.specs.declared.phase.Resolution.TheVariants.{Cancelled}
use Rattle.tasks.specs.declared.subtask_state.SubtaskState.{SubtaskState}
use Rattle.tasks.specs.Subtasks.{code_of, is_over, delivered, with_lend}
use Rattle.comp_graph.specs.Graph.{Graph}
use Rattle.script_reader.specs.Script.{Script}
use Rattle.abi_machine.specs.World.{Entry, OwnHandle, BorrowHandle, OfSubtask, OfSet, OfEnd, Inst, Subtask, Caller, Nobody, Host, Guest, New, AfterCall, Task, Channel, World, new_inst, new_task}
use Rattle.abi_machine.specs.Edits.{changed_at, with_channel, channel_made, caller_changed, by_view}
use Rattle.abi_machine.specs.Reading.{table_in, subtask_of}
use Rattle.abi_machine.specs.Counting.{subtask_state}
use Rattle.abi_machine.specs.sound.Changes.{Change, GoesTo, HasStore, SpendsUnit, UsesPicks, TakesItem, BeginsInstance, AddsEntry, MakesSet, RemovesEntry, RemovesWaitable, LeavesSet, JoinsSet, HasBackpressure, IsCalled, Calls, ComesBack, Acts, Begins, Cancels, Blocks, Exits, IsRemoved, Resolves, IsCancelled, HasWord, HasNewStack, HasStack, LosesStack, IsAnswered, IsTold, IsLent, HasResult, MakesChannel, Offers, Transfers, Concludes, DropsEnd, after, IsLeft}
use Rattle.abi_machine.specs.sound.Premises.{WasDropped, Comes}
use Rattle.abi_machine.specs.sound.Tables.{HaveHistories}
use Rattle.abi_machine.specs.sound.Told.{IsToldOf, IsToldAt, AreTold}
use Rattle.abi_machine.specs.sound.Told as telling
use Rattle.abi_machine.specs.sound.Subtasks.{StandsAt, CallIs}
use Rattle.abi_machine.specs.sound.Cancels.{IsOver}
use Rattle.abi_machine.specs.sound.Rising.{IsToldBehind, StatesRise, SubtasksStayUntold}
use Rattle.abi_machine.proofs.sound.Lists.{get_front}
use Rattle.abi_machine.proofs.sound.Found.{some_same}
use Rattle.abi_machine.proofs.sound.Chained.{same_or_not}
use Rattle.abi_machine.proofs.sound.Acted.{changed_where, one_task}
use Rattle.abi_machine.proofs.sound.Histories.{histories_kept}
use Rattle.abi_machine.proofs.sound.Joined.{live_added, live_removed}
use Rattle.abi_machine.proofs.sound.Holding.{live_changed}
use Rattle.abi_machine.proofs.sound.Telling.{told_kept}
use Rattle.abi_machine.proofs.sound.Alone.{comes_may, kept_so}
use Rattle.abi_machine.proofs.sound.KeptLent.{call_changed, call_more, same_caller, side_changed}

-- What every change keeps of the caller's side of a call, where its caller is told no less than before.
module _ (t : ℕ) (P : Subtask → Type 0) (tells : (y : Subtask) (u : ℕ) (state : SubtaskState) → IsToldOf y state → P y → P (by_view delivered u state y)) (lends : (y : Subtask) (u handle : ℕ) → P y → P (by_view (with_lend handle) u y.told y))
    (results : (y : Subtask) (words : List ℕ) → P y → P (record y { result = words })) where
  abbrev Has : World → Type 0
  Has w = CallIs w.tasks t P

  same_has : (tasks : List Task) (u : ℕ) (f : Task → Task) → ((x : Task) → (f x).caller ≡ x.caller) → CallIs tasks t P → CallIs (changed_at u f tasks) t P
  same_has tasks u f same h = call_changed tasks u t f P (same_caller P f same) h

  told_has : (u : ℕ) (state : SubtaskState) (tasks : List Task) → ((task : Task) → slice_get tasks u ≡ Some task → IsToldAt task.caller state) → CallIs tasks t P
      → CallIs (changed_at u (λ task. record task { caller = caller_changed (by_view delivered u state) task.caller }) tasks) t P
  told_has u state tasks rises h = elim (changed_where u tell tasks t h.0 h.1) [
    | inl old ↦ (h.0, old, h.2)
    | inr new ↦ (tell h.0, new.1, by h.0.caller h.2.0 h.2.1 (rises h.0 (ap (slice_get tasks) (sym new.0) ∙ h.1)) h.2.2)
  ]
    where
      tell : Task → Task
      tell task = record task { caller = caller_changed (by_view delivered u state) task.caller }

      by : (a : Caller) (subtask : Subtask) → subtask_of a ≡ Some subtask → IsToldAt a state → P subtask → (later : Subtask) × (subtask_of (caller_changed (by_view delivered u state) a) ≡ Some later) × P later
      by Nobody subtask e k p = cc
      by (Host call values) subtask e k p = cc
      by (Guest y) subtask e k p = (by_view delivered u state y, refl, tells y u state k (subst P (sym (some_same e)) p))

  beside : (kind : EndKind) (n : ℕ) (f : Channel → Channel) (w : World) → Has w → Has (with_channel kind n f w)
  beside Stream n f w h = h
  beside Future n f w h = h

  beside_made : (kind : EndKind) (element : Option ValType) (w : World) → Has w → Has (channel_made kind element w)
  beside_made Stream element w h = h
  beside_made Future element w h = h

  call_kept : (g : Graph) (s : Script) (a : Change) (w : World) → Comes g s a w → AreTold w.tasks → Has w → Has (after a w)
  call_kept g s (IsCalled callee call values) w may told h = call_more w.tasks (new_task callee (Host call values) New) t P h
  call_kept g s (Calls n callee subtask words) w may told h =
      call_more _ (new_task callee (Guest subtask) New) t P (same_has w.tasks subtask.by (λ task. record task { state = AfterCall (length w.tasks) n words }) (λ y. refl) h)
  call_kept g s (Acts u) w may told h = same_has w.tasks u _ (λ y. refl) h
  call_kept g s (Begins n) w may told h = same_has w.tasks 0 _ (λ y. refl) h
  call_kept g s (Cancels u callee n words) w may told h = same_has w.tasks u _ (λ y. refl) h
  call_kept g s (Blocks u state) w may told h = same_has w.tasks u _ (λ y. refl) h
  call_kept g s (Exits u) w may told h = same_has w.tasks u _ (λ y. refl) h
  call_kept g s (IsRemoved u) w may told h = same_has _ u _ (λ y. refl) (same_has w.tasks u (λ task. record task { resolution = Some Cancelled }) (λ y. refl) h)
  call_kept g s (Resolves u resolution) w may told h = same_has w.tasks u _ (λ y. refl) h
  call_kept g s (IsCancelled u cancellation) w may told h = same_has w.tasks u _ (λ y. refl) h
  call_kept g s (HasWord u slot word) w may told h = same_has w.tasks u _ (λ y. refl) h
  call_kept g s (HasNewStack u k) w may told h = same_has w.tasks u _ (λ y. refl) h
  call_kept g s (HasStack u k) w may told h = same_has w.tasks u _ (λ y. refl) h
  call_kept g s (LosesStack u) w may told h = same_has w.tasks u _ (λ y. refl) h
  call_kept g s (IsAnswered u words) w may told h = same_has w.tasks u _ (λ y. refl) h
  call_kept g s (IsTold u state) w may told h =
      told_has u state w.tasks
      (λ task there. subst (IsToldAt task.caller) (sym (one_task w.tasks u (λ y. state ≡ subtask_state y) task there may)) (all_at telling.IsTold w.tasks u task told there).caller) h
  call_kept g s (IsLent u handle) w may told h =
      call_changed w.tasks u t (λ task. record task { caller = caller_changed (λ subtask. by_view (with_lend handle) u subtask.told subtask) task.caller }) P
      (side_changed P (λ subtask. by_view (with_lend handle) u subtask.told subtask) (λ y p. lends y u handle p)) h
  call_kept g s (HasResult u words) w may told h =
      call_changed w.tasks u t (λ task. record task { caller = caller_changed (λ subtask. record subtask { result = words }) task.caller }) P (side_changed P (λ subtask. record subtask { result = words }) (λ y p. results y words p)) h
  call_kept g s (MakesChannel kind element) w may told h = beside_made kind element w h
  call_kept g s (Offers e call) w may told h = beside e.kind e.number _ w h
  call_kept g s (Transfers e size values) w may told h = beside e.kind e.number _ _ (beside e.kind e.number _ w h)
  call_kept g s (Concludes e) w may told h = beside e.kind e.number _ w h
  call_kept g s (DropsEnd e) w may told h = beside e.kind e.number _ w h
  call_kept g s (GoesTo control) w may told h = h
  call_kept g s (HasStore store) w may told h = h
  call_kept g s SpendsUnit w may told h = h
  call_kept g s (UsesPicks picks) w may told h = h
  call_kept g s TakesItem w may told h = h
  call_kept g s BeginsInstance w may told h = h
  call_kept g s (AddsEntry i entry) w may told h = h
  call_kept g s (MakesSet i set) w may told h = h
  call_kept g s (RemovesEntry i index) w may told h = h
  call_kept g s (RemovesWaitable i index) w may told h = h
  call_kept g s (LeavesSet i index) w may told h = h
  call_kept g s (JoinsSet i index set) w may told h = h
  call_kept g s (HasBackpressure i pressure) w may told h = h
  call_kept g s (ComesBack u) w may told h = h

-- Told behind a state.

behind_tells : (before : SubtaskState) (y : Subtask) (u : ℕ) (state : SubtaskState) → IsToldOf y state → IsToldBehind before y → IsToldBehind before (by_view delivered u state y)
behind_tells before y u state k p = record {
  rises = (let low : code_of before ≤ code_of y.told = p.rises in let high : code_of y.told ≤ code_of state = k.rises in omega (arith, low, high));
  stays = λ over. (let same : y.told ≡ before = p.stays over in sym (k.once (subst (λ (x : SubtaskState). is_over x ≡ true) (sym same) over)) ∙ same);
}

behind_as : (before : SubtaskState) (y z : Subtask) → z.told ≡ y.told → IsToldBehind before y → IsToldBehind before z
behind_as before y z same p = record { rises = subst (λ (x : SubtaskState). code_of before ≤ code_of x) (sym same) p.rises; stays = λ over. same ∙ p.stays over }

now_told : (state : SubtaskState) (y : Subtask) → y.told ≡ state → IsToldBehind state y
now_told state y same = record { rises = subst (λ (x : SubtaskState). code_of state ≤ code_of x) (sym same) (omega arith); stays = λ over. same }

pub states_rise : StatesRise
states_rise g s w v labels alone told e t state h =
    (kept_so g s (λ u. AreTold u.tasks × CallIs u.tasks t (IsToldBehind state))
    (λ a u may k. (
      told_kept g s a u may k.0,
      call_kept t (IsToldBehind state) (λ y n other is p. behind_tells state y n other is p) (λ y n handle p. behind_as state y _ refl p) (λ y words p. behind_as state y _ refl p) g s a u may k.0 k.1,
    )) w v labels alone (told, (h.0, h.1, (h.2.0, h.2.1, now_told state h.2.0 h.2.2))) e).1

-- Subtasks stay in their tables.

over_tells : (y : Subtask) (u : ℕ) (state : SubtaskState) → IsToldOf y state → IsOver y → IsOver (by_view delivered u state y)
over_tells y u state k over = subst (λ (x : SubtaskState). is_over x ≡ true) (k.once over) over

abbrev subtask_in : Entry → Option ℕ
subtask_in (OwnHandle resource rep) = None
subtask_in (BorrowHandle resource rep task) = None
subtask_in (OfSubtask other) = Some other
subtask_in (OfSet set) = None
subtask_in (OfEnd e) = None

module _ (i index callee : ℕ) where
  abbrev At : List Inst → Type 0
  At insts = StandsAt insts i index callee

  alike_at : (insts : List Inst) (j : ℕ) (f : Inst → Inst) → ((y : Inst) → (f y).table ≡ y.table) → At insts → At (changed_at j f insts)
  alike_at insts j f same h =
      live_changed insts j f i index (OfSubtask callee) (λ inst at found k. subst (λ (table : List (Event Entry)). live table index ≡ Some (OfSubtask callee)) (sym (same inst)) k) h

  added_at : (w : World) (j : ℕ) (entry : Entry) → HaveHistories w.insts → At w.insts → At (after (AddsEntry j entry) w).insts
  added_at w j entry history h =
      live_changed w.insts j _ i index (OfSubtask callee)
      (λ inst at found k. live_added inst.table entry (OfSubtask callee) index (all_at (λ (y : Inst). IsHistory y.table) w.insts j inst history found) k) h

  begun_at : (w : World) → At w.insts → At (w.insts ++ new_inst ∷ [])
  begun_at w h = by (slice_get w.insts i) refl h
    where
      by : (o : Option Inst) → slice_get w.insts i ≡ o → live (table_in o) index ≡ Some (OfSubtask callee) → At (w.insts ++ new_inst ∷ [])
      by None e k = cc
      by (Some inst) e k = subst (λ (o : Option Inst). live (table_in o) index ≡ Some (OfSubtask callee)) (sym (get_front w.insts new_inst i inst e)) k

  other_at : (w : World) (j gone : ℕ) (entry : Entry) → live (table_in (slice_get w.insts j)) gone ≡ Some entry → (subtask_in entry ≡ Some callee → ⊥) → At w.insts
      → At (after (RemovesEntry j gone) w).insts
  other_at w j gone entry there other h =
      live_changed w.insts j _ i index (OfSubtask callee)
      (λ inst same found k.
      live_removed inst.table gone index (OfSubtask callee)
      (λ here.
      let both : entry ≡ OfSubtask callee = some_same (sym (subst (λ (o : Option Inst). live (table_in o) gone ≡ Some entry) found there) ∙ (ap (live inst.table) here ∙ k)) in
      other (ap subtask_in both)) k) h

  left_at : (w : World) (j gone : ℕ) (entry : Entry) → live (table_in (slice_get w.insts j)) gone ≡ Some entry → IsLeft w j entry → At w.insts → At (after (RemovesEntry j gone) w).insts
  left_at w j gone (OwnHandle resource rep) there left h = other_at w j gone (OwnHandle resource rep) there (λ e. cc) h
  left_at w j gone (BorrowHandle resource rep task) there left h = other_at w j gone (BorrowHandle resource rep task) there (λ e. cc) h
  left_at w j gone (OfSubtask other) there left h = absurd left
  left_at w j gone (OfSet set) there left h = other_at w j gone (OfSet set) there (λ e. cc) h
  left_at w j gone (OfEnd e) there left h = absurd left

  abbrev StaysSo : World → List Inst → Type 0
  StaysSo w insts = CallIs w.tasks callee IsOver ⊎ At insts

  -- a subtask leaves where its caller was told that it has resolved
  dropped_at : (w : World) (j gone : ℕ) (entry : Entry) → live (table_in (slice_get w.insts j)) gone ≡ Some entry → WasDropped w.tasks entry → At w.insts → StaysSo w (after (RemovesEntry j gone) w).insts
  dropped_at w j gone (OwnHandle resource rep) there dropped h = inr (other_at w j gone (OwnHandle resource rep) there (λ e. cc) h)
  dropped_at w j gone (BorrowHandle resource rep task) there dropped h = inr (other_at w j gone (BorrowHandle resource rep task) there (λ e. cc) h)
  dropped_at w j gone (OfSubtask other) there dropped h = elim (same_or_not other callee) [
    | inl same ↦ inl (subst (λ (n : ℕ). CallIs w.tasks n IsOver) same dropped)
    | inr differs ↦ inr (other_at w j gone (OfSubtask other) there (λ e. differs (some_same e)) h)
  ]
  dropped_at w j gone (OfSet set) there dropped h = inr (other_at w j gone (OfSet set) there (λ e. cc) h)
  dropped_at w j gone (OfEnd e) there dropped h = inr (other_at w j gone (OfEnd e) there (λ e. cc) h)

  waited_at : (w : World) (j gone : ℕ) → StaysSo w (after (RemovesEntry j gone) w).insts → StaysSo w (after (RemovesWaitable j gone) w).insts
  waited_at w j gone (inl over) = inl over
  waited_at w j gone (inr h) = inr (alike_at (after (RemovesEntry j gone) w).insts j _ (λ y. refl) h)

  along : (kind : EndKind) (n : ℕ) (f : Channel → Channel) (w : World) → At w.insts → At (with_channel kind n f w).insts
  along Stream n f w h = h
  along Future n f w h = h

  made_at : (kind : EndKind) (element : Option ValType) (w : World) → At w.insts → At (channel_made kind element w).insts
  made_at Stream element w h = h
  made_at Future element w h = h

  tables_kept : (g : Graph) (s : Script) (a : Change) (w : World) → Comes g s a w → HaveHistories w.insts → At w.insts → StaysSo w (after a w).insts
  tables_kept g s BeginsInstance w may history h = inr (begun_at w h)
  tables_kept g s (AddsEntry j entry) w may history h = inr (added_at w j entry history h)
  tables_kept g s (MakesSet j set) w may history h = inr (alike_at (after (AddsEntry j (OfSet set)) w).insts j _ (λ y. refl) (added_at w j (OfSet set) history h))
  tables_kept g s (RemovesEntry j gone) w may history h = inr (left_at w j gone may.0 may.1 may.2.0 h)
  tables_kept g s (RemovesWaitable j gone) w may history h = waited_at w j gone (dropped_at w j gone may.0 may.1 may.2.2 h)
  tables_kept g s (LeavesSet j n) w may history h = inr (alike_at w.insts j _ (λ y. refl) h)
  tables_kept g s (JoinsSet j n set) w may history h = inr (alike_at w.insts j _ (λ y. refl) h)
  tables_kept g s (HasBackpressure j pressure) w may history h = inr (alike_at w.insts j _ (λ y. refl) h)
  tables_kept g s (IsCalled other call values) w may history h = inr h
  tables_kept g s (Calls n other subtask words) w may history h = inr h
  tables_kept g s (Acts u) w may history h = inr h
  tables_kept g s (Begins n) w may history h = inr h
  tables_kept g s (Cancels u other n words) w may history h = inr h
  tables_kept g s (Blocks u state) w may history h = inr h
  tables_kept g s (Exits u) w may history h = inr h
  tables_kept g s (IsRemoved u) w may history h = inr h
  tables_kept g s (Resolves u resolution) w may history h = inr h
  tables_kept g s (IsCancelled u cancellation) w may history h = inr h
  tables_kept g s (HasWord u slot word) w may history h = inr h
  tables_kept g s (HasNewStack u k) w may history h = inr h
  tables_kept g s (HasStack u k) w may history h = inr h
  tables_kept g s (LosesStack u) w may history h = inr h
  tables_kept g s (IsAnswered u words) w may history h = inr h
  tables_kept g s (IsTold u state) w may history h = inr h
  tables_kept g s (IsLent u handle) w may history h = inr h
  tables_kept g s (HasResult u words) w may history h = inr h
  tables_kept g s (MakesChannel kind element) w may history h = inr (made_at kind element w h)
  tables_kept g s (Offers e call) w may history h = inr (along e.kind e.number _ w h)
  tables_kept g s (Transfers e size values) w may history h = inr (along e.kind e.number _ _ (along e.kind e.number _ w h))
  tables_kept g s (Concludes e) w may history h = inr (along e.kind e.number _ w h)
  tables_kept g s (DropsEnd e) w may history h = inr (along e.kind e.number _ w h)
  tables_kept g s (GoesTo control) w may history h = inr h
  tables_kept g s (HasStore store) w may history h = inr h
  tables_kept g s SpendsUnit w may history h = inr h
  tables_kept g s (UsesPicks picks) w may history h = inr h
  tables_kept g s TakesItem w may history h = inr h
  tables_kept g s (ComesBack u) w may history h = inr h

  abbrev StaysOf : World → Type 0
  StaysOf w = CallIs w.tasks callee IsOver ⊎ At w.insts

  over_kept : (g : Graph) (s : Script) (a : Change) (w : World) → Comes g s a w → AreTold w.tasks → CallIs w.tasks callee IsOver → CallIs (after a w).tasks callee IsOver
  over_kept g s a w may told over = call_kept callee IsOver (λ y u state k p. over_tells y u state k p) (λ y u handle p. p) (λ y words p. p) g s a w may told over

  stays_kept : (g : Graph) (s : Script) (a : Change) (w : World) → Comes g s a w → HaveHistories w.insts → AreTold w.tasks → StaysOf w → StaysOf (after a w)
  stays_kept g s a w may history told (inl over) = inl (over_kept g s a w may told over)
  stays_kept g s a w may history told (inr at) = elim (tables_kept g s a w may history at) [
    | inl over ↦ inl (over_kept g s a w may told over)
    | inr still ↦ inr still
  ]

pub subtasks_stay_untold : SubtasksStayUntold
subtasks_stay_untold g s w v labels alone history told e i index callee at =
    (kept_so g s (λ u. HaveHistories u.insts × AreTold u.tasks × StaysOf i index callee u)
    (λ a u may k. (histories_kept g s a u (comes_may g s a u may) k.0, told_kept g s a u may k.1, stays_kept i index callee g s a u may k.0 k.1 k.2)) w v labels alone (history, told, inr at) e).2
