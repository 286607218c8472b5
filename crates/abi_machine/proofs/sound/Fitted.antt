-- What tasks are called with fits, and so do copies, and so it stays.
use Rattle.std.proofs.Common.{◌≡◌, inl, inr, ℕ, zero, suc, ◌+◌, List, [], ◌∷◌, length, map, refl, sym, ap, ◌∙◌, subst, Option, Some}
use Rattle.std.specs.List.{slice_get}
use Rattle.syntax_trees.specs.declared.types.ValType.{ValType}
use Rattle.syntax_trees.specs.declared.types.Param.{Param}
use Rattle.syntax_trees.specs.declared.value.Value.{Value}
use Rattle.builtin_kinds.specs.declared.EndKind.{EndKind}
use Rattle.builtin_kinds.specs.declared.EndKind.TheVariants.{Stream, Future}
use Rattle.stream_ends.specs.declared.side.Side.{Side}
use Rattle.stream_ends.specs.declared.open_copy.OpenCopy.{OpenCopy}
use Rattle.stream_ends.specs.Ends.{end_at}
use Rattle.stream_ends.specs.Ends as stream
use Rattle.tasks.specs.Subtasks.{delivered, with_lend}
use Rattle.tasks.specs.declared.phase.Resolution.TheVariants.{Cancelled}
use Rattle.comp_graph.specs.Graph.{Graph, Lifted}
use Rattle.script_reader.specs.declared.script.Call.{Call}
use Rattle.script_reader.specs.declared.script.Item.{Item}
use Rattle.script_reader.specs.declared.script.Item.TheVariants as item
use Rattle.script_reader.specs.Script.{Script, AreOfTypes}
use Rattle.abi_machine.specs.Control.{EndRef}
use Rattle.abi_machine.specs.World.{Callee, Subtask, Caller, Nobody, Host, Guest, New, Exited, AfterCall, Task, Channel, World, new_task}
use Rattle.abi_machine.specs.Edits.{changed_at, caller_changed, by_view, with_channel, carried, offered_by, offered, transferred_by, transferred}
use Rattle.abi_machine.specs.sound.Changes.{Change, GoesTo, HasStore, SpendsUnit, UsesPicks, TakesItem, BeginsInstance, AddsEntry, MakesSet, RemovesEntry, RemovesWaitable, LeavesSet, JoinsSet, HasBackpressure, IsCalled, Calls, ComesBack, Acts, Begins, Cancels, Blocks, Exits, IsRemoved, Resolves, IsCancelled, HasWord, HasNewStack, HasStack, LosesStack, IsAnswered, IsTold, IsLent, HasResult, MakesChannel, Offers, Transfers, Concludes, DropsEnd, after}
use Rattle.abi_machine.specs.sound.Premises.{IsCall, Comes}
use Rattle.abi_machine.specs.sound.Agreeing.{channel_in}
use Rattle.abi_machine.specs.sound.CallsFit.{IsNextCall, IsCalledBy, IsCopyBy}
use Rattle.abi_machine.specs.sound.Scripts.{IsCallFor, AreItemsFor, IsScriptFor}
use Rattle.abi_machine.specs.sound.Fitting.{FitsCall, CallsFit, CopiesFit, FirstFits, CallsStayFit, CopiesStayFit}
use Rattle.abi_machine.proofs.sound.Lists.{all_changed, all_more}
use Rattle.abi_machine.proofs.sound.Found.{some_same}
use Rattle.abi_machine.proofs.sound.Aside.{channel_kept, made_kept}
use Rattle.abi_machine.proofs.sound.Copied.{channel_twice}
use Rattle.abi_machine.proofs.sound.Alone.{kept_so}
use Rattle.abi_machine.proofs.sound.CopyEdits.{Before, AllCome, conclude_come, drop_come, transfer_come, OfCall, offered_copies, channel_either, made_copies}

-- The call of an item of a script for a graph is for it.
call_for : (g : Graph) (calls : ℕ) (items : List Item) (n : ℕ) (call : Call) → AreItemsFor g calls items → slice_get items n ≡ Some (item.Call call) → IsCallFor g call
call_for g calls [] n call h there = cc
call_for g calls (item.Call first ∷ items) zero call h there = subst (IsCallFor g) (call_same first call there) h.0
  where
    call_same : (a b : Call) → (let o : Option Item = Some (item.Call a) in o) ≡ Some (item.Call b) → a ≡ b
    call_same a b e = cc
call_for g calls (item.Cancel number ∷ items) zero call h there = cc
call_for g calls (item.Call first ∷ items) (suc n) call h there = call_for g (calls + 1) items n call h.1 there
call_for g calls (item.Cancel number ∷ items) (suc n) call h there = call_for g calls items n call h.2 there

abbrev types_of : Lifted → List ValType
types_of f = map (λ (p : Param). p.val_type) f.func_type.params

called_fits : (g : Graph) (s : Script) (w : World) (callee : Callee) (number : ℕ) (values : List Value) → IsScriptFor g s → IsNextCall g s w callee values → FitsCall g callee (Host number values)
called_fits g s w callee number values sound h =
    let c : IsCallFor g h.call = call_for g 0 s.items w.taken h.call sound h.next in
    let same : c.func ≡ h.func = some_same (sym c.named ∙ h.named) in
    (h.func, h.runs, subst (AreOfTypes (types_of h.func)) (sym h.passed) (subst (λ (f : Lifted). AreOfTypes (types_of f) h.call.values) same c.values))

module _ (g : Graph) where
  abbrev Fits : Task → Type 0
  Fits x = FitsCall g x.callee x.caller

  left_so : (tasks : List Task) (t : ℕ) (f : Task → Task) → ((x : Task) → (f x).callee ≡ x.callee) → ((x : Task) → (f x).caller ≡ x.caller) → CallsFit g tasks → CallsFit g (changed_at t f tasks)
  left_so tasks t f callee caller h =
      all_changed Fits t f tasks (λ x e k. subst (λ (c : Callee). FitsCall g c (f x).caller) (sym (callee x)) (subst (FitsCall g x.callee) (sym (caller x)) k)) h

  fits_subtask : (callee : Callee) (f : Subtask → Subtask) → ((x : Subtask) → (f x).canon ≡ x.canon) → (c : Caller) → FitsCall g callee c → FitsCall g callee (caller_changed f c)
  fits_subtask callee f same Nobody h = h
  fits_subtask callee f same (Host call values) h = h
  fits_subtask callee f same (Guest subtask) h = subst (λ (n : ℕ). IsCalledBy g n callee) (sym (same subtask)) h

  told_so : (tasks : List Task) (t : ℕ) (f : Subtask → Subtask) → ((x : Subtask) → (f x).canon ≡ x.canon) → CallsFit g tasks → CallsFit g (changed_at t (λ task. record task { caller = caller_changed f task.caller }) tasks)
  told_so tasks t f same h = all_changed Fits t (λ task. record task { caller = caller_changed f task.caller }) tasks (λ x e k. fits_subtask x.callee f same x.caller k) h

  abbrev Fit : World → Type 0
  Fit w = CallsFit g w.tasks

  calls_kept : (s : Script) → IsScriptFor g s → (c : Change) (w : World) → Comes g s c w → Fit w → Fit (after c w)
  calls_kept s sound (IsCalled callee call values) w may h = all_more Fits w.tasks (new_task callee (Host call values) New) h (called_fits g s w callee call values sound may.4)
  calls_kept s sound (Calls number callee subtask words) w may h =
      all_more Fits _ (new_task callee (Guest subtask) New) (left_so w.tasks subtask.by (λ task. record task { state = AfterCall (length w.tasks) number words }) (λ x. refl) (λ x. refl) h) may.8
  calls_kept s sound (ComesBack t) w may h = h
  calls_kept s sound (Acts t) w may h = left_so w.tasks t _ (λ x. refl) (λ x. refl) h
  calls_kept s sound (Begins n) w may h = left_so w.tasks 0 _ (λ x. refl) (λ x. refl) h
  calls_kept s sound (Cancels t callee number words) w may h = left_so w.tasks t _ (λ x. refl) (λ x. refl) h
  calls_kept s sound (Blocks t state) w may h = left_so w.tasks t _ (λ x. refl) (λ x. refl) h
  calls_kept s sound (Exits t) w may h = left_so w.tasks t _ (λ x. refl) (λ x. refl) h
  calls_kept s sound (IsRemoved t) w may h =
      left_so (changed_at t (λ x. record x { resolution = Some Cancelled }) w.tasks) t (λ x. record x { state = Exited }) (λ x. refl) (λ x. refl)
      (left_so w.tasks t (λ x. record x { resolution = Some Cancelled }) (λ x. refl) (λ x. refl) h)
  calls_kept s sound (Resolves t resolution) w may h = left_so w.tasks t _ (λ x. refl) (λ x. refl) h
  calls_kept s sound (IsCancelled t cancellation) w may h = left_so w.tasks t _ (λ x. refl) (λ x. refl) h
  calls_kept s sound (HasWord t slot word) w may h = left_so w.tasks t _ (λ x. refl) (λ x. refl) h
  calls_kept s sound (HasNewStack t k) w may h = left_so w.tasks t _ (λ x. refl) (λ x. refl) h
  calls_kept s sound (HasStack t k) w may h = left_so w.tasks t _ (λ x. refl) (λ x. refl) h
  calls_kept s sound (LosesStack t) w may h = left_so w.tasks t _ (λ x. refl) (λ x. refl) h
  calls_kept s sound (IsAnswered t words) w may h = left_so w.tasks t _ (λ x. refl) (λ x. refl) h
  calls_kept s sound (IsTold t state) w may h = told_so w.tasks t (by_view delivered t state) (λ x. refl) h
  calls_kept s sound (IsLent t handle) w may h = told_so w.tasks t (λ subtask. by_view (with_lend handle) t subtask.told subtask) (λ x. refl) h
  calls_kept s sound (HasResult t words) w may h = told_so w.tasks t (λ subtask. record subtask { result = words }) (λ x. refl) h
  calls_kept s sound (MakesChannel kind element) w may h = made_kept Fit (λ v x k. k) (λ v x k. k) kind element w h
  calls_kept s sound (Offers e call) w may h = channel_kept Fit (λ v x k. k) (λ v x k. k) e.kind e.number _ w h
  calls_kept s sound (Transfers e size values) w may h =
      channel_kept Fit (λ v x k. k) (λ v x k. k) e.kind e.number _ _ (channel_kept Fit (λ v x k. k) (λ v x k. k) e.kind e.number _ w h)
  calls_kept s sound (Concludes e) w may h = channel_kept Fit (λ v x k. k) (λ v x k. k) e.kind e.number _ w h
  calls_kept s sound (DropsEnd e) w may h = channel_kept Fit (λ v x k. k) (λ v x k. k) e.kind e.number _ w h
  calls_kept s sound (GoesTo control) w may h = h
  calls_kept s sound (HasStore store) w may h = h
  calls_kept s sound SpendsUnit w may h = h
  calls_kept s sound (UsesPicks picks) w may h = h
  calls_kept s sound TakesItem w may h = h
  calls_kept s sound BeginsInstance w may h = h
  calls_kept s sound (AddsEntry i entry) w may h = h
  calls_kept s sound (MakesSet i set) w may h = h
  calls_kept s sound (RemovesEntry i index) w may h = h
  calls_kept s sound (RemovesWaitable i index) w may h = h
  calls_kept s sound (LeavesSet i index) w may h = h
  calls_kept s sound (JoinsSet i index set) w may h = h
  calls_kept s sound (HasBackpressure i backpressure) w may h = h

  -- Copies.

  abbrev Copy : World → Type 0
  Copy w = CopiesFit g w.streams w.futures

  -- a copy of the same canonical function, at ends of elements of the same type
  copy_as : (what : EndKind) (side : Side) (element other : Option ValType) (copy before : OpenCopy) → copy.canon ≡ before.canon → element ≡ other → IsCopyBy g what side other before.canon → IsCopyBy g what side element copy.canon
  copy_as what side element other copy before canon same k = subst (IsCopyBy g what side element) (sym canon) (subst (λ (x : Option ValType). IsCopyBy g what side x before.canon) (sym same) k)

  edit_fits : (kind : EndKind) (number : ℕ) (f : Channel → Channel) (w : World) → ((c : Channel) → AllCome c.ends.view (f c).ends.view) → ((c : Channel) → (f c).element ≡ c.element) → Copy w → Copy (with_channel kind number f w)
  edit_fits kind number f w comes same h e c copy there under = elim (channel_either kind e.kind number e.number f w c there) [
    | inl new ↦ (
        let b : Before (end_at e.side new.2.0.ends.view).copy copy = comes new.2.0 e.side copy (ap (λ (x : Channel). (end_at e.side x.ends.view).copy) (sym new.2.2) ∙ under) in
        copy_as e.kind e.side c.element new.2.0.element copy b.0 b.3 (ap (λ (x : Channel). x.element) new.2.2 ∙ same new.2.0) (h e new.2.0 b.0 new.2.1 b.1)
        )
    | inr old ↦ h e c copy old under
  ]

  -- the channel of an end that is the same one
  call_fits : (w : World) (d e : EndRef) (call copy : OpenCopy) (x : Channel) → IsCall g w d call → e.kind ≡ d.kind → e.number ≡ d.number → e.side ≡ d.side → channel_in e.kind e.number w.streams w.futures ≡ Some x → copy ≡ call
      → IsCopyBy g e.kind e.side x.element copy.canon
  call_fits w d e call copy x may kind number side found same =
      let at : channel_in d.kind d.number w.streams w.futures ≡ Some x = subst (λ (k : EndKind). channel_in k d.number w.streams w.futures ≡ Some x) kind (subst (λ (n : ℕ). channel_in e.kind n w.streams w.futures ≡ Some x) number found) in
      let one : may.copies.0 ≡ x = some_same (sym may.copies.1 ∙ at) in
      let by : IsCopyBy g e.kind e.side x.element may.canon =
      subst (λ (k : EndKind). IsCopyBy g k e.side x.element may.canon) (sym kind) (subst (λ (a : Side). IsCopyBy g d.kind a x.element may.canon) (sym side) (subst (λ (c : Channel). IsCopyBy g d.kind d.side c.element may.canon) one may.copies.2)) in
      let is : copy ≡ stream.new_copy _ may.canon may.place may.size = same ∙ may.is in
      subst (λ (y : OpenCopy). IsCopyBy g e.kind e.side x.element y.canon) (sym is) by

  offer_fits : (d : EndRef) (call : OpenCopy) (w : World) → IsCall g w d call → Copy w → Copy (offered d call w)
  offer_fits d call w may h e c copy there under = elim (channel_either d.kind e.kind d.number e.number (λ c. record c { ends = offered_by d.kind d.side call c.ends }) w c there) [
    | inl new ↦ by_case new.2.0 new.0 new.1 new.2.1 new.2.2
        (offered_copies d.kind d.side call new.2.0.ends e.side copy (ap (λ (x : Channel). (end_at e.side x.ends.view).copy) (sym new.2.2) ∙ under))
    | inr old ↦ h e c copy old under
  ]
    where
      by_case : (x : Channel) → e.kind ≡ d.kind → e.number ≡ d.number → channel_in e.kind e.number w.streams w.futures ≡ Some x → c ≡ record x { ends = offered_by d.kind d.side call x.ends } → OfCall d.side call x.ends e.side copy
          → IsCopyBy g e.kind e.side c.element copy.canon
      by_case x kind number found is (inl own) = subst (λ (y : Option ValType). IsCopyBy g e.kind e.side y copy.canon) (sym (ap (λ (y : Channel). y.element) is)) (call_fits w d e call copy x may kind number own.0 found own.1)
      by_case x kind number found is (inr b) = copy_as e.kind e.side c.element x.element copy b.0 b.3 (ap (λ (y : Channel). y.element) is) (h e x b.0 found b.1)

  transfer_fits : (e : EndRef) (size : ℕ) (values : List (Option Value)) (w : World) → Copy w → Copy (transferred e size values w)
  transfer_fits e size values w h =
      let completes : Channel → Channel = λ c. record c { ends = transferred_by e.kind e.side size (length values) c.ends } in
      subst Copy (sym (channel_twice e.kind e.number (carried values) completes w))
      (edit_fits e.kind e.number (λ c. completes (carried values c)) w (λ c. transfer_come e.kind e.side size (length values) c.ends) (λ c. refl) h)

  copies_kept : (s : Script) (c : Change) (w : World) → Comes g s c w → Copy w → Copy (after c w)
  copies_kept s (MakesChannel kind element) w may h = λ e c copy there under. h e c copy (made_copies kind element w e c copy there under) under
  copies_kept s (Offers e call) w may h = offer_fits e call w may h
  copies_kept s (Transfers e size values) w may h = transfer_fits e size values w h
  copies_kept s (Concludes e) w may h = edit_fits e.kind e.number _ w (λ c. conclude_come e.kind e.side c.ends) (λ c. refl) h
  copies_kept s (DropsEnd e) w may h = edit_fits e.kind e.number _ w (λ c. drop_come e.side c.ends.view) (λ c. refl) h
  copies_kept s (IsCalled callee call values) w may h = h
  copies_kept s (Calls number callee subtask words) w may h = h
  copies_kept s (ComesBack t) w may h = h
  copies_kept s (Acts t) w may h = h
  copies_kept s (Begins n) w may h = h
  copies_kept s (Cancels t callee number words) w may h = h
  copies_kept s (Blocks t state) w may h = h
  copies_kept s (Exits t) w may h = h
  copies_kept s (IsRemoved t) w may h = h
  copies_kept s (Resolves t resolution) w may h = h
  copies_kept s (IsCancelled t cancellation) w may h = h
  copies_kept s (HasWord t slot word) w may h = h
  copies_kept s (HasNewStack t k) w may h = h
  copies_kept s (HasStack t k) w may h = h
  copies_kept s (LosesStack t) w may h = h
  copies_kept s (IsAnswered t words) w may h = h
  copies_kept s (IsTold t state) w may h = h
  copies_kept s (IsLent t handle) w may h = h
  copies_kept s (HasResult t words) w may h = h
  copies_kept s (GoesTo control) w may h = h
  copies_kept s (HasStore store) w may h = h
  copies_kept s SpendsUnit w may h = h
  copies_kept s (UsesPicks picks) w may h = h
  copies_kept s TakesItem w may h = h
  copies_kept s BeginsInstance w may h = h
  copies_kept s (AddsEntry i entry) w may h = h
  copies_kept s (MakesSet i set) w may h = h
  copies_kept s (RemovesEntry i index) w may h = h
  copies_kept s (RemovesWaitable i index) w may h = h
  copies_kept s (LeavesSet i index) w may h = h
  copies_kept s (JoinsSet i index set) w may h = h
  copies_kept s (HasBackpressure i backpressure) w may h = h

pub first_fits : FirstFits
first_fits g = ((tt, tt), λ e c copy there under. absurd (none_yet e.kind e.number c there))
  where
    none_yet : (kind : EndKind) (number : ℕ) (c : Channel) → channel_in kind number [] [] ≡ Some c → ⊥
    none_yet Stream zero c k = cc
    none_yet Stream (suc place) c k = cc
    none_yet Future zero c k = cc
    none_yet Future (suc place) c k = cc

pub calls_stay_fit : CallsStayFit
calls_stay_fit g s w v labels sound alone h e = kept_so g s (Fit g) (calls_kept g s sound) w v labels alone h e

pub copies_stay_fit : CopiesStayFit
copies_stay_fit g s w v labels alone h e = kept_so g s (Copy g) (copies_kept g s) w v labels alone h e
