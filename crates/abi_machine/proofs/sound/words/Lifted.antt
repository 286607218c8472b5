-- What is lifted in a world holds handles with small representations, where tables do; and these stay so.
use Rattle.std.proofs.Common.{◌≡◌, ◌<◌, ◌^◌, inl, inr, ℕ, Bool, true, false, nat_eq, List, refl, sym, subst, Option, Some, None, Result, Ok, Err, if◌then◌else◌}
use Rattle.std.specs.Option.{option_map}
use Rattle.handle_table.specs.History.{live}
use Rattle.syntax_trees.specs.declared.types.ValType.{ValType}
use Rattle.syntax_trees.specs.declared.types.FuncType.{FuncType}
use Rattle.syntax_trees.specs.declared.value.Value.{Value}
use Rattle.value_lift.specs.declared.trap.LiftTrap.{LiftTrap}
use Rattle.value_lift.specs.Answers.{counted}
use Rattle.res_handles.specs.declared.handle.Handle.{Handle}
use Rattle.res_handles.specs.declared.handle.Ownership.{Ownership}
use Rattle.res_handles.specs.declared.handle.Ownership.TheVariants.{Own, Borrow}
use Rattle.res_handles.specs.declared.refusal.Refusal.{Refusal}
use Rattle.res_handles.specs.declared.refusal.Refusal.TheVariants.{OtherType, Lent}
use Rattle.res_handles.specs.Refusals.{handle_in, own_in, dropped_in, that_is, owned, owned_by, unlent}
use Rattle.stream_ends.specs.declared.side.Side.{Side}
use Rattle.stream_ends.specs.declared.side.Side.TheVariants.{Reader, Writer}
use Rattle.comp_graph.specs.Passed.{params_type}
use Rattle.comp_graph.specs.declared.graph.Options.{Options}
use Rattle.trace_labels.specs.declared.typed.TypedValue.{TypedValue}
use Rattle.abi_machine.specs.LiftingOver.{Use, Ledger, What, AnOwn, ABorrow, AnEnd}
use Rattle.abi_machine.specs.LiftingOver as over
use Rattle.abi_machine.specs.Control.{EndRef}
use Rattle.abi_machine.specs.World.{Entry, OwnHandle, BorrowHandle, OfSubtask, OfSet, OfEnd, Inst, World}
use Rattle.abi_machine.specs.Edits.{changed_at, entry_removed, left_set}
use Rattle.abi_machine.specs.Canons.{memory_of, bytes_of}
use Rattle.abi_machine.specs.Reading.{table_in, entry_at}
use Rattle.abi_machine.specs.Counting.{entry_view, view_at, end_view}
use Rattle.abi_machine.specs.Lifting.{Kept, Stopped, Came, by_world, own_taken, borrow_taken, end_taken, taken_as, spent_so}
use Rattle.abi_machine.specs.Lifting as lifting
use Rattle.abi_machine.specs.Passing.{passed_limit, params_pass, result_passes, arguments_lifted, result_lifted, elements_lifted}
use Rattle.abi_machine.specs.Returning.{typed_result, result_passed}
use Rattle.abi_machine.specs.sound.Words.{AreSmall, HaveReps}
use Rattle.abi_machine.proofs.sound.OnePlace.{AddsNone, table_back, remove_none, none_same}
use Rattle.abi_machine.proofs.sound.words.Values.{IsSmall}
use Rattle.abi_machine.proofs.sound.words.Lifts.{NamesSmall, ComesSo, SpentSo, load_comes, load_list_comes, lift_flat_comes}

-- Tables from which something is removed.
pub reps_none : (insts : List Inst) (i : ℕ) (f : Inst → Inst) → AddsNone f → HaveReps insts → HaveReps (changed_at i f insts)
reps_none insts i f none h j index x there = elim (table_back insts i f j index x there) [
  | inl new ↦ h j index x (subst (λ (o : Option Inst). live (table_in o) index ≡ Some x) (sym new.1.1) (none new.1.0 index x new.1.2))
  | inr old ↦ h j index x old
]

pub reps_same : (insts : List Inst) (i : ℕ) (f : Inst → Inst) → ((x : Inst) → (f x).table ≡ x.table) → HaveReps insts → HaveReps (changed_at i f insts)
reps_same insts i f same h = reps_none insts i f (none_same f same) h

pub reps_removed : (i index : ℕ) (w : World) → HaveReps w.insts → HaveReps (entry_removed i index w).insts
reps_removed i index w h = reps_none w.insts i _ (remove_none index) h

pub reps_left : (i index : ℕ) (w : World) → HaveReps w.insts → HaveReps (left_set i index (entry_removed i index w)).insts
reps_left i index w h = reps_same (entry_removed i index w).insts i _ (λ x. refl) (reps_removed i index w h)

-- The representation of a handle that is found.
if_same : (b : Bool) (x y : Handle) (why : Refusal) → (let r : Result Handle Refusal = if b then Ok x else Err why in r) ≡ Ok y → x ≡ y
if_same true x y why e = cc
if_same false x y why e = cc

unlent_same : (x y : Handle) → unlent x ≡ Ok y → x ≡ y
unlent_same x y e = if_same (nat_eq x.lends 0) x y Lent e

owned_same : (o : Ownership) (x y : Handle) → owned_by o x ≡ Ok y → x ≡ y
owned_same Own x y e = unlent_same x y e
owned_same (Borrow task) x y e = cc

abbrev HasSmall : Handle → Type 0
HasSmall x = x.rep < 2 ^ 32

end_none : (w : World) (e : EndRef) (side : Side) (resource : ℕ) (x : Handle) → handle_in (Some (end_view w e side)) resource ≡ Ok x → ⊥
end_none w e Reader resource x h = cc
end_none w e Writer resource x h = cc

pub handle_small : (w : World) (i index resource : ℕ) (x : Handle) → HaveReps w.insts → handle_in (view_at w i index) resource ≡ Ok x → x.rep < 2 ^ 32
handle_small w i index resource x h k = by (entry_at w i index) refl k
  where
    by : (o : Option Entry) → entry_at w i index ≡ o → handle_in (option_map (entry_view w i index) o) resource ≡ Ok x → HasSmall x
    by None e k = cc
    by (Some (OwnHandle of_type rep)) e k = subst HasSmall (if_same (nat_eq of_type resource) _ x OtherType k) (h i index (OwnHandle of_type rep) e)
    by (Some (BorrowHandle of_type rep task)) e k = subst HasSmall (if_same (nat_eq of_type resource) _ x OtherType k) (h i index (BorrowHandle of_type rep task) e)
    by (Some (OfSubtask callee)) e k = cc
    by (Some (OfSet set)) e k = cc
    by (Some (OfEnd r)) e k = absurd (end_none w r r.side resource x k)

that_same : (test : Handle → Result Handle Refusal) (r : Result Handle Refusal) (x : Handle) → ((y : Handle) → test y ≡ Ok x → y ≡ x) → that_is test r ≡ Ok x → r ≡ Ok x
that_same test (Ok y) x same e = (let one : y ≡ x = same y e in cc)
that_same test (Err why) x same e = cc

pub own_small : (w : World) (i index resource : ℕ) (x : Handle) → HaveReps w.insts → own_in (view_at w i index) resource ≡ Ok x → x.rep < 2 ^ 32
own_small w i index resource x h e =
    handle_small w i index resource x h (that_same owned (handle_in (view_at w i index) resource) x (λ y k. owned_same y.ownership y x k) e)

pub dropped_small : (w : World) (i index resource : ℕ) (x : Handle) → HaveReps w.insts → dropped_in (view_at w i index) resource ≡ Ok x → x.rep < 2 ^ 32
dropped_small w i index resource x h e =
    handle_small w i index resource x h (that_same unlent (handle_in (view_at w i index) resource) x (λ y k. unlent_same y x k) e)

-- what was lifted, and what tables have then
abbrev pub InReps : Kept → Type 0
InReps k = HaveReps k.world.insts

abbrev pub ComesSmall : {A : Type 0} → (A → Type 0) → Came A → Type 0
ComesSmall P came = ComesSo InReps P came

-- a result
abbrev pub IsSmallResult : Option TypedValue → Type 0
IsSmallResult None = Unit {0}
IsSmallResult (Some r) = IsSmall r.value

-- of an instance, for the call of a task
module _ (i callee : ℕ) where
  abbrev ledger : Ledger Kept Stopped
  ledger = by_world i callee

  spent : (r : Result ℕ LiftTrap) (k : Kept) → InReps k → SpentSo InReps (spent_so r k)
  spent (Ok left) k h = h
  spent (Err fault) k h = tt

  own_comes : (index : ℕ) (r : Result Handle Refusal) (k : Kept) → ((x : Handle) → r ≡ Ok x → x.rep < 2 ^ 32) → InReps k → ComesSmall (λ n. n < 2 ^ 32) (own_taken i index r k)
  own_comes index (Ok x) k small h = (small x refl, reps_removed i index k.world h)
  own_comes index (Err why) k small h = tt

  borrow_comes : (index : ℕ) (r : Result Handle Refusal) (k : Kept) → ((x : Handle) → r ≡ Ok x → x.rep < 2 ^ 32) → InReps k → ComesSmall (λ n. n < 2 ^ 32) (borrow_taken i callee index r k)
  borrow_comes index (Ok x) k small h = (small x refl, h)
  borrow_comes index (Err why) k small h = tt

  end_comes : (index : ℕ) (r : Result ℕ Refusal) (k : Kept) → InReps k → ComesSmall (λ n. Unit {0}) (end_taken i index r k)
  end_comes index (Ok number) k h = (tt, reps_left i index k.world h)
  end_comes index (Err why) k h = tt

  taken : (what : What) (index : ℕ) (k : Kept) → InReps k → ComesSmall (NamesSmall what) (taken_as i callee what index k)
  taken (AnOwn resource) index k h = own_comes index (own_in (view_at k.world i index) resource) k (λ x e. own_small k.world i index resource x h e) h
  taken (ABorrow resource) index k h = borrow_comes index (handle_in (view_at k.world i index) resource) k (λ x e. handle_small k.world i index resource x h e) h
  taken (AnEnd kind element) index k h = end_comes index (lifting.end_seen (view_at k.world i index) kind element k.world i index) k h

  spends : (many place : ℕ) (k : Kept) → InReps k → SpentSo InReps (ledger.spend many place k)
  spends many place k h = spent (counted many place k.left) k h

  takes : (u : Use) (k : Kept) → InReps k → ComesSmall (NamesSmall u.what) (ledger.take u k)
  takes u k h = taken u.what u.index k h

  either_small : {A : Type 0} (P : A → Type 0) (b : Bool) (x y : Came A) → ComesSmall P x → ComesSmall P y → ComesSmall P (if b then x else y)
  either_small P true x y h k = h
  either_small P false x y h k = k

  pub arguments_small : (is_async : Bool) (f : FuncType) (bytes words : List ℕ) (w : World) → HaveReps w.insts → ComesSmall IsSmall (arguments_lifted i callee is_async f bytes words w)
  unfolding arguments_lifted
  arguments_small is_async f bytes words w h =
      either_small IsSmall (params_pass (passed_limit is_async) f) _ _ (load_comes ledger InReps spends takes (params_type f) bytes _ _ h) (lift_flat_comes ledger InReps spends takes (params_type f) bytes words _ h)

  value_small : (limit : ℕ) (type : ValType) (bytes words : List ℕ) (w : World) → HaveReps w.insts → ComesSmall IsSmall (result_lifted i callee limit type bytes words w)
  unfolding result_lifted
  value_small limit type bytes words w h =
      either_small IsSmall (result_passes limit (Some type)) _ _ (load_comes ledger InReps spends takes type bytes _ _ h) (lift_flat_comes ledger InReps spends takes type bytes words _ h)

  pub elements_small : (type : ValType) (bytes : List ℕ) (place count : ℕ) (w : World) → HaveReps w.insts → ComesSmall AreSmall (elements_lifted i callee type bytes place count w)
  unfolding elements_lifted
  elements_small type bytes place count w h = load_list_comes ledger InReps spends takes type bytes place count _ h

  made_small : (type : ValType) (came : Came Value) → ComesSmall IsSmall came → ComesSmall IsSmallResult (over.made (typed_result type) came)
  made_small type (Ok x) h = h
  made_small type (Err stop) h = tt

  pub result_small : (limit : ℕ) (type : Option ValType) (options : Options) (words : List ℕ) (w : World) → HaveReps w.insts → ComesSmall IsSmallResult (result_passed i callee limit type options words w)
  unfolding result_passed
  result_small limit None options words w h = (tt, h)
  result_small limit (Some type) options words w h = made_small type _ (value_small limit type (bytes_of w.store (memory_of w.store options)) words w h)
