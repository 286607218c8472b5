-- What tasks lift is of its type, and leaves tables of representations below 2^32.
use Rattle.std.proofs.Common.{◌≡◌, ◌<◌, ◌^◌, ℕ, Bool, true, false, if◌then◌else◌, List, [], refl, ap, subst, Option, Some, None, Result, Ok, Err}
use Rattle.std.specs.Prelude.{nat_eq}
use Rattle.std.specs.List.{slice_get, AllByRecursion}
use Rattle.std.specs.Option.{option_map}
use Rattle.wasm_store.proofs.Lists.{all_at}
use Rattle.syntax_trees.specs.declared.types.ValType.{ValType}
use Rattle.syntax_trees.specs.declared.types.FuncType.{FuncType}
use Rattle.handle_table.specs.History.{live}
use Rattle.res_handles.specs.declared.handle.Handle.{Handle}
use Rattle.res_handles.specs.declared.handle.Ownership.{Ownership}
use Rattle.res_handles.specs.declared.handle.Ownership.TheVariants.{Own, Borrow}
use Rattle.res_handles.specs.declared.refusal.Refusal.{Refusal}
use Rattle.res_handles.specs.declared.refusal.Refusal.TheVariants.{OtherType, Lent}
use Rattle.res_handles.specs.Refusals.{of_resource, handle_in, own_in, dropped_in, that_is, owned, owned_by, unlent}
use Rattle.stream_ends.specs.declared.side.Side.{Side}
use Rattle.stream_ends.specs.declared.side.Side.TheVariants.{Reader, Writer}
use Rattle.value_lift.specs.declared.trap.LiftTrap.{LiftTrap}
use Rattle.value_lift.specs.Answers.{counted}
use Rattle.comp_graph.specs.declared.graph.Options.{Options}
use Rattle.lowering_laws.specs.StoreBytes.{HasBytesAlone}
use Rattle.lowering_laws.proofs.Bytes.{each_byte}
use Rattle.abi_machine.specs.LiftingOver.{Use, What, AnOwn, ABorrow, AnEnd}
use Rattle.abi_machine.specs.LiftingOver as over
use Rattle.abi_machine.specs.Control.{EndRef}
use Rattle.abi_machine.specs.World.{Entry, OwnHandle, BorrowHandle, OfSubtask, OfSet, OfEnd, Inst, World}
use Rattle.abi_machine.specs.Edits.{entry_removed, left_set, lent}
use Rattle.abi_machine.specs.Canons.{memory_of}
use Rattle.abi_machine.specs.Reading.{table_in, entry_at}
use Rattle.abi_machine.specs.Counting.{lends_of, entry_view, end_view, view_at}
use Rattle.abi_machine.specs.Lifting.{Kept, Stopped, Came, by_world, own_taken, borrow_taken, end_taken, taken_as, spent_so, nothing_lifted}
use Rattle.abi_machine.specs.Lifting as lifting
use Rattle.abi_machine.specs.Passing.{params_type, params_pass, passed_limit, result_passes, arguments_lifted, result_lifted, elements_lifted}
use Rattle.abi_machine.specs.Returning.{typed_result, result_passed}
use Rattle.abi_machine.specs.sound.Answers.{HasRep}
use Rattle.abi_machine.specs.sound.Planned.{EventHasRep, HaveReps}
use Rattle.abi_machine.specs.sound.TypedPlans.{IsResultOf}
use Rattle.abi_machine.specs.sound.Values.{IsOf, AllAre}
use Rattle.abi_machine.proofs.sound.planned.Numbers.{EachByte}
use Rattle.abi_machine.proofs.sound.planned.Lifting.{IsLowFor, SpentSo, Comes, load_gives, load_list_gives, lift_flat_gives}
use Rattle.abi_machine.proofs.sound.planned.Reps.{live_rep, memory_bytes}

-- Representations of handles that are found.
pub rep_there : (w : World) (i index : ℕ) (entry : Entry) → HaveReps w.insts → entry_at w i index ≡ Some entry → HasRep entry
rep_there w i index entry reps e = by (slice_get w.insts i) refl e
  where
    by : (o : Option Inst) → slice_get w.insts i ≡ o → live (table_in o) index ≡ Some entry → HasRep entry
    by None there k = live_rep [] index entry tt k
    by (Some x) there k = live_rep x.table index entry (all_at (λ (y : Inst). AllByRecursion EventHasRep y.table) w.insts i x reps there) k

of_same : (b : Bool) (x y : Handle) → (let r : Result Handle Refusal = if b then Ok x else Err OtherType in r) ≡ Ok y → x ≡ y
of_same true x y e = cc
of_same false x y e = cc

end_no_handle : (w : World) (e : EndRef) (side : Side) (resource : ℕ) (x : Handle) → handle_in (Some (end_view w e side)) resource ≡ Ok x → ⊥
end_no_handle w e Reader resource x h = cc
end_no_handle w e Writer resource x h = cc

pub handle_low : (w : World) (i index resource : ℕ) (x : Handle) → HaveReps w.insts → handle_in (view_at w i index) resource ≡ Ok x → x.rep < 2 ^ 32
handle_low w i index resource x reps h = by (entry_at w i index) refl h
  where
    as_seen : ℕ → ℕ → Ownership → Handle
    as_seen of_type rep o = record { resource = of_type; rep = rep; lends = lends_of w i index; ownership = o }

    same_rep : (of_type rep : ℕ) (o : Ownership) → of_resource resource (as_seen of_type rep o) ≡ Ok x → rep ≡ x.rep
    same_rep of_type rep o k = ap (λ (y : Handle). y.rep) (of_same (nat_eq of_type resource) (as_seen of_type rep o) x k)

    by : (o : Option Entry) → entry_at w i index ≡ o → handle_in (option_map (entry_view w i index) o) resource ≡ Ok x → x.rep < 2 ^ 32
    by None e k = cc
    by (Some (OwnHandle of_type rep)) e k = subst (λ (n : ℕ). n < 2 ^ 32) (same_rep of_type rep Own k) (rep_there w i index (OwnHandle of_type rep) reps e)
    by (Some (BorrowHandle of_type rep task)) e k = subst (λ (n : ℕ). n < 2 ^ 32) (same_rep of_type rep (Borrow task) k) (rep_there w i index (BorrowHandle of_type rep task) reps e)
    by (Some (OfSubtask callee)) e k = cc
    by (Some (OfSet set)) e k = cc
    by (Some (OfEnd r)) e k = absurd (end_no_handle w r r.side resource x k)

that_ok : (test : Handle → Result Handle Refusal) (r : Result Handle Refusal) (x : Handle) → that_is test r ≡ Ok x → (y : Handle) × (r ≡ Ok y) × (test y ≡ Ok x)
that_ok test (Ok y) x h = (y, refl, h)
that_ok test (Err why) x h = cc

unlent_same : (b : Bool) (y x : Handle) → (let r : Result Handle Refusal = if b then Ok y else Err Lent in r) ≡ Ok x → y ≡ x
unlent_same true y x e = cc
unlent_same false y x e = cc

owned_same : (o : Ownership) (y x : Handle) → owned_by o y ≡ Ok x → y ≡ x
owned_same Own y x e = unlent_same (nat_eq y.lends 0) y x e
owned_same (Borrow task) y x e = cc

own_low : (w : World) (i index resource : ℕ) (x : Handle) → HaveReps w.insts → own_in (view_at w i index) resource ≡ Ok x → x.rep < 2 ^ 32
own_low w i index resource x reps h =
    let y = that_ok owned (handle_in (view_at w i index) resource) x h in
    subst (λ (z : Handle). z.rep < 2 ^ 32) (owned_same y.0.ownership y.0 x y.2) (handle_low w i index resource y.0 reps y.1)

pub dropped_low : (w : World) (i index resource : ℕ) (x : Handle) → HaveReps w.insts → dropped_in (view_at w i index) resource ≡ Ok x → x.rep < 2 ^ 32
dropped_low w i index resource x reps h =
    let y = that_ok unlent (handle_in (view_at w i index) resource) x h in
    subst (λ (z : Handle). z.rep < 2 ^ 32) (unlent_same (nat_eq y.0.lends 0) y.0 x y.2) (handle_low w i index resource y.0 reps y.1)

-- What lifting keeps of worlds.
pub record IsLifting (R : World → Type 0) : Type 0 where
  pub reps : (w : World) → R w → HaveReps w.insts
  pub removed : (i index : ℕ) (w : World) → R w → R (entry_removed i index w)
  pub left : (i index : ℕ) (w : World) → R w → R (left_set i index w)
  pub lent_so : (n handle : ℕ) (w : World) → R w → R (lent n handle w)

module _ (R : World → Type 0) (keeps : IsLifting R) (i callee : ℕ) where
  abbrev pub KeptSo : Kept → Type 0
  KeptSo k = R k.world

  abbrev pub Gives : {A : Type 0} → (A → Type 0) → Came A → Type 0
  Gives P came = Comes (by_world i callee) KeptSo P came

  spent : (r : Result ℕ LiftTrap) (k : Kept) → KeptSo k → SpentSo (by_world i callee) KeptSo (spent_so r k)
  spent (Ok left) k h = h
  spent (Err fault) k h = tt

  spends : (many place : ℕ) (k : Kept) → KeptSo k → SpentSo (by_world i callee) KeptSo ((by_world i callee).spend many place k)
  spends many place k h = spent (counted many place k.left) k h

  own_gives : (resource index : ℕ) (r : Result Handle Refusal) (k : Kept) → ((x : Handle) → r ≡ Ok x → x.rep < 2 ^ 32) → KeptSo k → Gives (IsLowFor (AnOwn resource)) (own_taken i index r k)
  own_gives resource index (Ok x) k low h = (low x refl, keeps.removed i index k.world h)
  own_gives resource index (Err why) k low h = tt

  borrow_gives : (resource index : ℕ) (r : Result Handle Refusal) (k : Kept) → ((x : Handle) → r ≡ Ok x → x.rep < 2 ^ 32) → KeptSo k → Gives (IsLowFor (ABorrow resource)) (borrow_taken i callee index r k)
  borrow_gives resource index (Ok x) k low h = (low x refl, keeps.lent_so callee index k.world h)
  borrow_gives resource index (Err why) k low h = tt

  end_gives : (what : What) (index : ℕ) (r : Result ℕ Refusal) (k : Kept) → ((n : ℕ) → IsLowFor what n) → KeptSo k → Gives (IsLowFor what) (end_taken i index r k)
  end_gives what index (Ok number) k any h = (any number, keeps.left i index (entry_removed i index k.world) (keeps.removed i index k.world h))
  end_gives what index (Err why) k any h = tt

  taken_gives : (what : What) (index : ℕ) (k : Kept) → KeptSo k → Gives (IsLowFor what) (taken_as i callee what index k)
  taken_gives (AnOwn resource) index k h = own_gives resource index (own_in (view_at k.world i index) resource) k (λ x e. own_low k.world i index resource x (keeps.reps k.world h) e) h
  taken_gives (ABorrow resource) index k h = borrow_gives resource index (handle_in (view_at k.world i index) resource) k (λ x e. handle_low k.world i index resource x (keeps.reps k.world h) e) h
  taken_gives (AnEnd kind element) index k h = end_gives (AnEnd kind element) index (lifting.end_seen (view_at k.world i index) kind element k.world i index) k (λ n. tt) h

  takes : (u : Use) (k : Kept) → KeptSo k → Gives (IsLowFor u.what) ((by_world i callee).take u k)
  takes u k h = taken_gives u.what u.index k h

  either_gives : {A : Type 0} (P : A → Type 0) (b : Bool) (x y : Came A) → Gives P x → Gives P y → Gives P (if b then x else y)
  either_gives P true x y h k = h
  either_gives P false x y h k = k

  made_gives : {A C : Type 0} (P : A → Type 0) (Q : C → Type 0) (f : A → C) (came : Came A) → ((x : A) → P x → Q (f x)) → Gives P came → Gives Q (over.made f came)
  made_gives P Q f (Ok x) so h = (so x.0 h.0, h.1)
  made_gives P Q f (Err stop) so h = tt

  -- Arguments, a result and elements, over bytes.
  pub arguments_come : (is_async : Bool) (f : FuncType) (bytes words : List ℕ) (w : World) → EachByte bytes → R w → Gives (IsOf (params_type f)) (arguments_lifted i callee is_async f bytes words w)
  unfolding arguments_lifted
  arguments_come is_async f bytes words w each h =
      either_gives (IsOf (params_type f)) (params_pass (passed_limit is_async) f) _ _ (load_gives (by_world i callee) KeptSo spends takes (params_type f) bytes _ _ each h) (lift_flat_gives (by_world i callee) KeptSo spends takes (params_type f) bytes words _ each h)

  value_comes : (limit : ℕ) (type : ValType) (bytes words : List ℕ) (w : World) → EachByte bytes → R w → Gives (IsOf type) (result_lifted i callee limit type bytes words w)
  unfolding result_lifted
  value_comes limit type bytes words w each h =
      either_gives (IsOf type) (result_passes limit (Some type)) _ _ (load_gives (by_world i callee) KeptSo spends takes type bytes _ _ each h) (lift_flat_gives (by_world i callee) KeptSo spends takes type bytes words _ each h)

  pub result_comes : (limit : ℕ) (type : Option ValType) (options : Options) (words : List ℕ) (w : World) → HasBytesAlone w.store → R w → Gives (IsResultOf type) (result_passed i callee limit type options words w)
  unfolding result_passed
  result_comes limit None options words w bytes h = (tt, h)
  result_comes limit (Some type) options words w bytes h =
      made_gives (IsOf type) (IsResultOf (Some type)) (typed_result type) _ (λ v is. (refl, is)) (value_comes limit type _ words w (each_byte _ (memory_bytes w.store (memory_of w.store options) bytes)) h)

  pub elements_come : (type : ValType) (bytes : List ℕ) (place count : ℕ) (w : World) → EachByte bytes → R w → Gives (AllAre type) (elements_lifted i callee type bytes place count w)
  unfolding elements_lifted
  elements_come type bytes place count w each h = load_list_gives (by_world i callee) KeptSo spends takes type bytes place count _ each h
