-- What lifting in a world keeps, where nothing is under way at an end that is taken, nothing is lent of a handle that is, and a borrow is
-- lent only where the type holds one.
use Rattle.std.proofs.Common.{◌≡◌, ℕ, Bool, true, false, List, refl, Option, Some, None, Result, Ok, Err, if◌then◌else◌}
use Rattle.syntax_trees.specs.declared.types.ValType.{ValType}
use Rattle.laid_types.specs.Handles.{has_borrow, held_borrow}
use Rattle.syntax_trees.specs.declared.types.FuncType.{FuncType}
use Rattle.value_lift.specs.declared.trap.LiftTrap.{LiftTrap}
use Rattle.value_lift.specs.Answers.{counted}
use Rattle.res_handles.specs.declared.handle.Handle.{Handle}
use Rattle.res_handles.specs.declared.refusal.Refusal.{Refusal}
use Rattle.res_handles.specs.Refusals.{handle_in, own_in}
use Rattle.comp_graph.specs.declared.graph.Options.{Options}
use Rattle.abi_machine.specs.LiftingOver.{Use, What, AnOwn, ABorrow, AnEnd, made, load_by, lift_flat_by}
use Rattle.abi_machine.specs.World.{World}
use Rattle.abi_machine.specs.Edits.{entry_removed, left_set, lent}
use Rattle.abi_machine.specs.Counting.{view_at}
use Rattle.abi_machine.specs.Lifting.{Kept, Stopped, Came, by_world, own_taken, borrow_taken, end_taken, taken_as, spent_so}
use Rattle.abi_machine.specs.Lifting as lifting
use Rattle.abi_machine.specs.Passing.{params_type, arguments_lifted, result_lifted, elements_lifted}
use Rattle.abi_machine.specs.Returning.{result_passed}
use Rattle.abi_machine.specs.sound.Changes.{Stands}
use Rattle.abi_machine.specs.sound.Premises.{IsHandle, IsFree, IsTaken}
use Rattle.abi_machine.proofs.sound.Lifts.{Leaves as LeavesWith, Spent, IsUsed, load_uses, load_list_uses, lift_flat_uses}
use Rattle.abi_machine.proofs.sound.Found.{handle_stands, own_free}
use Rattle.abi_machine.proofs.sound.Takeable.{lifted_end_taken}

-- in an instance, for the call of a task
module _ (i callee : ℕ) (K : World → Type 0) (B : Type 0) (removes : (j index : ℕ) (w : World) → Stands w j index (IsFree w j index) → K w → K (entry_removed j index w))
    (waits : (j index : ℕ) (w : World) → Stands w j index (IsTaken w) → K w → K (left_set j index (entry_removed j index w)))
    (lends : (index : ℕ) (w : World) → B → Stands w i index IsHandle → K w → K (lent callee index w)) where
  abbrev pub KeptSo : Kept → Type 0
  KeptSo k = K k.world

  abbrev pub StoppedSo : Stopped → Type 0
  StoppedSo stop = K stop.world

  spent_keeps : (r : Result ℕ LiftTrap) (k : Kept) → KeptSo k → Spent KeptSo StoppedSo (spent_so r k)
  spent_keeps (Ok left) k h = h
  spent_keeps (Err fault) k h = h

  own_keeps : (index : ℕ) (r : Result Handle Refusal) (k : Kept) → ((x : Handle) → r ≡ Ok x → Stands k.world i index (IsFree k.world i index)) → KeptSo k
      → LeavesWith KeptSo StoppedSo (own_taken i index r k)
  own_keeps index (Ok x) k there h = removes i index k.world (there x refl) h
  own_keeps index (Err why) k there h = h

  borrow_keeps : (index : ℕ) (r : Result Handle Refusal) (k : Kept) → B → ((x : Handle) → r ≡ Ok x → Stands k.world i index IsHandle) → KeptSo k
      → LeavesWith KeptSo StoppedSo (borrow_taken i callee index r k)
  borrow_keeps index (Ok x) k used there h = lends index k.world used (there x refl) h
  borrow_keeps index (Err why) k used there h = h

  end_keeps : (index : ℕ) (r : Result ℕ Refusal) (k : Kept) → ((x : ℕ) → r ≡ Ok x → Stands k.world i index (IsTaken k.world)) → KeptSo k → LeavesWith KeptSo StoppedSo (end_taken i index r k)
  end_keeps index (Ok number) k there h = waits i index k.world (there number refl) h
  end_keeps index (Err why) k there h = h

  taken_keeps : (what : What) (index : ℕ) (k : Kept) → IsUsed B what → KeptSo k → LeavesWith KeptSo StoppedSo (taken_as i callee what index k)
  taken_keeps (AnOwn resource) index k used h = own_keeps index (own_in (view_at k.world i index) resource) k (λ x e. own_free k.world i index resource x e) h
  taken_keeps (ABorrow resource) index k used h =
      borrow_keeps index (handle_in (view_at k.world i index) resource) k used (λ x e. handle_stands k.world i index resource x e) h
  taken_keeps (AnEnd kind element) index k used h =
      end_keeps index (lifting.end_seen (view_at k.world i index) kind element k.world i index) k (λ x e. lifted_end_taken k.world i index kind element x e) h

  spends : (many place : ℕ) (k : Kept) → KeptSo k → Spent KeptSo StoppedSo ((by_world i callee).spend many place k)
  spends many place k h = spent_keeps (counted many place k.left) k h

  stops : (fault : LiftTrap) (k : Kept) → KeptSo k → StoppedSo ((by_world i callee).stop fault k)
  stops fault k h = h

  takes : (u : Use) (k : Kept) → IsUsed B u.what → KeptSo k → LeavesWith KeptSo StoppedSo ((by_world i callee).take u k)
  takes u k used h = taken_keeps u.what u.index k used h

  pub made_keeps : {X Y : Type 0} (f : X → Y) (came : Came X) → LeavesWith KeptSo StoppedSo came → LeavesWith KeptSo StoppedSo (made f came)
  made_keeps f (Ok x) h = h
  made_keeps f (Err stop) h = h

  either_came : {X : Type 0} (b : Bool) (x y : Came X) → LeavesWith KeptSo StoppedSo x → LeavesWith KeptSo StoppedSo y → LeavesWith KeptSo StoppedSo (if b then x else y)
  either_came true x y h k = h
  either_came false x y h k = k

  loaded_keeps : (type : ValType) → (has_borrow type ≡ true → B) → (bytes : List ℕ) (place : ℕ) (k : Kept) → KeptSo k → LeavesWith KeptSo StoppedSo (load_by (by_world i callee) type bytes place k)
  loaded_keeps type may bytes place k h = load_uses (by_world i callee) KeptSo StoppedSo B spends stops takes type may bytes place k h

  flat_keeps : (type : ValType) → (has_borrow type ≡ true → B) → (bytes words : List ℕ) (k : Kept) → KeptSo k → LeavesWith KeptSo StoppedSo (lift_flat_by (by_world i callee) type bytes words k)
  flat_keeps type may bytes words k h = lift_flat_uses (by_world i callee) KeptSo StoppedSo B spends stops takes type may bytes words k h

  pub arguments_keep : (is_async : Bool) (f : FuncType) → (has_borrow (params_type f) ≡ true → B) → (bytes words : List ℕ) (w : World) → K w
      → LeavesWith KeptSo StoppedSo (arguments_lifted i callee is_async f bytes words w)
  unfolding arguments_lifted
  arguments_keep is_async f may bytes words w h = either_came _ _ _ (loaded_keeps (params_type f) may bytes _ _ h) (flat_keeps (params_type f) may bytes words _ h)

  pub value_keeps : (limit : ℕ) (type : ValType) → (has_borrow type ≡ true → B) → (bytes words : List ℕ) (w : World) → K w → LeavesWith KeptSo StoppedSo (result_lifted i callee limit type bytes words w)
  unfolding result_lifted
  value_keeps limit type may bytes words w h = either_came _ _ _ (loaded_keeps type may bytes _ _ h) (flat_keeps type may bytes words _ h)

  pub elements_keep : (type : ValType) → (has_borrow type ≡ true → B) → (bytes : List ℕ) (place count : ℕ) (w : World) → K w → LeavesWith KeptSo StoppedSo (elements_lifted i callee type bytes place count w)
  unfolding elements_lifted
  elements_keep type may bytes place count w h = load_list_uses (by_world i callee) KeptSo StoppedSo B spends stops takes type may bytes place count _ h

  pub result_keeps : (limit : ℕ) (type : Option ValType) → (held_borrow type ≡ true → B) → (options : Options) (words : List ℕ) (w : World) → K w
      → LeavesWith KeptSo StoppedSo (result_passed i callee limit type options words w)
  unfolding result_passed
  result_keeps limit None may options words w h = h
  result_keeps limit (Some type) may options words w h = made_keeps _ _ (value_keeps limit type may _ words w h)
