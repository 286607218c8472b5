-- What lifting in a world keeps, where handles alone leave tables by themselves, and nothing is under way at an end that is taken.
use Rattle.std.proofs.Common.{◌≡◌, ℕ, Bool, true, false, List, refl, Option, Some, None, Result, Ok, Err, if◌then◌else◌}
use Rattle.syntax_trees.specs.declared.types.ValType.{ValType}
use Rattle.syntax_trees.specs.declared.types.FuncType.{FuncType}
use Rattle.value_lift.specs.declared.trap.LiftTrap.{LiftTrap}
use Rattle.value_lift.specs.Answers.{counted}
use Rattle.res_handles.specs.declared.handle.Handle.{Handle}
use Rattle.res_handles.specs.declared.refusal.Refusal.{Refusal}
use Rattle.res_handles.specs.Refusals.{handle_in, own_in}
use Rattle.comp_graph.specs.declared.graph.Options.{Options}
use Rattle.abi_machine.specs.LiftingOver.{Use, What, AnOwn, ABorrow, AnEnd, made, load_by, lift_flat_by}
use Rattle.abi_machine.specs.World.{World}
use Rattle.abi_machine.specs.Edits.{entry_removed, left_set, lent}
use Rattle.abi_machine.specs.Counting.{view_at}
use Rattle.abi_machine.specs.Lifting.{Kept, Stopped, Came, by_world, own_taken, borrow_taken, end_taken, taken_as, spent_so}
use Rattle.abi_machine.specs.Lifting as lifting
use Rattle.abi_machine.specs.Passing.{arguments_lifted, result_lifted, elements_lifted}
use Rattle.abi_machine.specs.Returning.{result_passed}
use Rattle.abi_machine.specs.sound.Changes.{Stands}
use Rattle.abi_machine.specs.sound.Premises.{IsTaken}
use Rattle.abi_machine.proofs.sound.Lifts.{Leaves as LeavesWith, Spent, load_leaves, load_list_leaves, lift_flat_leaves}
use Rattle.abi_machine.proofs.sound.Takeable.{lifted_end_taken}
use Rattle.abi_machine.proofs.sound.known.Handles.{IsHandle, own_found}

module _ (K : World → Type 0) (removes : (i index : ℕ) (w : World) → Stands w i index IsHandle → K w → K (entry_removed i index w))
    (waits : (i index : ℕ) (w : World) → Stands w i index (IsTaken w) → K w → K (left_set i index (entry_removed i index w))) (lends : (callee index : ℕ) (w : World) → K w → K (lent callee index w)) where
  abbrev pub KeptSo : Kept → Type 0
  KeptSo k = K k.world

  abbrev pub StoppedSo : Stopped → Type 0
  StoppedSo stop = K stop.world

  spent_keeps : (r : Result ℕ LiftTrap) (k : Kept) → KeptSo k → Spent KeptSo StoppedSo (spent_so r k)
  spent_keeps (Ok left) k h = h
  spent_keeps (Err fault) k h = h

  own_keeps : (i index : ℕ) (r : Result Handle Refusal) (k : Kept) → ((x : Handle) → r ≡ Ok x → Stands k.world i index IsHandle) → KeptSo k
      → LeavesWith KeptSo StoppedSo (own_taken i index r k)
  own_keeps i index (Ok x) k there h = removes i index k.world (there x refl) h
  own_keeps i index (Err why) k there h = h

  borrow_keeps : (i callee index : ℕ) (r : Result Handle Refusal) (k : Kept) → KeptSo k → LeavesWith KeptSo StoppedSo (borrow_taken i callee index r k)
  borrow_keeps i callee index (Ok x) k h = lends callee index k.world h
  borrow_keeps i callee index (Err why) k h = h

  end_keeps : (i index : ℕ) (r : Result ℕ Refusal) (k : Kept) → ((x : ℕ) → r ≡ Ok x → Stands k.world i index (IsTaken k.world)) → KeptSo k → LeavesWith KeptSo StoppedSo (end_taken i index r k)
  end_keeps i index (Ok number) k there h = waits i index k.world (there number refl) h
  end_keeps i index (Err why) k there h = h

  taken_keeps : (i callee : ℕ) (what : What) (index : ℕ) (k : Kept) → KeptSo k → LeavesWith KeptSo StoppedSo (taken_as i callee what index k)
  taken_keeps i callee (AnOwn resource) index k h = own_keeps i index (own_in (view_at k.world i index) resource) k (λ x e. own_found k.world i index resource x e) h
  taken_keeps i callee (ABorrow resource) index k h = borrow_keeps i callee index (handle_in (view_at k.world i index) resource) k h
  taken_keeps i callee (AnEnd kind element) index k h =
      end_keeps i index (lifting.end_seen (view_at k.world i index) kind element k.world i index) k (λ x e. lifted_end_taken k.world i index kind element x e) h

  spends : (i callee many place : ℕ) (k : Kept) → KeptSo k → Spent KeptSo StoppedSo ((by_world i callee).spend many place k)
  spends i callee many place k h = spent_keeps (counted many place k.left) k h

  stops : (i callee : ℕ) (fault : LiftTrap) (k : Kept) → KeptSo k → StoppedSo ((by_world i callee).stop fault k)
  stops i callee fault k h = h

  takes : (i callee : ℕ) (u : Use) (k : Kept) → KeptSo k → LeavesWith KeptSo StoppedSo ((by_world i callee).take u k)
  takes i callee u k h = taken_keeps i callee u.what u.index k h

  pub made_keeps : {A B : Type 0} (f : A → B) (came : Came A) → LeavesWith KeptSo StoppedSo came → LeavesWith KeptSo StoppedSo (made f came)
  made_keeps f (Ok x) h = h
  made_keeps f (Err stop) h = h

  either_came : {A : Type 0} (b : Bool) (x y : Came A) → LeavesWith KeptSo StoppedSo x → LeavesWith KeptSo StoppedSo y → LeavesWith KeptSo StoppedSo (if b then x else y)
  either_came true x y h i = h
  either_came false x y h i = i

  loaded_keeps : (i callee : ℕ) (type : ValType) (bytes : List ℕ) (place : ℕ) (k : Kept) → KeptSo k → LeavesWith KeptSo StoppedSo (load_by (by_world i callee) type bytes place k)
  loaded_keeps i callee type bytes place k h = load_leaves (by_world i callee) KeptSo StoppedSo (spends i callee) (stops i callee) (takes i callee) type bytes place k h

  flat_keeps : (i callee : ℕ) (type : ValType) (bytes words : List ℕ) (k : Kept) → KeptSo k → LeavesWith KeptSo StoppedSo (lift_flat_by (by_world i callee) type bytes words k)
  flat_keeps i callee type bytes words k h = lift_flat_leaves (by_world i callee) KeptSo StoppedSo (spends i callee) (stops i callee) (takes i callee) type bytes words k h

  pub arguments_keep : (i callee : ℕ) (is_async : Bool) (f : FuncType) (bytes words : List ℕ) (w : World) → K w → LeavesWith KeptSo StoppedSo (arguments_lifted i callee is_async f bytes words w)
  unfolding arguments_lifted
  arguments_keep i callee is_async f bytes words w h = either_came _ _ _ (loaded_keeps i callee _ bytes _ _ h) (flat_keeps i callee _ bytes words _ h)

  pub value_keeps : (i callee limit : ℕ) (type : ValType) (bytes words : List ℕ) (w : World) → K w → LeavesWith KeptSo StoppedSo (result_lifted i callee limit type bytes words w)
  unfolding result_lifted
  value_keeps i callee limit type bytes words w h = either_came _ _ _ (loaded_keeps i callee type bytes _ _ h) (flat_keeps i callee type bytes words _ h)

  pub elements_keep : (i callee : ℕ) (type : ValType) (bytes : List ℕ) (place count : ℕ) (w : World) → K w → LeavesWith KeptSo StoppedSo (elements_lifted i callee type bytes place count w)
  unfolding elements_lifted
  elements_keep i callee type bytes place count w h =
      load_list_leaves (by_world i callee) KeptSo StoppedSo (spends i callee) (stops i callee) (takes i callee) type bytes place count _ h

  pub result_keeps : (i t limit : ℕ) (type : Option ValType) (options : Options) (words : List ℕ) (w : World) → K w → LeavesWith KeptSo StoppedSo (result_passed i t limit type options words w)
  unfolding result_passed
  result_keeps i t limit None options words w h = h
  result_keeps i t limit (Some type) options words w h = made_keeps _ _ (value_keeps i t limit type _ words w h)
