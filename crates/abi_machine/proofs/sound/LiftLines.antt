-- The lines of what is lifted lend handles, and tell nothing else.
use Rattle.std.proofs.Common.{◌≡◌, ℕ, Bool, true, false, List, [], ◌∷◌, ◌++◌, refl, ap, ◌∙◌, Option, Some, None, Result, Ok, Err, if◌then◌else◌}
use Rattle.syntax_trees.specs.declared.types.ValType.{ValType}
use Rattle.syntax_trees.specs.declared.types.FuncType.{FuncType}
use Rattle.value_lift.specs.declared.trap.LiftTrap.{LiftTrap}
use Rattle.value_lift.specs.Answers.{counted}
use Rattle.res_handles.specs.declared.handle.Handle.{Handle}
use Rattle.res_handles.specs.declared.refusal.Refusal.{Refusal}
use Rattle.res_handles.specs.Refusals.{handle_in, own_in}
use Rattle.comp_graph.specs.declared.graph.Options.{Options}
use Rattle.abi_machine.specs.LiftingOver.{Use, What, AnOwn, ABorrow, AnEnd, made, load_by, lift_flat_by}
use Rattle.abi_machine.specs.World.{World}
use Rattle.abi_machine.specs.Counting.{view_at}
use Rattle.abi_machine.specs.Lifting.{Kept, Stopped, Came, by_world, own_taken, borrow_taken, end_taken, taken_as, spent_so, lend_line}
use Rattle.abi_machine.specs.Lifting as lifting
use Rattle.abi_machine.specs.Passing.{params_type, arguments_lifted, result_lifted, elements_lifted}
use Rattle.abi_machine.specs.Returning.{result_passed}
use Rattle.abi_machine.specs.sound.Lines.{Mark, marks_of}
use Rattle.abi_machine.proofs.sound.Lifts.{Leaves as LeavesWith, Spent, load_leaves, load_list_leaves, lift_flat_leaves}
use Rattle.abi_machine.proofs.sound.Marks.{marks_both}

abbrev pub KeptPlain : Kept → Type 0
KeptPlain k = marks_of k.lines ≡ []

abbrev pub StoppedPlain : Stopped → Type 0
StoppedPlain stop = marks_of stop.lines ≡ []

-- what comes has lines that tell nothing of tasks
abbrev pub ComesPlain : {A : Type 0} → Came A → Type 0
ComesPlain came = LeavesWith KeptPlain StoppedPlain came

module _ (i callee : ℕ) where
  spent_plain : (r : Result ℕ LiftTrap) (k : Kept) → KeptPlain k → Spent KeptPlain StoppedPlain (spent_so r k)
  spent_plain (Ok left) k h = h
  spent_plain (Err fault) k h = h

  own_plain : (index : ℕ) (r : Result Handle Refusal) (k : Kept) → KeptPlain k → ComesPlain (own_taken i index r k)
  own_plain index (Ok x) k h = h
  own_plain index (Err why) k h = h

  borrow_plain : (index : ℕ) (r : Result Handle Refusal) (k : Kept) → KeptPlain k → ComesPlain (borrow_taken i callee index r k)
  borrow_plain index (Ok x) k h = marks_both k.lines (lend_line i index callee ∷ []) ∙ ap (λ (marks : List Mark). marks ++ []) h
  borrow_plain index (Err why) k h = h

  end_plain : (index : ℕ) (r : Result ℕ Refusal) (k : Kept) → KeptPlain k → ComesPlain (end_taken i index r k)
  end_plain index (Ok number) k h = h
  end_plain index (Err why) k h = h

  taken_plain : (what : What) (index : ℕ) (k : Kept) → KeptPlain k → ComesPlain (taken_as i callee what index k)
  taken_plain (AnOwn resource) index k h = own_plain index (own_in (view_at k.world i index) resource) k h
  taken_plain (ABorrow resource) index k h = borrow_plain index (handle_in (view_at k.world i index) resource) k h
  taken_plain (AnEnd kind element) index k h = end_plain index (lifting.end_seen (view_at k.world i index) kind element k.world i index) k h

  spends : (many place : ℕ) (k : Kept) → KeptPlain k → Spent KeptPlain StoppedPlain ((by_world i callee).spend many place k)
  spends many place k h = spent_plain (counted many place k.left) k h

  stops : (fault : LiftTrap) (k : Kept) → KeptPlain k → StoppedPlain ((by_world i callee).stop fault k)
  stops fault k h = h

  takes : (u : Use) (k : Kept) → KeptPlain k → ComesPlain ((by_world i callee).take u k)
  takes u k h = taken_plain u.what u.index k h

  made_plain : {X Y : Type 0} (f : X → Y) (came : Came X) → ComesPlain came → ComesPlain (made f came)
  made_plain f (Ok x) h = h
  made_plain f (Err stop) h = h

  either_plain : {X : Type 0} (b : Bool) (x y : Came X) → ComesPlain x → ComesPlain y → ComesPlain (if b then x else y)
  either_plain true x y h k = h
  either_plain false x y h k = k

  loaded_plain : (type : ValType) (bytes : List ℕ) (place : ℕ) (k : Kept) → KeptPlain k → ComesPlain (load_by (by_world i callee) type bytes place k)
  loaded_plain type bytes place k h = load_leaves (by_world i callee) KeptPlain StoppedPlain spends stops takes type bytes place k h

  flat_plain : (type : ValType) (bytes words : List ℕ) (k : Kept) → KeptPlain k → ComesPlain (lift_flat_by (by_world i callee) type bytes words k)
  flat_plain type bytes words k h = lift_flat_leaves (by_world i callee) KeptPlain StoppedPlain spends stops takes type bytes words k h

  pub arguments_unmarked : (is_async : Bool) (f : FuncType) (bytes words : List ℕ) (w : World) → ComesPlain (arguments_lifted i callee is_async f bytes words w)
  unfolding arguments_lifted
  arguments_unmarked is_async f bytes words w = either_plain _ _ _ (loaded_plain (params_type f) bytes _ _ refl) (flat_plain (params_type f) bytes words _ refl)

  value_unmarked : (limit : ℕ) (type : ValType) (bytes words : List ℕ) (w : World) → ComesPlain (result_lifted i callee limit type bytes words w)
  unfolding result_lifted
  value_unmarked limit type bytes words w = either_plain _ _ _ (loaded_plain type bytes _ _ refl) (flat_plain type bytes words _ refl)

  pub elements_unmarked : (type : ValType) (bytes : List ℕ) (place count : ℕ) (w : World) → ComesPlain (elements_lifted i callee type bytes place count w)
  unfolding elements_lifted
  elements_unmarked type bytes place count w = load_list_leaves (by_world i callee) KeptPlain StoppedPlain spends stops takes type bytes place count _ refl

  pub result_unmarked : (limit : ℕ) (type : Option ValType) (options : Options) (words : List ℕ) (w : World) → ComesPlain (result_passed i callee limit type options words w)
  unfolding result_passed
  result_unmarked limit None options words w = refl
  result_unmarked limit (Some type) options words w = made_plain _ _ (value_unmarked limit type _ words w)
