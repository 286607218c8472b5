-- What a copy comes to, by what is lifted.
use Rattle.std.proofs.Common.{◌≡◌, ℕ, Bool, true, false, List, refl, sym, ◌∙◌, subst, Result, Ok, Err}
use Rattle.std.specs.Prelude.{IfOk}
use Rattle.faults.specs.declared.memory.Memory.{Memory as Want}
use Rattle.faults.specs.declared.memory.MemoryOr.{MemoryOr}
use Rattle.faults.specs.declared.memory.MemoryOr.TheVariants.{Fault}
use Rattle.syntax_trees.specs.declared.types.ValType.{ValType}
use Rattle.syntax_trees.specs.declared.value.Value.{Value}
use Rattle.handle_table.specs.Slots.{Slots}
use Rattle.res_handles.specs.declared.entry.EntryView.{EntryView}
use Rattle.value_lift.specs.declared.trap.LiftTrap.{LiftTrap}
use Rattle.value_lift.specs.declared.moved.Moved.{Moved}
use Rattle.value_lift.specs.Ledger.{Came}
use Rattle.value_lift.specs.Tables.{Kept, Stop, given, MayGive}
use Rattle.value_lower.specs.Plan.{New}
use Rattle.copy_engine.specs.declared.copying.Copied.{Copied}
use Rattle.copy_engine.specs.declared.copying.Copied.TheVariants as copied
use Rattle.copy_engine.specs.Answering.{Setting}
use Rattle.copy_engine.specs.Hosted.{Placed}
use Rattle.copy_engine.specs.Copying.{CopyState, all_fit, LowersAll, LowersFitting, CopiesBy}

-- A call that lifts answers a fault.
pub fault_given : {E : Type 0} (came : Came (Kept E) (Stop E) (List Value)) (slots : Slots E) (moved : List Moved) (e : MemoryOr LiftTrap) (trap : LiftTrap) → e ≡ Fault trap
    → MayGive came slots moved (Err e) → came ≡ Err (record { trap = trap; slots = slots; moved = moved })
fault_given came slots moved e trap is h = subst (λ (x : MemoryOr LiftTrap). MayGive came slots moved (Err x)) is h

module _ {E : Type 0} (seen : E → EntryView) (is : New → E → Type 0) (to : Setting) (home : List ℕ) (type : ValType) (place : ℕ) where
  -- the elements are of their type, or not
  pub all_lower : (values : List Value) (b : Bool) (before after : Placed E) (result : Result Copied Want) → b ≡ all_fit type values → b ≡ true
      → IfOk result (λ c. LowersAll seen is to home type place values before c after) → IfOk result (λ c. LowersFitting seen is to home type place (all_fit type values) values before c after)
  all_lower values b before after result told holds h =
      subst (λ (x : Bool). IfOk result (λ c. LowersFitting seen is to home type place x values before c after)) (sym holds ∙ told) h

  pub none_lower : (values : List Value) (b : Bool) (p : Placed E) → b ≡ all_fit type values → b ≡ false
      → LowersFitting seen is to home type place (all_fit type values) values p copied.Misfit p
  none_lower values b p told fails =
      subst (λ (x : Bool). LowersFitting seen is to home type place x values p copied.Misfit p) (sym fails ∙ told) (refl, refl)

  -- what is lifted is lowered
  pub lifted_copies : (came : Came (Kept E) (Stop E) (List Value)) (values : List Value) (slots : Slots E) (moved : List Moved) (before : CopyState E) (after : Placed E) (result : Result Copied Want)
      → given came ≡ Ok (values, slots, moved) → IfOk result (λ c. LowersFitting seen is to home type place (all_fit type values) values before.placed c after)
      → IfOk result (λ c. CopiesBy seen is to home type place (given came) before c (record { out = slots; moved = moved; placed = after }))
  lifted_copies came values slots moved before after (Ok c) e h =
      subst (λ (r : Result (List Value × Slots E × List Moved) (Stop E)). CopiesBy seen is to home type place r before c (record { out = slots; moved = moved; placed = after })) (sym e) (refl, refl, h)
  lifted_copies came values slots moved before after (Err want) e h = tt

  -- or lifting stops
  pub stopped_copies : (came : Came (Kept E) (Stop E) (List Value)) (trap : LiftTrap) (slots : Slots E) (moved : List Moved) (before : CopyState E)
      → came ≡ Err (record { trap = trap; slots = slots; moved = moved })
      → CopiesBy seen is to home type place (given came) before (copied.NotLifted trap) (record { out = slots; moved = moved; placed = before.placed })
  stopped_copies came trap slots moved before e =
      subst (λ (r : Came (Kept E) (Stop E) (List Value)). CopiesBy seen is to home type place (given r) before (copied.NotLifted trap) (record { out = slots; moved = moved; placed = before.placed })) (sym e)
      (refl, refl, refl, refl)
