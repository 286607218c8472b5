-- Loans hold in each world that a run reaches, and handles stay lent through all steps that follow.
use Rattle.std.proofs.Common.{◌≡◌, ◌⊎◌, inl, inr, ℕ, true, List, [], ◌∷◌, refl, sym, subst, Some}
use Rattle.tasks.specs.declared.subtask_state.SubtaskState.{SubtaskState}
use Rattle.tasks.specs.Subtasks.{is_over}
use Rattle.comp_graph.specs.declared.graph.CanonFunc.{CanonFunc}
use Rattle.comp_graph.specs.Graph.{Graph}
use Rattle.script_reader.specs.Script.{Script}
use Rattle.trace_labels.specs.declared.label.Label.{Label}
use Rattle.abi_machine.specs.World.{Entry, World, first_world}
use Rattle.abi_machine.specs.Canons.{inst_of_canon, canon_at}
use Rattle.abi_machine.specs.Reading.{entry_at}
use Rattle.abi_machine.specs.Turn.{Steps}
use Rattle.abi_machine.specs.Next.{next}
use Rattle.abi_machine.specs.Run.{Reaches}
use Rattle.abi_machine.specs.sound.Subtasks.{CallIs}
use Rattle.abi_machine.specs.sound.Cancels.{IsOver}
use Rattle.abi_machine.specs.sound.Rising.{IsToldBehind}
use Rattle.abi_machine.specs.sound.Owners.{IsApart}
use Rattle.abi_machine.specs.sound.PassedTypes.{PassesNoBorrow}
use Rattle.abi_machine.specs.sound.LentHandles.{Lends}
use Rattle.abi_machine.specs.sound.GoingOn.{IsStanding}
use Rattle.abi_machine.specs.sound.LoansReached.{HoldsLent, ReachedHoldLoans, ReachedStayLent, ReachedStayOver}
use Rattle.abi_machine.proofs.sound.Unborrowed.{first_holds_no_borrow, no_borrow_stays}
use Rattle.abi_machine.proofs.sound.OwnCalling.{first_by_own, by_own_stay}
use Rattle.abi_machine.proofs.sound.Lent.{first_holds_loans, loans_stay}
use Rattle.abi_machine.proofs.sound.KeptLent.{handles_stay_lent}
use Rattle.abi_machine.proofs.sound.Rising.{states_rise}
use Rattle.abi_machine.proofs.sound.Reached.{first_stands, standing_stays, reached_stand}

first_lent : (g : Graph) → HoldsLent g (first_world g)
first_lent g = record { loans = first_holds_loans g; callers = first_by_own g; types = first_holds_no_borrow g }

lent_stays : (g : Graph) (s : Script) (w v : World) (labels : List Label) → IsApart g → PassesNoBorrow g → IsStanding g s w → HoldsLent g w → next g s w ≡ Steps labels v → HoldsLent g v
lent_stays g s w v labels apart none h k e = record {
  loans = loans_stay g s w v labels apart none h.alone h.ordered h.histories k.types h.own h.control_own k.callers k.loans e;
  callers = by_own_stay g s w v labels apart h.alone h.ordered h.own h.control_own k.callers e;
  types = no_borrow_stays g s w v labels none h.alone k.types e;
}

lent_from : (g : Graph) (s : Script) (steps : List (List Label)) (w v : World) → IsApart g → PassesNoBorrow g → IsStanding g s w → HoldsLent g w → Reaches g s w steps v → HoldsLent g v
lent_from g s [] w v apart none h k r = subst (HoldsLent g) (sym r) k
lent_from g s (labels ∷ steps) w v apart none h k r =
    lent_from g s steps r.0 v apart none (standing_stays g s w r.0 labels apart h r.1) (lent_stays g s w r.0 labels apart none h k r.1) r.2

pub reached_hold_loans : ReachedHoldLoans
reached_hold_loans g s steps w apart none r = lent_from g s steps (first_world g) w apart none (first_stands g s apart) (first_lent g) r

-- A subtask stays over.
over_stays : (g : Graph) (s : Script) (w v : World) (labels : List Label) (t : ℕ) → IsStanding g s w → next g s w ≡ Steps labels v → CallIs w.tasks t IsOver → CallIs v.tasks t IsOver
over_stays g s w v labels t h e over =
    let state : SubtaskState = over.2.0.told in
    let b : CallIs v.tasks t (IsToldBehind state) = states_rise g s w v labels h.alone h.told e t state (over.0, over.1, (over.2.0, over.2.1, refl)) in
    (b.0, b.1, (b.2.0, b.2.1, subst (λ (x : SubtaskState). is_over x ≡ true) (sym (b.2.2.stays over.2.2)) over.2.2))

over_from : (g : Graph) (s : Script) (steps : List (List Label)) (w v : World) (t : ℕ) → IsApart g → IsStanding g s w → CallIs w.tasks t IsOver → Reaches g s w steps v → CallIs v.tasks t IsOver
over_from g s [] w v t apart h over r = subst (λ (x : World). CallIs x.tasks t IsOver) (sym r) over
over_from g s (labels ∷ steps) w v t apart h over r = over_from g s steps r.0 v t apart (standing_stays g s w r.0 labels apart h r.1) (over_stays g s w r.0 labels t h r.1 over) r.2

pub reached_stay_over : ReachedStayOver
reached_stay_over g s steps more w v apart r later t over = over_from g s more w v t apart (reached_stand g s steps w apart r) over later

-- Handles stay lent.
module _ (g : Graph) (s : Script) (apart : IsApart g) (none : PassesNoBorrow g) (t number place index : ℕ) (c : CanonFunc) (x : Entry) (is : canon_at g number ≡ Some c) where
  abbrev LentStill : World → Type 0
  LentStill v = CallIs v.tasks t IsOver ⊎ (CallIs v.tasks t (Lends number place index) × (entry_at v (inst_of_canon c) index ≡ Some x))

  still_next : (w v : World) (labels : List Label) → IsStanding g s w → HoldsLent g w → next g s w ≡ Steps labels v → LentStill w → LentStill v
  still_next w v labels h k e (inl over) = inl (over_stays g s w v labels t h e over)
  still_next w v labels h k e (inr lent) =
      handles_stay_lent g s w v labels apart none h.alone h.ordered h.histories h.told k.types h.own h.control_own k.callers k.loans e t number place index c x is lent.0 lent.1

  still_from : (steps : List (List Label)) (w v : World) → IsStanding g s w → HoldsLent g w → LentStill w → Reaches g s w steps v → LentStill v
  still_from [] w v h k still r = subst LentStill (sym r) still
  still_from (labels ∷ steps) w v h k still r =
      still_from steps r.0 v (standing_stays g s w r.0 labels apart h r.1) (lent_stays g s w r.0 labels apart none h k r.1) (still_next w r.0 labels h k r.1 still) r.2

pub reached_stay_lent : ReachedStayLent
reached_stay_lent g s steps more w v apart none r later t number place index c x is lent there =
    still_from g s apart none t number place index c x is more w v (reached_stand g s steps w apart r) (reached_hold_loans g s steps w apart none r) (inr (lent, there)) later
