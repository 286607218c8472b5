-- Handles that are found, sets that may be dropped, and subtasks and sets that stand at an index.
use Rattle.std.proofs.Common.{◌≡◌, ℕ, Bool, true, false, nat_lt, List, [], ◌∷◌, refl, sym, ap, ◌∙◌, subst, arith, Option, Some, None, Result, Ok, Err, if◌then◌else◌}
use Rattle.std.proofs.lemmas.Bool.Decides.{nat_tests}
use Rattle.std.specs.Option.{option_map}
use Rattle.res_handles.specs.declared.handle.Handle.{Handle}
use Rattle.res_handles.specs.declared.refusal.Refusal.{Refusal}
use Rattle.res_handles.specs.Refusals.{handle_in, that_is, owned, own_in, unlent, dropped_in}
use Rattle.stream_ends.specs.declared.side.Side.{Side}
use Rattle.stream_ends.specs.declared.side.Side.TheVariants.{Reader, Writer}
use Rattle.waitables.specs.declared.refusal.SetRefusal.{SetRefusal}
use Rattle.waitables.specs.declared.refusal.SetRefusal.TheVariants.{Waiters}
use Rattle.waitables.specs.Sets.{SetView, drop_answer}
use Rattle.trace_labels.specs.declared.trap.TrapName.{TrapName}
use Rattle.abi_machine.specs.Control.{EndRef}
use Rattle.abi_machine.specs.World.{Entry, OwnHandle, BorrowHandle, OfSubtask, OfSet, OfEnd, World}
use Rattle.abi_machine.specs.Reading.{entry_at}
use Rattle.abi_machine.specs.Counting.{waiters_of, end_view, entry_view, view_at}
use Rattle.abi_machine.specs.Finding.{subtask_in, subtask_at, accepted, found_subtask}
use Rattle.abi_machine.specs.sound.Changes.{Stands, IsLeft}
use Rattle.abi_machine.proofs.sound.Found.{some_same}

abbrev pub IsHandle : Entry → Type 0
IsHandle (OwnHandle resource rep) = Unit {0}
IsHandle (BorrowHandle resource rep task) = Unit {0}
IsHandle (OfSubtask callee) = ⊥
IsHandle (OfSet set) = ⊥
IsHandle (OfEnd e) = ⊥

-- It may leave a table by itself, and is no set that is waited on.
left_as : (w : World) (i : ℕ) (entry : Entry) → IsHandle entry → IsLeft w i entry
left_as w i (OwnHandle resource rep) h = tt
left_as w i (BorrowHandle resource rep task) h = tt
left_as w i (OfSubtask callee) h = absurd h
left_as w i (OfSet set) h = absurd h
left_as w i (OfEnd e) h = absurd h

pub handle_is_left : (w : World) (i index : ℕ) → Stands w i index IsHandle → Stands w i index (IsLeft w i)
handle_is_left w i index h = (h.0, h.1, left_as w i h.0 h.2)

pub handle_unwaited : (w : World) (i index : ℕ) → Stands w i index IsHandle → (set : ℕ) → entry_at w i index ≡ Some (OfSet set) → waiters_of w i index ≡ 0
handle_unwaited w i index h set e = absurd (subst IsHandle (some_same (sym h.1 ∙ e)) h.2)

end_is_no_handle : (w : World) (e : EndRef) (side : Side) (resource : ℕ) (x : Handle) → handle_in (Some (end_view w e side)) resource ≡ Ok x → ⊥
end_is_no_handle w e Reader resource x h = cc
end_is_no_handle w e Writer resource x h = cc

handle_found : (w : World) (i index resource : ℕ) (x : Handle) → handle_in (view_at w i index) resource ≡ Ok x → Stands w i index IsHandle
handle_found w i index resource x h = by (entry_at w i index) refl h
  where
    by : (o : Option Entry) → entry_at w i index ≡ o → handle_in (option_map (entry_view w i index) o) resource ≡ Ok x → Stands w i index IsHandle
    by None e k = cc
    by (Some (OwnHandle of_type rep)) e k = (OwnHandle of_type rep, e, tt)
    by (Some (BorrowHandle of_type rep task)) e k = (BorrowHandle of_type rep task, e, tt)
    by (Some (OfSubtask callee)) e k = cc
    by (Some (OfSet set)) e k = cc
    by (Some (OfEnd r)) e k = absurd (end_is_no_handle w r r.side resource x k)

that_ok : (test : Handle → Result Handle Refusal) (r : Result Handle Refusal) (x : Handle) → that_is test r ≡ Ok x → (y : Handle) × (r ≡ Ok y)
that_ok test (Ok y) x h = (y, refl)
that_ok test (Err why) x h = cc

pub own_found : (w : World) (i index resource : ℕ) (x : Handle) → own_in (view_at w i index) resource ≡ Ok x → Stands w i index IsHandle
own_found w i index resource x h = let y = that_ok owned (handle_in (view_at w i index) resource) x h in handle_found w i index resource y.0 y.1

pub dropped_found : (w : World) (i index resource : ℕ) (x : Handle) → dropped_in (view_at w i index) resource ≡ Ok x → Stands w i index IsHandle
dropped_found w i index resource x h = let y = that_ok unlent (handle_in (view_at w i index) resource) x h in handle_found w i index resource y.0 y.1

-- No task waits on a set that may be dropped.
none_wait : (members : List ℕ) (waiters : ℕ) (x : Unit {0}) → drop_answer (record { members = members; waiters = waiters }) ≡ Ok x → waiters ≡ 0
none_wait [] waiters x h = by (nat_lt 0 waiters) refl h
  where
    by : (b : Bool) → nat_lt 0 waiters ≡ b → (let r : Result (Unit {0}) SetRefusal = if b then Err Waiters else Ok tt in r) ≡ Ok x → waiters ≡ 0
    by true e k = cc
    by false e k = grind (arith, nat_tests)
none_wait (m ∷ members) waiters x h = cc

pub set_none_wait : (v : SetView) (x : Unit {0}) → drop_answer v ≡ Ok x → v.waiters ≡ 0
set_none_wait v x h = none_wait v.members v.waiters x h

-- the subtask that was found stands there
pub subtask_there : (w : World) (i index callee : ℕ) → subtask_at w i index ≡ Ok callee → entry_at w i index ≡ Some (OfSubtask callee)
subtask_there w i index callee h = by (entry_at w i index) refl h
  where
    by : (o : Option Entry) → entry_at w i index ≡ o → subtask_in o ≡ Ok callee → entry_at w i index ≡ Some (OfSubtask callee)
    by None e k = cc
    by (Some (OwnHandle of_type rep)) e k = cc
    by (Some (BorrowHandle of_type rep task)) e k = cc
    by (Some (OfSubtask other)) e k = let same : other ≡ callee = cc in e ∙ ap (λ (n : ℕ). Some (OfSubtask n)) same
    by (Some (OfSet set)) e k = cc
    by (Some (OfEnd r)) e k = cc

accepted_ok : {A : Type 0} (r : Result A TrapName) (x : A) → accepted r ≡ Some x → r ≡ Ok x
accepted_ok (Ok y) x h = let same : y ≡ x = some_same h in ap (λ (z : _). Ok z) same
accepted_ok (Err why) x h = cc

pub found_subtask_there : (w : World) (i index callee : ℕ) → found_subtask w i index ≡ Some callee → entry_at w i index ≡ Some (OfSubtask callee)
found_subtask_there w i index callee h = subtask_there w i index callee (accepted_ok (subtask_at w i index) callee h)
