-- What stands where an end or a subtask is taken out of its table: nothing is under way at the end.
use Rattle.std.proofs.Common.{◌≡◌, ℕ, ◌&&◌, Bool, true, false, not, List, [], ◌∷◌, refl, sym, subst, Option, Some, None, Result, Ok, Err, if◌then◌else◌}
use Rattle.std.specs.Prelude.{is_none}
use Rattle.std.specs.Option.{option_map}
use Rattle.syntax_trees.specs.declared.types.ValType.{ValType}
use Rattle.builtin_kinds.specs.declared.EndKind.{EndKind}
use Rattle.builtin_kinds.specs.declared.EndKind.TheVariants.{Stream, Future}
use Rattle.res_handles.specs.declared.readable_end.ReadableEnd.{ReadableEnd}
use Rattle.res_handles.specs.declared.refusal.Refusal.{Refusal}
use Rattle.res_handles.specs.declared.refusal.Refusal.TheVariants.{NotIdle}
use Rattle.res_handles.specs.Ends as readable
use Rattle.stream_ends.specs.declared.side.Side.{Side}
use Rattle.stream_ends.specs.declared.side.Side.TheVariants.{Reader, Writer}
use Rattle.stream_ends.specs.Ends.{is_idle}
use Rattle.tasks.specs.Subtasks.{is_over}
use Rattle.stream_ends.specs.declared.open_copy.OpenCopy.{OpenCopy}
use Rattle.trace_labels.specs.declared.trap.TrapName.TheVariants as trap
use Rattle.abi_machine.specs.SameTypes.{same_held}
use Rattle.abi_machine.specs.Control.{EndRef}
use Rattle.abi_machine.specs.World.{Entry, OwnHandle, BorrowHandle, OfSubtask, OfSet, OfEnd, World}
use Rattle.abi_machine.specs.Edits.{control_behind}
use Rattle.abi_machine.specs.Reading.{entry_at, channel_at}
use Rattle.abi_machine.specs.Counting.{passes, entry_view, view_at, end_of, end_view}
use Rattle.abi_machine.specs.Finding.{subtask_in, subtask_at, same_side, same_kind, is_of_type, is_end_of, typed_end, end_in, end_at}
use Rattle.abi_machine.specs.Lifting as lifting
use Rattle.abi_machine.specs.sound.Changes.{Stands}
use Rattle.abi_machine.specs.sound.Agreeing.{Agrees}
use Rattle.abi_machine.specs.sound.Premises.{IsTaken}
use Rattle.abi_machine.specs.sound.Subtasks.{CallIs}
use Rattle.abi_machine.proofs.sound.Found.{ok_same}

pub behind_agrees : (chain : List ℕ) (w : World) → w.chain ≡ chain → Agrees (control_behind chain) w
behind_agrees [] w e = e
behind_agrees (t ∷ below) w e = tt

-- An idle end has no copy.
no_copy : (dropped done : Bool) (o : Option OpenCopy) → (not dropped && not done && is_none o) ≡ true → o ≡ None
no_copy dropped done None e = refl
no_copy true done (Some copy) e = cc
no_copy false true (Some copy) e = cc
no_copy false false (Some copy) e = cc

idle_if : (idle : Bool) (number n : ℕ) → (let r : Result ℕ Refusal = if idle then Ok number else Err NotIdle in r) ≡ Ok n → idle ≡ true
idle_if true number n e = refl
idle_if false number n e = cc

idle_end : (of_type : Bool) (x : ReadableEnd) (n : ℕ) → readable.end_of of_type x ≡ Ok n → x.is_idle ≡ true
idle_end false x n e = cc
idle_end true x n e = idle_if x.is_idle x.number n e

lifted_idle : (w : World) (r : EndRef) (side : Side) (i index : ℕ) (kind : EndKind) (element : Option ValType) (x : ℕ) → lifting.end_seen (Some (end_view w r side)) kind element w i index ≡ Ok x
    → (end_of w r).copy ≡ None
lifted_idle w r Reader i index kind element x e =
    no_copy (end_of w r).dropped (end_of w r).done (end_of w r).copy
    (idle_end (is_end_of w kind element (entry_at w i index)) (record { number = r.number; is_idle = is_idle (end_of w r) }) x e)
lifted_idle w r Writer i index kind element x e = cc

pub lifted_end_taken : (w : World) (i index : ℕ) (kind : EndKind) (element : Option ValType) (x : ℕ) → lifting.end_seen (view_at w i index) kind element w i index ≡ Ok x
    → Stands w i index (IsTaken w)
lifted_end_taken w i index kind element x h = by (entry_at w i index) refl h
  where
    by : (o : Option Entry) → entry_at w i index ≡ o → lifting.end_seen (option_map (entry_view w i index) o) kind element w i index ≡ Ok x → Stands w i index (IsTaken w)
    by None e k = cc
    by (Some (OwnHandle of_type rep)) e k = cc
    by (Some (BorrowHandle of_type rep task)) e k = cc
    by (Some (OfSubtask callee)) e k = cc
    by (Some (OfSet set)) e k = cc
    by (Some (OfEnd r)) e k = (OfEnd r, e, (tt, lifted_idle w r r.side i index kind element x k, tt))

pub subtask_taken : (w : World) (i index callee : ℕ) → subtask_at w i index ≡ Ok callee → CallIs w.tasks callee (λ subtask. is_over subtask.told ≡ true) → Stands w i index (IsTaken w)
subtask_taken w i index callee h told = by (entry_at w i index) refl h
  where
    by : (o : Option Entry) → entry_at w i index ≡ o → subtask_in o ≡ Ok callee → Stands w i index (IsTaken w)
    by None e k = cc
    by (Some (OwnHandle of_type rep)) e k = cc
    by (Some (BorrowHandle of_type rep task)) e k = cc
    by (Some (OfSubtask other)) e k = (OfSubtask other, e, (tt, tt, subst (λ (n : ℕ). CallIs w.tasks n (λ subtask. is_over subtask.told ≡ true)) (sym (ok_same k)) told))
    by (Some (OfSet set)) e k = cc
    by (Some (OfEnd r)) e k = cc

-- An end is found as one of a kind.
pub same_kind_is : (a b : EndKind) (rest : Bool) → (same_kind a b && rest) ≡ true → a ≡ b
same_kind_is Stream Stream rest e = refl
same_kind_is Stream Future rest e = cc
same_kind_is Future Stream rest e = cc
same_kind_is Future Future rest e = refl

typed_is : (P : EndRef → Type 0) (same typed : Bool) (r x : EndRef) → (if same then typed_end typed r else Err trap.OtherKind) ≡ Ok x → (typed ≡ true → P r) → P x
typed_is P true true r x e h = subst P (ok_same e) (h refl)
typed_is P true false r x e h = cc
typed_is P false typed r x e h = cc

abbrev IsFoundAs : World → ℕ → EndKind → ℕ → EndRef → Type 0
IsFoundAs w i kind index x = (entry_at w i index ≡ Some (OfEnd x)) × (x.kind ≡ kind)

pub end_found : (w : World) (i : ℕ) (kind : EndKind) (side : Side) (element : Option ValType) (index : ℕ) (x : EndRef) → end_at w kind side element i index ≡ Ok x
    → (entry_at w i index ≡ Some (OfEnd x)) × (x.kind ≡ kind)
end_found w i kind side element index x h = by (entry_at w i index) refl h
  where
    by : (o : Option Entry) → entry_at w i index ≡ o → end_in w kind side element o ≡ Ok x → IsFoundAs w i kind index x
    by None e k = cc
    by (Some (OwnHandle of_type rep)) e k = cc
    by (Some (BorrowHandle of_type rep task)) e k = cc
    by (Some (OfSubtask callee)) e k = cc
    by (Some (OfSet set)) e k = cc
    by (Some (OfEnd r)) e k =
        typed_is (IsFoundAs w i kind index) (same_side r.side side) (is_of_type w kind element r) r x k
        (λ typed. (e, same_kind_is r.kind kind (passes (λ c. same_held c.element element) (channel_at w r.kind r.number)) typed))
