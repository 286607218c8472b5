-- What is known of an entry in which a handle is found.
use Rattle.std.proofs.Common.{◌≡◌, ℕ, refl, Bool, true, false, nat_eq, if◌then◌else◌, Option, Some, None, Result, Ok, Err, inl, inr}
use Rattle.std.specs.Prelude.{IsOk}
use Rattle.std.proofs.lemmas.Bool.{cases_eq, ne_eqb}
use Rattle.res_handles.specs.declared.handle.Handle.{Handle}
use Rattle.res_handles.specs.declared.handle.Ownership.{Ownership}
use Rattle.res_handles.specs.declared.handle.Ownership.TheVariants.{Own, Borrow}
use Rattle.res_handles.specs.declared.entry.EntryView.{EntryView}
use Rattle.res_handles.specs.declared.entry.EntryView.TheVariants as seen
use Rattle.res_handles.specs.declared.refusal.Refusal.{Refusal}
use Rattle.res_handles.specs.declared.refusal.Refusal.TheVariants.{OtherType, Lent}
use Rattle.res_handles.specs.Refusals.{unlent, owned, owned_by, that_is, handle_in, own_in, dropped_in}
use Rattle.res_handles.specs.Calls.{lends_in}
use Rattle.res_handles.specs.Runs.{IsOther, is_for, is_borrow_of}

-- an entry that is a handle
pub record IsFound (entry : Option EntryView) : Type 0 where
  pub handle : Handle
  pub is : entry ≡ Some (seen.Handle handle)

-- a handle that nothing is lent of
pub record IsKept (entry : Option EntryView) : Type 0 where
  pub found : IsFound entry
  pub lends : lends_in entry ≡ 0

-- a test that was passed behind that of the resource
pub passed : (b : Bool) (x : Handle) (why : Refusal) (test : Handle → Result Handle Refusal) → IsOk (that_is test (if b then Ok x else Err why)) → IsOk (test x)
passed true x why test h = h
passed false x why test h = cc

none_lent : (x : Handle) → IsOk (unlent x) → x.lends ≡ 0
none_lent x h = elim (cases_eq x.lends 0) [
  | inl e ↦ e
  | inr ne ↦ (let bad : IsOk (let r : Result Handle Refusal = if false then Ok x else Err Lent in r) = rw (ne_eqb x.lends 0 ne) at h in cc)
]

own_none_lent : (o : Ownership) (x : Handle) → IsOk (owned_by o x) → x.lends ≡ 0
own_none_lent Own x h = none_lent x h
own_none_lent (Borrow t) x h = cc

pub handle_found : (entry : Option EntryView) (resource : ℕ) → IsOk (handle_in entry resource) → IsFound entry
handle_found None resource h = cc
handle_found (Some seen.Other) resource h = cc
handle_found (Some (seen.ReadableEnd _)) resource h = cc
handle_found (Some (seen.Handle x)) resource h = record { handle = x; is = refl }

pub own_kept : (entry : Option EntryView) (resource : ℕ) → IsOk (own_in entry resource) → IsKept entry
own_kept None resource h = cc
own_kept (Some seen.Other) resource h = cc
own_kept (Some (seen.ReadableEnd _)) resource h = cc
own_kept (Some (seen.Handle x)) resource h =
    record { found = record { handle = x; is = refl }; lends = own_none_lent x.ownership x (passed (nat_eq x.resource resource) x OtherType owned h) }

pub dropped_kept : (entry : Option EntryView) (resource : ℕ) → IsOk (dropped_in entry resource) → IsKept entry
dropped_kept None resource h = cc
dropped_kept (Some seen.Other) resource h = cc
dropped_kept (Some (seen.ReadableEnd _)) resource h = cc
dropped_kept (Some (seen.Handle x)) resource h =
    record { found = record { handle = x; is = refl }; lends = none_lent x (passed (nat_eq x.resource resource) x OtherType unlent h) }

own_not_for : (task : ℕ) (o : Ownership) (x : Handle) → IsOk (owned_by o x) → is_for task o ≡ false
own_not_for task Own x h = refl
own_not_for task (Borrow t) x h = cc

-- an own handle is no borrow of any task
pub own_is_own : (task : ℕ) (entry : Option EntryView) (resource : ℕ) → IsOk (own_in entry resource) → is_borrow_of task entry ≡ false
own_is_own task None resource h = refl
own_is_own task (Some seen.Other) resource h = refl
own_is_own task (Some (seen.ReadableEnd _)) resource h = refl
own_is_own task (Some (seen.Handle x)) resource h = own_not_for task x.ownership x (passed (nat_eq x.resource resource) x OtherType owned h)

-- an entry that is no handle
pub record IsOtherFound (entry : Option EntryView) : Type 0 where
  pub other : EntryView
  pub is : entry ≡ Some other
  pub lends : lends_in entry ≡ 0
  pub for_none : (task : ℕ) → is_borrow_of task entry ≡ false

pub other_found : (entry : Option EntryView) → IsOther entry → IsOtherFound entry
other_found None h = absurd h
other_found (Some (seen.Handle x)) h = absurd h
other_found (Some (seen.ReadableEnd x)) h = record { other = seen.ReadableEnd x; is = refl; lends = refl; for_none = λ task. refl }
other_found (Some seen.Other) h = record { other = seen.Other; is = refl; lends = refl; for_none = λ task. refl }
