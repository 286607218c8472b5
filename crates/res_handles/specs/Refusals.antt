-- What is found at an index where a handle is wanted, or why it is refused (Component Model, CanonicalABI.md, `lift_own`,
-- `lift_borrow`, `canon resource.drop` and `canon resource.rep`).
use Rattle.std.specs.Prelude.{ℕ, nat_eq, if◌then◌else◌, Option, Some, None, Result, Ok, Err}
use Rattle.res_handles.specs.declared.handle.Handle.{Handle}
use Rattle.res_handles.specs.declared.handle.Ownership.{Ownership}
use Rattle.res_handles.specs.declared.handle.Ownership.TheVariants.{Own, Borrow}
use Rattle.res_handles.specs.declared.entry.EntryView.{EntryView}
use Rattle.res_handles.specs.declared.entry.EntryView.TheVariants as seen
use Rattle.res_handles.specs.declared.refusal.Refusal.{Refusal}
use Rattle.res_handles.specs.declared.refusal.Refusal.TheVariants.{Absent, OtherKind, OtherType, NotOwn, Lent}

-- a handle of this resource
abbrev pub of_resource : ℕ → Handle → Result Handle Refusal
of_resource resource x = if nat_eq x.resource resource then Ok x else Err OtherType

-- one of which nothing is lent
abbrev pub unlent : Handle → Result Handle Refusal
unlent x = if nat_eq x.lends 0 then Ok x else Err Lent

-- an own handle of which nothing is lent. The standard traps without a reason, and tests the lends first: that `NotOwn` comes before
-- `Lent` is the order of this project.
abbrev pub owned_by : Ownership → Handle → Result Handle Refusal
owned_by Own x = unlent x
owned_by (Borrow _) x = Err NotOwn

abbrev pub owned : Handle → Result Handle Refusal
owned x = owned_by x.ownership x

-- what is found, if it passes a further test
abbrev pub that_is : (Handle → Result Handle Refusal) → Result Handle Refusal → Result Handle Refusal
that_is test (Ok x) = test x
that_is test (Err why) = Err why

-- The handle that an entry is, if it is one of this resource: lifted as a borrow, or read.
abbrev pub handle_in : Option EntryView → ℕ → Result Handle Refusal
handle_in None resource = Err Absent
handle_in (Some seen.Other) resource = Err OtherKind
handle_in (Some (seen.ReadableEnd _)) resource = Err OtherKind
handle_in (Some (seen.Handle x)) resource = of_resource resource x

-- The same where it is lifted as own,
abbrev pub own_in : Option EntryView → ℕ → Result Handle Refusal
own_in entry resource = that_is owned (handle_in entry resource)

-- and where it is dropped.
abbrev pub dropped_in : Option EntryView → ℕ → Result Handle Refusal
dropped_in entry resource = that_is unlent (handle_in entry resource)

-- the representation of what is found
abbrev pub rep_of : Result Handle Refusal → Result ℕ Refusal
rep_of (Ok x) = Ok x.rep
rep_of (Err why) = Err why
