-- Readable ends of streams and futures that are lifted and lowered (Component Model, CanonicalABI.md, `lift_stream`, `lift_future`,
-- `lower_stream` and `lower_future`).
use Rattle.std.specs.Prelude.{◌≡◌, ◌≢◌, ◌⊎◌, ◌↔◌, IsTrue, ℕ, ◌<◌, ◌≤◌, Bool, true, false, if◌then◌else◌, Option, Some, None, option_and_then, Result, Ok, Err}
use Rattle.handle_table.specs.History.{most_live}
use Rattle.handle_table.specs.Slots.{Slots, TableState, entry_at, count}
use Rattle.res_handles.specs.declared.readable_end.ReadableEnd.{ReadableEnd}
use Rattle.res_handles.specs.declared.entry.EntryView.{EntryView}
use Rattle.res_handles.specs.declared.entry.EntryView.TheVariants as seen
use Rattle.res_handles.specs.declared.refusal.Refusal.{Refusal}
use Rattle.res_handles.specs.declared.refusal.Refusal.TheVariants.{Absent, OtherKind, OtherType, NotIdle}
use Rattle.res_handles.specs.declared.refusal.LowerError.{LowerError}
use Rattle.res_handles.specs.declared.refusal.LowerError.TheVariants.{TableFull, Memory}

-- a new end
abbrev pub idle_end : ℕ → ReadableEnd
idle_end number = record { number = number; is_idle = true }

-- the number of an end, if it is idle,
abbrev pub idle_number : ReadableEnd → Result ℕ Refusal
idle_number x = if x.is_idle then Ok x.number else Err NotIdle

-- and where it is known whether it is of the type that is wanted
abbrev pub end_of : Bool → ReadableEnd → Result ℕ Refusal
end_of false x = Err OtherType
end_of true x = idle_number x

-- What is answered where an end of a type is wanted, by what the entry is and whether it is of that type as an end,
abbrev pub end_in : Option EntryView → Bool → Result ℕ Refusal
end_in None is_of_type = Err Absent
end_in (Some seen.Other) is_of_type = Err OtherKind
end_in (Some (seen.Handle _)) is_of_type = Err OtherKind
end_in (Some (seen.ReadableEnd x)) is_of_type = end_of is_of_type x

-- which a test of types tells by the type that it has;
abbrev pub is_of_by : {T : Type 0} → (T → T → Bool) → Option T → T → Bool
is_of_by same None wanted = false
is_of_by same (Some t) wanted = same t wanted

-- the test passes exactly where both are one type,
abbrev pub TellsApart : {T : Type 0} → (T → T → Bool) → Type 0
TellsApart {T} same = (a b : T) → IsTrue (same a b) ↔ (a ≡ b)

-- and the same with no test.
abbrev pub EndAnswer : {T : Type 0} → Option EntryView → Option T → T → Result ℕ Refusal → Type 0
EndAnswer None end_type wanted answer = answer ≡ Err Absent
EndAnswer (Some seen.Other) end_type wanted answer = answer ≡ Err OtherKind
EndAnswer (Some (seen.Handle _)) end_type wanted answer = answer ≡ Err OtherKind
EndAnswer (Some (seen.ReadableEnd x)) end_type wanted answer =
    ((end_type ≡ Some wanted) × (answer ≡ idle_number x)) ⊎ ((end_type ≢ Some wanted) × (answer ≡ Err OtherType))

module _ {E T : Type 0} where
  -- the type of the end at an index
  abbrev pub end_type_at : (E → Option T) → Slots E → ℕ → Option T
  end_type_at end_type s index = option_and_then end_type (entry_at s index)

module _ {E : Type 0} where
  -- no end was lowered: the table is full, or there is no memory for one more
  abbrev pub EndNotLowered : TableState E → LowerError → TableState E → Type 0
  EndNotLowered old TableFull new = (count old.slots ≡ most_live) × (new ≡ old)
  EndNotLowered old Memory new = (count old.slots < most_live) × (old.spare ≤ new.spare) × (new.slots ≡ old.slots)
