-- What stands in the table of an instance (Component Model, CanonicalABI.md, "Table State"), as handles and ends that are lifted see it, and
-- what is found at an index where a subtask, a set, a waitable or an end is wanted, or why it is refused.
use Rattle.std.specs.Prelude.{ℕ, nat_eq, Bool, true, false, if◌then◌else◌, Option, Some, None, Result, Ok, Err}
use Rattle.stream_ends.specs.declared.side.Side.{Side}
use Rattle.stream_ends.specs.declared.side.Side.TheVariants.{Reader, Writer}
use Rattle.res_handles.specs.declared.handle.Handle.{Handle}
use Rattle.res_handles.specs.declared.entry.EntryView.{EntryView}
use Rattle.res_handles.specs.declared.entry.EntryView.TheVariants as seen
use Rattle.res_handles.specs.declared.refusal.Refusal.{Refusal}
use Rattle.res_handles.specs.declared.refusal.Refusal.TheVariants.{Absent, OtherKind, OtherType, NotIdle}
use Rattle.instances.specs.declared.entry.EndEntry.{EndEntry}
use Rattle.instances.specs.declared.entry.WorldEntry.{WorldEntry}
use Rattle.instances.specs.declared.entry.WorldEntry.TheVariants as entry

abbrev pub same_side : Side → Side → Bool
same_side Reader Reader = true
same_side Reader Writer = false
same_side Writer Reader = false
same_side Writer Writer = true

-- whether an end is of the type of a number, in a table in which no type stands twice
abbrev pub is_of_type : ℕ → EndEntry → Bool
is_of_type wanted e = nat_eq e.end_type wanted

abbrev pub with_idle : Bool → EndEntry → EndEntry
with_idle is_idle e = record e { is_idle = is_idle }

-- What is lifted: a handle or a readable end.
abbrev pub seen_by : Side → EndEntry → EntryView
seen_by Reader e = seen.ReadableEnd (record { number = e.number; is_idle = e.is_idle })
seen_by Writer e = seen.Other

abbrev pub seen_end : EndEntry → EntryView
seen_end e = seen_by e.side e

abbrev pub seen_as : WorldEntry → EntryView
seen_as (entry.Handle x) = seen.Handle x
seen_as (entry.Subtask callee) = seen.Other
seen_as (entry.Set set) = seen.Other
seen_as (entry.End e) = seen_end e

-- the number of the type of a readable end
abbrev pub readable_type : Side → EndEntry → Option ℕ
readable_type Reader e = Some e.end_type
readable_type Writer e = None

abbrev pub end_type_of : WorldEntry → Option ℕ
end_type_of (entry.Handle x) = None
end_type_of (entry.Subtask callee) = None
end_type_of (entry.Set set) = None
end_type_of (entry.End e) = readable_type e.side e

-- the entries that are made of a handle, and of the readable end of a stream or a future that nobody has read
abbrev pub of_handle : Handle → WorldEntry
of_handle x = entry.Handle x

abbrev pub of_end : ℕ → ℕ → WorldEntry
of_end t number = entry.End (record { side = Reader; end_type = t; number = number; is_idle = true })

-- the task that a subtask is
abbrev pub subtask_in : Option WorldEntry → Result ℕ Refusal
subtask_in None = Err Absent
subtask_in (Some (entry.Handle x)) = Err OtherKind
subtask_in (Some (entry.Subtask callee)) = Ok callee
subtask_in (Some (entry.Set set)) = Err OtherKind
subtask_in (Some (entry.End e)) = Err OtherKind

-- the number of a set
abbrev pub set_in : Option WorldEntry → Result ℕ Refusal
set_in None = Err Absent
set_in (Some (entry.Handle x)) = Err OtherKind
set_in (Some (entry.Subtask callee)) = Err OtherKind
set_in (Some (entry.Set set)) = Ok set
set_in (Some (entry.End e)) = Err OtherKind

-- a subtask or an end
abbrev pub waitable_in : Option WorldEntry → Result (Unit {0}) Refusal
waitable_in None = Err Absent
waitable_in (Some (entry.Handle x)) = Err OtherKind
waitable_in (Some (entry.Subtask callee)) = Ok tt
waitable_in (Some (entry.Set set)) = Err OtherKind
waitable_in (Some (entry.End e)) = Ok tt

-- the end of a side and a type
abbrev pub typed_end : ℕ → EndEntry → Result EndEntry Refusal
typed_end wanted e = if is_of_type wanted e then Ok e else Err OtherType

abbrev pub end_in : Side → ℕ → Option WorldEntry → Result EndEntry Refusal
end_in side wanted None = Err Absent
end_in side wanted (Some (entry.Handle x)) = Err OtherKind
end_in side wanted (Some (entry.Subtask callee)) = Err OtherKind
end_in side wanted (Some (entry.Set set)) = Err OtherKind
end_in side wanted (Some (entry.End e)) = if same_side e.side side then typed_end wanted e else Err OtherKind

-- the readable end of a type that is lifted
abbrev pub idle_number : EndEntry → Result ℕ Refusal
idle_number e = if e.is_idle then Ok e.number else Err NotIdle

abbrev pub idle_in : Result EndEntry Refusal → Result ℕ Refusal
idle_in (Ok e) = idle_number e
idle_in (Err why) = Err why

abbrev pub lifted_end : ℕ → Option WorldEntry → Result ℕ Refusal
lifted_end wanted found = idle_in (end_in Reader wanted found)

-- an end of any type
abbrev pub any_end_in : Option WorldEntry → Option EndEntry
any_end_in None = None
any_end_in (Some (entry.Handle x)) = None
any_end_in (Some (entry.Subtask callee)) = None
any_end_in (Some (entry.Set set)) = None
any_end_in (Some (entry.End e)) = Some e
