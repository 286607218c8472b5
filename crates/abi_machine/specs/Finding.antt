-- What stands at an index of a table (Component Model, CanonicalABI.md, "Table State"): a subtask, a set, an end or a waitable, where it is
-- one, or the trap.
use Rattle.std.specs.Prelude.{ℕ, Bool, true, false, ◌&&◌, if◌then◌else◌, Option, Some, None, Result, Ok, Err}
use Rattle.builtin_kinds.specs.declared.EndKind.{EndKind}
use Rattle.builtin_kinds.specs.declared.EndKind.TheVariants.{Stream, Future}
use Rattle.syntax_trees.specs.declared.types.ValType.{ValType}
use Rattle.stream_ends.specs.declared.side.Side.{Side}
use Rattle.stream_ends.specs.declared.side.Side.TheVariants.{Reader, Writer}
use Rattle.abi_machine.specs.SameTypes.{same_held}
use Rattle.trace_labels.specs.declared.trap.TrapName.{TrapName}
use Rattle.trace_labels.specs.declared.trap.TrapName.TheVariants as trap
use Rattle.abi_machine.specs.Control.{EndRef}
use Rattle.abi_machine.specs.World.{Entry, OfSubtask, OfSet, OfEnd, World}
use Rattle.abi_machine.specs.Reading.{entry_at, channel_at}
use Rattle.abi_machine.specs.Counting.{passes}

-- the task that a subtask is
abbrev pub subtask_in : Option Entry → Result ℕ TrapName
subtask_in None = Err trap.Absent
subtask_in (Some (OfSubtask callee)) = Ok callee
subtask_in (Some entry) = Err trap.OtherKind

abbrev pub subtask_at : World → ℕ → ℕ → Result ℕ TrapName
subtask_at w i index = subtask_in (entry_at w i index)

-- the number of a set
abbrev pub set_in : Option Entry → Result ℕ TrapName
set_in None = Err trap.Absent
set_in (Some (OfSet set)) = Ok set
set_in (Some entry) = Err trap.OtherKind

abbrev pub set_at : World → ℕ → ℕ → Result ℕ TrapName
set_at w i index = set_in (entry_at w i index)

-- a subtask or an end
abbrev pub waitable_in : Option Entry → Result (Unit {0}) TrapName
waitable_in None = Err trap.Absent
waitable_in (Some (OfSubtask callee)) = Ok tt
waitable_in (Some (OfEnd e)) = Ok tt
waitable_in (Some entry) = Err trap.OtherKind

abbrev pub waitable_at : World → ℕ → ℕ → Result (Unit {0}) TrapName
waitable_at w i index = waitable_in (entry_at w i index)

-- the readable or writable end of a stream or a future of a type
abbrev pub same_side : Side → Side → Bool
same_side Reader Reader = true
same_side Reader Writer = false
same_side Writer Reader = false
same_side Writer Writer = true

abbrev pub same_kind : EndKind → EndKind → Bool
same_kind Stream Stream = true
same_kind Stream Future = false
same_kind Future Stream = false
same_kind Future Future = true

abbrev pub is_of_type : World → EndKind → Option ValType → EndRef → Bool
is_of_type w kind element e = same_kind e.kind kind && passes (λ c. same_held c.element element) (channel_at w e.kind e.number)

abbrev pub is_end_of : World → EndKind → Option ValType → Option Entry → Bool
is_end_of w kind element (Some (OfEnd e)) = is_of_type w kind element e
is_end_of w kind element entry = false

abbrev pub typed_end : Bool → EndRef → Result EndRef TrapName
typed_end of_type e = if of_type then Ok e else Err trap.OtherType

abbrev pub end_in : World → EndKind → Side → Option ValType → Option Entry → Result EndRef TrapName
end_in w kind side element None = Err trap.Absent
end_in w kind side element (Some (OfEnd e)) = if same_side e.side side then typed_end (is_of_type w kind element e) e else Err trap.OtherKind
end_in w kind side element (Some entry) = Err trap.OtherKind

abbrev pub end_at : World → EndKind → Side → Option ValType → ℕ → ℕ → Result EndRef TrapName
end_at w kind side element i index = end_in w kind side element (entry_at w i index)

-- What a blocked task waits for, where it is there: the task that a subtask is, a set by its number, an end.
abbrev pub accepted : {A : Type 0} → Result A TrapName → Option A
accepted (Ok x) = Some x
accepted (Err why) = None

abbrev pub found_subtask : World → ℕ → ℕ → Option ℕ
found_subtask w i index = accepted (subtask_at w i index)

abbrev pub set_number : World → ℕ → ℕ → Option ℕ
set_number w i index = accepted (set_at w i index)

abbrev pub any_end_in : Option Entry → Option EndRef
any_end_in (Some (OfEnd e)) = Some e
any_end_in entry = None

abbrev pub found_end : World → ℕ → ℕ → Option EndRef
found_end w i index = any_end_in (entry_at w i index)
