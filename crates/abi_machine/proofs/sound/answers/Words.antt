-- Words that are answered are i32: indices of entries, states of subtasks, codes of events, and payloads of copies.
use Rattle.std.proofs.Common.{◌≡◌, ◌<◌, ◌≤◌, ◌^◌, ◌+◌, ◌-◌, ℕ, zero, suc, List, [], ◌∷◌, length, refl, subst, arith, Option, Some, None}
use Rattle.std.specs.List.{AllByRecursion}
use Rattle.wasm_store.proofs.Lists.{all_at}
use Rattle.handle_table.specs.History.{Event, IsHistory, live_count, most_live, next_in, next_index, greatest, freed, slots_of}
use Rattle.handle_table.specs.Slots.{slots_after}
use Rattle.handle_table.specs.Sound.{IsSound, AreFree}
use Rattle.handle_table.proofs.Histories.{slots_length, left_by}
use Rattle.builtin_kinds.specs.declared.EndKind.{EndKind}
use Rattle.builtin_kinds.specs.declared.EndKind.TheVariants.{Stream, Future}
use Rattle.stream_ends.specs.declared.open_copy.CopyResult.{CopyResult}
use Rattle.stream_ends.specs.declared.open_copy.CopyResult.TheVariants.{Completed, Dropped, Cancelled}
use Rattle.stream_ends.specs.declared.meet.Meet.{Meet}
use Rattle.stream_ends.specs.declared.meet.Meet.TheVariants as stream
use Rattle.stream_ends.specs.declared.side.Side.{Side}
use Rattle.stream_ends.specs.declared.side.Side.TheVariants.{Reader, Writer}
use Rattle.stream_ends.specs.declared.open_copy.OpenCopy.{OpenCopy}
use Rattle.stream_ends.specs.Ends.{EndsView, code_of, payload_of, result_of, told_payload, length_of, copied_of, end_at, other_side}
use Rattle.stream_ends.specs.Meeting.{EndSound, Sound}
use Rattle.stream_ends.proofs.Meetings.{standing_is}
use Rattle.future_ends.specs.declared.meet.Meet.{Meet as FutureMeet}
use Rattle.future_ends.specs.declared.meet.Meet.TheVariants as future
use Rattle.future_ends.specs.Meeting as futures
use Rattle.tasks.specs.declared.subtask_state.SubtaskState.{SubtaskState}
use Rattle.tasks.specs.declared.subtask_state.SubtaskState.TheVariants.{Starting, Started, Returned, CancelledBeforeStarted, CancelledBeforeReturned}
use Rattle.tasks.specs.Subtasks as subtasks
use Rattle.abi_machine.specs.Control.{EndRef, EventCode, NoEvent, SubtaskEvent, StreamRead, StreamWrite, FutureRead, FutureWrite, TaskCancelled}
use Rattle.abi_machine.specs.World.{Channel, World}
use Rattle.abi_machine.specs.Reading.{numbered, channel_at}
use Rattle.abi_machine.specs.Counting.{channel_end, end_of, payload_by}
use Rattle.abi_machine.specs.Counting as counting
use Rattle.abi_machine.specs.Copying.{Met, AtOnce, Moves, Stands, stream_met, future_met, met_by, completed}
use Rattle.abi_machine.specs.Delivering.{number_of}
use Rattle.abi_machine.specs.sound.Copies.{IsCopied}
use Rattle.abi_machine.specs.sound.Agreeing.{FitsIn, IsDueAt}

-- Indices.
next_small : {E : Type 0} (entries : List (Option E)) (free : List ℕ) (greatest count : ℕ) → AreFree entries free → length entries ≡ greatest → length entries ≡ count + length free → length entries ≤ 65535 → count < 65535
    → next_in free greatest ≤ 65535
next_small entries [] greatest count f long all small few = omega (arith, long, all, few)
next_small entries (index ∷ rest) greatest count f long all small few = omega (arith, f.0.within, small)

pub index_small : {E : Type 0} (h : List (Event E)) → IsHistory h → live_count h < most_live → next_index h ≤ 65535
index_small {E} h p few =
    let s : IsSound (slots_after h) = (left_by h p).sound in
    next_small (slots_of h) (freed h) (greatest h) (live_count h) s.free (slots_length h (greatest h)) s.all s.small few

-- States, and codes.
pub state_small : (state : SubtaskState) → subtasks.code_of state < 16
state_small Starting = omega arith
state_small Started = omega arith
state_small Returned = omega arith
state_small CancelledBeforeStarted = omega arith
state_small CancelledBeforeReturned = omega arith

pub event_small : (code : EventCode) → number_of code < 16
event_small NoEvent = omega arith
event_small SubtaskEvent = omega arith
event_small StreamRead = omega arith
event_small StreamWrite = omega arith
event_small FutureRead = omega arith
event_small FutureWrite = omega arith
event_small TaskCancelled = omega arith

code_small : (result : CopyResult) → code_of result < 16
code_small Completed = omega arith
code_small Dropped = omega arith
code_small Cancelled = omega arith

-- Copies: so many elements, fewer than 2^28.
pub counted_small : (result : CopyResult) (count : ℕ) → count < 2 ^ 28 → payload_of result count < 2 ^ 32
counted_small result count h = omega (arith, h, code_small result)

told_small : (copy : Option OpenCopy) → copied_of copy ≤ length_of copy → length_of copy < 2 ^ 28 → told_payload copy < 2 ^ 32
told_small None h k = omega arith
told_small (Some copy) h k = counted_small (result_of copy.event) copy.copied (omega (arith, h, k))

future_told_small : (copy : Option OpenCopy) → futures.told_payload copy < 2 ^ 32
future_told_small None = omega arith
future_told_small (Some copy) = omega (arith, code_small (result_of copy.event))

side_sound : (side : Side) (ends : EndsView) → Sound ends → EndSound (end_at side ends)
side_sound Reader ends h = h.reader
side_sound Writer ends h = h.writer

stream_sound : (streams : List Channel) (number : ℕ) (c : Channel) → AllByRecursion (λ x. Sound x.ends.view) streams → numbered streams number ≡ Some c → Sound c.ends.view
stream_sound streams zero c h e = cc
stream_sound streams (suc n) c h e = all_at (λ (x : Channel). Sound x.ends.view) streams n c h e

stream_told : (side : Side) (o : Option Channel) → ((c : Channel) → o ≡ Some c → Sound c.ends.view) → told_payload (channel_end side o).copy < 2 ^ 32
stream_told side None h = omega arith
stream_told side (Some c) h = let s : EndSound (end_at side c.ends.view) = side_sound side c.ends.view (h c refl) in told_small (end_at side c.ends.view).copy s.copied s.length

payload_fits : (kind : EndKind) (side : Side) (number : ℕ) (w : World) → IsCopied w → payload_by kind (channel_end side (channel_at w kind number)) < 2 ^ 32
payload_fits Stream side number w h = stream_told side (numbered w.streams number) (λ c e. stream_sound w.streams number c h.of_streams e)
payload_fits Future side number w h = future_told_small (channel_end side (numbered w.futures number)).copy

pub payload_small : (w : World) (e : EndRef) → IsCopied w → counting.payload_of w e < 2 ^ 32
payload_small w e h = payload_fits e.kind e.side e.number w h

-- A call that is answered at once.
abbrev pub MetSmall : Met → Type 0
MetSmall (AtOnce payload) = payload < 2 ^ 32
MetSmall (Moves count) = Unit {0}
MetSmall Stands = Unit {0}

stream_meets : (m : Meet) → MetSmall (stream_met m)
stream_meets stream.Stands = tt
stream_meets (stream.Copies count) = tt
stream_meets stream.Dropped = omega arith
stream_meets stream.Displaces = tt
stream_meets stream.ZeroDone = omega arith
stream_meets stream.NothingNow = omega arith

future_meets : (m : FutureMeet) → MetSmall (future_met m)
future_meets future.Stands = tt
future_meets future.Copies = tt
future_meets future.Dropped = omega arith

pub met_small : (kind : EndKind) (side : Side) (call : OpenCopy) (ends : EndsView) → MetSmall (met_by kind side call ends)
met_small Stream side call ends = stream_meets _
met_small Future side call ends = future_meets _

-- A copy that is due.
due_small : (kind : EndKind) (count : ℕ) (offer : OpenCopy) → FitsIn kind count offer → (kind ≡ Stream → offer.length < 2 ^ 28) → completed kind count < 2 ^ 32
due_small Stream count offer h k = let short : offer.length < 2 ^ 28 = k refl in let fits : count ≤ offer.length - offer.copied = h in counted_small Completed count (omega (arith, short, fits))
due_small Future count offer h k = omega arith

pub completed_small : (kind : EndKind) (number : ℕ) (side : Side) (count : ℕ) (w : World) → IsCopied w → IsDueAt (record { kind = kind; number = number; side = side }) count w.streams w.futures → completed kind count < 2 ^ 32
completed_small Stream number side count w h due =
    due_small Stream count due.2.offer due.2.room
    (λ e.
    let s : EndSound (end_at (other_side side) due.0.ends.view) = side_sound (other_side side) due.0.ends.view (stream_sound w.streams number due.0 h.of_streams due.1) in
    subst (λ (o : Option OpenCopy). length_of o < 2 ^ 28) (standing_is (end_at (other_side side) due.0.ends.view).copy due.2.offer due.2.stands) s.length)
completed_small Future number side count w h due = due_small Future count due.2.offer due.2.room (λ e. cc)
