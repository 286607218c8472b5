-- Lifting in a world (Component Model, CanonicalABI.md, "Flat Lifting", `lift_own`, `lift_borrow`, `lift_stream` and `lift_future`): an index is
-- looked up in the table of an instance. An own handle and an end leave the table, and an end its set; a borrow is lent for the call of a
-- task. What was lent or has left stays so where lifting stops.
use Rattle.std.specs.Prelude.{ℕ, ◌+◌, List, [], ◌∷◌, ◌++◌, Option, Some, None, Result, Ok, Err}
use Rattle.builtin_kinds.specs.declared.EndKind.{EndKind}
use Rattle.syntax_trees.specs.declared.types.ValType.{ValType}
use Rattle.value_lift.specs.declared.trap.LiftTrap.{LiftTrap}
use Rattle.value_lift.specs.Answers.{counted}
use Rattle.res_handles.specs.declared.handle.Handle.{Handle}
use Rattle.res_handles.specs.declared.entry.EntryView.{EntryView}
use Rattle.res_handles.specs.declared.entry.EntryView.TheVariants as seen
use Rattle.res_handles.specs.declared.refusal.Refusal.{Refusal}
use Rattle.res_handles.specs.declared.refusal.Refusal.TheVariants.{Absent, OtherKind}
use Rattle.res_handles.specs.Refusals.{handle_in, own_in}
use Rattle.res_handles.specs.Ends.{end_of}
use Rattle.trace_labels.specs.declared.label.Label.{Label}
use Rattle.trace_labels.specs.declared.label.Label.TheVariants as line
use Rattle.trace_labels.specs.declared.trap.TrapName.{TrapName}
use Rattle.abi_machine.specs.LiftingOver.{What, AnOwn, ABorrow, AnEnd, Ledger}
use Rattle.abi_machine.specs.LiftingOver as over
use Rattle.abi_machine.specs.World.{World}
use Rattle.abi_machine.specs.Edits.{entry_removed, left_set, lent}
use Rattle.abi_machine.specs.Reading.{entry_at}
use Rattle.abi_machine.specs.Counting.{view_at}
use Rattle.abi_machine.specs.Finding.{is_end_of}
use Rattle.abi_machine.specs.Traps.{refusal_name, lift_name}
use Rattle.abi_machine.specs.Turn.{Turn, doomed, behind}

-- What lifting goes on with: how much may be counted still, the lines so far and the world; and with what it stops.
pub record Kept : Type 0 where
  pub left : ℕ
  pub lines : List Label
  pub world : World

pub record Stopped : Type 0 where
  pub why : TrapName
  pub lines : List Label
  pub world : World

abbrev pub Came : Type 0 → Type 0
Came A = over.Came Kept Stopped A

abbrev pub stopped : TrapName → Kept → Stopped
stopped why k = record { why = why; lines = k.lines; world = k.world }

abbrev pub spent_so : Result ℕ LiftTrap → Kept → Result Kept Stopped
spent_so (Ok left) k = Ok (record k { left = left })
spent_so (Err trap) k = Err (stopped (lift_name trap.why) k)

-- Indices by what they are to name: an own handle leaves the table,
abbrev pub own_taken : ℕ → ℕ → Result Handle Refusal → Kept → Result (ℕ × Kept) Stopped
own_taken i index (Ok x) k = Ok (x.rep, record k { world = entry_removed i index k.world })
own_taken i index (Err why) k = Err (stopped (refusal_name why) k)

-- a handle is lent for the call of a task, with a line,
abbrev pub lend_line : ℕ → ℕ → ℕ → Label
lend_line i index callee = line.Lend (i + 1) index callee

abbrev pub borrow_taken : ℕ → ℕ → ℕ → Result Handle Refusal → Kept → Result (ℕ × Kept) Stopped
borrow_taken i callee index (Ok x) k = Ok (x.rep, record k { lines = k.lines ++ lend_line i index callee ∷ []; world = lent callee index k.world })
borrow_taken i callee index (Err why) k = Err (stopped (refusal_name why) k)

-- and the readable end of a type, where it is idle, leaves the table and its set.
abbrev pub end_taken : ℕ → ℕ → Result ℕ Refusal → Kept → Result (ℕ × Kept) Stopped
end_taken i index (Ok number) k = Ok (number, record k { world = left_set i index (entry_removed i index k.world) })
end_taken i index (Err why) k = Err (stopped (refusal_name why) k)

abbrev pub end_seen : Option EntryView → EndKind → Option ValType → World → ℕ → ℕ → Result ℕ Refusal
end_seen None kind element w i index = Err Absent
end_seen (Some seen.Other) kind element w i index = Err OtherKind
end_seen (Some (seen.Handle x)) kind element w i index = Err OtherKind
end_seen (Some (seen.ReadableEnd x)) kind element w i index = end_of (is_end_of w kind element (entry_at w i index)) x

abbrev pub taken_as : ℕ → ℕ → What → ℕ → Kept → Result (ℕ × Kept) Stopped
taken_as i callee (AnOwn resource) index k = own_taken i index (own_in (view_at k.world i index) resource) k
taken_as i callee (ABorrow resource) index k = borrow_taken i callee index (handle_in (view_at k.world i index) resource) k
taken_as i callee (AnEnd kind element) index k = end_taken i index (end_seen (view_at k.world i index) kind element k.world i index) k

-- of an instance, for the call of a task
abbrev pub by_world : ℕ → ℕ → Ledger Kept Stopped
by_world i callee = record {
  spend = λ many place k. spent_so (counted many place k.left) k;
  stop = λ trap k. stopped (lift_name trap.why) k;
  take = λ u k. taken_as i callee u.what u.index k;
}

-- before anything is lifted, where so much may be counted
abbrev pub nothing_lifted : ℕ → World → Kept
nothing_lifted most w = record { left = most; lines = []; world = w }

-- What follows once a task has lifted something. Where it stopped that is a trap of the task.
abbrev pub once_lifted : {A : Type 0} → ℕ → Came A → (A → World → Turn) → Turn
once_lifted t (Ok x) more = behind x.1.lines (more x.0 x.1.world)
once_lifted t (Err stop) more = behind stop.lines (doomed t stop.why stop.world)
