-- Parts over what is kept leave who runs, and how many tasks there are.
use Rattle.builtin_kinds.specs.declared.EndKind.{EndKind}
use Rattle.handle_table.specs.Slots.{count}
use Rattle.std.proofs.Common.{refl}
use Rattle.std.specs.Prelude.{Bool, List, Option, ℕ}
use Rattle.stream_ends.specs.Ends.{is_idle}
use Rattle.stream_ends.specs.declared.side.Side.{Side}
use Rattle.tasks.specs.declared.event.TaskEvent.{TaskEvent}
use Rattle.trace_labels.specs.declared.label.Label.{Label}
use Rattle.world_parts.specs.Channels.{copied, idle_seen}
use Rattle.world_parts.specs.Entries.{end_idled, entry_found, set_left}
use Rattle.world_parts.specs.Feed.{got, told}
use Rattle.world_parts.specs.Going.{enters}
use Rattle.world_parts.specs.Held.{Held}
use Rattle.world_parts.specs.Slots.{callee_of, context_set, happens, instance_of, result_kept, words_of}
use Rattle.run_laws.proofs.stays.Channels.{copied_stays, idle_seen_stays}
use Rattle.run_laws.proofs.stays.Entries.{end_idled_stays, entry_found_stays, set_left_stays}
use Rattle.run_laws.proofs.stays.Feed.{told_stays}
use Rattle.run_laws.proofs.stays.Going.{enters_stays}
use Rattle.run_laws.proofs.stays.Slots.{callee_of_stays, context_set_stays, happens_stays, instance_of_stays, words_of_stays, result_kept_stays}
use Rattle.run_laws.proofs.stays.Plain.{returned_stays}
use Rattle.trace_labels.specs.declared.typed.TypedValue.{TypedValue}
use Rattle.world_parts.specs.Plain.{returned}
use Rattle.run_laws.proofs.chains.By.{ChainBy, chain_stays}

pub callee_of_chain : (t : ℕ) (h : Held) → ChainBy h (callee_of t h)
callee_of_chain t h = chain_stays h (callee_of t h) (callee_of_stays t h)

pub context_set_chain : (t : ℕ) (number : ℕ) (word : ℕ) (h : Held) → ChainBy h (context_set t number word h)
context_set_chain t number word h = chain_stays h (context_set t number word h) (context_set_stays t number word h)

pub copied_chain : (kind : EndKind) (number : ℕ) (count : ℕ) (h : Held) → ChainBy h (copied kind number count h)
copied_chain kind number count h = chain_stays h (copied kind number count h) (copied_stays kind number count h)

pub end_idled_chain : (at index : ℕ) (is_idle : Bool) (h : Held) → ChainBy h (end_idled at index is_idle h)
end_idled_chain at index is_idle h = chain_stays h (end_idled at index is_idle h) (end_idled_stays at index is_idle h)

pub enters_chain : (t : ℕ) (h : Held) → ChainBy h (enters t h)
enters_chain t h = chain_stays h (enters t h) (enters_stays t h)

pub entry_found_chain : (at : ℕ) (index : ℕ) (h : Held) → ChainBy h (entry_found at index h)
entry_found_chain at index h = chain_stays h (entry_found at index h) (entry_found_stays at index h)

pub happens_chain : (t : ℕ) (e : TaskEvent) (h : Held) → ChainBy h (happens t e h)
happens_chain t e h = chain_stays h (happens t e h) (happens_stays t e h)

pub idle_seen_chain : (kind : EndKind) (side : Side) (number : ℕ) (h : Held) → ChainBy h (idle_seen kind side number h)
idle_seen_chain kind side number h = chain_stays h (idle_seen kind side number h) (idle_seen_stays kind side number h)

pub instance_of_chain : (t : ℕ) (h : Held) → ChainBy h (instance_of t h)
instance_of_chain t h = chain_stays h (instance_of t h) (instance_of_stays t h)

pub set_left_chain : (at waitable : ℕ) (h : Held) → ChainBy h (set_left at waitable h)
set_left_chain at waitable h = chain_stays h (set_left at waitable h) (set_left_stays at waitable h)

pub told_chain : (label : Label) (h : Held) → ChainBy h (told label h)
told_chain label h = chain_stays h (told label h) (told_stays label h)

pub words_of_chain : (t : ℕ) (h : Held) → ChainBy h (words_of t h)
words_of_chain t h = chain_stays h (words_of t h) (words_of_stays t h)

pub got_chain : (t : ℕ) (words : List ℕ) (h : Held) → ChainBy h (got t words h)
got_chain t words h = (refl, refl)

pub returned_chain : (t : ℕ) (value : Option TypedValue) (h : Held) → ChainBy h (returned t value h)
returned_chain t value h = chain_stays h (returned t value h) (returned_stays t value h)

pub result_kept_chain : (t : ℕ) (words : List ℕ) (h : Held) → ChainBy h (result_kept t words h)
result_kept_chain t words h = chain_stays h (result_kept t words h) (result_kept_stays t words h)
