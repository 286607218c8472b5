-- Waitable sets (Component Model, CanonicalABI.md, `canon waitable-set.new`, `canon waitable-set.wait`, `canon waitable-set.poll`, `canon
-- waitable-set.drop` and `canon waitable.join`).
use Rattle.std.specs.Prelude.{ℕ, zero, suc, ◌+◌, ◌%◌, nat_eq, nat_le, Bool, not, ◌&&◌, slice_index, if◌then◌else◌, List, [], ◌∷◌, length, None}
use Rattle.std.specs.List.{slice_get}
use Rattle.waitables.specs.Sets.{SetView, drop_answer}
use Rattle.builtin_kinds.specs.declared.WaitOp.{WaitOp}
use Rattle.builtin_kinds.specs.declared.WaitOp.TheVariants as wait_op
use Rattle.tasks.specs.Tasks.{is_sync, is_asked}
use Rattle.comp_graph.specs.Graph.{Graph, Lifted}
use Rattle.trace_labels.specs.declared.label.BlockReason.TheVariants as reason
use Rattle.trace_labels.specs.declared.trap.TrapName.TheVariants as trap
use Rattle.abi_machine.specs.Traps.{renamed, set_name}
use Rattle.abi_machine.specs.Control.{InWait, Delivers}
use Rattle.abi_machine.specs.World.{OfSet, ForSet, InBuiltin, Task, World}
use Rattle.abi_machine.specs.Edits.{set_made, joined, left_set, entry_removed}
use Rattle.abi_machine.specs.Canons.{memory_of, bytes_of, options_at, flag_at}
use Rattle.abi_machine.specs.Reading.{sets_in, members_of, kind_of, func_of}
use Rattle.abi_machine.specs.Counting.{ready, waiters_of}
use Rattle.abi_machine.specs.Finding.{set_at, waitable_at}
use Rattle.abi_machine.specs.Turn.{Turn, silent, given, unless, unless_refused, with_entry, replied, blocked}
use Rattle.abi_machine.specs.Delivering.{received_none, received_cancel}

-- Sets are numbered from 0 as they are made.
unfoldable pub set_new_turn : ℕ → ℕ → World → Turn
set_new_turn t i w =
    with_entry t i (OfSet (length (sets_in (slice_get w.insts i)))) w (λ index v. replied t (index ∷ []) (set_made i v))

-- Where no member is ready a wait blocks, and a poll gets no event.
unfoldable pub none_ready : Graph → ℕ → Lifted → WaitOp → ℕ → List ℕ → World → Turn
none_ready g t f wait_op.Poll number words w = received_none g t f (InWait number words) w
none_ready g t f wait_op.Wait number words w =
    blocked t (InBuiltin number words (ForSet (slice_index words 0))) (reason.Wait (slice_index words 0)) w

unfoldable pub by_ready : Graph → ℕ → Lifted → WaitOp → ℕ → List ℕ → ℕ → List ℕ → World → Turn
by_ready g t f op number words set [] w = none_ready g t f op number words w
by_ready g t f op number words set (index ∷ members) w = silent (Delivers set (InWait number words) None) w

-- An event takes eight bytes.
abbrev pub event_size : ℕ
event_size = 8

abbrev pub event_align : ℕ
event_align = 4

abbrev pub is_cancelled : Graph → Task → ℕ → Bool
is_cancelled g task number = flag_at g number && not (is_sync (kind_of task)) && is_asked task.cancellation

unfoldable pub event_turn : Graph → ℕ → Task → Lifted → ℕ → WaitOp → ℕ → List ℕ → ℕ → World → Turn
event_turn g t task f i op number words set w =
    unless t (not (nat_eq (slice_index words 1 % event_align) 0)) trap.Misaligned w
    (unless t (not (nat_le (slice_index words 1 + event_size) (length (bytes_of w.store (memory_of w.store (options_at g number)))))) trap.Bounds w
    (if is_cancelled g task number then received_cancel g t f (InWait number words) w
    else by_ready g t f op number words set (ready w i set) w))

unfoldable pub wait_turn : Graph → ℕ → Task → ℕ → WaitOp → ℕ → List ℕ → World → Turn
wait_turn g t task i op number words w =
    unless_refused t (set_at w i (slice_index words 0)) w (λ set.
    given (func_of task.callee) (λ f. event_turn g t task f i op number words set w))

abbrev pub view_of_set : World → ℕ → ℕ → ℕ → SetView
view_of_set w i index set = record { members = members_of w i set; waiters = waiters_of w i index }

unfoldable pub set_drop_turn : ℕ → ℕ → ℕ → World → Turn
set_drop_turn t i index w =
    unless_refused t (set_at w i index) w (λ set.
    unless_refused t (renamed set_name (drop_answer (view_of_set w i index set))) w (λ done. replied t [] (entry_removed i index w)))

-- The waitable at an index leaves its set, and joins the one at another index, where this is not 0.
unfoldable pub joins : ℕ → ℕ → ℕ → ℕ → World → Turn
joins t i index zero w = replied t [] (left_set i index w)
joins t i index (suc other) w = unless_refused t (set_at w i (suc other)) w (λ set. replied t [] (joined i index set w))

unfoldable pub join_turn : ℕ → ℕ → ℕ → ℕ → World → Turn
join_turn t i index other w = unless_refused t (waitable_at w i index) w (λ there. joins t i index other w)
