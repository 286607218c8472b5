-- Deliveries (Component Model, CanonicalABI.md, "Waitable Set State", "Subtask State", "Stream State", `canon waitable-set.wait`, `canon lift`):
-- the event of a subtask or of an end comes to a task that waits, or to its callback, and so does the event that its cancellation is asked. A
-- blocked task goes on by what it was blocked at.
use Rattle.std.specs.Prelude.{ℕ, ◌&&◌, Bool, if◌then◌else◌, slice_index, List, [], ◌∷◌, ◌++◌, length, Option, Some, None, Result, Ok}
use Rattle.std.specs.Int.{w32, to_le_bytes}
use Rattle.std.specs.List.{slice_get}
use Rattle.std.specs.Option.{unwrap_or}
use Rattle.wasm_store.specs.Store.{found_at}
use Rattle.wasm_store.specs.Step.{start}
use Rattle.value_lower.specs.Following.{written}
use Rattle.builtin_kinds.specs.declared.EndKind.{EndKind}
use Rattle.builtin_kinds.specs.declared.EndKind.TheVariants.{Stream, Future}
use Rattle.stream_ends.specs.declared.side.Side.{Side}
use Rattle.stream_ends.specs.declared.side.Side.TheVariants.{Reader, Writer}
use Rattle.entry_gate.specs.Callbacks.{callback_of}
use Rattle.entry_gate.specs.declared.callback.BadCode.{BadCode}
use Rattle.entry_gate.specs.declared.callback.Next.{Next}
use Rattle.entry_gate.specs.declared.callback.Next.TheVariants as next
use Rattle.tasks.specs.declared.phase.Cancellation.TheVariants.{Delivered}
use Rattle.tasks.specs.Tasks.{is_asked, is_cancellable}
use Rattle.comp_graph.specs.Graph.{Graph, Lifted}
use Rattle.trace_labels.specs.declared.label.Label.{Label}
use Rattle.trace_labels.specs.declared.label.Label.TheVariants as line
use Rattle.script_reader.specs.Script.{Script}
use Rattle.abi_machine.specs.Control.{EndRef, EventCode, NoEvent, SubtaskEvent, StreamRead, StreamWrite, FutureRead, FutureWrite, TaskCancelled, Receiver, InWait, InCallback, Runs, Delivers}
use Rattle.abi_machine.specs.World.{Entry, OfSubtask, OfEnd, Wait, ForYield, ForSet, ForCall, ForCopy, ForCancel, TaskState, Acting, WaitsToEnter, InLoop, InBuiltin, Task, World}
use Rattle.abi_machine.specs.Edits.{with_memory, in_state, with_cancellation, stacked, concluded}
use Rattle.abi_machine.specs.Canons.{func_address, memory_of, bytes_of, options_at, flag_at}
use Rattle.abi_machine.specs.Reading.{entry_at, kind_of}
use Rattle.abi_machine.specs.Counting.{blocked_at_of, payload_of, ready}
use Rattle.abi_machine.specs.Gate.{is_entry_free}
use Rattle.abi_machine.specs.Finding.{found_subtask, set_number, found_end}
use Rattle.abi_machine.specs.Turn.{Turn, Steps, Stuck, silent, behind, given, with_func, goes_on_with, replied}
use Rattle.abi_machine.specs.Choosing.{chosen}
use Rattle.abi_machine.specs.Calling.{Told, subtask_told, replied_behind, with_subtask_of}
use Rattle.abi_machine.specs.Entering.{entered}

-- The codes of events, and what event an end has.
abbrev pub number_of : EventCode → ℕ
number_of NoEvent = 0
number_of SubtaskEvent = 1
number_of StreamRead = 2
number_of StreamWrite = 3
number_of FutureRead = 4
number_of FutureWrite = 5
number_of TaskCancelled = 6

abbrev pub event_by : EndKind → Side → EventCode
event_by Stream Reader = StreamRead
event_by Stream Writer = StreamWrite
event_by Future Reader = FutureRead
event_by Future Writer = FutureWrite

abbrev pub event_of_end : EndRef → EventCode
event_of_end e = event_by e.kind e.side

-- The index and the payload of an event stand at the place that a wait was called with.
abbrev pub event_bytes : ℕ → ℕ → List ℕ
event_bytes index payload = to_le_bytes w32 index ++ to_le_bytes w32 payload

abbrev pub event_put : Graph → ℕ → ℕ → ℕ → ℕ → World → World
event_put g number place index payload w =
    with_memory (memory_of w.store (options_at g number))
    (written place (event_bytes index payload) (bytes_of w.store (memory_of w.store (options_at g number)))) w

-- A callback starts with an event.
unfoldable pub callback_started : ℕ → Lifted → EventCode → ℕ → ℕ → World → Turn
callback_started t f code index payload w =
    given f.options.callback (λ ref. given (found_at w.store.funcs (func_address w.store ref)) (λ function.
    silent Runs (stacked t (start function.1 function.0 (number_of code ∷ index ∷ payload ∷ [])) w)))

-- An event of this code and index comes to a task, with lines behind its own.
abbrev pub event_line : ℕ → EventCode → ℕ → ℕ → Label
event_line t code index payload = line.Event t (number_of code) index payload

unfoldable pub received : Graph → ℕ → Lifted → Receiver → EventCode → ℕ → Told → Turn
received g t f (InWait number words) code index s =
    Steps (event_line t code index s.payload ∷ s.lines ++ line.Got t (number_of code ∷ []) ∷ [])
    (goes_on_with t (number_of code ∷ []) (event_put g number (slice_index words 1) index s.payload s.world))
received g t f InCallback code index s =
    behind (event_line t code index s.payload ∷ s.lines) (callback_started t f code index s.payload s.world)

-- no event, and the event that a task's cancellation is asked
abbrev pub nothing_told : World → Told
nothing_told w = record { lines = []; payload = 0; world = w }

abbrev pub cancel_told : ℕ → World → Told
cancel_told t w = nothing_told (with_cancellation t Delivered w)

unfoldable pub received_none : Graph → ℕ → Lifted → Receiver → World → Turn
received_none g t f receiver w = received g t f receiver NoEvent 0 (nothing_told w)

unfoldable pub received_cancel : Graph → ℕ → Lifted → Receiver → World → Turn
received_cancel g t f receiver w = received g t f receiver TaskCancelled 0 (cancel_told t w)

-- An end is told what came of its copy.
abbrev pub end_told : EndRef → World → Told
end_told e w = record { lines = []; payload = payload_of w e; world = concluded e w }

-- Of ready members, at least two, one is chosen; then the event of the member comes.
unfoldable pub entry_delivered : Graph → ℕ → Lifted → Receiver → ℕ → Option Entry → World → Turn
entry_delivered g t f receiver index (Some (OfSubtask callee)) w =
    with_subtask_of w callee (λ task subtask. received g t f receiver SubtaskEvent index (subtask_told f.instance callee task subtask w))
entry_delivered g t f receiver index (Some (OfEnd e)) w = received g t f receiver (event_of_end e) index (end_told e w)
entry_delivered g t f receiver index entry w = Stuck

unfoldable pub member_delivered : Graph → ℕ → Lifted → Receiver → Option ℕ → World → Turn
member_delivered g t f receiver member w =
    given member (λ index. entry_delivered g t f receiver index (entry_at w f.instance index) w)

unfoldable pub members_turn : Graph → Script → ℕ → Lifted → ℕ → Receiver → Option ℕ → List ℕ → World → Turn
members_turn g s t f set receiver None (index ∷ other ∷ members) w =
    chosen s (length (index ∷ other ∷ members)) (λ k. Delivers set receiver (Some k)) w
members_turn g s t f set receiver pick members w = member_delivered g t f receiver (slice_get members (unwrap_or pick 0)) w

unfoldable pub delivering_turn : Graph → Script → ℕ → Receiver → Option ℕ → World → Turn
delivering_turn g s set receiver pick w =
    with_func w (λ t task f. members_turn g s t f set receiver pick (ready w f.instance set) w)

-- A blocked task goes on: in a built-in, where its cancellation may end the wait,
abbrev pub is_to_be_told : Graph → ℕ → Wait → Task → World → ℕ → Bool
is_to_be_told g number wait task w i =
    is_asked task.cancellation && is_cancellable (is_entry_free w i) (kind_of task) (blocked_at_of wait) (flag_at g number)

unfoldable pub yield_cancelled : ℕ → World → Turn
yield_cancelled t w = Steps (event_line t TaskCancelled 0 0 ∷ line.Got t (1 ∷ []) ∷ []) (goes_on_with t (1 ∷ []) (cancel_told t w).world)

unfoldable pub told_payload : ℕ → Told → Turn
told_payload t s = replied_behind t s.lines (s.payload ∷ []) s.world

unfoldable pub told_result : ℕ → List ℕ → Told → Turn
told_result t words s = replied_behind t s.lines words s.world

unfoldable pub wait_resumed : Graph → ℕ → Lifted → Bool → ℕ → List ℕ → Wait → World → Turn
wait_resumed g t f is_cancelled number words ForYield w =
    if is_cancelled then yield_cancelled t w else replied t (0 ∷ []) w
wait_resumed g t f is_cancelled number words (ForSet index) w =
    if is_cancelled then received_cancel g t f (InWait number words) w
    else given (set_number w f.instance index) (λ set. silent (Delivers set (InWait number words) None) w)
wait_resumed g t f is_cancelled number words (ForCall callee) w =
    with_subtask_of w callee (λ task subtask. told_result t subtask.result (subtask_told f.instance callee task subtask w))
wait_resumed g t f is_cancelled number words (ForCancel index) w =
    given (found_subtask w f.instance index) (λ callee.
    with_subtask_of w callee (λ task subtask. told_payload t (subtask_told f.instance callee task subtask w)))
wait_resumed g t f is_cancelled number words (ForCopy index) w = given (found_end w f.instance index) (λ e. told_payload t (end_told e w))

-- and in its loop, where it has exclusive entry again.
unfoldable pub set_polled : Graph → ℕ → Lifted → ℕ → List ℕ → World → Turn
set_polled g t f set [] w = received_none g t f InCallback w
set_polled g t f set (index ∷ members) w = silent (Delivers set InCallback None) w

unfoldable pub next_resumed : Graph → ℕ → Lifted → Result Next BadCode → World → Turn
next_resumed g t f (Ok next.Yield) w = received_none g t f InCallback w
next_resumed g t f (Ok (next.Wait index)) w = given (set_number w f.instance index) (λ set. silent (Delivers set InCallback None) w)
next_resumed g t f (Ok (next.Poll index)) w =
    given (set_number w f.instance index) (λ set. set_polled g t f set (ready w f.instance set) w)
next_resumed g t f word w = Stuck

unfoldable pub loop_resumed : Graph → ℕ → Lifted → Bool → ℕ → World → Turn
loop_resumed g t f is_cancelled word w = if is_cancelled then received_cancel g t f InCallback w else next_resumed g t f (callback_of word) w

unfoldable pub resumed : Graph → ℕ → Task → Lifted → TaskState → World → Turn
resumed g t task f WaitsToEnter w = entered g t task f w
resumed g t task f (InLoop word) w = loop_resumed g t f (is_asked task.cancellation) word (in_state t Acting w)
resumed g t task f (InBuiltin number words wait) w =
    wait_resumed g t f (is_to_be_told g number wait task w f.instance) number words wait (in_state t Acting w)
resumed g t task f state w = Stuck

unfoldable pub resuming_turn : Graph → World → Turn
resuming_turn g w = with_func w (λ t task f. resumed g t task f task.state w)
