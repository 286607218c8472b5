-- Which tasks can go on depends neither on control nor on how many picks are used.
use Rattle.std.proofs.Common.{◌≡◌, ℕ, Bool, cond, not, ◌&&◌, ◌||◌, List, [], ◌∷◌, map, filter, refl, ap, ◌∙◌, Option, Some, None, Result, Ok, Err}
use Rattle.std.specs.List.{range_with_len}
use Rattle.handle_table.specs.History.{greatest}
use Rattle.builtin_kinds.specs.declared.EndKind.{EndKind}
use Rattle.builtin_kinds.specs.declared.EndKind.TheVariants as kind
use Rattle.entry_gate.specs.declared.callback.BadCode.{BadCode}
use Rattle.entry_gate.specs.declared.callback.Next.{Next}
use Rattle.entry_gate.specs.declared.callback.Next.TheVariants as next
use Rattle.entry_gate.specs.Callbacks.{callback_of}
use Rattle.waitables.specs.Sets.{is_none, ready_of}
use Rattle.stream_ends.specs.Ends.{is_pending}
use Rattle.tasks.specs.Tasks.{is_asked, is_cancellable}
use Rattle.tasks.specs.declared.event.BlockedAt.TheVariants as blocked_at
use Rattle.comp_graph.specs.Graph.{Graph, Lifted}
use Rattle.abi_machine.specs.Control.{EndRef, Free}
use Rattle.abi_machine.specs.World.{Entry, OwnHandle, BorrowHandle, OfSubtask, OfSet, OfEnd, ForYield, ForSet, ForCall, ForCopy, ForCancel, TaskState, New, Acting, AfterCall, AfterCancel, Begins, WaitsToEnter, InLoop, InBuiltin, Exited, Channel, Task, World}
use Rattle.abi_machine.specs.Canons.{flag_at}
use Rattle.abi_machine.specs.Edits.{with_control, picked, set_view}
use Rattle.abi_machine.specs.Reading.{table_of, entry_at, members_of, channel_at, func_of, kind_of, with_numbers}
use Rattle.abi_machine.specs.Counting.{passes, channel_end, end_of, entry_has_event, is_waited_for, has_news, ready}
use Rattle.abi_machine.specs.Gate.{is_entry_free}
use Rattle.abi_machine.specs.Finding.{set_number, found_end}
use Rattle.abi_machine.specs.Scheduling.{is_some_ready, loop_is_over, is_able_in, is_able, able}

-- The world where no task runs, and so many picks are used.
abbrev pub again : ℕ → World → World
again used w = with_control Free (picked used w)

pub filter_same : {A : Type 0} (p q : A → Bool) (xs : List A) → ((x : A) → p x ≡ q x) → filter p xs ≡ filter q xs
filter_same p q [] same = refl
filter_same p q (x ∷ xs) same =
    ap (λ (b : Bool). cond b (x ∷ filter p xs) (filter p xs)) (same x) ∙ ap (λ (ys : List _). cond (q x) (x ∷ ys) ys) (filter_same p q xs same)

-- Ends, and what has news.
channel_again : (used : ℕ) (w : World) (k : EndKind) (number : ℕ) → channel_at (again used w) k number ≡ channel_at w k number
channel_again used w kind.Stream number = refl
channel_again used w kind.Future number = refl

end_again : (used : ℕ) (w : World) (e : EndRef) → end_of (again used w) e ≡ end_of w e
end_again used w e = ap (λ (c : Option Channel). channel_end e.side c) (channel_again used w e.kind e.number)

event_again : (used : ℕ) (w : World) (o : Option Entry) → entry_has_event (again used w) o ≡ entry_has_event w o
event_again used w None = refl
event_again used w (Some (OwnHandle resource rep)) = refl
event_again used w (Some (BorrowHandle resource rep task)) = refl
event_again used w (Some (OfSubtask callee)) = refl
event_again used w (Some (OfSet set)) = refl
event_again used w (Some (OfEnd e)) = ap is_pending (end_again used w e)

news_again : (used : ℕ) (w : World) (i index : ℕ) → has_news (again used w) i index ≡ has_news w i index
news_again used w i index = ap (λ (b : Bool). b && not (is_waited_for w i index)) (event_again used w (entry_at w i index))

ready_again : (used : ℕ) (w : World) (i set : ℕ) → ready (again used w) i set ≡ ready w i set
ready_again used w i set =
    ap (λ (news : List ℕ). ready_of news (set_view (members_of w i set)))
    (filter_same (has_news (again used w) i) (has_news w i) (range_with_len 1 (greatest (table_of w i))) (news_again used w i))

-- Tasks.
set_again : (used : ℕ) (w : World) (i : ℕ) (o : Option ℕ) → passes (λ set. not (is_none (ready (again used w) i set))) o ≡ passes (λ set. not (is_none (ready w i set))) o
set_again used w i None = refl
set_again used w i (Some set) = ap (λ (xs : List ℕ). not (is_none xs)) (ready_again used w i set)

some_again : (used : ℕ) (w : World) (i index : ℕ) → is_some_ready (again used w) i index ≡ is_some_ready w i index
some_again used w i index = set_again used w i (set_number w i index)

loop_again : (used : ℕ) (w : World) (i : ℕ) (task : Task) (r : Result Next BadCode) → loop_is_over (again used w) i task r ≡ loop_is_over w i task r
loop_again used w i task (Ok next.Exit) = refl
loop_again used w i task (Ok next.Yield) = refl
loop_again used w i task (Ok (next.Wait index)) = ap (λ (b : Bool). b || is_asked task.cancellation) (some_again used w i index)
loop_again used w i task (Ok (next.Poll index)) = refl
loop_again used w i task (Err why) = refl

copy_again : (used : ℕ) (w : World) (o : Option EndRef) → passes (λ e. is_pending (end_of (again used w) e)) o ≡ passes (λ e. is_pending (end_of w e)) o
copy_again used w None = refl
copy_again used w (Some e) = ap is_pending (end_again used w e)

state_again : (g : Graph) (used : ℕ) (w : World) (i : ℕ) (task : Task) (state : TaskState) → is_able_in g (again used w) i task state ≡ is_able_in g w i task state
state_again g used w i task New = refl
state_again g used w i task Acting = refl
state_again g used w i task (AfterCall callee number words) = refl
state_again g used w i task (AfterCancel callee number words) = refl
state_again g used w i task (Begins n) = refl
state_again g used w i task WaitsToEnter = refl
state_again g used w i task (InLoop word) = ap (λ (b : Bool). is_entry_free w i && b) (loop_again used w i task (callback_of word))
state_again g used w i task (InBuiltin number words ForYield) = refl
state_again g used w i task (InBuiltin number words (ForSet index)) =
    ap (λ (b : Bool). b || (is_asked task.cancellation && is_cancellable (is_entry_free w i) (kind_of task) (blocked_at.Set index) (flag_at g number))) (some_again used w i index)
state_again g used w i task (InBuiltin number words (ForCall callee)) = refl
state_again g used w i task (InBuiltin number words (ForCopy index)) = copy_again used w (found_end w i index)
state_again g used w i task (InBuiltin number words (ForCancel index)) = refl
state_again g used w i task Exited = refl

func_again : (g : Graph) (used : ℕ) (w : World) (task : Task) (o : Option Lifted)
    → passes (λ (f : Lifted). is_able_in g (again used w) f.instance task task.state) o ≡ passes (λ (f : Lifted). is_able_in g w f.instance task task.state) o
func_again g used w task None = refl
func_again g used w task (Some f) = state_again g used w f.instance task task.state

pub able_again : (g : Graph) (used : ℕ) (w : World) → able g (again used w) ≡ able g w
able_again g used w =
    ap (λ (xs : List (ℕ × Task)). map (λ (x : ℕ × Task). x.0) xs)
    (filter_same (λ (x : ℕ × Task). is_able g (again used w) x.1) (λ (x : ℕ × Task). is_able g w x.1) (with_numbers 0 w.tasks) (λ x. func_again g used w x.1 (func_of x.1.callee)))
