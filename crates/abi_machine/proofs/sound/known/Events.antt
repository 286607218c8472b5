-- Why tasks go on, and which members are ready: of tasks that are able, of those to which it is to be told that their cancellation is asked, and of the
-- task that goes on, once it acts.
use Rattle.std.proofs.Common.{◌≡◌, ℕ, zero, suc, Bool, true, false, not, ◌&&◌, ◌||◌, List, [], ◌∷◌, refl, sym, ap, ◌∙◌, subst, Option, Some, None, Result, Ok, Err, if◌then◌else◌}
use Rattle.std.specs.Prelude.{IsSome, is_some}
use Rattle.std.specs.List.{slice_get, list_any, range_with_len}
use Rattle.handle_table.specs.History.{greatest}
use Rattle.waitables.specs.Sets.{ready_of, is_none}
use Rattle.stream_ends.specs.declared.stream_end.End.{End}
use Rattle.stream_ends.specs.Ends.{is_pending}
use Rattle.builtin_kinds.specs.declared.EndKind.{EndKind}
use Rattle.builtin_kinds.specs.declared.EndKind.TheVariants.{Stream, Future}
use Rattle.entry_gate.specs.Callbacks.{callback_of}
use Rattle.entry_gate.specs.declared.kind.Kind.TheVariants.{Callback, Stackful, Sync}
use Rattle.entry_gate.specs.declared.callback.BadCode.{BadCode}
use Rattle.entry_gate.specs.declared.callback.Next.{Next}
use Rattle.entry_gate.specs.declared.callback.Next.TheVariants as next
use Rattle.tasks.specs.declared.event.Asked.TheVariants.{ResumeNow, Pending}
use Rattle.tasks.specs.declared.event.BlockedAt.TheVariants as blocked_at
use Rattle.tasks.specs.declared.phase.Resolution.{Resolution}
use Rattle.tasks.specs.declared.phase.Resolution.TheVariants.{Returned, Cancelled}
use Rattle.tasks.specs.declared.phase.Cancellation.TheVariants.{Asked}
use Rattle.tasks.specs.declared.subtask_state.SubtaskState.{SubtaskState}
use Rattle.tasks.specs.declared.subtask_state.SubtaskState.TheVariants.{Started}
use Rattle.tasks.specs.Subtasks.{has_event}
use Rattle.tasks.specs.Tasks.{open_state, resolved_state, is_asked, is_cancellable, phase_case}
use Rattle.comp_graph.specs.declared.graph.Options.{Options}
use Rattle.comp_graph.specs.Graph.{Graph, Lifted}
use Rattle.abi_machine.specs.Control.{EndRef, Receiver, Control, Free, Goes, Resumes, Delivers}
use Rattle.abi_machine.specs.World.{Entry, OwnHandle, BorrowHandle, OfSubtask, OfSet, OfEnd, Subtask, Wait, ForYield, ForSet, ForCall, ForCopy, ForCancel, TaskState, New, Acting, AfterCall, AfterCancel, Begins, WaitsToEnter, InLoop, InBuiltin, Exited, Channel, Task, World}
use Rattle.abi_machine.specs.Edits.{with_control, set_view, chained, changed_at, in_state, with_cancellation, subtask_view}
use Rattle.abi_machine.specs.Canons.{kind_of_options, flag_at}
use Rattle.abi_machine.specs.Reading.{table_of, entry_at, members_of, numbered, channels, func_of, kind_of, kind_of_func, runs_in, subtask_of}
use Rattle.abi_machine.specs.Counting.{passes, phase_of, channel_end, end_of, subtask_state, subtask_has_event, entry_has_event, waits_at, is_waited_for, has_news, ready}
use Rattle.abi_machine.specs.Finding.{set_number, found_end}
use Rattle.abi_machine.specs.Scheduling.{is_some_ready, wait_is_over, loop_is_over, is_able_in, is_able}
use Rattle.abi_machine.specs.Delivering.{is_to_be_told}
use Rattle.abi_machine.specs.sound.Changes.{IsFirst}
use Rattle.abi_machine.specs.sound.Acting.{Outline, outline_of}
use Rattle.abi_machine.specs.sound.Guests.{WaitsAs}
use Rattle.abi_machine.specs.sound.Owners.{owner_of_canon, CallsOwn}
use Rattle.abi_machine.specs.sound.Events.{EndsWait, EndsLoop, HasCause, HasReceiver, IsReadyAt, EventComes}
use Rattle.abi_machine.proofs.sound.Found.{some_same, changed_there}
use Rattle.abi_machine.proofs.sound.Entries.{right_true}
use Rattle.abi_machine.proofs.sound.Outlines.{outline_there, Is, is_what}
use Rattle.abi_machine.proofs.sound.own.Tasks.{IsOfFunc}
use Rattle.abi_machine.proofs.sound.known.Picking.{filter_same, later, ready_same, some_ready_same}

-- A task that is able has a cause.
or_left : (a b : Bool) → a || b ≡ true → b ≡ false → a ≡ true
or_left true b e none = refl
or_left false b e none = let clash : true ≡ false = sym e ∙ none in cc

some_passes : {A : Type 0} (p : A → Bool) (o : Option A) → passes p o ≡ true → IsSome o
some_passes p None e = cc
some_passes p (Some x) e = refl

able_loop : (w : World) (f : Lifted) (task : Task) (r : Result Next BadCode) → loop_is_over w f.instance task r ≡ true → EndsLoop w f task r
able_loop w f task (Ok next.Exit) e = tt
able_loop w f task (Ok next.Yield) e = tt
able_loop w f task (Ok (next.Wait index)) e = λ unasked. or_left (is_some_ready w f.instance index) (is_asked task.cancellation) e unasked
able_loop w f task (Ok (next.Poll index)) e = tt
able_loop w f task (Err why) e = tt

able_wait : (g : Graph) (w : World) (f : Lifted) (task : Task) (number : ℕ) (wait : Wait) → wait_is_over g w f.instance task number wait ≡ true → EndsWait g w f task number wait
able_wait g w f task number ForYield e = tt
able_wait g w f task number (ForSet index) e = λ untold. or_left (is_some_ready w f.instance index) (is_to_be_told g number (ForSet index) task w f.instance) e untold
able_wait g w f task number (ForCall callee) e = e
able_wait g w f task number (ForCopy index) e = some_passes (λ (x : EndRef). is_pending (end_of w x)) (found_end w f.instance index) e
able_wait g w f task number (ForCancel index) e = tt

able_cause : (g : Graph) (w : World) (f : Lifted) (task : Task) (state : TaskState) → is_able_in g w f.instance task state ≡ true → HasCause g w f task state
able_cause g w f task (InLoop word) e = able_loop w f task (callback_of word) (right_true _ (loop_is_over w f.instance task (callback_of word)) e)
able_cause g w f task (InBuiltin number words wait) e = able_wait g w f task number wait e
able_cause g w f task New e = tt
able_cause g w f task Acting e = tt
able_cause g w f task (AfterCall callee number words) e = tt
able_cause g w f task (AfterCancel callee number words) e = tt
able_cause g w f task (Begins n) e = tt
able_cause g w f task WaitsToEnter e = tt
able_cause g w f task Exited e = tt

able_has : (g : Graph) (w : World) (task : Task) (f : Lifted) → is_able g w task ≡ true → func_of task.callee ≡ Some f → HasCause g w f task task.state
able_has g w task f able runs =
    able_cause g w f task task.state (subst (λ (o : Option Lifted). passes (λ (x : Lifted). is_able_in g w x.instance task task.state) o ≡ true) runs able)

-- So it is whatever the chain, what comes next, and how much is used.
module _ (w : World) (chain : List ℕ) (control : Control) (units picks taken : ℕ) where
  abbrev then_world : World
  then_world = later w chain control units picks taken

  loop_later : (f : Lifted) (task : Task) (r : Result Next BadCode) → EndsLoop w f task r → EndsLoop then_world f task r
  loop_later f task (Ok next.Exit) h = tt
  loop_later f task (Ok next.Yield) h = tt
  loop_later f task (Ok (next.Wait index)) h = λ unasked. some_ready_same w chain control units picks taken f.instance index ∙ h unasked
  loop_later f task (Ok (next.Poll index)) h = tt
  loop_later f task (Err why) h = tt

  wait_later : (g : Graph) (f : Lifted) (task : Task) (number : ℕ) (wait : Wait) → EndsWait g w f task number wait → EndsWait g then_world f task number wait
  wait_later g f task number ForYield h = tt
  wait_later g f task number (ForSet index) h = λ untold. some_ready_same w chain control units picks taken f.instance index ∙ h untold
  wait_later g f task number (ForCall callee) h = h
  wait_later g f task number (ForCopy index) h = h
  wait_later g f task number (ForCancel index) h = tt

  cause_later : (g : Graph) (f : Lifted) (task : Task) (state : TaskState) → HasCause g w f task state → HasCause g then_world f task state
  cause_later g f task (InLoop word) h = loop_later f task (callback_of word) h
  cause_later g f task (InBuiltin number words wait) h = wait_later g f task number wait h
  cause_later g f task New h = tt
  cause_later g f task Acting h = tt
  cause_later g f task (AfterCall callee number words) h = tt
  cause_later g f task (AfterCancel callee number words) h = tt
  cause_later g f task (Begins n) h = tt
  cause_later g f task WaitsToEnter h = tt
  cause_later g f task Exited h = tt

-- A task that goes on by its line has one: an able one where no task runs, and one that came back.
pub able_comes : (g : Graph) (w : World) (t : ℕ) (task : Task) (units : ℕ) → slice_get w.tasks t ≡ Some task → is_able g w task ≡ true → EventComes g Resumes (with_control Free (chained t (record w { units = units })))
able_comes g w t task units there able u x f first at runs =
    let same : t ≡ u = some_same first in
    let is : task ≡ x = some_same (sym there ∙ subst (λ (n : ℕ). slice_get w.tasks n ≡ Some x) (sym same) at) in
    subst (λ (y : Task). HasCause g (later w (t ∷ w.chain) Free units w.picks w.taken) f y y.state) is
    (cause_later w (t ∷ w.chain) Free units w.picks w.taken g f task task.state (able_has g w task f able (subst (λ (y : Task). func_of y.callee ≡ Some f) (sym is) runs)))

pub going_comes : (g : Graph) (w : World) (units : ℕ) → EventComes g Goes w → EventComes g Resumes (with_control Free (record w { units = units }))
going_comes g w units h t task f first at runs = cause_later w w.chain Free units w.picks w.taken g f task task.state (h t task f first at runs)

-- A task that a cancellation lets go on is to be told of it.
resumed_true : (b : Bool) → (if b then ResumeNow else Pending) ≡ ResumeNow → b ≡ true
resumed_true true e = refl
resumed_true false e = cc

not_both : (b : Bool) (P : Type 0) → b ≡ true → b ≡ false → P
not_both b P is is_not = absurd (let clash : true ≡ false = sym is ∙ is_not in let none : ⊥ = cc in none)

abbrev asks : Task → Task
asks task = record task { cancellation = Asked }

asked_loop : (u : World) (f : Lifted) (task : Task) (r : Result Next BadCode) → EndsLoop u f (asks task) r
asked_loop u f task (Ok next.Exit) = tt
asked_loop u f task (Ok next.Yield) = tt
asked_loop u f task (Ok (next.Wait index)) = λ unasked. not_both true (is_some_ready u f.instance index ≡ true) refl unasked
asked_loop u f task (Ok (next.Poll index)) = tt
asked_loop u f task (Err why) = tt

asked_wait : (g : Graph) (u : World) (f : Lifted) (task : Task) (free : Bool) (number : ℕ) (words : List ℕ) (wait : Wait) → phase_case free (kind_of task) (phase_of (flag_at g) (InBuiltin number words wait)) ≡ ResumeNow
    → EndsWait g u f (asks task) number wait
asked_wait g u f task free number words ForYield e = tt
asked_wait g u f task free number words (ForSet index) e =
    λ untold. not_both (is_cancellable free (kind_of task) (blocked_at.Set index) (flag_at g number)) (is_some_ready u f.instance index ≡ true)
    (resumed_true (is_cancellable free (kind_of task) (blocked_at.Set index) (flag_at g number)) e) untold
asked_wait g u f task free number words (ForCall callee) e = cc
asked_wait g u f task free number words (ForCopy index) e = cc
asked_wait g u f task free number words (ForCancel index) e = tt

asked_cause : (g : Graph) (u : World) (f : Lifted) (task : Task) (free : Bool) (state : TaskState) → phase_case free (kind_of task) (phase_of (flag_at g) state) ≡ ResumeNow → HasCause g u f (asks task) state
asked_cause g u f task free (InLoop word) e = asked_loop u f task (callback_of word)
asked_cause g u f task free (InBuiltin number words wait) e = asked_wait g u f task free number words wait e
asked_cause g u f task free New e = tt
asked_cause g u f task free Acting e = tt
asked_cause g u f task free (AfterCall callee number words) e = tt
asked_cause g u f task free (AfterCancel callee number words) e = tt
asked_cause g u f task free (Begins n) e = tt
asked_cause g u f task free WaitsToEnter e = tt
asked_cause g u f task free Exited e = tt

pub asked_comes : (g : Graph) (w : World) (t : ℕ) (task : Task) (free : Bool) → slice_get w.tasks t ≡ Some task → phase_case free (kind_of task) (phase_of (flag_at g) task.state) ≡ ResumeNow
    → EventComes g Goes (with_control Free (chained t (with_cancellation t Asked w)))
asked_comes g w t task free there e u x f first at runs =
    let same : t ≡ u = some_same first in
    let is : asks task ≡ x = some_same (sym (changed_there t asks w.tasks task there) ∙ subst (λ (n : ℕ). slice_get (changed_at t asks w.tasks) n ≡ Some x) (sym same) at) in
    subst (λ (y : Task). HasCause g (with_control Free (chained t (with_cancellation t Asked w))) f y y.state) is
    (asked_cause g (with_control Free (chained t (with_cancellation t Asked w))) f task free task.state e)

-- What is ready once the task that goes on acts.

any_same : (P : Task → Bool) (t : ℕ) (f : Task → Task) (tasks : List Task) → ((x : Task) → slice_get tasks t ≡ Some x → P (f x) ≡ P x) → list_any P (changed_at t f tasks) ≡ list_any P tasks
any_same P t f [] same = refl
any_same P zero f (x ∷ tasks) same = ap (λ (b : Bool). b || list_any P tasks) (same x refl)
any_same P (suc t) f (x ∷ tasks) same = ap (λ (b : Bool). P x || b) (any_same P t f tasks same)

passes_same : (P : Task → Bool) (t : ℕ) (f : Task → Task) (tasks : List Task) (n : ℕ) → ((x : Task) → slice_get tasks t ≡ Some x → P (f x) ≡ P x)
    → passes P (slice_get (changed_at t f tasks) n) ≡ passes P (slice_get tasks n)
passes_same P t f [] n same = refl
passes_same P zero f (x ∷ tasks) zero same = same x refl
passes_same P zero f (x ∷ tasks) (suc n) same = refl
passes_same P (suc t) f (x ∷ tasks) zero same = refl
passes_same P (suc t) f (x ∷ tasks) (suc n) same = passes_same P t f tasks n same

abbrev acts : Task → Task
acts task = record task { state = Acting }

-- in a state in which it waits for no index, and has entered
abbrev pub StaysAside : TaskState → Type 0
StaysAside state = ((index : ℕ) → waits_at index state ≡ false) × (open_state (phase_of (λ (number : ℕ). false) state) ≡ Started)

state_same : (x : Task) → StaysAside x.state → subtask_state (acts x) ≡ subtask_state x
state_same x aside = by x.resolution
  where
    by : (r : Option Resolution) → resolved_state x.cancellation r (phase_of (λ (number : ℕ). false) Acting) ≡ resolved_state x.cancellation r (phase_of (λ (number : ℕ). false) x.state)
    by None = sym aside.1
    by (Some Returned) = refl
    by (Some Cancelled) = refl

event_same : (callee : ℕ) (x : Task) (o : Option Subtask) → StaysAside x.state → subtask_has_event callee (acts x) o ≡ subtask_has_event callee x o
event_same callee x None aside = refl
event_same callee x (Some subtask) aside = ap (λ (s : SubtaskState). has_event (subtask_view callee s subtask)) (state_same x aside)

module _ (w : World) (t : ℕ) (task : Task) (there : slice_get w.tasks t ≡ Some task) (aside : StaysAside task.state) where
  abbrev behind : World
  behind = in_state t Acting w

  aside_there : (x : Task) → slice_get w.tasks t ≡ Some x → StaysAside x.state
  aside_there x at = subst (λ (y : Task). StaysAside y.state) (some_same (sym there ∙ at)) aside

  channels_acting : (kind : EndKind) → channels kind behind ≡ channels kind w
  channels_acting Stream = refl
  channels_acting Future = refl

  end_acting : (e : EndRef) → end_of behind e ≡ end_of w e
  end_acting e = ap (λ (all : List Channel). channel_end e.side (numbered all e.number)) (channels_acting e.kind)

  event_acting : (o : Option Entry) → entry_has_event behind o ≡ entry_has_event w o
  event_acting None = refl
  event_acting (Some (OwnHandle resource rep)) = refl
  event_acting (Some (BorrowHandle resource rep other)) = refl
  event_acting (Some (OfSubtask callee)) =
      passes_same (λ (x : Task). subtask_has_event callee x (subtask_of x.caller)) t acts w.tasks callee (λ x at. event_same callee x (subtask_of x.caller) (aside_there x at))
  event_acting (Some (OfSet set)) = refl
  event_acting (Some (OfEnd e)) = ap (λ (x : End). is_pending x) (end_acting e)

  waited_acting : (i index : ℕ) → is_waited_for behind i index ≡ is_waited_for w i index
  waited_acting i index =
      any_same (λ (x : Task). runs_in i x && waits_at index x.state) t acts w.tasks (λ x at. ap (λ (b : Bool). runs_in i x && b) (sym ((aside_there x at).0 index)))

  news_acting : (i index : ℕ) → has_news behind i index ≡ has_news w i index
  news_acting i index =
      ap (λ (b : Bool). b && not (is_waited_for behind i index)) (event_acting (entry_at w i index))
      ∙ ap (λ (b : Bool). entry_has_event w (entry_at w i index) && not b) (waited_acting i index)

  ready_acting : (i set : ℕ) → ready behind i set ≡ ready w i set
  ready_acting i set =
      ap (λ (l : List ℕ). ready_of l (set_view (members_of w i set)))
      (filter_same (has_news behind i) (has_news w i) (range_with_len 1 (greatest (table_of w i))) (λ index. news_acting i index))

  some_acting : (i : ℕ) (o : Option ℕ) → passes (λ (set : ℕ). not (is_none (ready behind i set))) o ≡ passes (λ (set : ℕ). not (is_none (ready w i set))) o
  some_acting i None = refl
  some_acting i (Some set) = ap (λ (l : List ℕ). not (is_none l)) (ready_acting i set)

  pub some_ready_acting : (i index : ℕ) → is_some_ready behind i index ≡ is_some_ready w i index
  some_ready_acting i index = some_acting i (set_number w i index)

-- The first member that is ready.
some_first : (members : List ℕ) → not (is_none members) ≡ true → IsSome (slice_get members 0)
some_first [] e = cc
some_first (x ∷ members) e = refl

pub ready_found : (w : World) (i index set : ℕ) → set_number w i index ≡ Some set → is_some_ready w i index ≡ true → IsSome (slice_get (ready w i set) 0)
ready_found w i index set e some = some_first (ready w i set) (subst (λ (o : Option ℕ). passes (λ (x : ℕ). not (is_none (ready w i x))) o ≡ true) e some)

pub first_ready : (w : World) (i set index : ℕ) (members : List ℕ) → index ∷ members ≡ ready w i set → IsSome (slice_get (ready w i set) 0)
first_ready w i set index members same = subst (λ (l : List ℕ). IsSome (slice_get l 0)) same refl

-- The function that the acting task runs, by its component instance too.
one_func : (w : World) (t : ℕ) (f : Lifted) → Is (IsOfFunc f) t w → (u : ℕ) (task : Task) (l : Lifted) → IsFirst u w.chain → slice_get w.tasks u ≡ Some task → func_of task.callee ≡ Some l → f ≡ l
one_func w t f mine u task l first at runs =
    let same : u ≡ t = some_same (sym first ∙ mine.0) in
    let here : slice_get w.tasks t ≡ Some task = subst (λ (n : ℕ). slice_get w.tasks n ≡ Some task) same at in
    let is : func_of task.callee ≡ Some f = is_what (IsOfFunc f) t w (outline_of task) mine (outline_there w.tasks t task here) in
    some_same (sym is ∙ runs)

pub instance_is : (g : Graph) (w : World) (t number i : ℕ) (f : Lifted) → Is (λ (o : Outline). CallsOwn g (func_of o.callee) number) t w → Is (IsOfFunc f) t w → owner_of_canon g number ≡ Some i → i ≡ f.instance
instance_is g w t number i f calls mine here =
    let own : CallsOwn g (func_of mine.1.0.callee) number = is_what (λ (o : Outline). CallsOwn g (func_of o.callee) number) t w mine.1.0 calls mine.1.1 in
    let is : owner_of_canon g number ≡ Some f.instance = subst (λ (o : Option Lifted). CallsOwn g o number) mine.1.2 own in
    some_same (sym here ∙ is)

-- The event of a member comes to the acting task, whatever picks are used.
pub member_comes : (g : Graph) (w : World) (t : ℕ) (f : Lifted) (set : ℕ) (receiver : Receiver) (pick : Option ℕ) (picks : ℕ) → Is (IsOfFunc f) t w → IsReadyAt pick (ready w f.instance set) → HasReceiver receiver f
    → EventComes g (Delivers set receiver pick) (record w { picks = picks; control = Free })
member_comes g w t f set receiver pick picks mine there has u task l first at runs =
    subst (λ (x : Lifted). IsReadyAt pick (ready (later w w.chain Free w.units picks w.taken) x.instance set) × HasReceiver receiver x) (one_func w t f mine u task l first at runs)
    (subst (λ (members : List ℕ). IsReadyAt pick members) (sym (ready_same w w.chain Free w.units picks w.taken f.instance set)) there, has)

-- what is known of a task that goes on from this state
pub record GoesOnFrom (g : Graph) (w : World) (t : ℕ) (task : Task) (f : Lifted) (state : TaskState) : Type 0 where
  pub there : slice_get w.tasks t ≡ Some task
  pub is : task.state ≡ state
  pub runs : func_of task.callee ≡ Some f
  pub cause : HasCause g w f task state
  pub waits : WaitsAs w.tasks task.callee state

-- a function of this kind has a callback
callback_if : (is_async some : Bool) → (if is_async then (if some then Callback else Stackful) else Sync) ≡ Callback → some ≡ true
callback_if true true e = refl
callback_if true false e = cc
callback_if false some e = cc

pub has_callback : (options : Options) → kind_of_options options ≡ Callback → IsSome options.callback
has_callback options e = callback_if options.is_async (is_some options.callback) e

pub loop_has : (g : Graph) (w : World) (t : ℕ) (task : Task) (f : Lifted) (word : ℕ) → GoesOnFrom g w t task f (InLoop word) → IsSome f.options.callback
loop_has g w t task f word h = has_callback f.options (subst (λ (o : Option Lifted). kind_of_func o ≡ Callback) h.runs h.waits)

loop_aside : (state : TaskState) (word : ℕ) → state ≡ InLoop word → StaysAside state
loop_aside state word is = subst StaysAside (sym is) ((λ index. refl), refl)

set_aside : (state : TaskState) (number index : ℕ) (words : List ℕ) → state ≡ InBuiltin number words (ForSet index) → StaysAside state
set_aside state number index words is = subst StaysAside (sym is) ((λ other. refl), refl)

-- Once it acts, a member of the set that it waited on is ready.
pub loop_ready : (g : Graph) (w : World) (t : ℕ) (task : Task) (f : Lifted) (word index : ℕ) → GoesOnFrom g w t task f (InLoop word) → is_asked task.cancellation ≡ false → callback_of word ≡ Ok (next.Wait index)
    → is_some_ready (in_state t Acting w) f.instance index ≡ true
loop_ready g w t task f word index h unasked says =
    let ends : EndsLoop w f task (Ok (next.Wait index)) = subst (EndsLoop w f task) says h.cause in
    some_ready_acting w t task h.there (loop_aside task.state word h.is) f.instance index ∙ ends unasked

pub set_ready : (g : Graph) (w : World) (t : ℕ) (task : Task) (f : Lifted) (number : ℕ) (words : List ℕ) (wait : Wait) (index : ℕ) → GoesOnFrom g w t task f (InBuiltin number words wait) → is_to_be_told g number wait task w f.instance ≡ false
    → wait ≡ ForSet index → is_some_ready (in_state t Acting w) f.instance index ≡ true
set_ready g w t task f number words wait index h untold same =
    let ends : EndsWait g w f task number (ForSet index) = subst (EndsWait g w f task number) same h.cause in
    let not_told : is_to_be_told g number (ForSet index) task w f.instance ≡ false = subst (λ (x : Wait). is_to_be_told g number x task w f.instance ≡ false) same untold in
    let is : task.state ≡ InBuiltin number words (ForSet index) = h.is ∙ ap (λ (x : Wait). InBuiltin number words x) same in
    some_ready_acting w t task h.there (set_aside task.state number index words is) f.instance index ∙ ends not_told
