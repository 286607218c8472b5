-- What comes next where core code makes moves, tasks resolve and exit, values are lowered, and a graph is instantiated.
use Rattle.std.proofs.Common.{◌≡◌, ◌∙◌, ℕ, Bool, true, nat_eq, arith, List, [], ◌∷◌, drop, refl, sym, subst, Option, Some, None, Result, Ok, Err}
use Rattle.std.proofs.lemmas.Bool.Decides.{nat_tests}
use Rattle.std.specs.Prelude.{IsSome, IfSome, is_none}
use Rattle.std.specs.Option.{option_map}
use Rattle.std.specs.List.{slice_get}
use Rattle.wasm_store.specs.Store.{Store, Function, found_at}
use Rattle.wasm_store.specs.Stack.{Stack}
use Rattle.wasm_store.specs.Instantiation.{External, Instantiation, Makes, SegmentBounds, instantiated}
use Rattle.wasm_store.specs.Step.{Move, Goes, Traps}
use Rattle.wasm_store.specs.Step as core
use Rattle.wasm_memory.specs.Memories.{MemoryState}
use Rattle.syntax_trees.specs.declared.types.ValType.{ValType}
use Rattle.entry_gate.specs.Callbacks.{callback_of}
use Rattle.entry_gate.specs.declared.callback.BadCode.{BadCode}
use Rattle.entry_gate.specs.declared.callback.Next.{Next}
use Rattle.entry_gate.specs.declared.callback.Next.TheVariants as next
use Rattle.entry_gate.specs.declared.kind.Kind.{Kind}
use Rattle.entry_gate.specs.declared.kind.Kind.TheVariants.{Sync, Callback, Stackful}
use Rattle.tasks.specs.declared.phase.Resolution.TheVariants.{Returned}
use Rattle.tasks.specs.Tasks.{resolving_fault}
use Rattle.comp_graph.specs.declared.graph.Action.{Action}
use Rattle.comp_graph.specs.declared.graph.Action.TheVariants.{Begin, Make}
use Rattle.comp_graph.specs.declared.graph.FuncRef.{FuncRef}
use Rattle.comp_graph.specs.declared.graph.Options.{Options}
use Rattle.comp_graph.specs.declared.graph.CanonFunc.{CanonFunc}
use Rattle.comp_graph.specs.Needs.{flat_result_limit}
use Rattle.comp_graph.specs.Graph.{CoreMake, Graph, Lifted}
use Rattle.script_reader.specs.Script.{Script}
use Rattle.trace_labels.specs.declared.label.Label.TheVariants as line
use Rattle.trace_labels.specs.declared.typed.TypedValue.{TypedValue}
use Rattle.trace_labels.specs.declared.trap.TrapName.{TrapName}
use Rattle.trace_labels.specs.declared.trap.TrapName.TheVariants as trap
use Rattle.abi_machine.specs.Traps.{task_name, core_name}
use Rattle.abi_machine.specs.LoweringOver.{Plan}
use Rattle.abi_machine.specs.Control.{After, Replies, Finishes, Then, Starts, Resolves, Transfers, Copying, Lowering, HostedState, Going, AtCall, Nested, Behind, InLowering, BeforeLeaving, Leaves}
use Rattle.abi_machine.specs.World.{Caller, Nobody, Host, Guest, TaskState, New, Acting, AfterCall, AfterCancel, Begins, WaitsToEnter, InLoop, InBuiltin, Exited, Task, World}
use Rattle.abi_machine.specs.Edits.{rewritten, resolved, result_kept, unstacked}
use Rattle.abi_machine.specs.Canons.{func_address, canon_at, builtin_of, inst_of_canon, externals, bytes_of}
use Rattle.abi_machine.specs.Reading.{table_of, acting, func_of, kind_of, channel_at}
use Rattle.abi_machine.specs.Counting.{task_view}
use Rattle.abi_machine.specs.Lifting.{Kept, Stopped, Came, once_lifted}
use Rattle.abi_machine.specs.Finding.{set_at}
use Rattle.abi_machine.specs.Pausing.{Paused, Words, Failed, Asked, Settled, settle}
use Rattle.abi_machine.specs.Turn.{Turn, given, silent, doomed}
use Rattle.abi_machine.specs.Instantiating.{started_up, made, action_turn, instantiating_turn}
use Rattle.abi_machine.specs.Returning.{result_passed, post_return, finished, passed_to, passed_on, resolves_to, resolves, returning_turn, ending_turn, leaving_turn}
use Rattle.abi_machine.specs.Looping.{next_turn, looping_turn}
use Rattle.abi_machine.specs.CoreSteps.{costs, func_ended, stack_ended, ended_over, moved, running_turn}
use Rattle.abi_machine.specs.Copying.{transferring_turn}
use Rattle.abi_machine.specs.Lowering.{started, lowered, paused, left_by, settled_turn, lowers_turn}
use Rattle.abi_machine.specs.replies.Context.{Exempt, Answers, exempt_of}
use Rattle.abi_machine.specs.Nested.{hosted_move, hosted_next, nested_ended, answered_in_place, answered_or_refused, calls_host, hosted, nested_turn}
use Rattle.abi_machine.specs.sound.Changes.{IsFirst}
use Rattle.abi_machine.specs.sound.Firsts.{TaskIs}
use Rattle.abi_machine.specs.sound.Agreeing.{IsDueBehind}
use Rattle.abi_machine.specs.sound.Acting.{Outline, outlines_of, RunsIn, IsRunning, IsActing, OneActs}
use Rattle.abi_machine.specs.sound.Owners.{IsHostedBy, HasOwnRealloc}
use Rattle.abi_machine.specs.sound.GoingOn.{HasNext, IsFuncThere, AreFuncsThere, HaveFuncs, IsMakeable, IsMove, EndsWithWord, RunsOn, GivesPlace, HostedOn, AsksAt, AsksOf}
use Rattle.abi_machine.proofs.sound.Lifts.{Leaves as LeavesWith}
use Rattle.abi_machine.proofs.sound.Acted.{still_is}
use Rattle.abi_machine.proofs.sound.Due.{channel_is}
use Rattle.abi_machine.proofs.sound.Found.{some_there, some_same}
use Rattle.abi_machine.proofs.sound.known.Lifting.{result_keeps}
use Rattle.abi_machine.proofs.sound.nexts.Parts.{given_next, found_next, behind_next, either_next, unless_next, refused_next, fault_next, charged_next, acts_found, found_by, acting_next, HasCaller, there_rewritten, if_there_rewritten}

-- Tasks resolve, and exit.

-- Of a world with this store the acting task has this number and runs this function.
abbrev pub ActsFor : ℕ → Lifted → Store → World → Type 0
ActsFor t f store w = (w.store ≡ store) × IsFirst t w.chain × TaskIs w.tasks t (λ task. func_of task.callee ≡ Some f)

-- the post-return that is called when a result has reached its caller
abbrev pub PostThere : After → Lifted → Store → Type 0
PostThere Replies f s = Unit {0}
PostThere (Finishes words) f s = IfSome f.options.post_return (IsFuncThere s)

post_next : (t : ℕ) (f : Lifted) (words : List ℕ) (o : Option FuncRef) (w : World) → IfSome o (IsFuncThere w.store) → HasNext (post_return t f words o w)
unfolding post_return
post_next t f words None w h = tt
post_next t f words (Some ref) w h = given_next (found_at w.store.funcs (func_address w.store ref)) _ h (λ function e. tt)

finished_next : (after : After) (t : ℕ) (f : Lifted) (store : Store) (w : World) → PostThere after f store → ActsFor t f store w → HasNext (finished after w)
unfolding finished
finished_next Replies t f store w there h = found_next (acting w) (t, h.2.0) _ (found_by w.tasks (slice_get w.chain 0) t h.2.0 h.1 h.2.1) tt
finished_next (Finishes words) t f store w there h =
    found_next (acting w) (t, h.2.0) _ (found_by w.tasks (slice_get w.chain 0) t h.2.0 h.1 h.2.1)
    (found_next (func_of h.2.0.callee) f _ h.2.2 (post_next t f words f.options.post_return w (subst (λ (s : Store). IfSome f.options.post_return (IsFuncThere s)) (sym h.0) there)))

passed_next : (g : Graph) (c : Caller) (after : After) (result : Option TypedValue) (t : ℕ) (f : Lifted) (store : Store) (w : World) → HasCaller g c → PostThere after f store → ActsFor t f store w
    → HasNext (passed_on g t c after result w)
unfolding passed_on passed_to
passed_next g (Guest subtask) after (Some result) t f store w called there h = given_next (canon_at g subtask.canon) _ called (λ c e. tt)
passed_next g (Guest subtask) after None t f store w called there h = finished_next after t f store w there h
passed_next g (Host call values) after result t f store w called there h = finished_next after t f store w there h
passed_next g Nobody after result t f store w called there h = absurd called

resolved_next : (g : Graph) (task : Task) (after : After) (result : Option TypedValue) (t : ℕ) (f : Lifted) (store : Store) (w : World) → HasCaller g task.caller → PostThere after f store → ActsFor t f store w
    → HasNext (resolves_to g t task after result w)
unfolding resolves_to
resolved_next g task after result t f store w called there h =
    fault_next t task_name (resolving_fault (task_view g w t task)) w _
    (behind_next (line.Return t result ∷ []) _
    (passed_next g task.caller after result t f store (resolved t Returned w) called there
    (h.0, h.1, still_is w.tasks t t (λ x. record x { resolution = Some Returned }) (λ x. func_of x.callee ≡ Some f) (λ x p. p) h.2)))

-- what was lifted leaves the acting task as it is
came_keeps_next : {A : Type 0} (K : World → Type 0) (t : ℕ) (came : Came A) (more : A → World → Turn) → LeavesWith (λ (k : Kept). K k.world) (λ (stop : Stopped). K stop.world) came
    → ((x : A) (v : World) → K v → HasNext (more x v)) → HasNext (once_lifted t came more)
came_keeps_next K t (Ok x) more h next = behind_next x.1.lines (more x.0 x.1.world) (next x.0 x.1.world h)
came_keeps_next K t (Err stop) more h next = tt

pub resolving_next : (g : Graph) (task : Task) (after : After) (i limit : ℕ) (type : Option ValType) (options : Options) (words : List ℕ) (t : ℕ) (f : Lifted) (store : Store) (w : World) → HasCaller g task.caller
    → PostThere after f store → ActsFor t f store w → HasNext (resolves g t task after (result_passed i t limit type options words w))
unfolding resolves
resolving_next g task after i limit type options words t f store w called there h =
    came_keeps_next (ActsFor t f store) t (result_passed i t limit type options words w) (λ result v. resolves_to g t task after result v)
    (result_keeps (ActsFor t f store) (λ j index v stands k. k) (λ j index v stands k. k)
    (λ callee index v k. (k.0, k.1, still_is v.tasks callee t _ (λ x. func_of x.callee ≡ Some f) (λ x p. p) k.2)) i t limit type options words w h)
    (λ result v k. resolved_next g task after result t f store v called there k)

ending_next : (t : ℕ) (task : Task) (w : World) → HasNext (ending_turn t task w)
unfolding ending_turn
ending_next t task w = unless_next t (is_none task.resolution) trap.Unresolved w (silent Leaves w) (λ e. tt)

word_next : (t : ℕ) (task : Task) (i word : ℕ) (r : Result Next BadCode) (w : World) → HasNext (next_turn t task i word r w)
unfolding next_turn
word_next t task i word (Err why) w = tt
word_next t task i word (Ok next.Exit) w = ending_next t task w
word_next t task i word (Ok next.Yield) w = tt
word_next t task i word (Ok (next.Wait set)) w = refused_next t (set_at w i set) w _ (λ number e. tt)
word_next t task i word (Ok (next.Poll set)) w = refused_next t (set_at w i set) w _ (λ number e. tt)

looping_next : (t : ℕ) (task : Task) (i : ℕ) (words : List ℕ) (w : World) → IsSome (slice_get words 0) → HasNext (looping_turn t task i words w)
unfolding looping_turn
looping_next t task i [] w h = cc
looping_next t task i (word ∷ words) w h = word_next t task i word (callback_of word) w

pub leaving_next : (P : Outline → Type 0) (w : World) → OneActs P (outlines_of w.tasks) w.chain → HasNext (leaving_turn w)
unfolding leaving_turn
leaving_next P w acts = acting_next P w _ acts (λ t task first there p. tt)

-- Core functions.

func_ended_next : (g : Graph) (t : ℕ) (task : Task) (f : Lifted) (kind : Kind) (words : List ℕ) (store : Store) (w : World) → HasCaller g task.caller → IfSome f.options.post_return (IsFuncThere store) → ActsFor t f store w
    → (kind ≡ Callback → IsSome (slice_get words 0)) → HasNext (func_ended g t task f kind words w)
unfolding func_ended returning_turn
func_ended_next g t task f Sync words store w called there h word = resolving_next g task (Finishes words) f.instance flat_result_limit f.func_type.result f.options words t f store w called there h
func_ended_next g t task f Stackful words store w called there h word = ending_next t task w
func_ended_next g t task f Callback words store w called there h word = looping_next t task f.instance words w (word refl)

stack_ended_next : (g : Graph) (t : ℕ) (task : Task) (state : TaskState) (words : List ℕ) (store : Store) (w : World) → RunsIn state task.callee → (IsSome (func_of task.callee) → HasCaller g task.caller)
    → ((f : Lifted) → func_of task.callee ≡ Some f → IfSome f.options.post_return (IsFuncThere store) × ActsFor t f store w) → (kind_of task ≡ Callback → IsSome (slice_get words 0)) → HasNext (stack_ended g t task state words w)
unfolding stack_ended
stack_ended_next g t task (Begins n) words store w runs called there word = tt
stack_ended_next g t task Acting words store w runs called there word =
    given_next (func_of task.callee) _ runs (λ f e. func_ended_next g t task f (kind_of task) words store w (called runs) (there f e).0 (there f e).1 word)
stack_ended_next g t task New words store w runs called there word = absurd runs
stack_ended_next g t task (AfterCall callee number args) words store w runs called there word = absurd runs
stack_ended_next g t task (AfterCancel callee number args) words store w runs called there word = absurd runs
stack_ended_next g t task WaitsToEnter words store w runs called there word = absurd runs
stack_ended_next g t task (InLoop code) words store w runs called there word = absurd runs
stack_ended_next g t task (InBuiltin number args wait) words store w runs called there word = absurd runs
stack_ended_next g t task Exited words store w runs called there word = absurd runs

over_next : (g : Graph) (t : ℕ) (task : Task) (under : List Stack) (words : List ℕ) (store : Store) (w : World) → RunsIn task.state task.callee → (IsSome (func_of task.callee) → HasCaller g task.caller)
    → ((f : Lifted) → func_of task.callee ≡ Some f → IfSome f.options.post_return (IsFuncThere store) × ActsFor t f store w) → (kind_of task ≡ Callback → under ≡ [] → IsSome (slice_get words 0)) → HasNext (ended_over g t task under words w)
unfolding ended_over
over_next g t task [] words store w runs called there word = stack_ended_next g t task task.state words store w runs called there (λ kind. word kind refl)
over_next g t task (k ∷ under) words store w runs called there word = tt

moved_next : (g : Graph) (t : ℕ) (task : Task) (move : Move) (w : World) → IsMove move → RunsIn task.state task.callee → (IsSome (func_of task.callee) → HasCaller g task.caller) → IsFirst t w.chain → slice_get w.tasks t ≡ Some task
    → ((f : Lifted) → func_of task.callee ≡ Some f → IfSome f.options.post_return (IsFuncThere w.store)) → (kind_of task ≡ Callback → drop 1 task.stacks ≡ [] → EndsWithWord move) → HasNext (moved g t task move w)
unfolding moved
moved_next g t task (Goes paid s k) w is runs called first at there word = tt
moved_next g t task (core.Calls address words k) w is runs called first at there word = tt
moved_next g t task (core.Ends words) w is runs called first at there word =
    over_next g t task (drop 1 task.stacks) words w.store (unstacked t w) runs called
    (λ f e. (there f e, (refl, first, still_is w.tasks t t (λ x. record x { stacks = drop 1 x.stacks }) (λ x. func_of x.callee ≡ Some f) (λ x p. p) (task, at, e)))) word
moved_next g t task (Traps why) w is runs called first at there word = tt
moved_next g t task core.Stuck w is runs called first at there word = absurd is

pub running_next : (g : Graph) (s : Script) (w : World) → OneActs IsRunning (outlines_of w.tasks) w.chain → ((t : ℕ) (task : Task) → slice_get w.tasks t ≡ Some task → IsSome (func_of task.callee) → HasCaller g task.caller)
    → RunsOn w → HaveFuncs w.store w.tasks → HasNext (running_turn g s w)
unfolding running_turn
running_next g s w acts called on funcs =
    acting_next IsRunning w _ acts (λ t task first at p.
    given_next (slice_get task.stacks 0) _ p.1 (λ k e.
    charged_next (costs k (core.next w.store k)) s w (λ v. moved g t task (core.next w.store k) v) (λ units.
    moved_next g t task (core.next w.store k) (record w { units = units }) (on t task k first at e).moves p.0 (called t task at) first at (λ f runs. (funcs t task f at runs).post_return) (on t task k first at e).gives_word)))

-- Lowerings.

started_next : (words : List ℕ) (t : ℕ) (task : Task) (f : Lifted) (w : World) → IsFirst t w.chain → slice_get w.tasks t ≡ Some task → func_of task.callee ≡ Some f → IsFuncThere w.store f.core → HasNext (started words w)
unfolding started
started_next words t task f w first at runs there =
    found_next (acting w) (t, task) _ (found_by w.tasks (slice_get w.chain 0) t task first at)
    (found_next (func_of task.callee) f _ runs (given_next (found_at w.store.funcs (func_address w.store f.core)) _ there (λ function e. tt)))

transferring_next : (copying : Copying) (t : ℕ) (task : Task) (w : World) → IsFirst t w.chain → slice_get w.tasks t ≡ Some task → IsDueBehind (Transfers copying) w.streams w.futures → HasNext (transferring_turn copying w)
unfolding transferring_turn
transferring_next copying t task w first at due =
    found_next (acting w) (t, task) _ (found_by w.tasks (slice_get w.chain 0) t task first at)
    (found_next (channel_at w copying.end.kind copying.end.number) due.0 _ (sym (channel_is copying.end.kind copying.end.number w) ∙ due.1) tt)

post_there : (after : After) (f : Lifted) (s : Store) → IfSome f.options.post_return (IsFuncThere s) → PostThere after f s
post_there Replies f s h = tt
post_there (Finishes words) f s h = h

lowered_next : (next : Then) (words : List ℕ) (t : ℕ) (task : Task) (f : Lifted) (w : World) → IsFirst t w.chain → slice_get w.tasks t ≡ Some task → func_of task.callee ≡ Some f → IsFuncThere w.store f.core
    → IfSome f.options.post_return (IsFuncThere w.store) → IsDueBehind next w.streams w.futures → HasNext (lowered next words w)
unfolding lowered
lowered_next Starts words t task f w first at runs there post due = started_next words t task f w first at runs there
lowered_next (Resolves to after) words t task f w first at runs there post due =
    finished_next after t f w.store (result_kept to words w) (post_there after f w.store post) (refl, first, still_is w.tasks to t _ (λ x. func_of x.callee ≡ Some f) (λ x p. p) (task, at, runs))
lowered_next (Transfers copying) words t task f w first at runs there post due = transferring_next copying t task w first at due

-- the function that gives places stands where memories are written
abbrev at_address : ℕ → Option Function → Option (ℕ × Function)
at_address address o = option_map (λ x. (address, x)) o

realloc_there : (m : Option (ℕ × MemoryState)) (bytes : List ℕ) (s : Store) (o : Option ℕ) → IsSome o → ((address : ℕ) → o ≡ Some address → (f : Function) × (slice_get s.funcs address ≡ Some f)) → IsSome (found_at (rewritten m bytes s).funcs o)
realloc_there m bytes s None some there = cc
realloc_there None bytes s (Some address) some there = (let f = there address refl in subst (λ (o : Option Function). IsSome (at_address address o)) (sym f.1) refl)
realloc_there (Some m) bytes s (Some address) some there = (let f = there address refl in subst (λ (o : Option Function). IsSome (at_address address o)) (sym f.1) refl)

paused_next : (l : Lowering) (p : Paused) (w : World) → AsksAt l p → (IsSome l.realloc → IsSome (found_at w.store.funcs l.realloc)) → ((words : List ℕ) → HasNext (lowered l.next words w)) → HasNext (paused l p w)
unfolding paused
paused_next l (Words words) w asks there next = next words
paused_next l (Failed why) w asks there next = tt
paused_next l (Asked ask k) w asks there next = given_next (found_at w.store.funcs l.realloc) _ (there asks) (λ f e. tt)

pub lowers_next : (g : Graph) (l : Lowering) (plan : Plan) (b : Bool) (w : World) → OneActs (IsActing b) (outlines_of w.tasks) w.chain → HasOwnRealloc g w.store l → IsDueBehind l.next w.streams w.futures → AsksOf l plan w → HaveFuncs w.store w.tasks
    → HasNext (lowers_turn l plan w)
unfolding lowers_turn settled_turn
lowers_next g l plan b w acts own due asks funcs =
    let s : Settled = settle l.acts_for plan (bytes_of w.store l.memory) (table_of w l.inst) in
    let m : Option (ℕ × MemoryState) = found_at w.store.memories l.memory in
    let x = acts_found (IsActing b) w acts in
    let f = some_there (func_of x.1.callee) x.4.0 in
    let there : AreFuncsThere w.store f.0 = funcs x.0 x.1 f.0 x.3 f.1 in
    paused_next l s.paused (left_by l s w) asks
    (λ some. realloc_there m s.bytes w.store l.realloc some (λ address e. (let o = own address e in (o.0, o.1))))
    (λ words.
    lowered_next l.next words x.0 x.1 f.0 (left_by l s w) x.2 x.3 f.1 (there_rewritten m s.bytes w.store f.0.core there.core) (if_there_rewritten m s.bytes w.store f.0.options.post_return there.post_return) due)

-- Nested code.

nested_ended_next : (b : Behind) (words : List ℕ) (w : World) → GivesPlace b (core.Ends words) → HasNext (nested_ended b words w)
unfolding nested_ended
nested_ended_next (InLowering l k) [] w h = cc
nested_ended_next (InLowering l k) (place ∷ words) w h = tt
nested_ended_next BeforeLeaving words w h = tt

in_place_next : (n : Nested) (b : Behind) (k : Stack) (r : Result Answers TrapName) (w : World) → HasNext (answered_in_place n b k r w)
unfolding answered_in_place
in_place_next n b k (Err why) w = tt
in_place_next n b k (Ok answer) w = tt

refused_or_next : (n : Nested) (b : Behind) (k : Stack) (o : Option Exempt) (w : World) → HasNext (answered_or_refused n b k o w)
unfolding answered_or_refused
refused_or_next n b k None w = tt
refused_or_next n b k (Some exempt) w = in_place_next n b k (exempt w) w

calls_host_next : (n : Nested) (b : Behind) (k : Stack) (words : List ℕ) (c : CanonFunc) (w : World) → inst_of_canon c ≡ n.inst → HasNext (calls_host n b k words c w)
unfolding calls_host
calls_host_next n b k words c w same =
    either_next (nat_eq (inst_of_canon c) n.inst) _ _ (λ e. behind_next (line.Do n.acts_for (builtin_of c) words ∷ []) (answered_or_refused n b k (exempt_of n.acts_for words c) w) (refused_or_next n b k (exempt_of n.acts_for words c) w))
    (λ e. let yes : nat_eq (inst_of_canon c) n.inst ≡ true = grind (arith, nat_tests, same) in cc)

owner_is : (o : Option CanonFunc) (inst : ℕ) (f : CanonFunc → Turn) → option_map inst_of_canon o ≡ Some inst → ((c : CanonFunc) → inst_of_canon c ≡ inst → HasNext (f c)) → HasNext (given o f)
owner_is None inst f e next = cc
owner_is (Some c) inst f e next = next c (some_same e)

by_move_next : (g : Graph) (s : Script) (n : Nested) (b : Behind) (k : Stack) (store : Store) (move : Move) (w : World) → IsMove move → GivesPlace b move → HasNext (hosted g s n b (hosted_move k store move) w)
unfolding hosted
by_move_next g s n b k store (Goes paid t l) w is gives = charged_next paid s w _ (λ units. tt)
by_move_next g s n b k store (core.Calls number words l) w is gives = charged_next (costs k (core.Calls number words l)) s w _ (λ units. tt)
by_move_next g s n b k store (core.Ends words) w is gives = nested_ended_next b words w gives
by_move_next g s n b k store (Traps why) w is gives = charged_next true s w (λ v. doomed n.blame (core_name why) v) (λ units. tt)
by_move_next g s n b k store core.Stuck w is gives = absurd is

hosted_next_is : (g : Graph) (s : Script) (n : Nested) (b : Behind) (state : HostedState) (w : World) → IsHostedBy g n.inst state → HostedOn b w.store state → HasNext (hosted g s n b (hosted_next state w.store) w)
unfolding hosted
hosted_next_is g s n b (Going k) w own on = by_move_next g s n b k w.store (core.next w.store k) w on.0 on.1
hosted_next_is g s n b (AtCall number words k) w own on = owner_is (canon_at g number) n.inst _ own.0 (λ c same. calls_host_next n b k words c w same)

pub nested_next : (g : Graph) (s : Script) (n : Nested) (b : Behind) (w : World) → IsHostedBy g n.inst n.state → HostedOn b w.store n.state → HasNext (nested_turn g s n b w)
unfolding nested_turn
nested_next g s n b w own on = hosted_next_is g s n b n.state w own on

-- Instantiation.

started_up_next : (n : ℕ) (o : Option Stack) (w : World) → HasNext (started_up n o w)
unfolding started_up
started_up_next n None w = tt
started_up_next n (Some k) w = tt

made_next : (n : ℕ) (c : CoreMake) (imports : List External) (i : Instantiation) (w : World) → HasNext (made n c imports i w)
unfolding made
made_next n c imports (SegmentBounds s) w = tt
made_next n c imports (Makes s) w = started_up_next _ _ _

action_next : (g : Graph) (n : ℕ) (o : Option Action) (w : World) → ((number : ℕ) → o ≡ Some (Make number) → (c : CoreMake) × (slice_get g.cores number ≡ Some c) × IsSome (externals w.store c.imports)) → HasNext (action_turn g n o w)
unfolding action_turn
action_next g n None w there = tt
action_next g n (Some (Begin number)) w there = tt
action_next g n (Some (Make number)) w there =
    let c = there number refl in
    found_next (slice_get g.cores number) c.0 _ c.1 (given_next (externals w.store c.0.imports) _ c.2 (λ imports e. made_next n c.0 imports (instantiated c.0.of_module imports w.store) w))

pub instantiating_next : (g : Graph) (n : ℕ) (w : World) → IsMakeable g n w → HasNext (instantiating_turn g n w)
unfolding instantiating_turn
instantiating_next g n w there = action_next g n (slice_get g.plan n) w there
