-- What is told of a run so far is a front of what the machine's run tells. Where values are to be passed the turn of the machine is in its midst, and what is left of it is no end of the
-- run: so it is a step, and what was told ahead is the front of its lines.
use Rattle.std.proofs.Common.{◌≡◌, inl, inr, ℕ, suc, Bool, true, false, not, is_none, List, [], ◌∷◌, ◌++◌, refl, sym, ap, ◌∙◌, subst, append_assoc, append-nil, Option, Some, None, Result, Ok, Err}
use Rattle.wasm_store.specs.Store.{Function, found_at}
use Rattle.wasm_store.specs.Stack.{Stack}
use Rattle.syntax_trees.specs.declared.types.ValType.{ValType}
use Rattle.syntax_trees.specs.declared.value.Value.{Value}
use Rattle.entry_gate.specs.Callbacks.{callback_of}
use Rattle.entry_gate.specs.declared.callback.BadCode.{BadCode}
use Rattle.entry_gate.specs.declared.callback.Next.{Next}
use Rattle.entry_gate.specs.declared.callback.Next.TheVariants as go_on
use Rattle.entry_gate.specs.declared.kind.Kind.{Kind}
use Rattle.entry_gate.specs.declared.kind.Kind.TheVariants.{Sync, Callback, Stackful}
use Rattle.stream_ends.specs.declared.open_copy.By.TheVariants as by_whom
use Rattle.stream_ends.specs.declared.open_copy.OpenCopy.{OpenCopy}
use Rattle.stream_ends.specs.Ends.{new_copy}
use Rattle.tasks.specs.declared.event.TaskTrap.{TaskTrap}
use Rattle.tasks.specs.declared.phase.Resolution.TheVariants.{Returned}
use Rattle.tasks.specs.Tasks.{resolving_fault}
use Rattle.comp_graph.specs.declared.graph.BuiltinKind.{BuiltinKind}
use Rattle.comp_graph.specs.declared.graph.BuiltinKind.TheVariants as kind
use Rattle.comp_graph.specs.declared.graph.CanonFunc.{CanonFunc}
use Rattle.comp_graph.specs.declared.graph.CanonFunc.TheVariants as canon
use Rattle.comp_graph.specs.declared.graph.FuncRef.{FuncRef}
use Rattle.comp_graph.specs.declared.graph.Options.{Options}
use Rattle.comp_graph.specs.Graph.{Graph, Lifted}
use Rattle.comp_graph.specs.Needs.{flat_param_limit, flat_result_limit}
use Rattle.script_reader.specs.Script.{Script}
use Rattle.trace_labels.specs.declared.label.BlockReason.TheVariants as reason
use Rattle.trace_labels.specs.declared.label.Label.{Label}
use Rattle.trace_labels.specs.declared.label.Label.TheVariants as line
use Rattle.trace_labels.specs.declared.trap.TrapName.{TrapName}
use Rattle.trace_labels.specs.declared.trap.TrapName.TheVariants as trap
use Rattle.trace_labels.specs.declared.typed.TypedValue.{TypedValue}
use Rattle.programs.specs.declared.program.Program.{Program}
use Rattle.world_parts.specs.declared.parts.Copying.{Copying}
use Rattle.world_parts.specs.Held.{Held}
use Rattle.world_stacks.specs.Views.{PileView}
use Rattle.value_parts.specs.declared.to_pass.Passing.{Passing}
use Rattle.value_parts.specs.declared.to_pass.Passing.TheVariants as passing
use Rattle.value_moves.specs.Passing.{Passes}
use Rattle.machine_runs.specs.declared.ending.LastLine.{LastLine}
use Rattle.machine_runs.specs.declared.ending.RunEnd as kept_end
use Rattle.machine_runs.specs.Worlds.{Point, GoOn, IsRun, Reached, SoFarTells, StepGives, handed, handed_on, with_last}
use Rattle.abi_machine.specs.declared.run_end.RunEnd.{RunEnd}
use Rattle.abi_machine.specs.Canons.{canon_at, func_address, inst_of_canon, memory_of}
use Rattle.abi_machine.specs.Control.{After, BeforeLeaving, Replies, Finishes, Control, Calls, EndRef, Leaves, Quiet}
use Rattle.abi_machine.specs.Copying.{elements_moved, elements_read, elements_written, moved_by, other_offer, read_of, write_of}
use Rattle.abi_machine.specs.CoreSteps.{func_ended}
use Rattle.abi_machine.specs.Counting.{task_view}
use Rattle.abi_machine.specs.Edits.{in_state, resolved}
use Rattle.abi_machine.specs.Entering.{arguments_passed, arguments_turn, entered, with_arguments}
use Rattle.abi_machine.specs.Finding.{found_end, set_at}
use Rattle.abi_machine.specs.Lifting.{Came, once_lifted}
use Rattle.abi_machine.specs.Looping.{looping_turn, next_turn}
use Rattle.abi_machine.specs.Next.{next}
use Rattle.abi_machine.specs.Reading.{acting, channel_at, func_of, kind_of, task_at}
use Rattle.abi_machine.specs.Returning.{ending_turn, finished, passed_on, passed_to, post_return, post_return_call, resolves, resolves_to, result_passed, returning_turn}
use Rattle.abi_machine.specs.Run.{Reaches, Runs, end_label, lines_of, trace_of}
use Rattle.abi_machine.specs.SameTypes.{same_held}
use Rattle.abi_machine.specs.Traps.{task_name}
use Rattle.abi_machine.specs.Turn.{Turn, Steps, Ends, Stuck, behind, blocked, given, replied, silent, unless, unless_fault, unless_refused}
use Rattle.abi_machine.specs.World.{Acting, Caller, Nobody, Host, Guest, InLoop, Task, World, first_world}
use Rattle.abi_machine.specs.replies.Tasks.{return_checked, same_address}
use Rattle.abi_machine.proofs.sound.Unique.{one_run}
use Rattle.standing.specs.Agreeing.{control_at, copies, enters, returns, returns_canon, returns_kind}
use Rattle.run_laws.specs.Carried.{IsCarried, IsFit}
use Rattle.run_laws.specs.Fronts.{SoFarIsOfMachine}
use Rattle.run_laws.specs.Points.{InPassing, InPoint, ended, pending, stacks_at}
use Rattle.run_laws.specs.Whole.{IsOfMachine, start_of}
use Rattle.run_laws.proofs.Whole.{lines_on}
use Rattle.run_laws.proofs.onward.Whole.{IsGiven, carried_at, runs_are_of_machine}

-- A turn that ends no run.
abbrev EndsNone : Turn → Type 0
EndsNone (Steps lines w) = Unit {0}
EndsNone (Ends end) = ⊥
EndsNone Stuck = Unit {0}

given_none : {A : Type 0} (o : Option A) (f : A → Turn) → ((x : A) → EndsNone (f x)) → EndsNone (given o f)
given_none None f h = tt
given_none (Some x) f h = h x

behind_none : (lines : List Label) (t : Turn) → EndsNone t → EndsNone (behind lines t)
behind_none lines (Steps labels v) h = tt
behind_none lines (Ends end) h = h
behind_none lines Stuck h = tt

unless_none : (t : ℕ) (b : Bool) (why : TrapName) (w : World) (more : Turn) → EndsNone more → EndsNone (unless t b why w more)
unless_none t true why w more h = tt
unless_none t false why w more h = h

fault_none : {F : Type 0} (t : ℕ) (name : F → TrapName) (o : Option F) (w : World) (more : Turn) → EndsNone more → EndsNone (unless_fault t name o w more)
fault_none t name None w more h = h
fault_none t name (Some fault) w more h = tt

refused_none : {A : Type 0} (t : ℕ) (r : Result A TrapName) (w : World) (f : A → Turn) → ((x : A) → EndsNone (f x)) → EndsNone (unless_refused t r w f)
refused_none t (Err why) w f h = tt
refused_none t (Ok x) w f h = h x

lifted_none : {A : Type 0} (t : ℕ) (came : Came A) (more : A → World → Turn) → ((x : A) (v : World) → EndsNone (more x v)) → EndsNone (once_lifted t came more)
lifted_none t (Ok x) more h = behind_none x.1.lines (more x.0 x.1.world) (h x.0 x.1.world)
lifted_none t (Err stop) more h = tt

-- A task enters.
arguments_none : (g : Graph) (t : ℕ) (f : Lifted) (c : Caller) (w : World) → EndsNone (arguments_turn g t f c w)
unfolding arguments_turn with_arguments
arguments_none g t f Nobody w = tt
arguments_none g t f (Host call values) w = tt
arguments_none g t f (Guest subtask) w =
    given_none (canon_at g subtask.canon) (λ c. once_lifted t (arguments_passed t f subtask c w) (λ v later. with_arguments g t f v later))
    (λ c. lifted_none t (arguments_passed t f subtask c w) (λ v later. with_arguments g t f v later) (λ v later. tt))

entered_none : (g : Graph) (t : ℕ) (task : Task) (f : Lifted) (w : World) → EndsNone (entered g t task f w)
unfolding entered
entered_none g t task f w = behind_none (line.Enter t ∷ []) (arguments_turn g t f task.caller (in_state t Acting w)) (arguments_none g t f task.caller (in_state t Acting w))

enters_none : (g : Graph) (t : ℕ) (w : World) → EndsNone (enters g t w)
enters_none g t w =
    given_none (task_at w t) (λ task. given (func_of task.callee) (λ f. entered g t task f w))
    (λ task. given_none (func_of task.callee) (λ f. entered g t task f w) (λ f. entered_none g t task f w))

-- It returns.
post_return_none : (t : ℕ) (f : Lifted) (ended : List ℕ) (o : Option FuncRef) (w : World) → EndsNone (post_return t f ended o w)
unfolding post_return
post_return_none t f ended None w = tt
post_return_none t f ended (Some ref) w =
    given_none (found_at w.store.funcs (func_address w.store ref)) (λ function. silent (Quiet (post_return_call t f ended function) BeforeLeaving) w) (λ function. tt)

finished_none : (after : After) (w : World) → EndsNone (finished after w)
unfolding finished
finished_none Replies w = given_none (acting w) (λ a. replied a.0 [] w) (λ a. tt)
finished_none (Finishes ended) w =
    given_none (acting w) (λ a. given (func_of a.1.callee) (λ f. post_return a.0 f ended f.options.post_return w))
    (λ a. given_none (func_of a.1.callee) (λ f. post_return a.0 f ended f.options.post_return w) (λ f. post_return_none a.0 f ended f.options.post_return w))

passed_on_none : (g : Graph) (t : ℕ) (c : Caller) (after : After) (result : Option TypedValue) (w : World) → EndsNone (passed_on g t c after result w)
unfolding passed_on passed_to
passed_on_none g t Nobody after result w = finished_none after w
passed_on_none g t (Host call values) after result w = finished_none after w
passed_on_none g t (Guest subtask) after None w = finished_none after w
passed_on_none g t (Guest subtask) after (Some result) w = given_none (canon_at g subtask.canon) (λ c. passed_to g t subtask c after result w) (λ c. tt)

resolves_to_none : (g : Graph) (t : ℕ) (task : Task) (after : After) (result : Option TypedValue) (w : World) → EndsNone (resolves_to g t task after result w)
unfolding resolves_to
resolves_to_none g t task after result w =
    fault_none t task_name (resolving_fault (task_view g w t task)) w (behind (line.Return t result ∷ []) (passed_on g t task.caller after result (resolved t Returned w)))
    (behind_none (line.Return t result ∷ []) (passed_on g t task.caller after result (resolved t Returned w)) (passed_on_none g t task.caller after result (resolved t Returned w)))

resolves_none : (g : Graph) (t : ℕ) (task : Task) (after : After) (came : Came (Option TypedValue)) → EndsNone (resolves g t task after came)
unfolding resolves
resolves_none g t task after came = lifted_none t came (λ result w. resolves_to g t task after result w) (λ result w. resolves_to_none g t task after result w)

return_none : (g : Graph) (t : ℕ) (task : Task) (i : ℕ) (result : Option ValType) (options : Options) (words : List ℕ) (f : Lifted) (w : World)
    → EndsNone (return_checked g t task i result options words f w)
unfolding return_checked
return_none g t task i result options words f w =
    unless_none t (not (same_held result f.func_type.result)) trap.WrongResult w
    (unless t (not (same_address (memory_of w.store options) (memory_of w.store f.options))) trap.WrongOptions w (resolves g t task Replies (result_passed i t flat_param_limit result options words w)))
    (unless_none t (not (same_address (memory_of w.store options) (memory_of w.store f.options))) trap.WrongOptions w (resolves g t task Replies (result_passed i t flat_param_limit result options words w))
    (resolves_none g t task Replies (result_passed i t flat_param_limit result options words w)))

returns_kind_none : (g : Graph) (t : ℕ) (task : Task) (words : List ℕ) (i : ℕ) (k : BuiltinKind) (w : World) → EndsNone (returns_kind g t task words i k w)
returns_kind_none g t task words i (kind.TaskReturn result options) w =
    given_none (func_of task.callee) (λ f. return_checked g t task i result options words f w) (λ f. return_none g t task i result options words f w)
returns_kind_none g t task words i other w = tt

returns_canon_none : (g : Graph) (t : ℕ) (task : Task) (words : List ℕ) (c : CanonFunc) (w : World) → EndsNone (returns_canon g t task words c w)
returns_canon_none g t task words (canon.Lower l) w = tt
returns_canon_none g t task words (canon.Builtin b) w = returns_kind_none g t task words b.instance b.kind w

returns_none : (g : Graph) (t : ℕ) (c : Control) (w : World) → EndsNone (returns g t c w)
returns_none g t (Calls number words) w =
    given_none (task_at w t) (λ task. given (canon_at g number) (λ c. returns_canon g t task words c w))
    (λ task. given_none (canon_at g number) (λ c. returns_canon g t task words c w) (λ c. returns_canon_none g t task words c w))
returns_none g t other w = tt

-- A core function or a callback has ended.
ending_none : (t : ℕ) (task : Task) (w : World) → EndsNone (ending_turn t task w)
unfolding ending_turn
ending_none t task w = unless_none t (is_none task.resolution) trap.Unresolved w (silent Leaves w) tt

next_none : (t : ℕ) (task : Task) (i word : ℕ) (r : Result Next BadCode) (w : World) → EndsNone (next_turn t task i word r w)
unfolding next_turn
next_none t task i word (Err why) w = tt
next_none t task i word (Ok go_on.Exit) w = ending_none t task w
next_none t task i word (Ok go_on.Yield) w = tt
next_none t task i word (Ok (go_on.Wait set)) w = refused_none t (set_at w i set) w (λ number. blocked t (InLoop word) (reason.Wait set) w) (λ number. tt)
next_none t task i word (Ok (go_on.Poll set)) w = refused_none t (set_at w i set) w (λ number. blocked t (InLoop word) (reason.Poll set) w) (λ number. tt)

looping_none : (t : ℕ) (task : Task) (i : ℕ) (words : List ℕ) (w : World) → EndsNone (looping_turn t task i words w)
unfolding looping_turn
looping_none t task i [] w = tt
looping_none t task i (word ∷ words) w = next_none t task i word (callback_of word) w

func_none : (g : Graph) (t : ℕ) (task : Task) (f : Lifted) (k : Kind) (words : List ℕ) (w : World) → EndsNone (func_ended g t task f k words w)
unfolding func_ended returning_turn
func_none g t task f Sync words w = resolves_none g t task (Finishes words) (result_passed f.instance t flat_result_limit f.func_type.result f.options words w)
func_none g t task f Stackful words w = ending_none t task w
func_none g t task f Callback words w = looping_none t task f.instance words w

-- Elements go over.
moved_none : (g : Graph) (t : ℕ) (e : EndRef) (call read write : OpenCopy) (reading writing : CanonFunc) (count : ℕ) (element : Option ValType) (w : World)
    → EndsNone (moved_by g t e call read write reading writing count element w)
unfolding moved_by elements_read
moved_none g t e call read write reading writing count None w = tt
moved_none g t e call read write reading writing count (Some element) w =
    lifted_none t (elements_written t write writing count element w) (λ values later. elements_read g t e call.length read reading element values later) (λ values later. tt)

elements_none : (g : Graph) (t : ℕ) (e : EndRef) (call : OpenCopy) (count : ℕ) (element : Option ValType) (offer : OpenCopy) (w : World) → EndsNone (elements_moved g t e call count element offer w)
unfolding elements_moved
elements_none g t e call count element offer w =
    given_none (canon_at g (read_of e.side call offer).canon)
    (λ reading. given (canon_at g (write_of e.side call offer).canon) (λ writing. moved_by g t e call (read_of e.side call offer) (write_of e.side call offer) reading writing count element w))
    (λ reading.
    given_none (canon_at g (write_of e.side call offer).canon) (λ writing. moved_by g t e call (read_of e.side call offer) (write_of e.side call offer) reading writing count element w)
    (λ writing. moved_none g t e call (read_of e.side call offer) (write_of e.side call offer) reading writing count element w))

copies_none : (g : Graph) (t : ℕ) (x : Copying) (w : World) → EndsNone (copies g t x w)
copies_none g t x w =
    let call : OpenCopy = new_copy (by_whom.Task t) x.canon x.place x.length in
    given_none (canon_at g x.canon)
    (λ c. given (found_end w (inst_of_canon c) x.index) (λ e. given (channel_at w e.kind e.number) (λ channel. given (other_offer e.side channel.ends.view) (λ offer. elements_moved g t e call x.count channel.element offer w))))
    (λ c.
    given_none (found_end w (inst_of_canon c) x.index)
    (λ e. given (channel_at w e.kind e.number) (λ channel. given (other_offer e.side channel.ends.view) (λ offer. elements_moved g t e call x.count channel.element offer w)))
    (λ e.
    given_none (channel_at w e.kind e.number) (λ channel. given (other_offer e.side channel.ends.view) (λ offer. elements_moved g t e call x.count channel.element offer w))
    (λ channel.
    given_none (other_offer e.side channel.ends.view) (λ offer. elements_moved g t e call x.count channel.element offer w)
    (λ offer. elements_none g t e call x.count channel.element offer w))))

-- What is left of a turn where values are to be passed ends no run.
pub pending_none : (g : Graph) (h : Held) (x : Passing) (w : World) → EndsNone (pending g h x w)
pending_none g h passing.Nothing w = tt
pending_none g h passing.Arguments w = given_none (acting w) (λ a. enters g a.0 w) (λ a. enters_none g a.0 w)
pending_none g h passing.Returned w = given_none (acting w) (λ a. returns g a.0 (control_at h) w) (λ a. returns_none g a.0 (control_at h) w)
pending_none g h (passing.Ended words) w =
    given_none (acting w) (λ a. given (func_of a.1.callee) (λ f. func_ended g a.0 a.1 f (kind_of a.1) words w))
    (λ a. given_none (func_of a.1.callee) (λ f. func_ended g a.0 a.1 f (kind_of a.1) words w) (λ f. func_none g a.0 a.1 f (kind_of a.1) words w))
pending_none g h (passing.Elements copying) w = given_none (acting w) (λ a. copies g a.0 copying w) (λ a. copies_none g a.0 copying w)

-- A run that goes on to its end goes on behind each world to which steps lead.
record GoesBehind (g : Graph) (s : Script) (steps more : List (List Label)) (v u : World) : Type 0 where
  rest : List (List Label)
  are : more ≡ steps ++ rest
  reached : Reaches g s v rest u

goes_behind : (g : Graph) (s : Script) (w v u : World) (steps more : List (List Label)) (end : RunEnd) → Reaches g s w steps v → Reaches g s w more u → next g s u ≡ Ends end
    → GoesBehind g s steps more v u
goes_behind g s w v u [] more end r q e = record { rest = more; are = refl; reached = subst (λ (m : World). Reaches g s m more u) (sym r) q }
goes_behind g s w v u (x ∷ xs) [] end r q e =
    let same : next g s u ≡ next g s w = ap (next g s) q in
    cc (same, e, r.1)
goes_behind g s w v u (x ∷ xs) (y ∷ ys) end r q e =
    let labels : x ≡ y = cc (r.1, q.1) in
    let mid : q.0 ≡ r.0 = cc (r.1, q.1) in
    let b : GoesBehind g s xs ys v u = goes_behind g s r.0 v u xs ys end r.2 (subst (λ (m : World). Reaches g s m ys u) mid q.2) e in
    record { rest = b.rest; are = cc (labels, b.are); reached = b.reached }

-- What was told ahead is a front of what is told then.
turn_told : (g : Graph) (s : Script) (w u : World) (ahead : List Label) (turn : Turn) (steps : List (List Label)) (end : RunEnd) → EndsNone turn → next g s w ≡ behind ahead turn
    → Reaches g s w steps u → next g s u ≡ Ends end → (more : List Label) × (lines_of steps ≡ ahead ++ more)
turn_told g s w u ahead (Steps lines v) [] end none is r e =
    let same : next g s u ≡ next g s w = ap (next g s) r in
    cc (same, e, is)
turn_told g s w u ahead (Steps lines v) (x ∷ xs) end none is r e =
    let labels : x ≡ ahead ++ lines = cc (r.1, is) in
    (lines ++ lines_of xs, ap (λ (l : List Label). l ++ lines_of xs) labels ∙ append_assoc ahead lines (lines_of xs))
turn_told g s w u ahead (Ends other) steps end none is r e = absurd none
turn_told g s w u ahead Stuck [] end none is r e =
    let same : next g s u ≡ next g s w = ap (next g s) r in
    cc (same, e, is)
turn_told g s w u ahead Stuck (x ∷ xs) end none is r e = cc (r.1, is)

ahead_told : (g : Graph) (values : List ValType) (s : Script) (h : Held) (stacks : List (List Stack)) (x : Passing) (ahead : List Label) (w u : World) (steps : List (List Label)) (end : RunEnd)
    → InPassing g values s h stacks x ahead w → Reaches g s w steps u → next g s u ≡ Ends end → (more : List Label) × (lines_of steps ≡ ahead ++ more)
ahead_told g values s h stacks passing.Nothing ahead w u steps end at r e = (lines_of steps, ap (λ (l : List Label). l ++ lines_of steps) (sym at.none_ahead))
ahead_told g values s h stacks passing.Arguments ahead w u steps end at r e =
    turn_told g s w u ahead (pending g h passing.Arguments at.world) steps end (pending_none g h passing.Arguments at.world) at.turn r e
ahead_told g values s h stacks passing.Returned ahead w u steps end at r e =
    turn_told g s w u ahead (pending g h passing.Returned at.world) steps end (pending_none g h passing.Returned at.world) at.turn r e
ahead_told g values s h stacks (passing.Ended words) ahead w u steps end at r e =
    turn_told g s w u ahead (pending g h (passing.Ended words) at.world) steps end (pending_none g h (passing.Ended words) at.world) at.turn r e
ahead_told g values s h stacks (passing.Elements copying) ahead w u steps end at r e =
    turn_told g s w u ahead (pending g h (passing.Elements copying) at.world) steps end (pending_none g h (passing.Elements copying) at.world) at.turn r e

module _ (laws : IsGiven) (p : Program) (fit : IsFit p) (told : List Label) (last : World) (by : RunEnd) (runs : Runs p.graph.now p.script.now told last by) where
  abbrev g : Graph
  g = p.graph.now

  abbrev s : Script
  s = p.script.now

  abbrev IsFront : List Label → Type 0
  IsFront lines = (rest : List Label) × (trace_of told by ≡ lines ++ rest)

  -- Where steps led to a point.
  carried_front : (lines : List Label) (b : Point) → IsCarried p lines b → IsFront lines
  carried_front lines b c =
      let r : GoesBehind g s c.come.steps runs.0 c.come.world last = goes_behind g s (first_world g) c.come.world last c.come.steps runs.0 by c.come.reached runs.1 runs.2 in
      let a = ahead_told g p.types.now s b.held (stacks_at b.piles) b.passing c.come.ahead c.come.world last r.rest by c.come.point r.reached runs.2 in
      let all : told ≡ lines ++ a.0 =
      runs.3 ∙ ap lines_of r.are ∙ lines_on c.come.steps r.rest ∙ ap (λ (l : List Label). lines_of c.come.steps ++ l) a.1
      ∙ sym (append_assoc (lines_of c.come.steps) c.come.ahead a.0) ∙ ap (λ (l : List Label). l ++ a.0) (sym c.come.same_lines) in
      (a.0 ++ end_label by ∷ [], ap (λ (l : List Label). trace_of l by) all ∙ append_assoc lines a.0 (end_label by ∷ []))

  reached_front : (lines : List Label) (b : Point) → Reached Passes p (start_of p) lines b → IsFront lines
  reached_front lines b reached = carried_front lines b (carried_at laws p fit reached.count lines b reached.steps)

  -- Where the last one of them ended the run.
  run_front : (end : kept_end.RunEnd) (lines : List Label) (h : Held) → IsRun Passes p (start_of p) end lines h → IsFront lines
  run_front end lines h run =
      let m : IsOfMachine g s lines end = runs_are_of_machine laws p end lines h fit run in
      let same = one_run g s told m.told last m.last by m.by runs m.runs in
      ([], ap (λ (l : List Label). trace_of l by) same.0 ∙ ap (λ (e : RunEnd). trace_of m.told e) same.2 ∙ sym m.same_lines ∙ sym (append-nil lines))

  step_front : (lines before more : List Label) (b to : Point) (o : Option LastLine) → Reached Passes p (start_of p) before b → StepGives Passes p b o to → more ≡ with_last to.held.labels o
      → lines ≡ before ++ more → IsFront lines
  step_front lines before more b to None reached gives tells is =
      reached_front lines (handed_on to) (record { count = suc reached.count; steps = (b, before, more, reached.steps, (to, gives, tells, refl), is) })
  step_front lines before more b to (Some x) reached gives tells is =
      run_front x.end lines (handed to.held) (record { before = before; last = b; more = more; goes = reached; ends = (x, to, gives, refl, tells, refl); lines_are = is })

  front : (lines : List Label) → SoFarTells Passes p (start_of p) lines → IsFront lines
  front lines (inl (b, reached)) = reached_front lines b reached
  front lines (inr (b, before, more, reached, (o, to, gives, tells), is)) = step_front lines before more b to o reached gives tells is

pub so_far_is_of_machine : IsGiven → SoFarIsOfMachine
so_far_is_of_machine laws p lines told last by fit tells runs = front laws p fit told last by runs lines tells
