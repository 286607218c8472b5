-- A part does what the machine does (Component Model, CanonicalABI.md; Concurrency.md, "Summary"): it comes to a trap, to want of fuel or to no
-- rule where the machine does, with the same lines, and what is kept then stands for the world then.
use Rattle.std.specs.Prelude.{◌≡◌, ℕ, ◌-◌, List, [], ◌++◌, length, Option, Some, None}
use Rattle.std.specs.List.{slice_get}
use Rattle.std.specs.Option.{option_and_then}
use Rattle.syntax_trees.specs.declared.types.ValType.{ValType}
use Rattle.wasm_store.specs.Store.{found_at}
use Rattle.wasm_store.specs.Stack.{Stack}
use Rattle.wasm_store.specs.Step.{start}
use Rattle.stream_ends.specs.declared.open_copy.By.TheVariants as by
use Rattle.stream_ends.specs.Ends.{new_copy}
use Rattle.comp_graph.specs.declared.graph.FuncRef.{FuncRef}
use Rattle.comp_graph.specs.declared.graph.BuiltinKind.{BuiltinKind}
use Rattle.comp_graph.specs.declared.graph.BuiltinKind.TheVariants as kind
use Rattle.comp_graph.specs.declared.graph.CanonFunc.{CanonFunc}
use Rattle.comp_graph.specs.declared.graph.CanonFunc.TheVariants as canon
use Rattle.comp_graph.specs.Graph.{Graph, Lifted}
use Rattle.script_reader.specs.Script.{Script}
use Rattle.trace_labels.specs.declared.label.Label.{Label}
use Rattle.task_table.specs.declared.slot.TaskSlot.{TaskSlot}
use Rattle.world_parts.specs.declared.parts.Copying.{Copying}
use Rattle.world_parts.specs.declared.parts.Receiver as kept_receiver
use Rattle.world_parts.specs.declared.parts.Receiver.TheVariants as receiver
use Rattle.world_parts.specs.declared.parts.Rest.{Rest}
use Rattle.world_parts.specs.declared.parts.Rest.TheVariants as rest
use Rattle.world_parts.specs.declared.parts.Flow.{Flow}
use Rattle.world_parts.specs.declared.parts.Flow.TheVariants as flow
use Rattle.world_parts.specs.Held as kept
use Rattle.world_parts.specs.Held.{Held, Done, Gives, Traps, Spent}
use Rattle.world_parts.specs.Slots.{word_in}
use Rattle.abi_machine.specs.declared.run_end.RunEnd.TheVariants.{Fuel}
use Rattle.abi_machine.specs.Control.{Receiver, InWait, InCallback, Control, Free, Instantiates, Runs, Calls, Arrives, Back, Goes, Resumes, Delivers, Leaves, Doomed}
use Rattle.abi_machine.specs.World.{Task, World}
use Rattle.abi_machine.specs.Edits.{with_control, stacked}
use Rattle.abi_machine.specs.Canons.{func_address, canon_at, inst_of_canon}
use Rattle.abi_machine.specs.Reading.{task_at, func_of, channel_at}
use Rattle.abi_machine.specs.Counting.{ready}
use Rattle.abi_machine.specs.Finding.{found_end}
use Rattle.abi_machine.specs.Turn as turns
use Rattle.abi_machine.specs.Turn.{Turn, Steps, Ends, silent, behind, given, goes_on_with}
use Rattle.abi_machine.specs.Entering.{entered}
use Rattle.abi_machine.specs.Copying.{other_offer, elements_moved}
use Rattle.abi_machine.specs.Delivering.{received_none, received_cancel, set_polled}
use Rattle.abi_machine.specs.replies.Tasks.{return_checked}
use Rattle.standing.specs.Stands.{Stands}

-- Control, by where a run rests. At a call the acting task keeps its words.
abbrev pub words_in : Option TaskSlot → List ℕ
words_in None = []
words_in (Some slot) = slot.at_words

abbrev pub acting_words : Held → List ℕ
acting_words h = words_in (option_and_then (λ t. slice_get h.tasks t) (slice_get h.chain (length h.chain - 1)))

abbrev pub control_of : List ℕ → Rest → Control
control_of words (rest.Instantiates n) = Instantiates n
control_of words rest.Free = Free
control_of words rest.Arrives = Arrives
control_of words rest.Goes = Goes
control_of words rest.Resumes = Resumes
control_of words rest.Back = Back
control_of words rest.Runs = Runs
control_of words (rest.Calls number) = Calls number words
control_of words rest.Leaves = Leaves

abbrev pub control_at : Held → Control
control_at h = control_of (acting_words h) h.rest

-- What a part leaves to be done in its step: a core function starts on a further stack of a task, or a task enters;
abbrev pub starts : ℕ → FuncRef → List ℕ → World → Turn
starts t ref words w =
    given (found_at w.store.funcs (func_address w.store ref)) (λ function. silent Runs (stacked t (start function.1 function.0 words) w))

abbrev pub enters : Graph → ℕ → World → Turn
enters g t w = given (task_at w t) (λ task. given (func_of task.callee) (λ f. entered g t task f w))

-- a task that may return, by the canonical function at whose call it is, does so;
abbrev pub returns_kind : Graph → ℕ → Task → List ℕ → ℕ → BuiltinKind → World → Turn
returns_kind g t task words i (kind.TaskReturn result options) w =
    given (func_of task.callee) (λ f. return_checked g t task i result options words f w)
returns_kind g t task words i other w = turns.Stuck

abbrev pub returns_canon : Graph → ℕ → Task → List ℕ → CanonFunc → World → Turn
returns_canon g t task words (canon.Lower l) w = turns.Stuck
returns_canon g t task words (canon.Builtin b) w = returns_kind g t task words b.instance b.kind w

abbrev pub returns : Graph → ℕ → Control → World → Turn
returns g t (Calls number words) w = given (task_at w t) (λ task. given (canon_at g number) (λ c. returns_canon g t task words c w))
returns g t other w = turns.Stuck

-- elements go over to or from the end at an index;
abbrev pub copies : Graph → ℕ → Copying → World → Turn
copies g t x w =
    given (canon_at g x.canon) (λ c. given (found_end w (inst_of_canon c) x.index) (λ e. given (channel_at w e.kind e.number) (λ channel.
    given (other_offer e.side channel.ends.view) (λ offer.
    elements_moved g t e (new_copy (by.Task t) x.canon x.place x.length) x.count channel.element offer w))))

-- or an event comes to a task: at its wait, whose place is the second word of the call, or to its callback.
abbrev pub Receives : kept_receiver.Receiver → Receiver → Type 0
Receives (receiver.InWait canon place) (InWait number words) = (canon ≡ number) × (word_in words 1 ≡ Some place)
Receives (receiver.InWait canon place) InCallback = ⊥
Receives receiver.InCallback (InWait number words) = ⊥
Receives receiver.InCallback InCallback = Unit {0}

abbrev pub hears : ℕ → World → (Lifted → Turn) → Turn
hears t w more = given (task_at w t) (λ task. given (func_of task.callee) more)

-- A turn has these lines and then this, behind a part of the task of a number.
abbrev pub Follows : Graph → ℕ → Held → Flow → List Label → World → Turn → Type 0
Follows g t k (flow.Now words) lines v turn = (k.rest ≡ rest.Runs) × (turn ≡ Steps lines (goes_on_with t words v))
Follows g t k flow.Rests lines v turn = turn ≡ Steps lines (with_control (control_at k) v)
Follows g t k (flow.Starts ref words) lines v turn = (k.rest ≡ rest.Runs) × (turn ≡ behind lines (starts t ref words v))
Follows g t k flow.Enters lines v turn = turn ≡ behind lines (enters g t v)
Follows g t k flow.Returns lines v turn = turn ≡ behind lines (returns g t (control_at k) v)
Follows g t k (flow.Copies copying) lines v turn = turn ≡ behind lines (copies g t copying v)
Follows g t k (flow.Delivers r set) lines v turn =
    (to : Receiver) × Receives r to × (turn ≡ Steps lines (with_control (Delivers set to None) v))
Follows g t k (flow.Polls r set) lines v turn =
    (r ≡ receiver.InCallback) × (turn ≡ behind lines (hears t v (λ f. set_polled g t f set (ready v f.instance set) v)))
Follows g t k (flow.HearsNone r) lines v turn =
    (to : Receiver) × Receives r to × (turn ≡ behind lines (hears t v (λ f. received_none g t f to v)))
Follows g t k (flow.HearsCancel r) lines v turn =
    (to : Receiver) × Receives r to × (turn ≡ behind lines (hears t v (λ f. received_cancel g t f to v)))

-- What is kept stands for a world behind so many lines, and this holds of both.
pub record LeadsTo (g : Graph) (values : List ValType) (s : Script) (before : List Label) (stacks : List (List Stack)) (k : Held) (P : List Label → World → Type 0) : Type 0 where
  pub lines : List Label
  pub world : World
  pub stands : Stands g values s k stacks world
  pub told : k.labels ≡ before ++ lines
  pub ends : P lines world

-- What a part of the acting task comes to, behind the lines before it, agrees with a turn.
abbrev pub Agrees : Graph → List ValType → Script → ℕ → List Label → List (List Stack) → Done Flow → Turn → Type 0
Agrees g values s t before stacks (Gives flow k) turn = LeadsTo g values s before stacks k (λ lines v. Follows g t k flow lines v turn)
Agrees g values s t before stacks (Traps why k) turn = LeadsTo g values s before stacks k (λ lines v. turn ≡ Steps lines (with_control (Doomed t why) v))
Agrees g values s t before stacks (Spent k) turn = turn ≡ Ends Fuel
Agrees g values s t before stacks kept.Stuck turn = turn ≡ turns.Stuck
