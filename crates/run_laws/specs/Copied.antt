-- Elements that go over (Component Model, CanonicalABI.md, `canon stream.{read,write}`, `canon future.{read,write}`): they are lifted and lowered over
-- what is kept as the machine lifts and lowers them, and then the call of the acting task is completed on both sides.
use Rattle.std.specs.Prelude.{◌≡◌, ◌≤◌, ◌+◌, ◌*◌, ◌%◌, ℕ, false, List, ◌++◌, length, Option, Some, IsSome}
use Rattle.std.specs.List.{slice_get}
use Rattle.wasm_store.specs.Stack.{Stack}
use Rattle.syntax_trees.specs.declared.types.ValType.{ValType}
use Rattle.laid_types.specs.Layout.{laid}
use Rattle.laid_types.specs.Handles.{held_borrow}
use Rattle.copy_engine.specs.Nested.{bytes_in}
use Rattle.stream_ends.specs.declared.open_copy.OpenCopy.{OpenCopy}
use Rattle.comp_graph.specs.declared.graph.CanonFunc.{CanonFunc}
use Rattle.comp_graph.specs.Passed.{MayBeAt}
use Rattle.comp_graph.specs.Graph.{Graph}
use Rattle.script_reader.specs.Script.{Script}
use Rattle.trace_labels.specs.declared.label.Label.{Label}
use Rattle.programs.specs.declared.program.Program.{Program}
use Rattle.programs.specs.Program.{resources_of}
use Rattle.copy_replies.specs.declared.moving.CopySide.{CopySide}
use Rattle.copy_replies.specs.declared.moving.Moving.{Moving}
use Rattle.world_parts.specs.declared.parts.Flow.{Flow}
use Rattle.world_parts.specs.Held as kept
use Rattle.world_parts.specs.Held.{Held, Done, Gives, Traps, Spent}
use Rattle.value_moves.specs.Transferring.{reader_of, MovesOver}
use Rattle.abi_machine.specs.declared.run_end.RunEnd.TheVariants.{Fuel}
use Rattle.abi_machine.specs.World.{Channel, World}
use Rattle.abi_machine.specs.Canons.{memory_of, inst_of_canon, options_of_canon, defines}
use Rattle.abi_machine.specs.Reading.{channel_at}
use Rattle.abi_machine.specs.Copying.{next_place, task_by, moved_by}
use Rattle.abi_machine.specs.Turn.{Turn, Steps}
use Rattle.standing.specs.Agreeing.{Agrees}
use Rattle.standing.specs.Reaching.{Meets}
use Rattle.standing.specs.Leading.{ComesBy, EndsBy, IsDoomed}
use Rattle.standing.specs.Plans.{AreOwn}
use Rattle.run_laws.specs.Taking.{StandsMarked}
use Rattle.run_laws.specs.Completed.{end_of}

-- A turn is a step, behind which comes what agrees with what a part comes to, the same trap, or the end of the run where fuel is wanting. Where no
-- rule applies nothing is said.
pub record StepLeads (turn : Turn) (P : List Label → World → Type 0) : Type 0 where
  pub lines : List Label
  pub world : World
  pub is : turn ≡ Steps lines world
  pub leads : P lines world

pub record FlowFollows (g : Graph) (values : List ValType) (s : Script) (t : ℕ) (before : List Label) (stacks : List (List Stack)) (d : Done Flow) (w : World) : Type 0 where
  pub lines : List Label
  pub next : Turn
  pub meets : Meets g s w lines next
  pub agrees : Agrees g values s t (before ++ lines) stacks d next

abbrev pub TurnLeads : Graph → List ValType → Script → ℕ → List Label → List (List Stack) → Done Flow → Turn → Type 0
TurnLeads g values s t before stacks (Gives flow k) turn = StepLeads turn (λ lines w. FlowFollows g values s t (before ++ lines) stacks (Gives flow k) w)
TurnLeads g values s t before stacks (Traps why k) turn =
    StepLeads turn (λ lines w. ComesBy g values s w (before ++ lines) k stacks (IsDoomed t why))
TurnLeads g values s t before stacks (Spent k) turn = StepLeads turn (λ lines w. EndsBy g values s w (before ++ lines) k stacks Fuel)
TurnLeads g values s t before stacks kept.Stuck turn = Unit {0}

-- One side of a copy as it is kept is what the machine has of it: a call or an offer, with its canonical function.
pub record IsSideOf (w : World) (element : Option ValType) (side : CopySide) (copy : OpenCopy) (c : CanonFunc) : Type 0 where
  pub task : side.task ≡ task_by copy.by
  pub instance : side.instance ≡ inst_of_canon c
  pub options : side.options ≡ options_of_canon c
  pub memory : side.memory ≡ memory_of w.store (options_of_canon c)
  pub place : (type : ValType) → element ≡ Some type → side.place ≡ next_place type copy

-- The elements are to stand at an aligned place inside the memory of the reader, as was tested when the copy was asked.
pub record IsPlacedWell (type : ValType) (count place : ℕ) (bytes : List ℕ) : Type 0 where
  pub aligned : place % (laid type).align ≡ 0
  pub inside : place + count * (laid type).size ≤ length bytes

-- What goes over is of a stream or a future that is there, whose elements have the type of a number and hold no borrow, for the task that acts.
pub record GoesOver
    (p : Program) (values : List ValType) (h : Held) (w : World) (m : Moving) (number : Option ℕ) (a : Channel) (read write : OpenCopy) (reading writing : CanonFunc) : Type 0 where
  pub types : p.types.now ≡ values
  pub channel : channel_at w m.kind m.number ≡ Some a
  pub first : slice_get w.chain 0 ≡ Some m.task
  pub acts : IsSome (slice_get w.tasks m.task)
  pub typed : MayBeAt values number a.element
  pub no_borrow : held_borrow a.element ≡ false
  pub reader : IsSideOf w a.element m.reader read reading
  pub writer : IsSideOf w a.element m.writer write writing
  pub placed : (type : ValType) → a.element ≡ Some type → IsPlacedWell type m.count m.reader.place (bytes_in (reader_of m h).options.memory h.store)
  pub own : (resources : List ℕ) → resources_of p m.reader.instance ≡ Some resources → AreOwn resources (defines p.graph.now m.reader.instance)

abbrev pub ElementsGoOver : Type 0
ElementsGoOver =
    (p : Program) (values : List ValType) (s : Script) (h : Held) (stacks : List (List Stack)) (w : World) (m : Moving) (number : Option ℕ) (a : Channel)
    (call read write : OpenCopy) (reading writing : CanonFunc) (d : Done Flow)
    → GoesOver p values h w m number a read write reading writing → StandsMarked p.graph.now values s h stacks w → MovesOver p m number h d
    → TurnLeads p.graph.now values s m.task h.labels stacks d
    (moved_by p.graph.now m.task (end_of m) call read write reading writing m.count a.element w)
