-- Nested code (Component Model, CanonicalABI.md, "Storing": `realloc`; `canon lift`: `post_return`): it writes only lines of calls and of their answers,
-- of the task that it acts for, and changes only its own stack, the store, the two words of context of that task, and the units used. It goes on by the
-- steps of core execution, and with words that answer its calls. Where it ends, a lowering goes on with the first word, the place that a realloc gives, or
-- the acting task exits; where it traps, or is at a call, the run may come to a trap; and a run ends at it for want of fuel alone.
use Rattle.std.specs.Prelude.{◌≡◌, ◌≢◌, ◌≤◌, ◌+◌, ℕ, Bool, List, [], ◌∷◌, length, Some}
use Rattle.std.specs.List.{slice_get, AllByRecursion}
use Rattle.wasm_store.specs.declared.trap.Trap.{Trap}
use Rattle.wasm_store.specs.Store.{Store}
use Rattle.wasm_store.specs.Step.{resume}
use Rattle.wasm_store.specs.Step as core
use Rattle.comp_graph.specs.Graph.{Graph}
use Rattle.script_reader.specs.Script.{Script}
use Rattle.trace_labels.specs.declared.label.Label.{Label}
use Rattle.trace_labels.specs.declared.label.Label.TheVariants as line
use Rattle.trace_labels.specs.declared.trap.TrapName.{TrapName}
use Rattle.abi_machine.specs.declared.run_end.RunEnd.{RunEnd}
use Rattle.abi_machine.specs.declared.run_end.RunEnd.TheVariants.{Fuel}
use Rattle.abi_machine.specs.Traps.{core_name}
use Rattle.abi_machine.specs.Control.{HostedState, Going, AtCall, Nested, Behind, InLowering, BeforeLeaving, Control, Lowers, Quiet, Leaves, Doomed}
use Rattle.abi_machine.specs.World.{Task, World}
use Rattle.abi_machine.specs.Turn.{Steps, Ends}
use Rattle.abi_machine.specs.Next.{next}
use Rattle.abi_machine.specs.Run.{lines_of}

-- a line of a call, or of its answer, of this task
abbrev pub IsQuietLine : ℕ → Label → Type 0
IsQuietLine t (line.Do by builtin words) = by ≡ t
IsQuietLine t (line.Got by words) = by ≡ t
IsQuietLine t other = ⊥

-- Of these tasks later, only the words of context of this one may be others.
pub record KeepTasks (t : ℕ) (tasks later : List Task) : Type 0 where
  pub long : length later ≡ length tasks
  pub others : (n : ℕ) → n ≢ t → slice_get later n ≡ slice_get tasks n
  pub own : (task : Task) → slice_get tasks t ≡ Some task → (x : Task) × (slice_get later t ≡ Some x) × (x ≡ record task { context = x.context })

-- All else is as it was, but for the store, the units and what comes next.
pub record IsQuietChange (t : ℕ) (w v : World) : Type 0 where
  pub insts : v.insts ≡ w.insts
  pub tasks : KeepTasks t w.tasks v.tasks
  pub streams : v.streams ≡ w.streams
  pub futures : v.futures ≡ w.futures
  pub chain : v.chain ≡ w.chain
  pub picks : v.picks ≡ w.picks
  pub taken : v.taken ≡ w.taken
  pub units : w.units ≤ v.units

-- The code's own stack: it goes on by a step of core execution, comes to a call by one, or has words that answer the call at which it was.
abbrev pub GoesFrom : HostedState → Store → HostedState → Store → Type 0
GoesFrom (Going k) store (Going l) later = (paid : Bool) × (core.next store k ≡ core.Goes paid later l)
GoesFrom (Going k) store (AtCall number words l) later = (core.next store k ≡ core.Calls number words l) × (later ≡ store)
GoesFrom (AtCall number words k) store (Going l) later = ((answer : List ℕ) × (l ≡ resume answer k)) × (later ≡ store)
GoesFrom (AtCall number words k) store (AtCall other more l) later = ⊥

-- It ends with these words; it traps, or is at a call, which may be refused to it.
abbrev pub EndsWith : HostedState → Store → List ℕ → Type 0
EndsWith (Going k) store ended = core.next store k ≡ core.Ends ended
EndsWith (AtCall number words k) store ended = ⊥

abbrev pub MayTrap : HostedState → Store → TrapName → Type 0
MayTrap (Going k) store why = (trap : Trap) × (core.next store k ≡ core.Traps trap) × (why ≡ core_name trap)
MayTrap (AtCall number words k) store why = Unit {0}

-- What comes next, by the store before and behind: the code, with another stack; what follows it, where it ends; or a trap of the task that a trap names.
abbrev pub GoesOnQuietly : Nested → Behind → Store → Store → Control → Type 0
GoesOnQuietly n b store later (Quiet m c) = (c ≡ b) × (m ≡ record n { state = m.state }) × GoesFrom n.state store m.state later
GoesOnQuietly n (InLowering l k) store later (Lowers m plan) =
    (m ≡ l) × (later ≡ store) × ((place : ℕ) × ((words : List ℕ) × EndsWith n.state store (place ∷ words) × (plan ≡ k place)))
GoesOnQuietly n BeforeLeaving store later Leaves = (later ≡ store) × ((words : List ℕ) × EndsWith n.state store words)
GoesOnQuietly n b store later (Doomed t why) = (t ≡ n.blame) × (later ≡ store) × MayTrap n.state store why
GoesOnQuietly n b store later other = ⊥

pub record IsQuietStep (n : Nested) (b : Behind) (w : World) (labels : List Label) (v : World) : Type 0 where
  pub lines : AllByRecursion (IsQuietLine n.acts_for) labels
  pub change : IsQuietChange n.acts_for w v
  pub one_unit : v.units ≤ w.units + 1
  pub goes_on : GoesOnQuietly n b w.store v.store v.control

-- So is each step of nested code, in any world.
abbrev pub NestedStepsAreQuiet : Type 0
NestedStepsAreQuiet =
    (g : Graph) (s : Script) (w v : World) (labels : List Label) (n : Nested) (b : Behind) → w.control ≡ Quiet n b → next g s w ≡ Steps labels v → IsQuietStep n b w labels v

-- And where a run ends at nested code all its units are used.
abbrev pub NestedEndsWantFuel : Type 0
NestedEndsWantFuel =
    (g : Graph) (s : Script) (w : World) (end : RunEnd) (n : Nested) (b : Behind) → w.control ≡ Quiet n b → next g s w ≡ Ends end → (end ≡ Fuel) × (s.fuel ≤ w.units)

-- Nested code runs, which acts for this task; and these steps of such code, each with its lines, lead from the one world to the other.
abbrev pub IsNestedFor : ℕ → Control → Type 0
IsNestedFor t (Quiet n b) = n.acts_for ≡ t
IsNestedFor t other = ⊥

abbrev pub RunsNested : Graph → Script → ℕ → World → List (List Label) → World → Type 0
RunsNested g s t w [] v = v ≡ w
RunsNested g s t w (labels ∷ steps) v = IsNestedFor t w.control × ((mid : World) × (next g s w ≡ Steps labels mid) × RunsNested g s t mid steps v)

-- So is all that nested code does, up to its end or to any step before.
abbrev pub NestedRunsAreQuiet : Type 0
NestedRunsAreQuiet =
    (g : Graph) (s : Script) (t : ℕ) (w : World) (steps : List (List Label)) (v : World) → RunsNested g s t w steps v → AllByRecursion (IsQuietLine t) (lines_of steps) × IsQuietChange t w v
