-- Calls of nested code that are answered in place (Component Model, CanonicalABI.md, `canon context.get`, `canon context.set`, `canon resource.rep`;
-- "Component Instance State": `may_leave`): what is kept answers as the machine does.
use Rattle.std.specs.Prelude.{◌≡◌, ℕ, List, [], ◌∷◌, ◌++◌, Option, Some, None, Ok, Err}
use Rattle.wasm_store.specs.Stack.{Stack}
use Rattle.wasm_execution.specs.Waiting.{Waiting}
use Rattle.syntax_trees.specs.declared.types.ValType.{ValType}
use Rattle.comp_graph.specs.declared.graph.CanonFunc.{CanonFunc}
use Rattle.comp_graph.specs.Graph.{Graph}
use Rattle.script_reader.specs.Script.{Script}
use Rattle.trace_labels.specs.declared.label.Label.{Label}
use Rattle.trace_labels.specs.declared.trap.TrapName.{TrapName}
use Rattle.world_parts.specs.Held as kept
use Rattle.world_parts.specs.Held.{Held, Done, Gives, Traps, Spent}
use Rattle.world_stacks.specs.Exempt.{exempt_answer}
use Rattle.world_stacks.specs.PostReturns.{answered_in_place}
use Rattle.abi_machine.specs.Control.{Going, Nested, Behind, Quiet, Doomed}
use Rattle.abi_machine.specs.World.{World}
use Rattle.abi_machine.specs.Edits.{with_control}
use Rattle.abi_machine.specs.Canons.{canon_at}
use Rattle.abi_machine.specs.Turn.{Turn, Steps, given}
use Rattle.abi_machine.specs.Nested.{calls_host}
use Rattle.abi_machine.specs.replies.Context.{Exempt, exempt_of}
use Rattle.standing.specs.Stands.{Stands}

-- It is answered with words, and what is kept then stands for the world then.
pub record AnsweredAs (g : Graph) (values : List ValType) (s : Script) (before : List Label) (k : Held) (stacks : List (List Stack)) (o : Option Exempt) (words : List ℕ) (w : World) : Type 0 where
  pub exempt : Exempt
  pub world : World
  pub is : o ≡ Some exempt
  pub answers : exempt w ≡ Ok (record { words = words; world = world })
  pub stands : Stands g values s k stacks world
  pub told : k.labels ≡ before

-- It is a trap.
pub record RefusedAs (g : Graph) (values : List ValType) (s : Script) (before : List Label) (k : Held) (stacks : List (List Stack)) (o : Option Exempt) (why : TrapName) (w : World) : Type 0 where
  pub exempt : Exempt
  pub is : o ≡ Some exempt
  pub answers : exempt w ≡ Err why
  pub stands : Stands g values s k stacks w
  pub told : k.labels ≡ before

abbrev pub ExemptAgrees : Graph → List ValType → Script → List Label → List (List Stack) → Done (Option (List ℕ)) → Option Exempt → World → Type 0
ExemptAgrees g values s before stacks (Gives None k) o w = (o ≡ None) × Stands g values s k stacks w × (k.labels ≡ before)
ExemptAgrees g values s before stacks (Gives (Some words) k) o w = AnsweredAs g values s before k stacks o words w
ExemptAgrees g values s before stacks (Traps why k) o w = RefusedAs g values s before k stacks o why w
ExemptAgrees g values s before stacks (Spent k) o w = ⊥
ExemptAgrees g values s before stacks kept.Stuck o w = Unit {0}

abbrev pub ExemptCallsAgree : Type 0
ExemptCallsAgree =
    (g : Graph) (values : List ValType) (s : Script) (h : Held) (stacks : List (List Stack)) (w : World) (t : ℕ) (words : List ℕ) (c : CanonFunc)
    → Stands g values s h stacks w → ExemptAgrees g values s h.labels stacks (exempt_answer t words c h) (exempt_of t words c) w

-- The code goes on, or comes to a trap.
pub record TurnsTo (g : Graph) (values : List ValType) (s : Script) (before : List Label) (k : Held) (stacks : List (List Stack)) (P : List Label → World → Type 0) : Type 0 where
  pub lines : List Label
  pub world : World
  pub stands : Stands g values s k stacks world
  pub told : k.labels ≡ before ++ lines
  pub is : P lines world

abbrev pub CallAgrees : Graph → List ValType → Script → Nested → Behind → List Label → List (List Stack) → Done Stack → Turn → Type 0
CallAgrees g values s n b before stacks (Gives x k) turn =
    TurnsTo g values s before k stacks (λ lines v. turn ≡ Steps lines (with_control (Quiet (record n { state = Going x }) b) v))
CallAgrees g values s n b before stacks (Traps why k) turn =
    TurnsTo g values s before k stacks (λ lines v. turn ≡ Steps lines (with_control (Doomed n.blame why) v))
CallAgrees g values s n b before stacks (Spent k) turn = ⊥
CallAgrees g values s n b before stacks kept.Stuck turn = Unit {0}

abbrev pub NestedCallsAgree : Type 0
NestedCallsAgree =
    (g : Graph) (values : List ValType) (s : Script) (h : Held) (stacks : List (List Stack)) (w : World) (n : Nested) (b : Behind) (number : ℕ) (words : List ℕ) (waits : Waiting)
    → Stands g values s h stacks w
    → CallAgrees g values s n b h.labels stacks (answered_in_place g n.acts_for n.inst number words waits h)
    (given (canon_at g number) (λ c. calls_host n b waits.stack words c w))
