-- Post-returns (Component Model, CanonicalABI.md, `canon lift`: `post_return`): what is kept when nested code has run, with its calls that are
-- answered in place, stands for a world to which the machine comes.
use Rattle.std.specs.Prelude.{◌≡◌, ℕ, List, ◌++◌, Some, Result, Ok, Err}
use Rattle.std.specs.List.{slice_get}
use Rattle.wasm_store.specs.Stack.{Stack}
use Rattle.syntax_trees.specs.declared.types.ValType.{ValType}
use Rattle.comp_graph.specs.Graph.{Graph, Lifted}
use Rattle.script_reader.specs.Script.{Script}
use Rattle.trace_labels.specs.declared.label.Label.{Label}
use Rattle.world_parts.specs.declared.parts.Parts.{Parts}
use Rattle.world_parts.specs.declared.parts.Stop.{Stop}
use Rattle.world_parts.specs.declared.parts.Stop.TheVariants as stop
use Rattle.world_parts.specs.Held.{Held, held}
use Rattle.world_stacks.specs.PostReturns.{Point, Gone, NestedGives, PostReturns}
use Rattle.abi_machine.specs.declared.run_end.RunEnd.TheVariants.{Fuel}
use Rattle.abi_machine.specs.Control.{Finishes, Going, Nested, Behind, BeforeLeaving, Quiet, Leaves, Doomed}
use Rattle.abi_machine.specs.World.{Task, World}
use Rattle.abi_machine.specs.Reading.{func_of}
use Rattle.abi_machine.specs.Returning.{finished}
use Rattle.abi_machine.specs.Turn.{behind}
use Rattle.standing.specs.Stands.{Stands}
use Rattle.standing.specs.Reaching.{Meets}
use Rattle.standing.specs.Leading.{ComesBy, EndsBy}

-- Nested code is where its stack stands.
pub record IsAt (g : Graph) (values : List ValType) (s : Script) (n : Nested) (b : Behind) (stacks : List (List Stack)) (a : Point) (w : World) : Type 0 where
  pub control : w.control ≡ Quiet (record n { state = Going a.stack }) b
  pub stands : Stands g values s a.held stacks w

-- It runs up to a call that is answered in place, and goes on, so many times.
abbrev pub NestedGoOn : Type 0
NestedGoOn =
    (g : Graph) (values : List ValType) (s : Script) (n : Nested) (b : Behind) (stacks : List (List Stack)) (x y : Point) (w : World)
    → IsAt g values s n b stacks x w → Gone g n.acts_for n.inst x y
    → ComesBy g values s w x.held.labels y.held stacks (λ v. v.control ≡ Quiet (record n { state = Going y.stack }) b)

-- What it comes to: behind its end the task exits. Of want of memory, and where no rule applies, nothing is said.
abbrev pub NestedComes : Graph → List ValType → Script → ℕ → World → List Label → List (List Stack) → Result (Unit {0}) Stop → Parts → Type 0
NestedComes g values s blame w before stacks (Ok x) new = ComesBy g values s w before (held new) stacks (λ v. v.control ≡ Leaves)
NestedComes g values s blame w before stacks (Err (stop.Trap why)) new = ComesBy g values s w before (held new) stacks (λ v. v.control ≡ Doomed blame why)
NestedComes g values s blame w before stacks (Err stop.NoFuel) new = EndsBy g values s w before (held new) stacks Fuel
NestedComes g values s blame w before stacks (Err stop.Stuck) new = Unit {0}
NestedComes g values s blame w before stacks (Err stop.Memory) new = Unit {0}

abbrev pub NestedCodeLeads : Type 0
NestedCodeLeads =
    (g : Graph) (values : List ValType) (s : Script) (n : Nested) (stacks : List (List Stack)) (x : Point) (w : World) (result : Result (Unit {0}) Stop) (new : Parts)
    → IsAt g values s n BeforeLeaving stacks x w → NestedGives g n.acts_for n.inst x result new
    → NestedComes g values s n.blame w x.held.labels stacks result new

-- The post-return of the acting task's function, where it has one, with the words with which its core function ended, where what the task
-- resolved to has reached its caller, behind steps and with lines in front.
abbrev pub PostReturnsLead : Type 0
PostReturnsLead =
    (g : Graph) (values : List ValType) (s : Script) (h : Held) (stacks : List (List Stack)) (u w : World) (t : ℕ) (task : Task) (f : Lifted) (before lines ahead : List Label) (words : List ℕ)
    (result : Result (Unit {0}) Stop) (new : Parts)
    → slice_get w.chain 0 ≡ Some t → slice_get w.tasks t ≡ Some task → func_of task.callee ≡ Some f → Stands g values s h stacks w → h.labels ≡ before ++ (lines ++ ahead)
    → Meets g s u lines (behind ahead (finished (Finishes words) w)) → PostReturns g t f.options.post_return words h result new
    → NestedComes g values s t u before stacks result new
