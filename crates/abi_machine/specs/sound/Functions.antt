-- Once all is instantiated (Component Model, CanonicalABI.md, `canon lift`, `canon lower`, `canon resource.drop`; Explainer.md, "Instance Definitions"):
-- the core functions of what tasks run are in the store, and so are destructors, up to a trap. So of what rules look up there is left, of a graph of valid
-- modules that has all that it uses: items of the script, rules for core code, a function that gives places where one is asked for, and what blocked tasks
-- wait for.
use Rattle.std.specs.Prelude.{◌≡◌, ◌⊎◌, ℕ, true, List, Some, IfSome}
use Rattle.wasm_store.specs.Store.{Store}
use Rattle.comp_graph.specs.declared.graph.Resource.{Resource}
use Rattle.comp_graph.specs.Graph.{Graph}
use Rattle.script_reader.specs.Script.{Script}
use Rattle.trace_labels.specs.declared.label.Label.{Label}
use Rattle.abi_machine.specs.Control.{Control, Free, Chosen, Runs, Lowers, Quiet}
use Rattle.abi_machine.specs.World.{World, first_world}
use Rattle.abi_machine.specs.Edits.{with_control}
use Rattle.abi_machine.specs.Canons.{resource_at}
use Rattle.abi_machine.specs.Reading.{is_instantiated}
use Rattle.abi_machine.specs.Next.{next}
use Rattle.abi_machine.specs.Run.{Reaches}
use Rattle.abi_machine.specs.sound.Owners.{IsApart}
use Rattle.abi_machine.specs.sound.MadeInstances.{IsTypedGraph}
use Rattle.abi_machine.specs.sound.Callees.{IsUsedGraph}
use Rattle.abi_machine.specs.sound.GoingOn.{HasNext, IsFuncThere, HaveFuncs, IsNextThere, RunsOn, AsksOf, HostedOn}
use Rattle.abi_machine.specs.sound.Starting.{IsDoomed}

abbrev pub HaveDestructors : Graph → Store → Type 0
HaveDestructors g s = (number : ℕ) (r : Resource) → resource_at g number ≡ Some r → IfSome r.destructor (IsFuncThere s)

abbrev pub ReachedFunctions : Type 0
ReachedFunctions =
    (g : Graph) (s : Script) (steps : List (List Label)) (w : World) → IsApart g → IsTypedGraph g → IsUsedGraph g → Reaches g s (first_world g) steps w → is_instantiated w.tasks ≡ true
    → IsDoomed w.control ⊎ (HaveFuncs w.store w.tasks × HaveDestructors g w.store)

-- what is left
abbrev pub IsFedThen : Graph → Script → Control → World → Type 0
IsFedThen g s Free w = IsNextThere g s w
IsFedThen g s (Chosen k) w = IsNextThere g s w
IsFedThen g s Runs w = RunsOn w
IsFedThen g s (Lowers l plan) w = AsksOf l plan w
IsFedThen g s (Quiet n b) w = HostedOn b w.store n.state
IsFedThen g s control w = Unit {0}

abbrev pub UsedGoOn : Type 0
UsedGoOn =
    (g : Graph) (s : Script) (steps : List (List Label)) (w : World) → IsApart g → IsTypedGraph g → IsUsedGraph g → Reaches g s (first_world g) steps w
    → (is_instantiated w.tasks ≡ true → IsFedThen g s w.control (with_control Free w)) → HasNext (next g s w)
