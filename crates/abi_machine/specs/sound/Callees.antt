-- What tasks run (Component Model, CanonicalABI.md, `canon lift`, `canon lower`, `canon resource.drop`): the function of an export of the graph, a
-- function that is lowered in it, or the destructor of one of its resources. The core functions of these are there, of the types that
-- lifting gives them, once all core instances were made.
use Rattle.std.specs.Prelude.{◌≡◌, ℕ, List, Some}
use Rattle.std.specs.List.{slice_get, AllZip}
use Rattle.std.specs.Option.{IfSome}
use Rattle.syntax_trees.specs.declared.module_types.FuncType as core
use Rattle.wasm_store.specs.Store.{Function, type_of, Store}
use Rattle.syntax_trees.specs.declared.exports.Export.{Export}
use Rattle.comp_graph.specs.declared.graph.FuncRef.{FuncRef}
use Rattle.comp_graph.specs.Needs.{lift_type, post_return_type, callback_type}
use Rattle.comp_graph.specs.Needs as needs
use Rattle.comp_graph.specs.declared.graph.Resource.{Resource}
use Rattle.comp_graph.specs.Graph.{Graph, Lifted, IsLiftThere, AreMade}
use Rattle.script_reader.specs.Script.{Script}
use Rattle.trace_labels.specs.declared.label.Label.{Label}
use Rattle.abi_machine.specs.World.{Task, World, first_world}
use Rattle.abi_machine.specs.Canons.{func_address, resource_at}
use Rattle.abi_machine.specs.Reading.{func_of}
use Rattle.abi_machine.specs.Turn.{Steps}
use Rattle.abi_machine.specs.Next.{next}
use Rattle.abi_machine.specs.sound.Initial.{RunsAlone}
use Rattle.abi_machine.specs.sound.GraphFuncs.{HaveCallees}
use Rattle.abi_machine.specs.sound.Owners.{HasCanons}
use Rattle.abi_machine.specs.sound.MadeInstances.{WereMade}

-- So it is in the first world, and so it stays.
abbrev pub FirstHasCallees : Type 0
FirstHasCallees = (g : Graph) → HaveCallees g (first_world g).tasks

abbrev pub CalleesStay : Type 0
CalleesStay = (g : Graph) (s : Script) (w v : World) (labels : List Label) → RunsAlone w → HaveCallees g w.tasks → next g s w ≡ Steps labels v → HaveCallees g v.tasks

-- What is lifted and lowered in a graph is there, and so are destructors.
pub record IsUsedGraph (g : Graph) : Type 0 where
  pub lifts : AllZip (λ (e : Export) lift. IsLiftThere g.cores g.canons e.func_type lift) g.exports g.lifts
  pub made : AreMade g.cores g.canons g.resources

-- A core function has an address in the store, and is of a type; so are those that a lifted function uses.
pub record CoreThere (s : Store) (f : FuncRef) (type : core.FuncType) : Type 0 where
  pub address : ℕ
  pub function : Function
  pub at : func_address s f ≡ Some address
  pub there : slice_get s.funcs address ≡ Some function
  pub of_type : type_of function ≡ type

pub record AreCoreThere (s : Store) (f : Lifted) : Type 0 where
  pub core : CoreThere s f.core (lift_type f.options f.func_type)
  pub post_return : IfSome f.options.post_return (λ r. CoreThere s r (post_return_type f.func_type))
  pub callback : IfSome f.options.callback (λ r. CoreThere s r callback_type)

abbrev pub FunctionsAreThere : Type 0
FunctionsAreThere =
    (g : Graph) (s : Store) (tasks : List Task) (t : ℕ) (task : Task) (f : Lifted) → IsUsedGraph g → HasCanons g s → WereMade s g.cores → HaveCallees g tasks → slice_get tasks t ≡ Some task
    → func_of task.callee ≡ Some f → AreCoreThere s f

-- And so is the destructor of a resource, a function of one i32.
abbrev pub DestructorsAreThere : Type 0
DestructorsAreThere =
    (g : Graph) (s : Store) (number : ℕ) (r : Resource) → IsUsedGraph g → HasCanons g s → WereMade s g.cores → resource_at g number ≡ Some r → IfSome r.destructor (λ f. CoreThere s f needs.destructor_type)
