-- The functions that tasks run are a graph's (Component Model, CanonicalABI.md, `canon lift`, `canon lower`, `canon resource.drop`).
use Rattle.std.specs.Prelude.{◌≡◌, ◌⊎◌, ℕ, List, Some}
use Rattle.std.specs.List.{AllByRecursion}
use Rattle.comp_graph.specs.declared.graph.FuncRef.{FuncRef}
use Rattle.comp_graph.specs.declared.graph.Lower.{Lower}
use Rattle.comp_graph.specs.declared.graph.Resource.{Resource}
use Rattle.comp_graph.specs.declared.graph.CanonFunc.TheVariants as canon
use Rattle.comp_graph.specs.Graph.{Graph, Lifted, func_named}
use Rattle.abi_machine.specs.World.{Callee, Init, Func, Destroys, Task}
use Rattle.abi_machine.specs.Canons.{canon_at, lifted_of, resource_at, destructor_of}

-- that of an export; one that is lowered; a destructor
abbrev pub IsExported : Graph → Lifted → Type 0
IsExported g f = (name : List ℕ) × (func_named g name ≡ Some f)

abbrev pub IsLowered : Graph → Lifted → Type 0
IsLowered g f = (number : ℕ) × (l : Lower) × (canon_at g number ≡ Some (canon.Lower l)) × (lifted_of l ≡ f)

abbrev pub IsDestructor : Graph → ℕ → Lifted → Type 0
IsDestructor g resource f = (r : Resource) × (ref : FuncRef) × (resource_at g resource ≡ Some r) × (r.destructor ≡ Some ref) × (destructor_of r.instance ref ≡ f)

abbrev pub IsOfGraph : Graph → Callee → Type 0
IsOfGraph g Init = Unit {0}
IsOfGraph g (Func f) = IsExported g f ⊎ IsLowered g f
IsOfGraph g (Destroys resource f) = IsDestructor g resource f

abbrev pub HaveCallees : Graph → List Task → Type 0
HaveCallees g tasks = AllByRecursion (λ task. IsOfGraph g task.callee) tasks
