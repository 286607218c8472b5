-- What plans of graphs begin (Component Model, Explainer.md, "Instance Definitions"): the component instances that functions and canonical functions name, and that
-- of each core instance before this one is made.
use Rattle.std.specs.Prelude.{◌≡◌, ◌<◌, ℕ, zero, suc, List, [], ◌∷◌, Some}
use Rattle.std.specs.List.{slice_get}
use Rattle.comp_graph.specs.declared.graph.Action.{Action}
use Rattle.comp_graph.specs.declared.graph.Action.TheVariants.{Begin, Make}
use Rattle.comp_graph.specs.declared.graph.CanonFunc.{CanonFunc}
use Rattle.comp_graph.specs.Graph.{CoreMake, Graph, Lifted}
use Rattle.abi_machine.specs.World.{Callee}
use Rattle.abi_machine.specs.Canons.{canon_at, inst_of_canon}
use Rattle.abi_machine.specs.Reading.{func_of}
use Rattle.abi_machine.specs.sound.GraphFuncs.{IsOfGraph}

-- how many component instances a plan begins, and how many its first actions do
abbrev pub begins : List Action → ℕ
begins [] = 0
begins (Begin number ∷ plan) = suc (begins plan)
begins (Make number ∷ plan) = begins plan

abbrev pub begins_to : ℕ → List Action → ℕ
begins_to zero plan = 0
begins_to (suc n) [] = 0
begins_to (suc n) (Begin number ∷ plan) = suc (begins_to n plan)
begins_to (suc n) (Make number ∷ plan) = begins_to n plan

pub record InstancesBegin (g : Graph) : Type 0 where
  pub canons : (number : ℕ) (c : CanonFunc) → canon_at g number ≡ Some c → inst_of_canon c < begins g.plan
  pub functions : (callee : Callee) (f : Lifted) → IsOfGraph g callee → func_of callee ≡ Some f → f.instance < begins g.plan

abbrev pub MakesFollow : Graph → Type 0
MakesFollow g = (n number : ℕ) (c : CoreMake) → slice_get g.plan n ≡ Some (Make number) → slice_get g.cores number ≡ Some c → c.owner < begins_to n g.plan
