-- Plans of linked graphs (Component Model, Explainer.md, "Instance Definitions"): each begins the component instances that its functions and canonical functions name,
-- and that of each core instance before it makes this one.
use Rattle.comp_tree.specs.declared.items.Component.{Component}
use Rattle.comp_graph.specs.Graph.{Graph}
use Rattle.link_spec.specs.Linked.{IsLinked}
use Rattle.reach_laws.specs.KnownPlans.{InstancesBegin, MakesFollow}

abbrev pub LinkedInstancesBegin : Type 0
LinkedInstancesBegin = (c : Component) (g : Graph) → IsLinked c g → InstancesBegin g

abbrev pub LinkedMakesFollow : Type 0
LinkedMakesFollow = (c : Component) (g : Graph) → IsLinked c g → MakesFollow g
