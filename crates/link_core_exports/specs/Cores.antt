-- Core modules and core instances (Component Model, Explainer.md, "Index Spaces"): the modules that linking has come to, by their
-- numbers, and the core instances that are made of them, in order of making.
use Rattle.std.specs.Prelude.{List}
use Rattle.syntax_trees.specs.declared.module.ModuleTree.{ModuleTree}
use Rattle.comp_graph.specs.Graph.{CoreMake}

-- both lists
pub record CoreLists : Type 0 where
  pub modules : List ModuleTree
  pub makes : List CoreMake
