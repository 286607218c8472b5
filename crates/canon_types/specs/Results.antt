-- What the core function gives that is lifted (Component Model, CanonicalABI.md, "Flattening"), by how it is lifted: the result; with
-- `async` nothing; and with a callback too, a code.
use Rattle.std.specs.Prelude.{if◌then◌else◌, is_some, List, [], ◌∷◌}
use Rattle.syntax_trees.specs.declared.core_type.CoreType.{CoreType}
use Rattle.syntax_trees.specs.declared.core_type.CoreType.TheVariants.{I32}
use Rattle.syntax_trees.specs.Flat.{at_most}
use Rattle.comp_graph.specs.declared.graph.Options.{Options}

abbrev pub lift_results : Options → List CoreType → List CoreType
lift_results options types = if options.is_async then (if is_some options.callback then (I32 ∷ []) else []) else at_most 1 types
