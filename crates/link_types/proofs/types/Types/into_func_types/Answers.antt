use Rattle.std.proofs.Common.{List, sym, subst}
use Rattle.syntax_trees.specs.declared.types.ValType.{ValType}
use Rattle.laid_types.specs.SameTypes.{AreDistinct}
use Rattle.comp_graph.specs.Passed.{AreNumbered}
use Rattle.link_types.proofs.types.Types.into_func_types.Goals as goal

pub new-requires-clause-distinct : goal.new-requires-clause-distinct
new-requires-clause-distinct c = subst (λ (values : List ValType). AreDistinct values) (sym c.into_laid.ensures) c.are_apart.ensures

pub new-requires-clause-numbered : goal.new-requires-clause-numbered
new-requires-clause-numbered c = subst (λ (values : List ValType). AreNumbered values c.self.inside.numbered.items) (sym c.into_laid.ensures) c.self.invariant.passed
