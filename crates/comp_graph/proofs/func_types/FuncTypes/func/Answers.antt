use Rattle.std.proofs.Common.{ap, subst, List}
use Rattle.syntax_trees.specs.declared.types.ValType.{ValType}
use Rattle.comp_graph.specs.Passed.{TypeTable, IsNumbered}
use Rattle.comp_graph.proofs.FuncsPassed.{func_read}
use Rattle.comp_graph.proofs.func_types.FuncTypes.func.Goals as goal

pub returns-clause-numbers : goal.returns-clause-numbers
returns-clause-numbers c =
    let there = func_read c.self.inside.funcs.items c.args.self.now.funcs c.args.number c.index.result.now (ap (λ (t : TypeTable). t.funcs) c.self.view_is) c.requires c.index.ensures in
    subst (λ (values : List ValType). IsNumbered values c.index.result.now) (ap (λ (t : TypeTable). t.values) c.self.view_is) (c.self.invariant.1 c.args.number c.index.result.now there.0)
