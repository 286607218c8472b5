use Rattle.std.proofs.Common.{ap}
use Rattle.comp_graph.specs.Passed.{TypeTable}
use Rattle.comp_graph.proofs.FuncsPassed.{func_read, passed_of}
use Rattle.comp_graph.proofs.func_types.FuncTypes.passed.Goals as goal

pub passed_types-requires : goal.passed_types-requires
passed_types-requires c =
    c.self.invariant.1 c.args.number c.index.result.now (func_read c.self.inside.funcs.items c.args.self.now.funcs c.args.number c.index.result.now (ap (λ (t : TypeTable). t.funcs) c.self.view_is) c.requires c.index.ensures).0

pub returns : goal.returns
returns c =
    let there = func_read c.self.inside.funcs.items c.args.self.now.funcs c.args.number c.index.result.now (ap (λ (t : TypeTable). t.funcs) c.self.view_is) c.requires c.index.ensures in
    passed_of c.args.self.now.funcs c.args.number c.index.result.now.func_type c.passed_types.result there.1 c.passed_types.ensures
