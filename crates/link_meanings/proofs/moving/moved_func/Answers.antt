use Rattle.std.proofs.Common.{◌∙◌, sym}
use Rattle.comp_graph.specs.Closed.{Func}
use Rattle.link_meanings.proofs.MovedRefs.{func_as_it_is}
use Rattle.link_meanings.proofs.moving.moved_func.Goals as goal

pub returns-then-not-names_resource-clause-ok : goal.returns-then-not-names_resource-clause-ok
returns-then-not-names_resource-clause-ok c = λ type k.
    func_as_it_is c.args.types.now c.args.change c.args.depth c.args.func_type type (sym (c.names_resource.ensures (Func type) k) ∙ c.if-not-names_resource.true) k
