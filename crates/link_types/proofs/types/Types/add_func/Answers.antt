use Rattle.std.proofs.Common.{◌++◌, ◌∷◌, [], ◌∙◌, List, ap, sym, subst}
use Rattle.syntax_trees.specs.declared.types.ValType.{ValType}
use Rattle.comp_graph.specs.declared.func_types.NumberedFunc.{NumberedFunc}
use Rattle.comp_graph.specs.Passed.{IsNumbered}
use Rattle.link_types.specs.Table.{Table}
use Rattle.link_types.proofs.TypesGrow.{funcs_grow}
use Rattle.link_types.proofs.TypesKept.{funcs_more, func_put}
use Rattle.link_types.proofs.types.Types.add_func.Goals as goal

pub invariant_of-self-2 : goal.invariant_of-self-2
invariant_of-self-2 c =
    let t : Table = record { texts = c.self.inside.names; values = c.self.inside.values; layers = c.self.inside.layers; funcs = c.self.inside.funcs.items; instances = c.self.inside.instances.items } in
    funcs_more c.self.inside.func_numbers c.self.inside.numbered.items c.push_reserved.new.self.items t c.push.new.self.items c.args.numbered c.args.func_type c.self.invariant c.in_ok-push.ensures.items
    (c.push_reserved.ensures.items ∙ ap (λ (fs : List NumberedFunc). fs ++ c.args.numbered ∷ []) c.reserve.ensures.items) c.requires.same (subst (λ (values : List ValType). IsNumbered values c.args.numbered) (ap (λ (t : Table). t.values) (sym c.self.view_is)) c.requires.passed)

pub returns-clause-ok : goal.returns-clause-ok
returns-clause-ok c = func_put c.push.new.self.items c.self.inside.funcs.items c.args.func_type c.len-number.result c.in_ok-push.ensures.items (c.len-number.ensures ∙ c.self.inside.funcs.ok.0)

pub returns-clause-grows : goal.returns-clause-grows
returns-clause-grows c =
    let t : Table = record { texts = c.self.inside.names; values = c.self.inside.values; layers = c.self.inside.layers; funcs = c.self.inside.funcs.items; instances = c.self.inside.instances.items } in
    rw (← c.self.view_is) (funcs_grow t c.push.new.self.items c.args.func_type c.in_ok-push.ensures.items)
