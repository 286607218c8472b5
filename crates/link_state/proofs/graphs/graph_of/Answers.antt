use Rattle.std.proofs.Common.{◌∙◌, rules, ap}
use Rattle.comp_graph.specs.Graph.{Graph}
use Rattle.canon_types.proofs.EndsOnce.{types_told}
use Rattle.link_state.proofs.Calling.{graph_told}
use Rattle.link_state.proofs.graphs.graph_of.Goals as goal

pub new-requires-clause-canon_types : goal.new-requires-clause-canon_types
new-requires-clause-canon_types c = rw (c.into_func_types.ensures, c.from_vec.ensures, c.from_vec-5.ensures) c.requires.typed

pub new-requires-clause-export_types : goal.new-requires-clause-export_types
new-requires-clause-export_types c = rw (c.into_func_types.ensures, c.from_vec-2.ensures, c.from_vec-7.ensures) c.in_ok-funcs.ensures.typed

pub returns : goal.returns
returns c = λ l stands.
    let k = c.args.linker in
    graph_told k l c.new.result stands
    (search (rules, c.new.ensures, c.from_vec-4.ensures))
    (search (rules, c.new.ensures, c.in_ok-count.ensures, c.len.ensures))
    (search (rules, c.new.ensures, c.into_makes.ensures))
    (search (rules, c.new.ensures, c.from_vec-5.ensures))
    (search (rules, c.new.ensures, c.from_vec-6.ensures))
    (ap (λ (g : Graph). g.exports) c.new.ensures ∙ c.from_vec-7.ensures ∙ c.in_ok-funcs.ensures.exports l stands)
    (ap (λ (g : Graph). g.lifts) c.new.ensures ∙ c.from_vec-8.ensures ∙ c.in_ok-funcs.ensures.lifts l stands)
    (ap (λ (g : Graph). g.end_types) c.new.ensures ∙ rw (c.into_func_types.ensures, c.from_vec-3.ensures, c.into_numbers.ensures) (types_told k.types.values k.end_types l.end_types stands.1.ends))
