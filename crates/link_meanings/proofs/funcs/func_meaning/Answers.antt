use Rattle.std.specs.Option.{option_map}
use Rattle.comp_graph.specs.Closed.{Func}
use Rattle.link_spec.specs.Types.{meant, all_within, close_func}
use Rattle.link_meanings.specs.Levels.{enclosed_types}
use Rattle.link_meanings.proofs.Labelled.{func_stands}
use Rattle.link_meanings.proofs.Within.{absent_past, whole_within}
use Rattle.link_meanings.proofs.funcs.func_meaning.Goals as goal

pub returns-then-not-all_within-clause-ok : goal.returns-then-not-all_within-clause-ok
returns-then-not-all_within-clause-ok c = λ closed h.
    let type = c.args.func_type.now in
    let types = c.args.types.now in
    rw c.absent.ensures
    (absent_past types types (enclosed_types c.args.scope.now) closed (λ n. all_within n type) (meant (option_map Func (close_func closed type))) c.type_count.result c.all_within.result h c.type_count.ensures c.all_within.ensures
    c.if-not-all_within.true)

pub returns-clause-ok : goal.returns-clause-ok
returns-clause-ok c = λ closed h.
    let type = c.args.func_type.now in
    let means = option_map Func (close_func closed type) in
    rw c.there.ensures
    (whole_within c.args.types.now c.closed_func.new.types (enclosed_types c.args.scope.now) closed (λ n. all_within n type) (meant means) c.type_count.result c.all_within.result h c.type_count.ensures c.all_within.ensures
    c.if-not-all_within.false _ (func_stands c.closed_func.new.types c.in_ok-means.means means (c.in_ok-means.ensures.ok closed h)))
