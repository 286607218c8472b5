use Rattle.std.proofs.Common.{◌∙◌, ap, sym, map, List}
use Rattle.std.specs.Prelude.{is_none}
use Rattle.syntax_trees.specs.Names.{first_twice}
use Rattle.comp_tree.specs.declared.types.Param as read_param
use Rattle.link_spec.specs.Types.{close_params}
use Rattle.link_types.proofs.ValuesStay.{have_types_stay}
use Rattle.link_meanings.specs.Levels.{enclosed_types}
use Rattle.link_meanings.proofs.Growing.{types_stay}
use Rattle.link_meanings.proofs.Labelled.{params_open, returned_open, func_closed}
use Rattle.link_meanings.proofs.funcs.closed_func.Goals as goal

pub returns-in_default-clause-ok : goal.returns-in_default-clause-ok
returns-in_default-clause-ok c = λ closed h.
    let params = rw c.in_default.is at (c.in_ok-params.ensures.ok closed h) in
    params_open closed c.args.func_type.now (ap (close_params closed) (sym c.as_slice-2.ensures) ∙ params)

pub func_type-requires : goal.func_type-requires
func_type-requires c =
    let params = rw c.in-Some.is at c.in_ok-params.ensures.there in
    let returned = rw c.in-Some-2.is at c.in_ok-returned.ensures.there in
    rw c.deref.ensures.value (have_types_stay c.all_labelled.new.types c.passed_of.new.types c.passed_of.ensures.grows c.in-Some.params.items params, returned)

pub returns-in_default-2-clause-ok : goal.returns-in_default-2-clause-ok
returns-in_default-2-clause-ok c = λ closed h.
    let stays = types_stay c.args.types.now c.all_labelled.new.types c.all_labelled.ensures.grows (enclosed_types c.args.scope.now) closed h in
    returned_open closed c.args.func_type.now (rw c.in_default-2.is at (c.in_ok-returned.ensures.ok closed stays))

pub returns-clause-ok : goal.returns-clause-ok
returns-clause-ok c = λ closed h.
    let type = c.args.func_type.now in
    let stays = types_stay c.args.types.now c.all_labelled.new.types c.all_labelled.ensures.grows (enclosed_types c.args.scope.now) closed h in
    let params = rw c.in-Some.is at (c.in_ok-params.ensures.ok closed h) in
    let returned = rw c.in-Some-2.is at (c.in_ok-returned.ensures.ok closed stays) in
    func_closed c.all_labelled.new.types c.passed_of.new.types c.func_type.new.self closed type c.in_ok-distinct.distinct c.in-Some.params.items c.in-Some-2.returned c.in_ok-func_type.func_type
    c.passed_of.ensures.grows (c.in_ok-distinct.ensures ∙ ap (λ (ps : List read_param.Param). is_none (first_twice (map (λ p. p.label) ps))) c.as_slice.ensures)
    c.if-not-distinct.false (params.0, ap (close_params closed) (sym c.as_slice-2.ensures) ∙ params.1, params.2) returned (rw c.deref.ensures.value at c.in_ok-func_type.ensures.ok)
