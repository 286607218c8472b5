use Rattle.std.proofs.Common.{subst, sym}
use Rattle.syntax_trees.specs.declared.types.FuncType.{FuncType}
use Rattle.comp_graph.specs.declared.func_types.NumberedFunc.{NumberedFunc}
use Rattle.comp_graph.specs.Passed.{IsNumbered}
use Rattle.link_types.specs.Labels.{IsFuncOf}
use Rattle.link_types.proofs.TypesGrow.{grows_trans}
use Rattle.link_types.proofs.ValuesStay.{values_stay, func_of_stood}
use Rattle.link_types.proofs.types.Types.make_func.Goals as goal

pub closed_func-requires : goal.closed_func-requires
closed_func-requires c = values_stay c.args.self.now c.params_type.new.self c.params_type.ensures.grows c.args.params.now c.args.returned c.requires

pub add_func-requires-clause-passed : goal.add_func-requires-clause-passed
add_func-requires-clause-passed c =
    let made : FuncType = c.in_ok-func_type.func_type in
    let now : IsFuncOf c.params_type.new.self.values c.args.params.now c.args.returned made = c.in_ok-func_type.ensures in
    let stood = func_of_stood c.args.self.now c.params_type.new.self c.params_type.ensures.grows c.args.params.now c.args.returned made c.requires now in
    subst (λ (f : NumberedFunc). IsNumbered c.params_type.new.self.values f) (sym c.in_ok-numbered.ensures) (record { params = c.in_ok-passed.ensures.ok made stood.0; returned = now.1 })

pub returns-in_err-number-clause-grows : goal.returns-in_err-number-clause-grows
returns-in_err-number-clause-grows c = grows_trans c.args.self.now c.params_type.new.self c.add_func.new.self c.params_type.ensures.grows c.add_func.ensures.grows

pub returns-clause-ok : goal.returns-clause-ok
returns-clause-ok c =
    let made : FuncType = c.in_ok-func_type.func_type in
    let now : IsFuncOf c.params_type.new.self.values c.args.params.now c.args.returned made = c.in_ok-func_type.ensures in
    (made, func_of_stood c.args.self.now c.params_type.new.self c.params_type.ensures.grows c.args.params.now c.args.returned made c.requires now, c.in_ok-number.ensures.ok)

pub returns-clause-grows : goal.returns-clause-grows
returns-clause-grows c = grows_trans c.args.self.now c.params_type.new.self c.add_func.new.self c.params_type.ensures.grows c.add_func.ensures.grows
