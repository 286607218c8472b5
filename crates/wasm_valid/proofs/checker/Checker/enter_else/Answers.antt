use Rattle.std.proofs.Common.{sym, ap, ◌∙◌}
use Rattle.wasm_typing.specs.Context.{params}
use Rattle.wasm_valid.proofs.Ending.{else_stops, none_left, else_goes}
use Rattle.wasm_valid.proofs.checker.Checker.enter_else.Goals as goal

pub returns-then-not-finish : goal.returns-then-not-finish
returns-then-not-finish c = else_stops c.args.context.now c.args.self.now c.finish.new.self c.finish.new.self (sym c.in-If.ensures) c.if-not-finish.ensures

pub begin_second-requires : goal.begin_second-requires
begin_second-requires c = none_left _ _ _ c.if-not-finish.ensures

pub returns : goal.returns
returns c =
    else_goes c.args.context.now c.args.self.now c.finish.new.self c.begin_second.new.self c.push_all.new.self c.params-params.result.now
    (sym c.in-If.ensures) c.if-not-finish.ensures c.begin_second.ensures (c.params-params.ensures ∙ ap (params c.args.context.now.types) c.block_type.ensures) c.in_ok-push_all.ensures
