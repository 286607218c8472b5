use Rattle.std.proofs.Common.{sym, ap, ◌∙◌}
use Rattle.wasm_typing.specs.Context.{results}
use Rattle.wasm_valid.proofs.Ending.{close_stops, none_left, close_ends, close_goes}
use Rattle.wasm_valid.proofs.checker.Checker.close.Goals as goal

pub returns-then-not-finish : goal.returns-then-not-finish
returns-then-not-finish c = close_stops c.args.context.now c.args.self.now c.finish.new.self c.finish.new.self (sym c.if-not-may_end.ensures) c.if-not-finish.ensures

pub leave-requires : goal.leave-requires
leave-requires c = none_left _ _ _ c.if-not-finish.ensures

pub returns-then-not-leave : goal.returns-then-not-leave
returns-then-not-leave c =
    close_ends c.args.context.now c.args.self.now c.finish.new.self c.leave.new.self c.leave.new.self (sym c.if-not-may_end.ensures) c.if-not-finish.ensures c.if-not-leave.ensures

pub returns : goal.returns
returns c =
    close_goes c.args.context.now c.args.self.now c.finish.new.self c.leave.new.self c.push_all.new.self c.results-results.result.now (sym c.if-not-may_end.ensures) c.if-not-finish.ensures
    c.if-not-leave.ensures (c.results-results.ensures ∙ ap (results c.args.context.now.types) c.block_type.ensures) c.in_ok-push_all.ensures
