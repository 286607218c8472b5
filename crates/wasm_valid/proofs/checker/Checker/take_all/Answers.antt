use Rattle.std.proofs.Common.{sym}
use Rattle.wasm_valid.proofs.Accepting.{taken_off}
use Rattle.wasm_valid.proofs.checker.Checker.take_all.Goals as goal

pub returns : goal.returns
returns c =
    taken_off c.self.inside.top c.self.inside.around.items c.self.inside.operands.items c.truncate.new.self.items c.args.self.now c.args.wanted.now _ _
    (sym c.self.view_is) c.self.invariant.0 c.known_len.ensures c.saturating_sub-left.ensures c.truncate.ensures.items (sym c.if-not-accepts.ensures)
