use Rattle.std.proofs.Common.{◌<◌, ◌+◌, length, subst, arith}
use Rattle.std.specs.Prelude.{List}
use Rattle.syntax_trees.specs.declared.instr.Op.{Op}
use Rattle.syntax_trees.specs.Expr.{flat}
use Rattle.wasm_valid.proofs.Driving.{stops, ends_all, more_code, op_in}
use Rattle.wasm_valid.proofs.walk.body_fault.Goals as goal

pub returns-in-Stops : goal.returns-in-Stops
returns-in-Stops c =
    let within : c.loop-at.at < length c.ops-ops.result.now = omega arith in
    let there : c.loop-at.at < length (flat c.args.body.now) = subst (λ (ops : List Op). c.loop-at.at < length ops) c.ops-ops.ensures within in
    stops _ _ _ _ _ _ _ _ _ c.loop-at.invariant there (op_in _ _ _ _ _ c.ops-ops.ensures c.index-ops-at.is) c.why-why.ensures (rw c.in-Stops.is at c.in_ok-step.ensures)

pub returns-in-Ends : goal.returns-in-Ends
returns-in-Ends c =
    let within : c.loop-at.at < length c.ops-ops.result.now = omega arith in
    let there : c.loop-at.at < length (flat c.args.body.now) = subst (λ (ops : List Op). c.loop-at.at < length ops) c.ops-ops.ensures within in
    let more : c.loop-at.at + 1 < length c.ops-ops.result.now = omega (arith, within, c.if-at-ops.false) in
    let behind : c.loop-at.at + 1 < length (flat c.args.body.now) = subst (λ (ops : List Op). c.loop-at.at + 1 < length ops) c.ops-ops.ensures more in
    more_code _ _ _ _ _ _ _
    (ends_all _ _ _ _ _ _ _ _ c.loop-at.invariant there (op_in _ _ _ _ _ c.ops-ops.ensures c.index-ops-at.is) (rw c.in-Ends.is at c.in_ok-step.ensures))
    behind (op_in _ _ _ _ _ c.ops-ops.ensures c.index-ops-at-in-Ends.is) c.why_behind-why.ensures
