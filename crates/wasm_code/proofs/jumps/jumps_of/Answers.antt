use Rattle.std.proofs.Common.{◌≡◌, ◌-◌, ◌<◌, suc, length, arith, rules, sym, ◌∙◌}
use Rattle.wasm_code.proofs.Jumping.{at_end, op_read, one_jump, no_jump}
use Rattle.wasm_code.proofs.jumps.jumps_of.Goals as goal

pub loop-at-init : goal.loop-at-init
loop-at-init c =
    let long : length c.in_ok-jumps.jumps.items ≡ length c.ops-ops.result.now = search rules in
    at_end c.args.body.now c.ops-ops.result.now _ _ c.ops-ops.ensures c.new-ends.ensures.items long

pub loop-at-preserved-in-Some : goal.loop-at-preserved-in-Some
loop-at-preserved-in-Some c =
    let before : c.loop-at.at ≡ suc (c.loop-at.at - 1) = omega arith in
    let inside : c.loop-at.at - 1 < length c.ops-ops.result.now = search rules in
    let here = op_read c.args.body.now c.ops-ops.result.now (c.loop-at.at - 1) _ c.ops-ops.ensures inside c.index-ops-at.is in
    one_jump _ _ _ _ _ _ _ _ c.loop-at.invariant before here (sym c.in-Some.is ∙ c.in_ok-jump.ensures.jump) c.in_ok-jump.ensures.ends

pub loop-at-preserved : goal.loop-at-preserved
loop-at-preserved c =
    let before : c.loop-at.at ≡ suc (c.loop-at.at - 1) = omega arith in
    let inside : c.loop-at.at - 1 < length c.ops-ops.result.now = search rules in
    let here = op_read c.args.body.now c.ops-ops.result.now (c.loop-at.at - 1) _ c.ops-ops.ensures inside c.index-ops-at.is in
    no_jump _ _ _ _ _ _ _ c.loop-at.invariant before here (sym c.in_default.is ∙ c.in_ok-jump.ensures.jump) c.in_ok-jump.ensures.ends
