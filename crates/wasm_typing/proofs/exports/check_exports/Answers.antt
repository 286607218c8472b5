use Rattle.std.proofs.Common.{◌<◌, length, arith}
use Rattle.std.proofs.lemmas.Result.{err_from_is_err_and}
use Rattle.wasm_typing.proofs.Names.{seen_wrong}
use Rattle.wasm_typing.proofs.exports.check_exports.Goals as goal

pub returns-in_err-check_export : goal.returns-in_err-check_export
returns-in_err-check_export c =
    let p = err_from_is_err_and c.from_residual.result c.from_residual.ensures.1 in
    let within : c.loop-number.number < length c.args.exports.now = omega arith in
    rw (p.1, p.2) (seen_wrong c.args.space.now c.args.exports.now _ _ _ c.in_err-check_export.field-0.0 c.loop-number.invariant.rest c.loop-number.invariant.seen within c.index-exports-number.is c.in_err-check_export.ensures.found)
