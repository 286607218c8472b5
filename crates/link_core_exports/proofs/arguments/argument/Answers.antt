use Rattle.std.proofs.Common.{sym}
use Rattle.link_core_exports.proofs.Passed.{named_some}
use Rattle.link_core_exports.proofs.arguments.argument.Goals as goal

pub returns : goal.returns
returns c = rw (named_some c.args.instances.now c.args.name.now c.args.arguments.now c.in_ok-instance.field-0 (sym c.in_ok-instance.ensures)) c.exports_at.ensures
