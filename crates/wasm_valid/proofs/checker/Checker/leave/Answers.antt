use Rattle.std.proofs.Common.{sym}
use Rattle.wasm_valid.proofs.Stacks.{leaves}
use Rattle.wasm_valid.proofs.checker.Checker.leave.Goals as goal

pub returns : goal.returns
returns c = leaves _ _ _ _ _ _ (sym c.self.view_is) c.requires c.in-Some.ensures.items
