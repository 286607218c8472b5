use Rattle.link_state.proofs.States.{scope_is}
use Rattle.link_state.proofs.linker.Linker.scope.Goals as goal

pub returns : goal.returns
returns c bases l s at = scope_is bases c.args.self.now c.args.n l s c.index.result.now c.index.ensures c.requires at
