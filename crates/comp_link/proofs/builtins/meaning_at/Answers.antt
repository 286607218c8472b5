use Rattle.std.proofs.Common.{sym}
use Rattle.link_state.specs.State.{world_of}
use Rattle.comp_link.proofs.builtins.meaning_at.Goals as goal

pub returns-in-Plain-clause-means : goal.returns-in-Plain-clause-means
returns-in-Plain-clause-means c = λ bases l s at. rw c.in-Plain.is (c.plain_builtin.ensures c.args.linker.now.types.values)

pub returns-in-Context-clause-means : goal.returns-in-Context-clause-means
returns-in-Context-clause-means c = λ bases l s at. rw c.in-Context.is (c.context_builtin.ensures c.args.linker.now.types.values)

pub returns-in-Wait-clause-means : goal.returns-in-Wait-clause-means
returns-in-Wait-clause-means c = λ bases l s at.
    let k = c.args.linker.now in
    rw c.in-Wait.is (c.wait_at.ensures k.types.values k.types (world_of bases k) l c.args.n s (c.scope.ensures bases l s at))

pub returns-in-TaskReturn-clause-means : goal.returns-in-TaskReturn-clause-means
returns-in-TaskReturn-clause-means c = rw (c.in-TaskReturn.is, sym c.as_slice.ensures) c.return_at.ensures.means

pub returns-in-Resource-clause-means : goal.returns-in-Resource-clause-means
returns-in-Resource-clause-means c = rw c.in-Resource.is c.resource_at.ensures

pub returns-in-End-clause-means : goal.returns-in-End-clause-means
returns-in-End-clause-means c = rw c.in-End.is c.end_at.ensures
