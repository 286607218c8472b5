-- The post-return runs behind what the task resolved to.
use Rattle.world_parts.specs.Held.{held}
use Rattle.value_parts.proofs.Chains.{may_go_on}
use Rattle.value_moves.specs.Resolving.{ResolvesEnded, PostReturnsTo}
use Rattle.value_moves.proofs.resolving.end_sync.Goals as goal

pub returns : goal.returns
returns c =
    may_go_on (ResolvesEnded c.args.program.now c.args.task c.args.words.now (held c.args.parts.now)) (λ done k e. PostReturnsTo c.args.program.now c.args.task c.args.post c.args.words.now k e) tt
    c.resolve_ended.new.parts c.settle.result c.settle.new.parts c.in_ok-resolve_ended.ensures c.settle.ensures
