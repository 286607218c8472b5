-- The second store goes on from the first.
use Rattle.std.proofs.Common.{◌+◌}
use Rattle.std.specs.Int.{w32, to_le_bytes}
use Rattle.value_lower.specs.Plan.{Put}
use Rattle.value_lower.proofs.plain.put_pointed.Goals as goal

pub returns-clause-leads : goal.returns-clause-leads
returns-clause-leads g c = λ task types k came after f.
    c.put32.ensures.leads task types (Put (c.args.place + 4) (to_le_bytes w32 c.args.count) k) came after (c.put32-2.ensures.leads task types k came after f)
