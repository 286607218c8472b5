use Rattle.waitables.proofs.Histories.{members_append}
use Rattle.waitables.proofs.laws.members_keep_their_order.Goals as goal

pub returns : goal.returns
returns c = members_append
