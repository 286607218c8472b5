use Rattle.std.proofs.Common.{◌∙◌}
use Rattle.handle_table.proofs.Walking.{if_ok_more, shows_indices}
use Rattle.handle_table.proofs.table.Table.indices.Goals as goal

pub returns-clause-stands : goal.returns-clause-stands
returns-clause-stands g c = λ h st. if_ok_more c.walk.result _ _ (λ indices e. e ∙ shows_indices c.args.self.now.slots h st) c.walk.ensures
