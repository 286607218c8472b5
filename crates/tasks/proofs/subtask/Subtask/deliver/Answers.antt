use Rattle.std.proofs.Common.{sym, subst}
use Rattle.tasks.specs.Views.{SubtaskView}
use Rattle.tasks.specs.SubtaskHistory.{SubtaskStandsFor, and_step, IsTold}
use Rattle.tasks.proofs.SubtaskStanding.{delivered_stands}
use Rattle.tasks.proofs.subtask.Subtask.deliver.Goals as goal

pub returns-clause-stands : goal.returns-clause-stands
returns-clause-stands c = λ h s.
    subst (λ (v : SubtaskView). SubtaskStandsFor (and_step IsTold h) v) (sym c.tell.ensures) (delivered_stands h c.args.self.now s)
