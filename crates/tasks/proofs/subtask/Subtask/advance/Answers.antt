use Rattle.std.proofs.Common.{sym, subst}
use Rattle.tasks.specs.SubtaskHistory.{Rises, SubtaskStandsFor, and_step}
use Rattle.tasks.specs.Views.{SubtaskView}
use Rattle.tasks.proofs.SubtaskStanding.{raised_stands}
use Rattle.tasks.proofs.subtask.Subtask.advance.Goals as goal

pub returns-clause-stands : goal.returns-clause-stands
returns-clause-stands c = λ h s.
    subst (λ (v : SubtaskView). SubtaskStandsFor (and_step (Rises c.args.state) h) v) (sym c.raise.ensures) (raised_stands c.args.state h c.args.self.now c.requires s)
