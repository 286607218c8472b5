use Rattle.std.proofs.Common.{◌∙◌, sym, ap, subst, List, ℕ}
use Rattle.tasks.specs.Views.{SubtaskView}
use Rattle.tasks.specs.Subtasks.{with_lend}
use Rattle.tasks.specs.SubtaskHistory.{SubtaskStandsFor, and_step, Lends}
use Rattle.tasks.proofs.SubtaskStanding.{lent_stands}
use Rattle.tasks.proofs.subtask.Subtask.add_lend.Goals as goal

pub returns-clause-stands : goal.returns-clause-stands
returns-clause-stands c = λ h s.
    subst (λ (v : SubtaskView). SubtaskStandsFor (and_step (Lends c.args.handle) h) v)
    (sym (ap (λ (xs : List ℕ). (let v : SubtaskView = record { callee = c.self.inside.callee; state = c.self.inside.state; told = c.self.inside.told; lends = xs } in v)) c.in_ok-push.ensures.ok ∙ ap (with_lend c.args.handle) c.self.view_is))
    (lent_stands c.args.handle h c.args.self.now c.requires s)
