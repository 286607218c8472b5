use Rattle.machine_runs.proofs.fit.Steps.{steps_on}
use Rattle.machine_runs.proofs.laws.runs_step_on.Goals as goal

pub returns : goal.returns
returns g c = steps_on g.V.PassesValues.may_pass c.args.program.now c.args.program.now.graph.now c.args.program.now.script.now c.requires.valid c.requires.fit
