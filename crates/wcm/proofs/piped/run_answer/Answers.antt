use Rattle.std.proofs.Common.{rules}
use Rattle.wcm.proofs.RunRows.{program_fits}
use Rattle.wcm.proofs.Requests.{piped_row, run_answered}
use Rattle.wcm.proofs.piped.run_answer.Goals as goal

pub runs_step_on-requires-clause-valid : goal.runs_step_on-requires-clause-valid
runs_step_on-requires-clause-valid c =
    program_fits c.read_modules_are_typed.ensures c.graphs_are_sound.ensures.modules c.args.graph.now c.args.script.now c.in_ok-program.program c.requires.linked
    c.in_ok-program.ensures

pub returns-clause-answers : goal.returns-clause-answers
returns-clause-answers c = λ count.
    piped_row c.read_runs_fit.ensures c.runs_are_of_machine.ensures.lines c.args.component.now c.args.graph.now c.args.script.now c.in_ok-program.program c.args.seed count
    c.in_ok-told.told.end c.in_ok-told.told.text _ c.requires.linked c.requires.said c.in_ok-program.ensures c.in_ok-told.ensures (search rules)

pub returns-clause-status : goal.returns-clause-status
returns-clause-status c = run_answered c.in_ok-told.told.end c.status_of_end.result c.status_of_end.ensures
