use Rattle.std.proofs.Common.{sym, subst}
use Rattle.comp_graph.specs.Graph.{Graph}
use Rattle.machine_runs.specs.Fit.{ModulesFit}
use Rattle.run_tests.proofs.answers.script_run.Goals as goal

pub runs_step_on-requires-clause-valid : goal.runs_step_on-requires-clause-valid
runs_step_on-requires-clause-valid c = subst (λ (h : Graph). ModulesFit h) (sym c.in_ok-program.ensures.graph) c.requires.fit
