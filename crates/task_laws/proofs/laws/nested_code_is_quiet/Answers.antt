use Rattle.task_laws.proofs.Quiet.{nested_steps_are_quiet, nested_ends_want_fuel, nested_runs_are_quiet}
use Rattle.task_laws.proofs.laws.nested_code_is_quiet.Goals as goal

pub returns : goal.returns
returns c = record { steps = nested_steps_are_quiet; ends = nested_ends_want_fuel; runs = nested_runs_are_quiet }
