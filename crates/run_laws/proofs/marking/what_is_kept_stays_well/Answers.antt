-- What is kept stays well.
use Rattle.run_laws.proofs.well.Woken.{first_well, moves_well, events_well, tasks_well, script_well, back_unawaited}
use Rattle.run_laws.proofs.well.Ending.{passings_keep_well}
use Rattle.run_laws.proofs.marking.what_is_kept_stays_well.Goals as goal

pub returns : goal.returns
returns c = record { first = first_well; moves = moves_well; events = events_well; tasks = tasks_well; script = script_well; passings = passings_keep_well; back = back_unawaited }
