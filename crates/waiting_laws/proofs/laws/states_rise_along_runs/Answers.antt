use Rattle.waiting_laws.proofs.Telling.{states_rise_along, first_told_once, first_told_in_a_step, leaves_when_told}
use Rattle.waiting_laws.proofs.Dropping.{drops_what_was_told}
use Rattle.waiting_laws.proofs.Staying.{telling_takes_none_out}
use Rattle.waiting_laws.proofs.laws.states_rise_along_runs.Goals as goal

pub returns : goal.returns
returns c = record { rises = states_rise_along; once = first_told_once; first = first_told_in_a_step; leaves = leaves_when_told; drops = drops_what_was_told; tells = telling_takes_none_out }
