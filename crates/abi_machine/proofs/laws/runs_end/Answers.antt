use Rattle.abi_machine.proofs.sound.RunsEnd.{units_rise, runs_end_so}
use Rattle.abi_machine.proofs.laws.runs_end.Goals as goal

pub returns : goal.returns
returns c = record { units = units_rise; ends = runs_end_so }
