use Rattle.abi_machine.proofs.sound.Fitted.{first_fits, calls_stay_fit, copies_stay_fit}
use Rattle.abi_machine.proofs.laws.calls_stay_fit.Goals as goal

pub returns : goal.returns
returns c = record { first = first_fits; calls = calls_stay_fit; copies = copies_stay_fit }
