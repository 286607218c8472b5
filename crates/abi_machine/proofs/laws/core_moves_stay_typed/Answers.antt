use Rattle.abi_machine.proofs.sound.typed.Instantiating.{instantiation_stays_typed}
use Rattle.abi_machine.proofs.sound.TypedMoves.{first_typed, moves_stay_typed, nested_moves_stay_typed, answers_are_typed, stand_later}
use Rattle.abi_machine.proofs.laws.core_moves_stay_typed.Goals as goal

pub returns : goal.returns
returns c = record { first = first_typed; instances = instantiation_stays_typed; moves = moves_stay_typed; nested = nested_moves_stay_typed; answers = answers_are_typed; later = stand_later }
