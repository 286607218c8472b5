use Rattle.abi_machine.proofs.sound.typed.Going.{moves_are_typed, nested_moves_are_typed, callbacks_give_words, instances_are_makeable}
use Rattle.abi_machine.proofs.laws.typed_code_goes_on.Goals as goal

pub returns : goal.returns
returns c = record { moves = moves_are_typed; nested = nested_moves_are_typed; callbacks = callbacks_give_words; instances = instances_are_makeable }
