use Rattle.abi_machine.proofs.sound.planned.Given.{arguments_are_typed, result_is_typed, elements_are_typed, script_values_are_typed}
use Rattle.abi_machine.proofs.values.lifted_values_are_typed.Goals as goal

pub returns : goal.returns
returns c = record { arguments = arguments_are_typed; result = result_is_typed; elements = elements_are_typed; scripts = script_values_are_typed }
