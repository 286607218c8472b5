use Rattle.abi_machine.proofs.sound.planned.Given.{arguments_are_taken, result_is_taken, elements_are_taken, plans_settle}
use Rattle.abi_machine.proofs.values.plans_give_words.Goals as goal

pub returns : goal.returns
returns c = record { arguments = arguments_are_taken; result = result_is_taken; elements = elements_are_taken; settles = plans_settle }
