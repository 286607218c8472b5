use Rattle.abi_machine.proofs.sound.answers.Answered.{answers_are_words}
use Rattle.abi_machine.proofs.laws.answers_are_words.Goals as goal

pub returns : goal.returns
returns c = answers_are_words
