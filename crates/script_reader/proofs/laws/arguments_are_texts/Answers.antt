use Rattle.value_reader.proofs.Wholes.{arguments_are_texts}
use Rattle.script_reader.proofs.laws.arguments_are_texts.Goals as goal

pub returns : goal.returns
returns c = arguments_are_texts
