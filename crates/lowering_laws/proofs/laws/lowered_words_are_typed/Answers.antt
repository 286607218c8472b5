use Rattle.lowering_laws.proofs.Widths.{lowered_words_are_typed, placed_words_are_typed}
use Rattle.lowering_laws.proofs.laws.lowered_words_are_typed.Goals as goal

pub returns : goal.returns
returns c = record { flat = lowered_words_are_typed; placed = placed_words_are_typed }
