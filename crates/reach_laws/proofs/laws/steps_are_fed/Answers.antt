use Rattle.reach_laws.proofs.Told.{code_passes_words, reached_keep_words, stores_extend, reached_stand_inside, reached_answer_words, reached_put_inside}
use Rattle.reach_laws.proofs.laws.steps_are_fed.Goals as goal

pub returns : goal.returns
returns c = record { passes = code_passes_words; words = reached_keep_words; stores = stores_extend; copies = reached_stand_inside; answers = reached_answer_words; puts = reached_put_inside }
