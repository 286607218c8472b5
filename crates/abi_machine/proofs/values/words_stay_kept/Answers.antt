use Rattle.abi_machine.proofs.sound.words.Kept.{first_keeps_words, words_stay_kept, reached_keep_words}
use Rattle.abi_machine.proofs.values.words_stay_kept.Goals as goal

pub returns : goal.returns
returns c = record { first = first_keeps_words; stays = words_stay_kept; reached = reached_keep_words }
