-- Fewer types are left.
use Rattle.std.proofs.Common.{length}
use Rattle.machine_tests.proofs.words.+are_words.Given as goal

abbrev pub decreases-are_words : goal.decreases-are_words
decreases-are_words l = length l.types.now
