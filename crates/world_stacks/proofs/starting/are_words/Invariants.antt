-- The words fit where those that are left do.
use Rattle.std.proofs.Common.{◌≡◌, drop}
use Rattle.world_stacks.specs.Starting.{are_words}
use Rattle.world_stacks.proofs.starting.are_words.Given as goal

abbrev pub invariant-loop-at : goal.invariant-loop-at
invariant-loop-at l = are_words l.types l.words ≡ are_words (drop l.at l.types) (drop l.at l.words)
