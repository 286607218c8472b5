use Rattle.value_lift.proofs.Unlisted.{loads_plain, lists_plain, words_plain}
use Rattle.value_lift.proofs.laws.what_is_listed_is_plain.Goals as goal

pub returns-clause-loads : goal.returns-clause-loads
returns-clause-loads c = loads_plain

pub returns-clause-lists : goal.returns-clause-lists
returns-clause-lists c = lists_plain

pub returns-clause-words : goal.returns-clause-words
returns-clause-words c = words_plain
