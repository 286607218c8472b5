use Rattle.link_values.proofs.NumbersTold.{equal_by_number}
use Rattle.link_values.proofs.laws.numbers_say_equal.Goals as goal

pub returns : goal.returns
returns c = equal_by_number
