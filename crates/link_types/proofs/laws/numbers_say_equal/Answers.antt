use Rattle.link_types.proofs.LayersTold.{type_one, type_told}
use Rattle.link_types.proofs.laws.numbers_say_equal.Goals as goal

pub returns : goal.returns
returns c = record { layer = λ texts values layers d. type_one texts values layers d.names d.values d.parts; closed = type_told }
