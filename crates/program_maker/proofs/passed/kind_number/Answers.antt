use Rattle.program_maker.proofs.NumbersPassed.{ends_pass}
use Rattle.program_maker.proofs.passed.kind_number.Goals as goal

pub returns-in-End : goal.returns-in-End
returns-in-End c = ends_pass c.args.types.now c.args.number c.element_number.result c.args.kind.now c.in-End.kind c.in-End.element c.in-End.op c.requires c.in-End.is c.element_number.ensures
