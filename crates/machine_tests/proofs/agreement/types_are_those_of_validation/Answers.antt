use Rattle.machine_tests.proofs.Agreeing.{numeric_agree, loads_agree, stores_agree}
use Rattle.machine_tests.proofs.agreement.types_are_those_of_validation.Goals as goal

pub returns-clause-numeric : goal.returns-clause-numeric
returns-clause-numeric c = numeric_agree

pub returns-clause-loads : goal.returns-clause-loads
returns-clause-loads c = loads_agree

pub returns-clause-stores : goal.returns-clause-stores
returns-clause-stores c = stores_agree
