use Rattle.run_laws.proofs.SuppliedWorlds.{worlds_are_supplied}
use Rattle.run_laws.proofs.knowing.worlds_are_supplied.Goals as goal

pub returns : goal.returns
returns c = worlds_are_supplied
