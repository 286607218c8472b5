use Rattle.link_spec.proofs.Naming.{one_name, one_first}
use Rattle.link_spec.proofs.laws.items_have_one_reason.Goals as goal

pub returns : goal.returns
returns c = record { name = one_name; first = one_first }
