use Rattle.reach_laws.proofs.known.Copies.{reached_copies_are_known}
use Rattle.reach_laws.proofs.laws.copies_are_known.Goals as goal

pub returns : goal.returns
returns c = reached_copies_are_known
