use Rattle.abi_machine.proofs.sound.Joined.{first_has_members, members_stay}
use Rattle.abi_machine.proofs.laws.members_stay.Goals as goal

pub returns : goal.returns
returns c = record { first = first_has_members; stays = members_stay }
