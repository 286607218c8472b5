use Rattle.abi_machine.proofs.sound.worlds.Feeding.{typed_worlds_feed}
use Rattle.abi_machine.proofs.sound.worlds.Staying.{typed_worlds_stay}
use Rattle.abi_machine.proofs.values.typed_worlds_stay.Goals as goal

pub returns : goal.returns
returns c = record { stays = typed_worlds_stay; feeds = typed_worlds_feed }
