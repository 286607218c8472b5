use Rattle.standing.proofs.Channels.{channels_are_alike, channels_are_made, channels_change}
use Rattle.standing.proofs.ends.channels_stand.Goals as goal

pub returns : goal.returns
returns c = record { found = channels_are_alike; made = channels_are_made; changed = channels_change }
