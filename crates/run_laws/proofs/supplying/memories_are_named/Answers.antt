use Rattle.run_laws.proofs.supplied.Memories.{memories_are_named}
use Rattle.run_laws.proofs.supplying.memories_are_named.Goals as goal

pub returns : goal.returns
returns c = memories_are_named
