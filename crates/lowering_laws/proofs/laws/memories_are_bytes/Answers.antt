use Rattle.lowering_laws.proofs.Bytes.{are_bytes}
use Rattle.lowering_laws.proofs.laws.memories_are_bytes.Goals as goal

pub returns : goal.returns
returns c = are_bytes c.args.memory.now (λ i. (c.type_inv.memory i).fits)
