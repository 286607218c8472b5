use Rattle.graph_laws.proofs.Bytes.{are_bytes}
use Rattle.graph_laws.proofs.laws.files_are_bytes.Goals as goal

pub returns : goal.returns
returns c = are_bytes c.args.file.now (λ i. (c.type_inv.file i).fits)
