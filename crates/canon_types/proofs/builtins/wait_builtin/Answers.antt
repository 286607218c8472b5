use Rattle.std.proofs.Common.{refl}
use Rattle.canon_types.proofs.builtins.wait_builtin.Goals as goal

pub returns : goal.returns
returns c = λ values. record { is_there = refl; means = c.waiting_in.ensures.kind; serves = refl; built = c.waiting_in.ensures.built values }
