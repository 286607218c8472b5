use Rattle.std.proofs.Common.{refl}
use Rattle.canon_types.proofs.builtins.plain_builtin.Goals as goal

pub returns : goal.returns
returns c = λ values. record { is_there = refl; means = refl; serves = refl; built = record { typed = c.plain_type.ensures; passes = tt } }
