use Rattle.link_spec.proofs.Sameness.{func_told, closed_told}
use Rattle.link_spec.proofs.Telling.{fits_told}
use Rattle.link_spec.proofs.laws.types_are_compared.Goals as goal

pub returns : goal.returns
returns c = record { funcs = func_told; closed = closed_told; fits = fits_told }
