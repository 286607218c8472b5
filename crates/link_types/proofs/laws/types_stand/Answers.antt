use Rattle.std.proofs.lemmas.Option.{slice_get_within}
use Rattle.link_types.proofs.laws.types_stand.Goals as goal

pub returns : goal.returns
returns c = record {
  funcs = λ t ref type h. slice_get_within t.funcs ref.number type h.1;
  instance_types = λ t ref externs h. slice_get_within t.instances ref.number h.1.0 h.1.1;
}
