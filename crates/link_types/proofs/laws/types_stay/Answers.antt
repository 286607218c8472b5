use Rattle.link_types.proofs.TypesGrow.{func_stays, type_stays, extern_stays, instance_type_stays}
use Rattle.link_types.proofs.laws.types_stay.Goals as goal

pub returns : goal.returns
returns c = record { funcs = func_stays; types = type_stays; externs = extern_stays; instance_types = instance_type_stays }
