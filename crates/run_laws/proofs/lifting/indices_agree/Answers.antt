use Rattle.run_laws.proofs.Taking.{views_are_alike, end_types_are_alike, handle_leaves, end_leaves, handle_is_lent}
use Rattle.run_laws.proofs.lifting.indices_agree.Goals as goal

pub returns : goal.returns
returns c = record { views = views_are_alike; ends = end_types_are_alike; handle = handle_leaves; end = end_leaves; lent = handle_is_lent }
