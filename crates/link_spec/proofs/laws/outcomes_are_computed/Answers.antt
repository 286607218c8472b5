use Rattle.link_spec.proofs.Outcomes.{outcome_computed, reason_computed}
use Rattle.link_spec.proofs.laws.outcomes_are_computed.Goals as goal

pub returns : goal.returns
returns c = record { outcome = outcome_computed; reason = reason_computed }
