use Rattle.link_spec.proofs.Fitting.{all_fit_lacks}
use Rattle.link_instances.proofs.Views.{lacking_listed, fit_listed}
use Rattle.link_instances.proofs.laws.types_ask_in_order.Goals as goal

pub returns : goal.returns
returns c = record { lacking = lacking_listed; fit = fit_listed; none = all_fit_lacks }
