use Rattle.link_spec.proofs.Following.{one_linking, links_excludes_faults, one_fault}
use Rattle.link_spec.proofs.laws.items_lead_to_one_linking.Goals as goal

pub returns : goal.returns
returns c = record { linking = one_linking; not_both = links_excludes_faults; fault = one_fault }
