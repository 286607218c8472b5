use Rattle.link_spec.proofs.Excluding.{makes_excludes_reasons, begins_excludes_reasons, makes_excludes_begins}
use Rattle.link_spec.proofs.laws.items_make_or_are_refused.Goals as goal

pub returns : goal.returns
returns c = record { makes = makes_excludes_reasons; begins = begins_excludes_reasons; not_both = makes_excludes_begins }
