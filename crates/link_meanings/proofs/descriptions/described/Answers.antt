use Rattle.std.proofs.Common.{◌∙◌, sym}
use Rattle.link_meanings.proofs.ExternsMeant.{described_nothing}
use Rattle.link_meanings.proofs.descriptions.described.Goals as goal

pub returns-in-None : goal.returns-in-None
returns-in-None c = λ t closed h. rw c.there.ensures (described_nothing t closed c.args.desc (sym c.desc_index.ensures ∙ c.in-None.is))
