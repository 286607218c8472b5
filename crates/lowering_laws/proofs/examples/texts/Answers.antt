use Rattle.lowering_laws.proofs.TwoTexts.{text_beside, beside_is_apart, text_within, within_is_not_apart}
use Rattle.lowering_laws.proofs.examples.texts.Goals as goal

pub returns : goal.returns
returns c = record { beside = text_beside; apart = beside_is_apart; within = text_within; not_apart = within_is_not_apart }
