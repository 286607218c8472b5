use Rattle.std.proofs.Common.{◌∙◌, sym}
use Rattle.canon_types.proofs.ElementsRead.{future_read, no_future}
use Rattle.canon_types.proofs.elements.future_elements.Goals as goal

pub returns-in-Future : goal.returns-in-Future
returns-in-Future c = future_read c.args.ends.now c.in-Future.field-0 c.part.result (sym c.val_type.ensures ∙ c.in-Future.is) c.part.ensures

pub returns-in_default : goal.returns-in_default
returns-in_default c = no_future c.args.ends.now (λ e h. c.in_default.not-Future e (c.val_type.ensures ∙ h))
