use Rattle.std.proofs.Common.{◌∙◌, sym}
use Rattle.canon_types.proofs.ElementsRead.{stream_read, no_stream}
use Rattle.canon_types.proofs.elements.stream_elements.Goals as goal

pub returns-in-Stream : goal.returns-in-Stream
returns-in-Stream c = stream_read c.args.ends.now c.in-Stream.field-0 c.part.result (sym c.val_type.ensures ∙ c.in-Stream.is) c.part.ensures

pub returns-in_default : goal.returns-in_default
returns-in_default c = no_stream c.args.ends.now (λ e h. c.in_default.not-Stream e (c.val_type.ensures ∙ h))
