-- The place among the cases is that of the label.
use Rattle.std.proofs.Common.{◌∙◌, sym}
use Rattle.value_reader.proofs.Chosen.{place_by_label}
use Rattle.value_reader.proofs.values.place_of_case.Goals as goal

pub returns : goal.returns
returns c = c.first_labelled.ensures ∙ sym (place_by_label c.args.label.now c.args.cases.now)
