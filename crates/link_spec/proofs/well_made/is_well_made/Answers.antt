use Rattle.std.proofs.Common.{◌∙◌, ap, map, List}
use Rattle.comp_tree.specs.declared.types.Field.{Field}
use Rattle.comp_tree.specs.declared.types.Case.{Case}
use Rattle.link_spec.specs.ValueTypes.{are_labels}
use Rattle.link_spec.proofs.well_made.is_well_made.Goals as goal

pub returns-in_ok-are_labels-in-Record : goal.returns-in_ok-are_labels-in-Record
returns-in_ok-are_labels-in-Record c =
    rw c.in-Record.is (c.in_ok-are_labels-in-Record.ensures ∙ ap (λ (fields : List Field). are_labels (map (λ f. f.label) fields)) c.as_slice.ensures)

pub returns-in_ok-are_labels-in-Variant : goal.returns-in_ok-are_labels-in-Variant
returns-in_ok-are_labels-in-Variant c =
    rw c.in-Variant.is (c.in_ok-are_labels-in-Variant.ensures ∙ ap (λ (cases : List Case). are_labels (map (λ k. k.label) cases)) c.as_slice-in-Variant.ensures)
