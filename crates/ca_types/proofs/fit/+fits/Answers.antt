-- Lists of other lengths, and the case that a variant tells.
use Rattle.std.proofs.Common.{◌≡◌, ◌∙◌, ap, sym, Some, None}
use Rattle.std.specs.List.{slice_get}
use Rattle.syntax_trees.specs.declared.types.Field.{Field}
use Rattle.syntax_trees.specs.Fits.{test_of}
use Rattle.syntax_trees.proofs.FitsEquations.{passes_no_other_count, fits_variant, passes_case, passes_no_case}
use Rattle.ca_types.proofs.fit.+fits.Goals as goal

pub fields_fit-returns-then-values-fields : goal.fields_fit-returns-then-values-fields
fields_fit-returns-then-values-fields t c = sym (passes_no_other_count (λ (f : Field). test_of f.val_type) c.args.fields.now c.args.values.now c.if-values-fields.true)

pub parts_fit-returns-then-values-parts : goal.parts_fit-returns-then-values-parts
parts_fit-returns-then-values-parts t c = sym (passes_no_other_count test_of c.args.parts.now c.args.values.now c.if-values-parts.true)

pub fits-returns-in-Some : goal.fits-returns-in-Some
fits-returns-in-Some t c =
    let h : slice_get c.in-Variant.cases c.in-Variant-value.case ≡ Some c.in-Some.case.now =
    sym (ap (λ cs. slice_get cs c.in-Variant-value.case) c.as_slice-in-Variant-value.ensures) ∙ c.in-Some.ensures in
    c.payload_fits.ensures
    ∙ sym (fits_variant c.args.val_type.now c.args.value.now c.in-Variant.cases c.in-Variant-value.case c.in-Variant-value.payload c.in-Variant.is c.in-Variant-value.is
    ∙ passes_case c.in-Variant.cases c.in-Variant-value.case c.in-Variant-value.payload c.in-Some.case.now h)

pub fits-returns-in-None : goal.fits-returns-in-None
fits-returns-in-None t c =
    let h : slice_get c.in-Variant.cases c.in-Variant-value.case ≡ None =
    sym (ap (λ cs. slice_get cs c.in-Variant-value.case) c.as_slice-in-Variant-value.ensures) ∙ c.in-None.ensures in
    sym (fits_variant c.args.val_type.now c.args.value.now c.in-Variant.cases c.in-Variant-value.case c.in-Variant-value.payload c.in-Variant.is c.in-Variant-value.is
    ∙ passes_no_case c.in-Variant.cases c.in-Variant-value.case c.in-Variant-value.payload h)
